use Rattle.std.proofs.Common.{take}
use Rattle.std.specs.Fmt.{HasWritten, IsPlainFormatter}
use Rattle.print.specs.Messages.{member_text}
use Rattle.print.specs.Rows.{rows}
use Rattle.print.proofs.entry_lines.MembersTextDisplay.fmt.Given as goal

abbrev pub invariant-loop-i : goal.invariant-loop-i
invariant-loop-i g l =
    IsPlainFormatter l.initial.f → HasWritten g.W.Write.write_str_gives l.initial.f (rows member_text 0 (take l.i l.station-items)) l.f
