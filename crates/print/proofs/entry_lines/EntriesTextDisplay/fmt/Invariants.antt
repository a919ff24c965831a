use Rattle.wire.specs.Several.{joined}
use Rattle.std.proofs.Common.{take}
use Rattle.std.specs.Fmt.{HasWritten, IsPlainFormatter}
use Rattle.print.specs.Messages.{entry_text}
use Rattle.print.proofs.entry_lines.EntriesTextDisplay.fmt.Given as goal

abbrev pub invariant-loop-entry : goal.invariant-loop-entry
invariant-loop-entry g l =
    IsPlainFormatter l.initial.f → HasWritten g.W.Write.write_str_gives l.initial.f (joined entry_text (take l.entry-index l.self.0.now)) l.f
