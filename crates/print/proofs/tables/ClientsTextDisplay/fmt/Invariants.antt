use Rattle.std.proofs.Common.{take}
use Rattle.std.specs.Fmt.{HasWritten, IsPlainFormatter}
use Rattle.print.specs.Rows.{client_row, rows}
use Rattle.print.proofs.tables.ClientsTextDisplay.fmt.Given as goal

abbrev pub invariant-loop-client : goal.invariant-loop-client
invariant-loop-client g l =
    IsPlainFormatter l.initial.f → HasWritten g.W.Write.write_str_gives l.initial.f (rows (client_row l.self.words.now) 0 (take l.client-counter l.self.lasts.now)) l.f
