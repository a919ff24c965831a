use Rattle.std.proofs.Common.{rules}
use Rattle.print.proofs.Printed.{row_written}
use Rattle.print.specs.Rows.{client_row}
use Rattle.print.proofs.tables.ClientsTextDisplay.fmt.Goals as goal
use Rattle.print.proofs.tables.ClientsTextDisplay.fmt.Goals.{then-last-ne0+in_ok-writeln, else-last-ne0}

pub loop-client-preserved : goal.loop-client-preserved
loop-client-preserved g c p =
    row_written _ _ _ _ (client_row c.args.self.now.words.now) _ _ c.loop-client-test.true (c.loop-client.invariant p) (elim c.if-last-ne0.branch [ then-last-ne0+in_ok-writeln w ↦ search rules | else-last-ne0 w ↦ search rules ])
