use Rattle.std.proofs.Common.{◌≡◌, ◌≤◌, take}
use Rattle.page_write.proofs.count_rows.Given as goal
use Rattle.page.specs.Rows.{occupied}

-- those of the cells so far are counted
abbrev pub invariant-loop-cell : goal.invariant-loop-cell
invariant-loop-cell l = (l.count ≡ occupied (take l.cell-index l.cells)) × (l.count ≤ l.cell-index)
