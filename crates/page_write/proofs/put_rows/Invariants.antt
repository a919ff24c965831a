use Rattle.page_write.proofs.Places.{Left}
use Rattle.page_write.proofs.put_rows.Given as goal
use Rattle.store.specs.Tables.{held}

-- the rows from here on are left to be written
abbrev pub invariant-loop-place : goal.invariant-loop-place
invariant-loop-place g l = let s = held l.store.tables in Left g.R.Fixed.encoded (g.R.Row.row_at s) (g.R.Row.cells s) l.initial.next l.initial.out l.place l.next l.out
