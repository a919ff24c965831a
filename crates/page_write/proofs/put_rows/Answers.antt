use Rattle.wire.specs.Bytes.{placed_at, two_bytes}
use Rattle.wire.specs.Several.{joined}
use Rattle.page_write.proofs.Places.{left_none, left_put, left_room, left_skip}
use Rattle.page_write.proofs.Sizes.{both_placed, listed_count}
use Rattle.page_write.proofs.put_rows.Goals as goal
use Rattle.page_write.proofs.put_rows.Goals.{in-Some, in_default}
use Rattle.page.specs.Rows.{listed}
use Rattle.store.specs.Tables.{held}
use Rattle.std.proofs.Common.{◌≡◌, length, rules}

pub put_part-next-requires-in-Some : goal.put_part-next-requires-in-Some
put_part-next-requires-in-Some g c =
    let l = c.loop-place in
    let s = held c.args.store.tables in
    let h = left_room g.R.Fixed.encoded (g.R.Row.row_at s) (g.R.Row.cells s) c.put_part-next.result c.put_part-next.new.out l.place l.next l.out c.in-Some.row (search rules) (search rules) (search rules) l.invariant in
    search rules

pub loop-place-preserved : goal.loop-place-preserved
loop-place-preserved g c =
    let l = c.loop-place in
    let s = held c.args.store.tables in
    elim c.match-row_at.branch [
      | in-Some w ↦
          left_put g.R.Fixed.encoded (g.R.Row.row_at s) (g.R.Row.cells s) c.put_part-next.result c.put_part-next.new.out l.place l.next l.out w.in-Some.row
          (search rules) (search rules) (search rules) l.invariant c.match-row_at.next c.match-row_at.out (search rules) (search rules)
      | in_default w ↦
          left_skip g.R.Fixed.encoded (g.R.Row.row_at s) (g.R.Row.cells s) c.put_part-next.result c.put_part-next.new.out l.place l.next c.match-row_at.next l.out c.match-row_at.out
          (search rules) (search rules) w.next-is w.out-is l.invariant
    ]

pub returns : goal.returns
returns g c =
    let l = c.loop-place in
    let s = held c.args.store.tables in
    let rows = listed (g.R.Row.row_at s) 0 (g.R.Row.cells s) in
    let n = listed_count (g.R.Row.row_at s) 0 (g.R.Row.cells s) in
    let k : c.bytes.result ≡ two_bytes (length rows) = search rules in
    let b : c.put_part-next.new.out ≡ placed_at c.args.out.now c.args.at (two_bytes (length rows)) = search rules in
    let e = left_none g.R.Fixed.encoded (g.R.Row.row_at s) (g.R.Row.cells s) c.put_part-next.result c.put_part-next.new.out l.place l.next l.out (search rules) (search rules) l.invariant in
    let f = both_placed c.args.out.now c.put_part-next.new.out l.out c.args.at c.put_part-next.result (two_bytes (length rows)) (joined g.R.Fixed.encoded rows) b e.1 (search rules) (search rules) in
    record { end = search rules; bytes = f }
