use Rattle.wire.specs.Bytes.{four_bytes, placed_at}
use Rattle.page_write.proofs.Sizes.{both_placed, page_parts}
use Rattle.page_write.proofs.put_page.Goals as goal
use Rattle.page.specs.Page.{page_bytes}
use Rattle.page.specs.Rows.{clients_bytes, shelves_bytes}
use Rattle.std.proofs.lemmas.List.{length-append}
use Rattle.store.specs.Tables.{held}
use Rattle.std.proofs.Common.{◌++◌, ap, ◌∙◌, rules}

pub returns : goal.returns
unfolding page_bytes
returns c =
    let s = shelves_bytes c.args.store.tables.shelves.now in
    let k = clients_bytes c.args.store.tables.lasts.now c.args.store.tables.words.now in
    let n = page_parts c.args.before (held c.args.store.tables) in
    let m = length-append s k in
    let e = both_placed c.put_part-next.new.out c.put_rows-next.new.out c.put_rows.new.out c.put_part-next.result c.put_rows-next.result s k
    c.put_rows-next.ensures.bytes c.put_rows.ensures.bytes (search rules) (search rules) in
    let f = both_placed c.args.out.now c.put_part-next.new.out c.put_rows.new.out c.args.at c.put_part-next.result (four_bytes c.args.before) (s ++ k)
    (c.put_part-next.ensures.bytes ∙ ap (placed_at c.args.out.now c.args.at) c.bytes.ensures) e (search rules) (search rules) in
    record { end = search rules; bytes = f }
