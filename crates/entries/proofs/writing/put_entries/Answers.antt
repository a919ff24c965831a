use Rattle.std.proofs.Common.{◌∙◌, rules}
use Rattle.wire.proofs.Joined.{joined-end}
use Rattle.wire.proofs.Over.{placed_nothing}
use Rattle.entries.proofs.Writes.{first_fits, wrote}
use Rattle.entries.proofs.writing.put_entries.Goals as goal
use Rattle.entry.specs.Entry.{entry_bytes}

pub unwrap-next-requires : goal.unwrap-next-requires
unwrap-next-requires c =
    let l = c.loop-entry in
    let fits = first_fits l.out l.next c.args.entries.now l.entry-index _ c.loop-entry-test.true l.invariant.room c.write_entry.result c.write_entry.ensures.end in
    search rules

pub loop-entry-preserved : goal.loop-entry-preserved
loop-entry-preserved c =
    let l = c.loop-entry in
    let w = wrote l.out l.next c.args.entries.now l.entry-index _ c.loop-entry-test.true l.invariant.room c.write_entry.new.out c.unwrap-next.result c.write_entry.ensures.bytes (search rules) in
    record { bytes = w.bytes ∙ l.invariant.bytes; end = w.end ∙ l.invariant.end; room = search rules }

pub returns-clause-end : goal.returns-clause-end
returns-clause-end c =
    let none = joined-end entry_bytes c.args.entries.now c.loop-entry.entry-index c.loop-entry-test.false in
    search rules

pub returns-clause-bytes : goal.returns-clause-bytes
returns-clause-bytes c =
    let none = joined-end entry_bytes c.args.entries.now c.loop-entry.entry-index c.loop-entry-test.false in
    let same = placed_nothing c.loop-entry.out _ c.loop-entry.next none (search rules) in
    search rules
