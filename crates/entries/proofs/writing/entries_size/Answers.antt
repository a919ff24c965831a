use Rattle.std.proofs.Common.{arith}
use Rattle.wire.proofs.Joined.{joined-end, length-joined-from}
use Rattle.entries.proofs.writing.entries_size.Goals as goal
use Rattle.entry.specs.Entry.{entry_bytes}

pub loop-entry-preserved : goal.loop-entry-preserved
loop-entry-preserved c =
    let more = length-joined-from entry_bytes c.args.entries.now c.loop-entry.entry-index _ _ c.loop-entry-test.true c.entry_size-size.ensures.size in
    grind (arith, more)

pub returns-clause-size : goal.returns-clause-size
returns-clause-size c =
    let none = joined-end entry_bytes c.args.entries.now c.loop-entry.entry-index c.loop-entry-test.false in
    grind (arith, none)
