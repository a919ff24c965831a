use Rattle.std.proofs.Common.{rules}
use Rattle.wire.specs.Several.{joined}
use Rattle.print.proofs.Printed.{text_written}
use Rattle.print.proofs.entry_lines.EntriesTextDisplay.fmt.Goals as goal

pub loop-entry-init : goal.loop-entry-init
unfolding joined
loop-entry-init g c = search rules

pub loop-entry-preserved : goal.loop-entry-preserved
loop-entry-preserved g c p =
    let before = c.loop-entry.invariant p in
    let wrote = c.in_ok-write.ensures.writes before.plain (search rules) in
    search (rules, text_written)
