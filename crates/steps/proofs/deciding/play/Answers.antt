use Rattle.steps.proofs.Doing.{played_end, played_from}
use Rattle.steps.proofs.deciding.play.Goals as goal
use Rattle.store.specs.Tables.{held_mut}
use Rattle.std.proofs.Common.{sym, ◌∙◌, rules}

pub loop-entry-preserved : goal.loop-entry-preserved
loop-entry-preserved c =
    let l = c.loop-entry in
    record { store = played_from c.args.entries.now l.entry-index (held_mut l.store) _ _ c.loop-entry-test.true c.act.ensures.store ∙ l.invariant.store; loans = search rules }

pub returns-clause-store : goal.returns-clause-store
returns-clause-store c =
    let l = c.loop-entry in
    sym (played_end c.args.entries.now l.entry-index (held_mut l.store) c.loop-entry-test.false) ∙ l.invariant.store
