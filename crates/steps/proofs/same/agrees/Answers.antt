use Rattle.std.proofs.Common.{sym, rules}
use Rattle.steps.proofs.Overlap.{agree_breaks, agree_more, agree_none}
use Rattle.steps.proofs.same.agrees.Goals as goal

pub loop-i-init : goal.loop-i-init
loop-i-init c = agree_none c.args.place c.args.log.now c.args.entries.now

pub returns-then-not-same_at : goal.returns-then-not-same_at
returns-then-not-same_at c =
    sym (agree_breaks c.args.count c.loop-i.i c.args.place c.args.log.now c.args.entries.now (search rules) (search rules))

pub loop-i-preserved : goal.loop-i-preserved
loop-i-preserved c = agree_more c.loop-i.i c.args.place c.args.log.now c.args.entries.now c.loop-i.invariant (search rules)
