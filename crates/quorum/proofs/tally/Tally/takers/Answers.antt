use Rattle.quorum.proofs.Takers.{gathers_all, gathers_more, gathers_none, gathers_room}
use Rattle.quorum.proofs.tally.Tally.takers.Goals as goal
use Rattle.std.proofs.Common.{arith, rules}

pub loop-took-init : goal.loop-took-init
loop-took-init c = gathers_none c.args.count c.args.self.took _ (search rules) (search rules)

pub overflow_mul-set : goal.overflow_mul-set
overflow_mul-set c = let room = gathers_room c.args.count c.in-Some.took.now c.loop-took.set c.args.self.took _ _ (search rules) c.in-Some.ensures.steps c.loop-took.invariant in omega arith

pub overflow_add-set : goal.overflow_add-set
overflow_add-set c = let room = gathers_room c.args.count c.in-Some.took.now c.loop-took.set c.args.self.took _ _ (search rules) c.in-Some.ensures.steps c.loop-took.invariant in search rules

pub loop-took-preserved : goal.loop-took-preserved
loop-took-preserved c = gathers_more c.args.count c.in-Some.took.now c.loop-took.set c.args.self.took _ _ (search rules) c.in-Some.ensures.steps c.loop-took.invariant c.from.result c.from.ensures

pub returns : goal.returns
returns c = gathers_all c.args.count c.loop-took.set c.args.self.took _ c.in-None.ensures.steps.0 c.loop-took.invariant
