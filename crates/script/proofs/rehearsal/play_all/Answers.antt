use Rattle.std.proofs.Common.{eqb, rules}
use borrow.Author.Tests.{tests}
use Rattle.script.proofs.Turns.{placed, told_end, told_more}
use Rattle.std.proofs.lemmas.Iterator.Consumers.{YieldsList-end, YieldsList-from_enumerate, YieldsList-turn}
use Rattle.std.proofs.lemmas.Iterator.Splits.{YieldsList-from_slice_split}
use Rattle.std.proofs.lemmas.List.{length_push}
use Rattle.store.specs.Tables.{held_mut}
use Rattle.script.proofs.rehearsal.play_all.Goals as goal

pub loop-i-preserved : goal.loop-i-preserved
loop-i-preserved c =
    told_more (held_mut c.loop-i.store) _ (placed c.args.script.now) c.in-Some.i _ _ c.in-Some.line.now _ _ _
    (YieldsList-turn (YieldsList-from_enumerate (YieldsList-from_slice_split _ (λ b. eqb b 10) c.args.script.now (cc) (cc) (cc) (λ x b q k. search (rules, tests))) (cc))
    c.loop-i.yielded _ c.loop-i.yielded_by _ _ _ c.in-Some.is c.next.ensures.steps)
    (length_push c.loop-i.yielded _) (search rules) (search rules) c.loop-i.invariant

pub returns : goal.returns
returns c =
    let y = YieldsList-from_enumerate (YieldsList-from_slice_split _ (λ b. eqb b 10) c.args.script.now (cc) (cc) (cc) (λ x b q k. search (rules, tests))) cc in
    let t = YieldsList-end y c.loop-i.yielded _ c.loop-i.yielded_by _ _ c.in-None.is c.next.ensures.steps in
    told_end _ (held_mut c.loop-i.store) c.args.script.now _ _ t.1 c.loop-i.invariant
