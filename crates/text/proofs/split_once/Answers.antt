use Rattle.std.proofs.Common.{eqb, sym, rules, ◌∙◌, ◌+◌}
use borrow.Author.Tests.{tests}
use Rattle.std.proofs.lemmas.Iterator.{YieldsList-from_slice}
use Rattle.std.proofs.lemmas.Iterator.Search.{position_from_yields_List}
use Rattle.std.proofs.lemmas.List.{take_rest}
use Rattle.text.proofs.Marks.{at_mark, no_mark}
use Rattle.text.proofs.split_once.Goals as goal

pub returns-in-Some : goal.returns-in-Some
returns-in-Some c =
    let bs = c.args.bytes.now in
    let e = position_from_yields_List (λ b. eqb b c.args.mark) _ _ c.position.result c.position.ensures.ran (YieldsList-from_slice bs cc) (λ x b q k. search (rules, tests)) in
    let m = at_mark c.args.mark c.in-Some.at bs (sym c.in-Some.is ∙ e) in
    record { front = m.0; back = take_rest bs (c.in-Some.at + 1) ∙ m.1; shorter = search rules }

pub returns-in-None : goal.returns-in-None
returns-in-None c =
    let bs = c.args.bytes.now in
    let e = position_from_yields_List (λ b. eqb b c.args.mark) _ _ c.position.result c.position.ensures.ran (YieldsList-from_slice bs cc) (λ x b q k. search (rules, tests)) in
    let m = no_mark c.args.mark bs (sym c.in-None.is ∙ e) in
    record { front = m.0; back = m.1; shorter = search rules }
