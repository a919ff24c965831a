use Rattle.std.proofs.Common.{ℕ, eqb, drop, sym, ap, rules, ◌∙◌}
use borrow.Author.Tests.{tests}
use Rattle.std.proofs.lemmas.Iterator.{YieldsList-from_slice}
use Rattle.std.proofs.lemmas.Iterator.Consumers.{count_from_yields_List}
use Rattle.std.proofs.lemmas.Iterator.Search.{YieldsList-from_take_while}
use Rattle.std.proofs.lemmas.List.Folds.{length-prefix_len}
use Rattle.std.proofs.lemmas.List.{take_rest}
use Rattle.text.proofs.Marks.{trimmed_at}
use Rattle.text.proofs.trim_start.Goals as goal

pub returns : goal.returns
returns c =
    let bs = c.args.bytes.now in
    let e = count_from_yields_List _ c.count-spaces.result c.count-spaces.ensures.ran (YieldsList-from_take_while _ (λ b. eqb b 32) (YieldsList-from_slice bs cc) (cc) (cc) (λ x b q k. search (rules, tests))) ∙ length-prefix_len (λ b. eqb b 32) bs in
    take_rest bs c.count-spaces.result ∙ ap (λ (n : ℕ). drop n bs) e ∙ sym (trimmed_at bs)
