-- Entries compared one after the other.
use Rattle.std.proofs.Common.{◌≡◌, ℕ, zero, suc, ◌+◌, ◌<◌, Bool, true, false, List, get_or, sym, refl, ap, ◌∙◌, ⊎_elim, arith}
use Rattle.entry.specs.declared.entry.Entry.{Entry}
use Rattle.entry.specs.declared.entry.Entry.TheVariants.{Close}
use Rattle.std.proofs.lemmas.Bool.{and_from, and_left, and_right, cases_eq}
use Rattle.steps.specs.Heads.{agree}
use Rattle.steps.specs.Same.{same_entry}

abbrev pub same_at : ℕ → ℕ → List Entry → List Entry → Bool
same_at i p log es = same_entry (get_or log (p + i) (Close 0)) (get_or es i (Close 0))

pub agree_none : (p : ℕ) (log es : List Entry) → agree 0 p log es ≡ true
unfolding agree
agree_none p log es = refl

-- one more that is the same
pub agree_more : (i p : ℕ) (log es : List Entry) → agree i p log es ≡ true → same_at i p log es ≡ true → agree (i + 1) p log es ≡ true
unfolding agree
agree_more i p log es before here =
    let n : i + 1 ≡ suc i = omega arith in
    ap (λ (m : ℕ). agree m p log es) n ∙ and_from (agree i p log es) (same_at i p log es) before here

-- one that differs
pub agree_breaks : (n i p : ℕ) (log es : List Entry) → i < n → same_at i p log es ≡ false → agree n p log es ≡ false
unfolding agree
agree_breaks zero i p log es h here = absurd (omega arith)
agree_breaks (suc n) i p log es h here =
    ⊎_elim (λ e. and_right (agree n p log es) (same_at n p log es) (ap (λ (k : ℕ). same_at k p log es) (sym e) ∙ here))
    (λ ne. and_left (agree n p log es) (same_at n p log es) (agree_breaks n i p log es (omega arith) here)) (cases_eq i n)
