-- The first line of a text and the lines behind it, by the mark that ends it.
use Rattle.std.proofs.Common.{◌≡◌, ℕ, ◌<◌, Bool, true, false, cond, eqb, List, [], ◌∷◌, length, drop, refl, ap, arith}
use Rattle.text.specs.Lines.{begun, lines}
use Rattle.text.specs.Text.{beyond, onward, up_to}

-- what the first byte makes of it, if it is the mark or not
by_first : (m : Bool) (b : ℕ) (bs : List ℕ) → begun b (lines bs) ≡ (b ∷ up_to 10 bs) ∷ lines (beyond 10 bs) →
    cond m ([] ∷ lines bs) (begun b (lines bs)) ≡ cond m [] (b ∷ up_to 10 bs) ∷ lines (drop 1 (cond m (b ∷ bs) (onward 10 bs)))
by_first true b bs h = refl
by_first false b bs h = h

begun_lines : (b : ℕ) (bs : List ℕ) → begun b (lines bs) ≡ (b ∷ up_to 10 bs) ∷ lines (beyond 10 bs)
begun_lines b [] = refl
begun_lines b (c ∷ bs) = ap (begun b) (by_first (eqb c 10) c bs (begun_lines c bs))

pub first_line : (bs : List ℕ) → 0 < length bs → lines bs ≡ up_to 10 bs ∷ lines (beyond 10 bs)
first_line [] h = absurd (omega arith)
first_line (b ∷ bs) h = by_first (eqb b 10) b bs (begun_lines b bs)
