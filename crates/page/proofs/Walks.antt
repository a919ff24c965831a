-- Rows read one by one, by the turns that are left.
use Rattle.std.proofs.Common.{◌≡◌, ℕ, ◌+◌, ◌-◌, ◌<◌, ◌≤◌, Bool, ◌&&◌, List, Some, ap, ◌∙◌}
use Rattle.wire.proofs.Turns.{made_more, made_none}
use Rattle.wire.specs.Bytes.{Read}
use Rattle.wire.specs.Several.{made, several}
use Rattle.page.specs.Rows.{rising}
use Rattle.std.proofs.Math.Bool.{and-true, and_assoc}

module _ {A : Type 0} (reads : List ℕ → Read A) (n i : ℕ) (bs : List ℕ) where
  -- judged: one row more, and none left
  module _ (is_next : ℕ → A → Bool) (place : A → ℕ) (next : ℕ) (sound : Bool) where
    pub judged_more : (row : A) (rest : List ℕ) (p : ℕ) (b : Bool) → i < n → Some (row, rest) ≡ reads bs → p ≡ place row → b ≡ (sound && is_next next row) →
        made (λ rows. b && rising is_next place (p + 1) rows) (several reads (n - (i + 1)) rest) ≡ made (λ rows. sound && rising is_next place next rows) (several reads (n - i) bs)
    unfolding rising
    judged_more row rest p b h e f g =
        made_more reads n i bs _ _ row rest h e
        (λ rows. ap (λ (q : ℕ). b && rising is_next place (q + 1) rows) f ∙ ap (λ (c : Bool). c && rising is_next place (place row + 1) rows) g ∙ and_assoc sound (is_next next row) _)

    pub judged_none : n ≤ i → made (λ rows. sound && rising is_next place next rows) (several reads (n - i) bs) ≡ Some (sound, bs)
    unfolding rising
    judged_none h = made_none reads n i bs _ h ∙ ap (λ (b : Bool). Some (b, bs)) (and-true sound)
