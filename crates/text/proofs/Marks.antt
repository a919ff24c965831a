-- Where the first mark stands, and how many spaces stand in front.
use Rattle.std.proofs.Common.{◌≡◌, ℕ, ◌+◌, Bool, true, false, cond, eqb, ltb, not, List, [], ◌∷◌, Some, None, length, take, drop, one-add, refl, sym, ap, ◌∙◌}
use Rattle.std.proofs.lemmas.Bool.{ltb-false}
use Rattle.std.proofs.lemmas.List.{drop-drop, drop_all, take_all}
use Rattle.std.proofs.lemmas.Option.{cond_some, none-some}
use Rattle.std.specs.List.{position_or_len, prefix_len}
use Rattle.text.specs.Text.{beyond, onward, trimmed, up_to}

module _ (m : ℕ) where
  cut : (q : Bool) (b p : ℕ) (bs : List ℕ) → (up_to m bs ≡ take p bs) × (onward m bs ≡ drop p bs) → (cond q [] (b ∷ up_to m bs) ≡ take (cond (not q) (1 + p) 0) (b ∷ bs)) × (cond q (b ∷ bs) (onward m bs) ≡ drop (cond (not q) (1 + p) 0) (b ∷ bs))
  cut true b p bs h = (refl, refl)
  cut false b p bs h = rw one-add (ap (λ (x : List ℕ). b ∷ x) h.0, h.1)

  pub cut_at : (bs : List ℕ) → (up_to m bs ≡ take (position_or_len (λ b. eqb b m) bs) bs) × (onward m bs ≡ drop (position_or_len (λ b. eqb b m) bs) bs)
  cut_at [] = (refl, refl)
  cut_at (b ∷ bs) = cut (eqb b m) b (position_or_len (λ b. eqb b m) bs) bs (cut_at bs)

spaces : (q : Bool) (b p : ℕ) (bs : List ℕ) → trimmed bs ≡ drop p bs → cond q (trimmed bs) (b ∷ bs) ≡ drop (cond q (1 + p) 0) (b ∷ bs)
spaces true b p bs h = rw one-add h
spaces false b p bs h = refl

pub trimmed_at : (bs : List ℕ) → trimmed bs ≡ drop (prefix_len (λ b. eqb b 32) bs) bs
trimmed_at [] = refl
trimmed_at (b ∷ bs) = spaces (eqb b 32) b (prefix_len (λ b. eqb b 32) bs) bs (trimmed_at bs)

-- what `position` found: a mark or none
abbrev first : ℕ → List ℕ → ℕ
first m bs = position_or_len (λ b. eqb b m) bs

pub at_mark : (m i : ℕ) (bs : List ℕ) → Some i ≡ cond (ltb (first m bs) (length bs)) (Some (first m bs)) None → (take i bs ≡ up_to m bs) × (drop (i + 1) bs ≡ beyond m bs)
at_mark m i bs e =
    let n = (cond_some (ltb (first m bs) (length bs)) (first m bs) i (sym e)).1 in
    let c = cut_at m bs in
    (ap (λ (k : ℕ). take k bs) (sym n) ∙ sym c.0, ap (λ (k : ℕ). drop (k + 1) bs) (sym n) ∙ sym (drop-drop 1 (first m bs) bs) ∙ ap (drop 1) (sym c.1))

pub no_mark : (m : ℕ) (bs : List ℕ) → None ≡ cond (ltb (first m bs) (length bs)) (Some (first m bs)) None → (bs ≡ up_to m bs) × ([] ≡ beyond m bs)
no_mark m bs e =
    let c = cut_at m bs in
    let past = without (ltb (first m bs) (length bs)) (first m bs) e in
    let far = ltb-false (first m bs) (length bs) past in
    (sym (take_all (first m bs) bs far) ∙ sym c.0, ap (drop 1) (sym (drop_all (first m bs) bs far) ∙ sym c.1))
  where
    without : (q : Bool) (n : ℕ) → None ≡ cond q (Some n) None → q ≡ false
    without true n e = absurd (none-some n e)
    without false n e = refl
