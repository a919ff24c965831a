-- A set listed station by station.
use Rattle.std.proofs.Common.{◌≡◌, ◌≢◌, ℕ, true, false, suc, ◌+◌, ◌-◌, ◌/◌, ◌%◌, ◌<◌, ◌≤◌, cond, eqb, List, [], ◌∷◌, ◌++◌, sym, ap, ◌∙◌, append_assoc, arith}
use Rattle.entry.specs.Members.{listing}
use Rattle.std.proofs.lemmas.List.{append-nil}
use Rattle.std.proofs.lemmas.Bool.{cond-false, cond-true}

module _ (xs : List ℕ) (i s : ℕ) (all : List ℕ) where
  abbrev rest : List ℕ
  rest = listing (16 - (i + 1)) (i + 1) (s / 2)

  -- the stations from one on: that one, if it is a member, and those behind it
  more : i < 16 → listing (16 - i) i s ≡ cond (eqb (s % 2) 1) (i ∷ rest) rest
  unfolding listing
  more h = let n : 16 - i ≡ suc (16 - (i + 1)) = omega arith in ap (λ (k : ℕ). listing k i s) n

  pub listing_member : i < 16 → s % 2 ≡ 1 → xs ++ listing (16 - i) i s ≡ all → (xs ++ i ∷ []) ++ rest ≡ all
  listing_member h m inv =
      let t : eqb (s % 2) 1 ≡ true = search arith in
      append_assoc xs (i ∷ []) rest ∙ sym (ap (λ (l : List ℕ). xs ++ l) (more h ∙ cond-true (eqb (s % 2) 1) (i ∷ rest) rest t)) ∙ inv

  pub listing_other : i < 16 → s % 2 ≢ 1 → xs ++ listing (16 - i) i s ≡ all → xs ++ rest ≡ all
  listing_other h m inv =
      let t : eqb (s % 2) 1 ≡ false = search arith in
      sym (ap (λ (l : List ℕ). xs ++ l) (more h ∙ cond-false (eqb (s % 2) 1) (i ∷ rest) rest t)) ∙ inv

  pub listing_all : 16 ≤ i → xs ++ listing (16 - i) i s ≡ all → xs ≡ all
  unfolding listing
  listing_all h inv = let n : 16 - i ≡ 0 = omega arith in sym (append-nil xs) ∙ sym (ap (λ (k : ℕ). xs ++ listing k i s) n) ∙ inv
