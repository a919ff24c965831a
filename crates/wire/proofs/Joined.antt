-- The bytes of things one behind the other, from one of them on.
use Rattle.std.proofs.Common.{◌≡◌, ℕ, ◌+◌, ◌<◌, ◌≤◌, List, [], ◌++◌, length, get_or, drop, sym, refl, ap, ◌∙◌, add-one, drop-cons}
use Rattle.wire.specs.Several.{joined}
use Rattle.std.proofs.lemmas.List.{drop_all, length-append}

module _ {A : Type 0} (bytes : A → List ℕ) (xs : List A) (i : ℕ) where
  -- one of them, and those behind it
  pub joined-from : (d : A) (ys : List ℕ) → i < length xs → ys ≡ bytes (get_or xs i d) → joined bytes (drop i xs) ≡ ys ++ joined bytes (drop (i + 1) xs)
  unfolding joined
  joined-from d ys h e = ap (joined bytes) (drop-cons xs i d h) ∙ ap (λ (n : ℕ). bytes (get_or xs i d) ++ joined bytes (drop n xs)) (sym (add-one i)) ∙ ap (λ (l : List ℕ). l ++ joined bytes (drop (i + 1) xs)) (sym e)

  pub length-joined-from : (d : A) (n : ℕ) → i < length xs → n ≡ length (bytes (get_or xs i d)) → length (joined bytes (drop i xs)) ≡ n + length (joined bytes (drop (i + 1) xs))
  length-joined-from d n h e =
      ap length (joined-from d (bytes (get_or xs i d)) h refl) ∙ length-append (bytes (get_or xs i d)) (joined bytes (drop (i + 1) xs)) ∙ ap (λ (k : ℕ). k + length (joined bytes (drop (i + 1) xs))) (sym e)

  -- none left
  pub joined-end : length xs ≤ i → joined bytes (drop i xs) ≡ []
  unfolding joined
  joined-end h = ap (joined bytes) (drop_all i xs h)
