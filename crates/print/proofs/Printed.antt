-- Rows and texts written one behind the other: what one more adds.
use Rattle.std.proofs.Common.{◌≡◌, ℕ, zero, suc, ◌+◌, ◌<◌, List, [], ◌∷◌, ◌++◌, length, get_or, take, sym, ap, ◌∙◌, arith}
use Rattle.wire.specs.Several.{joined}
use Rattle.print.specs.Rows.{rows}
use Rattle.std.proofs.Output.{has_written_append, has_written_of_eq}
use Rattle.std.proofs.lemmas.List.{append_assoc, append-nil, take_more}
use Rattle.std.specs.Fmt.{HasWritten}
use Rattle.std.specs.declared.fmt.Formatter.{Formatter}

rows_next : (row : ℕ → ℕ → List ℕ) (k : ℕ) (xs : List ℕ) (i : ℕ) → i < length xs → rows row k (take (suc i) xs) ≡ rows row k (take i xs) ++ row (k + i) (get_or xs i 0)
rows_next row k [] i h = absurd (omega arith)
rows_next row k (x ∷ xs) zero h = let z : k ≡ k + 0 = omega arith in append-nil (row k x) ∙ ap (λ (j : ℕ). row j x) z
rows_next row k (x ∷ xs) (suc i) h =
    let z : k + 1 + i ≡ k + suc i = omega arith in
    ap (λ (l : List ℕ). row k x ++ l) (rows_next row (k + 1) xs i (omega arith) ∙ ap (λ (j : ℕ). rows row (k + 1) (take i xs) ++ row j (get_or xs i 0)) z) ∙
    sym (append_assoc (row k x) (rows row (k + 1) (take i xs)) (row (k + suc i) (get_or xs i 0)))

rows_more : (row : ℕ → ℕ → List ℕ) (xs : List ℕ) (i : ℕ) → i < length xs → rows row 0 (take i xs) ++ row i (get_or xs i 0) ≡ rows row 0 (take (i + 1) xs)
rows_more row xs i h =
    let n : 0 + i ≡ i = omega arith in
    let m : suc i ≡ i + 1 = omega arith in
    ap (λ (j : ℕ). rows row 0 (take i xs) ++ row j (get_or xs i 0)) (sym n) ∙ sym (rows_next row 0 xs i h) ∙ ap (λ (j : ℕ). rows row 0 (take j xs)) m

joined_push : {A : Type 0} (text : A → List ℕ) (xs : List A) (x : A) → joined text (xs ++ (x ∷ [])) ≡ joined text xs ++ text x
unfolding joined
joined_push text [] x = append-nil (text x)
joined_push text (y ∷ xs) x = ap (λ (l : List ℕ). text y ++ l) (joined_push text xs x) ∙ sym (append_assoc (text y) (joined text xs) (text x))

joined_more : {A : Type 0} (text : A → List ℕ) (xs : List A) (i : ℕ) (d : A) → i < length xs → joined text (take i xs) ++ text (get_or xs i d) ≡ joined text (take (i + 1) xs)
joined_more text xs i d h = sym (ap (joined text) (take_more xs i d h) ∙ joined_push text (take i xs) (get_or xs i d))

module _ {W : Type 0} (took : W → List ℕ → W → Type 0) (f g h : Formatter W) where
  pub row_written : (row : ℕ → ℕ → List ℕ) (xs : List ℕ) (i : ℕ) → i < length xs → HasWritten took f (rows row 0 (take i xs)) g → HasWritten took g (row i (get_or xs i 0)) h → HasWritten took f (rows row 0 (take (i + 1) xs)) h
  row_written row xs i l p q = has_written_of_eq took f _ _ h (rows_more row xs i l) (has_written_append took f _ g _ h p q)

  pub text_written : {A : Type 0} (text : A → List ℕ) (xs : List A) (i : ℕ) (d : A) → HasWritten took f (joined text (take i xs)) g → HasWritten took g (text (get_or xs i d)) h → i < length xs → HasWritten took f (joined text (take (i + 1) xs)) h
  text_written text xs i d p q l = has_written_of_eq took f _ _ h (joined_more text xs i d l) (has_written_append took f _ g _ h p q)
