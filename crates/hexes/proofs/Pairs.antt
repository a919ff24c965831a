-- What decoding a text gives is what its pairs of digits write.
use Rattle.std.proofs.Common.{◌≡◌, ℕ, suc, ◌+◌, ◌*◌, ◌/◌, ◌%◌, Bool, true, false, cond, eqb, List, [], ◌∷◌, length, Some, None, Option, Ok, Err, Result, ◌==◌, refl, sym, ap, ◌∙◌, arith}
use Rattle.std.proofs.lemmas.Bool.{eqb-true, eq-eqb}
use Rattle.std.proofs.lemmas.Bool.Decides.{nat_tests}
use Rattle.std.proofs.lemmas.Option.{none-some}
use Rattle.std.specs.List.{AllPass}
use Rattle.std.specs.Option.{option_map}
use Rattle.std.specs.Result.{MatchResult, result_ok}
use Rattle.hex.proofs.HexLemmas.{decode_of-ok}
use Rattle.hex.specs.Hex.{decode_of, decode_pairs, decode_sized, digit_or_error, hex_digit_value, is_hex_digit, pair_value, ◌>>=◌}
use Rattle.hex.specs.declared.error.FromHexError.{FromHexError}
use Rattle.hex.specs.declared.error.FromHexError.TheVariants.{InvalidStringLength, OddLength}
use Rattle.hexes.specs.Hex.{digit_of, ended_with, joined_to, pair_of}
use Rattle.wire.specs.Bytes.{Read, ◌then◌}
use Rattle.wire.specs.Several.{several}

same_digit : (b : ℕ) → digit_of b ≡ hex_digit_value b
same_digit b = grind (arith, nat_tests)

-- a byte more in front
abbrev onto : ℕ → Option (List ℕ) → Option (List ℕ)
onto x o = option_map (λ xs. x ∷ xs) o

onto_ended : (x : ℕ) (read : Read (List ℕ)) → ended_with (read then λ xs bs. Some (x ∷ xs, bs)) ≡ onto x (ended_with read)
onto_ended x None = refl
onto_ended x (Some p) = at_end (eqb (length p.1) 0)
  where
    at_end : (q : Bool) → cond q (Some (x ∷ p.0)) None ≡ onto x (cond q (Some p.0) None)
    at_end true = refl
    at_end false = refl

onto_decoded : (x : ℕ) (r : Result (List ℕ) FromHexError) → onto x (result_ok r) ≡ result_ok (r >>= λ xs. Ok (x ∷ xs))
onto_decoded x (Ok xs) = refl
onto_decoded x (Err e) = refl

-- two digits more in front
module _ (n i high low : ℕ) (bs : List ℕ) where
  pair_more : (h l : Option ℕ) → ended_with (several pair_of n bs) ≡ result_ok (decode_pairs (i + 2) bs) →
      ended_with (joined_to h l bs then λ x bs. several pair_of n bs then λ xs bs. Some (x ∷ xs, bs))
      ≡ result_ok ((digit_or_error high i h >>= λ a. digit_or_error low (i + 1) l >>= λ b. Ok (a * 16 + b)) >>= λ x. decode_pairs (i + 2) bs >>= λ xs. Ok (x ∷ xs))
  pair_more None l e = refl
  pair_more (Some h) None e = refl
  pair_more (Some h) (Some l) e =
      let x : ℕ = h * 16 + l in
      onto_ended x (several pair_of n bs) ∙ ap (onto x) e ∙ onto_decoded x (decode_pairs (i + 2) bs)

pairs_decoded : (i : ℕ) (bs : List ℕ) → ended_with (several pair_of (length bs / 2) bs) ≡ result_ok (decode_pairs i bs)
unfolding several decode_pairs
pairs_decoded i [] = refl
pairs_decoded i (b ∷ []) = refl
pairs_decoded i (high ∷ low ∷ bs) =
    let n : length (high ∷ low ∷ bs) / 2 ≡ suc (length bs / 2) = omega arith in
    ap (λ (k : ℕ). ended_with (several pair_of k (high ∷ low ∷ bs))) n
    ∙ pair_more (length bs / 2) i high low bs (digit_of high) (digit_of low) (pairs_decoded (i + 2) bs)
    ∙ rw (same_digit high, same_digit low) refl

-- of an odd number of digits, one is left over
odd_more : (r : Result ℕ FromHexError) (s : Result (List ℕ) FromHexError) → result_ok s ≡ None → result_ok (r >>= λ x. s >>= λ xs. Ok (x ∷ xs)) ≡ None
odd_more (Err e) s h = refl
odd_more (Ok x) (Err e) h = refl
odd_more (Ok x) (Ok xs) h = absurd (none-some xs (sym h))

odd_none : (i : ℕ) (bs : List ℕ) → length bs % 2 ≡ 1 → result_ok (decode_pairs i bs) ≡ None
unfolding decode_pairs
odd_none i [] h = absurd (omega arith)
odd_none i (b ∷ []) h = refl
odd_none i (high ∷ low ∷ bs) h = odd_more (pair_value high low i) (decode_pairs (i + 2) bs) (odd_none (i + 2) bs (omega arith))

pub decoded : (word : List ℕ) → ended_with (several pair_of (length word / 2) word) ≡ result_ok (decode_of word)
decoded word = pairs_decoded 0 word ∙ by_parity (length word % 2 == 1) refl
  where
    by_parity : (q : Bool) → (length word % 2 == 1) ≡ q → result_ok (decode_pairs 0 word) ≡ result_ok (cond q (Err OddLength) (decode_pairs 0 word))
    by_parity true e = odd_none 0 word (eqb-true (length word % 2) 1 e)
    by_parity false e = refl

-- a word that is no pairs of digits writes nothing
pub refused : (word : List ℕ) → ¬ ((length word % 2 ≡ 0) × AllPass is_hex_digit word) → ended_with (several pair_of (length word / 2) word) ≡ None
refused word h = decoded word ∙ go (decode_of word) refl where
  go : (r : Result (List ℕ) FromHexError) → decode_of word ≡ r → result_ok r ≡ None
  go (Ok bytes) e = let ok = decode_of-ok word bytes e in absurd (h (ok.0, ok.1))
  go (Err f) e = refl

-- decoded into room for just as many bytes as there are pairs
sized : (word : List ℕ) (n : ℕ) → n ≡ length word / 2 → decode_sized word n ≡ decode_of word
sized word n e =
    ap (λ (m : ℕ). cond (length word % 2 == 1) (Err OddLength) (cond (length word / 2 == m) (decode_pairs 0 word) (Err InvalidStringLength))) e ∙
    ap (λ (b : Bool). cond (length word % 2 == 1) (Err OddLength) (cond b (decode_pairs 0 word) (Err InvalidStringLength))) (eq-eqb (length word / 2) (length word / 2) refl)

pub decoded_into : (word new : List ℕ) (n : ℕ) (r : Result (Unit {0}) FromHexError) → n ≡ length word / 2 → MatchResult (decode_sized word n) (λ bytes. (r ≡ Ok tt) × (new ≡ bytes)) (λ e. r ≡ Err e) →
    ended_with (several pair_of (length word / 2) word) ≡ option_map (λ u. new) (result_ok r)
decoded_into word new n r e m = decoded word ∙ ap result_ok (sym (sized word n e)) ∙ go (decode_sized word n) m where
  go : (s : Result (List ℕ) FromHexError) → MatchResult s (λ bytes. (r ≡ Ok tt) × (new ≡ bytes)) (λ e. r ≡ Err e) → result_ok s ≡ option_map (λ u. new) (result_ok r)
  go (Ok bytes) h = ap Some (sym h.1) ∙ sym (ap (λ (x : Result (Unit {0}) FromHexError). option_map (λ u. new) (result_ok x)) h.0)
  go (Err f) h = sym (ap (λ (x : Result (Unit {0}) FromHexError). option_map (λ u. new) (result_ok x)) h)
