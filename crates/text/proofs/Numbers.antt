-- Reading a number digit by digit.
use Rattle.std.proofs.Common.{◌≡◌, ℕ, ◌+◌, ◌-◌, ◌*◌, ◌<◌, true, false, leb, List, [], ◌∷◌, Some, None, length, get_or, drop, ap, ◌∙◌, ⊎_elim, arith}
use Rattle.std.proofs.lemmas.Bool.{cases_Bool, cond-false, cond-true, lt-leb}
use Rattle.std.proofs.lemmas.List.{drop_more}
use Rattle.std.specs.Char.{is_ascii_digit}
use Rattle.text.specs.Text.{at_most, digits_after}

-- a number that is too large stays so, whatever follows
pub too_large : (max n : ℕ) (bs : List ℕ) → max < n → at_most max (digits_after n bs) ≡ None
too_large max n [] h = cond-false (leb n max) (Some n) None (lt-leb n max h)
too_large max n (b ∷ bs) h =
    ⊎_elim
    (λ (d : is_ascii_digit b ≡ true). ap (at_most max) (cond-true (is_ascii_digit b) (digits_after (10 * n + (b - 48)) bs) None d) ∙ too_large max (10 * n + (b - 48)) bs (omega arith))
    (λ (d : is_ascii_digit b ≡ false). ap (at_most max) (cond-false (is_ascii_digit b) (digits_after (10 * n + (b - 48)) bs) None d))
    (cases_Bool (is_ascii_digit b))

-- what is no digit at place i leaves no number
pub no_digit_at : (max n i : ℕ) (bs : List ℕ) → i < length bs → is_ascii_digit (get_or bs i 0) ≡ false → at_most max (digits_after n (drop i bs)) ≡ None
no_digit_at max n i bs l d =
    let b = get_or bs i 0 in
    let rest = drop (i + 1) bs in
    ap (λ (r : List ℕ). at_most max (digits_after n r)) (drop_more bs i 0 l) ∙ ap (at_most max) (cond-false (is_ascii_digit b) (digits_after (10 * n + (b - 48)) rest) None d)
