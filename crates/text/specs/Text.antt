-- Lines, words and numbers in a text, which is a list of bytes.
use Rattle.std.specs.Prelude.{ℕ, ◌+◌, ◌-◌, ◌*◌, cond, List, [], ◌∷◌, length, drop, Some, None, Option, ◌==◌, nat_le}
use Rattle.std.specs.Char.{is_ascii_digit}

-- what stands before the first `mark`: all of it if there is none
abbrev pub up_to : ℕ → List ℕ → List ℕ
up_to mark [] = []
up_to mark (b ∷ bs) = cond (b == mark) [] (b ∷ up_to mark bs)

-- the text from its first `mark` on: nothing if there is none
abbrev pub onward : ℕ → List ℕ → List ℕ
onward mark [] = []
onward mark (b ∷ bs) = cond (b == mark) (b ∷ bs) (onward mark bs)

-- what stands behind the first `mark`
abbrev pub beyond : ℕ → List ℕ → List ℕ
beyond mark bs = drop 1 (onward mark bs)

-- without the spaces in front; 32 is the space, the only byte that separates words
abbrev pub trimmed : List ℕ → List ℕ
trimmed [] = []
trimmed (b ∷ bs) = cond (b == 32) (trimmed bs) (b ∷ bs)

-- the first word of a line, empty if there is none, and what stands behind it
abbrev pub first_word : List ℕ → List ℕ
first_word line = up_to 32 (trimmed line)

abbrev pub after_word : List ℕ → List ℕ
after_word line = beyond 32 (trimmed line)

-- the number that digits go on to write behind those of n, if they are digits
abbrev pub digits_after : ℕ → List ℕ → Option ℕ
digits_after n [] = Some n
digits_after n (b ∷ bs) = cond (is_ascii_digit b) (digits_after (10 * n + (b - 48)) bs) None

-- nothing above max
abbrev pub at_most : ℕ → Option ℕ → Option ℕ
at_most max None = None
at_most max (Some n) = cond (nat_le n max) (Some n) None

-- the decimal number that a word writes, if it is one of at most max
abbrev pub number_up_to : ℕ → List ℕ → Option ℕ
number_up_to max word = cond (length word == 0) None (at_most max (digits_after 0 word))
