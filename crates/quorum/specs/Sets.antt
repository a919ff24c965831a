-- Sets of stations as bits.
use Rattle.std.specs.Prelude.{ℕ, ◌*◌, ◌/◌, ◌%◌, ◌^◌, Bool, cond, ◌&&◌, ◌==◌, bit_and, bit_or, count_ones, nat_lt}

-- station j, one of the sixteen, is in a set
abbrev pub is_in : ℕ → ℕ → Bool
is_in s j = nat_lt j 16 && (s / 2 ^ j) % 2 == 1

-- a set with station j more, if that is one of the sixteen
abbrev pub inserted : ℕ → ℕ → ℕ
inserted s j = cond (nat_lt j 16) (bit_or s (2 ^ j)) s

-- more than half of the members are in a set
abbrev pub is_most : ℕ → ℕ → Bool
is_most ms qs = nat_lt (count_ones ms) (2 * count_ones (bit_and ms qs))
