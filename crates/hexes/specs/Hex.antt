-- Bytes written in a text: two digits for each, the high one first.
use Rattle.std.specs.Prelude.{ℕ, ◌+◌, ◌-◌, ◌*◌, ◌/◌, cond, ◌&&◌, List, [], length, Some, None, codes, Option, ◌==◌, nat_le}
use Rattle.wire.specs.Bytes.{Read, ◌then◌, one}
use Rattle.wire.specs.Several.{several}
use Rattle.std.specs.Str.{bytes_eq}

-- `0` to `9`, `a` to `f` or `A` to `F`
abbrev pub digit_of : ℕ → Option ℕ
digit_of b =
    cond (nat_le 48 b && nat_le b 57) (Some (b - 48)) (cond (nat_le 97 b && nat_le b 102) (Some (b - 97 + 10)) (cond (nat_le 65 b && nat_le b 70) (Some (b - 65 + 10)) None))

-- a byte from its two digits
abbrev pub joined_with : ℕ → List ℕ → Option ℕ → Read ℕ
joined_with high bs None = None
joined_with high bs (Some low) = Some (high * 16 + low, bs)

abbrev pub joined_to : Option ℕ → Option ℕ → List ℕ → Read ℕ
joined_to None low bs = None
joined_to (Some high) low bs = joined_with high bs low

abbrev pub pair_of : List ℕ → Read ℕ
pair_of bs = one bs then λ high bs. one bs then λ low bs. joined_to (digit_of high) (digit_of low) bs

-- nothing may stand behind
abbrev pub ended_with : Read (List ℕ) → Option (List ℕ)
ended_with None = None
ended_with (Some p) = cond (length p.1 == 0) (Some p.0) None

-- the bytes that a word writes, if it is two digits for each of them; `-` stands for no bytes
abbrev pub hex_of : List ℕ → Option (List ℕ)
hex_of word = cond (bytes_eq word (codes "-")) (Some []) (ended_with (several pair_of (length word / 2) word))
