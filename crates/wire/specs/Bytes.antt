-- Numbers in bytes, high byte first, and bytes written over others.
use Rattle.std.specs.Prelude.{ℕ, ◌+◌, ◌*◌, ◌/◌, ◌%◌, cond, List, [], ◌∷◌, ◌++◌, length, take, drop, Some, None, Option, nat_lt}
use Rattle.std.specs.Borrow.{Bor}

-- what was read, and the bytes behind it; nothing where they are too few
abbrev pub Read : Type 0 → Type 0
Read A = Option (A × List ℕ)

-- what a reader gives back, with the bytes that its slices point to
abbrev pub seen : {A : Type 0} → Option (A × Bor (List ℕ)) → Read A
seen None = None
seen (Some p) = Some (p.0, p.1.now)

abbrev pub seen_parts : Option (Bor (List ℕ) × Bor (List ℕ)) → Read (List ℕ)
seen_parts None = None
seen_parts (Some p) = Some (p.0.now, p.1.now)

-- one thing after the other
infixr 1 ◌then◌
abbrev pub ◌then◌ : {A B : Type 0} → Read A → (A → List ℕ → Read B) → Read B
None then k = None
Some p then k = k p.0 p.1

abbrev pub one : List ℕ → Read ℕ
one [] = None
one (b ∷ bs) = Some (b, bs)

abbrev pub two : List ℕ → Read ℕ
two bs = one bs then λ high bs. one bs then λ low bs. Some (high * 256 + low, bs)

abbrev pub four : List ℕ → Read ℕ
four bs = two bs then λ high bs. two bs then λ low bs. Some (high * 65536 + low, bs)

-- the first n bytes
abbrev pub some : ℕ → List ℕ → Read (List ℕ)
some n bs = cond (nat_lt (length bs) n) None (Some (take n bs, drop n bs))

-- a number as bytes
abbrev pub one_byte : ℕ → List ℕ
one_byte n = n ∷ []

abbrev pub two_bytes : ℕ → List ℕ
two_bytes n = n / 256 ∷ n % 256 ∷ []

abbrev pub four_bytes : ℕ → List ℕ
four_bytes n = two_bytes (n / 65536) ++ two_bytes (n % 65536)

-- ys written over xs from `at` on, and all else of xs as it was
abbrev pub over : List ℕ → ℕ → List ℕ → List ℕ
over xs at ys = take at xs ++ (ys ++ drop (at + length ys) xs)

-- where n bytes end that are written from `at` on into `room` bytes, if there is room for all of them
abbrev pub placed : ℕ → ℕ → ℕ → Option ℕ
placed room at n = cond (nat_lt room (at + n)) None (Some (at + n))

-- xs behind that: as it was, if there is no room
abbrev pub placed_at : List ℕ → ℕ → List ℕ → List ℕ
placed_at xs at ys = cond (nat_lt (length xs) (at + length ys)) xs (over xs at ys)
