-- When a format's reader and writer fit each other.
use Rattle.std.specs.Prelude.{◌≡◌, ℕ, ◌^◌, ◌<◌, List, ◌++◌, length, Some}
use Rattle.wire.specs.Bytes.{Read, four, four_bytes, one, one_byte, some, two, two_bytes}
use Rattle.std.specs.List.{AllByRecursion}

-- each is a byte
abbrev pub Bytes : List ℕ → Type 0
Bytes bs = AllByRecursion (λ b. b < 256) bs

-- back: what was written is read back, and all that stands behind it is left.
-- only: whatever is read is something that can be written, and its bytes are exactly those that writing it gives.
pub record Exact {A : Type 0} (reads : List ℕ → Read A) (bytes : A → List ℕ) (Fits : A → Type 0) : Type 0 where
  pub back : (a : A) (rest : List ℕ) → Fits a → reads (bytes a ++ rest) ≡ Some (a, rest)
  pub only : (bs : List ℕ) (a : A) (rest : List ℕ) → Bytes bs → reads bs ≡ Some (a, rest) → Fits a × (bs ≡ bytes a ++ rest)

-- numbers of one, two and four bytes, and runs of bytes
pub record Numbers : Type 0 where
  pub one_byte : Exact one one_byte (λ n. n < 256)
  pub two_bytes : Exact two two_bytes (λ n. n < 65536)
  pub four_bytes : Exact four four_bytes (λ n. n < 2 ^ 32)
  pub some_bytes : (n : ℕ) → Exact (some n) (λ ys. ys) (λ ys. length ys ≡ n)
