-- The members of a council: a list in bytes, a set of bits in memory.
use Rattle.std.specs.Prelude.{ℕ, zero, suc, ◌+◌, ◌/◌, ◌%◌, ◌^◌, cond, not, ◌&&◌, List, [], ◌∷◌, length, Some, None, ◌==◌, bit_or, nat_lt}
use Rattle.wire.specs.Bytes.{Read, ◌then◌, one, some}
use Rattle.wire.specs.Judged.{judged}
use Rattle.wire.specs.declared.judged.Judged.{Judged}

-- the members found so far, and what is left of the list
pub record Walk : Type 0 where
  pub set : ℕ
  pub left : List ℕ

abbrev pub walked : ℕ → List ℕ → Walk
walked s ms = record { set = s; left = ms }

-- station i is a member if it comes next in the list
abbrev pub next : ℕ → ℕ → List ℕ → Walk
next i s [] = walked s []
next i s (m ∷ ms) = cond (m == i) (walked (bit_or s (2 ^ i)) ms) (walked s (m ∷ ms))

abbrev pub visited : ℕ → Walk → Walk
visited i w = next i w.set w.left

-- n stations visited, from i on
unfoldable pub walk : ℕ → ℕ → Walk → Walk
walk zero i w = w
walk (suc n) i w = walk n (i + 1) (visited i w)

-- the members that a list names: sound if all stations visited in turn use it up, and there is one at least
unfoldable pub members_in : List ℕ → Judged ℕ
members_in ms = judged (walk 16 0 (walked 0 ms)).set (length (walk 16 0 (walked 0 ms)).left == 0 && not (length ms == 0))

-- a list in bytes: how many, at most 16, and then each
abbrev pub list_of : List ℕ → Read (List ℕ)
list_of bs = one bs then λ n bs. cond (nat_lt 16 n) None (some n bs)

abbrev pub members_of : List ℕ → Read (Judged ℕ)
members_of bs = list_of bs then λ ms bs. Some (members_in ms, bs)

-- the members of a set among n stations from i on, rising: bit 0 says whether i is one
unfoldable pub listing : ℕ → ℕ → ℕ → List ℕ
listing zero i s = []
listing (suc n) i s = cond (s % 2 == 1) (i ∷ listing n (i + 1) (s / 2)) (listing n (i + 1) (s / 2))

-- a set as a list, and as bytes
abbrev pub listed : ℕ → List ℕ
listed s = listing 16 0 s

abbrev pub list_bytes : List ℕ → List ℕ
list_bytes ms = length ms ∷ ms
