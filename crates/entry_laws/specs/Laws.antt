-- Reading and writing entries fit each other.
use Rattle.std.specs.Prelude.{◌≡◌, ℕ, ◌+◌, ◌^◌, ◌<◌, ◌≤◌, Bool, true, cond, not, ◌&&◌, List, [], ◌∷◌, length, Some, None, ◌==◌, nat_le, nat_lt}
use Rattle.wire.specs.Bytes.{Read, ◌then◌}
use Rattle.wire.specs.Exact.{Bytes, Exact}
use Rattle.entry.specs.Entry.{Raw, Asks, Names, entry_bytes, entry_of, raw_bytes, raw_of}
use Rattle.entry.specs.Members.{members_in}
use Rattle.entry.specs.declared.entry.Entry.{Entry}
use Rattle.entry.specs.declared.entry.Entry.TheVariants.{Call, Close}
use Rattle.store.specs.Ask.{key_of}
use Rattle.store.specs.declared.ask.Ask.{Ask}
use Rattle.store.specs.declared.ask.Ask.TheVariants.{Put, Take, Look}
use Rattle.store.specs.declared.request.Request.{Request}

-- numbers that fit their fields, in range or not
abbrev pub AskFits : Ask → Type 0
AskFits (Put key value) = (key < 65536) × (value < 2 ^ 32)
AskFits (Take key amount) = (key < 65536) × (amount < 2 ^ 32)
AskFits (Look key) = key < 65536

pub record RequestFits (r : Request) : Type 0 where
  pub client : r.client < 256
  pub number : r.number < 2 ^ 32
  pub ask : AskFits r.ask

abbrev pub RawFits : Raw → Type 0
RawFits (Asks r) = RequestFits r
RawFits (Names ms) = (length ms ≤ 16) × Bytes ms

-- Bytes that are read as an entry are exactly those that begin with the bytes of one, in range or not;
-- any others are cut short, of an unknown kind, or name more than 16 members.
abbrev pub Forms : Type 0
Forms = Exact raw_of raw_bytes RawFits

-- in range as well: a key up to 1,023, a council of one member at least
abbrev pub EntryFits : Entry → Type 0
EntryFits (Call r) = RequestFits r × (key_of r.ask < 1024)
EntryFits (Close s) = (0 < s) × (s < 65536)

-- what is read and is in range
abbrev pub accepted : List ℕ → Read Entry
accepted bs = entry_of bs then λ f bs. cond f.sound (Some (f.value, bs)) None

-- Every entry is read back as it was written, and is accepted in one form only: the bytes that are written of it.
abbrev pub Entries : Type 0
Entries = Exact accepted entry_bytes EntryFits

-- stations, each above the one before, the first at least i
abbrev pub rising : ℕ → List ℕ → Bool
rising i [] = true
rising i (m ∷ ms) = nat_le i m && (nat_lt m 16 && rising (m + 1) ms)

-- A list of members is in range just if it is rising stations, and one at least.
abbrev pub Councils : Type 0
Councils = (ms : List ℕ) → (members_in ms).sound ≡ (rising 0 ms && not (length ms == 0))
