-- How a station changes in a step, and what is new about what it sends: all that the later proofs need to know of the steps.
use Rattle.std.proofs.Common.{◌≡◌, ℕ, ◌+◌, ◌%◌, ◌<◌, ◌≤◌, ◌⊎◌, List, [], ◌∷◌, ◌++◌, length}
use Rattle.council.proofs.State.{Backed, Held, Owned, Tidy}
use Rattle.council.specs.Log.{Closes, Prefix}
use Rattle.council.specs.Quorum.{Members}
use Rattle.council.specs.Rules.{Ask, Begin, Log, Msg, Promise, Station, Took, Upto, ◌∈◌}
use Rattle.entry.specs.declared.entry.Entry.{Entry}

-- what a station kept of what it was, within a term
pub record Same (s u : Station) : Type 0 where
  pub term : s.term ≡ u.term
  pub old : s.old ≡ u.old
  pub members : s.members ≡ u.members
  pub promised : s.promised ≤ u.promised
  pub took : Upto s.ballot (length s.log) u.ballot (length u.log)
  pub sure : s.sure ≤ u.sure
  pub asks : 1 ≤ u.asking → (u.asking ≡ s.asking) ⊎ (s.promised < u.asking)
  pub leads : 1 ≤ u.leading → ((u.leading ≡ s.leading) × Prefix s.log u.log) ⊎ (u.leading ≡ s.asking)

abbrev pub Later : Station → Station → Type 0
Later s u = (s.term < u.term) ⊎ Same s u

-- what the owner of ballots knows of the logs that went out in them
abbrev pub Seen : ℕ → List Msg → Station → Type 0
Seen i air s = (b : ℕ) (l : List Entry) → Log s.term b l ∈ air → b % 16 ≡ i → Owned s b l

-- what is new about each message that a step sends
pub record FreshPromise (i : ℕ) (air : List Msg) (s u : Station) (t b j h : ℕ) (l : List Entry) : Type 0 where
  pub from : j ≡ i
  pub term : t ≡ s.term
  pub stay : t ≡ u.term
  pub had : h ≡ s.ballot
  pub log : l ≡ s.log
  pub below : h < b
  pub now : b ≡ u.promised
  pub held : Held air t h l

pub record FreshLog (ms : Members) (i : ℕ) (air : List Msg) (s u : Station) (t b : ℕ) (l : List Entry) : Type 0 where
  pub term : t ≡ s.term
  pub owner : b % 16 ≡ i
  pub pos : 1 ≤ b
  pub way : (b ≡ s.asking) ⊎ ((b ≡ s.leading) × Prefix s.log l)
  pub stay : t ≡ u.term
  pub log : l ≡ u.log
  pub promised : b ≤ u.promised
  pub asks : u.asking ≡ b → ⊥
  pub tidy : Tidy l
  pub backed : Backed ms air t b l

pub record FreshTook (i : ℕ) (air : List Msg) (s u : Station) (t b j c : ℕ) : Type 0 where
  pub from : j ≡ i
  pub term : t ≡ s.term
  pub stay : t ≡ u.term
  pub above : s.promised ≤ b
  pub now : b ≡ u.promised
  pub ballot : b ≡ u.ballot
  pub count : c ≡ length u.log
  pub took : (l : List Entry) × (Log t b l ∈ air) × (length l ≡ c)

-- a council that the station closed its own to
pub record FreshBegin (s : Station) (t : ℕ) (o : List Entry) (cs : Members) : Type 0 where
  pub term : t ≡ s.term + 1
  pub old : o ≡ s.old ++ s.log
  pub before : List Entry
  pub last : Entry
  pub closes : Closes last cs
  pub ends : s.log ≡ before ++ (last ∷ [])
  pub sure : s.sure ≡ length s.log

abbrev pub Fresh : Members → ℕ → List Msg → List Msg → Station → Station → Msg → Type 0
Fresh ms i air new s u (Ask t b) = Unit {0}
Fresh ms i air new s u (Promise t b j h l) = FreshPromise i (new ++ air) s u t b j h l
Fresh ms i air new s u (Log t b l) = FreshLog ms i (new ++ air) s u t b l
Fresh ms i air new s u (Took t b j c) = FreshTook i (new ++ air) s u t b j c
-- sent again, or new
Fresh ms i air new s u (Begin t o cs) = (Begin t o cs ∈ air) ⊎ FreshBegin s t o cs
