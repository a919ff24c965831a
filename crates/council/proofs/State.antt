-- The invariants: of one station by itself, of each message against the station that it is about, and of pairs of messages.
use Rattle.std.proofs.Common.{◌≡◌, ℕ, ◌%◌, ◌<◌, ◌≤◌, ◌⊎◌, List, [], ◌∷◌, ◌++◌, length}
use Rattle.council.specs.Log.{Follows, Line, Prefix}
use Rattle.council.specs.Promises.{Past}
use Rattle.council.specs.Quorum.{Members, Most, IsMember}
use Rattle.council.specs.Rules.{Ask, Begin, Heard, Log, Msg, Promise, Station, Took, Upto, ◌∈◌}
use Rattle.entry.specs.declared.entry.Entry.{Entry}

-- a log that grew entry by entry
pub data Tidy : List Entry → Type 0 where
  nothing : Tidy []
  push : {l : List Entry} {e : Entry} → Tidy l → Follows l e → Tidy (l ++ (e ∷ []))

-- a log that went out rests on promises from most members
pub record Backed (ms : Members) (air : List Msg) (t b : ℕ) (l : List Entry) : Type 0 where
  pub old : List Entry
  pub cs : Members
  pub past : Past ms air t old cs
  pub qs : Members
  pub from : ℕ
  pub had : ℕ
  pub top : List Entry
  pub most : Most cs qs
  pub given : Promise t b from had top ∈ air
  pub each : (j : ℕ) → IsMember j cs → IsMember j qs → Heard air t b j had (length top)
  pub pre : Prefix top l

-- a log of a ballot went out in it, or it is none
abbrev pub Held : List Msg → ℕ → ℕ → List Entry → Type 0
Held air t b l = ((b ≡ 0) × (l ≡ [])) ⊎ (Log t b l ∈ air)

-- a station by itself
pub record Own (ms : Members) (i : ℕ) (air : List Msg) (s : Station) : Type 0 where
  pub low : s.ballot ≤ s.promised
  pub asks : 1 ≤ s.asking → (s.asking % 16 ≡ i) × (s.ballot < s.asking) × (s.asking ≤ s.promised)
  pub leads : 1 ≤ s.leading → (s.leading ≡ s.ballot) × (s.leading % 16 ≡ i)
  pub holds : Held air s.term s.ballot s.log
  pub past : Past ms air s.term s.old s.members

-- a term that a station has left, or is in
abbrev pub Gone : ℕ → Station → Type 0
Gone t s = t < s.term

abbrev pub Here : ℕ → Station → Type 0
Here t s = t ≡ s.term

-- what the owner of a ballot of its term knows of a log that went out in it
pub record Owned (s : Station) (b : ℕ) (l : List Entry) : Type 0 where
  pub promised : b ≤ s.promised
  pub asks : s.asking ≡ b → ⊥
  pub leads : s.leading ≡ b → Prefix l s.log

pub record GoodPromise (f : ℕ → Station) (air : List Msg) (t b j h : ℕ) (l : List Entry) : Type 0 where
  pub below : h < b
  pub held : Held air t h l
  pub kept : Gone t (f j) ⊎ (Here t (f j) × (b ≤ (f j).promised))

pub record GoodLog (ms : Members) (f : ℕ → Station) (air : List Msg) (t b : ℕ) (l : List Entry) : Type 0 where
  pub pos : 1 ≤ b
  pub tidy : Tidy l
  pub backed : Backed ms air t b l
  pub kept : Gone t (f (b % 16)) ⊎ (Here t (f (b % 16)) × Owned (f (b % 16)) b l)

pub record GoodTook (f : ℕ → Station) (air : List Msg) (t b j c : ℕ) : Type 0 where
  pub took : (l : List Entry) × (Log t b l ∈ air) × (length l ≡ c)
  pub kept : Gone t (f j) ⊎ (Here t (f j) × Upto b c (f j).ballot (length (f j).log))

abbrev pub Good : Members → (ℕ → Station) → List Msg → Msg → Type 0
Good ms f air (Ask t b) = Unit {0}
Good ms f air (Promise t b j h l) = GoodPromise f air t b j h l
Good ms f air (Log t b l) = GoodLog ms f air t b l
Good ms f air (Took t b j c) = GoodTook f air t b j c
Good ms f air (Begin t o cs) = Unit {0}

pub record Safe (ms : Members) (f : ℕ → Station) (air : List Msg) : Type 0 where
  pub own : (i : ℕ) → Own ms i air (f i)
  pub good : (x : Msg) → x ∈ air → Good ms f air x
  pub line : (t b : ℕ) (k l : List Entry) → Log t b k ∈ air → Log t b l ∈ air → Line k l
  pub votes : (t b j h : ℕ) (l : List Entry) (d c : ℕ) → Promise t b j h l ∈ air → Took t d j c ∈ air → d < b → Upto d c h (length l)
