-- What is promised of the whole, and of its parts: each a type, of which a term is the proof.
-- All of it holds from any sound first council on, after any steps at any stations.
use Rattle.std.specs.Prelude.{◌≡◌, ℕ, ◌+◌, ◌%◌, ◌^◌, ◌<◌, ◌≤◌, ◌⊎◌, List, [], ◌∷◌, ◌++◌, length, take, drop, Ok}
use Rattle.council.specs.Log.{Closes, Line, Prefix, made, requests_in}
use Rattle.council.specs.Quorum.{Members, Most, Sound, IsMember}
use Rattle.council.specs.Rules.{Begin, HasTaken, Log, Msg, Net, Reach, Run, Station, Step, Took, Upto, ◌∈◌, known}
use Rattle.entry.specs.declared.entry.Entry.{Entry}
use Rattle.entry.specs.declared.entry.Entry.TheVariants.{Call, Close}
use Rattle.store.specs.Store.{bare, last, outcome, word}
use Rattle.store.specs.declared.request.Request.{Request}
use Rattle.store_laws.specs.Laws.{following, numbers}

-- THE MAIN PROMISE. There is one past: of what any two stations know to be decided, in whatever councils,
-- at one moment or at two, one is a beginning of the other.
abbrev pub Main : Type 0
Main = (ms : Members) → Sound ms → (n m : Net) → Reach ms n → Run n m → (i j : ℕ) → Line (known (n.station i)) (known (m.station j))

-- And no station ever goes back on what it knows.
abbrev pub Grows : Type 0
Grows = (ms : Members) → Sound ms → (n m : Net) → Reach ms n → Run n m → (i : ℕ) → Prefix (known (n.station i)) (known (m.station i))

-- Within a council, of the logs that went out in one ballot one is a beginning of the other.
abbrev pub OneBallot : Type 0
OneBallot = (ms : Members) → Sound ms → (n : Net) → Reach ms n → (t b : ℕ) (k l : List Entry) → Log t b k ∈ n.air → Log t b l ∈ n.air → Line k l

-- What a station says that it took of a ballot went out in that ballot.
abbrev pub TookSent : Type 0
TookSent =
    (ms : Members) → Sound ms → (n : Net) → Reach ms n → (t b j c : ℕ) → Took t b j c ∈ n.air → (l : List Entry) × (Log t b l ∈ n.air) × (length l ≡ c)

-- the past and the members of a term's council: the first, or one that a begin was sent for
pub data Past (ms : Members) (air : List Msg) : ℕ → List Entry → Members → Type 0 where
  first : Past ms air 0 [] ms
  after : {t : ℕ} {o : List Entry} {cs : Members} → Begin t o cs ∈ air → Past ms air t o cs

-- most members of a term's council took k entries of a ballot
pub record Taken (ms : Members) (air : List Msg) (t b k : ℕ) : Type 0 where
  pub old : List Entry
  pub cs : Members
  pub past : Past ms air t old cs
  pub qs : Members
  pub most : Most cs qs
  pub each : (j : ℕ) → IsMember j cs → IsMember j qs → HasTaken air t b j k

-- What most members of a council took in a ballot stands at the beginning of whatever goes out in a higher one.
abbrev pub Carried : Type 0
Carried =
    (ms : Members) → Sound ms → (n : Net) → Reach ms n → (t b d k : ℕ) (l r : List Entry) → Taken ms n.air t b k → Log t b l ∈ n.air → k ≤ length l →
    Log t d r ∈ n.air → b < d → Prefix (take k l) r

-- Whoever is in a term, at whatever moment, has the same log of all councils before, and the same members.
abbrev pub SameCouncil : Type 0
SameCouncil =
    (ms : Members) → Sound ms → (n m : Net) → Reach ms n → Run n m → (i j : ℕ) → (n.station i).term ≡ (m.station j).term →
    ((n.station i).old ≡ (m.station j).old) × ((n.station i).members ≡ (m.station j).members)

-- how a council came to be: the one before decided a log that ends with a close; this names the members, and the past is all up to it
pub record Succeeds (ms : Members) (air : List Msg) (t : ℕ) (o : List Entry) (cs : Members) : Type 0 where
  pub prev : ℕ
  pub next : t ≡ prev + 1
  pub old : List Entry
  pub ds : Members
  pub past : Past ms air prev old ds
  pub before : List Entry
  pub last : Entry
  pub closes : Closes last cs
  pub is : o ≡ old ++ (before ++ (last ∷ []))
  pub ballot : ℕ
  pub taken : Taken ms air prev ballot (length (before ++ (last ∷ [])))
  pub out : Log prev ballot (before ++ (last ∷ [])) ∈ air

-- A council is the one that its predecessor's close names, and begins with exactly the log up to that close.
abbrev pub NextCouncil : Type 0
NextCouncil =
    (ms : Members) → Sound ms → (n : Net) → Reach ms n → (t : ℕ) (o : List Entry) (cs : Members) → Begin t o cs ∈ n.air → Succeeds ms n.air t o cs × Sound cs

-- what a station keeps of its word, from one moment to the next, while it is in a term
pub record Kept (s u : Station) : Type 0 where
  pub term : s.term ≡ u.term
  pub old : s.old ≡ u.old
  pub members : s.members ≡ u.members
  pub promised : s.promised ≤ u.promised
  pub took : Upto s.ballot (length s.log) u.ballot (length u.log)
  pub sure : s.sure ≤ u.sure

-- A promise is kept: within a term what was promised, the ballot of the log and its length in it, and how much is sure never fall; and nobody goes back to an earlier term.
abbrev pub KeepsWord : Type 0
KeepsWord = (ms : Members) → Sound ms → (n m : Net) → Reach ms n → Run n m → (i : ℕ) → ((n.station i).term < (m.station i).term) ⊎ Kept (n.station i) (m.station i)

-- Two stations that answer the same request of a client, at whatever moments, answer the same.
abbrev pub SameWord : Type 0
SameWord =
    (ms : Members) → Sound ms → (n m : Net) → Reach ms n → Run n m → (i j c : ℕ) →
    last (made (known (n.station i))) c ≡ last (made (known (m.station j))) c → word (made (known (n.station i))) c ≡ word (made (known (m.station j))) c

-- where in a line client c's request number k stands, and the word that it got there
pub record Placed (line : List Entry) (c k w : ℕ) : Type 0 where
  pub before : List Entry
  pub request : Request
  pub after : List Entry
  pub is : line ≡ before ++ (Call request ∷ after)
  pub client : request.client ≡ c
  pub number : request.number ≡ k
  pub got : outcome request (made before) ≡ Ok w

-- a line at which all stations of a net stand: what each knows begins it, each client's requests are done in it
-- in the order 1, 2, .., and the word that a station has for a client's last request is the one that this got at its place
pub record LineOf (n : Net) (line : List Entry) : Type 0 where
  pub begins : (i : ℕ) → i < 16 → Prefix (known (n.station i)) line
  pub in_turn : (c : ℕ) → numbers c bare (requests_in line) ≡ following 0 (last (made line) c)
  pub words : (i c k : ℕ) → i < 16 → 1 ≤ k → last (made (known (n.station i))) c ≡ k → Placed line c k (word (made (known (n.station i))) c)

-- There is one line, which only grows.
abbrev pub EachOnce : Type 0
EachOnce = (ms : Members) → Sound ms → (n m : Net) → Reach ms n → Run n m → (line more : List Entry) × LineOf n line × LineOf m more × Prefix line more

-- A part of a log, from p on, that joins what a station has, is read as the whole log: a station whose log is of that ballot has p entries or more,
-- one whose log is of a lower ballot is sure of p.
abbrev pub Part : Type 0
Part =
    (ms : Members) → Sound ms → (n : Net) → Reach ms n → (j b p : ℕ) (l : List Entry) → Log (n.station j).term b l ∈ n.air → p ≤ length l →
    (((n.station j).ballot ≡ b) × (p ≤ length (n.station j).log)) ⊎ (((n.station j).ballot < b) × (p ≤ (n.station j).sure)) →
    take p (n.station j).log ++ drop p l ≡ l

-- steps, one after the other, by stations of qs alone
pub data Path (may : Entry → Type 0) (qs : Members) (n : Net) : Net → Type 0 where
  none : Path may qs n n
  more : {m o : Net} (j : ℕ) → Path may qs n m → IsMember j qs → Step may j m o → Path may qs n o

-- proposed on the way: the entry, or a close to the same council, which it takes where the log is full; or nothing at all
abbrev pub OnlyThese : Entry → Members → Entry → Type 0
OnlyThese e cs f = (f ≡ e) ⊎ (f ≡ Close cs)

abbrev pub Nothing : Entry → Type 0
Nothing f = ⊥

-- a station knows, last of all, entry e
pub record Latest (s : Station) (e : Entry) : Type 0 where
  pub before : List Entry
  pub is : known s ≡ before ++ (e ∷ [])

-- by such steps every member in qs comes to know, last of all, entry e
pub record Brings (qs : Members) (cs : Members) (n : Net) (e : Entry) : Type 0 where
  pub end : Net
  pub path : Path (OnlyThese e cs) qs n end
  pub each : (j : ℕ) → IsMember j cs → IsMember j qs → Latest (end.station j) e

-- by steps that propose nothing every member in qs comes into the next term: a close had gone out before
pub record Passes (qs : Members) (cs : Members) (n : Net) (t : ℕ) : Type 0 where
  pub end : Net
  pub path : Path Nothing qs n end
  pub each : (j : ℕ) → IsMember j cs → IsMember j qs → (end.station j).term ≡ t + 1

-- Nobody is stuck. Most members of a council, none of them in a later one, can by themselves bring an entry, be it a request or a close,
-- into what each of them knows, or the council to a close that went out before; as long as one of them has a ballot left above what they promised, and terms last.
abbrev pub Lively : Type 0
Lively =
    (ms : Members) → Sound ms → (n : Net) → Reach ms n → (t : ℕ) (o : List Entry) (cs qs : Members) → Past ms n.air t o cs → Most cs qs →
    ((j : ℕ) → IsMember j cs → IsMember j qs → (n.station j).term ≤ t) → t < 65535 → (i : ℕ) → IsMember i cs → IsMember i qs →
    (b : ℕ) → b % 16 ≡ i → 1 ≤ b → b < 2 ^ 32 → ((j : ℕ) → IsMember j cs → IsMember j qs → (n.station j).term ≡ t → (n.station j).promised < b) →
    (e : Entry) → ((ds : Members) → Closes e ds → Sound ds) → Brings qs cs n e ⊎ Passes qs cs n t
