-- What is promised of the steps: each a type, of which a term is the proof.
use Rattle.std.specs.Prelude.{◌≡◌, ℕ, ◌+◌, ◌<◌, ◌≤◌, ◌⊎◌, List, length, take, drop, Ok}
use Rattle.council.specs.Log.{Prefix, made, requests_in}
use Rattle.council.specs.Promises.{Placed}
use Rattle.council.specs.Quorum.{Members, Sound}
use Rattle.council.specs.Rules.{Anything, Ask, Begin, Log, Msg, Net, Promise, Reach, Station, Step, Took, ◌∈◌, known}
use Rattle.entry.specs.declared.entry.Entry.{Entry}
use Rattle.message.specs.Letter.{Asks, Begins, Letter, Parts, Promises, Takes}
use Rattle.std.specs.List.{AllByRecursion}
use Rattle.steps.specs.Steps.{Done, Outcome, Refused, View, answers}
use Rattle.steps_laws.specs.World.{Happening, World, happened, happens, opening, run}
use Rattle.store.specs.Store.{played}

-- A view in order: the lengths are those of the logs, no more is sure than the log has,
-- and the live store has the sure entries done.
pub record Whole (v : View) : Type 0 where
  pub len : v.head.len ≡ length v.log
  pub best : v.head.best ≡ length v.best
  pub fits : v.head.sure ≤ v.head.len
  pub live : v.live ≡ played v.base (requests_in (take v.head.sure v.log))

-- in the same council: what was promised and what was sure stays, the store before the council and the first entries of its log
pub record Firm (v u : View) : Type 0 where
  pub term : u.head.term ≡ v.head.term
  pub members : u.head.members ≡ v.head.members
  pub promised : v.head.promised ≤ u.head.promised
  pub before : u.head.before ≡ v.head.before
  pub base : u.base ≡ v.base
  pub sure : v.head.sure ≤ u.head.sure
  pub first : take v.head.sure u.log ≡ take v.head.sure v.log

abbrev pub Kept : View → View → Type 0
Kept v u = Whole u × ((v.head.term < u.head.term) ⊎ Firm v u)

abbrev pub KeptBy : View → Outcome → Type 0
KeptBy v (Refused r begin) = Unit {0}
KeptBy v (Done u written sent) = Kept v u

-- Each step by itself, whatever is in the air, also letters that nobody sent, keeps a view in order,
-- and what was promised and what is sure, unless it goes over into a later term.
abbrev pub Keeps : Type 0
Keeps = (x : Happening) (air : List Letter) (v : View) → Whole v → KeptBy v (happens x air v)

-- A station of the rules as its view shows it: all but the past, of which the view has the length and the store.
pub record Shows (i : ℕ) (v : View) (s : Station) : Type 0 where
  pub me : v.head.me ≡ i
  pub term : v.head.term ≡ s.term
  pub members : v.head.members ≡ s.members
  pub promised : v.head.promised ≡ s.promised
  pub ballot : v.head.ballot ≡ s.ballot
  pub log : v.log ≡ s.log
  pub sure : v.head.sure ≡ s.sure
  pub asking : v.head.asking ≡ s.asking
  pub leading : v.head.leading ≡ s.leading
  pub before : v.head.before ≡ length s.old
  pub base : v.base ≡ made s.old
  pub live : v.live ≡ made (known s)

-- what a letter means in the rules: a part is the end of a log that was sent, a begin has the length and the store of its past
abbrev pub Means : List Msg → Letter → Type 0
Means air (Asks t b) = Ask t b ∈ air
Means air (Promises t b from had l) = Promise t b from had l ∈ air
Means air (Parts t b p es) = (l : List Entry) × (Log t b l ∈ air) × (p ≤ length l) × (es ≡ drop p l)
Means air (Takes t b from n) = Took t b from n ∈ air
Means air (Begins t ms n s) = (o : List Entry) × (Begin t o ms ∈ air) × (n ≡ length o) × (s ≡ made o)

-- a world and a net of the rules that is the same
pub record Mirrors (w : World) (n : Net) : Type 0 where
  pub each : (i : ℕ) → Shows i (w.view i) (n.station i)
  pub air : AllByRecursion (Means n.air) w.air

-- Whatever happened is a run of the rules; and whatever happens next, at any station, is one step of it, or nothing that the rules see.
abbrev pub Refines : Type 0
Refines =
    (ms : Members) → Sound ms → (xs : List (ℕ × Happening)) → (n : Net) × Reach ms n × Mirrors (run xs (opening ms)) n ×
    ((i : ℕ) (x : Happening) → (m : Net) × ((m ≡ n) ⊎ Step Anything i n m) × Mirrors (happened i x (run xs (opening ms))) m)

-- where a station stands on a line: its past is its beginning, then come its sure entries, and its live store is what all these make
pub record At (line : List Entry) (v : View) : Type 0 where
  pub store : v.base ≡ made (take v.head.before line)
  pub next : take v.head.sure v.log ≡ take v.head.sure (drop v.head.before line)
  pub live : v.live ≡ made (take (v.head.before + v.head.sure) line)
  pub within : v.head.before + v.head.sure ≤ length line

-- THE MAIN PROMISE. Whatever happens, there is one line on which all stations stand.
abbrev pub OneLine : Type 0
OneLine =
    (ms : Members) → Sound ms → (xs : List (ℕ × Happening)) → (line : List Entry) × ((i : ℕ) → i < 16 → At line ((run xs (opening ms)).view i))

-- a station at two moments
pub record Onward (line more : List Entry) (v u : View) : Type 0 where
  pub here : At line v
  pub later : At more u
  pub grows : v.head.before + v.head.sure ≤ u.head.before + u.head.sure

-- The line only grows, and nobody goes back on it.
abbrev pub LineGrows : Type 0
LineGrows =
    (ms : Members) → Sound ms → (xs ys : List (ℕ × Happening)) → (line more : List Entry) × Prefix line more ×
    ((i : ℕ) → i < 16 → Onward line more ((run xs (opening ms)).view i) ((run ys (run xs (opening ms))).view i))

-- A word that a station answers is the one that the request got at its place on the line.
abbrev pub AnswersAtPlace : Type 0
AnswersAtPlace =
    (ms : Members) → Sound ms → (xs : List (ℕ × Happening)) → (line : List Entry) × ((i : ℕ) → i < 16 → At line ((run xs (opening ms)).view i)) ×
    ((i c n w : ℕ) → i < 16 → answers c n ((run xs (opening ms)).view i).live ≡ Ok w → Placed line c n w)

-- Two stations that answer the same request, at one moment or at two, answer the same.
abbrev pub OneWord : Type 0
OneWord =
    (ms : Members) → Sound ms → (xs ys : List (ℕ × Happening)) (i j c n w u : ℕ) → answers c n ((run xs (opening ms)).view i).live ≡ Ok w →
    answers c n ((run ys (run xs (opening ms))).view j).live ≡ Ok u → w ≡ u
