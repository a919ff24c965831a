-- The rules: what a station keeps, what it sends, what it may do in one step.
-- Nothing is assumed of the radio: a message that comes late, twice, never or at another station
-- is a step taken late, twice, never or there. So the air is all that was ever sent.
use Rattle.std.specs.Prelude.{◌≡◌, ℕ, ◌+◌, ◌%◌, ◌^◌, ◌<◌, ◌≤◌, cond, ◌⊎◌, List, [], ◌∷◌, ◌++◌, length, take as first, ◌==◌}
use mathlib.Core.List.{Memᴰ}
use Rattle.council.specs.Log.{Closes, Follows, made}
use Rattle.council.specs.Quorum.{Members, Most, IsMember}
use Rattle.entry.specs.declared.entry.Entry.{Entry}
use Rattle.store.specs.Store.{last}

-- term: which council the station is in; old: the log of all councils before; members: of this council;
-- promised: it takes no part in lower ballots; ballot: in which its log was last taken; log: of this council;
-- sure: how many of its entries are decided. In memory only: the ballot that it asks for, and the one that it leads; 0 is none.
pub record Station : Type 0 where
  pub term : ℕ
  pub old : List Entry
  pub members : Members
  pub promised : ℕ
  pub ballot : ℕ
  pub log : List Entry
  pub sure : ℕ
  pub asking : ℕ
  pub leading : ℕ

-- all that a station knows to be decided, through all councils
abbrev pub known : Station → List Entry
known s = s.old ++ first s.sure s.log

-- Ask: a station wants to lead a ballot. Promise: another agrees, and sends the log that it has and that log's ballot.
-- Log: the log of a ballot, sent out. Took: a station took that many entries of it. Begin: a council begins, with this past and these members.
pub data Msg : Type 0 where
  Ask : (term ballot : ℕ) → Msg
  Promise : (term ballot from had : ℕ) → List Entry → Msg
  Log : (term ballot : ℕ) → List Entry → Msg
  Took : (term ballot from count : ℕ) → Msg
  Begin : (term : ℕ) → List Entry → Members → Msg

-- it was sent
infix 4 ◌∈◌
abbrev pub ◌∈◌ : Msg → List Msg → Type 0
m ∈ air = Memᴰ m air

-- a ballot with so many entries is no higher than another
abbrev pub Upto : ℕ → ℕ → ℕ → ℕ → Type 0
Upto b c d e = (b < d) ⊎ ((b ≡ d) × (c ≤ e))

-- station j promised ballot b, and sent a log that is no higher than `count` entries of ballot `had`
pub record Heard (air : List Msg) (t b j had count : ℕ) : Type 0 where
  pub was : ℕ
  pub log : List Entry
  pub given : Promise t b j was log ∈ air
  pub upto : Upto was (length log) had count

-- station j took at least k entries of ballot b
pub record HasTaken (air : List Msg) (t b j k : ℕ) : Type 0 where
  pub count : ℕ
  pub many : k ≤ count
  pub said : Took t b j count ∈ air

-- what a station becomes: by asking for a ballot, promising one, leading with a log, adding to its log, taking a log,
-- deciding, entering a term, stopping, and stopping with its promise written but not the log that it took
abbrev pub asked : ℕ → Station → Station
asked b s =
    record { term = s.term; old = s.old; members = s.members; promised = b; ballot = s.ballot; log = s.log; sure = s.sure; asking = b; leading = 0 }

abbrev pub gave : ℕ → Station → Station
gave b s =
    record {
      term = s.term;
      old = s.old;
      members = s.members;
      promised = b;
      ballot = s.ballot;
      log = s.log;
      sure = s.sure;
      asking = cond (s.asking == b) s.asking 0;
      leading = cond (s.leading == b) s.leading 0;
    }

abbrev pub leads : ℕ → List Entry → Station → Station
leads b l s = record { term = s.term; old = s.old; members = s.members; promised = b; ballot = b; log = l; sure = s.sure; asking = 0; leading = b }

abbrev pub grew : List Entry → Station → Station
grew l s =
    record { term = s.term; old = s.old; members = s.members; promised = s.promised; ballot = s.ballot; log = l; sure = s.sure; asking = s.asking; leading = s.leading }

abbrev pub followed : ℕ → List Entry → Station → Station
followed b l s =
    record {
      term = s.term;
      old = s.old;
      members = s.members;
      promised = b;
      ballot = b;
      log = l;
      sure = s.sure;
      asking = cond (s.asking == b) s.asking 0;
      leading = cond (s.leading == b) s.leading 0;
    }

abbrev pub decided : ℕ → Station → Station
decided k s =
    record { term = s.term; old = s.old; members = s.members; promised = s.promised; ballot = s.ballot; log = s.log; sure = k; asking = s.asking; leading = s.leading }

abbrev pub entered : ℕ → List Entry → Members → Station
entered t o ms = record { term = t; old = o; members = ms; promised = 0; ballot = 0; log = []; sure = 0; asking = 0; leading = 0 }

abbrev pub stopped : Station → Station
stopped s =
    record { term = s.term; old = s.old; members = s.members; promised = s.promised; ballot = s.ballot; log = s.log; sure = s.sure; asking = 0; leading = 0 }

abbrev pub torn : ℕ → Station → Station
torn b s = record { term = s.term; old = s.old; members = s.members; promised = b; ballot = s.ballot; log = s.log; sure = s.sure; asking = 0; leading = 0 }

-- One step of station i, with so much in the air: what it becomes, and what it sends. `may` says which entries may be proposed.
pub data Local (may : Entry → Type 0) (i : ℕ) (air : List Msg) (s : Station) : Station → List Msg → Type 0 where
  -- a member asks for a ballot of its own, above what it promised
  ask : (b : ℕ) → IsMember i s.members → b % 16 ≡ i → s.promised < b → b < 2 ^ 32 → Local may i air s (asked b s) (Ask s.term b ∷ [])
  -- on an ask, a member promises a ballot that is not below what it promised, and above its log's
  promise : (b : ℕ) → IsMember i s.members → Ask s.term b ∈ air → s.promised ≤ b → s.ballot < b →
      Local may i air s (gave b s) (Promise s.term b i s.ballot s.log ∷ [])
  -- a member that still asks for what it promised, and was promised it by most, leads with the highest log among the promises, and the longest of those
  lead : (qs : Members) (from had : ℕ) (l : List Entry) → IsMember i s.members → 1 ≤ s.asking → s.promised ≡ s.asking → Most s.members qs →
      Promise s.term s.asking from had l ∈ air → ((j : ℕ) → IsMember j s.members → IsMember j qs → Heard air s.term s.asking j had (length l)) →
      Local may i air s (leads s.asking l s) (Took s.term s.asking i (length l) ∷ Log s.term s.asking l ∷ [])
  -- a leader adds an entry to its log
  propose : (e : Entry) → may e → IsMember i s.members → 1 ≤ s.leading → s.promised ≡ s.leading → Follows s.log e →
      Local may i air s (grew (s.log ++ (e ∷ [])) s)
      (Took s.term s.leading i (length s.log + 1) ∷ Log s.term s.leading (s.log ++ (e ∷ [])) ∷ [])
  -- a member takes a log of a ballot not below what it promised, if its own is of a lower ballot, or of the same and not longer
  take : (b : ℕ) (l : List Entry) → IsMember i s.members → Log s.term b l ∈ air → s.promised ≤ b → Upto s.ballot (length s.log) b (length l) →
      Local may i air s (followed b l s) (Took s.term b i (length l) ∷ [])
  -- the first k entries of a log are decided when most members took k or more of its ballot
  decide : (k : ℕ) (qs : Members) → Most s.members qs → ((j : ℕ) → IsMember j s.members → IsMember j qs → HasTaken air s.term s.ballot j k) →
      s.sure ≤ k → k ≤ length s.log → Local may i air s (decided k s) []
  -- a council whose whole log is decided, and ends with a close, gives way to the one that this names
  close : (l : List Entry) (e : Entry) (ms : Members) → s.log ≡ l ++ (e ∷ []) → Closes e ms → s.sure ≡ length s.log → s.term < 65535 →
      Local may i air s (entered (s.term + 1) (s.old ++ s.log) ms) (Begin (s.term + 1) (s.old ++ s.log) ms ∷ [])
  -- a station enters a later term by its begin
  enter : (t : ℕ) (o : List Entry) (ms : Members) → Begin t o ms ∈ air → s.term < t → Local may i air s (entered t o ms) []
  -- it sends the begin of its own term again, to whoever is behind
  again : 1 ≤ s.term → Local may i air s s (Begin s.term s.old s.members ∷ [])
  -- it answers client c, whose last request is number n
  answer : (c n : ℕ) → 1 ≤ n → last (made (known s)) c ≡ n → Local may i air s s []
  -- it stops, and comes up with what it had written; the stop may fall inside a take, between the promise and the log
  stop : Local may i air s (stopped s) []
  stop_torn : (b : ℕ) (l : List Entry) → Log s.term b l ∈ air → s.promised ≤ b → Local may i air s (torn b s) []

-- all stations, and the air
pub record Net : Type 0 where
  pub station : ℕ → Station
  pub air : List Msg

abbrev pub put : ℕ → Station → (ℕ → Station) → ℕ → Station
put i s f j = cond (j == i) s (f j)

-- the one rule for the whole: some station takes a step
pub data Step (may : Entry → Type 0) (i : ℕ) (n : Net) : Net → Type 0 where
  step : {u : Station} {new : List Msg} → Local may i n.air (n.station i) u new →
      Step may i n (record { station = put i u n.station; air = new ++ n.air })

abbrev pub Anything : Entry → Type 0
Anything e = Unit {0}

-- as it all begins: every station is given the first council
abbrev pub opening : Members → Net
opening ms = record { station = λ i. entered 0 [] ms; air = [] }

-- steps, one after the other, at any stations
pub data Run (n : Net) : Net → Type 0 where
  none : Run n n
  more : {m o : Net} (i : ℕ) → Run n m → Step Anything i m o → Run n o

abbrev pub Reach : Members → Net → Type 0
Reach ms n = Run (opening ms) n
