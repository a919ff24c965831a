-- A station's steps: what each input makes of the station, what is written down, and what is sent.
use Rattle.std.specs.Prelude.{ℕ, ◌+◌, ◌-◌, cond, not, ◌&&◌, List, [], ◌∷◌, ◌++◌, length, take, drop, Ok, Err, Result, ◌==◌, nat_lt}
use Rattle.council.specs.Log.{requests_in}
use Rattle.entry.specs.declared.entry.Entry.{Entry}
use Rattle.message.specs.Letter.{Asks, Begins, Letter, Parts, Promises, Takes}
use Rattle.steps.specs.Heads.{ask_head, begin_head, close_head, count_head, counts_from, counts_itself, decide_head, give_head, hear_head, is_better, lead_head, propose_head, stopped_head, take_head}
use Rattle.steps.specs.declared.head.Head.{Head}
use Rattle.steps.specs.declared.refusal.Refusal.{Refusal}
use Rattle.steps.specs.declared.refusal.Refusal.TheVariants.{NotLast}
use Rattle.store.specs.Store.{Store, last, played, word}

-- a station: its head, the entries of its log, those of the best log that was promised to it,
-- the store before this council, and that store with the sure entries done on it
pub record View : Type 0 where
  pub head : Head
  pub log : List Entry
  pub best : List Entry
  pub base : Store
  pub live : Store

abbrev pub view : Head → List Entry → List Entry → Store → Store → View
view h log best base live = record { head = h; log = log; best = best; base = base; live = live }

-- what lent memory shows of it: as many entries as the head says
abbrev pub viewed : Head → List Entry → List Entry → Store → Store → View
viewed h log best base live = view h (take h.len log) (take h.best best) base live

-- what is written down: the ballot promised; entries of a ballot from a place on; how many are sure; or a new file, for a new council
pub data Written : Type 0 where
  Promised : (ballot : ℕ) → Written
  Laid : (ballot place : ℕ) (entries : List Entry) → Written
  Settled : (sure : ℕ) → Written
  Renewed : Written

-- refused, with a begin for whoever is behind; or done
pub data Outcome : Type 0 where
  Refused : Refusal → List Letter → Outcome
  Done : View → List Written → List Letter → Outcome

abbrev pub on_head : Result Head Refusal → List Letter → (Head → Outcome) → Outcome
on_head (Err r) begin k = Refused r begin
on_head (Ok u) begin k = k u

-- the station's own begin, for a message of an earlier term
abbrev pub behind : ℕ → View → List Letter
behind t v = cond (nat_lt t v.head.term) (Begins v.head.term v.head.members v.head.before v.base ∷ []) []

abbrev pub asks : ℕ → View → Outcome
asks b v = on_head (ask_head b v.head) [] (λ u. Done (view u v.log [] v.base v.live) (Promised b ∷ []) (Asks v.head.term b ∷ []))

-- on an ask: the station promises, and if it asks for this ballot itself, its own promise counts
abbrev pub gives : ℕ → ℕ → View → Outcome
gives t b v =
    on_head (give_head t b v.head) (behind t v)
    (λ u. Done (view u v.log (cond (counts_itself b v.head && is_better v.head.ballot v.head.len v.head) v.log v.best) v.base v.live) (Promised b ∷ [])
    (Promises v.head.term b v.head.me v.head.ballot v.log ∷ []))

-- on a promise
abbrev pub hears : ℕ → ℕ → ℕ → ℕ → List Entry → View → Outcome
hears t b from had l v =
    on_head (hear_head t b from had (length l) v.head) (behind t v)
    (λ u. Done (view u v.log (cond (counts_from from v.head && is_better had (length l) v.head) l v.best) v.base v.live) [] [])

abbrev pub leads : View → Outcome
leads v =
    on_head (lead_head v.best v.log v.head) []
    (λ u. Done (view u v.best [] v.base v.live) (Laid v.head.asking 0 v.best ∷ [])
    (Parts v.head.term v.head.asking 0 v.best ∷ Takes v.head.term v.head.asking v.head.me v.head.best ∷ []))

abbrev pub proposes : Entry → View → Outcome
proposes e v =
    on_head (propose_head e v.log v.head) []
    (λ u. Done (view u (v.log ++ (e ∷ [])) v.best v.base v.live) (Laid v.head.leading v.head.len (e ∷ []) ∷ [])
    (Parts v.head.term v.head.leading v.head.len (e ∷ []) ∷ Takes v.head.term v.head.leading v.head.me (v.head.len + 1) ∷ []))

-- on a part of a log
abbrev pub takes : ℕ → ℕ → ℕ → List Entry → View → Outcome
takes t b p es v =
    on_head (take_head t b p es v.log v.head) (behind t v)
    (λ u. Done (view u (take p v.log ++ es) v.best v.base v.live) (Promised b ∷ Laid b p es ∷ []) (Takes v.head.term b v.head.me (p + length es) ∷ []))

-- on a took
abbrev pub counts : ℕ → ℕ → ℕ → ℕ → View → Outcome
counts t b from n v = on_head (count_head t b from n v.head) (behind t v) (λ u. Done (view u v.log v.best v.base v.live) [] [])

-- the entries that become sure
abbrev pub fresh : Head → Head → List Entry → List Entry
fresh h u log = take (u.sure - h.sure) (drop h.sure log)

abbrev pub decides : ℕ → View → Outcome
decides k v =
    on_head (decide_head k v.head) []
    (λ u. Done (view u v.log v.best v.base (played v.live (requests_in (fresh v.head u v.log)))) (cond (nat_lt v.head.sure k) (Settled k ∷ []) []) [])

-- the store with all entries done is the store before the next council
abbrev pub closes : View → Outcome
closes v =
    on_head (close_head v.log v.head) []
    (λ u. Done (view u [] [] v.live v.live) (Renewed ∷ []) (Begins u.term u.members u.before v.live ∷ []))

-- on a begin
abbrev pub begins : ℕ → ℕ → ℕ → Store → View → Outcome
begins t members before store v = on_head (begin_head t members before v.head) (behind t v) (λ u. Done (view u [] [] store store) (Renewed ∷ []) [])

-- a message that comes
abbrev pub gets : Letter → View → Outcome
gets (Asks t b) v = gives t b v
gets (Promises t b from had l) v = hears t b from had l v
gets (Parts t b p es) v = takes t b p es v
gets (Takes t b from n) v = counts t b from n v
gets (Begins t members before store) v = begins t members before store v

-- a stop: what was in memory only is gone
abbrev pub stops : View → View
stops v = view (stopped_head v.head) v.log [] v.base v.live

-- the word for a client's last request, as the sure entries have it
abbrev pub answers : ℕ → ℕ → Store → Result ℕ Refusal
answers c n live = cond (not (n == 0) && last live c == n) (Ok (word live c)) (Err NotLast)
