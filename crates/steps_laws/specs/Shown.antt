-- What lent memory shows of a station: each step on that view is what the call on the memory itself gives and leaves.
use Rattle.std.specs.Prelude.{◌≡◌, ℕ, ◌+◌, true, cond, ◌&&◌, List, [], ◌∷◌, length, take, Ok, nat_lt, slice_set}
use Rattle.entries.specs.Entries.{laid}
use Rattle.entry.specs.declared.entry.Entry.{Entry}
use Rattle.message.specs.Letter.{Asks, Begins, Parts, Promises, Takes}
use Rattle.steps.specs.Calls.{begun_in, closed_in, decided_in, fits_part, live_after, taken_in}
use Rattle.steps.specs.Heads.{ask_head, count_head, stopped_head}
use Rattle.steps.specs.Memory.{best_given, best_heard, copied, fits_best, fits_copy, fits_heard, fits_log, fits_more, given_in, heard_in, led_in, proposed_in}
use Rattle.steps.specs.Steps.{Done, Laid, Promised, Renewed, Settled, asks, behind, closes, decides, gets, leads, on_head, proposes, stops, viewed}
use Rattle.steps.specs.declared.head.Head.{Head}
use Rattle.store.specs.Store.{Store, whole}

-- In memory that fits (a log and a best log, the store before the council and the live one): the same head or refusal, the same view after it,
-- the same written and sent. A call that is refused leaves the memory as it was.
pub record ShownIn (h : Head) (log best : List Entry) (base live : Store) : Type 0 where
  pub ask : (b : ℕ) →
      asks b (viewed h log best base live) ≡ on_head (ask_head b h) [] (λ u. Done (viewed u log best base live) (Promised b ∷ []) (Asks h.term b ∷ []))
  pub promise : (t b : ℕ) → fits_copy h (length log) (length best) ≡ true →
      gets (Asks t b) (viewed h log best base live) ≡
      on_head (given_in t b log best h) (behind t (viewed h log best base live))
      (λ u. Done (viewed u log (best_given b log best h) base live) (Promised b ∷ []) (Promises h.term b h.me h.ballot (take h.len log) ∷ []))
  pub hear : (t b from had : ℕ) (es : List Entry) → fits_heard (length es) (length best) ≡ true →
      gets (Promises t b from had es) (viewed h log best base live) ≡
      on_head (heard_in t b from had es best h) (behind t (viewed h log best base live)) (λ u. Done (viewed u log (best_heard from had es best h) base live) [] [])
  pub lead : fits_best h (length log) (length best) ≡ true →
      leads (viewed h log best base live) ≡
      on_head (led_in best log h) []
      (λ u. Done (viewed u (copied h.best best log) best base live) (Laid h.asking 0 (take h.best best) ∷ [])
      (Parts h.term h.asking 0 (take h.best best) ∷ Takes h.term h.asking h.me h.best ∷ []))
  pub propose : (e : Entry) → fits_more h (length log) ≡ true →
      proposes e (viewed h log best base live) ≡
      on_head (proposed_in e log h) []
      (λ u. Done (viewed u (slice_set log h.len e) best base live) (Laid h.leading h.len (e ∷ []) ∷ [])
      (Parts h.term h.leading h.len (e ∷ []) ∷ Takes h.term h.leading h.me (h.len + 1) ∷ []))
  pub part : (t b p : ℕ) (es : List Entry) → fits_part p (length es) (length log) h ≡ true →
      gets (Parts t b p es) (viewed h log best base live) ≡
      on_head (taken_in t b p es log h) (behind t (viewed h log best base live))
      (λ u. Done (viewed u (laid p es log) best base live) (Promised b ∷ Laid b p es ∷ []) (Takes h.term b h.me (p + length es) ∷ []))
  pub count : (t b from n : ℕ) →
      gets (Takes t b from n) (viewed h log best base live) ≡
      on_head (count_head t b from n h) (behind t (viewed h log best base live)) (λ u. Done (viewed u log best base live) [] [])
  pub decide : (k : ℕ) → (fits_log h (length log) && whole live) ≡ true →
      decides k (viewed h log best base live) ≡
      on_head (decided_in k log live h) [] (λ u. Done (viewed u log best base (live_after (Ok u) log h live)) (cond (nat_lt h.sure k) (Settled k ∷ []) []) [])
  pub close : (fits_log h (length log) && (whole base && whole live)) ≡ true →
      closes (viewed h log best base live) ≡
      on_head (closed_in log base live h) [] (λ u. Done (viewed u log best live live) (Renewed ∷ []) (Begins u.term u.members u.before live ∷ []))
  pub begin : (t members before : ℕ) (page : Store) → (whole page && (whole base && whole live)) ≡ true →
      gets (Begins t members before page) (viewed h log best base live) ≡
      on_head (begun_in t members before page base live h) (behind t (viewed h log best base live)) (λ u. Done (viewed u log best page page) (Renewed ∷ []) [])
  pub stop : stops (viewed h log best base live) ≡ viewed (stopped_head h) log best base live

abbrev pub Shown : Type 0
Shown = (h : Head) (log best : List Entry) (base live : Store) → ShownIn h log best base live
