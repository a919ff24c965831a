-- Each step keeps a view in order, and what is sure.
use Rattle.std.proofs.Common.{◌≡◌, ℕ, ◌+◌, ◌-◌, ◌<◌, ◌≤◌, max, Bool, true, false, cond, List, [], ◌∷◌, ◌++◌, length, take, drop, Some, None, Option, sym, refl, ap, ◌∙◌, inl, inr, arith}
use Rattle.council.proofs.Books.{requests_append}
use Rattle.council.specs.Log.{requests_in}
use Rattle.entry.specs.declared.entry.Entry.{Entry}
use Rattle.message.specs.Letter.{Asks, Begins, Letter, Parts, Promises, Takes}
use Rattle.quorum.specs.declared.tally.Tally.{Tally}
use Rattle.std.proofs.lemmas.List.{drop-take, length-append, length_push, length-take-le, take-append-drop, take-append-le, take-take}
use Rattle.steps.specs.Heads.{within}
use Rattle.steps.specs.Steps.{View, gets, stops, view}
use Rattle.steps_laws.proofs.Overlaps.{agree_keeps}
use Rattle.steps_laws.proofs.Tried.{Agrees, Joined, asked_view, counted_view, entered_view, gave_view, grew_view, heard_view, led_view, on_asks, on_begins, on_closes, on_counts, on_decides, on_gives, on_hears, on_leads, on_proposes, on_takes, sure_view, took_view}
use Rattle.steps_laws.specs.Laws.{Firm, Keeps, Kept, KeptBy, Whole}
use Rattle.steps_laws.specs.World.{again, ask, close, decide, get, gets_any, lead, letter_at, propose, stop}
use Rattle.store.specs.Store.{Store, played}
use Rattle.store_laws.proofs.Lists.{played_append}

-- the store with more entries done
live_more : (s : Store) (log : List Entry) (a k : ℕ) → a ≤ k →
    played (played s (requests_in (take a log))) (requests_in (take (k - a) (drop a log))) ≡ played s (requests_in (take k log))
live_more s log a k h =
    let e : a + (k - a) ≡ k = omega arith in
    let back = sym (drop-take a (k - a) log) ∙ ap (λ (n : ℕ). drop a (take n log)) e in
    let front = sym (take-take a k log h) in
    sym (played_append s (requests_in (take a log)) (requests_in (take (k - a) (drop a log)))) ∙
    ap (played s)
    (sym (requests_append (take a log) (take (k - a) (drop a log))) ∙
    ap requests_in ((λ i. front i ++ back i) ∙ take-append-drop a (take k log)))

-- the same entries sure, so the same store
same_live : (v : View) (log : List Entry) → Whole v → take v.head.sure log ≡ take v.head.sure v.log →
    v.live ≡ played v.base (requests_in (take v.head.sure log))
same_live v log W e = W.live ∙ ap (λ (l : List Entry). played v.base (requests_in l)) (sym e)

pub none_live : (s : Store) → s ≡ played s (requests_in [])
unfolding requests_in
none_live s = refl

-- a count and its log, the one or the other
either_best : (c : Bool) (n k : ℕ) (l m : List Entry) → n ≡ length l → k ≡ length m → cond c n k ≡ length (cond c l m)
either_best true n k l m p q = p
either_best false n k l m p q = q

-- a step within the council
firm : {v : View} {promised ballot len sure asking leading heard had best : ℕ} {tally : Tally} {log more : List Entry} {live : Store} →
    v.head.promised ≤ promised → v.head.sure ≤ sure → take v.head.sure log ≡ take v.head.sure v.log →
    Firm v (view (within v.head promised ballot len sure asking leading heard had best tally) log more v.base live)
firm h k e = record { term = refl; members = refl; promised = h; before = refl; base = refl; sure = k; first = e }

module _ (v : View) (W : Whole v) where
  pub kept_self : Kept v v
  kept_self = (W, inr (firm (omega arith) (omega arith) refl))

  pub kept_asked : (b : ℕ) → v.head.promised < b → Kept v (asked_view b v)
  kept_asked b h = (record { len = W.len; best = refl; fits = W.fits; live = W.live }, inr (firm (omega arith) (omega arith) refl))

  pub kept_gave : (b : ℕ) → v.head.promised ≤ b → Kept v (gave_view b v)
  kept_gave b h = (
    record { len = W.len; best = either_best _ _ _ v.log v.best W.len W.best; fits = W.fits; live = W.live },
    inr (firm (omega arith) (omega arith) refl),
  )

  pub kept_heard : (from had : ℕ) (l : List Entry) → Kept v (heard_view from had l v)
  kept_heard from had l = (
    record { len = W.len; best = either_best _ _ _ l v.best refl W.best; fits = W.fits; live = W.live },
    inr (firm (omega arith) (omega arith) refl),
  )

  pub kept_led : v.head.promised ≡ v.head.asking → Agrees 0 v.best v.log v.head → Kept v (led_view v)
  kept_led h a =
      let fits = W.fits in
      let e = agree_keeps v.head.sure 0 v.log v.best (omega arith) (omega (arith, W.len)) a.0 a.1 in
      (record { len = W.best; best = refl; fits = omega (arith, a.0, W.best); live = same_live v v.best W e }, inr (firm (omega arith) (omega arith) e))

  pub kept_grew : (e : Entry) → Kept v (grew_view e v)
  kept_grew e =
      let fits = W.fits in
      let same = take-append-le v.head.sure v.log (e ∷ []) (omega (arith, W.len)) in (
        record { len = omega (arith, W.len, length_push v.log e); best = W.best; fits = omega arith; live = same_live v (v.log ++ (e ∷ [])) W same },
        inr (firm (omega arith) (omega arith) same),
      )

  -- a part that joins begins within the log
  pub joins_low : (b p n : ℕ) → Joined b p n v.head → p ≤ length v.log
  joins_low b p n (inl j) = omega (arith, j.1, W.len)
  joins_low b p n (inr j) = omega (arith, j.1, W.fits, W.len)

  pub laid_length : (p : ℕ) (es : List Entry) → p ≤ length v.log → p + length es ≡ length (take p v.log ++ es)
  laid_length p es low = omega (arith, length-append (take p v.log) es, length-take-le p v.log low)

  pub kept_took : (b p : ℕ) (es : List Entry) → v.head.promised ≤ b → Joined b p (length es) v.head → Agrees p es v.log v.head → Kept v (took_view b p es v)
  kept_took b p es h j a =
      let low = joins_low b p (length es) j in
      let same = agree_keeps v.head.sure p v.log es low (omega (arith, W.fits, W.len)) a.0 a.1 in
      (record { len = laid_length p es low; best = W.best; fits = a.0; live = same_live v (take p v.log ++ es) W same }, inr (firm (omega arith) (omega arith) same))

  pub kept_counted : (b from n : ℕ) → Kept v (counted_view b from n v)
  kept_counted b from n = (record { len = W.len; best = W.best; fits = W.fits; live = W.live }, inr (firm (omega arith) (omega arith) refl))

  pub kept_sure : (k : ℕ) → k ≤ v.head.len → Kept v (sure_view k v)
  kept_sure k low =
      let fits = W.fits in (
        record {
          len = W.len;
          best = W.best;
          fits = omega arith;
          live =
              ap (λ (s : Store). played s (requests_in (take (max v.head.sure k - v.head.sure) (drop v.head.sure v.log)))) W.live ∙
              live_more v.base v.log v.head.sure (max v.head.sure k) (omega arith);
        },
        inr (firm (omega arith) (omega arith) refl),
      )

  pub kept_entered : (t members before : ℕ) (store : Store) → v.head.term < t → Kept v (entered_view t members before store v)
  kept_entered t members before store h = (record { len = refl; best = refl; fits = omega arith; live = none_live store }, inl h)

  pub kept_stopped : Kept v (stops v)
  kept_stopped = (record { len = W.len; best = refl; fits = W.fits; live = W.live }, inr (firm (omega arith) (omega arith) refl))

  keeps_letter : (x : Letter) → KeptBy v (gets x v)
  keeps_letter (Asks t b) = on_gives (KeptBy v) v t b (λ _. tt) (λ _ _ h _. kept_gave b h)
  keeps_letter (Promises t b from had l) = on_hears (KeptBy v) v t b from had l (λ _. tt) (λ _ _. kept_heard from had l)
  keeps_letter (Parts t b p es) = on_takes (KeptBy v) v t b p es (λ _. tt) (λ _ _ h j a. kept_took b p es h j a)
  keeps_letter (Takes t b from n) = on_counts (KeptBy v) v t b from n (λ _. tt) (λ _. kept_counted b from n)
  keeps_letter (Begins t ms n s) = on_begins (KeptBy v) v t ms n s (λ _. tt) (λ h. kept_entered t ms n s h)

  keeps_any : (x : Option Letter) → KeptBy v (gets_any x v)
  keeps_any None = kept_self
  keeps_any (Some x) = keeps_letter x

pub keeps : Keeps
keeps (ask b) air v W = on_asks (KeptBy v) v b (λ _. tt) (λ _ _ h _. kept_asked v W b h)
keeps (get k) air v W = keeps_any v W (letter_at air k)
keeps lead air v W = on_leads (KeptBy v) v (λ _. tt) (λ _ _ h _ a. kept_led v W h a)
keeps (propose e) air v W = on_proposes (KeptBy v) v e (λ _. tt) (λ _ _ _ _ _. kept_grew v W e)
keeps (decide k) air v W = on_decides (KeptBy v) v k (λ _. tt) (λ _ _ low. kept_sure v W k low)
keeps close air v W = on_closes (KeptBy v) v (λ _. tt) (λ _ _ _. kept_entered v W _ _ _ _ (omega arith))
keeps stop air v W = kept_stopped v W
keeps again air v W = kept_self v W
