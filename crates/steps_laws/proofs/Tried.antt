-- Each step is refused, or passes its tests: then it is done, and what they tell holds. All that is proved of a step goes through here.
use Rattle.std.proofs.Common.{◌≡◌, ℕ, ◌+◌, ◌-◌, ◌%◌, ◌<◌, ◌≤◌, Bool, true, false, cond, not, ◌&&◌, ◌||◌, eqb, ltb, leb, ◌⊎◌, List, [], ◌∷◌, ◌++◌, length, take, Err, Result, sym, refl, inl, inr, arith}
use Rattle.entry.specs.declared.entry.Entry.{Entry}
use Rattle.message.specs.Letter.{Asks, Begins, Parts, Promises, Takes}
use Rattle.quorum.specs.Sets.{is_most}
use Rattle.quorum.specs.Tally.{most_took}
use Rattle.std.proofs.lemmas.Bool.{and_parts, eqb-false, eqb-true, leb-false, leb-true, ltb-false, ltb-true, not-false, or_parts}
use Rattle.steps.specs.Heads.{agree, asked_head, closes_at, counted_head, counts_from, counts_itself, ends_closed, entered_head, gave_head, grew_head, has_place, heard_head, is_better, joins, keeps_sure, led_head, member, sure_head, took_head}
use Rattle.steps.specs.Steps.{Done, Laid, Outcome, Promised, Refused, Renewed, Settled, View, asks, begins, behind, closes, counts, decides, fresh, gives, hears, leads, on_head, proposes, takes, view}
use Rattle.steps.specs.declared.head.Head.{Head}
use Rattle.steps.specs.declared.refusal.Refusal.{Refusal}
use Rattle.steps.specs.declared.refusal.Refusal.TheVariants.{BelowPromise, LogFull, NoJoin, NoMember, NotClosed, NotLeading, NotOwn, NotPromised, NotTaken, OtherTerm}
use Rattle.council.specs.Log.{requests_in}
use Rattle.store.specs.Store.{Store, played}

-- one test
pub passes : (R : Result Head Refusal → Type 0) (bad : Bool) (why : Refusal) (rest : Result Head Refusal) → ((r : Refusal) → R (Err r)) → (bad ≡ false → R rest) →
    R (cond bad (Err why) rest)
passes R true why rest refused done = refused why
passes R false why rest refused done = done refl

-- the views that steps give
abbrev pub asked_view : ℕ → View → View
asked_view b v = view (asked_head b v.head) v.log [] v.base v.live

abbrev pub gave_view : ℕ → View → View
gave_view b v =
    view (heard_head (counts_itself b v.head) v.head.me v.head.ballot v.head.len (gave_head b v.head)) v.log
    (cond (counts_itself b v.head && is_better v.head.ballot v.head.len v.head) v.log v.best) v.base v.live

abbrev pub heard_view : ℕ → ℕ → List Entry → View → View
heard_view from had l v =
    view (heard_head (counts_from from v.head) from had (length l) v.head) v.log
    (cond (counts_from from v.head && is_better had (length l) v.head) l v.best) v.base v.live

abbrev pub led_view : View → View
led_view v = view (led_head v.head) v.best [] v.base v.live

abbrev pub grew_view : Entry → View → View
grew_view e v = view (grew_head v.head) (v.log ++ (e ∷ [])) v.best v.base v.live

abbrev pub took_view : ℕ → ℕ → List Entry → View → View
took_view b p es v = view (took_head b (p + length es) v.head) (take p v.log ++ es) v.best v.base v.live

abbrev pub counted_view : ℕ → ℕ → ℕ → View → View
counted_view b from n v = view (counted_head b from n v.head) v.log v.best v.base v.live

abbrev pub sure_view : ℕ → View → View
sure_view k v = view (sure_head k v.head) v.log v.best v.base (played v.live (requests_in (fresh v.head (sure_head k v.head) v.log)))

abbrev pub entered_view : ℕ → ℕ → ℕ → Store → View → View
entered_view t members before store v = view (entered_head v.head.me t members before) [] [] store store

-- what each test tells
same_term : (t u : ℕ) → not (eqb t u) ≡ false → t ≡ u
same_term t u h = eqb-true t u (not-false (eqb t u) h)

-- what a part must be, to join
abbrev pub Joined : ℕ → ℕ → ℕ → Head → Type 0
Joined b p n h = ((h.ballot ≡ b) × (p ≤ h.len) × (h.len ≤ p + n)) ⊎ ((h.ballot < b) × (p ≤ h.sure))

pub joined : (b p n : ℕ) (h : Head) → joins b p n h ≡ true → Joined b p n h
joined b p n h = go (eqb b h.ballot) refl
  where
    go : (c : Bool) → eqb b h.ballot ≡ c → cond c (leb p h.len && leb h.len (p + n)) (ltb h.ballot b && leb p h.sure) ≡ true → Joined b p n h
    go true e y = let q = and_parts (leb p h.len) (leb h.len (p + n)) y in inl (sym (eqb-true b h.ballot e), leb-true p h.len q.0, leb-true h.len (p + n) q.1)
    go false e y = let q = and_parts (ltb h.ballot b) (leb p h.sure) y in inr (ltb-true h.ballot b q.0, leb-true p h.sure q.1)

-- entries that keep what is sure: they reach that far, and agree
abbrev pub Agrees : ℕ → List Entry → List Entry → Head → Type 0
Agrees p es log h = (h.sure ≤ p + length es) × (agree (h.sure - p) p log es ≡ true)

agrees : (p : ℕ) (es log : List Entry) (h : Head) → not (keeps_sure p es log h) ≡ false → Agrees p es log h
agrees p es log h n =
    let q = and_parts (leb h.sure (p + length es)) (agree (h.sure - p) p log es) (not-false (keeps_sure p es log h) n) in
    (leb-true h.sure (p + length es) q.0, q.1)

module _ (R : Outcome → Type 0) (v : View) where
  pub on_asks : (b : ℕ) → ((r : Refusal) → R (Refused r [])) →
      (member v.head ≡ true → b % 16 ≡ v.head.me → v.head.promised < b → b ≤ 4294967295 → R (Done (asked_view b v) (Promised b ∷ []) (Asks v.head.term b ∷ []))) →
      R (asks b v)
  on_asks b refused done =
      let K = λ (r : Result Head Refusal). R (on_head r [] (λ u. Done (view u v.log [] v.base v.live) (Promised b ∷ []) (Asks v.head.term b ∷ []))) in
      passes K (not (member v.head)) NoMember _ refused (λ m.
      passes K (not (eqb (b % 16) v.head.me) || (leb b v.head.promised || ltb 4294967295 b)) NotOwn _ refused (λ n.
      let p = or_parts (not (eqb (b % 16) v.head.me)) (leb b v.head.promised || ltb 4294967295 b) n in
      let q = or_parts (leb b v.head.promised) (ltb 4294967295 b) p.1 in
      done (not-false (member v.head) m) (same_term (b % 16) v.head.me p.0) (leb-false b v.head.promised q.0) (ltb-false 4294967295 b q.1)))

  pub on_gives : (t b : ℕ) → ((r : Refusal) → R (Refused r (behind t v))) →
      (t ≡ v.head.term → member v.head ≡ true → v.head.promised ≤ b → v.head.ballot < b →
      R (Done (gave_view b v) (Promised b ∷ []) (Promises v.head.term b v.head.me v.head.ballot v.log ∷ []))) →
      R (gives t b v)
  on_gives t b refused done =
      let K = λ (r : Result Head Refusal).
      R (on_head r (behind t v)
      (λ u. Done (view u v.log (cond (counts_itself b v.head && is_better v.head.ballot v.head.len v.head) v.log v.best) v.base v.live) (Promised b ∷ [])
      (Promises v.head.term b v.head.me v.head.ballot v.log ∷ []))) in
      passes K (not (eqb t v.head.term)) OtherTerm _ refused (λ e.
      passes K (not (member v.head)) NoMember _ refused (λ m.
      passes K (ltb b v.head.promised || leb b v.head.ballot) BelowPromise _ refused (λ n.
      let p = or_parts (ltb b v.head.promised) (leb b v.head.ballot) n in
      done (same_term t v.head.term e) (not-false (member v.head) m) (ltb-false b v.head.promised p.0) (leb-false b v.head.ballot p.1))))

  pub on_hears : (t b from had : ℕ) (l : List Entry) → ((r : Refusal) → R (Refused r (behind t v))) →
      (t ≡ v.head.term → b ≡ v.head.asking → R (Done (heard_view from had l v) [] [])) → R (hears t b from had l v)
  on_hears t b from had l refused done =
      let K = λ (r : Result Head Refusal).
      R (on_head r (behind t v) (λ u. Done (view u v.log (cond (counts_from from v.head && is_better had (length l) v.head) l v.best) v.base v.live) [] [])) in
      passes K (not (eqb t v.head.term)) OtherTerm _ refused (λ e.
      passes K (eqb b 0 || (not (eqb b v.head.asking) || not (eqb b v.head.promised))) NotPromised _ refused (λ n.
      let p = or_parts (eqb b 0) (not (eqb b v.head.asking) || not (eqb b v.head.promised)) n in
      let q = or_parts (not (eqb b v.head.asking)) (not (eqb b v.head.promised)) p.1 in
      done (same_term t v.head.term e) (same_term b v.head.asking q.0)))

  pub on_leads : ((r : Refusal) → R (Refused r [])) →
      (member v.head ≡ true → 1 ≤ v.head.asking → v.head.promised ≡ v.head.asking → is_most v.head.members v.head.heard ≡ true →
      Agrees 0 v.best v.log v.head →
      R (Done (led_view v) (Laid v.head.asking 0 v.best ∷ [])
      (Parts v.head.term v.head.asking 0 v.best ∷ Takes v.head.term v.head.asking v.head.me v.head.best ∷ []))) →
      R (leads v)
  on_leads refused done =
      let K = λ (r : Result Head Refusal).
      R (on_head r [] (λ u. Done (view u v.best [] v.base v.live) (Laid v.head.asking 0 v.best ∷ [])
      (Parts v.head.term v.head.asking 0 v.best ∷ Takes v.head.term v.head.asking v.head.me v.head.best ∷ []))) in
      passes K (not (member v.head)) NoMember _ refused (λ m.
      passes K (eqb v.head.asking 0 || (not (eqb v.head.promised v.head.asking) || not (is_most v.head.members v.head.heard))) NotPromised _ refused (λ n.
      passes K (not (keeps_sure 0 v.best v.log v.head)) NotPromised _ refused (λ a.
      let p = or_parts (eqb v.head.asking 0) (not (eqb v.head.promised v.head.asking) || not (is_most v.head.members v.head.heard)) n in
      let q = or_parts (not (eqb v.head.promised v.head.asking)) (not (is_most v.head.members v.head.heard)) p.1 in
      let z = eqb-false v.head.asking 0 p.0 in
      done (not-false (member v.head) m) (omega arith) (same_term v.head.promised v.head.asking q.0) (not-false (is_most v.head.members v.head.heard) q.1)
      (agrees 0 v.best v.log v.head a))))

  pub on_proposes : (e : Entry) → ((r : Refusal) → R (Refused r [])) →
      (member v.head ≡ true → 1 ≤ v.head.leading → v.head.promised ≡ v.head.leading → ends_closed v.head.len v.log ≡ false → has_place v.head.len e ≡ true →
      R (Done (grew_view e v) (Laid v.head.leading v.head.len (e ∷ []) ∷ [])
      (Parts v.head.term v.head.leading v.head.len (e ∷ []) ∷ Takes v.head.term v.head.leading v.head.me (v.head.len + 1) ∷ []))) →
      R (proposes e v)
  on_proposes e refused done =
      let K = λ (r : Result Head Refusal).
      R (on_head r [] (λ u. Done (view u (v.log ++ (e ∷ [])) v.best v.base v.live) (Laid v.head.leading v.head.len (e ∷ []) ∷ [])
      (Parts v.head.term v.head.leading v.head.len (e ∷ []) ∷ Takes v.head.term v.head.leading v.head.me (v.head.len + 1) ∷ []))) in
      passes K (not (member v.head)) NoMember _ refused (λ m.
      passes K (eqb v.head.leading 0 || not (eqb v.head.promised v.head.leading)) NotLeading _ refused (λ n.
      passes K (ends_closed v.head.len v.log || not (has_place v.head.len e)) LogFull _ refused (λ f.
      let p = or_parts (eqb v.head.leading 0) (not (eqb v.head.promised v.head.leading)) n in
      let q = or_parts (ends_closed v.head.len v.log) (not (has_place v.head.len e)) f in
      let z = eqb-false v.head.leading 0 p.0 in
      done (not-false (member v.head) m) (omega arith) (same_term v.head.promised v.head.leading p.1) q.0 (not-false (has_place v.head.len e) q.1))))

  pub on_takes : (t b p : ℕ) (es : List Entry) → ((r : Refusal) → R (Refused r (behind t v))) →
      (t ≡ v.head.term → member v.head ≡ true → v.head.promised ≤ b → Joined b p (length es) v.head → Agrees p es v.log v.head →
      R (Done (took_view b p es v) (Promised b ∷ Laid b p es ∷ []) (Takes v.head.term b v.head.me (p + length es) ∷ []))) →
      R (takes t b p es v)
  on_takes t b p es refused done =
      let K = λ (r : Result Head Refusal).
      R (on_head r (behind t v) (λ u. Done (view u (take p v.log ++ es) v.best v.base v.live) (Promised b ∷ Laid b p es ∷ [])
      (Takes v.head.term b v.head.me (p + length es) ∷ []))) in
      passes K (not (eqb t v.head.term)) OtherTerm _ refused (λ e.
      passes K (not (member v.head)) NoMember _ refused (λ m.
      passes K (ltb b v.head.promised || not (joins b p (length es) v.head)) NoJoin _ refused (λ n.
      passes K (not (keeps_sure p es v.log v.head)) NoJoin _ refused (λ a.
      let q = or_parts (ltb b v.head.promised) (not (joins b p (length es) v.head)) n in
      done (same_term t v.head.term e) (not-false (member v.head) m) (ltb-false b v.head.promised q.0)
      (joined b p (length es) v.head (not-false (joins b p (length es) v.head) q.1)) (agrees p es v.log v.head a)))))

  pub on_counts : (t b from n : ℕ) → ((r : Refusal) → R (Refused r (behind t v))) → (t ≡ v.head.term → R (Done (counted_view b from n v) [] [])) → R (counts t b from n v)
  on_counts t b from n refused done =
      let K = λ (r : Result Head Refusal). R (on_head r (behind t v) (λ u. Done (view u v.log v.best v.base v.live) [] [])) in
      passes K (not (eqb t v.head.term)) OtherTerm _ refused (λ e. passes K (ltb b v.head.tally.ballot) NotTaken _ refused (λ _. done (same_term t v.head.term e)))

  pub on_decides : (k : ℕ) → ((r : Refusal) → R (Refused r [])) →
      (v.head.tally.ballot ≡ v.head.ballot → most_took v.head.members k v.head.tally ≡ true → k ≤ v.head.len →
      R (Done (sure_view k v) (cond (ltb v.head.sure k) (Settled k ∷ []) []) [])) →
      R (decides k v)
  on_decides k refused done =
      let K = λ (r : Result Head Refusal).
      R (on_head r [] (λ u. Done (view u v.log v.best v.base (played v.live (requests_in (fresh v.head u v.log)))) (cond (ltb v.head.sure k) (Settled k ∷ []) []) [])) in
      passes K (not (eqb v.head.tally.ballot v.head.ballot) || (not (most_took v.head.members k v.head.tally) || ltb v.head.len k)) NotTaken _ refused (λ n.
      let p = or_parts (not (eqb v.head.tally.ballot v.head.ballot)) (not (most_took v.head.members k v.head.tally) || ltb v.head.len k) n in
      let q = or_parts (not (most_took v.head.members k v.head.tally)) (ltb v.head.len k) p.1 in
      done (same_term v.head.tally.ballot v.head.ballot p.0) (not-false (most_took v.head.members k v.head.tally) q.0) (ltb-false v.head.len k q.1))

  pub on_closes : ((r : Refusal) → R (Refused r [])) →
      (v.head.sure ≡ v.head.len → ends_closed v.head.len v.log ≡ true → v.head.term < 65535 →
      R (Done (entered_view (v.head.term + 1) (closes_at v.head.len v.log) (v.head.before + v.head.len) v.live v) (Renewed ∷ [])
      (Begins (v.head.term + 1) (closes_at v.head.len v.log) (v.head.before + v.head.len) v.live ∷ []))) →
      R (closes v)
  on_closes refused done =
      let K = λ (r : Result Head Refusal). R (on_head r [] (λ u. Done (view u [] [] v.live v.live) (Renewed ∷ []) (Begins u.term u.members u.before v.live ∷ []))) in
      passes K
      (not (eqb v.head.sure v.head.len) || (not (ends_closed v.head.len v.log) || (leb 65535 v.head.term || ltb 4294967295 (v.head.before + v.head.len))))
      NotClosed _ refused (λ n.
      let p = or_parts (not (eqb v.head.sure v.head.len))
      (not (ends_closed v.head.len v.log) || (leb 65535 v.head.term || ltb 4294967295 (v.head.before + v.head.len))) n in
      let q = or_parts (not (ends_closed v.head.len v.log)) (leb 65535 v.head.term || ltb 4294967295 (v.head.before + v.head.len)) p.1 in
      let w = or_parts (leb 65535 v.head.term) (ltb 4294967295 (v.head.before + v.head.len)) q.1 in
      done (same_term v.head.sure v.head.len p.0) (not-false (ends_closed v.head.len v.log) q.0) (leb-false 65535 v.head.term w.0))

  pub on_begins : (t members before : ℕ) (store : Store) → ((r : Refusal) → R (Refused r (behind t v))) →
      (v.head.term < t → R (Done (entered_view t members before store v) (Renewed ∷ []) [])) → R (begins t members before store v)
  on_begins t members before store refused done =
      let K = λ (r : Result Head Refusal). R (on_head r (behind t v) (λ u. Done (view u [] [] store store) (Renewed ∷ []) [])) in
      passes K (leb t v.head.term) OtherTerm _ refused (λ n. done (leb-false t v.head.term n))
