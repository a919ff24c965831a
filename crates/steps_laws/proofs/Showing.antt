-- Steps on lent memory and on what it shows: they look at no entry behind the last, and leave what the step on the view has.
use Rattle.std.proofs.Common.{◌≡◌, ℕ, zero, suc, ◌+◌, ◌-◌, ◌%◌, ◌≤◌, max, Bool, true, false, cond, not, ◌&&◌, ◌||◌, eqb, ltb, leb, ◌⊎◌, List, [], ◌∷◌, ◌++◌, length, get_or, take, drop, set, Ok, Err, Result, sym, refl, ap, ◌∙◌, inl, inr, arith}
use Rattle.council.specs.Log.{closes_to, is_close, requests_in}
use Rattle.entries.specs.Entries.{laid}
use Rattle.entry.specs.declared.entry.Entry.{Entry}
use Rattle.entry.specs.declared.entry.Entry.TheVariants.{Close}
use Rattle.message.specs.Letter.{Asks, Begins, Letter, Parts, Promises, Takes}
use Rattle.quorum.specs.Sets.{is_most}
use Rattle.quorum.specs.Tally.{most_took}
use Rattle.std.proofs.lemmas.List.{append_assoc, drop-take, get_or-take, length-append, length-take-le, take_at, take_more_set, take-take}
use Rattle.std.proofs.lemmas.Bool.{and_left, and_parts, cases_eq, eq-eqb, eqb-true, leb-true, ltb-false, ltb-true, not-false, not_from_false, not_from_true, or_cases, or_left, or_parts, or_right}
use Rattle.steps.specs.Calls.{fits_part, live_after}
use Rattle.steps.specs.Heads.{agree, begin_head, close_head, closes_at, council_of, counts_from, counts_itself, decide_head, ends_closed, entered_head, give_head, grew_head, has_place, hear_head, is_better, joins, keeps_sure, last_of, lead_head, led_head, member, names_council, propose_head, take_head, took_head}
use Rattle.steps.specs.Memory.{best_given, best_heard, copied, fits_best, fits_copy, fits_heard, fits_log, fits_more, fitting}
use Rattle.steps.specs.Same.{same_entry}
use Rattle.steps.specs.Steps.{Done, Laid, Outcome, Promised, Renewed, Settled, View, Written, behind, fresh, on_head, view, viewed}
use Rattle.steps.specs.declared.head.Head.{Head}
use Rattle.steps.specs.declared.refusal.Refusal.{Refusal}
use Rattle.steps.specs.declared.refusal.Refusal.TheVariants.{BelowPromise, LogFull, NoJoin, NoMember, NotClosed, NotLeading, NotOwn, NotPromised, NotTaken, OtherTerm}
use Rattle.steps_laws.proofs.Tried.{Joined, joined, passes}
use Rattle.steps_laws.specs.Shown.{Shown, ShownIn}
use Rattle.store.specs.Store.{Store, played, whole}

-- what a step goes on with from its head, on the view and on the memory
record Two : Type 0 where
  begin : List Letter
  seen : Head → View
  left : Head → View
  written : List Written
  sent : Head → List Letter

abbrev on_seen : Two → Result Head Refusal → Outcome
on_seen k r = on_head r k.begin (λ u. Done (k.seen u) k.written (k.sent u))

abbrev on_left : Two → Result Head Refusal → Outcome
on_left k r = on_head r k.begin (λ u. Done (k.left u) k.written (k.sent u))

abbrev Alike : Two → Result Head Refusal → Type 0
Alike k r = on_seen k r ≡ on_left k r

-- the same head from both, in memory that fits
fitted : (k : Two) (fits : Bool) (r s : Result Head Refusal) → fits ≡ true → r ≡ s → Alike k s → on_seen k r ≡ on_left k (fitting fits s)
fitted k fits r s f e a = ap (on_seen k) e ∙ a ∙ ap (λ (c : Bool). on_left k (fitting c s)) (sym f)

same_done : {u : Head} {l m best more : List Entry} {base s t : Store} {w : List Written} {x : List Letter} →
    l ≡ m → best ≡ more → s ≡ t → Done (view u l best base s) w x ≡ Done (view u m more base t) w x
same_done {u} {base = base} {w = w} {x = x} p q r = λ i. Done (view u (p i) (q i) base (r i)) w x

-- memory that fits
log_fits : (h : Head) (n : ℕ) → fits_log h n ≡ true → (h.sure ≤ h.len) × (h.len ≤ n)
log_fits h n f = let p = and_parts (leb h.sure h.len) (leb h.len n) f in (leb-true h.sure h.len p.0, leb-true h.len n p.1)

-- entries compared below what is shown
agree_shown : (n p m s : ℕ) (log es : List Entry) → n ≤ s - p → s ≤ m → agree n p (take m log) es ≡ agree n p log es
unfolding agree
agree_shown zero p m s log es few low = refl
agree_shown (suc n) p m s log es few low =
    let rest = agree_shown n p m s log es (omega arith) low in
    let here = get_or-take m log (p + n) (Close 0) (omega arith) in
    λ i. rest i && same_entry (here i) (get_or es n (Close 0))

keeps_shown : (p : ℕ) (es log : List Entry) (h : Head) → h.sure ≤ h.len → keeps_sure p es (take h.len log) h ≡ keeps_sure p es log h
keeps_shown p es log h low = ap (λ (c : Bool). leb h.sure (p + length es) && c) (agree_shown (h.sure - p) p h.len h.sure log es (omega arith) low)

-- the last entry that is shown
last_shown : (n : ℕ) (log : List Entry) → (n ≡ 0 → ⊥) → last_of n (take n log) ≡ last_of n log
last_shown n log some = get_or-take n log (n - 1) (Close 0) (omega (arith, some))

none_ends : (n : ℕ) (log : List Entry) → n ≡ 0 → ends_closed n log ≡ false
none_ends n log z = and_left (not (eqb n 0)) (is_close (last_of n log)) (not_from_true (eqb n 0) (eq-eqb n 0 z))

ends_shown : (n : ℕ) (log : List Entry) → ends_closed n (take n log) ≡ ends_closed n log
ends_shown n log = go (cases_eq n 0)
  where
    go : (n ≡ 0) ⊎ (n ≡ 0 → ⊥) → ends_closed n (take n log) ≡ ends_closed n log
    go (inl z) = none_ends n (take n log) z ∙ sym (none_ends n log z)
    go (inr some) = ap (λ (e : Entry). not (eqb n 0) && is_close e) (last_shown n log some)

-- entries copied and laid
copied_shown : (n : ℕ) (from to : List Entry) → n ≤ length from → take n (copied n from to) ≡ take n from
copied_shown n from to low = take_at (take n from) (drop (0 + length (take n from)) to) n (length-take-le n from low)

laid_shown : (p n : ℕ) (es log : List Entry) → p ≤ n → n ≤ length log → take p (take n log) ++ es ≡ take (p + length es) (laid p es log)
laid_shown p n es log low fits =
    let long = length-take-le p log (omega arith) in
    let all = length-append (take p log) es in
    ap (λ (l : List Entry). l ++ es) (take-take p n log low) ∙
    sym (ap (take (p + length es)) (sym (append_assoc (take p log) es (drop (p + length es) log))) ∙
    take_at (take p log ++ es) (drop (p + length es) log) (p + length es) (omega arith))

fresh_shown : (a k n : ℕ) (log : List Entry) → a ≤ n → k ≤ n → take (k - a) (drop a (take n log)) ≡ take (k - a) (drop a log)
fresh_shown a k n log low few =
    let e : n ≡ a + (n - a) = omega arith in
    ap (λ (m : ℕ). take (k - a) (drop a (take m log))) e ∙ ap (take (k - a)) (drop-take a (n - a) log) ∙ take-take (k - a) (n - a) (drop a log) (omega arith)

-- the better log, and its length
either_shown : (c : Bool) (n m : ℕ) (own next was : List Entry) → own ≡ take n next → cond c own (take m was) ≡ take (cond c n m) (cond c next was)
either_shown true n m own next was e = e
either_shown false n m own next was e = refl

place_low : (n : ℕ) (e : Entry) → has_place n e ≡ true → n ≤ 4095
place_low n e y = go (or_cases (ltb n 4095) (eqb n 4095 && is_close e) (and_parts (ltb n 4095 || (eqb n 4095 && is_close e)) (names_council (closes_to e)) y).0)
  where
    go : (ltb n 4095 ≡ true) ⊎ ((eqb n 4095 && is_close e) ≡ true) → n ≤ 4095
    go (inl l) = omega (arith, ltb-true n 4095 l)
    go (inr l) = omega (arith, eqb-true n 4095 (and_parts (eqb n 4095) (is_close e) l).0)

joins_within : (b p n : ℕ) (h : Head) → h.sure ≤ h.len → Joined b p n h → p ≤ h.len
joins_within b p n h low (inl j) = j.1
joins_within b p n h low (inr j) = omega (arith, j.1)

-- what closes
unclosed : (log : List Entry) (h : Head) → h.len ≡ 0 → close_head log h ≡ Err NotClosed
unclosed log h z =
    let late = leb 65535 h.term || ltb 4294967295 (h.before + h.len) in
    ap (λ (c : Bool). cond c (Err NotClosed) (Ok (entered_head h.me (h.term + 1) (closes_at h.len log) (h.before + h.len))))
    (or_right (not (eqb h.sure h.len)) (not (ends_closed h.len log) || late)
    (or_left (not (ends_closed h.len log)) late (not_from_false (ends_closed h.len log) (none_ends h.len log z))))

close_shown : (log : List Entry) (h : Head) → close_head (take h.len log) h ≡ close_head log h
close_shown log h = go (cases_eq h.len 0)
  where
    go : (h.len ≡ 0) ⊎ (h.len ≡ 0 → ⊥) → close_head (take h.len log) h ≡ close_head log h
    go (inl z) = unclosed (take h.len log) h z ∙ sym (unclosed log h z)
    go (inr some) =
        ap (λ (e : Entry).
        cond (not (eqb h.sure h.len) || (not (not (eqb h.len 0) && is_close e) || (leb 65535 h.term || ltb 4294967295 (h.before + h.len)))) (Err NotClosed)
        (Ok (entered_head h.me (h.term + 1) (council_of (closes_to e)) (h.before + h.len)))) (last_shown h.len log some)

module _ (h : Head) (log best : List Entry) (base live : Store) where
  abbrev shown : View
  shown = viewed h log best base live

  -- a step within the council, with this log and this best log
  abbrev with : List Entry → List Entry → Head → View
  with l m u = view u l m base live

  shown_in : ShownIn h log best base live
  shown_in = record {
    ask = λ b.
        let k : Two = record { begin = []; seen = with (take h.len log) []; left = λ u. viewed u log best base live; written = Promised b ∷ []; sent = λ _. Asks h.term b ∷ [] } in
        passes (Alike k) (not (member h)) NoMember _ (λ _. refl) (λ _.
        passes (Alike k) (not (eqb (b % 16) h.me) || (leb b h.promised || ltb 4294967295 b)) NotOwn _ (λ _. refl) (λ _. refl));
    promise = λ t b f.
        let c = counts_itself b h && is_better h.ballot h.len h in
        let p = and_parts (fits_log h (length log)) (leb h.len (length best)) f in
        let k : Two = record {
          begin = behind t shown;
          seen = with (take h.len log) (cond c (take h.len log) (take h.best best));
          left = λ u. viewed u log (best_given b log best h) base live;
          written = Promised b ∷ [];
          sent = λ _. Promises h.term b h.me h.ballot (take h.len log) ∷ [];
        } in
        fitted k (fits_copy h (length log) (length best)) (give_head t b h) (give_head t b h) f refl
        (passes (Alike k) (not (eqb t h.term)) OtherTerm _ (λ _. refl) (λ _.
        passes (Alike k) (not (member h)) NoMember _ (λ _. refl) (λ _.
        passes (Alike k) (ltb b h.promised || leb b h.ballot) BelowPromise _ (λ _. refl) (λ _.
        same_done refl
        (either_shown c h.len h.best (take h.len log) (copied h.len log best) best (sym (copied_shown h.len log best (log_fits h (length log) p.0).1))) refl))));
    hear = λ t b from had es f.
        let c = counts_from from h && is_better had (length es) h in
        let k : Two = record {
          begin = behind t shown;
          seen = with (take h.len log) (cond c es (take h.best best));
          left = λ u. viewed u log (best_heard from had es best h) base live;
          written = [];
          sent = λ _. [];
        } in
        fitted k (fits_heard (length es) (length best)) (hear_head t b from had (length es) h) (hear_head t b from had (length es) h) f refl
        (passes (Alike k) (not (eqb t h.term)) OtherTerm _ (λ _. refl) (λ _.
        passes (Alike k) (eqb b 0 || (not (eqb b h.asking) || not (eqb b h.promised))) NotPromised _ (λ _. refl) (λ _.
        same_done refl (either_shown c (length es) h.best es (laid 0 es best) best (sym (take_at es (drop (0 + length es) best) (length es) refl))) refl)));
    lead = λ f.
        let p = and_parts (fits_log h (length log)) (leb h.best (length best) && leb h.best (length log)) f in
        let low = leb-true h.best (length best) (and_parts (leb h.best (length best)) (leb h.best (length log)) p.1).0 in
        let first = take h.best best in
        let k : Two = record {
          begin = [];
          seen = with first [];
          left = λ u. viewed u (copied h.best best log) best base live;
          written = Laid h.asking 0 first ∷ [];
          sent = λ _. Parts h.term h.asking 0 first ∷ Takes h.term h.asking h.me h.best ∷ [];
        } in
        let tried : Bool → Result Head Refusal = λ c.
        cond (not (member h)) (Err NoMember)
        (cond (eqb h.asking 0 || (not (eqb h.promised h.asking) || not (is_most h.members h.heard))) (Err NotPromised)
        (cond (not c) (Err NotPromised) (Ok (led_head h)))) in
        fitted k (fits_best h (length log) (length best)) (lead_head first (take h.len log) h) (lead_head first log h) f
        (ap tried (keeps_shown 0 first log h (log_fits h (length log) p.0).0))
        (passes (Alike k) (not (member h)) NoMember _ (λ _. refl) (λ _.
        passes (Alike k) (eqb h.asking 0 || (not (eqb h.promised h.asking) || not (is_most h.members h.heard))) NotPromised _ (λ _. refl) (λ _.
        passes (Alike k) (not (keeps_sure 0 first log h)) NotPromised _ (λ _. refl) (λ _.
        same_done (sym (copied_shown h.best best log low)) refl refl))));
    propose = λ e f.
        let p = and_parts (fits_log h (length log)) (leb 4096 (length log)) f in
        let k : Two = record {
          begin = [];
          seen = with (take h.len log ++ (e ∷ [])) (take h.best best);
          left = λ u. viewed u (set log h.len e) best base live;
          written = Laid h.leading h.len (e ∷ []) ∷ [];
          sent = λ _. Parts h.term h.leading h.len (e ∷ []) ∷ Takes h.term h.leading h.me (h.len + 1) ∷ [];
        } in
        let tried : Bool → Result Head Refusal = λ c.
        cond (not (member h)) (Err NoMember)
        (cond (eqb h.leading 0 || not (eqb h.promised h.leading)) (Err NotLeading)
        (cond (c || not (has_place h.len e)) (Err LogFull) (Ok (grew_head h)))) in
        fitted k (fits_more h (length log)) (propose_head e (take h.len log) h) (propose_head e log h) f (ap tried (ends_shown h.len log))
        (passes (Alike k) (not (member h)) NoMember _ (λ _. refl) (λ _.
        passes (Alike k) (eqb h.leading 0 || not (eqb h.promised h.leading)) NotLeading _ (λ _. refl) (λ _.
        passes (Alike k) (ends_closed h.len log || not (has_place h.len e)) LogFull _ (λ _. refl) (λ n.
        let q = or_parts (ends_closed h.len log) (not (has_place h.len e)) n in
        let few = place_low h.len e (not-false (has_place h.len e) q.1) in
        let room = leb-true 4096 (length log) p.1 in
        same_done (sym (take_more_set log h.len e (omega (arith, few, room)))) refl refl))));
    part = λ t b p es f.
        let q = and_parts (fits_log h (length log)) (leb (p + length es) 4096 && leb (p + length es) (length log)) f in
        let fits = log_fits h (length log) q.0 in
        let k : Two = record {
          begin = behind t shown;
          seen = with (take p (take h.len log) ++ es) (take h.best best);
          left = λ u. viewed u (laid p es log) best base live;
          written = Promised b ∷ Laid b p es ∷ [];
          sent = λ _. Takes h.term b h.me (p + length es) ∷ [];
        } in
        let tried : Bool → Result Head Refusal = λ c.
        cond (not (eqb t h.term)) (Err OtherTerm)
        (cond (not (member h)) (Err NoMember)
        (cond (ltb b h.promised || not (joins b p (length es) h)) (Err NoJoin)
        (cond (not c) (Err NoJoin) (Ok (took_head b (p + length es) h))))) in
        fitted k (fits_part p (length es) (length log) h) (take_head t b p es (take h.len log) h) (take_head t b p es log h) f (ap tried (keeps_shown p es log h fits.0))
        (passes (Alike k) (not (eqb t h.term)) OtherTerm _ (λ _. refl) (λ _.
        passes (Alike k) (not (member h)) NoMember _ (λ _. refl) (λ _.
        passes (Alike k) (ltb b h.promised || not (joins b p (length es) h)) NoJoin _ (λ _. refl) (λ n.
        passes (Alike k) (not (keeps_sure p es log h)) NoJoin _ (λ _. refl) (λ _.
        let y = not-false (joins b p (length es) h) (or_parts (ltb b h.promised) (not (joins b p (length es) h)) n).1 in
        same_done (laid_shown p h.len es log (joins_within b p (length es) h fits.0 (joined b p (length es) h y)) fits.1) refl refl)))));
    count = λ t b from n.
        let k : Two = record { begin = behind t shown; seen = with (take h.len log) (take h.best best); left = λ u. viewed u log best base live; written = []; sent = λ _. [] } in
        passes (Alike k) (not (eqb t h.term)) OtherTerm _ (λ _. refl) (λ _. passes (Alike k) (ltb b h.tally.ballot) NotTaken _ (λ _. refl) (λ _. refl));
    decide = λ n f.
        let fits = log_fits h (length log) (and_parts (fits_log h (length log)) (whole live) f).0 in
        let k : Two = record {
          begin = [];
          seen = λ u. view u (take h.len log) (take h.best best) base (played live (requests_in (fresh h u (take h.len log))));
          left = λ u. viewed u log best base (live_after (Ok u) log h live);
          written = cond (ltb h.sure n) (Settled n ∷ []) [];
          sent = λ _. [];
        } in
        let bad = not (most_took h.members n h.tally) || ltb h.len n in
        fitted k (fits_log h (length log) && whole live) (decide_head n h) (decide_head n h) f refl
        (passes (Alike k) (not (eqb h.tally.ballot h.ballot) || bad) NotTaken _ (λ _. refl) (λ x.
        let y = or_parts (not (most_took h.members n h.tally)) (ltb h.len n) (or_parts (not (eqb h.tally.ballot h.ballot)) bad x).1 in
        let low = ltb-false h.len n y.1 in
        same_done refl refl
        (ap (λ (l : List Entry). played live (requests_in l)) (fresh_shown h.sure (max h.sure n) h.len log fits.0 (omega (arith, fits.0, low))))));
    close = λ f.
        let k : Two = record {
          begin = [];
          seen = λ u. view u [] [] live live;
          left = λ u. viewed u log best live live;
          written = Renewed ∷ [];
          sent = λ u. Begins u.term u.members u.before live ∷ [];
        } in
        fitted k (fits_log h (length log) && (whole base && whole live)) (close_head (take h.len log) h) (close_head log h) f (close_shown log h)
        (passes (Alike k) (not (eqb h.sure h.len) || (not (ends_closed h.len log) || (leb 65535 h.term || ltb 4294967295 (h.before + h.len)))) NotClosed _ (λ _. refl)
        (λ _. refl));
    begin = λ t members before page f.
        let k : Two = record { begin = behind t shown; seen = λ u. view u [] [] page page; left = λ u. viewed u log best page page; written = Renewed ∷ []; sent = λ _. [] } in
        fitted k (whole page && (whole base && whole live)) (begin_head t members before h) (begin_head t members before h) f refl
        (passes (Alike k) (leb t h.term) OtherTerm _ (λ _. refl) (λ _. refl));
    stop = refl;
  }

pub shows : Shown
shows = shown_in
