-- Terms have one past and one council; what stations are sure of is decided, and stands in all that comes later.
use Rattle.std.proofs.Common.{◌≡◌, ℕ, zero, suc, ◌<◌, ◌≤◌, ◌⊎◌, List, [], ◌∷◌, ◌++◌, length, take, sym, refl, ap, ◌∙◌, ap₂, inl, inr, arith}
use Rattle.council.proofs.Carry.{agree, chosen_same}
use Rattle.council.proofs.Changes.{FreshBegin, Later, Same}
use Rattle.council.proofs.Chosen.{Chosen, Decided, OnePast, Settled, Sure}
use Rattle.council.proofs.More.{own_more, past_more, taken_more}
use Rattle.council.proofs.Moves.{past_begin}
use Rattle.council.proofs.Prefixes.{line_under, pre_length, pre_of, pre_take, pre_trans, pre_under, pre_whole}
use Rattle.council.proofs.Safe.{later_all, new_is, put_all, safe, safe_step}
use Rattle.council.proofs.State.{Held, Own, Safe, Tidy}
use Rattle.council.proofs.Tidies.{tidy_close}
use Rattle.council.specs.Log.{Closes, Line, Prefix}
use Rattle.council.specs.Promises.{Past, Succeeds}
use Rattle.council.specs.Quorum.{Members, Most, IsMember}
use Rattle.council.specs.Rules.{Begin, HasTaken, Local, Log, Msg, Net, Reach, Run, Station, Step, Upto, ◌∈◌, known, put}
use Rattle.entry.specs.declared.entry.Entry.{Entry}
use Rattle.std.proofs.lemmas.List.{append_assoc, append-nil, length_push, same_from_push, take_all, take-take}
use Rattle.std.proofs.lemmas.Bool.{cases_lt, cases_order}
use mathlib.Core.List.Memᴰ

-- the log that a council ended with
abbrev ending : {ms : Members} {air : List Msg} {t : ℕ} {o : List Entry} {cs : Members} → Succeeds ms air t o cs → List Entry
ending E = E.before ++ (E.last ∷ [])

-- each council that begins has a predecessor that ended
abbrev pub AllEnded : Members → List Msg → Type 0
AllEnded ms air = (t : ℕ) (o : List Entry) (cs : Members) → Begin t o cs ∈ air → Succeeds ms air t o cs

-- a tidy log that begins with a log that ends with a close is that log
closed_whole : (k : List Entry) {l : List Entry} {x : Entry} {cs : Members} → Closes x cs → Tidy l → Prefix (k ++ (x ∷ [])) l → k ++ (x ∷ []) ≡ l
closed_whole k {x = x} c T p =
    let e = (tidy_close k p.rest T (p.is ∙ append_assoc k (x ∷ []) p.rest) c).0 in
    sym (p.is ∙ ap (λ (r : List Entry). (k ++ (x ∷ [])) ++ r) e ∙ append-nil (k ++ (x ∷ [])))

-- the first council, or one that a begin was sent for
past_cases : {ms : Members} {air : List Msg} {t : ℕ} {o : List Entry} {cs : Members} → Past ms air t o cs → ((t ≡ 0) × (o ≡ []) × (cs ≡ ms)) ⊎ (Begin t o cs ∈ air)
past_cases Past.first = inl (refl, refl, refl)
past_cases (Past.after m) = inr m

-- a term has one past if begins of one term are alike, and none is of the first
one_past : {ms : Members} {air : List Msg} → ((t : ℕ) (o : List Entry) (cs : Members) → Begin t o cs ∈ air → 1 ≤ t) →
    ((t : ℕ) (o p : List Entry) (cs ds : Members) → Begin t o cs ∈ air → Begin t p ds ∈ air → (o ≡ p) × (cs ≡ ds)) → OnePast ms air
one_past {ms} {air} later alike t o p cs ds P Q = go (past_cases P) (past_cases Q)
  where
    go : ((t ≡ 0) × (o ≡ []) × (cs ≡ ms)) ⊎ (Begin t o cs ∈ air) → ((t ≡ 0) × (p ≡ []) × (ds ≡ ms)) ⊎ (Begin t p ds ∈ air) → (o ≡ p) × (cs ≡ ds)
    go (inl a) (inl b) = (a.1 ∙ sym b.1, a.2 ∙ sym b.2)
    go (inl a) (inr m) = absurd (omega (arith, later t p ds m))
    go (inr m) (inl b) = absurd (omega (arith, later t o cs m))
    go (inr m) (inr n) = alike t o p cs ds m n

-- who is sure of nothing is sure of what begins any log
sure_none : (s : Station) {r : List Entry} → s.sure ≡ 0 → Prefix (take s.sure s.log) r
sure_none s {r} z = rw z (record { rest = r; is = refl })

pre_known : (s : Station) → Prefix s.old (known s)
pre_known s = record { rest = take s.sure s.log; is = refl }

module _ {ms : Members} {f : ℕ → Station} {air : List Msg} (S : Safe ms f air) (one : OnePast ms air) where
  -- all of it is decided
  whole : {t : ℕ} {o : List Entry} {cs : Members} (E : Succeeds ms air t o cs) → Chosen ms air E.prev E.ballot (length (ending E)) (ending E)
  whole E = record { taken = E.taken; out = E.out; fits = omega arith }

  all : {t : ℕ} {o : List Entry} {cs : Members} (E : Succeeds ms air t o cs) → take (length (ending E)) (ending E) ≡ ending E
  all E = take_all (length (ending E)) (ending E) (omega arith)

  -- all that is decided in a council that ended is in its last log
  in_ending : {t p b k : ℕ} {o l : List Entry} {cs : Members} (E : Succeeds ms air t o cs) → p ≡ E.prev → Chosen ms air p b k l → Prefix (take k l) (ending E)
  in_ending {p = p} {b = b} {k = k} {l = l} E e C = go (agree S one (rw e at C) (whole E))
    where
      go : Line (take k l) (take (length (ending E)) (ending E)) → Prefix (take k l) (ending E)
      go (inl q) = rw (all E) at q
      go (inr q) =
          rw (closed_whole E.before E.closes (S.good (Log p b l) C.out).tidy (pre_trans (rw (all E) at q) (pre_take k l))) (pre_take k l)

  -- a term has one beginning
  one_end : {t : ℕ} {o p : List Entry} {cs ds : Members} → Succeeds ms air t o cs → Succeeds ms air t p ds → (o ≡ p) × (cs ≡ ds)
  one_end {o = o} {p = p} {cs = cs} {ds = ds} E F = go (omega arith)
    where
      go : E.prev ≡ F.prev → (o ≡ p) × (cs ≡ ds)
      go e =
          let old : E.old ≡ F.old = (one F.prev _ _ _ _ (rw e at E.past) F.past).0 in
          let there = rw (all E) at (in_ending F e (whole E)) in
          let back = rw (all F) at (in_ending E (sym e) (whole F)) in
          let log : ending E ≡ ending F = pre_whole there (pre_length back) in
          let last : E.last ≡ F.last = (same_from_push E.before F.before E.last F.last log).1 in
          (E.is ∙ ap₂ (λ (a b : List Entry). a ++ b) old log ∙ sym F.is, cc (E.closes.to, F.closes.to))

  -- what is decided stays decided, in whatever log a station takes
  stays_sure : {s u : Station} → Same s u → s.sure ≡ u.sure → Held air u.term u.ballot u.log → Sure ms air s →
      Sure ms air u × (take s.sure s.log ≡ take u.sure u.log)
  stays_sure {s} {u} K e held W = go W.why held
    where
      go : (s.sure ≡ 0) ⊎ Decided ms air s → Held air u.term u.ballot u.log → Sure ms air u × (take s.sure s.log ≡ take u.sure u.log)
      go (inl z) h = (record { fits = omega arith; why = inl (omega arith) }, rw (← e, z))
      go (inr D) (inl h) = absurd (omega (arith, K.took, (S.good (Log s.term D.ballot D.log) D.chosen.out).pos))
      go (inr D) (inr out) = new (cases_lt D.ballot u.ballot)
        where
          chosen : Chosen ms air u.term D.ballot s.sure D.log
          chosen = rw K.term at D.chosen

          upto : (D.ballot < u.ballot) ⊎ (u.ballot ≤ D.ballot) → Upto D.ballot s.sure u.ballot (length u.log)
          upto (inl x) = inl x
          upto (inr x) = inr (omega (arith, K.took))

          new : (D.ballot < u.ballot) ⊎ (u.ballot ≤ D.ballot) → Sure ms air u × (take s.sure s.log ≡ take u.sure u.log)
          new x =
              let kept = chosen_same S one chosen out (upto x) in (
                record {
                  fits = omega (arith, kept.0);
                  why =
                      inr (record { ballot = D.ballot; low = omega (arith, K.took); log = D.log; chosen = rw e at chosen; same = rw (← e) (sym kept.1) });
                },
                D.same ∙ kept.1 ∙ ap (λ (n : ℕ). take n u.log) e,
              )

  module _ (ended : AllEnded ms air) where
    -- what a station knows is in the past of every later term
    known_in : (fuel t : ℕ) {i : ℕ} {s : Station} {o : List Entry} {cs : Members} → t < fuel → Own ms i air s → Sure ms air s → Past ms air t o cs →
        s.term < t → Prefix (known s) o
    known_in zero t small w W past lower = absurd (omega arith)
    known_in (suc fuel) t {s = s} {o = o} {cs = cs} small w W past lower =
        go (cases_lt s.term E.prev) (known_in fuel E.prev (omega (arith, E.next)) w W E.past)
      where
        E : Succeeds ms air t o cs
        E = ended t o cs (past_begin past (omega arith))

        here : s.term ≡ E.prev → (s.sure ≡ 0) ⊎ Decided ms air s → Prefix (take s.sure s.log) (ending E)
        here e (inl z) = sure_none s z
        here e (inr D) = rw D.same (in_ending E e D.chosen)

        go : (s.term < E.prev) ⊎ (E.prev ≤ s.term) → (s.term < E.prev → Prefix (known s) E.old) → Prefix (known s) o
        go (inl h) below = pre_trans (below h) (record { rest = ending E; is = E.is })
        go (inr h) below =
            let e : s.term ≡ E.prev = omega (arith, E.next) in
            let old : s.old ≡ E.old = (one E.prev _ _ _ _ (rw e at w.past) E.past).0 in
            rw (E.is, old) (pre_under E.old (here e W.why))

    -- of what two stations know, one is a beginning of the other
    pub one_log : {i j : ℕ} {s u : Station} → Own ms i air s → Sure ms air s → Own ms j air u → Sure ms air u → Line (known s) (known u)
    one_log {s = s} {u = u} w W v V = go (cases_order s.term u.term)
      where
        both : s.term ≡ u.term → (s.sure ≡ 0) ⊎ Decided ms air s → (u.sure ≡ 0) ⊎ Decided ms air u → Line (take s.sure s.log) (take u.sure u.log)
        both e (inl z) y = inl (sure_none s z)
        both e (inr D) (inl z) = inr (sure_none u z)
        both e (inr D) (inr G) = rw (D.same, G.same) (agree S one (rw e at D.chosen) G.chosen)

        go : (s.term ≡ u.term) ⊎ ((s.term < u.term) ⊎ (u.term < s.term)) → Line (known s) (known u)
        go (inl e) =
            let old : s.old ≡ u.old = (one u.term _ _ _ _ (rw e at w.past) v.past).0 in
            rw old (line_under u.old (both e W.why V.why))
        go (inr (inl h)) = inl (pre_trans (known_in (suc u.term) u.term (omega arith) w W v.past h) (pre_known u))
        go (inr (inr h)) = inr (pre_trans (known_in (suc s.term) s.term (omega arith) v V w.past h) (pre_known s))

-- a station that decided so many entries of its log
record Counted (air : List Msg) (s u : Station) : Type 0 where
  old : s.old ≡ u.old
  log : s.log ≡ u.log
  more : s.sure ≤ u.sure
  fits : u.sure ≤ length u.log
  qs : Members
  most : Most u.members qs
  each : (j : ℕ) → IsMember j u.members → IsMember j qs → HasTaken air u.term u.ballot j u.sure

-- what a step does to what a station is sure of: nothing; or it enters a later term, sure of nothing; or it decides
abbrev Ways : List Msg → Station → Station → Type 0
Ways air s u = ((s.term ≡ u.term) × (s.sure ≡ u.sure)) ⊎ (((s.term < u.term) × (u.sure ≡ 0)) ⊎ Counted air s u)

ways : {may : Entry → Type 0} {i : ℕ} {air : List Msg} {s u : Station} {new : List Msg} → Local may i air s u new → Ways (new ++ air) s u
ways (Local.ask b m o p z) = inl (refl, refl)
ways (Local.promise b m a p l) = inl (refl, refl)
ways (Local.lead qs from had l m g p q h each) = inl (refl, refl)
ways (Local.propose e y m g p r) = inl (refl, refl)
ways (Local.take b l m o p u) = inl (refl, refl)
ways (Local.decide k qs q each x y) = inr (inr (record { old = refl; log = refl; more = x; fits = y; qs = qs; most = q; each = each }))
ways (Local.close l e cs r c x z) = inr (inl (omega arith))
ways (Local.enter t o cs m z) = inr (inl (z, refl))
ways (Local.again z) = inl (refl, refl)
ways (Local.answer c n z e) = inl (refl, refl)
ways Local.stop = inl (refl, refl)
ways (Local.stop_torn b l m p) = inl (refl, refl)

module _ {ms : Members} {f : ℕ → Station} {air : List Msg} (S : Safe ms f air) (one : OnePast ms air) (ended : AllEnded ms air)
    {i : ℕ} {s u : Station} (w : Own ms i air s) (W : Sure ms air s) (v : Own ms i air u) (K : Later s u) where
  -- after a step a station is sure of what is decided, and of no less than before
  sure_step : Ways air s u → Sure ms air u × Prefix (known s) (known u)
  sure_step (inl stay) = go K
    where
      go : Later s u → Sure ms air u × Prefix (known s) (known u)
      go (inl h) = absurd (omega arith)
      go (inr same) =
          let kept = stays_sure S one same stay.1 v.holds W in
          (kept.0, pre_of (ap₂ (λ (a b : List Entry). a ++ b) same.old kept.1))
  sure_step (inr (inl enter)) =
      (record { fits = omega arith; why = inl enter.1 }, pre_trans (known_in S one ended (suc u.term) u.term (omega arith) w W v.past enter.0) (pre_known u))
  sure_step (inr (inr C)) = (record { fits = C.fits; why = why v.holds }, rw (C.old, C.log) (pre_under u.old front))
    where
      why : Held air u.term u.ballot u.log → (u.sure ≡ 0) ⊎ Decided ms air u
      why (inl h) = inl (omega (arith, ap length h.1))
      why (inr out) =
          inr (record {
            ballot = u.ballot;
            low = omega arith;
            log = u.log;
            chosen = record { taken = record { old = u.old; cs = u.members; past = v.past; qs = C.qs; most = C.most; each = C.each }; out = out; fits = C.fits };
            same = refl;
          })

      front : Prefix (take s.sure u.log) (take u.sure u.log)
      front = pre_trans (pre_of (sym (take-take s.sure u.sure u.log C.more))) (pre_take s.sure (take u.sure u.log))

-- a station that is sure of its whole log, which ends with a close, brings about the council that this names
closes_to_lem : {ms : Members} {f : ℕ → Station} {air : List Msg} {i t : ℕ} {s : Station} {o : List Entry} {cs : Members} →
    Safe ms f air → Own ms i air s → Sure ms air s → FreshBegin s t o cs → Succeeds ms air t o cs
closes_to_lem {ms} {air = air} {t = t} {s = s} {o = o} {cs = cs} S w W F = go W.why
  where
    go : (s.sure ≡ 0) ⊎ Decided ms air s → Succeeds ms air t o cs
    go (inl z) = absurd (omega (arith, ap length F.ends, length_push F.before F.last))
    go (inr D) =
        let tidy = (S.good (Log s.term D.ballot D.log) D.chosen.out).tidy in
        let front : F.before ++ (F.last ∷ []) ≡ take s.sure D.log = sym F.ends ∙ sym (take_all s.sure s.log (omega arith)) ∙ D.same in
        let log : F.before ++ (F.last ∷ []) ≡ D.log = closed_whole F.before F.closes tidy (pre_trans (pre_of front) (pre_take s.sure D.log)) in
        record {
          prev = s.term;
          next = F.term;
          old = s.old;
          ds = s.members;
          past = w.past;
          before = F.before;
          last = F.last;
          closes = F.closes;
          is = F.old ∙ ap (λ (l : List Entry). s.old ++ l) F.ends;
          ballot = D.ballot;
          taken = rw (← F.ends, ← F.sure) D.chosen.taken;
          out = rw log D.chosen.out;
        }

-- both still hold when more was sent
succeeds_more : {ms : Members} {air : List Msg} {t : ℕ} {o : List Entry} {cs : Members} (new : List Msg) → Succeeds ms air t o cs → Succeeds ms (new ++ air) t o cs
succeeds_more new E =
    record {
      prev = E.prev;
      next = E.next;
      old = E.old;
      ds = E.ds;
      past = past_more new E.past;
      before = E.before;
      last = E.last;
      closes = E.closes;
      is = E.is;
      ballot = E.ballot;
      taken = taken_more new E.taken;
      out = Memᴰ.append_right new E.out;
    }

sure_more : {ms : Members} {air : List Msg} {s : Station} (new : List Msg) → Sure ms air s → Sure ms (new ++ air) s
sure_more {ms} {air} {s} new W = record { fits = W.fits; why = go W.why }
  where
    go : (s.sure ≡ 0) ⊎ Decided ms air s → (s.sure ≡ 0) ⊎ Decided ms (new ++ air) s
    go (inl z) = inl z
    go (inr D) =
        inr (record {
          ballot = D.ballot;
          low = D.low;
          log = D.log;
          chosen = record { taken = taken_more new D.chosen.taken; out = Memᴰ.append_right new D.chosen.out; fits = D.chosen.fits };
          same = D.same;
        })

-- a step of station i
module _ {ms : Members} {may : Entry → Type 0} {i : ℕ} {f : ℕ → Station} {air : List Msg} {u : Station} {new : List Msg}
    (S : Safe ms f air) (S' : Safe ms (put i u f) (new ++ air)) (K : Settled ms f air) (L : Local may i air (f i) u new) where
  -- a council that has begun by now succeeded one by what was in the air before
  came : (t : ℕ) (o : List Entry) (cs : Members) → Begin t o cs ∈ new ++ air → Succeeds ms air t o cs
  came t o cs m = go (Memᴰ.append_cases new m)
    where
      begun : (Begin t o cs ∈ air) ⊎ FreshBegin (f i) t o cs → Succeeds ms air t o cs
      begun (inl h) = K.ended t o cs h
      begun (inr F) = closes_to_lem S (S.own i) (K.sure i) F

      go : (Begin t o cs ∈ new) ⊎ (Begin t o cs ∈ air) → Succeeds ms air t o cs
      go (inl h) = begun (new_is S L (Begin t o cs) h)
      go (inr h) = K.ended t o cs h

  -- so the begins of a term are alike, by what was decided before
  one' : OnePast ms (new ++ air)
  one' = one_past (λ t o cs m. omega (arith, (came t o cs m).next)) (λ t o p cs ds m n. one_end S K.one (came t o cs m) (came t p ds n))

  ended' : AllEnded ms (new ++ air)
  ended' t o cs m = succeeds_more new (came t o cs m)

  -- each station as it is now, against what is in the air now
  sure' : (j : ℕ) → Sure ms (new ++ air) (put i u f j) × Prefix (known (f j)) (known (put i u f j))
  sure' j =
      sure_step S' one' ended' (own_more new (S.own j)) (sure_more new (K.sure j)) (S'.own j) (later_all S L j)
      (put_all (λ k s. Ways (new ++ air) (f k) s) {f = f} (ways L) (λ k. inl (refl, refl)) j)

  pub settled_step : Settled ms (put i u f) (new ++ air)
  settled_step = record { one = one'; ended = ended'; sure = λ j. (sure' j).0 }

  pub known_step : (j : ℕ) → Prefix (known (f j)) (known (put i u f j))
  known_step j = (sure' j).1

pub settled_on : {ms : Members} {may : Entry → Type 0} {i : ℕ} {n m : Net} → Safe ms n.station n.air → Settled ms n.station n.air → Step may i n m →
    Settled ms m.station m.air
settled_on S K (Step.step L) = settled_step S (safe_step S L) K L

pub known_on : {ms : Members} {may : Entry → Type 0} {i : ℕ} {n m : Net} → Safe ms n.station n.air → Settled ms n.station n.air → Step may i n m →
    (j : ℕ) → Prefix (known (n.station j)) (known (m.station j))
known_on S K (Step.step L) = known_step S (safe_step S L) K L

pub settled : {ms : Members} {n : Net} → Reach ms n → Settled ms n.station n.air
settled Run.none =
    record {
      one = one_past (λ t o cs m. elim m [ ]) (λ t o p cs ds m. elim m [ ]);
      ended = λ t o cs m. elim m [ ];
      sure = λ i. record { fits = omega arith; why = inl refl };
    }
settled (Run.more i r x) = settled_on (safe r) (settled r) x
