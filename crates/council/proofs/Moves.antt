-- The steps, one by one: how a station changes, what holds of it after, and what is new about what it sends. No later proof looks at each step but the one on what is sure.
use Rattle.std.proofs.Common.{◌≡◌, ℕ, ◌%◌, ◌≤◌, Bool, true, false, cond, eqb, List, [], ◌∷◌, ◌++◌, length, sym, refl, ap, inl, inr, arith}
use Rattle.council.proofs.Changes.{Fresh, Later, Same, Seen}
use Rattle.council.proofs.More.{backed_more, heard_more, held_more, own_more, past_more}
use Rattle.council.proofs.Prefixes.{pre_of, pre_refl, pre_trans, pre_whole}
use Rattle.council.proofs.State.{Backed, Held, Own, Tidy}
use Rattle.council.specs.Log.{Prefix}
use Rattle.council.specs.Promises.{Past}
use Rattle.council.specs.Quorum.{Members}
use Rattle.council.specs.Rules.{Begin, Local, Log, Msg, Promise, Station, Upto, ◌∈◌}
use Rattle.entry.specs.declared.entry.Entry.{Entry}
use Rattle.std.proofs.lemmas.List.{length_push}
use Rattle.std.proofs.lemmas.Bool.{eqb-true}
use Rattle.std.specs.List.{AllByRecursion}
use mathlib.Core.List.Memᴰ

-- a ballot that is kept only if it is b
kept_if : (x b : ℕ) → 1 ≤ cond (eqb x b) x 0 → (cond (eqb x b) x 0 ≡ x) × (x ≡ b)
kept_if x b = go (eqb x b) refl
  where
    go : (y : Bool) → eqb x b ≡ y → 1 ≤ cond y x 0 → (cond y x 0 ≡ x) × (x ≡ b)
    go true e h = (refl, eqb-true x b e)
    go false e h = absurd (omega arith)

-- an entry more, and nothing changed
one_more : (l : List Entry) (e : Entry) → Prefix l (l ++ (e ∷ []))
one_more l e = record { rest = e ∷ []; is = refl }

pub same_self : (s : Station) → Same s s
same_self s =
    record {
      term = refl;
      old = refl;
      members = refl;
      promised = omega arith;
      took = inr (refl, omega arith);
      sure = omega arith;
      asks = λ g. inl refl;
      leads = λ g. inl (refl, pre_refl s.log);
    }

-- a leader that takes a log of its own ballot had all of it
own_log : {i : ℕ} {air : List Msg} {s : Station} {b : ℕ} {l : List Entry} → Seen i air s → Log s.term b l ∈ air → Upto s.ballot (length s.log) b (length l) →
    (s.leading ≡ s.ballot) × (s.leading % 16 ≡ i) → s.leading ≡ b → Prefix s.log l
own_log {s = s} {b = b} {l = l} seen m up w e = pre_of (sym (pre_whole ((seen b l m (rw (← e) w.1)).leads e) (go up)))
  where
    go : Upto s.ballot (length s.log) b (length l) → length s.log ≤ length l
    go (inl h) = absurd (omega arith)
    go (inr h) = h.1

-- how a station changes
pub later : {ms : Members} {may : Entry → Type 0} {i : ℕ} {air : List Msg} {s u : Station} {new : List Msg} →
    Own ms i air s → Seen i air s → Local may i air s u new → Later s u
later w seen (Local.ask b m o p z) =
    inr (record {
      term = refl;
      old = refl;
      members = refl;
      promised = omega arith;
      took = inr (refl, omega arith);
      sure = omega arith;
      asks = λ g. inr p;
      leads = λ g. absurd (omega arith);
    })
later {s = s} w seen (Local.promise b m a p l) =
    inr (record {
      term = refl;
      old = refl;
      members = refl;
      promised = p;
      took = inr (refl, omega arith);
      sure = omega arith;
      asks = λ g. inl (kept_if s.asking b g).0;
      leads = λ g. inl ((kept_if s.leading b g).0, pre_refl s.log);
    })
later w seen (Local.lead qs from had l m g p q h each) =
    inr (record {
      term = refl;
      old = refl;
      members = refl;
      promised = omega arith;
      took = inl (w.asks g).1;
      sure = omega arith;
      asks = λ k. absurd (omega arith);
      leads = λ k. inr refl;
    })
later {s = s} w seen (Local.propose e y m g p F) =
    inr (record {
      term = refl;
      old = refl;
      members = refl;
      promised = omega arith;
      took = inr (refl, omega (arith, length_push s.log e));
      sure = omega arith;
      asks = λ k. inl refl;
      leads = λ k. inl (refl, one_more s.log e);
    })
later {s = s} w seen (Local.take b l m a p up) =
    inr (record {
      term = refl;
      old = refl;
      members = refl;
      promised = p;
      took = up;
      sure = omega arith;
      asks = λ g. inl (kept_if s.asking b g).0;
      leads = λ g. let k = kept_if s.leading b g in inl (k.0, own_log seen a up (w.leads (omega arith)) k.1);
    })
later {s = s} w seen (Local.decide k qs q h x y) =
    inr (record {
      term = refl;
      old = refl;
      members = refl;
      promised = omega arith;
      took = inr (refl, omega arith);
      sure = x;
      asks = λ g. inl refl;
      leads = λ g. inl (refl, pre_refl s.log);
    })
later w seen (Local.close l e ms q c x z) = inl (omega arith)
later w seen (Local.enter t o ms m h) = inl h
later {s = s} w seen (Local.again h) = inr (same_self s)
later {s = s} w seen (Local.answer c n h e) = inr (same_self s)
later w seen Local.stop =
    inr (record {
      term = refl;
      old = refl;
      members = refl;
      promised = omega arith;
      took = inr (refl, omega arith);
      sure = omega arith;
      asks = λ g. absurd (omega arith);
      leads = λ g. absurd (omega arith);
    })
later w seen (Local.stop_torn b l m p) =
    inr (record {
      term = refl;
      old = refl;
      members = refl;
      promised = p;
      took = inr (refl, omega arith);
      sure = omega arith;
      asks = λ g. absurd (omega arith);
      leads = λ g. absurd (omega arith);
    })

-- what holds of it after
pub own_after : {ms : Members} {may : Entry → Type 0} {i : ℕ} {air : List Msg} {s u : Station} {new : List Msg} →
    Own ms i air s → Seen i air s → Local may i air s u new → Own ms i (new ++ air) u
own_after w seen (Local.ask b m o p z) =
    record {
      low = omega arith;
      asks = λ g. (o, omega arith, omega arith);
      leads = λ g. absurd (omega arith);
      holds = held_more (_ ∷ []) w.holds;
      past = past_more (_ ∷ []) w.past;
    }
own_after {s = s} w seen (Local.promise b m a p l) =
    record {
      low = omega arith;
      asks = λ g. let k = kept_if s.asking b g in (rw k.0 (w.asks (omega arith)).0, omega arith, omega arith);
      leads = λ g. let k = kept_if s.leading b g in absurd (omega (arith, (w.leads (omega arith)).0));
      holds = held_more (_ ∷ []) w.holds;
      past = past_more (_ ∷ []) w.past;
    }
own_after w seen (Local.lead qs from had l m g p q h each) =
    record {
      low = omega arith;
      asks = λ k. absurd (omega arith);
      leads = λ k. (refl, (w.asks g).0);
      holds = inr (Memᴰ.tail (Memᴰ.head refl));
      past = past_more (_ ∷ _ ∷ []) w.past;
    }
own_after {s = s} w seen (Local.propose e y m g p F) =
    record {
      low = w.low;
      asks = w.asks;
      leads = w.leads;
      holds = inr (Memᴰ.tail (Memᴰ.head (ap (λ b. Log s.term b (s.log ++ (e ∷ []))) (sym (w.leads g).0))));
      past = past_more (_ ∷ _ ∷ []) w.past;
    }
own_after {s = s} w seen (Local.take b l m a p up) =
    record {
      low = omega arith;
      asks = λ g. let k = kept_if s.asking b g in absurd ((seen b l a (rw (← k.1) (w.asks (omega arith)).0)).asks k.1);
      leads = λ g. let k = kept_if s.leading b g in rw k.0 (k.1, (w.leads (omega arith)).1);
      holds = inr (Memᴰ.append_right (_ ∷ []) a);
      past = past_more (_ ∷ []) w.past;
    }
own_after w seen (Local.decide k qs q h x y) = record { low = w.low; asks = w.asks; leads = w.leads; holds = w.holds; past = w.past }
own_after w seen (Local.close l e ms q c x z) =
    record { low = omega arith; asks = λ g. absurd (omega arith); leads = λ g. absurd (omega arith); holds = inl (refl, refl); past = Past.after (Memᴰ.head refl) }
own_after w seen (Local.enter t o ms m h) =
    record { low = omega arith; asks = λ g. absurd (omega arith); leads = λ g. absurd (omega arith); holds = inl (refl, refl); past = Past.after m }
own_after w seen (Local.again h) = own_more (_ ∷ []) w
own_after w seen (Local.answer c n h e) = w
own_after w seen Local.stop = record { low = w.low; asks = λ g. absurd (omega arith); leads = λ g. absurd (omega arith); holds = w.holds; past = w.past }
own_after w seen (Local.stop_torn b l m p) =
    record { low = omega arith; asks = λ g. absurd (omega arith); leads = λ g. absurd (omega arith); holds = w.holds; past = w.past }

-- what is known of every log in the air, and of the log in every promise
abbrev pub Known : Members → List Msg → Type 0
Known ms air = (t b : ℕ) (l : List Entry) → Log t b l ∈ air → Tidy l × Backed ms air t b l

abbrev pub Told : List Msg → Type 0
Told air = (t b j h : ℕ) (l : List Entry) → Promise t b j h l ∈ air → Held air t h l

-- a log that is held is tidy; one of a ballot went out in it; and what a log rests on, a longer one of the ballot does
pub held_tidy : {ms : Members} {air : List Msg} {t b : ℕ} {l : List Entry} → Known ms air → Held air t b l → Tidy l
held_tidy known (inl h) = rw h.1 Tidy.nothing
held_tidy {t = t} {b = b} {l = l} known (inr m) = (known t b l m).0

pub held_out : {air : List Msg} {t b : ℕ} {l : List Entry} → Held air t b l → 1 ≤ b → Log t b l ∈ air
held_out (inl h) g = absurd (omega arith)
held_out (inr m) g = m

backed_on : {ms : Members} {air : List Msg} {t b c : ℕ} {k l : List Entry} → Backed ms air t b k → b ≡ c → Prefix k l → Backed ms air t c l
backed_on h e p =
    record {
      old = h.old;
      cs = h.cs;
      past = h.past;
      qs = h.qs;
      from = h.from;
      had = h.had;
      top = h.top;
      most = h.most;
      given = rw (← e) h.given;
      each = rw (← e) h.each;
      pre = pre_trans h.pre p;
    }

-- a term after the first was begun
pub past_begin : {ms : Members} {air : List Msg} {t : ℕ} {o : List Entry} {cs : Members} → Past ms air t o cs → 1 ≤ t → Begin t o cs ∈ air
past_begin Past.first g = absurd (omega arith)
past_begin (Past.after m) g = m

-- what is new about what it sends
pub fresh : {ms : Members} {may : Entry → Type 0} {i : ℕ} {air : List Msg} {s u : Station} {new : List Msg} →
    Own ms i air s → Seen i air s → Known ms air → Told air → Local may i air s u new → AllByRecursion (Fresh ms i air new s u) new
fresh w seen known told (Local.ask b m o p z) = (tt, tt)
fresh w seen known told (Local.promise b m a p l) =
    (record { from = refl; term = refl; stay = refl; had = refl; log = refl; below = l; now = refl; held = held_more (_ ∷ []) w.holds }, tt)
fresh {s = s} w seen known told (Local.lead qs from had l m g p q h each) = (
  record { from = refl; term = refl; stay = refl; above = omega arith; now = refl; ballot = refl; count = refl; took = (l, Memᴰ.tail (Memᴰ.head refl), refl) },
  (
    record {
      term = refl;
      owner = (w.asks g).0;
      pos = g;
      way = inl refl;
      stay = refl;
      log = refl;
      promised = omega arith;
      asks = λ k. omega arith;
      tidy = held_tidy known (told s.term s.asking from had l h);
      backed = record {
        old = s.old;
        cs = s.members;
        past = past_more (_ ∷ _ ∷ []) w.past;
        qs = qs;
        from = from;
        had = had;
        top = l;
        most = q;
        given = Memᴰ.append_right (_ ∷ _ ∷ []) h;
        each = λ j c d. heard_more (_ ∷ _ ∷ []) (each j c d);
        pre = pre_refl l;
      };
    },
    tt,
  ),
)
fresh {s = s} w seen known told (Local.propose e y m g p F) =
    let own = w.leads g in
    let out = held_out w.holds (omega arith) in (
      record {
        from = refl;
        term = refl;
        stay = refl;
        above = omega arith;
        now = sym p;
        ballot = own.0;
        count = sym (length_push s.log e);
        took = (s.log ++ (e ∷ []), Memᴰ.tail (Memᴰ.head refl), length_push s.log e);
      },
      (
        record {
          term = refl;
          owner = own.1;
          pos = g;
          way = inr (refl, one_more s.log e);
          stay = refl;
          log = refl;
          promised = omega arith;
          asks = λ k. omega (arith, w.asks (omega arith));
          tidy = Tidy.push (held_tidy known w.holds) F;
          backed = backed_more (_ ∷ _ ∷ []) (backed_on (known s.term s.ballot s.log out).1 (sym own.0) (one_more s.log e));
        },
        tt,
      ),
    )
fresh w seen known told (Local.take b l m a p up) =
    (record { from = refl; term = refl; stay = refl; above = p; now = refl; ballot = refl; count = refl; took = (l, Memᴰ.append_right (_ ∷ []) a, refl) }, tt)
fresh w seen known told (Local.decide k qs q h x y) = tt
fresh w seen known told (Local.close l e ms q c x z) =
    (inr (record { term = refl; old = refl; before = l; last = e; closes = c; ends = q; sure = x }), tt)
fresh w seen known told (Local.enter t o ms m h) = tt
fresh w seen known told (Local.again h) = (inl (past_begin w.past h), tt)
fresh w seen known told (Local.answer c n h e) = tt
fresh w seen known told Local.stop = tt
fresh w seen known told (Local.stop_torn b l m p) = tt
