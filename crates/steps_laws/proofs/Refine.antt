-- Each step is a step of the rules, or nothing that they see.
use Rattle.std.proofs.Common.{◌≡◌, ℕ, zero, suc, ◌+◌, ◌-◌, ◌/◌, ◌%◌, ◌^◌, ◌<◌, ◌≤◌, max, Bool, true, false, cond, eqb, ltb, ◌⊎◌, List, [], ◌∷◌, ◌++◌, length, take, drop, sym, refl, ap, ◌∙◌, subst, inl, inr, arith}
use Rattle.council.proofs.Books.{made_append}
use Rattle.council.proofs.Meeting.{most_some}
use Rattle.council.proofs.State.{Tidy}
use Rattle.council.specs.Log.{made, requests_in}
use Rattle.council.specs.Rules.{Anything, Ask, Begin, Local, Log, Msg, Promise, Station, Took, Upto, ◌∈◌, decided}
use Rattle.entry.specs.declared.entry.Entry.{Entry}
use Rattle.message.specs.Letter.{Asks, Begins, Letter, Parts, Promises, Takes}
use Rattle.quorum.specs.Sets.{is_most}
use Rattle.quorum.specs.Tally.{takers}
use Rattle.std.proofs.lemmas.List.{drop_at, length-append, length_push, take_all}
use Rattle.std.proofs.lemmas.Bool.{cases_lt, eqb-true, ltb-true}
use Rattle.std.specs.List.{AllByRecursion}
use Rattle.steps.specs.Heads.{closes_at, counts_from, counts_itself, last_of}
use Rattle.steps.specs.Steps.{View, asks, begins, behind, closes, counts, decides, gets, gives, hears, leads, proposes, stops, takes}
use Rattle.steps_laws.proofs.Bits.{in_none, is_member, is_most_lem, none_said, noted_said, said_more, took_many}
use Rattle.steps_laws.proofs.Keep.{joins_low, kept_asked, kept_counted, kept_entered, kept_gave, kept_grew, kept_heard, kept_led, kept_stopped, kept_sure, kept_took, laid_length}
use Rattle.steps_laws.proofs.Overlaps.{ends_closed_lem, ends_open, follows_from}
use Rattle.steps_laws.proofs.Stands.{Gathers, Moved, Right, Stands, gathers_more, hears_one, stands_more, station_of}
use Rattle.steps_laws.proofs.Tried.{Joined, on_asks, on_begins, on_closes, on_counts, on_decides, on_gives, on_hears, on_leads, on_proposes, on_takes, sure_view}
use Rattle.steps_laws.specs.Laws.{Means}
use Rattle.steps_laws.specs.World.{Happening, again, ask, close, decide, get, gets_any, happens, lead, letter_at, propose, stop}
use Rattle.store.specs.Store.{Store, played}
use mathlib.Core.List.Memᴰ

-- what the rules' own theorems give of a station: its log grew entry by entry, and a part that joins it is read as the whole
pub record Facts (air : List Msg) (s : Station) : Type 0 where
  pub tidy : Tidy s.log
  pub joins : (b p : ℕ) (l : List Entry) → Log s.term b l ∈ air → p ≤ length l →
      ((s.ballot ≡ b) × (p ≤ length s.log)) ⊎ ((s.ballot < b) × (p ≤ s.sure)) → take p s.log ++ drop p l ≡ l

-- nobody was heard yet
nobody_heard : {air : List Msg} {t b had : ℕ} {best : List Entry} → Gathers air t b 0 had best
nobody_heard = record { each = λ j m. absurd (in_none j m); top = inl refl }

module _ {air : List Msg} {v : View} {o : List Entry} (S : Stands air v o) where
  stays : Moved air v o v []
  stays = record { old = o; new = []; me = refl; move = inl (refl, refl); stands = S; means = tt }

  -- the begin of its own term, sent again
  pub begin_again : (t : ℕ) → Moved air v o v (behind t v)
  begin_again t = go (ltb t v.head.term) refl
    where
      go : (c : Bool) → ltb t v.head.term ≡ c → Moved air v o v (cond c (Begins v.head.term v.head.members v.head.before v.base ∷ []) [])
      go false e = stays
      go true e =
          record {
            old = o;
            new = Begin v.head.term o v.head.members ∷ [];
            me = refl;
            move = inr (Local.again (omega (arith, ltb-true t v.head.term e)));
            stands = stands_more (Begin v.head.term o v.head.members ∷ []) S;
            means = ((o, Memᴰ.head refl, S.before, S.base), tt);
          }

  asks_right : (b : ℕ) → Right air v o (asks b v)
  asks_right b =
      on_asks (Right air v o) v b (λ _. stays) (λ m own high low.
      record {
        old = o;
        new = Ask v.head.term b ∷ [];
        me = refl;
        move = inr (Local.ask b (is_member v.head.members v.head.me m) own high (omega arith));
        stands =
            record {
              whole = (kept_asked v S.whole b high).0;
              before = S.before;
              base = S.base;
              gathers = λ _. nobody_heard;
              said = said_more v.head.tally.took (Ask v.head.term b ∷ []) S.said;
            };
        means = (Memᴰ.head refl, tt);
      })

  -- a ballot that is asked for still, if it is b
  still_asks : {air : List Msg} {t heard had : ℕ} {best : List Entry} (x b : ℕ) → (1 ≤ x → x ≡ b → Gathers air t x heard had best) →
      1 ≤ cond (eqb x b) x 0 → Gathers air t (cond (eqb x b) x 0) heard had best
  still_asks {air} {t} {heard} {had} {best} x b G = go (eqb x b) refl
    where
      go : (c : Bool) → eqb x b ≡ c → 1 ≤ cond c x 0 → Gathers air t (cond c x 0) heard had best
      go true e h = G h (eqb-true x b e)
      go false e h = absurd (omega arith)

  gives_right : (t b : ℕ) → Means air (Asks t b) → Right air v o (gives t b v)
  gives_right t b given =
      on_gives (Right air v o) v t b (λ _. begin_again t) (λ e m high above.
      let new = Promise v.head.term b v.head.me v.head.ballot v.log ∷ [] in
      record {
        old = o;
        new = new;
        me = refl;
        move = inr (Local.promise b (is_member v.head.members v.head.me m) (subst (λ (x : ℕ). Ask x b ∈ air) e given) high above);
        stands =
            record {
              whole = (kept_gave v S.whole b high).0;
              before = S.before;
              base = S.base;
              gathers =
                  still_asks v.head.asking b (λ h q.
                  hears_one (counts_itself b v.head) v.head.me v.head.ballot v.head.best v.head.len v.log S.whole.best S.whole.len
                  (subst (λ (x : ℕ). Promise v.head.term x v.head.me v.head.ballot v.log ∈ new ++ air) (sym q) (Memᴰ.head refl)) (gathers_more new (S.gathers h)));
              said = said_more v.head.tally.took new S.said;
            };
        means = (Memᴰ.head refl, tt);
      })

  hears_right : (t b from had : ℕ) (l : List Entry) → Means air (Promises t b from had l) → Right air v o (hears t b from had l v)
  hears_right t b from had l given =
      on_hears (Right air v o) v t b from had l (λ _. begin_again t) (λ e q.
      record {
        old = o;
        new = [];
        me = refl;
        move = inl (refl, refl);
        stands =
            record {
              whole = (kept_heard v S.whole from had l).0;
              before = S.before;
              base = S.base;
              gathers = λ h.
                  hears_one (counts_from from v.head) from had v.head.best (length l) l S.whole.best refl
                  (subst (λ (x : ℕ). Promise v.head.term x from had l ∈ air) q (subst (λ (x : ℕ). Promise x b from had l ∈ air) e given)) (S.gathers h);
              said = S.said;
            };
        means = tt;
      })

  leads_right : Right air v o (leads v)
  leads_right =
      on_leads (Right air v o) v (λ _. stays) (λ m some same most a.
      let new = Took v.head.term v.head.asking v.head.me (length v.best) ∷ Log v.head.term v.head.asking v.best ∷ [] in
      let G = S.gathers some in
      let Q = is_most_lem v.head.members v.head.heard most in
      let top = best_log G (most_some Q).0 (most_some Q).2 in
      let took = subst (λ (n : ℕ). Took v.head.term v.head.asking v.head.me n ∈ new ++ air) (sym S.whole.best) (Memᴰ.head refl) in
      record {
        old = o;
        new = new;
        me = refl;
        move = inr (Local.lead v.head.heard top.0 v.head.had v.best (is_member v.head.members v.head.me m) some same Q top.1 (λ j _ h. G.each j h));
        stands =
            record {
              whole = (kept_led v S.whole same a).0;
              before = S.before;
              base = S.base;
              gathers = λ h. absurd (omega arith);
              said = noted_said v.head.tally v.head.asking v.head.me v.head.best took (said_more v.head.tally.took new S.said);
            };
        means = ((v.best, Memᴰ.tail (Memᴰ.head refl), omega arith, refl), (took, tt));
      })
    where
      best_log : {t b heard had : ℕ} {best : List Entry} → Gathers air t b heard had best → (j : ℕ) → (heard / 2 ^ j) % 2 ≡ 1 → (from : ℕ) × (Promise t b from had best ∈ air)
      best_log {t} {b} {heard} {had} {best} G j h = go G.top
        where
          go : (heard ≡ 0) ⊎ ((from : ℕ) × (Promise t b from had best ∈ air)) → (from : ℕ) × (Promise t b from had best ∈ air)
          go (inl z) = absurd (in_none j (rw z at h))
          go (inr p) = p

  proposes_right : Tidy v.log → (e : Entry) → Right air v o (proposes e v)
  proposes_right T e =
      on_proposes (Right air v o) v e (λ _. stays) (λ m some same free place.
      let len = S.whole.len in
      let new = Took v.head.term v.head.leading v.head.me (length v.log + 1) ∷ Log v.head.term v.head.leading (v.log ++ (e ∷ [])) ∷ [] in
      let took = subst (λ (n : ℕ). Took v.head.term v.head.leading v.head.me (n + 1) ∈ new ++ air) (sym len) (Memᴰ.head refl) in
      let follows = follows_from v.head.len v.log e len (ends_open v.head.len v.log len T free) place in
      record {
        old = o;
        new = new;
        me = refl;
        move = inr (Local.propose e tt (is_member v.head.members v.head.me m) some same follows);
        stands =
            record {
              whole = (kept_grew v S.whole e).0;
              before = S.before;
              base = S.base;
              gathers = λ h. gathers_more new (S.gathers h);
              said = noted_said v.head.tally v.head.leading v.head.me (v.head.len + 1) took (said_more v.head.tally.took new S.said);
            };
        means =
            ((v.log ++ (e ∷ []), Memᴰ.tail (Memᴰ.head refl), omega (arith, length_push v.log e), sym (drop_at v.log (e ∷ []) v.head.len (sym len))), (took, tt));
      })

  takes_right : Facts air (station_of v o) → (t b p : ℕ) (es : List Entry) → Means air (Parts t b p es) → Right air v o (takes t b p es v)
  takes_right F t b p es given =
      on_takes (Right air v o) v t b p es (λ _. begin_again t) (λ e m high j a.
      let low = joins_low v S.whole b p (length es) j in
      let long = laid_length v S.whole p es low in
      let new = Took v.head.term b v.head.me (length (take p v.log ++ es)) ∷ [] in
      let out = subst (λ (x : ℕ). Log x b given.0 ∈ air) e given.1 in
      let all : take p v.log ++ es ≡ given.0 = ap (λ (l : List Entry). take p v.log ++ l) given.3 ∙ F.joins b p given.0 out given.2 (way j) in
      let took = subst (λ (n : ℕ). Took v.head.term b v.head.me n ∈ new ++ air) (sym long) (Memᴰ.head refl) in
      record {
        old = o;
        new = new;
        me = refl;
        move =
            inr (Local.take b (take p v.log ++ es) (is_member v.head.members v.head.me m) (subst (λ (l : List Entry). Log v.head.term b l ∈ air) (sym all) out) high
            (upto j long));
        stands =
            record {
              whole = (kept_took v S.whole b p es high j a).0;
              before = S.before;
              base = S.base;
              gathers = still_asks v.head.asking b (λ h q. gathers_more new (S.gathers h));
              said = noted_said v.head.tally b v.head.me (p + length es) took (said_more v.head.tally.took new S.said);
            };
        means = (took, tt);
      })
    where
      way : Joined b p (length es) v.head → ((v.head.ballot ≡ b) × (p ≤ length v.log)) ⊎ ((v.head.ballot < b) × (p ≤ v.head.sure))
      way (inl j) = inl (j.0, omega (arith, j.1, S.whole.len))
      way (inr j) = inr j

      upto : Joined b p (length es) v.head → p + length es ≡ length (take p v.log ++ es) → Upto v.head.ballot (length v.log) b (length (take p v.log ++ es))
      upto (inl j) e = inr (j.0, omega (arith, j.2, S.whole.len))
      upto (inr j) e = inl j.0

  counts_right : (t b from n : ℕ) → Means air (Takes t b from n) → Right air v o (counts t b from n v)
  counts_right t b from n given =
      on_counts (Right air v o) v t b from n (λ _. begin_again t) (λ e.
      record {
        old = o;
        new = [];
        me = refl;
        move = inl (refl, refl);
        stands =
            record {
              whole = (kept_counted v S.whole b from n).0;
              before = S.before;
              base = S.base;
              gathers = S.gathers;
              said = noted_said v.head.tally b from n (subst (λ (x : ℕ). Took x b from n ∈ air) e given) S.said;
            };
        means = tt;
      })

  decides_right : (k : ℕ) → Right air v o (decides k v)
  decides_right k =
      on_decides (Right air v o) v k (λ _. stays) (λ same most low.
      record {
        old = o;
        new = [];
        me = refl;
        move = move same most low (cases_lt v.head.sure k);
        stands = record { whole = (kept_sure v S.whole k low).0; before = S.before; base = S.base; gathers = S.gathers; said = S.said };
        means = tt;
      })
    where
      move : v.head.tally.ballot ≡ v.head.ballot → is_most v.head.members (takers k v.head.tally.took) ≡ true → k ≤ v.head.len → (v.head.sure < k) ⊎ (k ≤ v.head.sure) →
          ((station_of (sure_view k v) o ≡ station_of v o) × (◌≡◌ {A = List Msg} [] [])) ⊎ Local Anything v.head.me air (station_of v o) (station_of (sure_view k v) o) []
      move same most low (inr h) = let e : max v.head.sure k ≡ v.head.sure = omega arith in inl (ap (λ (n : ℕ). decided n (station_of v o)) e, refl)
      move same most low (inl h) =
          inr (Local.decide (max v.head.sure k) (takers k v.head.tally.took) (is_most_lem v.head.members (takers k v.head.tally.took) most) (λ j _ q.
          let many = took_many k v.head.tally.took j q in
          let T = S.said j (omega arith) in
          record { count = T.count; many = omega (arith, T.many); said = subst (λ (b : ℕ). Took v.head.term b j T.count ∈ air) same T.said })
          (omega arith) (omega (arith, S.whole.fits, S.whole.len)))

  closes_right : Right air v o (closes v)
  closes_right =
      on_closes (Right air v o) v (λ _. stays) (λ sure ends low.
      let len = S.whole.len in
      let ms = closes_at v.head.len v.log in
      let split = ends_closed_lem v.head.len v.log len ends in
      let new = Begin (v.head.term + 1) (o ++ v.log) ms ∷ [] in
      let before : v.head.before + v.head.len ≡ length (o ++ v.log) = omega (arith, S.before, len, length-append o v.log) in
      let store = all_live (sure ∙ len) in
      record {
        old = o ++ v.log;
        new = new;
        me = refl;
        move = inr (Local.close (take (v.head.len - 1) v.log) (last_of v.head.len v.log) ms split.0 split.1 (sure ∙ len) low);
        stands =
            record {
              whole = (kept_entered v S.whole (v.head.term + 1) ms (v.head.before + v.head.len) v.live (omega arith)).0;
              before = before;
              base = store;
              gathers = λ h. absurd (omega arith);
              said = none_said;
            };
        means = ((o ++ v.log, Memᴰ.head refl, before, store), tt);
      })
    where
      all_live : v.head.sure ≡ length v.log → v.live ≡ made (o ++ v.log)
      all_live e =
          S.whole.live ∙ ap (λ (l : List Entry). played v.base (requests_in l)) (take_all v.head.sure v.log (omega arith)) ∙
          ap (λ (s : Store). played s (requests_in v.log)) S.base ∙ sym (made_append o v.log)

  begins_right : (t ms n : ℕ) (store : Store) → Means air (Begins t ms n store) → Right air v o (begins t ms n store v)
  begins_right t ms n store given =
      on_begins (Right air v o) v t ms n store (λ _. begin_again t) (λ later.
      record {
        old = given.0;
        new = [];
        me = refl;
        move = inr (Local.enter t given.0 ms given.1 later);
        stands =
            record {
              whole = (kept_entered v S.whole t ms n store later).0;
              before = given.2;
              base = given.3;
              gathers = λ h. absurd (omega arith);
              said = none_said;
            };
        means = tt;
      })

  stops_right : Moved air v o (stops v) []
  stops_right =
      record {
        old = o;
        new = [];
        me = refl;
        move = inr Local.stop;
        stands = record { whole = (kept_stopped v S.whole).0; before = S.before; base = S.base; gathers = λ h. absurd (omega arith); said = none_said };
        means = tt;
      }

  letter_right : Facts air (station_of v o) → (x : Letter) → Means air x → Right air v o (gets x v)
  letter_right F (Asks t b) m = gives_right t b m
  letter_right F (Promises t b from had l) m = hears_right t b from had l m
  letter_right F (Parts t b p es) m = takes_right F t b p es m
  letter_right F (Takes t b from n) m = counts_right t b from n m
  letter_right F (Begins t ms n s) m = begins_right t ms n s m

  any_right : Facts air (station_of v o) → (letters : List Letter) (k : ℕ) → AllByRecursion (Means air) letters → Right air v o (gets_any (letter_at letters k) v)
  any_right F [] k a = stays
  any_right F (x ∷ letters) zero a = letter_right F x a.0
  any_right F (x ∷ letters) (suc k) a = any_right F letters k a.1

  pub right : Facts air (station_of v o) → (letters : List Letter) → AllByRecursion (Means air) letters → (x : Happening) → Right air v o (happens x letters v)
  right F letters a (ask b) = asks_right b
  right F letters a (get k) = any_right F letters k a
  right F letters a lead = leads_right
  right F letters a (propose e) = proposes_right F.tidy e
  right F letters a (decide k) = decides_right k
  right F letters a close = closes_right
  right F letters a stop = stops_right
  right F letters a again = begin_again 0
