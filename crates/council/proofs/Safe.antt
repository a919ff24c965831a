-- One step keeps the invariants, so they hold of all that can come about.
use Rattle.std.proofs.Common.{◌≡◌, ℕ, ◌%◌, ◌<◌, ◌≤◌, Bool, true, false, cond, eqb, ◌⊎◌, List, [], ◌∷◌, ◌++◌, length, sym, refl, ◌∙◌, inl, inr, arith}
use Rattle.council.proofs.Changes.{Fresh, FreshLog, FreshPromise, FreshTook, Later, Same, Seen}
use Rattle.council.proofs.More.{backed_more, held_more, own_more}
use Rattle.council.proofs.Moves.{Known, Told, fresh, later, own_after, same_self}
use Rattle.council.proofs.Prefixes.{pre_of, pre_trans}
use Rattle.council.proofs.State.{Gone, Good, Here, Own, Owned, Safe}
use Rattle.council.specs.Log.{Line, Prefix}
use Rattle.council.specs.Promises.{Past}
use Rattle.council.specs.Quorum.{Members}
use Rattle.council.specs.Rules.{Ask, Begin, Local, Log, Msg, Net, Promise, Reach, Run, Station, Step, Took, Upto, ◌∈◌, entered, put}
use Rattle.entry.specs.declared.entry.Entry.{Entry}
use Rattle.std.proofs.lemmas.Bool.{eq-eqb, eqb-true}
use Rattle.std.specs.List.{AllByRecursion}
use mathlib.Core.List.Memᴰ

-- what holds of the station that took a step, and of the others as they were, holds of all after it
pub put_all : (P : ℕ → Station → Type 0) {i : ℕ} {u : Station} {f : ℕ → Station} → P i u → ((j : ℕ) → P j (f j)) → (j : ℕ) → P j (put i u f j)
put_all P {i} {u} {f} here there j = go (eqb j i) refl
  where
    go : (b : Bool) → eqb j i ≡ b → P j (cond b u (f j))
    go true e = rw (eqb-true j i e) here
    go false e = there j

pub put_at : (i : ℕ) (u : Station) (f : ℕ → Station) (j : ℕ) → j ≡ i → put i u f j ≡ u
put_at i u f j e = rw (eq-eqb j i e)

pub all_at : (P : Msg → Type 0) (l : List Msg) → AllByRecursion P l → (x : Msg) → x ∈ l → P x
all_at P [] a x m = elim m [ ]
all_at P (y ∷ l) a x m = go (Memᴰ.cases_cons m) (all_at P l a.1 x)
  where
    go : (x ≡ y) ⊎ (x ∈ l) → (x ∈ l → P x) → P x
    go (inl e) f = rw e a.0
    go (inr h) f = f h

pub upto_trans : {a b c d e f : ℕ} → Upto a b c d → Upto c d e f → Upto a b e f
upto_trans (inl h) (inl k) = inl (omega arith)
upto_trans (inl h) (inr k) = inl (omega arith)
upto_trans (inr h) (inl k) = inl (omega arith)
upto_trans (inr h) (inr k) = inr (omega arith)

-- what a station keeps of what was said of it
promise_lasts : {t b : ℕ} {s u : Station} → Later s u → Gone t s ⊎ (Here t s × (b ≤ s.promised)) → Gone t u ⊎ (Here t u × (b ≤ u.promised))
promise_lasts (inl k) (inl h) = inl (omega arith)
promise_lasts (inl k) (inr h) = inl (omega arith)
promise_lasts (inr k) (inl h) = inl (omega arith)
promise_lasts (inr k) (inr h) = inr (omega arith)

owned_lasts : {b : ℕ} {l : List Entry} {s u : Station} → 1 ≤ b → Same s u → Owned s b l → Owned u b l
owned_lasts {b} {l} {s} {u} pos k o = record { promised = omega arith; asks = λ e. not_asked e (k.asks (omega arith)); leads = λ e. ahead e (k.leads (omega arith)) }
  where
    not_asked : u.asking ≡ b → (u.asking ≡ s.asking) ⊎ (s.promised < u.asking) → ⊥
    not_asked e (inl q) = o.asks (sym q ∙ e)
    not_asked e (inr h) = omega arith

    ahead : u.leading ≡ b → ((u.leading ≡ s.leading) × Prefix s.log u.log) ⊎ (u.leading ≡ s.asking) → Prefix l u.log
    ahead e (inl q) = pre_trans (o.leads (sym q.0 ∙ e)) q.1
    ahead e (inr q) = absurd (o.asks (sym q ∙ e))

log_lasts : {t b : ℕ} {l : List Entry} {s u : Station} → 1 ≤ b → Later s u → Gone t s ⊎ (Here t s × Owned s b l) → Gone t u ⊎ (Here t u × Owned u b l)
log_lasts pos (inl k) (inl h) = inl (omega arith)
log_lasts pos (inl k) (inr h) = inl (omega (arith, h.0))
log_lasts pos (inr k) (inl h) = inl (omega arith)
log_lasts pos (inr k) (inr h) = inr (h.0 ∙ k.term, owned_lasts pos k h.1)

took_lasts : {t b c : ℕ} {s u : Station} → Later s u → Gone t s ⊎ (Here t s × Upto b c s.ballot (length s.log)) →
    Gone t u ⊎ (Here t u × Upto b c u.ballot (length u.log))
took_lasts (inl k) (inl h) = inl (omega arith)
took_lasts (inl k) (inr h) = inl (omega (arith, h.0))
took_lasts (inr k) (inl h) = inl (omega arith)
took_lasts (inr k) (inr h) = inr (h.0 ∙ k.term, upto_trans h.1 k.took)

-- what the steps' lemmas ask for
module _ {ms : Members} {f : ℕ → Station} {air : List Msg} (S : Safe ms f air) where
  pub seen_by : (i : ℕ) → Seen i air (f i)
  seen_by i b l m e = go (rw e at (S.good _ m).kept)
    where
      go : Gone (f i).term (f i) ⊎ (Here (f i).term (f i) × Owned (f i) b l) → Owned (f i) b l
      go (inl h) = absurd (omega arith)
      go (inr h) = h.1

  pub known_all : Known ms air
  known_all t b l m = let g = S.good _ m in (g.tidy, g.backed)

  pub told_all : Told air
  told_all t b j h l m = (S.good _ m).held

-- a step of station i
module _ {ms : Members} {may : Entry → Type 0} {i : ℕ} {f : ℕ → Station} {air : List Msg} {u : Station} {new : List Msg}
    (S : Safe ms f air) (L : Local may i air (f i) u new) where
  pub later_all : (j : ℕ) → Later (f j) (put i u f j)
  later_all = put_all (λ j s. Later (f j) s) (later (S.own i) (seen_by S i) L) (λ j. inr (same_self (f j)))

  pub new_is : (x : Msg) → x ∈ new → Fresh ms i air new (f i) u x
  new_is = all_at (Fresh ms i air new (f i) u) new (fresh (S.own i) (seen_by S i) (known_all S) (told_all S) L)

  own' : (j : ℕ) → Own ms j (new ++ air) (put i u f j)
  own' = put_all (λ j s. Own ms j (new ++ air) s) (own_after (S.own i) (seen_by S i) L) (λ j. own_more new (S.own j))

  good_lasts : (x : Msg) → Good ms f air x → Good ms (put i u f) (new ++ air) x
  good_lasts (Ask t b) g = tt
  good_lasts (Promise t b j h l) g = record { below = g.below; held = held_more new g.held; kept = promise_lasts (later_all j) g.kept }
  good_lasts (Log t b l) g =
      record { pos = g.pos; tidy = g.tidy; backed = backed_more new g.backed; kept = log_lasts g.pos (later_all (b % 16)) g.kept }
  good_lasts (Took t b j c) g =
      record { took = (g.took.0, Memᴰ.append_right new g.took.1, g.took.2); kept = took_lasts (later_all j) g.kept }
  good_lasts (Begin t o cs) g = tt

  good_new : (x : Msg) → Fresh ms i air new (f i) u x → Good ms (put i u f) (new ++ air) x
  good_new (Ask t b) g = tt
  good_new (Promise t b j h l) g = record { below = g.below; held = g.held; kept = rw (put_at i u f j g.from) (inr (g.stay, omega arith)) }
  good_new (Log t b l) g =
      record {
        pos = g.pos;
        tidy = g.tidy;
        backed = g.backed;
        kept = rw (put_at i u f (b % 16) g.owner) (inr (g.stay, record { promised = g.promised; asks = g.asks; leads = λ e. pre_of g.log }));
      }
  good_new (Took t b j c) g = record { took = g.took; kept = rw (put_at i u f j g.from) (inr (g.stay, inr (g.ballot, omega arith))) }
  good_new (Begin t o cs) g = tt

  good' : (x : Msg) → x ∈ new ++ air → Good ms (put i u f) (new ++ air) x
  good' x m = go (Memᴰ.append_cases new m)
    where
      go : (x ∈ new) ⊎ (x ∈ air) → Good ms (put i u f) (new ++ air) x
      go (inl h) = good_new x (new_is x h)
      go (inr h) = good_lasts x (S.good x h)

  -- a new log continues whatever went out in its ballot
  line_new : (t b : ℕ) (k l : List Entry) → FreshLog ms i (new ++ air) (f i) u t b k → Log t b l ∈ air → Prefix l k
  line_new t b k l g m = go (seen_by S i b l (rw g.term at m) g.owner) g.way
    where
      go : Owned (f i) b l → (b ≡ (f i).asking) ⊎ ((b ≡ (f i).leading) × Prefix (f i).log k) → Prefix l k
      go o (inl e) = absurd (o.asks (sym e))
      go o (inr e) = pre_trans (o.leads (sym e.0)) e.1

  line' : (t b : ℕ) (k l : List Entry) → Log t b k ∈ new ++ air → Log t b l ∈ new ++ air → Line k l
  line' t b k l p q = go (Memᴰ.append_cases new p) (Memᴰ.append_cases new q)
    where
      go : (Log t b k ∈ new) ⊎ (Log t b k ∈ air) → (Log t b l ∈ new) ⊎ (Log t b l ∈ air) → Line k l
      go (inl x) (inl y) = inl (pre_of ((new_is _ x).log ∙ sym (new_is _ y).log))
      go (inl x) (inr y) = inr (line_new t b k l (new_is _ x) y)
      go (inr x) (inl y) = inl (line_new t b l k (new_is _ y) x)
      go (inr x) (inr y) = S.line t b k l x y

  -- a promise tells all that was taken before it, and nothing below it is taken after it
  votes' : (t b j h : ℕ) (l : List Entry) (d c : ℕ) → Promise t b j h l ∈ new ++ air → Took t d j c ∈ new ++ air → d < b → Upto d c h (length l)
  votes' t b j h l d c p q lt = go (Memᴰ.append_cases new p) (Memᴰ.append_cases new q)
    where
      before : FreshPromise i (new ++ air) (f i) u t b j h l → Gone t (f i) ⊎ (Here t (f i) × Upto d c (f i).ballot (length (f i).log)) → Upto d c h (length l)
      before g (inl k) = absurd (omega arith)
      before g (inr k) = rw (g.had, g.log) k.1

      after : FreshTook i (new ++ air) (f i) u t d j c → Gone t (f i) ⊎ (Here t (f i) × (b ≤ (f i).promised)) → Upto d c h (length l)
      after g (inl k) = absurd (omega arith)
      after g (inr k) = absurd (omega arith)

      go : (Promise t b j h l ∈ new) ⊎ (Promise t b j h l ∈ air) → (Took t d j c ∈ new) ⊎ (Took t d j c ∈ air) → Upto d c h (length l)
      go (inl x) (inl y) = absurd (omega (arith, (new_is _ x).now, (new_is _ y).now))
      go (inl x) (inr y) = before (new_is _ x) (rw (new_is _ x).from at (S.good _ y).kept)
      go (inr x) (inl y) = after (new_is _ y) (rw (new_is _ y).from at (S.good _ x).kept)
      go (inr x) (inr y) = S.votes t b j h l d c x y lt

  pub safe_step : Safe ms (put i u f) (new ++ air)
  safe_step = record { own = own'; good = good'; line = line'; votes = votes' }

-- as it all begins
opened : (ms : Members) → Safe ms (λ i. entered 0 [] ms) []
opened ms =
    record {
      own = λ i. record { low = omega arith; asks = λ g. absurd (omega arith); leads = λ g. absurd (omega arith); holds = inl (refl, refl); past = Past.first };
      good = λ x m. elim m [ ];
      line = λ t b k l m. elim m [ ];
      votes = λ t b j h l d c m. elim m [ ];
    }

-- the same of the rule for the whole
pub later_on : {ms : Members} {may : Entry → Type 0} {i : ℕ} {n m : Net} → Safe ms n.station n.air → Step may i n m → (j : ℕ) → Later (n.station j) (m.station j)
later_on S (Step.step L) = later_all S L

pub safe_on : {ms : Members} {may : Entry → Type 0} {i : ℕ} {n m : Net} → Safe ms n.station n.air → Step may i n m → Safe ms m.station m.air
safe_on S (Step.step L) = safe_step S L

pub safe : {ms : Members} {n : Net} → Reach ms n → Safe ms n.station n.air
safe {ms} Run.none = opened ms
safe (Run.more i r s) = safe_on (safe r) s

-- one run after another
pub run_on : {n m o : Net} → Run n m → Run m o → Run n o
run_on r Run.none = r
run_on r (Run.more i q s) = Run.more i (run_on r q) s
