-- How a view stands for a station of the rules, and what its notes rest on.
use Rattle.std.proofs.Common.{◌≡◌, ℕ, ◌<◌, ◌≤◌, Bool, true, false, cond, ◌&&◌, ◌||◌, eqb, ltb, ◌⊎◌, List, [], ◌∷◌, ◌++◌, length, refl, inl, inr, arith}
use Rattle.council.proofs.More.{heard_more}
use Rattle.council.proofs.Safe.{upto_trans}
use Rattle.council.specs.Log.{made}
use Rattle.council.specs.Quorum.{IsMember}
use Rattle.council.specs.Rules.{Anything, Heard, Local, Msg, Promise, Station, Upto, ◌∈◌}
use Rattle.entry.specs.declared.entry.Entry.{Entry}
use Rattle.message.specs.Letter.{Asks, Begins, Letter, Parts, Promises, Takes}
use Rattle.quorum.specs.Sets.{inserted}
use Rattle.std.proofs.lemmas.Bool.{cases_lt, and_parts, eqb-false, eqb-true, ltb-false, ltb-true, or_cases, or_parts, and_cases}
use Rattle.std.specs.List.{AllByRecursion}
use Rattle.steps.specs.Steps.{Done, Outcome, Refused, View}
use Rattle.steps_laws.proofs.Bits.{Said, in_inserted, in_none, said_more}
use Rattle.steps_laws.specs.Laws.{Means, Whole}
use mathlib.Core.List.Memᴰ

-- the station, with the past that the view has only the length and the store of
abbrev pub station_of : View → List Entry → Station
station_of v o =
    record {
      term = v.head.term;
      old = o;
      members = v.head.members;
      promised = v.head.promised;
      ballot = v.head.ballot;
      log = v.log;
      sure = v.head.sure;
      asking = v.head.asking;
      leading = v.head.leading;
    }

-- who was heard promised, and the best log is one that was promised, no lower than any of them
pub record Gathers (air : List Msg) (t b heard had : ℕ) (best : List Entry) : Type 0 where
  pub each : (j : ℕ) → IsMember j heard → Heard air t b j had (length best)
  pub top : (heard ≡ 0) ⊎ ((from : ℕ) × (Promise t b from had best ∈ air))

pub record Stands (air : List Msg) (v : View) (o : List Entry) : Type 0 where
  pub whole : Whole v
  pub before : v.head.before ≡ length o
  pub base : v.base ≡ made o
  pub gathers : 1 ≤ v.head.asking → Gathers air v.head.term v.head.asking v.head.heard v.head.had v.best
  pub said : Said air v.head.term v.head.tally.ballot v.head.tally.took

-- what holds stays as more is sent
pub gathers_more : {air : List Msg} {t b heard had : ℕ} {best : List Entry} (new : List Msg) → Gathers air t b heard had best → Gathers (new ++ air) t b heard had best
gathers_more {air} {t} {b} {heard} {had} {best} new G = record { each = λ j m. heard_more new (G.each j m); top = top G.top }
  where
    top : (heard ≡ 0) ⊎ ((from : ℕ) × (Promise t b from had best ∈ air)) → (heard ≡ 0) ⊎ ((from : ℕ) × (Promise t b from had best ∈ new ++ air))
    top (inl e) = inl e
    top (inr p) = inr (p.0, Memᴰ.append_right new p.1)

pub stands_more : {air : List Msg} {v : View} {o : List Entry} (new : List Msg) → Stands air v o → Stands (new ++ air) v o
stands_more {v = v} new S =
    record { whole = S.whole; before = S.before; base = S.base; gathers = λ h. gathers_more new (S.gathers h); said = said_more v.head.tally.took new S.said }

pub means_more : (air new : List Msg) (x : Letter) → Means air x → Means (new ++ air) x
means_more air new (Asks t b) m = Memᴰ.append_right new m
means_more air new (Promises t b from had l) m = Memᴰ.append_right new m
means_more air new (Parts t b p es) m = (m.0, Memᴰ.append_right new m.1, m.2, m.3)
means_more air new (Takes t b from n) m = Memᴰ.append_right new m
means_more air new (Begins t ms n s) m = (m.0, Memᴰ.append_right new m.1, m.2, m.3)

pub all_mean_more : (air new : List Msg) (xs : List Letter) → AllByRecursion (Means air) xs → AllByRecursion (Means (new ++ air)) xs
all_mean_more air new [] a = tt
all_mean_more air new (x ∷ xs) a = (means_more air new x a.0, all_mean_more air new xs a.1)

pub all_append : (P : Letter → Type 0) (xs ys : List Letter) → AllByRecursion P xs → AllByRecursion P ys → AllByRecursion P (xs ++ ys)
all_append P [] ys a b = b
all_append P (x ∷ xs) ys a b = (a.0, all_append P xs ys a.1 b)

-- one promise more
heard_upto : {air : List Msg} {t b j had n was k : ℕ} → Heard air t b j had n → Upto had n was k → Heard air t b j was k
heard_upto h u = record { was = h.was; log = h.log; given = h.given; upto = upto_trans h.upto u }

pub hears_one : {air : List Msg} {t b heard had : ℕ} {best : List Entry} (counts : Bool) (from was k n : ℕ) (l : List Entry) → k ≡ length best → n ≡ length l →
    Promise t b from was l ∈ air → Gathers air t b heard had best →
    Gathers air t b (cond counts (inserted heard from) heard)
    (cond (counts && (eqb heard 0 || (ltb had was || (eqb had was && ltb k n)))) was had)
    (cond (counts && (eqb heard 0 || (ltb had was || (eqb had was && ltb k n)))) l best)
hears_one false from was k n l long more m G = G
hears_one {air} {t} {b} {heard} {had} {best} true from was k n l long more m G = go (eqb heard 0 || (ltb had was || (eqb had was && ltb k n))) refl
  where
    itself : Heard air t b from was (length l)
    itself = record { was = was; log = l; given = m; upto = inr (refl, omega arith) }

    -- the new log is better: nobody was heard, or all are no higher than the best so far, which is lower
    higher : (ltb had was ≡ true) ⊎ ((eqb had was && ltb k n) ≡ true) → Upto had (length best) was (length l)
    higher (inl h) = inl (ltb-true had was h)
    higher (inr h) = let p = and_parts (eqb had was) (ltb k n) h in inr (eqb-true had was p.0, omega (arith, ltb-true k n p.1))

    raise : (eqb heard 0 ≡ true) ⊎ ((ltb had was || (eqb had was && ltb k n)) ≡ true) → (j : ℕ) → IsMember j heard → Heard air t b j was (length l)
    raise (inl z) j h = absurd (in_none j (rw (eqb-true heard 0 z) at h))
    raise (inr y) j h = heard_upto (G.each j h) (higher (or_cases (ltb had was) (eqb had was && ltb k n) y))

    -- or it is no better, and the best so far stays
    lower : ltb had was ≡ false → (eqb had was ≡ false) ⊎ (ltb k n ≡ false) → Upto was (length l) had (length best)
    lower h (inl e) = let a = ltb-false had was h in let q = eqb-false had was e in inl (omega arith)
    lower h (inr e) = at (cases_lt was had)
      where
        at : (was < had) ⊎ (had ≤ was) → Upto was (length l) had (length best)
        at (inl lt) = inl lt
        at (inr ge) = inr (omega (arith, ltb-false had was h), omega (arith, ltb-false k n e))

    either : {X : Type 0} {j : ℕ} → (j ≡ from → X) → (IsMember j heard → X) → (j ≡ from) ⊎ IsMember j heard → X
    either f g (inl e) = f e
    either f g (inr h) = g h

    top : eqb heard 0 ≡ false → (heard ≡ 0) ⊎ ((from : ℕ) × (Promise t b from had best ∈ air)) → (from : ℕ) × (Promise t b from had best ∈ air)
    top z (inl e) = absurd (eqb-false heard 0 z e)
    top z (inr p) = p

    go : (c : Bool) → (eqb heard 0 || (ltb had was || (eqb had was && ltb k n))) ≡ c → Gathers air t b (inserted heard from) (cond c was had) (cond c l best)
    go true e =
        record {
          each = λ j h. either (λ (q : j ≡ from). rw q itself) (raise (or_cases (eqb heard 0) (ltb had was || (eqb had was && ltb k n)) e) j) (in_inserted heard from j h);
          top = inr (from, m);
        }
    go false e =
        let p = or_parts (eqb heard 0) (ltb had was || (eqb had was && ltb k n)) e in
        let q = or_parts (ltb had was) (eqb had was && ltb k n) p.1 in
        record {
          each = λ j h. either (λ (z : j ≡ from). rw z (heard_upto itself (lower q.0 (and_cases (eqb had was) (ltb k n) q.1)))) (G.each j) (in_inserted heard from j h);
          top = inr (top p.0 G.top);
        }

-- what comes of a step: a step of the rules, or nothing that they see; what it sends is meant
pub record Moved (air : List Msg) (v : View) (o : List Entry) (u : View) (sent : List Letter) : Type 0 where
  pub old : List Entry
  pub new : List Msg
  pub me : u.head.me ≡ v.head.me
  pub move : ((station_of u old ≡ station_of v o) × (new ≡ [])) ⊎ Local Anything v.head.me air (station_of v o) (station_of u old) new
  pub stands : Stands (new ++ air) u old
  pub means : AllByRecursion (Means (new ++ air)) sent

abbrev pub Right : List Msg → View → List Entry → Outcome → Type 0
Right air v o (Refused r begin) = Moved air v o v begin
Right air v o (Done u written sent) = Moved air v o u sent
