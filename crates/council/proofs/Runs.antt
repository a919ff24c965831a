-- Runs by some stations alone: each takes its turn, and what is said of the others stays.
use Rattle.std.proofs.Common.{◌≡◌, ℕ, zero, suc, ◌^◌, ◌<◌, ◌≤◌, Bool, true, false, cond, eqb, ◌⊎◌, List, ◌++◌, refl, inl, inr, arith}
use Rattle.council.specs.Promises.{Path}
use Rattle.council.specs.Quorum.{Members, Sound, IsMember}
use Rattle.council.specs.Rules.{Local, Msg, Net, Reach, Run, Station, Step, put}
use Rattle.entry.specs.declared.entry.Entry.{Entry}
use Rattle.std.proofs.lemmas.Nat.{div_below}
use Rattle.std.proofs.lemmas.Bool.{cases_eq, cases_lt, eqb-false, eqb-true}
use native.Mathlib.Nat.{pow-le-pow_right}

-- steps that may propose some entries are steps that may propose more
local_more : {may can : Entry → Type 0} {i : ℕ} {air : List Msg} {s u : Station} {new : List Msg} → ((e : Entry) → may e → can e) → Local may i air s u new → Local can i air s u new
local_more f (Local.ask b m o p x) = Local.ask b m o p x
local_more f (Local.promise b m a p x) = Local.promise b m a p x
local_more f (Local.lead qs w h l m a p q g e) = Local.lead qs w h l m a p q g e
local_more f (Local.propose e y m a p x) = Local.propose e (f e y) m a p x
local_more f (Local.take b l m a p x) = Local.take b l m a p x
local_more f (Local.decide k qs m e x y) = Local.decide k qs m e x y
local_more f (Local.close l e ms q c x y) = Local.close l e ms q c x y
local_more f (Local.enter t o ms m x) = Local.enter t o ms m x
local_more f (Local.again x) = Local.again x
local_more f (Local.answer c n x y) = Local.answer c n x y
local_more f Local.stop = Local.stop
local_more f (Local.stop_torn b l m x) = Local.stop_torn b l m x

step_more : {may can : Entry → Type 0} {i : ℕ} {n m : Net} → ((e : Entry) → may e → can e) → Step may i n m → Step can i n m
step_more f (Step.step l) = Step.step (local_more f l)

pub path_more : {may can : Entry → Type 0} {qs : Members} {n m : Net} → ((e : Entry) → may e → can e) → Path may qs n m → Path can qs n m
path_more f Path.none = Path.none
path_more f (Path.more j p q s) = Path.more j (path_more f p) q (step_more f s)

pub reach_along : {ms : Members} {may : Entry → Type 0} {qs : Members} {n m : Net} → Reach ms n → Path may qs n m → Reach ms m
reach_along r Path.none = r
reach_along r (Path.more j p q s) = Run.more j (reach_along r p) (step_more (λ e y. tt) s)

-- a member of a council that is one of those that act
pub record Voter (cs qs : Members) (j : ℕ) : Type 0 where
  pub member : IsMember j cs
  pub acts : IsMember j qs

pub voter_or_not : (cs qs : Members) (j : ℕ) → Voter cs qs j ⊎ (Voter cs qs j → ⊥)
voter_or_not cs qs j = go (cases_eq _ 1) (cases_eq _ 1)
  where
    go : IsMember j cs ⊎ (IsMember j cs → ⊥) → IsMember j qs ⊎ (IsMember j qs → ⊥) → Voter cs qs j ⊎ (Voter cs qs j → ⊥)
    go (inl m) (inl a) = inl (record { member = m; acts = a })
    go (inl m) (inr x) = inr (λ v. x v.acts)
    go (inr x) a = inr (λ v. x v.member)

-- members are stations below 16
pub below_16 : {cs qs : Members} {j : ℕ} → Sound cs → Voter cs qs j → j < 16
below_16 {cs} {qs} {j} c v = go (cases_lt j 16)
  where
    go : (j < 16) ⊎ (16 ≤ j) → j < 16
    go (inl h) = h
    go (inr h) =
        let p = pow-le-pow_right {n = 2} (omega arith) h in
        absurd (omega (arith, div_below cs (2 ^ j) 1 (omega arith) (omega arith)))

-- what is said of a station, with so much in the air; it lasts if it holds when more was sent
abbrev pub Says : Type 1
Says = List Msg → ℕ → Station → Type 0

abbrev pub Lasts : Says → Type 0
Lasts P = (new air : List Msg) (j : ℕ) (s : Station) → P air j s → P (new ++ air) j s

-- a path from a net, and what is said of every voter at its end
pub record Arrives (may : Entry → Type 0) (cs qs : Members) (n : Net) (P : Says) : Type 0 where
  pub end : Net
  pub path : Path may qs n end
  pub all : (j : ℕ) → Voter cs qs j → P end.air j (end.station j)

-- a step of a station, and what is said of it then
pub record Turn (may : Entry → Type 0) (Q : Says) (air : List Msg) (j : ℕ) (s : Station) : Type 0 where
  pub next : Station
  pub new : List Msg
  pub does : Local may j air s next new
  pub gives : Q (new ++ air) j next

-- what holds of the station that took a step, and of the others as they were, holds of all after it
put_else : (P : ℕ → Station → Type 0) {i : ℕ} {u : Station} {f : ℕ → Station} → P i u → ((j : ℕ) → (j ≡ i → ⊥) → P j (f j)) → (j : ℕ) → P j (put i u f j)
put_else P {i} {u} {f} here there j = go (eqb j i) refl
  where
    go : (b : Bool) → eqb j i ≡ b → P j (cond b u (f j))
    go true e = rw (eqb-true j i e) here
    go false e = there j (eqb-false j i e)

-- the voters below k had their turn, or needed none
abbrev Upon : Says → Says → ℕ → Says
Upon P Q k air j s = ((j < k) × Q air j s) ⊎ ((k ≤ j) × P air j s)

module _ {may : Entry → Type 0} {cs qs : Members} {n : Net} where
  -- what is said there, said in other words
  pub so : {P Q : Says} (c : Arrives may cs qs n P) → ((j : ℕ) → Voter cs qs j → P c.end.air j (c.end.station j) → Q c.end.air j (c.end.station j)) → Arrives may cs qs n Q
  so c f = record { end = c.end; path = c.path; all = λ j v. f j v (c.all j v) }

  -- one voter takes a step
  pub one : {P Q : Says} (c : Arrives may cs qs n P) {i : ℕ} → Voter cs qs i → (turn : Turn may Q c.end.air i (c.end.station i)) →
      ((j : ℕ) (s : Station) → (j ≡ i → ⊥) → P c.end.air j s → Q (turn.new ++ c.end.air) j s) → Arrives may cs qs n Q
  one {P} {Q} c {i} v turn rest =
      record {
        end = record { station = put i turn.next c.end.station; air = turn.new ++ c.end.air };
        path = Path.more i c.path v.acts (Step.step turn.does);
        all = put_else (λ j s. Voter cs qs j → Q (turn.new ++ c.end.air) j s) (λ w. turn.gives) (λ j x w. rest j _ x (c.all j w));
      }

  in_turn : (P Q : Says) → Lasts P → Lasts Q → ((air : List Msg) (j : ℕ) (s : Station) → Voter cs qs j → P air j s → Q air j s ⊎ Turn may Q air j s) →
      Arrives may cs qs n P → (k : ℕ) → Arrives may cs qs n (Upon P Q k)
  in_turn P Q p-lasts q-lasts act c zero = so c (λ j v p. inr (omega arith, p))
  in_turn P Q p-lasts q-lasts act c (suc k) = go (in_turn P Q p-lasts q-lasts act c k) (voter_or_not cs qs k)
    where
      next : {air : List Msg} {j : ℕ} {s : Station} → (j ≡ k → ⊥) → Upon P Q k air j s → Upon P Q (suc k) air j s
      next x (inl h) = inl (omega arith, h.1)
      next x (inr h) = inr (omega arith, h.1)

      lasts : (new air : List Msg) (j : ℕ) (s : Station) → Upon P Q (suc k) air j s → Upon P Q (suc k) (new ++ air) j s
      lasts new air j s (inl h) = inl (h.0, q-lasts new air j s h.1)
      lasts new air j s (inr h) = inr (h.0, p-lasts new air j s h.1)

      turned : (d : Arrives may cs qs n (Upon P Q k)) → Voter cs qs k → Q d.end.air k (d.end.station k) ⊎ Turn may Q d.end.air k (d.end.station k) → Arrives may cs qs n (Upon P Q (suc k))
      turned d v (inl q) = so d (λ j w h. at j h (cases_eq j k))
        where
          at : (j : ℕ) → Upon P Q k d.end.air j (d.end.station j) → (j ≡ k) ⊎ (j ≡ k → ⊥) → Upon P Q (suc k) d.end.air j (d.end.station j)
          at j h (inl e) = inl (omega arith, rw e q)
          at j h (inr x) = next x h
      turned d v (inr turn) =
          one d v (record { next = turn.next; new = turn.new; does = turn.does; gives = inl (omega arith, turn.gives) }) (λ j s x h. lasts _ _ j s (next x h))

      not_yet : {air : List Msg} {s : Station} → Upon P Q k air k s → P air k s
      not_yet (inl h) = absurd (omega arith)
      not_yet (inr h) = h.1

      go : Arrives may cs qs n (Upon P Q k) → Voter cs qs k ⊎ (Voter cs qs k → ⊥) → Arrives may cs qs n (Upon P Q (suc k))
      go d (inl v) = turned d v (act _ k _ v (not_yet (d.all k v)))
      go d (inr x) = so d (λ j v h. next (λ e. x (rw e at v)) h)

  -- every voter takes its turn
  pub every : (P Q : Says) → Sound cs → Lasts P → Lasts Q → ((air : List Msg) (j : ℕ) (s : Station) → Voter cs qs j → P air j s → Q air j s ⊎ Turn may Q air j s) →
      Arrives may cs qs n P → Arrives may cs qs n Q
  every P Q sound p-lasts q-lasts act c = so (in_turn P Q p-lasts q-lasts act c 16) (λ j v h. done j (below_16 sound v) h)
    where
      done : (j : ℕ) {air : List Msg} {s : Station} → j < 16 → Upon P Q 16 air j s → Q air j s
      done j x (inl h) = h.1
      done j x (inr h) = absurd (omega arith)
