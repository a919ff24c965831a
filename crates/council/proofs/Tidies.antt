-- Logs that grew entry by entry: a close stands only at the end, names a council, and the log is never too long.
use Rattle.std.proofs.Common.{◌≡◌, ◌<◌, ◌≤◌, Bool, true, false, ◌||◌, ◌⊎◌, List, [], ◌∷◌, ◌++◌, length, is_some, Some, None, Option, sym, refl, ap, ◌∙◌, inl, inr, arith}
use Rattle.council.proofs.State.{Tidy}
use Rattle.council.specs.Log.{Closes, closed, closes_to, is_close}
use Rattle.council.specs.Quorum.{Members, Sound}
use Rattle.entry.specs.declared.entry.Entry.{Entry}
use Rattle.std.proofs.lemmas.List.{append_assoc, length-append, length_push, same_from_push}
use Rattle.std.proofs.lemmas.Bool.{false≢true, or_cases, true≢false}

-- an entry that is a close closes to some council, and the other way round
pub is_close_lem : {e : Entry} {ms : Members} → Closes e ms → is_close e ≡ true
is_close_lem c = ap is_some c.to

pub close_is : (e : Entry) → is_close e ≡ true → (ms : Members) × Closes e ms
close_is e h = go (closes_to e) refl h
  where
    go : (o : Option Members) → closes_to e ≡ o → is_some o ≡ true → (ms : Members) × Closes e ms
    go None q y = absurd (false≢true y)
    go (Some ms) q y = (ms, record { to = q })

pub closed_append : (a b : List Entry) → closed (a ++ b) ≡ (closed a || closed b)
unfolding closed
closed_append [] b = refl
closed_append (e ∷ a) b = ap (λ (c : Bool). is_close e || c) (closed_append a b) ∙ go (is_close e)
  where
    go : (x : Bool) → (x || (closed a || closed b)) ≡ ((x || closed a) || closed b)
    go true = refl
    go false = refl

-- a log with a close in it is closed
pub closed_at : (a b : List Entry) {e : Entry} {ms : Members} → Closes e ms → closed (a ++ (e ∷ b)) ≡ true
unfolding closed
closed_at [] b c = rw (is_close_lem c) refl
closed_at (x ∷ a) b c = rw (closed_at a b c) (go (is_close x))
  where
    go : (y : Bool) → (y || true) ≡ true
    go true = refl
    go false = refl

-- where a closed log has its close
pub record Split (l : List Entry) : Type 0 where
  pub before : List Entry
  pub entry : Entry
  pub rest : List Entry
  pub members : Members
  pub is : l ≡ before ++ (entry ∷ rest)
  pub closes : Closes entry members

pub closed_split : (l : List Entry) → closed l ≡ true → Split l
unfolding closed
closed_split [] h = absurd (false≢true h)
closed_split (e ∷ l) h = go (or_cases (is_close e) (closed l) h) (closed_split l)
  where
    go : (is_close e ≡ true) ⊎ (closed l ≡ true) → (closed l ≡ true → Split l) → Split (e ∷ l)
    go (inl c) f = let m = close_is e c in record { before = []; entry = e; rest = l; members = m.0; is = refl; closes = m.1 }
    go (inr c) f =
        let s = f c in
        record { before = e ∷ s.before; entry = s.entry; rest = s.rest; members = s.members; is = ap (λ (k : List Entry). e ∷ k) s.is; closes = s.closes }

-- a list is empty or has a last element
unpush : (l : List Entry) → (l ≡ []) ⊎ ((a : List Entry) × (e : Entry) × (l ≡ a ++ (e ∷ [])))
unpush [] = inl refl
unpush (x ∷ l) = go (unpush l)
  where
    go : (l ≡ []) ⊎ ((a : List Entry) × (e : Entry) × (l ≡ a ++ (e ∷ []))) → (x ∷ l ≡ []) ⊎ ((a : List Entry) × (e : Entry) × (x ∷ l ≡ a ++ (e ∷ [])))
    go (inl q) = inr ([], x, ap (λ (k : List Entry). x ∷ k) q)
    go (inr p) = inr (x ∷ p.0, p.1, ap (λ (k : List Entry). x ∷ k) p.2)

-- a close stands only last, and names a sound council
pub tidy_close : (a b : List Entry) {l : List Entry} {e : Entry} {ms : Members} → Tidy l → l ≡ a ++ (e ∷ b) → Closes e ms → (b ≡ []) × Sound ms
tidy_close a b {e = e} Tidy.nothing q c = let n = ap length q ∙ length-append a (e ∷ b) in absurd (omega arith)
tidy_close a b {e = e} {ms = ms} (Tidy.push {l = l} {e = x} T F) q c = go (unpush b)
  where
    go : (b ≡ []) ⊎ ((d : List Entry) × (y : Entry) × (b ≡ d ++ (y ∷ []))) → (b ≡ []) × Sound ms
    go (inl n) =
        let z = same_from_push l a x e (q ∙ ap (λ (k : List Entry). a ++ (e ∷ k)) n) in
        (n, F.council ms (record { to = ap closes_to z.1 ∙ c.to }))
    go (inr p) =
        let z = same_from_push l (a ++ (e ∷ p.0)) x p.1 (q ∙ ap (λ (k : List Entry). a ++ (e ∷ k)) p.2 ∙ sym (append_assoc a (e ∷ p.0) (p.1 ∷ []))) in
        absurd (false≢true (sym F.unclosed ∙ ap closed z.0 ∙ closed_at a p.0 c))

-- a closed log ends with its close
pub tidy_closed : {l : List Entry} → Tidy l → closed l ≡ true → (a : List Entry) × (e : Entry) × (ms : Members) × (l ≡ a ++ (e ∷ [])) × Closes e ms
tidy_closed {l} T h =
    let s = closed_split l h in
    let n = (tidy_close s.before s.rest T s.is s.closes).0 in
    (s.before, s.entry, s.members, s.is ∙ ap (λ (k : List Entry). s.before ++ (s.entry ∷ k)) n, s.closes)

-- the last place is for a close
pub tidy_few : {l : List Entry} → Tidy l → length l ≤ 4096
tidy_few Tidy.nothing = omega arith
tidy_few (Tidy.push {l = l} {e = e} T F) = let n = length_push l e in omega arith

pub tidy_open : {l : List Entry} → Tidy l → closed l ≡ false → length l ≤ 4095
tidy_open Tidy.nothing h = omega arith
tidy_open (Tidy.push {l = l} {e = e} T F) h = go F.room
  where
    go : (length l < 4095) ⊎ ((length l ≡ 4095) × (is_close e ≡ true)) → length (l ++ (e ∷ [])) ≤ 4095
    go (inl r) = let n = length_push l e in omega arith
    go (inr r) = let m = close_is e r.1 in absurd (true≢false (sym (closed_at l [] m.1) ∙ h))
