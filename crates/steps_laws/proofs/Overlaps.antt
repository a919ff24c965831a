-- Entries laid over a log: where they overlap what is sure they are the same, so that stays.
use Rattle.std.proofs.Common.{◌≡◌, ℕ, zero, suc, ◌+◌, ◌-◌, ◌<◌, ◌≤◌, Bool, true, false, not, ◌&&◌, ◌||◌, eqb, ltb, ◌⊎◌, List, [], ◌∷◌, ◌++◌, length, get_or, take, is_some, Some, None, Option, sym, refl, ap, ◌∙◌, inl, inr, arith}
use Rattle.council.proofs.State.{Tidy}
use Rattle.council.proofs.Tidies.{is_close_lem, tidy_closed}
use Rattle.council.specs.Log.{Closes, Follows, closed, closes_to, is_close}
use Rattle.council.specs.Quorum.{Sound}
use Rattle.entry.specs.declared.entry.Entry.{Entry}
use Rattle.entry.specs.declared.entry.Entry.TheVariants.{Call, Close}
use Rattle.std.proofs.lemmas.List.{get_or-append_right, get_or_push, length-append, length_push, length-take-le, take_all, take-append-le, take_at, take_more, take_more_same, take-take}
use Rattle.std.proofs.lemmas.Bool.{and_from, and_parts, cases_lt, eqb-false, eqb-true, false≢true, ltb-true, ne_eqb, not_from_false, not-true, or_cases, true≢false}
use Rattle.steps.specs.Heads.{agree, closes_at, council_of, ends_closed, has_place, last_of, names_council}
use Rattle.steps.specs.Same.{same_ask, same_entry, same_request}
use Rattle.store.specs.declared.ask.Ask.{Ask}
use Rattle.store.specs.declared.ask.Ask.TheVariants.{Look, Put, Take}
use Rattle.store.specs.declared.request.Request.{Request}

-- the test tells that two entries are the same
ask_same : (a b : Ask) → same_ask a b ≡ true → a ≡ b
ask_same (Put k v) (Put l w) h = let p = and_parts (eqb k l) (eqb v w) h in λ i. Put (eqb-true k l p.0 i) (eqb-true v w p.1 i)
ask_same (Put k v) (Take l w) h = absurd (false≢true h)
ask_same (Put k v) (Look l) h = absurd (false≢true h)
ask_same (Take k v) (Put l w) h = absurd (false≢true h)
ask_same (Take k v) (Take l w) h = let p = and_parts (eqb k l) (eqb v w) h in λ i. Take (eqb-true k l p.0 i) (eqb-true v w p.1 i)
ask_same (Take k v) (Look l) h = absurd (false≢true h)
ask_same (Look k) (Put l w) h = absurd (false≢true h)
ask_same (Look k) (Take l w) h = absurd (false≢true h)
ask_same (Look k) (Look l) h = ap Look (eqb-true k l h)

request_same : (q r : Request) → same_request q r ≡ true → q ≡ r
request_same q r h =
    let p = and_parts (eqb q.client r.client) (eqb q.number r.number && same_ask q.ask r.ask) h in
    let s = and_parts (eqb q.number r.number) (same_ask q.ask r.ask) p.1 in
    λ i. record { client = eqb-true q.client r.client p.0 i; number = eqb-true q.number r.number s.0 i; ask = ask_same q.ask r.ask s.1 i }

pub entry_same : (a b : Entry) → same_entry a b ≡ true → a ≡ b
entry_same (Call q) (Call r) h = ap Call (request_same q r h)
entry_same (Call q) (Close s) h = absurd (false≢true h)
entry_same (Close s) (Call q) h = absurd (false≢true h)
entry_same (Close s) (Close t) h = ap Close (eqb-true s t h)

-- entries that agree in the first n places, from p on, keep the first p + n
agree_first : (n p : ℕ) (log es : List Entry) → p ≤ length log → p + n ≤ length log → n ≤ length es → agree n p log es ≡ true → take (p + n) (take p log ++ es) ≡ take (p + n) log
unfolding agree
agree_first zero p log es low fits few h =
    let e : p + 0 ≡ p = omega arith in
    rw e (take_at (take p log) es p (length-take-le p log low))
agree_first (suc n) p log es low fits few h =
    let q = and_parts (agree n p log es) (same_entry (get_or log (p + n) (Close 0)) (get_or es n (Close 0))) h in
    let e : p + suc n ≡ p + n + 1 = omega arith in
    let long = length-take-le p log low in
    let all = length-append (take p log) es in
    let there : p + n - p ≡ n = omega arith in
    let at = get_or-append_right (take p log) es p (p + n) (Close 0) long (omega arith) ∙ ap (λ (k : ℕ). get_or es k (Close 0)) there in
    rw e (take_more_same (take p log ++ es) log (p + n) (Close 0) (omega arith) (omega arith) (agree_first n p log es low (omega arith) (omega arith) q.0)
    (at ∙ sym (entry_same (get_or log (p + n) (Close 0)) (get_or es n (Close 0)) q.1)))

-- so what is sure stays
pub agree_keeps : (k p : ℕ) (log es : List Entry) → p ≤ length log → k ≤ length log → k ≤ p + length es → agree (k - p) p log es ≡ true → take k (take p log ++ es) ≡ take k log
agree_keeps k p log es low fits reach h = go (cases_lt k p)
  where
    go : (k < p) ⊎ (p ≤ k) → take k (take p log ++ es) ≡ take k log
    go (inl l) = let long = length-take-le p log low in take-append-le k (take p log) es (omega arith) ∙ take-take k p log (omega arith)
    go (inr l) = let e : p + (k - p) ≡ k = omega arith in rw (← e) (agree_first (k - p) p log es low (omega arith) (omega arith) h)

-- a log that grew entry by entry, and doesn't end with a close, has none
pub ends_open : (n : ℕ) (log : List Entry) → n ≡ length log → Tidy log → ends_closed n log ≡ false → closed log ≡ false
ends_open n log long T bare = go (closed log) refl
  where
    go : (c : Bool) → closed log ≡ c → c ≡ false
    go false h = refl
    go true h =
        let s = tidy_closed T h in
        let k : n - 1 ≡ length s.0 = omega (arith, ap length s.3, length_push s.0 s.1) in
        let some : n ≡ 0 → ⊥ = λ z. omega (arith, ap length s.3, length_push s.0 s.1) in
        let at : last_of n log ≡ s.1 = ap (λ (l : List Entry). get_or l (n - 1) (Close 0)) s.3 ∙ get_or_push s.0 s.1 (Close 0) (n - 1) (sym k) in
        absurd (true≢false (sym (and_from (not (eqb n 0)) (is_close (last_of n log)) (not_from_false (eqb n 0) (ne_eqb n 0 some)) (ap is_close at ∙ is_close_lem s.4)) ∙ bare))

-- one that ends with a close closes to the council that this names
some_council : (o : Option ℕ) → is_some o ≡ true → o ≡ Some (council_of o)
some_council None h = absurd (false≢true h)
some_council (Some ms) h = refl

pub ends_closed_lem : (n : ℕ) (log : List Entry) → n ≡ length log → ends_closed n log ≡ true →
    (log ≡ take (n - 1) log ++ (last_of n log ∷ [])) × Closes (last_of n log) (closes_at n log)
ends_closed_lem n log long h =
    let p = and_parts (not (eqb n 0)) (is_close (last_of n log)) h in
    let some = eqb-false n 0 (not-true (eqb n 0) p.0) in
    let low : n - 1 < length log = omega arith in
    let e : length log ≤ n - 1 + 1 = omega arith in
    (sym (take_all (n - 1 + 1) log e) ∙ take_more log (n - 1) (Close 0) low, record { to = some_council (closes_to (last_of n log)) p.1 })

-- an entry that has a place may follow
pub follows_from : (n : ℕ) (log : List Entry) (e : Entry) → n ≡ length log → closed log ≡ false → has_place n e ≡ true → Follows log e
follows_from n log e long free h =
    let p = and_parts (ltb n 4095 || (eqb n 4095 && is_close e)) (names_council (closes_to e)) h in
    record { unclosed = free; room = room (or_cases (ltb n 4095) (eqb n 4095 && is_close e) p.0); council = λ ms c. named ms (ap names_council (sym c.to) ∙ p.1) }
  where
    room : (ltb n 4095 ≡ true) ⊎ ((eqb n 4095 && is_close e) ≡ true) → (length log < 4095) ⊎ ((length log ≡ 4095) × (is_close e ≡ true))
    room (inl l) = inl (omega (arith, ltb-true n 4095 l))
    room (inr l) = let q = and_parts (eqb n 4095) (is_close e) l in inr (sym long ∙ eqb-true n 4095 q.0, q.1)

    named : (ms : ℕ) → names_council (Some ms) ≡ true → Sound ms
    named ms y = let q = and_parts (ltb 0 ms) (ltb ms 65536) y in record { some = ltb-true 0 ms q.0; small = ltb-true ms 65536 q.1 }
