-- The laws over a whole list of requests: each an induction whose step is one look at a client's row.
use Rattle.std.proofs.Common.{◌≡◌, ℕ, suc, ◌+◌, ◌-◌, ◌<◌, ◌≤◌, true, false, ◌&&◌, eqb, List, [], ◌∷◌, ◌++◌, get_or, replicate, Ok, sym, refl, ap, ◌∙◌, subst, ⊎_elim, arith}
use Rattle.std.proofs.lemmas.List.{get_or_past, get_or-replicate, length-replicate}
use Rattle.std.proofs.lemmas.Bool.{and_from, and_left, and_right, cases_Bool, cases_eq, cases_lt, cond-false, cond-true, eq-eqb, ne_eqb}
use Rattle.store.specs.Store.{Store, applied, bare, done, last, outcome, played, word}
use Rattle.store.specs.declared.request.Request.{Request}
use Rattle.store_laws.proofs.Steps.{done_is, idle}
use Rattle.store_laws.specs.Laws.{Got, InTurn, KeepsWord, NeverFalls, Once, following, numbers}

pub played_append : (s : Store) (rs qs : List Request) → played s (rs ++ qs) ≡ played (played s rs) qs
played_append s [] qs = refl
played_append s (r ∷ rs) qs = played_append (applied r s) rs qs

-- What a request does to a client's row: nothing, or it counts on by one and notes the word.
pub data Move (r : Request) (s : Store) (c : ℕ) : Type 0 where
  stays : (eqb r.client c && done r s) ≡ false → last (applied r s) c ≡ last s c → word (applied r s) c ≡ word s c → Move r s c
  counts : (eqb r.client c && done r s) ≡ true → r.client ≡ c → r.number ≡ last s c + 1 → last (applied r s) c ≡ r.number → outcome r s ≡ Ok (word (applied r s) c) → Move r s c

pub move : (r : Request) (s : Store) (c : ℕ) → Move r s c
move r s c =
    ⊎_elim
    (λ h. let d = done_is r s h in
    ⊎_elim
    (λ e. subst (Move r s) e (counts (and_from (eqb r.client r.client) (done r s) (eq-eqb r.client r.client refl) h) refl d.number d.own_last d.own_word))
    (λ no. stays (and_left (eqb r.client c) (done r s) (ne_eqb r.client c no)) (d.other_last c (λ e. no (sym e))) (d.other_word c (λ e. no (sym e))))
    (cases_eq r.client c))
    (λ h. stays (and_right (eqb r.client c) (done r s) h) (ap (λ (t : Store). last t c) (idle r s h)) (ap (λ (t : Store). word t c) (idle r s h)))
    (cases_Bool (done r s))

pub never_falls : NeverFalls
never_falls s [] c = omega arith
never_falls s (r ∷ rs) c =
    let later = never_falls (applied r s) rs c in
    elim (move r s c) [ stays x l w ↦ omega arith | counts x i n l o ↦ omega arith ]

pub once : Once
once s before after r again h i n =
    let t = played s before in
    let d = done_is r t h in
    let u = played s (before ++ (r ∷ after)) in
    let late : done again u ≡ true → ⊥ = λ k.
    let e = (done_is again u k).number in
    let same = ap (last u) i in
    let up = never_falls (applied r t) after r.client in
    let is = ap (λ (v : Store). last v r.client) (played_append s before (r ∷ after)) in
    let own = d.own_last in
    omega arith in
    let no : done again u ≡ false = ⊎_elim (λ k. absurd (late k)) (λ k. k) (cases_Bool (done again u)) in
    (no, idle again u no)

following_more : (a b : ℕ) → a + 1 ≤ b → following a (b - a) ≡ (a + 1) ∷ following (a + 1) (b - (a + 1))
following_more a b h = let e : b - a ≡ suc (b - (a + 1)) = omega arith in ap (following a) e

following_none : (a : ℕ) → [] ≡ following a (a - a)
following_none a = let e : 0 ≡ a - a = omega arith in ap (following a) e

turns : (rs : List Request) (c : ℕ) (s : Store) → numbers c s rs ≡ following (last s c) (last (played s rs) c - last s c)
turns [] c s = following_none (last s c)
turns (r ∷ rs) c s =
    let e = turns rs c (applied r s) in
    let end = last (played s (r ∷ rs)) c in
    let more = λ (ns : List ℕ). ns ++ numbers c (applied r s) rs in
    elim (move r s c) [
      | stays x l w ↦ ap more (cond-false (eqb r.client c && done r s) (r.number ∷ []) [] x) ∙ e ∙ ap (λ (a : ℕ). following a (end - a)) l
      | counts x i n l o ↦
          let up = never_falls (applied r s) rs c in
          ap more (cond-true (eqb r.client c && done r s) (r.number ∷ []) [] x) ∙ ap (λ (ns : List ℕ). r.number ∷ ns) (e ∙ ap (λ (a : ℕ). following a (end - a)) (l ∙ n)) ∙
          ap (λ (a : ℕ). a ∷ following (last s c + 1) (end - (last s c + 1))) n ∙ sym (following_more (last s c) end (omega arith))
    ]

pub zeros : (n i : ℕ) → ◌≡◌ {A = ℕ} (get_or (replicate n 0) i 0) 0
zeros n i =
    ⊎_elim (λ (l : i < n). get_or-replicate n i 0 0 l) (λ (l : n ≤ i). get_or_past (replicate n 0) i 0 (omega (arith, length-replicate {A = ℕ} n 0))) (cases_lt i n)

pub in_turn : InTurn
in_turn rs c =
    (turns rs c, turns rs c bare ∙ ap (λ (a : ℕ). following a (last (played bare rs) c - a)) (zeros 256 c) ∙ ap (following 0) (omega arith))

same_word : (s : Store) (rs : List Request) (c : ℕ) → last (played s rs) c ≡ last s c → word (played s rs) c ≡ word s c
same_word s [] c h = refl
same_word s (r ∷ rs) c h =
    let up = never_falls (applied r s) rs c in
    elim (move r s c) [ stays x l w ↦ same_word (applied r s) rs c (h ∙ sym l) ∙ w | counts x i n l o ↦ absurd (omega arith) ]

got_later : (r : Request) (s : Store) (rs : List Request) (c : ℕ) → Got (applied r s) rs c → Got s (r ∷ rs) c
got_later r s rs c g =
    record { before = r ∷ g.before; request = g.request; after = g.after; split = ap (λ (x : List Request). r ∷ x) g.split; client = g.client; number = g.number; got = g.got }

got : (s : Store) (rs : List Request) (c : ℕ) → last s c < last (played s rs) c → Got s rs c
got s [] c h = absurd (omega arith)
got s (r ∷ rs) c h =
    let up = never_falls (applied r s) rs c in
    elim (move r s c) [
      | stays x l w ↦ got_later r s rs c (got (applied r s) rs c (omega arith))
      | counts x i n l o ↦
          ⊎_elim
          (λ (m : last (applied r s) c < last (played (applied r s) rs) c). got_later r s rs c (got (applied r s) rs c m))
          (λ (m : last (played (applied r s) rs) c ≤ last (applied r s) c).
          let e : last (played (applied r s) rs) c ≡ last (applied r s) c = omega arith in
          record { before = []; request = r; after = rs; split = refl; client = i; number = sym l ∙ sym e; got = o ∙ ap Ok (sym (same_word (applied r s) rs c e)) })
          (cases_lt (last (applied r s) c) (last (played (applied r s) rs) c))
    ]

pub keeps_word : KeepsWord
keeps_word s rs c = (got s rs c, same_word s rs c)
