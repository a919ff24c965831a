-- The tables of a store read as functions.
use Rattle.std.proofs.Common.{◌≡◌, ℕ, ◌<◌, Bool, true, false, not, ◌&&◌, eqb, ltb, List, [], ◌∷◌, length, get_or, set, sym, refl, ap, ◌∙◌, ⊎_elim, arith}
use Rattle.std.proofs.lemmas.List.{get_or-set_other, get_or-set_same, length-set}
use Rattle.std.proofs.lemmas.Bool.{cases_Bool, cases_eq, cond-false, cond-true, eq-eqb, ne_eqb}
use Rattle.std.proofs.lemmas.Bool.Decides.{nat_tests}
use Rattle.store.proofs.Whole.{lengths}
use Rattle.store.specs.Ask.{key_of, leaves, says}
use Rattle.store.specs.Store.{Store, applied, done, is_next, played, shelf, whole}
use Rattle.store.specs.declared.refusal.Refusal.TheVariants.{Key, NotNext, Tables}
use Rattle.store.specs.declared.request.Request.{Request}
use Rattle.store_laws.proofs.Lists.{zeros}
use Rattle.store_laws.proofs.Steps.{all_passed, done_is, idle}
use Rattle.store_laws.specs.Reading.{Reading, ReadsAs, act, acted, at, due, reading}
use mathlib.Core.Path.{fun_ext}

-- a write to a table is a change of the function at one place
set_at : (xs : List ℕ) (i v : ℕ) → i < length xs → (λ (n : ℕ). get_or (set xs i v) n 0) ≡ at i v (λ (n : ℕ). get_or xs n 0)
set_at xs i v h =
    fun_ext (λ n.
    ⊎_elim
    (λ (e : n ≡ i). ap (λ (m : ℕ). get_or (set xs i v) m 0) e ∙ get_or-set_same xs i v 0 h ∙ sym (cond-true (eqb n i) v (get_or xs n 0) (eq-eqb n i e)))
    (λ (o : n ≡ i → ⊥). get_or-set_other xs i n v 0 o ∙ sym (cond-false (eqb n i) v (get_or xs n 0) (ne_eqb n i o)))
    (cases_eq n i))

due_is_done : (r : Request) (s : Store) → whole s ≡ true → due r (reading s) ≡ done r s
due_is_done r s h =
    let low : ltb (key_of r.ask) 1024 ≡ not (ltb 1023 (key_of r.ask)) = grind (arith, nat_tests) in
    let x = says r.ask (shelf s (key_of r.ask)) in
    let e = all_passed (whole s) (ltb 1023 (key_of r.ask)) (is_next r s) Tables Key NotNext x in
    ap (λ (b : Bool). b && is_next r s) low ∙ sym (e ∙ ap (λ (b : Bool). b && (not (ltb 1023 (key_of r.ask)) && is_next r s)) h)

same_reading : {f g h f' g' h' : ℕ → ℕ} → f ≡ f' → g ≡ g' → h ≡ h' → ◌≡◌ {A = Reading} (record { shelf = f; last = g; word = h }) (record { shelf = f'; last = g'; word = h' })
same_reading p q w = λ i. record { shelf = p i; last = q i; word = w i }

one : (r : Request) (s : Store) → whole s ≡ true → (whole (applied r s) ≡ true) × (reading (applied r s) ≡ act r (reading s))
one r s h =
    ⊎_elim
    (λ (k : done r s ≡ true).
    let d = done_is r s k in
    let l = lengths s h in
    let x = says r.ask (shelf s (key_of r.ask)) in (
      ap whole d.after ∙ simp length-set h,
      ap reading d.after ∙
          same_reading (set_at s.shelves (key_of r.ask) (leaves r.ask (shelf s (key_of r.ask))) (omega (arith, d.key))) (set_at s.lasts r.client r.number (omega (arith, d.client)))
          (set_at s.words r.client x (omega (arith, d.client))) ∙
          sym (cond-true (due r (reading s)) _ (reading s) (due_is_done r s h ∙ k)),
    ))
    (λ (k : done r s ≡ false). (ap whole (idle r s k) ∙ h, ap reading (idle r s k) ∙ sym (cond-false (due r (reading s)) _ (reading s) (due_is_done r s h ∙ k))))
    (cases_Bool (done r s))

all : (s : Store) (rs : List Request) → whole s ≡ true → (whole (played s rs) ≡ true) × (reading (played s rs) ≡ acted (reading s) rs)
all s [] h = (h, refl)
all s (r ∷ rs) h =
    let o = one r s h in
    let p = all (applied r s) rs o.0 in
    (p.0, p.1 ∙ ap (λ (m : Reading). acted m rs) o.1)

pub reads_as : ReadsAs
reads_as =
    record { stays_whole = λ s rs h. (all s rs h).0; reads = λ s rs h. (all s rs h).1; begins = (refl, same_reading (fun_ext (zeros 1024)) (fun_ext (zeros 256)) (fun_ext (zeros 256))) }
