-- What one request does to its own client's row and to the others', whatever it asks.
use Rattle.std.proofs.Common.{◌≡◌, ℕ, ◌+◌, ◌<◌, Bool, true, false, cond, not, ◌&&◌, eqb, ltb, set, is_ok, Ok, Err, sym, refl, ap, ◌∙◌, arith}
use Rattle.std.proofs.lemmas.List.{get_or-set_same, get_or-set_other}
use Rattle.std.proofs.lemmas.Bool.{and_parts, cond-true, eqb-true, false≢true, ltb-false, ltb-true}
use Rattle.store.proofs.Whole.{lengths}
use Rattle.store.specs.Ask.{key_of, leaves, says}
use Rattle.store.specs.Store.{Store, applied, done, is_next, last, outcome, shelf, tables, whole, word}
use Rattle.store.specs.declared.refusal.Refusal.TheVariants.{Key, NotNext, Tables}
use Rattle.store.specs.declared.request.Request.{Request}

-- three tests in a row, all passed
record Passed (a b c : Bool) : Type 0 where
  pub first : a ≡ true
  pub second : b ≡ false
  pub third : c ≡ true

-- that all were passed, as one test
pub all_passed : {T E : Type 0} (a b c : Bool) (e f g : E) (x : T) → is_ok (cond (not a) (Err e) (cond b (Err f) (cond (not c) (Err g) (Ok x)))) ≡ (a && (not b && c))
all_passed true false true e f g x = refl
all_passed true false false e f g x = refl
all_passed true true c e f g x = refl
all_passed false b c e f g x = refl

passed : {T E : Type 0} (a b c : Bool) (e f g : E) (x : T) → is_ok (cond (not a) (Err e) (cond b (Err f) (cond (not c) (Err g) (Ok x)))) ≡ true → Passed a b c
passed true false true e f g x h = record { first = refl; second = refl; third = refl }
passed true false false e f g x h = absurd (false≢true h)
passed true true c e f g x h = absurd (false≢true h)
passed false b c e f g x h = absurd (false≢true h)

passes : {T E : Type 0} {a b c : Bool} (e f g : E) (x : T) → Passed a b c → cond (not a) (Err e) (cond b (Err f) (cond (not c) (Err g) (Ok x))) ≡ Ok x
passes e f g x p = simp (p.first, p.second, p.third)

-- the tables behind a request that is done
abbrev pub after : Request → Store → Store
after r s =
    tables (set s.shelves (key_of r.ask) (leaves r.ask (shelf s (key_of r.ask)))) (set s.lasts r.client r.number)
    (set s.words r.client (says r.ask (shelf s (key_of r.ask))))

-- what a request that is done finds and leaves
pub record Done (r : Request) (s : Store) : Type 0 where
  pub whole : whole s ≡ true
  pub key : key_of r.ask < 1024
  pub client : r.client < 256
  pub number : r.number ≡ last s r.client + 1
  pub after : applied r s ≡ after r s
  pub own_last : last (applied r s) r.client ≡ r.number
  pub own_word : outcome r s ≡ Ok (word (applied r s) r.client)
  pub other_last : (c : ℕ) → (c ≡ r.client → ⊥) → last (applied r s) c ≡ last s c
  pub other_word : (c : ℕ) → (c ≡ r.client → ⊥) → word (applied r s) c ≡ word s c

pub done_is : (r : Request) (s : Store) → done r s ≡ true → Done r s
done_is r s h =
    let x = says r.ask (shelf s (key_of r.ask)) in
    let p = passed (whole s) (ltb 1023 (key_of r.ask)) (is_next r s) Tables Key NotNext x h in
    let l = lengths s p.first in
    let n = and_parts (ltb r.client 256) (eqb r.number (last s r.client + 1)) p.third in
    let c = ltb-true r.client 256 n.0 in
    let e = cond-true (done r s) (after r s) s h in
    record {
      whole = p.first;
      key = omega (arith, ltb-false 1023 (key_of r.ask) p.second);
      client = c;
      number = eqb-true _ _ n.1;
      after = e;
      own_last = ap (λ (t : Store). last t r.client) e ∙ get_or-set_same s.lasts r.client r.number 0 (omega arith);
      own_word = passes Tables Key NotNext x p ∙ ap Ok (sym (ap (λ (t : Store). word t r.client) e ∙ get_or-set_same s.words r.client x 0 (omega arith)));
      other_last = λ d no. ap (λ (t : Store). last t d) e ∙ get_or-set_other s.lasts r.client d r.number 0 no;
      other_word = λ d no. ap (λ (t : Store). word t d) e ∙ get_or-set_other s.words r.client d x 0 no;
    }

pub idle : (r : Request) (s : Store) → done r s ≡ false → applied r s ≡ s
idle r s h = rw h
