-- Readers one after the other, and numbers.
use Rattle.std.proofs.Common.{◌≡◌, ℕ, ◌/◌, ◌%◌, ◌^◌, ◌<◌, ◌≤◌, Bool, true, false, cond, eqb, ltb, List, [], ◌∷◌, ◌++◌, length, take, drop, Some, None, sym, refl, ap, ◌∙◌, subst, ⊎_elim, arith}
use Rattle.wire.specs.Bytes.{Read, ◌then◌, four, four_bytes, one, one_byte, some, two, two_bytes}
use Rattle.wire.specs.Exact.{Bytes, Exact, Numbers}
use Rattle.std.proofs.lemmas.Nat.{div-add-mod'}
use Rattle.std.proofs.lemmas.List.{drop_at, length-append, length-take-le, take-append-drop, take_at}
use Rattle.std.proofs.lemmas.Bool.{cases_Bool, cond-false, cond-true, eqb-true, le-ltb, ltb-false}

-- what a reader of one thing and then another read of each
pub record Split {A B : Type 0} (o : Read A) (k : A → List ℕ → Read B) (y : B × List ℕ) : Type 0 where
  pub value : A
  pub rest : List ℕ
  pub first : o ≡ Some (value, rest)
  pub second : k value rest ≡ Some y

pub split : {A B : Type 0} (o : Read A) (k : A → List ℕ → Read B) (y : B × List ℕ) → (o then k) ≡ Some y → Split o k y
split None k y h = cc
split (Some p) k y h = record { value = p.0; rest = p.1; first = refl; second = h }

same_pair : {A : Type 0} {p q : A × List ℕ} → ◌≡◌ {A = Read A} (Some p) (Some q) → p ≡ q
same_pair h = cc

pub same_value : {A : Type 0} {a b : A} {r s : List ℕ} → ◌≡◌ {A = Read A} (Some (a, r)) (Some (b, s)) → a ≡ b
same_value {A} h = ap (λ (p : A × List ℕ). p.0) (same_pair h)

pub same_rest : {A : Type 0} {a b : A} {r s : List ℕ} → ◌≡◌ {A = Read A} (Some (a, r)) (Some (b, s)) → r ≡ s
same_rest {A} h = ap (λ (p : A × List ℕ). p.1) (same_pair h)

-- a count within its limit
pub within : {B : Type 0} (Goal : Type 0) (limit n : ℕ) (o : Read B) (y : B × List ℕ) → cond (ltb limit n) None o ≡ Some y → (n ≤ limit → o ≡ Some y → Goal) → Goal
within Goal limit n o y e next =
    ⊎_elim
    (λ (b : ltb limit n ≡ true). cc)
    (λ (b : ltb limit n ≡ false). next (ltb-false limit n b) (sym (cond-false (ltb limit n) None o b) ∙ e))
    (cases_Bool (ltb limit n))

-- one kind of several
pub by_kind : {B : Type 0} (Goal : ℕ → Type 0) (kind n : ℕ) (a b : Read B) (y : B × List ℕ) → cond (eqb kind n) a b ≡ Some y → (a ≡ Some y → Goal n) → (b ≡ Some y → Goal kind) → Goal kind
by_kind Goal kind n a b y e this other =
    ⊎_elim
    (λ (t : eqb kind n ≡ true). subst Goal (sym (eqb-true kind n t)) (this (sym (cond-true (eqb kind n) a b t) ∙ e)))
    (λ (f : eqb kind n ≡ false). other (sym (cond-false (eqb kind n) a b f) ∙ e))
    (cases_Bool (eqb kind n))

-- something that is there only if a test holds
pub if_so : {A : Type 0} (b : Bool) (x y : A × List ℕ) → cond {A = Read A} b (Some x) None ≡ Some y → (b ≡ true) × (x ≡ y)
if_so true x y e = (refl, cc)
if_so false x y e = cc

-- the bytes behind some bytes
pub bytes_behind : (ys rest : List ℕ) → Bytes (ys ++ rest) → Bytes rest
bytes_behind [] rest h = h
bytes_behind (y ∷ ys) rest h = bytes_behind ys rest h.1

one_only : (bs : List ℕ) (a : ℕ) (rest : List ℕ) → Bytes bs → one bs ≡ Some (a, rest) → (a < 256) × (bs ≡ one_byte a ++ rest)
one_only [] a rest h e = cc
one_only (b ∷ bs) a rest h e =
    let v = same_value e in
    (subst (λ (n : ℕ). n < 256) v h.0, cc (v, same_rest e))

pub one_exact : Exact one one_byte (λ n. n < 256)
one_exact = record { back = λ a rest h. refl; only = one_only }

two_only : (bs : List ℕ) (a : ℕ) (rest : List ℕ) → Bytes bs → two bs ≡ Some (a, rest) → (a < 65536) × (bs ≡ two_bytes a ++ rest)
two_only [] a rest h e = cc
two_only (x ∷ []) a rest h e = cc
two_only (x ∷ y ∷ bs) a rest h e =
    let v = same_value e in
    let xs = h.0 in
    let ys = h.1.0 in
    let high : x ≡ a / 256 = omega arith in
    let low : y ≡ a % 256 = omega arith in
    (omega arith, cc (high, low, same_rest e))

pub two_exact : Exact two two_bytes (λ n. n < 65536)
two_exact = record { back = λ a rest h. simp div-add-mod'; only = two_only }

four_only : (bs : List ℕ) (a : ℕ) (rest : List ℕ) → Bytes bs → four bs ≡ Some (a, rest) → (a < 2 ^ 32) × (bs ≡ four_bytes a ++ rest)
four_only bs a rest h e =
    let s = split (two bs) _ (a, rest) e in
    let t = split (two s.rest) _ (a, rest) s.second in
    let p = two_only bs s.value s.rest h s.first in
    let q = two_only s.rest t.value t.rest (bytes_behind (two_bytes s.value) s.rest (subst Bytes p.1 h)) t.first in
    let v = same_value t.second in
    let i = p.0 in
    let j = q.0 in
    let high : s.value ≡ a / 65536 = omega arith in
    let low : t.value ≡ a % 65536 = omega arith in
    (omega arith, p.1 ∙ ap (λ (r : List ℕ). two_bytes s.value ++ r) (q.1 ∙ ap (λ (r : List ℕ). two_bytes t.value ++ r) (same_rest t.second)) ∙ ap (λ (n : ℕ). two_bytes n ++ (two_bytes t.value ++ rest)) high ∙ ap (λ (n : ℕ). two_bytes (a / 65536) ++ (two_bytes n ++ rest)) low)

four_back : (a : ℕ) (rest : List ℕ) → a < 2 ^ 32 → four (four_bytes a ++ rest) ≡ Some (a, rest)
four_back a rest h = simp div-add-mod'

pub four_exact : Exact four four_bytes (λ n. n < 2 ^ 32)
four_exact = record { back = four_back; only = four_only }

some_only : (n : ℕ) (bs ys rest : List ℕ) → Bytes bs → some n bs ≡ Some (ys, rest) → (length ys ≡ n) × (bs ≡ ys ++ rest)
some_only n bs ys rest h e =
    within ((length ys ≡ n) × (bs ≡ ys ++ rest)) (length bs) n (Some (take n bs, drop n bs)) (ys, rest) e
    (λ long f. let v = same_value f in (sym (ap length v) ∙ length-take-le n bs long, sym (take-append-drop n bs) ∙ cc (v, same_rest f)))

some_back : (n : ℕ) (ys rest : List ℕ) → length ys ≡ n → some n (ys ++ rest) ≡ Some (ys, rest)
some_back n ys rest h =
    cond-false (ltb (length (ys ++ rest)) n) None (Some (take n (ys ++ rest), drop n (ys ++ rest))) (le-ltb (length (ys ++ rest)) n (omega (arith, length-append ys rest))) ∙ cc (take_at ys rest n h, drop_at ys rest n h)

pub some_exact : (n : ℕ) → Exact (some n) (λ ys. ys) (λ ys. length ys ≡ n)
some_exact n = record { back = some_back n; only = some_only n }

pub numbers : Numbers
numbers = record { one_byte = one_exact; two_bytes = two_exact; four_bytes = four_exact; some_bytes = some_exact }
