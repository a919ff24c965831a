-- Members as a list and as a set of bits: each is got back from the other.
use Rattle.std.proofs.Common.{◌≡◌, ℕ, zero, suc, ◌+◌, ◌*◌, ◌/◌, ◌%◌, ◌^◌, ◌<◌, true, false, eqb, List, [], ◌∷◌, ◌++◌, sym, refl, ap, ◌∙◌, subst, ⊎_elim, mul_assoc, one-mul, pow-suc, mul-zero, mul-one, mul-add, add-one, arith}
use Rattle.entry.specs.Members.{Walk, listing, next, visited, walk, walked}
use Rattle.std.proofs.lemmas.Nat.{or_comm, or_shifted, pow_pos}
use Rattle.std.proofs.lemmas.Bool.{cases_Bool, cases_eq, cond-false, cond-true, eq-eqb, ne_eqb}
use lib.Bits.{bit_or}

-- station i, if it is no member and if it is one
none_listed : (n i v : ℕ) → listing (suc n) i (2 * v) ≡ listing n (i + 1) v
unfolding listing
none_listed n i v =
    let half : 2 * v / 2 ≡ v = omega arith in
    cond-false (eqb (2 * v % 2) 1) (i ∷ listing n (i + 1) (2 * v / 2)) (listing n (i + 1) (2 * v / 2)) (ne_eqb (2 * v % 2) 1 (λ e. omega arith)) ∙ ap (listing n (i + 1)) half

one_listed : (n i v : ℕ) → listing (suc n) i (1 + 2 * v) ≡ i ∷ listing n (i + 1) v
unfolding listing
one_listed n i v =
    let half : (1 + 2 * v) / 2 ≡ v = omega arith in
    cond-true (eqb ((1 + 2 * v) % 2) 1) (i ∷ listing n (i + 1) ((1 + 2 * v) / 2)) (listing n (i + 1) ((1 + 2 * v) / 2)) (eq-eqb ((1 + 2 * v) % 2) 1 (omega arith)) ∙ ap (λ (k : ℕ). i ∷ listing n (i + 1) k) half

-- weights double from station to station
doubled : (i : ℕ) → 2 ^ (i + 1) ≡ 2 ^ i * 2
doubled i = ap (λ (k : ℕ). 2 ^ k) (add-one i) ∙ pow-suc 2 i

shifted : (i v : ℕ) → 2 ^ (i + 1) * v ≡ 2 ^ i * (2 * v)
shifted i v = ap (λ (k : ℕ). k * v) (doubled i) ∙ mul_assoc (2 ^ i) 2 v

shifted_one : (i v : ℕ) → 2 ^ i + 2 ^ (i + 1) * v ≡ 2 ^ i * (1 + 2 * v)
shifted_one i v = ap (λ (k : ℕ). 2 ^ i + k) (shifted i v) ∙ ap (λ (k : ℕ). k + 2 ^ i * (2 * v)) (sym (mul-one (2 ^ i))) ∙ sym (mul-add (2 ^ i) 1 (2 * v))

joined : (i s : ℕ) → s < 2 ^ i → bit_or s (2 ^ i) ≡ s + 2 ^ i
joined i s h =
    let e = or_shifted 1 i s h in
    or_comm s (2 ^ i) ∙ ap (λ (k : ℕ). bit_or k s) (sym (one-mul (2 ^ i))) ∙ e ∙ (let o = one-mul (2 ^ i) in omega arith)

-- what n stations from i on find in a list, as bits above those found before; and the list begins with those
pub record Walked (n i s : ℕ) (ms : List ℕ) : Type 0 where
  pub bits : ℕ
  pub below : bits < 2 ^ n
  pub set : (walk n i (walked s ms)).set ≡ s + 2 ^ i * bits
  pub split : ms ≡ listing n i bits ++ (walk n i (walked s ms)).left

-- station i is passed by, or is found
passed : (n i s : ℕ) (ms : List ℕ) → visited i (walked s ms) ≡ walked s ms → Walked n (i + 1) s ms → Walked (suc n) i s ms
unfolding walk
passed n i s ms e w =
    let d = doubled n in
    let b = w.below in
    let p = pow-suc 2 n in
    record {
      bits = 2 * w.bits;
      below = omega arith;
      set = ap (λ (x : Walk). (walk n (i + 1) x).set) e ∙ w.set ∙ ap (λ (k : ℕ). s + k) (shifted i w.bits);
      split = w.split ∙ ap (λ (l : List ℕ). l ++ (walk n (i + 1) (walked s ms)).left) (sym (none_listed n i w.bits)) ∙ ap (λ (x : Walk). listing (suc n) i (2 * w.bits) ++ (walk n (i + 1) x).left) (sym e);
    }

found : (n i s : ℕ) (ms : List ℕ) → s < 2 ^ i → Walked n (i + 1) (bit_or s (2 ^ i)) ms → Walked (suc n) i s (i ∷ ms)
unfolding walk
found n i s ms low w =
    let e = cond-true (eqb i i) (walked (bit_or s (2 ^ i)) ms) (walked s (i ∷ ms)) (eq-eqb i i refl) in
    let b = w.below in
    let p = pow-suc 2 n in
    record {
      bits = 1 + 2 * w.bits;
      below = omega arith;
      set =
          ap (λ (x : Walk). (walk n (i + 1) x).set) e ∙ w.set ∙ (let j = joined i s low in let k = shifted_one i w.bits in omega arith);
      split =
          ap (λ (l : List ℕ). i ∷ l) w.split ∙ ap (λ (l : List ℕ). l ++ (walk n (i + 1) (walked (bit_or s (2 ^ i)) ms)).left) (sym (one_listed n i w.bits)) ∙
          ap (λ (x : Walk). listing (suc n) i (1 + 2 * w.bits) ++ (walk n (i + 1) x).left) (sym e);
    }

pub walks : (n i s : ℕ) (ms : List ℕ) → s < 2 ^ i → Walked n i s ms
unfolding walk listing
walks zero i s ms low = record { bits = 0; below = pow_pos 0; set = (let z = mul-zero (2 ^ i) in omega arith); split = refl }
walks (suc n) i s [] low = passed n i s [] refl (walks n (i + 1) s [] (let d = doubled i in omega arith))
walks (suc n) i s (m ∷ ms) low =
    let d = doubled i in
    ⊎_elim
    (λ (e : m ≡ i). subst (λ (k : ℕ). Walked (suc n) i s (k ∷ ms)) (sym e) (found n i s ms low (walks n (i + 1) (bit_or s (2 ^ i)) ms (let j = joined i s low in omega arith))))
    (λ (o : m ≡ i → ⊥). passed n i s (m ∷ ms) (cond-false (eqb m i) (walked (bit_or s (2 ^ i)) ms) (walked s (m ∷ ms)) (ne_eqb m i o)) (walks n (i + 1) s (m ∷ ms) (omega arith)))
    (cases_eq m i)

-- no station below j is listed from j on
above : (n j s i found : ℕ) → i < j → next i found (listing n j s) ≡ walked found (listing n j s)
unfolding listing
above zero j s i found h = refl
above (suc n) j s i found h =
    let l = listing n (j + 1) (s / 2) in
    let Goal = λ (ms : List ℕ). next i found ms ≡ walked found ms in
    ⊎_elim
    (λ (b : eqb (s % 2) 1 ≡ true).
    subst Goal (sym (cond-true (eqb (s % 2) 1) (j ∷ l) l b)) (cond-false (eqb j i) (walked (bit_or found (2 ^ i)) l) (walked found (j ∷ l)) (ne_eqb j i (λ e. omega arith))))
    (λ (b : eqb (s % 2) 1 ≡ false). subst Goal (sym (cond-false (eqb (s % 2) 1) (j ∷ l) l b)) (above n (j + 1) (s / 2) i found (omega arith)))
    (cases_Bool (eqb (s % 2) 1))

-- all that is listed is found again, and nothing is left
pub refound : (n i found s : ℕ) → found < 2 ^ i → s < 2 ^ n → walk n i (walked found (listing n i s)) ≡ walked (found + 2 ^ i * s) []
unfolding walk listing
refound zero i found s low small =
    let z : s ≡ 0 = omega (arith, small) in
    let e : found ≡ found + 2 ^ i * s = (let m = mul-zero (2 ^ i) in sym (ap (λ (k : ℕ). found + 2 ^ i * k) z ∙ (omega arith))) in
    ap (λ (k : ℕ). walked k []) e
refound (suc n) i found s low small =
    let v = s / 2 in
    let p = pow-suc 2 n in
    let d = doubled i in
    ⊎_elim
    (λ (b : s % 2 ≡ 1).
    let odd : s ≡ 1 + 2 * v = omega arith in
    let l = listing n (i + 1) v in
    let e = cond-true (eqb i i) (walked (bit_or found (2 ^ i)) l) (walked found (i ∷ l)) (eq-eqb i i refl) in
    let j = joined i found low in
    ap (λ (k : ℕ). walk (suc n) i (walked found (listing (suc n) i k))) odd ∙ ap (λ (ms : List ℕ). walk (suc n) i (walked found ms)) (one_listed n i v) ∙ ap (walk n (i + 1)) e ∙
    refound n (i + 1) (bit_or found (2 ^ i)) v (omega arith) (omega arith) ∙
    ap (λ (k : ℕ). walked k []) ((let k = shifted_one i v in omega arith) ∙ ap (λ (k : ℕ). found + 2 ^ i * k) (sym odd)))
    (λ (b : s % 2 ≡ 1 → ⊥).
    let even : s ≡ 2 * v = omega arith in
    ap (λ (k : ℕ). walk (suc n) i (walked found (listing (suc n) i k))) even ∙ ap (λ (ms : List ℕ). walk (suc n) i (walked found ms)) (none_listed n i v) ∙ ap (walk n (i + 1)) (above n (i + 1) v i found (omega arith)) ∙
    refound n (i + 1) found v (omega arith) (omega arith) ∙ ap (λ (k : ℕ). walked (found + k) []) (shifted i v ∙ ap (λ (k : ℕ). 2 ^ i * k) (sym even)))
    (cases_eq (s % 2) 1)
