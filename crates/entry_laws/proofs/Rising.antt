-- Visiting the stations in turn uses up just the lists that rise.
use Rattle.std.proofs.Common.{◌≡◌, ℕ, zero, suc, ◌+◌, ◌^◌, ◌≤◌, Bool, true, false, not, ◌&&◌, eqb, ltb, leb, List, [], ◌∷◌, length, sym, refl, ap, ◌∙◌, ⊎_elim, arith}
use Rattle.entry.specs.Members.{Walk, members_in, walk, walked}
use Rattle.entry_laws.specs.Laws.{Councils, rising}
use Rattle.std.proofs.lemmas.Bool.{cases_eq, cond-false, cond-true, eq-eqb, lt-ltb, ne_eqb}
use Rattle.std.proofs.lemmas.Bool.Decides.{nat_tests}
use lib.Bits.{bit_or}

-- with no station left, or station i next
none_left : (i : ℕ) (ms : List ℕ) → i ≡ 16 → eqb (length ms) 0 ≡ rising i ms
none_left i [] h = refl
none_left i (m ∷ ms) h =
    let a : eqb (suc (length ms)) 0 ≡ false = ne_eqb (suc (length ms)) 0 (λ e. omega arith) in
    let b : (leb i m && (ltb m 16 && rising (m + 1) ms)) ≡ false = grind (arith, nat_tests) in
    a ∙ sym b

own_next : (i : ℕ) (ms : List ℕ) → i + 1 ≤ 16 → rising (i + 1) ms ≡ rising i (i ∷ ms)
own_next i ms h =
    let a : leb i i ≡ true = grind (arith, nat_tests) in
    let b = lt-ltb i 16 (omega arith) in
    sym (ap (λ (x : Bool). x && (ltb i 16 && rising (i + 1) ms)) a ∙ ap (λ (x : Bool). x && rising (i + 1) ms) b)

other_next : (i m : ℕ) (ms : List ℕ) → (m ≡ i → ⊥) → rising (i + 1) (m ∷ ms) ≡ rising i (m ∷ ms)
other_next i m ms o = let a : leb (i + 1) m ≡ leb i m = grind (arith, nat_tests) in ap (λ (x : Bool). x && (ltb m 16 && rising (m + 1) ms)) a

uses_up : (n i s : ℕ) (ms : List ℕ) → i + n ≡ 16 → eqb (length (walk n i (walked s ms)).left) 0 ≡ rising i ms
unfolding walk
uses_up zero i s ms h = none_left i ms (omega arith)
uses_up (suc n) i s [] h = uses_up n (i + 1) s [] (omega arith)
uses_up (suc n) i s (m ∷ ms) h =
    let Left = λ (w : Walk). eqb (length (walk n (i + 1) w).left) 0 in
    ⊎_elim
    (λ (e : m ≡ i).
    ap Left (cond-true (eqb m i) (walked (bit_or s (2 ^ i)) ms) (walked s (m ∷ ms)) (eq-eqb m i e)) ∙ uses_up n (i + 1) (bit_or s (2 ^ i)) ms (omega arith) ∙ own_next i ms (omega arith) ∙ ap (λ (k : ℕ). rising i (k ∷ ms)) (sym e))
    (λ (o : m ≡ i → ⊥).
    ap Left (cond-false (eqb m i) (walked (bit_or s (2 ^ i)) ms) (walked s (m ∷ ms)) (ne_eqb m i o)) ∙ uses_up n (i + 1) s (m ∷ ms) (omega arith) ∙ other_next i m ms o)
    (cases_eq m i)

pub councils : Councils
unfolding members_in
councils ms = ap (λ (b : Bool). b && not (eqb (length ms) 0)) (uses_up 16 0 0 ms refl)
