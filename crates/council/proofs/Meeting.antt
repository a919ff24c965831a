-- Any two quorums of a council meet: a member is in both.
use Rattle.std.proofs.Common.{◌≡◌, ℕ, zero, suc, ◌+◌, ◌/◌, ◌%◌, ◌^◌, ◌<◌, ◌≤◌, ◌⊎◌, sym, ap, ◌∙◌, inl, inr, arith}
use Rattle.council.specs.Quorum.{Members, Most, IsMember}
use Rattle.std.proofs.lemmas.Bool.{cases_eq}
use lib.Bits.{and_le_l, and_step, bit_and}
use lib.Count.{ones, ones-le, ones_step}
use native.Mathlib.Nat.{div-div-eq-div-mul, pow-succ'}

-- a member of three sets
abbrev InAll : Members → Members → Members → Type 0
InAll ms qs rs = (j : ℕ) × IsMember j ms × IsMember j qs × IsMember j rs

and_ones : (a b : ℕ) → (ones (bit_and a b) ≡ ones (bit_and (a / 2) (b / 2)) + bit_and a b % 2) × (bit_and a b % 2 ≤ a % 2) × (bit_and a b % 2 ≤ b % 2)
and_ones a b =
    let step = and_step a b in
    let half : bit_and a b / 2 ≡ bit_and (a / 2) (b / 2) = omega arith in
    omega (arith, ones_step (bit_and a b), ap ones half)

-- bit j of half a set is bit j + 1 of it
pub half : (j s : ℕ) → s / 2 ^ suc j ≡ s / 2 / 2 ^ j
half j s = ap (λ (n : ℕ). s / n) (pow-succ' 2 j) ∙ sym (div-div-eq-div-mul s 2 (2 ^ j))

pub up : (j s : ℕ) → IsMember j (s / 2) → IsMember (suc j) s
up j s h = ap (λ (n : ℕ). n % 2) (half j s) ∙ h

-- down the bits: where the lowest is not in all three, the rest still has too few members for both quorums
share : (fuel ms qs rs : ℕ) → ms ≤ fuel → ones ms < ones (bit_and ms qs) + ones (bit_and ms rs) → InAll ms qs rs
share zero ms qs rs small many =
    absurd (omega (arith, ones-le 0 (bit_and ms qs) (omega (arith, and_le_l ms qs)), ones-le 0 (bit_and ms rs) (omega (arith, and_le_l ms rs))))
share (suc fuel) ms qs rs small many = go (cases_eq (ms % 2 + qs % 2 + rs % 2) 3) (share fuel (ms / 2) (qs / 2) (rs / 2) (omega arith))
  where
    go : (ms % 2 + qs % 2 + rs % 2 ≡ 3) ⊎ (ms % 2 + qs % 2 + rs % 2 ≡ 3 → ⊥) →
        (ones (ms / 2) < ones (bit_and (ms / 2) (qs / 2)) + ones (bit_and (ms / 2) (rs / 2)) → InAll (ms / 2) (qs / 2) (rs / 2)) → InAll ms qs rs
    go (inl e) rest = (0, omega arith, omega arith, omega arith)
    go (inr e) rest =
        let m = rest (omega (arith, ones_step ms, and_ones ms qs, and_ones ms rs)) in
        (suc m.0, up m.0 ms m.1, up m.0 qs m.2, up m.0 rs m.3)

pub meet : {ms qs rs : Members} → Most ms qs → Most ms rs → (j : ℕ) × IsMember j ms × IsMember j qs × IsMember j rs
meet {ms} {qs} {rs} a b = share ms ms qs rs (omega arith) (omega arith)

-- a quorum has a member in it
pub most_some : {ms qs : Members} → Most ms qs → (j : ℕ) × IsMember j ms × IsMember j qs
most_some a = let m = meet a a in (m.0, m.1, m.2)
