-- Visiting the stations in turn.
use Rattle.std.proofs.Common.{◌≡◌, ℕ, suc, ◌+◌, ◌-◌, ◌<◌, ◌≤◌, ap, ◌∙◌, arith}
use Rattle.entry.specs.Members.{Walk, visited, walk}

pub walk_more : (i : ℕ) (w v : Walk) → i < 16 → v ≡ visited i w → walk (16 - (i + 1)) (i + 1) v ≡ walk (16 - i) i w
unfolding walk
walk_more i w v h e =
    let n : suc (16 - (i + 1)) ≡ 16 - i = omega arith in
    ap (walk (16 - (i + 1)) (i + 1)) e ∙ ap (λ (n : ℕ). walk n i w) n

pub walk_all : (i : ℕ) (w : Walk) → 16 ≤ i → walk (16 - i) i w ≡ w
unfolding walk
walk_all i w h = let n : 16 - i ≡ 0 = omega arith in ap (λ (n : ℕ). walk n i w) n
