use Rattle.std.proofs.Common.{◌≡◌, ℕ, ◌<◌, ◌≤◌, false}
use Rattle.quorum.proofs.tally.Tally.largest.Given as goal
use Rattle.quorum.specs.Tally.{most_took}

-- no number above was taken by most
abbrev pub invariant-loop-count : goal.invariant-loop-count
invariant-loop-count l = (k : ℕ) → l.count < k → k ≤ l.len → most_took l.members k l.self ≡ false
