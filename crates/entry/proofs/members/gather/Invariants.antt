use Rattle.std.proofs.Common.{◌≡◌, ◌-◌}
use Rattle.entry.proofs.members.gather.Given as goal
use Rattle.entry.specs.Members.{walk, walked}

-- the stations left to visit find what all find from the start
abbrev pub invariant-loop-station : goal.invariant-loop-station
invariant-loop-station l = walk (16 - l.station) l.station (walked l.set l.rest) ≡ walk 16 0 (walked 0 l.list)
