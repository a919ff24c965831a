use Rattle.std.proofs.Common.{◌≡◌, ◌-◌, ◌≤◌, ◌++◌, length, take}
use Rattle.entry.proofs.members.list_members.Given as goal
use Rattle.entry.specs.Members.{listed, listing}

-- what is listed and what the stations left will list make the whole
abbrev pub invariant-loop-station : goal.invariant-loop-station
invariant-loop-station l = (take l.len l.stations ++ listing (16 - l.station) l.station l.left ≡ listed l.set) × (l.len ≤ l.station) × (length l.stations ≡ 16)
