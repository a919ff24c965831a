use Rattle.steps.proofs.same.agrees.Given as goal
use Rattle.steps.specs.Heads.{agree}
use Rattle.std.proofs.Common.{◌≡◌, true}

-- all before this one are the same
abbrev pub invariant-loop-i : goal.invariant-loop-i
invariant-loop-i l = agree l.i l.place l.log l.entries ≡ true
