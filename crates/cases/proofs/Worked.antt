-- The rows, run.
use Rattle.cases.specs.Cases.{Cases, row_stands}
use Rattle.council.specs.Log.{requests_in}
use Rattle.quorum.specs.Tally.{takers}
use Rattle.steps.specs.Heads.{agree}
use lib.Count.{ones}
use Rattle.std.proofs.Common.{refl}

pub cases : Cases
unfolding row_stands requests_in takers agree ones
cases = refl
