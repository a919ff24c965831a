use Rattle.council.proofs.Lively.{lively}
use Rattle.council.proofs.nobody_is_stuck.Goals as goal

pub returns : goal.returns
returns c = lively
