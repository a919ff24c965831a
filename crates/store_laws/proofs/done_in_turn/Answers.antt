use Rattle.store_laws.proofs.Lists.{in_turn}
use Rattle.store_laws.proofs.done_in_turn.Goals as goal

pub returns : goal.returns
returns c = in_turn
