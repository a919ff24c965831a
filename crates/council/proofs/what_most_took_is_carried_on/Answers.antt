use Rattle.council.proofs.Theorems.{carried_law}
use Rattle.council.proofs.what_most_took_is_carried_on.Goals as goal

pub returns : goal.returns
returns c = carried_law
