use Rattle.steps_laws.proofs.Showing.{shows}
use Rattle.steps_laws.proofs.memory_shows_the_station.Goals as goal

pub returns : goal.returns
returns c = shows
