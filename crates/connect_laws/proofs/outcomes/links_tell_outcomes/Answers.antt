use Rattle.connect_laws.proofs.Told.{links_tell_outcomes}
use Rattle.connect_laws.proofs.outcomes.links_tell_outcomes.Goals as goal

pub returns : goal.returns
returns c = links_tell_outcomes
