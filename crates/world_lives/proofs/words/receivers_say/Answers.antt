use Rattle.session_laws.specs.Speaking.{ruling_in, flow_on}
use Rattle.world_lives.proofs.OutcomeLives.Saying.{receivers_say}
use Rattle.world_lives.proofs.words.receivers_say.Goals as goal

pub returns-clause-deliveries : goal.returns-clause-deliveries
returns-clause-deliveries c = receivers_say ruling_in

pub returns-clause-credit : goal.returns-clause-credit
returns-clause-credit c = λ handle. receivers_say (flow_on handle)
