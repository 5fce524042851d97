use Rattle.amqp_sections.specs.Properties.{properties_again}
use Rattle.amqp_sections.proofs.laws.properties_are_read_again.Goals as goal

pub returns : goal.returns
returns c = λ x. properties_again x tt
