use Rattle.amqp_sections.specs.Header.{header_again}
use Rattle.amqp_sections.proofs.laws.header_is_read_again.Goals as goal

pub returns : goal.returns
returns c = λ x. header_again x tt
