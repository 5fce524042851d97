use Rattle.amqp_termini.specs.TerminalState.{terminal_again}
use Rattle.amqp_termini.proofs.laws.terminal_state_is_the_same_again.Goals as goal

pub returns : goal.returns
returns c = terminal_again
