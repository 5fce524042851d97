-- The states that end deliveries (OASIS AMQP 1.0, part 3, section 3.4).
use Rattle.std.specs.Prelude.{◌≡◌, Result, Ok, Err, refl}
use Rattle.amqp_termini.specs.declared.state.DeliveryState.{DeliveryState}
use Rattle.amqp_termini.specs.declared.state.DeliveryState.TheVariants as v
use Rattle.amqp_termini.specs.declared.terminal_state.TerminalDeliveryState.{TerminalDeliveryState}
use Rattle.amqp_termini.specs.declared.terminal_state.TerminalDeliveryState.TheVariants as terminal

-- the same as a state
abbrev pub state_of_terminal : TerminalDeliveryState → DeliveryState
state_of_terminal (terminal.Accepted x) = v.Accepted x
state_of_terminal (terminal.Rejected x) = v.Rejected x
state_of_terminal (terminal.Released x) = v.Released x
state_of_terminal (terminal.Modified x) = v.Modified x

-- the same as one that ends a delivery; any other state is handed back
abbrev pub terminal_of_state : DeliveryState → Result TerminalDeliveryState DeliveryState
terminal_of_state (v.Accepted x) = Ok (terminal.Accepted x)
terminal_of_state (v.Rejected x) = Ok (terminal.Rejected x)
terminal_of_state (v.Released x) = Ok (terminal.Released x)
terminal_of_state (v.Modified x) = Ok (terminal.Modified x)
terminal_of_state x = Err x

pub terminal_again : (x : TerminalDeliveryState) → terminal_of_state (state_of_terminal x) ≡ Ok x
terminal_again (terminal.Accepted x) = refl
terminal_again (terminal.Rejected x) = refl
terminal_again (terminal.Released x) = refl
terminal_again (terminal.Modified x) = refl
