-- The states of deliveries that a book gives (OASIS AMQP 1.0, part 3, section 3.4).
use Rattle.std.specs.Prelude.{◌≡◌, Bool, true, false}
use Rattle.amqp_termini.specs.declared.state.DeliveryState.{DeliveryState}
use Rattle.amqp_termini.specs.declared.state.DeliveryState.TheVariants as states

-- the delivery is taken (section 3.4.2)
abbrev pub accepted : DeliveryState
accepted = states.Accepted (record {})

-- the delivery is not taken, and may be sent anew (section 3.4.4)
abbrev pub released : DeliveryState
released = states.Released (record {})

-- Accepted or Released, which hold nothing
abbrev pub is_plain : DeliveryState → Bool
is_plain (states.Received x) = false
is_plain (states.Accepted x) = true
is_plain (states.Rejected x) = false
is_plain (states.Released x) = true
is_plain (states.Modified x) = false
is_plain (states.Declared x) = false
is_plain (states.TransactionalState x) = false

abbrev pub IsPlain : DeliveryState → Type 0
IsPlain state = is_plain state ≡ true
