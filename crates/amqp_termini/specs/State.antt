-- The states of deliveries (OASIS AMQP 1.0, part 3, section 3.4).
use Rattle.std.specs.Prelude.{◌≡◌, Option, Some, None}
use Rattle.std.proofs.Common.{ap}
use Rattle.amqp_composites.specs.amqp_data.Data.{Amqp, Items}
use Rattle.amqp_composites.specs.amqp_fields.Fields.{◌>>=◌}
use Rattle.amqp_composites.specs.amqp_fields.Again.{IsField}
use Rattle.amqp_termini.specs.declared.state.DeliveryState.{DeliveryState}
use Rattle.amqp_termini.specs.declared.state.DeliveryState.TheVariants as v
use Rattle.amqp_termini.specs.declared.states.Received.{Received}
use Rattle.amqp_termini.specs.declared.states.Accepted.{Accepted}
use Rattle.amqp_termini.specs.declared.states.Rejected.{Rejected}
use Rattle.amqp_termini.specs.declared.states.Released.{Released}
use Rattle.amqp_termini.specs.declared.states.Modified.{Modified}
use Rattle.amqp_termini.specs.declared.states.Declared.{Declared}
use Rattle.amqp_termini.specs.declared.transactional.TransactionalState.{TransactionalState}
use Rattle.amqp_composites.specs.declared.kind.CompositeKind.{CompositeKind}
use Rattle.amqp_composites.specs.declared.kind.CompositeKind.TheVariants as kind
use Rattle.amqp_composites.specs.Described.{list_in, composite}
use Rattle.amqp_termini.specs.States.{received_of, received_fields, IsReceivedValid, received_again, accepted_of, accepted_fields, IsAcceptedValid, accepted_again, rejected_of, rejected_fields, IsRejectedValid, rejected_again, released_of, released_fields, IsReleasedValid, released_again, modified_of, modified_fields, IsModifiedValid, modified_again, declared_of, declared_fields, IsDeclaredValid, declared_again}
use Rattle.amqp_termini.specs.Transactional.{transactional_state_of, transactional_state_fields, IsTransactionalStateValid, transactional_state_again}

abbrev pub state_with : CompositeKind → Items → Option DeliveryState
state_with kind.Received fields = received_of fields >>= λ x. Some (v.Received x)
state_with kind.Accepted fields = accepted_of fields >>= λ x. Some (v.Accepted x)
state_with kind.Rejected fields = rejected_of fields >>= λ x. Some (v.Rejected x)
state_with kind.Released fields = released_of fields >>= λ x. Some (v.Released x)
state_with kind.Modified fields = modified_of fields >>= λ x. Some (v.Modified x)
state_with kind.Declared fields = declared_of fields >>= λ x. Some (v.Declared x)
state_with kind.TransactionalState fields = transactional_state_of fields >>= λ x. Some (v.TransactionalState x)
state_with k fields = None

-- the state that a value says
abbrev pub state_in : Amqp → Option DeliveryState
state_in w = list_in w >>= λ x. state_with x.0 x.1

abbrev pub of_state : DeliveryState → Amqp
of_state (v.Received x) = composite kind.Received (received_fields x)
of_state (v.Accepted x) = composite kind.Accepted (accepted_fields x)
of_state (v.Rejected x) = composite kind.Rejected (rejected_fields x)
of_state (v.Released x) = composite kind.Released (released_fields x)
of_state (v.Modified x) = composite kind.Modified (modified_fields x)
of_state (v.Declared x) = composite kind.Declared (declared_fields x)
of_state (v.TransactionalState x) = composite kind.TransactionalState (transactional_state_fields x)

abbrev pub IsStateValid : DeliveryState → Type 0
IsStateValid (v.Received x) = IsReceivedValid x
IsStateValid (v.Accepted x) = IsAcceptedValid x
IsStateValid (v.Rejected x) = IsRejectedValid x
IsStateValid (v.Released x) = IsReleasedValid x
IsStateValid (v.Modified x) = IsModifiedValid x
IsStateValid (v.Declared x) = IsDeclaredValid x
IsStateValid (v.TransactionalState x) = IsTransactionalStateValid x

pub state_again : (x : DeliveryState) → IsStateValid x → state_in (of_state x) ≡ Some x
state_again (v.Received x) h = ap (λ (r : Option Received). r >>= λ y. Some (v.Received y)) (received_again x h)
state_again (v.Accepted x) h = ap (λ (r : Option Accepted). r >>= λ y. Some (v.Accepted y)) (accepted_again x h)
state_again (v.Rejected x) h = ap (λ (r : Option Rejected). r >>= λ y. Some (v.Rejected y)) (rejected_again x h)
state_again (v.Released x) h = ap (λ (r : Option Released). r >>= λ y. Some (v.Released y)) (released_again x h)
state_again (v.Modified x) h = ap (λ (r : Option Modified). r >>= λ y. Some (v.Modified y)) (modified_again x h)
state_again (v.Declared x) h = ap (λ (r : Option Declared). r >>= λ y. Some (v.Declared y)) (declared_again x h)
state_again (v.TransactionalState x) h = ap (λ (r : Option TransactionalState). r >>= λ y. Some (v.TransactionalState y)) (transactional_state_again x h)

pub state_field : IsField state_in of_state IsStateValid
state_field = record { again = state_again; there = elim [ v.Received x ↦ tt | v.Accepted x ↦ tt | v.Rejected x ↦ tt | v.Released x ↦ tt | v.Modified x ↦ tt | v.Declared x ↦ tt | v.TransactionalState x ↦ tt ] }
