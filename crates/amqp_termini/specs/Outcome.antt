-- The outcomes of deliveries (OASIS AMQP 1.0, part 3, section 3.4).
use Rattle.std.specs.Prelude.{◌≡◌, Option, Some, None}
use Rattle.std.proofs.Common.{ap}
use Rattle.amqp_composites.specs.amqp_data.Data.{Amqp, Items}
use Rattle.amqp_composites.specs.amqp_fields.Fields.{◌>>=◌}
use Rattle.amqp_composites.specs.amqp_fields.Again.{IsField}
use Rattle.amqp_termini.specs.declared.outcome.Outcome.{Outcome}
use Rattle.amqp_termini.specs.declared.outcome.Outcome.TheVariants as v
use Rattle.amqp_termini.specs.declared.states.Accepted.{Accepted}
use Rattle.amqp_termini.specs.declared.states.Rejected.{Rejected}
use Rattle.amqp_termini.specs.declared.states.Released.{Released}
use Rattle.amqp_termini.specs.declared.states.Modified.{Modified}
use Rattle.amqp_termini.specs.declared.states.Declared.{Declared}
use Rattle.amqp_composites.specs.declared.kind.CompositeKind.{CompositeKind}
use Rattle.amqp_composites.specs.declared.kind.CompositeKind.TheVariants as kind
use Rattle.amqp_composites.specs.Described.{list_in, composite}
use Rattle.amqp_termini.specs.States.{accepted_of, accepted_fields, IsAcceptedValid, accepted_again, rejected_of, rejected_fields, IsRejectedValid, rejected_again, released_of, released_fields, IsReleasedValid, released_again, modified_of, modified_fields, IsModifiedValid, modified_again, declared_of, declared_fields, IsDeclaredValid, declared_again}

abbrev pub outcome_with : CompositeKind → Items → Option Outcome
outcome_with kind.Accepted fields = accepted_of fields >>= λ x. Some (v.Accepted x)
outcome_with kind.Rejected fields = rejected_of fields >>= λ x. Some (v.Rejected x)
outcome_with kind.Released fields = released_of fields >>= λ x. Some (v.Released x)
outcome_with kind.Modified fields = modified_of fields >>= λ x. Some (v.Modified x)
outcome_with kind.Declared fields = declared_of fields >>= λ x. Some (v.Declared x)
outcome_with k fields = None

-- the outcome that a value says
abbrev pub outcome_in : Amqp → Option Outcome
outcome_in w = list_in w >>= λ x. outcome_with x.0 x.1

abbrev pub of_outcome : Outcome → Amqp
of_outcome (v.Accepted x) = composite kind.Accepted (accepted_fields x)
of_outcome (v.Rejected x) = composite kind.Rejected (rejected_fields x)
of_outcome (v.Released x) = composite kind.Released (released_fields x)
of_outcome (v.Modified x) = composite kind.Modified (modified_fields x)
of_outcome (v.Declared x) = composite kind.Declared (declared_fields x)

abbrev pub IsOutcomeValid : Outcome → Type 0
IsOutcomeValid (v.Accepted x) = IsAcceptedValid x
IsOutcomeValid (v.Rejected x) = IsRejectedValid x
IsOutcomeValid (v.Released x) = IsReleasedValid x
IsOutcomeValid (v.Modified x) = IsModifiedValid x
IsOutcomeValid (v.Declared x) = IsDeclaredValid x

pub outcome_again : (x : Outcome) → IsOutcomeValid x → outcome_in (of_outcome x) ≡ Some x
outcome_again (v.Accepted x) h = ap (λ (r : Option Accepted). r >>= λ y. Some (v.Accepted y)) (accepted_again x h)
outcome_again (v.Rejected x) h = ap (λ (r : Option Rejected). r >>= λ y. Some (v.Rejected y)) (rejected_again x h)
outcome_again (v.Released x) h = ap (λ (r : Option Released). r >>= λ y. Some (v.Released y)) (released_again x h)
outcome_again (v.Modified x) h = ap (λ (r : Option Modified). r >>= λ y. Some (v.Modified y)) (modified_again x h)
outcome_again (v.Declared x) h = ap (λ (r : Option Declared). r >>= λ y. Some (v.Declared y)) (declared_again x h)

pub outcome_field : IsField outcome_in of_outcome IsOutcomeValid
outcome_field = record { again = outcome_again; there = elim [ v.Accepted x ↦ tt | v.Rejected x ↦ tt | v.Released x ↦ tt | v.Modified x ↦ tt | v.Declared x ↦ tt ] }

-- it is another outcome than an acceptance
abbrev pub IsNotAccepted : Outcome → Type 0
IsNotAccepted (v.Accepted x) = ⊥
IsNotAccepted x = Unit {0}

-- P of an acceptance, Q of any other outcome
abbrev pub MatchAccepted : Outcome → (Accepted → Type 0) → (Outcome → Type 0) → Type 0
MatchAccepted (v.Accepted x) P Q = P x
MatchAccepted x P Q = Q x
