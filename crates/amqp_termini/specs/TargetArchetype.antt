-- The targets of links (OASIS AMQP 1.0, part 2, section 2.7.3).
use Rattle.std.specs.Prelude.{◌≡◌, Option, Some, None}
use Rattle.std.proofs.Common.{ap}
use Rattle.amqp_composites.specs.amqp_data.Data.{Amqp, Items}
use Rattle.amqp_composites.specs.amqp_fields.Fields.{◌>>=◌}
use Rattle.amqp_composites.specs.amqp_fields.Again.{IsField}
use Rattle.amqp_termini.specs.declared.target_archetype.TargetArchetype.{TargetArchetype}
use Rattle.amqp_termini.specs.declared.target_archetype.TargetArchetype.TheVariants as v
use Rattle.amqp_termini.specs.declared.target.Target.{Target}
use Rattle.amqp_termini.specs.declared.target.Coordinator.{Coordinator}
use Rattle.amqp_composites.specs.declared.kind.CompositeKind.{CompositeKind}
use Rattle.amqp_composites.specs.declared.kind.CompositeKind.TheVariants as kind
use Rattle.amqp_composites.specs.Described.{list_in, composite}
use Rattle.amqp_termini.specs.Target.{target_of, target_fields, IsTargetValid, target_again, coordinator_of, coordinator_fields, IsCoordinatorValid, coordinator_again}

abbrev pub archetype_with : CompositeKind → Items → Option TargetArchetype
archetype_with kind.Target fields = target_of fields >>= λ x. Some (v.Target x)
archetype_with kind.Coordinator fields = coordinator_of fields >>= λ x. Some (v.Coordinator x)
archetype_with k fields = None

-- the archetype that a value says
abbrev pub archetype_in : Amqp → Option TargetArchetype
archetype_in w = list_in w >>= λ x. archetype_with x.0 x.1

abbrev pub of_archetype : TargetArchetype → Amqp
of_archetype (v.Target x) = composite kind.Target (target_fields x)
of_archetype (v.Coordinator x) = composite kind.Coordinator (coordinator_fields x)

abbrev pub IsArchetypeValid : TargetArchetype → Type 0
IsArchetypeValid (v.Target x) = IsTargetValid x
IsArchetypeValid (v.Coordinator x) = IsCoordinatorValid x

pub archetype_again : (x : TargetArchetype) → IsArchetypeValid x → archetype_in (of_archetype x) ≡ Some x
archetype_again (v.Target x) h = ap (λ (r : Option Target). r >>= λ y. Some (v.Target y)) (target_again x h)
archetype_again (v.Coordinator x) h = ap (λ (r : Option Coordinator). r >>= λ y. Some (v.Coordinator y)) (coordinator_again x h)

pub archetype_field : IsField archetype_in of_archetype IsArchetypeValid
archetype_field = record { again = archetype_again; there = elim [ v.Target x ↦ tt | v.Coordinator x ↦ tt ] }
