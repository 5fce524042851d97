-- Targets: their fields, in the order of the standard (OASIS AMQP 1.0, part 3, section 3.5.4 and following).
use Rattle.std.specs.Prelude.{List, Option, Some, [], codes, false, nat_eq, refl, ◌∷◌, ◌≡◌}
use Rattle.std.specs.Str.{bytes_eq}
use Rattle.amqp_composites.specs.amqp_data.Data.{Amqp, Items}
use Rattle.amqp_composites.specs.amqp_fields.Fields.{IsValid, bool_in, ends_at, field_at, is_symbol, map_with, maybe, of_bool, of_map, of_string, of_symbol, of_symbols, of_uint, optional, or_default, same_bool, string_in, symbol_in, symbols_in, trimmed, uint_in, unless, ◌>>=◌}
use Rattle.amqp_composites.specs.amqp_fields.Again.{HasKeys, bool_field, bools_are, default_is, each, field_ends, map_field, numbers_are, optional_is, string_field, symbol_field, symbols_field, texts_are, uint_field}
use Rattle.amqp_termini.specs.declared.target.Target.{Target}
use Rattle.amqp_termini.specs.declared.target.Coordinator.{Coordinator}

-- the target that the fields say (part 3, section 3.5.4)
unfoldable pub target_of : Items → Option Target
target_of fields = do
  address ← optional string_in (field_at fields 0)
  durable ← or_default 0 uint_in (field_at fields 1)
  expiry_policy ← or_default (codes "session-end") symbol_in (field_at fields 2)
  timeout ← or_default 0 uint_in (field_at fields 3)
  dynamic ← or_default false bool_in (field_at fields 4)
  dynamic_node_properties ← optional (map_with is_symbol) (field_at fields 5)
  capabilities ← optional symbols_in (field_at fields 6)
  no_more ← ends_at fields 7
  Some (record { address = address; durable = durable; expiry_policy = expiry_policy; timeout = timeout; dynamic = dynamic; dynamic_node_properties = dynamic_node_properties; capabilities = capabilities })

-- its fields, as they are written
abbrev pub target_fields : Target → List Amqp
target_fields x =
    maybe of_string x.address ∷ unless nat_eq 0 of_uint x.durable ∷ unless bytes_eq (codes "session-end") of_symbol x.expiry_policy ∷ unless nat_eq 0 of_uint x.timeout ∷ unless same_bool false of_bool x.dynamic ∷ maybe of_map x.dynamic_node_properties ∷ maybe of_symbols x.capabilities ∷ []

abbrev pub IsTargetValid : Target → Type 0
IsTargetValid x = IsValid (HasKeys is_symbol) x.dynamic_node_properties

pub target_again : (x : Target) → IsTargetValid x → target_of (trimmed (target_fields x)) ≡ Some x
unfolding target_of
target_again x h = λ i. do
  address ← optional_is string_field (target_fields x) 0 x.address refl (each x.address) i
  durable ← default_is uint_field nat_eq numbers_are (target_fields x) 1 0 x.durable refl tt i
  expiry_policy ← default_is symbol_field bytes_eq texts_are (target_fields x) 2 (codes "session-end") x.expiry_policy refl tt i
  timeout ← default_is uint_field nat_eq numbers_are (target_fields x) 3 0 x.timeout refl tt i
  dynamic ← default_is bool_field same_bool bools_are (target_fields x) 4 false x.dynamic refl tt i
  dynamic_node_properties ← optional_is (map_field is_symbol) (target_fields x) 5 x.dynamic_node_properties refl h i
  capabilities ← optional_is symbols_field (target_fields x) 6 x.capabilities refl (each x.capabilities) i
  no_more ← field_ends (target_fields x) i
  Some (record { address = address; durable = durable; expiry_policy = expiry_policy; timeout = timeout; dynamic = dynamic; dynamic_node_properties = dynamic_node_properties; capabilities = capabilities })

-- the coordinator that the fields say (part 4, section 4.5.1)
unfoldable pub coordinator_of : Items → Option Coordinator
coordinator_of fields = do
  capabilities ← optional symbols_in (field_at fields 0)
  no_more ← ends_at fields 1
  Some (record { capabilities = capabilities })

-- its fields, as they are written
abbrev pub coordinator_fields : Coordinator → List Amqp
coordinator_fields x =
    maybe of_symbols x.capabilities ∷ []

abbrev pub IsCoordinatorValid : Coordinator → Type 0
IsCoordinatorValid x = Unit {0}

pub coordinator_again : (x : Coordinator) → IsCoordinatorValid x → coordinator_of (trimmed (coordinator_fields x)) ≡ Some x
unfolding coordinator_of
coordinator_again x h = λ i. do
  capabilities ← optional_is symbols_field (coordinator_fields x) 0 x.capabilities refl (each x.capabilities) i
  no_more ← field_ends (coordinator_fields x) i
  Some (record { capabilities = capabilities })
