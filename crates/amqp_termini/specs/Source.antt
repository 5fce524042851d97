-- Sources: their fields, in the order of the standard (OASIS AMQP 1.0, part 3, section 3.5.3).
use Rattle.std.specs.Prelude.{None, List, Option, Some, [], codes, false, nat_eq, refl, ◌∷◌, ◌≡◌}
use Rattle.std.specs.Str.{bytes_eq}
use Rattle.amqp_composites.specs.amqp_data.Data.{Amqp, Items}
use Rattle.amqp_composites.specs.amqp_fields.Fields.{IsValid, bool_in, ends_at, field_at, is_symbol, map_with, maybe, of_bool, of_map, of_string, of_symbol, of_symbols, of_uint, optional, or_default, same_bool, string_in, symbol_in, symbols_in, trimmed, uint_in, unless, ◌>>=◌}
use Rattle.amqp_composites.specs.amqp_fields.Again.{IsField, HasKeys, bool_field, bools_are, default_is, each, field_ends, map_field, numbers_are, optional_is, string_field, symbol_field, symbols_field, texts_are, uint_field}
use Rattle.amqp_termini.specs.declared.source.Source.{Source}
use Rattle.amqp_composites.specs.declared.kind.CompositeKind.{CompositeKind}
use Rattle.amqp_composites.specs.declared.kind.CompositeKind.TheVariants as kind
use Rattle.amqp_composites.specs.Described.{list_in, composite}
use Rattle.amqp_termini.specs.Outcome.{IsOutcomeValid, of_outcome, outcome_field, outcome_in}

-- the source that the fields say (part 3, section 3.5.3)
unfoldable pub source_of : Items → Option Source
source_of fields = do
  address ← optional string_in (field_at fields 0)
  durable ← or_default 0 uint_in (field_at fields 1)
  expiry_policy ← or_default (codes "session-end") symbol_in (field_at fields 2)
  timeout ← or_default 0 uint_in (field_at fields 3)
  dynamic ← or_default false bool_in (field_at fields 4)
  dynamic_node_properties ← optional (map_with is_symbol) (field_at fields 5)
  distribution_mode ← optional symbol_in (field_at fields 6)
  filter ← optional (map_with is_symbol) (field_at fields 7)
  default_outcome ← optional outcome_in (field_at fields 8)
  outcomes ← optional symbols_in (field_at fields 9)
  capabilities ← optional symbols_in (field_at fields 10)
  no_more ← ends_at fields 11
  Some (record { address = address; durable = durable; expiry_policy = expiry_policy; timeout = timeout; dynamic = dynamic; dynamic_node_properties = dynamic_node_properties; distribution_mode = distribution_mode; filter = filter; default_outcome = default_outcome; outcomes = outcomes; capabilities = capabilities })

-- its fields, as they are written
abbrev pub source_fields : Source → List Amqp
source_fields x =
    maybe of_string x.address ∷ unless nat_eq 0 of_uint x.durable ∷ unless bytes_eq (codes "session-end") of_symbol x.expiry_policy ∷ unless nat_eq 0 of_uint x.timeout ∷ unless same_bool false of_bool x.dynamic ∷ maybe of_map x.dynamic_node_properties ∷ maybe of_symbol x.distribution_mode ∷ maybe of_map x.filter ∷ maybe of_outcome x.default_outcome ∷ maybe of_symbols x.outcomes ∷ maybe of_symbols x.capabilities ∷ []

abbrev pub IsSourceValid : Source → Type 0
IsSourceValid x = IsValid (HasKeys is_symbol) x.dynamic_node_properties × IsValid (HasKeys is_symbol) x.filter × IsValid IsOutcomeValid x.default_outcome

pub source_again : (x : Source) → IsSourceValid x → source_of (trimmed (source_fields x)) ≡ Some x
unfolding source_of
source_again x h = λ i. do
  address ← optional_is string_field (source_fields x) 0 x.address refl (each x.address) i
  durable ← default_is uint_field nat_eq numbers_are (source_fields x) 1 0 x.durable refl tt i
  expiry_policy ← default_is symbol_field bytes_eq texts_are (source_fields x) 2 (codes "session-end") x.expiry_policy refl tt i
  timeout ← default_is uint_field nat_eq numbers_are (source_fields x) 3 0 x.timeout refl tt i
  dynamic ← default_is bool_field same_bool bools_are (source_fields x) 4 false x.dynamic refl tt i
  dynamic_node_properties ← optional_is (map_field is_symbol) (source_fields x) 5 x.dynamic_node_properties refl h.0 i
  distribution_mode ← optional_is symbol_field (source_fields x) 6 x.distribution_mode refl (each x.distribution_mode) i
  filter ← optional_is (map_field is_symbol) (source_fields x) 7 x.filter refl h.1 i
  default_outcome ← optional_is outcome_field (source_fields x) 8 x.default_outcome refl h.2 i
  outcomes ← optional_is symbols_field (source_fields x) 9 x.outcomes refl (each x.outcomes) i
  capabilities ← optional_is symbols_field (source_fields x) 10 x.capabilities refl (each x.capabilities) i
  no_more ← field_ends (source_fields x) i
  Some (record { address = address; durable = durable; expiry_policy = expiry_policy; timeout = timeout; dynamic = dynamic; dynamic_node_properties = dynamic_node_properties; distribution_mode = distribution_mode; filter = filter; default_outcome = default_outcome; outcomes = outcomes; capabilities = capabilities })

-- the source that a value says
abbrev pub source_with : CompositeKind → Items → Option Source
source_with kind.Source fields = source_of fields
source_with k fields = None

abbrev pub source_in : Amqp → Option Source
source_in v = list_in v >>= λ x. source_with x.0 x.1

abbrev pub of_source : Source → Amqp
of_source x = composite kind.Source (source_fields x)

pub source_field : IsField source_in of_source IsSourceValid
source_field = record { again = source_again; there = λ x. tt }
