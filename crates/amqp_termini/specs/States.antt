-- The states of deliveries: their fields, in the order of the standard (OASIS AMQP 1.0, part 3, section 3.4.1 and following).
use Rattle.std.specs.Prelude.{List, Option, Some, [], refl, ◌∷◌, ◌≡◌}
use Rattle.amqp_composites.specs.amqp_data.Data.{Amqp, Items}
use Rattle.amqp_composites.specs.amqp_fields.Fields.{IsValid, binary_in, bool_in, ends_at, field_at, is_symbol, map_with, maybe, of_binary, of_bool, of_map, of_uint, of_ulong, optional, trimmed, uint_in, ulong_in, ◌>>=◌}
use Rattle.amqp_composites.specs.amqp_fields.Again.{HasKeys, binary_field, bool_field, each, field_ends, map_field, optional_is, required_is, uint_field, ulong_field}
use Rattle.amqp_termini.specs.declared.states.Received.{Received}
use Rattle.amqp_termini.specs.declared.states.Accepted.{Accepted}
use Rattle.amqp_termini.specs.declared.states.Rejected.{Rejected}
use Rattle.amqp_termini.specs.declared.states.Released.{Released}
use Rattle.amqp_termini.specs.declared.states.Modified.{Modified}
use Rattle.amqp_termini.specs.declared.states.Declared.{Declared}
use Rattle.amqp_composites.specs.Error.{IsErrorValid, error_field, error_in, of_error}

-- the received that the fields say (part 3, section 3.4.1)
unfoldable pub received_of : Items → Option Received
received_of fields = do
  section_number ← uint_in (field_at fields 0)
  section_offset ← ulong_in (field_at fields 1)
  no_more ← ends_at fields 2
  Some (record { section_number = section_number; section_offset = section_offset })

-- its fields, as they are written
abbrev pub received_fields : Received → List Amqp
received_fields x =
    of_uint x.section_number ∷ of_ulong x.section_offset ∷ []

abbrev pub IsReceivedValid : Received → Type 0
IsReceivedValid x = Unit {0}

pub received_again : (x : Received) → IsReceivedValid x → received_of (trimmed (received_fields x)) ≡ Some x
unfolding received_of
received_again x h = λ i. do
  section_number ← required_is uint_field (received_fields x) 0 x.section_number refl tt i
  section_offset ← required_is ulong_field (received_fields x) 1 x.section_offset refl tt i
  no_more ← field_ends (received_fields x) i
  Some (record { section_number = section_number; section_offset = section_offset })

-- the accepted that the fields say (part 3, section 3.4.2)
unfoldable pub accepted_of : Items → Option Accepted
accepted_of fields = do
  no_more ← ends_at fields 0
  Some (record {})

-- its fields, as they are written
abbrev pub accepted_fields : Accepted → List Amqp
accepted_fields x =
    []

abbrev pub IsAcceptedValid : Accepted → Type 0
IsAcceptedValid x = Unit {0}

pub accepted_again : (x : Accepted) → IsAcceptedValid x → accepted_of (trimmed (accepted_fields x)) ≡ Some x
unfolding accepted_of
accepted_again x h = λ i. do
  no_more ← field_ends (accepted_fields x) i
  Some (record {})

-- the rejected that the fields say (part 3, section 3.4.3)
unfoldable pub rejected_of : Items → Option Rejected
rejected_of fields = do
  error ← optional error_in (field_at fields 0)
  no_more ← ends_at fields 1
  Some (record { error = error })

-- its fields, as they are written
abbrev pub rejected_fields : Rejected → List Amqp
rejected_fields x =
    maybe of_error x.error ∷ []

abbrev pub IsRejectedValid : Rejected → Type 0
IsRejectedValid x = IsValid IsErrorValid x.error

pub rejected_again : (x : Rejected) → IsRejectedValid x → rejected_of (trimmed (rejected_fields x)) ≡ Some x
unfolding rejected_of
rejected_again x h = λ i. do
  error ← optional_is error_field (rejected_fields x) 0 x.error refl h i
  no_more ← field_ends (rejected_fields x) i
  Some (record { error = error })

-- the released that the fields say (part 3, section 3.4.4)
unfoldable pub released_of : Items → Option Released
released_of fields = do
  no_more ← ends_at fields 0
  Some (record {})

-- its fields, as they are written
abbrev pub released_fields : Released → List Amqp
released_fields x =
    []

abbrev pub IsReleasedValid : Released → Type 0
IsReleasedValid x = Unit {0}

pub released_again : (x : Released) → IsReleasedValid x → released_of (trimmed (released_fields x)) ≡ Some x
unfolding released_of
released_again x h = λ i. do
  no_more ← field_ends (released_fields x) i
  Some (record {})

-- the modified that the fields say (part 3, section 3.4.5)
unfoldable pub modified_of : Items → Option Modified
modified_of fields = do
  delivery_failed ← optional bool_in (field_at fields 0)
  undeliverable_here ← optional bool_in (field_at fields 1)
  message_annotations ← optional (map_with is_symbol) (field_at fields 2)
  no_more ← ends_at fields 3
  Some (record { delivery_failed = delivery_failed; undeliverable_here = undeliverable_here; message_annotations = message_annotations })

-- its fields, as they are written
abbrev pub modified_fields : Modified → List Amqp
modified_fields x =
    maybe of_bool x.delivery_failed ∷ maybe of_bool x.undeliverable_here ∷ maybe of_map x.message_annotations ∷ []

abbrev pub IsModifiedValid : Modified → Type 0
IsModifiedValid x = IsValid (HasKeys is_symbol) x.message_annotations

pub modified_again : (x : Modified) → IsModifiedValid x → modified_of (trimmed (modified_fields x)) ≡ Some x
unfolding modified_of
modified_again x h = λ i. do
  delivery_failed ← optional_is bool_field (modified_fields x) 0 x.delivery_failed refl (each x.delivery_failed) i
  undeliverable_here ← optional_is bool_field (modified_fields x) 1 x.undeliverable_here refl (each x.undeliverable_here) i
  message_annotations ← optional_is (map_field is_symbol) (modified_fields x) 2 x.message_annotations refl h i
  no_more ← field_ends (modified_fields x) i
  Some (record { delivery_failed = delivery_failed; undeliverable_here = undeliverable_here; message_annotations = message_annotations })

-- the declared that the fields say (part 4, section 4.5.5)
unfoldable pub declared_of : Items → Option Declared
declared_of fields = do
  txn_id ← binary_in (field_at fields 0)
  no_more ← ends_at fields 1
  Some (record { txn_id = txn_id })

-- its fields, as they are written
abbrev pub declared_fields : Declared → List Amqp
declared_fields x =
    of_binary x.txn_id ∷ []

abbrev pub IsDeclaredValid : Declared → Type 0
IsDeclaredValid x = Unit {0}

pub declared_again : (x : Declared) → IsDeclaredValid x → declared_of (trimmed (declared_fields x)) ≡ Some x
unfolding declared_of
declared_again x h = λ i. do
  txn_id ← required_is binary_field (declared_fields x) 0 x.txn_id refl tt i
  no_more ← field_ends (declared_fields x) i
  Some (record { txn_id = txn_id })
