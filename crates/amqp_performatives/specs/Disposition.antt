-- Disposition: their fields, in the order of the standard (OASIS AMQP 1.0, part 2, section 2.7.6).
use Rattle.std.specs.Prelude.{List, Option, Some, [], false, refl, ◌∷◌, ◌≡◌}
use Rattle.amqp_composites.specs.amqp_data.Data.{Amqp, Items}
use Rattle.amqp_composites.specs.amqp_fields.Fields.{IsValid, bool_in, ends_at, field_at, maybe, of_bool, of_uint, optional, or_default, same_bool, trimmed, uint_in, unless, ◌>>=◌}
use Rattle.amqp_composites.specs.amqp_fields.Again.{bool_field, bools_are, default_is, each, field_ends, optional_is, required_is, uint_field}
use Rattle.amqp_performatives.specs.declared.disposition.Disposition.{Disposition}
use Rattle.amqp_composites.specs.Modes.{of_role, role_field, role_in}
use Rattle.amqp_termini.specs.State.{IsStateValid, of_state, state_field, state_in}

-- the disposition that the fields say (part 2, section 2.7.6)
unfoldable pub disposition_of : Items → Option Disposition
disposition_of fields = do
  role' ← role_in (field_at fields 0)
  first ← uint_in (field_at fields 1)
  last ← optional uint_in (field_at fields 2)
  settled ← or_default false bool_in (field_at fields 3)
  state ← optional state_in (field_at fields 4)
  batchable ← or_default false bool_in (field_at fields 5)
  no_more ← ends_at fields 6
  Some (record { role = role'; first = first; last = last; settled = settled; state = state; batchable = batchable })

-- its fields, as they are written
abbrev pub disposition_fields : Disposition → List Amqp
disposition_fields x =
    of_role x.role ∷ of_uint x.first ∷ maybe of_uint x.last ∷ unless same_bool false of_bool x.settled ∷ maybe of_state x.state ∷ unless same_bool false of_bool x.batchable ∷ []

abbrev pub IsDispositionValid : Disposition → Type 0
IsDispositionValid x = IsValid IsStateValid x.state

pub disposition_again : (x : Disposition) → IsDispositionValid x → disposition_of (trimmed (disposition_fields x)) ≡ Some x
unfolding disposition_of
disposition_again x h = λ i. do
  role' ← required_is role_field (disposition_fields x) 0 x.role refl tt i
  first ← required_is uint_field (disposition_fields x) 1 x.first refl tt i
  last ← optional_is uint_field (disposition_fields x) 2 x.last refl (each x.last) i
  settled ← default_is bool_field same_bool bools_are (disposition_fields x) 3 false x.settled refl tt i
  state ← optional_is state_field (disposition_fields x) 4 x.state refl h i
  batchable ← default_is bool_field same_bool bools_are (disposition_fields x) 5 false x.batchable refl tt i
  no_more ← field_ends (disposition_fields x) i
  Some (record { role = role'; first = first; last = last; settled = settled; state = state; batchable = batchable })
