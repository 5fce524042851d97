-- Transfer: their fields, in the order of the standard (OASIS AMQP 1.0, part 2, section 2.7.5).
use Rattle.std.specs.Prelude.{List, Option, Some, [], false, refl, ◌∷◌, ◌≡◌}
use Rattle.amqp_composites.specs.amqp_data.Data.{Amqp, Items}
use Rattle.amqp_composites.specs.amqp_fields.Fields.{IsValid, binary_in, bool_in, ends_at, field_at, maybe, of_binary, of_bool, of_uint, optional, or_default, same_bool, trimmed, uint_in, unless, ◌>>=◌}
use Rattle.amqp_composites.specs.amqp_fields.Again.{binary_field, bool_field, bools_are, default_is, each, field_ends, optional_is, required_is, uint_field}
use Rattle.amqp_performatives.specs.declared.transfer.Transfer.{Transfer}
use Rattle.amqp_composites.specs.Modes.{of_receiver_mode, receiver_mode_field, receiver_mode_in}
use Rattle.amqp_termini.specs.State.{IsStateValid, of_state, state_field, state_in}

-- the transfer that the fields say (part 2, section 2.7.5)
unfoldable pub transfer_of : Items → Option Transfer
transfer_of fields = do
  handle ← uint_in (field_at fields 0)
  delivery_id ← optional uint_in (field_at fields 1)
  delivery_tag ← optional binary_in (field_at fields 2)
  message_format ← optional uint_in (field_at fields 3)
  settled ← optional bool_in (field_at fields 4)
  more ← or_default false bool_in (field_at fields 5)
  rcv_settle_mode ← optional receiver_mode_in (field_at fields 6)
  state ← optional state_in (field_at fields 7)
  resume ← or_default false bool_in (field_at fields 8)
  aborted ← or_default false bool_in (field_at fields 9)
  batchable ← or_default false bool_in (field_at fields 10)
  no_more ← ends_at fields 11
  Some (record { handle = handle; delivery_id = delivery_id; delivery_tag = delivery_tag; message_format = message_format; settled = settled; more = more; rcv_settle_mode = rcv_settle_mode; state = state; resume = resume; aborted = aborted; batchable = batchable })

-- its fields, as they are written
abbrev pub transfer_fields : Transfer → List Amqp
transfer_fields x =
    of_uint x.handle ∷ maybe of_uint x.delivery_id ∷ maybe of_binary x.delivery_tag ∷ maybe of_uint x.message_format ∷ maybe of_bool x.settled ∷ unless same_bool false of_bool x.more ∷ maybe of_receiver_mode x.rcv_settle_mode ∷ maybe of_state x.state ∷ unless same_bool false of_bool x.resume ∷ unless same_bool false of_bool x.aborted ∷ unless same_bool false of_bool x.batchable ∷ []

abbrev pub IsTransferValid : Transfer → Type 0
IsTransferValid x = IsValid IsStateValid x.state

pub transfer_again : (x : Transfer) → IsTransferValid x → transfer_of (trimmed (transfer_fields x)) ≡ Some x
unfolding transfer_of
transfer_again x h = λ i. do
  handle ← required_is uint_field (transfer_fields x) 0 x.handle refl tt i
  delivery_id ← optional_is uint_field (transfer_fields x) 1 x.delivery_id refl (each x.delivery_id) i
  delivery_tag ← optional_is binary_field (transfer_fields x) 2 x.delivery_tag refl (each x.delivery_tag) i
  message_format ← optional_is uint_field (transfer_fields x) 3 x.message_format refl (each x.message_format) i
  settled ← optional_is bool_field (transfer_fields x) 4 x.settled refl (each x.settled) i
  more ← default_is bool_field same_bool bools_are (transfer_fields x) 5 false x.more refl tt i
  rcv_settle_mode ← optional_is receiver_mode_field (transfer_fields x) 6 x.rcv_settle_mode refl (each x.rcv_settle_mode) i
  state ← optional_is state_field (transfer_fields x) 7 x.state refl h i
  resume ← default_is bool_field same_bool bools_are (transfer_fields x) 8 false x.resume refl tt i
  aborted ← default_is bool_field same_bool bools_are (transfer_fields x) 9 false x.aborted refl tt i
  batchable ← default_is bool_field same_bool bools_are (transfer_fields x) 10 false x.batchable refl tt i
  no_more ← field_ends (transfer_fields x) i
  Some (record { handle = handle; delivery_id = delivery_id; delivery_tag = delivery_tag; message_format = message_format; settled = settled; more = more; rcv_settle_mode = rcv_settle_mode; state = state; resume = resume; aborted = aborted; batchable = batchable })
