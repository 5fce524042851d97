-- States of deliveries within transactions: their fields, in the order of the standard (OASIS AMQP 1.0, part 4, section 4.5.8).
use Rattle.std.specs.Prelude.{List, Option, Some, [], refl, ◌∷◌, ◌≡◌}
use Rattle.amqp_composites.specs.amqp_data.Data.{Amqp, Items}
use Rattle.amqp_composites.specs.amqp_fields.Fields.{IsValid, binary_in, ends_at, field_at, maybe, of_binary, optional, trimmed, ◌>>=◌}
use Rattle.amqp_composites.specs.amqp_fields.Again.{binary_field, field_ends, optional_is, required_is}
use Rattle.amqp_termini.specs.declared.transactional.TransactionalState.{TransactionalState}
use Rattle.amqp_termini.specs.Outcome.{IsOutcomeValid, of_outcome, outcome_field, outcome_in}

-- the transactional-state that the fields say (part 4, section 4.5.8)
unfoldable pub transactional_state_of : Items → Option TransactionalState
transactional_state_of fields = do
  txn_id ← binary_in (field_at fields 0)
  outcome ← optional outcome_in (field_at fields 1)
  no_more ← ends_at fields 2
  Some (record { txn_id = txn_id; outcome = outcome })

-- its fields, as they are written
abbrev pub transactional_state_fields : TransactionalState → List Amqp
transactional_state_fields x =
    of_binary x.txn_id ∷ maybe of_outcome x.outcome ∷ []

abbrev pub IsTransactionalStateValid : TransactionalState → Type 0
IsTransactionalStateValid x = IsValid IsOutcomeValid x.outcome

pub transactional_state_again : (x : TransactionalState) → IsTransactionalStateValid x → transactional_state_of (trimmed (transactional_state_fields x)) ≡ Some x
unfolding transactional_state_of
transactional_state_again x h = λ i. do
  txn_id ← required_is binary_field (transactional_state_fields x) 0 x.txn_id refl tt i
  outcome ← optional_is outcome_field (transactional_state_fields x) 1 x.outcome refl h i
  no_more ← field_ends (transactional_state_fields x) i
  Some (record { txn_id = txn_id; outcome = outcome })
