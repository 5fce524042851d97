-- Equality of termini and states tells which are the same.
use Rattle.std.proofs.Common.{◌≡◌, true, List, refl, ap}
use Rattle.std.specs.Bool.{Decides}
use Rattle.std.specs.Cmp.{unsigned_Decides, booleans_Decides}
use Rattle.std.specs.Cmp.Lexicographic.{pointwise, pointwise_decides}
use Rattle.std.proofs.lemmas.Slice.Eq.{bytes_eq-Decides}
pub use Rattle.amqp_text.specs.Bytes.{lists_decide}
use Rattle.amqp_composites.specs.amqp_data.SameLaws.{same_pairs_decides}
use Rattle.amqp_composites.proofs.Same.{decides_by, same_options, first_so, second_so, error_decides}
use Rattle.amqp_termini.specs.declared.states.Received.{Received}
use Rattle.amqp_termini.specs.declared.states.Accepted.{Accepted}
use Rattle.amqp_termini.specs.declared.states.Rejected.{Rejected}
use Rattle.amqp_termini.specs.declared.states.Released.{Released}
use Rattle.amqp_termini.specs.declared.states.Modified.{Modified}
use Rattle.amqp_termini.specs.declared.states.Declared.{Declared}
use Rattle.amqp_termini.specs.declared.outcome.Outcome.{Outcome}
use Rattle.amqp_termini.specs.declared.outcome.Outcome.TheVariants as outcomes
use Rattle.amqp_termini.specs.declared.transactional.TransactionalState.{TransactionalState}
use Rattle.amqp_termini.specs.declared.state.DeliveryState.{DeliveryState}
use Rattle.amqp_termini.specs.declared.state.DeliveryState.TheVariants as states
use Rattle.amqp_termini.specs.declared.terminal_state.TerminalDeliveryState.{TerminalDeliveryState}
use Rattle.amqp_termini.specs.declared.terminal_state.TerminalDeliveryState.TheVariants as terminals
use Rattle.amqp_termini.specs.declared.source.Source.{Source}
use Rattle.amqp_termini.specs.declared.target.Target.{Target}
use Rattle.amqp_termini.specs.declared.target.Coordinator.{Coordinator}
use Rattle.amqp_termini.specs.declared.target_archetype.TargetArchetype.{TargetArchetype}
use Rattle.amqp_termini.specs.declared.target_archetype.TargetArchetype.TheVariants as targets
use Rattle.amqp_termini.specs.declared.unsettled.UnsettledDelivery.{UnsettledDelivery}
use Rattle.amqp_termini.specs.contracts.states.ReceivedPartialEq.TheImpl as received_eq
use Rattle.amqp_termini.specs.contracts.states.ReceivedEq.TheImpl.Laws as received_laws
use Rattle.amqp_termini.specs.contracts.states.AcceptedPartialEq.TheImpl as accepted_eq
use Rattle.amqp_termini.specs.contracts.states.AcceptedEq.TheImpl.Laws as accepted_laws
use Rattle.amqp_termini.specs.contracts.states.RejectedPartialEq.TheImpl as rejected_eq
use Rattle.amqp_termini.specs.contracts.states.RejectedEq.TheImpl.Laws as rejected_laws
use Rattle.amqp_termini.specs.contracts.states.ReleasedPartialEq.TheImpl as released_eq
use Rattle.amqp_termini.specs.contracts.states.ReleasedEq.TheImpl.Laws as released_laws
use Rattle.amqp_termini.specs.contracts.states.ModifiedPartialEq.TheImpl as modified_eq
use Rattle.amqp_termini.specs.contracts.states.ModifiedEq.TheImpl.Laws as modified_laws
use Rattle.amqp_termini.specs.contracts.states.DeclaredPartialEq.TheImpl as declared_eq
use Rattle.amqp_termini.specs.contracts.states.DeclaredEq.TheImpl.Laws as declared_laws
use Rattle.amqp_termini.specs.contracts.outcome.OutcomePartialEq.TheImpl as outcome_eq
use Rattle.amqp_termini.specs.contracts.outcome.OutcomeEq.TheImpl.Laws as outcome_laws
use Rattle.amqp_termini.specs.contracts.transactional.TransactionalStatePartialEq.TheImpl as transactional_eq
use Rattle.amqp_termini.specs.contracts.transactional.TransactionalStateEq.TheImpl.Laws as transactional_laws
use Rattle.amqp_termini.specs.contracts.state.DeliveryStatePartialEq.TheImpl as state_eq
use Rattle.amqp_termini.specs.contracts.state.DeliveryStateEq.TheImpl.Laws as state_laws
use Rattle.amqp_termini.specs.contracts.terminal_state.TerminalDeliveryStatePartialEq.TheImpl as terminal_state_eq
use Rattle.amqp_termini.specs.contracts.terminal_state.TerminalDeliveryStateEq.TheImpl.Laws as terminal_state_laws
use Rattle.amqp_termini.specs.contracts.source.SourcePartialEq.TheImpl as source_eq
use Rattle.amqp_termini.specs.contracts.source.SourceEq.TheImpl.Laws as source_laws
use Rattle.amqp_termini.specs.contracts.target.TargetPartialEq.TheImpl as target_eq
use Rattle.amqp_termini.specs.contracts.target.TargetEq.TheImpl.Laws as target_laws
use Rattle.amqp_termini.specs.contracts.target.CoordinatorPartialEq.TheImpl as coordinator_eq
use Rattle.amqp_termini.specs.contracts.target.CoordinatorEq.TheImpl.Laws as coordinator_laws
use Rattle.amqp_termini.specs.contracts.target_archetype.TargetArchetypePartialEq.TheImpl as archetype_eq
use Rattle.amqp_termini.specs.contracts.target_archetype.TargetArchetypeEq.TheImpl.Laws as archetype_laws
use Rattle.amqp_termini.specs.contracts.unsettled.UnsettledDeliveryPartialEq.TheImpl as delivery_eq
use Rattle.amqp_termini.specs.contracts.unsettled.UnsettledDeliveryEq.TheImpl.Laws as delivery_laws

-- ---- states

received_same : (x y : Received) → received_eq.ghosts.eq x y ≡ true → x ≡ y
received_same x y e0 =
    let section_number = (unsigned_Decides x.section_number y.section_number).0 (first_so _ _ e0) in
    let section_offset = (unsigned_Decides x.section_offset y.section_offset).0 (second_so _ _ e0) in
    λ i. record { section_number = section_number i; section_offset = section_offset i }

pub received_decides : (x y : Received) → Decides (received_eq.ghosts.eq x y) (x ≡ y)
received_decides = decides_by received_laws.laws-law received_same

accepted_same : (x y : Accepted) → accepted_eq.ghosts.eq x y ≡ true → x ≡ y
accepted_same x y e = refl

pub accepted_decides : (x y : Accepted) → Decides (accepted_eq.ghosts.eq x y) (x ≡ y)
accepted_decides = decides_by accepted_laws.laws-law accepted_same

rejected_same : (x y : Rejected) → rejected_eq.ghosts.eq x y ≡ true → x ≡ y
rejected_same x y e0 =
    let error = same_options error_decides x.error y.error e0 in
    λ i. record { error = error i }

pub rejected_decides : (x y : Rejected) → Decides (rejected_eq.ghosts.eq x y) (x ≡ y)
rejected_decides = decides_by rejected_laws.laws-law rejected_same

released_same : (x y : Released) → released_eq.ghosts.eq x y ≡ true → x ≡ y
released_same x y e = refl

pub released_decides : (x y : Released) → Decides (released_eq.ghosts.eq x y) (x ≡ y)
released_decides = decides_by released_laws.laws-law released_same

modified_same : (x y : Modified) → modified_eq.ghosts.eq x y ≡ true → x ≡ y
modified_same x y e0 =
    let delivery_failed = same_options booleans_Decides x.delivery_failed y.delivery_failed (first_so _ _ e0) in
    let e1 = second_so _ _ e0 in
    let undeliverable_here = same_options booleans_Decides x.undeliverable_here y.undeliverable_here (first_so _ _ e1) in
    let message_annotations = same_options same_pairs_decides x.message_annotations y.message_annotations (second_so _ _ e1) in
    λ i. record { delivery_failed = delivery_failed i; undeliverable_here = undeliverable_here i; message_annotations = message_annotations i }

pub modified_decides : (x y : Modified) → Decides (modified_eq.ghosts.eq x y) (x ≡ y)
modified_decides = decides_by modified_laws.laws-law modified_same

declared_same : (x y : Declared) → declared_eq.ghosts.eq x y ≡ true → x ≡ y
declared_same x y e0 =
    let txn_id = (bytes_eq-Decides x.txn_id y.txn_id).0 e0 in
    λ i. record { txn_id = txn_id i }

pub declared_decides : (x y : Declared) → Decides (declared_eq.ghosts.eq x y) (x ≡ y)
declared_decides = decides_by declared_laws.laws-law declared_same

outcome_same : (x y : Outcome) → outcome_eq.ghosts.eq x y ≡ true → x ≡ y
outcome_same (outcomes.Accepted a) (outcomes.Accepted b) e = ap outcomes.Accepted ((accepted_decides a b).0 e)
outcome_same (outcomes.Rejected a) (outcomes.Rejected b) e = ap outcomes.Rejected ((rejected_decides a b).0 e)
outcome_same (outcomes.Released a) (outcomes.Released b) e = ap outcomes.Released ((released_decides a b).0 e)
outcome_same (outcomes.Modified a) (outcomes.Modified b) e = ap outcomes.Modified ((modified_decides a b).0 e)
outcome_same (outcomes.Declared a) (outcomes.Declared b) e = ap outcomes.Declared ((declared_decides a b).0 e)
outcome_same x y e = absurd cc

pub outcome_decides : (x y : Outcome) → Decides (outcome_eq.ghosts.eq x y) (x ≡ y)
outcome_decides = decides_by outcome_laws.laws-law outcome_same

transactional_same : (x y : TransactionalState) → transactional_eq.ghosts.eq x y ≡ true → x ≡ y
transactional_same x y e0 =
    let txn_id = (bytes_eq-Decides x.txn_id y.txn_id).0 (first_so _ _ e0) in
    let outcome = same_options outcome_decides x.outcome y.outcome (second_so _ _ e0) in
    λ i. record { txn_id = txn_id i; outcome = outcome i }

pub transactional_decides : (x y : TransactionalState) → Decides (transactional_eq.ghosts.eq x y) (x ≡ y)
transactional_decides = decides_by transactional_laws.laws-law transactional_same

state_same : (x y : DeliveryState) → state_eq.ghosts.eq x y ≡ true → x ≡ y
state_same (states.Received a) (states.Received b) e = ap states.Received ((received_decides a b).0 e)
state_same (states.Accepted a) (states.Accepted b) e = ap states.Accepted ((accepted_decides a b).0 e)
state_same (states.Rejected a) (states.Rejected b) e = ap states.Rejected ((rejected_decides a b).0 e)
state_same (states.Released a) (states.Released b) e = ap states.Released ((released_decides a b).0 e)
state_same (states.Modified a) (states.Modified b) e = ap states.Modified ((modified_decides a b).0 e)
state_same (states.Declared a) (states.Declared b) e = ap states.Declared ((declared_decides a b).0 e)
state_same (states.TransactionalState a) (states.TransactionalState b) e = ap states.TransactionalState ((transactional_decides a b).0 e)
state_same x y e = absurd cc

pub state_decides : (x y : DeliveryState) → Decides (state_eq.ghosts.eq x y) (x ≡ y)
state_decides = decides_by state_laws.laws-law state_same

terminal_state_same : (x y : TerminalDeliveryState) → terminal_state_eq.ghosts.eq x y ≡ true → x ≡ y
terminal_state_same (terminals.Accepted a) (terminals.Accepted b) e = ap terminals.Accepted ((accepted_decides a b).0 e)
terminal_state_same (terminals.Rejected a) (terminals.Rejected b) e = ap terminals.Rejected ((rejected_decides a b).0 e)
terminal_state_same (terminals.Released a) (terminals.Released b) e = ap terminals.Released ((released_decides a b).0 e)
terminal_state_same (terminals.Modified a) (terminals.Modified b) e = ap terminals.Modified ((modified_decides a b).0 e)
terminal_state_same x y e = absurd cc

pub terminal_state_decides : (x y : TerminalDeliveryState) → Decides (terminal_state_eq.ghosts.eq x y) (x ≡ y)
terminal_state_decides = decides_by terminal_state_laws.laws-law terminal_state_same

-- ---- termini

source_same : (x y : Source) → source_eq.ghosts.eq x y ≡ true → x ≡ y
source_same x y e0 =
    let address = same_options bytes_eq-Decides x.address y.address (first_so _ _ e0) in
    let e1 = second_so _ _ e0 in
    let durable = (unsigned_Decides x.durable y.durable).0 (first_so _ _ e1) in
    let e2 = second_so _ _ e1 in
    let expiry_policy = (bytes_eq-Decides x.expiry_policy y.expiry_policy).0 (first_so _ _ e2) in
    let e3 = second_so _ _ e2 in
    let timeout = (unsigned_Decides x.timeout y.timeout).0 (first_so _ _ e3) in
    let e4 = second_so _ _ e3 in
    let dynamic = (booleans_Decides x.dynamic y.dynamic).0 (first_so _ _ e4) in
    let e5 = second_so _ _ e4 in
    let dynamic_node_properties = same_options same_pairs_decides x.dynamic_node_properties y.dynamic_node_properties (first_so _ _ e5) in
    let e6 = second_so _ _ e5 in
    let distribution_mode = same_options bytes_eq-Decides x.distribution_mode y.distribution_mode (first_so _ _ e6) in
    let e7 = second_so _ _ e6 in
    let filter = same_options same_pairs_decides x.filter y.filter (first_so _ _ e7) in
    let e8 = second_so _ _ e7 in
    let default_outcome = same_options outcome_decides x.default_outcome y.default_outcome (first_so _ _ e8) in
    let e9 = second_so _ _ e8 in
    let outcomes = same_options lists_decide x.outcomes y.outcomes (first_so _ _ e9) in
    let capabilities = same_options lists_decide x.capabilities y.capabilities (second_so _ _ e9) in
    λ i. record { address = address i; durable = durable i; expiry_policy = expiry_policy i; timeout = timeout i; dynamic = dynamic i; dynamic_node_properties = dynamic_node_properties i; distribution_mode = distribution_mode i; filter = filter i; default_outcome = default_outcome i; outcomes = outcomes i; capabilities = capabilities i }

pub source_decides : (x y : Source) → Decides (source_eq.ghosts.eq x y) (x ≡ y)
source_decides = decides_by source_laws.laws-law source_same

target_same : (x y : Target) → target_eq.ghosts.eq x y ≡ true → x ≡ y
target_same x y e0 =
    let address = same_options bytes_eq-Decides x.address y.address (first_so _ _ e0) in
    let e1 = second_so _ _ e0 in
    let durable = (unsigned_Decides x.durable y.durable).0 (first_so _ _ e1) in
    let e2 = second_so _ _ e1 in
    let expiry_policy = (bytes_eq-Decides x.expiry_policy y.expiry_policy).0 (first_so _ _ e2) in
    let e3 = second_so _ _ e2 in
    let timeout = (unsigned_Decides x.timeout y.timeout).0 (first_so _ _ e3) in
    let e4 = second_so _ _ e3 in
    let dynamic = (booleans_Decides x.dynamic y.dynamic).0 (first_so _ _ e4) in
    let e5 = second_so _ _ e4 in
    let dynamic_node_properties = same_options same_pairs_decides x.dynamic_node_properties y.dynamic_node_properties (first_so _ _ e5) in
    let capabilities = same_options lists_decide x.capabilities y.capabilities (second_so _ _ e5) in
    λ i. record { address = address i; durable = durable i; expiry_policy = expiry_policy i; timeout = timeout i; dynamic = dynamic i; dynamic_node_properties = dynamic_node_properties i; capabilities = capabilities i }

pub target_decides : (x y : Target) → Decides (target_eq.ghosts.eq x y) (x ≡ y)
target_decides = decides_by target_laws.laws-law target_same

coordinator_same : (x y : Coordinator) → coordinator_eq.ghosts.eq x y ≡ true → x ≡ y
coordinator_same x y e0 =
    let capabilities = same_options lists_decide x.capabilities y.capabilities e0 in
    λ i. record { capabilities = capabilities i }

pub coordinator_decides : (x y : Coordinator) → Decides (coordinator_eq.ghosts.eq x y) (x ≡ y)
coordinator_decides = decides_by coordinator_laws.laws-law coordinator_same

archetype_same : (x y : TargetArchetype) → archetype_eq.ghosts.eq x y ≡ true → x ≡ y
archetype_same (targets.Target a) (targets.Target b) e = ap targets.Target ((target_decides a b).0 e)
archetype_same (targets.Coordinator a) (targets.Coordinator b) e = ap targets.Coordinator ((coordinator_decides a b).0 e)
archetype_same x y e = absurd cc

pub archetype_decides : (x y : TargetArchetype) → Decides (archetype_eq.ghosts.eq x y) (x ≡ y)
archetype_decides = decides_by archetype_laws.laws-law archetype_same

-- ---- deliveries that are not settled

delivery_same : (x y : UnsettledDelivery) → delivery_eq.ghosts.eq x y ≡ true → x ≡ y
delivery_same x y e0 =
    let delivery_tag = (bytes_eq-Decides x.delivery_tag y.delivery_tag).0 (first_so _ _ e0) in
    let state = same_options state_decides x.state y.state (second_so _ _ e0) in
    λ i. record { delivery_tag = delivery_tag i; state = state i }

pub delivery_decides : (x y : UnsettledDelivery) → Decides (delivery_eq.ghosts.eq x y) (x ≡ y)
delivery_decides = decides_by delivery_laws.laws-law delivery_same

pub unsettled_decides : (x y : List UnsettledDelivery) → Decides (pointwise delivery_eq.ghosts.eq x y) (x ≡ y)
unsettled_decides = pointwise_decides delivery_decides
