-- What a sender and a receiver make of their links (OASIS AMQP 1.0, part 2, section 2.6).
use Rattle.std.specs.Prelude.{◌≡◌, ℕ, Bool, List, Option}
use Rattle.amqp_delivery.specs.declared.info.DeliveryInfo.{DeliveryInfo}
use Rattle.amqp_delivery.specs.declared.info.DisposerView.{DisposerView}
use Rattle.amqp_link.specs.amqp_frames.amqp_termini.declared.state.DeliveryState.{DeliveryState}
use Rattle.amqp_link.specs.amqp_frames.declared.shared.CoveredDelivery.{CoveredDelivery}
use Rattle.amqp_link.specs.amqp_performatives.declared.attach.Attach.{Attach}
use Rattle.amqp_link.specs.amqp_performatives.declared.flow.Flow.{Flow}
use Rattle.amqp_link.specs.amqp_performatives.declared.transfer.Transfer.{Transfer}
use Rattle.amqp_link.specs.Link.{Link}
use Rattle.amqp_receiver.specs.AutoAccept as accepting
use Rattle.amqp_receiver.specs.Disposing as disposing
use Rattle.amqp_receiver.specs.Receiver as receiver
use Rattle.amqp_receiver.specs.Receiving as receiving
use Rattle.amqp_receiver.specs.Regulating as regulating
use Rattle.amqp_sender.specs.Sender as sender
use Rattle.amqp_sender.specs.Sending as sending
use Rattle.amqp_sender.specs.Settling as settling
use Rattle.crossing_laws.specs.Lives.{Move, after_all}

-- the link goes from the one to the other by moves
abbrev pub Moves : Link → Link → Type 0
Moves l n = (ls : List Move) × (n ≡ after_all l ls)

-- what each call on a sender makes of its link, and each frame that it reads by a rule of its own
pub record SenderMovesItsLink : Type 0 where
  pub sends :
      (payload : List ℕ) (format : ℕ) (wanted : Option Bool) (batchable : Bool) (s : sender.State)
      → Moves s.link (sending.sending payload format wanted batchable s).state.link
  pub hears_flow : (x : Flow) (s : sender.State) → Moves s.link (sending.flow_read x s).link
  pub hears_disposition :
      (covered : CoveredDelivery) (settled : Bool) (x : Option DeliveryState) (s : sender.State)
      → Moves s.link (settling.disposition_read covered settled x s).link

-- and that of a receiver
pub record ReceiverMovesItsLink : Type 0 where
  pub receives : (s : receiver.State) → Moves s.link (receiving.received s).state.link
  pub accepts : (info : DeliveryInfo) (s : receiver.State) → Moves s.link (accepting.auto_accepted info s).link
  pub disposes :
      (view : DisposerView) (infos : List DeliveryInfo) (state : DeliveryState) (s : receiver.State)
      → Moves s.link (disposing.disposed_by view infos state s).state.link
  pub sets_credit : (credit : ℕ) (s : receiver.State) → Moves s.link (receiver.credit_set credit s).state.link
  pub drains : (s : receiver.State) → Moves s.link (regulating.drain_asked s).state.link
  pub tells_properties : (s : receiver.State) → Moves s.link (regulating.properties_told s).state.link
  pub hears_attach : (x : Attach) (s : receiver.State) → Moves s.link (receiver.attach_read x s).link
  pub hears_flow : (x : Flow) (s : receiver.State) → Moves s.link (receiver.flow_read x s).link
  pub hears_transfer :
      (x : Transfer) (payload : List ℕ) (s : receiver.State) → Moves s.link (receiver.transfer_read x payload s).link
  pub hears_disposition :
      (covered : CoveredDelivery) (settled : Bool) (s : receiver.State)
      → Moves s.link (receiving.disposition_read covered settled s).link
