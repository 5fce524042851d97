-- What a receiver writes as a call gives a delivery a state (OASIS AMQP 1.0, part 2, sections 2.6.12 and 2.7.6).
use Rattle.std.specs.Prelude.{◌≡◌, ◌⊎◌, ℕ, nat_eq, Bool, false, List, [], ◌∷◌, ◌++◌, Option, Some, None}
use Rattle.std.specs.Map.{lookup}
use Rattle.amqp_composites.specs.declared.modes.Role.TheVariants as role
use Rattle.amqp_termini.specs.declared.state.DeliveryState.{DeliveryState}
use Rattle.amqp_frames.specs.declared.body.FrameBody.{FrameBody}
use Rattle.amqp_frames.specs.declared.body.FrameBody.TheVariants as b
use Rattle.amqp_delivery.specs.Book.{found_in, view_of, mode_for, is_first}
use Rattle.amqp_delivery.specs.declared.info.DeliveryInfo.{DeliveryInfo}
use Rattle.amqp_link.specs.declared.error.IllegalLinkStateError.{IllegalLinkStateError}
use Rattle.amqp_link.specs.Link as link
use Rattle.amqp_delivery.specs.States.{accepted}
use Rattle.amqp_link_calls.specs.Called.{Called}
use Rattle.amqp_link_calls.specs.Side.{Receiver}
use Rattle.amqp_link_words.specs.declared.link_call.Disposal.TheVariants.{Accepted}
use Rattle.amqp_link_words.specs.declared.link_call.LinkCall.TheVariants as call
use Rattle.amqp_links.specs.declared.links.GivenDelivery.{GivenDelivery}
use Rattle.amqp_links.specs.Calling.{Calls}
use Rattle.amqp_links.specs.Parts.{Told, Frame}
use Rattle.amqp_links.specs.State.{State as Links, link_of}
use Rattle.amqp_receiver.specs.Disposing.{disposed}
use Rattle.amqp_receiver.specs.Receiver.{State, Made}

-- the call is refused, since the link is not attached or its session has stopped
pub record IsRefused (s : State) (m : Made) : Type 0 where
  pub error : IllegalLinkStateError
  pub why : link.disposal_refusal s.link ≡ Some error
  pub answer : m.answer ≡ Some error
  pub same : m.state ≡ s

-- the Disposition of one delivery
abbrev pub disposition_of : Bool → DeliveryInfo → DeliveryState → FrameBody
disposition_of settled info state =
    b.Disposition (record {
      role = role.Receiver;
      first = info.delivery_id;
      last = None;
      settled = settled;
      state = Some state;
      batchable = false;
    })

-- a delivery is settled as it is given a state in mode First (section 2.8.3)
abbrev pub is_settled : DeliveryInfo → State → Bool
is_settled info s = is_first (mode_for (view_of s.book s.link.own.handle) info)

-- a Disposition with the number of the delivery and that state is written, settled in mode First
pub record IsTold (info : DeliveryInfo) (state : DeliveryState) (s : State) (m : Made) : Type 0 where
  pub before : List FrameBody
  pub more : List FrameBody
  pub wrote : m.state.link.output ≡ s.link.output ++ (before ++ disposition_of (is_settled info s) info state ∷ more)

-- one of both, or no delivery of that tag is unsettled
abbrev pub IsDisposed : DeliveryInfo → DeliveryState → State → Made → Type 0
IsDisposed info state s m = IsRefused s m ⊎ ((found_in s.book info.delivery_tag ≡ None) ⊎ IsTold info state s m)

-- whatever delivery a receiver is asked to give whatever state
abbrev pub TellsWhatIsDisposed : Type 0
TellsWhatIsDisposed =
    (info : DeliveryInfo) (state : DeliveryState) (s : State) → IsDisposed info state s (disposed (info ∷ []) state s)

-- ---- among the links of an end

-- it is to be done on the session that such a Disposition goes out, by which the delivery is accepted (part 3, section
-- 3.4.2)
pub record IsWritten (session : ℕ) (info : DeliveryInfo) (s : State) (old new : Links) : Type 0 where
  pub before : List Told
  pub more : List Told
  pub output : new.output
      ≡ old.output ++ (before ++ Frame session (disposition_of (is_settled info s) info accepted) ∷ more)

-- the link takes no disposal, no delivery of that tag is unsettled, or it is told that it is accepted
abbrev pub IsAccepted : ℕ → DeliveryInfo → State → Links → Links → Type 0
IsAccepted session info s old new =
    ((error : IllegalLinkStateError) × (link.disposal_refusal s.link ≡ Some error))
    ⊎ ((found_in s.book info.delivery_tag ≡ None) ⊎ IsWritten session info s old new)

-- whenever a call accepts a delivery that a receiver has given
abbrev pub TellsWhatIsAccepted : Type 0
TellsWhatIsAccepted =
    (name receiver delivery : ℕ) (max : Option ℕ) (old new : Links) (l : Called) (s : State) (g : GivenDelivery)
    → Calls name (call.Dispose receiver Accepted (delivery ∷ [])) max old new
    → link_of receiver old ≡ Some l → l.side ≡ Receiver s → lookup (nat_eq delivery) old.deliveries ≡ Some g
    → IsAccepted l.session g.info s old new
