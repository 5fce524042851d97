-- A link endpoint with the calls that wait at it, as its rules see it (OASIS AMQP 1.0, part 2, section 2.6).
use Rattle.std.specs.Prelude.{◌≡◌, ℕ, nat_eq, Bool, true, false, not, ◌&&◌, is_some, is_none, List, [], ◌∷◌, ◌++◌, Option, Some, None}
use Rattle.std.specs.Map.{lookup}
use Rattle.amqp_composites.specs.declared.modes.Role.{Role}
use Rattle.amqp_composites.specs.declared.modes.Role.TheVariants as role
use Rattle.amqp_performatives.specs.declared.attach.Attach.{Attach}
use Rattle.amqp_frames.specs.declared.body.FrameBody.{FrameBody}
use Rattle.amqp_frames.specs.declared.shared.SessionStopReason.{SessionStopReason}
use Rattle.amqp_delivery.specs.declared.info.CreditMode.{CreditMode}
use Rattle.amqp_link.specs.declared.settings.AcceptSettings.{AcceptSettings}
use Rattle.amqp_link_words.specs.amqp_sender.declared.settings.SenderSettings.{SenderSettings}
use Rattle.amqp_link_words.specs.amqp_sender.Sender as sender
use Rattle.amqp_link_words.specs.amqp_receiver.declared.settings.ReceiverSettings.{ReceiverSettings}
use Rattle.amqp_link_words.specs.amqp_receiver.Receiver as receiver
use Rattle.amqp_link_words.specs.amqp_receiver.Regulating.{auto_accept_set}
use Rattle.amqp_link_words.specs.declared.link_reply.LinkReply.{LinkReply}
use Rattle.amqp_link_words.specs.declared.link_reply.NamedLinkReply.{NamedLinkReply}
use Rattle.amqp_link_calls.specs.declared.leave.Leaving.{Leaving}
use Rattle.amqp_link_calls.specs.declared.leave.Leaving.TheVariants.{Stays, Dropped}
use Rattle.amqp_link_calls.specs.declared.leave.WaitingPart.{WaitingPart}
use Rattle.amqp_link_calls.specs.Side as side
use Rattle.amqp_link_calls.specs.Side.{Side, Sender, Receiver}

-- the session, by the name of its call; the sender or receiver; the call that attaches the link and waits; whether the call that attached
-- or accepted it was answered that it is made; the calls that wait for outcomes, by the places of the deliveries; the call that leaves the
-- link and waits; whether a call has left it; whether its session is over; the answers of calls that have waited, which were not taken
pub record Called : Type 0 where
  pub session : ℕ
  pub side : Side
  pub attaching : Option ℕ
  pub is_made : Bool
  pub waiting : List (ℕ × ℕ)
  pub parting : Option WaitingPart
  pub leaving : Leaving
  pub is_concluded : Bool
  pub answers : List NamedLinkReply

abbrev pub begun : ℕ → Side → Option ℕ → Called
begun session s attaching = record { session = session; side = s; attaching = attaching; is_made = false; waiting = []; parting = None; leaving = Stays; is_concluded = false; answers = [] }

-- a call attaches a sender, and waits
abbrev pub sender_asked : ℕ → ℕ → SenderSettings → ℕ → Called
sender_asked name session settings handle = begun session (Sender (sender.asked settings handle)) (Some name)

-- a call attaches a receiver, and waits
abbrev pub receiver_asked : ℕ → ℕ → ReceiverSettings → ℕ → Called
receiver_asked name session settings handle = begun session (Receiver (receiver.asked settings handle)) (Some name)

-- the end that answers the Attach of an end of that role
abbrev pub answering_side : Role → AcceptSettings → CreditMode → Bool → ℕ → Attach → Side
answering_side role.Sender settings credit_mode auto_accept handle x =
    Receiver (auto_accept_set auto_accept (receiver.accepted settings credit_mode handle x))
answering_side role.Receiver settings credit_mode auto_accept handle x = Sender (sender.accepted settings handle x)

abbrev pub accepted : ℕ → AcceptSettings → CreditMode → Bool → ℕ → Attach → Called
accepted session settings credit_mode auto_accept handle x =
    begun session (answering_side x.role settings credit_mode auto_accept handle x) None

-- the link takes no call but for outcomes while one waits that leaves it, and none once it was left
abbrev pub stays : Leaving → Bool
stays Stays = true
stays other = false

abbrev pub is_dropped : Leaving → Bool
is_dropped Dropped = true
is_dropped other = false

abbrev pub takes_calls : Called → Bool
takes_calls s = s.is_made && stays s.leaving && is_none s.parting

-- one that was detached may still be abandoned
abbrev pub may_abandon : Called → Bool
may_abandon s = s.is_made && not (is_dropped s.leaving) && is_none s.parting

abbrev pub with_side : Side → Called → Called
with_side t s = record s { side = t }

-- a call that has waited is answered
abbrev pub answering : ℕ → LinkReply → Called → Called
answering name reply s = record s { answers = s.answers ++ record { name = name; reply = reply } ∷ [] }

-- a call waits for the outcome of the delivery at that place
abbrev pub is_awaited : ℕ → Called → Bool
is_awaited place s = is_some (lookup (nat_eq place) s.waiting)

abbrev pub is_call : ℕ → Option ℕ → Bool
is_call name None = false
is_call name (Some other) = nat_eq other name

-- the call of that name does
abbrev pub awaits_outcome : ℕ → ℕ → Called → Bool
awaits_outcome name place s = is_call name (lookup (nat_eq place) s.waiting)

abbrev pub stopped : SessionStopReason → Called → Called
stopped why s = with_side (side.stopped why s.side) s

abbrev pub TakesFrame : Called → Option FrameBody → Called → Type 0
TakesFrame old x new = side.TakesFrame old.side x new.side × (new ≡ with_side new.side old)
