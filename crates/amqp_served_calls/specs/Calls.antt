-- The calls that an end makes.
use Rattle.std.specs.Prelude.{◌≡◌, List, ℕ, [], ◌∷◌, true, false, Option, Some, None, codes}
use Rattle.amqp_calls.specs.declared.call.Call.{Call}
use Rattle.amqp_calls.specs.declared.call.Call.TheVariants.{Connection, Session, Link}
use Rattle.amqp_calls.specs.declared.call.SessionCall.TheVariants.{Begin, Accept as AcceptSession, End}
use Rattle.amqp_calls.specs.declared.call.SessionNumbers.{SessionNumbers}
use Rattle.amqp_composites.specs.declared.modes.ReceiverSettleMode.TheVariants.{First}
use Rattle.amqp_composites.specs.declared.modes.SenderSettleMode.TheVariants.{Mixed}
use Rattle.amqp_delivery.specs.declared.info.CreditMode.TheVariants.{Manual, Auto}
use Rattle.amqp_data.specs.Data.{scalar, string}
use Rattle.amqp_link_words.specs.declared.link_call.Sendable.{Sendable}
use Rattle.amqp_messages.specs.Message.{one_value, only_body}
use Rattle.amqp_messages.specs.Writing.{message_items}
use Rattle.amqp_value.specs.Canonical.{canonical_items}
use Rattle.amqp_link_words.specs.declared.link_call.Disposal.TheVariants.{Accepted}
use Rattle.amqp_link_words.specs.declared.link_call.LinkCall.TheVariants as link
use Rattle.amqp_link_words.specs.declared.link_call.Parting.TheVariants as parting
use Rattle.amqp_opening.specs.declared.acceptor.AcceptSasl.TheVariants.{Anonymous}
use Rattle.amqp_words.specs.declared.call.Call.TheVariants.{Open, Accept, Close}
use Rattle.amqp_words.specs.declared.call.ConnectionSettings.{ConnectionSettings}
use Rattle.sasl_exchange.specs.declared.profile.SaslProfile.{SaslProfile}

-- what an end says of itself as its connection begins
abbrev pub settings_with : Option (List ℕ) → Option ℕ → ConnectionSettings
settings_with host idle = record { container_id = codes "amqp_run"; hostname = host; max_frame_size = 262144; channel_max = 255; idle_time_out = idle }

-- the client opens the connection, the listener accepts it from anyone, either closes it
abbrev pub open_call : Option (List ℕ) → Option ℕ → Option SaslProfile → Call
open_call host idle sasl = Connection (Open (settings_with host idle) None sasl)

abbrev pub accept_call : Call
accept_call = Connection (Accept (settings_with None None) (Some Anonymous))

abbrev pub close_call : Call
close_call = Connection (Close None)

-- what an end says of itself as a session begins
abbrev pub own_numbers : SessionNumbers
own_numbers = record { next_outgoing_id = 0; incoming_window = 2048; outgoing_window = 2048; handle_max = 255 }

abbrev pub begin_call : Call
begin_call = Session (Begin own_numbers)

abbrev pub accept_session_call : Call
accept_session_call = Session (AcceptSession own_numbers)

abbrev pub end_call : ℕ → Call
end_call session = Session (End session None)

-- the client attaches a sender to that address, or a receiver, which is given credit by calls alone
abbrev pub sender_call : ℕ → List ℕ → Call
sender_call session address = Link (link.Sender session (record { name = codes "amqp_run-sender"; source = None; target = Some address; dynamic = false; snd_settle_mode = Mixed; rcv_settle_mode = First; max_message_size = None; initial_delivery_count = 0; verify = false }))

abbrev pub receiver_call : ℕ → List ℕ → Call
receiver_call session address = Link (link.Receiver session (record { name = codes "amqp_run-receiver"; source = Some address; target = None; dynamic = false; snd_settle_mode = Mixed; rcv_settle_mode = First; max_message_size = None; credit_mode = Manual; auto_accept = false; verify = false }))

-- the listener accepts a link, to which it gives credit again and again
abbrev pub accept_link_call : ℕ → Call
accept_link_call session = Link (link.Accept session (record { max_message_size = None; initial_delivery_count = 0; dynamic_address = None }) (Auto 1000) false)

abbrev pub outcome_call : ℕ → Call
outcome_call sent = Link (link.Outcome sent)

abbrev pub recv_call : ℕ → Call
recv_call receiver = Link (link.Recv receiver)

abbrev pub set_credit_call : ℕ → ℕ → Call
set_credit_call receiver credit = Link (link.SetCredit receiver credit)

-- the bytes of a message with that string (OASIS AMQP 1.0, part 3, section 3.2)
unfoldable pub string_message : List ℕ → List ℕ
string_message text = canonical_items (message_items (only_body (one_value (scalar (string text)))))

-- such a message, which is not sent settled of itself
pub record IsStringMessage (text : List ℕ) (m : Sendable) : Type 0 where
  pub bytes : m.payload ≡ string_message text
  pub body : m.has_body ≡ true
  pub settled : m.settled ≡ None
  pub batchable : m.batchable ≡ false

-- that message is sent, and its outcome asked for
abbrev pub send_call : ℕ → Sendable → Call
send_call sender message = Link (link.Send sender message)

-- the delivery that this call gave is accepted
abbrev pub accept_delivery_call : ℕ → ℕ → Call
accept_delivery_call receiver delivery = Link (link.Dispose receiver Accepted (delivery ∷ []))

-- the link is closed
abbrev pub close_link_call : ℕ → Call
close_link_call l = Link (link.Part l (parting.Close None))
