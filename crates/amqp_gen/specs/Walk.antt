-- The steps by which two ends come to a link on which the client sends, as the words of a script say them.
use Rattle.std.specs.Prelude.{List, ℕ, [], ◌∷◌, ◌++◌, None, Some, true, false, codes}
use Rattle.amqp_calls.specs.declared.call.SessionCall.TheVariants as session
use Rattle.amqp_calls.specs.declared.call.SessionNumbers.{SessionNumbers}
use Rattle.amqp_calls.specs.declared.step.Act.TheVariants.{TakeAll}
use Rattle.amqp_calls.specs.declared.step.Step.{Step}
use Rattle.amqp_composites.specs.declared.modes.ReceiverSettleMode.TheVariants.{First}
use Rattle.amqp_composites.specs.declared.modes.SenderSettleMode.TheVariants.{Mixed}
use Rattle.amqp_delivery.specs.declared.info.CreditMode.TheVariants.{Auto}
use Rattle.amqp_link.specs.declared.settings.AcceptSettings.{AcceptSettings}
use Rattle.amqp_link_words.specs.declared.link_call.LinkCall.{LinkCall}
use Rattle.amqp_link_words.specs.declared.link_call.LinkCall.TheVariants as link
use Rattle.amqp_sender.specs.declared.settings.SenderSettings.{SenderSettings}
use Rattle.amqp_words.specs.declared.call.Call.{Call as ConnectionCall}
use Rattle.amqp_words.specs.declared.call.Call.TheVariants.{Open, Accept}
use Rattle.amqp_words.specs.declared.call.ConnectionSettings.{ConnectionSettings}
use Rattle.amqp_words.specs.declared.step.End.TheVariants.{Client, Listener}
use Rattle.amqp_gen.specs.Step.{step_of, connection_step, session_step, link_step}

-- what an end of that id says of itself (OASIS AMQP 1.0, part 2, section 2.7.1)
abbrev pub settings_of : List ℕ → ConnectionSettings
settings_of id = record { container_id = id; hostname = None; max_frame_size = 262144; channel_max = 255; idle_time_out = None }

-- `open id=c`: with no SASL layer
abbrev pub opened : ConnectionCall
opened = Open (settings_of (codes "c")) None None

-- `accept id=l`
abbrev pub accepted : ConnectionCall
accepted = Accept (settings_of (codes "l")) None

-- what an end says of its session (part 2, section 2.7.2)
abbrev pub numbers : SessionNumbers
numbers = record { next_outgoing_id = 0; incoming_window = 2048; outgoing_window = 2048; handle_max = 255 }

-- what the sender says of itself (part 2, section 2.7.3)
abbrev pub sender_settings : SenderSettings
sender_settings = record {
  name = codes "s";
  source = None;
  target = Some (codes "q1");
  dynamic = false;
  snd_settle_mode = Mixed;
  rcv_settle_mode = First;
  max_message_size = None;
  initial_delivery_count = 0;
  verify = true;
}

-- what the receiver says of itself
abbrev pub accept_settings : AcceptSettings
accept_settings = record { max_message_size = None; initial_delivery_count = 0; dynamic_address = None }

-- `accept_link 6`: credit 200 again and again, and nothing is accepted by itself
abbrev pub attached : LinkCall
attached = link.Accept 6 accept_settings (Auto 200) false

-- the listener, and then the client, takes all that the other has written
abbrev pub taken_on : List Step
taken_on = step_of Listener TakeAll ∷ step_of Client TakeAll ∷ []

-- the connection is opened
abbrev pub connected : List Step
connected = connection_step Client opened ∷ connection_step Listener accepted ∷ step_of Client TakeAll ∷ taken_on

-- a session is begun
abbrev pub begun : List Step
begun = session_step Client (session.Begin numbers) ∷ session_step Listener (session.Accept numbers) ∷ taken_on

-- `sender 5 name=s target=q1`: the link is attached
abbrev pub linked : List Step
linked = link_step Client (link.Sender 5 sender_settings) ∷ link_step Listener attached ∷ taken_on

-- the steps 0 to 12
abbrev pub walk : List Step
walk = connected ++ begun ++ linked
