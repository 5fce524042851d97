-- What a call begins a connection with (OASIS AMQP 1.0, part 2, section 2.7.1).
use Rattle.std.specs.Prelude.{ℕ, List, ◌/◌, max, Option, Some, None}
use Rattle.amqp_composites.specs.declared.error.Error.{Error as AmqpError}
use Rattle.amqp_performatives.specs.declared.open.Open.{Open}
use Rattle.amqp_engine.specs.declared.connection.EndKind.TheVariants.{Client, Listener}
use Rattle.amqp_opening.specs.declared.acceptor.AcceptSasl.{AcceptSasl}
use Rattle.amqp_opening.specs.declared.authentication.SaslCall.{SaslCall}
use Rattle.amqp_opening.specs.declared.authentication.SaslCall.TheVariants as layer
use Rattle.sasl_exchange.specs.declared.profile.SaslProfile.{SaslProfile}
use Rattle.amqp_words.specs.declared.call.Call.{Call}
use Rattle.amqp_words.specs.declared.call.Call.TheVariants as call
use Rattle.amqp_words.specs.declared.call.ConnectionSettings.{ConnectionSettings}
use Rattle.amqp_peer.specs.declared.prepared.Prepared.{Prepared}

abbrev pub half_of : Option ℕ → Option ℕ
half_of None = None
half_of (Some idle) = Some (idle / 2)

-- what an end says of itself: no limit is below 512
abbrev pub own_open : ConnectionSettings → Option ℕ → Open
own_open s announced = record {
  container_id = s.container_id;
  hostname = s.hostname;
  max_frame_size = max 512 s.max_frame_size;
  channel_max = s.channel_max;
  idle_time_out = announced;
  outgoing_locales = None;
  incoming_locales = None;
  offered_capabilities = None;
  desired_capabilities = None;
  properties = None;
}

-- a client announces half of its idle time (section 2.4.5)
abbrev pub client_prepared : ConnectionSettings → Prepared
client_prepared s = record { end = Client (record { local_open = own_open s (half_of s.idle_time_out) }); idle = s.idle_time_out }

abbrev pub listener_prepared : ConnectionSettings → Prepared
listener_prepared s = record { end = Listener (record { local_open = own_open s s.idle_time_out }); idle = s.idle_time_out }

-- what a call begins a connection with
abbrev pub prepared_of : Call → Option Prepared
prepared_of (call.Open settings host sasl) = Some (client_prepared settings)
prepared_of (call.Accept settings sasl) = Some (listener_prepared settings)
prepared_of (call.Close error) = None

abbrev pub client_sasl : Option SaslProfile → Option (List ℕ) → Option SaslCall
client_sasl None host = None
client_sasl (Some profile) host = Some (layer.Client profile host)

abbrev pub listener_sasl : Option AcceptSasl → Option SaslCall
listener_sasl None = None
listener_sasl (Some acceptor) = Some (layer.Listener acceptor)

-- and its SASL layer, if it has one
abbrev pub sasl_of : Call → Option SaslCall
sasl_of (call.Open settings host sasl) = client_sasl sasl host
sasl_of (call.Accept settings sasl) = listener_sasl sasl
sasl_of (call.Close error) = None

-- the error of a Close that is called with a condition (section 2.7.9)
abbrev pub error_for : Option (List ℕ) → Option AmqpError
error_for None = None
error_for (Some condition) = Some (record { condition = condition; description = None; info = None })
