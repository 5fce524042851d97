-- What an end is never answered whose peer is another end like it (OASIS AMQP 1.0, part 2, section 2.4): what the other says is
-- frames of this type whose bodies can be read, in their order.
use Rattle.std.specs.Prelude.{List, [], ◌∷◌, ⊤}
use Rattle.amqp_transport.specs.declared.transport.Error.{Error as TransportFault}
use Rattle.amqp_transport.specs.declared.transport.Error.TheVariants as fault
use Rattle.amqp_engine.specs.declared.error.Error.{Error as ConnectionFault}
use Rattle.amqp_engine.specs.declared.error.Error.TheVariants as connection
use Rattle.sasl_exchange.specs.declared.error.NegotiationError.{NegotiationError}
use Rattle.sasl_exchange.specs.declared.error.NegotiationError.TheVariants.{Memory, ProtocolHeaderMismatch, NotImplemented, SaslError, ScramError, Io, DecodeError, IllegalState, FramingError}
use Rattle.amqp_peer.specs.amqp_words.declared.open_error.OpenError.TheVariants as failed
use Rattle.amqp_peer.specs.amqp_words.declared.reply.Reply.{Reply}
use Rattle.amqp_peer.specs.amqp_words.declared.reply.Reply.TheVariants as reply
use Rattle.amqp_peer.specs.amqp_words.declared.reply.NamedReply.{NamedReply}

-- the transport fails for the idle time or for the size of a frame: never for the link, nor for the type or the body of a frame
abbrev pub IsHonestFault : TransportFault → Type 0
IsHonestFault (fault.Memory a) = ⊥
IsHonestFault (fault.Io kind) = ⊥
IsHonestFault fault.IdleTimeoutElapsed = ⊤
IsHonestFault fault.DecodeError = ⊥
IsHonestFault fault.NotImplemented = ⊥
IsHonestFault fault.FramingError = ⊤

-- a negotiation never fails for the link
abbrev pub IsHonestNegotiation : NegotiationError → Type 0
IsHonestNegotiation (Memory a) = ⊤
IsHonestNegotiation (ProtocolHeaderMismatch h) = ⊤
IsHonestNegotiation NotImplemented = ⊤
IsHonestNegotiation (SaslError code payload) = ⊤
IsHonestNegotiation (ScramError kind) = ⊤
IsHonestNegotiation (Io kind) = ⊥
IsHonestNegotiation DecodeError = ⊤
IsHonestNegotiation IllegalState = ⊤
IsHonestNegotiation FramingError = ⊤

-- no frame is out of order, and no Close comes in place of Open
abbrev pub IsHonestConnection : ConnectionFault → Type 0
IsHonestConnection (connection.Memory a) = ⊥
IsHonestConnection (connection.TransportError e) = IsHonestFault e
IsHonestConnection connection.IllegalState = ⊥
IsHonestConnection connection.NotImplemented = ⊥
IsHonestConnection connection.NotFound = ⊥
IsHonestConnection connection.RemoteClosed = ⊤
IsHonestConnection (connection.RemoteClosedWithError e) = ⊤

abbrev pub IsHonest : Reply → Type 0
IsHonest reply.Pending = ⊤
IsHonest reply.Connection = ⊤
IsHonest reply.Closed = ⊤
IsHonest (reply.OpenError (failed.Negotiation e)) = IsHonestNegotiation e
IsHonest (reply.OpenError (failed.TransportError e)) = IsHonestFault e
IsHonest (reply.OpenError failed.RemoteClosed) = ⊥
IsHonest (reply.OpenError (failed.RemoteClosedWithError e)) = ⊥
IsHonest (reply.OpenError failed.IllegalState) = ⊥
IsHonest (reply.ConnectionError e) = IsHonestConnection e

abbrev pub AllHonest : List NamedReply → Type 0
AllHonest [] = ⊤
AllHonest (r ∷ rs) = IsHonest r.reply × AllHonest rs
