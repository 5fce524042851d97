-- Errors in the text of a trace: the variants from outside inwards, joined by points, and the innermost one's fields.
use Rattle.std.specs.Prelude.{List, ℕ, ◌++◌, codes, decimal}
use Rattle.amqp_sasl_bodies.specs.SaslCode.{sasl_code_number}
use Rattle.amqp_composites.specs.declared.error.Error.{Error}
use Rattle.amqp_wire.specs.declared.link.IoKind.{IoKind}
use Rattle.amqp_wire.specs.declared.link.IoKind.TheVariants as io
use Rattle.sasl_scram.specs.declared.error.ScramErrorKind.{ScramErrorKind}
use Rattle.sasl_scram.specs.declared.error.ScramErrorKind.TheVariants as scram
use Rattle.sasl_exchange.specs.declared.error.NegotiationError.{NegotiationError}
use Rattle.sasl_exchange.specs.declared.error.NegotiationError.TheVariants as negotiation
use Rattle.amqp_transport.specs.declared.transport.Error.{Error as TransportError}
use Rattle.amqp_transport.specs.declared.transport.Error.TheVariants as transport
use Rattle.amqp_engine.specs.declared.error.Error.{Error as ConnectionError}
use Rattle.amqp_engine.specs.declared.error.Error.TheVariants as connection
use Rattle.amqp_words.specs.declared.open_error.OpenError.{OpenError}
use Rattle.amqp_words.specs.declared.open_error.OpenError.TheVariants as opening
use Rattle.amqp_script.specs.Hex.{bytes_text, option_text}
use Rattle.amqp_script.specs.Info.{fault_text}

abbrev pub io_word : IoKind → List ℕ
io_word io.Fault = codes "Fault"
io_word io.End = codes "End"

abbrev pub scram_word : ScramErrorKind → List ℕ
scram_word (scram.Memory e) = codes "Memory"
scram_word scram.TextNotAllowed = codes "TextNotAllowed"
scram_word scram.Malformed = codes "Malformed"
scram_word scram.NonceMismatch = codes "NonceMismatch"
scram_word scram.Iterations = codes "Iterations"
scram_word scram.Base64 = codes "Base64"
scram_word scram.Signature = codes "Signature"
scram_word scram.UserUnknown = codes "UserUnknown"
scram_word scram.ProofMismatch = codes "ProofMismatch"

-- why a negotiation failed
abbrev pub negotiation_text : NegotiationError → List ℕ
negotiation_text (negotiation.Memory e) = codes "Memory"
negotiation_text (negotiation.ProtocolHeaderMismatch header) = codes "ProtocolHeaderMismatch " ++ bytes_text header
negotiation_text negotiation.NotImplemented = codes "NotImplemented"
negotiation_text (negotiation.SaslError code additional) = codes "SaslError " ++ decimal (sasl_code_number code) ++ codes " " ++ option_text additional
negotiation_text (negotiation.ScramError kind) = codes "ScramError." ++ scram_word kind
negotiation_text (negotiation.Io kind) = codes "Io." ++ io_word kind
negotiation_text negotiation.DecodeError = codes "DecodeError"
negotiation_text negotiation.IllegalState = codes "IllegalState"
negotiation_text negotiation.FramingError = codes "FramingError"

-- why a transport failed
abbrev pub transport_text : TransportError → List ℕ
transport_text (transport.Memory e) = codes "TransportError.Memory"
transport_text (transport.Io kind) = codes "TransportError.Io." ++ io_word kind
transport_text transport.IdleTimeoutElapsed = codes "TransportError.IdleTimeoutElapsed"
transport_text transport.DecodeError = codes "TransportError.DecodeError"
transport_text transport.NotImplemented = codes "TransportError.NotImplemented"
transport_text transport.FramingError = codes "TransportError.FramingError"

-- the peer closed the connection for that error
abbrev pub remote_text : Error → List ℕ
remote_text e = codes "RemoteClosedWithError " ++ fault_text e

abbrev pub opening_text : OpenError → List ℕ
opening_text (opening.Negotiation e) = codes "Negotiation." ++ negotiation_text e
opening_text (opening.TransportError e) = transport_text e
opening_text opening.RemoteClosed = codes "RemoteClosed"
opening_text (opening.RemoteClosedWithError e) = remote_text e
opening_text opening.IllegalState = codes "IllegalState"

-- why a connection is not opened
abbrev pub open_text : OpenError → List ℕ
open_text e = codes "Open." ++ opening_text e

abbrev pub engine_text : ConnectionError → List ℕ
engine_text (connection.Memory e) = codes "Memory"
engine_text (connection.TransportError e) = transport_text e
engine_text connection.IllegalState = codes "IllegalState"
engine_text connection.NotImplemented = codes "NotImplemented"
engine_text connection.NotFound = codes "NotFound"
engine_text connection.RemoteClosed = codes "RemoteClosed"
engine_text (connection.RemoteClosedWithError e) = remote_text e

-- why a call on a connection did not do what it was asked
abbrev pub connection_text : ConnectionError → List ℕ
connection_text e = codes "Connection." ++ engine_text e
