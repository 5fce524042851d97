-- What a stopped connection is to its caller.
use Rattle.std.specs.Prelude.{Option, Some, None}
use Rattle.amqp_transport.specs.amqp_frames.declared.shared.ConnectionStopReason.{ConnectionStopReason}
use Rattle.amqp_transport.specs.amqp_frames.declared.shared.ConnectionStopReason.TheVariants as why
use Rattle.amqp_engine.specs.declared.error.Error.{Error}
use Rattle.amqp_engine.specs.declared.error.Error.TheVariants as error

-- the peer closed it, with an error or without; nothing is wrong where this end did
abbrev pub error_of_stop : ConnectionStopReason → Option Error
error_of_stop why.Closed = None
error_of_stop (why.ClosedWithError e) = None
error_of_stop why.RemoteClosed = Some error.RemoteClosed
error_of_stop (why.RemoteClosedWithError e) = Some (error.RemoteClosedWithError e)
