-- What a transport's error is here.
use Rattle.amqp_transport.specs.declared.transport.Error.{Error as TransportFault}
use Rattle.amqp_transport.specs.declared.transport.Error.TheVariants as fault
use Rattle.amqp_engine.specs.declared.error.Error.{Error}
use Rattle.amqp_engine.specs.declared.error.Error.TheVariants.{Memory, TransportError}

-- want of memory, or an error of the transport
abbrev pub error_of : TransportFault → Error
error_of (fault.Memory a) = Memory a
error_of e = TransportError e
