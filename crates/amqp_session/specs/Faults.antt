-- The faults for which a session ends, and their errors (OASIS AMQP 1.0, part 2, sections 2.8.15 and 2.8.17).
use Rattle.std.specs.Prelude.{ℕ, List, None, codes}
use Rattle.amqp_composites.specs.declared.error.Error.{Error as AmqpError}
use Rattle.amqp_session.specs.declared.error.Error.{Error}
use Rattle.amqp_session.specs.declared.error.Error.TheVariants as error
use Rattle.amqp_session.specs.declared.error.Fault.{Fault}
use Rattle.amqp_session.specs.declared.error.Fault.TheVariants as fault

-- the condition that the peer is told
abbrev pub condition_of : Fault → List ℕ
condition_of fault.UnattachedHandle = codes "amqp:session:unattached-handle"
condition_of fault.HandleInUse = codes "amqp:session:handle-in-use"
condition_of fault.TransferFrameToSender = codes "amqp:not-allowed"
condition_of fault.RemoteAttachingLinkNameNotFound = codes "amqp:not-found"

abbrev pub error_for : Fault → AmqpError
error_for x = record { condition = condition_of x; description = None; info = None }

-- what the end's own caller is told
abbrev pub told_of : Fault → Error
told_of fault.UnattachedHandle = error.UnattachedHandle
told_of fault.HandleInUse = error.HandleInUse
told_of fault.TransferFrameToSender = error.TransferFrameToSender
told_of fault.RemoteAttachingLinkNameNotFound = error.RemoteAttachingLinkNameNotFound
