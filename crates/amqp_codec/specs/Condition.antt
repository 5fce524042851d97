-- The conditions of errors and their symbols (OASIS AMQP 1.0, part 2, sections 2.8.15 to 2.8.18).
use Rattle.std.specs.Prelude.{ℕ, List, None, [], ◌∷◌, Option, codes, find}
use Rattle.std.specs.Str.{bytes_eq}
use Rattle.amqp_composites.specs.declared.error.Error.{Error}
use Rattle.amqp_codec.specs.declared.condition.Condition.{Condition}
use Rattle.amqp_codec.specs.declared.condition.Condition.TheVariants as c

abbrev pub symbol_of : Condition → List ℕ
symbol_of c.InternalError = codes "amqp:internal-error"
symbol_of c.NotFound = codes "amqp:not-found"
symbol_of c.UnauthorizedAccess = codes "amqp:unauthorized-access"
symbol_of c.DecodeError = codes "amqp:decode-error"
symbol_of c.ResourceLimitExceeded = codes "amqp:resource-limit-exceeded"
symbol_of c.NotAllowed = codes "amqp:not-allowed"
symbol_of c.InvalidField = codes "amqp:invalid-field"
symbol_of c.NotImplemented = codes "amqp:not-implemented"
symbol_of c.ResourceLocked = codes "amqp:resource-locked"
symbol_of c.PreconditionFailed = codes "amqp:precondition-failed"
symbol_of c.ResourceDeleted = codes "amqp:resource-deleted"
symbol_of c.IllegalState = codes "amqp:illegal-state"
symbol_of c.FrameSizeTooSmall = codes "amqp:frame-size-too-small"
symbol_of c.ConnectionForced = codes "amqp:connection:forced"
symbol_of c.FramingError = codes "amqp:connection:framing-error"
symbol_of c.ConnectionRedirect = codes "amqp:connection:redirect"
symbol_of c.WindowViolation = codes "amqp:session:window-violation"
symbol_of c.ErrantLink = codes "amqp:session:errant-link"
symbol_of c.HandleInUse = codes "amqp:session:handle-in-use"
symbol_of c.UnattachedHandle = codes "amqp:session:unattached-handle"
symbol_of c.DetachForced = codes "amqp:link:detach-forced"
symbol_of c.TransferLimitExceeded = codes "amqp:link:transfer-limit-exceeded"
symbol_of c.MessageSizeExceeded = codes "amqp:link:message-size-exceeded"
symbol_of c.LinkRedirect = codes "amqp:link:redirect"
symbol_of c.Stolen = codes "amqp:link:stolen"

abbrev pub all_conditions : List Condition
all_conditions =
    c.InternalError ∷ c.NotFound ∷ c.UnauthorizedAccess ∷ c.DecodeError ∷ c.ResourceLimitExceeded ∷ c.NotAllowed ∷ c.InvalidField ∷ c.NotImplemented ∷ c.ResourceLocked ∷ c.PreconditionFailed ∷ c.ResourceDeleted ∷ c.IllegalState ∷ c.FrameSizeTooSmall ∷
    c.ConnectionForced ∷ c.FramingError ∷ c.ConnectionRedirect ∷
    c.WindowViolation ∷ c.ErrantLink ∷ c.HandleInUse ∷ c.UnattachedHandle ∷
    c.DetachForced ∷ c.TransferLimitExceeded ∷ c.MessageSizeExceeded ∷ c.LinkRedirect ∷ c.Stolen ∷ []

-- the condition with that symbol
abbrev pub condition_named : List ℕ → Option Condition
condition_named name = find (λ k. bytes_eq name (symbol_of k)) all_conditions

-- the error with that condition and nothing else (section 2.8.14)
abbrev pub error_of : Condition → Error
error_of condition = record { condition = symbol_of condition; description = None; info = None }
