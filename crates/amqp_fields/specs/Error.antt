-- Want of memory.
use Rattle.amqp_fields.specs.declared.error.BaseError.{BaseError}
use Rattle.amqp_fields.specs.declared.error.BaseError.TheVariants.{Memory, Decode, Size}

abbrev pub IsMemory : BaseError → Type 0
IsMemory (Memory a) = Unit {0}
IsMemory Decode = ⊥
IsMemory Size = ⊥
