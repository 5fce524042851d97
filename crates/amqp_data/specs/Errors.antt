-- Errors of want of memory.
use Rattle.amqp_data.specs.declared.array.ArrayError.{ArrayError}
use Rattle.amqp_data.specs.declared.array.ArrayError.TheVariants.{Memory, OtherKind}

abbrev pub IsMemory : ArrayError → Type 0
IsMemory (Memory a) = Unit {0}
IsMemory OtherKind = ⊥
