-- How a run of disposers ends.
use Rattle.std.specs.Prelude.{ℕ}
use Rattle.amqp_threads.specs.declared.error.DeskError.{DeskError}
use Rattle.amqp_threads.specs.declared.error.DeskError.TheVariants as desk
use Rattle.amqp_disposers.specs.declared.ending.Ending.{Ending}
use Rattle.amqp_disposers.specs.declared.ending.Ending.TheVariants.{Done, Memory, WriteFault, Differs}

-- the number of the process
abbrev pub exit_code_of : Ending → ℕ
exit_code_of Done = 0
exit_code_of Memory = 5
exit_code_of WriteFault = 7
exit_code_of Differs = 9

-- how a run ends whose desk answers this
abbrev pub ending_for : DeskError → Ending
ending_for (desk.Memory error) = Memory
ending_for (desk.Differs receipt entry) = Differs

-- how a run ends that has lines to write
abbrev pub IsEndWritten : Ending → Type 0
IsEndWritten Done = Unit {0}
IsEndWritten Memory = Unit {0}
IsEndWritten WriteFault = Unit {0}
IsEndWritten Differs = ⊥

-- how a run ends that has none
abbrev pub IsEndUnwritten : Ending → Type 0
IsEndUnwritten Done = ⊥
IsEndUnwritten Memory = Unit {0}
IsEndUnwritten WriteFault = ⊥
IsEndUnwritten Differs = Unit {0}

-- the desk's answer is want of memory
abbrev pub IsWantOfMemory : DeskError → Type 0
IsWantOfMemory (desk.Memory error) = Unit {0}
IsWantOfMemory (desk.Differs receipt entry) = ⊥
