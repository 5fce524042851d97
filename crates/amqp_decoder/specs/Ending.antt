-- How a run that decodes ends.
use Rattle.std.specs.Prelude.{ℕ}
use Rattle.amqp_decoder.specs.declared.ending.Ending.{Ending}
use Rattle.amqp_decoder.specs.declared.ending.Ending.TheVariants.{Done, Memory, ReadFault, WriteFault, TooLong, BadBytes, NoHexadecimal}

-- the number of the process
abbrev pub exit_code_of : Ending → ℕ
exit_code_of Done = 0
exit_code_of Memory = 5
exit_code_of ReadFault = 6
exit_code_of WriteFault = 7
exit_code_of TooLong = 8
exit_code_of (BadBytes bad) = 11
exit_code_of NoHexadecimal = 12

-- how a run ends that has lines to write
abbrev pub IsEnd : Ending → Type 0
IsEnd Done = Unit {0}
IsEnd Memory = Unit {0}
IsEnd ReadFault = ⊥
IsEnd WriteFault = Unit {0}
IsEnd TooLong = ⊥
IsEnd (BadBytes bad) = Unit {0}
IsEnd NoHexadecimal = ⊥

-- how a run ends that has none
abbrev pub IsEndUnwritten : Ending → Type 0
IsEndUnwritten Done = ⊥
IsEndUnwritten Memory = Unit {0}
IsEndUnwritten ReadFault = Unit {0}
IsEndUnwritten WriteFault = ⊥
IsEndUnwritten TooLong = Unit {0}
IsEndUnwritten (BadBytes bad) = ⊥
IsEndUnwritten NoHexadecimal = Unit {0}
