-- How a program ends.
use Rattle.std.specs.Prelude.{ℕ, List, ◌++◌, codes, decimal}
use Rattle.amqp_wire.specs.declared.status.Status.{Status}
use Rattle.amqp_wire.specs.declared.status.Status.TheVariants.{Done, Usage, BadScript, BadStep, Memory, ReadFault, WriteFault, TooLong}

-- the number with which the process ends
abbrev pub exit_code_of : Status → ℕ
exit_code_of Done = 0
exit_code_of Usage = 2
exit_code_of (BadScript line) = 3
exit_code_of (BadStep index) = 4
exit_code_of Memory = 5
exit_code_of ReadFault = 6
exit_code_of WriteFault = 7
exit_code_of TooLong = 8

-- the line for standard error
abbrev pub line_of : Status → List ℕ
line_of Done = codes "done"
line_of Usage = codes "usage"
line_of (BadScript line) = codes "bad script " ++ decimal line
line_of (BadStep index) = codes "bad step " ++ decimal index
line_of Memory = codes "no memory"
line_of ReadFault = codes "read fault"
line_of WriteFault = codes "write fault"
line_of TooLong = codes "too long"
