-- How a run over a socket ends.
use Rattle.std.specs.Prelude.{ℕ}
use Rattle.amqp_served.specs.declared.ending.Ending.{Ending}
use Rattle.amqp_served.specs.declared.ending.Ending.TheVariants.{Done, Usage, Memory, ReadFault, WriteFault, PeerFault, TimedOut}

-- the number of the process
abbrev pub exit_code_of : Ending → ℕ
exit_code_of Done = 0
exit_code_of Usage = 2
exit_code_of Memory = 5
exit_code_of ReadFault = 6
exit_code_of WriteFault = 7
exit_code_of PeerFault = 10
exit_code_of TimedOut = 13
