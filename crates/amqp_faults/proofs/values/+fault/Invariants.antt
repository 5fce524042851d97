use Rattle.std.proofs.Common.{◌≡◌, ◌≤◌, ◌+◌, ◌*◌, length, Some}
use Rattle.amqp_faults.specs.Faults.{stepped, value_past}
use Rattle.amqp_faults.proofs.Steps.{PairsRead}
use Rattle.amqp_faults.proofs.values.+fault.Given as goal

abbrev pub decreases-fault_at : goal.decreases-fault_at
decreases-fault_at l = 8 * l.depth

abbrev pub decreases-fault_behind : goal.decreases-fault_behind
decreases-fault_behind l = 8 * l.depth + 7

abbrev pub decreases-fault_in_described : goal.decreases-fault_in_described
decreases-fault_in_described l = 8 * l.depth + 1

abbrev pub decreases-fault_in_block : goal.decreases-fault_in_block
decreases-fault_in_block l = 8 * l.depth + 6

abbrev pub decreases-fault_in_parts : goal.decreases-fault_in_parts
decreases-fault_in_parts l = 8 * l.depth + 5

abbrev pub decreases-fault_in_map : goal.decreases-fault_in_map
decreases-fault_in_map l = 8 * l.depth + 4

abbrev pub decreases-fault_in_list : goal.decreases-fault_in_list
decreases-fault_in_list l = 8 * l.depth + 1

abbrev pub invariant-fault_in_list-values : goal.invariant-fault_in_list-values
invariant-fault_in_list-values l = (stepped (value_past l.depth) l.counter l.parts ≡ Some l.rest) × (length l.rest ≤ length l.parts)

abbrev pub decreases-fault_in_pairs : goal.decreases-fault_in_pairs
decreases-fault_in_pairs l = 8 * l.depth + 3

abbrev pub invariant-fault_in_pairs-pairs : goal.invariant-fault_in_pairs-pairs
invariant-fault_in_pairs-pairs l = PairsRead l.depth l.parts l.counter l.seen.keys l.rest

abbrev pub decreases-front_pair : goal.decreases-front_pair
decreases-front_pair l = 8 * l.depth + 2
