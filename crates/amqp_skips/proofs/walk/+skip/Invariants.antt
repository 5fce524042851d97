use Rattle.std.proofs.Common.{◌≡◌, ◌≤◌, ◌+◌, ◌*◌, length, Some}
use Rattle.amqp_faults.specs.Faults.{stepped}
use Rattle.amqp_skips.specs.Skipped.{skipped}
use Rattle.amqp_skips.proofs.walk.+skip.Given as goal

abbrev pub decreases-past : goal.decreases-past
decreases-past l = 8 * l.levels

abbrev pub decreases-past_form : goal.decreases-past_form
decreases-past_form l = 8 * l.levels + 7

abbrev pub decreases-past_described : goal.decreases-past_described
decreases-past_described l = 8 * l.levels + 1

abbrev pub decreases-past_block : goal.decreases-past_block
decreases-past_block l = 8 * l.levels + 6

abbrev pub decreases-past_parts : goal.decreases-past_parts
decreases-past_parts l = 8 * l.levels + 5

abbrev pub decreases-past_pairs : goal.decreases-past_pairs
decreases-past_pairs l = 8 * l.levels + 4

abbrev pub decreases-past_values : goal.decreases-past_values
decreases-past_values l = 8 * l.levels + 3

abbrev pub invariant-past_values-values : goal.invariant-past_values-values
invariant-past_values-values l = (stepped (skipped l.levels) l.counter l.bytes ≡ Some l.rest) × (length l.rest ≤ length l.bytes)
