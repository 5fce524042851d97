use Rattle.std.proofs.Common.{◌≡◌, ◌-◌, ◌*◌, ◌+◌}
use Rattle.amqp_value.specs.Reading.{items_at, pairs_at, value_at}
use Rattle.amqp_value.proofs.Loops.{with_front, with_pairs}
use Rattle.amqp_value.proofs.reading.compounds.+read.Given as goal

abbrev pub decreases-read_nested : goal.decreases-read_nested
decreases-read_nested l = 6 * l.depth + 1

abbrev pub decreases-read_any : goal.decreases-read_any
decreases-read_any l = 6 * l.depth

abbrev pub decreases-read_body : goal.decreases-read_body
decreases-read_body l = 6 * l.depth + 5

abbrev pub decreases-read_described : goal.decreases-read_described
decreases-read_described l = 6 * l.depth + 2

abbrev pub decreases-read_list : goal.decreases-read_list
decreases-read_list l = 6 * l.depth + 4

abbrev pub decreases-read_values_in : goal.decreases-read_values_in
decreases-read_values_in l = 6 * l.depth + 3

abbrev pub decreases-read_items : goal.decreases-read_items
decreases-read_items l = 6 * l.depth + 2

abbrev pub invariant-read_items-items : goal.invariant-read_items-items
invariant-read_items-items l = with_front l.values.items (items_at (value_at l.depth) (l.count - l.counter) l.rest) ≡ items_at (value_at l.depth) l.count l.bytes

abbrev pub decreases-read_map : goal.decreases-read_map
decreases-read_map l = 6 * l.depth + 4

abbrev pub decreases-read_pairs_in : goal.decreases-read_pairs_in
decreases-read_pairs_in l = 6 * l.depth + 3

abbrev pub decreases-read_pairs : goal.decreases-read_pairs
decreases-read_pairs l = 6 * l.depth + 2

abbrev pub invariant-read_pairs-pairs : goal.invariant-read_pairs-pairs
invariant-read_pairs-pairs l = with_pairs l.entries.items (pairs_at (value_at l.depth) (l.count - l.counter) l.rest) ≡ pairs_at (value_at l.depth) l.count l.bytes
