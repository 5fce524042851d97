use Rattle.std.proofs.Common.{◌≡◌, ◌-◌}
use Rattle.amqp_value.specs.Reading.{items_at, element_at}
use Rattle.amqp_value.proofs.Loops.{with_front}
use Rattle.amqp_value.proofs.reading.compounds.read_elements.Given as goal

abbrev pub invariant-items : goal.invariant-items
invariant-items l = with_front l.values.items (items_at (element_at l.code l.depth) (l.count - l.counter) l.rest) ≡ items_at (element_at l.code l.depth) l.count l.bytes
