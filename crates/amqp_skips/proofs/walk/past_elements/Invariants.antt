use Rattle.std.proofs.Common.{◌≡◌, ◌≤◌, length, Some}
use Rattle.amqp_faults.specs.Faults.{stepped, element_past}
use Rattle.amqp_skips.proofs.walk.past_elements.Given as goal

abbrev pub invariant-elements : goal.invariant-elements
invariant-elements l = (stepped (element_past l.levels l.layout) l.counter l.initial.rest ≡ Some l.rest) × (length l.rest ≤ length l.initial.rest)
