use Rattle.std.proofs.Common.{◌≡◌, ◌≤◌, length, Some}
use Rattle.amqp_faults.specs.Faults.{stepped, element_past}
use Rattle.amqp_faults.proofs.values.fault_in_elements.Given as goal

abbrev pub invariant-elements : goal.invariant-elements
invariant-elements l = (stepped (element_past l.depth l.layout) l.counter l.elements ≡ Some l.rest) × (length l.rest ≤ length l.elements)
