use Rattle.std.proofs.Common.{◌≡◌, ◌≤◌, length, Some}
use Rattle.amqp_faults.specs.Faults.{stepped}
use Rattle.amqp_skips.specs.Skipped.{skipped}
use Rattle.amqp_skips.proofs.skip.section_start.Given as goal

abbrev pub invariant-sections : goal.invariant-sections
invariant-sections l = (stepped (skipped 33) l.counter l.input ≡ Some l.rest) × (length l.rest ≤ length l.input)
