use Rattle.std.proofs.Common.{◌≡◌, drop}
use Rattle.amqp_gen.specs.Tally.{with_entries, tallied}
use Rattle.amqp_gen.proofs.tally.Tally.of.Given as goal

-- what is left gives the whole
abbrev pub invariant-loop-entry : goal.invariant-loop-entry
invariant-loop-entry l = with_entries l.tally (drop l.entry-index l.entries) ≡ tallied l.fn.entries
