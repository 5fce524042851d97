use Rattle.std.proofs.Common.{◌≡◌, take}
use Rattle.amqp_data.proofs.+copy.Given as goal

abbrev pub invariant-copy::copied_entries-loop-entry : goal.invariant-copy::copied_entries-loop-entry
invariant-copy::copied_entries-loop-entry l = l.copies.items ≡ take l.entry-index l.entries

abbrev pub invariant-copy::copied_values-loop-value : goal.invariant-copy::copied_values-loop-value
invariant-copy::copied_values-loop-value l = l.copies.items ≡ take l.value-index l.values
