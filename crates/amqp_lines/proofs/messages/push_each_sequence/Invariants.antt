use Rattle.std.proofs.Common.{◌≡◌, ◌++◌, drop, flat_map}
use Rattle.amqp_lines.specs.Messages.{sequence_section}
use Rattle.amqp_lines.proofs.messages.push_each_sequence.Given as goal

abbrev pub invariant-loop-values : goal.invariant-loop-values
invariant-loop-values l = l.out.items ++ flat_map sequence_section (drop l.values-index l.sections) ≡ l.fn.out.items ++ flat_map sequence_section l.sections
