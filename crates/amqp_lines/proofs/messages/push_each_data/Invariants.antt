use Rattle.std.proofs.Common.{◌≡◌, ◌++◌, drop, flat_map}
use Rattle.amqp_lines.specs.Messages.{data_section}
use Rattle.amqp_lines.proofs.messages.push_each_data.Given as goal

abbrev pub invariant-loop-bytes : goal.invariant-loop-bytes
invariant-loop-bytes l = l.out.items ++ flat_map data_section (drop l.bytes-index l.sections) ≡ l.fn.out.items ++ flat_map data_section l.sections
