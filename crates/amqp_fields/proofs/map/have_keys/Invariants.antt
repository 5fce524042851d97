use Rattle.std.proofs.Common.{◌≡◌, drop}
use Rattle.amqp_data.specs.View.{pairs_view}
use Rattle.amqp_fields.specs.Fields.{all_keys, key_test}
use Rattle.amqp_fields.proofs.map.have_keys.Given as goal

abbrev pub invariant-loop-entry : goal.invariant-loop-entry
invariant-loop-entry l = all_keys (key_test l.kind) (pairs_view (drop l.entry-index l.entries)) ≡ all_keys (key_test l.kind) (pairs_view l.entries)
