use Rattle.std.proofs.Common.{None, subst, ◌∙◌, length}
use Rattle.amqp_data.specs.Data.{Pairs, dict}
use Rattle.amqp_data.specs.View.{pairs_view}
use Rattle.amqp_value.proofs.Rest.{count_entries}
use Rattle.amqp_sizes.specs.Taken.{HasSize, Takes}
use Rattle.amqp_sizes.proofs.Pairs.{map_is, map_refused}
use Rattle.amqp_sizes.proofs.maps.map_size.Goals as goal

pub returns-in_err-bytes : goal.returns-in_err-bytes
returns-in_err-bytes c =
    rw c.from_residual.ensures (subst (λ (z : Pairs). Takes None c.args.levels (dict z)) (c.entries-entries.ensures.value ∙ c.as_map.ensures.value)
    (map_refused c.args.levels (pairs_view c.entries-entries.result.now) c.in_err-bytes.ensures))

pub returns : goal.returns
returns c =
    subst (λ (z : Pairs). HasSize c.compound_size.result c.args.levels (dict z)) (c.entries-entries.ensures.value ∙ c.as_map.ensures.value)
    (map_is c.compound_size.result c.in_ok-bytes.bytes (length c.entries-entries.result.now) c.args.levels (pairs_view c.entries-entries.result.now) c.if-levels-eq0.false c.in_ok-bytes.ensures
    (count_entries c.entries-entries.result.now) c.compound_size.ensures)
