use Rattle.std.proofs.Common.{refl}
use Rattle.std.proofs.lemmas.Result.{err_from_is_err_and}
use Rattle.amqp_data.specs.View.{pairs_view}
use Rattle.amqp_data.specs.SameLaws.{distinct_keys-from}
use Rattle.amqp_value.proofs.Texts.{map_fails}
use Rattle.amqp_value.proofs.reading.compounds.map_of.Goals as goal

pub returns-in_err-map : goal.returns-in_err-map
returns-in_err-map c =
    let p = err_from_is_err_and c.from_residual.result c.from_residual.ensures.1 in
    rw (p.1, p.2) (map_fails c.in_err-map.field-0.0 (pairs_view c.args.entries.items) c.in_err-map.ensures.refused)

pub returns : goal.returns
returns c = rw (distinct_keys-from (pairs_view c.args.entries.items) c.in_ok-map.ensures.distinct, c.in_ok-map.ensures.ok) refl
