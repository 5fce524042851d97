use Rattle.std.proofs.Common.{option_map, ap}
use Rattle.amqp_data.specs.Data.{scalar, symbol}
use Rattle.amqp_data.specs.View.{view}
use Rattle.amqp_codec.proofs.Looked.{there, absent}
use Rattle.amqp_codec.proofs.kinds.get_symbol.Goals as goal

pub returns-in_err-place : goal.returns-in_err-place
returns-in_err-place c =
    let none = absent (scalar (symbol c.args.key.now)) c.entries-entries.result.now c.args.map.now _ c.entries-entries.ensures.value c.place_of_symbol.ensures c.in_err-place.was in
    rw none (ap (option_map (λ v. view v.now)) c.from_residual.ensures)

pub returns : goal.returns
returns c = there (scalar (symbol c.args.key.now)) c.entries-entries.result.now c.args.map.now _ c.in_ok-place.place c.index-entries-place.result c.entries-entries.ensures.value c.place_of_symbol.ensures c.in_ok-place.was
