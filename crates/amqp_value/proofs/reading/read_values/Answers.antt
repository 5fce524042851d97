use Rattle.std.proofs.Common.{arith}
use Rattle.std.proofs.lemmas.Result.{err_from_is_err_and}
use Rattle.amqp_data.specs.View.{view}
use Rattle.amqp_value.proofs.Filled.{shorter, goes_on, all_spelled, all_nest, they_are, none_fill, none_left, some_left}
use Rattle.amqp_value.proofs.reading.read_values.Goals as goal

pub returns-in_err-found-clause-none : goal.returns-in_err-found-clause-none
returns-in_err-found-clause-none c e =
    let p = err_from_is_err_and c.from_residual.result c.from_residual.ensures.1 in
    let some = some_left c.loop-rest.rest.now (λ z. absurd (grind (arith, z, c.loop-rest-test.ensures, c.is_empty.ensures, c.loop-rest-test.true))) in
    none_fill c.args.levels c.args.input.now c.loop-rest.values.items c.loop-rest.rest.now some c.loop-rest.invariant c.in_err-found.field-0.0 c.in_err-found.ensures (cc (p.1, p.2))

pub loop-rest-smaller : goal.loop-rest-smaller
loop-rest-smaller c = shorter c.args.levels c.loop-rest.rest.now c.in_ok-found.after.now (view c.in_ok-found.found) c.loop-rest.invariant.fits c.in_ok-found.ensures

pub loop-rest-preserved : goal.loop-rest-preserved
loop-rest-preserved c =
    let some = some_left c.loop-rest.rest.now (λ z. absurd (grind (arith, z, c.loop-rest-test.ensures, c.is_empty.ensures, c.loop-rest-test.true))) in
    rw c.in_ok-push.ensures.items (goes_on c.args.levels c.args.input.now c.loop-rest.values.items c.loop-rest.rest.now c.in_ok-found.after.now c.in_ok-found.found some c.in_ok-found.ensures c.loop-rest.invariant)

pub returns-clause-spelled : goal.returns-clause-spelled
returns-clause-spelled c =
    let none = none_left c.loop-rest.rest.now (grind (arith, c.loop-rest-test.ensures, c.is_empty.ensures, c.loop-rest-test.false)) in
    rw c.from_vec.ensures (all_spelled c.args.levels c.args.input.now c.loop-rest.values.items c.loop-rest.rest.now none c.loop-rest.invariant)

pub returns-clause-nests : goal.returns-clause-nests
returns-clause-nests c = rw c.from_vec.ensures (all_nest c.args.levels c.args.input.now c.loop-rest.values.items c.loop-rest.rest.now c.loop-rest.invariant)

pub returns-clause-only : goal.returns-clause-only
returns-clause-only c =
    let none = none_left c.loop-rest.rest.now (grind (arith, c.loop-rest-test.ensures, c.is_empty.ensures, c.loop-rest-test.false)) in
    rw c.from_vec.ensures (they_are c.args.levels c.args.input.now c.loop-rest.values.items c.loop-rest.rest.now none c.loop-rest.invariant)
