use Rattle.std.proofs.Common.{arith}
use Rattle.std.proofs.lemmas.Result.{err_from_is_err_and}
use Rattle.amqp_data.specs.View.{view}
use Rattle.amqp_value.proofs.Whole.{is_read, is_only, none_begins}
use Rattle.amqp_value.proofs.reading.read_value_within.Goals as goal

pub returns-in_err-found-clause-none : goal.returns-in_err-found-clause-none
returns-in_err-found-clause-none c e =
    let p = err_from_is_err_and c.from_residual.result c.from_residual.ensures.1 in
    none_begins c.args.levels c.args.input.now c.in_err-found.field-0.0 c.in_err-found.ensures (cc (p.1, p.2))

pub overflow_sub-used : goal.overflow_sub-used
overflow_sub-used c = (is_read c.args.levels c.args.input.now (view c.in_ok-found.found) c.in_ok-found.rest.now (λ i. omega (arith, c.type_inv.input i)) c.in_ok-found.ensures).shorter

pub returns-clause-found : goal.returns-clause-found
returns-clause-found c = (is_read c.args.levels c.args.input.now (view c.in_ok-found.found) c.in_ok-found.rest.now (λ i. omega (arith, c.type_inv.input i)) c.in_ok-found.ensures).found

pub returns-clause-nests : goal.returns-clause-nests
returns-clause-nests c = (is_read c.args.levels c.args.input.now (view c.in_ok-found.found) c.in_ok-found.rest.now (λ i. omega (arith, c.type_inv.input i)) c.in_ok-found.ensures).nests

pub returns-clause-only : goal.returns-clause-only
returns-clause-only c = is_only c.args.levels c.args.input.now (view c.in_ok-found.found) c.in_ok-found.rest.now c.in_ok-found.ensures
