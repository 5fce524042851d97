use Rattle.std.proofs.Common.{◌≡◌, ◌++◌, ◌∷◌, []}
use Rattle.std.proofs.lemmas.Result.{err_from_is_err_and}
use Rattle.amqp_value.specs.Reading.{items_at, element_at}
use Rattle.amqp_value.proofs.Loops.{goes_on, ends, is_done}
use Rattle.amqp_value.proofs.reading.compounds.read_elements.Goals as goal

pub returns-in_err-found : goal.returns-in_err-found
returns-in_err-found c =
    let p = err_from_is_err_and c.from_residual.result c.from_residual.ensures.1 in
    rw (p.1, p.2) (ends c.in_err-found.field-0.0 (element_at c.args.code c.args.depth) c.items.values.items c.args.count c.items.counter c.items.rest.now (items_at (element_at c.args.code c.args.depth) c.args.count c.args.bytes.now) c.items-test.true c.in_err-found.ensures c.items.invariant)

pub items-preserved : goal.items-preserved
items-preserved c =
    let e : c.push.new.self.items ≡ c.items.values.items ++ c.in_ok-found.found ∷ [] = c.in_ok-push.ensures.items in
    rw e (goes_on (element_at c.args.code c.args.depth) c.items.values.items c.args.count c.items.counter c.items.rest.now c.in_ok-found.found c.in_ok-found.after.now (items_at (element_at c.args.code c.args.depth) c.args.count c.args.bytes.now) c.items-test.true c.in_ok-found.ensures c.items.invariant)

pub returns : goal.returns
returns c = is_done (element_at c.args.code c.args.depth) c.items.values.items c.args.count c.items.counter c.items.rest.now (items_at (element_at c.args.code c.args.depth) c.args.count c.args.bytes.now) c.items-test.false c.items.invariant
