use Rattle.std.proofs.Common.{◌≡◌, ◌++◌, ◌∷◌, []}
use Rattle.std.proofs.lemmas.Result.{err_from_is_err_and}
use Rattle.amqp_value.specs.Reading.{items_at, pairs_at, value_at}
use Rattle.amqp_value.proofs.Loops.{goes_on, ends, is_done, pairs_go_on, pairs_end, pairs_end_late, pairs_are_done}
use Rattle.amqp_data.specs.declared.value.Entry.{Entry}
use Rattle.amqp_value.proofs.Front.{short_text, null_first}
use Rattle.amqp_value.proofs.reading.compounds.+read.Goals as goal

pub read_items-returns-in_err-found : goal.read_items-returns-in_err-found
read_items-returns-in_err-found t c =
    let p = err_from_is_err_and c.from_residual-in_err-found.result c.from_residual-in_err-found.ensures.1 in
    rw (p.1, p.2) (ends c.in_err-found.field-0.0 (value_at c.args.depth) c.items.values.items c.args.count c.items.counter c.items.rest.now (items_at (value_at c.args.depth) c.args.count c.args.bytes.now) c.items-test.true c.in_err-found.ensures c.items.invariant)

pub read_items-items-preserved : goal.read_items-items-preserved
read_items-items-preserved t c =
    let e : c.push.new.self.items ≡ c.items.values.items ++ c.in_ok-found.found ∷ [] = c.in_ok-push.ensures.items in
    rw e (goes_on (value_at c.args.depth) c.items.values.items c.args.count c.items.counter c.items.rest.now c.in_ok-found.found c.in_ok-found.after.now (items_at (value_at c.args.depth) c.args.count c.args.bytes.now) c.items-test.true c.in_ok-found.ensures c.items.invariant)

pub read_items-returns : goal.read_items-returns
read_items-returns t c = is_done (value_at c.args.depth) c.items.values.items c.args.count c.items.counter c.items.rest.now (items_at (value_at c.args.depth) c.args.count c.args.bytes.now) c.items-test.false c.items.invariant

pub read_pairs-returns-in_err-key : goal.read_pairs-returns-in_err-key
read_pairs-returns-in_err-key t c =
    let p = err_from_is_err_and c.from_residual-in_err-key.result c.from_residual-in_err-key.ensures.1 in
    rw (p.1, p.2) (pairs_end c.in_err-key.field-0.0 (value_at c.args.depth) c.pairs.entries.items c.args.count c.pairs.counter c.pairs.rest.now (pairs_at (value_at c.args.depth) c.args.count c.args.bytes.now) c.pairs-test.true c.in_err-key.ensures c.pairs.invariant)

pub read_pairs-returns-in_err-found : goal.read_pairs-returns-in_err-found
read_pairs-returns-in_err-found t c =
    let p = err_from_is_err_and c.from_residual-in_err-found.result c.from_residual-in_err-found.ensures.1 in
    rw (p.1, p.2) (pairs_end_late c.in_err-found.field-0.0 (value_at c.args.depth) c.pairs.entries.items c.args.count c.pairs.counter c.pairs.rest.now _ c.in_ok-key.after.now (pairs_at (value_at c.args.depth) c.args.count c.args.bytes.now) c.pairs-test.true c.in_ok-key.ensures c.in_err-found.ensures c.pairs.invariant)

pub read_pairs-pairs-preserved : goal.read_pairs-pairs-preserved
read_pairs-pairs-preserved t c =
    let n : Entry = record { key = c.in_ok-key.key; value = c.in_ok-found.found } in
    let e : c.push.new.self.items ≡ c.pairs.entries.items ++ n ∷ [] = c.in_ok-push.ensures.items in
    rw e (pairs_go_on (value_at c.args.depth) c.pairs.entries.items c.args.count c.pairs.counter c.pairs.rest.now n c.in_ok-key.after.now c.in_ok-found.next.now (pairs_at (value_at c.args.depth) c.args.count c.args.bytes.now) c.pairs-test.true c.in_ok-key.ensures c.in_ok-found.ensures c.pairs.invariant)

pub read_pairs-returns : goal.read_pairs-returns
read_pairs-returns t c = pairs_are_done (value_at c.args.depth) c.pairs.entries.items c.args.count c.pairs.counter c.pairs.rest.now (pairs_at (value_at c.args.depth) c.args.count c.args.bytes.now) c.pairs-test.false c.pairs.invariant

pub read_nested-returns-in-Some : goal.read_nested-returns-in-Some
read_nested-returns-in-Some t c = rw (short_text c.args.depth c.args.bytes.now c.in-Some.rest.now c.if-depth-ne0.true c.in-Some.ensures) c.read_string.ensures

pub read_nested-returns-in-Some-after_code : goal.read_nested-returns-in-Some-after_code
read_nested-returns-in-Some-after_code t c = null_first c.args.depth c.args.bytes.now c.in-Some-after_code.rest.now c.if-depth-ne0.true c.in-Some-after_code.ensures
