use Rattle.std.proofs.Common.{◌≤◌, refl, arith}
use Rattle.amqp_data.specs.Data.{items_depth}
use Rattle.amqp_data.specs.View.{items_view}
use Rattle.amqp_value.proofs.Written.{items_writable, sized_list, no_list}
use Rattle.amqp_value.proofs.writing.write_items.Goals as goal

pub put_list-requires : goal.put_list-requires
put_list-requires c =
    let within : items_depth (items_view c.args.values.now) ≤ 32 = grind (arith, c.requires, c.values_nest_within.ensures, c.if-not-values_nest_within.false) in
    items_writable c.in-Some.field-0 (items_view c.args.values.now) c.in-Some.ensures within

pub returns-then-not-values_nest_within : goal.returns-then-not-values_nest_within
returns-then-not-values_nest_within c = (refl, grind (arith, c.values_nest_within.ensures, c.if-not-values_nest_within.true))

pub returns-in_default : goal.returns-in_default
returns-in_default c =
    let within : items_depth (items_view c.args.values.now) ≤ c.args.levels = grind (arith, c.values_nest_within.ensures, c.if-not-values_nest_within.false) in
    (refl, omega (arith, within), no_list (items_view c.args.values.now) c.in_default.ensures (omega (arith, within, c.requires)))

pub returns : goal.returns
returns c =
    let within : items_depth (items_view c.args.values.now) ≤ c.args.levels = grind (arith, c.values_nest_within.ensures, c.if-not-values_nest_within.false) in
    (c.in_ok-put_list.ensures, sized_list c.in-Some.field-0 (items_view c.args.values.now) c.in-Some.ensures, omega (arith, within))
