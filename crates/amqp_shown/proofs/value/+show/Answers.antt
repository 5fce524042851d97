use Rattle.std.proofs.Common.{◌≡◌, List, ℕ, ap, arith}
use Rattle.amqp_data.specs.Data.{Items, Pairs}
use Rattle.amqp_data.specs.View.{items_view, pairs_view}
use Rattle.amqp_value.proofs.Rest.{lighter, lighter_entry, no_rest, no_rest_pairs}
use Rattle.amqp_shown.specs.Names.{names_of}
use Rattle.amqp_shown.specs.Values.{items_text, pairs_text, fields_text}
use Rattle.amqp_shown.proofs.Closed.{ended, closed}
use Rattle.amqp_shown.proofs.value.+show.Goals as goal

pub push_fields-push_field-requires : goal.push_fields-push_field-requires
push_fields-push_field-requires t c =
    (omega (arith, c.decreases, lighter c.args.values.now c.loop-place.place c.index-values-place.result c.loop-place-test.true c.index-values-place.is), tt)

pub push_fields-returns : goal.push_fields-returns
push_fields-returns t c =
    ended _ _ _ (ap (λ (z : Items). fields_text (names_of c.args.kind) c.loop-place.place z) (no_rest c.args.values.now c.loop-place.place c.loop-place-test.false)) c.loop-place.invariant

pub push_items-push_value-requires : goal.push_items-push_value-requires
push_items-push_value-requires t c =
    (omega (arith, c.decreases, lighter c.args.values.now c.loop-place.place c.index-values-place.result c.loop-place-test.true c.index-values-place.is), tt)

pub push_items-returns : goal.push_items-returns
push_items-returns t c =
    let all = ended _ _ _ (ap (λ (z : Items). items_text c.loop-place.place z) (no_rest c.args.values.now c.loop-place.place c.loop-place-test.false)) c.loop-place.invariant in
    closed c.args.out.now.items c.push.new.self.items c.loop-place.out.items c.push-2.new.self.items (items_text 0 (items_view c.args.values.now)) 91 93 c.in_ok-push.ensures.items all c.in_ok-push-2.ensures.items

pub push_pairs-push_value-requires : goal.push_pairs-push_value-requires
push_pairs-push_value-requires t c =
    (omega (arith, c.decreases, lighter_entry c.args.entries.now c.loop-place.place c.index-entries-place.result c.loop-place-test.true c.index-entries-place.is), tt)

pub push_pairs-push_value-requires-in-loop-place : goal.push_pairs-push_value-requires-in-loop-place
push_pairs-push_value-requires-in-loop-place t c =
    (omega (arith, c.decreases, lighter_entry c.args.entries.now c.loop-place.place c.index-entries-place.result c.loop-place-test.true c.index-entries-place.is), tt)

pub push_pairs-returns : goal.push_pairs-returns
push_pairs-returns t c =
    let all = ended _ _ _ (ap (λ (z : Pairs). pairs_text c.loop-place.place z) (no_rest_pairs c.args.entries.now c.loop-place.place c.loop-place-test.false)) c.loop-place.invariant in
    closed c.args.out.now.items c.push.new.self.items c.loop-place.out.items c.push-2.new.self.items (pairs_text 0 (pairs_view c.args.entries.now)) 123 125 c.in_ok-push.ensures.items all c.in_ok-push-2.ensures.items
