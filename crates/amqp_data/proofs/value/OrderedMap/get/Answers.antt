use Rattle.std.proofs.Common.{◌≡◌, Some, None, option_map, sym, ap, ◌∙◌, arith}
use Rattle.amqp_data.specs.Maps.{lookup}
use Rattle.amqp_data.specs.View.{view}
use Rattle.amqp_data.specs.declared.value.Entry.{Entry}
use Rattle.amqp_data.proofs.Placed.{place_is, lookup-place, lookup-no_place, IsNew-lookup, some_is_not_new}
use Rattle.amqp_data.proofs.value.OrderedMap.get.Goals as goal

pub returns-in_err-place-clause-value : goal.returns-in_err-place-clause-value
returns-in_err-place-clause-value c =
    let no_place = place_is (view c.args.key.now) c.self.inside.entries.items _ _ _ c.deref.ensures.value c.place_of.ensures c.in_err-place.was in
    let absent : lookup (view c.args.key.now) c.args.self.now ≡ None = ap (lookup (view c.args.key.now)) (sym c.self.view_is) ∙ lookup-no_place (view c.args.key.now) c.self.inside.entries.items no_place in
    rw absent (ap (option_map (λ v. view v.now)) c.from_residual.ensures)

pub returns-in_err-place-clause-none : goal.returns-in_err-place-clause-none
returns-in_err-place-clause-none c =
    let no_place = place_is (view c.args.key.now) c.self.inside.entries.items _ _ _ c.deref.ensures.value c.place_of.ensures c.in_err-place.was in
    let absent : lookup (view c.args.key.now) c.args.self.now ≡ None = ap (lookup (view c.args.key.now)) (sym c.self.view_is) ∙ lookup-no_place (view c.args.key.now) c.self.inside.entries.items no_place in
    (λ _. IsNew-lookup (view c.args.key.now) c.args.self.now absent, λ _. grind (arith, c.from_residual.ensures))

pub returns-clause-value : goal.returns-clause-value
returns-clause-value c =
    let place = place_is (view c.args.key.now) c.self.inside.entries.items _ _ _ c.deref.ensures.value c.place_of.ensures c.in_ok-place.was in
    ap (λ (z : Entry). Some (view z.value)) c.index.ensures
    ∙ sym (lookup-place (view c.args.key.now) c.self.inside.entries.items c.in_ok-place.place c.index.result.now place)
    ∙ ap (lookup (view c.args.key.now)) c.self.view_is

pub returns-clause-none : goal.returns-clause-none
returns-clause-none c =
    let place = place_is (view c.args.key.now) c.self.inside.entries.items _ _ _ c.deref.ensures.value c.place_of.ensures c.in_ok-place.was in
    let found = ap (lookup (view c.args.key.now)) (sym c.self.view_is) ∙ lookup-place (view c.args.key.now) c.self.inside.entries.items c.in_ok-place.place c.index.result.now place in
    (λ e. absurd (cc), λ h. absurd (some_is_not_new _ _ _ found h))
