use Rattle.std.proofs.Common.{Some, refl, sym, ap, ◌∙◌}
use Rattle.amqp_data.specs.Maps.{lookup}
use Rattle.amqp_data.specs.View.{view}
use Rattle.amqp_data.specs.declared.value.Value.{Value}
use Rattle.amqp_data.specs.declared.value.Entry.{Entry}
use Rattle.amqp_data.proofs.Placed.{place_is, lookup-place, lookup-no_place, replaced, added, HasDistinctKeys-along, found_along, others_along}
use Rattle.amqp_data.proofs.value.OrderedMap.insert.Goals as goal

pub invariant_of-self : goal.invariant_of-self
invariant_of-self c =
    let place = place_is (view c.args.key) c.self.inside.entries.items _ _ _ c.deref.ensures.value c.place_of.ensures c.in-Some.is in
    HasDistinctKeys-along _ _ _ _ (replaced c.args.key c.args.value c.replace-had.new.dest c.self.inside.entries.items _ c.in-Some.place c.index_mut-entry.result.now place c.index_mut-entry.ensures.value c.replace-had.ensures.after refl) c.self.invariant

pub returns-in-Some-clause-ok : goal.returns-in-Some-clause-ok
returns-in-Some-clause-ok c =
    let place = place_is (view c.args.key) c.self.inside.entries.items _ _ _ c.deref.ensures.value c.place_of.ensures c.in-Some.is in
    replaced c.args.key c.args.value c.replace-had.new.dest c.self.inside.entries.items c.args.self.now c.in-Some.place c.index_mut-entry.result.now place c.index_mut-entry.ensures.value c.replace-had.ensures.after c.self.view_is

pub returns-in-Some-clause-old : goal.returns-in-Some-clause-old
returns-in-Some-clause-old c =
    let place = place_is (view c.args.key) c.self.inside.entries.items _ _ _ c.deref.ensures.value c.place_of.ensures c.in-Some.is in
    ap (λ (z : Value). Some (view z)) c.replace-had.ensures.value
    ∙ ap (λ (z : Entry). Some (view z.value)) c.index_mut-entry.ensures.value
    ∙ sym (lookup-place (view c.args.key) c.self.inside.entries.items c.in-Some.place c.index_mut-entry.result.now place)
    ∙ ap (lookup (view c.args.key)) c.self.view_is

pub returns-in-Some-clause-found : goal.returns-in-Some-clause-found
returns-in-Some-clause-found c =
    let place = place_is (view c.args.key) c.self.inside.entries.items _ _ _ c.deref.ensures.value c.place_of.ensures c.in-Some.is in
    found_along (view c.args.key) (view c.args.value) c.args.self.now _ (replaced c.args.key c.args.value c.replace-had.new.dest c.self.inside.entries.items c.args.self.now c.in-Some.place c.index_mut-entry.result.now place c.index_mut-entry.ensures.value c.replace-had.ensures.after c.self.view_is)

pub returns-in-Some-clause-others : goal.returns-in-Some-clause-others
returns-in-Some-clause-others c =
    let place = place_is (view c.args.key) c.self.inside.entries.items _ _ _ c.deref.ensures.value c.place_of.ensures c.in-Some.is in
    others_along (view c.args.key) (view c.args.value) c.args.self.now _ (replaced c.args.key c.args.value c.replace-had.new.dest c.self.inside.entries.items c.args.self.now c.in-Some.place c.index_mut-entry.result.now place c.index_mut-entry.ensures.value c.replace-had.ensures.after c.self.view_is)

pub invariant_of-self-2 : goal.invariant_of-self-2
invariant_of-self-2 c =
    let no_place = place_is (view c.args.key) c.self.inside.entries.items _ _ _ c.deref.ensures.value c.place_of.ensures c.in_default.is in
    HasDistinctKeys-along _ _ _ _ (added c.args.key c.args.value c.self.inside.entries.items _ _ no_place c.in_ok-push.ensures.items refl) c.self.invariant

pub returns-clause-ok : goal.returns-clause-ok
returns-clause-ok c =
    let no_place = place_is (view c.args.key) c.self.inside.entries.items _ _ _ c.deref.ensures.value c.place_of.ensures c.in_default.is in
    added c.args.key c.args.value c.self.inside.entries.items _ c.args.self.now no_place c.in_ok-push.ensures.items c.self.view_is

pub returns-clause-old : goal.returns-clause-old
returns-clause-old c =
    let no_place = place_is (view c.args.key) c.self.inside.entries.items _ _ _ c.deref.ensures.value c.place_of.ensures c.in_default.is in
    sym (lookup-no_place (view c.args.key) c.self.inside.entries.items no_place) ∙ ap (lookup (view c.args.key)) c.self.view_is

pub returns-clause-found : goal.returns-clause-found
returns-clause-found c =
    let no_place = place_is (view c.args.key) c.self.inside.entries.items _ _ _ c.deref.ensures.value c.place_of.ensures c.in_default.is in
    found_along (view c.args.key) (view c.args.value) c.args.self.now _ (added c.args.key c.args.value c.self.inside.entries.items _ c.args.self.now no_place c.in_ok-push.ensures.items c.self.view_is)

pub returns-clause-others : goal.returns-clause-others
returns-clause-others c =
    let no_place = place_is (view c.args.key) c.self.inside.entries.items _ _ _ c.deref.ensures.value c.place_of.ensures c.in_default.is in
    others_along (view c.args.key) (view c.args.value) c.args.self.now _ (added c.args.key c.args.value c.self.inside.entries.items _ c.args.self.now no_place c.in_ok-push.ensures.items c.self.view_is)
