use Rattle.std.proofs.Common.{◌≡◌, true, false, get_or, take, sym, ◌∙◌, arith}
use Rattle.std.proofs.lemmas.List.{length-set}
use Rattle.std.specs.List.{list_any}
use Rattle.amqp_data.specs.Same.{same, distinct_keys}
use Rattle.amqp_data.specs.View.{view, pairs_view}
use Rattle.amqp_data.proofs.Distinct.{keys_view, key_is_old, key_is_new, all_passed}
use Rattle.amqp_data.proofs.Marked.{is_new, one_more}
use Rattle.amqp_data.proofs.map.are_all_new.Goals.{else-seen-mark-via-then-seen-mark+else-have_key, else-seen-mark-via-else-seen-mark}
use Rattle.amqp_data.proofs.map.are_all_new.Goals as goal

pub returns-then-have_key : goal.returns-then-have_key
returns-then-have_key c =
    key_is_old c.args.entries.now c.loop-place.place c.index-entries-place.result (distinct_keys (pairs_view c.args.entries.now)) c.loop-place-test.true c.index-entries-place.is (sym c.have_key.ensures ∙ c.if-have_key.true) c.loop-place.invariant.0

pub loop-place-preserved : goal.loop-place-preserved
loop-place-preserved c =
    let e = c.index-entries-place.result in
    let mark = c.mark_of-mark.ensures in
    let new : list_any (λ z. same (view (get_or c.args.entries.now c.loop-place.place e).key) (view z.key)) (take c.loop-place.place c.args.entries.now) ≡ false = elim c.else-seen-mark.branch [ else-seen-mark-via-then-seen-mark+else-have_key w ↦ sym w.have_key.ensures ∙ w.if-have_key.false | else-seen-mark-via-else-seen-mark w ↦ is_new c.loop-place.seen (view (get_or c.args.entries.now c.loop-place.place e).key) (take c.loop-place.place c.args.entries.now) (rw mark at w.if-seen-mark.false) c.loop-place.invariant.1 ] in (
      key_is_new c.args.entries.now c.loop-place.place e (distinct_keys (pairs_view c.args.entries.now)) c.loop-place-test.true c.index-entries-place.is new c.loop-place.invariant.0,
      one_more c.loop-place.seen c.args.entries.now c.loop-place.place e c.mark_of-mark.result c.loop-place-test.true mark (omega (arith, c.mark_of-mark.type_inv, c.loop-place.invariant.2)) c.loop-place.invariant.1,
      length-set c.loop-place.seen c.mark_of-mark.result true ∙ c.loop-place.invariant.2,
    )

pub returns : goal.returns
returns c = all_passed c.args.entries.now (keys_view _) c.loop-place.place (distinct_keys (pairs_view c.args.entries.now)) c.loop-place-test.false c.loop-place.invariant.0
