use Rattle.std.proofs.Common.{◌≡◌, ◌+◌, ◌-◌, ◌/◌, ◌++◌, ◌∷◌, [], length, Some, None, refl, sym, ap, ◌∙◌, arith}
use Rattle.amqp_data.proofs.Distinct.{was_there, was_not_there, put_last}
use Rattle.amqp_data.specs.View.{view}
use Rattle.amqp_faults.specs.declared.form.Width.{Width}
use Rattle.amqp_faults.specs.declared.form.Form.TheVariants as f
use Rattle.amqp_faults.specs.Faults.{value_past, before, placed, Wrong, WrongBehind, WrongParts, WrongPairs, in_scalar, in_descriptor, in_described, cut_block, no_count, in_content, in_value, more_values, odd_count, in_pairs, in_pair, more_pairs, in_key, in_its_value}
use Rattle.amqp_faults.proofs.Steps.{PairsRead, no_pairs_read, a_pair_more}
use Rattle.amqp_faults.proofs.Behind.{none_behind, none_in}
use Rattle.amqp_faults.proofs.Made.{ok_map, deep, ended, uncoded, coded, refused_behind, odd, even, old_key, left_pairs, left_values, has_pair, second_wrong}
use Rattle.amqp_faults.proofs.values.+fault.Goals as goal

pub fault_at-returns-then-depth-eq0-clause-wrong : goal.fault_at-returns-then-depth-eq0-clause-wrong
fault_at-returns-then-depth-eq0-clause-wrong t c = rw c.here.ensures (deep c.args.depth c.args.bytes.now c.if-depth-eq0.true)

pub fault_at-returns-in_default-clause-wrong : goal.fault_at-returns-in_default-clause-wrong
fault_at-returns-in_default-clause-wrong t c = rw c.here-in_default.ensures (ended c.args.depth c.args.bytes.now c.if-depth-eq0.false c.in_default.ensures)

pub fault_at-fault_behind-requires : goal.fault_at-fault_behind-requires
fault_at-fault_behind-requires t c =
    (omega (arith, c.decreases), refused_behind c.args.depth c.in-Some.first c.args.bytes.now c.in-Some.rest.now c.in-Some-form_of.form c.requires c.if-depth-eq0.false c.in-Some.ensures (sym c.in-Some-form_of.ensures))

pub fault_at-returns-in-None-clause-wrong : goal.fault_at-returns-in-None-clause-wrong
fault_at-returns-in-None-clause-wrong t c =
    rw (c.here-in-None.ensures, c.reason_of_code.ensures) (uncoded c.args.depth c.in-Some.first c.args.bytes.now c.in-Some.rest.now c.if-depth-eq0.false c.in-Some.ensures (sym c.in-None.ensures))

pub fault_at-returns-in-Some-form_of-clause-wrong : goal.fault_at-returns-in-Some-form_of-clause-wrong
fault_at-returns-in-Some-form_of-clause-wrong t c =
    ok_map c.fault_behind.result (λ f. WrongBehind (c.args.depth - 1) c.in-Some-form_of.form c.in-Some.rest.now f.offset f.reason) (λ f. Wrong c.args.depth c.args.bytes.now f.offset f.reason)
    (λ f w. coded c.args.depth c.in-Some.first c.args.bytes.now c.in-Some.rest.now c.in-Some-form_of.form f.offset f.reason c.if-depth-eq0.false c.in-Some.ensures (sym c.in-Some-form_of.ensures) w) c.fault_behind.ensures.wrong

pub fault_behind-returns-in-Scalar-clause-wrong : goal.fault_behind-returns-in-Scalar-clause-wrong
fault_behind-returns-in-Scalar-clause-wrong t c = rw (c.in-Scalar.is, c.fault_in_scalar.ensures.0) (in_scalar c.args.depth c.in-Scalar.layout c.args.rest.now c.fault_in_scalar.result.reason c.fault_in_scalar.ensures.1)

pub fault_in_block-returns-in_default-clause-wrong : goal.fault_in_block-returns-in_default-clause-wrong
fault_in_block-returns-in_default-clause-wrong t c = rw c.here.ensures (cut_block c.args.depth c.args.form c.args.width c.args.rest.now c.requires.width c.in_default.ensures.taken)

pub fault_in_block-returns-in_default-take_size-clause-wrong : goal.fault_in_block-returns-in_default-take_size-clause-wrong
fault_in_block-returns-in_default-take_size-clause-wrong t c =
    rw c.here-in_default-take_size.ensures (no_count c.args.depth c.args.form c.args.width c.args.rest.now c.in-Some.content.now c.in-Some.field-0-1.now c.requires.width c.in-Some.ensures.taken c.in_default-take_size.ensures.taken)

pub fault_in_block-fault_in_parts-requires : goal.fault_in_block-fault_in_parts-requires
fault_in_block-fault_in_parts-requires t c =
    (omega (arith, c.decreases), none_in c.args.depth c.args.form c.args.width c.in-Some-take_size.count c.args.rest.now c.in-Some.content.now c.in-Some.field-0-1.now c.in-Some-take_size.parts.now c.requires.none c.requires.width c.in-Some.ensures.taken c.in-Some-take_size.ensures.taken)

pub fault_in_block-returns-clause-wrong : goal.fault_in_block-returns-clause-wrong
fault_in_block-returns-clause-wrong t c =
    rw c.placed.ensures (in_content c.args.depth c.args.form c.args.width c.args.rest.now c.in-Some.content.now c.in-Some.field-0-1.now c.in-Some-take_size.parts.now c.in-Some-take_size.count c.in_ok-found.found.place c.in_ok-found.found.reason c.requires.width c.in-Some.ensures.taken c.in-Some-take_size.ensures.taken c.in_ok-found.ensures.wrong)

pub fault_in_described-fault_at-requires-in-Some : goal.fault_in_described-fault_at-requires-in-Some
fault_in_described-fault_at-requires-in-Some t c = (omega (arith, c.decreases), none_behind c.args.depth c.args.rest.now c.in-Some.after.now c.requires (rw c.in-Some.is at c.in_ok-past.ensures).0)

pub fault_in_described-returns-in_ok-fault-in-None-clause-wrong : goal.fault_in_described-returns-in_ok-fault-in-None-clause-wrong
fault_in_described-returns-in_ok-fault-in-None-clause-wrong t c = rw c.behind.ensures (in_descriptor c.args.depth c.args.rest.now _ _ c.in_ok-fault-in-None.ensures.wrong)

pub fault_in_described-returns-in_ok-fault-in-Some-clause-wrong : goal.fault_in_described-returns-in_ok-fault-in-Some-clause-wrong
fault_in_described-returns-in_ok-fault-in-Some-clause-wrong t c =
    rw c.behind-in-Some.ensures (in_described c.args.depth c.args.rest.now c.in-Some.after.now _ _ (rw c.in-Some.is at c.in_ok-past.ensures).0 c.in_ok-fault-in-Some.ensures.wrong)

pub fault_in_list-returns-in-None-clause-wrong : goal.fault_in_list-returns-in-None-clause-wrong
fault_in_list-returns-in-None-clause-wrong t c = λ w.
    rw c.in_block.ensures (in_value c.args.depth w c.args.count c.values.counter c.args.parts.now c.values.rest.now c.in_ok-fault-in-None.fault.offset c.in_ok-fault-in-None.fault.reason c.values-test.true c.values.invariant.0 c.in_ok-fault-in-None.ensures.wrong)

pub fault_in_list-returns-clause-wrong : goal.fault_in_list-returns-clause-wrong
fault_in_list-returns-clause-wrong t c = λ w.
    let all : c.values.counter ≡ c.args.count = omega arith in
    rw c.whole.ensures (more_values c.args.depth w c.args.count c.args.parts.now c.values.rest.now (left_values (value_past c.args.depth) c.args.count c.values.counter c.args.parts.now c.values.rest.now all c.values.invariant.0) (omega arith))

pub fault_in_map-returns-then-count-ne0-clause-wrong : goal.fault_in_map-returns-then-count-ne0-clause-wrong
fault_in_map-returns-then-count-ne0-clause-wrong t c = λ w. rw c.whole.ensures (odd_count c.args.depth w c.args.count c.args.parts.now (odd c.args.count c.if-count-ne0.true))

pub fault_in_map-returns-clause-wrong : goal.fault_in_map-returns-clause-wrong
fault_in_map-returns-clause-wrong t c =
    ok_map c.fault_in_pairs.result (λ x. WrongPairs c.args.depth (c.args.count / 2) c.args.parts.now x.place x.reason) (λ x. (w : Width) → WrongParts c.args.depth (f.Map w) c.args.count c.args.parts.now x.place x.reason)
    (λ x p w. in_pairs c.args.depth w c.args.count (c.args.count / 2) c.args.parts.now x.place x.reason (even c.args.count c.if-count-ne0.false) p) c.fault_in_pairs.ensures.wrong

pub fault_in_pairs-pairs-init : goal.fault_in_pairs-pairs-init
fault_in_pairs-pairs-init t c = rw c.new-seen.ensures.empty (no_pairs_read c.args.depth c.args.parts.now)

pub fault_in_pairs-returns-in-Wrong-clause-wrong : goal.fault_in_pairs-returns-in-Wrong-clause-wrong
fault_in_pairs-returns-in-Wrong-clause-wrong t c =
    let p = rw c.in-Wrong.is at c.in_ok-fault.ensures in
    rw c.in_block.ensures (in_pair c.args.depth c.args.count c.pairs.counter c.args.parts.now c.pairs.rest.now c.pairs.invariant.pairs c.in-Wrong.fault.offset c.in-Wrong.fault.reason c.pairs-test.true c.pairs.invariant.read p.0)

pub fault_in_pairs-returns-then-not-branch-clause-wrong : goal.fault_in_pairs-returns-then-not-branch-clause-wrong
fault_in_pairs-returns-then-not-branch-clause-wrong t c =
    let p = rw c.in-Read.is at c.in_ok-fault.ensures in
    old_key c.args.depth c.args.count c.args.parts.now c.pairs.counter c.pairs.seen.keys c.pairs.rest.now c.in-Read.key c.in-Read.after.now c.pairs-test.true c.pairs.invariant p (was_there _ _ c.in_ok-insert-in-Read.ensures.added c.if-not-branch.true)

pub fault_in_pairs-pairs-preserved : goal.fault_in_pairs-pairs-preserved
fault_in_pairs-pairs-preserved t c =
    let p = rw c.in-Read.is at c.in_ok-fault.ensures in
    let absent = was_not_there _ _ c.in_ok-insert-in-Read.ensures.added c.if-not-branch.false in
    let grown = put_last _ _ _ _ c.in_ok-insert-in-Read.ensures.keys absent in
    rw grown (a_pair_more c.args.depth c.args.parts.now c.pairs.counter c.pairs.seen.keys c.pairs.rest.now p.after c.in-Read.after.now c.in-Read.key p.value c.pairs.invariant p.first p.second p.shorter absent)

pub fault_in_pairs-returns-clause-wrong : goal.fault_in_pairs-returns-clause-wrong
fault_in_pairs-returns-clause-wrong t c =
    let all : c.pairs.counter ≡ c.args.count = omega arith in
    rw c.whole.ensures (left_pairs c.args.depth c.args.count c.args.parts.now c.pairs.counter c.pairs.seen.keys c.pairs.rest.now all (omega arith) c.pairs.invariant)

pub front_pair-returns-in_default : goal.front_pair-returns-in_default
front_pair-returns-in_default t c = (in_key c.args.depth c.args.bytes.now c.in_ok-fault.fault.offset c.in_ok-fault.fault.reason c.in_ok-fault.ensures.wrong, c.in_ok-fault.ensures.within)

pub front_pair-returns-in-Some-2 : goal.front_pair-returns-in-Some-2
front_pair-returns-in-Some-2 t c =
    let key = rw c.in-Some.is at c.in_ok-key.ensures in
    let rest = rw c.in-Some-2.is at c.in_ok-rest.ensures in
    has_pair c.args.depth c.args.bytes.now c.in-Some.after.now c.in-Some-2.rest.now (view c.in-Some.key) key.0 key.1 rest.0 rest.1

pub front_pair-returns-in_ok-fault-in-None : goal.front_pair-returns-in_ok-fault-in-None
front_pair-returns-in_ok-fault-in-None t c =
    let key = rw c.in-Some.is at c.in_ok-key.ensures in
    rw c.behind.ensures (
      second_wrong c.args.depth c.args.bytes.now c.in-Some.after.now (view c.in-Some.key) c.in_ok-fault-in-None.fault.offset c.in_ok-fault-in-None.fault.reason key.0 c.in_ok-fault-in-None.ensures.wrong,
      omega (arith, key.1, c.in_ok-fault-in-None.ensures.within),
    )
