use Rattle.std.proofs.Common.{◌≡◌, ◌+◌, ◌<◌, ◌≤◌, List, length, subst, arith, get_or}
use Rattle.amqp_delivery.specs.declared.ranges.Range.{Range}
use Rattle.amqp_delivery.specs.Ranges.{rank, low_end, high_end}
use Rattle.amqp_delivery.specs.Search.{NoneBelow, NoneEndsBelow}
use Rattle.amqp_delivery.proofs.Parting.{absent_end, absent_above, take_inside, within, ends_from}
use Rattle.amqp_delivery.proofs.ranges.cut_out.Goals as goal

pub returns-then-place-len-clause-absent : goal.returns-then-place-len-clause-absent
returns-then-place-len-clause-absent c =
    let Below : List Range → Type 0 = λ l. NoneBelow l c.args.attachment c.args.number c.place_of-place.result in
    let below = subst Below c.deref.ensures.value c.place_of-place.ensures.below in
    absent_end c.args.attachment c.args.number c.args.ranges.now.items c.place_of-place.result c.requires.runs (omega (arith, c.if-place-len.true, c.len.ensures)) below

pub returns-then-is_above-clause-absent : goal.returns-then-is_above-clause-absent
returns-then-is_above-clause-absent c =
    let Below : List Range → Type 0 = λ l. NoneBelow l c.args.attachment c.args.number c.place_of-place.result in
    let below = subst Below c.deref.ensures.value c.place_of-place.ensures.below in
    absent_above c.args.attachment c.args.number c.args.ranges.now.items c.place_of-place.result c.index.result.now c.requires.runs (search arith) c.index.ensures below (search (arith, c.if-is_above.true, c.is_above.ensures.above))

pub take_number-parted-requires-clause-within : goal.take_number-parted-requires-clause-within
take_number-parted-requires-clause-within c =
    let Ends : List Range → Type 0 = λ l. NoneEndsBelow l c.args.attachment c.args.number c.place_of-place.result in
    let ends = subst Ends c.deref.ensures.value c.place_of-place.ensures.above in
    let l : c.place_of-place.result < length c.args.ranges.now.items = search arith in
    let low : low_end c.index.result.now ≤ rank c.args.attachment c.args.number = search (arith, c.if-is_above.false, c.is_above.ensures.above) in
    let high = ends_from c.args.attachment c.args.number c.args.ranges.now.items c.place_of-place.result c.index.result.now l c.index.ensures ends in
    let h = within c.index.result.now c.args.attachment c.args.number (search arith) (omega (arith, c.is_above.ensures.fits.1)) (omega (arith, c.is_above.ensures.fits.0)) low high in
    (h.1, h.2)

pub returns-clause-parted : goal.returns-clause-parted
returns-clause-parted c =
    let Below : List Range → Type 0 = λ l. NoneBelow l c.args.attachment c.args.number c.place_of-place.result in
    let below = subst Below c.deref.ensures.value c.place_of-place.ensures.below in
    let Ends : List Range → Type 0 = λ l. NoneEndsBelow l c.args.attachment c.args.number c.place_of-place.result in
    let ends = subst Ends c.deref.ensures.value c.place_of-place.ensures.above in
    let l : c.place_of-place.result < length c.args.ranges.now.items = search arith in
    let low : low_end c.index.result.now ≤ rank c.args.attachment c.args.number = search (arith, c.if-is_above.false, c.is_above.ensures.above) in
    let high = ends_from c.args.attachment c.args.number c.args.ranges.now.items c.place_of-place.result c.index.result.now l c.index.ensures ends in
    let h = within c.index.result.now c.args.attachment c.args.number (search arith) (omega (arith, c.is_above.ensures.fits.1)) (omega (arith, c.is_above.ensures.fits.0)) low high in
    (take_inside c.args.attachment c.args.number c.args.ranges.now.items c.take_number-parted.new.ranges.items c.place_of-place.result c.take_number-parted.result c.index.result.now c.requires.runs l c.index.ensures below h.0 h.1 h.2 (search (arith, c.take_number-parted.ensures.within)) c.take_number-parted.ensures.left c.take_number-parted.ensures.right).0

pub returns-clause-pairs : goal.returns-clause-pairs
returns-clause-pairs c =
    let Below : List Range → Type 0 = λ l. NoneBelow l c.args.attachment c.args.number c.place_of-place.result in
    let below = subst Below c.deref.ensures.value c.place_of-place.ensures.below in
    let Ends : List Range → Type 0 = λ l. NoneEndsBelow l c.args.attachment c.args.number c.place_of-place.result in
    let ends = subst Ends c.deref.ensures.value c.place_of-place.ensures.above in
    let l : c.place_of-place.result < length c.args.ranges.now.items = search arith in
    let low : low_end c.index.result.now ≤ rank c.args.attachment c.args.number = search (arith, c.if-is_above.false, c.is_above.ensures.above) in
    let high = ends_from c.args.attachment c.args.number c.args.ranges.now.items c.place_of-place.result c.index.result.now l c.index.ensures ends in
    let h = within c.index.result.now c.args.attachment c.args.number (search arith) (omega (arith, c.is_above.ensures.fits.1)) (omega (arith, c.is_above.ensures.fits.0)) low high in
    (take_inside c.args.attachment c.args.number c.args.ranges.now.items c.take_number-parted.new.ranges.items c.place_of-place.result c.take_number-parted.result c.index.result.now c.requires.runs l c.index.ensures below h.0 h.1 h.2 (search (arith, c.take_number-parted.ensures.within)) c.take_number-parted.ensures.left c.take_number-parted.ensures.right).1
