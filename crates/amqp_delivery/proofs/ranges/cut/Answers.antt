use Rattle.std.proofs.Common.{◌≡◌, ◌+◌, ◌<◌, ◌≤◌, List, length, subst, arith, get_or}
use Rattle.amqp_delivery.specs.declared.ranges.Range.{Range}
use Rattle.amqp_delivery.specs.Ranges.{rank, low_end, high_end}
use Rattle.amqp_delivery.specs.Search.{NoneBelow, NoneEndsBelow}
use Rattle.amqp_delivery.proofs.Parting.{cut_end, cut_here, cut_inside, inside, ends_from}
use Rattle.amqp_delivery.proofs.ranges.cut.Goals as goal

pub returns-then-place-len-clause-parted : goal.returns-then-place-len-clause-parted
returns-then-place-len-clause-parted c =
    let Below : List Range → Type 0 = λ l. NoneBelow l c.args.attachment c.args.number c.place_of-place.result in
    let below = subst Below c.deref.ensures.value c.place_of-place.ensures.below in
    cut_end c.args.attachment c.args.number c.args.ranges.now.items c.place_of-place.result c.requires.runs (omega (arith, c.if-place-len.true, c.len.ensures)) below

pub returns-then-not-begins_below-clause-parted : goal.returns-then-not-begins_below-clause-parted
returns-then-not-begins_below-clause-parted c =
    let Below : List Range → Type 0 = λ l. NoneBelow l c.args.attachment c.args.number c.place_of-place.result in
    let below = subst Below c.deref.ensures.value c.place_of-place.ensures.below in
    cut_here c.args.attachment c.args.number c.args.ranges.now.items c.place_of-place.result c.index.result.now c.requires.runs (search (arith, c.if-place-len.false)) c.index.ensures below (search (arith, c.if-not-begins_below.true, c.begins_below.ensures.below))

pub part-requires-clause-within : goal.part-requires-clause-within
part-requires-clause-within c =
    let Ends : List Range → Type 0 = λ l. NoneEndsBelow l c.args.attachment c.args.number c.place_of-place.result in
    let ends = subst Ends c.deref.ensures.value c.place_of-place.ensures.above in
    let l : c.place_of-place.result < length c.args.ranges.now.items = search arith in
    let low : low_end c.index.result.now < rank c.args.attachment c.args.number = search (arith, c.if-not-begins_below.false, c.begins_below.ensures.below) in
    let high = ends_from c.args.attachment c.args.number c.args.ranges.now.items c.place_of-place.result c.index.result.now l c.index.ensures ends in
    let h = inside c.index.result.now c.args.attachment c.args.number (search arith) (omega (arith, c.begins_below.ensures.fits)) low high in
    (h.1, h.2)

pub returns-clause-parted : goal.returns-clause-parted
returns-clause-parted c =
    let Below : List Range → Type 0 = λ l. NoneBelow l c.args.attachment c.args.number c.place_of-place.result in
    let below = subst Below c.deref.ensures.value c.place_of-place.ensures.below in
    let Ends : List Range → Type 0 = λ l. NoneEndsBelow l c.args.attachment c.args.number c.place_of-place.result in
    let ends = subst Ends c.deref.ensures.value c.place_of-place.ensures.above in
    let l : c.place_of-place.result < length c.args.ranges.now.items = search arith in
    let low : low_end c.index.result.now < rank c.args.attachment c.args.number = search (arith, c.if-not-begins_below.false, c.begins_below.ensures.below) in
    let high = ends_from c.args.attachment c.args.number c.args.ranges.now.items c.place_of-place.result c.index.result.now l c.index.ensures ends in
    let h = inside c.index.result.now c.args.attachment c.args.number (search arith) (omega (arith, c.begins_below.ensures.fits)) low high in
    (cut_inside c.args.attachment c.args.number c.args.ranges.now.items c.part.new.ranges.items c.place_of-place.result c.index.result.now c.requires.runs l c.index.ensures below h.0 h.1 h.2 (search (arith, c.part.ensures.within)) c.part.ensures.left c.part.ensures.right).0

pub returns-clause-pairs : goal.returns-clause-pairs
returns-clause-pairs c =
    let Below : List Range → Type 0 = λ l. NoneBelow l c.args.attachment c.args.number c.place_of-place.result in
    let below = subst Below c.deref.ensures.value c.place_of-place.ensures.below in
    let Ends : List Range → Type 0 = λ l. NoneEndsBelow l c.args.attachment c.args.number c.place_of-place.result in
    let ends = subst Ends c.deref.ensures.value c.place_of-place.ensures.above in
    let l : c.place_of-place.result < length c.args.ranges.now.items = search arith in
    let low : low_end c.index.result.now < rank c.args.attachment c.args.number = search (arith, c.if-not-begins_below.false, c.begins_below.ensures.below) in
    let high = ends_from c.args.attachment c.args.number c.args.ranges.now.items c.place_of-place.result c.index.result.now l c.index.ensures ends in
    let h = inside c.index.result.now c.args.attachment c.args.number (search arith) (omega (arith, c.begins_below.ensures.fits)) low high in
    (cut_inside c.args.attachment c.args.number c.args.ranges.now.items c.part.new.ranges.items c.place_of-place.result c.index.result.now c.requires.runs l c.index.ensures below h.0 h.1 h.2 (search (arith, c.part.ensures.within)) c.part.ensures.left c.part.ensures.right).1
