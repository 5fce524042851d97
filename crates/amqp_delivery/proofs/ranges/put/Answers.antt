use Rattle.std.proofs.Common.{◌≡◌, ◌+◌, ◌<◌, ◌≤◌, List, length, subst, ap, ◌∙◌, arith}
use Rattle.amqp_delivery.specs.declared.ranges.Range.{Range}
use Rattle.amqp_delivery.specs.Ranges.{rank, insert_pair, pairs_in}
use Rattle.amqp_delivery.proofs.Parting.{put_is, fewer_ranges, fewer_parted}
use Rattle.amqp_delivery.proofs.ranges.put.Goals as goal

pub cut-place-requires-clause-room : goal.cut-place-requires-clause-room
cut-place-requires-clause-room c = let fewer = fewer_ranges c.args.ranges.now.items c.requires.runs in search (arith, fewer, c.requires.room)

pub add_at-requires-clause-room : goal.add_at-requires-clause-room
add_at-requires-clause-room c =
    let fewer = fewer_parted c.cut-place.new.ranges.items c.cut-place.result (rank c.args.attachment c.args.number) c.cut-place.ensures.parted in
    let same : length (pairs_in c.cut-place.new.ranges.items) ≡ length (pairs_in c.args.ranges.now.items) = ap length c.cut-place.ensures.pairs in
    search (arith, fewer, same, c.requires.room, c.cut-place.ensures.room)

pub returns-clause-runs : goal.returns-clause-runs
returns-clause-runs c =
    (put_is (c.args.attachment, c.args.number) c.cut-place.new.ranges.items c.add_at.new.ranges.items c.join_at.new.ranges.items c.cut-place.result c.cut-place.ensures.parted c.add_at.ensures.added c.join_at.ensures.joined).0

pub returns-clause-pairs : goal.returns-clause-pairs
returns-clause-pairs c =
    (put_is (c.args.attachment, c.args.number) c.cut-place.new.ranges.items c.add_at.new.ranges.items c.join_at.new.ranges.items c.cut-place.result c.cut-place.ensures.parted c.add_at.ensures.added c.join_at.ensures.joined).1
    ∙ ap (insert_pair (c.args.attachment, c.args.number)) c.cut-place.ensures.pairs
