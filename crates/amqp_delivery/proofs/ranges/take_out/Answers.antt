use Rattle.amqp_delivery.proofs.Parting.{taken_is}
use Rattle.amqp_delivery.proofs.ranges.take_out.Goals as goal

pub returns-in-Some-clause-runs : goal.returns-in-Some-clause-runs
returns-in-Some-clause-runs c =
    (taken_is (c.args.attachment, c.args.number) c.args.ranges.now.items c.cut_out.new.ranges.items c.join_at.new.ranges.items c.in-Some.place c.in-Some.ensures.parted c.in-Some.ensures.pairs c.join_at.ensures.joined).0

pub returns-in-Some-clause-pairs : goal.returns-in-Some-clause-pairs
returns-in-Some-clause-pairs c =
    (taken_is (c.args.attachment, c.args.number) c.args.ranges.now.items c.cut_out.new.ranges.items c.join_at.new.ranges.items c.in-Some.place c.in-Some.ensures.parted c.in-Some.ensures.pairs c.join_at.ensures.joined).1
