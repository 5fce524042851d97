use Rattle.std.proofs.Common.{◌≡◌, map}
use Rattle.amqp_sender.specs.Parting.{told_of}
use Rattle.amqp_sender.proofs.parting.all_told.Given as goal

-- what was told so far
abbrev pub invariant-loop-delivery_tag : goal.invariant-loop-delivery_tag
invariant-loop-delivery_tag l = l.told.items ≡ map told_of l.yielded
