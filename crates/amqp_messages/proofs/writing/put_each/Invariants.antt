use Rattle.std.proofs.Common.{drop}
use Rattle.amqp_messages.specs.Writing.{each}
use Rattle.amqp_messages.proofs.Added.{Going}
use Rattle.amqp_messages.proofs.writing.put_each.Given as goal

abbrev pub invariant-loop-content : goal.invariant-loop-content
invariant-loop-content g l = Going l.initial.out l.out (each l.kind g.T.Content.writes (drop l.content-index l.sections)) (each l.kind g.T.Content.writes l.sections)
