use Rattle.std.proofs.Common.{refl}
use Rattle.amqp_world.proofs.BothTurns.{related_start}
use Rattle.amqp_world.proofs.both.new_both.Goals as goal

pub returns-clause-related : goal.returns-clause-related
returns-clause-related c = related_start _ c.in_ok-client.ensures c.in_ok-listener.ensures c.new.ensures c.new-2.ensures refl
