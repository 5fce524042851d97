use Rattle.std.proofs.Common.{◌≡◌, length, take}
use Rattle.amqp_session_world.specs.Turn.{Turns}
use Rattle.amqp_session_world.specs.Worlds.{view_of}
use Rattle.amqp_session_world.proofs.world.SessionWorld.make_all.Given as goal

abbrev pub invariant-loop-step : goal.invariant-loop-step
invariant-loop-step l =
    record {
      form : length l.self.trace.entries.items ≡ l.step-index;
      turns : Turns (view_of l.fn.self) (take l.step-index l.steps) (view_of l.self);
    }
