use Rattle.std.proofs.Common.{◌≡◌, length, take, false}
use Rattle.amqp_world.specs.Explains.{past_of, Explained, Turns}
use Rattle.amqp_world.specs.Turn.{start}
use Rattle.amqp_world.proofs.world.World.make_all.Given as goal

abbrev pub invariant-loop-step : goal.invariant-loop-step
invariant-loop-step l =
    record {
      made : l.self.steps ≡ take l.step-index l.steps;
      form : length l.self.entries ≡ l.step-index;
      explained : Explained (past_of l.self.steps l.self.entries);
      turns : Turns start (take l.step-index l.steps) l.self;
      alive : l.self.failed ≡ false;
    }
