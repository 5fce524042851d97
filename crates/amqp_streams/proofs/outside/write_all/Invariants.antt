use Rattle.std.proofs.Common.{◌≤◌, ◌-◌, length, take}
use Rattle.list_laws.specs.Told.{Gains}
use Rattle.amqp_streams.proofs.outside.write_all.Given as goal

abbrev pub invariant-writes : goal.invariant-writes
invariant-writes g l =
    record {
      within : l.at ≤ length l.text;
      gained : Gains (g.K.Sink.written l.fn.sink) (g.K.Sink.written l.sink) (take l.at l.text);
      later : g.K.Sink.faults l.fn.sink ≤ g.K.Sink.faults l.sink;
    }

abbrev pub decreases-writes : goal.decreases-writes
decreases-writes g l = length l.text - l.at
