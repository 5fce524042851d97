use Rattle.std.proofs.Common.{◌≤◌}
use Rattle.amqp_clients.specs.Delivered.{GotAll}
use Rattle.amqp_clients.proofs.receiving.receive_all.Given as goal

abbrev pub invariant-loop-came : goal.invariant-loop-came
invariant-loop-came g l = record { got : GotAll g.L.Link l.fn.end l.link (g.K.Sink.written l.fn.sink) l.came l.end (g.K.Sink.written l.sink); later : g.K.Sink.faults l.fn.sink ≤ g.K.Sink.faults l.sink }
