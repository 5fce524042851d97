use Rattle.std.proofs.Common.{◌≤◌, ◌-◌, ◌+◌, length}
use Rattle.list_laws.specs.Told.{Loses}
use Rattle.amqp_streams.proofs.outside.read_all.Given as goal

abbrev pub invariant-reads : goal.invariant-reads
invariant-reads g l =
    record {
      gave : Loses (g.S.Source.left l.fn.source) (g.S.Source.left l.source) l.text.items;
      later : g.S.Source.faults l.fn.source ≤ g.S.Source.faults l.source;
    }

abbrev pub decreases-reads : goal.decreases-reads
decreases-reads g l = l.limit + 1 - length l.text.items
