use Rattle.std.proofs.Common.{◌≡◌, ◌++◌, length, []}
use Rattle.amqp_session.specs.State.{seen}
use Rattle.amqp_sessions.specs.Parts.{named}
use Rattle.amqp_sessions.proofs.endpoint.relay.Given as goal

abbrev pub invariant-loop-input : goal.invariant-loop-input
invariant-loop-input l = record {
  session : record (seen l.session) { incoming = [] } ≡ record (seen l.fn.session) { incoming = [] };
  incoming : l.incoming ++ named l.name (seen l.session).incoming ≡ l.fn.incoming ++ named l.name (seen l.fn.session).incoming;
}

abbrev pub decreases-loop-input : goal.decreases-loop-input
decreases-loop-input l = length (seen l.session).incoming
