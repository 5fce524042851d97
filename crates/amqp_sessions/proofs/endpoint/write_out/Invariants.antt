use Rattle.std.proofs.Common.{◌≡◌, ◌++◌, length, []}
use Rattle.amqp_session.specs.State.{seen}
use Rattle.amqp_sessions.proofs.endpoint.write_out.Given as goal

abbrev pub invariant-loop-frame : goal.invariant-loop-frame
invariant-loop-frame l = record {
  session : record (seen l.session) { output = [] } ≡ record (seen l.fn.session) { output = [] };
  output : l.output ++ (seen l.session).output ≡ l.fn.output ++ (seen l.fn.session).output;
}

abbrev pub decreases-loop-frame : goal.decreases-loop-frame
decreases-loop-frame l = length (seen l.session).output
