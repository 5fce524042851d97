use Rattle.amqp_sessions.proofs.Waits.{none_waits, begun_waits, awaiting_waits, accepted_waits, refused_waits, ended_waits, heard_waits, handed_waits}
use Rattle.amqp_sessions.proofs.laws.waits_for_the_end_of_the_peer.Goals as goal

pub returns-clause-none : goal.returns-clause-none
returns-clause-none c = none_waits

pub returns-clause-begun : goal.returns-clause-begun
returns-clause-begun c = begun_waits

pub returns-clause-awaiting : goal.returns-clause-awaiting
returns-clause-awaiting c = awaiting_waits

pub returns-clause-accepted : goal.returns-clause-accepted
returns-clause-accepted c = accepted_waits

pub returns-clause-refused : goal.returns-clause-refused
returns-clause-refused c = refused_waits

pub returns-clause-ended : goal.returns-clause-ended
returns-clause-ended c = ended_waits

pub returns-clause-heard : goal.returns-clause-heard
returns-clause-heard c = heard_waits

pub returns-clause-handed_out : goal.returns-clause-handed_out
returns-clause-handed_out c = handed_waits
