use Rattle.std.proofs.lemmas.List.Elements.{All-nil}
use Rattle.amqp_end.specs.amqp_calls.declared.reply.NamedReply.{NamedReply}
use Rattle.amqp_session_world.specs.Answers.{IsOfSession}
use Rattle.amqp_session_world.proofs.Sessions.{sessions_answer}
use Rattle.amqp_session_world.proofs.laws.sessions_answer.Goals as goal

pub returns-clause-begins : goal.returns-clause-begins
returns-clause-begins g c = All-nil (λ (r : NamedReply). IsOfSession r.reply)

pub returns-clause-goes : goal.returns-clause-goes
returns-clause-goes g c = sessions_answer g.L.Link
