-- What the answers of a trace stand for (OASIS AMQP 1.0, part 2, sections 2.4, 2.5 and 2.6).
use Rattle.std.specs.Prelude.{List}
use Rattle.amqp_words.specs.declared.step.End.{End as Side}
use Rattle.amqp_calls.specs.declared.step.Step.{Step}
use Rattle.amqp_calls.specs.declared.trace.Entry.{Entry}
use Rattle.amqp_session_world.specs.Answers.{AreAnswered}
use Rattle.amqp_session_world.specs.Carried.{AreCarried, life_in}
use Rattle.amqp_session_world.specs.Lives.{told_at}
use Rattle.session_answers.specs.Laws as session
use Rattle.link_answers.specs.Worlds.{EndMeets}

-- At an end of a trace: each answer to a call on the connection is one of its replies, with its cause; each answer to a
-- call for a session or a link stands for frames; and those for which an answer to a call for a link stands were put out by
-- links of the other end.
pub record EndAnswers (e : Side) (steps : List Step) (entries : List Entry) (k : AreCarried steps entries) : Type 0 where
  pub connection : AreAnswered e steps (told_at e steps entries) (life_in e steps entries k.made).h
  pub sessions : session.TraceStands (told_at e steps entries) (life_in e steps entries k.made).deeds
  pub links : EndMeets e steps entries k
