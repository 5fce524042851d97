-- What is known of a trace of two ends with sessions and links, topic by topic (OASIS AMQP 1.0, part 2).
use Rattle.std.specs.Prelude.{List}
use Rattle.amqp_words.specs.declared.step.End.{End as Side}
use Rattle.amqp_calls.specs.declared.step.Step.{Step}
use Rattle.amqp_calls.specs.declared.trace.Entry.{Entry}
use Rattle.amqp_session_world.specs.Carried.{AreCarried}
use Rattle.session_answers.specs.Laws.{TraceIsPutOut}
use Rattle.trace_topics.specs.Answers.{EndAnswers}
use Rattle.trace_topics.specs.Messages.{MessagesCarry}
use Rattle.trace_topics.specs.Credit.{CreditCarries}
use Rattle.trace_topics.specs.Outcomes.{OutcomesCarry}
use Rattle.trace_topics.specs.Windows.{WindowsHold}

-- Two ends made these steps from the start, these are their entries, and the connection of each carries its sessions. Of
-- each end the answers stand for what they say; the sessions of one were given what those of the other have put out; and
-- messages, credit, outcomes and windows are carried between the two.
pub record Explained (steps : List Step) (entries : List Entry) : Type 0 where
  pub carried : AreCarried steps entries
  pub answers : (e : Side) → EndAnswers e steps entries carried
  pub put_out : TraceIsPutOut steps entries carried
  pub messages : MessagesCarry steps entries carried
  pub credit : CreditCarries steps entries carried
  pub outcomes : OutcomesCarry steps entries carried
  pub windows : WindowsHold steps entries carried

-- each trace of two ends is
abbrev pub TracesAreExplained : Type 0
TracesAreExplained = (steps : List Step) (entries : List Entry) → AreCarried steps entries → Explained steps entries
