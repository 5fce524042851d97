-- What is known of a trace, by the laws of each topic.
use Rattle.std.specs.Prelude.{List}
use Rattle.amqp_words.specs.declared.step.End.{End as Side}
use Rattle.amqp_calls.specs.declared.step.Step.{Step}
use Rattle.amqp_calls.specs.declared.trace.Entry.{Entry}
use Rattle.amqp_session_world.specs.Carried.{AreCarried}
use Rattle.amqp_session_world.proofs.Traces.{connections_answer}
use Rattle.session_answers.proofs.Given.{trace_is_put_out}
use Rattle.session_answers.proofs.Traces.{trace_answers_stand}
use Rattle.link_answers.proofs.Meeting.{ends_meet}
use Rattle.world_lives.proofs.WorldLinks.Starting.{first_links_carry}
use Rattle.world_lives.proofs.WordsCarry.Carrying.{agreed_credit_carries}
use Rattle.world_lives.proofs.OutcomeLives.Coming.{outcomes_are_carried}
use Rattle.world_lives.proofs.WorldWindows.Hearing.{ends_hear}
use Rattle.world_lives.proofs.WorldWindows.Facing.{window_is_kept, waits_for_the_begin}
use Rattle.trace_topics.specs.Answers.{EndAnswers}
use Rattle.trace_topics.specs.Windows.{WindowsHold}
use Rattle.trace_topics.specs.Explained.{Explained}

end_answers : (e : Side) (steps : List Step) (entries : List Entry) (k : AreCarried steps entries) → EndAnswers e steps entries k
end_answers e steps entries k = record {
  connection = connections_answer e steps entries k;
  sessions = trace_answers_stand e steps entries k;
  links = ends_meet e steps entries k;
}

windows_hold : (steps : List Step) (entries : List Entry) (k : AreCarried steps entries) → WindowsHold steps entries k
windows_hold steps entries k = record {
  announced = λ e. ends_hear e steps entries k;
  kept = λ e. window_is_kept e steps entries k;
  begun = λ e. waits_for_the_begin e steps entries k.made;
}

pub explained : (steps : List Step) (entries : List Entry) → AreCarried steps entries → Explained steps entries
explained steps entries k = record {
  carried = k;
  answers = λ e. end_answers e steps entries k;
  put_out = trace_is_put_out steps entries k;
  messages = λ e. first_links_carry e steps entries k;
  credit = λ e. agreed_credit_carries e steps entries k;
  outcomes = λ e. outcomes_are_carried e steps entries k;
  windows = windows_hold steps entries k;
}
