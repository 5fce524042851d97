-- What an end over a link has heard whose answers give deliveries (OASIS AMQP 1.0, part 2, section 2.6.14).
use Rattle.std.specs.Prelude.{◌≡◌, ◌≤◌, ℕ, Bool, length, List, []}
use Rattle.amqp_wire.specs.declared.link.Link.{Ghosts}
use Rattle.amqp_links.specs.State.{seen as linked, no_links}
use Rattle.amqp_sessions.specs.State.{seen, none_begun}
use Rattle.amqp_end.specs.declared.end.End.{End}
use Rattle.amqp_end.specs.Deeds.{heard_by}
use Rattle.amqp_serve.specs.Answers.{counted_all}
use Rattle.amqp_serve.specs.Deeds.{deeds_in}
use Rattle.amqp_serve.specs.Endings.{WasServed}
use Rattle.amqp_serve.specs.Ran.{Turn, Ran, told}
use Rattle.served_connection.specs.ListenLaws.Carried.{carried, AreAnew}
use Rattle.served_connection.specs.ListenLaws.Ended.{ended_in}

-- an end at which no session was begun, no link attached and nothing answered
pub record IsIdle {L : Type 0} (e : End L) : Type 0 where
  pub accepts : Bool
  pub sessions : seen e.sessions ≡ none_begun
  pub links : linked e.links ≡ no_links accepts
  pub replies : e.replies.items ≡ []

-- of the messages that came in answers, each for a delivery that the frames have ended which the sessions heard
abbrev pub MessagesCame : {L : Type 0} → Ghosts L → Type 0
MessagesCame {L} link =
    (old new : End L) (ts : List Turn) (ran : Ran link old ts new) → IsIdle old
    → counted_all (told ts) 0 ≤ ended_in (heard_by (deeds_in link old ts new ran))

-- so it is with an end that was served
abbrev pub ServedCame : {L : Type 0} → Ghosts L → Type 0
ServedCame {L} link =
    (old new : End L) (count : ℕ) (served : WasServed link old new count) → IsIdle old
    → count ≤ ended_in (heard_by (deeds_in link old served.turns new served.ran))

-- where no Transfer that they heard resumes a delivery, no more messages were counted than were carried whole
abbrev pub ServedWhole : {L : Type 0} → Ghosts L → Type 0
ServedWhole {L} link =
    (old new : End L) (count : ℕ) (served : WasServed link old new count) → IsIdle old
    → AreAnew (heard_by (deeds_in link old served.turns new served.ran))
    → count ≤ length (carried [] (heard_by (deeds_in link old served.turns new served.ran)))
