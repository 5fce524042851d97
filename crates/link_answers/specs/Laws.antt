-- That answers to calls for links stand for frames (OASIS AMQP 1.0, part 2, section 2.6).
use Rattle.std.specs.Prelude.{◌≡◌, ℕ, Bool, All, List, [], ◌++◌, ⊤}
use Rattle.std.specs.Map.{values_of}
use Rattle.amqp_calls.specs.declared.reply.NamedReply.{NamedReply}
use Rattle.amqp_calls.specs.declared.reply.Reply.{Reply}
use Rattle.amqp_calls.specs.declared.reply.Reply.TheVariants.{Connection, Session, Link}
use Rattle.amqp_calls.specs.declared.step.Step.{Step}
use Rattle.amqp_calls.specs.declared.trace.Entry.{Entry}
use Rattle.amqp_end.specs.Deeds.{Deed, Did, told_by}
use Rattle.amqp_frames.specs.declared.body.FrameBody.{FrameBody}
use Rattle.amqp_links.specs.State.{State as Links, no_links}
use Rattle.amqp_peer.specs.Peering.{Peering}
use Rattle.amqp_session_world.specs.Answers.{AreOfSessions}
use Rattle.amqp_session_world.specs.Carried.{AreCarried, life_in}
use Rattle.amqp_session_world.specs.Lives.{told_at}
use Rattle.amqp_sessions.specs.State.{State}
use Rattle.amqp_wire.specs.declared.link.Link.{Ghosts}
use Rattle.amqp_words.specs.declared.step.End.{End as Side}
use Rattle.link_answers.specs.Standing.{Given, Written, Stands}
use Rattle.link_answers.specs.Keeping.{AreStanding}
use Rattle.link_answers.specs.Passing.{behind, gave_by}

-- nothing was given
abbrev pub nothing : Given
nothing = record { asked = []; read = [] }

-- where there are no links
abbrev pub NoneStands : Type 0
NoneStands = (accepts : Bool) → AreStanding nothing [] [] (no_links accepts)

-- an answer of a link, among those of all
abbrev pub StandsAs : Given → List Written → ℕ → Reply → Type 0
StandsAs g w name (Link answer) = Stands g w name answer
StandsAs g w name (Session answer) = ⊤
StandsAs g w name (Connection answer) = ⊤

abbrev pub AllAnswered : Given → List Written → List NamedReply → Type 0
AllAnswered g w answers = All (λ (r : NamedReply). StandsAs g w r.name r.reply) answers

-- Behind deeds: the links have put out these frames more, and stand for them and for what they were given; so does each
-- answer that was told.
pub record DeedsStand (g : Given) (gave : List (ℕ × FrameBody)) (w : List Written) (ds : List Deed) (l : Links) : Type 0 where
  pub more : List Written
  pub standing : AreStanding (behind ds g) (gave ++ gave_by ds) (w ++ more) l
  pub told : AllAnswered (behind ds g) (w ++ more) (told_by ds)

-- whatever an end does whose sessions answer calls for sessions alone, the answers of its links go on to stand for frames
abbrev pub AnswersStand : {L : Type 0} → Ghosts L → Type 0
AnswersStand {L} link =
    (at : ℕ) (q : Peering L) (s : State) (l : Links) (ds : List Deed) (q' : Peering L) (s' : State) (l' : Links)
    (g : Given) (gave : List (ℕ × FrameBody)) (w : List Written)
    → Did link at q s l ds q' s' l' → AreOfSessions s.replies → AreStanding g gave w l → DeedsStand g gave w ds l'

-- At an end of a trace: what its links have put out, under their names, begins with what they gave to the sessions; and
-- each of its answers to a call for a link stands for that, for the calls, and for what the sessions handed to the links.
pub record TraceStands (answers : List NamedReply) (ds : List Deed) : Type 0 where
  pub written : List Written
  pub later : List (ℕ × FrameBody)
  pub output : gave_by ds ++ later ≡ values_of written
  pub stand : AllAnswered (behind ds nothing) written answers

abbrev pub TraceAnswersStand : Type 0
TraceAnswersStand =
    (e : Side) (steps : List Step) (entries : List Entry) (k : AreCarried steps entries)
    → TraceStands (told_at e steps entries) (life_in e steps entries k.made).deeds
