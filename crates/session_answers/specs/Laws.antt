-- That answers to calls for sessions stand for frames (OASIS AMQP 1.0, part 2, sections 2.5.1 and 2.5.4).
use Rattle.std.specs.Prelude.{◌≡◌, ℕ, All, Contains, List, ◌++◌, map}
use Rattle.std.specs.Map.{values_of}
use Rattle.amqp_wire.specs.declared.link.Link.{Ghosts}
use Rattle.amqp_frames.specs.Body.{read_again_body}
use Rattle.amqp_words.specs.declared.step.End.{End as Side}
use Rattle.amqp_words.specs.declared.step.End.TheVariants.{Client, Listener}
use Rattle.amqp_calls.specs.declared.reply.NamedReply.{NamedReply}
use Rattle.amqp_calls.specs.declared.step.Step.{Step}
use Rattle.amqp_calls.specs.declared.trace.Entry.{Entry}
use Rattle.amqp_links.specs.State.{State as Links}
use Rattle.amqp_peer.specs.Peering.{Peering}
use Rattle.amqp_session.specs.State.{Framed}
use Rattle.amqp_sessions.specs.State.{State}
use Rattle.amqp_end.specs.Deeds.{Deed, Did, framed_of, given_by, told_by}
use Rattle.amqp_session_world.specs.Carried.{AreCarried, life_in}
use Rattle.amqp_session_world.specs.Lives.{told_at}
use Rattle.session_answers.specs.Past.{Past, nothing}
use Rattle.session_answers.specs.Standing.{AllStand, AreStanding}
use Rattle.session_answers.specs.Passing.{added, read_of, behind}

-- Behind deeds: the sessions have put out these frames, which are those that were given to the connection and those
-- that still are to be, in order; each answer that was told, and each that is not told yet, stands for what has
-- passed.
pub record DeedsStand (p : Past) (ds : List Deed) (s s' : State) : Type 0 where
  pub written : List (ℕ × Framed)
  pub output : map framed_of (given_by ds) ++ s'.output ≡ s.output ++ values_of written
  pub standing : AreStanding (behind written ds p) s'
  pub told : AllStand (behind written ds p) (told_by ds)

-- whatever an end does, the answers of its sessions go on to stand for frames
abbrev pub AnswersStand : {L : Type 0} → Ghosts L → Type 0
AnswersStand {L} link =
    (at : ℕ) (q : Peering L) (s : State) (l : Links) (ds : List Deed) (q' : Peering L) (s' : State) (l' : Links) (p : Past)
    → Did link at q s l ds q' s' l' → AreStanding p s → DeedsStand p ds s s'

-- At an end of a trace: what its sessions have put out, under their names, begins with what they gave to the
-- connection; and each of its answers to a call for a session stands for that and for the frames that its sessions
-- were given.
pub record TraceStands (answers : List NamedReply) (ds : List Deed) : Type 0 where
  pub written : List (ℕ × Framed)
  pub later : List Framed
  pub output : map framed_of (given_by ds) ++ later ≡ values_of written
  pub stand : AllStand (behind written ds nothing) answers

abbrev pub TraceAnswersStand : Type 0
TraceAnswersStand =
    (e : Side) (steps : List Step) (entries : List Entry) (k : AreCarried steps entries)
    → TraceStands (told_at e steps entries) (life_in e steps entries k.made).deeds

-- a session has put out that frame, as it was before it was written and read again
pub record IsPutOut (written : List (ℕ × Framed)) (x : Framed) : Type 0 where
  pub session : ℕ
  pub frame : Framed
  pub there : Contains written (session, frame)
  pub again : x ≡ record { channel = frame.channel; body = read_again_body frame.body }

-- each frame that the sessions were given by the one deeds was put out by a session of the end that did the others,
-- where what its sessions have put out begins with what they gave to its connection
abbrev pub ArePutOut : List Deed → List Deed → Type 0
ArePutOut ds es =
    (written : List (ℕ × Framed)) (later : List Framed) → map framed_of (given_by es) ++ later ≡ values_of written
    → All (IsPutOut written) (added read_of ds)

-- what the sessions of each end of a trace were given those of the other have put out
pub record TraceIsPutOut (steps : List Step) (entries : List Entry) (k : AreCarried steps entries) : Type 0 where
  pub client : ArePutOut (life_in Client steps entries k.made).deeds (life_in Listener steps entries k.made).deeds
  pub listener : ArePutOut (life_in Listener steps entries k.made).deeds (life_in Client steps entries k.made).deeds

abbrev pub TracesArePutOut : Type 0
TracesArePutOut =
    (steps : List Step) (entries : List Entry) (k : AreCarried steps entries) → TraceIsPutOut steps entries k
