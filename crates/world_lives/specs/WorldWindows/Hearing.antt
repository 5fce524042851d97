-- The windows that the sessions of two ends announce (OASIS AMQP 1.0, part 2, sections 2.7.2 and 2.7.4).
use Rattle.std.specs.Prelude.{List, [], ◌∷◌, ◌++◌}
use Rattle.amqp_frames.specs.declared.body.FrameBody.TheVariants as b
use Rattle.amqp_words.specs.declared.step.End.{End as Side}
use Rattle.amqp_calls.specs.declared.step.Step.{Step}
use Rattle.amqp_calls.specs.declared.trace.Entry.{Entry}
use Rattle.amqp_session.specs.State.{Framed}
use Rattle.amqp_world.specs.History.{other}
use Rattle.amqp_session_world.specs.Turn.{AreMade}
use Rattle.amqp_session_world.specs.Carried.{AreCarried}
use Rattle.session_lives.specs.Deeds.{Deed, Accepts, read_in, wrote_in}
use Rattle.world_lives.specs.Lived.{sessions_by, sessions_at, life}
use Rattle.world_lives.specs.WorldWindows.Making.{Made, made_in, AreOf}

-- the sessions that an end made in steps from the start
abbrev pub made_by : Side → (steps : List Step) (entries : List Entry) → AreMade steps entries → List Made
made_by e steps entries m = made_in (sessions_by (life e steps entries m))

-- each frame that the sessions of an end gave to its connection, or are still to give, is of one that it made
abbrev pub EndsAnnounce : Type 0
EndsAnnounce =
    (e : Side) (steps : List Step) (entries : List Entry) (m : AreMade steps entries)
    → AreOf (made_by e steps entries m)
    (wrote_in (sessions_by (life e steps entries m)) ++ (sessions_at e m.view).output)

-- the Begins by which the sessions that were accepted were asked for, in order
abbrev pub asked_of : Deed → List Framed
asked_of (Accepts name x channel limit incoming) =
    record { channel = incoming.channel; body = b.Begin incoming.begin } ∷ []
asked_of d = []

abbrev pub asked_in : List Deed → List Framed
asked_in [] = []
asked_in (d ∷ ds) = asked_of d ++ asked_in ds

-- those, and each other frame that the sessions of an end were handed, are of sessions that the other end made
pub record Hears (e : Side) (steps : List Step) (entries : List Entry) (m : AreMade steps entries) : Type 0 where
  pub asked : AreOf (made_by (other e) steps entries m) (asked_in (sessions_by (life e steps entries m)))
  pub heard : AreOf (made_by (other e) steps entries m) (read_in (sessions_by (life e steps entries m)))

abbrev pub EndsHear : Type 0
EndsHear =
    (e : Side) (steps : List Step) (entries : List Entry) (k : AreCarried steps entries) → Hears e steps entries k.made
