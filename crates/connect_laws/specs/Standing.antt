-- What the answers of an end over a link stand for, and the frames in which that came (OASIS AMQP 1.0, part 2, section
-- 2.6).
use Rattle.std.specs.Prelude.{◌≡◌, Bool, List}
use Rattle.amqp_end.specs.Deeds.{Deed, told_by}
use Rattle.amqp_end.specs.declared.end.End.{End}
use Rattle.amqp_links.specs.State.{seen as linked, no_links}
use Rattle.amqp_serve.specs.Deeds.{deeds_in}
use Rattle.amqp_serve.specs.Ran.{Turn, Ran}
use Rattle.amqp_sessions.specs.State.{seen, none_begun}
use Rattle.amqp_wire.specs.declared.link.Link.{Ghosts}
use Rattle.link_answers.specs.Coming.{Passes, passed_in}
use Rattle.link_answers.specs.Laws.{TraceStands}

-- Each answer to a call for a link that was told stands for the frames that the links have put out, and for what the
-- sessions handed to them. What was handed to them of the peer stood in frames that the sessions heard, each on a
-- channel on which the peer has begun the session; each frame that was given to the connection comes of links of a
-- session.
pub record IsStood (ds : List Deed) : Type 0 where
  pub answers : TraceStands (told_by ds) ds
  pub passes : Passes (passed_in ds) ds

-- whatever is done with an end at which no session was begun and no link attached
abbrev pub RunsStand : {L : Type 0} → Ghosts L → Type 0
RunsStand {L} link =
    (accepts : Bool) (old new : End L) (ts : List Turn) (ran : Ran link old ts new)
    → seen old.sessions ≡ none_begun → linked old.links ≡ no_links accepts → IsStood (deeds_in link old ts new ran)
