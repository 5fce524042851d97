-- What links say of deliveries and of credit, from their frames to the links at the other end (OASIS AMQP 1.0, part 2, sections 2.6.7 and 2.7.6).
use Rattle.std.specs.Prelude.{ℕ, nat_eq, Bool, true, false, List, [], ◌∷◌, ◌++◌, map, flat_map, Option, Some, None}
use Rattle.amqp_composites.specs.declared.modes.Role.{Role}
use Rattle.amqp_composites.specs.declared.modes.Role.TheVariants as role
use Rattle.amqp_performatives.specs.declared.disposition.Disposition.{Disposition}
use Rattle.amqp_performatives.specs.declared.flow.Flow.{Flow}
use Rattle.amqp_frames.specs.declared.body.FrameBody.{FrameBody}
use Rattle.amqp_frames.specs.declared.body.FrameBody.TheVariants as b
use Rattle.amqp_frames.specs.declared.shared.LinkFrame.{LinkFrame}
use Rattle.amqp_link.specs.Link.{body_of}
use Rattle.amqp_session.specs.declared.session.LinkInput.{LinkInput}
use Rattle.amqp_session.specs.declared.session.LinkInput.TheVariants as input
use Rattle.amqp_session.specs.declared.session.SessionState.{SessionState}
use Rattle.amqp_session.specs.declared.session.SessionState.TheVariants as state
use Rattle.amqp_session.specs.State.{State, Framed}
use Rattle.session_laws.specs.Holding.{Move, tells, after}
use Rattle.session_laws.specs.Settling.{IsAmong}

-- each of these is one of those
abbrev pub AreAmong : {X : Type 0} → List X → List X → Type 0
AreAmong [] ys = Unit {0}
AreAmong (x ∷ xs) ys = IsAmong x ys × AreAmong xs ys

abbrev pub bodies : List Framed → List FrameBody
bodies xs = map (λ (x : Framed). x.body) xs

-- ---- deliveries

-- the Dispositions of receivers
abbrev pub by_receiver : Role → Disposition → List Disposition
by_receiver role.Receiver x = x ∷ []
by_receiver role.Sender x = []

abbrev pub ruling_in : FrameBody → List Disposition
ruling_in (b.Disposition x) = by_receiver x.role x
ruling_in other = []

abbrev pub rulings : List FrameBody → List Disposition
rulings xs = flat_map ruling_in xs

-- ---- credit

-- the Flows of links
abbrev pub flow_in : FrameBody → List Flow
flow_in (b.Flow x) = x ∷ []
flow_in other = []

abbrev pub flows : List FrameBody → List Flow
flows xs = flat_map flow_in xs

-- those of the link with that handle
abbrev pub flow_if : Bool → Flow → List Flow
flow_if true x = x ∷ []
flow_if false x = []

abbrev pub is_on : ℕ → Option ℕ → Bool
is_on handle None = false
is_on handle (Some other) = nat_eq other handle

abbrev pub flow_on : ℕ → FrameBody → List Flow
flow_on handle (b.Flow x) = flow_if (is_on handle x.handle) x
flow_on handle other = []

abbrev pub flows_on : ℕ → List FrameBody → List Flow
flows_on handle xs = flat_map (flow_on handle) xs

-- ---- sessions

-- the frame that brings what a session hands to its links, if it is a Flow or a Disposition
abbrev pub brought_by : LinkInput → List FrameBody
brought_by (input.Flow x) = b.Flow x ∷ []
brought_by (input.Disposition x) = b.Disposition x ∷ []
brought_by other = []

abbrev pub brought : List LinkInput → List FrameBody
brought xs = flat_map brought_by xs

-- a session takes the frames of its links where both ends have begun it
abbrev pub spoken_in : SessionState → LinkFrame → List FrameBody
spoken_in state.Mapped x = body_of x ∷ []
spoken_in phase x = []

abbrev pub spoken_by : State → Move → List FrameBody
spoken_by s (tells x) = spoken_in s.state x
spoken_by s other = []

-- the frames that it has taken of its links, in order
abbrev pub spoken : State → List Move → List FrameBody
spoken s [] = []
spoken s (m ∷ ms) = spoken_by s m ++ spoken (after s m) ms
