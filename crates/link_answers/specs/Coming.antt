-- What the sessions of an end hand to its links comes of frames that they heard, and what they give to the connection
-- of frames of its links (OASIS AMQP 1.0, part 2, sections 2.5.1, 2.5.5, 2.5.6 and 2.6).
use Rattle.std.specs.Prelude.{◌≡◌, ◌⊎◌, ℕ, IsSome, All, Contains, List, [], ◌∷◌, ◌++◌, Some, None, ⊤}
use Rattle.amqp_calls.specs.declared.step.Step.{Step}
use Rattle.amqp_calls.specs.declared.trace.Entry.{Entry}
use Rattle.amqp_end.specs.Deeds.{Deed, Did, Hears, Accepts, Moves, framed_of, given_by}
use Rattle.amqp_end.specs.Moves.{Move, Begun}
use Rattle.amqp_frames.specs.declared.body.FrameBody.{FrameBody}
use Rattle.amqp_frames.specs.declared.body.FrameBody.TheVariants as b
use Rattle.amqp_links.specs.State.{State as Links}
use Rattle.amqp_parts.specs.declared.part.Part.{Part}
use Rattle.amqp_parts.specs.Split.{continuation}
use Rattle.amqp_peer.specs.Peering.{Peering}
use Rattle.amqp_performatives.specs.declared.begin.Begin.{Begin}
use Rattle.amqp_performatives.specs.declared.flow.Flow.{Flow}
use Rattle.amqp_performatives.specs.declared.transfer.Transfer.{Transfer}
use Rattle.amqp_session.specs.declared.session.LinkInput.{LinkInput}
use Rattle.amqp_session.specs.declared.session.LinkInput.TheVariants as input
use Rattle.amqp_session.specs.declared.windows.Windows.{Windows}
use Rattle.amqp_session.specs.State.{State as Session, Framed}
use Rattle.amqp_session.specs.Windows.{stamped}
use Rattle.amqp_session_world.specs.Carried.{AreCarried, life_in}
use Rattle.amqp_sessions.specs.Parts.{EndpointState}
use Rattle.amqp_sessions.specs.State.{State, none_begun}
use Rattle.amqp_transport.specs.declared.frames.Frame.{Frame}
use Rattle.amqp_wire.specs.declared.link.Link.{Ghosts}
use Rattle.amqp_words.specs.declared.step.End.{End as Side}
use Rattle.link_answers.specs.Passing.{read_by, gave_by}

-- ---- from a frame to the links, and from the links to a frame

-- What links are handed of the peer was in such a frame; a Flow is of a link. Of what a session says to its links by
-- itself nothing is said.
abbrev pub Comes : (FrameBody → Type 0) → LinkInput → Type 0
Comes Is (input.Attach x) = Is (b.Attach x)
Comes Is (input.Flow x) = IsSome x.handle × Is (b.Flow x)
Comes Is (input.Transfer x payload) = Is (b.Transfer x payload)
Comes Is (input.Disposition x) = Is (b.Disposition x)
Comes Is (input.Detach x) = Is (b.Detach x)
Comes Is other = ⊤

-- a Transfer of a delivery: the first says what the link has said, but for its number and whether there is more, each
-- other one names the link alone (section 2.6.14)
abbrev pub IsPart : Transfer → Transfer → Type 0
IsPart x whole =
    (x ≡ record whole { delivery_id = x.delivery_id; more = x.more })
    ⊎ (x ≡ record (continuation whole.handle) { more = x.more })

-- it has a piece of the bytes of such a Transfer of a link
pub record IsPiece (Is : FrameBody → Type 0) (x : Transfer) (payload : List ℕ) : Type 0 where
  pub whole : Transfer
  pub before : List ℕ
  pub later : List ℕ
  pub is : Is (b.Transfer whole (before ++ (payload ++ later)))
  pub part : IsPart x whole

-- such a Flow of a link, with the state of the session in it (section 2.7.4)
abbrev pub IsStamped : (FrameBody → Type 0) → Flow → Type 0
IsStamped Is x = (windows : Windows) × ((y : Flow) × (Is (b.Flow y) × (x ≡ stamped windows y)))

-- What a session writes for its links is such a frame of theirs, or a part of one; a Flow that names no link is its
-- own. Of a Begin and an End nothing is said.
abbrev pub WritesFor : (FrameBody → Type 0) → FrameBody → Type 0
WritesFor Is (b.Attach x) = Is (b.Attach x)
WritesFor Is (b.Flow x) = (x.handle ≡ None) ⊎ IsStamped Is x
WritesFor Is (b.Transfer x payload) = IsPiece Is x payload
WritesFor Is (b.Disposition x) = Is (b.Disposition x)
WritesFor Is (b.Detach x) = Is (b.Detach x)
WritesFor Is other = ⊤

-- ---- what has passed at the sessions of an end

-- The frames that they heard, but for each Begin that a call has answered, and the frames that links gave them, each
-- for the session of that name, both in order; the calls that made a session, each with the channel of this end that
-- it is on; and those that answered a Begin of the peer, each with the channel of that.
pub record Passed : Type 0 where
  pub frames : List Framed
  pub gave : List (ℕ × FrameBody)
  pub channels : List (ℕ × ℕ)
  pub accepted : List (ℕ × ℕ)

abbrev pub frames_of : Deed → List Framed
frames_of (Hears x) = framed_of x ∷ []
frames_of deed = []

abbrev pub channels_in : Move → List (ℕ × ℕ)
channels_in (Begun name x channel limit) = (name, channel) ∷ []
channels_in m = []

abbrev pub channels_of : Deed → List (ℕ × ℕ)
channels_of (Moves m) = channels_in m
channels_of (Accepts name x channel limit incoming) = (name, channel) ∷ []
channels_of deed = []

abbrev pub accepted_of : Deed → List (ℕ × ℕ)
accepted_of (Accepts name x channel limit incoming) = (name, incoming.channel) ∷ []
accepted_of deed = []

-- what each deed adds, in order
abbrev pub added : {X : Type 0} → (Deed → List X) → List Deed → List X
added add [] = []
added add (d ∷ ds) = added add ds ++ add d

-- what has passed behind deeds, and in them
abbrev pub passed_then : List Deed → Passed → Passed
passed_then ds p = record {
  frames = p.frames ++ added frames_of ds;
  gave = p.gave ++ gave_by ds;
  channels = p.channels ++ added channels_of ds;
  accepted = p.accepted ++ added accepted_of ds;
}

abbrev pub nothing_passed : Passed
nothing_passed = record { frames = []; gave = []; channels = []; accepted = [] }

abbrev pub passed_in : List Deed → Passed
passed_in ds = passed_then ds nothing_passed

-- a Begin on that channel of the peer answers one on a channel of the session of that name (section 2.7.2)
pub record IsBegunBy (p : Passed) (session channel : ℕ) : Type 0 where
  pub begin : Begin
  pub own : ℕ
  pub names : begin.remote_channel ≡ Some own
  pub on : Contains p.channels (session, own)
  pub read : Contains p.frames (record { channel = channel; body = b.Begin begin })

-- the peer has begun that session on that channel: so, or with a Begin that the session has answered
abbrev pub IsBegunOn : Passed → ℕ → ℕ → Type 0
IsBegunOn p session channel = Contains p.accepted (session, channel) ⊎ IsBegunBy p session channel

-- a frame with that body was heard on a channel on which the peer has begun that session
abbrev pub IsRead : Passed → ℕ → FrameBody → Type 0
IsRead p session x =
    (channel : ℕ) × (IsBegunOn p session channel × Contains p.frames (record { channel = channel; body = x }))

-- a link has given it to that session
abbrev pub IsOfLink : Passed → ℕ → FrameBody → Type 0
IsOfLink p session x = Contains p.gave (session, x)

-- a frame of a session on its channel comes of the links of that
abbrev pub IsOfSession : Passed → Framed → Type 0
IsOfSession p x = (session : ℕ) × (Contains p.channels (session, x.channel) × WritesFor (IsOfLink p session) x.body)

-- ---- the sessions of an end

-- a session on that channel: what is to be handed to its links, the Transfers that wait, and the frames that are to be
-- written
pub record IsComing (channel : ℕ) (Read Gave : FrameBody → Type 0) (s : Session) : Type 0 where
  pub on : s.channel ≡ channel
  pub incoming : All (Comes Read) s.incoming
  pub held : All (λ (x : Part). IsPiece Gave x.transfer x.payload) s.held
  pub output : All (λ (x : Framed). (x.channel ≡ channel) × WritesFor Gave x.body) s.output

-- the same of the session of that name, on a channel that it was given
abbrev pub OneComes : Passed → ℕ × EndpointState → Type 0
OneComes p e =
    (channel : ℕ)
    × (Contains p.channels (e.0, channel) × IsComing channel (IsRead p e.0) (IsOfLink p e.0) e.1.session)

-- all of them, the channels that lead to them, and the frames that none has heard yet
pub record AreComing (p : Passed) (s : State) : Type 0 where
  pub endpoints : All (OneComes p) s.endpoints
  pub channels : All (λ (e : ℕ × ℕ). Contains p.channels (e.1, e.0)) s.channels
  pub remotes : All (λ (e : ℕ × ℕ). IsBegunOn p e.1 e.0) s.remotes
  pub early : All (λ (e : ℕ × List Framed). All (Contains p.frames) e.1) s.early
  pub incoming : All (λ (e : ℕ × LinkInput). Comes (IsRead p e.0) e.1) s.incoming
  pub output : All (IsOfSession p) s.output

-- ---- laws

-- what links were handed in deeds was in frames that their session heard, and each frame that was given to the
-- connection is of links of a session on its channel
pub record Passes (p : Passed) (ds : List Deed) : Type 0 where
  pub handed : All (λ (e : ℕ × LinkInput). Comes (IsRead p e.0) e.1) (read_by ds)
  pub given : All (λ (x : Frame). IsOfSession p (framed_of x)) (given_by ds)

-- where nothing has passed
abbrev pub NoneComes : Type 0
NoneComes = AreComing nothing_passed none_begun

pub record DeedsPass (p : Passed) (ds : List Deed) (s : State) : Type 0 where
  pub coming : AreComing (passed_then ds p) s
  pub passes : Passes (passed_then ds p) ds

-- whatever an end does, it goes on so
abbrev pub EndsPass : {L : Type 0} → Ghosts L → Type 0
EndsPass {L} link =
    (at : ℕ) (q : Peering L) (s : State) (l : Links) (ds : List Deed) (q' : Peering L) (s' : State) (l' : Links)
    (p : Passed)
    → Did link at q s l ds q' s' l' → AreComing p s → DeedsPass p ds s'

-- at each end of a trace
abbrev pub TracesPass : Type 0
TracesPass =
    (e : Side) (steps : List Step) (entries : List Entry) (k : AreCarried steps entries)
    → let ds : List Deed = (life_in e steps entries k.made).deeds in Passes (passed_in ds) ds
