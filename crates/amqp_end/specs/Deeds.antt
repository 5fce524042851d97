-- What an end with sessions and links does, one after another.
use Rattle.std.specs.Prelude.{◌≡◌, ◌⊎◌, ℕ, List, [], ◌∷◌, ◌++◌, true, Some, Ok, Err}
use Rattle.amqp_sessions.specs.amqp_calls.declared.call.SessionNumbers.{SessionNumbers}
use Rattle.amqp_sessions.specs.amqp_calls.declared.reply.NamedReply.{NamedReply}
use Rattle.amqp_frames.specs.declared.shared.IncomingSession.{IncomingSession}
use Rattle.amqp_frames.specs.declared.shared.LinkFrame.{LinkFrame}
use Rattle.amqp_sessions.specs.amqp_link_words.declared.link_call.LinkCall.{LinkCall}
use Rattle.amqp_links.specs.declared.output.LinksOutput.TheVariants as out
use Rattle.amqp_links.specs.Calling.{Calls}
use Rattle.amqp_links.specs.Inputs.{input_read}
use Rattle.amqp_links.specs.Parts.{told}
use Rattle.amqp_links.specs.State.{State as Links, TakesOutput}
use Rattle.amqp_links.specs.Timing.{at_moment, looked}
use Rattle.amqp_transport.specs.declared.frames.Frame.{Frame}
use Rattle.amqp_wire.specs.declared.link.Link.{Ghosts}
use Rattle.amqp_words.specs.declared.call.Call.{Call as ConnectionCall}
use Rattle.amqp_engine.specs.declared.error.AllocSessionError.{AllocSessionError}
use Rattle.amqp_peer.specs.Frames.{asking}
use Rattle.amqp_peer.specs.Handed.{HandsOn, HandsLast, Sent}
use Rattle.amqp_peer.specs.Hearing.{hears_in, IsOpenIn}
use Rattle.amqp_peer.specs.History.{Local, Made, Polled}
use Rattle.amqp_peer.specs.Passing.{IsHeldAlone, TakesIncoming, TakesSession, AllocatesLate, freed_in, Passes}
use Rattle.amqp_peer.specs.Peering.{Peering}
use Rattle.amqp_peer.specs.Runs.{Stepped}
use Rattle.amqp_session.specs.declared.session.LinkInput.{LinkInput}
use Rattle.amqp_session.specs.State.{Framed}
use Rattle.amqp_sessions.specs.State.{State, TakesFrame, TakesInput, TakesChannel}
use Rattle.amqp_sessions.specs.Calls.{accepted}
use Rattle.amqp_sessions.specs.Frames.{heard, written, refusing}
use Rattle.amqp_end.specs.Answers.{together, AreOrdered, with_first}
use Rattle.amqp_end.specs.Asks.{limit_for}
use Rattle.amqp_end.specs.Moves.{Move, on, IsCaused}

-- a frame of a session, as its endpoint sees it
abbrev pub framed_of : Frame → Framed
framed_of x = record { channel = x.channel; body = x.body }

-- a call is made on the connection, or it is polled, or it makes one step, each with what this adds to its history; the sessions move by
-- themselves, for a cause; the first frame that waits for them at the connection is heard; the first that they have to write is given to it, with what this
-- adds to its history; a channel is taken, or there is none; a channel of a session that is ended is given back; a session that the peer asks
-- for is accepted; a call is made on the links; the first of what the sessions have for their links is heard by them; the first frame that the
-- links write goes to its session; for an Attach of a link that this end does not have its session is ended; the links are told the moment,
-- and they look at the clock; the answers of all three are taken out, and told in the order of their names, or those to the call of that
-- name before the others
pub data Deed : Type 0 where
  Makes : ℕ → ConnectionCall → List Local → Deed
  Polls : List Local → Deed
  Goes : List Local → Deed
  Moves : Move → Deed
  Hears : Frame → Deed
  Writes : Frame → List Local → Deed
  Seats : ℕ → Deed
  Lacks : AllocSessionError → Deed
  Frees : ℕ → Deed
  Accepts : ℕ → SessionNumbers → ℕ → ℕ → IncomingSession → Deed
  Asks : ℕ → LinkCall → Deed
  LinksHear : ℕ → LinkInput → Deed
  LinksWrite : ℕ → LinkFrame → Deed
  LinksLack : ℕ → Deed
  LinksKnow : Deed
  LinksLook : Deed
  Tells : List NamedReply → Deed
  TellsFirst : ℕ → List NamedReply → Deed

-- one step of the connection at that moment, behind which another may follow or nothing more can be done
abbrev pub IsStep : {L : Type 0} → Ghosts L → ℕ → Peering L → List Local → Peering L → Type 0
IsStep link at p events p' =
    ((k : HandsOn link at p p') × (k.0.run.events ≡ events)) ⊎ ((k : HandsLast link at p p') × (k.0.run.events ≡ events))

-- the first frame that the sessions have to write is given to the connection, which is open, or hears no more
pub record IsPassedOn {L : Type 0} (link : Ghosts L) (p : Peering L) (s : State) (x : Frame) (events : List Local) (p' : Peering L) (s' : State) : Type 0 where
  pub takes : TakesFrame s (Some (framed_of x)) s'
  pub passes : Passes x p p'
  pub sent : Sent link x p p'
  pub adds : sent.events ≡ events
  pub opened : hears_in p.held ≡ true → IsOpenIn p.held

-- the connection, the sessions and the links before a deed at that moment and behind it
abbrev pub IsDeed : {L : Type 0} → Ghosts L → ℕ → Peering L → State → Links → Deed → Peering L → State → Links → Type 0
IsDeed link at p s l (Makes name call events) p' s' l' = ((k : Stepped link p (Made at name call) p') × (k.events ≡ events)) × (s' ≡ s) × (l' ≡ l)
IsDeed link at p s l (Polls events) p' s' l' = ((k : Stepped link p (Polled at) p') × (k.events ≡ events)) × (s' ≡ s) × (l' ≡ l)
IsDeed link at p s l (Goes events) p' s' l' = IsStep link at p events p' × (s' ≡ s) × (l' ≡ l)
IsDeed link at p s l (Moves m) p' s' l' = (p' ≡ p) × (s' ≡ on m s) × (l' ≡ l) × IsCaused m p.held
IsDeed link at p s l (Hears x) p' s' l' =
    TakesIncoming p.held (Some x) p'.held × IsHeldAlone p p' × (s' ≡ heard (framed_of x) s) × (l' ≡ l)
IsDeed link at p s l (Writes x events) p' s' l' = IsPassedOn link p s x events p' s' × (l' ≡ l)
IsDeed link at p s l (Seats channel) p' s' l' = AllocatesLate p.held (Ok channel) p'.held × IsHeldAlone p p' × (s' ≡ s) × (l' ≡ l)
IsDeed link at p s l (Lacks e) p' s' l' = AllocatesLate p.held (Err e) p'.held × IsHeldAlone p p' × (s' ≡ s) × (l' ≡ l)
IsDeed link at p s l (Frees channel) p' s' l' =
    TakesChannel s (Some channel) s' × (p' ≡ record p { held = freed_in p.held channel }) × (l' ≡ l)
IsDeed link at p s l (Accepts name x channel limit incoming) p' s' l' =
    TakesSession p.held (Some incoming) p'.held × IsHeldAlone p p' × (s' ≡ accepted name x channel limit incoming s) × (l' ≡ l)
IsDeed link at p s l (Asks name call) p' s' l' = (p' ≡ p) × (s' ≡ s) × Calls name call (limit_for call s) l l'
IsDeed link at p s l (LinksHear session x) p' s' l' = (p' ≡ p) × TakesInput s (Some (session, x)) s' × (l' ≡ input_read session x l)
IsDeed link at p s l (LinksWrite session x) p' s' l' = (p' ≡ p) × (s' ≡ written session x s) × TakesOutput l (Some (told (out.Frame session x))) l'
IsDeed link at p s l (LinksLack session) p' s' l' = (p' ≡ p) × (s' ≡ refusing session s) × TakesOutput l (Some (told (out.Astray session))) l'
IsDeed link at p s l LinksKnow p' s' l' = (p' ≡ p) × (s' ≡ s) × (l' ≡ at_moment at l)
IsDeed link at p s l LinksLook p' s' l' = (p' ≡ p) × (s' ≡ s) × (l' ≡ looked l)
IsDeed link at p s l (Tells answers) p' s' l' =
    (p' ≡ record p { replies = [] }) × (s' ≡ record s { replies = [] }) × (l' ≡ record l { replies = [] }) × AreOrdered (together s.replies p.replies l.replies) answers
IsDeed link at p s l (TellsFirst name answers) p' s' l' =
    (p' ≡ record p { replies = [] }) × (s' ≡ record s { replies = [] }) × (l' ≡ record l { replies = [] }) × AreOrdered (together s.replies p.replies l.replies) answers

-- the end did these at that moment, the newest first
abbrev pub Did : {L : Type 0} → Ghosts L → ℕ → Peering L → State → Links → List Deed → Peering L → State → Links → Type 0
Did link at p s l [] p' s' l' = (p' ≡ p) × (s' ≡ s) × (l' ≡ l)
Did {L} link at p s l (d ∷ ds) p' s' l' =
    (q : Peering L) × (t : State) × (m : Links) × Did link at p s l ds q t m × IsDeed link at q t m d p' s' l'

-- ---- what deeds tell

-- what a deed adds to the history of the connection
abbrev pub adds : ℕ → Deed → List Local
adds at (Makes name call events) = events ++ Made at name call ∷ []
adds at (Polls events) = events ++ Polled at ∷ []
adds at (Goes events) = events
adds at (Writes x events) = events
adds at deed = []

-- its history behind deeds at that moment
abbrev pub behind : ℕ → List Deed → List Local → List Local
behind at [] h = h
behind at (d ∷ ds) h = adds at d ++ behind at ds h

-- the calls that were made on it, the newest first
abbrev pub called_of : Deed → List (ℕ × ConnectionCall)
called_of (Makes name call events) = (name, call) ∷ []
called_of deed = []

abbrev pub called_by : List Deed → List (ℕ × ConnectionCall)
called_by [] = []
called_by (d ∷ ds) = called_of d ++ called_by ds

-- the calls that were made on the links, the newest first
abbrev pub links_called_of : Deed → List (ℕ × LinkCall)
links_called_of (Asks name call) = (name, call) ∷ []
links_called_of deed = []

abbrev pub links_called_by : List Deed → List (ℕ × LinkCall)
links_called_by [] = []
links_called_by (d ∷ ds) = links_called_of d ++ links_called_by ds

-- the frames by which the sessions that were accepted were asked for, in order
abbrev pub asked_of : Deed → List Frame
asked_of (Accepts name x channel limit incoming) = asking incoming ∷ []
asked_of deed = []

abbrev pub asked_by : List Deed → List Frame
asked_by [] = []
asked_by (d ∷ ds) = asked_by ds ++ asked_of d

-- the frames that the sessions heard besides, in order
abbrev pub heard_of : Deed → List Frame
heard_of (Hears x) = x ∷ []
heard_of deed = []

abbrev pub heard_by : List Deed → List Frame
heard_by [] = []
heard_by (d ∷ ds) = heard_by ds ++ heard_of d

-- the frames that they gave to the connection, in order
abbrev pub given_of : Deed → List Frame
given_of (Writes x events) = x ∷ []
given_of deed = []

abbrev pub given_by : List Deed → List Frame
given_by [] = []
given_by (d ∷ ds) = given_by ds ++ given_of d

-- the answers that were told, in order
abbrev pub told_of : Deed → List NamedReply
told_of (Tells answers) = answers
told_of (TellsFirst name answers) = with_first name answers
told_of deed = []

abbrev pub told_by : List Deed → List NamedReply
told_by [] = []
told_by (d ∷ ds) = told_by ds ++ told_of d
