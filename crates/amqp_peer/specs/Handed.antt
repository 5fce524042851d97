-- What an end hands to the sessions above its connection, and what it says for them, in words of its history.
use Rattle.std.specs.Prelude.{◌≡◌, ◌⊎◌, ℕ, List, [], ◌∷◌, ◌++◌, true}
use Rattle.amqp_wire.specs.declared.link.Link.{Ghosts}
use Rattle.amqp_frames.specs.Session.{of_session}
use Rattle.amqp_transport.specs.declared.frames.Frame.{Frame}
use Rattle.amqp_engine.specs.Channels.{said_all}
use Rattle.amqp_peer.specs.Hearing.{hears_in, IsOpenIn, channels_in, Handed}
use Rattle.amqp_peer.specs.Held.{IsSound}
use Rattle.amqp_peer.specs.History.{Local, given_in, sent_in, replied_in, link_in, IsInside}
use Rattle.amqp_peer.specs.Peering.{Peering, Has, link_of}
use Rattle.amqp_peer.specs.Runs.{Worked, Rested}

-- ---- one step

-- a step after which another may follow
abbrev pub HandsOn : {L : Type 0} → Ghosts L → ℕ → Peering L → Peering L → Type 0
HandsOn link at old new = (w : Worked link at 1 old new) × Handed old.held new.held w.run.events

-- a step after which nothing more can be done now
abbrev pub HandsLast : {L : Type 0} → Ghosts L → ℕ → Peering L → Peering L → Type 0
HandsLast link at old new = (r : Rested link at 1 old new) × Handed old.held new.held r.run.events

-- ---- one frame

-- A frame of a session was given to the connection: nothing passed at the link, nothing was read, and nothing was answered. It is queued,
-- behind all that was, where the connection is open, unless it was too large for the peer, and then the connection has failed; where it is
-- not open the frame is let go. Of the channels changes what a Begin that was queued says of the handles. Each history goes on by it.
pub record Sent {L : Type 0} (link : Ghosts L) (x : Frame) (old new : Peering L) : Type 0 where
  pub events : List Local
  pub inside : IsInside events
  pub silent : link_in events ≡ []
  pub deaf : given_in events ≡ []
  pub mute : replied_in events ≡ []
  pub said : ((sent_in events ≡ x ∷ []) × IsOpenIn old.held) ⊎ ((sent_in events ≡ []) × (IsOpenIn new.held → ⊥))
  pub opens : (hears_in old.held ≡ true → IsOpenIn old.held) → hears_in new.held ≡ true → IsOpenIn new.held
  pub session : of_session x.body ≡ true
  pub listens : hears_in new.held ≡ true → hears_in old.held ≡ true
  pub channels : channels_in new.held ≡ said_all (channels_in old.held) (sent_in events)
  pub replies : new.replies ≡ old.replies
  pub kind : new.kind ≡ old.kind
  pub stays : IsSound new.held → IsSound old.held
  pub link_is : (d : L) → link_of d new ≡ link_of d old
  pub grows : (h : List Local) → Has old h → Has new (events ++ h)
