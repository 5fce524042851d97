-- What the frames of a step make of the heartbeat (OASIS AMQP 1.0, part 2, section 2.4.5).
use Rattle.std.specs.Prelude.{◌≡◌, ℕ, List, [], ◌∷◌, false, Some, None, ⊤}
use Rattle.amqp_transport.specs.amqp_frames.declared.body.FrameBody.{FrameBody}
use Rattle.amqp_transport.specs.amqp_frames.declared.body.FrameBody.TheVariants as b
use Rattle.amqp_transport.specs.declared.frames.Frame.{Frame}
use Rattle.amqp_transport.specs.declared.heart_beat.HeartBeat.{HeartBeat}
use Rattle.amqp_transport.specs.Clocks.{IsDue, periods}
use Rattle.amqp_engine.specs.declared.phase.Phase.{Phase}
use Rattle.amqp_engine.specs.declared.phase.Phase.TheVariants as p
use Rattle.amqp_engine.specs.Phases.{has_failed}
use Rattle.amqp_engine.specs.State.{State, idle_time}

-- the peer's Open begins it, with the peer's idle time
abbrev pub begun_by : FrameBody → ℕ → HeartBeat → HeartBeat
begun_by (b.Open x) at beat = record { period = idle_time x.idle_time_out; start = at; last = None }
begun_by body at beat = beat

-- where it is awaited
abbrev pub beat_read : Phase → FrameBody → ℕ → HeartBeat → HeartBeat
beat_read p.OpenSent body at beat = begun_by body at beat
beat_read phase body at beat = beat

-- an empty frame is a beat
abbrev pub beat_said : FrameBody → ℕ → HeartBeat → HeartBeat
beat_said b.Empty at beat = record beat { last = Some (periods beat at) }
beat_said body at beat = beat

-- an empty frame is queued only where a beat is due
abbrev pub IsDueFor : FrameBody → ℕ → HeartBeat → Type 0
IsDueFor b.Empty at beat = IsDue beat at
IsDueFor body at beat = ⊤

-- the heartbeat after a step in which these frames were read, or these were queued: at most one; none is read where the transport has
-- failed
abbrev pub IsBeat : {L : Type 0} → ℕ → State L → List Frame → List Frame → State L → Type 0
IsBeat at old [] [] new = new.beat ≡ old.beat
IsBeat at old [] (x ∷ []) new = IsDueFor x.body at old.beat × (new.beat ≡ beat_said x.body at old.beat)
IsBeat at old (x ∷ []) [] new = (has_failed old.phase ≡ false) × (new.beat ≡ beat_read old.phase x.body at old.beat)
IsBeat at old given queued new = ⊥
