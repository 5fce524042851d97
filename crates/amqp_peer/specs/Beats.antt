-- The heartbeat of an end, in words of what happened at it (OASIS AMQP 1.0, part 2, section 2.4.5).
use Rattle.std.specs.Prelude.{ℕ, List, [], ◌∷◌, ⊤}
use Rattle.amqp_frames.specs.declared.body.FrameBody.{FrameBody}
use Rattle.amqp_transport.specs.declared.frames.Frame.{Frame}
use Rattle.amqp_transport.specs.declared.heart_beat.HeartBeat.{HeartBeat}
use Rattle.amqp_engine.specs.Beats.{begun_by, beat_said, IsDueFor}
use Rattle.amqp_engine.specs.State.{no_beat}
use Rattle.amqp_peer.specs.History.{Local, Made, Polled, AtLink, Exchanged, Got, Put, Replied, given_in, moment_in}

-- the first frame that is read begins it, where it is the peer's Open
abbrev pub beat_heard : List Frame → FrameBody → ℕ → HeartBeat → HeartBeat
beat_heard [] body at beat = begun_by body at beat
beat_heard (x ∷ given) body at beat = beat

-- the heartbeat that an end keeps for its peer
abbrev pub beat_in : List Local → HeartBeat
beat_in [] = no_beat
beat_in (Made at name call ∷ h) = beat_in h
beat_in (Polled at ∷ h) = beat_in h
beat_in (AtLink x ∷ h) = beat_in h
beat_in (Exchanged ∷ h) = beat_in h
beat_in (Got x ∷ h) = beat_heard (given_in h) x.body (moment_in h) (beat_in h)
beat_in (Put x ∷ h) = beat_said x.body (moment_in h) (beat_in h)
beat_in (Replied r ∷ h) = beat_in h

-- each empty frame was queued by a beat that was due
abbrev pub AllBeats : List Local → Type 0
AllBeats [] = ⊤
AllBeats (Made at name call ∷ h) = AllBeats h
AllBeats (Polled at ∷ h) = AllBeats h
AllBeats (AtLink x ∷ h) = AllBeats h
AllBeats (Exchanged ∷ h) = AllBeats h
AllBeats (Got x ∷ h) = AllBeats h
AllBeats (Put x ∷ h) = IsDueFor x.body (moment_in h) (beat_in h) × AllBeats h
AllBeats (Replied r ∷ h) = AllBeats h
