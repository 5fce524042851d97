-- The frames that bytes carry (OASIS AMQP 1.0, part 2, section 2.3).
use Rattle.std.specs.Prelude.{◌≡◌, ◌<◌, ◌≤◌, ◌⊎◌, ◌+◌, ◌^◌, ℕ, List, [], ◌∷◌, ◌++◌, map, length, drop, flat_map, None, Result, Ok, Err}
use Rattle.amqp_wire.specs.Size.{size_of}
use Rattle.amqp_wire.specs.Frame.{HasBody, frame_of}
use Rattle.amqp_wire.specs.declared.link.Link.{Ghosts}
use Rattle.amqp_transport.specs.declared.transport.Error.{Error}
use Rattle.amqp_transport.specs.declared.transport.Next.{Next}
use Rattle.amqp_transport.specs.declared.transport.Next.TheVariants.{Frame, Pending, Ended}
use Rattle.amqp_wire.specs.Codec.{limits_of}
use Rattle.amqp_wire.specs.Events.{LinkEvent, Went, read_of, wrote_of, reads_in}
use Rattle.amqp_transport.specs.Wire.{Wire}
use Rattle.amqp_transport.specs.Causes.{IsCause, Allows, clock_after, kept_after}

-- bytes that are one frame, whose body spells x
pub record IsFrame {X : Type 0} (kind : ℕ) (spells : ℕ → List ℕ → X → Type 0) (piece : List ℕ) (x : X) : Type 0 where
  pub start : ℕ
  pub channel : ℕ
  pub body : HasBody kind (length piece) piece (length piece) start channel
  pub spelled : spells channel (drop start piece) x

-- the bytes are these frames one after another, and then a rest
abbrev pub Joined : {X : Type 0} → ℕ → (ℕ → List ℕ → X → Type 0) → List ℕ → List X → List ℕ → Type 0
Joined kind spells bytes [] rest = bytes ≡ rest
Joined kind spells bytes (x ∷ xs) rest = (piece : List ℕ) × (more : List ℕ) × (bytes ≡ piece ++ more) × IsFrame kind spells piece x × Joined kind spells more xs rest

-- a rest that is no whole frame
abbrev pub IsPart : List ℕ → Type 0
IsPart bytes = (length bytes < 4) ⊎ (length bytes < size_of bytes)

abbrev pub frames_of : {X : Type 0} → Result (Next X) Error → List X
frames_of (Ok (Frame x)) = x ∷ []
frames_of (Ok Pending) = []
frames_of (Ok Ended) = []
frames_of (Err e) = []

-- Bytes came in, told as one event at most, and at most one frame went out, so that the frames so far, joined with what is left, are
-- the bytes so far. The answer has its cause, unless it is an error that is answered again.
pub record Grew {L X : Type 0} (link : Ghosts L) (kind : ℕ) (spells : ℕ → List ℕ → X → Type 0) (old : Wire L) (at : ℕ) (result : Result (Next X) Error) (new : Wire L) : Type 0 where
  pub events : List LinkEvent
  pub went : Went link old.codec.link events new.codec.link
  pub silent : wrote_of events ≡ []
  pub few : reads_in events ≤ 1
  pub output : new.codec.output ≡ old.codec.output
  pub limits : limits_of new.codec ≡ limits_of old.codec
  pub clock : new.clock ≡ clock_after result at old.clock
  pub kept : new.kept ≡ kept_after result old.kept
  pub again : Allows old.kept result
  pub cause : old.kept ≡ None → IsCause kind spells old.codec.decoder (old.codec.input ++ read_of events) old.clock at events result
  pub grows : (read : List ℕ) (frames : List X) → Joined kind spells read frames old.codec.input → Joined kind spells (read ++ read_of events) (frames ++ frames_of result) new.codec.input

-- the frames that are written
abbrev pub stream_of : {X : Type 0} → ℕ → (X → List ℕ) → (X → ℕ) → List X → List ℕ
stream_of kind canonical channel xs = flat_map (λ x. frame_of kind (channel x) (canonical x)) xs

-- a frame can hold the item: its size and channel have room (section 2.3.1), and its body spells it as it is read again
pub record HasFrame {X : Type 0} (spells : ℕ → List ℕ → X → Type 0) (canonical : X → List ℕ) (channel : X → ℕ) (again : X → X) (x : X) : Type 0 where
  pub size_fits : 8 + length (canonical x) < 2 ^ 32
  pub channel_fits : channel x < 2 ^ 16
  pub spelled : spells (channel x) (canonical x) (again x)

-- these are the first of those that were written, as they are read again, and what is left is the stream of the others
pub record AreFirst {X : Type 0} (kind : ℕ) (canonical : X → List ℕ) (channel : X → ℕ) (again : X → X) (given written : List X) (left : List ℕ) : Type 0 where
  pub first : List X
  pub others : List X
  pub split : written ≡ first ++ others
  pub items : given ≡ map again first
  pub stream : left ≡ stream_of kind canonical channel others
