-- Waiting for a frame or a protocol header (OASIS AMQP 1.0, part 2, sections 2.2 and 2.3).
use Rattle.std.specs.Prelude.{◌≡◌, ◌<◌, ℕ, List, ◌++◌, length, Option, Some, None, Result, Ok, Err}
use Rattle.amqp_wire.specs.declared.link.Link.{Ghosts}
use Rattle.amqp_wire.specs.declared.link.Stop.{Stop}
use Rattle.amqp_wire.specs.declared.frame.Front.{Front}
use Rattle.amqp_wire.specs.declared.frame.Front.TheVariants.{Partial, Refused, Foreign, Whole}
use Rattle.amqp_wire.specs.Frame.{IsFront}
use Rattle.amqp_wire.specs.Steps.{Gave, ReadBy}
use Rattle.amqp_wire.specs.Codec.{Codec, Fed}
use Rattle.amqp_transport.specs.declared.reading.Arrival.{Arrival}
use Rattle.amqp_transport.specs.declared.reading.HeaderRead.{HeaderRead}
use Rattle.amqp_transport.specs.declared.reading.HeaderRead.TheVariants.{Header, Stopped}

-- more was wanted exactly where less than a frame is there
abbrev pub IsWanted : Front → Option Stop → Type 0
IsWanted Partial (Some stop) = Unit {0}
IsWanted Partial None = ⊥
IsWanted Refused None = Unit {0}
IsWanted Refused (Some stop) = ⊥
IsWanted Foreign None = Unit {0}
IsWanted Foreign (Some stop) = ⊥
IsWanted (Whole size start channel) None = Unit {0}
IsWanted (Whole size start channel) (Some stop) = ⊥

-- bytes came in until the front is known, or a read gave nothing
pub record FedTo {L : Type 0} (link : Ghosts L) (kind : ℕ) (old : Codec L) (bytes : List ℕ) (a : Arrival) (new : Codec L) : Type 0 where
  pub reads : ReadBy link old.link bytes a.stop new.link
  pub rest : new ≡ record old { link = new.link; input = old.input ++ bytes }
  pub front : IsFront kind old.decoder new.input a.front
  pub wanted : IsWanted a.front a.stop

abbrev pub Arrived : {L E : Type 0} → Ghosts L → ℕ → Codec L → Result Arrival E → Codec L → Type 0
Arrived link kind old (Ok a) new = (bytes : List ℕ) × FedTo link kind old bytes a new
Arrived link kind old (Err e) new = (bytes : List ℕ) × Fed link old bytes new

-- eight bytes were read and taken off, or a read gave nothing while fewer were there
abbrev pub ReadHeader : {L E : Type 0} → Ghosts L → Codec L → Result HeaderRead E → Codec L → Type 0
ReadHeader {L} link old (Ok (Header header)) new = (bytes : List ℕ) × Gave link old.link bytes new.link × (old.input ++ bytes ≡ header ++ new.input) × (new ≡ record old { link = new.link; input = new.input })
ReadHeader {L} link old (Ok (Stopped stop)) new = (bytes : List ℕ) × ReadBy link old.link bytes (Some stop) new.link × (new ≡ record old { link = new.link; input = old.input ++ bytes }) × (length new.input < 8)
ReadHeader link old (Err e) new = (bytes : List ℕ) × Fed link old bytes new
