-- The exchange of protocol headers.
use Rattle.std.specs.Prelude.{◌≡◌, ◌<◌, ℕ, List, ◌++◌, length, Option, Some, None, Result, Ok, Err}
use Rattle.amqp_wire.specs.declared.link.Link.{Ghosts}
use Rattle.amqp_wire.specs.declared.link.Stop.{Stop}
use Rattle.amqp_wire.specs.declared.link.Stop.TheVariants.{Empty, End, Failed}
use Rattle.amqp_wire.specs.declared.link.Held.{Held}
use Rattle.amqp_wire.specs.declared.link.Held.TheVariants.{Full as HeldFull, Failed as HeldFailed, Memory as HeldMemory}
use Rattle.amqp_transport.specs.declared.transport.Error.{Error}
use Rattle.amqp_transport.specs.declared.transport.Error.TheVariants.{Memory, Io}
use Rattle.amqp_wire.specs.declared.link.IoKind.TheVariants.{Fault, End as EndKind}
use Rattle.amqp_transport.specs.declared.negotiating.Negotiated.{Negotiated}
use Rattle.amqp_transport.specs.declared.negotiating.Negotiated.TheVariants.{Pending, Header}
use Rattle.amqp_wire.specs.Steps.{Gave, ReadBy}
use Rattle.amqp_transport.specs.Wire.{IsMemory}
use Rattle.amqp_wire.specs.Codec.{Codec, Fed, Flushed}

-- the header is queued, and both limits are the least
abbrev pub started : {L : Type 0} → Codec L → List ℕ → Codec L
started c header = record { link = c.link; input = c.input; output = c.output ++ header; decoder = 512; encoder = 512 }

-- how a read that stopped is answered
abbrev pub stop_answer : Stop → Result Negotiated Error
stop_answer Empty = Ok Pending
stop_answer End = Err (Io EndKind)
stop_answer Failed = Err (Io Fault)

-- fewer than eight bytes are there and a read gave nothing
pub record Short {L : Type 0} (link : Ghosts L) (old : Codec L) (result : Result Negotiated Error) (new : Codec L) : Type 0 where
  pub bytes : List ℕ
  pub stop : Stop
  pub reads : ReadBy link old.link bytes (Some stop) new.link
  pub rest : new ≡ record old { link = new.link; input = old.input ++ bytes }
  pub less : length new.input < 8
  pub answer : result ≡ stop_answer stop

-- eight bytes were read, and nothing behind them is lost
abbrev pub HeaderPolled : {L : Type 0} → Ghosts L → Codec L → Result Negotiated Error → Codec L → Type 0
HeaderPolled link old (Ok (Header header)) new = (bytes : List ℕ) × Gave link old.link bytes new.link × (old.input ++ bytes ≡ header ++ new.input) × (new ≡ record old { link = new.link; input = new.input })
HeaderPolled link old (Ok Pending) new = Short link old (Ok Pending) new
HeaderPolled link old (Err (Io k)) new = Short link old (Err (Io k)) new
HeaderPolled link old (Err (Memory a)) new = (bytes : List ℕ) × Fed link old bytes new
HeaderPolled link old (Err e) new = ⊥

-- how a write that was held is answered
abbrev pub HeldAnswer : {L : Type 0} → Ghosts L → Option Held → Codec L → Result Negotiated Error → Codec L → Type 0
HeldAnswer link None mid result new = HeaderPolled link mid result new
HeldAnswer link (Some HeldFull) mid result new = (result ≡ Ok Pending) × (new ≡ mid)
HeldAnswer link (Some HeldFailed) mid result new = (result ≡ Err (Io Fault)) × (new ≡ mid)
HeldAnswer link (Some HeldMemory) mid result new = IsMemory result × (new ≡ mid)

-- what is queued goes out first
pub record Exchanged {L : Type 0} (link : Ghosts L) (old : Codec L) (result : Result Negotiated Error) (new : Codec L) : Type 0 where
  pub mid : Codec L
  pub held : Option Held
  pub flushed : Flushed link old held mid
  pub answer : HeldAnswer link held mid result new
