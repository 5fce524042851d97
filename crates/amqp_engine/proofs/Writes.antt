-- What passed at a link as bytes were written, event by event.
use Rattle.std.proofs.Common.{◌≡◌, ℕ, List, [], ◌∷◌, Option, Some, None, refl}
use Rattle.amqp_wire.specs.declared.link.Link.{Ghosts}
use Rattle.amqp_wire.specs.declared.link.Held.{Held}
use Rattle.amqp_wire.specs.Steps.{WroteBy}
use Rattle.amqp_wire.specs.Events.{LinkEvent, Wrote, NotWritten, Went, read_of, wrote_of, reads_in}
use Rattle.amqp_wire.proofs.Links.{wrote_took}

-- writes that took these bytes, and then the last of them
abbrev pub write_events : List ℕ → Option Held → List LinkEvent
write_events bytes None = Wrote bytes ∷ []
write_events bytes (Some held) = NotWritten held ∷ Wrote bytes ∷ []

pub went_writes : {L : Type 0} (link : Ghosts L) (a b : L) (bytes : List ℕ) (held : Option Held) → WroteBy link a bytes held b → Went link a (write_events bytes held) b
went_writes link a b bytes None r = (a, refl, wrote_took link a b bytes None r)
went_writes link a b bytes (Some held) r = (r.mid, (a, refl, r.took), r.last)

pub writes_of : (bytes : List ℕ) (held : Option Held) → wrote_of (write_events bytes held) ≡ bytes
writes_of bytes None = refl
writes_of bytes (Some held) = refl

pub writes_read : (bytes : List ℕ) (held : Option Held) → read_of (write_events bytes held) ≡ []
writes_read bytes None = refl
writes_read bytes (Some held) = refl

pub writes_reads : (bytes : List ℕ) (held : Option Held) → reads_in (write_events bytes held) ≡ 0
writes_reads bytes None = refl
writes_reads bytes (Some held) = refl
