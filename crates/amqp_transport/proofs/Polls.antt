use Rattle.std.proofs.Common.{◌≡◌, ℕ, List, Option, None, Result, inl, sym, subst}
use Rattle.amqp_wire.specs.declared.link.Link.{Ghosts}
use Rattle.amqp_transport.specs.declared.reading.Arrival.{Arrival}
use Rattle.amqp_transport.specs.declared.transport.Error.{Error}
use Rattle.amqp_transport.specs.declared.transport.Next.{Next}
use Rattle.amqp_wire.specs.Codec.{Codec}
use Rattle.amqp_transport.specs.Arrivals.{FedTo}
use Rattle.amqp_transport.specs.Wire.{Wire, Answered, Polled, PolledAt}

pub polled : {L X : Type 0} (link : Ghosts L) (kind : ℕ) (spells : ℕ → List ℕ → X → Type 0) (old : Wire L) (at : ℕ) (result : Result (Next X) Error) (new : Wire L) (fed : Codec L) (a : Arrival) (bytes : List ℕ) → old.kept ≡ None → FedTo link kind old.codec bytes a fed → Answered spells a.front a.stop at (record old { codec = fed }) result new → Polled link kind spells old at result new
polled link kind spells old at result new fed a bytes e f p =
    subst (λ (k : Option Error). PolledAt k link kind spells old at result new) (sym e)
    (inl (record { bytes = bytes; stop = a.stop; front = a.front; fed = fed; reads = f.reads; rest = f.rest; begins = f.front; wanted = f.wanted; answer = p }))
