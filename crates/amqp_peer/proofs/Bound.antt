-- A transport over the codec of an opening.
use Rattle.std.proofs.Common.{◌≡◌, ℕ, Option, None, ap, ◌∙◌}
use Rattle.amqp_wire.specs.Codec.{Codec}
use Rattle.amqp_transport.specs.Wire.{Wire, idle_of}
use Rattle.amqp_peer.specs.Held.{bound}

pub bound_is : {L : Type 0} (w : Wire L) (c : Codec L) (idle given : Option ℕ) (at : ℕ) → given ≡ idle → w.codec ≡ c → w.clock ≡ record { idle = idle_of given; since = at } → w.kept ≡ None → w ≡ bound c idle at
bound_is w c idle given at e codec clock kept =
    let same : w.clock ≡ record { idle = idle_of idle; since = at } = clock ∙ ap (λ (i : Option ℕ). record { idle = idle_of i; since = at }) e in
    λ i. record { codec = codec i; clock = same i; kept = kept i }
