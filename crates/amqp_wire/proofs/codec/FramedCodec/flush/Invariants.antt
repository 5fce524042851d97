use Rattle.std.proofs.Common.{◌≤◌, ℕ, List, length}
use Rattle.amqp_wire.specs.Codec.{Sent}
use Rattle.amqp_wire.proofs.codec.FramedCodec.flush.Given as goal

abbrev pub invariant-loop-self : goal.invariant-loop-self
invariant-loop-self g l =
    record {
      limits : (512 ≤ l.self-inside.decoder) × (512 ≤ l.self-inside.encoder);
      sent : (bytes : List ℕ) × Sent g.L.Link l.fn.self bytes (record { link = l.self-inside.link; input = l.self-inside.input; output = l.self-inside.output.items; decoder = l.self-inside.decoder; encoder = l.self-inside.encoder });
    }

abbrev pub decreases-loop-self : goal.decreases-loop-self
decreases-loop-self g l = length l.self-inside.output.items
