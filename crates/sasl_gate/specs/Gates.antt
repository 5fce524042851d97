-- What both gates have in common.
use Rattle.std.specs.Prelude.{List, ◌++◌}
use Rattle.amqp_wire.specs.Codec.{Codec}
use Rattle.sasl_gate.specs.declared.gate.negotiation.Phase.TheVariants.{Header}
use Rattle.sasl_gate.specs.Frames.{sasl_header}
use Rattle.sasl_gate.specs.Negotiation.{Negotiating}

-- a negotiation that begins, over a codec: the SASL header is queued (OASIS AMQP 1.0, part 5, section 5.3.2)
abbrev pub started : {L X : Type 0} → Codec L → X → Negotiating L X
started codec exchange = record {
  codec = record codec { output = codec.output ++ sasl_header };
  phase = Header;
  exchange = exchange;
}
