-- Termini that say an address alone (OASIS AMQP 1.0, part 3, sections 3.5.3 and 3.5.4).
use Rattle.std.specs.Prelude.{ℕ, Bool, List, Option, None, codes}
use Rattle.amqp_frames.specs.amqp_termini.declared.source.Source.{Source}
use Rattle.amqp_frames.specs.amqp_termini.declared.target.Target.{Target}

abbrev pub source_at : Option (List ℕ) → Bool → Source
source_at address dynamic = record { address = address; durable = 0; expiry_policy = codes "session-end"; timeout = 0; dynamic = dynamic; dynamic_node_properties = None; distribution_mode = None; filter = None; default_outcome = None; outcomes = None; capabilities = None }

abbrev pub target_at : Option (List ℕ) → Bool → Target
target_at address dynamic = record { address = address; durable = 0; expiry_policy = codes "session-end"; timeout = 0; dynamic = dynamic; dynamic_node_properties = None; capabilities = None }
