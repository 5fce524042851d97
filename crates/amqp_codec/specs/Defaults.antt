-- Described lists that say what they must: each other field is absent, or at its default where the type has one.
use Rattle.std.specs.Prelude.{ℕ, List, None, false, codes}
use Rattle.amqp_composites.specs.declared.modes.Role.{Role}
use Rattle.amqp_composites.specs.declared.modes.SenderSettleMode.TheVariants.{Mixed}
use Rattle.amqp_composites.specs.declared.modes.ReceiverSettleMode.TheVariants.{First}
use Rattle.amqp_performatives.specs.declared.open.Open.{Open}
use Rattle.amqp_performatives.specs.declared.begin.Begin.{Begin}
use Rattle.amqp_performatives.specs.declared.attach.Attach.{Attach}
use Rattle.amqp_performatives.specs.declared.flow.Flow.{Flow}
use Rattle.amqp_performatives.specs.declared.transfer.Transfer.{Transfer}
use Rattle.amqp_performatives.specs.declared.disposition.Disposition.{Disposition}
use Rattle.amqp_performatives.specs.declared.detach.Detach.{Detach}
use Rattle.amqp_performatives.specs.declared.end.End.{End}
use Rattle.amqp_performatives.specs.declared.close.Close.{Close}
use Rattle.amqp_termini.specs.declared.source.Source.{Source}
use Rattle.amqp_termini.specs.declared.target.Target.{Target}
use Rattle.amqp_termini.specs.declared.states.Rejected.{Rejected}
use Rattle.amqp_termini.specs.declared.states.Modified.{Modified}
use Rattle.amqp_sections.specs.declared.header.Header.{Header}
use Rattle.amqp_sections.specs.declared.properties.Properties.{Properties}
use Rattle.amqp_sasl_bodies.specs.declared.sasl.SaslInit.{SaslInit}
use Rattle.amqp_sasl_bodies.specs.declared.sasl.SaslOutcome.{SaslOutcome}
use Rattle.amqp_sasl_bodies.specs.declared.sasl_code.SaslCode.{SaslCode}

-- ---- performatives (part 2, section 2.7)

-- section 2.7.1
abbrev pub default_open : List ℕ → Open
default_open container_id = record {
  container_id = container_id;
  hostname = None;
  max_frame_size = 4294967295;
  channel_max = 65535;
  idle_time_out = None;
  outgoing_locales = None;
  incoming_locales = None;
  offered_capabilities = None;
  desired_capabilities = None;
  properties = None;
}

-- section 2.7.2
abbrev pub default_begin : ℕ → ℕ → ℕ → Begin
default_begin next_outgoing_id incoming_window outgoing_window = record {
  remote_channel = None;
  next_outgoing_id = next_outgoing_id;
  incoming_window = incoming_window;
  outgoing_window = outgoing_window;
  handle_max = 4294967295;
  offered_capabilities = None;
  desired_capabilities = None;
  properties = None;
}

-- section 2.7.3
abbrev pub default_attach : List ℕ → ℕ → Role → Attach
default_attach name handle role = record {
  name = name;
  handle = handle;
  role = role;
  snd_settle_mode = Mixed;
  rcv_settle_mode = First;
  source = None;
  target = None;
  unsettled = None;
  incomplete_unsettled = false;
  initial_delivery_count = None;
  max_message_size = None;
  offered_capabilities = None;
  desired_capabilities = None;
  properties = None;
}

-- section 2.7.4
abbrev pub default_flow : ℕ → ℕ → ℕ → Flow
default_flow incoming_window next_outgoing_id outgoing_window = record {
  next_incoming_id = None;
  incoming_window = incoming_window;
  next_outgoing_id = next_outgoing_id;
  outgoing_window = outgoing_window;
  handle = None;
  delivery_count = None;
  link_credit = None;
  available = None;
  drain = false;
  echo = false;
  properties = None;
}

-- section 2.7.5
abbrev pub default_transfer : ℕ → Transfer
default_transfer handle = record {
  handle = handle;
  delivery_id = None;
  delivery_tag = None;
  message_format = None;
  settled = None;
  more = false;
  rcv_settle_mode = None;
  state = None;
  resume = false;
  aborted = false;
  batchable = false;
}

-- section 2.7.6
abbrev pub default_disposition : Role → ℕ → Disposition
default_disposition role first = record { role = role; first = first; last = None; settled = false; state = None; batchable = false }

-- section 2.7.7
abbrev pub default_detach : ℕ → Detach
default_detach handle = record { handle = handle; closed = false; error = None }

-- section 2.7.8
abbrev pub default_end : End
default_end = record { error = None }

-- section 2.7.9
abbrev pub default_close : Close
default_close = record { error = None }

-- ---- termini and outcomes (part 3, sections 3.4 and 3.5)

-- section 3.5.3
abbrev pub default_source : Source
default_source = record {
  address = None;
  durable = 0;
  expiry_policy = codes "session-end";
  timeout = 0;
  dynamic = false;
  dynamic_node_properties = None;
  distribution_mode = None;
  filter = None;
  default_outcome = None;
  outcomes = None;
  capabilities = None;
}

-- section 3.5.4
abbrev pub default_target : Target
default_target = record {
  address = None;
  durable = 0;
  expiry_policy = codes "session-end";
  timeout = 0;
  dynamic = false;
  dynamic_node_properties = None;
  capabilities = None;
}

-- section 3.4.3
abbrev pub default_rejected : Rejected
default_rejected = record { error = None }

-- section 3.4.5
abbrev pub default_modified : Modified
default_modified = record { delivery_failed = None; undeliverable_here = None; message_annotations = None }

-- ---- sections of messages (part 3, section 3.2)

-- section 3.2.1
abbrev pub default_header : Header
default_header = record { durable = false; priority = 4; ttl = None; first_acquirer = false; delivery_count = 0 }

-- section 3.2.4
abbrev pub default_properties : Properties
default_properties = record {
  message_id = None;
  user_id = None;
  to = None;
  subject = None;
  reply_to = None;
  correlation_id = None;
  content_type = None;
  content_encoding = None;
  absolute_expiry_time = None;
  creation_time = None;
  group_id = None;
  group_sequence = None;
  reply_to_group_id = None;
}

-- ---- SASL bodies (part 5, section 5.3.3)

-- section 5.3.3.2
abbrev pub default_sasl_init : List ℕ → SaslInit
default_sasl_init mechanism = record { mechanism = mechanism; initial_response = None; hostname = None }

-- section 5.3.3.5
abbrev pub default_sasl_outcome : SaslCode → SaslOutcome
default_sasl_outcome code = record { code = code; additional_data = None }
