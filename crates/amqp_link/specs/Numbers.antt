-- Numbers of deliveries, which are modulo 2^32 (OASIS AMQP 1.0, part 2, section 2.8.10), and the Flows that tell of them.
use Rattle.std.specs.Prelude.{ℕ, ◌+◌, ◌-◌, ◌%◌, Bool, false, Some, None}
use Rattle.amqp_frames.specs.amqp_performatives.declared.flow.Flow.{Flow}

-- how far a is behind b
abbrev pub minus : ℕ → ℕ → ℕ
minus a b = (a + (4294967296 - b)) % 4294967296

-- so much further
abbrev pub plus : ℕ → ℕ → ℕ
plus a n = (a + n) % 4294967296

-- the state of a link's credit; the session adds its own (section 2.7.4)
abbrev pub link_flow : ℕ → ℕ → ℕ → Bool → Flow
link_flow handle count credit drain = record { next_incoming_id = None; incoming_window = 0; next_outgoing_id = 0; outgoing_window = 0; handle = Some handle; delivery_count = Some count; link_credit = Some credit; available = None; drain = drain; echo = false; properties = None }
