-- What frames of AMQP and of SASL hold (OASIS AMQP 1.0, part 2, section 2.3.2; part 5, section 5.3.1).
use Rattle.std.specs.Prelude.{◌≡◌, ℕ, ◌≤◌, List, [], ◌++◌}
use Rattle.amqp_data.specs.Data.{Items, no_items, item, items_depth}
use Rattle.amqp_value.specs.Canonical.{canonical_items, AreSized}
use Rattle.amqp_sasl_bodies.specs.declared.sasl_body.SaslBody.{SaslBody}
use Rattle.amqp_sasl_bodies.specs.SaslBody.{of_sasl_body}
use Rattle.amqp_frames.specs.declared.body.FrameBody.TheVariants.{Empty}
use Rattle.amqp_frames.specs.Body.{SpellsBody, body_values, body_payload, read_again_body}
use Rattle.amqp_sasl_bodies.specs.SaslBytes.{SpellsSasl}
use Rattle.amqp_transport.specs.declared.frames.Frame.{Frame}

-- a frame that holds nothing
abbrev pub no_frame : Frame
no_frame = record { channel = 0; body = Empty }

-- the bytes on that channel spell the frame
abbrev pub amqp_spells : ℕ → List ℕ → Frame → Type 0
amqp_spells channel bytes x = (x.channel ≡ channel) × SpellsBody bytes x.body

-- the bytes that are written of it
abbrev pub amqp_bytes : Frame → List ℕ
amqp_bytes x = canonical_items (body_values x.body) ++ body_payload x.body

abbrev pub amqp_channel : Frame → ℕ
amqp_channel x = x.channel

-- a length has no room, or a field is nested too deep
abbrev pub IsOversized : Items → Type 0
IsOversized vs = AreSized vs → items_depth vs ≤ 34 → ⊥

abbrev pub amqp_oversized : Frame → Type 0
amqp_oversized x = IsOversized (body_values x.body)

-- the frame as it is read again: a max-message-size of 0 is none
abbrev pub amqp_again : Frame → Frame
amqp_again x = record { channel = x.channel; body = read_again_body x.body }

-- the bytes spell the body, on any channel
abbrev pub sasl_spells : ℕ → List ℕ → SaslBody → Type 0
sasl_spells channel bytes x = SpellsSasl bytes x

abbrev pub sasl_bytes : SaslBody → List ℕ
sasl_bytes x = canonical_items (item (of_sasl_body x) no_items) ++ []

abbrev pub sasl_channel : SaslBody → ℕ
sasl_channel x = 0

abbrev pub sasl_oversized : SaslBody → Type 0
sasl_oversized x = IsOversized (item (of_sasl_body x) no_items)
