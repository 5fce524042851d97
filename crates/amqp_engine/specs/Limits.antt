-- The highest handles of the peer's links (OASIS AMQP 1.0, part 2, section 2.7.2).
use Rattle.std.specs.Prelude.{ℕ, nat_eq, nat_lt, Bool, false, List, [], Option, Some, None}
use Rattle.std.specs.Map.{lookup}
use Rattle.indexmap.specs.IndexMap.{insert_entry, swap_remove_entry}
use Rattle.amqp_transport.specs.amqp_frames.declared.body.FrameBody.{FrameBody}
use Rattle.amqp_transport.specs.amqp_frames.declared.body.FrameBody.TheVariants as b
use Rattle.amqp_engine.specs.declared.limits.HandleLimits.{HandleLimits}

-- by channels of this end, the handle-max of the Begin that it sent there; by channels of the peer, the handle-max that holds for what
-- comes there
pub record Limits : Type 0 where
  pub announced : List (ℕ × ℕ)
  pub highest : List (ℕ × ℕ)

abbrev pub limits_of : HandleLimits → Limits
limits_of s = record { announced = s.announced.entries; highest = s.highest.entries }

-- nothing was announced
abbrev pub no_limits : Limits
no_limits = record { announced = []; highest = [] }

-- the handle that a frame names (part 2, sections 2.7.3, 2.7.4, 2.7.5 and 2.7.7)
abbrev pub handle_of : FrameBody → Option ℕ
handle_of (b.Attach x) = Some x.handle
handle_of (b.Flow x) = x.handle
handle_of (b.Transfer x payload) = Some x.handle
handle_of (b.Detach x) = Some x.handle
handle_of body = None

-- a handle is above the highest; where none is known, none is
abbrev pub is_above : Option ℕ → Option ℕ → Bool
is_above None handle = false
is_above (Some highest) None = false
is_above (Some highest) (Some handle) = nat_lt highest handle

-- the frame names a handle above the highest of its channel
abbrev pub is_beyond : Limits → ℕ → FrameBody → Bool
is_beyond s channel body = is_above (lookup (nat_eq channel) s.highest) (handle_of body)

-- that one holds there from here on, or none is known
abbrev pub holding : Option ℕ → ℕ → List (ℕ × ℕ) → List (ℕ × ℕ)
holding None channel highest = swap_remove_entry (nat_eq channel) highest
holding (Some handle) channel highest = insert_entry nat_eq highest channel handle

-- where this end answers a Begin of the peer, its handle-max holds for what comes on the channel that it names
abbrev pub answered_with : Option ℕ → ℕ → List (ℕ × ℕ) → List (ℕ × ℕ)
answered_with None handle highest = highest
answered_with (Some channel) handle highest = insert_entry nat_eq highest channel handle

-- this end has sent a Begin with that handle-max
abbrev pub announcing : Limits → ℕ → FrameBody → Limits
announcing s channel (b.Begin x) = record { announced = insert_entry nat_eq s.announced channel x.handle_max; highest = answered_with x.remote_channel x.handle_max s.highest }
announcing s channel body = s

-- what was announced on the channel that a Begin names
abbrev pub announced_on : Option ℕ → List (ℕ × ℕ) → Option ℕ
announced_on None announced = None
announced_on (Some channel) announced = lookup (nat_eq channel) announced

-- the peer begins a session on that channel: what holds for it was announced in the Begin that it answers
abbrev pub begun_on : ℕ → Option ℕ → Limits → Limits
begun_on channel named s = record s { highest = holding (announced_on named s.announced) channel s.highest }

-- the peer ends its session on that channel
abbrev pub ended_on : ℕ → Limits → Limits
ended_on channel s = record s { highest = swap_remove_entry (nat_eq channel) s.highest }

-- a channel of this end is free
abbrev pub freed_on : ℕ → Limits → Limits
freed_on channel s = record s { announced = swap_remove_entry (nat_eq channel) s.announced }
