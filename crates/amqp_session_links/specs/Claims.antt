-- How links get their handles, and give them back (OASIS AMQP 1.0, part 2, sections 2.6.2 and 2.6.4).
use Rattle.std.specs.Prelude.{◌==◌, ℕ, nat_eq, List, [], ◌∷◌, ◌++◌, Option, Some, None, Result, Ok, Err, Bool, false, if◌then◌else◌}
use Rattle.amqp_composites.specs.declared.modes.Role.{Role}
use Rattle.amqp_frames.specs.declared.shared.SessionStopReason.{SessionStopReason}
use Rattle.amqp_link.specs.declared.error.AttachError.{AttachError}
use Rattle.amqp_link.specs.declared.error.AttachError.TheVariants as error
use Rattle.amqp_link_tables.specs.declared.error.AllocLinkError.{AllocLinkError}
use Rattle.amqp_link_tables.specs.declared.error.AllocLinkError.TheVariants as full
use Rattle.amqp_link_tables.specs.Calls as table
use Rattle.amqp_session_links.specs.declared.place.Claim.{Claim}
use Rattle.amqp_session_links.specs.declared.place.Claim.TheVariants.{Handle, Refused}
use Rattle.amqp_session_links.specs.State.{State}

-- what a link gets, and what its session's links share behind it
pub record Claimed : Type 0 where
  pub answer : Claim
  pub state : State

abbrev pub refuses : AttachError → State → Claimed
refuses e s = record { answer = Refused e; state = s }

-- by the names and handles that are held
abbrev pub claimed_by : Result ℕ AllocLinkError → ℕ → List ℕ → Role → ℕ → State → Claimed
claimed_by (Ok handle) max name role link s = record {
  answer = Handle handle;
  state = record s { table = table.allocated (Ok handle) name role link s.table; links = s.links ++ link ∷ []; handle_max = Some max };
}
claimed_by (Err (full.Memory a)) max name role link s = refuses (error.Memory a) s
claimed_by (Err full.DuplicatedLinkName) max name role link s = refuses error.DuplicatedLinkName s
claimed_by (Err full.HandleMaxReached) max name role link s = refuses error.HandleMaxReached s

abbrev pub claimed_below : ℕ → List ℕ → Role → ℕ → State → Claimed
claimed_below max name role link s = claimed_by (table.allocation name role max s.table) max name role link s

abbrev pub claimed_up_to : Option ℕ → List ℕ → Role → ℕ → State → Claimed
claimed_up_to None name role link s = refuses error.SessionNotMapped s
claimed_up_to (Some max) name role link s = claimed_below max name role link s

abbrev pub claimed_unless : Option SessionStopReason → Option ℕ → List ℕ → Role → ℕ → State → Claimed
claimed_unless (Some why) max name role link s = refuses (error.SessionStopped why) s
claimed_unless None max name role link s = claimed_up_to max name role link s

-- a link of that name and role asks for a handle up to `max`
abbrev pub claiming : List ℕ → Role → ℕ → Option ℕ → State → Claimed
claiming name role link max s = claimed_unless s.stop_reason max name role link s

-- ---- a handle for a further attachment

abbrev pub reclaimed_by : Result ℕ AllocLinkError → List ℕ → Role → ℕ → State → Claimed
reclaimed_by (Ok handle) name role link s =
    record { answer = Handle handle; state = record s { table = table.allocated (Ok handle) name role link s.table } }
reclaimed_by (Err (full.Memory a)) name role link s = refuses (error.Memory a) s
reclaimed_by (Err full.DuplicatedLinkName) name role link s = refuses error.DuplicatedLinkName s
reclaimed_by (Err full.HandleMaxReached) name role link s = refuses error.HandleMaxReached s

abbrev pub reclaimed_up_to : Option ℕ → List ℕ → Role → ℕ → State → Claimed
reclaimed_up_to None name role link s = refuses error.SessionNotMapped s
reclaimed_up_to (Some max) name role link s = reclaimed_by (table.allocation name role max s.table) name role link s

-- a link that was attached before asks for a handle again
abbrev pub reclaiming : List ℕ → Role → ℕ → State → Claimed
reclaiming name role link s = reclaimed_up_to s.handle_max name role link s

-- whether a place is that link's
abbrev pub is_at : Option ℕ → ℕ → Bool
is_at None link = false
is_at (Some other) link = other == link

-- the link gives its handle back, if it has it
abbrev pub released : ℕ → ℕ → State → State
released handle link s = if is_at (table.link_at handle s.table) link then record s { table = table.released handle s.table } else s

-- the link has that handle of the peer
abbrev pub joined : ℕ → ℕ → State → State
joined remote link s = record s { table = table.joined remote link s.table }

-- the handle of the peer is free
abbrev pub parted : ℕ → State → State
parted remote s = record s { table = table.parted remote s.table }

-- no attach may use that name again
abbrev pub spending : List ℕ → State → State
spending name s = record s { table = table.spending name s.table }
