-- What calls make of the links of a session (OASIS AMQP 1.0, part 2, sections 2.6.2, 2.6.4 and 2.7.3).
use Rattle.std.specs.Prelude.{◌≡◌, ℕ, Bool, nat_eq, List, Option, Some, None, is_some, Result, Ok, Err, IsOk, if◌then◌else◌}
use Rattle.std.specs.List.{list_any}
use Rattle.std.specs.Map.{lookup}
use Rattle.std.specs.Option.{option_map}
use Rattle.std.specs.Str.{bytes_eq}
use Rattle.indexmap.specs.IndexMap.{insert_entry, swap_remove_entry}
use Rattle.indexmap.specs.IndexSet.{insert_key}
use Rattle.amqp_composites.specs.declared.modes.Role.{Role}
use Rattle.amqp_composites.specs.declared.modes.Role.TheVariants.{Sender, Receiver}
use Rattle.amqp_link_tables.specs.declared.error.AllocLinkError.{AllocLinkError}
use Rattle.amqp_link_tables.specs.declared.error.AllocLinkError.TheVariants.{Memory, DuplicatedLinkName, HandleMaxReached}
use Rattle.amqp_link_tables.specs.declared.handles.Held.{Held}
use Rattle.amqp_link_tables.specs.Handles.{lowest_free}
use Rattle.amqp_link_tables.specs.State.{State}

-- the link of that handle of this end
abbrev pub link_at : ℕ → State → Option ℕ
link_at handle s = option_map (λ (h : Held). h.link) (lookup (nat_eq handle) s.handles)

-- the links by their names at which this end has that role
abbrev pub names : Role → State → List (List ℕ × ℕ)
names Sender s = s.senders
names Receiver s = s.receivers

abbrev pub with_names : Role → List (List ℕ × ℕ) → State → State
with_names Sender ns s = record s { senders = ns }
with_names Receiver ns s = record s { receivers = ns }

-- the link of that name at which this end has that role
abbrev pub link_named : List ℕ → Role → State → Option ℕ
link_named name role s = lookup (bytes_eq name) (names role s)

-- the name belongs to a link in that role
abbrev pub named : List ℕ → Role → ℕ → State → State
named name role link s = with_names role (insert_entry bytes_eq (names role s) name link) s

-- it is free in that role
abbrev pub unnamed : List ℕ → Role → State → State
unnamed name role s = with_names role (swap_remove_entry (bytes_eq name) (names role s)) s

-- a link stands at that handle, and under its name in its role
abbrev pub attached : ℕ → List ℕ → Role → ℕ → State → State
attached handle name role link s =
    let held : Held = record { link = link; role = role; name = name } in
    named name role link (record s { handles = insert_entry nat_eq s.handles handle held })

-- the lowest handle that is free, where one up to `max` is
abbrev pub handle_or_full : Option ℕ → Result ℕ AllocLinkError
handle_or_full None = Err HandleMaxReached
handle_or_full (Some handle) = Ok handle

-- The answer to a call for a handle. There is one link of a name and direction (section 2.6.4); handles are not above `max` (2.7.2).
abbrev pub allocation : List ℕ → Role → ℕ → State → Result ℕ AllocLinkError
allocation name role max s =
    if is_some (link_named name role s) then Err DuplicatedLinkName else handle_or_full (lowest_free max s.handles)

-- the links behind it: a refusal changes nothing
abbrev pub allocated : Result ℕ AllocLinkError → List ℕ → Role → ℕ → State → State
allocated (Ok handle) name role link s = attached handle name role link s
allocated (Err e) name role link s = s

-- a result is the answer, or for want of memory no handle is got where there is one
abbrev pub IsAnswer : Result ℕ AllocLinkError → Result ℕ AllocLinkError → Type 0
IsAnswer (Ok handle) answer = Ok handle ≡ answer
IsAnswer (Err (Memory a)) answer = IsOk answer
IsAnswer (Err DuplicatedLinkName) answer = Err DuplicatedLinkName ≡ answer
IsAnswer (Err HandleMaxReached) answer = Err HandleMaxReached ≡ answer

-- p, unless there was not enough memory
abbrev pub ButForMemory : Result ℕ AllocLinkError → Type 0 → Type 0
ButForMemory (Ok handle) p = p
ButForMemory (Err (Memory a)) p = Unit {0}
ButForMemory (Err DuplicatedLinkName) p = p
ButForMemory (Err HandleMaxReached) p = p

-- the handle is free, and the name in its role of the link that had it
abbrev pub released_at : Option Held → ℕ → State → State
released_at None handle s = s
released_at (Some held) handle s =
    unnamed held.name held.role (record s { handles = swap_remove_entry (nat_eq handle) s.handles })

abbrev pub released : ℕ → State → State
released handle s = released_at (lookup (nat_eq handle) s.handles) handle s

-- a link has that handle of the peer
abbrev pub joined : ℕ → ℕ → State → State
joined remote link s = record s { remotes = insert_entry nat_eq s.remotes remote link }

-- the link of that handle of the peer
abbrev pub link_from : ℕ → State → Option ℕ
link_from remote s = lookup (nat_eq remote) s.remotes

-- the handle of the peer is free
abbrev pub parted : ℕ → State → State
parted remote s = record s { remotes = swap_remove_entry (nat_eq remote) s.remotes }

-- no attach may use that name again
abbrev pub spending : List ℕ → State → State
spending name s = record s { spent = insert_key bytes_eq s.spent name }

abbrev pub is_spent : List ℕ → State → Bool
is_spent name s = list_any (bytes_eq name) s.spent
