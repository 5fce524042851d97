-- What follows of the rules (OASIS AMQP 1.0, part 2, sections 2.6.2 and 2.6.4).
use Rattle.std.specs.Prelude.{◌≡◌, ℕ, ◌≤◌, ◌↔◌, true, nat_eq, List, Result, Ok, Err, is_some}
use Rattle.std.specs.List.{IsDistinct}
use Rattle.std.specs.Map.{keys_of}
use Rattle.amqp_composites.specs.declared.modes.Role.{Role}
use Rattle.amqp_link_tables.specs.declared.error.AllocLinkError.{AllocLinkError}
use Rattle.amqp_link_tables.specs.declared.error.AllocLinkError.TheVariants.{DuplicatedLinkName, HandleMaxReached}
use Rattle.amqp_link_tables.specs.Handles.{is_held, IsLowestFree}
use Rattle.amqp_link_tables.specs.Calls.{link_named}
use Rattle.amqp_link_tables.specs.State.{State}

-- no handle of this end stands twice
abbrev pub IsApart : State → Type 0
IsApart s = IsDistinct nat_eq (keys_of s.handles)

-- what the answer to a call for a handle means
pub record IsRight (answer : Result ℕ AllocLinkError) (name : List ℕ) (role : Role) (max : ℕ) (s : State) : Type 0 where
  pub free : (handle : ℕ) → answer ≡ Ok handle → IsLowestFree handle s.handles × (handle ≤ max)
  pub full : answer ≡ Err HandleMaxReached → (handle : ℕ) → handle ≤ max → is_held handle s.handles ≡ true
  pub duplicated : (answer ≡ Err DuplicatedLinkName) ↔ (is_some (link_named name role s) ≡ true)
