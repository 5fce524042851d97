-- Why the calls at a link go on waiting (OASIS AMQP 1.0, part 2, sections 2.6.3 to 2.6.6 and 2.6.12).
use Rattle.std.specs.Prelude.{◌≡◌, ℕ, nat_eq, true, false, slice_get, [], Some, None}
use Rattle.std.specs.List.{IsDistinct}
use Rattle.std.specs.Map.{keys_of, lookup}
use Rattle.amqp_link.specs.Link.{is_awaited, is_done, is_closed_by_one}
use Rattle.amqp_link_calls.specs.Called.{Called}
use Rattle.amqp_link_calls.specs.Side.{Side, Sender, Receiver, link_of, is_stopped}
use Rattle.amqp_link_calls.specs.declared.leave.PartKind.{PartKind}
use Rattle.amqp_link_calls.specs.declared.leave.PartKind.TheVariants as kind
use Rattle.amqp_link_calls.specs.declared.leave.WaitingPart.{WaitingPart}
use Rattle.amqp_sender.specs.declared.sender.Settlement.TheVariants.{Unsettled}

-- An attach waits for the peer: its Attach was not read; or that had no terminus, or this end has refused it, and its
-- Detach was not read (section 2.6.3).
abbrev pub AttachWaits : Side → Type 0
AttachWaits s = is_awaited (link_of s).phase ≡ true

-- A call that waits to be detached does so until the peer's Detach was read; one that detaches or closes until the
-- peer has answered the last Detach of this end, and no other is due (sections 2.6.4 to 2.6.6).
abbrev pub PartWaits : PartKind → Side → Type 0
PartWaits kind.OnDetach s = ((link_of s).remote ≡ None) × ((link_of s).is_gone ≡ false)
PartWaits kind.Detach s = is_done (link_of s).phase ≡ false
PartWaits kind.Close s = is_done (link_of s).phase ≡ false

-- nothing was told of the delivery at that place (section 2.6.12)
abbrev pub IsUnsettled : ℕ → Side → Type 0
IsUnsettled place (Sender s) = slice_get s.settlements place ≡ Some Unsettled
IsUnsettled place (Receiver s) = ⊥

-- An outcome may come: the link was not abandoned, and not closed by both ends, unless it could not be closed once it
-- was attached again (section 2.6.6).
abbrev pub OutcomeWaits : Side → Type 0
OutcomeWaits s =
    ((link_of s).is_gone ≡ false)
    × (is_done (link_of s).phase ≡ true → is_closed_by_one (link_of s) ≡ true → (link_of s).is_stuck ≡ true)

-- no call waits, and none will
pub record IsIdle (l : Called) : Type 0 where
  pub stopped : is_stopped l.side ≡ true
  pub attaching : l.attaching ≡ None
  pub parting : l.parting ≡ None
  pub waiting : l.waiting ≡ []

-- Each call that waits at a link does so for the peer, and each delivery is awaited by one call. Once its session has
-- stopped they wait for the end of that, behind which none waits.
pub record Waits (l : Called) : Type 0 where
  pub attach : (name : ℕ) → l.attaching ≡ Some name → is_stopped l.side ≡ false → AttachWaits l.side
  pub part : (w : WaitingPart) → l.parting ≡ Some w → is_stopped l.side ≡ false → PartWaits w.kind l.side
  pub unsettled : (place name : ℕ) → lookup (nat_eq place) l.waiting ≡ Some name → IsUnsettled place l.side
  pub outcome : (place name : ℕ) → lookup (nat_eq place) l.waiting ≡ Some name → is_stopped l.side ≡ false
      → OutcomeWaits l.side
  pub once : IsDistinct nat_eq (keys_of l.waiting)
  pub over : l.is_concluded ≡ true → IsIdle l
