-- What a sender keeps as it goes on.
use Rattle.std.specs.Prelude.{◌≡◌, ℕ, nat_lt, Bool, true, false, zero, suc, slice_get, length, List, [], ◌∷◌, ◌++◌, Option, Some, None, Err, if◌then◌else◌, refl}
use Rattle.amqp_performatives.specs.declared.flow.Flow.{Flow}
use Rattle.amqp_link.specs.declared.endpoint.LinkPhase.{LinkPhase}
use Rattle.amqp_link.specs.declared.endpoint.LinkPhase.TheVariants as phase
use Rattle.amqp_link.specs.declared.error.DetachError.TheVariants.{IllegalState}
use Rattle.amqp_link.specs.declared.error.LinkStateError.{LinkStateError}
use Rattle.amqp_link.specs.Link as link
use Rattle.amqp_sender.specs.declared.error.SendError.{SendError}
use Rattle.amqp_sender.specs.declared.error.SendError.TheVariants as error
use Rattle.amqp_sender.specs.declared.sender.Settlement.TheVariants.{Unsettled}
use Rattle.amqp_sender.specs.Sender.{State}
use Rattle.amqp_sender.specs.Sending.{tells, is_too_large, is_settled, first_settlement, sending_with, sending_unless, sending, flow_in, flow_read, drained, credit_by}
use Rattle.call_waits.proofs.Links.{Keeps, keeps_on, unexpected_keeps}

-- its link keeps what it has, and a delivery of which nothing was told stays so
pub record Keeping (s t : State) : Type 0 where
  pub link : Keeps s.link t.link
  pub unsettled : (place : ℕ) → slice_get s.settlements place ≡ Some Unsettled → slice_get t.settlements place ≡ Some Unsettled

pub keeping_on : (s : State) → Keeping s s
keeping_on s = record { link = keeps_on s.link; unsettled = λ place h. h }

-- ---- a message is sent

get_first : {X : Type 0} → (xs ys : List X) (i : ℕ) (z : X) → slice_get xs i ≡ Some z → slice_get (xs ++ ys) i ≡ Some z
get_first [] ys zero z h = absurd cc
get_first [] ys (suc i) z h = absurd cc
get_first (x ∷ xs) ys zero z h = h
get_first (x ∷ xs) ys (suc i) z h = get_first xs ys i z h

with_keeping : (b : Bool) (payload : List ℕ) (format : ℕ) (settled batchable : Bool) (s : State) → Keeping s (sending_with b payload format settled batchable s).state
with_keeping true payload format settled batchable s =
    record { link = record { stays = record { done = λ h. (h, refl, refl); remote = refl; gone = refl; stop = refl }; awaits = λ h. h }; unsettled = λ place h. get_first s.settlements (first_settlement settled ∷ []) place Unsettled h }
with_keeping false payload format settled batchable s = keeping_on s

unless_by : (d : Bool) (payload : List ℕ) (format : ℕ) (settled batchable : Bool) (s : State)
    → Keeping s (if d then tells (Err (error.Detached IllegalState)) s else sending_with (nat_lt 0 s.credit) payload format settled batchable s).state
unless_by true payload format settled batchable s = keeping_on s
unless_by false payload format settled batchable s = with_keeping (nat_lt 0 s.credit) payload format settled batchable s

unless_keeping : (o : Option LinkStateError) (payload : List ℕ) (format : ℕ) (settled batchable : Bool) (s : State) → Keeping s (sending_unless o payload format settled batchable s).state
unless_keeping (Some e) payload format settled batchable s = keeping_on s
unless_keeping None payload format settled batchable s = unless_by (link.is_detaching s.link.phase) payload format settled batchable s

sending_by : (c : Bool) (o : Option LinkStateError) (e : SendError) (payload : List ℕ) (format : ℕ) (settled batchable : Bool) (s : State)
    → Keeping s (if c then tells (Err e) s else sending_unless o payload format settled batchable s).state
sending_by true o e payload format settled batchable s = keeping_on s
sending_by false o e payload format settled batchable s = unless_keeping o payload format settled batchable s

pub sending_keeping : (payload : List ℕ) (format : ℕ) (wanted : Option Bool) (batchable : Bool) (s : State) → Keeping s (sending payload format wanted batchable s).state
sending_keeping payload format wanted batchable s =
    sending_by (is_too_large (length payload) s.link.max_message_size) (link.refusal s.link) (error.MessageSizeExceeded (length payload) s.link.max_message_size)
    payload format (is_settled s.link.own.snd_settle_mode wanted) batchable s

-- ---- a Flow is read

credited_by : (c : Bool) (t s : State) → Keeping s t → Keeping s (drained t) → Keeping s (if c then drained t else t)
credited_by true t s p q = q
credited_by false t s p q = p

flow_by : (p : LinkPhase) (x : Flow) (s : State) → Keeping s (flow_in p x s)
flow_by phase.Attached x s =
    let t : State = record s { credit = credit_by x s } in
    credited_by x.drain t s (record { link = keeps_on s.link; unsettled = λ place h. h }) (record { link = record { stays = record { done = λ h. (h, refl, refl); remote = refl; gone = refl; stop = refl }; awaits = λ h. h }; unsettled = λ place h. h })
flow_by p x s = record { link = unexpected_keeps s.link; unsettled = λ place h. h }

pub flow_keeping : (x : Flow) (s : State) → Keeping s (flow_read x s)
flow_keeping x s = flow_by s.link.phase x s
