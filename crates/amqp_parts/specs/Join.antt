-- How parts make a delivery (OASIS AMQP 1.0, part 2, sections 2.6.14 and 2.7.5).
use Rattle.std.specs.Prelude.{◌≡◌, ℕ, ◌+◌, min, nat_eq, Bool, true, false, ◌&&◌, List, [], ◌∷◌, ◌++◌, length, Option, Some, None, Result, Ok, Err}
use Rattle.std.specs.Str.{bytes_eq}
use Rattle.amqp_composites.specs.Modes.{same_receiver_mode}
use Rattle.amqp_performatives.specs.declared.transfer.Transfer.{Transfer}
use Rattle.amqp_parts.specs.declared.incomplete.IncompleteTransfer.{IncompleteTransfer}
use Rattle.amqp_parts.specs.declared.incomplete.PartError.{PartError}
use Rattle.amqp_parts.specs.declared.incomplete.PartError.TheVariants as error

-- the bytes of all parts, which are counted up to 2^64 - 1
abbrev pub counted : ℕ → List ℕ → ℕ
counted n payload = min (n + length payload) 18446744073709551615

-- a delivery of which more is to come: what its parts say together, the bytes of each, and how many they are
pub record Incomplete : Type 0 where
  pub transfer : Transfer
  pub payloads : List (List ℕ)
  pub size : ℕ

abbrev pub seen : IncompleteTransfer → Incomplete
seen x = record { transfer = x.transfer; payloads = x.payloads.items; size = x.size }

-- a part does not say anew what was said, or says it the same
abbrev pub agree : {X : Type 0} → (X → X → Bool) → Option X → Option X → Bool
agree same (Some x) (Some y) = same x y
agree same x y = true

abbrev pub agrees : Transfer → Transfer → Bool
agrees x y = agree nat_eq x.delivery_id y.delivery_id && agree bytes_eq x.delivery_tag y.delivery_tag && agree nat_eq x.message_format y.message_format && agree same_receiver_mode x.rcv_settle_mode y.rcv_settle_mode

-- what was said first stays
abbrev pub first_said : {X : Type 0} → Option X → Option X → Option X
first_said (Some x) y = Some x
first_said None y = y

-- what was said last counts
abbrev pub last_said : {X : Type 0} → Option X → Option X → Option X
last_said x (Some y) = Some y
last_said x None = x

-- a delivery is settled where one of its parts says so (section 2.7.5)
abbrev pub settled_by : Option Bool → Option Bool → Option Bool
settled_by (Some true) y = Some true
settled_by x (Some y) = Some y
settled_by x None = x

-- what the parts say together
abbrev pub joined : Transfer → Transfer → Transfer
joined x y = record x { delivery_id = first_said x.delivery_id y.delivery_id; delivery_tag = first_said x.delivery_tag y.delivery_tag; message_format = first_said x.message_format y.message_format; settled = settled_by x.settled y.settled; more = y.more; rcv_settle_mode = first_said x.rcv_settle_mode y.rcv_settle_mode; state = last_said x.state y.state }

-- the first part
abbrev pub begun : Transfer → List ℕ → Incomplete
begun x payload = record { transfer = x; payloads = payload ∷ []; size = counted 0 payload }

-- one more part
abbrev pub appended : Incomplete → Transfer → List ℕ → Incomplete
appended b x payload = record { transfer = joined b.transfer x; payloads = b.payloads ++ payload ∷ []; size = counted b.size payload }

-- a first part has a number and a tag
abbrev pub lacks : Option ℕ → Option (List ℕ) → Option PartError
lacks None tag = Some error.DeliveryIdIsNone
lacks (Some id) None = Some error.DeliveryTagIsNone
lacks (Some id) (Some tag) = None

abbrev pub IsMemory : PartError → Type 0
IsMemory (error.Memory a) = Unit {0}
IsMemory e = ⊥

abbrev pub Starts : Result IncompleteTransfer PartError → Transfer → List ℕ → Type 0
Starts (Ok b) x payload = (lacks x.delivery_id x.delivery_tag ≡ None) × (seen b ≡ begun x payload)
Starts (Err (error.Memory a)) x payload = Unit {0}
Starts (Err e) x payload = lacks x.delivery_id x.delivery_tag ≡ Some e

-- a part that is refused changes nothing
abbrev pub Appends : Result Unit PartError → Incomplete → Incomplete → Transfer → List ℕ → Type 0
Appends (Ok done) old new x payload = (agrees old.transfer x ≡ true) × (new ≡ appended old x payload)
Appends (Err (error.Memory a)) old new x payload = new ≡ old
Appends (Err error.InconsistentFieldInMultiFrameDelivery) old new x payload = (agrees old.transfer x ≡ false) × (new ≡ old)
Appends (Err e) old new x payload = ⊥

-- a part is of the delivery whose tag it has; where it has none, of the one that was begun
abbrev pub is_same_delivery : Transfer → Transfer → Bool
is_same_delivery x y = agree bytes_eq x.delivery_tag y.delivery_tag
