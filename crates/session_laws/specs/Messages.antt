-- Messages, and the parts that carry them (OASIS AMQP 1.0, part 2, sections 2.6.14 and 2.7.5).
use Rattle.std.specs.Prelude.{◌≡◌, ℕ, nat_eq, Bool, false, List, [], ◌∷◌, ◌++◌, flat_map, filter, Some, None}
use Rattle.amqp_performatives.specs.declared.transfer.Transfer.{Transfer}
use Rattle.amqp_frames.specs.declared.body.FrameBody.{FrameBody}
use Rattle.amqp_frames.specs.declared.body.FrameBody.TheVariants as b
use Rattle.amqp_parts.specs.declared.part.Part.{Part}
use Rattle.amqp_parts.specs.Split.{saying_more, continuation, last_part}

-- a message as its link sends it: the handle of the link, the tag of the delivery, the format, whether it is sent settled, whether the
-- receiver may settle it later than others, and its bytes
pub record Message : Type 0 where
  pub handle : ℕ
  pub tag : List ℕ
  pub format : ℕ
  pub settled : Bool
  pub batchable : Bool
  pub payload : List ℕ

-- its Transfer, which has no number yet, and its bytes
abbrev pub part_of : Message → Part
part_of m = record { transfer = record { handle = m.handle; delivery_id = None; delivery_tag = Some m.tag; message_format = Some m.format; settled = Some m.settled; more = false; rcv_settle_mode = None; state = None; resume = false; aborted = false; batchable = m.batchable }; payload = m.payload }

-- a message and the number of its delivery in the session
pub record Delivery : Type 0 where
  pub number : ℕ
  pub message : Message

-- its Transfer with its number, and its bytes
abbrev pub whole_of : Delivery → Part
whole_of d = record { transfer = record (part_of d.message).transfer { delivery_id = Some d.number }; payload = d.message.payload }

-- These are the parts of a delivery whose next Transfer says x: one alone says that no more comes; else the first says that more does, and
-- what goes on with it names the link alone. Together they have its bytes.
abbrev pub ArePartsOf : Transfer → List ℕ → List Part → Type 0
ArePartsOf x payload [] = ⊥
ArePartsOf x payload (p ∷ []) = p ≡ last_part x payload
ArePartsOf x payload (p ∷ q ∷ ps) =
    (back : List ℕ) × ((p.transfer ≡ saying_more x) × (p.payload ++ back ≡ payload) × ArePartsOf (continuation x.handle) back (q ∷ ps))

-- these are the parts of deliveries, one delivery after another
abbrev pub Carry : List Part → List Part → Type 0
Carry [] parts = parts ≡ []
Carry (d ∷ ds) parts =
    (own : List Part) × ((others : List Part) × ((parts ≡ own ++ others) × ArePartsOf d.transfer d.payload own × Carry ds others))

-- the Transfers among frames
abbrev pub transfer_in : FrameBody → List Part
transfer_in (b.Transfer x payload) = record { transfer = x; payload = payload } ∷ []
transfer_in other = []

abbrev pub transfers : List FrameBody → List Part
transfers xs = flat_map transfer_in xs

-- the Transfers of the link with that handle
abbrev pub on : ℕ → List Part → List Part
on handle xs = filter (λ x. nat_eq x.transfer.handle handle) xs
