-- What the body of a frame says (OASIS AMQP 1.0, part 2, section 2.3.2).
use Rattle.std.specs.Prelude.{◌≡◌, ℕ, ◌≤◌, List, [], ◌∷◌, ◌++◌, Option, Some, None}
use Rattle.amqp_described.specs.amqp_data.Data.{Amqp, Items, no_items, item, depth}
use Rattle.amqp_described.specs.amqp_value.Grammar.{Spells}
use Rattle.amqp_described.specs.amqp_composites.declared.kind.CompositeKind.TheVariants as kind
use Rattle.amqp_performatives.specs.declared.performative.Performative.{Performative}
use Rattle.amqp_performatives.specs.declared.performative.Performative.TheVariants as p
use Rattle.amqp_described.specs.amqp_composites.Described.{composite}
use Rattle.amqp_performatives.specs.Attach.{attach_fields, written}
use Rattle.amqp_performatives.specs.Begin.{begin_fields}
use Rattle.amqp_performatives.specs.Close.{close_fields}
use Rattle.amqp_performatives.specs.Detach.{detach_fields}
use Rattle.amqp_performatives.specs.Disposition.{disposition_fields}
use Rattle.amqp_performatives.specs.End.{end_fields}
use Rattle.amqp_performatives.specs.Flow.{flow_fields}
use Rattle.amqp_performatives.specs.Open.{open_fields}
use Rattle.amqp_performatives.specs.Transfer.{transfer_fields}
use Rattle.amqp_performatives.specs.Performative.{performative_in}
use Rattle.amqp_frames.specs.declared.body.FrameBody.{FrameBody}
use Rattle.amqp_frames.specs.declared.body.FrameBody.TheVariants as b

-- the body, where no bytes stand behind its performative
abbrev pub alone : FrameBody → List ℕ → Option FrameBody
alone body [] = Some body
alone body (x ∷ xs) = None

-- the body with that performative and the bytes behind it: only behind a Transfer there may be some
abbrev pub framed : Performative → List ℕ → Option FrameBody
framed (p.Open x) payload = alone (b.Open x) payload
framed (p.Begin x) payload = alone (b.Begin x) payload
framed (p.Attach x) payload = alone (b.Attach x) payload
framed (p.Flow x) payload = alone (b.Flow x) payload
framed (p.Transfer x) payload = Some (b.Transfer x payload)
framed (p.Disposition x) payload = alone (b.Disposition x) payload
framed (p.Detach x) payload = alone (b.Detach x) payload
framed (p.End x) payload = alone (b.End x) payload
framed (p.Close x) payload = alone (b.Close x) payload

-- the bytes of a body: none, or a value that says a performative, and its payload
pub data SpellsBody : List ℕ → FrameBody → Type 0 where
  empty' : SpellsBody [] b.Empty
  performative' : (text payload : List ℕ) (value : Amqp) (said : Performative) (body : FrameBody) → Spells text value → depth value ≤ 34 → performative_in value ≡ Some said → framed said payload ≡ Some body → SpellsBody (text ++ payload) body

-- the value that is written of the body
abbrev pub body_values : FrameBody → Items
body_values (b.Open x) = item (composite kind.Open (open_fields x)) no_items
body_values (b.Begin x) = item (composite kind.Begin (begin_fields x)) no_items
body_values (b.Attach x) = item (composite kind.Attach (attach_fields x)) no_items
body_values (b.Flow x) = item (composite kind.Flow (flow_fields x)) no_items
body_values (b.Transfer x payload) = item (composite kind.Transfer (transfer_fields x)) no_items
body_values (b.Disposition x) = item (composite kind.Disposition (disposition_fields x)) no_items
body_values (b.Detach x) = item (composite kind.Detach (detach_fields x)) no_items
body_values (b.End x) = item (composite kind.End (end_fields x)) no_items
body_values (b.Close x) = item (composite kind.Close (close_fields x)) no_items
body_values b.Empty = no_items

-- the bytes behind it
abbrev pub body_payload : FrameBody → List ℕ
body_payload (b.Transfer x payload) = payload
body_payload body = []

-- the body as it is read again: a max-message-size of 0 is none
abbrev pub read_again_body : FrameBody → FrameBody
read_again_body (b.Attach x) = b.Attach (written x)
read_again_body body = body
