-- Why a value at the front, or bytes behind it, are no body.
use Rattle.std.proofs.Common.{◌≡◌, ℕ, ◌<◌, ◌≤◌, List, [], ◌++◌, length, take, drop, Option, Some, None, refl, sym, ap, subst, ◌∙◌, inl, inr}
use Rattle.std.proofs.lemmas.Bool.{cases_lt}
use Rattle.std.proofs.lemmas.List.{take-append-drop, take_all}
use Rattle.amqp_data.specs.Data.{Amqp}
use Rattle.amqp_value.specs.Grammar.{Spells}
use Rattle.amqp_described.specs.Reading.{Begins}
use Rattle.amqp_performatives.specs.declared.performative.Performative.{Performative}
use Rattle.amqp_performatives.specs.Performative.{performative_in}
use Rattle.amqp_frames.specs.declared.body.FrameBody.{FrameBody}
use Rattle.amqp_frames.specs.Body.{framed, SpellsBody, performative'}
use Rattle.amqp_sasl_bodies.specs.declared.sasl_body.SaslBody.{SaslBody}
use Rattle.amqp_sasl_bodies.specs.SaslBody.{sasl_body_in}
use Rattle.amqp_sasl_bodies.specs.SaslBytes.{SpellsSasl}
use Rattle.amqp_body_faults.specs.Bodies.{NoBody}
use Rattle.amqp_body_faults.specs.Sasl.{NoSasl}

spells : (bytes : List ℕ) (v : Amqp) (used : ℕ) (said : Performative) (body : FrameBody) → Begins 34 bytes v used → performative_in v ≡ Some said → framed said (drop used bytes) ≡ Some body → SpellsBody bytes body
spells bytes v used said body b e f =
    subst (λ (z : List ℕ). SpellsBody z body) (take-append-drop used bytes) (performative' (take used bytes) (drop used bytes) v said body b.spelled b.nests e f)

unframed_as : (bytes : List ℕ) (v : Amqp) (used : ℕ) (said : Performative) → Begins 34 bytes v used → performative_in v ≡ Some said → NoBody bytes → (r : Option FrameBody) → framed said (drop used bytes) ≡ r → r ≡ None
unframed_as bytes v used said b e none (Some body) f = absurd (none body (spells bytes v used said body b e f))
unframed_as bytes v used said b e none None f = refl

pub unframed : (bytes : List ℕ) (v : Amqp) (used : ℕ) (said : Performative) → Begins 34 bytes v used → performative_in v ≡ Some said → NoBody bytes → framed said (drop used bytes) ≡ None
unframed bytes v used said b e none = unframed_as bytes v used said b e none (framed said (drop used bytes)) refl

-- the value does not take all the bytes
pub bytes_left : (bytes : List ℕ) (v : Amqp) (used : ℕ) (body : SaslBody) → Begins 34 bytes v used → sasl_body_in v ≡ Some body → NoSasl bytes → used < length bytes
bytes_left bytes v used body b e none =
    elim (cases_lt used (length bytes)) [
      | inl lt ↦ lt
      | inr le ↦ absurd (none body (record { value = v; spelled = subst (λ (z : List ℕ). Spells z v) (take_all used bytes le) b.spelled; nests = b.nests; says = e }))
    ]
