-- A body spells one item at most (OASIS AMQP 1.0, part 2, section 2.3.2; part 5, section 5.3.1).
use Rattle.std.proofs.Common.{◌≡◌, ◌⊎◌, inl, inr, ℕ, List, [], ◌∷◌, ◌++◌, length, refl, sym, ap, ◌∙◌, arith}
use Rattle.std.proofs.lemmas.List.{append_cancel_left, length-append}
use Rattle.std.proofs.lemmas.Option.{same_Some}
use Rattle.std.specs.Prelude.{Some}
use Rattle.amqp_data.specs.Data.{Amqp, list, no_items}
use Rattle.amqp_value.specs.Grammar.{Spells, empty_list}
use Rattle.amqp_value.proofs.Complete.{begins_no_other}
use Rattle.amqp_frames.specs.amqp_performatives.declared.performative.Performative.{Performative}
use Rattle.amqp_sasl_bodies.specs.declared.sasl_body.SaslBody.{SaslBody}
use Rattle.amqp_frames.specs.amqp_performatives.Performative.{performative_in}
use Rattle.amqp_sasl_bodies.specs.SaslBody.{sasl_body_in}
use Rattle.amqp_frames.specs.declared.body.FrameBody.{FrameBody}
use Rattle.amqp_frames.specs.declared.body.FrameBody.TheVariants.{Empty}
use Rattle.amqp_frames.specs.Body.{framed, SpellsBody, empty', performative'}
use Rattle.amqp_transport.specs.declared.frames.Frame.{Frame}
use Rattle.amqp_transport.specs.Kinds.{amqp_spells, sasl_spells}

pub one_sasl : (channel : ℕ) (bytes : List ℕ) (x y : SaslBody) → sasl_spells channel bytes x → sasl_spells channel bytes y → x ≡ y
one_sasl channel bytes x y s t =
    let same = begins_no_other bytes bytes [] [] s.value t.value refl s.spelled t.spelled in
    same_Some _ _ (sym s.says ∙ ap sasl_body_in same.1 ∙ t.says)

-- a performative and what stands behind it
record Parts (bytes : List ℕ) (body : FrameBody) : Type 0 where
  pub text : List ℕ
  pub payload : List ℕ
  pub value : Amqp
  pub said : Performative
  pub is : bytes ≡ text ++ payload
  pub spelled : Spells text value
  pub says : performative_in value ≡ Some said
  pub whole : framed said payload ≡ Some body

in_parts : {bytes : List ℕ} {body : FrameBody} → SpellsBody bytes body → ((bytes ≡ []) × (Empty ≡ body)) ⊎ Parts bytes body
in_parts empty' = inl (refl, refl)
in_parts (performative' text payload value said body s n says f) = inr (record { text = text; payload = payload; value = value; said = said; is = refl; spelled = s; says = says; whole = f })

-- no bytes spell no value, since they would begin each spelling of one
spelled_not : (text : List ℕ) (v : Amqp) → Spells text v → length text ≡ 0 → ⊥
spelled_not [] v s e = let same = begins_no_other [] (0x45 ∷ []) (0x45 ∷ []) [] v (list no_items) refl s empty_list in omega (arith, ap length same.0)
spelled_not (b ∷ text) v s e = omega (arith, e)

parts_not : (bytes : List ℕ) (body : FrameBody) → bytes ≡ [] → Parts bytes body → ⊥
parts_not bytes body e p = spelled_not p.text p.value p.spelled (omega (arith, ap length e, ap length p.is, length-append p.text p.payload))

same_parts : (bytes : List ℕ) (x y : FrameBody) → Parts bytes x → Parts bytes y → x ≡ y
same_parts bytes x y p q =
    let whole = sym p.is ∙ q.is in
    let same = begins_no_other p.text q.text p.payload q.payload p.value q.value whole p.spelled q.spelled in
    let said = same_Some _ _ (sym p.says ∙ ap performative_in same.1 ∙ q.says) in
    let behind = append_cancel_left q.text p.payload q.payload (ap (λ (z : List ℕ). z ++ p.payload) (sym same.0) ∙ whole) in
    same_Some _ _ (sym p.whole ∙ ap (λ (z : Performative). framed z p.payload) said ∙ ap (framed q.said) behind ∙ q.whole)

one_body : (bytes : List ℕ) (x y : FrameBody) → SpellsBody bytes x → SpellsBody bytes y → x ≡ y
one_body bytes x y s t = elim (in_parts s) [
  | inl a ↦ elim (in_parts t) [ inl b ↦ sym a.1 ∙ b.1 | inr q ↦ absurd (parts_not bytes y a.0 q) ]
  | inr p ↦ elim (in_parts t) [ inl b ↦ absurd (parts_not bytes x b.0 p) | inr q ↦ same_parts bytes x y p q ]
]

pub one_frame : (channel : ℕ) (bytes : List ℕ) (x y : Frame) → amqp_spells channel bytes x → amqp_spells channel bytes y → x ≡ y
one_frame channel bytes x y s t =
    let c : x.channel ≡ y.channel = s.0 ∙ sym t.0 in
    let b = one_body bytes x.body y.body s.1 t.1 in
    λ i. record { channel = c i; body = b i }
