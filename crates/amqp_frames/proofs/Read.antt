-- What the front of a frame's body says, and what stands behind it.
use Rattle.std.proofs.Common.{◌≡◌, ℕ, ◌<◌, ◌≤◌, List, [], ◌++◌, length, take, drop, refl, sym, ap, subst, ◌∙◌, arith}
use Rattle.std.proofs.lemmas.List.{length-append, take-append-drop, take_at, drop_at}
use Rattle.std.proofs.lemmas.Option.{none-some, same_Some}
use Rattle.std.specs.Prelude.{Some, None, Result, Ok, Err}
use Rattle.amqp_described.specs.amqp_data.Data.{Amqp, depth}
use Rattle.amqp_described.specs.amqp_data.View.{view}
use Rattle.amqp_described.specs.amqp_data.declared.value.Value.{Value}
use Rattle.amqp_described.specs.amqp_value.Grammar.{Spells, scalar', empty_list, list', map', array', described'}
use Rattle.amqp_described.specs.amqp_fields.declared.error.BaseError.{BaseError}
use Rattle.amqp_described.specs.amqp_fields.declared.error.BaseError.TheVariants as errors
use Rattle.amqp_described.specs.amqp_fields.Fields.{Gives}
use Rattle.amqp_described.specs.Reading.{IsTheOne, Begins, ReadsFront}
use Rattle.amqp_performatives.specs.declared.performative.Performative.{Performative}
use Rattle.amqp_performatives.specs.Performative.{performative_in}
use Rattle.amqp_frames.specs.declared.body.FrameBody.{FrameBody}
use Rattle.amqp_frames.specs.declared.body.FrameBody.TheVariants as b
use Rattle.amqp_frames.specs.Body.{framed, SpellsBody, empty', performative'}

-- a spelling has a byte at least
spelled_pos : {text : List ℕ} {v : Amqp} → Spells text v → 0 < length text
spelled_pos (scalar' c text s l) = omega arith
spelled_pos empty_list = omega arith
spelled_pos (list' w vs items s few short) = omega arith
spelled_pos (map' w ps items s d few short) = omega arith
spelled_pos (array' w k c vs elements e l few short) = omega arith
spelled_pos (described' d v first rest s t) = omega arith

-- no bytes spell the empty body alone
empty_only : {input : List ℕ} {body : FrameBody} → SpellsBody input body → length input ≡ 0 → b.Empty ≡ body
empty_only empty' e = refl
empty_only (performative' text payload value said body s n says f) e = absurd (omega (arith, spelled_pos s, e, length-append text payload))

pub the_empty : (input : List ℕ) → input ≡ [] → IsTheOne (Ok b.Empty) (SpellsBody input)
the_empty input e = (subst (λ (z : List ℕ). SpellsBody z b.Empty) (sym e) empty', λ y h. empty_only h (ap length e))

-- a performative and what stands behind it
record Parts (input : List ℕ) (body : FrameBody) : Type 0 where
  pub text : List ℕ
  pub payload : List ℕ
  pub value : Amqp
  pub said : Performative
  pub is : input ≡ text ++ payload
  pub spelled : Spells text value
  pub nests : depth value ≤ 34
  pub says : performative_in value ≡ Some said
  pub whole : framed said payload ≡ Some body

in_parts : {input : List ℕ} {body : FrameBody} → SpellsBody input body → 0 < length input → Parts input body
in_parts empty' pos = absurd (omega (arith, pos))
in_parts (performative' text payload value said body s n says f) pos = record { text = text; payload = payload; value = value; said = said; is = refl; spelled = s; nests = n; says = says; whole = f }

front_of : (input : List ℕ) (body : FrameBody) (p : Parts input body) → take (length p.text) input ≡ p.text
front_of input body p = ap (λ (z : List ℕ). take (length p.text) z) p.is ∙ take_at p.text p.payload (length p.text) refl

rest_of : (input : List ℕ) (body : FrameBody) (p : Parts input body) → drop (length p.text) input ≡ p.payload
rest_of input body p = ap (λ (z : List ℕ). drop (length p.text) z) p.is ∙ drop_at p.text p.payload (length p.text) refl

begins : (input : List ℕ) (body : FrameBody) (p : Parts input body) → Begins 34 input p.value (length p.text)
begins input body p = record {
  within = omega (arith, ap length p.is, length-append p.text p.payload);
  spelled = subst (λ (z : List ℕ). Spells z p.value) (sym (front_of input body p)) p.spelled;
  nests = p.nests;
}

abbrev Only : List ℕ → Amqp → ℕ → Type 0
Only input v used = (w : Amqp) (n : ℕ) → Begins 34 input w n → (v ≡ w) × (used ≡ n)

-- each body that the bytes spell is what the value at their front says, with what stands behind it
says_body : (input : List ℕ) (v : Amqp) (used : ℕ) (said : Performative) → Only input v used → performative_in v ≡ Some said → 0 < length input → (y : FrameBody) → SpellsBody input y → framed said (drop used input) ≡ Some y
says_body input v used said only says pos y h =
    let p = in_parts h pos in
    let same = only p.value (length p.text) (begins input y p) in
    let is_said = same_Some _ _ (sym says ∙ ap performative_in same.0 ∙ p.says) in
    let is_rest = ap (λ (z : ℕ). drop z input) same.1 ∙ rest_of input y p in
    ap (λ (z : Performative). framed z (drop used input)) is_said ∙ ap (framed p.said) is_rest ∙ p.whole

no_body : (input : List ℕ) (v : Amqp) (used : ℕ) → Only input v used → performative_in v ≡ None → 0 < length input → (y : FrameBody) → SpellsBody input y → ⊥
no_body input v used only none pos y h =
    let p = in_parts h pos in
    let same = only p.value (length p.text) (begins input y p) in
    none-some _ (sym none ∙ ap performative_in same.0 ∙ p.says)

-- no value is at the front
pub unread : (e : BaseError) (input : List ℕ) → 0 < length input → ReadsFront (Err e) 34 input → IsTheOne (Err e) (SpellsBody input)
unread (errors.Memory a) input pos r = tt
unread errors.Size input pos r = r
unread errors.Decode input pos r = λ y h. let p = in_parts h pos in r p.value (length p.text) (begins input y p)

-- the value at the front says no performative
pub unsaid : (e : BaseError) (input : List ℕ) (x : Value × ℕ) → 0 < length input → ReadsFront (Ok x) 34 input → Gives (Err e) (performative_in (view x.0)) → IsTheOne (Err e) (SpellsBody input)
unsaid (errors.Memory a) input x pos r g = tt
unsaid errors.Size input x pos r g = g
unsaid errors.Decode input x pos r g = no_body input (view x.0) x.1 r.1 g pos

whole : (input : List ℕ) (v : Amqp) (used : ℕ) (said : Performative) (body : FrameBody) → Begins 34 input v used → performative_in v ≡ Some said → framed said (drop used input) ≡ Some body → SpellsBody input body
whole input v used said body begin says f = subst (λ (z : List ℕ). SpellsBody z body) (take-append-drop used input) (performative' (take used input) (drop used input) v said body begin.spelled begin.nests says f)

-- the performative at the front and what stands behind it are the body
pub said_body : (r : Result FrameBody BaseError) (input : List ℕ) (x : Value × ℕ) (said : Performative) → 0 < length input → ReadsFront (Ok x) 34 input → performative_in (view x.0) ≡ Some said → Gives r (framed said (drop x.1 input)) → IsTheOne r (SpellsBody input)
said_body (Ok body) input x said pos r says g = (
  whole input (view x.0) x.1 said body r.0 says g,
  λ y h. same_Some _ _ (sym g ∙ says_body input (view x.0) x.1 said r.1 says pos y h),
)
said_body (Err (errors.Memory a)) input x said pos r says g = tt
said_body (Err errors.Size) input x said pos r says g = g
said_body (Err errors.Decode) input x said pos r says g = λ y h. none-some _ (sym g ∙ says_body input (view x.0) x.1 said r.1 says pos y h)
