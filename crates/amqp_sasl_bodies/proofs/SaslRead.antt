-- What the bytes of a SASL frame's body say.
use Rattle.std.proofs.Common.{◌≡◌, ℕ, ◌<◌, ◌≤◌, List, length, take, sym, ap, subst, ◌∙◌, arith}
use Rattle.std.proofs.lemmas.List.{take_all}
use Rattle.std.proofs.lemmas.Option.{none-some, same_Some}
use Rattle.std.specs.Prelude.{Some, Result, Ok, Err}
use Rattle.amqp_described.specs.amqp_data.View.{view}
use Rattle.amqp_described.specs.amqp_data.declared.value.Value.{Value}
use Rattle.amqp_described.specs.amqp_value.Grammar.{Spells}
use Rattle.amqp_described.specs.amqp_fields.declared.error.BaseError.{BaseError}
use Rattle.amqp_described.specs.amqp_fields.declared.error.BaseError.TheVariants as errors
use Rattle.amqp_described.specs.amqp_fields.Fields.{Gives}
use Rattle.amqp_described.specs.Reading.{IsTheOne, Begins, ReadsFront}
use Rattle.amqp_sasl_bodies.specs.declared.sasl_body.SaslBody.{SaslBody}
use Rattle.amqp_sasl_bodies.specs.SaslBody.{sasl_body_in}
use Rattle.amqp_sasl_bodies.specs.SaslBytes.{SpellsSasl}

begins : (input : List ℕ) (body : SaslBody) (p : SpellsSasl input body) → Begins 34 input p.value (length input)
begins input body p = record {
  within = omega arith;
  spelled = subst (λ (z : List ℕ). Spells z p.value) (sym (take_all (length input) input (omega arith))) p.spelled;
  nests = p.nests;
}

-- no value is at the front
pub unread : (e : BaseError) (input : List ℕ) → ReadsFront (Err e) 34 input → IsTheOne (Err e) (SpellsSasl input)
unread (errors.Memory a) input r = tt
unread errors.Size input r = r
unread errors.Decode input r = λ y p. r p.value (length input) (begins input y p)

-- the value at the front leaves bytes behind it
pub more_behind : (input : List ℕ) (x : Value × ℕ) → ReadsFront (Ok x) 34 input → x.1 < length input → (y : SaslBody) → SpellsSasl input y → ⊥
more_behind input x r less y p = let same = r.1 p.value (length input) (begins input y p) in omega (arith, less, same.1)

says_body : (input : List ℕ) (x : Value × ℕ) → ReadsFront (Ok x) 34 input → (y : SaslBody) → SpellsSasl input y → sasl_body_in (view x.0) ≡ Some y
says_body input x r y p = let same = r.1 p.value (length input) (begins input y p) in ap sasl_body_in same.0 ∙ p.says

filled : (input : List ℕ) (x : Value × ℕ) → ReadsFront (Ok x) 34 input → (x.1 < length input → ⊥) → take x.1 input ≡ input
filled input x r all = ap (λ (z : ℕ). take z input) (omega (arith, r.0.within, all)) ∙ take_all (length input) input (omega arith)

-- the value fills the bytes
pub said_sasl : (r : Result SaslBody BaseError) (input : List ℕ) (x : Value × ℕ) → ReadsFront (Ok x) 34 input → length input ≤ x.1 → Gives r (sasl_body_in (view x.0)) → IsTheOne r (SpellsSasl input)
said_sasl (Ok body) input x r all g = (
  record {
    value = view x.0;
    spelled = subst (λ (z : List ℕ). Spells z (view x.0)) (filled input x r (λ less. omega (arith, all, less))) r.0.spelled;
    nests = r.0.nests;
    says = g;
  },
  λ y p. same_Some _ _ (sym g ∙ says_body input x r y p),
)
said_sasl (Err (errors.Memory a)) input x r all g = tt
said_sasl (Err errors.Size) input x r all g = g
said_sasl (Err errors.Decode) input x r all g = λ y p. none-some _ (sym g ∙ says_body input x r y p)
