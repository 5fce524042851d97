-- What was written of a SASL body is read again.
use Rattle.std.proofs.Common.{◌≡◌, ℕ, List, [], sym, subst, ◌∙◌}
use Rattle.std.proofs.lemmas.List.{append-nil}
use Rattle.std.specs.Prelude.{Some, Result, Ok, Err, IfOk, OnOk}
use Rattle.amqp_described.specs.amqp_data.Data.{Items, list}
use Rattle.amqp_described.specs.amqp_value.Canonical.{canonical}
use Rattle.amqp_described.specs.amqp_value.Grammar.{Spells}
use Rattle.amqp_described.specs.amqp_fields.declared.error.BaseError.{BaseError}
use Rattle.amqp_described.specs.amqp_fields.Fields.{MakesItems, trimmed}
use Rattle.amqp_described.specs.Writing.{numbered}
use Rattle.amqp_described.specs.Bodies.{Puts}
use Rattle.amqp_described.specs.amqp_composites.Kind.{number_of}
use Rattle.amqp_sasl_bodies.specs.declared.sasl_body.SaslBody.{SaslBody}
use Rattle.amqp_sasl_bodies.specs.SaslBody.{sasl_body_in, kind_of_sasl_body, sasl_body_fields, IsSaslBodyValid, sasl_body_again}
use Rattle.amqp_sasl_bodies.specs.SaslBytes.{SpellsSasl}

-- the bytes spell the body
pub spells_sasl : (r : Result (List ℕ) BaseError) (fields : Result Items BaseError) (body : SaslBody) → Puts r fields (number_of (kind_of_sasl_body body)) [] → MakesItems (λ l. l) fields (trimmed (sasl_body_fields body)) → OnOk fields (IsSaslBodyValid body) → IfOk r (λ bytes. SpellsSasl bytes body)
spells_sasl (Ok bytes) (Ok vs) body p m valid =
    let n = number_of (kind_of_sasl_body body) in
    record {
      value = numbered n (list vs);
      spelled = subst (λ (z : List ℕ). Spells z (numbered n (list vs))) (sym (p.text ∙ append-nil (canonical (numbered n (list vs))))) p.spelled;
      nests = p.fits.nests;
      says = subst (λ (z : Items). sasl_body_in (numbered n (list z)) ≡ Some body) (sym m) (sasl_body_again body valid);
    }
spells_sasl (Ok bytes) (Err e) body p m valid = absurd p
spells_sasl (Err e) fields body p m valid = tt
