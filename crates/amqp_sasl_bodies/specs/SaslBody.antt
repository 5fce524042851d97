-- The bodies of SASL frames (OASIS AMQP 1.0, part 5, section 5.3.3).
use Rattle.std.specs.Prelude.{◌≡◌, List, Option, Some, None}
use Rattle.std.proofs.Common.{ap}
use Rattle.amqp_described.specs.amqp_data.Data.{Amqp, Items}
use Rattle.amqp_described.specs.amqp_fields.Fields.{◌>>=◌}
use Rattle.amqp_sasl_bodies.specs.declared.sasl_body.SaslBody.{SaslBody}
use Rattle.amqp_sasl_bodies.specs.declared.sasl_body.SaslBody.TheVariants as v
use Rattle.amqp_sasl_bodies.specs.declared.sasl.SaslMechanisms.{SaslMechanisms}
use Rattle.amqp_sasl_bodies.specs.declared.sasl.SaslInit.{SaslInit}
use Rattle.amqp_sasl_bodies.specs.declared.sasl.SaslChallenge.{SaslChallenge}
use Rattle.amqp_sasl_bodies.specs.declared.sasl.SaslResponse.{SaslResponse}
use Rattle.amqp_sasl_bodies.specs.declared.sasl.SaslOutcome.{SaslOutcome}
use Rattle.amqp_described.specs.amqp_composites.declared.kind.CompositeKind.{CompositeKind}
use Rattle.amqp_described.specs.amqp_composites.declared.kind.CompositeKind.TheVariants as kind
use Rattle.amqp_described.specs.amqp_composites.Described.{list_in, composite}
use Rattle.amqp_sasl_bodies.specs.Sasl.{sasl_mechanisms_of, sasl_mechanisms_fields, IsSaslMechanismsValid, sasl_mechanisms_again, sasl_init_of, sasl_init_fields, IsSaslInitValid, sasl_init_again, sasl_challenge_of, sasl_challenge_fields, IsSaslChallengeValid, sasl_challenge_again, sasl_response_of, sasl_response_fields, IsSaslResponseValid, sasl_response_again, sasl_outcome_of, sasl_outcome_fields, IsSaslOutcomeValid, sasl_outcome_again}

abbrev pub sasl_body_with : CompositeKind → Items → Option SaslBody
sasl_body_with kind.SaslMechanisms fields = sasl_mechanisms_of fields >>= λ x. Some (v.Mechanisms x)
sasl_body_with kind.SaslInit fields = sasl_init_of fields >>= λ x. Some (v.Init x)
sasl_body_with kind.SaslChallenge fields = sasl_challenge_of fields >>= λ x. Some (v.Challenge x)
sasl_body_with kind.SaslResponse fields = sasl_response_of fields >>= λ x. Some (v.Response x)
sasl_body_with kind.SaslOutcome fields = sasl_outcome_of fields >>= λ x. Some (v.Outcome x)
sasl_body_with k fields = None

-- the sasl body that a value says
abbrev pub sasl_body_in : Amqp → Option SaslBody
sasl_body_in w = list_in w >>= λ x. sasl_body_with x.0 x.1

-- which described list it is
abbrev pub kind_of_sasl_body : SaslBody → CompositeKind
kind_of_sasl_body (v.Mechanisms x) = kind.SaslMechanisms
kind_of_sasl_body (v.Init x) = kind.SaslInit
kind_of_sasl_body (v.Challenge x) = kind.SaslChallenge
kind_of_sasl_body (v.Response x) = kind.SaslResponse
kind_of_sasl_body (v.Outcome x) = kind.SaslOutcome

-- its fields, as they are written
abbrev pub sasl_body_fields : SaslBody → List Amqp
sasl_body_fields (v.Mechanisms x) = sasl_mechanisms_fields x
sasl_body_fields (v.Init x) = sasl_init_fields x
sasl_body_fields (v.Challenge x) = sasl_challenge_fields x
sasl_body_fields (v.Response x) = sasl_response_fields x
sasl_body_fields (v.Outcome x) = sasl_outcome_fields x

-- the value that says it
abbrev pub of_sasl_body : SaslBody → Amqp
of_sasl_body x = composite (kind_of_sasl_body x) (sasl_body_fields x)

abbrev pub IsSaslBodyValid : SaslBody → Type 0
IsSaslBodyValid (v.Mechanisms x) = IsSaslMechanismsValid x
IsSaslBodyValid (v.Init x) = IsSaslInitValid x
IsSaslBodyValid (v.Challenge x) = IsSaslChallengeValid x
IsSaslBodyValid (v.Response x) = IsSaslResponseValid x
IsSaslBodyValid (v.Outcome x) = IsSaslOutcomeValid x

pub sasl_body_again : (x : SaslBody) → IsSaslBodyValid x → sasl_body_in (of_sasl_body x) ≡ Some x
sasl_body_again (v.Mechanisms x) h = ap (λ (r : Option SaslMechanisms). r >>= λ y. Some (v.Mechanisms y)) (sasl_mechanisms_again x h)
sasl_body_again (v.Init x) h = ap (λ (r : Option SaslInit). r >>= λ y. Some (v.Init y)) (sasl_init_again x h)
sasl_body_again (v.Challenge x) h = ap (λ (r : Option SaslChallenge). r >>= λ y. Some (v.Challenge y)) (sasl_challenge_again x h)
sasl_body_again (v.Response x) h = ap (λ (r : Option SaslResponse). r >>= λ y. Some (v.Response y)) (sasl_response_again x h)
sasl_body_again (v.Outcome x) h = ap (λ (r : Option SaslOutcome). r >>= λ y. Some (v.Outcome y)) (sasl_outcome_again x h)

pub sasl_body_valid : (x : SaslBody) → IsSaslBodyValid x
sasl_body_valid (v.Mechanisms x) = tt
sasl_body_valid (v.Init x) = tt
sasl_body_valid (v.Challenge x) = tt
sasl_body_valid (v.Response x) = tt
sasl_body_valid (v.Outcome x) = tt
