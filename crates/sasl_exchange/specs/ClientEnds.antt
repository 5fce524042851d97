-- What the clients of all mechanisms have in common.
use Rattle.std.specs.Prelude.{◌≡◌, ◌≢◌, ◌++◌, ℕ, Bool, true, false, List, [], ◌∷◌, Option, Contains}
use Rattle.amqp_sasl_bodies.specs.declared.sasl_body.SaslBody.{SaslBody}
use Rattle.amqp_sasl_bodies.specs.declared.sasl_code.SaslCode.{SaslCode}
use Rattle.amqp_sasl_bodies.specs.declared.sasl_code.SaslCode.TheVariants as sasl
use Rattle.sasl_exchange.specs.ScramBodies.{mechanisms_body, outcome_body}

-- whether an outcome refuses (OASIS AMQP 1.0, part 5, section 5.3.3.6)
abbrev pub is_refusal : SaslCode → Bool
is_refusal sasl.Ok = false
is_refusal sasl.Auth = true
is_refusal sasl.Sys = true
is_refusal sasl.SysPerm = true
is_refusal sasl.SysTemp = true

-- an end that read a list with its own mechanism, and sent this
pub record HasMechanisms (mechanism : List ℕ) (given sent now : List SaslBody) : Type 0 where
  pub names : List (List ℕ)
  pub given_is : given ≡ mechanisms_body names ∷ []
  pub listed : Contains names mechanism
  pub sent_is : sent ≡ now

-- the list read is without a mechanism
abbrev pub IsUnlisted : List ℕ → List SaslBody → Type 0
IsUnlisted mechanism given = (names : List (List ℕ)) × (given ≡ mechanisms_body names ∷ []) × (¬ Contains names mechanism)

-- the last body given is an outcome that refuses
abbrev pub EndsInRefusal : SaslCode → Option (List ℕ) → List SaslBody → Type 0
EndsInRefusal code payload given = (before : List SaslBody) × (given ≡ before ++ outcome_body code payload ∷ []) × (code ≢ sasl.Ok)

-- the last body given is out of order, where `is_next` says which bodies may follow those before
pub record IsOutOfOrder (is_next : List SaslBody → SaslBody → Bool) (given : List SaslBody) : Type 0 where
  pub before : List SaslBody
  pub body : SaslBody
  pub given_is : given ≡ before ++ body ∷ []
  pub not_next : is_next before body ≡ false
