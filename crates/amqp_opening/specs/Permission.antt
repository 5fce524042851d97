-- Which exchanges of the SASL layer may be asked for.
use Rattle.std.specs.Prelude.{◌≤◌, ℕ, List, length, ⊤}
use Rattle.sasl_gate.specs.sasl_exchange.declared.profile.SaslProfile.{SaslProfile}
use Rattle.sasl_gate.specs.sasl_exchange.Credentials.{credentials_of, HasNonce}
use Rattle.sasl_scram.specs.Profile.{IsNonce, IsAllowedCount}
use Rattle.amqp_opening.specs.declared.acceptor.AcceptSasl.{AcceptSasl}
use Rattle.amqp_opening.specs.declared.authentication.SaslCall.{SaslCall}
use Rattle.amqp_opening.specs.declared.authentication.SaslCall.TheVariants as call
use Rattle.amqp_opening.specs.Admission.{Admission, anonymous, plain, scram, admission_of}

-- what a listener with SCRAM is told about its user (RFC 5802, sections 5.1 and 7)
pub record IsAllowedAccept (salt : List ℕ) (iterations : ℕ) (nonce : List ℕ) : Type 0 where
  pub nonce_is : IsNonce nonce
  pub salt_least : 1 ≤ length salt
  pub salt_most : length salt ≤ 64
  pub iterations_are : IsAllowedCount iterations

-- what a client may authenticate with
abbrev pub IsAllowedProfile : SaslProfile → Type 0
IsAllowedProfile p = HasNonce (credentials_of p)

-- what a listener may be told
abbrev pub IsAllowedAdmission : Admission → Type 0
IsAllowedAdmission anonymous = ⊤
IsAllowedAdmission (plain user password) = ⊤
IsAllowedAdmission (scram hash user password salt iterations nonce) = IsAllowedAccept salt iterations nonce

-- whom a listener may let in
abbrev pub IsAllowedSasl : AcceptSasl → Type 0
IsAllowedSasl a = IsAllowedAdmission (admission_of a)

-- an exchange that may be asked for
abbrev pub IsAllowedSaslCall : SaslCall → Type 0
IsAllowedSaslCall (call.Client sasl hostname) = IsAllowedProfile sasl
IsAllowedSaslCall (call.Listener sasl) = IsAllowedSasl sasl
