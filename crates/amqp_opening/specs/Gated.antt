-- What an end with a SASL layer may have written, by what it wrote and what it read: nothing but the SASL header and SASL
-- frames before its check holds (OASIS AMQP 1.0, part 5, section 5.3.2).
use Rattle.std.specs.Prelude.{◌≡◌, ◌⊎◌, ℕ, List, ◌++◌, Option, Some, None}
use Rattle.sasl_gate.specs.sasl_exchange.declared.init_server.InitCheck.TheVariants as check
use Rattle.sasl_scram.specs.declared.hash.ScramHash.{ScramHash}
use Rattle.sasl_scram.specs.declared.stored.StoredPassword.{StoredPassword}
use Rattle.sasl_gate.specs.ClientGate.{ClientPassed, InitClientPassed}
use Rattle.sasl_gate.specs.sasl_exchange.Credentials.{Credentials, credentials_of}
use Rattle.sasl_gate.specs.sasl_exchange.Credentials as own
use Rattle.sasl_gate.specs.ServerGate.{InitServerPassed, ServerPassed}
use Rattle.sasl_gate.specs.sasl_exchange.InitTexts.{anonymous_name, plain_name, plain_of}
use Rattle.sasl_gate.specs.Frames.{IsOnlySasl}
use Rattle.amqp_opening.specs.declared.authentication.SaslCall.{SaslCall}
use Rattle.amqp_opening.specs.declared.authentication.SaslCall.TheVariants as call
use Rattle.amqp_opening.specs.Admission.{Admission, admission_of}
use Rattle.amqp_opening.specs.Admission as admitted
use Rattle.amqp_opening.specs.Authentication.{passwords_for, stored_for, plain_account, scram_account}
use Rattle.amqp_opening.specs.Opening.{amqp_header}

-- the AMQP header begins so (part 2, section 2.2)
abbrev pub BeginsHeader : List ℕ → Type 0
BeginsHeader part = (rest : List ℕ) × (part ++ rest ≡ amqp_header)

-- what a listener has stored that lets one user in (RFC 5802, section 3)
abbrev pub stored_alone : ScramHash → List ℕ → List ℕ → List ℕ → ℕ → List ℕ → Option StoredPassword
stored_alone hash user password salt iterations name = stored_for (scram_account hash user password salt iterations) name

-- what the mechanism of a client promises holds of what was written and read, and `After` holds of the bytes behind it: with SCRAM that
-- the listener knows the password (RFC 5802, section 3), and else that it told outcome `Ok`
abbrev pub IsClientGated : (List ℕ → Type 0) → Credentials → Option (List ℕ) → List ℕ → List ℕ → Type 0
IsClientGated After own.anonymous hostname wrote read = (q : InitClientPassed anonymous_name None hostname wrote read) × After q.more
IsClientGated After (own.plain user password) hostname wrote read = (q : InitClientPassed plain_name (Some (plain_of user password)) hostname wrote read) × After q.more
IsClientGated After (own.scram hash user password nonce) hostname wrote read = (q : ClientPassed hash user password nonce hostname wrote read) × After q.more

-- the same of a listener: with SCRAM that the client knows the password (RFC 5802, section 3), with PLAIN that it told it (RFC 4616,
-- section 2), and else that it asked for ANONYMOUS
abbrev pub IsListenerGated : (List ℕ → Type 0) → Admission → List ℕ → List ℕ → Type 0
IsListenerGated After admitted.anonymous wrote read = (q : InitServerPassed passwords_for check.Anonymous wrote read) × After q.more
IsListenerGated After (admitted.plain user password) wrote read = (q : InitServerPassed passwords_for (check.Plain (plain_account user password)) wrote read) × After q.more
IsListenerGated After (admitted.scram hash user password salt iterations nonce) wrote read =
    (q : ServerPassed hash (stored_alone hash user password salt iterations) nonce wrote read) × After q.more

-- only the SASL layer was written, or what the mechanism that was asked for promises holds, and then bytes follow of which `After` holds
abbrev pub IsGatedBy : (List ℕ → Type 0) → SaslCall → List ℕ → List ℕ → Type 0
IsGatedBy After (call.Client p hostname) wrote read = IsOnlySasl wrote ⊎ IsClientGated After (credentials_of p) hostname wrote read
IsGatedBy After (call.Listener a) wrote read = IsOnlySasl wrote ⊎ IsListenerGated After (admission_of a) wrote read
