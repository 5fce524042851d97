-- The SASL exchange of an end: a client's, or a listener's with one user.
use Rattle.std.specs.Prelude.{◌≡◌, ℕ, List, Option, Some, None, if◌then◌else◌, ⊤}
use Rattle.std.specs.Str.{bytes_eq}
use Rattle.sasl_gate.specs.amqp_sasl_bodies.declared.sasl_body.SaslBody.{SaslBody}
use Rattle.sasl_gate.specs.amqp_sasl_bodies.declared.sasl_code.SaslCode.{SaslCode}
use Rattle.base64.specs.GeneralPurpose.{IsBytes}
use Rattle.sasl_gate.specs.sasl_exchange.declared.client.ClientExchange.{ClientExchange}
use Rattle.sasl_gate.specs.sasl_exchange.declared.client.ClientExchange.TheVariants as client
use Rattle.sasl_gate.specs.sasl_exchange.declared.error.NegotiationError.{NegotiationError}
use Rattle.sasl_gate.specs.sasl_exchange.declared.error.NegotiationError.TheVariants.{Memory, ProtocolHeaderMismatch, NotImplemented, SaslError, ScramError, Io, DecodeError, IllegalState, FramingError}
use Rattle.sasl_gate.specs.sasl_exchange.declared.exchange.Exchange.{Ghosts as Mechanism}
use Rattle.sasl_gate.specs.sasl_exchange.declared.exchange.Turn.{Turn}
use Rattle.sasl_gate.specs.sasl_exchange.declared.exchange.Turn.TheVariants.{Receive, Refuse}
use Rattle.sasl_gate.specs.sasl_exchange.declared.init_server.InitCheck.{InitCheck}
use Rattle.sasl_gate.specs.sasl_exchange.declared.init_server.InitCheck.TheVariants as check
use Rattle.sasl_gate.specs.sasl_exchange.declared.server.ServerExchange.{ServerExchange}
use Rattle.sasl_gate.specs.sasl_exchange.declared.server.ServerExchange.TheVariants as server
use Rattle.sasl_scram.specs.declared.error.ScramErrorKind.{ScramErrorKind}
use Rattle.sasl_scram.specs.declared.error.ScramErrorKind.TheVariants as scram
use Rattle.sasl_scram.specs.declared.hash.ScramHash.{ScramHash}
use Rattle.sasl_scram.specs.declared.stored.StoredPassword.{StoredPassword}
use Rattle.sasl_gate.specs.sasl_exchange.AnyClient.{any_client_holds, any_client_causes, any_client_owes, any_client_turn, any_client_left, any_client_same, any_client_refusal, any_client_same_self, any_client_same_then}
use Rattle.sasl_gate.specs.sasl_exchange.AnyServer.{any_server_holds, any_server_causes, any_server_owes, any_server_turn, any_server_left, any_server_same, any_server_refusal, any_server_same_self, any_server_same_then}
use Rattle.sasl_scram.specs.Check.{stored_of}
use Rattle.sasl_gate.specs.sasl_exchange.ScramClient.{ClientEnd}
use Rattle.sasl_gate.specs.sasl_exchange.Credentials.{Credentials, credentials_of, mechanism_in}
use Rattle.sasl_gate.specs.sasl_exchange.Credentials as own
use Rattle.sasl_gate.specs.sasl_exchange.Exchange.{refused_with}
use Rattle.sasl_scram.specs.Hashes.{digest_of, block_of, output_of}
use Rattle.sasl_gate.specs.sasl_exchange.InitClient.{InitClientEnd}
use Rattle.sasl_gate.specs.sasl_exchange.InitServer.{InitServerEnd}
use Rattle.sasl_gate.specs.sasl_exchange.InitTexts.{anonymous_name, plain_name, plain_of}
use Rattle.sasl_scram.specs.Profile.{IsAllowedUser, IsAllowedPassword, IsAllowedCount, IsNonce}
use Rattle.sasl_gate.specs.sasl_exchange.ScramServer.{ServerEnd}
use Rattle.sasl_scram.specs.States.{Account}
use Rattle.amqp_opening.specs.declared.authentication.Authentication.{Authentication}
use Rattle.amqp_opening.specs.declared.authentication.Authentication.TheVariants.{Idle, Client, Listener}
use Rattle.amqp_opening.specs.declared.authentication.SaslCall.{SaslCall}
use Rattle.amqp_opening.specs.declared.authentication.SaslCall.TheVariants as call
use Rattle.amqp_opening.specs.Admission.{Admission, admission_of, mechanism_by, account_by}
use Rattle.amqp_opening.specs.Admission as admitted

-- ---- the one user of a listener

-- its password (RFC 4616, section 2)
abbrev pub passwords_for : Account → List ℕ → Option (List ℕ)
passwords_for a name = if bytes_eq a.user name then Some a.password else None

-- what is stored of it (RFC 5802, section 3)
abbrev pub stored_for : Account → List ℕ → Option StoredPassword
stored_for a name = if bytes_eq a.user name then a.stored else None

-- a user of whom the password alone is kept
abbrev pub plain_account : List ℕ → List ℕ → Account
plain_account user password = record { user = user; password = password; stored = None }

-- a user of whom is stored what SCRAM asks for (RFC 5802, section 3)
abbrev pub scram_account : ScramHash → List ℕ → List ℕ → List ℕ → ℕ → Account
scram_account hash user password salt iterations =
    record { user = user; password = password; stored = Some (stored_of (digest_of hash) (block_of hash) (output_of hash) password salt iterations) }

-- ---- the exchange as a mechanism: that of its end

abbrev pub holds_by : Authentication → List SaslBody → List SaslBody → Type 0
holds_by Idle given sent = ⊥
holds_by (Client x) given sent = any_client_holds x given sent
holds_by (Listener x) given sent = any_server_holds passwords_for stored_for x given sent

abbrev pub causes_by : Authentication → NegotiationError → List SaslBody → List SaslBody → Type 0
causes_by Idle e given sent = ⊥
causes_by (Client x) e given sent = any_client_causes x e given sent
causes_by (Listener x) e given sent = any_server_causes passwords_for stored_for x e given sent

abbrev pub owes_by : Authentication → SaslBody → Type 0
owes_by Idle body = ⊥
owes_by (Client x) body = any_client_owes x body
owes_by (Listener x) body = any_server_owes x body

abbrev pub turn_by : Authentication → Turn
turn_by Idle = Receive
turn_by (Client x) = any_client_turn x
turn_by (Listener x) = any_server_turn x

abbrev pub left_by : Authentication → ℕ
left_by Idle = 0
left_by (Client x) = any_client_left x
left_by (Listener x) = any_server_left x

abbrev pub same_by : Authentication → Authentication → Type 0
same_by Idle Idle = ⊤
same_by Idle (Client y) = ⊥
same_by Idle (Listener y) = ⊥
same_by (Client x) Idle = ⊥
same_by (Client x) (Client y) = any_client_same x y
same_by (Client x) (Listener y) = ⊥
same_by (Listener x) Idle = ⊥
same_by (Listener x) (Client y) = ⊥
same_by (Listener x) (Listener y) = any_server_same x y

abbrev pub peer_mechanism : Mechanism Authentication
peer_mechanism = record {
  holds = holds_by;
  causes = causes_by;
  owes = owes_by;
  turn_of = turn_by;
  left = left_by;
  same = same_by;
}

-- ---- the calls that begin it

-- the name of the mechanism that a layer is asked for (OASIS AMQP 1.0, part 5, section 5.3.3.1)
abbrev pub mechanism_of_call : SaslCall → List ℕ
mechanism_of_call (call.Client p hostname) = mechanism_in (credentials_of p)
mechanism_of_call (call.Listener a) = mechanism_by (admission_of a)

-- the user and the password of credentials, where there are any
abbrev pub account_in : Credentials → Option (List ℕ × List ℕ)
account_in own.anonymous = None
account_in (own.plain user password) = Some (user, password)
account_in (own.scram hash user password nonce) = Some (user, password)

-- the user and the password that a layer is asked for; ANONYMOUS has none (RFC 4505)
abbrev pub account_of_call : SaslCall → Option (List ℕ × List ℕ)
account_of_call (call.Client p hostname) = account_in (credentials_of p)
account_of_call (call.Listener a) = account_by (admission_of a)

-- user and password, where there are any, are in the profile
abbrev pub IsAllowedAccount : Option (List ℕ × List ℕ) → Type 0
IsAllowedAccount None = ⊤
IsAllowedAccount (Some account) = IsAllowedUser account.0 × IsAllowedPassword account.1

-- the user and the password that a layer is asked for are in the profile
abbrev pub HasAllowedTexts : SaslCall → Type 0
HasAllowedTexts asked = IsAllowedAccount (account_of_call asked)

-- user, password and nonce of a client are in the profile (RFC 5802, sections 5.1 and 7)
abbrev pub IsAskedClient : List ℕ → List ℕ → List ℕ → Type 0
IsAskedClient user password nonce = IsAllowedUser user × IsAllowedPassword password × IsNonce nonce

-- and so are those of a listener, with the salt and the count (RFC 5802, section 5.1)
abbrev pub IsAskedListener : List ℕ → List ℕ → List ℕ → ℕ → List ℕ → Type 0
IsAskedListener user password salt iterations nonce = IsAllowedUser user × IsAllowedPassword password × IsBytes salt × IsAllowedCount iterations × IsNonce nonce

-- what a client says with its credentials is allowed: nothing with ANONYMOUS, and with PLAIN user and password (RFC 4616, section 2)
abbrev pub IsAskedWith : Credentials → Type 0
IsAskedWith own.anonymous = ⊤
IsAskedWith (own.plain user password) = IsAllowedUser user × IsAllowedPassword password
IsAskedWith (own.scram hash user password nonce) = IsAskedClient user password nonce

-- and so is what a listener is told about its user
abbrev pub IsAskedFor : Admission → Type 0
IsAskedFor admitted.anonymous = ⊤
IsAskedFor (admitted.plain user password) = IsAllowedUser user × IsAllowedPassword password
IsAskedFor (admitted.scram hash user password salt iterations nonce) = IsAskedListener user password salt iterations nonce

-- all that a layer is asked for is allowed
abbrev pub IsAskedSo : SaslCall → Type 0
IsAskedSo (call.Client p hostname) = IsAskedWith (credentials_of p)
IsAskedSo (call.Listener a) = IsAskedFor (admission_of a)

-- a client's end with this hash function for this user, password, nonce and host, all of which are allowed
pub record IsClientFor (hash : ScramHash) (user password nonce : List ℕ) (hostname : Option (List ℕ)) (x : ClientEnd) : Type 0 where
  pub hash_is : x.hash ≡ hash
  pub user_is : x.client.user ≡ user
  pub password_is : x.client.password ≡ password
  pub nonce_is : x.client.nonce ≡ nonce
  pub hostname_is : x.hostname ≡ hostname
  pub asked : IsAskedClient user password nonce

-- a client's end that says all in its init: the name of its mechanism, this response of an account, which is allowed, and this host
pub record IsInitFor (mechanism : List ℕ) (response : Option (List ℕ)) (account : Option (List ℕ × List ℕ)) (hostname : Option (List ℕ)) (x : InitClientEnd) : Type 0 where
  pub mechanism_is : x.mechanism ≡ mechanism
  pub response_is : x.response ≡ response
  pub hostname_is : x.hostname ≡ hostname
  pub asked : IsAllowedAccount account

-- a listener's end with this hash function for this user, with what is kept of the password with a salt and a count (RFC 5802, section 3),
-- all of which are allowed
pub record IsListenerFor (hash : ScramHash) (user password salt : List ℕ) (iterations : ℕ) (nonce : List ℕ) (x : ServerEnd Account) : Type 0 where
  pub hash_is : x.hash ≡ hash
  pub account : x.server.provider ≡ scram_account hash user password salt iterations
  pub nonce_is : x.server.nonce ≡ nonce
  pub asked : IsAskedListener user password salt iterations nonce

-- a listener's end that asks this of an init, for an account which is allowed
pub record IsCheckFor (asks : InitCheck Account) (account : Option (List ℕ × List ℕ)) (x : InitServerEnd Account) : Type 0 where
  pub check_is : x.check ≡ asks
  pub asked : IsAllowedAccount account

-- the client's end of these credentials and this host
abbrev pub IsClientMade : Credentials → Option (List ℕ) → ClientExchange → Type 0
IsClientMade own.anonymous hostname (client.Scram x) = ⊥
IsClientMade own.anonymous hostname (client.Init x) = IsInitFor anonymous_name None None hostname x
IsClientMade (own.plain user password) hostname (client.Scram x) = ⊥
IsClientMade (own.plain user password) hostname (client.Init x) = IsInitFor plain_name (Some (plain_of user password)) (Some (user, password)) hostname x
IsClientMade (own.scram hash user password nonce) hostname (client.Scram x) = IsClientFor hash user password nonce hostname x
IsClientMade (own.scram hash user password nonce) hostname (client.Init x) = ⊥

-- the listener's end that lets these in
abbrev pub IsListenerMade : Admission → ServerExchange Account Account → Type 0
IsListenerMade admitted.anonymous (server.Scram x) = ⊥
IsListenerMade admitted.anonymous (server.Init x) = IsCheckFor check.Anonymous None x
IsListenerMade (admitted.plain user password) (server.Scram x) = ⊥
IsListenerMade (admitted.plain user password) (server.Init x) = IsCheckFor (check.Plain (plain_account user password)) (Some (user, password)) x
IsListenerMade (admitted.scram hash user password salt iterations nonce) (server.Scram x) = IsListenerFor hash user password salt iterations nonce x
IsListenerMade (admitted.scram hash user password salt iterations nonce) (server.Init x) = ⊥

-- the exchange is the one that a call begins
abbrev pub MadeFor : SaslCall → Authentication → Type 0
MadeFor (call.Client p hostname) Idle = ⊥
MadeFor (call.Client p hostname) (Client x) = IsClientMade (credentials_of p) hostname x
MadeFor (call.Client p hostname) (Listener x) = ⊥
MadeFor (call.Listener a) Idle = ⊥
MadeFor (call.Listener a) (Client x) = ⊥
MadeFor (call.Listener a) (Listener x) = IsListenerMade (admission_of a) x

asked_with : (c : Credentials) (hostname : Option (List ℕ)) (x : ClientExchange) → IsClientMade c hostname x → IsAskedWith c
asked_with own.anonymous hostname (client.Scram x) m = absurd m
asked_with own.anonymous hostname (client.Init x) m = tt
asked_with (own.plain user password) hostname (client.Scram x) m = absurd m
asked_with (own.plain user password) hostname (client.Init x) m = m.asked
asked_with (own.scram hash user password nonce) hostname (client.Scram x) m = m.asked
asked_with (own.scram hash user password nonce) hostname (client.Init x) m = absurd m

asked_for : (d : Admission) (x : ServerExchange Account Account) → IsListenerMade d x → IsAskedFor d
asked_for admitted.anonymous (server.Scram x) m = absurd m
asked_for admitted.anonymous (server.Init x) m = tt
asked_for (admitted.plain user password) (server.Scram x) m = absurd m
asked_for (admitted.plain user password) (server.Init x) m = m.asked
asked_for (admitted.scram hash user password salt iterations nonce) (server.Scram x) m = m.asked
asked_for (admitted.scram hash user password salt iterations nonce) (server.Init x) m = absurd m

-- what was asked for an exchange is allowed
pub asked_so : (asked : SaslCall) (x : Authentication) → MadeFor asked x → IsAskedSo asked
asked_so (call.Client p hostname) Idle m = absurd m
asked_so (call.Client p hostname) (Client x) m = asked_with (credentials_of p) hostname x m
asked_so (call.Client p hostname) (Listener x) m = absurd m
asked_so (call.Listener a) Idle m = absurd m
asked_so (call.Listener a) (Client x) m = absurd m
asked_so (call.Listener a) (Listener x) m = asked_for (admission_of a) x m

-- why an account begins no exchange
abbrev pub IsAccountRefusal : Option (List ℕ × List ℕ) → NegotiationError → Type 0
IsAccountRefusal account (Memory a) = ⊤
IsAccountRefusal account (ProtocolHeaderMismatch h) = ⊥
IsAccountRefusal account NotImplemented = ⊥
IsAccountRefusal account (SaslError code payload) = ⊥
IsAccountRefusal account (ScramError kind) = (kind ≡ scram.TextNotAllowed) × (¬ IsAllowedAccount account)
IsAccountRefusal account (Io kind) = ⊥
IsAccountRefusal account DecodeError = ⊥
IsAccountRefusal account IllegalState = ⊥
IsAccountRefusal account FramingError = ⊥

-- why a call begins no exchange
abbrev pub IsCallRefusal : SaslCall → NegotiationError → Type 0
IsCallRefusal asked e = IsAccountRefusal (account_of_call asked) e

-- the error of a negotiation that a kind of SCRAM comes to
abbrev pub IsErrorOf : ScramErrorKind → NegotiationError → Type 0
IsErrorOf (scram.Memory a) e = e ≡ Memory a
IsErrorOf scram.TextNotAllowed e = e ≡ ScramError scram.TextNotAllowed
IsErrorOf scram.Malformed e = e ≡ ScramError scram.Malformed
IsErrorOf scram.NonceMismatch e = e ≡ ScramError scram.NonceMismatch
IsErrorOf scram.Iterations e = e ≡ ScramError scram.Iterations
IsErrorOf scram.Base64 e = e ≡ ScramError scram.Base64
IsErrorOf scram.Signature e = e ≡ ScramError scram.Signature
IsErrorOf scram.UserUnknown e = e ≡ ScramError scram.UserUnknown
IsErrorOf scram.ProofMismatch e = e ≡ ScramError scram.ProofMismatch

-- ---- the laws of the mechanism

pub peer_refusal : (x : Authentication) (code : SaslCode) (given sent : List SaslBody) → turn_by x ≡ Refuse code → holds_by x given sent → causes_by x (refused_with code) given sent
peer_refusal Idle code given sent t h = absurd h
peer_refusal (Client x) code given sent t h = any_client_refusal x code given sent t h
peer_refusal (Listener x) code given sent t h = any_server_refusal passwords_for stored_for x code given sent t h

pub peer_same_self : (x : Authentication) → same_by x x
peer_same_self Idle = tt
peer_same_self (Client x) = any_client_same_self x
peer_same_self (Listener x) = any_server_same_self x

pub peer_same_then : (x y z : Authentication) → same_by x y → same_by y z → same_by x z
peer_same_then Idle Idle Idle p q = tt
peer_same_then Idle Idle (Client z) p q = absurd q
peer_same_then Idle Idle (Listener z) p q = absurd q
peer_same_then Idle (Client y) z p q = absurd p
peer_same_then Idle (Listener y) z p q = absurd p
peer_same_then (Client x) Idle z p q = absurd p
peer_same_then (Client x) (Client y) Idle p q = absurd q
peer_same_then (Client x) (Client y) (Client z) p q = any_client_same_then x y z p q
peer_same_then (Client x) (Client y) (Listener z) p q = absurd q
peer_same_then (Client x) (Listener y) z p q = absurd p
peer_same_then (Listener x) Idle z p q = absurd p
peer_same_then (Listener x) (Client y) z p q = absurd p
peer_same_then (Listener x) (Listener y) Idle p q = absurd q
peer_same_then (Listener x) (Listener y) (Client z) p q = absurd q
peer_same_then (Listener x) (Listener y) (Listener z) p q = any_server_same_then x y z p q
