-- The two ends of a SASL exchange with SCRAM, joined by a stream of bodies each way.
use Rattle.std.specs.Prelude.{◌≡◌, ◌≢◌, ◌⊎◌, ℕ, List, ◌++◌, Some, ⊤}
use Rattle.amqp_sasl_bodies.specs.declared.sasl_body.SaslBody.{SaslBody}
use Rattle.base64.specs.GeneralPurpose.{IsBytes}
use Rattle.amqp_opening.specs.Authentication.{stored_for}
use Rattle.sasl_exchange.specs.declared.scram_server.ServerStage.{ServerStage}
use Rattle.sasl_exchange.specs.declared.scram_server.ServerStage.TheVariants as server_stage
use Rattle.sasl_scram.specs.Check.{stored_of}
use Rattle.sasl_exchange.specs.ScramClient.{ClientEnd, client_holds}
use Rattle.sasl_scram.specs.Hashes.{digest_of, block_of, output_of}
use Rattle.sasl_scram.specs.Profile.{IsAllowedUser, IsAllowedCount, IsNonce}
use Rattle.sasl_exchange.specs.ScramServer.{ServerEnd, server_holds}
use Rattle.sasl_scram.specs.States.{Account}

-- a client in the profile and a listener of the same mechanism with one user, of whose password it keeps what RFC 5802, section 3 says,
-- with a salt and a count; and what each was given, and what it sent
pub record AreEnds (x : ClientEnd) (y : ServerEnd Account) (salt : List ℕ) (count : ℕ)
    (client_given client_sent listener_given listener_sent : List SaslBody) : Type 0 where
  pub same_hash : x.hash ≡ y.hash
  pub user_is : IsAllowedUser x.client.user
  pub nonce_is : IsNonce x.client.nonce
  pub own_is : IsNonce y.server.nonce
  pub stored_is : y.server.provider.stored ≡ Some (stored_of (digest_of y.hash) (block_of y.hash) (output_of y.hash) y.server.provider.password salt count)
  pub salt_is : IsBytes salt
  pub count_is : IsAllowedCount count
  pub client : client_holds x client_given client_sent
  pub listener : server_holds stored_for y listener_given listener_sent

-- two such ends, and the bodies in flight: those that the one sent and the other has not taken. A body that a client refuses is not
-- taken
pub record AreJoined (x : ClientEnd) (y : ServerEnd Account) (salt : List ℕ) (count : ℕ)
    (client_given client_sent listener_given listener_sent to_client to_listener : List SaslBody) : Type 0 where
  pub ends : AreEnds x y salt count client_given client_sent listener_given listener_sent
  pub reads_listener : client_given ++ to_client ≡ listener_sent
  pub reads_client : listener_given ++ to_listener ≡ client_sent

-- a law of all ends that are joined: of both ends, what the client was given and sent, what the listener was given and sent, and what is
-- in flight to the client and to the listener
abbrev pub ForJoined : (ClientEnd → ServerEnd Account → List SaslBody → List SaslBody → List SaslBody → List SaslBody
    → List SaslBody → List SaslBody → Type 0) → Type 0
ForJoined P = (x : ClientEnd) (y : ServerEnd Account) (salt : List ℕ) (count : ℕ) (gc sc gl sl fc fl : List SaslBody)
    → AreJoined x y salt count gc sc gl sl fc fl → P x y gc sc gl sl fc fl

-- the listener has told that it refuses, or owes that
abbrev pub IsRefusing : ServerStage → Type 0
IsRefusing server_stage.OwesMechanisms = ⊥
IsRefusing server_stage.AwaitsInit = ⊥
IsRefusing (server_stage.OwesChallenge text) = ⊥
IsRefusing server_stage.AwaitsResponse = ⊥
IsRefusing (server_stage.OwesOutcome text) = ⊥
IsRefusing server_stage.Passed = ⊥
IsRefusing (server_stage.OwesRefusal code) = ⊤
IsRefusing (server_stage.Refused code) = ⊤

-- user and password of the client are those of the listener
abbrev pub IsSameAccount : ClientEnd → Account → Type 0
IsSameAccount x account = (x.client.user ≡ account.user) × (x.client.password ≡ account.password)

-- one of them is not
abbrev pub IsOtherAccount : ClientEnd → Account → Type 0
IsOtherAccount x account = (x.client.user ≢ account.user) ⊎ (x.client.password ≢ account.password)
