-- What the two machines hold, and which calls they take.
use Rattle.std.specs.Prelude.{ℕ, List, Option}
use Rattle.sasl_scram.specs.declared.client.ClientAnswer.{ClientAnswer}
use Rattle.sasl_scram.specs.declared.client.ClientPhase.{ClientPhase}
use Rattle.sasl_scram.specs.declared.client.ClientPhase.TheVariants.{Unanswered, Answered, Verified}
use Rattle.sasl_scram.specs.declared.hash.ScramHash.{ScramHash}
use Rattle.sasl_scram.specs.declared.server.Challenge.{Challenge}
use Rattle.sasl_scram.specs.declared.server.ServerPhase.{ServerPhase}
use Rattle.sasl_scram.specs.declared.server.ServerPhase.TheVariants.{Unasked, Challenged, Proved}
use Rattle.sasl_scram.specs.declared.stored.StoredPassword.{StoredPassword}
use Rattle.sasl_scram.specs.Check.{ClientAnswers, ServerAnswers}
use Rattle.sasl_scram.specs.Profile.{IsAllowedUser, IsAllowedPassword, IsNonce}

-- a client: its user, password and nonce, and how far the exchange is
pub record ClientState : Type 0 where
  pub user : List ℕ
  pub password : List ℕ
  pub nonce : List ℕ
  pub phase : ClientPhase

-- a client with a hash function
pub record HashedClient : Type 0 where
  pub hash : ScramHash
  pub client : ClientState

-- a client that waits for the server final, and a fact on what it answered
abbrev pub ForAnswered : ClientPhase → (ClientAnswer → Type 0) → Type 0
ForAnswered Unanswered P = ⊥
ForAnswered (Answered a) P = P a
ForAnswered Verified P = ⊥

-- the client after its answer to a server first
abbrev pub client_answered : ClientState → List ℕ → List ℕ → List ℕ → ClientState
client_answered s server_first client_final signature = record s {
  phase = Answered (record { server_first = server_first; client_final = client_final; signature = signature });
}

-- the client after the server final that it took
abbrev pub client_verified : ClientState → ClientState
client_verified s = record s { phase = Verified }

-- what is true of each client's phase
abbrev pub IsClientPhase : (List ℕ → List ℕ) → ℕ → ℕ → List ℕ → List ℕ → List ℕ → ClientPhase → Type 0
IsClientPhase hash block output user password nonce Unanswered = Unit {0}
IsClientPhase hash block output user password nonce (Answered a) =
    ClientAnswers hash block output user password nonce a.server_first a.client_final a.signature
IsClientPhase hash block output user password nonce Verified = Unit {0}

-- what is true of each client
pub record ClientHolds (hash : List ℕ → List ℕ) (block output : ℕ) (user password nonce : List ℕ) (phase : ClientPhase) : Type 0 where
  pub user_is : IsAllowedUser user
  pub password_is : IsAllowedPassword password
  pub nonce_is : IsNonce nonce
  pub phase_is : IsClientPhase hash block output user password nonce phase

-- a listener: its provider of stored passwords and its nonce, and how far the exchange is
pub record ServerState (P : Type 0) : Type 0 where
  pub provider : P
  pub nonce : List ℕ
  pub phase : ServerPhase

-- a listener with a hash function
pub record HashedServer (P : Type 0) : Type 0 where
  pub hash : ScramHash
  pub server : ServerState P

-- a listener that waits for the client final, and a fact on its challenge
abbrev pub ForChallenged : ServerPhase → (Challenge → Type 0) → Type 0
ForChallenged Unasked P = ⊥
ForChallenged (Challenged c) P = P c
ForChallenged Proved P = ⊥

-- the listener after its answer to a client first
abbrev pub server_challenged : {P : Type 0} → ServerState P → List ℕ → List ℕ → List ℕ → List ℕ → ServerState P
server_challenged s client_first user nonce server_first = record s {
  phase = Challenged (record { client_first = client_first; user = user; nonce = nonce; server_first = server_first });
}

-- the listener after the client final that it took
abbrev pub server_proved : {P : Type 0} → ServerState P → ServerState P
server_proved s = record s { phase = Proved }

-- what is true of each listener's phase, where `stored` is what its provider has
abbrev pub IsServerPhase : (List ℕ → Option StoredPassword) → List ℕ → ServerPhase → Type 0
IsServerPhase stored nonce Unasked = Unit {0}
IsServerPhase stored nonce (Challenged c) =
    (keys : StoredPassword) × ServerAnswers stored nonce c.client_first c.user c.nonce c.server_first keys
IsServerPhase stored nonce Proved = Unit {0}

-- what is true of each listener
pub record ServerHolds (stored : List ℕ → Option StoredPassword) (nonce : List ℕ) (phase : ServerPhase) : Type 0 where
  pub nonce_is : IsNonce nonce
  pub phase_is : IsServerPhase stored nonce phase

-- one user of a listener
pub record Account : Type 0 where
  pub user : List ℕ
  pub password : List ℕ
  pub stored : Option StoredPassword
