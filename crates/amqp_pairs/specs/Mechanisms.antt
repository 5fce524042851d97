-- Two ends of a SASL exchange, whatever their mechanisms are (OASIS AMQP 1.0, part 5, section 5.3.3.1).
use Rattle.std.specs.Prelude.{◌≡◌, ◌≢◌, ℕ, List, [], ◌∷◌, ◌++◌}
use Rattle.amqp_sasl_bodies.specs.declared.sasl_body.SaslBody.{SaslBody}
use Rattle.amqp_sasl_bodies.specs.declared.sasl_code.SaslCode.{SaslCode}
use Rattle.amqp_sasl_bodies.specs.declared.sasl_code.SaslCode.TheVariants as sasl
use Rattle.amqp_opening.specs.Authentication.{passwords_for, stored_for}
use Rattle.sasl_exchange.specs.declared.client.ClientExchange.{ClientExchange}
use Rattle.sasl_exchange.specs.declared.client.ClientExchange.TheVariants as client
use Rattle.sasl_exchange.specs.declared.server.ServerExchange.{ServerExchange}
use Rattle.sasl_exchange.specs.declared.server.ServerExchange.TheVariants as server
use Rattle.sasl_exchange.specs.AnyClient.{any_client_holds}
use Rattle.sasl_exchange.specs.AnyServer.{any_server_holds}
use Rattle.sasl_scram.specs.Hashes.{mechanism_of}
use Rattle.sasl_exchange.specs.InitServer.{IsJudged, check_name}
use Rattle.sasl_exchange.specs.ScramServer.{IsRefusalCause}
use Rattle.sasl_scram.specs.States.{Account}

-- a listener's end of any mechanism, with one user
abbrev pub Listening : Type 0
Listening = ServerExchange Account Account

-- the name of the mechanism of a client's end, which its init has (part 5, section 5.3.3.2)
abbrev pub client_name : ClientExchange → List ℕ
client_name (client.Scram x) = mechanism_of x.hash
client_name (client.Init x) = x.mechanism

-- the name of the mechanism of a listener's end, the only one in its list (part 5, section 5.3.3.1)
abbrev pub listener_name : Listening → List ℕ
listener_name (server.Scram y) = mechanism_of y.hash
listener_name (server.Init y) = check_name y.check

-- a listener has a cause to refuse with a code, by what it was given
abbrev pub HasRefusalCause : Listening → SaslCode → List SaslBody → Type 0
HasRefusalCause (server.Scram y) code given = IsRefusalCause y.hash (stored_for y.server.provider) y.server.nonce code given
HasRefusalCause (server.Init y) code given = (code ≢ sasl.Ok) × (body : SaslBody) × (given ≡ body ∷ []) × IsJudged passwords_for y.check body code

-- two ends, what each was given and what it sent, and the bodies in flight: those that the one sent and the other has not taken. A body that
-- a client refuses is not taken
pub record AreFacing (x : ClientExchange) (y : Listening)
    (client_given client_sent listener_given listener_sent to_client to_listener : List SaslBody) : Type 0 where
  pub client : any_client_holds x client_given client_sent
  pub listener : any_server_holds passwords_for stored_for y listener_given listener_sent
  pub reads_listener : client_given ++ to_client ≡ listener_sent
  pub reads_client : listener_given ++ to_listener ≡ client_sent

-- two such ends of mechanisms with other names
pub record AreUnlike (x : ClientExchange) (y : Listening)
    (client_given client_sent listener_given listener_sent to_client to_listener : List SaslBody) : Type 0 where
  pub other_name : client_name x ≢ listener_name y
  pub facing : AreFacing x y client_given client_sent listener_given listener_sent to_client to_listener

-- a law of all ends: of both ends, what the client was given and sent, what the listener was given and sent, and what is in flight to the
-- client and to the listener
abbrev pub ForFacing : (ClientExchange → Listening → List SaslBody → List SaslBody → List SaslBody → List SaslBody
    → List SaslBody → List SaslBody → Type 0) → Type 0
ForFacing P = (x : ClientExchange) (y : Listening) (gc sc gl sl fc fl : List SaslBody) → AreFacing x y gc sc gl sl fc fl → P x y gc sc gl sl fc fl

-- the same of all ends of mechanisms with other names
abbrev pub ForUnlike : (ClientExchange → Listening → List SaslBody → List SaslBody → List SaslBody → List SaslBody
    → List SaslBody → List SaslBody → Type 0) → Type 0
ForUnlike P = (x : ClientExchange) (y : Listening) (gc sc gl sl fc fl : List SaslBody) → AreUnlike x y gc sc gl sl fc fl → P x y gc sc gl sl fc fl
