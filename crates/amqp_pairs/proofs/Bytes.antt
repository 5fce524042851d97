-- Two ends that read one another's bytes.
use Rattle.std.proofs.Common.{◌≡◌, ◌≢◌, ℕ, List, [], ◌++◌, sym}
use Rattle.amqp_sasl_bodies.specs.declared.sasl_body.SaslBody.{SaslBody}
use Rattle.amqp_opening.specs.Authentication.{passwords_for, stored_for}
use Rattle.sasl_exchange.specs.declared.client.ClientExchange.{ClientExchange}
use Rattle.sasl_exchange.specs.declared.exchange.Turn.TheVariants.{Send, Pass}
use Rattle.sasl_exchange.specs.AnyClient.{any_client_holds, any_client_turn}
use Rattle.sasl_exchange.specs.AnyServer.{any_server_holds, any_server_turn}
use Rattle.sasl_exchange.specs.ScramClient.{ClientEnd}
use Rattle.sasl_exchange.specs.Credentials.{Credentials}
use Rattle.sasl_exchange.specs.InitClient.{InitClientEnd}
use Rattle.sasl_exchange.specs.InitServer.{InitServerEnd}
use Rattle.sasl_exchange.specs.ScramServer.{ServerEnd}
use Rattle.sasl_scram.specs.States.{Account}
use Rattle.amqp_pairs.specs.InitEnds.{AreInitEnds, AreInitJoined}
use Rattle.amqp_pairs.specs.Joined.{AreEnds, AreJoined}
use Rattle.amqp_pairs.specs.Mechanisms.{Listening}
use Rattle.amqp_pairs.specs.Streams.{IsPart, IsRead}
use Rattle.amqp_pairs.proofs.Still.{both_still}
use Rattle.amqp_pairs.proofs.Streams.{all_said, first_said}

-- the bodies in flight
in_flight : (gc sc gl sl : List SaslBody) (rc tc fc al rl tl fl ac : List ℕ) → IsRead rc tc fc al gc sl → IsRead rl tl fl ac gl sc
    → (to_client : List SaslBody) × (to_listener : List SaslBody) × (gc ++ to_client ≡ sl) × (gl ++ to_listener ≡ sc)
in_flight gc sc gl sl rc tc fc al rl tl fl ac c l =
    let p = first_said rc tc fc al gc sl c in
    let q = first_said rl tl fl ac gl sc l in
    (p.others, q.others, sym p.sent_is, sym q.sent_is)

pub joined : (x : ClientEnd) (y : ServerEnd Account) (salt : List ℕ) (count : ℕ) (gc sc gl sl : List SaslBody) (rc tc fc al rl tl fl ac : List ℕ)
    → AreEnds x y salt count gc sc gl sl → IsRead rc tc fc al gc sl → IsRead rl tl fl ac gl sc
    → (to_client : List SaslBody) × (to_listener : List SaslBody) × AreJoined x y salt count gc sc gl sl to_client to_listener
joined x y salt count gc sc gl sl rc tc fc al rl tl fl ac ends c l =
    let f = in_flight gc sc gl sl rc tc fc al rl tl fl ac c l in
    (f.0, f.1, record { ends = ends; reads_listener = f.2; reads_client = f.3 })

pub init_joined : (c : Credentials) (x : InitClientEnd) (y : InitServerEnd Account) (gc sc gl sl : List SaslBody) (rc tc fc al rl tl fl ac : List ℕ)
    → AreInitEnds c x y gc sc gl sl → IsRead rc tc fc al gc sl → IsRead rl tl fl ac gl sc
    → (to_client : List SaslBody) × (to_listener : List SaslBody) × AreInitJoined c x y gc sc gl sl to_client to_listener
init_joined c x y gc sc gl sl rc tc fc al rl tl fl ac ends r l =
    let f = in_flight gc sc gl sl rc tc fc al rl tl fl ac r l in
    (f.0, f.1, record { ends = ends; reads_listener = f.2; reads_client = f.3 })

pub rest : (x : ClientExchange) (y : Listening) (gc sc gl sl : List SaslBody) (rc tc al rl tl ac : List ℕ)
    → any_client_holds x gc sc → any_server_holds passwords_for stored_for y gl sl → IsRead rc tc [] al gc sl → IsRead rl tl [] ac gl sc → IsPart tc → IsPart tl
    → any_client_turn x ≢ Send → any_server_turn y ≢ Send → (any_client_turn x ≡ Pass) × (any_server_turn y ≡ Pass)
rest x y gc sc gl sl rc tc al rl tl ac held held' c l p q idle ready =
    both_still x y gc sc gl sl held held' (all_said rc tc al gc sl c p).0 (all_said rl tl ac gl sc l q).0 idle ready
