-- What the exchanges of an end say of the bytes.
use Rattle.std.proofs.Common.{◌≡◌, inl, inr, ℕ, true, List, [], ◌∷◌, ◌++◌, Option, Some, None, sym, ap, ◌∙◌, subst, append_assoc}
use Rattle.std.proofs.lemmas.List.{append-nil}
use Rattle.std.proofs.lemmas.List.Elements.{All-nil}
use Rattle.sasl_gate.specs.amqp_sasl_bodies.declared.sasl_body.SaslBody.{SaslBody}
use Rattle.sasl_gate.specs.amqp_sasl_bodies.declared.sasl_code.SaslCode.{SaslCode}
use Rattle.sasl_gate.specs.amqp_sasl_bodies.declared.sasl_code.SaslCode.TheVariants as sasl
use Rattle.amqp_wire.specs.Events.{LinkEvent, read_of, wrote_of}
use Rattle.sasl_gate.specs.sasl_exchange.declared.client.ClientExchange.{ClientExchange}
use Rattle.sasl_gate.specs.sasl_exchange.declared.client.ClientExchange.TheVariants as client_end
use Rattle.sasl_gate.specs.sasl_exchange.declared.exchange.Turn.TheVariants.{Pass}
use Rattle.sasl_gate.specs.sasl_exchange.declared.init_client.InitClientStage.{InitClientStage}
use Rattle.sasl_gate.specs.sasl_exchange.declared.init_client.InitClientStage.TheVariants as init_client
use Rattle.sasl_gate.specs.sasl_exchange.declared.init_server.InitCheck.{InitCheck}
use Rattle.sasl_gate.specs.sasl_exchange.declared.init_server.InitServerStage.{InitServerStage}
use Rattle.sasl_gate.specs.sasl_exchange.declared.init_server.InitServerStage.TheVariants as init_server
use Rattle.sasl_gate.specs.sasl_exchange.declared.scram_client.ClientStage.{ClientStage}
use Rattle.sasl_gate.specs.sasl_exchange.declared.scram_client.ClientStage.TheVariants as client
use Rattle.sasl_gate.specs.sasl_exchange.declared.scram_server.ServerStage.{ServerStage}
use Rattle.sasl_gate.specs.sasl_exchange.declared.scram_server.ServerStage.TheVariants as server
use Rattle.sasl_gate.specs.sasl_exchange.declared.server.ServerExchange.{ServerExchange}
use Rattle.sasl_gate.specs.sasl_exchange.declared.server.ServerExchange.TheVariants as server_end
use Rattle.sasl_scram.specs.declared.hash.ScramHash.{ScramHash}
use Rattle.sasl_gate.specs.sasl_exchange.ScramClient.{ClientEnd, turn_in as client_turn_in, holds_in as client_holds_in, HasPassed as ClientHasPassed}
use Rattle.sasl_gate.specs.ClientGate.{ClientPassed, InitClientPassed}
use Rattle.sasl_gate.specs.sasl_exchange.Credentials.{Credentials, credentials_of}
use Rattle.sasl_gate.specs.sasl_exchange.Credentials as own
use Rattle.sasl_gate.specs.Frames.{HasSaslFrame, Heard, said, IsOnlySasl}
use Rattle.sasl_gate.specs.sasl_exchange.InitClient.{InitClientEnd, turn_in as init_client_turn_in, holds_in as init_client_holds_in, HasPassed as InitClientHasPassed}
use Rattle.sasl_gate.specs.sasl_exchange.InitServer.{InitServerEnd, told_turn, turn_in as init_server_turn_in, holds_in as init_server_holds_in, check_mechanisms, HasJudged}
use Rattle.sasl_gate.specs.ServerGate.{InitServerPassed, ServerPassed}
use Rattle.sasl_gate.specs.sasl_exchange.ScramBodies.{outcome_body}
use Rattle.sasl_gate.specs.sasl_exchange.ScramServer.{ServerEnd, turn_in as server_turn_in, holds_in as server_holds_in, HasProof}
use Rattle.sasl_scram.specs.States.{Account, ServerState}
use Rattle.sasl_gate.proofs.Negotiations.{heard_more}
use Rattle.amqp_opening.specs.declared.authentication.Authentication.{Authentication}
use Rattle.amqp_opening.specs.declared.authentication.Authentication.TheVariants.{Idle, Client, Listener}
use Rattle.amqp_opening.specs.declared.authentication.SaslCall.{SaslCall}
use Rattle.amqp_opening.specs.declared.authentication.SaslCall.TheVariants as call
use Rattle.amqp_opening.specs.Admission.{Admission, admission_of}
use Rattle.amqp_opening.specs.Admission as admitted
use Rattle.amqp_opening.specs.Authentication.{passwords_for, stored_for, peer_mechanism, same_by, IsClientFor, IsInitFor, IsListenerFor, IsCheckFor, IsClientMade, IsListenerMade, MadeFor}
use Rattle.amqp_opening.specs.Gated.{BeginsHeader, IsClientGated, IsListenerGated, IsGatedBy, stored_alone}
use Rattle.amqp_opening.specs.Opening.{HasPassed, IsGuarded}
use Rattle.amqp_opening.proofs.Made.{same_client, same_listener}

-- ---- what an exchange that has passed says

-- an exchange that has passed, before bytes that were written and others that were read
record Whole (x : Authentication) (more rest wrote read : List ℕ) : Type 0 where
  given : List SaslBody
  sent : List SaslBody
  heard : Heard read given rest
  wrote_is : wrote ≡ said sent ++ more
  held : peer_mechanism.holds x given sent
  turn : peer_mechanism.turn_of x ≡ Pass

-- a client with SCRAM
client_passed_in : (s : ClientStage) (x : ClientEnd) (given sent : List SaslBody) → client_turn_in s ≡ Pass → client_holds_in s x given sent → ClientHasPassed x given sent
client_passed_in client.AwaitsMechanisms x given sent t h = cc
client_passed_in client.OwesInit x given sent t h = cc
client_passed_in client.AwaitsChallenge x given sent t h = cc
client_passed_in (client.OwesResponse text) x given sent t h = cc
client_passed_in client.AwaitsOutcome x given sent t h = cc
client_passed_in client.OwesEmptyResponse x given sent t h = cc
client_passed_in client.AwaitsEnd x given sent t h = cc
client_passed_in client.Passed x given sent t h = h

client_passed : (After : List ℕ → Type 0) (x : ClientEnd) (more rest wrote read : List ℕ) → Whole (Client (client_end.Scram x)) more rest wrote read → After more
    → (p : ClientPassed x.hash x.client.user x.client.password x.client.nonce x.hostname wrote read) × After p.more
client_passed After x more rest wrote read h after =
    let c : ClientHasPassed x h.given h.sent = client_passed_in x.stage x h.given h.sent h.turn h.held in (
      record {
        names = c.names;
        server_first = c.server_first;
        client_final = c.client_final;
        server_final = c.server_final;
        told = c.told;
        replied = c.replied;
        more = more;
        rest = rest;
        wrote_is = h.wrote_is ∙ ap (λ (u : List SaslBody). said u ++ more) c.sent_is;
        read_is = subst (λ (u : List SaslBody). Heard read u rest) c.given_is h.heard;
        final = c.final;
        listed = c.listed;
        check = c.check;
      },
      after,
    )

-- a client that says all in its init
init_client_passed_in : (s : InitClientStage) (x : InitClientEnd) (given sent : List SaslBody) → init_client_turn_in s ≡ Pass → init_client_holds_in s x given sent → InitClientHasPassed x given sent
init_client_passed_in init_client.AwaitsMechanisms x given sent t h = cc
init_client_passed_in init_client.OwesInit x given sent t h = cc
init_client_passed_in init_client.AwaitsOutcome x given sent t h = cc
init_client_passed_in init_client.Passed x given sent t h = h

init_client_passed : (After : List ℕ → Type 0) (x : InitClientEnd) (more rest wrote read : List ℕ) → Whole (Client (client_end.Init x)) more rest wrote read → After more
    → (p : InitClientPassed x.mechanism x.response x.hostname wrote read) × After p.more
init_client_passed After x more rest wrote read h after =
    let c : InitClientHasPassed x h.given h.sent = init_client_passed_in x.stage x h.given h.sent h.turn h.held in (
      record {
        names = c.names;
        payload = c.payload;
        more = more;
        rest = rest;
        wrote_is = h.wrote_is ∙ ap (λ (u : List SaslBody). said u ++ more) c.sent_is;
        read_is = subst (λ (u : List SaslBody). Heard read u rest) c.given_is h.heard;
        listed = c.listed;
      },
      after,
    )

-- a listener with SCRAM
server_passed_in : (hash : ScramHash) (s : ServerStage) (x : ServerState Account) (given sent : List SaslBody) → server_turn_in s ≡ Pass → server_holds_in hash stored_for s x given sent
    → (text : List ℕ) × HasProof hash (stored_for x.provider) x.nonce text given sent (outcome_body sasl.Ok (Some text) ∷ [])
server_passed_in hash server.OwesMechanisms x given sent t h = cc
server_passed_in hash server.AwaitsInit x given sent t h = cc
server_passed_in hash (server.OwesChallenge text) x given sent t h = cc
server_passed_in hash server.AwaitsResponse x given sent t h = cc
server_passed_in hash (server.OwesOutcome text) x given sent t h = cc
server_passed_in hash server.Passed x given sent t h = h
server_passed_in hash (server.OwesRefusal code) x given sent t h = cc
server_passed_in hash (server.Refused code) x given sent t h = cc

server_passed : (After : List ℕ → Type 0) (x : ServerEnd Account) (more rest wrote read : List ℕ) → Whole (Listener (server_end.Scram x)) more rest wrote read → After more
    → (p : ServerPassed x.hash (stored_for x.server.provider) x.server.nonce wrote read) × After p.more
server_passed After x more rest wrote read h after =
    let t = server_passed_in x.hash x.stage x.server h.given h.sent h.turn h.held in
    let c : HasProof x.hash (stored_for x.server.provider) x.server.nonce t.0 h.given h.sent (outcome_body sasl.Ok (Some t.0) ∷ []) = t.1 in (
      record {
        user = c.user;
        hostname = c.hostname;
        client_first = c.client_first;
        server_first = c.server_first;
        client_final = c.client_final;
        server_final = t.0;
        more = more;
        rest = rest;
        wrote_is = h.wrote_is ∙ ap (λ (u : List SaslBody). said u ++ more) c.sent_is;
        read_is = subst (λ (u : List SaslBody). Heard read u rest) c.given_is h.heard;
        check = c.check;
      },
      after,
    )

-- a listener that asks for all in the init
told_passed : (check : InitCheck Account) (code : SaslCode) (given sent : List SaslBody) → told_turn code ≡ Pass
    → HasJudged passwords_for check code given sent (check_mechanisms check ∷ outcome_body code None ∷ []) → HasJudged passwords_for check sasl.Ok given sent (check_mechanisms check ∷ outcome_body sasl.Ok None ∷ [])
told_passed check sasl.Ok given sent t h = h
told_passed check sasl.Auth given sent t h = cc
told_passed check sasl.Sys given sent t h = cc
told_passed check sasl.SysPerm given sent t h = cc
told_passed check sasl.SysTemp given sent t h = cc

init_server_passed_in : (check : InitCheck Account) (s : InitServerStage) (given sent : List SaslBody) → init_server_turn_in s ≡ Pass → init_server_holds_in passwords_for check s given sent
    → HasJudged passwords_for check sasl.Ok given sent (check_mechanisms check ∷ outcome_body sasl.Ok None ∷ [])
init_server_passed_in check init_server.OwesMechanisms given sent t h = cc
init_server_passed_in check init_server.AwaitsInit given sent t h = cc
init_server_passed_in check (init_server.OwesOutcome code) given sent t h = cc
init_server_passed_in check (init_server.Told code) given sent t h = told_passed check code given sent t h

init_server_passed : (After : List ℕ → Type 0) (x : InitServerEnd Account) (more rest wrote read : List ℕ) → Whole (Listener (server_end.Init x)) more rest wrote read → After more
    → (p : InitServerPassed passwords_for x.check wrote read) × After p.more
init_server_passed After x more rest wrote read h after =
    let c : HasJudged passwords_for x.check sasl.Ok h.given h.sent (check_mechanisms x.check ∷ outcome_body sasl.Ok None ∷ []) = init_server_passed_in x.check x.stage h.given h.sent h.turn h.held in (
      record {
        body = c.body;
        more = more;
        rest = rest;
        wrote_is = h.wrote_is ∙ ap (λ (u : List SaslBody). said u ++ more) c.sent_is;
        read_is = subst (λ (u : List SaslBody). Heard read u rest) c.given_is h.heard;
        passing = c.judged;
      },
      after,
    )

-- ---- the exchange that a call begins

-- with SCRAM
scram_client : (After : List ℕ → Type 0) (hash : ScramHash) (user password nonce : List ℕ) (hostname : Option (List ℕ)) (x : ClientEnd) (more rest wrote read : List ℕ)
    → IsClientFor hash user password nonce hostname x → Whole (Client (client_end.Scram x)) more rest wrote read → After more → (q : ClientPassed hash user password nonce hostname wrote read) × After q.more
scram_client After hash user password nonce hostname x more rest wrote read made h after =
    subst (λ (d : ScramHash). (q : ClientPassed d user password nonce hostname wrote read) × After q.more) made.hash_is
    (subst (λ (u : List ℕ). (q : ClientPassed x.hash u password nonce hostname wrote read) × After q.more) made.user_is
    (subst (λ (u : List ℕ). (q : ClientPassed x.hash x.client.user u nonce hostname wrote read) × After q.more) made.password_is
    (subst (λ (u : List ℕ). (q : ClientPassed x.hash x.client.user x.client.password u hostname wrote read) × After q.more) made.nonce_is
    (subst (λ (u : Option (List ℕ)). (q : ClientPassed x.hash x.client.user x.client.password x.client.nonce u wrote read) × After q.more) made.hostname_is
    (client_passed After x more rest wrote read h after)))))

scram_listener : (After : List ℕ → Type 0) (hash : ScramHash) (user password salt : List ℕ) (iterations : ℕ) (nonce : List ℕ) (x : ServerEnd Account) (more rest wrote read : List ℕ)
    → IsListenerFor hash user password salt iterations nonce x → Whole (Listener (server_end.Scram x)) more rest wrote read → After more
    → (q : ServerPassed hash (stored_alone hash user password salt iterations) nonce wrote read) × After q.more
scram_listener After hash user password salt iterations nonce x more rest wrote read made h after =
    subst (λ (d : ScramHash). (q : ServerPassed d (stored_alone hash user password salt iterations) nonce wrote read) × After q.more) made.hash_is
    (subst (λ (c : Account). (q : ServerPassed x.hash (stored_for c) nonce wrote read) × After q.more) made.account
    (subst (λ (u : List ℕ). (q : ServerPassed x.hash (stored_for x.server.provider) u wrote read) × After q.more) made.nonce_is
    (server_passed After x more rest wrote read h after)))

-- with a mechanism whose client says all in its init
init_client_for : (After : List ℕ → Type 0) (mechanism : List ℕ) (response : Option (List ℕ)) (account : Option (List ℕ × List ℕ)) (hostname : Option (List ℕ)) (x : InitClientEnd) (more rest wrote read : List ℕ)
    → IsInitFor mechanism response account hostname x → Whole (Client (client_end.Init x)) more rest wrote read → After more → (q : InitClientPassed mechanism response hostname wrote read) × After q.more
init_client_for After mechanism response account hostname x more rest wrote read made h after =
    subst (λ (u : List ℕ). (q : InitClientPassed u response hostname wrote read) × After q.more) made.mechanism_is
    (subst (λ (u : Option (List ℕ)). (q : InitClientPassed x.mechanism u hostname wrote read) × After q.more) made.response_is
    (subst (λ (u : Option (List ℕ)). (q : InitClientPassed x.mechanism x.response u wrote read) × After q.more) made.hostname_is
    (init_client_passed After x more rest wrote read h after)))

init_listener_for : (After : List ℕ → Type 0) (check : InitCheck Account) (account : Option (List ℕ × List ℕ)) (x : InitServerEnd Account) (more rest wrote read : List ℕ)
    → IsCheckFor check account x → Whole (Listener (server_end.Init x)) more rest wrote read → After more → (q : InitServerPassed passwords_for check wrote read) × After q.more
init_listener_for After check account x more rest wrote read made h after =
    subst (λ (k : InitCheck Account). (q : InitServerPassed passwords_for k wrote read) × After q.more) made.check_is (init_server_passed After x more rest wrote read h after)

client_gated : (After : List ℕ → Type 0) (c : Credentials) (hostname : Option (List ℕ)) (x : ClientExchange) (more rest wrote read : List ℕ) → IsClientMade c hostname x → Whole (Client x) more rest wrote read → After more
    → IsClientGated After c hostname wrote read
client_gated After own.anonymous hostname (client_end.Scram x) more rest wrote read made h after = absurd made
client_gated After own.anonymous hostname (client_end.Init x) more rest wrote read made h after = init_client_for After _ _ _ hostname x more rest wrote read made h after
client_gated After (own.plain user password) hostname (client_end.Scram x) more rest wrote read made h after = absurd made
client_gated After (own.plain user password) hostname (client_end.Init x) more rest wrote read made h after = init_client_for After _ _ _ hostname x more rest wrote read made h after
client_gated After (own.scram hash user password nonce) hostname (client_end.Scram x) more rest wrote read made h after = scram_client After hash user password nonce hostname x more rest wrote read made h after
client_gated After (own.scram hash user password nonce) hostname (client_end.Init x) more rest wrote read made h after = absurd made

listener_gated : (After : List ℕ → Type 0) (d : Admission) (x : ServerExchange Account Account) (more rest wrote read : List ℕ) → IsListenerMade d x → Whole (Listener x) more rest wrote read → After more
    → IsListenerGated After d wrote read
listener_gated After admitted.anonymous (server_end.Scram x) more rest wrote read made h after = absurd made
listener_gated After admitted.anonymous (server_end.Init x) more rest wrote read made h after = init_listener_for After _ _ x more rest wrote read made h after
listener_gated After (admitted.plain user password) (server_end.Scram x) more rest wrote read made h after = absurd made
listener_gated After (admitted.plain user password) (server_end.Init x) more rest wrote read made h after = init_listener_for After _ _ x more rest wrote read made h after
listener_gated After (admitted.scram hash user password salt iterations nonce) (server_end.Scram x) more rest wrote read made h after =
    scram_listener After hash user password salt iterations nonce x more rest wrote read made h after
listener_gated After (admitted.scram hash user password salt iterations nonce) (server_end.Init x) more rest wrote read made h after = absurd made

gated_whole : (After : List ℕ → Type 0) (asked : SaslCall) (x : Authentication) (more rest wrote read : List ℕ) → MadeFor asked x → Whole x more rest wrote read → After more → IsGatedBy After asked wrote read
gated_whole After (call.Client p hostname) Idle more rest wrote read made h after = absurd made
gated_whole After (call.Client p hostname) (Client x) more rest wrote read made h after = inr (client_gated After (credentials_of p) hostname x more rest wrote read made h after)
gated_whole After (call.Client p hostname) (Listener x) more rest wrote read made h after = absurd made
gated_whole After (call.Listener a) Idle more rest wrote read made h after = absurd made
gated_whole After (call.Listener a) (Client x) more rest wrote read made h after = absurd made
gated_whole After (call.Listener a) (Listener x) more rest wrote read made h after = inr (listener_gated After (admission_of a) x more rest wrote read made h after)

-- an exchange that has passed, where `bytes` were written and `later` was read behind it
pub gated_passed : (After : List ℕ → Type 0) (asked : SaslCall) (x : Authentication) (rest unwritten bytes later wrote read : List ℕ) (events : List LinkEvent) → MadeFor asked x
    → (h : HasPassed peer_mechanism x rest unwritten events) → After (h.part ++ bytes) → wrote ≡ wrote_of events ++ bytes → read ≡ read_of events ++ later → IsGatedBy After asked wrote read
gated_passed After asked x rest unwritten bytes later wrote read events made h after w r =
    let whole : Whole x (h.part ++ bytes) (rest ++ later) wrote read = record {
      given = h.given;
      sent = h.sent;
      heard = subst (λ (u : List ℕ). Heard u h.given (rest ++ later)) (sym r) (heard_more (read_of events) later rest h.given h.heard);
      wrote_is = w ∙ ap (λ (u : List ℕ). u ++ bytes) h.wrote ∙ append_assoc (said h.sent) h.part bytes;
      held = h.held;
      turn = h.turn;
    } in
    gated_whole After asked x (h.part ++ bytes) (rest ++ later) wrote read made whole after

-- only the SASL layer was written
pub gated_only : (After : List ℕ → Type 0) (asked : SaslCall) (wrote read : List ℕ) → IsOnlySasl wrote → IsGatedBy After asked wrote read
gated_only After (call.Client p hostname) wrote read only = inl only
gated_only After (call.Listener a) wrote read only = inl only

-- nothing was written
pub gated_nothing : (After : List ℕ → Type 0) (asked : SaslCall) (wrote read : List ℕ) → wrote ≡ [] → IsGatedBy After asked wrote read
gated_nothing After asked wrote read e = gated_only After asked wrote read (record { bodies = []; rest = said []; frames = ap (λ (u : List ℕ). u ++ said []) e; framed = All-nil HasSaslFrame })

gated_guarded : (After : List ℕ → Type 0) (asked : SaslCall) (x : Authentication) (rest unwritten : List ℕ) (events : List LinkEvent) → MadeFor asked x
    → (h : HasPassed peer_mechanism x rest unwritten events) → ((part : List ℕ) → BeginsHeader part → After part) → IsGatedBy After asked (wrote_of events) (read_of events)
gated_guarded After asked x rest unwritten events made h after =
    gated_passed After asked x rest unwritten [] [] (wrote_of events) (read_of events) events made h
    (subst After (sym (append-nil h.part)) (after h.part (unwritten, h.header))) (sym (append-nil (wrote_of events))) (sym (append-nil (read_of events)))

-- an opening writes nothing but SASL before its exchange has passed, and then the AMQP header
pub gated_from : (After : List ℕ → Type 0) (asked : SaslCall) (x : Authentication) (events : List LinkEvent) → MadeFor asked x → IsGuarded peer_mechanism true x events
    → ((part : List ℕ) → BeginsHeader part → After part) → IsGatedBy After asked (wrote_of events) (read_of events)
gated_from After asked x events made (inl only) after = gated_only After asked (wrote_of events) (read_of events) only
gated_from After asked x events made (inr h) after = gated_guarded After asked x h.0 h.1 events made h.2 after

-- ---- what is read later changes nothing of that

init_client_later : (After : List ℕ → Type 0) (mechanism : List ℕ) (response hostname : Option (List ℕ)) (wrote read later : List ℕ) → (q : InitClientPassed mechanism response hostname wrote read) × After q.more
    → (q : InitClientPassed mechanism response hostname wrote (read ++ later)) × After q.more
init_client_later After mechanism response hostname wrote read later h =
    let q : InitClientPassed mechanism response hostname wrote read = h.0 in (
      record {
        names = q.names;
        payload = q.payload;
        more = q.more;
        rest = q.rest ++ later;
        wrote_is = q.wrote_is;
        read_is = heard_more read later q.rest _ q.read_is;
        listed = q.listed;
      },
      h.1,
    )

init_listener_later : (After : List ℕ → Type 0) (check : InitCheck Account) (wrote read later : List ℕ) → (q : InitServerPassed passwords_for check wrote read) × After q.more
    → (q : InitServerPassed passwords_for check wrote (read ++ later)) × After q.more
init_listener_later After check wrote read later h =
    let q : InitServerPassed passwords_for check wrote read = h.0 in (
      record {
        body = q.body;
        more = q.more;
        rest = q.rest ++ later;
        wrote_is = q.wrote_is;
        read_is = heard_more read later q.rest _ q.read_is;
        passing = q.passing;
      },
      h.1,
    )

client_later : (After : List ℕ → Type 0) (c : Credentials) (hostname : Option (List ℕ)) (wrote read later : List ℕ) → IsClientGated After c hostname wrote read → IsClientGated After c hostname wrote (read ++ later)
client_later After own.anonymous hostname wrote read later h = init_client_later After _ _ hostname wrote read later h
client_later After (own.plain user password) hostname wrote read later h = init_client_later After _ _ hostname wrote read later h
client_later After (own.scram hash user password nonce) hostname wrote read later h =
    let q : ClientPassed hash user password nonce hostname wrote read = h.0 in (
      record {
        names = q.names;
        server_first = q.server_first;
        client_final = q.client_final;
        server_final = q.server_final;
        told = q.told;
        replied = q.replied;
        more = q.more;
        rest = q.rest ++ later;
        wrote_is = q.wrote_is;
        read_is = heard_more read later q.rest _ q.read_is;
        final = q.final;
        listed = q.listed;
        check = q.check;
      },
      h.1,
    )

listener_later : (After : List ℕ → Type 0) (d : Admission) (wrote read later : List ℕ) → IsListenerGated After d wrote read → IsListenerGated After d wrote (read ++ later)
listener_later After admitted.anonymous wrote read later h = init_listener_later After _ wrote read later h
listener_later After (admitted.plain user password) wrote read later h = init_listener_later After _ wrote read later h
listener_later After (admitted.scram hash user password salt iterations nonce) wrote read later h =
    let q : ServerPassed hash (stored_alone hash user password salt iterations) nonce wrote read = h.0 in (
      record {
        user = q.user;
        hostname = q.hostname;
        client_first = q.client_first;
        server_first = q.server_first;
        client_final = q.client_final;
        server_final = q.server_final;
        more = q.more;
        rest = q.rest ++ later;
        wrote_is = q.wrote_is;
        read_is = heard_more read later q.rest _ q.read_is;
        check = q.check;
      },
      h.1,
    )

pub gated_later : (After : List ℕ → Type 0) (asked : SaslCall) (wrote read later : List ℕ) → IsGatedBy After asked wrote read → IsGatedBy After asked wrote (read ++ later)
gated_later After (call.Client p hostname) wrote read later (inl only) = inl only
gated_later After (call.Client p hostname) wrote read later (inr h) = inr (client_later After (credentials_of p) hostname wrote read later h)
gated_later After (call.Listener a) wrote read later (inl only) = inl only
gated_later After (call.Listener a) wrote read later (inr h) = inr (listener_later After (admission_of a) wrote read later h)

-- ---- the exchange stays that of the call

pub same_made : (asked : SaslCall) (x y : Authentication) → same_by x y → MadeFor asked x → MadeFor asked y
same_made (call.Client p hostname) Idle y s m = absurd m
same_made (call.Client p hostname) (Client x) Idle s m = absurd s
same_made (call.Client p hostname) (Client x) (Client y) s m = same_client (credentials_of p) hostname x y s m
same_made (call.Client p hostname) (Client x) (Listener y) s m = absurd s
same_made (call.Client p hostname) (Listener x) y s m = absurd m
same_made (call.Listener a) Idle y s m = absurd m
same_made (call.Listener a) (Client x) y s m = absurd m
same_made (call.Listener a) (Listener x) Idle s m = absurd s
same_made (call.Listener a) (Listener x) (Client y) s m = absurd s
same_made (call.Listener a) (Listener x) (Listener y) s m = same_listener (admission_of a) x y s m
