-- The listener's gate: what it wrote, and what it passes on.
use Rattle.std.proofs.Common.{ℕ, List, [], ◌∷◌, ◌++◌, Option, Some, None, Result, Ok, sym, ap, ◌∙◌, subst}
use Rattle.std.proofs.lemmas.List.{append-nil}
use Rattle.sasl_exchange.specs.amqp_sasl_bodies.declared.sasl_body.SaslBody.{SaslBody}
use Rattle.sasl_exchange.specs.amqp_sasl_bodies.declared.sasl_code.SaslCode.TheVariants as sasl
use Rattle.amqp_wire.specs.declared.link.Link.{Ghosts}
use Rattle.amqp_wire.specs.Events.{LinkEvent, read_of, wrote_of}
use Rattle.sasl_scram.specs.declared.hash.ScramHash.{ScramHash}
use Rattle.sasl_scram.specs.declared.stored.StoredPassword.{StoredPassword}
use Rattle.sasl_exchange.specs.declared.error.NegotiationError.{NegotiationError}
use Rattle.sasl_exchange.specs.declared.init_server.InitCheck.{InitCheck}
use Rattle.sasl_exchange.specs.declared.server.ServerExchange.{ServerExchange}
use Rattle.sasl_exchange.specs.declared.server.ServerExchange.TheVariants.{Scram, Init}
use Rattle.sasl_exchange.specs.AnyServer.{Passwords, StoredPasswords, any_server_same, any_server_mechanism}
use Rattle.sasl_exchange.specs.InitServer.{InitServerEnd, check_mechanisms, HasJudged, InitServerSame, init_server_mechanism}
use Rattle.sasl_exchange.specs.ScramBodies.{challenge_body, outcome_body}
use Rattle.sasl_exchange.specs.ScramServer.{ServerEnd, own_mechanisms, HasProof, ServerSame, server_mechanism}
use Rattle.sasl_exchange.proofs.InitServers.{init_server_passes}
use Rattle.sasl_exchange.proofs.ScramServers.{server_passes}
use Rattle.sasl_gate.specs.declared.gate.negotiation.GatePoll.{GatePoll}
use Rattle.sasl_gate.specs.Frames.{Heard, said}
use Rattle.sasl_gate.specs.Negotiation.{Negotiating, Has, IsPassed, IsPollAnswer, Polled}
use Rattle.sasl_gate.specs.ServerGate.{ServerPassed, HasServerPassed, InitServerPassed, HasAnyServerPassed, ServerPolled}
use Rattle.sasl_gate.proofs.Gates.{only_sasl, Whole, passed_whole}

-- ---- with SCRAM

module _ {P : Type 0} (stored : P → List ℕ → Option StoredPassword) where
  server_same : (x y : ServerEnd P) (events : List LinkEvent) → ServerSame x y → HasServerPassed stored y events → HasServerPassed stored x events
  server_same x y events s h =
      subst (λ (k : ScramHash). ServerPassed k (stored x.server.provider) x.server.nonce (wrote_of events) (read_of events)) (sym s.hash)
      (subst (λ (p : P). ServerPassed y.hash (stored p) x.server.nonce (wrote_of events) (read_of events)) (sym s.provider)
      (subst (λ (u : List ℕ). ServerPassed y.hash (stored y.server.provider) u (wrote_of events) (read_of events)) (sym s.nonce) h))

module _ {P : Type 0} (stored : P → List ℕ → Option StoredPassword) where
  -- the exchange is whole, and its check holds
  pub server_passed : (x : ServerEnd P) (rest wrote read : List ℕ) → Whole (server_mechanism stored) x rest wrote read
      → ServerPassed x.hash (stored x.server.provider) x.server.nonce wrote read
  server_passed x rest wrote read w =
      let both : (text : List ℕ) × HasProof x.hash (stored x.server.provider) x.server.nonce text w.given w.sent (outcome_body sasl.Ok (Some text) ∷ []) =
      server_passes stored x w.given w.sent w.turn w.held in
      let k : HasProof x.hash (stored x.server.provider) x.server.nonce both.0 w.given w.sent (outcome_body sasl.Ok (Some both.0) ∷ []) = both.1 in
      record {
        user = k.user;
        hostname = k.hostname;
        client_first = k.client_first;
        server_first = k.server_first;
        client_final = k.client_final;
        server_final = both.0;
        more = [];
        rest = rest;
        wrote_is = w.wrote_is ∙ ap said k.sent_is ∙ sym (append-nil (said (own_mechanisms x.hash ∷ challenge_body k.server_first ∷ outcome_body sasl.Ok (Some both.0) ∷ [])));
        read_is = subst (λ (u : List SaslBody). Heard read u rest) k.given_is w.heard;
        check = k.check;
      }

-- ---- with a mechanism whose client says all in its init

module _ {Q : Type 0} (passwords : Q → List ℕ → Option (List ℕ)) where
  -- the exchange is whole, and the body that was read passes
  pub init_server_passed : (x : InitServerEnd Q) (rest wrote read : List ℕ) → Whole (init_server_mechanism passwords) x rest wrote read
      → InitServerPassed passwords x.check wrote read
  init_server_passed x rest wrote read w =
      let k : HasJudged passwords x.check sasl.Ok w.given w.sent (check_mechanisms x.check ∷ outcome_body sasl.Ok None ∷ []) =
      init_server_passes passwords x w.given w.sent w.turn w.held in
      record {
        body = k.body;
        more = [];
        rest = rest;
        wrote_is = w.wrote_is ∙ ap said k.sent_is ∙ sym (append-nil (said (check_mechanisms x.check ∷ outcome_body sasl.Ok None ∷ [])));
        read_is = subst (λ (u : List SaslBody). Heard read u rest) k.given_is w.heard;
        passing = k.judged;
      }

  init_server_same : (x y : InitServerEnd Q) (wrote read : List ℕ) → InitServerSame x y → InitServerPassed passwords y.check wrote read → InitServerPassed passwords x.check wrote read
  init_server_same x y wrote read s h = subst (λ (c : InitCheck Q). InitServerPassed passwords c wrote read) (sym s.check) h

-- ---- with any of the mechanisms

module _ {Q P : Type 0} (passwords : Passwords Q) (stored : StoredPasswords P) where
  any_passed : (x : ServerExchange Q P) (rest : List ℕ) (events : List LinkEvent) → Whole (any_server_mechanism passwords stored) x rest (wrote_of events) (read_of events)
      → HasAnyServerPassed passwords stored x events
  any_passed (Scram x) rest events w = server_passed stored x rest (wrote_of events) (read_of events)
      (record { given = w.given; sent = w.sent; heard = w.heard; wrote_is = w.wrote_is; held = w.held; turn = w.turn })
  any_passed (Init x) rest events w = init_server_passed passwords x rest (wrote_of events) (read_of events)
      (record { given = w.given; sent = w.sent; heard = w.heard; wrote_is = w.wrote_is; held = w.held; turn = w.turn })

  any_same : (x y : ServerExchange Q P) (events : List LinkEvent) → any_server_same x y → HasAnyServerPassed passwords stored y events → HasAnyServerPassed passwords stored x events
  any_same (Scram x) (Scram y) events s h = server_same stored x y events s h
  any_same (Scram x) (Init y) events s h = absurd s
  any_same (Init x) (Scram y) events s h = absurd s
  any_same (Init x) (Init y) events s h = init_server_same passwords x y (wrote_of events) (read_of events) s h

module _ {L Q P : Type 0} (passwords : Passwords Q) (stored : StoredPasswords P) where
  -- a gate that passed: the exchange is whole, and its check holds
  pub any_server_passed : (n : Negotiating L (ServerExchange Q P)) (events : List LinkEvent) → Has (any_server_mechanism passwords stored) n events
      → IsPassed (any_server_mechanism passwords stored) n → HasAnyServerPassed passwords stored n.exchange events
  any_server_passed n events h passed =
      any_passed passwords stored n.exchange n.codec.input events (passed_whole (any_server_mechanism passwords stored) n events h passed)

  -- what a poll says of the whole history
  pub server_polled : (link : Ghosts L) (old : Negotiating L (ServerExchange Q P)) (left : ℕ) (result : Result GatePoll NegotiationError) (new : Negotiating L (ServerExchange Q P)) (left' : ℕ)
      → Polled link (any_server_mechanism passwords stored) old left result new left' → ServerPolled link passwords stored old left result new left'
  server_polled link old left result new left' p = record {
    polled = p;
    only_sasl = λ before h. only_sasl (any_server_mechanism passwords stored) new (p.events ++ before) (p.goes.grows before h);
    passed = λ e before h. any_same passwords stored old.exchange new.exchange (p.events ++ before) p.goes.kept
        (any_server_passed new (p.events ++ before) (p.goes.grows before h)
        (subst (λ (r : Result GatePoll NegotiationError). IsPollAnswer (any_server_mechanism passwords stored) p.events new left' r) e p.answer));
  }
