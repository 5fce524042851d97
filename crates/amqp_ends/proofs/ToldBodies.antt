-- An outcome that refuses, among the bodies of an exchange.
use Rattle.std.proofs.Common.{◌≡◌, ◌≢◌, ◌⊎◌, inl, inr, ℕ, List, [], ◌∷◌, ◌++◌, Option, Some, None, refl, sym, ap, ◌∙◌, subst, append_assoc}
use Rattle.std.specs.Prelude.{⊤}
use Rattle.amqp_sasl_bodies.specs.declared.sasl_body.SaslBody.{SaslBody}
use Rattle.amqp_sasl_bodies.specs.declared.sasl_body.SaslBody.TheVariants.{Mechanisms, Init, Challenge, Response, Outcome}
use Rattle.amqp_sasl_bodies.specs.declared.sasl_code.SaslCode.{SaslCode}
use Rattle.amqp_sasl_bodies.specs.declared.sasl_code.SaslCode.TheVariants as sasl
use Rattle.sasl_exchange.specs.declared.client.ClientExchange.{ClientExchange}
use Rattle.sasl_exchange.specs.declared.client.ClientExchange.TheVariants as client
use Rattle.sasl_exchange.specs.declared.error.NegotiationError.TheVariants.{SaslError}
use Rattle.sasl_exchange.specs.declared.exchange.Turn.{Turn}
use Rattle.sasl_exchange.specs.declared.exchange.Turn.TheVariants.{Send, Receive, Refuse, Pass}
use Rattle.sasl_exchange.specs.declared.init_client.InitClientStage.{InitClientStage}
use Rattle.sasl_exchange.specs.declared.scram_client.ClientStage.{ClientStage}
use Rattle.sasl_exchange.specs.declared.scram_client.ClientStage.TheVariants.{AwaitsMechanisms, OwesInit, AwaitsChallenge, OwesResponse, AwaitsOutcome, OwesEmptyResponse, AwaitsEnd, Passed}
use Rattle.sasl_exchange.specs.declared.scram_server.ServerStage.{ServerStage}
use Rattle.sasl_exchange.specs.declared.server.ServerExchange.TheVariants as server
use Rattle.sasl_exchange.specs.AnyClient.{any_client_causes, any_client_holds}
use Rattle.sasl_exchange.specs.AnyServer.{any_server_causes, any_server_holds, any_server_turn}
use Rattle.sasl_exchange.specs.ClientEnds.{EndsInRefusal}
use Rattle.sasl_exchange.specs.InitClient.{InitClientEnd}
use Rattle.sasl_exchange.specs.InitServer.{InitServerEnd, check_mechanisms, told_turn, turn_in as init_turn_in}
use Rattle.sasl_exchange.specs.ScramBodies.{outcome_body, response_body}
use Rattle.sasl_exchange.specs.ScramClient.{ClientEnd, HasAnswer, IsFinal, in_challenge, in_outcome, client_init, holds_in}
use Rattle.sasl_exchange.specs.ScramServer.{IsRefusalCause, by_client_first, by_client_final, by_mechanism, by_no_response, by_order, by_other_body, turn_in}
use Rattle.sasl_scram.specs.declared.client.ClientPhase.{ClientPhase}
use Rattle.sasl_scram.specs.declared.client.ClientPhase.TheVariants.{Unanswered, Answered, Verified}
use Rattle.sasl_scram.specs.declared.hash.ScramHash.{ScramHash}
use Rattle.sasl_scram.specs.declared.stored.StoredPassword.{StoredPassword}
use Rattle.sasl_scram.specs.States.{Account, ForAnswered}
use Rattle.amqp_opening.specs.Authentication.{passwords_for, stored_for}
use Rattle.amqp_pairs.specs.Mechanisms.{Listening}
use Rattle.amqp_pairs.proofs.InitViews.{InitClientView, InitListenerView, init_client_view, init_listener_view}
use Rattle.amqp_pairs.proofs.InitViews as init_view
use Rattle.amqp_pairs.proofs.ListenerViews.{ListenerView, listener_view}
use Rattle.amqp_pairs.proofs.ListenerViews as view

-- ---- bodies without such an outcome

abbrev pub IsUntold : SaslBody → Type 0
IsUntold (Mechanisms m) = ⊤
IsUntold (Init i) = ⊤
IsUntold (Challenge c) = ⊤
IsUntold (Response r) = ⊤
IsUntold (Outcome o) = o.code ≡ sasl.Ok

abbrev pub AllUntold : List SaslBody → Type 0
AllUntold [] = ⊤
AllUntold (x ∷ xs) = IsUntold x × AllUntold xs

-- one of these bodies is an outcome that refuses
pub record TellsRefusal (bodies : List SaslBody) : Type 0 where
  pub before : List SaslBody
  pub others : List SaslBody
  pub code : SaslCode
  pub payload : Option (List ℕ)
  pub is : bodies ≡ before ++ outcome_body code payload ∷ others
  pub other : code ≢ sasl.Ok

untold_ok : (before others : List SaslBody) (code : SaslCode) (payload : Option (List ℕ)) → AllUntold (before ++ outcome_body code payload ∷ others) → code ≡ sasl.Ok
untold_ok [] others code payload a = a.0
untold_ok (x ∷ before) others code payload a = untold_ok before others code payload a.1

pub untold_not : (bodies : List SaslBody) → AllUntold bodies → TellsRefusal bodies → ⊥
untold_not bodies a t = t.other (untold_ok t.before t.others t.code t.payload (subst AllUntold t.is a))

pub tells_more : (bodies others all : List SaslBody) → all ≡ bodies ++ others → TellsRefusal bodies → TellsRefusal all
tells_more bodies others all e t = record {
  before = t.before;
  others = t.others ++ others;
  code = t.code;
  payload = t.payload;
  is = e ∙ ap (λ (u : List SaslBody). u ++ others) t.is ∙ append_assoc t.before (outcome_body t.code t.payload ∷ t.others) others;
  other = t.other;
}

-- ---- a client took none

owed_untold : (phase : ClientPhase) (text : List ℕ) (x : ClientEnd) (given sent : List SaslBody)
    → ForAnswered phase (λ a. (a.client_final ≡ text) × HasAnswer x a given sent (client_init x ∷ [])) → AllUntold given
owed_untold Unanswered text x given sent h = absurd h
owed_untold (Answered a) text x given sent h = subst AllUntold (sym h.1.given_is) (tt, (tt, tt))
owed_untold Verified text x given sent h = absurd h

awaited_untold : (phase : ClientPhase) (x : ClientEnd) (given sent : List SaslBody)
    → ForAnswered phase (λ a. HasAnswer x a given sent (client_init x ∷ response_body a.client_final ∷ [])) → AllUntold given
awaited_untold Unanswered x given sent h = absurd h
awaited_untold (Answered a) x given sent h = subst AllUntold (sym h.given_is) (tt, (tt, tt))
awaited_untold Verified x given sent h = absurd h

final_untold : (server_final : List ℕ) (told replied : List SaslBody) → IsFinal server_final told replied → AllUntold told
final_untold server_final told replied (in_outcome t r) = subst AllUntold (sym t) (refl, tt)
final_untold server_final told replied (in_challenge payload t r) = subst AllUntold (sym t) (tt, (refl, tt))

scram_untold : (stage : ClientStage) (x : ClientEnd) (given sent : List SaslBody) → holds_in stage x given sent → AllUntold given
scram_untold AwaitsMechanisms x given sent h = subst AllUntold (sym h.0) tt
scram_untold OwesInit x given sent h = subst AllUntold (sym h.given_is) (tt, tt)
scram_untold AwaitsChallenge x given sent h = subst AllUntold (sym h.given_is) (tt, tt)
scram_untold (OwesResponse text) x given sent h = owed_untold x.client.phase text x given sent h
scram_untold AwaitsOutcome x given sent h = awaited_untold x.client.phase x given sent h
scram_untold OwesEmptyResponse x given sent h = subst AllUntold (sym h.given_is) (tt, (tt, (tt, tt)))
scram_untold AwaitsEnd x given sent h = subst AllUntold (sym h.given_is) (tt, (tt, (tt, tt)))
scram_untold Passed x given sent h = subst AllUntold (sym h.given_is) (tt, (tt, final_untold h.server_final h.told h.replied h.final))

init_untold : (stage : InitClientStage) (x : InitClientEnd) (given sent : List SaslBody) → InitClientView stage x given sent → AllUntold given
init_untold stage x given sent (init_view.awaits_mechanisms t g s) = subst AllUntold (sym g) tt
init_untold stage x given sent (init_view.owes_init names t g c s) = subst AllUntold (sym g) (tt, tt)
init_untold stage x given sent (init_view.awaits_outcome names t g c s) = subst AllUntold (sym g) (tt, tt)
init_untold stage x given sent (init_view.passed names payload t g c s) = subst AllUntold (sym g) (tt, (refl, tt))

-- a client took no outcome that refuses: it fails by one
pub client_untold : (x : ClientExchange) (given sent : List SaslBody) → any_client_holds x given sent → AllUntold given
client_untold (client.Scram x) given sent h = scram_untold x.stage x given sent h
client_untold (client.Init x) given sent h = init_untold x.stage x given sent (init_client_view x.stage x given sent h)

-- ---- a listener that waits for a body, or has passed, told none

abbrev pub DoesNotRefuse : Turn → Type 0
DoesNotRefuse turn = (turn ≡ Receive) ⊎ (turn ≡ Pass)

told_ok : (code : SaslCode) → DoesNotRefuse (told_turn code) → code ≡ sasl.Ok
told_ok sasl.Ok w = refl
told_ok sasl.Auth (inl e) = absurd (cc e)
told_ok sasl.Auth (inr e) = absurd (cc e)
told_ok sasl.Sys (inl e) = absurd (cc e)
told_ok sasl.Sys (inr e) = absurd (cc e)
told_ok sasl.SysPerm (inl e) = absurd (cc e)
told_ok sasl.SysPerm (inr e) = absurd (cc e)
told_ok sasl.SysTemp (inl e) = absurd (cc e)
told_ok sasl.SysTemp (inr e) = absurd (cc e)

waits_send : (turn : Turn) → turn ≡ Send → DoesNotRefuse turn → ⊥
waits_send turn t (inl e) = absurd (cc (sym t ∙ e))
waits_send turn t (inr e) = absurd (cc (sym t ∙ e))

waits_refuse : (turn : Turn) (code : SaslCode) → turn ≡ Refuse code → DoesNotRefuse turn → ⊥
waits_refuse turn code t (inl e) = absurd (cc (sym t ∙ e))
waits_refuse turn code t (inr e) = absurd (cc (sym t ∙ e))

scram_tells : (hash : ScramHash) (stage : ServerStage) (stored : List ℕ → Option StoredPassword) (own : List ℕ) (given sent : List SaslBody)
    → ListenerView hash stage stored own given sent → DoesNotRefuse (turn_in stage) → AllUntold sent
scram_tells hash stage stored own given sent (view.owes_mechanisms t g s) w = subst AllUntold (sym s) tt
scram_tells hash stage stored own given sent (view.awaits_init t g s) w = subst AllUntold (sym s) (tt, tt)
scram_tells hash stage stored own given sent (view.owes_challenge first server_first host t g s c) w = subst AllUntold (sym s) (tt, tt)
scram_tells hash stage stored own given sent (view.awaits_response first server_first host t g s c) w = subst AllUntold (sym s) (tt, (tt, tt))
scram_tells hash stage stored own given sent (view.owes_outcome user first server_first final told host t g s c) w = subst AllUntold (sym s) (tt, (tt, tt))
scram_tells hash stage stored own given sent (view.passed user first server_first final told host t g s c) w = subst AllUntold (sym s) (tt, (tt, (refl, tt)))
scram_tells hash stage stored own given sent (view.owes_refusal code t c a) w = absurd (waits_send (turn_in stage) t w)
scram_tells hash stage stored own given sent (view.refused code before t c s a) w = absurd (waits_refuse (turn_in stage) code t w)

init_tells : (y : InitServerEnd Account) (given sent : List SaslBody) → InitListenerView y.check y.stage given sent → DoesNotRefuse (init_turn_in y.stage) → AllUntold sent
init_tells y given sent (init_view.owes_mechanisms t g s) w = subst AllUntold (sym s) tt
init_tells y given sent (init_view.awaits_init t g s) w = subst AllUntold (sym s) (tt, tt)
init_tells y given sent (init_view.owes_outcome code body t g j s) w = subst AllUntold (sym s) (tt, tt)
init_tells y given sent (init_view.told code body t g j s) w = subst AllUntold (sym s) (tt, (told_ok code (subst DoesNotRefuse t w), tt))

pub listener_untold : (y : Listening) (given sent : List SaslBody) → any_server_holds passwords_for stored_for y given sent → DoesNotRefuse (any_server_turn y) → AllUntold sent
listener_untold (server.Scram y) given sent h w =
    scram_tells y.hash y.stage (stored_for y.server.provider) y.server.nonce given sent (listener_view y given sent h) w
listener_untold (server.Init y) given sent h w = init_tells y given sent (init_listener_view y.check y.stage given sent h) w

-- ---- an end that fails by an outcome: a listener told one that refuses, and a client read one

refuses_by : (hash : ScramHash) (stored : List ℕ → Option StoredPassword) (own : List ℕ) (code : SaslCode) (given : List SaslBody)
    → IsRefusalCause hash stored own code given → code ≢ sasl.Ok
refuses_by hash stored own code given (by_client_first text host kind is m r c) e = absurd (cc (sym c ∙ e))
refuses_by hash stored own code given (by_client_final first user whole server_first text host keys answers kind is m r c) e = absurd (cc (sym c ∙ e))
refuses_by hash stored own code given (by_mechanism name response host is other c) e = absurd (cc (sym c ∙ e))
refuses_by hash stored own code given (by_no_response name host is c) e = absurd (cc (sym c ∙ e))
refuses_by hash stored own code given (by_order before body is o n c) e = absurd (cc (sym c ∙ e))
refuses_by hash stored own code given (by_other_body before body is o c) e = absurd (cc (sym c ∙ e))

pub listener_tells : (y : Listening) (code : SaslCode) (payload : Option (List ℕ)) (given sent : List SaslBody)
    → any_server_causes passwords_for stored_for y (SaslError code payload) given sent → TellsRefusal sent
listener_tells (server.Scram y) code None given sent c = record {
  before = c.before;
  others = [];
  code = code;
  payload = None;
  is = c.told;
  other = refuses_by y.hash (stored_for y.server.provider) y.server.nonce code given c.cause;
}
listener_tells (server.Scram y) code (Some payload) given sent c = absurd c
listener_tells (server.Init y) code None given sent (other, c) =
    record { before = check_mechanisms y.check ∷ []; others = []; code = code; payload = None; is = c.sent_is; other = other }
listener_tells (server.Init y) code (Some payload) given sent c = absurd c

ends_in : (code : SaslCode) (payload : Option (List ℕ)) (given : List SaslBody) → EndsInRefusal code payload given → TellsRefusal given
ends_in code payload given (before, is, other) = record { before = before; others = []; code = code; payload = payload; is = is; other = other }

pub client_reads : (x : ClientExchange) (code : SaslCode) (payload : Option (List ℕ)) (given sent : List SaslBody)
    → any_client_causes x (SaslError code payload) given sent → TellsRefusal given
client_reads (client.Scram x) code payload given sent c = ends_in code payload given c
client_reads (client.Init x) code payload given sent c = ends_in code payload given c
