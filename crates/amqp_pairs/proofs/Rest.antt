-- Two joined ends of which neither has anything to send.
use Rattle.std.proofs.Common.{◌≡◌, ◌≢◌, inl, inr, ℕ, List, [], ◌∷◌, ◌++◌, Option, Some, None, sym, ◌∙◌}
use Rattle.amqp_sasl_bodies.specs.declared.sasl_body.SaslBody.{SaslBody}
use Rattle.amqp_sasl_bodies.specs.declared.sasl_code.SaslCode.{SaslCode}
use Rattle.amqp_sasl_bodies.specs.declared.sasl_code.SaslCode.TheVariants as sasl
use Rattle.sasl_exchange.specs.declared.scram_client.ClientStage.{ClientStage}
use Rattle.sasl_exchange.specs.declared.exchange.Turn.TheVariants.{Send, Pass}
use Rattle.sasl_exchange.specs.declared.scram_server.ServerStage.{ServerStage}
use Rattle.sasl_scram.specs.declared.stored.StoredPassword.{StoredPassword}
use Rattle.sasl_exchange.specs.ScramClient.{ClientEnd, client_init, turn_in as client_turn_in}
use Rattle.sasl_scram.specs.declared.hash.ScramHash.{ScramHash}
use Rattle.sasl_scram.specs.Hashes.{mechanism_of}
use Rattle.sasl_exchange.specs.ScramBodies.{challenge_body, init_body, mechanisms_body, outcome_body, response_body}
use Rattle.sasl_exchange.specs.ScramServer.{own_mechanisms, turn_in}
use Rattle.amqp_pairs.proofs.Bodies.{challenge_not_outcome, in_none, in_some, list_not_outcome, told_not_none}
use Rattle.amqp_pairs.proofs.ClientViews.{ClientView, awaits_mechanisms, owes_init, awaits_challenge, owes_response, awaits_outcome, passed}
use Rattle.amqp_pairs.proofs.ListenerViews as listener
use Rattle.amqp_pairs.proofs.ListenerViews.{ListenerView}

-- ---- a client took no outcome that refuses

not_in_two : (names : List (List ℕ)) (first : List ℕ) (code : SaslCode) (before more rest : List SaslBody) → ((tail : List SaslBody) → tail ++ outcome_body code None ∷ more ≡ rest → ⊥)
    → before ++ outcome_body code None ∷ more ≡ mechanisms_body names ∷ challenge_body first ∷ rest → ⊥
not_in_two names first code before more rest later e = elim (in_some before more (outcome_body code None) (mechanisms_body names) (challenge_body first ∷ rest) e) as (λ _. ⊥) [
  | inl here ↦ list_not_outcome names code None (sym here.1)
  | inr there ↦ elim (in_some there.0 more (outcome_body code None) (challenge_body first) rest there.2) as (λ _. ⊥) [
    | inl now ↦ challenge_not_outcome first code None (sym now.1)
    | inr late ↦ later late.0 late.2
  ]
]

pub took_no_refusal : (stage : ClientStage) (x : ClientEnd) (given sent before more : List SaslBody) (code : SaslCode) → ClientView stage x given sent
    → before ++ outcome_body code None ∷ more ≡ given → ⊥
took_no_refusal stage x given sent before more code (awaits_mechanisms t g s) e = in_none before more (outcome_body code None) (e ∙ g)
took_no_refusal stage x given sent before more code (owes_init names t g s) e = elim (in_some before more (outcome_body code None) (mechanisms_body names) [] (e ∙ g)) as (λ _. ⊥) [
  | inl here ↦ list_not_outcome names code None (sym here.1)
  | inr there ↦ in_none there.0 more (outcome_body code None) there.2
]
took_no_refusal stage x given sent before more code (awaits_challenge names t g s) e = elim (in_some before more (outcome_body code None) (mechanisms_body names) [] (e ∙ g)) as (λ _. ⊥) [
  | inl here ↦ list_not_outcome names code None (sym here.1)
  | inr there ↦ in_none there.0 more (outcome_body code None) there.2
]
took_no_refusal stage x given sent before more code (owes_response names first t g s) e =
    not_in_two names first code before more [] (λ tail f. in_none tail more (outcome_body code None) f) (e ∙ g)
took_no_refusal stage x given sent before more code (awaits_outcome names first final t g s a) e =
    not_in_two names first code before more [] (λ tail f. in_none tail more (outcome_body code None) f) (e ∙ g)
took_no_refusal stage x given sent before more code (passed names first final told t g s a f) e =
    not_in_two names first code before more (outcome_body sasl.Ok (Some told) ∷ []) (λ tail q.
    elim (in_some tail more (outcome_body code None) (outcome_body sasl.Ok (Some told)) [] q) as (λ _. ⊥) [
      | inl here ↦ told_not_none sasl.Ok code told (sym here.1)
      | inr there ↦ in_none there.0 more (outcome_body code None) there.2
    ]) (e ∙ g)

-- ---- at rest: a client, and a listener with this hash function

module _ (hash : ScramHash) (stage : ClientStage) (x : ClientEnd) (given sent : List SaslBody) (idle : client_turn_in stage ≢ Send) where
  -- the listener waits for an init
  no_init : ClientView stage x given sent → given ≡ own_mechanisms hash ∷ [] → sent ≡ [] → ⊥
  no_init (awaits_mechanisms t g s) p q = let both : [] ≡ own_mechanisms hash ∷ [] = sym g ∙ p in cc
  no_init (owes_init names t g s) p q = idle t
  no_init (awaits_challenge names t g s) p q = let both : client_init x ∷ [] ≡ [] = sym s ∙ q in cc
  no_init (owes_response names first t g s) p q = idle t
  no_init (awaits_outcome names first final t g s a) p q = let both : client_init x ∷ response_body final ∷ [] ≡ [] = sym s ∙ q in cc
  no_init (passed names first final told t g s a f) p q = let both : client_init x ∷ response_body final ∷ [] ≡ [] = sym s ∙ q in cc

  -- the listener waits for a response
  no_response : (i c : SaslBody) → ClientView stage x given sent → given ≡ own_mechanisms hash ∷ c ∷ [] → sent ≡ i ∷ [] → ⊥
  no_response i c (awaits_mechanisms t g s) p q = let both : [] ≡ own_mechanisms hash ∷ c ∷ [] = sym g ∙ p in cc
  no_response i c (owes_init names t g s) p q = idle t
  no_response i c (awaits_challenge names t g s) p q = let both : mechanisms_body names ∷ [] ≡ own_mechanisms hash ∷ c ∷ [] = sym g ∙ p in cc
  no_response i c (owes_response names first t g s) p q = idle t
  no_response i c (awaits_outcome names first final t g s a) p q = let both : client_init x ∷ response_body final ∷ [] ≡ i ∷ [] = sym s ∙ q in cc
  no_response i c (passed names first final told t g s a f) p q = let both : client_init x ∷ response_body final ∷ [] ≡ i ∷ [] = sym s ∙ q in cc

  -- the listener passes
  pub all_given : (c o : SaslBody) → ClientView stage x given sent → given ≡ own_mechanisms hash ∷ c ∷ o ∷ [] → client_turn_in stage ≡ Pass
  all_given c o (awaits_mechanisms t g s) p = let both : [] ≡ own_mechanisms hash ∷ c ∷ o ∷ [] = sym g ∙ p in cc
  all_given c o (owes_init names t g s) p = absurd (idle t)
  all_given c o (awaits_challenge names t g s) p = let both : mechanisms_body names ∷ [] ≡ own_mechanisms hash ∷ c ∷ o ∷ [] = sym g ∙ p in cc
  all_given c o (owes_response names first t g s) p = absurd (idle t)
  all_given c o (awaits_outcome names first final t g s a) p =
      let both : mechanisms_body names ∷ challenge_body first ∷ [] ≡ own_mechanisms hash ∷ c ∷ o ∷ [] = sym g ∙ p in cc
  all_given c o (passed names first final told t g s a f) p = t

  -- both pass
  pub both_pass : (other : ServerStage) (stored : List ℕ → Option StoredPassword) (own : List ℕ) → ClientView stage x given sent → ListenerView hash other stored own sent given
      → turn_in other ≢ Send → (client_turn_in stage ≡ Pass) × (turn_in other ≡ Pass)
  both_pass other stored own v (listener.owes_mechanisms t g s) ready = absurd (ready t)
  both_pass other stored own v (listener.awaits_init t g s) ready = absurd (no_init v s g)
  both_pass other stored own v (listener.owes_challenge cf first h t g s c) ready = absurd (ready t)
  both_pass other stored own v (listener.awaits_response cf first h t g s c) ready = absurd (no_response (init_body (mechanism_of hash) (Some cf) h) (challenge_body first) v s g)
  both_pass other stored own v (listener.owes_outcome u cf first final told h t g s c) ready = absurd (ready t)
  both_pass other stored own v (listener.passed u cf first final told h t g s c) ready =
      (all_given (challenge_body first) (outcome_body sasl.Ok (Some told)) v s, t)
  both_pass other stored own v (listener.owes_refusal code t c a) ready = absurd (ready t)
  both_pass other stored own v (listener.refused code front t c is a) ready = absurd (took_no_refusal stage x given sent front [] code v (sym is))
