-- A listener with SCRAM sends one challenge at most.
use Rattle.std.proofs.Common.{◌≡◌, ℕ, List, [], ◌∷◌, ◌++◌, Option, Some, None, ap, sym, ◌∙◌}
use Rattle.amqp_sasl_bodies.specs.declared.sasl_body.SaslBody.{SaslBody}
use Rattle.amqp_sasl_bodies.specs.declared.sasl_code.SaslCode.{SaslCode}
use Rattle.amqp_sasl_bodies.specs.declared.sasl_code.SaslCode.TheVariants as sasl
use Rattle.sasl_exchange.specs.declared.scram_server.ServerStage.{ServerStage}
use Rattle.sasl_scram.specs.declared.hash.ScramHash.{ScramHash}
use Rattle.sasl_scram.specs.declared.stored.StoredPassword.{StoredPassword}
use Rattle.sasl_exchange.specs.ScramBodies.{challenge_body, outcome_body}
use Rattle.sasl_exchange.specs.ScramServer.{own_mechanisms}
use Rattle.amqp_pairs.proofs.Bodies.{OneChallenge, challenge_not_outcome}
use Rattle.amqp_pairs.proofs.ListenerViews.{ListenerView, owes_mechanisms, awaits_init, owes_challenge, awaits_response, owes_outcome, passed, owes_refusal, refused, Asking, at_init, at_response}

-- the bodies that were taken are the first of those that were sent
pub first_of_one : (given flight sent : List SaslBody) → given ++ flight ≡ sent → OneChallenge sent → OneChallenge given
first_of_one given flight sent e one a b text more g =
    one a b text (more ++ flight) (sym e ∙ ap (λ (u : List SaslBody). u ++ flight) g)

-- no body, one, two, or a third that is an outcome
none_sent : (sent : List SaslBody) → sent ≡ [] → OneChallenge sent
none_sent sent s a b text more e = let both : [] ≡ a ∷ b ∷ challenge_body text ∷ more = sym s ∙ e in cc

one_sent : (sent : List SaslBody) (p : SaslBody) → sent ≡ p ∷ [] → OneChallenge sent
one_sent sent p s a b text more e = let both : p ∷ [] ≡ a ∷ b ∷ challenge_body text ∷ more = sym s ∙ e in cc

pub two_sent : (sent : List SaslBody) (p q : SaslBody) → sent ≡ p ∷ q ∷ [] → OneChallenge sent
two_sent sent p q s a b text more e = let both : p ∷ q ∷ [] ≡ a ∷ b ∷ challenge_body text ∷ more = sym s ∙ e in cc

third_sent : (sent : List SaslBody) (p q : SaslBody) (code : SaslCode) (payload : Option (List ℕ)) → sent ≡ p ∷ q ∷ outcome_body code payload ∷ [] → OneChallenge sent
third_sent sent p q code payload s a b text more e =
    let both : p ∷ q ∷ outcome_body code payload ∷ [] ≡ a ∷ b ∷ challenge_body text ∷ more = sym s ∙ e in
    let third : outcome_body code payload ≡ challenge_body text = cc in
    challenge_not_outcome text code payload (sym third)

module _ (hash : ScramHash) (stage : ServerStage) (stored : List ℕ → Option StoredPassword) (own : List ℕ) (given sent : List SaslBody) where
  asking_sent : Asking hash stored own given sent → OneChallenge sent
  asking_sent (at_init body g s) = one_sent sent (own_mechanisms hash) s
  asking_sent (at_response cf first h body g s c) = two_sent sent (own_mechanisms hash) (challenge_body first) s

  refused_sent : (code : SaslCode) (front : List SaslBody) → sent ≡ front ++ outcome_body code None ∷ [] → Asking hash stored own given front → OneChallenge sent
  refused_sent code front is (at_init body g s) =
      two_sent sent (own_mechanisms hash) (outcome_body code None) (is ∙ ap (λ (u : List SaslBody). u ++ outcome_body code None ∷ []) s)
  refused_sent code front is (at_response cf first h body g s c) =
      third_sent sent (own_mechanisms hash) (challenge_body first) code None (is ∙ ap (λ (u : List SaslBody). u ++ outcome_body code None ∷ []) s)

  pub one_challenge : ListenerView hash stage stored own given sent → OneChallenge sent
  one_challenge (owes_mechanisms t g s) = none_sent sent s
  one_challenge (awaits_init t g s) = one_sent sent (own_mechanisms hash) s
  one_challenge (owes_challenge cf first h t g s c) = one_sent sent (own_mechanisms hash) s
  one_challenge (awaits_response cf first h t g s c) = two_sent sent (own_mechanisms hash) (challenge_body first) s
  one_challenge (owes_outcome u cf first final told h t g s c) = two_sent sent (own_mechanisms hash) (challenge_body first) s
  one_challenge (passed u cf first final told h t g s c) = third_sent sent (own_mechanisms hash) (challenge_body first) sasl.Ok (Some told) s
  one_challenge (owes_refusal code t c a) = asking_sent a
  one_challenge (refused code front t c is a) = refused_sent code front is a
