-- A client that took its bodies has no cause to refuse one of them.
use Rattle.std.proofs.Common.{◌≡◌, ◌⊎◌, inl, inr, ℕ, List, [], ◌∷◌, ◌++◌, length, Some, refl, ap, sym, ◌∙◌, subst, append_assoc}
use Rattle.amqp_sasl_bodies.specs.declared.sasl_body.SaslBody.{SaslBody}
use Rattle.amqp_sasl_bodies.specs.declared.sasl_code.SaslCode.TheVariants as sasl
use Rattle.base64.specs.Engines.{standard}
use Rattle.kdf_core.specs.Hmac.{hmac_of}
use Rattle.amqp_opening.specs.Authentication.{stored_for}
use Rattle.base64.specs.GeneralPurpose.{IsBytes, encode_of}
use Rattle.sasl_exchange.specs.declared.error.NegotiationError.{NegotiationError}
use Rattle.sasl_exchange.specs.declared.error.NegotiationError.TheVariants.{Memory, ProtocolHeaderMismatch, NotImplemented, SaslError, ScramError, Io, DecodeError, IllegalState, FramingError}
use Rattle.sasl_scram.specs.declared.error.ScramErrorKind.{ScramErrorKind}
use Rattle.sasl_scram.specs.declared.error.ScramErrorKind.TheVariants as scram
use Rattle.sasl_scram.specs.Check.{ClientAnswers}
use Rattle.sasl_exchange.specs.ScramClient.{ClientEnd, IsScramCause, by_challenge, by_final, by_no_signature, client_causes}
use Rattle.sasl_scram.specs.Hashes.{digest_of, block_of, output_of}
use Rattle.sasl_scram.specs.Keys.{server_key_of}
use Rattle.sasl_scram.specs.Refusals.{IsServerFinalRefusal, IsServerFirstRefusal}
use Rattle.sasl_exchange.specs.ScramBodies.{challenge_body, mechanisms_body, outcome_body}
use Rattle.sasl_exchange.specs.ScramServer.{ServerEnd}
use Rattle.sasl_scram.specs.States.{Account}
use Rattle.sasl_scram.specs.Texts.{IsServerFinal}
use Rattle.amqp_pairs.specs.Errors.{IsTold, MayRefuse}
use Rattle.amqp_pairs.specs.Joined.{AreJoined}
use Rattle.amqp_pairs.proofs.Answers.{client_answer, salted, signed}
use Rattle.amqp_pairs.proofs.Bodies.{OneChallenge, text_in}
use Rattle.amqp_pairs.proofs.Challenges.{first_of_one, one_challenge}
use Rattle.amqp_pairs.proofs.Causes.{answer_of, client_seen, text_given}
use Rattle.amqp_pairs.proofs.ClientCauses.{client_cause, seen}
use Rattle.amqp_pairs.proofs.ClientViews.{ClientView, awaits_mechanisms, owes_init, awaits_challenge, owes_response, awaits_outcome, passed, IsAnswered}
use Rattle.amqp_pairs.proofs.Keys.{hmac_bytes, length-hmac}
use Rattle.amqp_pairs.proofs.NoCauses.{no_cause_yet}
use Rattle.amqp_pairs.proofs.Places.{IsSentChallenge, challenged}
use Rattle.amqp_pairs.proofs.Refusals.{own_final_taken}
use Rattle.amqp_pairs.proofs.Rest.{took_no_refusal}

-- three bodies are not fewer
three_none : (given : List SaslBody) (a b c : SaslBody) → given ≡ a ∷ b ∷ c ∷ [] → given ≡ [] → ⊥
three_none given a b c e g = let both : a ∷ b ∷ c ∷ [] ≡ [] = sym e ∙ g in cc

three_one : (given : List SaslBody) (a b c d : SaslBody) → given ≡ a ∷ b ∷ c ∷ [] → given ≡ d ∷ [] → ⊥
three_one given a b c d e g = let both : a ∷ b ∷ c ∷ [] ≡ d ∷ [] = sym e ∙ g in cc

three_two : (given : List SaslBody) (a b c d f : SaslBody) → given ≡ a ∷ b ∷ c ∷ [] → given ≡ d ∷ f ∷ [] → ⊥
three_two given a b c d f e g = let both : a ∷ b ∷ c ∷ [] ≡ d ∷ f ∷ [] = sym e ∙ g in cc

-- a list has a last body, or none
last_of : (given : List SaslBody) → (given ≡ []) ⊎ ((front : List SaslBody) × (body : SaslBody) × (given ≡ front ++ body ∷ []))
last_of [] = inl refl
last_of (g ∷ gs) = elim (last_of gs) as (λ _. (g ∷ gs ≡ []) ⊎ ((front : List SaslBody) × (body : SaslBody) × (g ∷ gs ≡ front ++ body ∷ []))) [
  | inl none ↦ inr ([], g, ap (λ (u : List SaslBody). g ∷ u) none)
  | inr some ↦ inr (g ∷ some.0, some.1, ap (λ (u : List SaslBody). g ∷ u) some.2)
]

module _ (x : ClientEnd) (y : ServerEnd Account) (salt : List ℕ) (count : ℕ) (gc sc gl sl fc fl : List SaslBody) (j : AreJoined x y salt count gc sc gl sl fc fl) where
  -- two answers to one challenge wait for one signature
  same_signature : (list : SaslBody) (first own final other signature text : List ℕ) (kind : ScramErrorKind) (more : List SaslBody) → gc ≡ list ∷ challenge_body first ∷ more
      → own ≡ first → (a : ClientAnswers (digest_of x.hash) (block_of x.hash) (output_of x.hash) x.client.user x.client.password x.client.nonce first final signature)
      → (b : IsAnswered x own other) → IsServerFinal text (encode_of standard b.signature) → IsServerFinalRefusal (output_of x.hash) signature text kind → ⊥
  same_signature list first own final other signature text kind more g e a b f r =
      let sent : list ∷ challenge_body first ∷ (more ++ fc) ≡ sl = sym (ap (λ (u : List SaslBody). u ++ fc) g) ∙ j.reads_listener in
      let c : IsSentChallenge y.hash y.stage (stored_for y.server.provider) y.server.nonce gl first =
      challenged y.hash y.stage (stored_for y.server.provider) y.server.nonce gl sl list first (more ++ fc) (seen x y salt count gc sc gl sl fc fl j) sent in
      let is = text_given x y salt count gc sc gl sl fc fl j c.client_first c.hostname (c.rest ++ fl) (sym (ap (λ (u : List SaslBody). u ++ fl) c.given_is) ∙ j.reads_client) in
      let to = answer_of x y salt count gc sc gl sl fc fl j c.client_first c.challenge.user c.challenge.whole first c.challenge.keys is c.challenge.answers in
      let theirs = client_answer x.hash x.client.user x.client.password x.client.nonce y.server.nonce salt count first final signature
      j.ends.nonce_is j.ends.own_is j.ends.salt_is j.ends.count_is to.first_is a in
      let mine = client_answer x.hash x.client.user x.client.password x.client.nonce y.server.nonce salt count own other b.signature
      j.ends.nonce_is j.ends.own_is j.ends.salt_is j.ends.count_is (e ∙ to.first_is) b.answers in
      let key : List ℕ = server_key_of (digest_of x.hash) (block_of x.hash) (salted x.hash x.client.password salt count) in
      let auth : List ℕ = signed x.client.user x.client.nonce y.server.nonce first in
      let waited : b.signature ≡ hmac_of (digest_of x.hash) (block_of x.hash) key auth = mine.signature_is ∙ ap (λ (t : List ℕ). hmac_of (digest_of x.hash) (block_of x.hash) key (signed x.client.user x.client.nonce y.server.nonce t)) e in
      let same : signature ≡ b.signature = theirs.signature_is ∙ sym waited in
      own_final_taken x.hash b.signature text kind (subst (λ (s : List ℕ). IsBytes s) (sym waited) (hmac_bytes x.hash key auth)) (ap length waited ∙ length-hmac x.hash key auth) f
      (subst (λ (s : List ℕ). IsServerFinalRefusal (output_of x.hash) s text kind) same r)

  pub own_outcome : (list : SaslBody) (first final signature text : List ℕ) (kind : ScramErrorKind) → gc ≡ list ∷ challenge_body first ∷ outcome_body sasl.Ok (Some text) ∷ []
      → (a : ClientAnswers (digest_of x.hash) (block_of x.hash) (output_of x.hash) x.client.user x.client.password x.client.nonce first final signature) → IsServerFinalRefusal (output_of x.hash) signature text kind
      → ClientView x.stage x gc sc → ⊥
  own_outcome list first final signature text kind e a r (awaits_mechanisms t g s) = three_none gc list (challenge_body first) (outcome_body sasl.Ok (Some text)) e g
  own_outcome list first final signature text kind e a r (owes_init names t g s) = three_one gc list (challenge_body first) (outcome_body sasl.Ok (Some text)) (mechanisms_body names) e g
  own_outcome list first final signature text kind e a r (awaits_challenge names t g s) = three_one gc list (challenge_body first) (outcome_body sasl.Ok (Some text)) (mechanisms_body names) e g
  own_outcome list first final signature text kind e a r (owes_response names own t g s) =
      three_two gc list (challenge_body first) (outcome_body sasl.Ok (Some text)) (mechanisms_body names) (challenge_body own) e g
  own_outcome list first final signature text kind e a r (awaits_outcome names own other t g s b) =
      three_two gc list (challenge_body first) (outcome_body sasl.Ok (Some text)) (mechanisms_body names) (challenge_body own) e g
  own_outcome list first final signature text kind e a r (passed names own other told t g s b f) =
      let both : list ∷ challenge_body first ∷ outcome_body sasl.Ok (Some text) ∷ [] ≡ mechanisms_body names ∷ challenge_body own ∷ outcome_body sasl.Ok (Some told) ∷ [] = sym e ∙ g in
      let seconds : challenge_body first ≡ challenge_body own = cc in
      let thirds : outcome_body sasl.Ok (Some text) ≡ outcome_body sasl.Ok (Some told) = cc in
      let told_is : text ≡ told = ap text_in thirds in
      same_signature list first own final other signature told kind (outcome_body sasl.Ok (Some text) ∷ []) e (sym (ap text_in seconds)) a b f
      (subst (λ (u : List ℕ). IsServerFinalRefusal (output_of x.hash) signature u kind) told_is r)

  seen_so_far : ClientView x.stage x gc sc
  seen_so_far = client_seen x y salt count gc sc gl sl fc fl j

  one_so_far : OneChallenge gc
  one_so_far = first_of_one gc fc sl j.reads_listener (one_challenge y.hash y.stage (stored_for y.server.provider) y.server.nonce gl sl (seen x y salt count gc sc gl sl fc fl j))

  own_scram : (kind : ScramErrorKind) → IsScramCause x kind gc sc → kind ≡ scram.Signature → ⊥
  own_scram kind (by_challenge names text is m r) k = subst (λ (q : ScramErrorKind). IsServerFirstRefusal x.client.nonce text q) k r
  own_scram kind (by_final names first final signature text last (inl is) e s a r) k =
      own_outcome (mechanisms_body names) first final signature text kind (e ∙ ap (λ (u : SaslBody). mechanisms_body names ∷ challenge_body first ∷ u ∷ []) is) a r seen_so_far
  own_scram kind (by_final names first final signature text last (inr is) e s a r) k =
      one_so_far (mechanisms_body names) (challenge_body first) text [] (e ∙ ap (λ (u : SaslBody). mechanisms_body names ∷ challenge_body first ∷ u ∷ []) is)
  own_scram kind (by_no_signature names first is s) k =
      took_no_refusal x.stage x gc sc (mechanisms_body names ∷ challenge_body first ∷ []) [] sasl.Ok seen_so_far (sym is)

  -- it was told no refusal
  not_told : (front : List SaslBody) (body : SaslBody) → gc ≡ front ++ body ∷ [] → IsTold x y body → ⊥
  not_told front body is t =
      took_no_refusal x.stage x gc sc front [] sasl.Auth seen_so_far (ap (λ (b : SaslBody). front ++ b ∷ []) (sym t.body_is) ∙ sym is)

  own_cause : (front : List SaslBody) (body : SaslBody) → gc ≡ front ++ body ∷ [] → (e : NegotiationError) → client_causes x e gc sc → MayRefuse x y body e → ⊥
  own_cause front body is (Memory a) c m = m
  own_cause front body is (ProtocolHeaderMismatch h) c m = m
  own_cause front body is NotImplemented c m = m
  own_cause front body is (SaslError code payload) c m = not_told front body is m.2
  own_cause front body is (ScramError kind) c m = own_scram kind c m.0
  own_cause front body is (Io kind) c m = m
  own_cause front body is DecodeError c m = m
  own_cause front body is IllegalState c m = m
  own_cause front body is FramingError c m = m

  -- why it would have refused the last body
  last_cause : (e : NegotiationError) (front : List SaslBody) (body : SaslBody) → gc ≡ front ++ body ∷ [] → client_causes x e gc sc → MayRefuse x y body e
  last_cause e front body is c =
      client_cause x y salt count gc sc gl sl fc fl j front body fc
      (sym (append_assoc front (body ∷ []) fc) ∙ ap (λ (u : List SaslBody). u ++ fc) (sym is) ∙ j.reads_listener) e (subst (λ (u : List SaslBody). client_causes x e u sc) is c)

  pub nothing_refused : (e : NegotiationError) → client_causes x e gc sc → ⊥
  nothing_refused e c = elim (last_of gc) as (λ _. ⊥) [
    | inl none ↦ no_cause_yet x e gc sc none c
    | inr some ↦ own_cause some.0 some.1 some.2 e c (last_cause e some.0 some.1 some.2 c)
  ]
