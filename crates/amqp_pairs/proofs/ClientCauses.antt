-- Why a client refuses the next body of the listener to which it is joined.
use Rattle.std.proofs.Common.{◌≡◌, ◌≢◌, inl, inr, ℕ, true, false, List, [], ◌∷◌, ◌++◌, Option, Some, None, refl, ap, sym, ◌∙◌, subst, Contains}
use Rattle.std.proofs.lemmas.List.Elements.{Contains-push}
use Rattle.amqp_sasl_bodies.specs.declared.sasl_body.SaslBody.{SaslBody}
use Rattle.amqp_sasl_bodies.specs.declared.sasl_code.SaslCode.{SaslCode}
use Rattle.amqp_sasl_bodies.specs.declared.sasl_code.SaslCode.TheVariants as sasl
use Rattle.amqp_opening.specs.Authentication.{stored_for}
use Rattle.sasl_exchange.specs.declared.error.NegotiationError.{NegotiationError}
use Rattle.sasl_exchange.specs.declared.error.NegotiationError.TheVariants.{Memory, ProtocolHeaderMismatch, NotImplemented, SaslError, ScramError, Io, DecodeError, IllegalState, FramingError}
use Rattle.sasl_exchange.specs.declared.exchange.Turn.TheVariants.{Refuse}
use Rattle.sasl_scram.specs.declared.error.ScramErrorKind.{ScramErrorKind}
use Rattle.sasl_scram.specs.declared.error.ScramErrorKind.TheVariants as scram
use Rattle.sasl_scram.specs.declared.stored.StoredPassword.{StoredPassword}
use Rattle.sasl_scram.specs.declared.hash.ScramHash.{ScramHash}
use Rattle.sasl_scram.specs.Check.{ClientAnswers, ServerCheck}
use Rattle.sasl_exchange.specs.ScramClient.{ClientEnd, IsDisorder, IsScramCause, by_challenge, by_final, by_no_signature, client_causes, client_init, is_next}
use Rattle.sasl_scram.specs.Hashes.{digest_of, block_of, output_of, mechanism_of}
use Rattle.sasl_scram.specs.Refusals.{IsMemory, IsServerFirstRefusal, IsServerFinalRefusal}
use Rattle.sasl_exchange.specs.ScramBodies.{challenge_body, init_body, mechanisms_body, outcome_body, response_body}
use Rattle.sasl_exchange.specs.ScramServer.{ServerEnd, IsRefusalCause, server_turn}
use Rattle.sasl_scram.specs.States.{Account}
use Rattle.amqp_pairs.specs.Errors.{IsCollided, IsTold, MayRefuse}
use Rattle.amqp_pairs.specs.Joined.{AreJoined}
use Rattle.amqp_pairs.proofs.Answers.{client_answer, other_signature, signature_told}
use Rattle.amqp_pairs.proofs.Asked.{asked, told_check, IsChecked}
use Rattle.amqp_pairs.proofs.Bodies.{challenge_not_outcome, code_in, last_of_one, last_of_three, last_of_two, last_once, list_not_challenge, list_not_outcome, names_in, payload_in, text_in, told_not_none}
use Rattle.amqp_pairs.proofs.Challenges.{one_challenge}
use Rattle.amqp_pairs.proofs.Causes.{answer_of, refusal_cause, text_given}
use Rattle.amqp_pairs.proofs.ListenerViews.{ListenerView, listener_view}
use Rattle.amqp_pairs.proofs.Places.{IsSentChallenge, Place, at_challenge, at_list, at_outcome, at_refusal, challenged, place}
use Rattle.amqp_pairs.proofs.Refusals.{server_first_taken}

own_listed : (hash : ScramHash) (names : List (List ℕ)) → names ≡ mechanism_of hash ∷ [] → Contains names (mechanism_of hash)
own_listed hash names e = subst (λ (u : List (List ℕ)). Contains u (mechanism_of hash)) (sym e) (Contains-push [] (mechanism_of hash))

-- an outcome that refuses may come next
refusal_next : (front : List SaslBody) → is_next front (outcome_body sasl.Auth None) ≡ true
refusal_next [] = refl
refusal_next (a ∷ []) = refl
refusal_next (a ∷ b ∷ []) = refl
refusal_next (a ∷ b ∷ c ∷ []) = refl
refusal_next (a ∷ b ∷ c ∷ d ∷ more) = refl

module _ (x : ClientEnd) (y : ServerEnd Account) (salt : List ℕ) (count : ℕ) (gc sc gl sl fc fl : List SaslBody) (j : AreJoined x y salt count gc sc gl sl fc fl) where
  abbrev stored : List ℕ → Option StoredPassword
  stored = stored_for y.server.provider

  pub seen : ListenerView y.hash y.stage stored y.server.nonce gl sl
  seen = listener_view y gl sl j.ends.listener

  -- what the listener told, if it refuses
  pub told : (body : SaslBody) (code : SaslCode) → body ≡ outcome_body code None → server_turn y ≡ Refuse code → IsRefusalCause y.hash stored y.server.nonce code gl → IsTold x y body
  told body code is turn cause =
      let why = refusal_cause x y salt count gc sc gl sl fc fl j code gl fl j.reads_client (asked y.hash stored y.server.nonce y.stage gl sl seen) cause in
      record {
        body_is = is ∙ ap (λ (c : SaslCode). outcome_body c None) why.0;
        refuses = turn ∙ ap Refuse why.0;
        other = why.1;
      }

  -- a body that the listener sent, with those before it and those behind it
  module _ (front : List SaslBody) (body : SaslBody) (more : List SaslBody) (sent : front ++ body ∷ more ≡ sl) where
    here : Place y.hash y.stage stored y.server.nonce gl front body more
    here = place y.hash y.stage stored y.server.nonce gl sl front more body seen sent

    -- a list of mechanisms has the one that both have
    listed : (names : List (List ℕ)) → body ≡ mechanisms_body names → Place y.hash y.stage stored y.server.nonce gl front body more → Contains names (mechanism_of x.hash)
    listed names is (at_list b e) =
        subst (λ (k : ScramHash). Contains names (mechanism_of k)) (sym j.ends.same_hash) (own_listed y.hash names (ap names_in (sym is ∙ e)))
    listed names is (at_challenge a first b e) = absurd (list_not_challenge names first (sym is ∙ e))
    listed names is (at_outcome a b final c e) = absurd (list_not_outcome names sasl.Ok (Some final) (sym is ∙ e))
    listed names is (at_refusal code e t c m) = absurd (list_not_outcome names code None (sym is ∙ e))

    -- an outcome other than `Ok` is that of a listener that refuses
    refusing : (code : SaslCode) (payload : Option (List ℕ)) → body ≡ outcome_body code payload → code ≢ sasl.Ok → Place y.hash y.stage stored y.server.nonce gl front body more
        → (code ≡ sasl.Auth) × (payload ≡ None) × IsTold x y body
    refusing code payload is ne (at_list b e) = absurd (list_not_outcome (mechanism_of y.hash ∷ []) code payload (sym e ∙ is))
    refusing code payload is ne (at_challenge a first b e) = absurd (challenge_not_outcome first code payload (sym e ∙ is))
    refusing code payload is ne (at_outcome a b final c e) = absurd (ne (ap code_in (sym is ∙ e)))
    refusing code payload is ne (at_refusal other e t c m) =
        let w = told body other e t c in
        (ap code_in (sym is ∙ w.body_is), ap payload_in (sym is ∙ w.body_is), w)

    -- no body is out of order: an outcome that refuses may come at any time
    misplaced : is_next front body ≡ false → Place y.hash y.stage stored y.server.nonce gl front body more → ⊥
    misplaced not (at_list b e) =
        let at : is_next front body ≡ true = subst (λ (u : List SaslBody). is_next u body ≡ true) (sym b) (subst (λ (u : SaslBody). is_next [] u ≡ true) (sym e) refl) in
        let both : true ≡ false = sym at ∙ not in
        cc
    misplaced not (at_challenge a first b e) =
        let at : is_next front body ≡ true = subst (λ (u : List SaslBody). is_next u body ≡ true) (sym b) (subst (λ (u : SaslBody). is_next (a ∷ []) u ≡ true) (sym e) refl) in
        let both : true ≡ false = sym at ∙ not in
        cc
    misplaced not (at_outcome a c final b e) =
        let at : is_next front body ≡ true = subst (λ (u : List SaslBody). is_next u body ≡ true) (sym b) (subst (λ (u : SaslBody). is_next (a ∷ c ∷ []) u ≡ true) (sym e) refl) in
        let both : true ≡ false = sym at ∙ not in
        cc
    misplaced not (at_refusal code e t c m) =
        let at : is_next front body ≡ true = subst (λ (u : SaslBody). is_next front u ≡ true) (sym (told body code e t c).body_is) (refusal_next front) in
        let both : true ≡ false = sym at ∙ not in
        cc

    -- an outcome `Ok` has a signature
    signed_outcome : body ≡ outcome_body sasl.Ok None → Place y.hash y.stage stored y.server.nonce gl front body more → ⊥
    signed_outcome is (at_list b e) = list_not_outcome (mechanism_of y.hash ∷ []) sasl.Ok None (sym e ∙ is)
    signed_outcome is (at_challenge a first b e) = challenge_not_outcome first sasl.Ok None (sym e ∙ is)
    signed_outcome is (at_outcome a c final b e) = told_not_none sasl.Ok sasl.Ok final (sym e ∙ is)
    signed_outcome is (at_refusal code e t c m) =
        let w = told body code e t c in
        let codes : sasl.Ok ≡ sasl.Auth = ap code_in (sym is ∙ w.body_is) in
        cc

    stream : (before : List SaslBody) (b : SaslBody) → front ≡ before → body ≡ b → before ++ b ∷ more ≡ sl
    stream before b g e = ap (λ (u : List SaslBody). u ++ b ∷ more) (sym g) ∙ ap (λ (u : SaslBody). front ++ u ∷ more) (sym e) ∙ sent

    -- the challenge
    taken : (list : SaslBody) (text : List ℕ) (kind : ScramErrorKind) → front ++ body ∷ [] ≡ list ∷ challenge_body text ∷ [] → ¬ IsMemory kind
        → IsServerFirstRefusal x.client.nonce text kind → ⊥
    taken list text kind e m r =
        let at = last_of_two front body list (challenge_body text) e in
        let c : IsSentChallenge y.hash y.stage stored y.server.nonce gl text = challenged y.hash y.stage stored y.server.nonce gl sl list text more seen (stream (list ∷ []) (challenge_body text) at.0 at.1) in
        let is = text_given x y salt count gc sc gl sl fc fl j c.client_first c.hostname (c.rest ++ fl) (sym (ap (λ (u : List SaslBody). u ++ fl) c.given_is) ∙ j.reads_client) in
        let a = answer_of x y salt count gc sc gl sl fc fl j c.client_first c.challenge.user c.challenge.whole text c.challenge.keys is c.challenge.answers in
        server_first_taken x.client.nonce y.server.nonce salt count kind j.ends.nonce_is j.ends.own_is j.ends.salt_is j.ends.count_is m
        (subst (λ (t : List ℕ). IsServerFirstRefusal x.client.nonce t kind) a.first_is r)

    -- the outcome
    collided : (list : SaslBody) (first final signature text : List ℕ) (kind : ScramErrorKind) → front ++ body ∷ [] ≡ list ∷ challenge_body first ∷ outcome_body sasl.Ok (Some text) ∷ []
        → sc ≡ client_init x ∷ response_body final ∷ [] → ClientAnswers (digest_of x.hash) (block_of x.hash) (output_of x.hash) x.client.user x.client.password x.client.nonce first final signature
        → IsServerFinalRefusal (output_of x.hash) signature text kind → (kind ≡ scram.Signature) × IsCollided x y
    collided list first final signature text kind e s a r =
        let at = last_of_three front body list (challenge_body first) (outcome_body sasl.Ok (Some text)) e in
        let c : IsChecked y.hash stored y.server.nonce y.stage gl first text = told_check y.hash stored y.server.nonce y.stage gl sl list first text more seen
        (stream (list ∷ challenge_body first ∷ []) (outcome_body sasl.Ok (Some text)) at.0 at.1) in
        let whole : init_body (mechanism_of y.hash) (Some c.client_first) c.hostname ∷ response_body c.final ∷ fl ≡ sc = sym (ap (λ (u : List SaslBody). u ++ fl) c.given_is) ∙ j.reads_client in
        let is = text_given x y salt count gc sc gl sl fc fl j c.client_first c.hostname (response_body c.final ∷ fl) whole in
        let both : init_body (mechanism_of y.hash) (Some c.client_first) c.hostname ∷ response_body c.final ∷ fl ≡ client_init x ∷ response_body final ∷ [] = whole ∙ s in
        let seconds : response_body c.final ≡ response_body final = cc in
        let finals : c.final ≡ final = ap text_in seconds in
        let mine = answer_of x y salt count gc sc gl sl fc fl j c.client_first c.user c.check.whole_nonce first c.check.keys is c.check.answers in
        let answers = subst (λ (k : ScramHash). ClientAnswers (digest_of k) (block_of k) (output_of k) x.client.user x.client.password x.client.nonce first final signature) j.ends.same_hash a in
        let refused = subst (λ (k : ScramHash). IsServerFinalRefusal (output_of k) signature text kind) j.ends.same_hash r in
        let b = client_answer y.hash x.client.user x.client.password x.client.nonce y.server.nonce salt count first final signature j.ends.nonce_is j.ends.own_is j.ends.salt_is j.ends.count_is mine.first_is answers in
        let check = subst (λ (t : List ℕ). ServerCheck (digest_of y.hash) (block_of y.hash) (output_of y.hash) stored y.server.nonce c.user c.client_first first t text) finals c.check in
        let signature_is = signature_told y.hash y.server.provider x.client.user x.client.password x.client.nonce y.server.nonce salt count c.client_first c.user first final text first signature
        j.ends.stored_is j.ends.nonce_is j.ends.own_is is check refl b in
        let why = other_signature y.hash y.server.provider x.client.user x.client.password x.client.nonce y.server.nonce salt count first final text first signature kind signature_is refl b refused in
        (why.0, record { passes = c.passes; user = sym mine.user_is; password = why.1 })

    -- the third body is no challenge
    late : (a b : SaslBody) (text : List ℕ) → front ++ body ∷ [] ≡ a ∷ b ∷ challenge_body text ∷ [] → ⊥
    late a b text e =
        let at = last_of_three front body a b (challenge_body text) e in
        one_challenge y.hash y.stage stored y.server.nonce gl sl seen a b text more (sym (stream (a ∷ b ∷ []) (challenge_body text) at.0 at.1))

    scram_cause : (kind : ScramErrorKind) → IsScramCause x kind (front ++ body ∷ []) sc → (kind ≡ scram.Signature) × IsCollided x y
    scram_cause kind (by_challenge names text e m r) = absurd (taken (mechanisms_body names) text kind e m r)
    scram_cause kind (by_final names first final signature text last (inl is) e s a r) =
        collided (mechanisms_body names) first final signature text kind (e ∙ ap (λ (u : SaslBody). mechanisms_body names ∷ challenge_body first ∷ u ∷ []) is) s a r
    scram_cause kind (by_final names first final signature text last (inr is) e s a r) =
        absurd (late (mechanisms_body names) (challenge_body first) text (e ∙ ap (λ (u : SaslBody). mechanisms_body names ∷ challenge_body first ∷ u ∷ []) is))
    scram_cause kind (by_no_signature names first e k) =
        absurd (signed_outcome (last_of_three front body (mechanisms_body names) (challenge_body first) (outcome_body sasl.Ok None) e).1 here)

    disorder : IsDisorder (front ++ body ∷ []) → ⊥
    disorder d =
        let at = last_once front d.before body d.body d.given_is in
        let not : is_next front body ≡ false =
        subst (λ (u : List SaslBody). is_next u body ≡ false) (sym at.0) (subst (λ (u : SaslBody). is_next d.before u ≡ false) (sym at.1) d.not_next) in
        misplaced not here

    -- the client refuses only what a listener tells that refuses another account, or the signature of another password
    pub client_cause : (e : NegotiationError) → client_causes x e (front ++ body ∷ []) sc → MayRefuse x y body e
    client_cause (Memory a) c = c
    client_cause (ProtocolHeaderMismatch h) c = c
    client_cause NotImplemented (names, is, not) = not (listed names (last_of_one front body (mechanisms_body names) is).1 here)
    client_cause (SaslError code payload) (before, is, ne) = refusing code payload (last_once front before body (outcome_body code payload) is).1 ne here
    client_cause (ScramError kind) c = scram_cause kind c
    client_cause (Io kind) c = c
    client_cause DecodeError c = c
    client_cause IllegalState c = disorder c
    client_cause FramingError c = c
