-- Why one of two joined ends refuses a body of the other.
use Rattle.std.proofs.Common.{◌≡◌, ◌≢◌, inl, inr, ℕ, true, false, List, [], ◌∷◌, ◌++◌, Option, Some, None, refl, ap, sym, ◌∙◌, subst, append_assoc}
use Rattle.amqp_sasl_bodies.specs.declared.sasl_body.SaslBody.{SaslBody}
use Rattle.amqp_sasl_bodies.specs.declared.sasl_code.SaslCode.{SaslCode}
use Rattle.amqp_sasl_bodies.specs.declared.sasl_code.SaslCode.TheVariants as sasl
use Rattle.amqp_opening.specs.Authentication.{stored_for}
use Rattle.sasl_scram.specs.declared.error.ScramErrorKind.{ScramErrorKind}
use Rattle.sasl_scram.specs.declared.stored.StoredPassword.{StoredPassword}
use Rattle.sasl_scram.specs.declared.hash.ScramHash.{ScramHash}
use Rattle.sasl_scram.specs.Check.{stored_of, ClientAnswers, ServerAnswers}
use Rattle.sasl_exchange.specs.ScramClient.{ClientEnd, client_init}
use Rattle.sasl_scram.specs.Hashes.{digest_of, block_of, output_of, mechanism_of}
use Rattle.sasl_scram.specs.Refusals.{IsMemory, IsClientFirstRefusal, IsClientFinalRefusal}
use Rattle.sasl_exchange.specs.ScramBodies.{challenge_body, init_body, response_body}
use Rattle.sasl_exchange.specs.ScramServer.{ServerEnd, IsRefusalCause, by_client_first, by_client_final, by_mechanism, by_no_response, by_order, by_other_body, is_next, is_of_client, own_mechanisms}
use Rattle.sasl_scram.specs.States.{Account}
use Rattle.sasl_scram.specs.Texts.{client_first_of}
use Rattle.amqp_pairs.specs.Joined.{AreJoined, IsOtherAccount}
use Rattle.amqp_pairs.proofs.Accounts.{missing}
use Rattle.amqp_pairs.proofs.Answers.{IsAnswerTo, answer_to, client_answer, other_password}
use Rattle.amqp_pairs.proofs.Asked.{Asked, IsAsked}
use Rattle.amqp_pairs.proofs.Bodies.{text_in, payload_in, mechanism_in, in_none, in_some}
use Rattle.amqp_pairs.proofs.Challenges.{first_of_one, one_challenge}
use Rattle.amqp_pairs.proofs.ClientViews.{ClientSent, ClientView, nothing, init, response, IsAnswered, client_view, client_sent}
use Rattle.amqp_pairs.proofs.ListenerViews.{listener_view}
use Rattle.amqp_pairs.proofs.Refusals.{first_refused}

-- ---- what a client sent, as the listener is given it

-- the first body
pub first_sent : (x : ClientEnd) (given sent : List SaslBody) (body : SaslBody) (rest : List SaslBody) → ClientSent x given sent → body ∷ rest ≡ sent → body ≡ client_init x
first_sent x given sent body rest (nothing s) e = let both : body ∷ rest ≡ [] = e ∙ s in cc
first_sent x given sent body rest (init s) e = let both : body ∷ rest ≡ client_init x ∷ [] = e ∙ s in cc
first_sent x given sent body rest (response list first final more s g a) e = let both : body ∷ rest ≡ client_init x ∷ response_body final ∷ [] = e ∙ s in cc

-- a response, and the server first that it answers
pub record IsResponse (x : ClientEnd) (given : List SaslBody) (text : List ℕ) : Type 0 where
  pub list : SaslBody
  pub first : List ℕ
  pub final : List ℕ
  pub more : List SaslBody
  pub given_is : given ≡ list ∷ challenge_body first ∷ more
  pub text_is : text ≡ final
  pub answered : IsAnswered x first final

pub second_sent : (x : ClientEnd) (given sent : List SaslBody) (a : SaslBody) (text : List ℕ) (rest : List SaslBody) → ClientSent x given sent → a ∷ response_body text ∷ rest ≡ sent → IsResponse x given text
second_sent x given sent a text rest (nothing s) e = let both : a ∷ response_body text ∷ rest ≡ [] = e ∙ s in cc
second_sent x given sent a text rest (init s) e = let both : a ∷ response_body text ∷ rest ≡ client_init x ∷ [] = e ∙ s in cc
second_sent x given sent a text rest (response list first final more s g b) e =
    let both : a ∷ response_body text ∷ rest ≡ client_init x ∷ response_body final ∷ [] = e ∙ s in
    let seconds : response_body text ≡ response_body final = cc in
    record { list = list; first = first; final = final; more = more; given_is = g; text_is = ap text_in seconds; answered = b }

-- each body is one of a client, in its place
abbrev InOrder : List SaslBody → SaslBody → Type 0
InOrder before body = (is_of_client body ≡ true) × (is_next before body ≡ true)

init_in_order : (x : ClientEnd) (before : List SaslBody) (body : SaslBody) → before ≡ [] → body ≡ client_init x → InOrder before body
init_in_order x before body b e =
    subst (λ (u : List SaslBody). InOrder u body) (sym b) (subst (λ (u : SaslBody). InOrder [] u) (sym e) (refl, refl))

response_in_order : (a : SaslBody) (text : List ℕ) (before : List SaslBody) (body : SaslBody) → before ≡ a ∷ [] → body ≡ response_body text → InOrder before body
response_in_order a text before body b e =
    subst (λ (u : List SaslBody). InOrder u body) (sym b) (subst (λ (u : SaslBody). InOrder (a ∷ []) u) (sym e) (refl, refl))

sent_in_order : (x : ClientEnd) (given sent before rest : List SaslBody) (body : SaslBody) → ClientSent x given sent → before ++ body ∷ rest ≡ sent → InOrder before body
sent_in_order x given sent before rest body (nothing s) e = absurd (in_none before rest body (e ∙ s))
sent_in_order x given sent before rest body (init s) e = elim (in_some before rest body (client_init x) [] (e ∙ s)) as (λ _. InOrder before body) [
  | inl here ↦ init_in_order x before body here.0 here.1
  | inr there ↦ absurd (in_none there.0 rest body there.2)
]
sent_in_order x given sent before rest body (response list first final more s g a) e =
    elim (in_some before rest body (client_init x) (response_body final ∷ []) (e ∙ s)) as (λ _. InOrder before body) [
      | inl here ↦ init_in_order x before body here.0 here.1
      | inr there ↦ elim (in_some there.0 rest body (response_body final) [] there.2) as (λ _. InOrder before body) [
        | inl now ↦ response_in_order (client_init x) final before body (there.1 ∙ ap (λ (u : List SaslBody). client_init x ∷ u) now.0) now.1
        | inr late ↦ absurd (in_none late.0 rest body late.2)
      ]
    ]

-- ---- the listener

module _ (x : ClientEnd) (y : ServerEnd Account) (salt : List ℕ) (count : ℕ) (gc sc gl sl fc fl : List SaslBody) (j : AreJoined x y salt count gc sc gl sl fc fl) where
  pub client_seen : ClientView x.stage x gc sc
  client_seen =
      client_view x.stage x gc sc
      (first_of_one gc fc sl j.reads_listener (one_challenge y.hash y.stage (stored_for y.server.provider) y.server.nonce gl sl (listener_view y gl sl j.ends.listener))) j.ends.client

  pub sent_by_client : ClientSent x gc sc
  sent_by_client = client_sent x.stage x gc sc client_seen

  -- an init that was given, or will be
  pub init_given : (name : List ℕ) (first hostname : Option (List ℕ)) (rest : List SaslBody) → init_body name first hostname ∷ rest ≡ sc
      → (name ≡ mechanism_of y.hash) × (first ≡ Some (client_first_of x.client.user x.client.nonce))
  init_given name first hostname rest e =
      let same = first_sent x gc sc (init_body name first hostname) rest sent_by_client e in
      (ap mechanism_in same ∙ ap mechanism_of j.ends.same_hash, ap payload_in same)

  pub text_given : (text : List ℕ) (hostname : Option (List ℕ)) (rest : List SaslBody) → init_body (mechanism_of y.hash) (Some text) hostname ∷ rest ≡ sc
      → text ≡ client_first_of x.client.user x.client.nonce
  text_given text hostname rest e =
      let same = first_sent x gc sc (init_body (mechanism_of y.hash) (Some text) hostname) rest sent_by_client e in
      ap text_in same

  abbrev stored : List ℕ → Option StoredPassword
  stored = stored_for y.server.provider

  abbrev keys_of : StoredPassword
  keys_of = stored_of (digest_of y.hash) (block_of y.hash) (output_of y.hash) y.server.provider.password salt count

  other_user : (text : List ℕ) (hostname : Option (List ℕ)) (rest : List SaslBody) (kind : ScramErrorKind) → init_body (mechanism_of y.hash) (Some text) hostname ∷ rest ≡ sc
      → ¬ IsMemory kind → IsClientFirstRefusal stored text kind → x.client.user ≢ y.server.provider.user
  other_user text hostname rest kind e m r =
      missing y.server.provider x.client.user keys_of j.ends.stored_is
      (first_refused stored x.client.user x.client.nonce kind j.ends.user_is j.ends.nonce_is m (subst (λ (t : List ℕ). IsClientFirstRefusal stored t kind) (text_given text hostname rest e) r))

  -- a challenge that the listener sent, and that the client answered
  pub answer_of : (client_first name whole first : List ℕ) (keys : StoredPassword) → client_first ≡ client_first_of x.client.user x.client.nonce
      → (a : ServerAnswers stored y.server.nonce client_first name whole first keys)
      → IsAnswerTo y.hash y.server.provider y.server.nonce x.client.user x.client.nonce salt count a.header a.bare name whole first keys
  answer_of client_first name whole first keys is a =
      answer_to y.hash y.server.provider y.server.nonce x.client.user x.client.nonce salt count client_first name whole first keys j.ends.stored_is j.ends.nonce_is is a

  same_first : (list : SaslBody) (first other : List ℕ) (more others : List SaslBody) → gc ≡ list ∷ challenge_body first ∷ more → sl ≡ own_mechanisms y.hash ∷ challenge_body other ∷ others → first ≡ other
  same_first list first other more others g s =
      let left : gc ++ fc ≡ list ∷ challenge_body first ∷ (more ++ fc) = ap (λ (u : List SaslBody). u ++ fc) g in
      let both : list ∷ challenge_body first ∷ (more ++ fc) ≡ own_mechanisms y.hash ∷ challenge_body other ∷ others = sym left ∙ j.reads_listener ∙ s in
      let seconds : challenge_body first ≡ challenge_body other = cc in
      ap text_in seconds

  other_final : (client_first name whole first text : List ℕ) (hostname : Option (List ℕ)) (keys : StoredPassword) (rest : List SaslBody) (kind : ScramErrorKind)
      → init_body (mechanism_of y.hash) (Some client_first) hostname ∷ response_body text ∷ rest ≡ sc → IsAsked y.hash stored y.server.nonce client_first sl
      → (a : ServerAnswers stored y.server.nonce client_first name whole first keys) → ¬ IsMemory kind
      → IsClientFinalRefusal (digest_of y.hash) (block_of y.hash) (output_of y.hash) keys.stored_key a.header a.bare first whole text kind → x.client.password ≢ y.server.provider.password
  other_final client_first name whole first text hostname keys rest kind e asked a m r =
      let is : client_first ≡ client_first_of x.client.user x.client.nonce = text_given client_first hostname (response_body text ∷ rest) e in
      let told = second_sent x gc sc (init_body (mechanism_of y.hash) (Some client_first) hostname) text rest sent_by_client e in
      let mine = answer_of client_first name whole first keys is a in
      let theirs = answer_of client_first asked.challenge.user asked.challenge.whole asked.first asked.challenge.keys is asked.challenge.answers in
      let read : told.first ≡ asked.first = same_first told.list told.first asked.first told.more asked.more told.given_is asked.sent_is in
      let answers = subst (λ (k : ScramHash). ClientAnswers (digest_of k) (block_of k) (output_of k) x.client.user x.client.password x.client.nonce told.first told.final told.answered.signature)
      j.ends.same_hash told.answered.answers in
      let c = client_answer y.hash x.client.user x.client.password x.client.nonce y.server.nonce salt count told.first told.final told.answered.signature
      j.ends.nonce_is j.ends.own_is j.ends.salt_is j.ends.count_is (read ∙ theirs.first_is) answers in
      other_password y.hash y.server.provider x.client.user x.client.password x.client.nonce y.server.nonce salt count a.header a.bare name whole first told.first told.final told.answered.signature text keys kind
      j.ends.nonce_is j.ends.own_is mine (read ∙ theirs.first_is ∙ sym mine.first_is) c told.text_is m r

  -- the listener refuses only another account
  pub refusal_cause : (code : SaslCode) (given rest : List SaslBody) → given ++ rest ≡ sc → Asked y.hash stored y.server.nonce given sl → IsRefusalCause y.hash stored y.server.nonce code given
      → (code ≡ sasl.Auth) × IsOtherAccount x y.server.provider
  refusal_cause code given rest e asked (by_client_first text hostname kind g m r c) =
      (c, inl (other_user text hostname rest kind (sym (ap (λ (u : List SaslBody). u ++ rest) g) ∙ e) m r))
  refusal_cause code given rest e asked (by_client_final client_first name whole first text hostname keys answers kind g m r c) =
      (c, inr (other_final client_first name whole first text hostname keys rest kind (sym (ap (λ (u : List SaslBody). u ++ rest) g) ∙ e) (asked client_first hostname text g) answers m r))
  refusal_cause code given rest e asked (by_mechanism name first hostname g ne c) =
      absurd (ne (init_given name first hostname rest (sym (ap (λ (u : List SaslBody). u ++ rest) g) ∙ e)).0)
  refusal_cause code given rest e asked (by_no_response name hostname g c) =
      let none : None ≡ Some (client_first_of x.client.user x.client.nonce) = (init_given name None hostname rest (sym (ap (λ (u : List SaslBody). u ++ rest) g) ∙ e)).1 in
      cc
  refusal_cause code given rest e asked (by_order before body g is not c) =
      let at = sent_in_order x gc sc before rest body sent_by_client (sym (append_assoc before (body ∷ []) rest) ∙ sym (ap (λ (u : List SaslBody). u ++ rest) g) ∙ e) in
      let both : true ≡ false = sym at.1 ∙ not in
      cc
  refusal_cause code given rest e asked (by_other_body before body g not c) =
      let at = sent_in_order x gc sc before rest body sent_by_client (sym (append_assoc before (body ∷ []) rest) ∙ sym (ap (λ (u : List SaslBody). u ++ rest) g) ∙ e) in
      let both : true ≡ false = sym at.0 ∙ not in
      cc
