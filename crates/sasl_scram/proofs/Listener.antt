-- What a listener checked, in words of its past.
use Rattle.std.proofs.Common.{◌≡◌, ℕ, List, take, drop, Option, Some, sym, subst, ◌∙◌}
use Rattle.sasl_scram.specs.declared.error.ScramErrorKind.{ScramErrorKind}
use Rattle.sasl_scram.specs.declared.server.Challenge.{Challenge}
use Rattle.sasl_scram.specs.declared.server.ServerPhase.{ServerPhase}
use Rattle.sasl_scram.specs.declared.server.ServerPhase.TheVariants.{Challenged}
use Rattle.sasl_scram.specs.declared.stored.StoredPassword.{StoredPassword}
use Rattle.sasl_scram.specs.Check.{ServerAnswers, ServerCheck}
use Rattle.sasl_scram.specs.Parts.{IsProved}
use Rattle.sasl_scram.specs.Refusals.{IsClientFinalRefusal}
use Rattle.sasl_scram.specs.States.{ForChallenged, IsServerPhase}
use Rattle.sasl_scram.proofs.Readers.{client_first_split}

-- the keys of a user are one
keys_once : (stored : List ℕ → Option StoredPassword) (user : List ℕ) (a b : StoredPassword) → stored user ≡ Some a
    → stored user ≡ Some b → b ≡ a
keys_once stored user a b e f = let same : Some b ≡ Some a = sym f ∙ e in cc

pub checked : (hash : List ℕ → List ℕ) (block output : ℕ) (stored : List ℕ → Option StoredPassword) (nonce : List ℕ)
    (phase : ServerPhase) (c : Challenge) (keys : StoredPassword) (text reply : List ℕ) → phase ≡ Challenged c
    → IsServerPhase stored nonce phase → stored c.user ≡ Some keys
    → IsProved hash block output keys.stored_key keys.server_key (take 3 c.client_first) (drop 3 c.client_first) c.server_first c.nonce text reply
    → ForChallenged phase (λ c'. ServerCheck hash block output stored nonce c'.user c'.client_first c'.server_first text reply)
checked hash block output stored nonce phase c keys text reply is holds found proved =
    let G : ServerPhase → Type 0 = λ p. IsServerPhase stored nonce p
    → ForChallenged p (λ c'. ServerCheck hash block output stored nonce c'.user c'.client_first c'.server_first text reply) in
    let at_challenge : G (Challenged c) = λ x.
    let split = client_first_split c.client_first x.1.header x.1.bare _ x.1.client_nonce x.1.client_first_is in
    let K : StoredPassword → Type 0 = λ k. IsProved hash block output k.stored_key k.server_key (take 3 c.client_first) (drop 3 c.client_first) c.server_first c.nonce text reply in
    let H : List ℕ → Type 0 = λ h. IsProved hash block output x.0.stored_key x.0.server_key h (drop 3 c.client_first) c.server_first c.nonce text reply in
    let B : List ℕ → Type 0 = λ b. IsProved hash block output x.0.stored_key x.0.server_key x.1.header b c.server_first c.nonce text reply in
    let p = subst B split.1 (subst H split.0 (subst K (keys_once stored c.user x.0 keys x.1.keys_are found) proved)) in
    record {
      whole_nonce = c.nonce;
      keys = x.0;
      answers = x.1;
      client_final_bare = p.client_final_bare;
      proof = p.proof;
      client_final_is = p.client_final_is;
      proof_length = p.proof_length;
      proof_holds = p.proof_holds;
      server_final_is = p.server_final_is;
    } in
    subst G (sym is) at_challenge holds

pub refused : (hash : List ℕ → List ℕ) (block output : ℕ) (stored : List ℕ → Option StoredPassword) (nonce : List ℕ)
    (phase : ServerPhase) (c : Challenge) (keys : StoredPassword) (text : List ℕ) (error : ScramErrorKind) → phase ≡ Challenged c
    → IsServerPhase stored nonce phase → stored c.user ≡ Some keys
    → IsClientFinalRefusal hash block output keys.stored_key (take 3 c.client_first) (drop 3 c.client_first) c.server_first c.nonce text error
    → ForChallenged phase (λ c'. (k : StoredPassword)
    × (answers : ServerAnswers stored nonce c'.client_first c'.user c'.nonce c'.server_first k)
    × IsClientFinalRefusal hash block output k.stored_key answers.header answers.bare c'.server_first c'.nonce text error)
refused hash block output stored nonce phase c keys text error is holds found why =
    let G : ServerPhase → Type 0 = λ p. IsServerPhase stored nonce p
    → ForChallenged p (λ c'. (k : StoredPassword)
    × (answers : ServerAnswers stored nonce c'.client_first c'.user c'.nonce c'.server_first k)
    × IsClientFinalRefusal hash block output k.stored_key answers.header answers.bare c'.server_first c'.nonce text error) in
    let at_challenge : G (Challenged c) = λ x.
    let split = client_first_split c.client_first x.1.header x.1.bare _ x.1.client_nonce x.1.client_first_is in
    let K : StoredPassword → Type 0 = λ k. IsClientFinalRefusal hash block output k.stored_key (take 3 c.client_first) (drop 3 c.client_first) c.server_first c.nonce text error in
    let H : List ℕ → Type 0 = λ h. IsClientFinalRefusal hash block output x.0.stored_key h (drop 3 c.client_first) c.server_first c.nonce text error in
    let B : List ℕ → Type 0 = λ b. IsClientFinalRefusal hash block output x.0.stored_key x.1.header b c.server_first c.nonce text error in
    (x.0, x.1, subst B split.1 (subst H split.0 (subst K (keys_once stored c.user x.0 keys x.1.keys_are found) why))) in
    subst G (sym is) at_challenge holds
