-- Two ends with SCRAM are joined, and stay so.
use Rattle.std.proofs.Common.{◌≡◌, ℕ, List, [], ◌∷◌, ◌++◌, Option, Some, refl, ap, sym, ◌∙◌, subst, append_assoc}
use Rattle.amqp_sasl_bodies.specs.declared.sasl_body.SaslBody.{SaslBody}
use Rattle.amqp_opening.specs.Authentication.{stored_for}
use Rattle.base64.specs.GeneralPurpose.{IsBytes}
use Rattle.sasl_scram.specs.Check.{stored_of}
use Rattle.sasl_exchange.specs.ScramClient.{ClientEnd, ClientSame, client_begun, client_holds}
use Rattle.sasl_scram.specs.declared.hash.ScramHash.{ScramHash}
use Rattle.sasl_scram.specs.Hashes.{digest_of, block_of, output_of}
use Rattle.sasl_scram.specs.Profile.{IsAllowedUser, IsAllowedCount, IsNonce}
use Rattle.sasl_exchange.specs.ScramServer.{ServerEnd, ServerSame, server_begun, server_holds}
use Rattle.sasl_scram.specs.States.{Account}
use Rattle.amqp_pairs.specs.Joined.{AreJoined}

pub begun : (hash : ScramHash) (user password nonce : List ℕ) (hostname : Option (List ℕ)) (account : Account) (own salt : List ℕ) (count : ℕ)
    → IsAllowedUser user → IsNonce nonce → IsNonce own
    → account.stored ≡ Some (stored_of (digest_of hash) (block_of hash) (output_of hash) account.password salt count) → IsBytes salt → IsAllowedCount count
    → AreJoined (client_begun hash user password nonce hostname) (server_begun hash account own) salt count [] [] [] [] [] []
begun hash user password nonce hostname account own salt count u n o s b c = record {
  ends = record {
    same_hash = refl;
    user_is = u;
    nonce_is = n;
    own_is = o;
    stored_is = s;
    salt_is = b;
    count_is = c;
    client = (refl, refl);
    listener = (refl, refl);
  };
  reads_listener = refl;
  reads_client = refl;
}

-- a body that is sent is behind those in flight
pub sent_behind : (given flight sent : List SaslBody) (body : SaslBody) → given ++ flight ≡ sent → given ++ (flight ++ body ∷ []) ≡ sent ++ body ∷ []
sent_behind given flight sent body e = sym (append_assoc given flight (body ∷ [])) ∙ ap (λ (u : List SaslBody). u ++ body ∷ []) e

-- a body that is given is no more in flight
pub given_next : (given flight sent : List SaslBody) (body : SaslBody) → given ++ body ∷ flight ≡ sent → (given ++ body ∷ []) ++ flight ≡ sent
given_next given flight sent body e = append_assoc given (body ∷ []) flight ∙ e

module _ (x x' : ClientEnd) (y : ServerEnd Account) (salt : List ℕ) (count : ℕ) (gc sc gl sl fc fl : List SaslBody) (body : SaslBody) where
  pub client_sends : AreJoined x y salt count gc sc gl sl fc fl → ClientSame x x' → client_holds x' gc (sc ++ body ∷ [])
      → AreJoined x' y salt count gc (sc ++ body ∷ []) gl sl fc (fl ++ body ∷ [])
  client_sends j s held = record {
    ends = record {
      same_hash = sym s.hash ∙ j.ends.same_hash;
      user_is = subst (λ (u : List ℕ). IsAllowedUser u) s.user j.ends.user_is;
      nonce_is = subst (λ (n : List ℕ). IsNonce n) s.nonce j.ends.nonce_is;
      own_is = j.ends.own_is;
      stored_is = j.ends.stored_is;
      salt_is = j.ends.salt_is;
      count_is = j.ends.count_is;
      client = held;
      listener = j.ends.listener;
    };
    reads_listener = j.reads_listener;
    reads_client = sent_behind gl fl sc body j.reads_client;
  }

  pub client_takes : AreJoined x y salt count gc sc gl sl (body ∷ fc) fl → ClientSame x x' → client_holds x' (gc ++ body ∷ []) sc
      → AreJoined x' y salt count (gc ++ body ∷ []) sc gl sl fc fl
  client_takes j s held = record {
    ends = record {
      same_hash = sym s.hash ∙ j.ends.same_hash;
      user_is = subst (λ (u : List ℕ). IsAllowedUser u) s.user j.ends.user_is;
      nonce_is = subst (λ (n : List ℕ). IsNonce n) s.nonce j.ends.nonce_is;
      own_is = j.ends.own_is;
      stored_is = j.ends.stored_is;
      salt_is = j.ends.salt_is;
      count_is = j.ends.count_is;
      client = held;
      listener = j.ends.listener;
    };
    reads_listener = given_next gc fc sl body j.reads_listener;
    reads_client = j.reads_client;
  }

-- ---- the listener

-- what is kept of the password
abbrev IsStored : ServerEnd Account → List ℕ → ℕ → Type 0
IsStored y salt count = y.server.provider.stored ≡ Some (stored_of (digest_of y.hash) (block_of y.hash) (output_of y.hash) y.server.provider.password salt count)

module _ (x : ClientEnd) (y y' : ServerEnd Account) (salt : List ℕ) (count : ℕ) (gc sc gl sl fc fl : List SaslBody) (body : SaslBody) where
  stored_same : IsStored y salt count → ServerSame y y' → IsStored y' salt count
  stored_same e s =
      subst (λ (a : Account). a.stored ≡ Some (stored_of (digest_of y'.hash) (block_of y'.hash) (output_of y'.hash) a.password salt count)) s.provider
      (subst (λ (k : ScramHash). y.server.provider.stored ≡ Some (stored_of (digest_of k) (block_of k) (output_of k) y.server.provider.password salt count)) s.hash e)

  pub listener_sends : AreJoined x y salt count gc sc gl sl fc fl → ServerSame y y' → server_holds stored_for y' gl (sl ++ body ∷ [])
      → AreJoined x y' salt count gc sc gl (sl ++ body ∷ []) (fc ++ body ∷ []) fl
  listener_sends j s held = record {
    ends = record {
      same_hash = j.ends.same_hash ∙ s.hash;
      user_is = j.ends.user_is;
      nonce_is = j.ends.nonce_is;
      own_is = subst (λ (n : List ℕ). IsNonce n) s.nonce j.ends.own_is;
      stored_is = stored_same j.ends.stored_is s;
      salt_is = j.ends.salt_is;
      count_is = j.ends.count_is;
      client = j.ends.client;
      listener = held;
    };
    reads_listener = sent_behind gc fc sl body j.reads_listener;
    reads_client = j.reads_client;
  }

  pub listener_takes : AreJoined x y salt count gc sc gl sl fc (body ∷ fl) → ServerSame y y' → server_holds stored_for y' (gl ++ body ∷ []) sl
      → AreJoined x y' salt count gc sc (gl ++ body ∷ []) sl fc fl
  listener_takes j s held = record {
    ends = record {
      same_hash = j.ends.same_hash ∙ s.hash;
      user_is = j.ends.user_is;
      nonce_is = j.ends.nonce_is;
      own_is = subst (λ (n : List ℕ). IsNonce n) s.nonce j.ends.own_is;
      stored_is = stored_same j.ends.stored_is s;
      salt_is = j.ends.salt_is;
      count_is = j.ends.count_is;
      client = j.ends.client;
      listener = held;
    };
    reads_listener = j.reads_listener;
    reads_client = given_next gl fl sc body j.reads_client;
  }
