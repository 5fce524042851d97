-- The two ends of an exchange that a client and a listener asked for, by what they asked for.
use Rattle.std.proofs.Common.{◌≡◌, ◌≢◌, ◌⊎◌, inl, inr, ℕ, List, Option, Some, sym, ap, ◌∙◌, subst}
use Rattle.std.proofs.lemmas.Option.{same_Some}
use Rattle.amqp_sasl_bodies.specs.declared.sasl_body.SaslBody.{SaslBody}
use Rattle.sasl_exchange.specs.declared.client.ClientExchange.{ClientExchange}
use Rattle.sasl_exchange.specs.declared.client.ClientExchange.TheVariants as client
use Rattle.sasl_exchange.specs.declared.init_server.InitCheck.{InitCheck}
use Rattle.sasl_exchange.specs.declared.init_server.InitCheck.TheVariants as check
use Rattle.sasl_exchange.specs.declared.server.ServerExchange.TheVariants as server
use Rattle.sasl_scram.specs.declared.hash.ScramHash.{ScramHash}
use Rattle.sasl_scram.specs.declared.stored.StoredPassword.{StoredPassword}
use Rattle.sasl_exchange.specs.AnyClient.{any_client_holds}
use Rattle.sasl_exchange.specs.AnyServer.{any_server_holds}
use Rattle.sasl_scram.specs.Check.{stored_of}
use Rattle.sasl_exchange.specs.ScramClient.{ClientEnd, client_holds}
use Rattle.sasl_exchange.specs.Credentials.{Credentials, mechanism_in}
use Rattle.sasl_exchange.specs.Credentials as own
use Rattle.sasl_scram.specs.Hashes.{digest_of, block_of, output_of, mechanism_of}
use Rattle.sasl_exchange.specs.InitClient.{InitClientEnd}
use Rattle.sasl_exchange.specs.InitServer.{InitServerEnd, check_name}
use Rattle.sasl_scram.specs.Profile.{IsAllowedUser, IsNonce}
use Rattle.sasl_exchange.specs.ScramServer.{ServerEnd, server_holds}
use Rattle.sasl_scram.specs.States.{Account}
use Rattle.amqp_opening.specs.Admission.{Admission, account_by, mechanism_by}
use Rattle.amqp_opening.specs.Admission as admitted
use Rattle.amqp_opening.specs.Authentication.{account_in, plain_account, IsClientFor, IsClientMade, IsListenerFor, IsListenerMade, passwords_for, stored_for}
use Rattle.amqp_pairs.specs.InitEnds.{AreInitEnds, HasOtherAccount}
use Rattle.amqp_pairs.specs.Joined.{AreEnds}
use Rattle.amqp_pairs.specs.Mechanisms.{Listening, client_name, listener_name}
use Rattle.amqp_pairs.proofs.Names.{name_once, scram_not_anonymous, scram_not_plain, anonymous_not_plain}

-- ---- the names of their mechanisms are those that were asked for

pub client_named : (c : Credentials) (hostname : Option (List ℕ)) (x : ClientExchange) → IsClientMade c hostname x → client_name x ≡ mechanism_in c
client_named own.anonymous hostname (client.Scram x) m = absurd m
client_named own.anonymous hostname (client.Init x) m = m.mechanism_is
client_named (own.plain user password) hostname (client.Scram x) m = absurd m
client_named (own.plain user password) hostname (client.Init x) m = m.mechanism_is
client_named (own.scram hash user password nonce) hostname (client.Scram x) m = ap mechanism_of m.hash_is
client_named (own.scram hash user password nonce) hostname (client.Init x) m = absurd m

pub listener_named : (d : Admission) (y : Listening) → IsListenerMade d y → listener_name y ≡ mechanism_by d
listener_named admitted.anonymous (server.Scram y) n = absurd n
listener_named admitted.anonymous (server.Init y) n = ap (λ (k : InitCheck Account). check_name k) n.check_is
listener_named (admitted.plain user password) (server.Scram y) n = absurd n
listener_named (admitted.plain user password) (server.Init y) n = ap (λ (k : InitCheck Account). check_name k) n.check_is
listener_named (admitted.scram hash user password salt iterations nonce) (server.Scram y) n = ap mechanism_of n.hash_is
listener_named (admitted.scram hash user password salt iterations nonce) (server.Init y) n = absurd n

-- ---- the ends of one mechanism

-- two ends of SCRAM, with the accounts that were asked for
pub record AreScramEnds (c : Credentials) (d : Admission) (x : ClientEnd) (y : ServerEnd Account) (gc sc gl sl : List SaslBody) : Type 0 where
  pub salt : List ℕ
  pub count : ℕ
  pub ends : AreEnds x y salt count gc sc gl sl
  pub account : account_in c ≡ Some (x.client.user, x.client.password)
  pub far_account : account_by d ≡ Some (y.server.provider.user, y.server.provider.password)

-- two ends whose client says all in its init: where their accounts differ, so do those that were asked for
pub record AreSayingEnds (c : Credentials) (d : Admission) (x : InitClientEnd) (y : InitServerEnd Account) (gc sc gl sl : List SaslBody) : Type 0 where
  pub ends : AreInitEnds c x y gc sc gl sl
  pub apart : HasOtherAccount c y.check → account_in c ≢ account_by d

abbrev pub AreEndsOf : Credentials → Admission → ClientExchange → Listening → List SaslBody → List SaslBody → List SaslBody → List SaslBody → Type 0
AreEndsOf c d (client.Scram x) (server.Scram y) gc sc gl sl = AreScramEnds c d x y gc sc gl sl
AreEndsOf c d (client.Scram x) (server.Init y) gc sc gl sl = ⊥
AreEndsOf c d (client.Init x) (server.Scram y) gc sc gl sl = ⊥
AreEndsOf c d (client.Init x) (server.Init y) gc sc gl sl = AreSayingEnds c d x y gc sc gl sl

plain_apart : (user password name word : List ℕ) (k : InitCheck Account) → k ≡ check.Plain (plain_account name word) → HasOtherAccount (own.plain user password) k → account_in (own.plain user password) ≢ account_by (admitted.plain name word)
plain_apart user password name word k is other e =
    let o : (user ≢ name) ⊎ (password ≢ word) = subst (λ (z : InitCheck Account). HasOtherAccount (own.plain user password) z) is other in
    let same = same_Some (user, password) (name, word) e in
    elim o as (λ _. ⊥) [ inl u ↦ u (ap (λ (z : List ℕ × List ℕ). z.0) same) | inr q ↦ q (ap (λ (z : List ℕ × List ℕ). z.1) same) ]

module _ (hostname : Option (List ℕ)) (gc sc gl sl : List SaslBody) where
  scram_ends : (hash : ScramHash) (user password nonce : List ℕ) (theirs : ScramHash) (name word salt : List ℕ) (count : ℕ) (far_nonce : List ℕ) (x : ClientEnd) (y : ServerEnd Account)
      → IsClientFor hash user password nonce hostname x → IsListenerFor theirs name word salt count far_nonce y → hash ≡ theirs → client_holds x gc sc → server_holds stored_for y gl sl
      → AreEnds x y salt count gc sc gl sl
  scram_ends hash user password nonce theirs name word salt count far_nonce x y m n same held held' =
      let stored : (k : ScramHash) (w : List ℕ) → StoredPassword = λ k w. stored_of (digest_of k) (block_of k) (output_of k) w salt count in
      record {
        same_hash = m.hash_is ∙ same ∙ sym n.hash_is;
        user_is = subst IsAllowedUser (sym m.user_is) m.asked.0;
        nonce_is = subst IsNonce (sym m.nonce_is) m.asked.2;
        own_is = subst IsNonce (sym n.nonce_is) n.asked.4;
        stored_is = ap (λ (z : Account). z.stored) n.account ∙ ap (λ (w : List ℕ). Some (stored theirs w)) (sym (ap (λ (z : Account). z.password) n.account))
            ∙ ap (λ (k : ScramHash). Some (stored k y.server.provider.password)) (sym n.hash_is);
        salt_is = n.asked.2;
        count_is = n.asked.3;
        client = held;
        listener = held';
      }

  -- where both asked for one mechanism
  pub ends_of : (c : Credentials) (d : Admission) (x : ClientExchange) (y : Listening) → IsClientMade c hostname x → IsListenerMade d y → mechanism_in c ≡ mechanism_by d
      → any_client_holds x gc sc → any_server_holds passwords_for stored_for y gl sl → AreEndsOf c d x y gc sc gl sl
  ends_of own.anonymous d (client.Scram x) y m n same held held' = absurd m
  ends_of own.anonymous admitted.anonymous (client.Init x) (server.Scram y) m n same held held' = absurd n
  ends_of own.anonymous admitted.anonymous (client.Init x) (server.Init y) m n same held held' = record {
    ends = record {
      says = (m.mechanism_is, m.response_is);
      texts_are = tt;
      same_mechanism = m.mechanism_is ∙ sym (ap (λ (k : InitCheck Account). check_name k) n.check_is);
      client = held;
      listener = held';
    };
    apart = λ o. absurd o;
  }
  ends_of own.anonymous (admitted.plain name word) (client.Init x) y m n same held held' = absurd (anonymous_not_plain same)
  ends_of own.anonymous (admitted.scram theirs name word salt count far_nonce) (client.Init x) y m n same held held' = absurd (scram_not_anonymous theirs (sym same))
  ends_of (own.plain user password) d (client.Scram x) y m n same held held' = absurd m
  ends_of (own.plain user password) admitted.anonymous (client.Init x) y m n same held held' = absurd (anonymous_not_plain (sym same))
  ends_of (own.plain user password) (admitted.plain name word) (client.Init x) (server.Scram y) m n same held held' = absurd n
  ends_of (own.plain user password) (admitted.plain name word) (client.Init x) (server.Init y) m n same held held' = record {
    ends = record {
      says = (m.mechanism_is, m.response_is);
      texts_are = m.asked;
      same_mechanism = m.mechanism_is ∙ sym (ap (λ (k : InitCheck Account). check_name k) n.check_is);
      client = held;
      listener = held';
    };
    apart = plain_apart user password name word y.check n.check_is;
  }
  ends_of (own.plain user password) (admitted.scram theirs name word salt count far_nonce) (client.Init x) y m n same held held' = absurd (scram_not_plain theirs (sym same))
  ends_of (own.scram hash user password nonce) d (client.Init x) y m n same held held' = absurd m
  ends_of (own.scram hash user password nonce) admitted.anonymous (client.Scram x) y m n same held held' = absurd (scram_not_anonymous hash same)
  ends_of (own.scram hash user password nonce) (admitted.plain name word) (client.Scram x) y m n same held held' = absurd (scram_not_plain hash same)
  ends_of (own.scram hash user password nonce) (admitted.scram theirs name word salt count far_nonce) (client.Scram x) (server.Init y) m n same held held' = absurd n
  ends_of (own.scram hash user password nonce) (admitted.scram theirs name word salt count far_nonce) (client.Scram x) (server.Scram y) m n same held held' = record {
    salt = salt;
    count = count;
    ends = scram_ends hash user password nonce theirs name word salt count far_nonce x y m n (name_once hash theirs same) held held';
    account = ap (λ (u : List ℕ). Some (u, password)) (sym m.user_is) ∙ ap (λ (w : List ℕ). Some (x.client.user, w)) (sym m.password_is);
    far_account = sym (ap (λ (z : Account). Some (z.user, z.password)) n.account);
  }
