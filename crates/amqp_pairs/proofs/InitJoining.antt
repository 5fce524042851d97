-- Two ends with ANONYMOUS or PLAIN are joined, and stay so.
use Rattle.std.proofs.Common.{ℕ, List, [], ◌∷◌, ◌++◌, Option, Some, None, refl, ap, sym, ◌∙◌}
use Rattle.amqp_sasl_bodies.specs.declared.sasl_body.SaslBody.{SaslBody}
use Rattle.amqp_opening.specs.Authentication.{passwords_for}
use Rattle.sasl_exchange.specs.declared.init_server.InitCheck.{InitCheck}
use Rattle.sasl_exchange.specs.declared.init_server.InitCheck.TheVariants as init_check
use Rattle.sasl_exchange.specs.Credentials.{Credentials, anonymous, plain, scram}
use Rattle.sasl_exchange.specs.InitClient.{InitClientEnd, InitClientSame, init_client_begun, init_client_holds}
use Rattle.sasl_exchange.specs.InitServer.{InitServerEnd, InitServerSame, check_name, init_server_begun, init_server_holds}
use Rattle.sasl_exchange.specs.InitTexts.{anonymous_name, plain_name, plain_of}
use Rattle.sasl_scram.specs.Profile.{IsAllowedUser, IsAllowedPassword}
use Rattle.sasl_scram.specs.States.{Account}
use Rattle.amqp_pairs.specs.InitEnds.{AreInitJoined, SaysIn}
use Rattle.amqp_pairs.proofs.Joining.{given_next, sent_behind}

pub anonymous_begun : (hostname : Option (List ℕ))
    → AreInitJoined anonymous (init_client_begun anonymous_name None hostname) (init_server_begun init_check.Anonymous) [] [] [] [] [] []
anonymous_begun hostname = record {
  ends = record { says = (refl, refl); texts_are = tt; same_mechanism = refl; client = (refl, refl); listener = (refl, refl) };
  reads_listener = refl;
  reads_client = refl;
}

pub plain_begun : (user password : List ℕ) (hostname : Option (List ℕ)) (account : Account) → IsAllowedUser user → IsAllowedPassword password
    → AreInitJoined (plain user password) (init_client_begun plain_name (Some (plain_of user password)) hostname) (init_server_begun (init_check.Plain account)) [] [] [] [] [] []
plain_begun user password hostname account u p = record {
  ends = record { says = (refl, refl); texts_are = (u, p); same_mechanism = refl; client = (refl, refl); listener = (refl, refl) };
  reads_listener = refl;
  reads_client = refl;
}

-- a client of the same says the same
says_same : (c : Credentials) (x x' : InitClientEnd) → InitClientSame x x' → SaysIn c x → SaysIn c x'
says_same anonymous x x' s says = (sym s.mechanism ∙ says.0, sym s.response ∙ says.1)
says_same (plain user password) x x' s says = (sym s.mechanism ∙ says.0, sym s.response ∙ says.1)
says_same (scram hash user password nonce) x x' s says = says

module _ (c : Credentials) (x x' : InitClientEnd) (y : InitServerEnd Account) (gc sc gl sl fc fl : List SaslBody) (body : SaslBody) where
  pub init_client_sends : AreInitJoined c x y gc sc gl sl fc fl → InitClientSame x x' → init_client_holds x' gc (sc ++ body ∷ [])
      → AreInitJoined c x' y gc (sc ++ body ∷ []) gl sl fc (fl ++ body ∷ [])
  init_client_sends j s held = record {
    ends = record {
      says = says_same c x x' s j.ends.says;
      texts_are = j.ends.texts_are;
      same_mechanism = sym s.mechanism ∙ j.ends.same_mechanism;
      client = held;
      listener = j.ends.listener;
    };
    reads_listener = j.reads_listener;
    reads_client = sent_behind gl fl sc body j.reads_client;
  }

  pub init_client_takes : AreInitJoined c x y gc sc gl sl (body ∷ fc) fl → InitClientSame x x' → init_client_holds x' (gc ++ body ∷ []) sc
      → AreInitJoined c x' y (gc ++ body ∷ []) sc gl sl fc fl
  init_client_takes j s held = record {
    ends = record {
      says = says_same c x x' s j.ends.says;
      texts_are = j.ends.texts_are;
      same_mechanism = sym s.mechanism ∙ j.ends.same_mechanism;
      client = held;
      listener = j.ends.listener;
    };
    reads_listener = given_next gc fc sl body j.reads_listener;
    reads_client = j.reads_client;
  }

module _ (c : Credentials) (x : InitClientEnd) (y y' : InitServerEnd Account) (gc sc gl sl fc fl : List SaslBody) (body : SaslBody) where
  pub init_listener_sends : AreInitJoined c x y gc sc gl sl fc fl → InitServerSame y y' → init_server_holds passwords_for y' gl (sl ++ body ∷ [])
      → AreInitJoined c x y' gc sc gl (sl ++ body ∷ []) (fc ++ body ∷ []) fl
  init_listener_sends j s held = record {
    ends = record {
      says = j.ends.says;
      texts_are = j.ends.texts_are;
      same_mechanism = j.ends.same_mechanism ∙ ap (λ (k : InitCheck Account). check_name k) s.check;
      client = j.ends.client;
      listener = held;
    };
    reads_listener = sent_behind gc fc sl body j.reads_listener;
    reads_client = j.reads_client;
  }

  pub init_listener_takes : AreInitJoined c x y gc sc gl sl fc (body ∷ fl) → InitServerSame y y' → init_server_holds passwords_for y' (gl ++ body ∷ []) sl
      → AreInitJoined c x y' gc sc (gl ++ body ∷ []) sl fc fl
  init_listener_takes j s held = record {
    ends = record {
      says = j.ends.says;
      texts_are = j.ends.texts_are;
      same_mechanism = j.ends.same_mechanism ∙ ap (λ (k : InitCheck Account). check_name k) s.check;
      client = j.ends.client;
      listener = held;
    };
    reads_listener = j.reads_listener;
    reads_client = given_next gl fl sc body j.reads_client;
  }
