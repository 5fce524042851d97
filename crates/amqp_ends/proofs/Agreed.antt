-- Between two ends whose layers agree no negotiation fails fairly.
use Rattle.std.proofs.Common.{◌≡◌, inl, inr, ℕ, List, Option, Some, None, sym, ap, ◌∙◌, subst}
use Rattle.std.proofs.lemmas.Option.{same_Some}
use Rattle.sasl_exchange.specs.declared.error.NegotiationError.{NegotiationError}
use Rattle.sasl_exchange.specs.declared.error.NegotiationError.TheVariants.{Memory, ProtocolHeaderMismatch, NotImplemented, SaslError, ScramError, Io, DecodeError, IllegalState, FramingError}
use Rattle.amqp_opening.specs.declared.authentication.SaslCall.{SaslCall}
use Rattle.amqp_opening.specs.declared.authentication.SaslCall.TheVariants as layer
use Rattle.amqp_opening.specs.Authentication.{account_of_call, mechanism_of_call, IsAllowedAccount}
use Rattle.amqp_ends.specs.Gates.{Agree, AreAlike, IsCollision, IsFairNegotiation, LacksMechanism}

pub has_mechanism : (c d : SaslCall) → mechanism_of_call c ≡ mechanism_of_call d → LacksMechanism c d → ⊥
has_mechanism (layer.Client p hostname) d same lacks = lacks same
has_mechanism (layer.Listener a) d same lacks = lacks

-- the passwords of one account are the same
collides_not : (c d : SaslCall) → account_of_call c ≡ account_of_call d → IsCollision c d → ⊥
collides_not c d same k =
    k.other_password (ap (λ (z : List ℕ × List ℕ). z.1) (same_Some (k.user, k.password) (k.user, k.other) (sym k.account ∙ same ∙ k.far_account)))

alike_not : (c d : SaslCall) → AreAlike c d → (e : NegotiationError) → IsFairNegotiation (Some c) (Some d) e → ⊥
alike_not c d a (Memory b) f = f
alike_not c d a (ProtocolHeaderMismatch h) (is, alone) = alone
alike_not c d a NotImplemented (inl alone) = alone
alike_not c d a NotImplemented (inr lacks) = has_mechanism c d a.same_mechanism lacks
alike_not c d a (SaslError code payload) (k, q, (same, other)) = other a.same_account
alike_not c d a (ScramError kind) (inl (k, outside)) = outside a.allowed
alike_not c d a (ScramError kind) (inr (k, collision)) = collides_not c d a.same_account collision
alike_not c d a (Io kind) f = f
alike_not c d a DecodeError f = f
alike_not c d a IllegalState f = f
alike_not c d a FramingError f = a.within f

-- without a layer
plain_not : (e : NegotiationError) → IsFairNegotiation None None e → ⊥
plain_not (Memory b) f = f
plain_not (ProtocolHeaderMismatch h) (is, alone) = alone
plain_not NotImplemented (inl alone) = alone
plain_not NotImplemented (inr lacks) = lacks
plain_not (SaslError code payload) (k, q, other) = other
plain_not (ScramError kind) (inl (k, asks)) = asks
plain_not (ScramError kind) (inr (k, both)) = both
plain_not (Io kind) f = f
plain_not DecodeError f = f
plain_not IllegalState f = f
plain_not FramingError f = f

pub agreed_not : (near far : Option SaslCall) → Agree near far → (e : NegotiationError) → IsFairNegotiation near far e → ⊥
agreed_not None None a e f = plain_not e f
agreed_not None (Some d) a e f = a
agreed_not (Some c) None a e f = a
agreed_not (Some c) (Some d) a e f = alike_not c d a e f

-- ---- they agree from either side

alike_turned : (c d : SaslCall) → AreAlike c d → AreAlike d c
alike_turned c d a = record {
  same_mechanism = sym a.same_mechanism;
  same_account = sym a.same_account;
  allowed = subst IsAllowedAccount a.same_account a.allowed;
  within = a.far_within;
  far_within = a.within;
}

pub agreed_turned : (near far : Option SaslCall) → Agree near far → Agree far near
agreed_turned None None a = tt
agreed_turned None (Some d) a = absurd a
agreed_turned (Some c) None a = absurd a
agreed_turned (Some c) (Some d) a = alike_turned c d a
