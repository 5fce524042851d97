-- Which calls may be made (docs/SPECIFICATION.md, "Valid steps").
use Rattle.std.specs.Prelude.{◌<◌, ℕ, List, [], ◌∷◌, Option, Some, None}
use Rattle.sasl_exchange.specs.declared.profile.SaslProfile.{SaslProfile}
use Rattle.amqp_opening.specs.declared.acceptor.AcceptSasl.{AcceptSasl}
use Rattle.amqp_opening.specs.declared.authentication.SaslCall.{SaslCall}
use Rattle.amqp_opening.specs.Permission.{IsAllowedProfile, IsAllowedSasl, IsAllowedSaslCall}
use Rattle.amqp_words.specs.declared.call.Call.{Call}
use Rattle.amqp_words.specs.declared.call.Call.TheVariants.{Open, Accept, Close}
use Rattle.amqp_words.specs.declared.reply.NamedReply.{NamedReply}
use Rattle.amqp_peer.specs.declared.peer.PeerKind.{PeerKind}
use Rattle.amqp_peer.specs.declared.peer.PeerKind.TheVariants.{Client, Listener}
use Rattle.amqp_peer.specs.Replies.{IsConnected}

-- there is no SASL layer, or the profile is allowed
abbrev pub IsAllowedClient : Option SaslProfile → Type 0
IsAllowedClient None = Unit {0}
IsAllowedClient (Some profile) = IsAllowedProfile profile

abbrev pub IsAllowedListener : Option AcceptSasl → Type 0
IsAllowedListener None = Unit {0}
IsAllowedListener (Some acceptor) = IsAllowedSasl acceptor

-- the same of a layer that a call asks for
abbrev pub IsAllowedLayer : Option SaslCall → Type 0
IsAllowedLayer None = Unit {0}
IsAllowedLayer (Some c) = IsAllowedSaslCall c

-- the first call of a client is open, that of a listener accept
abbrev pub IsFirstCall : PeerKind → Call → Type 0
IsFirstCall Client (Open settings host sasl) = IsAllowedClient sasl
IsFirstCall Client (Accept settings sasl) = ⊥
IsFirstCall Client (Close error) = ⊥
IsFirstCall Listener (Open settings host sasl) = ⊥
IsFirstCall Listener (Accept settings sasl) = IsAllowedListener sasl
IsFirstCall Listener (Close error) = ⊥

abbrev pub IsClose : Call → Type 0
IsClose (Open settings host sasl) = ⊥
IsClose (Accept settings sasl) = ⊥
IsClose (Close error) = Unit {0}

-- a call of this name after those that were made, the newest first, and their replies: the first one, and then one close after the
-- connection was made, under a name above that of the first
abbrev pub IsValidCall : PeerKind → List (ℕ × Call) → List NamedReply → ℕ → Call → Type 0
IsValidCall kind [] replied name call = IsFirstCall kind call
IsValidCall kind (first ∷ []) replied name call = IsClose call × IsConnected replied × (first.0 < name)
IsValidCall kind (close ∷ first ∷ calls) replied name call = ⊥
