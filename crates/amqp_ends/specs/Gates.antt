-- Why a negotiation fails between two ends (OASIS AMQP 1.0, part 2, section 2.2, and part 5, section 5.3).
use Rattle.std.specs.Prelude.{◌≡◌, ◌≢◌, ◌⊎◌, ℕ, List, [], ◌∷◌, ◌++◌, Option, Some, None, ⊤}
use Rattle.amqp_sasl_bodies.specs.declared.sasl_body.SaslBody.{SaslBody}
use Rattle.amqp_sasl_bodies.specs.declared.sasl_code.SaslCode.TheVariants as sasl
use Rattle.sasl_exchange.specs.declared.error.NegotiationError.{NegotiationError}
use Rattle.sasl_exchange.specs.declared.error.NegotiationError.TheVariants.{Memory, ProtocolHeaderMismatch, NotImplemented, SaslError, ScramError, Io, DecodeError, IllegalState, FramingError}
use Rattle.sasl_exchange.specs.declared.exchange.Turn.TheVariants.{Pass}
use Rattle.sasl_exchange.specs.declared.server.ServerExchange.TheVariants as server
use Rattle.sasl_scram.specs.declared.error.ScramErrorKind.TheVariants.{Signature, TextNotAllowed}
use Rattle.sasl_gate.specs.Negotiation.{IsOverlong}
use Rattle.sasl_exchange.specs.ScramServer.{ServerEnd, server_holds, server_turn}
use Rattle.sasl_scram.specs.States.{Account}
use Rattle.amqp_opening.specs.declared.authentication.Authentication.{Authentication}
use Rattle.amqp_opening.specs.declared.authentication.Authentication.TheVariants.{Listener as ListenerExchange}
use Rattle.amqp_opening.specs.declared.authentication.SaslCall.{SaslCall}
use Rattle.amqp_opening.specs.declared.authentication.SaslCall.TheVariants as layer
use Rattle.amqp_opening.specs.Authentication.{account_of_call, mechanism_of_call, MadeFor, HasAllowedTexts, holds_by, owes_by, stored_for}
use Rattle.amqp_opening.specs.Opening.{amqp_header}
use Rattle.amqp_peer.specs.amqp_words.declared.open_error.OpenError.TheVariants as failed
use Rattle.amqp_peer.specs.amqp_words.declared.reply.Reply.{Reply}
use Rattle.amqp_peer.specs.amqp_words.declared.reply.Reply.TheVariants as reply
use Rattle.amqp_peer.specs.amqp_words.declared.reply.NamedReply.{NamedReply}
use Rattle.amqp_peer.specs.Causes.{IsTied}
use Rattle.amqp_peer.specs.History.{Local, made_in, read_in, wrote_in}
use Rattle.amqp_peer.specs.Layers.{layer_in, HasLayer}
use Rattle.amqp_ends.specs.Quiet.{AreOpposite}

-- ---- two ends that face one another

-- an end faces another: one is a client and the other a listener, and what each read is the front of what the other wrote. Of the other end
-- it is known besides how its frames and its SASL layer lie in its bytes
pub record Faces (g far : List Local) : Type 0 where
  pub opposite : AreOpposite (made_in g) (made_in far)
  pub left : List ℕ
  pub reads : read_in g ++ left ≡ wrote_in far
  pub far_left : List ℕ
  pub far_reads : read_in far ++ far_left ≡ wrote_in g
  pub far_tied : IsTied far
  pub far_layer : HasLayer (layer_in (made_in far)) far

-- ---- what one layer and the other are

-- a layer is asked for, of which this holds
abbrev pub Asks : Option SaslCall → (SaslCall → Type 0) → Type 0
Asks None P = ⊥
Asks (Some c) P = P c

-- both ask for a layer, of which this holds
abbrev pub BothAsk : Option SaslCall → Option SaslCall → (SaslCall → SaslCall → Type 0) → Type 0
BothAsk None far P = ⊥
BothAsk (Some c) None P = ⊥
BothAsk (Some c) (Some d) P = P c d

-- a layer is asked for here, and not there
abbrev pub AsksAlone : Option SaslCall → Option SaslCall → Type 0
AsksAlone None there = ⊥
AsksAlone (Some c) None = ⊤
AsksAlone (Some c) (Some d) = ⊥

-- the mechanisms are not the same (part 5, section 5.3.3.1)
abbrev pub AreOtherMechanisms : SaslCall → SaslCall → Type 0
AreOtherMechanisms c d = mechanism_of_call c ≢ mechanism_of_call d

-- user and password, where there are any, are not the same (RFC 4616, section 2; RFC 5802, section 5.1)
abbrev pub AreOtherAccounts : SaslCall → SaslCall → Type 0
AreOtherAccounts c d = account_of_call c ≢ account_of_call d

-- the mechanism is the same, and user or password are not: so it is not ANONYMOUS, which has none (RFC 4505, section 2)
abbrev pub DifferInAccount : SaslCall → SaslCall → Type 0
DifferInAccount c d = (mechanism_of_call c ≡ mechanism_of_call d) × AreOtherAccounts c d

-- the first is a client's, whose mechanism the listener does not have
abbrev pub LacksMechanism : SaslCall → SaslCall → Type 0
LacksMechanism (layer.Client p hostname) d = AreOtherMechanisms (layer.Client p hostname) d
LacksMechanism (layer.Listener a) d = ⊥

-- ---- two exchanges that are joined

-- An exchange of this layer that is joined to another: the bodies that the other was given are the first of those that this one sent, and
-- of the bodies that the other sent, this one was given the first.
pub record IsJoinedTo (d : SaslCall) (given sent : List SaslBody) : Type 0 where
  pub y : Authentication
  pub made : MadeFor d y
  pub far_given : List SaslBody
  pub far_sent : List SaslBody
  pub held : holds_by y far_given far_sent
  pub to_near : List SaslBody
  pub reads : given ++ to_near ≡ far_sent
  pub to_far : List SaslBody
  pub far_reads : far_given ++ to_far ≡ sent

-- A listener with SCRAM passes a client of the same mechanism and the same user with another password: the proof that it took is one that
-- this client made with its own password (RFC 5802, section 3).
pub record IsCollision (client listener : SaslCall) : Type 0 where
  pub same_mechanism : mechanism_of_call client ≡ mechanism_of_call listener
  pub user : List ℕ
  pub password : List ℕ
  pub other : List ℕ
  pub account : account_of_call client ≡ Some (user, password)
  pub far_account : account_of_call listener ≡ Some (user, other)
  pub other_password : password ≢ other
  pub y : ServerEnd Account
  pub made : MadeFor listener (ListenerExchange (server.Scram y))
  pub given : List SaslBody
  pub sent : List SaslBody
  pub held : server_holds stored_for y given sent
  pub joined : IsJoinedTo client given sent
  pub passes : server_turn y ≡ Pass

-- ---- a body that has no frame

-- the bodies that an exchange was given and sent, where its peer has this layer or none: it was given nothing, or what such a peer says
abbrev pub MayHear : Option SaslCall → List SaslBody → List SaslBody → Type 0
MayHear None given sent = given ≡ []
MayHear (Some d) given sent = (given ≡ []) ⊎ IsJoinedTo d given sent

-- an exchange of the first layer owes a peer with the second, or with none, a body that has no frame of at most 512 bytes (part 5,
-- section 5.3.1)
pub record OwesOverlong (c : SaslCall) (far : Option SaslCall) : Type 0 where
  pub x : Authentication
  pub made : MadeFor c x
  pub given : List SaslBody
  pub sent : List SaslBody
  pub held : holds_by x given sent
  pub heard : MayHear far given sent
  pub body : SaslBody
  pub owed : owes_by x body
  pub long : IsOverlong body

-- ---- what a negotiation may be answered

-- By the layer of an end and that of the other: where one of them has a layer and the other has none, the end with the layer read the AMQP
-- header in place of the SASL header, and the one without did not know the SASL header (part 2, section 2.2); where both have one, a client
-- was offered another mechanism (part 5, section 5.3.3.1), or with the same mechanism the accounts are not the same (part 5, section
-- 5.3.3.6; RFC 4616, section 2; RFC 5802, section 5); or the end's own user or password is outside the profile, or a body of its own is too
-- long. Neither the link nor what the other wrote is a cause.
abbrev pub IsFairNegotiation : Option SaslCall → Option SaslCall → NegotiationError → Type 0
IsFairNegotiation near far (Memory a) = ⊥
IsFairNegotiation near far (ProtocolHeaderMismatch h) = (h ≡ amqp_header) × AsksAlone near far
IsFairNegotiation near far NotImplemented = AsksAlone far near ⊎ BothAsk near far LacksMechanism
IsFairNegotiation near far (SaslError code payload) = (code ≡ sasl.Auth) × (payload ≡ None) × BothAsk near far DifferInAccount
IsFairNegotiation near far (ScramError kind) =
    ((kind ≡ TextNotAllowed) × Asks near (λ c. ¬ HasAllowedTexts c)) ⊎ ((kind ≡ Signature) × BothAsk near far IsCollision)
IsFairNegotiation near far (Io kind) = ⊥
IsFairNegotiation near far DecodeError = ⊥
IsFairNegotiation near far IllegalState = ⊥
IsFairNegotiation near far FramingError = Asks near (λ c. OwesOverlong c far)

-- ---- two layers that agree

-- They are asked for with the same mechanism, and the same user and password, which are in the profile; and no exchange of one of them owes
-- the other a body that has no frame of at most 512 bytes.
pub record AreAlike (c d : SaslCall) : Type 0 where
  pub same_mechanism : mechanism_of_call c ≡ mechanism_of_call d
  pub same_account : account_of_call c ≡ account_of_call d
  pub allowed : HasAllowedTexts c
  pub within : OwesOverlong c (Some d) → ⊥
  pub far_within : OwesOverlong d (Some c) → ⊥

-- both ends have such a layer, or neither has one
abbrev pub Agree : Option SaslCall → Option SaslCall → Type 0
Agree None None = ⊤
Agree None (Some d) = ⊥
Agree (Some c) None = ⊥
Agree (Some c) (Some d) = AreAlike c d

-- ---- replies

-- a reply that tells of a negotiation tells of such a failure
abbrev pub IsFairReply : Option SaslCall → Option SaslCall → Reply → Type 0
IsFairReply near far reply.Pending = ⊤
IsFairReply near far reply.Connection = ⊤
IsFairReply near far reply.Closed = ⊤
IsFairReply near far (reply.OpenError (failed.Negotiation e)) = IsFairNegotiation near far e
IsFairReply near far (reply.OpenError (failed.TransportError e)) = ⊤
IsFairReply near far (reply.OpenError failed.RemoteClosed) = ⊤
IsFairReply near far (reply.OpenError (failed.RemoteClosedWithError e)) = ⊤
IsFairReply near far (reply.OpenError failed.IllegalState) = ⊤
IsFairReply near far (reply.ConnectionError e) = ⊤

abbrev pub AllFair : Option SaslCall → Option SaslCall → List NamedReply → Type 0
AllFair near far [] = ⊤
AllFair near far (r ∷ rs) = IsFairReply near far r.reply × AllFair near far rs
