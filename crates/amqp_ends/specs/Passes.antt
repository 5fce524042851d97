-- Two ends whose layers agree, and what they come to (OASIS AMQP 1.0, part 5, section 5.3.2).
use Rattle.std.specs.Prelude.{◌≡◌, ◌⊎◌, ◌≤◌, ℕ, List, [], ◌∷◌, ◌++◌, length, Option, Some, None, ⊤}
use Rattle.amqp_sasl_bodies.specs.declared.sasl_code.SaslCode.TheVariants as sasl
use Rattle.sasl_exchange.specs.declared.error.NegotiationError.{NegotiationError}
use Rattle.sasl_exchange.specs.declared.exchange.Turn.TheVariants.{Pass}
use Rattle.sasl_exchange.specs.Exchange.{refused_with}
use Rattle.amqp_opening.specs.declared.authentication.SaslCall.{SaslCall}
use Rattle.amqp_opening.specs.Authentication.{mechanism_of_call, HasAllowedTexts, turn_by}
use Rattle.amqp_peer.specs.amqp_words.declared.open_error.OpenError.TheVariants as failed
use Rattle.amqp_peer.specs.Causes.{HasHeader}
use Rattle.amqp_peer.specs.History.{Local, Replied, made_in, replied_in, wrote_in}
use Rattle.amqp_peer.specs.Layers.{layer_in, HasExchange}
use Rattle.amqp_peer.specs.Replies.{open_failed, IsOpenRefusal}
use Rattle.amqp_ends.specs.Gates.{Agree, BothAsk, Faces, IsCollision, OwesOverlong}
use Rattle.amqp_ends.specs.Standing.{IsVast}
use Rattle.amqp_ends.specs.Wants.{AreStill}

-- an end faced the other as that was at one time: it was called by then, or had written nothing
pub record FacedOnce (g far : List Local) : Type 0 where
  pub since : List Local
  pub before : List Local
  pub split : far ≡ since ++ before
  pub faces : Faces g before
  pub begun : (1 ≤ length (made_in before)) ⊎ (wrote_in before ≡ [])

-- an end that told of a negotiation that failed faced the other when it told
abbrev pub FacedWhenTold : List Local → List Local → Type 0
FacedWhenTold h far = (later g : List Local) (name : ℕ) (e : NegotiationError) → h ≡ later ++ Replied (open_failed name (failed.Negotiation e)) ∷ g → FacedOnce g far

-- at neither end a great many reads were made, or frames read and queued
abbrev pub NeitherIsVast : List Local → List Local → Type 0
NeitherIsVast h far = IsVast h ⊎ IsVast far → ⊥

-- two ends with layers that agree, both of which were called, and each of which has done what it can
pub record AreAgreed (h far : List Local) (left far_left : List ℕ) : Type 0 where
  pub still : AreStill h far left far_left
  pub called : 1 ≤ length (made_in h)
  pub far_called : 1 ≤ length (made_in far)
  pub agreed : Agree (layer_in (made_in h)) (layer_in (made_in far))
  pub faced : FacedWhenTold h far
  pub far_faced : FacedWhenTold far h
  pub few : NeitherIsVast h far

-- the exchange of this layer has passed; without a layer nothing is said
abbrev pub HasPassed : Option SaslCall → List Local → Type 0
HasPassed None h = ⊤
HasPassed (Some c) h = (k : HasExchange c h) × (turn_by k.x ≡ Pass)

-- an end's check holds, if it has one, and its AMQP header is written behind it
pub record IsThrough (h : List Local) : Type 0 where
  pub header : HasHeader h
  pub passed : HasPassed (layer_in (made_in h)) h

-- ---- two layers with one mechanism

-- They are asked for with the same mechanism, as SCRAM with one hash function, whether or not user and password are the same; those of each
-- are in the profile. No exchange of one of them owes the other a body that has no frame of at most 512 bytes, and no listener takes a proof
-- that was made with another password.
pub record AreComparable (c d : SaslCall) : Type 0 where
  pub same_mechanism : mechanism_of_call c ≡ mechanism_of_call d
  pub allowed : HasAllowedTexts c
  pub far_allowed : HasAllowedTexts d
  pub within : OwesOverlong c (Some d) → ⊥
  pub far_within : OwesOverlong d (Some c) → ⊥
  pub apart : IsCollision c d → ⊥
  pub far_apart : IsCollision d c → ⊥

-- two ends with such layers, both of which were called, and each of which has done what it can
pub record AreCompared (h far : List Local) (left far_left : List ℕ) : Type 0 where
  pub still : AreStill h far left far_left
  pub called : 1 ≤ length (made_in h)
  pub far_called : 1 ≤ length (made_in far)
  pub compared : BothAsk (layer_in (made_in h)) (layer_in (made_in far)) AreComparable
  pub faced : FacedWhenTold h far
  pub far_faced : FacedWhenTold far h
  pub few : NeitherIsVast h far

-- its open or accept was answered that an outcome refuses the account: a listener told it, and a client read it (part 5, section 5.3.3.6)
abbrev pub IsRefused : List Local → Type 0
IsRefused h = (name : ℕ) × IsOpenRefusal name (failed.Negotiation (refused_with sasl.Auth)) (replied_in h)

-- an end has written its AMQP header, or was refused
abbrev pub IsThroughOrRefused : List Local → Type 0
IsThroughOrRefused h = HasHeader h ⊎ IsRefused h
