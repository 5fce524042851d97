-- The exchange of an end that asked for a SASL layer, at any time and where it waits (OASIS AMQP 1.0, part 5, section 5.3.2).
use Rattle.std.specs.Prelude.{◌≡◌, ◌<◌, ◌⊎◌, ℕ, List, [], ◌∷◌, ◌++◌, length, All, Option, Some, None, ⊤}
use Rattle.amqp_sasl_bodies.specs.declared.sasl_body.SaslBody.{SaslBody}
use Rattle.amqp_wire.specs.declared.frame.Front.TheVariants.{Partial}
use Rattle.amqp_wire.specs.Frame.{IsFront}
use Rattle.amqp_engine.specs.Sentence.{bytes_of_all}
use Rattle.sasl_exchange.specs.declared.exchange.Turn.TheVariants.{Receive, Pass}
use Rattle.sasl_gate.specs.Frames.{HasSaslFrame, Heard, said}
use Rattle.sasl_gate.specs.Negotiation.{IsHeard}
use Rattle.amqp_opening.specs.declared.authentication.Authentication.{Authentication}
use Rattle.amqp_opening.specs.declared.authentication.SaslCall.{SaslCall}
use Rattle.amqp_opening.specs.Authentication.{MadeFor, HasAllowedTexts, IsAskedSo, holds_by, turn_by}
use Rattle.amqp_opening.specs.Opening.{amqp_header}
use Rattle.amqp_words.specs.declared.call.Call.{Call}
use Rattle.amqp_peer.specs.History.{Local, made_in, sent_in, read_in, wrote_in}
use Rattle.amqp_peer.specs.Causes.{BeginsWithOpen}
use Rattle.amqp_peer.specs.Prepared.{sasl_of}

-- the SASL layer that the first of these calls asks for
abbrev pub layer_in : List (ℕ × Call) → Option SaslCall
layer_in [] = None
layer_in (call ∷ []) = sasl_of call.1
layer_in (call ∷ earlier ∷ calls) = layer_in (earlier ∷ calls)

-- The exchange of an end that asked for this SASL layer: what was asked for is allowed; the bodies that it was given and those that it
-- queued, and what it holds of them. Behind their frames it queued nothing, or the AMQP header and its frames once the exchange had
-- passed; of all that, `out` is not written.
pub record HasExchange (c : SaslCall) (h : List Local) : Type 0 where
  pub x : Authentication
  pub made : MadeFor c x
  pub asked : IsAskedSo c
  pub given : List SaslBody
  pub sent : List SaslBody
  pub heard : IsHeard (read_in h) given
  pub framed : All HasSaslFrame sent
  pub out : List ℕ
  pub after : List ℕ
  pub wrote : wrote_in h ++ out ≡ said sent ++ after
  pub behind : (after ≡ []) ⊎ ((turn_by x ≡ Pass) × (after ≡ amqp_header ++ bytes_of_all (sent_in h)))
  pub unopened : after ≡ [] → sent_in h ≡ []
  pub held : holds_by x given sent

-- it has that exchange, or its user or password is outside the profile and it wrote nothing; without a SASL layer nothing is said
abbrev pub HasLayer : Option SaslCall → List Local → Type 0
HasLayer None h = ⊤
HasLayer (Some c) h = HasExchange c h ⊎ ((¬ HasAllowedTexts c) × (wrote_in h ≡ []))

-- what an exchange waits for, of which a part is there at most: the header of the SASL layer, a body, or behind the layer the AMQP header
pub data IsAwaiting (c : SaslCall) (h : List Local) (k : HasExchange c h) : Type 0 where
  for_layer : k.given ≡ [] → k.sent ≡ [] → k.after ≡ [] → length (read_in h) < 8 → IsAwaiting c h k
  for_body : (rest : List ℕ) → turn_by k.x ≡ Receive → k.after ≡ [] → Heard (read_in h) k.given rest → IsFront 1 512 rest Partial → IsAwaiting c h k
  for_header : (rest : List ℕ) → turn_by k.x ≡ Pass → k.after ≡ amqp_header → Heard (read_in h) k.given rest → length rest < 8 → IsAwaiting c h k

-- an end that waits so: all that it queued is written, and no frame of its connection is queued yet
pub record IsRestingWith (c : SaslCall) (h : List Local) : Type 0 where
  pub exchange : HasExchange c h
  pub all : exchange.out ≡ []
  pub awaits : IsAwaiting c h exchange
  pub unopened : sent_in h ≡ []

-- an end without a SASL layer that waits for the AMQP header
pub record IsRestingPlain (h : List Local) : Type 0 where
  pub wrote : wrote_in h ≡ amqp_header
  pub few : length (read_in h) < 8
  pub unopened : sent_in h ≡ []

-- an end that waits in the exchange of headers, with this SASL layer or without
abbrev pub IsResting : Option SaslCall → List Local → Type 0
IsResting None h = IsRestingPlain h
IsResting (Some c) h = IsRestingWith c h

-- it waits in the exchange of headers, or its Open is queued
abbrev pub IsRestingOrOpen : List Local → Type 0
IsRestingOrOpen h = IsResting (layer_in (made_in h)) h ⊎ BeginsWithOpen (sent_in h)
