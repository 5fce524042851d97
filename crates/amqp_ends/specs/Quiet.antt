-- Two ends between which nothing is in flight (OASIS AMQP 1.0, part 2, section 2.4).
use Rattle.std.specs.Prelude.{◌≡◌, ◌≤◌, ◌⊎◌, ℕ, List, [], ◌∷◌, ◌++◌, length, All, Option, Some, None, ⊤}
use Rattle.amqp_sasl_bodies.specs.declared.sasl_body.SaslBody.{SaslBody}
use Rattle.amqp_opening.specs.declared.authentication.SaslCall.{SaslCall}
use Rattle.amqp_opening.specs.Opening.{amqp_header}
use Rattle.amqp_engine.specs.Sentence.{bytes_of_all}
use Rattle.sasl_gate.specs.Frames.{HasSaslFrame, said}
use Rattle.amqp_peer.specs.amqp_words.declared.call.Call.{Call}
use Rattle.amqp_peer.specs.amqp_words.declared.call.Call.TheVariants.{Open, Accept, Close}
use Rattle.amqp_peer.specs.declared.peer.PeerKind.{PeerKind}
use Rattle.amqp_peer.specs.declared.peer.PeerKind.TheVariants.{Client, Listener}
use Rattle.amqp_peer.specs.Causes.{IsTied}
use Rattle.amqp_peer.specs.History.{Local, made_in, sent_in, read_in, wrote_in}
use Rattle.amqp_peer.specs.Layers.{layer_in, HasLayer}
use Rattle.amqp_peer.specs.Said.{HasSaid}

-- the call with which a client begins is open, that of a listener accept
abbrev pub Begins : PeerKind → Call → Type 0
Begins Client (Open settings host sasl) = ⊤
Begins Client (Accept settings sasl) = ⊥
Begins Client (Close error) = ⊥
Begins Listener (Open settings host sasl) = ⊥
Begins Listener (Accept settings sasl) = ⊤
Begins Listener (Close error) = ⊥

-- the first of these calls, the newest first, is such a call, if there is one
abbrev pub BeginsIn : PeerKind → List (ℕ × Call) → Type 0
BeginsIn kind [] = ⊤
BeginsIn kind (call ∷ []) = Begins kind call.1
BeginsIn kind (call ∷ earlier ∷ calls) = BeginsIn kind (earlier ∷ calls)

-- one of them is a client and the other a listener
abbrev pub AreOpposite : List (ℕ × Call) → List (ℕ × Call) → Type 0
AreOpposite calls far = (BeginsIn Client calls × BeginsIn Listener far) ⊎ (BeginsIn Listener calls × BeginsIn Client far)

-- the two ends of a connection, each of which has read all that the other wrote
pub record IsQuiet (h far : List Local) : Type 0 where
  pub reads : read_in h ≡ wrote_in far
  pub far_reads : read_in far ≡ wrote_in h
  pub tied : IsTied h
  pub far_tied : IsTied far
  pub said : HasSaid h
  pub far_said : HasSaid far
  pub layer : HasLayer (layer_in (made_in h)) h
  pub far_layer : HasLayer (layer_in (made_in far)) far
  pub kinds : AreOpposite (made_in h) (made_in far)

-- ---- how much of a SASL layer there is

-- what an end wrote, with what is still to go out, is the header and at most three frames of the SASL layer, and behind them nothing, or
-- the AMQP header and its frames (part 5, section 5.3.2)
pub record HasFewFrames (h : List Local) : Type 0 where
  pub bodies : List SaslBody
  pub few : length bodies ≤ 3
  pub framed : All HasSaslFrame bodies
  pub out : List ℕ
  pub after : List ℕ
  pub wrote : wrote_in h ++ out ≡ said bodies ++ after
  pub behind : (after ≡ []) ⊎ (after ≡ amqp_header ++ bytes_of_all (sent_in h))

-- the same by the layer that it asked for
abbrev pub IsFewOf : Option SaslCall → List Local → Type 0
IsFewOf None h = ⊤
IsFewOf (Some c) h = HasFewFrames h

abbrev pub IsFew : List Local → Type 0
IsFew h = IsFewOf (layer_in (made_in h)) h
