-- How the close of a connection stands in the bytes of a run (OASIS AMQP 1.0, part 2, sections 2.3 and 2.4.3).
use Rattle.std.specs.Prelude.{◌≡◌, ◌⊎◌, ℕ, List, [], ◌∷◌, ◌++◌, Option, None}
use Rattle.amqp_composites.specs.declared.error.Error.{Error as AmqpError}
use Rattle.amqp_frames.specs.declared.body.FrameBody.TheVariants as b
use Rattle.amqp_wire.specs.declared.link.Held.TheVariants.{Full}
use Rattle.amqp_wire.specs.Events.{NotWritten, Includes}
use Rattle.amqp_transport.specs.declared.frames.Frame.{Frame}
use Rattle.amqp_engine.specs.Closers.{This}
use Rattle.amqp_engine.specs.Heard.{HasLeft}
use Rattle.amqp_engine.specs.Sentence.{bytes_of_all}
use Rattle.amqp_engine.specs.State.{close_frame}
use Rattle.amqp_opening.specs.Opening.{amqp_header}
use Rattle.amqp_peer.specs.Causes.{has_layer, IsLayerWritten, IsReadTo}
use Rattle.amqp_peer.specs.Closers.{closer_in}
use Rattle.amqp_peer.specs.History.{Local, made_in, link_in, given_in, sent_in, wrote_in}
use Rattle.amqp_peer.specs.Said.{CloseCause, HasStray}

-- a Close without an error is among these frames
pub record HasPlainClose (xs : List Frame) : Type 0 where
  pub front : List Frame
  pub channel : ℕ
  pub more : List Frame
  pub is : xs ≡ front ++ record { channel = channel; body = b.Close (record { error = None }) } ∷ more

-- The peer has closed the connection without an error. What was read is the SASL layer, if there is one, the AMQP
-- header, the frames that were given, of which its Close is the last, and then a rest.
pub record IsClosedByPeer (h : List Local) : Type 0 where
  pub rest : List ℕ
  pub read : IsReadTo h rest
  pub left : HasLeft None (given_in h)

-- what was written begins with the SASL layer, if there is one, the AMQP header and each frame that was queued
pub record HasWrittenAll (h : List Local) : Type 0 where
  pub head : List ℕ
  pub more : List ℕ
  pub layer : IsLayerWritten (has_layer (made_in h)) head
  pub wrote : wrote_in h ≡ (head ++ (amqp_header ++ bytes_of_all (sent_in h))) ++ more

-- Both ends have closed the connection, this end first. The last frame that it queued is its Close, which has its
-- cause, and no error unless a frame came that has no place; it stands in what was written, unless the link was full
-- at some time. The peer's Close, without an error, is among the frames that were read, and stands in what was read.
pub record IsClosedByBoth (h : List Local) : Type 0 where
  pub front : List Frame
  pub error : Option AmqpError
  pub said : sent_in h ≡ front ++ close_frame error ∷ []
  pub why : CloseCause (made_in h) (given_in h) error
  pub plain : (error ≡ None) ⊎ HasStray (given_in h)
  pub out : Includes (link_in h) (NotWritten Full) ⊎ HasWrittenAll h
  pub rest : List ℕ
  pub read : IsReadTo h rest
  pub heard : HasPlainClose (given_in h)
  pub first : closer_in h ≡ This
