-- What is known of an end that can do no more now, and of one whose connection has stopped.
use Rattle.std.specs.Prelude.{◌≡◌, ◌⊎◌, ◌<◌, ◌≤◌, ◌+◌, ◌^◌, ℕ, List, [], ◌∷◌, ◌++◌, length}
use Rattle.amqp_wire.specs.declared.link.Held.TheVariants.{Full}
use Rattle.amqp_wire.specs.Events.{NotWritten, Includes}
use Rattle.amqp_transport.specs.Clocks.{IsDue}
use Rattle.amqp_transport.specs.Stream.{IsPart}
use Rattle.amqp_engine.specs.Heard.{IsGreeted}
use Rattle.amqp_engine.specs.Sentence.{bytes_of_all}
use Rattle.amqp_opening.specs.Opening.{amqp_header}
use Rattle.amqp_peer.specs.Beats.{beat_in}
use Rattle.amqp_peer.specs.Causes.{BeginsWithOpen, EndsWithClose, IsOther, IsReadTo, IsQueued, idle_with, prepared_in}
use Rattle.amqp_peer.specs.History.{Local, made_in, link_in, given_in, sent_in, replied_in, moment_in, since_in}
use Rattle.amqp_peer.specs.Replies.{pending, connection}
use Rattle.amqp_peer.specs.Said.{HasClose}

-- an open or accept was answered by pending alone
abbrev pub OpenWaits : List Local → Type 0
OpenWaits h = (name : ℕ) × (replied_in h ≡ pending name ∷ [])

-- a close was answered by pending alone
abbrev pub CloseWaits : List Local → Type 0
CloseWaits h = (first : ℕ) × (name : ℕ) × (replied_in h ≡ pending first ∷ connection first ∷ pending name ∷ [])

-- all that was queued is written: the SASL layer, if there is one, the AMQP header and the frames (part 2, section 2.2)
pub record IsAllOut (h : List Local) : Type 0 where
  pub queued : IsQueued h
  pub none : queued.out ≡ []
  pub behind : queued.tail ≡ amqp_header ++ bytes_of_all (sent_in h)

-- the idle time has passed (part 2, section 2.4.5)
pub record HasPassed (h : List Local) : Type 0 where
  pub runs : 0 < idle_with (prepared_in (made_in h))
  pub passed : since_in h + idle_with (prepared_in (made_in h)) ≤ moment_in h

-- An end that waits for its peer behind the headers: it took each whole frame that it read, and has written all that it queued. Its Open
-- is sent, and no Close was read; where its open or accept waits, nothing was read, and where its close waits, its Close is sent. No beat is
-- due unless its Close is sent, and its idle time has not passed (part 2, section 2.4).
pub record RestsBehind (h : List Local) : Type 0 where
  pub rest : List ℕ
  pub read : IsReadTo h rest
  pub part : IsPart rest
  pub out : IsAllOut h
  pub opens : BeginsWithOpen (sent_in h)
  pub heard : (given_in h ≡ []) ⊎ IsGreeted (given_in h)
  pub unclosed : HasClose (given_in h) → ⊥
  pub opening : OpenWaits h → given_in h ≡ []
  pub closing : CloseWaits h → EndsWithClose (sent_in h)
  pub undue : (EndsWithClose (sent_in h) → ⊥) → IsDue (beat_in h) (moment_in h) → ⊥
  pub unelapsed : HasPassed h → ⊥

-- a call was answered by pending alone
abbrev pub HasWaiting : List Local → Type 0
HasWaiting h = OpenWaits h ⊎ CloseWaits h

-- An end whose connection has stopped, and whose transport has not failed: the last that it sent is its Close, and the last that it read is
-- the peer's, or a frame in place of Open (part 2, section 2.4). No call waits, and all that it queued is written, unless the link took no
-- more in these events, or a great many frames were read and queued in them.
pub record HasParted (events h : List Local) : Type 0 where
  pub closes : EndsWithClose (sent_in h)
  pub heard : EndsWithClose (given_in h) ⊎ IsOther (given_in h)
  pub concluded : ((HasWaiting h → ⊥) × (Includes (link_in events) (NotWritten Full) ⊎ IsAllOut h)) ⊎ (2 ^ 62 ≤ 1 + (length (given_in events) + length (sent_in events)))
