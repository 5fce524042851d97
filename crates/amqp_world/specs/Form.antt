-- The form of the replies.
use Rattle.std.specs.Prelude.{◌≡◌, ◌⊎◌, ◌==◌, List, ℕ, [], ◌∷◌, if◌then◌else◌, length, ⊤}
use Rattle.amqp_words.specs.declared.call.Call as peer_call
use Rattle.amqp_words.specs.declared.call.Call.TheVariants.{Open, Accept, Close}
use Rattle.amqp_words.specs.declared.reply.Reply.{Reply}
use Rattle.amqp_words.specs.declared.reply.Reply.TheVariants.{Pending, Connection, Closed, OpenError, ConnectionError}
use Rattle.amqp_words.specs.declared.reply.NamedReply.{NamedReply}
use Rattle.amqp_peer.specs.Replies.{answered, texts_refused, IsCloseEnd}
use Rattle.amqp_words.specs.declared.step.End.{End}
use Rattle.amqp_words.specs.declared.step.Act.{Act}
use Rattle.amqp_words.specs.declared.step.Act.TheVariants.{Take, TakeAll, Call}
use Rattle.amqp_world.specs.History.{Event, calls, replied}

-- one of these calls has the name
abbrev pub IsNamed : List (ℕ × peer_call.Call) → ℕ → Type 0
IsNamed [] name = ⊥
IsNamed (made ∷ calls) name = (made.0 ≡ name) ⊎ IsNamed calls name

-- each of these replies names one of these calls
abbrev pub AreNamed : List (ℕ × peer_call.Call) → List NamedReply → Type 0
AreNamed calls [] = ⊤
AreNamed calls (r ∷ rs) = IsNamed calls r.name × AreNamed calls rs

-- what a call is replied first: an open or accept waits, or its user or password is refused at once, and a close waits or has its answer
-- at once
abbrev pub IsFirstReply : peer_call.Call → Reply → Type 0
IsFirstReply (Open settings host sasl) r = (r ≡ Pending) ⊎ (r ≡ OpenError texts_refused)
IsFirstReply (Accept settings sasl) r = (r ≡ Pending) ⊎ (r ≡ OpenError texts_refused)
IsFirstReply (Close error) r = (r ≡ Pending) ⊎ IsCloseEnd r

-- a call, whose name is its step's position, is replied to in its own step, before anything else is replied there
abbrev pub RepliesAtOnce : ℕ → Act → List NamedReply → Type 0
RepliesAtOnce name (Take n) replies = ⊤
RepliesAtOnce name TakeAll replies = ⊤
RepliesAtOnce name (Call call) replies = (r : Reply) × (rest : List NamedReply) × IsFirstReply call r × (replies ≡ answered name r ∷ rest)

-- the replies to a name, in order
abbrev pub replies_to : ℕ → List NamedReply → List Reply
replies_to name [] = []
replies_to name (r ∷ rs) = if name == r.name then r.reply ∷ replies_to name rs else replies_to name rs

-- a reply after which a call gets no other
abbrev pub IsFinal : Reply → Type 0
IsFinal Pending = ⊥
IsFinal Connection = ⊤
IsFinal Closed = ⊤
IsFinal (OpenError e) = ⊤
IsFinal (ConnectionError e) = ⊤

-- none of these replies is pending
abbrev pub HasNoPending : List Reply → Type 0
HasNoPending [] = ⊤
HasNoPending (r ∷ rs) = (r ≡ Pending → ⊥) × HasNoPending rs

-- pending stands at most at the front
abbrev pub IsPendingFirst : List Reply → Type 0
IsPendingFirst [] = ⊤
IsPendingFirst (r ∷ rs) = HasNoPending rs

-- nothing follows a final reply
abbrev pub EndsWhenFinal : List Reply → Type 0
EndsWhenFinal [] = ⊤
EndsWhenFinal (r ∷ rs) = (IsFinal r → rs ≡ []) × EndsWhenFinal rs

-- the replies to one call, in order: pending at most once and first, and nothing after a final one
pub record IsOrderly (replies : List Reply) : Type 0 where
  pub first : IsPendingFirst replies
  pub last : EndsWhenFinal replies

-- the replies of an event after a past
pub record Form (x : Event) (past : List Event) : Type 0 where
  pub at_once : RepliesAtOnce (length past) x.step.act x.entry.replies
  pub named : AreNamed (calls x.step.end (x ∷ past)) x.entry.replies
  pub orderly : (e : End) (name : ℕ) → IsOrderly (replies_to name (replied e (x ∷ past)))
