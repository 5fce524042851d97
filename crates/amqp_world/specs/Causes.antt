-- Why something was replied: there is a history of the end, step by step that of the trace, in which each reply has its cause.
use Rattle.std.specs.Prelude.{◌≡◌, ◌⊎◌, ◌≤◌, ◌+◌, ◌^◌, List, ℕ, [], ◌∷◌, ◌++◌, length, Bool, true, false}
use Rattle.amqp_wire.specs.Events.{reads_in}
use Rattle.amqp_engine.specs.Heard.{AllUnclosed}
use Rattle.amqp_words.specs.declared.step.End.{End}
use Rattle.amqp_words.specs.declared.step.End.TheVariants.{Client, Listener}
use Rattle.amqp_peer.specs.History.{Local, link_in, made_in, given_in, sent_in, replied_in, read_in, wrote_in, IsInside, Once}
use Rattle.amqp_peer.specs.Beats.{AllBeats}
use Rattle.amqp_peer.specs.Causes.{AllCaused, IsTied, IsTakenUp, IsRefusedAt, IsSpent}
use Rattle.amqp_peer.specs.Replies.{AreReplies}
use Rattle.amqp_peer.specs.Said.{HasSaid}
use Rattle.amqp_peer.specs.Layers.{layer_in, HasLayer}
use Rattle.amqp_ends.specs.Joined.{IsCalm, NoneCloses}
use Rattle.amqp_ends.specs.Quiet.{IsFew}
use Rattle.amqp_ends.specs.Wants.{Wants}
use Rattle.amqp_ends.specs.Gates.{Agree}
use Rattle.amqp_ends.specs.Passes.{NeitherIsVast, IsThrough}
use Rattle.amqp_world.specs.History.{Event, is_same, other, calls, wrote, read, begun}

-- a step of 2^62 reads, or of so many frames
abbrev pub IsVast : List Local → Type 0
IsVast inside = (2 ^ 62 ≤ reads_in (link_in inside)) ⊎ (2 ^ 62 ≤ length (given_in inside) + length (sent_in inside))

-- What an event adds to the history of its end: its call or poll at its moment, and behind it the replies and the bytes of its entry.
-- What was read by then are the first of the bytes that were moved there; these are all, and each whole frame of them was taken, unless
-- the end does not go on.
pub record Adds (e : End) (x : Event) (past : List Event) (before h : List Local) : Type 0 where
  pub inside : List Local
  pub within : IsInside inside
  pub is : h ≡ inside ++ begun x.step.at (length past) x.step.act ∷ before
  pub replies : replied_in inside ≡ x.entry.replies
  pub writes : wrote_in inside ≡ x.entry.wrote
  pub left : List ℕ
  pub reads : read_in h ++ left ≡ read e (x ∷ past)
  pub all : ((left ≡ []) × IsTakenUp h) ⊎ (IsSpent h ⊎ IsVast inside)

-- the first of two facts, or the second
abbrev pub Choose : Bool → Type 0 → Type 0 → Type 0
Choose true near far = near
Choose false near far = far

-- a history of an end follows the past: each event there adds what it did
abbrev pub Follows : End → List Event → List Local → Type 0
Follows e [] h = h ≡ []
Follows e (x ∷ past) h = Choose (is_same e x.step.end) ((before : List Local) × Adds e x past before h × Follows e past before) (Follows e past h)

-- nobody has called close
abbrev pub NobodyCloses : List Event → Type 0
NobodyCloses past = (e : End) → NoneCloses (calls e past)

-- nothing is in flight to either end
abbrev pub NothingInFlight : List Event → Type 0
NothingInFlight past = (e : End) → read e past ≡ wrote (other e) past

-- An end has a history that follows the past, over a link that did not fail: its frames are those of its bytes, each Close that it says has
-- its cause, as has each reply, in what happened before it; of a SASL layer it wrote three frames at most (part 5, section 5.3.2); it
-- says no Close while nobody has called close (part 2, section 2.4.3); and no frame that came was refused for its size (section 2.4.1).
-- Each empty frame was queued by a beat that was due (section 2.4.5). Its replies are those of its calls, in order.
pub record IsHistoried (e : End) (past : List Event) : Type 0 where
  pub h : List Local
  pub follows : Follows e past h
  pub calm : IsCalm (link_in h)
  pub tied : IsTied h
  pub layer : HasLayer (layer_in (made_in h)) h
  pub few : IsFew h
  pub said : HasSaid h
  pub beats : AllBeats h
  pub replies : AreReplies (made_in h) (replied_in h)
  pub caused : AllCaused h
  pub unclosed : NobodyCloses past → AllUnclosed (sent_in h)
  pub unrefused : Once IsRefusedAt h → ⊥

-- both ends were called, with layers that agree, and nothing is in flight
pub record AreAgreeing (past : List Event) (h far : List Local) : Type 0 where
  pub still : NothingInFlight past
  pub called : (e : End) → 1 ≤ length (calls e past)
  pub agreed : Agree (layer_in (calls Client past)) (layer_in (calls Listener past))
  pub few : NeitherIsVast h far

-- Both ends have such histories. Where nothing is in flight, an open or accept that waits does so for the call of the other end, and a close
-- for nothing, unless the connection has failed or is at its end (part 2, sections 2.4.1 and 2.4.3). Where their layers agree besides, the
-- check of each holds, and both have written their AMQP header (part 5, section 5.3.2).
pub record Histories (past : List Event) : Type 0 where
  pub client : IsHistoried Client past
  pub listener : IsHistoried Listener past
  pub wants : NothingInFlight past → Wants client.h listener.h × Wants listener.h client.h
  pub passes : AreAgreeing past client.h listener.h → IsThrough client.h × IsThrough listener.h
