-- The lives of links among all links of an end (OASIS AMQP 1.0, part 2, section 2.6).
use Rattle.std.specs.Prelude.{◌≡◌, ℕ, List, ◌++◌, Some}
use Rattle.amqp_links.specs.amqp_link_calls.Called.{Called}
use Rattle.amqp_links.specs.amqp_link_calls.Side.{Sender, Receiver}
use Rattle.amqp_links.specs.State.{State, link_of}
use Rattle.amqp_receiver.specs.Receiver.{State as ReceiverState}
use Rattle.amqp_sender.specs.Sender.{State as SenderState}
use Rattle.session_laws.specs.Messages.{transfers, on}
use Rattle.session_laws.specs.Sending as sending
use Rattle.session_laws.specs.Receiving as receiving
use Rattle.link_lives.specs.Deeds.{Deed, IsDeed, Did, handed, all_handed, IsOther, AreOther, parts_for, parts_in, parts_told, AreApart}
use Rattle.link_lives.specs.Lives.{sender_told, receiver_told}
use Rattle.link_lives.specs.Logs.{Entry, told, own, IsFree, Keeps}

-- What went to the sessions, and what still is to, is what was to go and what the links have told, in order. Each link
-- that stood before, and that no call of the deed makes, goes on by moves that tell what is in the log of it; a receiver
-- has read the Transfers on its handle.
pub record DeedLives (d : Deed) (old new : State) : Type 0 where
  pub log : List Entry
  pub output : handed d ++ new.output ≡ old.output ++ told log
  pub each : (n : ℕ) → IsOther n d → IsFree n old → Keeps n old (own n log) (parts_for d old n) new

-- whatever the links of an end do
abbrev pub OneLinkLives : Type 0
OneLinkLives = (d : Deed) (old new : State) → IsDeed old d new → DeedLives d old new

-- the same over deeds one after another
pub record DeedsLive (ds : List Deed) (old new : State) (did : Did old ds new) : Type 0 where
  pub log : List Entry
  pub output : all_handed ds ++ new.output ≡ old.output ++ told log
  pub each : (n : ℕ) → AreOther n ds → IsFree n old → Keeps n old (own n log) (parts_in old ds new did n) new

abbrev pub LinksLive : Type 0
LinksLive = (ds : List Deed) (old new : State) (did : Did old ds new) → DeedsLive ds old new did

-- A sender that stood before goes on by these moves. Where no other link of its session has its handle, the Transfers on
-- that handle that went to the session, and that still are to, are those that were to go, and those that it has handed
-- over.
pub record SenderGoes (n session : ℕ) (s : SenderState) (ds : List Deed) (old new : State) (did : Did old ds new) : Type 0 where
  pub log : List Entry
  pub moves : List sending.Move
  pub link : Called
  pub stands : link_of n new ≡ Some link
  pub on_session : link.session ≡ session
  pub behind : link.side ≡ Sender (sending.after_all s moves)
  pub tells : own n log ≡ sender_told session s moves
  pub output : all_handed ds ++ new.output ≡ old.output ++ told log
  pub goes : (handle : ℕ) → AreApart handle session n log
      → on handle (parts_told session (all_handed ds ++ new.output))
      ≡ on handle (parts_told session old.output) ++ on handle (transfers (sending.handed_all s moves))

abbrev pub OneSenderLives : Type 0
OneSenderLives =
    (n : ℕ) (l : Called) (s : SenderState) (ds : List Deed) (old new : State) (did : Did old ds new)
    → link_of n old ≡ Some l → l.side ≡ Sender s → AreOther n ds → IsFree n old → SenderGoes n l.session s ds old new did

-- A receiver that stood before goes on by these moves: those Transfers that it has read are the ones that came on its
-- handle.
pub record ReceiverGoes (n session : ℕ) (s : ReceiverState) (ds : List Deed) (old new : State) (did : Did old ds new) : Type 0 where
  pub log : List Entry
  pub moves : List receiving.Move
  pub link : Called
  pub stands : link_of n new ≡ Some link
  pub on_session : link.session ≡ session
  pub behind : link.side ≡ Receiver (receiving.after_all s moves)
  pub tells : own n log ≡ receiver_told session s moves
  pub read : receiving.read moves ≡ parts_in old ds new did n
  pub output : all_handed ds ++ new.output ≡ old.output ++ told log

abbrev pub OneReceiverLives : Type 0
OneReceiverLives =
    (n : ℕ) (l : Called) (s : ReceiverState) (ds : List Deed) (old new : State) (did : Did old ds new)
    → link_of n old ≡ Some l → l.side ≡ Receiver s → AreOther n ds → IsFree n old
    → ReceiverGoes n l.session s ds old new did
