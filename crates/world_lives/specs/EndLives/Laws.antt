-- The life of a link of an end, and of its session (OASIS AMQP 1.0, part 2, sections 2.5 and 2.6).
use Rattle.std.specs.Prelude.{◌≡◌, ℕ, List, [], ◌∷◌, ◌++◌, Some}
use Rattle.amqp_wire.specs.declared.link.Link.{Ghosts}
use Rattle.amqp_parts.specs.declared.part.Part.{Part}
use Rattle.amqp_peer.specs.Peering.{Peering}
use Rattle.amqp_receiver.specs.Receiver.{State as ReceiverState}
use Rattle.amqp_sender.specs.Sender.{State as SenderState}
use Rattle.amqp_session.specs.declared.session.LinkInput.TheVariants as input
use Rattle.amqp_session.specs.declared.session.SessionState.TheVariants.{Mapped}
use Rattle.amqp_link_calls.specs.Called.{Called}
use Rattle.amqp_link_calls.specs.Side.{Sender, Receiver}
use Rattle.amqp_links.specs.Hearing.{link_from_at}
use Rattle.amqp_links.specs.State.{State as Links, place_of, link_of}
use Rattle.amqp_sessions.specs.Parts.{EndpointState}
use Rattle.amqp_sessions.specs.State.{State as Sessions, endpoint_of}
use Rattle.amqp_end.specs.Deeds as end
use Rattle.session_laws.specs.Messages.{transfers, on}
use Rattle.session_laws.specs.Handing.{inputs, handed_over}
use Rattle.session_laws.specs.Holding.{told}
use Rattle.session_laws.specs.Sending as sending
use Rattle.session_laws.specs.Receiving as receiving
use Rattle.link_lives.specs.Deeds as links
use Rattle.link_lives.specs.Deeds.{parts_told, AreApart}
use Rattle.link_lives.specs.Laws.{SenderGoes, ReceiverGoes}
use Rattle.link_lives.specs.Logs.{IsFree}
use Rattle.session_lives.specs.Deeds as sessions
use Rattle.session_lives.specs.Laws.{SessionLives}
use Rattle.session_lives.specs.Lives.{moves}
use Rattle.session_lives.specs.Logs.{AreKeyed, own}
use Rattle.world_lives.specs.EndLives.Ends.{sessions_in, links_in, Together}

-- whatever an end does, its sessions and its links do that together
abbrev pub EndsDo : {L : Type 0} → Ghosts L → Type 0
EndsDo {L} link =
    (at : ℕ) (p : Peering L) (s : Sessions) (l : Links) (ds : List end.Deed) (p' : Peering L) (s' : Sessions) (l' : Links)
    (h : end.Did link at p s l ds p' s' l') → Together s (sessions_in ds) s' l (links_in link at p s l ds p' s' l' h) l'

-- the one list begins with the other
pub record IsFront (some all : List Part) : Type 0 where
  pub rest : List Part
  pub front : some ++ rest ≡ all

-- A sender and its session go on, each by its moves. The Transfers on a handle that the session takes while both ends have
-- begun it are a front of those that the sender writes, where no other link has written there and none is on its way.
pub record SenderPasses (n session : ℕ) (t : SenderState) (e : EndpointState) (s : Sessions) (sd : List sessions.Deed)
    (s' : Sessions) (l : Links) (ld : List links.Deed) (l' : Links) (k : Together s sd s' l ld l') : Type 0 where
  pub sender : SenderGoes n session t ld l l' k.links_did
  pub life : SessionLives session e sd s s' k.sessions_did
  pub takes : (handle : ℕ) → AreApart handle session n sender.log → on handle (parts_told session l.output) ≡ []
      → IsFront (on handle (told e.session (moves life.steps))) (on handle (transfers (sending.written t sender.moves)))

abbrev pub SendersPass : Type 0
SendersPass =
    (n : ℕ) (c : Called) (t : SenderState) (e : EndpointState) (s : Sessions) (sd : List sessions.Deed) (s' : Sessions)
    (l : Links) (ld : List links.Deed) (l' : Links) (k : Together s sd s' l ld l')
    → AreKeyed s → endpoint_of c.session s ≡ Some e → e.session.state ≡ Mapped → sessions.AreOther c.session sd
    → link_of n l ≡ Some c → c.side ≡ Sender t → links.AreOther n ld → IsFree n l
    → SenderPasses n c.session t e s sd s' l ld l' k

-- that handle of the peer on that session leads to the link, and no other does
pub record IsLed (handle session n : ℕ) (l : Links) : Type 0 where
  pub leads : link_from_at handle (place_of session l) ≡ Some n
  pub alone : (other remote : ℕ) → link_from_at remote (place_of other l) ≡ Some n → (other ≡ session) × (remote ≡ handle)

-- it is so as each Transfer is heard
abbrev pub IsLedAt : ℕ → ℕ → ℕ → links.Deed → Links → Type 0
IsLedAt handle session n (links.Hears name (input.Transfer x payload)) l = IsLed handle session n l
IsLedAt handle session n d l = Unit {0}

abbrev pub AreLed : (handle session n : ℕ) (l : Links) (ld : List links.Deed) (l' : Links) → links.Did l ld l' → Type 0
AreLed handle session n l [] l' h = Unit {0}
AreLed handle session n l (d ∷ ds) l' h = IsLedAt handle session n d l × AreLed handle session n h.0 ds l' h.1.1

-- A receiver and its session go on, each by its moves. The Transfers that the receiver reads are a front of those on the peer's
-- handle that the session hands over, as long as that handle leads to it, and where none is on its way.
pub record ReceiverPasses (n session : ℕ) (t : ReceiverState) (e : EndpointState) (s : Sessions) (sd : List sessions.Deed)
    (s' : Sessions) (l : Links) (ld : List links.Deed) (l' : Links) (k : Together s sd s' l ld l') : Type 0 where
  pub receiver : ReceiverGoes n session t ld l l' k.links_did
  pub life : SessionLives session e sd s s' k.sessions_did
  pub reads : (handle : ℕ) → AreLed handle session n l ld l' k.links_did → on handle (inputs (own session s.incoming)) ≡ []
      → IsFront (receiving.read receiver.moves) (on handle (inputs (handed_over e.session (moves life.steps))))

abbrev pub ReceiversPass : Type 0
ReceiversPass =
    (n : ℕ) (c : Called) (t : ReceiverState) (e : EndpointState) (s : Sessions) (sd : List sessions.Deed) (s' : Sessions)
    (l : Links) (ld : List links.Deed) (l' : Links) (k : Together s sd s' l ld l')
    → AreKeyed s → endpoint_of c.session s ≡ Some e → sessions.AreOther c.session sd
    → link_of n l ≡ Some c → c.side ≡ Receiver t → links.AreOther n ld → IsFree n l
    → ReceiverPasses n c.session t e s sd s' l ld l' k
