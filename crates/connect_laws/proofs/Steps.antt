-- What the links of an end do that attach senders alone, message by message: the steps that all of it is made of.
use Rattle.std.specs.Prelude.{◌≡◌, ℕ, false, List, [], Option, Some, None}
use Rattle.amqp_composites.specs.declared.modes.Role.{Role}
use Rattle.amqp_link_calls.specs.Answering.{answers_taken}
use Rattle.amqp_link_calls.specs.Called.{Called, sender_asked}
use Rattle.amqp_link_calls.specs.Called as called
use Rattle.amqp_link_calls.specs.Calling.{token_of, having_sent, outcome_asked}
use Rattle.amqp_link_calls.specs.Hearing as hears
use Rattle.amqp_link_calls.specs.Leaving.{wants_handle}
use Rattle.amqp_link_tables.specs.declared.deliveries.Delivered.{Delivered}
use Rattle.amqp_link_words.specs.declared.link_call.Sendable.{Sendable}
use Rattle.amqp_link_words.specs.declared.link_reply.LinkReply.{LinkReply}
use Rattle.amqp_link_words.specs.declared.link_reply.LinkReply.TheVariants as reply
use Rattle.amqp_performatives.specs.declared.attach.Attach.{Attach}
use Rattle.amqp_performatives.specs.declared.disposition.Disposition.{Disposition}
use Rattle.amqp_frames.specs.declared.shared.SessionStopReason.{SessionStopReason}
use Rattle.amqp_sender.specs.declared.settings.SenderSettings.{SenderSettings}
use Rattle.amqp_session.specs.declared.session.LeftDelivery.{LeftDelivery}
use Rattle.amqp_session.specs.declared.session.LinkInput.{LinkInput}
use Rattle.amqp_session.specs.declared.session.LinkInput.TheVariants as input
use Rattle.amqp_session_links.specs.Claims.{released, spending, claiming, joined, parted}
use Rattle.amqp_session_links.specs.Incoming.{attach_pushed, kept}
use Rattle.amqp_session_links.specs.Numbers as numbers
use Rattle.amqp_session_links.specs.State.{State as Place, awaiting_answer, attach_ended, accept_taken, stopped}
use Rattle.amqp_links.specs.Accepting.{accept_of}
use Rattle.amqp_links.specs.Attaching.{standing}
use Rattle.amqp_links.specs.Numbering.{receives_at}
use Rattle.amqp_links.specs.Parts.{Told, emptied, heard, disposition_heard}
use Rattle.amqp_links.specs.Settling.{delivery_at}
use Rattle.amqp_links.specs.State.{State, place_of, link_of, with_link, at_place, entered, answering, answering_all}
use Rattle.amqp_links.specs.Timing.{send_kept}
use Rattle.connect_laws.proofs.Ranges.{IsIn}

-- what the links of a session share goes on
pub data PlaceStep : Type 0 where
  ends_attach : PlaceStep
  spends : List ℕ → PlaceStep
  releases : ℕ → ℕ → PlaceStep
  claims : List ℕ → Role → ℕ → Option ℕ → PlaceStep
  awaits_answer : ℕ → PlaceStep
  takes_accept : PlaceStep
  pushes_attach : Attach → PlaceStep
  keeps : ℕ → LinkInput → PlaceStep
  parts : ℕ → PlaceStep
  joins : ℕ → ℕ → PlaceStep
  forgets : Role → ℕ → PlaceStep
  stops : SessionStopReason → PlaceStep

abbrev pub on_place : PlaceStep → Place → Place
on_place ends_attach p = attach_ended p
on_place (spends name) p = spending name p
on_place (releases handle link) p = released handle link p
on_place (claims name role link max) p = (claiming name role link max p).state
on_place (awaits_answer link) p = awaiting_answer link p
on_place takes_accept p = accept_taken p
on_place (pushes_attach x) p = attach_pushed x p
on_place (keeps remote x) p = kept remote x p
on_place (parts remote) p = parted remote p
on_place (joins remote link) p = joined remote link p
on_place (forgets teller number) p = numbers.forgotten teller number p
on_place (stops why) p = stopped why p

-- a link goes on
pub data LinkStep : Type 0 where
  empties : LinkStep
  hears_attach : Attach → LinkStep
  hears_frame : LinkInput → LinkStep
  hears_stop : SessionStopReason → LinkStep

abbrev pub on_link : LinkStep → Called → Called
on_link empties l = emptied l
on_link (hears_attach x) l = hears.attach_read x l
on_link (hears_frame x) l = heard x l
on_link (hears_stop why) l = called.stopped why l

-- an answer that tells no outcome
abbrev pub IsPlain : LinkReply → Type 0
IsPlain (reply.Outcome x) = ⊥
IsPlain other = Unit {0}

-- What is kept by each step, of calls of these names and of what these sessions have for the links: no link accepts one of the peer or receives,
-- none is left, and no call has a time.
pub record Closed (Q : ℕ → Type 0) (Heard : ℕ → LinkInput → Type 0) (J : State → Type 0) : Type 0 where
  pub place : (x : PlaceStep) (session : ℕ) (s : State) → J s → J (at_place session (on_place x) s)
  pub enters : (x : LeftDelivery) (session : ℕ) (s : State) → Heard session (input.Left x) → J s → J (at_place session (numbers.entered x) s)
  pub knows : (session : ℕ) (s : State) → J s → J (entered session s)
  pub link : (x : LinkStep) (n : ℕ) (l : Called) (s : State) → link_of n s ≡ Some l → J s → J (with_link n (on_link x l) s)
  pub asks : (name place n : ℕ) (l : Called) (s : State) → Q name → link_of n s ≡ Some l → J s → J (with_link n (outcome_asked name place l) s)
  pub settle : (session number : ℕ) (d : Disposition) (x : Delivered) (l : Called) (s : State) → Heard session (input.Disposition d) → IsIn d number
      → delivery_at d.role number (place_of session s) ≡ Some x → link_of x.link s ≡ Some l → J s
      → J (with_link x.link (disposition_heard (record { delivery_id = number; delivery_tag = x.tag }) d.settled d.state l) s)
  pub stands : (name session : ℕ) (settings : SenderSettings) (handle : ℕ) (s : State) → Q name → J s → J (standing name (sender_asked name session settings handle) s)
  pub sends : (name n : ℕ) (x : Sendable) (l : Called) (s : State) → Q name → link_of n s ≡ Some l → J s
      → J (send_kept name n (token_of x l.side) (with_link n (having_sent x l) s))
  pub plain : (name : ℕ) (x : LinkReply) (s : State) → IsPlain x → J s → J (answering name x s)
  pub answers : (name : ℕ) (x : LinkReply) (s : State) → Q name → J s → J (answering name x s)
  pub tells : (n : ℕ) (l : Called) (s : State) → link_of n s ≡ Some l → J s → J (answering_all l.answers (with_link n (answers_taken l) s))
  pub concludes : (n : ℕ) (l : Called) (s : State) → link_of n s ≡ Some l → J s
      → J (answering_all (hears.concluded l).answers (with_link n (answers_taken (hears.concluded l)) s))
  pub output : (xs : List Told) (s : State) → J s → J (record s { output = xs })
  pub moment : (at : ℕ) (s : State) → J s → J (record s { moment = at })
  pub quiet : (s : State) → J s → J (record s { replies = [] })
  pub untimed : (s : State) → J s → s.timed ≡ []
  pub none_timed : (s : State) → J s → J (record s { timed = [] })
  pub sender : (n : ℕ) (s : State) → J s → receives_at (link_of n s) ≡ false
  pub stays : (n : ℕ) (l : Called) (s : State) → link_of n s ≡ Some l → J s → wants_handle l ≡ false
  pub accepts_none : (session : ℕ) (s : State) → J s → accept_of (place_of session s) ≡ None
  pub asked_alone : (s : State) → J s → s.accepts ≡ false
