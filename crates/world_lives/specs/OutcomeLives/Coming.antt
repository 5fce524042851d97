-- Outcomes and credit between two ends that made steps from the start (OASIS AMQP 1.0, part 2, sections 2.6.7 and
-- 2.6.12).
use Rattle.std.specs.Prelude.{◌≡◌, ℕ, List, [], Some, flat_map}
use Rattle.amqp_words.specs.declared.step.End.{End as Side}
use Rattle.amqp_calls.specs.declared.step.Step.{Step}
use Rattle.amqp_calls.specs.declared.trace.Entry.{Entry}
use Rattle.amqp_link_calls.specs.Called.{Called}
use Rattle.amqp_link_calls.specs.Side.{Sender, Receiver}
use Rattle.amqp_links.specs.State.{State as Links, link_of}
use Rattle.amqp_receiver.specs.Receiver.{State as ReceiverState}
use Rattle.amqp_sender.specs.Sender.{State as SenderState}
use Rattle.amqp_session.specs.declared.session.SessionState.TheVariants.{Mapped}
use Rattle.amqp_session.specs.State.{State as Session}
use Rattle.amqp_sessions.specs.Parts.{EndpointState}
use Rattle.amqp_sessions.specs.State.{State as Sessions, endpoint_of}
use Rattle.amqp_world.specs.History.{other}
use Rattle.amqp_session_world.specs.Carried.{AreCarried}
use Rattle.session_laws.specs.Crediting.{AreTold, granted, flows_heard}
use Rattle.session_laws.specs.Giving.{IsSilent, given}
use Rattle.session_laws.specs.Handing.{handed_over, inputs}
use Rattle.session_laws.specs.Holding as session
use Rattle.session_laws.specs.Holding.{transfers as transfers_in}
use Rattle.session_laws.specs.Messages.{on as on_handle}
use Rattle.session_laws.specs.Numbering.{Step as Number, inputs_of, AreShort, told, news}
use Rattle.session_laws.specs.Outcomes.{lefts, AreApart as AreTagsApart, Told}
use Rattle.session_laws.specs.Sending as sending
use Rattle.session_laws.specs.Sending.{sent, AllShort}
use Rattle.session_laws.specs.Speaking.{AreAmong, bodies, ruling_in, rulings, flow_on, flows, flows_on, brought}
use Rattle.link_lives.specs.Deeds.{parts_told, AreApart as ArePartsApart}
use Rattle.link_lives.specs.Laws.{ReceiverGoes}
use Rattle.link_lives.specs.Logs.{IsFree}
use Rattle.session_lives.specs.Channels.{IsJoined}
use Rattle.session_lives.specs.Lives.{moves}
use Rattle.session_lives.specs.Logs.{own}
use Rattle.world_lives.specs.EndLives.Laws.{SenderPasses, ReceiverPasses, AreLed}
use Rattle.world_lives.specs.Lived.{Both, sessions_by, links_by, Moment, MomentOf}
use Rattle.world_lives.specs.Hearing.{read_before, written_before}
use Rattle.world_lives.specs.Alone.{StandsAlone, AreElsewhere}
use Rattle.world_lives.specs.Naming.{AreOnce}
use Rattle.world_lives.specs.Arriving.{AreAttached, IsSender, IsReceiver}
use Rattle.world_lives.specs.OutcomeLives.Granting.{Credited}
use Rattle.world_lives.specs.OutcomeLives.Saying.{frames_told, AreApart}

-- A sender of an end that stands at a moment, whose call does not wait, with its session, which both ends have
-- begun, the peer on that channel. Names are used once in the life of the end.
pub record IsHearingSender (c n : ℕ) (l : Called) (t : SenderState) (x : EndpointState) (none : Links) (all : List Both)
    (last : Sessions) (end : Links) (q : Moment none all last end) : Type 0 where
  pub once : AreOnce all
  pub stands : link_of n q.links ≡ Some l
  pub sends : l.side ≡ Sender t
  pub free : IsFree n q.links
  pub session : endpoint_of l.session q.sessions ≡ Some x
  pub mapped : x.session.state ≡ Mapped
  pub joined : IsJoined c x.session

-- A receiver of the other end, with its session: that is on that channel, alone from then on.
pub record IsSpeakingReceiver (c m : ℕ) (d : Called) (u : ReceiverState) (y : EndpointState) (none : Links)
    (all : List Both) (last : Sessions) (end : Links) (p : Moment none all last end) : Type 0 where
  pub once : AreOnce all
  pub stands : link_of m p.links ≡ Some d
  pub receives : d.side ≡ Receiver u
  pub free : IsFree m p.links
  pub session : endpoint_of d.session p.sessions ≡ Some y
  pub channel : y.session.channel ≡ c
  pub alone : StandsAlone c d.session p.sessions
  pub elsewhere : AreElsewhere c (sessions_by p.since)

-- ---- credit

-- The sender has no credit, and no Flow of the link is on its way: what the receiver is still to write says how
-- much it gives, it orders nothing, and the two sessions have no Flow on its handle.
pub record NoCreditIsUnderWay (handle : ℕ) (t : SenderState) (x y : Session) (u : ReceiverState) : Type 0 where
  pub told : AreTold (flows u.link.output)
  pub orders : u.book.orders ≡ []
  pub unsaid : flows_on handle (bodies y.output) ≡ []
  pub unhanded : flows_on handle (brought x.incoming) ≡ []
  pub credit : t.credit ≡ 0

-- The sender hears no Flow but those that its session hands over on that handle, each with a credit of 32 bits.
pub record HearsItsFlows (handle : ℕ) (ms : List sending.Move) (x : Session) (ns : List session.Move) : Type 0 where
  pub learns : AreAmong (flows_heard ms) (flows_on handle (brought (handed_over x ns)))
  pub short : AllShort ms

-- Both go on by moves. Where no Flow of the link was on its way at the two moments, no other link of the receiver's
-- session writes one on its handle, and the sender hears its own alone: the sender sends by credit that the
-- receiver has given.
pub record CreditComes (c handle m n : ℕ) (d l : Called) (u : ReceiverState) (t : SenderState) (y x : EndpointState)
    (none : Links) (all : List Both) (last : Sessions) (end : Links) (p : Moment none all last end)
    (none' : Links) (all' : List Both) (last' : Sessions) (end' : Links) (q : Moment none' all' last' end')
    : Type 0 where
  pub receiver : ReceiverGoes m d.session u (links_by p.since) p.links end p.goes.links_did
  pub sends : SenderPasses n l.session t x q.sessions (sessions_by q.since) last' q.links (links_by q.since) end'
      q.goes
  pub comes : flows_on handle (bodies (read_before c none' all' last' end' q))
      ≡ flows_on handle (bodies (written_before c none all last end p))
      → flat_map (flow_on handle) (frames_told d.session p.links.output) ≡ []
      → AreApart (flow_on handle) d.session m receiver.log
      → NoCreditIsUnderWay handle t x.session y.session u
      → HearsItsFlows handle sends.sender.moves x.session (moves sends.life.steps)
      → Credited t sends.sender.moves (granted u receiver.moves)

-- whichever of the two ends the sender is at
abbrev pub CreditIsCarried : Type 0
CreditIsCarried =
    (e : Side) (steps : List Step) (entries : List Entry) (k : AreCarried steps entries) (c handle : ℕ)
    (p : MomentOf e steps entries k.made) (m : ℕ) (d : Called) (u : ReceiverState) (y : EndpointState)
    (q : MomentOf (other e) steps entries k.made) (n : ℕ) (l : Called) (t : SenderState) (x : EndpointState)
    → IsSpeakingReceiver c m d u y _ _ _ _ p → IsHearingSender c n l t x _ _ _ _ q
    → CreditComes c handle m n d l u t y x _ _ _ _ p _ _ _ _ q

-- ---- outcomes

-- Nothing was said of deliveries, and none had left: by the receiver, in the two sessions, and to the sender.
pub record NoOutcomeIsUnderWay (t : SenderState) (x y : Session) (u : ReceiverState) : Type 0 where
  pub silent : IsSilent u
  pub unsaid : rulings (bodies y.output) ≡ []
  pub unhanded : rulings (brought x.incoming) ≡ []
  pub unleft : lefts x.incoming ≡ []
  pub unsettled : t.unsettled ≡ []
  pub unknown : t.settlements ≡ []

-- The sender hears of deliveries what the table of numbers says, which its links keep of what its session hands
-- over; no two of its messages have one tag, and numbers have 32 bits.
pub record HearsItsOutcomes (handle : ℕ) (t : SenderState) (ms : List sending.Move) (x : Session)
    (ns : List session.Move) : Type 0 where
  pub steps : List Number
  pub reads : AreAmong (inputs_of steps) (handed_over x ns)
  pub short : AreShort steps
  pub learns : AreAmong (news ms) (told handle [] steps)
  pub apart : AreTagsApart (sent t ms)

-- Both go on by moves. Where messages arrive, no Disposition of the receiver was on its way at the two moments, no
-- other link of the receiver's session writes one, and the sender hears what its table of numbers says: an outcome
-- that the sender knows of a message is one that the receiver has given the delivery of its number, or Accepted
-- where the message was sent settled.
pub record OutcomesCome (c back handle m n : ℕ) (d l : Called) (u : ReceiverState) (t : SenderState)
    (y x : EndpointState) (none : Links) (all : List Both) (last : Sessions) (end : Links)
    (p : Moment none all last end) (none' : Links) (all' : List Both) (last' : Sessions) (end' : Links)
    (q : Moment none' all' last' end') : Type 0 where
  pub receives : ReceiverPasses m d.session u y p.sessions (sessions_by p.since) last p.links (links_by p.since) end
      p.goes
  pub sends : SenderPasses n l.session t x q.sessions (sessions_by q.since) last' q.links (links_by q.since) end'
      q.goes
  pub come : on_handle handle (transfers_in (read_before c none all last end p))
      ≡ on_handle handle (transfers_in (written_before c none' all' last' end' q))
      → ArePartsApart handle l.session n sends.sender.log → on_handle handle (parts_told l.session q.links.output) ≡ []
      → AreLed handle d.session m p.links (links_by p.since) end p.goes.links_did
      → on_handle handle (inputs (own d.session p.sessions.incoming)) ≡ []
      → AreAttached handle t x.session (moves sends.life.steps) y.session u
      → rulings (bodies (read_before back none' all' last' end' q))
      ≡ rulings (bodies (written_before back none all last end p))
      → flat_map ruling_in (frames_told d.session p.links.output) ≡ []
      → AreApart ruling_in d.session m receives.receiver.log
      → NoOutcomeIsUnderWay t x.session y.session u
      → HearsItsOutcomes handle t sends.sender.moves x.session (moves sends.life.steps)
      → Told t sends.sender.moves u receives.receiver.moves (given u receives.receiver.moves)

-- The sender's session is on the one channel, and the receiver's on the other.
abbrev pub OutcomesAreCarried : Type 0
OutcomesAreCarried =
    (e : Side) (steps : List Step) (entries : List Entry) (k : AreCarried steps entries) (c back handle : ℕ)
    (p : MomentOf e steps entries k.made) (m : ℕ) (d : Called) (u : ReceiverState) (y : EndpointState)
    (q : MomentOf (other e) steps entries k.made) (n : ℕ) (l : Called) (t : SenderState) (x : EndpointState)
    → IsReceiver c m d u y _ _ _ _ p → IsSpeakingReceiver back m d u y _ _ _ _ p
    → IsSender c n l t x _ _ _ _ q → IsHearingSender back n l t x _ _ _ _ q
    → OutcomesCome c back handle m n d l u t y x _ _ _ _ p _ _ _ _ q
