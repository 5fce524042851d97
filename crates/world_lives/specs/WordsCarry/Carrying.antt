-- Credit between two ends that made steps from the start, whose tables agree with their links (OASIS AMQP 1.0, part 2,
-- section 2.6.7).
use Rattle.std.specs.Prelude.{◌≡◌, ℕ, List, [], Some, flat_map}
use Rattle.amqp_words.specs.declared.step.End.{End as Side}
use Rattle.amqp_calls.specs.declared.step.Step.{Step}
use Rattle.amqp_calls.specs.declared.trace.Entry.{Entry}
use Rattle.amqp_link_calls.specs.Called.{Called}
use Rattle.amqp_link_calls.specs.Side.{Sender, Receiver}
use Rattle.amqp_links.specs.State.{State as Links, place_of, link_of}
use Rattle.amqp_receiver.specs.Receiver.{State as ReceiverState}
use Rattle.amqp_sender.specs.Sender.{State as SenderState}
use Rattle.amqp_session.specs.declared.session.SessionState.TheVariants.{Mapped}
use Rattle.amqp_sessions.specs.Parts.{EndpointState}
use Rattle.amqp_sessions.specs.State.{State as Sessions, endpoint_of}
use Rattle.amqp_world.specs.History.{other}
use Rattle.amqp_session_world.specs.Carried.{AreCarried}
use Rattle.session_laws.specs.Crediting.{granted}
use Rattle.session_laws.specs.Handing.{handed_over}
use Rattle.session_laws.specs.Speaking.{bodies, brought, flow_on, flows_on}
use Rattle.link_lives.specs.Laws.{ReceiverGoes}
use Rattle.session_lives.specs.Channels.{IsJoined}
use Rattle.session_lives.specs.Lives.{moves}
use Rattle.session_lives.specs.Logs.{own}
use Rattle.world_lives.specs.EndLives.Laws.{SenderPasses}
use Rattle.world_lives.specs.Lived.{Both, sessions_by, links_by, Moment, MomentOf}
use Rattle.world_lives.specs.Hearing.{read_before, written_before}
use Rattle.world_lives.specs.Alone.{StandsAlone, AreElsewhere}
use Rattle.world_lives.specs.Naming.{AreOnce}
use Rattle.link_tables_agree.specs.Leads.{Leads, AreClear, attaches_at, AreQuiet}
use Rattle.world_lives.specs.OutcomeLives.Coming.{NoCreditIsUnderWay}
use Rattle.world_lives.specs.OutcomeLives.Granting.{Credited}
use Rattle.world_lives.specs.OutcomeLives.Saying.{frames_told, AreApart}
use Rattle.world_lives.specs.WordsCarry.Hearing.{GiveShort}

-- A sender of an end that stands at a moment, with its session, which both ends have begun, the peer on that channel.
-- A handle of the peer leads to the sender, and no Attach that waits is on that handle; from then on the peer neither
-- detaches the link nor attaches it, or another on that handle, again.
pub record Listens (c handle n : ℕ) (l : Called) (t : SenderState) (x : EndpointState) (none : Links)
    (all : List Both) (last : Sessions) (end : Links) (q : Moment none all last end) : Type 0 where
  pub once : AreOnce all
  pub stands : link_of n q.links ≡ Some l
  pub sends : l.side ≡ Sender t
  pub session : endpoint_of l.session q.sessions ≡ Some x
  pub mapped : x.session.state ≡ Mapped
  pub joined : IsJoined c x.session
  pub leads : Leads handle l.session n q.links
  pub clear : AreClear handle (attaches_at (place_of l.session q.links))
  pub quiet : AreQuiet handle l.session n q.links (links_by q.since) end q.goes.links_did

-- a receiver of the other end, with its session: that is on that channel, alone from then on
pub record Grants (c m : ℕ) (d : Called) (u : ReceiverState) (y : EndpointState) (none : Links) (all : List Both)
    (last : Sessions) (end : Links) (p : Moment none all last end) : Type 0 where
  pub once : AreOnce all
  pub stands : link_of m p.links ≡ Some d
  pub receives : d.side ≡ Receiver u
  pub session : endpoint_of d.session p.sessions ≡ Some y
  pub channel : y.session.channel ≡ c
  pub alone : StandsAlone c d.session p.sessions
  pub elsewhere : AreElsewhere c (sessions_by p.since)

-- Both go on by moves. Where no Flow of the link was on its way at the two moments, in the two links, the two sessions,
-- what is between those, or the connection, no other link of the receiver's session writes one on its handle, and
-- credit is a number of 32 bits: the sender sends by credit that the receiver has given.
pub record Carries (c handle m n : ℕ) (d l : Called) (u : ReceiverState) (t : SenderState) (y x : EndpointState)
    (none : Links) (all : List Both) (last : Sessions) (end : Links) (p : Moment none all last end)
    (none' : Links) (all' : List Both) (last' : Sessions) (end' : Links) (q : Moment none' all' last' end')
    : Type 0 where
  pub receiver : ReceiverGoes m d.session u (links_by p.since) p.links end p.goes.links_did
  pub sends : SenderPasses n l.session t x q.sessions (sessions_by q.since) last' q.links (links_by q.since) end'
      q.goes
  pub comes : flows_on handle (bodies (read_before c none' all' last' end' q))
      ≡ flows_on handle (bodies (written_before c none all last end p))
      → flat_map (flow_on handle) (frames_told d.session p.links.output) ≡ []
      → AreApart (flow_on handle) d.session m receiver.log
      → flows_on handle (brought (own l.session q.sessions.incoming)) ≡ []
      → NoCreditIsUnderWay handle t x.session y.session u
      → GiveShort (flows_on handle (brought (handed_over x.session (moves sends.life.steps))))
      → Credited t sends.sender.moves (granted u receiver.moves)

-- whichever of the two ends the sender is at
abbrev pub AgreedCreditCarries : Type 0
AgreedCreditCarries =
    (e : Side) (steps : List Step) (entries : List Entry) (k : AreCarried steps entries) (c handle : ℕ)
    (p : MomentOf e steps entries k.made) (m : ℕ) (d : Called) (u : ReceiverState) (y : EndpointState)
    (q : MomentOf (other e) steps entries k.made) (n : ℕ) (l : Called) (t : SenderState) (x : EndpointState)
    → Grants c m d u y _ _ _ _ p → Listens c handle n l t x _ _ _ _ q
    → Carries c handle m n d l u t y x _ _ _ _ p _ _ _ _ q
