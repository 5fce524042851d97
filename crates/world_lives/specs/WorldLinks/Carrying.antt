-- A link between two ends that made steps from the start, whose tables agree with their links (OASIS AMQP 1.0,
-- part 2, section 2.6).
use Rattle.std.specs.Prelude.{◌≡◌, ℕ, Bool, true, List, [], Some}
use Rattle.amqp_words.specs.declared.step.End.{End as Side}
use Rattle.amqp_calls.specs.declared.step.Step.{Step}
use Rattle.amqp_calls.specs.declared.trace.Entry.{Entry}
use Rattle.amqp_link_calls.specs.Called.{Called}
use Rattle.amqp_link_calls.specs.Side.{Sender, Receiver}
use Rattle.amqp_links.specs.Parts.{is_heard}
use Rattle.amqp_links.specs.State.{State as Links, no_links, place_of, link_of}
use Rattle.amqp_receiver.specs.Receiver.{State as ReceiverState}
use Rattle.amqp_sender.specs.Sender.{State as SenderState}
use Rattle.amqp_session.specs.declared.session.SessionState.TheVariants.{Mapped}
use Rattle.amqp_sessions.specs.Parts.{EndpointState}
use Rattle.amqp_sessions.specs.State.{State as Sessions, endpoint_of}
use Rattle.amqp_world.specs.History.{other}
use Rattle.amqp_session_world.specs.Carried.{AreCarried}
use Rattle.session_laws.specs.Handing.{inputs}
use Rattle.session_laws.specs.Holding.{transfers as transfers_in}
use Rattle.session_laws.specs.Laws.{Arrive}
use Rattle.session_laws.specs.Messages.{on as on_handle}
use Rattle.link_lives.specs.Deeds as links
use Rattle.link_lives.specs.Deeds.{parts_told}
use Rattle.session_lives.specs.Channels.{IsJoined}
use Rattle.session_lives.specs.Lives.{moves}
use Rattle.session_lives.specs.Logs.{own}
use Rattle.world_lives.specs.EndLives.Laws.{SenderPasses, ReceiverPasses, AreLed}
use Rattle.world_lives.specs.Lived.{Both, sessions_by, links_by, Moment, MomentOf}
use Rattle.world_lives.specs.Hearing.{read_before, written_before}
use Rattle.world_lives.specs.Alone.{StandsAlone, AreElsewhere}
use Rattle.world_lives.specs.Naming.{AreOnce}
use Rattle.world_lives.specs.Arriving.{AreAttached}
use Rattle.link_tables_agree.specs.Leads.{Leads, AreClear, attaches_at, AreQuiet}
use Rattle.link_tables_agree.specs.Sound.{AreSound, AreNewIn}

-- ---- one end

-- at a moment of an end that uses each name once the tables of its links agree with the links, and they do from
-- then on
pub record Agree (none : Links) (all : List Both) (last : Sessions) (end : Links) (p : Moment none all last end)
    : Type 0 where
  pub sound : AreSound p.links
  pub fresh : AreNewIn p.links (links_by p.since) end p.goes.links_did

abbrev pub LinksAgree : Type 0
LinksAgree =
    (accepts : Bool) (all : List Both) (last : Sessions) (end : Links) (p : Moment (no_links accepts) all last end)
    → AreOnce all → Agree (no_links accepts) all last end p

-- as each Transfer is heard the handle leads to the receiver, where it does at first and the peer is quiet
abbrev pub HandlesLead : Type 0
HandlesLead =
    (handle session n : ℕ) (l : Called) (old : Links) (ds : List links.Deed) (new : Links) (did : links.Did old ds new)
    → AreSound old → AreNewIn old ds new did → link_of n old ≡ Some l → Leads handle session n old
    → AreClear handle (attaches_at (place_of session old)) → AreQuiet handle session n old ds new did
    → AreLed handle session n old ds new did

-- ---- two ends

-- a sender of an end that stands at a moment, with its session, which is on that channel, alone from then on, and
-- both ends have begun it
pub record Sends (c n : ℕ) (l : Called) (t : SenderState) (x : EndpointState) (none : Links) (all : List Both)
    (last : Sessions) (end : Links) (q : Moment none all last end) : Type 0 where
  pub once : AreOnce all
  pub stands : link_of n q.links ≡ Some l
  pub sends : l.side ≡ Sender t
  pub session : endpoint_of l.session q.sessions ≡ Some x
  pub mapped : x.session.state ≡ Mapped
  pub channel : x.session.channel ≡ c
  pub alone : StandsAlone c l.session q.sessions
  pub elsewhere : AreElsewhere c (sessions_by q.since)

-- A receiver of the other end, whose session the peer has begun on that channel. A handle of the peer leads to it,
-- and no Attach that waits is on that handle; from then on the peer neither detaches the link nor attaches it, or
-- another on that handle, again.
pub record Receives (c handle m : ℕ) (l : Called) (u : ReceiverState) (y : EndpointState) (none : Links)
    (all : List Both) (last : Sessions) (end : Links) (p : Moment none all last end) : Type 0 where
  pub once : AreOnce all
  pub stands : link_of m p.links ≡ Some l
  pub receives : l.side ≡ Receiver u
  pub session : endpoint_of l.session p.sessions ≡ Some y
  pub joined : IsJoined c y.session
  pub leads : Leads handle l.session m p.links
  pub clear : AreClear handle (attaches_at (place_of l.session p.links))
  pub quiet : AreQuiet handle l.session m p.links (links_by p.since) end p.goes.links_did

-- Both go on by moves. As long as the sender has its handle, until both ends have sent their Detach, what the
-- receiver answers are the first of the messages that the sender has sent, where both ends have attached the link
-- by the same two Attaches and nothing of it was on its way.
pub record Carries (c handle m n : ℕ) (d l : Called) (u : ReceiverState) (t : SenderState) (y x : EndpointState)
    (none : Links) (all : List Both) (last : Sessions) (end : Links) (p : Moment none all last end)
    (none' : Links) (all' : List Both) (last' : Sessions) (end' : Links) (q : Moment none' all' last' end')
    : Type 0 where
  pub receives : ReceiverPasses m d.session u y p.sessions (sessions_by p.since) last p.links (links_by p.since) end
      p.goes
  pub sends : SenderPasses n l.session t x q.sessions (sessions_by q.since) last' q.links (links_by q.since) end'
      q.goes
  pub arrive : is_heard sends.sender.link ≡ true
      → on_handle handle (transfers_in (read_before c none all last end p))
      ≡ on_handle handle (transfers_in (written_before c none' all' last' end' q))
      → on_handle handle (parts_told l.session q.links.output) ≡ []
      → on_handle handle (inputs (own d.session p.sessions.incoming)) ≡ []
      → AreAttached handle t x.session (moves sends.life.steps) y.session u
      → Arrive t sends.sender.moves u receives.receiver.moves

-- whichever of the two ends the sender is at
abbrev pub AgreedLinksCarry : Type 0
AgreedLinksCarry =
    (e : Side) (steps : List Step) (entries : List Entry) (k : AreCarried steps entries) (c handle : ℕ)
    (p : MomentOf e steps entries k.made) (m : ℕ) (d : Called) (u : ReceiverState) (y : EndpointState)
    (q : MomentOf (other e) steps entries k.made) (n : ℕ) (l : Called) (t : SenderState) (x : EndpointState)
    → Receives c handle m d u y _ _ _ _ p → Sends c n l t x _ _ _ _ q
    → Carries c handle m n d l u t y x _ _ _ _ p _ _ _ _ q
