-- The windows that the sessions of two ends keep, which made steps from the start (OASIS AMQP 1.0, part 2, section
-- 2.5.6).
use Rattle.std.specs.Prelude.{◌≡◌, ℕ, ◌<◌, List, [], ◌++◌, map, All, Some}
use Rattle.amqp_frames.specs.Body.{read_again_body}
use Rattle.amqp_words.specs.declared.step.End.{End as Side}
use Rattle.amqp_calls.specs.declared.step.Step.{Step}
use Rattle.amqp_calls.specs.declared.trace.Entry.{Entry}
use Rattle.amqp_session.specs.State.{Framed}
use Rattle.amqp_sessions.specs.Parts.{EndpointState}
use Rattle.amqp_sessions.specs.State.{State as Sessions, endpoint_of}
use Rattle.amqp_links.specs.State.{State as Links}
use Rattle.amqp_world.specs.History.{other}
use Rattle.amqp_session_world.specs.Turn.{AreMade}
use Rattle.amqp_session_world.specs.Carried.{AreCarried}
use Rattle.session_laws.specs.Holding.{Move, after_all, handed_all, transfers}
use Rattle.session_laws.specs.Speaking.{bodies}
use Rattle.session_lives.specs.Channels.{IsJoined, on}
use Rattle.session_lives.specs.Deeds.{wrote_in}
use Rattle.session_lives.specs.Laws.{SessionLives}
use Rattle.session_lives.specs.Lives.{moves}
use Rattle.window_laws.specs.Keeping as keeping
use Rattle.window_laws.specs.Starting.{Start, session_of, reads, writes, first_number}
use Rattle.world_lives.specs.Lived.{Both, sessions_by, Moment, MomentOf}
use Rattle.world_lives.specs.Alone.{StandsAlone, AreElsewhere}
use Rattle.world_lives.specs.Hearing.{are, read_before, written_before}
use Rattle.world_lives.specs.WorldWindows.Keeping.{is_later, Kept}

-- a session of an end that stands at a moment, behind those moves from its begin on
pub record Stands (n : ℕ) (u : Start) (js : List Move) (y : EndpointState) (none : Links) (all : List Both)
    (last : Sessions) (end : Links) (p : Moment none all last end) : Type 0 where
  pub at : endpoint_of n p.sessions ≡ Some y
  pub behind : y.session ≡ after_all (session_of u) js

-- One that is on the channel `near`, alone from then on, and that the peer has begun on the channel `far`.
pub record Faces (near far n : ℕ) (u : Start) (js : List Move) (y : EndpointState) (none : Links) (all : List Both)
    (last : Sessions) (end : Links) (p : Moment none all last end) : Type 0 where
  pub stands : Stands n u js y none all last end p
  pub channel : y.session.channel ≡ near
  pub alone : StandsAlone near n p.sessions
  pub elsewhere : AreElsewhere near (sessions_by p.since)
  pub joined : IsJoined far y.session

-- Nothing was on its way to the one session from the other, on the channel c: what the one had read is what the other
-- had given, and what was read on the channel is what was written on it, or was to be, Begins aside.
pub record IsEven (c : ℕ) (u : Start) (js : List Move) (none : Links) (all : List Both) (last : Sessions) (end : Links)
    (p : Moment none all last end) (t : Start) (ns : List Move) (none' : Links) (all' : List Both) (last' : Sessions)
    (end' : Links) (q : Moment none' all' last' end') : Type 0 where
  pub session : bodies (reads u js) ≡ map read_again_body (bodies (handed_all (session_of t) ns))
  pub channel : are is_later (read_before c none all last end p)
      ≡ map read_again_body (are is_later (written_before c none' all' last' end' q))

-- Both go on. What the other end gave to its connection on the channel c since, with what is still to go, is what was
-- to go and what the other session has given. And that keeps the window of the one.
pub record WindowHolds (c n m : ℕ) (u t : Start) (js ns : List Move) (y x : EndpointState) (none : Links)
    (all : List Both) (last : Sessions) (end : Links) (p : Moment none all last end) (none' : Links) (all' : List Both)
    (last' : Sessions) (end' : Links) (q : Moment none' all' last' end') : Type 0 where
  pub reader : SessionLives n y (sessions_by p.since) p.sessions last p.goes.sessions_did
  pub writer : SessionLives m x (sessions_by q.since) q.sessions last' q.goes.sessions_did
  pub given : on c (wrote_in (sessions_by q.since)) ++ on c last'.output
      ≡ on c q.sessions.output ++ handed_all x.session (moves writer.steps)
  pub kept : first_number t < 4294967296 → Kept t ns (moves writer.steps) u js (moves reader.steps)

-- The one session is on the channel d of its end, and the other on the channel c of its own.
abbrev pub WindowIsKept : Type 0
WindowIsKept =
    (e : Side) (steps : List Step) (entries : List Entry) (k : AreCarried steps entries) (c d : ℕ)
    (p : MomentOf e steps entries k.made) (n : ℕ) (u : Start) (js : List Move) (y : EndpointState)
    (q : MomentOf (other e) steps entries k.made) (m : ℕ) (t : Start) (ns : List Move) (x : EndpointState)
    → Faces d c n u js y _ _ _ _ p → Faces c d m t ns x _ _ _ _ q
    → IsEven c u js _ _ _ _ p t ns _ _ _ _ q → IsEven d t ns _ _ _ _ q u js _ _ _ _ p
    → WindowHolds c n m u t js ns y x _ _ _ _ p _ _ _ _ q

-- ---- before the peer's Begin

-- it goes on, and as long as it has read no Begin it has written no Transfer
pub record Waits (n : ℕ) (u : Start) (js : List Move) (y : EndpointState) (none : Links) (all : List Both)
    (last : Sessions) (end : Links) (p : Moment none all last end) : Type 0 where
  pub life : SessionLives n y (sessions_by p.since) p.sessions last p.goes.sessions_did
  pub waits : All (λ (x : Framed). keeping.IsNotBegin x.body) (reads u (js ++ moves life.steps))
      → transfers (writes u (js ++ moves life.steps)) ≡ []

abbrev pub WaitsForTheBegin : Type 0
WaitsForTheBegin =
    (e : Side) (steps : List Step) (entries : List Entry) (m : AreMade steps entries)
    (p : MomentOf e steps entries m) (n : ℕ) (u : Start) (js : List Move) (y : EndpointState)
    → Stands n u js y _ _ _ _ p → Waits n u js y _ _ _ _ p
