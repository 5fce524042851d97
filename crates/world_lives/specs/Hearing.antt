-- Which of the frames that a session of the one end writes a session of the other hears (OASIS AMQP 1.0, part 2,
-- sections 2.2 and 2.5.1).
use Rattle.std.specs.Prelude.{◌≡◌, ℕ, Bool, false, List, [], ◌∷◌, ◌++◌, map, flat_map, Some, if◌then◌else◌}
use Rattle.amqp_frames.specs.declared.body.FrameBody.{FrameBody}
use Rattle.amqp_frames.specs.declared.body.FrameBody.TheVariants as b
use Rattle.amqp_frames.specs.Body.{read_again_body}
use Rattle.amqp_performatives.specs.declared.begin.Begin.{Begin}
use Rattle.amqp_words.specs.declared.step.End.{End as Side}
use Rattle.amqp_calls.specs.declared.step.Step.{Step}
use Rattle.amqp_calls.specs.declared.trace.Entry.{Entry}
use Rattle.amqp_session.specs.State.{Framed}
use Rattle.amqp_sessions.specs.Parts.{EndpointState}
use Rattle.amqp_sessions.specs.State.{State as Sessions, none_begun, endpoint_of}
use Rattle.amqp_links.specs.State.{State as Links}
use Rattle.amqp_world.specs.History.{other}
use Rattle.amqp_session_world.specs.Carried.{AreCarried}
use Rattle.session_laws.specs.Handing.{heard}
use Rattle.session_laws.specs.Holding.{transfers, written}
use Rattle.session_laws.specs.Messages.{on as on_handle}
use Rattle.session_lives.specs.Channels.{IsJoined, AreApart, on}
use Rattle.session_lives.specs.Deeds.{read_in, wrote_in, AreOther}
use Rattle.session_lives.specs.Laws.{SessionLives}
use Rattle.session_lives.specs.Lives.{moves}
use Rattle.session_lives.specs.Sound.{AreNewIn}
use Rattle.world_lives.specs.EndLives.Laws.{IsFront}
use Rattle.world_lives.specs.Lived.{Both, sessions_by, Moment, MomentOf, sessions_at}

-- ---- frames of a kind

-- those of these frames that are of that kind
abbrev pub are : (FrameBody → Bool) → List Framed → List FrameBody
are kind xs = flat_map (λ (x : Framed). if kind x.body then x.body ∷ [] else []) xs

-- no Begin is of that kind, and a frame that is read again is if it was as it was written
pub record IsKind (kind : FrameBody → Bool) : Type 0 where
  pub begins : (x : Begin) → kind (b.Begin x) ≡ false
  pub again : (body : FrameBody) → kind (read_again_body body) ≡ kind body

-- the one begins the other
pub record AreFirst (some all : List FrameBody) : Type 0 where
  pub later : List FrameBody
  pub whole : some ++ later ≡ all

-- ---- two sessions that face each other

-- each session of an end is made under a name to which no channel leads
pub record AreNamed (none : Links) (all : List Both) (last : Sessions) (end : Links) (p : Moment none all last end)
    : Type 0 where
  pub before : AreNewIn none_begun (sessions_by p.before) p.sessions p.came.sessions_did
  pub since : AreNewIn p.sessions (sessions_by p.since) last p.goes.sessions_did

-- a session of an end that stands at a moment, and that the peer has begun on that channel
pub record Listens (c n : ℕ) (y : EndpointState) (none : Links) (all : List Both) (last : Sessions) (end : Links)
    (p : Moment none all last end) : Type 0 where
  pub named : AreNamed none all last end p
  pub other : AreOther n (sessions_by p.since)
  pub stands : endpoint_of n p.sessions ≡ Some y
  pub joined : IsJoined c y.session

-- a session of an end that stands at a moment on that channel, on which no other session of its end has written
-- since
pub record Speaks (c v : ℕ) (x : EndpointState) (none : Links) (all : List Both) (last : Sessions) (end : Links)
    (q : Moment none all last end) (a : SessionLives v x (sessions_by q.since) q.sessions last q.goes.sessions_did)
    : Type 0 where
  pub named : AreNamed none all last end q
  pub stands : endpoint_of v q.sessions ≡ Some x
  pub channel : x.session.channel ≡ c
  pub apart : AreApart c v a.log

-- what was read on a channel up to a moment, and what was written on it, or is to be
abbrev pub read_before : ℕ → (none : Links) (all : List Both) (last : Sessions) (end : Links)
    → Moment none all last end → List Framed
read_before c none all last end p = on c (read_in (sessions_by p.before))

abbrev pub written_before : ℕ → (none : Links) (all : List Both) (last : Sessions) (end : Links)
    → Moment none all last end → List Framed
written_before c none all last end q = on c (wrote_in (sessions_by q.before) ++ q.sessions.output)

-- Frames that were read and frames that were written before two moments, and frames that were heard and written
-- since. Of each kind, where nothing was on its way between the moments, those that were heard since are the first
-- of those that were written since, in order, as they are read again; and so it is with the Transfers on a handle.
pub record Hears (read_then written_then heard_since written_since : List Framed) : Type 0 where
  pub frames : (kind : FrameBody → Bool) → IsKind kind
      → are kind read_then ≡ map read_again_body (are kind written_then)
      → AreFirst (are kind heard_since) (map read_again_body (are kind written_since))
  pub parts : (handle : ℕ) → on_handle handle (transfers read_then) ≡ on_handle handle (transfers written_then)
      → IsFront (on_handle handle (transfers heard_since)) (on_handle handle (transfers written_since))

-- the same of the moments of two ends
abbrev pub HearsFrom : ℕ → (none : Links) (all : List Both) (last : Sessions) (end : Links) → Moment none all last end
    → (none' : Links) (all' : List Both) (last' : Sessions) (end' : Links) → Moment none' all' last' end'
    → List Framed → List Framed → Type 0
HearsFrom c none all last end p none' all' last' end' q heard_since written_since =
    Hears (read_before c none all last end p) (written_before c none' all' last' end' q) heard_since written_since

-- A session of the one end and a session of the other that face each other on a channel, each from a moment on: the
-- one hears what the other writes.
abbrev pub SessionsHear : Type 0
SessionsHear =
    (e : Side) (steps : List Step) (entries : List Entry) (k : AreCarried steps entries) (c : ℕ)
    (p : MomentOf e steps entries k.made) (n : ℕ) (y : EndpointState)
    (l : SessionLives n y (sessions_by p.since) p.sessions (sessions_at e k.made.view) p.goes.sessions_did)
    (q : MomentOf (other e) steps entries k.made) (v : ℕ) (x : EndpointState)
    (a : SessionLives v x (sessions_by q.since) q.sessions (sessions_at (other e) k.made.view) q.goes.sessions_did)
    → Listens c n y _ _ _ _ p → Speaks c v x _ _ _ _ q a
    → HearsFrom c _ _ _ _ p _ _ _ _ q (heard (moves l.steps)) (written x.session (moves a.steps))
