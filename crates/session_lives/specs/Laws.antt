-- One session among all sessions of an end (OASIS AMQP 1.0, part 2, section 2.5).
use Rattle.std.specs.Prelude.{◌≡◌, ℕ, List, ◌++◌, Option, Some, None}
use Rattle.std.specs.Map.{values_of}
use Rattle.amqp_session.specs.declared.session.LinkInput.{LinkInput}
use Rattle.amqp_session.specs.State.{State as Session, Framed}
use Rattle.amqp_sessions.specs.Parts.{EndpointState}
use Rattle.amqp_sessions.specs.State.{State, none_begun, endpoint_of}
use Rattle.session_laws.specs.Holding.{after_all, handed_all}
use Rattle.session_laws.specs.Handing.{heard}
use Rattle.session_lives.specs.Channels.{AllOn, on, AreApart}
use Rattle.session_lives.specs.Lives.{Step, moves, told, given}
use Rattle.session_lives.specs.Logs.{AreKeyed, own, share, Fate}
use Rattle.session_lives.specs.Deeds.{Deed, IsDeed, Did, wrote_of, wrote_in, gave_of, gave_in, came_of, came_in, IsOther, AreOther}

-- What a deed makes of the sessions: what went to the connection and to links, with what still is to, is what was to
-- go and then that of these logs, in order; and each session that the deed does not make is let go, or goes on by
-- moves of its own, in which that came to it and just what is in the logs of it went out of it. No two have one name.
pub record DeedLives (d : Deed) (old new : State) : Type 0 where
  pub wrote : List (ℕ × Framed)
  pub gave : List (ℕ × LinkInput)
  pub output : wrote_of d ++ new.output ≡ old.output ++ values_of wrote
  pub incoming : gave_of d ++ new.incoming ≡ old.incoming ++ gave
  pub keyed : AreKeyed new
  pub each : (n : ℕ) → IsOther n d
      → Fate (endpoint_of n old) (share (came_of d old n) (own n wrote) (own n gave)) (endpoint_of n new)

abbrev pub OneSessionLives : Type 0
OneSessionLives = (d : Deed) (old new : State) → IsDeed old d new → AreKeyed old → DeedLives d old new

-- the same of deeds one after another
pub record DeedsLive (ds : List Deed) (old new : State) (did : Did old ds new) : Type 0 where
  pub wrote : List (ℕ × Framed)
  pub gave : List (ℕ × LinkInput)
  pub output : wrote_in ds ++ new.output ≡ old.output ++ values_of wrote
  pub incoming : gave_in ds ++ new.incoming ≡ old.incoming ++ gave
  pub keyed : AreKeyed new
  pub each : (n : ℕ) → AreOther n ds
      → Fate (endpoint_of n old) (share (came_in old ds new did n) (own n wrote) (own n gave)) (endpoint_of n new)

abbrev pub SessionsLive : Type 0
SessionsLive = (ds : List Deed) (old new : State) (did : Did old ds new) → AreKeyed old → DeedsLive ds old new did

-- a session that stands is that; of one that was let go nothing is said
abbrev pub IsBehind : Session → Option EndpointState → Type 0
IsBehind t None = Unit {0}
IsBehind t (Some f) = f.session ≡ t

-- One session of an end, behind deeds that make none of its name. It is let go, or stands behind steps of its own. It
-- has heard the frames that came for it, and taken those of its links; what is there for links and what went to them
-- is, under its name, what was there and what it gave them; and what is to be written and what was written is what
-- was to be and a log of all sessions, in which just what it wrote stands under its name. So on its channel, on which
-- no other session has written, these frames are its own (sections 2.2 and 2.5).
pub record SessionLives (n : ℕ) (e : EndpointState) (ds : List Deed) (old new : State) (did : Did old ds new) : Type 0 where
  pub steps : List Step
  pub behind : IsBehind (after_all e.session (moves steps)) (endpoint_of n new)
  pub hears : heard (moves steps) ≡ (came_in old ds new did n).heard
  pub takes : told (moves steps) ≡ (came_in old ds new did n).told
  pub gives : own n (gave_in ds) ++ own n new.incoming ≡ own n old.incoming ++ given e.session steps
  pub log : List (ℕ × Framed)
  pub output : wrote_in ds ++ new.output ≡ old.output ++ values_of log
  pub writes : own n log ≡ handed_all e.session (moves steps)
  pub speaks : (c : ℕ) → e.session.channel ≡ c → AllOn c e.session.output → AreApart c n log
      → on c (wrote_in ds) ++ on c new.output ≡ on c old.output ++ handed_all e.session (moves steps)

abbrev pub OneOfAllLives : Type 0
OneOfAllLives =
    (n : ℕ) (e : EndpointState) (ds : List Deed) (old new : State) (did : Did old ds new)
    → AreKeyed old → endpoint_of n old ≡ Some e → AreOther n ds → SessionLives n e ds old new did

-- where no session was begun no two have one name
abbrev pub NoneIsKeyed : Type 0
NoneIsKeyed = AreKeyed none_begun
