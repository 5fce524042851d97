-- The whole life of a session among all sessions of its end (OASIS AMQP 1.0, part 2, sections 2.5.1 and 2.5.6).
use Rattle.std.specs.Prelude.{◌≡◌, ℕ, List, [], ◌∷◌, ◌++◌, All}
use Rattle.std.specs.Map.{values_of}
use Rattle.amqp_session.specs.State.{Framed}
use Rattle.amqp_sessions.specs.State.{State, endpoint_of}
use Rattle.session_laws.specs.Holding.{after_all, handed_all, transfers}
use Rattle.session_laws.specs.Handing.{heard}
use Rattle.session_lives.specs.Deeds.{Deed, Did, wrote_in, came_in, AreOther}
use Rattle.session_lives.specs.Laws.{IsBehind}
use Rattle.session_lives.specs.Lives.{Step, moves, told}
use Rattle.session_lives.specs.Logs.{AreKeyed, own}
use Rattle.window_laws.specs.Announcing.{Announces}
use Rattle.window_laws.specs.Keeping.{IsNotBegin}
use Rattle.window_laws.specs.Starting.{Start, session_of, reads, window}
use Rattle.world_lives.specs.WorldWindows.Making.{made_as, made_of}

-- A session that the first of these deeds makes under that name, as it starts so, and none is made under it since. It
-- is let go, or stands behind steps of its own from its begin on. It has heard the frames that came for it, and taken
-- those of its links; and what was written by all sessions, and is still to be, is what was to be and a log, in which
-- just what it wrote stands under its name. Each Begin and each Flow of that names its window; and there is no
-- Transfer among it as long as it has read no Begin.
pub record LivesFromItsBegin (n : ℕ) (u : Start) (ds : List Deed) (old new : State) (did : Did old ds new)
    : Type 0 where
  pub steps : List Step
  pub behind : IsBehind (after_all (session_of u) (moves steps)) (endpoint_of n new)
  pub hears : heard (moves steps) ≡ (came_in old ds new did n).heard
  pub takes : told (moves steps) ≡ (came_in old ds new did n).told
  pub log : List (ℕ × Framed)
  pub output : wrote_in ds ++ new.output ≡ old.output ++ values_of log
  pub writes : own n log ≡ handed_all (session_of u) (moves steps)
  pub announces : All (λ (x : Framed). Announces (window u) x.body) (own n log)
  pub waits : All (λ (x : Framed). IsNotBegin x.body) (reads u (moves steps)) → transfers (own n log) ≡ []

abbrev pub OneLivesFromItsBegin : Type 0
OneLivesFromItsBegin =
    (n : ℕ) (u : Start) (d : Deed) (ds : List Deed) (old new : State) (did : Did old (d ∷ ds) new)
    → AreKeyed old → made_of d ≡ made_as n u ∷ [] → AreOther n ds
    → LivesFromItsBegin n u (d ∷ ds) old new did
