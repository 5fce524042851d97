-- What one session of an end goes through, and what comes to it and goes out of it (OASIS AMQP 1.0, part 2, section
-- 2.5).
use Rattle.std.specs.Prelude.{◌≡◌, List, [], ◌∷◌, ◌++◌}
use Rattle.amqp_frames.specs.declared.shared.LinkFrame.{LinkFrame}
use Rattle.amqp_session.specs.declared.session.LinkInput.{LinkInput}
use Rattle.amqp_session.specs.declared.session.LinkInput.TheVariants.{Over}
use Rattle.amqp_session.specs.State.{State, Framed}
use Rattle.session_laws.specs.Holding.{Move, tells, after, after_all, handed_all}
use Rattle.session_laws.specs.Handing.{taken_by, heard}

-- the session makes a move; or its end tells its links by itself that nothing more comes
pub data Step : Type 0 where
  Makes : Move → Step
  Closes : Step

-- its moves among steps
abbrev pub moves : List Step → List Move
moves [] = []
moves (Makes m ∷ xs) = m ∷ moves xs
moves (Closes ∷ xs) = moves xs

-- what its links give it in moves, in order
abbrev pub told_by : Move → List LinkFrame
told_by (tells x) = x ∷ []
told_by other = []

abbrev pub told : List Move → List LinkFrame
told [] = []
told (m ∷ ms) = told_by m ++ told ms

-- what its links are given in steps, in order
abbrev pub given : State → List Step → List LinkInput
given s [] = []
given s (Makes m ∷ xs) = taken_by s m ++ given (after s m) xs
given s (Closes ∷ xs) = Over ∷ given s xs

-- the frames that a session hears, those that its links give it, the frames that it writes, and what it has for its
-- links, each in order
pub record Share : Type 0 where
  pub heard : List Framed
  pub told : List LinkFrame
  pub wrote : List Framed
  pub gave : List LinkInput

-- none of all that
abbrev pub nothing : Share
nothing = record { heard = []; told = []; wrote = []; gave = [] }

-- first the one, then the other
abbrev pub both : Share → Share → Share
both a b = record { heard = a.heard ++ b.heard; told = a.told ++ b.told; wrote = a.wrote ++ b.wrote; gave = a.gave ++ b.gave }

-- what steps make of it
abbrev pub share_of : State → List Step → Share
share_of s xs = record { heard = heard (moves xs); told = told (moves xs); wrote = handed_all s (moves xs); gave = given s xs }

-- a session becomes another by steps, in which this came to it and went out of it
pub record Lives (s : State) (a : Share) (t : State) : Type 0 where
  pub steps : List Step
  pub behind : t ≡ after_all s (moves steps)
  pub share : a ≡ share_of s steps
