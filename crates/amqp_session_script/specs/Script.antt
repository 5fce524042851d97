-- A script of connections, sessions and links: lines, each ended by a line feed.
use Rattle.std.specs.Prelude.{◌≡◌, ◌≢◌, ◌⊎◌, List, ℕ, [], ◌∷◌, ◌+◌, ◌==◌, true}
use Rattle.std.specs.List.{slice_split, list_all}
use Rattle.amqp_calls.specs.declared.step.Step.{Step}
use Rattle.amqp_script.specs.Words.{words_of}
use Rattle.amqp_session_script.specs.Line.{LineSays, IsOutside, names_no_session}

-- the lines of a text; what stands behind the last line feed is the last
abbrev pub lines_of : List ℕ → List (List ℕ)
lines_of text = slice_split (λ b. b == 10) text

-- each line but the last says one of these steps, in order; nothing stands behind the last line feed
abbrev pub SaySteps : List (List ℕ) → List Step → Type 0
SaySteps [] steps = ⊥
SaySteps (tail ∷ []) [] = tail ≡ []
SaySteps (tail ∷ []) (step ∷ steps) = ⊥
SaySteps (line ∷ next ∷ lines) [] = ⊥
SaySteps (line ∷ next ∷ lines) (step ∷ steps) = LineSays line step × SaySteps (next ∷ lines) steps

-- line n is the first of these that says no step; they are numbered on from a number. What stands behind the last line feed is one
-- where it is not empty
abbrev pub IsFirstOutside : ℕ → List (List ℕ) → ℕ → Type 0
IsFirstOutside number [] n = ⊥
IsFirstOutside number (tail ∷ []) n = (n ≡ number) × (tail ≢ [])
IsFirstOutside number (line ∷ next ∷ lines) n =
    ((n ≡ number) × IsOutside line) ⊎ ((step : Step) × (LineSays line step × IsFirstOutside (number + 1) (next ∷ lines) n))

-- the script says these steps
abbrev pub Spells : List ℕ → List Step → Type 0
Spells text steps = SaySteps (lines_of text) steps

-- line n, from 1, is the first outside the grammar
abbrev pub IsFirstBad : List ℕ → ℕ → Type 0
IsFirstBad text n = IsFirstOutside 1 (lines_of text) n

-- no line of the script has a word of sessions or links
abbrev pub HasNoSessionWords : List ℕ → Type 0
HasNoSessionWords text = list_all (λ line. names_no_session (words_of line)) (lines_of text) ≡ true
