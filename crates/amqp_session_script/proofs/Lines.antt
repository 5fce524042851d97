-- The lines of a script of connections, sessions and links.
use Rattle.std.proofs.Common.{◌≡◌, ◌≢◌, ◌+◌, ◌<◌, ◌∙◌, ◌==◌, inl, inr, List, ℕ, [], ◌∷◌, ◌++◌, Some, None, length, refl, ap, sym, subst, arith, append_assoc, append-nil, length-append}
use Rattle.std.proofs.lemmas.List.Splits.{length-slice_split}
use Rattle.amqp_calls.specs.declared.step.Step.{Step}
use Rattle.amqp_session_script.specs.Line.{LineSays, IsOutside}
use Rattle.amqp_session_script.specs.Script.{lines_of, SaySteps, IsFirstOutside, Spells, IsFirstBad}
use Rattle.amqp_script.specs.Words.{split_once}
use Rattle.amqp_script.proofs.Pieces.{pieces_cut, pieces_whole}

-- steps that were read, before those that what is left says
abbrev pub SaidBy : List Step → List ℕ → List ℕ → Type 0
SaidBy steps rest text = (more : List Step) → SaySteps (lines_of rest) more → Spells text (steps ++ more)

-- the first line outside of what is left is that of the whole
abbrev pub BadBy : List Step → List ℕ → List ℕ → Type 0
BadBy steps rest text = (n : ℕ) → IsFirstOutside (length steps + 1) (lines_of rest) n → IsFirstBad text n

say_cons : (line : List ℕ) (parts : List (List ℕ)) (step : Step) (more : List Step) → 0 < length parts → LineSays line step → SaySteps parts more → SaySteps (line ∷ parts) (step ∷ more)
say_cons line [] step more h says later = absurd (omega arith)
say_cons line (next ∷ lines) step more h says later = (says, later)

outside_cons : (number n : ℕ) (line : List ℕ) (parts : List (List ℕ)) (step : Step) → 0 < length parts → LineSays line step → IsFirstOutside (number + 1) parts n → IsFirstOutside number (line ∷ parts) n
outside_cons number n line [] step h says later = absurd (omega arith)
outside_cons number n line (next ∷ lines) step h says later = inr (step, (says, later))

outside_here : (number : ℕ) (line : List ℕ) (parts : List (List ℕ)) → 0 < length parts → IsOutside line → IsFirstOutside number (line ∷ parts) number
outside_here number line [] h bad = absurd (omega arith)
outside_here number line (next ∷ lines) h bad = inl (refl, bad)

some_lines : (text : List ℕ) → 0 < length (lines_of text)
some_lines text = omega (arith, length-slice_split (λ b. b == 10) text)

-- one line more
pub lines_more : (steps new : List Step) (step : Step) (rest line tail text : List ℕ) → new ≡ steps ++ step ∷ [] → Some (line, tail) ≡ split_once 10 rest → LineSays line step → SaidBy steps rest text → SaidBy new tail text
lines_more steps new step rest line tail text pushed cut says before = λ more later.
    let whole : SaySteps (lines_of rest) (step ∷ more) =
    subst (λ (z : List (List ℕ)). SaySteps z (step ∷ more)) (sym (pieces_cut 10 rest line tail cut)) (say_cons line (lines_of tail) step more (some_lines tail) says later) in
    subst (λ (z : List Step). Spells text z) (sym (ap (λ (z : List Step). z ++ more) pushed ∙ append_assoc steps (step ∷ []) more)) (before (step ∷ more) whole)

pub bad_more : (steps new : List Step) (step : Step) (rest line tail text : List ℕ) → new ≡ steps ++ step ∷ [] → Some (line, tail) ≡ split_once 10 rest → LineSays line step → BadBy steps rest text → BadBy new tail text
bad_more steps new step rest line tail text pushed cut says before = λ n later.
    let size : length new + 1 ≡ length steps + 1 + 1 = omega (arith, ap length pushed, length-append steps (step ∷ [])) in
    let on : IsFirstOutside (length steps + 1 + 1) (lines_of tail) n = subst (λ (k : ℕ). IsFirstOutside k (lines_of tail) n) size later in
    before n (subst (λ (z : List (List ℕ)). IsFirstOutside (length steps + 1) z n) (sym (pieces_cut 10 rest line tail cut)) (outside_cons (length steps + 1) n line (lines_of tail) step (some_lines tail) says on))

-- a line outside the grammar
pub line_bad : (steps : List Step) (rest line tail text : List ℕ) → Some (line, tail) ≡ split_once 10 rest → IsOutside line → BadBy steps rest text → IsFirstBad text (length steps + 1)
line_bad steps rest line tail text cut bad before =
    let n : ℕ = length steps + 1 in
    before n (subst (λ (z : List (List ℕ)). IsFirstOutside n z n) (sym (pieces_cut 10 rest line tail cut)) (outside_here n line (lines_of tail) (some_lines tail) bad))

-- bytes behind the last line feed
pub tail_bad : (steps : List Step) (rest text : List ℕ) → None ≡ split_once 10 rest → 0 < length rest → BadBy steps rest text → IsFirstBad text (length steps + 1)
tail_bad steps rest text cut some before =
    let n : ℕ = length steps + 1 in
    let is_some : rest ≢ [] = λ none. absurd (omega (arith, some, ap length none)) in
    before n (subst (λ (z : List (List ℕ)). IsFirstOutside n z n) (sym (pieces_whole 10 rest cut)) (refl, is_some))

is_none : (rest : List ℕ) → length rest ≡ 0 → rest ≡ []
is_none [] h = refl
is_none (b ∷ bs) h = absurd (omega (arith, h))

-- nothing is left
pub all_said : (steps : List Step) (rest text : List ℕ) → length rest ≡ 0 → SaidBy steps rest text → Spells text steps
all_said steps rest text none before =
    let last : SaySteps (lines_of rest) [] = subst (λ (z : List ℕ). SaySteps (lines_of z) []) (sym (is_none rest none)) refl in
    subst (λ (z : List Step). Spells text z) (append-nil steps) (before [] last)
