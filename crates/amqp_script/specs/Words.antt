-- A line as words between single spaces, and a word as a name and a value.
use Rattle.std.specs.Prelude.{List, ℕ, [], Option, Some, None, take, drop, ◌+◌, ◌==◌, position, option_map, unwrap_or}
use Rattle.std.specs.List.{slice_split}
use Rattle.amqp_script.specs.declared.script.words.Words.{Words}

-- the words of a line: the pieces between single spaces
abbrev pub words_of : List ℕ → List (List ℕ)
words_of line = slice_split (λ b. b == 32) line

abbrev pub cut_at : Option ℕ → List ℕ → Option (List ℕ × List ℕ)
cut_at None text = None
cut_at (Some i) text = Some (take i text, drop (i + 1) text)

-- what stands before the first such byte, and what follows it
abbrev pub split_once : ℕ → List ℕ → Option (List ℕ × List ℕ)
split_once c text = cut_at (position (λ b. b == c) text) text

-- the words that are still to come
abbrev pub words_left : Words → List (List ℕ)
words_left words = unwrap_or (option_map (λ rest. words_of rest.now) words.rest) []
