-- One option more.
use Rattle.std.proofs.Common.{◌≡◌, ◌∙◌, ◌≤◌, ◌-◌, ℕ, List, [], ◌∷◌, length, get_or, take, drop, refl, sym, ap, arith}
use Rattle.std.proofs.lemmas.List.{take_all}
use Rattle.amqp_waiting_words.specs.declared.command.OptionRead.TheVariants as read
use Rattle.amqp_waiting_words.specs.declared.command.Options.{Options}
use Rattle.amqp_waiting_words.specs.Command.{option_in, options_in}

-- the options in words that begin with one are those in the words behind it
pub options_behind : (o p : Options) (w v : List ℕ) (words : List (List ℕ)) → 2 ≤ length words → w ≡ get_or words 0 w → v ≡ get_or words 1 v → option_in o w v ≡ read.Read p → options_in o words ≡ options_in p (take (length words - 2) (drop 2 words))
options_behind o p w v [] le first second e = absurd (omega (arith, le))
options_behind o p w v (a ∷ []) le first second e = absurd (omega (arith, le))
options_behind o p w v (a ∷ b ∷ rest) le first second e =
    let is : option_in o a b ≡ read.Read p = (cc) in
    let one : options_in o (a ∷ b ∷ rest) ≡ options_in p rest = rw (options_in, is) refl in
    let all : take (length (a ∷ b ∷ rest) - 2) rest ≡ rest = take_all (length (a ∷ b ∷ rest) - 2) rest (omega arith) in
    one ∙ ap (λ (l : List (List ℕ)). options_in p l) (sym all)
