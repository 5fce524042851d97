-- A text cut at its first line feed.
use Rattle.std.proofs.Common.{◌≡◌, ◌+◌, ◌<◌, ◌≤◌, ◌==◌, List, ℕ, zero, suc, [], ◌∷◌, Bool, true, false, Some, None, length, take, drop, get_or, refl, ap, arith, add-one, position}
use Rattle.std.specs.List.{position_or_len}
use Rattle.std.proofs.lemmas.List.Quantifiers.{position-Some}
use Rattle.std.proofs.lemmas.List.Sums.{fails_before_first}
use Rattle.amqp_show.specs.Lines.{onto_first, lines_of}

abbrev is_feed : ℕ → Bool
is_feed b = b == 10

feed_first : (text : List ℕ) (i : ℕ) → i < length text → is_feed (get_or text i 0) ≡ true → ((k : ℕ) → k < i → is_feed (get_or text k 0) ≡ false) → lines_of text ≡ take i text ∷ lines_of (drop (suc i) text)
feed_first [] i lt at before = absurd (omega (arith, lt))
feed_first (b ∷ text) zero lt at before = rw at refl
feed_first (b ∷ text) (suc i) lt at before = rw (before 0 (omega arith)) (ap (onto_first b) (feed_first text i (omega (arith, lt)) at (λ k l. before (suc k) (omega (arith, l)))))

feed_nowhere : (text : List ℕ) → ((k : ℕ) → k < length text → is_feed (get_or text k 0) ≡ false) → lines_of text ≡ []
feed_nowhere [] none = refl
feed_nowhere (b ∷ text) none = rw (none 0 (omega arith)) (ap (onto_first b) (feed_nowhere text (λ k l. none (suc k) (omega (arith, l)))))

-- the first line, and those of what follows it
pub first_line : (text : List ℕ) (i : ℕ) → position is_feed text ≡ Some i → lines_of text ≡ take i text ∷ lines_of (drop (i + 1) text)
first_line text i e =
    let at = position-Some is_feed text i 0 e in
    rw add-one (feed_first text i at.0 at.1 at.2)

-- where there is no line feed, there is no line
pub no_line : (text : List ℕ) → position is_feed text ≡ None → lines_of text ≡ []
no_line text e =
    let high : length text ≤ position_or_len is_feed text = grind (arith, e) in
    feed_nowhere text (λ k l. fails_before_first is_feed text k 0 (omega (arith, high, l)))
