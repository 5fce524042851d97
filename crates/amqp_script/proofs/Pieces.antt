-- A text cut at a byte, and the pieces between such bytes.
use Rattle.std.proofs.Common.{◌≡◌, ◌+◌, ◌∙◌, ◌<◌, ◌≤◌, ◌==◌, List, ℕ, [], ◌∷◌, Bool, Option, Some, None, length, take, drop, refl, ap, arith, position, length-drop}
use Rattle.std.specs.List.{slice_split, position_or_len}
use Rattle.std.proofs.lemmas.List.Quantifiers.{position-Some}
use Rattle.amqp_script.specs.Words.{cut_at, split_once}
use Rattle.std.proofs.lemmas.List.Splits.{slice_split_none, slice_split_first}
use Rattle.std.proofs.lemmas.List.Sums.{position_or_len_is, fails_before_first}

-- where the byte stands, the pieces are what is before it and the pieces of what follows
pub split_some : (c : ℕ) (text : List ℕ) (i : ℕ) → position (λ b. b == c) text ≡ Some i → slice_split (λ b. b == c) text ≡ take i text ∷ slice_split (λ b. b == c) (drop (i + 1) text)
split_some c text i e =
    let p : ℕ → Bool = λ b. b == c in
    let at = position-Some p text i 0 e in
    let is : position_or_len p text ≡ i = position_or_len_is p text i 0 (omega (arith, at.0)) at.2 (λ h. at.1) in
    let inside : position_or_len p text < length text = omega (arith, is, at.0) in
    slice_split_first p text 0 inside ∙ ap (λ (n : ℕ). take n text ∷ slice_split p (drop (n + 1) text)) is

-- where it stands nowhere, the text is the one piece
pub split_none : (c : ℕ) (text : List ℕ) → position (λ b. b == c) text ≡ None → slice_split (λ b. b == c) text ≡ text ∷ []
split_none c text e =
    let p : ℕ → Bool = λ b. b == c in
    let high : length text ≤ position_or_len p text = grind (arith, e) in
    slice_split_none p text (λ k d h. fails_before_first p text k d (omega (arith, high, h)))

front_of : Option (List ℕ × List ℕ) → List ℕ
front_of None = []
front_of (Some cut) = cut.0

rest_of : Option (List ℕ × List ℕ) → List ℕ
rest_of None = []
rest_of (Some cut) = cut.1

-- a cut gives the first piece, and the pieces of what follows
pub pieces_cut : (c : ℕ) (text front rest : List ℕ) → Some (front, rest) ≡ split_once c text → slice_split (λ b. b == c) text ≡ front ∷ slice_split (λ b. b == c) rest
unfolding front_of rest_of
pieces_cut c text front rest e = at (position (λ b. b == c) text) refl e
  where
    at : (o : Option ℕ) → position (λ b. b == c) text ≡ o → Some (front, rest) ≡ cut_at o text → slice_split (λ b. b == c) text ≡ front ∷ slice_split (λ b. b == c) rest
    at None h e = let same : Some (front, rest) ≡ None = e in cc
    at (Some i) h e = rw (ap front_of e, ap rest_of e) (split_some c text i h)

-- where there is no cut, the text is the one piece
pub pieces_whole : (c : ℕ) (text : List ℕ) → None ≡ split_once c text → slice_split (λ b. b == c) text ≡ text ∷ []
pieces_whole c text e = at (position (λ b. b == c) text) refl e
  where
    at : (o : Option ℕ) → position (λ b. b == c) text ≡ o → None ≡ cut_at o text → slice_split (λ b. b == c) text ≡ text ∷ []
    at None h e = split_none c text h
    at (Some i) h e = let none : None ≡ Some (take i text, drop (i + 1) text) = e in cc

-- what follows a cut is shorter
pub cut_shorter : (c : ℕ) (text front rest : List ℕ) → Some (front, rest) ≡ split_once c text → length rest < length text
unfolding rest_of
cut_shorter c text front rest e = at (position (λ b. b == c) text) refl e
  where
    at : (o : Option ℕ) → position (λ b. b == c) text ≡ o → Some (front, rest) ≡ cut_at o text → length rest < length text
    at None h e = let same : Some (front, rest) ≡ None = e in cc
    at (Some i) h e =
        let tail : rest ≡ drop (i + 1) text = ap rest_of e in
        omega (arith, ap length tail, length-drop (i + 1) text, (position-Some (λ b. b == c) text i 0 h).0)
