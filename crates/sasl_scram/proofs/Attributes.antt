-- A text is split at its first comma in one way.
use Rattle.std.proofs.Common.{◌≡◌, ◌≢◌, ℕ, suc, List, [], ◌∷◌, ◌++◌, refl, ◌∙◌, sym, arith, subst}
use Rattle.sasl_scram.specs.Parts.{IsTail, IsAttribute, IsNext, IsPair}
use Rattle.sasl_scram.specs.Texts.{IsValue}

first_byte : (x : ℕ) (xs : List ℕ) → IsValue (x ∷ xs) → x ≢ 44
first_byte x xs all = all 0 0 (grind arith)

pub later_bytes : (x : ℕ) (xs : List ℕ) → IsValue (x ∷ xs) → IsValue xs
later_bytes x xs all = λ k d h. all (suc k) d (grind arith)

pub split_once : (v r w s : List ℕ) → IsValue v → IsValue w → IsTail r → IsTail s → v ++ r ≡ w ++ s → (v ≡ w) × (r ≡ s)
split_once [] r [] s a b c d e = (refl, e)
split_once [] [] (y ∷ ys) s a b c d e = cc
split_once [] (x ∷ xs) (y ∷ ys) s a b c d e = let same : x ≡ y = cc in absurd (first_byte y ys b (sym same ∙ c))
split_once (x ∷ xs) r [] [] a b c d e = cc
split_once (x ∷ xs) r [] (y ∷ ys) a b c d e = let same : x ≡ y = cc in absurd (first_byte x xs a (same ∙ d))
split_once (x ∷ xs) r (y ∷ ys) s a b c d e =
    let same : x ≡ y = cc in
    let rest : xs ++ r ≡ ys ++ s = cc in
    let found = split_once xs r ys s (later_bytes x xs a) (later_bytes y ys b) c d rest in
    let values : xs ≡ ys = found.0 in
    (cc, found.1)

pub attribute_once : (letter : ℕ) (text v r w s : List ℕ) → IsAttribute letter text v r → IsAttribute letter text w s
    → (v ≡ w) × (r ≡ s)
attribute_once letter text v r w s a b =
    let left : text ≡ letter ∷ 61 ∷ v ++ r = a.text_is in
    let right : text ≡ letter ∷ 61 ∷ w ++ s = b.text_is in
    let same : v ++ r ≡ w ++ s = cc in
    split_once v r w s a.value_is b.value_is a.rest_is b.rest_is same

pub next_once : (letter : ℕ) (text v r w s : List ℕ) → IsNext letter text v r → IsNext letter text w s → (v ≡ w) × (r ≡ s)
next_once letter text v r w s a b =
    let left : text ≡ 44 ∷ a.after = a.comma in
    let right : text ≡ 44 ∷ b.after = b.comma in
    let same : b.after ≡ a.after = cc in
    let P : List ℕ → Type 0 = λ t. IsAttribute letter t w s in
    attribute_once letter a.after v r w s a.attribute (subst P same b.attribute)

-- two attributes, one after the other
pub paired : (first second : ℕ) (text v r w s : List ℕ) → IsAttribute first text v r → IsNext second r w s
    → IsPair first second text v w s
paired first second text v r w s a b =
    let one : text ≡ first ∷ 61 ∷ v ++ r = a.text_is in
    let two : r ≡ 44 ∷ b.after = b.comma in
    let three : b.after ≡ second ∷ 61 ∷ w ++ s = b.attribute.text_is in
    record { text_is = cc; value_is = a.value_is; other_is = b.attribute.value_is; rest_is = b.attribute.rest_is }

pub pair_first : (first second : ℕ) (text v w s : List ℕ) → IsPair first second text v w s
    → IsAttribute first text v (44 ∷ second ∷ 61 ∷ (w ++ s))
pair_first first second text v w s p = record { text_is = p.text_is; value_is = p.value_is; rest_is = refl }

pub pair_second : (first second : ℕ) (text v w s : List ℕ) → IsPair first second text v w s
    → IsNext second (44 ∷ second ∷ 61 ∷ (w ++ s)) w s
pair_second first second text v w s p = record {
  after = second ∷ 61 ∷ (w ++ s);
  comma = refl;
  attribute = record { text_is = refl; value_is = p.other_is; rest_is = p.rest_is };
}

pub pair_once : (first second : ℕ) (text v w s v' w' s' : List ℕ) → IsPair first second text v w s
    → IsPair first second text v' w' s' → (v ≡ v') × (w ≡ w') × (s ≡ s')
pair_once first second text v w s v' w' s' a b =
    let one = attribute_once first text v _ v' _ (pair_first first second text v w s a) (pair_first first second text v' w' s' b) in
    let rests : 44 ∷ second ∷ 61 ∷ (w ++ s) ≡ 44 ∷ second ∷ 61 ∷ (w' ++ s') = one.1 in
    let same : w ++ s ≡ w' ++ s' = cc in
    let two = split_once w s w' s' a.other_is b.other_is a.rest_is b.rest_is same in
    (one.0, two.0, two.1)

-- a pair whose second attribute is missing
pub no_pair : (first second : ℕ) (text v r : List ℕ) → IsAttribute first text v r
    → ((w s : List ℕ) → IsNext second r w s → ⊥) → (v' w s : List ℕ) → IsPair first second text v' w s → ⊥
no_pair first second text v r a none v' w s p =
    let one = attribute_once first text v r v' _ a (pair_first first second text v' w s p) in
    let P : List ℕ → Type 0 = λ t. IsNext second t w s in
    none w s (subst P (sym one.1) (pair_second first second text v' w s p))
