-- Extensions, one after another.
use Rattle.std.proofs.lemmas.Bool.{eqb-false}
use Rattle.std.proofs.Common.{nat_eq, false, ◌<◌, get_or, ◌≡◌, ◌≢◌, ℕ, suc, length, ap, arith, ◌⊎◌, inl, inr, List, [], ◌∷◌, ◌++◌, refl, subst, sym, ◌∙◌}
use Rattle.sasl_scram.specs.Parts.{IsTail, IsNext, IsExtension}
use Rattle.sasl_scram.specs.Texts.{IsExtensions}
use Rattle.sasl_scram.specs.Texts.IsExtensions.{none, more}
use Rattle.sasl_scram.proofs.Attributes.{next_once}

pub tail_of : (t : List ℕ) → IsExtensions t → IsTail t
tail_of t none = tt
tail_of t (more letter value rest l m s v e) = refl

pub first_extension : (t : List ℕ) → IsExtensions t → (t ≡ []) ⊎ ((rest : List ℕ) × IsExtension t rest × IsExtensions rest)
first_extension t none = inl refl
first_extension t (more letter value rest l m s v e) = inr (
  rest,
  record {
    letter = letter;
    value = value;
    letter_is = l;
    not_reserved = m;
    some = s;
    next = record {
      after = letter ∷ 61 ∷ value ++ rest;
      comma = refl;
      attribute = record { text_is = refl; value_is = v; rest_is = tail_of rest e };
    };
  },
  e,
)

pub more_extensions : (t rest : List ℕ) → IsExtension t rest → IsExtensions rest → IsExtensions t
more_extensions t rest x e =
    let one : t ≡ 44 ∷ x.next.after = x.next.comma in
    let two : x.next.after ≡ x.letter ∷ 61 ∷ x.value ++ rest = x.next.attribute.text_is in
    let three : 44 ∷ x.letter ∷ 61 ∷ x.value ++ rest ≡ t = cc in
    let P : List ℕ → Type 0 = λ s. IsExtensions s in
    subst P three (more x.letter x.value rest x.letter_is x.not_reserved x.some x.next.attribute.value_is e)

extension_once : (t r s : List ℕ) → IsExtension t r → IsExtension t s → r ≡ s
extension_once t r s a b =
    let one : t ≡ 44 ∷ a.next.after = a.next.comma in
    let two : a.next.after ≡ a.letter ∷ 61 ∷ a.value ++ r = a.next.attribute.text_is in
    let three : t ≡ 44 ∷ b.next.after = b.next.comma in
    let four : b.next.after ≡ b.letter ∷ 61 ∷ b.value ++ s = b.next.attribute.text_is in
    let same : b.letter ≡ a.letter = cc in
    let P : ℕ → Type 0 = λ l. IsNext l t b.value s in
    (next_once a.letter t a.value r b.value s a.next (subst P same b.next)).1

pub fewer_extensions : (t rest : List ℕ) → IsExtension t rest → IsExtensions t → IsExtensions rest
fewer_extensions t rest x e = elim (first_extension t e) [
  | inl empty ↦
      let one : suc (length x.next.after) ≡ 0 = ap length (sym x.next.comma ∙ empty) in absurd (omega arith)
  | inr found ↦ let P : List ℕ → Type 0 = λ s. IsExtensions s in subst P (extension_once t found.0 rest found.1 x) found.2
]

pub no_extensions : (t : List ℕ) → t ≢ [] → ((rest : List ℕ) → IsExtension t rest → ⊥) → IsExtensions t → ⊥
no_extensions t some missing e = elim (first_extension t e) [ inl empty ↦ some empty | inr found ↦ missing found.0 found.1 ]

letter_at : (t r : List ℕ) (x : IsExtension t r) → get_or t 1 0 ≡ x.letter
letter_at t r x =
    let one : t ≡ 44 ∷ x.next.after = x.next.comma in
    let two : x.next.after ≡ x.letter ∷ 61 ∷ x.value ++ r = x.next.attribute.text_is in
    ap (λ s. get_or s 1 0) one ∙ ap (λ s. get_or s 0 0) two

-- a text whose second byte is this letter, with no attribute of it behind the comma, or an empty one
pub other_extension : (t : List ℕ) → ((v r : List ℕ) → IsNext (get_or t 1 0) t v r → ⊥)
    → (r : List ℕ) → IsExtension t r → ⊥
other_extension t missing r x =
    let P : ℕ → Type 0 = λ l. IsNext l t x.value r in
    missing x.value r (subst P (sym (letter_at t r x)) x.next)

pub empty_extension : (t v s : List ℕ) → IsNext (get_or t 1 0) t v s → length v ≡ 0 → (r : List ℕ) → IsExtension t r → ⊥
empty_extension t v s n e r x =
    let P : ℕ → Type 0 = λ l. IsNext l t x.value r in
    let same = next_once (get_or t 1 0) t v s x.value r n (subst P (sym (letter_at t r x)) x.next) in
    let long : 0 < length x.value = x.some in
    let equal : length v ≡ length x.value = ap length same.0 in
    omega arith

pub not_empty : (t : List ℕ) → nat_eq (length t) 0 ≡ false → t ≢ []
not_empty t e empty = eqb-false (length t) 0 e (ap length empty)

pub empty_extensions : (t : List ℕ) → length t ≡ 0 → IsExtensions t
empty_extensions [] e = none
empty_extensions (x ∷ xs) e = absurd (omega arith)
