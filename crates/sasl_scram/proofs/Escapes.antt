-- User names as they are written.
use Rattle.std.proofs.Common.{◌≡◌, ◌≢◌, ℕ, suc, ◌+◌, ◌<◌, length, take, drop, get_or, arith, Bool, true, false, List, [], ◌∷◌, ◌++◌, refl, ap, sym, ◌∙◌, append_assoc, append-nil, nat_eq}
use Rattle.std.proofs.lemmas.List.{take_more}
use Rattle.std.proofs.lemmas.Bool.{eqb-true, eqb-false}
use Rattle.sasl_scram.specs.Texts.{escape_of, escaped_of}

-- the three ways in which a byte is written
pub data Escape (x : ℕ) : Type 0 where
  comma : x ≡ 44 → escape_of x ≡ 61 ∷ 50 ∷ 67 ∷ [] → Escape x
  equals : x ≡ 61 → escape_of x ≡ 61 ∷ 51 ∷ 68 ∷ [] → Escape x
  plain : x ≢ 44 → x ≢ 61 → escape_of x ≡ x ∷ [] → Escape x

escape_by : (x : ℕ) (p q : Bool) → nat_eq x 44 ≡ p → nat_eq x 61 ≡ q → Escape x
escape_by x true q e f = comma (eqb-true x 44 e) (rw e refl)
escape_by x false true e f = equals (eqb-true x 61 f) (rw (e, f) refl)
escape_by x false false e f = plain (eqb-false x 44 e) (eqb-false x 61 f) (rw (e, f) refl)

pub escape : (x : ℕ) → Escape x
escape x = escape_by x (nat_eq x 44) (nat_eq x 61) refl refl

pub escaped_of-nil : escaped_of [] ≡ []
unfolding escaped_of
escaped_of-nil = refl

pub escaped_of-cons : (x : ℕ) (xs : List ℕ) → escaped_of (x ∷ xs) ≡ escape_of x ++ escaped_of xs
unfolding escaped_of
escaped_of-cons x xs = refl

-- one more byte
pub escaped_of-snoc : (xs : List ℕ) (x : ℕ) → escaped_of (xs ++ x ∷ []) ≡ escaped_of xs ++ escape_of x
unfolding escaped_of
escaped_of-snoc [] x = simp append-nil
escaped_of-snoc (y ∷ ys) x = ap (λ zs. escape_of y ++ zs) (escaped_of-snoc ys x) ∙ sym (append_assoc (escape_of y) (escaped_of ys) (escape_of x))

-- one more byte of a user
pub escaped_more : (user : List ℕ) (i : ℕ) → i < length user
    → escaped_of (take (i + 1) user) ≡ escaped_of (take i user) ++ escape_of (get_or user i 0)
escaped_more user i h = ap escaped_of (take_more user i 0 h) ∙ escaped_of-snoc (take i user) (get_or user i 0)

pub escaped_step : (old text user : List ℕ) (i : ℕ) → i < length user → text ≡ old ++ escaped_of (take i user)
    → text ++ escape_of (get_or user i 0) ≡ old ++ escaped_of (take (i + 1) user)
escaped_step old text user i h e =
    ap (λ zs. zs ++ escape_of (get_or user i 0)) e
    ∙ (append_assoc old (escaped_of (take i user)) (escape_of (get_or user i 0))
    ∙ ap (λ zs. old ++ zs) (sym (escaped_more user i h)))

not_comma : ◌≡◌ {A = ℕ} 44 61 → ⊥
not_comma e = absurd (omega arith)

empty : {n : ℕ} → 0 ≡ suc n → ⊥
empty e = absurd (omega arith)

not_fifty : ◌≡◌ {A = ℕ} 50 51 → ⊥
not_fifty e = absurd (omega arith)

-- a written byte ends in one way
pub escape_once : (b x : ℕ) (r s : List ℕ) → escape_of b ++ r ≡ escape_of x ++ s → r ≡ s
escape_once b x r s e = elim (escape b) as (λ _. r ≡ s) [
  | comma p m ↦ elim (escape x) as (λ _. r ≡ s) [
    | comma q n ↦ ap (drop 3) (sym (ap (λ zs. zs ++ r) m) ∙ (e ∙ ap (λ zs. zs ++ s) n))
    | equals q n ↦ absurd (not_fifty (ap (λ zs. get_or zs 1 0) (sym (ap (λ zs. zs ++ r) m) ∙ (e ∙ ap (λ zs. zs ++ s) n))))
    | plain q o n ↦ absurd (o (sym (ap (λ zs. get_or zs 0 0) (sym (ap (λ zs. zs ++ r) m) ∙ (e ∙ ap (λ zs. zs ++ s) n)))))
  ]
  | equals p m ↦ elim (escape x) as (λ _. r ≡ s) [
    | comma q n ↦ absurd (not_fifty (sym (ap (λ zs. get_or zs 1 0) (sym (ap (λ zs. zs ++ r) m) ∙ (e ∙ ap (λ zs. zs ++ s) n)))))
    | equals q n ↦ ap (drop 3) (sym (ap (λ zs. zs ++ r) m) ∙ (e ∙ ap (λ zs. zs ++ s) n))
    | plain q o n ↦ absurd (o (sym (ap (λ zs. get_or zs 0 0) (sym (ap (λ zs. zs ++ r) m) ∙ (e ∙ ap (λ zs. zs ++ s) n)))))
  ]
  | plain p l m ↦ elim (escape x) as (λ _. r ≡ s) [
    | comma q n ↦ absurd (l (ap (λ zs. get_or zs 0 0) (sym (ap (λ zs. zs ++ r) m) ∙ (e ∙ ap (λ zs. zs ++ s) n))))
    | equals q n ↦ absurd (l (ap (λ zs. get_or zs 0 0) (sym (ap (λ zs. zs ++ r) m) ∙ (e ∙ ap (λ zs. zs ++ s) n))))
    | plain q o n ↦ ap (drop 1) (sym (ap (λ zs. zs ++ r) m) ∙ (e ∙ ap (λ zs. zs ++ s) n))
  ]
]

-- what is read first
pub plain_byte : (b : ℕ) → b ≢ 44 → b ≢ 61 → escape_of b ≡ b ∷ []
plain_byte b n m = elim (escape b) as (λ _. escape_of b ≡ b ∷ []) [
  | comma a s ↦ absurd (n a)
  | equals a s ↦ absurd (m a)
  | plain a c s ↦ s
]

pub plain_front : (text : List ℕ) (b : ℕ) (rest : List ℕ) → b ≢ 44 → b ≢ 61 → text ≡ b ∷ rest → text ≡ escape_of b ++ rest
plain_front text b rest n m e = e ∙ sym (ap (λ zs. zs ++ rest) (plain_byte b n m))

-- what no byte is written as
pub no_comma : (b : ℕ) (tail rest : List ℕ) → 44 ∷ tail ≡ escape_of b ++ rest → ⊥
no_comma b tail rest e = elim (escape b) as (λ _. ⊥) [
  | comma a s ↦ not_comma (ap (λ zs. get_or zs 0 0) (e ∙ ap (λ zs. zs ++ rest) s))
  | equals a s ↦ not_comma (ap (λ zs. get_or zs 0 0) (e ∙ ap (λ zs. zs ++ rest) s))
  | plain a m s ↦ a (sym (ap (λ zs. get_or zs 0 0) (e ∙ ap (λ zs. zs ++ rest) s)))
]

pub no_code : (b : ℕ) (code rest : List ℕ) → ((r : List ℕ) → code ≡ 50 ∷ 67 ∷ r → ⊥) → ((r : List ℕ) → code ≡ 51 ∷ 68 ∷ r → ⊥)
    → 61 ∷ code ≡ escape_of b ++ rest → ⊥
no_code b code rest n m e = elim (escape b) as (λ _. ⊥) [
  | comma a s ↦ n rest (ap (drop 1) (e ∙ ap (λ zs. zs ++ rest) s))
  | equals a s ↦ m rest (ap (drop 1) (e ∙ ap (λ zs. zs ++ rest) s))
  | plain a c s ↦ c (sym (ap (λ zs. get_or zs 0 0) (e ∙ ap (λ zs. zs ++ rest) s)))
]

pub no_byte : (b : ℕ) (rest : List ℕ) → [] ≡ escape_of b ++ rest → ⊥
no_byte b rest e = elim (escape b) as (λ _. ⊥) [
  | comma a s ↦ empty (ap length (e ∙ ap (λ zs. zs ++ rest) s))
  | equals a s ↦ empty (ap length (e ∙ ap (λ zs. zs ++ rest) s))
  | plain a c s ↦ empty (ap length (e ∙ ap (λ zs. zs ++ rest) s))
]

-- the loop over a written name: what was read, and what is left of any user
pub read_byte_more : (name user rest : List ℕ) (b : ℕ) (tail : List ℕ) → name ≡ escaped_of user ++ rest → rest ≡ escape_of b ++ tail
    → name ≡ escaped_of (user ++ b ∷ []) ++ tail
read_byte_more name user rest b tail e f =
    rw (escaped_of-snoc, append_assoc) (e ∙ ap (λ zs. escaped_of user ++ zs) f)

pub left_after : (rest : List ℕ) (b : ℕ) (tail w : List ℕ) → rest ≡ escape_of b ++ tail → rest ≡ escaped_of w
    → (v : List ℕ) × (tail ≡ escaped_of v)
left_after rest b tail [] f e = absurd (no_byte b tail (sym escaped_of-nil ∙ (sym e ∙ f)))
left_after rest b tail (x ∷ xs) f e = (xs, escape_once b x tail (escaped_of xs) (sym f ∙ (e ∙ escaped_of-cons x xs)))

pub none_left : (rest w : List ℕ) → 0 < length rest → ((b : ℕ) (tail : List ℕ) → rest ≡ escape_of b ++ tail → ⊥) → rest ≡ escaped_of w → ⊥
none_left rest [] some missing e =
    let h : length rest ≡ 0 = ap length (e ∙ escaped_of-nil) in omega arith
none_left rest (x ∷ xs) some missing e = missing x (escaped_of xs) (e ∙ escaped_of-cons x xs)
