-- The names of the mechanisms.
use Rattle.std.proofs.Common.{◌≡◌, ◌≢◌, ◌⊎◌, inl, inr, ℕ, Bool, true, false, List, [], ◌∷◌, length, get_or, refl, ap, sym, ◌∙◌, arith, Contains, bytes_eq}
use Rattle.std.proofs.lemmas.List.Elements.{Contains-push_cases}
use Rattle.std.proofs.lemmas.Slice.Eq.{bytes_eq-Decides}
use Rattle.sasl_scram.specs.declared.hash.ScramHash.{ScramHash}
use Rattle.sasl_scram.specs.declared.hash.ScramHash.TheVariants.{Sha1, Sha256, Sha512}
use Rattle.sasl_scram.specs.Hashes.{mechanism_of}
use Rattle.sasl_exchange.specs.InitTexts.{anonymous_name, plain_name}

-- ---- the five

-- the names of the two that are as long as one another differ at a digit
digits_apart : ◌≡◌ {A = ℕ} 50 53 → ⊥
digits_apart e = absurd (omega (arith, e))

-- no two hash functions have mechanisms of one name
pub name_once : (a b : ScramHash) → mechanism_of a ≡ mechanism_of b → a ≡ b
name_once Sha1 Sha1 e = refl
name_once Sha1 Sha256 e = absurd (omega (arith, ap length e))
name_once Sha1 Sha512 e = absurd (omega (arith, ap length e))
name_once Sha256 Sha1 e = absurd (omega (arith, ap length e))
name_once Sha256 Sha256 e = refl
name_once Sha256 Sha512 e = absurd (digits_apart (ap (λ (u : List ℕ). get_or u 10 0) e))
name_once Sha512 Sha1 e = absurd (omega (arith, ap length e))
name_once Sha512 Sha256 e = absurd (digits_apart (ap (λ (u : List ℕ). get_or u 10 0) (sym e)))
name_once Sha512 Sha512 e = refl

pub scram_not_anonymous : (hash : ScramHash) → mechanism_of hash ≢ anonymous_name
scram_not_anonymous Sha1 e = omega (arith, ap length e)
scram_not_anonymous Sha256 e = omega (arith, ap length e)
scram_not_anonymous Sha512 e = omega (arith, ap length e)

pub scram_not_plain : (hash : ScramHash) → mechanism_of hash ≢ plain_name
scram_not_plain Sha1 e = omega (arith, ap length e)
scram_not_plain Sha256 e = omega (arith, ap length e)
scram_not_plain Sha512 e = omega (arith, ap length e)

pub anonymous_not_plain : anonymous_name ≢ plain_name
anonymous_not_plain e = omega (arith, ap length e)

-- ---- any names

-- they are the same or not
told_apart : (v : Bool) (a b : List ℕ) → bytes_eq a b ≡ v → (a ≡ b) ⊎ (a ≢ b)
told_apart true a b e = inl ((bytes_eq-Decides a b).0 e)
told_apart false a b e = inr (λ same. let both : true ≡ false = sym ((bytes_eq-Decides a b).1 same) ∙ e in absurd (cc both))

pub same_or_other : (a b : List ℕ) → (a ≡ b) ⊎ (a ≢ b)
same_or_other a b = told_apart (bytes_eq a b) a b refl

-- a list of one mechanism has no other
none_listed : (name : List ℕ) → Contains [] name → ⊥
none_listed name (i, l, e) = omega (arith, l)

pub one_listed : (a b : List ℕ) → Contains (a ∷ []) b → a ≡ b
one_listed a b c = elim (Contains-push_cases [] a b c) as (λ _. a ≡ b) [
  | inl n ↦ absurd (none_listed b n)
  | inr e ↦ e
]
