-- What was read of a source: nothing, or all of it.
use Rattle.std.proofs.Common.{◌≡◌, List, ℕ, Option, Some, None, Result, Ok, Err, [], refl, sym, subst, arith}
use Rattle.list_laws.specs.Told.{Loses}
use Rattle.amqp_streams.specs.Streams.{ReadsUpTo}

loses_none : (a : Option (List ℕ)) → Loses a a []
loses_none None = tt
loses_none (Some xs) = refl

-- nothing was read, and it was not too long
pub reads_none : (limit : ℕ) (left : Option (List ℕ)) (too_long : Type 0) → (too_long → ⊥) → ReadsUpTo limit left left too_long
reads_none limit left too_long not_long =
    record { bytes = []; gave = loses_none left; exact = (λ h. absurd (not_long h), λ h. absurd (omega arith)) }

abbrev is_error : {A B : Type 0} → Result A B → Type 0
is_error (Ok x) = ⊥
is_error (Err e) = Unit {0}

-- it was read to its end, and was not too long
pub reads_all : {A B : Type 0} (limit : ℕ) (left left' : Option (List ℕ)) (x : A) (e : B) (too_long : Type 0)
    → ReadsUpTo limit left left' (◌≡◌ {A = Result A B} (Ok x) (Err e)) → (too_long → ⊥) → ReadsUpTo limit left left' too_long
reads_all {A} {B} limit left left' x e too_long read not_long =
    record {
      bytes = read.bytes;
      gave = read.gave;
      exact = (λ h. absurd (not_long h), λ h. absurd (subst (λ (r : Result A B). is_error r) (sym (read.exact.1 h)) tt));
    }
