-- The shortest way to a text, and to null.
use Rattle.std.proofs.Common.{◌≡◌, ℕ, zero, suc, List, ◌∷◌, Some, refl}
use Rattle.amqp_value.specs.declared.code.SizeWidth.TheVariants.{One}
use Rattle.amqp_data.specs.Data.{scalar, string, null}
use Rattle.amqp_value.specs.Reading.{kept, text_at, scalar_at, code_at, body_at, value_at}

pub short_text : (depth : ℕ) (bytes rest : List ℕ) → (depth ≡ 0 → ⊥) → bytes ≡ 161 ∷ rest → value_at depth bytes ≡ kept scalar (kept string (text_at One rest))
unfolding value_at code_at body_at scalar_at
short_text zero bytes rest deep is = absurd (deep refl)
short_text (suc depth) bytes rest deep is = rw is refl

pub null_first : (depth : ℕ) (bytes rest : List ℕ) → (depth ≡ 0 → ⊥) → bytes ≡ 64 ∷ rest → value_at depth bytes ≡ Some (scalar null, rest)
unfolding value_at code_at body_at scalar_at
null_first zero bytes rest deep is = absurd (deep refl)
null_first (suc depth) bytes rest deep is = rw is refl
