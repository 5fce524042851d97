-- The sizes of texts, and of values by themselves.
use Rattle.std.proofs.Common.{◌≡◌, ℕ, suc, List, Option, Some, None, sym, ap, subst, ◌∙◌}
use Rattle.amqp_data.specs.Data.{scalar, binary, string, symbol}
use Rattle.amqp_value.specs.Canonical.{width_of, canonical_scalar, laid, canonical, IsSized}
use Rattle.amqp_value.proofs.Lengths.{length-block}
use Rattle.amqp_sizes.specs.Taken.{Takes}
use Rattle.amqp_sizes.specs.Texts.{TakesText}

pub binary_takes : (r : Option ℕ) (levels : ℕ) (s : List ℕ) → TakesText r levels s → Takes r levels (scalar (binary s))
unfolding canonical canonical_scalar laid IsSized
binary_takes (Some n) levels s h = record { is = h.0 ∙ ap suc (sym (length-block (width_of s) s)); fits = record { sized = h.1; nests = h.2 } }
binary_takes None levels s h = λ f. h f.sized f.nests

pub string_takes : (r : Option ℕ) (levels : ℕ) (s : List ℕ) → TakesText r levels s → Takes r levels (scalar (string s))
unfolding canonical canonical_scalar laid IsSized
string_takes (Some n) levels s h = record { is = h.0 ∙ ap suc (sym (length-block (width_of s) s)); fits = record { sized = h.1; nests = h.2 } }
string_takes None levels s h = λ f. h f.sized f.nests

pub symbol_takes : (r : Option ℕ) (levels : ℕ) (s : List ℕ) → TakesText r levels s → Takes r levels (scalar (symbol s))
unfolding canonical canonical_scalar laid IsSized
symbol_takes (Some n) levels s h = record { is = h.0 ∙ ap suc (sym (length-block (width_of s) s)); fits = record { sized = h.1; nests = h.2 } }
symbol_takes None levels s h = λ f. h f.sized f.nests

-- the same of bytes that are lent
pub binary_of : (r : Option ℕ) (levels : ℕ) (lent s : List ℕ) → lent ≡ s → TakesText r levels lent → Takes r levels (scalar (binary s))
binary_of r levels lent s e h = binary_takes r levels s (subst (λ (z : List ℕ). TakesText r levels z) e h)

pub string_of : (r : Option ℕ) (levels : ℕ) (lent s : List ℕ) → lent ≡ s → TakesText r levels lent → Takes r levels (scalar (string s))
string_of r levels lent s e h = string_takes r levels s (subst (λ (z : List ℕ). TakesText r levels z) e h)

pub symbol_of : (r : Option ℕ) (levels : ℕ) (lent s : List ℕ) → lent ≡ s → TakesText r levels lent → Takes r levels (scalar (symbol s))
symbol_of r levels lent s e h = symbol_takes r levels s (subst (λ (z : List ℕ). TakesText r levels z) e h)
