-- What is written behind a number.
use Rattle.std.proofs.Common.{◌≡◌, ℕ, suc, ◌≤◌, List, ◌++◌, ◌∷◌, [], sym, ap, subst, ◌∙◌, append_assoc, arith}
use Rattle.std.specs.Prelude.{Result, Ok, Err}
use Rattle.amqp_value.specs.amqp_data.Data.{Amqp, scalar, ulong}
use Rattle.amqp_value.specs.declared.error.ValueError.{ValueError}
use Rattle.amqp_value.specs.declared.error.ValueError.TheVariants as value
use Rattle.amqp_value.specs.Grammar.{described'}
use Rattle.amqp_value.specs.Canonical.{canonical, IsSized}
use Rattle.amqp_value.specs.Writing.{Writes}
use Rattle.amqp_composites.specs.amqp_fields.declared.error.BaseError.{BaseError}
use Rattle.amqp_described.specs.Error.{of_value_result}
use Rattle.amqp_described.specs.Writing.{numbered, Added, Adds, PutsNumber}

put : (r : Result (Unit {0}) ValueError) (mid new : List ℕ) (old : List ℕ) (n : ℕ) → mid ≡ old ++ 0 ∷ [] → Writes r mid new (scalar (ulong n)) 32 → PutsNumber (of_value_result r) old new n
unfolding IsSized
put (Ok x) mid new old n is h = subst (λ (z : List ℕ). Added z new (scalar (ulong n))) is (record { bytes = h.0.bytes; spelled = h.0.spelled })
put (Err (value.Memory a)) mid new old n is h = tt
put (Err value.Depth) mid new old n is h = absurd (omega (arith, h.1))
put (Err value.Size) mid new old n is h = h.2 tt
put (Err value.Decode) mid new old n is h = h
put (Err value.Short) mid new old n is h = h

pub number_put : (r : Result (Unit {0}) ValueError) (s : Result (Unit {0}) BaseError) (mid new old : List ℕ) (n : ℕ) → s ≡ of_value_result r → mid ≡ old ++ 0 ∷ [] → Writes r mid new (scalar (ulong n)) 32 → PutsNumber s old new n
number_put r s mid new old n e is h = subst (λ (z : Result (Unit {0}) BaseError). PutsNumber z old new n) (sym e) (put r mid new old n is h)

joined : (old d v : List ℕ) → ((old ++ 0 ∷ []) ++ d) ++ v ≡ old ++ 0 ∷ (d ++ v)
joined old d v = simp append_assoc

behind : (r : Result (Unit {0}) ValueError) (old mid new : List ℕ) (n : ℕ) (v : Amqp) (levels : ℕ) → 1 ≤ levels → Added (old ++ 0 ∷ []) mid (scalar (ulong n)) → Writes r mid new v levels → Adds (of_value_result r) old new (numbered n v) (suc levels)
unfolding canonical IsSized
behind (Ok x) old mid new n v levels pos h g = (
  record {
    bytes = g.0.bytes ∙ ap (λ (z : List ℕ). z ++ canonical v) h.bytes ∙ joined old (canonical (scalar (ulong n))) (canonical v);
    spelled = described' (scalar (ulong n)) v (canonical (scalar (ulong n))) (canonical v) h.spelled g.0.spelled;
  },
  record { sized = (tt, g.1); nests = omega (arith, pos, g.2) },
)
behind (Err (value.Memory a)) old mid new n v levels pos h g = tt
behind (Err value.Depth) old mid new n v levels pos h g = λ f. absurd (omega (arith, f.nests, g.1))
behind (Err value.Size) old mid new n v levels pos h g = λ f. g.2 f.sized.1
behind (Err value.Decode) old mid new n v levels pos h g = g
behind (Err value.Short) old mid new n v levels pos h g = g

pub behind_number : (r : Result (Unit {0}) ValueError) (s : Result (Unit {0}) BaseError) (old mid new : List ℕ) (n : ℕ) (v : Amqp) (levels : ℕ) → 1 ≤ levels → s ≡ of_value_result r → Added (old ++ 0 ∷ []) mid (scalar (ulong n)) → Writes r mid new v levels → Adds s old new (numbered n v) (suc levels)
behind_number r s old mid new n v levels pos e h g = subst (λ (z : Result (Unit {0}) BaseError). Adds z old new (numbered n v) (suc levels)) (sym e) (behind r old mid new n v levels pos h g)
