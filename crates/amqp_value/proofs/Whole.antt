-- The two laws of reading at the front of an input, as the public call says them.
use Rattle.std.proofs.Common.{◌≡◌, ℕ, ◌+◌, ◌-◌, ◌≤◌, List, ◌++◌, length, take, Option, Some, refl, sym, ap, subst, ◌∙◌, arith}
use Rattle.std.proofs.lemmas.List.{take_at, length-append}
use Rattle.std.proofs.lemmas.Option.{some_pair_parts, none-some}
use Rattle.amqp_value.specs.declared.error.ValueError.{ValueError}
use Rattle.amqp_value.specs.declared.error.ValueError.TheVariants as errors
use Rattle.amqp_data.specs.Data.{Amqp, depth}
use Rattle.amqp_value.specs.Grammar.{Spells}
use Rattle.amqp_value.specs.Reading.{Fails, value_at}
use Rattle.amqp_value.proofs.Numbers.{IsBytes}
use Rattle.amqp_value.proofs.Sound.{value_sound}
use Rattle.amqp_value.proofs.Complete.{value_again}

pub record IsRead (d : ℕ) (input : List ℕ) (v : Amqp) (rest : List ℕ) : Type 0 where
  pub shorter : length rest ≤ length input
  pub found : Spells (take (length input - length rest) input) v
  pub nests : depth v ≤ d

pub is_read : (d : ℕ) (input : List ℕ) (v : Amqp) (rest : List ℕ) → IsBytes input → value_at d input ≡ Some (v, rest) → IsRead d input v rest
is_read d input v rest fits e =
    let t = value_sound d input (v, rest) fits e in
    let total : length input ≡ length t.text + length rest = ap length t.parts ∙ length-append t.text rest in
    let len : length input - length rest ≡ length t.text = omega (arith, total) in
    let front : take (length input - length rest) input ≡ t.text = ap (λ (k : ℕ). take k input) len ∙ ap (take (length t.text)) t.parts ∙ take_at t.text rest (length t.text) refl in
    record { shorter = omega (arith, total); found = subst (λ (s : List ℕ). Spells s v) (sym front) t.spelled; nests = t.within }

pub is_only : (d : ℕ) (input : List ℕ) (w : Amqp) (left : List ℕ) → value_at d input ≡ Some (w, left) → (text rest : List ℕ) (v : Amqp) → input ≡ text ++ rest → Spells text v → depth v ≤ d
    → (w ≡ v) × (length input - length left ≡ length text)
is_only d input w left e text rest v parts s le =
    let both : ◌≡◌ {A = Option (Amqp × List ℕ)} (Some (w, left)) (Some (v, rest)) = sym e ∙ ap (value_at d) parts ∙ value_again d rest s le in
    let p = some_pair_parts w v left rest both in
    (p.0, omega (arith, ap length parts, length-append text rest, ap length p.1))

pub none_begins : (d : ℕ) (input : List ℕ) (e : ValueError) → Fails e (value_at d input) → e ≡ errors.Decode → (text rest : List ℕ) (v : Amqp) → input ≡ text ++ rest → Spells text v → depth v ≤ d → ⊥
none_begins d input (errors.Memory a) f e text rest v parts s le = cc
none_begins d input errors.Decode f e text rest v parts s le = none-some (v, rest) (sym f ∙ ap (value_at d) parts ∙ value_again d rest s le)
none_begins d input errors.Depth f e text rest v parts s le = f
none_begins d input errors.Size f e text rest v parts s le = f
none_begins d input errors.Short f e text rest v parts s le = f
