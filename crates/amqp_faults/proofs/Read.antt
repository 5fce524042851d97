-- What a reader of the front says of the bytes.
use Rattle.std.proofs.Common.{◌≡◌, ℕ, ◌≤◌, List, ◌++◌, length, take, drop, Option, Some, None, refl, sym, ap, ◌∙◌}
use Rattle.std.proofs.lemmas.List.{take-append-drop}
use Rattle.amqp_data.specs.Data.{Amqp, depth}
use Rattle.amqp_value.specs.Grammar.{Spells}
use Rattle.amqp_value.specs.Reading.{value_at}
use Rattle.amqp_value.proofs.Numbers.{IsBytes}
use Rattle.amqp_value.proofs.Sound.{value_sound}
use Rattle.amqp_value.proofs.Complete.{value_again}

pub is_read : (d used : ℕ) (bytes : List ℕ) (v : Amqp) → Spells (take used bytes) v → depth v ≤ d → value_at d bytes ≡ Some (v, drop used bytes)
is_read d used bytes v s le = ap (value_at d) (sym (take-append-drop used bytes)) ∙ value_again d (drop used bytes) s le

pub is_seen : (d used : ℕ) (bytes rest : List ℕ) (v : Amqp) → Spells (take used bytes) v → depth v ≤ d → rest ≡ drop used bytes → value_at d bytes ≡ Some (v, rest)
is_seen d used bytes rest v s le e = is_read d used bytes v s le ∙ ap (λ (z : List ℕ). Some (v, z)) (sym e)

none_of : (d : ℕ) (bytes : List ℕ) → IsBytes bytes → ((text rest : List ℕ) (v : Amqp) → bytes ≡ text ++ rest → Spells text v → depth v ≤ d → ⊥) → (r : Option (Amqp × List ℕ)) → value_at d bytes ≡ r → r ≡ None
none_of d bytes fits none None e = refl
none_of d bytes fits none (Some x) e = let t = value_sound d bytes x fits e in absurd (none t.text x.1 x.0 t.parts t.spelled t.within)

pub none_read : (d : ℕ) (bytes : List ℕ) → IsBytes bytes → ((text rest : List ℕ) (v : Amqp) → bytes ≡ text ++ rest → Spells text v → depth v ≤ d → ⊥) → value_at d bytes ≡ None
none_read d bytes fits none = none_of d bytes fits none (value_at d bytes) refl
