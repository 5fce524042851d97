-- How long numbers, texts and compounds are.
use Rattle.std.proofs.Common.{◌≡◌, ℕ, ◌+◌, ◌<◌, ◌≤◌, ◌^◌, Bool, true, false, ltb, List, length, refl, arith}
use Rattle.std.specs.Prelude.{◌&&◌}
use Rattle.std.proofs.lemmas.Bool.{ltb-true}
use Rattle.std.proofs.lemmas.List.{length-append}
use Rattle.amqp_value.specs.declared.code.SizeWidth.{SizeWidth}
use Rattle.amqp_value.specs.declared.code.SizeWidth.TheVariants.{One, Four}
use Rattle.amqp_value.specs.Code.{octets, limit, block, content}
use Rattle.amqp_value.specs.Canonical.{narrow_if, width_of, compound_width, compound}
use Rattle.amqp_value.specs.Writing.{octet_count, compound_length}

pub length-octets : (w : SizeWidth) (n : ℕ) → length (octets w n) ≡ octet_count w
length-octets One n = refl
length-octets Four n = refl

pub length-block : (w : SizeWidth) (s : List ℕ) → length (block w s) ≡ octet_count w + length s
length-block w s = omega (arith, length-append (octets w (length s)) s, length-octets w (length s))

pub length-content : (w : SizeWidth) (n : ℕ) (items : List ℕ) → length (content w n items) ≡ octet_count w + length items
length-content w n items = omega (arith, length-append (octets w n) items, length-octets w n)

pub length-compound : (number : SizeWidth → ℕ) (n : ℕ) (items : List ℕ) → length (compound number n items) ≡ compound_length n (length items)
length-compound number n items =
    omega (arith, length-block (compound_width n (length items)) (content (compound_width n (length items)) n items), length-content (compound_width n (length items)) n items)

pub octets_small : (w : SizeWidth) → octet_count w ≤ 4
octets_small One = omega arith
octets_small Four = omega arith

-- a size, a count and the items take nine bytes more at most
pub compound_near : (n items : ℕ) → compound_length n items ≤ items + 9
compound_near n items = omega (arith, octets_small (compound_width n items))

-- a count and the size of what follows it have room
pub record HaveLimits (w : SizeWidth) (n items : ℕ) : Type 0 where
  pub few : n < limit w
  pub short : items + octet_count w < limit w

limits_by : (n items : ℕ) (s t : Bool) → ltb n 256 ≡ s → ltb (items + 1) 256 ≡ t → n ≤ items → 4 + items < 2 ^ 32 → HaveLimits (narrow_if (s && t)) n items
limits_by n items true true p q le lt = record { few = ltb-true n 256 p; short = ltb-true (items + 1) 256 q }
limits_by n items true false p q le lt = record { few = omega (arith, le, lt); short = omega (arith, lt) }
limits_by n items false t p q le lt = record { few = omega (arith, le, lt); short = omega (arith, lt) }

pub limits : (n items : ℕ) → n ≤ items → 4 + items < 2 ^ 32 → HaveLimits (compound_width n items) n items
limits n items le lt = limits_by n items (ltb n 256) (ltb (items + 1) 256) refl refl le lt

narrow_fits : (n : ℕ) (t : Bool) → ltb n 256 ≡ t → n < 2 ^ 32 → n < limit (narrow_if t)
narrow_fits n true e lt = ltb-true n 256 e
narrow_fits n false e lt = lt

-- the least width of a text has room for it
pub width_fits : (s : List ℕ) → length s < 2 ^ 32 → length s < limit (width_of s)
width_fits s lt = narrow_fits (length s) (ltb (length s) 256) refl lt
