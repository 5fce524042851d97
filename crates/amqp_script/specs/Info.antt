-- The error of a Close in the text of a trace (OASIS AMQP 1.0, part 2, section 2.8.14).
use Rattle.std.specs.Prelude.{ℕ, ◌*◌, ◌^◌, List, ◌++◌, length, Bool, true, ◌&&◌, nat_lt, if◌then◌else◌, codes, Option, Some, None}
use Rattle.amqp_data.specs.Data.{Scalar, binary, string, symbol, Amqp, Items, Pairs, scalar, list, dict, array, described, no_items, item, no_pairs, pair, count, pair_count, depth}
use Rattle.amqp_value.specs.declared.code.SizeWidth.TheVariants.{Four}
use Rattle.amqp_value.specs.Code.{content}
use Rattle.amqp_value.specs.Canonical.{array_items, canonical, canonical_items, canonical_pairs}
use Rattle.amqp_composites.specs.declared.error.Error.{Error}
use Rattle.amqp_script.specs.Hex.{bytes_text, option_text}

abbrev pub is_scalar_sized : Scalar → Bool
is_scalar_sized (binary s) = nat_lt (length s) (2 ^ 32)
is_scalar_sized (string s) = nat_lt (length s) (2 ^ 32)
is_scalar_sized (symbol s) = nat_lt (length s) (2 ^ 32)
is_scalar_sized s = true

-- each length has room in 32 bits, as a test
unfoldable mutual
  pub is_sized : Amqp → Bool
  is_sized (scalar s) = is_scalar_sized s
  is_sized (list vs) = are_sized vs && nat_lt (length (content Four (count vs) (canonical_items vs))) (2 ^ 32)
  is_sized (dict ps) = are_pairs_sized ps && nat_lt (length (content Four (2 * pair_count ps) (canonical_pairs ps))) (2 ^ 32)
  is_sized (array k vs) = are_sized vs && nat_lt (length (content Four (count vs) (array_items k vs))) (2 ^ 32)
  is_sized (described d v) = is_sized d && is_sized v

  pub are_sized : Items → Bool
  are_sized no_items = true
  are_sized (item v vs) = is_sized v && are_sized vs

  pub are_pairs_sized : Pairs → Bool
  are_pairs_sized no_pairs = true
  are_pairs_sized (pair k v ps) = is_sized k && is_sized v && are_pairs_sized ps

-- the canonical bytes of a value, or the word that says why they are not written
abbrev pub value_text : Amqp → List ℕ
value_text v = if nat_lt 32 (depth v) then codes "deep" else if is_sized v then bytes_text (canonical v) else codes "long"

abbrev pub info_text : Option Pairs → List ℕ
info_text None = codes "-"
info_text (Some ps) = value_text (dict ps)

-- the condition as it is, the description and the info
abbrev pub fault_text : Error → List ℕ
fault_text e = e.condition ++ codes " " ++ option_text e.description ++ codes " " ++ info_text e.info
