-- The first part of a delivery, and what is left of it (OASIS AMQP 1.0, part 2, sections 2.3.1 and 2.6.14).
use Rattle.std.specs.Prelude.{◌≡◌, ℕ, ◌+◌, ◌-◌, ◌*◌, ◌^◌, nat_lt, nat_le, Bool, true, false, ◌&&◌, List, [], ◌∷◌, take, drop, length, Option, Some, None, if◌then◌else◌}
use Rattle.amqp_data.specs.Data.{Scalar, binary, string, symbol, Amqp, Items, Pairs, scalar, list, dict, array, described, no_items, item, no_pairs, pair, count, pair_count, depth}
use Rattle.amqp_described.specs.amqp_value.declared.code.SizeWidth.TheVariants.{Four}
use Rattle.amqp_described.specs.amqp_value.Code.{content}
use Rattle.amqp_described.specs.amqp_value.Canonical.{canonical, canonical_items, canonical_pairs, array_items}
use Rattle.amqp_performatives.specs.declared.transfer.Transfer.{Transfer}
use Rattle.amqp_parts.specs.declared.part.Part.{Part}
use Rattle.amqp_parts.specs.declared.splitting.Cut.{Cut}
use Rattle.amqp_parts.specs.Split.{fields_of, saying_more, saying_last, last_part, continuation, IsSplit}

-- whether a length has room in 32 bits
abbrev pub has_length : List ℕ → Bool
has_length s = nat_lt (length s) (2 ^ 32)

abbrev pub is_scalar_sized : Scalar → Bool
is_scalar_sized (binary s) = has_length s
is_scalar_sized (string s) = has_length s
is_scalar_sized (symbol s) = has_length s
is_scalar_sized s = true

-- whether each length of a value has
unfoldable mutual
  pub is_sized : Amqp → Bool
  is_sized (scalar s) = is_scalar_sized s
  is_sized (list vs) = are_sized vs && has_length (content Four (count vs) (canonical_items vs))
  is_sized (dict ps) = are_pairs_sized ps && has_length (content Four (2 * pair_count ps) (canonical_pairs ps))
  is_sized (array k vs) = are_sized vs && has_length (content Four (count vs) (array_items k vs))
  is_sized (described d v) = is_sized d && is_sized v

  pub are_sized : Items → Bool
  are_sized no_items = true
  are_sized (item v vs) = is_sized v && are_sized vs

  pub are_pairs_sized : Pairs → Bool
  are_pairs_sized no_pairs = true
  are_pairs_sized (pair k v ps) = is_sized k && is_sized v && are_pairs_sized ps

-- how many bytes the fields of a Transfer take; none where a length has no room or a field is nested more than 32 deep
abbrev pub measured : Transfer → Option ℕ
measured x = if is_sized (fields_of x) && nat_le (depth (fields_of x)) 34 then Some (length (canonical (fields_of x))) else None

-- what a frame of that size leaves behind its header of eight bytes and the fields
abbrev pub behind : ℕ → Option ℕ → Option ℕ
behind frame None = None
behind frame (Some fields) = if nat_le (8 + fields) frame then Some (frame - (8 + fields)) else None

-- how many bytes may stand behind the Transfer in a frame of that size; none where the Transfer itself has no room
abbrev pub room_for : ℕ → Transfer → Option ℕ
room_for frame x = behind frame (measured x)

-- whether so many bytes have room
abbrev pub is_enough : ℕ → Option ℕ → Bool
is_enough len None = false
is_enough len (Some n) = nat_le len n

-- how many of so many bytes fill the room, where it is one at least and some are left
abbrev pub filling : ℕ → Option ℕ → Option ℕ
filling len None = None
filling len (Some n) = if nat_lt 0 n && nat_lt n len then Some n else None

-- How many of so many bytes the first part takes: where all have room in a frame that says that no more comes, or none has in one that
-- says so, the first part is the last.
abbrev pub cut_length : ℕ → Transfer → ℕ → Option ℕ
cut_length frame x len = if is_enough len (room_for frame (saying_last x)) then None else filling len (room_for frame (saying_more x))

-- the first part has so many bytes, and what is left goes on with the delivery
abbrev pub cut_at : Option ℕ → Transfer → List ℕ → Cut
cut_at None x payload = record { first = last_part x payload; rest = None }
cut_at (Some n) x payload = record {
  first = record { transfer = saying_more x; payload = take n payload };
  rest = Some (record { transfer = continuation x.handle; payload = drop n payload });
}

unfoldable pub cut_of : ℕ → Transfer → List ℕ → Cut
cut_of frame x payload = cut_at (cut_length frame x (length payload)) x payload

-- the parts are the first one, and those into which what is left is split
abbrev pub GoesOn : ℕ → Part → Option Part → List Part → Type 0
GoesOn frame first None parts = parts ≡ first ∷ []
GoesOn frame first (Some rest) parts = (others : List Part) × ((parts ≡ first ∷ others) × IsSplit frame rest.transfer rest.payload others)
