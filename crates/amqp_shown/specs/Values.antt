-- A value as a text: no one reads it back, so that other values may have the same text, as a list and an array do.
use Rattle.std.specs.Prelude.{◌+◌, List, ℕ, [], ◌∷◌, ◌++◌, Bool, if◌then◌else◌, codes, decimal, Option, Some, None, true, false}
use Rattle.std.specs.Fmt.{signed_decimal}
use Rattle.amqp_data.specs.Data.{Scalar, null, boolean, ubyte, ushort, uint, ulong, byte, short, int, long, char, timestamp, uuid, binary, string, symbol, Amqp, Items, Pairs, scalar, list, dict, array, described, no_items, item, no_pairs, pair}
use Rattle.amqp_composites.specs.declared.kind.CompositeKind.{CompositeKind}
use Rattle.amqp_composites.specs.Described.{kind_in}
use Rattle.amqp_shown.specs.Bytes.{hex_of, escaped, quoted, uuid_from, separator}
use Rattle.amqp_shown.specs.Names.{kind_name, names_of, name_at}

-- a value that holds no other (part 1, sections 1.6.1 to 1.6.21); a character by its number
abbrev pub scalar_text : Scalar → List ℕ
scalar_text null = codes "null"
scalar_text (boolean b) = if b then codes "true" else codes "false"
scalar_text (ubyte n) = decimal n
scalar_text (ushort n) = decimal n
scalar_text (uint n) = decimal n
scalar_text (ulong n) = decimal n
scalar_text (byte z) = signed_decimal z
scalar_text (short z) = signed_decimal z
scalar_text (int z) = signed_decimal z
scalar_text (long z) = signed_decimal z
scalar_text (char c) = codes "char " ++ decimal c
scalar_text (timestamp t) = signed_decimal t ++ codes " ms"
scalar_text (uuid u) = uuid_from 0 u
scalar_text (binary s) = codes "0x" ++ hex_of s
scalar_text (string s) = quoted true s
scalar_text (symbol s) = 58 ∷ escaped false s

-- the same of any value: nothing for one that holds others
abbrev pub own_text : Amqp → List ℕ
own_text (scalar s) = scalar_text s
own_text v = []

-- ` NAME=TEXT`, where there is a value
abbrev pub labelled : List ℕ → Amqp → List ℕ → List ℕ
labelled name (scalar null) text = []
labelled name v text = 32 ∷ name ++ 61 ∷ text

-- the name of a list of the standard, else the text of the descriptor behind `@`
abbrev pub tag_text : Option CompositeKind → List ℕ → List ℕ
tag_text (Some k) text = kind_name k
tag_text None text = 64 ∷ text

-- the names of the fields, where it is a list of the standard
abbrev pub names_in : Option CompositeKind → List (List ℕ)
names_in (Some k) = names_of k
names_in None = []

-- a list behind its descriptor: its fields by their names, or its values
abbrev pub listed : Option CompositeKind → List ℕ → List ℕ → List ℕ → List ℕ
listed (Some k) tag fields values = kind_name k ++ fields
listed None tag fields values = 64 ∷ tag ++ 32 ∷ values

-- `[V, V]`, `{K: V, K: V}`, `(NAME FIELD=V)` for a list of the standard without the fields that are null, and `(NAME V)`
abbrev mutual
  pub value_text : Amqp → List ℕ
  value_text (scalar s) = scalar_text s
  value_text (list vs) = 91 ∷ items_text 0 vs ++ 93 ∷ []
  value_text (dict ps) = 123 ∷ pairs_text 0 ps ++ 125 ∷ []
  value_text (array k vs) = 91 ∷ items_text 0 vs ++ 93 ∷ []
  value_text (described d (list vs)) = 40 ∷ listed (kind_in d) (value_text d) (fields_text (names_in (kind_in d)) 0 vs) (91 ∷ items_text 0 vs ++ 93 ∷ []) ++ 41 ∷ []
  value_text (described d v) = 40 ∷ tag_text (kind_in d) (value_text d) ++ 32 ∷ value_text v ++ 41 ∷ []

  pub items_text : ℕ → Items → List ℕ
  items_text i no_items = []
  items_text i (item v vs) = separator i ++ value_text v ++ items_text (i + 1) vs

  pub pairs_text : ℕ → Pairs → List ℕ
  pairs_text i no_pairs = []
  pairs_text i (pair k v ps) = separator i ++ value_text k ++ codes ": " ++ value_text v ++ pairs_text (i + 1) ps

  -- the fields of a list from a place on
  pub fields_text : List (List ℕ) → ℕ → Items → List ℕ
  fields_text names i no_items = []
  fields_text names i (item v vs) = labelled (name_at names i) v (value_text v) ++ fields_text names (i + 1) vs

abbrev pub list_text : Items → List ℕ
list_text vs = 91 ∷ items_text 0 vs ++ 93 ∷ []

abbrev pub dict_text : Pairs → List ℕ
dict_text ps = 123 ∷ pairs_text 0 ps ++ 125 ∷ []

-- what stands behind a descriptor
abbrev pub content_text : Amqp → Option CompositeKind → List ℕ
content_text (list vs) (Some k) = fields_text (names_of k) 0 vs
content_text v o = 32 ∷ value_text v
