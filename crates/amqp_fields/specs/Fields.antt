-- The fields of described lists (OASIS AMQP 1.0, part 1, section 1.4).
use Rattle.std.specs.Prelude.{◌≡◌, ℕ, zero, suc, Bool, true, false, List, [], ◌∷◌, Option, Some, None, Result, Ok, Err, if◌then◌else◌, ◌&&◌}
use Rattle.amqp_data.specs.declared.kind.ElementKind.TheVariants as k
use Rattle.amqp_data.specs.Data.{null, boolean, ubyte, ushort, uint, ulong, timestamp, binary, string, symbol, Amqp, Items, Pairs, scalar, dict, array, no_items, item, no_pairs, pair}
use Rattle.amqp_data.specs.declared.value.Timestamp.{Timestamp}
use Rattle.amqp_fields.specs.declared.map.KeyKind.{KeyKind}
use Rattle.amqp_fields.specs.declared.map.KeyKind.TheVariants as keys
use Rattle.amqp_fields.specs.declared.error.BaseError.{BaseError}
use Rattle.amqp_fields.specs.declared.error.BaseError.TheVariants as errors

infixl 10 ◌>>=◌
abbrev pub ◌>>=◌ : {A B : Type 0} → Option A → (A → Option B) → Option B
(Some x) >>= f = f x
None >>= f = None

-- what was returned is what is read, unless memory ran out
abbrev pub Gives : {X : Type 0} → Result X BaseError → Option X → Type 0
Gives (Ok x) read = read ≡ Some x
Gives (Err (errors.Memory a)) read = Unit {0}
Gives (Err errors.Decode) read = read ≡ None
Gives (Err errors.Size) read = ⊥

-- the first field: null where there is none
abbrev pub first : Items → Amqp
first no_items = scalar null
first (item v vs) = v

-- the fields but the first
abbrev pub others : Items → Items
others no_items = no_items
others (item v vs) = vs

-- the fields from a place on
abbrev pub behind : ℕ → Items → Items
behind zero vs = vs
behind (suc i) vs = behind i (others vs)

-- the field at a place: null where the list ends before it
abbrev pub field_at : Items → ℕ → Amqp
field_at vs zero = first vs
field_at vs (suc i) = field_at (others vs) i

abbrev pub ends : Items → Option (Unit {0})
ends no_items = Some tt
ends (item v vs) = None

-- there is no field at that place, nor behind it
abbrev pub ends_at : Items → ℕ → Option (Unit {0})
ends_at vs zero = ends vs
ends_at vs (suc i) = ends_at (others vs) i

-- ---- what a value holds

abbrev pub bool_in : Amqp → Option Bool
bool_in (scalar (boolean b)) = Some b
bool_in v = None

abbrev pub ubyte_in : Amqp → Option ℕ
ubyte_in (scalar (ubyte n)) = Some n
ubyte_in v = None

abbrev pub ushort_in : Amqp → Option ℕ
ushort_in (scalar (ushort n)) = Some n
ushort_in v = None

abbrev pub uint_in : Amqp → Option ℕ
uint_in (scalar (uint n)) = Some n
uint_in v = None

abbrev pub ulong_in : Amqp → Option ℕ
ulong_in (scalar (ulong n)) = Some n
ulong_in v = None

abbrev pub timestamp_in : Amqp → Option Timestamp
timestamp_in (scalar (timestamp t)) = Some (record { milliseconds = t })
timestamp_in v = None

abbrev pub binary_in : Amqp → Option (List ℕ)
binary_in (scalar (binary s)) = Some s
binary_in v = None

abbrev pub string_in : Amqp → Option (List ℕ)
string_in (scalar (string s)) = Some s
string_in v = None

abbrev pub symbol_in : Amqp → Option (List ℕ)
symbol_in (scalar (symbol s)) = Some s
symbol_in v = None

abbrev pub before : List ℕ → Option (List (List ℕ)) → Option (List (List ℕ))
before s read = read >>= λ ss. Some (s ∷ ss)

abbrev pub all_symbols : Items → Option (List (List ℕ))
all_symbols no_items = Some []
all_symbols (item v vs) = symbol_in v >>= λ s. before s (all_symbols vs)

-- one symbol, or an array of them
abbrev pub symbols_in : Amqp → Option (List (List ℕ))
symbols_in (scalar (symbol s)) = Some (s ∷ [])
symbols_in (array k.Symbol vs) = all_symbols vs
symbols_in v = None

-- ---- whether there is a field

-- null where it is absent
abbrev pub optional : {A : Type 0} → (Amqp → Option A) → Amqp → Option (Option A)
optional reads (scalar null) = Some None
optional reads v = reads v >>= λ x. Some (Some x)

-- the default where it is absent
abbrev pub or_default : {A : Type 0} → A → (Amqp → Option A) → Amqp → Option A
or_default x reads (scalar null) = Some x
or_default x reads v = reads v

-- ---- what is written

abbrev pub of_bool : Bool → Amqp
of_bool b = scalar (boolean b)

abbrev pub of_ubyte : ℕ → Amqp
of_ubyte n = scalar (ubyte n)

abbrev pub of_ushort : ℕ → Amqp
of_ushort n = scalar (ushort n)

abbrev pub of_uint : ℕ → Amqp
of_uint n = scalar (uint n)

abbrev pub of_ulong : ℕ → Amqp
of_ulong n = scalar (ulong n)

abbrev pub of_timestamp : Timestamp → Amqp
of_timestamp t = scalar (timestamp t.milliseconds)

abbrev pub of_binary : List ℕ → Amqp
of_binary s = scalar (binary s)

abbrev pub of_string : List ℕ → Amqp
of_string s = scalar (string s)

abbrev pub of_symbol : List ℕ → Amqp
of_symbol s = scalar (symbol s)

abbrev pub symbol_items : List (List ℕ) → Items
symbol_items [] = no_items
symbol_items (s ∷ ss) = item (of_symbol s) (symbol_items ss)

-- symbols are written as an array
abbrev pub of_symbols : List (List ℕ) → Amqp
of_symbols ss = array k.Symbol (symbol_items ss)

-- null where it is absent
abbrev pub maybe : {A : Type 0} → (A → Amqp) → Option A → Amqp
maybe writes None = scalar null
maybe writes (Some x) = writes x

abbrev pub same_bool : Bool → Bool → Bool
same_bool true b = b
same_bool false true = false
same_bool false false = true

-- null where it is the default
abbrev pub unless : {A : Type 0} → (A → A → Bool) → A → (A → Amqp) → A → Amqp
unless same default writes x = if same x default then scalar null else writes x

-- a field before those that are kept
abbrev pub kept_before : Amqp → Items → Items
kept_before (scalar null) no_items = no_items
kept_before v vs = item v vs

-- the fields without the nulls at the end
abbrev pub trimmed : List Amqp → Items
trimmed [] = no_items
trimmed (v ∷ vs) = kept_before v (trimmed vs)

-- a writer of a value ends with it, or memory ran out
abbrev pub Makes : {X : Type 0} → (X → Amqp) → Result X BaseError → Amqp → Type 0
Makes view (Ok x) v = view x ≡ v
Makes view (Err (errors.Memory a)) v = Unit {0}
Makes view (Err errors.Decode) v = ⊥
Makes view (Err errors.Size) v = ⊥

-- the same of a list
abbrev pub MakesItems : {X : Type 0} → (X → Items) → Result X BaseError → Items → Type 0
MakesItems view (Ok x) vs = view x ≡ vs
MakesItems view (Err (errors.Memory a)) vs = Unit {0}
MakesItems view (Err errors.Decode) vs = ⊥
MakesItems view (Err errors.Size) vs = ⊥

-- it is no null
abbrev pub IsThere : Amqp → Type 0
IsThere (scalar null) = ⊥
IsThere v = Unit {0}

-- what there is is valid
abbrev pub IsValid : {A : Type 0} → (A → Type 0) → Option A → Type 0
IsValid valid None = Unit {0}
IsValid valid (Some x) = valid x

-- ---- maps

abbrev pub is_symbol : Amqp → Bool
is_symbol (scalar (symbol s)) = true
is_symbol v = false

abbrev pub is_string : Amqp → Bool
is_string (scalar (string s)) = true
is_string v = false

-- a symbol or an ulong (part 3, section 3.2.10)
abbrev pub is_annotation : Amqp → Bool
is_annotation (scalar (symbol s)) = true
is_annotation (scalar (ulong n)) = true
is_annotation v = false

abbrev pub key_test : KeyKind → Amqp → Bool
key_test keys.Symbol v = is_symbol v
key_test keys.String v = is_string v
key_test keys.Annotation v = is_annotation v

-- each key passes
abbrev pub all_keys : (Amqp → Bool) → Pairs → Bool
all_keys test no_pairs = true
all_keys test (pair k v ps) = test k && all_keys test ps

-- a map whose keys pass
abbrev pub map_with : (Amqp → Bool) → Amqp → Option Pairs
map_with test (dict ps) = if all_keys test ps then Some ps else None
map_with test v = None

abbrev pub of_map : Pairs → Amqp
of_map ps = dict ps
