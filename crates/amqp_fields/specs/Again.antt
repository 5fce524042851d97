-- What is written is read again.
use Rattle.std.specs.Prelude.{◌≡◌, ℕ, Bool, true, false, nat_eq, IsTrue, List, [], ◌∷◌, length, Option, Some, None, refl}
use Rattle.std.proofs.Common.{zero, suc, cond, ap, sym, ◌∙◌}
use Rattle.std.specs.Str.{bytes_eq}
use Rattle.std.proofs.lemmas.Bool.{eqb-true}
use Rattle.std.proofs.lemmas.Slice.Eq.{bytes_eq-Decides}
use Rattle.amqp_data.specs.Data.{Amqp, Items, Pairs, Scalar, null, scalar, list, dict, array, described, no_items, item, boolean, ubyte, ushort, uint, ulong, byte, short, int, long, char, timestamp, uuid, binary, string, symbol}
use Rattle.amqp_fields.specs.Maps.{map_again}
use Rattle.amqp_fields.specs.Fields.{◌>>=◌, bool_in, ubyte_in, ushort_in, uint_in, ulong_in, timestamp_in, binary_in, string_in, symbol_in, of_bool, of_ubyte, of_ushort, of_uint, of_ulong, of_timestamp, of_binary, of_string, of_symbol, all_keys, map_with, of_map, first, field_at, ends_at, optional, or_default, maybe, unless, kept_before, trimmed, IsThere, IsValid, same_bool, before, all_symbols, symbols_in, symbol_items, of_symbols}

all_again : (ss : List (List ℕ)) → all_symbols (symbol_items ss) ≡ Some ss
all_again [] = refl
all_again (s ∷ ss) = ap (before s) (all_again ss)

pub symbols_again : (ss : List (List ℕ)) → symbols_in (of_symbols ss) ≡ Some ss
symbols_again ss = all_again ss

pub bools_are : (x y : Bool) → IsTrue (same_bool x y) → x ≡ y
bools_are true true e = refl
bools_are true false e = absurd cc
bools_are false true e = absurd cc
bools_are false false e = refl

pub numbers_are : (x y : ℕ) → IsTrue (nat_eq x y) → x ≡ y
numbers_are x y e = eqb-true x y e

pub texts_are : (x y : List ℕ) → IsTrue (bytes_eq x y) → x ≡ y
texts_are x y e = (bytes_eq-Decides x y).0 e

-- ---- whether there is a field

scalar_there : {A : Type 0} (reads : Amqp → Option A) (s : Scalar) → IsThere (scalar s) → optional reads (scalar s) ≡ (reads (scalar s) >>= λ x. Some (Some x))
scalar_there reads null h = absurd h
scalar_there reads (boolean b) h = refl
scalar_there reads (ubyte n) h = refl
scalar_there reads (ushort n) h = refl
scalar_there reads (uint n) h = refl
scalar_there reads (ulong n) h = refl
scalar_there reads (byte n) h = refl
scalar_there reads (short n) h = refl
scalar_there reads (int n) h = refl
scalar_there reads (long n) h = refl
scalar_there reads (char n) h = refl
scalar_there reads (timestamp n) h = refl
scalar_there reads (uuid u) h = refl
scalar_there reads (binary s) h = refl
scalar_there reads (string s) h = refl
scalar_there reads (symbol s) h = refl

optional_there : {A : Type 0} (reads : Amqp → Option A) (v : Amqp) → IsThere v → optional reads v ≡ (reads v >>= λ x. Some (Some x))
optional_there reads (scalar s) h = scalar_there reads s h
optional_there reads (list vs) h = refl
optional_there reads (dict ps) h = refl
optional_there reads (array k vs) h = refl
optional_there reads (described d v) h = refl

scalar_no_default : {A : Type 0} (x : A) (reads : Amqp → Option A) (s : Scalar) → IsThere (scalar s) → or_default x reads (scalar s) ≡ reads (scalar s)
scalar_no_default x reads null h = absurd h
scalar_no_default x reads (boolean b) h = refl
scalar_no_default x reads (ubyte n) h = refl
scalar_no_default x reads (ushort n) h = refl
scalar_no_default x reads (uint n) h = refl
scalar_no_default x reads (ulong n) h = refl
scalar_no_default x reads (byte n) h = refl
scalar_no_default x reads (short n) h = refl
scalar_no_default x reads (int n) h = refl
scalar_no_default x reads (long n) h = refl
scalar_no_default x reads (char n) h = refl
scalar_no_default x reads (timestamp n) h = refl
scalar_no_default x reads (uuid u) h = refl
scalar_no_default x reads (binary s) h = refl
scalar_no_default x reads (string s) h = refl
scalar_no_default x reads (symbol s) h = refl

no_default : {A : Type 0} (x : A) (reads : Amqp → Option A) (v : Amqp) → IsThere v → or_default x reads v ≡ reads v
no_default x reads (scalar s) h = scalar_no_default x reads s h
no_default x reads (list vs) h = refl
no_default x reads (dict ps) h = refl
no_default x reads (array k vs) h = refl
no_default x reads (described d v) h = refl

module _ {A : Type 0} (reads : Amqp → Option A) (writes : A → Amqp) (valid : A → Type 0) (again : (x : A) → valid x → reads (writes x) ≡ Some x) (there : (x : A) → IsThere (writes x)) where
  pub optional_again : (x : Option A) → IsValid valid x → optional reads (maybe writes x) ≡ Some x
  optional_again None h = refl
  optional_again (Some x) h = optional_there reads (writes x) (there x) ∙ ap (λ (r : Option A). r >>= λ y. Some (Some y)) (again x h)

  default_by : (same : A → A → Bool) (d x : A) (b : Bool) → valid x → same x d ≡ b → ((x y : A) → IsTrue (same x y) → x ≡ y) → or_default d reads (cond b (scalar null) (writes x)) ≡ Some x
  default_by same d x true h e decides = ap Some (sym (decides x d e))
  default_by same d x false h e decides = no_default d reads (writes x) (there x) ∙ again x h

  pub default_again : (same : A → A → Bool) → ((x y : A) → IsTrue (same x y) → x ≡ y) → (d x : A) → valid x → or_default d reads (unless same d writes x) ≡ Some x
  default_again same decides d x h = default_by same d x (same x d) h refl decides

-- ---- the places of fields

-- the field at a place, null behind the last
abbrev pub place : List Amqp → ℕ → Amqp
place [] i = scalar null
place (v ∷ vs) zero = v
place (v ∷ vs) (suc i) = place vs i

no_field : (i : ℕ) → field_at no_items i ≡ scalar null
no_field zero = refl
no_field (suc i) = no_field i

-- a field that is kept stands before the others
kept_at : (v : Amqp) (vs : Items) (i : ℕ) → field_at (kept_before v vs) (suc i) ≡ field_at vs i
kept_at (scalar null) no_items i = refl
kept_at (scalar null) (item w ws) i = refl
kept_at (scalar (boolean b)) vs i = refl
kept_at (scalar (ubyte n)) vs i = refl
kept_at (scalar (ushort n)) vs i = refl
kept_at (scalar (uint n)) vs i = refl
kept_at (scalar (ulong n)) vs i = refl
kept_at (scalar (byte n)) vs i = refl
kept_at (scalar (short n)) vs i = refl
kept_at (scalar (int n)) vs i = refl
kept_at (scalar (long n)) vs i = refl
kept_at (scalar (char n)) vs i = refl
kept_at (scalar (timestamp n)) vs i = refl
kept_at (scalar (uuid u)) vs i = refl
kept_at (scalar (binary s)) vs i = refl
kept_at (scalar (string s)) vs i = refl
kept_at (scalar (symbol s)) vs i = refl
kept_at (list ws) vs i = refl
kept_at (dict ps) vs i = refl
kept_at (array k ws) vs i = refl
kept_at (described d w) vs i = refl

kept_first : (v : Amqp) (vs : Items) → first (kept_before v vs) ≡ v
kept_first (scalar null) no_items = refl
kept_first (scalar null) (item w ws) = refl
kept_first (scalar (boolean b)) vs = refl
kept_first (scalar (ubyte n)) vs = refl
kept_first (scalar (ushort n)) vs = refl
kept_first (scalar (uint n)) vs = refl
kept_first (scalar (ulong n)) vs = refl
kept_first (scalar (byte n)) vs = refl
kept_first (scalar (short n)) vs = refl
kept_first (scalar (int n)) vs = refl
kept_first (scalar (long n)) vs = refl
kept_first (scalar (char n)) vs = refl
kept_first (scalar (timestamp n)) vs = refl
kept_first (scalar (uuid u)) vs = refl
kept_first (scalar (binary s)) vs = refl
kept_first (scalar (string s)) vs = refl
kept_first (scalar (symbol s)) vs = refl
kept_first (list ws) vs = refl
kept_first (dict ps) vs = refl
kept_first (array k ws) vs = refl
kept_first (described d w) vs = refl

pub field_is : (vs : List Amqp) (i : ℕ) → field_at (trimmed vs) i ≡ place vs i
field_is [] i = no_field i
field_is (v ∷ vs) zero = kept_first v (trimmed vs)
field_is (v ∷ vs) (suc i) = kept_at v (trimmed vs) i ∙ field_is vs i

no_end : (i : ℕ) → ends_at no_items i ≡ Some tt
no_end zero = refl
no_end (suc i) = no_end i

kept_ends : (v : Amqp) (vs : Items) (i : ℕ) → ends_at vs i ≡ Some tt → ends_at (kept_before v vs) (suc i) ≡ Some tt
kept_ends (scalar null) no_items i e = no_end (suc i)
kept_ends (scalar null) (item w ws) i e = e
kept_ends (scalar (boolean b)) vs i e = e
kept_ends (scalar (ubyte n)) vs i e = e
kept_ends (scalar (ushort n)) vs i e = e
kept_ends (scalar (uint n)) vs i e = e
kept_ends (scalar (ulong n)) vs i e = e
kept_ends (scalar (byte n)) vs i e = e
kept_ends (scalar (short n)) vs i e = e
kept_ends (scalar (int n)) vs i e = e
kept_ends (scalar (long n)) vs i e = e
kept_ends (scalar (char n)) vs i e = e
kept_ends (scalar (timestamp n)) vs i e = e
kept_ends (scalar (uuid u)) vs i e = e
kept_ends (scalar (binary s)) vs i e = e
kept_ends (scalar (string s)) vs i e = e
kept_ends (scalar (symbol s)) vs i e = e
kept_ends (list ws) vs i e = e
kept_ends (dict ps) vs i e = e
kept_ends (array k ws) vs i e = e
kept_ends (described d w) vs i e = e

pub field_ends : (vs : List Amqp) → ends_at (trimmed vs) (length vs) ≡ Some tt
field_ends [] = refl
field_ends (v ∷ vs) = kept_ends v (trimmed vs) (length vs) (field_ends vs)

-- ---- fields that are read again

-- what is written of a type is there, and is read again
pub record IsField {A : Type 0} (reads : Amqp → Option A) (writes : A → Amqp) (valid : A → Type 0) : Type 0 where
  pub again : (x : A) → valid x → reads (writes x) ≡ Some x
  pub there : (x : A) → IsThere (writes x)

pub required_is : {A : Type 0} {reads : Amqp → Option A} {writes : A → Amqp} {valid : A → Type 0} → IsField reads writes valid → (fs : List Amqp) (i : ℕ) (x : A) → place fs i ≡ writes x → valid x → reads (field_at (trimmed fs) i) ≡ Some x
required_is {A} {reads} f fs i x e h = ap reads (field_is fs i ∙ e) ∙ f.again x h

pub optional_is : {A : Type 0} {reads : Amqp → Option A} {writes : A → Amqp} {valid : A → Type 0} → IsField reads writes valid → (fs : List Amqp) (i : ℕ) (x : Option A) → place fs i ≡ maybe writes x → IsValid valid x
    → optional reads (field_at (trimmed fs) i) ≡ Some x
optional_is {A} {reads} {writes} {valid} f fs i x e h = ap (optional reads) (field_is fs i ∙ e) ∙ optional_again reads writes valid f.again f.there x h

pub default_is : {A : Type 0} {reads : Amqp → Option A} {writes : A → Amqp} {valid : A → Type 0} → IsField reads writes valid → (same : A → A → Bool) → ((x y : A) → IsTrue (same x y) → x ≡ y) → (fs : List Amqp) (i : ℕ) (d x : A)
    → place fs i ≡ unless same d writes x → valid x → or_default d reads (field_at (trimmed fs) i) ≡ Some x
default_is {A} {reads} {writes} {valid} f same decides fs i d x e h = ap (or_default d reads) (field_is fs i ∙ e) ∙ default_again reads writes valid f.again f.there same decides d x h

-- a type of which each value is valid
abbrev pub Each : {A : Type 0} → A → Type 0
Each x = Unit {0}

pub each : {A : Type 0} (x : Option A) → IsValid Each x
each None = tt
each (Some x) = tt

pub bool_field : IsField bool_in of_bool Each
bool_field = record { again = λ x h. refl; there = λ x. tt }

pub ubyte_field : IsField ubyte_in of_ubyte Each
ubyte_field = record { again = λ x h. refl; there = λ x. tt }

pub ushort_field : IsField ushort_in of_ushort Each
ushort_field = record { again = λ x h. refl; there = λ x. tt }

pub uint_field : IsField uint_in of_uint Each
uint_field = record { again = λ x h. refl; there = λ x. tt }

pub ulong_field : IsField ulong_in of_ulong Each
ulong_field = record { again = λ x h. refl; there = λ x. tt }

pub timestamp_field : IsField timestamp_in of_timestamp Each
timestamp_field = record { again = λ x h. refl; there = λ x. tt }

pub binary_field : IsField binary_in of_binary Each
binary_field = record { again = λ x h. refl; there = λ x. tt }

pub string_field : IsField string_in of_string Each
string_field = record { again = λ x h. refl; there = λ x. tt }

pub symbol_field : IsField symbol_in of_symbol Each
symbol_field = record { again = λ x h. refl; there = λ x. tt }

pub symbols_field : IsField symbols_in of_symbols Each
symbols_field = record { again = λ x h. symbols_again x; there = λ x. tt }

-- the map's keys pass
abbrev pub HasKeys : (Amqp → Bool) → Pairs → Type 0
HasKeys test ps = IsTrue (all_keys test ps)

pub map_field : (test : Amqp → Bool) → IsField (map_with test) of_map (HasKeys test)
map_field test = record { again = λ ps h. map_again test ps h; there = λ ps. tt }
