-- The test decides which values are the same.
use Rattle.std.specs.Prelude.{◌≡◌, Bool, true, false, ◌&&◌, ◌||◌, ◌++◌, IsTrue, List as Listed, [], ◌∷◌, refl}
use Rattle.std.specs.Bool.{Decides}
use Rattle.std.specs.Cmp.{IsEquivalence, IsPartialEquivalence, decided, partial_equiv_from_equiv}
use Rattle.std.specs.List.{list_any}
use Rattle.std.proofs.lemmas.Bool.{true≢false}
use Rattle.std.proofs.Common.{cond, ap, ap₂, sym, ◌∙◌, eq-eqb}
use Rattle.std.proofs.lemmas.Bool.{eqb-true}
use Rattle.std.proofs.lemmas.Slice.Eq.{bytes_eq-Decides}
use Rattle.std.specs.Cmp.{signed_Decides}
use Rattle.amqp_data.specs.declared.kind.ElementKind.{ElementKind}
use Rattle.amqp_data.specs.declared.kind.ElementKind.TheVariants as k
use Rattle.amqp_data.specs.Data.{Amqp, Items, Pairs, Scalar, null, boolean, ubyte, ushort, uint, ulong, byte, short, int, long, char, timestamp, uuid, binary, string, symbol, scalar, list, dict, array, described, no_items, item, no_pairs, pair, IsNew, HasDistinctKeys}
use Rattle.amqp_data.specs.View.{view}
use Rattle.amqp_data.specs.Same.{same, same_items, same_pairs, same_bool, same_scalar, same_kind, kind_number, distinct_after, distinct_keys, hashed}
use Rattle.amqp_data.specs.declared.value.Value.{Value}
use Rattle.amqp_data.specs.declared.value.Value.TheVariants as v

both : (a b : Bool) → (a && b) ≡ true → (a ≡ true) × (b ≡ true)
both true b e = (refl, e)
both false b e = absurd cc

bools : (a b : Bool) → same_bool a b ≡ true → a ≡ b
bools true true e = refl
bools true false e = absurd cc
bools false true e = absurd cc
bools false false e = refl

kind_by : (a b : ElementKind) → kind_number a ≡ kind_number b → a ≡ b
kind_by k.Bool k.Bool e = refl
kind_by k.Ubyte k.Ubyte e = refl
kind_by k.Ushort k.Ushort e = refl
kind_by k.Uint k.Uint e = refl
kind_by k.Ulong k.Ulong e = refl
kind_by k.Byte k.Byte e = refl
kind_by k.Short k.Short e = refl
kind_by k.Int k.Int e = refl
kind_by k.Long k.Long e = refl
kind_by k.Char k.Char e = refl
kind_by k.Timestamp k.Timestamp e = refl
kind_by k.Uuid k.Uuid e = refl
kind_by k.Binary k.Binary e = refl
kind_by k.String k.String e = refl
kind_by k.Symbol k.Symbol e = refl
kind_by a b e = absurd cc

kinds : (a b : ElementKind) → same_kind a b ≡ true → a ≡ b
kinds a b e = kind_by a b (eqb-true (kind_number a) (kind_number b) e)

pub same_scalar_is : (a b : Scalar) → same_scalar a b ≡ true → a ≡ b
unfolding same_scalar
same_scalar_is null null e = refl
same_scalar_is (boolean a) (boolean b) e = ap boolean (bools a b e)
same_scalar_is (ubyte m) (ubyte n) e = ap ubyte (eqb-true m n e)
same_scalar_is (ushort m) (ushort n) e = ap ushort (eqb-true m n e)
same_scalar_is (uint m) (uint n) e = ap uint (eqb-true m n e)
same_scalar_is (ulong m) (ulong n) e = ap ulong (eqb-true m n e)
same_scalar_is (byte m) (byte n) e = ap byte ((signed_Decides m n).0 e)
same_scalar_is (short m) (short n) e = ap short ((signed_Decides m n).0 e)
same_scalar_is (int m) (int n) e = ap int ((signed_Decides m n).0 e)
same_scalar_is (long m) (long n) e = ap long ((signed_Decides m n).0 e)
same_scalar_is (char m) (char n) e = ap char (eqb-true m n e)
same_scalar_is (timestamp m) (timestamp n) e = ap timestamp ((signed_Decides m n).0 e)
same_scalar_is (uuid s) (uuid t) e = ap uuid ((bytes_eq-Decides s t).0 e)
same_scalar_is (binary s) (binary t) e = ap binary ((bytes_eq-Decides s t).0 e)
same_scalar_is (string s) (string t) e = ap string ((bytes_eq-Decides s t).0 e)
same_scalar_is (symbol s) (symbol t) e = ap symbol ((bytes_eq-Decides s t).0 e)
same_scalar_is a b e = absurd cc

pub same_scalar_self : (a : Scalar) → same_scalar a a ≡ true
unfolding same_scalar
same_scalar_self null = refl
same_scalar_self (boolean true) = refl
same_scalar_self (boolean false) = refl
same_scalar_self (ubyte m) = eq-eqb m m refl
same_scalar_self (ushort m) = eq-eqb m m refl
same_scalar_self (uint m) = eq-eqb m m refl
same_scalar_self (ulong m) = eq-eqb m m refl
same_scalar_self (byte m) = (signed_Decides m m).1 refl
same_scalar_self (short m) = (signed_Decides m m).1 refl
same_scalar_self (int m) = (signed_Decides m m).1 refl
same_scalar_self (long m) = (signed_Decides m m).1 refl
same_scalar_self (char m) = eq-eqb m m refl
same_scalar_self (timestamp m) = (signed_Decides m m).1 refl
same_scalar_self (uuid s) = (bytes_eq-Decides s s).1 refl
same_scalar_self (binary s) = (bytes_eq-Decides s s).1 refl
same_scalar_self (string s) = (bytes_eq-Decides s s).1 refl
same_scalar_self (symbol s) = (bytes_eq-Decides s s).1 refl

mutual
  unfolding same

  pub same_is : (a b : Amqp) → same a b ≡ true → a ≡ b
  same_is (scalar a) (scalar b) e = ap scalar (same_scalar_is a b e)
  same_is (list vs) (list ws) e = ap list (same_items_is vs ws e)
  same_is (dict ps) (dict qs) e = ap dict (same_pairs_is ps qs e)
  same_is (array k vs) (array l ws) e = let p = both (same_kind k l) (same_items vs ws) e in ap₂ array (kinds k l p.0) (same_items_is vs ws p.1)
  same_is (described d v) (described f w) e = let p = both (same d f) (same v w) e in ap₂ described (same_is d f p.0) (same_is v w p.1)
  same_is a b e = absurd cc

  pub same_items_is : (vs ws : Items) → same_items vs ws ≡ true → vs ≡ ws
  same_items_is no_items no_items e = refl
  same_items_is (item v vs) (item w ws) e = let p = both (same v w) (same_items vs ws) e in ap₂ item (same_is v w p.0) (same_items_is vs ws p.1)
  same_items_is a b e = absurd cc

  pub same_pairs_is : (ps qs : Pairs) → same_pairs ps qs ≡ true → ps ≡ qs
  same_pairs_is no_pairs no_pairs e = refl
  same_pairs_is (pair k v ps) (pair l w qs) e = let p = both (same k l) (same v w && same_pairs ps qs) e in let q = both (same v w) (same_pairs ps qs) p.1 in rw (same_is k l p.0, same_is v w q.0, same_pairs_is ps qs q.1) refl
  same_pairs_is a b e = absurd cc

mutual
  unfolding same

  pub same_self : (a : Amqp) → same a a ≡ true
  same_self (scalar a) = same_scalar_self a
  same_self (list vs) = same_items_self vs
  same_self (dict ps) = same_pairs_self ps
  same_self (array k vs) = rw (eq-eqb (kind_number k) (kind_number k) refl, same_items_self vs) refl
  same_self (described d v) = rw (same_self d, same_self v) refl

  pub same_items_self : (vs : Items) → same_items vs vs ≡ true
  same_items_self no_items = refl
  same_items_self (item v vs) = rw (same_self v, same_items_self vs) refl

  pub same_pairs_self : (ps : Pairs) → same_pairs ps ps ≡ true
  same_pairs_self no_pairs = refl
  same_pairs_self (pair k v ps) = rw (same_self k, same_self v, same_pairs_self ps) refl

pub same_decides : (a b : Amqp) → Decides (same a b) (a ≡ b)
same_decides a b = (same_is a b, λ e. ap (same a) (sym e) ∙ same_self a)

-- ---- distinct keys

chosen : (b c : Bool) → cond b false c ≡ true → (b ≡ false) × (c ≡ true)
chosen true c e = absurd cc
chosen false c e = (refl, e)

neither : (b c : Bool) → (b || c) ≡ false → (b ≡ false) × (c ≡ false)
neither true c e = absurd cc
neither false c e = (refl, e)

not_true : (b : Bool) → (b ≡ true → ⊥) → b ≡ false
not_true true h = absurd (h refl)
not_true false h = refl

parts : (l k : Amqp) (seen : Listed Amqp) → list_any (same l) (seen ++ k ∷ []) ≡ false → (list_any (same l) seen ≡ false) × (same l k ≡ false)
parts l k [] e = (refl, (neither (same l k) false e).0)
parts l k (s ∷ seen) e =
    let p = neither (same l s) (list_any (same l) (seen ++ k ∷ [])) e in
    let q = parts l k seen p.1 in
    (rw (p.0, q.0) refl, q.1)

joined : (l k : Amqp) (seen : Listed Amqp) → list_any (same l) seen ≡ false → same l k ≡ false → list_any (same l) (seen ++ k ∷ []) ≡ false
joined l k [] e f = rw f refl
joined l k (s ∷ seen) e f = let p = neither (same l s) (list_any (same l) seen) e in rw (p.0, joined l k seen p.1 f) refl

AreNew : Listed Amqp → Pairs → Type 0
AreNew seen no_pairs = Unit {0}
AreNew seen (pair k v ps) = (list_any (same k) seen ≡ false) × AreNew seen ps

split : (k : Amqp) (seen : Listed Amqp) (ps : Pairs) → AreNew (seen ++ k ∷ []) ps → AreNew seen ps × IsNew k ps
unfolding AreNew
split k seen no_pairs h = (tt, tt)
split k seen (pair l v ps) h =
    let p = parts l k seen h.0 in
    let q = split k seen ps h.1 in
    ((p.0, q.0), ((λ e. true≢false (sym ((same_decides l k).1 (sym e)) ∙ p.1)), q.1))

unsplit : (k : Amqp) (seen : Listed Amqp) (ps : Pairs) → AreNew seen ps → IsNew k ps → AreNew (seen ++ k ∷ []) ps
unfolding AreNew
unsplit k seen no_pairs h g = tt
unsplit k seen (pair l v ps) h g = (joined l k seen h.0 (not_true (same l k) (λ e. g.0 (sym ((same_decides l k).0 e)))), unsplit k seen ps h.1 g.1)

from_test : (seen : Listed Amqp) (ps : Pairs) → distinct_after seen ps ≡ true → HasDistinctKeys ps × AreNew seen ps
unfolding distinct_after AreNew
from_test seen no_pairs e = (tt, tt)
from_test seen (pair k v ps) e =
    let p = chosen (list_any (same k) seen) (distinct_after (seen ++ k ∷ []) ps) e in
    let q = from_test (seen ++ k ∷ []) ps p.1 in
    let r = split k seen ps q.1 in
    ((r.1, q.0), (p.0, r.0))

to_test : (seen : Listed Amqp) (ps : Pairs) → HasDistinctKeys ps → AreNew seen ps → distinct_after seen ps ≡ true
unfolding distinct_after AreNew
to_test seen no_pairs h g = refl
to_test seen (pair k v ps) h g = rw (g.0, to_test (seen ++ k ∷ []) ps h.1 (unsplit k seen ps g.1 h.0)) refl

none_seen : (ps : Pairs) → AreNew [] ps
unfolding AreNew
none_seen no_pairs = tt
none_seen (pair k v ps) = (refl, none_seen ps)

pub HasDistinctKeys-from : (ps : Pairs) → distinct_keys ps ≡ true → HasDistinctKeys ps
HasDistinctKeys-from ps e = (from_test [] ps e).0

pub distinct_keys-from : (ps : Pairs) → HasDistinctKeys ps → distinct_keys ps ≡ true
distinct_keys-from ps h = to_test [] ps h (none_seen ps)

pub same_items_decides : (vs ws : Items) → Decides (same_items vs ws) (vs ≡ ws)
same_items_decides vs ws = (same_items_is vs ws, λ e. ap (same_items vs) (sym e) ∙ same_items_self vs)

pub same_pairs_decides : (ps qs : Pairs) → Decides (same_pairs ps qs) (ps ≡ qs)
same_pairs_decides ps qs = (same_pairs_is ps qs, λ e. ap (same_pairs ps) (sym e) ∙ same_pairs_self ps)

pub items_laws : IsEquivalence same_items
items_laws = decided same_items same_items_decides

pub items_partial_laws : IsPartialEquivalence same_items
items_partial_laws = partial_equiv_from_equiv items_laws

pub pairs_laws : IsEquivalence same_pairs
pairs_laws = decided same_pairs same_pairs_decides

pub pairs_partial_laws : IsPartialEquivalence same_pairs
pairs_partial_laws = partial_equiv_from_equiv pairs_laws

pub equal_laws : IsEquivalence (λ (x y : Value). same (view x) (view y))
equal_laws =
    let h = decided same same_decides in
    record { refl = λ x. h.refl (view x); symm = λ x y. h.symm (view x) (view y); congr = λ x y z. h.congr (view x) (view y) (view z) }

pub partial_laws : IsPartialEquivalence (λ (x y : Value). same (view x) (view y))
partial_laws = partial_equiv_from_equiv equal_laws

pub hashed_alike : (x y : Value) → IsTrue (same (view x) (view y)) → hashed (view x) ≡ hashed (view y)
hashed_alike x y h = ap hashed (same_is (view x) (view y) h)

-- ---- a value is known by the data that it stands for

value_of : Amqp → Value
value_of (scalar null) = v.Null
value_of (scalar (boolean b)) = v.Bool b
value_of (scalar (ubyte n)) = v.Ubyte n
value_of (scalar (ushort n)) = v.Ushort n
value_of (scalar (uint n)) = v.Uint n
value_of (scalar (ulong n)) = v.Ulong n
value_of (scalar (byte n)) = v.Byte n
value_of (scalar (short n)) = v.Short n
value_of (scalar (int n)) = v.Int n
value_of (scalar (long n)) = v.Long n
value_of (scalar (char c)) = v.Char c
value_of (scalar (timestamp t)) = v.Timestamp (record { milliseconds = t })
value_of (scalar (uuid u)) = v.Uuid (record { bytes = u })
value_of (scalar (binary s)) = v.Binary s
value_of (scalar (string s)) = v.String s
value_of (scalar (symbol s)) = v.Symbol s
value_of (list vs) = v.List vs
value_of (dict ps) = v.Map ps
value_of (array k vs) = v.Array (k, vs)
value_of (described d w) = v.Described (d, w)

value_of_view : (x : Value) → value_of (view x) ≡ x
unfolding value_of
value_of_view v.Null = refl
value_of_view (v.Bool b) = refl
value_of_view (v.Ubyte n) = refl
value_of_view (v.Ushort n) = refl
value_of_view (v.Uint n) = refl
value_of_view (v.Ulong n) = refl
value_of_view (v.Byte n) = refl
value_of_view (v.Short n) = refl
value_of_view (v.Int n) = refl
value_of_view (v.Long n) = refl
value_of_view (v.Char c) = refl
value_of_view (v.Timestamp t) = refl
value_of_view (v.Uuid u) = refl
value_of_view (v.Binary s) = refl
value_of_view (v.String s) = refl
value_of_view (v.Symbol s) = refl
value_of_view (v.List vs) = refl
value_of_view (v.Map ps) = refl
value_of_view (v.Array a) = refl
value_of_view (v.Described d) = refl

value_is : (x y : Value) → same (view x) (view y) ≡ true → x ≡ y
value_is x y e = sym (value_of_view x) ∙ ap value_of (same_is (view x) (view y) e) ∙ value_of_view y

pub value_decides : (x y : Value) → Decides (same (view x) (view y)) (x ≡ y)
value_decides x y = (value_is x y, λ e. ap (λ (z : Value). same (view x) (view z)) (sym e) ∙ same_self (view x))
