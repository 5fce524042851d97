-- The elements of an array.
use Rattle.std.proofs.Common.{◌≡◌, ℕ, suc, ◌+◌, ◌<◌, ◌≤◌, ◌^◌, Bool, true, false, List, ◌++◌, length, get_or, drop, Some, None, refl, sym, ap, subst, ◌∙◌, append_assoc, append-nil, arith}
use Rattle.std.specs.Prelude.{IsSome}
use Rattle.std.proofs.lemmas.Bool.{ltb-true, and_parts, false≢true}
use Rattle.std.proofs.lemmas.List.{length-append}
use Rattle.amqp_data.specs.declared.kind.ElementKind.{ElementKind}
use Rattle.amqp_data.specs.declared.kind.ElementKind.TheVariants as k
use Rattle.amqp_data.specs.declared.value.Value.{Value}
use Rattle.amqp_data.specs.Data.{Scalar, null, boolean, ubyte, ushort, uint, ulong, byte, short, int, long, char, timestamp, uuid, binary, string, symbol, Amqp, Items, scalar, list, dict, array, described, no_items, item, count, kind_of, element_kind, AreOfKind}
use Rattle.amqp_data.specs.View.{view, items_view}
use Rattle.amqp_value.specs.declared.code.SizeWidth.{SizeWidth}
use Rattle.amqp_value.specs.declared.code.SizeWidth.TheVariants.{One, Four}
use Rattle.amqp_value.specs.declared.code.ScalarCode.{ScalarCode}
use Rattle.amqp_value.specs.Grammar.{Lays, LaysAll, no_elements, more_elements, boolean_true, boolean_false, ubyte', ushort', uint', ulong', byte', short', int', long', char', timestamp', uuid', binary', string', symbol'}
use Rattle.amqp_value.specs.Canonical.{narrow_if, laid, elements, is_short, are_short, element_code, IsSized, AreSized}
use Rattle.amqp_value.specs.Writing.{width_in, code_of_kind, code_for, IsBehind, AreBehind, HasRoom, HaveRoom, IsInRange, MeasuresElement, MeasuresElements, AreElementsLength, PutsElement, WroteElements}
use Rattle.amqp_value.proofs.Rest.{rest_items, no_rest}

-- ---- the constructor

pub element_code-kind : (e : ElementKind) (vs : Items) → element_code e vs ≡ code_of_kind e (narrow_if (are_short vs))
element_code-kind k.Bool vs = refl
element_code-kind k.Ubyte vs = refl
element_code-kind k.Ushort vs = refl
element_code-kind k.Uint vs = refl
element_code-kind k.Ulong vs = refl
element_code-kind k.Byte vs = refl
element_code-kind k.Short vs = refl
element_code-kind k.Int vs = refl
element_code-kind k.Long vs = refl
element_code-kind k.Char vs = refl
element_code-kind k.Timestamp vs = refl
element_code-kind k.Uuid vs = refl
element_code-kind k.Binary vs = refl
element_code-kind k.String vs = refl
element_code-kind k.Symbol vs = refl

abbrev IsAt : SizeWidth → Scalar → ElementKind → Type 0
IsAt w s e = (code_for (width_in (code_of_kind e w)) s ≡ code_of_kind e w) × IsSome (kind_of s)

kind_is : (a e : ElementKind) → Some a ≡ Some e → a ≡ e
kind_is a e h = cc

moved : (w : SizeWidth) (s : Scalar) (a e : ElementKind) → IsAt w s a → Some a ≡ Some e → IsAt w s e
moved w s a e p h = subst (λ (z : ElementKind). IsAt w s z) (kind_is a e h) p

at_kind : (w : SizeWidth) (s : Scalar) (e : ElementKind) → kind_of s ≡ Some e → IsAt w s e
at_kind w null e h = absurd (cc)
at_kind w (boolean b) e h = moved w (boolean b) k.Bool e (refl, refl) h
at_kind w (ubyte n) e h = moved w (ubyte n) k.Ubyte e (refl, refl) h
at_kind w (ushort n) e h = moved w (ushort n) k.Ushort e (refl, refl) h
at_kind w (uint n) e h = moved w (uint n) k.Uint e (refl, refl) h
at_kind w (ulong n) e h = moved w (ulong n) k.Ulong e (refl, refl) h
at_kind w (byte n) e h = moved w (byte n) k.Byte e (refl, refl) h
at_kind w (short n) e h = moved w (short n) k.Short e (refl, refl) h
at_kind w (int n) e h = moved w (int n) k.Int e (refl, refl) h
at_kind w (long n) e h = moved w (long n) k.Long e (refl, refl) h
at_kind w (char n) e h = moved w (char n) k.Char e (refl, refl) h
at_kind w (timestamp n) e h = moved w (timestamp n) k.Timestamp e (refl, refl) h
at_kind w (uuid u) e h = moved w (uuid u) k.Uuid e (refl, refl) h
at_kind w (binary s) e h = moved w (binary s) k.Binary e (refl, refl) h
at_kind w (string s) e h = moved w (string s) k.String e (refl, refl) h
at_kind w (symbol s) e h = moved w (symbol s) k.Symbol e (refl, refl) h

behind_kind : (w : SizeWidth) (v : Amqp) (e : ElementKind) → element_kind v ≡ Some e → IsBehind (code_of_kind e w) v
behind_kind w (scalar s) e h = at_kind w s e h
behind_kind w (list vs) e h = absurd (cc)
behind_kind w (dict ps) e h = absurd (cc)
behind_kind w (array l vs) e h = absurd (cc)
behind_kind w (described d v) e h = absurd (cc)

all_behind : (w : SizeWidth) (e : ElementKind) (vs : Items) → AreOfKind e vs → AreBehind (code_of_kind e w) vs
all_behind w e no_items h = tt
all_behind w e (item v vs) h = (behind_kind w v e h.0, all_behind w e vs h.1)

-- values of one kind stand behind the constructor of that kind
pub are_behind : (e : ElementKind) (vs : Items) → AreOfKind e vs → AreBehind (element_code e vs) vs
are_behind e vs h = subst (λ (z : ScalarCode). AreBehind z vs) (sym (element_code-kind e vs)) (all_behind (narrow_if (are_short vs)) e vs h)

-- ---- room for texts

short_room : (v : Amqp) → is_short v ≡ true → HasRoom One v
short_room (scalar (binary s)) e = ltb-true (length s) 256 e
short_room (scalar (string s)) e = ltb-true (length s) 256 e
short_room (scalar (symbol s)) e = ltb-true (length s) 256 e
short_room v e = tt

all_short_room : (vs : Items) → are_short vs ≡ true → HaveRoom One vs
all_short_room no_items e = tt
all_short_room (item v vs) e = let p = and_parts (is_short v) (are_short vs) e in (short_room v p.0, all_short_room vs p.1)

sized_room : (v : Amqp) → IsSized v → HasRoom Four v
unfolding IsSized
sized_room (scalar (binary s)) h = h
sized_room (scalar (string s)) h = h
sized_room (scalar (symbol s)) h = h
sized_room v h = tt

all_sized_room : (vs : Items) → AreSized vs → HaveRoom Four vs
unfolding IsSized
all_sized_room no_items h = tt
all_sized_room (item v vs) h = (sized_room v h.0, all_sized_room vs h.1)

narrow_room : (vs : Items) (b : Bool) → are_short vs ≡ b → AreSized vs → HaveRoom (narrow_if b) vs
narrow_room vs true e h = all_short_room vs e
narrow_room vs false e h = all_sized_room vs h

-- texts have room behind the constructor of an array
pub have_room : (e : ElementKind) (vs : Items) → AreSized vs → HaveRoom (width_in (element_code e vs)) vs
have_room k.Bool vs h = all_sized_room vs h
have_room k.Ubyte vs h = all_sized_room vs h
have_room k.Ushort vs h = all_sized_room vs h
have_room k.Uint vs h = all_sized_room vs h
have_room k.Ulong vs h = all_sized_room vs h
have_room k.Byte vs h = all_sized_room vs h
have_room k.Short vs h = all_sized_room vs h
have_room k.Int vs h = all_sized_room vs h
have_room k.Long vs h = all_sized_room vs h
have_room k.Char vs h = all_sized_room vs h
have_room k.Timestamp vs h = all_sized_room vs h
have_room k.Uuid vs h = all_sized_room vs h
have_room k.Binary vs h = narrow_room vs (are_short vs) refl h
have_room k.String vs h = narrow_room vs (are_short vs) refl h
have_room k.Symbol vs h = narrow_room vs (are_short vs) refl h

-- ---- sizes

-- total is the length of the constructor and of all elements but the rest
pub record SizingElements (e : ScalarCode) (total : ℕ) (rest all : Items) : Type 0 where
  pub is : total + length (elements e rest) ≡ suc (length (elements e all))
  pub few : count all < total + count rest
  pub behind : AreBehind e rest
  pub sized : AreSized rest → AreSized all
  pub parts : AreSized all → AreSized rest
  pub below : 4 + total < 2 ^ 32

next_element_sized : (e : ScalarCode) (total n : ℕ) (v : Amqp) (rest all : Items) → SizingElements e total (item v rest) all → MeasuresElement (width_in e) (Some n) v → 4 + (total + n) < 2 ^ 32 → SizingElements e (total + n) rest all
unfolding IsSized
next_element_sized e total n (scalar s) rest all h g lt =
    let len : n ≡ length (laid e s) = g.0 ∙ ap (λ (z : ScalarCode). length (laid z s)) h.behind.0.0 in
    record {
      is = omega (arith, h.is, len, length-append (laid e s) (elements e rest));
      few = omega (arith, h.few, g.2);
      behind = h.behind.1;
      sized = λ z. h.sized (g.1, z);
      parts = λ z. (h.parts z).1;
      below = lt;
    }
next_element_sized e total n (list vs) rest all h g lt = absurd h.behind.0
next_element_sized e total n (dict ps) rest all h g lt = absurd h.behind.0
next_element_sized e total n (array l vs) rest all h g lt = absurd h.behind.0
next_element_sized e total n (described d v) rest all h g lt = absurd h.behind.0

pub elements_go : (e : ScalarCode) (total n : ℕ) (xs : List Value) (i : ℕ) (x : Value) → i < length xs → x ≡ get_or xs i x → SizingElements e total (items_view (drop i xs)) (items_view xs) → MeasuresElement (width_in e) (Some n) (view x) → 4 + (total + n) < 2 ^ 32
    → SizingElements e (total + n) (items_view (drop (i + 1) xs)) (items_view xs)
elements_go e total n xs i x lt is h g below =
    next_element_sized e total n (view x) (items_view (drop (i + 1) xs)) (items_view xs) (subst (λ (z : Items). SizingElements e total z (items_view xs)) (rest_items xs i x lt is) h) g below

no_element_sized : (e : ScalarCode) (total : ℕ) (v : Amqp) (rest all : Items) → SizingElements e total (item v rest) all → MeasuresElement (width_in e) None v → MeasuresElements e None all
unfolding IsSized
no_element_sized e total (scalar s) rest all h g = λ z b. g (h.parts z).0
no_element_sized e total (list vs) rest all h g = absurd h.behind.0
no_element_sized e total (dict ps) rest all h g = absurd h.behind.0
no_element_sized e total (array l vs) rest all h g = absurd h.behind.0
no_element_sized e total (described d v) rest all h g = absurd h.behind.0

pub element_stops : (e : ScalarCode) (total : ℕ) (xs : List Value) (i : ℕ) (x : Value) → i < length xs → x ≡ get_or xs i x → SizingElements e total (items_view (drop i xs)) (items_view xs) → MeasuresElement (width_in e) None (view x) → MeasuresElements e None (items_view xs)
element_stops e total xs i x lt is h g =
    no_element_sized e total (view x) (items_view (drop (i + 1) xs)) (items_view xs) (subst (λ (z : Items). SizingElements e total z (items_view xs)) (rest_items xs i x lt is) h) g

pub elements_end : (e : ScalarCode) (total : ℕ) (xs : List Value) (i : ℕ) → length xs ≤ i → SizingElements e total (items_view (drop i xs)) (items_view xs) → AreElementsLength e total (items_view xs)
unfolding IsSized
elements_end e total xs i le h =
    let g : SizingElements e total no_items (items_view xs) = subst (λ (z : Items). SizingElements e total z (items_view xs)) (no_rest xs i le) h in
    record { is = omega (arith, g.is); sized = g.sized tt; below = g.below; few = omega (arith, g.few) }

-- ---- bytes

lays_for : (w : SizeWidth) (s : Scalar) → IsInRange s → HasRoom w (scalar s) → IsSome (kind_of s) → Lays (code_for w s) (laid (code_for w s) s) s
unfolding laid
lays_for w null h r i = absurd (false≢true i)
lays_for w (boolean true) h r i = boolean_true
lays_for w (boolean false) h r i = boolean_false
lays_for w (ubyte n) h r i = ubyte' n h
lays_for w (ushort n) h r i = ushort' n h
lays_for w (uint n) h r i = uint' n h
lays_for w (ulong n) h r i = ulong' n h
lays_for w (byte n) h r i = byte' n h
lays_for w (short n) h r i = short' n h
lays_for w (int n) h r i = int' n h
lays_for w (long n) h r i = long' n h
lays_for w (char n) h r i = char' n h
lays_for w (timestamp n) h r i = timestamp' n h
lays_for w (uuid u) h r i = uuid' u h
lays_for w (binary s) h r i = binary' w s r
lays_for w (string s) h r i = string' w s h r
lays_for w (symbol s) h r i = symbol' w s h r

-- out and the rest are all the elements behind old
pub record GoingElements (e : ScalarCode) (old out : List ℕ) (rest all : Items) : Type 0 where
  pub bytes : out ++ elements e rest ≡ old ++ elements e all
  pub spelled : LaysAll e (elements e rest) rest → LaysAll e (elements e all) all
  pub behind : AreBehind e rest
  pub room : HaveRoom (width_in e) rest

next_element_put : (e : ScalarCode) (old mid new : List ℕ) (v : Amqp) (rest all : Items) → GoingElements e old mid (item v rest) all → PutsElement (width_in e) mid new v → GoingElements e old new rest all
next_element_put e old mid new (scalar s) rest all h g =
    let b : new ≡ mid ++ laid e s = g.0 ∙ ap (λ (z : ScalarCode). mid ++ laid z s) h.behind.0.0 in
    let lays : Lays e (laid e s) s = subst (λ (z : ScalarCode). Lays z (laid z s) s) h.behind.0.0 (lays_for (width_in e) s g.1 h.room.0 h.behind.0.1) in
    record {
      bytes = ap (λ (z : List ℕ). z ++ elements e rest) b ∙ append_assoc mid (laid e s) (elements e rest) ∙ h.bytes;
      spelled = λ z. h.spelled (more_elements e s rest (laid e s) (elements e rest) lays z);
      behind = h.behind.1;
      room = h.room.1;
    }
next_element_put e old mid new (list vs) rest all h g = absurd h.behind.0
next_element_put e old mid new (dict ps) rest all h g = absurd h.behind.0
next_element_put e old mid new (array l vs) rest all h g = absurd h.behind.0
next_element_put e old mid new (described d v) rest all h g = absurd h.behind.0

pub element_put : (e : ScalarCode) (old mid new : List ℕ) (xs : List Value) (i : ℕ) (x : Value) → i < length xs → x ≡ get_or xs i x → GoingElements e old mid (items_view (drop i xs)) (items_view xs) → PutsElement (width_in e) mid new (view x)
    → GoingElements e old new (items_view (drop (i + 1) xs)) (items_view xs)
element_put e old mid new xs i x lt is h g =
    next_element_put e old mid new (view x) (items_view (drop (i + 1) xs)) (items_view xs) (subst (λ (z : Items). GoingElements e old mid z (items_view xs)) (rest_items xs i x lt is) h) g

pub elements_put : (e : ScalarCode) (old out : List ℕ) (xs : List Value) (i : ℕ) → length xs ≤ i → GoingElements e old out (items_view (drop i xs)) (items_view xs) → WroteElements e old out (items_view xs)
elements_put e old out xs i le h =
    let g : GoingElements e old out no_items (items_view xs) = subst (λ (z : Items). GoingElements e old out z (items_view xs)) (no_rest xs i le) h in
    record { bytes = sym (append-nil out) ∙ g.bytes; spelled = g.spelled (no_elements e) }
