-- What is read is spelled so.
use Rattle.std.proofs.Common.{◌≡◌, ℕ, zero, suc, ◌*◌, ◌/◌, ◌%◌, ◌<◌, ◌≤◌, eqb, List, [], ◌∷◌, ◌++◌, length, Option, Some, refl, sym, ap, subst, ◌∙◌, append_assoc, arith}
use Rattle.std.proofs.lemmas.Bool.{eqb-true}
use Rattle.std.proofs.lemmas.Option.{cond_some, none-some}
use Rattle.std.proofs.lemmas.List.{append-nil, nil_from_length}
use Rattle.amqp_data.specs.declared.kind.ElementKind.{ElementKind}
use Rattle.amqp_data.specs.Data.{Amqp, Items, Pairs, scalar, list, dict, array, described, no_items, item, no_pairs, pair, count, pair_count, depth, items_depth, pairs_depth}
use Rattle.amqp_data.specs.Same.{distinct_keys}
use Rattle.amqp_data.specs.SameLaws.{HasDistinctKeys-from}
use Rattle.amqp_value.specs.declared.code.SizeWidth.{SizeWidth}
use Rattle.amqp_value.specs.declared.code.ScalarCode.{ScalarCode}
use Rattle.amqp_value.specs.declared.code.Code.{Code}
use Rattle.amqp_value.specs.declared.code.Code.TheVariants as code
use Rattle.amqp_value.specs.Code.{octets, limit, block, content, scalar_number, list_number, map_number, array_number, number, code_kind}
use Rattle.amqp_value.specs.Grammar.{LaysAll, Spells, scalar', empty_list, list', map', array', described', SpellAll, no_values, more_values, SpellPairs, no_keys, more_keys}
use Rattle.amqp_value.specs.Reading.{◌>>=◌, Parse, size_at, block_at, kept, scalar_at, items_at, pairs_at, only, values_in, list_at, half, pairs_in, distinct, map_at, element_at, constructor_at, elements_in, array_at, described_at, code_at, body_at, value_at}
use Rattle.amqp_value.proofs.Numbers.{IsBytes, bind_some, some_is, sizes, block_takes}
use Rattle.amqp_value.proofs.Codes.{code_takes, constructor_takes}
use Rattle.amqp_value.proofs.ScalarsRead.{scalar_sound}
use Rattle.amqp_value.proofs.ElementsRead.{elements_sound}

-- what was taken spells the value
pub record Took (d : ℕ) (bytes : List ℕ) (v : Amqp) (rest : List ℕ) : Type 0 where
  pub text : List ℕ
  pub parts : bytes ≡ text ++ rest
  pub spelled : Spells text v
  pub within : depth v ≤ d
  pub rest_fits : IsBytes rest

abbrev pub Sound : Parse Amqp → ℕ → Type 0
Sound inner d = (bytes : List ℕ) (x : Amqp × List ℕ) → IsBytes bytes → inner bytes ≡ Some x → Took d bytes x.0 x.1

-- a value and what is left, with the constructor before it
abbrev Behind : ℕ → ℕ → List ℕ → Amqp × List ℕ → Type 0
Behind d n bytes x = Took d (n ∷ bytes) x.0 x.1

behind : (d n : ℕ) (bytes : List ℕ) (made x : Amqp × List ℕ) → Behind d n bytes made → ◌≡◌ {A = Option (Amqp × List ℕ)} (Some made) (Some x) → Behind d n bytes x
behind d n bytes made x t e = subst (Behind d n bytes) (some_is made x e) t

only_is : {A : Type 0} (x : A × List ℕ) (y : A) → only x ≡ Some y → (x.0 ≡ y) × (x.1 ≡ [])
only_is x y e =
    let g = cond_some (eqb (length x.1) 0) x.0 y e in
    (g.1, nil_from_length x.1 (eqb-true _ _ g.0))

-- ---- lists

record TookAll (d n : ℕ) (bytes : List ℕ) (vs : Items) (rest : List ℕ) : Type 0 where
  text : List ℕ
  parts : bytes ≡ text ++ rest
  spelled : SpellAll text vs
  counted : count vs ≡ n
  within : items_depth vs ≤ d
  rest_fits : IsBytes rest

items_sound : (inner : Parse Amqp) (d : ℕ) → Sound inner d → (n : ℕ) (bytes : List ℕ) (x : Items × List ℕ) → IsBytes bytes → items_at inner n bytes ≡ Some x → TookAll d n bytes x.0 x.1
unfolding items_at
items_sound inner d h zero bytes x fits e =
    subst (λ (y : Items × List ℕ). TookAll d 0 bytes y.0 y.1) (some_is (no_items, bytes) x e) (record { text = []; parts = refl; spelled = no_values; counted = refl; within = omega arith; rest_fits = fits })
items_sound inner d h (suc n) bytes x fits e =
    let a = bind_some (inner bytes) (λ v. items_at inner n v.1 >>= λ vs. Some (item v.0 vs.0, vs.1)) x e in
    let b = bind_some (items_at inner n a.0.1) (λ vs. Some (item a.0.0 vs.0, vs.1)) x a.2 in
    let t = h bytes a.0 fits a.1 in
    let u = items_sound inner d h n a.0.1 b.0 t.rest_fits b.1 in
    let made : Items × List ℕ = (item a.0.0 b.0.0, b.0.1) in
    subst (λ (y : Items × List ℕ). TookAll d (suc n) bytes y.0 y.1) (some_is made x b.2) (record {
      text = t.text ++ u.text;
      parts = t.parts ∙ ap (λ (z : List ℕ). t.text ++ z) u.parts ∙ sym (append_assoc t.text u.text b.0.1);
      spelled = more_values a.0.0 b.0.0 t.text u.text t.spelled u.spelled;
      counted = ap suc u.counted;
      within = omega (arith, t.within, u.within);
      rest_fits = u.rest_fits;
    })

-- a count and the items
record Filled (d : ℕ) (w : SizeWidth) (bytes : List ℕ) (vs : Items) : Type 0 where
  text : List ℕ
  parts : bytes ≡ content w (count vs) text
  spelled : SpellAll text vs
  below : count vs < limit w
  within : items_depth vs ≤ d

values_in_sound : (inner : Parse Amqp) (d : ℕ) → Sound inner d → (w : SizeWidth) (bytes : List ℕ) (vs : Items) → IsBytes bytes → values_in inner w bytes ≡ Some vs → Filled d w bytes vs
unfolding values_in
values_in_sound inner d h w bytes vs fits e =
    let a = bind_some (size_at w bytes) (λ n. items_at inner n.0 n.1 >>= only) vs e in
    let b = bind_some (items_at inner a.0.0 a.0.1) only vs a.2 in
    let g = only_is b.0 vs b.2 in
    let t = (sizes w).takes bytes a.0.0 a.0.1 fits a.1 in
    let u = items_sound inner d h a.0.0 a.0.1 b.0 t.0.rest_fits b.1 in
    let whole : a.0.1 ≡ u.text = u.parts ∙ ap (λ (z : List ℕ). u.text ++ z) g.1 ∙ append-nil u.text in
    subst (λ (z : Items). Filled d w bytes z) g.0 (record {
      text = u.text;
      parts = rw u.counted (t.0.parts ∙ ap (λ (z : List ℕ). octets w a.0.0 ++ z) whole);
      spelled = u.spelled;
      below = omega (arith, u.counted, t.1);
      within = u.within;
    })

list_sound : (inner : Parse Amqp) (d : ℕ) → Sound inner d → (w : SizeWidth) (bytes : List ℕ) (x : Amqp × List ℕ) → IsBytes bytes → list_at inner w bytes ≡ Some x → Behind (suc d) (list_number w) bytes x
unfolding list_at
list_sound inner d h w bytes x fits e =
    let a = bind_some (block_at w bytes) (λ s. values_in inner w s.0 >>= λ vs. Some (list vs, s.1)) x e in
    let b = bind_some (values_in inner w a.0.0) (λ vs. Some (list vs, a.0.1)) x a.2 in
    let t = block_takes w bytes a.0 fits a.1 in
    let u = values_in_sound inner d h w a.0.0 b.0 t.fits b.1 in
    let rule : Spells (list_number w ∷ block w a.0.0) (list b.0) =
    subst (λ (z : List ℕ). Spells (list_number w ∷ block w z) (list b.0)) (sym u.parts)
    (list' w b.0 u.text u.spelled u.below (subst (λ (z : List ℕ). length z < limit w) u.parts t.short)) in
    behind (suc d) (list_number w) bytes (list b.0, a.0.1) x (record {
      text = list_number w ∷ block w a.0.0;
      parts = ap (λ (z : List ℕ). list_number w ∷ z) t.takes.parts;
      spelled = rule;
      within = omega (arith, u.within);
      rest_fits = t.takes.rest_fits;
    }) b.2

-- ---- maps

record TookPairs (d n : ℕ) (bytes : List ℕ) (ps : Pairs) (rest : List ℕ) : Type 0 where
  text : List ℕ
  parts : bytes ≡ text ++ rest
  spelled : SpellPairs text ps
  counted : pair_count ps ≡ n
  within : pairs_depth ps ≤ d
  rest_fits : IsBytes rest

pairs_sound : (inner : Parse Amqp) (d : ℕ) → Sound inner d → (n : ℕ) (bytes : List ℕ) (x : Pairs × List ℕ) → IsBytes bytes → pairs_at inner n bytes ≡ Some x → TookPairs d n bytes x.0 x.1
unfolding pairs_at
pairs_sound inner d h zero bytes x fits e =
    subst (λ (y : Pairs × List ℕ). TookPairs d 0 bytes y.0 y.1) (some_is (no_pairs, bytes) x e) (record { text = []; parts = refl; spelled = no_keys; counted = refl; within = omega arith; rest_fits = fits })
pairs_sound inner d h (suc n) bytes x fits e =
    let a = bind_some (inner bytes) (λ k. inner k.1 >>= λ v. pairs_at inner n v.1 >>= λ ps. Some (pair k.0 v.0 ps.0, ps.1)) x e in
    let b = bind_some (inner a.0.1) (λ v. pairs_at inner n v.1 >>= λ ps. Some (pair a.0.0 v.0 ps.0, ps.1)) x a.2 in
    let c = bind_some (pairs_at inner n b.0.1) (λ ps. Some (pair a.0.0 b.0.0 ps.0, ps.1)) x b.2 in
    let t = h bytes a.0 fits a.1 in
    let u = h a.0.1 b.0 t.rest_fits b.1 in
    let w = pairs_sound inner d h n b.0.1 c.0 u.rest_fits c.1 in
    let made : Pairs × List ℕ = (pair a.0.0 b.0.0 c.0.0, c.0.1) in
    let back : u.text ++ (w.text ++ c.0.1) ≡ (u.text ++ w.text) ++ c.0.1 = sym (append_assoc u.text w.text c.0.1) in
    subst (λ (y : Pairs × List ℕ). TookPairs d (suc n) bytes y.0 y.1) (some_is made x c.2) (record {
      text = t.text ++ (u.text ++ w.text);
      parts = t.parts ∙ ap (λ (z : List ℕ). t.text ++ z) (u.parts ∙ ap (λ (z : List ℕ). u.text ++ z) w.parts ∙ back) ∙ sym (append_assoc t.text (u.text ++ w.text) c.0.1);
      spelled = more_keys a.0.0 b.0.0 c.0.0 t.text u.text w.text t.spelled u.spelled w.spelled;
      counted = ap suc w.counted;
      within = omega (arith, t.within, u.within, w.within);
      rest_fits = w.rest_fits;
    })

record FilledPairs (d : ℕ) (w : SizeWidth) (bytes : List ℕ) (ps : Pairs) : Type 0 where
  text : List ℕ
  parts : bytes ≡ content w (2 * pair_count ps) text
  spelled : SpellPairs text ps
  below : 2 * pair_count ps < limit w
  within : pairs_depth ps ≤ d

half_is : (n m : ℕ) → half n ≡ Some m → 2 * m ≡ n
half_is n m e =
    let g = cond_some (eqb (n % 2) 0) (n / 2) m e in
    let even : n % 2 ≡ 0 = eqb-true _ _ g.0 in
    omega (arith, even, g.1)

pairs_in_sound : (inner : Parse Amqp) (d : ℕ) → Sound inner d → (w : SizeWidth) (bytes : List ℕ) (ps : Pairs) → IsBytes bytes → pairs_in inner w bytes ≡ Some ps → FilledPairs d w bytes ps
unfolding pairs_in
pairs_in_sound inner d h w bytes ps fits e =
    let a = bind_some (size_at w bytes) (λ n. half n.0 >>= λ m. pairs_at inner m n.1 >>= only) ps e in
    let m = bind_some (half a.0.0) (λ m. pairs_at inner m a.0.1 >>= only) ps a.2 in
    let b = bind_some (pairs_at inner m.0 a.0.1) only ps m.2 in
    let g = only_is b.0 ps b.2 in
    let t = (sizes w).takes bytes a.0.0 a.0.1 fits a.1 in
    let u = pairs_sound inner d h m.0 a.0.1 b.0 t.0.rest_fits b.1 in
    let whole : a.0.1 ≡ u.text = u.parts ∙ ap (λ (z : List ℕ). u.text ++ z) g.1 ∙ append-nil u.text in
    let twice : 2 * pair_count b.0.0 ≡ a.0.0 = ap (λ (k : ℕ). 2 * k) u.counted ∙ half_is a.0.0 m.0 m.1 in
    subst (λ (z : Pairs). FilledPairs d w bytes z) g.0 (record {
      text = u.text;
      parts = rw twice (t.0.parts ∙ ap (λ (z : List ℕ). octets w a.0.0 ++ z) whole);
      spelled = u.spelled;
      below = omega (arith, twice, t.1);
      within = u.within;
    })

map_sound : (inner : Parse Amqp) (d : ℕ) → Sound inner d → (w : SizeWidth) (bytes : List ℕ) (x : Amqp × List ℕ) → IsBytes bytes → map_at inner w bytes ≡ Some x → Behind (suc d) (map_number w) bytes x
unfolding map_at
map_sound inner d h w bytes x fits e =
    let a = bind_some (block_at w bytes) (λ s. pairs_in inner w s.0 >>= λ ps. distinct ps >>= λ qs. Some (dict qs, s.1)) x e in
    let b = bind_some (pairs_in inner w a.0.0) (λ ps. distinct ps >>= λ qs. Some (dict qs, a.0.1)) x a.2 in
    let c = bind_some (distinct b.0) (λ qs. Some (dict qs, a.0.1)) x b.2 in
    let g = cond_some (distinct_keys b.0) b.0 c.0 c.1 in
    let t = block_takes w bytes a.0 fits a.1 in
    let u = pairs_in_sound inner d h w a.0.0 b.0 t.fits b.1 in
    let rule : Spells (map_number w ∷ block w a.0.0) (dict b.0) =
    subst (λ (z : List ℕ). Spells (map_number w ∷ block w z) (dict b.0)) (sym u.parts)
    (map' w b.0 u.text u.spelled (HasDistinctKeys-from b.0 g.0) u.below (subst (λ (z : List ℕ). length z < limit w) u.parts t.short)) in
    behind (suc d) (map_number w) bytes (dict b.0, a.0.1) x (record {
      text = map_number w ∷ block w a.0.0;
      parts = ap (λ (z : List ℕ). map_number w ∷ z) t.takes.parts;
      spelled = rule;
      within = omega (arith, u.within);
      rest_fits = t.takes.rest_fits;
    }) (ap (λ (z : Pairs). Some (dict z, a.0.1)) g.1 ∙ c.2)

-- ---- arrays

record FilledArray (d : ℕ) (w : SizeWidth) (bytes : List ℕ) (v : Amqp) : Type 0 where
  kind : ElementKind
  constructor : ScalarCode
  elements : Items
  text : List ℕ
  is : v ≡ array kind elements
  of_kind : code_kind constructor ≡ Some kind
  parts : bytes ≡ content w (count elements) (scalar_number constructor ∷ text)
  spelled : LaysAll constructor text elements
  below : count elements < limit w
  within : items_depth elements ≤ d

elements_in_sound : (d : ℕ) (w : SizeWidth) (bytes : List ℕ) (v : Amqp) → IsBytes bytes → elements_in d w bytes ≡ Some v → FilledArray d w bytes v
unfolding elements_in
elements_in_sound d w bytes v fits e =
    let a = bind_some (size_at w bytes) (λ n. constructor_at n.1 >>= λ c. items_at (element_at c.0.0 d) n.0 c.1 >>= λ vs. only vs >>= λ es. Some (array c.0.1 es)) v e in
    let c = bind_some (constructor_at a.0.1) (λ c. items_at (element_at c.0.0 d) a.0.0 c.1 >>= λ vs. only vs >>= λ es. Some (array c.0.1 es)) v a.2 in
    let b = bind_some (items_at (element_at c.0.0.0 d) a.0.0 c.0.1) (λ vs. only vs >>= λ es. Some (array c.0.0.1 es)) v c.2 in
    let o = bind_some (only b.0) (λ es. Some (array c.0.0.1 es)) v b.2 in
    let g = only_is b.0 o.0 o.1 in
    let t = (sizes w).takes bytes a.0.0 a.0.1 fits a.1 in
    let k = constructor_takes a.0.1 c.0 t.0.rest_fits c.1 in
    let u = elements_sound c.0.0.0 d a.0.0 c.0.1 b.0 k.takes.rest_fits b.1 in
    let whole : c.0.1 ≡ u.text = u.parts ∙ ap (λ (z : List ℕ). u.text ++ z) g.1 ∙ append-nil u.text in
    record {
      kind = c.0.0.1;
      constructor = c.0.0.0;
      elements = b.0.0;
      text = u.text;
      is = sym (some_is (array c.0.0.1 o.0) v o.2) ∙ ap (array c.0.0.1) (sym g.0);
      of_kind = k.kind;
      parts = rw u.counted (t.0.parts ∙ ap (λ (z : List ℕ). octets w a.0.0 ++ z) (k.takes.parts ∙ ap (λ (z : List ℕ). scalar_number c.0.0.0 ∷ z) whole));
      spelled = u.spelled;
      below = omega (arith, u.counted, t.1);
      within = u.within;
    }

array_sound : (d : ℕ) (w : SizeWidth) (bytes : List ℕ) (x : Amqp × List ℕ) → IsBytes bytes → array_at d w bytes ≡ Some x → Behind (suc d) (array_number w) bytes x
unfolding array_at
array_sound d w bytes x fits e =
    let a = bind_some (block_at w bytes) (λ s. elements_in d w s.0 >>= λ v. Some (v, s.1)) x e in
    let b = bind_some (elements_in d w a.0.0) (λ v. Some (v, a.0.1)) x a.2 in
    let t = block_takes w bytes a.0 fits a.1 in
    let u = elements_in_sound d w a.0.0 b.0 t.fits b.1 in
    let rule : Spells (array_number w ∷ block w a.0.0) (array u.kind u.elements) =
    subst (λ (z : List ℕ). Spells (array_number w ∷ block w z) (array u.kind u.elements)) (sym u.parts)
    (array' w u.kind u.constructor u.elements u.text u.of_kind u.spelled u.below (subst (λ (z : List ℕ). length z < limit w) u.parts t.short)) in
    behind (suc d) (array_number w) bytes (array u.kind u.elements, a.0.1) x (record {
      text = array_number w ∷ block w a.0.0;
      parts = ap (λ (z : List ℕ). array_number w ∷ z) t.takes.parts;
      spelled = rule;
      within = omega (arith, u.within);
      rest_fits = t.takes.rest_fits;
    }) (ap (λ (z : Amqp). Some (z, a.0.1)) (sym u.is) ∙ b.2)

-- ---- every value

described_sound : (inner : Parse Amqp) (d : ℕ) → Sound inner d → (bytes : List ℕ) (x : Amqp × List ℕ) → IsBytes bytes → described_at inner bytes ≡ Some x → Behind (suc d) 0 bytes x
unfolding described_at
described_sound inner d h bytes x fits e =
    let a = bind_some (inner bytes) (λ w. inner w.1 >>= λ v. Some (described w.0 v.0, v.1)) x e in
    let b = bind_some (inner a.0.1) (λ v. Some (described a.0.0 v.0, v.1)) x a.2 in
    let t = h bytes a.0 fits a.1 in
    let u = h a.0.1 b.0 t.rest_fits b.1 in
    behind (suc d) 0 bytes (described a.0.0 b.0.0, b.0.1) x (record {
      text = 0 ∷ (t.text ++ u.text);
      parts = ap (λ (z : List ℕ). 0 ∷ z) (t.parts ∙ ap (λ (z : List ℕ). t.text ++ z) u.parts ∙ sym (append_assoc t.text u.text b.0.1));
      spelled = described' a.0.0 b.0.0 t.text u.text t.spelled u.spelled;
      within = omega (arith, t.within, u.within);
      rest_fits = u.rest_fits;
    }) b.2

scalar_is_sound : (d : ℕ) (c : ScalarCode) (bytes : List ℕ) (x : Amqp × List ℕ) → IsBytes bytes → kept scalar (scalar_at c bytes) ≡ Some x → Behind (suc d) (scalar_number c) bytes x
scalar_is_sound d c bytes x fits e =
    let a = bind_some (scalar_at c bytes) (λ y. Some (scalar y.0, y.1)) x e in
    let t = scalar_sound c bytes a.0 fits a.1 in
    behind (suc d) (scalar_number c) bytes (scalar a.0.0, a.0.1) x (record {
      text = scalar_number c ∷ t.text;
      parts = ap (λ (z : List ℕ). scalar_number c ∷ z) t.parts;
      spelled = scalar' c t.text a.0.0 t.spelled;
      within = omega arith;
      rest_fits = t.rest_fits;
    }) a.2

body_sound : (inner : Parse Amqp) (d : ℕ) → Sound inner d → (k : Code) (bytes : List ℕ) (x : Amqp × List ℕ) → IsBytes bytes → body_at inner d k bytes ≡ Some x → Behind (suc d) (number k) bytes x
unfolding body_at
body_sound inner d h code.Described bytes x fits e = described_sound inner d h bytes x fits e
body_sound inner d h code.EmptyList bytes x fits e =
    behind (suc d) 0x45 bytes (list no_items, bytes) x (record { text = 0x45 ∷ []; parts = refl; spelled = empty_list; within = omega arith; rest_fits = fits }) e
body_sound inner d h (code.List w) bytes x fits e = list_sound inner d h w bytes x fits e
body_sound inner d h (code.Map w) bytes x fits e = map_sound inner d h w bytes x fits e
body_sound inner d h (code.Array w) bytes x fits e = array_sound d w bytes x fits e
body_sound inner d h (code.Scalar c) bytes x fits e = scalar_is_sound d c bytes x fits e

-- a value that is read is spelled so
pub value_sound : (d : ℕ) → Sound (value_at d) d
unfolding value_at
value_sound zero bytes x fits e = absurd (none-some x e)
value_sound (suc d) bytes x fits e =
    let a = bind_some (code_at bytes) (λ k. body_at (value_at d) d k.0 k.1) x e in
    let t = code_takes bytes a.0 fits a.1 in
    let u = body_sound (value_at d) d (value_sound d) a.0.0 a.0.1 x t.rest_fits a.2 in
    record { text = u.text; parts = t.parts ∙ u.parts; spelled = u.spelled; within = u.within; rest_fits = u.rest_fits }
