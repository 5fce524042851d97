-- Where nothing is read, nothing is read of the parts.
use Rattle.std.proofs.Common.{◌≡◌, ℕ, zero, suc, ◌<◌, ◌≤◌, Bool, true, false, cond, eqb, List, [], ◌∷◌, length, Option, Some, None, refl, sym, ap, subst, ◌∙◌, arith}
use Rattle.std.proofs.lemmas.Option.{none-some, some_pair_parts}
use Rattle.std.specs.Prelude.{option_map}
use Rattle.amqp_data.specs.declared.kind.ElementKind.{ElementKind}
use Rattle.amqp_data.specs.Data.{Amqp, Items, Pairs, scalar, list, dict, array, described}
use Rattle.amqp_data.specs.Same.{distinct_keys}
use Rattle.amqp_value.specs.declared.code.SizeWidth.{SizeWidth}
use Rattle.amqp_value.specs.declared.code.SizeWidth.TheVariants.{One, Four}
use Rattle.amqp_value.specs.declared.code.ScalarCode.{ScalarCode}
use Rattle.amqp_value.specs.declared.code.Code.{Code}
use Rattle.amqp_value.specs.declared.code.Code.TheVariants as code
use Rattle.amqp_value.specs.Code.{find_code, find_scalar, code_kind}
use Rattle.amqp_value.specs.Reading.{◌>>=◌, Parse, size_at, block_at, kept, scalar_at, items_at, pairs_at, only, values_in, list_at, half, pairs_in, distinct, map_at, element_at, constructor_at, elements_in, array_at, described_at, code_at, body_at, value_at}
use Rattle.amqp_faults.specs.declared.form.Width.{Width}
use Rattle.amqp_faults.specs.declared.form.Width.TheVariants as w
use Rattle.amqp_faults.specs.declared.form.Layout.{Layout}
use Rattle.amqp_faults.specs.declared.form.Form.{Form}
use Rattle.amqp_faults.specs.declared.form.Form.TheVariants as f
use Rattle.amqp_faults.specs.Forms.{form_of, layout_of, size_width, element_layout, layout_in, wide}
use Rattle.amqp_faults.specs.Faults.{passed, past, value_past, element_past, stepped, width_in}
use Rattle.amqp_faults.specs.Sees.{Unfilled, NoneBehind, NoPairs, NoneIn}
use Rattle.amqp_faults.proofs.Steps.{items_past}
use Rattle.amqp_faults.proofs.Layouts.{scalar_past, element_is_past, kind_of_wide}

bind_is : {A B : Type 0} (r : Option A) (x : A) (g : A → Option B) → r ≡ Some x → (r >>= g) ≡ g x
bind_is r x g e = ap (λ (z : Option _). z >>= g) e

-- ---- behind a constructor

kept_none : {A B : Type 0} (r : Option (A × List ℕ)) (made : A → B) → kept made r ≡ None → past r ≡ None
kept_none (Some x) made e = absurd cc
kept_none None made e = refl

behind_code : (d : ℕ) (k : Code) (rest : List ℕ) → body_at (value_at d) d k rest ≡ None → NoneBehind d (form_of k) rest
unfolding body_at
behind_code d code.Described rest e = e
behind_code d code.EmptyList rest e = absurd cc
behind_code d (code.List One) rest e = e
behind_code d (code.List Four) rest e = e
behind_code d (code.Map One) rest e = e
behind_code d (code.Map Four) rest e = e
behind_code d (code.Array One) rest e = e
behind_code d (code.Array Four) rest e = e
behind_code d (code.Scalar c) rest e = sym (scalar_past c rest) ∙ kept_none (scalar_at c rest) scalar e

abbrev with_rest : List ℕ → Code → Option (Code × List ℕ)
with_rest rest k = Some (k, rest)

abbrev body_of : ℕ → Code × List ℕ → Option (Amqp × List ℕ)
body_of d x = body_at (value_at d) d x.0 x.1

behind_found : (d : ℕ) (r : Option Code) (form : Form) (rest : List ℕ) → ((r >>= with_rest rest) >>= body_of d) ≡ None → option_map form_of r ≡ Some form → NoneBehind d form rest
behind_found d None form rest e h = absurd cc
behind_found d (Some k) form rest e h = let same : form_of k ≡ form = cc in subst (λ (z : Form). NoneBehind d z rest) same (behind_code d k rest e)

pub behind_none : (d b : ℕ) (rest : List ℕ) (form : Form) → value_at (suc d) (b ∷ rest) ≡ None → option_map form_of (find_code b) ≡ Some form → NoneBehind d form rest
unfolding value_at code_at
behind_none d b rest form e h = behind_found d (find_code b) form rest e h

-- ---- a descriptor and a value

abbrev described_by : Amqp → Amqp × List ℕ → Option (Amqp × List ℕ)
described_by v x = Some (described v x.0, x.1)

abbrev value_of : Parse Amqp → Amqp × List ℕ → Option (Amqp × List ℕ)
value_of inner x = inner x.1 >>= described_by x.0

undescribed : (r : Option (Amqp × List ℕ)) (v : Amqp) → (r >>= described_by v) ≡ None → r ≡ None
undescribed (Some x) v e = absurd cc
undescribed None v e = refl

described_none : (inner : Parse Amqp) (r : Option (Amqp × List ℕ)) (v : Amqp) (after : List ℕ) → (r >>= value_of inner) ≡ None → r ≡ Some (v, after) → inner after ≡ None
described_none inner None v after e h = absurd cc
described_none inner (Some x) v after e h =
    let same : x.1 ≡ after = (some_pair_parts x.0 v x.1 after h).1 in
    ap inner (sym same) ∙ undescribed (inner x.1) x.0 e

pub no_value_behind : (d : ℕ) (rest after : List ℕ) (v : Amqp) → described_at (value_at d) rest ≡ None → value_at d rest ≡ Some (v, after) → value_at d after ≡ None
unfolding described_at
no_value_behind d rest after v e h = described_none (value_at d) (value_at d rest) v after e h

pub past_some : {A : Type 0} (r : Option (A × List ℕ)) (rest : List ℕ) → past r ≡ Some rest → (x : A) × (r ≡ Some (x, rest))
past_some (Some x) rest e = let same : x.1 ≡ rest = cc in (x.0, ap (λ (z : List ℕ). Some (x.0, z)) same)
past_some None rest e = absurd cc

pub none_behind : (d : ℕ) (rest after : List ℕ) → described_at (value_at d) rest ≡ None → value_past d rest ≡ Some after → value_at d after ≡ None
none_behind d rest after e h = let p = past_some (value_at d rest) after h in no_value_behind d rest after p.0 e p.1

-- ---- a block

pub list_none : (inner : Parse Amqp) (w : SizeWidth) (n : ℕ) (rest content after parts : List ℕ) → list_at inner w rest ≡ None → block_at w rest ≡ Some (content, after) → size_at w content ≡ Some (n, parts) → Unfilled (λ b. past (inner b)) n parts
unfolding list_at values_in
list_none inner w n rest content after parts none block size h =
    let p = past_some (items_at inner n parts) [] (items_past inner n parts ∙ h) in
    let values : values_in inner w content ≡ Some p.0 =
    bind_is (size_at w content) (n, parts) (λ x. items_at inner x.0 x.1 >>= λ vs. only vs) size ∙ bind_is (items_at inner n parts) (p.0, []) (λ vs. only vs) p.1 in
    let there : list_at inner w rest ≡ Some (list p.0, after) =
    bind_is (block_at w rest) (content, after) (λ s. values_in inner w s.0 >>= λ vs. Some (list vs, s.1)) block ∙ bind_is (values_in inner w content) p.0 (λ vs. Some (list vs, after)) values in
    none-some (list p.0, after) (sym none ∙ there)

all_distinct : (ps : Pairs) → distinct_keys ps ≡ true → distinct ps ≡ Some ps
all_distinct ps e = ap (λ (z : Bool). cond z (Some ps) None) e

pub map_none : (inner : Parse Amqp) (w : SizeWidth) (n m : ℕ) (rest content after parts : List ℕ) (ps : Pairs) → map_at inner w rest ≡ None → block_at w rest ≡ Some (content, after) → size_at w content ≡ Some (n, parts) → half n ≡ Some m
    → pairs_at inner m parts ≡ Some (ps, []) → distinct_keys ps ≡ true → ⊥
unfolding map_at pairs_in
map_none inner w n m rest content after parts ps none block size even pairs new =
    let pairs' : pairs_in inner w content ≡ Some ps =
    bind_is (size_at w content) (n, parts) (λ x. half x.0 >>= λ m. pairs_at inner m x.1 >>= λ ps. only ps) size ∙ bind_is (half n) m (λ m. pairs_at inner m parts >>= λ ps. only ps) even ∙ bind_is (pairs_at inner m parts) (ps, []) (λ ps. only ps) pairs in
    let there : map_at inner w rest ≡ Some (dict ps, after) =
    bind_is (block_at w rest) (content, after) (λ s. pairs_in inner w s.0 >>= λ ps. distinct ps >>= λ qs. Some (dict qs, s.1)) block
    ∙ bind_is (pairs_in inner w content) ps (λ ps. distinct ps >>= λ qs. Some (dict qs, after)) pairs' ∙ bind_is (distinct ps) ps (λ qs. Some (dict qs, after)) (all_distinct ps new) in
    none-some (dict ps, after) (sym none ∙ there)

layout_some : (r : Option ScalarCode) (layout : Layout) → layout_in r ≡ Some layout → (c : ScalarCode) × (r ≡ Some c) × (wide (layout_of c) ≡ Some layout)
layout_some (Some c) layout e = (c, refl, e)
layout_some None layout e = absurd cc

constructor_is : (b : ℕ) (rest : List ℕ) (c : ScalarCode) (kind : ElementKind) → find_scalar b ≡ Some c → code_kind c ≡ Some kind → constructor_at (b ∷ rest) ≡ Some ((c, kind), rest)
unfolding constructor_at
constructor_is b rest c kind e h = bind_is (find_scalar b) c (λ c. code_kind c >>= λ k. Some ((c, k), rest)) e ∙ bind_is (code_kind c) kind (λ k. Some ((c, k), rest)) h

stepped_same : (g h : List ℕ → Option (List ℕ)) → ((b : List ℕ) → g b ≡ h b) → (n : ℕ) (bytes : List ℕ) → stepped g n bytes ≡ stepped h n bytes
stepped_same g h same zero bytes = refl
stepped_same g h same (suc n) bytes = ap (λ (z : Option (List ℕ)). z >>= g) (stepped_same g h same n bytes) ∙ last (stepped h n bytes)
  where
    last : (r : Option (List ℕ)) → (r >>= g) ≡ (r >>= h)
    last (Some x) = same x
    last None = refl

elements_are : (c : ScalarCode) (layout : Layout) (d : ℕ) → layout_of c ≡ layout → (b : List ℕ) → past (element_at c d b) ≡ element_past d layout b
elements_are c layout d e b = element_is_past c d b ∙ ap (λ (z : Layout). element_past d z b) e

pub array_none : (d : ℕ) (w : SizeWidth) (n b : ℕ) (layout : Layout) (rest content after elements : List ℕ) → array_at d w rest ≡ None → block_at w rest ≡ Some (content, after) → size_at w content ≡ Some (n, b ∷ elements) → element_layout b ≡ Some layout
    → Unfilled (element_past d layout) n elements
unfolding array_at elements_in
array_none d w n b layout rest content after elements none block size laid h =
    let c = layout_some (find_scalar b) layout laid in
    let k = kind_of_wide c.0 layout c.2 in
    let all : past (items_at (element_at c.0 d) n elements) ≡ Some [] =
    items_past (element_at c.0 d) n elements ∙ stepped_same (λ b. past (element_at c.0 d b)) (element_past d layout) (elements_are c.0 layout d k.laid) n elements ∙ h in
    let p = past_some (items_at (element_at c.0 d) n elements) [] all in
    let made : elements_in d w content ≡ Some (array k.kind p.0) =
    bind_is (size_at w content) (n, b ∷ elements) (λ x. constructor_at x.1 >>= λ c. items_at (element_at c.0.0 d) x.0 c.1 >>= λ vs. only vs >>= λ es. Some (array c.0.1 es)) size
    ∙ bind_is (constructor_at (b ∷ elements)) ((c.0, k.kind), elements) (λ c. items_at (element_at c.0.0 d) n c.1 >>= λ vs. only vs >>= λ es. Some (array c.0.1 es)) (constructor_is b elements c.0 k.kind c.1 k.kinded)
    ∙ bind_is (items_at (element_at c.0 d) n elements) (p.0, []) (λ vs. only vs >>= λ es. Some (array k.kind es)) p.1 in
    let there : array_at d w rest ≡ Some (array k.kind p.0, after) =
    bind_is (block_at w rest) (content, after) (λ s. elements_in d w s.0 >>= λ a. Some (a, s.1)) block ∙ bind_is (elements_in d w content) (array k.kind p.0) (λ a. Some (a, after)) made in
    none-some (array k.kind p.0, after) (sym none ∙ there)

pub none_in : (d : ℕ) (form : Form) (w : Width) (n : ℕ) (rest content after parts : List ℕ) → NoneBehind d form rest → width_in form ≡ Some w → block_at (size_width w) rest ≡ Some (content, after) → size_at (size_width w) content ≡ Some (n, parts) → NoneIn d form n parts
none_in d f.Described w n rest content after parts none e block size = absurd cc
none_in d f.EmptyList w n rest content after parts none e block size = absurd cc
none_in d (f.List v) w n rest content after parts none e block size =
    let same : v ≡ w = cc in
    list_none (value_at d) (size_width w) n rest content after parts (subst (λ (z : Width). list_at (value_at d) (size_width z) rest ≡ None) same none) block size
none_in d (f.Map v) w n rest content after parts none e block size = λ m even ps pairs new.
    let same : v ≡ w = cc in
    map_none (value_at d) (size_width w) n m rest content after parts ps (subst (λ (z : Width). map_at (value_at d) (size_width z) rest ≡ None) same none) block size even pairs new
none_in d (f.Array v) w n rest content after parts none e block size = λ b layout elements is laid.
    let same : v ≡ w = cc in
    array_none d (size_width w) n b layout rest content after elements (subst (λ (z : Width). array_at d (size_width z) rest ≡ None) same none) block (size ∙ ap (λ (z : List ℕ). Some (n, z)) is) laid
none_in d (f.Scalar l) w n rest content after parts none e block size = absurd cc
