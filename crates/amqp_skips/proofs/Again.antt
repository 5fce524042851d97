-- What is spelled so is passed, whatever follows.
use Rattle.std.proofs.Common.{◌≡◌, ℕ, zero, suc, ◌*◌, ◌/◌, ◌%◌, ◌<◌, ◌≤◌, List, [], ◌∷◌, ◌++◌, length, Option, Some, None, refl, sym, ap, ◌∙◌, append_assoc, arith}
use Rattle.std.proofs.lemmas.List.{append-nil}
use Rattle.amqp_data.specs.declared.kind.ElementKind.{ElementKind}
use Rattle.amqp_data.specs.Data.{Items, count, items_depth}
use Rattle.amqp_value.specs.declared.code.SizeWidth.{SizeWidth}
use Rattle.amqp_value.specs.declared.code.SizeWidth.TheVariants.{One, Four}
use Rattle.amqp_value.specs.declared.code.ScalarCode.{ScalarCode}
use Rattle.amqp_value.specs.declared.code.ScalarCode.TheVariants as c
use Rattle.amqp_value.specs.declared.code.Code.{Code}
use Rattle.amqp_value.specs.declared.code.Code.TheVariants as code
use Rattle.amqp_value.specs.Code.{limit, block, content, scalar_number, number, find_code, find_scalar, code_kind}
use Rattle.amqp_value.specs.Grammar.{LaysAll}
use Rattle.amqp_value.specs.Reading.{◌>>=◌, half, items_at, element_at, code_at, constructor_at}
use Rattle.amqp_value.proofs.Numbers.{bind_some, some_is, sizes, block_again}
use Rattle.amqp_value.proofs.Codes.{code_again, constructor_again}
use Rattle.amqp_value.proofs.ScalarsRead.{scalar_again}
use Rattle.amqp_value.proofs.ElementsRead.{elements_again}
use Rattle.amqp_faults.specs.declared.form.Form.{Form}
use Rattle.amqp_faults.specs.declared.form.Form.TheVariants as f
use Rattle.amqp_faults.specs.Forms.{size_width, width_of, form_of, layout_of, wide}
use Rattle.amqp_faults.specs.Faults.{past, element_past, stepped}
use Rattle.amqp_faults.proofs.Steps.{stepped_first, items_past}
use Rattle.amqp_faults.proofs.Layouts.{scalar_past, element_is_past}
use Rattle.amqp_skips.specs.Skipped.{elements_past, parts_past, block_past, form_past, skipped}
use Rattle.amqp_skips.specs.Spelling.{IsSpelling, of_scalar, of_empty_list, of_list, of_map, of_array, of_described, AreSpellings, no_more, one_more}

-- ---- constructors

abbrev with_rest : List ℕ → Code → Option (Code × List ℕ)
with_rest bytes m = Some (m, bytes)

found_code : (r : Option Code) (k : Code) (bytes : List ℕ) → (r >>= with_rest bytes) ≡ Some (k, bytes) → r ≡ Some k
found_code (Some m) k bytes e = ap (λ (x : Code × List ℕ). Some x.0) (some_is (m, bytes) (k, bytes) e)
found_code None k bytes e = absurd cc

find_again : (k : Code) → find_code (number k) ≡ Some k
unfolding code_at
find_again k = found_code (find_code (number k)) k [] (code_again k [])

begins : (d : ℕ) (k : Code) (bytes : List ℕ) → skipped (suc d) (number k ∷ bytes) ≡ form_past (skipped d) d (form_of k) bytes
unfolding skipped
begins d k bytes = rw (find_again k) refl

pub width_again : (w : SizeWidth) → size_width (width_of w) ≡ w
width_again One = refl
width_again Four = refl

-- ---- blocks

filled : (inner : List ℕ → Option (List ℕ)) (d : ℕ) (form : Form) (w : SizeWidth) (n : ℕ) (parts rest : List ℕ) → n < limit w → length (content w n parts) < limit w → parts_past inner d form n parts ≡ Some []
    → block_past inner d form (width_of w) (block w (content w n parts) ++ rest) ≡ Some rest
filled inner d form w n parts rest few fits h = rw (width_again w, block_again w (content w n parts) rest fits, (sizes w).again n parts few, h) refl

abbrev Again : ℕ → Type 0
Again d = (text rest : List ℕ) → IsSpelling d text → skipped d (text ++ rest) ≡ Some rest

parts_again : (d : ℕ) → Again d → {n : ℕ} {text : List ℕ} (rest : List ℕ) → AreSpellings d n text → stepped (skipped d) n (text ++ rest) ≡ Some rest
parts_again d h rest (no_more e) = refl
parts_again d h rest (one_more e n a b s all) =
    let first : skipped d (a ++ (b ++ rest)) ≡ Some (b ++ rest) = h a (b ++ rest) s in
    ap (stepped (skipped d) (suc n)) (append_assoc a b rest) ∙ stepped_first (skipped d) n (a ++ (b ++ rest)) ∙ rw first (parts_again d h rest all)

all_again : (d : ℕ) → Again d → (n : ℕ) (text : List ℕ) → AreSpellings d n text → stepped (skipped d) n text ≡ Some []
all_again d h n text all = ap (stepped (skipped d) n) (sym (append-nil text)) ∙ parts_again d h [] all

half_again : (m : ℕ) → half (2 * m) ≡ Some m
half_again m =
    let even : (2 * m) % 2 ≡ 0 = omega arith in
    let whole : (2 * m) / 2 ≡ m = omega arith in
    rw (even, whole) refl

-- ---- elements

stepped_same : (g h : List ℕ → Option (List ℕ)) → ((b : List ℕ) → g b ≡ h b) → (n : ℕ) (bytes : List ℕ) → stepped g n bytes ≡ stepped h n bytes
stepped_same g h same zero bytes = refl
stepped_same g h same (suc n) bytes = ap (λ (z : Option (List ℕ)). z >>= g) (stepped_same g h same n bytes) ∙ last (stepped h n bytes)
  where
    last : (r : Option (List ℕ)) → (r >>= g) ≡ (r >>= h)
    last (Some x) = same x
    last None = refl

-- an element behind a constructor with a kind takes a byte or more
wide_again : (c : ScalarCode) (k : ElementKind) → code_kind c ≡ Some k → wide (layout_of c) ≡ Some (layout_of c)
wide_again c.Null k e = absurd cc
wide_again c.True k e = absurd cc
wide_again c.False k e = absurd cc
wide_again c.Boolean k e = refl
wide_again c.Ubyte k e = refl
wide_again c.Ushort k e = refl
wide_again c.Uint0 k e = absurd cc
wide_again c.SmallUint k e = refl
wide_again c.Uint k e = refl
wide_again c.Ulong0 k e = absurd cc
wide_again c.SmallUlong k e = refl
wide_again c.Ulong k e = refl
wide_again c.Byte k e = refl
wide_again c.Short k e = refl
wide_again c.SmallInt k e = refl
wide_again c.Int k e = refl
wide_again c.SmallLong k e = refl
wide_again c.Long k e = refl
wide_again c.Char k e = refl
wide_again c.Timestamp k e = refl
wide_again c.Uuid k e = refl
wide_again (c.Binary w) k e = refl
wide_again (c.String w) k e = refl
wide_again (c.Symbol w) k e = refl

abbrev with_kind : List ℕ → ScalarCode → ElementKind → Option ((ScalarCode × ElementKind) × List ℕ)
with_kind bytes m l = Some ((m, l), bytes)

found_scalar : (r : Option ScalarCode) (c : ScalarCode) (k : ElementKind) (bytes : List ℕ) → (r >>= λ m. code_kind m >>= with_kind bytes m) ≡ Some ((c, k), bytes) → r ≡ Some c
found_scalar (Some m) c k bytes e =
    let l = bind_some (code_kind m) (with_kind bytes m) ((c, k), bytes) e in
    ap (λ (x : (ScalarCode × ElementKind) × List ℕ). Some x.0.0) (some_is ((m, l.0), bytes) ((c, k), bytes) l.2)
found_scalar None c k bytes e = absurd cc

scalar_found : (c : ScalarCode) (k : ElementKind) → code_kind c ≡ Some k → find_scalar (scalar_number c) ≡ Some c
unfolding constructor_at
scalar_found c k e = found_scalar (find_scalar (scalar_number c)) c k [] (constructor_again c k [] e)

elements_are : (d : ℕ) (c : ScalarCode) (k : ElementKind) (vs : Items) (elements : List ℕ) → code_kind c ≡ Some k → LaysAll c elements vs → items_depth vs ≤ d → elements_past d (count vs) (scalar_number c ∷ elements) ≡ Some []
elements_are d c k vs elements e all le =
    let read : items_at (element_at c d) (count vs) elements ≡ Some (vs, []) = ap (items_at (element_at c d) (count vs)) (sym (append-nil elements)) ∙ elements_again d [] all le in
    let steps : stepped (element_past d (layout_of c)) (count vs) elements ≡ Some [] =
    sym (stepped_same (λ b. past (element_at c d b)) (element_past d (layout_of c)) (element_is_past c d) (count vs) elements) ∙ sym (items_past (element_at c d) (count vs) elements) ∙ ap past read in
    rw (scalar_found c k e, wide_again c k e) steps

-- ---- every spelling

pub skipped_again : (d : ℕ) {text : List ℕ} (rest : List ℕ) → IsSpelling d text → skipped d (text ++ rest) ≡ Some rest
skipped_again zero {text = text} rest s = elim s [ ]
skipped_again (suc d) rest (of_scalar e c text s l) = begins d (code.Scalar c) (text ++ rest) ∙ sym (scalar_past c (text ++ rest)) ∙ ap past (scalar_again rest l)
skipped_again (suc d) rest (of_empty_list e) = begins d code.EmptyList rest
skipped_again (suc d) rest (of_list e w n items all few fits) =
    begins d (code.List w) (block w (content w n items) ++ rest) ∙ filled (skipped d) d (f.List (width_of w)) w n items rest few fits (all_again d (λ t r s. skipped_again d r s) n items all)
skipped_again (suc d) rest (of_map e w n items all few fits) =
    let parts : parts_past (skipped d) d (f.Map (width_of w)) (2 * n) items ≡ Some [] = rw (half_again n) (all_again d (λ t r s. skipped_again d r s) (2 * n) items all) in
    begins d (code.Map w) (block w (content w (2 * n) items) ++ rest) ∙ filled (skipped d) d (f.Map (width_of w)) w (2 * n) items rest few fits parts
skipped_again (suc d) rest (of_array e w k c vs elements kind all le few fits) =
    begins d (code.Array w) (block w (content w (count vs) (scalar_number c ∷ elements)) ++ rest)
    ∙ filled (skipped d) d (f.Array (width_of w)) w (count vs) (scalar_number c ∷ elements) rest few fits (elements_are d c k vs elements kind all le)
skipped_again (suc d) rest (of_described e a b s t) =
    let first : skipped d (a ++ (b ++ rest)) ≡ Some (b ++ rest) = skipped_again d (b ++ rest) s in
    let second : skipped d (b ++ rest) ≡ Some rest = skipped_again d rest t in
    begins d code.Described ((a ++ b) ++ rest) ∙ ap (λ (z : List ℕ). skipped d z >>= skipped d) (append_assoc a b rest) ∙ rw first second

pub all_skipped : (d n : ℕ) {text : List ℕ} (rest : List ℕ) → AreSpellings d n text → stepped (skipped d) n (text ++ rest) ≡ Some rest
all_skipped d n rest all = parts_again d (λ t r s. skipped_again d r s) rest all
