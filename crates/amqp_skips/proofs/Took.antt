-- What was passed is spelled so.
use Rattle.std.proofs.Common.{◌≡◌, ℕ, zero, suc, ◌*◌, ◌/◌, ◌%◌, ◌<◌, eqb, List, [], ◌∷◌, ◌++◌, length, Option, Some, None, refl, sym, ap, subst, ◌∙◌, append_assoc, arith}
use Rattle.std.proofs.lemmas.Bool.{eqb-true}
use Rattle.std.proofs.lemmas.List.{append-nil, nil_from_length}
use Rattle.std.proofs.lemmas.Option.{cond_some, none-some}
use Rattle.std.specs.Prelude.{option_map}
use Rattle.amqp_data.specs.Data.{Amqp}
use Rattle.amqp_value.specs.declared.code.SizeWidth.{SizeWidth}
use Rattle.amqp_value.specs.declared.code.Code.{Code}
use Rattle.amqp_value.specs.declared.code.Code.TheVariants as code
use Rattle.amqp_value.specs.Code.{limit, block, content, number, list_number, map_number, find_code}
use Rattle.amqp_value.specs.Reading.{◌>>=◌, size_at, block_at, only, half, code_at, value_at}
use Rattle.amqp_value.proofs.Numbers.{IsBytes, Takes, bind_some, some_is, sizes, block_takes}
use Rattle.amqp_value.proofs.Codes.{code_takes}
use Rattle.amqp_value.proofs.Sound.{value_sound}
use Rattle.amqp_faults.specs.declared.form.Layout.{Layout}
use Rattle.amqp_faults.specs.declared.form.Form.{Form}
use Rattle.amqp_faults.specs.declared.form.Form.TheVariants as f
use Rattle.amqp_faults.specs.Forms.{size_width, width_of, form_of, element_layout}
use Rattle.amqp_faults.specs.Faults.{element_past, stepped}
use Rattle.amqp_faults.specs.Sees.{NoneBehind}
use Rattle.amqp_faults.proofs.Steps.{stepped_first}
use Rattle.amqp_faults.proofs.Behind.{behind_none, none_in}
use Rattle.amqp_skips.specs.Skipped.{elements_past, parts_past, block_past, form_past, skipped}
use Rattle.amqp_skips.specs.Spelling.{IsSpelling, of_empty_list, of_list, of_map, of_described, AreSpellings, no_more, one_more}
use Rattle.amqp_skips.proofs.Law.{value_kept}
use Rattle.amqp_skips.proofs.Again.{skipped_again, width_again}

-- what was passed is a spelling
pub record Passed (d : ℕ) (bytes rest : List ℕ) : Type 0 where
  pub text : List ℕ
  pub parts : bytes ≡ text ++ rest
  pub spelling : IsSpelling d text
  pub rest_fits : IsBytes rest

abbrev Sound : ℕ → Type 0
Sound d = (bytes rest : List ℕ) → IsBytes bytes → skipped d bytes ≡ Some rest → Passed d bytes rest

-- ---- parts one after another

pub record PassedAll (d n : ℕ) (bytes rest : List ℕ) : Type 0 where
  pub text : List ℕ
  pub parts : bytes ≡ text ++ rest
  pub spellings : AreSpellings d n text
  pub rest_fits : IsBytes rest

none_passed : (d : ℕ) (bytes rest : List ℕ) → IsBytes bytes → bytes ≡ rest → PassedAll d 0 bytes rest
none_passed d bytes rest fits e = record { text = []; parts = e; spellings = no_more d; rest_fits = subst IsBytes e fits }

one_passed : (d n : ℕ) (bytes mid rest : List ℕ) → Passed d bytes mid → PassedAll d n mid rest → PassedAll d (suc n) bytes rest
one_passed d n bytes mid rest p q = record {
  text = p.text ++ q.text;
  parts = p.parts ∙ ap (λ (z : List ℕ). p.text ++ z) q.parts ∙ sym (append_assoc p.text q.text rest);
  spellings = one_more d n p.text q.text p.spelling q.spellings;
  rest_fits = q.rest_fits;
}

parts_sound : (d : ℕ) → Sound d → (n : ℕ) (bytes rest : List ℕ) → IsBytes bytes → stepped (skipped d) n bytes ≡ Some rest → PassedAll d n bytes rest
parts_sound d h zero bytes rest fits e = none_passed d bytes rest fits (some_is bytes rest e)
parts_sound d h (suc n) bytes rest fits e =
    let a = bind_some (skipped d bytes) (stepped (skipped d) n) rest (sym (stepped_first (skipped d) n bytes) ∙ e) in
    let p = h bytes a.0 fits a.1 in
    one_passed d n bytes a.0 rest p (parts_sound d h n a.0 rest p.rest_fits a.2)

-- ---- blocks

only_is : (s left rest : List ℕ) → only (s, left) ≡ Some rest → (left ≡ []) × (s ≡ rest)
only_is s left rest e = let g = cond_some (eqb (length left) 0) s rest e in (nil_from_length left (eqb-true _ _ g.0), g.1)

half_is : (n m : ℕ) → half n ≡ Some m → n ≡ 2 * m
half_is n m e =
    let g = cond_some (eqb (n % 2) 0) (n / 2) m e in
    let even : n % 2 ≡ 0 = eqb-true _ _ g.0 in
    omega (arith, even, g.1)

-- a block whose parts were passed
record PassedBlock (d : ℕ) (form : Form) (w : SizeWidth) (bytes rest : List ℕ) : Type 0 where
  n : ℕ
  parts : List ℕ
  few : n < limit w
  fits : length (content w n parts) < limit w
  taken : bytes ≡ block w (content w n parts) ++ rest
  passed : parts_past (skipped d) d form n parts ≡ Some []
  parts_fit : IsBytes parts
  rest_fits : IsBytes rest

block_sound : (d : ℕ) (form : Form) (w : SizeWidth) (bytes rest : List ℕ) → IsBytes bytes → block_past (skipped d) d form (width_of w) bytes ≡ Some rest → PassedBlock d form w bytes rest
block_sound d form w bytes rest fits e =
    let same = width_again w in
    let a = bind_some (block_at (size_width (width_of w)) bytes) (λ s. size_at (size_width (width_of w)) s.0 >>= λ n. parts_past (skipped d) d form n.0 n.1 >>= λ left. only (s.1, left)) rest e in
    let b = bind_some (size_at (size_width (width_of w)) a.0.0) (λ n. parts_past (skipped d) d form n.0 n.1 >>= λ left. only (a.0.1, left)) rest a.2 in
    let c = bind_some (parts_past (skipped d) d form b.0.0 b.0.1) (λ left. only (a.0.1, left)) rest b.2 in
    let o = only_is a.0.1 c.0 rest c.2 in
    let t = block_takes w bytes a.0 fits (ap (λ (z : SizeWidth). block_at z bytes) (sym same) ∙ a.1) in
    let s = (sizes w).takes a.0.0 b.0.0 b.0.1 t.fits (ap (λ (z : SizeWidth). size_at z a.0.0) (sym same) ∙ b.1) in
    record {
      n = b.0.0;
      parts = b.0.1;
      few = s.1;
      fits = subst (λ (z : List ℕ). length z < limit w) s.0.parts t.short;
      taken = t.takes.parts ∙ ap (λ (z : List ℕ). block w z ++ a.0.1) s.0.parts ∙ ap (λ (z : List ℕ). block w (content w b.0.0 b.0.1) ++ z) o.1;
      passed = c.1 ∙ ap (λ (z : List ℕ). Some z) o.0;
      parts_fit = s.0.rest_fits;
      rest_fits = subst IsBytes o.1 t.takes.rest_fits;
    }

all_of : (d n : ℕ) (bytes : List ℕ) → PassedAll d n bytes [] → AreSpellings d n bytes
all_of d n bytes p = subst (λ (z : List ℕ). AreSpellings d n z) (sym (p.parts ∙ append-nil p.text)) p.spellings

list_sound : (d : ℕ) → Sound d → (w : SizeWidth) (bytes rest : List ℕ) → PassedBlock d (f.List (width_of w)) w bytes rest → Passed (suc d) (list_number w ∷ bytes) rest
list_sound d h w bytes rest b = record {
  text = list_number w ∷ block w (content w b.n b.parts);
  parts = ap (λ (z : List ℕ). list_number w ∷ z) b.taken;
  spelling = of_list d w b.n b.parts (all_of d b.n b.parts (parts_sound d h b.n b.parts [] b.parts_fit b.passed)) b.few b.fits;
  rest_fits = b.rest_fits;
}

map_sound : (d : ℕ) → Sound d → (w : SizeWidth) (bytes rest : List ℕ) → PassedBlock d (f.Map (width_of w)) w bytes rest → Passed (suc d) (map_number w ∷ bytes) rest
map_sound d h w bytes rest b =
    let m = bind_some (half b.n) (λ m. stepped (skipped d) b.n b.parts) [] b.passed in
    let even : b.n ≡ 2 * m.0 = half_is b.n m.0 m.1 in
    let all : AreSpellings d b.n b.parts = all_of d b.n b.parts (parts_sound d h b.n b.parts [] b.parts_fit m.2) in
    record {
      text = map_number w ∷ block w (content w (2 * m.0) b.parts);
      parts = ap (λ (z : List ℕ). map_number w ∷ z) (b.taken ∙ ap (λ (z : ℕ). block w (content w z b.parts) ++ rest) even);
      spelling = of_map d w m.0 b.parts (subst (λ (z : ℕ). AreSpellings d z b.parts) even all) (subst (λ (z : ℕ). z < limit w) even b.few) (subst (λ (z : ℕ). length (content w z b.parts) < limit w) even b.fits);
      rest_fits = b.rest_fits;
    }

-- ---- what is read as a value

read_sound : (d : ℕ) (bytes rest : List ℕ) → IsBytes bytes → skipped d bytes ≡ Some rest → (value_at d bytes ≡ None → ⊥) → Passed d bytes rest
read_sound d bytes rest fits e h = of_read (value_at d bytes) refl
  where
    of_read : (r : Option (Amqp × List ℕ)) → value_at d bytes ≡ r → Passed d bytes rest
    of_read None is = absurd (h is)
    of_read (Some x) is =
        let t = value_sound d bytes x fits is in
        let spelling : IsSpelling d t.text = value_kept d t.spelled t.within in
        let same : x.1 ≡ rest = some_is x.1 rest (sym (skipped_again d x.1 spelling) ∙ ap (skipped d) (sym t.parts) ∙ e) in
        record { text = t.text; parts = t.parts ∙ ap (λ (z : List ℕ). t.text ++ z) same; spelling = spelling; rest_fits = subst IsBytes same t.rest_fits }

abbrev NoElements : ℕ → ℕ → List ℕ → Type 0
NoElements d n parts = (b : ℕ) (l : Layout) (rest : List ℕ) → parts ≡ b ∷ rest → element_layout b ≡ Some l → stepped (element_past d l) n rest ≡ Some [] → ⊥

elements_here : (d n : ℕ) (parts : List ℕ) → elements_past d n parts ≡ Some [] → NoElements d n parts → ⊥
elements_here d n [] e h = absurd cc
elements_here d n (b ∷ rest) e h = let l = bind_some (element_layout b) (λ l. stepped (element_past d l) n rest) [] e in h b l.0 rest refl l.1 l.2

-- ---- every spelling

described_sound : (d : ℕ) → Sound d → (bytes rest : List ℕ) → IsBytes bytes → (skipped d bytes >>= skipped d) ≡ Some rest → Passed (suc d) (0 ∷ bytes) rest
described_sound d h bytes rest fits e =
    let a = bind_some (skipped d bytes) (skipped d) rest e in
    let p = h bytes a.0 fits a.1 in
    let q = h a.0 rest p.rest_fits a.2 in
    record {
      text = 0 ∷ (p.text ++ q.text);
      parts = ap (λ (z : List ℕ). 0 ∷ z) (p.parts ∙ ap (λ (z : List ℕ). p.text ++ z) q.parts ∙ sym (append_assoc p.text q.text rest));
      spelling = of_described d p.text q.text p.spelling q.spelling;
      rest_fits = q.rest_fits;
    }

-- a constructor that was found
record Found (b : ℕ) (form : Form) : Type 0 where
  k : Code
  is : find_code b ≡ Some k
  formed : form_of k ≡ form

found : (b : ℕ) (r : Option Code) (form : Form) → find_code b ≡ r → option_map form_of r ≡ Some form → Found b form
found b (Some k) form is e = record { k = k; is = is; formed = some_is (form_of k) form e }
found b None form is e = absurd cc

-- the byte of the constructor, and the bytes behind it
taken : (b : ℕ) (k : Code) (bytes : List ℕ) → IsBytes (b ∷ bytes) → find_code b ≡ Some k → Takes (b ∷ bytes) (number k ∷ []) bytes
unfolding code_at
taken b k bytes fits e = code_takes (b ∷ bytes) (k, bytes) fits (ap (λ (z : Option Code). z >>= λ m. Some (m, bytes)) e)

array_read : (d : ℕ) (w : SizeWidth) (bytes rest : List ℕ) → NoneBehind d (f.Array (width_of w)) bytes → block_past (skipped d) d (f.Array (width_of w)) (width_of w) bytes ≡ Some rest → ⊥
array_read d w bytes rest none e =
    let a = bind_some (block_at (size_width (width_of w)) bytes) (λ s. size_at (size_width (width_of w)) s.0 >>= λ n. elements_past d n.0 n.1 >>= λ left. only (s.1, left)) rest e in
    let b = bind_some (size_at (size_width (width_of w)) a.0.0) (λ n. elements_past d n.0 n.1 >>= λ left. only (a.0.1, left)) rest a.2 in
    let c = bind_some (elements_past d b.0.0 b.0.1) (λ left. only (a.0.1, left)) rest b.2 in
    let o = only_is a.0.1 c.0 rest c.2 in
    elements_here d b.0.0 b.0.1 (c.1 ∙ ap (λ (z : List ℕ). Some z) o.0) (none_in d (f.Array (width_of w)) (width_of w) b.0.0 bytes a.0.0 a.0.1 b.0.1 none refl a.1 b.1)

behind_sound : (d : ℕ) → Sound d → (k : Code) (bytes rest : List ℕ) → IsBytes bytes → form_past (skipped d) d (form_of k) bytes ≡ Some rest → ((NoneBehind d (form_of k) bytes → ⊥) → Passed (suc d) (number k ∷ bytes) rest) → Passed (suc d) (number k ∷ bytes) rest
behind_sound d h code.Described bytes rest fits e read = described_sound d h bytes rest fits e
behind_sound d h code.EmptyList bytes rest fits e read =
    let same : bytes ≡ rest = some_is bytes rest e in
    record { text = 0x45 ∷ []; parts = ap (λ (z : List ℕ). 0x45 ∷ z) same; spelling = of_empty_list d; rest_fits = subst IsBytes same fits }
behind_sound d h (code.List w) bytes rest fits e read = list_sound d h w bytes rest (block_sound d (f.List (width_of w)) w bytes rest fits e)
behind_sound d h (code.Map w) bytes rest fits e read = map_sound d h w bytes rest (block_sound d (f.Map (width_of w)) w bytes rest fits e)
behind_sound d h (code.Array w) bytes rest fits e read = read (λ none. array_read d w bytes rest none e)
behind_sound d h (code.Scalar c) bytes rest fits e read = read (λ none. none-some rest (sym none ∙ e))

pub skipped_sound : (d : ℕ) (bytes rest : List ℕ) → IsBytes bytes → skipped d bytes ≡ Some rest → Passed d bytes rest
unfolding skipped
skipped_sound zero bytes rest fits e = absurd cc
skipped_sound (suc d) [] rest fits e = absurd cc
skipped_sound (suc d) (b ∷ bytes) rest fits e =
    let a = bind_some (option_map form_of (find_code b)) (λ form. form_past (skipped d) d form bytes) rest e in
    let k = found b (find_code b) a.0 refl a.1 in
    let t = taken b k.k bytes fits k.is in
    let behind : form_past (skipped d) d (form_of k.k) bytes ≡ Some rest = ap (λ (z : Form). form_past (skipped d) d z bytes) k.formed ∙ a.2 in
    let formed : option_map form_of (find_code b) ≡ Some (form_of k.k) = ap (option_map form_of) k.is in
    subst (λ (z : List ℕ). Passed (suc d) z rest) (sym t.parts)
    (behind_sound d (skipped_sound d) k.k bytes rest t.rest_fits behind (λ some. subst (λ (z : List ℕ). Passed (suc d) z rest) t.parts
    (read_sound (suc d) (b ∷ bytes) rest fits e (λ none. some (behind_none d b bytes (form_of k.k) none formed)))))

pub all_sound : (d n : ℕ) (bytes rest : List ℕ) → IsBytes bytes → stepped (skipped d) n bytes ≡ Some rest → PassedAll d n bytes rest
all_sound d n bytes rest fits e = parts_sound d (skipped_sound d) n bytes rest fits e
