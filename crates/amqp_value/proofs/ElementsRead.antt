-- The elements of an array: what is read is laid so, and what is laid so is read.
use Rattle.std.proofs.Common.{◌≡◌, ℕ, zero, suc, ◌<◌, ◌≤◌, List, [], ◌++◌, Some, refl, sym, ap, subst, ◌∙◌, append_assoc, arith}
use Rattle.std.proofs.lemmas.Option.{none-some}
use Rattle.amqp_data.specs.declared.kind.ElementKind.{ElementKind}
use Rattle.amqp_data.specs.Data.{Scalar, Amqp, Items, scalar, no_items, item, count, depth, items_depth, AreOfKind}
use Rattle.amqp_value.specs.declared.code.SizeWidth.{SizeWidth}
use Rattle.amqp_value.specs.declared.code.ScalarCode.{ScalarCode}
use Rattle.amqp_value.specs.Code.{code_kind}
use Rattle.amqp_value.specs.Grammar.{LaysAll, no_elements, more_elements}
use Rattle.amqp_value.specs.Reading.{◌>>=◌, size_at, scalar_at, items_at, element_at, constructor_at}
use Rattle.amqp_value.proofs.Numbers.{IsBytes, bind_some, some_is, sizes}
use Rattle.amqp_value.proofs.Codes.{constructor_takes}
use Rattle.amqp_value.proofs.ScalarsRead.{TookScalar, scalar_sound, scalar_again, lays_kind}

record TookElement (c : ScalarCode) (d : ℕ) (bytes : List ℕ) (v : Amqp) (rest : List ℕ) : Type 0 where
  found : Scalar
  is : v ≡ scalar found
  took : TookScalar c bytes found rest
  within : 0 < d

element_sound : (c : ScalarCode) (d : ℕ) (bytes : List ℕ) (x : Amqp × List ℕ) → IsBytes bytes → element_at c d bytes ≡ Some x → TookElement c d bytes x.0 x.1
unfolding element_at
element_sound c zero bytes x fits e = absurd (none-some x e)
element_sound c (suc d) bytes x fits e =
    let a = bind_some (scalar_at c bytes) (λ y. Some (scalar y.0, y.1)) x e in
    subst (λ (y : Amqp × List ℕ). TookElement c (suc d) bytes y.0 y.1) (some_is (scalar a.0.0, a.0.1) x a.2) (record { found = a.0.0; is = refl; took = scalar_sound c bytes a.0 fits a.1; within = omega arith })

pub record TookElements (c : ScalarCode) (d n : ℕ) (bytes : List ℕ) (vs : Items) (rest : List ℕ) : Type 0 where
  pub text : List ℕ
  pub parts : bytes ≡ text ++ rest
  pub spelled : LaysAll c text vs
  pub counted : count vs ≡ n
  pub within : items_depth vs ≤ d
  pub rest_fits : IsBytes rest

pub elements_sound : (c : ScalarCode) (d n : ℕ) (bytes : List ℕ) (x : Items × List ℕ) → IsBytes bytes → items_at (element_at c d) n bytes ≡ Some x → TookElements c d n bytes x.0 x.1
unfolding items_at
elements_sound c d zero bytes x fits e =
    subst (λ (y : Items × List ℕ). TookElements c d 0 bytes y.0 y.1) (some_is (no_items, bytes) x e) (record { text = []; parts = refl; spelled = no_elements c; counted = refl; within = omega arith; rest_fits = fits })
elements_sound c d (suc n) bytes x fits e =
    let a = bind_some (element_at c d bytes) (λ v. items_at (element_at c d) n v.1 >>= λ vs. Some (item v.0 vs.0, vs.1)) x e in
    let b = bind_some (items_at (element_at c d) n a.0.1) (λ vs. Some (item a.0.0 vs.0, vs.1)) x a.2 in
    let t = element_sound c d bytes a.0 fits a.1 in
    let u = elements_sound c d n a.0.1 b.0 t.took.rest_fits b.1 in
    let made : Items × List ℕ = (item a.0.0 b.0.0, b.0.1) in
    let deep : depth a.0.0 ≡ 1 = ap depth t.is in
    subst (λ (y : Items × List ℕ). TookElements c d (suc n) bytes y.0 y.1) (some_is made x b.2) (record {
      text = t.took.text ++ u.text;
      parts = t.took.parts ∙ ap (λ (z : List ℕ). t.took.text ++ z) u.parts ∙ sym (append_assoc t.took.text u.text b.0.1);
      spelled = subst (λ (z : Amqp). LaysAll c (t.took.text ++ u.text) (item z b.0.0)) (sym t.is) (more_elements c t.found b.0.0 t.took.text u.text t.took.spelled u.spelled);
      counted = ap suc u.counted;
      within = omega (arith, deep, t.within, u.within);
      rest_fits = u.rest_fits;
    })

pub all_of_kind : {c : ScalarCode} {text : List ℕ} {vs : Items} (k : ElementKind) → LaysAll c text vs → code_kind c ≡ Some k → AreOfKind k vs
all_of_kind k (no_elements c) e = tt
all_of_kind k (more_elements c s vs first rest l all) e = (lays_kind k l e, all_of_kind k all e)

pub elements_again : (d : ℕ) {c : ScalarCode} {text : List ℕ} {vs : Items} (rest : List ℕ) → LaysAll c text vs → items_depth vs ≤ d → items_at (element_at c d) (count vs) (text ++ rest) ≡ Some (vs, rest)
unfolding items_at element_at
elements_again d rest (no_elements c) le = refl
elements_again zero rest (more_elements c s vs first others l all) le = absurd (omega (arith, le))
elements_again (suc d) rest (more_elements c s vs first others l all) le =
    let read : items_at (element_at c (suc d)) (count vs) (others ++ rest) ≡ Some (vs, rest) = elements_again (suc d) rest all (omega (arith, le)) in
    ap (items_at (element_at c (suc d)) (suc (count vs))) (append_assoc first others rest) ∙ rw (scalar_again (others ++ rest) l, read) refl

-- the elements of an array that is read are of the kind that their constructor says
pub never_mixed : (w : SizeWidth) (d n : ℕ) (c : ScalarCode) (k : ElementKind) (vs : Items) (bytes first second rest : List ℕ) → IsBytes bytes → size_at w bytes ≡ Some (n, first) → constructor_at first ≡ Some ((c, k), second)
    → items_at (element_at c d) n second ≡ Some (vs, rest) → AreOfKind k vs
never_mixed w d n c k vs bytes first second rest fits e f g =
    let t = (sizes w).takes bytes n first fits e in
    let u = constructor_takes first ((c, k), second) t.0.rest_fits f in
    let v = elements_sound c d n second (vs, rest) u.takes.rest_fits g in
    all_of_kind k v.spelled u.kind
