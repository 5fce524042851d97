-- Parts one after another.
use Rattle.std.proofs.Common.{◌≡◌, ℕ, zero, suc, ◌+◌, ◌-◌, ◌<◌, ◌≤◌, Bool, true, false, cond, List, [], ◌∷◌, ◌++◌, length, map, Option, Some, None, refl, sym, ap, ◌∙◌, append_assoc, add-one, arith}
use Rattle.std.proofs.lemmas.Bool.{true≢false}
use Rattle.std.proofs.lemmas.List.{append-nil, map_push}
use Rattle.std.proofs.lemmas.Option.{some_pair_parts}
use Rattle.std.specs.List.{list_any}
use Rattle.amqp_data.specs.Data.{Amqp, Items, Pairs, item, no_pairs, pair}
use Rattle.amqp_data.specs.Same.{same, distinct_after, distinct_keys}
use Rattle.amqp_data.specs.View.{view}
use Rattle.amqp_data.specs.declared.value.Value.{Value}
use Rattle.amqp_value.specs.Reading.{◌>>=◌, Parse, items_at, pairs_at, value_at}
use Rattle.amqp_value.proofs.Numbers.{bind_some}
use Rattle.amqp_faults.specs.Faults.{past, stepped, keys_of}
use Rattle.amqp_faults.specs.Sees.{Unfilled, NoPairs}

-- ---- steps

pub one_step : (step : List ℕ → Option (List ℕ)) (n : ℕ) (bytes left after : List ℕ) → stepped step n bytes ≡ Some left → step left ≡ Some after → stepped step (n + 1) bytes ≡ Some after
one_step step n bytes left after e f = rw (add-one, e) f

some_same : {A : Type 0} (r : Option A) → (r >>= λ x. Some x) ≡ r
some_same (Some x) = refl
some_same None = refl

assoc : {A B C : Type 0} (r : Option A) (f : A → Option B) (g : B → Option C) → ((r >>= f) >>= g) ≡ (r >>= λ x. f x >>= g)
assoc (Some x) f g = refl
assoc None f g = refl

pub stepped_first : (step : List ℕ → Option (List ℕ)) (n : ℕ) (bytes : List ℕ) → stepped step (suc n) bytes ≡ (step bytes >>= stepped step n)
stepped_first step zero bytes = sym (some_same (step bytes))
stepped_first step (suc n) bytes = ap (λ (z : Option (List ℕ)). z >>= step) (stepped_first step n bytes) ∙ assoc (step bytes) (stepped step n) step

past_made : {A B : Type 0} (s : Option (A × List ℕ)) (made : A → B) → past (s >>= λ x. Some (made x.0, x.1)) ≡ past s
past_made (Some x) made = refl
past_made None made = refl

items_from : (inner : Parse Amqp) (n : ℕ) → ((bytes : List ℕ) → past (items_at inner n bytes) ≡ stepped (λ b. past (inner b)) n bytes) → (r : Option (Amqp × List ℕ))
    → past (r >>= λ v. items_at inner n v.1 >>= λ vs. Some (item v.0 vs.0, vs.1)) ≡ (past r >>= stepped (λ b. past (inner b)) n)
items_from inner n h None = refl
items_from inner n h (Some v) = past_made (items_at inner n v.1) (λ vs. item v.0 vs) ∙ h v.1

pub items_past : (inner : Parse Amqp) (n : ℕ) (bytes : List ℕ) → past (items_at inner n bytes) ≡ stepped (λ b. past (inner b)) n bytes
unfolding items_at
items_past inner zero bytes = refl
items_past inner (suc n) bytes = items_from inner n (items_past inner n) (inner bytes) ∙ sym (stepped_first (λ b. past (inner b)) n bytes)

pub some_bytes : (step : List ℕ → Option (List ℕ)) (n : ℕ) (parts : List ℕ) → Unfilled step n parts → stepped step n parts ≡ Some [] → ⊥
some_bytes step n parts h e = h e

-- ---- keys and values

-- a pair more at the end
abbrev pub snoc : Pairs → Amqp → Amqp → Pairs
snoc no_pairs k v = pair k v no_pairs
snoc (pair l w ps) k v = pair l w (snoc ps k v)

bind_is : {A B : Type 0} (r : Option A) (x : A) (g : A → Option B) → r ≡ Some x → (r >>= g) ≡ g x
bind_is r x g e = ap (λ (z : Option _). z >>= g) e

pub pairs_snoc : (inner : Parse Amqp) (i : ℕ) (bytes left after next : List ℕ) (ps : Pairs) (k v : Amqp) → pairs_at inner i bytes ≡ Some (ps, left) → inner left ≡ Some (k, after) → inner after ≡ Some (v, next)
    → pairs_at inner (suc i) bytes ≡ Some (snoc ps k v, next)
unfolding pairs_at
pairs_snoc inner zero bytes left after next ps k v e f g =
    let p = some_pair_parts no_pairs ps bytes left e in
    bind_is (inner bytes) (k, after) (λ x. inner x.1 >>= λ y. Some (pair x.0 y.0 no_pairs, y.1)) (ap inner p.1 ∙ f)
    ∙ bind_is (inner after) (v, next) (λ y. Some (pair k y.0 no_pairs, y.1)) g
    ∙ ap (λ (z : Pairs). Some (snoc z k v, next)) p.0
pairs_snoc inner (suc i) bytes left after next ps k v e f g =
    let a = bind_some (inner bytes) (λ x. inner x.1 >>= λ y. pairs_at inner i y.1 >>= λ z. Some (pair x.0 y.0 z.0, z.1)) (ps, left) e in
    let b = bind_some (inner a.0.1) (λ y. pairs_at inner i y.1 >>= λ z. Some (pair a.0.0 y.0 z.0, z.1)) (ps, left) a.2 in
    let c = bind_some (pairs_at inner i b.0.1) (λ z. Some (pair a.0.0 b.0.0 z.0, z.1)) (ps, left) b.2 in
    let q = some_pair_parts (pair a.0.0 b.0.0 c.0.0) ps c.0.1 left c.2 in
    let ih = pairs_snoc inner i b.0.1 c.0.1 after next c.0.0 k v c.1 (ap inner q.1 ∙ f) g in
    bind_is (inner bytes) a.0 (λ x. inner x.1 >>= λ y. pairs_at inner (suc i) y.1 >>= λ z. Some (pair x.0 y.0 z.0, z.1)) a.1
    ∙ bind_is (inner a.0.1) b.0 (λ y. pairs_at inner (suc i) y.1 >>= λ z. Some (pair a.0.0 y.0 z.0, z.1)) b.1
    ∙ bind_is (pairs_at inner (suc i) b.0.1) (snoc c.0.0 k v, next) (λ z. Some (pair a.0.0 b.0.0 z.0, z.1)) ih
    ∙ ap (λ (z : Pairs). Some (snoc z k v, next)) q.0

keys_snoc : (ps : Pairs) (k v : Amqp) → keys_of (snoc ps k v) ≡ keys_of ps ++ k ∷ []
keys_snoc no_pairs k v = refl
keys_snoc (pair l w ps) k v = ap (λ (z : List Amqp). l ∷ z) (keys_snoc ps k v)

if_true : (b x : Bool) → cond b false x ≡ true → (b ≡ false) × (x ≡ true)
if_true true x e = absurd (true≢false (sym e))
if_true false x e = (refl, e)

distinct_snoc : (seen : List Amqp) (ps : Pairs) (k v : Amqp) → distinct_after seen ps ≡ true → list_any (same k) (seen ++ keys_of ps) ≡ false → distinct_after seen (snoc ps k v) ≡ true
unfolding distinct_after
distinct_snoc seen no_pairs k v e h =
    let none : list_any (same k) seen ≡ false = ap (list_any (same k)) (sym (append-nil seen)) ∙ h in
    rw none refl
distinct_snoc seen (pair l w ps) k v e h =
    let p = if_true (list_any (same l) seen) (distinct_after (seen ++ l ∷ []) ps) e in
    let again : list_any (same k) ((seen ++ l ∷ []) ++ keys_of ps) ≡ false = ap (list_any (same k)) (append_assoc seen (l ∷ []) (keys_of ps)) ∙ h in
    rw (p.0) (distinct_snoc (seen ++ l ∷ []) ps k v p.1 again)

none_twice : distinct_keys no_pairs ≡ true
unfolding distinct_after
none_twice = refl

abbrev pub keys_view : List Value → List Amqp
keys_view ks = map view ks

-- so many keys and values were read, and each key is among those seen
pub record PairsRead (d : ℕ) (parts : List ℕ) (i : ℕ) (seen : List Value) (rest : List ℕ) : Type 0 where
  pub pairs : Pairs
  pub read : pairs_at (value_at d) i parts ≡ Some (pairs, rest)
  pub keys : keys_view seen ≡ keys_of pairs
  pub distinct : distinct_keys pairs ≡ true
  pub shorter : length rest ≤ length parts

pub no_pairs_read : (d : ℕ) (parts : List ℕ) → PairsRead d parts 0 [] parts
unfolding pairs_at
no_pairs_read d parts = record { pairs = no_pairs; read = refl; keys = refl; distinct = none_twice; shorter = omega arith }

any_view : (x : Amqp) (ks : List Value) → list_any (λ k. same x (view k)) ks ≡ list_any (same x) (keys_view ks)
any_view x [] = refl
any_view x (k ∷ ks) = rw (any_view x ks) refl

pub a_pair_more : (d : ℕ) (parts : List ℕ) (i : ℕ) (seen : List Value) (rest after next : List ℕ) (key : Value) (v : Amqp) → PairsRead d parts i seen rest → value_at d rest ≡ Some (view key, after) → value_at d after ≡ Some (v, next) → length next ≤ length rest
    → list_any (λ k. same (view key) (view k)) seen ≡ false → PairsRead d parts (i + 1) (seen ++ key ∷ []) next
a_pair_more d parts i seen rest after next key v g f s le new =
    let fresh : list_any (same (view key)) (keys_of g.pairs) ≡ false = ap (list_any (same (view key))) (sym g.keys) ∙ sym (any_view (view key) seen) ∙ new in
    record {
      pairs = snoc g.pairs (view key) v;
      read = rw add-one (pairs_snoc (value_at d) i parts rest after next g.pairs (view key) v g.read f s);
      keys = map_push view seen key ∙ ap (λ (z : List Amqp). z ++ view key ∷ []) g.keys ∙ sym (keys_snoc g.pairs (view key) v);
      distinct = distinct_snoc [] g.pairs (view key) v g.distinct fresh;
      shorter = omega (arith, g.shorter, le);
    }

pub is_old : (d : ℕ) (parts : List ℕ) (i : ℕ) (seen : List Value) (rest : List ℕ) (key : Value) (g : PairsRead d parts i seen rest) → list_any (λ k. same (view key) (view k)) seen ≡ true → list_any (same (view key)) (keys_of g.pairs) ≡ true
is_old d parts i seen rest key g h = ap (list_any (same (view key))) (sym g.keys) ∙ sym (any_view (view key) seen) ∙ h

pub all_pairs : (d m : ℕ) (parts : List ℕ) (i : ℕ) (seen : List Value) (rest : List ℕ) → NoPairs d m parts → i ≡ m → rest ≡ [] → PairsRead d parts i seen rest → ⊥
all_pairs d m parts i seen rest none e f g =
    let read : pairs_at (value_at d) m parts ≡ Some (g.pairs, []) = ap (λ (z : ℕ). pairs_at (value_at d) z parts) (sym e) ∙ g.read ∙ ap (λ (z : List ℕ). Some (g.pairs, z)) f in
    none g.pairs read g.distinct
