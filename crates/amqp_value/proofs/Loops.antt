-- Reading values one after the other, as a loop does.
use Rattle.std.proofs.Common.{◌≡◌, ℕ, suc, ◌-◌, ◌+◌, ◌≤◌, ◌<◌, List, [], ◌∷◌, ◌++◌, Option, Some, None, refl, sym, ap, ◌∙◌, arith}
use Rattle.amqp_value.specs.declared.error.ValueError.{ValueError}
use Rattle.amqp_value.specs.declared.error.ValueError.TheVariants as errors
use Rattle.amqp_data.specs.Data.{Amqp, Items, no_items, item, Pairs, no_pairs, pair}
use Rattle.amqp_data.specs.View.{view, items_view, pairs_view}
use Rattle.amqp_data.specs.declared.value.Value.{Value}
use Rattle.amqp_data.specs.declared.value.Entry.{Entry}
use Rattle.amqp_value.specs.Reading.{◌>>=◌, Parse, Fails, items_at, pairs_at}

abbrev pub before : List Value → Items → Items
before [] rest = rest
before (v ∷ vs) rest = item (view v) (before vs rest)

pub before_none : (vs : List Value) → before vs no_items ≡ items_view vs
before_none [] = refl
before_none (v ∷ vs) = ap (item (view v)) (before_none vs)

pub before_push : (vs : List Value) (v : Value) (rest : Items) → before (vs ++ v ∷ []) rest ≡ before vs (item (view v) rest)
before_push [] v rest = refl
before_push (w ∷ vs) v rest = ap (item (view w)) (before_push vs v rest)

-- what was read before, and what is still read
abbrev pub with_front : List Value → Option (Items × List ℕ) → Option (Items × List ℕ)
with_front front read = read >>= λ x. Some (before front x.0, x.1)

regroup : (front : List Value) (v : Value) (read : Option (Items × List ℕ)) → with_front front (read >>= λ x. Some (item (view v) x.0, x.1)) ≡ with_front (front ++ v ∷ []) read
regroup front v (Some x) = ap (λ (vs : Items). Some (vs, x.1)) (sym (before_push front v x.0))
regroup front v None = refl

pub goes_on : (inner : Parse Amqp) (front : List Value) (count i : ℕ) (bytes : List ℕ) (v : Value) (after : List ℕ) (total : Option (Items × List ℕ)) → i < count → inner bytes ≡ Some (view v, after)
    → with_front front (items_at inner (count - i) bytes) ≡ total → with_front (front ++ v ∷ []) (items_at inner (count - (i + 1)) after) ≡ total
unfolding items_at
goes_on inner front count i bytes v after total lt h so_far =
    let k : count - i ≡ suc (count - (i + 1)) = omega arith in
    let one : with_front front (items_at inner (count - i) bytes) ≡ with_front (front ++ v ∷ []) (items_at inner (count - (i + 1)) after) = rw (k, h) (regroup front v (items_at inner (count - (i + 1)) after)) in
    sym one ∙ so_far

pub ends : (e : ValueError) (inner : Parse Amqp) (front : List Value) (count i : ℕ) (bytes : List ℕ) (total : Option (Items × List ℕ)) → i < count → Fails e (inner bytes)
    → with_front front (items_at inner (count - i) bytes) ≡ total → Fails e total
unfolding items_at
ends (errors.Memory a) inner front count i bytes total lt h so_far = tt
ends errors.Decode inner front count i bytes total lt h so_far =
    let k : count - i ≡ suc (count - (i + 1)) = omega arith in
    let one : with_front front (items_at inner (count - i) bytes) ≡ None = rw (k, h) refl in
    sym so_far ∙ one
ends errors.Depth inner front count i bytes total lt h so_far = absurd h
ends errors.Size inner front count i bytes total lt h so_far = absurd h
ends errors.Short inner front count i bytes total lt h so_far = absurd h

pub is_done : (inner : Parse Amqp) (front : List Value) (count i : ℕ) (bytes : List ℕ) (total : Option (Items × List ℕ)) → count ≤ i → with_front front (items_at inner (count - i) bytes) ≡ total → total ≡ Some (items_view front, bytes)
unfolding items_at
is_done inner front count i bytes total le so_far =
    let k : count - i ≡ 0 = omega arith in
    let one : with_front front (items_at inner (count - i) bytes) ≡ Some (items_view front, bytes) = rw k (ap (λ (vs : Items). Some (vs, bytes)) (before_none front)) in
    sym so_far ∙ one

-- ---- pairs

abbrev pub pairs_before : List Entry → Pairs → Pairs
pairs_before [] rest = rest
pairs_before (e ∷ es) rest = pair (view e.key) (view e.value) (pairs_before es rest)

pairs_before_none : (es : List Entry) → pairs_before es no_pairs ≡ pairs_view es
pairs_before_none [] = refl
pairs_before_none (e ∷ es) = ap (pair (view e.key) (view e.value)) (pairs_before_none es)

pairs_before_push : (es : List Entry) (e : Entry) (rest : Pairs) → pairs_before (es ++ e ∷ []) rest ≡ pairs_before es (pair (view e.key) (view e.value) rest)
pairs_before_push [] e rest = refl
pairs_before_push (f ∷ es) e rest = ap (pair (view f.key) (view f.value)) (pairs_before_push es e rest)

abbrev pub with_pairs : List Entry → Option (Pairs × List ℕ) → Option (Pairs × List ℕ)
with_pairs front read = read >>= λ x. Some (pairs_before front x.0, x.1)

pairs_regroup : (front : List Entry) (e : Entry) (read : Option (Pairs × List ℕ)) → with_pairs front (read >>= λ x. Some (pair (view e.key) (view e.value) x.0, x.1)) ≡ with_pairs (front ++ e ∷ []) read
pairs_regroup front e (Some x) = ap (λ (vs : Pairs). Some (vs, x.1)) (sym (pairs_before_push front e x.0))
pairs_regroup front e None = refl

pub pairs_go_on : (inner : Parse Amqp) (front : List Entry) (count i : ℕ) (bytes : List ℕ) (e : Entry) (after next : List ℕ) (total : Option (Pairs × List ℕ)) → i < count → inner bytes ≡ Some (view e.key, after) → inner after ≡ Some (view e.value, next)
    → with_pairs front (pairs_at inner (count - i) bytes) ≡ total → with_pairs (front ++ e ∷ []) (pairs_at inner (count - (i + 1)) next) ≡ total
unfolding pairs_at
pairs_go_on inner front count i bytes e after next total lt h g so_far =
    let k : count - i ≡ suc (count - (i + 1)) = omega arith in
    let one : with_pairs front (pairs_at inner (count - i) bytes) ≡ with_pairs (front ++ e ∷ []) (pairs_at inner (count - (i + 1)) next) = rw (k, h, g) (pairs_regroup front e (pairs_at inner (count - (i + 1)) next)) in
    sym one ∙ so_far

pub pairs_end : (e : ValueError) (inner : Parse Amqp) (front : List Entry) (count i : ℕ) (bytes : List ℕ) (total : Option (Pairs × List ℕ)) → i < count → Fails e (inner bytes)
    → with_pairs front (pairs_at inner (count - i) bytes) ≡ total → Fails e total
unfolding pairs_at
pairs_end (errors.Memory a) inner front count i bytes total lt h so_far = tt
pairs_end errors.Decode inner front count i bytes total lt h so_far =
    let k : count - i ≡ suc (count - (i + 1)) = omega arith in
    let one : with_pairs front (pairs_at inner (count - i) bytes) ≡ None = rw (k, h) refl in
    sym so_far ∙ one
pairs_end errors.Depth inner front count i bytes total lt h so_far = absurd h
pairs_end errors.Size inner front count i bytes total lt h so_far = absurd h
pairs_end errors.Short inner front count i bytes total lt h so_far = absurd h

pub pairs_end_late : (e : ValueError) (inner : Parse Amqp) (front : List Entry) (count i : ℕ) (bytes : List ℕ) (key : Amqp) (after : List ℕ) (total : Option (Pairs × List ℕ)) → i < count → inner bytes ≡ Some (key, after) → Fails e (inner after)
    → with_pairs front (pairs_at inner (count - i) bytes) ≡ total → Fails e total
unfolding pairs_at
pairs_end_late (errors.Memory a) inner front count i bytes key after total lt g h so_far = tt
pairs_end_late errors.Decode inner front count i bytes key after total lt g h so_far =
    let k : count - i ≡ suc (count - (i + 1)) = omega arith in
    let one : with_pairs front (pairs_at inner (count - i) bytes) ≡ None = rw (k, g, h) refl in
    sym so_far ∙ one
pairs_end_late errors.Depth inner front count i bytes key after total lt g h so_far = absurd h
pairs_end_late errors.Size inner front count i bytes key after total lt g h so_far = absurd h
pairs_end_late errors.Short inner front count i bytes key after total lt g h so_far = absurd h

pub pairs_are_done : (inner : Parse Amqp) (front : List Entry) (count i : ℕ) (bytes : List ℕ) (total : Option (Pairs × List ℕ)) → count ≤ i → with_pairs front (pairs_at inner (count - i) bytes) ≡ total → total ≡ Some (pairs_view front, bytes)
unfolding pairs_at
pairs_are_done inner front count i bytes total le so_far =
    let k : count - i ≡ 0 = omega arith in
    let one : with_pairs front (pairs_at inner (count - i) bytes) ≡ Some (pairs_view front, bytes) = rw k (ap (λ (vs : Pairs). Some (vs, bytes)) (pairs_before_none front)) in
    sym so_far ∙ one
