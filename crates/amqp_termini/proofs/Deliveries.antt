-- Deliveries that are not settled, one after another, as loops read, write and seek them.
use Rattle.std.proofs.Common.{◌≡◌, ℕ, suc, ◌+◌, ◌<◌, ◌≤◌, true, false, cond, List, [], ◌∷◌, ◌++◌, length, get_or, take, drop, Option, Some, None, Result, Err, refl, sym, ap, subst, ◌∙◌, append_assoc, add-one, drop-cons}
use Rattle.std.specs.Str.{bytes_eq}
use Rattle.std.proofs.lemmas.List.{append-nil, take_more, drop_all}
use Rattle.std.proofs.lemmas.Option.{none-some}
use Rattle.amqp_composites.specs.amqp_data.declared.value.Entry.{Entry}
use Rattle.amqp_composites.specs.amqp_data.Data.{Amqp, Pairs, null, boolean, ubyte, ushort, uint, ulong, byte, short, int, long, char, timestamp, uuid, binary, string, symbol, scalar, list, dict, array, described, no_pairs, pair, IsNew, HasDistinctKeys}
use Rattle.amqp_composites.specs.amqp_data.View.{view, pairs_view}
use Rattle.amqp_composites.specs.amqp_fields.declared.error.BaseError.{BaseError}
use Rattle.amqp_composites.specs.amqp_fields.declared.error.BaseError.TheVariants as errors
use Rattle.amqp_composites.specs.amqp_fields.Fields.{◌>>=◌, Gives, IsValid, binary_in, of_binary, optional, maybe}
use Rattle.amqp_termini.specs.declared.state.DeliveryState.{DeliveryState}
use Rattle.amqp_termini.specs.declared.unsettled.UnsettledDelivery.{UnsettledDelivery}
use Rattle.amqp_termini.specs.State.{state_in, of_state, IsStateValid}
use Rattle.amqp_termini.specs.Unsettled.{GivesDeliveries, put_before, deliveries_in, pairs_of, AreStatesValid, state_of}

-- ---- read

-- what was read before, and what is still read
abbrev pub with_front : List UnsettledDelivery → Option (List UnsettledDelivery) → Option (List UnsettledDelivery)
with_front front read = read >>= λ us. Some (front ++ us)

regroup : (front : List UnsettledDelivery) (u : UnsettledDelivery) (read : Option (List UnsettledDelivery)) → with_front front (put_before u read) ≡ with_front (front ++ u ∷ []) read
regroup front u (Some us) = ap (λ (z : List UnsettledDelivery). Some z) (sym (append_assoc front (u ∷ []) us))
regroup front u None = refl

pub goes_on : (front : List UnsettledDelivery) (old new : List Entry) (e : Entry) (tag : List ℕ) (state : Option DeliveryState) (total : Option (List UnsettledDelivery)) → old ≡ e ∷ new
    → binary_in (view e.key) ≡ Some tag → optional state_in (view e.value) ≡ Some state → with_front front (deliveries_in (pairs_view old)) ≡ total
    → with_front (front ++ record { delivery_tag = tag; state = state } ∷ []) (deliveries_in (pairs_view new)) ≡ total
goes_on front old new e tag state total split tag_is state_is so_far =
    let u : UnsettledDelivery = record { delivery_tag = tag; state = state } in
    let one : deliveries_in (pairs_view old) ≡ put_before u (deliveries_in (pairs_view new)) = rw (split, tag_is, state_is) refl in
    sym (regroup front u (deliveries_in (pairs_view new))) ∙ ap (with_front front) (sym one) ∙ so_far

pub is_done : (front : List UnsettledDelivery) (old : List Entry) (total : Option (List UnsettledDelivery)) → old ≡ [] → with_front front (deliveries_in (pairs_view old)) ≡ total → total ≡ Some front
is_done front old total e so_far =
    let one : with_front front (deliveries_in (pairs_view old)) ≡ Some front = rw e (ap (λ (z : List UnsettledDelivery). Some z) (append-nil front)) in
    sym so_far ∙ one

abbrev failed : {X : Type 0} → BaseError → Result X BaseError
failed e = Err e

pub tag_fails : {X : Type 0} (held : X → List UnsettledDelivery) (f : BaseError) (front : List UnsettledDelivery) (old new : List Entry) (e : Entry) (total : Option (List UnsettledDelivery)) → old ≡ e ∷ new → Gives (failed f) (binary_in (view e.key))
    → with_front front (deliveries_in (pairs_view old)) ≡ total → GivesDeliveries held (failed f) total
tag_fails held (errors.Memory a) front old new e total split h so_far = tt
tag_fails held errors.Decode front old new e total split h so_far =
    let one : with_front front (deliveries_in (pairs_view old)) ≡ None = rw (split, h) refl in
    sym so_far ∙ one
tag_fails held errors.Size front old new e total split h so_far = absurd h

pub state_fails : {X : Type 0} (held : X → List UnsettledDelivery) (f : BaseError) (front : List UnsettledDelivery) (old new : List Entry) (e : Entry) (tag : List ℕ) (total : Option (List UnsettledDelivery)) → old ≡ e ∷ new → binary_in (view e.key) ≡ Some tag
    → Gives (failed f) (optional state_in (view e.value)) → with_front front (deliveries_in (pairs_view old)) ≡ total → GivesDeliveries held (failed f) total
state_fails held (errors.Memory a) front old new e tag total split tag_is h so_far = tt
state_fails held errors.Decode front old new e tag total split tag_is h so_far =
    let one : with_front front (deliveries_in (pairs_view old)) ≡ None = rw (split, tag_is, h) refl in
    sym so_far ∙ one
state_fails held errors.Size front old new e tag total split tag_is h so_far = absurd h

-- ---- tags stay distinct

binary_is : (k : Amqp) (tag : List ℕ) → binary_in k ≡ Some tag → k ≡ of_binary tag
binary_is (scalar null) tag e = absurd (none-some tag e)
binary_is (scalar (boolean b)) tag e = absurd (none-some tag e)
binary_is (scalar (ubyte n)) tag e = absurd (none-some tag e)
binary_is (scalar (ushort n)) tag e = absurd (none-some tag e)
binary_is (scalar (uint n)) tag e = absurd (none-some tag e)
binary_is (scalar (ulong n)) tag e = absurd (none-some tag e)
binary_is (scalar (byte n)) tag e = absurd (none-some tag e)
binary_is (scalar (short n)) tag e = absurd (none-some tag e)
binary_is (scalar (int n)) tag e = absurd (none-some tag e)
binary_is (scalar (long n)) tag e = absurd (none-some tag e)
binary_is (scalar (char n)) tag e = absurd (none-some tag e)
binary_is (scalar (timestamp n)) tag e = absurd (none-some tag e)
binary_is (scalar (uuid u)) tag e = absurd (none-some tag e)
binary_is (scalar (binary s)) tag e = ap (λ (o : Option (List ℕ)). of_binary (held s o)) e where
  held : List ℕ → Option (List ℕ) → List ℕ
  held d (Some x) = x
  held d None = d
binary_is (scalar (string s)) tag e = absurd (none-some tag e)
binary_is (scalar (symbol s)) tag e = absurd (none-some tag e)
binary_is (list vs) tag e = absurd (none-some tag e)
binary_is (dict ps) tag e = absurd (none-some tag e)
binary_is (array k vs) tag e = absurd (none-some tag e)
binary_is (described d v) tag e = absurd (none-some tag e)

-- what a map that is not empty tells of
pub record Told (k v : Amqp) (ps : Pairs) (us : List UnsettledDelivery) : Type 0 where
  pub tag : List ℕ
  pub state : Option DeliveryState
  pub behind : List UnsettledDelivery
  pub tag_is : binary_in k ≡ Some tag
  pub behind_is : deliveries_in ps ≡ Some behind
  pub is : us ≡ record { delivery_tag = tag; state = state } ∷ behind

told : (k v : Amqp) (ps : Pairs) (us : List UnsettledDelivery) → deliveries_in (pair k v ps) ≡ Some us → Told k v ps us
told k v ps us e = by_tag (binary_in k) refl where
  by_behind : (tag : List ℕ) (state : Option DeliveryState) (o : Option (List UnsettledDelivery)) → binary_in k ≡ Some tag → deliveries_in ps ≡ o → put_before (record { delivery_tag = tag; state = state }) o ≡ Some us → Told k v ps us
  by_behind tag state None h g f = absurd (none-some us f)
  by_behind tag state (Some b) h g f = record { tag = tag; state = state; behind = b; tag_is = h; behind_is = g; is = ap (λ (o : Option (List UnsettledDelivery)). held us o) (sym f) } where
    held : List UnsettledDelivery → Option (List UnsettledDelivery) → List UnsettledDelivery
    held d (Some x) = x
    held d None = d

  by_state : (tag : List ℕ) (o : Option (Option DeliveryState)) → binary_in k ≡ Some tag → (o >>= λ state. put_before (record { delivery_tag = tag; state = state }) (deliveries_in ps)) ≡ Some us → Told k v ps us
  by_state tag None h f = absurd (none-some us f)
  by_state tag (Some state) h f = by_behind tag state (deliveries_in ps) h refl f

  by_tag : (o : Option (List ℕ)) → binary_in k ≡ o → Told k v ps us
  by_tag None h = absurd (none-some us (sym (rw h refl) ∙ e))
  by_tag (Some tag) h =
      let one : deliveries_in (pair k v ps) ≡ (optional state_in v >>= λ state. put_before (record { delivery_tag = tag; state = state }) (deliveries_in ps)) = rw h refl in
      by_state tag (optional state_in v) h (sym one ∙ e)

stays_new : (k : Amqp) (ps : Pairs) (us : List UnsettledDelivery) → deliveries_in ps ≡ Some us → IsNew k ps → IsNew k (pairs_of us)
stays_new k no_pairs us e h = by_end us e where
  by_end : (us : List UnsettledDelivery) → deliveries_in no_pairs ≡ Some us → IsNew k (pairs_of us)
  by_end [] e = tt
  by_end (u ∷ us) e = absurd cc
stays_new k (pair l v ps) us e h =
    let t = told l v ps us e in
    rw t.is ((λ g. h.0 (g ∙ sym (binary_is l t.tag t.tag_is))), stays_new k ps t.behind t.behind_is h.1)

pub stay_distinct : (ps : Pairs) (us : List UnsettledDelivery) → deliveries_in ps ≡ Some us → HasDistinctKeys ps → HasDistinctKeys (pairs_of us)
stay_distinct no_pairs us e h = by_end us e where
  by_end : (us : List UnsettledDelivery) → deliveries_in no_pairs ≡ Some us → HasDistinctKeys (pairs_of us)
  by_end [] e = tt
  by_end (u ∷ us) e = absurd cc
stay_distinct (pair k v ps) us e h =
    let t = told k v ps us e in
    let new : IsNew (of_binary t.tag) ps = subst (λ (z : Amqp). IsNew z ps) (binary_is k t.tag t.tag_is) h.0 in
    rw t.is (stays_new (of_binary t.tag) ps t.behind t.behind_is new, stay_distinct ps t.behind t.behind_is h.1)

-- ---- written

first_key : Pairs → Amqp
first_key no_pairs = scalar null
first_key (pair k v ps) = k

first_value : Pairs → Amqp
first_value no_pairs = scalar null
first_value (pair k v ps) = v

others : Pairs → Pairs
others no_pairs = no_pairs
others (pair k v ps) = ps

more : (us : List UnsettledDelivery) (u : UnsettledDelivery) (es : List Entry) (e : Entry) → pairs_view es ≡ pairs_of us → view e.key ≡ of_binary u.delivery_tag → view e.value ≡ maybe of_state u.state
    → pairs_view (es ++ e ∷ []) ≡ pairs_of (us ++ u ∷ [])
unfolding first_key first_value others
more [] u [] e h f g = rw (f, g) refl
more [] u (d ∷ es) e h f g = absurd cc
more (w ∷ us) u [] e h f g = absurd cc
more (w ∷ us) u (d ∷ es) e h f g =
    let k : view d.key ≡ of_binary w.delivery_tag = ap first_key h in
    let v : view d.value ≡ maybe of_state w.state = ap first_value h in
    rw (k, v, more us u es e (ap others h) f g) refl

front_is : (us : List UnsettledDelivery) (i : ℕ) (u : UnsettledDelivery) → i < length us → u ≡ get_or us i u → take (i + 1) us ≡ take i us ++ u ∷ []
front_is us i u lt e = take_more us i u lt ∙ ap (λ (z : UnsettledDelivery). take i us ++ z ∷ []) (sym e)

pub next_made : (us : List UnsettledDelivery) (i : ℕ) (u : UnsettledDelivery) (es : List Entry) (e : Entry) → i < length us → u ≡ get_or us i u → pairs_view es ≡ pairs_of (take i us)
    → view e.key ≡ of_binary u.delivery_tag → view e.value ≡ maybe of_state u.state → pairs_view (es ++ e ∷ []) ≡ pairs_of (take (i + 1) us)
next_made us i u es e lt at h f g = rw (front_is us i u lt at) (more (take i us) u es e h f g)

one_more_valid : (us : List UnsettledDelivery) (u : UnsettledDelivery) → AreStatesValid us → IsValid IsStateValid u.state → AreStatesValid (us ++ u ∷ [])
one_more_valid [] u h g = (g, tt)
one_more_valid (w ∷ us) u h g = (h.0, one_more_valid us u h.1 g)

pub next_valid : (us : List UnsettledDelivery) (i : ℕ) (u : UnsettledDelivery) → i < length us → u ≡ get_or us i u → AreStatesValid (take i us) → IsValid IsStateValid u.state → AreStatesValid (take (i + 1) us)
next_valid us i u lt at h g = rw (front_is us i u lt at) (one_more_valid (take i us) u h g)

-- ---- sought

step : (tag : List ℕ) (us : List UnsettledDelivery) (i : ℕ) (u : UnsettledDelivery) → i < length us → u ≡ get_or us i u → state_of tag (drop i us) ≡ cond (bytes_eq u.delivery_tag tag) (Some u.state) (state_of tag (drop (i + 1) us))
step tag us i u lt at =
    let d : drop i us ≡ u ∷ drop (i + 1) us = rw add-one (drop-cons us i u lt ∙ ap (λ (z : UnsettledDelivery). z ∷ drop (suc i) us) (sym at)) in
    rw d refl

pub found : (tag : List ℕ) (us : List UnsettledDelivery) (i : ℕ) (u : UnsettledDelivery) (total : Option (Option DeliveryState)) → i < length us → u ≡ get_or us i u → state_of tag (drop i us) ≡ total
    → bytes_eq u.delivery_tag tag ≡ true → Some u.state ≡ total
found tag us i u total lt at h is = sym (sym h ∙ step tag us i u lt at ∙ ap (λ b. cond b (Some u.state) (state_of tag (drop (i + 1) us))) is)

pub passed : (tag : List ℕ) (us : List UnsettledDelivery) (i : ℕ) (u : UnsettledDelivery) (total : Option (Option DeliveryState)) → i < length us → u ≡ get_or us i u → state_of tag (drop i us) ≡ total
    → bytes_eq u.delivery_tag tag ≡ false → state_of tag (drop (i + 1) us) ≡ total
passed tag us i u total lt at h is = sym (ap (λ b. cond b (Some u.state) (state_of tag (drop (i + 1) us))) is) ∙ sym (step tag us i u lt at) ∙ h

pub not_found : (tag : List ℕ) (us : List UnsettledDelivery) (i : ℕ) (total : Option (Option DeliveryState)) → length us ≤ i → state_of tag (drop i us) ≡ total → None ≡ total
not_found tag us i total le h = sym (ap (state_of tag) (drop_all i us le)) ∙ h
