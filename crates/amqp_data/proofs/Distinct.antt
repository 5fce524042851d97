-- A pass over the entries, with the keys that were seen.
use Rattle.std.proofs.Common.{◌≡◌, ℕ, suc, ◌+◌, ◌<◌, ◌≤◌, Bool, true, false, cond, List, [], ◌∷◌, ◌++◌, length, get_or, take, drop, map, refl, sym, ap, ◌∙◌, add-one, drop-cons}
use Rattle.std.specs.Borrow.{Bor}
use Rattle.std.specs.Prelude.{not}
use Rattle.std.proofs.lemmas.Bool.{true≢false}
use Rattle.std.specs.List.{list_any}
use Rattle.std.proofs.lemmas.List.{drop_all, map_push, take_more}
use Rattle.amqp_data.specs.Data.{Amqp}
use Rattle.amqp_data.specs.Same.{same, distinct_after}
use Rattle.amqp_data.specs.View.{view, pairs_view}
use Rattle.amqp_data.specs.declared.value.Value.{Value}
use Rattle.amqp_data.specs.declared.value.Entry.{Entry}

abbrev pub seen_view : List (Bor Value) → List Amqp
seen_view ks = map (λ k. view k.now) ks

any_view : (x : Amqp) (ks : List (Bor Value)) → list_any (λ k. same x (view k.now)) ks ≡ list_any (same x) (seen_view ks)
any_view x [] = refl
any_view x (k ∷ ks) = rw (any_view x ks) refl

module _ (es : List Entry) (ks : List (Bor Value)) (i : ℕ) (e : Entry) (whole : Bool) (lt : i < length es) (here : e ≡ get_or es i e) where
  at : drop i es ≡ e ∷ drop (i + 1) es
  at = rw add-one (drop-cons es i e lt ∙ ap (λ (z : Entry). z ∷ drop (suc i) es) (sym here))

  pub is_there : list_any (λ k. same (view e.key) (view k.now)) ks ≡ true → distinct_after (seen_view ks) (pairs_view (drop i es)) ≡ whole → false ≡ whole
  unfolding distinct_after
  is_there h inv =
      let one : distinct_after (seen_view ks) (pairs_view (drop i es)) ≡ false = rw (at, sym (any_view (view e.key) ks) ∙ h) refl in
      sym one ∙ inv

  pub is_not_there : (k : Bor Value) → k.now ≡ e.key → list_any (λ k. same (view e.key) (view k.now)) ks ≡ false → distinct_after (seen_view ks) (pairs_view (drop i es)) ≡ whole
      → distinct_after (seen_view (ks ++ k ∷ [])) (pairs_view (drop (i + 1) es)) ≡ whole
  unfolding distinct_after
  is_not_there k same_key h inv =
      let one : distinct_after (seen_view ks) (pairs_view (drop i es)) ≡ distinct_after (seen_view ks ++ view e.key ∷ []) (pairs_view (drop (i + 1) es)) = rw (at, sym (any_view (view e.key) ks) ∙ h) refl in
      let more : seen_view (ks ++ k ∷ []) ≡ seen_view ks ++ view e.key ∷ [] = map_push _ ks k ∙ ap (λ (z : Value). seen_view ks ++ view z ∷ []) same_key in
      rw more (sym one ∙ inv)

abbrev pub keys_view : List Entry → List Amqp
keys_view es = map (λ e. view e.key) es

any_key : (x : Amqp) (es : List Entry) → list_any (λ e. same x (view e.key)) es ≡ list_any (same x) (keys_view es)
any_key x [] = refl
any_key x (e ∷ es) = rw (any_key x es) refl

-- a pass over the entries, with those before the place
module _ (es : List Entry) (i : ℕ) (e : Entry) (whole : Bool) (lt : i < length es) (here : e ≡ get_or es i e) where
  from : drop i es ≡ e ∷ drop (i + 1) es
  from = rw add-one (drop-cons es i e lt ∙ ap (λ (z : Entry). z ∷ drop (suc i) es) (sym here))

  up_to : keys_view (take (i + 1) es) ≡ keys_view (take i es) ++ view e.key ∷ []
  up_to = ap keys_view (take_more es i e lt ∙ ap (λ (z : Entry). take i es ++ z ∷ []) (sym here)) ∙ map_push _ (take i es) e

  same_test : list_any (λ z. same (view e.key) (view z.key)) (take i es) ≡ list_any (λ z. same (view (get_or es i e).key) (view z.key)) (take i es)
  same_test = ap (λ (x : Entry). list_any (λ z. same (view x.key) (view z.key)) (take i es)) here

  pub key_is_old : list_any (λ z. same (view (get_or es i e).key) (view z.key)) (take i es) ≡ true → distinct_after (keys_view (take i es)) (pairs_view (drop i es)) ≡ whole → false ≡ whole
  unfolding distinct_after
  key_is_old h inv =
      let one : distinct_after (keys_view (take i es)) (pairs_view (drop i es)) ≡ false = rw (from, sym (any_key (view e.key) (take i es)) ∙ same_test ∙ h) refl in
      sym one ∙ inv

  pub key_is_new : list_any (λ z. same (view (get_or es i e).key) (view z.key)) (take i es) ≡ false → distinct_after (keys_view (take i es)) (pairs_view (drop i es)) ≡ whole
      → distinct_after (keys_view (take (i + 1) es)) (pairs_view (drop (i + 1) es)) ≡ whole
  unfolding distinct_after
  key_is_new h inv =
      let one : distinct_after (keys_view (take i es)) (pairs_view (drop i es)) ≡ distinct_after (keys_view (take i es) ++ view e.key ∷ []) (pairs_view (drop (i + 1) es)) = rw (from, sym (any_key (view e.key) (take i es)) ∙ same_test ∙ h) refl in
      rw up_to (sym one ∙ inv)

pub all_passed : (es : List Entry) (seen : List Amqp) (i : ℕ) (whole : Bool) → length es ≤ i → distinct_after seen (pairs_view (drop i es)) ≡ whole → true ≡ whole
unfolding distinct_after
all_passed es seen i whole le inv = sym (ap (λ (z : List Entry). distinct_after seen (pairs_view z)) (drop_all i es le)) ∙ inv

pub was_there : (b r : Bool) → r ≡ not b → r ≡ false → b ≡ true
was_there true r e f = refl
was_there false r e f = absurd (true≢false (sym e ∙ f))

pub was_not_there : (b r : Bool) → r ≡ not b → r ≡ true → b ≡ false
was_not_there true r e f = absurd (true≢false (sym f ∙ e))
was_not_there false r e f = refl

pub put_last : {A : Type 0} (b : Bool) (ks new : List A) (k : A) → new ≡ cond b ks (ks ++ k ∷ []) → b ≡ false → new ≡ ks ++ k ∷ []
put_last true ks new k e f = absurd (true≢false f)
put_last false ks new k e f = e
