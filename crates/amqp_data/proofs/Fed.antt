-- What a loop over values feeds a hasher.
use Rattle.std.proofs.Common.{◌≡◌, ℕ, ◌+◌, ◌<◌, List, [], ◌∷◌, ◌++◌, length, get_or, take, sym, ap, ◌∙◌, append_assoc}
use Rattle.std.proofs.lemmas.List.{take_more, append-nil}
use Rattle.std.specs.List.{fold}
use Rattle.std.specs.Hash.{HashWrites, fed_then, fed_along}
use Rattle.amqp_data.specs.declared.value.Value.{Value}
use Rattle.amqp_data.specs.declared.value.Entry.{Entry}
use Rattle.amqp_data.specs.Same.{hashed, hashed_items, hashed_pairs}
use Rattle.amqp_data.specs.View.{view, items_view, pairs_view}

more_items : (xs : List Value) (x : Value) → hashed_items (items_view xs) ++ hashed (view x) ≡ hashed_items (items_view (xs ++ x ∷ []))
unfolding hashed
more_items [] x = sym (append-nil (hashed (view x)))
more_items (y ∷ xs) x = append_assoc (hashed (view y)) (hashed_items (items_view xs)) (hashed (view x)) ∙ ap (λ (z : HashWrites). hashed (view y) ++ z) (more_items xs x)

abbrev pub of_entry : Entry → HashWrites
of_entry e = hashed (view e.key) ++ hashed (view e.value)

more_pairs : (es : List Entry) (e : Entry) → hashed_pairs (pairs_view es) ++ of_entry e ≡ hashed_pairs (pairs_view (es ++ e ∷ []))
unfolding hashed
more_pairs [] e = ap (λ (z : HashWrites). hashed (view e.key) ++ z) (sym (append-nil (hashed (view e.value))))
more_pairs (d ∷ es) e =
    append_assoc (hashed (view d.key)) (hashed (view d.value) ++ hashed_pairs (pairs_view es)) (of_entry e)
    ∙ ap (λ (z : HashWrites). hashed (view d.key) ++ z) (append_assoc (hashed (view d.value)) (hashed_pairs (pairs_view es)) (of_entry e) ∙ ap (λ (z : HashWrites). hashed (view d.value) ++ z) (more_pairs es e))

module _ {S : Type 0} (write : S → List ℕ → S) (s t u : S) where
  pub value_fed : (xs : List Value) (i : ℕ) (x : Value) → i < length xs → x ≡ get_or xs i x → t ≡ fold write s (hashed_items (items_view (take i xs))) → u ≡ fold write t (hashed (view x)) → u ≡ fold write s (hashed_items (items_view (take (i + 1) xs)))
  value_fed xs i x lt e h g =
      let front : take (i + 1) xs ≡ take i xs ++ x ∷ [] = take_more xs i x lt ∙ ap (λ (z : Value). take i xs ++ z ∷ []) (sym e) in
      rw front (fed_along write s u (more_items (take i xs) x) (fed_then write s t u (hashed_items (items_view (take i xs))) (hashed (view x)) h g))

  pub entry_fed : (r : S) (es : List Entry) (i : ℕ) (d : Entry) → i < length es → d ≡ get_or es i d → t ≡ fold write s (hashed_pairs (pairs_view (take i es))) → r ≡ fold write t (hashed (view d.key)) → u ≡ fold write r (hashed (view d.value))
      → u ≡ fold write s (hashed_pairs (pairs_view (take (i + 1) es)))
  entry_fed r es i d lt e h g f =
      let front : take (i + 1) es ≡ take i es ++ d ∷ [] = take_more es i d lt ∙ ap (λ (z : Entry). take i es ++ z ∷ []) (sym e) in
      let both = fed_then write t r u (hashed (view d.key)) (hashed (view d.value)) g f in
      rw front (fed_along write s u (more_pairs (take i es) d) (fed_then write s t u (hashed_pairs (pairs_view (take i es))) (of_entry d) h both))
