-- The keys of a map, one after another.
use Rattle.std.proofs.Common.{◌≡◌, ℕ, suc, ◌+◌, ◌<◌, ◌≤◌, Bool, true, false, List, ◌∷◌, length, get_or, drop, refl, sym, ap, ◌∙◌, add-one, drop-cons}
use Rattle.std.specs.Prelude.{◌&&◌}
use Rattle.std.proofs.lemmas.List.{drop_all}
use Rattle.amqp_data.specs.declared.value.Entry.{Entry}
use Rattle.amqp_data.specs.Data.{Amqp}
use Rattle.amqp_data.specs.View.{view, pairs_view}
use Rattle.amqp_fields.specs.Fields.{all_keys}

step : (test : Amqp → Bool) (es : List Entry) (i : ℕ) (e : Entry) → i < length es → e ≡ get_or es i e → all_keys test (pairs_view (drop i es)) ≡ (test (view e.key) && all_keys test (pairs_view (drop (i + 1) es)))
step test es i e lt f =
    let d : drop i es ≡ e ∷ drop (i + 1) es = rw add-one (drop-cons es i e lt ∙ ap (λ (z : Entry). z ∷ drop (suc i) es) (sym f)) in
    rw d refl

pub goes_wrong : (test : Amqp → Bool) (es : List Entry) (i : ℕ) (e : Entry) → i < length es → e ≡ get_or es i e → all_keys test (pairs_view (drop i es)) ≡ all_keys test (pairs_view es) → test (view e.key) ≡ false → false ≡ all_keys test (pairs_view es)
goes_wrong test es i e lt f h g = sym (sym h ∙ step test es i e lt f ∙ ap (λ b. b && all_keys test (pairs_view (drop (i + 1) es))) g)

pub goes_on : (test : Amqp → Bool) (es : List Entry) (i : ℕ) (e : Entry) → i < length es → e ≡ get_or es i e → all_keys test (pairs_view (drop i es)) ≡ all_keys test (pairs_view es) → test (view e.key) ≡ true → all_keys test (pairs_view (drop (i + 1) es)) ≡ all_keys test (pairs_view es)
goes_on test es i e lt f h g = sym (ap (λ b. b && all_keys test (pairs_view (drop (i + 1) es))) g) ∙ sym (step test es i e lt f) ∙ h

pub is_done : (test : Amqp → Bool) (es : List Entry) (i : ℕ) → length es ≤ i → all_keys test (pairs_view (drop i es)) ≡ all_keys test (pairs_view es) → true ≡ all_keys test (pairs_view es)
is_done test es i le h = sym (ap (λ (z : List Entry). all_keys test (pairs_view z)) (drop_all i es le)) ∙ h
