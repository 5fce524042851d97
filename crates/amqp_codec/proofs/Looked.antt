-- What a map has at a key, by the key's place among the entries.
use Rattle.std.proofs.Common.{◌≡◌, ℕ, List, get_or, Option, Some, None, position, sym, ap, ◌∙◌}
use Rattle.amqp_data.specs.Data.{Amqp, Pairs}
use Rattle.amqp_data.specs.Maps.{lookup}
use Rattle.amqp_data.specs.View.{view, pairs_view}
use Rattle.amqp_data.specs.declared.value.Entry.{Entry}
use Rattle.amqp_data.proofs.Placed.{has_key, lookup-place, lookup-no_place}

-- the entry at the key's place has the value
pub there : (k : Amqp) (es : List Entry) (ps : Pairs) (place : Option ℕ) (i : ℕ) (d : Entry) → pairs_view es ≡ ps → place ≡ position (has_key k) es → place ≡ Some i
    → Some (view (get_or es i d).value) ≡ lookup k ps
there k es ps place i d same_pairs found is = sym (lookup-place k es i d (sym found ∙ is)) ∙ ap (lookup k) same_pairs

-- a key without a place has no value
pub absent : (k : Amqp) (es : List Entry) (ps : Pairs) (place : Option ℕ) → pairs_view es ≡ ps → place ≡ position (has_key k) es → place ≡ None → lookup k ps ≡ None
absent k es ps place same_pairs found is = ap (lookup k) (sym same_pairs) ∙ lookup-no_place k es (sym found ∙ is)
