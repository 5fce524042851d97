-- Symbols, one after another, as loops read and write them.
use Rattle.std.proofs.Common.{◌≡◌, ℕ, ◌+◌, ◌<◌, List, [], ◌∷◌, ◌++◌, length, get_or, take, Option, Some, None, Result, Err, refl, sym, ap, ◌∙◌, append_assoc}
use Rattle.std.proofs.lemmas.List.{append-nil, take_more}
use Rattle.amqp_data.specs.declared.value.Value.{Value}
use Rattle.amqp_data.specs.declared.kind.ElementKind.TheVariants as k
use Rattle.amqp_data.specs.Data.{Amqp, no_items, item, AreOfKind}
use Rattle.amqp_data.specs.View.{view, items_view}
use Rattle.amqp_fields.specs.declared.error.BaseError.{BaseError}
use Rattle.amqp_fields.specs.declared.error.BaseError.TheVariants as errors
use Rattle.amqp_fields.specs.Fields.{◌>>=◌, Gives, first, others, before, all_symbols, symbol_in, of_symbol, symbol_items}

Symbols : Type 0
Symbols = List (List ℕ)

-- what was read before, and what is still read
abbrev pub with_front : List (List ℕ) → Option (List (List ℕ)) → Option (List (List ℕ))
with_front front read = read >>= λ ss. Some (front ++ ss)

regroup : (front : List (List ℕ)) (s : List ℕ) (read : Option (List (List ℕ))) → with_front front (before s read) ≡ with_front (front ++ s ∷ []) read
regroup front s (Some ss) = ap (λ (z : List (List ℕ)). Some z) (sym (append_assoc front (s ∷ []) ss))
regroup front s None = refl

pub goes_on : (front : List (List ℕ)) (old new : List Value) (v : Value) (s : List ℕ) (total : Option (List (List ℕ))) → old ≡ v ∷ new → symbol_in (view v) ≡ Some s
    → with_front front (all_symbols (items_view old)) ≡ total → with_front (front ++ s ∷ []) (all_symbols (items_view new)) ≡ total
goes_on front old new v s total e h so_far =
    let one : all_symbols (items_view old) ≡ before s (all_symbols (items_view new)) = rw (e, h) refl in
    sym (regroup front s (all_symbols (items_view new))) ∙ ap (with_front front) (sym one) ∙ so_far

pub is_done : (front : List (List ℕ)) (old : List Value) (total : Option (List (List ℕ))) → old ≡ [] → with_front front (all_symbols (items_view old)) ≡ total → total ≡ Some front
is_done front old total e so_far =
    let one : with_front front (all_symbols (items_view old)) ≡ Some front = rw e (ap (λ (z : List (List ℕ)). Some z) (append-nil front)) in
    sym so_far ∙ one

abbrev failed : BaseError → Result (List ℕ) BaseError
failed e = Err e

abbrev failed_all : BaseError → Result (List (List ℕ)) BaseError
failed_all e = Err e

pub ends : (e : BaseError) (front : List (List ℕ)) (old new : List Value) (v : Value) (total : Option (List (List ℕ))) → old ≡ v ∷ new → Gives (failed e) (symbol_in (view v))
    → with_front front (all_symbols (items_view old)) ≡ total → Gives (failed_all e) total
ends (errors.Memory a) front old new v total e h so_far = tt
ends errors.Decode front old new v total e h so_far =
    let one : with_front front (all_symbols (items_view old)) ≡ None = rw (e, h) refl in
    sym so_far ∙ one
ends errors.Size front old new v total e h so_far = absurd h

-- ---- written

more : (ss : List (List ℕ)) (s : List ℕ) (vs : List Value) (v : Value) → items_view vs ≡ symbol_items ss → view v ≡ of_symbol s → items_view (vs ++ v ∷ []) ≡ symbol_items (ss ++ s ∷ [])
more [] s [] v e f = ap (λ (z : Amqp). item z no_items) f
more [] s (w ∷ vs) v e f = absurd cc
more (r ∷ ss) s [] v e f = absurd cc
more (r ∷ ss) s (w ∷ vs) v e f =
    let p : view w ≡ of_symbol r = ap first e in
    let q : items_view vs ≡ symbol_items ss = ap others e in
    rw (p, more ss s vs v q f) refl

pub next_made : (ss : List (List ℕ)) (i : ℕ) (s : List ℕ) (vs : List Value) (v : Value) → i < length ss → s ≡ get_or ss i s → items_view vs ≡ symbol_items (take i ss) → view v ≡ of_symbol s
    → items_view (vs ++ v ∷ []) ≡ symbol_items (take (i + 1) ss)
next_made ss i s vs v lt e h f =
    let front : take (i + 1) ss ≡ take i ss ++ s ∷ [] = take_more ss i s lt ∙ ap (λ (z : List ℕ). take i ss ++ z ∷ []) (sym e) in
    rw front (more (take i ss) s vs v h f)

pub symbols_of_kind : (ss : List (List ℕ)) → AreOfKind k.Symbol (symbol_items ss)
symbols_of_kind [] = tt
symbols_of_kind (s ∷ ss) = (refl, symbols_of_kind ss)
