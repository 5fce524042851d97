-- The size of an array of symbols.
use Rattle.std.proofs.Common.{◌≡◌, ℕ, suc, ◌+◌, ◌<◌, ◌≤◌, ◌^◌, List, [], ◌∷◌, length, get_or, drop, Some, None, refl, sym, ap, subst, ◌∙◌, arith}
use Rattle.std.proofs.lemmas.List.{length-append, drop_more, drop_all}
use Rattle.amqp_data.specs.declared.kind.ElementKind.TheVariants as k
use Rattle.amqp_data.specs.Data.{Items, symbol, count, depth, items_depth}
use Rattle.amqp_value.specs.declared.code.SizeWidth.{SizeWidth}
use Rattle.amqp_value.specs.declared.code.SizeWidth.TheVariants.{Four}
use Rattle.amqp_value.specs.declared.code.ScalarCode.TheVariants as c
use Rattle.amqp_value.specs.Code.{array_number}
use Rattle.amqp_value.specs.Canonical.{narrow_if, laid, elements, are_short, array_items, canonical, IsSized, AreSized}
use Rattle.amqp_value.specs.Writing.{octet_count, compound_length}
use Rattle.amqp_value.proofs.Lengths.{length-block, length-compound, length-content}
use Rattle.amqp_fields.specs.Fields.{symbol_items, of_symbols}
use Rattle.amqp_described.specs.Writing.{Fits}
use Rattle.amqp_sizes.specs.Taken.{HasSize}
use Rattle.amqp_sizes.specs.Texts.{TakeElements}

pub count_symbols : (ss : List (List ℕ)) → count (symbol_items ss) ≡ length ss
count_symbols [] = refl
count_symbols (s ∷ ss) = ap suc (count_symbols ss)

symbols_shallow : (ss : List (List ℕ)) → items_depth (symbol_items ss) ≤ 1
symbols_shallow [] = omega arith
symbols_shallow (s ∷ ss) = omega (arith, symbols_shallow ss)

pub empty_depth : (ss : List (List ℕ)) → length ss ≡ 0 → depth (of_symbols ss) ≡ 1
empty_depth [] e = refl
empty_depth (s ∷ ss) e = absurd (omega (arith, e))

pub filled_depth : (ss : List (List ℕ)) → (length ss ≡ 0 → ⊥) → depth (of_symbols ss) ≡ 2
filled_depth [] ne = absurd (ne refl)
filled_depth (s ∷ ss) ne = omega (arith, symbols_shallow ss)

-- total is the length of all elements but the rest
pub record SizingSymbols (w : SizeWidth) (total : ℕ) (rest all : List (List ℕ)) : Type 0 where
  pub is : total + length (elements (c.Symbol w) (symbol_items rest)) ≡ length (elements (c.Symbol w) (symbol_items all))
  pub sized : AreSized (symbol_items rest) → AreSized (symbol_items all)
  pub parts : AreSized (symbol_items all) → AreSized (symbol_items rest)
  pub below : 4 + total < 2 ^ 32

pub symbols_start : (w : SizeWidth) (ss : List (List ℕ)) → SizingSymbols w 0 (drop 0 ss) ss
symbols_start w ss = record { is = omega arith; sized = λ z. z; parts = λ z. z; below = omega arith }

laid_length : (w : SizeWidth) (s : List ℕ) → length (laid (c.Symbol w) (symbol s)) ≡ octet_count w + length s
unfolding laid
laid_length w s = length-block w s

next_symbol : (w : SizeWidth) (total n : ℕ) (s : List ℕ) (rest all : List (List ℕ)) → SizingSymbols w total (s ∷ rest) all → n ≡ total + (length s + octet_count w) → length s < 2 ^ 32 → 4 + n < 2 ^ 32 → SizingSymbols w n rest all
unfolding IsSized
next_symbol w total n s rest all h e lt below = record {
  is = omega (arith, h.is, e, laid_length w s, length-append (laid (c.Symbol w) (symbol s)) (elements (c.Symbol w) (symbol_items rest)));
  sized = λ z. h.sized (lt, z);
  parts = λ z. (h.parts z).1;
  below = below;
}

at_symbol : (w : SizeWidth) (total : ℕ) (ss : List (List ℕ)) (i : ℕ) (s : List ℕ) → i < length ss → s ≡ get_or ss i s → SizingSymbols w total (drop i ss) ss → SizingSymbols w total (s ∷ drop (i + 1) ss) ss
at_symbol w total ss i s lt is h = subst (λ (z : List (List ℕ)). SizingSymbols w total z ss) (drop_more ss i s lt ∙ ap (λ (z : List ℕ). z ∷ drop (i + 1) ss) (sym is)) h

pub symbols_go : (w : SizeWidth) (total n : ℕ) (ss : List (List ℕ)) (i : ℕ) (s : List ℕ) → i < length ss → s ≡ get_or ss i s → SizingSymbols w total (drop i ss) ss → n ≡ total + (length s + octet_count w) → length s < 2 ^ 32 → 4 + n < 2 ^ 32
    → SizingSymbols w n (drop (i + 1) ss) ss
symbols_go w total n ss i s lt is h e small below = next_symbol w total n s (drop (i + 1) ss) ss (at_symbol w total ss i s lt is h) e small below

long_symbol : (w : SizeWidth) (total : ℕ) (s : List ℕ) (rest all : List (List ℕ)) → SizingSymbols w total (s ∷ rest) all → 2 ^ 32 ≤ length s → TakeElements None w (symbol_items all)
unfolding IsSized
long_symbol w total s rest all h le = λ z b. absurd (omega (arith, (h.parts z).0, le))

pub symbol_long : (w : SizeWidth) (total : ℕ) (ss : List (List ℕ)) (i : ℕ) (s : List ℕ) → i < length ss → s ≡ get_or ss i s → SizingSymbols w total (drop i ss) ss → 2 ^ 32 ≤ length s → TakeElements None w (symbol_items ss)
symbol_long w total ss i s lt is h le = long_symbol w total s (drop (i + 1) ss) ss (at_symbol w total ss i s lt is h) le

long_sum : (w : SizeWidth) (total : ℕ) (s : List ℕ) (rest all : List (List ℕ)) → SizingSymbols w total (s ∷ rest) all → 2 ^ 32 ≤ 4 + (total + (length s + octet_count w)) → TakeElements None w (symbol_items all)
long_sum w total s rest all h le = λ z b. absurd (omega (arith, h.is, laid_length w s, length-append (laid (c.Symbol w) (symbol s)) (elements (c.Symbol w) (symbol_items rest)), le, b))

pub symbols_long : (w : SizeWidth) (total : ℕ) (ss : List (List ℕ)) (i : ℕ) (s : List ℕ) → i < length ss → s ≡ get_or ss i s → SizingSymbols w total (drop i ss) ss → 2 ^ 32 ≤ 4 + (total + (length s + octet_count w)) → TakeElements None w (symbol_items ss)
symbols_long w total ss i s lt is h le = long_sum w total s (drop (i + 1) ss) ss (at_symbol w total ss i s lt is h) le

at_end : (w : SizeWidth) (total : ℕ) (ss : List (List ℕ)) (i : ℕ) → length ss ≤ i → SizingSymbols w total (drop i ss) ss → SizingSymbols w total [] ss
at_end w total ss i le h = subst (λ (z : List (List ℕ)). SizingSymbols w total z ss) (drop_all i ss le) h

pub symbols_end : (w : SizeWidth) (total : ℕ) (ss : List (List ℕ)) (i : ℕ) → length ss ≤ i → SizingSymbols w total (drop i ss) ss → 5 + total < 2 ^ 32 → TakeElements (Some total) w (symbol_items ss)
unfolding IsSized
symbols_end w total ss i le h lt = let g = at_end w total ss i le h in record { bytes = omega (arith, g.is); sized = g.sized tt; short = lt }

pub symbols_over : (w : SizeWidth) (total : ℕ) (ss : List (List ℕ)) (i : ℕ) → length ss ≤ i → SizingSymbols w total (drop i ss) ss → 2 ^ 32 ≤ 5 + total → TakeElements None w (symbol_items ss)
symbols_over w total ss i le h ge = let g = at_end w total ss i le h in λ z b. absurd (omega (arith, g.is, ge, b))

-- ---- the array

pub symbols_are : (n size levels : ℕ) (ss : List (List ℕ)) → depth (of_symbols ss) ≤ levels → TakeElements (Some size) (narrow_if (are_short (symbol_items ss))) (symbol_items ss) → n ≡ compound_length (length ss) (size + 1) → HasSize n levels (of_symbols ss)
unfolding canonical IsSized
symbols_are n size levels ss le h e =
    let vs : Items = symbol_items ss in
    let w : SizeWidth = narrow_if (are_short vs) in
    let items : size + 1 ≡ length (array_items k.Symbol vs) = omega (arith, h.bytes) in
    record {
      is = e ∙ ap (λ (z : ℕ). compound_length z (size + 1)) (sym (count_symbols ss)) ∙ ap (compound_length (count vs)) items ∙ sym (length-compound array_number (count vs) (array_items k.Symbol vs));
      fits = record {
        sized = (h.sized, omega (arith, h.short, items, length-content Four (count vs) (array_items k.Symbol vs)));
        nests = le;
      };
    }

pub symbols_deep : (levels : ℕ) (ss : List (List ℕ)) → levels < depth (of_symbols ss) → Fits levels (of_symbols ss) → ⊥
symbols_deep levels ss lt f = absurd (omega (arith, f.nests, lt))

pub symbols_refused : (levels : ℕ) (ss : List (List ℕ)) → TakeElements None (narrow_if (are_short (symbol_items ss))) (symbol_items ss) → Fits levels (of_symbols ss) → ⊥
unfolding IsSized
symbols_refused levels ss h f =
    let vs : Items = symbol_items ss in
    h f.sized.0 (omega (arith, f.sized.1, length-content Four (count vs) (array_items k.Symbol vs)))
