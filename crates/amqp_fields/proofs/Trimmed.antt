-- Fields without the nulls at the end.
use Rattle.std.proofs.Common.{◌≡◌, ℕ, zero, suc, ◌≤◌, List, [], ◌∷◌, ◌++◌, length, map, take, refl, sym, ap, ◌∙◌, arith}
use Rattle.std.proofs.lemmas.List.{take_all}
use Rattle.amqp_data.specs.declared.value.Value.{Value}
use Rattle.amqp_data.specs.Data.{Amqp, Items, null, boolean, ubyte, ushort, uint, ulong, byte, short, int, long, char, timestamp, uuid, binary, string, symbol, scalar, list, dict, array, described, no_items, item}
use Rattle.amqp_data.specs.View.{view, items_view}
use Rattle.amqp_fields.specs.Fields.{kept_before, trimmed}

kept_there : (v : Amqp) → (v ≡ scalar null → ⊥) → kept_before v no_items ≡ item v no_items
kept_there (scalar null) h = absurd (h refl)
kept_there (scalar (boolean b)) h = refl
kept_there (scalar (ubyte n)) h = refl
kept_there (scalar (ushort n)) h = refl
kept_there (scalar (uint n)) h = refl
kept_there (scalar (ulong n)) h = refl
kept_there (scalar (byte n)) h = refl
kept_there (scalar (short n)) h = refl
kept_there (scalar (int n)) h = refl
kept_there (scalar (long n)) h = refl
kept_there (scalar (char n)) h = refl
kept_there (scalar (timestamp n)) h = refl
kept_there (scalar (uuid u)) h = refl
kept_there (scalar (binary s)) h = refl
kept_there (scalar (string s)) h = refl
kept_there (scalar (symbol s)) h = refl
kept_there (list ws) h = refl
kept_there (dict ps) h = refl
kept_there (array k ws) h = refl
kept_there (described d w) h = refl

kept_more : (v w : Amqp) (ws : Items) → kept_before v (item w ws) ≡ item v (item w ws)
kept_more (scalar null) w ws = refl
kept_more (scalar (boolean b)) w ws = refl
kept_more (scalar (ubyte n)) w ws = refl
kept_more (scalar (ushort n)) w ws = refl
kept_more (scalar (uint n)) w ws = refl
kept_more (scalar (ulong n)) w ws = refl
kept_more (scalar (byte n)) w ws = refl
kept_more (scalar (short n)) w ws = refl
kept_more (scalar (int n)) w ws = refl
kept_more (scalar (long n)) w ws = refl
kept_more (scalar (char n)) w ws = refl
kept_more (scalar (timestamp n)) w ws = refl
kept_more (scalar (uuid u)) w ws = refl
kept_more (scalar (binary s)) w ws = refl
kept_more (scalar (string s)) w ws = refl
kept_more (scalar (symbol s)) w ws = refl
kept_more (list xs) w ws = refl
kept_more (dict ps) w ws = refl
kept_more (array k xs) w ws = refl
kept_more (described d x) w ws = refl

kept_list : (v : Amqp) (xs : List Value) (x : Value) → kept_before v (items_view (xs ++ x ∷ [])) ≡ item v (items_view (xs ++ x ∷ []))
kept_list v [] x = kept_more v (view x) no_items
kept_list v (y ∷ xs) x = kept_more v (view y) (items_view (xs ++ x ∷ []))

last_kept : (xs : List Value) (x : Value) → (view x ≡ scalar null → ⊥) → trimmed (map view (xs ++ x ∷ [])) ≡ items_view (xs ++ x ∷ [])
last_kept [] x h = kept_there (view x) h
last_kept (y ∷ xs) x h = ap (kept_before (view y)) (last_kept xs x h) ∙ kept_list (view y) xs x

null_dropped : (xs : List Value) (x : Value) → view x ≡ scalar null → trimmed (map view (xs ++ x ∷ [])) ≡ trimmed (map view xs)
null_dropped [] x e = ap (λ (v : Amqp). kept_before v no_items) e
null_dropped (y ∷ xs) x e = ap (kept_before (view y)) (null_dropped xs x e)

take_front : (n : ℕ) (xs ys : List Value) → n ≤ length xs → take n (xs ++ ys) ≡ take n xs
take_front zero xs ys le = refl
take_front (suc n) [] ys le = absurd (omega (arith, le))
take_front (suc n) (x ∷ xs) ys le = ap (λ (z : List Value). x ∷ z) (take_front n xs ys (omega (arith, le)))

pub with_last : (all front : List Value) (last : Value) → all ≡ front ++ last ∷ [] → (view last ≡ scalar null → ⊥) → items_view (take (length all) all) ≡ trimmed (map view all)
with_last all front last e h =
    ap items_view (take_all (length all) all (omega arith)) ∙ ap items_view e ∙ sym (last_kept front last h) ∙ ap (λ (z : List Value). trimmed (map view z)) (sym e)

pub without_last : (all front : List Value) (last : Value) (n : ℕ) → all ≡ front ++ last ∷ [] → view last ≡ scalar null → n ≤ length front → items_view (take n front) ≡ trimmed (map view front) → items_view (take n all) ≡ trimmed (map view all)
without_last all front last n e f le h =
    ap (λ (z : List Value). items_view (take n z)) e ∙ ap items_view (take_front n front (last ∷ []) le) ∙ h ∙ sym (null_dropped front last f) ∙ ap (λ (z : List Value). trimmed (map view z)) (sym e)
