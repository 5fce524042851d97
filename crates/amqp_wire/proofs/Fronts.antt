-- Reading the front of bytes in memory.
use Rattle.std.proofs.Common.{◌≡◌, ◌≤◌, ◌+◌, ◌-◌, ℕ, List, ◌++◌, length, take, drop, ap, sym, ◌∙◌, arith, length-append}
use Rattle.std.proofs.lemmas.List.{take_at, take-append-drop, drop-drop}

-- what is left is the part that was read and what is left then
pub read_front : (left items part rest : List ℕ) (f n : ℕ) → drop f items ≡ left → part ≡ take (f + n - f) (drop f items) → length part ≡ n → (n ≤ length (part ++ rest)) × (left ≡ take n (part ++ rest) ++ drop (f + n) items)
read_front left items part rest f n v e l =
    let k : f + n - f ≡ n = omega arith in (
      omega (arith, length-append part rest, l),
      sym v ∙ sym (take-append-drop n (drop f items)) ∙ ap (λ (p : List ℕ). p ++ drop n (drop f items)) (sym (e ∙ ap (λ i. take i (drop f items)) k) ∙ sym (take_at part rest n l)) ∙ ap (λ (d : List ℕ). take n (part ++ rest) ++ d) (drop-drop n f items),
    )
