use Rattle.std.proofs.Common.{◌≡◌, ◌≤◌, ◌⊎◌, inl, inr, ℕ, List, [], ◌++◌, length, take, drop, get_or, sym, ap, ◌∙◌, arith, take-append-drop}
use Rattle.std.proofs.lemmas.List.{get_or_append_left, length-take-le}
use Rattle.amqp_wire.specs.Size.{size_of}
use Rattle.amqp_wire.specs.Cut.{IsCut}
use Rattle.amqp_wire.specs.Frame.{HasBody}

-- later bytes change no size
pub size_of-append : (xs ys : List ℕ) → 4 ≤ length xs → size_of (xs ++ ys) ≡ size_of xs
size_of-append xs ys l =
    let h0 : get_or (xs ++ ys) 0 0 ≡ get_or xs 0 0 = get_or_append_left xs ys 0 0 (omega arith) in
    let h1 : get_or (xs ++ ys) 1 0 ≡ get_or xs 1 0 = get_or_append_left xs ys 0 1 (omega arith) in
    let h2 : get_or (xs ++ ys) 2 0 ≡ get_or xs 2 0 = get_or_append_left xs ys 0 2 (omega arith) in
    let h3 : get_or (xs ++ ys) 3 0 ≡ get_or xs 3 0 = get_or_append_left xs ys 0 3 (omega arith) in
    omega arith

-- the front of a frame has its size
pub size_of-take : (n : ℕ) (xs : List ℕ) → 4 ≤ n → n ≤ length xs → size_of (take n xs) ≡ size_of xs
size_of-take n xs l m =
    let k : length (take n xs) ≡ n = length-take-le n xs m in
    sym (size_of-append (take n xs) (drop n xs) (omega arith)) ∙ ap size_of (take-append-drop n xs)

-- what is cut off has the size of the frame in front
pub cut_is_size : (kind limit : ℕ) (cut rest : List ℕ) (size start channel : ℕ) → IsCut cut → HasBody kind limit (cut ++ rest) size start channel → (cut ≡ []) ⊎ (length cut ≡ size)
cut_is_size kind limit cut rest size start channel (inl e) h = inl e
cut_is_size kind limit cut rest size start channel (inr p) h = inr (sym p.1 ∙ sym (size_of-append cut rest (omega (arith, p.0))) ∙ sym h.size_is)

pub taken_is_cut : (kind limit : ℕ) (all : List ℕ) (size start channel : ℕ) → HasBody kind limit all size start channel → IsCut (take size all)
taken_is_cut kind limit all size start channel h =
    let n : size ≤ length all = omega (arith, h.size_is, h.whole.all) in
    let k : length (take size all) ≡ size = length-take-le size all n in
    let least : 8 ≤ size = omega (arith, h.size_is, h.whole.size.least) in
    inr (omega arith, size_of-take size all (omega arith) n ∙ sym h.size_is ∙ sym k)
