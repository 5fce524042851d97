-- The pieces of the first bytes, by the last piece.
use Rattle.std.proofs.Common.{◌≡◌, ℕ, zero, suc, ◌+◌, ◌-◌, ◌<◌, ◌≤◌, List, [], ◌∷◌, ◌++◌, length, get_or, set, take, min, refl, sym, ap, subst, ◌∙◌, arith, length-append}
use Rattle.std.specs.Prelude.{All}
use Rattle.std.proofs.lemmas.List.{take_all, take_min, take_more, length-take-le, length-set}
use Rattle.std.proofs.lemmas.List.Elements.{All-set}
use Rattle.std.proofs.lemmas.Grind.{take-set_at}
use Rattle.amqp_value.specs.Pieces.{joined, front_pieces}
use Rattle.amqp_value.proofs.Joined.{joined-push}

-- none of some bytes
taken_none : (bs : List ℕ) → take zero bs ≡ []
taken_none [] = refl
taken_none (b ∷ bs) = refl

-- bytes in two parts: all of the first part and some of the second
taken : (n : ℕ) (p bs : List ℕ) → take n (p ++ bs) ≡ take n p ++ take (n - length p) bs
taken zero [] bs = refl
taken zero (b ∷ p) bs = let none : zero - length (b ∷ p) ≡ zero = omega arith in ap (λ (k : ℕ). take k bs) (sym none)
taken (suc n) [] bs = let all : suc n - 0 ≡ suc n = omega arith in ap (λ (k : ℕ). take k bs) (sym all)
taken (suc n) (b ∷ p) bs =
    let less : n - length p ≡ suc n - length (b ∷ p) = omega arith in
    ap (λ (z : List ℕ). b ∷ z) (taken n p bs ∙ ap (λ (k : ℕ). take n p ++ take k bs) less)

-- bytes that end before the last piece
pub front-without_last : (n : ℕ) (ps : List (List ℕ)) (q : List ℕ) → n ≤ length (joined ps) → front_pieces n (ps ++ q ∷ []) ≡ front_pieces n ps
front-without_last zero [] q le = refl
front-without_last zero (p ∷ ps) q le = refl
front-without_last (suc n) [] q le = absurd (omega arith)
front-without_last (suc n) (p ∷ ps) q le =
    ap (λ (z : List (List ℕ)). take (suc n) p ∷ z) (front-without_last (suc n - length p) ps q (omega (arith, le, length-append p (joined ps))))

-- bytes that end in the last piece or behind it
pub front-in_last : (n : ℕ) (ps : List (List ℕ)) (q : List ℕ) → length (joined ps) < n → front_pieces n (ps ++ q ∷ []) ≡ ps ++ take (n - length (joined ps)) q ∷ []
front-in_last zero ps q lt = absurd (omega arith)
front-in_last (suc n) [] q lt = let all : suc n - 0 ≡ suc n = omega arith in ap (λ (k : ℕ). take k q ∷ []) (sym all)
front-in_last (suc n) (p ∷ ps) q lt =
    let all : length p + length (joined ps) ≡ length (joined (p ∷ ps)) = sym (length-append p (joined ps)) in
    let whole : take (suc n) p ≡ p = take_all (suc n) p (omega arith) in
    let rest = front-in_last (suc n - length p) ps q (omega arith) in
    let same : suc n - length p - length (joined ps) ≡ suc n - length (joined (p ∷ ps)) = omega arith in
    ap (λ (z : List ℕ). z ∷ front_pieces (suc n - length p) (ps ++ q ∷ [])) whole ∙ ap (λ (z : List (List ℕ)). p ∷ z) (rest ∙ ap (λ (k : ℕ). ps ++ take k q ∷ []) same)

-- the bytes of the first pieces
pub joined-front : (n : ℕ) (ps : List (List ℕ)) → joined (front_pieces n ps) ≡ take n (joined ps)
joined-front zero [] = refl
joined-front zero (p ∷ ps) = sym (taken_none (joined (p ∷ ps)))
joined-front (suc n) [] = refl
joined-front (suc n) (p ∷ ps) = ap (λ (z : List ℕ). take (suc n) p ++ z) (joined-front (suc n - length p) ps) ∙ sym (taken (suc n) p (joined ps))

-- the pieces by their last
pub by_last : (ps : List (List ℕ)) (i : ℕ) (q : List ℕ) → i + 1 ≡ length ps → q ≡ get_or ps i q → ps ≡ take i ps ++ q ∷ []
by_last ps i q at is =
    sym (take_all (i + 1) ps (omega arith)) ∙ take_more ps i q (omega arith) ∙ ap (λ (z : List ℕ). take i ps ++ z ∷ []) (sym is)

-- another last piece
set_last : (ps : List (List ℕ)) (i : ℕ) (q : List ℕ) → i + 1 ≡ length ps → set ps i q ≡ take i ps ++ q ∷ []
set_last ps i q at =
    sym (take_all (length ps) (set ps i q) (omega (arith, length-set ps i q))) ∙ take-set_at ps i (length ps) q (omega arith) (omega arith)

-- the same last piece
pub last_kept : (ps : List (List ℕ)) (i : ℕ) (q : List ℕ) → i + 1 ≡ length ps → q ≡ get_or ps i q → set ps i q ≡ ps
last_kept ps i q at is = set_last ps i q at ∙ sym (by_last ps i q at is)

-- how many bytes there are with a last piece
pub last_size : (ps all : List (List ℕ)) (q : List ℕ) → all ≡ ps ++ q ∷ [] → length (joined all) ≡ length (joined ps) + length q
last_size ps all q is = ap (λ (z : List (List ℕ)). length (joined z)) is ∙ ap length (joined-push ps q) ∙ length-append (joined ps) q

-- the last piece has bytes, and no more than all have
pub last_fits : (ps : List (List ℕ)) (i : ℕ) (q : List ℕ) (total : ℕ) → i + 1 ≡ length ps → q ≡ get_or ps i q → total ≡ length (joined ps) → All (λ (p : List ℕ). 0 < length p) ps → (0 < length q) × (length q ≤ total)
last_fits ps i q total at is t filled =
    let all = last_size (take i ps) ps q (by_last ps i q at is) in
    (subst (λ (z : List ℕ). 0 < length z) (sym is) (filled i q (omega arith)), omega arith)

-- the piece that is cut: how long it is
cut_length : (ps : List (List ℕ)) (i : ℕ) (q x : List ℕ) (total kept : ℕ) → i + 1 ≡ length ps → q ≡ get_or ps i q → total ≡ length (joined ps) → total - length q < kept → kept ≤ total → x ≡ take (kept - (total - length q)) q → length x + length (joined (take i ps)) ≡ kept
cut_length ps i q x total kept at is t lt le cut =
    let all = last_size (take i ps) ps q (by_last ps i q at is) in
    let long : length x ≡ kept - (total - length q) = ap length cut ∙ length-take-le (kept - (total - length q)) q (omega arith) in
    omega arith

-- how many bytes are left with the last piece cut
pub cut_size : (ps : List (List ℕ)) (i : ℕ) (q x : List ℕ) (total kept : ℕ) → i + 1 ≡ length ps → q ≡ get_or ps i q → total ≡ length (joined ps) → total - length q < kept → kept ≤ total → x ≡ take (kept - (total - length q)) q → kept ≡ length (joined (set ps i x))
cut_size ps i q x total kept at is t lt le cut =
    let long = cut_length ps i q x total kept at is t lt le cut in
    let new = last_size (take i ps) (set ps i x) x (set_last ps i x at) in
    omega arith

-- no piece is empty with the last piece cut
pub cut_filled : (ps : List (List ℕ)) (i : ℕ) (q x : List ℕ) (total kept : ℕ) → i + 1 ≡ length ps → q ≡ get_or ps i q → total ≡ length (joined ps) → total - length q < kept → kept ≤ total → x ≡ take (kept - (total - length q)) q → All (λ (p : List ℕ). 0 < length p) ps → All (λ (p : List ℕ). 0 < length p) (set ps i x)
cut_filled ps i q x total kept at is t lt le cut filled =
    let all = last_size (take i ps) ps q (by_last ps i q at is) in
    let long = cut_length ps i q x total kept at is t lt le cut in
    All-set (λ (p : List ℕ). 0 < length p) ps i x (omega arith) filled

-- the pieces of the first bytes, with the last piece cut
pub cut_front : (ps : List (List ℕ)) (i : ℕ) (q x : List ℕ) (total size kept : ℕ) → i + 1 ≡ length ps → q ≡ get_or ps i q → total ≡ length (joined ps) → total - length q < size → kept ≡ min size total → x ≡ take (kept - (total - length q)) q → set ps i x ≡ front_pieces size ps
cut_front ps i q x total size kept at is t within k cut =
    let parts = by_last ps i q at is in
    let all = last_size (take i ps) ps q parts in
    let same : kept - (total - length q) ≡ min (size - length (joined (take i ps))) (length q) = omega arith in
    let shorter : take (kept - (total - length q)) q ≡ take (size - length (joined (take i ps))) q = ap (λ (n : ℕ). take n q) same ∙ take_min (size - length (joined (take i ps))) q in
    set_last ps i x at ∙ ap (λ (z : List ℕ). take i ps ++ z ∷ []) (cut ∙ shorter) ∙ sym (front-in_last size (take i ps) q (omega arith)) ∙ ap (front_pieces size) (sym parts)

-- the pieces of the first bytes, without the last piece
pub front_left : (ps left : List (List ℕ)) (i : ℕ) (q : List ℕ) (total size : ℕ) → i + 1 ≡ length ps → q ≡ get_or ps i q → left ≡ take i ps → total ≡ length (joined ps) → size ≤ total - length q → front_pieces size left ≡ front_pieces size ps
front_left ps left i q total size at is l t le =
    let parts = by_last ps i q at is in
    let all = last_size (take i ps) ps q parts in
    ap (front_pieces size) l ∙ sym (front-without_last size (take i ps) q (omega arith)) ∙ ap (front_pieces size) (sym parts)
