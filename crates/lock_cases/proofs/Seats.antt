-- The numbers of the seats of a new desk, taken from the end.
use Rattle.std.specs.Prelude.{◌≡◌, ℕ, zero, suc, ◌<◌, List, [], ◌∷◌, ◌++◌, length, slice_get, Some}
use Rattle.std.proofs.Common.{arith, sym, ap, ◌∙◌, inl, inr, length-append}
use Rattle.amqp_delivery.specs.declared.info.DisposerView.{DisposerView}
use Rattle.book_lock.specs.Seats.{Seat, AllHere, new_seat}

some_is : (s t : Seat) → Some s ≡ Some t → s ≡ t
some_is s t is = cc

-- the seat at a place is new, at the table of this one
new_at : (view : DisposerView) (like : Seat) (ss : List Seat) (k : ℕ) (s : Seat) → slice_get ss k ≡ Some (new_seat view k like.table) → slice_get ss k ≡ Some s → s ≡ new_seat view k like.table
new_at view like ss k s new at = some_is s (new_seat view k like.table) (sym at ∙ new)

pub last_of_two : (view : DisposerView) (like : Seat) (ss xs ys : List Seat) (a b : Seat) → length ss ≡ 2 → ((k : ℕ) → k < 2 → slice_get ss k ≡ Some (new_seat view k like.table)) → ss ≡ xs ++ b ∷ [] → xs ≡ ys ++ a ∷ [] → (a ≡ new_seat view 0 like.table) × (b ≡ new_seat view 1 like.table)
last_of_two view like ss xs [] a b len news is was =
    let whole : ss ≡ a ∷ b ∷ [] = is ∙ ap (λ (zs : List Seat). zs ++ b ∷ []) was in (
      new_at view like ss 0 a (news 0 (omega arith)) (ap (λ (zs : List Seat). slice_get zs 0) whole),
      new_at view like ss 1 b (news 1 (omega arith)) (ap (λ (zs : List Seat). slice_get zs 1) whole),
    )
last_of_two view like ss xs (y ∷ ys) a b len news is was = absurd (let p = ap (λ (zs : List Seat). length zs) is in let q = ap (λ (zs : List Seat). length zs) was in let r = length-append xs (b ∷ []) in let t = length-append ys (a ∷ []) in omega arith)

pub two_here : (count : ℕ) (a b : Seat) → count ≡ 2 → a.number ≡ 0 → b.number ≡ 1 → AllHere count (a ∷ b ∷ [])
two_here count a b is first second zero lt = inl first
two_here count a b is first second (suc zero) lt = inr (inl second)
two_here count a b is first second (suc (suc n)) lt = absurd (omega (arith, lt, is))
