-- Frames in order, and how many Transfers are among them.
use Rattle.std.specs.Prelude.{◌≡◌, ℕ, ◌+◌, List, [], ◌∷◌, ◌++◌, length, All, refl}
use Rattle.std.proofs.Common.{sym, ◌∙◌, ap, arith, length-append}
use Rattle.std.proofs.lemmas.List.Elements.{All-nil, All-cons, All-head, All-tail}
use Rattle.amqp_frames.specs.declared.body.FrameBody.{FrameBody}
use Rattle.amqp_frames.specs.declared.body.FrameBody.TheVariants as b
use Rattle.amqp_session.specs.State.{Framed}
use Rattle.session_laws.specs.Messages.{transfer_in}
use Rattle.session_laws.specs.Holding.{transfers}
use Rattle.window_laws.specs.Counting.{count, behind, InOrder}
use Rattle.window_laws.proofs.Walks.{counted}

-- ---- counts

pub counted_push : (n : ℕ) (xs : List Framed) (x : Framed) → counted n (xs ++ x ∷ []) ≡ behind (counted n xs) x.body
counted_push n [] x = refl
counted_push n (y ∷ ys) x = counted_push (behind n y.body) ys x

pub counted_both : (n : ℕ) (xs ys : List Framed) → counted n (xs ++ ys) ≡ counted (counted n xs) ys
counted_both n [] ys = refl
counted_both n (x ∷ xs) ys = counted_both (behind n x.body) xs ys

one_more : (n : ℕ) (x : FrameBody) → behind n x ≡ n + length (transfer_in x)
one_more n (b.Transfer x payload) = omega arith
one_more n other = omega arith

more : (n m k i l : ℕ) → k ≡ n + l → i ≡ k + m → i ≡ n + (l + m)
more n m k i l e f = omega arith

pub counted_is : (n : ℕ) (xs : List Framed) → counted n xs ≡ n + count xs
counted_is n [] = omega arith
counted_is n (x ∷ xs) =
    let e = counted_is (behind n x.body) xs in
    let both = length-append (transfer_in x.body) (transfers xs) in
    more n (count xs) (behind n x.body) (counted (behind n x.body) xs) (length (transfer_in x.body)) (one_more n x.body) e ∙ ap (λ (m : ℕ). n + m) (sym both)

pub counted_all : (xs : List Framed) → counted 0 xs ≡ count xs
counted_all xs = (let e = counted_is 0 xs in omega (arith, e))

pub count_both : (xs ys : List Framed) → count (xs ++ ys) ≡ count xs + count ys
count_both xs ys =
    let e = counted_both 0 xs ys in
    let f = counted_is (counted 0 xs) ys in
    let g = counted_all (xs ++ ys) in
    let h = counted_all xs in
    omega (arith, e, f, g, h)

-- ---- in order

pub order_push : (P : ℕ → FrameBody → Type 0) (n : ℕ) (xs : List Framed) (x : Framed) → InOrder P n xs → P (counted n xs) x.body → InOrder P n (xs ++ x ∷ [])
order_push P n [] x h p = (p, tt)
order_push P n (y ∷ ys) x h p = (h.0, order_push P (behind n y.body) ys x h.1 p)

pub order_first : (P : ℕ → FrameBody → Type 0) (n : ℕ) (xs ys : List Framed) → InOrder P n (xs ++ ys) → InOrder P n xs
order_first P n [] ys h = tt
order_first P n (x ∷ xs) ys h = (h.0, order_first P (behind n x.body) xs ys h.1)

pub order_last : (P : ℕ → FrameBody → Type 0) (n : ℕ) (xs ys : List Framed) → InOrder P n (xs ++ ys) → InOrder P (counted n xs) ys
order_last P n [] ys h = h
order_last P n (x ∷ xs) ys h = order_last P (behind n x.body) xs ys h.1

pub order_so : (P R : ℕ → FrameBody → Type 0) (n : ℕ) (xs : List Framed) → ((m : ℕ) (x : FrameBody) → P m x → R m x) → InOrder P n xs → InOrder R n xs
order_so P R n [] f h = tt
order_so P R n (x ∷ xs) f h = (f n x.body h.0, order_so P R (behind n x.body) xs f h.1)

pub order_both : (P R T : ℕ → FrameBody → Type 0) (n : ℕ) (xs : List Framed) → ((m : ℕ) (x : FrameBody) → P m x → R m x → T m x) → InOrder P n xs → InOrder R n xs → InOrder T n xs
order_both P R T n [] f h k = tt
order_both P R T n (x ∷ xs) f h k = (f n x.body h.0 k.0, order_both P R T (behind n x.body) xs f h.1 k.1)

-- what holds of each alone
abbrev pub Each : (FrameBody → Type 0) → ℕ → FrameBody → Type 0
Each P n x = P x

pub each_all : (P : FrameBody → Type 0) (n : ℕ) (xs : List Framed) → InOrder (Each P) n xs → All (λ (x : Framed). P x.body) xs
each_all P n [] h = All-nil (λ (x : Framed). P x.body)
each_all P n (x ∷ xs) h = All-cons (λ (x : Framed). P x.body) x xs h.0 (each_all P (behind n x.body) xs h.1)

pub all_each : (P : FrameBody → Type 0) (n : ℕ) (xs : List Framed) → All (λ (x : Framed). P x.body) xs → InOrder (Each P) n xs
all_each P n [] h = tt
all_each P n (x ∷ xs) h = (All-head (λ (y : Framed). P y.body) x xs h, all_each P (behind n x.body) xs (All-tail (λ (y : Framed). P y.body) x xs h))

-- nothing need be known
pub none_known : (n : ℕ) (xs : List Framed) → InOrder (Each (λ x. Unit {0})) n xs
none_known n [] = tt
none_known n (x ∷ xs) = (tt, none_known (behind n x.body) xs)

-- what holds of each alone holds wherever they begin
pub any_start : (P : FrameBody → Type 0) (n m : ℕ) (xs : List Framed) → InOrder (Each P) n xs → InOrder (Each P) m xs
any_start P n m [] h = tt
any_start P n m (x ∷ xs) h = (h.0, any_start P (behind n x.body) (behind m x.body) xs h.1)
