-- Frames in order, as they are read again, Begins aside.
use Rattle.std.specs.Prelude.{◌≡◌, ℕ, Bool, true, false, List, [], ◌∷◌, ◌++◌, map, if◌then◌else◌, refl}
use Rattle.std.proofs.Common.{sym, subst}
use Rattle.amqp_frames.specs.declared.body.FrameBody.{FrameBody}
use Rattle.amqp_frames.specs.declared.body.FrameBody.TheVariants as b
use Rattle.amqp_frames.specs.Body.{read_again_body}
use Rattle.amqp_session.specs.State.{Framed}
use Rattle.session_laws.specs.Speaking.{bodies}
use Rattle.window_laws.specs.Counting.{behind, InOrder}
use Rattle.window_laws.proofs.Orders.{order_first, order_last}
use Rattle.window_laws.proofs.Walks.{counted}
use Rattle.world_lives.specs.Hearing.{are, AreFirst}
use Rattle.world_lives.specs.WorldWindows.Keeping.{is_later}

-- how many Transfers there were, behind these
abbrev behind_all : ℕ → List FrameBody → ℕ
behind_all n [] = n
behind_all n (x ∷ xs) = behind_all (behind n x) xs

again_behind : (n : ℕ) (x : FrameBody) → behind n (read_again_body x) ≡ behind n x
again_behind n (b.Attach x) = refl
again_behind n other = refl

begin_behind : (n : ℕ) (x : FrameBody) → is_later x ≡ false → behind n x ≡ n
begin_behind n (b.Begin x) e = refl
begin_behind n other e = absurd cc

again_all : (n : ℕ) (xs : List Framed) → behind_all n (map read_again_body (bodies xs)) ≡ counted n xs
again_all n [] = refl
again_all n (x ∷ xs) = by (again_behind n x.body) (again_all (behind n x.body) xs)
  where
    by : behind n (read_again_body x.body) ≡ behind n x.body → behind_all (behind n x.body) (map read_again_body (bodies xs)) ≡ counted (behind n x.body) xs
        → behind_all (behind n (read_again_body x.body)) (map read_again_body (bodies xs)) ≡ counted (behind n x.body) xs
    by e r = subst (λ (m : ℕ). behind_all m (map read_again_body (bodies xs)) ≡ counted (behind n x.body) xs) (sym e) r

module _ (P : ℕ → FrameBody → Type 0) where
  -- each frame is as P says where so many Transfers were before it
  abbrev pub AreIn : ℕ → List FrameBody → Type 0
  AreIn n [] = Unit {0}
  AreIn n (x ∷ xs) = P n x × AreIn (behind n x) xs

  in_bodies : (n : ℕ) (xs : List Framed) → InOrder P n xs → AreIn n (bodies xs)
  in_bodies n [] h = tt
  in_bodies n (x ∷ xs) h = (h.0, in_bodies (behind n x.body) xs h.1)

  pub in_order : (n : ℕ) (xs : List Framed) → AreIn n (bodies xs) → InOrder P n xs
  in_order n [] h = tt
  in_order n (x ∷ xs) h = (h.0, in_order (behind n x.body) xs h.1)

  in_front : (n : ℕ) (xs ys : List FrameBody) → AreIn n (xs ++ ys) → AreIn n xs
  in_front n [] ys h = tt
  in_front n (x ∷ xs) ys h = (h.0, in_front (behind n x) xs ys h.1)

  in_both : (n : ℕ) (xs ys : List FrameBody) → AreIn n xs → AreIn (behind_all n xs) ys → AreIn n (xs ++ ys)
  in_both n [] ys h k = k
  in_both n (x ∷ xs) ys h k = (h.0, in_both (behind n x) xs ys h.1 k)

  -- without the Begins
  in_later : (n : ℕ) (xs : List Framed) → InOrder P n xs → AreIn n (are is_later xs)
  in_later n [] h = tt
  in_later n (x ∷ xs) h = by (is_later x.body) refl (in_later (behind n x.body) xs h.1)
    where
      by : (t : Bool) → is_later x.body ≡ t → AreIn (behind n x.body) (are is_later xs) → AreIn n ((if t then x.body ∷ [] else []) ++ are is_later xs)
      by true e r = (h.0, r)
      by false e r = subst (λ (m : ℕ). AreIn m (are is_later xs)) (begin_behind n x.body e) r

  module _ (again : (n : ℕ) (x : FrameBody) → P n x → P n (read_again_body x)) where
    in_again : (n : ℕ) (xs : List FrameBody) → AreIn n xs → AreIn n (map read_again_body xs)
    in_again n [] h = tt
    in_again n (x ∷ xs) h = (again n x h.0, subst (λ (m : ℕ). AreIn m (map read_again_body xs)) (sym (again_behind n x)) (in_again (behind n x) xs h.1))

    -- what is read of what was written first, and then of what was written since, Begins aside
    pub in_reads : (gave since : List Framed) (got : List FrameBody) → InOrder P 0 (gave ++ since) → AreFirst got (map read_again_body (are is_later since)) → AreIn 0 (map read_again_body (bodies gave) ++ got)
    in_reads gave since got h p =
        let n = counted 0 gave in
        let new : AreIn n (got ++ p.later) = subst (λ (xs : List FrameBody). AreIn n xs) (sym p.whole) (in_again n (are is_later since) (in_later n since (order_last P 0 gave since h))) in
        in_both 0 (map read_again_body (bodies gave)) got (in_again 0 (bodies gave) (in_bodies 0 gave (order_first P 0 gave since h)))
        (subst (λ (m : ℕ). AreIn m got) (sym (again_all 0 gave)) (in_front n got p.later new))
