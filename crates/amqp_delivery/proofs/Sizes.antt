-- How many pairs there are.
use Rattle.std.specs.Prelude.{◌≡◌, ℕ, ◌+◌, ◌≤◌, ◌==◌, nat_le, Bool, true, false, cond, List, [], ◌∷◌, length, refl}
use Rattle.std.proofs.Common.{arith}
use Rattle.amqp_delivery.specs.Ranges.{rank_of, insert_pair, remove_pair}

more_by : (b : Bool) (p q : ℕ × ℕ) (qs ps : List (ℕ × ℕ)) → length ps ≡ length qs + 1 → length (cond b (p ∷ q ∷ qs) (q ∷ ps)) ≡ length (q ∷ qs) + 1
more_by true p q qs ps h = omega arith
more_by false p q qs ps h = omega (arith, h)

pub inserted_more : (p : ℕ × ℕ) (s : List (ℕ × ℕ)) → length (insert_pair p s) ≡ length s + 1
inserted_more p [] = omega arith
inserted_more p (q ∷ qs) = more_by (nat_le (rank_of p) (rank_of q)) p q qs (insert_pair p qs) (inserted_more p qs)

fewer_by : (b c : Bool) (q : ℕ × ℕ) (qs ps : List (ℕ × ℕ)) → length ps ≤ length qs → length (cond b (cond c qs (q ∷ qs)) (q ∷ ps)) ≤ length (q ∷ qs)
fewer_by true true q qs ps h = omega arith
fewer_by true false q qs ps h = omega arith
fewer_by false c q qs ps h = omega (arith, h)

pub removed_fewer : (p : ℕ × ℕ) (s : List (ℕ × ℕ)) → length (remove_pair p s) ≤ length s
removed_fewer p [] = omega arith
removed_fewer p (q ∷ qs) = fewer_by (nat_le (rank_of p) (rank_of q)) (rank_of p == rank_of q) q qs (remove_pair p qs) (removed_fewer p qs)
