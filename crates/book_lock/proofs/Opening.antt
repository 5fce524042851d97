-- A lock that nobody has used.
use Rattle.std.specs.Prelude.{◌≡◌, ℕ, zero, suc, ◌+◌, ◌-◌, ◌<◌, true, List, [], ◌∷◌, Some, refl}
use Rattle.std.proofs.Common.{arith, sym, ap, ◌∙◌, subst, inl, inr}
use mathlib.Core.Option.{some, some-injective, some-ne-none}
use lib.ListN.{get_elem?}
use Rattle.atomic_table.specs.Table.{opening}
use Rattle.book_lock.specs.declared.rule.TicketView.{TicketView}
use Rattle.book_lock.specs.Tickets.{Held}
use Rattle.book_lock.specs.Begins.{from}
use Rattle.book_lock.specs.Rule.{Fits, Kept, IsMine, newcomer}
use Rattle.book_lock.proofs.Beginning.{from_most}

only : (w : TicketView) (i : ℕ) (v : TicketView) → get_elem? (w ∷ []) i ≡ some v → w ≡ v
only w zero v at = some-injective w v at
only w (suc i) v at = absurd (some-ne-none v (sym at))

only_at : (w : TicketView) (i : ℕ) (v : TicketView) → get_elem? (w ∷ []) i ≡ some v → i ≡ 0
only_at w zero v at = refl
only_at w (suc i) v at = absurd (some-ne-none v (sym at))

idle : (ns : List ℕ) (v : TicketView) → newcomer [] ns ≡ v → v.waits ≡ true → ⊥
idle ns v is t = absurd (let e = ap (λ (y : TicketView). y.waits) is in cc)

below : (count n : ℕ) → IsMine n (newcomer [] (from 0 count)) → n < count
below count n (inl a) = let m = from_most n 0 count a in omega arith
below count n (inr a) = absurd a

pub opens : (count : ℕ) (x : Held) → x.history ≡ [] → Kept count (opening (0 ∷ 0 ∷ []) (Some x ∷ []) (newcomer [] (from 0 count)))
opens count x none = record {
  next = 0;
  serving = 0;
  log = [];
  words = refl;
  few = omega arith;
  short = omega arith;
  strangers = λ n far. refl;
  each = λ i v at. subst (Fits count 0 0 []) (only (newcomer [] (from 0 count)) i v at) (record {
    learns = (([], refl), ([], refl), (λ n a. refl), (λ n a. absurd a));
    below = λ n m. below count n m;
    drawn = λ t. absurd cc;
    turn = λ t. absurd cc;
  });
  apart = λ i j v w ai bj vw ww e. absurd (idle (from 0 count) v (only (newcomer [] (from 0 count)) i v ai) vw);
  lone = λ i j n v w ai bj mv mw. only_at (newcomer [] (from 0 count)) i v ai ∙ sym (only_at (newcomer [] (from 0 count)) j w bj);
  home = inl (x, refl, none, λ i v at. sym (ap (λ (y : TicketView). y.turn) (only (newcomer [] (from 0 count)) i v at)));
}

-- numbers that are not used up begin with the next one
pub from_step : (k m count : ℕ) → k < count → m ≡ count - k → from k m ≡ k ∷ from (k + 1) (count - (k + 1))
from_step k zero count lt is = absurd (omega (arith, lt, is))
from_step k (suc m) count lt is = ap (λ (n : ℕ). k ∷ from (k + 1) n) (let e : m ≡ count - (k + 1) = omega (arith, lt, is) in e)
