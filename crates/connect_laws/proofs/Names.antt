-- The names of the calls of a run rise.
use Rattle.std.proofs.Common.{◌≡◌, ◌⊎◌, inl, inr, ap, subst, sym, arith, ℕ, ◌<◌, ◌≤◌, List, [], ◌∷◌, Option, Some, None}
use Rattle.amqp_wire.specs.declared.link.Link.{Ghosts}
use Rattle.amqp_end.specs.declared.end.End.{End}
use Rattle.amqp_end.specs.Asks.{IsNew}
use Rattle.amqp_serve.specs.Ran.{Turn, calls, polls, waits, tells, forgets, Ran}

-- a call has that name
unfoldable pub HasName : ℕ → List Turn → Type 0
HasName n [] = ⊥
HasName n (calls m call ∷ ts) = (m ≡ n) ⊎ HasName n ts
HasName n (polls ∷ ts) = HasName n ts
HasName n (waits ∷ ts) = HasName n ts
HasName n (tells rs ∷ ts) = HasName n ts
HasName n (forgets m ∷ ts) = HasName n ts

-- the last call has that name, or a higher one
abbrev pub IsUpTo : ℕ → Option ℕ → Type 0
IsUpTo n None = ⊥
IsUpTo n (Some last) = n ≤ last

up_to_new : (n m : ℕ) (last : Option ℕ) → IsUpTo n last → IsNew last m → n < m
up_to_new n m None h new = absurd h
up_to_new n m (Some last) h new = omega (arith, h, new)

module _ {L : Type 0} (link : Ghosts L) where
  -- behind a turn without a call the last call is the same
  kept : (n : ℕ) (a b : End L) → b.last ≡ a.last → IsUpTo n a.last → IsUpTo n b.last
  kept n a b e h = subst (IsUpTo n) (sym e) h

  -- each name is at most that of the last call
  pub up_to_last : (n : ℕ) (old : End L) (ts : List Turn) (new : End L) → Ran link old ts new → HasName n ts → IsUpTo n new.last
  unfolding Ran HasName
  up_to_last n old [] new k h = absurd h
  up_to_last n old (calls m call ∷ ts) new k (inl e) = subst (IsUpTo n) (sym k.2.2.last) (omega (arith, e))
  up_to_last n old (calls m call ∷ ts) new k (inr r) =
      let lt : n < m = up_to_new n m k.0.last (up_to_last n old ts k.0 k.1 r) k.2.0.0 in
      subst (IsUpTo n) (sym k.2.2.last) (omega (arith, lt))
  up_to_last n old (polls ∷ ts) new k h = kept n k.0 new k.2.1.last (up_to_last n old ts k.0 k.1 h)
  up_to_last n old (waits ∷ ts) new k h = kept n k.0 new (ap (λ (e : End L). e.last) k.2.rest) (up_to_last n old ts k.0 k.1 h)
  up_to_last n old (tells rs ∷ ts) new k h = kept n k.0 new k.2.1.last (up_to_last n old ts k.0 k.1 h)
  up_to_last n old (forgets m ∷ ts) new k h = kept n k.0 new k.2.last (up_to_last n old ts k.0 k.1 h)

  -- what the last call is up to it stays up to
  pub stays_up : (n : ℕ) (old : End L) (ts : List Turn) (new : End L) → Ran link old ts new → IsUpTo n old.last → IsUpTo n new.last
  unfolding Ran
  stays_up n old [] new k h = subst (λ (e : End L). IsUpTo n e.last) (sym k) h
  stays_up n old (calls m call ∷ ts) new k h =
      let lt : n < m = up_to_new n m k.0.last (stays_up n old ts k.0 k.1 h) k.2.0.0 in
      subst (IsUpTo n) (sym k.2.2.last) (omega (arith, lt))
  stays_up n old (polls ∷ ts) new k h = kept n k.0 new k.2.1.last (stays_up n old ts k.0 k.1 h)
  stays_up n old (waits ∷ ts) new k h = kept n k.0 new (ap (λ (e : End L). e.last) k.2.rest) (stays_up n old ts k.0 k.1 h)
  stays_up n old (tells rs ∷ ts) new k h = kept n k.0 new k.2.1.last (stays_up n old ts k.0 k.1 h)
  stays_up n old (forgets m ∷ ts) new k h = kept n k.0 new k.2.last (stays_up n old ts k.0 k.1 h)

  -- a later name is higher
  pub above : (n m : ℕ) (old : End L) (ts : List Turn) (new : End L) → Ran link old ts new → IsUpTo n old.last → HasName m ts → n < m
  unfolding Ran HasName
  above n m old [] new k h has = absurd has
  above n m old (calls o call ∷ ts) new k h (inl e) = (let lt : n < o = up_to_new n o k.0.last (stays_up n old ts k.0 k.1 h) k.2.0.0 in subst (λ (i : ℕ). n < i) e lt)
  above n m old (calls o call ∷ ts) new k h (inr r) = above n m old ts k.0 k.1 h r
  above n m old (polls ∷ ts) new k h has = above n m old ts k.0 k.1 h has
  above n m old (waits ∷ ts) new k h has = above n m old ts k.0 k.1 h has
  above n m old (tells rs ∷ ts) new k h has = above n m old ts k.0 k.1 h has
  above n m old (forgets o ∷ ts) new k h has = above n m old ts k.0 k.1 h has

  -- a call behind a run is higher than those in it, and than the last one before it
  pub is_above : (n m : ℕ) (e : End L) → IsUpTo n e.last → IsNew e.last m → n < m
  is_above n m e h new = up_to_new n m e.last h new

  pub up_to_itself : (n : ℕ) (e : End L) → e.last ≡ Some n → IsUpTo n e.last
  up_to_itself n e h = subst (IsUpTo n) (sym h) (omega arith)
