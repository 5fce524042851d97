-- The numbers that a Disposition covers lie in its range (as `first_news` of session_laws has it for the steps of one link).
use Rattle.std.specs.Prelude.{◌≡◌, ◌⊎◌, ℕ, ◌<◌, ◌≤◌, ◌&&◌, nat_le, Bool, true, false, cond, List, [], ◌∷◌, filter, Option, Some, None, if◌then◌else◌, refl}
use Rattle.std.specs.Map.{keys_of}
use Rattle.std.proofs.Common.{inl, inr, sym, subst}
use Rattle.std.proofs.lemmas.Bool.{lt-leb, le-leb, cases_lt}
use Rattle.amqp_performatives.specs.declared.disposition.Disposition.{Disposition}
use Rattle.amqp_link_tables.specs.declared.deliveries.Delivered.{Delivered}
use Rattle.amqp_link_tables.specs.Deliveries.{is_within, numbers_between, numbers_from, numbers_up_to, numbers_around, covered}
use Rattle.amqp_links.specs.Settling.{covered_at}
use Rattle.amqp_session_links.specs.Numbers.{told_by}
use Rattle.amqp_session_links.specs.State.{State as Place}
use Rattle.session_laws.specs.Giving.{last_of}
use Rattle.session_laws.proofs.Lists.{Each, each_both}
use Rattle.session_laws.proofs.Numbers.{between_within, from_within, up_to_within}
use Rattle.connect_laws.specs.Ruling.{AreShort}

-- a number is in the range of a Disposition, where all have 32 bits as in each frame
abbrev pub IsIn : Disposition → ℕ → Type 0
IsIn d n = AreShort d n → is_within d.first (last_of d) n ≡ true

each_that : {X : Type 0} → (P : X → Type 0) (test : X → Bool) → ((x : X) → test x ≡ true → P x) → (xs : List X) → Each P (filter test xs)
each_that P test f [] = tt
each_that P test f (x ∷ xs) = by (test x) refl (each_that P test f xs)
  where
    by : (c : Bool) → test x ≡ c → Each P (filter test xs) → Each P (cond c (x ∷ filter test xs) (filter test xs))
    by true e k = (f x e, k)
    by false e k = k

between_in : (d : Disposition) (ds : List (ℕ × Delivered)) → Each (IsIn d) (numbers_between d.first (last_of d) ds)
between_in d ds =
    each_that (IsIn d) (λ (n : ℕ). nat_le d.first n && nat_le n (last_of d)) (λ n h s. between_within d.first (last_of d) s.last n h) (keys_of ds)

around_in : (d : Disposition) (ds : List (ℕ × Delivered)) → last_of d < d.first → Each (IsIn d) (numbers_around d.first (last_of d) ds)
around_in d ds o =
    each_both (IsIn d) (numbers_from d.first ds) (numbers_up_to (last_of d) ds)
    (each_that (IsIn d) (nat_le d.first) (λ n h s. from_within d.first (last_of d) o s.first n s.delivery h) (keys_of ds))
    (each_that (IsIn d) (λ (n : ℕ). nat_le n (last_of d)) (λ n h s. up_to_within d.first (last_of d) o s.first n h) (keys_of ds))

all_covered : (d : Disposition) (ds : List (ℕ × Delivered)) → Each (IsIn d) (covered d.first (last_of d) ds)
all_covered d ds = by (cases_lt (last_of d) d.first)
  where
    chosen : (c : Bool) → nat_le d.first (last_of d) ≡ c → Each (IsIn d) (if c then numbers_between d.first (last_of d) ds else numbers_around d.first (last_of d) ds)
        → Each (IsIn d) (covered d.first (last_of d) ds)
    chosen c e k =
        subst (λ (b : Bool). Each (IsIn d) (if b then numbers_between d.first (last_of d) ds else numbers_around d.first (last_of d) ds)) (sym e) k

    by : (last_of d < d.first) ⊎ (d.first ≤ last_of d) → Each (IsIn d) (covered d.first (last_of d) ds)
    by (inl o) = chosen false (lt-leb d.first (last_of d) o) (around_in d ds o)
    by (inr o) = chosen true (le-leb d.first (last_of d) o) (between_in d ds)

pub all_in : (d : Disposition) (o : Option Place) → Each (IsIn d) (covered_at d o)
all_in d None = tt
all_in d (Some p) = all_covered d (told_by d.role p)
