-- Deliveries in runs.
use Rattle.std.specs.Prelude.{◌≡◌, ℕ, zero, suc, ◌+◌, ◌-◌, ◌≤◌, ◌==◌, ◌&&◌, Bool, true, false, List, [], ◌∷◌, ◌++◌, Option, None, Some, refl}
use Rattle.std.proofs.Common.{arith, ◌∙◌, ap, append_assoc}
use Rattle.std.proofs.lemmas.Bool.Decides.{nat_tests}
use Rattle.amqp_composites.specs.declared.modes.ReceiverSettleMode.{ReceiverSettleMode}
use Rattle.amqp_composites.specs.declared.modes.ReceiverSettleMode.TheVariants.{First, Second}
use Rattle.amqp_delivery.specs.declared.run.Run.{Run}
use Rattle.amqp_delivery.specs.Book.{same_mode, goes_on, new_run}
use Rattle.book_laws.specs.Groups.{spread, told_by, told_by_all, AllRise, Breaks, AllBreak}

-- the run with one delivery more
abbrev pub longer : Run → ℕ → Run
longer r number = record r { last = number }

abbrev pub runs_at : Bool → Run → List Run → List Run → List Run
runs_at true r on others = on
runs_at false r on others = r ∷ others

-- an open run, if there is one, and the runs of what comes
abbrev pub runs_from : Option Run → List (ReceiverSettleMode × ℕ) → List Run
runs_from None [] = []
runs_from (Some r) [] = r ∷ []
runs_from None (x ∷ xs) = runs_from (Some (new_run x.0 x.1)) xs
runs_from (Some r) (x ∷ xs) = runs_at (goes_on r x.0 x.1) r (runs_from (Some (longer r x.1)) xs) (runs_from (Some (new_run x.0 x.1)) xs)

-- ---- what goes on with a run

both_left : (a b : Bool) → (a && b) ≡ true → a ≡ true
both_left true b is = refl
both_left false b is = is

both_right : (a b : Bool) → (a && b) ≡ true → b ≡ true
both_right true b is = is
both_right false b is = absurd cc

modes_same : (m n : ReceiverSettleMode) → same_mode m n ≡ true → m ≡ n
modes_same First First is = refl
modes_same First Second is = absurd cc
modes_same Second First is = absurd cc
modes_same Second Second is = refl

numbers_same : (m n : ℕ) → (m == n) ≡ true → m ≡ n
numbers_same m n is = grind (arith, nat_tests)

next_mode : (r : Run) (m : ReceiverSettleMode) (n : ℕ) → goes_on r m n ≡ true → r.mode ≡ m
next_mode r m n is = modes_same r.mode m (both_left (same_mode r.mode m) (r.last + 1 == n) is)

next_number : (r : Run) (m : ReceiverSettleMode) (n : ℕ) → goes_on r m n ≡ true → r.last + 1 ≡ n
next_number r m n is = numbers_same (r.last + 1) n (both_right (same_mode r.mode m) (r.last + 1 == n) is)

-- ---- each delivery, once, in order

spread_push : (m : ReceiverSettleMode) (n k : ℕ) → spread m n (suc k) ≡ spread m n k ++ (m, n + k) ∷ []
spread_push m n zero = ap (λ (x : ℕ). (m, x) ∷ []) (omega arith)
spread_push m n (suc k) =
    let rest = spread_push m (n + 1) k in
    let same : (n + 1) + k ≡ n + suc k = omega arith in
    ap (λ (xs : List (ReceiverSettleMode × ℕ)). (m, n) ∷ xs) (rest ∙ ap (λ (x : ℕ). spread m (n + 1) k ++ (m, x) ∷ []) same)

longer_told : (r : Run) (m : ReceiverSettleMode) (n : ℕ) → r.first ≤ r.last → goes_on r m n ≡ true → told_by (longer r n) ≡ told_by r ++ (m, n) ∷ []
longer_told r m n rise is =
    let next = next_number r m n is in
    let count : (n + 1) - r.first ≡ suc ((r.last + 1) - r.first) = omega (arith, next, rise) in
    let number : r.first + ((r.last + 1) - r.first) ≡ n = omega (arith, next, rise) in
    ap (spread r.mode r.first) count
    ∙ (spread_push r.mode r.first ((r.last + 1) - r.first)
    ∙ (ap (λ (x : ℕ). told_by r ++ (r.mode, x) ∷ []) number ∙ ap (λ (x : ReceiverSettleMode). told_by r ++ (x, n) ∷ []) (next_mode r m n is)))

new_told : (m : ReceiverSettleMode) (n : ℕ) → told_by (new_run m n) ≡ (m, n) ∷ []
new_told m n = let one : (n + 1) - n ≡ 1 = omega arith in ap (spread m n) one

told_next : (r : Run) (x : ReceiverSettleMode × ℕ) (xs : List (ReceiverSettleMode × ℕ)) (on others : List Run) → r.first ≤ r.last
    → (r.first ≤ x.1 → told_by_all on ≡ told_by (longer r x.1) ++ xs) → told_by_all others ≡ told_by (new_run x.0 x.1) ++ xs
    → (b : Bool) → goes_on r x.0 x.1 ≡ b → told_by_all (runs_at b r on others) ≡ told_by r ++ x ∷ xs
told_next r x xs on others rise goes apart true is =
    let next = next_number r x.0 x.1 is in
    goes (omega (arith, next, rise)) ∙ (ap (λ (ys : List (ReceiverSettleMode × ℕ)). ys ++ xs) (longer_told r x.0 x.1 rise is) ∙ append_assoc (told_by r) ((x.0, x.1) ∷ []) xs)
told_next r x xs on others rise goes apart false is =
    ap (λ (ys : List (ReceiverSettleMode × ℕ)). told_by r ++ ys) (apart ∙ ap (λ (ys : List (ReceiverSettleMode × ℕ)). ys ++ xs) (new_told x.0 x.1))

-- the runs behind an open one tell of its deliveries and of all that come
pub told_open : (r : Run) (xs : List (ReceiverSettleMode × ℕ)) → r.first ≤ r.last → told_by_all (runs_from (Some r) xs) ≡ told_by r ++ xs
told_open r [] rise = refl
told_open r (x ∷ xs) rise =
    told_next r x xs (runs_from (Some (longer r x.1)) xs) (runs_from (Some (new_run x.0 x.1)) xs) rise
    (λ more. told_open (longer r x.1) xs more) (told_open (new_run x.0 x.1) xs (omega arith)) (goes_on r x.0 x.1) refl

pub told_all : (xs : List (ReceiverSettleMode × ℕ)) → told_by_all (runs_from None xs) ≡ xs
told_all [] = refl
told_all (x ∷ xs) =
    told_open (new_run x.0 x.1) xs (omega arith) ∙ ap (λ (ys : List (ReceiverSettleMode × ℕ)). ys ++ xs) (new_told x.0 x.1)

-- ---- each run has a delivery, and none goes on with the one before it

rise_next : (r : Run) (x : ReceiverSettleMode × ℕ) (on others : List Run) → r.first ≤ r.last → (r.first ≤ x.1 → AllRise on) → AllRise others
    → (b : Bool) → goes_on r x.0 x.1 ≡ b → AllRise (runs_at b r on others)
rise_next r x on others rise goes apart true is = (let next = next_number r x.0 x.1 is in goes (omega (arith, next, rise)))
rise_next r x on others rise goes apart false is = (rise, apart)

pub rise_open : (r : Run) (xs : List (ReceiverSettleMode × ℕ)) → r.first ≤ r.last → AllRise (runs_from (Some r) xs)
rise_open r [] rise = (rise, tt)
rise_open r (x ∷ xs) rise =
    rise_next r x (runs_from (Some (longer r x.1)) xs) (runs_from (Some (new_run x.0 x.1)) xs) rise
    (λ more. rise_open (longer r x.1) xs more) (rise_open (new_run x.0 x.1) xs (omega arith)) (goes_on r x.0 x.1) refl

pub rise_all : (xs : List (ReceiverSettleMode × ℕ)) → AllRise (runs_from None xs)
rise_all [] = tt
rise_all (x ∷ xs) = rise_open (new_run x.0 x.1) xs (omega arith)

breaks_next : (q r : Run) (on others : List Run) → goes_on q r.mode r.first ≡ false → Breaks q on → (b : Bool) → Breaks q (runs_at b r on others)
breaks_next q r on others apart goes true = goes
breaks_next q r on others apart goes false = apart

breaks_open : (q r : Run) (xs : List (ReceiverSettleMode × ℕ)) → goes_on q r.mode r.first ≡ false → Breaks q (runs_from (Some r) xs)
breaks_open q r [] apart = apart
breaks_open q r (x ∷ xs) apart =
    breaks_next q r (runs_from (Some (longer r x.1)) xs) (runs_from (Some (new_run x.0 x.1)) xs) apart (breaks_open q (longer r x.1) xs apart) (goes_on r x.0 x.1)

few_next : (r : Run) (on others : List Run) (c : Bool) → AllBreak on → AllBreak others → (c ≡ false → Breaks r others)
    → (b : Bool) → c ≡ b → AllBreak (runs_at b r on others)
few_next r on others c goes apart breaks true is = goes
few_next r on others c goes apart breaks false is = (breaks is, apart)

pub few_open : (r : Run) (xs : List (ReceiverSettleMode × ℕ)) → AllBreak (runs_from (Some r) xs)
few_open r [] = (tt, tt)
few_open r (x ∷ xs) =
    few_next r (runs_from (Some (longer r x.1)) xs) (runs_from (Some (new_run x.0 x.1)) xs) (goes_on r x.0 x.1) (few_open (longer r x.1) xs)
    (few_open (new_run x.0 x.1) xs) (λ is. breaks_open r (new_run x.0 x.1) xs is) (goes_on r x.0 x.1) refl

pub few_all : (xs : List (ReceiverSettleMode × ℕ)) → AllBreak (runs_from None xs)
few_all [] = tt
few_all (x ∷ xs) = few_open (new_run x.0 x.1) xs
