-- What the answer to a call for a handle means; names that are spent.
use Rattle.std.proofs.Common.{◌≡◌, ◌⊎◌, inl, inr, ◌∙◌, ap, refl, sym, subst, true≢false, arith, ℕ, zero, suc, ◌+◌, ◌<◌, ◌≤◌, Bool, true, false, cond, ◌||◌, not, nat_eq, List, [], ◌∷◌, ◌++◌, Option, Some, None, is_some, Result, Ok, Err, if◌then◌else◌}
use Rattle.std.proofs.lemmas.Bool.{cases_eq, cases_lt}
use Rattle.std.specs.List.{find, list_any, range_with_len}
use Rattle.std.specs.Str.{bytes_eq}
use Rattle.std.specs.Cmp.Lexicographic.{nat_list_eq_equiv}
use Rattle.std.specs.Map.{lookup}
use Rattle.indexmap.specs.IndexMap.{swap_remove_entry}
use Rattle.amqp_composites.specs.declared.modes.Role.{Role}
use Rattle.amqp_composites.specs.declared.modes.Role.TheVariants.{Sender, Receiver}
use Rattle.amqp_link_tables.specs.declared.error.AllocLinkError.{AllocLinkError}
use Rattle.amqp_link_tables.specs.declared.error.AllocLinkError.TheVariants.{DuplicatedLinkName, HandleMaxReached}
use Rattle.amqp_link_tables.specs.declared.handles.Held.{Held}
use Rattle.amqp_link_tables.specs.Handles.{is_held, IsLowestFree, lowest_free}
use Rattle.amqp_link_tables.specs.Calls.{link_named, handle_or_full, allocation, allocated, released_at, released, spending, is_spent, with_names, names}
use Rattle.amqp_link_tables.specs.Laws.{IsRight}
use Rattle.amqp_link_tables.specs.State.{State}

-- ---- the first handle that is free

-- what the search from a handle on finds, where all below it are held
abbrev pub Finds : ℕ → ℕ → List (ℕ × Held) → Option ℕ → Type 0
Finds a n hs None = (k : ℕ) → k < a + n → is_held k hs ≡ true
Finds a n hs (Some r) = IsLowestFree r hs × (r < a + n)

up_to : (hs : List (ℕ × Held)) (a : ℕ) → ((k : ℕ) → k < a → is_held k hs ≡ true) → is_held a hs ≡ true → (k : ℕ) → k < a + 1 → is_held k hs ≡ true
up_to hs a below e k less = by (cases_eq k a)
  where
    by : (k ≡ a) ⊎ (k ≡ a → ⊥) → is_held k hs ≡ true
    by (inl same) = ap (λ m. is_held m hs) same ∙ e
    by (inr apart) = below k (lower (cases_lt k a))
      where
        lower : (k < a) ⊎ (a ≤ k) → k < a
        lower (inl h) = h
        lower (inr h) = absurd (apart (omega arith))

further : (a n : ℕ) (hs : List (ℕ × Held)) (o : Option ℕ) → Finds (a + 1) n hs o → Finds a (suc n) hs o
further a n hs None f = λ k less. f k (omega arith)
further a n hs (Some r) f = (f.0, omega (arith, f.1))

finds : (hs : List (ℕ × Held)) (n a : ℕ) → ((k : ℕ) → k < a → is_held k hs ≡ true) → Finds a n hs (find (λ h. not (is_held h hs)) (range_with_len a n))
finds hs zero a below = λ k less. below k (omega arith)
finds hs (suc n) a below = by (is_held a hs) refl (λ e. finds hs n (a + 1) (up_to hs a below e))
  where
    by : (b : Bool) → is_held a hs ≡ b → (is_held a hs ≡ true → Finds (a + 1) n hs (find (λ h. not (is_held h hs)) (range_with_len (a + 1) n))) → Finds a (suc n) hs (cond (not b) (Some a) (find (λ h. not (is_held h hs)) (range_with_len (a + 1) n)))
    by false e rest = ((e, below), omega arith)
    by true e rest = further a n hs (find (λ h. not (is_held h hs)) (range_with_len (a + 1) n)) (rest e)

one : (r handle max : ℕ) (hs : List (ℕ × Held)) → Finds 0 (max + 1) hs (Some r) → r ≡ handle → IsLowestFree handle hs × (handle ≤ max)
one r handle max hs f e = (subst (λ k. IsLowestFree k hs) e f.0, omega (arith, f.1))

right_full : (o : Option ℕ) (max : ℕ) (hs : List (ℕ × Held)) → Finds 0 (max + 1) hs o → ((handle : ℕ) → handle_or_full o ≡ Ok handle → IsLowestFree handle hs × (handle ≤ max)) × (handle_or_full o ≡ Err HandleMaxReached → (handle : ℕ) → handle ≤ max → is_held handle hs ≡ true)
right_full None max hs f = (λ handle e. cc, λ e handle within. f handle (omega arith))
right_full (Some r) max hs f = (λ handle e. one r handle max hs f cc, λ e. cc)

not_duplicated : (o : Option ℕ) → handle_or_full o ≡ Err DuplicatedLinkName → ⊥
not_duplicated None e = cc
not_duplicated (Some r) e = cc

pub right : (name : List ℕ) (role : Role) (max : ℕ) (s : State) → IsRight (allocation name role max s) name role max s
right name role max s = by (is_some (link_named name role s)) refl
  where
    by : (b : Bool) → is_some (link_named name role s) ≡ b → IsRight (if b then Err DuplicatedLinkName else handle_or_full (lowest_free max s.handles)) name role max s
    by true e = record { free = λ handle h. cc; full = λ h. cc; duplicated = (λ h. e, λ h. refl) }
    by false e =
        let f = right_full (lowest_free max s.handles) max s.handles (finds s.handles (max + 1) 0 (λ k less. absurd (omega arith))) in
        record { free = f.0; full = f.1; duplicated = (λ h. absurd (not_duplicated (lowest_free max s.handles) h), λ h. absurd (true≢false (sym h ∙ e))) }

-- ---- names that are spent

found-append : (name : List ℕ) (xs ys : List (List ℕ)) → list_any (bytes_eq name) xs ≡ true → list_any (bytes_eq name) (xs ++ ys) ≡ true
found-append name [] ys h = cc
found-append name (x ∷ xs) ys h = by (bytes_eq name x) h (found-append name xs ys)
  where
    by : (b : Bool) → (b || list_any (bytes_eq name) xs) ≡ true → (list_any (bytes_eq name) xs ≡ true → list_any (bytes_eq name) (xs ++ ys) ≡ true) → (b || list_any (bytes_eq name) (xs ++ ys)) ≡ true
    by true g rest = refl
    by false g rest = rest g

found-last : (name : List ℕ) (xs : List (List ℕ)) → list_any (bytes_eq name) (xs ++ name ∷ []) ≡ true
found-last name [] = ap (λ b. b || false) (nat_list_eq_equiv.refl name)
found-last name (x ∷ xs) = by (bytes_eq name x) (found-last name xs)
  where
    by : (b : Bool) → list_any (bytes_eq name) (xs ++ name ∷ []) ≡ true → (b || list_any (bytes_eq name) (xs ++ name ∷ [])) ≡ true
    by true rest = refl
    by false rest = rest

pub spent_now : (name : List ℕ) (s : State) → is_spent name (spending name s) ≡ true
spent_now name s = by (list_any (bytes_eq name) s.spent) refl
  where
    by : (b : Bool) → list_any (bytes_eq name) s.spent ≡ b → list_any (bytes_eq name) (if b then s.spent else s.spent ++ name ∷ []) ≡ true
    by true e = e
    by false e = found-last name s.spent

pub spent_still : (name other : List ℕ) (s : State) → is_spent name s ≡ true → is_spent name (spending other s) ≡ true
spent_still name other s h = by (list_any (bytes_eq other) s.spent)
  where
    by : (b : Bool) → list_any (bytes_eq name) (if b then s.spent else s.spent ++ other ∷ []) ≡ true
    by true = h
    by false = found-append name s.spent (other ∷ []) h

with_spent : (o : Result ℕ AllocLinkError) (name : List ℕ) (role : Role) (link : ℕ) (s : State) → (allocated o name role link s).spent ≡ s.spent
with_spent (Ok handle) name Sender link s = refl
with_spent (Ok handle) name Receiver link s = refl
with_spent (Err e) name role link s = refl

pub spent_allocated : (name : List ℕ) (role : Role) (max link : ℕ) (s : State) → (allocated (allocation name role max s) name role link s).spent ≡ s.spent
spent_allocated name role max link s = with_spent (allocation name role max s) name role link s

named_spent : (role : Role) (ns : List (List ℕ × ℕ)) (t : State) → (with_names role ns t).spent ≡ t.spent
named_spent Sender ns t = refl
named_spent Receiver ns t = refl

without_spent : (o : Option Held) (handle : ℕ) (s : State) → (released_at o handle s).spent ≡ s.spent
without_spent None handle s = refl
without_spent (Some held) handle s =
    let t : State = record s { handles = swap_remove_entry (nat_eq handle) s.handles } in
    named_spent held.role (swap_remove_entry (bytes_eq held.name) (names held.role t)) t

pub spent_released : (handle : ℕ) (s : State) → (released handle s).spent ≡ s.spent
spent_released handle s = without_spent (lookup (nat_eq handle) s.handles) handle s
