-- The first part of a delivery begins what it is split into.
use Rattle.std.proofs.Common.{◌≡◌, ◌∙◌, ap, sym, subst, refl, ℕ, zero, suc, ◌+◌, ◌-◌, ◌<◌, ◌≤◌, nat_lt, nat_le, true, false, Bool, List, [], ◌∷◌, take, drop, length, Option, Some, None, if◌then◌else◌, ◌⊎◌, inl, inr, arith}
use Rattle.std.specs.Prelude.{◌&&◌, ◌↔◌, IfSome, is_some}
use Rattle.std.proofs.lemmas.Bool.Decides.{nat_tests}
use Rattle.std.proofs.lemmas.List.{length-drop}
use Rattle.amqp_data.specs.Data.{depth}
use Rattle.amqp_described.specs.amqp_value.Canonical.{canonical}
use Rattle.amqp_described.specs.Writing.{Fits}
use Rattle.amqp_performatives.specs.declared.transfer.Transfer.{Transfer}
use Rattle.amqp_parts.specs.declared.part.Part.{Part}
use Rattle.amqp_parts.specs.declared.splitting.Cut.{Cut}
use Rattle.amqp_parts.specs.Split.{fields_of, HasRoom, Fills, IsSplit, whole, parted, stuck, saying_more, saying_last, last_part, continuation}
use Rattle.amqp_parts.specs.Cut.{is_sized, behind, room_for, is_enough, filling, cut_length, cut_at, cut_of, GoesOn}
use Rattle.amqp_parts.proofs.Sized.{fits_when, is_fitting}

-- ---- the room of a frame

-- how many bytes fill a frame; none where the Transfer itself has no room
abbrev pub IsRoom : ℕ → Transfer → Option ℕ → Type 0
IsRoom frame x (Some n) = Fills frame x n
IsRoom frame x None = HasRoom frame x 0 → ⊥

behind_by : (frame : ℕ) (x : Transfer) (c : Bool) → nat_le (8 + length (canonical (fields_of x))) frame ≡ c → Fits 34 (fields_of x) → IsRoom frame x (if c then Some (frame - (8 + length (canonical (fields_of x)))) else None)
behind_by frame x true e h = record { fits = h; full = grind (arith, nat_tests) }
behind_by frame x false e h = λ r. let w = r.within in grind (arith, nat_tests)

room_by : (frame : ℕ) (x : Transfer) (c : Bool) → (is_sized (fields_of x) && nat_le (depth (fields_of x)) 34) ≡ c → IsRoom frame x (behind frame (if c then Some (length (canonical (fields_of x))) else None))
room_by frame x true e = behind_by frame x (nat_le (8 + length (canonical (fields_of x))) frame) refl (fits_when (fields_of x) e)
room_by frame x false e = λ r. let e' = is_fitting (fields_of x) r.fits in cc

pub room_is : (frame : ℕ) (x : Transfer) → IsRoom frame x (room_for frame x)
room_is frame x = room_by frame x (is_sized (fields_of x) && nat_le (depth (fields_of x)) 34) refl

enough_when : (frame : ℕ) (x : Transfer) (len : ℕ) (r : Option ℕ) → IsRoom frame x r → is_enough len r ≡ true → HasRoom frame x len
enough_when frame x len (Some n) h e = let f = h.full in record { fits = h.fits; within = grind (arith, nat_tests) }
enough_when frame x len None h e = cc

is_enough_of : (frame : ℕ) (x : Transfer) (len : ℕ) (r : Option ℕ) → IsRoom frame x r → HasRoom frame x len → is_enough len r ≡ true
is_enough_of frame x len (Some n) h e = let f = h.full in let g = e.within in grind (arith, nat_tests)
is_enough_of frame x len None h e = let g = e.within in absurd (h (record { fits = e.fits; within = omega arith }))

-- what is filled, if there is room for one byte and some are left
abbrev pub MayFill : ℕ → Transfer → ℕ → Option ℕ → Type 0
MayFill frame x len (Some n) = (0 < n) × (n < len) × Fills frame x n
MayFill frame x len None = (n : ℕ) → 0 < n → n < len → Fills frame x n → ⊥

filling_by : (frame : ℕ) (x : Transfer) (len n : ℕ) (c : Bool) → (nat_lt 0 n && nat_lt n len) ≡ c → Fills frame x n → MayFill frame x len (if c then Some n else None)
filling_by frame x len n true e h = (grind (arith, nat_tests), grind (arith, nat_tests), h)
filling_by frame x len n false e h = λ m p q f. let a = h.full in let b = f.full in let s : n ≡ m = omega arith in grind (arith, nat_tests)

filling_is : (frame : ℕ) (x : Transfer) (len : ℕ) (r : Option ℕ) → IsRoom frame x r → MayFill frame x len (filling len r)
filling_is frame x len (Some n) h = filling_by frame x len n (nat_lt 0 n && nat_lt n len) refl h
filling_is frame x len None h = λ n p q f. let a = f.full in h (record { fits = f.fits; within = omega arith })

-- ---- the length of the first part

abbrev pub IsCut : ℕ → Transfer → ℕ → Option ℕ → Type 0
IsCut frame x len (Some n) = (HasRoom frame (saying_last x) len → ⊥) × MayFill frame (saying_more x) len (Some n)
IsCut frame x len None = HasRoom frame (saying_last x) len ⊎ ((HasRoom frame (saying_last x) len → ⊥) × MayFill frame (saying_more x) len None)

cut_some : (frame : ℕ) (x : Transfer) (len : ℕ) (f : Option ℕ) → (HasRoom frame (saying_last x) len → ⊥) → MayFill frame (saying_more x) len f → IsCut frame x len f
cut_some frame x len (Some n) large h = (large, h)
cut_some frame x len None large h = inr (large, h)

cut_by : (frame : ℕ) (x : Transfer) (len : ℕ) (c : Bool) → is_enough len (room_for frame (saying_last x)) ≡ c → IsCut frame x len (if c then None else filling len (room_for frame (saying_more x)))
cut_by frame x len true e = inl (enough_when frame (saying_last x) len (room_for frame (saying_last x)) (room_is frame (saying_last x)) e)
cut_by frame x len false e = cut_some frame x len (filling len (room_for frame (saying_more x))) (λ h. let t = is_enough_of frame (saying_last x) len (room_for frame (saying_last x)) (room_is frame (saying_last x)) h in cc) (filling_is frame (saying_more x) len (room_for frame (saying_more x)) (room_is frame (saying_more x)))

pub cut_is : (frame : ℕ) (x : Transfer) (len : ℕ) → IsCut frame x len (cut_length frame x len)
cut_is frame x len = cut_by frame x len (is_enough len (room_for frame (saying_last x))) refl

-- ---- what a delivery is split into

onward : (frame : ℕ) (x : Transfer) (payload : List ℕ) (n : Option ℕ) (parts : List Part) → IsCut frame x (length payload) n → GoesOn frame (cut_at n x payload).first (cut_at n x payload).rest parts → IsSplit frame x payload parts
onward frame x payload None parts (inl fits) g = subst (λ z. IsSplit frame x payload z) (sym g) (whole x payload fits)
onward frame x payload None parts (inr p) g = subst (λ z. IsSplit frame x payload z) (sym g) (stuck x payload p.0 p.1)
onward frame x payload (Some n) parts c g = subst (λ z. IsSplit frame x payload z) (sym g.1.0) (parted x payload n g.0 c.0 c.1.0 c.1.1 c.1.2 g.1.1)

backward_whole : (frame : ℕ) (x : Transfer) (payload : List ℕ) (n : Option ℕ) → IsCut frame x (length payload) n → HasRoom frame (saying_last x) (length payload) → GoesOn frame (cut_at n x payload).first (cut_at n x payload).rest (last_part x payload ∷ [])
backward_whole frame x payload None c h = refl
backward_whole frame x payload (Some n) c h = absurd (c.0 h)

backward_stuck : (frame : ℕ) (x : Transfer) (payload : List ℕ) (n : Option ℕ) → IsCut frame x (length payload) n → MayFill frame (saying_more x) (length payload) None → GoesOn frame (cut_at n x payload).first (cut_at n x payload).rest (last_part x payload ∷ [])
backward_stuck frame x payload None c h = refl
backward_stuck frame x payload (Some n) c h = absurd (h n c.1.0 c.1.1 c.1.2)

same_length : (frame : ℕ) (x : Transfer) (m n : ℕ) → Fills frame x m → Fills frame x n → m ≡ n
same_length frame x m n h k = let a = h.full in let b = k.full in omega arith

backward_parted : (frame : ℕ) (x : Transfer) (payload : List ℕ) (n : Option ℕ) (m : ℕ) (rest : List Part) → IsCut frame x (length payload) n → (HasRoom frame (saying_last x) (length payload) → ⊥) → 0 < m → m < length payload → Fills frame (saying_more x) m
    → IsSplit frame (continuation x.handle) (drop m payload) rest → GoesOn frame (cut_at n x payload).first (cut_at n x payload).rest (record { transfer = saying_more x; payload = take m payload } ∷ rest)
backward_parted frame x payload None m rest (inl fits) large p q f s = absurd (large fits)
backward_parted frame x payload None m rest (inr c) large p q f s = absurd (c.1 m p q f)
backward_parted frame x payload (Some n) m rest c large p q f s =
    let e = same_length frame (saying_more x) m n f c.1.2 in
    (rest, (ap (λ k. record { transfer = saying_more x; payload = take k payload } ∷ rest) e, subst (λ k. IsSplit frame (continuation x.handle) (drop k payload) rest) e s))

backward : (frame : ℕ) (x : Transfer) (payload : List ℕ) (n : Option ℕ) (parts : List Part) → IsCut frame x (length payload) n → IsSplit frame x payload parts → GoesOn frame (cut_at n x payload).first (cut_at n x payload).rest parts
backward frame x payload n parts c (whole y bytes fits) = backward_whole frame x payload n c fits
backward frame x payload n parts c (parted y bytes m rest large p q f s) = backward_parted frame x payload n m rest c large p q f s
backward frame x payload n parts c (stuck y bytes large none) = backward_stuck frame x payload n c none

pub splits_by : (frame : ℕ) (x : Transfer) (payload : List ℕ) (parts : List Part) → IsSplit frame x payload parts ↔ GoesOn frame (cut_of frame x payload).first (cut_of frame x payload).rest parts
unfolding cut_of
splits_by frame x payload parts = (backward frame x payload (cut_length frame x (length payload)) parts (cut_is frame x (length payload)), onward frame x payload (cut_length frame x (length payload)) parts (cut_is frame x (length payload)))

-- what is left is less
less_at : (frame : ℕ) (x : Transfer) (payload : List ℕ) (n : Option ℕ) (r : Part) → IsCut frame x (length payload) n → (cut_at n x payload).rest ≡ Some r → length r.payload < length payload
less_at frame x payload None r c h = cc
less_at frame x payload (Some n) r c h =
    let e : drop n payload ≡ r.payload = cc in
    subst (λ z. length z < length payload) e (omega (arith, length-drop n payload, c.1.0, c.1.1))

pub rest_less : (frame : ℕ) (x : Transfer) (payload : List ℕ) (r : Part) → (cut_of frame x payload).rest ≡ Some r → length r.payload < length payload
unfolding cut_of
rest_less frame x payload r h = less_at frame x payload (cut_length frame x (length payload)) r (cut_is frame x (length payload)) h

within_by : (frame : ℕ) (x : Transfer) (len : ℕ) (n : Option ℕ) → IsCut frame x len n → IfSome n (λ k. k ≤ len)
within_by frame x len None c = tt
within_by frame x len (Some n) c = let h = c.1.1 in omega arith

-- the first part has no more than there is
pub cut_within : (frame : ℕ) (x : Transfer) (len : ℕ) (n : Option ℕ) → n ≡ cut_length frame x len → IfSome n (λ k. k ≤ len)
cut_within frame x len n e = subst (λ z. IfSome z (λ k. k ≤ len)) (sym e) (within_by frame x len (cut_length frame x len) (cut_is frame x len))

said_at : (x : Transfer) (payload : List ℕ) (n : Option ℕ) → cut_at n (record x { more = is_some n }) payload ≡ cut_at n x payload
said_at x payload None = refl
said_at x payload (Some n) = refl

pub cut_said : (frame : ℕ) (x : Transfer) (payload : List ℕ) (n : Option ℕ) (cut : Cut) → n ≡ cut_length frame x (length payload) → cut ≡ cut_at n (record x { more = is_some n }) payload → cut ≡ cut_of frame x payload
unfolding cut_of
cut_said frame x payload n cut e h = h ∙ said_at x payload n ∙ ap (λ z. cut_at z x payload) e

-- ---- each delivery is split into parts

parts_by : (frame : ℕ) (x : Transfer) (payload : List ℕ) (rest : Option Part) → (cut_of frame x payload).rest ≡ rest → ((r : Part) → length r.payload < length payload → (parts : List Part) × IsSplit frame r.transfer r.payload parts)
    → (parts : List Part) × IsSplit frame x payload parts
parts_by frame x payload None h later =
    let first = (cut_of frame x payload).first in
    (first ∷ [], (splits_by frame x payload (first ∷ [])).1 (subst (λ z. GoesOn frame first z (first ∷ [])) (sym h) refl))
parts_by frame x payload (Some r) h later =
    let first = (cut_of frame x payload).first in
    let others = later r (rest_less frame x payload r h) in
    let on : GoesOn frame first (Some r) (first ∷ others.0) = (others.0, (refl, others.1)) in
    (first ∷ others.0, (splits_by frame x payload (first ∷ others.0)).1 (subst (λ z. GoesOn frame first z (first ∷ others.0)) (sym h) on))

parts_within : (n frame : ℕ) (x : Transfer) (payload : List ℕ) → length payload < n → (parts : List Part) × IsSplit frame x payload parts
parts_within zero frame x payload h = absurd (omega arith)
parts_within (suc n) frame x payload h = parts_by frame x payload (cut_of frame x payload).rest refl (λ r less. parts_within n frame r.transfer r.payload (omega arith))

pub has_parts : (frame : ℕ) (x : Transfer) (payload : List ℕ) → (parts : List Part) × IsSplit frame x payload parts
has_parts frame x payload = parts_within (suc (length payload)) frame x payload (omega arith)
