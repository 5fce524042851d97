-- The parts of a delivery, one after another.
use Rattle.std.proofs.Common.{◌≡◌, ◌<◌, ℕ, suc, List, [], ◌∷◌, ◌++◌, take, drop, length, Some, None, Option, refl, sym, ap, subst, ◌∙◌, arith}
use Rattle.std.proofs.lemmas.List.{append_assoc, append-nil, take-append-drop}
use Rattle.amqp_performatives.specs.declared.transfer.Transfer.{Transfer}
use Rattle.amqp_parts.specs.declared.part.Part.{Part}
use Rattle.amqp_parts.specs.declared.splitting.Cut.{Cut}
use Rattle.amqp_parts.specs.Split.{IsSplit, bytes_of, whole, parted, stuck, continuation}
use Rattle.amqp_parts.specs.Cut.{cut_of, GoesOn}
use Rattle.amqp_parts.proofs.Cutting.{splits_by, rest_less}

-- what is left is split into those parts
abbrev pub IsRest : ℕ → Option Part → List Part → Type 0
IsRest frame None ps = ps ≡ []
IsRest frame (Some rest) ps = IsSplit frame rest.transfer rest.payload ps

-- whatever is left is split into, with these parts before it the whole is
abbrev pub Goes : ℕ → Transfer → List ℕ → List Part → Option Part → Type 0
Goes frame x payload parts left = (ps : List Part) → IsRest frame left ps → IsSplit frame x payload (parts ++ ps)

onward : (frame : ℕ) (first : Part) (rest : Option Part) (ps : List Part) → IsRest frame rest ps → GoesOn frame first rest (first ∷ ps)
onward frame first None ps h = ap (λ z. first ∷ z) h
onward frame first (Some rest) ps h = (ps, (refl, h))

first_of : (frame : ℕ) (x : Transfer) (payload : List ℕ) (cut : Cut) (ps : List Part) → cut ≡ cut_of frame x payload → IsRest frame cut.rest ps → IsSplit frame x payload (cut.first ∷ ps)
first_of frame x payload cut ps e h = (splits_by frame x payload (cut.first ∷ ps)).1 (subst (λ (z : Cut). GoesOn frame z.first z.rest (cut.first ∷ ps)) e (onward frame cut.first cut.rest ps h))

pub begins : (frame : ℕ) (x : Transfer) (payload : List ℕ) (cut : Cut) → cut ≡ cut_of frame x payload → Goes frame x payload ([] ++ cut.first ∷ []) cut.rest
begins frame x payload cut e = λ ps h. first_of frame x payload cut ps e h

pub goes_on : (frame : ℕ) (x : Transfer) (payload : List ℕ) (parts : List Part) (left : Option Part) (part : Part) (cut : Cut) → Goes frame x payload parts left → left ≡ Some part → cut ≡ cut_of frame part.transfer part.payload
    → Goes frame x payload (parts ++ cut.first ∷ []) cut.rest
goes_on frame x payload parts left part cut g e c = λ ps h.
    let t : IsRest frame (Some part) (cut.first ∷ ps) = first_of frame part.transfer part.payload cut ps c h in
    subst (λ (z : List Part). IsSplit frame x payload z) (sym (append_assoc parts (cut.first ∷ []) ps)) (g (cut.first ∷ ps) (subst (λ z. IsRest frame z (cut.first ∷ ps)) (sym e) t))

none_by : {X : Type 0} → (r : Option X) → ((x : X) → r ≡ Some x → ⊥) → r ≡ None
none_by None h = refl
none_by (Some x) h = absurd (h x refl)

pub goes_out : (frame : ℕ) (x : Transfer) (payload : List ℕ) (parts : List Part) (left : Option Part) → Goes frame x payload parts left → ((rest : Part) → left ≡ Some rest → ⊥) → IsSplit frame x payload parts
goes_out frame x payload parts left g h = subst (λ (z : List Part). IsSplit frame x payload z) (append-nil parts) (g [] (subst (λ z. IsRest frame z []) (sym (none_by left h)) refl))

-- how much is left
abbrev pub size_of : Option Part → ℕ
size_of None = 0
size_of (Some part) = suc (length part.payload)

less_by : (n : ℕ) (left : Option Part) → ((r : Part) → left ≡ Some r → length r.payload < n) → size_of left < suc n
less_by n None h = omega arith
less_by n (Some r) h = let k = h r refl in omega arith

pub size_less : (frame : ℕ) (left : Option Part) (part : Part) (cut : Cut) → left ≡ Some part → cut ≡ cut_of frame part.transfer part.payload → size_of cut.rest < size_of left
size_less frame left part cut e c =
    subst (λ z. size_of cut.rest < size_of z) (sym e) (subst (λ (z : Cut). size_of z.rest < suc (length part.payload)) (sym c) (less_by (length part.payload) (cut_of frame part.transfer part.payload).rest (λ r h. rest_less frame part.transfer part.payload r h)))

-- nothing is lost, and nothing comes twice
pub all_bytes : (frame : ℕ) (x : Transfer) (payload : List ℕ) (parts : List Part) → IsSplit frame x payload parts → bytes_of parts ≡ payload
all_bytes frame x payload parts (whole y bytes fits) = append-nil payload
all_bytes frame x payload parts (parted y bytes n rest big some few fills s) = ap (λ (z : List ℕ). take n payload ++ z) (all_bytes frame (continuation x.handle) (drop n payload) rest s) ∙ take-append-drop n payload
all_bytes frame x payload parts (stuck y bytes big none) = append-nil payload
