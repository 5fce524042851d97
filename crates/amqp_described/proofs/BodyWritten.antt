-- What was written of a list of fields is the spelling of it.
use Rattle.std.proofs.Common.{◌≡◌, ℕ, ◌≤◌, List, [], ◌++◌, sym, ap, subst, ◌∙◌, arith}
use Rattle.std.proofs.lemmas.List.{append-nil}
use Rattle.std.specs.Prelude.{Result, Ok, Err}
use Rattle.amqp_value.specs.amqp_data.Data.{Amqp, Items, list, no_items, item, items_depth}
use Rattle.amqp_value.specs.Canonical.{canonical, canonical_items, AreSized}
use Rattle.amqp_composites.specs.amqp_fields.declared.error.BaseError.{BaseError}
use Rattle.amqp_composites.specs.amqp_fields.declared.error.BaseError.TheVariants as errors
use Rattle.amqp_composites.specs.amqp_fields.Fields.{MakesItems, trimmed}
use Rattle.amqp_described.specs.Writing.{numbered, Fits}
use Rattle.amqp_described.specs.Bodies.{Put, Puts, Encodes}
use Rattle.amqp_composites.specs.declared.kind.CompositeKind.{CompositeKind}
use Rattle.amqp_composites.specs.Described.{composite}
use Rattle.amqp_composites.specs.Kind.{number_of}

put_encodes : (bytes : List ℕ) (n : ℕ) (vs : Items) (payload : List ℕ) → Put bytes vs n payload → Encodes (Ok bytes) (item (numbered n (list vs)) no_items) payload
unfolding canonical_items AreSized
put_encodes bytes n vs payload p = (
  p.text ∙ ap (λ (z : List ℕ). z ++ payload) (sym (append-nil (canonical (numbered n (list vs))))),
  (p.fits.sized, tt),
  omega (arith, p.fits.nests),
)

too_big : (n : ℕ) (vs : Items) → (Fits 34 (numbered n (list vs)) → ⊥) → AreSized (item (numbered n (list vs)) no_items) → items_depth (item (numbered n (list vs)) no_items) ≤ 34 → ⊥
unfolding AreSized
too_big n vs big sized nests = big (record { sized = sized.0; nests = omega (arith, nests) })

same_items : (r : Result (List ℕ) BaseError) (vs : Items) (n : ℕ) (payload : List ℕ) → Puts r (Ok vs) n payload → Encodes r (item (numbered n (list vs)) no_items) payload
same_items (Ok bytes) vs n payload p = put_encodes bytes n vs payload p
same_items (Err (errors.Memory a)) vs n payload p = tt
same_items (Err errors.Size) vs n payload p = too_big n vs p
same_items (Err errors.Decode) vs n payload p = p

no_fields : (r : Result (List ℕ) BaseError) (e : BaseError) (ws : Items) (n : ℕ) (payload : List ℕ) → Puts r (Err e) n payload → MakesItems (λ l. l) (Err e) ws → Encodes r (item (numbered n (list ws)) no_items) payload
no_fields (Ok bytes) e ws n payload p m = absurd p
no_fields (Err (errors.Memory a)) e ws n payload p m = tt
no_fields (Err errors.Size) e ws n payload p m = absurd (subst (λ (z : BaseError). MakesItems (λ (l : Items). l) (Err z) ws) (sym p) m)
no_fields (Err errors.Decode) e ws n payload p m = absurd (subst (λ (z : BaseError). MakesItems (λ (l : Items). l) (Err z) ws) (sym p) m)

list_encodes : (r : Result (List ℕ) BaseError) (fields : Result Items BaseError) (ws : Items) (n : ℕ) (payload : List ℕ) → Puts r fields n payload → MakesItems (λ l. l) fields ws → Encodes r (item (numbered n (list ws)) no_items) payload
list_encodes r (Ok vs) ws n payload p m = subst (λ (z : Items). Encodes r (item (numbered n (list z)) no_items) payload) m (same_items r vs n payload p)
list_encodes r (Err e) ws n payload p m = no_fields r e ws n payload p m

-- the bytes are those of the values that are to be written
pub encodes : (r : Result (List ℕ) BaseError) (fields : Result Items BaseError) (k : CompositeKind) (fs : List Amqp) (payload : List ℕ) (vs : Items) (tail : List ℕ) → vs ≡ item (composite k fs) no_items → tail ≡ payload → Puts r fields (number_of k) payload → MakesItems (λ l. l) fields (trimmed fs) → Encodes r vs tail
encodes r fields k fs payload vs tail e t p m =
    subst (λ (z : Items). Encodes r z tail) (sym e) (subst (λ (z : List ℕ). Encodes r (item (composite k fs) no_items) z) (sym t) (list_encodes r fields (trimmed fs) (number_of k) payload p m))

-- no values take no bytes
pub no_values : (bytes : List ℕ) → bytes ≡ [] → Encodes (Ok bytes) no_items []
unfolding canonical_items AreSized
no_values bytes e = (e, tt, omega arith)
