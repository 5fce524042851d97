-- How many bytes the fields of a Transfer take, of the bytes that were written.
use Rattle.std.proofs.Common.{◌≡◌, ℕ, nat_le, true, false, Bool, List, [], length, Option, Some, None, Result, Ok, Err, if◌then◌else◌, refl, sym, ap, subst, ◌∙◌}
use Rattle.std.proofs.lemmas.List.{append-nil}
use Rattle.std.specs.Prelude.{◌&&◌}
use Rattle.amqp_data.specs.Data.{Amqp, Items, list, depth}
use Rattle.amqp_described.specs.amqp_value.Canonical.{canonical}
use Rattle.amqp_fields.specs.declared.error.BaseError.{BaseError}
use Rattle.amqp_fields.specs.declared.error.BaseError.TheVariants as errors
use Rattle.amqp_fields.specs.Fields.{MakesItems, trimmed}
use Rattle.amqp_composites.specs.declared.kind.CompositeKind.TheVariants as kind
use Rattle.amqp_composites.specs.Kind.{number_of}
use Rattle.amqp_described.specs.Bodies.{Put, Puts}
use Rattle.amqp_described.specs.Writing.{numbered, Fits}
use Rattle.amqp_performatives.specs.declared.transfer.Transfer.{Transfer}
use Rattle.amqp_performatives.specs.Transfer.{transfer_fields}
use Rattle.amqp_parts.specs.Cut.{is_sized, measured}
use Rattle.amqp_parts.proofs.Sized.{fits_when, is_fitting}

abbrev pub measured_by : Bool → Amqp → Option ℕ
measured_by fits v = if fits then Some (length (canonical v)) else None

fitting : (v : Amqp) → Fits 34 v → measured_by (is_sized v && nat_le (depth v) 34) v ≡ Some (length (canonical v))
fitting v h = ap (λ c. measured_by c v) (is_fitting v h)

unfitting_by : (v : Amqp) (c : Bool) → (c ≡ true → ⊥) → measured_by c v ≡ None
unfitting_by v true h = absurd (h refl)
unfitting_by v false h = refl

unfitting : (v : Amqp) → (Fits 34 v → ⊥) → measured_by (is_sized v && nat_le (depth v) 34) v ≡ None
unfitting v h = unfitting_by v (is_sized v && nat_le (depth v) 34) (λ p. h (fits_when v p))

-- what the bytes, or the error in place of them, say
abbrev pub Says : Result (List ℕ) BaseError → Option ℕ → Type 0
Says (Ok bytes) n = n ≡ Some (length bytes)
Says (Err (errors.Memory a)) n = Unit {0}
Says (Err e) n = n ≡ None

put_says : (bytes : List ℕ) (vs : Items) → Put bytes vs (number_of kind.Transfer) [] → Says (Ok bytes) (measured_by (is_sized (numbered (number_of kind.Transfer) (list vs)) && nat_le (depth (numbered (number_of kind.Transfer) (list vs))) 34) (numbered (number_of kind.Transfer) (list vs)))
put_says bytes vs h = fitting _ h.fits ∙ ap (λ z. Some (length z)) (sym (append-nil _) ∙ sym h.text)

says_by : (r : Result (List ℕ) BaseError) (fields : Result Items BaseError) (vs : Items) → Puts r fields (number_of kind.Transfer) [] → MakesItems (λ l. l) fields vs
    → Says r (measured_by (is_sized (numbered (number_of kind.Transfer) (list vs)) && nat_le (depth (numbered (number_of kind.Transfer) (list vs))) 34) (numbered (number_of kind.Transfer) (list vs)))
says_by (Ok bytes) (Ok ws) vs h e = put_says bytes vs (subst (λ z. Put bytes z (number_of kind.Transfer) []) e h)
says_by (Ok bytes) (Err because) vs h e = absurd h
says_by (Err (errors.Memory a)) fields vs h e = tt
says_by (Err errors.Size) (Ok ws) vs h e = unfitting _ (subst (λ (z : Items). Fits 34 (numbered (number_of kind.Transfer) (list z)) → ⊥) e h)
says_by (Err errors.Decode) (Ok ws) vs h e = absurd h
says_by (Err errors.Size) (Err (errors.Memory a)) vs h e = cc
says_by (Err errors.Size) (Err errors.Decode) vs h e = absurd e
says_by (Err errors.Size) (Err errors.Size) vs h e = absurd e
says_by (Err errors.Decode) (Err (errors.Memory a)) vs h e = cc
says_by (Err errors.Decode) (Err errors.Decode) vs h e = absurd e
says_by (Err errors.Decode) (Err errors.Size) vs h e = absurd e

pub says : (r : Result (List ℕ) BaseError) (fields : Result Items BaseError) (x : Transfer) → Puts r fields (number_of kind.Transfer) [] → MakesItems (λ l. l) fields (trimmed (transfer_fields x)) → Says r (measured x)
says r fields x h e = says_by r fields (trimmed (transfer_fields x)) h e
