-- The size of a list of fields, and of it behind its descriptor.
use Rattle.std.proofs.Common.{◌≡◌, ℕ, ◌+◌, ◌-◌, ◌<◌, ◌≤◌, ◌^◌, List, length, Option, Some, None, refl, sym, ap, ◌∙◌, arith}
use Rattle.std.proofs.lemmas.List.{length-append}
use Rattle.amqp_data.specs.Data.{Amqp, Items, scalar, ulong, list, no_items, item, count}
use Rattle.amqp_value.specs.declared.code.SizeWidth.TheVariants.{Four}
use Rattle.amqp_value.specs.Code.{list_number}
use Rattle.amqp_value.specs.Canonical.{canonical_scalar, laid, canonical, canonical_items, IsSized}
use Rattle.amqp_value.specs.Writing.{compound_length}
use Rattle.amqp_value.proofs.Lengths.{length-compound, length-content, compound_near}
use Rattle.amqp_fields.specs.Fields.{trimmed}
use Rattle.amqp_composites.specs.declared.kind.CompositeKind.{CompositeKind}
use Rattle.amqp_composites.specs.declared.kind.CompositeKind.TheVariants as kind
use Rattle.amqp_composites.specs.Described.{composite}
use Rattle.amqp_composites.specs.Kind.{number_of}
use Rattle.amqp_described.specs.Writing.{Fits}
use Rattle.amqp_sizes.specs.declared.composite.Measure.{Measure}
use Rattle.amqp_sizes.specs.Taken.{HasSize, Takes, AllFit, HaveSize}
use Rattle.amqp_sizes.specs.Written.{BodyTakes}

pub empty_list : (m : Measure) (levels : ℕ) (vs : Items) → m.count ≡ 0 → HaveSize m levels vs → HasSize 1 (levels + 1) (list vs)
unfolding canonical IsSized
empty_list m levels no_items e h = record { is = refl; fits = record { sized = (tt, omega arith); nests = omega arith } }
empty_list m levels (item v vs) e h = absurd (omega (arith, h.count, e))

pub full_list : (m : Measure) (n levels : ℕ) (vs : Items) → (m.count ≡ 0 → ⊥) → n ≡ compound_length m.count m.bytes → HaveSize m levels vs → HasSize n (levels + 1) (list vs)
unfolding canonical IsSized
full_list m n levels no_items ne e h = absurd (ne h.count)
full_list m n levels (item v vs) ne e h = record {
  is = e ∙ ap (λ (z : ℕ). compound_length z m.bytes) h.count ∙ ap (compound_length (count (item v vs))) h.bytes ∙ sym (length-compound list_number (count (item v vs)) (canonical_items (item v vs)));
  fits = record {
    sized = (h.fit.sized, omega (arith, h.fit.short, length-content Four (count (item v vs)) (canonical_items (item v vs))));
    nests = omega (arith, h.fit.nests);
  };
}

-- a list that has room takes few bytes more than its values
list_small : (vs : Items) → IsSized (list vs) → length (canonical (list vs)) < 2 ^ 33
unfolding canonical IsSized
list_small no_items h = omega arith
list_small (item v vs) h = omega (arith, h.1, length-content Four (count (item v vs)) (canonical_items (item v vs)), length-compound list_number (count (item v vs)) (canonical_items (item v vs)), compound_near (count (item v vs)) (length (canonical_items (item v vs))))

-- the number of each kind takes a constructor and a byte
number_length : (k : CompositeKind) → length (canonical (scalar (ulong (number_of k)))) ≡ 2
unfolding canonical canonical_scalar laid
number_length kind.Open = refl
number_length kind.Begin = refl
number_length kind.Attach = refl
number_length kind.Flow = refl
number_length kind.Transfer = refl
number_length kind.Disposition = refl
number_length kind.Detach = refl
number_length kind.End = refl
number_length kind.Close = refl
number_length kind.Error = refl
number_length kind.Received = refl
number_length kind.Accepted = refl
number_length kind.Rejected = refl
number_length kind.Released = refl
number_length kind.Modified = refl
number_length kind.Source = refl
number_length kind.Target = refl
number_length kind.Coordinator = refl
number_length kind.Declared = refl
number_length kind.TransactionalState = refl
number_length kind.SaslMechanisms = refl
number_length kind.SaslInit = refl
number_length kind.SaslChallenge = refl
number_length kind.SaslResponse = refl
number_length kind.SaslOutcome = refl
number_length kind.Header = refl
number_length kind.Properties = refl

pub composite_is : (k : CompositeKind) (fs : List Amqp) (n within levels : ℕ) → within ≡ levels - 2 → 2 ≤ levels → HasSize n (within + 1) (list (trimmed fs)) → HasSize (3 + n) levels (composite k fs)
unfolding canonical IsSized
composite_is k fs n within levels e le h = record {
  is = omega (arith, h.is, number_length k, length-append (canonical (scalar (ulong (number_of k)))) (canonical (list (trimmed fs))));
  fits = record { sized = (tt, h.fits.sized); nests = omega (arith, h.fits.nests, e, le) };
}

pub composite_shallow : (k : CompositeKind) (fs : List Amqp) (levels : ℕ) → levels < 2 → Fits levels (composite k fs) → ⊥
composite_shallow k fs levels lt f = absurd (omega (arith, f.nests, lt))

pub composite_long : (k : CompositeKind) (fs : List Amqp) (within levels : ℕ) → within ≡ levels - 2 → (AllFit within (trimmed fs) → ⊥) → Fits levels (composite k fs) → ⊥
unfolding IsSized
composite_long k fs within levels e h f = h (record {
  sized = f.sized.1.0;
  short = omega (arith, f.sized.1.1, length-content Four (count (trimmed fs)) (canonical_items (trimmed fs)));
  nests = omega (arith, f.nests, e);
})

-- a described list takes less than 2^34 bytes
pub composite_small : (k : CompositeKind) (fs : List Amqp) (n levels : ℕ) → HasSize n levels (composite k fs) → n < 2 ^ 34
unfolding canonical IsSized
composite_small k fs n levels h = omega (arith, h.is, number_length k, length-append (canonical (scalar (ulong (number_of k)))) (canonical (list (trimmed fs))), list_small (trimmed fs) h.fits.sized.1)

-- the values of a body that is one described list, and of one that is empty
pub body_is : (r : Option ℕ) (k : CompositeKind) (fs : List Amqp) → Takes r 34 (composite k fs) → BodyTakes r (item (composite k fs) no_items)
unfolding canonical IsSized
body_is (Some n) k fs h = record {
  bytes = omega (arith, h.is, length-append (canonical (composite k fs)) (canonical_items no_items));
  sized = (h.fits.sized, tt);
  nests = omega (arith, h.fits.nests);
  small = composite_small k fs n 34 h;
}
body_is None k fs h = λ sized nests. h (record { sized = sized.0; nests = omega (arith, nests) })

pub empty_body : BodyTakes (Some 0) no_items
unfolding canonical IsSized
empty_body = record { bytes = refl; sized = tt; nests = omega arith; small = omega arith }
