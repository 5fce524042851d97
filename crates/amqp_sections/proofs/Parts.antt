-- Properties that are read in parts.
use Rattle.std.proofs.Common.{◌≡◌, Some, None, Err, refl, ap, ◌∙◌, sym}
use Rattle.amqp_data.specs.Data.{Items}
use Rattle.amqp_fields.specs.declared.error.BaseError.{BaseError}
use Rattle.amqp_fields.specs.Fields.{Gives, behind, ends_at}
use Rattle.amqp_composites.proofs.Parts.{stops}
use Rattle.amqp_sections.specs.declared.properties.Properties.{Properties}
use Rattle.amqp_sections.specs.declared.properties.AddressPart.{AddressPart}
use Rattle.amqp_sections.specs.declared.properties.ContentPart.{ContentPart}
use Rattle.amqp_sections.specs.Properties.{address_of, content_of, properties_of}

pub properties_stop : (e : BaseError) (fields one two : Items) (address : AddressPart) (content : ContentPart) → address_of fields ≡ Some address → one ≡ behind 6 fields → content_of one ≡ Some content → two ≡ behind 7 one
    → Gives {X = Unit {0}} (Err e) (ends_at two 0) → Gives {X = Properties} (Err e) (properties_of fields)
unfolding properties_of
properties_stop e fields one two address content a p b q h =
    let second : two ≡ behind 13 fields = q ∙ ap (behind 7) p in
    stops e (ends_at two 0) (properties_of fields) h (λ none. rw (a, ap content_of (sym p) ∙ b, ap (λ (z : Items). ends_at z 0) (sym second) ∙ none) refl)
