-- An Attach that is read in parts.
use Rattle.std.proofs.Common.{◌≡◌, Some, None, Err, refl, ap, ◌∙◌, sym}
use Rattle.amqp_composites.specs.amqp_data.Data.{Items}
use Rattle.amqp_composites.specs.amqp_fields.declared.error.BaseError.{BaseError}
use Rattle.amqp_composites.specs.amqp_fields.Fields.{Gives, behind, ends_at}
use Rattle.amqp_composites.proofs.Parts.{stops}
use Rattle.amqp_performatives.specs.declared.attach.Attach.{Attach}
use Rattle.amqp_performatives.specs.declared.attach.LinkPart.{LinkPart}
use Rattle.amqp_performatives.specs.declared.attach.EndsPart.{EndsPart}
use Rattle.amqp_performatives.specs.declared.attach.LimitsPart.{LimitsPart}
use Rattle.amqp_performatives.specs.Attach.{link_of, ends_of, limits_of, attach_of}

pub attach_stops : (e : BaseError) (fields one two three : Items) (link : LinkPart) (ends : EndsPart) (limits : LimitsPart) → link_of fields ≡ Some link → one ≡ behind 5 fields → ends_of one ≡ Some ends → two ≡ behind 4 one → limits_of two ≡ Some limits → three ≡ behind 5 two
    → Gives {X = Unit {0}} (Err e) (ends_at three 0) → Gives {X = Attach} (Err e) (attach_of fields)
unfolding attach_of
attach_stops e fields one two three link ends limits a p b q c r h =
    let second : two ≡ behind 9 fields = q ∙ ap (behind 4) p in
    let third : three ≡ behind 14 fields = r ∙ ap (behind 5) second in
    stops e (ends_at three 0) (attach_of fields) h (λ none. rw (a, ap ends_of (sym p) ∙ b, ap limits_of (sym second) ∙ c, ap (λ (z : Items). ends_at z 0) (sym third) ∙ none) refl)
