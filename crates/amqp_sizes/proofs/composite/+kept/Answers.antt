use Rattle.std.proofs.Common.{Some, None, refl}
use Rattle.amqp_sizes.proofs.Kept.{none_kept, kept_none, kept_of, others_refused, null_before, field_before, refused_before, more_of}
use Rattle.amqp_sizes.proofs.composite.+kept.Goals as goal

pub returns-in_default-clause-fields : goal.returns-in_default-clause-fields
returns-in_default-clause-fields t c = kept_none c.args.slots.now (Some (record { count = 0; bytes = 0 })) c.in_default.len_below (none_kept (record { count = 0; bytes = 0 }) refl refl)

pub returns-in_err-behind-clause-fields : goal.returns-in_err-behind-clause-fields
returns-in_err-behind-clause-fields t c = rw c.from_residual.ensures (kept_of c.args.slots.now _ None c.in-len1-up.len_at_least refl (others_refused _ _ c.in_err-behind.ensures.fields))

pub returns-else-behind-eq0-clause-fields : goal.returns-else-behind-eq0-clause-fields
returns-else-behind-eq0-clause-fields t c =
    kept_of c.args.slots.now _ c.with.result c.in-len1-up.len_at_least c.in-Null.is
    (null_before c.with.result _ c.in_ok-behind.behind c.in_ok-behind.ensures.fields c.if-behind-eq0.false (more_of c.with.result c.in_ok-behind.behind 1 c.with.ensures.some c.with.ensures.none))

pub returns-in-Takes-clause-fields : goal.returns-in-Takes-clause-fields
returns-in-Takes-clause-fields t c =
    kept_of c.args.slots.now _ c.with-in-Takes.result c.in-len1-up.len_at_least c.in-Takes.is
    (field_before c.with-in-Takes.result _ c.in_ok-behind.behind c.in-Takes.size c.in_ok-behind.ensures.fields (more_of c.with-in-Takes.result c.in_ok-behind.behind c.in-Takes.size c.with-in-Takes.ensures.some c.with-in-Takes.ensures.none))

pub returns-in-Refused-clause-fields : goal.returns-in-Refused-clause-fields
returns-in-Refused-clause-fields t c = kept_of c.args.slots.now _ None c.in-len1-up.len_at_least c.in-Refused.is (refused_before _)
