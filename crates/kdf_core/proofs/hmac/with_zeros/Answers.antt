use Rattle.std.proofs.Common.{◌++◌, length, drop, replicate, ap, ◌∙◌}
use Rattle.std.proofs.lemmas.List.{drop-replicate}
use Rattle.kdf_core.proofs.hmac.with_zeros.Goals as goal

pub returns : goal.returns
returns c =
    ap (λ s. s ++ drop (length c.args.key.now) (replicate 128 0)) c.copy_from_slice.ensures.after
    ∙ ap (λ zs. c.args.key.now ++ zs) (drop-replicate (length c.args.key.now) 128 0)
