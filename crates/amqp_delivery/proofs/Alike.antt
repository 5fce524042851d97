-- Comparing maps decides whether they are the same.
use Rattle.std.specs.Prelude.{◌≡◌, true}
use Rattle.std.specs.Bool.{Decides}
use Rattle.std.proofs.Common.{ap, sym, ◌∙◌}
use Rattle.amqp_data.specs.Data.{Pairs}
use Rattle.amqp_data.specs.Same.{same_pairs}
use Rattle.amqp_data.specs.SameLaws.{same_pairs_is, same_pairs_self}

pub same_pairs_decides : (ps qs : Pairs) → Decides (same_pairs ps qs) (ps ≡ qs)
same_pairs_decides ps qs = (same_pairs_is ps qs, λ e. ap (same_pairs ps) (sym e) ∙ same_pairs_self ps)
