use Rattle.std.proofs.Common.{◌+◌, ◌≤◌, arith}
use Rattle.amqp_engine.specs.Channels.{first_free}
use Rattle.amqp_engine.proofs.Lowest.{full_counts, counts_full}
use Rattle.amqp_engine.proofs.laws.counts_sessions.Goals as goal

pub returns : goal.returns
returns c = λ highest seats. (
  λ l. full_counts (highest + 1) seats (omega (arith, l)),
  λ e. let l : highest + 1 ≤ first_free seats = counts_full (highest + 1) seats e in omega (arith, l),
)
