use Rattle.std.proofs.Common.{◌≡◌, rules}
use Rattle.std.proofs.lemmas.Fn.{always_returns_same}
use Rattle.std.proofs.lemmas.List.Sorted.{IsNonDecreasingBy-from_sort_by_key}
use Rattle.amqp_sessions.specs.amqp_calls.declared.reply.NamedReply.{NamedReply}
use Rattle.amqp_end.proofs.running.sort_by_name.Goals as goal

pub returns : goal.returns
returns c = record {
  all = c.in_ok-sort_by_key.ensures.permutation;
  rising = IsNonDecreasingBy-from_sort_by_key (λ (r : NamedReply). r.name) _ c.in_ok-sort_by_key.ensures.sorted (λ a r q k. search rules);
  stable = c.in_ok-sort_by_key.ensures.stable (λ (r : NamedReply). r.name) (always_returns_same _ (λ a r. r ≡ a.0.now.name) _ (λ a r q k. search rules));
}
