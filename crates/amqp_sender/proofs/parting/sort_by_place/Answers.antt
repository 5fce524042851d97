use Rattle.std.proofs.Common.{◌≡◌, rules}
use Rattle.std.proofs.lemmas.Fn.{always_returns_same}
use Rattle.std.proofs.lemmas.List.Sorted.{IsNonDecreasingBy-from_sort_by_key}
use Rattle.amqp_sender.proofs.Sorting.{sorted_by_place}
use Rattle.amqp_sender.proofs.parting.sort_by_place.Goals as goal

pub returns : goal.returns
returns c = sorted_by_place _ _
    (IsNonDecreasingBy-from_sort_by_key (λ e. e.1) _ c.in_ok-sort_by_key.ensures.sorted (λ a r q k. search rules))
    (c.in_ok-sort_by_key.ensures.stable (λ e. e.1) (always_returns_same _ (λ a r. r ≡ a.0.now.1) _ (λ a r q k. search rules)))
