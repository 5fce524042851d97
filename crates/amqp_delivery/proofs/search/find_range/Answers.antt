use Rattle.std.proofs.Common.{◌≡◌, ℕ, ◌+◌, ◌-◌, ◌*◌, ◌^◌, ◌<◌, ◌≤◌, ap, ◌∙◌, arith, rules, subst}
use Rattle.amqp_delivery.proofs.Searching.{halved, doubled, power_next}
use Rattle.amqp_delivery.proofs.search.find_range.Goals as goal

pub loop-search-preserved : goal.loop-search-preserved
loop-search-preserved g c =
    let old = c.args.steps.now in
    let k = c.loop-search.steps - old in
    let d = c.loop-search.search.high - c.loop-search.search.low in
    let e = c.narrowed-search.result.high - c.narrowed-search.result.low in
    let next : c.tick.new.self - old ≡ k + 1 = omega (arith, c.tick.ensures, c.loop-search.invariant.began) in
    let power : 2 ^ (c.tick.new.self - old) ≡ 2 * 2 ^ k = rw next (power_next k) in
    record {
      search = c.narrowed-search.ensures.search;
      began = omega (arith, c.tick.ensures, c.loop-search.invariant.began);
      left = rw power (halved (2 ^ k) d e _ c.narrowed-search.ensures.half c.loop-search.invariant.left);
      cost = rw power (doubled (2 ^ k) d _ (omega arith) c.loop-search.invariant.left);
    }
