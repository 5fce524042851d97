use Rattle.std.proofs.Common.{◌≡◌, ◌∙◌, ap, sym, arith, IsOk, IsPermutation, heap_items, heap_len, true, false, ◌∷◌, ◌+◌, slice_index_or, slice_set}
use Rattle.std.specs.BinaryHeap.{IsHeap}
use Rattle.amqp_engine.specs.Kept.{lowest_first, occupied}
use Rattle.amqp_engine.proofs.Account.{freed, occupied_freed, at_ok}
use Rattle.amqp_engine.proofs.seats.Seats.free.Goals as goal

pub invariant_of-self : goal.invariant_of-self
invariant_of-self c =
    let p = c.self.inside in
    let seats = p.taken.items in
    let k = c.args.channel in
    let there : slice_index_or seats k false ≡ true = ap (λ s. slice_index_or s k false) c.self.view_is ∙ sym c.has.ensures ∙ c.if-has.true in
    let fewer : occupied (slice_set seats k false) + 1 ≡ occupied seats = occupied_freed seats k there in
    let room : IsOk c.push.result = c.push.ensures.succeeds (omega (arith, fewer, c.self.invariant.2)) in
    let moved : IsPermutation (record { 0 = k } ∷ heap_items p.freed) (heap_items c.push.new.self) = at_ok c.push.result room c.push.ensures.permutation in
    let heap : IsHeap lowest_first (heap_items c.push.new.self) = at_ok c.push.result room c.push.ensures.heap_order c.self.invariant.1 in
    let longer : heap_len c.push.new.self ≡ heap_len p.freed + 1 = at_ok c.push.result room c.push.ensures.len in
    rw (c.from.ensures) (freed (heap_items p.freed) (heap_items c.push.new.self) seats (record { 0 = k }) c.self.invariant.0 there moved, heap, omega (arith, c.push.ensures.capacity, fewer, longer, c.self.invariant.2))
