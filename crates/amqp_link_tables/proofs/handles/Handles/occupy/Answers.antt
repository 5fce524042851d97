use Rattle.std.proofs.Common.{◌∙◌, sym, arith, heap_items}
use Rattle.std.specs.BinaryHeap.{IsHeap}
use Rattle.amqp_link_tables.specs.Kept.{lowest_first}
use Rattle.amqp_link_tables.proofs.Account.{taken, taken_fresh, one_more}
use Rattle.amqp_link_tables.proofs.handles.Handles.occupy.Goals as goal

pub invariant_of-self-in-Some : goal.invariant_of-self-in-Some
invariant_of-self-in-Some c =
    let p = c.self.inside in
    let e = c.reserve.ensures.items in
    let heap : IsHeap lowest_first (heap_items c.reserve.new.self) = rw e c.self.invariant.1 in
    (taken (heap_items p.freed) (heap_items c.reserve.new.self) (heap_items c.pop.new.self) p.fresh p.held.entries c.insert.new.self.entries c.args.handle c.in-Some.field-0 c.args.held c.self.invariant.0 e (rw c.self.view_is c.requires) c.in-Some.ensures.permutation c.in-Some.ensures.top (c.in-Some.ensures.heap_order heap).1 c.in_ok-insert.ensures.updates.0, (c.in-Some.ensures.heap_order heap).0, omega (arith, c.in-Some.ensures.len, c.in-Some.ensures.capacity, c.in_ok-reserve.ensures.ok, c.len.ensures.len, one_more c.in_ok-insert.field-0 _ _ c.in_ok-insert.ensures.len))

pub invariant_of-self-in-None : goal.invariant_of-self-in-None
invariant_of-self-in-None c =
    let p = c.self.inside in
    let e = c.in-None.ensures.unchanged.0 ∙ c.reserve.ensures.items in
    let heap : IsHeap lowest_first (heap_items c.pop.new.self) = rw e c.self.invariant.1 in
    (taken_fresh (heap_items p.freed) (heap_items c.pop.new.self) p.fresh p.held.entries c.insert.new.self.entries c.args.handle c.args.held c.self.invariant.0 e (sym c.pop.new.self.data.ok.0 ∙ c.in-None.ensures.unchanged.1 ∙ c.in-None.ensures.none) (rw c.self.view_is c.requires) c.ranges.handle.fits c.in_ok-insert.ensures.updates.0, heap, omega (arith, c.in-None.ensures.unchanged.1, c.pop.ensures.capacity, c.in_ok-reserve.ensures.ok, c.len.ensures.len, one_more c.in_ok-insert.field-0 _ _ c.in_ok-insert.ensures.len))
