use Rattle.std.proofs.Common.{◌≡◌, ◌∙◌, ap, sym, arith, IsOk, IsPermutation, heap_items, heap_len, true, is_some, ◌∷◌, ◌+◌, length}
use Rattle.std.specs.BinaryHeap.{IsHeap}
use Rattle.amqp_link_tables.specs.Handles.{is_held}
use Rattle.amqp_link_tables.specs.Kept.{lowest_first}
use Rattle.amqp_link_tables.proofs.Account.{freed, at_ok}
use Rattle.amqp_link_tables.proofs.handles.Handles.free.Goals as goal

pub invariant_of-self-2 : goal.invariant_of-self-2
invariant_of-self-2 c =
    let p = c.self.inside in
    let there : is_held c.args.handle p.held.entries ≡ true = ap is_some (sym c.swap_remove.ensures.value ∙ c.in_ok-held.was) in
    let left : length c.swap_remove.new.self.entries + 1 ≡ length p.held.entries = c.in_ok-held.ensures.len in
    let room : IsOk c.push.result = c.push.ensures.succeeds (omega arith) in
    let moved : IsPermutation (record { 0 = c.args.handle } ∷ heap_items p.freed) (heap_items c.push.new.self) = at_ok c.push.result room c.push.ensures.permutation in
    let heap : IsHeap lowest_first (heap_items c.push.new.self) = at_ok c.push.result room c.push.ensures.heap_order c.self.invariant.1 in
    let longer : heap_len c.push.new.self ≡ heap_len p.freed + 1 = at_ok c.push.result room c.push.ensures.len in
    (freed (heap_items p.freed) (heap_items c.push.new.self) p.fresh p.held.entries c.swap_remove.new.self.entries (record { 0 = c.args.handle }) c.self.invariant.0 there moved c.swap_remove.ensures.updates.0, heap, omega (arith, c.push.ensures.capacity))
