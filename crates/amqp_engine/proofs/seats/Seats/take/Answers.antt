use Rattle.std.proofs.Common.{◌≡◌, ◌<◌, ◌+◌, ◌∙◌, ap, sym, arith, length, heap_items, true}
use Rattle.std.specs.Prelude.{slice_set}
use Rattle.amqp_engine.specs.Seats.{first_free, seat_taken}
use Rattle.amqp_engine.specs.Kept.{occupied, IsAccount}
use Rattle.amqp_engine.proofs.Lowest.{seat_set, seat_push}
use Rattle.amqp_engine.proofs.Account.{lowest_there, lowest_new, in_range, popped, occupied_taken}
use Rattle.amqp_engine.proofs.seats.Seats.take.Goals as goal

pub index_mut-requires : goal.index_mut-requires
index_mut-requires c =
    let p = c.self.inside in
    let x = c.in-Some.field-0 in
    let there = lowest_there (heap_items p.freed) p.taken.items x c.self.invariant.0 (omega (arith, p.freed.data.ok.0, c.in-Some.ensures.len)) c.in-Some.ensures.top (c.in-Some.ensures.heap_order c.self.invariant.1).1 in
    let within : x.0 < length p.taken.items = in_range p.taken.items x.0 there.0 in
    let same : c.args.channel ≡ x.0 = c.requires ∙ sym (ap first_free c.self.view_is) ∙ there.1 in
    omega (arith, within, same, p.taken.ok.0)

pub invariant_of-self : goal.invariant_of-self
invariant_of-self c =
    let p = c.self.inside in
    let x = c.in-Some.field-0 in
    let seats = p.taken.items in
    let there = lowest_there (heap_items p.freed) seats x c.self.invariant.0 (omega (arith, p.freed.data.ok.0, c.in-Some.ensures.len)) c.in-Some.ensures.top (c.in-Some.ensures.heap_order c.self.invariant.1).1 in
    let same : c.args.channel ≡ x.0 = c.requires ∙ sym (ap first_free c.self.view_is) ∙ there.1 in
    let more : occupied (slice_set seats x.0 true) ≡ occupied seats + 1 = occupied_taken seats x.0 there.0 in
    let heap = c.in-Some.ensures.heap_order c.self.invariant.1 in
    let account : IsAccount (heap_items c.pop.new.self) (slice_set seats x.0 true) = popped (heap_items p.freed) (heap_items c.pop.new.self) seats x c.self.invariant.0 there.0 c.in-Some.ensures.permutation in
    rw same (account, heap.0, omega (arith, more, c.in-Some.ensures.len, c.pop.ensures.capacity, c.self.invariant.2))

pub returns-in-Some-clause-ok : goal.returns-in-Some-clause-ok
returns-in-Some-clause-ok c =
    let p = c.self.inside in
    let x = c.in-Some.field-0 in
    let there = lowest_there (heap_items p.freed) p.taken.items x c.self.invariant.0 (omega (arith, p.freed.data.ok.0, c.in-Some.ensures.len)) c.in-Some.ensures.top (c.in-Some.ensures.heap_order c.self.invariant.1).1 in
    let within : x.0 < length p.taken.items = in_range p.taken.items x.0 there.0 in
    let same : c.args.channel ≡ x.0 = c.requires ∙ sym (ap first_free c.self.view_is) ∙ there.1 in
    sym (seat_set p.taken.items c.args.channel (omega (arith, within, same))) ∙ ap (λ s. seat_taken s c.args.channel) c.self.view_is

pub returns-in_ok-push-in-None-clause-ok : goal.returns-in_ok-push-in-None-clause-ok
returns-in_ok-push-in-None-clause-ok c =
    let p = c.self.inside in
    let none : 0 < length (heap_items p.freed) → ⊥ = λ l. omega (arith, l, p.freed.data.ok.0, c.in-None.ensures.none) in
    let new : first_free p.taken.items ≡ length p.taken.items = lowest_new (heap_items p.freed) p.taken.items c.self.invariant.0 none in
    let same : c.args.channel ≡ length p.taken.items = c.requires ∙ sym (ap first_free c.self.view_is) ∙ new in
    c.in_ok-push-in-None.ensures.items ∙ sym (seat_push p.taken.items c.args.channel same) ∙ ap (λ s. seat_taken s c.args.channel) c.self.view_is
