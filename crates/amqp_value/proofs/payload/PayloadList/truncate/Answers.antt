use Rattle.std.proofs.Common.{◌≡◌, ℕ, ◌+◌, ◌-◌, ◌<◌, ◌≤◌, List, length, take, refl, ap, ◌∙◌, arith}
use Rattle.std.proofs.lemmas.List.Elements.{All-take, All-same}
use Rattle.std.specs.Vec.{vec_len}
use Rattle.amqp_value.specs.Pieces.{joined}
use Rattle.amqp_value.proofs.Fronts.{joined-front, by_last, last_kept, last_size, last_fits, cut_size, cut_filled, cut_front, front_left}
use Rattle.amqp_value.proofs.payload.PayloadList.truncate.Goals as goal

pub overflow_sub-before : goal.overflow_sub-before
overflow_sub-before c =
    let place : vec_len c.loop-last.self-inside.pieces - 1 + 1 ≡ length c.loop-last.self-inside.pieces.items = omega (arith, c.loop-last.self-inside.pieces.ok.0, c.in-Some.ensures.variant.0 refl) in
    let all = last_size _ c.loop-last.self-inside.pieces.items c.in-Some.last.now (by_last _ _ _ place c.in-Some.ensures.value) in
    omega arith

-- the place of the last piece
place : (c : goal.After-self-then-before-size-2-1) → vec_len c.loop-last.self-inside.pieces - 1 + 1 ≡ length c.loop-last.self-inside.pieces.items
place c = omega (arith, c.loop-last.self-inside.pieces.ok.0, c.in-Some.ensures.variant.0 refl)

-- what is left of it
cut : (c : goal.After-self-then-before-size-2-1) → c.truncate.new.self ≡ take (c.min-kept.result - (c.loop-last.self-inside.total - length c.in-Some.last.now)) c.in-Some.last.now
cut c = c.truncate.ensures ∙ ap (λ (n : ℕ). take (c.min-kept.result - (c.loop-last.self-inside.total - n)) c.in-Some.last.now) c.len.ensures.value

pub invariant_of-self : goal.invariant_of-self
invariant_of-self c =
    let fits = last_fits _ _ _ _ (place c) c.in-Some.ensures.value c.loop-last.invariant.total c.loop-last.invariant.filled in
    let lt : c.loop-last.self-inside.total - length c.in-Some.last.now < c.min-kept.result = omega arith in
    let le : c.min-kept.result ≤ c.loop-last.self-inside.total = omega arith in (
      cut_size _ _ _ _ _ _ (place c) c.in-Some.ensures.value c.loop-last.invariant.total lt le (cut c),
      cut_filled _ _ _ _ _ _ (place c) c.in-Some.ensures.value c.loop-last.invariant.total lt le (cut c) c.loop-last.invariant.filled,
    )

pub returns-then-before-size-clause-pieces : goal.returns-then-before-size-clause-pieces
returns-then-before-size-clause-pieces c =
    let within : c.loop-last.self-inside.total - length c.in-Some.last.now < c.args.size = omega arith in
    cut_front _ _ _ _ _ _ _ (place c) c.in-Some.ensures.value c.loop-last.invariant.total within c.min-kept.ensures (cut c) ∙ c.loop-last.invariant.front

pub returns-then-before-size-clause-bytes : goal.returns-then-before-size-clause-bytes
returns-then-before-size-clause-bytes c = ap joined (returns-then-before-size-clause-pieces c) ∙ joined-front c.args.size c.args.self.now

pub loop-last-preserved : goal.loop-last-preserved
loop-last-preserved c =
    let ps = c.loop-last.self-inside.pieces.items in
    let i = vec_len c.loop-last.self-inside.pieces - 1 in
    let place : i + 1 ≡ length ps = omega (arith, c.loop-last.self-inside.pieces.ok.0, c.in-Some.ensures.variant.0 refl) in
    let left : c.pop.new.self.items ≡ take i ps = c.pop.ensures.rest ∙ ap (take i) (last_kept ps i _ place c.in-Some.ensures.value) in
    let all = last_size _ ps _ (by_last ps i _ place c.in-Some.ensures.value) in
    let bytes = ap (λ (z : List (List ℕ)). length (joined z)) left in
    record {
      total = omega arith;
      filled = All-same (λ (p : List ℕ). 0 < length p) _ _ left (All-take (λ (p : List ℕ). 0 < length p) i ps c.loop-last.invariant.filled);
      front = front_left ps _ i _ c.loop-last.self-inside.total _ place c.in-Some.ensures.value left c.loop-last.invariant.total (omega arith) ∙ c.loop-last.invariant.front;
    }
