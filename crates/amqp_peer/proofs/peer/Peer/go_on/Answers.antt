use Rattle.std.proofs.Common.{◌≤◌, ◌+◌, ◌^◌, Ok, refl, ap, ◌∙◌, arith}
use Rattle.amqp_peer.specs.Peering.{Has}
use Rattle.amqp_peer.proofs.Advances.{rested_then, rested_more, rested_spent, worked_none, worked_then}
use Rattle.amqp_peer.proofs.peer.Peer.go_on.Goals as goal

pub steps-init : goal.steps-init
steps-init g c = (0, omega arith, worked_none g.L.Link c.args.at c.args.self.now, c.requires, refl)

pub returns-then-not-branch-clause-ok : goal.returns-then-not-branch-clause-ok
returns-then-not-branch-clause-ok g c =
    let i = c.steps.invariant in
    let rested = c.in_ok-advance.ensures.rests (ap (λ b. Ok b) c.if-not-branch.true) in
    let few : i.0 + 1 ≤ 2 ^ 62 = omega (arith, i.1, c.steps-test.true) in
    rested_more g.L.Link c.args.at (i.0 + 1) (2 ^ 62) (Has c.args.self.now) c.args.self.now c.advance.new.self few
    (rested_then g.L.Link c.args.at i.0 1 (Has c.args.self.now) c.args.self.now c.steps.self c.advance.new.self i.2.run rested)

pub steps-preserved : goal.steps-preserved
steps-preserved g c =
    let i = c.steps.invariant in
    let more = c.in_ok-advance.ensures.more (ap (λ b. Ok b) c.if-not-branch.false) in
    (i.0 + 1, omega (arith, i.1, c.steps-test.true), worked_then g.L.Link c.args.at i.0 1 c.args.self.now c.steps.self c.advance.new.self i.2 more, c.in_ok-advance.ensures.late, c.in_ok-advance.ensures.alive ∙ i.4)

pub returns-clause-ok : goal.returns-clause-ok
returns-clause-ok g c =
    let i = c.steps.invariant in
    let all : 2 ^ 62 ≤ i.0 = omega (arith, i.1, c.steps-test.false) in
    let few : i.0 ≤ 2 ^ 62 = omega (arith, i.1) in
    rested_more g.L.Link c.args.at i.0 (2 ^ 62) (Has c.args.self.now) c.args.self.now c.steps.self few (rested_spent g.L.Link c.args.at i.0 c.args.self.now c.steps.self all i.3 i.2)
