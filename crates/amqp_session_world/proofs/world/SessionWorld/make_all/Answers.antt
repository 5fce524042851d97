use Rattle.std.proofs.Common.{rules, ◌≡◌, ◌<◌, ◌+◌, ℕ, length, ap, ◌∙◌}
use Rattle.std.proofs.lemmas.List.{length_push}
use Rattle.amqp_session_world.specs.Worlds.{view_of}
use Rattle.amqp_session_world.proofs.Moving.{turns_taken, first_invalid}
use Rattle.amqp_session_world.proofs.world.SessionWorld.make_all.Goals as goal

pub loop-step-preserved : goal.loop-step-preserved
loop-step-preserved c =
    let inv = c.loop-step.invariant in
    let turn = c.in-Ok.ensures.turn in
    let test = c.loop-step-test.true in
    let within : c.loop-step.step-index < length c.args.steps.now = search rules in
    record {
      form = ap length turn.entries ∙ length_push c.loop-step.self.trace.entries.items turn.entry ∙ ap (λ (n : ℕ). n + 1) inv.form;
      turns = turns_taken (view_of c.args.self.now) (view_of c.loop-step.self) (view_of c.step.new.self) c.args.steps.now c.step-item.result c.loop-step.step-index within c.step-item.is inv.turns turn;
    }

pub returns-in-Err-clause-bad : goal.returns-in-Err-clause-bad
returns-in-Err-clause-bad c =
    let test = c.loop-step-test.true in
    let within : c.loop-step.step-index < length c.args.steps.now = search rules in
    λ i h. let bad = c.in-Err.ensures.bad i h in
    first_invalid (view_of c.args.self.now) (view_of c.loop-step.self) c.args.steps.now i c.loop-step.step-index c.step-item.result c.requires c.loop-step.invariant.turns c.loop-step.invariant.form bad.0 within c.step-item.is bad.1
