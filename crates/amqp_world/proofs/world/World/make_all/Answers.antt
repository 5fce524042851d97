use Rattle.std.proofs.Common.{rules, ◌≡◌, ◌<◌, ℕ, List, [], ◌∷◌, ◌++◌, ◌+◌, take, length, ap, ◌∙◌}
use Rattle.std.proofs.lemmas.List.{length_push}
use Rattle.amqp_words.specs.declared.step.Step.{Step}
use Rattle.amqp_world.specs.Turn.{start}
use Rattle.amqp_world.proofs.Chains.{turns_taken, take_next}
use Rattle.amqp_world.proofs.world.World.make_all.Goals as goal

pub loop-step-preserved : goal.loop-step-preserved
loop-step-preserved c =
    let inv = c.loop-step.invariant in
    let ens = c.in_ok-step.ensures in
    let test = c.loop-step-test.true in
    let within : c.loop-step.step-index < length c.args.steps.now = search rules in
    let made : c.step.new.self.steps ≡ take (c.loop-step.step-index + 1) c.args.steps.now =
    ens.steps ∙ ap (λ (ss : List Step). ss ++ c.step-item.result ∷ []) inv.made ∙ ap (λ (s : Step). take c.loop-step.step-index c.args.steps.now ++ s ∷ []) c.step-item.is
    ∙ take_next c.args.steps.now c.loop-step.step-index c.step-item.result within in
    record {
      made = made;
      form = ap length ens.turn.entries ∙ length_push c.loop-step.self.entries ens.turn.entry ∙ ap (λ (n : ℕ). n + 1) inv.form;
      explained = ens.explained;
      turns = turns_taken start c.loop-step.self c.step.new.self c.args.steps.now c.step-item.result c.loop-step.step-index inv.turns ens.turn inv.made ens.steps made;
      alive = ens.alive;
    }
