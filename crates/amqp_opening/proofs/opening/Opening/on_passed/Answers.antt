use Rattle.std.proofs.Common.{refl, subst, ◌∙◌, []}
use Rattle.amqp_opening.specs.declared.opening.Stage.TheVariants.{Header}
use Rattle.amqp_opening.specs.Opening.{Opened, Ran}
use Rattle.amqp_opening.proofs.Openings.{ran_after, moves_none, keeps_passed}
use Rattle.amqp_opening.proofs.opening.Opening.on_passed.Goals as goal

pub returns-in-Ok : goal.returns-in-Ok
returns-in-Ok g c =
    let queued = c.self.view_is ∙ c.in-Ok.ensures.ok in
    let e = subst (λ (p : Opened _ _). Ran g.L.Link g.X.Exchange (record p { stage = Header }) c.args.reads_left.now c.exchange_headers.result c.exchange_headers.new.self c.exchange_headers.new.reads_left) queued c.exchange_headers.ensures in
    ran_after g.L.Link g.X.Exchange _ _ c.exchange_headers.new.self c.args.reads_left.now c.args.reads_left.now c.exchange_headers.new.reads_left [] c.exchange_headers.result e.moves.kept
    (moves_none g.L.Link g.X.Exchange _ _ c.args.reads_left.now (g.met.X.Exchange.same_self c.args.self.now.negotiation.exchange) refl refl) (keeps_passed g.X.Exchange _ c.requires.stage c.requires.passed) e
