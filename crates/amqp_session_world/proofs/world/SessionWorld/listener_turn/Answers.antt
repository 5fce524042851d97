use Rattle.amqp_session_world.specs.Worlds.{view_of}
use Rattle.amqp_session_world.proofs.Moving.{on_ok, listener_turned}
use Rattle.amqp_session_world.proofs.world.SessionWorld.listener_turn.Goals as goal

pub returns : goal.returns
returns c =
    let old = view_of c.args.self.now in
    on_ok c.keep.result
    (λ h. listener_turned old (record old { client = c.turn.new.far; listener = c.turn.new.near }) _ c.args.step.now c.made-name.result c.in_ok-entry.entry c.requires.end c.requires.valid c.made-name.ensures c.in_ok-entry.ensures h)
    c.keep.ensures
