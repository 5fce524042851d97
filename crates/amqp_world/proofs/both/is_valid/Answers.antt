use Rattle.amqp_world.proofs.BothTurns.{may_client, may_listener, valid_where}
use Rattle.amqp_world.proofs.both.is_valid.Goals as goal

pub returns-in-Client : goal.returns-in-Client
returns-in-Client c =
    valid_where c.args.both.now c.args.step.now _ _ c.requires c.if-step-both.false c.can_act.ensures
    (may_client c.args.both.now c.args.step.now c.len-name.result c.requires c.in-Client.is c.len-name.ensures)

pub returns-in-Listener : goal.returns-in-Listener
returns-in-Listener c =
    valid_where c.args.both.now c.args.step.now _ _ c.requires c.if-step-both.false c.can_act-in-Listener.ensures
    (may_listener c.args.both.now c.args.step.now c.len-name.result c.requires c.in-Listener.is c.len-name.ensures)
