use Rattle.amqp_world.specs.Turn.{Turned}
use Rattle.amqp_world.proofs.BothTurns.{turn_listener, related_listener, may_listener, both_ok}
use Rattle.amqp_world.proofs.both.listener_turn.Goals as goal

pub turn-requires-clause-can : goal.turn-requires-clause-can
turn-requires-clause-can c =
    let may = may_listener c.args.both.now c.args.step c.len-name.result c.requires.related c.requires.end c.len-name.ensures in may.1 c.requires.valid.act

pub returns-clause-related : goal.returns-clause-related
returns-clause-related c =
    let new = c.keep.new.both in
    let turned : Turned c.args.both.now.listener c.args.both.now.client c.len-name.result c.args.step.at c.args.step.act new.listener new.client c.in_ok-entry.entry = rw (c.keep.ensures.client, c.keep.ensures.listener) c.in_ok-entry.ensures in
    both_ok c.keep.result _ _ _
    (λ steps entries. related_listener c.args.both.now new c.args.step c.in_ok-entry.entry c.len-name.result c.requires.related c.requires.end c.requires.valid c.len-name.ensures turned steps entries c.keep.ensures.moment)
    c.keep.ensures.steps c.keep.ensures.entries

pub returns-clause-turn : goal.returns-clause-turn
returns-clause-turn c =
    let new = c.keep.new.both in
    let turned : Turned c.args.both.now.listener c.args.both.now.client c.len-name.result c.args.step.at c.args.step.act new.listener new.client c.in_ok-entry.entry = rw (c.keep.ensures.client, c.keep.ensures.listener) c.in_ok-entry.ensures in
    both_ok c.keep.result _ _ _
    (λ steps entries. turn_listener c.args.both.now new c.args.step c.in_ok-entry.entry c.len-name.result c.requires.end c.len-name.ensures turned entries)
    c.keep.ensures.steps c.keep.ensures.entries
