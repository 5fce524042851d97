use Rattle.std.proofs.Common.{[]}
use Rattle.amqp_end.proofs.Goes.{on_ok, on_both, goes_then}
use Rattle.amqp_end.proofs.Handed.{kept_still, all_then, all_still}
use Rattle.amqp_end.proofs.end.End.run.Goals as goal

pub returns-clause-goes : goal.returns-clause-goes
returns-clause-goes g c =
    let at = c.args.at in
    let began = goes_then g.L.Link at [] [] c.args.self.now c.know.new.self c.exchange.new.self c.know.ensures.goes.goes c.in_ok-exchange.ensures.goes in
    let ran = goes_then g.L.Link at [] [] c.args.self.now c.exchange.new.self c.steps.new.self began c.in_ok-steps.ensures.goes in
    on_ok c.look.result (λ h. goes_then g.L.Link at [] [] c.args.self.now c.steps.new.self c.look.new.self ran (h at).goes) c.look.ensures.goes

pub returns-clause-rests : goal.returns-clause-rests
returns-clause-rests g c = on_ok c.look.result (λ h. h c.in_ok-steps.ensures.rests) c.look.ensures.rests

pub returns-clause-kept : goal.returns-clause-kept
returns-clause-kept g c =
    let at = c.args.at in
    let old = c.args.self.now in
    let began = goes_then g.L.Link at [] [] old c.know.new.self c.exchange.new.self c.know.ensures.goes.goes c.in_ok-exchange.ensures.goes in
    on_both c.look.result
    (λ h b k.
    let known = kept_still g.L.Link at old c.know.new.self c.know.ensures.between k in
    let exchanged = all_then g.L.Link at old c.know.new.self c.exchange.new.self c.know.ensures.goes.goes known c.in_ok-exchange.ensures.goes c.in_ok-exchange.ensures.kept in
    let ran = all_then g.L.Link at old c.exchange.new.self c.steps.new.self began exchanged c.in_ok-steps.ensures.goes c.in_ok-steps.ensures.kept in
    all_still g.L.Link at old c.steps.new.self c.look.new.self ran (h at).goes b)
    c.look.ensures.goes c.look.ensures.between
