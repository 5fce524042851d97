use Rattle.std.proofs.Common.{[]}
use Rattle.amqp_end.proofs.Goes.{on_ok, on_both, goes_then, goes_before}
use Rattle.amqp_end.proofs.Handed.{all_before, all_then}
use Rattle.amqp_end.proofs.end.End.call_link.Goals as goal

pub returns-clause-goes : goal.returns-clause-goes
returns-clause-goes g c =
    let at = c.args.at in
    let asked = goes_before g.L.Link at c.args.self.now c.know.new.self c.ask_links.new.self c.know.ensures.goes.goes (c.in_ok-ask_links.ensures at) in
    let collected = goes_then g.L.Link at [] [] c.args.self.now c.ask_links.new.self c.collect_for.new.self asked (c.in_ok-collect_for.ensures at).goes in
    let ran = goes_then g.L.Link at [] [] c.args.self.now c.collect_for.new.self c.run.new.self collected c.in_ok-run.ensures.goes in
    let out = goes_then g.L.Link at [] [] c.args.self.now c.run.new.self c.let_links_out.new.self ran (c.in_ok-let_links_out.ensures.goes at).goes in
    on_ok c.steps.result (λ h. goes_then g.L.Link at [] [] c.args.self.now c.let_links_out.new.self c.steps.new.self out h) c.steps.ensures.goes

pub returns-clause-rests : goal.returns-clause-rests
returns-clause-rests g c = c.steps.ensures.rests

pub returns-clause-handed : goal.returns-clause-handed
returns-clause-handed g c =
    let at = c.args.at in
    let old = c.args.self.now in
    let asked = goes_before g.L.Link at old c.know.new.self c.ask_links.new.self c.know.ensures.goes.goes (c.in_ok-ask_links.ensures at) in
    let collected = goes_then g.L.Link at [] [] old c.ask_links.new.self c.collect_for.new.self asked (c.in_ok-collect_for.ensures at).goes in
    let ran = goes_then g.L.Link at [] [] old c.collect_for.new.self c.run.new.self collected c.in_ok-run.ensures.goes in
    let out = goes_then g.L.Link at [] [] old c.run.new.self c.let_links_out.new.self ran (c.in_ok-let_links_out.ensures.goes at).goes in
    let handed = all_before g.L.Link at old c.run.new.self c.let_links_out.new.self ran (c.in_ok-let_links_out.ensures.handed at) in
    on_both c.steps.result (λ h k. all_then g.L.Link at old c.let_links_out.new.self c.steps.new.self out handed h k) c.steps.ensures.goes c.steps.ensures.kept
