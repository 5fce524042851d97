use Rattle.std.proofs.Common.{ℕ, List, Some, refl, [], ◌∷◌}
use Rattle.amqp_words.specs.declared.call.Call.{Call as ConnectionCall}
use Rattle.amqp_end.proofs.Goes.{on_ok, on_both, goes_none, goes_then, goes_called}
use Rattle.amqp_end.proofs.Handed.{between_sessions, all_before, all_then, all_still}
use Rattle.amqp_end.proofs.end.End.call_connection.Goals as goal

pub returns-clause-goes : goal.returns-clause-goes
returns-clause-goes g c =
    let at = c.args.at in
    let one : List (ℕ × ConnectionCall) = (c.args.name, c.args.call) ∷ [] in
    let mid = record c.stop_sessions.new.self { connection = c.call.new.self } in
    let known = goes_then g.L.Link at {call = Some c.args.name} [] [] c.args.self.now c.args.self.now c.know.new.self (goes_none g.L.Link at c.args.self.now) c.know.ensures.goes.goes in
    let stopped = goes_then g.L.Link at [] [] c.args.self.now c.know.new.self c.stop_sessions.new.self known (c.in_ok-stop_sessions.ensures.ok at).goes in
    let called = goes_then g.L.Link at [] one c.args.self.now c.stop_sessions.new.self mid stopped
    (goes_called g.L.Link at c.args.name c.args.call c.stop_sessions.new.self mid c.in-Ok.ensures.ok refl refl refl refl refl) in
    let taken = goes_then g.L.Link at one [] c.args.self.now mid c.take_up.new.self called (c.in_ok-take_up.ensures.goes at).goes in
    let ran = goes_then g.L.Link at one [] c.args.self.now c.take_up.new.self c.steps.new.self taken c.in_ok-steps.ensures.goes in
    on_ok c.look.result (λ h. goes_then g.L.Link at one [] c.args.self.now c.steps.new.self c.look.new.self ran (h at).goes) c.look.ensures.goes

pub returns-clause-rests : goal.returns-clause-rests
returns-clause-rests g c = on_ok c.look.result (λ h. h c.in_ok-steps.ensures.rests) c.look.ensures.rests

pub returns-clause-handed : goal.returns-clause-handed
returns-clause-handed g c =
    let at = c.args.at in
    let old = c.args.self.now in
    let one : List (ℕ × ConnectionCall) = (c.args.name, c.args.call) ∷ [] in
    let mid = record c.stop_sessions.new.self { connection = c.call.new.self } in
    let stopped = goes_then g.L.Link at [] [] old c.know.new.self c.stop_sessions.new.self c.know.ensures.goes.goes (c.in_ok-stop_sessions.ensures.ok at).goes in
    let call = goes_called g.L.Link at c.args.name c.args.call c.stop_sessions.new.self mid c.in-Ok.ensures.ok refl refl refl refl refl in
    let called = goes_then g.L.Link at [] one old c.stop_sessions.new.self mid stopped call in
    let taken = goes_then g.L.Link at one [] old mid c.take_up.new.self called (c.in_ok-take_up.ensures.goes at).goes in
    on_both c.look.result
    (λ h b.
    let first = all_before g.L.Link at old c.know.new.self c.stop_sessions.new.self c.know.ensures.goes.goes (c.in_ok-stop_sessions.ensures.handed at) in
    let second = all_still g.L.Link at old c.stop_sessions.new.self mid first call (between_sessions c.stop_sessions.new.self mid refl refl) in
    let third = all_then g.L.Link at old mid c.take_up.new.self called second (c.in_ok-take_up.ensures.goes at).goes (c.in_ok-take_up.ensures.kept at) in
    let fourth = all_then g.L.Link at old c.take_up.new.self c.steps.new.self taken third c.in_ok-steps.ensures.goes c.in_ok-steps.ensures.kept in
    all_still g.L.Link at old c.steps.new.self c.look.new.self fourth (h at).goes b)
    c.look.ensures.goes c.look.ensures.between
