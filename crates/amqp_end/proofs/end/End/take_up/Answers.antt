use Rattle.amqp_end.proofs.Goes.{on_ok, on_both, on_then}
use Rattle.amqp_end.proofs.Handed.{all_then, all_still}
use Rattle.amqp_end.proofs.end.End.take_up.Goals as goal

pub returns-clause-goes : goal.returns-clause-goes
returns-clause-goes g c =
    on_ok c.collect.result
    (λ h at.
    let heard = on_then g.L.Link at c.args.self.now c.hear.new.self c.accept_waiting.new.self (c.in_ok-hear.ensures.goes at) (c.in_ok-accept_waiting.ensures.goes at) in
    let handed = on_then g.L.Link at c.args.self.now c.accept_waiting.new.self c.hand_over.new.self heard (c.in_ok-hand_over.ensures.goes at) in
    let looked = on_then g.L.Link at c.args.self.now c.hand_over.new.self c.look_at_fault.new.self handed (c.in_ok-look_at_fault.ensures.goes at) in
    let concluded = on_then g.L.Link at c.args.self.now c.look_at_fault.new.self c.conclude.new.self looked (c.in_ok-conclude.ensures.goes at) in
    on_then g.L.Link at c.args.self.now c.conclude.new.self c.collect.new.self concluded (h at))
    c.collect.ensures.goes

pub returns-clause-rests : goal.returns-clause-rests
returns-clause-rests g c =
    on_both c.collect.result
    (λ h s.
    let handed = (c.in_ok-hand_over.ensures.goes 0).heard ((c.in_ok-accept_waiting.ensures.goes 0).heard c.in_ok-hear.ensures.heard) in
    let concluded = (c.in_ok-conclude.ensures.goes 0).heard ((c.in_ok-look_at_fault.ensures.goes 0).heard handed) in
    record { heard = (h 0).heard concluded; said = s (c.in_ok-conclude.ensures.said (c.in_ok-look_at_fault.ensures.said c.in_ok-hand_over.ensures.said)) })
    c.collect.ensures.goes c.collect.ensures.said

pub returns-clause-kept : goal.returns-clause-kept
returns-clause-kept g c =
    on_both c.collect.result
    (λ h b at k.
    let old = c.args.self.now in
    let went = on_then g.L.Link at old c.hear.new.self c.accept_waiting.new.self (c.in_ok-hear.ensures.goes at) (c.in_ok-accept_waiting.ensures.goes at) in
    let gave = on_then g.L.Link at old c.accept_waiting.new.self c.hand_over.new.self went (c.in_ok-hand_over.ensures.goes at) in
    let looked = on_then g.L.Link at old c.hand_over.new.self c.look_at_fault.new.self gave (c.in_ok-look_at_fault.ensures.goes at) in
    let heard = c.in_ok-hear.ensures.kept at k in
    let accepted = all_then g.L.Link at old c.hear.new.self c.accept_waiting.new.self (c.in_ok-hear.ensures.goes at).goes heard (c.in_ok-accept_waiting.ensures.goes at).goes (c.in_ok-accept_waiting.ensures.kept at) in
    let given = all_still g.L.Link at old c.accept_waiting.new.self c.hand_over.new.self accepted (c.in_ok-hand_over.ensures.goes at).goes c.in_ok-hand_over.ensures.between in
    let seen = all_still g.L.Link at old c.hand_over.new.self c.look_at_fault.new.self given (c.in_ok-look_at_fault.ensures.goes at).goes c.in_ok-look_at_fault.ensures.between in
    let concluded = all_then g.L.Link at old c.look_at_fault.new.self c.conclude.new.self looked.goes seen (c.in_ok-conclude.ensures.goes at).goes (c.in_ok-conclude.ensures.kept at) in
    all_still g.L.Link at old c.conclude.new.self c.collect.new.self concluded (h at).goes b)
    c.collect.ensures.goes c.collect.ensures.between
