use Rattle.amqp_end.proofs.Goes.{on_ok, on_both, on_then}
use Rattle.amqp_end.proofs.Handed.{all_still}
use Rattle.amqp_end.proofs.end.End.let_links_out.Goals as goal

pub returns-clause-goes : goal.returns-clause-goes
returns-clause-goes g c = on_ok c.hand_over.result (λ h at. on_then g.L.Link at c.args.self.now c.hand_on_all.new.self c.hand_over.new.self (c.in_ok-hand_on_all.ensures.goes at) (h at)) c.hand_over.ensures.goes

pub returns-clause-handed : goal.returns-clause-handed
returns-clause-handed g c =
    on_both c.hand_over.result
    (λ h b at. all_still g.L.Link at c.args.self.now c.hand_on_all.new.self c.hand_over.new.self (c.in_ok-hand_on_all.ensures.handed at) (h at).goes b)
    c.hand_over.ensures.goes c.hand_over.ensures.between
