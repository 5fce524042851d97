use Rattle.std.proofs.Common.{refl, [], inl}
use Rattle.amqp_end.proofs.Goes.{on_ok, on_both, goes_then, goes_polled}
use Rattle.amqp_end.proofs.Handed.{between_sessions, kept_still, all_then}
use Rattle.amqp_end.proofs.end.End.exchange.Goals as goal

pub returns-in-Ok-clause-goes : goal.returns-in-Ok-clause-goes
returns-in-Ok-clause-goes g c =
    let at = c.args.at in
    let mid = record c.args.self.now { connection = c.poll.new.self } in
    on_ok c.take_up.result (λ h. goes_then g.L.Link at [] [] c.args.self.now mid c.take_up.new.self (goes_polled g.L.Link at c.args.self.now mid c.in-Ok.ensures.ok refl refl refl refl refl) (h at).goes) c.take_up.ensures.goes

pub returns-in-Ok-clause-kept : goal.returns-in-Ok-clause-kept
returns-in-Ok-clause-kept g c =
    let at = c.args.at in
    let mid = record c.args.self.now { connection = c.poll.new.self } in
    on_both c.take_up.result
    (λ h f k. all_then g.L.Link at c.args.self.now mid c.take_up.new.self (goes_polled g.L.Link at c.args.self.now mid c.in-Ok.ensures.ok refl refl refl refl refl)
    (kept_still g.L.Link at c.args.self.now mid (between_sessions c.args.self.now mid refl refl) k) (h at).goes (f at))
    c.take_up.ensures.goes c.take_up.ensures.kept

pub returns-then-is_running-clause-kept : goal.returns-then-is_running-clause-kept
returns-then-is_running-clause-kept g c = λ k. inl k
