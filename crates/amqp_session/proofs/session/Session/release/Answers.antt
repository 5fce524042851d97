use Rattle.std.proofs.Common.{◌≡◌, ◌∙◌, [], ap, sym, arith, rules}
use Rattle.amqp_session.specs.State.{State, seen}
use Rattle.amqp_session.specs.Hold.{released}
use Rattle.amqp_session.proofs.Releases.{released_spent, released_none, released_first}
use Rattle.amqp_session.proofs.session.Session.release.Goals as goal

pub returns : goal.returns
returns c = sym (released_spent (seen c.loop-self.self) (omega (arith, c.loop-self-test.false))) ∙ c.loop-self.invariant

pub loop-self-preserved : goal.loop-self-preserved
loop-self-preserved c =
    ap (λ s. released s) c.in_ok-leave-in-Some.ensures ∙ sym (released_first (seen c.loop-self.self) c.in-Some.held c.pop_front.new.self.items c.in-Some.ensures.items (omega (arith, c.loop-self-test.true))) ∙ c.loop-self.invariant

pub returns-in-None : goal.returns-in-None
returns-in-None c =
    let none : c.loop-self.self.held.items ≡ [] = search rules in
    let s : State = seen c.loop-self.self in
    ap (λ xs. record s { held = xs }) (sym c.in-None.ensures.items) ∙ sym (released_none s none) ∙ c.loop-self.invariant
