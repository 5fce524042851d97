use Rattle.std.proofs.Common.{◌≡◌, ap, nat_eq, List, rules}
use Rattle.std.specs.Prelude.{not, filter}
use Rattle.std.proofs.lemmas.Fn.{filter_same}
use Rattle.amqp_parts.specs.declared.part.Part.{Part}
use Rattle.amqp_session.specs.State.{State, seen}
use Rattle.amqp_session.proofs.session.Session.drop_held.Goals as goal

pub returns : goal.returns
returns c =
    let kept : c.retain.new.self.items ≡ filter (λ (x : Part). not (nat_eq x.transfer.handle c.args.handle)) c.args.self.now.held.items = filter_same _ _ _ (λ x b f' k. search rules) _ _ c.retain.ensures.filtered in
    let s : State = seen c.args.self.now in
    ap (λ (xs : List Part). record s { held = xs }) kept
