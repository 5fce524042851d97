use Rattle.amqp_link_tables.specs.Handles.{IsLowestFree}
use Rattle.amqp_link_tables.proofs.Account.{lowest_there}
use Rattle.amqp_link_tables.proofs.handles.Handles.lowest.Goals as goal

pub returns-in-Some : goal.returns-in-Some
returns-in-Some c =
    let p = c.self.inside in
    let x = c.in-Some.field-0.now in
    let there : IsLowestFree x.0 p.held.entries = lowest_there p.freed.data.items p.fresh p.held.entries x c.self.invariant.0 c.in-Some.ensures.item.3.0 c.in-Some.ensures.lookup (c.in-Some.ensures.greatest c.self.invariant.1) in
    rw (c.from.ensures, ← c.self.view_is) there
