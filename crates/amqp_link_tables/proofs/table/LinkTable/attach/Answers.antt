use Rattle.amqp_link_tables.proofs.table.LinkTable.attach.Goals as goal

pub returns : goal.returns
returns c = rw (← c.in_ok-occupy.ensures.ok, ← c.in_ok-known.ensures) c.enter_name.ensures
