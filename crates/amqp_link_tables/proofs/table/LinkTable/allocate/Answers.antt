use Rattle.amqp_link_tables.proofs.table.LinkTable.allocate.Goals as goal

pub returns-clause-state : goal.returns-clause-state
returns-clause-state c = c.in_ok-attach.ensures
