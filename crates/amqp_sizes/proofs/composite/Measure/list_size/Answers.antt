use Rattle.amqp_sizes.proofs.Listed.{empty_list, full_list}
use Rattle.amqp_sizes.proofs.composite.Measure.list_size.Goals as goal

pub returns-then-self-eq0-clause-value : goal.returns-then-self-eq0-clause-value
returns-then-self-eq0-clause-value c = λ levels vs h. empty_list c.args.self levels vs c.if-self-eq0.true h

pub returns-else-self-eq0-clause-value : goal.returns-else-self-eq0-clause-value
returns-else-self-eq0-clause-value c = λ levels vs h. full_list c.args.self c.compound_size.result levels vs c.if-self-eq0.false c.compound_size.ensures h
