use Rattle.amqp_composites.specs.declared.kind.CompositeKind.TheVariants as kind
use Rattle.amqp_performatives.specs.Open.{open_fields}
use Rattle.amqp_performatives.specs.Begin.{begin_fields}
use Rattle.amqp_performatives.specs.Attach.{attach_fields}
use Rattle.amqp_performatives.specs.Flow.{flow_fields}
use Rattle.amqp_performatives.specs.Transfer.{transfer_fields}
use Rattle.amqp_performatives.specs.Disposition.{disposition_fields}
use Rattle.amqp_performatives.specs.Detach.{detach_fields}
use Rattle.amqp_performatives.specs.End.{end_fields}
use Rattle.amqp_performatives.specs.Close.{close_fields}
use Rattle.amqp_sizes.proofs.Listed.{body_is, empty_body}
use Rattle.amqp_sizes.proofs.body.said_size.Goals as goal

pub returns-in-Open : goal.returns-in-Open
returns-in-Open c = rw c.in-Open.is (body_is c.open_size.result kind.Open (open_fields c.in-Open.said) c.open_size.ensures)

pub returns-in-Begin : goal.returns-in-Begin
returns-in-Begin c = rw c.in-Begin.is (body_is c.begin_size.result kind.Begin (begin_fields c.in-Begin.said) c.begin_size.ensures)

pub returns-in-Attach : goal.returns-in-Attach
returns-in-Attach c = rw c.in-Attach.is (body_is c.attach_size.result kind.Attach (attach_fields c.in-Attach.said) c.attach_size.ensures)

pub returns-in-Flow : goal.returns-in-Flow
returns-in-Flow c = rw c.in-Flow.is (body_is c.flow_size.result kind.Flow (flow_fields c.in-Flow.said) c.flow_size.ensures)

pub returns-in-Transfer : goal.returns-in-Transfer
returns-in-Transfer c = rw c.in-Transfer.is (body_is c.transfer_size.result kind.Transfer (transfer_fields c.in-Transfer.said) c.transfer_size.ensures)

pub returns-in-Disposition : goal.returns-in-Disposition
returns-in-Disposition c = rw c.in-Disposition.is (body_is c.disposition_size.result kind.Disposition (disposition_fields c.in-Disposition.said) c.disposition_size.ensures)

pub returns-in-Detach : goal.returns-in-Detach
returns-in-Detach c = rw c.in-Detach.is (body_is c.detach_size.result kind.Detach (detach_fields c.in-Detach.said) c.detach_size.ensures)

pub returns-in-End : goal.returns-in-End
returns-in-End c = rw c.in-End.is (body_is c.end_size.result kind.End (end_fields c.in-End.said) c.end_size.ensures)

pub returns-in-Close : goal.returns-in-Close
returns-in-Close c = rw c.in-Close.is (body_is c.close_size.result kind.Close (close_fields c.in-Close.said) c.close_size.ensures)

pub returns-in-Empty : goal.returns-in-Empty
returns-in-Empty c = rw c.in-Empty.is empty_body
