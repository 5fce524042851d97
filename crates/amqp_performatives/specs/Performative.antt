-- The performatives (OASIS AMQP 1.0, part 2, section 2.7).
use Rattle.std.specs.Prelude.{◌≡◌, List, Option, Some, None}
use Rattle.std.proofs.Common.{ap}
use Rattle.amqp_composites.specs.amqp_data.Data.{Amqp, Items}
use Rattle.amqp_composites.specs.amqp_fields.Fields.{◌>>=◌}
use Rattle.amqp_performatives.specs.declared.performative.Performative.{Performative}
use Rattle.amqp_performatives.specs.declared.performative.Performative.TheVariants as v
use Rattle.amqp_performatives.specs.declared.open.Open.{Open}
use Rattle.amqp_performatives.specs.declared.begin.Begin.{Begin}
use Rattle.amqp_performatives.specs.declared.attach.Attach.{Attach}
use Rattle.amqp_performatives.specs.declared.flow.Flow.{Flow}
use Rattle.amqp_performatives.specs.declared.transfer.Transfer.{Transfer}
use Rattle.amqp_performatives.specs.declared.disposition.Disposition.{Disposition}
use Rattle.amqp_performatives.specs.declared.detach.Detach.{Detach}
use Rattle.amqp_performatives.specs.declared.end.End.{End}
use Rattle.amqp_performatives.specs.declared.close.Close.{Close}
use Rattle.amqp_composites.specs.declared.kind.CompositeKind.{CompositeKind}
use Rattle.amqp_composites.specs.declared.kind.CompositeKind.TheVariants as kind
use Rattle.amqp_composites.specs.Described.{list_in, composite}
use Rattle.amqp_performatives.specs.Attach.{attach_of, attach_fields, IsAttachValid, attach_again, written as attach_written}
use Rattle.amqp_performatives.specs.Begin.{begin_of, begin_fields, IsBeginValid, begin_again}
use Rattle.amqp_performatives.specs.Close.{close_of, close_fields, IsCloseValid, close_again}
use Rattle.amqp_performatives.specs.Detach.{detach_of, detach_fields, IsDetachValid, detach_again}
use Rattle.amqp_performatives.specs.Disposition.{disposition_of, disposition_fields, IsDispositionValid, disposition_again}
use Rattle.amqp_performatives.specs.End.{end_of, end_fields, IsEndValid, end_again}
use Rattle.amqp_performatives.specs.Flow.{flow_of, flow_fields, IsFlowValid, flow_again}
use Rattle.amqp_performatives.specs.Open.{open_of, open_fields, IsOpenValid, open_again}
use Rattle.amqp_performatives.specs.Transfer.{transfer_of, transfer_fields, IsTransferValid, transfer_again}

abbrev pub performative_with : CompositeKind → Items → Option Performative
performative_with kind.Open fields = open_of fields >>= λ x. Some (v.Open x)
performative_with kind.Begin fields = begin_of fields >>= λ x. Some (v.Begin x)
performative_with kind.Attach fields = attach_of fields >>= λ x. Some (v.Attach x)
performative_with kind.Flow fields = flow_of fields >>= λ x. Some (v.Flow x)
performative_with kind.Transfer fields = transfer_of fields >>= λ x. Some (v.Transfer x)
performative_with kind.Disposition fields = disposition_of fields >>= λ x. Some (v.Disposition x)
performative_with kind.Detach fields = detach_of fields >>= λ x. Some (v.Detach x)
performative_with kind.End fields = end_of fields >>= λ x. Some (v.End x)
performative_with kind.Close fields = close_of fields >>= λ x. Some (v.Close x)
performative_with k fields = None

-- the performative that a value says
abbrev pub performative_in : Amqp → Option Performative
performative_in w = list_in w >>= λ x. performative_with x.0 x.1

-- which described list it is
abbrev pub kind_of_performative : Performative → CompositeKind
kind_of_performative (v.Open x) = kind.Open
kind_of_performative (v.Begin x) = kind.Begin
kind_of_performative (v.Attach x) = kind.Attach
kind_of_performative (v.Flow x) = kind.Flow
kind_of_performative (v.Transfer x) = kind.Transfer
kind_of_performative (v.Disposition x) = kind.Disposition
kind_of_performative (v.Detach x) = kind.Detach
kind_of_performative (v.End x) = kind.End
kind_of_performative (v.Close x) = kind.Close

-- its fields, as they are written
abbrev pub performative_fields : Performative → List Amqp
performative_fields (v.Open x) = open_fields x
performative_fields (v.Begin x) = begin_fields x
performative_fields (v.Attach x) = attach_fields x
performative_fields (v.Flow x) = flow_fields x
performative_fields (v.Transfer x) = transfer_fields x
performative_fields (v.Disposition x) = disposition_fields x
performative_fields (v.Detach x) = detach_fields x
performative_fields (v.End x) = end_fields x
performative_fields (v.Close x) = close_fields x

-- the value that says it
abbrev pub of_performative : Performative → Amqp
of_performative x = composite (kind_of_performative x) (performative_fields x)

abbrev pub IsPerformativeValid : Performative → Type 0
IsPerformativeValid (v.Open x) = IsOpenValid x
IsPerformativeValid (v.Begin x) = IsBeginValid x
IsPerformativeValid (v.Attach x) = IsAttachValid x
IsPerformativeValid (v.Flow x) = IsFlowValid x
IsPerformativeValid (v.Transfer x) = IsTransferValid x
IsPerformativeValid (v.Disposition x) = IsDispositionValid x
IsPerformativeValid (v.Detach x) = IsDetachValid x
IsPerformativeValid (v.End x) = IsEndValid x
IsPerformativeValid (v.Close x) = IsCloseValid x

-- as it is read again: a max-message-size of 0 is none
abbrev pub read_again : Performative → Performative
read_again (v.Open x) = v.Open x
read_again (v.Begin x) = v.Begin x
read_again (v.Attach x) = v.Attach (attach_written x)
read_again (v.Flow x) = v.Flow x
read_again (v.Transfer x) = v.Transfer x
read_again (v.Disposition x) = v.Disposition x
read_again (v.Detach x) = v.Detach x
read_again (v.End x) = v.End x
read_again (v.Close x) = v.Close x

pub performative_again : (x : Performative) → IsPerformativeValid x → performative_in (of_performative x) ≡ Some (read_again x)
performative_again (v.Open x) h = ap (λ (r : Option Open). r >>= λ y. Some (v.Open y)) (open_again x h)
performative_again (v.Begin x) h = ap (λ (r : Option Begin). r >>= λ y. Some (v.Begin y)) (begin_again x h)
performative_again (v.Attach x) h = ap (λ (r : Option Attach). r >>= λ y. Some (v.Attach y)) (attach_again x h)
performative_again (v.Flow x) h = ap (λ (r : Option Flow). r >>= λ y. Some (v.Flow y)) (flow_again x h)
performative_again (v.Transfer x) h = ap (λ (r : Option Transfer). r >>= λ y. Some (v.Transfer y)) (transfer_again x h)
performative_again (v.Disposition x) h = ap (λ (r : Option Disposition). r >>= λ y. Some (v.Disposition y)) (disposition_again x h)
performative_again (v.Detach x) h = ap (λ (r : Option Detach). r >>= λ y. Some (v.Detach y)) (detach_again x h)
performative_again (v.End x) h = ap (λ (r : Option End). r >>= λ y. Some (v.End y)) (end_again x h)
performative_again (v.Close x) h = ap (λ (r : Option Close). r >>= λ y. Some (v.Close y)) (close_again x h)
