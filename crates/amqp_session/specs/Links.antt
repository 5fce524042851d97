-- What a session does with the frames of its links (OASIS AMQP 1.0, part 2, sections 2.6 and 2.7.2 to 2.7.7).
use Rattle.std.specs.Prelude.{ℕ, Bool, true, false, nat_lt, nat_eq, List, Option, Some, None, is_none, if◌then◌else◌}
use Rattle.std.specs.Map.{lookup, remove_entry}
use Rattle.indexmap.specs.IndexMap.{insert_entry}
use Rattle.amqp_composites.specs.declared.modes.Role.{Role}
use Rattle.amqp_composites.specs.declared.modes.Role.TheVariants as role
use Rattle.amqp_performatives.specs.declared.attach.Attach.{Attach}
use Rattle.amqp_performatives.specs.declared.detach.Detach.{Detach}
use Rattle.amqp_performatives.specs.declared.flow.Flow.{Flow}
use Rattle.amqp_performatives.specs.declared.transfer.Transfer.{Transfer}
use Rattle.amqp_session.specs.declared.error.Error.TheVariants as error
use Rattle.amqp_session.specs.declared.error.Fault.TheVariants as fault
use Rattle.amqp_session.specs.declared.session.LinkInput.TheVariants as input
use Rattle.amqp_session.specs.Ends.{failing}
use Rattle.amqp_session.specs.Hold.{released, reporting}
use Rattle.amqp_session.specs.State.{State, Made, works, refuses, handing}
use Rattle.amqp_session.specs.Windows.{windows_flowed, transfer_read, is_report_due}

-- the peer's role at its handle, where that is attached
abbrev pub input_at : ℕ → State → Option Role
input_at handle s = lookup (nat_eq handle) s.inputs

-- the peer attaches a link: its handle is attached, and the links are handed the Attach
abbrev pub attaching : Attach → State → State
attaching x s = handing (input.Attach x) (record s { inputs = insert_entry nat_eq s.inputs x.handle x.role })

abbrev pub attach_at : Option Role → Attach → State → Made
attach_at (Some r) x s = failing fault.HandleInUse s
attach_at None x s = works (attaching x s)

-- no handle above the handle-max of the reader (section 2.7.2), and none that is in use (section 2.7.3)
abbrev pub attach_read : Attach → State → Made
attach_read x s = if nat_lt s.own_handle_max x.handle then refuses error.FramingError s else attach_at (input_at x.handle s) x s

-- a Detach frees the handle
abbrev pub detach_at : Option Role → Detach → State → Made
detach_at None x s = failing fault.UnattachedHandle s
detach_at (Some r) x s = works (handing (input.Detach x) (record s { inputs = remove_entry (nat_eq x.handle) s.inputs }))

-- what was read is reported where that is due
abbrev pub report : State → State
report s = if is_report_due s.windows then reporting s else s

-- a Transfer comes of a sender alone
abbrev pub transfer_at : Option Role → Transfer → List ℕ → State → Made
transfer_at None x payload s = failing fault.UnattachedHandle s
transfer_at (Some role.Receiver) x payload s = failing fault.TransferFrameToSender s
transfer_at (Some role.Sender) x payload s = works (report (handing (input.Transfer x payload) (record s { windows = transfer_read s.windows })))

-- a Flow of a link is handed to it
abbrev pub hand_flow : Option ℕ → Flow → State → State
hand_flow None x s = s
hand_flow (Some handle) x s = handing (input.Flow x) s

-- a Flow with echo is answered
abbrev pub echo : Bool → State → State
echo true s = reporting s
echo false s = s

-- the session's part of a Flow comes first: what waits is written as far as the peer can take it
abbrev pub flowed : Flow → State → State
flowed x s = echo x.echo (hand_flow x.handle x (released (record s { windows = windows_flowed x s.windows })))

-- whether the Flow names a handle that is not attached
abbrev pub is_astray : Option ℕ → State → Bool
is_astray None s = false
is_astray (Some handle) s = is_none (input_at handle s)

abbrev pub flow_at : Bool → Flow → State → Made
flow_at true x s = failing fault.UnattachedHandle s
flow_at false x s = works (flowed x s)
