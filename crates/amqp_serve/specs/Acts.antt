-- The calls of a listener.
use Rattle.std.specs.Prelude.{Option, Some, None}
use Rattle.amqp_calls.specs.declared.call.Call.{Call}
use Rattle.amqp_served_calls.specs.Calls.{accept_call, accept_session_call, accept_link_call, accept_delivery_call, recv_call}
use Rattle.amqp_served.specs.declared.served.Act.{Act}
use Rattle.amqp_served.specs.declared.served.Act.TheVariants as act

-- the call of an act, where it has one
abbrev pub call_for : Act → Option Call
call_for act.AcceptConnection = Some accept_call
call_for act.AcceptSession = Some accept_session_call
call_for (act.AcceptLink session) = Some (accept_link_call session)
call_for (act.Settle receiver delivery) = Some (accept_delivery_call receiver delivery)
call_for (act.Receive receiver) = Some (recv_call receiver)
call_for act.Wait = None
call_for act.Finish = None
