use Rattle.std.proofs.Common.{◌≤◌, take}
use Rattle.amqp_clients.specs.Delivered.{Delivered}
use Rattle.amqp_clients.proofs.sending.send_all.Given as goal

abbrev pub invariant-loop-text : goal.invariant-loop-text
invariant-loop-text g l = record { delivered : Delivered g.L.Link l.fn.end (take l.text-index l.messages) l.refused l.end; below : l.refused ≤ l.text-index }
