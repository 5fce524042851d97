use denote.Param.Send.{sendable}
use Rattle.amqp_delivery.proofs.info.DeliveryInfo.TheSendSync as DeliveryInfo
use Rattle.amqp_disposers.proofs.Sending.{parts, ticket_desk, ticket_seat}
use Rattle.amqp_disposers.proofs.tickets.serve_each.Goals as goal

pub map_vec-requires-send-J : goal.map_vec-requires-send-J
map_vec-requires-send-J g c κs within = search (ticket_seat, parts) depth 60 fits 20000

pub map_vec-requires-send-X : goal.map_vec-requires-send-X
map_vec-requires-send-X g c κs within = search (ticket_seat, parts) depth 60 fits 20000

pub map_vec-requires-sync-F : goal.map_vec-requires-sync-F
map_vec-requires-sync-F g c κs within = search (ticket_desk, DeliveryInfo.the_sync, DeliveryInfo.the_field_sync, sendable) depth 60 fits 20000
