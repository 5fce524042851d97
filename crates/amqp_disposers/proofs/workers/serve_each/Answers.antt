use Rattle.std.proofs.sync.ledger.Share.TheSendSync as Share
use Rattle.amqp_delivery.proofs.info.DeliveryInfo.TheSendSync as DeliveryInfo
use Rattle.amqp_delivery.proofs.info.DisposerView.TheSendSync as DisposerView
use denote.Param.Send.{sendable}
use Rattle.amqp_disposers.proofs.Sending.{parts, receipt, desk_error, desk, desk_field}
use Rattle.amqp_disposers.proofs.workers.serve_each.Goals as goal

pub map_vec-requires-send-J : goal.map_vec-requires-send-J
map_vec-requires-send-J g c κs within = search (receipt, DisposerView.the_field_send, Share.the_send, parts) depth 60 fits 20000

pub map_vec-requires-send-X : goal.map_vec-requires-send-X
map_vec-requires-send-X g c κs within = search (desk_error, receipt, DisposerView.the_field_send, Share.the_send, parts) depth 60 fits 20000

pub map_vec-requires-sync-F : goal.map_vec-requires-sync-F
map_vec-requires-sync-F g c κs within = search (desk, desk_field, DeliveryInfo.the_sync, DeliveryInfo.the_field_sync, sendable) depth 60 fits 20000
