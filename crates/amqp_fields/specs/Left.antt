-- The fields that are still to be read.
use Rattle.std.specs.Vec.Iter.{into_iter_items}
use Rattle.amqp_data.specs.Data.{Items}
use Rattle.amqp_data.specs.View.{items_view}
use Rattle.amqp_fields.specs.declared.fields.Fields.{Fields}

abbrev pub left : Fields → Items
left f = items_view (into_iter_items f.values)
