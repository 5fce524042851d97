use Rattle.std.proofs.Common.{sym}
use Rattle.amqp_value.proofs.Numbers.{bytes_length}
use Rattle.amqp_value.proofs.reading.scalars.read_uuid.Goals as goal

pub copy_from_slice-requires : goal.copy_from_slice-requires
copy_from_slice-requires c = sym (bytes_length 16 c.args.bytes.now c.in_ok-front.front.now c.in_ok-front.rest.now c.in_ok-front.ensures)
