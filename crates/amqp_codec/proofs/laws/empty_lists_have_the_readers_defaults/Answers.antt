use Rattle.amqp_codec.proofs.Read.{read_source, read_target, read_rejected, read_modified, read_header, read_properties}
use Rattle.amqp_codec.proofs.laws.empty_lists_have_the_readers_defaults.Goals as goal

pub returns : goal.returns
returns c = record {
  read_source = read_source;
  read_target = read_target;
  read_rejected = read_rejected;
  read_modified = read_modified;
  read_header = read_header;
  read_properties = read_properties;
}
