use Rattle.amqp_codec.proofs.Read.{read_open, read_begin, read_attach, read_flow, read_transfer, read_disposition, read_detach, read_end, read_close}
use Rattle.amqp_codec.proofs.laws.performatives_have_the_readers_defaults.Goals as goal

pub returns : goal.returns
returns c = record {
  read_open = read_open;
  read_begin = read_begin;
  read_attach = read_attach;
  read_flow = read_flow;
  read_transfer = read_transfer;
  read_disposition = read_disposition;
  read_detach = read_detach;
  read_end = read_end;
  read_close = read_close;
}
