-- The defaults are those that the readers fill in.
use Rattle.std.proofs.Common.{◌≡◌, ℕ, List, Some, refl}
use Rattle.amqp_data.specs.Data.{null, scalar, no_items, item}
use Rattle.amqp_fields.specs.Fields.{of_string, of_uint}
use Rattle.amqp_composites.specs.declared.modes.Role.{Role}
use Rattle.amqp_composites.specs.declared.modes.Role.TheVariants.{Sender, Receiver}
use Rattle.amqp_composites.specs.Modes.{of_role}
use Rattle.amqp_performatives.specs.Open.{open_of}
use Rattle.amqp_performatives.specs.Begin.{begin_of}
use Rattle.amqp_performatives.specs.Attach.{attach_of, link_of, ends_of, limits_of}
use Rattle.amqp_performatives.specs.Flow.{flow_of}
use Rattle.amqp_performatives.specs.Transfer.{transfer_of}
use Rattle.amqp_performatives.specs.Disposition.{disposition_of}
use Rattle.amqp_performatives.specs.Detach.{detach_of}
use Rattle.amqp_performatives.specs.End.{end_of}
use Rattle.amqp_performatives.specs.Close.{close_of}
use Rattle.amqp_termini.specs.Source.{source_of}
use Rattle.amqp_termini.specs.Target.{target_of}
use Rattle.amqp_termini.specs.States.{rejected_of, modified_of}
use Rattle.amqp_sections.specs.Header.{header_of}
use Rattle.amqp_sections.specs.Properties.{properties_of, address_of, content_of}
use Rattle.amqp_codec.specs.Defaults.{default_open, default_begin, default_attach, default_flow, default_transfer, default_disposition, default_detach, default_end, default_close, default_source, default_target, default_rejected, default_modified, default_header, default_properties}

pub read_open : (id : List ℕ) → open_of (item (of_string id) no_items) ≡ Some (default_open id)
unfolding open_of
read_open id = refl

pub read_begin : (n i o : ℕ) → begin_of (item (scalar null) (item (of_uint n) (item (of_uint i) (item (of_uint o) no_items)))) ≡ Some (default_begin n i o)
unfolding begin_of
read_begin n i o = refl

pub read_attach : (name : List ℕ) (handle : ℕ) (role : Role) → attach_of (item (of_string name) (item (of_uint handle) (item (of_role role) no_items))) ≡ Some (default_attach name handle role)
unfolding attach_of link_of ends_of limits_of
read_attach name handle Sender = refl
read_attach name handle Receiver = refl

pub read_flow : (i n o : ℕ) → flow_of (item (scalar null) (item (of_uint i) (item (of_uint n) (item (of_uint o) no_items)))) ≡ Some (default_flow i n o)
unfolding flow_of
read_flow i n o = refl

pub read_transfer : (handle : ℕ) → transfer_of (item (of_uint handle) no_items) ≡ Some (default_transfer handle)
unfolding transfer_of
read_transfer handle = refl

pub read_disposition : (role : Role) (first : ℕ) → disposition_of (item (of_role role) (item (of_uint first) no_items)) ≡ Some (default_disposition role first)
unfolding disposition_of
read_disposition Sender first = refl
read_disposition Receiver first = refl

pub read_detach : (handle : ℕ) → detach_of (item (of_uint handle) no_items) ≡ Some (default_detach handle)
unfolding detach_of
read_detach handle = refl

pub read_end : end_of no_items ≡ Some default_end
unfolding end_of
read_end = refl

pub read_close : close_of no_items ≡ Some default_close
unfolding close_of
read_close = refl

pub read_source : source_of no_items ≡ Some default_source
unfolding source_of
read_source = refl

pub read_target : target_of no_items ≡ Some default_target
unfolding target_of
read_target = refl

pub read_rejected : rejected_of no_items ≡ Some default_rejected
unfolding rejected_of
read_rejected = refl

pub read_modified : modified_of no_items ≡ Some default_modified
unfolding modified_of
read_modified = refl

pub read_header : header_of no_items ≡ Some default_header
unfolding header_of
read_header = refl

pub read_properties : properties_of no_items ≡ Some default_properties
unfolding properties_of address_of content_of
read_properties = refl
