-- What is forgotten of a call that nothing will name again (OASIS AMQP 1.0, part 2, section 2.6.12).
use Rattle.std.specs.Prelude.{ℕ, nat_eq}
use Rattle.indexmap.specs.IndexMap.{swap_remove_entry}
use Rattle.amqp_links.specs.State.{State}

-- the message that the call of that name sent, or the delivery that it was given, is not known by it any more
abbrev pub forgotten : ℕ → State → State
forgotten name s = record s {
  sends = swap_remove_entry (nat_eq name) s.sends;
  deliveries = swap_remove_entry (nat_eq name) s.deliveries;
}
