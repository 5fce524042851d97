-- The links of one session, as their rules see them (OASIS AMQP 1.0, part 2, sections 2.6.2, 2.6.4 and 2.7.3).
use Rattle.std.specs.Prelude.{ℕ, List, []}
use Rattle.amqp_link_tables.specs.declared.handles.Held.{Held}
use Rattle.amqp_link_tables.specs.declared.table.LinkTable.{LinkTable}

-- what each handle of this end that is in use stands for; the links by their names, at which this end sends and at which it receives;
-- the links by the handles of the peer; the names that no attach may use again
pub record State : Type 0 where
  pub handles : List (ℕ × Held)
  pub senders : List (List ℕ × ℕ)
  pub receivers : List (List ℕ × ℕ)
  pub remotes : List (ℕ × ℕ)
  pub spent : List (List ℕ)

abbrev pub seen : LinkTable → State
seen t = record {
  handles = t.handles;
  senders = t.senders.entries;
  receivers = t.receivers.entries;
  remotes = t.remotes.entries;
  spent = t.spent.keys;
}

-- there are no links
abbrev pub no_links : State
no_links = record { handles = []; senders = []; receivers = []; remotes = []; spent = [] }
