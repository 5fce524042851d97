-- What the links of one session share, as their rules see it (OASIS AMQP 1.0, part 2, sections 2.5 and 2.6).
use Rattle.std.specs.Prelude.{ℕ, Bool, ◌||◌, is_some, List, [], Option, Some, None}
use Rattle.amqp_frames.specs.declared.shared.SessionStopReason.{SessionStopReason}
use Rattle.amqp_link.specs.Link.{first_reason}
use Rattle.amqp_link_tables.specs.declared.deliveries.Delivered.{Delivered}
use Rattle.amqp_link_tables.specs.State.{State as Table, no_links}
use Rattle.amqp_performatives.specs.declared.attach.Attach.{Attach}
use Rattle.amqp_session.specs.declared.session.LinkInput.{LinkInput}
use Rattle.amqp_session_links.specs.declared.place.WaitingAccept.{WaitingAccept}

-- the links that hold a handle, by handles and names; the deliveries that this end has sent and those that the peer has sent, by numbers;
-- each link that was made on the session; the link whose attach waits for the peer's answer; the call that waits for an Attach of the
-- peer; the Attaches of the peer that no call has accepted; what was read of the handles of the peer that no link has; the highest
-- handle that this end may use, once a link has got one; why the session has stopped
pub record State : Type 0 where
  pub table : Table
  pub outgoing : List (ℕ × Delivered)
  pub incoming : List (ℕ × Delivered)
  pub links : List ℕ
  pub attaching : Option ℕ
  pub accepting : Option WaitingAccept
  pub attaches : List Attach
  pub early : List (ℕ × List LinkInput)
  pub handle_max : Option ℕ
  pub stop_reason : Option SessionStopReason

-- no link was attached
abbrev pub none_attached : State
none_attached = record { table = no_links; outgoing = []; incoming = []; links = []; attaching = None; accepting = None; attaches = []; early = []; handle_max = None; stop_reason = None }

-- whether a call waits
abbrev pub is_busy : State → Bool
is_busy s = is_some s.attaching || is_some s.accepting

-- ---- the calls that wait

-- the attach of that link waits for the peer's answer
abbrev pub awaiting_answer : ℕ → State → State
awaiting_answer link s = record s { attaching = Some link }

-- no attach waits
abbrev pub attach_ended : State → State
attach_ended s = record s { attaching = None }

-- that call waits for an Attach of the peer
abbrev pub awaiting_attach : WaitingAccept → State → State
awaiting_attach accept s = record s { accepting = Some accept }

-- no call does
abbrev pub accept_taken : State → State
accept_taken s = record s { accepting = None }

-- ---- the end of the session

-- the session has stopped: the first reason stays
abbrev pub stopped : SessionStopReason → State → State
stopped why s = record s { stop_reason = first_reason s.stop_reason why }
