-- An end that can do no more.
use Rattle.std.proofs.Common.{inl, inr, ℕ, List, ◌++◌, sym, subst}
use Rattle.amqp_wire.specs.declared.link.Held.TheVariants.{Full}
use Rattle.amqp_wire.specs.Events.{LinkEvent, NotWritten, Includes}
use Rattle.amqp_wire.proofs.Events.{includes_left}
use Rattle.amqp_peer.specs.declared.held.Held.{Held}
use Rattle.amqp_peer.specs.declared.held.Held.TheVariants.{Early, Late, Unopened, Moving}
use Rattle.amqp_peer.specs.Held.{IsSorted}
use Rattle.amqp_peer.specs.History.{Local, link_in}
use Rattle.amqp_peer.specs.Runs.{IsReadUp, IsBlocked}
use Rattle.amqp_peer.proofs.Histories.{link_in-append}

full_left : (es fs : List Local) → Includes (link_in es) (NotWritten Full) → Includes (link_in (es ++ fs)) (NotWritten Full)
full_left es fs f = subst (λ (u : List LinkEvent). Includes u (NotWritten Full)) (sym (link_in-append es fs)) (includes_left (link_in es) (link_in fs) (NotWritten Full) f)

-- what came before changes nothing of it
pub read_up_left : {L : Type 0} (at : ℕ) (held : Held L) (es fs : List Local) → IsReadUp at held es → IsReadUp at held (es ++ fs)
read_up_left at (Early o p) es fs r = r
read_up_left at (Late s) es fs r = (r.0, elim r.1 [ inl f ↦ inl (full_left es fs f) | inr e ↦ inr e ])
read_up_left at (Unopened c) es fs r = r
read_up_left at Moving es fs r = r

pub blocked_left : {L : Type 0} (held : Held L) (es fs : List Local) → IsBlocked held es → IsBlocked held (es ++ fs)
blocked_left (Early o p) es fs f = full_left es fs f
blocked_left (Late s) es fs f = f
blocked_left (Unopened c) es fs f = f
blocked_left Moving es fs f = f

-- over a link that is never full all is written
pub sorted_of : {L : Type 0} (at : ℕ) (held : Held L) (events : List Local) → (Includes (link_in events) (NotWritten Full) → ⊥) → IsReadUp at held events → IsSorted at held
sorted_of at (Early o p) events n r = r
sorted_of at (Late s) events n r = (r.0, elim r.1 [ inl f ↦ absurd (n f) | inr e ↦ e ])
sorted_of at (Unopened c) events n r = r
sorted_of at Moving events n r = r

pub blocked_full : {L : Type 0} (held : Held L) (events : List Local) → IsBlocked held events → Includes (link_in events) (NotWritten Full)
blocked_full (Early o p) events f = f
blocked_full (Late s) events f = absurd f
blocked_full (Unopened c) events f = absurd f
blocked_full Moving events f = absurd f
