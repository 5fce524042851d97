-- What waits at the links of an end, as they hear what their sessions hand over.
use Rattle.std.specs.Prelude.{◌≡◌, ℕ, nat_eq, Bool, true, false, cond, All, List, [], ◌∷◌, ◌++◌, Option, Some, None, if◌then◌else◌, refl}
use Rattle.std.proofs.Common.{sym, ◌∙◌, ap, subst, eq-eqb}
use Rattle.std.specs.Map.{lookup}
use Rattle.amqp_composites.specs.declared.modes.Role.{Role}
use Rattle.amqp_link.specs.declared.endpoint.LinkPhase.{LinkPhase}
use Rattle.amqp_link.specs.declared.endpoint.LinkPhase.TheVariants as phase
use Rattle.amqp_link.specs.Link.{Link}
use Rattle.amqp_link.specs.Parting as parts
use Rattle.amqp_link_calls.specs.Answering.{answers_taken, outcome_now}
use Rattle.amqp_link_calls.specs.Called.{Called, with_side, answering as answering_here}
use Rattle.amqp_link_calls.specs.Calling.{sends, token_of, having_sent, awaiting, outcome_asked}
use Rattle.amqp_link_calls.specs.declared.leave.WaitingPart.{WaitingPart}
use Rattle.amqp_link_calls.specs.Leaving.{left_by, known, closed_by, part_answered_to, wants_handle, handle_given, handle_refused}
use Rattle.amqp_link_calls.specs.Replies.{is_pending}
use Rattle.amqp_link_calls.specs.Side as side
use Rattle.amqp_link_calls.specs.Side.{Side, Sender, Receiver, link_of as link_in, role_of}
use Rattle.amqp_link_words.specs.declared.link_call.Sendable.{Sendable}
use Rattle.amqp_link_words.specs.declared.link_reply.LinkReply.{LinkReply}
use Rattle.amqp_link_words.specs.declared.link_reply.LinkReply.TheVariants as reply
use Rattle.amqp_links.specs.declared.timed.Awaited.TheVariants.{Outcome}
use Rattle.amqp_links.specs.declared.timed.Timer.{Timer}
use Rattle.amqp_links.specs.Hearing.{is_detach, parting, hearing_at, hearing}
use Rattle.amqp_links.specs.Numbering.{begun_by, begun_as, receives_at, numbering}
use Rattle.amqp_links.specs.Parts.{emptied, heard, handle_of, name_of, is_over}
use Rattle.amqp_links.specs.State.{State, place_of, link_of, with_link, stepped, at_place, answering}
use Rattle.amqp_links.specs.Taking.{written_at, written, told_at, told, told_on, spent_by_at, attach_told_on, attach_told, freed_at, freed, reclaimed_at, reclaimed, given_at, refused_at, placed_by, placed, reattached_at, taken_up}
use Rattle.amqp_links.specs.Timing.{timed_of, waiting_for, waiting_no_more, send_kept, awaiting_at, tried, trying_at, message_for, trying, tried_again}
use Rattle.amqp_link_tables.specs.declared.deliveries.Delivered.{Delivered}
use Rattle.amqp_parts.specs.Join.{Incomplete}
use Rattle.amqp_performatives.specs.declared.transfer.Transfer.{Transfer}
use Rattle.amqp_receiver.specs.declared.receiver.Incoming.{Incoming}
use Rattle.amqp_receiver.specs.Receiver.{State as ReceiverState, transfer_in}
use Rattle.amqp_sender.specs.declared.sender.DeliveryToken.{DeliveryToken}
use Rattle.amqp_session.specs.declared.session.LinkInput.{LinkInput}
use Rattle.amqp_session.specs.declared.session.LinkInput.TheVariants as input
use Rattle.amqp_session_links.specs.declared.place.Claim.{Claim}
use Rattle.amqp_session_links.specs.declared.place.Claim.TheVariants.{Handle, Refused}
use Rattle.amqp_session_links.specs.Claims.{released, parted, spending}
use Rattle.amqp_session_links.specs.Numbers.{begun}
use Rattle.amqp_session_links.specs.State.{State as Place, attach_ended}
use Rattle.link_lives.proofs.Tables.{set_at}
use Rattle.link_answers.specs.Standing.{Given, IsDetached, IsHanded, AreAmong}
use Rattle.link_answers.specs.Keeping.{WaitStands, IsEarly}
use Rattle.link_answers.proofs.Joining.{waits_longer, waits_more}
use Rattle.link_answers.proofs.Receivers.{Steps, reads_flow}
use Rattle.link_answers.proofs.Sides.{waits_in}

abbrev pub waits_at : Option Called → Option (List Incoming × Option Incomplete)
waits_at None = None
waits_at (Some l) = Some (waits_in l.side)

-- what waits at one end of a link does not change with its link
pub link_waits : (m : Link) (a : Side) → waits_in (side.with_link m a) ≡ waits_in a
link_waits m (Sender s) = refl
link_waits m (Receiver s) = refl

-- ---- a link goes on

closed_waits : (x : LinkReply) (l : Called) → waits_in (closed_by x l).side ≡ waits_in l.side
closed_waits reply.Closed l = link_waits (parts.abandoned (link_in l.side)) l.side
closed_waits other l = refl

told_part_waits : (c : Bool) (x : LinkReply) (p : WaitingPart) (l : Called)
    → waits_in (if c then l else answering_here p.name x (closed_by x (record l { parting = None; leaving = left_by p.kind l.leaving }))).side ≡ waits_in l.side
told_part_waits true x p l = refl
told_part_waits false x p l = closed_waits x (record l { parting = None; leaving = left_by p.kind l.leaving })

part_waits : (o : Option WaitingPart) (l : Called) → waits_in (part_answered_to o l).side ≡ waits_in l.side
part_waits None l = refl
part_waits (Some p) l = told_part_waits (is_pending (known p.kind l.side)) (known p.kind l.side) p l

refused_waits : (l : Called) → waits_in (handle_refused l).side ≡ waits_in l.side
refused_waits l = part_waits l.parting (with_side (side.unplaced l.side) l) ∙ link_waits (parts.unplaced (link_in l.side)) l.side

given_waits : (handle : ℕ) (a : Side) → waits_in (side.reattached handle a) ≡ waits_in a
given_waits handle (Sender s) = refl
given_waits handle (Receiver s) = refl

sends_waits : (x : Sendable) (a : Side) → waits_in (sends x a).side ≡ waits_in a
sends_waits x (Sender s) = refl
sends_waits x (Receiver s) = refl

awaiting_waits : (c : Bool) (name place : ℕ) (l : Called) → waits_in (awaiting c name place l).side ≡ waits_in l.side
awaiting_waits true name place l = refl
awaiting_waits false name place l = refl

-- ---- among all links of an end

module _ (n : ℕ) where
  -- the same waits at the link
  abbrev Same : State → State → Type 0
  Same s t = waits_at (link_of n t) ≡ waits_at (link_of n s)

  same_if : (c : Bool) (s t u : State) → Same s t → Same s u → Same s (if c then t else u)
  same_if true s t u p q = p
  same_if false s t u p q = q

  same_links : (s t : State) → t.endpoints ≡ s.endpoints → Same s t
  same_links s t e = ap (λ (es : List (ℕ × Called)). waits_at (lookup (nat_eq n) es)) e

  stepped_links : (q : Option Place) (session : ℕ) (f : Place → Place) (s : State) → (stepped q session f s).endpoints ≡ s.endpoints
  stepped_links None session f s = refl
  stepped_links (Some p) session f s = refl

  pub place_links : (session : ℕ) (f : Place → Place) (s : State) → (at_place session f s).endpoints ≡ s.endpoints
  place_links session f s = stepped_links (place_of session s) session f s

  pub place_same : (session : ℕ) (f : Place → Place) (s : State) → Same s (at_place session f s)
  place_same session f s = same_links s (at_place session f s) (place_links session f s)

  pub there : (l m : Called) (s : State) → link_of n s ≡ Some l → link_of n (with_link n m s) ≡ Some m
  there l m s at = set_at n n s.endpoints l m at ∙ ap (λ (c : Bool). cond c (Some m) (link_of n s)) (eq-eqb n n refl)

  with_same : (l m : Called) (s : State) → link_of n s ≡ Some l → waits_in m.side ≡ waits_in l.side → Same s (with_link n m s)
  with_same l m s at e = ap waits_at (there l m s at) ∙ (ap (λ (x : List Incoming × Option Incomplete). Some x) e ∙ sym (ap waits_at at))

  -- ---- what has become of it is taken up

  written_same_at : (o : Option Called) (s : State) → link_of n s ≡ o → Same s (written_at o n s)
  written_same_at None s at = refl
  written_same_at (Some l) s at = with_same l (emptied l) s at (link_waits (record (link_in l.side) { output = [] }) l.side)

  written_same : (s : State) → Same s (written n s)
  written_same s = written_same_at (link_of n s) s refl

  told_same_at : (o : Option Called) (s : State) → link_of n s ≡ o → Same s (told_at o n s)
  told_same_at None s at = refl
  told_same_at (Some l) s at = with_same l (answers_taken l) s at refl

  told_same : (s : State) → Same s (told n s)
  told_same s = told_same_at (link_of n s) s refl

  spent_same_at : (o : Option Called) (session : ℕ) (s : State) → Same s (spent_by_at o session s)
  spent_same_at None session s = refl
  spent_same_at (Some l) session s = same_if l.is_made s s (at_place session (spending (name_of l)) s) refl (place_same session (spending (name_of l)) s)

  attach_told_same_on : (o : Option ℕ) (s : State) → Same s (attach_told_on o n s)
  attach_told_same_on None s = refl
  attach_told_same_on (Some session) s = (let t = at_place session attach_ended s in spent_same_at (link_of n t) session t ∙ place_same session attach_ended s)

  attach_told_same : (s : State) → Same s (attach_told n s)
  attach_told_same s = attach_told_same_on (told_on n s) s

  freed_same_at : (o : Option Called) (s : State) → Same s (freed_at o n s)
  freed_same_at None s = refl
  freed_same_at (Some l) s = same_if (is_over l) s (at_place l.session (released (handle_of l) n) s) s (place_same l.session (released (handle_of l) n) s) refl

  freed_same : (s : State) → Same s (freed n s)
  freed_same s = freed_same_at (link_of n s) s

  given_same_at : (o : Option Called) (handle : ℕ) (s : State) → link_of n s ≡ o → Same s (given_at o handle n s)
  given_same_at None handle s at = refl
  given_same_at (Some l) handle s at = with_same l (handle_given handle l) s at (given_waits handle l.side)

  refused_same_at : (o : Option Called) (s : State) → link_of n s ≡ o → Same s (refused_at o n s)
  refused_same_at None s at = refl
  refused_same_at (Some l) s at = with_same l (handle_refused l) s at (refused_waits l)

  placed_same_by : (c : Claim) (s : State) → Same s (placed_by c n s)
  placed_same_by (Handle handle) s = written_same (given_at (link_of n s) handle n s) ∙ given_same_at (link_of n s) handle s refl
  placed_same_by (Refused e) s = told_same (refused_at (link_of n s) n s) ∙ refused_same_at (link_of n s) s refl

  reclaimed_same_at : (q : Option Place) (session : ℕ) (name : List ℕ) (who : Role) (s : State) → Same s (reclaimed_at q session name who n s).state
  reclaimed_same_at None session name who s = refl
  reclaimed_same_at (Some p) session name who s = refl

  placed_same : (session : ℕ) (name : List ℕ) (who : Role) (s : State) → Same s (placed session name who n s)
  placed_same session name who s =
      let c = reclaimed session name who n s in placed_same_by c.answer c.state ∙ reclaimed_same_at (place_of session s) session name who s

  reattached_same_at : (o : Option Called) (s : State) → Same s (reattached_at o n s)
  reattached_same_at None s = refl
  reattached_same_at (Some l) s = same_if (wants_handle l) s (placed l.session (name_of l) (role_of l.side) n s) s (placed_same l.session (name_of l) (role_of l.side) s) refl

  pub taken_same : (s : State) → Same s (taken_up n s)
  taken_same s =
      let a = written n s in
      let b = told n a in
      let c = attach_told n b in
      let d = freed n c in
      reattached_same_at (link_of n d) d ∙ (freed_same c ∙ (attach_told_same b ∙ (told_same a ∙ written_same s)))

  -- ---- a message is tried again

  awaiting_same_at : (o : Option Called) (t : Timer) (token : DeliveryToken) (s : State) → link_of n s ≡ o → Same s (awaiting_at o n t token s)
  awaiting_same_at None t token s at = refl
  awaiting_same_at (Some l) t token s at =
      let answer = outcome_now token.place l in
      let m = outcome_asked t.name token.place l in
      let e : Same s (with_link n m s) = with_same l m s at (awaiting_waits (is_pending answer) t.name token.place l) in
      same_if (is_pending answer) s (waiting_for t (Outcome token) n (with_link n m s)) (waiting_no_more n (answering t.name answer (with_link n m s))) e e

  tried_same : (o : Option DeliveryToken) (answer : LinkReply) (t : Timer) (s : State) → Same s (tried o answer n t s)
  tried_same None answer t s = same_if (is_pending answer) s s (waiting_no_more n (answering t.name answer s)) refl refl
  tried_same (Some token) answer t s = (let u = answering t.name reply.Sent (send_kept t.name n (Some token) s) in awaiting_same_at (link_of n u) t token u refl)

  trying_same_at : (o : Option Called) (t : Timer) (x : Sendable) (s : State) → link_of n s ≡ o → Same s (trying_at o n t x s)
  trying_same_at None t x s at = refl
  trying_same_at (Some l) t x s at =
      tried_same (token_of x l.side) (sends x l.side).reply t (with_link n (having_sent x l) s) ∙ with_same l (having_sent x l) s at (sends_waits x l.side)

  trying_same : (o : Option (Timer × Sendable)) (s : State) → Same s (trying o n s)
  trying_same None s = refl
  trying_same (Some y) s = trying_same_at (link_of n s) y.0 y.1 s refl

  tried_again_same : (always : Bool) (s : State) → Same s (tried_again always n s)
  tried_again_same always s = trying_same (message_for always (timed_of n s) s.moment) s

  -- ---- a frame is heard

  parting_links : (c : Bool) (session remote : ℕ) (s : State) → (parting c session remote s).endpoints ≡ s.endpoints
  parting_links true session remote s = place_links session (parted remote) s
  parting_links false session remote s = refl

  begun_links : (o : Option (ℕ × Delivered)) (session : ℕ) (s : State) → (begun_as o session s).endpoints ≡ s.endpoints
  begun_links None session s = refl
  begun_links (Some d) session s = place_links session (begun d.0 d.1) s

  links_if : (c : Bool) (s t : State) → t.endpoints ≡ s.endpoints → (if c then t else s).endpoints ≡ s.endpoints
  links_if true s t e = e
  links_if false s t e = refl

  numbering_links : (session : ℕ) (x : LinkInput) (s : State) → (numbering session n x s).endpoints ≡ s.endpoints
  numbering_links session (input.Transfer x payload) s = links_if (receives_at (link_of n s)) s (begun_as (begun_by n x) session s) (begun_links (begun_by n x) session s)
  numbering_links session other s = refl

  -- before the link hears it
  pub ready_link : (session remote : ℕ) (x : LinkInput) (s : State) → link_of n (numbering session n x (parting (is_detach x) session remote s)) ≡ link_of n s
  ready_link session remote x s =
      let t = parting (is_detach x) session remote s in
      ap (λ (es : List (ℕ × Called)). lookup (nat_eq n) es) (numbering_links session x t ∙ parting_links (is_detach x) session remote s)

  abbrev heard_by : LinkInput → Option Called → Option Called
  heard_by x None = None
  heard_by x (Some l) = Some (heard x l)

  heard_waits : (o : Option Called) (x : LinkInput) (s : State) → link_of n s ≡ o → waits_at (link_of n (hearing_at o n x s)) ≡ waits_at (heard_by x o)
  heard_waits None x s at = ap waits_at at
  heard_waits (Some l) x s at = ap waits_at (there l (heard x l) s at)

  hearing_waits : (session remote : ℕ) (x : LinkInput) (s : State) → waits_at (link_of n (hearing session n remote x s)) ≡ waits_at (heard_by x (link_of n s))
  hearing_waits session remote x s =
      let t = numbering session n x (parting (is_detach x) session remote s) in
      let u = hearing_at (link_of n t) n x t in
      taken_same (tried_again (is_detach x) n u)
      ∙ (tried_again_same (is_detach x) u
      ∙ (heard_waits (link_of n t) x t refl ∙ ap (λ (o : Option Called). waits_at (heard_by x o)) (ready_link session remote x s)))

-- ---- what waits was handed over in order

-- of a Detach and of a Transfer it is said that it is for the link
abbrev pub Reaches : Given → ℕ → ℕ → LinkInput → Type 0
Reaches g n session (input.Detach d) = IsDetached (λ x. x ≡ d) g n
Reaches g n session (input.Transfer x payload) = IsHanded g n (record { transfer = x; payload = payload }) (session, input.Transfer x payload)
Reaches g n session other = Unit {0}

-- what waits at the link was among that
abbrev pub Within : Given → ℕ → List (ℕ × LinkInput) → State → Type 0
Within g n read s = (x : List Incoming × Option Incomplete) → waits_at (link_of n s) ≡ Some x → WaitStands g n read x.0 x.1

-- before the last was read: what waits at each link, and what is kept for none, is among the others
pub record WasBefore (g : Given) (read : List (ℕ × LinkInput)) (s : State) : Type 0 where
  pub waits : (n : ℕ) → Within g n read s
  pub early : (session : ℕ) (p : Place) → place_of session s ≡ Some p → All (λ (e : ℕ × List LinkInput). AreAmong (IsEarly session e.0) e.1 read) p.early

module _ (g : Given) (n session : ℕ) (read : List (ℕ × LinkInput)) where
  trivial : Steps (λ l m. Unit {0})
  trivial = record { same = λ l m e. tt; next = λ l m n p q. tt; says = λ x l. tt; closes = λ e l. tt; unexpected = λ l. tt }

  longer : (x : LinkInput) (w : List Incoming × Option Incomplete) → WaitStands g n read w.0 w.1 → WaitStands g n (read ++ (session, x) ∷ []) w.0 w.1
  longer x w k = waits_longer g n read ((session, x) ∷ []) w.0 w.1 k

  -- a Transfer waits behind the others
  pub one_more : (x : Transfer) (payload : List ℕ) (w : List Incoming × Option Incomplete) → Reaches g n session (input.Transfer x payload) → WaitStands g n read w.0 w.1
      → WaitStands g n (read ++ (session, input.Transfer x payload) ∷ []) (w.0 ++ record { transfer = x; payload = payload } ∷ []) w.1
  one_more x payload w r k = waits_more g n (record { transfer = x; payload = payload }) (session, input.Transfer x payload) read w.0 w.1 r k

  transfer_stands : (p : LinkPhase) (x : Transfer) (payload : List ℕ) (s : ReceiverState) → Reaches g n session (input.Transfer x payload) → WaitStands g n read s.incoming s.buffer
      → WaitStands g n (read ++ (session, input.Transfer x payload) ∷ []) (transfer_in p x payload s).incoming (transfer_in p x payload s).buffer
  transfer_stands phase.Attached x payload s r k = one_more x payload (s.incoming, s.buffer) r k
  transfer_stands p x payload s r k = longer (input.Transfer x payload) (s.incoming, s.buffer) k

  heard_stands : (x : LinkInput) (l : Called) (a : Side) → is_detach x ≡ false → Reaches g n session x → WaitStands g n read (waits_in a).0 (waits_in a).1
      → WaitStands g n (read ++ (session, x) ∷ []) (waits_in (heard x (with_side a l)).side).0 (waits_in (heard x (with_side a l)).side).1
  heard_stands (input.Flow x) l (Sender s) d r k = longer (input.Flow x) ([], None) k
  heard_stands (input.Flow x) l (Receiver s) d r k =
      subst (λ (w : List Incoming × Option Incomplete). WaitStands g n (read ++ (session, input.Flow x) ∷ []) w.0 w.1) (sym (reads_flow (λ l m. Unit {0}) trivial x s).waits) (longer (input.Flow x) (s.incoming, s.buffer) k)
  heard_stands (input.Transfer x payload) l (Sender s) d r k = longer (input.Transfer x payload) ([], None) k
  heard_stands (input.Transfer x payload) l (Receiver s) d r k = transfer_stands s.link.phase x payload s r k
  heard_stands (input.Detach x) l a d r k = absurd cc
  heard_stands other l a d r k = longer other (waits_in a) k

  heard_at : (x : LinkInput) (o : Option Called) → is_detach x ≡ false → Reaches g n session x → ((w : List Incoming × Option Incomplete) → waits_at o ≡ Some w → WaitStands g n read w.0 w.1)
      → (w : List Incoming × Option Incomplete) → waits_at (heard_by n x o) ≡ Some w → WaitStands g n (read ++ (session, x) ∷ []) w.0 w.1
  heard_at x None d r k w e = absurd cc
  heard_at x (Some l) d r k w e =
      let same : waits_in (heard x l).side ≡ w = cc in
      subst (λ (v : List Incoming × Option Incomplete). WaitStands g n (read ++ (session, x) ∷ []) v.0 v.1) same (heard_stands x l l.side d r (k (waits_in l.side) refl))

  -- so it is with each frame that is heard, but for a Detach
  pub hearing_within : (remote : ℕ) (x : LinkInput) (s : State) → is_detach x ≡ false → Reaches g n session x → Within g n read s → Within g n (read ++ (session, x) ∷ []) (hearing session n remote x s)
  hearing_within remote x s d r k w e = heard_at x (link_of n s) d r k w (sym (hearing_waits n session remote x s) ∙ e)
