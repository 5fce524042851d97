-- The links of an end hear what their sessions have for them, and calls wait as before.
use Rattle.std.specs.Prelude.{◌≡◌, ℕ, nat_eq, Bool, true, false, List, [], ◌∷◌, Option, Some, None, if◌then◌else◌, refl}
use Rattle.std.proofs.Common.{sym, ◌∙◌, ap, subst}
use Rattle.std.specs.Map.{lookup}
use Rattle.amqp_composites.specs.declared.modes.Role.{Role}
use Rattle.amqp_composites.specs.declared.modes.Role.TheVariants as role
use Rattle.amqp_termini.specs.declared.state.DeliveryState.{DeliveryState}
use Rattle.amqp_performatives.specs.declared.attach.Attach.{Attach}
use Rattle.amqp_performatives.specs.declared.disposition.Disposition.{Disposition}
use Rattle.amqp_frames.specs.declared.shared.CoveredDelivery.{CoveredDelivery}
use Rattle.amqp_frames.specs.declared.shared.SessionStopReason.{SessionStopReason}
use Rattle.amqp_link_calls.specs.Answering.{answers_taken}
use Rattle.amqp_link_calls.specs.Called.{Called}
use Rattle.amqp_link_calls.specs.Called as called
use Rattle.amqp_link_calls.specs.Hearing as hears
use Rattle.amqp_link_calls.specs.Side.{is_stopped}
use Rattle.amqp_link_tables.specs.declared.deliveries.Delivered.{Delivered}
use Rattle.amqp_link_tables.specs.Calls.{link_at}
use Rattle.amqp_link_tables.specs.Deliveries as deliveries
use Rattle.amqp_session.specs.declared.session.LeftDelivery.{LeftDelivery}
use Rattle.amqp_session.specs.declared.session.LinkInput.{LinkInput}
use Rattle.amqp_session.specs.declared.session.LinkInput.TheVariants as input
use Rattle.amqp_session_links.specs.Claims.{parted, joined, spending}
use Rattle.amqp_session_links.specs.Incoming.{kept_at, kept}
use Rattle.amqp_session_links.specs.Numbers as numbers
use Rattle.amqp_session_links.specs.State.{State as Place, stopped, attach_ended}
use Rattle.amqp_links.specs.Attaching.{joining}
use Rattle.amqp_links.specs.Hearing.{is_detach, parting, hearing_at, hearing, attach_heard_at, attach_heard, answer_read_at}
use Rattle.amqp_links.specs.Numbering.{begun_by, begun_as, receives_at, numbering}
use Rattle.amqp_links.specs.Parts.{heard, is_heard, disposition_heard, name_of}
use Rattle.amqp_links.specs.Settling.{left, forgetting, link_settled, forgets, settled_at, delivery_at, covered_by, settled_by, settled, all_settled, covered_at, disposition_read}
use Rattle.amqp_links.specs.State.{State, place_of, link_of, with_link, stepped, at_place, answering_all}
use Rattle.amqp_links.specs.Stops.{links_at, stopped_at, all_stopped, session_stopped, concluded_at, all_concluded, session_over}
use Rattle.amqp_links.specs.Taking.{told_on, attach_told_on, attach_told, spent_by_at, taken_up}
use Rattle.amqp_links.specs.Timing.{tried_again}
use Rattle.call_waits.specs.Moves.{HearsAttach, HearsFlow, HearsTransfer, HearsDetach, HearsDisposition, Stops}
use Rattle.call_waits.specs.Waits.{IsIdle, Waits}
use Rattle.call_waits.proofs.Leaving.{concluded_idle}
use Rattle.call_waits.proofs.Keeping.{idle_waits}
use Rattle.call_waits.proofs.Moves.{waits_on}
use Rattle.link_lives.proofs.Tables.{set_holds}
use Rattle.link_waits.specs.Waits.{AcceptWaits, AreStopped}
use Rattle.link_waits.proofs.Steps.{Goes, goes_still, goes_then, goes_either, goes_same, link_goes, place_goes}
use Rattle.link_waits.proofs.Taking.{taken_goes, attach_told_goes}
use Rattle.link_waits.proofs.Timing.{tried_again_goes}

-- ---- frames on the handle of the peer

heard_waits : (x : LinkInput) (l : Called) → Waits l → Waits (heard x l)
heard_waits (input.Flow x) l w = waits_on (HearsFlow x) l tt w
heard_waits (input.Transfer x payload) l w = waits_on (HearsTransfer x payload) l tt w
heard_waits (input.Detach x) l w = waits_on (HearsDetach x) l tt w
heard_waits x l w = w

hearing_by : (o : Option Called) (link : ℕ) (x : LinkInput) (s : State) → link_of link s ≡ o → Goes s (hearing_at o link x s)
hearing_by None link x s at = goes_still s
hearing_by (Some l) link x s at = link_goes link l (heard x l) s (hearing_at (Some l) link x s) at (heard_waits x l) refl refl

parting_goes : (b : Bool) (session remote : ℕ) (s : State) → Goes s (parting b session remote s)
parting_goes true session remote s = place_goes session (parted remote) s (λ p h. h)
parting_goes false session remote s = goes_still s

begun_goes : (o : Option (ℕ × Delivered)) (session : ℕ) (s : State) → Goes s (begun_as o session s)
begun_goes None session s = goes_still s
begun_goes (Some d) session s = place_goes session (numbers.begun d.0 d.1) s (λ p h. h)

numbering_goes : (session link : ℕ) (x : LinkInput) (s : State) → Goes s (numbering session link x s)
numbering_goes session link (input.Transfer x payload) s =
    goes_either (receives_at (link_of link s)) s (begun_as (begun_by link x) session s) s (begun_goes (begun_by link x) session s) (goes_still s)
numbering_goes session link other s = goes_still s

pub hearing_goes : (session link remote : ℕ) (x : LinkInput) (s : State) → Goes s (hearing session link remote x s)
hearing_goes session link remote x s =
    let a = parting (is_detach x) session remote s in
    let b = numbering session link x a in
    let c = hearing_at (link_of link b) link x b in
    let d = tried_again (is_detach x) link c in
    goes_then s a (taken_up link d) (parting_goes (is_detach x) session remote s)
    (goes_then a b (taken_up link d) (numbering_goes session link x a)
    (goes_then b c (taken_up link d) (hearing_by (link_of link b) link x b refl) (goes_then c d (taken_up link d) (tried_again_goes (is_detach x) link c) (taken_goes link d))))

kept_accepts : (o : Option (List LinkInput)) (remote : ℕ) (x : LinkInput) (p : Place) → AcceptWaits p → AcceptWaits (kept_at o remote x p)
kept_accepts None remote x p h = h
kept_accepts (Some xs) remote x p h = h

pub kept_goes : (session remote : ℕ) (x : LinkInput) (s : State) → Goes s (at_place session (kept remote x) s)
kept_goes session remote x s = place_goes session (kept remote x) s (λ p h. kept_accepts (lookup (nat_eq remote) p.early) remote x p h)

-- ---- the peer's answer to an Attach of this end

attach_by : (o : Option Called) (link : ℕ) (x : Attach) (s : State) → link_of link s ≡ o → Goes s (attach_heard_at o link x s)
attach_by None link x s at = goes_still s
attach_by (Some l) link x s at = link_goes link l (hears.attach_read x l) s (attach_heard_at (Some l) link x s) at (λ w. waits_on (HearsAttach x) l tt w) refl refl

pub joining_goes : (session remote link : ℕ) (s : State) → Goes s (joining session remote link s)
joining_goes session remote link s = place_goes session (joined remote link) s (λ p h. h)

pub attach_goes : (session link : ℕ) (x : Attach) (s : State) → Goes s (attach_heard session link x s)
attach_goes session link x s =
    let a = joining session x.handle link s in
    let b = attach_heard_at (link_of link a) link x a in
    goes_then s a (taken_up link b) (joining_goes session x.handle link s) (goes_then a b (taken_up link b) (attach_by (link_of link a) link x a refl) (taken_goes link b))

pub answer_goes : (o : Option ℕ) (session : ℕ) (x : Attach) (s : State) → Goes s (answer_read_at o session x s)
answer_goes None session x s = goes_same s (answer_read_at None session x s) refl refl
answer_goes (Some link) session x s = attach_goes session link x s

-- ---- Dispositions

entered_if : (b : Bool) (p q : Place) → (AcceptWaits p → AcceptWaits q) → AcceptWaits p → AcceptWaits (if b then p else q)
entered_if true p q f h = h
entered_if false p q f h = f h

entered_accepts : (o : Option ℕ) (x : LeftDelivery) (p : Place) → AcceptWaits p → AcceptWaits (numbers.entered_at o x p)
entered_accepts None x p h = h
entered_accepts (Some link) x p h =
    entered_if x.settled p (record p { outgoing = deliveries.entered x.delivery_id (record { link = link; tag = x.delivery_tag }) p.outgoing }) (λ k. k) h

pub left_goes : (session : ℕ) (x : LeftDelivery) (s : State) → Goes s (left session x s)
left_goes session x s = place_goes session (numbers.entered x) s (λ p h. entered_accepts (link_at x.handle p.table) x p h)

forgotten_accepts : (teller : Role) (number : ℕ) (p : Place) → AcceptWaits p → AcceptWaits (numbers.forgotten teller number p)
forgotten_accepts role.Receiver number p h = h
forgotten_accepts role.Sender number p h = h

pub forgetting_goes : (b : Bool) (teller : Role) (session number : ℕ) (s : State) → Goes s (forgetting b teller session number s)
forgetting_goes true teller session number s = place_goes session (numbers.forgotten teller number) s (λ p h. forgotten_accepts teller number p h)
forgetting_goes false teller session number s = goes_still s

disposition_if : (b : Bool) (l m : Called) → (Waits l → Waits m) → Waits l → Waits (if b then m else l)
disposition_if true l m f w = f w
disposition_if false l m f w = w

disposition_waits : (x : CoveredDelivery) (c : Bool) (d : Option DeliveryState) (l : Called) → Waits l → Waits (disposition_heard x c d l)
disposition_waits x c d l w = disposition_if (is_heard l) l (hears.disposition_read x c d l) (λ k. waits_on (HearsDisposition x c d) l tt k) w

link_settled_goes : (o : Option Called) (link : ℕ) (x : CoveredDelivery) (d : Disposition) (s : State) → link_of link s ≡ o → Goes s (link_settled o link x d s)
link_settled_goes None link x d s at = goes_still s
link_settled_goes (Some l) link x d s at = link_goes link l (disposition_heard x d.settled d.state l) s (link_settled (Some l) link x d s) at (disposition_waits x d.settled d.state l) refl refl

settled_at_goes : (session link : ℕ) (x : CoveredDelivery) (d : Disposition) (s : State) → Goes s (settled_at session link x d s)
settled_at_goes session link x d s =
    let a = link_settled (link_of link s) link x d s in
    let b = forgets (link_of link s) x d in
    let c = forgetting b d.role session x.delivery_id a in
    goes_then s a (taken_up link c) (link_settled_goes (link_of link s) link x d s refl) (goes_then a c (taken_up link c) (forgetting_goes b d.role session x.delivery_id a) (taken_goes link c))

settled_goes : (o : Option Delivered) (session number : ℕ) (d : Disposition) (s : State) → Goes s (settled_by o session number d s)
settled_goes None session number d s = goes_still s
settled_goes (Some x) session number d s = settled_at_goes session (covered_by number x).0 (covered_by number x).1 d s

all_settled_go : (ns : List ℕ) (session : ℕ) (d : Disposition) (s : State) → Goes s (all_settled ns session d s)
all_settled_go [] session d s = goes_still s
all_settled_go (n ∷ ns) session d s =
    let t = settled session n d s in goes_then s t (all_settled ns session d t) (settled_goes (delivery_at d.role n (place_of session s)) session n d s) (all_settled_go ns session d t)

pub disposition_goes : (session : ℕ) (d : Disposition) (s : State) → Goes s (disposition_read session d s)
disposition_goes session d s = all_settled_go (covered_at d (place_of session s)) session d s

-- ---- the end of the session

stopped_by : (o : Option Called) (link : ℕ) (why : SessionStopReason) (s : State) → link_of link s ≡ o → Goes s (stopped_at o link why s)
stopped_by None link why s at = goes_still s
stopped_by (Some l) link why s at =
    let t = with_link link (called.stopped why l) s in
    goes_then s t (tried_again true link t) (link_goes link l (called.stopped why l) s t at (λ w. waits_on (Stops why) l tt w) refl refl) (tried_again_goes true link t)

all_stopped_go : (ls : List ℕ) (why : SessionStopReason) (s : State) → Goes s (all_stopped ls why s)
all_stopped_go [] why s = goes_still s
all_stopped_go (l ∷ ls) why s = let t = stopped_at (link_of l s) l why s in goes_then s t (all_stopped ls why t) (stopped_by (link_of l s) l why s refl) (all_stopped_go ls why t)

pub session_stopped_goes : (session : ℕ) (why : SessionStopReason) (s : State) → Goes s (session_stopped session why s)
session_stopped_goes session why s =
    let ls = links_at (place_of session s) in
    let t = all_stopped ls why s in
    goes_then s t (session_stopped session why s) (all_stopped_go ls why s) (place_goes session (stopped why) t (λ p h. h))

-- a link whose session is over is stopped, and takes its answers
over_idle : (l : Called) → is_stopped l.side ≡ true → IsIdle (answers_taken (hears.concluded l))
over_idle l e = let i = concluded_idle l e in record { stopped = i.stopped; attaching = i.attaching; parting = i.parting; waiting = i.waiting }

stepped_endpoints : (o : Option Place) (session : ℕ) (f : Place → Place) (s : State) → (stepped o session f s).endpoints ≡ s.endpoints
stepped_endpoints None session f s = refl
stepped_endpoints (Some p) session f s = refl

either_endpoints : (b : Bool) (s t : State) → t.endpoints ≡ s.endpoints → (if b then s else t).endpoints ≡ s.endpoints
either_endpoints true s t e = refl
either_endpoints false s t e = e

spent_endpoints : (o : Option Called) (session : ℕ) (s : State) → (spent_by_at o session s).endpoints ≡ s.endpoints
spent_endpoints None session s = refl
spent_endpoints (Some l) session s = either_endpoints l.is_made s (at_place session (spending (name_of l)) s) (stepped_endpoints (place_of session s) session (spending (name_of l)) s)

told_endpoints : (o : Option ℕ) (link : ℕ) (s : State) → (attach_told_on o link s).endpoints ≡ s.endpoints
told_endpoints None link s = refl
told_endpoints (Some session) link s =
    let t = at_place session attach_ended s in spent_endpoints (link_of link t) session t ∙ stepped_endpoints (place_of session s) session attach_ended s

-- the links of a session know that it has stopped, behind one of them that does
abbrev Knows : ℕ → State → Type 0
Knows n s = (l : Called) → link_of n s ≡ Some l → is_stopped l.side ≡ true

knows_same : (n : ℕ) (s t : State) → t.endpoints ≡ s.endpoints → Knows n s → Knows n t
knows_same n s t e k = λ l at. k l (sym (ap (lookup (nat_eq n)) e) ∙ at)

same_stop : (k l : Called) → Some k ≡ Some l → is_stopped k.side ≡ true → is_stopped l.side ≡ true
same_stop k l e h = subst (λ (x : Called). is_stopped x.side ≡ true) (same k l e) h
  where
    same : (a b : Called) → Some a ≡ Some b → a ≡ b
    same a b f = cc

knows_set : (link n : ℕ) (l m : Called) (s : State) → link_of link s ≡ Some l → is_stopped m.side ≡ true → Knows n s → Knows n (with_link link m s)
knows_set link n l m s at e k = λ x h. set_holds (λ o. o ≡ Some x → is_stopped x.side ≡ true) link n s.endpoints l m at (λ g. same_stop m x g e) (λ g. k x g) h

concluded_knows : (o : Option Called) (link n : ℕ) (s : State) → link_of link s ≡ o → Knows link s → Knows n s → Knows n (concluded_at o link s)
concluded_knows None link n s at own k = k
concluded_knows (Some l) link n s at own k =
    let m = answers_taken (hears.concluded l) in
    let t = answering_all (hears.concluded l).answers (with_link link m s) in
    knows_same n t (attach_told link t) (told_endpoints (told_on link t) link t)
    (knows_same n (with_link link m s) t refl (knows_set link n l m s at (over_idle l (own l at)).stopped k))

all_known : (ns : List ℕ) (o : Option Called) (link : ℕ) (s : State) → link_of link s ≡ o → Knows link s → AreStopped ns s → AreStopped ns (concluded_at o link s)
all_known [] o link s at own k = tt
all_known (n ∷ ns) o link s at own k = (concluded_knows o link n s at own k.0, all_known ns o link s at own k.1)

concluded_by : (o : Option Called) (link : ℕ) (s : State) → link_of link s ≡ o → Knows link s → Goes s (concluded_at o link s)
concluded_by None link s at k = goes_still s
concluded_by (Some l) link s at k =
    let m = answers_taken (hears.concluded l) in
    let t = answering_all (hears.concluded l).answers (with_link link m s) in
    goes_then s t (attach_told link t) (link_goes link l m s t at (λ w. idle_waits m (over_idle l (k l at))) refl refl) (attach_told_goes link t)

all_concluded_go : (ls : List ℕ) (s : State) → AreStopped ls s → Goes s (all_concluded ls s)
all_concluded_go [] s k = goes_still s
all_concluded_go (l ∷ ls) s k =
    let t = concluded_at (link_of l s) l s in
    goes_then s t (all_concluded ls t) (concluded_by (link_of l s) l s refl k.0) (all_concluded_go ls t (all_known ls (link_of l s) l s refl k.0 k.1))

pub session_over_goes : (session : ℕ) (s : State) → AreStopped (links_at (place_of session s)) s → Goes s (session_over session s)
session_over_goes session s k = all_concluded_go (links_at (place_of session s)) s k
