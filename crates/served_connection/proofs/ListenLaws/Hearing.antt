-- What sessions hand to their links is heard: a Transfer that ends a delivery waits at its link.
use Rattle.std.specs.Prelude.{◌≡◌, ◌≤◌, ◌+◌, ◌++◌, ℕ, nat_eq, Bool, true, false, List, [], ◌∷◌, Option, Some, None, if◌then◌else◌, refl}
use Rattle.std.proofs.Common.{ap, arith}
use Rattle.amqp_composites.specs.declared.modes.Role.{Role}
use Rattle.amqp_composites.specs.declared.modes.Role.TheVariants as role
use Rattle.amqp_frames.specs.declared.shared.CoveredDelivery.{CoveredDelivery}
use Rattle.amqp_frames.specs.declared.shared.SessionStopReason.{SessionStopReason}
use Rattle.amqp_link_tables.specs.Calls.{link_at}
use Rattle.amqp_link_tables.specs.Deliveries as deliveries
use Rattle.amqp_link_tables.specs.declared.deliveries.Delivered.{Delivered}
use Rattle.amqp_parts.specs.declared.part.Part.{Part}
use Rattle.amqp_performatives.specs.declared.attach.Attach.{Attach}
use Rattle.amqp_performatives.specs.declared.disposition.Disposition.{Disposition}
use Rattle.amqp_performatives.specs.declared.transfer.Transfer.{Transfer}
use Rattle.amqp_session.specs.declared.session.LeftDelivery.{LeftDelivery}
use Rattle.amqp_session.specs.declared.session.LinkInput.{LinkInput}
use Rattle.amqp_session.specs.declared.session.LinkInput.TheVariants as input
use Rattle.amqp_link_calls.specs.Answering.{answers_taken}
use Rattle.amqp_link_calls.specs.Called.{Called}
use Rattle.amqp_link_calls.specs.Called as called
use Rattle.amqp_link_calls.specs.Hearing as hears
use Rattle.amqp_session_links.specs.Claims.{parted, joined}
use Rattle.amqp_session_links.specs.Numbers as numbers
use Rattle.amqp_session_links.specs.Incoming.{kept, kept_at}
use Rattle.amqp_session_links.specs.State.{State as Place, stopped}
use Rattle.std.specs.Map.{lookup}
use Rattle.amqp_links.specs.Attaching.{joining}
use Rattle.amqp_links.specs.Hearing.{is_detach, parting, hearing_at, hearing, attach_heard_at, attach_heard, answer_read_at}
use Rattle.amqp_links.specs.Numbering.{begun_by, receives_at, begun_as, transfer_numbered, numbering}
use Rattle.amqp_links.specs.Parts.{heard, disposition_heard}
use Rattle.amqp_links.specs.Settling.{left, forgetting, link_settled, forgets, settled_at, delivery_at, covered_by, settled_by, settled, all_settled, covered_at, disposition_read}
use Rattle.amqp_links.specs.State.{State, place_of, link_of, with_link, at_place, answering_all}
use Rattle.amqp_links.specs.Stops.{links_at, stopped_at, all_stopped, session_stopped, concluded_at, all_concluded, session_over}
use Rattle.amqp_links.specs.Taking.{taken_up, attach_told}
use Rattle.amqp_links.specs.Timing.{tried_again}
use Rattle.link_lives.proofs.Called.{part_in, heard_went, attach_went, disposition_went, concluded_went, stopped_went}
use Rattle.served_connection.proofs.ListenLaws.Totals.{total, total_nil, total_cons, total_push, weigh, weigh_set, weigh_inserted}
use Rattle.served_connection.proofs.ListenLaws.Weights.{given_of, of_part, of_called, of_input, of_inputs, of_place}
use Rattle.served_connection.proofs.ListenLaws.Quiet.{heard_quiet, attach_quiet, disposition_quiet, concluded_quiet}
use Rattle.served_connection.proofs.ListenLaws.Going.{Falls, Grows, falls_then, grows_behind, grows_before, falls_still, falls_either, went_falls, link_grows, link_stays, place_grows, place_stays, answers_told_fall}
use Rattle.served_connection.proofs.ListenLaws.Taking.{taken_weight, taken_falls, attach_told_falls}
use Rattle.served_connection.proofs.ListenLaws.Timing.{tried_again_falls}

-- what a link reads as it hears that
input_weight : (x : LinkInput) → total of_part (part_in x) ≡ of_input x
unfolding part_in
input_weight (input.Transfer x payload) = omega (arith, total_cons of_part (record { transfer = x; payload = payload }) [], total_nil of_part)
input_weight (input.Attach x) = total_nil of_part
input_weight (input.Flow x) = total_nil of_part
input_weight (input.Disposition x) = total_nil of_part
input_weight (input.Detach x) = total_nil of_part
input_weight (input.Left x) = total_nil of_part
input_weight (input.Stopped why) = total_nil of_part
input_weight input.Over = total_nil of_part

-- it is kept where no link has the handle
kept_weight : (o : Option (List LinkInput)) (remote : ℕ) (x : LinkInput) (p : Place) → lookup (nat_eq remote) p.early ≡ o → of_place (kept_at o remote x p) ≤ of_place p + of_input x
kept_weight None remote x p at = omega (arith, weigh_inserted of_inputs remote (x ∷ []) p.early, total_cons of_input x [], total_nil of_input)
kept_weight (Some xs) remote x p at = omega (arith, weigh_set of_inputs remote p.early xs (xs ++ x ∷ []) at, total_push of_input xs x)

entered_same : (o : Option ℕ) (x : LeftDelivery) (p : Place) → (numbers.entered_at o x p).early ≡ p.early
entered_same None x p = refl
entered_same (Some link) x p = by x.settled
  where
    by : (b : Bool) → (if b then p else record p { outgoing = deliveries.entered x.delivery_id (record { link = link; tag = x.delivery_tag }) p.outgoing }).early ≡ p.early
    by true = refl
    by false = refl

forgotten_same : (teller : Role) (number : ℕ) (p : Place) → (numbers.forgotten teller number p).early ≡ p.early
forgotten_same role.Receiver number p = refl
forgotten_same role.Sender number p = refl

-- ---- frames on the handle of the peer

parting_falls : (b : Bool) (session remote : ℕ) (s : State) → Falls s (parting b session remote s)
parting_falls true session remote s = place_stays session (parted remote) s (λ p. refl)
parting_falls false session remote s = falls_still s

begun_falls : (o : Option (ℕ × Delivered)) (session : ℕ) (s : State) → Falls s (begun_as o session s)
begun_falls None session s = falls_still s
begun_falls (Some d) session s = place_stays session (numbers.begun d.0 d.1) s (λ p. refl)

transfer_numbered_falls : (session link : ℕ) (x : Transfer) (s : State) → Falls s (transfer_numbered session link x s)
transfer_numbered_falls session link x s =
    falls_either (receives_at (link_of link s)) s (begun_as (begun_by link x) session s) s (begun_falls (begun_by link x) session s) (falls_still s)

numbering_falls : (session link : ℕ) (x : LinkInput) (s : State) → Falls s (numbering session link x s)
numbering_falls session link (input.Transfer x payload) s = transfer_numbered_falls session link x s
numbering_falls session link other s = falls_still s

hearing_grows_at : (o : Option Called) (link : ℕ) (x : LinkInput) (s : State) → link_of link s ≡ o → Grows (of_input x) s (hearing_at o link x s)
hearing_grows_at None link x s at = omega arith
hearing_grows_at (Some l) link x s at =
    let f : of_called (heard x l) ≤ of_called l + total of_part (part_in x) = went_falls l (heard x l) [] (part_in x) (heard_went x l) (heard_quiet x l) in
    link_grows (of_input x) link l (heard x l) s (hearing_at (Some l) link x s) at (omega (arith, f, input_weight x)) refl refl refl

pub hearing_grows : (session link remote : ℕ) (x : LinkInput) (s : State) → Grows (of_input x) s (hearing session link remote x s)
hearing_grows session link remote x s =
    let n = of_input x in
    let a = parting (is_detach x) session remote s in
    let b = numbering session link x a in
    let c = hearing_at (link_of link b) link x b in
    let d = tried_again (is_detach x) link c in
    let last = taken_up link d in
    let before = falls_then s a b (parting_falls (is_detach x) session remote s) (numbering_falls session link x a) in
    let behind = falls_then c d last (tried_again_falls (is_detach x) link c) (taken_falls link d) in
    grows_behind n s b last before (grows_before n b c last (hearing_grows_at (link_of link b) link x b refl) behind)

pub kept_grows : (session remote : ℕ) (x : LinkInput) (s : State) → Grows (of_input x) s (at_place session (kept remote x) s)
kept_grows session remote x s = place_grows (of_input x) session (kept remote x) s (λ p. kept_weight (lookup (nat_eq remote) p.early) remote x p refl)

-- ---- Attaches

pub joining_falls : (session remote link : ℕ) (s : State) → Falls s (joining session remote link s)
joining_falls session remote link s = place_stays session (joined remote link) s (λ p. refl)

attach_falls_at : (o : Option Called) (link : ℕ) (x : Attach) (s : State) → link_of link s ≡ o → Falls s (attach_heard_at o link x s)
attach_falls_at None link x s at = falls_still s
attach_falls_at (Some l) link x s at = link_stays link l (hears.attach_read x l) [] s (attach_heard_at (Some l) link x s) at (attach_went x l) (attach_quiet x l) refl refl refl

pub attach_falls : (session link : ℕ) (x : Attach) (s : State) → Falls s (attach_heard session link x s)
attach_falls session link x s =
    let a = joining session x.handle link s in
    let b = attach_heard_at (link_of link a) link x a in
    falls_then s a (taken_up link b) (joining_falls session x.handle link s) (falls_then a b (taken_up link b) (attach_falls_at (link_of link a) link x a refl) (taken_falls link b))

pub answer_falls : (o : Option ℕ) (session : ℕ) (x : Attach) (s : State) → Falls s (answer_read_at o session x s)
answer_falls None session x s = falls_still s
answer_falls (Some link) session x s = attach_falls session link x s

-- ---- Dispositions

pub left_falls : (session : ℕ) (x : LeftDelivery) (s : State) → Falls s (left session x s)
left_falls session x s = place_stays session (numbers.entered x) s (λ p. entered_same (link_at x.handle p.table) x p)

pub forgetting_falls : (b : Bool) (teller : Role) (session number : ℕ) (s : State) → Falls s (forgetting b teller session number s)
forgetting_falls true teller session number s = place_stays session (numbers.forgotten teller number) s (λ p. forgotten_same teller number p)
forgetting_falls false teller session number s = falls_still s

link_settled_falls : (o : Option Called) (link : ℕ) (x : CoveredDelivery) (d : Disposition) (s : State) → link_of link s ≡ o → Falls s (link_settled o link x d s)
link_settled_falls None link x d s at = falls_still s
link_settled_falls (Some l) link x d s at =
    link_stays link l (disposition_heard x d.settled d.state l) [] s (link_settled (Some l) link x d s) at (disposition_went x d.settled d.state l) (disposition_quiet x d.settled d.state l) refl refl refl

settled_falls_at : (session link : ℕ) (x : CoveredDelivery) (d : Disposition) (s : State) → Falls s (settled_at session link x d s)
settled_falls_at session link x d s =
    let a = link_settled (link_of link s) link x d s in
    let b = forgets (link_of link s) x d in
    let c = forgetting b d.role session x.delivery_id a in
    falls_then s a (taken_up link c) (link_settled_falls (link_of link s) link x d s refl)
    (falls_then a c (taken_up link c) (forgetting_falls b d.role session x.delivery_id a) (taken_falls link c))

settled_falls_by : (o : Option Delivered) (session number : ℕ) (d : Disposition) (s : State) → Falls s (settled_by o session number d s)
settled_falls_by None session number d s = falls_still s
settled_falls_by (Some x) session number d s = settled_falls_at session (covered_by number x).0 (covered_by number x).1 d s

all_settled_fall : (ns : List ℕ) (session : ℕ) (d : Disposition) (s : State) → Falls s (all_settled ns session d s)
all_settled_fall [] session d s = falls_still s
all_settled_fall (n ∷ ns) session d s =
    let t = settled session n d s in
    falls_then s t (all_settled ns session d t) (settled_falls_by (delivery_at d.role n (place_of session s)) session n d s) (all_settled_fall ns session d t)

pub disposition_falls : (session : ℕ) (d : Disposition) (s : State) → Falls s (disposition_read session d s)
disposition_falls session d s = all_settled_fall (covered_at d (place_of session s)) session d s

-- ---- the end of the session

stopped_falls_at : (o : Option Called) (link : ℕ) (why : SessionStopReason) (s : State) → link_of link s ≡ o → Falls s (stopped_at o link why s)
stopped_falls_at None link why s at = falls_still s
stopped_falls_at (Some l) link why s at =
    let t = with_link link (called.stopped why l) s in
    falls_then s t (tried_again true link t) (link_stays link l (called.stopped why l) [] s t at (stopped_went why l) refl refl refl refl) (tried_again_falls true link t)

all_stopped_fall : (ls : List ℕ) (why : SessionStopReason) (s : State) → Falls s (all_stopped ls why s)
all_stopped_fall [] why s = falls_still s
all_stopped_fall (l ∷ ls) why s =
    let t = stopped_at (link_of l s) l why s in
    falls_then s t (all_stopped ls why t) (stopped_falls_at (link_of l s) l why s refl) (all_stopped_fall ls why t)

pub session_stopped_falls : (session : ℕ) (why : SessionStopReason) (s : State) → Falls s (session_stopped session why s)
session_stopped_falls session why s =
    let ls = links_at (place_of session s) in
    let t = all_stopped ls why s in
    falls_then s t (session_stopped session why s) (all_stopped_fall ls why s) (place_stays session (stopped why) t (λ p. refl))

concluded_falls_at : (o : Option Called) (link : ℕ) (s : State) → link_of link s ≡ o → Falls s (concluded_at o link s)
concluded_falls_at None link s at = falls_still s
concluded_falls_at (Some l) link s at =
    let m = hears.concluded l in
    let t = answering_all m.answers (with_link link (answers_taken m) s) in
    let f : of_called m ≤ of_called l + total of_part [] = went_falls l m [] [] (concluded_went l) (concluded_quiet l) in
    let le : of_called (answers_taken m) + total given_of m.answers ≤ of_called l = omega (arith, f, taken_weight m, total_nil of_part) in
    falls_then s t (attach_told link t) (answers_told_fall link l (answers_taken m) m.answers s at le) (attach_told_falls link t)

all_concluded_fall : (ls : List ℕ) (s : State) → Falls s (all_concluded ls s)
all_concluded_fall [] s = falls_still s
all_concluded_fall (l ∷ ls) s =
    let t = concluded_at (link_of l s) l s in falls_then s t (all_concluded ls t) (concluded_falls_at (link_of l s) l s refl) (all_concluded_fall ls t)

pub session_over_falls : (session : ℕ) (s : State) → Falls s (session_over session s)
session_over_falls session s = all_concluded_fall (links_at (place_of session s)) s
