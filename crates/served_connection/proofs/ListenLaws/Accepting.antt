-- Links are made, at which nothing waits but what came before.
use Rattle.std.specs.Prelude.{◌≡◌, ◌≤◌, ◌+◌, ℕ, nat_eq, Bool, true, false, List, [], ◌∷◌, Option, Some, None, Result, Ok, Err, if◌then◌else◌, refl}
use Rattle.std.proofs.Common.{◌∙◌, ap, arith}
use Rattle.amqp_composites.specs.declared.modes.Role.{Role}
use Rattle.amqp_composites.specs.declared.modes.Role.TheVariants as role
use Rattle.amqp_frames.specs.declared.shared.SessionStopReason.{SessionStopReason}
use Rattle.amqp_link_tables.specs.declared.error.AllocLinkError.{AllocLinkError}
use Rattle.amqp_link_tables.specs.declared.error.AllocLinkError.TheVariants as full
use Rattle.amqp_link_tables.specs.Calls as table
use Rattle.amqp_parts.specs.declared.part.Part.{Part}
use Rattle.amqp_performatives.specs.declared.attach.Attach.{Attach}
use Rattle.amqp_receiver.specs.declared.settings.ReceiverSettings.{ReceiverSettings}
use Rattle.amqp_sender.specs.declared.settings.SenderSettings.{SenderSettings}
use Rattle.amqp_session.specs.declared.session.LinkInput.{LinkInput}
use Rattle.amqp_link_calls.specs.Answering.{accept_answered, accept_reply}
use Rattle.amqp_link_calls.specs.Called.{Called, sender_asked, receiver_asked, accepted}
use Rattle.amqp_link_words.specs.declared.link_reply.LinkReply.TheVariants as reply
use Rattle.amqp_session_links.specs.declared.place.Claim.{Claim}
use Rattle.amqp_session_links.specs.declared.place.Claim.TheVariants.{Handle, Refused}
use Rattle.amqp_session_links.specs.declared.place.WaitingAccept.{WaitingAccept}
use Rattle.amqp_session_links.specs.Claims.{claimed_by, claimed_up_to, claimed_unless, claiming}
use Rattle.amqp_session_links.specs.Incoming.{attach_pushed, attach_taken, early_taken, early_put}
use Rattle.amqp_session_links.specs.State.{State as Place, awaiting_answer, awaiting_attach, accept_taken}
use Rattle.amqp_links.specs.Accepting.{first_attach, early_at, heard_early, catching_up, attach_accepted, first_accepted_at, first_accepted, met_by, met_at, met, waiting, accepting_at, accepting, accept_of, meeting, waiting_met, attach_waits, awaiting, attach_for, attach_came}
use Rattle.amqp_links.specs.Attaching.{claimed_at, claimed, standing, begun, sender_by, attaching_sender, receiver_by, attaching_receiver, joining}
use Rattle.amqp_links.specs.Hearing.{is_detach, hearing, other_role, answered_at}
use Rattle.amqp_links.specs.State.{State, place_of, at_place, answering}
use Rattle.amqp_links.specs.Taking.{taken_up}
use Rattle.amqp_delivery.specs.declared.info.CreditMode.{CreditMode}
use Rattle.amqp_link.specs.declared.endpoint.AttachPoll.{AttachPoll}
use Rattle.amqp_link.specs.declared.endpoint.AttachPoll.TheVariants.{Pending, Done}
use Rattle.amqp_link.specs.declared.error.AttachError.{AttachError}
use Rattle.amqp_link.specs.declared.settings.AcceptSettings.{AcceptSettings}
use Rattle.amqp_link.specs.Accept as link
use Rattle.amqp_link_calls.specs.Answering.{accept_told}
use Rattle.amqp_link_calls.specs.Called.{answering_side, with_side}
use Rattle.amqp_link_calls.specs.Replies.{accept_error}
use Rattle.amqp_link_calls.specs.Side.{Side, Sender, Receiver, polled, polled_answer}
use Rattle.amqp_links.specs.State.{stepped}
use Rattle.amqp_receiver.specs.Receiver as receiver
use Rattle.amqp_session_links.specs.Incoming.{inputs_in, early_of}
use Rattle.std.specs.Map.{lookup}
use Rattle.served_connection.proofs.ListenLaws.Totals.{total, total_nil, total_cons, weigh_inserted, weigh_removed, found}
use Rattle.served_connection.proofs.ListenLaws.Weights.{of_waiting, given_of, of_side, of_called, of_input, of_inputs, of_place, of_links}
use Rattle.served_connection.proofs.ListenLaws.Moves.{opens_same}
use Rattle.served_connection.proofs.ListenLaws.Stays.{stays_still}
use Rattle.served_connection.proofs.ListenLaws.Quiet.{accept_answered_quiet, accept_reply_gives, accept_gives}
use Rattle.served_connection.proofs.ListenLaws.Going.{Falls, Grows, falls_then, grows_either, falls_still, falls_answers, made_falls, place_grows, place_stays, with_place_falls, with_place_lowers}
use Rattle.served_connection.proofs.ListenLaws.Taking.{taken_falls}
use Rattle.served_connection.proofs.ListenLaws.Hearing.{hearing_grows, joining_falls, attach_falls, answer_falls}

-- ---- a handle

claimed_same_by : (r : Result ℕ AllocLinkError) (max : ℕ) (name : List ℕ) (role : Role) (link : ℕ) (p : Place) → (claimed_by r max name role link p).state.early ≡ p.early
claimed_same_by (Ok handle) max name role link p = refl
claimed_same_by (Err (full.Memory a)) max name role link p = refl
claimed_same_by (Err full.DuplicatedLinkName) max name role link p = refl
claimed_same_by (Err full.HandleMaxReached) max name role link p = refl

claimed_same_to : (max : Option ℕ) (name : List ℕ) (role : Role) (link : ℕ) (p : Place) → (claimed_up_to max name role link p).state.early ≡ p.early
claimed_same_to None name role link p = refl
claimed_same_to (Some max) name role link p = claimed_same_by (table.allocation name role max p.table) max name role link p

claimed_same : (stop : Option SessionStopReason) (max : Option ℕ) (name : List ℕ) (role : Role) (link : ℕ) (p : Place) → (claimed_unless stop max name role link p).state.early ≡ p.early
claimed_same (Some why) max name role link p = refl
claimed_same None max name role link p = claimed_same_to max name role link p

claimed_falls_at : (o : Option Place) (session : ℕ) (name : List ℕ) (role : Role) (link : ℕ) (max : Option ℕ) (s : State) → place_of session s ≡ o → Falls s (claimed_at o session name role link max s).state
claimed_falls_at None session name role link max s at = falls_still s
claimed_falls_at (Some p) session name role link max s at = with_place_falls session p (claiming name role link max p).state s at (claimed_same p.stop_reason max name role link p)

claimed_falls : (session : ℕ) (name : List ℕ) (role : Role) (link : ℕ) (max : Option ℕ) (s : State) → Falls s (claimed session name role link max s).state
claimed_falls session name role link max s = claimed_falls_at (place_of session s) session name role link max s refl

-- ---- a call attaches a link

begun_falls : (name session : ℕ) (l : Called) (s : State) → of_called l ≡ 0 → Falls s (begun name session l s)
begun_falls name session l s h =
    let a = standing name l s in
    let b = at_place session (awaiting_answer name) a in
    let c = answering name reply.Pending b in
    falls_then s a (taken_up name c) (made_falls name l s h)
    (falls_then a b (taken_up name c) (place_stays session (awaiting_answer name) a (λ p. refl))
    (falls_then b c (taken_up name c) (falls_answers name reply.Pending b refl) (taken_falls name c)))

sender_falls_by : (c : Claim) (name session : ℕ) (x : SenderSettings) (s : State) → Falls s (sender_by c name session x s)
sender_falls_by (Handle handle) name session x s = begun_falls name session (sender_asked name session x handle) s (omega (arith, total_nil given_of))
sender_falls_by (Refused error) name session x s = falls_answers name (reply.SenderAttachError error) s refl

pub attaching_sender_falls : (name session : ℕ) (x : SenderSettings) (max : Option ℕ) (s : State) → Falls s (attaching_sender name session x max s)
attaching_sender_falls name session x max s =
    let c = claimed session x.name role.Sender name max s in
    falls_then s c.state (sender_by c.answer name session x c.state) (claimed_falls session x.name role.Sender name max s) (sender_falls_by c.answer name session x c.state)

receiver_falls_by : (c : Claim) (name session : ℕ) (x : ReceiverSettings) (s : State) → Falls s (receiver_by c name session x s)
receiver_falls_by (Handle handle) name session x s = begun_falls name session (receiver_asked name session x handle) s (omega (arith, total_nil given_of, total_nil of_waiting))
receiver_falls_by (Refused error) name session x s = falls_answers name (reply.ReceiverAttachError error) s refl

pub attaching_receiver_falls : (name session : ℕ) (x : ReceiverSettings) (max : Option ℕ) (s : State) → Falls s (attaching_receiver name session x max s)
attaching_receiver_falls name session x max s =
    let c = claimed session x.name role.Receiver name max s in
    falls_then s c.state (receiver_by c.answer name session x c.state) (claimed_falls session x.name role.Receiver name max s) (receiver_falls_by c.answer name session x c.state)

-- ---- a link of the peer is accepted

put_weight : (remote : ℕ) (xs : List LinkInput) (p : Place) → of_place (early_put remote xs p) ≤ of_place p + of_inputs xs
put_weight remote [] p = omega arith
put_weight remote (x ∷ xs) p = weigh_inserted of_inputs remote (x ∷ xs) p.early

-- what came before is heard by the link that is made
early_grows : (session link remote : ℕ) (xs : List LinkInput) (s : State) → Grows (of_inputs xs) s (heard_early session link remote xs s)
early_grows session link remote [] s = omega arith
early_grows session link remote (x ∷ xs) s =
    let t = hearing session link remote x s in
    let n = of_inputs xs in
    let last = if is_detach x then at_place session (early_put remote xs) t else heard_early session link remote xs t in
    let one : Grows (of_input x) s t = hearing_grows session link remote x s in
    let put : Grows n t (at_place session (early_put remote xs) t) = place_grows n session (early_put remote xs) t (put_weight remote xs) in
    let rest : Grows n t last = grows_either (is_detach x) n t (at_place session (early_put remote xs) t) (heard_early session link remote xs t) put (early_grows session link remote xs t) in
    omega (arith, one, rest, total_cons of_input x xs)

found_inputs : (o : Option (List LinkInput)) → of_inputs (inputs_in o) ≡ found of_inputs o
found_inputs None = total_nil of_input
found_inputs (Some xs) = refl

-- it waits no more among what no link has
taken_lowers : (o : Option Place) (session remote : ℕ) (s : State) → place_of session s ≡ o → of_links (stepped o session (early_taken remote) s) + of_inputs (early_at remote o) ≤ of_links s
taken_lowers None session remote s at = omega (arith, total_nil of_input)
taken_lowers (Some p) session remote s at =
    with_place_lowers (of_inputs (early_of remote p)) session p (early_taken remote p) s at
    (omega (arith, weigh_removed of_inputs remote p.early, found_inputs (lookup (nat_eq remote) p.early)))

catching_up_falls : (session link remote : ℕ) (s : State) → Falls s (catching_up session link remote s)
catching_up_falls session link remote s =
    let t = at_place session (early_taken remote) s in
    let xs = early_at remote (place_of session s) in
    let low : of_links t + of_inputs xs ≤ of_links s = taken_lowers (place_of session s) session remote s refl in
    let more : Grows (of_inputs xs) t (heard_early session link remote xs t) = early_grows session link remote xs t in
    omega (arith, low, more)

-- nothing waits at a link that is accepted
fresh_side : (r : Role) (settings : AcceptSettings) (mode : CreditMode) (auto_accept : Bool) (handle : ℕ) (x : Attach) → of_side (answering_side r settings mode auto_accept handle x) ≡ 0
fresh_side role.Sender settings mode auto_accept handle x =
    let l = link.accepted settings handle x in
    let s = receiver.fresh l mode false in
    ap (total of_waiting) (opens_same l.is_made x.initial_delivery_count s s (stays_still s)) ∙ total_nil of_waiting
fresh_side role.Receiver settings mode auto_accept handle x = refl

polled_side : (a : Side) → of_side (polled a) ≡ of_side a
polled_side (Sender s) = refl
polled_side (Receiver s) = refl

told_side : (r : Result AttachPoll AttachError) (l : Called) → (accept_told r l).side ≡ l.side
told_side (Ok Pending) l = refl
told_side (Ok Done) l = refl
told_side (Err e) l = refl

accepted_weight : (session : ℕ) (settings : AcceptSettings) (mode : CreditMode) (auto_accept : Bool) (handle : ℕ) (x : Attach) → of_called (accept_answered (accepted session settings mode auto_accept handle x)) ≡ 0
accepted_weight session settings mode auto_accept handle x =
    let l = accepted session settings mode auto_accept handle x in
    let m = accept_answered l in
    let side : of_side m.side ≡ 0 = ap of_side (told_side (polled_answer l.side) (with_side (polled l.side) l)) ∙ (polled_side l.side ∙ fresh_side x.role settings mode auto_accept handle x) in
    omega (arith, side, accept_answered_quiet l, total_nil given_of)

attach_accepted_falls : (session : ℕ) (accept : WaitingAccept) (handle : ℕ) (x : Attach) (s : State) → Falls s (attach_accepted session accept handle x s)
attach_accepted_falls session accept handle x s =
    let l = accepted session accept.settings accept.credit_mode accept.auto_accept handle x in
    let a = standing accept.name (accept_answered l) s in
    let b = joining session x.handle accept.name a in
    let c = answering accept.name (accept_reply l) b in
    let d = taken_up accept.name c in
    let e = catching_up session accept.name x.handle d in
    falls_then s a e (made_falls accept.name (accept_answered l) s (accepted_weight session accept.settings accept.credit_mode accept.auto_accept handle x))
    (falls_then a b e (joining_falls session x.handle accept.name a)
    (falls_then b c e (falls_answers accept.name (accept_reply l) b (accept_reply_gives l))
    (falls_then c d e (taken_falls accept.name c) (catching_up_falls session accept.name x.handle d))))

first_falls_at : (o : Option Attach) (session : ℕ) (accept : WaitingAccept) (handle : ℕ) (s : State) → Falls s (first_accepted_at o session accept handle s)
first_falls_at None session accept handle s = falls_still s
first_falls_at (Some x) session accept handle s = attach_accepted_falls session accept handle x s

met_falls_by : (c : Claim) (session : ℕ) (accept : WaitingAccept) (role : Role) (s : State) → Falls s (met_by c session accept role s)
met_falls_by (Handle handle) session accept role s =
    let t = at_place session attach_taken s in
    falls_then s t (first_accepted session accept handle s) (place_stays session attach_taken s (λ p. refl)) (first_falls_at (first_attach session s) session accept handle t)
met_falls_by (Refused error) session accept role s = falls_answers accept.name (accept_error role error) s (accept_gives role error)

met_falls_at : (o : Option Attach) (session : ℕ) (accept : WaitingAccept) (s : State) → Falls s (met_at o session accept s)
met_falls_at None session accept s = falls_still s
met_falls_at (Some x) session accept s =
    let c = claimed session x.name (other_role x.role) accept.name accept.handle_max s in
    falls_then s c.state (met_by c.answer session accept (other_role x.role) c.state) (claimed_falls session x.name (other_role x.role) accept.name accept.handle_max s)
    (met_falls_by c.answer session accept (other_role x.role) c.state)

met_falls : (session : ℕ) (accept : WaitingAccept) (s : State) → Falls s (met session accept s)
met_falls session accept s = met_falls_at (first_attach session s) session accept s

waiting_falls : (session : ℕ) (accept : WaitingAccept) (s : State) → Falls s (waiting session accept s)
waiting_falls session accept s =
    let t = at_place session (awaiting_attach accept) s in
    falls_then s t (waiting session accept s) (place_stays session (awaiting_attach accept) s (λ p. refl)) (falls_answers accept.name reply.Pending t refl)

accepting_falls_at : (o : Option Attach) (session : ℕ) (accept : WaitingAccept) (s : State) → Falls s (accepting_at o session accept s)
accepting_falls_at None session accept s = waiting_falls session accept s
accepting_falls_at (Some x) session accept s = met_falls session accept s

pub accepting_falls : (session : ℕ) (accept : WaitingAccept) (s : State) → Falls s (accepting session accept s)
accepting_falls session accept s = accepting_falls_at (first_attach session s) session accept s

-- ---- an Attach of the peer meets the call that waits

meeting_falls : (o : Option WaitingAccept) (session : ℕ) (s : State) → Falls s (meeting o session s)
meeting_falls None session s = falls_still s
meeting_falls (Some accept) session s = met_falls session accept s

waiting_met_falls : (session : ℕ) (s : State) → Falls s (waiting_met session s)
waiting_met_falls session s =
    let t = at_place session accept_taken s in
    falls_then s t (waiting_met session s) (place_stays session accept_taken s (λ p. refl)) (meeting_falls (accept_of (place_of session s)) session t)

attach_waits_falls : (session : ℕ) (x : Attach) (s : State) → Falls s (attach_waits session x s)
attach_waits_falls session x s =
    let t = at_place session (attach_pushed x) s in
    falls_then s t (waiting_met session t) (place_stays session (attach_pushed x) s (λ p. refl)) (waiting_met_falls session t)

attach_for_falls : (o : Option ℕ) (session : ℕ) (x : Attach) (s : State) → Falls s (attach_for o session x s)
attach_for_falls None session x s = attach_waits_falls session x s
attach_for_falls (Some link) session x s = attach_falls session link x s

pub attach_came_falls : (b : Bool) (session : ℕ) (x : Attach) (s : State) → Falls s (attach_came b session x s)
attach_came_falls true session x s = attach_for_falls (awaiting session x s) session x s
attach_came_falls false session x s = answer_falls (answered_at x (place_of session s)) session x s
