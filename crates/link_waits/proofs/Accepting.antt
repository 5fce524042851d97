-- Links are made, by a call that attaches one or by one that accepts one, and calls wait as before.
use Rattle.std.specs.Prelude.{◌≡◌, ℕ, nat_eq, Bool, true, false, cond, List, [], ◌∷◌, Option, Some, None, Result, Ok, Err, if◌then◌else◌, refl}
use Rattle.std.proofs.Common.{sym, ◌∙◌, ap, subst, eq-eqb}
use Rattle.amqp_composites.specs.declared.modes.Role.{Role}
use Rattle.amqp_composites.specs.declared.modes.Role.TheVariants as role
use Rattle.amqp_frames.specs.declared.shared.SessionStopReason.{SessionStopReason}
use Rattle.amqp_link_tables.specs.declared.error.AllocLinkError.{AllocLinkError}
use Rattle.amqp_link_tables.specs.declared.error.AllocLinkError.TheVariants as full
use Rattle.amqp_link_tables.specs.Calls as table
use Rattle.amqp_performatives.specs.declared.attach.Attach.{Attach}
use Rattle.amqp_receiver.specs.declared.settings.ReceiverSettings.{ReceiverSettings}
use Rattle.amqp_sender.specs.declared.settings.SenderSettings.{SenderSettings}
use Rattle.amqp_session.specs.declared.session.LinkInput.{LinkInput}
use Rattle.amqp_link_calls.specs.Answering.{accept_answered, accept_reply}
use Rattle.amqp_link_calls.specs.Called.{Called, sender_asked, receiver_asked, accepted}
use Rattle.amqp_link_words.specs.declared.link_reply.LinkReply.TheVariants as reply
use Rattle.amqp_session_links.specs.declared.place.Claim.{Claim}
use Rattle.amqp_session_links.specs.declared.place.Claim.TheVariants.{Handle, Refused}
use Rattle.amqp_session_links.specs.declared.place.WaitingAccept.{WaitingAccept}
use Rattle.amqp_session_links.specs.Claims.{claimed_by, claimed_up_to, claimed_unless}
use Rattle.amqp_session_links.specs.Incoming.{attach_pushed, attach_taken, first_of, rest_of, early_taken, early_put}
use Rattle.amqp_session_links.specs.State.{State as Place, awaiting_answer, awaiting_attach, accept_taken}
use Rattle.amqp_links.specs.Accepting.{first_at, first_attach, early_at, heard_early, catching_up, attach_accepted, first_accepted_at, first_accepted, met_by, met_at, met, waiting, accepting_at, accepting, accept_of, meeting, attach_waits, awaiting, attach_for, attach_came}
use Rattle.amqp_links.specs.Attaching.{claimed_at, claimed, standing, begun, sender_by, attaching_sender, receiver_by, attaching_receiver, joining}
use Rattle.amqp_links.specs.Hearing.{is_detach, hearing, other_role, answered_at}
use Rattle.amqp_links.specs.State.{State, place_of, with_place, stepped, at_place, answering}
use Rattle.amqp_links.specs.Taking.{taken_up}
use Rattle.call_waits.specs.Waits.{Waits}
use Rattle.call_waits.proofs.Starts.{sender_waits, receiver_waits, accepted_waits}
use Rattle.link_lives.proofs.Tables.{set_at}
use Rattle.link_waits.specs.Waits.{AcceptWaits, AreWaiting}
use Rattle.link_waits.proofs.Steps.{Goes, goes_still, goes_then, goes_either, goes_same, standing_goes, with_place_goes, place_goes}
use Rattle.link_waits.proofs.Taking.{taken_goes}
use Rattle.link_waits.proofs.Hearing.{hearing_goes, joining_goes, attach_goes, answer_goes}

-- ---- a handle is asked for

claimed_result : (r : Result ℕ AllocLinkError) (max : ℕ) (name : List ℕ) (role : Role) (link : ℕ) (p : Place) → AcceptWaits p → AcceptWaits (claimed_by r max name role link p).state
claimed_result (Ok handle) max name role link p h = h
claimed_result (Err (full.Memory a)) max name role link p h = h
claimed_result (Err full.DuplicatedLinkName) max name role link p h = h
claimed_result (Err full.HandleMaxReached) max name role link p h = h

claimed_max : (max : Option ℕ) (name : List ℕ) (role : Role) (link : ℕ) (p : Place) → AcceptWaits p → AcceptWaits (claimed_up_to max name role link p).state
claimed_max None name role link p h = h
claimed_max (Some max) name role link p h = claimed_result (table.allocation name role max p.table) max name role link p h

claimed_stop : (o : Option SessionStopReason) (max : Option ℕ) (name : List ℕ) (role : Role) (link : ℕ) (p : Place) → AcceptWaits p → AcceptWaits (claimed_unless o max name role link p).state
claimed_stop (Some why) max name role link p h = h
claimed_stop None max name role link p h = claimed_max max name role link p h

claimed_place : (o : Option Place) (session : ℕ) (name : List ℕ) (role : Role) (link : ℕ) (max : Option ℕ) (s : State) → place_of session s ≡ o → Goes s (claimed_at o session name role link max s).state
claimed_place None session name role link max s at = goes_still s
claimed_place (Some p) session name role link max s at =
    with_place_goes session p (claimed_unless p.stop_reason max name role link p).state s at (λ h. claimed_stop p.stop_reason max name role link p h)

claimed_goes : (session : ℕ) (name : List ℕ) (role : Role) (link : ℕ) (max : Option ℕ) (s : State) → Goes s (claimed session name role link max s).state
claimed_goes session name role link max s = claimed_place (place_of session s) session name role link max s refl

-- ---- a call attaches a link

begun_goes : (name session : ℕ) (l : Called) (s : State) → Waits l → Goes s (begun name session l s)
begun_goes name session l s w =
    let a = standing name l s in
    let b = at_place session (awaiting_answer name) a in
    let c = answering name reply.Pending b in
    goes_then s a (taken_up name c) (standing_goes name l s w)
    (goes_then a b (taken_up name c) (place_goes session (awaiting_answer name) a (λ p h. h)) (goes_then b c (taken_up name c) (goes_same b c refl refl) (taken_goes name c)))

sender_goes : (c : Claim) (name session : ℕ) (x : SenderSettings) (s : State) → Goes s (sender_by c name session x s)
sender_goes (Handle handle) name session x s = begun_goes name session (sender_asked name session x handle) s (sender_waits name session handle x)
sender_goes (Refused error) name session x s = goes_same s (sender_by (Refused error) name session x s) refl refl

pub attaching_sender_goes : (name session : ℕ) (x : SenderSettings) (max : Option ℕ) (s : State) → Goes s (attaching_sender name session x max s)
attaching_sender_goes name session x max s =
    let c = claimed session x.name role.Sender name max s in
    goes_then s c.state (sender_by c.answer name session x c.state) (claimed_goes session x.name role.Sender name max s) (sender_goes c.answer name session x c.state)

receiver_goes : (c : Claim) (name session : ℕ) (x : ReceiverSettings) (s : State) → Goes s (receiver_by c name session x s)
receiver_goes (Handle handle) name session x s = begun_goes name session (receiver_asked name session x handle) s (receiver_waits name session handle x)
receiver_goes (Refused error) name session x s = goes_same s (receiver_by (Refused error) name session x s) refl refl

pub attaching_receiver_goes : (name session : ℕ) (x : ReceiverSettings) (max : Option ℕ) (s : State) → Goes s (attaching_receiver name session x max s)
attaching_receiver_goes name session x max s =
    let c = claimed session x.name role.Receiver name max s in
    goes_then s c.state (receiver_by c.answer name session x c.state) (claimed_goes session x.name role.Receiver name max s) (receiver_goes c.answer name session x c.state)

-- ---- a link of the peer is accepted

put_accepts : (remote : ℕ) (xs : List LinkInput) (p : Place) → AcceptWaits p → AcceptWaits (early_put remote xs p)
put_accepts remote [] p h = h
put_accepts remote (x ∷ xs) p h = h

early_goes : (session link remote : ℕ) (xs : List LinkInput) (s : State) → Goes s (heard_early session link remote xs s)
early_goes session link remote [] s = goes_still s
early_goes session link remote (x ∷ xs) s =
    let t = hearing session link remote x s in
    goes_then s t (if is_detach x then at_place session (early_put remote xs) t else heard_early session link remote xs t) (hearing_goes session link remote x s)
    (goes_either (is_detach x) t (at_place session (early_put remote xs) t) (heard_early session link remote xs t) (place_goes session (early_put remote xs) t (λ p h. put_accepts remote xs p h)) (early_goes session link remote xs t))

catching_up_goes : (session link remote : ℕ) (s : State) → Goes s (catching_up session link remote s)
catching_up_goes session link remote s =
    let t = at_place session (early_taken remote) s in
    goes_then s t (catching_up session link remote s) (place_goes session (early_taken remote) s (λ p h. h)) (early_goes session link remote (early_at remote (place_of session s)) t)

accepted_goes : (session : ℕ) (a : WaitingAccept) (handle : ℕ) (x : Attach) (s : State) → Goes s (attach_accepted session a handle x s)
accepted_goes session a handle x s =
    let l = accepted session a.settings a.credit_mode a.auto_accept handle x in
    let b = standing a.name (accept_answered l) s in
    let c = joining session x.handle a.name b in
    let d = answering a.name (accept_reply l) c in
    let e = taken_up a.name d in
    let f = catching_up session a.name x.handle e in
    goes_then s b f (standing_goes a.name (accept_answered l) s (accepted_waits session handle a.settings a.credit_mode a.auto_accept x))
    (goes_then b c f (joining_goes session x.handle a.name b)
    (goes_then c d f (goes_same c d refl refl) (goes_then d e f (taken_goes a.name d) (catching_up_goes session a.name x.handle e))))

first_by : (o : Option Attach) (session : ℕ) (a : WaitingAccept) (handle : ℕ) (s : State) → Goes s (first_accepted_at o session a handle s)
first_by None session a handle s = goes_still s
first_by (Some x) session a handle s = accepted_goes session a handle x s

rest_none : (xs : List Attach) → xs ≡ [] → rest_of xs ≡ []
rest_none xs e = ap rest_of e

first_goes : (session : ℕ) (a : WaitingAccept) (handle : ℕ) (s : State) → Goes s (first_accepted session a handle s)
first_goes session a handle s =
    let t = at_place session attach_taken s in
    goes_then s t (first_accepted session a handle s) (place_goes session attach_taken s (λ p h accept e. rest_none p.attaches (h accept e))) (first_by (first_attach session s) session a handle t)

met_by_goes : (c : Claim) (session : ℕ) (a : WaitingAccept) (r : Role) (s : State) → Goes s (met_by c session a r s)
met_by_goes (Handle handle) session a r s = first_goes session a handle s
met_by_goes (Refused error) session a r s = goes_same s (met_by (Refused error) session a r s) refl refl

met_at_goes : (o : Option Attach) (session : ℕ) (a : WaitingAccept) (s : State) → Goes s (met_at o session a s)
met_at_goes None session a s = goes_still s
met_at_goes (Some x) session a s =
    let c = claimed session x.name (other_role x.role) a.name a.handle_max s in
    goes_then s c.state (met_by c.answer session a (other_role x.role) c.state) (claimed_goes session x.name (other_role x.role) a.name a.handle_max s) (met_by_goes c.answer session a (other_role x.role) c.state)

met_goes : (session : ℕ) (a : WaitingAccept) (s : State) → Goes s (met session a s)
met_goes session a s = met_at_goes (first_attach session s) session a s

-- a call waits where no Attach does
none_first : (xs : List Attach) → first_of xs ≡ None → xs ≡ []
none_first [] e = refl
none_first (x ∷ xs) e = absurd cc

awaiting_by : (o : Option Place) (session : ℕ) (a : WaitingAccept) (s : State) → place_of session s ≡ o → first_at o ≡ None → Goes s (stepped o session (awaiting_attach a) s)
awaiting_by None session a s at e = goes_still s
awaiting_by (Some p) session a s at e = with_place_goes session p (awaiting_attach a p) s at (λ h accept f. none_first p.attaches e)

accepting_by : (o : Option Attach) (session : ℕ) (a : WaitingAccept) (s : State) → first_attach session s ≡ o → Goes s (accepting_at o session a s)
accepting_by None session a s e =
    let t = at_place session (awaiting_attach a) s in
    goes_then s t (waiting session a s) (awaiting_by (place_of session s) session a s refl e) (goes_same t (waiting session a s) refl refl)
accepting_by (Some x) session a s e = met_goes session a s

pub accepting_goes : (session : ℕ) (a : WaitingAccept) (s : State) → Goes s (accepting session a s)
accepting_goes session a s = accepting_by (first_attach session s) session a s refl

-- ---- an Attach of the peer meets the call that waits

-- while an Attach is entered the call that waits is taken
none_accepting : (p : Place) → AcceptWaits (accept_taken p)
none_accepting p accept e = absurd cc

-- what is shared goes on twice
same_place : (a b : Place) → Some a ≡ Some b → a ≡ b
same_place a b e = cc

set_here : (session : ℕ) (p q : Place) (s : State) → place_of session s ≡ Some p → place_of session (with_place session q s) ≡ Some q
set_here session p q s at = set_at session session s.sessions p q at ∙ ap (λ b. cond b (Some q) (place_of session s)) (eq-eqb session session refl)

twice_at : (session : ℕ) (p q r : Place) (s : State) → place_of session s ≡ Some p → AcceptWaits r → AreWaiting s → (other : ℕ) (x : Place) (b : Bool) → nat_eq session other ≡ b
    → place_of other (with_place session r (with_place session q s)) ≡ Some x → AcceptWaits x
twice_at session p q r s at f w other x true e h =
    let t = with_place session q s in
    let found : place_of other (with_place session r t) ≡ Some r = set_at session other t.sessions q r (set_here session p q s at) ∙ ap (λ b. cond b (Some r) (place_of other t)) e in
    subst AcceptWaits (same_place r x (sym found ∙ h)) f
twice_at session p q r s at f w other x false e h =
    let t = with_place session q s in
    let first : place_of other t ≡ place_of other s = set_at session other s.sessions p q at ∙ ap (λ b. cond b (Some q) (place_of other s)) e in
    let found : place_of other (with_place session r t) ≡ place_of other t = set_at session other t.sessions q r (set_here session p q s at) ∙ ap (λ b. cond b (Some r) (place_of other t)) e in
    w.accepts other x (sym (found ∙ first) ∙ h)

twice : (session : ℕ) (p q r : Place) (s : State) → place_of session s ≡ Some p → AcceptWaits r → Goes s (with_place session r (with_place session q s))
twice session p q r s at f w = record { links = w.links; accepts = λ other x h. twice_at session p q r s at f w other x (nat_eq session other) refl h }

pushed_by : (o : Option Place) (session : ℕ) (x : Attach) (s : State) → place_of session s ≡ o → Goes s (at_place session accept_taken (stepped o session (attach_pushed x) s))
pushed_by None session x s at = place_goes session accept_taken s (λ p h. none_accepting p)
pushed_by (Some p) session x s at =
    let q = attach_pushed x p in
    let t = with_place session q s in
    subst (λ o. Goes s (stepped o session accept_taken t)) (sym (set_here session p q s at)) (twice session p q (accept_taken q) s at (none_accepting q))

meeting_goes : (o : Option WaitingAccept) (session : ℕ) (s : State) → Goes s (meeting o session s)
meeting_goes None session s = goes_still s
meeting_goes (Some a) session s = met_goes session a s

attach_waits_goes : (session : ℕ) (x : Attach) (s : State) → Goes s (attach_waits session x s)
attach_waits_goes session x s =
    let t = at_place session (attach_pushed x) s in
    let u = at_place session accept_taken t in
    let o = accept_of (place_of session t) in
    goes_then s u (meeting o session u) (pushed_by (place_of session s) session x s refl) (meeting_goes o session u)

attach_for_goes : (o : Option ℕ) (session : ℕ) (x : Attach) (s : State) → Goes s (attach_for o session x s)
attach_for_goes None session x s = attach_waits_goes session x s
attach_for_goes (Some link) session x s = attach_goes session link x s

pub attach_came_goes : (b : Bool) (session : ℕ) (x : Attach) (s : State) → Goes s (attach_came b session x s)
attach_came_goes true session x s = attach_for_goes (awaiting session x s) session x s
attach_came_goes false session x s = answer_goes (answered_at x (place_of session s)) session x s
