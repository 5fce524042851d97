-- Links are made: by a call that attaches one, or by one that accepts one.
use Rattle.std.specs.Prelude.{◌≡◌, ℕ, nat_eq, Bool, true, false, List, [], ◌∷◌, Option, Some, None, Result, Ok, Err, if◌then◌else◌, refl}
use Rattle.std.proofs.Common.{sym, ◌∙◌, ap}
use Rattle.amqp_composites.specs.declared.modes.Role.{Role}
use Rattle.amqp_composites.specs.declared.modes.Role.TheVariants as role
use Rattle.amqp_frames.specs.declared.shared.SessionStopReason.{SessionStopReason}
use Rattle.amqp_link_tables.specs.declared.error.AllocLinkError.{AllocLinkError}
use Rattle.amqp_link_tables.specs.declared.error.AllocLinkError.TheVariants as full
use Rattle.amqp_link_tables.specs.Calls as table
use Rattle.amqp_parts.specs.declared.part.Part.{Part}
use Rattle.amqp_performatives.specs.declared.attach.Attach.{Attach}
use Rattle.amqp_receiver.specs.declared.settings.ReceiverSettings.{ReceiverSettings}
use Rattle.amqp_sender.specs.declared.settings.SenderSettings.{SenderSettings}
use Rattle.amqp_session.specs.declared.session.LinkInput.{LinkInput}
use Rattle.amqp_links.specs.amqp_link_calls.Answering.{accept_answered, accept_reply}
use Rattle.amqp_links.specs.amqp_link_calls.Called.{Called, sender_asked, receiver_asked, accepted}
use Rattle.amqp_link_words.specs.declared.link_reply.LinkReply.TheVariants as reply
use Rattle.amqp_session_links.specs.declared.place.Claim.{Claim}
use Rattle.amqp_session_links.specs.declared.place.Claim.TheVariants.{Handle, Refused}
use Rattle.amqp_session_links.specs.declared.place.WaitingAccept.{WaitingAccept}
use Rattle.amqp_session_links.specs.Claims.{claimed_by, claimed_up_to, claimed_unless, claiming}
use Rattle.amqp_session_links.specs.Incoming.{attach_pushed, attach_taken, early_taken, early_put}
use Rattle.amqp_session_links.specs.State.{State as Place, awaiting_answer, awaiting_attach, accept_taken}
use Rattle.amqp_links.specs.Accepting.{first_attach, early_at, heard_early, catching_up, attach_accepted, first_accepted_at, first_accepted, met_by, met_at, met, waiting, accepting_at, accepting, accept_of, meeting, waiting_met, attach_waits, awaiting, attach_for, attach_came}
use Rattle.amqp_links.specs.Attaching.{claimed_at, claimed, standing, begun, sender_by, attaching_sender, receiver_by, attaching_receiver, joining}
use Rattle.amqp_links.specs.Hearing.{is_detach, hearing, other_role, answered_at}
use Rattle.amqp_links.specs.State.{State, place_of, at_place, answering}
use Rattle.amqp_links.specs.Taking.{taken_up}
use Rattle.link_lives.specs.Logs.{is_named, accepts_as, IsFree, Goes}
use Rattle.link_lives.proofs.Called.{part_in}
use Rattle.link_lives.proofs.Going.{nothing, goes_then, goes_reads_among, goes_known, goes_same, goes_still, goes_made, place_goes, place_stays, with_place_goes, goes_either}
use Rattle.link_lives.proofs.Taking.{taken_goes}
use Rattle.link_lives.proofs.Hearing.{by_one, hearing_goes, joining_goes, attach_goes, answer_goes}

-- the links but that of the call
abbrev pub Besides : ℕ → ℕ → Type 0
Besides name n = nat_eq name n ≡ false

-- ---- a handle

claimed_same_by : (r : Result ℕ AllocLinkError) (max : ℕ) (name : List ℕ) (role : Role) (link : ℕ) (p : Place) → (claimed_by r max name role link p).state.accepting ≡ p.accepting
claimed_same_by (Ok handle) max name role link p = refl
claimed_same_by (Err (full.Memory a)) max name role link p = refl
claimed_same_by (Err full.DuplicatedLinkName) max name role link p = refl
claimed_same_by (Err full.HandleMaxReached) max name role link p = refl

claimed_same_to : (max : Option ℕ) (name : List ℕ) (role : Role) (link : ℕ) (p : Place) → (claimed_up_to max name role link p).state.accepting ≡ p.accepting
claimed_same_to None name role link p = refl
claimed_same_to (Some max) name role link p = claimed_same_by (table.allocation name role max p.table) max name role link p

claimed_same : (stop : Option SessionStopReason) (max : Option ℕ) (name : List ℕ) (role : Role) (link : ℕ) (p : Place) → (claimed_unless stop max name role link p).state.accepting ≡ p.accepting
claimed_same (Some why) max name role link p = refl
claimed_same None max name role link p = claimed_same_to max name role link p

claimed_goes_at : (P : ℕ → Type 0) (o : Option Place) (session : ℕ) (name : List ℕ) (role : Role) (link : ℕ) (max : Option ℕ) (s : State) → place_of session s ≡ o → Goes P nothing s (claimed_at o session name role link max s).state
claimed_goes_at P None session name role link max s at = goes_still P s
claimed_goes_at P (Some p) session name role link max s at = with_place_goes P session p (claiming name role link max p).state s at (claimed_same p.stop_reason max name role link p)

claimed_goes : (P : ℕ → Type 0) (session : ℕ) (name : List ℕ) (role : Role) (link : ℕ) (max : Option ℕ) (s : State) → Goes P nothing s (claimed session name role link max s).state
claimed_goes P session name role link max s = claimed_goes_at P (place_of session s) session name role link max s refl

-- ---- a call attaches a link

begun_goes : (name session : ℕ) (l : Called) (s : State) → Goes (Besides name) nothing s (begun name session l s)
begun_goes name session l s =
    let P = Besides name in
    let a = standing name l s in
    let b = at_place session (awaiting_answer name) a in
    let c = answering name reply.Pending b in
    goes_then P nothing nothing s a (taken_up name c) (goes_made name l s)
    (goes_then P nothing nothing a b (taken_up name c) (place_stays P session (awaiting_answer name) a (λ p. refl))
    (goes_then P nothing nothing b c (taken_up name c) (goes_same P b c refl refl refl) (taken_goes P name c)))

sender_goes_by : (c : Claim) (name session : ℕ) (x : SenderSettings) (s : State) → Goes (Besides name) nothing s (sender_by c name session x s)
sender_goes_by (Handle handle) name session x s = begun_goes name session (sender_asked name session x handle) s
sender_goes_by (Refused error) name session x s = goes_same (Besides name) s _ refl refl refl

pub attaching_sender_goes : (name session : ℕ) (x : SenderSettings) (max : Option ℕ) (s : State) → Goes (Besides name) nothing s (attaching_sender name session x max s)
attaching_sender_goes name session x max s =
    let c = claimed session x.name role.Sender name max s in
    goes_then (Besides name) nothing nothing s c.state (sender_by c.answer name session x c.state) (claimed_goes (Besides name) session x.name role.Sender name max s) (sender_goes_by c.answer name session x c.state)

receiver_goes_by : (c : Claim) (name session : ℕ) (x : ReceiverSettings) (s : State) → Goes (Besides name) nothing s (receiver_by c name session x s)
receiver_goes_by (Handle handle) name session x s = begun_goes name session (receiver_asked name session x handle) s
receiver_goes_by (Refused error) name session x s = goes_same (Besides name) s _ refl refl refl

pub attaching_receiver_goes : (name session : ℕ) (x : ReceiverSettings) (max : Option ℕ) (s : State) → Goes (Besides name) nothing s (attaching_receiver name session x max s)
attaching_receiver_goes name session x max s =
    let c = claimed session x.name role.Receiver name max s in
    goes_then (Besides name) nothing nothing s c.state (receiver_by c.answer name session x c.state) (claimed_goes (Besides name) session x.name role.Receiver name max s) (receiver_goes_by c.answer name session x c.state)

-- ---- a link of the peer is accepted

early_same : (remote : ℕ) (xs : List LinkInput) (p : Place) → (early_put remote xs p).accepting ≡ p.accepting
early_same remote [] p = refl
early_same remote (x ∷ xs) p = refl

-- a link that is made reads what no other does
made_reads : (link : ℕ) (ps : List Part) (s t : State) → Goes (Besides link) (by_one link ps) s t → Goes (Besides link) nothing s t
made_reads link ps s t p = goes_reads_among (Besides link) (by_one link ps) nothing s t (λ n among. ap (λ b. if b then ps else []) among) p

-- what came before is heard by the link that is made
early_goes : (session link remote : ℕ) (xs : List LinkInput) (s : State) → Goes (Besides link) nothing s (heard_early session link remote xs s)
early_goes session link remote [] s = goes_still (Besides link) s
early_goes session link remote (x ∷ xs) s =
    let P = Besides link in
    let t = hearing session link remote x s in
    let heard : Goes P nothing s t = made_reads link (part_in x) s t (hearing_goes P session link remote x s) in
    goes_then P nothing nothing s t (if is_detach x then at_place session (early_put remote xs) t else heard_early session link remote xs t) heard
    (goes_either P (is_detach x) nothing t (at_place session (early_put remote xs) t) (heard_early session link remote xs t) (place_stays P session (early_put remote xs) t (early_same remote xs)) (early_goes session link remote xs t))

catching_up_goes : (session link remote : ℕ) (s : State) → Goes (Besides link) nothing s (catching_up session link remote s)
catching_up_goes session link remote s =
    let t = at_place session (early_taken remote) s in
    goes_then (Besides link) nothing nothing s t (catching_up session link remote s) (place_stays (Besides link) session (early_taken remote) s (λ p. refl)) (early_goes session link remote (early_at remote (place_of session s)) t)

attach_accepted_goes : (session : ℕ) (accept : WaitingAccept) (handle : ℕ) (x : Attach) (s : State) → Goes (Besides accept.name) nothing s (attach_accepted session accept handle x s)
attach_accepted_goes session accept handle x s =
    let P = Besides accept.name in
    let l = accepted session accept.settings accept.credit_mode accept.auto_accept handle x in
    let a = standing accept.name (accept_answered l) s in
    let b = joining session x.handle accept.name a in
    let c = answering accept.name (accept_reply l) b in
    let d = taken_up accept.name c in
    let e = catching_up session accept.name x.handle d in
    goes_then P nothing nothing s a e (goes_made accept.name (accept_answered l) s)
    (goes_then P nothing nothing a b e (joining_goes P session x.handle accept.name a)
    (goes_then P nothing nothing b c e (goes_same P b c refl refl refl)
    (goes_then P nothing nothing c d e (taken_goes P accept.name c) (catching_up_goes session accept.name x.handle d))))

first_goes_at : (o : Option Attach) (session : ℕ) (accept : WaitingAccept) (handle : ℕ) (s : State) → Goes (Besides accept.name) nothing s (first_accepted_at o session accept handle s)
first_goes_at None session accept handle s = goes_still (Besides accept.name) s
first_goes_at (Some x) session accept handle s = attach_accepted_goes session accept handle x s

met_goes_by : (c : Claim) (session : ℕ) (accept : WaitingAccept) (role : Role) (s : State) → Goes (Besides accept.name) nothing s (met_by c session accept role s)
met_goes_by (Handle handle) session accept role s =
    let t = at_place session attach_taken s in
    goes_then (Besides accept.name) nothing nothing s t (first_accepted session accept handle s) (place_stays (Besides accept.name) session attach_taken s (λ p. refl)) (first_goes_at (first_attach session s) session accept handle t)
met_goes_by (Refused error) session accept role s = goes_same (Besides accept.name) s _ refl refl refl

met_goes_at : (o : Option Attach) (session : ℕ) (accept : WaitingAccept) (s : State) → Goes (Besides accept.name) nothing s (met_at o session accept s)
met_goes_at None session accept s = goes_still (Besides accept.name) s
met_goes_at (Some x) session accept s =
    let c = claimed session x.name (other_role x.role) accept.name accept.handle_max s in
    goes_then (Besides accept.name) nothing nothing s c.state (met_by c.answer session accept (other_role x.role) c.state) (claimed_goes (Besides accept.name) session x.name (other_role x.role) accept.name accept.handle_max s)
    (met_goes_by c.answer session accept (other_role x.role) c.state)

met_goes : (session : ℕ) (accept : WaitingAccept) (s : State) → Goes (Besides accept.name) nothing s (met session accept s)
met_goes session accept s = met_goes_at (first_attach session s) session accept s

waiting_goes : (session : ℕ) (accept : WaitingAccept) (s : State) → Goes (Besides accept.name) nothing s (waiting session accept s)
waiting_goes session accept s =
    let t = at_place session (awaiting_attach accept) s in
    goes_then (Besides accept.name) nothing nothing s t (waiting session accept s) (place_goes (Besides accept.name) session (awaiting_attach accept) s (λ n among p h. among)) (goes_same (Besides accept.name) t (waiting session accept s) refl refl refl)

accepting_goes_at : (o : Option Attach) (session : ℕ) (accept : WaitingAccept) (s : State) → Goes (Besides accept.name) nothing s (accepting_at o session accept s)
accepting_goes_at None session accept s = waiting_goes session accept s
accepting_goes_at (Some x) session accept s = met_goes session accept s

pub accepting_goes : (session : ℕ) (accept : WaitingAccept) (s : State) → Goes (Besides accept.name) nothing s (accepting session accept s)
accepting_goes session accept s = accepting_goes_at (first_attach session s) session accept s

-- ---- an Attach of the peer meets the call that waits

module _ (P : ℕ → Type 0) where
  -- the call that waits has another name than a link that is free
  named_other : (o : Option Place) (accept : WaitingAccept) (n : ℕ) → accept_of o ≡ Some accept → accepts_as n o ≡ false → nat_eq accept.name n ≡ false
  named_other None accept n e h = absurd cc
  named_other (Some p) accept n e h = sym (ap (is_named n) e) ∙ h

  meeting_goes : (o : Option WaitingAccept) (session : ℕ) (s t : State) → accept_of (place_of session s) ≡ o → Goes P nothing s t → Goes P nothing s (meeting o session t)
  meeting_goes None session s t e p = p
  meeting_goes (Some accept) session s t e p =
      let named = λ (n : ℕ) (among : P n) (free : IsFree n s). named_other (place_of session s) accept n e (free session) in
      let q = met_goes session accept t in
      goes_known P (Besides accept.name) s t (meeting (Some accept) session t) named p q

  waiting_met_goes : (session : ℕ) (s : State) → Goes P nothing s (waiting_met session s)
  waiting_met_goes session s =
      meeting_goes (accept_of (place_of session s)) session s (at_place session accept_taken s) refl (place_goes P session accept_taken s (λ n among p h. refl))

  attach_waits_goes : (session : ℕ) (x : Attach) (s : State) → Goes P nothing s (attach_waits session x s)
  attach_waits_goes session x s =
      let t = at_place session (attach_pushed x) s in
      goes_then P nothing nothing s t (waiting_met session t) (place_stays P session (attach_pushed x) s (λ p. refl)) (waiting_met_goes session t)

  attach_for_goes : (o : Option ℕ) (session : ℕ) (x : Attach) (s : State) → Goes P nothing s (attach_for o session x s)
  attach_for_goes None session x s = attach_waits_goes session x s
  attach_for_goes (Some link) session x s = attach_goes P session link x s

  pub attach_came_goes : (b : Bool) (session : ℕ) (x : Attach) (s : State) → Goes P nothing s (attach_came b session x s)
  attach_came_goes true session x s = attach_for_goes (awaiting session x s) session x s
  attach_came_goes false session x s = answer_goes P (answered_at x (place_of session s)) session x s
