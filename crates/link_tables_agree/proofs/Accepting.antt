-- Links are made, step by step: by a call that attaches one, or by one that accepts one.
use Rattle.std.specs.Prelude.{◌≡◌, ℕ, nat_eq, Bool, true, false, ◌||◌, ◌⊎◌, List, [], ◌∷◌, Option, Some, None, Result, Ok, Err, if◌then◌else◌, refl}
use Rattle.std.proofs.Common.{inl, inr, sym, ◌∙◌, ap, subst, eq-eqb}
use Rattle.std.proofs.lemmas.Bool.{eqb-false}
use Rattle.amqp_composites.specs.declared.modes.Role.{Role}
use Rattle.amqp_composites.specs.declared.modes.Role.TheVariants as role
use Rattle.amqp_delivery.specs.declared.info.CreditMode.{CreditMode}
use Rattle.amqp_delivery.specs.declared.info.CreditMode.TheVariants.{Manual, Auto}
use Rattle.amqp_frames.specs.declared.shared.SessionStopReason.{SessionStopReason}
use Rattle.amqp_link.specs.Accept as accept
use Rattle.amqp_link.specs.declared.error.AttachError.{AttachError}
use Rattle.amqp_link.specs.declared.error.AttachError.TheVariants.{IllegalState}
use Rattle.amqp_link.specs.declared.error.AttachFault.{AttachFault}
use Rattle.amqp_link.specs.declared.settings.AcceptSettings.{AcceptSettings}
use Rattle.amqp_link.specs.Link as link
use Rattle.amqp_link_tables.specs.declared.error.AllocLinkError.{AllocLinkError}
use Rattle.amqp_link_tables.specs.declared.error.AllocLinkError.TheVariants as full
use Rattle.amqp_link_tables.specs.Calls as table
use Rattle.amqp_performatives.specs.declared.attach.Attach.{Attach}
use Rattle.amqp_receiver.specs.declared.settings.ReceiverSettings.{ReceiverSettings}
use Rattle.amqp_receiver.specs.Receiver as receiver
use Rattle.amqp_sender.specs.declared.settings.SenderSettings.{SenderSettings}
use Rattle.amqp_session.specs.declared.session.LinkInput.{LinkInput}
use Rattle.amqp_link.specs.declared.endpoint.AttachPoll.{AttachPoll}
use Rattle.amqp_link.specs.declared.endpoint.AttachPoll.TheVariants.{Pending, Done}
use Rattle.amqp_link_calls.specs.Answering.{accept_told, accept_answered, accept_reply}
use Rattle.amqp_link_calls.specs.Called.{Called, with_side, sender_asked, receiver_asked, answering_side, accepted}
use Rattle.amqp_link_calls.specs.Side.{Side, Sender, Receiver, polled_answer, polled, with_link as with_side_link, link_of as link_in}
use Rattle.amqp_link_words.specs.declared.link_reply.LinkReply.TheVariants as reply
use Rattle.amqp_session_links.specs.declared.place.Claim.{Claim}
use Rattle.amqp_session_links.specs.declared.place.Claim.TheVariants.{Handle, Refused}
use Rattle.amqp_session_links.specs.declared.place.WaitingAccept.{WaitingAccept}
use Rattle.amqp_session_links.specs.Claims.{claimed_by, claimed_up_to, claimed_unless}
use Rattle.amqp_session_links.specs.Incoming.{attach_pushed, attach_taken, first_of, early_taken, early_put}
use Rattle.amqp_session_links.specs.State.{State as Place, awaiting_answer, awaiting_attach, accept_taken}
use Rattle.amqp_links.specs.Accepting.{first_at, first_attach, early_at, heard_early, catching_up, attach_accepted, first_accepted_at, first_accepted, met_by, met_at, met, waiting, accepting_at, accepting, accept_of, meeting, waiting_met, attach_waits, reattaching_as, reattaching_at, awaiting, attach_for, attach_came}
use Rattle.amqp_link_calls.specs.Leaving.{is_reattaching}
use Rattle.amqp_links.specs.Attaching.{claimed_at, claimed, standing, begun, sender_by, attaching_sender, receiver_by, attaching_receiver, joining}
use Rattle.amqp_links.specs.Hearing.{is_detach, hearing, other_role, answered_at}
use Rattle.amqp_links.specs.State.{State, place_of, link_of, with_place, stepped, at_place, answering}
use Rattle.amqp_links.specs.Taking.{taken_up}
use Rattle.session_laws.specs.Messages.{transfers}
use Rattle.session_laws.proofs.Links.{said}
use Rattle.link_lives.specs.Logs.{is_named, accepts_as}
use Rattle.link_tables_agree.specs.Sound.{own_at, IsUnled, IsUnused, AreSound}
use Rattle.link_tables_agree.proofs.Places.{Calm, calm_still, taken_changes}
use Rattle.link_tables_agree.proofs.Turns.{place_here, place_holds}
use Rattle.link_tables_agree.proofs.Walks.{Walk, Goes, IsClaim, IsFor, stepped_turn, goes_still, goes_then, goes_same, goes_either, with_place_calm, place_stays, pushed_goes, awaiting_goes, dropped_goes, begins_goes, accepts_goes}
use Rattle.link_tables_agree.proofs.Taking.{taken_goes}
use Rattle.link_tables_agree.proofs.Hearing.{hearing_goes, attach_goes, answer_goes}

-- ---- a link that is made

asked_sender : (name session : ℕ) (x : SenderSettings) (handle : ℕ) → IsFor session handle (sender_asked name session x handle)
asked_sender name session x handle = record { on_session = refl; has = refl; silent = refl }

asked_receiver : (name session : ℕ) (x : ReceiverSettings) (handle : ℕ) → IsFor session handle (receiver_asked name session x handle)
asked_receiver name session x handle = record { on_session = refl; has = refl; silent = refl }

-- the link of one that answers an Attach
record Answers (handle : ℕ) (l : link.Link) : Type 0 where
  has : l.own.handle ≡ handle
  silent : transfers l.output ≡ []

echoed_handle : (r : Role) (settings : AcceptSettings) (handle : ℕ) (x : Attach) → (accept.echoed_as r settings handle x).handle ≡ handle
echoed_handle role.Sender settings handle x = refl
echoed_handle role.Receiver settings handle x = refl

bare_handle : (r : Role) (x : Attach) → (link.without_terminus r x).handle ≡ x.handle
bare_handle role.Sender x = refl
bare_handle role.Receiver x = refl

accepting_answers : (f : Option AttachFault) (size handle : ℕ) (own : Attach) → own.handle ≡ handle → Answers handle (link.accepting f size own)
accepting_answers None size handle own e = record { has = e; silent = refl }
accepting_answers (Some x) size handle own e = record { has = bare_handle own.role own ∙ e; silent = refl }

link_answers : (settings : AcceptSettings) (handle : ℕ) (x : Attach) → Answers handle (accept.accepted settings handle x)
link_answers settings handle x =
    accepting_answers (accept.accept_fault settings x) (link.size_of x.max_message_size) handle (accept.echoed settings handle x) (echoed_handle (accept.other_role x.role) settings handle x)

-- a poll leaves a link as it is, but for why its attach failed
module _ (Q : link.Link → Type 0) (l : link.Link) (same : Q l) (told : Q (record l { failure = None })) where
  waits_as : (a : Bool) → Q (if a then link.tells (Ok Pending) l else link.tells (Err IllegalState) l).link
  waits_as true = same
  waits_as false = same

  waiting_as : (o : Option SessionStopReason) → Q (link.poll_waiting o l).link
  waiting_as (Some why) = same
  waiting_as None = waits_as (link.is_awaited l.phase)

  fails_as : (a : Bool) (e : AttachError) → Q (if a then link.tells (Err e) (record l { failure = None }) else link.poll_waiting l.stop_reason l).link
  fails_as true e = told
  fails_as false e = waiting_as l.stop_reason

  failing_as : (f : Option AttachError) → Q (link.poll_failing f l).link
  failing_as None = waiting_as l.stop_reason
  failing_as (Some e) = fails_as (l.accepts || link.is_done l.phase) e

  made_as : (a : Bool) → Q (if a then link.tells (Ok Done) l else link.poll_failing l.failure l).link
  made_as true = same
  made_as false = failing_as l.failure

  polled_as : Q (link.polled l).link
  polled_as = made_as l.is_made

first_answers : (handle : ℕ) (mode : CreditMode) (s : receiver.State) → Answers handle s.link → Answers handle (receiver.giving_first mode s).link
first_answers handle Manual s a = a
first_answers handle (Auto credit) s a = record { has = a.has; silent = said s.link.output _ refl ∙ a.silent }

opened_answers : (handle : ℕ) (c : Bool) (count : Option ℕ) (s : receiver.State) → Answers handle s.link → Answers handle (receiver.opened_if c count s).link
opened_answers handle true count s a = first_answers handle s.book.credit_mode _ a
opened_answers handle false count s a = a

-- the side of a link that is made
abbrev Fits : ℕ → Side → Type 0
Fits handle s = Answers handle (link_in s)

side_answers : (r : Role) (settings : AcceptSettings) (mode : CreditMode) (auto : Bool) (handle : ℕ) (x : Attach) → Fits handle (answering_side r settings mode auto handle x)
side_answers role.Sender settings mode auto handle x =
    opened_answers handle (accept.accepted settings handle x).is_made x.initial_delivery_count (receiver.fresh (accept.accepted settings handle x) mode false) (link_answers settings handle x)
side_answers role.Receiver settings mode auto handle x = link_answers settings handle x

linked_side : (l : link.Link) (s : Side) → link_in (with_side_link l s) ≡ l
linked_side l (Sender s) = refl
linked_side l (Receiver s) = refl

polled_fits : (handle : ℕ) (s : Side) → Fits handle s → Fits handle (polled s)
polled_fits handle s a =
    subst (Answers handle) (sym (linked_side (link.polled (link_in s)).link s))
    (polled_as (Answers handle) (link_in s) a (record { has = a.has; silent = a.silent }))

told_for : (r : Result AttachPoll AttachError) (session handle : ℕ) (l : Called) → IsFor session handle l → IsFor session handle (accept_told r l)
told_for (Ok Done) session handle l a = record { on_session = a.on_session; has = a.has; silent = a.silent }
told_for (Ok Pending) session handle l a = a
told_for (Err e) session handle l a = a

answered_for : (session : ℕ) (settings : AcceptSettings) (mode : CreditMode) (auto : Bool) (handle : ℕ) (x : Attach) → IsFor session handle (accept_answered (accepted session settings mode auto handle x))
answered_for session settings mode auto handle x =
    let l = accepted session settings mode auto handle x in
    let a = polled_fits handle l.side (side_answers x.role settings mode auto handle x) in
    told_for (polled_answer l.side) session handle (with_side (polled l.side) l) (record { on_session = refl; has = a.has; silent = a.silent })

-- ---- steps

calm_awaiting : (name : ℕ) (p : Place) → Calm p (awaiting_answer name p)
calm_awaiting name p = record { handles = refl; remotes = refl; accepting = refl; attaches = refl }

calm_early : (remote : ℕ) (p : Place) → Calm p (early_taken remote p)
calm_early remote p = record { handles = refl; remotes = refl; accepting = refl; attaches = refl }

calm_put : (remote : ℕ) (xs : List LinkInput) (p : Place) → Calm p (early_put remote xs p)
calm_put remote [] p = calm_still p
calm_put remote (x ∷ xs) p = record { handles = refl; remotes = refl; accepting = refl; attaches = refl }

module _ (P : Walk) where
  -- a link gets a handle, and goes on with it; or it gets none
  module _ (session : ℕ) (name : List ℕ) (r : Role) (made : ℕ) (s : State) (Q : Claim → State → Type 0) (refused : (e : AttachError) (t : State) → Goes P s t → Q (Refused e) t)
      (got : (handle max : ℕ) (p q : Place) → place_of session s ≡ Some p → IsClaim name r max made handle p q → Q (Handle handle) (with_place session q s)) where
    claims_by : (a : Result ℕ AllocLinkError) (max : ℕ) (p : Place) → place_of session s ≡ Some p → table.allocation name r max p.table ≡ a
        → Q (claimed_by a max name r made p).answer (with_place session (claimed_by a max name r made p).state s)
    claims_by (Ok handle) max p at e = got handle max p (claimed_by (Ok handle) max name r made p).state at (record { free = e; table = refl; accepting = refl; attaches = refl })
    claims_by (Err (full.Memory a)) max p at e = refused _ _ (with_place_calm P session p p s at (calm_still p))
    claims_by (Err full.DuplicatedLinkName) max p at e = refused _ _ (with_place_calm P session p p s at (calm_still p))
    claims_by (Err full.HandleMaxReached) max p at e = refused _ _ (with_place_calm P session p p s at (calm_still p))

    claims_to : (max : Option ℕ) (p : Place) → place_of session s ≡ Some p → Q (claimed_up_to max name r made p).answer (with_place session (claimed_up_to max name r made p).state s)
    claims_to None p at = refused _ _ (with_place_calm P session p p s at (calm_still p))
    claims_to (Some max) p at = claims_by (table.allocation name r max p.table) max p at refl

    claims_unless : (stop : Option SessionStopReason) (max : Option ℕ) (p : Place) → place_of session s ≡ Some p → Q (claimed_unless stop max name r made p).answer (with_place session (claimed_unless stop max name r made p).state s)
    claims_unless (Some why) max p at = refused _ _ (with_place_calm P session p p s at (calm_still p))
    claims_unless None max p at = claims_to max p at

    claims_at : (o : Option Place) (max : Option ℕ) → place_of session s ≡ o → Q (claimed_at o session name r made max s).answer (claimed_at o session name r made max s).state
    claims_at None max at = refused _ _ (goes_still P s)
    claims_at (Some p) max at = claims_unless p.stop_reason max p at

    claims : (max : Option ℕ) → Q (claimed session name r made max s).answer (claimed session name r made max s).state
    claims max = claims_at (place_of session s) max refl

  -- ---- a call attaches a link

  begun_goes : (name session handle : ℕ) (l : Called) (text : List ℕ) (r : Role) (max : ℕ) (p q : Place) (s : State) → P.Makes name → IsUnused name s → place_of session s ≡ Some p → IsClaim text r max name handle p q → IsFor session handle l
      → Goes P s (begun name session l (with_place session q s))
  begun_goes name session handle l text r max p q s makes unused at c is =
      let a = standing name l (with_place session q s) in
      let b = at_place session (awaiting_answer name) a in
      let d = answering name reply.Pending b in
      goes_then P s a (taken_up name d) (begins_goes P name l session handle text r max p q s makes unused at c is)
      (goes_then P a b (taken_up name d) (place_stays P session (awaiting_answer name) a (λ y. calm_awaiting name y))
      (goes_then P b d (taken_up name d) (goes_same P b d refl refl refl) (taken_goes P name d)))

  pub attaching_sender_goes : (name session : ℕ) (x : SenderSettings) (max : Option ℕ) (s : State) → P.Makes name → IsUnused name s → Goes P s (attaching_sender name session x max s)
  attaching_sender_goes name session x max s makes unused =
      claims session x.name role.Sender name s (λ c t. Goes P s (sender_by c name session x t))
      (λ e t g. goes_then P s t _ g (goes_same P t _ refl refl refl))
      (λ handle top p q at c. begun_goes name session handle (sender_asked name session x handle) x.name role.Sender top p q s makes unused at c (asked_sender name session x handle)) max

  pub attaching_receiver_goes : (name session : ℕ) (x : ReceiverSettings) (max : Option ℕ) (s : State) → P.Makes name → IsUnused name s → Goes P s (attaching_receiver name session x max s)
  attaching_receiver_goes name session x max s makes unused =
      claims session x.name role.Receiver name s (λ c t. Goes P s (receiver_by c name session x t))
      (λ e t g. goes_then P s t _ g (goes_same P t _ refl refl refl))
      (λ handle top p q at c. begun_goes name session handle (receiver_asked name session x handle) x.name role.Receiver top p q s makes unused at c (asked_receiver name session x handle)) max

  -- ---- a link of the peer is accepted

  -- what came before is heard by the link that is made
  early_goes : (session made remote : ℕ) (xs : List LinkInput) (s : State) → P.May session remote → Goes P s (heard_early session made remote xs s)
  early_goes session made remote [] s may = goes_still P s
  early_goes session made remote (x ∷ xs) s may =
      let t = hearing session made remote x s in
      goes_then P s t (if is_detach x then at_place session (early_put remote xs) t else heard_early session made remote xs t) (hearing_goes P session made remote x s (λ e. may))
      (goes_either P (is_detach x) t (at_place session (early_put remote xs) t) (heard_early session made remote xs t) (place_stays P session (early_put remote xs) t (λ p. calm_put remote xs p)) (early_goes session made remote xs t may))

  catching_up_goes : (session made remote : ℕ) (s : State) → P.May session remote → Goes P s (catching_up session made remote s)
  catching_up_goes session made remote s may =
      let t = at_place session (early_taken remote) s in
      goes_then P s t (catching_up session made remote s) (place_stays P session (early_taken remote) s (λ p. calm_early remote p)) (early_goes session made remote (early_at remote (place_of session s)) t may)

  module _ (session : ℕ) (a : WaitingAccept) (x : Attach) (s : State) (makes : P.Makes a.name) (unused : IsUnused a.name s) (may : P.May session x.handle) where
    accepted_goes : (handle max : ℕ) (text : List ℕ) (r : Role) (p q : Place) → place_of session s ≡ Some p → IsClaim text r max a.name handle p q
        → Goes P s (attach_accepted session a handle x (at_place session attach_taken (with_place session q s)))
    accepted_goes handle max text r p q at c =
        let l = accepted session a.settings a.credit_mode a.auto_accept handle x in
        let t = joining session x.handle a.name (standing a.name (accept_answered l) (at_place session attach_taken (with_place session q s))) in
        let u = answering a.name (accept_reply l) t in
        let v = taken_up a.name u in
        goes_then P s t (catching_up session a.name x.handle v) (accepts_goes P a.name (accept_answered l) session handle text r max p q x s makes unused at c (answered_for session a.settings a.credit_mode a.auto_accept handle x) may)
        (goes_then P t u (catching_up session a.name x.handle v) (goes_same P t u refl refl refl)
        (goes_then P u v (catching_up session a.name x.handle v) (taken_goes P a.name u) (catching_up_goes session a.name x.handle v may)))

    first_goes : (handle max : ℕ) (text : List ℕ) (r : Role) (p q : Place) → first_attach session s ≡ Some x → place_of session s ≡ Some p → IsClaim text r max a.name handle p q → Goes P s (first_accepted session a handle (with_place session q s))
    first_goes handle max text r p q first at c =
        let t = with_place session q s in
        let e : first_attach session t ≡ Some x = ap first_at (place_here session p q s at) ∙ (ap first_of c.attaches ∙ (sym (ap first_at at) ∙ first)) in
        subst (λ o. Goes P s (first_accepted_at o session a handle (at_place session attach_taken t))) (sym e) (accepted_goes handle max text r p q at c)

    met_one : first_attach session s ≡ Some x → Goes P s (met_at (Some x) session a s)
    met_one first =
        claims session x.name (other_role x.role) a.name s (λ c t. Goes P s (met_by c session a (other_role x.role) t))
        (λ e t g. goes_then P s t _ g (goes_same P t _ refl refl refl))
        (λ handle top p q at c. first_goes handle top x.name (other_role x.role) p q first at c) a.handle_max

  -- the first Attach that waits is on a handle of the peer that may lead to another link
  abbrev pub MayMeet : ℕ → State → Type 0
  MayMeet session s = (x : Attach) → first_attach session s ≡ Some x → P.May session x.handle

  met_goes_at : (o : Option Attach) (session : ℕ) (a : WaitingAccept) (s : State) → first_attach session s ≡ o → P.Makes a.name → IsUnused a.name s → MayMeet session s → Goes P s (met_at o session a s)
  met_goes_at None session a s e makes unused may = goes_still P s
  met_goes_at (Some x) session a s e makes unused may = met_one session a x s makes unused (may x e) e

  met_goes : (session : ℕ) (a : WaitingAccept) (s : State) → P.Makes a.name → IsUnused a.name s → MayMeet session s → Goes P s (met session a s)
  met_goes session a s makes unused may = met_goes_at (first_attach session s) session a s refl makes unused may

  waiting_goes : (session : ℕ) (a : WaitingAccept) (s : State) → P.Makes a.name → IsUnused a.name s → Goes P s (waiting session a s)
  waiting_goes session a s makes unused =
      let t = at_place session (awaiting_attach a) s in
      goes_then P s t (waiting session a s) (awaiting_goes P session a s makes unused) (goes_same P t (waiting session a s) refl refl refl)

  accepting_goes_at : (o : Option Attach) (session : ℕ) (a : WaitingAccept) (s : State) → P.Makes a.name → IsUnused a.name s → MayMeet session s → Goes P s (accepting_at o session a s)
  accepting_goes_at None session a s makes unused may = waiting_goes session a s makes unused
  accepting_goes_at (Some x) session a s makes unused may = met_goes session a s makes unused may

  pub accepting_goes : (session : ℕ) (a : WaitingAccept) (s : State) → P.Makes a.name → IsUnused a.name s → MayMeet session s → Goes P s (accepting session a s)
  accepting_goes session a s makes unused may = accepting_goes_at (first_attach session s) session a s makes unused may

  -- ---- an Attach of the peer meets the call that waits

  taken_first : (o : Option Place) (session : ℕ) (s : State) → place_of session s ≡ o → first_attach session (stepped o session accept_taken s) ≡ first_attach session s
  taken_first None session s at = refl
  taken_first (Some p) session s at = ap first_at (place_here session p (accept_taken p) s at) ∙ sym (ap first_at at)

  -- once it is taken, the name of a call that has waited is that of none
  was_waiting : (o : Option Place) (session : ℕ) (a : WaitingAccept) (s : State) → place_of session s ≡ o → accept_of o ≡ Some a → AreSound s → IsUnused a.name (stepped o session accept_taken s)
  was_waiting None session a s at e sound = absurd cc
  was_waiting (Some p) session a s at e sound =
      let named : accepts_as a.name (place_of session s) ≡ true = ap (accepts_as a.name) at ∙ (ap (is_named a.name) e ∙ eq-eqb a.name a.name refl) in
      let t = with_place session (accept_taken p) s in
      let turn = stepped_turn (Some p) session accept_taken s at (λ y. taken_changes session y) in
      let u = sound.waits session a.name named in
      record {
        unled = record { none = u.none; own = λ other handle led. unled u other handle (turn.own other handle a.name led) };
        free = place_holds (λ y o. accepts_as a.name o ≡ false) session p (accept_taken p) s at refl (λ other apart. free named other apart (accepts_as a.name (place_of other s)) refl);
      }
    where
      unled : IsUnled a.name s → (other handle : ℕ) → (own_at handle (place_of other s) ≡ Some a.name) ⊎ ⊥ → ⊥
      unled u other handle (inl led) = u.own other handle led
      unled u other handle (inr f) = f

      free : accepts_as a.name (place_of session s) ≡ true → (other : ℕ) → nat_eq session other ≡ false → (b : Bool) → accepts_as a.name (place_of other s) ≡ b → accepts_as a.name (place_of other s) ≡ false
      free named other apart false e = e
      free named other apart true e = absurd (eqb-false session other apart (sound.once session other a.name named e))

  meeting_goes : (o : Option WaitingAccept) (session : ℕ) (s : State) → accept_of (place_of session s) ≡ o → ((a : WaitingAccept) → o ≡ Some a → P.Makes a.name) → MayMeet session s → Goes P s (meeting o session (at_place session accept_taken s))
  meeting_goes None session s e makes may = dropped_goes P session s
  meeting_goes (Some a) session s e makes may = λ sound.
      let t = at_place session accept_taken s in
      let unused : IsUnused a.name t = was_waiting (place_of session s) session a s refl e sound in
      let may_then : MayMeet session t = λ x first. may x (sym (taken_first (place_of session s) session s refl) ∙ first) in
      goes_then P s t (met session a t) (dropped_goes P session s) (met_goes session a t (makes a refl) unused may_then) sound

  -- and the call that waits has a name under which a link may be made
  abbrev pub MayMake : ℕ → State → Type 0
  MayMake session s = (a : WaitingAccept) → accept_of (place_of session s) ≡ Some a → P.Makes a.name

  waiting_met_goes : (session : ℕ) (s : State) → MayMake session s → MayMeet session s → Goes P s (waiting_met session s)
  waiting_met_goes session s makes may = meeting_goes (accept_of (place_of session s)) session s refl makes may

  pushed_accept : (o : Option Place) (session : ℕ) (x : Attach) (s : State) → place_of session s ≡ o → accept_of (place_of session (stepped o session (attach_pushed x) s)) ≡ accept_of (place_of session s)
  pushed_accept None session x s at = refl
  pushed_accept (Some p) session x s at = ap accept_of (place_here session p (attach_pushed x p) s at) ∙ sym (ap accept_of at)

  attach_waits_goes : (session : ℕ) (x : Attach) (s : State) → P.May session x.handle → MayMake session s → MayMeet session (at_place session (attach_pushed x) s) → Goes P s (attach_waits session x s)
  attach_waits_goes session x s may makes meet =
      let t = at_place session (attach_pushed x) s in
      goes_then P s t (waiting_met session t) (pushed_goes P session x s may) (waiting_met_goes session t (λ a e. makes a (sym (pushed_accept (place_of session s) session x s refl) ∙ e)) meet)

  attach_for_goes : (o : Option ℕ) (session : ℕ) (x : Attach) (s : State) → P.May session x.handle → ((made : ℕ) → o ≡ Some made → P.Joins made) → MayMake session s → MayMeet session (at_place session (attach_pushed x) s)
      → Goes P s (attach_for o session x s)
  attach_for_goes None session x s may joins makes meet = attach_waits_goes session x s may makes meet
  attach_for_goes (Some made) session x s may joins makes meet = attach_goes P session made x s may (joins made refl)

  -- what an Attach that is read asks of the handles of the peer
  pub record MayCome (session : ℕ) (x : Attach) (s : State) : Type 0 where
    pub may : P.May session x.handle
    pub joins : (made : ℕ) → answered_at x (place_of session s) ≡ Some made → P.Joins made
    pub makes : MayMake session s
    pub meets : MayMeet session (at_place session (attach_pushed x) s)

  reattaching : (o : Option ℕ) (made : ℕ) (s : State) → reattaching_at o s ≡ Some made → o ≡ Some made
  reattaching None made s e = absurd cc
  reattaching (Some n) made s e = again (link_of n s) n made e
    where
      again_if : (b : Bool) (n made : ℕ) → (if b then Some n else None) ≡ Some made → Some n ≡ Some made
      again_if true n made e = e
      again_if false n made e = absurd cc

      again : (o : Option Called) (n made : ℕ) → reattaching_as n o ≡ Some made → Some n ≡ Some made
      again None n made e = absurd cc
      again (Some l) n made e = again_if (is_reattaching l) n made e

  pub attach_came_goes : (b : Bool) (session : ℕ) (x : Attach) (s : State) → MayCome session x s → Goes P s (attach_came b session x s)
  attach_came_goes true session x s c = attach_for_goes (awaiting session x s) session x s c.may (λ made e. c.joins made (reattaching (answered_at x (place_of session s)) made s e)) c.makes c.meets
  attach_came_goes false session x s c = answer_goes P (answered_at x (place_of session s)) session x s c.may c.joins
