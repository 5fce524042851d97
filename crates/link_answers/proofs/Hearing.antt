-- What sessions hand to the links of an end: the links stand for what has passed.
use Rattle.std.specs.Prelude.{◌≡◌, ℕ, nat_eq, Bool, true, false, cond, is_some, All, Contains, List, [], ◌∷◌, ◌++◌, Option, Some, None, Result, Ok, Err, if◌then◌else◌, refl}
use Rattle.std.proofs.Common.{sym, ◌∙◌, ap, subst, append_assoc, eq-eqb}
use Rattle.std.proofs.lemmas.List.{append-nil}
use Rattle.std.proofs.lemmas.List.Elements.{All-nil, Contains-append_left, Contains-push}
use Rattle.std.specs.Map.{lookup}
use Rattle.amqp_composites.specs.declared.modes.Role.{Role}
use Rattle.amqp_frames.specs.declared.shared.SessionStopReason.{SessionStopReason}
use Rattle.amqp_link.specs.Link.{first_reason}
use Rattle.amqp_link_calls.specs.Answering.{accept_answered, accept_reply}
use Rattle.amqp_link_calls.specs.Called.{Called, accepted, with_side}
use Rattle.amqp_link_calls.specs.Called as called
use Rattle.amqp_link_calls.specs.Hearing as hears
use Rattle.amqp_link_calls.specs.Leaving.{is_reattaching}
use Rattle.amqp_link_calls.specs.Side.{Side, Sender, Receiver, is_stopped}
use Rattle.amqp_link_calls.specs.Side as side
use Rattle.amqp_link_tables.specs.declared.deliveries.Delivered.{Delivered}
use Rattle.amqp_link_tables.specs.declared.error.AllocLinkError.{AllocLinkError}
use Rattle.amqp_link_tables.specs.declared.error.AllocLinkError.TheVariants as full
use Rattle.amqp_link_tables.specs.Calls as table
use Rattle.amqp_link_words.specs.declared.link_call.LinkCall.TheVariants as call
use Rattle.amqp_links.specs.Accepting.{first_attach, early_at, heard_early, catching_up, attach_accepted, first_accepted_at, met_by, met_at, met, accepting_at, accepting, accept_of, meeting, waiting_met, reattaching_as, reattaching_at, awaiting, attach_for, attach_came}
use Rattle.amqp_links.specs.Attaching.{claimed_at, claimed, standing, joining}
use Rattle.amqp_links.specs.Hearing.{is_detach, parting, hearing_at, hearing, link_from_at, frame_at, other_role, attach_heard_at, attach_heard, answered_at, answer_read_at}
use Rattle.amqp_links.specs.Inputs.{handle_of, word_read, read_at, input_read}
use Rattle.amqp_links.specs.Numbering.{begun_by, begun_as, receives_at, numbering}
use Rattle.amqp_links.specs.Parts.{output_of, heard, disposition_heard}
use Rattle.amqp_links.specs.Settling.{forgetting, link_settled, forgets, delivery_at, covered_by, settled_by, settled, all_settled, covered_at}
use Rattle.amqp_links.specs.State.{State, place_of, link_of, with_link, stepped, at_place, entered_at, entered, answering}
use Rattle.amqp_links.specs.Stops.{links_at, stopped_at, all_stopped, concluded_at, all_concluded}
use Rattle.amqp_links.specs.Timing.{tried_again}
use Rattle.amqp_links.specs.Taking.{taken_up}
use Rattle.amqp_parts.specs.Join.{Incomplete}
use Rattle.amqp_performatives.specs.declared.attach.Attach.{Attach}
use Rattle.amqp_performatives.specs.declared.disposition.Disposition.{Disposition}
use Rattle.amqp_receiver.specs.declared.receiver.Incoming.{Incoming}
use Rattle.amqp_session.specs.declared.session.LinkInput.{LinkInput}
use Rattle.amqp_session.specs.declared.session.LinkInput.TheVariants as input
use Rattle.amqp_session_links.specs.declared.place.Claim.{Claim}
use Rattle.amqp_session_links.specs.declared.place.Claim.TheVariants.{Handle, Refused}
use Rattle.amqp_session_links.specs.declared.place.WaitingAccept.{WaitingAccept}
use Rattle.amqp_session_links.specs.Claims.{claimed_by, claimed_up_to, claimed_unless, claiming, joined}
use Rattle.amqp_session_links.specs.Incoming.{attach_pushed, kept, early_put}
use Rattle.amqp_session_links.specs.State.{State as Place, none_attached, awaiting_attach}
use Rattle.amqp_link_words.specs.declared.link_reply.LinkReply.TheVariants as reply
use Rattle.link_lives.proofs.Tables.{set_at, insert_here}
use Rattle.link_answers.specs.Standing.{Given, Written, IsCallFor, IsAnswered, AreAmong, AttachFails, Stands}
use Rattle.link_answers.specs.Keeping.{HasAsked, WaitStands, CalledStands, Leads, IsEarly}
use Rattle.link_answers.proofs.Answers.{accept_error_as}
use Rattle.link_answers.proofs.Called.{Fits, heard_goes, attach_goes, concluded_stays, disposition_goes, stopped_stays}
use Rattle.link_answers.proofs.Joining.{among_behind, among_first, none_waits, waits_longer}
use Rattle.link_answers.proofs.Links.{under}
use Rattle.link_answers.proofs.Making.{IsMet, is_met, accepted_waits, answered_waits}
use Rattle.link_answers.proofs.Places as step
use Rattle.link_answers.proofs.Places.{claims_stand, joins_stand, pushes_stand, keeps_stand, puts_stand, awaits_stand}
use Rattle.link_answers.proofs.Sides.{waits_in, Ruled}
use Rattle.link_answers.proofs.States.{Before, insert_each, place_by, place_stand, entered_stand, opens, link_goes, link_stays, told_stand, makes_tells, strays, is_answered, reaches, leads_for, asked_for, first_read, early_read, accepts_read}
use Rattle.link_answers.proofs.Waits.{waits_at, place_links, place_same, taken_same, ready_link, Reaches, Within, WasBefore, one_more, hearing_within}
use Rattle.link_answers.proofs.Walks.{either, answers_apart, I, steps_place, plain, attach_told_keeps, taken_keeps, tried_again_keeps, tried_stopped}

module _ (g : Given) (gave : Before) where
  -- ---- frames on the handle of the peer

  parting_keeps : (c : Bool) (session remote : ℕ) (s : State) → I g gave None s → I g gave None (parting c session remote s)
  parting_keeps true session remote s k = steps_place g gave None (step.parts remote) session s k
  parting_keeps false session remote s k = k

  begun_keeps : (o : Option (ℕ × Delivered)) (session : ℕ) (s : State) → I g gave None s → I g gave None (begun_as o session s)
  begun_keeps None session s k = k
  begun_keeps (Some d) session s k = steps_place g gave None (step.begins d.0 d.1) session s k

  numbering_keeps : (session n : ℕ) (x : LinkInput) (s : State) → I g gave None s → I g gave None (numbering session n x s)
  numbering_keeps session n (input.Transfer x payload) s k = either (I g gave None) (receives_at (link_of n s)) _ s (begun_keeps (begun_by n x) session s k) k
  numbering_keeps session n other s k = k

  hearing_keeps_at : (o : Option Called) (n : ℕ) (x : LinkInput) (s : State) → link_of n s ≡ o → ((l : Called) → o ≡ Some l → Fits g n x l.side) → I g gave None s → I g gave (Some n) (hearing_at o n x s)
  hearing_keeps_at None n x s at f k = opens g gave n s k
  hearing_keeps_at (Some l) n x s at f k = link_goes g gave n l (heard x l) s at (heard_goes g n x l (f l refl)) (opens g gave n s k)

  pub hearing_keeps : (session n remote : ℕ) (x : LinkInput) (s : State) → ((l : Called) → link_of n s ≡ Some l → Fits g n x l.side) → I g gave None s → I g gave None (hearing session n remote x s)
  hearing_keeps session n remote x s f k =
      let a = parting (is_detach x) session remote s in
      let c = numbering session n x a in
      let d = hearing_at (link_of n c) n x c in
      taken_keeps g gave n (tried_again (is_detach x) n d)
      (tried_again_keeps g gave (is_detach x) n d
      (hearing_keeps_at (link_of n c) n x c refl (λ l e. f l (sym (ready_link n session remote x s) ∙ e)) (numbering_keeps session n x a (parting_keeps (is_detach x) session remote s k))))

  -- a frame that is for a link, which was read behind what waits there
  fits_side : (session n : ℕ) (x : LinkInput) (a : Side) (read later : List (ℕ × LinkInput)) → (read ++ (session, x) ∷ []) ++ later ≡ g.read → Reaches g n session x → WaitStands g n read (waits_in a).0 (waits_in a).1 → Fits g n x a
  fits_side session n (input.Detach d) a read later all r k = r
  fits_side session n (input.Transfer x payload) a read later all r k =
      let w = waits_in a in
      let it : ℕ × LinkInput = (session, input.Transfer x payload) in
      let i : List Incoming = w.0 ++ record { transfer = x; payload = payload } ∷ [] in
      subst (λ (z : List (ℕ × LinkInput)). WaitStands g n z i w.1) all (waits_longer g n (read ++ it ∷ []) later i w.1 (one_more g n session read x payload w r k))
  fits_side session n other a read later all r k = tt

  fits_link : (session n : ℕ) (x : LinkInput) (s : State) (read later : List (ℕ × LinkInput)) → (read ++ (session, x) ∷ []) ++ later ≡ g.read → Reaches g n session x → Within g n read s → (l : Called) → link_of n s ≡ Some l → Fits g n x l.side
  fits_link session n x s read later all r w l e = fits_side session n x l.side read later all r (w (waits_in l.side) (ap waits_at e))

  frame_keeps_at : (o : Option ℕ) (session remote : ℕ) (x : LinkInput) (s : State) (read : List (ℕ × LinkInput)) → link_from_at remote (place_of session s) ≡ o → read ++ (session, x) ∷ [] ≡ g.read → handle_of x ≡ Some remote → WasBefore g read s → I g gave None s
      → I g gave None (frame_at o session remote x s)
  frame_keeps_at None session remote x s read at all on b k =
      place_by g gave None (place_of session s) session (kept remote x) s refl (λ p e h. keeps_stand g session remote x read all on p (b.early session p e) h) k
  frame_keeps_at (Some n) session remote x s read at all on b k =
      let r = reaches g session remote n x (leads_for g gave None session remote n s k at) (subst (λ (z : List (ℕ × LinkInput)). Contains z (session, x)) all (Contains-push read (session, x))) on in
      hearing_keeps session n remote x s (fits_link session n x s read [] (append-nil (read ++ (session, x) ∷ []) ∙ all) r (b.waits n)) k

  -- ---- an Attach that answers one of this end

  attach_keeps_at : (o : Option Called) (n : ℕ) (x : Attach) (s : State) → link_of n s ≡ o → IsAnswered g n → I g gave None s → I g gave (Some n) (attach_heard_at o n x s)
  attach_keeps_at None n x s at a k = opens g gave n s k
  attach_keeps_at (Some l) n x s at a k = link_goes g gave n l (hears.attach_read x l) s at (attach_goes g n x l a) (opens g gave n s k)

  -- a handle leads to the link that an Attach with it answers
  leads_as : (session n : ℕ) (x : Attach) → HasAsked g n (IsCallFor session x.name (other_role x.role)) → Contains g.read (session, input.Attach x) → Leads g session x.handle n
  leads_as session n x a r = record { answered = record { call = a.0; asked = a.1.1; session = session; attach = x; is_for = a.1.0; read = r }; on_session = refl; has = refl }

  attach_keeps : (session n : ℕ) (x : Attach) (s : State) → HasAsked g n (IsCallFor session x.name (other_role x.role)) → Contains g.read (session, input.Attach x) → I g gave None s → I g gave None (attach_heard session n x s)
  attach_keeps session n x s a r k =
      let t = joining session x.handle n s in
      let j : I g gave None t = place_stand g gave None session (joined x.handle n) s (λ p h. joins_stand g session x.handle n p (leads_as session n x a r) h) k in
      taken_keeps g gave n (attach_heard_at (link_of n t) n x t) (attach_keeps_at (link_of n t) n x t refl (is_answered g session n x a r) j)

  answer_keeps : (o : Option ℕ) (session : ℕ) (x : Attach) (s : State) → answered_at x (place_of session s) ≡ o → Contains g.read (session, input.Attach x) → I g gave None s → I g gave None (answer_read_at o session x s)
  answer_keeps None session x s at r k = strays g gave session s k
  answer_keeps (Some n) session x s at r k = attach_keeps session n x s (asked_for g gave None session n x s k at) r k

  -- ---- a link asks for a handle

  abbrev pub ClaimStands : ℕ → Claim → Type 0
  ClaimStands n (Handle handle) = Unit {0}
  ClaimStands n (Refused e) = AttachFails g n e

  claim_by : (r : Result ℕ AllocLinkError) (max : ℕ) (name : List ℕ) (who : Role) (n : ℕ) (p : Place) → ClaimStands n (claimed_by r max name who n p).answer
  claim_by (Ok handle) max name who n p = tt
  claim_by (Err (full.Memory a)) max name who n p = tt
  claim_by (Err full.DuplicatedLinkName) max name who n p = tt
  claim_by (Err full.HandleMaxReached) max name who n p = tt

  claim_to : (max : Option ℕ) (name : List ℕ) (who : Role) (n : ℕ) (p : Place) → ClaimStands n (claimed_up_to max name who n p).answer
  claim_to None name who n p = tt
  claim_to (Some max) name who n p = claim_by (table.allocation name who max p.table) max name who n p

  claim_unless : (stop : Option SessionStopReason) (max : Option ℕ) (name : List ℕ) (who : Role) (n : ℕ) (p : Place) → ClaimStands n (claimed_unless stop max name who n p).answer
  claim_unless (Some why) max name who n p = tt
  claim_unless None max name who n p = claim_to max name who n p

  claim_at : (o : Option Place) (session : ℕ) (name : List ℕ) (who : Role) (n : ℕ) (max : Option ℕ) (s : State) → ClaimStands n (claimed_at o session name who n max s).answer
  claim_at None session name who n max s = tt
  claim_at (Some p) session name who n max s = claim_unless p.stop_reason max name who n p

  -- why it got none
  pub claim_stands : (session : ℕ) (name : List ℕ) (who : Role) (n : ℕ) (max : Option ℕ) (s : State) → ClaimStands n (claimed session name who n max s).answer
  claim_stands session name who n max s = claim_at (place_of session s) session name who n max s

  claimed_is : (o : Option Place) (session : ℕ) (name : List ℕ) (who : Role) (n : ℕ) (max : Option ℕ) (s : State) → (claimed_at o session name who n max s).state ≡ stepped o session (λ p. (claiming name who n max p).state) s
  claimed_is None session name who n max s = refl
  claimed_is (Some p) session name who n max s = refl

  pub claimed_keeps : (session : ℕ) (name : List ℕ) (who : Role) (n : ℕ) (max : Option ℕ) (s : State) → HasAsked g n (IsCallFor session name who) → I g gave None s → I g gave None (claimed session name who n max s).state
  claimed_keeps session name who n max s a k =
      subst (I g gave None) (sym (claimed_is (place_of session s) session name who n max s))
      (place_stand g gave None session (λ p. (claiming name who n max p).state) s (λ p h. claims_stand g session name who n max p a h) k)

  -- ---- a link of the peer is accepted

  known : (c : Bool) (J : State → Type 0) (u v : State) → J u → (c ≡ false → J v) → J (if c then u else v)
  known true J u v p q = p
  known false J u v p q = q refl

  -- one frame more that was kept
  record Heard (session remote n : ℕ) (x : LinkInput) (xs : List LinkInput) (read : List (ℕ × LinkInput)) : Type 0 where
    front : List (ℕ × LinkInput)
    later : List (ℕ × LinkInput)
    all : (front ++ (session, x) ∷ []) ++ later ≡ g.read
    reached : Reaches g n session x
    longer : List (ℕ × LinkInput)
    front_is : front ≡ read ++ longer
    others : AreAmong (IsEarly session remote) xs later

  heard_first : (session remote n : ℕ) (x : LinkInput) (xs : List LinkInput) (read rest : List (ℕ × LinkInput)) → read ++ rest ≡ g.read → Leads g session remote n → AreAmong (IsEarly session remote) (x ∷ xs) rest → Heard session remote n x xs read
  heard_first session remote n x xs read rest all leads h =
      let f = among_first (IsEarly session remote) x xs rest h in
      let front : List (ℕ × LinkInput) = read ++ f.before in
      let is : f.one ≡ (session, x) = f.is.0 in
      let same : (front ++ (session, x) ∷ []) ++ f.rest ≡ g.read =
      append_assoc front ((session, x) ∷ []) f.rest
      ∙ (append_assoc read f.before ((session, x) ∷ f.rest)
      ∙ (ap (λ (i : ℕ × LinkInput). read ++ (f.before ++ i ∷ f.rest)) (sym is) ∙ (ap (λ (z : List (ℕ × LinkInput)). read ++ z) (sym f.all) ∙ all))) in
      let was : Contains g.read (session, x) = subst (λ (z : List (ℕ × LinkInput)). Contains z (session, x)) same (Contains-append_left (front ++ (session, x) ∷ []) f.rest (session, x) (Contains-push front (session, x))) in
      record { front = front; later = f.rest; all = same; reached = reaches g session remote n x leads was f.is.1; longer = f.before; front_is = refl; others = f.others }

  early_keeps : (session n remote : ℕ) (xs : List LinkInput) (s : State) (read rest : List (ℕ × LinkInput)) → read ++ rest ≡ g.read → Leads g session remote n → AreAmong (IsEarly session remote) xs rest → Within g n read s → I g gave None s
      → I g gave None (heard_early session n remote xs s)
  early_keeps session n remote [] s read rest all a e w k = k
  early_keeps session n remote (x ∷ xs) s read rest all a e w k =
      let h = heard_first session remote n x xs read rest all a e in
      let v : Within g n h.front s = λ y i. subst (λ (z : List (ℕ × LinkInput)). WaitStands g n z y.0 y.1) (sym h.front_is) (waits_longer g n read h.longer y.0 y.1 (w y i)) in
      let t = hearing session n remote x s in
      let j : I g gave None t = hearing_keeps session n remote x s (fits_link session n x s h.front h.later h.all h.reached v) k in
      let kept : AreAmong (IsEarly session remote) xs g.read =
      subst (AreAmong (IsEarly session remote) xs) h.all (among_behind (IsEarly session remote) xs h.later (h.front ++ (session, x) ∷ []) h.others) in
      known (is_detach x) (I g gave None) (at_place session (early_put remote xs) t) (heard_early session n remote xs t)
      (place_stand g gave None session (early_put remote xs) t (λ p i. puts_stand g session remote xs p kept i) j)
      (λ d. early_keeps session n remote xs t (h.front ++ (session, x) ∷ []) h.later h.all a h.others (hearing_within g n session h.front remote x s d h.reached v) j)

  catching_up_keeps : (session n remote : ℕ) (s : State) → Leads g session remote n → Within g n [] s → I g gave None s → I g gave None (catching_up session n remote s)
  catching_up_keeps session n remote s a w k =
      let t = at_place session (step.on_place (step.takes_early remote)) s in
      let e = place_same n session (step.on_place (step.takes_early remote)) s in
      early_keeps session n remote (early_at remote (place_of session s)) t [] g.read refl a (early_read g gave None session remote s k) (λ y i. w y (sym e ∙ i)) (steps_place g gave None (step.takes_early remote) session s k)

  -- nothing waits at a link that was made
  none_within : (n session : ℕ) (l : Called) (f : Place → Place) (s v : State) → v.endpoints ≡ (at_place session f (standing n l s)).endpoints → waits_in l.side ≡ ([], None) → Within g n [] (taken_up n v)
  none_within n session l f s v e none y i =
      let t = standing n l s in
      let made : link_of n t ≡ Some l = insert_here n n l s.endpoints (eq-eqb n n refl) in
      let links : v.endpoints ≡ t.endpoints = e ∙ place_links n session f t in
      let now : waits_at (link_of n (taken_up n v)) ≡ Some (waits_in l.side) = taken_same n v ∙ (ap (λ (es : List (ℕ × Called)). waits_at (lookup (nat_eq n) es)) links ∙ ap waits_at made) in
      let both : Some (waits_in l.side) ≡ Some y = sym now ∙ i in
      let same : waits_in l.side ≡ y = cc in
      subst (λ (z : List Incoming × Option Incomplete). WaitStands g n [] z.0 z.1) (sym none ∙ same) (none_waits g n [])

  -- a call that accepts a link was made
  abbrev pub IsAccepting : ℕ → WaitingAccept → Type 0
  IsAccepting session a = Contains g.asked (a.name, call.Accept session a.settings a.credit_mode a.auto_accept)

  on_session : (n session : ℕ) (l : Called) → IsMet g n session l → (w : List Written) → CalledStands g (w ++ under n (accept_answered l).session (output_of (accept_answered l))) n (accept_answered l)
  on_session n session l m w = subst (λ (i : ℕ). CalledStands g (w ++ under n i (output_of (accept_answered l))) n (accept_answered l)) (sym m.on_session) (m.stands w)

  on_session_told : (n session : ℕ) (l : Called) → IsMet g n session l → (w : List Written) → Stands g (w ++ under n (accept_answered l).session (output_of (accept_answered l))) n (accept_reply l)
  on_session_told n session l m w = subst (λ (i : ℕ). Stands g (w ++ under n i (output_of (accept_answered l))) n (accept_reply l)) (sym m.on_session) (m.tells w)

  accepted_keeps : (session : ℕ) (a : WaitingAccept) (handle : ℕ) (x : Attach) (s : State) → IsAccepting session a → Contains g.read (session, input.Attach x) → I g gave None s → I g gave None (attach_accepted session a handle x s)
  accepted_keeps session a handle x s asked r k =
      let n = a.name in
      let for : HasAsked g n (IsCallFor session x.name (other_role x.role)) = (call.Accept session a.settings a.credit_mode a.auto_accept, (refl, asked)) in
      let leads = leads_as session n x for r in
      let l = accepted session a.settings a.credit_mode a.auto_accept handle x in
      let m = is_met g n session a.settings a.credit_mode a.auto_accept handle x asked (is_answered g session n x for r) in
      let t = standing n (accept_answered l) s in
      let u = answering n (accept_reply l) t in
      let j : I g gave (Some n) u = makes_tells g gave n (accept_answered l) (accept_reply l) s (on_session n session l m) (on_session_told n session l m) k in
      let i : I g gave (Some n) (joining session x.handle n u) = place_stand g gave (Some n) session (joined x.handle n) u (λ p h. joins_stand g session x.handle n p leads h) j in
      let same = sym (answers_apart (place_of session t) session (joined x.handle n) n (accept_reply l) t) in
      let v = answering n (accept_reply l) (joining session x.handle n t) in
      let waits : waits_in (accept_answered l).side ≡ ([], None) = answered_waits g n l ∙ accepted_waits g n session a.settings a.credit_mode a.auto_accept handle x in
      catching_up_keeps session n x.handle (taken_up n v) leads (none_within n session (accept_answered l) (joined x.handle n) s v refl waits) (taken_keeps g gave n v (subst (I g gave (Some n)) same i))

  first_keeps_at : (o : Option Attach) (session : ℕ) (a : WaitingAccept) (handle : ℕ) (s : State) → ((x : Attach) → o ≡ Some x → Contains g.read (session, input.Attach x)) → IsAccepting session a → I g gave None s → I g gave None (first_accepted_at o session a handle s)
  first_keeps_at None session a handle s r asked k = k
  first_keeps_at (Some x) session a handle s r asked k = accepted_keeps session a handle x s asked (r x refl) k

  met_keeps_by : (c : Claim) (session : ℕ) (a : WaitingAccept) (who : Role) (s : State) → ClaimStands a.name c → IsAccepting session a → I g gave None s → I g gave None (met_by c session a who s)
  met_keeps_by (Handle handle) session a who s f asked k =
      first_keeps_at (first_attach session s) session a handle (at_place session (step.on_place step.takes_attach) s) (λ x e. first_read g gave None session x s k e) asked (steps_place g gave None step.takes_attach session s k)
  met_keeps_by (Refused e) session a who s f asked k = plain g gave None a.name _ s (λ w. accept_error_as g a.name w a.name who e refl f) k

  met_keeps_at : (o : Option Attach) (session : ℕ) (a : WaitingAccept) (s : State) → IsAccepting session a → I g gave None s → I g gave None (met_at o session a s)
  met_keeps_at None session a s asked k = k
  met_keeps_at (Some x) session a s asked k =
      let c = claimed session x.name (other_role x.role) a.name a.handle_max s in
      met_keeps_by c.answer session a (other_role x.role) c.state (claim_stands session x.name (other_role x.role) a.name a.handle_max s) asked
      (claimed_keeps session x.name (other_role x.role) a.name a.handle_max s (call.Accept session a.settings a.credit_mode a.auto_accept, (refl, asked)) k)

  met_keeps : (session : ℕ) (a : WaitingAccept) (s : State) → IsAccepting session a → I g gave None s → I g gave None (met session a s)
  met_keeps session a s asked k = met_keeps_at (first_attach session s) session a s asked k

  accepting_keeps_at : (o : Option Attach) (session : ℕ) (a : WaitingAccept) (s : State) → IsAccepting session a → I g gave None s → I g gave None (accepting_at o session a s)
  accepting_keeps_at None session a s asked k =
      plain g gave None a.name reply.Pending (at_place session (awaiting_attach a) s) (λ w. tt) (place_stand g gave None session (awaiting_attach a) s (λ p h. awaits_stand g session a p asked h) k)
  accepting_keeps_at (Some x) session a s asked k = met_keeps session a s asked k

  pub accepting_keeps : (session : ℕ) (a : WaitingAccept) (s : State) → IsAccepting session a → I g gave None s → I g gave None (accepting session a s)
  accepting_keeps session a s asked k = accepting_keeps_at (first_attach session s) session a s asked k

  meeting_keeps : (o : Option WaitingAccept) (session : ℕ) (s : State) → ((a : WaitingAccept) → o ≡ Some a → IsAccepting session a) → I g gave None s → I g gave None (meeting o session s)
  meeting_keeps None session s f k = k
  meeting_keeps (Some a) session s f k = met_keeps session a s (f a refl) k

  waiting_met_keeps : (session : ℕ) (s : State) → I g gave None s → I g gave None (waiting_met session s)
  waiting_met_keeps session s k =
      meeting_keeps (accept_of (place_of session s)) session (at_place session (step.on_place step.takes_accept) s) (λ a e. accepts_read g gave None session a s k e) (steps_place g gave None step.takes_accept session s k)

  again_if : (c : Bool) (n made : ℕ) → (if c then Some n else None) ≡ Some made → Some n ≡ Some made
  again_if true n made e = e
  again_if false n made e = absurd cc

  again_as : (o : Option Called) (n made : ℕ) → reattaching_as n o ≡ Some made → Some n ≡ Some made
  again_as None n made e = absurd cc
  again_as (Some l) n made e = again_if (is_reattaching l) n made e

  again_at : (o : Option ℕ) (made : ℕ) (s : State) → reattaching_at o s ≡ Some made → o ≡ Some made
  again_at None made s e = absurd cc
  again_at (Some n) made s e = again_as (link_of n s) n made e

  attach_for_keeps : (o : Option ℕ) (session : ℕ) (x : Attach) (s : State) → ((n : ℕ) → o ≡ Some n → HasAsked g n (IsCallFor session x.name (other_role x.role))) → Contains g.read (session, input.Attach x) → I g gave None s
      → I g gave None (attach_for o session x s)
  attach_for_keeps None session x s f r k =
      waiting_met_keeps session (at_place session (attach_pushed x) s) (place_stand g gave None session (attach_pushed x) s (λ p h. pushes_stand g session x p r h) k)
  attach_for_keeps (Some n) session x s f r k = attach_keeps session n x s (f n refl) r k

  attach_came_keeps : (c : Bool) (session : ℕ) (x : Attach) (s : State) → Contains g.read (session, input.Attach x) → I g gave None s → I g gave None (attach_came c session x s)
  attach_came_keeps true session x s r k =
      attach_for_keeps (awaiting session x s) session x s (λ n e. asked_for g gave None session n x s k (again_at (answered_at x (place_of session s)) n s e)) r k
  attach_came_keeps false session x s r k = answer_keeps (answered_at x (place_of session s)) session x s refl r k

  -- ---- the end of a session

  stopped_some : (o : Option SessionStopReason) (why : SessionStopReason) → is_some (first_reason o why) ≡ true
  stopped_some None why = refl
  stopped_some (Some first) why = refl

  is_stopped_by : (why : SessionStopReason) (a : Side) → is_stopped (side.stopped why a) ≡ true
  is_stopped_by why (Sender s) = stopped_some s.link.stop_reason why
  is_stopped_by why (Receiver s) = stopped_some s.link.stop_reason why

  some_called : (l m : Called) → Some l ≡ Some m → l ≡ m
  some_called l m e = cc

  stopped_keeps_at : (o : Option Called) (n : ℕ) (why : SessionStopReason) (s : State) → link_of n s ≡ o → I g gave None s → I g gave None (stopped_at o n why s)
  stopped_keeps_at None n why s at k = k
  stopped_keeps_at (Some l) n why s at k =
      let m = called.stopped why l in
      let t = with_link n m s in
      let there : link_of n t ≡ Some m = set_at n n s.endpoints l m at ∙ ap (λ (c : Bool). cond c (Some m) (link_of n s)) (eq-eqb n n refl) in
      tried_stopped g gave n t (λ x e. subst (λ (y : Called). is_stopped y.side ≡ true) (some_called m x (sym there ∙ e)) (is_stopped_by why l.side)) (link_stays g gave None n l m s at (stopped_stays g n why l) k)

  all_stopped_keep : (ns : List ℕ) (why : SessionStopReason) (s : State) → I g gave None s → I g gave None (all_stopped ns why s)
  all_stopped_keep [] why s k = k
  all_stopped_keep (n ∷ ns) why s k = all_stopped_keep ns why (stopped_at (link_of n s) n why s) (stopped_keeps_at (link_of n s) n why s refl k)

  concluded_keeps_at : (o : Option Called) (n : ℕ) (s : State) → link_of n s ≡ o → I g gave None s → I g gave None (concluded_at o n s)
  concluded_keeps_at None n s at k = k
  concluded_keeps_at (Some l) n s at k = attach_told_keeps g gave n _ (told_stand g gave n l (hears.concluded l) s at (concluded_stays g n l) k)

  all_concluded_keep : (ns : List ℕ) (s : State) → I g gave None s → I g gave None (all_concluded ns s)
  all_concluded_keep [] s k = k
  all_concluded_keep (n ∷ ns) s k = all_concluded_keep ns (concluded_at (link_of n s) n s) (concluded_keeps_at (link_of n s) n s refl k)

  -- ---- Dispositions

  pub forgetting_keeps : (o : Option ℕ) (c : Bool) (teller : Role) (session number : ℕ) (s : State) → I g gave o s → I g gave o (forgetting c teller session number s)
  forgetting_keeps o true teller session number s k = steps_place g gave o (step.forgets teller number) session s k
  forgetting_keeps o false teller session number s k = k

  link_settled_keeps : (o : Option Called) (n session number : ℕ) (x : Delivered) (d : Disposition) (s : State) → link_of x.link s ≡ o → Ruled g d.state → I g gave None s → I g gave (Some x.link) (link_settled o x.link (covered_by number x).1 d s)
  link_settled_keeps None n session number x d s at r k = opens g gave x.link s k
  link_settled_keeps (Some l) n session number x d s at r k =
      link_goes g gave x.link l (disposition_heard (covered_by number x).1 d.settled d.state l) s at (disposition_goes g x.link (covered_by number x).1 d.settled d.state l r) (opens g gave x.link s k)

  settled_keeps_by : (o : Option Delivered) (session number : ℕ) (d : Disposition) (s : State) → Ruled g d.state → I g gave None s → I g gave None (settled_by o session number d s)
  settled_keeps_by None session number d s r k = k
  settled_keeps_by (Some x) session number d s r k =
      let y = (covered_by number x).1 in
      let a = link_settled (link_of x.link s) x.link y d s in
      let c = forgets (link_of x.link s) y d in
      taken_keeps g gave x.link (forgetting c d.role session number a) (forgetting_keeps (Some x.link) c d.role session number a (link_settled_keeps (link_of x.link s) x.link session number x d s refl r k))

  all_settled_keep : (ns : List ℕ) (session : ℕ) (d : Disposition) (s : State) → Ruled g d.state → I g gave None s → I g gave None (all_settled ns session d s)
  all_settled_keep [] session d s r k = k
  all_settled_keep (n ∷ ns) session d s r k = all_settled_keep ns session d (settled session n d s) r (settled_keeps_by (delivery_at d.role n (place_of session s)) session n d s r k)

  -- ---- what is heard

  word_keeps : (session : ℕ) (x : LinkInput) (s : State) → Contains g.read (session, x) → I g gave None s → I g gave None (word_read session x s)
  word_keeps session (input.Attach x) s r k = attach_came_keeps s.accepts session x s r k
  word_keeps session (input.Disposition x) s r k = all_settled_keep (covered_at x (place_of session s)) session x s (λ y e. record { session = session; disposition = x; says = e; read = r }) k
  word_keeps session (input.Left x) s r k = steps_place g gave None (step.leaves x) session s k
  word_keeps session (input.Stopped why) s r k =
      let t = all_stopped (links_at (place_of session s)) why s in
      steps_place g gave None (step.stops why) session t (all_stopped_keep (links_at (place_of session s)) why s k)
  word_keeps session input.Over s r k = all_concluded_keep (links_at (place_of session s)) s k
  word_keeps session (input.Flow x) s r k = k
  word_keeps session (input.Transfer x payload) s r k = k
  word_keeps session (input.Detach x) s r k = k

  read_keeps_at : (o : Option ℕ) (session : ℕ) (x : LinkInput) (s : State) (read : List (ℕ × LinkInput)) → handle_of x ≡ o → read ++ (session, x) ∷ [] ≡ g.read → WasBefore g read s → I g gave None s → I g gave None (read_at o session x s)
  read_keeps_at None session x s read e all b k = word_keeps session x s (subst (λ (z : List (ℕ × LinkInput)). Contains z (session, x)) all (Contains-push read (session, x))) k
  read_keeps_at (Some remote) session x s read e all b k = frame_keeps_at (link_from_at remote (place_of session s)) session remote x s read refl all e b k

  entered_before : (q : Option Place) (session : ℕ) (s : State) (read : List (ℕ × LinkInput)) → WasBefore g read s → WasBefore g read (entered_at q session s)
  entered_before None session s read b = record {
    waits = b.waits;
    early = insert_each (λ (i : ℕ) (p : Place). All (λ (e : ℕ × List LinkInput). AreAmong (IsEarly i e.0) e.1 read) p.early) session s.sessions none_attached (All-nil (λ (e : ℕ × List LinkInput). AreAmong (IsEarly session e.0) e.1 read)) b.early;
  }
  entered_before (Some p) session s read b = b

  -- it was read behind all that stands
  pub input_keeps : (session : ℕ) (x : LinkInput) (s : State) (read : List (ℕ × LinkInput)) → read ++ (session, x) ∷ [] ≡ g.read → WasBefore g read s → I g gave None s → I g gave None (input_read session x s)
  input_keeps session x s read all b k = read_keeps_at (handle_of x) session x (entered session s) read refl all (entered_before (place_of session s) session s read b) (entered_stand g gave None session s k)
