-- What is kept by each step is kept by all that the links of an end do.
use Rattle.std.specs.Prelude.{◌≡◌, ℕ, nat_eq, Bool, true, false, List, [], ◌∷◌, ◌++◌, map, Option, Some, None, if◌then◌else◌, refl}
use Rattle.std.proofs.Common.{sym, ◌∙◌, ap, subst}
use Rattle.std.specs.Map.{lookup}
use Rattle.amqp_composites.specs.declared.modes.Role.{Role}
use Rattle.amqp_composites.specs.declared.modes.Role.TheVariants as role
use Rattle.amqp_frames.specs.declared.shared.SessionStopReason.{SessionStopReason}
use Rattle.amqp_link_calls.specs.Answering as known
use Rattle.amqp_link_calls.specs.Called.{Called, sender_asked}
use Rattle.amqp_link_calls.specs.Called as called
use Rattle.amqp_link_calls.specs.Calling.{sends, token_of, having_sent, outcome_asked}
use Rattle.amqp_link_calls.specs.Side.{role_of}
use Rattle.amqp_link_tables.specs.declared.deliveries.Delivered.{Delivered}
use Rattle.amqp_link_words.specs.declared.link_call.LinkCall.{LinkCall}
use Rattle.amqp_link_words.specs.declared.link_call.LinkCall.TheVariants as call
use Rattle.amqp_link_words.specs.declared.link_call.Sendable.{Sendable}
use Rattle.amqp_link_words.specs.declared.link_reply.LinkReply.{LinkReply}
use Rattle.amqp_link_words.specs.declared.link_reply.LinkReply.TheVariants as reply
use Rattle.amqp_performatives.specs.declared.attach.Attach.{Attach}
use Rattle.amqp_performatives.specs.declared.disposition.Disposition.{Disposition}
use Rattle.amqp_sender.specs.declared.sender.DeliveryToken.{DeliveryToken}
use Rattle.amqp_sender.specs.declared.settings.SenderSettings.{SenderSettings}
use Rattle.amqp_session.specs.declared.session.LinkInput.{LinkInput}
use Rattle.amqp_session.specs.declared.session.LinkInput.TheVariants as input
use Rattle.amqp_session_links.specs.declared.place.Claim.{Claim}
use Rattle.amqp_session_links.specs.declared.place.Claim.TheVariants.{Handle, Refused}
use Rattle.amqp_session_links.specs.declared.place.WaitingAccept.{WaitingAccept}
use Rattle.amqp_session_links.specs.State.{State as Place, attach_ended, awaiting_answer}
use Rattle.amqp_links.specs.declared.links.SentDelivery.{SentDelivery}
use Rattle.amqp_links.specs.declared.timed.TimedCall.{TimedCall}
use Rattle.amqp_links.specs.Accepting.{accept_of, meeting, awaiting as reattaching_on, attach_for, attach_came}
use Rattle.amqp_links.specs.Attaching.{claimed_at, claimed, standing, begun, sender_by, attaching_sender, joining}
use Rattle.amqp_links.specs.Calling as calling
use Rattle.amqp_links.specs.Calling.{Calls, sending_at, outcome_for}
use Rattle.amqp_links.specs.Hearing.{is_detach, parting, hearing_at, hearing, link_from_at, frame_at, attach_heard_at, attach_heard, answered_at, answer_read_at}
use Rattle.amqp_links.specs.Inputs.{handle_of, word_read, read_at, input_read}
use Rattle.amqp_links.specs.Numbering.{begun_by, begun_as, numbering}
use Rattle.amqp_links.specs.Parts.{Frame, output_of, emptied, name_of, is_over}
use Rattle.amqp_links.specs.Parts as parts_of
use Rattle.amqp_links.specs.Settling.{forgetting, link_settled, forgets, delivery_at, covered_by, settled_by, settled, all_settled, covered_at}
use Rattle.amqp_links.specs.State.{State, place_of, link_of, with_link, stepped, at_place, entered, answering}
use Rattle.amqp_links.specs.Stops.{links_at, stopped_at, all_stopped, concluded_at, all_concluded}
use Rattle.amqp_links.specs.Taking.{written_at, written, told_at, told, told_on, spent_by_at, attach_told_on, attach_told, freed_at, freed, placed, reattached_at, taken_up, finished}
use Rattle.amqp_links.specs.Timing.{send_kept, message_for, trying, tried_again, all_looked, looked}
use Rattle.session_laws.proofs.Lists.{Each}
use Rattle.link_lives.specs.Deeds.{Deed, Asks, Hears, Hands, Knows, Looks, Tells, IsDeed}
use Rattle.connect_laws.specs.Ruling.{IsSending}
use Rattle.connect_laws.proofs.Ranges.{IsIn, all_in}
use Rattle.connect_laws.proofs.Steps.{Closed}
use Rattle.connect_laws.proofs.Steps as step

pub either : {X : Type 0} (J : X → Type 0) (b : Bool) (x y : X) → J x → J y → J (if b then x else y)
either J true x y p q = p
either J false x y p q = q

module _ (Q : ℕ → Type 0) (Heard : ℕ → LinkInput → Type 0) (J : State → Type 0) (c : Closed Q Heard J) where
  -- ---- what has become of a link

  written_keeps_at : (o : Option Called) (n : ℕ) (s : State) → link_of n s ≡ o → J s → J (written_at o n s)
  written_keeps_at None n s at k = k
  written_keeps_at (Some l) n s at k = c.output (s.output ++ map (Frame l.session) (output_of l)) (with_link n (emptied l) s) (c.link step.empties n l s at k)

  told_keeps_at : (o : Option Called) (n : ℕ) (s : State) → link_of n s ≡ o → J s → J (told_at o n s)
  told_keeps_at None n s at k = k
  told_keeps_at (Some l) n s at k = c.tells n l s at k

  spent_keeps_at : (o : Option Called) (session : ℕ) (s : State) → J s → J (spent_by_at o session s)
  spent_keeps_at None session s k = k
  spent_keeps_at (Some l) session s k = either J l.is_made s _ k (c.place (step.spends (name_of l)) session s k)

  attach_told_keeps_on : (o : Option ℕ) (n : ℕ) (s : State) → J s → J (attach_told_on o n s)
  attach_told_keeps_on None n s k = k
  attach_told_keeps_on (Some session) n s k =
      let t = at_place session attach_ended s in spent_keeps_at (link_of n t) session t (c.place step.ends_attach session s k)

  attach_told_keeps : (n : ℕ) (s : State) → J s → J (attach_told n s)
  attach_told_keeps n s k = attach_told_keeps_on (told_on n s) n s k

  freed_keeps_at : (o : Option Called) (n : ℕ) (s : State) → J s → J (freed_at o n s)
  freed_keeps_at None n s k = k
  freed_keeps_at (Some l) n s k = either J (is_over l) _ s (c.place (step.releases (parts_of.handle_of l) n) l.session s k) k

  reattached_keeps_at : (o : Option Called) (n : ℕ) (s : State) → link_of n s ≡ o → J s → J (reattached_at o n s)
  reattached_keeps_at None n s at k = k
  reattached_keeps_at (Some l) n s at k = subst (λ (b : Bool). J (if b then placed l.session (name_of l) (role_of l.side) n s else s)) (sym (c.stays n l s at k)) k

  pub taken_keeps : (n : ℕ) (s : State) → J s → J (taken_up n s)
  taken_keeps n s k =
      let a = written n s in
      let b = told n a in
      let d = attach_told n b in
      let e = freed n d in
      reattached_keeps_at (link_of n e) n e refl (freed_keeps_at (link_of n d) n d (attach_told_keeps n b (told_keeps_at (link_of n a) n a refl (written_keeps_at (link_of n s) n s refl k))))

  finished_keeps : (name n : ℕ) (x : LinkReply) (s : State) → Q name → J s → J (finished name n x s)
  finished_keeps name n x s q k = taken_keeps n (answering name x s) (c.answers name x s q k)

  -- ---- no call has a time

  tried_again_keeps : (always : Bool) (n : ℕ) (s : State) → J s → J (tried_again always n s)
  tried_again_keeps always n s k =
      subst (λ (es : List (ℕ × TimedCall)). J (trying (message_for always (lookup (nat_eq n) es) s.moment) n s)) (sym (c.untimed s k)) k

  pub looked_keeps : (s : State) → J s → J (looked s)
  looked_keeps s k = subst (λ (es : List (ℕ × TimedCall)). J (all_looked es (record s { timed = [] }))) (sym (c.untimed s k)) (c.none_timed s k)

  -- ---- calls

  sending_keeps : (o : Option Called) (name n : ℕ) (x : Sendable) (s : State) → link_of n s ≡ o → Q name → J s → J (sending_at o name n x s)
  sending_keeps None name n x s at q k = k
  sending_keeps (Some l) name n x s at q k = finished_keeps name n (sends x l.side).reply (send_kept name n (token_of x l.side) (with_link n (having_sent x l) s)) q (c.sends name n x l s q at k)

  outcome_keeps_at : (o : Option Called) (name n : ℕ) (token : DeliveryToken) (s : State) → link_of n s ≡ o → Q name → J s → J (calling.outcome_at o name n token s)
  outcome_keeps_at None name n token s at q k = k
  outcome_keeps_at (Some l) name n token s at q k = finished_keeps name n (known.outcome_now token.place l) (with_link n (outcome_asked name token.place l) s) q (c.asks name token.place n l s q at k)

  outcome_keeps : (o : Option SentDelivery) (name : ℕ) (s : State) → Q name → J s → J (outcome_for o name s)
  outcome_keeps None name s q k = k
  outcome_keeps (Some x) name s q k = outcome_keeps_at (link_of x.link s) name x.link x.token s refl q k

  forgetting_keeps : (b : Bool) (teller : Role) (session number : ℕ) (s : State) → J s → J (forgetting b teller session number s)
  forgetting_keeps true teller session number s k = c.place (step.forgets teller number) session s k
  forgetting_keeps false teller session number s k = k

  -- ---- attaching

  claimed_is : (o : Option Place) (session : ℕ) (name : List ℕ) (role : Role) (n : ℕ) (max : Option ℕ) (s : State) → place_of session s ≡ o
      → (claimed_at o session name role n max s).state ≡ at_place session (step.on_place (step.claims name role n max)) s
  claimed_is o session name role n max s at =
      by o ∙ ap (λ (p : Option Place). stepped p session (step.on_place (step.claims name role n max)) s) (sym at)
    where
      by : (p : Option Place) → (claimed_at p session name role n max s).state ≡ stepped p session (step.on_place (step.claims name role n max)) s
      by None = refl
      by (Some p) = refl

  claimed_keeps : (session : ℕ) (name : List ℕ) (role : Role) (n : ℕ) (max : Option ℕ) (s : State) → J s → J (claimed session name role n max s).state
  claimed_keeps session name role n max s k =
      subst J (sym (claimed_is (place_of session s) session name role n max s refl)) (c.place (step.claims name role n max) session s k)

  begun_keeps : (name session : ℕ) (x : SenderSettings) (handle : ℕ) (s : State) → Q name → J s → J (begun name session (sender_asked name session x handle) s)
  begun_keeps name session x handle s q k =
      let a = standing name (sender_asked name session x handle) s in
      let b = at_place session (awaiting_answer name) a in
      taken_keeps name (answering name reply.Pending b) (c.plain name reply.Pending b tt (c.place (step.awaits_answer name) session a (c.stands name session x handle s q k)))

  sender_keeps_by : (x : Claim) (name session : ℕ) (y : SenderSettings) (s : State) → Q name → J s → J (sender_by x name session y s)
  sender_keeps_by (Handle handle) name session y s q k = begun_keeps name session y handle s q k
  sender_keeps_by (Refused error) name session y s q k = c.plain name (reply.SenderAttachError error) s tt k

  attaching_sender_keeps : (name session : ℕ) (x : SenderSettings) (max : Option ℕ) (s : State) → Q name → J s → J (attaching_sender name session x max s)
  attaching_sender_keeps name session x max s q k =
      let y = claimed session x.name role.Sender name max s in sender_keeps_by y.answer name session x y.state q (claimed_keeps session x.name role.Sender name max s k)

  -- ---- frames on the handle of the peer

  parting_keeps : (b : Bool) (session remote : ℕ) (s : State) → J s → J (parting b session remote s)
  parting_keeps true session remote s k = c.place (step.parts remote) session s k
  parting_keeps false session remote s k = k

  numbering_keeps : (session n : ℕ) (x : LinkInput) (s : State) → J s → J (numbering session n x s)
  numbering_keeps session n (input.Transfer x payload) s k = subst (λ (b : Bool). J (if b then begun_as (begun_by n x) session s else s)) (sym (c.sender n s k)) k
  numbering_keeps session n other s k = k

  hearing_keeps_at : (o : Option Called) (n : ℕ) (x : LinkInput) (s : State) → link_of n s ≡ o → J s → J (hearing_at o n x s)
  hearing_keeps_at None n x s at k = k
  hearing_keeps_at (Some l) n x s at k = c.link (step.hears_frame x) n l s at k

  hearing_keeps : (session n remote : ℕ) (x : LinkInput) (s : State) → J s → J (hearing session n remote x s)
  hearing_keeps session n remote x s k =
      let a = parting (is_detach x) session remote s in
      let b = numbering session n x a in
      let d = hearing_at (link_of n b) n x b in
      taken_keeps n (tried_again (is_detach x) n d) (tried_again_keeps (is_detach x) n d (hearing_keeps_at (link_of n b) n x b refl (numbering_keeps session n x a (parting_keeps (is_detach x) session remote s k))))

  frame_keeps_at : (o : Option ℕ) (session remote : ℕ) (x : LinkInput) (s : State) → J s → J (frame_at o session remote x s)
  frame_keeps_at None session remote x s k = c.place (step.keeps remote x) session s k
  frame_keeps_at (Some n) session remote x s k = hearing_keeps session n remote x s k

  -- ---- Attaches

  attach_keeps_at : (o : Option Called) (n : ℕ) (x : Attach) (s : State) → link_of n s ≡ o → J s → J (attach_heard_at o n x s)
  attach_keeps_at None n x s at k = k
  attach_keeps_at (Some l) n x s at k = c.link (step.hears_attach x) n l s at k

  attach_keeps : (session n : ℕ) (x : Attach) (s : State) → J s → J (attach_heard session n x s)
  attach_keeps session n x s k =
      let a = joining session x.handle n s in
      taken_keeps n (attach_heard_at (link_of n a) n x a) (attach_keeps_at (link_of n a) n x a refl (c.place (step.joins x.handle n) session s k))

  answer_keeps : (o : Option ℕ) (session : ℕ) (x : Attach) (s : State) → J s → J (answer_read_at o session x s)
  answer_keeps None session x s k = c.output _ s k
  answer_keeps (Some n) session x s k = attach_keeps session n x s k

  meeting_keeps : (o : Option WaitingAccept) (session : ℕ) (s : State) → o ≡ None → J s → J (meeting o session s)
  meeting_keeps None session s e k = k
  meeting_keeps (Some accept) session s e k = absurd cc

  attach_for_keeps : (o : Option ℕ) (session : ℕ) (x : Attach) (s : State) → J s → J (attach_for o session x s)
  attach_for_keeps None session x s k =
      let t = at_place session (step.on_place (step.pushes_attach x)) s in
      let j = c.place (step.pushes_attach x) session s k in
      meeting_keeps (accept_of (place_of session t)) session (at_place session (step.on_place step.takes_accept) t) (c.accepts_none session t j) (c.place step.takes_accept session t j)
  attach_for_keeps (Some n) session x s k = attach_keeps session n x s k

  attach_came_keeps : (b : Bool) (session : ℕ) (x : Attach) (s : State) → J s → J (attach_came b session x s)
  attach_came_keeps true session x s k = attach_for_keeps (reattaching_on session x s) session x s k
  attach_came_keeps false session x s k = answer_keeps (answered_at x (place_of session s)) session x s k

  -- ---- the end of a session

  stopped_keeps_at : (o : Option Called) (n : ℕ) (why : SessionStopReason) (s : State) → link_of n s ≡ o → J s → J (stopped_at o n why s)
  stopped_keeps_at None n why s at k = k
  stopped_keeps_at (Some l) n why s at k = tried_again_keeps true n (with_link n (called.stopped why l) s) (c.link (step.hears_stop why) n l s at k)

  all_stopped_keep : (ns : List ℕ) (why : SessionStopReason) (s : State) → J s → J (all_stopped ns why s)
  all_stopped_keep [] why s k = k
  all_stopped_keep (n ∷ ns) why s k = all_stopped_keep ns why (stopped_at (link_of n s) n why s) (stopped_keeps_at (link_of n s) n why s refl k)

  concluded_keeps_at : (o : Option Called) (n : ℕ) (s : State) → link_of n s ≡ o → J s → J (concluded_at o n s)
  concluded_keeps_at None n s at k = k
  concluded_keeps_at (Some l) n s at k = attach_told_keeps n _ (c.concludes n l s at k)

  all_concluded_keep : (ns : List ℕ) (s : State) → J s → J (all_concluded ns s)
  all_concluded_keep [] s k = k
  all_concluded_keep (n ∷ ns) s k = all_concluded_keep ns (concluded_at (link_of n s) n s) (concluded_keeps_at (link_of n s) n s refl k)

  -- ---- Dispositions

  settled_keeps_at : (o : Option Called) (session number : ℕ) (x : Delivered) (d : Disposition) (s : State) → link_of x.link s ≡ o → delivery_at d.role number (place_of session s) ≡ Some x
      → Heard session (input.Disposition d) → IsIn d number → J s → J (link_settled o x.link (covered_by number x).1 d s)
  settled_keeps_at None session number x d s at is h w k = k
  settled_keeps_at (Some l) session number x d s at is h w k = c.settle session number d x l s h w is at k

  settled_keeps_by : (o : Option Delivered) (session number : ℕ) (d : Disposition) (s : State) → delivery_at d.role number (place_of session s) ≡ o → Heard session (input.Disposition d) → IsIn d number → J s → J (settled_by o session number d s)
  settled_keeps_by None session number d s is h w k = k
  settled_keeps_by (Some x) session number d s is h w k =
      let y = (covered_by number x).1 in
      let a = link_settled (link_of x.link s) x.link y d s in
      let b = forgets (link_of x.link s) y d in
      taken_keeps x.link (forgetting b d.role session number a) (forgetting_keeps b d.role session number a (settled_keeps_at (link_of x.link s) session number x d s refl is h w k))

  all_settled_keep : (ns : List ℕ) (session : ℕ) (d : Disposition) (s : State) → Heard session (input.Disposition d) → Each (IsIn d) ns → J s → J (all_settled ns session d s)
  all_settled_keep [] session d s h w k = k
  all_settled_keep (n ∷ ns) session d s h w k =
      all_settled_keep ns session d (settled session n d s) h w.1 (settled_keeps_by (delivery_at d.role n (place_of session s)) session n d s refl h w.0 k)

  -- ---- what is heard

  word_keeps : (session : ℕ) (x : LinkInput) (s : State) → Heard session x → J s → J (word_read session x s)
  word_keeps session (input.Attach x) s h k = attach_came_keeps s.accepts session x s k
  word_keeps session (input.Disposition x) s h k = all_settled_keep (covered_at x (place_of session s)) session x s h (all_in x (place_of session s)) k
  word_keeps session (input.Left x) s h k = c.enters x session s h k
  word_keeps session (input.Stopped why) s h k =
      let t = all_stopped (links_at (place_of session s)) why s in c.place (step.stops why) session t (all_stopped_keep (links_at (place_of session s)) why s k)
  word_keeps session input.Over s h k = all_concluded_keep (links_at (place_of session s)) s k
  word_keeps session (input.Flow x) s h k = k
  word_keeps session (input.Transfer x payload) s h k = k
  word_keeps session (input.Detach x) s h k = k

  read_keeps_at : (o : Option ℕ) (session : ℕ) (x : LinkInput) (s : State) → Heard session x → J s → J (read_at o session x s)
  read_keeps_at None session x s h k = word_keeps session x s h k
  read_keeps_at (Some remote) session x s h k = frame_keeps_at (link_from_at remote (place_of session s)) session remote x s k

  pub input_keeps : (session : ℕ) (x : LinkInput) (s : State) → Heard session x → J s → J (input_read session x s)
  input_keeps session x s h k = read_keeps_at (handle_of x) session x (entered session s) h (c.knows session s k)

  -- ---- all calls

  is_so : (t new : State) → new ≡ t → J t → J new
  is_so t new e k = subst J (sym e) k

  pub call_keeps : (name : ℕ) (x : LinkCall) (max : Option ℕ) (old new : State) → Calls name x max old new → IsSending x → Q name → J old → J new
  call_keeps name (call.Sender session settings) max old new h m q k = is_so _ new h (attaching_sender_keeps name session settings max (entered session old) q (c.knows session old k))
  call_keeps name (call.Send n message) max old new h m q k = is_so _ new h (sending_keeps (link_of n old) name n message old refl q k)
  call_keeps name (call.Outcome send) max old new h m q k = is_so _ new h (outcome_keeps (lookup (nat_eq send) old.sends) name old q k)
  call_keeps name other max old new h m q k = absurd m

  -- ---- a deed

  -- a call has a name of these, and what is heard is of those
  abbrev pub May : Deed → Type 0
  May (Asks name x max) = IsSending x × Q name
  May (Hears session x) = Heard session x
  May d = Unit {0}

  pub deed_keeps : (d : Deed) (old new : State) → IsDeed old d new → May d → J old → J new
  deed_keeps (Asks name x max) old new h q k = call_keeps name x max old new h q.0 q.1 k
  deed_keeps (Hears session x) old new h q k = is_so _ new h (input_keeps session x old q k)
  deed_keeps (Hands x) old new h q k = is_so _ new h.1 (c.output new.output old k)
  deed_keeps (Knows at) old new h q k = is_so _ new h (c.moment at old k)
  deed_keeps Looks old new h q k = is_so _ new h (looked_keeps old k)
  deed_keeps Tells old new h q k = is_so _ new h (c.quiet old k)
