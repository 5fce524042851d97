-- What a link with the calls that wait at it stands for, as a frame is read and as a call is made.
use Rattle.std.specs.Prelude.{◌≡◌, ◌||◌, ℕ, nat_eq, Bool, true, false, not, ◌&&◌, Contains, List, [], ◌∷◌, ◌++◌, map, Option, Some, None, Result, Ok, Err, if◌then◌else◌, refl}
use Rattle.std.proofs.Common.{sym, ◌∙◌, ap, subst, append_assoc}
use Rattle.std.proofs.lemmas.List.{append-nil}
use Rattle.std.proofs.lemmas.List.Elements.{All-nil, All-append, All-map, All-weaker}
use Rattle.std.specs.Map.{lookup}
use Rattle.amqp_composites.specs.declared.modes.Role.{Role}
use Rattle.amqp_frames.specs.declared.body.FrameBody.{FrameBody}
use Rattle.amqp_frames.specs.declared.shared.CoveredDelivery.{CoveredDelivery}
use Rattle.amqp_frames.specs.declared.shared.SessionStopReason.{SessionStopReason}
use Rattle.amqp_link.specs.declared.endpoint.AttachPoll.{AttachPoll}
use Rattle.amqp_link.specs.declared.endpoint.AttachPoll.TheVariants.{Pending, Done}
use Rattle.amqp_link.specs.declared.endpoint.DetachPoll.{DetachPoll}
use Rattle.amqp_link.specs.declared.endpoint.DetachPoll.TheVariants as left
use Rattle.amqp_link.specs.declared.error.AttachError.{AttachError}
use Rattle.amqp_link.specs.declared.error.DetachError.{DetachError}
use Rattle.amqp_link.specs.declared.error.LinkStateError.{LinkStateError}
use Rattle.amqp_link.specs.Link as link
use Rattle.amqp_link.specs.Link.{Link}
use Rattle.amqp_link.specs.Parting as parts
use Rattle.amqp_link_calls.specs.declared.leave.Leaving.{Leaving}
use Rattle.amqp_link_calls.specs.declared.leave.PartKind.{PartKind}
use Rattle.amqp_link_calls.specs.declared.leave.PartKind.TheVariants as kind
use Rattle.amqp_link_calls.specs.declared.leave.WaitingPart.{WaitingPart}
use Rattle.amqp_link_calls.specs.Answering.{attach_told, attach_polled, attach_answered_to, attach_answered, attach_answered_now, outcome_at, outcome_answered_to, outcome_answered, told_by, outcomes_answered, outcomes_answered_now}
use Rattle.amqp_link_calls.specs.Called.{Called, with_side, answering, stopped}
use Rattle.amqp_link_calls.specs.Hearing as hearing
use Rattle.amqp_link_calls.specs.Leaving.{left_by, part_reply, news_reply, known, closed_by, told_part, part_answered_to, part_answered, part_answered_now, is_parting, wants_handle, handle_given, handle_refused}
use Rattle.amqp_link_calls.specs.Replies.{outcome_reply, is_pending}
use Rattle.amqp_link_calls.specs.Side as side
use Rattle.amqp_link_calls.specs.Side.{Side, Sender, Receiver, link_of, role_of, is_stopped, is_closed_by_both, polled_answer}
use Rattle.amqp_link_words.specs.declared.link_call.LinkCall.TheVariants as call
use Rattle.amqp_link_words.specs.declared.link_call.Parting.{Parting}
use Rattle.amqp_link_words.specs.declared.link_reply.LinkReply.{LinkReply}
use Rattle.amqp_link_words.specs.declared.link_reply.LinkReply.TheVariants as reply
use Rattle.amqp_link_words.specs.declared.link_reply.NamedLinkReply.{NamedLinkReply}
use Rattle.amqp_links.specs.Parts.{output_of, is_heard, heard, disposition_heard}
use Rattle.amqp_performatives.specs.declared.attach.Attach.{Attach}
use Rattle.amqp_performatives.specs.declared.detach.Detach.{Detach}
use Rattle.amqp_sender.specs.declared.sender.Settlement.{Settlement}
use Rattle.amqp_sender.specs.declared.sender.Settlement.TheVariants.{Unsettled, Settled, NonTerminal, Illegal}
use Rattle.amqp_sender.specs.Sender.{State as SenderState}
use Rattle.amqp_sender.specs.Settling as settling
use Rattle.amqp_receiver.specs.Receiving as receiving
use Rattle.amqp_session.specs.declared.session.LinkInput.{LinkInput}
use Rattle.amqp_session.specs.declared.session.LinkInput.TheVariants as input
use Rattle.amqp_termini.specs.declared.outcome.Outcome.{Outcome}
use Rattle.amqp_termini.specs.declared.state.DeliveryState.{DeliveryState}
use Rattle.link_answers.specs.Standing.{Given, Written, HasAttached, IsAnswered, IsDetached, IsCallFor, IsOn, IsDetaching, IsClosing, OutcomeStands, Stands}
use Rattle.link_answers.specs.Keeping.{LinkStands, HasAsked, IsOfKind, OutcomesStand, WaitStands, CalledStands}
use Rattle.link_answers.proofs.Answers.{attached_wider, answers_wider, one_more, PollStands, poll_stands, made_as, attach_error_as, parted_stands, news_stand, RefusalStands, settlement_stands, NewsStands}
use Rattle.link_answers.proofs.Answers as answers
use Rattle.link_answers.proofs.Entries.{all_found, all_gone}
use Rattle.link_answers.proofs.Links.{under, under_both, Wider, wider_more, link_wider, Quiet, polled_quiet, stopped_quiet, unplaced_quiet, gone_quiet}
use Rattle.link_answers.proofs.Sides.{waits_in, Ruled, outcomes_wider, Changes, attach_changes, flow_changes, transfer_changes, detach_changes, sender_disposition, receiver_disposition, reattached_changes}

-- a link of that name goes on, and puts out nothing
pub record Stays (g : Given) (n : ℕ) (l m : Called) : Type 0 where
  pub session : m.session ≡ l.session
  pub output : output_of m ≡ output_of l
  pub stands : (w : List Written) → CalledStands g w n l → CalledStands g w n m

-- it goes on, and puts out these
pub record Goes (g : Given) (n : ℕ) (l m : Called) : Type 0 where
  pub session : m.session ≡ l.session
  pub more : List FrameBody
  pub output : output_of m ≡ output_of l ++ more
  pub stands : (w : List Written) → CalledStands g w n l → CalledStands g (w ++ under n l.session more) n m

module _ (g : Given) (n : ℕ) where
  pub called_wider : (w v : List Written) (l : Called) → Wider w v → CalledStands g w n l → CalledStands g v n l
  called_wider w v l f k = record {
    asked = k.asked;
    outcomes = outcomes_wider g n w v l.side f k.outcomes;
    own = attached_wider g w v n (role_of l.side) f k.own;
    link = link_wider g n w v (link_of l.side) f k.link;
    attaching = k.attaching;
    waiting = k.waiting;
    parting = k.parting;
    answers = answers_wider g w v l.answers f k.answers;
  }

  -- ---- one behind the other

  pub stays_same : (l : Called) → Stays g n l l
  stays_same l = record { session = refl; output = refl; stands = λ w k. k }

  stays_then : (l m k : Called) → Stays g n l m → Stays g n m k → Stays g n l k
  stays_then l m k a c = record { session = c.session ∙ a.session; output = c.output ∙ a.output; stands = λ w h. c.stands w (a.stands w h) }

  stays_either : (b : Bool) (l m k : Called) → Stays g n l m → Stays g n l k → Stays g n l (if b then m else k)
  stays_either true l m k p q = p
  stays_either false l m k p q = q

  -- session and side are the same
  stays_as : (l m : Called) → m.session ≡ l.session → m.side ≡ l.side → ((w : List Written) → CalledStands g w n l → CalledStands g w n m) → Stays g n l m
  stays_as l m s e f = record { session = s; output = ap (λ (a : Side). (link_of a).output) e; stands = f }

  pub goes_stays : (l m : Called) → Stays g n l m → Goes g n l m
  goes_stays l m a = record { session = a.session; more = []; output = a.output ∙ sym (append-nil (output_of l)); stands = λ w k. called_wider w (w ++ []) m (wider_more w []) (a.stands w k) }

  pub goes_then : (l m k : Called) → Goes g n l m → Goes g n m k → Goes g n l k
  goes_then l m k a c = record {
    session = c.session ∙ a.session;
    more = a.more ++ c.more;
    output = c.output ∙ (ap (λ (xs : List FrameBody). xs ++ c.more) a.output ∙ append_assoc (output_of l) a.more c.more);
    stands = λ w h.
        subst (λ (v : List Written). CalledStands g v n k) (under_both n l.session w a.more c.more)
        (subst (λ (i : ℕ). CalledStands g ((w ++ under n l.session a.more) ++ under n i c.more) n k) a.session (c.stands (w ++ under n l.session a.more) (a.stands w h)));
  }

  pub goes_either : (b : Bool) (l m k : Called) → Goes g n l m → Goes g n l k → Goes g n l (if b then m else k)
  goes_either true l m k p q = p
  goes_either false l m k p q = q

  -- ---- its side goes on

  pub sided : (l : Called) (t : Side) (w v : List Written) → Wider w v → (link_of t).own.name ≡ (link_of l.side).own.name → role_of t ≡ role_of l.side → LinkStands g v n (link_of t) → OutcomesStand g v n t → CalledStands g w n l → CalledStands g v n (with_side t l)
  sided l t w v f e r h x k = record {
    outcomes = x;
    asked = subst (λ (x : Role). HasAsked g n (IsCallFor l.session (link_of t).own.name x)) (sym r) (subst (λ (x : List ℕ). HasAsked g n (IsCallFor l.session x (role_of l.side))) (sym e) k.asked);
    own = subst (λ (x : Role). HasAttached g v n x) (sym r) (attached_wider g w v n (role_of l.side) f k.own);
    link = h;
    attaching = k.attaching;
    waiting = k.waiting;
    parting = k.parting;
    answers = answers_wider g w v l.answers f k.answers;
  }

  link_there : (a : Side) (m : Link) → link_of (side.with_link m a) ≡ m
  link_there (Sender s) m = refl
  link_there (Receiver s) m = refl

  role_there : (a : Side) (m : Link) → role_of (side.with_link m a) ≡ role_of a
  role_there (Sender s) m = refl
  role_there (Receiver s) m = refl

  outcomes_there : (w : List Written) (a : Side) (m : Link) → OutcomesStand g w n a → OutcomesStand g w n (side.with_link m a)
  outcomes_there w (Sender s) m k = k
  outcomes_there w (Receiver s) m k = k

  pub side_stays : (l : Called) (m : Link) → Quiet g n (link_of l.side) m → Stays g n l (with_side (side.with_link m l.side) l)
  side_stays l m q = record {
    session = refl;
    output = ap (λ (x : Link). x.output) (link_there l.side m) ∙ q.output;
    stands = λ w k. sided l (side.with_link m l.side) w w (λ x h. h) (ap (λ (x : Link). x.own.name) (link_there l.side m) ∙ q.name) (role_there l.side m) (subst (λ (x : Link). LinkStands g w n x) (sym (link_there l.side m)) (q.stands w k.link)) (outcomes_there w l.side m k.outcomes) k;
  }

  abbrev pub side_goes : (l : Called) (t : Side) → Changes g n l.session l.side t → Goes g n l (with_side t l)
  side_goes l t c = record {
    session = refl;
    more = c.turn.more;
    output = c.turn.output;
    stands = λ w k. sided l t w (w ++ under n l.session c.turn.more) (wider_more w (under n l.session c.turn.more)) c.turn.name c.role (c.turn.stands w k.link) (c.outcomes w k.outcomes) k;
  }

  -- ---- the attach is answered

  attach_told_stands : (r : Result AttachPoll AttachError) (name : ℕ) (l : Called) (w : List Written) → PollStands g n r → name ≡ n → CalledStands g w n l → CalledStands g w n (attach_told r name l)
  attach_told_stands (Ok Pending) name l w p e k = k
  attach_told_stands (Ok Done) name l w p e k = record {
    asked = k.asked;
    outcomes = k.outcomes;
    own = k.own;
    link = k.link;
    attaching = λ x h. absurd cc;
    waiting = k.waiting;
    parting = k.parting;
    answers = one_more g w name _ l.answers k.answers (made_as g n w name (role_of l.side) e k.own p);
  }
  attach_told_stands (Err x) name l w p e k = record {
    asked = k.asked;
    outcomes = k.outcomes;
    own = k.own;
    link = k.link;
    attaching = λ y h. absurd cc;
    waiting = k.waiting;
    parting = k.parting;
    answers = one_more g w name _ l.answers k.answers (attach_error_as g n w name (role_of l.side) x e p);
  }

  attach_told_session : (r : Result AttachPoll AttachError) (name : ℕ) (l : Called) → (attach_told r name l).session ≡ l.session
  attach_told_session (Ok Pending) name l = refl
  attach_told_session (Ok Done) name l = refl
  attach_told_session (Err x) name l = refl

  attach_told_side : (r : Result AttachPoll AttachError) (name : ℕ) (l : Called) → (attach_told r name l).side ≡ l.side
  attach_told_side (Ok Pending) name l = refl
  attach_told_side (Ok Done) name l = refl
  attach_told_side (Err x) name l = refl

  pub polled_stays : (l : Called) → Stays g n l (with_side (side.polled l.side) l)
  polled_stays l = side_stays l (link.polled (link_of l.side)).link (polled_quiet g n (link_of l.side))

  attach_polled_stays : (name : ℕ) (l : Called) → l.attaching ≡ Some name → Stays g n l (attach_polled name l)
  attach_polled_stays name l e =
      let m = with_side (side.polled l.side) l in
      let r = polled_answer l.side in
      let a = polled_stays l in
      record {
        session = attach_told_session r name m;
        output = ap (λ (x : Side). (link_of x).output) (attach_told_side r name m) ∙ a.output;
        stands = λ w k. attach_told_stands r name m w (poll_stands g n w (link_of l.side) k.link) (k.attaching name e) (a.stands w k);
      }

  attach_to_stays : (o : Option ℕ) (l : Called) → l.attaching ≡ o → Stays g n l (attach_answered_to o l)
  attach_to_stays None l e = stays_same l
  attach_to_stays (Some name) l e = attach_polled_stays name l e

  attach_stays : (l : Called) → Stays g n l (attach_answered l)
  attach_stays l = attach_to_stays l.attaching l refl

  attach_now_stays : (l : Called) → Stays g n l (attach_answered_now l)
  attach_now_stays l = stays_either (is_stopped l.side) l l (attach_answered l) (stays_same l) (attach_stays l)

  -- ---- outcomes

  outcome_error : (name : ℕ) (o : Option LinkStateError) (w : List Written) → IsOn g.asked name n → RefusalStands g n o → Stands g w name (outcome_reply (settling.unsettled_answer o))
  outcome_error name None w on k = tt
  outcome_error name (Some e) w on k = (n, (on, k))

  outcome_for : (name : ℕ) (o : Option Settlement) (s : SenderState) (w : List Written) → IsOn g.asked name n → LinkStands g w n s.link → ((x : Outcome) → o ≡ Some (Settled x) → OutcomeStands g w n x) → Stands g w name (outcome_reply (settling.answer_for o s))
  outcome_for name None s w on k f = (n, (on, tt))
  outcome_for name (Some (Settled x)) s w on k f = (n, (on, f x refl))
  outcome_for name (Some NonTerminal) s w on k f = tt
  outcome_for name (Some Illegal) s w on k f = tt
  outcome_for name (Some Unsettled) s w on k f = outcome_error name (link.settlement_refusal s.link) w on (settlement_stands g n w s.link k)

  pub outcome_stands : (name place : ℕ) (a : Side) (w : List Written) → IsOn g.asked name n → LinkStands g w n (link_of a) → OutcomesStand g w n a → Stands g w name (outcome_at place a)
  outcome_stands name place (Sender s) w on k f = outcome_for name _ s w on k (λ x e. f place x e)
  outcome_stands name place (Receiver s) w on k f = (n, (on, tt))

  outcome_to_stays : (o : Option ℕ) (place : ℕ) (l : Called) → lookup (nat_eq place) l.waiting ≡ o → Stays g n l (outcome_answered_to o place l)
  outcome_to_stays None place l e = stays_same l
  outcome_to_stays (Some name) place l e = stays_as l _ refl refl (λ w k. record {
    asked = k.asked;
    outcomes = k.outcomes;
    own = k.own;
    link = k.link;
    attaching = k.attaching;
    waiting = all_gone (λ (x : ℕ × ℕ). IsOn g.asked x.1 n) (nat_eq place) l.waiting k.waiting;
    parting = k.parting;
    answers = one_more g w name _ l.answers k.answers (outcome_stands name place l.side w (all_found (λ (x : ℕ × ℕ). IsOn g.asked x.1 n) place name l.waiting e k.waiting) k.link k.outcomes);
  })

  outcome_stays : (place : ℕ) (l : Called) → Stays g n l (outcome_answered place l)
  outcome_stays place l = outcome_to_stays (lookup (nat_eq place) l.waiting) place l refl

  pub outcomes_stays : (l : Called) → Stays g n l (outcomes_answered l)
  outcomes_stays l = stays_as l (outcomes_answered l) refl refl (λ w k. record {
    asked = k.asked;
    outcomes = k.outcomes;
    own = k.own;
    link = k.link;
    attaching = k.attaching;
    waiting = All-nil (λ (x : ℕ × ℕ). IsOn g.asked x.1 n);
    parting = k.parting;
    answers = All-append (λ (r : NamedLinkReply). Stands g w r.name r.reply) l.answers (map (told_by l.side) l.waiting) k.answers
        (All-map (λ (r : NamedLinkReply). Stands g w r.name r.reply) (told_by l.side) l.waiting
        (All-weaker (λ (x : ℕ × ℕ). IsOn g.asked x.1 n) (λ (x : ℕ × ℕ). Stands g w x.1 (outcome_at x.0 l.side)) (λ x h. outcome_stands x.1 x.0 l.side w h k.link k.outcomes) l.waiting k.waiting));
  })

  outcomes_now_stays : (l : Called) → Stays g n l (outcomes_answered_now l)
  outcomes_now_stays l = stays_either (is_stopped l.side || not (is_closed_by_both l.side)) l l (outcomes_answered l) (stays_same l) (outcomes_stays l)

  -- ---- the call that leaves it

  pub detached_reply : (name : ℕ) (how : Parting) (w : List Written) (r : DetachPoll) → IsDetaching how → Contains g.asked (name, call.Part n how) → answers.PartStands g n w r → Stands g w name (part_reply false r)
  detached_reply name how w left.Done d a k = record { link = n; how = how; kind = d; asked = a; own = k.0; theirs = k.1 }
  detached_reply name how w left.Pending d a k = tt
  detached_reply name how w (left.Failed e) d a k = (n, ((call.Part n how, (a, refl)), k))

  pub closed_reply : (name : ℕ) (how : Parting) (w : List Written) (r : DetachPoll) → IsClosing how → Contains g.asked (name, call.Part n how) → answers.PartStands g n w r → Stands g w name (part_reply true r)
  closed_reply name how w left.Done d a k = record { link = n; how = how; kind = d; asked = a; own = k.0; theirs = k.1 }
  closed_reply name how w left.Pending d a k = tt
  closed_reply name how w (left.Failed e) d a k = (n, ((call.Part n how, (a, refl)), k))

  news_as : (name : ℕ) (how : Parting) (w : List Written) (o : Option DetachError) → Contains g.asked (name, call.Part n how) → NewsStands g n o → Stands g w name (news_reply o)
  news_as name how w None a k = tt
  news_as name how w (Some e) a k = (n, ((call.Part n how, (a, refl)), k))

  pub known_stands : (k : PartKind) (name : ℕ) (how : Parting) (a : Side) (w : List Written) → IsOfKind k how → Contains g.asked (name, call.Part n how) → LinkStands g w n (link_of a) → Stands g w name (known k a)
  known_stands kind.OnDetach name how a w d asked k = news_as name how w (parts.detach_news (link_of a)) asked (news_stand g n w (link_of a) k)
  known_stands kind.Detach name how a w d asked k = detached_reply name how w (parts.parted_poll false (link_of a)) d asked (parted_stands g n w false (link_of a) k)
  known_stands kind.Close name how a w d asked k = closed_reply name how w (parts.parted_poll true (link_of a)) d asked (parted_stands g n w true (link_of a) k)

  -- a link is closed only where both ends have left it
  waits_not : (o : Option SessionStopReason) → part_reply true (parts.waiting_poll o) ≡ reply.Closed → ⊥
  waits_not (Some why) h = cc
  waits_not None h = cc

  closed_done : (c : Bool) (l : Link) → part_reply true (if c then parts.done_poll true l else parts.waiting_poll l.stop_reason) ≡ reply.Closed → c ≡ true
  closed_done true l h = refl
  closed_done false l h = absurd (waits_not l.stop_reason h)

  not_closed : (r : DetachPoll) → part_reply false r ≡ reply.Closed → ⊥
  not_closed left.Done h = cc
  not_closed left.Pending h = cc
  not_closed (left.Failed e) h = cc

  no_news : (o : Option DetachError) → news_reply o ≡ reply.Closed → ⊥
  no_news None h = cc
  no_news (Some e) h = cc

  known_closed : (k : PartKind) (a : Side) → known k a ≡ reply.Closed → link.is_done (link_of a).phase ≡ true
  known_closed kind.OnDetach a h = absurd (no_news (parts.detach_news (link_of a)) h)
  known_closed kind.Detach a h = absurd (not_closed (parts.parted_poll false (link_of a)) h)
  known_closed kind.Close a h = closed_done (link.is_done (link_of a).phase) (link_of a) h

  pub closed_by_stays : (x : LinkReply) (l : Called) → (x ≡ reply.Closed → link.is_done (link_of l.side).phase ≡ true) → Stays g n l (closed_by x l)
  closed_by_stays reply.Closed l h = side_stays l (parts.abandoned (link_of l.side)) (gone_quiet g n (link_of l.side) (h refl))
  closed_by_stays other l h = stays_same l

  pub answering_stands : (name : ℕ) (r : LinkReply) (l : Called) (w : List Written) → Stands g w name r → CalledStands g w n l → CalledStands g w n (answering name r l)
  answering_stands name r l w h k = record {
    asked = k.asked;
    outcomes = k.outcomes;
    own = k.own;
    link = k.link;
    attaching = k.attaching;
    waiting = k.waiting;
    parting = k.parting;
    answers = one_more g w name r l.answers k.answers h;
  }

  none_parting : (l : Called) (how : Leaving) → Stays g n l (record l { parting = None; leaving = how })
  none_parting l how = stays_as l _ refl refl (λ w k. record { asked = k.asked; outcomes = k.outcomes; own = k.own; link = k.link; attaching = k.attaching; waiting = k.waiting; parting = λ p h. absurd cc; answers = k.answers })

  told_part_stays : (p : WaitingPart) (l : Called) → l.parting ≡ Some p → Stays g n l (told_part (known p.kind l.side) p l)
  told_part_stays p l e =
      let x : LinkReply = known p.kind l.side in
      let m : Called = record l { parting = None; leaving = left_by p.kind l.leaving } in
      let a = none_parting l (left_by p.kind l.leaving) in
      let c = closed_by_stays x m (known_closed p.kind l.side) in
      stays_either (is_pending x) l l (answering p.name x (closed_by x m)) (stays_same l) (record {
        session = c.session;
        output = c.output;
        stands = λ w k. (let h = k.parting p e in answering_stands p.name x (closed_by x m) w (known_stands p.kind p.name h.0 l.side w h.1.0 h.1.1 k.link) (c.stands w (a.stands w k)));
      })

  part_to_stays : (o : Option WaitingPart) (l : Called) → l.parting ≡ o → Stays g n l (part_answered_to o l)
  part_to_stays None l e = stays_same l
  part_to_stays (Some p) l e = told_part_stays p l e

  part_stays : (l : Called) → Stays g n l (part_answered l)
  part_stays l = part_to_stays l.parting l refl

  part_now_stays : (l : Called) → Stays g n l (part_answered_now l)
  part_now_stays l = stays_either (is_stopped l.side) l l (part_answered l) (stays_same l) (part_stays l)

  -- ---- what is heard

  pub attach_goes : (x : Attach) (l : Called) → IsAnswered g n → Goes g n l (hearing.attach_read x l)
  attach_goes x l a =
      let m = with_side (side.attach_read x l.side) l in
      goes_then l m (attach_answered_now m) (side_goes l (side.attach_read x l.side) (attach_changes g n l.session x l.side a)) (goes_stays m (attach_answered_now m) (attach_now_stays m))

  detach_goes : (d : Detach) (l : Called) → IsDetached (λ x. x ≡ d) g n → Goes g n l (hearing.detach_read d l)
  detach_goes d l a =
      let m = with_side (side.detach_read d l.side) l in
      let o = attach_answered_now m in
      let p = part_answered_now o in
      goes_then l m (outcomes_answered_now p) (side_goes l (side.detach_read d l.side) (detach_changes g n l.session d l.side a))
      (goes_stays m (outcomes_answered_now p) (stays_then m o (outcomes_answered_now p) (attach_now_stays m) (stays_then o p (outcomes_answered_now p) (part_now_stays o) (outcomes_now_stays p))))

  -- the session is over
  pub concluded_stays : (l : Called) → Stays g n l (hearing.concluded l)
  concluded_stays l =
      let k : Called = record l { is_concluded = true } in
      let m = attach_answered k in
      let o = part_answered m in
      let a = stays_as l k refl refl (λ w h. record { asked = h.asked; outcomes = h.outcomes; own = h.own; link = h.link; attaching = h.attaching; waiting = h.waiting; parting = h.parting; answers = h.answers }) in
      stays_then l k (outcomes_answered o) a (stays_then k m (outcomes_answered o) (attach_stays k) (stays_then m o (outcomes_answered o) (part_stays m) (outcomes_stays o)))

  -- of a Detach it is said that it is for the link, of a Transfer that it was handed over for it behind those that wait there
  abbrev pub Fits : LinkInput → Side → Type 0
  Fits (input.Detach d) a = IsDetached (λ x. x ≡ d) g n
  Fits (input.Transfer x payload) a = WaitStands g n g.read ((waits_in a).0 ++ record { transfer = x; payload = payload } ∷ []) (waits_in a).1
  Fits other a = Unit {0}

  pub heard_goes : (x : LinkInput) (l : Called) → Fits x l.side → Goes g n l (heard x l)
  heard_goes (input.Flow x) l h = side_goes l (side.flow_read x l.side) (flow_changes g n l.session x l.side)
  heard_goes (input.Transfer x payload) l h = side_goes l (side.transfer_read x payload l.side) (transfer_changes g n l.session x payload l.side h)
  heard_goes (input.Detach d) l h = detach_goes d l h
  heard_goes other l h = goes_stays l l (stays_same l)

  done_stays : (o : Option ℕ) (c : Bool) (l : Called) → Stays g n l (hearing.done_answered o c l)
  done_stays (Some place) true l = outcome_stays place l
  done_stays o c l = stays_same l

  disposition_at_goes : (t : Side) (covered : CoveredDelivery) (settled : Bool) (x : Option DeliveryState) (l : Called) → l.side ≡ t → Ruled g x → Goes g n l (hearing.disposition_at t covered settled x l)
  disposition_at_goes (Sender t) covered settled x l e r =
      let u = settling.disposition_read covered settled x t in
      let m = with_side (Sender u) l in
      let place = settling.place_of covered.delivery_tag t in
      goes_then l m (hearing.done_answered place (hearing.is_done place u) m)
      (side_goes l (Sender u) (subst (λ (a : Side). Changes g n l.session a (Sender u)) (sym e) (sender_disposition g n l.session covered settled x t r)))
      (goes_stays m _ (done_stays place (hearing.is_done place u) m))
  disposition_at_goes (Receiver t) covered settled x l e r =
      let u = Receiver (receiving.disposition_read covered settled t) in
      side_goes l u (subst (λ (a : Side). Changes g n l.session a u) (sym e) (receiver_disposition g n l.session covered settled t))

  pub disposition_goes : (covered : CoveredDelivery) (settled : Bool) (x : Option DeliveryState) (l : Called) → Ruled g x → Goes g n l (disposition_heard covered settled x l)
  disposition_goes covered settled x l r =
      goes_either (is_heard l) l (hearing.disposition_read covered settled x l) l (disposition_at_goes l.side covered settled x l refl r) (goes_stays l l (stays_same l))

  pub stopped_stays : (why : SessionStopReason) (l : Called) → Stays g n l (stopped why l)
  stopped_stays why l = side_stays l (link.stopped why (link_of l.side)) (stopped_quiet g n why (link_of l.side))

  -- ---- the further attachment

  both_last : (a c : Bool) → (a && c) ≡ true → c ≡ true
  both_last true c h = h
  both_last false c h = absurd cc

  wants : (l : Called) → wants_handle l ≡ true → parts.wants_handle (link_of l.side).phase ≡ true
  wants l h = both_last (is_parting l.parting) (parts.wants_handle (link_of l.side).phase) h

  pub given_goes : (handle : ℕ) (l : Called) → wants_handle l ≡ true → Goes g n l (handle_given handle l)
  given_goes handle l h = side_goes l (side.reattached handle l.side) (reattached_changes g n l.session handle l.side (wants l h))

  pub refused_stays : (l : Called) → wants_handle l ≡ true → Stays g n l (handle_refused l)
  refused_stays l h =
      let m = with_side (side.unplaced l.side) l in
      stays_then l m (part_answered m) (side_stays l (parts.unplaced (link_of l.side)) (unplaced_quiet g n (link_of l.side) (wants l h))) (part_stays m)
