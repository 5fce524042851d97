-- What an answer stands for, as more is out; and what a link tells of how it stands.
use Rattle.std.specs.Prelude.{◌≡◌, ◌||◌, ℕ, Bool, true, false, List, [], ◌∷◌, ◌++◌, Option, Some, None, Result, Ok, Err, if◌then◌else◌, refl}
use Rattle.std.proofs.Common.{inl, inr, sym, ◌∙◌, ap, subst}
use Rattle.std.proofs.lemmas.List.Elements.{All-weaker, All-push}
use Rattle.amqp_composites.specs.declared.error.Error.{Error as AmqpError}
use Rattle.amqp_composites.specs.declared.modes.Role.{Role}
use Rattle.amqp_composites.specs.declared.modes.Role.TheVariants as role
use Rattle.amqp_frames.specs.declared.body.FrameBody.TheVariants as b
use Rattle.amqp_frames.specs.declared.shared.SessionStopReason.{SessionStopReason}
use Rattle.amqp_link.specs.declared.endpoint.AttachPoll.{AttachPoll}
use Rattle.amqp_link.specs.declared.endpoint.AttachPoll.TheVariants as poll
use Rattle.amqp_link.specs.declared.endpoint.DetachPoll.{DetachPoll}
use Rattle.amqp_link.specs.declared.endpoint.DetachPoll.TheVariants as left
use Rattle.amqp_link.specs.declared.endpoint.LinkPhase.{LinkPhase}
use Rattle.amqp_link.specs.declared.endpoint.LinkPhase.TheVariants as phase
use Rattle.amqp_link.specs.declared.error.AttachError.{AttachError}
use Rattle.amqp_link.specs.declared.error.AttachError.TheVariants as attach
use Rattle.amqp_link.specs.declared.error.DetachError.{DetachError}
use Rattle.amqp_link.specs.declared.error.DetachError.TheVariants as detach
use Rattle.amqp_link.specs.declared.error.LinkStateError.{LinkStateError}
use Rattle.amqp_link.specs.declared.error.LinkStateError.TheVariants as state
use Rattle.amqp_link.specs.Link.{Link, polled, poll_failing, poll_waiting, tells, is_awaited, is_done, is_attached, is_detaching, detached_by, ended_by, or_else, refusal, stopped_by, closed_by, settlement_refusal, is_closed_by_one}
use Rattle.amqp_link.specs.Parting as parts
use Rattle.amqp_link.specs.Parting.{late_poll, parting, parting_in, opened_poll, closed_poll, closing_poll, open_poll, close_poll, met_poll, stuck_poll, done_poll, waiting_poll, parted_poll, parted_by, news_of, detach_news}
use Rattle.amqp_link_calls.specs.Replies.{made_reply, attach_error, accept_error}
use Rattle.amqp_link_words.specs.declared.link_reply.AcceptError.TheVariants.{LocalSender, LocalReceiver}
use Rattle.amqp_link_words.specs.declared.link_reply.LinkReply.{LinkReply}
use Rattle.amqp_link_words.specs.declared.link_reply.LinkReply.TheVariants as reply
use Rattle.amqp_link_words.specs.declared.link_reply.NamedLinkReply.{NamedLinkReply}
use Rattle.amqp_link_words.specs.declared.link_call.Parting.{Parting}
use Rattle.amqp_performatives.specs.declared.detach.Detach.{Detach}
use Rattle.amqp_termini.specs.declared.outcome.Outcome.{Outcome}
use Rattle.link_answers.specs.Standing.{Given, Written, HasWritten, HasAttached, IsDetach, Carries, IsSettled, IsAnswered, IsDetached, Says, Any, HasError, IsParted, AttachFails, StateFails, PartFails, OutcomeStands, Stands, AllStand}
use Rattle.link_answers.specs.Keeping.{LinkStands}
use Rattle.link_answers.proofs.Links.{Wider, written_wider, detached_so}

-- ---- more is out

pub attached_wider : (g : Given) (w v : List Written) (n : ℕ) (r : Role) → Wider w v → HasAttached g w n r → HasAttached g v n r
attached_wider g w v n r f k =
    record { call = k.call; asked = k.asked; session = k.session; attach = k.attach; is_for = k.is_for; in_role = k.in_role; out = f (n, (k.session, b.Attach k.attach)) k.out }

parted_wider : (Kind : Parting → Type 0) (g : Given) (w v : List Written) (name : ℕ) → Wider w v → IsParted Kind g w name → IsParted Kind g v name
parted_wider Kind g w v name f k = record { link = k.link; how = k.how; kind = k.kind; asked = k.asked; own = written_wider IsDetach k.link w v f k.own; theirs = k.theirs }

pub outcome_wider : (g : Given) (w v : List Written) (n : ℕ) (x : Outcome) → Wider w v → OutcomeStands g w n x → OutcomeStands g v n x
outcome_wider g w v n x f (inl k) = inl (k.0, written_wider IsSettled n w v f k.1)
outcome_wider g w v n x f (inr k) = inr k

pub answer_wider : (g : Given) (w v : List Written) (name : ℕ) (r : LinkReply) → Wider w v → Stands g w name r → Stands g v name r
answer_wider g w v name reply.Sender f k = (attached_wider g w v name role.Sender f k.0, k.1)
answer_wider g w v name reply.Receiver f k = (attached_wider g w v name role.Receiver f k.0, k.1)
answer_wider g w v name reply.Sent f k = record { link = k.link; message = k.message; asked = k.asked; own = written_wider (Carries k.message.payload) k.link w v f k.own }
answer_wider g w v name (reply.Outcome x) f k = (k.0, (k.1.0, outcome_wider g w v k.0 x f k.1.1))
answer_wider g w v name reply.Detached f k = parted_wider _ g w v name f k
answer_wider g w v name reply.Closed f k = parted_wider _ g w v name f k
answer_wider g w v name (reply.AcceptError (LocalSender e)) f k = k
answer_wider g w v name (reply.AcceptError (LocalReceiver e)) f k = k
answer_wider g w v name (reply.SenderAttachError e) f k = k
answer_wider g w v name (reply.ReceiverAttachError e) f k = k
answer_wider g w v name (reply.SendError e) f k = k
answer_wider g w v name (reply.DetachError e) f k = k
answer_wider g w v name (reply.Delivery info message) f k = k
answer_wider g w v name (reply.RecvError e) f k = k
answer_wider g w v name other f k = tt

pub answers_wider : (g : Given) (w v : List Written) (rs : List NamedLinkReply) → Wider w v → AllStand g w rs → AllStand g v rs
answers_wider g w v rs f k =
    All-weaker (λ (r : NamedLinkReply). Stands g w r.name r.reply) (λ (r : NamedLinkReply). Stands g v r.name r.reply) (λ r h. answer_wider g w v r.name r.reply f h) rs k

pub one_more : (g : Given) (w : List Written) (name : ℕ) (r : LinkReply) (rs : List NamedLinkReply) → AllStand g w rs → Stands g w name r → AllStand g w (rs ++ record { name = name; reply = r } ∷ [])
one_more g w name r rs k h = All-push (λ (x : NamedLinkReply). Stands g w x.name x.reply) rs (record { name = name; reply = r }) k h

-- ---- how the attach is

abbrev pub PollStands : Given → ℕ → Result AttachPoll AttachError → Type 0
PollStands g n (Ok poll.Done) = IsAnswered g n
PollStands g n (Ok poll.Pending) = Unit {0}
PollStands g n (Err e) = AttachFails g n e

module _ (g : Given) (n : ℕ) where
  waits_stand : (c : Bool) (l : Link) → PollStands g n (if c then tells (Ok poll.Pending) l else tells (Err attach.IllegalState) l).answer
  waits_stand true l = tt
  waits_stand false l = tt

  waiting_stands : (o : Option SessionStopReason) (l : Link) → PollStands g n (poll_waiting o l).answer
  waiting_stands (Some why) l = tt
  waiting_stands None l = waits_stand (is_awaited l.phase) l

  fails_stand : (c : Bool) (e : AttachError) (l : Link) → AttachFails g n e → PollStands g n (if c then tells (Err e) (record l { failure = None }) else poll_waiting l.stop_reason l).answer
  fails_stand true e l k = k
  fails_stand false e l k = waiting_stands l.stop_reason l

  failing_stands : (f : Option AttachError) (l : Link) → ((e : AttachError) → f ≡ Some e → AttachFails g n e) → PollStands g n (poll_failing f l).answer
  failing_stands None l k = waiting_stands l.stop_reason l
  failing_stands (Some e) l k = fails_stand (l.accepts || is_done l.phase) e l (k e refl)

  made_stands : (c : Bool) (l : Link) → (c ≡ true → IsAnswered g n) → ((e : AttachError) → l.failure ≡ Some e → AttachFails g n e) → PollStands g n (if c then tells (Ok poll.Done) l else poll_failing l.failure l).answer
  made_stands true l k f = k refl
  made_stands false l k f = failing_stands l.failure l f

  pub poll_stands : (w : List Written) (l : Link) → LinkStands g w n l → PollStands g n (polled l).answer
  poll_stands w l k = made_stands l.is_made l k.made k.failure

  pub made_as : (w : List Written) (name : ℕ) (r : Role) → name ≡ n → HasAttached g w n r → IsAnswered g n → Stands g w name (made_reply r)
  made_as w name role.Sender e own theirs = subst (λ (k : ℕ). Stands g w k reply.Sender) (sym e) (own, theirs)
  made_as w name role.Receiver e own theirs = subst (λ (k : ℕ). Stands g w k reply.Receiver) (sym e) (own, theirs)

  pub attach_error_as : (w : List Written) (name : ℕ) (r : Role) (x : AttachError) → name ≡ n → AttachFails g n x → Stands g w name (attach_error r x)
  attach_error_as w name role.Sender x e k = subst (λ (i : ℕ). AttachFails g i x) (sym e) k
  attach_error_as w name role.Receiver x e k = subst (λ (i : ℕ). AttachFails g i x) (sym e) k

  pub accept_error_as : (w : List Written) (name : ℕ) (r : Role) (x : AttachError) → name ≡ n → AttachFails g n x → Stands g w name (accept_error r x)
  accept_error_as w name role.Sender x e k = subst (λ (i : ℕ). AttachFails g i x) (sym e) k
  accept_error_as w name role.Receiver x e k = subst (λ (i : ℕ). AttachFails g i x) (sym e) k

  -- ---- how it was left

  -- what a call that leaves it comes to
  abbrev pub PartStands : List Written → DetachPoll → Type 0
  PartStands w left.Done = HasWritten IsDetach n w × IsDetached Any g n
  PartStands w left.Pending = Unit {0}
  PartStands w (left.Failed e) = PartFails g n e

  pub part_wider : (w v : List Written) (r : DetachPoll) → Wider w v → PartStands w r → PartStands v r
  part_wider w v left.Done f k = (written_wider IsDetach n w v f k.0, k.1)
  part_wider w v left.Pending f k = tt
  part_wider w v (left.Failed e) f k = k

  -- the Detach that was read, by what it says
  says : (closed : Bool) (error : Option AmqpError) (d : Detach) → d.closed ≡ closed → d.error ≡ error → IsDetached (λ x. x ≡ d) g n → IsDetached (Says closed error) g n
  says closed error d c e k = detached_so (λ x. x ≡ d) (Says closed error) g n (λ x h. (ap (λ (y : Detach). y.closed) h ∙ c, ap (λ (y : Detach). y.error) h ∙ e)) k

  was_read : (d : Detach) → IsDetached (λ x. x ≡ d) g n → IsDetached Any g n
  was_read d k = detached_so (λ x. x ≡ d) Any g n (λ x h. tt) k

  with_error : (e : AmqpError) (d : Detach) → d.error ≡ Some e → IsDetached (λ x. x ≡ d) g n → IsDetached (HasError e) g n
  with_error e d h k = detached_so (λ x. x ≡ d) (HasError e) g n (λ x f. ap (λ (y : Detach). y.error) f ∙ h) k

  -- both ends have left it
  module _ (w : List Written) (both : HasWritten IsDetach n w × IsDetached Any g n) where
    opened_stands : (o : Option AmqpError) (d : Detach) → d.closed ≡ false → d.error ≡ o → IsDetached (λ x. x ≡ d) g n → PartStands w (opened_poll o)
    opened_stands None d c e k = both
    opened_stands (Some x) d c e k = says false (Some x) d c e k

    open_stands : (c : Bool) (d : Detach) → d.closed ≡ c → IsDetached (λ x. x ≡ d) g n → PartStands w (if c then left.Failed detach.ClosedByRemote else opened_poll d.error)
    open_stands true d c k = was_read d k
    open_stands false d c k = opened_stands d.error d c refl k

    closed_stands : (o : Option AmqpError) → ((e : AmqpError) → o ≡ Some e → IsDetached (HasError e) g n) → PartStands w (closed_poll o)
    closed_stands None k = both
    closed_stands (Some e) k = k e refl

    closing_stands : (o : Option AmqpError) (c : Bool) (last : Option AmqpError) (d : Detach) → d.closed ≡ c → d.error ≡ o → IsDetached (λ x. x ≡ d) g n → ((e : AmqpError) → last ≡ Some e → IsDetached (HasError e) g n)
        → PartStands w (closing_poll o c last)
    closing_stands (Some x) true last d c e k f = with_error x d e k
    closing_stands (Some x) false last d c e k f = says false (Some x) d c e k
    closing_stands None c last d h e k f = closed_stands last f

    close_stands : (c : Bool) (last : Option AmqpError) (d : Detach) → IsDetached (λ x. x ≡ d) g n → ((e : AmqpError) → last ≡ Some e → IsDetached (HasError e) g n) → PartStands w (close_poll c d last)
    close_stands true last d k f = closing_stands d.error d.closed last d refl refl k f
    close_stands false last d k f = was_read d k

    met_stands : (own closes : Bool) (o : Option Detach) (last : Option AmqpError) → ((d : Detach) → o ≡ Some d → IsDetached (λ x. x ≡ d) g n) → ((e : AmqpError) → last ≡ Some e → IsDetached (HasError e) g n)
        → PartStands w (met_poll own closes o last)
    met_stands own closes None last k f = both
    met_stands false closes (Some d) last k f = open_stands d.closed d refl (k d refl)
    met_stands true closes (Some d) last k f = close_stands closes last d (k d refl) f

    stuck_stands : (o : Option SessionStopReason) → PartStands w (stuck_poll o)
    stuck_stands (Some why) = tt
    stuck_stands None = tt

    done_by : (c : Bool) (closes : Bool) (l : Link) → LinkStands g w n l → PartStands w (if c then stuck_poll l.stop_reason else met_poll l.is_closed closes l.remote l.last_error)
    done_by true closes l k = stuck_stands l.stop_reason
    done_by false closes l k = met_stands l.is_closed closes l.remote l.last_error k.remote k.last

    late_stands : (c closes : Bool) → PartStands w (late_poll c closes)
    late_stands true false = both.1
    late_stands true true = both
    late_stands false closes = both

  waits_part : (w : List Written) (o : Option SessionStopReason) → PartStands w (waiting_poll o)
  waits_part w (Some why) = tt
  waits_part w None = tt

  -- both ends have left a link that is done
  both_left : (w : List Written) (p : LinkPhase) (l : Link) → is_done p ≡ true → LinkStands g w n (record l { phase = p }) → HasWritten IsDetach n w × IsDetached Any g n
  both_left w phase.Detached l h k = (k.out refl, k.over refl)
  both_left w p l h k = absurd cc

  parted_by_phase : (w : List Written) (c closes : Bool) (l : Link) → is_done l.phase ≡ c → LinkStands g w n l → PartStands w (if c then done_poll closes l else waiting_poll l.stop_reason)
  parted_by_phase w true closes l h k = done_by w (both_left w l.phase l h k) l.is_stuck closes l k
  parted_by_phase w false closes l h k = waits_part w l.stop_reason

  pub parted_stands : (w : List Written) (closes : Bool) (l : Link) → LinkStands g w n l → PartStands w (parted_poll closes l)
  parted_stands w closes l k = parted_by_phase w (is_done l.phase) closes l refl k

  unless_stands : (w : List Written) (o : Option SessionStopReason) (t s : Link) → PartStands w (parts.parting_unless o t s).answer
  unless_stands w (Some why) t s = tt
  unless_stands w None t s = tt

  parting_by : (w : List Written) (gone : Bool) (p : LinkPhase) (closes : Bool) (x : Option AmqpError) (l : Link) → LinkStands g w n (record l { phase = p })
      → PartStands w (if gone then parts.tells (left.Failed detach.IllegalState) (record l { phase = p }) else parting_in p closes x (record l { phase = p })).answer
  parting_by w true p closes x l k = tt
  parting_by w false phase.AttachSent closes x l k = tt
  parting_by w false phase.DetachExpected closes x l k = tt
  parting_by w false phase.Refused closes x l k = tt
  parting_by w false phase.Attached closes x l k = unless_stands w l.stop_reason _ _
  parting_by w false phase.HalfClosed closes x l k = unless_stands w l.stop_reason _ _
  parting_by w false phase.Detached closes x l k = late_stands w (k.out refl, k.over refl) (is_closed_by_one (record l { phase = phase.Detached })) closes
  parting_by w false p closes x l k = unless_stands w l.stop_reason _ _

  -- a call that leaves it is told at once
  pub parting_stands : (w : List Written) (closes : Bool) (x : Option AmqpError) (l : Link) → LinkStands g w n l → PartStands w (parting closes x l).answer
  parting_stands w closes x l k = parting_by w l.is_gone l.phase closes x l k

  -- ---- how the peer has left it

  -- of what is told, if anything is
  abbrev pub NewsStands : Option DetachError → Type 0
  NewsStands None = Unit {0}
  NewsStands (Some e) = PartFails g n e

  news_by : (c : Bool) (o : Option AmqpError) (d : Detach) → d.closed ≡ c → d.error ≡ o → IsDetached (λ x. x ≡ d) g n → PartFails g n (parted_by c o)
  news_by true (Some e) d c h k = with_error e d h k
  news_by true None d c h k = was_read d k
  news_by false (Some e) d c h k = says false (Some e) d c h k
  news_by false None d c h k = says false None d c h k

  news_at : (o : Option Detach) (stop : Option SessionStopReason) → ((d : Detach) → o ≡ Some d → IsDetached (λ x. x ≡ d) g n) → NewsStands (news_of o stop)
  news_at (Some d) stop k = news_by d.closed d.error d refl refl (k d refl)
  news_at None (Some why) k = tt
  news_at None None k = tt

  news_unless : (gone : Bool) (o : Option Detach) (stop : Option SessionStopReason) → ((d : Detach) → o ≡ Some d → IsDetached (λ x. x ≡ d) g n) → NewsStands (if gone then Some detach.IllegalState else news_of o stop)
  news_unless true o stop k = tt
  news_unless false o stop k = news_at o stop k

  pub news_stand : (w : List Written) (l : Link) → LinkStands g w n l → NewsStands (detach_news l)
  news_stand w l k = news_unless l.is_gone l.remote l.stop_reason k.remote

  -- what a call is told that sends, or asks for an outcome
  abbrev pub RefusalStands : Option LinkStateError → Type 0
  RefusalStands None = Unit {0}
  RefusalStands (Some e) = StateFails g n e

  detached_stands : (c : Bool) (o : Option AmqpError) (d : Detach) → d.closed ≡ c → d.error ≡ o → IsDetached (λ x. x ≡ d) g n → StateFails g n (detached_by c o)
  detached_stands true (Some e) d c h k = says true (Some e) d c h k
  detached_stands true None d c h k = says true None d c h k
  detached_stands false (Some e) d c h k = says false (Some e) d c h k
  detached_stands false None d c h k = says false None d c h k

  module _ (o : Option Detach) (k : (d : Detach) → o ≡ Some d → IsDetached (λ x. x ≡ d) g n) where
    ended_stands : (p : Option Detach) (stop : Option SessionStopReason) → o ≡ p → RefusalStands (ended_by p stop)
    ended_stands (Some d) stop e = detached_stands d.closed d.error d refl refl (k d e)
    ended_stands None (Some why) e = tt
    ended_stands None None e = tt

    else_stands : (p : Option LinkStateError) (c : Bool) → RefusalStands p → RefusalStands (or_else p (if c then None else Some state.IllegalState))
    else_stands (Some e) c h = h
    else_stands None true h = tt
    else_stands None false h = tt

    refusal_by : (c d : Bool) (stop : Option SessionStopReason) → RefusalStands (if c then Some state.IllegalState else or_else (ended_by o stop) (if d then None else Some state.IllegalState))
    refusal_by true d stop = tt
    refusal_by false d stop = else_stands (ended_by o stop) d (ended_stands o stop refl)

    stops_stand : (stop : Option SessionStopReason) → RefusalStands (stopped_by stop)
    stops_stand (Some why) = tt
    stops_stand None = tt

    closes_stand : (c : Bool) (d : Detach) (stop : Option SessionStopReason) → d.closed ≡ c → IsDetached (λ x. x ≡ d) g n → RefusalStands (if c then Some (detached_by true d.error) else stopped_by stop)
    closes_stand true d stop h j = detached_stands true d.error d h refl j
    closes_stand false d stop h j = stops_stand stop

    closed_refusal : (p : Option Detach) (stop : Option SessionStopReason) → o ≡ p → RefusalStands (closed_by p stop)
    closed_refusal None stop e = stops_stand stop
    closed_refusal (Some d) stop e = closes_stand d.closed d stop refl (k d e)

    settled_by : (a c d : Bool) (stop : Option SessionStopReason) → RefusalStands (if a then Some state.IllegalState else (if c then (if d then Some state.IllegalState else closed_by o stop) else stopped_by stop))
    settled_by true c d stop = tt
    settled_by false true true stop = tt
    settled_by false true false stop = closed_refusal o stop refl
    settled_by false false d stop = stops_stand stop

  pub refusal_stands : (w : List Written) (l : Link) → LinkStands g w n l → RefusalStands (refusal l)
  refusal_stands w l k = refusal_by l.remote k.remote l.is_closed (is_attached l.phase || is_detaching l.phase) l.stop_reason

  pub ended_by_stands : (w : List Written) (l : Link) → LinkStands g w n l → RefusalStands (ended_by l.remote l.stop_reason)
  ended_by_stands w l k = ended_stands l.remote k.remote l.remote l.stop_reason refl

  pub settlement_stands : (w : List Written) (l : Link) → LinkStands g w n l → RefusalStands (settlement_refusal l)
  settlement_stands w l k = settled_by l.remote k.remote (l.is_gone) (is_done l.phase) l.is_closed l.stop_reason
