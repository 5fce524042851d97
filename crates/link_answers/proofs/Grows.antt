-- What stands goes on to stand as the links of an end are given more.
use Rattle.std.specs.Prelude.{◌≡◌, ◌⊎◌, ◌++◌, ℕ, Contains, List, Option, Some, None, refl}
use Rattle.std.proofs.Common.{inl, inr, sym, subst}
use Rattle.std.proofs.lemmas.List.Elements.{All-weaker, Contains-append_left}
use Rattle.amqp_composites.specs.declared.modes.Role.{Role}
use Rattle.amqp_composites.specs.declared.modes.Role.TheVariants as role
use Rattle.amqp_link.specs.declared.error.AttachError.{AttachError}
use Rattle.amqp_link.specs.declared.error.AttachError.TheVariants as attach
use Rattle.amqp_link.specs.declared.error.DetachError.{DetachError}
use Rattle.amqp_link.specs.declared.error.DetachError.TheVariants as detach
use Rattle.amqp_link.specs.declared.error.LinkStateError.{LinkStateError}
use Rattle.amqp_link.specs.declared.error.LinkStateError.TheVariants as state
use Rattle.amqp_link.specs.Link.{Link}
use Rattle.amqp_link_calls.specs.Called.{Called}
use Rattle.amqp_link_calls.specs.Side.{Side, Sender, Receiver, link_of as link_in}
use Rattle.amqp_link_words.specs.declared.link_call.LinkCall.{LinkCall}
use Rattle.amqp_link_words.specs.declared.link_call.LinkCall.TheVariants as call
use Rattle.amqp_link_words.specs.declared.link_call.Parting.{Parting}
use Rattle.amqp_link_words.specs.declared.link_reply.AcceptError.TheVariants.{LocalSender, LocalReceiver}
use Rattle.amqp_link_words.specs.declared.link_reply.LinkReply.{LinkReply}
use Rattle.amqp_link_words.specs.declared.link_reply.LinkReply.TheVariants as reply
use Rattle.amqp_link_words.specs.declared.link_reply.NamedLinkReply.{NamedLinkReply}
use Rattle.amqp_links.specs.declared.timed.Awaited.{Awaited}
use Rattle.amqp_links.specs.declared.timed.Awaited.TheVariants as awaited
use Rattle.amqp_links.specs.State.{State, link_of}
use Rattle.amqp_parts.specs.declared.part.Part.{Part}
use Rattle.amqp_parts.specs.Join.{Incomplete}
use Rattle.amqp_performatives.specs.declared.attach.Attach.{Attach}
use Rattle.amqp_performatives.specs.declared.detach.Detach.{Detach}
use Rattle.amqp_receiver.specs.declared.error.RecvError.{RecvError}
use Rattle.amqp_receiver.specs.declared.error.RecvError.TheVariants as recv
use Rattle.amqp_receiver.specs.declared.receiver.Incoming.{Incoming}
use Rattle.amqp_sender.specs.declared.error.SendError.{SendError}
use Rattle.amqp_sender.specs.declared.error.SendError.TheVariants as send
use Rattle.amqp_session.specs.declared.session.LinkInput.{LinkInput}
use Rattle.amqp_session.specs.declared.session.LinkInput.TheVariants as input
use Rattle.amqp_session_links.specs.State.{State as Place}
use Rattle.amqp_termini.specs.declared.outcome.Outcome.{Outcome}
use Rattle.link_answers.specs.Standing.{Given, Written, IsCallFor, IsSendOver, IsCallOn, IsOn, HasAttached, IsAnswered, IsDetached, IsHanded, IsSent, IsParted, AttachFails, StateFails, PartFails, SendFails, RecvFails, OutcomeStands, AreAmong, Stands, AllStand}
use Rattle.link_answers.specs.Keeping.{LinkStands, HasAsked, OutcomesStand, WaitStands, parts_in, CalledStands, Leads, IsEarly, PlaceStands, SentStands, AwaitedStands, TimedStands, StateStands}
use Rattle.link_answers.proofs.Joining.{among_weaker, among_longer, none_waits, waits_longer}
use Rattle.link_answers.proofs.Sides.{waits_in}
use Rattle.link_answers.proofs.Waits.{waits_at, WasBefore}

-- all that was given was given still
pub record Grows (g h : Given) : Type 0 where
  pub asked : (x : ℕ × LinkCall) → Contains g.asked x → Contains h.asked x
  pub later : List (ℕ × LinkInput)
  pub all_read : h.read ≡ g.read ++ later

module _ (g h : Given) (f : Grows g h) where
  was_read : (x : ℕ × LinkInput) → Contains g.read x → Contains h.read x
  was_read x k = subst (λ (xs : List (ℕ × LinkInput)). Contains xs x) (sym f.all_read) (Contains-append_left g.read f.later x k)

  abbrev answered : (n : ℕ) → IsAnswered g n → IsAnswered h n
  answered n k = record { call = k.call; asked = f.asked (n, k.call) k.asked; session = k.session; attach = k.attach; is_for = k.is_for; read = was_read (k.session, input.Attach k.attach) k.read }

  detached : (Of : Detach → Type 0) (n : ℕ) → IsDetached Of g n → IsDetached Of h n
  detached Of n k = record {
    answered = answered n k.answered;
    detach = k.detach;
    is_so = k.is_so;
    handle = k.handle;
    read = was_read (k.answered.session, input.Detach k.detach) k.read;
  }

  all_handed : (n : ℕ) (xs : List Part) (read : List (ℕ × LinkInput)) → AreAmong (IsHanded g n) xs read → AreAmong (IsHanded h n) xs read
  all_handed n xs read k = among_weaker (IsHanded g n) (IsHanded h n) (λ x it i. record { answered = answered n i.answered; handle = i.handle; same = i.same }) xs read k

  -- what was read is the front of what was read then
  read_still : {X : Type 0} (R : X → ℕ × LinkInput → Type 0) (xs : List X) → AreAmong R xs g.read → AreAmong R xs h.read
  read_still R xs k = subst (AreAmong R xs) (sym f.all_read) (among_longer R xs g.read f.later k)

  wait_grows : (n : ℕ) (read : List (ℕ × LinkInput)) (incoming : List Incoming) (buffer : Option Incomplete) → WaitStands g n read incoming buffer → WaitStands h n read incoming buffer
  wait_grows n read incoming buffer k = record { begun = k.begun; has = k.has; handed = all_handed n (k.begun ++ parts_in incoming) read k.handed }

  attached : (w : List Written) (n : ℕ) (r : Role) → HasAttached g w n r → HasAttached h w n r
  attached w n r k = record { call = k.call; asked = f.asked (n, k.call) k.asked; session = k.session; attach = k.attach; is_for = k.is_for; in_role = k.in_role; out = k.out }

  call_on : (n : ℕ) (x : LinkCall) → IsCallOn g.asked n x → IsCallOn h.asked n x
  call_on n (call.Outcome name) k = (k.0, (f.asked (name, k.0) k.1.0, k.1.1))
  call_on n (call.Send other message) k = k
  call_on n (call.SendTimed other message timeout) k = k
  call_on n (call.Recv other) k = k
  call_on n (call.Part other how) k = k
  call_on n other k = absurd k

  is_on : (name n : ℕ) → IsOn g.asked name n → IsOn h.asked name n
  is_on name n k = (k.0, (f.asked (name, k.0) k.1.0, call_on n k.0 k.1.1))

  has_asked : (name : ℕ) (Of : LinkCall → Type 0) → HasAsked g name Of → HasAsked h name Of
  has_asked name Of k = (k.0, (k.1.0, f.asked (name, k.0) k.1.1))

  -- ---- answers

  attach_fails : (n : ℕ) (e : AttachError) → AttachFails g n e → AttachFails h n e
  attach_fails n (attach.RemoteClosedWithError x) k = detached _ n k
  attach_fails n other k = tt

  state_fails : (n : ℕ) (e : LinkStateError) → StateFails g n e → StateFails h n e
  state_fails n state.RemoteDetached k = detached _ n k
  state_fails n (state.RemoteDetachedWithError x) k = detached _ n k
  state_fails n state.RemoteClosed k = detached _ n k
  state_fails n (state.RemoteClosedWithError x) k = detached _ n k
  state_fails n other k = tt

  part_fails : (n : ℕ) (e : DetachError) → PartFails g n e → PartFails h n e
  part_fails n detach.DetachedByRemote k = detached _ n k
  part_fails n (detach.RemoteDetachedWithError x) k = detached _ n k
  part_fails n detach.ClosedByRemote k = detached _ n k
  part_fails n (detach.RemoteClosedWithError x) k = detached _ n k
  part_fails n other k = tt

  send_fails : (name : ℕ) (e : SendError) → SendFails g name e → SendFails h name e
  send_fails name (send.LinkStateError e) k = (k.0, (is_on name k.0 k.1.0, state_fails k.0 e k.1.1))
  send_fails name other k = tt

  recv_fails : (name : ℕ) (e : RecvError) → RecvFails g name e → RecvFails h name e
  recv_fails name (recv.LinkStateError e) k = (k.0, (is_on name k.0 k.1.0, state_fails k.0 e k.1.1))
  recv_fails name other k = tt

  is_sent : (w : List Written) (name : ℕ) → IsSent g w name → IsSent h w name
  is_sent w name k = record { link = k.link; message = k.message; asked = by k.asked; own = k.own }
    where
      by : Contains g.asked (name, call.Send k.link k.message) ⊎ ((timeout : ℕ) × Contains g.asked (name, call.SendTimed k.link k.message timeout))
          → Contains h.asked (name, call.Send k.link k.message) ⊎ ((timeout : ℕ) × Contains h.asked (name, call.SendTimed k.link k.message timeout))
      by (inl a) = inl (f.asked (name, call.Send k.link k.message) a)
      by (inr a) = inr (a.0, f.asked (name, call.SendTimed k.link k.message a.0) a.1)

  parted : (Kind : Parting → Type 0) (w : List Written) (name : ℕ) → IsParted Kind g w name → IsParted Kind h w name
  parted Kind w name k = record { link = k.link; how = k.how; kind = k.kind; asked = f.asked (name, call.Part k.link k.how) k.asked; own = k.own; theirs = detached _ k.link k.theirs }

  outcome_grows : (w : List Written) (n : ℕ) (x : Outcome) → OutcomeStands g w n x → OutcomeStands h w n x
  outcome_grows w n x (inl k) = inl k
  outcome_grows w n x (inr k) = inr (record { session = k.session; disposition = k.disposition; says = k.says; read = was_read (k.session, input.Disposition k.disposition) k.read })

  pub answer_grows : (w : List Written) (name : ℕ) (r : LinkReply) → Stands g w name r → Stands h w name r
  answer_grows w name reply.Sender k = (attached w name role.Sender k.0, answered name k.1)
  answer_grows w name reply.Receiver k = (attached w name role.Receiver k.0, answered name k.1)
  answer_grows w name reply.Sent k = is_sent w name k
  answer_grows w name (reply.Outcome x) k = (k.0, (is_on name k.0 k.1.0, outcome_grows w k.0 x k.1.1))
  answer_grows w name reply.Detached k = parted _ w name k
  answer_grows w name reply.Closed k = parted _ w name k
  answer_grows w name (reply.SenderAttachError e) k = attach_fails name e k
  answer_grows w name (reply.ReceiverAttachError e) k = attach_fails name e k
  answer_grows w name (reply.AcceptError (LocalSender e)) k = attach_fails name e k
  answer_grows w name (reply.AcceptError (LocalReceiver e)) k = attach_fails name e k
  answer_grows w name (reply.SendError e) k = send_fails name e k
  answer_grows w name (reply.RecvError e) k = recv_fails name e k
  answer_grows w name (reply.Delivery info message) k =
      (k.0, (is_on name k.0 k.1.0, (let i = k.1.1 in record { parts = i.parts; handed = all_handed k.0 i.parts h.read (read_still (IsHanded g k.0) i.parts i.handed); whole = i.whole; spelled = i.spelled })))
  answer_grows w name (reply.DetachError e) k = (k.0, (is_on name k.0 k.1.0, part_fails k.0 e k.1.1))
  answer_grows w name other k = tt

  answers_grow : (w : List Written) (rs : List NamedLinkReply) → AllStand g w rs → AllStand h w rs
  answers_grow w rs k = All-weaker (λ (r : NamedLinkReply). Stands g w r.name r.reply) (λ (r : NamedLinkReply). Stands h w r.name r.reply) (λ r i. answer_grows w r.name r.reply i) rs k

  -- ---- the state

  link_grows : (w : List Written) (n : ℕ) (l : Link) → LinkStands g w n l → LinkStands h w n l
  link_grows w n l k = record {
    made = λ e. answered n (k.made e);
    out = k.out;
    over = λ e. detached _ n (k.over e);
    remote = λ d e. detached _ n (k.remote d e);
    failure = λ x e. attach_fails n x (k.failure x e);
    last = λ x e. detached _ n (k.last x e);
  }

  outcomes_grow : (w : List Written) (n : ℕ) (a : Side) → OutcomesStand g w n a → OutcomesStand h w n a
  outcomes_grow w n (Sender s) k = λ place x e. outcome_grows w n x (k place x e)
  outcomes_grow w n (Receiver s) k =
      subst (λ (xs : List (ℕ × LinkInput)). WaitStands h n xs s.incoming s.buffer) (sym f.all_read) (waits_longer h n g.read f.later s.incoming s.buffer (wait_grows n g.read s.incoming s.buffer k))

  called_grows : (w : List Written) (n : ℕ) (l : Called) → CalledStands g w n l → CalledStands h w n l
  called_grows w n l k = record {
    asked = has_asked n _ k.asked;
    outcomes = outcomes_grow w n l.side k.outcomes;
    own = attached w n _ k.own;
    link = link_grows w n (link_in l.side) k.link;
    attaching = k.attaching;
    waiting = All-weaker (λ (e : ℕ × ℕ). IsOn g.asked e.1 n) (λ (e : ℕ × ℕ). IsOn h.asked e.1 n) (λ e i. is_on e.1 n i) l.waiting k.waiting;
    parting = λ p e. (let i = k.parting p e in (i.0, (i.1.0, f.asked (p.name, call.Part n i.0) i.1.1)));
    answers = answers_grow w l.answers k.answers;
  }

  leads_grow : (session remote n : ℕ) → Leads g session remote n → Leads h session remote n
  leads_grow session remote n k =
      let a = k.answered in
      record {
        answered = record { call = a.call; asked = f.asked (n, a.call) a.asked; session = a.session; attach = a.attach; is_for = a.is_for; read = was_read (a.session, input.Attach a.attach) a.read };
        on_session = k.on_session;
        has = k.has;
      }

  place_grows : (session : ℕ) (p : Place) → PlaceStands g session p → PlaceStands h session p
  place_grows session p k = record {
    senders = All-weaker (λ (e : List ℕ × ℕ). HasAsked g e.1 (IsCallFor session e.0 role.Sender)) (λ (e : List ℕ × ℕ). HasAsked h e.1 (IsCallFor session e.0 role.Sender)) (λ e i. has_asked e.1 _ i) p.table.senders k.senders;
    receivers = All-weaker (λ (e : List ℕ × ℕ). HasAsked g e.1 (IsCallFor session e.0 role.Receiver)) (λ (e : List ℕ × ℕ). HasAsked h e.1 (IsCallFor session e.0 role.Receiver)) (λ e i. has_asked e.1 _ i) p.table.receivers k.receivers;
    remotes = All-weaker (λ (e : ℕ × ℕ). Leads g session e.0 e.1) (λ (e : ℕ × ℕ). Leads h session e.0 e.1) (λ e i. leads_grow session e.0 e.1 i) p.table.remotes k.remotes;
    attaches = All-weaker (λ (x : Attach). Contains g.read (session, input.Attach x)) (λ (x : Attach). Contains h.read (session, input.Attach x)) (λ x i. was_read (session, input.Attach x) i) p.attaches k.attaches;
    early = All-weaker (λ (e : ℕ × List LinkInput). AreAmong (IsEarly session e.0) e.1 g.read) (λ (e : ℕ × List LinkInput). AreAmong (IsEarly session e.0) e.1 h.read) (λ e i. read_still (IsEarly session e.0) e.1 i) p.early k.early;
    accepting = λ a e. f.asked (a.name, call.Accept session a.settings a.credit_mode a.auto_accept) (k.accepting a e);
  }

  awaited_grows : (n name : ℕ) (x : Awaited) → AwaitedStands g n name x → AwaitedStands h n name x
  awaited_grows n name (awaited.Credit message) k = (k.0, f.asked (name, call.SendTimed n message k.0) k.1)
  awaited_grows n name (awaited.Outcome token) k = tt
  awaited_grows n name awaited.Detach k = tt

  pub state_grows : (w : List Written) (s : State) → StateStands g w s → StateStands h w s
  state_grows w s k = record {
    places = λ session p e. place_grows session p (k.places session p e);
    links = λ n l e. called_grows w n l (k.links n l e);
    sends = All-weaker (SentStands g) (SentStands h) (λ e i. has_asked e.0 (IsSendOver e.1.link) i) s.sends k.sends;
    timed = All-weaker (TimedStands g) (TimedStands h) (λ e i. awaited_grows e.0 e.1.timer.name e.1.awaited i) s.timed k.timed;
    replies = answers_grow w s.replies k.replies;
  }

  -- ---- before the last was read

  side_waits : (w : List Written) (n : ℕ) (a : Side) → OutcomesStand g w n a → WaitStands h n g.read (waits_in a).0 (waits_in a).1
  side_waits w n (Sender s) k = none_waits h n g.read
  side_waits w n (Receiver s) k = wait_grows n g.read s.incoming s.buffer k

  waits_as : (w : List Written) (n : ℕ) (o : Option Called) (x : List Incoming × Option Incomplete) → ((l : Called) → o ≡ Some l → CalledStands g w n l) → waits_at o ≡ Some x → WaitStands h n g.read x.0 x.1
  waits_as w n None x k e = absurd cc
  waits_as w n (Some l) x k e = (let same : waits_in l.side ≡ x = cc in subst (λ (y : List Incoming × Option Incomplete). WaitStands h n g.read y.0 y.1) same (side_waits w n l.side (k l refl).outcomes))

  pub was_before : (w : List Written) (s : State) → StateStands g w s → WasBefore h g.read s
  was_before w s k = record {
    waits = λ n x e. waits_as w n (link_of n s) x (k.links n) e;
    early = λ session p e. (k.places session p e).early;
  }
