-- The frames for which answers of one end stand were put out by links of the other.
use Rattle.std.proofs.Common.{inl, inr, refl, subst, ℕ, Bool, not, List, [], ◌∷◌, All, Contains}
use Rattle.std.proofs.lemmas.List.Elements.{All-nil, All-cons, All-head, All-tail, All-weaker, All-contains}
use Rattle.amqp_calls.specs.declared.reply.NamedReply.{NamedReply}
use Rattle.amqp_calls.specs.declared.reply.Reply.{Reply}
use Rattle.amqp_calls.specs.declared.reply.Reply.TheVariants as of
use Rattle.amqp_calls.specs.declared.step.Step.{Step}
use Rattle.amqp_calls.specs.declared.trace.Entry.{Entry}
use Rattle.amqp_delivery.specs.declared.info.DeliveryInfo.{DeliveryInfo}
use Rattle.amqp_link.specs.declared.error.AttachError.{AttachError}
use Rattle.amqp_link.specs.declared.error.AttachError.TheVariants as attach
use Rattle.amqp_link.specs.declared.error.DetachError.{DetachError}
use Rattle.amqp_link.specs.declared.error.DetachError.TheVariants as detach
use Rattle.amqp_link.specs.declared.error.LinkStateError.{LinkStateError}
use Rattle.amqp_link.specs.declared.error.LinkStateError.TheVariants as state
use Rattle.amqp_link_words.specs.declared.link_call.LinkCall.TheVariants as call
use Rattle.amqp_link_words.specs.declared.link_call.Parting.{Parting}
use Rattle.amqp_link_words.specs.declared.link_reply.AcceptError.TheVariants.{LocalSender, LocalReceiver}
use Rattle.amqp_link_words.specs.declared.link_reply.LinkReply.{LinkReply}
use Rattle.amqp_link_words.specs.declared.link_reply.LinkReply.TheVariants as reply
use Rattle.amqp_messages.specs.declared.message.Body.{Body}
use Rattle.amqp_messages.specs.declared.message.Message.{Message}
use Rattle.amqp_parts.specs.declared.part.Part.{Part}
use Rattle.amqp_peer.specs.Frames.{asks}
use Rattle.amqp_performatives.specs.declared.detach.Detach.{Detach}
use Rattle.amqp_receiver.specs.declared.error.RecvError.TheVariants as recv
use Rattle.amqp_sender.specs.declared.error.SendError.TheVariants as send
use Rattle.amqp_session.specs.declared.session.LinkInput.{LinkInput}
use Rattle.amqp_session.specs.declared.session.LinkInput.TheVariants as input
use Rattle.amqp_session_world.specs.Carried.{AreCarried, life_in}
use Rattle.amqp_session_world.specs.Lives.{told_at}
use Rattle.amqp_termini.specs.declared.outcome.Outcome.{Outcome}
use Rattle.amqp_transport.specs.declared.frames.Frame.{Frame}
use Rattle.amqp_words.specs.declared.step.End.{End as Side}
use Rattle.amqp_words.specs.declared.step.End.TheVariants.{Client, Listener}
use Rattle.amqp_world.specs.History.{other}
use Rattle.link_answers.specs.Laws.{nothing, StandsAs, AllAnswered, TraceStands}
use Rattle.link_answers.specs.Passing.{read_by, behind}
use Rattle.link_answers.specs.Standing.{Read, AreAmong, Given, Written, IsAnswered, IsDetached, IsHanded, IsGiven, IsParted, AttachFails, StateFails, PartFails, OutcomeStands, OnLink, Stands}
use Rattle.link_answers.specs.Worlds.{Ends, WasPut, IsAnsweredBy, IsDetachedBy, IsHandedBy, IsGivenBy, OutcomeBy, AttachFailsBy, StateFailsBy, PartFailsBy, IsSaidBy, IsSaidAs, ends_of, EndMeets}
use Rattle.link_answers.proofs.Passed.{traces_pass}
use Rattle.link_answers.proofs.Traces.{trace_answers_stand}
use Rattle.link_answers.proofs.Handed.{all_from}

module _ (w : Ends) (near : List Written) (g : Given) (from : All (λ (e : ℕ × LinkInput). WasPut w e.0 e.1) g.read) where
  one_from : (session : ℕ) (x : LinkInput) → Contains g.read (session, x) → WasPut w session x
  one_from session x h = All-contains (λ (e : ℕ × LinkInput). WasPut w e.0 e.1) g.read (session, x) from h

  answered_by : (link : ℕ) → IsAnswered g link → IsAnsweredBy w g link
  answered_by link k = (k, one_from k.session (input.Attach k.attach) k.read)

  detached_by : (Of : Detach → Type 0) (link : ℕ) → IsDetached Of g link → IsDetachedBy Of w g link
  detached_by Of link k = record {
    detached = k;
    attach = one_from k.answered.session (input.Attach k.answered.attach) k.answered.read;
    detach = one_from k.answered.session (input.Detach k.detach) k.read;
  }

  attach_fails : (name : ℕ) (e : AttachError) → AttachFails g name e → AttachFailsBy w g name e
  attach_fails name (attach.RemoteClosedWithError x) k = detached_by _ name k
  attach_fails name other k = tt

  state_fails : (link : ℕ) (e : LinkStateError) → StateFails g link e → StateFailsBy w g link e
  state_fails link state.RemoteDetached k = detached_by _ link k
  state_fails link (state.RemoteDetachedWithError x) k = detached_by _ link k
  state_fails link state.RemoteClosed k = detached_by _ link k
  state_fails link (state.RemoteClosedWithError x) k = detached_by _ link k
  state_fails link other k = tt

  part_fails : (link : ℕ) (e : DetachError) → PartFails g link e → PartFailsBy w g link e
  part_fails link detach.DetachedByRemote k = detached_by _ link k
  part_fails link (detach.RemoteDetachedWithError x) k = detached_by _ link k
  part_fails link detach.ClosedByRemote k = detached_by _ link k
  part_fails link (detach.RemoteClosedWithError x) k = detached_by _ link k
  part_fails link other k = tt

  outcome_by : (link : ℕ) (x : Outcome) → OutcomeStands g near link x → OutcomeBy w g near link x
  outcome_by link x (inl h) = inl h
  outcome_by link x (inr h) = inr (h, one_from h.session (input.Disposition h.disposition) h.read)

  handed_by : (link : ℕ) (x : Part) (it : Read) → IsHanded g link x it → WasPut w it.0 it.1 → IsHandedBy w g link x
  handed_by link x it k sent = record {
    it = it;
    handed = k;
    attach = one_from k.answered.session (input.Attach k.answered.attach) k.answered.read;
    sent = subst (λ (e : Read). WasPut w e.0 e.1) k.same sent;
  }

  handed_all : (link : ℕ) (xs : List Part) (ys : List Read) → All (λ (e : Read). WasPut w e.0 e.1) ys
      → AreAmong (IsHanded g link) xs ys → All (IsHandedBy w g link) xs
  handed_all link [] ys sent k = All-nil (IsHandedBy w g link)
  handed_all link (x ∷ xs) [] sent k = absurd k
  handed_all link (x ∷ xs) (y ∷ ys) sent (inl k) =
      All-cons (IsHandedBy w g link) x xs (handed_by link x y k.0 (All-head (λ (e : Read). WasPut w e.0 e.1) y ys sent))
      (handed_all link xs ys (All-tail (λ (e : Read). WasPut w e.0 e.1) y ys sent) k.1)
  handed_all link (x ∷ xs) (y ∷ ys) sent (inr k) =
      handed_all link (x ∷ xs) ys (All-tail (λ (e : Read). WasPut w e.0 e.1) y ys sent) k

  given_by : (link : ℕ) (info : DeliveryInfo) (message : Message Body) → IsGiven g link info message → IsGivenBy w g link info message
  given_by link info message k = (k, handed_all link k.parts g.read from k.handed)

  parted_by : (Kind : Parting → Type 0) (name : ℕ) → IsParted Kind g near name → OnLink g name (λ link. IsDetachedBy (λ x. Unit {0}) w g link)
  parted_by Kind name k = (k.link, ((call.Part k.link k.how, (k.asked, refl)), detached_by _ k.link k.theirs))

  said_by : (name : ℕ) (r : LinkReply) → Stands g near name r → IsSaidBy w g near name r
  said_by name reply.Sender k = answered_by name k.1
  said_by name reply.Receiver k = answered_by name k.1
  said_by name (reply.Outcome x) k = (k.0, (k.1.0, outcome_by k.0 x k.1.1))
  said_by name (reply.Delivery info message) k = (k.0, (k.1.0, given_by k.0 info message.value k.1.1))
  said_by name reply.Detached k = parted_by _ name k
  said_by name reply.Closed k = parted_by _ name k
  said_by name (reply.SenderAttachError e) k = attach_fails name e k
  said_by name (reply.ReceiverAttachError e) k = attach_fails name e k
  said_by name (reply.AcceptError (LocalSender e)) k = attach_fails name e k
  said_by name (reply.AcceptError (LocalReceiver e)) k = attach_fails name e k
  said_by name (reply.SendError (send.LinkStateError e)) k = (k.0, (k.1.0, state_fails k.0 e k.1.1))
  said_by name (reply.RecvError (recv.LinkStateError e)) k = (k.0, (k.1.0, state_fails k.0 e k.1.1))
  said_by name (reply.DetachError e) k = (k.0, (k.1.0, part_fails k.0 e k.1.1))
  said_by name other k = tt

  said_as : (name : ℕ) (r : Reply) → StandsAs g near name r → IsSaidAs w g near name r
  said_as name (of.Link r) k = said_by name r k
  said_as name (of.Session r) k = tt
  said_as name (of.Connection r) k = tt

  all_said : (rs : List NamedReply) → AllAnswered g near rs → All (λ (r : NamedReply). IsSaidAs w g near r.name r.reply) rs
  all_said rs k = All-weaker (λ (r : NamedReply). StandsAs g near r.name r.reply) (λ (r : NamedReply). IsSaidAs w g near r.name r.reply) (λ r h. said_as r.name r.reply h) rs k

meet : (e : Side) (steps : List Step) (entries : List Entry) (k : AreCarried steps entries) (near : TraceStands (told_at e steps entries) (life_in e steps entries k.made).deeds) (far : TraceStands (told_at (other e) steps entries) (life_in (other e) steps entries k.made).deeds)
    → All (λ (x : ℕ × LinkInput). WasPut (ends_of e steps entries k far.written) x.0 x.1) (read_by (life_in e steps entries k.made).deeds) → EndMeets e steps entries k
meet e steps entries k near far from = record {
  near = near;
  far = far;
  handed = from;
  said = all_said (ends_of e steps entries k far.written) near.written (behind (life_in e steps entries k.made).deeds nothing) from (told_at e steps entries) near.stand;
}

-- whether a frame asks for no session
abbrev is_other : Frame → Bool
is_other x = not (asks x.body)

pub ends_meet : (e : Side) (steps : List Step) (entries : List Entry) (k : AreCarried steps entries) → EndMeets e steps entries k
ends_meet Client steps entries k =
    let far : TraceStands (told_at Listener steps entries) (life_in Listener steps entries k.made).deeds = trace_answers_stand Listener steps entries k in
    meet Client steps entries k (trace_answers_stand Client steps entries k) far
    (all_from (life_in Client steps entries k.made).deeds (life_in Listener steps entries k.made).deeds is_other far.later k.client.heard.0 far.written (traces_pass Client steps entries k) (traces_pass Listener steps entries k) k.client.heard.1 far.output)
ends_meet Listener steps entries k =
    let far : TraceStands (told_at Client steps entries) (life_in Client steps entries k.made).deeds = trace_answers_stand Client steps entries k in
    meet Listener steps entries k (trace_answers_stand Listener steps entries k) far
    (all_from (life_in Listener steps entries k.made).deeds (life_in Client steps entries k.made).deeds is_other far.later k.listener.heard.0 far.written (traces_pass Listener steps entries k) (traces_pass Client steps entries k) k.listener.heard.1 far.output)
