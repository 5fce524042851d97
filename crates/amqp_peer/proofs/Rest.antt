-- Laws of an end that can do no more now, and of one whose connection has stopped.
use Rattle.std.proofs.Common.{◌≡◌, ◌⊎◌, inl, inr, ℕ, List, [], ◌∷◌, ◌++◌, true, false, Option, refl, sym, ap, ◌∙◌, subst, arith}
use Rattle.std.proofs.lemmas.List.{append-nil}
use Rattle.amqp_performatives.specs.declared.close.Close.{Close}
use Rattle.amqp_frames.specs.declared.body.FrameBody.TheVariants as b
use Rattle.amqp_frames.specs.declared.shared.ConnectionStopReason.{ConnectionStopReason}
use Rattle.amqp_wire.specs.Codec.{Codec}
use Rattle.amqp_wire.specs.declared.link.Held.TheVariants.{Full}
use Rattle.amqp_wire.specs.Events.{NotWritten, Includes}
use Rattle.amqp_transport.specs.declared.frames.Frame.{Frame}
use Rattle.amqp_transport.specs.declared.heart_beat.HeartBeat.{HeartBeat}
use Rattle.amqp_transport.specs.Clocks.{IsDue, HasElapsed}
use Rattle.amqp_transport.specs.Stream.{IsPart}
use Rattle.amqp_engine.specs.declared.phase.BodyKind.{BodyKind}
use Rattle.amqp_engine.specs.declared.phase.BodyKind.TheVariants as kind
use Rattle.amqp_engine.specs.declared.phase.Phase.{Phase}
use Rattle.amqp_engine.specs.declared.phase.Phase.TheVariants as p
use Rattle.amqp_engine.specs.Heard.{AllUnclosed, IsGreeted, IsHeard, IsOver}
use Rattle.amqp_engine.specs.Phases.{kind_of, is_stopped, has_failed}
use Rattle.amqp_engine.specs.Sentence.{IsSaid}
use Rattle.amqp_engine.specs.State.{State}
use Rattle.amqp_opening.specs.declared.authentication.Authentication.{Authentication}
use Rattle.amqp_opening.specs.Opening.{Opened}
use Rattle.amqp_words.specs.declared.call.Call.{Call}
use Rattle.amqp_words.specs.declared.reply.Reply.{Reply}
use Rattle.amqp_words.specs.declared.reply.Reply.TheVariants as reply
use Rattle.amqp_words.specs.declared.reply.NamedReply.{NamedReply}
use Rattle.amqp_peer.specs.declared.held.Held.{Held}
use Rattle.amqp_peer.specs.declared.held.Held.TheVariants.{Early, Late, Unopened}
use Rattle.amqp_peer.specs.declared.peer.Progress.{Progress}
use Rattle.amqp_peer.specs.declared.peer.Progress.TheVariants as progress
use Rattle.amqp_peer.specs.declared.prepared.Prepared.{Prepared}
use Rattle.amqp_peer.specs.Beats.{beat_in}
use Rattle.amqp_peer.specs.Causes.{BeginsWithOpen, EndsWithClose, IsOther, idle_with, prepared_in}
use Rattle.amqp_peer.specs.Held.{IsMidway, IsAwaiting, IsLeaving, IsLeavingIn, IsAtRestIn, IsSorted}
use Rattle.amqp_peer.specs.History.{Local, made_in, link_in, given_in, sent_in, replied_in, moment_in}
use Rattle.amqp_peer.specs.Peering.{Peering, Has, HasIn, IsRunning, IsUnmadeAt, IsUnmade}
use Rattle.amqp_peer.specs.Prepared.{prepared_of}
use Rattle.amqp_peer.specs.Replies.{pending, connection, answered, IsCloseEnd}
use Rattle.amqp_peer.specs.Rest.{OpenWaits, CloseWaits, HasWaiting, IsAllOut, HasPassed, RestsBehind, HasParted}
use Rattle.amqp_peer.specs.Runs.{CallWaits, IsFlushed, IsConcluded}
use Rattle.amqp_peer.specs.Said.{HasClose}
use Rattle.amqp_peer.proofs.Answers.{ends_with_close, said_close, over_in}
use Rattle.amqp_peer.proofs.Beats.{unheard_period}
use Rattle.amqp_peer.proofs.Grows.{is_running, unheard_of}
use Rattle.amqp_peer.proofs.Hears.{greeted_begins, mistaken_other}
use Rattle.amqp_peer.proofs.Refusals.{refusal_waits_not, refusal_closes_not}
use Rattle.amqp_peer.proofs.Written.{queued_running, read_running}

-- ---- the phases in which a frame is awaited

-- the peer's Open was read, or nothing
heard_at : (q : Phase) (reason : ConnectionStopReason) (given : List Frame) → IsAwaiting q → IsHeard q reason given → (given ≡ []) ⊎ IsGreeted given
heard_at p.OpenSent reason given a h = inl h.0
heard_at p.Opened reason given a h = inr h.0
heard_at p.CloseReceived reason given a h = absurd a
heard_at p.Refused reason given a h = absurd a
heard_at (p.Rejected why) reason given a h = absurd a
heard_at p.CloseSent reason given a h = inr h.0
heard_at p.Discarding reason given a h = inr h.0
heard_at p.Ended reason given a h = absurd a
heard_at p.Failed reason given a h = absurd a

-- a Close is queued, where one is queued or owed
said_at : (q : Phase) (sent : List Frame) → IsAwaiting q → IsLeaving q → IsSaid q sent → EndsWithClose sent
said_at p.OpenSent sent a l s = absurd l
said_at p.Opened sent a l s = absurd l
said_at p.CloseReceived sent a l s = absurd a
said_at p.Refused sent a l s = absurd a
said_at (p.Rejected why) sent a l s = absurd a
said_at p.CloseSent sent a l s = ends_with_close sent s
said_at p.Discarding sent a l s = ends_with_close sent s
said_at p.Ended sent a l s = absurd a
said_at p.Failed sent a l s = absurd a

awaiting_sound : (q : Phase) → IsAwaiting q → has_failed q ≡ false
awaiting_sound p.OpenSent a = refl
awaiting_sound p.Opened a = refl
awaiting_sound p.CloseReceived a = absurd a
awaiting_sound p.Refused a = absurd a
awaiting_sound (p.Rejected why) a = absurd a
awaiting_sound p.CloseSent a = refl
awaiting_sound p.Discarding a = refl
awaiting_sound p.Ended a = absurd a
awaiting_sound p.Failed a = absurd a

-- ---- no Close was read

abbrev behind : List Frame → List Frame
behind [] = []
behind (x ∷ xs) = xs

abbrev kind_first : List Frame → BodyKind
kind_first [] = kind.Empty
kind_first (x ∷ xs) = kind_of x.body

unclosed_not : (front more : List Frame) (channel : ℕ) (last : Close) → AllUnclosed (front ++ record { channel = channel; body = b.Close last } ∷ more) → ⊥
unclosed_not [] more channel last u = u.0 tt
unclosed_not (x ∷ front) more channel last u = unclosed_not front more channel last u.1

greeted_not : (front more : List Frame) (channel : ℕ) (last : Close) (g : Frame) (behind_it : List Frame) → kind_of g.body ≡ kind.Open → AllUnclosed behind_it → front ++ record { channel = channel; body = b.Close last } ∷ more ≡ g ∷ behind_it → ⊥
greeted_not [] more channel last g behind_it o u e = absurd (cc (ap kind_first e ∙ o))
greeted_not (x ∷ front) more channel last g behind_it o u e = unclosed_not front more channel last (subst AllUnclosed (sym (ap behind e)) u)

nothing_not : (front more : List Frame) (x : Frame) → front ++ x ∷ more ≡ [] → ⊥
nothing_not [] more x e = absurd (cc e)
nothing_not (y ∷ front) more x e = absurd (cc e)

-- the peer's Open was read, or nothing: no Close
unclosed : (given : List Frame) → (given ≡ []) ⊎ IsGreeted given → HasClose given → ⊥
unclosed given (inl e) c = nothing_not c.front c.more (record { channel = c.channel; body = b.Close c.last }) (sym c.is ∙ e)
unclosed given (inr g) c = greeted_not c.front c.more c.channel c.last (record { channel = g.channel; body = b.Open g.first }) g.more refl g.each (sym c.is ∙ g.is)

-- ---- which call waits

abbrev third_reply : List NamedReply → Reply
third_reply [] = reply.Closed
third_reply (x ∷ []) = reply.Closed
third_reply (x ∷ y ∷ []) = reply.Closed
third_reply (x ∷ y ∷ z ∷ more) = z.reply

-- a close that was answered does not wait
answered_not : (replied : List NamedReply) (first name n m : ℕ) (r : Reply) → IsCloseEnd r → replied ≡ pending first ∷ connection first ∷ pending name ∷ [] → replied ≡ pending n ∷ connection n ∷ answered m r ∷ [] → ⊥
answered_not replied first name n m r k e f = subst IsCloseEnd (sym (ap third_reply f) ∙ ap third_reply e) k

pub opening_waits : {L : Type 0} (p : Peering L) (h : List Local) → Has p h → p.progress ≡ progress.Opening → OpenWaits h
opening_waits p h x e = let w = subst (λ (q : Progress). HasIn q p h) e x in (p.name, w.replied)

pub closing_waits : {L : Type 0} (p : Peering L) (h : List Local) → Has p h → p.progress ≡ progress.Closing → CloseWaits h
closing_waits p h x e = let w = subst (λ (q : Progress). HasIn q p h) e x in (w.name, p.name, w.replied)

-- ---- an end that waits for its peer

-- all that was queued is written
out_now : {L : Type 0} (call : Call) (s : State L) (h : List Local) → IsRunning call s h → s.wire.codec.output ≡ [] → IsAllOut h
out_now call s h k e = record { queued = queued_running call s h k; none = e; behind = refl }

-- no beat is due where no Close was sent
undue_at : {L : Type 0} (q : Phase) (s : State L) (h : List Local) → s.phase ≡ q → IsAwaiting q → IsHeard q s.reason (given_in h) → IsSaid q (sent_in h) → s.beat ≡ beat_in h → (s.phase ≡ p.Opened → IsDue s.beat (moment_in h) → ⊥) → (EndsWithClose (sent_in h) → ⊥) → IsDue (beat_in h) (moment_in h) → ⊥
undue_at p.OpenSent s h e a k said b u n d = omega (arith, d.runs, unheard_period h k.0)
undue_at p.Opened s h e a k said b u n d = u e (subst (λ (z : HeartBeat). IsDue z (moment_in h)) (sym b) d)
undue_at p.CloseReceived s h e a k said b u n d = a
undue_at p.Refused s h e a k said b u n d = a
undue_at (p.Rejected why) s h e a k said b u n d = a
undue_at p.CloseSent s h e a k said b u n d = n (ends_with_close (sent_in h) said)
undue_at p.Discarding s h e a k said b u n d = n (ends_with_close (sent_in h) said)
undue_at p.Ended s h e a k said b u n d = a
undue_at p.Failed s h e a k said b u n d = a

unelapsed_at : {L : Type 0} (call : Call) (s : State L) (h : List Local) → IsRunning call s h → prepared_in (made_in h) ≡ prepared_of call → (HasElapsed s.wire.clock (moment_in h) → ⊥) → HasPassed h → ⊥
unelapsed_at call s h k own n z =
    let idle : idle_with (prepared_in (made_in h)) ≡ s.wire.clock.idle = ap idle_with (own ∙ k.prepared) ∙ sym k.idle in
    n (record { runs = omega (arith, idle, z.runs); passed = omega (arith, idle, k.start, z.passed) })

rests : {L : Type 0} (call : Call) (s : State L) (h : List Local) → IsRunning call s h → prepared_in (made_in h) ≡ prepared_of call → IsAtRestIn (moment_in h) s × (s.wire.codec.output ≡ []) → (OpenWaits h → given_in h ≡ []) → (CloseWaits h → EndsWithClose (sent_in h)) → RestsBehind h
rests call s h k own r o c =
    let heard = heard_at s.phase s.reason (given_in h) r.0.awaits k.runs.heard in
    record {
      rest = s.wire.codec.input ++ [];
      read = read_running call s h [] k;
      part = subst IsPart (sym (append-nil s.wire.codec.input)) r.0.part;
      out = out_now call s h k r.1;
      opens = k.opens;
      heard = heard;
      unclosed = unclosed (given_in h) heard;
      opening = o;
      closing = c;
      undue = undue_at s.phase s h refl r.0.awaits k.runs.heard k.runs.said k.beat r.0.undue;
      unelapsed = unelapsed_at call s h k own r.0.unelapsed;
    }

-- no Open was read, and so nothing
unheard_none : (given : List Frame) → (given ≡ []) ⊎ IsGreeted given → (BeginsWithOpen given → ⊥) → given ≡ []
unheard_none given (inl e) u = e
unheard_none given (inr g) u = absurd (u (greeted_begins given g))

rests_in : {L : Type 0} (q : Progress) (p : Peering L) (h : List Local) (s : State L) → HasIn q p h → p.held ≡ Late s → IsAtRestIn (moment_in h) s × (s.wire.codec.output ≡ []) → RestsBehind h
rests_in progress.Idle p h s x e r = absurd (cc (sym e ∙ x.holds))
rests_in {L} progress.Opening p h s x e r =
    let k = is_running x.call p.held s h e x.called in
    let u : IsUnmadeAt p.fault s h = subst (λ (z : Held L). IsUnmade p.fault z h) e x.unmade in
    let none = unheard_none (given_in h) (heard_at s.phase s.reason (given_in h) r.0.awaits k.runs.heard) (unheard_of p.fault s h u (awaiting_sound s.phase r.0.awaits)) in
    rests x.call s h k (ap prepared_in x.made) r (λ w. none) (λ w. absurd (cc (sym w.2 ∙ x.replied)))
rests_in progress.Open p h s x e r = rests x.call s h (is_running x.call p.held s h e x.called) (ap prepared_in x.made) r (λ w. absurd (cc (sym w.1 ∙ x.replied))) (λ w. absurd (cc (sym w.2 ∙ x.replied)))
rests_in {L} progress.Closing p h s x e r =
    let k = is_running x.call p.held s h e x.called in
    let l : IsLeaving s.phase = subst (λ (z : Held L). IsLeavingIn z) e x.leaves in
    rests x.call s h k (ap prepared_in x.made) r (λ w. absurd (cc (sym w.1 ∙ x.replied))) (λ w. said_at s.phase (sent_in h) r.0.awaits l k.runs.said)
rests_in progress.Over p h s (inl x) e r =
    let k = is_running x.call p.held s h e x.called in
    rests x.call s h k (ap prepared_in x.made) r (λ w. absurd (refusal_waits_not x.name x.error (replied_in h) x.replied w.0 w.1)) (λ w. absurd (refusal_closes_not x.name x.error (replied_in h) x.replied w.0 w.1 w.2))
rests_in progress.Over p h s (inr x) e r =
    let k = is_running x.call p.held s h e x.called in
    elim x.replied [
      | inl z ↦ rests x.call s h k (ap prepared_in x.made) r (λ w. absurd (cc (sym w.1 ∙ z))) (λ w. absurd (cc (sym w.2 ∙ z)))
      | inr z ↦ rests x.call s h k (ap prepared_in x.made) r (λ w. absurd (cc (sym w.1 ∙ z))) (λ w. absurd (answered_not (replied_in h) w.0 w.1 x.name x.closing x.reply x.end w.2 z))
    ]

pub late_rest_law : {L : Type 0} (p : Peering L) (h : List Local) (s : State L) → Has p h → p.held ≡ Late s → IsSorted (moment_in h) p.held → RestsBehind h
late_rest_law {L} p h s x e r = rests_in p.progress p h s x e (subst (λ (z : Held L). IsSorted (moment_in h) z) e r)

-- ---- an end whose connection has stopped

-- what an end has whose connection has begun
running_in : {L : Type 0} (q : Progress) (p : Peering L) (h : List Local) (s : State L) → HasIn q p h → p.held ≡ Late s → (call : Call) × IsRunning call s h
running_in progress.Idle p h s x e = absurd (cc (sym e ∙ x.holds))
running_in progress.Opening p h s x e = (x.call, is_running x.call p.held s h e x.called)
running_in progress.Open p h s x e = (x.call, is_running x.call p.held s h e x.called)
running_in progress.Closing p h s x e = (x.call, is_running x.call p.held s h e x.called)
running_in progress.Over p h s (inl x) e = (x.call, is_running x.call p.held s h e x.called)
running_in progress.Over p h s (inr x) e = (x.call, is_running x.call p.held s h e x.called)

-- a call that is answered by pending alone waits
open_waits_in : {L : Type 0} (q : Progress) (p : Peering L) (h : List Local) → HasIn q p h → OpenWaits h → CallWaits q
open_waits_in progress.Idle p h x w = absurd (cc (sym w.1 ∙ x.replied))
open_waits_in progress.Opening p h x w = tt
open_waits_in progress.Open p h x w = absurd (cc (sym w.1 ∙ x.replied))
open_waits_in progress.Closing p h x w = tt
open_waits_in progress.Over p h (inl x) w = absurd (refusal_waits_not x.name x.error (replied_in h) x.replied w.0 w.1)
open_waits_in progress.Over p h (inr x) w = elim x.replied [ inl z ↦ absurd (cc (sym w.1 ∙ z)) | inr z ↦ absurd (cc (sym w.1 ∙ z)) ]

close_waits_in : {L : Type 0} (q : Progress) (p : Peering L) (h : List Local) → HasIn q p h → CloseWaits h → CallWaits q
close_waits_in progress.Idle p h x w = absurd (cc (sym w.2 ∙ x.replied))
close_waits_in progress.Opening p h x w = tt
close_waits_in progress.Open p h x w = absurd (cc (sym w.2 ∙ x.replied))
close_waits_in progress.Closing p h x w = tt
close_waits_in progress.Over p h (inl x) w = absurd (refusal_closes_not x.name x.error (replied_in h) x.replied w.0 w.1 w.2)
close_waits_in progress.Over p h (inr x) w = elim x.replied [ inl z ↦ absurd (cc (sym w.2 ∙ z)) | inr z ↦ absurd (answered_not (replied_in h) w.0 w.1 x.name x.closing x.reply x.end w.2 z) ]

pub waits_law : {L : Type 0} (p : Peering L) (h : List Local) → Has p h → HasWaiting h → CallWaits p.progress
waits_law p h x (inl w) = open_waits_in p.progress p h x w
waits_law p h x (inr w) = close_waits_in p.progress p h x w

-- where all that was queued is written
pub written_law : {L : Type 0} (p : Peering L) (h : List Local) (s : State L) → Has p h → p.held ≡ Late s → s.wire.codec.output ≡ [] → IsAllOut h
written_law p h s x e o = let k = running_in p.progress p h s x e in out_now k.0 s h k.1 o

over_heard : (reason : ConnectionStopReason) (given : List Frame) → IsOver reason given → EndsWithClose given ⊎ IsOther given
over_heard reason given (inl o) = inl (record { front = o.front; channel = o.channel; last = o.last; is = o.is })
over_heard reason given (inr (inl o)) = inr (mistaken_other reason given o)
over_heard reason given (inr (inr o)) = inl (record { front = o.front; channel = o.channel; last = o.last; is = o.is })

flushed_out : {L : Type 0} (p : Peering L) (events h : List Local) (s : State L) → Has p h → p.held ≡ Late s → has_failed s.phase ≡ false → IsFlushed p.held events → Includes (link_in events) (NotWritten Full) ⊎ IsAllOut h
flushed_out {L} p events h s x e f w = elim (subst (λ (z : Held L). IsFlushed z events) e w) [
  | inl z ↦ absurd (cc (z, f))
  | inr z ↦ elim z [ inl y ↦ inl y | inr y ↦ inr (written_law p h s x e y) ]
]

-- an end that has heard all, and what it concluded in these events
pub answered_law : {L : Type 0} (p : Peering L) (events h : List Local) (s : State L) → Has p h → p.held ≡ Late s → is_stopped s.phase ≡ true → has_failed s.phase ≡ false → IsConcluded p events → HasParted events h
answered_law p events h s x e z f c =
    let k = running_in p.progress p h s x e in
    record {
      closes = said_close s.phase (sent_in h) z f k.1.runs.said;
      heard = over_heard s.reason (given_in h) (over_in s.phase s.reason (given_in h) z f k.1.runs.heard);
      concluded = elim c [ inl y ↦ inl (λ w. y.0 (waits_law p h x w), flushed_out p events h s x e f y.1) | inr y ↦ inr y ];
    }

-- ---- an end whose connection has not begun

-- a call waits there while the headers are exchanged alone
early_in : {L : Type 0} (q : Progress) (p : Peering L) (h : List Local) (o : Opened L Authentication) (prepared : Option Prepared) → HasIn q p h → p.held ≡ Early o prepared → CallWaits q → IsMidway o.stage
early_in progress.Idle p h o prepared x e w = absurd w
early_in {L} progress.Opening p h o prepared x e w = (subst (λ (z : Held L). IsUnmade p.fault z h) e x.unmade).1
early_in progress.Open p h o prepared x e w = absurd w
early_in {L} progress.Closing p h o prepared x e w = absurd (subst (λ (z : Held L). IsLeavingIn z) e x.leaves)
early_in progress.Over p h o prepared x e w = absurd w

pub early_waits_law : {L : Type 0} (p : Peering L) (h : List Local) (o : Opened L Authentication) (prepared : Option Prepared) → Has p h → p.held ≡ Early o prepared → CallWaits p.progress → IsMidway o.stage
early_waits_law p h o prepared x e w = early_in p.progress p h o prepared x e w

-- no call waits where the own Open was too large
unopened_in : {L : Type 0} (q : Progress) (p : Peering L) (h : List Local) (c : Codec L) → HasIn q p h → p.held ≡ Unopened c → CallWaits q → ⊥
unopened_in progress.Idle p h c x e w = w
unopened_in {L} progress.Opening p h c x e w = subst (λ (z : Held L). IsUnmade p.fault z h) e x.unmade
unopened_in progress.Open p h c x e w = w
unopened_in {L} progress.Closing p h c x e w = subst (λ (z : Held L). IsLeavingIn z) e x.leaves
unopened_in progress.Over p h c x e w = w

pub unopened_waits_law : {L : Type 0} (p : Peering L) (h : List Local) (c : Codec L) → Has p h → p.held ≡ Unopened c → CallWaits p.progress → ⊥
unopened_waits_law p h c x e w = unopened_in p.progress p h c x e w
