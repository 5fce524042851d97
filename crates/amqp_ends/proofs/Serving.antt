-- An end serves the sessions above it.
use Rattle.std.proofs.Common.{◌≡◌, inl, inr, ℕ, List, [], ◌∷◌, ◌++◌, Bool, true, false, cond, not, Some, Result, Ok, Err, refl, sym, ap, ◌∙◌, subst, append_assoc}
use Rattle.std.specs.Prelude.{nat_eq, map, filter}
use Rattle.std.proofs.lemmas.List.{append-nil}
use Rattle.std.proofs.lemmas.List.Elements.{filter-append}
use Rattle.amqp_wire.specs.declared.link.Link.{Ghosts}
use Rattle.amqp_frames.specs.declared.shared.IncomingSession.{IncomingSession}
use Rattle.amqp_transport.specs.declared.frames.Frame.{Frame}
use Rattle.amqp_engine.specs.declared.error.AllocSessionError.{AllocSessionError}
use Rattle.amqp_engine.specs.declared.error.AllocSessionError.TheVariants as alloc
use Rattle.amqp_engine.specs.Calls.{Allocates}
use Rattle.amqp_engine.specs.Channels.{Channels}
use Rattle.amqp_engine.specs.Phases.{hears}
use Rattle.amqp_engine.specs.State.{State}
use Rattle.amqp_engine.proofs.Announced.{said_keeps}
use Rattle.amqp_peer.specs.amqp_words.declared.call.Call.{Call}
use Rattle.amqp_peer.specs.declared.held.Held.{Held}
use Rattle.amqp_peer.specs.declared.held.Held.TheVariants.{Early, Late, Unopened, Moving}
use Rattle.amqp_peer.specs.declared.peer.PeerKind.{PeerKind}
use Rattle.amqp_peer.specs.Frames.{sessions_of, asking, asks, asking_of, others_of}
use Rattle.amqp_peer.specs.Handed.{HandsOn, HandsLast, Sent}
use Rattle.amqp_peer.specs.Hearing.{hears_in, IsOpenIn, channels_in, waiting_in, asked_in, Gathers}
use Rattle.amqp_peer.specs.Held.{with_link}
use Rattle.amqp_peer.specs.History.{Local, Made, Polled, given_in, sent_in, moment_in}
use Rattle.amqp_peer.specs.Passing.{TakesIncoming, TakesSession, AllocatesLate, freed_in, IsHeldAlone}
use Rattle.amqp_peer.specs.Peering.{Peering, Has, fresh, with_link_of}
use Rattle.amqp_peer.specs.Runs.{Stepped}
use Rattle.amqp_peer.proofs.Gathers.{open_hears, gathers_handed, either_way, seam}
use Rattle.amqp_peer.proofs.Histories.{given_in-append, sent_in-append}
use Rattle.amqp_peer.proofs.Laws.{has_fresh, has_taken, has_with_link}
use Rattle.amqp_peer.proofs.Quiet.{has_polled}
use Rattle.amqp_peer.proofs.Sessions.{allocates_has, freed_has}
use Rattle.amqp_peer.proofs.Unsaid.{sessions_of-append}
use Rattle.amqp_ends.specs.Streams.{IsFront, IsUpTo, on_channel, Carries, Serves}

-- ---- the first of them, and all while the connection hears

-- nothing came that counts while it hears
up_none : (b c : Bool) (xs all more : List Frame) → (c ≡ true → b ≡ true) → (c ≡ true → more ≡ []) → IsUpTo b xs all → IsUpTo c xs (all ++ more)
up_none b c xs all more l n u = (u.0 ++ more, sym (append_assoc xs u.0 more) ∙ ap (λ (v : List Frame). v ++ more) u.1, λ z. ap (λ (v : List Frame). v ++ more) (u.2 (l z)) ∙ n z)

-- it hears, and this came
up_some : (b c : Bool) (xs all more : List Frame) → b ≡ true → IsUpTo b xs all → IsUpTo c (xs ++ more) (all ++ more)
up_some b c xs all more e u = ([], append-nil (xs ++ more) ∙ ap (λ (v : List Frame). v ++ more) (sym (append-nil xs) ∙ ap (λ (v : List Frame). xs ++ v) (sym (u.2 e)) ∙ u.1), λ z. refl)

up_same : (b c : Bool) (xs all : List Frame) → (c ≡ true → b ≡ true) → IsUpTo b xs all → IsUpTo c xs all
up_same b c xs all l u = (u.0, u.1, λ z. u.2 (l z))

-- these came behind what waited, of what was given
up_more : (b c : Bool) (taken old one two before : List Frame) → (c ≡ true → two ≡ []) → (b ≡ false → one ≡ []) → (c ≡ true → b ≡ true) → IsUpTo b (taken ++ old) before → IsUpTo c (taken ++ (old ++ one)) (before ++ (one ++ two))
up_more b c taken old one two before all none l u = (
  u.0 ++ two,
  ap (λ (v : List Frame). v ++ (u.0 ++ two)) (sym (append_assoc taken old one)) ∙ sym (seam (taken ++ old) u.0 one two (either_way b u.2 none)) ∙ ap (λ (v : List Frame). v ++ (one ++ two)) u.1,
  λ z. ap (λ (v : List Frame). v ++ two) (u.2 (l z)) ∙ all z,
)

-- of those alone that pass a test
up_filtered : (p : Frame → Bool) (b : Bool) (xs more all : List Frame) → IsUpTo b (xs ++ more) all → IsUpTo b (filter p xs ++ filter p more) (filter p all)
up_filtered p b xs more all u = (
  filter p u.0,
  ap (λ (v : List Frame). v ++ filter p u.0) (sym (filter-append p xs more)) ∙ sym (filter-append p (xs ++ more) u.0) ∙ ap (filter p) u.1,
  λ z. ap (filter p) (u.2 z),
)

front : (b : Bool) (xs more all : List Frame) → IsUpTo b (xs ++ more) all → IsFront xs all
front b xs more all u = (more ++ u.0, sym (append_assoc xs more u.0) ∙ u.1)

-- ---- a step

-- a part of what waits at the connection, behind what was taken of it
part_comes : (p : Frame → Bool) (frames later taken old new given events : List Frame) (b c : Bool) → new ≡ old ++ filter p frames → sessions_of events ≡ frames ++ later → (c ≡ true → later ≡ []) → (b ≡ false → frames ≡ []) → (c ≡ true → b ≡ true)
    → IsUpTo b (taken ++ old) (filter p (sessions_of given)) → IsUpTo c (taken ++ new) (filter p (sessions_of (given ++ events)))
part_comes p frames later taken old new given events b c w came all none l u =
    let one : List Frame = filter p frames in
    let two : List Frame = filter p later in
    let before : List Frame = filter p (sessions_of given) in
    let whole : filter p (sessions_of (given ++ events)) ≡ before ++ (one ++ two) =
    ap (filter p) (sessions_of-append given events ∙ ap (λ (v : List Frame). sessions_of given ++ v) came) ∙ filter-append p (sessions_of given) (frames ++ later) ∙ ap (λ (v : List Frame). before ++ v) (filter-append p frames later) in
    subst (λ (v : List Frame). IsUpTo c (taken ++ v) (filter p (sessions_of (given ++ events)))) (sym w)
    (subst (λ (v : List Frame). IsUpTo c (taken ++ (old ++ one)) v) (sym whole)
    (up_more b c taken old one two before (λ z. ap (filter p) (all z)) (λ z. ap (filter p) (none z)) l u))

serves_gathers : {L : Type 0} (old new : Peering L) (asked heard gave : List Frame) (h events : List Local) → Gathers old.held new.held events → Has new (events ++ h) → IsUpTo (hears_in old.held) (asked ++ asked_in old.held) (asking_of (sessions_of (given_in h)))
    → IsUpTo (hears_in old.held) (heard ++ waiting_in old.held) (others_of (sessions_of (given_in h))) → IsUpTo (hears_in old.held) (sessions_of (sent_in h)) gave → Serves new asked heard gave (events ++ h)
serves_gathers old new asked heard gave h events k has a b s =
    record {
      has = has;
      asked_all = subst (λ (u : List Frame). IsUpTo (hears_in new.held) (asked ++ asked_in new.held) (asking_of (sessions_of u))) (sym (given_in-append events h))
          (part_comes (λ (x : Frame). asks x.body) k.frames k.later asked (asked_in old.held) (asked_in new.held) (given_in h) (given_in events) (hears_in old.held) (hears_in new.held) k.asked k.heard k.all k.none k.listens a);
      heard_all = subst (λ (u : List Frame). IsUpTo (hears_in new.held) (heard ++ waiting_in new.held) (others_of (sessions_of u))) (sym (given_in-append events h))
          (part_comes (λ (x : Frame). not (asks x.body)) k.frames k.later heard (waiting_in old.held) (waiting_in new.held) (given_in h) (given_in events) (hears_in old.held) (hears_in new.held) k.waiting k.heard k.all k.none k.listens b);
      sent_all = subst (λ (u : List Frame). IsUpTo (hears_in new.held) u gave) (sym (sent_same h events k.unsaid)) (up_same (hears_in old.held) (hears_in new.held) (sessions_of (sent_in h)) gave k.listens s);
    }
  where
    sent_same : (h events : List Local) → sessions_of (sent_in events) ≡ [] → sessions_of (sent_in (events ++ h)) ≡ sessions_of (sent_in h)
    sent_same h events n =
        ap sessions_of (sent_in-append events h) ∙ sessions_of-append (sent_in h) (sent_in events) ∙ ap (λ (u : List Frame). sessions_of (sent_in h) ++ u) n ∙ append-nil (sessions_of (sent_in h))

pub serves_on : {L : Type 0} (link : Ghosts L) (at : ℕ) (old new : Peering L) (asked heard gave : List Frame) (h : List Local) (k : HandsOn link at old new) → moment_in h ≡ at → Serves old asked heard gave h → Serves new asked heard gave (k.0.run.events ++ h)
serves_on link at old new asked heard gave h k t s = serves_gathers old new asked heard gave h k.0.run.events (gathers_handed old.held new.held k.0.run.events k.1) (k.0.run.grows h t s.has) s.asked_all s.heard_all s.sent_all

pub serves_last : {L : Type 0} (link : Ghosts L) (at : ℕ) (old new : Peering L) (asked heard gave : List Frame) (h : List Local) (k : HandsLast link at old new) → moment_in h ≡ at → Serves old asked heard gave h → Serves new asked heard gave (k.0.run.events ++ h)
serves_last link at old new asked heard gave h k t s = serves_gathers old new asked heard gave h k.0.run.events (gathers_handed old.held new.held k.0.run.events k.1) (k.0.run.grows h t s.has) s.asked_all s.heard_all s.sent_all

-- ---- a moment, a call or a poll

pub serves_looks : {L : Type 0} (at : ℕ) (p : Peering L) (asked heard gave : List Frame) (h : List Local) → Serves p asked heard gave h → Serves p asked heard gave (Polled at ∷ h)
serves_looks at p asked heard gave h s = record { has = has_polled p at h s.has; asked_all = s.asked_all; heard_all = s.heard_all; sent_all = s.sent_all }

pub serves_calls : {L : Type 0} (link : Ghosts L) (at name : ℕ) (call : Call) (old new : Peering L) (asked heard gave : List Frame) (h : List Local) (k : Stepped link old (Made at name call) new) → Serves old asked heard gave h → Serves new asked heard gave (k.events ++ Made at name call ∷ h)
serves_calls link at name call old new asked heard gave h k s = serves_gathers old new asked heard gave (Made at name call ∷ h) k.events k.gathers (k.grows h s.has) s.asked_all s.heard_all s.sent_all

pub serves_polls : {L : Type 0} (link : Ghosts L) (at : ℕ) (old new : Peering L) (asked heard gave : List Frame) (h : List Local) (k : Stepped link old (Polled at) new) → Serves old asked heard gave h → Serves new asked heard gave (k.events ++ Polled at ∷ h)
serves_polls link at old new asked heard gave h k s = serves_gathers old new asked heard gave (Polled at ∷ h) k.events k.gathers (k.grows h s.has) s.asked_all s.heard_all s.sent_all

-- ---- a frame is handed up

record Takes {L : Type 0} (held held' : Held L) (incoming : List Frame) (begun : List IncomingSession) : Type 0 where
  pub heard : (channels_in held).incoming ≡ incoming ++ (channels_in held').incoming
  pub asked : (channels_in held).begun ≡ begun ++ (channels_in held').begun
  pub hears_is : hears_in held' ≡ hears_in held

takes_incoming : {L : Type 0} (held held' : Held L) (x : Frame) → TakesIncoming held (Some x) held' → Takes held held' (x ∷ []) []
takes_incoming (Early o p) held' x t = absurd (cc t.0)
takes_incoming {L} (Late s) held' x t =
    let same : (channels_in held').begun ≡ s.channels.begun = ap (λ (z : Held L). (channels_in z).begun) t.1 ∙ ap (λ (c : Channels). c.begun) t.2.channels.1 in
    record {
      heard = t.2.channels.0 ∙ ap (λ (z : Held L). x ∷ (channels_in z).incoming) (sym t.1);
      asked = sym same;
      hears_is = ap hears_in t.1 ∙ ap (λ (z : State L). hears z.phase) t.2.rest;
    }
takes_incoming (Unopened c) held' x t = absurd (cc t.0)
takes_incoming Moving held' x t = absurd (cc t.0)

takes_session : {L : Type 0} (held held' : Held L) (y : IncomingSession) → TakesSession held (Some y) held' → Takes held held' [] (y ∷ [])
takes_session (Early o p) held' y t = absurd (cc t.0)
takes_session {L} (Late s) held' y t =
    let same : (channels_in held').incoming ≡ s.channels.incoming = ap (λ (z : Held L). (channels_in z).incoming) t.1 ∙ ap (λ (c : Channels). c.incoming) t.2.channels.1 in
    record {
      heard = sym same;
      asked = t.2.channels.0 ∙ ap (λ (z : Held L). y ∷ (channels_in z).begun) (sym t.1);
      hears_is = ap hears_in t.1 ∙ ap (λ (z : State L). hears z.phase) t.2.rest;
    }
takes_session (Unopened c) held' y t = absurd (cc t.0)
takes_session Moving held' y t = absurd (cc t.0)

-- what was taken stands behind what was taken before
up_taken : (b c : Bool) (taken one old new all : List Frame) → c ≡ b → old ≡ one ++ new → IsUpTo b (taken ++ old) all → IsUpTo c ((taken ++ one) ++ new) all
up_taken b c taken one old new all e w u =
    subst (λ (v : Bool). IsUpTo v ((taken ++ one) ++ new) all) (sym e)
    (subst (λ (v : List Frame). IsUpTo b v all) (ap (λ (v : List Frame). taken ++ v) w ∙ sym (append_assoc taken one new)) u)

up_kept : (b c : Bool) (taken old new all : List Frame) → c ≡ b → old ≡ new → IsUpTo b (taken ++ old) all → IsUpTo c (taken ++ new) all
up_kept b c taken old new all e w u = subst (λ (v : Bool). IsUpTo v (taken ++ new) all) (sym e) (subst (λ (v : List Frame). IsUpTo b (taken ++ v) all) w u)

up_sent : (b c : Bool) (xs all : List Frame) → c ≡ b → IsUpTo b xs all → IsUpTo c xs all
up_sent b c xs all e u = subst (λ (v : Bool). IsUpTo v xs all) (sym e) u

pub serves_hands : {L : Type 0} (x : Frame) (old new : Peering L) (asked heard gave : List Frame) (h : List Local) → TakesIncoming old.held (Some x) new.held → (Has old h → Has new h) → Serves old asked heard gave h → Serves new asked (heard ++ x ∷ []) gave h
serves_hands x old new asked heard gave h t g s =
    let k = takes_incoming old.held new.held x t in
    record {
      has = g s.has;
      asked_all = up_kept (hears_in old.held) (hears_in new.held) asked (map asking (channels_in old.held).begun) (map asking (channels_in new.held).begun) (asking_of (sessions_of (given_in h))) k.hears_is (ap (map asking) k.asked) s.asked_all;
      heard_all = up_taken (hears_in old.held) (hears_in new.held) heard (x ∷ []) (channels_in old.held).incoming (channels_in new.held).incoming (others_of (sessions_of (given_in h))) k.hears_is k.heard s.heard_all;
      sent_all = up_sent (hears_in old.held) (hears_in new.held) (sessions_of (sent_in h)) gave k.hears_is s.sent_all;
    }

pub serves_asks : {L : Type 0} (y : IncomingSession) (old new : Peering L) (asked heard gave : List Frame) (h : List Local) → TakesSession old.held (Some y) new.held → (Has old h → Has new h) → Serves old asked heard gave h → Serves new (asked ++ asking y ∷ []) heard gave h
serves_asks y old new asked heard gave h t g s =
    let k = takes_session old.held new.held y t in
    record {
      has = g s.has;
      asked_all = up_taken (hears_in old.held) (hears_in new.held) asked (asking y ∷ []) (map asking (channels_in old.held).begun) (map asking (channels_in new.held).begun) (asking_of (sessions_of (given_in h))) k.hears_is (ap (map asking) k.asked) s.asked_all;
      heard_all = up_kept (hears_in old.held) (hears_in new.held) heard (channels_in old.held).incoming (channels_in new.held).incoming (others_of (sessions_of (given_in h))) k.hears_is k.heard s.heard_all;
      sent_all = up_sent (hears_in old.held) (hears_in new.held) (sessions_of (sent_in h)) gave k.hears_is s.sent_all;
    }

-- ---- a frame is given to the connection

sessions_sent : (h events : List Local) (xs : List Frame) → sent_in events ≡ xs → sessions_of (sent_in (events ++ h)) ≡ sessions_of (sent_in h) ++ sessions_of xs
sessions_sent h events xs e = ap sessions_of (sent_in-append events h) ∙ sessions_of-append (sent_in h) (sent_in events) ∙ ap (λ (u : List Frame). sessions_of (sent_in h) ++ sessions_of u) e

sent_goes : {L : Type 0} (link : Ghosts L) (x : Frame) (old new : Peering L) (gave : List Frame) (h : List Local) (k : Sent link x old new) → (hears_in old.held ≡ true → IsOpenIn old.held) → IsUpTo (hears_in old.held) (sessions_of (sent_in h)) gave
    → IsUpTo (hears_in new.held) (sessions_of (sent_in (k.events ++ h))) (gave ++ x ∷ [])
sent_goes link x old new gave h k o u = elim k.said [
  | inl (e, i) ↦ subst (λ (v : List Frame). IsUpTo (hears_in new.held) v (gave ++ x ∷ [])) (sym (sessions_sent h k.events (x ∷ []) e ∙ ap (λ (t : Bool). sessions_of (sent_in h) ++ cond t (x ∷ []) []) k.session))
      (up_some (hears_in old.held) (hears_in new.held) (sessions_of (sent_in h)) gave (x ∷ []) (open_hears old.held i) u)
  | inr (e, n) ↦ subst (λ (v : List Frame). IsUpTo (hears_in new.held) v (gave ++ x ∷ [])) (sym (sessions_sent h k.events [] e ∙ append-nil (sessions_of (sent_in h))))
      (up_none (hears_in old.held) (hears_in new.held) (sessions_of (sent_in h)) gave (x ∷ []) k.listens (λ z. absurd (n (k.opens o z))) u)
]

deaf_same : (h events : List Local) → given_in events ≡ [] → given_in (events ++ h) ≡ given_in h
deaf_same h events e = given_in-append events h ∙ ap (λ (u : List Frame). given_in h ++ u) e ∙ append-nil (given_in h)

pub serves_sends : {L : Type 0} (link : Ghosts L) (x : Frame) (old new : Peering L) (asked heard gave : List Frame) (h : List Local) (k : Sent link x old new) → (hears_in old.held ≡ true → IsOpenIn old.held) → Serves old asked heard gave h → Serves new asked heard (gave ++ x ∷ []) (k.events ++ h)
serves_sends link x old new asked heard gave h k o s =
    record {
      has = k.grows h s.has;
      asked_all = subst (λ (u : List Frame). IsUpTo (hears_in new.held) (asked ++ map asking (channels_in new.held).begun) (asking_of (sessions_of u))) (sym (deaf_same h k.events k.deaf))
          (subst (λ (ys : List IncomingSession). IsUpTo (hears_in new.held) (asked ++ map asking ys) (asking_of (sessions_of (given_in h)))) (sym (ap (λ (c : Channels). c.begun) k.channels ∙ (said_keeps (channels_in old.held) (sent_in k.events)).0))
          (up_same (hears_in old.held) (hears_in new.held) (asked ++ map asking (channels_in old.held).begun) (asking_of (sessions_of (given_in h))) k.listens s.asked_all));
      heard_all = subst (λ (u : List Frame). IsUpTo (hears_in new.held) (heard ++ (channels_in new.held).incoming) (others_of (sessions_of u))) (sym (deaf_same h k.events k.deaf))
          (subst (λ (ys : List Frame). IsUpTo (hears_in new.held) (heard ++ ys) (others_of (sessions_of (given_in h)))) (sym (ap (λ (c : Channels). c.incoming) k.channels ∙ (said_keeps (channels_in old.held) (sent_in k.events)).1))
          (up_same (hears_in old.held) (hears_in new.held) (heard ++ (channels_in old.held).incoming) (others_of (sessions_of (given_in h))) k.listens s.heard_all));
      sent_all = sent_goes link x old new gave h k o s.sent_all;
    }

-- ---- what waits stays

serves_kept : {L : Type 0} (old new : Peering L) (asked heard gave : List Frame) (h : List Local) → hears_in new.held ≡ hears_in old.held → asked_in new.held ≡ asked_in old.held → waiting_in new.held ≡ waiting_in old.held → Has new h → Serves old asked heard gave h → Serves new asked heard gave h
serves_kept old new asked heard gave h e a w has s =
    record {
      has = has;
      asked_all = up_kept (hears_in old.held) (hears_in new.held) asked (asked_in old.held) (asked_in new.held) (asking_of (sessions_of (given_in h))) e (sym a) s.asked_all;
      heard_all = up_kept (hears_in old.held) (hears_in new.held) heard (waiting_in old.held) (waiting_in new.held) (others_of (sessions_of (given_in h))) e (sym w) s.heard_all;
      sent_all = up_sent (hears_in old.held) (hears_in new.held) (sessions_of (sent_in h)) gave e s.sent_all;
    }

-- a channel is taken, or there is none
record Keeps {L : Type 0} (held held' : Held L) : Type 0 where
  pub hears_is : hears_in held' ≡ hears_in held
  pub asked : asked_in held' ≡ asked_in held
  pub waiting : waiting_in held' ≡ waiting_in held

keeps_state : {L : Type 0} (s s' : State L) (held' : Held L) → held' ≡ Late s' → s'.phase ≡ s.phase → s'.channels.begun ≡ s.channels.begun → s'.channels.incoming ≡ s.channels.incoming → Keeps (Late s) held'
keeps_state {L} s s' held' e f b i =
    record {
      hears_is = ap hears_in e ∙ ap hears f;
      asked = ap asked_in e ∙ ap (map asking) b;
      waiting = ap waiting_in e ∙ i;
    }

keeps_allocated : {L : Type 0} (s s' : State L) (result : Result ℕ AllocSessionError) (held' : Held L) → held' ≡ Late s' → Allocates s result s' → Keeps (Late s) held'
keeps_allocated {L} s s' (Ok channel) held' e t = keeps_state s s' held' e (ap (λ (z : State L). z.phase) t.2) (ap (λ (z : State L). z.channels.begun) t.2) (ap (λ (z : State L). z.channels.incoming) t.2)
keeps_allocated {L} s s' (Err alloc.ChannelMaxReached) held' e t = keeps_state s s' held' e (ap (λ (z : State L). z.phase) t.1) (ap (λ (z : State L). z.channels.begun) t.1) (ap (λ (z : State L). z.channels.incoming) t.1)
keeps_allocated {L} s s' (Err (alloc.Memory a)) held' e t = keeps_state s s' held' e (ap (λ (z : State L). z.phase) t) (ap (λ (z : State L). z.channels.begun) t) (ap (λ (z : State L). z.channels.incoming) t)

keeps_seats : {L : Type 0} (held : Held L) (result : Result ℕ AllocSessionError) (held' : Held L) → AllocatesLate held result held' → Keeps held held'
keeps_seats (Early o p) result held' t = absurd t
keeps_seats (Late s) result held' t = keeps_allocated s t.0 result held' t.1 t.2
keeps_seats (Unopened c) result held' t = absurd t
keeps_seats Moving result held' t = absurd t

pub serves_seats : {L : Type 0} (link : Ghosts L) (result : Result ℕ AllocSessionError) (old new : Peering L) (asked heard gave : List Frame) (h : List Local) → AllocatesLate old.held result new.held → IsHeldAlone old new → Serves old asked heard gave h → Serves new asked heard gave h
serves_seats {L} link result old new asked heard gave h t e s =
    let k = keeps_seats old.held result new.held t in
    serves_kept old new asked heard gave h k.hears_is k.asked k.waiting (subst (λ (z : Peering L). Has z h) (sym e) (allocates_has link old result new.held t h s.has)) s

-- a channel is given back
keeps_freed : {L : Type 0} (held : Held L) (channel : ℕ) → Keeps held (freed_in held channel)
keeps_freed (Early o p) channel = record { hears_is = refl; asked = refl; waiting = refl }
keeps_freed (Late s) channel = record { hears_is = refl; asked = refl; waiting = refl }
keeps_freed (Unopened c) channel = record { hears_is = refl; asked = refl; waiting = refl }
keeps_freed Moving channel = record { hears_is = refl; asked = refl; waiting = refl }

pub serves_frees : {L : Type 0} (link : Ghosts L) (channel : ℕ) (old : Peering L) (asked heard gave : List Frame) (h : List Local) → Serves old asked heard gave h → Serves (record old { held = freed_in old.held channel }) asked heard gave h
serves_frees link channel old asked heard gave h s =
    let k = keeps_freed old.held channel in
    serves_kept old (record old { held = freed_in old.held channel }) asked heard gave h k.hears_is k.asked k.waiting (freed_has link old channel (freed_in old.held channel) refl h s.has) s

-- the replies are taken out
pub serves_tells : {L : Type 0} (old : Peering L) (asked heard gave : List Frame) (h : List Local) → Serves old asked heard gave h → Serves (record old { replies = [] }) asked heard gave h
serves_tells old asked heard gave h s = record { has = has_taken old h s.has; asked_all = s.asked_all; heard_all = s.heard_all; sent_all = s.sent_all }

-- bytes come to the link, or were taken of it
keeps_linked : {L : Type 0} (held : Held L) (link : L) → Keeps held (with_link held link)
keeps_linked (Early o p) link = record { hears_is = refl; asked = refl; waiting = refl }
keeps_linked (Late s) link = record { hears_is = refl; asked = refl; waiting = refl }
keeps_linked (Unopened c) link = record { hears_is = refl; asked = refl; waiting = refl }
keeps_linked Moving link = record { hears_is = refl; asked = refl; waiting = refl }

pub serves_links : {L : Type 0} (old : Peering L) (link : L) (asked heard gave : List Frame) (h : List Local) → Serves old asked heard gave h → Serves (with_link_of old link) asked heard gave h
serves_links old link asked heard gave h s =
    let k = keeps_linked old.held link in
    serves_kept old (with_link_of old link) asked heard gave h k.hears_is k.asked k.waiting (has_with_link old link h s.has) s

-- ---- the start, and what follows

pub serves_fresh : {L : Type 0} (link : L) (kind : PeerKind) → Serves (fresh link kind) [] [] [] []
serves_fresh link kind = record { has = has_fresh link kind; asked_all = ([], refl, λ z. refl); heard_all = ([], refl, λ z. refl); sent_all = ([], refl, λ z. refl) }

pub carries : {L : Type 0} (p : Peering L) (asked heard gave : List Frame) (h : List Local) → Serves p asked heard gave h → Carries asked heard gave h
carries p asked heard gave h s = record {
  asked_first = front (hears_in p.held) asked (map asking (channels_in p.held).begun) (asking_of (sessions_of (given_in h))) s.asked_all;
  heard_first = front (hears_in p.held) heard (channels_in p.held).incoming (others_of (sessions_of (given_in h))) s.heard_all;
  sent_first = (s.sent_all.0, s.sent_all.1);
}

-- ---- one channel

pub by_channel : {L : Type 0} (channel : ℕ) (p : Peering L) (asked heard gave : List Frame) (h : List Local) → Serves p asked heard gave h
    → IsUpTo (hears_in p.held) (on_channel channel heard ++ on_channel channel (waiting_in p.held)) (on_channel channel (others_of (sessions_of (given_in h))))
by_channel channel p asked heard gave h s = up_filtered (λ (x : Frame). nat_eq channel x.channel) (hears_in p.held) heard (waiting_in p.held) (others_of (sessions_of (given_in h))) s.heard_all
