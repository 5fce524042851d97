-- How an end stands once its step is over.
use Rattle.std.proofs.Common.{◌≡◌, ◌⊎◌, ◌≤◌, ◌+◌, ◌^◌, inl, inr, ℕ, List, [], length, Bool, true, false, Option, refl, sym, ap, ◌∙◌, subst}
use Rattle.amqp_wire.specs.declared.link.Held.TheVariants.{Full}
use Rattle.amqp_wire.specs.Codec.{Codec}
use Rattle.amqp_wire.specs.Events.{NotWritten, Includes, wrote_of}
use Rattle.amqp_transport.specs.declared.frames.Frame.{Frame}
use Rattle.amqp_engine.specs.Phases.{is_stopped, has_failed}
use Rattle.amqp_engine.specs.State.{State}
use Rattle.amqp_opening.specs.declared.authentication.Authentication.{Authentication}
use Rattle.amqp_opening.specs.declared.opening.Stage.{Stage}
use Rattle.amqp_opening.specs.declared.opening.Stage.TheVariants as stage
use Rattle.amqp_opening.specs.Opening.{Opened}
use Rattle.amqp_peer.specs.amqp_words.declared.call.Call.{Call}
use Rattle.amqp_peer.specs.declared.held.Held.{Held}
use Rattle.amqp_peer.specs.declared.held.Held.TheVariants.{Early, Late, Unopened, Moving}
use Rattle.amqp_peer.specs.declared.peer.Progress.{Progress}
use Rattle.amqp_peer.specs.declared.peer.Progress.TheVariants as progress
use Rattle.amqp_peer.specs.declared.prepared.Prepared.{Prepared}
use Rattle.amqp_peer.specs.Causes.{BeginsWithOpen, IsBroken}
use Rattle.amqp_peer.specs.Held.{IsActive, IsExchanged, IsMidway, IsSorted, IsStopped}
use Rattle.amqp_peer.specs.History.{Local, made_in, link_in, given_in, sent_in, wrote_in, moment_in}
use Rattle.amqp_peer.specs.Peering.{Peering, Has, HasIn, IsHeld, IsHeldAt, IsKnown, IsMadeIn}
use Rattle.amqp_peer.specs.Rest.{OpenWaits, CloseWaits}
use Rattle.amqp_peer.specs.Runs.{CallWaits, IsConcluded}
use Rattle.amqp_peer.proofs.Laws.{known_at, ready_at}
use Rattle.amqp_peer.proofs.Layers.{rest_law}
use Rattle.amqp_peer.proofs.Rest.{late_rest_law, answered_law, waits_law, early_waits_law, unopened_waits_law}
use Rattle.amqp_ends.specs.Standing.{IsVast, Stands, uncalled, in_headers, behind, parted, refused, broken, vast}

-- what a step leaves: an end that goes on has sorted all that came to it, and one whose connection has stopped has concluded it, over a
-- link that was never full
pub record Leaves {L : Type 0} (p : Peering L) (h : List Local) (left : List ℕ) : Type 0 where
  pub begun : IsExchanged p.held → ⊥
  pub sorted : IsActive p.held → ((left ≡ []) × IsSorted (moment_in h) p.held) ⊎ IsVast h
  pub events : List Local
  pub concluded : IsStopped p.held → IsConcluded p events
  pub unfilled : Includes (link_in events) (NotWritten Full) → ⊥
  pub few : (2 ^ 62 ≤ 1 + (length (given_in events) + length (sent_in events))) → IsVast h

-- ---- a connection that has begun

-- a close waits only where the peer's Open was read
close_heard : {L : Type 0} (q : Progress) (p : Peering L) (h : List Local) (s : State L) → HasIn q p h → p.held ≡ Late s → CloseWaits h → CallWaits q → BeginsWithOpen (given_in h)
close_heard progress.Idle p h s x e w c = absurd c
close_heard progress.Opening p h s x e w c = absurd (cc (sym w.2 ∙ x.replied))
close_heard progress.Open p h s x e w c = absurd c
close_heard {L} progress.Closing p h s x e w c = (subst (λ (z : Held L). IsMadeIn p.fault z h) e x.is_made).0
close_heard progress.Over p h s x e w c = absurd c

stands_stopped : {L : Type 0} (failed : Bool) (p : Peering L) (h : List Local) (left : List ℕ) (s : State L) → has_failed s.phase ≡ failed → Has p h → p.held ≡ Late s → is_stopped s.phase ≡ true → (has_failed s.phase ≡ true → IsBroken h) → (l : Leaves p h left) → Stands h left
stands_stopped true p h left s f x e z b l = broken (b f)
stands_stopped {L} false p h left s f x e z b l =
    let a = answered_law p l.events h s x e z f (l.concluded (subst IsStopped (sym e) z)) in
    elim a.concluded [
      | inl c ↦ elim c.1 [ inl full ↦ absurd (l.unfilled full) | inr out ↦ parted a.closes out c.0 ]
      | inr many ↦ vast (l.few many)
    ]

stands_late : {L : Type 0} (stopped : Bool) (p : Peering L) (h : List Local) (left : List ℕ) (s : State L) → is_stopped s.phase ≡ stopped → Has p h → p.held ≡ Late s → (has_failed s.phase ≡ true → IsBroken h) → (l : Leaves p h left) → Stands h left
stands_late true p h left s z x e b l = stands_stopped (has_failed s.phase) p h left s refl x e z b l
stands_late {L} false p h left s z x e b l = elim (l.sorted (subst IsActive (sym e) z)) [
  | inl r ↦ behind (late_rest_law p h s x e r.1) (λ w. close_heard p.progress p h s x e w (waits_law p h x (inr w))) r.0
  | inr v ↦ vast v
]

-- ---- a connection that has not begun

early_unsent : {L : Type 0} (s : Stage) (call : Call) (o : Opened L Authentication) (prepared : Option Prepared) (h : List Local) → IsHeldAt s call o prepared h → sent_in h ≡ []
early_unsent stage.Idle call o prepared h k = absurd k
early_unsent stage.Negotiating call o prepared h k = k.sent
early_unsent stage.Header call o prepared h k = k.sent
early_unsent stage.Exchanged call o prepared h k = k.sent
early_unsent stage.Ended call o prepared h k = k.sent

-- its open or accept waits, or has failed
early_waits : {L : Type 0} (q : Progress) (p : Peering L) (h : List Local) (o : Opened L Authentication) (prepared : Option Prepared) → HasIn q p h → p.held ≡ Early o prepared → ((made_in h ≡ []) × (wrote_in h ≡ [])) ⊎ (OpenWaits h ⊎ ((CallWaits q → ⊥) × (sent_in h ≡ [])))
early_waits progress.Idle p h o prepared x e = inl (x.made, ap wrote_of x.link)
early_waits progress.Opening p h o prepared x e = inr (inl (p.name, x.replied))
early_waits {L} progress.Open p h o prepared x e = absurd (subst (λ (z : Held L). IsMadeIn p.fault z h) e x.is_made)
early_waits {L} progress.Closing p h o prepared x e = absurd (subst (λ (z : Held L). IsMadeIn p.fault z h) e x.is_made)
early_waits {L} progress.Over p h o prepared (inl x) e = inr (inr (λ w. w, early_unsent o.stage x.call o prepared h (subst (λ (z : Held L). IsHeld x.call z h) e x.called.holds)))
early_waits {L} progress.Over p h o prepared (inr x) e = inr (inr (λ w. w, early_unsent o.stage x.call o prepared h (subst (λ (z : Held L). IsHeld x.call z h) e x.called.holds)))

held_in : {L : Type 0} (q : Progress) (p : Peering L) (h : List Local) → HasIn q p h → (made_in h ≡ []) ⊎ ((call : Call) × IsHeld call p.held h)
held_in progress.Idle p h x = inl x.made
held_in progress.Opening p h x = inr (x.call, x.called.holds)
held_in progress.Open p h x = inr (x.call, x.called.holds)
held_in progress.Closing p h x = inr (x.call, x.called.holds)
held_in progress.Over p h (inl x) = inr (x.call, x.called.holds)
held_in progress.Over p h (inr x) = inr (x.call, x.called.holds)

idle_sent : {L : Type 0} (q : Progress) (p : Peering L) (h : List Local) → HasIn q p h → made_in h ≡ [] → sent_in h ≡ []
idle_sent progress.Idle p h x n = x.sent
idle_sent progress.Opening p h x n = absurd (cc (sym n ∙ x.made))
idle_sent progress.Open p h x n = absurd (cc (sym n ∙ x.made))
idle_sent progress.Closing p h x n = absurd (cc (sym n ∙ x.made))
idle_sent progress.Over p h (inl x) n = absurd (cc (sym n ∙ x.made))
idle_sent progress.Over p h (inr x) n = absurd (cc (sym n ∙ x.made))

early_sent : {L : Type 0} (q : Progress) (p : Peering L) (h : List Local) (o : Opened L Authentication) (prepared : Option Prepared) → HasIn q p h → p.held ≡ Early o prepared → sent_in h ≡ []
early_sent {L} q p h o prepared x e = elim (held_in q p h x) [
  | inl n ↦ idle_sent q p h x n
  | inr k ↦ early_unsent o.stage k.0 o prepared h (subst (λ (z : Held L). IsHeld k.0 z h) e k.1)
]

unopened_sent : {L : Type 0} (q : Progress) (p : Peering L) (h : List Local) (c : Codec L) → HasIn q p h → p.held ≡ Unopened c → sent_in h ≡ []
unopened_sent {L} q p h c x e = elim (held_in q p h x) [ inl n ↦ idle_sent q p h x n | inr k ↦ (subst (λ (z : Held L). IsHeld k.0 z h) e k.1).sent ]

moving_not : {L : Type 0} (q : Progress) (p : Peering L) (h : List Local) → HasIn q p h → p.held ≡ Moving → ⊥
moving_not progress.Idle p h x e = absurd (cc (sym e ∙ x.holds))
moving_not {L} progress.Opening p h x e = subst (λ (z : Held L). IsHeld x.call z h) e x.called.holds
moving_not {L} progress.Open p h x e = subst (λ (z : Held L). IsHeld x.call z h) e x.called.holds
moving_not {L} progress.Closing p h x e = subst (λ (z : Held L). IsHeld x.call z h) e x.called.holds
moving_not {L} progress.Over p h (inl x) e = subst (λ (z : Held L). IsHeld x.call z h) e x.called.holds
moving_not {L} progress.Over p h (inr x) e = subst (λ (z : Held L). IsHeld x.call z h) e x.called.holds

opens_not : (sent : List Frame) → sent ≡ [] → BeginsWithOpen sent → ⊥
opens_not sent n o = absurd (cc (sym n ∙ o.is))

-- an open or accept waits there where the exchange of headers goes on
stands_waiting : {L : Type 0} (p : Peering L) (h : List Local) (left : List ℕ) (o : Opened L Authentication) (prepared : Option Prepared) → Has p h → p.held ≡ Early o prepared → OpenWaits h → Leaves p h left → IsActive p.held → Stands h left
stands_waiting p h left o prepared x e w l a = elim (l.sorted a) [
  | inl r ↦ elim (rest_law (moment_in h) p h x a r.1) [ inl rests ↦ in_headers w rests r.0 | inr opens ↦ absurd (opens_not (sent_in h) (early_sent p.progress p h o prepared x e) opens) ]
  | inr v ↦ vast v
]

stands_early : {L : Type 0} (p : Peering L) (h : List Local) (left : List ℕ) (o : Opened L Authentication) (prepared : Option Prepared) → Has p h → p.held ≡ Early o prepared → Leaves p h left → (IsMidway o.stage → IsActive p.held) → Stands h left
stands_early p h left o prepared x e l a = elim (early_waits p.progress p h o prepared x e) [
  | inl n ↦ uncalled n.0 n.1
  | inr y ↦ elim y [
    | inl w ↦ stands_waiting p h left o prepared x e w l (a (early_waits_law p h o prepared x e (waits_law p h x (inl w))))
    | inr r ↦ refused r.1 (λ w. r.0 (waits_law p h x w))
  ]
]

abbrev stage_of : {L : Type 0} → Held L → Stage
stage_of (Early o p) = o.stage
stage_of (Late s) = stage.Idle
stage_of (Unopened c) = stage.Idle
stage_of Moving = stage.Idle

midway_known : {L : Type 0} (q : Progress) (p : Peering L) (h : List Local) (o : Opened L Authentication) (prepared : Option Prepared) → HasIn q p h → p.held ≡ Early o prepared → IsMidway o.stage → IsKnown prepared
midway_known progress.Idle p h o prepared x e m = absurd (subst IsMidway (ap stage_of (sym e ∙ x.holds) ∙ x.untouched.stage) m)
midway_known {L} progress.Opening p h o prepared x e m = known_at o.stage x.call o prepared h m (subst (λ (z : Held L). IsHeld x.call z h) e x.called.holds)
midway_known {L} progress.Open p h o prepared x e m = known_at o.stage x.call o prepared h m (subst (λ (z : Held L). IsHeld x.call z h) e x.called.holds)
midway_known {L} progress.Closing p h o prepared x e m = known_at o.stage x.call o prepared h m (subst (λ (z : Held L). IsHeld x.call z h) e x.called.holds)
midway_known {L} progress.Over p h o prepared (inl x) e m = known_at o.stage x.call o prepared h m (subst (λ (z : Held L). IsHeld x.call z h) e x.called.holds)
midway_known {L} progress.Over p h o prepared (inr x) e m = known_at o.stage x.call o prepared h m (subst (λ (z : Held L). IsHeld x.call z h) e x.called.holds)

-- an exchange of headers that has begun and is not at its end goes on
midway_active : {L : Type 0} (p : Peering L) (h : List Local) (o : Opened L Authentication) (prepared : Option Prepared) → Has p h → p.held ≡ Early o prepared → (IsExchanged p.held → ⊥) → IsMidway o.stage → IsActive p.held
midway_active {L} p h o prepared x e n m =
    subst IsActive (sym e) (ready_at o prepared m (midway_known p.progress p h o prepared x e m) (λ z. n (subst IsExchanged (sym e) z)))

-- ---- all

stands_in : {L : Type 0} (held : Held L) (p : Peering L) (h : List Local) (left : List ℕ) → p.held ≡ held → Has p h → ((s : State L) → p.held ≡ Late s → has_failed s.phase ≡ true → IsBroken h) → Leaves p h left → Stands h left
stands_in (Early o prepared) p h left e x b l = stands_early p h left o prepared x e l (midway_active p h o prepared x e l.begun)
stands_in (Late s) p h left e x b l = stands_late (is_stopped s.phase) p h left s refl x e (b s e) l
stands_in (Unopened c) p h left e x b l = refused (unopened_sent p.progress p h c x e) (λ w. unopened_waits_law p h c x e (waits_law p h x w))
stands_in Moving p h left e x b l = absurd (moving_not p.progress p h x e)

pub stands : {L : Type 0} (p : Peering L) (h : List Local) (left : List ℕ) → Has p h → ((s : State L) → p.held ≡ Late s → has_failed s.phase ≡ true → IsBroken h) → Leaves p h left → Stands h left
stands p h left x b l = stands_in p.held p h left refl x b l
