-- An end whose transport failed keeps the fault.
use Rattle.std.proofs.Common.{◌≡◌, inl, inr, List, true, sym, ◌∙◌, subst}
use Rattle.amqp_engine.specs.Phases.{has_failed}
use Rattle.amqp_engine.specs.State.{State}
use Rattle.amqp_peer.specs.declared.held.Held.{Held}
use Rattle.amqp_peer.specs.declared.held.Held.TheVariants.{Late}
use Rattle.amqp_peer.specs.declared.peer.Progress.{Progress}
use Rattle.amqp_peer.specs.declared.peer.Progress.TheVariants as progress
use Rattle.amqp_peer.specs.Causes.{IsBroken}
use Rattle.amqp_peer.specs.History.{Local}
use Rattle.amqp_peer.specs.Peering.{Peering, Has, HasIn, IsBrokenIn, IsBrokenHeld, IsUnmade, IsMadeIn}
use Rattle.amqp_peer.proofs.Grows.{broken_unmade, broken_made}

broken_in : {L : Type 0} (q : Progress) (p : Peering L) (h : List Local) (s : State L) → HasIn q p h → p.held ≡ Late s → IsBrokenIn s h
broken_in progress.Idle p h s x e = absurd (cc (sym e ∙ x.holds))
broken_in {L} progress.Opening p h s x e = broken_unmade p.fault s h (subst (λ (z : Held L). IsUnmade p.fault z h) e x.unmade)
broken_in {L} progress.Open p h s x e = broken_made p.fault s h (subst (λ (z : Held L). IsMadeIn p.fault z h) e x.is_made).1
broken_in {L} progress.Closing p h s x e = broken_made p.fault s h (subst (λ (z : Held L). IsMadeIn p.fault z h) e x.is_made).1
broken_in {L} progress.Over p h s (inl x) e = subst (λ (z : Held L). IsBrokenHeld z h) e x.broken
broken_in {L} progress.Over p h s (inr x) e = subst (λ (z : Held L). IsBrokenHeld z h) e x.broken

pub broken_law : {L : Type 0} (p : Peering L) (h : List Local) → Has p h → (s : State L) → p.held ≡ Late s → has_failed s.phase ≡ true → IsBroken h
broken_law p h x s e = broken_in p.progress p h s x e
