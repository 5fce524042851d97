-- Two ends that have read each other's Attach have nothing against what the other says.
use Rattle.std.specs.Prelude.{◌≡◌, ℕ, Bool, true, false, ◌&&◌, ◌||◌, is_none, List, Option, Some, None, if◌then◌else◌, refl}
use Rattle.std.proofs.Common.{sym, ◌∙◌, ap, subst}
use Rattle.amqp_composites.specs.declared.modes.Role.TheVariants as role
use Rattle.amqp_link.specs.amqp_frames.amqp_termini.declared.source.Source.{Source}
use Rattle.amqp_link.specs.amqp_frames.amqp_termini.declared.target_archetype.TargetArchetype.{TargetArchetype}
use Rattle.amqp_link.specs.amqp_frames.amqp_termini.declared.target_archetype.TargetArchetype.TheVariants as archetype
use Rattle.amqp_link.specs.amqp_performatives.Attach.{written}
use Rattle.amqp_link.specs.amqp_performatives.declared.attach.Attach.{Attach}
use Rattle.amqp_link.specs.declared.endpoint.LinkPhase.TheVariants as phase
use Rattle.amqp_link.specs.declared.error.AttachFault.{AttachFault}
use Rattle.amqp_link.specs.declared.error.AttachFault.TheVariants as fault
use Rattle.amqp_link.specs.declared.settings.AcceptSettings.{AcceptSettings}
use Rattle.amqp_link.specs.Accept.{accepted, accept_fault, or_refused, echoed, named_source, named_target, is_asked_for_node}
use Rattle.amqp_link.specs.Link.{Link, answered, attached, asked, attach_read, accepting, size_of}
use Rattle.amqp_link.specs.Rules.{first_fault, fault_of, is_coordinator, is_dynamic_source, is_dynamic_target, is_stray_source, is_stray_target, is_other_mode}
use Rattle.crossing_laws.specs.Ends.{Suits}
use Rattle.crossing_laws.specs.Lives.{SenderAsked, ReceiverAsked}

-- ---- what is refused

refuses_not : (t : Bool) (x : AttachFault) (o : Option AttachFault) → first_fault t x o ≡ None → t ≡ false
refuses_not true x o e = absurd cc
refuses_not false x o e = refl

nor_next : (t : Bool) (x : AttachFault) (o : Option AttachFault) → first_fault t x o ≡ None → o ≡ None
nor_next true x o e = absurd cc
nor_next false x o e = e

passes : (t : Bool) (x : AttachFault) (o : Option AttachFault) → t ≡ false → o ≡ None → first_fault t x o ≡ None
passes t x o e f = ap (λ u. first_fault u x o) e ∙ f

same_fault : (t u : Bool) (x : AttachFault) (o : Option AttachFault) → t ≡ u → first_fault u x o ≡ None → first_fault t x o ≡ None
same_fault t u x o e f = ap (λ v. first_fault v x o) e ∙ f

accepts_so : (o : Option AttachFault) (t : Bool) → or_refused o t ≡ None → o ≡ None
accepts_so (Some x) t e = absurd cc
accepts_so None t e = refl

-- ---- a node that is named is the node that it was

named_source_stray : (t : Bool) (address : Option (List ℕ)) (x : Source) → is_stray_source (if t then Some (record x { address = address }) else Some x) ≡ is_stray_source (Some x)
named_source_stray true address x = refl
named_source_stray false address x = refl

stray_source : (address : Option (List ℕ)) (o : Option Source) → is_stray_source (named_source address o) ≡ is_stray_source o
stray_source address None = refl
stray_source address (Some x) = named_source_stray x.dynamic address x

named_target_stray : (t : Bool) (address : Option (List ℕ)) (o : TargetArchetype) (p : TargetArchetype) → is_stray_target (Some p) ≡ is_stray_target (Some o)
    → is_stray_target (if t then Some p else Some o) ≡ is_stray_target (Some o)
named_target_stray true address o p e = e
named_target_stray false address o p e = refl

stray_target : (address : Option (List ℕ)) (o : Option TargetArchetype) → is_stray_target (named_target address o) ≡ is_stray_target o
stray_target address None = refl
stray_target address (Some (archetype.Coordinator x)) = refl
stray_target address (Some (archetype.Target x)) = named_target_stray x.dynamic address (archetype.Target x) (archetype.Target (record x { address = address })) refl

named_target_coordinator : (t : Bool) (o p : TargetArchetype) → is_coordinator (Some p) ≡ is_coordinator (Some o) → is_coordinator (if t then Some p else Some o) ≡ is_coordinator (Some o)
named_target_coordinator true o p e = e
named_target_coordinator false o p e = refl

coordinator : (address : Option (List ℕ)) (o : Option TargetArchetype) → is_coordinator (named_target address o) ≡ is_coordinator o
coordinator address None = refl
coordinator address (Some (archetype.Coordinator x)) = refl
coordinator address (Some (archetype.Target x)) = named_target_coordinator x.dynamic (archetype.Target x) (archetype.Target (record x { address = address })) refl

-- ---- an Attach that was answered, and one that was accepted

answered_so : (o : Option AttachFault) (y : Attach) (s : Link) → (answered o y s).phase ≡ phase.Attached → o ≡ None
answered_so None y s e = refl
answered_so (Some fault.IncomingTargetIsNone) y s e = absurd cc
answered_so (Some fault.IncomingSourceIsNone) y s e = absurd cc
answered_so (Some other) y s e = absurd cc

accepted_so : (o : Option AttachFault) (size : ℕ) (own : Attach) → (accepting o size own).phase ≡ phase.Attached → o ≡ None
accepted_so None size own e = refl
accepted_so (Some x) size own e = absurd cc

-- ---- both ends, once each has read the other's Attach

-- a sender and a receiver, of which neither has anything against the other, and neither has said anything of leaving the link
pub record Base (s r : Link) : Type 0 where
  pub sends : s.own.role ≡ role.Sender
  pub receives : r.own.role ≡ role.Receiver
  pub suits : Suits s r.own
  pub suited : Suits r s.own
  pub one : (s.is_closed ≡ false) × (s.remote ≡ None) × (s.is_stuck ≡ false) × (s.last_error ≡ None) × (s.is_made ≡ true)
  pub other : (r.is_closed ≡ false) × (r.remote ≡ None) × (r.is_stuck ≡ false) × (r.last_error ≡ None) × (r.is_made ≡ true)

-- a receiver that has accepted a sender's Attach has nothing against what the sender says then
receiver_suits : (x y : Attach) → is_dynamic_source false x.source ≡ false → is_coordinator y.target ≡ is_coordinator x.target → is_stray_target y.target ≡ is_stray_target x.target
    → fault_of role.Receiver true true x.snd_settle_mode x ≡ None
    → fault_of role.Receiver false true y.snd_settle_mode (record x { target = y.target; rcv_settle_mode = y.rcv_settle_mode }) ≡ None
receiver_suits x y d c t e =
    let z : Attach = record x { target = y.target; rcv_settle_mode = y.rcv_settle_mode } in
    let stray_now = is_stray_source x.source || is_stray_target y.target in
    let stray_then = is_stray_source x.source || is_stray_target x.target in
    let o4 = first_fault stray_then fault.DynamicNodePropertiesIsSomeWhenDynamicIsFalse None in
    let o3 = first_fault (is_dynamic_target true x.target) fault.TargetAddressIsSomeWhenDynamicIsTrue o4 in
    let o2 = first_fault (is_none x.initial_delivery_count) fault.InitialDeliveryCountIsNone o3 in
    let o1 = first_fault (is_none x.source) fault.IncomingSourceIsNone o2 in
    let e1 = nor_next (is_coordinator x.target) fault.CoordinatorIsNotImplemented o1 e in
    let e2 = nor_next (is_none x.source) fault.IncomingSourceIsNone o2 e1 in
    let e3 = nor_next (is_none x.initial_delivery_count) fault.InitialDeliveryCountIsNone o3 e2 in
    let e4 = nor_next (is_dynamic_target true x.target) fault.TargetAddressIsSomeWhenDynamicIsTrue o4 e3 in
    let p4 = same_fault stray_now stray_then fault.DynamicNodePropertiesIsSomeWhenDynamicIsFalse None (ap (λ u. is_stray_source x.source || u) t) e4 in
    let q4 = first_fault stray_now fault.DynamicNodePropertiesIsSomeWhenDynamicIsFalse None in
    let p3 = passes (is_dynamic_source false x.source) fault.SourceAddressIsNoneWhenDynamicIsTrue q4 d p4 in
    let q3 = first_fault (is_dynamic_source false x.source) fault.SourceAddressIsNoneWhenDynamicIsTrue q4 in
    let p2 = passes (is_none x.initial_delivery_count) fault.InitialDeliveryCountIsNone q3 (refuses_not (is_none x.initial_delivery_count) fault.InitialDeliveryCountIsNone o3 e2) p3 in
    let q2 = first_fault (is_none x.initial_delivery_count) fault.InitialDeliveryCountIsNone q3 in
    let p1 = passes (is_none x.source) fault.IncomingSourceIsNone q2 (refuses_not (is_none x.source) fault.IncomingSourceIsNone o2 e1) p2 in
    let q1 = first_fault (is_none x.source) fault.IncomingSourceIsNone q2 in
    passes (is_coordinator y.target) fault.CoordinatorIsNotImplemented q1 (c ∙ refuses_not (is_coordinator x.target) fault.CoordinatorIsNotImplemented o1 e) p1

-- a sender that has accepted a receiver's Attach has nothing against what the receiver says then
sender_suits : (x y : Attach) → is_stray_source y.source ≡ is_stray_source x.source
    → fault_of role.Sender true true x.snd_settle_mode x ≡ None
    → fault_of role.Sender false true x.snd_settle_mode (record x { source = y.source }) ≡ None
sender_suits x y t e =
    let stray_now = is_stray_source y.source || is_stray_target x.target in
    let stray_then = is_stray_source x.source || is_stray_target x.target in
    let o5 = first_fault stray_then fault.DynamicNodePropertiesIsSomeWhenDynamicIsFalse None in
    let o4 = first_fault (is_dynamic_source true x.source) fault.SourceAddressIsSomeWhenDynamicIsTrue o5 in
    let o3 = first_fault (is_dynamic_target false x.target) fault.TargetAddressIsNoneWhenDynamicIsTrue o4 in
    let o2 = first_fault (is_other_mode x.snd_settle_mode x.snd_settle_mode) fault.SndSettleModeNotSupported o3 in
    let o1 = first_fault (is_none x.target) fault.IncomingTargetIsNone o2 in
    let e1 = nor_next (is_coordinator x.target) fault.CoordinatorIsNotImplemented o1 e in
    let e2 = nor_next (is_none x.target) fault.IncomingTargetIsNone o2 e1 in
    let e3 = nor_next (is_other_mode x.snd_settle_mode x.snd_settle_mode) fault.SndSettleModeNotSupported o3 e2 in
    let e4 = nor_next (is_dynamic_target false x.target) fault.TargetAddressIsNoneWhenDynamicIsTrue o4 e3 in
    let e5 = nor_next (is_dynamic_source true x.source) fault.SourceAddressIsSomeWhenDynamicIsTrue o5 e4 in
    let p5 = same_fault stray_now stray_then fault.DynamicNodePropertiesIsSomeWhenDynamicIsFalse None (ap (λ u. u || is_stray_target x.target) t) e5 in
    let q5 = first_fault stray_now fault.DynamicNodePropertiesIsSomeWhenDynamicIsFalse None in
    let p4 = passes (is_dynamic_target false x.target) fault.TargetAddressIsNoneWhenDynamicIsTrue q5 (refuses_not (is_dynamic_target false x.target) fault.TargetAddressIsNoneWhenDynamicIsTrue o4 e3) p5 in
    let q4 = first_fault (is_dynamic_target false x.target) fault.TargetAddressIsNoneWhenDynamicIsTrue q5 in
    let p3 = passes (is_other_mode x.snd_settle_mode x.snd_settle_mode) fault.SndSettleModeNotSupported q4 (refuses_not (is_other_mode x.snd_settle_mode x.snd_settle_mode) fault.SndSettleModeNotSupported o3 e2) p4 in
    let q3 = first_fault (is_other_mode x.snd_settle_mode x.snd_settle_mode) fault.SndSettleModeNotSupported q4 in
    let p2 = passes (is_none x.target) fault.IncomingTargetIsNone q3 (refuses_not (is_none x.target) fault.IncomingTargetIsNone o2 e1) p3 in
    let q2 = first_fault (is_none x.target) fault.IncomingTargetIsNone q3 in
    passes (is_coordinator x.target) fault.CoordinatorIsNotImplemented q2 (refuses_not (is_coordinator x.target) fault.CoordinatorIsNotImplemented o1 e) p2

-- the sender has attached, and the receiver has accepted it
sender_asked_at : (x : Attach) (verify : Bool) (settings : AcceptSettings) (handle : ℕ) → x.role ≡ role.Sender → is_dynamic_source false x.source ≡ false
    → (attach_read (written (echoed settings handle (written x))) (asked verify x)).phase ≡ phase.Attached → (accepted settings handle (written x)).phase ≡ phase.Attached
    → Base (attach_read (written (echoed settings handle (written x))) (asked verify x)) (accepted settings handle (written x))
sender_asked_at x verify settings handle e = subst (λ q. Claim (record x { role = q })) (sym e) at_sender
  where
    Claim : Attach → Type 0
    Claim z =
        is_dynamic_source false z.source ≡ false → (attach_read (written (echoed settings handle (written z))) (asked verify z)).phase ≡ phase.Attached → (accepted settings handle (written z)).phase ≡ phase.Attached
        → Base (attach_read (written (echoed settings handle (written z))) (asked verify z)) (accepted settings handle (written z))

    at_sender : Claim (record x { role = role.Sender })
    at_sender d a b =
        let z : Attach = record x { role = role.Sender } in
        let y = echoed settings handle (written z) in
        let f = answered_so (fault_of role.Sender false verify x.snd_settle_mode (written y)) (written y) (asked verify z) a in
        let g = accepted_so (accept_fault settings (written z)) (size_of (written z).max_message_size) y b in
        let k = accepts_so (fault_of role.Receiver true true x.snd_settle_mode (written z)) (is_none settings.dynamic_address && is_asked_for_node role.Receiver (written z)) g in
        let base : Base (attached (written y) (asked verify z)) (accepting None (size_of (written z).max_message_size) y) = record {
          sends = refl;
          receives = refl;
          suits = f;
          suited = receiver_suits z y d (coordinator settings.dynamic_address x.target) (stray_target settings.dynamic_address x.target) k;
          one = (refl, refl, refl, refl, refl);
          other = (refl, refl, refl, refl, refl);
        } in
        subst (λ o. Base (answered o (written y) (asked verify z)) (accepted settings handle (written z))) (sym f) (subst (λ o. Base (attached (written y) (asked verify z)) (accepting o (size_of (written z).max_message_size) y)) (sym g) base)

pub sender_asked : (s r : Link) → SenderAsked s r → s.phase ≡ phase.Attached → r.phase ≡ phase.Attached → Base s r
sender_asked s r m a b =
    let f = sender_asked_at m.attach m.verify m.settings m.handle m.role m.source (ap (λ (t : Link). t.phase) (sym m.sender) ∙ a) (ap (λ (t : Link). t.phase) (sym m.receiver) ∙ b) in
    subst (λ t. Base t r) (sym m.sender) (subst (λ t. Base (attach_read (written (echoed m.settings m.handle (written m.attach))) (asked m.verify m.attach)) t) (sym m.receiver) f)

-- the receiver has attached, and the sender has accepted it
receiver_asked_at : (x : Attach) (verify : Bool) (settings : AcceptSettings) (handle : ℕ) → x.role ≡ role.Receiver
    → (accepted settings handle (written x)).phase ≡ phase.Attached → (attach_read (written (echoed settings handle (written x))) (asked verify x)).phase ≡ phase.Attached
    → Base (accepted settings handle (written x)) (attach_read (written (echoed settings handle (written x))) (asked verify x))
receiver_asked_at x verify settings handle e = subst (λ q. Claim (record x { role = q })) (sym e) at_receiver
  where
    Claim : Attach → Type 0
    Claim z =
        (accepted settings handle (written z)).phase ≡ phase.Attached → (attach_read (written (echoed settings handle (written z))) (asked verify z)).phase ≡ phase.Attached
        → Base (accepted settings handle (written z)) (attach_read (written (echoed settings handle (written z))) (asked verify z))

    at_receiver : Claim (record x { role = role.Receiver })
    at_receiver b a =
        let z : Attach = record x { role = role.Receiver } in
        let y = echoed settings handle (written z) in
        let f = answered_so (fault_of role.Receiver false verify x.snd_settle_mode (written y)) (written y) (asked verify z) a in
        let g = accepted_so (accept_fault settings (written z)) (size_of (written z).max_message_size) y b in
        let k = accepts_so (fault_of role.Sender true true x.snd_settle_mode (written z)) (is_none settings.dynamic_address && is_asked_for_node role.Sender (written z)) g in
        let base : Base (accepting None (size_of (written z).max_message_size) y) (attached (written y) (asked verify z)) = record {
          sends = refl;
          receives = refl;
          suits = sender_suits z y (stray_source settings.dynamic_address x.source) k;
          suited = f;
          one = (refl, refl, refl, refl, refl);
          other = (refl, refl, refl, refl, refl);
        } in
        subst (λ o. Base (accepted settings handle (written z)) (answered o (written y) (asked verify z))) (sym f) (subst (λ o. Base (accepting o (size_of (written z).max_message_size) y) (attached (written y) (asked verify z))) (sym g) base)

pub receiver_asked : (s r : Link) → ReceiverAsked s r → s.phase ≡ phase.Attached → r.phase ≡ phase.Attached → Base s r
receiver_asked s r m a b =
    let f = receiver_asked_at m.attach m.verify m.settings m.handle m.role (ap (λ (t : Link). t.phase) (sym m.sender) ∙ a) (ap (λ (t : Link). t.phase) (sym m.receiver) ∙ b) in
    subst (λ t. Base t r) (sym m.sender) (subst (λ t. Base (accepted m.settings m.handle (written m.attach)) t) (sym m.receiver) f)
