-- Calls that have waited at a link are answered.
use Rattle.std.specs.Prelude.{◌≡◌, ◌⊎◌, ℕ, zero, suc, nat_eq, Bool, true, false, not, ◌&&◌, ◌||◌, is_some, slice_get, slice_set, List, [], ◌∷◌, Option, Some, None, Result, Ok, Err, if◌then◌else◌, refl}
use Rattle.std.proofs.Common.{inl, inr, sym, ◌∙◌, ap, subst, eq-eqb}
use Rattle.std.specs.Map.{lookup}
use Rattle.indexmap.specs.IndexMap.{swap_remove_entry}
use Rattle.amqp_termini.specs.declared.state.DeliveryState.{DeliveryState}
use Rattle.amqp_performatives.specs.declared.attach.Attach.{Attach}
use Rattle.amqp_frames.specs.declared.shared.CoveredDelivery.{CoveredDelivery}
use Rattle.amqp_link.specs.declared.endpoint.AttachPoll.{AttachPoll}
use Rattle.amqp_link.specs.declared.endpoint.AttachPoll.TheVariants.{Pending, Done}
use Rattle.amqp_link.specs.declared.error.AttachError.{AttachError}
use Rattle.amqp_link.specs.Link.{is_done, is_closed_by_one}
use Rattle.amqp_link_calls.specs.Answering.{attach_told, attach_polled, attach_answered_to, attach_answered, attach_answered_now, outcome_answered_to, outcomes_answered, outcomes_answered_now}
use Rattle.amqp_link_calls.specs.Called.{Called, with_side, awaits_outcome}
use Rattle.amqp_link_calls.specs.Calling.{outcome_given_up}
use Rattle.amqp_link_calls.specs.Hearing as hearing
use Rattle.amqp_link_calls.specs.Side as side
use Rattle.amqp_link_calls.specs.Side.{Side, Sender, Receiver, link_of, with_link, is_stopped, is_closed_by_both, polled, polled_answer}
use Rattle.amqp_receiver.specs.Receiving as receiving
use Rattle.amqp_sender.specs.declared.sender.Settlement.{Settlement}
use Rattle.amqp_sender.specs.declared.sender.Settlement.TheVariants.{Unsettled, Settled, NonTerminal, Illegal}
use Rattle.amqp_sender.specs.Sender.{State as SenderState}
use Rattle.amqp_sender.specs.Settling as settling
use Rattle.amqp_sender.specs.Settling.{is_known, settlement_of, place_of, settled_at, settled, echoed, outcome_read, disposition_read}
use Rattle.call_waits.specs.Waits.{AttachWaits, OutcomeWaits, IsUnsettled, IsIdle, Waits}
use Rattle.call_waits.proofs.Links as links
use Rattle.call_waits.proofs.Links.{Stays, Awaits, keeps_on}
use Rattle.call_waits.proofs.Sides.{Keeps, polls_keeps, attach_holds}
use Rattle.call_waits.proofs.Receivers as receivers
use Rattle.call_waits.proofs.Tables.{gone, left}
use Rattle.call_waits.proofs.Pending.{attach_pending}
use Rattle.call_waits.proofs.Keeping.{AttachFits, PartFits, UnsettledFits, OutcomeFits, Once, rests, Base, base_then, base_rests, Calm, calm_on, calm_then, calm_either, calm_part, calm_outcome, part_kept, outcome_kept, waits_by, side_base, side_calm, none_some, none_once}

-- ---- the attach

told_calm : (r : Result AttachPoll AttachError) (name : ℕ) (k : Called) → Calm k (attach_told r name k)
told_calm (Ok Pending) name k = calm_on k
told_calm (Ok Done) name k =
    record {
      loose = record {
        base = record { stop = refl; waiting = λ place n e. (e, λ h. h); once = λ h. h; idle = λ i. record { stopped = i.stopped; attaching = refl; parting = i.parting; waiting = i.waiting }; concluded = λ h. h };
        awaits = λ h. h;
        attaching = λ n e. absurd cc;
      };
      stays = (keeps_on (link_of k.side)).stays;
      parting = λ w e. e;
    }
told_calm (Err x) name k =
    record {
      loose = record {
        base = record { stop = refl; waiting = λ place n e. (e, λ h. h); once = λ h. h; idle = λ i. record { stopped = i.stopped; attaching = refl; parting = i.parting; waiting = i.waiting }; concluded = λ h. h };
        awaits = λ h. h;
        attaching = λ n e. absurd cc;
      };
      stays = (keeps_on (link_of k.side)).stays;
      parting = λ w e. e;
    }

polled_calm : (name : ℕ) (k : Called) → Calm k (attach_polled name k)
polled_calm name k =
    let m = with_side (polled k.side) k in
    calm_then k m (attach_polled name k) (side_calm (polled k.side) k (polls_keeps k.side)) (told_calm (polled_answer k.side) name m)

attach_to_calm : (o : Option ℕ) (k : Called) → Calm k (attach_answered_to o k)
attach_to_calm None k = calm_on k
attach_to_calm (Some name) k = polled_calm name k

pub attach_calm : (k : Called) → Calm k (attach_answered k)
attach_calm k = attach_to_calm k.attaching k

pub attach_now_calm : (k : Called) → Calm k (attach_answered_now k)
attach_now_calm k = calm_either (is_stopped k.side) k k (attach_answered k) (calm_on k) (attach_calm k)

told_fits : (r : Result AttachPoll AttachError) (name : ℕ) (k : Called) → (r ≡ Ok Pending → AttachWaits k.side) → AttachFits (attach_told r name k)
told_fits (Ok Pending) name k f = λ n e h. f refl
told_fits (Ok Done) name k f = λ n e h. absurd cc
told_fits (Err x) name k f = λ n e h. absurd cc

attach_to_fits : (o : Option ℕ) (k : Called) → k.attaching ≡ o → AttachFits (attach_answered_to o k)
attach_to_fits None k at = λ n e h. none_some _ k.attaching n at e
attach_to_fits (Some name) k at = told_fits (polled_answer k.side) name (with_side (polled k.side) k) (attach_pending k.side)

attach_now_by : (b : Bool) (k : Called) → is_stopped k.side ≡ b → AttachFits (if b then k else attach_answered k)
attach_now_by true k e = λ n a h. (let f : true ≡ false = sym e ∙ h in absurd cc)
attach_now_by false k e = attach_to_fits k.attaching k refl

pub attach_now_fits : (k : Called) → AttachFits (attach_answered_now k)
attach_now_fits k = attach_now_by (is_stopped k.side) k refl

-- the peer's Attach was read
pub hears_attach : (x : Attach) (l : Called) → Waits l → Waits (hearing.attach_read x l)
hears_attach x l w =
    let t = side.attach_read x l.side in
    let k = with_side t l in
    let m = attach_answered_now k in
    let s = attach_holds x l.side in
    let c = attach_now_calm k in
    let b = side_base t l (ap is_some s.stays.stop) s.unsettled in
    let part : PartFits k = λ v e h. part_kept v.kind l.side t s.stays (w.part v e (sym (ap is_some s.stays.stop) ∙ h)) in
    let outcome : OutcomeFits k = λ place name e h. outcome_kept l.side t s.stays (w.outcome place name e (sym (ap is_some s.stays.stop) ∙ h)) in
    waits_by m (attach_now_fits k) (calm_part k m c part) (calm_outcome k m c outcome) (base_rests l m (base_then l k m b c.loose.base) (rests l w))

-- ---- outcomes

-- of the link, all but the calls that wait for outcomes
pub outcomes_base : (l : Called) → Base l (outcomes_answered l)
outcomes_base l =
    record {
      stop = refl;
      waiting = λ place name e. absurd cc;
      once = λ h. none_once (outcomes_answered l) refl;
      idle = λ i. record { stopped = i.stopped; attaching = i.attaching; parting = i.parting; waiting = refl };
      concluded = λ h. h;
    }

pub outcomes_calm : (l : Called) → Calm l (outcomes_answered l)
outcomes_calm l = record { loose = record { base = outcomes_base l; awaits = λ h. h; attaching = λ n e. e }; stays = (keeps_on (link_of l.side)).stays; parting = λ w e. e }

pub outcomes_now_calm : (l : Called) → Calm l (outcomes_answered_now l)
outcomes_now_calm l = calm_either (is_stopped l.side || not (is_closed_by_both l.side)) l l (outcomes_answered l) (calm_on l) (outcomes_calm l)

-- what is not closed by both
open_by : (gone done one stuck : Bool) → not (gone || (done && one)) ≡ true → (gone ≡ false) × (done ≡ true → one ≡ true → stuck ≡ true)
open_by true done one stuck h = absurd cc
open_by false true true stuck h = absurd cc
open_by false true false stuck h = (refl, λ d c. (let f : false ≡ true = c in absurd cc))
open_by false false one stuck h = (refl, λ d c. (let f : false ≡ true = d in absurd cc))

side_open : (s : Side) (place : ℕ) → IsUnsettled place s → not (is_closed_by_both s) ≡ true → OutcomeWaits s
side_open (Sender s) place u h = open_by s.link.is_gone (is_done s.link.phase) (is_closed_by_one s.link) s.link.is_stuck h
side_open (Receiver s) place u h = absurd u

outcomes_by : (a b : Bool) (l : Called) → is_stopped l.side ≡ a → not (is_closed_by_both l.side) ≡ b → UnsettledFits l → OutcomeFits (if a || b then l else outcomes_answered l)
outcomes_by true b l e f u = λ place name h n. (let g : true ≡ false = sym e ∙ n in absurd cc)
outcomes_by false true l e f u = λ place name h n. side_open l.side place (u place name h) f
outcomes_by false false l e f u = λ place name h n. absurd cc

pub outcomes_now_fits : (l : Called) → UnsettledFits l → OutcomeFits (outcomes_answered_now l)
outcomes_now_fits l u = outcomes_by (is_stopped l.side) (not (is_closed_by_both l.side)) l refl refl u

-- ---- a Disposition

set_or : {X : Type 0} → (xs : List X) (i j : ℕ) (y z : X) → slice_get xs j ≡ Some z → (slice_get (slice_set xs i y) j ≡ Some z) ⊎ (i ≡ j)
set_or [] zero j y z h = inl h
set_or [] (suc i) j y z h = inl h
set_or (x ∷ xs) zero zero y z h = inr refl
set_or (x ∷ xs) zero (suc j) y z h = inl h
set_or (x ∷ xs) (suc i) zero y z h = inl h
set_or (x ∷ xs) (suc i) (suc j) y z h = by (set_or xs i j y z h)
  where
    by : (slice_get (slice_set xs i y) j ≡ Some z) ⊎ (i ≡ j) → (slice_get (slice_set (x ∷ xs) (suc i) y) (suc j) ≡ Some z) ⊎ (suc i ≡ suc j)
    by (inl e) = inl e
    by (inr e) = inr (ap suc e)

known_or : (o : Option Settlement) → (o ≡ Some Unsettled) ⊎ (is_known o ≡ true)
known_or None = inr refl
known_or (Some Unsettled) = inl refl
known_or (Some (Settled x)) = inr refl
known_or (Some NonTerminal) = inr refl
known_or (Some Illegal) = inr refl

-- a delivery of which nothing was told: nothing was told yet, or it is the one at that place, and that is known
abbrev Either : Option ℕ → SenderState → ℕ → Type 0
Either o u q = (slice_get u.settlements q ≡ Some Unsettled) ⊎ ((o ≡ Some q) × (is_known (slice_get u.settlements q) ≡ true))

settled_or : (o : Option ℕ) (tag : List ℕ) (v : Settlement) (s : SenderState) (q : ℕ) → slice_get s.settlements q ≡ Some Unsettled → Either o (settled_at o tag v s) q
settled_or None tag v s q h = inl h
settled_or (Some place) tag v s q h = by (set_or s.settlements place q v Unsettled h) (known_or (slice_get (slice_set s.settlements place v) q))
  where
    by : (slice_get (slice_set s.settlements place v) q ≡ Some Unsettled) ⊎ (place ≡ q)
        → (slice_get (slice_set s.settlements place v) q ≡ Some Unsettled) ⊎ (is_known (slice_get (slice_set s.settlements place v) q) ≡ true)
        → Either (Some place) (settled_at (Some place) tag v s) q
    by (inl e) k = inl e
    by (inr e) (inl k) = inl k
    by (inr e) (inr k) = inr (ap Some e, k)

echoed_or : (c : Bool) (o : Option ℕ) (number : ℕ) (x : Option DeliveryState) (s : SenderState) (q : ℕ) → Either o s q → Either o (echoed c number x s) q
echoed_or true o number x s q h = h
echoed_or false o number x s q h = h

outcome_or : (c : Bool) (covered : CoveredDelivery) (x : Option DeliveryState) (s : SenderState) (q : ℕ) → slice_get s.settlements q ≡ Some Unsettled → Either (place_of covered.delivery_tag s) (outcome_read c covered x s) q
outcome_or false covered x s q h = inl h
outcome_or true covered x s q h =
    let o = place_of covered.delivery_tag s in
    let t = settled_at o covered.delivery_tag (settlement_of x) s in
    echoed_or (is_some s.link.stop_reason) o covered.delivery_id x t q (settled_or o covered.delivery_tag (settlement_of x) s q h)

read_or : (c : Bool) (covered : CoveredDelivery) (x : Option DeliveryState) (s : SenderState) (q : ℕ) → slice_get s.settlements q ≡ Some Unsettled → Either (place_of covered.delivery_tag s) (disposition_read covered c x s) q
read_or true covered x s q h = settled_or (place_of covered.delivery_tag s) covered.delivery_tag (settlement_of x) s q h
read_or false covered x s q h = outcome_or (settling.is_second s.link.own.rcv_settle_mode && settling.is_terminal x && is_some (place_of covered.delivery_tag s)) covered x s q h

-- the link of it
settled_link : (o : Option ℕ) (tag : List ℕ) (v : Settlement) (s : SenderState) → links.Keeps s.link (settled_at o tag v s).link
settled_link None tag v s = keeps_on s.link
settled_link (Some place) tag v s = keeps_on s.link

echoed_link : (c : Bool) (number : ℕ) (x : Option DeliveryState) (s : SenderState) → links.Keeps s.link (echoed c number x s).link
echoed_link true number x s = keeps_on s.link
echoed_link false number x s = record { stays = record { done = λ h. (h, refl, refl); remote = refl; gone = refl; stop = refl }; awaits = λ h. h }

outcome_link : (c : Bool) (covered : CoveredDelivery) (x : Option DeliveryState) (s : SenderState) → links.Keeps s.link (outcome_read c covered x s).link
outcome_link false covered x s = keeps_on s.link
outcome_link true covered x s =
    let t = settled covered.delivery_tag (settlement_of x) s in
    links.keeps_then s.link t.link (echoed (is_some s.link.stop_reason) covered.delivery_id x t).link (settled_link (place_of covered.delivery_tag s) covered.delivery_tag (settlement_of x) s)
    (echoed_link (is_some s.link.stop_reason) covered.delivery_id x t)

read_link : (c : Bool) (covered : CoveredDelivery) (x : Option DeliveryState) (s : SenderState) → links.Keeps s.link (disposition_read covered c x s).link
read_link true covered x s = settled_link (place_of covered.delivery_tag s) covered.delivery_tag (settlement_of x) s
read_link false covered x s = outcome_link (settling.is_second s.link.own.rcv_settle_mode && settling.is_terminal x && is_some (place_of covered.delivery_tag s)) covered x s

same_key : (a b : ℕ) (P : Type 0) → Some a ≡ Some b → nat_eq a b ≡ false → P
same_key a b P e f = let g : true ≡ false = sym (eq-eqb a b (one_of a b e)) ∙ f in absurd cc
  where
    one_of : (a b : ℕ) → Some a ≡ Some b → a ≡ b
    one_of a b e = cc

-- what is left of the calls that wait
none_left : (p : ℕ) (ws : List (ℕ × ℕ)) → ws ≡ [] → swap_remove_entry (nat_eq p) ws ≡ []
none_left p ws e = ap (swap_remove_entry (nat_eq p)) e

abbrev waits_at : List (ℕ × ℕ) → Option ℕ → Option ℕ
waits_at ws None = None
waits_at ws (Some n) = lookup (nat_eq n) ws

abbrev known_at : List Settlement → Option ℕ → Bool
known_at xs None = false
known_at xs (Some n) = is_known (slice_get xs n)

module _ (t u : SenderState) (l : Called) (at : l.side ≡ Sender t) (once : Once l) (keeps : links.Keeps t.link u.link) where
  abbrev Behind : Called
  Behind = with_side (Sender u) l

  behind_stop : is_stopped (Sender u) ≡ is_stopped l.side
  behind_stop = ap is_some keeps.stays.stop ∙ sym (ap is_stopped at)

  behind_stays : Stays (link_of l.side) u.link
  behind_stays = subst (λ s. Stays (link_of s) u.link) (sym at) keeps.stays

  behind_awaits : Awaits (link_of l.side) u.link
  behind_awaits = subst (λ s. Awaits (link_of s) u.link) (sym at) keeps.awaits

  was_open : (q : ℕ) → IsUnsettled q l.side → slice_get t.settlements q ≡ Some Unsettled
  was_open q h = subst (λ s. IsUnsettled q s) at h

  behind_idle : IsIdle l → IsIdle Behind
  behind_idle i = record { stopped = behind_stop ∙ i.stopped; attaching = i.attaching; parting = i.parting; waiting = i.waiting }

  -- nothing that is awaited is known
  all_open : ((q name : ℕ) → lookup (nat_eq q) l.waiting ≡ Some name → slice_get t.settlements q ≡ Some Unsettled → slice_get u.settlements q ≡ Some Unsettled) → Calm l Behind
  all_open f =
      record {
        loose = record {
          base = record { stop = behind_stop; waiting = λ q name e. (e, λ h. f q name e (was_open q h)); once = λ h. h; idle = behind_idle; concluded = λ h. h };
          awaits = behind_awaits;
          attaching = λ n e. e;
        };
        stays = behind_stays;
        parting = λ w e. e;
      }

  -- what is known of the delivery at that place is told
  one_known : (p : ℕ) (o : Option ℕ) → lookup (nat_eq p) l.waiting ≡ o → ((q : ℕ) → slice_get t.settlements q ≡ Some Unsettled → Either (Some p) u q) → Calm l (outcome_answered_to o p Behind)
  one_known p None is f = all_open (λ q name e h. by q name e (f q h))
    where
      by : (q name : ℕ) → lookup (nat_eq q) l.waiting ≡ Some name → Either (Some p) u q → slice_get u.settlements q ≡ Some Unsettled
      by q name e (inl k) = k
      by q name e (inr k) = none_some _ (lookup (nat_eq q) l.waiting) name (subst (λ o. waits_at l.waiting o ≡ None) k.0 is) e
  one_known p (Some who) is f =
      record {
        loose = record {
          base = record {
            stop = behind_stop;
            waiting = λ q name e. (let a = left p q l.waiting name once e in (a.1, λ h. by q a.0 (f q (was_open q h))));
            once = λ h. (gone p l.waiting h).keyed;
            idle = λ i. record { stopped = behind_stop ∙ i.stopped; attaching = i.attaching; parting = i.parting; waiting = none_left p l.waiting i.waiting };
            concluded = λ h. h;
          };
          awaits = behind_awaits;
          attaching = λ n e. e;
        };
        stays = behind_stays;
        parting = λ w e. e;
      }
    where
      by : (q : ℕ) → nat_eq p q ≡ false → Either (Some p) u q → slice_get u.settlements q ≡ Some Unsettled
      by q far (inl k) = k
      by q far (inr k) = same_key p q _ k.0 far

  not_known : (o : Option Settlement) (P : Type 0) → is_known o ≡ false → is_known o ≡ true → P
  not_known o P e h = let f : false ≡ true = sym e ∙ h in absurd cc

  done_by : (p : ℕ) (d : Bool) → is_known (slice_get u.settlements p) ≡ d → ((q : ℕ) → slice_get t.settlements q ≡ Some Unsettled → Either (Some p) u q) → Calm l (hearing.done_answered (Some p) d Behind)
  done_by p true e f = one_known p (lookup (nat_eq p) l.waiting) refl f
  done_by p false e f = all_open (λ q name a h. by q (f q h))
    where
      by : (q : ℕ) → Either (Some p) u q → slice_get u.settlements q ≡ Some Unsettled
      by q (inl k) = k
      by q (inr k) = not_known (slice_get u.settlements q) _ (ap (known_at u.settlements) (sym k.0) ∙ e) k.1

  pub done_calm : (o : Option ℕ) → ((q : ℕ) → slice_get t.settlements q ≡ Some Unsettled → Either o u q) → Calm l (hearing.done_answered o (hearing.is_done o u) Behind)
  done_calm None f = all_open (λ q name a h. by q (f q h))
    where
      by : (q : ℕ) → Either None u q → slice_get u.settlements q ≡ Some Unsettled
      by q (inl k) = k
      by q (inr k) = (let e : None ≡ Some q = k.0 in absurd cc)
  done_calm (Some p) f = done_by p (is_known (slice_get u.settlements p)) refl f

disposition_by : (s : Side) (covered : CoveredDelivery) (c : Bool) (x : Option DeliveryState) (l : Called) → l.side ≡ s → Once l → Calm l (hearing.disposition_at s covered c x l)
disposition_by (Sender t) covered c x l at once =
    done_calm t (disposition_read covered c x t) l at once (read_link c covered x t) (place_of covered.delivery_tag t) (λ q h. read_or c covered x t q h)
disposition_by (Receiver t) covered c x l at once =
    let u = receiving.disposition_read covered c t in
    let k = receivers.hears_disposition covered c t in
    side_calm (Receiver u) l
    (subst (λ s. Keeps s (Receiver u)) (sym at) (record { holds = record { stays = k.keeps.stays; unsettled = λ place h. h }; awaits = k.keeps.awaits }))

pub disposition_calm : (covered : CoveredDelivery) (c : Bool) (x : Option DeliveryState) (l : Called) → Once l → Calm l (hearing.disposition_read covered c x l)
disposition_calm covered c x l once = disposition_by l.side covered c x l refl once

-- the time of a call is over that waits for an outcome
gone_calm : (place : ℕ) (l : Called) → Once l → Calm l (record l { waiting = swap_remove_entry (nat_eq place) l.waiting })
gone_calm place l once =
    record {
      loose = record {
        base = record {
          stop = refl;
          waiting = λ q name e. ((left place q l.waiting name once e).1, λ h. h);
          once = λ h. (gone place l.waiting h).keyed;
          idle = λ i. record { stopped = i.stopped; attaching = i.attaching; parting = i.parting; waiting = none_left place l.waiting i.waiting };
          concluded = λ h. h;
        };
        awaits = λ h. h;
        attaching = λ n e. e;
      };
      stays = (keeps_on (link_of l.side)).stays;
      parting = λ w e. e;
    }

pub outcome_given_up_calm : (name place : ℕ) (l : Called) → Once l → Calm l (outcome_given_up name place l)
outcome_given_up_calm name place l once = calm_either (awaits_outcome name place l) l (record l { waiting = swap_remove_entry (nat_eq place) l.waiting }) l (gone_calm place l once) (calm_on l)
