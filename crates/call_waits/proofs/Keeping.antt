-- One link with its calls goes on, and these wait as before.
use Rattle.std.specs.Prelude.{◌≡◌, ℕ, nat_eq, Bool, true, false, is_some, [], Option, Some, None, if◌then◌else◌, refl}
use Rattle.std.proofs.Common.{sym, ◌∙◌, ap, subst}
use Rattle.std.specs.List.{IsDistinct}
use Rattle.std.specs.Map.{keys_of, lookup}
use Rattle.amqp_link_calls.specs.Called.{Called, with_side}
use Rattle.amqp_link_calls.specs.Side.{Side, link_of, is_stopped}
use Rattle.amqp_link_calls.specs.declared.leave.PartKind.{PartKind}
use Rattle.amqp_link_calls.specs.declared.leave.PartKind.TheVariants as kind
use Rattle.amqp_link_calls.specs.declared.leave.WaitingPart.{WaitingPart}
use Rattle.call_waits.specs.Waits.{AttachWaits, PartWaits, OutcomeWaits, IsUnsettled, IsIdle, Waits}
use Rattle.call_waits.proofs.Links.{Stays, Awaits, stays_then, undone, same_closed}
use Rattle.call_waits.proofs.Links as links
use Rattle.call_waits.proofs.Sides.{Keeps}
use Rattle.call_waits.proofs.Tables.{none_keyed}

-- ---- what waits, one by one

abbrev pub AttachFits : Called → Type 0
AttachFits l = (name : ℕ) → l.attaching ≡ Some name → is_stopped l.side ≡ false → AttachWaits l.side

abbrev pub PartFits : Called → Type 0
PartFits l = (w : WaitingPart) → l.parting ≡ Some w → is_stopped l.side ≡ false → PartWaits w.kind l.side

abbrev pub UnsettledFits : Called → Type 0
UnsettledFits l = (place name : ℕ) → lookup (nat_eq place) l.waiting ≡ Some name → IsUnsettled place l.side

abbrev pub OutcomeFits : Called → Type 0
OutcomeFits l = (place name : ℕ) → lookup (nat_eq place) l.waiting ≡ Some name → is_stopped l.side ≡ false → OutcomeWaits l.side

abbrev pub Once : Called → Type 0
Once l = IsDistinct nat_eq (keys_of l.waiting)

abbrev pub OverFits : Called → Type 0
OverFits l = l.is_concluded ≡ true → IsIdle l

-- what is so whether the peer has left the link or not
pub record Rests (l : Called) : Type 0 where
  pub unsettled : UnsettledFits l
  pub once : Once l
  pub over : OverFits l

pub rests : (l : Called) → Waits l → Rests l
rests l w = record { unsettled = w.unsettled; once = w.once; over = w.over }

-- ---- what a step leaves as it was

-- no call waits for an outcome that did not before, and of a delivery that is awaited nothing is told
pub record Base (l m : Called) : Type 0 where
  pub stop : is_stopped m.side ≡ is_stopped l.side
  pub waiting : (place name : ℕ) → lookup (nat_eq place) m.waiting ≡ Some name
      → (lookup (nat_eq place) l.waiting ≡ Some name) × (IsUnsettled place l.side → IsUnsettled place m.side)
  pub once : Once l → Once m
  pub idle : IsIdle l → IsIdle m
  pub concluded : m.is_concluded ≡ true → l.is_concluded ≡ true

pub base_on : (l : Called) → Base l l
base_on l = record { stop = refl; waiting = λ place name e. (e, λ h. h); once = λ h. h; idle = λ h. h; concluded = λ h. h }

pub base_then : (l m n : Called) → Base l m → Base m n → Base l n
base_then l m n p q =
    record {
      stop = q.stop ∙ p.stop;
      waiting = λ place name e. let a = q.waiting place name e in let b = p.waiting place name a.0 in (b.0, λ h. a.1 (b.1 h));
      once = λ h. q.once (p.once h);
      idle = λ h. q.idle (p.idle h);
      concluded = λ h. p.concluded (q.concluded h);
    }

pub base_rests : (l m : Called) → Base l m → Rests l → Rests m
base_rests l m c r =
    record {
      unsettled = λ place name e. let a = c.waiting place name e in a.1 (r.unsettled place name a.0);
      once = c.once r.once;
      over = λ h. c.idle (r.over (c.concluded h));
    }

-- nor does a call attach the link that did not before, and what it waits for is awaited still
pub record Loose (l m : Called) : Type 0 where
  pub base : Base l m
  pub awaits : Awaits (link_of l.side) (link_of m.side)
  pub attaching : (name : ℕ) → m.attaching ≡ Some name → l.attaching ≡ Some name

pub loose_on : (l : Called) → Loose l l
loose_on l = record { base = base_on l; awaits = λ h. h; attaching = λ name e. e }

pub loose_then : (l m n : Called) → Loose l m → Loose m n → Loose l n
loose_then l m n p q = record { base = base_then l m n p.base q.base; awaits = λ h. q.awaits (p.awaits h); attaching = λ name e. p.attaching name (q.attaching name e) }

pub loose_attach : (l m : Called) → Loose l m → AttachFits l → AttachFits m
loose_attach l m c f = λ name e h. c.awaits (f name (c.attaching name e) (sym c.base.stop ∙ h))

-- nor does one leave it that did not before
pub record Calm (l m : Called) : Type 0 where
  pub loose : Loose l m
  pub stays : Stays (link_of l.side) (link_of m.side)
  pub parting : (w : WaitingPart) → m.parting ≡ Some w → l.parting ≡ Some w

pub calm_on : (l : Called) → Calm l l
calm_on l = record { loose = loose_on l; stays = (links.keeps_on (link_of l.side)).stays; parting = λ w e. e }

pub calm_then : (l m n : Called) → Calm l m → Calm m n → Calm l n
calm_then l m n p q = record { loose = loose_then l m n p.loose q.loose; stays = stays_then (link_of l.side) (link_of m.side) (link_of n.side) p.stays q.stays; parting = λ w e. p.parting w (q.parting w e) }

pub calm_either : (b : Bool) (l m n : Called) → Calm l m → Calm l n → Calm l (if b then m else n)
calm_either true l m n p q = p
calm_either false l m n p q = q

pub part_kept : (k : PartKind) (s t : Side) → Stays (link_of s) (link_of t) → PartWaits k s → PartWaits k t
part_kept kind.OnDetach s t k p = (k.remote ∙ p.0, k.gone ∙ p.1)
part_kept kind.Detach s t k p = undone (link_of s) (link_of t) k p
part_kept kind.Close s t k p = undone (link_of s) (link_of t) k p

pub outcome_kept : (s t : Side) → Stays (link_of s) (link_of t) → OutcomeWaits s → OutcomeWaits t
outcome_kept s t k p = (
  k.gone ∙ p.0,
  λ d c. let a = k.done d in a.2 ∙ p.1 a.0 (sym (same_closed (link_of s) (link_of t) a.1 k.remote) ∙ c),
)

pub calm_part : (l m : Called) → Calm l m → PartFits l → PartFits m
calm_part l m c f = λ w e h. part_kept w.kind l.side m.side c.stays (f w (c.parting w e) (sym c.loose.base.stop ∙ h))

pub calm_outcome : (l m : Called) → Calm l m → OutcomeFits l → OutcomeFits m
calm_outcome l m c f = λ place name e h. outcome_kept l.side m.side c.stays (f place name (c.loose.base.waiting place name e).0 (sym c.loose.base.stop ∙ h))

pub waits_by : (l : Called) → AttachFits l → PartFits l → OutcomeFits l → Rests l → Waits l
waits_by l a p o r = record { attach = a; part = p; unsettled = r.unsettled; outcome = o; once = r.once; over = r.over }

pub calm_waits : (l m : Called) → Calm l m → Waits l → Waits m
calm_waits l m c w =
    waits_by m (loose_attach l m c.loose w.attach) (calm_part l m c w.part) (calm_outcome l m c w.outcome) (base_rests l m c.loose.base (rests l w))

-- ---- its side goes on

idle_side : (t : Side) (l : Called) → is_stopped t ≡ is_stopped l.side → IsIdle l → IsIdle (with_side t l)
idle_side t l e i = record { stopped = e ∙ i.stopped; attaching = i.attaching; parting = i.parting; waiting = i.waiting }

pub side_base : (t : Side) (l : Called) → is_stopped t ≡ is_stopped l.side → ((place : ℕ) → IsUnsettled place l.side → IsUnsettled place t) → Base l (with_side t l)
side_base t l e u = record { stop = e; waiting = λ place name h. (h, u place); once = λ h. h; idle = λ i. idle_side t l e i; concluded = λ h. h }

pub side_calm : (t : Side) (l : Called) → Keeps l.side t → Calm l (with_side t l)
side_calm t l k =
    record {
      loose = record { base = side_base t l (ap is_some k.holds.stays.stop) k.holds.unsettled; awaits = k.awaits; attaching = λ name e. e };
      stays = k.holds.stays;
      parting = λ w e. e;
    }

-- ---- none waits

pub none_some : {X : Type 0} (P : Type 0) (o : Option X) (x : X) → o ≡ None → o ≡ Some x → P
none_some P None x e h = absurd cc
none_some P (Some y) x e h = absurd cc

pub nothing_waits : (l : Called) (place name : ℕ) (P : Type 0) → l.waiting ≡ [] → lookup (nat_eq place) l.waiting ≡ Some name → P
nothing_waits l place name P e h = none_some P (lookup (nat_eq place) l.waiting) name (ap (lookup (nat_eq place)) e) h

pub none_once : (l : Called) → l.waiting ≡ [] → Once l
none_once l e = subst (λ ws. IsDistinct nat_eq (keys_of ws)) (sym e) none_keyed

pub idle_waits : (l : Called) → IsIdle l → Waits l
idle_waits l i =
    record {
      attach = λ name e h. none_some _ l.attaching name i.attaching e;
      part = λ w e h. none_some _ l.parting w i.parting e;
      unsettled = λ place name e. nothing_waits l place name _ i.waiting e;
      outcome = λ place name e h. nothing_waits l place name _ i.waiting e;
      once = none_once l i.waiting;
      over = λ h. i;
    }
