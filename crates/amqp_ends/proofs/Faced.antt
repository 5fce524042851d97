-- An end faced the other whenever it told of a negotiation that failed: each step keeps that so.
use Rattle.std.proofs.Common.{◌≡◌, ◌⊎◌, ◌≤◌, ℕ, List, [], ◌∷◌, ◌++◌, length, refl, sym, ap, ◌∙◌, subst, append_assoc}
use Rattle.amqp_peer.specs.amqp_words.declared.call.Call.{Call}
use Rattle.amqp_peer.specs.amqp_words.declared.open_error.OpenError.TheVariants as failed
use Rattle.amqp_peer.specs.History.{Local, Made, Polled, AtLink, Exchanged, Got, Put, Replied, IsInside, made_in, read_in, wrote_in}
use Rattle.amqp_peer.specs.Replies.{open_failed}
use Rattle.amqp_ends.specs.Gates.{Faces}
use Rattle.amqp_ends.specs.Passes.{FacedOnce, FacedWhenTold}
use Rattle.amqp_ends.specs.Quiet.{AreOpposite}
use Rattle.amqp_ends.proofs.GateReplies.{faces_at, made_before}

-- ---- where an event lies

-- it is among the first or behind them
data Lies (first behind later g : List Local) (x : Local) : Type 0 where
  among : (front : List Local) → first ≡ later ++ x ∷ front → g ≡ front ++ behind → Lies first behind later g x
  after : (more : List Local) → behind ≡ more ++ x ∷ g → Lies first behind later g x

lies_later : (y : Local) (first behind later g : List Local) (x : Local) → Lies first behind later g x → Lies (y ∷ first) behind (y ∷ later) g x
lies_later y first behind later g x (among front p q) = among front (ap (λ (u : List Local). y ∷ u) p) q
lies_later y first behind later g x (after more p) = after more p

lies : (first behind later g : List Local) (x : Local) → first ++ behind ≡ later ++ x ∷ g → Lies first behind later g x
lies [] behind later g x e = after later e
lies (y ∷ first) behind [] g x e =
    let same : y ≡ x = cc e in
    let rest : first ++ behind ≡ g = cc e in
    among first (ap (λ (z : Local). z ∷ first) same) (sym rest)
lies (y ∷ first) behind (z ∷ later) g x e =
    let same : y ≡ z = cc e in
    let rest : first ++ behind ≡ later ++ x ∷ g = cc e in
    subst (λ (w : Local). Lies (y ∷ first) behind (w ∷ later) g x) same (lies_later y first behind later g x (lies first behind later g x rest))

inside_front : (later : List Local) (x : Local) (front : List Local) → IsInside (later ++ x ∷ front) → IsInside front
inside_front [] (Made at name call) front i = absurd i
inside_front [] (Polled at) front i = absurd i
inside_front [] (AtLink x) front i = i
inside_front [] Exchanged front i = i
inside_front [] (Got x) front i = i
inside_front [] (Put x) front i = i
inside_front [] (Replied r) front i = i
inside_front (Made at name call ∷ later) x front i = absurd i
inside_front (Polled at ∷ later) x front i = absurd i
inside_front (AtLink y ∷ later) x front i = inside_front later x front i
inside_front (Exchanged ∷ later) x front i = inside_front later x front i
inside_front (Got y ∷ later) x front i = inside_front later x front i
inside_front (Put y ∷ later) x front i = inside_front later x front i
inside_front (Replied r ∷ later) x front i = inside_front later x front i

-- ---- the laws

pub faced_none : (far : List Local) → FacedWhenTold [] far
faced_none far [] g name e split = absurd (cc split)
faced_none far (x ∷ later) g name e split = absurd (cc split)

pub faced_called : (at name : ℕ) (call : Call) (h far : List Local) → FacedWhenTold h far → FacedWhenTold (Made at name call ∷ h) far
faced_called at name call h far k [] g n e split = absurd (cc split)
faced_called at name call h far k (x ∷ later) g n e split = k later g n e (cc split)

pub faced_polled : (at : ℕ) (h far : List Local) → FacedWhenTold h far → FacedWhenTold (Polled at ∷ h) far
faced_polled at h far k [] g n e split = absurd (cc split)
faced_polled at h far k (x ∷ later) g n e split = k later g n e (cc split)

pub faced_other : (h more far : List Local) → FacedWhenTold h far → FacedWhenTold h (more ++ far)
faced_other h more far k later g name e split =
    let f = k later g name e split in
    record { since = more ++ f.since; before = f.before; split = ap (λ (u : List Local). more ++ u) f.split ∙ sym (append_assoc more f.since f.before); faces = f.faces; begun = f.begun }

pub faced_inside : (inside before far : List Local) → IsInside inside → Faces (inside ++ before) far → (left : List ℕ) → read_in far ++ left ≡ wrote_in before
    → (1 ≤ length (made_in far)) ⊎ (wrote_in far ≡ []) → FacedWhenTold before far → FacedWhenTold (inside ++ before) far
faced_inside inside before far i f left heard begun k later g name e split =
    let told : Local = Replied (open_failed name (failed.Negotiation e)) in
    elim (lies inside before later g told split) as (λ _. FacedOnce g far) [
      | among front p q ↦
          let whole : inside ++ before ≡ (later ++ told ∷ []) ++ (front ++ before) =
          ap (λ (u : List Local). u ++ before) (p ∙ sym (append_assoc later (told ∷ []) front)) ∙ append_assoc (later ++ told ∷ []) front before in
          let faces : Faces (front ++ before) far =
          faces_at before far left heard (later ++ told ∷ []) front (inside_front later told front (subst IsInside p i)) (subst (λ (u : List Local). Faces u far) whole f)
          (subst (λ (calls : List (ℕ × Call)). AreOpposite calls (made_in far)) (made_before inside before i) f.opposite) in
          record { since = []; before = far; split = refl; faces = subst (λ (u : List Local). Faces u far) (sym q) faces; begun = begun }
      | after more p ↦ k more g name e p
    ]
