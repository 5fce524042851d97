-- Closes among frames.
use Rattle.std.proofs.Common.{◌≡◌, inl, inr, List, [], ◌∷◌, ◌++◌, Option, refl, sym, ap, ◌∙◌, subst}
use Rattle.amqp_transport.specs.declared.frames.Frame.{Frame}
use Rattle.amqp_engine.specs.declared.phase.BodyKind.{BodyKind}
use Rattle.amqp_engine.specs.declared.phase.BodyKind.TheVariants as kind
use Rattle.amqp_engine.specs.Heard.{AllUnclosed}
use Rattle.amqp_engine.specs.Phases.{kind_of, IsInner, IsClose}
use Rattle.amqp_engine.proofs.Said.{session_is_inner}
use Rattle.amqp_peer.specs.declared.prepared.Prepared.{Prepared}
use Rattle.amqp_peer.specs.Said.{IsMiddle, AllMiddle, IsPlain}

-- a list with an element is not empty
pub some_left : {X : Type 0} (front : List X) (x : X) (more : List X) → front ++ x ∷ more ≡ [] → ⊥
some_left [] x more e = cc
some_left (y ∷ front) x more e = cc

inner_not_close : (k : BodyKind) → IsInner k → IsClose k → ⊥
inner_not_close kind.Open i c = c
inner_not_close kind.Close i c = i
inner_not_close kind.Session i c = c
inner_not_close kind.Empty i c = c

middle_unclosed : (x : Frame) → IsMiddle x → IsClose (kind_of x.body) → ⊥
middle_unclosed x (inl e) c = subst (λ (y : Frame). IsClose (kind_of y.body)) e c
middle_unclosed x (inr e) c = inner_not_close (kind_of x.body) (session_is_inner x.body e) c

all_unclosed : (xs : List Frame) → AllMiddle xs → AllUnclosed xs
all_unclosed [] k = tt
all_unclosed (x ∷ xs) k = (middle_unclosed x k.0, all_unclosed xs k.1)

-- what is said before a Close has none
pub plain_unclosed : (p : Option Prepared) (xs : List Frame) → IsPlain p xs → AllUnclosed xs
plain_unclosed p xs k = subst AllUnclosed (sym k.is) (λ c. c, all_unclosed k.more k.each)

-- no Close is among frames without one
pub none_closed : (front : List Frame) (x : Frame) (more all : List Frame) → IsClose (kind_of x.body) → front ++ x ∷ more ≡ all → AllUnclosed all → ⊥
none_closed [] x more all c e u =
    let k : AllUnclosed (x ∷ more) = subst AllUnclosed (sym e) u in k.0 c
none_closed (y ∷ front) x more all c e u =
    let k : AllUnclosed (y ∷ (front ++ x ∷ more)) = subst AllUnclosed (sym e) u in none_closed front x more (front ++ x ∷ more) c refl k.1

-- a Close behind frames without one is the last
pub record IsLastOf (front : List Frame) (x : Frame) (more before : List Frame) (y : Frame) : Type 0 where
  pub same_front : front ≡ before
  pub same : x ≡ y
  pub none : more ≡ []

pub close_last : (front : List Frame) (x : Frame) (more before : List Frame) (y : Frame) → IsClose (kind_of x.body) → AllUnclosed before → front ++ x ∷ more ≡ before ++ y ∷ [] → IsLastOf front x more before y
close_last [] x more [] y c u e = record { same_front = refl; same = cc; none = cc }
close_last [] x more (z ∷ before) y c u e = let is : x ≡ z = cc in absurd (u.0 (subst (λ (w : Frame). IsClose (kind_of w.body)) is c))
close_last (w ∷ front) x more [] y c u e = let is : front ++ x ∷ more ≡ [] = cc in absurd (some_left front x more is)
close_last (w ∷ front) x more (z ∷ before) y c u e =
    let first : w ≡ z = cc in
    let rest : front ++ x ∷ more ≡ before ++ y ∷ [] = cc in
    let k = close_last front x more before y c u.1 rest in
    let tails = k.same_front in
    record { same_front = ap (λ (f : Frame). f ∷ front) first ∙ ap (λ (fs : List Frame). z ∷ fs) tails; same = k.same; none = k.none }
