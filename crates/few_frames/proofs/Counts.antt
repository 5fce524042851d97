-- Counts over lists of frames.
use Rattle.std.specs.Prelude.{◌≡◌, ℕ, ◌+◌, List, [], ◌∷◌, ◌++◌}
use Rattle.std.proofs.Common.{◌∙◌, ap, arith}
use Rattle.std.proofs.lemmas.List.{map-append}
use Rattle.amqp_frames.specs.declared.body.FrameBody.{FrameBody}
use Rattle.amqp_session.specs.State.{Framed}
use Rattle.session_laws.specs.Speaking.{bodies}
use Rattle.few_frames.specs.Kinds.{AskNone, AsksNone, Each, count}

pub bodies_both : (xs ys : List Framed) → bodies (xs ++ ys) ≡ bodies xs ++ bodies ys
bodies_both xs ys = map-append (λ (x : Framed). x.body) xs ys

pub count_both : (f : FrameBody → ℕ) (xs ys : List FrameBody) → count f (xs ++ ys) ≡ count f xs + count f ys
count_both f [] ys = omega arith
count_both f (x ∷ xs) ys = let e : count f (xs ++ ys) ≡ count f xs + count f ys = count_both f xs ys in omega arith

pub counted : (f : FrameBody → ℕ) (xs ys : List Framed) → count f (bodies (xs ++ ys)) ≡ count f (bodies xs) + count f (bodies ys)
counted f xs ys = ap (count f) (bodies_both xs ys) ∙ count_both f (bodies xs) (bodies ys)

pub none_both : (xs ys : List FrameBody) → AskNone xs → AskNone ys → AskNone (xs ++ ys)
none_both [] ys h k = k
none_both (x ∷ xs) ys h k = (h.0, none_both xs ys h.1 k)

pub none_when : (P : FrameBody → Type 0) → ((x : FrameBody) → P x → AsksNone x) → (xs : List FrameBody) → Each P xs → AskNone xs
none_when P f [] h = tt
none_when P f (x ∷ xs) h = (f x h.0, none_when P f xs h.1)

pub each_when : (P Q : FrameBody → Type 0) → ((x : FrameBody) → P x → Q x) → (xs : List FrameBody) → Each P xs → Each Q xs
each_when P Q f [] h = tt
each_when P Q f (x ∷ xs) h = (f x h.0, each_when P Q f xs h.1)

pub each_both : (P : FrameBody → Type 0) (xs ys : List FrameBody) → Each P xs → Each P ys → Each P (xs ++ ys)
each_both P [] ys h k = k
each_both P (x ∷ xs) ys h k = (h.0, each_both P xs ys h.1 k)

pub none_left : (xs ys : List FrameBody) → AskNone (xs ++ ys) → AskNone xs
none_left [] ys h = tt
none_left (x ∷ xs) ys h = (h.0, none_left xs ys h.1)

pub none_right : (xs ys : List FrameBody) → AskNone (xs ++ ys) → AskNone ys
none_right [] ys h = h
none_right (x ∷ xs) ys h = none_right xs ys h.1

pub each_left : (P : FrameBody → Type 0) (xs ys : List FrameBody) → Each P (xs ++ ys) → Each P xs
each_left P [] ys h = tt
each_left P (x ∷ xs) ys h = (h.0, each_left P xs ys h.1)

pub each_right : (P : FrameBody → Type 0) (xs ys : List FrameBody) → Each P (xs ++ ys) → Each P ys
each_right P [] ys h = h
each_right P (x ∷ xs) ys h = each_right P xs ys h.1
