-- What the frames are that an honest end says.
use Rattle.std.proofs.Common.{◌≡◌, List, [], ◌∷◌, ◌++◌, refl, sym, ◌∙◌, subst}
use Rattle.std.specs.Prelude.{map}
use Rattle.amqp_frames.specs.declared.body.FrameBody.{FrameBody}
use Rattle.amqp_frames.specs.declared.body.FrameBody.TheVariants as b
use Rattle.amqp_frames.specs.Body.{read_again_body}
use Rattle.amqp_transport.specs.declared.frames.Frame.{Frame}
use Rattle.amqp_transport.specs.Kinds.{amqp_again}
use Rattle.amqp_engine.specs.declared.phase.BodyKind.{BodyKind}
use Rattle.amqp_engine.specs.declared.phase.BodyKind.TheVariants as kind
use Rattle.amqp_engine.specs.Phases.{kind_of}

-- a frame that may stand behind Open: it is empty, of a session, or a Close
abbrev pub IsCalmKind : BodyKind → Type 0
IsCalmKind kind.Open = ⊥
IsCalmKind kind.Close = Unit {0}
IsCalmKind kind.Session = Unit {0}
IsCalmKind kind.Empty = Unit {0}

abbrev pub AllCalm : List Frame → Type 0
AllCalm [] = Unit {0}
AllCalm (x ∷ xs) = IsCalmKind (kind_of x.body) × AllCalm xs

-- nothing, or Open and then such frames
abbrev pub IsTidy : List Frame → Type 0
IsTidy [] = Unit {0}
IsTidy (x ∷ xs) = (kind_of x.body ≡ kind.Open) × AllCalm xs

-- ---- a frame is of the same kind as it is read again

pub again_kind : (body : FrameBody) → kind_of (read_again_body body) ≡ kind_of body
again_kind (b.Open x) = refl
again_kind (b.Begin x) = refl
again_kind (b.Attach x) = refl
again_kind (b.Flow x) = refl
again_kind (b.Transfer x y) = refl
again_kind (b.Disposition x) = refl
again_kind (b.Detach x) = refl
again_kind (b.End x) = refl
again_kind (b.Close x) = refl
again_kind b.Empty = refl

calm_again : (xs : List Frame) → AllCalm xs → AllCalm (map amqp_again xs)
calm_again [] a = tt
calm_again (x ∷ xs) a = (subst IsCalmKind (sym (again_kind x.body)) a.0, calm_again xs a.1)

pub tidy_again : (xs : List Frame) → IsTidy xs → IsTidy (map amqp_again xs)
tidy_again [] t = tt
tidy_again (x ∷ xs) t = (again_kind x.body ∙ t.0, calm_again xs t.1)

-- ---- and so are the first of them

pub calm_first : (xs ys : List Frame) → AllCalm (xs ++ ys) → AllCalm xs
calm_first [] ys a = tt
calm_first (x ∷ xs) ys a = (a.0, calm_first xs ys a.1)

pub tidy_first : (xs ys : List Frame) → IsTidy (xs ++ ys) → IsTidy xs
tidy_first [] ys t = tt
tidy_first (x ∷ xs) ys t = (t.0, calm_first xs ys t.1)

pub calm_join : (xs ys : List Frame) → AllCalm xs → AllCalm ys → AllCalm (xs ++ ys)
calm_join [] ys a c = c
calm_join (x ∷ xs) ys a c = (a.0, calm_join xs ys a.1 c)

pub calm_last : (xs : List Frame) (x : Frame) (ys : List Frame) → AllCalm (xs ++ x ∷ ys) → IsCalmKind (kind_of x.body)
calm_last [] x ys a = a.0
calm_last (z ∷ xs) x ys a = calm_last xs x ys a.1
