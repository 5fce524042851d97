-- What an end says is in order.
use Rattle.std.proofs.Common.{◌≡◌, inl, inr, true, ℕ, List, [], ◌∷◌, ◌++◌, Option, refl, sym, ap, ◌∙◌, subst}
use Rattle.amqp_composites.specs.declared.error.Error.{Error as AmqpError}
use Rattle.amqp_frames.specs.declared.body.FrameBody.{FrameBody}
use Rattle.amqp_frames.specs.declared.body.FrameBody.TheVariants as b
use Rattle.amqp_frames.specs.Session.{of_session}
use Rattle.amqp_transport.specs.declared.frames.Frame.{Frame}
use Rattle.amqp_engine.specs.State.{close_frame}
use Rattle.amqp_peer.specs.amqp_words.declared.call.Call.{Call}
use Rattle.amqp_peer.specs.declared.prepared.Prepared.{Prepared}
use Rattle.amqp_peer.specs.Causes.{prepared_in}
use Rattle.amqp_peer.specs.History.{Local, made_in, given_in, sent_in}
use Rattle.amqp_peer.specs.Said.{AllMiddle, IsMiddle, IsPlain, IsSaidFor, HasSaid}
use Rattle.amqp_engine.specs.Phases.{kind_of}
use Rattle.amqp_ends.proofs.Tidy.{IsTidy, IsCalmKind, AllCalm, calm_join}

session_calm : (body : FrameBody) → of_session body ≡ true → IsCalmKind (kind_of body)
session_calm (b.Open x) t = absurd (cc t)
session_calm (b.Close x) t = absurd (cc t)
session_calm b.Empty t = tt
session_calm (b.Begin x) t = tt
session_calm (b.Attach x) t = tt
session_calm (b.Flow x) t = tt
session_calm (b.Transfer x y) t = tt
session_calm (b.Disposition x) t = tt
session_calm (b.Detach x) t = tt
session_calm (b.End x) t = tt

middle_calm : (x : Frame) → IsMiddle x → IsCalmKind (kind_of x.body)
middle_calm x (inl e) = subst (λ (y : Frame). IsCalmKind (kind_of y.body)) (sym e) tt
middle_calm x (inr t) = session_calm x.body t

empty_calm : (xs : List Frame) → AllMiddle xs → AllCalm xs
empty_calm [] a = tt
empty_calm (x ∷ xs) a = (middle_calm x a.0, empty_calm xs a.1)

plain_tidy : (p : Option Prepared) (sent : List Frame) → IsPlain p sent → IsTidy sent
plain_tidy p sent s = subst IsTidy (sym s.is) (refl, empty_calm s.more s.each)

closed_tidy : (p : Option Prepared) (front sent : List Frame) (error : Option AmqpError) → IsPlain p front → sent ≡ front ++ close_frame error ∷ [] → IsTidy sent
closed_tidy p front sent error s e =
    subst IsTidy (sym (e ∙ ap (λ (xs : List Frame). xs ++ close_frame error ∷ []) s.is)) (refl, calm_join s.more (close_frame error ∷ []) (empty_calm s.more s.each) (tt, tt))

tidy_for : (p : Option Prepared) (calls : List (ℕ × Call)) (given sent : List Frame) → IsSaidFor p calls given sent → IsTidy sent
tidy_for p calls given sent (inl e) = subst IsTidy (sym e) tt
tidy_for p calls given sent (inr (inl s)) = plain_tidy p sent s
tidy_for p calls given sent (inr (inr (front, error, s, e, cause))) = closed_tidy p front sent error s e

pub said_tidy : (h : List Local) → HasSaid h → IsTidy (sent_in h)
said_tidy h s = tidy_for (prepared_in (made_in h)) (made_in h) (given_in h) (sent_in h) s
