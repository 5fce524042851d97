-- What of sessions an end is given is what the other end says for its sessions.
use Rattle.std.proofs.Common.{◌≡◌, List, [], ◌∷◌, ◌++◌, Bool, true, false, cond, refl, sym, ap, ◌∙◌, subst}
use Rattle.std.specs.Prelude.{map, filter}
use Rattle.amqp_frames.specs.declared.body.FrameBody.{FrameBody}
use Rattle.amqp_frames.specs.declared.body.FrameBody.TheVariants as b
use Rattle.amqp_frames.specs.Body.{read_again_body}
use Rattle.amqp_frames.specs.Session.{of_session}
use Rattle.amqp_transport.specs.declared.frames.Frame.{Frame}
use Rattle.amqp_transport.specs.Kinds.{amqp_again}
use Rattle.amqp_engine.specs.declared.phase.BodyKind.{BodyKind}
use Rattle.amqp_engine.specs.declared.phase.BodyKind.TheVariants as kind
use Rattle.amqp_engine.specs.Heard.{IsGreeted, IsStray}
use Rattle.amqp_engine.specs.Phases.{kind_of}
use Rattle.amqp_peer.specs.Frames.{sessions_of}
use Rattle.amqp_peer.specs.History.{Local, given_in, sent_in}
use Rattle.amqp_peer.specs.Said.{HasStray}
use Rattle.amqp_peer.proofs.Unsaid.{sessions_of-append}
use Rattle.amqp_ends.specs.Joined.{Hears, Meets, MeetsUnstrayed}
use Rattle.amqp_ends.proofs.Hearing.{hears}
use Rattle.amqp_ends.proofs.Honesty.{tidy_given}
use Rattle.amqp_ends.proofs.Tidy.{IsTidy, IsCalmKind, calm_last}

-- ---- a frame is of a session as it is read again

again_session : (body : FrameBody) → of_session (read_again_body body) ≡ of_session body
again_session (b.Open x) = refl
again_session (b.Begin x) = refl
again_session (b.Attach x) = refl
again_session (b.Flow x) = refl
again_session (b.Transfer x y) = refl
again_session (b.Disposition x) = refl
again_session (b.Detach x) = refl
again_session (b.End x) = refl
again_session (b.Close x) = refl
again_session b.Empty = refl

again_one : (t : Bool) (x : Frame) (rest rest' : List Frame) → rest' ≡ map amqp_again rest → cond t (amqp_again x ∷ rest') rest' ≡ map amqp_again (cond t (x ∷ rest) rest)
again_one true x rest rest' e = ap (λ (u : List Frame). amqp_again x ∷ u) e
again_one false x rest rest' e = e

-- a test that a frame passes as it is read again exactly where it passes it
pub filter_again : (p : Frame → Bool) → ((x : Frame) → p (amqp_again x) ≡ p x) → (xs : List Frame) → filter p (map amqp_again xs) ≡ map amqp_again (filter p xs)
filter_again p e [] = refl
filter_again p e (x ∷ xs) =
    ap (λ (t : Bool). cond t (amqp_again x ∷ filter p (map amqp_again xs)) (filter p (map amqp_again xs))) (e x)
    ∙ again_one (p x) x (filter p xs) (filter p (map amqp_again xs)) (filter_again p e xs)

sessions_again : (xs : List Frame) → sessions_of (map amqp_again xs) ≡ map amqp_again (sessions_of xs)
sessions_again xs = filter_again (λ (x : Frame). of_session x.body) (λ x. again_session x.body) xs

-- what of sessions an end was given is the front of what the other queued for its own
pub sessions_hear : (h far : List Local) → Meets h far → Hears (sessions_of (given_in h)) (sessions_of (sent_in far))
sessions_hear h far m =
    let k = hears h far m.left m.tied m.far_tied m.reads in
    record {
      first = sessions_of k.first;
      others = sessions_of k.others;
      split = ap sessions_of k.split ∙ sessions_of-append k.first k.others;
      items = ap sessions_of k.items ∙ sessions_again k.first;
    }

-- ---- where the other said no frame of a session, none is astray

none_first : (first others given : List Frame) → first ++ others ≡ [] → given ≡ map amqp_again first → given ≡ []
none_first [] others given e i = i
none_first (x ∷ first) others given e i = absurd (cc e)

pub unsaid_given : (h far : List Local) → Meets h far → sessions_of (sent_in far) ≡ [] → sessions_of (given_in h) ≡ []
unsaid_given h far m u = let k = sessions_hear h far m in none_first k.first k.others (sessions_of (given_in h)) (sym k.split ∙ u) k.items

none_behind : (xs ys : List Frame) → xs ++ ys ≡ [] → ys ≡ []
none_behind [] ys e = e
none_behind (x ∷ xs) ys e = absurd (cc e)

kind_session : (body : FrameBody) → kind_of body ≡ kind.Session → of_session body ≡ true
kind_session (b.Open x) e = absurd (cc e)
kind_session (b.Close x) e = absurd (cc e)
kind_session b.Empty e = absurd (cc e)
kind_session (b.Begin x) e = refl
kind_session (b.Attach x) e = refl
kind_session (b.Flow x) e = refl
kind_session (b.Transfer x y) e = refl
kind_session (b.Disposition x) e = refl
kind_session (b.Detach x) e = refl
kind_session (b.End x) e = refl

stray_not : (k : BodyKind) (x : Frame) (more : List Frame) → kind_of x.body ≡ k → IsStray k → IsCalmKind k → sessions_of (x ∷ more) ≡ [] → ⊥
stray_not kind.Open x more e s c u = c
stray_not kind.Session x more e s c u = absurd (cc (sym (ap (λ (t : Bool). cond t (x ∷ sessions_of more) (sessions_of more)) (kind_session x.body e)) ∙ u))
stray_not kind.Empty x more e s c u = s
stray_not kind.Close x more e s c u = s

no_stray : (front : List Frame) (x : Frame) (more : List Frame) → IsGreeted front → IsStray (kind_of x.body) → IsTidy (front ++ x ∷ more) → sessions_of (front ++ x ∷ more) ≡ [] → ⊥
no_stray front x more g s t u =
    stray_not (kind_of x.body) x more refl s (calm_last g.more x more (subst IsTidy (ap (λ (xs : List Frame). xs ++ x ∷ more) g.is) t).1)
    (none_behind (sessions_of front) (sessions_of (x ∷ more)) (sym (sessions_of-append front (x ∷ more)) ∙ u))

unstrayed : (given : List Frame) → IsTidy given → sessions_of given ≡ [] → HasStray given → ⊥
unstrayed given t u r = no_stray r.front r.stray r.more r.before r.has_no_place (subst IsTidy r.is t) (sym (ap sessions_of r.is) ∙ u)

pub meets_unsaid : (h far : List Local) → Meets h far → sessions_of (sent_in far) ≡ [] → MeetsUnstrayed h far
meets_unsaid h far m u = record { meets = m; unstrayed = unstrayed (given_in h) (tidy_given h far m) (unsaid_given h far m u) }
