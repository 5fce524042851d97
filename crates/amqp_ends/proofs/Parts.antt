-- Parts of what an end was given, and of what the other end's sessions gave.
use Rattle.std.proofs.Common.{◌≡◌, List, [], ◌∷◌, ◌++◌, Bool, not, refl, sym, ap, ◌∙◌, append_assoc}
use Rattle.std.specs.Prelude.{map, filter}
use Rattle.std.proofs.lemmas.List.Elements.{filter-append}
use Rattle.amqp_frames.specs.declared.body.FrameBody.{FrameBody}
use Rattle.amqp_frames.specs.declared.body.FrameBody.TheVariants as b
use Rattle.amqp_frames.specs.Body.{read_again_body}
use Rattle.amqp_transport.specs.declared.frames.Frame.{Frame}
use Rattle.amqp_transport.specs.Kinds.{amqp_again}
use Rattle.amqp_peer.specs.Frames.{sessions_of, asks, asking_of, others_of}
use Rattle.amqp_peer.specs.History.{Local, given_in, sent_in}
use Rattle.amqp_ends.specs.Joined.{Hears, Meets}
use Rattle.amqp_ends.proofs.Streams.{filter_again, sessions_hear}
use Rattle.amqp_ends.specs.Streams.{IsFront, Carries}

again_append : (xs ys : List Frame) → map amqp_again (xs ++ ys) ≡ map amqp_again xs ++ map amqp_again ys
again_append [] ys = refl
again_append (x ∷ xs) ys = ap (λ (u : List Frame). amqp_again x ∷ u) (again_append xs ys)

-- a frame asks for a session as it is read again
again_asks : (body : FrameBody) → asks (read_again_body body) ≡ asks body
again_asks (b.Open x) = refl
again_asks (b.Begin x) = refl
again_asks (b.Attach x) = refl
again_asks (b.Flow x) = refl
again_asks (b.Transfer x y) = refl
again_asks (b.Disposition x) = refl
again_asks (b.Detach x) = refl
again_asks (b.End x) = refl
again_asks (b.Close x) = refl
again_asks b.Empty = refl

-- the first frames of a part of what was given are the first of that part of what the other gave
front_part : (p : Frame → Bool) → ((x : Frame) → p (amqp_again x) ≡ p x) → (taken given sent gave : List Frame) → Hears given sent → IsFront taken (filter p given) → IsFront sent gave → IsFront taken (map amqp_again (filter p gave))
front_part p e taken given sent gave k t w =
    let rest : List Frame = filter p (k.others ++ w.0) in
    let heard : filter p given ≡ map amqp_again (filter p k.first) = ap (filter p) k.items ∙ filter_again p e k.first in
    let whole : gave ≡ k.first ++ (k.others ++ w.0) = sym w.1 ∙ ap (λ (u : List Frame). u ++ w.0) k.split ∙ append_assoc k.first k.others w.0 in
    let parts : map amqp_again (filter p gave) ≡ map amqp_again (filter p k.first) ++ map amqp_again rest =
    ap (λ (u : List Frame). map amqp_again (filter p u)) whole ∙ ap (map amqp_again) (filter-append p k.first (k.others ++ w.0)) ∙ again_append (filter p k.first) rest in
    (t.0 ++ map amqp_again rest, sym (append_assoc taken t.0 (map amqp_again rest)) ∙ ap (λ (u : List Frame). u ++ map amqp_again rest) (t.1 ∙ heard) ∙ sym parts)

pub streams : (h far : List Local) (asked heard gave far_asked far_heard far_gave : List Frame) → Meets h far → Carries asked heard gave h → Carries far_asked far_heard far_gave far
    → IsFront asked (map amqp_again (asking_of far_gave)) × IsFront heard (map amqp_again (others_of far_gave))
streams h far asked heard gave far_asked far_heard far_gave m c d =
    let k = sessions_hear h far m in (
      front_part (λ (x : Frame). asks x.body) (λ x. again_asks x.body) asked (sessions_of (given_in h)) (sessions_of (sent_in far)) far_gave k c.asked_first d.sent_first,
      front_part (λ (x : Frame). not (asks x.body)) (λ x. ap not (again_asks x.body)) heard (sessions_of (given_in h)) (sessions_of (sent_in far)) far_gave k c.heard_first d.sent_first,
    )
