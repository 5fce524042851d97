-- What sessions of the one end are handed is of sessions that the other end made.
use Rattle.std.specs.Prelude.{◌≡◌, ℕ, Bool, true, false, not, cond, filter, map, List, [], ◌∷◌, ◌++◌, refl}
use Rattle.std.proofs.Common.{sym, ◌∙◌, ap, subst, append_assoc}
use Rattle.std.proofs.lemmas.List.{map-append}
use Rattle.amqp_frames.specs.declared.body.FrameBody.{FrameBody}
use Rattle.amqp_frames.specs.declared.body.FrameBody.TheVariants as b
use Rattle.amqp_frames.specs.Body.{read_again_body}
use Rattle.amqp_transport.specs.declared.frames.Frame.{Frame}
use Rattle.amqp_transport.specs.Kinds.{amqp_again}
use Rattle.amqp_peer.specs.Frames.{asks, asking_of, others_of}
use Rattle.amqp_words.specs.declared.step.End.{End as Side}
use Rattle.amqp_words.specs.declared.step.End.TheVariants.{Client, Listener}
use Rattle.amqp_session.specs.State.{Framed}
use Rattle.amqp_end.specs.Deeds as end
use Rattle.amqp_end.specs.Deeds.{framed_of}
use Rattle.amqp_end.specs.Moves as move
use Rattle.amqp_ends.specs.Streams.{IsFront}
use Rattle.amqp_world.specs.History.{other}
use Rattle.amqp_session_world.specs.Carried.{life_in}
use Rattle.session_lives.specs.Deeds.{Deed, read_in, wrote_in}
use Rattle.world_lives.specs.EndLives.Ends.{of_move, sessions_of, sessions_in}
use Rattle.window_laws.specs.Announcing.{Announces}
use Rattle.window_laws.specs.Starting.{window}
use Rattle.world_lives.specs.Lived.{sessions_by, sessions_at, life}
use Rattle.world_lives.proofs.Carried.{life_read, life_wrote}
use Rattle.world_lives.proofs.Lived.{life_goes, life_sessions}
use Rattle.world_lives.specs.WorldWindows.Making.{Made, IsOf, AreOf}
use Rattle.world_lives.specs.WorldWindows.Hearing.{made_by, EndsAnnounce, asked_of, asked_in, EndsHear}
use Rattle.world_lives.proofs.WorldWindows.Making.{of_first}
use Rattle.world_lives.proofs.WorldWindows.Growing.{each_is_of_one}

pub ends_announce : EndsAnnounce
ends_announce e steps entries m = each_is_of_one (sessions_by (life e steps entries m)) (sessions_at e m.view) (life_goes e steps entries m).did.sessions_did

-- ---- the Begins by which sessions are asked for

asked_more : (ds es : List Deed) → asked_in (ds ++ es) ≡ asked_in ds ++ asked_in es
asked_more [] es = refl
asked_more (d ∷ ds) es = ap (λ xs. asked_of d ++ xs) (asked_more ds es) ∙ sym (append_assoc (asked_of d) (asked_in ds) (asked_in es))

move_asked : (m : move.Move) → asked_in (of_move m ∷ []) ≡ []
move_asked (move.Begun name x channel limit) = refl
move_asked (move.Awaiting name x) = refl
move_asked (move.Refused name why) = refl
move_asked (move.Ended name session condition) = refl
move_asked (move.HandedOut name) = refl
move_asked (move.Halted why) = refl
move_asked (move.Concluded why) = refl

deed_asked : (d : end.Deed) → asked_in (sessions_of d) ≡ map framed_of (end.asked_of d)
deed_asked (end.Moves m) = move_asked m
deed_asked d = refl

life_asked : (ds : List end.Deed) → asked_in (sessions_in ds) ≡ map framed_of (end.asked_by ds)
life_asked [] = refl
life_asked (d ∷ ds) =
    asked_more (sessions_in ds) (sessions_of d)
    ∙ (ap (λ (xs : List Framed). xs ++ asked_in (sessions_of d)) (life_asked ds)
    ∙ (ap (λ (xs : List Framed). map framed_of (end.asked_by ds) ++ xs) (deed_asked d) ∙ sym (map-append framed_of (end.asked_by ds) (end.asked_of d))))

-- ---- as they are read again

again_announces : (size : ℕ) (x : FrameBody) → Announces size x → Announces size (read_again_body x)
again_announces size (b.Attach x) h = tt
again_announces size other h = h

module _ (made : List Made) where
  again_of : (x : Frame) → IsOf made (framed_of x) → IsOf made (framed_of (amqp_again x))
  again_of x h = record { one = h.one; among = h.among; channel = h.channel; announces = again_announces (window h.one.start) x.body h.announces }

  kept_of : (keep : Frame → Bool) (xs : List Frame) → AreOf made (map framed_of xs) → AreOf made (map framed_of (map amqp_again (filter keep xs)))
  kept_of keep [] h = tt
  kept_of keep (x ∷ xs) h = by (keep x) (kept_of keep xs h.1)
    where
      by : (t : Bool) → AreOf made (map framed_of (map amqp_again (filter keep xs))) → AreOf made (map framed_of (map amqp_again (cond t (x ∷ filter keep xs) (filter keep xs))))
      by true r = (again_of x h.0, r)
      by false r = r

  front_of : (xs later ys : List Frame) → xs ++ later ≡ ys → AreOf made (map framed_of ys) → AreOf made (map framed_of xs)
  front_of xs later ys e h =
      of_first made (map framed_of xs) (map framed_of later)
      (subst (λ (zs : List Framed). AreOf made zs) (sym (sym (map-append framed_of xs later) ∙ ap (map framed_of) e)) h)

-- ---- both ends

pub ends_hear : EndsHear
ends_hear e steps entries k =
    let l = life_in e steps entries k.made in
    let m = life_in (other e) steps entries k.made in
    let here = life e steps entries k.made in
    let there = life (other e) steps entries k.made in
    let made = made_by (other e) steps entries k.made in
    let last = (sessions_at (other e) k.made.view).output in
    let gave : AreOf made (map framed_of (end.given_by m.deeds)) =
    subst (λ (xs : List Framed). AreOf made xs) (ap wrote_in (life_sessions (other e) steps entries k.made) ∙ life_wrote m.deeds)
    (of_first made (wrote_in (sessions_by there)) last (ends_announce (other e) steps entries k.made)) in
    let asked = asked_at e in
    let heard = heard_at e in
    let same = life_sessions e steps entries k.made in
    record {
      asked = subst (λ (xs : List Framed). AreOf made xs) (sym (ap asked_in same ∙ life_asked l.deeds))
          (front_of made (end.asked_by l.deeds) asked.0 (map amqp_again (asking_of (end.given_by m.deeds))) asked.1 (kept_of made (λ (x : Frame). asks x.body) (end.given_by m.deeds) gave));
      heard = subst (λ (xs : List Framed). AreOf made xs) (sym (ap read_in same ∙ life_read l.deeds))
          (front_of made (end.heard_by l.deeds) heard.0 (map amqp_again (others_of (end.given_by m.deeds))) heard.1 (kept_of made (λ (x : Frame). not (asks x.body)) (end.given_by m.deeds) gave));
    }
  where
    asked_at : (d : Side) → IsFront (end.asked_by (life_in d steps entries k.made).deeds) (map amqp_again (asking_of (end.given_by (life_in (other d) steps entries k.made).deeds)))
    asked_at Client = k.client.asked
    asked_at Listener = k.listener.asked

    heard_at : (d : Side) → IsFront (end.heard_by (life_in d steps entries k.made).deeds) (map amqp_again (others_of (end.given_by (life_in (other d) steps entries k.made).deeds)))
    heard_at Client = k.client.heard
    heard_at Listener = k.listener.heard
