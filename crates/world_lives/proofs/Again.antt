-- What is read off frames, as they were written and as they are read again.
use Rattle.std.specs.Prelude.{◌≡◌, ℕ, nat_eq, Bool, true, false, not, cond, List, [], ◌∷◌, ◌++◌, map, flat_map, Option, Some, None, if◌then◌else◌, refl}
use Rattle.std.proofs.Common.{sym, ◌∙◌, ap}
use Rattle.std.proofs.lemmas.Grind.{flat_map-append}
use Rattle.amqp_frames.specs.declared.body.FrameBody.{FrameBody}
use Rattle.amqp_frames.specs.declared.body.FrameBody.TheVariants as b
use Rattle.amqp_frames.specs.Body.{read_again_body}
use Rattle.amqp_performatives.specs.declared.begin.Begin.{Begin}
use Rattle.amqp_transport.specs.declared.frames.Frame.{Frame}
use Rattle.amqp_transport.specs.Kinds.{amqp_again}
use Rattle.amqp_peer.specs.Frames.{asks, others_of}
use Rattle.amqp_session.specs.State.{Framed}
use Rattle.amqp_sessions.specs.Frames.{answered_channel}
use Rattle.amqp_end.specs.Deeds.{framed_of}
use Rattle.session_lives.specs.Channels.{on_if, on}
use Rattle.session_lives.specs.Fronts.{unless_answer, others}

-- what is read off frames, in order
abbrev pub said : {X : Type 0} → (FrameBody → List X) → List Framed → List X
said f xs = flat_map (λ (x : Framed). f x.body) xs

pub said_more : {X : Type 0} (f : FrameBody → List X) (xs ys : List Framed) → said f (xs ++ ys) ≡ said f xs ++ said f ys
said_more f xs ys = flat_map-append (λ (x : Framed). f x.body) xs ys

pub on_more : (c : ℕ) (xs ys : List Framed) → on c (xs ++ ys) ≡ on c xs ++ on c ys
on_more c xs ys = flat_map-append (on_if c) xs ys

pub there_more : {X : Type 0} (f : FrameBody → List X) (c : ℕ) (xs ys : List Framed) → said f (on c (xs ++ ys)) ≡ said f (on c xs) ++ said f (on c ys)
there_more f c xs ys = ap (said f) (on_more c xs ys) ∙ said_more f (on c xs) (on c ys)

-- nothing is read off a Begin, be it one that asks for a session or one that answers
asking_none : {X : Type 0} (f : FrameBody → List X) → ((x : Begin) → f (b.Begin x) ≡ []) → (body : FrameBody) → asks body ≡ true → f body ≡ []
asking_none f none (b.Begin x) e = none x
asking_none f none (b.Open x) e = absurd cc
asking_none f none (b.Attach x) e = absurd cc
asking_none f none (b.Flow x) e = absurd cc
asking_none f none (b.Transfer x y) e = absurd cc
asking_none f none (b.Disposition x) e = absurd cc
asking_none f none (b.Detach x) e = absurd cc
asking_none f none (b.End x) e = absurd cc
asking_none f none (b.Close x) e = absurd cc
asking_none f none b.Empty e = absurd cc

answering_none : {X : Type 0} (f : FrameBody → List X) → ((x : Begin) → f (b.Begin x) ≡ []) → (body : FrameBody) (c : ℕ) → answered_channel body ≡ Some c → f body ≡ []
answering_none f none (b.Begin x) c e = none x
answering_none f none (b.Open x) c e = absurd cc
answering_none f none (b.Attach x) c e = absurd cc
answering_none f none (b.Flow x) c e = absurd cc
answering_none f none (b.Transfer x y) c e = absurd cc
answering_none f none (b.Disposition x) c e = absurd cc
answering_none f none (b.Detach x) c e = absurd cc
answering_none f none (b.End x) c e = absurd cc
answering_none f none (b.Close x) c e = absurd cc
answering_none f none b.Empty c e = absurd cc

-- so those that answer one count not
pub said_others : {X : Type 0} (f : FrameBody → List X) → ((x : Begin) → f (b.Begin x) ≡ []) → (xs : List Framed) → said f (others xs) ≡ said f xs
said_others f none [] = refl
said_others {X} f none (x ∷ xs) = by (answered_channel x.body) refl (said_others f none xs)
  where
    by : (o : Option ℕ) → answered_channel x.body ≡ o → said f (others xs) ≡ said f xs → said f (others (x ∷ xs)) ≡ f x.body ++ said f xs
    by None e rest =
        ap (λ (o : Option ℕ). said f (unless_answer o x ++ others xs)) e ∙ ap (λ (ys : List X). f x.body ++ ys) rest
    by (Some c) e rest =
        ap (λ (o : Option ℕ). said f (unless_answer o x ++ others xs)) e
        ∙ (rest ∙ ap (λ (ys : List X). ys ++ said f xs) (sym (answering_none f none x.body c e)))

-- ---- as they are read again

module _ {X : Type 0} (f g : FrameBody → List X) (again : (body : FrameBody) → f (read_again_body body) ≡ g body) (none : (x : Begin) → g (b.Begin x) ≡ []) where
  one_again : (c : ℕ) (x : Frame) → said f (on_if c (framed_of (amqp_again x))) ≡ said g (on_if c (framed_of x))
  one_again c x = by (nat_eq c x.channel)
    where
      by : (t : Bool) → said f (if t then framed_of (amqp_again x) ∷ [] else []) ≡ said g (if t then framed_of x ∷ [] else [])
      by true = ap (λ (ys : List X). ys ++ []) (again x.body)
      by false = refl

  one_none : (c : ℕ) (x : Frame) → g x.body ≡ [] → said g (on_if c (framed_of x)) ≡ []
  one_none c x e = by (nat_eq c x.channel)
    where
      by : (t : Bool) → said g (if t then framed_of x ∷ [] else []) ≡ []
      by true = ap (λ (ys : List X). ys ++ []) e
      by false = refl

  -- the frames of sessions but those that ask for one, on a channel
  pub said_again : (c : ℕ) (xs : List Frame) → said f (on c (map framed_of (map amqp_again (others_of xs)))) ≡ said g (on c (map framed_of xs))
  said_again c [] = refl
  said_again c (x ∷ xs) = by (asks x.body) refl (said_again c xs)
    where
      whole : said g (on c (map framed_of (x ∷ xs))) ≡ said g (on_if c (framed_of x)) ++ said g (on c (map framed_of xs))
      whole = said_more g (on_if c (framed_of x)) (on c (map framed_of xs))

      by : (t : Bool) → asks x.body ≡ t → said f (on c (map framed_of (map amqp_again (others_of xs)))) ≡ said g (on c (map framed_of xs))
          → said f (on c (map framed_of (map amqp_again (others_of (x ∷ xs))))) ≡ said g (on c (map framed_of (x ∷ xs)))
      by true e rest =
          ap (λ (t : Bool). said f (on c (map framed_of (map amqp_again (cond (not t) (x ∷ others_of xs) (others_of xs)))))) e
          ∙ (rest ∙ sym (whole ∙ ap (λ (ys : List X). ys ++ said g (on c (map framed_of xs))) (one_none c x (asking_none g none x.body e))))
      by false e rest =
          ap (λ (t : Bool). said f (on c (map framed_of (map amqp_again (cond (not t) (x ∷ others_of xs) (others_of xs)))))) e
          ∙ (said_more f (on_if c (framed_of (amqp_again x))) (on c (map framed_of (map amqp_again (others_of xs))))
          ∙ (ap (λ (ys : List X). ys ++ said f (on c (map framed_of (map amqp_again (others_of xs))))) (one_again c x)
          ∙ (ap (λ (ys : List X). said g (on_if c (framed_of x)) ++ ys) rest ∙ sym whole)))
