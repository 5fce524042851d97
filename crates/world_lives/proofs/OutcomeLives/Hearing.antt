-- Dispositions and Flows are heard as they were written.
use Rattle.std.specs.Prelude.{◌≡◌, ℕ, Bool, true, false, List, [], ◌∷◌, ◌++◌, map, flat_map, if◌then◌else◌, refl}
use Rattle.std.proofs.Common.{sym, ◌∙◌, ap}
use Rattle.std.proofs.lemmas.Grind.{flat_map-append}
use Rattle.std.proofs.lemmas.List.{map-append}
use Rattle.amqp_composites.specs.declared.modes.Role.{Role}
use Rattle.amqp_composites.specs.declared.modes.Role.TheVariants as role
use Rattle.amqp_frames.specs.declared.body.FrameBody.{FrameBody}
use Rattle.amqp_frames.specs.declared.body.FrameBody.TheVariants as b
use Rattle.amqp_frames.specs.Body.{read_again_body}
use Rattle.amqp_performatives.specs.declared.disposition.Disposition.{Disposition}
use Rattle.amqp_performatives.specs.declared.flow.Flow.{Flow}
use Rattle.amqp_session.specs.State.{Framed}
use Rattle.session_laws.specs.Speaking.{bodies, by_receiver, ruling_in, flow_in, flow_if, is_on, flow_on}
use Rattle.world_lives.specs.Hearing as world
use Rattle.world_lives.specs.Hearing.{are, IsKind, Hears}
use Rattle.world_lives.specs.OutcomeLives.Hearing.{AreFirst, is_receiver, is_ruling, is_flow_on, WordsAreHeard}

-- the words of frames
abbrev words : {X : Type 0} → (FrameBody → List X) → List Framed → List X
words says xs = flat_map says (bodies xs)

-- A kind of frames, each of which says one word, and is read again as it was written: of frames that are heard, the
-- words are the first of those of the frames that are written.
record IsWord {X : Type 0} (kind : FrameBody → Bool) (says read : FrameBody → List X) (frame : X → FrameBody) : Type 0 where
  is : IsKind kind
  framed : (body : FrameBody) → (if kind body then body ∷ [] else []) ≡ map frame (says body)
  again : (x : X) → read_again_body (frame x) ≡ frame x
  reads : (x : X) → read (frame x) ≡ x ∷ []

are_framed : {X : Type 0} → (kind : FrameBody → Bool) (says read : FrameBody → List X) (frame : X → FrameBody) → IsWord kind says read frame → (xs : List Framed) → are kind xs ≡ map frame (words says xs)
are_framed kind says read frame w [] = refl
are_framed kind says read frame w (x ∷ xs) =
    ap (λ (ys : List FrameBody). ys ++ are kind xs) (w.framed x.body)
    ∙ (ap (λ (ys : List FrameBody). map frame (says x.body) ++ ys) (are_framed kind says read frame w xs) ∙ sym (map-append frame (says x.body) (words says xs)))

all_again : {X : Type 0} → (frame : X → FrameBody) → ((x : X) → read_again_body (frame x) ≡ frame x) → (xs : List X) → map read_again_body (map frame xs) ≡ map frame xs
all_again frame same [] = refl
all_again frame same (x ∷ xs) = ap (λ (y : FrameBody). y ∷ map read_again_body (map frame xs)) (same x) ∙ ap (λ (ys : List FrameBody). frame x ∷ ys) (all_again frame same xs)

all_read : {X : Type 0} → (read : FrameBody → List X) (frame : X → FrameBody) → ((x : X) → read (frame x) ≡ x ∷ []) → (xs : List X) → flat_map read (map frame xs) ≡ xs
all_read read frame one [] = refl
all_read {X} read frame one (x ∷ xs) = ap (λ (ys : List X). ys ++ flat_map read (map frame xs)) (one x) ∙ ap (λ (ys : List X). x ∷ ys) (all_read read frame one xs)

-- those that are written, as they are read again
were_framed : {X : Type 0} → (kind : FrameBody → Bool) (says read : FrameBody → List X) (frame : X → FrameBody) → IsWord kind says read frame → (xs : List Framed) → map read_again_body (are kind xs) ≡ map frame (words says xs)
were_framed kind says read frame w xs = ap (map read_again_body) (are_framed kind says read frame w xs) ∙ all_again frame w.again (words says xs)

first_words : {X : Type 0} → (kind : FrameBody → Bool) (says read : FrameBody → List X) (frame : X → FrameBody) → IsWord kind says read frame → (got gave : List Framed)
    → world.AreFirst (are kind got) (map read_again_body (are kind gave)) → AreFirst (words says got) (words says gave)
first_words {X} kind says read frame w got gave p = record {
  later = flat_map read p.later;
  whole =
      ap (λ (xs : List X). xs ++ flat_map read p.later) (sym (ap (flat_map read) (are_framed kind says read frame w got) ∙ all_read read frame w.reads (words says got)))
      ∙ (sym (flat_map-append read (are kind got) p.later)
      ∙ (ap (flat_map read) (p.whole ∙ were_framed kind says read frame w gave) ∙ all_read read frame w.reads (words says gave)));
}

hear_words : {X : Type 0} → (kind : FrameBody → Bool) (says read : FrameBody → List X) (frame : X → FrameBody) → IsWord kind says read frame → (was_read was_written got gave : List Framed) → Hears was_read was_written got gave
    → words says was_read ≡ words says was_written → AreFirst (words says got) (words says gave)
hear_words kind says read frame w was_read was_written got gave h even =
    first_words kind says read frame w got gave
    (h.frames kind w.is (are_framed kind says read frame w was_read ∙ (ap (map frame) even ∙ sym (were_framed kind says read frame w was_written))))

-- ---- Dispositions of receivers

ruling_again : (body : FrameBody) → is_ruling (read_again_body body) ≡ is_ruling body
ruling_again (b.Attach x) = refl
ruling_again other = refl

ruling_framed : (x : Disposition) (r : Role) → (if is_receiver r then b.Disposition x ∷ [] else []) ≡ map b.Disposition (by_receiver r x)
ruling_framed x role.Receiver = refl
ruling_framed x role.Sender = refl

body_ruled : (body : FrameBody) → (if is_ruling body then body ∷ [] else []) ≡ map b.Disposition (ruling_in body)
body_ruled (b.Disposition x) = ruling_framed x x.role
body_ruled other = refl

abbrev disposition_in : FrameBody → List Disposition
disposition_in (b.Disposition x) = x ∷ []
disposition_in other = []

rulings_are : IsWord is_ruling ruling_in disposition_in b.Disposition
rulings_are = record { is = record { begins = λ x. refl; again = ruling_again }; framed = body_ruled; again = λ x. refl; reads = λ x. refl }

-- ---- Flows

flow_again : (handle : ℕ) (body : FrameBody) → is_flow_on handle (read_again_body body) ≡ is_flow_on handle body
flow_again handle (b.Attach x) = refl
flow_again handle other = refl

flow_framed : (x : Flow) (c : Bool) → (if c then b.Flow x ∷ [] else []) ≡ map b.Flow (flow_if c x)
flow_framed x true = refl
flow_framed x false = refl

body_flowed : (handle : ℕ) (body : FrameBody) → (if is_flow_on handle body then body ∷ [] else []) ≡ map b.Flow (flow_on handle body)
body_flowed handle (b.Flow x) = flow_framed x (is_on handle x.handle)
body_flowed handle other = refl

flows_are : (handle : ℕ) → IsWord (is_flow_on handle) (flow_on handle) flow_in b.Flow
flows_are handle = record { is = record { begins = λ x. refl; again = flow_again handle }; framed = body_flowed handle; again = λ x. refl; reads = λ x. refl }

pub words_are_heard : WordsAreHeard
words_are_heard was_read was_written got gave h = record {
  deliveries = λ even. hear_words is_ruling ruling_in disposition_in b.Disposition rulings_are was_read was_written got gave h even;
  credit = λ handle even. hear_words (is_flow_on handle) (flow_on handle) flow_in b.Flow (flows_are handle) was_read was_written got gave h even;
}
