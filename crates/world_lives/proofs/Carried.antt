-- The frames that sessions hear and write, as their end has handed them on.
use Rattle.std.specs.Prelude.{◌≡◌, List, [], ◌∷◌, ◌++◌, map, refl}
use Rattle.std.proofs.Common.{sym, ◌∙◌, ap, append_assoc}
use Rattle.std.proofs.lemmas.List.{map-append}
use Rattle.amqp_session.specs.State.{Framed}
use Rattle.amqp_end.specs.Deeds as end
use Rattle.amqp_end.specs.Deeds.{framed_of}
use Rattle.amqp_end.specs.Moves as move
use Rattle.session_lives.specs.Deeds.{Deed, read_of, read_in, wrote_of, wrote_in}
use Rattle.world_lives.specs.EndLives.Ends.{of_move, sessions_of, sessions_in}

pub read_more : (ds es : List Deed) → read_in (ds ++ es) ≡ read_in ds ++ read_in es
read_more [] es = refl
read_more (d ∷ ds) es = ap (λ xs. read_of d ++ xs) (read_more ds es) ∙ sym (append_assoc (read_of d) (read_in ds) (read_in es))

pub wrote_more : (ds es : List Deed) → wrote_in (ds ++ es) ≡ wrote_in ds ++ wrote_in es
wrote_more [] es = refl
wrote_more (d ∷ ds) es = ap (λ xs. wrote_of d ++ xs) (wrote_more ds es) ∙ sym (append_assoc (wrote_of d) (wrote_in ds) (wrote_in es))

-- ---- one deed

move_read : (m : move.Move) → read_in (of_move m ∷ []) ≡ []
move_read (move.Begun name x channel limit) = refl
move_read (move.Awaiting name x) = refl
move_read (move.Refused name why) = refl
move_read (move.Ended name session condition) = refl
move_read (move.HandedOut name) = refl
move_read (move.Halted why) = refl
move_read (move.Concluded why) = refl

move_wrote : (m : move.Move) → wrote_in (of_move m ∷ []) ≡ []
move_wrote (move.Begun name x channel limit) = refl
move_wrote (move.Awaiting name x) = refl
move_wrote (move.Refused name why) = refl
move_wrote (move.Ended name session condition) = refl
move_wrote (move.HandedOut name) = refl
move_wrote (move.Halted why) = refl
move_wrote (move.Concluded why) = refl

deed_read : (d : end.Deed) → read_in (sessions_of d) ≡ map framed_of (end.heard_of d)
deed_read (end.Moves m) = move_read m
deed_read d = refl

deed_wrote : (d : end.Deed) → wrote_in (sessions_of d) ≡ map framed_of (end.given_of d)
deed_wrote (end.Moves m) = move_wrote m
deed_wrote d = refl

-- ---- all of them

pub life_read : (ds : List end.Deed) → read_in (sessions_in ds) ≡ map framed_of (end.heard_by ds)
life_read [] = refl
life_read (d ∷ ds) =
    read_more (sessions_in ds) (sessions_of d)
    ∙ (ap (λ (xs : List Framed). xs ++ read_in (sessions_of d)) (life_read ds)
    ∙ (ap (λ (xs : List Framed). map framed_of (end.heard_by ds) ++ xs) (deed_read d) ∙ sym (map-append framed_of (end.heard_by ds) (end.heard_of d))))

pub life_wrote : (ds : List end.Deed) → wrote_in (sessions_in ds) ≡ map framed_of (end.given_by ds)
life_wrote [] = refl
life_wrote (d ∷ ds) =
    wrote_more (sessions_in ds) (sessions_of d)
    ∙ (ap (λ (xs : List Framed). xs ++ wrote_in (sessions_of d)) (life_wrote ds)
    ∙ (ap (λ (xs : List Framed). map framed_of (end.given_by ds) ++ xs) (deed_wrote d) ∙ sym (map-append framed_of (end.given_by ds) (end.given_of d))))
