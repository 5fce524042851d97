-- The frames that the sessions of one end are given, and those that the sessions of the other have put out.
use Rattle.std.proofs.Common.{◌≡◌, refl, sym, subst, ℕ, Bool, List, [], ◌∷◌, ◌++◌, map, filter, All, Contains}
use Rattle.std.proofs.lemmas.List.Elements.{All-nil, All-cons, All-head, All-tail, All-append, All-weaker, All-map, All-filter, All-contains_itself}
use Rattle.std.specs.Map.{values_of}
use Rattle.amqp_transport.specs.declared.frames.Frame.{Frame}
use Rattle.amqp_transport.specs.Kinds.{amqp_again}
use Rattle.amqp_words.specs.declared.step.End.TheVariants.{Client, Listener}
use Rattle.amqp_calls.specs.declared.step.Step.{Step}
use Rattle.amqp_calls.specs.declared.trace.Entry.{Entry}
use Rattle.amqp_ends.specs.Streams.{IsFront}
use Rattle.amqp_session.specs.State.{Framed}
use Rattle.amqp_end.specs.Deeds as end
use Rattle.amqp_end.specs.Deeds.{Deed, framed_of, asked_of, asked_by, heard_of, heard_by, given_by}
use Rattle.amqp_session_world.specs.Carried.{life_in, AreCarried}
use Rattle.session_answers.specs.Passing.{added, read_of}
use Rattle.session_answers.specs.Laws.{IsPutOut, ArePutOut, TraceIsPutOut}

-- ---- of the first elements, of the last, and of those that a function makes

all_front : {X : Type 0} (P : X → Type 0) (xs ys : List X) → All P (xs ++ ys) → All P xs
all_front P [] ys h = All-nil P
all_front P (x ∷ xs) ys h = All-cons P x xs (All-head P x (xs ++ ys) h) (all_front P xs ys (All-tail P x (xs ++ ys) h))

all_back : {X : Type 0} (P : X → Type 0) (xs ys : List X) → All P (xs ++ ys) → All P ys
all_back P [] ys h = h
all_back P (x ∷ xs) ys h = all_back P xs ys (All-tail P x (xs ++ ys) h)

all_unmapped : {X Y : Type 0} (P : X → Type 0) (f : Y → X) (ys : List Y) → All P (map f ys) → All (λ y. P (f y)) ys
all_unmapped P f [] h = All-nil (λ y. P (f y))
all_unmapped P f (y ∷ ys) h = All-cons (λ z. P (f z)) y ys (All-head P (f y) (map f ys) h) (all_unmapped P f ys (All-tail P (f y) (map f ys) h))

-- ---- what was put out, and is read again

-- under the name of some session
abbrev IsAmong : List (ℕ × Framed) → Framed → Type 0
IsAmong written x = (session : ℕ) × Contains written (session, x)

values_are : (written : List (ℕ × Framed)) → All (IsAmong written) (values_of written)
values_are written =
    All-map (IsAmong written) (λ (e : ℕ × Framed). e.1) written (All-weaker (Contains written) (λ (e : ℕ × Framed). IsAmong written e.1) (λ e h. (e.0, h)) written (All-contains_itself written))

given_are : (written : List (ℕ × Framed)) (gs : List Frame) (later : List Framed) → map framed_of gs ++ later ≡ values_of written → All (λ g. IsAmong written (framed_of g)) gs
given_are written gs later e = all_unmapped (IsAmong written) framed_of gs (all_front (IsAmong written) (map framed_of gs) later (subst (All (IsAmong written)) (sym e) (values_are written)))

-- a frame of a connection, as its sessions see it
abbrev IsOut : List (ℕ × Framed) → Frame → Type 0
IsOut written f = IsPutOut written (framed_of f)

-- those among them that were read again, and the first of these
again_are : (written : List (ℕ × Framed)) (test : Frame → Bool) (gs xs : List Frame) → All (λ g. IsAmong written (framed_of g)) gs → IsFront xs (map amqp_again (filter test gs)) → All (IsOut written) xs
again_are written test gs xs h front =
    let all : All (λ g. IsOut written (amqp_again g)) gs = All-weaker (λ (g : Frame). IsAmong written (framed_of g)) (λ (g : Frame). IsOut written (amqp_again g)) (λ g k. record { session = k.0; frame = framed_of g; there = k.1; again = refl }) gs h in
    let some : All (IsOut written) (map amqp_again (filter test gs)) = All-map (IsOut written) amqp_again (filter test gs) (All-filter test (λ (g : Frame). IsOut written (amqp_again g)) gs all) in
    all_front (IsOut written) xs front.0 (subst (All (IsOut written)) (sym front.1) some)

-- ---- what sessions are given

one_read : (P : Framed → Type 0) (d : Deed) → All (λ f. P (framed_of f)) (asked_of d) → All (λ f. P (framed_of f)) (heard_of d) → All P (read_of d)
one_read P (end.Hears x) a h = All-cons P (framed_of x) [] (All-head (λ (f : Frame). P (framed_of f)) x [] h) (All-nil P)
one_read P (end.Accepts name n channel limit incoming) a h = All-cons P _ [] (All-head (λ (f : Frame). P (framed_of f)) _ [] a) (All-nil P)
one_read P (end.Makes name call events) a h = All-nil P
one_read P (end.Polls events) a h = All-nil P
one_read P (end.Goes events) a h = All-nil P
one_read P (end.Moves m) a h = All-nil P
one_read P (end.Writes f events) a h = All-nil P
one_read P (end.Seats channel) a h = All-nil P
one_read P (end.Lacks e) a h = All-nil P
one_read P (end.Frees channel) a h = All-nil P
one_read P (end.Asks name call) a h = All-nil P
one_read P (end.LinksHear session x) a h = All-nil P
one_read P (end.LinksWrite session x) a h = All-nil P
one_read P (end.LinksLack session) a h = All-nil P
one_read P end.LinksKnow a h = All-nil P
one_read P end.LinksLook a h = All-nil P
one_read P (end.Tells answers) a h = All-nil P
one_read P (end.TellsFirst name answers) a h = All-nil P

all_read : (P : Framed → Type 0) (ds : List Deed) → All (λ f. P (framed_of f)) (asked_by ds) → All (λ f. P (framed_of f)) (heard_by ds) → All P (added read_of ds)
all_read P [] a h = All-nil P
all_read P (d ∷ ds) a h =
    let Q : Frame → Type 0 = λ (f : Frame). P (framed_of f) in
    All-append P (added read_of ds) (read_of d)
    (all_read P ds (all_front Q (asked_by ds) (asked_of d) a) (all_front Q (heard_by ds) (heard_of d) h))
    (one_read P d (all_back Q (asked_by ds) (asked_of d) a) (all_back Q (heard_by ds) (heard_of d) h))

put_out : (ds es : List Deed) (asked heard : Frame → Bool) → IsFront (asked_by ds) (map amqp_again (filter asked (given_by es))) → IsFront (heard_by ds) (map amqp_again (filter heard (given_by es))) → ArePutOut ds es
put_out ds es asked heard a h written later e =
    let all : All (λ g. IsAmong written (framed_of g)) (given_by es) = given_are written (given_by es) later e in
    all_read (IsPutOut written) ds (again_are written asked (given_by es) (asked_by ds) all a) (again_are written heard (given_by es) (heard_by ds) all h)

-- ---- a trace

pub trace_is_put_out : (steps : List Step) (entries : List Entry) (k : AreCarried steps entries) → TraceIsPutOut steps entries k
trace_is_put_out steps entries k = record {
  client = put_out (life_in Client steps entries k.made).deeds (life_in Listener steps entries k.made).deeds _ _ k.client.asked k.client.heard;
  listener = put_out (life_in Listener steps entries k.made).deeds (life_in Client steps entries k.made).deeds _ _ k.listener.asked k.listener.heard;
}
