-- What a session takes of its links that says something of deliveries or of credit, its receiver has written.
use Rattle.std.specs.Prelude.{◌≡◌, ℕ, nat_eq, Bool, true, false, List, [], ◌∷◌, ◌++◌, map, flat_map, Option, Some, None, if◌then◌else◌, refl}
use Rattle.std.proofs.Common.{sym, ◌∙◌, ap, subst, eq-eqb}
use Rattle.std.proofs.lemmas.Grind.{flat_map-append}
use Rattle.std.proofs.lemmas.List.{append-nil, map-append}
use Rattle.amqp_frames.specs.declared.body.FrameBody.{FrameBody}
use Rattle.amqp_frames.specs.declared.shared.LinkFrame.{LinkFrame}
use Rattle.amqp_link.specs.Link.{body_of}
use Rattle.amqp_links.specs.Parts.{Told}
use Rattle.amqp_links.specs.State.{State as Links}
use Rattle.amqp_receiver.specs.Receiver.{State as ReceiverState}
use Rattle.amqp_session.specs.declared.session.SessionState.{SessionState}
use Rattle.amqp_session.specs.declared.session.SessionState.TheVariants as state
use Rattle.amqp_session.specs.State.{State as Session}
use Rattle.amqp_sessions.specs.Parts.{EndpointState}
use Rattle.amqp_sessions.specs.State.{State as Sessions, endpoint_of}
use Rattle.session_laws.specs.Giving.{handed, handed_all, written}
use Rattle.session_laws.specs.Holding.{Move, tells, after}
use Rattle.session_laws.specs.Receiving as receiving
use Rattle.session_laws.specs.Receiving.{Answer}
use Rattle.session_laws.specs.Speaking.{AreAmong, spoken_in, spoken_by, spoken}
use Rattle.link_lives.specs.Deeds as links
use Rattle.link_lives.specs.Deeds.{all_handed}
use Rattle.link_lives.specs.Laws.{ReceiverGoes}
use Rattle.link_lives.specs.Lives.{Event, Wrote, Sent, Answered, receiver_tells, receiver_told}
use Rattle.link_lives.specs.Logs.{Entry, Of, Strayed, told_of, told, own}
use Rattle.link_lives.proofs.Tables.{flip}
use Rattle.session_lives.specs.Deeds as sessions
use Rattle.session_lives.specs.Deeds.{Deed, Takes, where_there, told_of as came_of, came_in}
use Rattle.session_lives.specs.Laws.{SessionLives}
use Rattle.session_lives.specs.Lives.{moves}
use Rattle.session_lives.specs.Lives as lives
use Rattle.world_lives.specs.EndLives.Ends.{taken_of, taken_in}
use Rattle.world_lives.proofs.EndLives.Gone.{meant_by, meant}
use Rattle.world_lives.specs.OutcomeLives.Saying.{frame_told, frames_told, frame_wrote, AreApart, ReceiversSay}
use Rattle.world_lives.proofs.OutcomeLives.Among.{among_then, among_itself, among_same, among_whole, among_none, among_both, among_said, among_mapped}

-- ---- what the session takes

-- it takes no frames but those that links give it
spoken_one : (p : SessionState) (x : LinkFrame) → AreAmong (spoken_in p x) (body_of x ∷ [])
spoken_one state.Mapped x = among_itself (body_of x ∷ [])
spoken_one state.BeginSent x = tt
spoken_one state.EndSent x = tt
spoken_one state.Unmapped x = tt

spoken_move : (s : Session) (m : Move) → AreAmong (spoken_by s m) (map body_of (lives.told_by m))
spoken_move s (tells x) = spoken_one s.state x
spoken_move s other = tt

spoken_told : (s : Session) (ms : List Move) → AreAmong (spoken s ms) (map body_of (lives.told ms))
spoken_told s [] = tt
spoken_told s (m ∷ ms) =
    among_then (spoken s (m ∷ ms)) (map body_of (lives.told_by m) ++ map body_of (lives.told ms)) (map body_of (lives.told (m ∷ ms)))
    (among_both (spoken_by s m) (spoken (after s m) ms) (map body_of (lives.told_by m)) (map body_of (lives.told ms)) (spoken_move s m) (spoken_told (after s m) ms))
    (among_same (map body_of (lives.told_by m) ++ map body_of (lives.told ms)) (map body_of (lives.told (m ∷ ms))) (sym (map-append body_of (lives.told_by m) (lives.told ms))))

-- what comes to it is meant for it
came_there : (o : Option EndpointState) (xs : List LinkFrame) → AreAmong (where_there o xs) xs
came_there None xs = tt
came_there (Some e) xs = among_itself xs

came_one : (d : Deed) (s : Sessions) (n : ℕ) → AreAmong (came_of d s n) (meant_by n d)
came_one (Takes session x) s n = came_there (endpoint_of n s) (if nat_eq n session then x ∷ [] else [])
came_one d s n = tt

came_meant : (n : ℕ) (old : Sessions) (ds : List Deed) (new : Sessions) (did : sessions.Did old ds new) → AreAmong (came_in old ds new did n).told (meant n ds)
came_meant n old [] new did = tt
came_meant n old (d ∷ ds) new did =
    among_both (came_of d old n) (came_in did.0 ds new did.1.1 n).told (meant_by n d) (meant n ds) (came_one d old n) (came_meant n did.0 ds new did.1.1)

-- that is what the sessions take under its name
frames_more : (session : ℕ) (xs ys : List Told) → frames_told session (xs ++ ys) ≡ frames_told session xs ++ frames_told session ys
frames_more session xs ys = flat_map-append (frame_told session) xs ys

meant_chosen : (b : Bool) (x : LinkFrame) → map body_of (if b then x ∷ [] else []) ≡ (if b then body_of x ∷ [] else []) ++ []
meant_chosen true x = refl
meant_chosen false x = refl

meant_one : (n : ℕ) (d : Deed) → map body_of (meant_by n d) ≡ frames_told n (taken_of d)
meant_one n (Takes session x) = meant_chosen (nat_eq n session) x ∙ ap (λ b. (if b then body_of x ∷ [] else []) ++ []) (flip session n)
meant_one n d = refl

meant_taken : (n : ℕ) (ds : List Deed) → map body_of (meant n ds) ≡ frames_told n (taken_in ds)
meant_taken n [] = refl
meant_taken n (d ∷ ds) =
    map-append body_of (meant_by n d) (meant n ds)
    ∙ (ap (λ (xs : List FrameBody). xs ++ map body_of (meant n ds)) (meant_one n d)
    ∙ (ap (λ (xs : List FrameBody). frames_told n (taken_of d) ++ xs) (meant_taken n ds) ∙ sym (frames_more n (taken_of d) (taken_in ds))))

session_takes : (session : ℕ) (y : EndpointState) (s : Sessions) (sd : List Deed) (s' : Sessions) (did : sessions.Did s sd s') (w : SessionLives session y sd s s' did)
    → AreAmong (spoken y.session (moves w.steps)) (frames_told session (taken_in sd))
session_takes session y s sd s' did w =
    let ms = moves w.steps in
    let came = (came_in s sd s' did session).told in
    let a : AreAmong (lives.told ms) (meant session sd) = subst (λ (xs : List LinkFrame). AreAmong xs (meant session sd)) (sym w.takes) (came_meant session s sd s' did) in
    among_then (spoken y.session ms) (map body_of (lives.told ms)) (frames_told session (taken_in sd)) (spoken_told y.session ms)
    (among_then (map body_of (lives.told ms)) (map body_of (meant session sd)) (frames_told session (taken_in sd)) (among_mapped body_of (lives.told ms) (meant session sd) a)
    (among_same (map body_of (meant session sd)) (frames_told session (taken_in sd)) (meant_taken session sd)))

-- ---- what the receiver tells

event_told : (session : ℕ) (e : Event) → frames_told session (told_of e) ≡ frame_wrote session e
event_told session (Wrote other x) = append-nil (if nat_eq other session then x ∷ [] else [])
event_told session (Sent m) = refl
event_told session (Answered a) = refl

abbrev frames_wrote : ℕ → List Event → List FrameBody
frames_wrote session es = flat_map (frame_wrote session) es

-- what it tells are the frames that it hands over
wrote_all : (session : ℕ) (xs : List FrameBody) → frames_wrote session (map (Wrote session) xs) ≡ xs
wrote_all session [] = refl
wrote_all session (x ∷ xs) =
    ap (λ b. (if b then x ∷ [] else []) ++ frames_wrote session (map (Wrote session) xs)) (eq-eqb session session refl) ∙ ap (λ (ys : List FrameBody). x ∷ ys) (wrote_all session xs)

wrote_none : (session : ℕ) (xs : List Answer) → frames_wrote session (map Answered xs) ≡ []
wrote_none session [] = refl
wrote_none session (x ∷ xs) = wrote_none session xs

move_wrote : (session : ℕ) (u : ReceiverState) (m : receiving.Move) → frames_wrote session (receiver_tells session u m) ≡ handed u m
move_wrote session u receiving.hands_over = wrote_all session u.link.output
move_wrote session u m = wrote_none session (receiving.answered_by u m)

moves_wrote : (session : ℕ) (u : ReceiverState) (ms : List receiving.Move) → frames_wrote session (receiver_told session u ms) ≡ handed_all u ms
moves_wrote session u [] = refl
moves_wrote session u (m ∷ ms) =
    let v = receiving.after u m in
    flat_map-append (frame_wrote session) (receiver_tells session u m) (receiver_told session v ms)
    ∙ (ap (λ (xs : List FrameBody). xs ++ frames_wrote session (receiver_told session v ms)) (move_wrote session u m) ∙ ap (λ (xs : List FrameBody). handed u m ++ xs) (moves_wrote session v ms))

-- ---- what says something

module _ {X : Type 0} (says : FrameBody → List X) (session n : ℕ) where
  one_apart : (link : ℕ) (e : Event) (log : List Entry) → (nat_eq link n ≡ false → flat_map says (frame_wrote session e) ≡ [])
      → AreAmong (flat_map says (frames_told session (told log))) (flat_map says (frames_wrote session (own n log)))
      → AreAmong (flat_map says (frames_told session (told (Of link e ∷ log)))) (flat_map says (frames_wrote session (own n (Of link e ∷ log))))
  one_apart link e log apart rest =
      let here = flat_map says (frame_wrote session e) in
      let more = flat_map says (frames_told session (told log)) in
      let split : flat_map says (frames_told session (told (Of link e ∷ log))) ≡ here ++ more =
      ap (flat_map says) (frames_more session (told_of e) (told log))
      ∙ (flat_map-append says (frames_told session (told_of e)) (frames_told session (told log)) ∙ ap (λ (xs : List FrameBody). flat_map says xs ++ more) (event_told session e)) in
      among_then (flat_map says (frames_told session (told (Of link e ∷ log)))) (here ++ more) (flat_map says (frames_wrote session (own n (Of link e ∷ log))))
      (among_same (flat_map says (frames_told session (told (Of link e ∷ log)))) (here ++ more) split) (by (nat_eq link n) refl)
    where
      by : (b : Bool) → nat_eq link n ≡ b → AreAmong (flat_map says (frame_wrote session e) ++ flat_map says (frames_told session (told log))) (flat_map says (frames_wrote session (own n (Of link e ∷ log))))
      by true g =
          let here = flat_map says (frame_wrote session e) in
          let kept = flat_map says (frames_wrote session (own n log)) in
          let whole : here ++ kept ≡ flat_map says (frames_wrote session (own n (Of link e ∷ log))) =
          sym (flat_map-append says (frame_wrote session e) (frames_wrote session (own n log))) ∙ sym (ap (λ b. flat_map says (frames_wrote session ((if b then e ∷ [] else []) ++ own n log))) g) in
          among_then (here ++ flat_map says (frames_told session (told log))) (here ++ kept) (flat_map says (frames_wrote session (own n (Of link e ∷ log))))
          (among_both here (flat_map says (frames_told session (told log))) here kept (among_itself here) rest) (among_same (here ++ kept) (flat_map says (frames_wrote session (own n (Of link e ∷ log)))) whole)
      by false g =
          let kept = flat_map says (frames_wrote session (own n log)) in
          let whole : kept ≡ flat_map says (frames_wrote session (own n (Of link e ∷ log))) = sym (ap (λ b. flat_map says (frames_wrote session ((if b then e ∷ [] else []) ++ own n log))) g) in
          among_then (flat_map says (frame_wrote session e) ++ flat_map says (frames_told session (told log))) kept (flat_map says (frames_wrote session (own n (Of link e ∷ log))))
          (among_both (flat_map says (frame_wrote session e)) (flat_map says (frames_told session (told log))) [] kept (among_none (flat_map says (frame_wrote session e)) [] (apart g)) rest)
          (among_same kept (flat_map says (frames_wrote session (own n (Of link e ∷ log)))) whole)

  all_apart : (log : List Entry) → AreApart says session n log → AreAmong (flat_map says (frames_told session (told log))) (flat_map says (frames_wrote session (own n log)))
  all_apart [] h = tt
  all_apart (Of link e ∷ log) h = one_apart link e log h.0 (all_apart log h.1)
  all_apart (Strayed other ∷ log) h = all_apart log h.1

  -- of what goes to the session
  links_say : (u : ReceiverState) (ld : List links.Deed) (l l' : Links) (did : links.Did l ld l') (g : ReceiverGoes n session u ld l l' did)
      → flat_map says (frames_told session l.output) ≡ [] → AreApart says session n g.log
      → AreAmong (flat_map says (frames_told session (all_handed ld))) (flat_map says (written u g.moves))
  links_say u ld l l' did g none apart =
      let gone = frames_told session (all_handed ld) in
      let old = frames_told session l.output in
      let log = frames_told session (told g.log) in
      let out = handed_all u g.moves in
      let whole : gone ++ frames_told session l'.output ≡ old ++ log = sym (frames_more session (all_handed ld) l'.output) ∙ (ap (frames_told session) g.output ∙ frames_more session l.output (told g.log)) in
      let words : flat_map says (old ++ log) ≡ flat_map says log = flat_map-append says old log ∙ ap (λ (xs : List X). xs ++ flat_map says log) none in
      let own_is : frames_wrote session (own n g.log) ≡ out = ap (frames_wrote session) g.tells ∙ moves_wrote session u g.moves in
      among_then (flat_map says gone) (flat_map says (old ++ log)) (flat_map says (written u g.moves)) (among_said says gone (old ++ log) (among_whole gone (frames_told session l'.output) (old ++ log) whole))
      (among_then (flat_map says (old ++ log)) (flat_map says log) (flat_map says (written u g.moves)) (among_same (flat_map says (old ++ log)) (flat_map says log) words)
      (among_then (flat_map says log) (flat_map says (frames_wrote session (own n g.log))) (flat_map says (written u g.moves)) (all_apart g.log apart)
      (among_then (flat_map says (frames_wrote session (own n g.log))) (flat_map says out) (flat_map says (written u g.moves))
      (among_same (flat_map says (frames_wrote session (own n g.log))) (flat_map says out) (ap (flat_map says) own_is))
      (among_said says out (written u g.moves) (among_whole out (receiving.after_all u g.moves).link.output (written u g.moves) refl)))))

pub receivers_say : {X : Type 0} → (says : FrameBody → List X) → ReceiversSay says
receivers_say says n session u y s sd s' l ld l' k g w none apart =
    let frames = spoken y.session (moves w.steps) in
    let a = session_takes session y s sd s' k.sessions_did w in
    among_then (flat_map says frames) (flat_map says (frames_told session (taken_in sd))) (flat_map says (written u g.moves)) (among_said says frames (frames_told session (taken_in sd)) a)
    (subst (λ (xs : List Told). AreAmong (flat_map says (frames_told session xs)) (flat_map says (written u g.moves))) k.taken (links_say says session n u ld l l' k.links_did g none apart))
