-- What a receiver says of deliveries and of credit, on its way to its session (OASIS AMQP 1.0, part 2, sections
-- 2.6.7 and 2.6.12).
use Rattle.std.specs.Prelude.{◌≡◌, ℕ, nat_eq, false, List, [], ◌∷◌, flat_map, if◌then◌else◌}
use Rattle.amqp_frames.specs.declared.body.FrameBody.{FrameBody}
use Rattle.amqp_links.specs.Parts.{Told, Frame, Astray}
use Rattle.amqp_links.specs.State.{State as Links}
use Rattle.amqp_receiver.specs.Receiver.{State as ReceiverState}
use Rattle.amqp_sessions.specs.Parts.{EndpointState}
use Rattle.amqp_sessions.specs.State.{State as Sessions}
use Rattle.session_laws.specs.Giving.{written}
use Rattle.session_laws.specs.Speaking.{AreAmong, ruling_in, flow_on, spoken}
use Rattle.link_lives.specs.Deeds as links
use Rattle.link_lives.specs.Laws.{ReceiverGoes}
use Rattle.link_lives.specs.Lives.{Event, Wrote}
use Rattle.link_lives.specs.Logs.{Entry, Of, Strayed}
use Rattle.session_lives.specs.Deeds as sessions
use Rattle.session_lives.specs.Laws.{SessionLives}
use Rattle.session_lives.specs.Lives.{moves}
use Rattle.world_lives.specs.EndLives.Ends.{Together}

-- the frames among what goes to that session
abbrev pub frame_told : ℕ → Told → List FrameBody
frame_told session (Frame other x) = if nat_eq other session then x ∷ [] else []
frame_told session (Astray other) = []

abbrev pub frames_told : ℕ → List Told → List FrameBody
frames_told session xs = flat_map (frame_told session) xs

abbrev pub frame_wrote : ℕ → Event → List FrameBody
frame_wrote session (Wrote other x) = if nat_eq other session then x ∷ [] else []
frame_wrote session other = []

-- no other link has written a frame in that session that says such things
abbrev pub IsApart : {X : Type 0} → (FrameBody → List X) → ℕ → ℕ → Entry → Type 0
IsApart says session n (Of link e) = nat_eq link n ≡ false → flat_map says (frame_wrote session e) ≡ []
IsApart says session n (Strayed other) = Unit {0}

abbrev pub AreApart : {X : Type 0} → (FrameBody → List X) → ℕ → ℕ → List Entry → Type 0
AreApart says session n [] = Unit {0}
AreApart says session n (x ∷ xs) = IsApart says session n x × AreApart says session n xs

-- A receiver and its session go on: each such thing that the session takes of its links the receiver has written,
-- where no other link has written one in the session and none was on its way between the two.
abbrev pub ReceiversSay : {X : Type 0} → (FrameBody → List X) → Type 0
ReceiversSay says =
    (n session : ℕ) (u : ReceiverState) (y : EndpointState) (s : Sessions) (sd : List sessions.Deed) (s' : Sessions)
    (l : Links) (ld : List links.Deed) (l' : Links) (k : Together s sd s' l ld l')
    (g : ReceiverGoes n session u ld l l' k.links_did) (w : SessionLives session y sd s s' k.sessions_did)
    → flat_map says (frames_told session l.output) ≡ [] → AreApart says session n g.log
    → AreAmong (flat_map says (spoken y.session (moves w.steps))) (flat_map says (written u g.moves))

-- of Dispositions of receivers, and of Flows on a handle
abbrev pub ReceiversRule : Type 0
ReceiversRule = ReceiversSay ruling_in

abbrev pub ReceiversGrant : Type 0
ReceiversGrant = (handle : ℕ) → ReceiversSay (flow_on handle)
