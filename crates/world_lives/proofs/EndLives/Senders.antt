-- A sender and its session go on together.
use Rattle.std.specs.Prelude.{◌≡◌, ℕ, List, [], ◌++◌}
use Rattle.std.proofs.Common.{sym, ◌∙◌, ap}
use Rattle.std.proofs.lemmas.Grind.{flat_map-append}
use Rattle.amqp_parts.specs.declared.part.Part.{Part}
use Rattle.amqp_session.specs.declared.session.SessionState.TheVariants.{Mapped}
use Rattle.amqp_sender.specs.Sender.{State as SenderState}
use Rattle.amqp_links.specs.State.{State as Links}
use Rattle.amqp_sessions.specs.Parts.{EndpointState}
use Rattle.amqp_sessions.specs.State.{State as Sessions}
use Rattle.session_laws.specs.Messages.{transfer_in, transfers, on}
use Rattle.session_laws.specs.Holding.{told}
use Rattle.session_laws.specs.Sending as sending
use Rattle.link_lives.specs.Deeds as links
use Rattle.link_lives.specs.Deeds.{all_handed, part_told, parts_told, AreApart}
use Rattle.link_lives.specs.Laws.{SenderGoes}
use Rattle.link_lives.proofs.Runs.{one_sender_lives}
use Rattle.session_lives.specs.Deeds as sessions
use Rattle.session_lives.specs.Deeds.{came_in}
use Rattle.session_lives.specs.Laws.{SessionLives}
use Rattle.session_lives.specs.Lives.{moves}
use Rattle.session_lives.specs.Lives as lives
use Rattle.session_lives.specs.Logs.{AreKeyed}
use Rattle.session_lives.proofs.Runs.{one_of_all_lives}
use Rattle.world_lives.specs.EndLives.Ends.{taken_in}
use Rattle.world_lives.specs.EndLives.Laws.{IsFront, SendersPass}
use Rattle.world_lives.proofs.EndLives.Fronts.{front_more, front_then, front_to, front_on}
use Rattle.world_lives.proofs.EndLives.Phases.{parts_given, takes_front}
use Rattle.world_lives.proofs.EndLives.Gone.{meant, takes_first, parts_first, meant_parts}

-- what the session takes is a front of what goes to it
taken_goes : (session : ℕ) (e : EndpointState) (s : Sessions) (sd : List sessions.Deed) (s' : Sessions) (did : sessions.Did s sd s') → AreKeyed s → sessions.AreOther session sd → e.session.state ≡ Mapped
    → (w : SessionLives session e sd s s' did) → IsFront (told e.session (moves w.steps)) (parts_told session (taken_in sd))
taken_goes session e s sd s' did keyed other mapped w =
    let ms = moves w.steps in
    let given = (came_in s sd s' did session).told in
    let p = takes_front e.session ms mapped in
    let q = front_to (told e.session ms) (parts_given (lives.told ms)) (parts_given given) p (ap parts_given w.takes) in
    let r = parts_first given (meant session sd) (takes_first session s sd s' did keyed other) in
    front_to (told e.session ms) (parts_given (meant session sd)) (parts_told session (taken_in sd))
    (front_then (told e.session ms) (parts_given given) (parts_given (meant session sd)) q r) (sym (meant_parts session sd))

-- what goes to it of a handle is a front of what the sender writes
handed_goes : (handle n session : ℕ) (t : SenderState) (ld : List links.Deed) (l l' : Links) (did : links.Did l ld l') (g : SenderGoes n session t ld l l' did) → AreApart handle session n g.log
    → on handle (parts_told session l.output) ≡ [] → IsFront (on handle (parts_told session (all_handed ld))) (on handle (transfers (sending.written t g.moves)))
handed_goes handle n session t ld l l' did g apart none =
    let gone = all_handed ld in
    let whole = parts_told session (gone ++ l'.output) in
    let went = transfers (sending.handed_all t g.moves) in
    let left = transfers (sending.after_all t g.moves).link.output in
    let split : parts_told session gone ++ parts_told session l'.output ≡ whole = sym (flat_map-append (part_told session) gone l'.output) in
    let p : IsFront (parts_told session gone) whole = front_to (parts_told session gone) (parts_told session gone ++ parts_told session l'.output) whole (front_more (parts_told session gone) (parts_told session l'.output)) split in
    let is : on handle whole ≡ on handle went = g.goes handle apart ∙ ap (λ (xs : List Part). xs ++ on handle went) none in
    let q = front_to (on handle (parts_told session gone)) (on handle whole) (on handle went) (front_on handle (parts_told session gone) whole p) is in
    let all : went ++ left ≡ transfers (sending.written t g.moves) = sym (flat_map-append transfer_in (sending.handed_all t g.moves) (sending.after_all t g.moves).link.output) in
    let r = front_on handle went (transfers (sending.written t g.moves)) (front_to went (went ++ left) (transfers (sending.written t g.moves)) (front_more went left) all) in
    front_then (on handle (parts_told session gone)) (on handle went) (on handle (transfers (sending.written t g.moves))) q r

pub senders_pass : SendersPass
senders_pass n c t e s sd s' l ld l' k keyed at mapped other stands is apart free =
    let g = one_sender_lives n c t ld l l' k.links_did stands is apart free in
    let w = one_of_all_lives c.session e sd s s' k.sessions_did keyed at other in
    record {
      sender = g;
      life = w;
      takes = λ handle alone none.
          let p = taken_goes c.session e s sd s' k.sessions_did keyed other mapped w in
          let q = front_to (told e.session (moves w.steps)) (parts_told c.session (taken_in sd)) (parts_told c.session (all_handed ld)) p (ap (parts_told c.session) (sym k.taken)) in
          front_then (on handle (told e.session (moves w.steps))) (on handle (parts_told c.session (all_handed ld))) (on handle (transfers (sending.written t g.moves)))
          (front_on handle (told e.session (moves w.steps)) (parts_told c.session (all_handed ld)) q) (handed_goes handle n c.session t ld l l' k.links_did g alone none);
    }
