-- A sender goes through a life in which no other link writes on its handle.
use Rattle.std.specs.Prelude.{◌≡◌, ℕ, nat_eq, Bool, true, false, List, [], ◌∷◌, ◌++◌, map, flat_map, if◌then◌else◌, refl}
use Rattle.std.proofs.Common.{sym, ◌∙◌, ap, subst, eq-eqb}
use Rattle.std.proofs.lemmas.Grind.{flat_map-append}
use Rattle.std.proofs.lemmas.List.{append-nil}
use Rattle.std.proofs.lemmas.List.Elements.{filter-append}
use Rattle.amqp_frames.specs.declared.body.FrameBody.{FrameBody}
use Rattle.amqp_parts.specs.declared.part.Part.{Part}
use Rattle.amqp_link_calls.specs.Side.{Side, link_of as link_in}
use Rattle.amqp_sender.specs.Sender.{State as SenderState}
use Rattle.session_laws.specs.Messages.{Message, transfer_in, transfers, on}
use Rattle.session_laws.specs.Sending as sending
use Rattle.link_lives.specs.Deeds.{part_told, parts_told, part_wrote, IsApart, AreApart}
use Rattle.link_lives.specs.Lives.{Event, Wrote, Sent, Answered, sender_tells, sender_told, SenderLives, Lives}
use Rattle.link_lives.specs.Logs.{Entry, Of, Strayed, own, told_of, told}
use Rattle.link_tables_agree.specs.Apart.{SendsApart}
use Rattle.link_tables_agree.proofs.Apart.{all_do, was_heard}

-- ---- the frames of a link

-- what was told of a link goes to its session
part_of_event : (session : ℕ) (e : Event) → flat_map (part_told session) (told_of e) ≡ part_wrote session e
part_of_event session (Wrote other x) = append-nil (if nat_eq other session then transfer_in x else [])
part_of_event session (Sent m) = refl
part_of_event session (Answered a) = refl

on_more : (handle : ℕ) (xs ys : List Part) → on handle (xs ++ ys) ≡ on handle xs ++ on handle ys
on_more handle xs ys = filter-append (λ (x : Part). nat_eq x.transfer.handle handle) xs ys

module _ (handle session n : ℕ) where
  -- the Transfers on the handle that an event brings
  brings : List Event → List Part
  brings es = on handle (flat_map (part_wrote session) es)

  brings_more : (es fs : List Event) → brings (es ++ fs) ≡ brings es ++ brings fs
  unfolding brings
  brings_more es fs = ap (on handle) (flat_map-append (part_wrote session) es fs) ∙ on_more handle (flat_map (part_wrote session) es) (flat_map (part_wrote session) fs)

  one_apart : (link : ℕ) (e : Event) (log : List Entry) → IsApart handle session n (Of link e) → on handle (parts_told session (told log)) ≡ brings (own n log)
      → on handle (parts_told session (told (Of link e ∷ log))) ≡ brings (own n (Of link e ∷ log))
  unfolding brings
  one_apart link e log apart h =
      ap (on handle) (flat_map-append (part_told session) (told_of e) (told log))
      ∙ (on_more handle (flat_map (part_told session) (told_of e)) (parts_told session (told log))
      ∙ (ap (λ xs. on handle xs ++ on handle (parts_told session (told log))) (part_of_event session e)
      ∙ (ap (λ xs. on handle (part_wrote session e) ++ xs) h ∙ by (nat_eq link n) refl)))
    where
      by : (b : Bool) → nat_eq link n ≡ b → on handle (part_wrote session e) ++ brings (own n log) ≡ brings (own n (Of link e ∷ log))
      by true g =
          let w = part_wrote session e in
          let rest = flat_map (part_wrote session) (own n log) in
          sym (on_more handle w rest) ∙ sym (ap (λ b. brings ((if b then e ∷ [] else []) ++ own n log)) g)
      by false g = ap (λ xs. xs ++ brings (own n log)) (apart g) ∙ sym (ap (λ b. brings ((if b then e ∷ [] else []) ++ own n log)) g)

  all_apart : (log : List Entry) → AreApart handle session n log → on handle (parts_told session (told log)) ≡ brings (own n log)
  unfolding brings
  all_apart [] h = refl
  all_apart (Of link e ∷ log) h = one_apart link e log h.0 (all_apart log h.1)
  all_apart (Strayed other ∷ log) h = all_apart log h.1

-- what a sender tells are the frames that it hands over
frames_bring : (session : ℕ) (xs : List FrameBody) → flat_map (part_wrote session) (map (Wrote session) xs) ≡ transfers xs
frames_bring session [] = refl
frames_bring session (x ∷ xs) =
    ap (λ b. (if b then transfer_in x else []) ++ flat_map (part_wrote session) (map (Wrote session) xs)) (eq-eqb session session refl) ∙ ap (λ ys. transfer_in x ++ ys) (frames_bring session xs)

sents_bring : (session : ℕ) (ms : List Message) → flat_map (part_wrote session) (map Sent ms) ≡ []
sents_bring session [] = refl
sents_bring session (m ∷ ms) = sents_bring session ms

move_brings : (session : ℕ) (s : SenderState) (m : sending.Move) → flat_map (part_wrote session) (sender_tells session s m) ≡ transfers (sending.handed s m)
move_brings session s sending.hands_over = frames_bring session s.link.output
move_brings session s m = sents_bring session (sending.sent_by s m)

moves_bring : (session : ℕ) (s : SenderState) (ms : List sending.Move) → flat_map (part_wrote session) (sender_told session s ms) ≡ transfers (sending.handed_all s ms)
moves_bring session s [] = refl
moves_bring session s (m ∷ ms) =
    let t = sending.after s m in
    flat_map-append (part_wrote session) (sender_tells session s m) (sender_told session t ms)
    ∙ (ap (λ xs. xs ++ flat_map (part_wrote session) (sender_told session t ms)) (move_brings session s m)
    ∙ (ap (λ xs. transfers (sending.handed s m) ++ xs) (moves_bring session t ms) ∙ sym (flat_map-append transfer_in (sending.handed s m) (sending.handed_all t ms))))

brought : (handle session n : ℕ) (s : SenderState) (log : List Entry) (t : Side) (v : SenderLives session s (own n log) t) → AreApart handle session n log
    → on handle (parts_told session (told log)) ≡ on handle (transfers (sending.handed_all s v.moves))
unfolding brings
brought handle session n s log t v apart =
    all_apart handle session n log apart ∙ ap (on handle) (ap (flat_map (part_wrote session)) v.told ∙ moves_bring session s v.moves)

-- ---- its life

pub sends_apart : SendsApart
sends_apart n l t ds old new did sound fresh at is =
    let d = all_do n ds old new did fresh sound l at in
    let lives : SenderLives l.session t (own n d.log) d.link.side = subst (λ a. Lives l.session a (own n d.log) d.parts d.link.side) is d.went.lives in
    record {
      sender = record {
        log = d.log;
        moves = lives.moves;
        link = d.link;
        stands = d.at;
        on_session = d.went.session;
        behind = lives.behind;
        tells = lives.told;
        output = d.output;
        goes = λ handle apart.
            ap (λ xs. on handle (parts_told l.session xs)) d.output
            ∙ (ap (on handle) (flat_map-append (part_told l.session) old.output (told d.log))
            ∙ (on_more handle (parts_told l.session old.output) (parts_told l.session (told d.log))
            ∙ ap (λ xs. on handle (parts_told l.session old.output) ++ xs) (brought handle l.session n t d.log d.link.side lives apart)));
      };
      apart = λ handle holds heard.
          let was = was_heard l d.link (own n d.log) d.parts d.went heard in
          subst (λ k. AreApart k l.session n d.log) (was.1 ∙ (ap (λ (s : Side). (link_in s).own.handle) is ∙ holds)) (d.apart heard);
    }
