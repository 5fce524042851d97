-- Deeds of the links one after another.
use Rattle.std.specs.Prelude.{◌≡◌, ℕ, nat_eq, Bool, true, false, List, [], ◌∷◌, ◌++◌, map, flat_map, Option, Some, None, if◌then◌else◌, refl}
use Rattle.std.proofs.Common.{sym, ◌∙◌, ap, subst, append_assoc, eq-eqb}
use Rattle.std.proofs.lemmas.Grind.{flat_map-append}
use Rattle.std.proofs.lemmas.List.{append-nil}
use Rattle.std.proofs.lemmas.List.Elements.{filter-append}
use Rattle.amqp_frames.specs.declared.body.FrameBody.{FrameBody}
use Rattle.amqp_parts.specs.declared.part.Part.{Part}
use Rattle.amqp_links.specs.amqp_link_calls.Called.{Called}
use Rattle.amqp_links.specs.amqp_link_calls.Side.{Side}
use Rattle.amqp_links.specs.Parts.{Told}
use Rattle.amqp_links.specs.State.{link_of}
use Rattle.amqp_sender.specs.Sender.{State as SenderState}
use Rattle.session_laws.specs.Messages.{Message, transfer_in, transfers, on}
use Rattle.session_laws.specs.Sending as sending
use Rattle.link_lives.specs.Deeds.{handed, all_handed, parts_for, parts_in, part_told, parts_told, part_wrote, IsApart, AreApart}
use Rattle.link_lives.specs.Laws.{LinksLive, OneSenderLives, OneReceiverLives}
use Rattle.link_lives.specs.Lives.{Event, Wrote, Sent, Answered, sender_tells, sender_told, SenderLives, ReceiverLives, Lives, Went}
use Rattle.link_lives.specs.Logs.{Entry, Of, Strayed, own, told_of, told, Fate}
use Rattle.link_lives.proofs.Going.{keeps_same, keeps_then, told_more}
use Rattle.link_lives.proofs.Deeds.{one_link_lives}

-- what went, and what is to go
pub both_go : (gave more new mid old xs ys : List Told) → gave ++ mid ≡ old ++ xs → more ++ new ≡ mid ++ ys → (gave ++ more) ++ new ≡ old ++ (xs ++ ys)
both_go gave more new mid old xs ys p q =
    append_assoc gave more new ∙ (ap (λ zs. gave ++ zs) q ∙ (sym (append_assoc gave mid ys) ∙ (ap (λ zs. zs ++ ys) p ∙ append_assoc old xs ys)))

pub links_live : LinksLive
links_live [] old new did =
    record {
      log = [];
      output = ap (λ s. s.output) did ∙ sym (append-nil old.output);
      each = λ n other free. keeps_same n old new (ap (λ s. s.sessions) did) (ap (λ s. s.endpoints) did) free;
    }
links_live (d ∷ ds) old new did =
    let mid = did.0 in
    let p = one_link_lives d old mid did.1.0 in
    let q = links_live ds mid new did.1.1 in
    record {
      log = p.log ++ q.log;
      output = both_go (handed d) (all_handed ds) new.output mid.output old.output (told p.log) (told q.log) p.output q.output ∙ ap (λ xs. old.output ++ xs) (sym (told_more p.log q.log));
      each = λ n other free.
          let k = p.each n other.0 free in
          keeps_then n old mid new p.log q.log (parts_for d old n) (parts_in mid ds new did.1.1 n) k (q.each n other.1 k.free);
    }

-- ---- the frames of a link

-- what was told of a link goes to its session
part_of_event : (session : ℕ) (e : Event) → flat_map (part_told session) (told_of e) ≡ part_wrote session e
part_of_event session (Wrote other x) = append-nil (if nat_eq other session then transfer_in x else [])
part_of_event session (Sent m) = refl
part_of_event session (Answered a) = refl

pub on_more : (handle : ℕ) (xs ys : List Part) → on handle (xs ++ ys) ≡ on handle xs ++ on handle ys
on_more handle xs ys = filter-append (λ (x : Part). nat_eq x.transfer.handle handle) xs ys

module _ (handle session n : ℕ) where
  -- the Transfers on the handle that an event brings
  brings : List Event → List Part
  brings es = on handle (flat_map (part_wrote session) es)

  brings_more : (es fs : List Event) → brings (es ++ fs) ≡ brings es ++ brings fs
  unfolding brings
  brings_more es fs = ap (on handle) (flat_map-append (part_wrote session) es fs) ∙ on_more handle (flat_map (part_wrote session) es) (flat_map (part_wrote session) fs)

  one_apart : (link : ℕ) (e : Event) (log : List Entry) → IsApart handle session n (Of link e) → on handle (parts_told session (told log)) ≡ brings (own n log)
      → on handle (parts_told session (told (Of link e ∷ log))) ≡ brings (own n (Of link e ∷ log))
  unfolding brings
  one_apart link e log apart h =
      ap (on handle) (flat_map-append (part_told session) (told_of e) (told log))
      ∙ (on_more handle (flat_map (part_told session) (told_of e)) (parts_told session (told log))
      ∙ (ap (λ xs. on handle xs ++ on handle (parts_told session (told log))) (part_of_event session e)
      ∙ (ap (λ xs. on handle (part_wrote session e) ++ xs) h ∙ by (nat_eq link n) refl)))
    where
      by : (b : Bool) → nat_eq link n ≡ b → on handle (part_wrote session e) ++ brings (own n log) ≡ brings (own n (Of link e ∷ log))
      by true g =
          let w = part_wrote session e in
          let rest = flat_map (part_wrote session) (own n log) in
          sym (on_more handle w rest) ∙ sym (ap (λ b. brings ((if b then e ∷ [] else []) ++ own n log)) g)
      by false g = ap (λ xs. xs ++ brings (own n log)) (apart g) ∙ sym (ap (λ b. brings ((if b then e ∷ [] else []) ++ own n log)) g)

  all_apart : (log : List Entry) → AreApart handle session n log → on handle (parts_told session (told log)) ≡ brings (own n log)
  unfolding brings
  all_apart [] h = refl
  all_apart (Of link e ∷ log) h = one_apart link e log h.0 (all_apart log h.1)
  all_apart (Strayed other ∷ log) h = all_apart log h.1

-- what a sender tells are the frames that it hands over
frames_bring : (handle session : ℕ) (xs : List FrameBody) → flat_map (part_wrote session) (map (Wrote session) xs) ≡ transfers xs
frames_bring handle session [] = refl
frames_bring handle session (x ∷ xs) =
    ap (λ b. (if b then transfer_in x else []) ++ flat_map (part_wrote session) (map (Wrote session) xs)) (eq-eqb session session refl) ∙ ap (λ ys. transfer_in x ++ ys) (frames_bring handle session xs)

sents_bring : (session : ℕ) (ms : List Message) → flat_map (part_wrote session) (map Sent ms) ≡ []
sents_bring session [] = refl
sents_bring session (m ∷ ms) = sents_bring session ms

move_brings : (session : ℕ) (s : SenderState) (m : sending.Move) → flat_map (part_wrote session) (sender_tells session s m) ≡ transfers (sending.handed s m)
move_brings session s sending.hands_over = frames_bring 0 session s.link.output
move_brings session s m = sents_bring session (sending.sent_by s m)

moves_bring : (session : ℕ) (s : SenderState) (ms : List sending.Move) → flat_map (part_wrote session) (sender_told session s ms) ≡ transfers (sending.handed_all s ms)
moves_bring session s [] = refl
moves_bring session s (m ∷ ms) =
    let t = sending.after s m in
    flat_map-append (part_wrote session) (sender_tells session s m) (sender_told session t ms)
    ∙ (ap (λ xs. xs ++ flat_map (part_wrote session) (sender_told session t ms)) (move_brings session s m)
    ∙ (ap (λ xs. transfers (sending.handed s m) ++ xs) (moves_bring session t ms) ∙ sym (flat_map-append transfer_in (sending.handed s m) (sending.handed_all t ms))))

-- ---- a sender, and a receiver

stands_as : (o p : Option Called) (l : Called) (es : List Event) (ps : List Part) → o ≡ Some l → Fate o es ps p → (m : Called) × ((p ≡ Some m) × Went l es ps m)
stands_as None p l es ps e f = absurd cc
stands_as (Some k) None l es ps e f = absurd f
stands_as (Some k) (Some m) l es ps e f = (m, (refl, subst (λ x. Went x es ps m) (some_same k l e) f))
  where
    some_same : (k l : Called) → Some k ≡ Some l → k ≡ l
    some_same k l h = cc

pub brought : (handle session n : ℕ) (s : SenderState) (log : List Entry) (t : Side) (v : SenderLives session s (own n log) t) → AreApart handle session n log
    → on handle (parts_told session (told log)) ≡ on handle (transfers (sending.handed_all s v.moves))
unfolding brings
brought handle session n s log t v apart =
    all_apart handle session n log apart ∙ ap (on handle) (ap (flat_map (part_wrote session)) v.told ∙ moves_bring session s v.moves)

pub one_sender_lives : OneSenderLives
one_sender_lives n l s ds old new did at is other free =
    let q = links_live ds old new did in
    let k = q.each n other free in
    let w = stands_as (link_of n old) (link_of n new) l (own n q.log) (parts_in old ds new did n) at k.fate in
    let m = w.0 in
    let lives : SenderLives l.session s (own n q.log) m.side = subst (λ a. Lives l.session a (own n q.log) (parts_in old ds new did n) m.side) is w.1.1.lives in
    record {
      log = q.log;
      moves = lives.moves;
      link = m;
      stands = w.1.0;
      on_session = w.1.1.session;
      behind = lives.behind;
      tells = lives.told;
      output = q.output;
      goes = λ handle apart.
          ap (λ xs. on handle (parts_told l.session xs)) q.output
          ∙ (ap (on handle) (flat_map-append (part_told l.session) old.output (told q.log))
          ∙ (on_more handle (parts_told l.session old.output) (parts_told l.session (told q.log))
          ∙ ap (λ xs. on handle (parts_told l.session old.output) ++ xs) (brought handle l.session n s q.log m.side lives apart)));
    }

pub one_receiver_lives : OneReceiverLives
one_receiver_lives n l s ds old new did at is other free =
    let q = links_live ds old new did in
    let k = q.each n other free in
    let w = stands_as (link_of n old) (link_of n new) l (own n q.log) (parts_in old ds new did n) at k.fate in
    let m = w.0 in
    let lives : ReceiverLives l.session s (own n q.log) (parts_in old ds new did n) m.side = subst (λ a. Lives l.session a (own n q.log) (parts_in old ds new did n) m.side) is w.1.1.lives in
    record {
      log = q.log;
      moves = lives.moves;
      link = m;
      stands = w.1.0;
      on_session = w.1.1.session;
      behind = lives.behind;
      tells = lives.told;
      read = lives.read;
      output = q.output;
    }
