-- A session hears what a session of the other end writes.
use Rattle.std.specs.Prelude.{◌≡◌, ℕ, nat_eq, Bool, true, false, List, [], ◌∷◌, ◌++◌, map, if◌then◌else◌, refl}
use Rattle.std.proofs.Common.{sym, ◌∙◌, ap, subst, append_assoc}
use Rattle.std.proofs.lemmas.List.{append_cancel_left, map-append}
use Rattle.std.proofs.lemmas.List.Elements.{filter-append}
use Rattle.amqp_frames.specs.declared.body.FrameBody.{FrameBody}
use Rattle.amqp_frames.specs.declared.body.FrameBody.TheVariants as b
use Rattle.amqp_frames.specs.Body.{read_again_body}
use Rattle.amqp_parts.specs.declared.part.Part.{Part}
use Rattle.amqp_performatives.specs.declared.begin.Begin.{Begin}
use Rattle.amqp_transport.specs.declared.frames.Frame.{Frame}
use Rattle.amqp_transport.specs.Kinds.{amqp_again}
use Rattle.amqp_peer.specs.Frames.{others_of}
use Rattle.amqp_words.specs.declared.step.End.{End as Side}
use Rattle.amqp_words.specs.declared.step.End.TheVariants.{Client, Listener}
use Rattle.amqp_calls.specs.declared.step.Step.{Step}
use Rattle.amqp_calls.specs.declared.trace.Entry.{Entry}
use Rattle.amqp_session.specs.State.{Framed}
use Rattle.amqp_sessions.specs.Parts.{EndpointState}
use Rattle.amqp_sessions.specs.State.{State as Sessions, none_begun}
use Rattle.amqp_end.specs.Deeds.{framed_of, heard_by, given_by}
use Rattle.amqp_world.specs.History.{other}
use Rattle.amqp_ends.specs.Streams.{IsFront as IsFrontOf}
use Rattle.amqp_session_world.specs.Carried.{AreCarried, life_in}
use Rattle.amqp_links.specs.State.{State as Links, no_links}
use Rattle.amqp_session_world.specs.Turn.{AreMade, accepts}
use Rattle.session_laws.specs.Handing.{heard}
use Rattle.session_laws.specs.Holding.{after_all, handed_all, transfers, written}
use Rattle.session_laws.specs.Messages.{transfer_in, on as on_handle}
use Rattle.session_lives.specs.Channels.{AllOn, on}
use Rattle.session_lives.specs.Deeds.{read_in, wrote_in, came_in}
use Rattle.session_lives.specs.Fronts.{others}
use Rattle.session_lives.specs.Laws.{SessionLives}
use Rattle.session_lives.specs.Lives.{moves}
use Rattle.session_lives.proofs.Fronts.{hears_the_first}
use Rattle.session_lives.proofs.Sound.{none_is_sound, sound_is_kept}
use Rattle.world_lives.specs.Lived.{Both, sessions_by, Moment, sessions_at, links_at, life}
use Rattle.world_lives.specs.Hearing.{are, IsKind, Listens, Speaks, read_before, written_before, SessionsHear}
use Rattle.world_lives.proofs.Joins.{sessions_by_more}
use Rattle.world_lives.proofs.Lived.{life_sessions}
use Rattle.world_lives.proofs.Again.{said, said_more, there_more, said_others, said_again}
use Rattle.world_lives.proofs.Carried.{read_more, wrote_more, life_read, life_wrote}

-- ---- fronts

-- the one begins the other
pub record Begins {X : Type 0} (some all : List X) : Type 0 where
  pub later : List X
  pub whole : some ++ later ≡ all

begins_then : {X : Type 0} (xs ys zs : List X) → Begins xs ys → Begins ys zs → Begins xs zs
begins_then xs ys zs p q = record { later = p.later ++ q.later; whole = sym (append_assoc xs p.later q.later) ∙ (ap (λ vs. vs ++ q.later) p.whole ∙ q.whole) }

-- What was read, the first of what was written: where before as much was read as was written or was to be, so it is since.
since : {X : Type 0} (read_then read_since later wrote_then wrote_since left was_left out : List X) → (read_then ++ read_since) ++ later ≡ wrote_then ++ wrote_since
    → wrote_since ++ left ≡ was_left ++ out → read_then ≡ wrote_then ++ was_left → Begins read_since out
since read_then read_since later wrote_then wrote_since left was_left out r w even = record {
  later = later ++ left;
  whole = append_cancel_left read_then (read_since ++ (later ++ left)) out
      (sym (append_assoc read_then read_since (later ++ left)) ∙ (sym (append_assoc (read_then ++ read_since) later left)
      ∙ (ap (λ vs. vs ++ left) r ∙ (append_assoc wrote_then wrote_since left ∙ (ap (λ vs. wrote_then ++ vs) w
      ∙ (sym (append_assoc wrote_then was_left out) ∙ ap (λ vs. vs ++ out) (sym even)))))));
}

-- ---- what is read off the frames of two sessions, those that are heard and those that are written

module _ {X : Type 0} (f g : FrameBody → List X) (again : (body : FrameBody) → f (read_again_body body) ≡ g body) (g_none : (x : Begin) → g (b.Begin x) ≡ []) where
  f_none : (x : Begin) → f (b.Begin x) ≡ []
  f_none x = again (b.Begin x) ∙ g_none x

  -- what came over the connection
  carried : (c : ℕ) (gave got later : List Frame) → got ++ later ≡ map amqp_again (others_of gave) → said f (on c (map framed_of got)) ++ said f (on c (map framed_of later)) ≡ said g (on c (map framed_of gave))
  carried c gave got later h =
      sym (ap (λ (xs : List Framed). said f (on c xs)) (map-append framed_of got later) ∙ there_more f c (map framed_of got) (map framed_of later))
      ∙ (ap (λ (xs : List Frame). said f (on c (map framed_of xs))) h ∙ said_again f g again g_none c gave)

  -- the same up to a moment and from it on
  halves : (c : ℕ) (none none' : Links) (all all' : List Both) (last last' : Sessions) (end end' : Links) (p : Moment none all last end) (q : Moment none' all' last' end') (later : List X)
      → said f (on c (read_in (sessions_by all))) ++ later ≡ said g (on c (wrote_in (sessions_by all')))
      → (said f (on c (read_in (sessions_by p.before))) ++ said f (on c (read_in (sessions_by p.since)))) ++ later
      ≡ said g (on c (wrote_in (sessions_by q.before))) ++ said g (on c (wrote_in (sessions_by q.since)))
  halves c none none' all all' last last' end end' p q later h =
      ap (λ (xs : List X). xs ++ later)
      (sym (there_more f c (read_in (sessions_by p.before)) (read_in (sessions_by p.since)))
      ∙ (ap (λ (xs : List Framed). said f (on c xs)) (sym (ap read_in (sessions_by_more p.before p.since) ∙ read_more (sessions_by p.before) (sessions_by p.since)))
      ∙ ap (λ (xs : List Both). said f (on c (read_in (sessions_by xs)))) p.whole))
      ∙ (h ∙ (ap (λ (xs : List Both). said g (on c (wrote_in (sessions_by xs)))) (sym q.whole)
      ∙ (ap (λ (xs : List Framed). said g (on c xs)) (ap wrote_in (sessions_by_more q.before q.since) ∙ wrote_more (sessions_by q.before) (sessions_by q.since))
      ∙ there_more g c (wrote_in (sessions_by q.before)) (wrote_in (sessions_by q.since)))))

  -- what a session hears is the first of what is read on its peer's channel
  hears : (c n : ℕ) (y : EndpointState) (none : Links) (all : List Both) (last : Sessions) (end : Links) (p : Moment none all last end) (l : SessionLives n y (sessions_by p.since) p.sessions last p.goes.sessions_did)
      → Listens c n y none all last end p → Begins (said f (heard (moves l.steps))) (said f (on c (read_in (sessions_by p.since))))
  hears c n y none all last end p l s =
      let sound = sound_is_kept (sessions_by p.before) none_begun p.sessions p.came.sessions_did s.named.before none_is_sound in
      let k = hears_the_first c n y (sessions_by p.since) p.sessions last p.goes.sessions_did sound s.named.since s.other s.stands s.joined in
      let got = (came_in p.sessions (sessions_by p.since) last p.goes.sessions_did n).heard in
      record {
        later = said f k.later;
        whole =
            ap (λ (xs : List Framed). said f xs ++ said f k.later) l.hears
            ∙ (ap (λ (xs : List X). xs ++ said f k.later) (sym (said_others f f_none got))
            ∙ (sym (said_more f (others got) k.later) ∙ (ap (said f) k.all ∙ said_others f f_none (on c (read_in (sessions_by p.since))))));
      }

  -- what it writes, on its channel
  speaks : (c v : ℕ) (x : EndpointState) (none : Links) (all : List Both) (last : Sessions) (end : Links) (q : Moment none all last end) (a : SessionLives v x (sessions_by q.since) q.sessions last q.goes.sessions_did)
      → Speaks c v x none all last end q a
      → said g (on c (wrote_in (sessions_by q.since))) ++ said g (on c last.output) ≡ said g (on c q.sessions.output) ++ said g (handed_all x.session (moves a.steps))
  speaks c v x none all last end q a s =
      let sound = sound_is_kept (sessions_by q.before) none_begun q.sessions q.came.sessions_did s.named.before none_is_sound in
      let own : AllOn c x.session.output = subst (λ (k : ℕ). AllOn k x.session.output) s.channel (sound.speaks v x s.stands) in
      sym (said_more g (on c (wrote_in (sessions_by q.since))) (on c last.output))
      ∙ (ap (said g) (a.speaks c s.channel own s.apart) ∙ said_more g (on c q.sessions.output) (handed_all x.session (moves a.steps)))

  facing : (c n v : ℕ) (y x : EndpointState) (none none' : Links) (all all' : List Both) (last last' : Sessions) (end end' : Links) (p : Moment none all last end) (q : Moment none' all' last' end')
      (l : SessionLives n y (sessions_by p.since) p.sessions last p.goes.sessions_did) (a : SessionLives v x (sessions_by q.since) q.sessions last' q.goes.sessions_did)
      → Listens c n y none all last end p → Speaks c v x none' all' last' end' q a
      → (later : List X) → said f (on c (read_in (sessions_by all))) ++ later ≡ said g (on c (wrote_in (sessions_by all')))
      → said f (read_before c none all last end p) ≡ said g (written_before c none' all' last' end' q)
      → Begins (said f (heard (moves l.steps))) (said g (written x.session (moves a.steps)))
  facing c n v y x none none' all all' last last' end end' p q l a listens talks later whole even =
      let read_then = said f (on c (read_in (sessions_by p.before))) in
      let read_since = said f (on c (read_in (sessions_by p.since))) in
      let wrote_then = said g (on c (wrote_in (sessions_by q.before))) in
      let wrote_since = said g (on c (wrote_in (sessions_by q.since))) in
      let was_left = said g (on c q.sessions.output) in
      let out = said g (handed_all x.session (moves a.steps)) in
      let left = (after_all x.session (moves a.steps)).output in
      let got = said f (heard (moves l.steps)) in
      let gave = said g (written x.session (moves a.steps)) in
      let k : Begins read_since out =
      since read_then read_since later wrote_then wrote_since (said g (on c last'.output)) was_left out (halves c none none' all all' last last' end end' p q later whole) (speaks c v x none' all' last' end' q a talks)
      (even ∙ there_more g c (wrote_in (sessions_by q.before)) q.sessions.output) in
      let behind : Begins out gave = record { later = said g left; whole = sym (said_more g (handed_all x.session (moves a.steps)) left) } in
      begins_then got out gave (begins_then got read_since out (hears c n y none all last end p l listens) k) behind

-- ---- the frames of a kind

abbrev chosen : (FrameBody → Bool) → FrameBody → List FrameBody
chosen kind body = if kind body then body ∷ [] else []

abbrev as_read : (FrameBody → Bool) → FrameBody → List FrameBody
as_read kind body = if kind body then read_again_body body ∷ [] else []

chosen_again : (kind : FrameBody → Bool) → IsKind kind → (body : FrameBody) → chosen kind (read_again_body body) ≡ as_read kind body
chosen_again kind is body = ap (λ (t : Bool). if t then read_again_body body ∷ [] else []) (is.again body)

as_read_none : (kind : FrameBody → Bool) → IsKind kind → (x : Begin) → as_read kind (b.Begin x) ≡ []
as_read_none kind is x = ap (λ (t : Bool). if t then read_again_body (b.Begin x) ∷ [] else []) (is.begins x)

as_read_all : (kind : FrameBody → Bool) (xs : List Framed) → said (as_read kind) xs ≡ map read_again_body (are kind xs)
as_read_all kind [] = refl
as_read_all kind (x ∷ xs) = by (kind x.body) (as_read_all kind xs)
  where
    by : (t : Bool) → said (as_read kind) xs ≡ map read_again_body (are kind xs)
        → (if t then read_again_body x.body ∷ [] else []) ++ said (as_read kind) xs ≡ map read_again_body ((if t then x.body ∷ [] else []) ++ are kind xs)
    by true rest = ap (λ (ys : List FrameBody). read_again_body x.body ∷ ys) rest
    by false rest = rest

-- ---- the Transfers on a handle

abbrev pub on_it : ℕ → FrameBody → List Part
on_it handle body = on_handle handle (transfer_in body)

pub on_it_again : (handle : ℕ) (body : FrameBody) → on_it handle (read_again_body body) ≡ on_it handle body
on_it_again handle (b.Open x) = refl
on_it_again handle (b.Begin x) = refl
on_it_again handle (b.Attach x) = refl
on_it_again handle (b.Flow x) = refl
on_it_again handle (b.Transfer x y) = refl
on_it_again handle (b.Disposition x) = refl
on_it_again handle (b.Detach x) = refl
on_it_again handle (b.End x) = refl
on_it_again handle (b.Close x) = refl
on_it_again handle b.Empty = refl

pub on_it_all : (handle : ℕ) (xs : List Framed) → said (on_it handle) xs ≡ on_handle handle (transfers xs)
on_it_all handle [] = refl
on_it_all handle (x ∷ xs) =
    ap (λ (ys : List Part). on_it handle x.body ++ ys) (on_it_all handle xs) ∙ sym (filter-append (λ (z : Part). nat_eq z.transfer.handle handle) (transfer_in x.body) (transfers xs))

-- ---- both ends

-- what the sessions of an end read came over the connection
pub came_by : {X : Type 0} (f g : FrameBody → List X) → ((body : FrameBody) → f (read_again_body body) ≡ g body) → ((x : Begin) → g (b.Begin x) ≡ [])
    → (c : ℕ) (e : Side) (steps : List Step) (entries : List Entry) (m : AreMade steps entries)
    → IsFrontOf (heard_by (life_in e steps entries m).deeds) (map amqp_again (others_of (given_by (life_in (other e) steps entries m).deeds)))
    → Begins (said f (on c (read_in (sessions_by (life e steps entries m))))) (said g (on c (wrote_in (sessions_by (life (other e) steps entries m)))))
came_by {X} f g again none c e steps entries m r =
    let near = life_in e steps entries m in
    let far = life_in (other e) steps entries m in
    record {
      later = said f (on c (map framed_of r.0));
      whole =
          ap (λ (xs : List Framed). said f (on c xs) ++ said f (on c (map framed_of r.0))) (ap read_in (life_sessions e steps entries m) ∙ life_read near.deeds)
          ∙ (carried f g again none c (given_by far.deeds) (heard_by near.deeds) r.0 r.1
          ∙ ap (λ (xs : List Framed). said g (on c xs)) (sym (ap wrote_in (life_sessions (other e) steps entries m) ∙ life_wrote far.deeds)));
    }

came : {X : Type 0} (f g : FrameBody → List X) → ((body : FrameBody) → f (read_again_body body) ≡ g body) → ((x : Begin) → g (b.Begin x) ≡ [])
    → (c : ℕ) (e : Side) (steps : List Step) (entries : List Entry) (k : AreCarried steps entries)
    → Begins (said f (on c (read_in (sessions_by (life e steps entries k.made))))) (said g (on c (wrote_in (sessions_by (life (other e) steps entries k.made)))))
came {X} f g again none c e steps entries k = came_by f g again none c e steps entries k.made (heard_at e)
  where
    heard_at : (d : Side) → IsFrontOf (heard_by (life_in d steps entries k.made).deeds) (map amqp_again (others_of (given_by (life_in (other d) steps entries k.made).deeds)))
    heard_at Client = k.client.heard
    heard_at Listener = k.listener.heard

pub sessions_hear : SessionsHear
sessions_hear e steps entries k c p n y l q v x a listens talks =
    let none = no_links (accepts e) in
    let none' = no_links (accepts (other e)) in
    let all = life e steps entries k.made in
    let all' = life (other e) steps entries k.made in
    let last = sessions_at e k.made.view in
    let last' = sessions_at (other e) k.made.view in
    let end = links_at e k.made.view in
    let end' = links_at (other e) k.made.view in
    let read_then = read_before c none all last end p in
    let wrote_then = written_before c none' all' last' end' q in
    let got = heard (moves l.steps) in
    let gave = written x.session (moves a.steps) in
    record {
      frames = λ kind is even.
          let w = came (chosen kind) (as_read kind) (chosen_again kind is) (as_read_none kind is) c e steps entries k in
          let h = facing (chosen kind) (as_read kind) (chosen_again kind is) (as_read_none kind is) c n v y x none none' all all' last last' end end' p q l a listens talks w.later w.whole
          (even ∙ sym (as_read_all kind wrote_then)) in
          record { later = h.later; whole = h.whole ∙ as_read_all kind gave };
      parts = λ handle even.
          let w = came (on_it handle) (on_it handle) (on_it_again handle) (λ z. refl) c e steps entries k in
          let h = facing (on_it handle) (on_it handle) (on_it_again handle) (λ z. refl) c n v y x none none' all all' last last' end end' p q l a listens talks w.later w.whole
          (on_it_all handle read_then ∙ (even ∙ sym (on_it_all handle wrote_then))) in
          record { rest = h.later; front = ap (λ (xs : List Part). xs ++ h.later) (sym (on_it_all handle got)) ∙ (h.whole ∙ on_it_all handle gave) };
    }
