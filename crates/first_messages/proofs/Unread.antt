-- Where no Transfer on a handle was read on a channel, the session that the peer has begun on that has none for its links.
use Rattle.std.specs.Prelude.{◌≡◌, ◌⊎◌, ℕ, nat_eq, Bool, true, false, List, [], ◌∷◌, ◌++◌, Option, Some, None, if◌then◌else◌, refl}
use Rattle.std.proofs.Common.{inl, inr, sym, ◌∙◌, ap, subst}
use Rattle.std.proofs.lemmas.Bool.{eqb-true}
use Rattle.std.proofs.lemmas.Grind.{flat_map-append}
use Rattle.std.specs.Map.{lookup}
use Rattle.amqp_frames.specs.declared.body.FrameBody.{FrameBody}
use Rattle.amqp_frames.specs.declared.body.FrameBody.TheVariants as b
use Rattle.amqp_sessions.specs.amqp_calls.declared.call.SessionNumbers.{SessionNumbers}
use Rattle.amqp_frames.specs.declared.shared.IncomingSession.{IncomingSession}
use Rattle.amqp_parts.specs.declared.part.Part.{Part}
use Rattle.amqp_session.specs.declared.session.LinkInput.{LinkInput}
use Rattle.amqp_session.specs.Begin as session
use Rattle.amqp_session.specs.State.{State as Session, Framed}
use Rattle.amqp_sessions.specs.Calls.{settings}
use Rattle.amqp_sessions.specs.Frames.{answered_channel, place_of, heard, heard_all, heard_early_at}
use Rattle.amqp_sessions.specs.Parts.{EndpointState, idle}
use Rattle.amqp_sessions.specs.State.{State, none_begun, endpoint_of}
use Rattle.session_laws.specs.Handing.{transfer_in as input_in, inputs, taken_by, taken, heard as heard_in}
use Rattle.session_laws.specs.Holding.{after, after_all, transfers}
use Rattle.session_laws.specs.Messages.{transfer_in, on as on_handle}
use Rattle.session_lives.specs.Channels.{IsJoined, on_if, on}
use Rattle.session_lives.specs.Deeds.{Deed, Begins, Awaits, Accepts, Refuses, Ends, HandsOut, Halts, Concludes, Hears, Writes, Frees, Gives, Takes, Lacks, Tells, IsDeed, Did, read_of, read_in, gave_in, where_there, hears_if, hears_by, hears_all, early_at, joining, heard_of, came_of, came_in, AreOther}
use Rattle.session_lives.specs.Lives.{Step, Makes, Closes, moves, given, Share, Lives}
use Rattle.session_lives.specs.Logs.{AreKeyed, own, Came, share}
use Rattle.session_lives.specs.Sound.{AreSound, IsNewIn, AreNewIn}
use Rattle.session_lives.proofs.Tables.{insert_other}
use Rattle.session_lives.proofs.Deeds.{one_session_lives, sessions_live, none_is_keyed}
use Rattle.session_lives.proofs.Sound.{stood, heard_sound, without_early, early_removed, joining_sound, one_sound, none_is_sound, hears_its_own, IsPlain}
use Rattle.first_messages.proofs.Deaf.{hands_none}
use Rattle.first_messages.proofs.Lists.{none_both, none_left, none_right}
use Rattle.first_messages.specs.Reading.{IsMadeOnce, NoneIsRead}
use Rattle.first_messages.proofs.Each.{AllOf, AllNamed, Stays, AllMay, IsBorn, AllBorn, all_grow}
use Rattle.first_messages.proofs.Early.{IsBare, bare_as, heard_bare, heard_all_bare, without_bare, plain_early}
use Rattle.first_messages.proofs.None.{IsNone, frames_none, one_none}

-- ---- frames

on_more : (c : ℕ) (xs ys : List Framed) → on c (xs ++ ys) ≡ on c xs ++ on c ys
on_more c xs ys = flat_map-append (on_if c) xs ys

-- a Begin that answers one is no Transfer
answering_none : (body : FrameBody) (c : ℕ) → answered_channel body ≡ Some c → transfer_in body ≡ []
answering_none (b.Begin x) c e = refl
answering_none (b.Open x) c e = absurd cc
answering_none (b.Attach x) c e = absurd cc
answering_none (b.Flow x) c e = absurd cc
answering_none (b.Transfer x y) c e = absurd cc
answering_none (b.Disposition x) c e = absurd cc
answering_none (b.Detach x) c e = absurd cc
answering_none (b.End x) c e = absurd cc
answering_none (b.Close x) c e = absurd cc
answering_none b.Empty c e = absurd cc

-- frames are heard one after another
abbrev hears_of : List Framed → List Deed
hears_of [] = []
hears_of (x ∷ xs) = Hears x ∷ hears_of xs

hears_did : (xs : List Framed) (s : State) → Did s (hears_of xs) (heard_all xs s)
hears_did [] s = refl
hears_did (x ∷ xs) s = (heard x s, (refl, hears_did xs (heard x s)))

hears_other : (n : ℕ) (xs : List Framed) → AreOther n (hears_of xs)
hears_other n [] = tt
hears_other n (x ∷ xs) = (tt, hears_other n xs)

module _ (c handle w : ℕ) where
  -- ---- one session

  -- that of the name has no Transfer on the handle for its links
  abbrev IsQuiet : ℕ → Session → Type 0
  IsQuiet n s = n ≡ w → on_handle handle (inputs s.incoming) ≡ []

  abbrev Any : Framed → Type 0
  Any x = Unit {0}

  abbrev IsNoPart : ℕ → LinkInput → Type 0
  IsNoPart n x = n ≡ w → on_handle handle (input_in x) ≡ []

  abbrev MayCome : ℕ → Came → Type 0
  MayCome n x = n ≡ w → on_handle handle (transfers x.heard) ≡ []

  any_all : (xs : List Framed) → AllOf Any xs
  any_all [] = tt
  any_all (x ∷ xs) = (tt, any_all xs)

  inputs_none : (n : ℕ) (xs : List LinkInput) → (n ≡ w → on_handle handle (inputs xs) ≡ []) → AllOf (IsNoPart n) xs
  inputs_none n [] h = tt
  inputs_none n (x ∷ xs) h = (λ e. none_left handle (input_in x) (inputs xs) (h e), inputs_none n xs (λ e. none_right handle (input_in x) (inputs xs) (h e)))

  -- what it gives its links is what its moves take off, but for the word that nothing more comes
  given_taken : (s : Session) (xs : List Step) → inputs (given s xs) ≡ inputs (taken s (moves xs))
  given_taken s [] = refl
  given_taken s (Makes m ∷ xs) =
      let t = after s m in
      flat_map-append input_in (taken_by s m) (given t xs) ∙ (ap (λ (ys : List Part). inputs (taken_by s m) ++ ys) (given_taken t xs) ∙ sym (flat_map-append input_in (taken_by s m) (taken t (moves xs))))
  given_taken s (Closes ∷ xs) = given_taken s xs

  record StaysDeaf (s : Session) (xs : List Step) : Type 0 where
    deaf : on_handle handle (inputs (after_all s (moves xs)).incoming) ≡ []
    gave : on_handle handle (inputs (given s xs)) ≡ []

  stays_deaf : (s : Session) (xs : List Step) → on_handle handle (transfers (heard_in (moves xs))) ≡ [] → on_handle handle (inputs s.incoming) ≡ [] → StaysDeaf s xs
  stays_deaf s xs n k =
      let ms = moves xs in
      let out = (after_all s ms).incoming in
      let all = ap (on_handle handle) (sym (flat_map-append input_in (taken s ms) out)) ∙ hands_none handle s ms n k in
      record {
        deaf = none_right handle (inputs (taken s ms)) (inputs out) all;
        gave = ap (on_handle handle) (given_taken s xs) ∙ none_left handle (inputs (taken s ms)) (inputs out) all;
      }

  quiet_stays : (n : ℕ) (s t : Session) (x : Came) (f : List Framed) (g : List LinkInput) → IsQuiet n s → MayCome n x → Lives s (share x f g) t → Stays IsQuiet Any IsNoPart n f g t
  quiet_stays n s t x f g k may l =
      let came : x.heard ≡ heard_in (moves l.steps) = ap (λ (b : Share). b.heard) l.share in
      let gave : g ≡ given s l.steps = ap (λ (b : Share). b.gave) l.share in
      let goes : n ≡ w → StaysDeaf s l.steps = (λ e. stays_deaf s l.steps (ap (λ (xs : List Framed). on_handle handle (transfers xs)) (sym came) ∙ may e) (k e)) in
      record {
        wrote = any_all f;
        gave = subst (λ (xs : List LinkInput). AllOf (IsNoPart n) xs) (sym gave) (inputs_none n (given s l.steps) (λ e. let q = goes e in q.gave));
        good = λ e. let q = goes e in ap (λ (z : Session). on_handle handle (inputs z.incoming)) l.behind ∙ q.deaf;
      }

  one_born : (d : Deed) → IsBorn IsQuiet d
  one_born (Begins name x channel limit) = λ e. refl
  one_born (Accepts name x channel limit incoming) = λ e. refl
  one_born (Awaits name x) = tt
  one_born (Refuses name why) = tt
  one_born (Ends name session condition) = tt
  one_born (HandsOut name) = tt
  one_born (Halts why) = tt
  one_born (Concludes why) = tt
  one_born (Hears x) = tt
  one_born (Writes x) = tt
  one_born (Frees channel) = tt
  one_born (Gives session x) = tt
  one_born (Takes session x) = tt
  one_born (Lacks session) = tt
  one_born Tells = tt

  all_born : (ds : List Deed) → AllBorn IsQuiet ds
  all_born [] = tt
  all_born (d ∷ ds) = (one_born d, all_born ds)

  -- ---- it stands, on that channel of the peer if on one

  record Comes (s : State) : Type 0 where
    e : EndpointState
    at : endpoint_of w s ≡ Some e
    on_it : (k : ℕ) → IsJoined k e.session → k ≡ c

  same_there : (e f : EndpointState) → Some e ≡ Some f → e ≡ f
  same_there e f h = cc

  -- as it was before
  came_back : (ds : List Deed) (s t : State) (did : Did s ds t) → AreKeyed s → AreOther w ds → Comes t → Comes s
  came_back ds s t did keyed other k =
      let g = sessions_live ds s t did keyed in
      let was = stood (λ m. share (came_in s ds t did m) (own m g.wrote) (own m g.gave)) s t w k.e (g.each w other) k.at in
      record { e = was.before; at = was.at; on_it = λ j is. k.on_it j (was.keeps.joined j is) }

  on_its : (s : State) (e : EndpointState) (k : ℕ) → Comes s → endpoint_of w s ≡ Some e → IsJoined k e.session → k ≡ c
  on_its s e k q at is = q.on_it k (subst (λ (f : EndpointState). IsJoined k f.session) (same_there e q.e (sym at ∙ q.at)) is)

  -- ---- what it hears

  -- of a frame that is none on the channel, none
  hears_none : (x : Framed) (s : State) → AreSound s → ((e : EndpointState) → endpoint_of w s ≡ Some e → Comes s) → IsNone handle c x → on_handle handle (transfers (hears_by x s w)) ≡ []
  hears_none x s sound comes n = by (endpoint_of w s) refl
    where
      of : (e : EndpointState) → endpoint_of w s ≡ Some e → (answered_channel x.body ≡ Some e.session.channel) ⊎ ((answered_channel x.body ≡ None) × IsJoined x.channel e.session) → on_handle handle (transfer_in x.body) ≡ []
      of e at (inl a) = ap (on_handle handle) (answering_none x.body e.session.channel a)
      of e at (inr b) = n (on_its s e x.channel (comes e at) at b.1)

      itself : (e : EndpointState) → endpoint_of w s ≡ Some e → place_of x s ≡ Some w → on_handle handle (transfer_in x.body) ≡ []
      itself e at place = of e at (hears_its_own w e x s sound at place)

      led : (e : EndpointState) → endpoint_of w s ≡ Some e → (name : ℕ) → place_of x s ≡ Some name → (b : Bool) → nat_eq w name ≡ b → on_handle handle (transfers (if b then x ∷ [] else [])) ≡ []
      led e at name place true h = none_both handle (transfer_in x.body) [] (itself e at (place ∙ ap Some (sym (eqb-true w name h)))) refl
      led e at name place false h = refl

      there : (e : EndpointState) → endpoint_of w s ≡ Some e → (p : Option ℕ) → place_of x s ≡ p → on_handle handle (transfers (hears_if p w x)) ≡ []
      there e at None place = refl
      there e at (Some name) place = led e at name place (nat_eq w name) refl

      by : (o : Option EndpointState) → endpoint_of w s ≡ o → on_handle handle (transfers (where_there o (hears_if (place_of x s) w x))) ≡ []
      by None at = refl
      by (Some e) at = there e at (place_of x s) refl

  -- of such frames, none
  all_none : (xs : List Framed) (s : State) → AreSound s → AllOf (IsNone handle c) xs → ((e : EndpointState) → endpoint_of w s ≡ Some e → Comes (heard_all xs s)) → on_handle handle (transfers (hears_all xs s w)) ≡ []
  all_none [] s sound n comes = refl
  all_none (x ∷ xs) s sound n comes =
      let t = heard x s in
      let here = hears_none x s sound (λ e at. came_back (hears_of (x ∷ xs)) s (heard_all (x ∷ xs) s) (hears_did (x ∷ xs) s) sound.keyed (hears_other w (x ∷ xs)) (comes e at)) n.0 in
      let g = one_session_lives (Hears x) s t refl sound.keyed in
      let rest = all_none xs t (heard_sound x s sound) n.1
      (λ f at. let was = stood (λ m. share (came_of (Hears x) s m) (own m g.wrote) (own m g.gave)) s t w f (g.each w tt) at in comes was.before was.at) in
      ap (on_handle handle) (flat_map-append (λ (y : Framed). transfer_in y.body) (hears_by x s w) (hears_all xs t w))
      ∙ none_both handle (transfers (hears_by x s w)) (transfers (hears_all xs t w)) here rest

  -- ---- a session is accepted

  module _ (name : ℕ) (x : SessionNumbers) (channel limit : ℕ) (incoming : IncomingSession) (old new : State) (sound : AreSound (joining name x channel limit incoming old)) (bare : IsBare c handle old)
      (comes : (e : EndpointState) → endpoint_of w (joining name x channel limit incoming old) ≡ Some e → Comes new) where
    abbrev remote : ℕ
    remote = incoming.channel

    abbrev met : State
    met = joining name x channel limit incoming old

    taken_none : (xs : List Framed) → lookup (nat_eq remote) met.early ≡ Some xs → AllOf (IsNone handle c) xs
    taken_none xs at = frames_none handle c remote xs (sound.early remote xs at) (λ e. bare xs (ap (λ (k : ℕ). lookup (nat_eq k) met.early) (sym e) ∙ at))

    early_none : (o : Option (List Framed)) → lookup (nat_eq remote) met.early ≡ o → new ≡ heard_early_at o remote met → on_handle handle (transfers (early_at o remote met w)) ≡ []
    early_none None at h = refl
    early_none (Some xs) at h = all_none xs (without_early remote met) (early_removed remote met sound) (taken_none xs at) (λ e there. subst (λ (s : State). Comes s) h (comes e there))

    early_bare : (o : Option (List Framed)) → lookup (nat_eq remote) met.early ≡ o → new ≡ heard_early_at o remote met → IsBare c handle new
    early_bare None at h = subst (λ (s : State). IsBare c handle s) (sym h) bare
    early_bare (Some xs) at h =
        subst (λ (s : State). IsBare c handle s) (sym h)
        (heard_all_bare c handle xs (without_early remote met) (taken_none xs at) (without_bare c handle remote met sound.kept bare))

  -- ---- one deed

  -- where the session stands behind the later deeds, and where it is not made again
  record Deeded (d : Deed) (old new : State) : Type 0 where
    heard : on_handle handle (transfers (heard_of d old w)) ≡ []
    bare : IsBare c handle new

  plain_deeded : (d : Deed) (old new : State) → IsDeed old d new → IsPlain d → heard_of d old w ≡ [] → IsBare c handle old → Deeded d old new
  plain_deeded d old new h plain none bare = record { heard = ap (λ xs. on_handle handle (transfers xs)) none; bare = bare_as c handle old new (plain_early d old new h plain) bare }

  -- the session, where it stands, is not made again
  abbrev Rests : State → List Deed → Type 0
  Rests s ds = (e : EndpointState) → endpoint_of w s ≡ Some e → AreOther w ds

  made_none : (ds : List Deed) → AreOther w ds → IsMadeOnce w ds
  made_none [] o = tt
  made_none (d ∷ ds) o = inl (o.0, made_none ds o.1)

  once_then : (d : Deed) (ds : List Deed) → IsMadeOnce w (d ∷ ds) → IsMadeOnce w ds
  once_then d ds (inl h) = h.1
  once_then d ds (inr o) = made_none ds o

  rests_then : (d : Deed) (ds : List Deed) (old new : State) → IsDeed old d new → AreKeyed old → IsMadeOnce w (d ∷ ds) → Rests old (d ∷ ds) → Rests new ds
  rests_then d ds old new h keyed (inr o) rests e at = o
  rests_then d ds old new h keyed (inl q) rests e at =
      let g = one_session_lives d old new h keyed in
      let was = stood (λ m. share (came_of d old m) (own m g.wrote) (own m g.gave)) old new w e (g.each w q.0) at in
      (rests was.before was.at).1

  -- a session that is met
  met_rests : (name : ℕ) (x : SessionNumbers) (channel limit : ℕ) (incoming : IncomingSession) (old : State) (ds : List Deed) → IsMadeOnce w (Accepts name x channel limit incoming ∷ ds) → Rests old (Accepts name x channel limit incoming ∷ ds)
      → Rests (joining name x channel limit incoming old) ds
  met_rests name x channel limit incoming old ds (inr o) rests e at = o
  met_rests name x channel limit incoming old ds (inl q) rests e at = (rests e (sym (insert_other name w (idle (session.accepted (settings x limit) channel incoming)) old.endpoints q.0) ∙ at)).1

  one_deeded : (d : Deed) (ds : List Deed) (old new last : State) → (h : IsDeed old d new) → (did : Did new ds last) → AreSound old → IsNewIn d old → AreKeyed new → IsMadeOnce w (d ∷ ds) → Rests old (d ∷ ds)
      → on_handle handle (transfers (on c (read_of d))) ≡ [] → IsBare c handle old → Comes last → Deeded d old new
  one_deeded (Hears x) ds old new last h did sound fresh keyed k o read bare comes =
      let n = one_none handle c x read in
      record {
        heard = hears_none x old sound (λ e at. came_back (Hears x ∷ ds) old last (new, (h, did)) sound.keyed (o e at) comes) n;
        bare = subst (λ (s : State). IsBare c handle s) (sym h) (heard_bare c handle x old n bare);
      }
  one_deeded (Accepts name x channel limit incoming) ds old new last h did sound fresh keyed k o read bare comes =
      let u = joining name x channel limit incoming old in
      let met = joining_sound name x channel limit incoming old sound fresh in
      let back : (e : EndpointState) → endpoint_of w u ≡ Some e → Comes new = (λ e at. came_back ds new last did keyed (met_rests name x channel limit incoming old ds k o e at) comes) in
      let early = lookup (nat_eq incoming.channel) u.early in
      record {
        heard = early_none name x channel limit incoming old new met bare back early refl h;
        bare = early_bare name x channel limit incoming old new met bare back early refl h;
      }
  one_deeded (Begins name x channel limit) ds old new last h did sound fresh keyed k o read bare comes = record { heard = refl; bare = subst (λ (s : State). IsBare c handle s) (sym h) bare }
  one_deeded (Awaits name x) ds old new last h did sound fresh keyed k o read bare comes = plain_deeded (Awaits name x) old new h tt refl bare
  one_deeded (Refuses name why) ds old new last h did sound fresh keyed k o read bare comes = plain_deeded (Refuses name why) old new h tt refl bare
  one_deeded (Ends name session condition) ds old new last h did sound fresh keyed k o read bare comes = plain_deeded (Ends name session condition) old new h tt refl bare
  one_deeded (HandsOut name) ds old new last h did sound fresh keyed k o read bare comes = plain_deeded (HandsOut name) old new h tt refl bare
  one_deeded (Halts why) ds old new last h did sound fresh keyed k o read bare comes = plain_deeded (Halts why) old new h tt refl bare
  one_deeded (Concludes why) ds old new last h did sound fresh keyed k o read bare comes = plain_deeded (Concludes why) old new h tt refl bare
  one_deeded (Writes x) ds old new last h did sound fresh keyed k o read bare comes = plain_deeded (Writes x) old new h tt refl bare
  one_deeded (Frees channel) ds old new last h did sound fresh keyed k o read bare comes = plain_deeded (Frees channel) old new h tt refl bare
  one_deeded (Gives session x) ds old new last h did sound fresh keyed k o read bare comes = plain_deeded (Gives session x) old new h tt refl bare
  one_deeded (Takes session x) ds old new last h did sound fresh keyed k o read bare comes = plain_deeded (Takes session x) old new h tt refl bare
  one_deeded (Lacks session) ds old new last h did sound fresh keyed k o read bare comes = plain_deeded (Lacks session) old new h tt refl bare
  one_deeded Tells ds old new last h did sound fresh keyed k o read bare comes = plain_deeded Tells old new h tt refl bare

  -- ---- from the start

  all_may : (ds : List Deed) (old new : State) (did : Did old ds new) → AreSound old → AreNewIn old ds new did → IsMadeOnce w ds → Rests old ds
      → on_handle handle (transfers (on c (read_in ds))) ≡ [] → IsBare c handle old → Comes new → AllMay MayCome old ds new did
  all_may [] old new did sound fresh k o read bare comes = tt
  all_may (d ∷ ds) old new did sound fresh k o read bare comes =
      let mid = did.0 in
      let after = one_sound d old mid did.1.0 fresh.0 sound in
      let split = ap (on_handle handle) (sym (flat_map-append (λ (x : Framed). transfer_in x.body) (on c (read_of d)) (on c (read_in ds))) ∙ ap transfers (sym (on_more c (read_of d) (read_in ds)))) ∙ read in
      let first = none_left handle (transfers (on c (read_of d))) (transfers (on c (read_in ds))) split in
      let later = none_right handle (transfers (on c (read_of d))) (transfers (on c (read_in ds))) split in
      let one = one_deeded d ds old mid new did.1.0 did.1.1 sound fresh.0 after.keyed k o first bare comes in
      (λ n is. subst (λ (m : ℕ). on_handle handle (transfers (heard_of d old m)) ≡ []) (sym is) one.heard, all_may ds mid new did.1.1 after fresh.1 (once_then d ds k) (rests_then d ds old mid did.1.0 sound.keyed k o) later one.bare comes)

  own_none : (xs : List (ℕ × LinkInput)) → AllNamed IsNoPart xs → on_handle handle (inputs (own w xs)) ≡ []
  own_none [] h = refl
  own_none (e ∷ xs) h = by (nat_eq w e.0) refl (own_none xs h.1)
    where
      by : (b : Bool) → nat_eq w e.0 ≡ b → on_handle handle (inputs (own w xs)) ≡ [] → on_handle handle (inputs ((if b then e.1 ∷ [] else []) ++ own w xs)) ≡ []
      by true is rest = none_both handle (input_in e.1) (inputs (own w xs)) (h.0 (sym (eqb-true w e.0 is))) rest
      by false is rest = rest

pub none_is_read : NoneIsRead
none_is_read c handle w y ds new did fresh once at is read =
    let comes : Comes c handle w new = record { e = y; at = at; on_it = λ j joined. one_of j (sym joined.0 ∙ is.0) } in
    let may = all_may c handle w ds none_begun new did none_is_sound fresh once (λ e there. absurd cc) read (λ xs there. absurd cc) comes in
    let r = all_grow (IsQuiet c handle w) (Any c handle w) (IsNoPart c handle w) (MayCome c handle w) (quiet_stays c handle w) ds none_begun new did (all_born c handle w ds) may none_is_keyed (λ n e there. absurd cc) tt tt in
    record { handed = r.standing w y at refl; gave = own_none c handle w (gave_in ds ++ new.incoming) r.gave }
  where
    one_of : (j : ℕ) → Some j ≡ Some c → j ≡ c
    one_of j e = cc
