-- Where links give a session no Transfer on a handle, and it alone is made on its channel, none is written there.
use Rattle.std.specs.Prelude.{◌≡◌, ℕ, nat_eq, Bool, List, [], ◌∷◌, ◌++◌, Option, Some, None, if◌then◌else◌, refl}
use Rattle.std.proofs.Common.{sym, ◌∙◌, ap, subst}
use Rattle.std.proofs.lemmas.Grind.{flat_map-append}
use Rattle.amqp_sessions.specs.amqp_calls.declared.call.SessionNumbers.{SessionNumbers}
use Rattle.amqp_frames.specs.declared.shared.IncomingSession.{IncomingSession}
use Rattle.amqp_frames.specs.declared.shared.LinkFrame.{LinkFrame}
use Rattle.amqp_frames.specs.declared.shared.LinkFrame.TheVariants as link
use Rattle.amqp_session.specs.declared.session.LinkInput.{LinkInput}
use Rattle.amqp_session.specs.declared.session.SessionState.{SessionState}
use Rattle.amqp_session.specs.declared.session.SessionState.TheVariants as state
use Rattle.amqp_session.specs.Begin as session
use Rattle.amqp_session.specs.State.{State as Session, Framed}
use Rattle.amqp_sessions.specs.Calls.{settings}
use Rattle.amqp_sessions.specs.Parts.{EndpointState}
use Rattle.amqp_sessions.specs.State.{State, none_begun, endpoint_of}
use Rattle.session_laws.specs.Holding as holding
use Rattle.session_laws.specs.Holding.{Move, after, after_all, handed_all, written, transfers, told_in_phase}
use Rattle.session_laws.specs.Messages.{transfer_in, on as on_handle}
use Rattle.session_lives.specs.Channels.{AllOn}
use Rattle.session_lives.specs.Deeds.{Deed, Begins, Awaits, Accepts, Refuses, Ends, HandsOut, Halts, Concludes, Hears, Writes, Frees, Gives, Takes, Lacks, Tells, Did, wrote_in, where_there, told_of}
use Rattle.session_lives.specs.Lives.{moves, told_by, told, Share, Lives}
use Rattle.session_lives.specs.Logs.{Came, share}
use Rattle.session_lives.proofs.Channels.{speaks_on_its_own}
use Rattle.session_lives.proofs.Deeds.{none_is_keyed}
use Rattle.first_messages.specs.Before.{HasNone, SaidNone}
use Rattle.first_messages.proofs.Lists.{none_both, none_left, none_right}
use Rattle.first_messages.proofs.Silent.{says_none}
use Rattle.first_messages.specs.Writing.{IsOwn, AreOwn, given_of, given_in, part_in, parts_of, NoneIsWritten}
use Rattle.first_messages.proofs.Each.{AllOf, Stays, AllMay, IsBorn, AllBorn, all_grow}
use Rattle.first_messages.proofs.None.{IsNone, frames_none, none_on}

module _ (c handle v : ℕ) where
  -- ---- one session

  -- of all sessions on the channel this has the name; it has no Transfer on the handle
  pub record IsQuiet (n : ℕ) (s : Session) : Type 0 where
    pub own : s.channel ≡ c → n ≡ v
    pub on : AllOn s.channel s.output
    pub silent : n ≡ v → HasNone handle s

  abbrev Any : ℕ → LinkInput → Type 0
  Any n x = Unit {0}

  -- links give the session of the name none
  abbrev MayCome : ℕ → Came → Type 0
  MayCome n x = n ≡ v → on_handle handle (parts_of x.told) ≡ []

  any_all : (n : ℕ) (xs : List LinkInput) → AllOf (Any n) xs
  any_all n [] = tt
  any_all n (x ∷ xs) = (tt, any_all n xs)

  -- what a session takes of its links is among what they give it
  one_taken : (p : SessionState) (x : LinkFrame) → on_handle handle (part_in x) ≡ [] → on_handle handle (told_in_phase p x) ≡ []
  one_taken state.Mapped (link.Transfer x payload) k = k
  one_taken state.Mapped (link.Attach x) k = refl
  one_taken state.Mapped (link.Flow x) k = refl
  one_taken state.Mapped (link.Disposition x covered) k = refl
  one_taken state.Mapped (link.Detach x) k = refl
  one_taken state.BeginSent x k = refl
  one_taken state.EndSent x k = refl
  one_taken state.Unmapped x k = refl

  move_taken : (s : Session) (m : Move) → on_handle handle (parts_of (told_by m)) ≡ [] → on_handle handle (holding.told_by s m) ≡ []
  move_taken s (holding.tells x) k = one_taken s.state x (none_left handle (part_in x) [] k)
  move_taken s m k = refl

  taken_none : (s : Session) (ms : List Move) → on_handle handle (parts_of (told ms)) ≡ [] → on_handle handle (holding.told s ms) ≡ []
  taken_none s [] k = refl
  taken_none s (m ∷ ms) k =
      let e = ap (on_handle handle) (sym (flat_map-append part_in (told_by m) (told ms))) ∙ k in
      none_both handle (holding.told_by s m) (holding.told (after s m) ms) (move_taken s m (none_left handle (parts_of (told_by m)) (parts_of (told ms)) e))
      (taken_none (after s m) ms (none_right handle (parts_of (told_by m)) (parts_of (told ms)) e))

  handed_none : (s : Session) (ms : List Move) → on_handle handle (transfers (written s ms)) ≡ [] → on_handle handle (transfers (handed_all s ms)) ≡ []
  handed_none s ms k =
      let out = (after_all s ms).output in
      none_left handle (transfers (handed_all s ms)) (transfers out) (ap (on_handle handle) (sym (flat_map-append (λ (x : Framed). transfer_in x.body) (handed_all s ms) out)) ∙ k)

  quiet_stays : (n : ℕ) (s t : Session) (x : Came) (w : List Framed) (g : List LinkInput) → IsQuiet n s → MayCome n x → Lives s (share x w g) t → Stays IsQuiet (IsNone handle c) Any n w g t
  quiet_stays n s t x w g k may l =
      let ms = moves l.steps in
      let came : x.told ≡ told ms = ap (λ (b : Share). b.told) l.share in
      let wrote : w ≡ handed_all s ms = ap (λ (b : Share). b.wrote) l.share in
      let p = speaks_on_its_own s.channel s ms refl k.on in
      let goes : n ≡ v → SaidNone handle s ms = (λ e. says_none handle s ms (taken_none s ms (ap (λ (xs : List LinkFrame). on_handle handle (parts_of xs)) (sym came) ∙ may e)) (k.silent e)) in
      let behind : IsQuiet n (after_all s ms) =
      record {
        own = λ e. k.own (sym p.channel ∙ e);
        on = subst (λ (d : ℕ). AllOn d (after_all s ms).output) (sym p.channel) p.left;
        silent = λ e. let q = goes e in q.behind;
      } in
      record {
        wrote = subst (λ (xs : List Framed). AllOf (IsNone handle c) xs) (sym wrote) (frames_none handle c s.channel (handed_all s ms) p.written (λ e. let q = goes (k.own e) in handed_none s ms q.written));
        gave = any_all n g;
        good = subst (λ (z : Session). IsQuiet n z) (sym l.behind) behind;
      }

  -- ---- as it is made

  begun_quiet : (name : ℕ) (x : SessionNumbers) (channel limit : ℕ) → (channel ≡ c → name ≡ v) → IsQuiet name (session.begun (settings x limit) channel)
  begun_quiet name x channel limit own = record { own = own; on = (refl, tt); silent = λ e. record { held = refl; output = refl } }

  accepted_quiet : (name : ℕ) (x : SessionNumbers) (channel limit : ℕ) (incoming : IncomingSession) → (channel ≡ c → name ≡ v) → IsQuiet name (session.accepted (settings x limit) channel incoming)
  accepted_quiet name x channel limit incoming own = record { own = own; on = (refl, tt); silent = λ e. record { held = refl; output = refl } }

  one_born : (d : Deed) → IsOwn c v d → IsBorn IsQuiet d
  one_born (Begins name x channel limit) own = begun_quiet name x channel limit own
  one_born (Accepts name x channel limit incoming) own = accepted_quiet name x channel limit incoming own
  one_born (Awaits name x) own = tt
  one_born (Refuses name why) own = tt
  one_born (Ends name session condition) own = tt
  one_born (HandsOut name) own = tt
  one_born (Halts why) own = tt
  one_born (Concludes why) own = tt
  one_born (Hears x) own = tt
  one_born (Writes x) own = tt
  one_born (Frees channel) own = tt
  one_born (Gives session x) own = tt
  one_born (Takes session x) own = tt
  one_born (Lacks session) own = tt
  one_born Tells own = tt

  all_born : (ds : List Deed) → AreOwn c v ds → AllBorn IsQuiet ds
  all_born [] own = tt
  all_born (d ∷ ds) own = (one_born d own.0, all_born ds own.1)

  -- ---- what links give it

  given_there : (o : Option EndpointState) (b : Bool) (x : LinkFrame) → on_handle handle (parts_of (if b then x ∷ [] else [])) ≡ [] → on_handle handle (parts_of (where_there o (if b then x ∷ [] else []))) ≡ []
  given_there None b x k = refl
  given_there (Some e) b x k = k

  told_none : (d : Deed) (s : State) → on_handle handle (parts_of (given_of v d)) ≡ [] → on_handle handle (parts_of (told_of d s v)) ≡ []
  told_none (Takes session x) s k = given_there (endpoint_of v s) (nat_eq v session) x k
  told_none d s k = refl

  all_may : (old : State) (ds : List Deed) (new : State) (did : Did old ds new) → on_handle handle (parts_of (given_in v ds)) ≡ [] → AllMay MayCome old ds new did
  all_may old [] new did k = tt
  all_may old (d ∷ ds) new did k =
      let e = ap (on_handle handle) (sym (flat_map-append part_in (given_of v d) (given_in v ds))) ∙ k in
      let first = none_left handle (parts_of (given_of v d)) (parts_of (given_in v ds)) e in (
        λ n is. subst (λ (m : ℕ). on_handle handle (parts_of (told_of d old m)) ≡ []) (sym is) (told_none d old first),
        all_may did.0 ds new did.1.1 (none_right handle (parts_of (given_of v d)) (parts_of (given_in v ds)) e),
      )

pub none_is_written : NoneIsWritten
none_is_written c handle v ds new did own none =
    let r = all_grow (IsQuiet c handle v) (IsNone handle c) (Any c handle v) (MayCome c handle v) (quiet_stays c handle v) ds none_begun new did (all_born c handle v ds own) (all_may c handle v none_begun ds new did none) none_is_keyed (λ n e at. absurd cc) tt tt in
    record {
      written = none_on handle c (wrote_in ds ++ new.output) r.wrote;
      alone = λ n e at is. let k = r.standing n e at in k.own is;
      waits = λ e at. let k = r.standing v e at in k.silent refl;
    }
