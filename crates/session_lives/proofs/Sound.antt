-- The tables of sessions agree with the sessions, whatever these do.
use Rattle.std.specs.Prelude.{◌≡◌, ◌⊎◌, ℕ, nat_eq, Bool, true, false, cond, List, [], ◌∷◌, ◌++◌, Option, Some, None, refl}
use Rattle.std.proofs.Common.{inl, inr, sym, ◌∙◌, ap, subst, eq-eqb}
use Rattle.std.proofs.lemmas.Bool.{eqb-true}
use Rattle.std.specs.List.{IsDistinct}
use Rattle.std.specs.Map.{lookup}
use Rattle.indexmap.specs.IndexMap.{insert_entry, swap_remove_entry}
use Rattle.amqp_calls.specs.declared.call.SessionNumbers.{SessionNumbers}
use Rattle.amqp_frames.specs.declared.body.FrameBody.{FrameBody}
use Rattle.amqp_frames.specs.declared.body.FrameBody.TheVariants as b
use Rattle.amqp_frames.specs.declared.shared.ConnectionStopReason.{ConnectionStopReason}
use Rattle.amqp_frames.specs.declared.shared.IncomingSession.{IncomingSession}
use Rattle.amqp_frames.specs.declared.shared.LinkFrame.{LinkFrame}
use Rattle.amqp_frames.specs.declared.shared.SessionStopReason.{SessionStopReason}
use Rattle.amqp_composites.specs.declared.error.Error.{Error as AmqpError}
use Rattle.amqp_session.specs.declared.error.Error.{Error}
use Rattle.amqp_session.specs.declared.session.SessionState.{SessionState}
use Rattle.amqp_session.specs.declared.session.SessionState.TheVariants as state
use Rattle.amqp_session.specs.Begin as session
use Rattle.amqp_session.specs.Begin.{mapped}
use Rattle.amqp_session.specs.Ends.{stopping, remote_reason, ended as peer_ended}
use Rattle.amqp_session.specs.Frames.{heard_unanswered, heard_in}
use Rattle.amqp_session.specs.State.{State as Session, Framed}
use Rattle.amqp_sessions.specs.declared.endpoint.Change.{Change}
use Rattle.amqp_sessions.specs.declared.endpoint.Change.TheVariants.{Same, Begun, Refused, Gone, Answered}
use Rattle.amqp_sessions.specs.declared.sessions.Waiting.{Waiting}
use Rattle.amqp_sessions.specs.declared.sessions.Waiting.TheVariants.{Begin, Accept}
use Rattle.amqp_sessions.specs.Parts.{EndpointState, idle}
use Rattle.amqp_sessions.specs.Endpoint.{change_between, hearing, change_of, having_heard, having_written, having_refused, asking_end, having_asked, emptied}
use Rattle.amqp_sessions.specs.Calls.{settings, entered, begun, awaiting, accepted, left_in, left_at, left, end_told, end_at, ended}
use Rattle.amqp_sessions.specs.Frames.{answered_channel, name_at, place_of, joined, refused, freed_at, freed_own, freed, concluding_for, concluding, changed, hearing_at, kept_at, kept, heard_by, heard, heard_all, heard_early_at, written_at, written, refusing_at, refusing}
use Rattle.amqp_sessions.specs.State.{State, endpoint_of, with_endpoint, let_go, handing, handed_out}
use Rattle.amqp_sessions.specs.Stops.{halted, finished, end_answered, ends_answered, without_ends, begin_concluded, concluded}
use Rattle.session_lives.specs.Channels.{IsJoined, AllOn}
use Rattle.session_lives.specs.Lives.{Share, moves}
use Rattle.session_lives.specs.Logs.{AreKeyed, own, Came, share, Fate, Goes}
use Rattle.session_lives.specs.Deeds.{Deed, Begins, Awaits, Accepts, Refuses, Ends, HandsOut, Halts, Concludes, Hears, Writes, Frees, Gives, Takes, Lacks, Tells, IsDeed, came_of, joining, IsOther}
use Rattle.session_lives.specs.Sound.{AreSound, IsUnused, IsNewIn, NoneIsSound, SoundIsKept, IsOf, HearsItsOwn}
use Rattle.session_lives.proofs.Tables.{IsKeyed, insert_other, insert_here, insert_keyed, gone, set_at, set_keyed}
use Rattle.session_lives.proofs.Channels.{Keeps, one_more, moves_keep, released_keeps}
use Rattle.session_lives.proofs.Going.{none_came, came_to, goes_same}
use Rattle.session_lives.proofs.Lives.{lives_hears}
use Rattle.session_lives.proofs.Hearing.{hears_only, one_out_goes, changed_goes, kept_goes}
use Rattle.session_lives.proofs.Deeds.{one_session_lives}

abbrev pub Any : ℕ → Type 0
Any n = Unit {0}

-- ---- one session

-- a session that stands stood before, and is on its channels still
pub record Stood (n : ℕ) (f : EndpointState) (old : State) : Type 0 where
  pub before : EndpointState
  pub at : endpoint_of n old ≡ Some before
  pub keeps : Keeps before.session f.session

stood_by : (n : ℕ) (a : Share) (f : EndpointState) (old : State) (o : Option EndpointState) → endpoint_of n old ≡ o → Fate o a (Some f) → Stood n f old
stood_by n a f old None at g = absurd g
stood_by n a f old (Some e) at g = record { before = e; at = at; keeps = subst (λ t. Keeps e.session t) (sym g.behind) (moves_keep e.session (moves g.steps)) }

-- each has become what it may
abbrev pub EachGoes : (ℕ → Share) → State → State → Type 0
EachGoes a old new = (n : ℕ) → Fate (endpoint_of n old) (a n) (endpoint_of n new)

pub stood : (a : ℕ → Share) (old new : State) (n : ℕ) (f : EndpointState) → Fate (endpoint_of n old) (a n) (endpoint_of n new) → endpoint_of n new ≡ Some f → Stood n f old
stood a old new n f g at = stood_by n (a n) f old (endpoint_of n old) refl (subst (λ o. Fate (endpoint_of n old) (a n) o) at g)

-- ---- tables

-- a table has lost entries at most
pub record Narrow {X : Type 0} (old new : List (ℕ × X)) : Type 0 where
  pub keyed : IsKeyed new
  pub led : (c : ℕ) (n : X) → lookup (nat_eq c) new ≡ Some n → lookup (nat_eq c) old ≡ Some n

narrow_same : {X : Type 0} (old new : List (ℕ × X)) → new ≡ old → IsKeyed old → Narrow old new
narrow_same old new e k = record { keyed = subst IsKeyed (sym e) k; led = λ c n h. sym (ap (lookup (nat_eq c)) e) ∙ h }

narrow_gone : {X : Type 0} (name : ℕ) (old : List (ℕ × X)) → IsKeyed old → Narrow old (swap_remove_entry (nat_eq name) old)
narrow_gone {X} name old k =
    let g = gone name old k in
    record { keyed = g.keyed; led = λ c n h. by (nat_eq c name) (lookup (nat_eq c) old) n (sym (g.at c) ∙ h) }
  where
    by : (t : Bool) (o : Option X) (n : X) → cond t None o ≡ Some n → o ≡ Some n
    by true o n h = cc
    by false o n h = h

-- frames that are kept are kept by their channel
pub record IsKept (s : State) : Type 0 where
  pub keyed : IsKeyed s.early
  pub on : (c : ℕ) (xs : List Framed) → lookup (nat_eq c) s.early ≡ Some xs → AllOn c xs

kept_in : (s : State) → AreSound s → IsKept s
kept_in s h = record { keyed = h.kept; on = h.early }

-- both tables have, and frames are kept by their channel still
pub record Shrinks (old new : State) : Type 0 where
  pub own : IsKeyed old.channels → Narrow old.channels new.channels
  pub peer : IsKeyed old.remotes → Narrow old.remotes new.remotes
  pub early : IsKept old → IsKept new

shrinks_same : (old new : State) → new.channels ≡ old.channels → new.remotes ≡ old.remotes → new.early ≡ old.early → Shrinks old new
shrinks_same old new c r e =
    record {
      own = narrow_same old.channels new.channels c;
      peer = narrow_same old.remotes new.remotes r;
      early = λ h. record { keyed = subst IsKeyed (sym e) h.keyed; on = λ k xs at. h.on k xs (sym (ap (lookup (nat_eq k)) e) ∙ at) };
    }

shrinks_still : (s : State) → Shrinks s s
shrinks_still s = shrinks_same s s refl refl refl

narrow_then : {X : Type 0} (a b c : List (ℕ × X)) → Narrow a b → Narrow b c → Narrow a c
narrow_then a b c p q = record { keyed = q.keyed; led = λ k n h. p.led k n (q.led k n h) }

pub shrinks_then : (a b c : State) → Shrinks a b → Shrinks b c → Shrinks a c
shrinks_then a b c p q =
    record {
      own = λ k. let x = p.own k in narrow_then a.channels b.channels c.channels x (q.own x.keyed);
      peer = λ k. let x = p.peer k in narrow_then a.remotes b.remotes c.remotes x (q.peer x.keyed);
      early = λ h. q.early (p.early h);
    }

-- sessions go on, and tables lose entries at most
sound_by : (a : ℕ → Share) (old new : State) → AreSound old → AreKeyed new → EachGoes a old new → Shrinks old new → AreSound new
sound_by a old new s keyed g r =
    let own = r.own s.channels in
    let peer = r.peer s.remotes in
    let early = r.early (kept_in old s) in
    record {
      keyed = keyed;
      channels = own.keyed;
      remotes = peer.keyed;
      own = λ k n f led at. let was = stood a old new n f (g n) at in was.keeps.channel ∙ s.own k n was.before (own.led k n led) was.at;
      peer = λ k n f led at. let was = stood a old new n f (g n) at in was.keeps.joined k (s.peer k n was.before (peer.led k n led) was.at);
      speaks = λ n f at.
          let was = stood a old new n f (g n) at in
          subst (λ k. AllOn k f.session.output) (sym was.keeps.channel) (was.keeps.on was.before.session.channel refl (s.speaks n was.before was.at));
      kept = early.keyed;
      early = early.on;
    }

sound_shrinks : (c : ℕ → Came) (old new : State) → AreSound old → Goes Any c old new → Shrinks old new → AreSound new
sound_shrinks c old new s g r = sound_by (λ n. share (c n) (own n g.wrote) (own n g.gave)) old new s g.keyed (λ n. g.each n tt) r

-- ---- a session is made, or stands on a channel of the peer

pub record Entry (k m c n : ℕ) (old : List (ℕ × ℕ)) : Type 0 where
  pub either : ((c ≡ k) × (n ≡ m)) ⊎ (lookup (nat_eq c) old ≡ Some n)

pub entry : (k m c n : ℕ) (old : List (ℕ × ℕ)) → lookup (nat_eq c) (insert_entry nat_eq old k m) ≡ Some n → Entry k m c n old
entry k m c n old h = by (nat_eq c k) refl
  where
    same_some : (x y : ℕ) → Some x ≡ Some y → x ≡ y
    same_some x y e = cc

    by : (t : Bool) → nat_eq c k ≡ t → Entry k m c n old
    by true e =
        let same : c ≡ k = eqb-true c k e in
        let found : Some m ≡ Some n = sym (insert_here k m old) ∙ (sym (ap (λ x. lookup (nat_eq x) (insert_entry nat_eq old k m)) same) ∙ h) in
        record { either = inl (same, sym (same_some m n found)) }
    by false e = record { either = inr (sym (insert_other k c m old e) ∙ h) }

joined_sound : (name remote : ℕ) (e : EndpointState) (s : State) → AreSound s → endpoint_of name s ≡ Some e → IsJoined remote e.session → AreSound (joined name remote s)
joined_sound name remote e s sound there is =
    record {
      keyed = sound.keyed;
      channels = sound.channels;
      remotes = insert_keyed remote name s.remotes sound.remotes;
      own = sound.own;
      peer = λ c n f led at. by c n f at (entry remote name c n s.remotes led).either;
      speaks = sound.speaks;
      kept = sound.kept;
      early = sound.early;
    }
  where
    same_there : (f : EndpointState) → Some f ≡ Some e → e ≡ f
    same_there f h = cc

    by : (c n : ℕ) (f : EndpointState) → endpoint_of n s ≡ Some f → ((c ≡ remote) × (n ≡ name)) ⊎ (lookup (nat_eq c) s.remotes ≡ Some n) → IsJoined c f.session
    by c n f at (inl h) =
        let same : e ≡ f = same_there f (sym at ∙ (ap (λ m. endpoint_of m s) h.1 ∙ there)) in
        subst (λ k. IsJoined k f.session) (sym h.0) (subst (λ g. IsJoined remote g.session) same is)
    by c n f at (inr h) = sound.peer c n f h at

entered_sound : (name channel : ℕ) (a : Session) (s : State) → AreSound s → IsUnused name s → a.channel ≡ channel → AllOn channel a.output → AreSound (entered name channel a s)
entered_sound name channel a s sound unused is on =
    record {
      keyed = insert_keyed name (idle a) s.endpoints sound.keyed;
      channels = insert_keyed channel name s.channels sound.channels;
      remotes = sound.remotes;
      own = λ c n f led at. own_by c n f at (entry channel name c n s.channels led).either;
      peer = λ c n f led at. peer_by c n f led at (nat_eq n name) refl;
      speaks = λ n f at. speaks_by n f at (nat_eq n name) refl;
      kept = sound.kept;
      early = sound.early;
    }
  where
    same_there : (f : EndpointState) → Some f ≡ Some (idle a) → idle a ≡ f
    same_there f h = cc

    made : (n : ℕ) (f : EndpointState) → n ≡ name → lookup (nat_eq n) (insert_entry nat_eq s.endpoints name (idle a)) ≡ Some f → idle a ≡ f
    made n f e at = same_there f (sym at ∙ (ap (λ m. lookup (nat_eq m) (insert_entry nat_eq s.endpoints name (idle a))) e ∙ insert_here name (idle a) s.endpoints))

    others : (n : ℕ) (f : EndpointState) → nat_eq n name ≡ false → lookup (nat_eq n) (insert_entry nat_eq s.endpoints name (idle a)) ≡ Some f → endpoint_of n s ≡ Some f
    others n f e at = sym (insert_other name n (idle a) s.endpoints e) ∙ at

    own_old : (c n : ℕ) (f : EndpointState) → lookup (nat_eq n) (insert_entry nat_eq s.endpoints name (idle a)) ≡ Some f → lookup (nat_eq c) s.channels ≡ Some n → (t : Bool) → nat_eq n name ≡ t → f.session.channel ≡ c
    own_old c n f at led true e = absurd (unused.own c (led ∙ ap Some (eqb-true n name e)))
    own_old c n f at led false e = sound.own c n f led (others n f e at)

    own_by : (c n : ℕ) (f : EndpointState) → lookup (nat_eq n) (insert_entry nat_eq s.endpoints name (idle a)) ≡ Some f → ((c ≡ channel) × (n ≡ name)) ⊎ (lookup (nat_eq c) s.channels ≡ Some n) → f.session.channel ≡ c
    own_by c n f at (inl h) = sym (ap (λ g. g.session.channel) (made n f h.1 at)) ∙ (is ∙ sym h.0)
    own_by c n f at (inr h) = own_old c n f at h (nat_eq n name) refl

    peer_by : (c n : ℕ) (f : EndpointState) → lookup (nat_eq c) s.remotes ≡ Some n → lookup (nat_eq n) (insert_entry nat_eq s.endpoints name (idle a)) ≡ Some f → (t : Bool) → nat_eq n name ≡ t → IsJoined c f.session
    peer_by c n f led at true e = absurd (unused.peer c (led ∙ ap Some (eqb-true n name e)))
    peer_by c n f led at false e = sound.peer c n f led (others n f e at)

    speaks_by : (n : ℕ) (f : EndpointState) → lookup (nat_eq n) (insert_entry nat_eq s.endpoints name (idle a)) ≡ Some f → (t : Bool) → nat_eq n name ≡ t → AllOn f.session.channel f.session.output
    speaks_by n f at true e = subst (λ g. AllOn g.session.channel g.session.output) (made n f (eqb-true n name e) at) (subst (λ k. AllOn k a.output) (sym is) on)
    speaks_by n f at false e = sound.speaks n f (others n f e at)

-- ---- what a frame makes of a session

pub begun_from : (old new : SessionState) → change_between old new ≡ Begun → old ≡ state.BeginSent
begun_from state.BeginSent new h = refl
begun_from state.Mapped state.BeginSent h = cc
begun_from state.Mapped state.Mapped h = cc
begun_from state.Mapped state.EndSent h = cc
begun_from state.Mapped state.Unmapped h = cc
begun_from state.EndSent state.BeginSent h = cc
begun_from state.EndSent state.Mapped h = cc
begun_from state.EndSent state.EndSent h = cc
begun_from state.EndSent state.Unmapped h = cc
begun_from state.Unmapped state.BeginSent h = cc
begun_from state.Unmapped state.Mapped h = cc
begun_from state.Unmapped state.EndSent h = cc
begun_from state.Unmapped state.Unmapped h = cc

stopping_state : (o : Option SessionStopReason) (why : SessionStopReason) (s : Session) → (stopping o why s).state ≡ s.state
stopping_state None why s = refl
stopping_state (Some first) why s = refl

ended_state : (e : Option AmqpError) (s : Session) → (peer_ended e s).state ≡ state.Unmapped
ended_state e s = stopping_state s.stop_reason (remote_reason e) (record s { state = state.Unmapped; held = [] })

still_unbegun : (s : Session) → s.state ≡ state.BeginSent → change_between state.BeginSent s.state ≡ Begun → ⊥
still_unbegun s e h = let bad : Same ≡ Begun = sym (ap (change_between state.BeginSent) e) ∙ h in cc

unanswered_joins : (channel : ℕ) (body : FrameBody) (s : Session) → s.state ≡ state.BeginSent → change_between state.BeginSent (heard_unanswered channel body s).state.state ≡ Begun → IsJoined channel (heard_unanswered channel body s).state
unanswered_joins channel (b.Begin x) s e h = (released_keeps (mapped channel x s)).joined channel (refl, refl)
unanswered_joins channel (b.End x) s e h = let bad : Refused ≡ Begun = sym (ap (change_between state.BeginSent) (ended_state x.error s)) ∙ h in cc
unanswered_joins channel (b.Open x) s e h = absurd (still_unbegun s e h)
unanswered_joins channel (b.Attach x) s e h = absurd (still_unbegun s e h)
unanswered_joins channel (b.Flow x) s e h = absurd (still_unbegun s e h)
unanswered_joins channel (b.Transfer x payload) s e h = absurd (still_unbegun s e h)
unanswered_joins channel (b.Disposition x) s e h = absurd (still_unbegun s e h)
unanswered_joins channel (b.Detach x) s e h = absurd (still_unbegun s e h)
unanswered_joins channel (b.Close x) s e h = absurd (still_unbegun s e h)
unanswered_joins channel b.Empty s e h = absurd (still_unbegun s e h)

begun_joins_in : (phase : SessionState) (x : Framed) (s : Session) → s.state ≡ phase → change_between phase (heard_in phase x s).state.state ≡ Begun → IsJoined x.channel (heard_in phase x s).state
begun_joins_in state.BeginSent x s e h = unanswered_joins x.channel x.body s e h
begun_joins_in state.Mapped x s e h = let bad : state.Mapped ≡ state.BeginSent = begun_from state.Mapped (heard_in state.Mapped x s).state.state h in cc
begun_joins_in state.EndSent x s e h = let bad : state.EndSent ≡ state.BeginSent = begun_from state.EndSent (heard_in state.EndSent x s).state.state h in cc
begun_joins_in state.Unmapped x s e h = let bad : state.Unmapped ≡ state.BeginSent = begun_from state.Unmapped (heard_in state.Unmapped x s).state.state h in cc

begun_joins : (x : Framed) (e : EndpointState) → change_of x e ≡ Begun → IsJoined x.channel (hearing x e).state
begun_joins x e h = begun_joins_in e.session.state x e.session refl h

-- ---- the tables behind it

freed_shrinks : (o : Option EndpointState) (s : State) → Shrinks s (freed_at o s)
freed_shrinks None s = shrinks_still s
freed_shrinks (Some e) s = record { own = λ k. narrow_gone e.session.channel s.channels k; peer = λ k. narrow_same s.remotes s.remotes refl k; early = λ h. record { keyed = h.keyed; on = h.on } }

both_freed_shrinks : (name remote : ℕ) (s : State) → Shrinks s (freed name remote s)
both_freed_shrinks name remote s =
    let t : State = record s { remotes = swap_remove_entry (nat_eq remote) s.remotes } in
    shrinks_then s t (freed name remote s) (record { own = λ k. narrow_same s.channels s.channels refl k; peer = λ k. narrow_gone remote s.remotes k; early = λ h. record { keyed = h.keyed; on = h.on } }) (freed_shrinks (endpoint_of name t) t)

concluding_for_shrinks : (ending : Option ℕ) (is_left : Bool) (name : ℕ) (answer : Option Error) (s : State) → Shrinks s (concluding_for ending is_left name answer s)
concluding_for_shrinks (Some end) is_left name answer s = shrinks_same s (concluding_for (Some end) is_left name answer s) refl refl refl
concluding_for_shrinks None true name answer s = shrinks_same s (let_go name s) refl refl refl
concluding_for_shrinks None false name answer s = shrinks_still s

concluding_shrinks : (o : Option EndpointState) (name : ℕ) (answer : Option Error) (s : State) → Shrinks s (concluding o name answer s)
concluding_shrinks None name answer s = shrinks_still s
concluding_shrinks (Some e) name answer s = concluding_for_shrinks e.ending e.is_left name answer s

handing_shrinks : (name : ℕ) (o : Option EndpointState) (s : State) → Shrinks s (handing name o s)
handing_shrinks name None s = shrinks_still s
handing_shrinks name (Some e) s = shrinks_same s (handing name (Some e) s) refl refl refl

handed_shrinks : (name : ℕ) (s : State) → Shrinks s (handed_out name s)
handed_shrinks name s = handing_shrinks name (endpoint_of name s) s

-- one session goes on, and what it has goes out
pub out_shrinks : (name : ℕ) (f : EndpointState) (s : State) → Shrinks s (handed_out name (with_endpoint name f s))
out_shrinks name f s = let u = with_endpoint name f s in shrinks_then s u (handed_out name u) (shrinks_same s u refl refl refl) (handed_shrinks name u)

-- the session stands behind that
set_there : (name : ℕ) (e f : EndpointState) (s : State) → endpoint_of name s ≡ Some e → endpoint_of name (with_endpoint name f s) ≡ Some f
set_there name e f s at = set_at name name s.endpoints e f at ∙ ap (λ t. cond t (Some f) (endpoint_of name s)) (eq-eqb name name refl)

handing_there : (name : ℕ) (o : Option EndpointState) (e : EndpointState) (s : State) → endpoint_of name s ≡ o → o ≡ Some e → endpoint_of name (handing name o s) ≡ Some (emptied e)
handing_there name None e s at h = cc
handing_there name (Some g) e s at h =
    set_there name g (emptied g) s at ∙ ap (λ (o : Option EndpointState). emptied_of o) h
  where
    emptied_of : Option EndpointState → Option EndpointState
    emptied_of None = None
    emptied_of (Some x) = Some (emptied x)

out_there : (name : ℕ) (e f : EndpointState) (s : State) → endpoint_of name s ≡ Some e → endpoint_of name (handed_out name (with_endpoint name f s)) ≡ Some (emptied f)
out_there name e f s at = let u = with_endpoint name f s in handing_there name (endpoint_of name u) f u refl (set_there name e f s at)

-- ---- frames

pub changed_shrinks : (c : Change) (name remote : ℕ) (answer : Option Error) (s : State) → (c ≡ Begun → ⊥) → Shrinks s (changed c name remote answer s)
changed_shrinks Same name remote answer s apart = shrinks_still s
changed_shrinks Begun name remote answer s apart = absurd (apart refl)
changed_shrinks Refused name remote answer s apart =
    let t = freed_own name s in
    shrinks_then s t (changed Refused name remote answer s) (freed_shrinks (endpoint_of name s) s) (shrinks_same t (changed Refused name remote answer s) refl refl refl)
changed_shrinks Gone name remote answer s apart = both_freed_shrinks name remote s
changed_shrinks Answered name remote answer s apart =
    let t = freed name remote s in
    shrinks_then s t (changed Answered name remote answer s) (both_freed_shrinks name remote s) (concluding_shrinks (endpoint_of name s) name answer t)

changed_else : (c : Change) (name remote : ℕ) (answer : Option Error) (s : State) → (c ≡ Begun → ⊥) → AreSound s → AreSound (changed c name remote answer s)
changed_else c name remote answer s apart sound =
    sound_shrinks none_came s (changed c name remote answer s) sound (changed_goes Any c name remote answer s sound.keyed) (changed_shrinks c name remote answer s apart)

changed_sound : (c : Change) (name remote : ℕ) (answer : Option Error) (e : EndpointState) (s : State) → AreSound s → endpoint_of name s ≡ Some e → (c ≡ Begun → IsJoined remote e.session) → AreSound (changed c name remote answer s)
changed_sound Begun name remote answer e s sound at is = joined_sound name remote e s sound at (is refl)
changed_sound Same name remote answer e s sound at is = changed_else Same name remote answer s (λ h. cc) sound
changed_sound Refused name remote answer e s sound at is = changed_else Refused name remote answer s (λ h. cc) sound
changed_sound Gone name remote answer e s sound at is = changed_else Gone name remote answer s (λ h. cc) sound
changed_sound Answered name remote answer e s sound at is = changed_else Answered name remote answer s (λ h. cc) sound

pub out_sound : (name : ℕ) (x : Framed) (e : EndpointState) (s : State) → endpoint_of name s ≡ Some e → AreSound s → AreSound (handed_out name (with_endpoint name (having_heard x e) s))
out_sound name x e s at sound =
    let f = having_heard x e in
    let c = hears_only (x ∷ []) in
    sound_shrinks (came_to name c) s (handed_out name (with_endpoint name f s)) sound (one_out_goes Any name e f c s sound.keyed at (lives_hears x e.session)) (out_shrinks name f s)

hearing_sound : (o : Option EndpointState) (name : ℕ) (x : Framed) (s : State) → endpoint_of name s ≡ o → AreSound s → AreSound (hearing_at o name x s)
hearing_sound None name x s at sound = sound
hearing_sound (Some e) name x s at sound =
    let f = having_heard x e in
    let t = handed_out name (with_endpoint name f s) in
    changed_sound (change_of x e) name x.channel (hearing x e).answer (emptied f) t (out_sound name x e s at sound) (out_there name e f s at) (λ h. begun_joins x e h)

pub kept_shrinks : (o : Option (List Framed)) (x : Framed) (s : State) → lookup (nat_eq x.channel) s.early ≡ o → Shrinks s (kept_at o x s)
kept_shrinks None x s at =
    record {
      own = narrow_same s.channels s.channels refl;
      peer = narrow_same s.remotes s.remotes refl;
      early = λ h. record { keyed = insert_keyed x.channel (x ∷ []) s.early h.keyed; on = λ c ys there. by h c ys (nat_eq c x.channel) refl there };
    }
  where
    is_first : (c : ℕ) (ys : List Framed) → c ≡ x.channel → Some (x ∷ []) ≡ Some ys → AllOn c ys
    is_first c ys e found = let same : x ∷ [] ≡ ys = cc in subst (AllOn c) same (sym e, tt)

    by : IsKept s → (c : ℕ) (ys : List Framed) (t : Bool) → nat_eq c x.channel ≡ t → lookup (nat_eq c) (insert_entry nat_eq s.early x.channel (x ∷ [])) ≡ Some ys → AllOn c ys
    by h c ys true e there =
        let same : c ≡ x.channel = eqb-true c x.channel e in
        is_first c ys same (sym (insert_here x.channel (x ∷ []) s.early) ∙ (sym (ap (λ k. lookup (nat_eq k) (insert_entry nat_eq s.early x.channel (x ∷ []))) same) ∙ there))
    by h c ys false e there = h.on c ys (sym (insert_other x.channel c (x ∷ []) s.early e) ∙ there)
kept_shrinks (Some xs) x s at =
    record {
      own = narrow_same s.channels s.channels refl;
      peer = narrow_same s.remotes s.remotes refl;
      early = λ h. record { keyed = set_keyed x.channel s.early (xs ++ x ∷ []) h.keyed; on = λ c ys there. by h c ys (nat_eq c x.channel) refl (sym (set_at x.channel c s.early xs (xs ++ x ∷ []) at) ∙ there) };
    }
  where
    is_more : (c : ℕ) (ys : List Framed) → c ≡ x.channel → AllOn x.channel xs → Some (xs ++ x ∷ []) ≡ Some ys → AllOn c ys
    is_more c ys e all found = let same : xs ++ x ∷ [] ≡ ys = cc in subst (AllOn c) same (subst (λ k. AllOn k (xs ++ x ∷ [])) (sym e) (one_more x.channel xs x refl all))

    by : IsKept s → (c : ℕ) (ys : List Framed) (t : Bool) → nat_eq c x.channel ≡ t → cond (nat_eq c x.channel) (Some (xs ++ x ∷ [])) (lookup (nat_eq c) s.early) ≡ Some ys → AllOn c ys
    by h c ys true e there = is_more c ys (eqb-true c x.channel e) (h.on x.channel xs at) (sym (ap (λ t. cond t (Some (xs ++ x ∷ [])) (lookup (nat_eq c) s.early)) e) ∙ there)
    by h c ys false e there = h.on c ys (sym (ap (λ t. cond t (Some (xs ++ x ∷ [])) (lookup (nat_eq c) s.early)) e) ∙ there)

heard_by_sound : (o : Option ℕ) (x : Framed) (s : State) → AreSound s → AreSound (heard_by o x s)
heard_by_sound None x s sound = let o = lookup (nat_eq x.channel) s.early in sound_shrinks none_came s (kept x s) sound (kept_goes Any o x s sound.keyed) (kept_shrinks o x s refl)
heard_by_sound (Some name) x s sound = hearing_sound (endpoint_of name s) name x s refl sound

pub heard_sound : (x : Framed) (s : State) → AreSound s → AreSound (heard x s)
heard_sound x s sound = heard_by_sound (place_of x s) x s sound

heard_all_sound : (xs : List Framed) (s : State) → AreSound s → AreSound (heard_all xs s)
heard_all_sound [] s sound = sound
heard_all_sound (x ∷ xs) s sound = heard_all_sound xs (heard x s) (heard_sound x s sound)

-- the frames that were kept on a channel are taken
abbrev pub without_early : ℕ → State → State
without_early remote s = record s { early = swap_remove_entry (nat_eq remote) s.early }

pub early_removed : (remote : ℕ) (s : State) → AreSound s → AreSound (without_early remote s)
early_removed remote s sound =
    let g = narrow_gone remote s.early sound.kept in
    record {
      keyed = sound.keyed;
      channels = sound.channels;
      remotes = sound.remotes;
      own = sound.own;
      peer = sound.peer;
      speaks = sound.speaks;
      kept = g.keyed;
      early = λ c xs at. sound.early c xs (g.led c xs at);
    }

pub early_sound : (o : Option (List Framed)) (remote : ℕ) (s : State) → AreSound s → AreSound (heard_early_at o remote s)
early_sound None remote s sound = sound
early_sound (Some xs) remote s sound = heard_all_sound xs (without_early remote s) (early_removed remote s sound)

-- ---- calls

pub joining_sound : (name : ℕ) (x : SessionNumbers) (channel limit : ℕ) (incoming : IncomingSession) (s : State) → AreSound s → IsUnused name s → AreSound (joining name x channel limit incoming s)
joining_sound name x channel limit incoming s sound unused =
    let a = session.accepted (settings x limit) channel incoming in
    let t = entered name channel a s in
    joined_sound name incoming.channel (idle a) t (entered_sound name channel a s sound unused refl (refl, tt)) (insert_here name (idle a) s.endpoints) (refl, refl)

accepted_sound : (name : ℕ) (x : SessionNumbers) (channel limit : ℕ) (incoming : IncomingSession) (s : State) → AreSound s → IsUnused name s → AreSound (accepted name x channel limit incoming s)
accepted_sound name x channel limit incoming s sound unused =
    let u = joining name x channel limit incoming s in early_sound (lookup (nat_eq incoming.channel) u.early) incoming.channel u (joining_sound name x channel limit incoming s sound unused)

begun_sound : (name : ℕ) (x : SessionNumbers) (channel limit : ℕ) (s : State) → AreSound s → IsUnused name s → AreSound (begun name x channel limit s)
begun_sound name x channel limit s sound unused =
    let a = session.begun (settings x limit) channel in
    let t = entered name channel a s in
    let is = entered_sound name channel a s sound unused refl (refl, tt) in
    sound_shrinks none_came t (begun name x channel limit s) is (goes_same Any t (begun name x channel limit s) is.keyed refl refl refl) (shrinks_same t (begun name x channel limit s) refl refl refl)

left_shrinks : (phase : SessionState) (name : ℕ) (s : State) → Shrinks s (left_in phase name s)
left_shrinks state.EndSent name s = shrinks_still s
left_shrinks state.BeginSent name s = shrinks_same s (let_go name s) refl refl refl
left_shrinks state.Mapped name s = shrinks_same s (let_go name s) refl refl refl
left_shrinks state.Unmapped name s = shrinks_same s (let_go name s) refl refl refl

left_at_shrinks : (o : Option EndpointState) (name : ℕ) (s : State) → Shrinks s (left_at o name s)
left_at_shrinks None name s = shrinks_still s
left_at_shrinks (Some e) name s = left_shrinks e.session.state name s

told_shrinks : (o : Option Error) (name session : ℕ) (s : State) → Shrinks s (end_told o name session s)
told_shrinks None name session s = shrinks_same s (end_told None name session s) refl refl refl
told_shrinks (Some refusal) name session s =
    let t = left session s in
    shrinks_then s t (end_told (Some refusal) name session s) (left_at_shrinks (endpoint_of session s) session s) (shrinks_same t (end_told (Some refusal) name session s) refl refl refl)

end_shrinks : (o : Option EndpointState) (name session : ℕ) (condition : Option (List ℕ)) (s : State) → Shrinks s (end_at o name session condition s)
end_shrinks None name session condition s = shrinks_still s
end_shrinks (Some e) name session condition s =
    let u = with_endpoint session (having_asked name condition e) s in
    shrinks_then s u (end_at (Some e) name session condition s) (shrinks_same s u refl refl refl) (told_shrinks (asking_end condition e).answer name session u)

written_shrinks : (o : Option EndpointState) (name : ℕ) (x : LinkFrame) (s : State) → Shrinks s (written_at o name x s)
written_shrinks None name x s = shrinks_still s
written_shrinks (Some e) name x s = out_shrinks name (having_written x e) s

refusing_shrinks : (o : Option EndpointState) (name : ℕ) (s : State) → Shrinks s (refusing_at o name s)
refusing_shrinks None name s = shrinks_still s
refusing_shrinks (Some e) name s = out_shrinks name (having_refused e) s

-- ---- the connection stops

answered_shrinks : (o : Option ℕ) (s : State) → Shrinks s (end_answered o s)
answered_shrinks None s = shrinks_still s
answered_shrinks (Some end) s = shrinks_same s (end_answered (Some end) s) refl refl refl

ends_shrinks : (es : List (ℕ × EndpointState)) (s : State) → Shrinks s (ends_answered es s)
ends_shrinks [] s = shrinks_still s
ends_shrinks (e ∷ es) s = let t = end_answered e.1.ending s in shrinks_then s t (ends_answered es t) (answered_shrinks e.1.ending s) (ends_shrinks es t)

begin_shrinks : (o : Option Waiting) (why : ConnectionStopReason) (s : State) → Shrinks s (begin_concluded o why s)
begin_shrinks None why s = shrinks_still s
begin_shrinks (Some (Accept name numbers)) why s = shrinks_still s
begin_shrinks (Some (Begin name)) why s = shrinks_same s (begin_concluded (Some (Begin name)) why s) refl refl refl

concluded_shrinks : (why : ConnectionStopReason) (s : State) → Shrinks s (concluded why s)
concluded_shrinks why s =
    let b = finished (halted why s) in
    let c = ends_answered b.endpoints b in
    let d = without_ends c in
    shrinks_then s b (concluded why s) (shrinks_same s b refl refl refl)
    (shrinks_then b c (concluded why s) (ends_shrinks b.endpoints b)
    (shrinks_then c d (concluded why s) (shrinks_same c d refl refl refl) (begin_shrinks d.waiting why d)))

-- ---- deeds

-- no session is made, and no frame read
abbrev pub IsPlain : Deed → Type 0
IsPlain (Begins name x channel limit) = ⊥
IsPlain (Accepts name x channel limit incoming) = ⊥
IsPlain (Hears x) = ⊥
IsPlain d = Unit {0}

shrunk : (old t new : State) → new ≡ t → Shrinks old t → Shrinks old new
shrunk old t new e p = subst (λ s. Shrinks old s) (sym e) p

pub plain_shrinks : (d : Deed) (old new : State) → IsDeed old d new → IsPlain d → Shrinks old new
plain_shrinks (Begins name x channel limit) old new h plain = absurd plain
plain_shrinks (Accepts name x channel limit incoming) old new h plain = absurd plain
plain_shrinks (Hears x) old new h plain = absurd plain
plain_shrinks (Awaits name x) old new h plain = shrunk old (awaiting name x old) new h (shrinks_same old (awaiting name x old) refl refl refl)
plain_shrinks (Refuses name why) old new h plain = shrunk old (refused name why old) new h (shrinks_same old (refused name why old) refl refl refl)
plain_shrinks (Ends name session condition) old new h plain = shrunk old (ended name session condition old) new h (end_shrinks (endpoint_of session old) name session condition old)
plain_shrinks (HandsOut name) old new h plain = shrunk old (handed_out name old) new h (handed_shrinks name old)
plain_shrinks (Halts why) old new h plain = shrunk old (halted why old) new h (shrinks_same old (halted why old) refl refl refl)
plain_shrinks (Concludes why) old new h plain = shrunk old (concluded why old) new h (concluded_shrinks why old)
plain_shrinks (Writes x) old new h plain = shrinks_same old new (ap (λ s. s.channels) h.1) (ap (λ s. s.remotes) h.1) (ap (λ s. s.early) h.1)
plain_shrinks (Frees channel) old new h plain = shrinks_same old new (ap (λ s. s.channels) h.1) (ap (λ s. s.remotes) h.1) (ap (λ s. s.early) h.1)
plain_shrinks (Gives session x) old new h plain = shrinks_same old new (ap (λ s. s.channels) h.1) (ap (λ s. s.remotes) h.1) (ap (λ s. s.early) h.1)
plain_shrinks (Takes session x) old new h plain = shrunk old (written session x old) new h (written_shrinks (endpoint_of session old) session x old)
plain_shrinks (Lacks session) old new h plain = shrunk old (refusing session old) new h (refusing_shrinks (endpoint_of session old) session old)
plain_shrinks Tells old new h plain = shrinks_same old new (ap (λ s. s.channels) h) (ap (λ s. s.remotes) h) (ap (λ s. s.early) h)

plain_other : (d : Deed) → IsPlain d → (n : ℕ) → IsOther n d
plain_other (Begins name x channel limit) plain n = absurd plain
plain_other (Accepts name x channel limit incoming) plain n = absurd plain
plain_other (Hears x) plain n = tt
plain_other (Awaits name x) plain n = tt
plain_other (Refuses name why) plain n = tt
plain_other (Ends name session condition) plain n = tt
plain_other (HandsOut name) plain n = tt
plain_other (Halts why) plain n = tt
plain_other (Concludes why) plain n = tt
plain_other (Writes x) plain n = tt
plain_other (Frees channel) plain n = tt
plain_other (Gives session x) plain n = tt
plain_other (Takes session x) plain n = tt
plain_other (Lacks session) plain n = tt
plain_other Tells plain n = tt

plain_sound : (d : Deed) (old new : State) → IsDeed old d new → IsPlain d → AreSound old → AreSound new
plain_sound d old new h plain s =
    let g = one_session_lives d old new h s.keyed in
    sound_by (λ n. share (came_of d old n) (own n g.wrote) (own n g.gave)) old new s g.keyed (λ n. g.each n (plain_other d plain n)) (plain_shrinks d old new h plain)

pub one_sound : (d : Deed) (old new : State) → IsDeed old d new → IsNewIn d old → AreSound old → AreSound new
one_sound (Begins name x channel limit) old new h u s = subst AreSound (sym h) (begun_sound name x channel limit old s u)
one_sound (Accepts name x channel limit incoming) old new h u s = subst AreSound (sym h) (accepted_sound name x channel limit incoming old s u)
one_sound (Hears x) old new h u s = subst AreSound (sym h) (heard_sound x old s)
one_sound (Awaits name x) old new h u s = plain_sound (Awaits name x) old new h tt s
one_sound (Refuses name why) old new h u s = plain_sound (Refuses name why) old new h tt s
one_sound (Ends name session condition) old new h u s = plain_sound (Ends name session condition) old new h tt s
one_sound (HandsOut name) old new h u s = plain_sound (HandsOut name) old new h tt s
one_sound (Halts why) old new h u s = plain_sound (Halts why) old new h tt s
one_sound (Concludes why) old new h u s = plain_sound (Concludes why) old new h tt s
one_sound (Writes x) old new h u s = plain_sound (Writes x) old new h tt s
one_sound (Frees channel) old new h u s = plain_sound (Frees channel) old new h tt s
one_sound (Gives session x) old new h u s = plain_sound (Gives session x) old new h tt s
one_sound (Takes session x) old new h u s = plain_sound (Takes session x) old new h tt s
one_sound (Lacks session) old new h u s = plain_sound (Lacks session) old new h tt s
one_sound Tells old new h u s = plain_sound Tells old new h tt s

pub sound_is_kept : SoundIsKept
sound_is_kept [] old new did u s = subst AreSound (sym did) s
sound_is_kept (d ∷ ds) old new did u s = sound_is_kept ds did.0 new did.1.1 u.1 (one_sound d old did.0 did.1.0 u.0 s)

pub none_is_sound : NoneIsSound
unfolding IsDistinct
none_is_sound = record { keyed = tt; channels = tt; remotes = tt; own = λ c n e led at. cc; peer = λ c n e led at. cc; speaks = λ n e at. cc; kept = tt; early = λ c xs at. cc }

-- ---- what a session hears

hears_at : (o : Option ℕ) (n : ℕ) (e : EndpointState) (x : Framed) (s : State) → AreSound s → endpoint_of n s ≡ Some e → answered_channel x.body ≡ o → name_at o x.channel s ≡ Some n → IsOf e x
hears_at (Some c) n e x s sound at is place = inl (is ∙ ap Some (sym (sound.own c n e place at)))
hears_at None n e x s sound at is place = inr (is, sound.peer x.channel n e place at)

pub hears_its_own : HearsItsOwn
hears_its_own n e x s sound at place = hears_at (answered_channel x.body) n e x s sound at refl place
