-- What the sessions of an end put out, and what stands of them behind a frame, a call and a stop.
use Rattle.std.proofs.Common.{◌≡◌, inl, cond, ◌∙◌, ap, subst, refl, sym, append_assoc, ℕ, nat_eq, Bool, true, false, is_none, List, [], ◌∷◌, ◌++◌, map, All, Contains, Option, Some, None}
use Rattle.std.proofs.lemmas.List.{append-nil, map-append}
use Rattle.std.proofs.lemmas.List.Elements.{All-map, All-filter, All-weaker, All-cons, All-nil, All-push, Contains-push}
use Rattle.std.specs.Map.{values_of, lookup, set_value}
use Rattle.indexmap.specs.IndexMap.{swap_remove_entry}
use Rattle.amqp_calls.specs.declared.call.SessionNumbers.{SessionNumbers}
use Rattle.amqp_frames.specs.declared.body.FrameBody.TheVariants as b
use Rattle.amqp_frames.specs.declared.shared.ConnectionStopReason.{ConnectionStopReason}
use Rattle.amqp_frames.specs.declared.shared.IncomingSession.{IncomingSession}
use Rattle.amqp_frames.specs.declared.shared.LinkFrame.{LinkFrame}
use Rattle.amqp_frames.specs.declared.shared.SessionStopReason.{SessionStopReason}
use Rattle.amqp_frames.specs.declared.shared.SessionStopReason.TheVariants as reason
use Rattle.amqp_frames.specs.declared.body.FrameBody.{FrameBody}
use Rattle.amqp_session.specs.declared.error.BeginError.TheVariants.{RemoteEnded}
use Rattle.amqp_session.specs.declared.error.Error.{Error}
use Rattle.amqp_session.specs.declared.session.SessionState.{SessionState}
use Rattle.amqp_session.specs.declared.session.SessionState.TheVariants as state
use Rattle.amqp_session.specs.Begin as session
use Rattle.amqp_session.specs.declared.error.Fault.{Fault}
use Rattle.amqp_session.specs.declared.error.Fault.TheVariants as fault
use Rattle.amqp_session.specs.State.{Framed}
use Rattle.amqp_sessions.specs.declared.endpoint.Change.{Change}
use Rattle.amqp_sessions.specs.declared.endpoint.Change.TheVariants.{Same, Begun, Refused, Gone, Answered}
use Rattle.amqp_sessions.specs.declared.sessions.Waiting.{Waiting}
use Rattle.amqp_sessions.specs.declared.sessions.Waiting.TheVariants.{Begin, Accept}
use Rattle.amqp_sessions.specs.Calls.{settings, entered, begun, left_in, left_at, left, end_told, end_at}
use Rattle.amqp_sessions.specs.Endpoint.{hearing, change_of, having_heard, having_written, having_refused, error_of, asking_end, waits_for, having_asked, cut, over, emptied}
use Rattle.amqp_sessions.specs.Laws.{IsBegin}
use Rattle.amqp_sessions.specs.Frames.{answered_channel, name_at, place_of, joined, refused, freed_at, freed_own, freed, concluding_for, concluding, changed, hearing_at, kept_at, kept, heard_by, heard, heard_all, written_at, refusing_at}
use Rattle.amqp_sessions.specs.Parts.{EndpointState, idle, with_session}
use Rattle.amqp_sessions.specs.State.{State, endpoint_of, with_endpoint, let_go, handing, handed_out}
use Rattle.amqp_sessions.specs.Stops.{halting, halted, turned_entry, finished, end_answered, ends_answered, ends_concluded, begin_concluded, concluded}
use Rattle.session_answers.specs.Past.{Past, IsOn, HasBegun}
use Rattle.session_answers.specs.Causes.{IsFaulty, StopCause}
use Rattle.session_answers.specs.Standing.{under, EndpointStands, OwnStands, PeerStands, WaitingStands}
use Rattle.amqp_sessions.proofs.Meant.{found_set as set_is_found}
use Rattle.session_answers.proofs.Entries.{all_inserted, all_set, all_found, all_gone}
use Rattle.session_answers.proofs.Moves.{FaultAt, StopAt, NoFault, NoReason, IsAstray, IsOwn, hears, tells, refuses_attach, asks_end, cut_moves}
use Rattle.session_answers.proofs.Parts.{Grows, adding, grows_adding, values_under, peer_grows, endpoints_grow, channels_grow, remotes_grow, waiting_grows, endpoint_moves, endpoint_puts, endpoint_empties}

-- sessions, the channels that lead to them, the frames that none has heard yet, and the call that waits
pub record Tables (p : Past) (s : State) : Type 0 where
  pub endpoints : All (EndpointStands p) s.endpoints
  pub channels : All (OwnStands p) s.channels
  pub remotes : All (PeerStands p) s.remotes
  pub early : All (λ e. All (Contains p.read) e.1) s.early
  pub waiting : WaitingStands p s.waiting

early_grow : (p q : Past) (es : List (ℕ × List Framed)) → Grows p q → All (λ e. All (Contains p.read) e.1) es → All (λ e. All (Contains q.read) e.1) es
early_grow p q es g k =
    All-weaker (λ (e : ℕ × List Framed). All (Contains p.read) e.1) (λ (e : ℕ × List Framed). All (Contains q.read) e.1)
    (λ e h. All-weaker (Contains p.read) (Contains q.read) g.read e.1 h) es k

pub tables_grow : (p q : Past) (s : State) → Grows p q → Tables p s → Tables q s
tables_grow p q s g k = record {
  endpoints = endpoints_grow p q s.endpoints g k.endpoints;
  channels = channels_grow p q s.channels g k.channels;
  remotes = remotes_grow p q s.remotes g k.remotes;
  early = early_grow p q s.early g k.early;
  waiting = waiting_grows p q s.waiting g k.waiting;
}

-- ---- what is put out

-- all that a session has to write, if there is such a session
abbrev pub put : ℕ → Option EndpointState → List (ℕ × Framed)
put name None = []
put name (Some e) = under name e.session.output

abbrev pub put_by_hearing : ℕ → Framed → Option EndpointState → List (ℕ × Framed)
put_by_hearing name x None = []
put_by_hearing name x (Some e) = under name (having_heard x e).session.output

abbrev pub put_at : Option ℕ → Framed → State → List (ℕ × Framed)
put_at None x s = []
put_at (Some name) x s = put_by_hearing name x (endpoint_of name s)

-- by a frame that is read
abbrev pub put_heard : Framed → State → List (ℕ × Framed)
put_heard x s = put_at (place_of x s) x s

abbrev pub put_all : List Framed → State → List (ℕ × Framed)
put_all [] s = []
put_all (x ∷ xs) s = put_heard x s ++ put_all xs (heard x s)

abbrev pub put_early_at : Option (List Framed) → ℕ → State → List (ℕ × Framed)
put_early_at None remote s = []
put_early_at (Some xs) remote s = put_all xs (record s { early = swap_remove_entry (nat_eq remote) s.early })

abbrev pub put_early : ℕ → State → List (ℕ × Framed)
put_early remote s = put_early_at (lookup (nat_eq remote) s.early) remote s

-- by a frame of a link, and for an Attach that has no place
abbrev pub put_written : ℕ → LinkFrame → Option EndpointState → List (ℕ × Framed)
put_written name x None = []
put_written name x (Some e) = under name (having_written x e).session.output

abbrev pub put_refusing : ℕ → Option EndpointState → List (ℕ × Framed)
put_refusing name None = []
put_refusing name (Some e) = under name (having_refused e).session.output

-- ---- the same sessions and channels, or fewer

pub record Keeps (p : Past) (s t : State) : Type 0 where
  pub endpoints : All (EndpointStands p) s.endpoints → All (EndpointStands p) t.endpoints
  pub channels : All (OwnStands p) s.channels → All (OwnStands p) t.channels
  pub remotes : All (PeerStands p) s.remotes → All (PeerStands p) t.remotes
  pub early : t.early ≡ s.early
  pub waiting : WaitingStands p s.waiting → WaitingStands p t.waiting
  pub output : t.output ≡ s.output

-- other parts change
keeps_same : (p : Past) (s t : State) → t.endpoints ≡ s.endpoints → t.channels ≡ s.channels → t.remotes ≡ s.remotes → t.early ≡ s.early → t.waiting ≡ s.waiting → t.output ≡ s.output → Keeps p s t
keeps_same p s t a c r f w o = record {
  endpoints = λ h. subst (All (EndpointStands p)) (sym a) h;
  channels = λ h. subst (All (OwnStands p)) (sym c) h;
  remotes = λ h. subst (All (PeerStands p)) (sym r) h;
  early = f;
  waiting = λ h. subst (WaitingStands p) (sym w) h;
  output = o;
}

keeps_then : (p : Past) (s t u : State) → Keeps p s t → Keeps p t u → Keeps p s u
keeps_then p s t u a c = record {
  endpoints = λ h. c.endpoints (a.endpoints h);
  channels = λ h. c.channels (a.channels h);
  remotes = λ h. c.remotes (a.remotes h);
  early = c.early ∙ a.early;
  waiting = λ h. c.waiting (a.waiting h);
  output = c.output ∙ a.output;
}

-- a session is let go
keeps_gone : (p : Past) (name : ℕ) (s : State) → Keeps p s (let_go name s)
keeps_gone p name s = record { endpoints = λ h. all_gone (EndpointStands p) (nat_eq name) s.endpoints h; channels = λ h. h; remotes = λ h. h; early = refl; waiting = λ h. h; output = refl }

-- the call waits no more
waits_no_more : (p : Past) (s t : State) → t.endpoints ≡ s.endpoints → t.channels ≡ s.channels → t.remotes ≡ s.remotes → t.early ≡ s.early → t.waiting ≡ None → t.output ≡ s.output → Keeps p s t
waits_no_more p s t a c r f w o = record {
  endpoints = λ h. subst (All (EndpointStands p)) (sym a) h;
  channels = λ h. subst (All (OwnStands p)) (sym c) h;
  remotes = λ h. subst (All (PeerStands p)) (sym r) h;
  early = f;
  waiting = λ h. subst (WaitingStands p) (sym w) tt;
  output = o;
}

freed_at_keeps : (p : Past) (o : Option EndpointState) (s : State) → Keeps p s (freed_at o s)
freed_at_keeps p None s = keeps_same p s s refl refl refl refl refl refl
freed_at_keeps p (Some e) s = record { endpoints = λ h. h; channels = λ h. all_gone (OwnStands p) (nat_eq e.session.channel) s.channels h; remotes = λ h. h; early = refl; waiting = λ h. h; output = refl }

freed_keeps : (p : Past) (name remote : ℕ) (s : State) → Keeps p s (freed name remote s)
freed_keeps p name remote s =
    let t : State = record s { remotes = swap_remove_entry (nat_eq remote) s.remotes } in
    let gone : Keeps p s t = record { endpoints = λ h. h; channels = λ h. h; remotes = λ h. all_gone (PeerStands p) (nat_eq remote) s.remotes h; early = refl; waiting = λ h. h; output = refl } in
    keeps_then p s t (freed name remote s) gone (freed_at_keeps p (endpoint_of name t) t)

concluding_for_keeps : (p : Past) (o : Option ℕ) (is_left : Bool) (name : ℕ) (e : Option Error) (s : State) → Keeps p s (concluding_for o is_left name e s)
concluding_for_keeps p (Some end) is_left name e s =
    keeps_then p s (let_go name s) _ (keeps_gone p name s) (keeps_same p (let_go name s) _ refl refl refl refl refl refl)
concluding_for_keeps p None true name e s = keeps_gone p name s
concluding_for_keeps p None false name e s = keeps_same p s s refl refl refl refl refl refl

concluding_keeps : (p : Past) (o : Option EndpointState) (name : ℕ) (e : Option Error) (s : State) → Keeps p s (concluding o name e s)
concluding_keeps p None name e s = keeps_same p s s refl refl refl refl refl refl
concluding_keeps p (Some d) name e s = concluding_for_keeps p d.ending d.is_left name e s

-- a session stands on a channel of the peer, which has begun it on that
joined_keeps : (p : Past) (name remote : ℕ) (s : State) → HasBegun p name remote → Keeps p s (joined name remote s)
joined_keeps p name remote s there = record {
  endpoints = λ h. h;
  channels = λ h. h;
  remotes = λ h. all_inserted (PeerStands p) remote name s.remotes there h;
  early = refl;
  waiting = λ h. tt;
  output = refl;
}

changed_keeps : (p : Past) (c : Change) (name remote : ℕ) (e : Option Error) (s : State) → HasBegun p name remote → Keeps p s (changed c name remote e s)
changed_keeps p Same name remote e s there = keeps_same p s s refl refl refl refl refl refl
changed_keeps p Begun name remote e s there = joined_keeps p name remote s there
changed_keeps p Refused name remote e s there =
    let t : State = freed_own name s in
    let u : State = let_go name t in
    keeps_then p s u (refused name RemoteEnded u) (keeps_then p s t u (freed_at_keeps p (endpoint_of name s) s) (keeps_gone p name t)) (waits_no_more p u (refused name RemoteEnded u) refl refl refl refl refl refl)
changed_keeps p Gone name remote e s there = freed_keeps p name remote s
changed_keeps p Answered name remote e s there =
    keeps_then p s (freed name remote s) _ (freed_keeps p name remote s) (concluding_keeps p (endpoint_of name s) name e (freed name remote s))

pub tables_kept : (p : Past) (s t : State) → Keeps p s t → Tables p s → Tables p t
tables_kept p s t k h = record {
  endpoints = k.endpoints h.endpoints;
  channels = k.channels h.channels;
  remotes = k.remotes h.remotes;
  early = subst (All (λ e. All (Contains p.read) e.1)) (sym k.early) h.early;
  waiting = k.waiting h.waiting;
}

-- ---- frames go out

found_as : (p : Past) (name : ℕ) (o : Option EndpointState) (s : State) → endpoint_of name s ≡ o → Tables p s → Tables (adding (put name o) p) (handing name o s)
found_as p name None s there h = tables_grow p (adding [] p) s (grows_adding [] p) h
found_as p name (Some e) s there h =
    let w : List (ℕ × Framed) = under name e.session.output in
    let q : Past = adding w p in
    let one : EndpointStands q (name, emptied e) = endpoint_empties p name e (all_found (EndpointStands p) name e s.endpoints there h.endpoints) in
    let g : Tables q s = tables_grow p q s (grows_adding w p) h in
    record { endpoints = all_set (EndpointStands q) name _ s.endpoints one g.endpoints; channels = g.channels; remotes = g.remotes; early = g.early; waiting = g.waiting }

pub handed_tables : (p : Past) (name : ℕ) (s : State) → Tables p s → Tables (adding (put name (endpoint_of name s)) p) (handed_out name s)
handed_tables p name s h = found_as p name (endpoint_of name s) s refl h

handing_output : (name : ℕ) (o : Option EndpointState) (s : State) → (handing name o s).output ≡ s.output ++ values_of (put name o)
handing_output name None s = sym (append-nil s.output)
handing_output name (Some e) s = ap (λ (xs : List Framed). s.output ++ xs) (sym (values_under name e.session.output))

pub handed_output : (name : ℕ) (s : State) → (handed_out name s).output ≡ s.output ++ values_of (put name (endpoint_of name s))
handed_output name s = handing_output name (endpoint_of name s) s

-- a session of the table goes on, and what it has to write goes out
goes_tables : (p : Past) (name : ℕ) (e f : EndpointState) (s : State) → endpoint_of name s ≡ Some e → EndpointStands p (name, f) → Tables p s → Tables p (with_endpoint name f s)
goes_tables p name e f s there one h = record { endpoints = all_set (EndpointStands p) name f s.endpoints one h.endpoints; channels = h.channels; remotes = h.remotes; early = h.early; waiting = h.waiting }

found_set : (k : ℕ) (es : List (ℕ × EndpointState)) (e f : EndpointState) → lookup (nat_eq k) es ≡ Some e → lookup (nat_eq k) (set_value (nat_eq k) es f) ≡ Some f
found_set k es e f there = set_is_found (nat_eq k) es e f there

-- a value that is set twice
set_twice : {X : Type 0} (test : ℕ → Bool) (es : List (ℕ × X)) (v w : X) → set_value test (set_value test es v) w ≡ set_value test es w
set_twice test [] v w = refl
set_twice {X} test (e ∷ es) v w = by (test e.0) refl (set_twice test es v w)
  where
    by : (c : Bool) → test e.0 ≡ c → set_value test (set_value test es v) w ≡ set_value test es w → set_value test (cond c ((e.0, v) ∷ es) (e ∷ set_value test es v)) w ≡ cond c ((e.0, w) ∷ es) (e ∷ set_value test es w)
    by true t rest = ap (λ d. cond d ((e.0, w) ∷ es) ((e.0, v) ∷ set_value test es w)) t
    by false t rest = ap (λ d. cond d ((e.0, w) ∷ set_value test es v) (e ∷ set_value test (set_value test es v) w)) t ∙ ap (λ (u : List (ℕ × X)). e ∷ u) rest

out_tables : (p : Past) (name : ℕ) (e f : EndpointState) (s : State) → endpoint_of name s ≡ Some e → EndpointStands (adding (under name f.session.output) p) (name, emptied f) → Tables p s
    → Tables (adding (under name f.session.output) p) (handed_out name (with_endpoint name f s))
out_tables p name e f s there one h =
    let w : List (ℕ × Framed) = under name f.session.output in
    let q : Past = adding w p in
    let t : State = with_endpoint name f s in
    let g : Tables q s = tables_grow p q s (grows_adding w p) h in
    let all : All (EndpointStands q) (set_value (nat_eq name) t.endpoints (emptied f)) =
    subst (All (EndpointStands q)) (sym (set_twice (nat_eq name) s.endpoints f (emptied f))) (all_set (EndpointStands q) name (emptied f) s.endpoints one g.endpoints) in
    subst (λ (o : Option EndpointState). Tables q (handing name o t)) (sym (found_set name s.endpoints e f there))
    (record { endpoints = all; channels = g.channels; remotes = g.remotes; early = g.early; waiting = g.waiting })

out_output : (name : ℕ) (e f : EndpointState) (s : State) → endpoint_of name s ≡ Some e → (handed_out name (with_endpoint name f s)).output ≡ s.output ++ values_of (under name f.session.output)
out_output name e f s there =
    let t : State = with_endpoint name f s in
    handed_output name t ∙ ap (λ (o : Option EndpointState). s.output ++ values_of (put name o)) (found_set name s.endpoints e f there)

-- ---- nothing goes out

freed_at_output : (o : Option EndpointState) (s : State) → (freed_at o s).output ≡ s.output
freed_at_output None s = refl
freed_at_output (Some e) s = refl

freed_output : (name remote : ℕ) (s : State) → (freed name remote s).output ≡ s.output
freed_output name remote s = freed_at_output (endpoint_of name (record s { remotes = swap_remove_entry (nat_eq remote) s.remotes })) (record s { remotes = swap_remove_entry (nat_eq remote) s.remotes })

concluding_for_output : (o : Option ℕ) (is_left : Bool) (name : ℕ) (e : Option Error) (s : State) → (concluding_for o is_left name e s).output ≡ s.output
concluding_for_output (Some end) is_left name e s = refl
concluding_for_output None true name e s = refl
concluding_for_output None false name e s = refl

concluding_output : (o : Option EndpointState) (name : ℕ) (e : Option Error) (s : State) → (concluding o name e s).output ≡ s.output
concluding_output None name e s = refl
concluding_output (Some d) name e s = concluding_for_output d.ending d.is_left name e s

-- ---- a frame is read

-- a Begin that answers one is a Begin
answers_begin : (body : FrameBody) (channel : ℕ) → answered_channel body ≡ Some channel → IsBegin body
answers_begin (b.Begin x) channel h = tt
answers_begin (b.Open x) channel h = cc
answers_begin (b.Attach x) channel h = cc
answers_begin (b.Flow x) channel h = cc
answers_begin (b.Transfer x payload) channel h = cc
answers_begin (b.Disposition x) channel h = cc
answers_begin (b.Detach x) channel h = cc
answers_begin (b.End x) channel h = cc
answers_begin (b.Close x) channel h = cc
answers_begin b.Empty channel h = cc

-- the channel of a frame that leads to a session is one on which the peer has begun that
led_by : (p : Past) (x : Framed) (s : State) (name : ℕ) (o : Option ℕ) → answered_channel x.body ≡ o → name_at o x.channel s ≡ Some name → Contains p.read x → Tables p s → HasBegun p name x.channel
led_by p x s name None is there read h = all_found (PeerStands p) x.channel name s.remotes there h.remotes
led_by p x s name (Some channel) is there read h =
    let on : Contains p.channels (name, channel) = all_found (OwnStands p) channel name s.channels there h.channels in
    (x, (refl, ((answers_begin x.body channel is, inl (subst (λ (o : Option ℕ). IsOn p name o) (sym is) on)), read)))

pub led : (p : Past) (x : Framed) (s : State) (name : ℕ) → place_of x s ≡ Some name → Contains p.read x → Tables p s → HasBegun p name x.channel
led p x s name there read h = led_by p x s name (answered_channel x.body) refl there read h

-- the faults and reasons that come of that frame have it for their cause
fault_at : (p : Past) (name : ℕ) (x : Framed) → HasBegun p name x.channel → Contains p.read x → (y : Fault) → FaultAt x.body y → IsFaulty y p name
fault_at p name x there read fault.UnattachedHandle k = (x, (k, (there, read)))
fault_at p name x there read fault.HandleInUse k = (x, (k, (there, read)))
fault_at p name x there read fault.TransferFrameToSender k = (x, (k, (there, read)))
fault_at p name x there read fault.RemoteAttachingLinkNameNotFound k = absurd k

stop_at : (p : Past) (name : ℕ) (x : Framed) → HasBegun p name x.channel → Contains p.read x → (why : SessionStopReason) → StopAt x.body why → StopCause why p name
stop_at p name x there read reason.RemoteEnded k = (x, (k, (there, read)))
stop_at p name x there read (reason.RemoteEndedWithError e) k = (x, (k, (there, read)))
stop_at p name x there read reason.Ended k = absurd k
stop_at p name x there read (reason.EndedWithError e) k = absurd k
stop_at p name x there read (reason.ConnectionStopped why) k = absurd k

heard_one : (p : Past) (name : ℕ) (x : Framed) (e : EndpointState) (s : State) → endpoint_of name s ≡ Some e → HasBegun p name x.channel → Contains p.read x → Tables p s
    → EndpointStands (adding (under name (having_heard x e).session.output) p) (name, emptied (having_heard x e))
heard_one p name x e s there led read h =
    endpoint_puts (FaultAt x.body) (StopAt x.body) p name e (having_heard x e) (hears x e.session) refl (fault_at p name x led read) (stop_at p name x led read) (all_found (EndpointStands p) name e s.endpoints there h.endpoints)

hearing_tables : (p : Past) (name : ℕ) (x : Framed) (o : Option EndpointState) (s : State) → endpoint_of name s ≡ o → HasBegun p name x.channel → Contains p.read x → Tables p s → Tables (adding (put_by_hearing name x o) p) (hearing_at o name x s)
hearing_tables p name x None s there led read h = tables_grow p (adding [] p) s (grows_adding [] p) h
hearing_tables p name x (Some e) s there led read h =
    let f : EndpointState = having_heard x e in
    let w : List (ℕ × Framed) = under name f.session.output in
    let q : Past = adding w p in
    let t : State = handed_out name (with_endpoint name f s) in
    tables_kept q t _ (changed_keeps q (change_of x e) name x.channel (hearing x e).answer t (peer_grows p q name x.channel (grows_adding w p) led)) (out_tables p name e f s there (heard_one p name x e s there led read h) h)

-- what it has to write goes out, whatever comes of it
changed_output : (c : Change) (name remote : ℕ) (e : Option Error) (s : State) → (changed c name remote e s).output ≡ s.output
changed_output Same name remote e s = refl
changed_output Begun name remote e s = refl
changed_output Refused name remote e s = freed_at_output (endpoint_of name s) s
changed_output Gone name remote e s = freed_output name remote s
changed_output Answered name remote e s = concluding_output (endpoint_of name s) name e (freed name remote s) ∙ freed_output name remote s

hearing_output : (name : ℕ) (x : Framed) (o : Option EndpointState) (s : State) → endpoint_of name s ≡ o → (hearing_at o name x s).output ≡ s.output ++ values_of (put_by_hearing name x o)
hearing_output name x None s there = sym (append-nil s.output)
hearing_output name x (Some e) s there =
    let f : EndpointState = having_heard x e in
    let t : State = handed_out name (with_endpoint name f s) in
    changed_output (change_of x e) name x.channel (hearing x e).answer t ∙ out_output name e f s there

kept_tables : (p : Past) (o : Option (List Framed)) (x : Framed) (s : State) → lookup (nat_eq x.channel) s.early ≡ o → Contains p.read x → Tables p s → Tables p (kept_at o x s)
kept_tables p None x s there read h = record {
  endpoints = h.endpoints;
  channels = h.channels;
  remotes = h.remotes;
  early = all_inserted (λ e. All (Contains p.read) e.1) x.channel (x ∷ []) s.early (All-cons (Contains p.read) x [] read (All-nil (Contains p.read))) h.early;
  waiting = h.waiting;
}
kept_tables p (Some xs) x s there read h =
    let own : All (Contains p.read) xs = all_found (λ e. All (Contains p.read) e.1) x.channel xs s.early there h.early in
    record { endpoints = h.endpoints; channels = h.channels; remotes = h.remotes; early = all_set (λ e. All (Contains p.read) e.1) x.channel (xs ++ x ∷ []) s.early (All-push (Contains p.read) xs x own read) h.early; waiting = h.waiting }

kept_output : (o : Option (List Framed)) (x : Framed) (s : State) → (kept_at o x s).output ≡ s.output
kept_output None x s = refl
kept_output (Some xs) x s = refl

by_tables : (p : Past) (o : Option ℕ) (x : Framed) (s : State) → place_of x s ≡ o → Contains p.read x → Tables p s → Tables (adding (put_at o x s) p) (heard_by o x s)
by_tables p None x s is read h =
    let t : State = kept x s in
    tables_grow p (adding [] p) t (grows_adding [] p) (kept_tables p (lookup (nat_eq x.channel) s.early) x s refl read h)
by_tables p (Some name) x s is read h = hearing_tables p name x (endpoint_of name s) s refl (led p x s name is read h) read h

pub heard_tables : (p : Past) (x : Framed) (s : State) → Contains p.read x → Tables p s → Tables (adding (put_heard x s) p) (heard x s)
heard_tables p x s read h = by_tables p (place_of x s) x s refl read h

by_output : (o : Option ℕ) (x : Framed) (s : State) → (heard_by o x s).output ≡ s.output ++ values_of (put_at o x s)
by_output None x s = kept_output (lookup (nat_eq x.channel) s.early) x s ∙ sym (append-nil s.output)
by_output (Some name) x s = hearing_output name x (endpoint_of name s) s refl

pub heard_output : (x : Framed) (s : State) → (heard x s).output ≡ s.output ++ values_of (put_heard x s)
heard_output x s = by_output (place_of x s) x s

values_both : (a c : List (ℕ × Framed)) → values_of (a ++ c) ≡ values_of a ++ values_of c
values_both a c = map-append (λ (e : ℕ × Framed). e.1) a c

-- the past, of which sessions put out the one, and then the other
pub adding_then : (a c : List (ℕ × Framed)) (p : Past) → adding c (adding a p) ≡ adding (a ++ c) p
adding_then a c p = ap (λ (w : List (ℕ × Framed)). record p { written = w }) (append_assoc p.written a c)

pub output_then : (s t u : State) (a c : List (ℕ × Framed)) → t.output ≡ s.output ++ values_of a → u.output ≡ t.output ++ values_of c → u.output ≡ s.output ++ values_of (a ++ c)
output_then s t u a c x y =
    y ∙ ap (λ (o : List Framed). o ++ values_of c) x ∙ append_assoc s.output (values_of a) (values_of c) ∙ ap (λ (o : List Framed). s.output ++ o) (sym (values_both a c))

pub all_output : (xs : List Framed) (s : State) → (heard_all xs s).output ≡ s.output ++ values_of (put_all xs s)
all_output [] s = sym (append-nil s.output)
all_output (x ∷ xs) s = output_then s (heard x s) (heard_all xs (heard x s)) (put_heard x s) (put_all xs (heard x s)) (heard_output x s) (all_output xs (heard x s))

-- ---- links

pub written_tables : (p : Past) (name : ℕ) (x : LinkFrame) (o : Option EndpointState) (s : State) → endpoint_of name s ≡ o → Tables p s → Tables (adding (put_written name x o) p) (written_at o name x s)
written_tables p name x None s there h = tables_grow p (adding [] p) s (grows_adding [] p) h
written_tables p name x (Some e) s there h =
    out_tables p name e (having_written x e) s there (endpoint_puts NoFault NoReason p name e (having_written x e) (tells e.session.state x e.session) refl (λ y k. absurd k) (λ why k. absurd k) (all_found (EndpointStands p) name e s.endpoints there h.endpoints)) h

pub written_output : (name : ℕ) (x : LinkFrame) (o : Option EndpointState) (s : State) → endpoint_of name s ≡ o → (written_at o name x s).output ≡ s.output ++ values_of (put_written name x o)
written_output name x None s there = sym (append-nil s.output)
written_output name x (Some e) s there = out_output name e (having_written x e) s there

astray_at : (p : Past) (name : ℕ) → Contains p.astray name → (x : Fault) → IsAstray x → IsFaulty x p name
astray_at p name there x k = subst (λ (y : Fault). IsFaulty y p name) (sym k) there

pub refusing_tables : (p : Past) (name : ℕ) (o : Option EndpointState) (s : State) → endpoint_of name s ≡ o → Contains p.astray name → Tables p s → Tables (adding (put_refusing name o) p) (refusing_at o name s)
refusing_tables p name None s there lacks h = tables_grow p (adding [] p) s (grows_adding [] p) h
refusing_tables p name (Some e) s there lacks h =
    let one : EndpointStands p (name, e) = all_found (EndpointStands p) name e s.endpoints there h.endpoints in
    out_tables p name e (having_refused e) s there
    (endpoint_puts IsAstray NoReason p name e (having_refused e) (refuses_attach e.session.state e.session) refl (astray_at p name lacks) (λ why k. absurd k) one) h

pub refusing_output : (name : ℕ) (o : Option EndpointState) (s : State) → endpoint_of name s ≡ o → (refusing_at o name s).output ≡ s.output ++ values_of (put_refusing name o)
refusing_output name None s there = sym (append-nil s.output)
refusing_output name (Some e) s there = out_output name e (having_refused e) s there

-- ---- calls

-- a session whose Begin is about to go out
begun_one : (p : Past) (name : ℕ) (x : SessionNumbers) (channel limit : ℕ) → Contains p.begins name → EndpointStands p (name, idle (session.begun (settings x limit) channel))
begun_one p name x channel limit there =
    let f : Framed = record { channel = channel; body = b.Begin (session.begin_of (settings x limit) None) } in
    record {
      made = λ h. there;
      begun = λ h. (f, (tt, Contains-push p.written (name, f)));
      ended = λ h. cc;
      ending = λ n h. cc;
      lasts = λ h. tt;
      faulty = λ y h. cc;
      stopped = λ why f h. cc;
    }

pub begun_tables : (p : Past) (name : ℕ) (x : SessionNumbers) (channel limit : ℕ) (s : State) → Contains p.begins name → Contains p.channels (name, channel) → Tables p s → Tables p (begun name x channel limit s)
begun_tables p name x channel limit s there on h = record {
  endpoints = all_inserted (EndpointStands p) name _ s.endpoints (begun_one p name x channel limit there) h.endpoints;
  channels = all_inserted (OwnStands p) channel name s.channels on h.channels;
  remotes = h.remotes;
  early = h.early;
  waiting = there;
}

-- one that both ends have begun
accepted_one : (p : Past) (name : ℕ) (x : SessionNumbers) (channel limit : ℕ) (incoming : IncomingSession) → EndpointStands p (name, idle (session.accepted (settings x limit) channel incoming))
accepted_one p name x channel limit incoming = record {
  made = λ h. cc;
  begun = λ h. cc;
  ended = λ h. cc;
  ending = λ n h. cc;
  lasts = λ h. tt;
  faulty = λ y h. cc;
  stopped = λ why f h. cc;
}

pub joined_tables : (p : Past) (name : ℕ) (x : SessionNumbers) (channel limit : ℕ) (incoming : IncomingSession) (s : State) → Contains p.channels (name, channel) → HasBegun p name incoming.channel → Tables p s
    → Tables p (joined name incoming.channel (entered name channel (session.accepted (settings x limit) channel incoming) s))
joined_tables p name x channel limit incoming s on there h = record {
  endpoints = all_inserted (EndpointStands p) name _ s.endpoints (accepted_one p name x channel limit incoming) h.endpoints;
  channels = all_inserted (OwnStands p) channel name s.channels on h.channels;
  remotes = all_inserted (PeerStands p) incoming.channel name s.remotes there h.remotes;
  early = h.early;
  waiting = tt;
}

left_in_keeps : (p : Past) (phase : SessionState) (name : ℕ) (s : State) → Keeps p s (left_in phase name s)
left_in_keeps p state.EndSent name s = keeps_same p s s refl refl refl refl refl refl
left_in_keeps p state.BeginSent name s = keeps_gone p name s
left_in_keeps p state.Mapped name s = keeps_gone p name s
left_in_keeps p state.Unmapped name s = keeps_gone p name s

left_keeps : (p : Past) (o : Option EndpointState) (name : ℕ) (s : State) → Keeps p s (left_at o name s)
left_keeps p None name s = keeps_same p s s refl refl refl refl refl refl
left_keeps p (Some e) name s = left_in_keeps p e.session.state name s

told_keeps : (p : Past) (o : Option Error) (name session : ℕ) (s : State) → Keeps p s (end_told o name session s)
told_keeps p None name session s = keeps_same p s _ refl refl refl refl refl refl
told_keeps p (Some refusal) name session s =
    keeps_then p s (left session s) _ (left_keeps p (endpoint_of session s) session s) (keeps_same p (left session s) _ refl refl refl refl refl refl)

waits_one : (p : Past) (o : Option Error) (name session : ℕ) (e : EndpointState) → Contains p.endings (name, session) → EndpointStands p (session, e) → EndpointStands p (session, waits_for o name e)
waits_one p None name session e asked k = record {
  made = k.made;
  begun = k.begun;
  ended = k.ended;
  ending = λ n h. (let same : name ≡ n = cc in subst (λ (m : ℕ). Contains p.endings (m, session)) same asked);
  lasts = k.lasts;
  faulty = k.faulty;
  stopped = k.stopped;
}
waits_one p (Some refusal) name session e asked k = record { made = k.made; begun = k.begun; ended = k.ended; ending = k.ending; lasts = k.lasts; faulty = k.faulty; stopped = k.stopped }

own_stop : (p : Past) (name session : ℕ) → Contains p.endings (name, session) → (why : SessionStopReason) → IsOwn why → StopCause why p session
own_stop p name session asked reason.Ended k = (name, asked)
own_stop p name session asked (reason.EndedWithError e) k = (name, asked)
own_stop p name session asked reason.RemoteEnded k = absurd k
own_stop p name session asked (reason.RemoteEndedWithError e) k = absurd k
own_stop p name session asked (reason.ConnectionStopped why) k = absurd k

pub end_tables : (p : Past) (o : Option EndpointState) (name session : ℕ) (condition : Option (List ℕ)) (s : State) → endpoint_of session s ≡ o → Contains p.endings (name, session) → Tables p s → Tables p (end_at o name session condition s)
end_tables p None name session condition s there asked h = h
end_tables p (Some e) name session condition s there asked h =
    let m : EndpointState = with_session (asking_end condition e).state e in
    let f : EndpointState = having_asked name condition e in
    let t : State = with_endpoint session f s in
    let was : EndpointStands p (session, e) = all_found (EndpointStands p) session e s.endpoints there h.endpoints in
    let moved : EndpointStands p (session, m) = endpoint_moves IsOwn p session e m (asks_end e.session.state (error_of condition) e.session) refl (own_stop p name session asked) was in
    let one : EndpointStands p (session, f) = waits_one p (asking_end condition e).answer name session m asked moved in
    tables_kept p t _ (told_keeps p (asking_end condition e).answer name session t) (goes_tables p session e f s there one h)

pub end_output : (p : Past) (o : Option EndpointState) (name session : ℕ) (condition : Option (List ℕ)) (s : State) → (end_at o name session condition s).output ≡ s.output
end_output p None name session condition s = refl
end_output p (Some e) name session condition s =
    let t : State = with_endpoint session (having_asked name condition e) s in
    let k : Keeps p t (end_told (asking_end condition e).answer name session t) = told_keeps p (asking_end condition e).answer name session t in
    k.output

-- ---- a stop

-- for that reason of a connection
abbrev pub IsCut : ConnectionStopReason → SessionStopReason → Type 0
IsCut why w = reason.ConnectionStopped why ≡ w

cut_for : (p : Past) (why : ConnectionStopReason) (name : ℕ) → Contains p.stops why → (w : SessionStopReason) → IsCut why w → StopCause w p name
cut_for p why name told w k = subst (λ (v : SessionStopReason). StopCause v p name) k told

cut_one : (p : Past) (why : ConnectionStopReason) (e : ℕ × EndpointState) → Contains p.stops why → EndpointStands p e → EndpointStands p (e.0, cut why e.1)
cut_one p why e told k =
    endpoint_moves (IsCut why) p e.0 e.1 (cut why e.1) (cut_moves NoFault (IsCut why) (reason.ConnectionStopped why) e.1.session refl) refl (cut_for p why e.0 told) k

halting_one : (p : Past) (why : ConnectionStopReason) → Contains p.stops why → (e : ℕ × EndpointState) → EndpointStands p e → EndpointStands p (turned_entry (halting why) e)
halting_one p why told e k =
    let c : EndpointStands p (e.0, cut why e.1) = cut_one p why e told k in
    record { made = c.made; begun = c.begun; ended = c.ended; ending = c.ending; lasts = c.lasts; faulty = c.faulty; stopped = c.stopped }

over_one : (p : Past) (e : ℕ × EndpointState) → EndpointStands p e → EndpointStands p (turned_entry over e)
over_one p e k = record { made = k.made; begun = k.begun; ended = k.ended; ending = k.ending; lasts = k.lasts; faulty = k.faulty; stopped = k.stopped }

turned_all : (p : Past) (turn : EndpointState → EndpointState) (es : List (ℕ × EndpointState)) → ((e : ℕ × EndpointState) → EndpointStands p e → EndpointStands p (turned_entry turn e)) → All (EndpointStands p) es → All (EndpointStands p) (map (turned_entry turn) es)
turned_all p turn es f h = All-map (EndpointStands p) (turned_entry turn) es (All-weaker (EndpointStands p) (λ (e : ℕ × EndpointState). EndpointStands p (turned_entry turn e)) f es h)

pub halted_tables : (p : Past) (why : ConnectionStopReason) (s : State) → Contains p.stops why → Tables p s → Tables p (halted why s)
halted_tables p why s told h = record { endpoints = turned_all p (halting why) s.endpoints (halting_one p why told) h.endpoints; channels = h.channels; remotes = h.remotes; early = h.early; waiting = h.waiting }

answered_keeps : (p : Past) (o : Option ℕ) (s : State) → Keeps p s (end_answered o s)
answered_keeps p None s = keeps_same p s s refl refl refl refl refl refl
answered_keeps p (Some n) s = keeps_same p s _ refl refl refl refl refl refl

ends_keep : (p : Past) (es : List (ℕ × EndpointState)) (s : State) → Keeps p s (ends_answered es s)
ends_keep p [] s = keeps_same p s s refl refl refl refl refl refl
ends_keep p (e ∷ es) s = keeps_then p s (end_answered e.1.ending s) (ends_answered es (end_answered e.1.ending s)) (answered_keeps p e.1.ending s) (ends_keep p es (end_answered e.1.ending s))

pub concluded_keeps : (p : Past) (s : State) → Keeps p s (ends_concluded s)
concluded_keeps p s =
    let t : State = ends_answered s.endpoints s in
    let k : Keeps p s t = ends_keep p s.endpoints s in
    record {
      endpoints = λ h. All-filter (λ (e : ℕ × EndpointState). is_none e.1.ending) (EndpointStands p) t.endpoints (k.endpoints h);
      channels = k.channels;
      remotes = k.remotes;
      early = k.early;
      waiting = k.waiting;
      output = k.output;
    }

begin_keeps : (p : Past) (o : Option Waiting) (why : ConnectionStopReason) (s : State) → Keeps p s (begin_concluded o why s)
begin_keeps p None why s = keeps_same p s s refl refl refl refl refl refl
begin_keeps p (Some (Accept name numbers)) why s = keeps_same p s s refl refl refl refl refl refl
begin_keeps p (Some (Begin name)) why s =
    keeps_then p s (let_go name s) _ (keeps_gone p name s) (waits_no_more p (let_go name s) _ refl refl refl refl refl refl)

pub finished_keeps : (p : Past) (s : State) → Keeps p s (finished s)
finished_keeps p s = record { endpoints = λ h. turned_all p over s.endpoints (over_one p) h; channels = λ h. h; remotes = λ h. h; early = refl; waiting = λ h. h; output = refl }

stop_keeps : (p : Past) (why : ConnectionStopReason) (s : State) → Keeps p (halted why s) (concluded why s)
stop_keeps p why s =
    let u : State = finished (halted why s) in
    let t : State = ends_concluded u in
    keeps_then p (halted why s) u (concluded why s) (finished_keeps p (halted why s))
    (keeps_then p u t (concluded why s) (concluded_keeps p u) (begin_keeps p t.waiting why t))

pub concluded_tables : (p : Past) (why : ConnectionStopReason) (s : State) → Contains p.stops why → Tables p s → Tables p (concluded why s)
concluded_tables p why s told h = tables_kept p (halted why s) (concluded why s) (stop_keeps p why s) (halted_tables p why s told h)

pub concluded_output : (p : Past) (why : ConnectionStopReason) (s : State) → (concluded why s).output ≡ s.output
concluded_output p why s = (stop_keeps p why s).output
