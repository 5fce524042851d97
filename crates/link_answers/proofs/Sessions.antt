-- All sessions of an end: what they hand to links comes of the frames that they hear, and what they write of what links
-- gave.
use Rattle.std.proofs.Common.{◌≡◌, subst, inl, inr, refl, sym, if◌then◌else◌, ℕ, nat_eq, Bool, true, false, is_none, List, [], ◌∷◌, ◌++◌, All, Contains, Option, Some, None}
use Rattle.std.proofs.lemmas.List.Elements.{All-map, All-filter, All-weaker, All-cons, All-nil, All-push, All-append, All-head, All-tail}
use Rattle.std.specs.Map.{lookup}
use Rattle.indexmap.specs.IndexMap.{swap_remove_entry}
use Rattle.amqp_calls.specs.declared.call.SessionNumbers.{SessionNumbers}
use Rattle.amqp_frames.specs.declared.body.FrameBody.{FrameBody}
use Rattle.amqp_frames.specs.declared.body.FrameBody.TheVariants as b
use Rattle.amqp_frames.specs.declared.shared.ConnectionStopReason.{ConnectionStopReason}
use Rattle.amqp_frames.specs.declared.shared.IncomingSession.{IncomingSession}
use Rattle.amqp_frames.specs.declared.shared.LinkFrame.{LinkFrame}
use Rattle.amqp_frames.specs.declared.shared.SessionStopReason.TheVariants.{ConnectionStopped}
use Rattle.amqp_link.specs.Link.{body_of}
use Rattle.amqp_session.specs.Begin as session
use Rattle.amqp_session.specs.declared.error.Error.{Error}
use Rattle.amqp_session.specs.declared.session.LinkInput.{LinkInput}
use Rattle.amqp_session.specs.declared.session.LinkInput.TheVariants.{Over}
use Rattle.amqp_session.specs.declared.session.SessionState.{SessionState}
use Rattle.amqp_session.specs.declared.session.SessionState.TheVariants as state
use Rattle.amqp_session.specs.State.{State as Session, Framed}
use Rattle.amqp_sessions.specs.Calls.{settings, entered, begun, accepted, left_in, left_at, left, end_told, end_at, ended}
use Rattle.amqp_sessions.specs.declared.endpoint.Change.{Change}
use Rattle.amqp_sessions.specs.declared.endpoint.Change.TheVariants.{Same, Begun, Refused, Gone, Answered}
use Rattle.amqp_sessions.specs.declared.sessions.Waiting.{Waiting}
use Rattle.amqp_sessions.specs.declared.sessions.Waiting.TheVariants.{Begin, Accept}
use Rattle.amqp_sessions.specs.Endpoint.{hearing, change_of, having_heard, having_written, having_refused, error_of, asking_end, having_asked, waits_for, cut, last_words, over, emptied}
use Rattle.amqp_sessions.specs.Frames.{answered_channel, name_at, place_of, joined, freed_at, freed_own, freed, concluding_for, concluding, changed, hearing_at, kept_at, heard_by, heard, heard_all, heard_early_at, written_at, written, refusing_at, refusing}
use Rattle.amqp_sessions.specs.Parts.{EndpointState, idle, named, with_session}
use Rattle.amqp_sessions.specs.State.{State, endpoint_of, with_endpoint, let_go, handing, handed_out}
use Rattle.amqp_sessions.specs.Stops.{halting, halted, stop_of, turned_entry, said, all_turned, finished, end_answered, ends_answered, ends_concluded, begin_concluded, concluded}
use Rattle.link_answers.specs.Coming.{Comes, WritesFor, Passed, IsBegunOn, IsRead, IsOfLink, IsOfSession, IsComing, OneComes, AreComing}
use Rattle.link_answers.proofs.Endpoints.{stops, hears, tells, refuses_attach, asks_end, begins, accepts}
use Rattle.link_answers.proofs.Entries.{all_inserted, all_found, all_set, all_gone}

module _ (p : Passed) where
  abbrev Stands : State → Type 0
  Stands s = AreComing p s

  abbrev pub OwnStands : ℕ × ℕ → Type 0
  OwnStands e = Contains p.channels (e.1, e.0)

  abbrev pub PeerStands : ℕ × ℕ → Type 0
  PeerStands e = IsBegunOn p e.1 e.0

  abbrev pub EarlyStands : ℕ × List Framed → Type 0
  EarlyStands e = All (Contains p.frames) e.1

  abbrev pub HandedStands : ℕ × LinkInput → Type 0
  HandedStands e = Comes (IsRead p e.0) e.1

  -- what the session of that name has
  abbrev Has : ℕ → ℕ → Session → Type 0
  Has name channel s = IsComing channel (IsRead p name) (IsOfLink p name) s

  -- other parts change
  same : (s t : State) → t.endpoints ≡ s.endpoints → t.channels ≡ s.channels → t.remotes ≡ s.remotes → t.early ≡ s.early → t.incoming ≡ s.incoming → t.output ≡ s.output → Stands s → Stands t
  same s t a c r f i o k = record {
    endpoints = subst (All (OneComes p)) (sym a) k.endpoints;
    channels = subst (All OwnStands) (sym c) k.channels;
    remotes = subst (All PeerStands) (sym r) k.remotes;
    early = subst (All EarlyStands) (sym f) k.early;
    incoming = subst (All HandedStands) (sym i) k.incoming;
    output = subst (All (IsOfSession p)) (sym o) k.output;
  }

  with_endpoints : (es : List (ℕ × EndpointState)) (s : State) → All (OneComes p) es → Stands s → Stands (record s { endpoints = es })
  with_endpoints es s h k = record { endpoints = h; channels = k.channels; remotes = k.remotes; early = k.early; incoming = k.incoming; output = k.output }

  lets_go : (name : ℕ) (s : State) → Stands s → Stands (let_go name s)
  lets_go name s k = with_endpoints _ s (all_gone (OneComes p) (nat_eq name) s.endpoints k.endpoints) k

  frees_at : (o : Option EndpointState) (s : State) → Stands s → Stands (freed_at o s)
  frees_at None s k = k
  frees_at (Some e) s k =
      record { endpoints = k.endpoints; channels = all_gone OwnStands (nat_eq e.session.channel) s.channels k.channels; remotes = k.remotes; early = k.early; incoming = k.incoming; output = k.output }

  frees : (name remote : ℕ) (s : State) → Stands s → Stands (freed name remote s)
  frees name remote s k =
      let t : State = record s { remotes = swap_remove_entry (nat_eq remote) s.remotes } in
      frees_at (endpoint_of name t) t
      (record { endpoints = k.endpoints; channels = k.channels; remotes = all_gone PeerStands (nat_eq remote) s.remotes k.remotes; early = k.early; incoming = k.incoming; output = k.output })

  concludes_for : (o : Option ℕ) (is_left : Bool) (name : ℕ) (e : Option Error) (s : State) → Stands s → Stands (concluding_for o is_left name e s)
  concludes_for (Some end) is_left name e s k = same (let_go name s) _ refl refl refl refl refl refl (lets_go name s k)
  concludes_for None true name e s k = lets_go name s k
  concludes_for None false name e s k = k

  concludes_at : (o : Option EndpointState) (name : ℕ) (e : Option Error) (s : State) → Stands s → Stands (concluding o name e s)
  concludes_at None name e s k = k
  concludes_at (Some d) name e s k = concludes_for d.ending d.is_left name e s k

  -- a session stands on a channel of the peer, which has begun it on that
  joins : (name remote : ℕ) (s : State) → IsBegunOn p name remote → Stands s → Stands (joined name remote s)
  joins name remote s there k =
      record { endpoints = k.endpoints; channels = k.channels; remotes = all_inserted PeerStands remote name s.remotes there k.remotes; early = k.early; incoming = k.incoming; output = k.output }

  changes : (c : Change) (name remote : ℕ) (e : Option Error) (s : State) → IsBegunOn p name remote → Stands s → Stands (changed c name remote e s)
  changes Same name remote e s there k = k
  changes Begun name remote e s there k = joins name remote s there k
  changes Refused name remote e s there k =
      let t : State = let_go name (freed_own name s) in
      same t _ refl refl refl refl refl refl (lets_go name (freed_own name s) (frees_at (endpoint_of name s) s k))
  changes Gone name remote e s there k = frees name remote s k
  changes Answered name remote e s there k = concludes_at (endpoint_of name s) name e (freed name remote s) (frees name remote s k)

  -- ---- what a session has goes out

  names : (name : ℕ) (xs : List LinkInput) → All (Comes (IsRead p name)) xs → All HandedStands (named name xs)
  names name xs h = All-map HandedStands (λ (x : LinkInput). (name, x)) xs h

  out_of : (name channel : ℕ) (xs : List Framed) → Contains p.channels (name, channel) → All (λ (x : Framed). (x.channel ≡ channel) × WritesFor (IsOfLink p name) x.body) xs → All (IsOfSession p) xs
  out_of name channel xs on h =
      All-weaker (λ (x : Framed). (x.channel ≡ channel) × WritesFor (IsOfLink p name) x.body) (IsOfSession p)
      (λ x k. (name, (subst (λ (c : ℕ). Contains p.channels (name, c)) (sym k.0) on, k.1))) xs h

  empties : (name channel : ℕ) (e : EndpointState) → Has name channel e.session → Has name channel (emptied e).session
  empties name channel e k =
      record { on = k.on; incoming = All-nil (Comes (IsRead p name)); held = k.held; output = All-nil (λ (x : Framed). (x.channel ≡ channel) × WritesFor (IsOfLink p name) x.body) }

  hands_at : (name : ℕ) (o : Option EndpointState) (s : State) → endpoint_of name s ≡ o → Stands s → Stands (handing name o s)
  hands_at name None s there k = k
  hands_at name (Some e) s there k =
      let one : OneComes p (name, e) = all_found (OneComes p) name e s.endpoints there k.endpoints in
      let has : Has name one.0 e.session = one.1.1 in
      record {
        endpoints = all_set (OneComes p) name (emptied e) s.endpoints (one.0, (one.1.0, empties name one.0 e has)) k.endpoints;
        channels = k.channels;
        remotes = k.remotes;
        early = k.early;
        incoming = All-append HandedStands s.incoming (named name e.session.incoming) k.incoming (names name e.session.incoming has.incoming);
        output = All-append (IsOfSession p) s.output e.session.output k.output (out_of name one.0 e.session.output one.1.0 has.output);
      }

  pub hands_out : (name : ℕ) (s : State) → Stands s → Stands (handed_out name s)
  hands_out name s k = hands_at name (endpoint_of name s) s refl k

  -- a session goes on to another state, and what it has goes out
  goes_out : (name : ℕ) (e : EndpointState) (s : State) → OneComes p (name, e) → Stands s → Stands (handed_out name (with_endpoint name e s))
  goes_out name e s h k = hands_out name (with_endpoint name e s) (with_endpoints _ s (all_set (OneComes p) name e s.endpoints h k.endpoints) k)

  one_of : (name : ℕ) (e : EndpointState) (s : State) → endpoint_of name s ≡ Some e → Stands s → OneComes p (name, e)
  one_of name e s there k = all_found (OneComes p) name e s.endpoints there k.endpoints

  -- ---- frames

  -- a Begin that answers one on a channel of the session begins it
  begun_by : (body : FrameBody) (name channel own : ℕ) → answered_channel body ≡ Some own → Contains p.channels (name, own) → Contains p.frames (record { channel = channel; body = body }) → IsBegunOn p name channel
  begun_by (b.Begin x) name channel own e on h = inr (record { begin = x; own = own; names = e; on = on; read = h })
  begun_by other name channel own e on h = absurd cc

  led_by : (o : Option ℕ) (name : ℕ) (x : Framed) (s : State) → answered_channel x.body ≡ o → name_at o x.channel s ≡ Some name → Contains p.frames x → Stands s → IsBegunOn p name x.channel
  led_by None name x s e there h k = all_found PeerStands x.channel name s.remotes there k.remotes
  led_by (Some own) name x s e there h k = begun_by x.body name x.channel own e (all_found OwnStands own name s.channels there k.channels) h

  -- the channel of a frame that leads to a session is one on which the peer has begun that
  led : (name : ℕ) (x : Framed) (s : State) → place_of x s ≡ Some name → Contains p.frames x → Stands s → IsBegunOn p name x.channel
  led name x s there h k = led_by (answered_channel x.body) name x s refl there h k

  hears_at : (o : Option EndpointState) (name : ℕ) (x : Framed) (s : State) → endpoint_of name s ≡ o → IsBegunOn p name x.channel → Contains p.frames x → Stands s → Stands (hearing_at o name x s)
  hears_at None name x s there begun h k = k
  hears_at (Some e) name x s there begun h k =
      let one : OneComes p (name, e) = one_of name e s there k in
      let read : IsRead p name x.body = (x.channel, (begun, h)) in
      let next : OneComes p (name, having_heard x e) = (one.0, (one.1.0, hears one.0 (IsRead p name) (IsOfLink p name) x e.session read one.1.1)) in
      changes (change_of x e) name x.channel (hearing x e).answer (handed_out name (with_endpoint name (having_heard x e) s)) begun (goes_out name (having_heard x e) s next k)

  keeps_at : (o : Option (List Framed)) (x : Framed) (s : State) → lookup (nat_eq x.channel) s.early ≡ o → Contains p.frames x → Stands s → Stands (kept_at o x s)
  keeps_at None x s there h k = record {
    endpoints = k.endpoints;
    channels = k.channels;
    remotes = k.remotes;
    early = all_inserted EarlyStands x.channel (x ∷ []) s.early (All-cons (Contains p.frames) x [] h (All-nil (Contains p.frames))) k.early;
    incoming = k.incoming;
    output = k.output;
  }
  keeps_at (Some xs) x s there h k = record {
    endpoints = k.endpoints;
    channels = k.channels;
    remotes = k.remotes;
    early = all_set EarlyStands x.channel (xs ++ x ∷ []) s.early (All-push (Contains p.frames) xs x (all_found EarlyStands x.channel xs s.early there k.early) h) k.early;
    incoming = k.incoming;
    output = k.output;
  }

  hears_by : (o : Option ℕ) (x : Framed) (s : State) → place_of x s ≡ o → Contains p.frames x → Stands s → Stands (heard_by o x s)
  hears_by None x s there h k = keeps_at (lookup (nat_eq x.channel) s.early) x s refl h k
  hears_by (Some name) x s there h k = hears_at (endpoint_of name s) name x s refl (led name x s there h k) h k

  -- a frame was read
  pub heard_stands : (x : Framed) (s : State) → Contains p.frames x → Stands s → Stands (heard x s)
  heard_stands x s h k = hears_by (place_of x s) x s refl h k

  all_heard : (xs : List Framed) (s : State) → All (Contains p.frames) xs → Stands s → Stands (heard_all xs s)
  all_heard [] s h k = k
  all_heard (x ∷ xs) s h k =
      all_heard xs (heard x s) (All-tail (Contains p.frames) x xs h) (heard_stands x s (All-head (Contains p.frames) x xs h) k)

  early_at : (o : Option (List Framed)) (remote : ℕ) (s : State) → lookup (nat_eq remote) s.early ≡ o → Stands s → Stands (heard_early_at o remote s)
  early_at None remote s there k = k
  early_at (Some xs) remote s there k =
      let t : State = record s { early = swap_remove_entry (nat_eq remote) s.early } in
      all_heard xs t (all_found EarlyStands remote xs s.early there k.early)
      (record { endpoints = k.endpoints; channels = k.channels; remotes = k.remotes; early = all_gone EarlyStands (nat_eq remote) s.early k.early; incoming = k.incoming; output = k.output })

  -- ---- links

  writes_at : (o : Option EndpointState) (name : ℕ) (x : LinkFrame) (s : State) → endpoint_of name s ≡ o → Contains p.gave (name, body_of x) → Stands s → Stands (written_at o name x s)
  writes_at None name x s there h k = k
  writes_at (Some e) name x s there h k =
      let one : OneComes p (name, e) = one_of name e s there k in
      goes_out name (having_written x e) s (one.0, (one.1.0, tells one.0 (IsRead p name) (IsOfLink p name) e.session.state x e.session h one.1.1)) k

  -- a link writes a frame
  pub written_stands : (name : ℕ) (x : LinkFrame) (s : State) → Contains p.gave (name, body_of x) → Stands s → Stands (written name x s)
  written_stands name x s h k = writes_at (endpoint_of name s) name x s refl h k

  refuses_at : (o : Option EndpointState) (name : ℕ) (s : State) → endpoint_of name s ≡ o → Stands s → Stands (refusing_at o name s)
  refuses_at None name s there k = k
  refuses_at (Some e) name s there k =
      let one : OneComes p (name, e) = one_of name e s there k in
      goes_out name (having_refused e) s (one.0, (one.1.0, refuses_attach one.0 (IsRead p name) (IsOfLink p name) e.session.state e.session one.1.1)) k

  -- the links have no place for an Attach
  pub refusing_stands : (name : ℕ) (s : State) → Stands s → Stands (refusing name s)
  refusing_stands name s k = refuses_at (endpoint_of name s) name s refl k

  -- ---- calls

  enters : (name channel : ℕ) (x : Session) (s : State) → Contains p.channels (name, channel) → Has name channel x → Stands s → Stands (entered name channel x s)
  enters name channel x s on h k = record {
    endpoints = all_inserted (OneComes p) name (idle x) s.endpoints (channel, (on, h)) k.endpoints;
    channels = all_inserted OwnStands channel name s.channels on k.channels;
    remotes = k.remotes;
    early = k.early;
    incoming = k.incoming;
    output = k.output;
  }

  pub begun_stands : (name : ℕ) (x : SessionNumbers) (channel limit : ℕ) (s : State) → Contains p.channels (name, channel) → Stands s → Stands (begun name x channel limit s)
  begun_stands name x channel limit s on k =
      let y : Session = session.begun (settings x limit) channel in
      same (entered name channel y s) _ refl refl refl refl refl refl (enters name channel y s on (begins channel (IsRead p name) (IsOfLink p name) (settings x limit)) k)

  pub accepted_stands : (name : ℕ) (x : SessionNumbers) (channel limit : ℕ) (incoming : IncomingSession) (s : State) → Contains p.channels (name, channel) → Contains p.accepted (name, incoming.channel) → Stands s
      → Stands (accepted name x channel limit incoming s)
  accepted_stands name x channel limit incoming s on there k =
      let y : Session = session.accepted (settings x limit) channel incoming in
      let t : State = entered name channel y s in
      let u : State = joined name incoming.channel t in
      early_at (lookup (nat_eq incoming.channel) u.early) incoming.channel u refl
      (joins name incoming.channel t (inl there) (enters name channel y s on (accepts channel (IsRead p name) (IsOfLink p name) (settings x limit) incoming) k))

  leaves_in : (phase : SessionState) (name : ℕ) (s : State) → Stands s → Stands (left_in phase name s)
  leaves_in state.EndSent name s k = k
  leaves_in state.BeginSent name s k = lets_go name s k
  leaves_in state.Mapped name s k = lets_go name s k
  leaves_in state.Unmapped name s k = lets_go name s k

  leaves_at : (o : Option EndpointState) (name : ℕ) (s : State) → Stands s → Stands (left_at o name s)
  leaves_at None name s k = k
  leaves_at (Some e) name s k = leaves_in e.session.state name s k

  ends_told : (o : Option Error) (name other : ℕ) (s : State) → Stands s → Stands (end_told o name other s)
  ends_told None name other s k = same s _ refl refl refl refl refl refl k
  ends_told (Some refusal) name other s k = same (left other s) _ refl refl refl refl refl refl (leaves_at (endpoint_of other s) other s k)

  waits : (o : Option Error) (name other : ℕ) (e : EndpointState) → OneComes p (other, e) → OneComes p (other, waits_for o name e)
  waits None name other e k = k
  waits (Some refusal) name other e k = k

  ends_at : (o : Option EndpointState) (name other : ℕ) (condition : Option (List ℕ)) (s : State) → endpoint_of other s ≡ o → Stands s → Stands (end_at o name other condition s)
  ends_at None name other condition s there k = k
  ends_at (Some e) name other condition s there k =
      let m : EndpointState = with_session (asking_end condition e).state e in
      let f : EndpointState = having_asked name condition e in
      let was : OneComes p (other, e) = one_of other e s there k in
      let asked : OneComes p (other, m) = (was.0, (was.1.0, asks_end was.0 (IsRead p other) (IsOfLink p other) e.session.state (error_of condition) e.session was.1.1)) in
      ends_told (asking_end condition e).answer name other (with_endpoint other f s)
      (with_endpoints _ s (all_set (OneComes p) other f s.endpoints (waits (asking_end condition e).answer name other m asked) k.endpoints) k)

  pub ended_stands : (name other : ℕ) (condition : Option (List ℕ)) (s : State) → Stands s → Stands (ended name other condition s)
  ended_stands name other condition s k = ends_at (endpoint_of other s) name other condition s refl k

  -- ---- a stop

  said_stands : (say : EndpointState → List LinkInput) (es : List (ℕ × EndpointState)) → ((e : ℕ × EndpointState) → OneComes p e → All (Comes (IsRead p e.0)) (say e.1)) → All (OneComes p) es → All HandedStands (said say es)
  said_stands say [] f h = All-nil HandedStands
  said_stands say (e ∷ es) f h =
      All-append HandedStands (named e.0 (say e.1)) (said say es) (names e.0 (say e.1) (f e (All-head (OneComes p) e es h))) (said_stands say es f (All-tail (OneComes p) e es h))

  turned_stands : (turn : EndpointState → EndpointState) (say : EndpointState → List LinkInput) (s : State)
      → ((e : ℕ × EndpointState) → OneComes p e → OneComes p (turned_entry turn e)) → ((e : ℕ × EndpointState) → OneComes p e → All (Comes (IsRead p e.0)) (say e.1)) → Stands s → Stands (all_turned turn say s)
  turned_stands turn say s f g k = record {
    endpoints = All-map (OneComes p) (turned_entry turn) s.endpoints (All-weaker (OneComes p) (λ (e : ℕ × EndpointState). OneComes p (turned_entry turn e)) f s.endpoints k.endpoints);
    channels = k.channels;
    remotes = k.remotes;
    early = k.early;
    incoming = All-append HandedStands s.incoming (said say s.endpoints) k.incoming (said_stands say s.endpoints g k.endpoints);
    output = k.output;
  }

  cuts_one : (why : ConnectionStopReason) (name channel : ℕ) (e : EndpointState) → Has name channel e.session → Has name channel (cut why e).session
  cuts_one why name channel e k = stops channel (IsRead p name) (IsOfLink p name) state.Unmapped (ConnectionStopped why) e.session k

  halts_one : (why : ConnectionStopReason) (e : ℕ × EndpointState) → OneComes p e → OneComes p (turned_entry (halting why) e)
  halts_one why e k =
      let c : Has e.0 k.0 (cut why e.1).session = cuts_one why e.0 k.0 e.1 k.1.1 in
      (k.0, (k.1.0, record { on = c.on; incoming = All-nil (Comes (IsRead p e.0)); held = c.held; output = c.output }))

  says_stop : (why : ConnectionStopReason) (e : ℕ × EndpointState) → OneComes p e → All (Comes (IsRead p e.0)) (stop_of why e.1)
  says_stop why e k = (let c : Has e.0 k.0 (cut why e.1).session = cuts_one why e.0 k.0 e.1 k.1.1 in c.incoming)

  pub halted_stands : (why : ConnectionStopReason) (s : State) → Stands s → Stands (halted why s)
  halted_stands why s k = turned_stands (halting why) (stop_of why) s (halts_one why) (says_stop why) k

  says_last : (name : ℕ) (t : Bool) → All (Comes (IsRead p name)) (if t then [] else Over ∷ [])
  says_last name true = All-nil (Comes (IsRead p name))
  says_last name false = All-push (Comes (IsRead p name)) [] Over (All-nil (Comes (IsRead p name))) tt

  finishes : (s : State) → Stands s → Stands (finished s)
  finishes s k = turned_stands over last_words s (λ e h. h) (λ e h. says_last e.0 e.1.is_over) k

  answers_one : (o : Option ℕ) (s : State) → Stands s → Stands (end_answered o s)
  answers_one None s k = k
  answers_one (Some n) s k = same s _ refl refl refl refl refl refl k

  answers_all : (es : List (ℕ × EndpointState)) (s : State) → Stands s → Stands (ends_answered es s)
  answers_all [] s k = k
  answers_all (e ∷ es) s k = answers_all es (end_answered e.1.ending s) (answers_one e.1.ending s k)

  ends_conclude : (s : State) → Stands s → Stands (ends_concluded s)
  ends_conclude s k =
      let t : State = ends_answered s.endpoints s in
      let h : Stands t = answers_all s.endpoints s k in
      with_endpoints _ t (All-filter (λ (e : ℕ × EndpointState). is_none e.1.ending) (OneComes p) t.endpoints h.endpoints) h

  begin_concludes : (o : Option Waiting) (why : ConnectionStopReason) (s : State) → Stands s → Stands (begin_concluded o why s)
  begin_concludes None why s k = k
  begin_concludes (Some (Accept name numbers)) why s k = k
  begin_concludes (Some (Begin name)) why s k = same (let_go name s) _ refl refl refl refl refl refl (lets_go name s k)

  pub concluded_stands : (why : ConnectionStopReason) (s : State) → Stands s → Stands (concluded why s)
  concluded_stands why s k =
      let t : State = ends_concluded (finished (halted why s)) in
      begin_concludes t.waiting why t (ends_conclude (finished (halted why s)) (finishes (halted why s) (halted_stands why s k)))
