-- Calls begin, await, accept and end sessions, and the connection stops.
use Rattle.std.specs.Prelude.{◌≡◌, ℕ, Bool, true, false, is_none, List, [], ◌∷◌, Option, Some, None, if◌then◌else◌, refl}
use Rattle.std.proofs.Common.{sym, subst}
use Rattle.std.proofs.lemmas.List.{append-nil}
use Rattle.amqp_calls.specs.declared.call.SessionNumbers.{SessionNumbers}
use Rattle.amqp_frames.specs.declared.shared.ConnectionStopReason.{ConnectionStopReason}
use Rattle.amqp_frames.specs.declared.shared.IncomingSession.{IncomingSession}
use Rattle.amqp_frames.specs.declared.shared.SessionStopReason.TheVariants.{ConnectionStopped}
use Rattle.amqp_session.specs.declared.error.Error.{Error}
use Rattle.amqp_session.specs.declared.session.LinkInput.TheVariants.{Over}
use Rattle.amqp_session.specs.declared.session.SessionState.{SessionState}
use Rattle.amqp_session.specs.declared.session.SessionState.TheVariants as state
use Rattle.amqp_session.specs.Begin as session
use Rattle.amqp_session.specs.State.{State as Session}
use Rattle.amqp_sessions.specs.declared.sessions.Waiting.{Waiting}
use Rattle.amqp_sessions.specs.declared.sessions.Waiting.TheVariants.{Begin, Accept}
use Rattle.amqp_sessions.specs.Parts.{EndpointState, idle}
use Rattle.amqp_sessions.specs.Endpoint.{error_of, asking_end, waits_for, having_asked, last_words, over}
use Rattle.amqp_sessions.specs.Calls.{settings, entered, begun, accepted, left_in, left_at, left, end_told, end_at, ended}
use Rattle.amqp_sessions.specs.State.{State, endpoint_of, with_endpoint, let_go}
use Rattle.amqp_sessions.specs.Stops.{halting, stop_of, halted, finished, end_answered, ends_answered, without_ends, begin_concluded, concluded}
use Rattle.session_laws.specs.Holding.{after, stops}
use Rattle.session_lives.specs.Lives.{nothing, Lives}
use Rattle.session_lives.specs.Logs.{AreKeyed, Came, Goes}
use Rattle.session_lives.specs.Deeds.{hears_early, joining}
use Rattle.session_lives.proofs.Lives.{out_share, lives_still, lives_then, lives_ends, lives_stops, lives_closes, inputs_out}
use Rattle.session_lives.proofs.Going.{no_came, none_came, came_to, came_none, Besides, one_goes, goes_same, goes_still, goes_filtered, goes_turned, goes_came, goes_first, goes_made}
use Rattle.session_lives.proofs.Hearing.{hears_only, let_go_goes, heard_early_goes}

-- ---- a session is made

entered_goes : (name channel : ℕ) (s : Session) (old : State) → AreKeyed old → Goes (Besides name) none_came old (entered name channel s old)
entered_goes name channel s old k = goes_made name (idle s) old (entered name channel s old) k refl refl refl

pub begun_goes : (name : ℕ) (x : SessionNumbers) (channel limit : ℕ) (s : State) → AreKeyed s → Goes (Besides name) none_came s (begun name x channel limit s)
begun_goes name x channel limit s k =
    let t = entered name channel (session.begun (settings x limit) channel) s in
    goes_first (Besides name) none_came s t (begun name x channel limit s) (entered_goes name channel (session.begun (settings x limit) channel) s k) (λ j. goes_same (Besides name) t (begun name x channel limit s) j refl refl refl)

pub accepted_goes : (name : ℕ) (x : SessionNumbers) (channel limit : ℕ) (incoming : IncomingSession) (s : State) → AreKeyed s
    → Goes (Besides name) (λ n. hears_only (hears_early incoming.channel (joining name x channel limit incoming s) n)) s (accepted name x channel limit incoming s)
accepted_goes name x channel limit incoming s k =
    let P = Besides name in
    let a = session.accepted (settings x limit) channel incoming in
    let t = entered name channel a s in
    let u = joining name x channel limit incoming s in
    let c : ℕ → Came = λ n. hears_only (hears_early incoming.channel u n) in
    goes_first P c s t (accepted name x channel limit incoming s) (entered_goes name channel a s k)
    (λ j. goes_first P c t u (accepted name x channel limit incoming s) (goes_same P t u j refl refl refl) (λ i. heard_early_goes P incoming.channel u i))

-- ---- a call ends a session

waits_session : (o : Option Error) (name : ℕ) (e : EndpointState) → (waits_for o name e).session ≡ e.session
waits_session None name e = refl
waits_session (Some refusal) name e = refl

module _ (P : ℕ → Type 0) where
  left_in_goes : (phase : SessionState) (name : ℕ) (s : State) → AreKeyed s → Goes P none_came s (left_in phase name s)
  left_in_goes state.EndSent name s k = goes_still P s k
  left_in_goes state.BeginSent name s k = let_go_goes P name s k
  left_in_goes state.Mapped name s k = let_go_goes P name s k
  left_in_goes state.Unmapped name s k = let_go_goes P name s k

  left_goes : (o : Option EndpointState) (name : ℕ) (s : State) → AreKeyed s → Goes P none_came s (left_at o name s)
  left_goes None name s k = goes_still P s k
  left_goes (Some e) name s k = left_in_goes e.session.state name s k

  end_told_goes : (o : Option Error) (name session : ℕ) (s : State) → AreKeyed s → Goes P none_came s (end_told o name session s)
  end_told_goes None name session s k = goes_same P s (end_told None name session s) k refl refl refl
  end_told_goes (Some refusal) name session s k =
      let t = left session s in
      goes_first P none_came s t (end_told (Some refusal) name session s) (left_goes (endpoint_of session s) session s k) (λ j. goes_same P t (end_told (Some refusal) name session s) j refl refl refl)

  end_goes : (o : Option EndpointState) (name session : ℕ) (condition : Option (List ℕ)) (s : State) → AreKeyed s → endpoint_of session s ≡ o → Goes P none_came s (end_at o name session condition s)
  end_goes None name session condition s k at = goes_still P s k
  end_goes (Some e) name session condition s k at =
      let f = having_asked name condition e in
      let u = with_endpoint session f s in
      let m = asking_end condition e in
      let lives : Lives e.session nothing f.session = subst (λ t. Lives e.session nothing t) (sym (waits_session m.answer name (record e { session = m.state }))) (lives_ends (error_of condition) e.session) in
      goes_first P none_came s u (end_at (Some e) name session condition s)
      (goes_came P (came_to session no_came) none_came s u (came_none session) (one_goes P session e f no_came [] [] s u k at lives refl (sym (append-nil s.output)) (sym (append-nil s.incoming))))
      (λ j. end_told_goes m.answer name session u j)

  pub ended_goes : (name session : ℕ) (condition : Option (List ℕ)) (s : State) → AreKeyed s → Goes P none_came s (ended name session condition s)
  ended_goes name session condition s k = end_goes (endpoint_of session s) name session condition s k refl

  -- ---- the connection stops

  halting_lives : (why : ConnectionStopReason) (e : EndpointState) → Lives e.session (out_share [] (stop_of why e)) (halting why e).session
  halting_lives why e =
      let t = after e.session (stops (ConnectionStopped why)) in
      lives_then e.session t (record t { incoming = [] }) nothing (out_share [] t.incoming) (lives_stops (ConnectionStopped why) e.session) (inputs_out t.incoming t)

  pub halted_goes : (why : ConnectionStopReason) (s : State) → AreKeyed s → Goes P none_came s (halted why s)
  halted_goes why s k = goes_turned P (halting why) (stop_of why) s k (halting_lives why)

  over_lives : (e : EndpointState) → Lives e.session (out_share [] (last_words e)) e.session
  over_lives e = by e.is_over
    where
      by : (b : Bool) → Lives e.session (out_share [] (if b then [] else Over ∷ [])) e.session
      by true = lives_still e.session
      by false = lives_closes e.session

  finished_goes : (s : State) → AreKeyed s → Goes P none_came s (finished s)
  finished_goes s k = goes_turned P over last_words s k over_lives

  answered_goes : (o : Option ℕ) (s : State) → AreKeyed s → Goes P none_came s (end_answered o s)
  answered_goes None s k = goes_still P s k
  answered_goes (Some end) s k = goes_same P s (end_answered (Some end) s) k refl refl refl

  ends_goes : (es : List (ℕ × EndpointState)) (s : State) → AreKeyed s → Goes P none_came s (ends_answered es s)
  ends_goes [] s k = goes_still P s k
  ends_goes (e ∷ es) s k =
      let t = end_answered e.1.ending s in
      goes_first P none_came s t (ends_answered es t) (answered_goes e.1.ending s k) (λ j. ends_goes es t j)

  without_goes : (s : State) → AreKeyed s → Goes P none_came s (without_ends s)
  without_goes s k = goes_filtered P (λ (e : EndpointState). is_none e.ending) s (without_ends s) k refl refl refl

  begin_goes : (o : Option Waiting) (why : ConnectionStopReason) (s : State) → AreKeyed s → Goes P none_came s (begin_concluded o why s)
  begin_goes None why s k = goes_still P s k
  begin_goes (Some (Accept name numbers)) why s k = goes_still P s k
  begin_goes (Some (Begin name)) why s k =
      let t = let_go name s in
      goes_first P none_came s t (begin_concluded (Some (Begin name)) why s) (let_go_goes P name s k) (λ j. goes_same P t (begin_concluded (Some (Begin name)) why s) j refl refl refl)

  pub concluded_goes : (why : ConnectionStopReason) (s : State) → AreKeyed s → Goes P none_came s (concluded why s)
  concluded_goes why s k =
      let a = halted why s in
      let b = finished a in
      let c = ends_answered b.endpoints b in
      let d = without_ends c in
      goes_first P none_came s a (concluded why s) (halted_goes why s k)
      (λ ka. goes_first P none_came a b (concluded why s) (finished_goes a ka)
      (λ kb. goes_first P none_came b c (concluded why s) (ends_goes b.endpoints b kb)
      (λ kc. goes_first P none_came c d (concluded why s) (without_goes c kc)
      (λ kd. begin_goes d.waiting why d kd))))
