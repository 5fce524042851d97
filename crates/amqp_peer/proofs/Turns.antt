-- Steps of what an end holds, as steps of the end.
use Rattle.std.proofs.Common.{◌≡◌, ◌≤◌, ◌^◌, ℕ, List, [], ◌∷◌, ◌++◌, Bool, true, false, Option, Some, None, Result, Ok, Err, refl, sym, ap, ◌∙◌, subst, arith}
use Rattle.std.specs.Prelude.{OnOk}
use Rattle.std.specs.declared.alloc.AllocError.{AllocError}
use Rattle.amqp_composites.specs.declared.error.Error.{Error as AmqpError}
use Rattle.amqp_wire.specs.declared.link.Link.{Ghosts}
use Rattle.amqp_engine.specs.declared.engine.EngineStep.{EngineStep}
use Rattle.amqp_engine.specs.declared.engine.EngineStep.TheVariants as step
use Rattle.amqp_engine.specs.declared.error.Error.{Error as ConnectionFault}
use Rattle.amqp_engine.specs.declared.error.Error.TheVariants as connection
use Rattle.amqp_engine.specs.Calls.{Steps}
use Rattle.amqp_engine.specs.Outcomes.{Stepped as EngineStepped, HasClosed as EngineClosed}
use Rattle.amqp_engine.specs.Phases.{is_stopped, has_failed}
use Rattle.amqp_engine.specs.State.{State}
use Rattle.sasl_exchange.specs.declared.error.NegotiationError.{NegotiationError}
use Rattle.amqp_opening.specs.declared.authentication.Authentication.{Authentication}
use Rattle.amqp_opening.specs.declared.authentication.SaslCall.{SaslCall}
use Rattle.amqp_opening.specs.declared.opening.OpeningPoll.{OpeningPoll}
use Rattle.amqp_opening.specs.declared.opening.OpeningPoll.TheVariants as poll
use Rattle.amqp_opening.specs.declared.opening.Stage.TheVariants as stage
use Rattle.amqp_opening.specs.Authentication.{peer_mechanism, MadeFor, holds_by, IsCallRefusal}
use Rattle.amqp_opening.specs.Opening.{Opened, begun, begun_plain, Ran as OpeningRan, IsMemoryIn}
use Rattle.amqp_words.specs.declared.call.Call.{Call}
use Rattle.amqp_words.specs.declared.call.Call.TheVariants.{Open, Accept, Close}
use Rattle.amqp_words.specs.declared.open_error.OpenError.TheVariants as failed
use Rattle.amqp_words.specs.declared.reply.Reply.TheVariants as reply
use Rattle.amqp_peer.specs.declared.held.Held.{Held}
use Rattle.amqp_peer.specs.declared.held.Held.TheVariants.{Early, Late, Unopened, Moving}
use Rattle.amqp_peer.specs.declared.peer.Progress.TheVariants as progress
use Rattle.amqp_peer.specs.declared.prepared.Prepared.{Prepared}
use Rattle.amqp_peer.specs.Calls.{IsFirstCall, IsClose}
use Rattle.amqp_peer.specs.declared.peer.PeerKind.{PeerKind}
use Rattle.amqp_peer.specs.declared.peer.PeerKind.TheVariants.{Client, Listener}
use Rattle.amqp_peer.specs.declared.peer.Progress.{Progress}
use Rattle.amqp_peer.specs.History.{Local, Made, Polled}
use Rattle.amqp_peer.specs.Held.{FitsCall, IsEarly, IsLate, IsReadyWith, IsReady, IsExchangedWith, IsExchanged, IsActive, SteppedLate, ClosedLate, RanEarly, BeganWith, BeganPlain, bound, IsConnecting, Connected}
use Rattle.amqp_peer.specs.Peering.{Peering, Has, HasIn, MayCall, MayCallIn, IsMadeIn}
use Rattle.amqp_peer.specs.Prepared.{prepared_of, sasl_of, error_for}
use Rattle.amqp_peer.specs.Replies.{pending}
use Rattle.amqp_peer.specs.Runs.{Stepped, Advanced, AdvancedFrom, IsToClose, Worked, Rested, RestedFrom, IsAsked, IsAskedToClose, Refused, told, finished, concluded, greeted, close_reply, error_in, first_fault, open_error_of, without_memory, IsCloseNoted}
use Rattle.amqp_peer.proofs.Advances.{worked_advances, pending_rests, stopped_rests, failed_advances, rested_more}
use Rattle.amqp_peer.proofs.Leaves.{steps_leave, fails_sound}
use Rattle.amqp_peer.proofs.Stays.{stays}
use Rattle.amqp_peer.proofs.Parts.{pending_part, pending_awaits}
use Rattle.amqp_peer.proofs.Openings.{early_rests, early_fails, early_exchanged, exchanged_ready, connected, connect_fails}
use Rattle.amqp_peer.proofs.Starts.{close_queued, close_kept, close_fails, close_rests, close_worked_not, close_pending_not, close_fails_at_once, begins_with, begins_plain, begins_refused, asked_opens}
use Rattle.amqp_peer.proofs.Refusals.{layer_texts, plain_texts}

pub on_ok : {A E : Type 0} {P Q : Type 0} (r : Result A E) → (P → Q) → OnOk r P → OnOk r Q
on_ok (Ok a) f p = f p
on_ok (Err e) f p = tt

-- ---- a step of the connection

pub record LateStep {L : Type 0} (link : Ghosts L) (at : ℕ) (held : Held L) (result : Result EngineStep ConnectionFault) (held' : Held L) : Type 0 where
  pub s : State L
  pub s' : State L
  pub is : held ≡ Late s
  pub becomes : held' ≡ Late s'
  pub step : EngineStepped link at s result s'
  pub none : has_failed s.phase ≡ true → step.run.given ≡ []
  pub does : Steps link at s result s'

pub late_step : {L : Type 0} (link : Ghosts L) (at : ℕ) (held : Held L) (result : Result EngineStep ConnectionFault) (held' : Held L) → SteppedLate link at held result held' → LateStep link at held result held'
late_step link at (Early o p) result held' h = absurd h
late_step link at (Late s) result held' h = let k = stays link at s h.0 result h.3 h.2 in record { s = s; s' = h.0; is = refl; becomes = h.1; step = k.step; none = k.none; does = h.3 }
late_step link at (Unopened c) result held' h = absurd h
late_step link at Moving result held' h = absurd h

pub late_stays : {L : Type 0} (link : Ghosts L) (at : ℕ) (held : Held L) (result : Result EngineStep ConnectionFault) (held' : Held L) → SteppedLate link at held result held' → IsLate held'
late_stays {L} link at held result held' h = let k = late_step link at held result held' h in subst (λ (x : Held L). IsLate x) (sym k.becomes) tt

pub worked_step : {L : Type 0} (link : Ghosts L) (at : ℕ) (old : Peering L) (held : Held L) → SteppedLate link at old.held (Ok step.Worked) held → Worked link at 1 old (greeted (record old { held = held }))
worked_step {L} link at old held h =
    let k = late_step link at old.held (Ok step.Worked) held h in
    subst (λ (x : Held L). Worked link at 1 old (greeted (record old { held = x }))) (sym k.becomes) (worked_advances link at old k.s k.s' k.is k.step (steps_leave link at k.s k.s' (Ok step.Worked) k.does))

pub pending_step : {L : Type 0} (link : Ghosts L) (at : ℕ) (old : Peering L) (held : Held L) → SteppedLate link at old.held (Ok step.Pending) held → Rested link at 1 old (record old { held = held })
pending_step {L} link at old held h =
    let k = late_step link at old.held (Ok step.Pending) held h in
    subst (λ (x : Held L). Rested link at 1 old (record old { held = x })) (sym k.becomes) (pending_rests link at old k.s k.s' k.is (pending_part link at k.s k.s' k.does) (pending_awaits link at k.s k.s' k.does) k.step)

pub stopped_step : {L : Type 0} (link : Ghosts L) (at : ℕ) (old : Peering L) (held : Held L) → SteppedLate link at old.held (Ok step.Stopped) held → Rested link at 1 old (concluded (record old { held = held }))
stopped_step {L} link at old held h =
    let k = late_step link at old.held (Ok step.Stopped) held h in
    subst (λ (x : Held L). Rested link at 1 old (concluded (record old { held = x }))) (sym k.becomes) (stopped_rests link at old k.s k.s' k.is k.step k.none)

-- an error that is no want of memory
pub record IsKept (e x : ConnectionFault) : Type 0 where
  pub same : x ≡ e
  pub not_memory : (a : AllocError) → x ≡ connection.Memory a → ⊥

abbrev ok_or : ConnectionFault → Result ConnectionFault AllocError → ConnectionFault
ok_or d (Ok x) = x
ok_or d (Err a) = d

pub kept : (e x : ConnectionFault) → without_memory e ≡ Ok x → IsKept e x
kept (connection.Memory a) x w = absurd (cc w)
kept (connection.TransportError t) x w = record { same = sym (ap (ok_or x) w); not_memory = λ a m. absurd (cc (ap (ok_or x) w ∙ m)) }
kept connection.IllegalState x w = record { same = sym (ap (ok_or x) w); not_memory = λ a m. absurd (cc (ap (ok_or x) w ∙ m)) }
kept connection.NotImplemented x w = record { same = sym (ap (ok_or x) w); not_memory = λ a m. absurd (cc (ap (ok_or x) w ∙ m)) }
kept connection.NotFound x w = record { same = sym (ap (ok_or x) w); not_memory = λ a m. absurd (cc (ap (ok_or x) w ∙ m)) }
kept connection.RemoteClosed x w = record { same = sym (ap (ok_or x) w); not_memory = λ a m. absurd (cc (ap (ok_or x) w ∙ m)) }
kept (connection.RemoteClosedWithError t) x w = record { same = sym (ap (ok_or x) w); not_memory = λ a m. absurd (cc (ap (ok_or x) w ∙ m)) }

pub failed_step : {L : Type 0} (link : Ghosts L) (at : ℕ) (old : Peering L) (held : Held L) (e x : ConnectionFault) → SteppedLate link at old.held (Err e) held → without_memory e ≡ Ok x → Worked link at 1 old (record old { held = held; fault = first_fault old.fault x })
failed_step {L} link at old held e x h w =
    let n = kept e x w in
    let k = late_step link at old.held (Err x) held (subst (λ (y : ConnectionFault). SteppedLate link at old.held (Err y) held) (sym n.same) h) in
    subst (λ (z : Held L). Worked link at 1 old (record old { held = z; fault = first_fault old.fault x })) (sym k.becomes) (failed_advances link at old k.s k.s' x k.is k.step n.not_memory (fails_sound link at k.s k.s' x k.does) (steps_leave link at k.s k.s' (Err x) k.does))

-- ---- a close where the connection has stopped

is_true : (b : Bool) → (b ≡ false → ⊥) → b ≡ true
is_true true n = refl
is_true false n = absurd (n refl)

stopped_late : {L : Type 0} (held : Held L) (s : State L) → held ≡ Late s → (IsActive held → ⊥) → is_stopped s.phase ≡ true
stopped_late {L} held s e n = is_true (is_stopped s.phase) (λ a. n (subst (λ (x : Held L). IsActive x) (sym e) a))

close_with : {L : Type 0} (link : Ghosts L) (at : ℕ) (condition : Option (List ℕ)) (old : Peering L) (s s' : State L) (result : EngineStep) → old.held ≡ Late s → is_stopped s.phase ≡ true → (st : EngineStepped link at s (Ok result) s') → (has_failed s.phase ≡ true → st.run.given ≡ []) → RestedFrom link at 1 (IsAskedToClose condition old) old (finished (record old { held = Late s' }) (close_reply (error_in (record old { held = Late s' }))))
close_with link at condition old s s' step.Worked e z st n = absurd (close_worked_not link at s s' z st)
close_with link at condition old s s' step.Pending e z st n = absurd (close_pending_not link at s s' z st)
close_with link at condition old s s' step.Stopped e z st n = close_rests link at condition old s s' e st n

pub close_step : {L : Type 0} (link : Ghosts L) (at : ℕ) (condition : Option (List ℕ)) (old : Peering L) (held : Held L) (result : EngineStep) → (IsActive old.held → ⊥) → SteppedLate link at old.held (Ok result) held → RestedFrom link at 1 (IsAskedToClose condition old) old (finished (record old { held = held }) (close_reply (error_in (record old { held = held }))))
close_step {L} link at condition old held result n h =
    let k = late_step link at old.held (Ok result) held h in
    subst (λ (x : Held L). RestedFrom link at 1 (IsAskedToClose condition old) old (finished (record old { held = x }) (close_reply (error_in (record old { held = x }))))) (sym k.becomes)
    (close_with link at condition old k.s k.s' result k.is (stopped_late old.held k.s k.is n) k.step k.none)

pub close_failed_step : {L : Type 0} (link : Ghosts L) (at : ℕ) (condition : Option (List ℕ)) (old : Peering L) (held : Held L) (e x : ConnectionFault) → (IsActive old.held → ⊥) → SteppedLate link at old.held (Err e) held → without_memory e ≡ Ok x
    → RestedFrom link at 1 (IsAskedToClose condition old) old (finished (record old { held = held; fault = first_fault old.fault x }) (close_reply (error_in (record old { held = held; fault = first_fault old.fault x }))))
close_failed_step {L} link at condition old held e x n h w =
    let i = kept e x w in
    let k = late_step link at old.held (Err x) held (subst (λ (y : ConnectionFault). SteppedLate link at old.held (Err y) held) (sym i.same) h) in
    subst (λ (z : Held L). RestedFrom link at 1 (IsAskedToClose condition old) old (finished (record old { held = z; fault = first_fault old.fault x }) (close_reply (error_in (record old { held = z; fault = first_fault old.fault x }))))) (sym k.becomes)
    (close_fails_at_once link at condition old k.s k.s' x k.is (stopped_late old.held k.s k.is n) k.step i.not_memory)

-- ---- a Close is queued

record LateClose {L : Type 0} (link : Ghosts L) (error : Option AmqpError) (held : Held L) (result : Result Unit ConnectionFault) (held' : Held L) : Type 0 where
  pub s : State L
  pub s' : State L
  pub is : held ≡ Late s
  pub becomes : held' ≡ Late s'
  pub close : EngineClosed link s error result s'

late_close : {L : Type 0} (link : Ghosts L) (error : Option AmqpError) (held : Held L) (result : Result Unit ConnectionFault) (held' : Held L) → ClosedLate link error held result held' → LateClose link error held result held'
late_close link error (Early o p) result held' h = absurd h
late_close link error (Late s) result held' h = record { s = s; s' = h.0; is = refl; becomes = h.1; close = h.2 }
late_close link error (Unopened c) result held' h = absurd h
late_close link error Moving result held' h = absurd h

pub closed_late : {L : Type 0} (link : Ghosts L) (error : Option AmqpError) (held : Held L) (result : Result Unit ConnectionFault) (held' : Held L) → ClosedLate link error held result held' → IsLate held'
closed_late {L} link error held result held' h = let k = late_close link error held result held' h in subst (λ (x : Held L). IsLate x) (sym k.becomes) tt

pub queue_step : {L : Type 0} (link : Ghosts L) (at : ℕ) (old : Peering L) (held : Held L) (condition : Option (List ℕ)) (u : Unit {0}) → old.progress ≡ progress.Closing → ClosedLate link (error_for condition) old.held (Ok u) held → AdvancedFrom link at 0 (IsToClose condition old) old (record old { held = held })
queue_step {L} link at old held condition u p h =
    let k = late_close link (error_for condition) old.held (Ok u) held h in
    subst (λ (x : Held L). AdvancedFrom link at 0 (IsToClose condition old) old (record old { held = x })) (sym k.becomes) (close_queued link at old k.s k.s' condition u p k.is k.close)

noted_as : {L : Type 0} (link : Ghosts L) (at : ℕ) (old : Peering L) (s s' : State L) (condition : Option (List ℕ)) (e : ConnectionFault) (new : Peering L) → old.progress ≡ progress.Closing → old.held ≡ Late s → EngineClosed link s (error_for condition) (Err e) s' → IsCloseNoted e (record old { held = Late s' }) new
    → AdvancedFrom link at 0 (IsToClose condition old) old new
noted_as link at old s s' condition (connection.Memory a) new p l c n = absurd n
noted_as {L} link at old s s' condition (connection.TransportError t) new p l c n =
    subst (λ (x : Peering L). AdvancedFrom link at 0 (IsToClose condition old) old x) (sym n) (close_fails link at old s s' condition (connection.TransportError t) p l c (λ x m. absurd (cc m)) (λ m. absurd (cc m)))
noted_as {L} link at old s s' condition connection.IllegalState new p l c n = subst (λ (x : Peering L). AdvancedFrom link at 0 (IsToClose condition old) old x) (sym n) (close_kept link at old s s' condition p l c)
noted_as {L} link at old s s' condition connection.NotImplemented new p l c n = absurd c.told
noted_as {L} link at old s s' condition connection.NotFound new p l c n = absurd c.told
noted_as {L} link at old s s' condition connection.RemoteClosed new p l c n = absurd c.told
noted_as {L} link at old s s' condition (connection.RemoteClosedWithError x) new p l c n = absurd c.told

pub note_step : {L : Type 0} (link : Ghosts L) (at : ℕ) (old : Peering L) (held : Held L) (condition : Option (List ℕ)) (e : ConnectionFault) (new : Peering L) → old.progress ≡ progress.Closing → ClosedLate link (error_for condition) old.held (Err e) held → IsCloseNoted e (record old { held = held }) new
    → AdvancedFrom link at 0 (IsToClose condition old) old new
note_step {L} link at old held condition e new p h n =
    let k = late_close link (error_for condition) old.held (Err e) held h in
    noted_as link at old k.s k.s' condition e new p k.is k.close (subst (λ (x : Held L). IsCloseNoted e (record old { held = x }) new) k.becomes n)

-- ---- the exchange of headers

record EarlyRun {L E : Type 0} (link : Ghosts L) (held : Held L) (left : ℕ) (result : Result OpeningPoll E) (held' : Held L) (left' : ℕ) : Type 0 where
  pub o : Opened L Authentication
  pub o' : Opened L Authentication
  pub p : Option Prepared
  pub is : held ≡ Early o p
  pub becomes : held' ≡ Early o' p
  pub run : OpeningRan {E = E} link peer_mechanism o left result o' left'

early_run : {L E : Type 0} (link : Ghosts L) (held : Held L) (left : ℕ) (result : Result OpeningPoll E) (held' : Held L) (left' : ℕ) → RanEarly {E = E} link held left result held' left' → EarlyRun {E = E} link held left result held' left'
early_run link (Early o p) left result held' left' h = record { o = o; o' = h.0; p = p; is = refl; becomes = h.1; run = h.2 }
early_run link (Late s) left result held' left' h = absurd h
early_run link (Unopened c) left result held' left' h = absurd h
early_run link Moving left result held' left' h = absurd h

ready_with : {L : Type 0} (held : Held L) (o : Opened L Authentication) (p : Option Prepared) → held ≡ Early o p → IsReady held → IsReadyWith o p
ready_with {L} held o p e r = subst (λ (x : Held L). IsReady x) e r

pub open_waits : {L : Type 0} (link : Ghosts L) (at : ℕ) (old : Peering L) (held : Held L) (left : ℕ) → IsReady old.held → RanEarly {E = AllocError} link old.held (2 ^ 62) (Ok poll.Pending) held left → Rested link at (2 ^ 62) old (record old { held = held })
open_waits {L} link at old held left r h =
    let k = early_run {E = AllocError} link old.held (2 ^ 62) (Ok poll.Pending) held left h in
    subst (λ (x : Held L). Rested link at (2 ^ 62) old (record old { held = x })) (sym k.becomes) (early_rests link at old k.o k.o' k.p left k.is (ready_with old.held k.o k.p k.is r) k.run)

pub open_ends : {L : Type 0} (link : Ghosts L) (at : ℕ) (old : Peering L) (held : Held L) (left : ℕ) (e : NegotiationError) → IsReady old.held → RanEarly {E = AllocError} link old.held (2 ^ 62) (Ok (poll.Failed e)) held left → Rested link at (2 ^ 62) old (told (record old { held = held }) (reply.OpenError (failed.Negotiation e)))
open_ends {L} link at old held left e r h =
    let k = early_run {E = AllocError} link old.held (2 ^ 62) (Ok (poll.Failed e)) held left h in
    subst (λ (x : Held L). Rested link at (2 ^ 62) old (told (record old { held = x }) (reply.OpenError (failed.Negotiation e)))) (sym k.becomes) (early_fails link at old k.o k.o' k.p left e k.is (ready_with old.held k.o k.p k.is r) k.run)

pub open_exchanged : {L : Type 0} (link : Ghosts L) (at : ℕ) (old : Peering L) (held : Held L) (left : ℕ) → IsReady old.held → RanEarly {E = AllocError} link old.held (2 ^ 62) (Ok poll.Exchanged) held left → IsExchanged held × Advanced link at (2 ^ 62) old (record old { held = held })
open_exchanged {L} link at old held left r h =
    let k = early_run {E = AllocError} link old.held (2 ^ 62) (Ok poll.Exchanged) held left h in
    let q = ready_with old.held k.o k.p k.is r in (
      subst (λ (x : Held L). IsExchanged x) (sym k.becomes) (exchanged_ready k.o k.o' k.p q k.run.comes.0),
      subst (λ (x : Held L). Advanced link at (2 ^ 62) old (record old { held = x })) (sym k.becomes) (early_exchanged link at old k.o k.o' k.p left k.is q k.run),
    )

-- ---- the connection begins

record Exchange {L : Type 0} (held : Held L) : Type 0 where
  pub o : Opened L Authentication
  pub p : Prepared
  pub is : held ≡ Early o (Some p)
  pub stage : o.stage ≡ stage.Exchanged

exchange_with : {L : Type 0} (o : Opened L Authentication) (p : Option Prepared) → IsExchangedWith o p → Exchange (Early o p)
exchange_with o None e = absurd e
exchange_with o (Some p) e = record { o = o; p = p; is = refl; stage = e }

exchange : {L : Type 0} (held : Held L) → IsExchanged held → Exchange held
exchange (Early o p) e = exchange_with o p e
exchange (Late s) e = absurd e
exchange (Unopened c) e = absurd e
exchange Moving e = absurd e

connecting : {L : Type 0} (held held' : Held L) (at : ℕ) (result : Result Unit ConnectionFault) (x : Exchange held) → Connected held at result held' → IsConnecting (bound x.o.negotiation.codec x.p.idle at) x.p result held'
connecting {L} held held' at result x c = subst (λ (h : Held L). Connected h at result held') x.is c

pub connect_late : {L : Type 0} (held held' : Held L) (at : ℕ) (u : Unit {0}) → IsExchanged held → Connected held at (Ok u) held' → IsLate held'
connect_late {L} held held' at u e c = let k = connecting held held' at (Ok u) (exchange held e) c in subst (λ (h : Held L). IsLate h) (sym k.1) tt

pub connect_begins : {L : Type 0} (link : Ghosts L) (at : ℕ) (old : Peering L) (held : Held L) (u : Unit {0}) → IsExchanged old.held → Connected old.held at (Ok u) held → Advanced link at 0 old (record old { held = held })
connect_begins {L} link at old held u e c =
    let x = exchange old.held e in
    let k = connecting old.held held at (Ok u) x c in
    subst (λ (h : Held L). Advanced link at 0 old (record old { held = h })) (sym k.1) (connected link at old x.o x.p k.0 x.is x.stage k.2)

pub connect_ends : {L : Type 0} (link : Ghosts L) (at : ℕ) (old : Peering L) (held : Held L) (e y : ConnectionFault) → IsExchanged old.held → Connected old.held at (Err e) held → without_memory e ≡ Ok y → Rested link at 0 old (told (record old { held = held }) (reply.OpenError (open_error_of y)))
connect_ends {L} link at old held e y i c w =
    let n = kept e y w in
    let x = exchange old.held i in
    let k = connecting old.held held at (Err y) x (subst (λ (z : ConnectionFault). Connected old.held at (Err z) held) (sym n.same) c) in
    subst (λ (h : Held L). Rested link at 0 old (told (record old { held = h }) (reply.OpenError (open_error_of y)))) (sym k.1) (connect_fails link at old x.o x.p y k.0 x.is x.stage k.2 n.not_memory)

-- ---- an open or accept begins

record EarlyHeld {L : Type 0} (held : Held L) : Type 0 where
  pub o : Opened L Authentication
  pub p : Option Prepared
  pub is : held ≡ Early o p

early_held : {L : Type 0} (held : Held L) → IsEarly held → EarlyHeld held
early_held (Early o p) e = record { o = o; p = p; is = refl }
early_held (Late s) e = absurd e
early_held (Unopened c) e = absurd e
early_held Moving e = absurd e

-- an end whose call is answered by pending
abbrev pub answered_pending : {L : Type 0} → Peering L → Peering L
answered_pending p = record p { replies = p.replies ++ pending p.name ∷ [] }

pub begin_with_step : {L : Type 0} (link : Ghosts L) (at n : ℕ) (call : Call) (old mid new : Peering L) (held : Held L) (p : Prepared) (c : SaslCall) (x : Authentication) → mid ≡ answered_pending old → IsEarly old.held → BeganWith mid.held x p held → prepared_of call ≡ Some p → sasl_of call ≡ Some c → MadeFor c x → holds_by x [] []
    → Rested link at n (record mid { held = held }) new → RestedFrom link at n (IsAsked call old) old new
begin_with_step {L} link at n call old mid new held p c x m e b prep sasl made holds r =
    let k = early_held old.held e in
    let now : Peering L = answered_pending old in
    let began : BeganWith old.held x p held = subst (λ (z : Peering L). BeganWith z.held x p held) m b in
    let is : held ≡ Early (begun k.o x) (Some p) = subst (λ (h : Held L). BeganWith h x p held) k.is began in
    let rests : Rested link at n (record now { held = held }) new = subst (λ (z : Peering L). Rested link at n (record z { held = held }) new) m r in
    asked_opens link at n call old new (layer_texts call c x sasl made)
    (begins_with link at n call now new k.o k.p p c x k.is prep sasl made holds (subst (λ (h : Held L). Rested link at n (record now { held = h }) new) is rests))

pub begin_plain_step : {L : Type 0} (link : Ghosts L) (at n : ℕ) (call : Call) (old mid new : Peering L) (held : Held L) (p : Prepared) → mid ≡ answered_pending old → IsEarly old.held → BeganPlain mid.held p held → prepared_of call ≡ Some p → sasl_of call ≡ None
    → Rested link at n (record mid { held = held }) new → RestedFrom link at n (IsAsked call old) old new
begin_plain_step {L} link at n call old mid new held p m e b prep sasl r =
    let k = early_held old.held e in
    let now : Peering L = answered_pending old in
    let began : BeganPlain old.held p held = subst (λ (z : Peering L). BeganPlain z.held p held) m b in
    let is : held ≡ Early (begun_plain k.o) (Some p) = subst (λ (h : Held L). BeganPlain h p held) k.is began in
    let rests : Rested link at n (record now { held = held }) new = subst (λ (z : Peering L). Rested link at n (record z { held = held }) new) m r in
    asked_opens link at n call old new (plain_texts call sasl)
    (begins_plain link at n call now new k.o k.p p k.is prep sasl (subst (λ (h : Held L). Rested link at n (record now { held = h }) new) is rests))

pub begin_refused_step : {L : Type 0} (link : Ghosts L) (at n : ℕ) (call : Call) (old new : Peering L) (c : SaslCall) (e : NegotiationError) → IsEarly old.held → sasl_of call ≡ Some c → IsCallRefusal c e → IsMemoryIn e None → Refused old e new → RestedFrom link at n (IsAsked call old) old new
begin_refused_step link at n call old new c e i sasl r m f = let k = early_held old.held i in begins_refused link at n call old new k.o k.p c e k.is sasl r m f

-- it is ready once it began
pub began_with_ready : {L : Type 0} (held held' : Held L) (x : Authentication) (p : Prepared) → IsEarly held → BeganWith held x p held' → IsReady held'
began_with_ready {L} held held' x p e b =
    let k = early_held held e in
    let is : held' ≡ Early (begun k.o x) (Some p) = subst (λ (h : Held L). BeganWith h x p held') k.is b in
    subst (λ (h : Held L). IsReady h) (sym is) tt

pub began_plain_ready : {L : Type 0} (held held' : Held L) (p : Prepared) → IsEarly held → BeganPlain held p held' → IsReady held'
began_plain_ready {L} held held' p e b =
    let k = early_held held e in
    let is : held' ≡ Early (begun_plain k.o) (Some p) = subst (λ (h : Held L). BeganPlain h p held') k.is b in
    subst (λ (h : Held L). IsReady h) (sym is) tt

-- with the end as it is afterwards

pub connect_ended : {L : Type 0} (link : Ghosts L) (at : ℕ) (old new : Peering L) (held : Held L) (e y : ConnectionFault) → IsExchanged old.held → Connected old.held at (Err e) held → without_memory e ≡ Ok y → new ≡ told (record old { held = held }) (reply.OpenError (open_error_of y)) → Rested link at (2 ^ 62) old new
connect_ended {L} link at old new held e y i c w is =
    let few : 0 ≤ 2 ^ 62 = omega arith in
    subst (λ (z : Peering L). Rested link at (2 ^ 62) old z) (sym is) (rested_more link at 0 (2 ^ 62) (Has old) old _ few (connect_ends link at old held e y i c w))

pub open_ended : {L : Type 0} (link : Ghosts L) (at : ℕ) (old new : Peering L) (held : Held L) (left : ℕ) (e : NegotiationError) → IsReady old.held → RanEarly {E = AllocError} link old.held (2 ^ 62) (Ok (poll.Failed e)) held left → new ≡ told (record old { held = held }) (reply.OpenError (failed.Negotiation e)) → Rested link at (2 ^ 63) old new
open_ended {L} link at old new held left e r h is =
    let few : 2 ^ 62 ≤ 2 ^ 63 = omega arith in
    subst (λ (z : Peering L). Rested link at (2 ^ 63) old z) (sym is) (rested_more link at (2 ^ 62) (2 ^ 63) (Has old) old _ few (open_ends link at old held left e r h))

-- ---- a call that an end may make fits what it holds

fits_first : {L : Type 0} (kind : PeerKind) (call : Call) (held : Held L) → IsFirstCall kind call → IsEarly held → FitsCall call held
fits_first kind (Open settings host sasl) held f e = e
fits_first kind (Accept settings sasl) held f e = e
fits_first Client (Close error) held f e = absurd f
fits_first Listener (Close error) held f e = absurd f

fits_close : {L : Type 0} (call : Call) (held : Held L) → IsClose call → IsLate held → FitsCall call held
fits_close (Open settings host sasl) held c l = absurd c
fits_close (Accept settings sasl) held c l = absurd c
fits_close (Close error) held c l = l

made_late : {L : Type 0} (fault : Option ConnectionFault) (held : Held L) (h : List Local) → IsMadeIn fault held h → IsLate held
made_late fault (Early o p) h m = m
made_late fault (Late s) h m = tt
made_late fault (Unopened c) h m = m
made_late fault Moving h m = m

fitting : {L : Type 0} (q : Progress) (old : Peering L) (name : ℕ) (call : Call) (h : List Local) → MayCallIn q old.kind old.name name call → HasIn q old h → FitsCall call old.held
fitting {L} progress.Idle old name call h may has = fits_first old.kind call old.held may (subst (λ (x : Held L). IsEarly x) (sym has.holds) tt)
fitting progress.Opening old name call h may has = absurd may
fitting progress.Open old name call h may has = fits_close call old.held may.0 (made_late old.fault old.held h has.is_made)
fitting progress.Closing old name call h may has = absurd may
fitting progress.Over old name call h may has = absurd may

pub misfit : {L : Type 0} (link : Ghosts L) (at name : ℕ) (call : Call) (old new : Peering L) → MayCall old name call → (FitsCall call old.held → ⊥) → Stepped link old (Polled at) new → Stepped link old (Made at name call) new
misfit link at name call old new may n s =
    record {
      events = s.events;
      inside = s.inside;
      went = s.went;
      answers = s.answers;
      few = s.few;
      gathers = s.gathers;
      kind = s.kind;
      settled = s.settled;
      concluded = s.concluded;
      begun = s.begun;
      grows = λ h x. absurd (n (fitting old.progress old name call h may x));
    }
