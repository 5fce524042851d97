-- How the calls of an end begin.
use Rattle.std.proofs.Common.{◌≡◌, ◌≤◌, ◌^◌, ◌⊎◌, inl, inr, ℕ, List, [], ◌∷◌, ◌++◌, true, false, Option, Some, None, Result, Ok, Err, refl, sym, ap, ◌∙◌, subst, append_assoc, arith}
use Rattle.std.proofs.lemmas.List.{append-nil}
use Rattle.amqp_wire.specs.declared.link.Link.{Ghosts}
use Rattle.amqp_wire.specs.declared.link.Held.TheVariants.{Full}
use Rattle.amqp_wire.specs.Events.{LinkEvent, NotWritten, Includes, Went, reads_in, wrote_of}
use Rattle.amqp_composites.specs.declared.error.Error.{Error as AmqpError}
use Rattle.amqp_engine.specs.declared.error.Error.{Error as ConnectionFault}
use Rattle.amqp_engine.specs.declared.error.Error.TheVariants as connection
use Rattle.amqp_transport.specs.declared.transport.Error.TheVariants as transport
use Rattle.amqp_engine.specs.Calls.{IsTooLarge}
use Rattle.amqp_engine.specs.declared.engine.EngineStep.TheVariants as step
use Rattle.amqp_engine.specs.declared.phase.Phase.{Phase}
use Rattle.amqp_engine.specs.declared.phase.Phase.TheVariants as p
use Rattle.amqp_engine.specs.Faults.{AllOwed}
use Rattle.amqp_engine.specs.Heard.{IsHeard}
use Rattle.amqp_engine.specs.Outcomes.{IsHanded, IsWritten, IsOnward, IsRefusal, IsClosedBy, Stepped as EngineStepped, HasClosed as EngineClosed}
use Rattle.amqp_transport.specs.declared.frames.Frame.{Frame}
use Rattle.amqp_engine.specs.Phases.{has_failed, is_stopped, hears}
use Rattle.amqp_engine.specs.Sentence.{Ran}
use Rattle.amqp_engine.specs.State.{State, failing, closing, close_frame, close_phase}
use Rattle.sasl_exchange.specs.declared.error.NegotiationError.{NegotiationError}
use Rattle.sasl_exchange.specs.declared.error.NegotiationError.TheVariants as negotiation
use Rattle.sasl_scram.specs.declared.error.ScramErrorKind.TheVariants.{TextNotAllowed}
use Rattle.amqp_opening.specs.declared.authentication.Authentication.{Authentication}
use Rattle.amqp_opening.specs.declared.authentication.SaslCall.{SaslCall}
use Rattle.amqp_opening.specs.declared.opening.Stage.TheVariants as stage
use Rattle.amqp_opening.specs.Authentication.{peer_mechanism, MadeFor, HasAllowedTexts, holds_by, IsCallRefusal}
use Rattle.amqp_opening.specs.Opening.{Opened, begun, begun_plain, IsMemoryIn}
use Rattle.amqp_opening.proofs.Exchanges.{gated_nothing}
use Rattle.amqp_opening.proofs.Openings.{has_begun, has_begun_plain}
use Rattle.amqp_words.specs.declared.call.Call.{Call}
use Rattle.amqp_words.specs.declared.call.Call.TheVariants.{Close}
use Rattle.amqp_words.specs.declared.open_error.OpenError.TheVariants as failed
use Rattle.amqp_words.specs.declared.reply.Reply.TheVariants as reply
use Rattle.amqp_words.specs.declared.reply.NamedReply.{NamedReply}
use Rattle.amqp_peer.specs.declared.held.Held.{Held}
use Rattle.amqp_peer.specs.declared.held.Held.TheVariants.{Early, Late, Unopened, Moving}
use Rattle.amqp_peer.specs.declared.peer.Progress.{Progress}
use Rattle.amqp_peer.specs.declared.peer.Progress.TheVariants as progress
use Rattle.amqp_peer.specs.declared.prepared.Prepared.{Prepared}
use Rattle.amqp_peer.specs.Causes.{closing as own_closing, TransportCause, MadeIn, AreAllowedTexts, is_layer, has_layer, IsOpenCause, not_allowed, OpenCauseIn, BeginsWithOpen, prepared_in}
use Rattle.amqp_peer.specs.Frames.{sessions_of}
use Rattle.amqp_peer.specs.Hearing.{hears_in, channels_in, Gathers}
use Rattle.amqp_peer.specs.Gated.{IsTalk, IsGatedIn}
use Rattle.amqp_peer.specs.Held.{IsReadyWith, IsMidway, IsBusyWith, IsExchangedWith, IsActive, IsStopped, link_at, EndedEarly}
use Rattle.amqp_peer.specs.History.{Local, Made, Polled, Replied, made_in, link_in, given_in, replied_in, moment_in, read_in, wrote_in}
use Rattle.amqp_peer.specs.Peering.{Peering, Has, HasIn, IsHeldAt, IsRunning, IsExchanging, IsUntouched, IsOpen, HasNothing, HasClosed, HasWritten, IsMadeIn, IsFaultIn, IsBrokenIn, link_of}
use Rattle.amqp_peer.specs.Prepared.{prepared_of, sasl_of, error_for}
use Rattle.amqp_peer.specs.Replies.{pending, open_failed, answered}
use Rattle.amqp_peer.specs.Runs.{AdvancedFrom, IsToClose, RestedFrom, Rested, Stepped, IsAsked, IsToOpen, IsAskedToClose, Refused, told, finished, close_reply, error_in, first_fault}
use Rattle.amqp_peer.proofs.Advances.{called_keeps, settled_left, concluded_left, flushed, went_late, finish_close, written_after}
use Rattle.amqp_peer.proofs.Leaves.{called_leaves}
use Rattle.amqp_peer.proofs.Faulty.{broken_large}
use Rattle.amqp_peer.proofs.Stays.{failed_stops}
use Rattle.amqp_peer.proofs.Beats.{IsTimed, timed, closed_timed}
use Rattle.amqp_peer.proofs.Grows.{broken_sound, late_more, fault_same, fault_failed, called_moves, is_running, heard_open_more}
use Rattle.amqp_peer.proofs.Quiet.{quiet_replied, quiet_made, called_quiet, made_quiet, has_polled}
use Rattle.amqp_peer.proofs.Histories.{inside-append, link_in-append, replied_in-append}
use Rattle.amqp_peer.proofs.Said.{IsDue}
use Rattle.amqp_peer.proofs.Moved.{moved, passed, made_after, replied_after}
use Rattle.amqp_peer.proofs.Gathers.{gathers_late, gathers_none, gathers_early, gathers_after, gathers_same, gathers_from}
use Rattle.amqp_peer.proofs.Unsaid.{closed_unsaid, closed_channels, closed_listens}
use Rattle.amqp_peer.proofs.Written.{queued_nothing}
use Rattle.amqp_peer.proofs.Layers.{layer_refused}
use Rattle.amqp_peer.proofs.Refusals.{first_texts, closing_texts}

-- ---- an open or accept

-- what an end holds that was asked for it
abbrev asked_early : {L : Type 0} → Opened L Authentication → Held L → Opened L Authentication
asked_early d (Early o p) = o
asked_early d (Late s) = d
asked_early d (Unopened c) = d
asked_early d Moving = d

untouched_of : {L : Type 0} (call : Call) (old : Peering L) (o : Opened L Authentication) (p : Option Prepared) (h : List Local) → old.held ≡ Early o p → IsToOpen call old h → IsUntouched o
untouched_of {L} call old o p h e a = subst (λ (x : Opened L Authentication). IsUntouched x) (sym (ap (asked_early o) (sym e ∙ a.holds))) a.untouched

-- an exchange of headers has begun
begins : {L : Type 0} (call : Call) (old : Peering L) (o : Opened L Authentication) (p : Prepared) (h : List Local) → IsToOpen call old h → prepared_of call ≡ Some p → MadeIn (sasl_of call) o.has_sasl o.negotiation.exchange → IsMidway o.stage → IsHeldAt o.stage call o (Some p) h
    → HasIn old.progress (record old { held = Early o (Some p) }) h
begins {L} call old o p h a e m mid k =
    subst (λ (q : Progress). HasIn q (record old { held = Early o (Some p) }) h) (sym a.progress)
    (record { call = call; made = a.made; replied = a.replied; called = record { holds = k; caused = a.caused }; unmade = (a.fault, mid) })

pub begins_with : {L : Type 0} (link : Ghosts L) (at n : ℕ) (call : Call) (old new : Peering L) (o : Opened L Authentication) (p0 : Option Prepared) (p : Prepared) (c : SaslCall) (x : Authentication) → old.held ≡ Early o p0 → prepared_of call ≡ Some p → sasl_of call ≡ Some c → MadeFor c x → holds_by x [] []
    → Rested link at n (record old { held = Early (begun o x) (Some p) }) new → RestedFrom link at n (IsToOpen call old) old new
begins_with {L} link at n call old new o p0 p c x e prep sasl made held r =
    record {
      run = record {
        events = r.run.events;
        inside = r.run.inside;
        went = λ d. subst (λ (z : L). Went link z (link_in r.run.events) (link_of d new)) (sym (ap (link_at d) e)) (r.run.went d);
        answers = r.run.answers;
        few = r.run.few;
        gathers = gathers_from old.held (Early (begun o x) (Some p)) new.held r.run.events (sym (ap hears_in e)) (sym (ap channels_in e)) r.run.gathers;
        kind = r.run.kind;
        grows = λ h t a.
            let u = untouched_of call old o p0 h e a in
            let m : MadeIn (sasl_of call) true x = subst (λ (z : Option SaslCall). MadeIn z true x) (sym sasl) (refl, made) in
            let k : IsExchanging call (begun o x) (Some p) h = record { made = m; asked = ap has_layer a.made ∙ ap is_layer sasl; prepared = prep; known = tt; opening = has_begun peer_mechanism o x (link_in h) held u.input u.output u.phase a.link; given = a.given; sent = a.sent } in
            r.run.grows h t (begins call old (begun o x) p h a prep m tt k);
      };
      settled = r.settled;
      concluded = r.concluded;
      begun = r.begun;
    }

pub begins_plain : {L : Type 0} (link : Ghosts L) (at n : ℕ) (call : Call) (old new : Peering L) (o : Opened L Authentication) (p0 : Option Prepared) (p : Prepared) → old.held ≡ Early o p0 → prepared_of call ≡ Some p → sasl_of call ≡ None
    → Rested link at n (record old { held = Early (begun_plain o) (Some p) }) new → RestedFrom link at n (IsToOpen call old) old new
begins_plain {L} link at n call old new o p0 p e prep sasl r =
    record {
      run = record {
        events = r.run.events;
        inside = r.run.inside;
        went = λ d. subst (λ (z : L). Went link z (link_in r.run.events) (link_of d new)) (sym (ap (link_at d) e)) (r.run.went d);
        answers = r.run.answers;
        few = r.run.few;
        gathers = gathers_from old.held (Early (begun_plain o) (Some p)) new.held r.run.events (sym (ap hears_in e)) (sym (ap channels_in e)) r.run.gathers;
        kind = r.run.kind;
        grows = λ h t a.
            let u = untouched_of call old o p0 h e a in
            let m : MadeIn (sasl_of call) false o.negotiation.exchange = subst (λ (z : Option SaslCall). MadeIn z false o.negotiation.exchange) (sym sasl) refl in
            let k : IsExchanging call (begun_plain o) (Some p) h = record { made = m; asked = ap has_layer a.made ∙ ap is_layer sasl; prepared = prep; known = tt; opening = has_begun_plain peer_mechanism o (link_in h) u.input u.output a.link; given = a.given; sent = a.sent } in
            r.run.grows h t (begins call old (begun_plain o) p h a prep m tt k);
      };
      settled = r.settled;
      concluded = r.concluded;
      begun = r.begun;
    }

ended_done_at : {L : Type 0} (o : Opened L Authentication) (p : Option Prepared) → IsBusyWith (record o { stage = stage.Ended }) p → ⊥
ended_done_at o None z = z
ended_done_at o (Some p) z = z

ended_not_at : {L : Type 0} (o : Opened L Authentication) (p : Option Prepared) → IsReadyWith (record o { stage = stage.Ended }) p → ⊥
ended_not_at o None z = z
ended_not_at o (Some p) z = z

ended_exchanged_not_at : {L : Type 0} (o : Opened L Authentication) (p : Option Prepared) → IsExchangedWith (record o { stage = stage.Ended }) p → ⊥
ended_exchanged_not_at o None e = e
ended_exchanged_not_at o (Some p) e = absurd (cc e)

-- an open or accept is refused before anything is written
nothing_written : (call : Call) (c : SaslCall) (h : List Local) → sasl_of call ≡ Some c → link_in h ≡ [] → HasWritten call h
nothing_written call c h e l = subst (λ (z : Option SaslCall). IsGatedIn z (wrote_in h) (read_in h)) (sym e) (gated_nothing IsTalk c (wrote_in h) (read_in h) (ap wrote_of l))

refusal_is : (c : SaslCall) (e : NegotiationError) → IsCallRefusal c e → IsMemoryIn e None → e ≡ negotiation.ScramError TextNotAllowed
refusal_is c (negotiation.Memory a) r m = absurd (cc m)
refusal_is c (negotiation.ProtocolHeaderMismatch x) r m = absurd r
refusal_is c negotiation.NotImplemented r m = absurd r
refusal_is c (negotiation.SaslError code d) r m = absurd r
refusal_is c (negotiation.ScramError kind) r m = ap negotiation.ScramError r.0
refusal_is c (negotiation.Io kind) r m = absurd r
refusal_is c negotiation.DecodeError r m = absurd r
refusal_is c negotiation.IllegalState r m = absurd r
refusal_is c negotiation.FramingError r m = absurd r

refusal_texts : (c : SaslCall) (e : NegotiationError) → IsCallRefusal c e → IsMemoryIn e None → ¬ HasAllowedTexts c
refusal_texts c (negotiation.Memory a) r m = absurd (cc m)
refusal_texts c (negotiation.ProtocolHeaderMismatch x) r m = absurd r
refusal_texts c negotiation.NotImplemented r m = absurd r
refusal_texts c (negotiation.SaslError code d) r m = absurd r
refusal_texts c (negotiation.ScramError kind) r m = r.1
refusal_texts c (negotiation.Io kind) r m = absurd r
refusal_texts c negotiation.DecodeError r m = absurd r
refusal_texts c negotiation.IllegalState r m = absurd r
refusal_texts c negotiation.FramingError r m = absurd r

refusal_cause : (c : SaslCall) (asked : Call) (e : NegotiationError) (h : List Local) → sasl_of asked ≡ Some c → IsCallRefusal c e → IsMemoryIn e None → IsOpenCause asked e (link_in h)
refusal_cause c asked e h s r m = not_allowed c s (refusal_texts c e r m) (refusal_is c e r m)

pub begins_refused : {L : Type 0} (link : Ghosts L) (at n : ℕ) (call : Call) (old new : Peering L) (o : Opened L Authentication) (p0 : Option Prepared) (c : SaslCall) (e : NegotiationError) → old.held ≡ Early o p0 → sasl_of call ≡ Some c → IsCallRefusal c e → IsMemoryIn e None → Refused old e new
    → RestedFrom link at n (IsAsked call old) old new
begins_refused {L} link at n call old new o p0 c e l sasl r m f =
    let held : f.held ≡ Early (record o { stage = stage.Ended }) p0 = subst (λ (x : Held L). EndedEarly x f.held) l f.ended in
    let answer = open_failed old.name (failed.Negotiation e) in
    subst (λ (z : Peering L). RestedFrom link at n (IsAsked call old) old z) (sym (f.is ∙ ap (λ (x : Held L). told (record old { held = x }) (reply.OpenError (failed.Negotiation e))) held))
    (record {
      run = record {
        events = Replied answer ∷ [];
        inside = tt;
        went = λ d. sym (ap (link_at d) l);
        answers = refl;
        few = omega arith;
        gathers = gathers_early old.held (Early (record o { stage = stage.Ended }) p0) o p0 (Replied answer ∷ []) l refl refl refl;
        kind = refl;
        grows = λ h t a. inl (record {
          call = call;
          name = old.name;
          error = failed.Negotiation e;
          made = a.made;
          replied = inr (ap (λ (u : List NamedReply). u ++ answer ∷ []) a.replied, ap failed.Negotiation (refusal_is c e r m));
          silent = λ t. a.link;
          called = record {
            holds = record { written = nothing_written call c h sasl a.link; exchange = layer_refused call c (Replied answer ∷ h) sasl (refusal_texts c e r m) a.link; queued = queued_nothing (Replied answer ∷ h) (ap has_layer a.made ∙ ap is_layer sasl) a.link a.sent; given = a.given; sent = a.sent };
            caused = (subst (λ (cs : List (ℕ × Call)). OpenCauseIn cs e (link_in h)) (sym a.made) (refusal_cause c call e h sasl r m), a.caused);
          };
          done = λ z. ended_done_at o p0 z;
          broken = tt;
        });
      };
      settled = λ z. absurd (ended_not_at o p0 z);
      concluded = λ z. absurd z;
      begun = λ z. ended_exchanged_not_at o p0 z;
    })

-- it was asked, and pending is answered
waits_to_open : {L : Type 0} (call : Call) (old : Peering L) (h : List Local) → AreAllowedTexts (sasl_of call) → IsAsked call old h → IsToOpen call (record old { replies = old.replies ++ pending old.name ∷ [] }) (Replied (pending old.name) ∷ h)
waits_to_open call old h texts a =
    record {
      made = a.made;
      replied = ap (λ (u : List NamedReply). u ++ pending old.name ∷ []) a.replied;
      link = a.link;
      given = a.given;
      sent = a.sent;
      caused = (first_texts call old.name h a.made texts, a.caused);
      progress = a.progress;
      fault = a.fault;
      opening = a.opening;
      prepared = a.prepared;
      holds = a.holds;
      untouched = a.untouched;
    }

pub asked_opens : {L : Type 0} (link : Ghosts L) (at n : ℕ) (call : Call) (old new : Peering L) → AreAllowedTexts (sasl_of call)
    → RestedFrom link at n (IsToOpen call (record old { replies = old.replies ++ pending old.name ∷ [] })) (record old { replies = old.replies ++ pending old.name ∷ [] }) new → RestedFrom link at n (IsAsked call old) old new
asked_opens {L} link at n call old new texts r =
    let es = r.run.events in
    let one = Replied (pending old.name) ∷ [] in
    let links : link_in (es ++ one) ≡ link_in es = link_in-append es one ∙ append-nil (link_in es) in
    record {
      run = record {
        events = es ++ one;
        inside = inside-append es one r.run.inside tt;
        went = λ d. subst (λ (u : List LinkEvent). Went link (link_of d old) u (link_of d new)) (sym links) (r.run.went d);
        answers = r.run.answers ∙ append_assoc old.replies (pending old.name ∷ []) (replied_in es) ∙ ap (λ (u : List NamedReply). old.replies ++ u) (sym (replied_in-append es one));
        few = let z = ap reads_in links in omega (arith, z, r.run.few);
        gathers = gathers_after old.held new.held es one refl refl r.run.gathers;
        kind = r.run.kind;
        grows = λ h t a. subst (λ (u : List Local). Has new u) (sym (append_assoc es one h)) (r.run.grows (Replied (pending old.name) ∷ h) t (waits_to_open call old h texts a));
      };
      settled = λ a. settled_left at new.held es one (r.settled a);
      concluded = λ a. concluded_left new es one (r.concluded a);
      begun = r.begun;
    }

-- an open or accept was called
abbrev pub called_to_open : {L : Type 0} → Peering L → ℕ → Peering L
called_to_open old name = record old { name = name; progress = progress.Opening }

is_asked : {L : Type 0} (old : Peering L) (name at : ℕ) (call : Call) (h : List Local) → HasNothing old h → IsAsked call (called_to_open old name) (Made at name call ∷ h)
is_asked old name at call h n =
    record {
      made = ap (λ (u : List (ℕ × Call)). (name, call) ∷ u) n.made;
      replied = n.replied;
      link = n.link;
      given = n.given;
      sent = n.sent;
      caused = n.caused;
      progress = refl;
      fault = n.fault;
      opening = n.opening;
      prepared = n.prepared;
      holds = n.holds;
      untouched = n.untouched;
    }

pub started : {L : Type 0} (link : Ghosts L) (at name : ℕ) (call : Call) (old new : Peering L) → old.progress ≡ progress.Idle → RestedFrom link at (2 ^ 63) (IsAsked call (called_to_open old name)) (called_to_open old name) new → Stepped link old (Made at name call) new
started link at name call old new e r =
    record {
      events = r.run.events;
      inside = r.run.inside;
      went = r.run.went;
      answers = r.run.answers;
      few = r.run.few;
      gathers = r.run.gathers;
      kind = r.run.kind;
      settled = r.settled;
      concluded = r.concluded;
      begun = λ b. r.begun;
      grows = λ h x. r.run.grows (Made at name call ∷ h) refl (is_asked old name at call h (subst (λ (q : Progress). HasIn q old h) e x));
    }

-- ---- a close

-- the Close of the call is queued, or nothing is
close_due : {L : Type 0} (condition : Option (List ℕ)) (s s' : State L) (calls : List (ℕ × Call)) (name : ℕ) (earlier : List (ℕ × Call)) (queued : List Frame) (result : Result Unit ConnectionFault) → calls ≡ (name, Close condition) ∷ earlier → IsClosedBy s (error_for condition) queued result s'
    → IsDue calls s.phase queued
close_due condition s s' calls name earlier queued (Ok u) m c = inr (inl (name, condition, earlier, m, c.0))
close_due condition s s' calls name earlier queued (Err (connection.Memory x)) m c = inl (subst (AllOwed s.phase) (sym c.0) tt)
close_due condition s s' calls name earlier queued (Err (connection.TransportError transport.FramingError)) m c = inl (subst (AllOwed s.phase) (sym c.0) tt)
close_due condition s s' calls name earlier queued (Err (connection.TransportError (transport.Memory x))) m c = absurd c
close_due condition s s' calls name earlier queued (Err (connection.TransportError (transport.Io x))) m c = absurd c
close_due condition s s' calls name earlier queued (Err (connection.TransportError transport.IdleTimeoutElapsed)) m c = absurd c
close_due condition s s' calls name earlier queued (Err (connection.TransportError transport.DecodeError)) m c = absurd c
close_due condition s s' calls name earlier queued (Err (connection.TransportError transport.NotImplemented)) m c = absurd c
close_due condition s s' calls name earlier queued (Err connection.IllegalState) m c = inl (subst (AllOwed s.phase) (sym c.0) tt)
close_due condition s s' calls name earlier queued (Err connection.NotImplemented) m c = absurd c
close_due condition s s' calls name earlier queued (Err connection.NotFound) m c = absurd c
close_due condition s s' calls name earlier queued (Err connection.RemoteClosed) m c = absurd c
close_due condition s s' calls name earlier queued (Err (connection.RemoteClosedWithError x)) m c = absurd c

-- the peer's Open was read
begins_not_first : {L : Type 0} (call : Call) (s : State L) (h : List Local) → IsRunning call s h → BeginsWithOpen (given_in h) → s.phase ≡ p.OpenSent → ⊥
begins_not_first call s h k o e = let n = (subst (λ (q : Phase). IsHeard q s.reason (given_in h)) e k.runs.heard).0 in absurd (cc (sym n ∙ o.is))

-- nothing comes to wait
close_gathers : {L : Type 0} (link : Ghosts L) (old : Peering L) (s s' : State L) (condition : Option (List ℕ)) (result : Result Unit ConnectionFault) → old.held ≡ Late s → (c : EngineClosed link s (error_for condition) result s') → Gathers old.held (Late s') (moved c.run)
close_gathers {L} link old s s' condition result e c =
    let r = c.run in
    gathers_none old.held (Late s') (moved r) (closed_channels s s' (error_for condition) r.queued result c.told ∙ sym (ap channels_in e))
    (λ z. ap hears_in e ∙ closed_listens s s' (error_for condition) r.queued result c.told z) ((passed r).heard ∙ c.none) (ap sessions_of (passed r).said ∙ closed_unsaid s s' (error_for condition) r.queued result c.told)

-- a Close was queued, or not, while a close is to be answered
close_moves : {L : Type 0} (link : Ghosts L) (at : ℕ) (old : Peering L) (s s' : State L) (fault : Option ConnectionFault) (condition : Option (List ℕ)) (result : Result Unit ConnectionFault) → old.progress ≡ progress.Closing → old.held ≡ Late s → (c : EngineClosed link s (error_for condition) result s') → ((x : _) → result ≡ Err (connection.Memory x) → ⊥)
    → ((h : List Local) (call : Call) → IsToClose condition old h → IsRunning call s h → IsFaultIn old.fault s h → IsFaultIn fault s' (moved c.run ++ h)) → AdvancedFrom link at 0 (IsToClose condition old) old (record old { held = Late s'; fault = fault })
close_moves {L} link at old s s' fault condition result p e c n g =
    let r = c.run in
    record {
      events = moved r;
      inside = (passed r).inside;
      went = went_late link old.held (Late s') s s' r e refl;
      answers = sym (append-nil old.replies) ∙ ap (λ (u : List NamedReply). old.replies ++ u) (sym (passed r).silent);
      few = let z = ap reads_in ((passed r).link ∙ c.silent) in omega (arith, z);
      gathers = close_gathers link old s s' condition result e c;
      kind = refl;
      grows = λ h t x.
          let k = is_running x.call old.held s h e x.called in
          let i : BeginsWithOpen (given_in h) × IsFaultIn old.fault s h = subst (λ (z : Held L). IsMadeIn old.fault z h) e x.is_made in
          let due = close_due condition s s' (made_in h) old.name ((x.name, x.call) ∷ []) r.queued result x.made c.told in
          subst (λ (q : Progress). HasIn q (record old { held = Late s'; fault = fault }) (moved r ++ h)) (sym p)
          (record {
            call = x.call;
            name = x.name;
            error = condition;
            made = made_after h (passed r) ∙ x.made;
            replied = replied_after h (passed r) ∙ x.replied;
            called = called_moves link at x.call old.held s s' h r (closed_timed link at s (error_for condition) result s' c) due t e x.called;
            is_made = (heard_open_more h r i.0, g h x.call x k i.1);
            leaves = called_leaves s s' (error_for condition) r.queued result n (begins_not_first x.call s h k i.0) c.told;
          });
    }

close_sound : (y : Option AmqpError) → has_failed (close_phase y) ≡ false
close_sound None = refl
close_sound (Some e) = refl

close_lives : (y : Option AmqpError) → is_stopped (close_phase y) ≡ false
close_lives None = refl
close_lives (Some e) = refl

-- it is queued
queued_fault : {L : Type 0} {link : Ghosts L} (fault : Option ConnectionFault) (s s' : State L) (y : Option AmqpError) (h : List Local) (r : Ran link s s') → s' ≡ closing s y → IsFaultIn fault s h → IsFaultIn fault s' (moved r ++ h)
queued_fault {L} None s s' y h r e f = ap (λ (z : State L). has_failed z.phase) e ∙ close_sound y
queued_fault {L} (Some x) s s' y h r e f = (late_more x s s' h r (λ z. absurd (cc ((r.stays (failed_stops s.phase z)).phase, ap (λ (t : State L). is_stopped t.phase) e, close_lives y))) f.0, broken_sound s' (moved r ++ h) (ap (λ (z : State L). has_failed z.phase) e ∙ close_sound y))

pub close_queued : {L : Type 0} (link : Ghosts L) (at : ℕ) (old : Peering L) (s s' : State L) (condition : Option (List ℕ)) (u : Unit {0}) → old.progress ≡ progress.Closing → old.held ≡ Late s → EngineClosed link s (error_for condition) (Ok u) s' → AdvancedFrom link at 0 (IsToClose condition old) old (record old { held = Late s' })
close_queued link at old s s' condition u p e c = close_moves link at old s s' old.fault condition (Ok u) p e c (λ x m. absurd (cc m)) (λ h call a k f. queued_fault old.fault s s' (error_for condition) h c.run c.told.1 f)

-- one is queued or owed already
pub close_kept : {L : Type 0} (link : Ghosts L) (at : ℕ) (old : Peering L) (s s' : State L) (condition : Option (List ℕ)) → old.progress ≡ progress.Closing → old.held ≡ Late s → EngineClosed link s (error_for condition) (Err connection.IllegalState) s' → AdvancedFrom link at 0 (IsToClose condition old) old (record old { held = Late s' })
close_kept {L} link at old s s' condition p e c = close_moves link at old s s' old.fault condition (Err connection.IllegalState) p e c (λ x m. absurd (cc m)) (λ h call a k f. fault_same old.fault s s' h c.run (λ z. c.none) (ap (λ (z : State L). z.phase) c.told.2) f)

-- it is too large
large_cause : {L : Type 0} (condition : Option (List ℕ)) (s : State L) (old : Peering L) (h : List Local) (call : Call) → IsToClose condition old h → IsRunning call s h → IsTooLarge s.wire.codec.encoder (close_frame (error_for condition)) → TransportCause transport.FramingError h
large_cause condition s old h call a k l = inr (record { began = k.began; limit = s.wire.codec.encoder; x = close_frame (error_for condition); is_limit = k.runs.bounded.writes; own = own_closing old.name condition ((a.name, a.call) ∷ []) a.made; large = l })

pub large_breaks : {L : Type 0} {link : Ghosts L} (s s' : State L) (h : List Local) (r : Ran link s s') → r.given ≡ [] → r.queued ≡ [] → TransportCause transport.FramingError h → IsBrokenIn s' (moved r ++ h)
large_breaks s s' h r g q c z = record { fault = transport.FramingError; how = broken_large (moved r) h c ((passed r).heard ∙ g) ((passed r).said ∙ q) }

pub large_fault : {L : Type 0} {link : Ghosts L} (fault : Option ConnectionFault) (s s' : State L) (h : List Local) (r : Ran link s s') → s' ≡ failing s → r.given ≡ [] → r.queued ≡ [] → TransportCause transport.FramingError h → IsFaultIn fault s h
    → IsFaultIn (first_fault fault (connection.TransportError transport.FramingError)) s' (moved r ++ h)
large_fault {L} None s s' h r e g q c f = ((ap (λ (t : State L). has_failed t.phase) e, broken_large (moved r) h c ((passed r).heard ∙ g) ((passed r).said ∙ q)), large_breaks s s' h r g q c)
large_fault {L} (Some x) s s' h r e g q c f = (late_more x s s' h r (λ z. (g, ap (λ (t : State L). has_failed t.phase) e)) f.0, large_breaks s s' h r g q c)

pub close_fails : {L : Type 0} (link : Ghosts L) (at : ℕ) (old : Peering L) (s s' : State L) (condition : Option (List ℕ)) (e : ConnectionFault) → old.progress ≡ progress.Closing → old.held ≡ Late s → EngineClosed link s (error_for condition) (Err e) s' → ((x : _) → e ≡ connection.Memory x → ⊥) → (e ≡ connection.IllegalState → ⊥)
    → AdvancedFrom link at 0 (IsToClose condition old) old (record old { held = Late s'; fault = first_fault old.fault e })
close_fails link at old s s' condition (connection.Memory x) p l c n i = absurd (n x refl)
close_fails link at old s s' condition (connection.TransportError transport.FramingError) p l c n i =
    close_moves link at old s s' (first_fault old.fault (connection.TransportError transport.FramingError)) condition (Err (connection.TransportError transport.FramingError)) p l c (λ x m. absurd (cc m)) (λ h call a k f. large_fault old.fault s s' h c.run c.told.2 c.none c.told.0 (large_cause condition s old h call a k c.told.1) f)
close_fails link at old s s' condition (connection.TransportError (transport.Memory x)) p l c n i = absurd c.told
close_fails link at old s s' condition (connection.TransportError (transport.Io x)) p l c n i = absurd c.told
close_fails link at old s s' condition (connection.TransportError transport.IdleTimeoutElapsed) p l c n i = absurd c.told
close_fails link at old s s' condition (connection.TransportError transport.DecodeError) p l c n i = absurd c.told
close_fails link at old s s' condition (connection.TransportError transport.NotImplemented) p l c n i = absurd c.told
close_fails link at old s s' condition connection.IllegalState p l c n i = absurd (i refl)
close_fails link at old s s' condition connection.NotImplemented p l c n i = absurd c.told
close_fails link at old s s' condition connection.NotFound p l c n i = absurd c.told
close_fails link at old s s' condition connection.RemoteClosed p l c n i = absurd c.told
close_fails link at old s s' condition (connection.RemoteClosedWithError x) p l c n i = absurd c.told

-- it was asked, and pending is answered
waits_to_close : {L : Type 0} (condition : Option (List ℕ)) (old : Peering L) (h : List Local) → IsAskedToClose condition old h → IsToClose condition (record old { replies = old.replies ++ pending old.name ∷ [] }) (Replied (pending old.name) ∷ h)
waits_to_close {L} condition old h w =
    record {
      call = w.call;
      name = w.name;
      made = w.made;
      replied = ap (λ (u : List NamedReply). u ++ pending old.name ∷ []) w.replied;
      called = called_keeps w.call old.held h (pending old.name) (closing_texts w.call (Close condition) w.name old.name old.held old.fault h w.made w.is_made w.called) w.called;
      is_made = made_quiet old.fault old.held h (Replied (pending old.name) ∷ h) (quiet_replied (pending old.name) h) w.is_made;
    }

pub asked_waits : {L : Type 0} (link : Ghosts L) (at n : ℕ) (condition : Option (List ℕ)) (old new : Peering L)
    → RestedFrom link at n (IsToClose condition (record old { replies = old.replies ++ pending old.name ∷ [] })) (record old { replies = old.replies ++ pending old.name ∷ [] }) new → RestedFrom link at n (IsAskedToClose condition old) old new
asked_waits {L} link at n condition old new r =
    let es = r.run.events in
    let one = Replied (pending old.name) ∷ [] in
    let links : link_in (es ++ one) ≡ link_in es = link_in-append es one ∙ append-nil (link_in es) in
    record {
      run = record {
        events = es ++ one;
        inside = inside-append es one r.run.inside tt;
        went = λ d. subst (λ (u : List LinkEvent). Went link (link_of d old) u (link_of d new)) (sym links) (r.run.went d);
        answers = r.run.answers ∙ append_assoc old.replies (pending old.name ∷ []) (replied_in es) ∙ ap (λ (u : List NamedReply). old.replies ++ u) (sym (replied_in-append es one));
        few = let z = ap reads_in links in omega (arith, z, r.run.few);
        gathers = gathers_after old.held new.held es one refl refl r.run.gathers;
        kind = r.run.kind;
        grows = λ h t a. subst (λ (u : List Local). Has new u) (sym (append_assoc es one h)) (r.run.grows (Replied (pending old.name) ∷ h) t (waits_to_close condition old h a));
      };
      settled = λ a. settled_left at new.held es one (r.settled a);
      concluded = λ a. concluded_left new es one (r.concluded a);
      begun = r.begun;
    }

-- the connection has stopped before: what was asked is answered in the step of the engine
asked_ends : {L : Type 0} (link : Ghosts L) (at : ℕ) (condition : Option (List ℕ)) (old : Peering L) (s s' : State L) (fault : Option ConnectionFault) (h : List Local) (r : Ran link s s') → IsTimed at s r.given r.queued s' → AllOwed s.phase r.queued → moment_in h ≡ at → old.held ≡ Late s → is_stopped s'.phase ≡ true
    → (has_failed s'.phase ≡ true) ⊎ (Includes (link_in (moved r ++ h)) (NotWritten Full) ⊎ (s'.wire.codec.output ≡ []))
    → ((call : Call) → IsRunning call s h → prepared_in (made_in h) ≡ prepared_of call → BeginsWithOpen (given_in h) → IsFaultIn old.fault s h → IsFaultIn fault s' (moved r ++ h)) → IsAskedToClose condition old h
    → HasClosed (finished (record old { held = Late s'; fault = fault }) (close_reply (error_in (record old { held = Late s'; fault = fault })))) (Replied (answered old.name (close_reply (error_in (record old { held = Late s'; fault = fault })))) ∷ moved r ++ h)
asked_ends {L} link at condition old s s' fault h r m d t e z f g w =
    let mid = record old { held = Late s'; fault = fault } in
    let i : BeginsWithOpen (given_in h) × IsFaultIn old.fault s h = subst (λ (x : Held L). IsMadeIn old.fault x h) e w.is_made in
    let answers = replied_after h (passed r) ∙ w.replied in
    finish_close mid s' (moved r ++ h) w.call w.name condition refl z f (made_after h (passed r) ∙ w.made) (called_moves link at w.call old.held s s' h r m (inl d) t e w.called)
    (heard_open_more h r i.0, g w.call (is_running w.call old.held s h e w.called) (ap prepared_in w.made) i.0 i.1) (λ x. inr (ap (λ (u : List NamedReply). u ++ x ∷ []) answers))

stopped_close : {L : Type 0} (link : Ghosts L) (at : ℕ) (condition : Option (List ℕ)) (old : Peering L) (s s' : State L) (fault : Option ConnectionFault) (r : Ran link s s') → reads_in r.events ≤ 1 → IsTimed at s r.given r.queued s' → AllOwed s.phase r.queued → IsHanded s r.given s' → (hears s'.phase ≡ true → hears s.phase ≡ true) → old.held ≡ Late s → is_stopped s'.phase ≡ true
    → IsWritten s'.phase r.events s'.wire.codec.output
    → ((h : List Local) → moment_in h ≡ at → (call : Call) → IsRunning call s h → prepared_in (made_in h) ≡ prepared_of call → BeginsWithOpen (given_in h) → IsFaultIn old.fault s h → IsFaultIn fault s' (moved r ++ h))
    → RestedFrom link at 1 (IsAskedToClose condition old) old (finished (record old { held = Late s'; fault = fault }) (close_reply (error_in (record old { held = Late s'; fault = fault }))))
stopped_close {L} link at condition old s s' fault r few m d i l e z f g =
    let mid = record old { held = Late s'; fault = fault } in
    let answer = answered old.name (close_reply (error_in mid)) in
    record {
      run = record {
        events = Replied answer ∷ moved r;
        inside = (passed r).inside;
        went = went_late link old.held (Late s') s s' r e refl;
        answers = ap (λ (u : List NamedReply). old.replies ++ (u ++ answer ∷ [])) (sym (passed r).silent);
        few = subst (λ (es : List LinkEvent). reads_in es ≤ 1) (sym (passed r).link) few;
        gathers = gathers_same old.held (Late s') (moved r) (Replied answer ∷ moved r) refl refl (gathers_late link old.held (Late s') s s' r d i l e refl);
        kind = refl;
        grows = λ h t a. inr (asked_ends link at condition old s s' fault h r m d t e z (written_after h r f) (g h t) a);
      };
      settled = λ a. absurd (cc (z, a));
      concluded = λ a. inl (λ w. w, flushed r f);
      begun = λ x. x;
    }

pub close_rests : {L : Type 0} (link : Ghosts L) (at : ℕ) (condition : Option (List ℕ)) (old : Peering L) (s s' : State L) → old.held ≡ Late s → (st : EngineStepped link at s (Ok step.Stopped) s') → (has_failed s.phase ≡ true → st.run.given ≡ [])
    → RestedFrom link at 1 (IsAskedToClose condition old) old (finished (record old { held = Late s' }) (close_reply (error_in (record old { held = Late s' }))))
close_rests link at condition old s s' e st n =
    stopped_close link at condition old s s' old.fault st.run st.few (timed link at s _ s' st) st.owed st.handed st.listens e st.told.stopped st.told.written (λ h t call k prep o f. fault_same old.fault s s' h st.run n st.told.phase f)

-- a connection that has stopped neither works nor waits
stopped_not_onward : (q r : Phase) → is_stopped q ≡ true → IsOnward q r → ⊥
stopped_not_onward p.OpenSent r s o = absurd (cc s)
stopped_not_onward p.Opened r s o = absurd (cc s)
stopped_not_onward p.CloseReceived r s o = absurd (cc s)
stopped_not_onward p.Refused r s o = absurd (cc s)
stopped_not_onward (p.Rejected why) r s o = absurd (cc s)
stopped_not_onward p.CloseSent r s o = absurd (cc s)
stopped_not_onward p.Discarding r s o = absurd (cc s)
stopped_not_onward p.Ended r s o = o
stopped_not_onward p.Failed r s o = o

pub close_worked_not : {L : Type 0} (link : Ghosts L) (at : ℕ) (s s' : State L) → is_stopped s.phase ≡ true → EngineStepped link at s (Ok step.Worked) s' → ⊥
close_worked_not link at s s' e st = stopped_not_onward s.phase s'.phase e st.told.onward

pub close_pending_not : {L : Type 0} (link : Ghosts L) (at : ℕ) (s s' : State L) → is_stopped s.phase ≡ true → EngineStepped link at s (Ok step.Pending) s' → ⊥
close_pending_not link at s s' e st = absurd (cc (st.told.live, ap is_stopped st.told.phase, e))

stopped_not_refused : (e : ConnectionFault) (q r : Phase) → is_stopped q ≡ true → IsRefusal q e r → ⊥
stopped_not_refused e p.OpenSent r s o = absurd (cc s)
stopped_not_refused e p.Opened r s o = absurd (cc s)
stopped_not_refused e p.CloseReceived r s o = o
stopped_not_refused e p.Refused r s o = o
stopped_not_refused e (p.Rejected why) r s o = o
stopped_not_refused e p.CloseSent r s o = o
stopped_not_refused e p.Discarding r s o = o
stopped_not_refused e p.Ended r s o = o
stopped_not_refused e p.Failed r s o = o

-- it fails alone by its transport
stopped_fails : {L : Type 0} (link : Ghosts L) (at : ℕ) (s s' : State L) (e : ConnectionFault) → is_stopped s.phase ≡ true → EngineStepped link at s (Err e) s' → ((x : _) → e ≡ connection.Memory x → ⊥) → has_failed s'.phase ≡ true
stopped_fails link at s s' (connection.Memory x) z st n = absurd (n x refl)
stopped_fails link at s s' (connection.TransportError t) z st n = st.told.0
stopped_fails link at s s' connection.IllegalState z st n = absurd (stopped_not_refused connection.IllegalState s.phase s'.phase z st.told.1)
stopped_fails link at s s' connection.NotImplemented z st n = absurd (stopped_not_refused connection.NotImplemented s.phase s'.phase z st.told.1)
stopped_fails link at s s' connection.NotFound z st n = absurd (stopped_not_refused connection.NotFound s.phase s'.phase z st.told.1)
stopped_fails link at s s' connection.RemoteClosed z st n = absurd st.told
stopped_fails link at s s' (connection.RemoteClosedWithError x) z st n = absurd st.told

pub close_fails_at_once : {L : Type 0} (link : Ghosts L) (at : ℕ) (condition : Option (List ℕ)) (old : Peering L) (s s' : State L) (e : ConnectionFault) → old.held ≡ Late s → is_stopped s.phase ≡ true → EngineStepped link at s (Err e) s' → ((x : _) → e ≡ connection.Memory x → ⊥)
    → RestedFrom link at 1 (IsAskedToClose condition old) old (finished (record old { held = Late s'; fault = first_fault old.fault e }) (close_reply (error_in (record old { held = Late s'; fault = first_fault old.fault e }))))
close_fails_at_once link at condition old s s' e l z st n =
    let f = stopped_fails link at s s' e z st n in
    stopped_close link at condition old s s' (first_fault old.fault e) st.run st.few (timed link at s _ s' st) st.owed st.handed st.listens l (failed_stops s'.phase f) (inl f) (λ h t call k prep o x. fault_failed link at call old.fault e s s' h st k o prep t n x)

-- a close was called
abbrev pub called_to_close : {L : Type 0} → Peering L → ℕ → Peering L
called_to_close old name = record old { name = name; progress = progress.Closing }

is_asked_to_close : {L : Type 0} (old : Peering L) (name at : ℕ) (condition : Option (List ℕ)) (h : List Local) → IsOpen old h → IsAskedToClose condition (called_to_close old name) (Made at name (Close condition) ∷ h)
is_asked_to_close old name at condition h w =
    let q = quiet_made at name (Close condition) (w.name, w.call) h w.made in
    record {
      call = w.call;
      name = w.name;
      made = ap (λ (u : List (ℕ × Call)). (name, Close condition) ∷ u) w.made;
      replied = w.replied;
      called = called_quiet w.call old.held h (Made at name (Close condition) ∷ h) q w.called.caused w.called;
      is_made = made_quiet old.fault old.held h (Made at name (Close condition) ∷ h) q w.is_made;
    }

pub closed : {L : Type 0} (link : Ghosts L) (at n name : ℕ) (condition : Option (List ℕ)) (old new : Peering L) → n ≤ 2 ^ 63 → old.progress ≡ progress.Open → RestedFrom link at n (IsAskedToClose condition (called_to_close old name)) (called_to_close old name) new → Stepped link old (Made at name (Close condition)) new
closed {L} link at n name condition old new l e r =
    record {
      events = r.run.events;
      inside = r.run.inside;
      went = r.run.went;
      answers = r.run.answers;
      few = omega (arith, r.run.few, l);
      gathers = r.run.gathers;
      kind = r.run.kind;
      settled = r.settled;
      concluded = r.concluded;
      begun = λ b. r.begun;
      grows = λ h x. r.run.grows (Made at name (Close condition) ∷ h) refl (is_asked_to_close old name at condition h (subst (λ (q : Progress). HasIn q old h) e x));
    }

-- ---- a poll

pub polled : {L : Type 0} (link : Ghosts L) (at n : ℕ) (old new : Peering L) → n ≤ 2 ^ 63 → Rested link at n old new → Stepped link old (Polled at) new
polled link at n old new l r =
    record {
      events = r.run.events;
      inside = r.run.inside;
      went = r.run.went;
      answers = r.run.answers;
      few = omega (arith, r.run.few, l);
      gathers = r.run.gathers;
      kind = r.run.kind;
      settled = r.settled;
      concluded = r.concluded;
      begun = λ b. r.begun;
      grows = λ h x. r.run.grows (Polled at ∷ h) refl (has_polled old at h x);
    }

pub polled_idle : {L : Type 0} (link : Ghosts L) (at : ℕ) (old : Peering L) → (IsActive old.held → ⊥) → (IsStopped old.held → ⊥) → Stepped link old (Polled at) old
polled_idle link at old n m =
    record {
      events = [];
      inside = tt;
      went = λ d. refl;
      answers = sym (append-nil old.replies);
      few = omega arith;
      gathers = gathers_none old.held old.held [] refl (λ z. z) refl refl;
      kind = refl;
      settled = λ a. absurd (n a);
      concluded = λ a. absurd (m a);
      begun = λ b. b;
      grows = λ h x. has_polled old at h x;
    }
