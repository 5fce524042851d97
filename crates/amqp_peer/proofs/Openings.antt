-- The exchange of headers of an end, and how its connection begins.
use Rattle.std.proofs.Common.{◌≡◌, ◌≤◌, ◌+◌, ◌^◌, inl, inr, ℕ, List, [], ◌∷◌, ◌++◌, Bool, length, Option, Some, None, Ok, Err, refl, sym, ap, ◌∙◌, subst, arith}
use Rattle.std.proofs.lemmas.List.{append-nil}
use Rattle.std.specs.declared.alloc.AllocError.{AllocError}
use Rattle.amqp_wire.specs.declared.link.Link.{Ghosts}
use Rattle.amqp_wire.specs.declared.link.Stop.TheVariants.{Empty}
use Rattle.amqp_wire.specs.declared.link.Held.TheVariants.{Full}
use Rattle.amqp_wire.specs.Events.{LinkEvent, NotRead, NotWritten, Includes, Went, reads_in}
use Rattle.amqp_transport.specs.declared.frames.Frame.{Frame}
use Rattle.amqp_transport.specs.declared.transport.Error.TheVariants as transport
use Rattle.amqp_transport.specs.Wire.{Wire}
use Rattle.amqp_engine.specs.Closers.{IsCloser}
use Rattle.amqp_engine.specs.declared.error.Error.{Error as ConnectionFault}
use Rattle.amqp_engine.specs.declared.error.Error.TheVariants as connection
use Rattle.amqp_engine.specs.Calls.{OpensTo}
use Rattle.amqp_engine.specs.Sentence.{Has as EngineHas, write_limit}
use Rattle.amqp_engine.specs.Phases.{has_failed}
use Rattle.amqp_engine.specs.Settings.{open_of}
use Rattle.amqp_engine.specs.State.{State, open_frame}
use Rattle.amqp_engine.proofs.Runs.{within}
use Rattle.amqp_engine.proofs.Says.{starts, starts_calm}
use Rattle.sasl_exchange.specs.declared.error.NegotiationError.{NegotiationError}
use Rattle.sasl_exchange.specs.declared.error.NegotiationError.TheVariants.{ScramError}
use Rattle.sasl_scram.specs.declared.error.ScramErrorKind.TheVariants.{TextNotAllowed}
use Rattle.sasl_gate.specs.Negotiation.{IsHeldUp}
use Rattle.amqp_opening.specs.declared.authentication.Authentication.{Authentication}
use Rattle.amqp_opening.specs.declared.authentication.SaslCall.{SaslCall}
use Rattle.amqp_opening.specs.declared.opening.OpeningPoll.TheVariants as poll
use Rattle.amqp_opening.specs.declared.opening.Stage.{Stage}
use Rattle.amqp_opening.specs.declared.opening.Stage.TheVariants as stage
use Rattle.amqp_opening.specs.Authentication.{peer_mechanism, same_by}
use Rattle.amqp_opening.specs.Opening.{amqp_header, Opened, IsUnderWay, IsAtRestOrFull, HasOpening, IsGuarded, HasEnding, Moves as OpeningMoves, Keeps, Ran as OpeningRan}
use Rattle.amqp_opening.proofs.Exchanges.{same_made}
use Rattle.amqp_opening.proofs.Openings.{has_exchanged}
use Rattle.amqp_words.specs.declared.call.Call.{Call}
use Rattle.amqp_words.specs.declared.open_error.OpenError.TheVariants as failed
use Rattle.amqp_words.specs.declared.reply.Reply.TheVariants as reply
use Rattle.amqp_words.specs.declared.reply.NamedReply.{NamedReply}
use Rattle.amqp_peer.specs.Closers.{closer_in}
use Rattle.amqp_peer.specs.declared.held.Held.{Held}
use Rattle.amqp_peer.specs.declared.held.Held.TheVariants.{Early, Late, Unopened, Moving}
use Rattle.amqp_peer.specs.declared.peer.Progress.{Progress}
use Rattle.amqp_peer.specs.declared.peer.Progress.TheVariants as progress
use Rattle.amqp_peer.specs.declared.prepared.Prepared.{Prepared}
use Rattle.amqp_peer.specs.Causes.{MadeIn, has_layer, IsLayerWritten, IsQueued, HasHeaders, EndsExchange, IsOpenCause, in_opening, OpenCauseIn, BeginsWithOpen, StartsWithin, opening as own_opening, prepared_in}
use Rattle.amqp_peer.specs.Held.{IsReadyWith, IsMidway, IsBusyWith, IsBusy, IsExchangedWith, bound, link_at}
use Rattle.amqp_peer.specs.History.{Local, Put, Exchanged, Replied, made_in, link_in, given_in, sent_in, moment_in, at_link}
use Rattle.amqp_peer.specs.Layers.{HasLayer}
use Rattle.amqp_peer.specs.Peering.{Peering, HasIn, HasCalled, IsHeld, IsHeldAt, IsExchanging, IsRunning, IsFaultless, IsMadeIn, IsUnmade, IsUnmadeAt, HasWritten, IsWaiting, HasFailedOpen}
use Rattle.amqp_peer.specs.Prepared.{prepared_of, sasl_of}
use Rattle.amqp_peer.specs.Said.{IsSaidFor}
use Rattle.amqp_peer.specs.Replies.{open_failed}
use Rattle.amqp_peer.specs.Runs.{IsSettled, Advanced, Rested, told, open_error_of}
use Rattle.amqp_peer.proofs.Faulty.{broken_large, called_by}
use Rattle.amqp_peer.proofs.Beats.{silent_beat, unsent_beats, silent_closer}
use Rattle.amqp_peer.proofs.Histories.{given_in-at, sent_in-at, replied_in-at, link_in-at, inside-at, caused-at, once_now}
use Rattle.amqp_peer.proofs.Layers.{layer_exchanging, layer_ended, layer_same}
use Rattle.amqp_peer.proofs.Moved.{Passed, made_after, link_after, given_after, sent_after, replied_after}
use Rattle.amqp_peer.proofs.Refusals.{ending_not, negotiation_not}
use Rattle.amqp_peer.proofs.Unsaid.{unsaid_at}
use Rattle.amqp_peer.proofs.Gathers.{gathers_early}
use Rattle.amqp_peer.proofs.Written.{intro_read, intro_wrote, written_guarded, written_exchanging, queued_guarded, queued_exchanging}

-- ---- what passed at the link alone

at_passed : (es : List LinkEvent) → Passed es [] [] (at_link es)
at_passed es = record { inside = inside-at es; link = link_in-at es; heard = given_in-at es; said = sent_in-at es; silent = replied_in-at es; caused = caused-at es }

-- the exchange stays that of the call
made_same : (c : Option SaslCall) (l l' : Bool) (x y : Authentication) → l' ≡ l → same_by x y → MadeIn c l x → MadeIn c l' y
made_same None l l' x y e s m = e ∙ m
made_same (Some c) l l' x y e s m = (e ∙ m.0, same_made c x y s m.1)

exchanging_grows : {L : Type 0} (link : Ghosts L) (call : Call) (o o' : Opened L Authentication) (left left' : ℕ) (p : Option Prepared) (es : List LinkEvent) (h : List Local) → OpeningMoves link peer_mechanism o left es o' left' → Keeps peer_mechanism o es o' → IsExchanging call o p h → IsExchanging call o' p (at_link es ++ h)
exchanging_grows link call o o' left left' p es h m k x =
    let q = at_passed es in
    record {
      made = made_same (sasl_of call) o.has_sasl o'.has_sasl o.negotiation.exchange o'.negotiation.exchange m.layer m.kept x.made;
      asked = ap has_layer (made_after h q) ∙ x.asked ∙ sym m.layer;
      prepared = x.prepared;
      known = x.known;
      opening = subst (λ (u : List LinkEvent). HasOpening peer_mechanism o' u) (sym (link_after h q)) (k (link_in h) x.opening);
      given = given_after h q ∙ append-nil (given_in h) ∙ x.given;
      sent = sent_after h q ∙ append-nil (sent_in h) ∙ x.sent;
    }

-- the exchange of an end whose headers are being exchanged
exchanging_of : {L : Type 0} (s : Stage) (call : Call) (o : Opened L Authentication) (p : Option Prepared) (h : List Local) → IsUnderWay s → IsHeldAt s call o p h → IsExchanging call o p h
exchanging_of stage.Idle call o p h u k = absurd u
exchanging_of stage.Negotiating call o p h u k = k
exchanging_of stage.Header call o p h u k = k
exchanging_of stage.Exchanged call o p h u k = absurd u
exchanging_of stage.Ended call o p h u k = absurd u

of_exchanging : {L : Type 0} (s : Stage) (call : Call) (o : Opened L Authentication) (p : Option Prepared) (h : List Local) → IsUnderWay s → IsExchanging call o p h → IsHeldAt s call o p h
of_exchanging stage.Idle call o p h u k = absurd u
of_exchanging stage.Negotiating call o p h u k = k
of_exchanging stage.Header call o p h u k = k
of_exchanging stage.Exchanged call o p h u k = absurd u
of_exchanging stage.Ended call o p h u k = absurd u

ready_way : {L : Type 0} (o : Opened L Authentication) (p : Option Prepared) → IsReadyWith o p → IsUnderWay o.stage
ready_way o None r = absurd r
ready_way o (Some p) r = r

way_ready : {L : Type 0} (o o' : Opened L Authentication) (p : Option Prepared) → IsReadyWith o p → IsUnderWay o'.stage → IsReadyWith o' p
way_ready o o' None r u = absurd r
way_ready o o' (Some p) r u = u

-- ---- the exchange of headers goes on

-- the opening that is held
abbrev opening_or : {L : Type 0} → Opened L Authentication → Held L → Opened L Authentication
opening_or d (Early o p) = o
opening_or d (Late s) = d
opening_or d (Unopened c) = d
opening_or d Moving = d

idle_not : (s : Stage) → s ≡ stage.Idle → IsUnderWay s → ⊥
idle_not s e u = subst IsUnderWay e u

way_midway : (s : Stage) → IsUnderWay s → IsMidway s
way_midway stage.Idle u = u
way_midway stage.Negotiating u = u
way_midway stage.Header u = u
way_midway stage.Exchanged u = absurd u
way_midway stage.Ended u = u

ready_busy : {L : Type 0} (o : Opened L Authentication) (p : Option Prepared) → IsReadyWith o p → IsBusyWith o p
ready_busy o None r = r
ready_busy o (Some p) r = way_midway o.stage r

-- an end with an opening under way waits for its open or accept
waiting_early : {L : Type 0} (q : Progress) (old : Peering L) (o : Opened L Authentication) (p : Option Prepared) (h : List Local) → old.held ≡ Early o p → IsReadyWith o p → HasIn q old h → (q ≡ progress.Opening) × IsWaiting old h
waiting_early {L} progress.Idle old o p h e r n =
    let same : o ≡ n.opening = ap (opening_or o) (sym e ∙ n.holds) in
    absurd (idle_not o.stage (ap (λ (x : Opened L Authentication). x.stage) same ∙ n.untouched.stage) (ready_way o p r))
waiting_early progress.Opening old o p h e r w = (refl, w)
waiting_early {L} progress.Open old o p h e r w = absurd (subst (λ (x : Held L). IsMadeIn old.fault x h) e w.is_made)
waiting_early {L} progress.Closing old o p h e r w = absurd (subst (λ (x : Held L). IsMadeIn old.fault x h) e w.is_made)
waiting_early {L} progress.Over old o p h e r (inl w) = absurd (w.done (subst (λ (x : Held L). IsBusy x) (sym e) (ready_busy o p r)))
waiting_early {L} progress.Over old o p h e r (inr w) = absurd (w.done (subst (λ (x : Held L). IsBusy x) (sym e) (ready_busy o p r)))

went_early : {L : Type 0} (link : Ghosts L) (held held' : Held L) (o o' : Opened L Authentication) (p p' : Option Prepared) (es : List LinkEvent) → held ≡ Early o p → held' ≡ Early o' p' → Went link o.negotiation.codec.link es o'.negotiation.codec.link → (d : L) → Went link (link_at d held) (link_in (at_link es)) (link_at d held')
went_early {L} link held held' o o' p p' es e e' w d =
    subst (λ (x : L). Went link x (link_in (at_link es)) (link_at d held')) (sym (ap (link_at d) e))
    (subst (λ (x : L). Went link o.negotiation.codec.link (link_in (at_link es)) x) (sym (ap (link_at d) e'))
    (subst (λ (u : List LinkEvent). Went link o.negotiation.codec.link u o'.negotiation.codec.link) (sym (link_in-at es)) w))

few_in : (es : List LinkEvent) (left total : ℕ) → left + reads_in es ≡ total → reads_in (link_in (at_link es)) ≤ total
few_in es left total n = let z = ap reads_in (link_in-at es) in omega (arith, n, z)

settled_in : {L : Type 0} (at : ℕ) (o : Opened L Authentication) (p : Option Prepared) (es : List LinkEvent) (left : ℕ) → left + reads_in es ≡ 2 ^ 62 → IsHeldUp es left → IsAtRestOrFull peer_mechanism es o → IsSettled at (Early o p) (at_link es)
settled_in at o p es left n (inl a) (inl r) = inl (subst (λ (u : List LinkEvent). Includes u (NotRead Empty)) (sym (link_in-at es)) a, r)
settled_in at o p es left n (inl a) (inr f) = inr (inl (subst (λ (u : List LinkEvent). Includes u (NotWritten Full)) (sym (link_in-at es)) f))
settled_in at o p es left n (inr (inl a)) r = inr (inl (subst (λ (u : List LinkEvent). Includes u (NotWritten Full)) (sym (link_in-at es)) a))
settled_in at o p es left n (inr (inr a)) r = let z = ap reads_in (link_in-at es) in inr (inr (inl (omega (arith, n, z, a))))

-- what an end that waits holds
held_early : {L : Type 0} (call : Call) (held : Held L) (o : Opened L Authentication) (p : Option Prepared) (h : List Local) → held ≡ Early o p → IsReadyWith o p → HasCalled call held h → IsExchanging call o p h
held_early {L} call held o p h e r c = exchanging_of o.stage call o p h (ready_way o p r) (subst (λ (x : Held L). IsHeld call x h) e c.holds)

waiting_grows : {L : Type 0} (old : Peering L) (o o' : Opened L Authentication) (p : Option Prepared) (es : List LinkEvent) (h : List Local) → old.held ≡ Early o p → (w : IsWaiting old h) → IsMidway o'.stage → IsHeldAt o'.stage w.call o' p (at_link es ++ h) → IsWaiting (record old { held = Early o' p }) (at_link es ++ h)
waiting_grows {L} old o o' p es h e w m k =
    let q = at_passed es in
    record {
      call = w.call;
      made = made_after h q ∙ w.made;
      replied = replied_after h q ∙ w.replied;
      called = record { holds = k; caused = q.caused h w.called.caused };
      unmade = ((subst (λ (x : Held L). IsUnmade old.fault x h) e w.unmade).0, m);
    }

-- headers that are being exchanged are not exchanged, nor are those of an exchange that ended
way_not_exchanged : (s : Stage) → IsUnderWay s → s ≡ stage.Exchanged → ⊥
way_not_exchanged s u e = subst IsUnderWay e u

way_exchanged_not : {L : Type 0} (o : Opened L Authentication) (p : Option Prepared) → IsUnderWay o.stage → IsExchangedWith o p → ⊥
way_exchanged_not o None u e = e
way_exchanged_not o (Some p) u e = way_not_exchanged o.stage u e

ended_exchanged_not : {L : Type 0} (o : Opened L Authentication) (p : Option Prepared) → o.stage ≡ stage.Ended → IsExchangedWith o p → ⊥
ended_exchanged_not o None s e = e
ended_exchanged_not o (Some p) s e = absurd (cc (s, e))

-- it waits
pub early_rests : {L : Type 0} (link : Ghosts L) (at : ℕ) (old : Peering L) (o o' : Opened L Authentication) (p : Option Prepared) (left : ℕ) → old.held ≡ Early o p → IsReadyWith o p → OpeningRan {E = AllocError} link peer_mechanism o (2 ^ 62) (Ok poll.Pending) o' left
    → Rested link at (2 ^ 62) old (record old { held = Early o' p })
early_rests {L} link at old o o' p left e r n =
    record {
      run = record {
        events = at_link n.events;
        inside = inside-at n.events;
        went = went_early link old.held (Early o' p) o o' p p n.events e refl n.moves.went;
        answers = sym (append-nil old.replies) ∙ ap (λ (u : List NamedReply). old.replies ++ u) (sym (replied_in-at n.events));
        few = few_in n.events left (2 ^ 62) n.moves.counted;
        gathers = gathers_early old.held (Early o' p) o p (at_link n.events) e refl (given_in-at n.events) (unsaid_at n.events);
        kind = refl;
        grows = λ h t x.
            let w = waiting_early old.progress old o p h e r x in
            subst (λ (q : Progress). HasIn q (record old { held = Early o' p }) (at_link n.events ++ h)) (sym w.0)
            (waiting_grows old o o' p n.events h e w.1 (way_midway o'.stage n.comes.0)
            (of_exchanging o'.stage w.1.call o' p (at_link n.events ++ h) n.comes.0 (exchanging_grows link w.1.call o o' (2 ^ 62) left p n.events h n.moves n.comes.2 (held_early w.1.call old.held o p h e r w.1.called))));
      };
      settled = λ a. settled_in at o' p n.events left n.moves.counted n.comes.1 n.comes.3;
      concluded = λ a. absurd a;
      begun = λ x. way_exchanged_not o' p n.comes.0 x;
    }

ended_not : {L : Type 0} (o : Opened L Authentication) (p : Option Prepared) → o.stage ≡ stage.Ended → IsReadyWith o p → ⊥
ended_not o None e r = r
ended_not o (Some p) e r = subst IsUnderWay e r

ended_done : {L : Type 0} (o : Opened L Authentication) (p : Option Prepared) → o.stage ≡ stage.Ended → IsBusyWith o p → ⊥
ended_done o None e r = r
ended_done o (Some p) e r = subst IsMidway e r

-- it failed
fails_open : {L : Type 0} (link : Ghosts L) (old : Peering L) (o o' : Opened L Authentication) (p : Option Prepared) (left : ℕ) (e : NegotiationError) (h : List Local) → old.held ≡ Early o p → IsReadyWith o p → (n : OpeningRan {E = AllocError} link peer_mechanism o (2 ^ 62) (Ok (poll.Failed e)) o' left) → IsWaiting old h
    → HasFailedOpen (told (record old { held = Early o' p }) (reply.OpenError (failed.Negotiation e))) (Replied (open_failed old.name (failed.Negotiation e)) ∷ at_link n.events ++ h)
fails_open {L} link old o o' p left e h l r n w =
    let q = at_passed n.events in
    let k = held_early w.call old.held o p h l r w.called in
    let ends = n.comes.1 (link_in h) k.opening in
    let made = made_same (sasl_of w.call) o.has_sasl o'.has_sasl o.negotiation.exchange o'.negotiation.exchange n.moves.layer n.moves.kept k.made in
    let other : ¬ (e ≡ ScramError TextNotAllowed) = ending_not o'.has_sasl o'.negotiation.exchange e (n.events ++ link_in h) ends.cause in
    let calls : made_in (at_link n.events ++ h) ≡ (old.name, w.call) ∷ [] = made_after h q ∙ w.made in
    let cause : OpenCauseIn (made_in (at_link n.events ++ h)) e (link_in (at_link n.events ++ h)) =
    subst (λ (cs : List (ℕ × Call)). OpenCauseIn cs e (link_in (at_link n.events ++ h))) (sym calls)
    (subst (λ (u : List LinkEvent). IsOpenCause w.call e u) (sym (link_after h q)) (in_opening o'.has_sasl o'.negotiation.exchange made other ends)) in
    let guarded = subst (λ (u : List LinkEvent). IsGuarded peer_mechanism o'.has_sasl o'.negotiation.exchange u) (sym (link_after h q)) ends.guarded in
    let wrote : HasWritten w.call (at_link n.events ++ h) = written_guarded w.call o'.has_sasl o'.negotiation.exchange (at_link n.events ++ h) made
    guarded in
    let sent : sent_in (at_link n.events ++ h) ≡ [] = sent_after h q ∙ append-nil (sent_in h) ∙ k.sent in
    let queued : IsQueued (Replied (open_failed old.name (failed.Negotiation e)) ∷ at_link n.events ++ h) =
    queued_guarded o'.has_sasl o'.negotiation.exchange (Replied (open_failed old.name (failed.Negotiation e)) ∷ at_link n.events ++ h) (ap has_layer (made_after h q) ∙ k.asked ∙ sym n.moves.layer) sent guarded in
    let exchange : HasLayer (sasl_of w.call) (Replied (open_failed old.name (failed.Negotiation e)) ∷ at_link n.events ++ h) =
    layer_ended w.call o'.has_sasl o'.negotiation.exchange e (Replied (open_failed old.name (failed.Negotiation e)) ∷ at_link n.events ++ h) made sent (subst (λ (u : List LinkEvent). HasEnding peer_mechanism o'.has_sasl o'.negotiation.exchange e u) (sym (link_after h q)) ends) in
    record {
      call = w.call;
      name = old.name;
      error = failed.Negotiation e;
      made = calls;
      replied = inl (ap (λ (u : List NamedReply). u ++ open_failed old.name (failed.Negotiation e) ∷ []) (replied_after h q ∙ w.replied), negotiation_not e other);
      silent = λ t. absurd (negotiation_not e other t);
      called = record {
        holds = subst (λ (s : Stage). IsHeldAt s w.call o' p (Replied (open_failed old.name (failed.Negotiation e)) ∷ at_link n.events ++ h)) (sym n.comes.0)
            (record { written = wrote; exchange = exchange; queued = queued; given = given_after h q ∙ append-nil (given_in h) ∙ k.given; sent = sent });
        caused = (cause, q.caused h w.called.caused);
      };
      done = λ z. ended_done o' p n.comes.0 z;
      broken = tt;
    }

pub early_fails : {L : Type 0} (link : Ghosts L) (at : ℕ) (old : Peering L) (o o' : Opened L Authentication) (p : Option Prepared) (left : ℕ) (e : NegotiationError) → old.held ≡ Early o p → IsReadyWith o p → OpeningRan {E = AllocError} link peer_mechanism o (2 ^ 62) (Ok (poll.Failed e)) o' left
    → Rested link at (2 ^ 62) old (told (record old { held = Early o' p }) (reply.OpenError (failed.Negotiation e)))
early_fails {L} link at old o o' p left e l r n =
    let answer = open_failed old.name (failed.Negotiation e) in
    record {
      run = record {
        events = Replied answer ∷ at_link n.events;
        inside = inside-at n.events;
        went = went_early link old.held (Early o' p) o o' p p n.events l refl n.moves.went;
        answers = ap (λ (u : List NamedReply). old.replies ++ (u ++ answer ∷ [])) (sym (replied_in-at n.events));
        few = few_in n.events left (2 ^ 62) n.moves.counted;
        gathers = gathers_early old.held (Early o' p) o p (Replied answer ∷ at_link n.events) l refl (given_in-at n.events) (unsaid_at n.events);
        kind = refl;
        grows = λ h t x. let w = waiting_early old.progress old o p h l r x in inl (fails_open link old o o' p left e h l r n w.1);
      };
      settled = λ a. absurd (ended_not o' p n.comes.0 a);
      concluded = λ a. absurd a;
      begun = λ x. ended_exchanged_not o' p n.comes.0 x;
    }

-- both headers are there
pub early_exchanged : {L : Type 0} (link : Ghosts L) (at : ℕ) (old : Peering L) (o o' : Opened L Authentication) (p : Option Prepared) (left : ℕ) → old.held ≡ Early o p → IsReadyWith o p → OpeningRan {E = AllocError} link peer_mechanism o (2 ^ 62) (Ok poll.Exchanged) o' left
    → Advanced link at (2 ^ 62) old (record old { held = Early o' p })
early_exchanged {L} link at old o o' p left e r n =
    record {
      events = at_link n.events;
      inside = inside-at n.events;
      went = went_early link old.held (Early o' p) o o' p p n.events e refl n.moves.went;
      answers = sym (append-nil old.replies) ∙ ap (λ (u : List NamedReply). old.replies ++ u) (sym (replied_in-at n.events));
      few = few_in n.events left (2 ^ 62) n.moves.counted;
      gathers = gathers_early old.held (Early o' p) o p (at_link n.events) e refl (given_in-at n.events) (unsaid_at n.events);
      kind = refl;
      grows = λ h t x.
          let w = waiting_early old.progress old o p h e r x in
          subst (λ (q : Progress). HasIn q (record old { held = Early o' p }) (at_link n.events ++ h)) (sym w.0)
          (waiting_grows old o o' p n.events h e w.1 (subst IsMidway (sym n.comes.0) tt)
          (subst (λ (s : Stage). IsHeldAt s w.1.call o' p (at_link n.events ++ h)) (sym n.comes.0) (exchanging_grows link w.1.call o o' (2 ^ 62) left p n.events h n.moves n.comes.1 (held_early w.1.call old.held o p h e r w.1.called))));
    }

pub exchanged_ready : {L : Type 0} (o o' : Opened L Authentication) (p : Option Prepared) → IsReadyWith o p → o'.stage ≡ stage.Exchanged → IsExchangedWith o' p
exchanged_ready o o' None r e = absurd r
exchanged_ready o o' (Some p) r e = e

-- ---- the connection begins

-- an end with both headers waits for its open or accept
waiting_exchanged : {L : Type 0} (q : Progress) (old : Peering L) (o : Opened L Authentication) (p : Prepared) (h : List Local) → old.held ≡ Early o (Some p) → o.stage ≡ stage.Exchanged → HasIn q old h → (q ≡ progress.Opening) × IsWaiting old h
waiting_exchanged {L} progress.Idle old o p h e r n =
    let same : o ≡ n.opening = ap (opening_or o) (sym e ∙ n.holds) in
    absurd (cc (sym r ∙ (ap (λ (x : Opened L Authentication). x.stage) same ∙ n.untouched.stage)))
waiting_exchanged progress.Opening old o p h e r w = (refl, w)
waiting_exchanged {L} progress.Open old o p h e r w = absurd (subst (λ (x : Held L). IsMadeIn old.fault x h) e w.is_made)
waiting_exchanged {L} progress.Closing old o p h e r w = absurd (subst (λ (x : Held L). IsMadeIn old.fault x h) e w.is_made)
waiting_exchanged {L} progress.Over old o p h e r (inl w) = absurd (w.done (subst (λ (x : Held L). IsBusy x) (sym e) (subst IsMidway (sym r) tt)))
waiting_exchanged {L} progress.Over old o p h e r (inr w) = absurd (w.done (subst (λ (x : Held L). IsBusy x) (sym e) (subst IsMidway (sym r) tt)))

-- what it holds
held_exchanged : {L : Type 0} (call : Call) (held : Held L) (o : Opened L Authentication) (p : Option Prepared) (h : List Local) → held ≡ Early o p → o.stage ≡ stage.Exchanged → HasCalled call held h → IsExchanging call o p h
held_exchanged {L} call held o p h e r c =
    let k : IsHeldAt o.stage call o p h = subst (λ (x : Held L). IsHeld call x h) e c.holds in
    subst (λ (s : Stage). IsHeldAt s call o p h) r k

-- both ends' headers went through
both_headers : {L : Type 0} (call : Call) (o : Opened L Authentication) (p : Prepared) (h : List Local) → o.stage ≡ stage.Exchanged → prepared_in (made_in h) ≡ prepared_of call → IsExchanging call o (Some p) h → HasHeaders h
both_headers {L} call o p h r own k =
    let opening = has_exchanged peer_mechanism o (link_in h) r k.opening in
    let i = intro_read o.has_sasl o.negotiation.exchange (amqp_header ++ o.negotiation.codec.input) o.negotiation.codec.output (link_in h) opening.0 in
    let w = intro_wrote o.has_sasl o.negotiation.exchange (amqp_header ++ o.negotiation.codec.input) o.negotiation.codec.output (link_in h) opening.0 in
    record {
      called = called_by (made_in h) p (own ∙ k.prepared);
      own = record {
        head = w.head;
        behind = [];
        layer = subst (λ (b : Bool). IsLayerWritten b w.head) (sym k.asked) w.layered;
        wrote = w.is ∙ ap (λ (u : List ℕ). w.head ++ u) (sym (append-nil w.part) ∙ ap (λ (u : List ℕ). w.part ++ u) (sym opening.1) ∙ w.header ∙ sym (append-nil amqp_header));
      };
      head = i.head;
      rest = o.negotiation.codec.input;
      read = i.is;
    }

-- both ends' headers went through, and then Open is queued
begins_running : {L : Type 0} (at : ℕ) (call : Call) (o : Opened L Authentication) (p : Prepared) (s : State L) (h : List Local) → o.stage ≡ stage.Exchanged → OpensTo (bound o.negotiation.codec p.idle at) p.end (Ok s) → moment_in h ≡ at → prepared_in (made_in h) ≡ prepared_of call → IsExchanging call o (Some p) h
    → IsRunning call s (Put (open_frame p.end) ∷ Exchanged ∷ h)
begins_running {L} at call o p s h r c t own k =
    let w : Wire L = bound o.negotiation.codec p.idle at in
    record {
      layer = o.has_sasl;
      x = o.negotiation.exchange;
      made = k.made;
      asked = k.asked;
      p = p;
      prepared = k.prepared;
      before = link_in h;
      since = [];
      passed = refl;
      arrived = o.negotiation.codec.input;
      unwritten = o.negotiation.codec.output;
      intro = (has_exchanged peer_mechanism o (link_in h) r k.opening).0;
      runs = subst (λ (xs : List Frame). EngineHas o.negotiation.codec.output o.negotiation.codec.input s (record { events = []; given = xs; sent = sent_in h ++ open_frame p.end ∷ [] })) (sym k.given)
          (subst (λ (xs : List Frame). EngineHas o.negotiation.codec.output o.negotiation.codec.input s (record { events = []; given = []; sent = xs ++ open_frame p.end ∷ [] })) (sym k.sent)
          (starts o.negotiation.codec.output o.negotiation.codec.input w p.end s c refl refl));
      began = record { later = Put (open_frame p.end) ∷ []; earlier = Exchanged ∷ h; split = refl; held = both_headers call o p h r own k };
      opens = subst (λ (xs : List Frame). BeginsWithOpen (xs ++ open_frame p.end ∷ [])) (sym k.sent) (record { channel = 0; first = open_of p.end; more = []; is = refl });
      starts = subst (λ (xs : List Frame). StartsWithin 512 (xs ++ open_frame p.end ∷ [])) (sym k.sent) (within 512 (open_frame p.end) c.0);
      says = subst (λ (xs : List Frame). IsSaidFor (prepared_in (made_in h)) (made_in h) (given_in h) (xs ++ open_frame p.end ∷ [])) (sym k.sent) (inr (inl (record { own = p; is_own = own ∙ k.prepared; more = []; each = tt; is = refl })));
      idle = ap (λ (z : State L). z.wire.clock.idle) c.1;
      own = ap (λ (z : State L). z.settings.largest_read) c.1;
      start = ap (λ (z : State L). z.wire.clock.since) c.1 ∙ sym t;
      beat = ap (λ (z : State L). z.beat) c.1 ∙ sym (silent_beat h k.given k.sent);
      beats = (tt, unsent_beats h k.sent);
      closer = subst (λ (z : State L). IsCloser z.phase z.reason (closer_in h)) (sym c.1) (silent_closer h k.given k.sent, refl);
      calm = starts_calm w p.end s c refl;
    }

begun_faultless : {L : Type 0} (at : ℕ) (o : Opened L Authentication) (p : Prepared) (s : State L) (h : List Local) → OpensTo (bound o.negotiation.codec p.idle at) p.end (Ok s) → given_in h ≡ [] → IsFaultless s (Put (open_frame p.end) ∷ Exchanged ∷ h)
begun_faultless {L} at o p s h c g =
    record {
      unheard = λ b. omega (arith, ap length g, ap length b.is);
      kept = λ b. omega (arith, ap length g, ap length b.is);
      sound = ap (λ (z : State L). has_failed z.phase) c.1;
    }

pub connected : {L : Type 0} (link : Ghosts L) (at : ℕ) (old : Peering L) (o : Opened L Authentication) (p : Prepared) (s : State L) → old.held ≡ Early o (Some p) → o.stage ≡ stage.Exchanged → OpensTo (bound o.negotiation.codec p.idle at) p.end (Ok s) → Advanced link at 0 old (record old { held = Late s })
connected {L} link at old o p s e r c =
    record {
      events = Put (open_frame p.end) ∷ Exchanged ∷ [];
      inside = tt;
      went = λ d. ap (λ (z : State L). z.wire.codec.link) c.1 ∙ sym (ap (link_at d) e);
      answers = sym (append-nil old.replies);
      few = omega arith;
      gathers = gathers_early old.held (Late s) o (Some p) (Put (open_frame p.end) ∷ Exchanged ∷ []) e (ap (λ (z : State L). z.channels) c.1) refl refl;
      kind = refl;
      grows = λ h t x.
          let w = waiting_exchanged old.progress old o p h e r x in
          let k = held_exchanged w.1.call old.held o (Some p) h e r w.1.called in
          let none : old.fault ≡ None = (subst (λ (y : Held L). IsUnmade old.fault y h) e w.1.unmade).0 in
          subst (λ (q : Progress). HasIn q (record old { held = Late s }) (Put (open_frame p.end) ∷ Exchanged ∷ h)) (sym w.0)
          (record {
            call = w.1.call;
            made = w.1.made;
            replied = w.1.replied;
            called = record { holds = begins_running at w.1.call o p s h r c t (ap prepared_in w.1.made) k; caused = w.1.called.caused };
            unmade = subst (λ (f : Option ConnectionFault). IsUnmadeAt f s (Put (open_frame p.end) ∷ Exchanged ∷ h)) (sym none) (begun_faultless at o p s h c k.given);
          });
    }

-- what was queued stays where the headers went through and this is replied
queued_refused : (answer : NamedReply) (h : List Local) → IsQueued h → IsQueued (Replied answer ∷ Exchanged ∷ h)
queued_refused answer h u = record { head = u.head; tail = u.tail; out = u.out; wrote = u.wrote; layer = u.layer; talk = u.talk }

-- Open is too large
pub connect_fails : {L : Type 0} (link : Ghosts L) (at : ℕ) (old : Peering L) (o : Opened L Authentication) (p : Prepared) (e : ConnectionFault) (back : Wire L) → old.held ≡ Early o (Some p) → o.stage ≡ stage.Exchanged → OpensTo (bound o.negotiation.codec p.idle at) p.end (Err (e, back)) → ((x : _) → e ≡ connection.Memory x → ⊥)
    → Rested link at 0 old (told (record old { held = Unopened back.codec }) (reply.OpenError (open_error_of e)))
connect_fails {L} link at old o p (connection.Memory x) back l r c n = absurd (n x refl)
connect_fails {L} link at old o p (connection.TransportError transport.FramingError) back l r c n =
    let answer = open_failed old.name (failed.TransportError transport.FramingError) in
    record {
      run = record {
        events = Replied answer ∷ Exchanged ∷ [];
        inside = tt;
        went = λ d. ap (λ (z : Wire L). z.codec.link) c.1 ∙ sym (ap (link_at d) l);
        answers = refl;
        few = omega arith;
        gathers = gathers_early old.held (Unopened back.codec) o (Some p) (Replied answer ∷ Exchanged ∷ []) l refl refl refl;
        kind = refl;
        grows = λ h t x.
            let w = waiting_exchanged old.progress old o p h l r x in
            let k = held_exchanged w.1.call old.held o (Some p) h l r w.1.called in
            let headers = both_headers w.1.call o p h r (ap prepared_in w.1.made) k in
            inl (record {
              call = w.1.call;
              name = old.name;
              error = failed.TransportError transport.FramingError;
              made = w.1.made;
              replied = inl (ap (λ (u : List NamedReply). u ++ answer ∷ []) w.1.replied, λ t. absurd (cc t));
              silent = λ t. absurd (cc t);
              called = record {
                holds = record { written = written_exchanging w.1.call o (Some p) h k; exchange = layer_same (sasl_of w.1.call) h (Replied answer ∷ Exchanged ∷ h) refl refl (layer_exchanging w.1.call o (Some p) h k); queued = queued_refused answer h (queued_exchanging w.1.call o (Some p) h k); given = k.given; sent = k.sent };
                caused = (broken_large [] (Exchanged ∷ h) (inr (record { began = once_now EndsExchange (Exchanged ∷ h) headers; limit = 512; x = open_frame p.end; is_limit = sym (ap write_limit k.given); own = own_opening p (ap prepared_in w.1.made ∙ k.prepared); large = c.0 })) refl refl, w.1.called.caused);
              };
              done = λ z. z;
              broken = tt;
            });
      };
      settled = λ a. absurd a;
      concluded = λ a. absurd a;
      begun = λ x. x;
    }
connect_fails {L} link at old o p (connection.TransportError (transport.Memory x)) back l r c n = absurd c
connect_fails {L} link at old o p (connection.TransportError (transport.Io x)) back l r c n = absurd c
connect_fails {L} link at old o p (connection.TransportError transport.IdleTimeoutElapsed) back l r c n = absurd c
connect_fails {L} link at old o p (connection.TransportError transport.DecodeError) back l r c n = absurd c
connect_fails {L} link at old o p (connection.TransportError transport.NotImplemented) back l r c n = absurd c
connect_fails {L} link at old o p connection.IllegalState back l r c n = absurd c
connect_fails {L} link at old o p connection.NotImplemented back l r c n = absurd c
connect_fails {L} link at old o p connection.NotFound back l r c n = absurd c
connect_fails {L} link at old o p connection.RemoteClosed back l r c n = absurd c
connect_fails {L} link at old o p (connection.RemoteClosedWithError x) back l r c n = absurd c
