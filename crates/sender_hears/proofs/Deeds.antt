-- Whatever the links of an end do, each goes on.
use Rattle.std.specs.Prelude.{◌≡◌, ℕ, nat_eq, Bool, true, false, List, [], ◌∷◌, Option, Some, None, if◌then◌else◌, refl}
use Rattle.std.proofs.Common.{sym, ◌∙◌, ap, subst, eq-eqb}
use Rattle.std.proofs.lemmas.List.{append-nil}
use Rattle.std.specs.Map.{lookup}
use Rattle.amqp_link_words.specs.declared.link_call.LinkCall.{LinkCall}
use Rattle.amqp_link_words.specs.declared.link_call.LinkCall.TheVariants as call
use Rattle.amqp_performatives.specs.declared.flow.Flow.{Flow}
use Rattle.amqp_session.specs.declared.session.LinkInput.{LinkInput}
use Rattle.amqp_session.specs.declared.session.LinkInput.TheVariants as input
use Rattle.amqp_session_links.specs.State.{State as Place, none_attached}
use Rattle.amqp_links.specs.Accepting.{accepting}
use Rattle.amqp_links.specs.Attaching.{attaching_sender, attaching_receiver}
use Rattle.amqp_links.specs.Calling.{Calls, waiting_as}
use Rattle.amqp_links.specs.Hearing.{link_from_at, frame_at}
use Rattle.amqp_links.specs.Inputs.{word_read, read_at, input_read}
use Rattle.amqp_links.specs.Settling.{disposition_read}
use Rattle.amqp_links.specs.State.{State, place_of, link_of, entered_at, entered}
use Rattle.amqp_links.specs.Timing.{timed_sending}
use Rattle.link_lives.specs.Deeds.{Asks, Hears, Hands, Knows, Looks, Tells}
use Rattle.sender_hears.specs.Deeds.{by_one, flow_from, flow_for, rulings_for, words_for}
use Rattle.sender_hears.specs.Laws.{DeedsAreHeard}
use Rattle.sender_hears.specs.Lives.{Goes}
use Rattle.sender_hears.specs.Words.{Word, Credit}
use Rattle.link_lives.proofs.Tables.{insert_here}
use Rattle.sender_hears.proofs.Called.{credit_in}
use Rattle.sender_hears.proofs.Going.{nothing, goes_then, goes_reads, goes_same, goes_still, keeps_same, entered_goes}
use Rattle.sender_hears.proofs.Timing.{timed_sending_goes, looked_goes}
use Rattle.sender_hears.proofs.Hearing.{hearing_goes, kept_goes, left_goes, disposition_goes, session_stopped_goes, session_over_goes}
use Rattle.sender_hears.proofs.Calling.{sending_goes, outcome_goes, receives_goes, disposing_goes, crediting_goes, credit_goes, regulating_goes, disposer_goes, disposing_by_goes, leaving_goes}
use Rattle.sender_hears.proofs.Accepting.{Besides, attaching_sender_goes, attaching_receiver_goes, accepting_goes, attach_came_goes}

-- ---- calls

is_so : (P : ℕ → Type 0) (old t new : State) → Goes P nothing old t → new ≡ t → Goes P nothing old new
is_so P old t new p h = subst (λ s. Goes P nothing old s) (sym h) p

behind_entered : (name session : ℕ) (old t : State) → Goes (Besides name) nothing (entered session old) t → Goes (Besides name) nothing old t
behind_entered name session old t p = goes_then (Besides name) nothing nothing old (entered session old) t (entered_goes (Besides name) session old) p

calls_go : (name : ℕ) (x : LinkCall) (max : Option ℕ) (old new : State) → Calls name x max old new → Goes (Besides name) nothing old new
calls_go name (call.Sender session settings) max old new h =
    is_so (Besides name) old (attaching_sender name session settings max (entered session old)) new (behind_entered name session old _ (attaching_sender_goes name session settings max (entered session old))) h
calls_go name (call.Receiver session settings) max old new h =
    is_so (Besides name) old (attaching_receiver name session settings max (entered session old)) new (behind_entered name session old _ (attaching_receiver_goes name session settings max (entered session old))) h
calls_go name (call.Accept session settings credit_mode auto_accept) max old new h =
    let accept = waiting_as name settings credit_mode auto_accept max in
    is_so (Besides name) old (accepting session accept (entered session old)) new (behind_entered name session old _ (accepting_goes session accept (entered session old))) h
calls_go name (call.Send link message) max old new h = is_so (Besides name) old _ new (sending_goes (Besides name) (link_of link old) name link message old refl) h
calls_go name (call.SendTimed link message timeout) max old new h = is_so (Besides name) old (timed_sending name link message timeout old) new (timed_sending_goes (Besides name) name link message timeout old) h
calls_go name (call.Outcome send) max old new h = is_so (Besides name) old _ new (outcome_goes (Besides name) (lookup (nat_eq send) old.sends) name old) h
calls_go name (call.Recv link) max old new h = receives_goes (Besides name) (link_of link old) name link old new refl h
calls_go name (call.Dispose link disposal deliveries) max old new h = is_so (Besides name) old _ new (disposing_goes (Besides name) name link disposal deliveries old) h
calls_go name (call.SetCredit link credit) max old new h = is_so (Besides name) old _ new (crediting_goes (Besides name) (link_of link old) name link credit old refl) h
calls_go name (call.Credit link) max old new h = is_so (Besides name) old _ new (credit_goes (Besides name) (link_of link old) name old) h
calls_go name (call.Regulate link regulation) max old new h = is_so (Besides name) old _ new (regulating_goes (Besides name) (link_of link old) name link regulation old refl) h
calls_go name (call.Disposer link) max old new h = is_so (Besides name) old _ new (disposer_goes (Besides name) (link_of link old) name link old) h
calls_go name (call.DisposeBy disposer disposal delivery) max old new h = is_so (Besides name) old _ new (disposing_by_goes (Besides name) (lookup (nat_eq disposer) old.disposers) name disposal delivery old) h
calls_go name (call.Part link parting) max old new h = is_so (Besides name) old _ new (leaving_goes (Besides name) (link_of link old) name link parting old refl) h

-- ---- what is heard

abbrev pub All : ℕ → Type 0
All n = Unit {0}

frame_words : Option ℕ → LinkInput → ℕ → List Word
frame_words None x n = []
frame_words (Some link) x n = by_one link (credit_in x) n

frame_goes : (o : Option ℕ) (session remote : ℕ) (x : LinkInput) (s : State) → Goes All (frame_words o x) s (frame_at o session remote x s)
unfolding frame_words
frame_goes None session remote x s = kept_goes All session remote x s
frame_goes (Some link) session remote x s = hearing_goes All session link remote x s

-- a session that is known from now on has no link
entered_link : (remote session : ℕ) (s : State) → link_from_at remote (place_of session (entered session s)) ≡ link_from_at remote (place_of session s)
entered_link remote session s = by (place_of session s) refl
  where
    by : (o : Option Place) → place_of session s ≡ o → link_from_at remote (place_of session (entered session s)) ≡ link_from_at remote (place_of session s)
    by None e =
        let there : place_of session (entered_at None session s) ≡ Some none_attached = insert_here session session none_attached s.sessions (eq-eqb session session refl) in
        ap (λ p. link_from_at remote (place_of session (entered_at p session s))) e ∙ (ap (link_from_at remote) there ∙ sym (ap (link_from_at remote) e))
    by (Some p) e = ap (λ q. link_from_at remote (place_of session (entered_at q session s))) e

no_words : (o : Option ℕ) (x : LinkInput) (n : ℕ) → credit_in x ≡ [] → frame_words o x n ≡ []
unfolding frame_words
no_words None x n h = refl
no_words (Some link) x n h = by (nat_eq link n)
  where
    by : (b : Bool) → (if b then credit_in x else []) ≡ []
    by true = h
    by false = refl

same_words : (o : Option ℕ) (x : Flow) (n : ℕ) → frame_words o (input.Flow x) n ≡ flow_from o x n
unfolding frame_words credit_in
same_words None x n = refl
same_words (Some link) x n = refl

behind_known : (session : ℕ) (R : ℕ → List Word) (old t : State) → Goes All R (entered session old) t → Goes All R old t
behind_known session R old t p = goes_then All nothing R old (entered session old) t (entered_goes All session old) p

quiet_frame : (o : Option ℕ) (session remote : ℕ) (x : LinkInput) (s : State) → credit_in x ≡ [] → Goes All nothing s (frame_at o session remote x s)
quiet_frame o session remote x s h = goes_reads All (frame_words o x) nothing s (frame_at o session remote x s) (λ n. no_words o x n h) (frame_goes o session remote x s)

flow_goes : (o : Option ℕ) (session : ℕ) (x : Flow) (s : State) → Goes All (flow_for o session x s) s (read_at o session (input.Flow x) s)
flow_goes None session x s = goes_still All s
flow_goes (Some remote) session x s =
    let o = link_from_at remote (place_of session s) in
    goes_reads All (frame_words o (input.Flow x)) (flow_from o x) s (frame_at o session remote (input.Flow x) s) (λ n. same_words o x n) (frame_goes o session remote (input.Flow x) s)

-- a session that is known from now on has no link
entered_flow : (o : Option ℕ) (session : ℕ) (x : Flow) (s : State) (n : ℕ) → flow_for o session x (entered session s) n ≡ flow_for o session x s n
entered_flow None session x s n = refl
entered_flow (Some remote) session x s n = ap (λ o. flow_from o x n) (entered_link remote session s)

hears_go : (session : ℕ) (x : LinkInput) (old : State) → Goes All (words_for (Hears session x) old) old (input_read session x old)
unfolding credit_in
hears_go session (input.Flow x) old =
    let s = entered session old in
    let R = words_for (Hears session (input.Flow x)) old in
    behind_known session R old (read_at x.handle session (input.Flow x) s)
    (goes_reads All (flow_for x.handle session x s) R s (read_at x.handle session (input.Flow x) s) (λ n. entered_flow x.handle session x old n) (flow_goes x.handle session x s))
hears_go session (input.Transfer x payload) old =
    let s = entered session old in behind_known session nothing old _ (quiet_frame (link_from_at x.handle (place_of session s)) session x.handle (input.Transfer x payload) s refl)
hears_go session (input.Detach x) old = let s = entered session old in behind_known session nothing old _ (quiet_frame (link_from_at x.handle (place_of session s)) session x.handle (input.Detach x) s refl)
hears_go session (input.Attach x) old = let s = entered session old in behind_known session nothing old _ (attach_came_goes All s.accepts session x s)
hears_go session (input.Disposition x) old = let s = entered session old in behind_known session (rulings_for session x s) old (disposition_read session x s) (disposition_goes All session x s)
hears_go session (input.Left x) old = let s = entered session old in behind_known session nothing old _ (left_goes All session x s)
hears_go session (input.Stopped why) old = let s = entered session old in behind_known session nothing old _ (session_stopped_goes All session why s)
hears_go session input.Over old = let s = entered session old in behind_known session nothing old _ (session_over_goes All session s)

-- ---- all deeds

pub deeds_are_heard : DeedsAreHeard
deeds_are_heard (Asks name x max) old new h =
    let p = calls_go name x max old new h in record { log = p.log; output = p.output; each = p.each }
deeds_are_heard (Hears session x) old new h =
    let p = subst (λ s. Goes All (words_for (Hears session x) old) old s) (sym h) (hears_go session x old) in
    record { log = p.log; output = p.output; each = λ n other free. p.each n tt free }
deeds_are_heard (Hands x) old new h =
    record {
      log = [];
      output = sym h.0 ∙ sym (append-nil old.output);
      each = λ n other free. keeps_same n old new (ap (λ s. s.sessions) h.1) (ap (λ s. s.endpoints) h.1) free;
    }
deeds_are_heard (Knows at) old new h =
    let p = is_so All old _ new (goes_same All old _ refl refl refl) h in record { log = p.log; output = p.output; each = λ n other free. p.each n tt free }
deeds_are_heard Looks old new h =
    let p = is_so All old _ new (looked_goes All old) h in record { log = p.log; output = p.output; each = λ n other free. p.each n tt free }
deeds_are_heard Tells old new h =
    let p = is_so All old (record old { replies = [] }) new (goes_same All old (record old { replies = [] }) refl refl refl) h in record { log = p.log; output = p.output; each = λ n other free. p.each n tt free }
