-- Whatever the links of an end do, each call that waits does so for the peer.
use Rattle.std.specs.Prelude.{◌≡◌, ℕ, nat_eq, Bool, true, false, not, ◌&&◌, IsTrue, [], ◌∷◌, Option, Some, None, refl}
use Rattle.std.proofs.Common.{sym, subst, eq-eqb}
use Rattle.std.specs.Map.{lookup}
use Rattle.amqp_link_words.specs.declared.link_call.LinkCall.{LinkCall}
use Rattle.amqp_link_words.specs.declared.link_call.LinkCall.TheVariants as call
use Rattle.amqp_session.specs.declared.session.LinkInput.{LinkInput}
use Rattle.amqp_session.specs.declared.session.LinkInput.TheVariants as input
use Rattle.amqp_session_links.specs.State.{State as Place, none_attached}
use Rattle.amqp_links.specs.Accepting.{accepting}
use Rattle.amqp_links.specs.Attaching.{attaching_sender, attaching_receiver}
use Rattle.amqp_links.specs.Calling.{Calls, waiting_as}
use Rattle.amqp_links.specs.Hearing.{link_from_at, frame_at}
use Rattle.amqp_links.specs.Inputs.{word_read, read_at, input_read}
use Rattle.amqp_links.specs.May.{MayCall, may_leave_at}
use Rattle.amqp_links.specs.State.{State, place_of, link_of, entered_at, entered}
use Rattle.amqp_links.specs.Stops.{links_at}
use Rattle.amqp_links.specs.Timing.{at_moment, is_sending, looked, timed_sending}
use Rattle.link_lives.specs.Deeds.{Deed, Asks, Hears, Hands, Knows, Looks, Tells, IsDeed}
use Rattle.link_lives.proofs.Tables.{insert_here}
use Rattle.link_waits.specs.Laws.{NoneWaits, AllWaitOn}
use Rattle.link_waits.specs.Waits.{AreWaiting, AreStopped, IsOrderly}
use Rattle.link_waits.proofs.Steps.{Goes, goes_still, goes_then, goes_same, entered_goes}
use Rattle.link_waits.proofs.Timing.{timed_sending_goes, looked_goes}
use Rattle.link_waits.proofs.Hearing.{hearing_goes, kept_goes, left_goes, disposition_goes, session_stopped_goes, session_over_goes}
use Rattle.link_waits.proofs.Calling.{sending_goes, outcome_goes, receives_goes, disposing_goes, crediting_goes, credit_goes, regulating_goes, disposer_goes, disposing_by_goes, leaving_goes}
use Rattle.link_waits.proofs.Accepting.{attaching_sender_goes, attaching_receiver_goes, accepting_goes, attach_came_goes}

is_so : (old t new : State) → Goes old t → new ≡ t → Goes old new
is_so old t new p h = subst (λ s. Goes old s) (sym h) p

behind_entered : (session : ℕ) (old t : State) → Goes (entered session old) t → Goes old t
behind_entered session old t p = goes_then old (entered session old) t (entered_goes session old) p

-- ---- calls

first_true : (a b : Bool) → IsTrue (a && b) → a ≡ true
first_true true b h = refl
first_true false b h = absurd cc

calls_go : (name : ℕ) (x : LinkCall) (max : Option ℕ) (old new : State) → Calls name x max old new → MayCall old x → Goes old new
calls_go name (call.Sender session settings) max old new h may =
    is_so old (attaching_sender name session settings max (entered session old)) new
    (behind_entered session old (attaching_sender name session settings max (entered session old)) (attaching_sender_goes name session settings max (entered session old))) h
calls_go name (call.Receiver session settings) max old new h may =
    is_so old (attaching_receiver name session settings max (entered session old)) new
    (behind_entered session old (attaching_receiver name session settings max (entered session old)) (attaching_receiver_goes name session settings max (entered session old))) h
calls_go name (call.Accept session settings credit_mode auto_accept) max old new h may =
    let accept = waiting_as name settings credit_mode auto_accept max in
    is_so old (accepting session accept (entered session old)) new (behind_entered session old (accepting session accept (entered session old)) (accepting_goes session accept (entered session old))) h
calls_go name (call.Send link message) max old new h may = is_so old _ new (sending_goes (link_of link old) name link message old refl) h
calls_go name (call.SendTimed link message timeout) max old new h may = is_so old (timed_sending name link message timeout old) new (timed_sending_goes name link message timeout old) h
calls_go name (call.Outcome send) max old new h may = is_so old _ new (outcome_goes (lookup (nat_eq send) old.sends) name old) h
calls_go name (call.Recv link) max old new h may = receives_goes (link_of link old) name link old new refl h
calls_go name (call.Dispose link disposal deliveries) max old new h may = is_so old _ new (disposing_goes name link disposal deliveries old) h
calls_go name (call.SetCredit link credit) max old new h may = is_so old _ new (crediting_goes (link_of link old) name link credit old refl) h
calls_go name (call.Credit link) max old new h may = is_so old _ new (credit_goes (link_of link old) name old) h
calls_go name (call.Regulate link regulation) max old new h may = is_so old _ new (regulating_goes (link_of link old) name link regulation old refl) h
calls_go name (call.Disposer link) max old new h may = is_so old _ new (disposer_goes (link_of link old) name link old) h
calls_go name (call.DisposeBy disposer disposal delivery) max old new h may = is_so old _ new (disposing_by_goes (lookup (nat_eq disposer) old.disposers) name disposal delivery old) h
calls_go name (call.Part link parting) max old new h may =
    is_so old _ new (leaving_goes (link_of link old) name link parting old refl (first_true (may_leave_at parting (link_of link old)) (not (is_sending link old)) may)) h

-- ---- what is heard

frame_goes : (o : Option ℕ) (session remote : ℕ) (x : LinkInput) (s : State) → Goes s (frame_at o session remote x s)
frame_goes None session remote x s = kept_goes session remote x s
frame_goes (Some link) session remote x s = hearing_goes session link remote x s

flow_goes : (o : Option ℕ) (session : ℕ) (x : LinkInput) (s : State) → word_read session x s ≡ s → Goes s (read_at o session x s)
flow_goes None session x s w = subst (λ t. Goes s t) (sym w) (goes_still s)
flow_goes (Some remote) session x s w = frame_goes (link_from_at remote (place_of session s)) session remote x s

-- a session that is new has no links
entered_links : (o : Option Place) (session : ℕ) (s : State) → place_of session s ≡ o → AreStopped (links_at o) s → AreStopped (links_at (place_of session (entered_at o session s))) (entered_at o session s)
entered_links None session s at k =
    subst (λ p. AreStopped (links_at p) (entered_at None session s)) (sym (insert_here session session none_attached s.sessions (eq-eqb session session refl))) tt
entered_links (Some p) session s at k = subst (λ o. AreStopped (links_at o) s) (sym at) k

hears_go : (session : ℕ) (x : LinkInput) (old : State) → IsOrderly (Hears session x) old → Goes old (input_read session x old)
hears_go session (input.Flow x) old may = let s = entered session old in behind_entered session old (read_at x.handle session (input.Flow x) s) (flow_goes x.handle session (input.Flow x) s refl)
hears_go session (input.Transfer x payload) old may =
    let s = entered session old in behind_entered session old _ (frame_goes (link_from_at x.handle (place_of session s)) session x.handle (input.Transfer x payload) s)
hears_go session (input.Detach x) old may =
    let s = entered session old in behind_entered session old _ (frame_goes (link_from_at x.handle (place_of session s)) session x.handle (input.Detach x) s)
hears_go session (input.Attach x) old may = let s = entered session old in behind_entered session old _ (attach_came_goes s.accepts session x s)
hears_go session (input.Disposition x) old may = let s = entered session old in behind_entered session old _ (disposition_goes session x s)
hears_go session (input.Left x) old may = let s = entered session old in behind_entered session old _ (left_goes session x s)
hears_go session (input.Stopped why) old may = let s = entered session old in behind_entered session old _ (session_stopped_goes session why s)
hears_go session input.Over old may =
    let s = entered session old in behind_entered session old _ (session_over_goes session s (entered_links (place_of session old) session old refl may))

-- ---- all deeds

deed_goes : (d : Deed) (old new : State) → IsDeed old d new → IsOrderly d old → Goes old new
deed_goes (Asks name x max) old new h may = calls_go name x max old new h may
deed_goes (Hears session x) old new h may = is_so old (input_read session x old) new (hears_go session x old may) h
deed_goes (Hands x) old new h may = is_so old (record old { output = new.output }) new (goes_same old (record old { output = new.output }) refl refl) h.1
deed_goes (Knows at) old new h may = is_so old (at_moment at old) new (goes_same old (at_moment at old) refl refl) h
deed_goes Looks old new h may = is_so old (looked old) new (looked_goes old) h
deed_goes Tells old new h may = is_so old (record old { replies = [] }) new (goes_same old (record old { replies = [] }) refl refl) h

pub all_wait_on : AllWaitOn
all_wait_on [] old new did may w = subst AreWaiting (sym did) w
all_wait_on (d ∷ ds) old new did may w = all_wait_on ds did.0 new did.1.1 may.1 (deed_goes d old did.0 did.1.0 may.0 w)

pub none_waits : NoneWaits
none_waits accepts = record { links = λ n l at. absurd cc; accepts = λ session p at. absurd cc }
