-- Whatever the links of an end do: of the deliveries that end among what they hear, no more are given or wait.
use Rattle.std.specs.Prelude.{◌≡◌, ◌≤◌, ◌+◌, ℕ, nat_eq, Bool, true, false, List, [], ◌∷◌, Option, Some, None, refl}
use Rattle.std.proofs.Common.{sym, ap, subst, arith}
use Rattle.std.specs.Map.{lookup}
use Rattle.amqp_link_words.specs.declared.link_call.LinkCall.{LinkCall}
use Rattle.amqp_link_words.specs.declared.link_call.LinkCall.TheVariants as call
use Rattle.amqp_session.specs.declared.session.LinkInput.{LinkInput}
use Rattle.amqp_session.specs.declared.session.LinkInput.TheVariants as input
use Rattle.amqp_links.specs.Accepting.{accepting}
use Rattle.amqp_links.specs.Attaching.{attaching_sender, attaching_receiver}
use Rattle.amqp_links.specs.Calling.{Calls, waiting_as, sending_at, outcome_for, disposing, crediting_at, credit_at}
use Rattle.amqp_links.specs.Disposers.{disposer_made, disposing_by}
use Rattle.amqp_links.specs.Leaving.{leaving_at}
use Rattle.amqp_links.specs.Regulating.{regulating_at}
use Rattle.amqp_links.specs.Hearing.{link_from_at, frame_at}
use Rattle.amqp_links.specs.Inputs.{word_read, read_at, input_read}
use Rattle.amqp_links.specs.State.{State, place_of, link_of, entered}
use Rattle.amqp_links.specs.Timing.{timed_sending}
use Rattle.served_connection.proofs.ListenLaws.Weights.{of_input, of_links}
use Rattle.served_connection.proofs.ListenLaws.Going.{Falls, Grows, falls_then, grows_behind, falls_still, entered_falls}
use Rattle.served_connection.proofs.ListenLaws.Timing.{timed_sending_falls}
use Rattle.served_connection.proofs.ListenLaws.Hearing.{hearing_grows, kept_grows, left_falls, disposition_falls, session_stopped_falls, session_over_falls}
use Rattle.served_connection.proofs.ListenLaws.Calling.{sending_falls, outcome_falls, receives_falls, disposing_falls, crediting_falls, credit_falls, regulating_falls, disposer_falls, disposing_by_falls, leaving_falls}
use Rattle.served_connection.proofs.ListenLaws.Accepting.{attaching_sender_falls, attaching_receiver_falls, accepting_falls, attach_came_falls}

-- ---- calls

is_so : (old t new : State) → Falls old t → new ≡ t → Falls old new
is_so old t new p h = let e : of_links new ≡ of_links t = ap of_links h in omega (arith, p, e)

behind_entered : (session : ℕ) (old t : State) → Falls (entered session old) t → Falls old t
behind_entered session old t p = falls_then old (entered session old) t (entered_falls session old) p

pub calls_fall : (name : ℕ) (x : LinkCall) (max : Option ℕ) (old new : State) → Calls name x max old new → Falls old new
calls_fall name (call.Sender session settings) max old new h =
    let t = attaching_sender name session settings max (entered session old) in
    is_so old t new (behind_entered session old t (attaching_sender_falls name session settings max (entered session old))) h
calls_fall name (call.Receiver session settings) max old new h =
    let t = attaching_receiver name session settings max (entered session old) in
    is_so old t new (behind_entered session old t (attaching_receiver_falls name session settings max (entered session old))) h
calls_fall name (call.Accept session settings credit_mode auto_accept) max old new h =
    let accept = waiting_as name settings credit_mode auto_accept max in
    let t = accepting session accept (entered session old) in
    is_so old t new (behind_entered session old t (accepting_falls session accept (entered session old))) h
calls_fall name (call.Send link message) max old new h =
    is_so old (sending_at (link_of link old) name link message old) new (sending_falls (link_of link old) name link message old refl) h
calls_fall name (call.SendTimed link message timeout) max old new h =
    is_so old (timed_sending name link message timeout old) new (timed_sending_falls name link message timeout old) h
calls_fall name (call.Outcome send) max old new h =
    let o = lookup (nat_eq send) old.sends in is_so old (outcome_for o name old) new (outcome_falls o name old) h
calls_fall name (call.Recv link) max old new h = receives_falls (link_of link old) name link old new refl h
calls_fall name (call.Dispose link disposal deliveries) max old new h =
    is_so old (disposing name link disposal deliveries old) new (disposing_falls name link disposal deliveries old) h
calls_fall name (call.SetCredit link credit) max old new h =
    is_so old (crediting_at (link_of link old) name link credit old) new (crediting_falls (link_of link old) name link credit old refl) h
calls_fall name (call.Credit link) max old new h = is_so old (credit_at (link_of link old) name old) new (credit_falls (link_of link old) name old) h
calls_fall name (call.Regulate link regulation) max old new h =
    is_so old (regulating_at (link_of link old) name link regulation old) new (regulating_falls (link_of link old) name link regulation old refl) h
calls_fall name (call.Disposer link) max old new h = is_so old (disposer_made (link_of link old) name link old) new (disposer_falls (link_of link old) name link old) h
calls_fall name (call.DisposeBy disposer disposal delivery) max old new h =
    let o = lookup (nat_eq disposer) old.disposers in is_so old (disposing_by o name disposal delivery old) new (disposing_by_falls o name disposal delivery old) h
calls_fall name (call.Part link parting) max old new h =
    is_so old (leaving_at (link_of link old) name link parting old) new (leaving_falls (link_of link old) name link parting old refl) h

-- ---- what is heard

frame_grows : (o : Option ℕ) (session remote : ℕ) (x : LinkInput) (s : State) → Grows (of_input x) s (frame_at o session remote x s)
frame_grows None session remote x s = kept_grows session remote x s
frame_grows (Some link) session remote x s = hearing_grows session link remote x s

behind_known : (n session : ℕ) (old t : State) → Grows n (entered session old) t → Grows n old t
behind_known n session old t p = grows_behind n old (entered session old) t (entered_falls session old) p

flow_grows : (o : Option ℕ) (session : ℕ) (x : LinkInput) (s : State) → word_read session x s ≡ s → Grows (of_input x) s (read_at o session x s)
flow_grows None session x s w = let e : of_links (word_read session x s) ≡ of_links s = ap of_links w in omega (arith, e)
flow_grows (Some remote) session x s w = frame_grows (link_from_at remote (place_of session s)) session remote x s

none_grows : (s t : State) → Falls s t → Grows 0 s t
none_grows s t p = omega (arith, p)

word_grows : (session : ℕ) (x : LinkInput) (old : State) → of_input x ≡ 0 → Falls (entered session old) (word_read session x (entered session old)) → Grows (of_input x) old (word_read session x (entered session old))
word_grows session x old e p =
    let s = entered session old in
    let t = word_read session x s in
    let g : Grows 0 old t = behind_known 0 session old t (none_grows s t p) in
    omega (arith, g, e)

frame_known : (session remote : ℕ) (x : LinkInput) (old : State) → Grows (of_input x) old (frame_at (link_from_at remote (place_of session (entered session old))) session remote x (entered session old))
frame_known session remote x old =
    let s = entered session old in
    let o = link_from_at remote (place_of session s) in
    behind_known (of_input x) session old (frame_at o session remote x s) (frame_grows o session remote x s)

pub hears_grow : (session : ℕ) (x : LinkInput) (old : State) → Grows (of_input x) old (input_read session x old)
hears_grow session (input.Flow x) old =
    let s = entered session old in behind_known 0 session old (read_at x.handle session (input.Flow x) s) (flow_grows x.handle session (input.Flow x) s refl)
hears_grow session (input.Transfer x payload) old = frame_known session x.handle (input.Transfer x payload) old
hears_grow session (input.Detach x) old = frame_known session x.handle (input.Detach x) old
hears_grow session (input.Attach x) old = let s = entered session old in word_grows session (input.Attach x) old refl (attach_came_falls s.accepts session x s)
hears_grow session (input.Disposition x) old = word_grows session (input.Disposition x) old refl (disposition_falls session x (entered session old))
hears_grow session (input.Left x) old = word_grows session (input.Left x) old refl (left_falls session x (entered session old))
hears_grow session (input.Stopped why) old = word_grows session (input.Stopped why) old refl (session_stopped_falls session why (entered session old))
hears_grow session input.Over old = word_grows session input.Over old refl (session_over_falls session (entered session old))
