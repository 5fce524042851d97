-- Whatever the links of an end do goes step by step.
use Rattle.std.specs.Prelude.{◌≡◌, ℕ, nat_eq, true, [], Option, Some, None, refl}
use Rattle.std.proofs.Common.{sym, ap, subst}
use Rattle.std.specs.Map.{lookup}
use Rattle.amqp_link_words.specs.declared.link_call.LinkCall.{LinkCall}
use Rattle.amqp_link_words.specs.declared.link_call.LinkCall.TheVariants as call
use Rattle.amqp_session.specs.declared.session.LinkInput.{LinkInput}
use Rattle.amqp_session.specs.declared.session.LinkInput.TheVariants as input
use Rattle.amqp_links.specs.Accepting.{accepting}
use Rattle.amqp_links.specs.Attaching.{attaching_sender, attaching_receiver}
use Rattle.amqp_links.specs.Calling.{Calls, waiting_as}
use Rattle.amqp_links.specs.Hearing.{is_detach, link_from_at, frame_at}
use Rattle.amqp_links.specs.Inputs.{word_read, read_at, input_read}
use Rattle.amqp_links.specs.Parts.{Told}
use Rattle.amqp_links.specs.State.{State, place_of, link_of, entered}
use Rattle.amqp_links.specs.Timing.{at_moment, looked, timed_sending}
use Rattle.link_lives.specs.Deeds.{Deed, Asks, Hears, Hands, Knows, Looks, Tells, IsDeed}
use Rattle.link_tables_agree.specs.Sound.{IsUnused, IsNewCall, IsNewIn}
use Rattle.link_tables_agree.proofs.Steps.{sound_same, entered_turn, unused_then}
use Rattle.link_tables_agree.proofs.Walks.{Walk, Goes, goes_still, goes_then, goes_same, entered_goes}
use Rattle.link_tables_agree.proofs.Timing.{timed_sending_goes, looked_goes}
use Rattle.link_tables_agree.proofs.Hearing.{hearing_goes, kept_goes, left_goes, disposition_goes, session_stopped_goes, session_over_goes}
use Rattle.link_tables_agree.proofs.Calling.{sending_goes, outcome_goes, receives_goes, disposing_goes, crediting_goes, credit_goes, regulating_goes, disposer_goes, disposing_by_goes, leaving_goes}
use Rattle.link_tables_agree.proofs.Accepting.{MayMeet, MayCome, attaching_sender_goes, attaching_receiver_goes, accepting_goes, attach_came_goes}

-- what a call asks of its name, and of the handles of the peer
abbrev pub MayAsk : Walk → ℕ → LinkCall → State → Type 0
MayAsk P name (call.Sender session settings) s = P.Makes name
MayAsk P name (call.Receiver session settings) s = P.Makes name
MayAsk P name (call.Accept session settings credit_mode auto_accept) s = P.Makes name × MayMeet P session (entered session s)
MayAsk P name other s = Unit {0}

-- what is heard asks
abbrev pub MayHear : Walk → ℕ → LinkInput → State → Type 0
MayHear P session (input.Attach x) s = MayCome P session x (entered session s)
MayHear P session (input.Detach x) s = P.May session x.handle
MayHear P session other s = Unit {0}

abbrev pub MayDo : Walk → Deed → State → Type 0
MayDo P (Asks name call max) s = MayAsk P name call s
MayDo P (Hears session x) s = MayHear P session x s
MayDo P d s = Unit {0}

unused_entered : (name session : ℕ) (s : State) → IsUnused name s → IsUnused name (entered session s)
unused_entered name session s u = unused_then name s (entered session s) (entered_turn (place_of session s) session s refl) u

module _ (P : Walk) where
  is_so : (old t new : State) → Goes P old t → new ≡ t → Goes P old new
  is_so old t new p h = subst (λ s. Goes P old s) (sym h) p

  behind_entered : (session : ℕ) (old t : State) → Goes P (entered session old) t → Goes P old t
  behind_entered session old t p = goes_then P old (entered session old) t (entered_goes P session old) p

  calls_go : (name : ℕ) (x : LinkCall) (max : Option ℕ) (old new : State) → Calls name x max old new → IsNewCall name x old → MayAsk P name x old → Goes P old new
  calls_go name (call.Sender session settings) max old new h u may =
      is_so old (attaching_sender name session settings max (entered session old)) new (behind_entered session old _ (attaching_sender_goes P name session settings max (entered session old) may (unused_entered name session old u))) h
  calls_go name (call.Receiver session settings) max old new h u may =
      is_so old (attaching_receiver name session settings max (entered session old)) new (behind_entered session old _ (attaching_receiver_goes P name session settings max (entered session old) may (unused_entered name session old u))) h
  calls_go name (call.Accept session settings credit_mode auto_accept) max old new h u may =
      let accept = waiting_as name settings credit_mode auto_accept max in
      is_so old (accepting session accept (entered session old)) new (behind_entered session old _ (accepting_goes P session accept (entered session old) may.0 (unused_entered name session old u) may.1)) h
  calls_go name (call.Send link message) max old new h u may = is_so old _ new (sending_goes P (link_of link old) name link message old refl) h
  calls_go name (call.SendTimed link message timeout) max old new h u may = is_so old (timed_sending name link message timeout old) new (timed_sending_goes P name link message timeout old) h
  calls_go name (call.Outcome send) max old new h u may = is_so old _ new (outcome_goes P (lookup (nat_eq send) old.sends) name old) h
  calls_go name (call.Recv link) max old new h u may = receives_goes P (link_of link old) name link old new refl h
  calls_go name (call.Dispose link disposal deliveries) max old new h u may = is_so old _ new (disposing_goes P name link disposal deliveries old) h
  calls_go name (call.SetCredit link credit) max old new h u may = is_so old _ new (crediting_goes P (link_of link old) name link credit old refl) h
  calls_go name (call.Credit link) max old new h u may = is_so old _ new (credit_goes P (link_of link old) name old) h
  calls_go name (call.Regulate link regulation) max old new h u may = is_so old _ new (regulating_goes P (link_of link old) name link regulation old refl) h
  calls_go name (call.Disposer link) max old new h u may = is_so old _ new (disposer_goes P (link_of link old) name link old) h
  calls_go name (call.DisposeBy disposer disposal delivery) max old new h u may = is_so old _ new (disposing_by_goes P (lookup (nat_eq disposer) old.disposers) name disposal delivery old) h
  calls_go name (call.Part link parting) max old new h u may = is_so old _ new (leaving_goes P (link_of link old) name link parting old refl) h

  -- ---- what is heard

  frame_goes : (o : Option ℕ) (session remote : ℕ) (x : LinkInput) (s : State) → (is_detach x ≡ true → P.May session remote) → Goes P s (frame_at o session remote x s)
  frame_goes None session remote x s may = kept_goes P session remote x s
  frame_goes (Some link) session remote x s may = hearing_goes P session link remote x s may

  flow_goes : (o : Option ℕ) (session : ℕ) (x : LinkInput) (s : State) → (is_detach x ≡ true → ⊥) → word_read session x s ≡ s → Goes P s (read_at o session x s)
  flow_goes None session x s h w = subst (λ t. Goes P s t) (sym w) (goes_still P s)
  flow_goes (Some remote) session x s h w = frame_goes (link_from_at remote (place_of session s)) session remote x s (λ e. absurd (h e))

  hears_go : (session : ℕ) (x : LinkInput) (old : State) → MayHear P session x old → Goes P old (input_read session x old)
  hears_go session (input.Flow x) old may = let s = entered session old in behind_entered session old _ (flow_goes x.handle session (input.Flow x) s (λ e. absurd cc) refl)
  hears_go session (input.Transfer x payload) old may =
      let s = entered session old in behind_entered session old _ (frame_goes (link_from_at x.handle (place_of session s)) session x.handle (input.Transfer x payload) s (λ e. absurd cc))
  hears_go session (input.Detach x) old may = let s = entered session old in behind_entered session old _ (frame_goes (link_from_at x.handle (place_of session s)) session x.handle (input.Detach x) s (λ e. may))
  hears_go session (input.Attach x) old may = let s = entered session old in behind_entered session old _ (attach_came_goes P s.accepts session x s may)
  hears_go session (input.Disposition x) old may = let s = entered session old in behind_entered session old _ (disposition_goes P session x s)
  hears_go session (input.Left x) old may = let s = entered session old in behind_entered session old _ (left_goes P session x s)
  hears_go session (input.Stopped why) old may = let s = entered session old in behind_entered session old _ (session_stopped_goes P session why s)
  hears_go session input.Over old may = let s = entered session old in behind_entered session old _ (session_over_goes P session s)

  -- ---- all deeds

  pub deed_goes : (d : Deed) (old new : State) → IsDeed old d new → IsNewIn d old → MayDo P d old → ((x : Told) → d ≡ Hands x → P.R old new) → Goes P old new
  deed_goes (Asks name x max) old new h u may hands = calls_go name x max old new h u may
  deed_goes (Hears session x) old new h u may hands = is_so old (input_read session x old) new (hears_go session x old may) h
  deed_goes (Hands x) old new h u may hands = λ sound.
      record { sound = sound_same old new (ap (λ s. s.sessions) h.1) (ap (λ s. s.endpoints) h.1) sound; goes = hands x refl }
  deed_goes (Knows at) old new h u may hands = is_so old (at_moment at old) new (goes_same P old (at_moment at old) refl refl refl) h
  deed_goes Looks old new h u may hands = is_so old (looked old) new (looked_goes P old) h
  deed_goes Tells old new h u may hands = is_so old (record old { replies = [] }) new (goes_same P old (record old { replies = [] }) refl refl refl) h

-- ---- where nothing is asked for

module _ (P : Walk) (may : (session remote : ℕ) → P.May session remote) (joins : (link : ℕ) → P.Joins link) (makes : (name : ℕ) → P.Makes name) where
  free_ask : (name : ℕ) (x : LinkCall) (s : State) → MayAsk P name x s
  free_ask name (call.Sender session settings) s = makes name
  free_ask name (call.Receiver session settings) s = makes name
  free_ask name (call.Accept session settings credit_mode auto_accept) s = (makes name, λ x e. may session x.handle)
  free_ask name (call.Send link message) s = tt
  free_ask name (call.SendTimed link message timeout) s = tt
  free_ask name (call.Outcome send) s = tt
  free_ask name (call.Recv link) s = tt
  free_ask name (call.Dispose link disposal deliveries) s = tt
  free_ask name (call.SetCredit link credit) s = tt
  free_ask name (call.Credit link) s = tt
  free_ask name (call.Regulate link regulation) s = tt
  free_ask name (call.Disposer link) s = tt
  free_ask name (call.DisposeBy disposer disposal delivery) s = tt
  free_ask name (call.Part link parting) s = tt

  free_hear : (session : ℕ) (x : LinkInput) (s : State) → MayHear P session x s
  free_hear session (input.Attach x) s = record { may = may session x.handle; joins = λ made e. joins made; makes = λ a e. makes a.name; meets = λ y e. may session y.handle }
  free_hear session (input.Detach x) s = may session x.handle
  free_hear session (input.Flow x) s = tt
  free_hear session (input.Transfer x payload) s = tt
  free_hear session (input.Disposition x) s = tt
  free_hear session (input.Left x) s = tt
  free_hear session (input.Stopped why) s = tt
  free_hear session input.Over s = tt

  pub free_do : (d : Deed) (s : State) → MayDo P d s
  free_do (Asks name x max) s = free_ask name x s
  free_do (Hears session x) s = free_hear session x s
  free_do (Hands x) s = tt
  free_do (Knows at) s = tt
  free_do Looks s = tt
  free_do Tells s = tt
