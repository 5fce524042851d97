-- Calls on links are made.
use Rattle.std.specs.Prelude.{◌≡◌, ℕ, Bool, true, false, List, [], ◌∷◌, ◌++◌, map, Option, Some, None, refl}
use Rattle.std.proofs.Common.{sym, ◌∙◌, ap, subst}
use Rattle.std.proofs.lemmas.List.{append-nil}
use Rattle.amqp_composites.specs.declared.modes.Role.TheVariants as role
use Rattle.amqp_delivery.specs.declared.info.DeliveryInfo.{DeliveryInfo}
use Rattle.amqp_delivery.specs.declared.info.DisposerView.{DisposerView}
use Rattle.amqp_sender.specs.declared.sender.DeliveryToken.{DeliveryToken}
use Rattle.amqp_links.specs.amqp_link_calls.Answering as known
use Rattle.amqp_links.specs.amqp_link_calls.Called.{Called, with_side}
use Rattle.amqp_links.specs.amqp_link_calls.Calling.{Receives, sends, token_of, having_sent, outcome_asked, having_received, disposes, sets_credit}
use Rattle.amqp_links.specs.amqp_link_calls.Disposers.{view_of, disposes_by, settles, settles_at_once}
use Rattle.amqp_links.specs.amqp_link_calls.Leaving.{leaves}
use Rattle.amqp_links.specs.amqp_link_calls.Regulating.{regulates}
use Rattle.amqp_link_words.specs.declared.link_call.Disposal.{Disposal}
use Rattle.amqp_link_words.specs.declared.link_call.Parting.{Parting}
use Rattle.amqp_link_words.specs.declared.link_call.Sendable.{Sendable}
use Rattle.amqp_link_words.specs.declared.link_reply.LinkReply.{LinkReply}
use Rattle.amqp_link_words.specs.declared.regulation.Regulation.{Regulation}
use Rattle.amqp_session_links.specs.Claims.{spending}
use Rattle.amqp_links.specs.declared.links.KeptDisposer.{KeptDisposer}
use Rattle.amqp_links.specs.declared.links.SentDelivery.{SentDelivery}
use Rattle.amqp_links.specs.Calling.{sending_at, outcome_at, outcome_for, info_of, delivery_kept, received_with, ReceivesAt, disposing_at, disposing, crediting_at, credit_at}
use Rattle.amqp_links.specs.Disposers.{infos_of, disposer_kept, disposer_made, disposing_with, disposing_by}
use Rattle.amqp_links.specs.Leaving.{is_leaving, spent_if, timeout_of, leaving_at}
use Rattle.amqp_links.specs.Numbering.{left_at, given_left, disposed_at, all_left, is_done, disposed_left}
use Rattle.amqp_links.specs.Parts.{name_of}
use Rattle.amqp_links.specs.Regulating.{regulating_at}
use Rattle.amqp_links.specs.State.{State, link_of, with_link, answering}
use Rattle.amqp_links.specs.Taking.{taken_up, finished}
use Rattle.amqp_links.specs.Timing.{send_kept, part_told}
use Rattle.session_laws.specs.Receiving.{Answer}
use Rattle.link_lives.specs.Lives.{Answered, Went}
use Rattle.link_lives.specs.Logs.{Of, Goes}
use Rattle.link_lives.specs.Logs as logs
use Rattle.link_lives.proofs.Sides.{received_events, received_events_are, received_lives, disposes_lives, disposes_by_lives, credit_lives, regulates_lives}
use Rattle.link_lives.proofs.Called.{went_side, outcome_asked_went, leaves_went}
use Rattle.link_lives.proofs.Going.{nothing, goes_then, goes_same, goes_still, link_goes, link_stays, place_stays}
use Rattle.link_lives.proofs.Taking.{taken_goes, finished_goes}
use Rattle.link_lives.proofs.Timing.{having_sent_goes, kept_goes, part_told_goes}
use Rattle.link_lives.proofs.Hearing.{forgetting_goes}

-- an answer is nothing to be done on a session
told_answers : (link : ℕ) (xs : List Answer) → logs.told (map (Of link) (map Answered xs)) ≡ []
told_answers link [] = refl
told_answers link (x ∷ xs) = told_answers link xs

told_received : (link : ℕ) (l : Called) → logs.told (map (Of link) (received_events l.side)) ≡ []
told_received link l =
    let m = received_events_are l.side in ap (λ es. logs.told (map (Of link) es)) m.1 ∙ told_answers link m.0

module _ (P : ℕ → Type 0) where
  pub sending_goes : (o : Option Called) (name link : ℕ) (x : Sendable) (s : State) → link_of link s ≡ o → Goes P nothing s (sending_at o name link x s)
  sending_goes None name link x s at = goes_still P s
  sending_goes (Some l) name link x s at =
      let a = with_link link (having_sent x l) s in
      let b = send_kept name link (token_of x l.side) a in
      let m = sends x l.side in
      goes_then P nothing nothing s a (finished name link m.reply b) (having_sent_goes P link x l s at)
      (goes_then P nothing nothing a b (finished name link m.reply b) (kept_goes P name link (token_of x l.side) a) (finished_goes P name link m.reply b))

  outcome_goes_at : (o : Option Called) (name link : ℕ) (token : DeliveryToken) (s : State) → link_of link s ≡ o → Goes P nothing s (outcome_at o name link token s)
  outcome_goes_at None name link token s at = goes_still P s
  outcome_goes_at (Some l) name link token s at =
      let a = with_link link (outcome_asked name token.place l) s in
      let x = known.outcome_now token.place l in
      goes_then P nothing nothing s a (finished name link x a) (link_stays P link l (outcome_asked name token.place l) s a at (outcome_asked_went name token.place l) refl refl refl) (finished_goes P name link x a)

  pub outcome_goes : (o : Option SentDelivery) (name : ℕ) (s : State) → Goes P nothing s (outcome_for o name s)
  outcome_goes None name s = goes_still P s
  outcome_goes (Some x) name s = outcome_goes_at (link_of x.link s) name x.link x.token s refl

  -- ---- receiving

  delivery_goes : (name link : ℕ) (o : Option DeliveryInfo) (s : State) → Goes P nothing s (delivery_kept name link o s)
  delivery_goes name link None s = goes_still P s
  delivery_goes name link (Some info) s = goes_same P s (delivery_kept name link (Some info) s) refl refl refl

  left_goes_at : (o : Option Called) (info : DeliveryInfo) (s : State) → Goes P nothing s (left_at o info s)
  left_goes_at None info s = goes_still P s
  left_goes_at (Some l) info s = forgetting_goes P (settles_at_once info l.side) role.Sender l.session info.delivery_id s

  given_left_goes : (link : ℕ) (o : Option DeliveryInfo) (s : State) → Goes P nothing s (given_left link o s)
  given_left_goes link None s = goes_still P s
  given_left_goes link (Some info) s = left_goes_at (link_of link s) info s

  received_goes : (answer : LinkReply) (l : Called) (name link : ℕ) (s : State) → link_of link s ≡ Some l → Receives answer l.side → Goes P nothing s (received_with answer l name link s)
  received_goes answer l name link s at r =
      let m = with_side (having_received answer l.side) l in
      let es = received_events l.side in
      let a = with_link link m s in
      let b = delivery_kept name link (info_of answer) a in
      let c = given_left link (info_of answer) b in
      let w : Went l es [] m = went_side l (having_received answer l.side) es [] (received_lives l.session answer l.side r) in
      let o : a.output ≡ s.output ++ logs.told (map (Of link) es) = sym (append-nil s.output) ∙ ap (λ xs. s.output ++ xs) (sym (told_received link l)) in
      goes_then P nothing nothing s a (finished name link answer c) (link_goes P link l m es nothing s a at w (λ n h. refl) refl refl o)
      (goes_then P nothing nothing a b (finished name link answer c) (delivery_goes name link (info_of answer) a)
      (goes_then P nothing nothing b c (finished name link answer c) (given_left_goes link (info_of answer) b) (finished_goes P name link answer c)))

  pub receives_goes : (o : Option Called) (name link : ℕ) (old new : State) → link_of link old ≡ o → ReceivesAt o name link old new → Goes P nothing old new
  receives_goes None name link old new at r = subst (λ s. Goes P nothing old s) (sym r) (goes_still P old)
  receives_goes (Some l) name link old new at r = subst (λ s. Goes P nothing old s) (sym r.1.1) (received_goes r.0 l name link old at r.1.0)

  -- ---- settling

  disposed_goes_at : (o : Option Called) (info : DeliveryInfo) (s : State) → Goes P nothing s (disposed_at o info s)
  disposed_goes_at None info s = goes_still P s
  disposed_goes_at (Some l) info s = forgetting_goes P (settles info l.side) role.Sender l.session info.delivery_id s

  all_left_go : (link : ℕ) (xs : List DeliveryInfo) (s : State) → Goes P nothing s (all_left link xs s)
  all_left_go link [] s = goes_still P s
  all_left_go link (x ∷ xs) s =
      let t = disposed_at (link_of link s) x s in goes_then P nothing nothing s t (all_left link xs t) (disposed_goes_at (link_of link s) x s) (all_left_go link xs t)

  disposed_left_goes : (b : Bool) (link : ℕ) (xs : List DeliveryInfo) (s : State) → Goes P nothing s (disposed_left b link xs s)
  disposed_left_goes true link xs s = all_left_go link xs s
  disposed_left_goes false link xs s = goes_still P s

  disposing_goes_at : (o : Option Called) (name link : ℕ) (x : Disposal) (infos : List DeliveryInfo) (s : State) → link_of link s ≡ o → Goes P nothing s (disposing_at o name link x infos s)
  disposing_goes_at None name link x infos s at = goes_still P s
  disposing_goes_at (Some l) name link x infos s at =
      let m = disposes x infos l.side in
      let a = with_link link (with_side m.side l) s in
      let b = disposed_left (is_done m.reply) link infos a in
      goes_then P nothing nothing s a (finished name link m.reply b) (link_stays P link l (with_side m.side l) s a at (went_side l m.side [] [] (disposes_lives l.session x infos l.side)) refl refl refl)
      (goes_then P nothing nothing a b (finished name link m.reply b) (disposed_left_goes (is_done m.reply) link infos a) (finished_goes P name link m.reply b))

  pub disposing_goes : (name link : ℕ) (x : Disposal) (ns : List ℕ) (s : State) → Goes P nothing s (disposing name link x ns s)
  disposing_goes name link x ns s = disposing_goes_at (link_of link s) name link x (infos_of ns s.deliveries) s refl

  pub crediting_goes : (o : Option Called) (name link credit : ℕ) (s : State) → link_of link s ≡ o → Goes P nothing s (crediting_at o name link credit s)
  crediting_goes None name link credit s at = goes_still P s
  crediting_goes (Some l) name link credit s at =
      let m = sets_credit credit l.side in
      let a = with_link link (with_side m.side l) s in
      goes_then P nothing nothing s a (finished name link m.reply a) (link_stays P link l (with_side m.side l) s a at (went_side l m.side [] [] (credit_lives l.session credit l.side)) refl refl refl) (finished_goes P name link m.reply a)

  pub credit_goes : (o : Option Called) (name : ℕ) (s : State) → Goes P nothing s (credit_at o name s)
  credit_goes None name s = goes_still P s
  credit_goes (Some l) name s = goes_same P s (credit_at (Some l) name s) refl refl refl

  pub regulating_goes : (o : Option Called) (name link : ℕ) (x : Regulation) (s : State) → link_of link s ≡ o → Goes P nothing s (regulating_at o name link x s)
  regulating_goes None name link x s at = goes_still P s
  regulating_goes (Some l) name link x s at =
      let m = regulates x l.side in
      let a = with_link link (with_side m.side l) s in
      let b = answering name m.reply a in
      goes_then P nothing nothing s a (taken_up link b) (link_stays P link l (with_side m.side l) s a at (went_side l m.side [] [] (regulates_lives l.session x l.side)) refl refl refl)
      (goes_then P nothing nothing a b (taken_up link b) (goes_same P a b refl refl refl) (taken_goes P link b))

  disposer_goes_kept : (o : Option DisposerView) (name link : ℕ) (s : State) → Goes P nothing s (disposer_kept o name link s)
  disposer_goes_kept None name link s = goes_still P s
  disposer_goes_kept (Some view) name link s = goes_same P s (disposer_kept (Some view) name link s) refl refl refl

  pub disposer_goes : (o : Option Called) (name link : ℕ) (s : State) → Goes P nothing s (disposer_made o name link s)
  disposer_goes None name link s = goes_still P s
  disposer_goes (Some l) name link s = disposer_goes_kept (view_of l.side) name link s

  disposing_goes_with : (o : Option Called) (name : ℕ) (x : KeptDisposer) (y : Disposal) (infos : List DeliveryInfo) (s : State) → link_of x.link s ≡ o → Goes P nothing s (disposing_with o name x y infos s)
  disposing_goes_with None name x y infos s at = goes_still P s
  disposing_goes_with (Some l) name x y infos s at =
      let m = disposes_by x.view y infos l.side in
      let a = with_link x.link (with_side m.side l) s in
      let b = disposed_left (is_done m.reply) x.link infos a in
      let c = answering name m.reply b in
      goes_then P nothing nothing s a (taken_up x.link c) (link_stays P x.link l (with_side m.side l) s a at (went_side l m.side [] [] (disposes_by_lives l.session x.view y infos l.side)) refl refl refl)
      (goes_then P nothing nothing a b (taken_up x.link c) (disposed_left_goes (is_done m.reply) x.link infos a)
      (goes_then P nothing nothing b c (taken_up x.link c) (goes_same P b c refl refl refl) (taken_goes P x.link c)))

  pub disposing_by_goes : (o : Option KeptDisposer) (name : ℕ) (y : Disposal) (delivery : ℕ) (s : State) → Goes P nothing s (disposing_by o name y delivery s)
  disposing_by_goes None name y delivery s = goes_still P s
  disposing_by_goes (Some x) name y delivery s = disposing_goes_with (link_of x.link s) name x y (infos_of (delivery ∷ []) s.deliveries) s refl

  -- ---- leaving

  spent_goes : (b : Bool) (session : ℕ) (name : List ℕ) (s : State) → Goes P nothing s (spent_if b session name s)
  spent_goes true session name s = place_stays P session (spending name) s (λ p. refl)
  spent_goes false session name s = goes_still P s

  pub leaving_goes : (o : Option Called) (name link : ℕ) (x : Parting) (s : State) → link_of link s ≡ o → Goes P nothing s (leaving_at o name link x s)
  leaving_goes None name link x s at = goes_still P s
  leaving_goes (Some l) name link x s at =
      let m = leaves name x l in
      let a = with_link link m.called s in
      let b = spent_if (is_leaving x) l.session (name_of l) a in
      let c = part_told (timeout_of x) m.reply name link b in
      goes_then P nothing nothing s a (taken_up link c) (link_stays P link l m.called s a at (leaves_went name x l) refl refl refl)
      (goes_then P nothing nothing a b (taken_up link c) (spent_goes (is_leaving x) l.session (name_of l) a)
      (goes_then P nothing nothing b c (taken_up link c) (part_told_goes P (timeout_of x) m.reply name link b) (taken_goes P link c)))
