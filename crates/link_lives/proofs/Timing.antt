-- Calls with a time go on.
use Rattle.std.specs.Prelude.{◌≡◌, ℕ, Bool, true, false, List, [], ◌∷◌, ◌++◌, map, Option, Some, None, refl}
use Rattle.std.proofs.Common.{sym, ◌∙◌, ap}
use Rattle.std.proofs.lemmas.List.{append-nil}
use Rattle.amqp_sender.specs.declared.sender.DeliveryToken.{DeliveryToken}
use Rattle.amqp_links.specs.amqp_link_calls.Answering as known
use Rattle.amqp_links.specs.amqp_link_calls.Called.{Called, awaits_outcome}
use Rattle.amqp_links.specs.amqp_link_calls.Calling.{sends, token_of, having_sent, outcome_asked, outcome_given_up}
use Rattle.amqp_links.specs.amqp_link_calls.Leaving.{awaits_part, part_given_up}
use Rattle.amqp_links.specs.amqp_link_calls.Replies.{is_pending}
use Rattle.amqp_link_words.specs.declared.link_call.Sendable.{Sendable}
use Rattle.amqp_link_words.specs.declared.link_reply.LinkReply.{LinkReply}
use Rattle.amqp_link_words.specs.declared.link_reply.LinkReply.TheVariants as reply
use Rattle.amqp_links.specs.declared.timed.Awaited.{Awaited}
use Rattle.amqp_links.specs.declared.timed.Awaited.TheVariants.{Credit, Outcome, Detach}
use Rattle.amqp_links.specs.declared.timed.TimedCall.{TimedCall}
use Rattle.amqp_links.specs.declared.timed.Timer.{Timer}
use Rattle.amqp_links.specs.State.{State, link_of, with_link, answering}
use Rattle.amqp_links.specs.Timing.{is_due, timer, timed_of, waiting_as, waiting_for, waiting_no_more, send_kept, awaiting_as, awaiting_at, awaiting, sent, unsent, tried, trying_at, message_for, trying, tried_again, elapsed_if, outcome_elapsed, part_elapsed, elapsed, looked_at, all_looked, looked, waiting_send, waiting_told, told_waiting_as, told_waiting, timed_sending, waiting_part, part_told}
use Rattle.session_laws.specs.Messages.{Message}
use Rattle.link_lives.specs.Lives.{Sent}
use Rattle.link_lives.specs.Logs.{Of, Goes}
use Rattle.link_lives.specs.Logs as logs
use Rattle.link_lives.proofs.Sides.{sent_events, sent_events_are, sends_lives}
use Rattle.link_lives.proofs.Called.{went_side, outcome_asked_went, outcome_given_up_went, part_given_up_went}
use Rattle.link_lives.proofs.Going.{nothing, goes_then, goes_same, goes_still, link_goes, link_stays, goes_either}
use Rattle.link_lives.proofs.Taking.{taken_goes}
use Rattle.amqp_links.specs.Taking.{taken_up}

-- a message that is sent, and an answer, are nothing to be done on a session
told_messages : (link : ℕ) (xs : List Message) → logs.told (map (Of link) (map Sent xs)) ≡ []
told_messages link [] = refl
told_messages link (x ∷ xs) = told_messages link xs

pub told_sent : (link : ℕ) (x : Sendable) (l : Called) → logs.told (map (Of link) (sent_events x l.side)) ≡ []
told_sent link x l =
    let m = sent_events_are x l.side in
    ap (λ es. logs.told (map (Of link) es)) m.1 ∙ told_messages link m.0

module _ (P : ℕ → Type 0) where
  pub having_sent_goes : (link : ℕ) (x : Sendable) (l : Called) (s : State) → link_of link s ≡ Some l → Goes P nothing s (with_link link (having_sent x l) s)
  having_sent_goes link x l s at =
      link_goes P link l (having_sent x l) (sent_events x l.side) nothing s (with_link link (having_sent x l) s) at (went_side l (sends x l.side).side (sent_events x l.side) [] (sends_lives l.session x l.side)) (λ n h. refl) refl refl
      (sym (append-nil s.output) ∙ ap (λ xs. s.output ++ xs) (sym (told_sent link x l)))

  pub kept_goes : (name link : ℕ) (o : Option DeliveryToken) (s : State) → Goes P nothing s (send_kept name link o s)
  kept_goes name link None s = goes_still P s
  kept_goes name link (Some token) s = goes_same P s (send_kept name link (Some token) s) refl refl refl

  awaiting_goes_as : (answer : LinkReply) (link : ℕ) (t : Timer) (token : DeliveryToken) (s : State) → Goes P nothing s (awaiting_as answer link t token s)
  awaiting_goes_as answer link t token s =
      goes_either P (is_pending answer) nothing s (waiting_for t (Outcome token) link s) (waiting_no_more link (answering t.name answer s)) (goes_same P s _ refl refl refl) (goes_same P s _ refl refl refl)

  awaiting_goes_at : (o : Option Called) (link : ℕ) (t : Timer) (token : DeliveryToken) (s : State) → link_of link s ≡ o → Goes P nothing s (awaiting_at o link t token s)
  awaiting_goes_at None link t token s at = goes_still P s
  awaiting_goes_at (Some l) link t token s at =
      let u = with_link link (outcome_asked t.name token.place l) s in
      let x = known.outcome_now token.place l in
      goes_then P nothing nothing s u (awaiting_as x link t token u) (link_stays P link l (outcome_asked t.name token.place l) s u at (outcome_asked_went t.name token.place l) refl refl refl) (awaiting_goes_as x link t token u)

  sent_goes : (link : ℕ) (t : Timer) (token : DeliveryToken) (s : State) → Goes P nothing s (sent link t token s)
  sent_goes link t token s =
      let u = answering t.name reply.Sent (send_kept t.name link (Some token) s) in
      goes_then P nothing nothing s u (awaiting link t token u) (goes_same P s u refl refl refl) (awaiting_goes_at (link_of link u) link t token u refl)

  unsent_goes : (answer : LinkReply) (name link : ℕ) (s : State) → Goes P nothing s (unsent answer name link s)
  unsent_goes answer name link s =
      goes_either P (is_pending answer) nothing s s (waiting_no_more link (answering name answer s)) (goes_still P s) (goes_same P s _ refl refl refl)

  tried_goes : (o : Option DeliveryToken) (answer : LinkReply) (link : ℕ) (t : Timer) (s : State) → Goes P nothing s (tried o answer link t s)
  tried_goes None answer link t s = unsent_goes answer t.name link s
  tried_goes (Some token) answer link t s = sent_goes link t token s

  trying_goes_at : (o : Option Called) (link : ℕ) (t : Timer) (x : Sendable) (s : State) → link_of link s ≡ o → Goes P nothing s (trying_at o link t x s)
  trying_goes_at None link t x s at = goes_still P s
  trying_goes_at (Some l) link t x s at =
      let u = with_link link (having_sent x l) s in
      let m = sends x l.side in
      goes_then P nothing nothing s u (tried (token_of x l.side) m.reply link t u) (having_sent_goes link x l s at) (tried_goes (token_of x l.side) m.reply link t u)

  trying_goes : (o : Option (Timer × Sendable)) (link : ℕ) (s : State) → Goes P nothing s (trying o link s)
  trying_goes None link s = goes_still P s
  trying_goes (Some x) link s = trying_goes_at (link_of link s) link x.0 x.1 s refl

  pub tried_again_goes : (always : Bool) (link : ℕ) (s : State) → Goes P nothing s (tried_again always link s)
  tried_again_goes always link s = trying_goes (message_for always (timed_of link s) s.moment) link s

  -- ---- a time that is over

  elapsed_goes_if : (b : Bool) (name : ℕ) (s : State) → Goes P nothing s (elapsed_if b name s)
  elapsed_goes_if b name s = goes_either P b nothing s (answering name reply.Elapsed s) s (goes_same P s _ refl refl refl) (goes_still P s)

  outcome_elapsed_goes : (o : Option Called) (name link : ℕ) (token : DeliveryToken) (s : State) → link_of link s ≡ o → Goes P nothing s (outcome_elapsed o name link token s)
  outcome_elapsed_goes None name link token s at = goes_still P s
  outcome_elapsed_goes (Some l) name link token s at =
      let u = with_link link (outcome_given_up name token.place l) s in
      let b = awaits_outcome name token.place l in
      goes_then P nothing nothing s u (elapsed_if b name u) (link_stays P link l (outcome_given_up name token.place l) s u at (outcome_given_up_went name token.place l) refl refl refl) (elapsed_goes_if b name u)

  part_elapsed_goes : (o : Option Called) (name link : ℕ) (s : State) → link_of link s ≡ o → Goes P nothing s (part_elapsed o name link s)
  part_elapsed_goes None name link s at = goes_still P s
  part_elapsed_goes (Some l) name link s at =
      let u = with_link link (part_given_up name l) s in
      let b = awaits_part name l.parting in
      goes_then P nothing nothing s u (elapsed_if b name u) (link_stays P link l (part_given_up name l) s u at (part_given_up_went name l) refl refl refl) (elapsed_goes_if b name u)

  elapsed_goes : (x : Awaited) (name link : ℕ) (s : State) → Goes P nothing s (elapsed x name link s)
  elapsed_goes (Credit message) name link s = goes_same P s _ refl refl refl
  elapsed_goes (Outcome token) name link s = outcome_elapsed_goes (link_of link s) name link token s refl
  elapsed_goes Detach name link s = part_elapsed_goes (link_of link s) name link s refl

  looked_goes_at : (link : ℕ) (x : TimedCall) (s : State) → Goes P nothing s (looked_at link x s)
  looked_goes_at link x s =
      goes_either P (is_due x.timer s.moment) nothing s (elapsed x.awaited x.timer.name link s) (waiting_as link x s) (elapsed_goes x.awaited x.timer.name link s) (goes_same P s _ refl refl refl)

  all_looked_go : (cs : List (ℕ × TimedCall)) (s : State) → Goes P nothing s (all_looked cs s)
  all_looked_go [] s = goes_still P s
  all_looked_go (c ∷ cs) s =
      let t = looked_at c.0 c.1 s in goes_then P nothing nothing s t (all_looked cs t) (looked_goes_at c.0 c.1 s) (all_looked_go cs t)

  pub looked_goes : (s : State) → Goes P nothing s (looked s)
  looked_goes s =
      let t : State = record s { timed = [] } in goes_then P nothing nothing s t (all_looked s.timed t) (goes_same P s t refl refl refl) (all_looked_go s.timed t)

  -- ---- the calls

  waiting_told_goes : (b : Bool) (name link : ℕ) (s : State) → Goes P nothing s (waiting_told b name link s)
  waiting_told_goes true name link s = goes_same P s _ refl refl refl
  waiting_told_goes false name link s = goes_same P s _ refl refl refl

  told_waiting_goes : (o : Option (ℕ × Bool)) (link : ℕ) (s : State) → Goes P nothing s (told_waiting_as o link s)
  told_waiting_goes None link s = goes_still P s
  told_waiting_goes (Some x) link s = waiting_told_goes x.1 x.0 link s

  pub timed_sending_goes : (name link : ℕ) (x : Sendable) (duration : ℕ) (s : State) → Goes P nothing s (timed_sending name link x duration s)
  timed_sending_goes name link x duration s =
      let a = waiting_for (timer name duration s) (Credit x) link s in
      let b = tried_again true link a in
      let c = told_waiting link b in
      goes_then P nothing nothing s a (taken_up link c) (goes_same P s a refl refl refl)
      (goes_then P nothing nothing a b (taken_up link c) (tried_again_goes true link a)
      (goes_then P nothing nothing b c (taken_up link c) (told_waiting_goes (waiting_send (timed_of link b) b.moment) link b) (taken_goes P link c)))

  waiting_part_goes : (t : Timer) (link : ℕ) (s : State) → Goes P nothing s (waiting_part t link s)
  waiting_part_goes t link s =
      goes_either P (is_due t s.moment) nothing s (part_elapsed (link_of link s) t.name link s) (waiting_for t Detach link (answering t.name reply.Pending s)) (part_elapsed_goes (link_of link s) t.name link s refl) (goes_same P s _ refl refl refl)

  pub part_told_goes : (o : Option ℕ) (answer : LinkReply) (name link : ℕ) (s : State) → Goes P nothing s (part_told o answer name link s)
  part_told_goes None answer name link s = goes_same P s _ refl refl refl
  part_told_goes (Some duration) answer name link s =
      goes_either P (is_pending answer) nothing s (waiting_part (timer name duration s) link s) (answering name answer s) (waiting_part_goes (timer name duration s) link s) (goes_same P s _ refl refl refl)
