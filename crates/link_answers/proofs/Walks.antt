-- What has become of a link is taken up, and calls with a time go on: the links stand for what they have put out.
use Rattle.std.specs.Prelude.{◌≡◌, ◌||◌, ℕ, Bool, true, false, not, All, Contains, List, [], ◌∷◌, ◌++◌, Option, Some, None, if◌then◌else◌, refl}
use Rattle.std.proofs.Common.{inl, inr, sym, ◌∙◌, subst}
use Rattle.std.proofs.lemmas.List.Elements.{All-head, All-tail}
use Rattle.amqp_composites.specs.declared.modes.Role.{Role}
use Rattle.amqp_link_calls.specs.Answering.{outcome_now}
use Rattle.amqp_link_calls.specs.Called.{Called, with_side, awaits_outcome}
use Rattle.amqp_link_calls.specs.Calling.{sends, token_of, having_sent, outcome_asked, outcome_given_up}
use Rattle.amqp_link_calls.specs.Leaving.{wants_handle, handle_given, handle_refused, awaits_part, part_given_up}
use Rattle.amqp_link_calls.specs.Replies.{is_pending}
use Rattle.amqp_link_calls.specs.Side.{Side, role_of, is_stopped}
use Rattle.amqp_link_words.specs.declared.link_call.LinkCall.TheVariants as call
use Rattle.amqp_link_words.specs.declared.link_call.Sendable.{Sendable}
use Rattle.amqp_link_words.specs.declared.link_reply.LinkReply.{LinkReply}
use Rattle.amqp_link_words.specs.declared.link_reply.LinkReply.TheVariants as reply
use Rattle.amqp_links.specs.declared.timed.Awaited.{Awaited}
use Rattle.amqp_links.specs.declared.timed.Awaited.TheVariants.{Credit, Outcome, Detach}
use Rattle.amqp_links.specs.declared.timed.TimedCall.{TimedCall}
use Rattle.amqp_links.specs.declared.timed.Timer.{Timer}
use Rattle.amqp_links.specs.Parts.{handle_of, name_of, is_over}
use Rattle.amqp_links.specs.State.{State, place_of, link_of, with_link, stepped, at_place, answering}
use Rattle.amqp_links.specs.Taking.{written_at, written, told_at, told, told_on, spent_by_at, attach_told_on, attach_told, freed_at, freed, reclaimed_at, reclaimed, given_at, refused_at, placed_by, placed, reattached_at, taken_up}
use Rattle.amqp_links.specs.Timing.{is_due, timer, timed_of, waiting_for, waiting_no_more, send_kept, awaiting_at, tried, trying_at, message_of, message_for, trying, tried_again, elapsed_if, outcome_elapsed, part_elapsed, elapsed, looked_at, all_looked, looked, waiting_send, waiting_told, told_waiting_as, told_waiting, timed_sending, waiting_part, part_told}
use Rattle.amqp_sender.specs.declared.sender.DeliveryToken.{DeliveryToken}
use Rattle.amqp_session_links.specs.declared.place.Claim.{Claim}
use Rattle.amqp_session_links.specs.declared.place.Claim.TheVariants.{Handle, Refused}
use Rattle.amqp_session_links.specs.Claims.{reclaiming}
use Rattle.amqp_session_links.specs.State.{State as Place}
use Rattle.link_answers.specs.Standing.{Given, Written, IsSendOver, IsOn, Stands}
use Rattle.link_answers.specs.Keeping.{HasAsked, TimedStands}
use Rattle.link_answers.proofs.Called.{Stays, stays_same, goes_stays, given_goes, refused_stays}
use Rattle.link_answers.proofs.Calls.{IsSending, sending_on, Tells, sending_goes, outcome_asked_stays, outcome_now_stands, outcome_given_up_stays, part_given_up_stays, stopped_side, stopped_token, stopped_stands}
use Rattle.link_answers.proofs.Entries.{all_found}
use Rattle.link_answers.proofs.Links.{under, wider_more}
use Rattle.link_answers.proofs.Answers.{answer_wider}
use Rattle.link_answers.proofs.Places as step
use Rattle.link_answers.proofs.Places.{PlaceStep, on_place, step_stands, reclaims_stand}
use Rattle.link_answers.proofs.States.{Before, Stand, answer_stand, timed_stand, untimed_stand, none_timed, kept_stand, place_stand, opens, shuts, link_goes, link_tells, link_stays, told_stand, writes}

pub either : {X : Type 0} (J : X → Type 0) (c : Bool) (x y : X) → J x → J y → J (if c then x else y)
either J true x y p q = p
either J false x y p q = q

-- what an answer changes and what a session's links share is apart
pub answers_apart : (q : Option Place) (session : ℕ) (f : Place → Place) (name : ℕ) (r : LinkReply) (s : State) → answering name r (stepped q session f s) ≡ stepped q session f (answering name r s)
answers_apart None session f name r s = refl
answers_apart (Some p) session f name r s = refl

pub kept_apart : (o : Option DeliveryToken) (who n : ℕ) (name : ℕ) (r : LinkReply) (s : State) → answering name r (send_kept who n o s) ≡ send_kept who n o (answering name r s)
kept_apart None who n name r s = refl
kept_apart (Some token) who n name r s = refl

module _ (g : Given) (gave : Before) where
  abbrev pub I : Option ℕ → State → Type 0
  I o s = Stand g gave o s

  pub steps_place : (o : Option ℕ) (x : PlaceStep) (session : ℕ) (s : State) → I o s → I o (at_place session (on_place x) s)
  steps_place o x session s k = place_stand g gave o session (on_place x) s (λ p h. step_stands g session x p h) k

  pub plain : (o : Option ℕ) (name : ℕ) (r : LinkReply) (s : State) → ((w : List Written) → Stands g w name r) → I o s → I o (answering name r s)
  plain o name r s f k = answer_stand g gave o name r s (λ w h. f w) k

  -- ---- what has become of a link

  written_keeps_at : (o : Option Called) (n : ℕ) (s : State) → link_of n s ≡ o → I (Some n) s → I None (written_at o n s)
  written_keeps_at None n s at k = shuts g gave n s at k
  written_keeps_at (Some l) n s at k = writes g gave n l s at k

  told_keeps_at : (o : Option Called) (n : ℕ) (s : State) → link_of n s ≡ o → I None s → I None (told_at o n s)
  told_keeps_at None n s at k = k
  told_keeps_at (Some l) n s at k = told_stand g gave n l l s at (stays_same g n l) k

  spent_keeps_at : (o : Option Called) (session : ℕ) (s : State) → I None s → I None (spent_by_at o session s)
  spent_keeps_at None session s k = k
  spent_keeps_at (Some l) session s k = either (I None) l.is_made s _ k (steps_place None (step.spends (name_of l)) session s k)

  attach_told_keeps_on : (o : Option ℕ) (n : ℕ) (s : State) → I None s → I None (attach_told_on o n s)
  attach_told_keeps_on None n s k = k
  attach_told_keeps_on (Some session) n s k =
      let t = at_place session (on_place step.ends_attach) s in spent_keeps_at (link_of n t) session t (steps_place None step.ends_attach session s k)

  pub attach_told_keeps : (n : ℕ) (s : State) → I None s → I None (attach_told n s)
  attach_told_keeps n s k = attach_told_keeps_on (told_on n s) n s k

  freed_keeps_at : (o : Option Called) (n : ℕ) (s : State) → I None s → I None (freed_at o n s)
  freed_keeps_at None n s k = k
  freed_keeps_at (Some l) n s k = either (I None) (is_over l) _ s (steps_place None (step.releases (handle_of l) n) l.session s k) k

  -- ---- a link is attached again

  reclaimed_is : (o : Option Place) (session : ℕ) (name : List ℕ) (who : Role) (n : ℕ) (s : State) → (reclaimed_at o session name who n s).state ≡ stepped o session (λ p. (reclaiming name who n p).state) s
  reclaimed_is None session name who n s = refl
  reclaimed_is (Some p) session name who n s = refl

  reclaimed_link : (o : Option Place) (session : ℕ) (name : List ℕ) (who : Role) (n : ℕ) (s : State) → link_of n (reclaimed_at o session name who n s).state ≡ link_of n s
  reclaimed_link None session name who n s = refl
  reclaimed_link (Some p) session name who n s = refl

  placed_keeps_by : (x : Claim) (n : ℕ) (l : Called) (s : State) → link_of n s ≡ Some l → wants_handle l ≡ true → I None s → I None (placed_by x n s)
  placed_keeps_by (Handle handle) n l s at h k =
      subst (λ (o : Option Called). I None (written n (given_at o handle n s))) (sym at)
      (let t = with_link n (handle_given handle l) s in written_keeps_at (link_of n t) n t refl (link_goes g gave n l (handle_given handle l) s at (given_goes g n handle l h) (opens g gave n s k)))
  placed_keeps_by (Refused e) n l s at h k =
      subst (λ (o : Option Called). I None (told n (refused_at o n s))) (sym at)
      (let t = with_link n (handle_refused l) s in told_keeps_at (link_of n t) n t refl (link_stays g gave None n l (handle_refused l) s at (refused_stays g n l h) k))

  placed_keeps : (n : ℕ) (l : Called) (s : State) → link_of n s ≡ Some l → wants_handle l ≡ true → I None s → I None (placed l.session (name_of l) (role_of l.side) n s)
  placed_keeps n l s at h k =
      let c = reclaimed l.session (name_of l) (role_of l.side) n s in
      let own = k.stands.links n l at in
      let j : I None c.state = subst (I None) (sym (reclaimed_is (place_of l.session s) l.session (name_of l) (role_of l.side) n s))
      (place_stand g gave None l.session (λ p. (reclaiming (name_of l) (role_of l.side) n p).state) s (λ p i. reclaims_stand g l.session (name_of l) (role_of l.side) n p own.asked i) k) in
      placed_keeps_by c.answer n l c.state (reclaimed_link (place_of l.session s) l.session (name_of l) (role_of l.side) n s ∙ at) h j

  reattached_if : (c : Bool) (n : ℕ) (l : Called) (s : State) → link_of n s ≡ Some l → wants_handle l ≡ c → I None s → I None (if c then placed l.session (name_of l) (role_of l.side) n s else s)
  reattached_if true n l s at h k = placed_keeps n l s at h k
  reattached_if false n l s at h k = k

  reattached_keeps_at : (o : Option Called) (n : ℕ) (s : State) → link_of n s ≡ o → I None s → I None (reattached_at o n s)
  reattached_keeps_at None n s at k = k
  reattached_keeps_at (Some l) n s at k = reattached_if (wants_handle l) n l s at refl k

  pub taken_keeps : (n : ℕ) (s : State) → I (Some n) s → I None (taken_up n s)
  taken_keeps n s k =
      let a = written n s in
      let b = told n a in
      let c = attach_told n b in
      let d = freed n c in
      reattached_keeps_at (link_of n d) n d refl (freed_keeps_at (link_of n c) n c (attach_told_keeps n b (told_keeps_at (link_of n a) n a refl (written_keeps_at (link_of n s) n s refl k))))

  -- ---- a message that waits for credit

  asked_over : (name n : ℕ) (x : Sendable) → IsSending g name n x → HasAsked g name (IsSendOver n)
  asked_over name n x (inl k) = (call.Send n x, (refl, k))
  asked_over name n x (inr k) = (call.SendTimed n x k.0, (refl, k.1))

  -- a call asks for an outcome, and is told what is known
  pub outcome_tells : (name place n : ℕ) (l : Called) → IsOn g.asked name n → Tells g n l (outcome_asked name place l) name (outcome_now place l)
  outcome_tells name place n l on =
      let k = goes_stays g n l (outcome_asked name place l) (outcome_asked_stays g n name place l on) in
      record { goes = k; tells = λ w h. answer_wider g w (w ++ under n l.session k.more) name (outcome_now place l) (wider_more w (under n l.session k.more)) (outcome_now_stands g n name place l w on h) }

  awaiting_keeps_as : (c : Bool) (n : ℕ) (t : Timer) (token : DeliveryToken) (r : LinkReply) (u : State) → I (Some n) u → I (Some n) (answering t.name r u)
      → I (Some n) (if c then waiting_for t (Outcome token) n u else waiting_no_more n (answering t.name r u))
  awaiting_keeps_as true n t token r u k j = timed_stand g gave (Some n) n _ u tt k
  awaiting_keeps_as false n t token r u k j = untimed_stand g gave (Some n) n (answering t.name r u) j

  awaiting_keeps_at : (o : Option Called) (n : ℕ) (t : Timer) (token : DeliveryToken) (s : State) → link_of n s ≡ o → IsOn g.asked t.name n → I (Some n) s → I (Some n) (awaiting_at o n t token s)
  awaiting_keeps_at None n t token s at on k = k
  awaiting_keeps_at (Some l) n t token s at on k =
      let m = outcome_asked t.name token.place l in
      let a = outcome_tells t.name token.place n l on in
      awaiting_keeps_as (is_pending (outcome_now token.place l)) n t token (outcome_now token.place l) (with_link n m s) (link_goes g gave n l m s at a.goes k) (link_tells g gave n l m t.name (outcome_now token.place l) s at a k)

  unsent_keeps : (o : Option ℕ) (c : Bool) (name n : ℕ) (r : LinkReply) (u : State) → I o u → I o (answering name r u) → I o (if c then u else waiting_no_more n (answering name r u))
  unsent_keeps o true name n r u k j = k
  unsent_keeps o false name n r u k j = untimed_stand g gave o n (answering name r u) j

  tried_keeps : (o : Option DeliveryToken) (n : ℕ) (t : Timer) (x : Sendable) (l : Called) (s : State) → link_of n s ≡ Some l → token_of x l.side ≡ o → IsSending g t.name n x → I (Some n) s
      → I (Some n) (tried o (sends x l.side).reply n t (with_link n (having_sent x l) s))
  tried_keeps None n t x l s at e asked k =
      let a = sending_goes g n t.name x asked l in
      unsent_keeps (Some n) (is_pending (sends x l.side).reply) t.name n (sends x l.side).reply (with_link n (having_sent x l) s) (link_goes g gave n l (having_sent x l) s at a.goes k)
      (link_tells g gave n l (having_sent x l) t.name (sends x l.side).reply s at (record { goes = a.goes; tells = a.tells }) k)
  tried_keeps (Some token) n t x l s at e asked k =
      let a = sending_goes g n t.name x asked l in
      let u = with_link n (having_sent x l) s in
      let v = answering t.name reply.Sent u in
      let j : I (Some n) v = link_tells g gave n l (having_sent x l) t.name reply.Sent s at (record { goes = a.goes; tells = λ w h. a.sent w token e }) k in
      let i : I (Some n) (answering t.name reply.Sent (send_kept t.name n (Some token) u)) = kept_stand g gave (Some n) t.name n (Some token) v (asked_over t.name n x asked) j in
      let z = answering t.name reply.Sent (send_kept t.name n (Some token) u) in
      awaiting_keeps_at (link_of n z) n t token z refl (sending_on g t.name n x asked) i

  trying_keeps_at : (o : Option Called) (n : ℕ) (t : Timer) (x : Sendable) (s : State) → link_of n s ≡ o → IsSending g t.name n x → I (Some n) s → I (Some n) (trying_at o n t x s)
  trying_keeps_at None n t x s at asked k = k
  trying_keeps_at (Some l) n t x s at asked k = tried_keeps (token_of x l.side) n t x l s at refl asked k

  trying_keeps : (o : Option (Timer × Sendable)) (n : ℕ) (s : State) → ((y : Timer × Sendable) → o ≡ Some y → IsSending g y.0.name n y.1) → I (Some n) s → I (Some n) (trying o n s)
  trying_keeps None n s f k = k
  trying_keeps (Some y) n s f k = trying_keeps_at (link_of n s) n y.0 y.1 s refl (f y refl) k

  none_message : (y : Timer × Sendable) (P : Type 0) → None ≡ Some y → P
  none_message y P h = absurd cc

  some_message : (a y : Timer × Sendable) → Some a ≡ Some y → a ≡ y
  some_message a y h = cc

  message_asked : (a : Awaited) (t : Timer) (n : ℕ) (y : Timer × Sendable) → TimedStands g (n, record { timer = t; awaited = a }) → message_of t a ≡ Some y → IsSending g y.0.name n y.1
  message_asked (Credit x) t n y h e = subst (λ (z : Timer × Sendable). IsSending g z.0.name n z.1) (some_message (t, x) y e) (inr h)
  message_asked (Outcome token) t n y h e = none_message y _ e
  message_asked Detach t n y h e = none_message y _ e

  message_if : (c : Bool) (x : TimedCall) (n : ℕ) (y : Timer × Sendable) → TimedStands g (n, x) → (if c then message_of x.timer x.awaited else None) ≡ Some y → IsSending g y.0.name n y.1
  message_if true x n y h e = message_asked x.awaited x.timer n y h e
  message_if false x n y h e = none_message y _ e

  message_at : (always : Bool) (o : Option TimedCall) (n now : ℕ) (y : Timer × Sendable) → ((x : TimedCall) → o ≡ Some x → TimedStands g (n, x)) → message_for always o now ≡ Some y → IsSending g y.0.name n y.1
  message_at always None n now y h e = none_message y _ e
  message_at always (Some x) n now y h e = message_if (always || not (is_due x.timer now)) x n y (h x refl) e

  message_stands : (o : Option ℕ) (always : Bool) (n : ℕ) (s : State) → I o s → (y : Timer × Sendable) → message_for always (timed_of n s) s.moment ≡ Some y → IsSending g y.0.name n y.1
  message_stands o always n s k y e = message_at always (timed_of n s) n s.moment y (λ x h. all_found (TimedStands g) n x s.timed h k.stands.timed) e

  pub tried_again_keeps : (always : Bool) (n : ℕ) (s : State) → I (Some n) s → I (Some n) (tried_again always n s)
  tried_again_keeps always n s k = trying_keeps (message_for always (timed_of n s) s.moment) n s (message_stands (Some n) always n s k) k

  -- ---- a session has stopped

  same_side : (x : Sendable) (n : ℕ) (l : Called) → is_stopped l.side ≡ true → Stays g n l (having_sent x l)
  same_side x n l h = subst (λ (a : Side). Stays g n l (with_side a l)) (sym (stopped_side g n x l.side h)) (stays_same g n l)

  stopped_trying : (o : Option Called) (n : ℕ) (t : Timer) (x : Sendable) (s : State) → link_of n s ≡ o → ((l : Called) → o ≡ Some l → is_stopped l.side ≡ true) → IsSending g t.name n x → I None s → I None (trying_at o n t x s)
  stopped_trying None n t x s at h asked k = k
  stopped_trying (Some l) n t x s at h asked k =
      let u = with_link n (having_sent x l) s in
      let r = (sends x l.side).reply in
      let own = k.stands.links n l at in
      let j : I None u = link_stays g gave None n l (having_sent x l) s at (same_side x n l (h l refl)) k in
      subst (λ (o : Option DeliveryToken). I None (tried o r n t u)) (sym (stopped_token g n x l.side (h l refl)))
      (unsent_keeps None (is_pending r) t.name n r u j (plain None t.name r u (λ v. stopped_stands g n t.name x l.side (k.written ++ []) v asked (h l refl) own.link) j))

  stopped_message : (o : Option (Timer × Sendable)) (n : ℕ) (s : State) → ((l : Called) → link_of n s ≡ Some l → is_stopped l.side ≡ true) → ((y : Timer × Sendable) → o ≡ Some y → IsSending g y.0.name n y.1) → I None s → I None (trying o n s)
  stopped_message None n s h f k = k
  stopped_message (Some y) n s h f k = stopped_trying (link_of n s) n y.0 y.1 s refl (λ l e. h l e) (f y refl) k

  pub tried_stopped : (n : ℕ) (s : State) → ((l : Called) → link_of n s ≡ Some l → is_stopped l.side ≡ true) → I None s → I None (tried_again true n s)
  tried_stopped n s h k = stopped_message (message_for true (timed_of n s) s.moment) n s h (message_stands None true n s k) k

  -- ---- a time that is over

  elapsed_keeps_if : (o : Option ℕ) (c : Bool) (name : ℕ) (s : State) → I o s → I o (elapsed_if c name s)
  elapsed_keeps_if o c name s k = either (I o) c _ s (plain o name reply.Elapsed s (λ w. tt) k) k

  outcome_elapsed_keeps : (q : Option Called) (o : Option ℕ) (name n : ℕ) (token : DeliveryToken) (s : State) → link_of n s ≡ q → I o s → I o (outcome_elapsed q name n token s)
  outcome_elapsed_keeps None o name n token s at k = k
  outcome_elapsed_keeps (Some l) o name n token s at k =
      let m = outcome_given_up name token.place l in
      elapsed_keeps_if o (awaits_outcome name token.place l) name (with_link n m s) (link_stays g gave o n l m s at (outcome_given_up_stays g n name token.place l) k)

  part_elapsed_keeps : (q : Option Called) (o : Option ℕ) (name n : ℕ) (s : State) → link_of n s ≡ q → I o s → I o (part_elapsed q name n s)
  part_elapsed_keeps None o name n s at k = k
  part_elapsed_keeps (Some l) o name n s at k =
      let m = part_given_up name l in
      elapsed_keeps_if o (awaits_part name l.parting) name (with_link n m s) (link_stays g gave o n l m s at (part_given_up_stays g n name l) k)

  elapsed_keeps : (x : Awaited) (name n : ℕ) (s : State) → I None s → I None (elapsed x name n s)
  elapsed_keeps (Credit message) name n s k = plain None name reply.Elapsed s (λ w. tt) k
  elapsed_keeps (Outcome token) name n s k = outcome_elapsed_keeps (link_of n s) None name n token s refl k
  elapsed_keeps Detach name n s k = part_elapsed_keeps (link_of n s) None name n s refl k

  looked_keeps_at : (n : ℕ) (x : TimedCall) (s : State) → TimedStands g (n, x) → I None s → I None (looked_at n x s)
  looked_keeps_at n x s t k = either (I None) (is_due x.timer s.moment) _ _ (elapsed_keeps x.awaited x.timer.name n s k) (timed_stand g gave None n x s t k)

  all_looked_keep : (cs : List (ℕ × TimedCall)) (s : State) → All (TimedStands g) cs → I None s → I None (all_looked cs s)
  all_looked_keep [] s t k = k
  all_looked_keep (c ∷ cs) s t k =
      all_looked_keep cs (looked_at c.0 c.1 s) (All-tail (TimedStands g) c cs t) (looked_keeps_at c.0 c.1 s (All-head (TimedStands g) c cs t) k)

  pub looked_keeps : (s : State) → I None s → I None (looked s)
  looked_keeps s k = all_looked_keep s.timed (record s { timed = [] }) k.stands.timed (none_timed g gave s k)

  -- ---- the calls

  waiting_told_keeps : (o : Option ℕ) (c : Bool) (name n : ℕ) (s : State) → I o s → I o (waiting_told c name n s)
  waiting_told_keeps o true name n s k = untimed_stand g gave o n (answering name reply.Elapsed s) (plain o name reply.Elapsed s (λ w. tt) k)
  waiting_told_keeps o false name n s k = plain o name reply.Pending s (λ w. tt) k

  told_waiting_keeps : (q : Option (ℕ × Bool)) (o : Option ℕ) (n : ℕ) (s : State) → I o s → I o (told_waiting_as q n s)
  told_waiting_keeps None o n s k = k
  told_waiting_keeps (Some x) o n s k = waiting_told_keeps o x.1 x.0 n s k

  pub timed_sending_keeps : (name n : ℕ) (x : Sendable) (duration : ℕ) (s : State) → Contains g.asked (name, call.SendTimed n x duration) → I None s → I None (timed_sending name n x duration s)
  timed_sending_keeps name n x duration s asked k =
      let a = waiting_for (timer name duration s) (Credit x) n s in
      let b = tried_again true n a in
      let c = told_waiting n b in
      taken_keeps n c (told_waiting_keeps (waiting_send (timed_of n b) b.moment) (Some n) n b (tried_again_keeps true n a (opens g gave n a (timed_stand g gave None n _ s (duration, asked) k))))

  waiting_part_keeps : (o : Option ℕ) (t : Timer) (n : ℕ) (s : State) → I o s → I o (waiting_part t n s)
  waiting_part_keeps o t n s k =
      either (I o) (is_due t s.moment) _ _ (part_elapsed_keeps (link_of n s) o t.name n s refl k) (timed_stand g gave o n _ (answering t.name reply.Pending s) tt (plain o t.name reply.Pending s (λ w. tt) k))

  pub part_told_keeps : (q : Option ℕ) (o : Option ℕ) (r : LinkReply) (name n : ℕ) (s : State) → I o s → I o (answering name r s) → I o (part_told q r name n s)
  part_told_keeps None o r name n s k j = j
  part_told_keeps (Some duration) o r name n s k j = either (I o) (is_pending r) _ _ (waiting_part_keeps o (timer name duration s) n s k) j
