-- Calls for links: the links stand for what has passed.
use Rattle.std.specs.Prelude.{◌≡◌, ℕ, nat_eq, Bool, true, false, Contains, List, [], ◌∷◌, ◌++◌, Option, Some, None, refl}
use Rattle.std.proofs.Common.{sym, subst}
use Rattle.std.specs.Map.{lookup}
use Rattle.amqp_composites.specs.declared.modes.Role.TheVariants as role
use Rattle.amqp_delivery.specs.declared.info.DeliveryInfo.{DeliveryInfo}
use Rattle.amqp_delivery.specs.declared.info.DisposerView.{DisposerView}
use Rattle.amqp_link_calls.specs.Answering.{outcome_now}
use Rattle.amqp_link_calls.specs.Called.{Called, with_side, sender_asked, receiver_asked}
use Rattle.amqp_link_calls.specs.Calling.{Receives, sends, token_of, having_sent, outcome_asked, having_received, disposes, sets_credit}
use Rattle.amqp_link_calls.specs.Disposers.{view_of, disposes_by, settles, settles_at_once}
use Rattle.amqp_link_calls.specs.Leaving.{leaves}
use Rattle.amqp_link_calls.specs.Regulating.{regulates}
use Rattle.amqp_link_calls.specs.Side.{Side}
use Rattle.amqp_link_words.specs.declared.link_call.Disposal.{Disposal}
use Rattle.amqp_link_words.specs.declared.link_call.LinkCall.{LinkCall}
use Rattle.amqp_link_words.specs.declared.link_call.LinkCall.TheVariants as call
use Rattle.amqp_link_words.specs.declared.link_call.Parting.{Parting}
use Rattle.amqp_link_words.specs.declared.link_call.Sendable.{Sendable}
use Rattle.amqp_link_words.specs.declared.link_reply.LinkReply.{LinkReply}
use Rattle.amqp_link_words.specs.declared.link_reply.LinkReply.TheVariants as reply
use Rattle.amqp_link_words.specs.declared.regulation.Regulation.{Regulation}
use Rattle.amqp_links.specs.declared.links.KeptDisposer.{KeptDisposer}
use Rattle.amqp_links.specs.declared.links.SentDelivery.{SentDelivery}
use Rattle.amqp_links.specs.Attaching.{claimed, standing, begun, sender_by, attaching_sender, receiver_by, attaching_receiver}
use Rattle.amqp_links.specs.Calling.{Calls, sending_at, outcome_at, outcome_for, info_of, delivery_kept, received_with, ReceivesAt, disposing_at, crediting_at, credit_at, waiting_as}
use Rattle.amqp_links.specs.Disposers.{infos_of, disposer_kept, disposer_made, disposing_with, disposing_by}
use Rattle.amqp_links.specs.Leaving.{is_leaving, spent_if, timeout_of, leaving_at}
use Rattle.amqp_links.specs.Numbering.{left_at, given_left, disposed_at, all_left, is_done, disposed_left}
use Rattle.amqp_links.specs.Parts.{name_of, output_of}
use Rattle.amqp_links.specs.Regulating.{regulating_at}
use Rattle.amqp_links.specs.State.{State, place_of, link_of, with_link, at_place, entered, answering}
use Rattle.amqp_links.specs.Taking.{finished}
use Rattle.amqp_links.specs.Timing.{send_kept, part_told}
use Rattle.amqp_receiver.specs.declared.settings.ReceiverSettings.{ReceiverSettings}
use Rattle.amqp_sender.specs.declared.sender.DeliveryToken.{DeliveryToken}
use Rattle.amqp_sender.specs.declared.settings.SenderSettings.{SenderSettings}
use Rattle.amqp_session_links.specs.declared.place.Claim.{Claim}
use Rattle.amqp_session_links.specs.declared.place.Claim.TheVariants.{Handle, Refused}
use Rattle.amqp_session_links.specs.Claims.{spending}
use Rattle.amqp_session_links.specs.State.{awaiting_answer}
use Rattle.link_answers.specs.Standing.{Given, Written, IsSendOver, IsOn, Stands}
use Rattle.link_answers.specs.Keeping.{HasAsked, CalledStands, SentStands}
use Rattle.link_answers.proofs.Called.{side_goes}
use Rattle.link_answers.proofs.Calls.{sending_goes, leaves_tells, received_stands, disposes_stands, disposes_by_stands, sets_credit_stands, regulates_stands}
use Rattle.link_answers.proofs.Entries.{all_found}
use Rattle.link_answers.proofs.Links.{under}
use Rattle.link_answers.proofs.Making.{sender_asked_stands, receiver_asked_stands}
use Rattle.link_answers.proofs.Places as step
use Rattle.link_answers.proofs.Sides.{Changes, received_changes, disposes_changes, disposes_by_changes, credit_changes, regulates_changes}
use Rattle.link_answers.proofs.States.{Before, others_stand, kept_stand, entered_stand, opens, link_goes, link_tells, makes}
use Rattle.link_answers.proofs.Walks.{answers_apart, kept_apart, I, steps_place, plain, taken_keeps, outcome_tells, timed_sending_keeps, part_told_keeps}
use Rattle.link_answers.proofs.Hearing.{ClaimStands, claim_stands, claimed_keeps, forgetting_keeps, accepting_keeps}
use Rattle.std.proofs.Common.{inl}

module _ (g : Given) (gave : Before) where
  -- a call of which nothing is said is answered
  finished_keeps : (name n : ℕ) (r : LinkReply) (s : State) → ((w : List Written) → Stands g w name r) → I g gave (Some n) s → I g gave None (finished name n r s)
  finished_keeps name n r s f k = taken_keeps g gave n (answering name r s) (plain g gave (Some n) name r s f k)

  -- a link goes on by a change of its side
  changes_keep : (n : ℕ) (l : Called) (t : Side) (s : State) → link_of n s ≡ Some l → Changes g n l.session l.side t → I g gave None s → I g gave (Some n) (with_link n (with_side t l) s)
  changes_keep n l t s at c k = link_goes g gave n l (with_side t l) s at (side_goes g n l t c) (opens g gave n s k)

  -- ---- sending

  over : (name n : ℕ) (x : Sendable) → Contains g.asked (name, call.Send n x) → HasAsked g name (IsSendOver n)
  over name n x a = (call.Send n x, (refl, a))

  sending_keeps : (o : Option Called) (name n : ℕ) (x : Sendable) (s : State) → link_of n s ≡ o → Contains g.asked (name, call.Send n x) → I g gave None s → I g gave None (sending_at o name n x s)
  sending_keeps None name n x s at a k = k
  sending_keeps (Some l) name n x s at a k =
      let r = (sends x l.side).reply in
      let t = token_of x l.side in
      let u = with_link n (having_sent x l) s in
      let b = sending_goes g n name x (inl a) l in
      let j : I g gave (Some n) (answering name r u) = link_tells g gave n l (having_sent x l) name r s at (record { goes = b.goes; tells = b.tells }) (opens g gave n s k) in
      let i : I g gave (Some n) (send_kept name n t (answering name r u)) = kept_stand g gave (Some n) name n t (answering name r u) (over name n x a) j in
      taken_keeps g gave n (answering name r (send_kept name n t u)) (subst (I g gave (Some n)) (sym (kept_apart t name n name r u)) i)

  outcome_keeps_at : (o : Option Called) (name n : ℕ) (token : DeliveryToken) (s : State) → link_of n s ≡ o → IsOn g.asked name n → I g gave None s → I g gave None (outcome_at o name n token s)
  outcome_keeps_at None name n token s at on k = k
  outcome_keeps_at (Some l) name n token s at on k =
      let m = outcome_asked name token.place l in
      let r = outcome_now token.place l in
      taken_keeps g gave n (answering name r (with_link n m s)) (link_tells g gave n l m name r s at (outcome_tells g gave name token.place n l on) (opens g gave n s k))

  outcome_keeps : (o : Option SentDelivery) (name send : ℕ) (s : State) → ((x : SentDelivery) → o ≡ Some x → SentStands g (send, x)) → Contains g.asked (name, call.Outcome send) → I g gave None s → I g gave None (outcome_for o name s)
  outcome_keeps None name send s f a k = k
  outcome_keeps (Some x) name send s f a k =
      let h = f x refl in outcome_keeps_at (link_of x.link s) name x.link x.token s refl (call.Outcome send, (a, (h.0, (h.1.1, h.1.0)))) k

  -- ---- receiving

  delivery_keeps : (name n : ℕ) (o : Option DeliveryInfo) (s : State) → I g gave (Some n) s → I g gave (Some n) (delivery_kept name n o s)
  delivery_keeps name n None s k = k
  delivery_keeps name n (Some info) s k = others_stand g gave (Some n) s (delivery_kept name n (Some info) s) refl refl refl refl refl refl k

  left_keeps_at : (q : Option ℕ) (o : Option Called) (info : DeliveryInfo) (s : State) → I g gave q s → I g gave q (left_at o info s)
  left_keeps_at q None info s k = k
  left_keeps_at q (Some l) info s k = forgetting_keeps g gave q (settles_at_once info l.side) role.Sender l.session info.delivery_id s k

  given_keeps : (q : Option ℕ) (n : ℕ) (o : Option DeliveryInfo) (s : State) → I g gave q s → I g gave q (given_left n o s)
  given_keeps q n None s k = k
  given_keeps q n (Some info) s k = left_keeps_at q (link_of n s) info s k

  received_keeps : (r : LinkReply) (l : Called) (name n : ℕ) (s : State) → link_of n s ≡ Some l → Contains g.asked (name, call.Recv n) → Receives r l.side → I g gave None s → I g gave None (received_with r l name n s)
  received_keeps r l name n s at asked h k =
      let own = k.stands.links n l at in
      let a = with_link n (with_side (having_received r l.side) l) s in
      let b = delivery_kept name n (info_of r) a in
      finished_keeps name n r (given_left n (info_of r) b) (λ w. received_stands g n r l.side w (k.written ++ []) name (call.Recv n, (asked, refl)) own.link own.outcomes h)
      (given_keeps (Some n) n (info_of r) b (delivery_keeps name n (info_of r) a (changes_keep n l (having_received r l.side) s at (received_changes g n l.session r l.side) k)))

  receives_keep : (o : Option Called) (name n : ℕ) (old new : State) → link_of n old ≡ o → Contains g.asked (name, call.Recv n) → ReceivesAt o name n old new → I g gave None old → I g gave None new
  receives_keep None name n old new at a h k = subst (I g gave None) (sym h) k
  receives_keep (Some l) name n old new at a h k = subst (I g gave None) (sym h.1.1) (received_keeps h.0 l name n old at a h.1.0 k)

  -- ---- settling, and credit

  disposed_keeps_at : (q : Option ℕ) (o : Option Called) (info : DeliveryInfo) (s : State) → I g gave q s → I g gave q (disposed_at o info s)
  disposed_keeps_at q None info s k = k
  disposed_keeps_at q (Some l) info s k = forgetting_keeps g gave q (settles info l.side) role.Sender l.session info.delivery_id s k

  all_left_keep : (q : Option ℕ) (n : ℕ) (xs : List DeliveryInfo) (s : State) → I g gave q s → I g gave q (all_left n xs s)
  all_left_keep q n [] s k = k
  all_left_keep q n (x ∷ xs) s k = all_left_keep q n xs (disposed_at (link_of n s) x s) (disposed_keeps_at q (link_of n s) x s k)

  disposed_keeps : (q : Option ℕ) (c : Bool) (n : ℕ) (xs : List DeliveryInfo) (s : State) → I g gave q s → I g gave q (disposed_left c n xs s)
  disposed_keeps q true n xs s k = all_left_keep q n xs s k
  disposed_keeps q false n xs s k = k

  disposing_keeps : (o : Option Called) (name n : ℕ) (x : Disposal) (infos : List DeliveryInfo) (s : State) → link_of n s ≡ o → I g gave None s → I g gave None (disposing_at o name n x infos s)
  disposing_keeps None name n x infos s at k = k
  disposing_keeps (Some l) name n x infos s at k =
      let m = disposes x infos l.side in
      let a = with_link n (with_side m.side l) s in
      finished_keeps name n m.reply (disposed_left (is_done m.reply) n infos a) (λ w. disposes_stands g n x infos l.side w name)
      (disposed_keeps (Some n) (is_done m.reply) n infos a (changes_keep n l m.side s at (disposes_changes g n l.session x infos l.side) k))

  crediting_keeps : (o : Option Called) (name n credit : ℕ) (s : State) → link_of n s ≡ o → I g gave None s → I g gave None (crediting_at o name n credit s)
  crediting_keeps None name n credit s at k = k
  crediting_keeps (Some l) name n credit s at k =
      let m = sets_credit credit l.side in
      finished_keeps name n m.reply _ (λ w. sets_credit_stands g n credit l.side w name) (changes_keep n l m.side s at (credit_changes g n l.session credit l.side) k)

  credit_keeps : (o : Option Called) (name : ℕ) (s : State) → I g gave None s → I g gave None (credit_at o name s)
  credit_keeps None name s k = k
  credit_keeps (Some l) name s k = plain g gave None name _ s (λ w. tt) k

  regulating_keeps : (o : Option Called) (name n : ℕ) (x : Regulation) (s : State) → link_of n s ≡ o → I g gave None s → I g gave None (regulating_at o name n x s)
  regulating_keeps None name n x s at k = k
  regulating_keeps (Some l) name n x s at k =
      let m = regulates x l.side in
      finished_keeps name n m.reply _ (λ w. regulates_stands g n x l.side w name) (changes_keep n l m.side s at (regulates_changes g n l.session x l.side) k)

  disposer_keeps_by : (o : Option DisposerView) (name n : ℕ) (s : State) → I g gave None s → I g gave None (disposer_kept o name n s)
  disposer_keeps_by None name n s k = k
  disposer_keeps_by (Some view) name n s k = plain g gave None name reply.Disposer _ (λ w. tt) (others_stand g gave None s _ refl refl refl refl refl refl k)

  disposer_keeps : (o : Option Called) (name n : ℕ) (s : State) → I g gave None s → I g gave None (disposer_made o name n s)
  disposer_keeps None name n s k = k
  disposer_keeps (Some l) name n s k = disposer_keeps_by (view_of l.side) name n s k

  disposing_keeps_with : (o : Option Called) (name : ℕ) (x : KeptDisposer) (y : Disposal) (infos : List DeliveryInfo) (s : State) → link_of x.link s ≡ o → I g gave None s → I g gave None (disposing_with o name x y infos s)
  disposing_keeps_with None name x y infos s at k = k
  disposing_keeps_with (Some l) name x y infos s at k =
      let m = disposes_by x.view y infos l.side in
      let a = with_link x.link (with_side m.side l) s in
      finished_keeps name x.link m.reply (disposed_left (is_done m.reply) x.link infos a) (λ w. disposes_by_stands g x.link x.view y infos l.side w name)
      (disposed_keeps (Some x.link) (is_done m.reply) x.link infos a (changes_keep x.link l m.side s at (disposes_by_changes g x.link l.session x.view y infos l.side) k))

  disposing_by_keeps : (o : Option KeptDisposer) (name : ℕ) (y : Disposal) (delivery : ℕ) (s : State) → I g gave None s → I g gave None (disposing_by o name y delivery s)
  disposing_by_keeps None name y delivery s k = k
  disposing_by_keeps (Some x) name y delivery s k = disposing_keeps_with (link_of x.link s) name x y (infos_of (delivery ∷ []) s.deliveries) s refl k

  -- ---- leaving

  spent_keeps : (o : Option ℕ) (c : Bool) (session : ℕ) (name : List ℕ) (s : State) → I g gave o s → I g gave o (spent_if c session name s)
  spent_keeps o true session name s k = steps_place g gave o (step.spends name) session s k
  spent_keeps o false session name s k = k

  spent_apart : (c : Bool) (session : ℕ) (text : List ℕ) (name : ℕ) (r : LinkReply) (s : State) → answering name r (spent_if c session text s) ≡ spent_if c session text (answering name r s)
  spent_apart true session text name r s = answers_apart (place_of session s) session (spending text) name r s
  spent_apart false session text name r s = refl

  leaving_keeps : (o : Option Called) (name n : ℕ) (x : Parting) (s : State) → link_of n s ≡ o → Contains g.asked (name, call.Part n x) → I g gave None s → I g gave None (leaving_at o name n x s)
  leaving_keeps None name n x s at a k = k
  leaving_keeps (Some l) name n x s at a k =
      let m = leaves name x l in
      let t = leaves_tells g n name x l a in
      let u = with_link n m.called s in
      let c = is_leaving x in
      let v = spent_if c l.session (name_of l) u in
      let j : I g gave (Some n) u = link_goes g gave n l m.called s at t.goes (opens g gave n s k) in
      let i : I g gave (Some n) (answering name m.reply u) = link_tells g gave n l m.called name m.reply s at t (opens g gave n s k) in
      let h : I g gave (Some n) (answering name m.reply v) = subst (I g gave (Some n)) (sym (spent_apart c l.session (name_of l) name m.reply u)) (spent_keeps (Some n) c l.session (name_of l) (answering name m.reply u) i) in
      taken_keeps g gave n (part_told (timeout_of x) m.reply name n v) (part_told_keeps g gave (timeout_of x) (Some n) m.reply name n v (spent_keeps (Some n) c l.session (name_of l) u j) h)

  -- ---- attaching

  begun_keeps : (name session : ℕ) (l : Called) (s : State) → ((w : List Written) → CalledStands g (w ++ under name l.session (output_of l)) name l) → I g gave None s → I g gave None (begun name session l s)
  begun_keeps name session l s f k =
      let a = standing name l s in
      let c = at_place session (awaiting_answer name) a in
      taken_keeps g gave name (answering name reply.Pending c) (plain g gave (Some name) name reply.Pending c (λ w. tt) (steps_place g gave (Some name) (step.awaits_answer name) session a (makes g gave name l s f k)))

  sender_keeps_by : (c : Claim) (name session : ℕ) (x : SenderSettings) (s : State) → ClaimStands g gave name c → Contains g.asked (name, call.Sender session x) → I g gave None s → I g gave None (sender_by c name session x s)
  sender_keeps_by (Handle handle) name session x s f a k = begun_keeps name session (sender_asked name session x handle) s (λ w. sender_asked_stands g name session x handle w a) k
  sender_keeps_by (Refused e) name session x s f a k = plain g gave None name (reply.SenderAttachError e) s (λ w. f) k

  attaching_sender_keeps : (name session : ℕ) (x : SenderSettings) (max : Option ℕ) (s : State) → Contains g.asked (name, call.Sender session x) → I g gave None s → I g gave None (attaching_sender name session x max s)
  attaching_sender_keeps name session x max s a k =
      let c = claimed session x.name role.Sender name max s in
      sender_keeps_by c.answer name session x c.state (claim_stands g gave session x.name role.Sender name max s) a (claimed_keeps g gave session x.name role.Sender name max s (call.Sender session x, ((refl, (refl, refl)), a)) k)

  receiver_keeps_by : (c : Claim) (name session : ℕ) (x : ReceiverSettings) (s : State) → ClaimStands g gave name c → Contains g.asked (name, call.Receiver session x) → I g gave None s → I g gave None (receiver_by c name session x s)
  receiver_keeps_by (Handle handle) name session x s f a k = begun_keeps name session (receiver_asked name session x handle) s (λ w. receiver_asked_stands g name session x handle w a) k
  receiver_keeps_by (Refused e) name session x s f a k = plain g gave None name (reply.ReceiverAttachError e) s (λ w. f) k

  attaching_receiver_keeps : (name session : ℕ) (x : ReceiverSettings) (max : Option ℕ) (s : State) → Contains g.asked (name, call.Receiver session x) → I g gave None s → I g gave None (attaching_receiver name session x max s)
  attaching_receiver_keeps name session x max s a k =
      let c = claimed session x.name role.Receiver name max s in
      receiver_keeps_by c.answer name session x c.state (claim_stands g gave session x.name role.Receiver name max s) a (claimed_keeps g gave session x.name role.Receiver name max s (call.Receiver session x, ((refl, (refl, refl)), a)) k)

  -- ---- all calls

  is_so : (t new : State) → new ≡ t → I g gave None t → I g gave None new
  is_so t new e k = subst (I g gave None) (sym e) k

  pub call_keeps : (name : ℕ) (x : LinkCall) (max : Option ℕ) (old new : State) → Calls name x max old new → Contains g.asked (name, x) → I g gave None old → I g gave None new
  call_keeps name (call.Sender session settings) max old new h a k = is_so _ new h (attaching_sender_keeps name session settings max (entered session old) a (entered_stand g gave None session old k))
  call_keeps name (call.Receiver session settings) max old new h a k = is_so _ new h (attaching_receiver_keeps name session settings max (entered session old) a (entered_stand g gave None session old k))
  call_keeps name (call.Accept session settings mode auto) max old new h a k =
      is_so _ new h (accepting_keeps g gave session (waiting_as name settings mode auto max) (entered session old) a (entered_stand g gave None session old k))
  call_keeps name (call.Send n message) max old new h a k = is_so _ new h (sending_keeps (link_of n old) name n message old refl a k)
  call_keeps name (call.SendTimed n message timeout) max old new h a k = is_so _ new h (timed_sending_keeps g gave name n message timeout old a k)
  call_keeps name (call.Outcome send) max old new h a k =
      is_so _ new h (outcome_keeps (lookup (nat_eq send) old.sends) name send old (λ x e. all_found (SentStands g) send x old.sends e k.stands.sends) a k)
  call_keeps name (call.Recv n) max old new h a k = receives_keep (link_of n old) name n old new refl a h k
  call_keeps name (call.Dispose n disposal deliveries) max old new h a k = is_so _ new h (disposing_keeps (link_of n old) name n disposal (infos_of deliveries old.deliveries) old refl k)
  call_keeps name (call.SetCredit n credit) max old new h a k = is_so _ new h (crediting_keeps (link_of n old) name n credit old refl k)
  call_keeps name (call.Credit n) max old new h a k = is_so _ new h (credit_keeps (link_of n old) name old k)
  call_keeps name (call.Regulate n regulation) max old new h a k = is_so _ new h (regulating_keeps (link_of n old) name n regulation old refl k)
  call_keeps name (call.Disposer n) max old new h a k = is_so _ new h (disposer_keeps (link_of n old) name n old k)
  call_keeps name (call.DisposeBy disposer disposal delivery) max old new h a k = is_so _ new h (disposing_by_keeps (lookup (nat_eq disposer) old.disposers) name disposal delivery old k)
  call_keeps name (call.Part n parting) max old new h a k = is_so _ new h (leaving_keeps (link_of n old) name n parting old refl a k)
