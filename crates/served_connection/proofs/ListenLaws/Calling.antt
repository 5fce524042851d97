-- Calls on links, of which one that receives may give a delivery that has waited.
use Rattle.std.specs.Prelude.{◌≡◌, ◌≤◌, ◌+◌, ℕ, Bool, true, false, List, [], ◌∷◌, ◌++◌, map, Option, Some, None, refl}
use Rattle.std.proofs.Common.{sym, subst, arith}
use Rattle.amqp_composites.specs.declared.modes.Role.TheVariants as role
use Rattle.amqp_delivery.specs.declared.info.DeliveryInfo.{DeliveryInfo}
use Rattle.amqp_delivery.specs.declared.info.DisposerView.{DisposerView}
use Rattle.amqp_sender.specs.declared.sender.DeliveryToken.{DeliveryToken}
use Rattle.amqp_link_calls.specs.Answering as known
use Rattle.amqp_link_calls.specs.Called.{Called, with_side}
use Rattle.amqp_link_calls.specs.Calling.{Receives, sends, token_of, having_sent, outcome_asked, having_received, disposes, sets_credit}
use Rattle.amqp_link_calls.specs.Disposers.{view_of, disposes_by, settles, settles_at_once}
use Rattle.amqp_link_calls.specs.Leaving.{leaves}
use Rattle.amqp_link_calls.specs.Regulating.{regulates}
use Rattle.amqp_link_words.specs.declared.link_call.Disposal.{Disposal}
use Rattle.amqp_link_words.specs.declared.link_call.Parting.{Parting}
use Rattle.amqp_link_words.specs.declared.link_call.Sendable.{Sendable}
use Rattle.amqp_link_words.specs.declared.link_reply.LinkReply.{LinkReply}
use Rattle.amqp_link_words.specs.declared.regulation.Regulation.{Regulation}
use Rattle.amqp_session_links.specs.Claims.{spending}
use Rattle.amqp_links.specs.declared.links.KeptDisposer.{KeptDisposer}
use Rattle.amqp_links.specs.declared.links.SentDelivery.{SentDelivery}
use Rattle.amqp_links.specs.Calling.{sending_at, outcome_at, outcome_for, info_of, delivery_kept, received_with, ReceivesAt, disposing_at, disposing, crediting_at, credit_at}
use Rattle.amqp_links.specs.Disposers.{infos_of, disposer_kept, disposer_made, disposing_with, disposing_by}
use Rattle.amqp_links.specs.Leaving.{is_leaving, spent_if, timeout_of, leaving_at}
use Rattle.amqp_links.specs.Numbering.{left_at, given_left, disposed_at, all_left, is_done, disposed_left}
use Rattle.amqp_links.specs.Parts.{name_of}
use Rattle.amqp_links.specs.Regulating.{regulating_at}
use Rattle.amqp_links.specs.State.{State, link_of, with_link, answering}
use Rattle.amqp_links.specs.Taking.{taken_up, finished}
use Rattle.amqp_links.specs.Timing.{send_kept, part_told}
use Rattle.amqp_link_calls.specs.Side.{credit_of}
use Rattle.amqp_link_words.specs.declared.link_reply.LinkReply.TheVariants as reply
use Rattle.link_lives.proofs.Sides.{disposes_lives, disposes_by_lives, credit_lives, regulates_lives}
use Rattle.link_lives.proofs.Called.{went_side, outcome_asked_went, leaves_went}
use Rattle.served_connection.proofs.ListenLaws.Weights.{is_given, of_side, of_links}
use Rattle.served_connection.proofs.ListenLaws.Moves.{receives_give}
use Rattle.served_connection.proofs.ListenLaws.Quiet.{outcome_now_gives, sends_gives, disposes_gives, disposes_by_gives, sets_credit_gives, regulates_gives, leaves_gives, outcome_asked_quiet, leaves_quiet}
use Rattle.served_connection.proofs.ListenLaws.Going.{Falls, Grows, falls_then, grows_behind, falls_same, falls_still, falls_answers, link_stays, link_lowers, place_stays}
use Rattle.served_connection.proofs.ListenLaws.Taking.{taken_falls, finished_falls, finished_grows}
use Rattle.served_connection.proofs.ListenLaws.Timing.{having_sent_falls, kept_falls, part_told_falls}
use Rattle.served_connection.proofs.ListenLaws.Hearing.{forgetting_falls}

pub sending_falls : (o : Option Called) (name link : ℕ) (x : Sendable) (s : State) → link_of link s ≡ o → Falls s (sending_at o name link x s)
sending_falls None name link x s at = falls_still s
sending_falls (Some l) name link x s at =
    let a = with_link link (having_sent x l) s in
    let b = send_kept name link (token_of x l.side) a in
    let m = sends x l.side in
    falls_then s a (finished name link m.reply b) (having_sent_falls link x l s at)
    (falls_then a b (finished name link m.reply b) (kept_falls name link (token_of x l.side) a) (finished_falls name link m.reply b (sends_gives x l.side)))

outcome_falls_at : (o : Option Called) (name link : ℕ) (token : DeliveryToken) (s : State) → link_of link s ≡ o → Falls s (outcome_at o name link token s)
outcome_falls_at None name link token s at = falls_still s
outcome_falls_at (Some l) name link token s at =
    let a = with_link link (outcome_asked name token.place l) s in
    let x = known.outcome_now token.place l in
    falls_then s a (finished name link x a) (link_stays link l (outcome_asked name token.place l) [] s a at (outcome_asked_went name token.place l) (outcome_asked_quiet name token.place l) refl refl refl)
    (finished_falls name link x a (outcome_now_gives token.place l))

pub outcome_falls : (o : Option SentDelivery) (name : ℕ) (s : State) → Falls s (outcome_for o name s)
outcome_falls None name s = falls_still s
outcome_falls (Some x) name s = outcome_falls_at (link_of x.link s) name x.link x.token s refl

-- ---- receiving

delivery_falls : (name link : ℕ) (o : Option DeliveryInfo) (s : State) → Falls s (delivery_kept name link o s)
delivery_falls name link None s = falls_still s
delivery_falls name link (Some info) s = falls_same s (delivery_kept name link (Some info) s) refl refl refl

left_falls_at : (o : Option Called) (info : DeliveryInfo) (s : State) → Falls s (left_at o info s)
left_falls_at None info s = falls_still s
left_falls_at (Some l) info s = forgetting_falls (settles_at_once info l.side) role.Sender l.session info.delivery_id s

given_left_falls : (link : ℕ) (o : Option DeliveryInfo) (s : State) → Falls s (given_left link o s)
given_left_falls link None s = falls_still s
given_left_falls link (Some info) s = left_falls_at (link_of link s) info s

-- a delivery that is given waits no more
received_falls : (answer : LinkReply) (l : Called) (name link : ℕ) (s : State) → link_of link s ≡ Some l → Receives answer l.side → Falls s (received_with answer l name link s)
received_falls answer l name link s at r =
    let n = is_given answer in
    let m = with_side (having_received answer l.side) l in
    let a = with_link link m s in
    let b = delivery_kept name link (info_of answer) a in
    let c = given_left link (info_of answer) b in
    let h : n + of_side (having_received answer l.side) ≤ of_side l.side = receives_give answer l.side r in
    let low : of_links a + n ≤ of_links s = link_lowers n link l m s at (omega (arith, h)) in
    let kept = falls_then a b c (delivery_falls name link (info_of answer) a) (given_left_falls link (info_of answer) b) in
    let g : Grows n a (finished name link answer c) = grows_behind n a c (finished name link answer c) kept (finished_grows name link answer c) in
    omega (arith, low, g)

pub receives_falls : (o : Option Called) (name link : ℕ) (old new : State) → link_of link old ≡ o → ReceivesAt o name link old new → Falls old new
receives_falls None name link old new at r = subst (λ s. Falls old s) (sym r) (falls_still old)
receives_falls (Some l) name link old new at r = subst (λ s. Falls old s) (sym r.1.1) (received_falls r.0 l name link old at r.1.0)

-- ---- settling

disposed_falls_at : (o : Option Called) (info : DeliveryInfo) (s : State) → Falls s (disposed_at o info s)
disposed_falls_at None info s = falls_still s
disposed_falls_at (Some l) info s = forgetting_falls (settles info l.side) role.Sender l.session info.delivery_id s

all_left_fall : (link : ℕ) (xs : List DeliveryInfo) (s : State) → Falls s (all_left link xs s)
all_left_fall link [] s = falls_still s
all_left_fall link (x ∷ xs) s =
    let t = disposed_at (link_of link s) x s in falls_then s t (all_left link xs t) (disposed_falls_at (link_of link s) x s) (all_left_fall link xs t)

disposed_left_falls : (b : Bool) (link : ℕ) (xs : List DeliveryInfo) (s : State) → Falls s (disposed_left b link xs s)
disposed_left_falls true link xs s = all_left_fall link xs s
disposed_left_falls false link xs s = falls_still s

disposing_falls_at : (o : Option Called) (name link : ℕ) (x : Disposal) (infos : List DeliveryInfo) (s : State) → link_of link s ≡ o → Falls s (disposing_at o name link x infos s)
disposing_falls_at None name link x infos s at = falls_still s
disposing_falls_at (Some l) name link x infos s at =
    let m = disposes x infos l.side in
    let a = with_link link (with_side m.side l) s in
    let b = disposed_left (is_done m.reply) link infos a in
    falls_then s a (finished name link m.reply b) (link_stays link l (with_side m.side l) [] s a at (went_side l m.side [] [] (disposes_lives l.session x infos l.side)) refl refl refl refl)
    (falls_then a b (finished name link m.reply b) (disposed_left_falls (is_done m.reply) link infos a) (finished_falls name link m.reply b (disposes_gives x infos l.side)))

pub disposing_falls : (name link : ℕ) (x : Disposal) (ns : List ℕ) (s : State) → Falls s (disposing name link x ns s)
disposing_falls name link x ns s = disposing_falls_at (link_of link s) name link x (infos_of ns s.deliveries) s refl

pub crediting_falls : (o : Option Called) (name link credit : ℕ) (s : State) → link_of link s ≡ o → Falls s (crediting_at o name link credit s)
crediting_falls None name link credit s at = falls_still s
crediting_falls (Some l) name link credit s at =
    let m = sets_credit credit l.side in
    let a = with_link link (with_side m.side l) s in
    falls_then s a (finished name link m.reply a) (link_stays link l (with_side m.side l) [] s a at (went_side l m.side [] [] (credit_lives l.session credit l.side)) refl refl refl refl)
    (finished_falls name link m.reply a (sets_credit_gives credit l.side))

pub credit_falls : (o : Option Called) (name : ℕ) (s : State) → Falls s (credit_at o name s)
credit_falls None name s = falls_still s
credit_falls (Some l) name s = falls_answers name (reply.Credit (credit_of l.side)) s refl

pub regulating_falls : (o : Option Called) (name link : ℕ) (x : Regulation) (s : State) → link_of link s ≡ o → Falls s (regulating_at o name link x s)
regulating_falls None name link x s at = falls_still s
regulating_falls (Some l) name link x s at =
    let m = regulates x l.side in
    let a = with_link link (with_side m.side l) s in
    let b = answering name m.reply a in
    falls_then s a (taken_up link b) (link_stays link l (with_side m.side l) [] s a at (went_side l m.side [] [] (regulates_lives l.session x l.side)) refl refl refl refl)
    (falls_then a b (taken_up link b) (falls_answers name m.reply a (regulates_gives x l.side)) (taken_falls link b))

disposer_falls_kept : (o : Option DisposerView) (name link : ℕ) (s : State) → Falls s (disposer_kept o name link s)
disposer_falls_kept None name link s = falls_still s
disposer_falls_kept (Some view) name link s = falls_answers name reply.Disposer s refl

pub disposer_falls : (o : Option Called) (name link : ℕ) (s : State) → Falls s (disposer_made o name link s)
disposer_falls None name link s = falls_still s
disposer_falls (Some l) name link s = disposer_falls_kept (view_of l.side) name link s

disposing_falls_with : (o : Option Called) (name : ℕ) (x : KeptDisposer) (y : Disposal) (infos : List DeliveryInfo) (s : State) → link_of x.link s ≡ o → Falls s (disposing_with o name x y infos s)
disposing_falls_with None name x y infos s at = falls_still s
disposing_falls_with (Some l) name x y infos s at =
    let m = disposes_by x.view y infos l.side in
    let a = with_link x.link (with_side m.side l) s in
    let b = disposed_left (is_done m.reply) x.link infos a in
    let c = answering name m.reply b in
    falls_then s a (taken_up x.link c) (link_stays x.link l (with_side m.side l) [] s a at (went_side l m.side [] [] (disposes_by_lives l.session x.view y infos l.side)) refl refl refl refl)
    (falls_then a b (taken_up x.link c) (disposed_left_falls (is_done m.reply) x.link infos a)
    (falls_then b c (taken_up x.link c) (falls_answers name m.reply b (disposes_by_gives x.view y infos l.side)) (taken_falls x.link c)))

pub disposing_by_falls : (o : Option KeptDisposer) (name : ℕ) (y : Disposal) (delivery : ℕ) (s : State) → Falls s (disposing_by o name y delivery s)
disposing_by_falls None name y delivery s = falls_still s
disposing_by_falls (Some x) name y delivery s = disposing_falls_with (link_of x.link s) name x y (infos_of (delivery ∷ []) s.deliveries) s refl

-- ---- leaving

spent_falls : (b : Bool) (session : ℕ) (name : List ℕ) (s : State) → Falls s (spent_if b session name s)
spent_falls true session name s = place_stays session (spending name) s (λ p. refl)
spent_falls false session name s = falls_still s

pub leaving_falls : (o : Option Called) (name link : ℕ) (x : Parting) (s : State) → link_of link s ≡ o → Falls s (leaving_at o name link x s)
leaving_falls None name link x s at = falls_still s
leaving_falls (Some l) name link x s at =
    let m = leaves name x l in
    let a = with_link link m.called s in
    let b = spent_if (is_leaving x) l.session (name_of l) a in
    let c = part_told (timeout_of x) m.reply name link b in
    falls_then s a (taken_up link c) (link_stays link l m.called [] s a at (leaves_went name x l) (leaves_quiet name x l) refl refl refl)
    (falls_then a b (taken_up link c) (spent_falls (is_leaving x) l.session (name_of l) a)
    (falls_then b c (taken_up link c) (part_told_falls (timeout_of x) m.reply name link b (leaves_gives name x l)) (taken_falls link c)))
