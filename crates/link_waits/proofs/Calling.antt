-- Calls on links are made, and calls wait as before.
use Rattle.std.specs.Prelude.{◌≡◌, ℕ, Bool, true, false, not, ◌&&◌, is_none, List, [], ◌∷◌, Option, Some, None, refl}
use Rattle.std.proofs.Common.{sym, subst}
use Rattle.amqp_composites.specs.declared.modes.Role.TheVariants as role
use Rattle.amqp_delivery.specs.declared.info.DeliveryInfo.{DeliveryInfo}
use Rattle.amqp_delivery.specs.declared.info.DisposerView.{DisposerView}
use Rattle.amqp_sender.specs.declared.sender.DeliveryToken.{DeliveryToken}
use Rattle.amqp_link_calls.specs.Answering as known
use Rattle.amqp_link_calls.specs.Called.{Called, with_side, stays, is_dropped}
use Rattle.amqp_link_calls.specs.Calling.{sends, token_of, having_sent, outcome_asked, having_received, disposes, sets_credit}
use Rattle.amqp_link_calls.specs.Disposers.{view_of, disposes_by, settles, settles_at_once}
use Rattle.amqp_link_calls.specs.Leaving.{leaves}
use Rattle.amqp_link_calls.specs.Regulating.{regulates}
use Rattle.amqp_link_calls.specs.declared.leave.WaitingPart.{WaitingPart}
use Rattle.amqp_link_words.specs.declared.link_call.Disposal.{Disposal}
use Rattle.amqp_link_words.specs.declared.link_call.Parting.{Parting}
use Rattle.amqp_link_words.specs.declared.link_call.Parting.TheVariants as words
use Rattle.amqp_link_words.specs.declared.link_call.Sendable.{Sendable}
use Rattle.amqp_link_words.specs.declared.link_reply.LinkReply.{LinkReply}
use Rattle.amqp_link_words.specs.declared.regulation.Regulation.{Regulation}
use Rattle.amqp_session_links.specs.Claims.{spending}
use Rattle.amqp_links.specs.declared.links.KeptDisposer.{KeptDisposer}
use Rattle.amqp_links.specs.declared.links.SentDelivery.{SentDelivery}
use Rattle.amqp_links.specs.Calling.{sending_at, outcome_at, outcome_for, info_of, delivery_kept, received_with, ReceivesAt, disposing_at, disposing, crediting_at, credit_at}
use Rattle.amqp_links.specs.Disposers.{infos_of, disposer_kept, disposer_made, disposing_with, disposing_by}
use Rattle.amqp_links.specs.Leaving.{is_leaving, spent_if, timeout_of, leaving_at}
use Rattle.amqp_links.specs.May.{may_leave_at}
use Rattle.amqp_links.specs.Numbering.{left_at, given_left, disposed_at, all_left, is_done, disposed_left}
use Rattle.amqp_links.specs.Parts.{name_of}
use Rattle.amqp_links.specs.Regulating.{regulating_at}
use Rattle.amqp_links.specs.State.{State, link_of, with_link, answering}
use Rattle.amqp_links.specs.Taking.{taken_up, finished}
use Rattle.amqp_links.specs.Timing.{send_kept, part_told}
use Rattle.call_waits.specs.Moves as moves
use Rattle.call_waits.proofs.Moves.{waits_on}
use Rattle.link_waits.proofs.Steps.{Goes, goes_still, goes_then, goes_same, link_goes, place_goes}
use Rattle.link_waits.proofs.Taking.{taken_goes, finished_goes}
use Rattle.link_waits.proofs.Timing.{sent_goes, asked_goes, kept_goes, part_told_goes}
use Rattle.link_waits.proofs.Hearing.{forgetting_goes}

pub sending_goes : (o : Option Called) (name link : ℕ) (x : Sendable) (s : State) → link_of link s ≡ o → Goes s (sending_at o name link x s)
sending_goes None name link x s at = goes_still s
sending_goes (Some l) name link x s at =
    let a = with_link link (having_sent x l) s in
    let b = send_kept name link (token_of x l.side) a in
    let m = sends x l.side in
    goes_then s a (finished name link m.reply b) (sent_goes link x l s at)
    (goes_then a b (finished name link m.reply b) (kept_goes name link (token_of x l.side) a) (finished_goes name link m.reply b))

outcome_by : (o : Option Called) (name link : ℕ) (token : DeliveryToken) (s : State) → link_of link s ≡ o → Goes s (outcome_at o name link token s)
outcome_by None name link token s at = goes_still s
outcome_by (Some l) name link token s at =
    let a = with_link link (outcome_asked name token.place l) s in
    let x = known.outcome_now token.place l in
    goes_then s a (finished name link x a) (asked_goes name token.place link l s at) (finished_goes name link x a)

pub outcome_goes : (o : Option SentDelivery) (name : ℕ) (s : State) → Goes s (outcome_for o name s)
outcome_goes None name s = goes_still s
outcome_goes (Some x) name s = outcome_by (link_of x.link s) name x.link x.token s refl

-- ---- receiving

delivery_goes : (name link : ℕ) (o : Option DeliveryInfo) (s : State) → Goes s (delivery_kept name link o s)
delivery_goes name link None s = goes_still s
delivery_goes name link (Some info) s = goes_same s (delivery_kept name link (Some info) s) refl refl

left_by : (o : Option Called) (info : DeliveryInfo) (s : State) → Goes s (left_at o info s)
left_by None info s = goes_still s
left_by (Some l) info s = forgetting_goes (settles_at_once info l.side) role.Sender l.session info.delivery_id s

given_left_goes : (link : ℕ) (o : Option DeliveryInfo) (s : State) → Goes s (given_left link o s)
given_left_goes link None s = goes_still s
given_left_goes link (Some info) s = left_by (link_of link s) info s

received_goes : (answer : LinkReply) (l : Called) (name link : ℕ) (s : State) → link_of link s ≡ Some l → Goes s (received_with answer l name link s)
received_goes answer l name link s at =
    let m = with_side (having_received answer l.side) l in
    let a = with_link link m s in
    let b = delivery_kept name link (info_of answer) a in
    let c = given_left link (info_of answer) b in
    goes_then s a (finished name link answer c) (link_goes link l m s a at (λ w. waits_on (moves.Receives answer) l tt w) refl refl)
    (goes_then a b (finished name link answer c) (delivery_goes name link (info_of answer) a)
    (goes_then b c (finished name link answer c) (given_left_goes link (info_of answer) b) (finished_goes name link answer c)))

pub receives_goes : (o : Option Called) (name link : ℕ) (old new : State) → link_of link old ≡ o → ReceivesAt o name link old new → Goes old new
receives_goes None name link old new at r = subst (λ s. Goes old s) (sym r) (goes_still old)
receives_goes (Some l) name link old new at r = subst (λ s. Goes old s) (sym r.1.1) (received_goes r.0 l name link old at)

-- ---- settling

disposed_by : (o : Option Called) (info : DeliveryInfo) (s : State) → Goes s (disposed_at o info s)
disposed_by None info s = goes_still s
disposed_by (Some l) info s = forgetting_goes (settles info l.side) role.Sender l.session info.delivery_id s

all_left_go : (link : ℕ) (xs : List DeliveryInfo) (s : State) → Goes s (all_left link xs s)
all_left_go link [] s = goes_still s
all_left_go link (x ∷ xs) s = let t = disposed_at (link_of link s) x s in goes_then s t (all_left link xs t) (disposed_by (link_of link s) x s) (all_left_go link xs t)

disposed_left_goes : (b : Bool) (link : ℕ) (xs : List DeliveryInfo) (s : State) → Goes s (disposed_left b link xs s)
disposed_left_goes true link xs s = all_left_go link xs s
disposed_left_goes false link xs s = goes_still s

disposing_at_goes : (o : Option Called) (name link : ℕ) (x : Disposal) (infos : List DeliveryInfo) (s : State) → link_of link s ≡ o → Goes s (disposing_at o name link x infos s)
disposing_at_goes None name link x infos s at = goes_still s
disposing_at_goes (Some l) name link x infos s at =
    let m = disposes x infos l.side in
    let a = with_link link (with_side m.side l) s in
    let b = disposed_left (is_done m.reply) link infos a in
    goes_then s a (finished name link m.reply b) (link_goes link l (with_side m.side l) s a at (λ w. waits_on (moves.Disposes x infos) l tt w) refl refl)
    (goes_then a b (finished name link m.reply b) (disposed_left_goes (is_done m.reply) link infos a) (finished_goes name link m.reply b))

pub disposing_goes : (name link : ℕ) (x : Disposal) (ns : List ℕ) (s : State) → Goes s (disposing name link x ns s)
disposing_goes name link x ns s = disposing_at_goes (link_of link s) name link x (infos_of ns s.deliveries) s refl

pub crediting_goes : (o : Option Called) (name link credit : ℕ) (s : State) → link_of link s ≡ o → Goes s (crediting_at o name link credit s)
crediting_goes None name link credit s at = goes_still s
crediting_goes (Some l) name link credit s at =
    let m = sets_credit credit l.side in
    let a = with_link link (with_side m.side l) s in
    goes_then s a (finished name link m.reply a) (link_goes link l (with_side m.side l) s a at (λ w. waits_on (moves.SetsCredit credit) l tt w) refl refl) (finished_goes name link m.reply a)

pub credit_goes : (o : Option Called) (name : ℕ) (s : State) → Goes s (credit_at o name s)
credit_goes None name s = goes_still s
credit_goes (Some l) name s = goes_same s (credit_at (Some l) name s) refl refl

pub regulating_goes : (o : Option Called) (name link : ℕ) (x : Regulation) (s : State) → link_of link s ≡ o → Goes s (regulating_at o name link x s)
regulating_goes None name link x s at = goes_still s
regulating_goes (Some l) name link x s at =
    let m = regulates x l.side in
    let a = with_link link (with_side m.side l) s in
    let b = answering name m.reply a in
    goes_then s a (taken_up link b) (link_goes link l (with_side m.side l) s a at (λ w. waits_on (moves.Regulates x) l tt w) refl refl)
    (goes_then a b (taken_up link b) (goes_same a b refl refl) (taken_goes link b))

disposer_kept_goes : (o : Option DisposerView) (name link : ℕ) (s : State) → Goes s (disposer_kept o name link s)
disposer_kept_goes None name link s = goes_still s
disposer_kept_goes (Some view) name link s = goes_same s (disposer_kept (Some view) name link s) refl refl

pub disposer_goes : (o : Option Called) (name link : ℕ) (s : State) → Goes s (disposer_made o name link s)
disposer_goes None name link s = goes_still s
disposer_goes (Some l) name link s = disposer_kept_goes (view_of l.side) name link s

disposing_with_goes : (o : Option Called) (name : ℕ) (x : KeptDisposer) (y : Disposal) (infos : List DeliveryInfo) (s : State) → link_of x.link s ≡ o → Goes s (disposing_with o name x y infos s)
disposing_with_goes None name x y infos s at = goes_still s
disposing_with_goes (Some l) name x y infos s at =
    let m = disposes_by x.view y infos l.side in
    let a = with_link x.link (with_side m.side l) s in
    let b = disposed_left (is_done m.reply) x.link infos a in
    let c = answering name m.reply b in
    goes_then s a (taken_up x.link c) (link_goes x.link l (with_side m.side l) s a at (λ w. waits_on (moves.DisposesBy x.view y infos) l tt w) refl refl)
    (goes_then a b (taken_up x.link c) (disposed_left_goes (is_done m.reply) x.link infos a) (goes_then b c (taken_up x.link c) (goes_same b c refl refl) (taken_goes x.link c)))

pub disposing_by_goes : (o : Option KeptDisposer) (name : ℕ) (y : Disposal) (delivery : ℕ) (s : State) → Goes s (disposing_by o name y delivery s)
disposing_by_goes None name y delivery s = goes_still s
disposing_by_goes (Some x) name y delivery s = disposing_with_goes (link_of x.link s) name x y (infos_of (delivery ∷ []) s.deliveries) s refl

-- ---- leaving

-- a call that leaves a link is taken where none waits that does
last_of : (a b c : Bool) → (a && b && c) ≡ true → c ≡ true
last_of true true c h = h
last_of true false c h = absurd cc
last_of false b c h = absurd cc

none_parts : (o : Option WaitingPart) → is_none o ≡ true → o ≡ None
none_parts None h = refl
none_parts (Some w) h = absurd cc

pub parts_alone : (x : Parting) (l : Called) → may_leave_at x (Some l) ≡ true → l.parting ≡ None
parts_alone words.Abandon l h = none_parts l.parting (last_of l.is_made (not (is_dropped l.leaving)) (is_none l.parting) h)
parts_alone words.OnDetach l h = none_parts l.parting (last_of l.is_made (stays l.leaving) (is_none l.parting) h)
parts_alone (words.Detach e timeout) l h = none_parts l.parting (last_of l.is_made (stays l.leaving) (is_none l.parting) h)
parts_alone (words.Close e) l h = none_parts l.parting (last_of l.is_made (stays l.leaving) (is_none l.parting) h)

spent_goes : (b : Bool) (session : ℕ) (name : List ℕ) (s : State) → Goes s (spent_if b session name s)
spent_goes true session name s = place_goes session (spending name) s (λ p h. h)
spent_goes false session name s = goes_still s

pub leaving_goes : (o : Option Called) (name link : ℕ) (x : Parting) (s : State) → link_of link s ≡ o → may_leave_at x o ≡ true → Goes s (leaving_at o name link x s)
leaving_goes None name link x s at may = goes_still s
leaving_goes (Some l) name link x s at may =
    let m = leaves name x l in
    let a = with_link link m.called s in
    let b = spent_if (is_leaving x) l.session (name_of l) a in
    let c = part_told (timeout_of x) m.reply name link b in
    goes_then s a (taken_up link c) (link_goes link l m.called s a at (λ w. waits_on (moves.Leaves name x) l (parts_alone x l may) w) refl refl)
    (goes_then a b (taken_up link c) (spent_goes (is_leaving x) l.session (name_of l) a) (goes_then b c (taken_up link c) (part_told_goes (timeout_of x) m.reply name link b) (taken_goes link c)))
