-- Whatever a link goes through, each call that waits does so for the peer.
use Rattle.std.specs.Prelude.{◌≡◌, ℕ, Bool, true, false, [], Some, refl}
use Rattle.std.proofs.Common.{subst}
use Rattle.std.proofs.lemmas.Bool.{eqb-true}
use Rattle.amqp_link_calls.specs.Answering.{outcome_now, outcome_at, put_off}
use Rattle.amqp_link_calls.specs.Called.{Called, with_side}
use Rattle.amqp_link_calls.specs.Calling.{awaiting, sends, having_received, disposes, sets_credit}
use Rattle.amqp_link_calls.specs.Disposers.{disposes_by}
use Rattle.amqp_link_calls.specs.Regulating.{regulates}
use Rattle.amqp_link_calls.specs.Replies.{is_pending}
use Rattle.amqp_link_calls.specs.Side as side
use Rattle.amqp_link_calls.specs.Side.{Side, link_of, with_link, is_stopped}
use Rattle.call_waits.specs.Laws.{WaitsOn}
use Rattle.call_waits.specs.Moves.{HearsAttach, HearsFlow, HearsTransfer, HearsDetach, HearsDisposition, Stops, Concludes, Sends, AsksOutcome, Receives, Disposes, DisposesBy, SetsCredit, Regulates, Leaves, GivesUpOutcome, GivesUpPart, Writes, Answers, GetsHandle, GetsNoHandle, after}
use Rattle.call_waits.specs.Waits.{IsUnsettled, OutcomeWaits, Waits}
use Rattle.call_waits.proofs.Sides.{Keeps, flow_keeps, transfer_keeps, sends_keeps, receives_keeps, disposes_keeps, disposes_by_keeps, credit_keeps, regulates_keeps, written_keeps}
use Rattle.call_waits.proofs.Tables.{insert_holds, insert_keyed}
use Rattle.call_waits.proofs.Pending.{unsettled_pending, outcome_pending, outcome_never}
use Rattle.call_waits.proofs.Keeping.{calm_waits, side_calm}
use Rattle.call_waits.proofs.Answering.{hears_attach, disposition_calm, outcome_given_up_calm}
use Rattle.call_waits.proofs.Leaving.{hears_detach, session_stops, session_concludes, leaves_waits, part_given_up_calm, handle_calm, refused_waits}

-- its side goes on
sided : (t : Side) (l : Called) → Keeps l.side t → Waits l → Waits (with_side t l)
sided t l k w = calm_waits l (with_side t l) (side_calm t l k) w

-- a call waits for an outcome: nothing is known of it
over_pending : (c : Bool) (place : ℕ) (s : Side) → c ≡ true → is_stopped s ≡ true → is_pending (put_off c (outcome_at place s)) ≡ true → ⊥
over_pending true place s e h p = outcome_never place s h p
over_pending false place s e h p = cc

asked_by : (b : Bool) (name place : ℕ) (l : Called) → is_pending (outcome_now place l) ≡ b → Waits l → Waits (awaiting b name place l)
asked_by false name place l e w = w
asked_by true name place l e w =
    record {
      attach = w.attach;
      part = w.part;
      unsettled = λ q n.
          insert_holds (λ o. o ≡ Some n → IsUnsettled q l.side) place q name l.waiting (λ f h. subst (λ p. IsUnsettled p l.side) (eqb-true place q f) (unsettled_pending l.is_concluded place l.side e)) (λ h. w.unsettled q n h);
      outcome = λ q n.
          insert_holds (λ o. o ≡ Some n → is_stopped l.side ≡ false → OutcomeWaits l.side) place q name l.waiting (λ f h s. outcome_pending l.is_concluded place l.side s e) (λ h s. w.outcome q n h s);
      once = insert_keyed place name l.waiting w.once;
      over = λ h. absurd (over_pending l.is_concluded place l.side h (w.over h).stopped e);
    }

pub waits_on : WaitsOn
waits_on (HearsAttach x) l may w = hears_attach x l w
waits_on (HearsFlow x) l may w = sided (side.flow_read x l.side) l (flow_keeps x l.side) w
waits_on (HearsTransfer x payload) l may w = sided (side.transfer_read x payload l.side) l (transfer_keeps x payload l.side) w
waits_on (HearsDetach d) l may w = hears_detach d l w
waits_on (HearsDisposition covered settled x) l may w = calm_waits l (after (HearsDisposition covered settled x) l) (disposition_calm covered settled x l w.once) w
waits_on (Stops why) l may w = session_stops why l w
waits_on Concludes l may w = session_concludes l may
waits_on (Sends x) l may w = sided (sends x l.side).side l (sends_keeps x l.side) w
waits_on (AsksOutcome name place) l may w = asked_by (is_pending (outcome_now place l)) name place l refl w
waits_on (Receives answer) l may w = sided (having_received answer l.side) l (receives_keeps answer l.side) w
waits_on (Disposes x infos) l may w = sided (disposes x infos l.side).side l (disposes_keeps x infos l.side) w
waits_on (DisposesBy view x infos) l may w = sided (disposes_by view x infos l.side).side l (disposes_by_keeps view x infos l.side) w
waits_on (SetsCredit credit) l may w = sided (sets_credit credit l.side).side l (credit_keeps credit l.side) w
waits_on (Regulates x) l may w = sided (regulates x l.side).side l (regulates_keeps x l.side) w
waits_on (Leaves name x) l may w = leaves_waits name x l may w
waits_on (GivesUpOutcome name place) l may w = calm_waits l (after (GivesUpOutcome name place) l) (outcome_given_up_calm name place l w.once) w
waits_on (GivesUpPart name) l may w = calm_waits l (after (GivesUpPart name) l) (part_given_up_calm name l) w
waits_on Writes l may w = sided (with_link (record (link_of l.side) { output = [] }) l.side) l (written_keeps l.side) w
waits_on Answers l may w =
    record { attach = w.attach; part = w.part; unsettled = w.unsettled; outcome = w.outcome; once = w.once; over = λ h. (let i = w.over h in record { stopped = i.stopped; attaching = i.attaching; parting = i.parting; waiting = i.waiting }) }
waits_on (GetsHandle handle) l may w = calm_waits l (after (GetsHandle handle) l) (handle_calm handle l may) w
waits_on GetsNoHandle l may w = refused_waits l may w
