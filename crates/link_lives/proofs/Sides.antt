-- One end of a link goes on.
use Rattle.std.specs.Prelude.{◌≡◌, ℕ, Bool, true, false, List, [], ◌∷◌, ◌++◌, map, Option, Some, None, refl}
use Rattle.std.proofs.Common.{sym, ◌∙◌, ap, append_assoc, subst}
use Rattle.std.proofs.lemmas.List.{append-nil}
use Rattle.amqp_composites.specs.declared.error.Error.{Error as AmqpError}
use Rattle.amqp_termini.specs.declared.state.DeliveryState.{DeliveryState}
use Rattle.amqp_performatives.specs.declared.attach.Attach.{Attach}
use Rattle.amqp_performatives.specs.declared.detach.Detach.{Detach}
use Rattle.amqp_performatives.specs.declared.flow.Flow.{Flow}
use Rattle.amqp_performatives.specs.declared.transfer.Transfer.{Transfer}
use Rattle.amqp_frames.specs.declared.shared.CoveredDelivery.{CoveredDelivery}
use Rattle.amqp_frames.specs.declared.shared.SessionStopReason.{SessionStopReason}
use Rattle.amqp_parts.specs.declared.part.Part.{Part}
use Rattle.amqp_receiver.specs.Receiver.{State as ReceiverState}
use Rattle.amqp_receiver.specs.Receiving as receiver
use Rattle.amqp_sender.specs.Sender.{State as SenderState}
use Rattle.amqp_sender.specs.Settling as sender
use Rattle.amqp_termini.specs.TerminalState.{state_of_terminal}
use Rattle.amqp_delivery.specs.declared.info.DeliveryInfo.{DeliveryInfo}
use Rattle.amqp_delivery.specs.declared.info.DisposerView.{DisposerView}
use Rattle.amqp_link.specs.declared.error.IllegalLinkStateError.{IllegalLinkStateError}
use Rattle.amqp_link_words.specs.declared.link_call.Disposal.{Disposal}
use Rattle.amqp_link_words.specs.declared.link_call.Sendable.{Sendable}
use Rattle.amqp_link_words.specs.declared.link_reply.LinkReply.{LinkReply}
use Rattle.amqp_link_words.specs.declared.link_reply.LinkReply.TheVariants as reply
use Rattle.amqp_link_words.specs.declared.regulation.Regulation.{Regulation}
use Rattle.amqp_link_words.specs.declared.regulation.Regulation.TheVariants as regulation
use Rattle.amqp_receiver.specs.AutoAccept.{auto_accepted}
use Rattle.amqp_links.specs.amqp_link_calls.Calling.{sends, having_told, having_received, TellsReceived, Receives, disposes, sets_credit}
use Rattle.amqp_links.specs.amqp_link_calls.Disposers.{disposes_by}
use Rattle.amqp_links.specs.amqp_link_calls.Leaving.{closes, closed_unless, credit_taken, receiver_closed, closed_side}
use Rattle.amqp_links.specs.amqp_link_calls.Regulating.{regulating, regulates}
use Rattle.amqp_links.specs.amqp_link_calls.Replies.{terminal_of}
use Rattle.amqp_links.specs.amqp_link_calls.Side as side
use Rattle.amqp_links.specs.amqp_link_calls.Side.{Side, Sender, Receiver, link_of}
use Rattle.session_laws.specs.Sending as sending
use Rattle.session_laws.specs.Messages.{Message}
use Rattle.session_laws.specs.Receiving as receiving
use Rattle.session_laws.specs.Receiving.{Answer, answer_in, given_behind}
use Rattle.link_lives.specs.Lives.{Event, Wrote, Sent, Answered, sender_tells, receiver_tells, sender_told, receiver_told, SenderLives, ReceiverLives, Lives}

-- ---- one behind the other

sender_after : (s : SenderState) (ms ns : List sending.Move) → sending.after_all s (ms ++ ns) ≡ sending.after_all (sending.after_all s ms) ns
sender_after s [] ns = refl
sender_after s (m ∷ ms) ns = sender_after (sending.after s m) ms ns

sender_more : (session : ℕ) (s : SenderState) (ms ns : List sending.Move) → sender_told session s (ms ++ ns) ≡ sender_told session s ms ++ sender_told session (sending.after_all s ms) ns
sender_more session s [] ns = refl
sender_more session s (m ∷ ms) ns =
    ap (λ xs. sender_tells session s m ++ xs) (sender_more session (sending.after s m) ms ns)
    ∙ sym (append_assoc (sender_tells session s m) (sender_told session (sending.after s m) ms) (sender_told session (sending.after_all (sending.after s m) ms) ns))

receiver_after : (s : ReceiverState) (ms ns : List receiving.Move) → receiving.after_all s (ms ++ ns) ≡ receiving.after_all (receiving.after_all s ms) ns
receiver_after s [] ns = refl
receiver_after s (m ∷ ms) ns = receiver_after (receiving.after s m) ms ns

receiver_more : (session : ℕ) (s : ReceiverState) (ms ns : List receiving.Move) → receiver_told session s (ms ++ ns) ≡ receiver_told session s ms ++ receiver_told session (receiving.after_all s ms) ns
receiver_more session s [] ns = refl
receiver_more session s (m ∷ ms) ns =
    ap (λ xs. receiver_tells session s m ++ xs) (receiver_more session (receiving.after s m) ms ns)
    ∙ sym (append_assoc (receiver_tells session s m) (receiver_told session (receiving.after s m) ms) (receiver_told session (receiving.after_all (receiving.after s m) ms) ns))

read_more : (ms ns : List receiving.Move) → receiving.read (ms ++ ns) ≡ receiving.read ms ++ receiving.read ns
read_more [] ns = refl
read_more (m ∷ ms) ns = ap (λ xs. receiving.read_by m ++ xs) (read_more ms ns) ∙ sym (append_assoc (receiving.read_by m) (receiving.read ms) (receiving.read ns))

both : (ws xs ys zs : List Event) → ws ≡ ys → xs ≡ zs → ws ++ xs ≡ ys ++ zs
both ws xs ys zs p q = ap (λ vs. vs ++ xs) p ∙ ap (λ vs. ys ++ vs) q

both_parts : (ws xs ys zs : List Part) → ws ≡ ys → xs ≡ zs → ws ++ xs ≡ ys ++ zs
both_parts ws xs ys zs p q = ap (λ vs. vs ++ xs) p ∙ ap (λ vs. ys ++ vs) q

sender_then : (session : ℕ) (s : SenderState) (b c : Side) (es fs : List Event) (ps qs : List Part) → SenderLives session s es b → Lives session b fs qs c → SenderLives session s (es ++ fs) c
sender_then session s b c es fs ps qs p q =
    let r : SenderLives session (sending.after_all s p.moves) fs c = subst (λ x. Lives session x fs qs c) p.behind q in
    record {
      moves = p.moves ++ r.moves;
      told = both es fs (sender_told session s p.moves) (sender_told session (sending.after_all s p.moves) r.moves) p.told r.told ∙ sym (sender_more session s p.moves r.moves);
      behind = r.behind ∙ sym (ap Sender (sender_after s p.moves r.moves));
    }

receiver_then : (session : ℕ) (s : ReceiverState) (b c : Side) (es fs : List Event) (ps qs : List Part) → ReceiverLives session s es ps b → Lives session b fs qs c → ReceiverLives session s (es ++ fs) (ps ++ qs) c
receiver_then session s b c es fs ps qs p q =
    let r : ReceiverLives session (receiving.after_all s p.moves) fs qs c = subst (λ x. Lives session x fs qs c) p.behind q in
    record {
      moves = p.moves ++ r.moves;
      told = both es fs (receiver_told session s p.moves) (receiver_told session (receiving.after_all s p.moves) r.moves) p.told r.told ∙ sym (receiver_more session s p.moves r.moves);
      read = read_more p.moves r.moves ∙ both_parts (receiving.read p.moves) (receiving.read r.moves) ps qs p.read r.read;
      behind = r.behind ∙ sym (ap Receiver (receiver_after s p.moves r.moves));
    }

pub lives_then : (session : ℕ) (a b c : Side) (es fs : List Event) (ps qs : List Part) → Lives session a es ps b → Lives session b fs qs c → Lives session a (es ++ fs) (ps ++ qs) c
lives_then session (Sender s) b c es fs ps qs p q = sender_then session s b c es fs ps qs p q
lives_then session (Receiver s) b c es fs ps qs p q = receiver_then session s b c es fs ps qs p q

pub lives_on : (session : ℕ) (a : Side) → Lives session a [] [] a
lives_on session (Sender s) = record { moves = []; told = refl; behind = refl }
lives_on session (Receiver s) = record { moves = []; told = refl; read = refl; behind = refl }

-- ---- one move

sender_moves : (session : ℕ) (s : SenderState) (m : sending.Move) (es : List Event) (ps : List Part) → es ≡ sender_tells session s m → Lives session (Sender s) es ps (Sender (sending.after s m))
sender_moves session s m es ps e = record { moves = m ∷ []; told = e ∙ sym (append-nil (sender_tells session s m)); behind = refl }

receiver_moves : (session : ℕ) (s : ReceiverState) (m : receiving.Move) (es : List Event) (ps : List Part) → es ≡ receiver_tells session s m → receiving.read_by m ≡ ps
    → Lives session (Receiver s) es ps (Receiver (receiving.after s m))
receiver_moves session s m es ps e r = record { moves = m ∷ []; told = e ∙ sym (append-nil (receiver_tells session s m)); read = append-nil (receiving.read_by m) ∙ r; behind = refl }

-- all that is to be written is taken off
pub emptied_lives : (session : ℕ) (a : Side) → Lives session a (map (Wrote session) (link_of a).output) [] (side.with_link (record (link_of a) { output = [] }) a)
emptied_lives session (Sender s) = sender_moves session s sending.hands_over (map (Wrote session) s.link.output) [] refl
emptied_lives session (Receiver s) = receiver_moves session s receiving.hands_over (map (Wrote session) s.link.output) [] refl refl

pub polled_lives : (session : ℕ) (a : Side) → Lives session a [] [] (side.polled a)
polled_lives session (Sender s) = sender_moves session s sending.polls [] [] refl
polled_lives session (Receiver s) = receiver_moves session s receiving.polls [] [] refl refl

pub attach_lives : (session : ℕ) (x : Attach) (a : Side) → Lives session a [] [] (side.attach_read x a)
attach_lives session x (Sender s) = sender_moves session s (sending.hears_attach x) [] [] refl
attach_lives session x (Receiver s) = receiver_moves session s (receiving.hears_attach x) [] [] refl refl

pub flow_lives : (session : ℕ) (x : Flow) (a : Side) → Lives session a [] [] (side.flow_read x a)
flow_lives session x (Sender s) = sender_moves session s (sending.hears_flow x) [] [] refl
flow_lives session x (Receiver s) = receiver_moves session s (receiving.hears_flow x) [] [] refl refl

pub transfer_lives : (session : ℕ) (x : Transfer) (payload : List ℕ) (a : Side) → Lives session a [] (record { transfer = x; payload = payload } ∷ []) (side.transfer_read x payload a)
transfer_lives session x payload (Sender s) = sender_moves session s sending.hears_transfer [] (record { transfer = x; payload = payload } ∷ []) refl
transfer_lives session x payload (Receiver s) = receiver_moves session s (receiving.hears_transfer x payload) [] (record { transfer = x; payload = payload } ∷ []) refl refl

pub detach_lives : (session : ℕ) (d : Detach) (a : Side) → Lives session a [] [] (side.detach_read d a)
detach_lives session d (Sender s) = sender_moves session s (sending.hears_detach d) [] [] refl
detach_lives session d (Receiver s) = receiver_moves session s (receiving.hears_detach d) [] [] refl refl

pub stopped_lives : (session : ℕ) (why : SessionStopReason) (a : Side) → Lives session a [] [] (side.stopped why a)
stopped_lives session why (Sender s) = sender_moves session s (sending.stops why) [] [] refl
stopped_lives session why (Receiver s) = receiver_moves session s (receiving.stops why) [] [] refl refl

pub parts_lives : (session : ℕ) (closes : Bool) (error : Option AmqpError) (a : Side) → Lives session a [] [] (side.parts closes error a).side
parts_lives session closes error (Sender s) = sender_moves session s (sending.parts closes error) [] [] refl
parts_lives session closes error (Receiver s) = receiver_moves session s (receiving.parts closes error) [] [] refl refl

pub abandoned_lives : (session : ℕ) (a : Side) → Lives session a [] [] (side.abandoned a)
abandoned_lives session (Sender s) = sender_moves session s sending.abandons [] [] refl
abandoned_lives session (Receiver s) = receiver_moves session s receiving.abandons [] [] refl refl

pub unplaced_lives : (session : ℕ) (a : Side) → Lives session a [] [] (side.unplaced a)
unplaced_lives session (Sender s) = sender_moves session s sending.stays [] [] refl
unplaced_lives session (Receiver s) = receiver_moves session s receiving.stays [] [] refl refl

pub reattached_lives : (session : ℕ) (handle : ℕ) (a : Side) → Lives session a [] [] (side.reattached handle a)
reattached_lives session handle (Sender s) = sender_moves session s (sending.reattaches handle) [] [] refl
reattached_lives session handle (Receiver s) = receiver_moves session s (receiving.reattaches handle) [] [] refl refl

-- what has become of a delivery is heard
pub sender_disposition : (session : ℕ) (covered : CoveredDelivery) (settled : Bool) (x : Option DeliveryState) (s : SenderState) → Lives session (Sender s) [] [] (Sender (sender.disposition_read covered settled x s))
sender_disposition session covered settled x s = sender_moves session s (sending.hears_disposition covered settled x) [] [] refl

pub receiver_disposition : (session : ℕ) (covered : CoveredDelivery) (settled : Bool) (s : ReceiverState) → Lives session (Receiver s) [] [] (Receiver (receiver.disposition_read covered settled s))
receiver_disposition session covered settled s = receiver_moves session s (receiving.hears_disposition covered settled) [] [] refl refl

-- ---- calls

-- what a sender tells as it is asked to send
pub sent_events : Sendable → Side → List Event
sent_events x (Sender s) = map Sent (sending.sent_by s (sending.sends x.payload 0 x.settled x.batchable))
sent_events x (Receiver s) = []

pub sends_lives : (session : ℕ) (x : Sendable) (a : Side) → Lives session a (sent_events x a) [] (sends x a).side
unfolding sent_events
sends_lives session x (Sender s) = sender_moves session s (sending.sends x.payload 0 x.settled x.batchable) (map Sent (sending.sent_by s (sending.sends x.payload 0 x.settled x.batchable))) [] refl
sends_lives session x (Receiver s) = lives_on session (Receiver s)

pub sent_events_are : (x : Sendable) (a : Side) → (ms : List Message) × (sent_events x a ≡ map Sent ms)
unfolding sent_events
sent_events_are x (Sender s) = (sending.sent_by s (sending.sends x.payload 0 x.settled x.batchable), refl)
sent_events_are x (Receiver s) = ([], refl)

-- what a receiver tells as it is asked to receive
pub received_events : Side → List Event
received_events (Sender s) = []
received_events (Receiver s) = map Answered (answer_in s.book.credit (receiver.received s).answer)

pub received_events_are : (a : Side) → (xs : List Answer) × (received_events a ≡ map Answered xs)
unfolding received_events
received_events_are (Sender s) = ([], refl)
received_events_are (Receiver s) = (answer_in s.book.credit (receiver.received s).answer, refl)

told_lives : (session : ℕ) (answer : LinkReply) (s : ReceiverState) → TellsReceived answer (receiver.received s) → Lives session (Receiver s) (map Answered (answer_in s.book.credit (receiver.received s).answer)) [] (Receiver (having_told answer s))
told_lives session (reply.Delivery info message) s h =
    let t = receiver.received s in
    let same : given_behind true t.answer t.state ≡ auto_accepted info t.state =
    ap (λ o. given_behind true o t.state) h.1.0 ∙ ap (λ i. auto_accepted i t.state) (sym h.1.1) in
    subst (λ u. Lives session (Receiver s) (map Answered (answer_in s.book.credit t.answer)) [] (Receiver u)) same
    (receiver_moves session s (receiving.receives true) (map Answered (answer_in s.book.credit t.answer)) [] refl refl)
told_lives session answer s h = receiver_moves session s (receiving.receives false) (map Answered (answer_in s.book.credit (receiver.received s).answer)) [] refl refl

pub received_lives : (session : ℕ) (answer : LinkReply) (a : Side) → Receives answer a → Lives session a (received_events a) [] (having_received answer a)
unfolding received_events
received_lives session answer (Sender s) h = lives_on session (Sender s)
received_lives session answer (Receiver s) h = told_lives session answer s h

pub disposes_lives : (session : ℕ) (x : Disposal) (infos : List DeliveryInfo) (a : Side) → Lives session a [] [] (disposes x infos a).side
disposes_lives session x infos (Sender s) = lives_on session (Sender s)
disposes_lives session x infos (Receiver s) = receiver_moves session s (receiving.disposes infos (state_of_terminal (terminal_of x))) [] [] refl refl

pub disposes_by_lives : (session : ℕ) (view : DisposerView) (x : Disposal) (infos : List DeliveryInfo) (a : Side) → Lives session a [] [] (disposes_by view x infos a).side
disposes_by_lives session view x infos (Sender s) = lives_on session (Sender s)
disposes_by_lives session view x infos (Receiver s) = receiver_moves session s (receiving.disposes_by view infos (state_of_terminal (terminal_of x))) [] [] refl refl

pub credit_lives : (session credit : ℕ) (a : Side) → Lives session a [] [] (sets_credit credit a).side
credit_lives session credit (Sender s) = lives_on session (Sender s)
credit_lives session credit (Receiver s) = receiver_moves session s (receiving.sets_credit credit) [] [] refl refl

regulating_lives : (session : ℕ) (x : Regulation) (s : ReceiverState) → Lives session (Receiver s) [] [] (Receiver (regulating x s).state)
regulating_lives session (regulation.CreditMode mode) s = receiver_moves session s (receiving.sets_credit_mode mode) [] [] refl refl
regulating_lives session (regulation.AutoAccept value) s = receiver_moves session s (receiving.sets_auto_accept value) [] [] refl refl
regulating_lives session regulation.Drain s = receiver_moves session s receiving.drains [] [] refl refl
regulating_lives session regulation.Properties s = receiver_moves session s receiving.tells_properties [] [] refl refl

pub regulates_lives : (session : ℕ) (x : Regulation) (a : Side) → Lives session a [] [] (regulates x a).side
regulates_lives session x (Sender s) = lives_on session (Sender s)
regulates_lives session x (Receiver s) = regulating_lives session x s

-- a receiver that is closed for an error first takes the sender's credit
closed_unless_lives : (session : ℕ) (e : Option IllegalLinkStateError) (x : AmqpError) (s t : ReceiverState) → Lives session (Receiver s) [] [] (Receiver t) → Lives session (Receiver s) [] [] (Receiver (closed_unless e x t).state)
closed_unless_lives session (Some e) x s t p = p
closed_unless_lives session None x s t p =
    lives_then session (Receiver s) (Receiver t) (Receiver (closes (Some x) t).state) [] [] [] [] p (receiver_moves session t (receiving.parts true (Some x)) [] [] refl refl)

receiver_closed_lives : (session : ℕ) (error : Option AmqpError) (s : ReceiverState) → Lives session (Receiver s) [] [] (Receiver (receiver_closed error s).state)
receiver_closed_lives session None s = receiver_moves session s (receiving.parts true None) [] [] refl refl
receiver_closed_lives session (Some x) s =
    closed_unless_lives session (credit_taken s).answer x s (credit_taken s).state (receiver_moves session s (receiving.sets_credit 0) [] [] refl refl)

pub closed_lives : (session : ℕ) (error : Option AmqpError) (a : Side) → Lives session a [] [] (closed_side error a).side
closed_lives session error (Sender s) = parts_lives session true error (Sender s)
closed_lives session error (Receiver s) = receiver_closed_lives session error s
