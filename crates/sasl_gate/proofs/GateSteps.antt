-- The steps of a negotiation.
use Rattle.std.proofs.Common.{◌≡◌, ◌<◌, ◌≤◌, inl, inr, ℕ, List, [], ◌∷◌, ◌++◌, length, take, drop, Some, None, Result, Ok, Err, refl, sym, ap, ◌∙◌, subst}
use Rattle.sasl_exchange.specs.amqp_sasl_bodies.declared.sasl_body.SaslBody.{SaslBody}
use Rattle.sasl_exchange.specs.amqp_sasl_bodies.declared.sasl_code.SaslCode.{SaslCode}
use Rattle.sasl_exchange.specs.amqp_sasl_bodies.SaslBytes.{SpellsSasl}
use Rattle.amqp_wire.specs.declared.link.Link.{Ghosts}
use Rattle.amqp_wire.specs.declared.link.Stop.{Stop}
use Rattle.amqp_wire.specs.declared.link.Stop.TheVariants.{Empty, End, Failed as FailedRead}
use Rattle.amqp_wire.specs.declared.link.Held.TheVariants.{Full, Failed as FailedWrite, Memory as HeldMemory}
use Rattle.amqp_wire.specs.declared.link.IoKind.TheVariants.{Fault, End as InputEnd}
use Rattle.amqp_wire.specs.declared.frame.Front.{Front}
use Rattle.amqp_wire.specs.declared.frame.Front.TheVariants.{Partial, Refused as RefusedFront, Foreign as ForeignFront, Whole}
use Rattle.amqp_wire.specs.declared.reading.Wait.{Wait}
use Rattle.amqp_wire.specs.declared.reading.Wait.TheVariants.{Over, Stopped, Spent}
use Rattle.amqp_wire.specs.Codec.{Codec, Flushed}
use Rattle.amqp_wire.specs.Frame.{HasBody, IsFront}
use Rattle.std.proofs.lemmas.List.{append-nil, take-append-drop}
use Rattle.amqp_wire.specs.Events.{LinkEvent, NotRead, read_of, wrote_of}
use Rattle.amqp_wire.specs.Reading.{ReadOn, IsKnown}
use Rattle.amqp_wire.proofs.Events.{includes_left}
use Rattle.sasl_exchange.specs.declared.error.NegotiationError.{NegotiationError}
use Rattle.sasl_exchange.specs.declared.error.NegotiationError.TheVariants.{Memory, ProtocolHeaderMismatch, NotImplemented, SaslError, ScramError, Io, DecodeError, IllegalState, FramingError}
use Rattle.sasl_exchange.specs.declared.exchange.Exchange.{Ghosts as Mechanism}
use Rattle.std.specs.declared.alloc.AllocError.{AllocError}
use Rattle.sasl_exchange.specs.declared.exchange.Turn.TheVariants.{Receive}
use Rattle.sasl_gate.specs.declared.gate.negotiation.GatePoll.{GatePoll}
use Rattle.sasl_gate.specs.declared.gate.negotiation.GatePoll.TheVariants.{Pending, Passed}
use Rattle.sasl_gate.specs.declared.gate.negotiation.Phase.{Phase}
use Rattle.sasl_gate.specs.declared.gate.negotiation.Phase.TheVariants.{Header, Frames, Failed}
use Rattle.sasl_gate.specs.declared.gate.negotiation.Step.{Step}
use Rattle.sasl_gate.specs.declared.gate.negotiation.Step.TheVariants.{Goes, Waits, Ends}
use Rattle.sasl_exchange.specs.Exchange.{refused_with}
use Rattle.sasl_gate.specs.Frames.{sasl_header, HasSaslFrame, Heard, said, sasl_frame}
use Rattle.sasl_gate.specs.Negotiation.{Negotiating, at_link, at_header, at_frame, by_body, too_long, HeaderCause, FrameCause, IsOverlong, IsOutcomeOut, HasHeader, HasFrames, HasIn, IsAtRestIn, IsAtRest, IsPollAnswer, Polled}
use Rattle.sasl_gate.specs.Steps.{IsStepEnd, Stepped, IsAlive, IsStopAnswer, IsWaitAnswer, IsEndAnswer, ArrivesIn}
use Rattle.sasl_gate.proofs.Negotiations.{goes_none, stepped_then, goes_flushed, flush_events, goes_read, goes_failed, goes_refused, Failing, goes_header, goes_taken, goes_sent, heard_push, frame_cut}

pub alive_header : (p : Phase) → p ≡ Header → IsAlive p
alive_header p e = subst IsAlive (sym e) tt

pub alive_frames : (p : Phase) → p ≡ Frames → IsAlive p
alive_frames p e = subst IsAlive (sym e) tt

-- it waits for the header
pub rests_header : {L X : Type 0} (m : Mechanism X) (c : Codec L) (p : Phase) (x : X) → p ≡ Header → c.output ≡ [] → length c.input < 8 → IsAtRest m (record { codec = c; phase = p; exchange = x })
rests_header {L} {X} m c p x phase out few = subst (λ (q : Phase). IsAtRestIn m q (record { codec = c; phase = p; exchange = x })) (sym phase) (out, few)

-- it waits for a frame
pub rests_frames : {L X : Type 0} (m : Mechanism X) (c : Codec L) (p : Phase) (x : X) → p ≡ Frames → c.output ≡ [] → m.turn_of x ≡ Receive → IsFront 1 512 c.input Partial → IsAtRest m (record { codec = c; phase = p; exchange = x })
rests_frames {L} {X} m c p x phase out turn front = subst (λ (q : Phase). IsAtRestIn m q (record { codec = c; phase = p; exchange = x })) (sym phase) (out, turn, front)

-- nothing happened
pub step_none : {L X : Type 0} (link : Ghosts L) (m : Mechanism X) (a : Negotiating L X) (left : ℕ) (s : Step) → m.same a.exchange a.exchange → IsStepEnd m s [] a left → Stepped link m a left s a left
step_none link m a left s same e = record { events = []; goes = goes_none link m a left same; end = e }

pub header_taken : {L X : Type 0} (link : Ghosts L) (m : Mechanism X) (a : Negotiating L X) (left : ℕ) → a.phase ≡ Header → m.same a.exchange a.exchange → take 8 a.codec.input ≡ sasl_header
    → Stepped link m a left Goes (record a { codec = record a.codec { input = drop 8 a.codec.input }; phase = Frames }) left
header_taken link m a left phase same t = record { events = []; goes = goes_header link m a left phase same t; end = tt }

pub header_mismatch : {L X : Type 0} (link : Ghosts L) (m : Mechanism X) (a : Negotiating L X) (left : ℕ) (h : List ℕ) → a.phase ≡ Header → m.same a.exchange a.exchange
    → 8 ≤ length a.codec.input → h ≡ take 8 a.codec.input → (h ≡ sasl_header → ⊥) → Stepped link m a left Ends (record a { phase = Failed (ProtocolHeaderMismatch h) }) left
header_mismatch link m a left h phase same l e ne =
    record {
      events = [];
      goes = goes_failed link m a a left left [] (ProtocolHeaderMismatch h) (alive_header a.phase phase)
          (λ before n given sent. let k : HasHeader m a before = subst (λ (p : Phase). HasIn m p a before) phase n in
          (at_header (subst (λ (u : List ℕ). HeaderCause (ProtocolHeaderMismatch h) u) (sym k.read) (l, e, ne)), tt, tt))
          (goes_none link m a left same);
      end = tt;
    }

-- it failed while frames are read and written
pub failed_frames : {L X : Type 0} (link : Ghosts L) (m : Mechanism X) (a : Negotiating L X) (left : ℕ) (e : NegotiationError) → a.phase ≡ Frames → m.same a.exchange a.exchange
    → ((before : List LinkEvent) (n : HasFrames m a before) → Failing m a e before n.given n.sent)
    → Stepped link m a left Ends (record a { phase = Failed e }) left
failed_frames link m a left e phase same cause = record { events = []; goes = goes_refused link m a left e phase same cause; end = tt }

-- an error for a frame is of no outcome
front_told : (e : NegotiationError) (rest : List ℕ) → FrameCause e rest → (events : List LinkEvent) (sent : List SaslBody) → IsOutcomeOut e events sent
front_told (Memory a) rest c events sent = absurd c
front_told (ProtocolHeaderMismatch h) rest c events sent = absurd c
front_told NotImplemented rest c events sent = tt
front_told (SaslError code payload) rest c events sent = absurd c
front_told (ScramError kind) rest c events sent = absurd c
front_told (Io kind) rest c events sent = absurd c
front_told DecodeError rest c events sent = tt
front_told IllegalState rest c events sent = absurd c
front_told FramingError rest c events sent = tt

-- where nothing is still to go out, all that was sent is written
all_told : (e : NegotiationError) (events : List LinkEvent) (sent : List SaslBody) → wrote_of events ≡ said sent → IsOutcomeOut e events sent
all_told (Memory a) events sent w = tt
all_told (ProtocolHeaderMismatch h) events sent w = tt
all_told NotImplemented events sent w = tt
all_told (SaslError code payload) events sent w = w
all_told (ScramError kind) events sent w = tt
all_told (Io kind) events sent w = tt
all_told DecodeError events sent w = tt
all_told IllegalState events sent w = tt
all_told FramingError events sent w = tt

flushed_told : {L X : Type 0} (m : Mechanism X) (a : Negotiating L X) (e : NegotiationError) (events : List LinkEvent) (n : HasFrames m a events) → a.codec.output ≡ [] → IsOutcomeOut e events n.sent
flushed_told m a e events n out = all_told e events n.sent (sym (append-nil (wrote_of events)) ∙ ap (λ (u : List ℕ). wrote_of events ++ u) (sym out) ∙ n.wrote)

-- the frame at the front of the input is refused
pub failed_front : {L X : Type 0} (link : Ghosts L) (m : Mechanism X) (a : Negotiating L X) (left : ℕ) (e : NegotiationError) → a.phase ≡ Frames → m.same a.exchange a.exchange → m.turn_of a.exchange ≡ Receive → FrameCause e a.codec.input
    → Stepped link m a left Ends (record a { phase = Failed e }) left
failed_front link m a left e phase same turn c = failed_frames link m a left e phase same (λ before n. (at_frame n.given a.codec.input n.heard c, (refl, turn), front_told e a.codec.input c before n.sent))

pub failed_overlong : {L X : Type 0} (link : Ghosts L) (m : Mechanism X) (a : Negotiating L X) (left : ℕ) (body : SaslBody) → a.phase ≡ Frames → m.same a.exchange a.exchange → m.owes a.exchange body → IsOverlong body
    → Stepped link m a left Ends (record a { phase = Failed FramingError }) left
failed_overlong link m a left body phase same o long = failed_frames link m a left FramingError phase same (λ before n. (too_long body o long refl, tt, tt))

pub failed_body : {L X : Type 0} (link : Ghosts L) (m : Mechanism X) (a : Negotiating L X) (left : ℕ) (e : NegotiationError) (body : SaslBody) (size start channel : ℕ) → a.phase ≡ Frames → a.codec.output ≡ [] → m.same a.exchange a.exchange
    → m.turn_of a.exchange ≡ Receive → HasBody 1 512 a.codec.input size start channel → SpellsSasl (drop start (take size a.codec.input)) body
    → ((given sent : List SaslBody) → m.holds a.exchange given sent → m.causes a.exchange e (given ++ body ∷ []) sent)
    → Stepped link m a left Ends (record a { phase = Failed e }) left
failed_body link m a left e body size start channel phase out same turn b s c =
    failed_frames link m a left e phase same (λ before n.
    let cut : Heard (read_of before) n.given (take size a.codec.input ++ drop size a.codec.input) = subst (λ (u : List ℕ). Heard (read_of before) n.given u) (sym (take-append-drop size a.codec.input)) n.heard in (
      by_body (n.given ++ body ∷ []) n.sent (drop size a.codec.input)
          (heard_push (read_of before) (take size a.codec.input) (drop size a.codec.input) n.given body cut (frame_cut a.codec.input size start channel body b s))
          (c n.given n.sent n.held),
      (refl, inr (body, refl, turn)),
      flushed_told m a e before n out,
    ))

pub failed_refusal : {L X : Type 0} (link : Ghosts L) (m : Mechanism X) (a : Negotiating L X) (left : ℕ) (code : SaslCode) → a.phase ≡ Frames → a.codec.output ≡ [] → m.same a.exchange a.exchange
    → ((given sent : List SaslBody) → m.holds a.exchange given sent → m.causes a.exchange (refused_with code) given sent)
    → Stepped link m a left Ends (record a { phase = Failed (refused_with code) }) left
failed_refusal link m a left code phase out same c =
    failed_frames link m a left (refused_with code) phase same (λ before n.
    (by_body n.given n.sent a.codec.input n.heard (c n.given n.sent n.held), (refl, inl refl), flushed_told m a (refused_with code) before n out))

-- a step after reads
pub read_then : {L X : Type 0} (link : Ghosts L) (m : Mechanism X) (a : Negotiating L X) (c : Codec L) (b : Negotiating L X) (w : Wait) (left k n : ℕ) (s : Step) → IsAlive a.phase → m.same a.exchange a.exchange → m.same a.exchange b.exchange
    → ReadOn link a.codec left w c k → Stepped link m (record a { codec = c }) k s b n → Stepped link m a left s b n
read_then link m a c b w left k n s alive same same' r st = stepped_then link m a (record a { codec = c }) b left k n r.events s same' (goes_read link m a c w left k alive same r) st

-- reads, and nothing after them
pub read_more : {L X : Type 0} (link : Ghosts L) (m : Mechanism X) (a : Negotiating L X) (c : Codec L) (w : Wait) (left k : ℕ) → IsAlive a.phase → m.same a.exchange a.exchange → ReadOn link a.codec left w c k → Stepped link m a left Goes (record a { codec = c }) k
read_more link m a c w left k alive same r = record { events = r.events; goes = goes_read link m a c w left k alive same r; end = tt }

pub read_spent : {L X : Type 0} (link : Ghosts L) (m : Mechanism X) (a : Negotiating L X) (c : Codec L) (left k : ℕ) → IsAlive a.phase → m.same a.exchange a.exchange → IsAtRest m (record a { codec = c }) → ReadOn link a.codec left Spent c k → Stepped link m a left Waits (record a { codec = c }) k
read_spent link m a c left k alive same rests r = record { events = r.events; goes = goes_read link m a c Spent left k alive same r; end = (inr (inr r.end), inl rests) }

stopped_in : {L X : Type 0} (link : Ghosts L) (m : Mechanism X) (a : Negotiating L X) (c : Codec L) (stop : Stop) (left k : ℕ) (s : Step) (new : Negotiating L X) → IsAlive a.phase → m.same a.exchange a.exchange → IsAtRest m (record a { codec = c })
    → (r : ReadOn link a.codec left (Stopped stop) c k) → IsStopAnswer stop (record a { codec = c }) s new → Stepped link m a left s new k
stopped_in {L} {X} link m a c Empty left k s new alive same rests r e =
    subst (λ (t : Step). Stepped link m a left t new k) (sym e.0) (subst (λ (b : Negotiating L X). Stepped link m a left Waits b k) (sym e.1)
    (record { events = r.events; goes = goes_read link m a c (Stopped Empty) left k alive same r; end = (inl r.end, inl rests) }))
stopped_in {L} {X} link m a c End left k s new alive same rests r e =
    subst (λ (t : Step). Stepped link m a left t new k) (sym e.0) (subst (λ (b : Negotiating L X). Stepped link m a left Ends b k) (sym e.1)
    (record {
      events = r.events;
      goes = goes_failed link m a (record a { codec = c }) left k r.events (Io InputEnd) alive (λ before n given sent. (at_link (includes_left r.events before (NotRead End) r.end), tt, tt)) (goes_read link m a c (Stopped End) left k alive same r);
      end = tt;
    }))
stopped_in {L} {X} link m a c FailedRead left k s new alive same rests r e =
    subst (λ (t : Step). Stepped link m a left t new k) (sym e.0) (subst (λ (b : Negotiating L X). Stepped link m a left Ends b k) (sym e.1)
    (record {
      events = r.events;
      goes = goes_failed link m a (record a { codec = c }) left k r.events (Io Fault) alive (λ before n given sent. (at_link (inl (includes_left r.events before (NotRead FailedRead) r.end)), tt, tt)) (goes_read link m a c (Stopped FailedRead) left k alive same r);
      end = tt;
    }))

-- reads, the last of which gave nothing
pub read_stopped : {L X : Type 0} (link : Ghosts L) (m : Mechanism X) (a : Negotiating L X) (c : Codec L) (stop : Stop) (left k : ℕ) (s : Step) (new : Negotiating L X) → IsAlive a.phase → m.same a.exchange a.exchange → IsAtRest m (record a { codec = c })
    → (r : ReadOn link a.codec left (Stopped stop) c k) → IsStopAnswer stop (record a { codec = c }) s new → Stepped link m a left s new k
read_stopped = stopped_in

-- reads that did not bring what was waited for
pub read_waited : {L X : Type 0} (link : Ghosts L) (m : Mechanism X) (a : Negotiating L X) (c : Codec L) (w : Wait) (left k : ℕ) (s : Step) (new : Negotiating L X) → (w ≡ Over → ⊥) → IsAlive a.phase → m.same a.exchange a.exchange → IsAtRest m (record a { codec = c })
    → (r : ReadOn link a.codec left w c k) → IsWaitAnswer w (record a { codec = c }) s new → Stepped link m a left s new k
read_waited {L} {X} link m a c Over left k s new over alive same rests r e = absurd (over refl)
read_waited {L} {X} link m a c Spent left k s new over alive same rests r e =
    subst (λ (t : Step). Stepped link m a left t new k) (sym e.0) (subst (λ (b : Negotiating L X). Stepped link m a left Waits b k) (sym e.1) (read_spent link m a c left k alive same rests r))
read_waited {L} {X} link m a c (Stopped stop) left k s new over alive same rests r e = stopped_in link m a c stop left k s new alive same rests r e

-- a body was taken
pub body_taken : {L X : Type 0} (link : Ghosts L) (m : Mechanism X) (a : Negotiating L X) (x : X) (left size start channel : ℕ) (body : SaslBody) → a.phase ≡ Frames → m.same a.exchange x
    → HasBody 1 512 a.codec.input size start channel → SpellsSasl (drop start (take size a.codec.input)) body
    → ((given sent : List SaslBody) → m.holds a.exchange given sent → m.holds x (given ++ body ∷ []) sent)
    → Stepped link m a left Goes (record { codec = record a.codec { input = drop size a.codec.input }; phase = a.phase; exchange = x }) left
body_taken link m a x left size start channel body phase same b s g = record { events = []; goes = goes_taken link m a x left size start channel body phase same b s g; end = tt }

-- a body was sent
pub body_sent : {L X : Type 0} (link : Ghosts L) (m : Mechanism X) (a : Negotiating L X) (x : X) (c : Codec L) (left : ℕ) (body : SaslBody) → a.phase ≡ Frames → m.same a.exchange x
    → c ≡ record a.codec { output = a.codec.output ++ sasl_frame body } → HasSaslFrame body
    → ((given sent : List SaslBody) → m.holds a.exchange given sent → m.holds x given (sent ++ body ∷ []))
    → Stepped link m a left Goes (record { codec = c; phase = a.phase; exchange = x }) left
body_sent link m a x c left body phase same e f g = record { events = []; goes = goes_sent link m a x c left body phase same e f g; end = tt }

-- what was queued went out, and a step followed
pub flushed_then : {L X : Type 0} (link : Ghosts L) (m : Mechanism X) (a : Negotiating L X) (c : Codec L) (b : Negotiating L X) (left n : ℕ) (s : Step) → IsAlive a.phase → m.same a.exchange a.exchange → m.same a.exchange b.exchange
    → Flushed link a.codec None c → Stepped link m (record a { codec = c }) left s b n → Stepped link m a left s b n
flushed_then link m a c b left n s alive same same' f st = stepped_then link m a (record a { codec = c }) b left left n (flush_events f.bytes None) s same' (goes_flushed link m a c None left alive same f) st

pub flushed_full : {L X : Type 0} (link : Ghosts L) (m : Mechanism X) (a : Negotiating L X) (c : Codec L) (left : ℕ) → IsAlive a.phase → m.same a.exchange a.exchange → Flushed link a.codec (Some Full) c → Stepped link m a left Waits (record a { codec = c }) left
flushed_full link m a c left alive same f = record { events = flush_events f.bytes (Some Full); goes = goes_flushed link m a c (Some Full) left alive same f; end = (inr (inl (inl refl)), inr (inl refl)) }

pub flushed_memory : {L X : Type 0} (link : Ghosts L) (m : Mechanism X) (a : Negotiating L X) (c : Codec L) (left : ℕ) → IsAlive a.phase → m.same a.exchange a.exchange → Flushed link a.codec (Some HeldMemory) c → Stepped link m a left Goes (record a { codec = c }) left
flushed_memory link m a c left alive same f = record { events = flush_events f.bytes (Some HeldMemory); goes = goes_flushed link m a c (Some HeldMemory) left alive same f; end = tt }

pub flushed_failed : {L X : Type 0} (link : Ghosts L) (m : Mechanism X) (a : Negotiating L X) (c : Codec L) (left : ℕ) → IsAlive a.phase → m.same a.exchange a.exchange → Flushed link a.codec (Some FailedWrite) c
    → Stepped link m a left Ends (record a { codec = c; phase = Failed (Io Fault) }) left
flushed_failed link m a c left alive same f =
    record {
      events = flush_events f.bytes (Some FailedWrite);
      goes = goes_failed link m a (record a { codec = c }) left left (flush_events f.bytes (Some FailedWrite)) (Io Fault) alive (λ before n given sent. (at_link (inr (inl refl)), tt, tt)) (goes_flushed link m a c (Some FailedWrite) left alive same f);
      end = tt;
    }

-- steps until nothing more can be done now
pub polled_waits : {L X : Type 0} (link : Ghosts L) (m : Mechanism X) (a b c : Negotiating L X) (l k n : ℕ) → m.same a.exchange c.exchange → Stepped link m a l Goes b k → Stepped link m b k Waits c n → Polled link m a l (Ok Pending) c n
polled_waits link m a b c l k n same p q =
    let s = stepped_then link m a b c l k n p.events Waits same p.goes q in
    record { events = s.events; goes = s.goes; answer = s.end }

answer_in : {L X : Type 0} (m : Mechanism X) (events : List LinkEvent) (c : Negotiating L X) (n : ℕ) (r : Result GatePoll NegotiationError) → IsEndAnswer m c r → IsPollAnswer m events c n r
answer_in m events c n (Ok Pending) e = absurd e
answer_in m events c n (Ok Passed) e = e
answer_in m events c n (Err x) e = e

-- steps until it has passed or failed
pub polled_ends : {L X : Type 0} (link : Ghosts L) (m : Mechanism X) (a b c : Negotiating L X) (l k n : ℕ) (r : Result GatePoll NegotiationError) → m.same a.exchange c.exchange → Stepped link m a l Goes b k → Stepped link m b k Ends c n → IsEndAnswer m c r → Polled link m a l r c n
polled_ends link m a b c l k n r same p q e =
    let s = stepped_then link m a b c l k n p.events Ends same p.goes q in
    record { events = s.events; goes = s.goes; answer = answer_in m s.events c n r e }

-- steps until memory was wanting
pub polled_memory : {L X : Type 0} (link : Ghosts L) (m : Mechanism X) (a b c : Negotiating L X) (l k n : ℕ) (error : AllocError) → m.same a.exchange c.exchange → Stepped link m a l Goes b k → Stepped link m b k Goes c n → Polled link m a l (Err (Memory error)) c n
polled_memory link m a b c l k n error same p q =
    let s = stepped_then link m a b c l k n p.events Goes same p.goes q in
    record { events = s.events; goes = s.goes; answer = tt }

-- reads, and what came of the front of the input
pub arrived : {L X : Type 0} (link : Ghosts L) (m : Mechanism X) (a : Negotiating L X) (c : Codec L) (front : Front) (w : Wait) (left k : ℕ) (s : Step) (new : Negotiating L X) → a.phase ≡ Frames → a.codec.output ≡ []
    → m.turn_of a.exchange ≡ Receive → m.same a.exchange a.exchange → ReadOn link a.codec left w c k → IsFront 1 512 c.input front → IsKnown front w → ArrivesIn link m front w (record a { codec = c }) k s new k → Stepped link m a left s new k
arrived link m a c Partial w left k s new phase out turn same r front known st =
    read_waited link m a c w left k s new (not_over w known) (alive_frames a.phase phase) same (rests_frames m c a.phase a.exchange phase (r.output ∙ out) turn front) r st
  where
    not_over : (w : Wait) → IsKnown Partial w → w ≡ Over → ⊥
    not_over Over known e = known
    not_over Spent known e = cc
    not_over (Stopped stop) known e = cc
arrived link m a c RefusedFront w left k s new phase out turn same r front known st = read_then link m a c new w left k k s (alive_frames a.phase phase) same st.goes.kept r st
arrived link m a c ForeignFront w left k s new phase out turn same r front known st = read_then link m a c new w left k k s (alive_frames a.phase phase) same st.goes.kept r st
arrived link m a c (Whole size start channel) w left k s new phase out turn same r front known st = read_then link m a c new w left k k s (alive_frames a.phase phase) same st.goes.kept r st
