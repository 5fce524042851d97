-- What a negotiation went through, joined.
use Rattle.std.proofs.Common.{◌≡◌, ◌<◌, ◌≤◌, ◌+◌, ◌-◌, inl, inr, ℕ, List, [], ◌∷◌, ◌++◌, length, take, drop, Option, Some, None, refl, sym, ap, ◌∙◌, subst, append_assoc, arith}
use Rattle.std.specs.Prelude.{flat_map, slice_index}
use Rattle.std.proofs.lemmas.List.{append-nil, take-append-drop, length-take-le, drop-take}
use Rattle.std.proofs.lemmas.List.Elements.{All-nil, All-push}
use Rattle.std.proofs.lemmas.Grind.{flat_map-append, common_steps}
use Rattle.sasl_exchange.specs.amqp_sasl_bodies.declared.sasl_body.SaslBody.{SaslBody}
use Rattle.sasl_exchange.specs.amqp_sasl_bodies.SaslBytes.{SpellsSasl}
use Rattle.amqp_wire.specs.declared.link.Link.{Ghosts}
use Rattle.amqp_wire.specs.declared.link.Held.{Held}
use Rattle.amqp_wire.specs.declared.reading.Wait.{Wait}
use Rattle.amqp_wire.specs.Codec.{Codec, Flushed}
use Rattle.amqp_wire.specs.Steps.{Took, WroteBy}
use Rattle.amqp_wire.specs.Size.{size_of}
use Rattle.amqp_wire.specs.Frame.{HasBody}
use Rattle.amqp_wire.specs.Events.{LinkEvent, Wrote, NotWritten, Went, read_of, wrote_of, reads_in}
use Rattle.amqp_wire.specs.Reading.{ReadOn}
use Rattle.amqp_wire.proofs.Events.{went_then, read_of-append, wrote_of-append, reads_in-append, includes_left}
use Rattle.sasl_exchange.specs.declared.error.NegotiationError.{NegotiationError}
use Rattle.sasl_exchange.specs.declared.exchange.Exchange.{Ghosts as Mechanism}
use Rattle.sasl_gate.specs.declared.gate.negotiation.Phase.{Phase}
use Rattle.sasl_gate.specs.declared.gate.negotiation.Phase.TheVariants.{Header, Frames, Failed}
use Rattle.sasl_gate.specs.declared.gate.negotiation.Step.{Step}
use Rattle.sasl_gate.specs.declared.gate.negotiation.Step.TheVariants.{Goes, Waits, Ends}
use Rattle.sasl_gate.specs.Frames.{sasl_header, IsSaslFrame, Carries, HasSaslFrame, Heard, sasl_frame, said}
use Rattle.sasl_gate.specs.Negotiation.{Negotiating, IsCaused, IsCauseAfter, IsOutcomeOut, HasHeader, HasFrames, HasFailure, HasIn, Has, IsHeldUp, IsAtRestOrFull, GoesOn}
use Rattle.sasl_gate.specs.Steps.{IsStepEnd, Stepped, IsAlive}

-- nothing happened
pub goes_none : {L X : Type 0} (link : Ghosts L) (m : Mechanism X) (a : Negotiating L X) (left : ℕ) → m.same a.exchange a.exchange → GoesOn link m a left [] a left
goes_none link m a left s = record { went = refl; counted = omega arith; kept = s; grows = λ before h. h }

-- one thing after another
pub goes_then : {L X : Type 0} (link : Ghosts L) (m : Mechanism X) (a b c : Negotiating L X) (l k n : ℕ) (es fs : List LinkEvent) → m.same a.exchange c.exchange → GoesOn link m a l es b k → GoesOn link m b k fs c n → GoesOn link m a l (fs ++ es) c n
goes_then {L} {X} link m a b c l k n es fs s p q =
    record {
      went = went_then link a.codec.link b.codec.link c.codec.link es fs p.went q.went;
      counted = omega (arith, reads_in-append fs es, p.counted, q.counted);
      kept = s;
      grows = λ before h. subst (λ (u : List LinkEvent). Has m c u) (sym (append_assoc fs es before)) (q.grows (es ++ before) (p.grows before h));
    }

-- what is true of the later events is true of all
pub held_later : (es fs : List LinkEvent) (left : ℕ) → IsHeldUp fs left → IsHeldUp (fs ++ es) left
held_later es fs left (inl p) = inl (includes_left fs es _ p)
held_later es fs left (inr (inl p)) = inr (inl (includes_left fs es _ p))
held_later es fs left (inr (inr p)) = inr (inr p)

rests_later : {L X : Type 0} (m : Mechanism X) (es fs : List LinkEvent) (n : Negotiating L X) → IsAtRestOrFull m fs n → IsAtRestOrFull m (fs ++ es) n
rests_later m es fs n (inl p) = inl p
rests_later m es fs n (inr p) = inr (includes_left fs es _ p)

end_later : {L X : Type 0} (m : Mechanism X) (s : Step) (es fs : List LinkEvent) (n : Negotiating L X) (left : ℕ) → IsStepEnd m s fs n left → IsStepEnd m s (fs ++ es) n left
end_later m Goes es fs n left p = tt
end_later m Waits es fs n left p = (held_later es fs left p.0, rests_later m es fs n p.1)
end_later m Ends es fs n left p = tt

-- a step after that
pub stepped_then : {L X : Type 0} (link : Ghosts L) (m : Mechanism X) (a b c : Negotiating L X) (l k n : ℕ) (es : List LinkEvent) (s : Step) → m.same a.exchange c.exchange → GoesOn link m a l es b k → Stepped link m b k s c n → Stepped link m a l s c n
stepped_then link m a b c l k n es s same p q =
    record { events = q.events ++ es; goes = goes_then link m a b c l k n es q.events same p q.goes; end = end_later m s es q.events c n q.end }

-- more bytes behind what was heard
pub carries_more : (bytes more rest : List ℕ) (xs : List SaslBody) → Carries bytes xs rest → Carries (bytes ++ more) xs (rest ++ more)
carries_more bytes more rest [] c = ap (λ (u : List ℕ). u ++ more) c
carries_more bytes more rest (x ∷ xs) c = (c.0, c.1 ++ more, ap (λ (u : List ℕ). u ++ more) c.2 ∙ append_assoc c.0 c.1 more, c.3, carries_more c.1 more rest xs c.4)

pub heard_more : (read more rest : List ℕ) (xs : List SaslBody) → Heard read xs rest → Heard (read ++ more) xs (rest ++ more)
heard_more read more rest xs h =
    record { tail = h.tail ++ more; header = ap (λ (u : List ℕ). u ++ more) h.header ∙ append_assoc sasl_header h.tail more; frames = carries_more h.tail more rest xs h.frames }

-- one frame more
carries_push : (bytes piece rest : List ℕ) (xs : List SaslBody) (x : SaslBody) → Carries bytes xs (piece ++ rest) → IsSaslFrame piece x → Carries bytes (xs ++ x ∷ []) rest
carries_push bytes piece rest [] x c f = (piece, rest, c, f, refl)
carries_push bytes piece rest (y ∷ ys) x c f = (c.0, c.1, c.2, c.3, carries_push c.1 piece rest ys x c.4 f)

pub heard_push : (read piece rest : List ℕ) (xs : List SaslBody) (x : SaslBody) → Heard read xs (piece ++ rest) → IsSaslFrame piece x → Heard read (xs ++ x ∷ []) rest
heard_push read piece rest xs x h f = record { tail = h.tail; header = h.header; frames = carries_push h.tail piece rest xs x h.frames f }

-- one body more was said
pub said-push : (xs : List SaslBody) (x : SaslBody) → said (xs ++ x ∷ []) ≡ said xs ++ sasl_frame x
said-push xs x =
    ap (λ (u : List ℕ). sasl_header ++ u) (flat_map-append sasl_frame xs (x ∷ []) ∙ ap (λ (u : List ℕ). flat_map sasl_frame xs ++ u) (append-nil (sasl_frame x)))
    ∙ sym (append_assoc sasl_header (flat_map sasl_frame xs) (sasl_frame x))

-- other bytes were read and written, and the rest is as it was
has_moved : {L X : Type 0} (m : Mechanism X) (p : Phase) (a : Negotiating L X) (c : Codec L) (before after : List LinkEvent) (more : List ℕ) → IsAlive p
    → read_of after ≡ read_of before ++ more → c.input ≡ a.codec.input ++ more → wrote_of after ++ c.output ≡ wrote_of before ++ a.codec.output
    → HasIn m p a before → HasIn m p (record a { codec = c }) after
has_moved m Header a c before after more alive r i w h =
    record { read = r ∙ ap (λ (u : List ℕ). u ++ more) h.read ∙ sym i; wrote = w ∙ h.wrote; held = h.held }
has_moved m Frames a c before after more alive r i w h =
    record {
      given = h.given;
      sent = h.sent;
      heard = subst (λ (u : List ℕ). Heard u h.given c.input) (sym r) (subst (λ (u : List ℕ). Heard (read_of before ++ more) h.given u) (sym i) (heard_more (read_of before) more a.codec.input h.given h.heard));
      wrote = w ∙ h.wrote;
      framed = h.framed;
      held = h.held;
    }
has_moved m (Failed e) a c before after more alive r i w h = absurd alive

-- the events of a flush, the newest first
abbrev pub flush_events : List ℕ → Option Held → List LinkEvent
flush_events bytes None = Wrote bytes ∷ []
flush_events bytes (Some held) = NotWritten held ∷ Wrote bytes ∷ []

flush_went : {L : Type 0} (link : Ghosts L) (a b : L) (bytes : List ℕ) (held : Option Held) → WroteBy link a bytes held b → Went link a (flush_events bytes held) b
flush_went {L} link a b bytes None w = (a, refl, subst (λ (x : L). Took link a bytes x) (sym w.last) w.took)
flush_went link a b bytes (Some held) w = (w.mid, (a, refl, w.took), w.last)

flush_read : (bytes : List ℕ) (held : Option Held) (before : List LinkEvent) → read_of (flush_events bytes held ++ before) ≡ read_of before ++ []
flush_read bytes None before = sym (append-nil (read_of before))
flush_read bytes (Some held) before = sym (append-nil (read_of before))

flush_wrote : (bytes : List ℕ) (held : Option Held) (before : List LinkEvent) → wrote_of (flush_events bytes held ++ before) ≡ wrote_of before ++ bytes
flush_wrote bytes None before = refl
flush_wrote bytes (Some held) before = refl

flush_reads : (bytes : List ℕ) (held : Option Held) → reads_in (flush_events bytes held) ≡ 0
flush_reads bytes None = refl
flush_reads bytes (Some held) = refl

-- what was queued went out
pub goes_flushed : {L X : Type 0} (link : Ghosts L) (m : Mechanism X) (a : Negotiating L X) (c : Codec L) (held : Option Held) (left : ℕ) → IsAlive a.phase → m.same a.exchange a.exchange → (f : Flushed link a.codec held c) → GoesOn link m a left (flush_events f.bytes held) (record a { codec = c }) left
goes_flushed {L} link m a c held left alive s f =
    let i : c.input ≡ a.codec.input = ap (λ (k : Codec L). k.input) f.rest in
    record {
      went = flush_went link a.codec.link c.link f.bytes held f.writes;
      counted = omega (arith, flush_reads f.bytes held);
      kept = s;
      grows = λ before h. has_moved m a.phase a c before (flush_events f.bytes held ++ before) [] alive (flush_read f.bytes held before) (i ∙ sym (append-nil a.codec.input))
          (ap (λ (u : List ℕ). u ++ c.output) (flush_wrote f.bytes held before) ∙ append_assoc (wrote_of before) f.bytes c.output ∙ ap (λ (u : List ℕ). wrote_of before ++ u) (sym f.out)) h;
    }

-- bytes came in
pub goes_read : {L X : Type 0} (link : Ghosts L) (m : Mechanism X) (a : Negotiating L X) (c : Codec L) (w : Wait) (left left' : ℕ) → IsAlive a.phase → m.same a.exchange a.exchange → (r : ReadOn link a.codec left w c left') → GoesOn link m a left r.events (record a { codec = c }) left'
goes_read link m a c w left left' alive s r =
    record {
      went = r.went;
      counted = r.counted;
      kept = s;
      grows = λ before h. has_moved m a.phase a c before (r.events ++ before) (read_of r.events) alive (read_of-append r.events before) r.input
          (ap (λ (u : List ℕ). wrote_of (r.events ++ before) ++ u) r.output ∙ ap (λ (u : List ℕ). u ++ a.codec.output) (wrote_of-append r.events before ∙ ap (λ (u : List ℕ). wrote_of before ++ u) r.silent ∙ append-nil (wrote_of before))) h;
    }

-- why it fails, after it was given these bodies and sent those
abbrev pub Failing : {L X : Type 0} → Mechanism X → Negotiating L X → NegotiationError → List LinkEvent → List SaslBody → List SaslBody → Type 0
Failing m b e events given sent =
    (c : IsCaused (m.causes b.exchange) (m.owes b.exchange) e events) × IsCauseAfter (m.causes b.exchange) (m.owes b.exchange) (m.turn_of b.exchange) e events given sent c × IsOutcomeOut e events sent

failed_in : {L X : Type 0} (m : Mechanism X) (p : Phase) (b : Negotiating L X) (e : NegotiationError) (events : List LinkEvent) → IsAlive p
    → ((given sent : List SaslBody) → Failing m b e events given sent) → HasIn m p b events → HasFailure m e b events
failed_in m Header b e events alive c h =
    record { given = []; sent = []; heard = inl refl; wrote = h.wrote; framed = All-nil HasSaslFrame; held = h.held; cause = (c [] []).0; after = (c [] []).1; told = (c [] []).2 }
failed_in m Frames b e events alive c h = record {
  given = h.given;
  sent = h.sent;
  heard = inr (b.codec.input, h.heard);
  wrote = h.wrote;
  framed = h.framed;
  held = h.held;
  cause = (c h.given h.sent).0;
  after = (c h.given h.sent).1;
  told = (c h.given h.sent).2;
}
failed_in m (Failed x) b e events alive c h = absurd alive

-- what was heard, said and held does not depend on the phase
pub failed_as : {L X : Type 0} (m : Mechanism X) (b : Negotiating L X) (e : NegotiationError) (events : List LinkEvent) → HasFailure m e b events → HasFailure m e (record b { phase = Failed e }) events
failed_as m b e events f =
    record { given = f.given; sent = f.sent; heard = f.heard; wrote = f.wrote; framed = f.framed; held = f.held; cause = f.cause; after = f.after; told = f.told }

-- it failed after that, not by a body
pub goes_failed : {L X : Type 0} (link : Ghosts L) (m : Mechanism X) (a b : Negotiating L X) (l k : ℕ) (es : List LinkEvent) (e : NegotiationError) → IsAlive b.phase
    → ((before : List LinkEvent) → Has m b (es ++ before) → (given sent : List SaslBody) → Failing m b e (es ++ before) given sent)
    → GoesOn link m a l es b k → GoesOn link m a l es (record b { phase = Failed e }) k
goes_failed {L} {X} link m a b l k es e alive cause g =
    record {
      went = g.went;
      counted = g.counted;
      kept = g.kept;
      grows = λ before h. let n : Has m b (es ++ before) = g.grows before h in failed_as m b e (es ++ before) (failed_in m b.phase b e (es ++ before) alive (cause before n) n);
    }

-- it failed while frames are read and written
pub goes_refused : {L X : Type 0} (link : Ghosts L) (m : Mechanism X) (a : Negotiating L X) (left : ℕ) (e : NegotiationError) → a.phase ≡ Frames → m.same a.exchange a.exchange
    → ((before : List LinkEvent) (n : HasFrames m a before) → Failing m a e before n.given n.sent) → GoesOn link m a left [] (record a { phase = Failed e }) left
goes_refused {L} {X} link m a left e phase s cause =
    record {
      went = refl;
      counted = omega arith;
      kept = s;
      grows = λ before h.
          let n : HasFrames m a before = subst (λ (p : Phase). HasIn m p a before) phase h in
          let c = cause before n in
          record {
            given = n.given;
            sent = n.sent;
            heard = inr (a.codec.input, n.heard);
            wrote = n.wrote;
            framed = n.framed;
            held = n.held;
            cause = c.0;
            after = c.1;
            told = c.2;
          };
    }

-- the SASL header was read
pub goes_header : {L X : Type 0} (link : Ghosts L) (m : Mechanism X) (a : Negotiating L X) (left : ℕ) → a.phase ≡ Header → m.same a.exchange a.exchange → take 8 a.codec.input ≡ sasl_header
    → GoesOn link m a left [] (record a { codec = record a.codec { input = drop 8 a.codec.input }; phase = Frames }) left
goes_header {L} {X} link m a left phase s t =
    record {
      went = refl;
      counted = omega arith;
      kept = s;
      grows = λ before h.
          let n : HasHeader m a before = subst (λ (p : Phase). HasIn m p a before) phase h in
          record {
            given = [];
            sent = [];
            heard = record { tail = drop 8 a.codec.input; header = n.read ∙ sym (take-append-drop 8 a.codec.input) ∙ ap (λ (u : List ℕ). u ++ drop 8 a.codec.input) t; frames = refl };
            wrote = n.wrote;
            framed = All-nil HasSaslFrame;
            held = n.held;
          };
    }

take_index : (bytes : List ℕ) (size i : ℕ) → i < size → size ≤ length bytes → slice_index (take size bytes) i ≡ slice_index bytes i
take_index bytes size i h l = grind (arith, common_steps)

-- a frame that was cut off is one
pub frame_cut : (bytes : List ℕ) (size start channel : ℕ) (x : SaslBody) → HasBody 1 512 bytes size start channel → SpellsSasl (drop start (take size bytes)) x → IsSaslFrame (take size bytes) x
frame_cut bytes size start channel x b s =
    let all : size ≤ length bytes = subst (λ (n : ℕ). n ≤ length bytes) (sym b.size_is) b.whole.all in
    let least : 8 ≤ size = subst (λ (n : ℕ). 8 ≤ n) (sym b.size_is) b.whole.size.least in
    let len : length (take size bytes) ≡ size = length-take-le size bytes all in
    let i0 : slice_index (take size bytes) 0 ≡ slice_index bytes 0 = take_index bytes size 0 (omega arith) all in
    let i1 : slice_index (take size bytes) 1 ≡ slice_index bytes 1 = take_index bytes size 1 (omega arith) all in
    let i2 : slice_index (take size bytes) 2 ≡ slice_index bytes 2 = take_index bytes size 2 (omega arith) all in
    let i3 : slice_index (take size bytes) 3 ≡ slice_index bytes 3 = take_index bytes size 3 (omega arith) all in
    let i4 : slice_index (take size bytes) 4 ≡ slice_index bytes 4 = take_index bytes size 4 (omega arith) all in
    let i5 : slice_index (take size bytes) 5 ≡ slice_index bytes 5 = take_index bytes size 5 (omega arith) all in
    let i6 : slice_index (take size bytes) 6 ≡ slice_index bytes 6 = take_index bytes size 6 (omega arith) all in
    let i7 : slice_index (take size bytes) 7 ≡ slice_index bytes 7 = take_index bytes size 7 (omega arith) all in
    let named : size_of (take size bytes) ≡ size = omega (arith, b.size_is) in
    record {
      start = start;
      channel = channel;
      body = record {
        whole = record {
          size = record { there = omega arith; least = omega arith; most = omega (arith, b.size_is, b.whole.size.most) };
          all = omega arith;
        };
        size_is = omega arith;
        start_is = omega (arith, b.start_is);
        channel_is = omega (arith, b.channel_is);
        least = b.least;
        most = omega (arith, b.most);
        type = i5 ∙ b.type;
      };
      spelled = s;
    }

-- a body was taken
pub goes_taken : {L X : Type 0} (link : Ghosts L) (m : Mechanism X) (a : Negotiating L X) (x : X) (left size start channel : ℕ) (body : SaslBody) → a.phase ≡ Frames → m.same a.exchange x
    → HasBody 1 512 a.codec.input size start channel → SpellsSasl (drop start (take size a.codec.input)) body
    → ((given sent : List SaslBody) → m.holds a.exchange given sent → m.holds x (given ++ body ∷ []) sent)
    → GoesOn link m a left [] (record { codec = record a.codec { input = drop size a.codec.input }; phase = a.phase; exchange = x }) left
goes_taken {L} {X} link m a x left size start channel body phase s b spelled g =
    record {
      went = refl;
      counted = omega arith;
      kept = s;
      grows = λ before h.
          let n : HasFrames m a before = subst (λ (p : Phase). HasIn m p a before) phase h in
          let new : Negotiating L X = record { codec = record a.codec { input = drop size a.codec.input }; phase = a.phase; exchange = x } in
          let result : HasFrames m new before = record {
            given = n.given ++ body ∷ [];
            sent = n.sent;
            heard = heard_push (read_of before) (take size a.codec.input) (drop size a.codec.input) n.given body (subst (λ (u : List ℕ). Heard (read_of before) n.given u) (sym (take-append-drop size a.codec.input)) n.heard) (frame_cut a.codec.input size start channel body b spelled);
            wrote = n.wrote;
            framed = n.framed;
            held = g n.given n.sent n.held;
          } in
          subst (λ (p : Phase). HasIn m p new before) (sym phase) result;
    }

-- a body was sent
pub goes_sent : {L X : Type 0} (link : Ghosts L) (m : Mechanism X) (a : Negotiating L X) (x : X) (c : Codec L) (left : ℕ) (body : SaslBody) → a.phase ≡ Frames → m.same a.exchange x
    → c ≡ record a.codec { output = a.codec.output ++ sasl_frame body } → HasSaslFrame body
    → ((given sent : List SaslBody) → m.holds a.exchange given sent → m.holds x given (sent ++ body ∷ []))
    → GoesOn link m a left [] (record { codec = c; phase = a.phase; exchange = x }) left
goes_sent {L} {X} link m a x c left body phase s e f g =
    record {
      went = ap (λ (k : Codec L). k.link) e;
      counted = omega arith;
      kept = s;
      grows = λ before h.
          let n : HasFrames m a before = subst (λ (p : Phase). HasIn m p a before) phase h in
          let new : Negotiating L X = record { codec = c; phase = a.phase; exchange = x } in
          let result : HasFrames m new before = record {
            given = n.given;
            sent = n.sent ++ body ∷ [];
            heard = subst (λ (u : List ℕ). Heard (read_of before) n.given u) (sym (ap (λ (k : Codec L). k.input) e)) n.heard;
            wrote = ap (λ (u : List ℕ). wrote_of before ++ u) (ap (λ (k : Codec L). k.output) e) ∙ sym (append_assoc (wrote_of before) a.codec.output (sasl_frame body)) ∙ ap (λ (u : List ℕ). u ++ sasl_frame body) n.wrote ∙ sym (said-push n.sent body);
            framed = All-push HasSaslFrame n.sent body n.framed f;
            held = g n.given n.sent n.held;
          } in
          subst (λ (p : Phase). HasIn m p new before) (sym phase) result;
    }

-- the body of a frame, cut in two ways
pub cut_same : (bytes : List ℕ) (start size : ℕ) → start ≤ size → take (size - start) (drop start bytes) ≡ drop start (take size bytes)
cut_same bytes start size h =
    let e : start + (size - start) ≡ size = omega arith in
    sym (drop-take start (size - start) bytes) ∙ ap (λ (n : ℕ). drop start (take n bytes)) e
