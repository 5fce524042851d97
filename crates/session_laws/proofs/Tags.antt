-- The tags of the messages that a sender sends.
use Rattle.std.specs.Prelude.{◌≡◌, ℕ, ◌+◌, ◌^◌, ◌<◌, ◌≤◌, Bool, true, false, List, [], ◌∷◌, ◌++◌, if◌then◌else◌, refl}
use Rattle.std.specs.Int.{w32, from_be_bytes}
use Rattle.std.proofs.Common.{sym, ◌∙◌, ap, subst, arith}
use Rattle.std.proofs.lemmas.Nat.{from_be_bytes-to_be_bytes_4}
use Rattle.amqp_performatives.specs.declared.flow.Flow.{Flow}
use Rattle.amqp_link.specs.declared.endpoint.LinkPhase.{LinkPhase}
use Rattle.amqp_link.specs.declared.endpoint.LinkPhase.TheVariants as phase
use Rattle.amqp_link.specs.Numbers.{minus, plus}
use Rattle.amqp_sender.specs.Sender.{State}
use Rattle.amqp_sender.specs.Sending.{Made, tag_of, drained, flow_in, credit_by}
use Rattle.session_laws.specs.Messages.{Message}
use Rattle.session_laws.specs.Sending.{Move, sends, polls, parts, abandons, reattaches, stays, hears_attach, hears_flow, hears_transfer, hears_disposition, hears_detach, stops, hands_over, after, message_for, sent_if, sent_by, sent}
use Rattle.session_laws.specs.Outcomes.{IsFree, AreApart, passed_by, passed, TagsAreApart}
use Rattle.session_laws.proofs.Sends.{sending_cases, disposition_same}

-- ---- the delivery-count

abbrev IsShort : ℕ → Type 0
IsShort n = n < 4294967296

plus_short : (a n : ℕ) → IsShort (plus a n)
plus_short a n = omega arith

drained_short : (c : Bool) (s : State) → IsShort s.delivery_count → IsShort (if c then drained s else s).delivery_count
drained_short true s h = plus_short s.delivery_count s.credit
drained_short false s h = h

flow_short : (p : LinkPhase) (x : Flow) (s : State) → IsShort s.delivery_count → IsShort (flow_in p x s).delivery_count
flow_short phase.Attached x s h = drained_short x.drain (record s { credit = credit_by x s }) h
flow_short p x s h = h

short : (s : State) (m : Move) → IsShort s.delivery_count → IsShort (after s m).delivery_count
short s (sends payload format settled batchable) h =
    sending_cases (λ (m : Made). IsShort m.state.delivery_count) payload format settled batchable s (λ e. h) h (λ c f. plus_short s.delivery_count 1)
short s polls h = h
short s (parts closes error) h = h
short s abandons h = h
short s (reattaches handle) h = h
short s stays h = h
short s (hears_attach x) h = h
short s (hears_flow x) h = flow_short s.link.phase x s h
short s hears_transfer h = h
short s (hears_disposition covered settled x) h = subst (λ (n : ℕ). IsShort n) (sym (disposition_same covered settled x s).count) h
short s (hears_detach d) h = h
short s (stops why) h = h
short s hands_over h = h

-- ---- messages with their places

-- these messages have the tags of places that rise, from one on and below another
abbrev Rises : ℕ → ℕ → List Message → ℕ → Type 0
Rises base low [] high = low ≤ high
Rises base low (m ∷ ms) high = (k : ℕ) × ((low ≤ k) × (m.tag ≡ tag_of (plus base k)) × Rises base (k + 1) ms high)

lower : (base low next high : ℕ) (ms : List Message) → low ≤ next → Rises base next ms high → Rises base low ms high
lower base low next high [] l r = omega (arith, l, r)
lower base low next high (m ∷ ms) l r = (r.0, (omega (arith, l, r.1.0), r.1.1, r.1.2))

-- where nothing or one message is sent
record One (s : State) (xs : List Message) (t : State) : Type 0 where
  rises : (base low high : ℕ) (ms : List Message) → s.delivery_count ≡ plus base low → IsShort s.delivery_count → Rises base (low + minus t.delivery_count s.delivery_count) ms high → Rises base low (xs ++ ms) high

none_sent : (s t : State) → One s [] t
none_sent s t = record { rises = λ base low high ms e h r. lower base low (low + minus t.delivery_count s.delivery_count) high ms (omega arith) r }

moves_one : (n : ℕ) → IsShort n → minus (plus n 1) n ≡ 1
moves_one n h = omega arith

one_sent : (s t : State) (m : Message) → m.tag ≡ tag_of s.delivery_count → t.delivery_count ≡ plus s.delivery_count 1 → One s (m ∷ []) t
one_sent s t m e c = record {
  rises = λ base low high ms p h r. (
    low,
    (
      omega arith,
      e ∙ ap tag_of p,
      subst (λ (n : ℕ). Rises base (low + n) ms high) (ap (λ (n : ℕ). minus n s.delivery_count) c ∙ moves_one s.delivery_count h) r,
    ),
  );
}

one : (s : State) (m : Move) → One s (sent_by s m) (after s m)
one s (sends payload format settled batchable) =
    sending_cases (λ (m : Made). One s (sent_if m.answer (message_for s payload format settled batchable)) m.state) payload format settled batchable s
    (λ e. none_sent s s) (none_sent s s) (λ c f. one_sent s _ (message_for s payload format settled batchable) refl refl)
one s m = none_sent s (after s m)

-- the count goes on from the place
goes_on : (base low n m : ℕ) → n ≡ plus base low → IsShort m → IsShort n → m ≡ plus base (low + minus m n)
goes_on base low n m e h k = omega arith

all_rise : (base low : ℕ) (s : State) (ms : List Move) → s.delivery_count ≡ plus base low → IsShort s.delivery_count → Rises base low (sent s ms) (low + passed s ms)
all_rise base low s [] e h = omega arith
all_rise base low s (m ∷ ms) e h =
    let t = after s m in
    let k = short s m h in
    let next = low + passed_by s m in
    let r = all_rise base next t ms (goes_on base low s.delivery_count t.delivery_count e k h) k in
    (one s m).rises base low (low + passed s (m ∷ ms)) (sent t ms) e h (subst (λ (n : ℕ). Rises base next (sent t ms) n) (add_assoc low (passed_by s m) (passed t ms)) r)
  where
    add_assoc : (a c d : ℕ) → (a + c) + d ≡ a + (c + d)
    add_assoc a c d = omega arith

-- ---- tags

two_pow : (n : ℕ) → n < 4294967296 → n < 2 ^ 32
two_pow n h = h

same_count : (n m : ℕ) → IsShort n → IsShort m → tag_of n ≡ tag_of m → n ≡ m
same_count n m h k e = sym (from_be_bytes-to_be_bytes_4 n (two_pow n h)) ∙ (ap (from_be_bytes w32) e ∙ from_be_bytes-to_be_bytes_4 m (two_pow m k))

not_round : (base j k : ℕ) → j < k → k < j + 4294967296 → plus base j ≡ plus base k → ⊥
not_round base j k l m e = omega arith

apart : (base j k : ℕ) → j < k → k < j + 4294967296 → tag_of (plus base j) ≡ tag_of (plus base k) → ⊥
apart base j k l m e = not_round base j k l m (same_count (plus base j) (plus base k) (plus_short base j) (plus_short base k) e)

ends_below : (base low high : ℕ) (ms : List Message) → Rises base low ms high → low ≤ high
ends_below base low high [] r = r
ends_below base low high (m ∷ ms) r = (let l = ends_below base (r.0 + 1) high ms r.1.2 in omega (arith, l, r.1.0))

free : (base j low high : ℕ) (tag : List ℕ) (ms : List Message) → tag ≡ tag_of (plus base j) → j < low → high ≤ j + 4294967296 → Rises base low ms high → IsFree tag ms
free base j low high tag [] e l h r = tt
free base j low high tag (m ∷ ms) e l h r =
    let k = r.0 in
    let f = ends_below base (k + 1) high ms r.1.2 in
    (λ s. apart base j k (omega (arith, l, r.1.0)) (omega (arith, f, h)) (sym e ∙ (s ∙ r.1.1)), free base j (k + 1) high tag ms e (omega (arith, l, r.1.0)) h r.1.2)

all_apart : (base low high : ℕ) (ms : List Message) → high ≤ low + 4294967296 → Rises base low ms high → AreApart ms
all_apart base low high [] h r = tt
all_apart base low high (m ∷ ms) h r =
    let k = r.0 in
    (free base k (k + 1) high m.tag ms r.1.1 (omega arith) (omega (arith, h, r.1.0)) r.1.2, all_apart base (k + 1) high ms (omega (arith, h, r.1.0)) r.1.2)

from_nothing : (n : ℕ) → IsShort n → n ≡ plus n 0
from_nothing n h = omega arith

pub tags_are_apart : TagsAreApart
tags_are_apart s ms h k = all_apart s.delivery_count 0 (0 + passed s ms) (sent s ms) (omega (arith, k)) (all_rise s.delivery_count 0 s ms (from_nothing s.delivery_count h) h)
