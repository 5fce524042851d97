-- From the receiver that gives credit to the sender that uses it (as `sends_what_is_granted` of session_laws, of which
-- the steps are taken again from what is known here of the frames that are heard).
use Rattle.std.specs.Prelude.{◌≡◌, ◌≢◌, ◌⊎◌, ℕ, ◌-◌, ◌<◌, nat_eq, Bool, true, false, List, [], ◌∷◌, ◌++◌, map, flat_map, Option, Some, None, unwrap_or, refl}
use Rattle.std.proofs.Common.{sym, ◌∙◌, ap, subst, inl, inr, arith}
use Rattle.std.proofs.lemmas.Bool.Decides.{nat_tests}
use Rattle.amqp_performatives.specs.declared.disposition.Disposition.{Disposition}
use Rattle.amqp_performatives.specs.declared.flow.Flow.{Flow}
use Rattle.amqp_frames.specs.declared.body.FrameBody.{FrameBody}
use Rattle.amqp_frames.specs.declared.body.FrameBody.TheVariants as b
use Rattle.amqp_link.specs.declared.endpoint.LinkPhase.{LinkPhase}
use Rattle.amqp_link.specs.declared.endpoint.LinkPhase.TheVariants as phase
use Rattle.amqp_link.specs.Numbers.{minus}
use Rattle.amqp_receiver.specs.Receiver.{State as Receiver}
use Rattle.amqp_sender.specs.Sender.{State as Sender}
use Rattle.amqp_session.specs.State.{State as Session}
use Rattle.session_laws.specs.Messages.{Message}
use Rattle.session_laws.specs.Sending.{Move, hears_flow, reattaches, after, after_all, sent_by, Grant, grant_in, granted_in, granted, granted_all, Keeps, AllShort}
use Rattle.session_laws.specs.Holding as session
use Rattle.session_laws.specs.Handing.{handed_over, heard}
use Rattle.session_laws.specs.Receiving as receiving
use Rattle.session_laws.specs.Settling.{IsAmong}
use Rattle.session_laws.specs.Speaking.{bodies, flows, flow_if, is_on, flow_on, flows_on, brought, spoken}
use Rattle.session_laws.specs.Giving.{Ruling, given, written}
use Rattle.session_laws.specs.Crediting as crediting
use Rattle.session_laws.specs.Crediting.{IsTold, AreTold, grants_at, counts_by, counts, flows_by, flows_heard, IsGranted, AreGranted}
use Rattle.session_laws.proofs.Gives.{Says, says_over_life}
use Rattle.session_laws.proofs.Lists.{Each, each_at, each_all, among_first, among_last, either, none_among, are_at, among_flat}
use Rattle.session_laws.proofs.Returns.{Any}
use Rattle.session_laws.proofs.Sends.{Kept, keeps, nothing_given, sends_for_credit}
use Rattle.world_lives.specs.OutcomeLives.Granting.{Way, no_grant, CreditIsGranted}
use Rattle.world_lives.proofs.OutcomeLives.Carries.{Lasts, bodies_each, gets_all, brought_all, writes_said, hands_said}

-- ---- what the receiver writes

-- that count and that credit were given
abbrev Gives : List Grant → Option ℕ → Option ℕ → Type 0
Gives gave count credit = (g : Grant) × (IsAmong g gave × (count ≡ Some g.count) × (credit ≡ Some g.credit))

abbrev grant_of : ℕ → ℕ → Grant
grant_of count credit = record { count = count; credit = credit }

told_grants : (x : Flow) (count credit : ℕ) (o p : Option ℕ) → o ≡ Some count → p ≡ Some credit → IsAmong (record { count = count; credit = credit }) (grants_at o p)
told_grants x count credit None p h k = absurd cc
told_grants x count credit (Some n) None h k = absurd cc
told_grants x count credit (Some n) (Some m) h k =
    let e : count ≡ n = cc in
    let f : credit ≡ m = cc in
    inl (ap (λ (y : ℕ). grant_of y credit) e ∙ ap (λ (y : ℕ). grant_of n y) f)

told_gives : (xs : List Flow) (x : Flow) → IsAmong x xs → IsTold x → Gives (flat_map crediting.grant_in xs) x.delivery_count x.link_credit
told_gives xs x a h =
    let g : Grant = record { count = h.count; credit = h.credit } in
    (g, (among_flat crediting.grant_in xs x g a (told_grants x h.count h.credit x.delivery_count x.link_credit h.says_count h.says_credit), h.says_count, h.says_credit))

-- at first each Flow says both
says_first : (xs : List FrameBody) → AreTold (flows xs) → Each (Says IsTold (Any {X = Disposition})) xs
says_first [] h = tt
says_first (b.Flow x ∷ xs) h = (h.0, says_first xs h.1)
says_first (b.Disposition x ∷ xs) h = (tt, says_first xs h)
says_first (x ∷ xs) h = (tt, says_first xs h)

flow_told : (xs : List FrameBody) → Each (Says IsTold (Any {X = Disposition})) xs → Each IsTold (flows xs)
flow_told [] h = tt
flow_told (b.Flow x ∷ xs) h = (h.0, flow_told xs h.1)
flow_told (b.Disposition x ∷ xs) h = flow_told xs h.1
flow_told (x ∷ xs) h = flow_told xs h.1

receiver_gives : (r : Receiver) (ks : List receiving.Move) → AreTold (flows r.link.output) → r.book.orders ≡ [] → (x : Flow) → IsAmong x (flows (written r ks)) → Gives (crediting.granted r ks) x.delivery_count x.link_credit
receiver_gives r ks h o x a =
    let told = given r ks in
    let says = says_over_life IsTold (λ y t. t) told (Any {X = Disposition}) (λ y u. tt) r ks (each_all (λ (y : Ruling). IsAmong y told) told (λ y i. i)) (says_first r.link.output h) o in
    told_gives (flows (written r ks)) x a (each_at IsTold (flows (written r ks)) x a (flow_told (written r ks) says))

-- ---- from session to session

-- what is said on the handle was given
abbrev At : ℕ → List Grant → Option ℕ → Option ℕ → Option ℕ → Type 0
At handle gave None count credit = Unit {0}
At handle gave (Some h) count credit = h ≡ handle → Gives gave count credit

abbrev Grants : ℕ → List Grant → Flow → Type 0
Grants handle gave x = At handle gave x.handle x.delivery_count x.link_credit

abbrev Given : List Grant → Flow → Type 0
Given gave y = Gives gave y.delivery_count y.link_credit

grants_last : (handle : ℕ) (gave : List Grant) → Lasts (Grants handle gave)
grants_last handle gave = record { stamps = λ w x h. h; reports = λ w. tt }

eq_of : (a c : ℕ) → a ≡ c → nat_eq a c ≡ true
eq_of a c h = grind (arith, nat_tests)

at_by : (handle : ℕ) (gave : List Grant) (x : Flow) (o : Option ℕ) → ((y : Flow) → IsAmong y (flow_if (is_on handle o) x) → Given gave y) → At handle gave o x.delivery_count x.link_credit
at_by handle gave x None f = tt
at_by handle gave x (Some h) f = λ e. f x (subst (λ (c : Bool). IsAmong x (flow_if c x)) (sym (eq_of h handle e)) (inl refl))

says_one : (handle : ℕ) (gave : List Grant) (x : FrameBody) → ((y : Flow) → IsAmong y (flow_on handle x) → Given gave y) → Says (Grants handle gave) (Any {X = Disposition}) x
says_one handle gave (b.Flow x) f = at_by handle gave x x.handle f
says_one handle gave other f = tt

says_all : (handle : ℕ) (gave : List Grant) (xs : List FrameBody) → ((y : Flow) → IsAmong y (flows_on handle xs) → Given gave y) → Each (Says (Grants handle gave) (Any {X = Disposition})) xs
says_all handle gave [] f = tt
says_all handle gave (x ∷ xs) f =
    (says_one handle gave x (λ y a. f y (among_first y (flow_on handle x) (flows_on handle xs) a)), says_all handle gave xs (λ y a. f y (among_last y (flow_on handle x) (flows_on handle xs) a)))

-- and back
got_if : (handle : ℕ) (gave : List Grant) (h : ℕ) (x y : Flow) (c : Bool) → nat_eq h handle ≡ c → (h ≡ handle → Given gave x) → IsAmong y (flow_if c x) → Given gave y
got_if handle gave h x y true e f (inl i) = subst (λ (z : Flow). Given gave z) (sym i) (f (grind (arith, nat_tests)))
got_if handle gave h x y true e f (inr a) = absurd a
got_if handle gave h x y false e f a = absurd a

got_at : (handle : ℕ) (gave : List Grant) (o : Option ℕ) (x y : Flow) → At handle gave o x.delivery_count x.link_credit → IsAmong y (flow_if (is_on handle o) x) → Given gave y
got_at handle gave None x y f a = absurd a
got_at handle gave (Some h) x y f a = got_if handle gave h x y (nat_eq h handle) refl f a

said_one : (handle : ℕ) (gave : List Grant) (x : FrameBody) (y : Flow) → Says (Grants handle gave) (Any {X = Disposition}) x → IsAmong y (flow_on handle x) → Given gave y
said_one handle gave (b.Flow x) y h a = got_at handle gave x.handle x y h a
said_one handle gave other y h a = absurd a

said_all : (handle : ℕ) (gave : List Grant) (xs : List FrameBody) (y : Flow) → Each (Says (Grants handle gave) (Any {X = Disposition})) xs → IsAmong y (flows_on handle xs) → Given gave y
said_all handle gave [] y h a = absurd a
said_all handle gave (x ∷ xs) y h a = by (λ i. said_all handle gave xs y h.1 i) (either y (flow_on handle x) (flows_on handle xs) a)
  where
    by : (IsAmong y (flows_on handle xs) → Given gave y) → IsAmong y (flow_on handle x) ⊎ IsAmong y (flows_on handle xs) → Given gave y
    by f (inl i) = said_one handle gave x y h.0 i
    by f (inr i) = f i

-- what the sender hears was given
heard_given : (handle : ℕ) (s : Sender) (ms : List Move) (t : Session) (ns : List session.Move) (u : Session) (js : List session.Move) (r : Receiver) (ks : List receiving.Move) → Way handle s ms t ns u js r ks
    → (y : Flow) → IsAmong y (flows_heard ms) → Given (crediting.granted r ks) y
heard_given handle s ms t ns u js r ks p y i =
    let gave = crediting.granted r ks in
    let F = Grants handle gave in
    let D = Any {X = Disposition} in
    let gives = receiver_gives r ks p.told p.orders in
    let spoke = says_all handle gave (spoken u js) (λ z a. gives z (are_at (flows_on handle (spoken u js)) (flows (written r ks)) z p.takes a)) in
    let first = says_all handle gave (bodies u.output) (λ z a. none_among {P = Given gave z} z (flows_on handle (bodies u.output)) p.unsaid a) in
    let wrote = writes_said F D (grants_last handle gave) u js spoke first in
    let read = says_all handle gave (bodies (heard ns))
    (λ z a. said_all handle gave (bodies (session.written u js)) z (bodies_each (Says F D) (session.written u js) wrote) (are_at (flows_on handle (bodies (heard ns))) (flows_on handle (bodies (session.written u js))) z p.hears a)) in
    let old = says_all handle gave (brought t.incoming) (λ z a. none_among {P = Given gave z} z (flows_on handle (brought t.incoming)) p.unhanded a) in
    let got = brought_all F D (handed_over t ns) (hands_said F D t ns read (gets_all F D t.incoming old)) in
    said_all handle gave (brought (handed_over t ns)) y got (are_at (flows_heard ms) (flows_on handle (brought (handed_over t ns))) y p.learns i)

-- ---- the sender

-- what was given last was given by the receiver, or is nothing
abbrev Was : List Grant → Grant → Type 0
Was gave g = (g.credit ≡ 0) ⊎ IsAmong g gave

or_same : (o : Option ℕ) (n m : ℕ) → o ≡ Some n → unwrap_or o m ≡ n
or_same None n m h = absurd cc
or_same (Some k) n m h = cc

was_flow : (gave : List Grant) (x : Flow) (s : Sender) → Given gave x → Was gave (grant_in x s)
was_flow gave x s h =
    let first = unwrap_or s.link.own.initial_delivery_count 0 in
    let e : unwrap_or x.delivery_count first ≡ h.0.count = or_same x.delivery_count h.0.count first h.1.1 in
    let f : unwrap_or x.link_credit 0 ≡ h.0.credit = or_same x.link_credit h.0.credit 0 h.1.2 in
    inr (subst (λ (g : Grant). IsAmong g gave) (sym (ap (λ (n : ℕ). grant_of n (unwrap_or x.link_credit 0)) e ∙ ap (λ (n : ℕ). grant_of h.0.count n) f)) h.1.0)

was_in : (p : LinkPhase) (gave : List Grant) (x : Flow) (s : Sender) (g : Grant) → Given gave x → Was gave g → Was gave (granted_in p x s g)
was_in phase.Attached gave x s g h w = was_flow gave x s h
was_in p gave x s g h w = w

was : (gave : List Grant) (s : Sender) (m : Move) (g : Grant) → ((y : Flow) → IsAmong y (flows_by m) → Given gave y) → Was gave g → Was gave (granted s m g)
was gave s (hears_flow x) g f w = was_in s.link.phase gave x s g (f x (inl refl)) w
was gave s (reattaches handle) g f w = inl refl
was gave s m g f w = w

-- there is credit: so it was given
none_left_of : (credit n : ℕ) → credit ≡ 0 → 0 < credit - n → ⊥
none_left_of credit n e h = omega arith

given_for : (gave : List Grant) (g : Grant) (s : Sender) → Keeps g s → Was gave g → 0 < s.credit → IsGranted gave s.delivery_count
given_for gave g s k (inl e) h = absurd (none_left_of g.credit (minus s.delivery_count g.count) e (subst (λ (n : ℕ). 0 < n) k h))
given_for gave g s k (inr a) h = (g, (a, less (minus s.delivery_count g.count) g.credit (subst (λ (n : ℕ). 0 < n) k h)))
  where
    less : (n credit : ℕ) → 0 < credit - n → n < credit
    less n credit h = omega arith

some_sent : (x : Message) (xs : List Message) → x ∷ xs ≢ []
some_sent x xs h = cc

each_sent : (gave : List Grant) (count : ℕ) (xs : List Message) → (xs ≢ [] → IsGranted gave count) → AreGranted gave (map (λ (x : Message). count) xs)
each_sent gave count [] f = tt
each_sent gave count (x ∷ xs) f = (f (some_sent x xs), each_sent gave count xs (λ n. f (some_sent x xs)))

granted_both : (gave : List Grant) (ns ms : List ℕ) → AreGranted gave ns → AreGranted gave ms → AreGranted gave (ns ++ ms)
granted_both gave [] ms h k = k
granted_both gave (n ∷ ns) ms h k = (h.0, granted_both gave ns ms h.1 k)

-- what is sent, and what is left
record Goes (gave : List Grant) (s : Sender) (ms : List Move) (g : Grant) : Type 0 where
  sent : AreGranted gave (counts s ms)
  last : Was gave (granted_all s ms g)
  kept : Kept (granted_all s ms g) (after_all s ms)

all_go : (gave : List Grant) (s : Sender) (ms : List Move) (g : Grant) → ((y : Flow) → IsAmong y (flows_heard ms) → Given gave y) → AllShort ms → Kept g s → Was gave g → Goes gave s ms g
all_go gave s [] g f h k w = record { sent = tt; last = w; kept = k }
all_go gave s (m ∷ ms) g f h k w =
    let r = all_go gave (after s m) ms (granted s m g) (λ y a. f y (among_last y (flows_by m) (flows_heard ms) a)) h.1 (keeps g s m h.0 k)
    (was gave s m g (λ y a. f y (among_first y (flows_by m) (flows_heard ms) a)) w) in
    record {
      sent = granted_both gave (counts_by s m) (counts (after s m) ms) (each_sent gave s.delivery_count (sent_by s m) (λ n. given_for gave g s k.is w (sends_for_credit s m n).had)) r.sent;
      last = r.last;
      kept = r.kept;
    }

pub credit_is_granted : CreditIsGranted
credit_is_granted handle s ms t ns u js r ks p =
    let r = all_go (crediting.granted r ks) s ms no_grant (heard_given handle s ms t ns u js r ks p) p.short
    (record { short = omega arith; is = p.credit ∙ nothing_given (minus s.delivery_count 0) }) (inl refl) in
    record { sent = r.sent; last = r.last; keeps = r.kept.is }
