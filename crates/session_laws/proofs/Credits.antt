-- From the receiver that gives credit to the sender that uses it.
use Rattle.std.specs.Prelude.{◌≡◌, ◌≢◌, ◌⊎◌, ℕ, ◌-◌, ◌<◌, nat_eq, Bool, true, false, List, [], ◌∷◌, ◌++◌, map, flat_map, Option, Some, None, unwrap_or, refl}
use Rattle.std.proofs.Common.{sym, ◌∙◌, ap, subst, inl, inr, arith}
use Rattle.std.proofs.lemmas.Bool.Decides.{nat_tests}
use Rattle.std.proofs.lemmas.Grind.{flat_map-append}
use Rattle.amqp_performatives.specs.declared.disposition.Disposition.{Disposition}
use Rattle.amqp_performatives.specs.declared.flow.Flow.{Flow}
use Rattle.amqp_performatives.specs.declared.transfer.Transfer.{Transfer}
use Rattle.amqp_frames.specs.declared.body.FrameBody.{FrameBody}
use Rattle.amqp_frames.specs.declared.body.FrameBody.TheVariants as b
use Rattle.amqp_frames.specs.declared.shared.LinkFrame.{LinkFrame}
use Rattle.amqp_frames.specs.declared.shared.LinkFrame.TheVariants as link
use Rattle.amqp_link.specs.Link.{body_of}
use Rattle.amqp_link.specs.declared.endpoint.LinkPhase.{LinkPhase}
use Rattle.amqp_link.specs.declared.endpoint.LinkPhase.TheVariants as phase
use Rattle.amqp_link.specs.Numbers.{minus}
use Rattle.amqp_receiver.specs.Receiver.{State as Receiver}
use Rattle.amqp_sender.specs.Sender.{State as Sender}
use Rattle.amqp_session.specs.declared.session.LinkInput.{LinkInput}
use Rattle.amqp_session.specs.declared.session.LinkInput.TheVariants as input
use Rattle.amqp_session.specs.declared.session.SessionState.{SessionState}
use Rattle.amqp_session.specs.declared.session.SessionState.TheVariants as state
use Rattle.amqp_session.specs.Hold.{left_of}
use Rattle.amqp_session.specs.State.{State as Session, Framed}
use Rattle.session_laws.specs.Messages.{Message}
use Rattle.session_laws.specs.Sending.{Move, hears_flow, after, sent_by, Grant, grant_in, granted_in, granted, Keeps, AllShort}
use Rattle.session_laws.specs.Sending.{reattaches}
use Rattle.session_laws.specs.Holding as session
use Rattle.session_laws.specs.Holding.{tells, hears}
use Rattle.session_laws.specs.Handing.{handed_over, heard}
use Rattle.session_laws.specs.Receiving as receiving
use Rattle.session_laws.specs.Settling.{IsAmong}
use Rattle.session_laws.specs.Speaking.{bodies, flows, flow_if, is_on, flow_on, flows_on, brought_by, brought, spoken_in, spoken}
use Rattle.session_laws.specs.Giving.{Ruling, given, written}
use Rattle.session_laws.specs.Crediting as crediting
use Rattle.session_laws.specs.Crediting.{IsTold, AreTold, grants_at, counts_by, counts, flows_by, flows_heard, IsGranted, AreGranted, Way, SendsWhatIsGranted}
use Rattle.session_laws.proofs.Gives.{Says, says_over_life}
use Rattle.session_laws.proofs.Lists.{Each, each_first, each_last, each_at, each_all, among_first, among_last, either, none_among, are_at, among_flat}
use Rattle.session_laws.proofs.Returns.{Any, framed_each, any_heard, any_left, any_told}
use Rattle.session_laws.proofs.Sends.{Kept, keeps, nothing_given, sends_for_credit}
use Rattle.session_laws.proofs.Speaks.{Fair, Of, Brings, Tells, TellsIn, AllTold, AllHears, all_written, all_handed}

-- ---- what the receiver writes

-- that count and that credit were given
abbrev Gives : List Grant → Option ℕ → Option ℕ → Type 0
Gives gave count credit = (g : Grant) × (IsAmong g gave × (count ≡ Some g.count) × (credit ≡ Some g.credit))

abbrev grant_of : ℕ → ℕ → Grant
grant_of count credit = record { count = count; credit = credit }

told_grants : (x : Flow) (count credit : ℕ) (o p : Option ℕ) → o ≡ Some count → p ≡ Some credit → IsAmong (record { count = count; credit = credit }) (grants_at o p)
told_grants x count credit None p h k = absurd cc
told_grants x count credit (Some n) None h k = absurd cc
told_grants x count credit (Some n) (Some m) h k =
    let e : count ≡ n = cc in
    let f : credit ≡ m = cc in
    inl (ap (λ (y : ℕ). grant_of y credit) e ∙ ap (λ (y : ℕ). grant_of n y) f)

told_gives : (xs : List Flow) (x : Flow) → IsAmong x xs → IsTold x → Gives (flat_map crediting.grant_in xs) x.delivery_count x.link_credit
told_gives xs x a h =
    let g : Grant = record { count = h.count; credit = h.credit } in
    (g, (among_flat crediting.grant_in xs x g a (told_grants x h.count h.credit x.delivery_count x.link_credit h.says_count h.says_credit), h.says_count, h.says_credit))

-- at first each Flow says both
says_first : (xs : List FrameBody) → AreTold (flows xs) → Each (Says IsTold (Any {X = Disposition})) xs
says_first [] h = tt
says_first (b.Flow x ∷ xs) h = (h.0, says_first xs h.1)
says_first (b.Disposition x ∷ xs) h = (tt, says_first xs h)
says_first (x ∷ xs) h = (tt, says_first xs h)

flow_told : (xs : List FrameBody) → Each (Says IsTold (Any {X = Disposition})) xs → Each IsTold (flows xs)
flow_told [] h = tt
flow_told (b.Flow x ∷ xs) h = (h.0, flow_told xs h.1)
flow_told (b.Disposition x ∷ xs) h = flow_told xs h.1
flow_told (x ∷ xs) h = flow_told xs h.1

receiver_gives : (r : Receiver) (ks : List receiving.Move) → AreTold (flows r.link.output) → r.book.orders ≡ [] → (x : Flow) → IsAmong x (flows (written r ks)) → Gives (crediting.granted r ks) x.delivery_count x.link_credit
receiver_gives r ks h o x a =
    let told = given r ks in
    let says = says_over_life IsTold (λ y t. t) told (Any {X = Disposition}) (λ y u. tt) r ks (each_all (λ (y : Ruling). IsAmong y told) told (λ y i. i)) (says_first r.link.output h) o in
    told_gives (flows (written r ks)) x a (each_at IsTold (flows (written r ks)) x a (flow_told (written r ks) says))

-- ---- from session to session

-- what is said on the handle was given
abbrev At : ℕ → List Grant → Option ℕ → Option ℕ → Option ℕ → Type 0
At handle gave None count credit = Unit {0}
At handle gave (Some h) count credit = h ≡ handle → Gives gave count credit

abbrev Writes : ℕ → List Grant → FrameBody → Type 0
Writes handle gave (b.Flow x) = At handle gave x.handle x.delivery_count x.link_credit
Writes handle gave other = Unit {0}

abbrev Hands : ℕ → List Grant → LinkInput → Type 0
Hands handle gave (input.Flow x) = At handle gave x.handle x.delivery_count x.link_credit
Hands handle gave other = Unit {0}

eq_of : (a c : ℕ) → a ≡ c → nat_eq a c ≡ true
eq_of a c h = grind (arith, nat_tests)

at_by : (handle : ℕ) (gave : List Grant) (x : Flow) (o : Option ℕ) → ((y : Flow) → IsAmong y (flow_if (is_on handle o) x) → Gives gave y.delivery_count y.link_credit) → At handle gave o x.delivery_count x.link_credit
at_by handle gave x None f = tt
at_by handle gave x (Some h) f = λ e. f x (subst (λ (c : Bool). IsAmong x (flow_if c x)) (sym (eq_of h handle e)) (inl refl))

writes_one : (handle : ℕ) (gave : List Grant) (x : FrameBody) → ((y : Flow) → IsAmong y (flow_on handle x) → Gives gave y.delivery_count y.link_credit) → Writes handle gave x
writes_one handle gave (b.Flow x) f = at_by handle gave x x.handle f
writes_one handle gave other f = tt

writes_all : (handle : ℕ) (gave : List Grant) (xs : List FrameBody) → ((y : Flow) → IsAmong y (flows_on handle xs) → Gives gave y.delivery_count y.link_credit) → Each (Writes handle gave) xs
writes_all handle gave [] f = tt
writes_all handle gave (x ∷ xs) f =
    (writes_one handle gave x (λ y a. f y (among_first y (flow_on handle x) (flows_on handle xs) a)), writes_all handle gave xs (λ y a. f y (among_last y (flow_on handle x) (flows_on handle xs) a)))

tells_one : (handle : ℕ) (gave : List Grant) (x : LinkFrame) → Writes handle gave (body_of x) → Tells (Writes handle gave) x
tells_one handle gave (link.Attach x) h = tt
tells_one handle gave (link.Flow x) h = λ w. h
tells_one handle gave (link.Transfer x payload) h = tt
tells_one handle gave (link.Disposition x covered) h = tt
tells_one handle gave (link.Detach x) h = tt

tells_in : (handle : ℕ) (gave : List Grant) (p : SessionState) (x : LinkFrame) → Each (Writes handle gave) (spoken_in p x) → TellsIn (Writes handle gave) p x
tells_in handle gave state.Mapped x h = tells_one handle gave x h.0
tells_in handle gave state.BeginSent x h = tt
tells_in handle gave state.EndSent x h = tt
tells_in handle gave state.Unmapped x h = tt

tells_all : (handle : ℕ) (gave : List Grant) (s : Session) (ms : List session.Move) → Each (Writes handle gave) (spoken s ms) → AllTold (Writes handle gave) s ms
tells_all handle gave s [] h = tt
tells_all handle gave s (tells x ∷ ms) h =
    let t = session.after s (tells x) in
    (tells_in handle gave s.state x (each_first (Writes handle gave) (spoken_in s.state x) (spoken t ms) h), tells_all handle gave t ms (each_last (Writes handle gave) (spoken_in s.state x) (spoken t ms) h))
tells_all handle gave s (m ∷ ms) h = (tt, tells_all handle gave (session.after s m) ms h)

writes_fair : (handle : ℕ) (gave : List Grant) → Fair (Writes handle gave) (Any {X = FrameBody}) (Any {X = LinkInput})
writes_fair handle gave = record {
  transfer = λ x payload. tt;
  ends = λ x. tt;
  flow = λ w. tt;
  attach = λ x. tt;
  detach = λ x. tt;
  part = λ x payload. tt;
  stops = λ why. tt;
  over = tt;
  left = λ frame n x payload v. any_left x.delivery_tag n x;
}

none_left : (handle : ℕ) (gave : List Grant) (o : Option (List ℕ)) (n : ℕ) (x : Transfer) → Each (Hands handle gave) (left_of o n x)
none_left handle gave None n x = tt
none_left handle gave (Some tag) n x = (tt, tt)

hands_fair : (handle : ℕ) (gave : List Grant) → Fair (Any {X = FrameBody}) (Any {X = FrameBody}) (Hands handle gave)
hands_fair handle gave = record {
  transfer = λ x payload. tt;
  ends = λ x. tt;
  flow = λ w. tt;
  attach = λ x. tt;
  detach = λ x. tt;
  part = λ x payload. tt;
  stops = λ why. tt;
  over = tt;
  left = λ frame n x payload v. none_left handle gave x.delivery_tag n x;
}

brings_one : (handle : ℕ) (gave : List Grant) (x : FrameBody) → Writes handle gave x → Brings (Hands handle gave) x
brings_one handle gave (b.Flow x) h = h
brings_one handle gave (b.Disposition x) h = tt
brings_one handle gave other h = tt

brings_all : (handle : ℕ) (gave : List Grant) (ms : List session.Move) → Each (Of (Writes handle gave)) (heard ms) → AllHears (Hands handle gave) ms
brings_all handle gave [] h = tt
brings_all handle gave (hears x ∷ ms) h = (brings_one handle gave x.body h.0, brings_all handle gave ms h.1)
brings_all handle gave (m ∷ ms) h = (tt, brings_all handle gave ms h)

any_framed : (xs : List Framed) → Each (Of (Any {X = FrameBody})) xs
any_framed [] = tt
any_framed (x ∷ xs) = (tt, any_framed xs)

-- at first nothing was given
hands_first : (handle : ℕ) (gave : List Grant) (xs : List LinkInput) → ((y : Flow) → IsAmong y (flows_on handle (brought xs)) → Gives gave y.delivery_count y.link_credit) → Each (Hands handle gave) xs
hands_first handle gave [] f = tt
hands_first handle gave (x ∷ xs) f =
    let e : flows_on handle (brought (x ∷ xs)) ≡ flows_on handle (brought_by x) ++ flows_on handle (brought xs) = flat_map-append (flow_on handle) (brought_by x) (brought xs) in (
      one x (λ y a. f y (subst (λ (zs : List Flow). IsAmong y zs) (sym e) (among_first y (flows_on handle (brought_by x)) (flows_on handle (brought xs)) a))),
      hands_first handle gave xs (λ y a. f y (subst (λ (zs : List Flow). IsAmong y zs) (sym e) (among_last y (flows_on handle (brought_by x)) (flows_on handle (brought xs)) a))),
    )
  where
    one : (x : LinkInput) → ((y : Flow) → IsAmong y (flows_on handle (brought_by x)) → Gives gave y.delivery_count y.link_credit) → Hands handle gave x
    one (input.Flow x) f = at_by handle gave x x.handle (λ y a. f y (among_first y (flow_if (is_on handle x.handle) x) [] a))
    one other f = tt

-- what is handed over on the handle was given
got_if : (handle : ℕ) (gave : List Grant) (h : ℕ) (x y : Flow) (c : Bool) → nat_eq h handle ≡ c → (h ≡ handle → Gives gave x.delivery_count x.link_credit) → IsAmong y (flow_if c x ++ []) → Gives gave y.delivery_count y.link_credit
got_if handle gave h x y true e f (inl i) = subst (λ (z : Flow). Gives gave z.delivery_count z.link_credit) (sym i) (f (grind (arith, nat_tests)))
got_if handle gave h x y true e f (inr a) = absurd a
got_if handle gave h x y false e f a = absurd a

got_at : (handle : ℕ) (gave : List Grant) (o : Option ℕ) (x y : Flow) → At handle gave o x.delivery_count x.link_credit → IsAmong y (flow_if (is_on handle o) x ++ []) → Gives gave y.delivery_count y.link_credit
got_at handle gave None x y f a = absurd a
got_at handle gave (Some h) x y f a = got_if handle gave h x y (nat_eq h handle) refl f a

got_one : (handle : ℕ) (gave : List Grant) (x : LinkInput) (y : Flow) → Hands handle gave x → IsAmong y (flows_on handle (brought_by x)) → Gives gave y.delivery_count y.link_credit
got_one handle gave (input.Flow x) y h a = got_at handle gave x.handle x y h a
got_one handle gave (input.Disposition x) y h a = absurd a
got_one handle gave other y h a = absurd a

got_all : (handle : ℕ) (gave : List Grant) (xs : List LinkInput) (y : Flow) → Each (Hands handle gave) xs → IsAmong y (flows_on handle (brought xs)) → Gives gave y.delivery_count y.link_credit
got_all handle gave [] y h a = absurd a
got_all handle gave (x ∷ xs) y h a =
    by (λ i. got_all handle gave xs y h.1 i) (either y (flows_on handle (brought_by x)) (flows_on handle (brought xs)) (subst (λ (zs : List Flow). IsAmong y zs) (flat_map-append (flow_on handle) (brought_by x) (brought xs)) a))
  where
    by : (IsAmong y (flows_on handle (brought xs)) → Gives gave y.delivery_count y.link_credit) → IsAmong y (flows_on handle (brought_by x)) ⊎ IsAmong y (flows_on handle (brought xs)) → Gives gave y.delivery_count y.link_credit
    by f (inl i) = got_one handle gave x y h.0 i
    by f (inr i) = f i

-- ---- the sender

-- what was given last was given by the receiver, or is nothing
abbrev Was : List Grant → Grant → Type 0
Was gave g = (g.credit ≡ 0) ⊎ IsAmong g gave

or_same : (o : Option ℕ) (n m : ℕ) → o ≡ Some n → unwrap_or o m ≡ n
or_same None n m h = absurd cc
or_same (Some k) n m h = cc

was_flow : (gave : List Grant) (x : Flow) (s : Sender) → Gives gave x.delivery_count x.link_credit → Was gave (grant_in x s)
was_flow gave x s h =
    let first = unwrap_or s.link.own.initial_delivery_count 0 in
    let e : unwrap_or x.delivery_count first ≡ h.0.count = or_same x.delivery_count h.0.count first h.1.1 in
    let f : unwrap_or x.link_credit 0 ≡ h.0.credit = or_same x.link_credit h.0.credit 0 h.1.2 in
    inr (subst (λ (g : Grant). IsAmong g gave) (sym (ap (λ (n : ℕ). grant_of n (unwrap_or x.link_credit 0)) e ∙ ap (λ (n : ℕ). grant_of h.0.count n) f)) h.1.0)

was_in : (p : LinkPhase) (gave : List Grant) (x : Flow) (s : Sender) (g : Grant) → Gives gave x.delivery_count x.link_credit → Was gave g → Was gave (granted_in p x s g)
was_in phase.Attached gave x s g h w = was_flow gave x s h
was_in p gave x s g h w = w

was : (gave : List Grant) (s : Sender) (m : Move) (g : Grant) → ((y : Flow) → IsAmong y (flows_by m) → Gives gave y.delivery_count y.link_credit) → Was gave g → Was gave (granted s m g)
was gave s (hears_flow x) g f w = was_in s.link.phase gave x s g (f x (inl refl)) w
was gave s (reattaches handle) g f w = inl refl
was gave s m g f w = w

-- there is credit: so it was given
none_left_of : (credit n : ℕ) → credit ≡ 0 → 0 < credit - n → ⊥
none_left_of credit n e h = omega arith

given_for : (gave : List Grant) (g : Grant) (s : Sender) → Keeps g s → Was gave g → 0 < s.credit → IsGranted gave s.delivery_count
given_for gave g s k (inl e) h = absurd (none_left_of g.credit (minus s.delivery_count g.count) e (subst (λ (n : ℕ). 0 < n) k h))
given_for gave g s k (inr a) h = (g, (a, less (minus s.delivery_count g.count) g.credit (subst (λ (n : ℕ). 0 < n) k h)))
  where
    less : (n credit : ℕ) → 0 < credit - n → n < credit
    less n credit h = omega arith

some_sent : (x : Message) (xs : List Message) → x ∷ xs ≢ []
some_sent x xs h = cc

each_sent : (gave : List Grant) (count : ℕ) (xs : List Message) → (xs ≢ [] → IsGranted gave count) → AreGranted gave (map (λ (x : Message). count) xs)
each_sent gave count [] f = tt
each_sent gave count (x ∷ xs) f = (f (some_sent x xs), each_sent gave count xs (λ n. f (some_sent x xs)))

granted_both : (gave : List Grant) (ns ms : List ℕ) → AreGranted gave ns → AreGranted gave ms → AreGranted gave (ns ++ ms)
granted_both gave [] ms h k = k
granted_both gave (n ∷ ns) ms h k = (h.0, granted_both gave ns ms h.1 k)

all_granted : (gave : List Grant) (s : Sender) (ms : List Move) (g : Grant) → ((y : Flow) → IsAmong y (flows_heard ms) → Gives gave y.delivery_count y.link_credit) → AllShort ms → Kept g s → Was gave g → AreGranted gave (counts s ms)
all_granted gave s [] g f h k w = tt
all_granted gave s (m ∷ ms) g f h k w =
    granted_both gave (counts_by s m) (counts (after s m) ms) (each_sent gave s.delivery_count (sent_by s m) (λ n. given_for gave g s k.is w (sends_for_credit s m n).had))
    (all_granted gave (after s m) ms (granted s m g) (λ y a. f y (among_last y (flows_by m) (flows_heard ms) a)) h.1 (keeps g s m h.0 k)
    (was gave s m g (λ y a. f y (among_first y (flows_by m) (flows_heard ms) a)) w))

pub sends_what_is_granted : SendsWhatIsGranted
sends_what_is_granted handle s ms t ns u js r ks p =
    let gave = crediting.granted r ks in
    let gives = receiver_gives r ks p.told p.orders in
    let spoke = writes_all handle gave (spoken u js) (λ y a. gives y (are_at (flows_on handle (spoken u js)) (flows (written r ks)) y p.takes a)) in
    let first = writes_all handle gave (bodies u.output) (λ y a. none_among {P = Gives gave y.delivery_count y.link_credit} y (flows_on handle (bodies u.output)) p.unsaid a) in
    let wrote = all_written (Writes handle gave) (Any {X = FrameBody}) (Any {X = LinkInput}) (writes_fair handle gave) u js (tells_all handle gave u js spoke) (any_heard js) (framed_each (Writes handle gave) u.output first) in
    let read = each_first (Of (Writes handle gave)) (heard ns) p.unheard (subst (λ (xs : List Framed). Each (Of (Writes handle gave)) xs) (sym p.hears) wrote) in
    let got = all_handed (Any {X = FrameBody}) (Any {X = FrameBody}) (Hands handle gave) (hands_fair handle gave) t ns (any_told t ns) (brings_all handle gave ns read) (any_framed (session.written t ns))
    (hands_first handle gave t.incoming (λ y a. none_among {P = Gives gave y.delivery_count y.link_credit} y (flows_on handle (brought t.incoming)) p.unhanded a)) in
    let g : Grant = record { count = 0; credit = 0 } in
    all_granted gave s ms g (λ y a. got_all handle gave (handed_over t ns) y got (are_at (flows_heard ms) (flows_on handle (brought (handed_over t ns))) y p.learns a)) p.short
    (record { short = omega arith; is = p.credit ∙ nothing_given (minus s.delivery_count 0) }) (inl refl)
