-- From the call that gives an outcome to the sender that tells it.
use Rattle.std.specs.Prelude.{◌≡◌, ◌⊎◌, ℕ, nat_eq, Bool, true, false, cond, is_some, List, [], ◌∷◌, ◌++◌, map, filter, Option, Some, None, if◌then◌else◌, refl}
use Rattle.std.proofs.Common.{sym, ◌∙◌, ap, subst, inl, inr, arith}
use Rattle.std.proofs.lemmas.Bool.Decides.{nat_tests}
use Rattle.std.proofs.lemmas.Grind.{flat_map-append}
use Rattle.amqp_composites.specs.declared.modes.Role.{Role}
use Rattle.amqp_composites.specs.declared.modes.Role.TheVariants as role
use Rattle.amqp_termini.specs.declared.state.DeliveryState.{DeliveryState}
use Rattle.amqp_performatives.specs.declared.disposition.Disposition.{Disposition}
use Rattle.amqp_performatives.specs.declared.transfer.Transfer.{Transfer}
use Rattle.amqp_frames.specs.declared.body.FrameBody.{FrameBody}
use Rattle.amqp_frames.specs.declared.body.FrameBody.TheVariants as b
use Rattle.amqp_frames.specs.declared.shared.LinkFrame.{LinkFrame}
use Rattle.amqp_frames.specs.declared.shared.LinkFrame.TheVariants as link
use Rattle.amqp_link.specs.Link.{body_of}
use Rattle.amqp_parts.specs.declared.part.Part.{Part}
use Rattle.amqp_parts.specs.Split.{continuation}
use Rattle.amqp_parts.specs.Cut.{cut_of}
use Rattle.amqp_sender.specs.declared.sender.Settlement.{Settlement}
use Rattle.amqp_sender.specs.declared.sender.Settlement.TheVariants.{Unsettled, Settled, NonTerminal, Illegal}
use Rattle.amqp_sender.specs.Sender.{State as Sender}
use Rattle.amqp_sender.specs.Settling.{settlement_of}
use Rattle.amqp_session.specs.declared.session.LeftDelivery.{LeftDelivery}
use Rattle.amqp_session.specs.declared.session.LinkInput.{LinkInput}
use Rattle.amqp_session.specs.declared.session.LinkInput.TheVariants as input
use Rattle.amqp_session.specs.declared.session.SessionState.{SessionState}
use Rattle.amqp_session.specs.declared.session.SessionState.TheVariants as phase
use Rattle.amqp_session.specs.Hold.{begins, numbered, left_of}
use Rattle.amqp_session.specs.State.{State as Session, Framed}
use Rattle.session_laws.specs.Messages.{Message, Delivery, ArePartsOf, Carry, transfer_in, whole_of, on}
use Rattle.session_laws.specs.Sending as sending
use Rattle.session_laws.specs.Sending.{hears_disposition, sent}
use Rattle.session_laws.specs.Holding as session
use Rattle.session_laws.specs.Holding.{tells, hears}
use Rattle.session_laws.specs.Handing.{handed_over}
use Rattle.session_laws.specs.Handing.{heard as frames_heard}
use Rattle.session_laws.specs.Settling.{heard, IsAmong, IsSettled, AreSettled}
use Rattle.session_laws.specs.Speaking.{bodies, by_receiver, ruling_in, rulings, brought_by, brought, spoken_in, spoken}
use Rattle.session_laws.specs.Giving.{Ruling, IsGiven, AllGiven, given, last_of}
use Rattle.session_laws.specs.Numbering.{News, news_in, news, told}
use Rattle.session_laws.specs.Laws.{message_of}
use Rattle.session_laws.specs.Outcomes.{Life, given_in, given_by, written_in, written_by, AreSilent, left_in, lefts, IsFree, AreApart, Back, IsOutcome, AreOutcomes, OutcomesWereGiven}
use Rattle.session_laws.proofs.Cuts.{is_cut, is_first}
use Rattle.session_laws.proofs.Gives.{says_given}
use Rattle.session_laws.proofs.Lists.{Each, each_first, each_last, each_at, each_all, among_first, among_last, either, none_among, are_at, among_flat, among_map}
use Rattle.session_laws.proofs.Numbers.{in_order, IsNews, first_news}
use Rattle.session_laws.proofs.Paths.{leave, answer}
use Rattle.session_laws.proofs.Settles.{outcomes_were_heard}
use Rattle.session_laws.proofs.Speaks.{Fair, Of, Brings, Tells, TellsIn, AllTold, AllHears, all_written, all_handed}

-- ---- what the receivers write

given_at : (told : List Ruling) (xs : List Disposition) (x : Disposition) → IsAmong x xs → AllGiven told xs → IsGiven told x
given_at told [] x a h = absurd a
given_at told (y ∷ ys) x (inl e) h = subst (λ z. IsGiven told z) (sym e) h.0
given_at told (y ∷ ys) x (inr a) h = given_at told ys x a h.1

given_both : (told : List Ruling) (xs ys : List Disposition) → AllGiven told xs → AllGiven told ys → AllGiven told (xs ++ ys)
given_both told [] ys h k = k
given_both told (x ∷ xs) ys h k = (h.0, given_both told xs ys h.1 k)

rulings_both : (xs ys : List FrameBody) → rulings (xs ++ ys) ≡ rulings xs ++ rulings ys
rulings_both xs ys = flat_map-append ruling_in xs ys

lives_give : (told : List Ruling) (lives : List Life) → Each (λ (r : Ruling). IsAmong r told) (given_by lives) → AreSilent lives → AllGiven told (rulings (written_by lives))
lives_give told [] h k = tt
lives_give told (x ∷ xs) h k =
    subst (λ ys. AllGiven told ys) (sym (rulings_both (written_in x) (written_by xs)))
    (given_both told (rulings (written_in x)) (rulings (written_by xs))
    (says_given told x.receiver x.moves (each_first (λ (r : Ruling). IsAmong r told) (given_in x) (given_by xs) h) k.0)
    (lives_give told xs (each_last (λ (r : Ruling). IsAmong r told) (given_in x) (given_by xs) h) k.1))

-- ---- from session to session

-- a Disposition of a receiver says what was given
abbrev Rules : List Ruling → Disposition → Type 0
Rules told x = x.role ≡ role.Receiver → IsGiven told x

abbrev Writes : List Ruling → FrameBody → Type 0
Writes told (b.Disposition x) = Rules told x
Writes told other = Unit {0}

-- each is a receiver's that has told so
not_both : ◌≡◌ {A = Role} role.Receiver role.Sender → ⊥
not_both h = cc

ruled : (told : List Ruling) (x : Disposition) (r : Role) → x.role ≡ r → ((y : Disposition) → IsAmong y (by_receiver r x) → IsGiven told y) → Rules told x
ruled told x role.Receiver e f = λ u. f x (inl refl)
ruled told x role.Sender e f = λ u. absurd (not_both (sym u ∙ e))

writes_one : (told : List Ruling) (x : FrameBody) → ((y : Disposition) → IsAmong y (ruling_in x) → IsGiven told y) → Writes told x
writes_one told (b.Disposition x) f = ruled told x x.role refl f
writes_one told other f = tt

writes_all : (told : List Ruling) (xs : List FrameBody) → ((y : Disposition) → IsAmong y (rulings xs) → IsGiven told y) → Each (Writes told) xs
writes_all told [] f = tt
writes_all told (x ∷ xs) f = (writes_one told x (λ y a. f y (among_first y (ruling_in x) (rulings xs) a)), writes_all told xs (λ y a. f y (among_last y (ruling_in x) (rulings xs) a)))

pub framed_each : (W : FrameBody → Type 0) (xs : List Framed) → Each W (bodies xs) → Each (Of W) xs
framed_each W [] h = tt
framed_each W (x ∷ xs) h = (h.0, framed_each W xs h.1)

-- what the links tell the session
tells_one : (told : List Ruling) (x : LinkFrame) → Writes told (body_of x) → Tells (Writes told) x
tells_one told (link.Attach x) h = tt
tells_one told (link.Flow x) h = λ w. tt
tells_one told (link.Transfer x payload) h = tt
tells_one told (link.Disposition x covered) h = h
tells_one told (link.Detach x) h = tt

tells_in : (told : List Ruling) (p : SessionState) (x : LinkFrame) → Each (Writes told) (spoken_in p x) → TellsIn (Writes told) p x
tells_in told phase.Mapped x h = tells_one told x h.0
tells_in told phase.BeginSent x h = tt
tells_in told phase.EndSent x h = tt
tells_in told phase.Unmapped x h = tt

tells_all : (told : List Ruling) (s : Session) (ms : List session.Move) → Each (Writes told) (spoken s ms) → AllTold (Writes told) s ms
tells_all told s [] h = tt
tells_all told s (tells x ∷ ms) h =
    (tells_in told s.state x (each_first (Writes told) (spoken_in s.state x) (spoken (session.after s (tells x)) ms) h), tells_all told (session.after s (tells x)) ms (each_last (Writes told) (spoken_in s.state x) (spoken (session.after s (tells x)) ms) h))
tells_all told s (m ∷ ms) h = (tt, tells_all told (session.after s m) ms h)

-- anything
abbrev pub Any : {X : Type 0} → X → Type 0
Any x = Unit {0}

any_brought : (x : FrameBody) → Brings (Any {X = LinkInput}) x
any_brought (b.Flow x) = tt
any_brought (b.Disposition x) = tt
any_brought other = tt

pub any_heard : (ms : List session.Move) → AllHears (Any {X = LinkInput}) ms
any_heard [] = tt
any_heard (hears x ∷ ms) = (any_brought x.body, any_heard ms)
any_heard (m ∷ ms) = (tt, any_heard ms)

pub any_left : (o : Option (List ℕ)) (n : ℕ) (x : Transfer) → Each (Any {X = LinkInput}) (left_of o n x)
any_left None n x = tt
any_left (Some tag) n x = (tt, tt)

writes_fair : (told : List Ruling) → Fair (Writes told) (Any {X = FrameBody}) (Any {X = LinkInput})
writes_fair told = record {
  transfer = λ x payload. tt;
  ends = λ x. tt;
  flow = λ w. tt;
  attach = λ x. tt;
  detach = λ x. tt;
  part = λ x payload. tt;
  stops = λ why. tt;
  over = tt;
  left = λ frame n x payload v. any_left x.delivery_tag n x;
}

session_writes : (told : List Ruling) (u : Session) (js : List session.Move) → Each (Writes told) (spoken u js) → Each (Writes told) (bodies u.output) → Each (Of (Writes told)) (session.written u js)
session_writes told u js h k =
    all_written (Writes told) (Any {X = FrameBody}) (Any {X = LinkInput}) (writes_fair told) u js (tells_all told u js h) (any_heard js) (framed_each (Writes told) u.output k)

-- ---- what a session hands to its links

-- the Transfer of a delivery that has begun to leave is among these
record IsOut (parts : List Part) (x : LeftDelivery) : Type 0 where
  part : Part
  among : IsAmong part parts
  handle : part.transfer.handle ≡ x.handle
  number : part.transfer.delivery_id ≡ Some x.delivery_id
  tag : part.transfer.delivery_tag ≡ Some x.delivery_tag

abbrev Hands : List Ruling → List Part → LinkInput → Type 0
Hands told parts (input.Disposition x) = Rules told x
Hands told parts (input.Left x) = IsOut parts x
Hands told parts other = Unit {0}

abbrev IsWritten : List Part → FrameBody → Type 0
IsWritten parts (b.Transfer x payload) = IsAmong (record { transfer = x; payload = payload }) parts
IsWritten parts other = Unit {0}

numbered_is : (n : ℕ) (x : Transfer) (tag : List ℕ) → x.delivery_tag ≡ Some tag → (numbered n x).delivery_id ≡ Some n
numbered_is n x tag h =
    let e : begins x ≡ true = ap is_some h in subst (λ (c : Bool). (if c then record x { delivery_id = Some n } else x).delivery_id ≡ Some n) (sym e) refl

numbered_tag : (n : ℕ) (x : Transfer) (c : Bool) → (if c then record x { delivery_id = Some n } else x).delivery_tag ≡ x.delivery_tag
numbered_tag n x true = refl
numbered_tag n x false = refl

numbered_handle : (n : ℕ) (x : Transfer) (c : Bool) → (if c then record x { delivery_id = Some n } else x).handle ≡ x.handle
numbered_handle n x true = refl
numbered_handle n x false = refl

left_out : (told : List Ruling) (parts : List Part) (frame n : ℕ) (x : Transfer) (payload : List ℕ) (o : Option (List ℕ)) → x.delivery_tag ≡ o
    → IsAmong (record { transfer = (cut_of frame (numbered n x) payload).first.transfer; payload = (cut_of frame (numbered n x) payload).first.payload }) parts → Each (Hands told parts) (left_of o n x)
left_out told parts frame n x payload None e a = tt
left_out told parts frame n x payload (Some tag) e a =
    let c = is_cut frame (numbered n x) payload in
    let f = is_first frame (numbered n x) payload in (
      record {
        part = record { transfer = (cut_of frame (numbered n x) payload).first.transfer; payload = (cut_of frame (numbered n x) payload).first.payload };
        among = a;
        handle = c.handle ∙ numbered_handle n x (begins x);
        number = f.number ∙ numbered_is n x tag e;
        tag = f.tag ∙ (numbered_tag n x (begins x) ∙ e);
      },
      tt,
    )

hands_fair : (told : List Ruling) (parts : List Part) → Fair (Any {X = FrameBody}) (IsWritten parts) (Hands told parts)
hands_fair told parts = record {
  transfer = λ x payload. tt;
  ends = λ x. tt;
  flow = λ w. tt;
  attach = λ x. tt;
  detach = λ x. tt;
  part = λ x payload. tt;
  stops = λ why. tt;
  over = tt;
  left = λ frame n x payload v. left_out told parts frame n x payload x.delivery_tag refl v;
}

brings_one : (told : List Ruling) (parts : List Part) (x : FrameBody) → Writes told x → Brings (Hands told parts) x
brings_one told parts (b.Flow x) h = tt
brings_one told parts (b.Disposition x) h = h
brings_one told parts other h = tt

brings_all : (told : List Ruling) (parts : List Part) (ms : List session.Move) → Each (Of (Writes told)) (frames_heard ms) → AllHears (Hands told parts) ms
brings_all told parts [] h = tt
brings_all told parts (hears x ∷ ms) h = (brings_one told parts x.body h.0, brings_all told parts ms h.1)
brings_all told parts (m ∷ ms) h = (tt, brings_all told parts ms h)

any_one : (x : LinkFrame) → Tells (Any {X = FrameBody}) x
any_one (link.Attach x) = tt
any_one (link.Flow x) = λ w. tt
any_one (link.Transfer x payload) = tt
any_one (link.Disposition x covered) = tt
any_one (link.Detach x) = tt

any_in : (p : SessionState) (x : LinkFrame) → TellsIn (Any {X = FrameBody}) p x
any_in phase.Mapped x = any_one x
any_in phase.BeginSent x = tt
any_in phase.EndSent x = tt
any_in phase.Unmapped x = tt

pub any_told : (s : Session) (ms : List session.Move) → AllTold (Any {X = FrameBody}) s ms
any_told s [] = tt
any_told s (tells x ∷ ms) = (any_in s.state x, any_told (session.after s (tells x)) ms)
any_told s (m ∷ ms) = (tt, any_told (session.after s m) ms)

out_one : (parts : List Part) (x : FrameBody) → ((p : Part) → IsAmong p (transfer_in x) → IsAmong p parts) → IsWritten parts x
out_one parts (b.Transfer x payload) f = f (record { transfer = x; payload = payload }) (inl refl)
out_one parts other f = tt

out_all : (xs : List Framed) → Each (Of (IsWritten (session.transfers xs))) xs
out_all xs = each_all (Of (IsWritten (session.transfers xs))) xs (λ x a. out_one (session.transfers xs) x.body (λ p i. among_flat (λ (y : Framed). transfer_in y.body) xs x p a i))

-- at first nothing was said, and nothing had left
hands_one : (told : List Ruling) (parts : List Part) (x : LinkInput) → ((y : Disposition) → IsAmong y (rulings (brought_by x)) → IsGiven told y) → ((y : LeftDelivery) → IsAmong y (left_in x) → IsOut parts y) → Hands told parts x
hands_one told parts (input.Disposition x) f g = ruled told x x.role refl (λ y a. f y (among_first y (by_receiver x.role x) [] a))
hands_one told parts (input.Left x) f g = g x (inl refl)
hands_one told parts other f g = tt

hands_first : (told : List Ruling) (parts : List Part) (xs : List LinkInput) → ((y : Disposition) → IsAmong y (rulings (brought xs)) → IsGiven told y) → ((y : LeftDelivery) → IsAmong y (lefts xs) → IsOut parts y) → Each (Hands told parts) xs
hands_first told parts [] f g = tt
hands_first told parts (x ∷ xs) f g =
    let e : rulings (brought (x ∷ xs)) ≡ rulings (brought_by x) ++ rulings (brought xs) = rulings_both (brought_by x) (brought xs) in (
      hands_one told parts x
          (λ y a. f y (subst (λ (zs : List Disposition). IsAmong y zs) (sym e) (among_first y (rulings (brought_by x)) (rulings (brought xs)) a)))
          (λ y a. g y (among_first y (left_in x) (lefts xs) a)),
      hands_first told parts xs
          (λ y a. f y (subst (λ (zs : List Disposition). IsAmong y zs) (sym e) (among_last y (rulings (brought_by x)) (rulings (brought xs)) a)))
          (λ y a. g y (among_last y (left_in x) (lefts xs) a)),
    )

-- ---- the delivery of a tag

-- one of these with that tag, and its number
record Found (ds : List Delivery) (number : ℕ) (tag : List ℕ) : Type 0 where
  delivery : Delivery
  among : IsAmong delivery ds
  is_tag : delivery.message.tag ≡ tag
  is_number : delivery.number ≡ number

some_same : {X : Type 0} → (x y : X) → Some x ≡ Some y → x ≡ y
some_same x y h = cc

-- a part with a tag is the first one of its delivery
record Begins (x : Transfer) (p : Part) : Type 0 where
  tag : p.transfer.delivery_tag ≡ x.delivery_tag
  number : p.transfer.delivery_id ≡ x.delivery_id

begins_as : (x y : Transfer) (p q : Part) → p ≡ q → q.transfer ≡ y → y.delivery_tag ≡ x.delivery_tag → y.delivery_id ≡ x.delivery_id → Begins x p
begins_as x y p q e f g h = record {
  tag = ap (λ (r : Part). r.transfer.delivery_tag) e ∙ (ap (λ (z : Transfer). z.delivery_tag) f ∙ g);
  number = ap (λ (r : Part). r.transfer.delivery_id) e ∙ (ap (λ (z : Transfer). z.delivery_id) f ∙ h);
}

no_tag : (P : Type 0) (handle : ℕ) (p : Part) (tag : List ℕ) → p.transfer.delivery_tag ≡ Some tag → Begins (continuation handle) p → P
no_tag P handle p tag h k = (let e = k.tag in absurd cc)

first_part : (x : Transfer) (payload : List ℕ) (own : List Part) (p : Part) (tag : List ℕ) → ArePartsOf x payload own → IsAmong p own → p.transfer.delivery_tag ≡ Some tag → Begins x p
first_part x payload [] p tag k a h = absurd a
first_part x payload (q ∷ []) p tag k (inl e) h = begins_as x _ p q e (ap (λ (r : Part). r.transfer) k) refl refl
first_part x payload (q ∷ []) p tag k (inr a) h = absurd a
first_part x payload (q ∷ r ∷ rs) p tag k (inl e) h = begins_as x _ p q e k.1.0 refl refl
first_part x payload (q ∷ r ∷ rs) p tag k (inr a) h = no_tag (Begins x p) x.handle p tag h (first_part (continuation x.handle) k.0 (r ∷ rs) p tag k.1.2 a h)

found_more : (d : Delivery) (ds : List Delivery) (number : ℕ) (tag : List ℕ) → Found ds number tag → Found (d ∷ ds) number tag
found_more d ds number tag f = record { delivery = f.delivery; among = inr f.among; is_tag = f.is_tag; is_number = f.is_number }

found_first : (d : Delivery) (ds : List Delivery) (p : Part) (number : ℕ) (tag : List ℕ) → p.transfer.delivery_tag ≡ Some tag → p.transfer.delivery_id ≡ Some number → Begins (whole_of d).transfer p → Found (d ∷ ds) number tag
found_first d ds p number tag h n k = record {
  delivery = d;
  among = inl refl;
  is_tag = some_same d.message.tag tag (sym k.tag ∙ h);
  is_number = some_same d.number number (sym k.number ∙ n);
}

carried : (ds : List Delivery) (parts : List Part) (p : Part) (number : ℕ) (tag : List ℕ) → Carry (map whole_of ds) parts → IsAmong p parts → p.transfer.delivery_tag ≡ Some tag → p.transfer.delivery_id ≡ Some number → Found ds number tag
carried [] parts p number tag k a h n = none_among {P = Found [] number tag} p parts k a
carried (d ∷ ds) parts p number tag k a h n = by (λ i. carried ds k.1.0 p number tag k.1.1.2 i h n) (either p k.0 k.1.0 (subst (λ (ps : List Part). IsAmong p ps) k.1.1.0 a))
  where
    by : (IsAmong p k.1.0 → Found ds number tag) → IsAmong p k.0 ⊎ IsAmong p k.1.0 → Found (d ∷ ds) number tag
    by f (inl i) = found_first d ds p number tag h n (first_part (whole_of d).transfer d.message.payload k.0 p tag k.1.1.1 i h)
    by f (inr i) = found_more d ds number tag (f i)

kept_first : {X : Type 0} → (x y : X) (xs : List X) (c : Bool) → x ≡ y → c ≡ true → IsAmong x (cond c (y ∷ xs) xs)
kept_first x y xs true h f = inl h
kept_first x y xs false h f = absurd cc

kept_later : {X : Type 0} → (x y : X) (xs : List X) (c : Bool) → IsAmong x xs → IsAmong x (cond c (y ∷ xs) xs)
kept_later x y xs true i = inr i
kept_later x y xs false i = i

kept_among : {X : Type 0} → (test : X → Bool) (x : X) (xs : List X) → test x ≡ true → IsAmong x xs → IsAmong x (filter test xs)
kept_among test x [] e a = absurd a
kept_among test x (y ∷ ys) e (inl h) = kept_first x y (filter test ys) (test y) h (sym (ap test h) ∙ e)
kept_among test x (y ∷ ys) e (inr a) = kept_later x y (filter test ys) (test y) (kept_among test x ys e a)

eq_of : (a c : ℕ) → a ≡ c → nat_eq a c ≡ true
eq_of a c h = grind (arith, nat_tests)

out_found : (handle : ℕ) (ds : List Delivery) (all base parts later : List Part) (x : LeftDelivery) (number : ℕ) (tag : List ℕ) → on handle all ≡ base ++ parts → base ≡ [] → Carry (map whole_of ds) (parts ++ later) → IsOut all x
    → x.handle ≡ handle → x.delivery_id ≡ number → x.delivery_tag ≡ tag → Found ds number tag
out_found handle ds all base parts later x number tag o e c k h n t =
    let i : IsAmong k.part (on handle all) = kept_among (λ (p : Part). nat_eq p.transfer.handle handle) k.part all (eq_of k.part.transfer.handle handle (k.handle ∙ h)) k.among in
    let j : IsAmong k.part parts = subst (λ (ps : List Part). IsAmong k.part ps) (o ∙ ap (λ (ps : List Part). ps ++ parts) e) i in
    carried ds (parts ++ later) k.part number tag c (among_first k.part parts later j) (k.tag ∙ ap (λ (y : List ℕ). Some y) t) (k.number ∙ ap (λ (y : ℕ). Some y) n)

-- ---- what the sender knows

-- what was heard of a tag was given for the number of its delivery
record Learnt (ds : List Delivery) (gave : List Ruling) (tag : List ℕ) (x : Settlement) : Type 0 where
  delivery : Delivery
  among : IsAmong delivery ds
  is_tag : delivery.message.tag ≡ tag
  state : DeliveryState
  is : x ≡ settlement_of (Some state)
  was_given : IsAmong (record { number = delivery.number; state = state }) gave

record Heard (ms : List sending.Move) (tag : List ℕ) (x : Settlement) : Type 0 where
  word : News
  among : IsAmong word (news ms)
  is_tag : word.delivery.delivery_tag ≡ tag
  is : x ≡ settlement_of word.state

heard_later : (m : sending.Move) (ms : List sending.Move) (tag : List ℕ) (x : Settlement) → Heard ms tag x → Heard (m ∷ ms) tag x
heard_later m ms tag x h = record { word = h.word; among = among_last h.word (news_in m) (news ms) h.among; is_tag = h.is_tag; is = h.is }

news_heard : (ms : List sending.Move) (tag : List ℕ) (x : Settlement) → IsAmong (tag, x) (heard ms) → Heard ms tag x
news_heard [] tag x a = absurd a
news_heard (hears_disposition d settled s ∷ ms) tag x (inl e) = record {
  word = record { delivery = d; settled = settled; state = s };
  among = inl refl;
  is_tag = sym (ap (λ (y : List ℕ × Settlement). y.0) e);
  is = ap (λ (y : List ℕ × Settlement). y.1) e;
}
news_heard (hears_disposition d settled s ∷ ms) tag x (inr a) = heard_later (hears_disposition d settled s) ms tag x (news_heard ms tag x a)
news_heard (m ∷ ms) tag x a = heard_later m ms tag x (news_heard ms tag x a)

-- no two have one tag
free_at : (tag : List ℕ) (ms : List Message) (m : Message) → IsFree tag ms → IsAmong m ms → tag ≡ m.tag → ⊥
free_at tag [] m f a e = absurd a
free_at tag (n ∷ ms) m f (inl h) e = f.0 (e ∙ ap (λ (y : Message). y.tag) h)
free_at tag (n ∷ ms) m f (inr a) e = free_at tag ms m f.1 a e

in_all : (d : Delivery) (ds : List Delivery) (others : List Message) → IsAmong d ds → IsAmong (message_of d) (map message_of ds ++ others)
in_all d ds others a = among_first (message_of d) (map message_of ds) others (among_map message_of ds d a)

one_tag : (ds : List Delivery) (others : List Message) → AreApart (map message_of ds ++ others) → (d e : Delivery) → IsAmong d ds → IsAmong e ds → d.message.tag ≡ e.message.tag → d ≡ e
one_tag [] others k d e a c h = absurd a
one_tag (z ∷ zs) others k d e (inl p) (inl q) h = p ∙ sym q
one_tag (z ∷ zs) others k d e (inl p) (inr c) h = absurd (free_at z.message.tag (map message_of zs ++ others) (message_of e) k.0 (in_all e zs others c) (sym (ap (λ (y : Delivery). y.message.tag) p) ∙ h))
one_tag (z ∷ zs) others k d e (inr a) (inl q) h = absurd (free_at z.message.tag (map message_of zs ++ others) (message_of d) k.0 (in_all d zs others a) (sym (ap (λ (y : Delivery). y.message.tag) q) ∙ sym h))
one_tag (z ∷ zs) others k d e (inr a) (inr c) h = one_tag zs others k.1 d e a c h

other_tag : (ds : List Delivery) (others : List Message) → AreApart (map message_of ds ++ others) → (d : Delivery) (m : Message) → IsAmong d ds → IsAmong m others → d.message.tag ≡ m.tag → ⊥
other_tag [] others k d m a c h = absurd a
other_tag (z ∷ zs) others k d m (inl p) c h = free_at z.message.tag (map message_of zs ++ others) m k.0 (among_last m (map message_of zs) others c) (sym (ap (λ (y : Delivery). y.message.tag) p) ∙ h)
other_tag (z ∷ zs) others k d m (inr a) c h = other_tag zs others k.1 d m a c h

-- a settlement that was heard
known_by : (ds : List Delivery) (others : List Message) (gave : List Ruling) → AreApart (map message_of ds ++ others) → (d : Delivery) → IsAmong d ds → (x : Settlement) → Learnt ds gave d.message.tag x
    → (state : DeliveryState) × ((x ≡ settlement_of (Some state)) × IsAmong (record { number = d.number; state = state }) gave)
known_by ds others gave k d a x l =
    let e : l.delivery ≡ d = one_tag ds others k l.delivery d l.among a l.is_tag in
    (l.state, (l.is, subst (λ (y : Delivery). IsAmong (record { number = y.number; state = l.state }) gave) e l.was_given))

known_either : (ds : List Delivery) (others : List Message) (gave : List Ruling) (told : List (List ℕ × Settlement)) → AreApart (map message_of ds ++ others) → (d : Delivery) → IsAmong d ds → (x : Settlement)
    → (IsAmong (d.message.tag, x) told → Learnt ds gave d.message.tag x) → (P : Type 0) → P ⊎ IsAmong (d.message.tag, x) told
    → P ⊎ ((state : DeliveryState) × ((x ≡ settlement_of (Some state)) × IsAmong (record { number = d.number; state = state }) gave))
known_either ds others gave told k d a x f P (inl h) = inl h
known_either ds others gave told k d a x f P (inr h) = inr (known_by ds others gave k d a x (f h))

known : (ds : List Delivery) (others : List Message) (gave : List Ruling) (told : List (List ℕ × Settlement)) → AreApart (map message_of ds ++ others) → (d : Delivery) → IsAmong d ds
    → ((tag : List ℕ) (x : Settlement) → IsAmong (tag, x) told → Learnt ds gave tag x) → (x : Settlement) → IsSettled told d.message x → IsOutcome gave d x
known ds others gave told k d a f Unsettled h = tt
known ds others gave told k d a f (Settled o) h = known_either ds others gave told k d a (Settled o) (λ i. f d.message.tag (Settled o) i) _ h
known ds others gave told k d a f NonTerminal h = known_either ds others gave told k d a NonTerminal (λ i. f d.message.tag NonTerminal i) _ h
known ds others gave told k d a f Illegal h = known_either ds others gave told k d a Illegal (λ i. f d.message.tag Illegal i) _ h

-- of one that has not begun to leave nothing was heard
unknown_either : (m : Message) (x : Settlement) (told : List (List ℕ × Settlement)) → (IsAmong (m.tag, x) told → ⊥) → (P : Type 0) → P ⊎ IsAmong (m.tag, x) told → P ⊎ ⊥
unknown_either m x told f P (inl h) = inl h
unknown_either m x told f P (inr h) = inr (f h)

unknown : (ds : List Delivery) (others : List Message) (gave : List Ruling) (told : List (List ℕ × Settlement)) → AreApart (map message_of ds ++ others) → (m : Message) → IsAmong m others
    → ((tag : List ℕ) (x : Settlement) → IsAmong (tag, x) told → Learnt ds gave tag x) → (x : Settlement) → IsSettled told m x → IsSettled [] m x
unknown ds others gave told k m a f Unsettled h = tt
unknown ds others gave told k m a f (Settled o) h = unknown_either m (Settled o) told (λ i. (let l = f m.tag (Settled o) i in other_tag ds others k l.delivery m l.among a l.is_tag)) _ h
unknown ds others gave told k m a f NonTerminal h = unknown_either m NonTerminal told (λ i. (let l = f m.tag NonTerminal i in other_tag ds others k l.delivery m l.among a l.is_tag)) _ h
unknown ds others gave told k m a f Illegal h = unknown_either m Illegal told (λ i. (let l = f m.tag Illegal i in other_tag ds others k l.delivery m l.among a l.is_tag)) _ h

rest_known : (told : List (List ℕ × Settlement)) (ms : List Message) (xs : List Settlement) → ((m : Message) → IsAmong m ms → (x : Settlement) → IsSettled told m x → IsSettled [] m x) → AreSettled told ms xs → AreSettled [] ms xs
rest_known told [] [] f h = tt
rest_known told [] (x ∷ xs) f h = absurd h
rest_known told (m ∷ ms) [] f h = absurd h
rest_known told (m ∷ ms) (x ∷ xs) f h = (f m (inl refl) x h.0, rest_known told ms xs (λ n a. f n (inr a)) h.1)

all_known : (gave : List Ruling) (told : List (List ℕ × Settlement)) (ds : List Delivery) (others : List Message) (xs : List Settlement) → ((d : Delivery) → IsAmong d ds → (x : Settlement) → IsSettled told d.message x → IsOutcome gave d x)
    → ((m : Message) → IsAmong m others → (x : Settlement) → IsSettled told m x → IsSettled [] m x) → AreSettled told (map message_of ds ++ others) xs → AreOutcomes gave ds others xs
all_known gave told [] others xs f g h = rest_known told others xs g h
all_known gave told (d ∷ ds) others [] f g h = absurd h
all_known gave told (d ∷ ds) others (x ∷ xs) f g h = (f d (inl refl) x h.0, all_known gave told ds others xs (λ e a. f e (inr a)) g h.1)

-- ---- together

-- what the links are handed
handed_well : (handle : ℕ) (s : Sender) (ms : List sending.Move) (t : Session) (ns : List session.Move) (u : Session) (js : List session.Move) (lives : List Life) → Back handle s ms t ns u js lives
    → Each (Hands (given_by lives) (session.transfers (session.written t ns))) (handed_over t ns)
handed_well handle s ms t ns u js lives k =
    let gave = given_by lives in
    let parts = session.transfers (session.written t ns) in
    let says = lives_give gave lives (each_all (λ (r : Ruling). IsAmong r gave) gave (λ r a. a)) k.silent in
    let spoke = writes_all gave (spoken u js) (λ y a. given_at gave (rulings (written_by lives)) y (are_at (rulings (spoken u js)) (rulings (written_by lives)) y k.takes a) says) in
    let first = writes_all gave (bodies u.output) (λ y a. none_among {P = IsGiven gave y} y (rulings (bodies u.output)) k.unsaid a) in
    let wrote = session_writes gave u js spoke first in
    let read = each_first (Of (Writes gave)) (frames_heard ns) k.unheard (subst (λ (xs : List Framed). Each (Of (Writes gave)) xs) (sym k.hears) wrote) in
    all_handed (Any {X = FrameBody}) (IsWritten parts) (Hands gave parts) (hands_fair gave parts) t ns (any_told t ns) (brings_all gave parts ns read) (out_all (session.written t ns))
    (hands_first gave parts t.incoming (λ y a. none_among {P = IsGiven gave y} y (rulings (brought t.incoming)) k.unhanded a) (λ y a. none_among {P = IsOut parts y} y (lefts t.incoming) k.unleft a))

learnt : (gave : List Ruling) (ds : List Delivery) (handle : ℕ) (base parts later : List Part) (all : List Part) (given : List LinkInput) (w : News) (x : Settlement) → on handle all ≡ base ++ parts → base ≡ [] → Carry (map whole_of ds) (parts ++ later)
    → Each (Hands gave all) given → IsNews given handle w → x ≡ settlement_of w.state → Learnt ds gave w.delivery.delivery_tag x
learnt gave ds handle base parts later all given w x o e c h n is =
    let rules : Rules gave n.disposition = each_at (Hands gave all) given (input.Disposition n.disposition) n.among h in
    let g = rules n.by_receiver in
    let out : IsOut all n.left.delivery = each_at (Hands gave all) given (input.Left n.left.delivery) n.left.among h in
    let f = out_found handle ds all base parts later n.left.delivery w.delivery.delivery_id w.delivery.delivery_tag o e c out n.left.is_handle n.left.is_number n.left.is_tag in
    let i = in_order n.disposition.first (last_of n.disposition) w.delivery.delivery_id g.order n.short n.left.short n.within in
    record {
      delivery = f.delivery;
      among = f.among;
      is_tag = f.is_tag;
      state = g.state;
      is = is ∙ ap settlement_of (n.state ∙ g.says);
      was_given = subst (λ (m : ℕ). IsAmong (record { number = m; state = g.state }) gave) (sym f.is_number) (g.each w.delivery.delivery_id i.above i.below);
    }

pub outcomes_were_given : OutcomesWereGiven
outcomes_were_given handle s ms t ns u js r ks others p k =
    let lives : List Life = record { receiver = r; moves = ks } ∷ others in
    let gave = given_by lives in
    let l = leave handle s ms t ns u js r ks p in
    let all = session.transfers (session.written t ns) in
    let handed = handed_well handle s ms t ns u js lives k in
    let news_are = first_news (handed_over t ns) handle k.steps k.reads k.short in
    let hear : (tag : List ℕ) (x : Settlement) → IsAmong (tag, x) (heard ms) → Learnt l.deliveries gave tag x = (λ tag x a.
    (let y = news_heard ms tag x a in
    subst (λ (z : List ℕ). Learnt l.deliveries gave z x) y.is_tag
    (learnt gave l.deliveries handle (on handle (session.transfers t.output)) l.parts l.later all (handed_over t ns) y.word x l.output p.unwritten l.carried handed
    (each_at (IsNews (handed_over t ns) handle) (told handle [] k.steps) y.word (are_at (news ms) (told handle [] k.steps) y.word k.learns y.among) news_are) y.is))) in
    let apart : AreApart (map message_of l.deliveries ++ l.others) = subst (λ (ys : List Message). AreApart ys) l.all k.apart in
    let settled = subst (λ (ys : List Message). AreSettled (heard ms) ys (sending.after_all s ms).settlements) l.all (outcomes_were_heard s ms k.unknown k.unsettled) in
    record {
      deliveries = l.deliveries;
      others = l.others;
      all = l.all;
      answers = answer handle s ms t ns u js r ks p l;
      outcomes = all_known gave (heard ms) l.deliveries l.others (sending.after_all s ms).settlements
          (λ d a. known l.deliveries l.others gave (heard ms) apart d a hear) (λ m a. unknown l.deliveries l.others gave (heard ms) apart m a hear) settled;
    }
