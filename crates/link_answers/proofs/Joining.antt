-- How a receiver joins the Transfers of a delivery that wait at it: what it gives is what those carry.
use Rattle.std.specs.Prelude.{◌≡◌, ℕ, nat_eq, nat_lt, Bool, true, false, not, ◌&&◌, List, [], ◌∷◌, ◌++◌, Option, Some, None, unwrap_or, Result, Ok, if◌then◌else◌, refl}
use Rattle.std.specs.Str.{bytes_eq}
use Rattle.std.proofs.Common.{inl, inr, sym, ◌∙◌, ap, subst, append_assoc}
use Rattle.std.proofs.lemmas.Bool.{eqb-true, and_parts}
use Rattle.std.proofs.lemmas.List.{append-nil, map-append}
use Rattle.std.proofs.lemmas.List.Elements.{All-nil, All-cons, All-push}
use Rattle.std.proofs.lemmas.Slice.Eq.{bytes_eq-Decides}
use Rattle.amqp_composites.specs.declared.modes.ReceiverSettleMode.{ReceiverSettleMode}
use Rattle.amqp_composites.specs.Modes.{same_receiver_mode}
use Rattle.amqp_link.specs.declared.error.LinkStateError.{LinkStateError}
use Rattle.amqp_link.specs.declared.error.LinkStateError.TheVariants.{IllegalState}
use Rattle.amqp_link.specs.Link as link
use Rattle.amqp_parts.specs.declared.incomplete.PartError.{PartError}
use Rattle.amqp_parts.specs.declared.incomplete.PartError.TheVariants as part
use Rattle.amqp_parts.specs.declared.part.Part.{Part}
use Rattle.amqp_parts.specs.Join as join
use Rattle.amqp_parts.specs.Join.{Incomplete, first_said}
use Rattle.amqp_parts.specs.Split.{bytes_of}
use Rattle.amqp_performatives.specs.declared.transfer.Transfer.{Transfer}
use Rattle.amqp_receiver.specs.declared.error.RecvError.{RecvError}
use Rattle.amqp_receiver.specs.declared.error.RecvError.TheVariants as error
use Rattle.amqp_receiver.specs.declared.receiver.Incoming.{Incoming}
use Rattle.amqp_receiver.specs.Delivering.{all_bytes}
use Rattle.amqp_receiver.specs.Receiver.{State}
use Rattle.amqp_receiver.specs.Receiving.{Got, Step, goes, fails, closes, closed_for, info_of, forgotten, aborted_at, given_if, complete, buffered, stated_at, stated, entered, settled_if, started_unless, joined_to, without_state, total, too_large, is_stray_state, is_too_large, belongs, taken_whole, taken, next, receiving, ended_as, ended, received}
use Rattle.amqp_receiver.specs.Receiving as receiver
use Rattle.amqp_session.specs.declared.session.LinkInput.{LinkInput}
use Rattle.amqp_termini.specs.declared.state.DeliveryState.{DeliveryState}
use Rattle.link_answers.specs.Standing.{Given, IsHanded, BeginsAs, IsPartOf, SayMore, said_mode, AreParts, AreAmong}
use Rattle.link_answers.specs.Keeping.{IsJoined, IsBegun, WaitStands, parts_in}
use Rattle.link_answers.proofs.Receivers.{Steps, taken_takes}

-- ---- these are some of those, in order

abbrev pub Among : {X : Type 0} → List X → List X → Type 0
Among xs ys = AreAmong (λ x y. x ≡ y) xs ys

module _ {X Y : Type 0} (R : X → Y → Type 0) where
  pub among_behind : (xs : List X) (ys zs : List Y) → AreAmong R xs ys → AreAmong R xs (zs ++ ys)
  among_behind xs ys [] k = k
  among_behind [] ys (z ∷ zs) k = tt
  among_behind (x ∷ xs) ys (z ∷ zs) k = inr (among_behind (x ∷ xs) ys zs k)

among_same : {X : Type 0} (xs : List X) → Among xs xs
among_same [] = tt
among_same (x ∷ xs) = inl (refl, among_same xs)

among_left : {X : Type 0} (xs ys : List X) → Among xs (xs ++ ys)
among_left [] ys = tt
among_left (x ∷ xs) ys = inl (refl, among_left xs ys)

among_right : {X : Type 0} (xs ys : List X) → Among ys (xs ++ ys)
among_right {X} xs ys = among_behind (λ (x y : X). x ≡ y) ys ys xs (among_same ys)

among_both : {X : Type 0} (xs ys zs : List X) → Among xs ys → Among (xs ++ zs) (ys ++ zs)
among_both [] ys zs k = among_right ys zs
among_both (x ∷ xs) [] zs k = absurd k
among_both (x ∷ xs) (y ∷ ys) zs (inl k) = inl (k.0, among_both xs ys zs k.1)
among_both (x ∷ xs) (y ∷ ys) zs (inr k) = inr (among_both (x ∷ xs) ys zs k)

module _ {X Y : Type 0} (R : X → Y → Type 0) where
  -- some of some
  pub among_some : (xs ys : List X) (zs : List Y) → Among xs ys → AreAmong R ys zs → AreAmong R xs zs
  among_some [] ys zs k h = tt
  among_some (x ∷ xs) [] zs k h = absurd k
  among_some (x ∷ xs) (y ∷ ys) [] k h = absurd h
  among_some (x ∷ xs) (y ∷ ys) (z ∷ zs) k (inr h) = inr (among_some (x ∷ xs) (y ∷ ys) zs k h)
  among_some (x ∷ xs) (y ∷ ys) (z ∷ zs) (inl k) (inl h) = inl (subst (λ (i : X). R i z) (sym k.0) h.0, among_some xs ys zs k.1 h.1)
  among_some (x ∷ xs) (y ∷ ys) (z ∷ zs) (inr k) (inl h) = inr (among_some (x ∷ xs) ys zs k h.1)

  pub among_longer : (xs : List X) (ys zs : List Y) → AreAmong R xs ys → AreAmong R xs (ys ++ zs)
  among_longer [] ys zs k = tt
  among_longer (x ∷ xs) [] zs k = absurd k
  among_longer (x ∷ xs) (y ∷ ys) zs (inl k) = inl (k.0, among_longer xs ys zs k.1)
  among_longer (x ∷ xs) (y ∷ ys) zs (inr k) = inr (among_longer (x ∷ xs) ys zs k)

  among_last : (x : X) (ys : List Y) (y : Y) → R x y → AreAmong R (x ∷ []) (ys ++ y ∷ [])
  among_last x [] y k = inl (k, tt)
  among_last x (z ∷ zs) y k = inr (among_last x zs y k)

  -- one more, as the last
  pub among_push : (xs : List X) (ys : List Y) (x : X) (y : Y) → AreAmong R xs ys → R x y → AreAmong R (xs ++ x ∷ []) (ys ++ y ∷ [])
  among_push [] ys x y k h = among_last x ys y h
  among_push (i ∷ xs) [] x y k h = absurd k
  among_push (i ∷ xs) (j ∷ ys) x y (inl k) h = inl (k.0, among_push xs ys x y k.1 h)
  among_push (i ∷ xs) (j ∷ ys) x y (inr k) h = inr (among_push (i ∷ xs) ys x y k h)

  -- where the first of some is
  pub record First (x : X) (xs : List X) (ys : List Y) : Type 0 where
    pub before : List Y
    pub one : Y
    pub rest : List Y
    pub all : ys ≡ before ++ one ∷ rest
    pub is : R x one
    pub others : AreAmong R xs rest

  pub among_first : (x : X) (xs : List X) (ys : List Y) → AreAmong R (x ∷ xs) ys → First x xs ys
  among_first x xs [] k = absurd k
  among_first x xs (y ∷ ys) (inl k) = record { before = []; one = y; rest = ys; all = refl; is = k.0; others = k.1 }
  among_first x xs (y ∷ ys) (inr k) =
      let f = among_first x xs ys k in record { before = y ∷ f.before; one = f.one; rest = f.rest; all = ap (λ (zs : List Y). y ∷ zs) f.all; is = f.is; others = f.others }

pub among_weaker : {X Y : Type 0} (R S : X → Y → Type 0) → ((x : X) (y : Y) → R x y → S x y) → (xs : List X) (ys : List Y) → AreAmong R xs ys → AreAmong S xs ys
among_weaker R S f [] ys k = tt
among_weaker R S f (x ∷ xs) [] k = absurd k
among_weaker R S f (x ∷ xs) (y ∷ ys) (inl k) = inl (f x y k.0, among_weaker R S f xs ys k.1)
among_weaker R S f (x ∷ xs) (y ∷ ys) (inr k) = inr (among_weaker R S f (x ∷ xs) ys k)

-- ---- one more Transfer

said_alone : {X : Type 0} (o : Option X) → first_said o None ≡ o
said_alone (Some x) = refl
said_alone None = refl

said_behind : {X : Type 0} (a b c : Option X) → first_said a (first_said b c) ≡ first_said (first_said a b) c
said_behind (Some x) b c = refl
said_behind None b c = refl

mode_more : (xs : List Part) (x : Part) → said_mode (xs ++ x ∷ []) ≡ first_said (said_mode xs) x.transfer.rcv_settle_mode
mode_more [] x = said_alone x.transfer.rcv_settle_mode
mode_more (y ∷ ys) x =
    ap (λ (o : Option ReceiverSettleMode). first_said y.transfer.rcv_settle_mode o) (mode_more ys x)
    ∙ said_behind y.transfer.rcv_settle_mode (said_mode ys) x.transfer.rcv_settle_mode

bytes_more : (xs : List Part) (x : Part) → bytes_of (xs ++ x ∷ []) ≡ bytes_of xs ++ x.payload
bytes_more [] x = append-nil x.payload
bytes_more (y ∷ ys) x = ap (λ (zs : List ℕ). y.payload ++ zs) (bytes_more ys x) ∙ sym (append_assoc y.payload (bytes_of ys) x.payload)

payloads_more : (ps : List (List ℕ)) (p : List ℕ) → all_bytes (ps ++ p ∷ []) ≡ all_bytes ps ++ p
payloads_more [] p = append-nil p
payloads_more (q ∷ qs) p = ap (λ (zs : List ℕ). q ++ zs) (payloads_more qs p) ∙ sym (append_assoc q (all_bytes qs) p)

say_more : (more : Bool) (xs : List Part) (x : Part) → SayMore true xs → x.transfer.more ≡ more → SayMore more (xs ++ x ∷ [])
say_more more [] x k h = absurd k
say_more more (y ∷ []) x k h = (k, h)
say_more more (y ∷ z ∷ zs) x k h = (k.0, say_more more (z ∷ zs) x k.1 h)

begins_more : (number : ℕ) (tag : List ℕ) (xs : List Part) (x : Part) → BeginsAs number tag xs → BeginsAs number tag (xs ++ x ∷ [])
begins_more number tag [] x k = absurd k
begins_more number tag (y ∷ ys) x k = k

-- a part that agrees says no other number or tag
same_number : (o : Option ℕ) (number other : ℕ) → join.agree nat_eq (Some number) o ≡ true → o ≡ Some other → other ≡ number
same_number None number other h e = absurd cc
same_number (Some n) number other h e = (let same : n ≡ other = cc in sym (eqb-true number n h ∙ same))

same_tag : (o : Option (List ℕ)) (tag other : List ℕ) → join.agree bytes_eq (Some tag) o ≡ true → o ≡ Some other → other ≡ tag
same_tag None tag other h e = absurd cc
same_tag (Some t) tag other h e = (let same : t ≡ other = cc in sym ((bytes_eq-Decides tag t).0 h ∙ same))

-- a delivery that was begun goes on
goes_on : (parts : List Part) (b : Incomplete) (y : Part) → IsJoined true parts b → y.transfer.aborted ≡ false → join.agrees b.transfer (without_state y.transfer) ≡ true
    → IsJoined y.transfer.more (parts ++ y ∷ []) (join.appended b (without_state y.transfer) y.payload)
goes_on parts b y k w h =
    let x = y.transfer in
    let m = and_parts _ (join.agree same_receiver_mode b.transfer.rcv_settle_mode x.rcv_settle_mode) h in
    let f = and_parts _ (join.agree nat_eq b.transfer.message_format x.message_format) m.0 in
    let t = and_parts (join.agree nat_eq b.transfer.delivery_id x.delivery_id) (join.agree bytes_eq b.transfer.delivery_tag x.delivery_tag) f.0 in
    let number : join.agree nat_eq (Some k.number) x.delivery_id ≡ true = subst (λ (o : Option ℕ). join.agree nat_eq o x.delivery_id ≡ true) k.has_number t.0 in
    let tag : join.agree bytes_eq (Some k.tag) x.delivery_tag ≡ true = subst (λ (o : Option (List ℕ)). join.agree bytes_eq o x.delivery_tag ≡ true) k.has_tag t.1 in
    record {
      number = k.number;
      tag = k.tag;
      has_number = ap (λ (o : Option ℕ). first_said o x.delivery_id) k.has_number;
      has_tag = ap (λ (o : Option (List ℕ)). first_said o x.delivery_tag) k.has_tag;
      are = record {
        begins = begins_more k.number k.tag parts y k.are.begins;
        each = All-push (IsPartOf k.number k.tag) parts y k.are.each (record { whole = w; says_number = λ other e. same_number x.delivery_id k.number other number e; says_tag = λ other e. same_tag x.delivery_tag k.tag other tag e });
        mode = mode_more parts y ∙ ap (λ (o : Option ReceiverSettleMode). first_said o x.rcv_settle_mode) k.are.mode;
        say = say_more x.more parts y k.are.say refl;
      };
      bytes = payloads_more b.payloads y.payload ∙ (ap (λ (zs : List ℕ). zs ++ y.payload) k.bytes ∙ sym (bytes_more parts y));
    }

has_both : (a : Option ℕ) (t : Option (List ℕ)) → join.lacks a t ≡ None → (number : ℕ) × ((tag : List ℕ) × ((a ≡ Some number) × (t ≡ Some tag)))
has_both None t h = absurd cc
has_both (Some number) None h = absurd cc
has_both (Some number) (Some tag) h = (number, (tag, (refl, refl)))

one_number : {X : Type 0} (o : Option X) (x other : X) → o ≡ Some x → o ≡ Some other → other ≡ x
one_number o x other e h = (let both : Some x ≡ Some other = sym e ∙ h in cc)

-- a delivery is begun
begins : (y : Part) → y.transfer.aborted ≡ false → join.lacks y.transfer.delivery_id y.transfer.delivery_tag ≡ None
    → IsJoined y.transfer.more (y ∷ []) (join.begun (without_state y.transfer) y.payload)
begins y w h =
    let x = y.transfer in
    let k = has_both x.delivery_id x.delivery_tag h in
    let number = k.0 in
    let tag = k.1.0 in
    let e : x.delivery_id ≡ Some number = k.1.1.0 in
    let f : x.delivery_tag ≡ Some tag = k.1.1.1 in
    record {
      number = number;
      tag = tag;
      has_number = e;
      has_tag = f;
      are = record {
        begins = (e, f);
        each = All-cons (IsPartOf number tag) y [] (record { whole = w; says_number = λ other i. one_number x.delivery_id number other e i; says_tag = λ other i. one_number x.delivery_tag tag other f i }) (All-nil (IsPartOf number tag));
        mode = said_alone x.rcv_settle_mode;
        say = refl;
      };
      bytes = refl;
    }

-- ---- what a Transfer that is taken leaves

forgotten_buffer : (o : Option (List ℕ)) (s : State) → (forgotten o s).buffer ≡ s.buffer
forgotten_buffer None s = refl
forgotten_buffer (Some tag) s = refl

closed_if : (c : Bool) (s t : State) → t.buffer ≡ s.buffer → (if c then t else s).buffer ≡ s.buffer
closed_if true s t e = e
closed_if false s t e = refl

closed_buffer : (condition : List ℕ) (s : State) → (closed_for condition s).buffer ≡ s.buffer
closed_buffer condition s = closed_if (link.is_attached s.link.phase) s _ refl

stated_at_buffer : (o : Option (List ℕ)) (state : DeliveryState) (s : State) → (stated_at o state s).buffer ≡ s.buffer
stated_at_buffer None state s = refl
stated_at_buffer (Some tag) state s = refl

stated_buffer : (o : Option DeliveryState) (x : Transfer) (s : State) → (stated o x s).buffer ≡ s.buffer
stated_buffer None x s = refl
stated_buffer (Some state) x s = stated_at_buffer x.delivery_tag state s

entered_if : (c : Bool) (s t : State) → t.buffer ≡ s.buffer → (if c then s else t).buffer ≡ s.buffer
entered_if true s t e = refl
entered_if false s t e = e

entered_buffer : (x : Transfer) (s : State) → (entered x s).buffer ≡ s.buffer
entered_buffer x s = entered_if (unwrap_or x.settled false) s _ refl

settled_buffer : (x : Transfer) (s : State) → (settled_if x s).buffer ≡ s.buffer
settled_buffer x s = closed_if (unwrap_or x.settled false) s (forgotten x.delivery_tag s) (forgotten_buffer x.delivery_tag s)

-- what is given is a whole delivery, of Transfers among these
record Gave (all : List Part) (x : Got) : Type 0 where
  parts : List Part
  among : Among parts all
  whole : AreParts false x.info parts
  bytes : all_bytes x.payloads ≡ bytes_of parts

abbrev Gives : List Part → Option (Result Got RecvError) → Type 0
Gives all (Some (Ok x)) = Gave all x
Gives all other = Unit {0}

-- a Transfer is taken behind those of the delivery that was begun
module _ (before : List Part) (y : Part) where
  record Took (step : Step) : Type 0 where
    begun : List Part
    has : IsBegun begun step.state.buffer
    among : Among begun (before ++ y ∷ [])
    gives : Gives (before ++ y ∷ []) step.answer

  -- it is as it was
  quiet : (s : State) (step : Step) → step.state.buffer ≡ s.buffer → IsBegun before s.buffer → Gives (before ++ y ∷ []) step.answer → Took step
  quiet s step e k g = record { begun = before; has = subst (IsBegun before) (sym e) k; among = among_left before (y ∷ []); gives = g }

  -- nothing is begun
  none_begun : (step : Step) → step.state.buffer ≡ None → Gives (before ++ y ∷ []) step.answer → Took step
  none_begun step e g = record { begun = []; has = subst (IsBegun []) (sym e) refl; among = tt; gives = g }

  gave : (parts : List Part) (d : Incomplete) → IsJoined false parts d → Among parts (before ++ y ∷ [])
      → Gave (before ++ y ∷ []) (record { info = info_of d.transfer; message_format = d.transfer.message_format; payloads = d.payloads })
  gave parts d k a =
      let mode = d.transfer.rcv_settle_mode in
      let number : k.number ≡ unwrap_or d.transfer.delivery_id 0 = sym (ap (λ (o : Option ℕ). unwrap_or o 0) k.has_number) in
      let tag : k.tag ≡ unwrap_or d.transfer.delivery_tag [] = sym (ap (λ (o : Option (List ℕ)). unwrap_or o []) k.has_tag) in
      record {
        parts = parts;
        among = a;
        whole = subst (λ (t : List ℕ). AreParts false (record { delivery_id = unwrap_or d.transfer.delivery_id 0; delivery_tag = t; rcv_settle_mode = mode }) parts) tag
            (subst (λ (n : ℕ). AreParts false (record { delivery_id = n; delivery_tag = k.tag; rcv_settle_mode = mode }) parts) number k.are);
        bytes = k.bytes;
      }

  given_took : (c : Bool) (parts : List Part) (d : Incomplete) (t : State) → IsJoined false parts d → Among parts (before ++ y ∷ []) → t.buffer ≡ None → Took (given_if c d.transfer d.payloads t)
  given_took true parts d t k a e = none_begun (given_if true d.transfer d.payloads t) e (gave parts d k a)
  given_took false parts d t k a e = none_begun (given_if false d.transfer d.payloads t) (forgotten_buffer d.transfer.delivery_tag t ∙ e) tt

  complete_if : (c e : Bool) (parts : List Part) (d : Incomplete) (s t : State) → IsJoined false parts d → Among parts (before ++ y ∷ []) → s.buffer ≡ None → t.buffer ≡ None
      → Took (if c then fails error.IllegalRcvSettleModeInTransfer (forgotten d.transfer.delivery_tag s) else given_if e d.transfer d.payloads t)
  complete_if true e parts d s t k a i j = none_begun (fails error.IllegalRcvSettleModeInTransfer (forgotten d.transfer.delivery_tag s)) (forgotten_buffer d.transfer.delivery_tag s ∙ i) tt
  complete_if false e parts d s t k a i j = given_took e parts d t k a j

  complete_took : (parts : List Part) (d : Incomplete) (s : State) → IsJoined false parts d → Among parts (before ++ y ∷ []) → s.buffer ≡ None → Took (complete d s)
  complete_took parts d s k a e = complete_if _ (nat_lt 0 s.book.credit) parts d s _ k a e e

  buffered_took : (c : Bool) (parts : List Part) (d : Incomplete) (s : State) → IsJoined c parts d → Among parts (before ++ y ∷ []) → s.buffer ≡ None
      → Took (if c then goes (record s { buffer = Some d }) else complete d s)
  buffered_took true parts d s k a e = record { begun = parts; has = k; among = a; gives = tt }
  buffered_took false parts d s k a e = complete_took parts d s k a e

  module _ (whole : y.transfer.aborted ≡ false) where
    started_took : (o : Option PartError) (state : Option DeliveryState) (s : State) → join.lacks y.transfer.delivery_id y.transfer.delivery_tag ≡ o → s.buffer ≡ None
        → Took (started_unless o state (without_state y.transfer) y.payload s)
    started_took (Some part.DeliveryTagIsNone) state s l e = none_begun (closes error.DeliveryTagIsNone s) (closed_buffer _ s ∙ e) tt
    started_took None state s l e =
        let x = without_state y.transfer in
        let t = entered x s in
        buffered_took y.transfer.more (y ∷ []) (join.begun x y.payload) (stated state x t) (begins y whole l) (among_right before (y ∷ [])) (stated_buffer state x t ∙ (entered_buffer x s ∙ e))
    started_took (Some other) state s l e = none_begun (closes error.DeliveryIdIsNone s) (closed_buffer _ s ∙ e) tt

    continued_took : (c : Bool) (b : Incomplete) (state : Option DeliveryState) (s : State) → join.agrees b.transfer (without_state y.transfer) ≡ c → IsJoined true before b → IsBegun before s.buffer
        → Took (if c then buffered (join.appended b (without_state y.transfer) y.payload) (stated state (join.appended b (without_state y.transfer) y.payload).transfer (settled_if (join.appended b (without_state y.transfer) y.payload).transfer (record s { buffer = None }))) else closes error.InconsistentFieldInMultiFrameDelivery s)
    continued_took true b state s h k i =
        let d = join.appended b (without_state y.transfer) y.payload in
        let t : State = record s { buffer = None } in
        let u = settled_if d.transfer t in
        buffered_took y.transfer.more (before ++ y ∷ []) d (stated state d.transfer u) (goes_on before b y k whole h) (among_same (before ++ y ∷ [])) (stated_buffer state d.transfer u ∙ settled_buffer d.transfer t)
    continued_took false b state s h k i = quiet s (closes error.InconsistentFieldInMultiFrameDelivery s) (closed_buffer _ s) i tt

    joined_took : (o : Option Incomplete) (state : Option DeliveryState) (s : State) → s.buffer ≡ o → IsBegun before s.buffer → Took (joined_to o state (without_state y.transfer) y.payload s)
    joined_took None state s e k = started_took (join.lacks y.transfer.delivery_id y.transfer.delivery_tag) state s refl e
    joined_took (Some b) state s e k = continued_took (join.agrees b.transfer (without_state y.transfer)) b state s refl (subst (IsBegun before) e k) k

    whole_took : (c d : Bool) (size : ℕ) (s : State) → IsBegun before s.buffer → Took (if c then closes error.DeliveryTagIsNone s else (if d then too_large size s else receiver.joined y.transfer y.payload s))
    whole_took true d size s k = quiet s (closes error.DeliveryTagIsNone s) (closed_buffer _ s) k tt
    whole_took false true size s k = none_begun (too_large size s) (closed_buffer _ (record s { buffer = None })) tt
    whole_took false false size s k = joined_took s.buffer y.transfer.state s refl k

  aborted_if : (c : Bool) (tag : Option (List ℕ)) (s : State) → IsBegun before s.buffer → Took (if c then goes (forgotten tag (record s { buffer = None })) else closes error.InconsistentFieldInMultiFrameDelivery s)
  aborted_if true tag s k = none_begun (goes (forgotten tag (record s { buffer = None }))) (forgotten_buffer tag (record s { buffer = None })) tt
  aborted_if false tag s k = quiet s (closes error.InconsistentFieldInMultiFrameDelivery s) (closed_buffer _ s) k tt

  aborted_took : (o : Option Incomplete) (s : State) → IsBegun before s.buffer → Took (aborted_at o y.transfer s)
  aborted_took None s k = quiet s (goes s) refl k tt
  aborted_took (Some d) s k = aborted_if (join.is_same_delivery d.transfer y.transfer) d.transfer.delivery_tag s k

  taken_if : (c d : Bool) (s : State) → y.transfer.aborted ≡ c → IsBegun before s.buffer → Took (if c then aborted_at s.buffer y.transfer s else (if d then goes s else taken_whole y.transfer y.payload s))
  taken_if true d s h k = aborted_took s.buffer s k
  taken_if false true s h k = quiet s (goes s) refl k tt
  taken_if false false s h k = whole_took h (is_stray_state y.transfer s) (is_too_large (total y.transfer y.payload s) s.link.max_message_size) (total y.transfer y.payload s) s k

  taken_took : (s : State) → IsBegun before s.buffer → Took (taken y.transfer y.payload s)
  unfolding taken
  taken_took s k = taken_if y.transfer.aborted (y.transfer.resume && not (belongs s.buffer y.transfer)) s refl k

-- ---- what a call that receives gives

-- each of some was handed over where all were
module _ (Handed : List Part → Type 0) (some : (xs ys : List Part) → Among xs ys → Handed ys → Handed xs) where
  -- what waits was handed over
  pub record Waits (s : State) : Type 0 where
    pub begun : List Part
    pub has : IsBegun begun s.buffer
    pub handed : Handed (begun ++ parts_in s.incoming)

  -- and so was what is given
  pub record WasGiven (x : Got) : Type 0 where
    pub parts : List Part
    pub handed : Handed parts
    pub whole : AreParts false x.info parts
    pub bytes : all_bytes x.payloads ≡ bytes_of parts

  pub record Received (step : Step) : Type 0 where
    pub waits : Waits step.state
    pub gives : (x : Got) → step.answer ≡ Some (Ok x) → WasGiven x

  gives_of : (all : List Part) (o : Option (Result Got RecvError)) (x : Got) → Handed all → Gives all o → o ≡ Some (Ok x) → WasGiven x
  gives_of all o x h g e = (let k = subst (Gives all) e g in record { parts = k.parts; handed = some k.parts all k.among h; whole = k.whole; bytes = k.bytes })

  next_received : (o : Option (Result Got RecvError)) (t : State) (go : State → Step) → Waits t → ((x : Got) → o ≡ Some (Ok x) → WasGiven x) → Received (go t) → Received (next o t go)
  next_received None t go w f k = k
  next_received (Some r) t go w f k = record { waits = w; gives = f }

  trivial : Steps (λ l m. Unit {0})
  trivial = record { same = λ l m e. tt; next = λ l m n p q. tt; says = λ x l. tt; closes = λ e l. tt; unexpected = λ l. tt }

  receiving_received : (xs : List Incoming) (s : State) (before : List Part) → s.incoming ≡ xs → IsBegun before s.buffer → Handed (before ++ parts_in xs) → Received (receiving xs s)
  receiving_received [] s before e k h = record {
    waits = record { begun = before; has = k; handed = subst (λ (zs : List Incoming). Handed (before ++ parts_in zs)) (sym e) h };
    gives = λ x i. absurd cc;
  }
  receiving_received (x ∷ xs) s before e k h =
      let u : State = record s { incoming = xs } in
      let y : Part = record { transfer = x.transfer; payload = x.payload } in
      let t = taken x.transfer x.payload u in
      let a = taken_took before y u k in
      let i : t.state.incoming ≡ xs = (taken_takes (λ l m. Unit {0}) trivial x.transfer x.payload u).incoming in
      let all : Handed ((before ++ y ∷ []) ++ parts_in xs) = subst Handed (sym (append_assoc before (y ∷ []) (parts_in xs))) h in
      let rest : Handed (a.begun ++ parts_in xs) = some (a.begun ++ parts_in xs) ((before ++ y ∷ []) ++ parts_in xs) (among_both a.begun (before ++ y ∷ []) (parts_in xs) a.among) all in
      let own : Handed (before ++ y ∷ []) = some (before ++ y ∷ []) ((before ++ y ∷ []) ++ parts_in xs) (among_left (before ++ y ∷ []) (parts_in xs)) all in
      next_received t.answer t.state (λ v. receiving xs v) (record { begun = a.begun; has = a.has; handed = subst (λ (zs : List Incoming). Handed (a.begun ++ parts_in zs)) (sym i) rest })
      (λ z j. gives_of (before ++ y ∷ []) t.answer z own a.gives j) (receiving_received xs t.state a.begun i a.has rest)

  ended_received : (o : Option LinkStateError) (s : State) → Waits s → Received (ended_as o s)
  ended_received None s w = record { waits = w; gives = λ x i. absurd cc }
  ended_received (Some e) s w = record { waits = w; gives = λ x i. absurd cc }

  received_if : (c : Bool) (s : State) → Waits s → Received (if c then fails (error.LinkStateError IllegalState) s else (let t = receiving s.incoming s in next t.answer t.state ended))
  received_if true s w = record { waits = w; gives = λ x i. absurd cc }
  received_if false s w =
      let t = receiving s.incoming s in
      let k = receiving_received s.incoming s w.begun refl w.has w.handed in
      next_received t.answer t.state ended k.waits k.gives (ended_received (link.ended_by t.state.link.remote t.state.link.stop_reason) t.state k.waits)

  -- what waits behind a call that receives, and what it gives
  pub all_received : (s : State) → Waits s → Received (received s)
  all_received s w = received_if s.link.is_closed s w

-- ---- what was handed over for a link

pub parts_both : (xs ys : List Incoming) → parts_in (xs ++ ys) ≡ parts_in xs ++ parts_in ys
parts_both xs ys = map-append (λ (x : Incoming). record { transfer = x.transfer; payload = x.payload }) xs ys

module _ (g : Given) (n : ℕ) where
  abbrev Handed : List (ℕ × LinkInput) → List Part → Type 0
  Handed read parts = AreAmong (IsHanded g n) parts read

  pub handed_some : (read : List (ℕ × LinkInput)) (xs ys : List Part) → Among xs ys → Handed read ys → Handed read xs
  handed_some read xs ys k h = among_some (IsHanded g n) xs ys read k h

  pub none_waits : (read : List (ℕ × LinkInput)) → WaitStands g n read [] None
  none_waits read = record { begun = []; has = refl; handed = tt }

  -- more was read
  pub waits_longer : (read more : List (ℕ × LinkInput)) (incoming : List Incoming) (buffer : Option Incomplete) → WaitStands g n read incoming buffer → WaitStands g n (read ++ more) incoming buffer
  waits_longer read more incoming buffer k = record { begun = k.begun; has = k.has; handed = among_longer (IsHanded g n) (k.begun ++ parts_in incoming) read more k.handed }

  -- one Transfer more waits, as it was read behind the others
  pub waits_more : (x : Part) (it : ℕ × LinkInput) (read : List (ℕ × LinkInput)) (incoming : List Incoming) (buffer : Option Incomplete) → IsHanded g n x it → WaitStands g n read incoming buffer
      → WaitStands g n (read ++ it ∷ []) (incoming ++ record { transfer = x.transfer; payload = x.payload } ∷ []) buffer
  waits_more x it read incoming buffer h k =
      let last : List Incoming = record { transfer = x.transfer; payload = x.payload } ∷ [] in
      let more : Handed (read ++ it ∷ []) ((k.begun ++ parts_in incoming) ++ x ∷ []) = among_push (IsHanded g n) (k.begun ++ parts_in incoming) read x it k.handed h in
      record {
        begun = k.begun;
        has = k.has;
        handed = subst (Handed (read ++ it ∷ [])) (append_assoc k.begun (parts_in incoming) (x ∷ []) ∙ ap (λ (zs : List Part). k.begun ++ zs) (sym (parts_both incoming last))) more;
      }

  all_handed : (read : List (ℕ × LinkInput)) (s : State) → WaitStands g n read s.incoming s.buffer → Received (Handed read) (handed_some read) (received s)
  all_handed read s k = all_received (Handed read) (handed_some read) s (record { begun = k.begun; has = k.has; handed = k.handed })

  -- a call that receives
  pub waits_still : (read : List (ℕ × LinkInput)) (s : State) → WaitStands g n read s.incoming s.buffer → WaitStands g n read (received s).state.incoming (received s).state.buffer
  waits_still read s k = (let w = (all_handed read s k).waits in record { begun = w.begun; has = w.has; handed = w.handed })

  pub received_gives : (read : List (ℕ × LinkInput)) (s : State) (x : Got) → WaitStands g n read s.incoming s.buffer → (received s).answer ≡ Some (Ok x) → WasGiven (Handed read) (handed_some read) x
  received_gives read s x k e = (all_handed read s k).gives x e
