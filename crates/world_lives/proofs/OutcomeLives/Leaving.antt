-- The deliveries that a session hands over as left are those whose Transfers it has written (as in
-- `outcomes_were_given` of session_laws).
use Rattle.std.specs.Prelude.{◌≡◌, ◌⊎◌, ℕ, nat_eq, Bool, true, false, cond, is_some, List, [], ◌∷◌, ◌++◌, map, filter, Option, Some, None, if◌then◌else◌, refl}
use Rattle.std.proofs.Common.{sym, ◌∙◌, ap, subst, inl, inr, arith}
use Rattle.std.proofs.lemmas.Bool.Decides.{nat_tests}
use Rattle.amqp_performatives.specs.declared.transfer.Transfer.{Transfer}
use Rattle.amqp_frames.specs.declared.body.FrameBody.{FrameBody}
use Rattle.amqp_frames.specs.declared.body.FrameBody.TheVariants as b
use Rattle.amqp_parts.specs.declared.part.Part.{Part}
use Rattle.amqp_parts.specs.Split.{continuation}
use Rattle.amqp_parts.specs.Cut.{cut_of}
use Rattle.amqp_session.specs.declared.session.LeftDelivery.{LeftDelivery}
use Rattle.amqp_session.specs.declared.session.LinkInput.{LinkInput}
use Rattle.amqp_session.specs.declared.session.LinkInput.TheVariants as input
use Rattle.amqp_session.specs.Hold.{begins, numbered, left_of}
use Rattle.amqp_session.specs.State.{State as Session, Framed}
use Rattle.session_laws.specs.Messages.{Delivery, ArePartsOf, Carry, transfer_in, whole_of, on}
use Rattle.session_laws.specs.Holding as session
use Rattle.session_laws.specs.Holding.{hears}
use Rattle.session_laws.specs.Handing.{handed_over}
use Rattle.session_laws.specs.Settling.{IsAmong}
use Rattle.session_laws.specs.Outcomes.{left_in, lefts}
use Rattle.session_laws.proofs.Cuts.{is_cut, is_first}
use Rattle.session_laws.proofs.Lists.{Each, each_at, each_all, among_first, among_last, either, none_among, among_flat}
use Rattle.session_laws.proofs.Speaks.{Fair, Of, Brings, AllHears, all_handed}
use Rattle.session_laws.proofs.Returns.{Any, any_told}

-- the Transfer of a delivery that has begun to leave is among these
pub record IsOut (parts : List Part) (x : LeftDelivery) : Type 0 where
  pub part : Part
  pub among : IsAmong part parts
  pub handle : part.transfer.handle ≡ x.handle
  pub number : part.transfer.delivery_id ≡ Some x.delivery_id
  pub tag : part.transfer.delivery_tag ≡ Some x.delivery_tag

-- of what is handed over as left the Transfer is among these
abbrev Hands : List Part → LinkInput → Type 0
Hands parts (input.Left x) = IsOut parts x
Hands parts other = Unit {0}

abbrev IsWritten : List Part → FrameBody → Type 0
IsWritten parts (b.Transfer x payload) = IsAmong (record { transfer = x; payload = payload }) parts
IsWritten parts other = Unit {0}

numbered_is : (n : ℕ) (x : Transfer) (tag : List ℕ) → x.delivery_tag ≡ Some tag → (numbered n x).delivery_id ≡ Some n
numbered_is n x tag h =
    let e : begins x ≡ true = ap is_some h in subst (λ (c : Bool). (if c then record x { delivery_id = Some n } else x).delivery_id ≡ Some n) (sym e) refl

numbered_tag : (n : ℕ) (x : Transfer) (c : Bool) → (if c then record x { delivery_id = Some n } else x).delivery_tag ≡ x.delivery_tag
numbered_tag n x true = refl
numbered_tag n x false = refl

numbered_handle : (n : ℕ) (x : Transfer) (c : Bool) → (if c then record x { delivery_id = Some n } else x).handle ≡ x.handle
numbered_handle n x true = refl
numbered_handle n x false = refl

left_out : (parts : List Part) (frame n : ℕ) (x : Transfer) (payload : List ℕ) (o : Option (List ℕ)) → x.delivery_tag ≡ o
    → IsAmong (record { transfer = (cut_of frame (numbered n x) payload).first.transfer; payload = (cut_of frame (numbered n x) payload).first.payload }) parts → Each (Hands parts) (left_of o n x)
left_out parts frame n x payload None e a = tt
left_out parts frame n x payload (Some tag) e a =
    let c = is_cut frame (numbered n x) payload in
    let f = is_first frame (numbered n x) payload in (
      record {
        part = record { transfer = (cut_of frame (numbered n x) payload).first.transfer; payload = (cut_of frame (numbered n x) payload).first.payload };
        among = a;
        handle = c.handle ∙ numbered_handle n x (begins x);
        number = f.number ∙ numbered_is n x tag e;
        tag = f.tag ∙ (numbered_tag n x (begins x) ∙ e);
      },
      tt,
    )

hands_fair : (parts : List Part) → Fair (Any {X = FrameBody}) (IsWritten parts) (Hands parts)
hands_fair parts = record {
  transfer = λ x payload. tt;
  ends = λ x. tt;
  flow = λ w. tt;
  attach = λ x. tt;
  detach = λ x. tt;
  part = λ x payload. tt;
  stops = λ why. tt;
  over = tt;
  left = λ frame n x payload v. left_out parts frame n x payload x.delivery_tag refl v;
}

out_one : (parts : List Part) (x : FrameBody) → ((p : Part) → IsAmong p (transfer_in x) → IsAmong p parts) → IsWritten parts x
out_one parts (b.Transfer x payload) f = f (record { transfer = x; payload = payload }) (inl refl)
out_one parts other f = tt

out_all : (xs : List Framed) → Each (Of (IsWritten (session.transfers xs))) xs
out_all xs = each_all (Of (IsWritten (session.transfers xs))) xs (λ x a. out_one (session.transfers xs) x.body (λ p i. among_flat (λ (y : Framed). transfer_in y.body) xs x p a i))

brings_left : (parts : List Part) (x : FrameBody) → Brings (Hands parts) x
brings_left parts (b.Flow x) = tt
brings_left parts (b.Disposition x) = tt
brings_left parts other = tt

brings_all : (parts : List Part) (ms : List session.Move) → AllHears (Hands parts) ms
brings_all parts [] = tt
brings_all parts (hears x ∷ ms) = (brings_left parts x.body, brings_all parts ms)
brings_all parts (m ∷ ms) = (tt, brings_all parts ms)

-- at first nothing had left
first_one : (parts : List Part) (x : LinkInput) → ((y : LeftDelivery) → IsAmong y (left_in x) → IsOut parts y) → Hands parts x
first_one parts (input.Left x) g = g x (inl refl)
first_one parts other g = tt

first_all : (parts : List Part) (xs : List LinkInput) → ((y : LeftDelivery) → IsAmong y (lefts xs) → IsOut parts y) → Each (Hands parts) xs
first_all parts [] g = tt
first_all parts (x ∷ xs) g = (first_one parts x (λ y a. g y (among_first y (left_in x) (lefts xs) a)), first_all parts xs (λ y a. g y (among_last y (left_in x) (lefts xs) a)))

-- each delivery that a session hands over as left is one of which it has written the Transfer
pub left_written : (t : Session) (ns : List session.Move) → lefts t.incoming ≡ [] → (x : LeftDelivery) → IsAmong (input.Left x) (handed_over t ns) → IsOut (session.transfers (session.written t ns)) x
left_written t ns none x a =
    let parts = session.transfers (session.written t ns) in
    let all = all_handed (Any {X = FrameBody}) (IsWritten parts) (Hands parts) (hands_fair parts) t ns (any_told t ns) (brings_all parts ns) (out_all (session.written t ns))
    (first_all parts t.incoming (λ y i. none_among {P = IsOut parts y} y (lefts t.incoming) none i)) in
    each_at (Hands parts) (handed_over t ns) (input.Left x) a all

-- ---- the numbers of deliveries

-- one of these with that tag, and its number
pub record Found (ds : List Delivery) (number : ℕ) (tag : List ℕ) : Type 0 where
  pub delivery : Delivery
  pub among : IsAmong delivery ds
  pub is_tag : delivery.message.tag ≡ tag
  pub is_number : delivery.number ≡ number

some_same : {X : Type 0} → (x y : X) → Some x ≡ Some y → x ≡ y
some_same x y h = cc

-- a part with a tag is the first one of its delivery
pub record Begins (x : Transfer) (p : Part) : Type 0 where
  pub tag : p.transfer.delivery_tag ≡ x.delivery_tag
  pub number : p.transfer.delivery_id ≡ x.delivery_id

begins_as : (x y : Transfer) (p q : Part) → p ≡ q → q.transfer ≡ y → y.delivery_tag ≡ x.delivery_tag → y.delivery_id ≡ x.delivery_id → Begins x p
begins_as x y p q e f g h = record {
  tag = ap (λ (r : Part). r.transfer.delivery_tag) e ∙ (ap (λ (z : Transfer). z.delivery_tag) f ∙ g);
  number = ap (λ (r : Part). r.transfer.delivery_id) e ∙ (ap (λ (z : Transfer). z.delivery_id) f ∙ h);
}

no_tag : (P : Type 0) (handle : ℕ) (p : Part) (tag : List ℕ) → p.transfer.delivery_tag ≡ Some tag → Begins (continuation handle) p → P
no_tag P handle p tag h k = (let e = k.tag in absurd cc)

first_part : (x : Transfer) (payload : List ℕ) (own : List Part) (p : Part) (tag : List ℕ) → ArePartsOf x payload own → IsAmong p own → p.transfer.delivery_tag ≡ Some tag → Begins x p
first_part x payload [] p tag k a h = absurd a
first_part x payload (q ∷ []) p tag k (inl e) h = begins_as x _ p q e (ap (λ (r : Part). r.transfer) k) refl refl
first_part x payload (q ∷ []) p tag k (inr a) h = absurd a
first_part x payload (q ∷ r ∷ rs) p tag k (inl e) h = begins_as x _ p q e k.1.0 refl refl
first_part x payload (q ∷ r ∷ rs) p tag k (inr a) h = no_tag (Begins x p) x.handle p tag h (first_part (continuation x.handle) k.0 (r ∷ rs) p tag k.1.2 a h)

found_more : (d : Delivery) (ds : List Delivery) (number : ℕ) (tag : List ℕ) → Found ds number tag → Found (d ∷ ds) number tag
found_more d ds number tag f = record { delivery = f.delivery; among = inr f.among; is_tag = f.is_tag; is_number = f.is_number }

found_first : (d : Delivery) (ds : List Delivery) (p : Part) (number : ℕ) (tag : List ℕ) → p.transfer.delivery_tag ≡ Some tag → p.transfer.delivery_id ≡ Some number → Begins (whole_of d).transfer p → Found (d ∷ ds) number tag
found_first d ds p number tag h n k = record {
  delivery = d;
  among = inl refl;
  is_tag = some_same d.message.tag tag (sym k.tag ∙ h);
  is_number = some_same d.number number (sym k.number ∙ n);
}

carried : (ds : List Delivery) (parts : List Part) (p : Part) (number : ℕ) (tag : List ℕ) → Carry (map whole_of ds) parts → IsAmong p parts → p.transfer.delivery_tag ≡ Some tag → p.transfer.delivery_id ≡ Some number → Found ds number tag
carried [] parts p number tag k a h n = none_among {P = Found [] number tag} p parts k a
carried (d ∷ ds) parts p number tag k a h n = by (λ i. carried ds k.1.0 p number tag k.1.1.2 i h n) (either p k.0 k.1.0 (subst (λ (ps : List Part). IsAmong p ps) k.1.1.0 a))
  where
    by : (IsAmong p k.1.0 → Found ds number tag) → IsAmong p k.0 ⊎ IsAmong p k.1.0 → Found (d ∷ ds) number tag
    by f (inl i) = found_first d ds p number tag h n (first_part (whole_of d).transfer d.message.payload k.0 p tag k.1.1.1 i h)
    by f (inr i) = found_more d ds number tag (f i)

kept_first : {X : Type 0} → (x y : X) (xs : List X) (c : Bool) → x ≡ y → c ≡ true → IsAmong x (cond c (y ∷ xs) xs)
kept_first x y xs true h f = inl h
kept_first x y xs false h f = absurd cc

kept_later : {X : Type 0} → (x y : X) (xs : List X) (c : Bool) → IsAmong x xs → IsAmong x (cond c (y ∷ xs) xs)
kept_later x y xs true i = inr i
kept_later x y xs false i = i

kept_among : {X : Type 0} → (test : X → Bool) (x : X) (xs : List X) → test x ≡ true → IsAmong x xs → IsAmong x (filter test xs)
kept_among test x [] e a = absurd a
kept_among test x (y ∷ ys) e (inl h) = kept_first x y (filter test ys) (test y) h (sym (ap test h) ∙ e)
kept_among test x (y ∷ ys) e (inr a) = kept_later x y (filter test ys) (test y) (kept_among test x ys e a)

eq_of : (a c : ℕ) → a ≡ c → nat_eq a c ≡ true
eq_of a c h = grind (arith, nat_tests)

pub out_found : (handle : ℕ) (ds : List Delivery) (all base parts later : List Part) (x : LeftDelivery) (number : ℕ) (tag : List ℕ) → on handle all ≡ base ++ parts → base ≡ [] → Carry (map whole_of ds) (parts ++ later) → IsOut all x
    → x.handle ≡ handle → x.delivery_id ≡ number → x.delivery_tag ≡ tag → Found ds number tag
out_found handle ds all base parts later x number tag o e c k h n t =
    let i : IsAmong k.part (on handle all) = kept_among (λ (p : Part). nat_eq p.transfer.handle handle) k.part all (eq_of k.part.transfer.handle handle (k.handle ∙ h)) k.among in
    let j : IsAmong k.part parts = subst (λ (ps : List Part). IsAmong k.part ps) (o ∙ ap (λ (ps : List Part). ps ++ parts) e) i in
    carried ds (parts ++ later) k.part number tag c (among_first k.part parts later j) (k.tag ∙ ap (λ (y : List ℕ). Some y) t) (k.number ∙ ap (λ (y : ℕ). Some y) n)
