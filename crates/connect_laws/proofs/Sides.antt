-- What a sender knows of the message at a place.
use Rattle.std.specs.Prelude.{◌≡◌, ◌⊎◌, ◌<◌, ◌+◌, ℕ, zero, suc, Bool, true, false, is_some, cond, List, [], ◌∷◌, ◌++◌, length, slice_get, slice_set, Option, Some, None, if◌then◌else◌, refl}
use Rattle.std.proofs.Common.{inl, inr, sym, ◌∙◌, ap, subst, arith}
use Rattle.std.specs.Map.{lookup}
use Rattle.std.specs.Str.{bytes_eq}
use Rattle.std.proofs.lemmas.Slice.Eq.{bytes_eq-Decides}
use Rattle.indexmap.specs.IndexMap.{insert_entry}
use Rattle.amqp_termini.specs.declared.outcome.Outcome.{Outcome}
use Rattle.amqp_termini.specs.declared.state.DeliveryState.{DeliveryState}
use Rattle.amqp_performatives.specs.declared.flow.Flow.{Flow}
use Rattle.amqp_frames.specs.declared.shared.CoveredDelivery.{CoveredDelivery}
use Rattle.amqp_link.specs.declared.endpoint.LinkPhase.{LinkPhase}
use Rattle.amqp_link.specs.declared.endpoint.LinkPhase.TheVariants as phase
use Rattle.amqp_link.specs.declared.error.LinkStateError.{LinkStateError}
use Rattle.amqp_link_calls.specs.Answering.{outcome_at}
use Rattle.amqp_link_calls.specs.Calling.{sends}
use Rattle.amqp_link_calls.specs.Replies.{outcome_reply}
use Rattle.amqp_link_calls.specs.Side as side
use Rattle.amqp_link_calls.specs.Side.{Side, Sender, Receiver}
use Rattle.amqp_link.specs.Link as link
use Rattle.amqp_link.specs.Link.{Link}
use Rattle.amqp_link_words.specs.declared.link_call.Sendable.{Sendable}
use Rattle.amqp_link_words.specs.declared.link_reply.LinkReply.TheVariants as reply
use Rattle.amqp_sender.specs.declared.sender.Settlement.{Settlement}
use Rattle.amqp_sender.specs.declared.sender.Settlement.TheVariants.{Unsettled, Settled, NonTerminal, Illegal}
use Rattle.amqp_sender.specs.Sender.{State}
use Rattle.amqp_sender.specs.Sending.{Made, sent, first_settlement, tag_of, is_settled, flow_in, drained, credit_by}
use Rattle.amqp_sender.specs.Settling.{settlement_of, place_of, settled, settled_at, answer_for, unsettled_answer, outcome_read, echoed, disposition_read}
use Rattle.session_laws.proofs.Lists.{Each, each_so, each_removed, each_inserted}
use Rattle.session_laws.proofs.Sends.{sending_cases, settles_first}

-- the place of a message among those that its link has sent, and the tag of its delivery
pub record Where : Type 0 where
  pub place : ℕ
  pub tag : List ℕ

-- ---- lists

pub get_push : {X : Type 0} → (xs : List X) (y : X) (i : ℕ) → i < length xs → slice_get (xs ++ y ∷ []) i ≡ slice_get xs i
get_push [] y i h = absurd (omega (arith, h))
get_push (x ∷ xs) y zero h = refl
get_push (x ∷ xs) y (suc i) h = get_push xs y i (omega (arith, h))

pub length_push : {X : Type 0} → (xs : List X) (y : X) → length (xs ++ y ∷ []) ≡ length xs + 1
length_push [] y = refl
length_push (x ∷ xs) y = omega (arith, length_push xs y)

length_set : {X : Type 0} → (xs : List X) (i : ℕ) (y : X) → length (slice_set xs i y) ≡ length xs
length_set [] zero y = refl
length_set [] (suc i) y = refl
length_set (x ∷ xs) zero y = refl
length_set (x ∷ xs) (suc i) y = ap suc (length_set xs i y)

get_set : {X : Type 0} → (xs : List X) (i j : ℕ) (y z : X) → slice_get (slice_set xs i y) j ≡ Some z → ((i ≡ j) × (y ≡ z)) ⊎ (slice_get xs j ≡ Some z)
get_set [] zero j y z h = inr h
get_set [] (suc i) j y z h = inr h
get_set (x ∷ xs) zero zero y z h = (let e : y ≡ z = cc in inl (refl, e))
get_set (x ∷ xs) zero (suc j) y z h = inr h
get_set (x ∷ xs) (suc i) zero y z h = inr h
get_set (x ∷ xs) (suc i) (suc j) y z h = by (get_set xs i j y z h)
  where
    by : ((i ≡ j) × (y ≡ z)) ⊎ (slice_get xs j ≡ Some z) → ((suc i ≡ suc j) × (y ≡ z)) ⊎ (slice_get (x ∷ xs) (suc j) ≡ Some z)
    by (inl k) = inl (ap suc k.0, k.1)
    by (inr k) = inr k

looked_up : (P : List ℕ × ℕ → Type 0) (tag : List ℕ) (es : List (List ℕ × ℕ)) (place : ℕ) → Each P es → lookup (bytes_eq tag) es ≡ Some place → P (tag, place)
looked_up P tag [] place k h = absurd cc
looked_up P tag (e ∷ es) place k h = by (bytes_eq tag e.0) refl h (looked_up P tag es place k.1)
  where
    by : (c : Bool) → bytes_eq tag e.0 ≡ c → cond c (Some e.1) (lookup (bytes_eq tag) es) ≡ Some place → (lookup (bytes_eq tag) es ≡ Some place → P (tag, place)) → P (tag, place)
    by true f g r =
        let n : e.1 ≡ place = cc in
        let t : tag ≡ e.0 = (bytes_eq-Decides tag e.0).0 f in
        subst (λ (z : List ℕ). P (z, place)) (sym t) (subst (λ (z : ℕ). P (e.0, z)) n k.0)
    by false f g r = r g

module _ (at : Option Where) (G : Outcome → Type 0) where
  -- an outcome of the message at that place is so; what is not settled at that place has its tag; and the place is one of those that are taken
  pub record IsKnown (w : Where) (t : State) : Type 0 where
    pub known : (x : Outcome) → slice_get t.settlements w.place ≡ Some (Settled x) → G x
    pub tags : Each (λ (e : List ℕ × ℕ). e.1 ≡ w.place → e.0 ≡ w.tag) t.unsettled
    pub taken : w.place < length t.settlements

  -- before the message is sent: places are those of messages that were sent
  abbrev pub Knows : Option Where → State → Type 0
  Knows None t = Each (λ (e : List ℕ × ℕ). e.1 < length t.settlements) t.unsettled
  Knows (Some w) t = IsKnown w t

  abbrev pub SideKnows : Side → Type 0
  SideKnows (Sender t) = Knows at t
  SideKnows (Receiver t) = ⊥

  same_knows : (o : Option Where) (s t : State) → t.settlements ≡ s.settlements → t.unsettled ≡ s.unsettled → Knows o s → Knows o t
  same_knows None s t a b k =
      subst (λ (xs : List (List ℕ × ℕ)). Each (λ (e : List ℕ × ℕ). e.1 < length t.settlements) xs) (sym b)
      (subst (λ (xs : List Settlement). Each (λ (e : List ℕ × ℕ). e.1 < length xs) s.unsettled) (sym a) k)
  same_knows (Some w) s t a b k = record {
    known = λ x h. k.known x (ap (λ (xs : List Settlement). slice_get xs w.place) (sym a) ∙ h);
    tags = subst (λ (xs : List (List ℕ × ℕ)). Each (λ (e : List ℕ × ℕ). e.1 ≡ w.place → e.0 ≡ w.tag) xs) (sym b) k.tags;
    taken = subst (λ (xs : List Settlement). w.place < length xs) (sym a) k.taken;
  }

  pub linked_knows : (l : Link) (a : Side) → SideKnows a → SideKnows (side.with_link l a)
  linked_knows l (Sender s) k = same_knows at s (record s { link = l }) refl refl k
  linked_knows l (Receiver s) k = absurd k

  drains : (c : Bool) (s t : State) → t.settlements ≡ s.settlements → t.unsettled ≡ s.unsettled → Knows at s → Knows at (if c then drained t else t)
  drains true s t a b k = same_knows at s (drained t) a b k
  drains false s t a b k = same_knows at s t a b k

  flows : (p : LinkPhase) (x : Flow) (s : State) → Knows at s → Knows at (flow_in p x s)
  flows phase.Attached x s k = drains x.drain s (record s { credit = credit_by x s }) refl refl k
  flows p x s k = same_knows at s _ refl refl k

  pub flow_knows : (x : Flow) (a : Side) → SideKnows a → SideKnows (side.flow_read x a)
  flow_knows x (Sender s) k = flows s.link.phase x s k
  flow_knows x (Receiver s) k = absurd k

  -- ---- a message is sent

  first_tags : (w : Where) (c : Bool) (tag : List ℕ) (s : State) → w.place < length s.settlements → Each (λ (e : List ℕ × ℕ). e.1 ≡ w.place → e.0 ≡ w.tag) s.unsettled
      → Each (λ (e : List ℕ × ℕ). e.1 ≡ w.place → e.0 ≡ w.tag) (if c then s.unsettled else insert_entry bytes_eq s.unsettled tag (length s.settlements))
  first_tags w true tag s h k = k
  first_tags w false tag s h k =
      each_inserted (λ (e : List ℕ × ℕ). e.1 ≡ w.place → e.0 ≡ w.tag) bytes_eq s.unsettled tag (length s.settlements)
      (λ e. absurd (apart e)) (λ x f e. absurd (apart e)) k
    where
      apart : length s.settlements ≡ w.place → ⊥
      apart e = omega (arith, h, e)

  first_below : (c : Bool) (tag : List ℕ) (y : Settlement) (s : State) → Each (λ (e : List ℕ × ℕ). e.1 < length s.settlements) s.unsettled
      → Each (λ (e : List ℕ × ℕ). e.1 < length (s.settlements ++ y ∷ [])) (if c then s.unsettled else insert_entry bytes_eq s.unsettled tag (length s.settlements))
  first_below c tag y s k = by c
    where
      more : Each (λ (e : List ℕ × ℕ). e.1 < length (s.settlements ++ y ∷ [])) s.unsettled
      more = each_so (λ (e : List ℕ × ℕ). e.1 < length s.settlements) (λ (e : List ℕ × ℕ). e.1 < length (s.settlements ++ y ∷ [])) s.unsettled (λ e h. omega (arith, h, length_push s.settlements y)) k

      by : (d : Bool) → Each (λ (e : List ℕ × ℕ). e.1 < length (s.settlements ++ y ∷ [])) (if d then s.unsettled else insert_entry bytes_eq s.unsettled tag (length s.settlements))
      by true = more
      by false =
          let n : length s.settlements < length (s.settlements ++ y ∷ []) = omega (arith, length_push s.settlements y) in
          each_inserted (λ (e : List ℕ × ℕ). e.1 < length (s.settlements ++ y ∷ [])) bytes_eq s.unsettled tag (length s.settlements) n (λ x f. n) more

  behind_knows : (o : Option Where) (payload : List ℕ) (c batchable : Bool) (s : State) → Knows o s → Knows o (sent payload 0 c batchable s)
  behind_knows None payload c batchable s k = first_below c (tag_of s.delivery_count) (first_settlement c) s k
  behind_knows (Some w) payload c batchable s k = record {
    known = λ x h. k.known x (sym (get_push s.settlements (first_settlement c) w.place k.taken) ∙ h);
    tags = first_tags w c (tag_of s.delivery_count) s k.taken k.tags;
    taken = omega (arith, k.taken, length_push s.settlements (first_settlement c));
  }

  pub sending_knows : (x : Sendable) (a : Side) → SideKnows a → SideKnows (sends x a).side
  sending_knows x (Sender s) k =
      sending_cases (λ (m : Made). Knows at m.state) x.payload 0 x.settled x.batchable s (λ e. k) k
      (λ c h. behind_knows at x.payload (is_settled s.link.own.snd_settle_mode x.settled) x.batchable s k)
  sending_knows x (Receiver s) k = absurd k

  -- ---- what has become of a delivery is heard

  -- what a Disposition says of the delivery with that tag is so
  abbrev pub Says : List ℕ → Option DeliveryState → Type 0
  Says tag d = (w : Where) → at ≡ Some w → tag ≡ w.tag → (x : Outcome) → settlement_of d ≡ Settled x → G x

  settled_knows_at : (o : Option Where) (place : Option ℕ) (tag : List ℕ) (d : Option DeliveryState) (s : State) → place_of tag s ≡ place → (o ≡ at) → Says tag d → Knows o s → Knows o (settled_at place tag (settlement_of d) s)
  settled_knows_at o None tag d s e same h k = k
  settled_knows_at None (Some place) tag d s e same h k =
      each_removed (λ (e : List ℕ × ℕ). e.1 < length (slice_set s.settlements place (settlement_of d))) (bytes_eq tag) s.unsettled
      (each_so (λ (e : List ℕ × ℕ). e.1 < length s.settlements) (λ (e : List ℕ × ℕ). e.1 < length (slice_set s.settlements place (settlement_of d))) s.unsettled (λ e f. omega (arith, f, length_set s.settlements place (settlement_of d))) k)
  settled_knows_at (Some w) (Some place) tag d s e same h k = record {
    known = λ x f. by x (get_set s.settlements place w.place (settlement_of d) (Settled x) f);
    tags = each_removed (λ (e : List ℕ × ℕ). e.1 ≡ w.place → e.0 ≡ w.tag) (bytes_eq tag) s.unsettled k.tags;
    taken = omega (arith, k.taken, length_set s.settlements place (settlement_of d));
  }
    where
      by : (x : Outcome) → ((place ≡ w.place) × (settlement_of d ≡ Settled x)) ⊎ (slice_get s.settlements w.place ≡ Some (Settled x)) → G x
      by x (inl f) = h w (sym same) (looked_up (λ (e : List ℕ × ℕ). e.1 ≡ w.place → e.0 ≡ w.tag) tag s.unsettled place k.tags e f.0) x f.1
      by x (inr f) = k.known x f

  echoes : (c : Bool) (number : ℕ) (d : Option DeliveryState) (s : State) → Knows at s → Knows at (echoed c number d s)
  echoes true number d s k = k
  echoes false number d s k = same_knows at s _ refl refl k

  outcomes : (c : Bool) (covered : CoveredDelivery) (d : Option DeliveryState) (s : State) → Says covered.delivery_tag d → Knows at s → Knows at (outcome_read c covered d s)
  outcomes false covered d s h k = k
  outcomes true covered d s h k =
      echoes (is_some s.link.stop_reason) covered.delivery_id d (settled covered.delivery_tag (settlement_of d) s) (settled_knows_at at (place_of covered.delivery_tag s) covered.delivery_tag d s refl refl h k)

  pub disposition_knows : (covered : CoveredDelivery) (c : Bool) (d : Option DeliveryState) (s : State) → Says covered.delivery_tag d → Knows at s → Knows at (disposition_read covered c d s)
  disposition_knows covered true d s h k = settled_knows_at at (place_of covered.delivery_tag s) covered.delivery_tag d s refl refl h k
  disposition_knows covered false d s h k = outcomes (settles_first covered d s) covered d s h k

  -- ---- what is told of it

  told_of : (o : Option Settlement) (s : State) (x : Outcome) → outcome_reply (answer_for o s) ≡ reply.Outcome x → o ≡ Some (Settled x)
  told_of None s x e = absurd cc
  told_of (Some (Settled y)) s x e = cc
  told_of (Some NonTerminal) s x e = absurd cc
  told_of (Some Illegal) s x e = absurd cc
  told_of (Some Unsettled) s x e = by (link.settlement_refusal s.link) e
    where
      by : (r : Option LinkStateError) → outcome_reply (unsettled_answer r) ≡ reply.Outcome x → Some Unsettled ≡ Some (Settled x)
      by None f = absurd cc
      by (Some r) f = absurd cc

  pub outcome_known : (w : Where) (a : Side) (x : Outcome) → at ≡ Some w → SideKnows a → outcome_at w.place a ≡ reply.Outcome x → G x
  outcome_known w (Sender s) x e k h =
      let j : IsKnown w s = subst (λ (o : Option Where). Knows o s) e k in j.known x (told_of (slice_get s.settlements w.place) s x h)
  outcome_known w (Receiver s) x e k h = absurd k
