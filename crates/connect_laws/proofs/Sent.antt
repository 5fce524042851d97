-- A call sends a message, or does not.
use Rattle.std.specs.Prelude.{◌≡◌, ◌⊎◌, ◌<◌, ℕ, nat_eq, Bool, true, false, List, [], ◌∷◌, ◌++◌, length, slice_get, Option, Some, None, Ok, if◌then◌else◌, refl}
use Rattle.std.proofs.Common.{inl, inr, sym, ◌∙◌, ap, subst, arith}
use Rattle.std.proofs.lemmas.Bool.{eq-eqb}
use Rattle.std.specs.Str.{bytes_eq}
use Rattle.std.proofs.lemmas.Slice.Eq.{bytes_eq-Decides}
use Rattle.indexmap.specs.IndexMap.{insert_entry}
use Rattle.amqp_termini.specs.declared.outcome.Outcome.{Outcome}
use Rattle.amqp_termini.specs.declared.outcome.Outcome.TheVariants.{Accepted}
use Rattle.amqp_link_calls.specs.Called.{Called, with_side}
use Rattle.amqp_link_calls.specs.Calling.{sending_of, sends, token_of}
use Rattle.amqp_link_calls.specs.Replies.{sent_reply, sent_token}
use Rattle.amqp_link_calls.specs.Side.{Side, Sender, Receiver}
use Rattle.amqp_link_words.specs.declared.link_call.Sendable.{Sendable}
use Rattle.amqp_link_words.specs.declared.link_reply.LinkReply.{LinkReply}
use Rattle.amqp_link_words.specs.declared.link_reply.LinkReply.TheVariants as reply
use Rattle.amqp_link_words.specs.declared.link_reply.NamedLinkReply.{NamedLinkReply}
use Rattle.amqp_sender.specs.declared.sender.DeliveryToken.{DeliveryToken}
use Rattle.amqp_sender.specs.declared.sender.SendReply.TheVariants.{Sent}
use Rattle.amqp_sender.specs.declared.sender.Settlement.TheVariants.{Settled}
use Rattle.amqp_sender.specs.Sender.{State as SenderState}
use Rattle.amqp_sender.specs.Sending.{Made, sent, first_settlement, tag_of, is_settled}
use Rattle.amqp_session.specs.declared.session.LinkInput.{LinkInput}
use Rattle.amqp_links.specs.declared.links.SentDelivery.{SentDelivery}
use Rattle.amqp_links.specs.Calling.{sending_at}
use Rattle.amqp_links.specs.State.{State, link_of, with_link, answering}
use Rattle.amqp_links.specs.Taking.{taken_up}
use Rattle.amqp_links.specs.Timing.{send_kept}
use Rattle.session_laws.proofs.Lists.{Each, each_so, each_inserted}
use Rattle.session_laws.proofs.Sends.{sending_cases}
use Rattle.connect_laws.proofs.Known.{Known, IsSent, Another, answered_known, kept_known, linked_known, set_each}
use Rattle.connect_laws.proofs.Links.{AnswerTold, LinkSide, Waits, IsLink, plain_told}
use Rattle.connect_laws.proofs.Sides.{Where, Knows, length_push}
use Rattle.connect_laws.proofs.Steps.{Closed, IsPlain}
use Rattle.connect_laws.proofs.Walks.{taken_keeps}

-- no outcome
abbrev pub Nothing : Outcome → Type 0
Nothing x = ⊥

-- where a sender puts the message that it sends next
abbrev pub next_of : SenderState → Where
next_of t = record { place = length t.settlements; tag = tag_of t.delivery_count }

-- a message that was sent settled was accepted, or it is so
abbrev pub Or : Bool → (Outcome → Type 0) → Outcome → Type 0
Or settled G x = ((settled ≡ true) × (x ≡ Accepted (record {}))) ⊎ G x

-- whether that sender sends the message settled
abbrev pub settles : Sendable → SenderState → Bool
settles x t = is_settled t.link.own.snd_settle_mode x.settled

last_at : {X : Type 0} → (xs : List X) (y z : X) → slice_get (xs ++ y ∷ []) (length xs) ≡ Some z → y ≡ z
last_at [] y z h = cc
last_at (x ∷ xs) y z h = last_at xs y z h

first_is : (c : Bool) (G : Outcome → Type 0) (x : Outcome) → first_settlement c ≡ Settled x → Or c G x
first_is true G x h = (let e : x ≡ Accepted (record {}) = cc in inl (refl, e))
first_is false G x h = absurd cc

first_tagged : (c : Bool) (t : SenderState) → Each (λ (e : List ℕ × ℕ). e.1 < length t.settlements) t.unsettled
    → Each (λ (e : List ℕ × ℕ). e.1 ≡ length t.settlements → e.0 ≡ tag_of t.delivery_count) (if c then t.unsettled else insert_entry bytes_eq t.unsettled (tag_of t.delivery_count) (length t.settlements))
first_tagged c t k = by c
  where
    apart : (i : ℕ) → i < length t.settlements → i ≡ length t.settlements → ⊥
    apart i h f = omega (arith, h, f)

    old : Each (λ (e : List ℕ × ℕ). e.1 ≡ length t.settlements → e.0 ≡ tag_of t.delivery_count) t.unsettled
    old = each_so (λ (e : List ℕ × ℕ). e.1 < length t.settlements) (λ (e : List ℕ × ℕ). e.1 ≡ length t.settlements → e.0 ≡ tag_of t.delivery_count) t.unsettled (λ e h f. absurd (apart e.1 h f)) k

    by : (d : Bool) → Each (λ (e : List ℕ × ℕ). e.1 ≡ length t.settlements → e.0 ≡ tag_of t.delivery_count) (if d then t.unsettled else insert_entry bytes_eq t.unsettled (tag_of t.delivery_count) (length t.settlements))
    by true = old
    by false =
        each_inserted (λ (e : List ℕ × ℕ). e.1 ≡ length t.settlements → e.0 ≡ tag_of t.delivery_count) bytes_eq t.unsettled (tag_of t.delivery_count) (length t.settlements)
        (λ f. refl) (λ x h f. sym ((bytes_eq-Decides (tag_of t.delivery_count) x).0 h)) old

-- what is known of the message as it is sent
first_known : (payload : List ℕ) (c batchable : Bool) (G : Outcome → Type 0) (t : SenderState) → Knows None Nothing None t → Knows (Some (next_of t)) (Or c G) (Some (next_of t)) (sent payload 0 c batchable t)
first_known payload c batchable G t k = record {
  known = λ x h. first_is c G x (last_at t.settlements (first_settlement c) (Settled x) h);
  tags = first_tagged c t k;
  taken = omega (arith, length_push t.settlements (first_settlement c));
}

module _ (name asking n : ℕ) (Left : ℕ → ℕ → List ℕ → Type 0) where
  -- nothing is known of it yet
  abbrev pub Before : State → Type 0
  Before s = Known name asking n None Nothing Left s

  module _ (w : Where) (G : Outcome → Type 0) where
    -- it is known where it is
    abbrev pub Behind : State → Type 0
    Behind s = Known name asking n (Some w) G Left s

    answers_on : (rs : List NamedLinkReply) → Each (AnswerTold asking n None Nothing) rs → Each (AnswerTold asking n (Some w) G) rs
    answers_on rs k = each_so (AnswerTold asking n None Nothing) (AnswerTold asking n (Some w) G) rs (λ r h e y f. absurd (h e y f)) k

    waits_on : (m : ℕ) (es : List (ℕ × ℕ)) → Each (Waits asking n None Nothing m) es → Each (Waits asking n (Some w) G m) es
    waits_on m es k = each_so (Waits asking n None Nothing m) (Waits asking n (Some w) G m) es (λ f h e. absurd (h e)) k

    -- another link
    side_on : (m : ℕ) (a : Side) → nat_eq n m ≡ false → LinkSide asking n None Nothing m a → LinkSide asking n (Some w) G m a
    side_on m (Sender t) e k = λ f. absurd (differ f)
      where
        differ : m ≡ n → ⊥
        differ f = (let g : nat_eq n m ≡ true = eq-eqb n m (sym f) in let h : true ≡ false = sym g ∙ e in absurd cc)
    side_on m (Receiver t) e k = k

    link_on : (m : ℕ) (l : Called) → nat_eq n m ≡ false → IsLink asking n None Nothing m l → IsLink asking n (Some w) G m l
    link_on m l e k = record { side = side_on m l.side e k.side; parting = k.parting; answers = answers_on l.answers k.answers; waiting = waits_on m l.waiting k.waiting }

    sends_on : (es : List (ℕ × SentDelivery)) → Each (IsSent name asking n None Nothing Left) es → Each (IsSent name asking n (Some w) G Left) es
    sends_on es k = each_so (IsSent name asking n None Nothing Left) (IsSent name asking n (Some w) G Left) es (λ f h e. absurd (h e)) k

    -- the link behind it
    sent_on : (l : Called) (t' : SenderState) (s : State) → link_of n s ≡ Some l → Knows (Some w) G (Some w) t' → Before s → Behind (with_link n (with_side (Sender t') l) s)
    sent_on l t' s at h k =
        let i = k.links n l at in
        record {
          untimed = k.untimed;
          alone = k.alone;
          places = λ session p e. (let q = k.places session p e in record { accepting = q.accepting; incoming = q.incoming; outgoing = q.outgoing });
          links = set_each (IsLink asking n (Some w) G) n s.endpoints l (with_side (Sender t') l) at
              (record { side = λ e. h; parting = i.parting; answers = answers_on l.answers i.answers; waiting = waits_on n l.waiting i.waiting })
              (λ m x e f. link_on m x e (k.links m x f));
          sends = sends_on s.sends k.sends;
          replies = answers_on s.replies k.replies;
        }

  -- what a call that sends comes to
  pub record Sends (x : Sendable) (G : List ℕ → Outcome → Type 0) (s s' : State) : Type 0 where
    pub link : Called
    pub at : link_of n s ≡ Some link
    pub sender : SenderState
    pub is : link.side ≡ Sender sender
    pub behind : Behind (next_of sender) (Or (settles x sender) (G (tag_of sender.delivery_count))) s'

  module _ (G : List ℕ → Outcome → Type 0) (Heard : ℕ → LinkInput → Type 0) (before : Closed (Another name asking n None Nothing Left) Heard Before)
      (behind : (w : Where) (c : Bool) → Closed (Another name asking n (Some w) (Or c (G w.tag)) Left) Heard (Behind w (Or c (G w.tag)))) where
    abbrev Result : Sendable → State → State → Type 0
    Result x s s' = Sends x G s s' ⊎ Before s'

    -- the state behind a call, by what it comes to at the sender
    abbrev behind_of : Called → State → Made → State
    behind_of l s m = taken_up n (answering name (sent_reply m.answer) (send_kept name n (sent_token m.answer) (with_link n (with_side (Sender m.state) l) s)))

    unsent : (l : Called) (t : SenderState) (y : LinkReply) (s : State) → link_of n s ≡ Some l → l.side ≡ Sender t → IsPlain y → Before s → Before (taken_up n (answering name y (with_link n (with_side (Sender t) l) s)))
    unsent l t y s at is p k =
        let i = k.links n l at in
        let j : IsLink asking n None Nothing n (with_side (Sender t) l) = record { side = subst (λ (a : Side). LinkSide asking n None Nothing n a) is i.side; parting = i.parting; answers = i.answers; waiting = i.waiting } in
        let u = with_link n (with_side (Sender t) l) s in
        taken_keeps (Another name asking n None Nothing Left) Heard Before before n (answering name y u)
        (answered_known name asking n None Nothing Left name y u (plain_told asking n None Nothing name y p) (linked_known name asking n None Nothing Left n l (with_side (Sender t) l) s at j k))

    was_sent : (x : Sendable) (l : Called) (t : SenderState) (s : State) → link_of n s ≡ Some l → l.side ≡ Sender t → Before s
        → Sends x G s (behind_of l s (record { state = sent x.payload 0 (settles x t) x.batchable t; answer = Ok (Sent (record { place = length t.settlements })) }))
    was_sent x l t s at is k =
        let c = settles x t in
        let w = next_of t in
        let H = Or c (G w.tag) in
        let t' = sent x.payload 0 c x.batchable t in
        let token : DeliveryToken = record { place = length t.settlements } in
        let i = k.links n l at in
        let j : LinkSide asking n None Nothing n (Sender t) = subst (λ (a : Side). LinkSide asking n None Nothing n a) is i.side in
        let a = with_link n (with_side (Sender t') l) s in
        let b = send_kept name n (Some token) a in
        let ka = sent_on w H l t' s at (first_known x.payload c x.batchable (G w.tag) t (j refl)) k in
        let kb = kept_known name asking n (Some w) H Left name n (Some token) a (λ y e f. (refl, (let g : token ≡ y = cc in ap (λ (z : DeliveryToken). z.place) (sym g)))) ka in
        record {
          link = l;
          at = at;
          sender = t;
          is = is;
          behind = taken_keeps (Another name asking n (Some w) H Left) Heard (Behind w H) (behind w c) n (answering name reply.Sent b)
              (answered_known name asking n (Some w) H Left name reply.Sent b (plain_told asking n (Some w) H name reply.Sent tt) kb);
        }

    sender_sends : (x : Sendable) (l : Called) (t : SenderState) (s : State) → link_of n s ≡ Some l → l.side ≡ Sender t → Before s → Result x s (behind_of l s (sending_of x t))
    sender_sends x l t s at is k =
        sending_cases (λ (m : Made). Result x s (behind_of l s m)) x.payload 0 x.settled x.batchable t
        (λ e. inr (unsent l t (reply.SendError e) s at is tt k)) (inr (unsent l t reply.Pending s at is tt k)) (λ c h. inl (was_sent x l t s at is k))

    side_sends : (x : Sendable) (l : Called) (a : Side) (s : State) → link_of n s ≡ Some l → l.side ≡ a → Before s
        → Result x s (taken_up n (answering name (sends x a).reply (send_kept name n (token_of x a) (with_link n (with_side (sends x a).side l) s))))
    side_sends x l (Sender t) s at is k = sender_sends x l t s at is k
    side_sends x l (Receiver t) s at is k =
        let i = k.links n l at in
        let j : LinkSide asking n None Nothing n (Receiver t) = subst (λ (a : Side). LinkSide asking n None Nothing n a) is i.side in absurd j

    -- a call that sends does so, or nothing is known of its message
    pub sends_or_not : (o : Option Called) (x : Sendable) (s : State) → link_of n s ≡ o → Before s → Result x s (sending_at o name n x s)
    sends_or_not None x s at k = inr k
    sends_or_not (Some l) x s at k = side_sends x l l.side s at refl k
