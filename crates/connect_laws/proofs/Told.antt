-- An outcome that is told is that of the message.
use Rattle.std.specs.Prelude.{◌≡◌, ◌⊎◌, ℕ, nat_eq, Bool, false, List, [], ◌∷◌, ◌++◌, Some, None, refl}
use Rattle.std.proofs.Common.{inl, inr, sym, subst}
use Rattle.std.specs.Map.{lookup}
use Rattle.amqp_termini.specs.declared.outcome.Outcome.{Outcome}
use Rattle.amqp_link_calls.specs.Called.{Called}
use Rattle.amqp_link_words.specs.declared.link_call.Sendable.{Sendable}
use Rattle.amqp_link_words.specs.declared.link_reply.LinkReply.TheVariants as reply
use Rattle.amqp_link_words.specs.declared.link_reply.NamedLinkReply.{NamedLinkReply}
use Rattle.amqp_links.specs.Calling.{sending_at}
use Rattle.amqp_links.specs.State.{State, link_of, no_links}
use Rattle.amqp_session.specs.declared.session.LinkInput.{LinkInput}
use Rattle.amqp_session_links.specs.State.{State as Place}
use Rattle.link_lives.specs.Deeds.{Asks, Hears, Hands, Knows, Looks, Tells}
use Rattle.session_laws.proofs.Lists.{Each, each_both, each_at, among_first, among_last, either}
use Rattle.session_laws.specs.Settling.{IsAmong}
use Rattle.connect_laws.specs.Ruling.{Step, Does, Forgets, heard_of, heard_in, told_in, Rules, IsRuled, IsBetween, AreBetween, Asked, heard_by, answers_of, LinksTellOutcomes}
use Rattle.connect_laws.proofs.Known.{Known, Another}
use Rattle.connect_laws.proofs.Links.{AnswerTold}
use Rattle.connect_laws.proofs.Runs.{IsHeard, HasLeft, early_known, late_known, Allows, all_keep, all_tell, sent_at, asks_late}
use Rattle.connect_laws.proofs.Sent.{Nothing, Or, Sends, sends_or_not, settles, next_of}
use Rattle.connect_laws.proofs.Sides.{Where}

-- ---- what is done between is done by others

module _ (name asking n : ℕ) (heard : List (ℕ × LinkInput)) where
  others_early : (k : ℕ) → (IsAmong k (name ∷ asking ∷ []) → ⊥) → Another name asking n None Nothing (HasLeft heard) k
  others_early k h = (λ e. h (inl e), ((λ e. h (inr (inl e))), tt))

  others_late : (v : Where) (G : Outcome → Type 0) (k : ℕ) → (IsAmong k (name ∷ asking ∷ n ∷ []) → ⊥) → Another name asking n (Some v) G (HasLeft heard) k
  others_late v G k h = (λ e. h (inl e), ((λ e. h (inr (inl e))), (λ e. h (inr (inr (inl e))))))

  allowed : (Q : ℕ → Type 0) (names : List ℕ) → ((k : ℕ) → (IsAmong k names → ⊥) → Q k) → (xs : List Step) → AreBetween names xs
      → ((session : ℕ) (x : LinkInput) → IsAmong (session, x) (heard_in xs) → IsAmong (session, x) heard) → Each (Allows heard name asking n Q) xs
  allowed Q names q [] b h = tt
  allowed Q names q (x ∷ xs) b h =
      (one x b.0 (λ session y i. h session y (among_first (session, y) (heard_of x) (heard_in xs) i)), allowed Q names q xs b.1 (λ session y i. h session y (among_last (session, y) (heard_of x) (heard_in xs) i)))
    where
      one : (y : Step) → IsBetween names y → ((session : ℕ) (z : LinkInput) → IsAmong (session, z) (heard_of y) → IsAmong (session, z) heard) → Allows heard name asking n Q y
      one (Does (Asks k z max)) c i = (c.0, q k c.1)
      one (Does (Hears session z)) c i = i session z (inl refl)
      one (Does (Hands z)) c i = tt
      one (Does (Knows moment)) c i = tt
      one (Does Looks) c i = tt
      one (Does Tells) c i = tt
      one (Forgets k) c i = tt

-- ---- the start

first_known : (name asking n : ℕ) (heard : List (ℕ × LinkInput)) → Known name asking n None Nothing (HasLeft heard) (no_links false)
first_known name asking n heard = record {
  untimed = refl;
  alone = refl;
  places = λ session p e. absurd (none_place p e);
  links = λ m l e. absurd (none_link l e);
  sends = tt;
  replies = tt;
}
  where
    none_place : (p : Place) → None ≡ Some p → ⊥
    none_place p e = cc

    none_link : (l : Called) → None ≡ Some l → ⊥
    none_link l e = cc

-- ---- all of it

module _ (name asking link : ℕ) (message : Sendable) (outcome : Outcome) (k : Asked name asking link message) where
  abbrev heard : List (ℕ × LinkInput)
  heard = heard_by name asking link message k

  abbrev answer : NamedLinkReply
  answer = record { name = asking; reply = reply.Outcome outcome }

  in_first : (session : ℕ) (x : LinkInput) → IsAmong (session, x) (heard_in k.before) → IsAmong (session, x) heard
  in_first session x h = among_first (session, x) (heard_in k.before) _ h

  in_second : (session : ℕ) (x : LinkInput) → IsAmong (session, x) (heard_in k.between) → IsAmong (session, x) heard
  in_second session x h = among_last (session, x) (heard_in k.before) _ (among_first (session, x) (heard_in k.between) _ h)

  in_third : (session : ℕ) (x : LinkInput) → IsAmong (session, x) (heard_in k.waiting) → IsAmong (session, x) heard
  in_third session x h = among_last (session, x) (heard_in k.before) _ (among_last (session, x) (heard_in k.between) _ (among_first (session, x) (heard_in k.waiting) (heard_in k.later) h))

  in_last : (session : ℕ) (x : LinkInput) → IsAmong (session, x) (heard_in k.later) → IsAmong (session, x) heard
  in_last session x h = among_last (session, x) (heard_in k.before) _ (among_last (session, x) (heard_in k.between) _ (among_last (session, x) (heard_in k.waiting) (heard_in k.later) h))

  allowed_before : Each (Allows heard name asking link (Another name asking link None Nothing (HasLeft heard))) k.before
  allowed_before = allowed name asking link heard (Another name asking link None Nothing (HasLeft heard)) (name ∷ asking ∷ []) (others_early name asking link heard) k.before k.others_before in_first

  ready_known : Known name asking link None Nothing (HasLeft heard) k.ready
  ready_known = all_keep heard name asking link None Nothing (early_known heard name asking link) k.before (no_links false) k.ready k.begun allowed_before (first_known name asking link heard)

  before_told : Each (AnswerTold asking link None Nothing) (told_in (no_links false) k.before k.ready k.begun)
  before_told = all_tell heard name asking link None Nothing (early_known heard name asking link) k.before (no_links false) k.ready k.begun allowed_before (first_known name asking link heard)

  -- the message was not sent: it is not known by the name of its call
  unsent : Known name asking link None Nothing (HasLeft heard) k.sent → ⊥
  unsent j =
      let a = allowed name asking link heard (Another name asking link None Nothing (HasLeft heard)) (name ∷ asking ∷ link ∷ []) (λ i h. others_early name asking link heard i (fewer i h)) k.between k.others_between in_second in
      let j' = all_keep heard name asking link None Nothing (early_known heard name asking link) k.between k.sent k.known k.goes a j in
      sent_at heard name asking link None Nothing k.delivery k.known.sends j'.sends k.is_known
    where
      fewer : (i : ℕ) → (IsAmong i (name ∷ asking ∷ link ∷ []) → ⊥) → IsAmong i (name ∷ asking ∷ []) → ⊥
      fewer i h (inl e) = h (inl e)
      fewer i h (inr (inl e)) = h (inr (inl e))
      fewer i h (inr (inr e)) = e

  module _ (v : Where) (c : Bool) (sent : Known name asking link (Some v) (Or c (λ (x : Outcome). Rules heard v.tag x)) (HasLeft heard) k.sent) where
    abbrev H : Outcome → Type 0
    H x = Or c (λ (y : Outcome). Rules heard v.tag y) x

    late : (xs : List Step) → AreBetween (name ∷ asking ∷ link ∷ []) xs → ((session : ℕ) (x : LinkInput) → IsAmong (session, x) (heard_in xs) → IsAmong (session, x) heard)
        → Each (Allows heard name asking link (Another name asking link (Some v) (Or c (λ (x : Outcome). Rules heard v.tag x)) (HasLeft heard))) xs
    late xs b h =
        allowed name asking link heard (Another name asking link (Some v) (Or c (λ (x : Outcome). Rules heard v.tag x)) (HasLeft heard)) (name ∷ asking ∷ link ∷ []) (others_late name asking link heard v (Or c (λ (x : Outcome). Rules heard v.tag x))) xs b h

    known_then : Known name asking link (Some v) (Or c (λ (x : Outcome). Rules heard v.tag x)) (HasLeft heard) k.known
    known_then = all_keep heard name asking link (Some v) (Or c (λ (x : Outcome). Rules heard v.tag x)) (late_known heard name asking link v c) k.between k.sent k.known k.goes (late k.between k.others_between in_second) sent

    asked_then : Known name asking link (Some v) (Or c (λ (x : Outcome). Rules heard v.tag x)) (HasLeft heard) k.asked
    asked_then = all_keep heard name asking link (Some v) (Or c (λ (x : Outcome). Rules heard v.tag x)) (late_known heard name asking link v c) k.waiting k.known k.asked k.waits (late k.waiting k.others_waiting in_third) known_then

    awaited_then : Known name asking link (Some v) (Or c (λ (x : Outcome). Rules heard v.tag x)) (HasLeft heard) k.awaited
    awaited_then =
        subst (λ (s : State). Known name asking link (Some v) (Or c (λ (x : Outcome). Rules heard v.tag x)) (HasLeft heard) s) (sym k.asks)
        (asks_late heard name asking link v c (lookup (nat_eq name) k.asked.sends) k.asked refl asked_then)

    each_told : Each (AnswerTold asking link (Some v) (Or c (λ (x : Outcome). Rules heard v.tag x)))
        (told_in k.sent k.between k.known k.goes ++ (told_in k.known k.waiting k.asked k.waits ++ told_in k.awaited k.later k.last k.ends))
    each_told =
        let G : Outcome → Type 0 = Or c (λ (x : Outcome). Rules heard v.tag x) in
        let P : NamedLinkReply → Type 0 = AnswerTold asking link (Some v) G in
        let one = all_tell heard name asking link (Some v) G (late_known heard name asking link v c) k.between k.sent k.known k.goes (late k.between k.others_between in_second) sent in
        let two = all_tell heard name asking link (Some v) G (late_known heard name asking link v c) k.waiting k.known k.asked k.waits (late k.waiting k.others_waiting in_third) known_then in
        let three = all_tell heard name asking link (Some v) G (late_known heard name asking link v c) k.later k.awaited k.last k.ends (late k.later k.others_later in_last) awaited_then in
        each_both P (told_in k.sent k.between k.known k.goes) (told_in k.known k.waiting k.asked k.waits ++ told_in k.awaited k.later k.last k.ends) one
        (each_both P (told_in k.known k.waiting k.asked k.waits) (told_in k.awaited k.later k.last k.ends) two three)

    rules : IsAmong answer (told_in k.sent k.between k.known k.goes ++ (told_in k.known k.waiting k.asked k.waits ++ told_in k.awaited k.later k.last k.ends)) → Or c (λ (x : Outcome). Rules heard v.tag x) outcome
    rules h = each_at (AnswerTold asking link (Some v) (Or c (λ (x : Outcome). Rules heard v.tag x))) _ answer h each_told refl outcome refl

  was_sent : Sends name asking link (HasLeft heard) message (λ (tag : List ℕ) (x : Outcome). Rules heard tag x) k.ready k.sent → IsAmong answer (answers_of name asking link message k) → IsRuled heard (link_of link k.ready) message outcome
  was_sent s h = record {
    called = s.link;
    stands = s.at;
    sender = s.sender;
    sends = s.is;
    ruled = by (either answer (told_in (no_links false) k.before k.ready k.begun) _ h);
  }
    where
      by : IsAmong answer (told_in (no_links false) k.before k.ready k.begun)
          ⊎ IsAmong answer (told_in k.sent k.between k.known k.goes ++ (told_in k.known k.waiting k.asked k.waits ++ told_in k.awaited k.later k.last k.ends))
          → Or (settles message s.sender) (λ (x : Outcome). Rules heard (next_of s.sender).tag x) outcome
      by (inl i) = absurd (each_at (AnswerTold asking link None Nothing) (told_in (no_links false) k.before k.ready k.begun) answer i before_told refl outcome refl)
      by (inr i) = rules (next_of s.sender) (settles message s.sender) s.behind i

  found : IsAmong answer (answers_of name asking link message k) → IsRuled heard (link_of link k.ready) message outcome
  found h = by (sends_or_not name asking link (HasLeft heard) (λ (tag : List ℕ) (x : Outcome). Rules heard tag x) (IsHeard heard) (early_known heard name asking link) (λ w c. late_known heard name asking link w c) (link_of link k.ready) message k.ready refl ready_known)
    where
      by : Sends name asking link (HasLeft heard) message (λ (tag : List ℕ) (x : Outcome). Rules heard tag x) k.ready (sending_at (link_of link k.ready) name link message k.ready)
          ⊎ Known name asking link None Nothing (HasLeft heard) (sending_at (link_of link k.ready) name link message k.ready) → IsRuled heard (link_of link k.ready) message outcome
      by (inl s) = was_sent (subst (λ (t : State). Sends name asking link (HasLeft heard) message (λ (tag : List ℕ) (x : Outcome). Rules heard tag x) k.ready t) (sym k.sends) s) h
      by (inr j) = absurd (unsent (subst (λ (t : State). Known name asking link None Nothing (HasLeft heard) t) (sym k.sends) j))

pub links_tell_outcomes : LinksTellOutcomes
links_tell_outcomes name asking link message outcome k h = found name asking link message outcome k h
