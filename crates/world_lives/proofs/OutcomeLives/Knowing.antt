-- What a sender knows of its messages, from what it has heard (as in `outcomes_were_given` of session_laws).
use Rattle.std.specs.Prelude.{◌≡◌, ◌⊎◌, ℕ, List, [], ◌∷◌, ◌++◌, map, Some, refl}
use Rattle.std.proofs.Common.{sym, ◌∙◌, ap, subst, inl, inr}
use Rattle.amqp_termini.specs.declared.state.DeliveryState.{DeliveryState}
use Rattle.amqp_sender.specs.declared.sender.Settlement.{Settlement}
use Rattle.amqp_sender.specs.declared.sender.Settlement.TheVariants.{Unsettled, Settled, NonTerminal, Illegal}
use Rattle.amqp_sender.specs.Settling.{settlement_of}
use Rattle.session_laws.specs.Messages.{Message, Delivery}
use Rattle.session_laws.specs.Sending as sending
use Rattle.session_laws.specs.Sending.{hears_disposition}
use Rattle.session_laws.specs.Settling.{heard, IsAmong, IsSettled, AreSettled}
use Rattle.session_laws.specs.Giving.{Ruling}
use Rattle.session_laws.specs.Numbering.{News, news_in, news, told}
use Rattle.session_laws.specs.Laws.{message_of}
use Rattle.session_laws.specs.Outcomes.{IsFree, AreApart, IsOutcome, AreOutcomes}
use Rattle.session_laws.proofs.Lists.{among_first, among_last, among_map}

-- what was heard of a tag was given for the number of its delivery
pub record Learnt (ds : List Delivery) (gave : List Ruling) (tag : List ℕ) (x : Settlement) : Type 0 where
  pub delivery : Delivery
  pub among : IsAmong delivery ds
  pub is_tag : delivery.message.tag ≡ tag
  pub state : DeliveryState
  pub is : x ≡ settlement_of (Some state)
  pub was_given : IsAmong (record { number = delivery.number; state = state }) gave

pub record Heard (ms : List sending.Move) (tag : List ℕ) (x : Settlement) : Type 0 where
  pub word : News
  pub among : IsAmong word (news ms)
  pub is_tag : word.delivery.delivery_tag ≡ tag
  pub is : x ≡ settlement_of word.state

heard_later : (m : sending.Move) (ms : List sending.Move) (tag : List ℕ) (x : Settlement) → Heard ms tag x → Heard (m ∷ ms) tag x
heard_later m ms tag x h = record { word = h.word; among = among_last h.word (news_in m) (news ms) h.among; is_tag = h.is_tag; is = h.is }

pub news_heard : (ms : List sending.Move) (tag : List ℕ) (x : Settlement) → IsAmong (tag, x) (heard ms) → Heard ms tag x
news_heard [] tag x a = absurd a
news_heard (hears_disposition d settled s ∷ ms) tag x (inl e) = record {
  word = record { delivery = d; settled = settled; state = s };
  among = inl refl;
  is_tag = sym (ap (λ (y : List ℕ × Settlement). y.0) e);
  is = ap (λ (y : List ℕ × Settlement). y.1) e;
}
news_heard (hears_disposition d settled s ∷ ms) tag x (inr a) = heard_later (hears_disposition d settled s) ms tag x (news_heard ms tag x a)
news_heard (m ∷ ms) tag x a = heard_later m ms tag x (news_heard ms tag x a)

-- no two have one tag
free_at : (tag : List ℕ) (ms : List Message) (m : Message) → IsFree tag ms → IsAmong m ms → tag ≡ m.tag → ⊥
free_at tag [] m f a e = absurd a
free_at tag (n ∷ ms) m f (inl h) e = f.0 (e ∙ ap (λ (y : Message). y.tag) h)
free_at tag (n ∷ ms) m f (inr a) e = free_at tag ms m f.1 a e

in_all : (d : Delivery) (ds : List Delivery) (others : List Message) → IsAmong d ds → IsAmong (message_of d) (map message_of ds ++ others)
in_all d ds others a = among_first (message_of d) (map message_of ds) others (among_map message_of ds d a)

one_tag : (ds : List Delivery) (others : List Message) → AreApart (map message_of ds ++ others) → (d e : Delivery) → IsAmong d ds → IsAmong e ds → d.message.tag ≡ e.message.tag → d ≡ e
one_tag [] others k d e a c h = absurd a
one_tag (z ∷ zs) others k d e (inl p) (inl q) h = p ∙ sym q
one_tag (z ∷ zs) others k d e (inl p) (inr c) h = absurd (free_at z.message.tag (map message_of zs ++ others) (message_of e) k.0 (in_all e zs others c) (sym (ap (λ (y : Delivery). y.message.tag) p) ∙ h))
one_tag (z ∷ zs) others k d e (inr a) (inl q) h = absurd (free_at z.message.tag (map message_of zs ++ others) (message_of d) k.0 (in_all d zs others a) (sym (ap (λ (y : Delivery). y.message.tag) q) ∙ sym h))
one_tag (z ∷ zs) others k d e (inr a) (inr c) h = one_tag zs others k.1 d e a c h

other_tag : (ds : List Delivery) (others : List Message) → AreApart (map message_of ds ++ others) → (d : Delivery) (m : Message) → IsAmong d ds → IsAmong m others → d.message.tag ≡ m.tag → ⊥
other_tag [] others k d m a c h = absurd a
other_tag (z ∷ zs) others k d m (inl p) c h = free_at z.message.tag (map message_of zs ++ others) m k.0 (among_last m (map message_of zs) others c) (sym (ap (λ (y : Delivery). y.message.tag) p) ∙ h)
other_tag (z ∷ zs) others k d m (inr a) c h = other_tag zs others k.1 d m a c h

-- a settlement that was heard
known_by : (ds : List Delivery) (others : List Message) (gave : List Ruling) → AreApart (map message_of ds ++ others) → (d : Delivery) → IsAmong d ds → (x : Settlement) → Learnt ds gave d.message.tag x
    → (state : DeliveryState) × ((x ≡ settlement_of (Some state)) × IsAmong (record { number = d.number; state = state }) gave)
known_by ds others gave k d a x l =
    let e : l.delivery ≡ d = one_tag ds others k l.delivery d l.among a l.is_tag in
    (l.state, (l.is, subst (λ (y : Delivery). IsAmong (record { number = y.number; state = l.state }) gave) e l.was_given))

known_either : (ds : List Delivery) (others : List Message) (gave : List Ruling) (told : List (List ℕ × Settlement)) → AreApart (map message_of ds ++ others) → (d : Delivery) → IsAmong d ds → (x : Settlement)
    → (IsAmong (d.message.tag, x) told → Learnt ds gave d.message.tag x) → (P : Type 0) → P ⊎ IsAmong (d.message.tag, x) told
    → P ⊎ ((state : DeliveryState) × ((x ≡ settlement_of (Some state)) × IsAmong (record { number = d.number; state = state }) gave))
known_either ds others gave told k d a x f P (inl h) = inl h
known_either ds others gave told k d a x f P (inr h) = inr (known_by ds others gave k d a x (f h))

pub known : (ds : List Delivery) (others : List Message) (gave : List Ruling) (told : List (List ℕ × Settlement)) → AreApart (map message_of ds ++ others) → (d : Delivery) → IsAmong d ds
    → ((tag : List ℕ) (x : Settlement) → IsAmong (tag, x) told → Learnt ds gave tag x) → (x : Settlement) → IsSettled told d.message x → IsOutcome gave d x
known ds others gave told k d a f Unsettled h = tt
known ds others gave told k d a f (Settled o) h = known_either ds others gave told k d a (Settled o) (λ i. f d.message.tag (Settled o) i) _ h
known ds others gave told k d a f NonTerminal h = known_either ds others gave told k d a NonTerminal (λ i. f d.message.tag NonTerminal i) _ h
known ds others gave told k d a f Illegal h = known_either ds others gave told k d a Illegal (λ i. f d.message.tag Illegal i) _ h

-- of one that has not begun to leave nothing was heard
unknown_either : (m : Message) (x : Settlement) (told : List (List ℕ × Settlement)) → (IsAmong (m.tag, x) told → ⊥) → (P : Type 0) → P ⊎ IsAmong (m.tag, x) told → P ⊎ ⊥
unknown_either m x told f P (inl h) = inl h
unknown_either m x told f P (inr h) = inr (f h)

pub unknown : (ds : List Delivery) (others : List Message) (gave : List Ruling) (told : List (List ℕ × Settlement)) → AreApart (map message_of ds ++ others) → (m : Message) → IsAmong m others
    → ((tag : List ℕ) (x : Settlement) → IsAmong (tag, x) told → Learnt ds gave tag x) → (x : Settlement) → IsSettled told m x → IsSettled [] m x
unknown ds others gave told k m a f Unsettled h = tt
unknown ds others gave told k m a f (Settled o) h = unknown_either m (Settled o) told (λ i. (let l = f m.tag (Settled o) i in other_tag ds others k l.delivery m l.among a l.is_tag)) _ h
unknown ds others gave told k m a f NonTerminal h = unknown_either m NonTerminal told (λ i. (let l = f m.tag NonTerminal i in other_tag ds others k l.delivery m l.among a l.is_tag)) _ h
unknown ds others gave told k m a f Illegal h = unknown_either m Illegal told (λ i. (let l = f m.tag Illegal i in other_tag ds others k l.delivery m l.among a l.is_tag)) _ h

rest_known : (told : List (List ℕ × Settlement)) (ms : List Message) (xs : List Settlement) → ((m : Message) → IsAmong m ms → (x : Settlement) → IsSettled told m x → IsSettled [] m x) → AreSettled told ms xs → AreSettled [] ms xs
rest_known told [] [] f h = tt
rest_known told [] (x ∷ xs) f h = absurd h
rest_known told (m ∷ ms) [] f h = absurd h
rest_known told (m ∷ ms) (x ∷ xs) f h = (f m (inl refl) x h.0, rest_known told ms xs (λ n a. f n (inr a)) h.1)

pub all_known : (gave : List Ruling) (told : List (List ℕ × Settlement)) (ds : List Delivery) (others : List Message) (xs : List Settlement) → ((d : Delivery) → IsAmong d ds → (x : Settlement) → IsSettled told d.message x → IsOutcome gave d x)
    → ((m : Message) → IsAmong m others → (x : Settlement) → IsSettled told m x → IsSettled [] m x) → AreSettled told (map message_of ds ++ others) xs → AreOutcomes gave ds others xs
all_known gave told [] others xs f g h = rest_known told others xs g h
all_known gave told (d ∷ ds) others [] f g h = absurd h
all_known gave told (d ∷ ds) others (x ∷ xs) f g h = (f d (inl refl) x h.0, all_known gave told ds others xs (λ e a. f e (inr a)) g h.1)
