-- What a sender hears of credit is what its session hands over.
use Rattle.std.specs.Prelude.{◌≡◌, ℕ, nat_eq, Bool, true, false, List, [], ◌∷◌, ◌++◌, flat_map, Option, Some, None, if◌then◌else◌, refl}
use Rattle.std.proofs.Common.{inl, inr, sym, ◌∙◌, ap, subst, eq-eqb, append_assoc}
use Rattle.std.proofs.lemmas.Bool.{eqb-true, eqb-false}
use Rattle.std.proofs.lemmas.Grind.{flat_map-append}
use Rattle.amqp_link_tables.specs.declared.deliveries.Delivered.{Delivered}
use Rattle.amqp_frames.specs.declared.shared.CoveredDelivery.{CoveredDelivery}
use Rattle.amqp_link_calls.specs.Called.{Called}
use Rattle.amqp_links.specs.Hearing.{link_from_at}
use Rattle.amqp_links.specs.Parts.{is_heard}
use Rattle.amqp_links.specs.Settling.{delivery_at, settled, covered_at}
use Rattle.amqp_links.specs.State.{State as Links, place_of, link_of, entered}
use Rattle.amqp_performatives.specs.declared.disposition.Disposition.{Disposition}
use Rattle.amqp_performatives.specs.declared.flow.Flow.{Flow}
use Rattle.amqp_session.specs.declared.session.LinkInput.{LinkInput}
use Rattle.amqp_session.specs.declared.session.LinkInput.TheVariants as input
use Rattle.amqp_session.specs.State.{State as Session}
use Rattle.amqp_sessions.specs.Parts.{EndpointState}
use Rattle.amqp_sessions.specs.State.{State as Sessions}
use Rattle.session_laws.specs.Crediting.{flows_by, flows_heard}
use Rattle.session_laws.specs.Handing.{taken_by, taken, handed_over}
use Rattle.session_laws.specs.Holding.{after, after_all}
use Rattle.session_laws.specs.Numbering.{News}
use Rattle.session_laws.specs.Sending as sending
use Rattle.session_laws.specs.Sending.{IsShort, AllShort, hears_flow}
use Rattle.session_laws.specs.Settling.{IsAmong}
use Rattle.session_laws.specs.Speaking.{AreAmong, brought_by, brought, is_on, flow_if, flow_on, flows_on}
use Rattle.link_lives.specs.Deeds as links
use Rattle.session_lives.specs.Deeds as sessions
use Rattle.session_lives.specs.Deeds.{gave_in}
use Rattle.session_lives.specs.Laws.{SessionLives}
use Rattle.session_lives.specs.Lives.{Step, Makes, Closes, moves, given}
use Rattle.session_lives.specs.Logs.{own}
use Rattle.session_lives.proofs.Going.{own_more}
use Rattle.world_lives.specs.EndLives.Ends.{heard_of, heard_in}
use Rattle.world_lives.specs.EndLives.Laws.{IsLed}
use Rattle.world_lives.specs.OutcomeLives.Hearing.{AreFirst}
use Rattle.sender_hears.specs.Deeds.{flow_from, flow_for, ruled_at, ruled_by, all_ruled, words_for, words_in}
use Rattle.sender_hears.specs.Words.{Word, Credit, Outcome, word_in, words}
use Rattle.world_lives.specs.WordsCarry.Hearing.{IsLedAt, AreLed, GiveShort, FlowsAreHeard}

-- ---- lists that begin others

first_more : (xs ys : List Flow) → AreFirst xs (xs ++ ys)
first_more xs ys = record { later = ys; whole = refl }

first_then : (xs ys zs : List Flow) → AreFirst xs ys → AreFirst ys zs → AreFirst xs zs
first_then xs ys zs p q = record { later = p.later ++ q.later; whole = sym (append_assoc xs p.later q.later) ∙ (ap (λ (vs : List Flow). vs ++ q.later) p.whole ∙ q.whole) }

first_to : (xs ys zs : List Flow) → AreFirst xs ys → ys ≡ zs → AreFirst xs zs
first_to xs ys zs p e = record { later = p.later; whole = p.whole ∙ e }

first_of : (xs ys zs : List Flow) → xs ≡ ys → AreFirst ys zs → AreFirst xs zs
first_of xs ys zs e p = record { later = p.later; whole = ap (λ (vs : List Flow). vs ++ p.later) e ∙ p.whole }

-- ---- the Flows among what a sender hears

credit_of : Word → List Flow
credit_of (Credit x) = x ∷ []
credit_of (Outcome x) = []

credits : List Word → List Flow
credits ws = flat_map credit_of ws

credits_more : (xs ys : List Word) → credits (xs ++ ys) ≡ credits xs ++ credits ys
unfolding credits
credits_more xs ys = flat_map-append credit_of xs ys

credit_by : (m : sending.Move) → flows_by m ≡ credits (word_in m)
unfolding credits credit_of
credit_by (hears_flow x) = refl
credit_by m = refl

credits_heard : (ms : List sending.Move) → flows_heard ms ≡ credits (words ms)
unfolding credits
credits_heard [] = refl
credits_heard (m ∷ ms) =
    ap (λ (xs : List Flow). xs ++ flows_heard ms) (credit_by m) ∙ (ap (λ (xs : List Flow). credits (word_in m) ++ xs) (credits_heard ms) ∙ sym (credits_more (word_in m) (words ms)))

-- what is heard of a delivery is no Flow
one_none : (b : Bool) (ws : List Word) → credits ws ≡ [] → credits (if b then ws else []) ≡ []
unfolding credits
one_none true ws h = h
one_none false ws h = refl

news_none : (b : Bool) (x : News) → credits (if b then Outcome x ∷ [] else []) ≡ []
unfolding credits credit_of
news_none true x = refl
news_none false x = refl

ruled_at_none : (o : Option Called) (x : CoveredDelivery) (d : Disposition) → credits (ruled_at o x d) ≡ []
unfolding credits
ruled_at_none None x d = refl
ruled_at_none (Some l) x d = news_none (is_heard l) (record { delivery = x; settled = d.settled; state = d.state })

ruled_by_none : (o : Option Delivered) (number : ℕ) (d : Disposition) (s : Links) (n : ℕ) → credits (ruled_by o number d s n) ≡ []
unfolding credits
ruled_by_none None number d s n = refl
ruled_by_none (Some x) number d s n =
    let y : CoveredDelivery = record { delivery_id = number; delivery_tag = x.tag } in
    one_none (nat_eq x.link n) (ruled_at (link_of x.link s) y d) (ruled_at_none (link_of x.link s) y d)

all_ruled_none : (ks : List ℕ) (session : ℕ) (d : Disposition) (s : Links) (n : ℕ) → credits (all_ruled ks session d s n) ≡ []
unfolding credits
all_ruled_none [] session d s n = refl
all_ruled_none (k ∷ ks) session d s n =
    let a = ruled_by (delivery_at d.role k (place_of session s)) k d s n in
    let b = all_ruled ks session d (settled session k d s) n in
    credits_more a b ∙ (ap (λ (xs : List Flow). xs ++ credits b) (ruled_by_none (delivery_at d.role k (place_of session s)) k d s n) ∙ all_ruled_none ks session d (settled session k d s) n)

-- ---- what the sender is to hear

from_none : (o : Option ℕ) (x : Flow) (n : ℕ) → (o ≡ Some n → ⊥) → flow_from o x n ≡ []
from_none None x n h = refl
from_none (Some k) x n h = by (nat_eq k n) refl
  where
    by : (b : Bool) → nat_eq k n ≡ b → (if b then Credit x ∷ [] else []) ≡ []
    by true e = absurd (h (ap (λ m. Some m) (eqb-true k n e)))
    by false e = refl

from_one : (o : Option ℕ) (x : Flow) (n : ℕ) → o ≡ Some n → flow_from o x n ≡ Credit x ∷ []
from_one o x n e = ap (λ q. flow_from q x n) e ∙ ap (λ b. if b then Credit x ∷ [] else []) (eq-eqb n n refl)

module _ (handle session n : ℕ) where
  -- of what is heard under the name of a session, the Flows on the handle
  here : List (ℕ × LinkInput) → List Flow
  here xs = flows_on handle (brought (own session xs))

  here_more : (xs ys : List (ℕ × LinkInput)) → here (xs ++ ys) ≡ here xs ++ here ys
  unfolding here
  here_more xs ys =
      ap (λ (zs : List LinkInput). flows_on handle (brought zs)) (own_more session xs ys)
      ∙ (ap (flows_on handle) (flat_map-append brought_by (own session xs) (own session ys)) ∙ flat_map-append (flow_on handle) (brought (own session xs)) (brought (own session ys)))

  module _ (name : ℕ) (x : Flow) (l : Links) (led : IsLed handle session n l) where
    -- on the session of the handle
    flow_here : nat_eq session name ≡ true → (o : Option ℕ) → credits (flow_for o name x l n) ≡ flow_if (is_on handle o) x ++ []
    unfolding credits credit_of
    flow_here e None = refl
    flow_here e (Some remote) = by (nat_eq remote handle) refl
      where
        by : (b : Bool) → nat_eq remote handle ≡ b → credits (flow_from (link_from_at remote (place_of name l)) x n) ≡ flow_if (nat_eq remote handle) x ++ []
        by true f =
            let there : link_from_at remote (place_of name l) ≡ Some n =
            ap (λ k. link_from_at remote (place_of k l)) (sym (eqb-true session name e)) ∙ (ap (λ k. link_from_at k (place_of session l)) (eqb-true remote handle f) ∙ led.leads) in
            ap credits (from_one (link_from_at remote (place_of name l)) x n there) ∙ sym (ap (λ b. flow_if b x ++ []) f)
        by false f =
            ap credits (from_none (link_from_at remote (place_of name l)) x n (λ h. eqb-false remote handle f (led.alone name remote h).1)) ∙ sym (ap (λ b. flow_if b x ++ []) f)

    -- on another
    flow_there : nat_eq session name ≡ false → (o : Option ℕ) → credits (flow_for o name x l n) ≡ []
    unfolding credits
    flow_there e None = refl
    flow_there e (Some remote) = ap credits (from_none (link_from_at remote (place_of name l)) x n (λ h. eqb-false session name e (sym (led.alone name remote h).0)))

    flow_led : credits (words_for (links.Hears name (input.Flow x)) l n) ≡ here ((name, input.Flow x) ∷ [])
    unfolding here
    flow_led = by (nat_eq session name) refl
      where
        by : (b : Bool) → nat_eq session name ≡ b → credits (flow_for x.handle name x l n) ≡ flows_on handle (brought ((if nat_eq session name then input.Flow x ∷ [] else []) ++ []))
        by true e = flow_here e x.handle ∙ sym (ap (λ b. flows_on handle (brought ((if b then input.Flow x ∷ [] else []) ++ []))) e)
        by false e = flow_there e x.handle ∙ sym (ap (λ b. flows_on handle (brought ((if b then input.Flow x ∷ [] else []) ++ []))) e)

  -- what is no Flow
  quiet : (name : ℕ) (x : LinkInput) → flows_on handle (brought_by x) ≡ [] → here ((name, x) ∷ []) ≡ []
  unfolding here
  quiet name x h = by (nat_eq session name)
    where
      none : flows_on handle (brought (x ∷ [])) ≡ []
      none = flat_map-append (flow_on handle) (brought_by x) [] ∙ ap (λ (xs : List Flow). xs ++ []) h

      by : (b : Bool) → flows_on handle (brought ((if b then x ∷ [] else []) ++ [])) ≡ []
      by true = none
      by false = refl

  hears_led : (name : ℕ) (x : LinkInput) (l : Links) → IsLedAt handle session n (links.Hears name x) l → credits (words_for (links.Hears name x) l n) ≡ here ((name, x) ∷ [])
  unfolding credits
  hears_led name (input.Flow x) l led = flow_led name x l led
  hears_led name (input.Disposition d) l led =
      let t = entered name l in
      all_ruled_none (covered_at d (place_of name t)) name d t n ∙ sym (quiet name (input.Disposition d) refl)
  hears_led name (input.Transfer x payload) l led = sym (quiet name (input.Transfer x payload) refl)
  hears_led name (input.Attach x) l led = sym (quiet name (input.Attach x) refl)
  hears_led name (input.Detach x) l led = sym (quiet name (input.Detach x) refl)
  hears_led name (input.Left x) l led = sym (quiet name (input.Left x) refl)
  hears_led name (input.Stopped why) l led = sym (quiet name (input.Stopped why) refl)
  hears_led name input.Over l led = sym (quiet name input.Over refl)

  deed_led : (d : links.Deed) (l : Links) → IsLedAt handle session n d l → credits (words_for d l n) ≡ here (heard_of d)
  unfolding here credits
  deed_led (links.Hears name x) l led = hears_led name x l led
  deed_led (links.Asks name call max) l led = refl
  deed_led (links.Hands x) l led = refl
  deed_led (links.Knows at) l led = refl
  deed_led links.Looks l led = refl
  deed_led links.Tells l led = refl

  all_led : (l : Links) (ld : List links.Deed) (l' : Links) (did : links.Did l ld l') → AreLed handle session n l ld l' did → credits (words_in l ld l' did n) ≡ here (heard_in ld)
  unfolding here credits
  all_led l [] l' did led = refl
  all_led l (d ∷ ds) l' did led =
      credits_more (words_for d l n) (words_in did.0 ds l' did.1.1 n)
      ∙ (ap (λ (xs : List Flow). xs ++ credits (words_in did.0 ds l' did.1.1 n)) (deed_led d l led.0)
      ∙ (ap (λ (xs : List Flow). here (heard_of d) ++ xs) (all_led did.0 ds l' did.1.1 led.1) ∙ sym (here_more (heard_of d) (heard_in ds))))

-- ---- what the session hands over

abbrev flows_brought : ℕ → List LinkInput → List Flow
flows_brought handle xs = flows_on handle (brought xs)

brought_more : (handle : ℕ) (xs ys : List LinkInput) → flows_brought handle (xs ++ ys) ≡ flows_brought handle xs ++ flows_brought handle ys
brought_more handle xs ys = ap (flows_on handle) (flat_map-append brought_by xs ys) ∙ flat_map-append (flow_on handle) (brought xs) (brought ys)

-- that nothing more comes is no Flow
given_flows : (handle : ℕ) (s : Session) (xs : List Step) → flows_brought handle (given s xs) ≡ flows_brought handle (taken s (moves xs))
given_flows handle s [] = refl
given_flows handle s (Makes m ∷ xs) =
    let t = after s m in
    brought_more handle (taken_by s m) (given t xs)
    ∙ (ap (λ (ys : List Flow). flows_brought handle (taken_by s m) ++ ys) (given_flows handle t xs) ∙ sym (brought_more handle (taken_by s m) (taken t (moves xs))))
given_flows handle s (Closes ∷ xs) = given_flows handle s xs

-- what went to links is the first of what the session hands over
gave_first : (handle session : ℕ) (e : EndpointState) (s : Sessions) (sd : List sessions.Deed) (s' : Sessions) (did : sessions.Did s sd s') (w : SessionLives session e sd s s' did)
    → flows_brought handle (own session s.incoming) ≡ [] → AreFirst (flows_brought handle (own session (gave_in sd))) (flows_brought handle (handed_over e.session (moves w.steps)))
gave_first handle session e s sd s' did w none =
    let ms = moves w.steps in
    let went = flows_brought handle (own session (gave_in sd)) in
    let left = flows_brought handle (own session s'.incoming) in
    let gave = flows_brought handle (taken e.session ms) in
    let more = flows_brought handle (after_all e.session ms).incoming in
    let sum : went ++ left ≡ gave =
    sym (brought_more handle (own session (gave_in sd)) (own session s'.incoming))
    ∙ (ap (λ (xs : List LinkInput). flows_brought handle xs) w.gives
    ∙ (brought_more handle (own session s.incoming) (given e.session w.steps)
    ∙ (ap (λ (xs : List Flow). xs ++ flows_brought handle (given e.session w.steps)) none ∙ given_flows handle e.session w.steps))) in
    first_then went gave (flows_brought handle (handed_over e.session ms)) (first_to went (went ++ left) gave (first_more went left) sum)
    (first_to gave (gave ++ more) (flows_brought handle (handed_over e.session ms)) (first_more gave more) (sym (brought_more handle (taken e.session ms) (after_all e.session ms).incoming)))

pub flows_are_heard : FlowsAreHeard
unfolding here
flows_are_heard handle n session t e s sd s' l ld l' k g w led none =
    let ms = g.goes.moves in
    let heard : flows_heard ms ≡ flows_brought handle (own session (gave_in sd)) =
    credits_heard ms ∙ (ap credits g.hears ∙ (all_led handle session n l ld l' k.links_did led ∙ ap (λ (xs : List (ℕ × LinkInput)). flows_brought handle (own session xs)) k.heard)) in
    first_of (flows_heard ms) (flows_brought handle (own session (gave_in sd))) (flows_brought handle (handed_over e.session (moves w.steps))) heard (gave_first handle session e s sd s' k.sessions_did w none)

-- ---- numbers of 32 bits

short_at : (x : Flow) (xs : List Flow) → IsAmong x xs → GiveShort xs → IsShort x.link_credit
short_at x [] a h = absurd a
short_at x (y ∷ ys) (inl e) h = subst (λ (z : Flow). IsShort z.link_credit) (sym e) h.0
short_at x (y ∷ ys) (inr a) h = short_at x ys a h.1

pub all_short : (ms : List sending.Move) (xs : List Flow) → AreAmong (flows_heard ms) xs → GiveShort xs → AllShort ms
all_short [] xs a h = tt
all_short (hears_flow x ∷ ms) xs a h = (short_at x xs a.0 h, all_short ms xs a.1 h)
all_short (m ∷ ms) xs a h = (tt, all_short ms xs a h)
