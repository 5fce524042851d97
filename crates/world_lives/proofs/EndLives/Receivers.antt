-- A receiver and its session go on together.
use Rattle.std.specs.Prelude.{◌≡◌, ℕ, nat_eq, Bool, true, false, List, [], ◌∷◌, ◌++◌, Option, Some, None, if◌then◌else◌, refl}
use Rattle.std.proofs.Common.{sym, ◌∙◌, ap, eq-eqb}
use Rattle.std.proofs.lemmas.Bool.{eqb-true, eqb-false}
use Rattle.std.proofs.lemmas.Grind.{flat_map-append}
use Rattle.amqp_parts.specs.declared.part.Part.{Part}
use Rattle.amqp_performatives.specs.declared.transfer.Transfer.{Transfer}
use Rattle.amqp_session.specs.declared.session.LinkInput.{LinkInput}
use Rattle.amqp_session.specs.declared.session.LinkInput.TheVariants as input
use Rattle.amqp_session.specs.State.{State as Session}
use Rattle.amqp_links.specs.Hearing.{link_from_at}
use Rattle.amqp_links.specs.State.{State as Links, place_of}
use Rattle.amqp_sessions.specs.Parts.{EndpointState}
use Rattle.amqp_sessions.specs.State.{State as Sessions}
use Rattle.session_laws.specs.Messages.{on}
use Rattle.session_laws.specs.Handing.{transfer_in, inputs, taken_by, taken, handed_over}
use Rattle.session_laws.specs.Holding.{after, after_all}
use Rattle.session_laws.specs.Receiving as receiving
use Rattle.link_lives.specs.Deeds as links
use Rattle.link_lives.specs.Deeds.{part_for, parts_for, parts_in}
use Rattle.link_lives.proofs.Runs.{one_receiver_lives}
use Rattle.session_lives.specs.Deeds as sessions
use Rattle.session_lives.specs.Deeds.{gave_in}
use Rattle.session_lives.specs.Laws.{SessionLives}
use Rattle.session_lives.specs.Lives.{Step, Makes, Closes, moves, given}
use Rattle.session_lives.specs.Logs.{own}
use Rattle.session_lives.proofs.Going.{own_more}
use Rattle.session_lives.proofs.Runs.{one_of_all_lives}
use Rattle.world_lives.specs.EndLives.Ends.{heard_of, heard_in}
use Rattle.world_lives.specs.EndLives.Laws.{IsFront, IsLed, IsLedAt, AreLed, ReceiversPass}
use Rattle.world_lives.proofs.EndLives.Fronts.{front_more, front_to, front_of, front_then, on_more, front_on}

-- ---- what the link reads

part_none : (o : Option ℕ) (p : Part) (n : ℕ) → (o ≡ Some n → ⊥) → part_for o p n ≡ []
part_none None p n h = refl
part_none (Some k) p n h = by (nat_eq k n) refl
  where
    by : (b : Bool) → nat_eq k n ≡ b → (if b then p ∷ [] else []) ≡ []
    by true e = absurd (h (ap (λ m. Some m) (eqb-true k n e)))
    by false e = refl

part_one : (o : Option ℕ) (p : Part) (n : ℕ) → o ≡ Some n → part_for o p n ≡ p ∷ []
part_one o p n e = ap (λ q. part_for q p n) e ∙ ap (λ b. if b then p ∷ [] else []) (eq-eqb n n refl)

module _ (handle session n : ℕ) where
  -- of what is heard under the name of a session, the Transfers on the handle
  here : List (ℕ × LinkInput) → List Part
  here xs = on handle (inputs (own session xs))

  here_more : (xs ys : List (ℕ × LinkInput)) → here (xs ++ ys) ≡ here xs ++ here ys
  unfolding here
  here_more xs ys =
      ap (λ zs. on handle (inputs zs)) (own_more session xs ys)
      ∙ (ap (on handle) (flat_map-append transfer_in (own session xs) (own session ys)) ∙ on_more handle (inputs (own session xs)) (inputs (own session ys)))

  transfer_led : (name : ℕ) (x : Transfer) (payload : List ℕ) (l : Links) → IsLed handle session n l
      → parts_for (links.Hears name (input.Transfer x payload)) l n ≡ here ((name, input.Transfer x payload) ∷ [])
  unfolding here
  transfer_led name x payload l led = by (nat_eq session name) (nat_eq x.handle handle) refl refl
    where
      by : (b c : Bool) → nat_eq session name ≡ b → nat_eq x.handle handle ≡ c
          → part_for (link_from_at x.handle (place_of name l)) (record { transfer = x; payload = payload }) n
          ≡ on handle (inputs ((if nat_eq session name then input.Transfer x payload ∷ [] else []) ++ []))
      by true true e f =
          let q : Part = record { transfer = x; payload = payload } in
          let there : link_from_at x.handle (place_of name l) ≡ Some n =
          ap (λ k. link_from_at x.handle (place_of k l)) (sym (eqb-true session name e)) ∙ (ap (λ k. link_from_at k (place_of session l)) (eqb-true x.handle handle f) ∙ led.leads) in
          part_one (link_from_at x.handle (place_of name l)) q n there
          ∙ sym (ap (λ b. on handle (inputs ((if b then input.Transfer x payload ∷ [] else []) ++ []))) e ∙ ap (λ b. if b then q ∷ [] else []) f)
      by true false e f =
          let q : Part = record { transfer = x; payload = payload } in
          part_none (link_from_at x.handle (place_of name l)) q n (λ h. eqb-false x.handle handle f (led.alone name x.handle h).1)
          ∙ sym (ap (λ b. on handle (inputs ((if b then input.Transfer x payload ∷ [] else []) ++ []))) e ∙ ap (λ b. if b then q ∷ [] else []) f)
      by false c e f =
          let q : Part = record { transfer = x; payload = payload } in
          part_none (link_from_at x.handle (place_of name l)) q n (λ h. eqb-false session name e (sym (led.alone name x.handle h).0))
          ∙ sym (ap (λ b. on handle (inputs ((if b then input.Transfer x payload ∷ [] else []) ++ []))) e)

  -- what is no Transfer
  quiet : (name : ℕ) (x : LinkInput) → transfer_in x ≡ [] → here ((name, x) ∷ []) ≡ []
  unfolding here
  quiet name x h = by (nat_eq session name)
    where
      by : (b : Bool) → on handle (inputs ((if b then x ∷ [] else []) ++ [])) ≡ []
      by true = ap (λ xs. on handle (xs ++ [])) h
      by false = refl

  hears_led : (name : ℕ) (x : LinkInput) (l : Links) → IsLedAt handle session n (links.Hears name x) l → parts_for (links.Hears name x) l n ≡ here ((name, x) ∷ [])
  hears_led name (input.Transfer x payload) l led = transfer_led name x payload l led
  hears_led name (input.Flow x) l led = sym (quiet name (input.Flow x) refl)
  hears_led name (input.Attach x) l led = sym (quiet name (input.Attach x) refl)
  hears_led name (input.Detach x) l led = sym (quiet name (input.Detach x) refl)
  hears_led name (input.Disposition x) l led = sym (quiet name (input.Disposition x) refl)
  hears_led name (input.Left x) l led = sym (quiet name (input.Left x) refl)
  hears_led name (input.Stopped why) l led = sym (quiet name (input.Stopped why) refl)
  hears_led name input.Over l led = sym (quiet name input.Over refl)

  deed_led : (d : links.Deed) (l : Links) → IsLedAt handle session n d l → parts_for d l n ≡ here (heard_of d)
  unfolding here
  deed_led (links.Hears name x) l led = hears_led name x l led
  deed_led (links.Asks name call max) l led = refl
  deed_led (links.Hands x) l led = refl
  deed_led (links.Knows at) l led = refl
  deed_led links.Looks l led = refl
  deed_led links.Tells l led = refl

  all_led : (l : Links) (ld : List links.Deed) (l' : Links) (did : links.Did l ld l') → AreLed handle session n l ld l' did → parts_in l ld l' did n ≡ here (heard_in ld)
  unfolding here
  all_led l [] l' did led = refl
  all_led l (d ∷ ds) l' did led =
      ap (λ (xs : List Part). xs ++ parts_in did.0 ds l' did.1.1 n) (deed_led d l led.0)
      ∙ (ap (λ (xs : List Part). here (heard_of d) ++ xs) (all_led did.0 ds l' did.1.1 led.1) ∙ sym (here_more (heard_of d) (heard_in ds)))

-- ---- what the session hands over

-- that nothing more comes is no Transfer
given_parts : (s : Session) (xs : List Step) → inputs (given s xs) ≡ inputs (taken s (moves xs))
given_parts s [] = refl
given_parts s (Makes m ∷ xs) =
    let t = after s m in
    flat_map-append transfer_in (taken_by s m) (given t xs)
    ∙ (ap (λ (ys : List Part). inputs (taken_by s m) ++ ys) (given_parts t xs) ∙ sym (flat_map-append transfer_in (taken_by s m) (taken t (moves xs))))
given_parts s (Closes ∷ xs) = given_parts s xs

-- what went to links is a front of what the session hands over
gave_front : (handle session : ℕ) (e : EndpointState) (s : Sessions) (sd : List sessions.Deed) (s' : Sessions) (did : sessions.Did s sd s') (w : SessionLives session e sd s s' did)
    → on handle (inputs (own session s.incoming)) ≡ []
    → IsFront (on handle (inputs (own session (gave_in sd)))) (on handle (inputs (handed_over e.session (moves w.steps))))
gave_front handle session e s sd s' did w none =
    let ms = moves w.steps in
    let went = inputs (own session (gave_in sd)) in
    let left = inputs (own session s'.incoming) in
    let old = inputs (own session s.incoming) in
    let gave = inputs (taken e.session ms) in
    let more = inputs (after_all e.session ms).incoming in
    let sum : went ++ left ≡ old ++ gave =
    sym (flat_map-append transfer_in (own session (gave_in sd)) (own session s'.incoming))
    ∙ (ap inputs w.gives ∙ (flat_map-append transfer_in (own session s.incoming) (given e.session w.steps) ∙ ap (λ (xs : List Part). old ++ xs) (given_parts e.session w.steps))) in
    let p : IsFront went (old ++ gave) = front_to went (went ++ left) (old ++ gave) (front_more went left) sum in
    let q : on handle (old ++ gave) ≡ on handle gave = on_more handle old gave ∙ ap (λ (xs : List Part). xs ++ on handle gave) none in
    let r : IsFront gave (inputs (handed_over e.session ms)) =
    front_to gave (gave ++ more) (inputs (handed_over e.session ms)) (front_more gave more) (sym (flat_map-append transfer_in (taken e.session ms) (after_all e.session ms).incoming)) in
    front_then (on handle went) (on handle gave) (on handle (inputs (handed_over e.session ms)))
    (front_to (on handle went) (on handle (old ++ gave)) (on handle gave) (front_on handle went (old ++ gave) p) q)
    (front_on handle gave (inputs (handed_over e.session ms)) r)

pub receivers_pass : ReceiversPass
unfolding here
receivers_pass n c t e s sd s' l ld l' k keyed at other stands is apart free =
    let g = one_receiver_lives n c t ld l l' k.links_did stands is apart free in
    let w = one_of_all_lives c.session e sd s s' k.sessions_did keyed at other in
    record {
      receiver = g;
      life = w;
      reads = λ handle led none.
          front_of (receiving.read g.moves) (on handle (inputs (own c.session (gave_in sd)))) (on handle (inputs (handed_over e.session (moves w.steps))))
          (g.read ∙ (all_led handle c.session n l ld l' k.links_did led ∙ ap (λ xs. on handle (inputs (own c.session xs))) k.heard))
          (gave_front handle c.session e s sd s' k.sessions_did w none);
    }
