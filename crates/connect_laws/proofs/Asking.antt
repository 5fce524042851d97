-- Whatever is done with an end that sends.
use Rattle.std.proofs.Common.{◌≡◌, ◌⊎◌, inl, inr, ◌∙◌, ap, subst, sym, refl, append_assoc, arith, ℕ, ◌<◌, nat_eq, false, List, [], ◌∷◌, ◌++◌, Option, Some, None}
use Rattle.std.proofs.lemmas.List.{append-nil}
use Rattle.std.proofs.lemmas.List.Elements.{All-nil}
use Rattle.std.specs.Prelude.{IsTrue}
use Rattle.std.specs.Map.{lookup}
use Rattle.amqp_wire.specs.declared.link.Link.{Ghosts}
use Rattle.amqp_termini.specs.declared.outcome.Outcome.{Outcome}
use Rattle.amqp_link_words.specs.declared.link_call.LinkCall.TheVariants as ask
use Rattle.amqp_link_words.specs.declared.link_call.Sendable.{Sendable}
use Rattle.amqp_link_words.specs.declared.link_reply.LinkReply.TheVariants as reply
use Rattle.amqp_link_words.specs.declared.link_reply.NamedLinkReply.{NamedLinkReply}
use Rattle.amqp_calls.specs.declared.call.Call.{Call}
use Rattle.amqp_calls.specs.declared.call.Call.TheVariants as on
use Rattle.amqp_calls.specs.declared.reply.NamedReply.{NamedReply}
use Rattle.amqp_calls.specs.declared.reply.Reply.TheVariants as answer
use Rattle.amqp_link_calls.specs.Called.{Called}
use Rattle.amqp_links.specs.declared.links.SentDelivery.{SentDelivery}
use Rattle.amqp_links.specs.May.{may_ask_for}
use Rattle.amqp_links.specs.State.{State as Links, seen as linked, no_links, link_of}
use Rattle.amqp_session.specs.declared.session.LinkInput.{LinkInput}
use Rattle.amqp_sessions.specs.State.{State, seen, none_begun}
use Rattle.amqp_sessions.specs.declared.sessions.Sessions.{Sessions}
use Rattle.amqp_end.specs.declared.end.End.{End}
use Rattle.amqp_end.specs.Deeds.{Deed, told_of, told_by}
use Rattle.amqp_end.specs.Goes.{on_links}
use Rattle.amqp_session_world.specs.Answers.{IsOfSession, AreOfSessions}
use Rattle.amqp_session_world.proofs.Sessions.{sessions_answer}
use Rattle.amqp_serve.specs.Deeds.{deeds_of, deeds_in}
use Rattle.amqp_serve.specs.Ran.{Turn, calls, polls, waits, tells, forgets, IsTurn, Ran}
use Rattle.session_laws.specs.Settling.{IsAmong}
use Rattle.connect_laws.specs.Ruling.{Forgets, Rules, IsRuled, Asked, heard_by, heard_in, told_in, answers_of}
use Rattle.connect_laws.proofs.Told.{links_tell_outcomes}
use Rattle.connect_laws.specs.Asking.{inputs_of, inputs_by, IsOfSender, IsTurnOfSender, AreOfSender, AsksOutcome, deeds_by, IsRuledIn, RunsTellOutcomes}
use Rattle.connect_laws.proofs.Names.{HasName, IsUpTo, up_to_last, stays_up, above, is_above, up_to_itself}
use Rattle.connect_laws.proofs.Parts.{AreAllowed, Part, Around, among_either, among_left, among_right, part_none, part_then, part_as, part_deeds, around_call}

-- ---- lists

inputs_then : (xs ys : List Deed) → inputs_by (xs ++ ys) ≡ inputs_by ys ++ inputs_by xs
inputs_then [] ys = sym (append-nil (inputs_by ys))
inputs_then (x ∷ xs) ys = ap (λ (hs : List (ℕ × LinkInput)). hs ++ inputs_of x) (inputs_then xs ys) ∙ append_assoc (inputs_by ys) (inputs_by xs) (inputs_of x)

told_then : (xs ys : List Deed) → told_by (xs ++ ys) ≡ told_by ys ++ told_by xs
told_then [] ys = sym (append-nil (told_by ys))
told_then (x ∷ xs) ys = ap (λ (ts : List NamedReply). ts ++ told_of x) (told_then xs ys) ∙ append_assoc (told_by ys) (told_by xs) (told_of x)

either_both : {X Y : Type 0} (x : X) (y : Y) (xs ys : List X) (us vs : List Y) → (IsAmong x xs → IsAmong y us) → (IsAmong x ys → IsAmong y vs) → IsAmong x xs ⊎ IsAmong x ys → IsAmong y (us ++ vs)
either_both x y xs ys us vs f g (inl i) = among_left y us vs (f i)
either_both x y xs ys us vs f g (inr i) = among_right y us vs (g i)

-- what is among the one is among the other, part by part
among_both : {X Y : Type 0} (x : X) (y : Y) (xs ys : List X) (us vs : List Y) → (IsAmong x xs → IsAmong y us) → (IsAmong x ys → IsAmong y vs) → IsAmong x (xs ++ ys) → IsAmong y (us ++ vs)
among_both x y xs ys us vs f g i = either_both x y xs ys us vs f g (among_either x xs ys i)

regrouped : {X : Type 0} (x a b m c d y : List X) → (((x ++ (a ++ b)) ++ m) ++ (c ++ d)) ++ y ≡ (x ++ a) ++ ((b ++ m) ++ (c ++ (d ++ y)))
regrouped x a b m c d y = simp (append_assoc)

-- ---- names

has_one : (n : ℕ) (t : Turn) (ts : List Turn) → HasName n (t ∷ []) → HasName n (t ∷ ts)
unfolding HasName
has_one n (calls m call) ts (inl e) = inl e
has_one n (calls m call) ts (inr h) = absurd h
has_one n polls ts h = absurd h
has_one n waits ts h = absurd h
has_one n (tells rs) ts h = absurd h
has_one n (forgets m) ts h = absurd h

has_rest : (n : ℕ) (t : Turn) (ts : List Turn) → HasName n ts → HasName n (t ∷ ts)
unfolding HasName
has_rest n (calls m call) ts h = inr h
has_rest n polls ts h = h
has_rest n waits ts h = h
has_rest n (tells rs) ts h = h
has_rest n (forgets m) ts h = h

apart_before : (i name asking : ℕ) → i < name → name < asking → IsAmong i (name ∷ asking ∷ []) → ⊥
apart_before i name asking a b (inl e) = omega (arith, a, e)
apart_before i name asking a b (inr (inl e)) = omega (arith, a, b, e)
apart_before i name asking a b (inr (inr h)) = h

apart_between : (i name asking sender : ℕ) → sender < name → name < i → i < asking → IsAmong i (name ∷ asking ∷ sender ∷ []) → ⊥
apart_between i name asking sender a b c (inl e) = omega (arith, b, e)
apart_between i name asking sender a b c (inr (inl e)) = omega (arith, c, e)
apart_between i name asking sender a b c (inr (inr (inl e))) = omega (arith, a, b, e)
apart_between i name asking sender a b c (inr (inr (inr h))) = h

apart_later : (i name asking sender : ℕ) → sender < name → name < asking → asking < i → IsAmong i (name ∷ asking ∷ sender ∷ []) → ⊥
apart_later i name asking sender a b c (inl e) = omega (arith, b, c, e)
apart_later i name asking sender a b c (inr (inl e)) = omega (arith, c, e)
apart_later i name asking sender a b c (inr (inr (inl e))) = omega (arith, a, b, c, e)
apart_later i name asking sender a b c (inr (inr (inr h))) = h

-- ---- calls

allowed_call : (names : List ℕ) (name : ℕ) (call : Call) → IsOfSender call → (IsAmong name names → ⊥) → AreAllowed names (on_links name call)
allowed_call names name (on.Connection call) h f = tt
allowed_call names name (on.Session call) h f = tt
allowed_call names name (on.Link call) h f = ((h, f), tt)

-- a call for an outcome is made where the message is known
known_of : (o : Option SentDelivery) (s : Links) → IsTrue (may_ask_for o s) → (x : SentDelivery) × (o ≡ Some x)
known_of None s h = absurd cc
known_of (Some x) s h = (x, refl)

-- what is ruled by some of what was heard is ruled by all of it
rules_more : (some all : List (ℕ × LinkInput)) (tag : List ℕ) (outcome : Outcome) → ((i : ℕ × LinkInput) → IsAmong i some → IsAmong i all) → Rules some tag outcome → Rules all tag outcome
rules_more some all tag outcome f x = record {
  session = x.session;
  left = x.left;
  leaves = f _ x.leaves;
  is_tag = x.is_tag;
  disposition = x.disposition;
  comes = f _ x.comes;
  by_receiver = x.by_receiver;
  covers = x.covers;
  state = x.state;
}

either_more : {A B C : Type 0} → (B → C) → A ⊎ B → A ⊎ C
either_more f (inl a) = inl a
either_more f (inr b) = inr (f b)

ruled_more : (some all : List (ℕ × LinkInput)) (link : Option Called) (message : Sendable) (outcome : Outcome) → ((i : ℕ × LinkInput) → IsAmong i some → IsAmong i all) → IsRuled some link message outcome → IsRuled all link message outcome
ruled_more some all link message outcome f x =
    record { called = x.called; stands = x.stands; sender = x.sender; sends = x.sends; ruled = either_more (rules_more some all _ outcome f) x.ruled }

module _ {L : Type 0} (link : Ghosts L) where
  -- ---- the answers of sessions

  pub turn_answers : (m n : End L) (t : Turn) → IsTurn link m t n → AreOfSessions (seen m.sessions).replies → AreOfSessions (seen n.sessions).replies
  turn_answers m n (calls name call) k o = sessions_answer link k.1 m.connection (seen m.sessions) (linked m.links) k.2.deeds n.connection (seen n.sessions) (linked n.links) k.2.did o
  turn_answers m n polls k o = sessions_answer link k.0 m.connection (seen m.sessions) (linked m.links) k.1.deeds n.connection (seen n.sessions) (linked n.links) k.1.did o
  turn_answers m n waits k o = subst (λ (e : End L). AreOfSessions (seen e.sessions).replies) (sym k.rest) o
  turn_answers m n (tells rs) k o = subst (λ (s : Sessions). AreOfSessions (seen s).replies) (sym k.1.sessions) o
  turn_answers m n (forgets name) k o = subst (λ (s : Sessions). AreOfSessions (seen s).replies) (sym k.sessions) o

  run_answers : (old : End L) (ts : List Turn) (new : End L) → Ran link old ts new → AreOfSessions (seen old.sessions).replies → AreOfSessions (seen new.sessions).replies
  unfolding Ran
  run_answers old [] new k o = subst (λ (e : End L). AreOfSessions (seen e.sessions).replies) (sym k) o
  run_answers old (t ∷ ts) new k o = turn_answers k.0 new t k.2 (run_answers old ts k.0 k.1 o)

  -- ---- turns

  part_turn : (names : List ℕ) (m : End L) (t : Turn) (n : End L) (k : IsTurn link m t n) → IsTurnOfSender t → AreOfSessions (seen m.sessions).replies → ((i : ℕ) → HasName i (t ∷ []) → IsAmong i names → ⊥)
      → Part names (linked m.links) (linked n.links) (inputs_by (deeds_of link m t n k)) (told_by (deeds_of link m t n k))
  unfolding HasName
  part_turn names m (calls name call) n k s o f =
      part_deeds link k.1 names m.connection (seen m.sessions) (linked m.links) k.2.deeds n.connection (seen n.sessions) (linked n.links) k.2.did o
      (subst (AreAllowed names) (sym k.2.asked) (allowed_call names name call s (f name (inl refl))))
  part_turn names m polls n k s o f =
      part_deeds link k.0 names m.connection (seen m.sessions) (linked m.links) k.1.deeds n.connection (seen n.sessions) (linked n.links) k.1.did o
      (subst (AreAllowed names) (sym k.1.asked) tt)
  part_turn names m waits n k s o f = part_none names (linked m.links) (linked n.links) (ap (λ (e : End L). linked e.links) k.rest)
  part_turn names m (tells rs) n k s o f = part_none names (linked m.links) (linked n.links) (ap linked k.1.links)
  part_turn names m (forgets name) n k s o f = record { steps = Forgets name ∷ []; did = (linked n.links, (k.links, refl)); others = (tt, tt); hears = λ x h. h; tells = λ i r h. absurd h }

  part_run : (names : List ℕ) (old : End L) (ts : List Turn) (new : End L) (k : Ran link old ts new) → AreOfSender ts → AreOfSessions (seen old.sessions).replies → ((i : ℕ) → HasName i ts → IsAmong i names → ⊥)
      → Part names (linked old.links) (linked new.links) (inputs_by (deeds_in link old ts new k)) (told_by (deeds_in link old ts new k))
  unfolding Ran deeds_in
  part_run names old [] new k s o f = part_none names (linked old.links) (linked new.links) (ap (λ (e : End L). linked e.links) k)
  part_run names old (t ∷ ts) new k s o f =
      let xs = deeds_of link k.0 t new k.2 in
      let ys = deeds_in link old ts k.0 k.1 in
      part_as names (linked old.links) (linked new.links) (inputs_by ys ++ inputs_by xs) (inputs_by (xs ++ ys)) (told_by ys ++ told_by xs) (told_by (xs ++ ys)) (sym (inputs_then xs ys)) (sym (told_then xs ys))
      (part_then names (linked old.links) (linked k.0.links) (linked new.links) (inputs_by ys) (inputs_by xs) (told_by ys) (told_by xs)
      (part_run names old ts k.0 k.1 s.0 o (λ i h. f i (has_rest i t ts h)))
      (part_turn names k.0 t new k.2 s.1 (run_answers old ts k.0 k.1 o) (λ i h. f i (has_one i t ts h))))

  -- ---- a message and its outcome

  module _ (old new : End L) (sender : ℕ) (message : Sendable) (name asking : ℕ) (outcome : Outcome) (k : AsksOutcome link old new sender message name asking) (sessions : seen old.sessions ≡ none_begun) (start : linked old.links ≡ no_links false) where
    answers_old : AreOfSessions (seen old.sessions).replies
    answers_old = subst (λ (s : State). AreOfSessions s.replies) (sym sessions) (All-nil (λ (r : NamedReply). IsOfSession r.reply))

    answers_ready : AreOfSessions (seen k.ready.sessions).replies
    answers_ready = run_answers old k.before k.ready k.begins answers_old

    answers_sent : AreOfSessions (seen k.sent.sessions).replies
    answers_sent = turn_answers k.ready k.sent (calls name (on.Link (ask.Send sender message))) k.sends answers_ready

    answers_awaits : AreOfSessions (seen k.awaits.sessions).replies
    answers_awaits = run_answers k.sent k.between k.awaits k.goes answers_sent

    answers_asked : AreOfSessions (seen k.asked.sessions).replies
    answers_asked = turn_answers k.awaits k.asked (calls asking (on.Link (ask.Outcome name))) k.asks answers_awaits

    up_awaits : IsUpTo name k.awaits.last
    up_awaits = stays_up link name k.sent k.between k.awaits k.goes (up_to_itself link name k.sent k.sends.2.last)

    name_first : name < asking
    name_first = is_above link name asking k.awaits up_awaits k.asks.0.0

    sending : Around name (ask.Send sender message) (linked k.ready.links) (linked k.sent.links) (inputs_by k.sends.2.deeds) (told_by k.sends.2.deeds)
    sending =
        around_call link k.sends.1 name (ask.Send sender message) k.ready.connection (seen k.ready.sessions) (linked k.ready.links) k.sends.2.deeds k.sent.connection (seen k.sent.sessions) (linked k.sent.links) k.sends.2.did
        answers_ready k.sends.2.asked

    asking_for : Around asking (ask.Outcome name) (linked k.awaits.links) (linked k.asked.links) (inputs_by k.asks.2.deeds) (told_by k.asks.2.deeds)
    asking_for =
        around_call link k.asks.1 asking (ask.Outcome name) k.awaits.connection (seen k.awaits.sessions) (linked k.awaits.links) k.asks.2.deeds k.asked.connection (seen k.asked.sessions) (linked k.asked.links) k.asks.2.did
        answers_awaits k.asks.2.asked

    abbrev early : List Deed
    early = deeds_in link old k.before k.ready k.begins

    abbrev middle : List Deed
    middle = deeds_in link k.sent k.between k.awaits k.goes

    abbrev late : List Deed
    late = deeds_in link k.asked k.later new k.ends

    abbrev two : List ℕ
    two = name ∷ asking ∷ []

    abbrev three : List ℕ
    three = name ∷ asking ∷ sender ∷ []

    before : Part two (no_links false) sending.ready (inputs_by early ++ sending.heard_before) (told_by early ++ sending.told_before)
    before =
        subst (λ (s : Links). Part two s sending.ready (inputs_by early ++ sending.heard_before) (told_by early ++ sending.told_before)) start
        (part_then two (linked old.links) (linked k.ready.links) sending.ready (inputs_by early) sending.heard_before (told_by early) sending.told_before
        (part_run two old k.before k.ready k.begins k.of_before answers_old (λ i h. apart_before i name asking (is_above link i name k.ready (up_to_last link i old k.before k.ready k.begins h) k.sends.0.0) name_first))
        (sending.before two))

    between : Part three sending.done (linked k.awaits.links) (sending.heard_behind ++ inputs_by middle) (sending.told_behind ++ told_by middle)
    between =
        part_then three sending.done (linked k.sent.links) (linked k.awaits.links) sending.heard_behind (inputs_by middle) sending.told_behind (told_by middle) (sending.behind three)
        (part_run three k.sent k.between k.awaits k.goes k.of_between answers_sent
        (λ i h. apart_between i name asking sender k.link_first (above link name i k.sent k.between k.awaits k.goes (up_to_itself link name k.sent k.sends.2.last) h) (is_above link i asking k.awaits (up_to_last link i k.sent k.between k.awaits k.goes h) k.asks.0.0)))

    later : Part three asking_for.done (linked new.links) (asking_for.heard_behind ++ inputs_by late) (asking_for.told_behind ++ told_by late)
    later =
        part_then three asking_for.done (linked k.asked.links) (linked new.links) asking_for.heard_behind (inputs_by late) asking_for.told_behind (told_by late) (asking_for.behind three)
        (part_run three k.asked k.later new k.ends k.of_later answers_asked (λ i h. apart_later i name asking sender k.link_first name_first (above link asking i k.asked k.later new k.ends (up_to_itself link asking k.asked k.asks.2.last) h)))

    waiting : Part three (linked k.awaits.links) asking_for.ready asking_for.heard_before asking_for.told_before
    waiting = asking_for.before three

    known : (x : SentDelivery) × (lookup (nat_eq name) (linked k.awaits.links).sends ≡ Some x)
    known = known_of (lookup (nat_eq name) (linked k.awaits.links).sends) (linked k.awaits.links) k.asks.0.1.1

    asked : Asked name asking sender message
    asked = record {
      before = before.steps;
      ready = sending.ready;
      begun = before.did;
      others_before = before.others;
      max = sending.max;
      sent = sending.done;
      sends = sending.calls;
      between = between.steps;
      known = linked k.awaits.links;
      goes = between.did;
      others_between = between.others;
      delivery = known.0;
      is_known = known.1;
      waiting = waiting.steps;
      asked = asking_for.ready;
      waits = waiting.did;
      others_waiting = waiting.others;
      limit = asking_for.max;
      awaited = asking_for.done;
      asks = asking_for.calls;
      later = later.steps;
      last = linked new.links;
      ends = later.did;
      others_later = later.others;
    }

    -- all that was heard, and told
    abbrev heard_parts : List (ℕ × LinkInput)
    heard_parts = (inputs_by early ++ sending.heard_before) ++ ((sending.heard_behind ++ inputs_by middle) ++ (asking_for.heard_before ++ (asking_for.heard_behind ++ inputs_by late)))

    abbrev told_parts : List NamedReply
    told_parts = (told_by early ++ sending.told_before) ++ ((sending.told_behind ++ told_by middle) ++ (asking_for.told_before ++ (asking_for.told_behind ++ told_by late)))

    heard_whole : inputs_by (deeds_by link old new sender message name asking k) ≡ heard_parts
    heard_whole =
        let a = k.asks.2.deeds in
        let b = k.sends.2.deeds in
        inputs_then late (a ++ (middle ++ (b ++ early)))
        ∙ (ap (λ (xs : List (ℕ × LinkInput)). xs ++ inputs_by late) (inputs_then a (middle ++ (b ++ early)) ∙ (ap (λ (xs : List (ℕ × LinkInput)). xs ++ inputs_by a) (inputs_then middle (b ++ early) ∙ ap (λ (xs : List (ℕ × LinkInput)). xs ++ inputs_by middle) (inputs_then b early))))
        ∙ (ap (λ (xs : List (ℕ × LinkInput)). (((inputs_by early ++ xs) ++ inputs_by middle) ++ inputs_by a) ++ inputs_by late) (sym sending.heard_all)
        ∙ (ap (λ (xs : List (ℕ × LinkInput)). (((inputs_by early ++ (sending.heard_before ++ sending.heard_behind)) ++ inputs_by middle) ++ xs) ++ inputs_by late) (sym asking_for.heard_all)
        ∙ regrouped (inputs_by early) sending.heard_before sending.heard_behind (inputs_by middle) asking_for.heard_before asking_for.heard_behind (inputs_by late))))

    told_whole : told_by (deeds_by link old new sender message name asking k) ≡ told_parts
    told_whole =
        let a = k.asks.2.deeds in
        let b = k.sends.2.deeds in
        told_then late (a ++ (middle ++ (b ++ early)))
        ∙ (ap (λ (xs : List NamedReply). xs ++ told_by late) (told_then a (middle ++ (b ++ early)) ∙ (ap (λ (xs : List NamedReply). xs ++ told_by a) (told_then middle (b ++ early) ∙ ap (λ (xs : List NamedReply). xs ++ told_by middle) (told_then b early))))
        ∙ (ap (λ (xs : List NamedReply). (((told_by early ++ xs) ++ told_by middle) ++ told_by a) ++ told_by late) (sym sending.told_all)
        ∙ (ap (λ (xs : List NamedReply). (((told_by early ++ (sending.told_before ++ sending.told_behind)) ++ told_by middle) ++ xs) ++ told_by late) (sym asking_for.told_all)
        ∙ regrouped (told_by early) sending.told_before sending.told_behind (told_by middle) asking_for.told_before asking_for.told_behind (told_by late))))

    all_heard : (i : ℕ × LinkInput) → IsAmong i (heard_by name asking sender message asked) → IsAmong i (inputs_by (deeds_by link old new sender message name asking k))
    unfolding asked
    all_heard i h =
        let rest_steps = heard_in waiting.steps ++ heard_in later.steps in
        let rest_heard = asking_for.heard_before ++ (asking_for.heard_behind ++ inputs_by late) in
        let rest = among_both i i (heard_in waiting.steps) (heard_in later.steps) asking_for.heard_before (asking_for.heard_behind ++ inputs_by late) (waiting.hears i) (later.hears i) in
        let more = among_both i i (heard_in between.steps) rest_steps (sending.heard_behind ++ inputs_by middle) rest_heard (between.hears i) rest in
        subst (λ (xs : List (ℕ × LinkInput)). IsAmong i xs) (sym heard_whole)
        (among_both i i (heard_in before.steps) (heard_in between.steps ++ rest_steps) (inputs_by early ++ sending.heard_before) ((sending.heard_behind ++ inputs_by middle) ++ rest_heard) (before.hears i) more h)

    abbrev answer_is : NamedReply
    answer_is = record { name = asking; reply = answer.Link (reply.Outcome outcome) }

    abbrev outcome_is : NamedLinkReply
    outcome_is = record { name = asking; reply = reply.Outcome outcome }

    all_told : IsAmong answer_is (told_by (deeds_by link old new sender message name asking k)) → IsAmong outcome_is (answers_of name asking sender message asked)
    unfolding asked
    all_told h =
        let told_before = told_in (no_links false) before.steps sending.ready before.did in
        let told_between = told_in sending.done between.steps (linked k.awaits.links) between.did in
        let told_waiting = told_in (linked k.awaits.links) waiting.steps asking_for.ready waiting.did in
        let told_later = told_in asking_for.done later.steps (linked new.links) later.did in
        let rest_told = asking_for.told_before ++ (asking_for.told_behind ++ told_by late) in
        let r = reply.Outcome outcome in
        let rest = among_both answer_is outcome_is asking_for.told_before (asking_for.told_behind ++ told_by late) told_waiting told_later (waiting.tells asking r) (later.tells asking r) in
        let more = among_both answer_is outcome_is (sending.told_behind ++ told_by middle) rest_told told_between (told_waiting ++ told_later) (between.tells asking r) rest in
        among_both answer_is outcome_is (told_by early ++ sending.told_before) ((sending.told_behind ++ told_by middle) ++ rest_told) told_before (told_between ++ (told_waiting ++ told_later)) (before.tells asking r) more
        (subst (λ (xs : List NamedReply). IsAmong answer_is xs) told_whole h)

    pub told_of_message : IsAmong answer_is (told_by (deeds_by link old new sender message name asking k)) → IsRuledIn (inputs_by (deeds_by link old new sender message name asking k)) sender message name outcome
    unfolding asked
    told_of_message h = record {
      max = sending.max;
      ready = sending.ready;
      sent = sending.done;
      sends = sending.calls;
      ruled = ruled_more (heard_by name asking sender message asked) (inputs_by (deeds_by link old new sender message name asking k)) (link_of sender sending.ready) message outcome all_heard (links_tell_outcomes name asking sender message outcome asked (all_told h));
    }

pub runs_tell_outcomes : {L : Type 0} (link : Ghosts L) → RunsTellOutcomes link
runs_tell_outcomes link old new sender message name asking outcome k sessions links h =
    told_of_message link old new sender message name asking outcome k sessions links h
