-- What the links of a session share stands for, step by step.
use Rattle.std.specs.Prelude.{◌≡◌, ℕ, nat_eq, Bool, true, false, All, Contains, List, [], ◌∷◌, ◌++◌, Option, Some, None, Result, Ok, Err, if◌then◌else◌, refl}
use Rattle.std.proofs.Common.{sym, ◌∙◌, subst}
use Rattle.std.proofs.lemmas.List.Elements.{All-nil, All-tail, All-push}
use Rattle.std.specs.Map.{lookup}
use Rattle.std.specs.Str.{bytes_eq}
use Rattle.amqp_composites.specs.declared.modes.Role.{Role}
use Rattle.amqp_composites.specs.declared.modes.Role.TheVariants as role
use Rattle.amqp_frames.specs.declared.shared.SessionStopReason.{SessionStopReason}
use Rattle.amqp_link_tables.specs.declared.deliveries.Delivered.{Delivered}
use Rattle.amqp_link_tables.specs.declared.error.AllocLinkError.{AllocLinkError}
use Rattle.amqp_link_tables.specs.declared.error.AllocLinkError.TheVariants as full
use Rattle.amqp_link_tables.specs.declared.handles.Held.{Held}
use Rattle.amqp_link_tables.specs.Calls as table
use Rattle.amqp_link_tables.specs.Deliveries as deliveries
use Rattle.amqp_link_tables.specs.State.{State as Table}
use Rattle.amqp_link_words.specs.declared.link_call.LinkCall.TheVariants as call
use Rattle.amqp_links.specs.Inputs.{handle_of}
use Rattle.amqp_performatives.specs.declared.attach.Attach.{Attach}
use Rattle.amqp_session.specs.declared.session.LeftDelivery.{LeftDelivery}
use Rattle.amqp_session.specs.declared.session.LinkInput.{LinkInput}
use Rattle.amqp_session.specs.declared.session.LinkInput.TheVariants as input
use Rattle.amqp_session_links.specs.declared.place.WaitingAccept.{WaitingAccept}
use Rattle.amqp_session_links.specs.Claims.{is_at, claimed_by, claimed_up_to, claimed_unless, claiming, reclaimed_by, reclaimed_up_to, reclaiming, released, joined, parted, spending}
use Rattle.amqp_session_links.specs.Incoming.{attach_pushed, rest_of, attach_taken, kept_at, kept, early_taken, early_put}
use Rattle.amqp_session_links.specs.Numbers as numbers
use Rattle.amqp_session_links.specs.State.{State as Place, none_attached, awaiting_answer, attach_ended, awaiting_attach, accept_taken, stopped}
use Rattle.link_answers.specs.Standing.{Given, IsCallFor, AreAmong}
use Rattle.link_answers.specs.Keeping.{HasAsked, Leads, IsEarly, PlaceStands}
use Rattle.link_answers.proofs.Entries.{all_inserted, all_gone, all_found, all_set, name_inserted}
use Rattle.link_answers.proofs.Joining.{among_push}

-- what a step of a session's links makes of what they share, where nothing of that is a frame or a link
pub data PlaceStep : Type 0 where
  ends_attach : PlaceStep
  awaits_answer : ℕ → PlaceStep
  spends : List ℕ → PlaceStep
  releases : ℕ → ℕ → PlaceStep
  parts : ℕ → PlaceStep
  begins : ℕ → Delivered → PlaceStep
  forgets : Role → ℕ → PlaceStep
  leaves : LeftDelivery → PlaceStep
  stops : SessionStopReason → PlaceStep
  takes_attach : PlaceStep
  takes_accept : PlaceStep
  takes_early : ℕ → PlaceStep

abbrev pub on_place : PlaceStep → Place → Place
on_place ends_attach p = attach_ended p
on_place (awaits_answer link) p = awaiting_answer link p
on_place (spends name) p = spending name p
on_place (releases handle link) p = released handle link p
on_place (parts remote) p = parted remote p
on_place (begins number x) p = numbers.begun number x p
on_place (forgets teller number) p = numbers.forgotten teller number p
on_place (leaves x) p = numbers.entered x p
on_place (stops why) p = stopped why p
on_place takes_attach p = attach_taken p
on_place takes_accept p = accept_taken p
on_place (takes_early remote) p = early_taken remote p

module _ (g : Given) (session : ℕ) where
  abbrev Named : Role → List ℕ × ℕ → Type 0
  Named r e = HasAsked g e.1 (IsCallFor session e.0 r)

  abbrev Led : ℕ × ℕ → Type 0
  Led e = Leads g session e.0 e.1

  abbrev Early : ℕ × List LinkInput → Type 0
  Early e = AreAmong (IsEarly session e.0) e.1 g.read

  -- the tables of names and of the peer's handles stand
  record TableStands (t : Table) : Type 0 where
    senders : All (Named role.Sender) t.senders
    receivers : All (Named role.Receiver) t.receivers
    remotes : All Led t.remotes

  table_of : (p : Place) → PlaceStands g session p → TableStands p.table
  table_of p k = record { senders = k.senders; receivers = k.receivers; remotes = k.remotes }

  -- the table alone changes
  with_table : (p q : Place) → q.attaches ≡ p.attaches → q.early ≡ p.early → q.accepting ≡ p.accepting → TableStands q.table → PlaceStands g session p → PlaceStands g session q
  with_table p q a e w t k = record {
    senders = t.senders;
    receivers = t.receivers;
    remotes = t.remotes;
    attaches = subst (All (λ (x : Attach). Contains g.read (session, input.Attach x))) (sym a) k.attaches;
    early = subst (All Early) (sym e) k.early;
    accepting = λ x h. k.accepting x (sym w ∙ h);
  }

  place_as : (p q : Place) → q.table ≡ p.table → q.attaches ≡ p.attaches → q.early ≡ p.early → q.accepting ≡ p.accepting → PlaceStands g session p → PlaceStands g session q
  place_as p q t a e w k = with_table p q a e w (subst TableStands (sym t) (table_of p k)) k

  -- ---- names and handles

  named_stands : (r : Role) (name : List ℕ) (link : ℕ) (t : Table) → Named r (name, link) → TableStands t → TableStands (table.named name r link t)
  named_stands role.Sender name link t h k = record { senders = name_inserted (Named role.Sender) name link t.senders h k.senders; receivers = k.receivers; remotes = k.remotes }
  named_stands role.Receiver name link t h k = record { senders = k.senders; receivers = name_inserted (Named role.Receiver) name link t.receivers h k.receivers; remotes = k.remotes }

  unnamed_stands : (r : Role) (name : List ℕ) (t : Table) → TableStands t → TableStands (table.unnamed name r t)
  unnamed_stands role.Sender name t k = record { senders = all_gone (Named role.Sender) (bytes_eq name) t.senders k.senders; receivers = k.receivers; remotes = k.remotes }
  unnamed_stands role.Receiver name t k = record { senders = k.senders; receivers = all_gone (Named role.Receiver) (bytes_eq name) t.receivers k.receivers; remotes = k.remotes }

  handles_stand : (hs : List (ℕ × Held)) (t : Table) → TableStands t → TableStands (record t { handles = hs })
  handles_stand hs t k = record { senders = k.senders; receivers = k.receivers; remotes = k.remotes }

  attached_stands : (handle : ℕ) (name : List ℕ) (r : Role) (link : ℕ) (t : Table) → Named r (name, link) → TableStands t → TableStands (table.attached handle name r link t)
  attached_stands handle name r link t h k = named_stands r name link _ h (handles_stand _ t k)

  released_at_stands : (o : Option Held) (handle : ℕ) (t : Table) → TableStands t → TableStands (table.released_at o handle t)
  released_at_stands None handle t k = k
  released_at_stands (Some held) handle t k = unnamed_stands held.role held.name _ (handles_stand _ t k)

  released_if : (c : Bool) (handle : ℕ) (p : Place) → PlaceStands g session p → PlaceStands g session (if c then record p { table = table.released handle p.table } else p)
  released_if true handle p k = with_table p _ refl refl refl (released_at_stands (lookup (nat_eq handle) p.table.handles) handle p.table (table_of p k)) k
  released_if false handle p k = k

  either : (c : Bool) (p q : Place) → PlaceStands g session p → PlaceStands g session q → PlaceStands g session (if c then p else q)
  either true p q a e = a
  either false p q a e = e

  entered_by : (o : Option ℕ) (x : LeftDelivery) (p : Place) → PlaceStands g session p → PlaceStands g session (numbers.entered_at o x p)
  entered_by None x p k = k
  entered_by (Some link) x p k =
      let d : Delivered = record { link = link; tag = x.delivery_tag } in
      either x.settled p (record p { outgoing = deliveries.entered x.delivery_id d p.outgoing }) k (place_as p _ refl refl refl refl k)

  forgotten_by : (r : Role) (number : ℕ) (p : Place) → PlaceStands g session p → PlaceStands g session (numbers.forgotten r number p)
  forgotten_by role.Receiver number p k = place_as p _ refl refl refl refl k
  forgotten_by role.Sender number p k = place_as p _ refl refl refl refl k

  rest_stands : (xs : List Attach) → All (λ (x : Attach). Contains g.read (session, input.Attach x)) xs → All (λ (x : Attach). Contains g.read (session, input.Attach x)) (rest_of xs)
  rest_stands [] k = k
  rest_stands (x ∷ xs) k = All-tail (λ (y : Attach). Contains g.read (session, input.Attach y)) x xs k

  pub step_stands : (x : PlaceStep) (p : Place) → PlaceStands g session p → PlaceStands g session (on_place x p)
  step_stands ends_attach p k = place_as p _ refl refl refl refl k
  step_stands (awaits_answer link) p k = place_as p _ refl refl refl refl k
  step_stands (spends name) p k = with_table p _ refl refl refl (record { senders = k.senders; receivers = k.receivers; remotes = k.remotes }) k
  step_stands (releases handle link) p k = released_if (is_at (table.link_at handle p.table) link) handle p k
  step_stands (parts remote) p k = with_table p _ refl refl refl (record { senders = k.senders; receivers = k.receivers; remotes = all_gone Led (nat_eq remote) p.table.remotes k.remotes }) k
  step_stands (begins number x) p k = place_as p _ refl refl refl refl k
  step_stands (forgets teller number) p k = forgotten_by teller number p k
  step_stands (leaves x) p k = entered_by (table.link_at x.handle p.table) x p k
  step_stands (stops why) p k = place_as p _ refl refl refl refl k
  step_stands takes_attach p k = record { senders = k.senders; receivers = k.receivers; remotes = k.remotes; attaches = rest_stands p.attaches k.attaches; early = k.early; accepting = k.accepting }
  step_stands takes_accept p k = record { senders = k.senders; receivers = k.receivers; remotes = k.remotes; attaches = k.attaches; early = k.early; accepting = λ a h. absurd cc }
  step_stands (takes_early remote) p k = record { senders = k.senders; receivers = k.receivers; remotes = k.remotes; attaches = k.attaches; early = all_gone Early (nat_eq remote) p.early k.early; accepting = k.accepting }

  -- ---- a link gets a handle

  claimed_as : (r : Result ℕ AllocLinkError) (max : ℕ) (name : List ℕ) (who : Role) (link : ℕ) (p : Place) → Named who (name, link) → PlaceStands g session p → PlaceStands g session (claimed_by r max name who link p).state
  claimed_as (Ok handle) max name who link p h k = with_table p _ refl refl refl (attached_stands handle name who link p.table h (table_of p k)) k
  claimed_as (Err (full.Memory a)) max name who link p h k = k
  claimed_as (Err full.DuplicatedLinkName) max name who link p h k = k
  claimed_as (Err full.HandleMaxReached) max name who link p h k = k

  claimed_to : (max : Option ℕ) (name : List ℕ) (who : Role) (link : ℕ) (p : Place) → Named who (name, link) → PlaceStands g session p → PlaceStands g session (claimed_up_to max name who link p).state
  claimed_to None name who link p h k = k
  claimed_to (Some max) name who link p h k = claimed_as (table.allocation name who max p.table) max name who link p h k

  unless_stands : (stop : Option SessionStopReason) (max : Option ℕ) (name : List ℕ) (who : Role) (link : ℕ) (p : Place) → Named who (name, link) → PlaceStands g session p → PlaceStands g session (claimed_unless stop max name who link p).state
  unless_stands (Some why) max name who link p h k = k
  unless_stands None max name who link p h k = claimed_to max name who link p h k

  pub claims_stand : (name : List ℕ) (who : Role) (link : ℕ) (max : Option ℕ) (p : Place) → HasAsked g link (IsCallFor session name who) → PlaceStands g session p → PlaceStands g session (claiming name who link max p).state
  claims_stand name who link max p h k = unless_stands p.stop_reason max name who link p h k

  reclaimed_as : (r : Result ℕ AllocLinkError) (name : List ℕ) (who : Role) (link : ℕ) (p : Place) → Named who (name, link) → PlaceStands g session p → PlaceStands g session (reclaimed_by r name who link p).state
  reclaimed_as (Ok handle) name who link p h k = with_table p _ refl refl refl (attached_stands handle name who link p.table h (table_of p k)) k
  reclaimed_as (Err (full.Memory a)) name who link p h k = k
  reclaimed_as (Err full.DuplicatedLinkName) name who link p h k = k
  reclaimed_as (Err full.HandleMaxReached) name who link p h k = k

  reclaimed_to : (max : Option ℕ) (name : List ℕ) (who : Role) (link : ℕ) (p : Place) → Named who (name, link) → PlaceStands g session p → PlaceStands g session (reclaimed_up_to max name who link p).state
  reclaimed_to None name who link p h k = k
  reclaimed_to (Some max) name who link p h k = reclaimed_as (table.allocation name who max p.table) name who link p h k

  pub reclaims_stand : (name : List ℕ) (who : Role) (link : ℕ) (p : Place) → HasAsked g link (IsCallFor session name who) → PlaceStands g session p → PlaceStands g session (reclaiming name who link p).state
  reclaims_stand name who link p h k = reclaimed_to p.handle_max name who link p h k

  -- ---- what comes of the peer

  pub joins_stand : (remote link : ℕ) (p : Place) → Leads g session remote link → PlaceStands g session p → PlaceStands g session (joined remote link p)
  joins_stand remote link p h k = with_table p _ refl refl refl (record { senders = k.senders; receivers = k.receivers; remotes = all_inserted Led remote link p.table.remotes h k.remotes }) k

  pub pushes_stand : (x : Attach) (p : Place) → Contains g.read (session, input.Attach x) → PlaceStands g session p → PlaceStands g session (attach_pushed x p)
  pushes_stand x p h k = record {
    senders = k.senders;
    receivers = k.receivers;
    remotes = k.remotes;
    attaches = All-push (λ (y : Attach). Contains g.read (session, input.Attach y)) p.attaches x k.attaches h;
    early = k.early;
    accepting = k.accepting;
  }

  with_early : (p q : Place) → q.table ≡ p.table → q.attaches ≡ p.attaches → q.accepting ≡ p.accepting → All Early q.early → PlaceStands g session p → PlaceStands g session q
  with_early p q t a w e k =
      let j : PlaceStands g session (record p { early = q.early }) = record { senders = k.senders; receivers = k.receivers; remotes = k.remotes; attaches = k.attaches; early = e; accepting = k.accepting } in
      place_as (record p { early = q.early }) q t a refl w j

  -- what was read last is early
  module _ (remote : ℕ) (x : LinkInput) (read : List (ℕ × LinkInput)) (all : read ++ (session, x) ∷ [] ≡ g.read) (on : handle_of x ≡ Some remote) where
    pushed : (xs : List LinkInput) → AreAmong (IsEarly session remote) xs read → AreAmong (IsEarly session remote) (xs ++ x ∷ []) g.read
    pushed xs h = subst (AreAmong (IsEarly session remote) (xs ++ x ∷ [])) all (among_push (IsEarly session remote) xs read x (session, x) h (refl, on))

    kept_by : (o : Option (List LinkInput)) (p : Place) → lookup (nat_eq remote) p.early ≡ o → All (λ (e : ℕ × List LinkInput). AreAmong (IsEarly session e.0) e.1 read) p.early → PlaceStands g session p → PlaceStands g session (kept_at o remote x p)
    kept_by None p e h k = with_early p _ refl refl refl (all_inserted Early remote (x ∷ []) p.early (pushed [] tt) k.early) k
    kept_by (Some xs) p e h k =
        with_early p _ refl refl refl (all_set Early remote (xs ++ x ∷ []) p.early (pushed xs (all_found (λ (i : ℕ × List LinkInput). AreAmong (IsEarly session i.0) i.1 read) remote xs p.early e h)) k.early) k

    pub keeps_stand : (p : Place) → All (λ (e : ℕ × List LinkInput). AreAmong (IsEarly session e.0) e.1 read) p.early → PlaceStands g session p → PlaceStands g session (kept remote x p)
    keeps_stand p h k = kept_by (lookup (nat_eq remote) p.early) p refl h k

  pub puts_stand : (remote : ℕ) (xs : List LinkInput) (p : Place) → AreAmong (IsEarly session remote) xs g.read → PlaceStands g session p → PlaceStands g session (early_put remote xs p)
  puts_stand remote [] p h k = k
  puts_stand remote (x ∷ xs) p h k = with_early p _ refl refl refl (all_inserted Early remote (x ∷ xs) p.early h k.early) k

  some_accept : (a c : WaitingAccept) → Some a ≡ Some c → a ≡ c
  some_accept a c h = cc

  pub awaits_stand : (a : WaitingAccept) (p : Place) → Contains g.asked (a.name, call.Accept session a.settings a.credit_mode a.auto_accept) → PlaceStands g session p → PlaceStands g session (awaiting_attach a p)
  awaits_stand a p h k = record {
    senders = k.senders;
    receivers = k.receivers;
    remotes = k.remotes;
    attaches = k.attaches;
    early = k.early;
    accepting = λ c e. subst (λ (x : WaitingAccept). Contains g.asked (x.name, call.Accept session x.settings x.credit_mode x.auto_accept)) (some_accept a c e) h;
  }

  pub none_stands : PlaceStands g session none_attached
  none_stands = record {
    senders = All-nil (Named role.Sender);
    receivers = All-nil (Named role.Receiver);
    remotes = All-nil Led;
    attaches = All-nil (λ (x : Attach). Contains g.read (session, input.Attach x));
    early = All-nil Early;
    accepting = λ a h. absurd cc;
  }
