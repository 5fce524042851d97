-- What the links of an end stand for, step by step.
use Rattle.std.specs.Prelude.{◌≡◌, ℕ, nat_eq, Bool, true, false, cond, All, Contains, List, [], ◌∷◌, ◌++◌, map, Option, Some, None, refl}
use Rattle.std.proofs.Common.{sym, ◌∙◌, ap, subst, append_assoc, eq-eqb}
use Rattle.std.proofs.lemmas.Bool.{eqb-true}
use Rattle.std.proofs.lemmas.List.{append-nil, map-append}
use Rattle.std.proofs.lemmas.List.Elements.{All-nil, All-append, All-head, Contains-append_left}
use Rattle.std.specs.Map.{values_of, lookup, set_value}
use Rattle.indexmap.specs.IndexMap.{insert_entry}
use Rattle.amqp_composites.specs.declared.modes.Role.{Role}
use Rattle.amqp_composites.specs.declared.modes.Role.TheVariants as role
use Rattle.amqp_frames.specs.declared.body.FrameBody.{FrameBody}
use Rattle.amqp_link_calls.specs.Answering.{answers_taken}
use Rattle.amqp_link_calls.specs.Called.{Called, with_side}
use Rattle.amqp_link_calls.specs.Side.{Side, Sender, Receiver}
use Rattle.amqp_link_tables.specs.Calls.{link_named}
use Rattle.amqp_link_words.specs.declared.link_call.LinkCall.TheVariants as call
use Rattle.amqp_link_words.specs.declared.link_reply.LinkReply.{LinkReply}
use Rattle.amqp_link_words.specs.declared.link_reply.NamedLinkReply.{NamedLinkReply}
use Rattle.amqp_links.specs.declared.timed.TimedCall.{TimedCall}
use Rattle.amqp_links.specs.Accepting.{first_at, first_attach, early_at, accept_of}
use Rattle.amqp_links.specs.Attaching.{standing}
use Rattle.amqp_links.specs.Hearing.{other_role, link_from_at, answered_at}
use Rattle.amqp_links.specs.Inputs.{handle_of}
use Rattle.amqp_links.specs.Parts.{Told, Frame, Astray, output_of, emptied}
use Rattle.amqp_links.specs.State.{State, place_of, link_of, with_link, stepped, at_place, entered_at, entered, answering, answering_all}
use Rattle.amqp_links.specs.Timing.{waiting_as, waiting_no_more, send_kept}
use Rattle.amqp_performatives.specs.declared.attach.Attach.{Attach}
use Rattle.amqp_sender.specs.declared.sender.DeliveryToken.{DeliveryToken}
use Rattle.amqp_session.specs.declared.session.LinkInput.{LinkInput}
use Rattle.amqp_session.specs.declared.session.LinkInput.TheVariants as input
use Rattle.amqp_session_links.specs.declared.place.WaitingAccept.{WaitingAccept}
use Rattle.amqp_session_links.specs.Incoming.{first_of, inputs_in}
use Rattle.amqp_session_links.specs.State.{State as Place, none_attached}
use Rattle.link_lives.proofs.Tables.{set_at, insert_here, insert_other}
use Rattle.link_answers.specs.Standing.{Given, Written, IsCallFor, IsSendOver, IsAnswered, AreAmong, Stands, AllStand}
use Rattle.link_answers.specs.Keeping.{HasAsked, CalledStands, Leads, IsEarly, PlaceStands, SentStands, TimedStands, StateStands, frame_in, frames_in}
use Rattle.link_answers.proofs.Answers.{answers_wider, one_more}
use Rattle.link_answers.proofs.Called.{Stays, Goes, called_wider}
use Rattle.link_answers.proofs.Calls.{Tells}
use Rattle.link_answers.proofs.Entries.{all_found, all_inserted, all_gone, name_found}
use Rattle.link_answers.proofs.Links.{under, under_both, Wider, wider_more}
use Rattle.link_answers.proofs.Places.{none_stands}
use Rattle.link_answers.proofs.Waits.{Reaches}

-- ---- tables

set_each : {X : Type 0} (P : ℕ → X → Type 0) (k : ℕ) (es : List (ℕ × X)) (v w : X) → lookup (nat_eq k) es ≡ Some v → P k w → ((n : ℕ) (x : X) → lookup (nat_eq n) es ≡ Some x → P n x)
    → (n : ℕ) (x : X) → lookup (nat_eq n) (set_value (nat_eq k) es w) ≡ Some x → P n x
set_each {X} P k es v w at here old n x h = by (nat_eq k n) refl (sym (set_at k n es v w at) ∙ h)
  where
    by : (c : Bool) → nat_eq k n ≡ c → cond (nat_eq k n) (Some w) (lookup (nat_eq n) es) ≡ Some x → P n x
    by true e f =
        let g : Some w ≡ Some x = ap (λ (c : Bool). cond c (Some w) (lookup (nat_eq n) es)) (sym e) ∙ f in
        let s : w ≡ x = cc in
        subst (λ (m : ℕ). P m x) (eqb-true k n e) (subst (λ (y : X). P k y) s here)
    by false e f = old n x (ap (λ (c : Bool). cond c (Some w) (lookup (nat_eq n) es)) (sym e) ∙ f)

pub insert_each : {X : Type 0} (P : ℕ → X → Type 0) (k : ℕ) (es : List (ℕ × X)) (w : X) → P k w → ((n : ℕ) (x : X) → lookup (nat_eq n) es ≡ Some x → P n x)
    → (n : ℕ) (x : X) → lookup (nat_eq n) (insert_entry nat_eq es k w) ≡ Some x → P n x
insert_each {X} P k es w here old n x h = by (nat_eq k n) refl
  where
    by : (c : Bool) → nat_eq k n ≡ c → P n x
    by true e =
        let g : Some w ≡ Some x = sym (insert_here k n w es e) ∙ h in
        let s : w ≡ x = cc in
        subst (λ (m : ℕ). P m x) (eqb-true k n e) (subst (λ (y : X). P k y) s here)
    by false e = old n x (sym (insert_other k n w es e) ∙ h)

-- ---- what a link is still to put out

abbrev pub said_by : ℕ → Option Called → List Written
said_by n None = []
said_by n (Some l) = under n l.session (output_of l)

-- of the one link that may have something to say
abbrev pub promised : Option ℕ → State → List Written
promised None s = []
promised (Some n) s = said_by n (link_of n s)

-- the frames that went to their sessions, and what the links had put out at some moment
pub record Before : Type 0 where
  pub frames : List (ℕ × FrameBody)
  pub written : List Written

-- The links stand for what they have put out since, with what one of them is still to.
pub record Stand (g : Given) (gave : Before) (o : Option ℕ) (s : State) : Type 0 where
  pub written : List Written
  pub more : List Written
  pub begins : written ≡ gave.written ++ more
  pub output : gave.frames ++ frames_in s.output ≡ values_of written
  pub stands : StateStands g (written ++ promised o s) s

frames_both : (xs ys : List Told) → frames_in (xs ++ ys) ≡ frames_in xs ++ frames_in ys
frames_both [] ys = refl
frames_both (x ∷ xs) ys = ap (λ (zs : List (ℕ × FrameBody)). frame_in x ++ zs) (frames_both xs ys) ∙ sym (append_assoc (frame_in x) (frames_in xs) (frames_in ys))

frames_under : (n session : ℕ) (xs : List FrameBody) → frames_in (map (Frame session) xs) ≡ values_of (under n session xs)
frames_under n session [] = refl
frames_under n session (x ∷ xs) = ap (λ (zs : List (ℕ × FrameBody)). (session, x) ∷ zs) (frames_under n session xs)

values_both : (xs ys : List Written) → values_of (xs ++ ys) ≡ values_of xs ++ values_of ys
values_both xs ys = map-append (λ (e : Written). e.1) xs ys

module _ (g : Given) where
  pub state_wider : (w v : List Written) (s : State) → Wider w v → StateStands g w s → StateStands g v s
  state_wider w v s f k = record {
    places = k.places;
    links = λ n l e. called_wider g n w v l f (k.links n l e);
    sends = k.sends;
    timed = k.timed;
    replies = answers_wider g w v s.replies f k.replies;
  }

  -- ---- what is known of the peer's frames

  led_by : (o : Option Place) (session remote n : ℕ) → ((p : Place) → o ≡ Some p → PlaceStands g session p) → link_from_at remote o ≡ Some n → Leads g session remote n
  led_by None session remote n h e = absurd cc
  led_by (Some p) session remote n h e = (let k = h p refl in all_found (λ (x : ℕ × ℕ). Leads g session x.0 x.1) remote n p.table.remotes e k.remotes)

  named_as : (r : Role) (session : ℕ) (name : List ℕ) (n : ℕ) (p : Place) → PlaceStands g session p → link_named name r p.table ≡ Some n → HasAsked g n (IsCallFor session name r)
  named_as role.Sender session name n p k e = name_found (λ (x : List ℕ × ℕ). HasAsked g x.1 (IsCallFor session x.0 role.Sender)) name n p.table.senders e k.senders
  named_as role.Receiver session name n p k e = name_found (λ (x : List ℕ × ℕ). HasAsked g x.1 (IsCallFor session x.0 role.Receiver)) name n p.table.receivers e k.receivers

  asked_by : (o : Option Place) (session n : ℕ) (x : Attach) → ((p : Place) → o ≡ Some p → PlaceStands g session p) → answered_at x o ≡ Some n → HasAsked g n (IsCallFor session x.name (other_role x.role))
  asked_by None session n x h e = absurd cc
  asked_by (Some p) session n x h e = named_as (other_role x.role) session x.name n p (h p refl) e

  first_by : (xs : List Attach) (session : ℕ) (x : Attach) → All (λ (y : Attach). Contains g.read (session, input.Attach y)) xs → first_of xs ≡ Some x → Contains g.read (session, input.Attach x)
  first_by [] session x k e = absurd cc
  first_by (y ∷ ys) session x k e =
      let s : y ≡ x = cc in subst (λ (z : Attach). Contains g.read (session, input.Attach z)) s (All-head (λ (z : Attach). Contains g.read (session, input.Attach z)) y ys k)

  first_in : (o : Option Place) (session : ℕ) (x : Attach) → ((p : Place) → o ≡ Some p → PlaceStands g session p) → first_at o ≡ Some x → Contains g.read (session, input.Attach x)
  first_in None session x h e = absurd cc
  first_in (Some p) session x h e = (let k = h p refl in first_by p.attaches session x k.attaches e)

  inputs_by : (o : Option (List LinkInput)) (session remote : ℕ) (p : Place) → lookup (nat_eq remote) p.early ≡ o → PlaceStands g session p → AreAmong (IsEarly session remote) (inputs_in o) g.read
  inputs_by None session remote p e k = tt
  inputs_by (Some xs) session remote p e k = all_found (λ (y : ℕ × List LinkInput). AreAmong (IsEarly session y.0) y.1 g.read) remote xs p.early e k.early

  early_in : (o : Option Place) (session remote : ℕ) → ((p : Place) → o ≡ Some p → PlaceStands g session p) → AreAmong (IsEarly session remote) (early_at remote o) g.read
  early_in None session remote h = tt
  early_in (Some p) session remote h = inputs_by (lookup (nat_eq remote) p.early) session remote p refl (h p refl)

  accepts_in : (o : Option Place) (session : ℕ) (a : WaitingAccept) → ((p : Place) → o ≡ Some p → PlaceStands g session p) → accept_of o ≡ Some a → Contains g.asked (a.name, call.Accept session a.settings a.credit_mode a.auto_accept)
  accepts_in None session a h e = absurd cc
  accepts_in (Some p) session a h e = (let k = h p refl in k.accepting a e)

  -- an Attach that is for a link
  pub is_answered : (session n : ℕ) (x : Attach) → HasAsked g n (IsCallFor session x.name (other_role x.role)) → Contains g.read (session, input.Attach x) → IsAnswered g n
  is_answered session n x h read = record { call = h.0; asked = h.1.1; session = session; attach = x; is_for = h.1.0; read = read }

  -- a frame on a handle that leads to a link is for that
  pub reaches : (session remote n : ℕ) (x : LinkInput) → Leads g session remote n → Contains g.read (session, x) → handle_of x ≡ Some remote → Reaches g n session x
  reaches session remote n (input.Detach d) k r h =
      let same : Some d.handle ≡ Some remote = h in
      let handle : d.handle ≡ remote = cc in
      record {
        answered = k.answered;
        detach = d;
        is_so = refl;
        handle = handle ∙ sym k.has;
        read = subst (λ (i : ℕ). Contains g.read (i, input.Detach d)) (sym k.on_session) r;
      }
  reaches session remote n (input.Transfer x payload) k r h =
      let same : Some x.handle ≡ Some remote = h in
      let handle : x.handle ≡ remote = cc in
      record { answered = k.answered; handle = handle ∙ sym k.has; same = ap (λ (i : ℕ). (i, input.Transfer x payload)) (sym k.on_session) }
  reaches session remote n other k r h = tt

  module _ (gave : Before) where
    pub leads_for : (o : Option ℕ) (session remote n : ℕ) (s : State) → Stand g gave o s → link_from_at remote (place_of session s) ≡ Some n → Leads g session remote n
    leads_for o session remote n s k e = led_by (place_of session s) session remote n (k.stands.places session) e

    pub asked_for : (o : Option ℕ) (session n : ℕ) (x : Attach) (s : State) → Stand g gave o s → answered_at x (place_of session s) ≡ Some n → HasAsked g n (IsCallFor session x.name (other_role x.role))
    asked_for o session n x s k e = asked_by (place_of session s) session n x (k.stands.places session) e

    pub first_read : (o : Option ℕ) (session : ℕ) (x : Attach) (s : State) → Stand g gave o s → first_attach session s ≡ Some x → Contains g.read (session, input.Attach x)
    first_read o session x s k e = first_in (place_of session s) session x (k.stands.places session) e

    pub early_read : (o : Option ℕ) (session remote : ℕ) (s : State) → Stand g gave o s → AreAmong (IsEarly session remote) (early_at remote (place_of session s)) g.read
    early_read o session remote s k = early_in (place_of session s) session remote (k.stands.places session)

    pub accepts_read : (o : Option ℕ) (session : ℕ) (a : WaitingAccept) (s : State) → Stand g gave o s → accept_of (place_of session s) ≡ Some a → Contains g.asked (a.name, call.Accept session a.settings a.credit_mode a.auto_accept)
    accepts_read o session a s k e = accepts_in (place_of session s) session a (k.stands.places session) e

    -- ---- links and their output are the same

    promised_same : (o : Option ℕ) (s t : State) → t.endpoints ≡ s.endpoints → promised o t ≡ promised o s
    promised_same None s t e = refl
    promised_same (Some n) s t e = ap (λ (es : List (ℕ × Called)). said_by n (lookup (nat_eq n) es)) e

    stand_as : (o : Option ℕ) (s t : State) → t.endpoints ≡ s.endpoints → t.output ≡ s.output → ((w : List Written) → StateStands g w s → StateStands g w t) → Stand g gave o s → Stand g gave o t
    stand_as o s t e out f k = record {
      written = k.written;
      more = k.more;
      begins = k.begins;
      output = ap (λ (xs : List Told). gave.frames ++ frames_in xs) out ∙ k.output;
      stands = subst (λ (v : List Written). StateStands g (k.written ++ v) t) (sym (promised_same o s t e)) (f (k.written ++ promised o s) k.stands);
    }

    pub answer_stand : (o : Option ℕ) (name : ℕ) (r : LinkReply) (s : State) → ((w : List Written) → StateStands g w s → Stands g w name r) → Stand g gave o s → Stand g gave o (answering name r s)
    answer_stand o name r s f k = stand_as o s (answering name r s) refl refl (λ w h. record { places = h.places; links = h.links; sends = h.sends; timed = h.timed; replies = one_more g w name r s.replies h.replies (f w h) }) k

    pub moment_stand : (o : Option ℕ) (at : ℕ) (s : State) → Stand g gave o s → Stand g gave o (record s { moment = at })
    moment_stand o at s k = stand_as o s _ refl refl (λ w h. record { places = h.places; links = h.links; sends = h.sends; timed = h.timed; replies = h.replies }) k

    pub others_stand : (o : Option ℕ) (s t : State) → t.sessions ≡ s.sessions → t.endpoints ≡ s.endpoints → t.sends ≡ s.sends → t.timed ≡ s.timed → t.output ≡ s.output → t.replies ≡ s.replies → Stand g gave o s → Stand g gave o t
    others_stand o s t a e c d out r k = stand_as o s t e out (λ w h. record {
      places = λ session p f. h.places session p (sym (ap (lookup (nat_eq session)) a) ∙ f);
      links = λ n l f. h.links n l (sym (ap (lookup (nat_eq n)) e) ∙ f);
      sends = subst (All (SentStands g)) (sym c) h.sends;
      timed = subst (All (TimedStands g)) (sym d) h.timed;
      replies = subst (AllStand g w) (sym r) h.replies;
    }) k

    pub timed_stand : (o : Option ℕ) (n : ℕ) (x : TimedCall) (s : State) → TimedStands g (n, x) → Stand g gave o s → Stand g gave o (waiting_as n x s)
    timed_stand o n x s t k = stand_as o s (waiting_as n x s) refl refl (λ w h. record { places = h.places; links = h.links; sends = h.sends; timed = all_inserted (TimedStands g) n x s.timed t h.timed; replies = h.replies }) k

    pub untimed_stand : (o : Option ℕ) (n : ℕ) (s : State) → Stand g gave o s → Stand g gave o (waiting_no_more n s)
    untimed_stand o n s k = stand_as o s (waiting_no_more n s) refl refl (λ w h. record { places = h.places; links = h.links; sends = h.sends; timed = all_gone (TimedStands g) (nat_eq n) s.timed h.timed; replies = h.replies }) k

    pub none_timed : (s : State) → Stand g gave None s → Stand g gave None (record s { timed = [] })
    none_timed s k = stand_as None s (record s { timed = [] }) refl refl (λ w h. record { places = h.places; links = h.links; sends = h.sends; timed = All-nil (TimedStands g); replies = h.replies }) k

    pub kept_stand : (o : Option ℕ) (name n : ℕ) (t : Option DeliveryToken) (s : State) → HasAsked g name (IsSendOver n) → Stand g gave o s → Stand g gave o (send_kept name n t s)
    kept_stand o name n None s a k = k
    kept_stand o name n (Some token) s a k =
        stand_as o s (send_kept name n (Some token) s) refl refl (λ w h. record { places = h.places; links = h.links; sends = all_inserted (SentStands g) name (record { link = n; token = token }) s.sends a h.sends; timed = h.timed; replies = h.replies }) k

    -- ---- what the links of a session share

    pub place_by : (o : Option ℕ) (q : Option Place) (session : ℕ) (f : Place → Place) (s : State) → place_of session s ≡ q → ((p : Place) → q ≡ Some p → PlaceStands g session p → PlaceStands g session (f p))
        → Stand g gave o s → Stand g gave o (stepped q session f s)
    place_by o None session f s e h k = k
    place_by o (Some p) session f s e h k = stand_as o s (stepped (Some p) session f s) refl refl (λ w j. record {
      places = set_each (PlaceStands g) session s.sessions p (f p) e (h p refl (j.places session p e)) j.places;
      links = j.links;
      sends = j.sends;
      timed = j.timed;
      replies = j.replies;
    }) k

    pub place_stand : (o : Option ℕ) (session : ℕ) (f : Place → Place) (s : State) → ((p : Place) → PlaceStands g session p → PlaceStands g session (f p)) → Stand g gave o s → Stand g gave o (at_place session f s)
    place_stand o session f s h k = place_by o (place_of session s) session f s refl (λ p e j. h p j) k

    entered_by : (o : Option ℕ) (q : Option Place) (session : ℕ) (s : State) → Stand g gave o s → Stand g gave o (entered_at q session s)
    entered_by o None session s k = stand_as o s (entered_at None session s) refl refl (λ w j. record {
      places = insert_each (PlaceStands g) session s.sessions none_attached (none_stands g session) j.places;
      links = j.links;
      sends = j.sends;
      timed = j.timed;
      replies = j.replies;
    }) k
    entered_by o (Some p) session s k = k

    pub entered_stand : (o : Option ℕ) (session : ℕ) (s : State) → Stand g gave o s → Stand g gave o (entered session s)
    entered_stand o session s k = entered_by o (place_of session s) session s k

    -- ---- one link goes on

    -- it may have something to say
    pub opens : (n : ℕ) (s : State) → Stand g gave None s → Stand g gave (Some n) s
    opens n s k = record {
      written = k.written;
      more = k.more;
      begins = k.begins;
      output = k.output;
      stands = state_wider (k.written ++ []) (k.written ++ promised (Some n) s) s (λ x h. Contains-append_left k.written (promised (Some n) s) x (subst (λ (v : List Written). Contains v x) (append-nil k.written) h)) k.stands;
    }

    -- a link that is not there has nothing to say
    pub shuts : (n : ℕ) (s : State) → link_of n s ≡ None → Stand g gave (Some n) s → Stand g gave None s
    shuts n s e k = record { written = k.written; more = k.more; begins = k.begins; output = k.output; stands = subst (λ (o : Option Called). StateStands g (k.written ++ said_by n o) s) e k.stands }

    here : (n : ℕ) (l m : Called) (s : State) → link_of n s ≡ Some l → link_of n (with_link n m s) ≡ Some m
    here n l m s at = set_at n n s.endpoints l m at ∙ ap (λ (c : Bool). cond c (Some m) (link_of n s)) (eq-eqb n n refl)

    -- one link is another
    linked : (w v : List Written) (n : ℕ) (l m : Called) (s : State) → link_of n s ≡ Some l → Wider w v → CalledStands g v n m → StateStands g w s → StateStands g v (with_link n m s)
    linked w v n l m s at f h k = record {
      places = k.places;
      links = set_each (CalledStands g v) n s.endpoints l m at h (λ i x e. called_wider g i w v x f (k.links i x e));
      sends = k.sends;
      timed = k.timed;
      replies = answers_wider g w v s.replies f k.replies;
    }

    -- what it is to say, with what it says
    says_more : (w : List Written) (n : ℕ) (l m : Called) (s : State) (a : Goes g n l m) → link_of n s ≡ Some l → (w ++ promised (Some n) s) ++ under n l.session a.more ≡ w ++ promised (Some n) (with_link n m s)
    says_more w n l m s a at =
        ap (λ (o : Option Called). (w ++ said_by n o) ++ under n l.session a.more) at
        ∙ (under_both n l.session w (output_of l) a.more
        ∙ (ap (λ (xs : List FrameBody). w ++ under n l.session xs) (sym a.output)
        ∙ (ap (λ (i : ℕ). w ++ under n i (output_of m)) (sym a.session) ∙ ap (λ (o : Option Called). w ++ said_by n o) (sym (here n l m s at)))))

    pub link_goes : (n : ℕ) (l m : Called) (s : State) → link_of n s ≡ Some l → Goes g n l m → Stand g gave (Some n) s → Stand g gave (Some n) (with_link n m s)
    link_goes n l m s at a k =
        let w : List Written = k.written ++ promised (Some n) s in
        let v : List Written = w ++ under n l.session a.more in
        record {
          written = k.written;
          more = k.more;
          begins = k.begins;
          output = k.output;
          stands = subst (λ (u : List Written). StateStands g u (with_link n m s)) (says_more k.written n l m s a at) (linked w v n l m s at (wider_more w (under n l.session a.more)) (a.stands w (k.stands.links n l at)) k.stands);
        }

    -- and a call on it is answered
    pub link_tells : (n : ℕ) (l m : Called) (name : ℕ) (r : LinkReply) (s : State) → link_of n s ≡ Some l → Tells g n l m name r → Stand g gave (Some n) s → Stand g gave (Some n) (answering name r (with_link n m s))
    link_tells n l m name r s at a k =
        let w : List Written = k.written ++ promised (Some n) s in
        let v : List Written = w ++ under n l.session a.goes.more in
        let t = with_link n m s in
        let j = linked w v n l m s at (wider_more w (under n l.session a.goes.more)) (a.goes.stands w (k.stands.links n l at)) k.stands in
        record {
          written = k.written;
          more = k.more;
          begins = k.begins;
          output = k.output;
          stands = subst (λ (u : List Written). StateStands g u (answering name r t)) (says_more k.written n l m s a.goes at)
              (record { places = j.places; links = j.links; sends = j.sends; timed = j.timed; replies = one_more g v name r s.replies j.replies (a.tells w (k.stands.links n l at)) });
        }

    -- it says nothing
    quiet_said : (i n : ℕ) (l m : Called) (s : State) → link_of n s ≡ Some l → m.session ≡ l.session → output_of m ≡ output_of l → said_by i (link_of i (with_link n m s)) ≡ said_by i (link_of i s)
    quiet_said i n l m s at e out = by (nat_eq n i) refl
      where
        by : (c : Bool) → nat_eq n i ≡ c → said_by i (link_of i (with_link n m s)) ≡ said_by i (link_of i s)
        by true h =
            let same : n ≡ i = eqb-true n i h in
            let old : link_of i s ≡ Some l = ap (λ (j : ℕ). link_of j s) (sym same) ∙ at in
            let new : link_of i (with_link n m s) ≡ Some m = set_at n i s.endpoints l m at ∙ ap (λ (c : Bool). cond c (Some m) (link_of i s)) h in
            ap (said_by i) new ∙ (ap (λ (xs : List FrameBody). under i m.session xs) out ∙ (ap (λ (j : ℕ). under i j (output_of l)) e ∙ sym (ap (said_by i) old)))
        by false h = ap (said_by i) (set_at n i s.endpoints l m at ∙ ap (λ (c : Bool). cond c (Some m) (link_of i s)) h)

    quiet_promised : (o : Option ℕ) (n : ℕ) (l m : Called) (s : State) → link_of n s ≡ Some l → m.session ≡ l.session → output_of m ≡ output_of l → promised o (with_link n m s) ≡ promised o s
    quiet_promised None n l m s at e out = refl
    quiet_promised (Some i) n l m s at e out = quiet_said i n l m s at e out

    pub link_stays : (o : Option ℕ) (n : ℕ) (l m : Called) (s : State) → link_of n s ≡ Some l → Stays g n l m → Stand g gave o s → Stand g gave o (with_link n m s)
    link_stays o n l m s at a k =
        let w : List Written = k.written ++ promised o s in
        record {
          written = k.written;
          more = k.more;
          begins = k.begins;
          output = k.output;
          stands = subst (λ (u : List Written). StateStands g (k.written ++ u) (with_link n m s)) (sym (quiet_promised o n l m s at a.session a.output)) (linked w w n l m s at (λ x h. h) (a.stands w (k.stands.links n l at)) k.stands);
        }

    -- its answers are told
    taken_stays : (n : ℕ) (m : Called) (w : List Written) → CalledStands g w n m → CalledStands g w n (answers_taken m)
    taken_stays n m w h = record { asked = h.asked; outcomes = h.outcomes; own = h.own; link = h.link; attaching = h.attaching; waiting = h.waiting; parting = h.parting; answers = All-nil (λ (r : NamedLinkReply). Stands g w r.name r.reply) }

    pub told_stand : (n : ℕ) (l m : Called) (s : State) → link_of n s ≡ Some l → Stays g n l m → Stand g gave None s → Stand g gave None (answering_all m.answers (with_link n (answers_taken m) s))
    told_stand n l m s at a k =
        let w : List Written = k.written ++ [] in
        let h = a.stands w (k.stands.links n l at) in
        let j = linked w w n l (answers_taken m) s at (λ x i. i) (taken_stays n m w h) k.stands in
        record {
          written = k.written;
          more = k.more;
          begins = k.begins;
          output = k.output;
          stands = record { places = j.places; links = j.links; sends = j.sends; timed = j.timed; replies = All-append (λ (r : NamedLinkReply). Stands g w r.name r.reply) s.replies m.answers j.replies h.answers };
        }

    -- all that it has to say is put out
    emptied_stands : (n : ℕ) (l : Called) (w : List Written) → CalledStands g w n l → CalledStands g w n (emptied l)
    emptied_stands n l w k = by l.side k
      where
        by : (a : Side) → CalledStands g w n (with_side a l) → CalledStands g w n (emptied (with_side a l))
        by (Sender s) h = (let j = h.link in record { asked = h.asked; outcomes = h.outcomes; own = h.own; link = record { made = j.made; out = j.out; over = j.over; remote = j.remote; failure = j.failure; last = j.last }; attaching = h.attaching; waiting = h.waiting; parting = h.parting; answers = h.answers })
        by (Receiver s) h = (let j = h.link in record { asked = h.asked; outcomes = h.outcomes; own = h.own; link = record { made = j.made; out = j.out; over = j.over; remote = j.remote; failure = j.failure; last = j.last }; attaching = h.attaching; waiting = h.waiting; parting = h.parting; answers = h.answers })

    pub writes : (n : ℕ) (l : Called) (s : State) → link_of n s ≡ Some l → Stand g gave (Some n) s → Stand g gave None (record (with_link n (emptied l) s) { output = s.output ++ map (Frame l.session) (output_of l) })
    writes n l s at k =
        let more : List Written = under n l.session (output_of l) in
        let v : List Written = k.written ++ more in
        let all : StateStands g v s = subst (λ (o : Option Called). StateStands g (k.written ++ said_by n o) s) at k.stands in
        let j = linked v v n l (emptied l) s at (λ x h. h) (emptied_stands n l v (all.links n l at)) all in
        let i : StateStands g v (record (with_link n (emptied l) s) { output = s.output ++ map (Frame l.session) (output_of l) }) = record { places = j.places; links = j.links; sends = j.sends; timed = j.timed; replies = j.replies } in
        record {
          written = v;
          more = k.more ++ more;
          begins = ap (λ (u : List Written). u ++ more) k.begins ∙ append_assoc gave.written k.more more;
          output = ap (λ (xs : List (ℕ × FrameBody)). gave.frames ++ xs) (frames_both s.output (map (Frame l.session) (output_of l)))
              ∙ (sym (append_assoc gave.frames (frames_in s.output) (frames_in (map (Frame l.session) (output_of l))))
              ∙ (ap (λ (xs : List (ℕ × FrameBody)). xs ++ frames_in (map (Frame l.session) (output_of l))) k.output
              ∙ (ap (λ (xs : List (ℕ × FrameBody)). values_of k.written ++ xs) (frames_under n l.session (output_of l)) ∙ sym (values_both k.written more))));
          stands = subst (λ (u : List Written). StateStands g u (record (with_link n (emptied l) s) { output = s.output ++ map (Frame l.session) (output_of l) })) (sym (append-nil v)) i;
        }

    -- a link is made
    pub makes : (n : ℕ) (l : Called) (s : State) → ((w : List Written) → CalledStands g (w ++ under n l.session (output_of l)) n l) → Stand g gave None s → Stand g gave (Some n) (standing n l s)
    makes n l s f k =
        let v : List Written = k.written ++ under n l.session (output_of l) in
        let wide : Wider (k.written ++ []) v = λ x h. Contains-append_left k.written (under n l.session (output_of l)) x (subst (λ (u : List Written). Contains u x) (append-nil k.written) h) in
        let there : link_of n (standing n l s) ≡ Some l = insert_here n n l s.endpoints (eq-eqb n n refl) in
        let j : StateStands g v (standing n l s) = record {
          places = k.stands.places;
          links = insert_each (CalledStands g v) n s.endpoints l (f k.written) (λ i x e. called_wider g i (k.written ++ []) v x wide (k.stands.links i x e));
          sends = k.stands.sends;
          timed = k.stands.timed;
          replies = answers_wider g (k.written ++ []) v s.replies wide k.stands.replies;
        } in
        record { written = k.written; more = k.more; begins = k.begins; output = k.output; stands = subst (λ (o : Option Called). StateStands g (k.written ++ said_by n o) (standing n l s)) (sym there) j }

    -- and the call that made it is answered
    pub makes_tells : (n : ℕ) (l : Called) (r : LinkReply) (s : State) → ((w : List Written) → CalledStands g (w ++ under n l.session (output_of l)) n l) → ((w : List Written) → Stands g (w ++ under n l.session (output_of l)) n r)
        → Stand g gave None s → Stand g gave (Some n) (answering n r (standing n l s))
    makes_tells n l r s f h k =
        let m = makes n l s f k in
        let there : link_of n (standing n l s) ≡ Some l = insert_here n n l s.endpoints (eq-eqb n n refl) in
        let told : Stands g (m.written ++ promised (Some n) (standing n l s)) n r = subst (λ (o : Option Called). Stands g (m.written ++ said_by n o) n r) (sym there) (h m.written) in
        let j = m.stands in
        record {
          written = m.written;
          more = m.more;
          begins = m.begins;
          output = m.output;
          stands = record { places = j.places; links = j.links; sends = j.sends; timed = j.timed; replies = one_more g (m.written ++ promised (Some n) (standing n l s)) n r s.replies j.replies told };
        }

    -- the peer has attached a link that no call awaits
    pub strays : (session : ℕ) (s : State) → Stand g gave None s → Stand g gave None (record s { output = s.output ++ Astray session ∷ [] })
    strays session s k = record {
      written = k.written;
      more = k.more;
      begins = k.begins;
      output = ap (λ (xs : List (ℕ × FrameBody)). gave.frames ++ xs) (frames_both s.output (Astray session ∷ []) ∙ append-nil (frames_in s.output)) ∙ k.output;
      stands = (let h = k.stands in record { places = h.places; links = h.links; sends = h.sends; timed = h.timed; replies = h.replies });
    }
