-- What sessions hand to their links is heard.
use Rattle.std.specs.Prelude.{◌≡◌, ℕ, nat_eq, Bool, true, false, List, [], ◌∷◌, Option, Some, None, if◌then◌else◌, refl}
use Rattle.std.proofs.Common.{sym, ap, subst, eq-eqb}
use Rattle.amqp_composites.specs.declared.modes.Role.{Role}
use Rattle.amqp_composites.specs.declared.modes.Role.TheVariants as role
use Rattle.amqp_frames.specs.declared.shared.CoveredDelivery.{CoveredDelivery}
use Rattle.amqp_frames.specs.declared.shared.SessionStopReason.{SessionStopReason}
use Rattle.amqp_link_tables.specs.Calls.{link_at}
use Rattle.amqp_link_tables.specs.Deliveries as deliveries
use Rattle.amqp_link_tables.specs.declared.deliveries.Delivered.{Delivered}
use Rattle.amqp_parts.specs.declared.part.Part.{Part}
use Rattle.amqp_performatives.specs.declared.attach.Attach.{Attach}
use Rattle.amqp_performatives.specs.declared.disposition.Disposition.{Disposition}
use Rattle.amqp_performatives.specs.declared.transfer.Transfer.{Transfer}
use Rattle.amqp_session.specs.declared.session.LeftDelivery.{LeftDelivery}
use Rattle.amqp_session.specs.declared.session.LinkInput.{LinkInput}
use Rattle.amqp_session.specs.declared.session.LinkInput.TheVariants as input
use Rattle.amqp_links.specs.amqp_link_calls.Answering.{answers_taken}
use Rattle.amqp_links.specs.amqp_link_calls.Called.{Called}
use Rattle.amqp_links.specs.amqp_link_calls.Called as called
use Rattle.amqp_links.specs.amqp_link_calls.Hearing as hears
use Rattle.amqp_session_links.specs.Claims.{parted, joined}
use Rattle.amqp_session_links.specs.Numbers as numbers
use Rattle.amqp_session_links.specs.Incoming.{kept, kept_at}
use Rattle.amqp_session_links.specs.State.{State as Place, stopped}
use Rattle.std.specs.Map.{lookup}
use Rattle.amqp_links.specs.Attaching.{joining}
use Rattle.amqp_links.specs.Hearing.{is_detach, parting, hearing_at, hearing, attach_heard_at, attach_heard, answer_read_at}
use Rattle.amqp_links.specs.Numbering.{begun_by, receives_at, begun_as, transfer_numbered, numbering}
use Rattle.amqp_links.specs.Parts.{heard, disposition_heard}
use Rattle.amqp_links.specs.Settling.{left, forgetting, link_settled, forgets, settled_at, delivery_at, covered_by, settled_by, settled, all_settled, covered_at, disposition_read}
use Rattle.amqp_links.specs.State.{State, place_of, link_of, with_link, at_place, answering_all}
use Rattle.amqp_links.specs.Stops.{links_at, stopped_at, all_stopped, session_stopped, concluded_at, all_concluded, session_over}
use Rattle.amqp_links.specs.Taking.{taken_up, attach_told}
use Rattle.amqp_links.specs.Timing.{tried_again}
use Rattle.link_lives.specs.Lives.{Went}
use Rattle.link_lives.specs.Logs.{Goes}
use Rattle.link_lives.proofs.Called.{went_then, went_same, part_in, heard_went, attach_went, disposition_went, concluded_went, stopped_went}
use Rattle.link_lives.proofs.Going.{nothing, goes_then, goes_quietly, goes_missing, goes_still, goes_strayed, link_goes, link_stays, place_stays, goes_either}
use Rattle.link_lives.proofs.Taking.{taken_goes, attach_told_goes}
use Rattle.link_lives.proofs.Timing.{tried_again_goes}
use Rattle.std.proofs.lemmas.List.{append-nil}

-- one link reads these
abbrev pub by_one : ℕ → List Part → ℕ → List Part
by_one link ps n = if nat_eq link n then ps else []

by_others : (link : ℕ) (ps : List Part) (n : ℕ) → nat_eq link n ≡ false → by_one link ps n ≡ []
by_others link ps n h = ap (λ b. if b then ps else []) h

by_itself : (link : ℕ) (ps : List Part) → ps ≡ by_one link ps link
by_itself link ps = sym (ap (λ b. if b then ps else []) (eq-eqb link link refl))

kept_same : (o : Option (List LinkInput)) (remote : ℕ) (x : LinkInput) (p : Place) → (kept_at o remote x p).accepting ≡ p.accepting
kept_same None remote x p = refl
kept_same (Some xs) remote x p = refl

entered_same : (o : Option ℕ) (x : LeftDelivery) (p : Place) → (numbers.entered_at o x p).accepting ≡ p.accepting
entered_same None x p = refl
entered_same (Some link) x p = by x.settled
  where
    by : (b : Bool) → (if b then p else record p { outgoing = deliveries.entered x.delivery_id (record { link = link; tag = x.delivery_tag }) p.outgoing }).accepting ≡ p.accepting
    by true = refl
    by false = refl

forgotten_same : (teller : Role) (number : ℕ) (p : Place) → (numbers.forgotten teller number p).accepting ≡ p.accepting
forgotten_same role.Receiver number p = refl
forgotten_same role.Sender number p = refl

module _ (P : ℕ → Type 0) where
  -- ---- frames on the handle of the peer

  parting_goes : (b : Bool) (session remote : ℕ) (s : State) → Goes P nothing s (parting b session remote s)
  parting_goes true session remote s = place_stays P session (parted remote) s (λ p. refl)
  parting_goes false session remote s = goes_still P s

  begun_goes : (o : Option (ℕ × Delivered)) (session : ℕ) (s : State) → Goes P nothing s (begun_as o session s)
  begun_goes None session s = goes_still P s
  begun_goes (Some d) session s = place_stays P session (numbers.begun d.0 d.1) s (λ p. refl)

  transfer_numbered_goes : (session link : ℕ) (x : Transfer) (s : State) → Goes P nothing s (transfer_numbered session link x s)
  transfer_numbered_goes session link x s =
      goes_either P (receives_at (link_of link s)) nothing s (begun_as (begun_by link x) session s) s (begun_goes (begun_by link x) session s) (goes_still P s)

  numbering_goes : (session link : ℕ) (x : LinkInput) (s : State) → Goes P nothing s (numbering session link x s)
  numbering_goes session link (input.Transfer x payload) s = transfer_numbered_goes session link x s
  numbering_goes session link other s = goes_still P s

  hearing_goes_at : (o : Option Called) (link : ℕ) (x : LinkInput) (s : State) → link_of link s ≡ o → Goes P (by_one link (part_in x)) s (hearing_at o link x s)
  hearing_goes_at None link x s at = goes_missing P link (by_one link (part_in x)) s at (by_others link (part_in x))
  hearing_goes_at (Some l) link x s at =
      link_goes P link l (heard x l) [] (by_one link (part_in x)) s (hearing_at (Some l) link x s) at (subst (λ ps. Went l [] ps (heard x l)) (by_itself link (part_in x)) (heard_went x l)) (by_others link (part_in x)) refl refl
      (sym (append-nil s.output))

  pub hearing_goes : (session link remote : ℕ) (x : LinkInput) (s : State) → Goes P (by_one link (part_in x)) s (hearing session link remote x s)
  hearing_goes session link remote x s =
      let R = by_one link (part_in x) in
      let a = parting (is_detach x) session remote s in
      let b = numbering session link x a in
      let c = hearing_at (link_of link b) link x b in
      let d = tried_again (is_detach x) link c in
      let last = taken_up link d in
      let p = goes_quietly P R b c d (hearing_goes_at (link_of link b) link x b refl) (tried_again_goes P (is_detach x) link c) in
      let q = goes_quietly P R b d last p (taken_goes P link d) in
      goes_then P nothing R s a last (parting_goes (is_detach x) session remote s) (goes_then P nothing R a b last (numbering_goes session link x a) q)

  pub kept_goes : (session remote : ℕ) (x : LinkInput) (s : State) → Goes P nothing s (at_place session (kept remote x) s)
  kept_goes session remote x s = place_stays P session (kept remote x) s (λ p. kept_same (lookup (nat_eq remote) p.early) remote x p)

  -- ---- Attaches

  pub joining_goes : (session remote link : ℕ) (s : State) → Goes P nothing s (joining session remote link s)
  joining_goes session remote link s = place_stays P session (joined remote link) s (λ p. refl)

  attach_goes_at : (o : Option Called) (link : ℕ) (x : Attach) (s : State) → link_of link s ≡ o → Goes P nothing s (attach_heard_at o link x s)
  attach_goes_at None link x s at = goes_still P s
  attach_goes_at (Some l) link x s at = link_stays P link l (hears.attach_read x l) s (attach_heard_at (Some l) link x s) at (attach_went x l) refl refl refl

  pub attach_goes : (session link : ℕ) (x : Attach) (s : State) → Goes P nothing s (attach_heard session link x s)
  attach_goes session link x s =
      let a = joining session x.handle link s in
      let b = attach_heard_at (link_of link a) link x a in
      goes_then P nothing nothing s a (taken_up link b) (joining_goes session x.handle link s) (goes_then P nothing nothing a b (taken_up link b) (attach_goes_at (link_of link a) link x a refl) (taken_goes P link b))

  pub answer_goes : (o : Option ℕ) (session : ℕ) (x : Attach) (s : State) → Goes P nothing s (answer_read_at o session x s)
  answer_goes None session x s = goes_strayed P session s
  answer_goes (Some link) session x s = attach_goes session link x s

  -- ---- Dispositions

  pub left_goes : (session : ℕ) (x : LeftDelivery) (s : State) → Goes P nothing s (left session x s)
  left_goes session x s = place_stays P session (numbers.entered x) s (λ p. entered_same (link_at x.handle p.table) x p)

  pub forgetting_goes : (b : Bool) (teller : Role) (session number : ℕ) (s : State) → Goes P nothing s (forgetting b teller session number s)
  forgetting_goes true teller session number s = place_stays P session (numbers.forgotten teller number) s (λ p. forgotten_same teller number p)
  forgetting_goes false teller session number s = goes_still P s

  link_settled_goes : (o : Option Called) (link : ℕ) (x : CoveredDelivery) (d : Disposition) (s : State) → link_of link s ≡ o → Goes P nothing s (link_settled o link x d s)
  link_settled_goes None link x d s at = goes_still P s
  link_settled_goes (Some l) link x d s at =
      link_stays P link l (disposition_heard x d.settled d.state l) s (link_settled (Some l) link x d s) at (disposition_went x d.settled d.state l) refl refl refl

  settled_goes_at : (session link : ℕ) (x : CoveredDelivery) (d : Disposition) (s : State) → Goes P nothing s (settled_at session link x d s)
  settled_goes_at session link x d s =
      let a = link_settled (link_of link s) link x d s in
      let b = forgets (link_of link s) x d in
      let c = forgetting b d.role session x.delivery_id a in
      goes_then P nothing nothing s a (taken_up link c) (link_settled_goes (link_of link s) link x d s refl)
      (goes_then P nothing nothing a c (taken_up link c) (forgetting_goes b d.role session x.delivery_id a) (taken_goes P link c))

  settled_goes_by : (o : Option Delivered) (session number : ℕ) (d : Disposition) (s : State) → Goes P nothing s (settled_by o session number d s)
  settled_goes_by None session number d s = goes_still P s
  settled_goes_by (Some x) session number d s = settled_goes_at session (covered_by number x).0 (covered_by number x).1 d s

  all_settled_go : (ns : List ℕ) (session : ℕ) (d : Disposition) (s : State) → Goes P nothing s (all_settled ns session d s)
  all_settled_go [] session d s = goes_still P s
  all_settled_go (n ∷ ns) session d s =
      let t = settled session n d s in
      goes_then P nothing nothing s t (all_settled ns session d t) (settled_goes_by (delivery_at d.role n (place_of session s)) session n d s) (all_settled_go ns session d t)

  pub disposition_goes : (session : ℕ) (d : Disposition) (s : State) → Goes P nothing s (disposition_read session d s)
  disposition_goes session d s = all_settled_go (covered_at d (place_of session s)) session d s

  -- ---- the end of the session

  stopped_goes_at : (o : Option Called) (link : ℕ) (why : SessionStopReason) (s : State) → link_of link s ≡ o → Goes P nothing s (stopped_at o link why s)
  stopped_goes_at None link why s at = goes_still P s
  stopped_goes_at (Some l) link why s at =
      let t = with_link link (called.stopped why l) s in
      goes_then P nothing nothing s t (tried_again true link t) (link_stays P link l (called.stopped why l) s t at (stopped_went why l) refl refl refl) (tried_again_goes P true link t)

  all_stopped_go : (ls : List ℕ) (why : SessionStopReason) (s : State) → Goes P nothing s (all_stopped ls why s)
  all_stopped_go [] why s = goes_still P s
  all_stopped_go (l ∷ ls) why s =
      let t = stopped_at (link_of l s) l why s in
      goes_then P nothing nothing s t (all_stopped ls why t) (stopped_goes_at (link_of l s) l why s refl) (all_stopped_go ls why t)

  pub session_stopped_goes : (session : ℕ) (why : SessionStopReason) (s : State) → Goes P nothing s (session_stopped session why s)
  session_stopped_goes session why s =
      let ls = links_at (place_of session s) in
      let t = all_stopped ls why s in
      goes_then P nothing nothing s t (session_stopped session why s) (all_stopped_go ls why s) (place_stays P session (stopped why) t (λ p. refl))

  concluded_goes_at : (o : Option Called) (link : ℕ) (s : State) → link_of link s ≡ o → Goes P nothing s (concluded_at o link s)
  concluded_goes_at None link s at = goes_still P s
  concluded_goes_at (Some l) link s at =
      let m = hears.concluded l in
      let t = answering_all m.answers (with_link link (answers_taken m) s) in
      let w : Went l [] [] (answers_taken m) = went_then l m (answers_taken m) [] [] [] [] (concluded_went l) (went_same m (answers_taken m) refl refl) in
      goes_then P nothing nothing s t (attach_told link t) (link_stays P link l (answers_taken m) s t at w refl refl refl) (attach_told_goes P link t)

  all_concluded_go : (ls : List ℕ) (s : State) → Goes P nothing s (all_concluded ls s)
  all_concluded_go [] s = goes_still P s
  all_concluded_go (l ∷ ls) s =
      let t = concluded_at (link_of l s) l s in goes_then P nothing nothing s t (all_concluded ls t) (concluded_goes_at (link_of l s) l s refl) (all_concluded_go ls t)

  pub session_over_goes : (session : ℕ) (s : State) → Goes P nothing s (session_over session s)
  session_over_goes session s = all_concluded_go (links_at (place_of session s)) s
