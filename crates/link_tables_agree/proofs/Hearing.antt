-- What sessions hand to their links is heard, step by step.
use Rattle.std.specs.Prelude.{◌≡◌, ℕ, nat_eq, Bool, true, false, List, [], ◌∷◌, Option, Some, None, if◌then◌else◌, refl}
use Rattle.std.proofs.Common.{sym}
use Rattle.amqp_composites.specs.declared.modes.Role.{Role}
use Rattle.amqp_composites.specs.declared.modes.Role.TheVariants as role
use Rattle.amqp_frames.specs.declared.shared.CoveredDelivery.{CoveredDelivery}
use Rattle.amqp_frames.specs.declared.shared.SessionStopReason.{SessionStopReason}
use Rattle.amqp_link_tables.specs.Calls.{link_at}
use Rattle.amqp_link_tables.specs.Deliveries as deliveries
use Rattle.amqp_link_tables.specs.declared.deliveries.Delivered.{Delivered}
use Rattle.amqp_performatives.specs.declared.attach.Attach.{Attach}
use Rattle.amqp_performatives.specs.declared.disposition.Disposition.{Disposition}
use Rattle.amqp_performatives.specs.declared.transfer.Transfer.{Transfer}
use Rattle.amqp_session.specs.declared.session.LeftDelivery.{LeftDelivery}
use Rattle.amqp_session.specs.declared.session.LinkInput.{LinkInput}
use Rattle.amqp_session.specs.declared.session.LinkInput.TheVariants as input
use Rattle.amqp_link_calls.specs.Answering.{answers_taken}
use Rattle.amqp_link_calls.specs.Called.{Called}
use Rattle.amqp_link_calls.specs.Called as called
use Rattle.amqp_link_calls.specs.Hearing as hears
use Rattle.amqp_session_links.specs.Numbers as numbers
use Rattle.amqp_session_links.specs.Incoming.{kept, kept_at}
use Rattle.amqp_session_links.specs.State.{State as Place, stopped}
use Rattle.std.specs.Map.{lookup}
use Rattle.amqp_links.specs.Attaching.{joining}
use Rattle.amqp_links.specs.Hearing.{is_detach, parting, hearing_at, hearing, attach_heard_at, attach_heard, answer_read_at}
use Rattle.amqp_links.specs.Numbering.{begun_by, receives_at, begun_as, transfer_numbered, numbering}
use Rattle.amqp_links.specs.Parts.{heard, disposition_heard}
use Rattle.amqp_links.specs.Settling.{left, forgetting, link_settled, forgets, settled_at, delivery_at, covered_by, settled_by, settled, all_settled, covered_at, disposition_read}
use Rattle.amqp_links.specs.State.{State, place_of, link_of, with_link, at_place, answering_all}
use Rattle.amqp_links.specs.Stops.{links_at, stopped_at, all_stopped, session_stopped, concluded_at, all_concluded, session_over}
use Rattle.amqp_links.specs.Taking.{taken_up, attach_told}
use Rattle.amqp_links.specs.Timing.{tried_again}
use Rattle.link_lives.specs.Lives.{Went}
use Rattle.link_lives.proofs.Called.{went_then, went_same, part_in, heard_went, attach_went, disposition_went, concluded_went, stopped_went}
use Rattle.link_tables_agree.proofs.Places.{Calm, calm_still}
use Rattle.link_tables_agree.proofs.Walks.{Walk, Goes, goes_then, goes_still, goes_strayed, link_goes, link_stays, place_stays, parted_goes, joining_goes, goes_either}
use Rattle.link_tables_agree.proofs.Taking.{taken_goes, attach_told_goes}
use Rattle.link_tables_agree.proofs.Timing.{tried_again_goes}
use Rattle.std.proofs.lemmas.List.{append-nil}

kept_calm : (o : Option (List LinkInput)) (remote : ℕ) (x : LinkInput) (p : Place) → Calm p (kept_at o remote x p)
kept_calm None remote x p = record { handles = refl; remotes = refl; accepting = refl; attaches = refl }
kept_calm (Some xs) remote x p = record { handles = refl; remotes = refl; accepting = refl; attaches = refl }

entered_if : (b : Bool) (x : LeftDelivery) (link : ℕ) (p : Place) → Calm p (if b then p else record p { outgoing = deliveries.entered x.delivery_id (record { link = link; tag = x.delivery_tag }) p.outgoing })
entered_if true x link p = calm_still p
entered_if false x link p = record { handles = refl; remotes = refl; accepting = refl; attaches = refl }

entered_calm : (o : Option ℕ) (x : LeftDelivery) (p : Place) → Calm p (numbers.entered_at o x p)
entered_calm None x p = calm_still p
entered_calm (Some link) x p = entered_if x.settled x link p

forgotten_calm : (teller : Role) (number : ℕ) (p : Place) → Calm p (numbers.forgotten teller number p)
forgotten_calm role.Receiver number p = record { handles = refl; remotes = refl; accepting = refl; attaches = refl }
forgotten_calm role.Sender number p = record { handles = refl; remotes = refl; accepting = refl; attaches = refl }

begun_calm : (number : ℕ) (d : Delivered) (p : Place) → Calm p (numbers.begun number d p)
begun_calm number d p = record { handles = refl; remotes = refl; accepting = refl; attaches = refl }

stopped_calm : (why : SessionStopReason) (p : Place) → Calm p (stopped why p)
stopped_calm why p = record { handles = refl; remotes = refl; accepting = refl; attaches = refl }

module _ (P : Walk) where
  -- ---- frames on the handle of the peer

  parting_goes : (b : Bool) (session remote : ℕ) (s : State) → (b ≡ true → P.May session remote) → Goes P s (parting b session remote s)
  parting_goes true session remote s may = parted_goes P session remote s (may refl)
  parting_goes false session remote s may = goes_still P s

  begun_goes : (o : Option (ℕ × Delivered)) (session : ℕ) (s : State) → Goes P s (begun_as o session s)
  begun_goes None session s = goes_still P s
  begun_goes (Some d) session s = place_stays P session (numbers.begun d.0 d.1) s (λ p. begun_calm d.0 d.1 p)

  transfer_numbered_goes : (session link : ℕ) (x : Transfer) (s : State) → Goes P s (transfer_numbered session link x s)
  transfer_numbered_goes session link x s =
      goes_either P (receives_at (link_of link s)) s (begun_as (begun_by link x) session s) s (begun_goes (begun_by link x) session s) (goes_still P s)

  numbering_goes : (session link : ℕ) (x : LinkInput) (s : State) → Goes P s (numbering session link x s)
  numbering_goes session link (input.Transfer x payload) s = transfer_numbered_goes session link x s
  numbering_goes session link other s = goes_still P s

  hearing_goes_at : (o : Option Called) (link : ℕ) (x : LinkInput) (s : State) → link_of link s ≡ o → Goes P s (hearing_at o link x s)
  hearing_goes_at None link x s at = goes_still P s
  hearing_goes_at (Some l) link x s at =
      link_goes P link l (heard x l) [] (part_in x) s (hearing_at (Some l) link x s) at (heard_went x l) refl refl (sym (append-nil s.output))

  pub hearing_goes : (session link remote : ℕ) (x : LinkInput) (s : State) → (is_detach x ≡ true → P.May session remote) → Goes P s (hearing session link remote x s)
  hearing_goes session link remote x s may =
      let a = parting (is_detach x) session remote s in
      let b = numbering session link x a in
      let c = hearing_at (link_of link b) link x b in
      let d = tried_again (is_detach x) link c in
      let last = taken_up link d in
      goes_then P s a last (parting_goes (is_detach x) session remote s may)
      (goes_then P a b last (numbering_goes session link x a)
      (goes_then P b c last (hearing_goes_at (link_of link b) link x b refl)
      (goes_then P c d last (tried_again_goes P (is_detach x) link c) (taken_goes P link d))))

  pub kept_goes : (session remote : ℕ) (x : LinkInput) (s : State) → Goes P s (at_place session (kept remote x) s)
  kept_goes session remote x s = place_stays P session (kept remote x) s (λ p. kept_calm (lookup (nat_eq remote) p.early) remote x p)

  -- ---- Attaches

  attach_goes_at : (o : Option Called) (link : ℕ) (x : Attach) (s : State) → link_of link s ≡ o → Goes P s (attach_heard_at o link x s)
  attach_goes_at None link x s at = goes_still P s
  attach_goes_at (Some l) link x s at = link_stays P link l (hears.attach_read x l) s (attach_heard_at (Some l) link x s) at (attach_went x l) refl refl refl

  pub attach_goes : (session link : ℕ) (x : Attach) (s : State) → P.May session x.handle → P.Joins link → Goes P s (attach_heard session link x s)
  attach_goes session link x s may joins =
      let a = joining session x.handle link s in
      let b = attach_heard_at (link_of link a) link x a in
      goes_then P s a (taken_up link b) (joining_goes P session x.handle link s may joins) (goes_then P a b (taken_up link b) (attach_goes_at (link_of link a) link x a refl) (taken_goes P link b))

  pub answer_goes : (o : Option ℕ) (session : ℕ) (x : Attach) (s : State) → P.May session x.handle → ((link : ℕ) → o ≡ Some link → P.Joins link) → Goes P s (answer_read_at o session x s)
  answer_goes None session x s may joins = goes_strayed P session s
  answer_goes (Some link) session x s may joins = attach_goes session link x s may (joins link refl)

  -- ---- Dispositions

  pub left_goes : (session : ℕ) (x : LeftDelivery) (s : State) → Goes P s (left session x s)
  left_goes session x s = place_stays P session (numbers.entered x) s (λ p. entered_calm (link_at x.handle p.table) x p)

  pub forgetting_goes : (b : Bool) (teller : Role) (session number : ℕ) (s : State) → Goes P s (forgetting b teller session number s)
  forgetting_goes true teller session number s = place_stays P session (numbers.forgotten teller number) s (λ p. forgotten_calm teller number p)
  forgetting_goes false teller session number s = goes_still P s

  link_settled_goes : (o : Option Called) (link : ℕ) (x : CoveredDelivery) (d : Disposition) (s : State) → link_of link s ≡ o → Goes P s (link_settled o link x d s)
  link_settled_goes None link x d s at = goes_still P s
  link_settled_goes (Some l) link x d s at =
      link_stays P link l (disposition_heard x d.settled d.state l) s (link_settled (Some l) link x d s) at (disposition_went x d.settled d.state l) refl refl refl

  settled_goes_at : (session link : ℕ) (x : CoveredDelivery) (d : Disposition) (s : State) → Goes P s (settled_at session link x d s)
  settled_goes_at session link x d s =
      let a = link_settled (link_of link s) link x d s in
      let b = forgets (link_of link s) x d in
      let c = forgetting b d.role session x.delivery_id a in
      goes_then P s a (taken_up link c) (link_settled_goes (link_of link s) link x d s refl)
      (goes_then P a c (taken_up link c) (forgetting_goes b d.role session x.delivery_id a) (taken_goes P link c))

  settled_goes_by : (o : Option Delivered) (session number : ℕ) (d : Disposition) (s : State) → Goes P s (settled_by o session number d s)
  settled_goes_by None session number d s = goes_still P s
  settled_goes_by (Some x) session number d s = settled_goes_at session (covered_by number x).0 (covered_by number x).1 d s

  all_settled_go : (ns : List ℕ) (session : ℕ) (d : Disposition) (s : State) → Goes P s (all_settled ns session d s)
  all_settled_go [] session d s = goes_still P s
  all_settled_go (n ∷ ns) session d s =
      let t = settled session n d s in
      goes_then P s t (all_settled ns session d t) (settled_goes_by (delivery_at d.role n (place_of session s)) session n d s) (all_settled_go ns session d t)

  pub disposition_goes : (session : ℕ) (d : Disposition) (s : State) → Goes P s (disposition_read session d s)
  disposition_goes session d s = all_settled_go (covered_at d (place_of session s)) session d s

  -- ---- the end of the session

  stopped_goes_at : (o : Option Called) (link : ℕ) (why : SessionStopReason) (s : State) → link_of link s ≡ o → Goes P s (stopped_at o link why s)
  stopped_goes_at None link why s at = goes_still P s
  stopped_goes_at (Some l) link why s at =
      let t = with_link link (called.stopped why l) s in
      goes_then P s t (tried_again true link t) (link_stays P link l (called.stopped why l) s t at (stopped_went why l) refl refl refl) (tried_again_goes P true link t)

  all_stopped_go : (ls : List ℕ) (why : SessionStopReason) (s : State) → Goes P s (all_stopped ls why s)
  all_stopped_go [] why s = goes_still P s
  all_stopped_go (l ∷ ls) why s =
      let t = stopped_at (link_of l s) l why s in
      goes_then P s t (all_stopped ls why t) (stopped_goes_at (link_of l s) l why s refl) (all_stopped_go ls why t)

  pub session_stopped_goes : (session : ℕ) (why : SessionStopReason) (s : State) → Goes P s (session_stopped session why s)
  session_stopped_goes session why s =
      let ls = links_at (place_of session s) in
      let t = all_stopped ls why s in
      goes_then P s t (session_stopped session why s) (all_stopped_go ls why s) (place_stays P session (stopped why) t (λ p. stopped_calm why p))

  concluded_goes_at : (o : Option Called) (link : ℕ) (s : State) → link_of link s ≡ o → Goes P s (concluded_at o link s)
  concluded_goes_at None link s at = goes_still P s
  concluded_goes_at (Some l) link s at =
      let m = hears.concluded l in
      let t = answering_all m.answers (with_link link (answers_taken m) s) in
      let w : Went l [] [] (answers_taken m) = went_then l m (answers_taken m) [] [] [] [] (concluded_went l) (went_same m (answers_taken m) refl refl) in
      goes_then P s t (attach_told link t) (link_stays P link l (answers_taken m) s t at w refl refl refl) (attach_told_goes P link t)

  all_concluded_go : (ls : List ℕ) (s : State) → Goes P s (all_concluded ls s)
  all_concluded_go [] s = goes_still P s
  all_concluded_go (l ∷ ls) s =
      let t = concluded_at (link_of l s) l s in goes_then P s t (all_concluded ls t) (concluded_goes_at (link_of l s) l s refl) (all_concluded_go ls t)

  pub session_over_goes : (session : ℕ) (s : State) → Goes P s (session_over session s)
  session_over_goes session s = all_concluded_go (links_at (place_of session s)) s
