-- What has become of a link is taken up, step by step.
use Rattle.std.specs.Prelude.{◌≡◌, ℕ, nat_eq, Bool, true, false, cond, ◌&&◌, List, [], ◌∷◌, ◌++◌, map, Option, Some, None, Result, Ok, Err, if◌then◌else◌, refl}
use Rattle.std.proofs.Common.{sym, ◌∙◌, ap, subst, eq-eqb}
use Rattle.std.specs.Map.{lookup}
use Rattle.amqp_composites.specs.declared.modes.Role.{Role}
use Rattle.amqp_frames.specs.declared.body.FrameBody.{FrameBody}
use Rattle.amqp_link.specs.declared.endpoint.LinkPhase.{LinkPhase}
use Rattle.amqp_link.specs.declared.endpoint.LinkPhase.TheVariants as phase
use Rattle.amqp_link.specs.Link as link
use Rattle.amqp_link.specs.Parting as parting
use Rattle.amqp_link_tables.specs.declared.error.AllocLinkError.{AllocLinkError}
use Rattle.amqp_link_tables.specs.declared.error.AllocLinkError.TheVariants as full
use Rattle.amqp_link_tables.specs.Calls as table
use Rattle.amqp_link_calls.specs.Answering.{answers_taken}
use Rattle.amqp_link_calls.specs.Called.{Called}
use Rattle.amqp_link_calls.specs.Leaving.{is_parting, wants_handle, handle_given, handle_refused}
use Rattle.amqp_link_calls.specs.Side.{Side, Sender, Receiver, role_of, link_of as link_in, with_link as with_side_link}
use Rattle.amqp_link_words.specs.declared.link_reply.LinkReply.{LinkReply}
use Rattle.amqp_session_links.specs.declared.place.Claim.{Claim}
use Rattle.amqp_session_links.specs.declared.place.Claim.TheVariants.{Handle, Refused}
use Rattle.amqp_session_links.specs.Claims.{released, spending, reclaimed_by, reclaimed_up_to}
use Rattle.amqp_session_links.specs.State.{State as Place, attach_ended}
use Rattle.amqp_links.specs.Parts.{Frame, output_of, emptied, handle_of, name_of, is_heard, is_over}
use Rattle.amqp_links.specs.State.{State, place_of, link_of, with_place, stepped, at_place, answering}
use Rattle.amqp_links.specs.Taking.{written_at, written, told_at, told, told_on, spent_by_at, spent_by, attach_told_on, attach_told, freed_at, freed, reclaimed_at, reclaimed, given_at, refused_at, placed_by, placed, reattached_at, reattached, taken_up, finished}
use Rattle.session_laws.specs.Messages.{transfers}
use Rattle.link_lives.specs.Lives.{Wrote}
use Rattle.link_lives.specs.Logs.{Of}
use Rattle.link_lives.specs.Logs as logs
use Rattle.link_lives.proofs.Called.{went_same, emptied_went, given_went, refused_went}
use Rattle.link_lives.proofs.Tables.{set_at}
use Rattle.link_tables_agree.proofs.Places.{Calm, calm_still}
use Rattle.link_tables_agree.proofs.Walks.{Walk, Goes, goes_still, goes_then, goes_same, goes_either, link_goes, link_stays, with_place_calm, place_stays, released_goes, reclaims_goes}

-- the frames of a link among what is to be done
told_frames : (link session : ℕ) (xs : List FrameBody) → logs.told (map (Of link) (map (Wrote session) xs)) ≡ map (Frame session) xs
told_frames link session [] = refl
told_frames link session (x ∷ xs) = ap (λ ys. Frame session x ∷ ys) (told_frames link session xs)

-- ---- all that a link has to write was written

abbrev IsSilent : ℕ → State → Type 0
IsSilent link s = (l : Called) → link_of link s ≡ Some l → output_of l ≡ []

same_called : (k l : Called) → Some k ≡ Some l → k ≡ l
same_called k l e = cc

silent_side : (s : Side) → (link_in (with_side_link (record (link_in s) { output = [] }) s)).output ≡ []
silent_side (Sender s) = refl
silent_side (Receiver s) = refl

silent_as : (link : ℕ) (s t : State) → t.endpoints ≡ s.endpoints → IsSilent link s → IsSilent link t
silent_as link s t e h = λ l at. h l (sym (ap (lookup (nat_eq link)) e) ∙ at)

written_silent_at : (o : Option Called) (link : ℕ) (s : State) → link_of link s ≡ o → IsSilent link (written_at o link s)
written_silent_at None link s at l is = none_some (sym at ∙ is)
  where
    none_some : None ≡ Some l → output_of l ≡ []
    none_some e = absurd cc
written_silent_at (Some k) link s at l is =
    let found : link_of link (written_at (Some k) link s) ≡ Some (emptied k) = set_at link link s.endpoints k (emptied k) at ∙ ap (λ b. cond b (Some (emptied k)) (link_of link s)) (eq-eqb link link refl) in
    subst (λ x. output_of x ≡ []) (same_called (emptied k) l (sym found ∙ is)) (silent_side k.side)

written_silent : (link : ℕ) (s : State) → IsSilent link (written link s)
written_silent link s = written_silent_at (link_of link s) link s refl

told_silent_at : (o : Option Called) (link : ℕ) (s : State) → link_of link s ≡ o → IsSilent link s → IsSilent link (told_at o link s)
told_silent_at None link s at h = h
told_silent_at (Some k) link s at h = λ l is.
    let found : link_of link (told_at (Some k) link s) ≡ Some (answers_taken k) = set_at link link s.endpoints k (answers_taken k) at ∙ ap (λ b. cond b (Some (answers_taken k)) (link_of link s)) (eq-eqb link link refl) in
    subst (λ x. output_of x ≡ []) (same_called (answers_taken k) l (sym found ∙ is)) (h k at)

stepped_endpoints : (o : Option Place) (session : ℕ) (f : Place → Place) (s : State) → (stepped o session f s).endpoints ≡ s.endpoints
stepped_endpoints None session f s = refl
stepped_endpoints (Some p) session f s = refl

either_endpoints : (b : Bool) (s t : State) → t.endpoints ≡ s.endpoints → (if b then s else t).endpoints ≡ s.endpoints
either_endpoints true s t e = refl
either_endpoints false s t e = e

spent_endpoints : (o : Option Called) (session : ℕ) (s : State) → (spent_by_at o session s).endpoints ≡ s.endpoints
spent_endpoints None session s = refl
spent_endpoints (Some l) session s = either_endpoints l.is_made s (at_place session (spending (name_of l)) s) (stepped_endpoints (place_of session s) session (spending (name_of l)) s)

ended_endpoints : (o : Option ℕ) (link : ℕ) (s : State) → (attach_told_on o link s).endpoints ≡ s.endpoints
ended_endpoints None link s = refl
ended_endpoints (Some session) link s =
    let t = at_place session attach_ended s in spent_endpoints (link_of link t) session t ∙ stepped_endpoints (place_of session s) session attach_ended s

-- ---- a link that is to be attached again is not heard

wants_unheard : (p : LinkPhase) → parting.wants_handle p ≡ true → link.is_heard p ≡ true → ⊥
wants_unheard phase.HandleWanted h k = cc
wants_unheard p h k = cc

both_last : (a b : Bool) → (a && b) ≡ true → b ≡ true
both_last true b h = h
both_last false b h = absurd cc

-- a session without names that are spent is as it was
pub calm_spending : (name : List ℕ) (p : Place) → Calm p (spending name p)
calm_spending name p = record { handles = refl; remotes = refl; accepting = refl; attaches = refl }

calm_ended : (p : Place) → Calm p (attach_ended p)
calm_ended p = record { handles = refl; remotes = refl; accepting = refl; attaches = refl }

module _ (P : Walk) where
  written_goes_at : (o : Option Called) (link : ℕ) (s : State) → link_of link s ≡ o → Goes P s (written_at o link s)
  written_goes_at None link s at = goes_still P s
  written_goes_at (Some l) link s at =
      link_goes P link l (emptied l) (map (Wrote l.session) (output_of l)) [] s (written_at (Some l) link s) at (emptied_went l) refl refl
      (ap (λ xs. s.output ++ xs) (sym (told_frames link l.session (output_of l))))

  pub written_goes : (link : ℕ) (s : State) → Goes P s (written link s)
  written_goes link s = written_goes_at (link_of link s) link s refl

  told_goes_at : (o : Option Called) (link : ℕ) (s : State) → link_of link s ≡ o → Goes P s (told_at o link s)
  told_goes_at None link s at = goes_still P s
  told_goes_at (Some l) link s at = link_stays P link l (answers_taken l) s (told_at (Some l) link s) at (went_same l (answers_taken l) refl refl) refl refl refl

  pub told_goes : (link : ℕ) (s : State) → Goes P s (told link s)
  told_goes link s = told_goes_at (link_of link s) link s refl

  spent_goes_at : (o : Option Called) (session : ℕ) (s : State) → Goes P s (spent_by_at o session s)
  spent_goes_at None session s = goes_still P s
  spent_goes_at (Some l) session s =
      goes_either P l.is_made s s (at_place session (spending (name_of l)) s) (goes_still P s) (place_stays P session (spending (name_of l)) s (λ p. calm_spending (name_of l) p))

  attach_told_goes_on : (o : Option ℕ) (link : ℕ) (s : State) → Goes P s (attach_told_on o link s)
  attach_told_goes_on None link s = goes_still P s
  attach_told_goes_on (Some session) link s =
      let t = at_place session attach_ended s in
      goes_then P s t (spent_by session link t) (place_stays P session attach_ended s (λ p. calm_ended p)) (spent_goes_at (link_of link t) session t)

  pub attach_told_goes : (link : ℕ) (s : State) → Goes P s (attach_told link s)
  attach_told_goes link s = attach_told_goes_on (told_on link s) link s

  freed_if : (b : Bool) (link : ℕ) (l : Called) (s : State) → link_of link s ≡ Some l → is_over l ≡ b → IsSilent link s → Goes P s (if b then at_place l.session (released (handle_of l) link) s else s)
  freed_if true link l s at over silent = released_goes P link l s at over (ap transfers (silent l at))
  freed_if false link l s at over silent = goes_still P s

  freed_goes_at : (o : Option Called) (link : ℕ) (s : State) → link_of link s ≡ o → IsSilent link s → Goes P s (freed_at o link s)
  freed_goes_at None link s at silent = goes_still P s
  freed_goes_at (Some l) link s at silent = freed_if (is_over l) link l s at refl silent

  given_goes_at : (o : Option Called) (handle link : ℕ) (s : State) → link_of link s ≡ o → Goes P s (given_at o handle link s)
  given_goes_at None handle link s at = goes_still P s
  given_goes_at (Some l) handle link s at = link_stays P link l (handle_given handle l) s (given_at (Some l) handle link s) at (given_went handle l) refl refl refl

  refused_goes_at : (o : Option Called) (link : ℕ) (s : State) → link_of link s ≡ o → Goes P s (refused_at o link s)
  refused_goes_at None link s at = goes_still P s
  refused_goes_at (Some l) link s at = link_stays P link l (handle_refused l) s (refused_at (Some l) link s) at (refused_went l) refl refl refl

  placed_goes_by : (c : Claim) (link : ℕ) (s : State) → Goes P s (placed_by c link s)
  placed_goes_by (Handle handle) link s =
      let t = given_at (link_of link s) handle link s in
      goes_then P s t (written link t) (given_goes_at (link_of link s) handle link s refl) (written_goes link t)
  placed_goes_by (Refused error) link s =
      let t = refused_at (link_of link s) link s in
      goes_then P s t (told link t) (refused_goes_at (link_of link s) link s refl) (told_goes link t)

  -- what a link gets to be attached again
  module _ (link : ℕ) (l : Called) (name : List ℕ) (role : Role) (s : State) (is : link_of link s ≡ Some l) (unheard : is_heard l ≡ true → ⊥) where
    reclaims_by : (r : Result ℕ AllocLinkError) (max : ℕ) (p : Place) → place_of l.session s ≡ Some p → table.allocation name role max p.table ≡ r → Goes P s (with_place l.session (reclaimed_by r name role link p).state s)
    reclaims_by (Ok handle) max p at e =
        reclaims_goes P link l name role max handle p (reclaimed_by (Ok handle) name role link p).state s is unheard at (record { free = e; table = refl; accepting = refl; attaches = refl })
    reclaims_by (Err (full.Memory a)) max p at e = with_place_calm P l.session p p s at (calm_still p)
    reclaims_by (Err full.DuplicatedLinkName) max p at e = with_place_calm P l.session p p s at (calm_still p)
    reclaims_by (Err full.HandleMaxReached) max p at e = with_place_calm P l.session p p s at (calm_still p)

    reclaims_to : (max : Option ℕ) (p : Place) → place_of l.session s ≡ Some p → Goes P s (with_place l.session (reclaimed_up_to max name role link p).state s)
    reclaims_to None p at = with_place_calm P l.session p p s at (calm_still p)
    reclaims_to (Some max) p at = reclaims_by (table.allocation name role max p.table) max p at refl

    reclaimed_goes_at : (o : Option Place) → place_of l.session s ≡ o → Goes P s (reclaimed_at o l.session name role link s).state
    reclaimed_goes_at None at = goes_still P s
    reclaimed_goes_at (Some p) at = reclaims_to p.handle_max p at

    placed_goes : Goes P s (placed l.session name role link s)
    placed_goes =
        let c = reclaimed l.session name role link s in
        goes_then P s c.state (placed_by c.answer link c.state) (reclaimed_goes_at (place_of l.session s) refl) (placed_goes_by c.answer link c.state)

  reattached_if : (b : Bool) (link : ℕ) (l : Called) (s : State) → link_of link s ≡ Some l → wants_handle l ≡ b → Goes P s (if b then placed l.session (name_of l) (role_of l.side) link s else s)
  reattached_if true link l s at wants =
      placed_goes link l (name_of l) (role_of l.side) s at (wants_unheard (link_in l.side).phase (both_last (is_parting l.parting) (parting.wants_handle (link_in l.side).phase) wants))
  reattached_if false link l s at wants = goes_still P s

  reattached_goes_at : (o : Option Called) (link : ℕ) (s : State) → link_of link s ≡ o → Goes P s (reattached_at o link s)
  reattached_goes_at None link s at = goes_still P s
  reattached_goes_at (Some l) link s at = reattached_if (wants_handle l) link l s at refl

  pub reattached_goes : (link : ℕ) (s : State) → Goes P s (reattached link s)
  reattached_goes link s = reattached_goes_at (link_of link s) link s refl

  five_go : (a b c d e f : State) → Goes P a b → Goes P b c → Goes P c d → Goes P d e → Goes P e f → Goes P a f
  five_go a b c d e f p q r t u =
      goes_then P a b f p (goes_then P b c f q (goes_then P c d f r (goes_then P d e f t u)))

  pub taken_goes : (link : ℕ) (s : State) → Goes P s (taken_up link s)
  taken_goes link s =
      let a = written link s in
      let b = told link a in
      let c = attach_told link b in
      let d = freed link c in
      let quiet : IsSilent link b = told_silent_at (link_of link a) link a refl (written_silent link s) in
      let silent : IsSilent link c = silent_as link b c (ended_endpoints (told_on link b) link b) quiet in
      five_go s a b c d (reattached link d) (written_goes link s) (told_goes link a) (attach_told_goes link b) (freed_goes_at (link_of link c) link c refl silent) (reattached_goes link d)

  pub finished_goes : (name link : ℕ) (x : LinkReply) (s : State) → Goes P s (finished name link x s)
  finished_goes name link x s =
      goes_then P s (answering name x s) (taken_up link (answering name x s)) (goes_same P s (answering name x s) refl refl refl) (taken_goes link (answering name x s))
