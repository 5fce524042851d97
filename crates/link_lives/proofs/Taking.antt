-- What has become of a link is taken up.
use Rattle.std.specs.Prelude.{◌≡◌, ℕ, Bool, true, false, List, [], ◌∷◌, ◌++◌, map, Option, Some, None, Result, Ok, Err, if◌then◌else◌, refl}
use Rattle.std.proofs.Common.{sym, ap}
use Rattle.amqp_composites.specs.declared.modes.Role.{Role}
use Rattle.amqp_frames.specs.declared.body.FrameBody.{FrameBody}
use Rattle.amqp_link_tables.specs.declared.error.AllocLinkError.{AllocLinkError}
use Rattle.amqp_link_tables.specs.declared.error.AllocLinkError.TheVariants as full
use Rattle.amqp_link_tables.specs.Calls as table
use Rattle.amqp_links.specs.amqp_link_calls.Answering.{answers_taken}
use Rattle.amqp_links.specs.amqp_link_calls.Called.{Called}
use Rattle.amqp_links.specs.amqp_link_calls.Leaving.{wants_handle, handle_given, handle_refused}
use Rattle.amqp_links.specs.amqp_link_calls.Side.{role_of}
use Rattle.amqp_link_words.specs.declared.link_reply.LinkReply.{LinkReply}
use Rattle.amqp_session_links.specs.declared.place.Claim.{Claim}
use Rattle.amqp_session_links.specs.declared.place.Claim.TheVariants.{Handle, Refused}
use Rattle.amqp_session_links.specs.Claims.{is_at, released, spending, reclaiming, reclaimed_by, reclaimed_up_to}
use Rattle.amqp_session_links.specs.State.{State as Place, attach_ended}
use Rattle.amqp_links.specs.Parts.{Frame, output_of, emptied, handle_of, name_of, is_over}
use Rattle.amqp_links.specs.State.{State, place_of, link_of, at_place, answering}
use Rattle.amqp_links.specs.Taking.{written_at, written, told_at, told, told_on, spent_by_at, spent_by, attach_told_on, attach_told, freed_at, freed, reclaimed_at, reclaimed, given_at, refused_at, placed_by, placed, reattached_at, reattached, taken_up, finished}
use Rattle.link_lives.specs.Lives.{Wrote}
use Rattle.link_lives.specs.Logs.{Of, told_in, is_named, Goes}
use Rattle.link_lives.specs.Logs as logs
use Rattle.link_lives.proofs.Called.{went_same, emptied_went, given_went, refused_went}
use Rattle.link_lives.proofs.Going.{nothing, goes_then, goes_same, goes_still, link_goes, link_stays, place_stays, with_place_goes, goes_either}

-- the frames of a link among what is to be done
told_frames : (link session : ℕ) (xs : List FrameBody) → logs.told (map (Of link) (map (Wrote session) xs)) ≡ map (Frame session) xs
told_frames link session [] = refl
told_frames link session (x ∷ xs) = ap (λ ys. Frame session x ∷ ys) (told_frames link session xs)

released_same : (b : Bool) (handle : ℕ) (p : Place) → (if b then record p { table = table.released handle p.table } else p).accepting ≡ p.accepting
released_same true handle p = refl
released_same false handle p = refl

module _ (P : ℕ → Type 0) where
  written_goes_at : (o : Option Called) (link : ℕ) (s : State) → link_of link s ≡ o → Goes P nothing s (written_at o link s)
  written_goes_at None link s at = goes_still P s
  written_goes_at (Some l) link s at =
      link_goes P link l (emptied l) (map (Wrote l.session) (output_of l)) nothing s (written_at (Some l) link s) at (emptied_went l) (λ n h. refl) refl refl
      (ap (λ xs. s.output ++ xs) (sym (told_frames link l.session (output_of l))))

  pub written_goes : (link : ℕ) (s : State) → Goes P nothing s (written link s)
  written_goes link s = written_goes_at (link_of link s) link s refl

  told_goes_at : (o : Option Called) (link : ℕ) (s : State) → link_of link s ≡ o → Goes P nothing s (told_at o link s)
  told_goes_at None link s at = goes_still P s
  told_goes_at (Some l) link s at = link_stays P link l (answers_taken l) s (told_at (Some l) link s) at (went_same l (answers_taken l) refl refl) refl refl refl

  pub told_goes : (link : ℕ) (s : State) → Goes P nothing s (told link s)
  told_goes link s = told_goes_at (link_of link s) link s refl

  spent_goes_at : (o : Option Called) (session : ℕ) (s : State) → Goes P nothing s (spent_by_at o session s)
  spent_goes_at None session s = goes_still P s
  spent_goes_at (Some l) session s =
      goes_either P l.is_made nothing s s (at_place session (spending (name_of l)) s) (goes_still P s) (place_stays P session (spending (name_of l)) s (λ p. refl))

  attach_told_goes_on : (o : Option ℕ) (link : ℕ) (s : State) → Goes P nothing s (attach_told_on o link s)
  attach_told_goes_on None link s = goes_still P s
  attach_told_goes_on (Some session) link s =
      let t = at_place session attach_ended s in
      goes_then P nothing nothing s t (spent_by session link t) (place_stays P session attach_ended s (λ p. refl)) (spent_goes_at (link_of link t) session t)

  pub attach_told_goes : (link : ℕ) (s : State) → Goes P nothing s (attach_told link s)
  attach_told_goes link s = attach_told_goes_on (told_on link s) link s

  freed_goes_at : (o : Option Called) (link : ℕ) (s : State) → Goes P nothing s (freed_at o link s)
  freed_goes_at None link s = goes_still P s
  freed_goes_at (Some l) link s =
      goes_either P (is_over l) nothing s (at_place l.session (released (handle_of l) link) s) s
      (place_stays P l.session (released (handle_of l) link) s (λ p. released_same (is_at (table.link_at (handle_of l) p.table) link) (handle_of l) p)) (goes_still P s)

  pub freed_goes : (link : ℕ) (s : State) → Goes P nothing s (freed link s)
  freed_goes link s = freed_goes_at (link_of link s) link s

  given_goes_at : (o : Option Called) (handle link : ℕ) (s : State) → link_of link s ≡ o → Goes P nothing s (given_at o handle link s)
  given_goes_at None handle link s at = goes_still P s
  given_goes_at (Some l) handle link s at = link_stays P link l (handle_given handle l) s (given_at (Some l) handle link s) at (given_went handle l) refl refl refl

  refused_goes_at : (o : Option Called) (link : ℕ) (s : State) → link_of link s ≡ o → Goes P nothing s (refused_at o link s)
  refused_goes_at None link s at = goes_still P s
  refused_goes_at (Some l) link s at = link_stays P link l (handle_refused l) s (refused_at (Some l) link s) at (refused_went l) refl refl refl

  placed_goes_by : (c : Claim) (link : ℕ) (s : State) → Goes P nothing s (placed_by c link s)
  placed_goes_by (Handle handle) link s =
      let t = given_at (link_of link s) handle link s in
      goes_then P nothing nothing s t (written link t) (given_goes_at (link_of link s) handle link s refl) (written_goes link t)
  placed_goes_by (Refused error) link s =
      let t = refused_at (link_of link s) link s in
      goes_then P nothing nothing s t (told link t) (refused_goes_at (link_of link s) link s refl) (told_goes link t)

  -- what a link gets to be attached again leaves the calls that wait
  reclaimed_same_by : (r : Result ℕ AllocLinkError) (name : List ℕ) (role : Role) (link : ℕ) (p : Place) → (reclaimed_by r name role link p).state.accepting ≡ p.accepting
  reclaimed_same_by (Ok handle) name role link p = refl
  reclaimed_same_by (Err (full.Memory a)) name role link p = refl
  reclaimed_same_by (Err full.DuplicatedLinkName) name role link p = refl
  reclaimed_same_by (Err full.HandleMaxReached) name role link p = refl

  reclaimed_same_to : (max : Option ℕ) (name : List ℕ) (role : Role) (link : ℕ) (p : Place) → (reclaimed_up_to max name role link p).state.accepting ≡ p.accepting
  reclaimed_same_to None name role link p = refl
  reclaimed_same_to (Some max) name role link p = reclaimed_same_by (table.allocation name role max p.table) name role link p

  reclaimed_goes_at : (o : Option Place) (session : ℕ) (name : List ℕ) (role : Role) (link : ℕ) (s : State) → place_of session s ≡ o → Goes P nothing s (reclaimed_at o session name role link s).state
  reclaimed_goes_at None session name role link s at = goes_still P s
  reclaimed_goes_at (Some p) session name role link s at =
      with_place_goes P session p (reclaiming name role link p).state s at (reclaimed_same_to p.handle_max name role link p)

  pub placed_goes : (session : ℕ) (name : List ℕ) (role : Role) (link : ℕ) (s : State) → Goes P nothing s (placed session name role link s)
  placed_goes session name role link s =
      let c = reclaimed session name role link s in
      goes_then P nothing nothing s c.state (placed_by c.answer link c.state) (reclaimed_goes_at (place_of session s) session name role link s refl) (placed_goes_by c.answer link c.state)

  reattached_goes_at : (o : Option Called) (link : ℕ) (s : State) → Goes P nothing s (reattached_at o link s)
  reattached_goes_at None link s = goes_still P s
  reattached_goes_at (Some l) link s =
      goes_either P (wants_handle l) nothing s (placed l.session (name_of l) (role_of l.side) link s) s (placed_goes l.session (name_of l) (role_of l.side) link s) (goes_still P s)

  pub reattached_goes : (link : ℕ) (s : State) → Goes P nothing s (reattached link s)
  reattached_goes link s = reattached_goes_at (link_of link s) link s

  five_go : (a b c d e f : State) → Goes P nothing a b → Goes P nothing b c → Goes P nothing c d → Goes P nothing d e → Goes P nothing e f → Goes P nothing a f
  five_go a b c d e f p q r t u =
      goes_then P nothing nothing a b f p (goes_then P nothing nothing b c f q (goes_then P nothing nothing c d f r (goes_then P nothing nothing d e f t u)))

  pub taken_goes : (link : ℕ) (s : State) → Goes P nothing s (taken_up link s)
  taken_goes link s =
      let a = written link s in
      let b = told link a in
      let c = attach_told link b in
      let d = freed link c in
      five_go s a b c d (reattached link d) (written_goes link s) (told_goes link a) (attach_told_goes link b) (freed_goes link c) (reattached_goes link d)

  pub finished_goes : (name link : ℕ) (x : LinkReply) (s : State) → Goes P nothing s (finished name link x s)
  finished_goes name link x s =
      goes_then P nothing nothing s (answering name x s) (taken_up link (answering name x s)) (goes_same P s (answering name x s) refl refl refl) (taken_goes link (answering name x s))
