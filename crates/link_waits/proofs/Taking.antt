-- What has become of a link is taken up, and calls wait as before.
use Rattle.std.specs.Prelude.{◌≡◌, ℕ, nat_eq, Bool, true, false, List, Option, Some, None, Result, Ok, Err, if◌then◌else◌, refl}
use Rattle.std.proofs.Common.{sym, ◌∙◌, ap, subst}
use Rattle.std.specs.Map.{lookup}
use Rattle.amqp_composites.specs.declared.modes.Role.{Role}
use Rattle.amqp_link_tables.specs.declared.error.AllocLinkError.{AllocLinkError}
use Rattle.amqp_link_tables.specs.declared.error.AllocLinkError.TheVariants as full
use Rattle.amqp_link_tables.specs.Calls as table
use Rattle.amqp_link_calls.specs.Answering.{answers_taken}
use Rattle.amqp_link_calls.specs.Called.{Called}
use Rattle.amqp_link_calls.specs.Leaving.{wants_handle, handle_given, handle_refused}
use Rattle.amqp_link_calls.specs.Side.{role_of}
use Rattle.amqp_link_words.specs.declared.link_reply.LinkReply.{LinkReply}
use Rattle.amqp_session_links.specs.declared.place.Claim.{Claim}
use Rattle.amqp_session_links.specs.declared.place.Claim.TheVariants.{Handle, Refused}
use Rattle.amqp_session_links.specs.Claims.{is_at, released, spending, reclaimed_by, reclaimed_up_to}
use Rattle.amqp_session_links.specs.State.{State as Place, attach_ended}
use Rattle.amqp_links.specs.Parts.{emptied, handle_of, name_of, is_over}
use Rattle.amqp_links.specs.State.{State, place_of, link_of, at_place, answering}
use Rattle.amqp_links.specs.Taking.{written_at, written, told_at, told, told_on, spent_by_at, spent_by, attach_told_on, attach_told, freed_at, freed, reclaimed_at, reclaimed, given_at, refused_at, placed_by, placed, reattached_at, reattached, taken_up, finished}
use Rattle.call_waits.specs.Moves.{Writes, Answers, GetsHandle, GetsNoHandle}
use Rattle.call_waits.proofs.Moves.{waits_on}
use Rattle.link_waits.specs.Waits.{AcceptWaits}
use Rattle.link_waits.proofs.Steps.{Goes, goes_still, goes_then, goes_either, goes_same, link_goes, with_place_goes, place_goes}

written_by : (o : Option Called) (link : ℕ) (s : State) → link_of link s ≡ o → Goes s (written_at o link s)
written_by None link s at = goes_still s
written_by (Some l) link s at = link_goes link l (emptied l) s (written_at (Some l) link s) at (λ w. waits_on Writes l tt w) refl refl

pub written_goes : (link : ℕ) (s : State) → Goes s (written link s)
written_goes link s = written_by (link_of link s) link s refl

told_by : (o : Option Called) (link : ℕ) (s : State) → link_of link s ≡ o → Goes s (told_at o link s)
told_by None link s at = goes_still s
told_by (Some l) link s at = link_goes link l (answers_taken l) s (told_at (Some l) link s) at (λ w. waits_on Answers l tt w) refl refl

told_goes : (link : ℕ) (s : State) → Goes s (told link s)
told_goes link s = told_by (link_of link s) link s refl

spent_goes : (o : Option Called) (session : ℕ) (s : State) → Goes s (spent_by_at o session s)
spent_goes None session s = goes_still s
spent_goes (Some l) session s = goes_either l.is_made s s (at_place session (spending (name_of l)) s) (goes_still s) (place_goes session (spending (name_of l)) s (λ p h. h))

attach_told_by : (o : Option ℕ) (link : ℕ) (s : State) → Goes s (attach_told_on o link s)
attach_told_by None link s = goes_still s
attach_told_by (Some session) link s =
    let t = at_place session attach_ended s in goes_then s t (spent_by session link t) (place_goes session attach_ended s (λ p h. h)) (spent_goes (link_of link t) session t)

pub attach_told_goes : (link : ℕ) (s : State) → Goes s (attach_told link s)
attach_told_goes link s = attach_told_by (told_on link s) link s

released_accepts : (b : Bool) (p q : Place) → (AcceptWaits p → AcceptWaits q) → AcceptWaits p → AcceptWaits (if b then q else p)
released_accepts true p q f h = f h
released_accepts false p q f h = h

released_goes : (l : Called) (link : ℕ) (s : State) → Goes s (at_place l.session (released (handle_of l) link) s)
released_goes l link s =
    place_goes l.session (released (handle_of l) link) s
    (λ p h. released_accepts (is_at (table.link_at (handle_of l) p.table) link) p (record p { table = table.released (handle_of l) p.table }) (λ k. k) h)

freed_by : (o : Option Called) (link : ℕ) (s : State) → Goes s (freed_at o link s)
freed_by None link s = goes_still s
freed_by (Some l) link s = goes_either (is_over l) s (at_place l.session (released (handle_of l) link) s) s (released_goes l link s) (goes_still s)

freed_goes : (link : ℕ) (s : State) → Goes s (freed link s)
freed_goes link s = freed_by (link_of link s) link s

-- ---- a further attachment

reclaimed_result : (r : Result ℕ AllocLinkError) (name : List ℕ) (role : Role) (link : ℕ) (p : Place) → AcceptWaits p → AcceptWaits (reclaimed_by r name role link p).state
reclaimed_result (Ok handle) name role link p h = h
reclaimed_result (Err (full.Memory a)) name role link p h = h
reclaimed_result (Err full.DuplicatedLinkName) name role link p h = h
reclaimed_result (Err full.HandleMaxReached) name role link p h = h

reclaimed_max : (max : Option ℕ) (name : List ℕ) (role : Role) (link : ℕ) (p : Place) → AcceptWaits p → AcceptWaits (reclaimed_up_to max name role link p).state
reclaimed_max None name role link p h = h
reclaimed_max (Some max) name role link p h = reclaimed_result (table.allocation name role max p.table) name role link p h

reclaimed_by_place : (o : Option Place) (session : ℕ) (name : List ℕ) (role : Role) (link : ℕ) (s : State) → place_of session s ≡ o → Goes s (reclaimed_at o session name role link s).state
reclaimed_by_place None session name role link s at = goes_still s
reclaimed_by_place (Some p) session name role link s at = with_place_goes session p (reclaimed_up_to p.handle_max name role link p).state s at (λ h. reclaimed_max p.handle_max name role link p h)

reclaimed_endpoints : (o : Option Place) (session : ℕ) (name : List ℕ) (role : Role) (link : ℕ) (s : State) → (reclaimed_at o session name role link s).state.endpoints ≡ s.endpoints
reclaimed_endpoints None session name role link s = refl
reclaimed_endpoints (Some p) session name role link s = refl

-- the link is to be attached again
abbrev Wants : ℕ → State → Type 0
Wants link s = (l : Called) → link_of link s ≡ Some l → wants_handle l ≡ true

given_by : (o : Option Called) (handle link : ℕ) (s : State) → link_of link s ≡ o → Wants link s → Goes s (given_at o handle link s)
given_by None handle link s at h = goes_still s
given_by (Some l) handle link s at h = link_goes link l (handle_given handle l) s (given_at (Some l) handle link s) at (λ w. waits_on (GetsHandle handle) l (h l at) w) refl refl

refused_by : (o : Option Called) (link : ℕ) (s : State) → link_of link s ≡ o → Wants link s → Goes s (refused_at o link s)
refused_by None link s at h = goes_still s
refused_by (Some l) link s at h = link_goes link l (handle_refused l) s (refused_at (Some l) link s) at (λ w. waits_on GetsNoHandle l (h l at) w) refl refl

placed_goes : (c : Claim) (link : ℕ) (s : State) → Wants link s → Goes s (placed_by c link s)
placed_goes (Handle handle) link s h =
    let t = given_at (link_of link s) handle link s in goes_then s t (written link t) (given_by (link_of link s) handle link s refl h) (written_goes link t)
placed_goes (Refused error) link s h =
    let t = refused_at (link_of link s) link s in goes_then s t (told link t) (refused_by (link_of link s) link s refl h) (told_goes link t)

reattached_if : (b : Bool) (l : Called) (link : ℕ) (s : State) → link_of link s ≡ Some l → wants_handle l ≡ b → Goes s (if b then placed l.session (name_of l) (role_of l.side) link s else s)
reattached_if false l link s at e = goes_still s
reattached_if true l link s at e =
    let c = reclaimed l.session (name_of l) (role_of l.side) link s in
    let o = place_of l.session s in
    goes_then s c.state (placed_by c.answer link c.state) (reclaimed_by_place o l.session (name_of l) (role_of l.side) link s refl)
    (placed_goes c.answer link c.state (λ k h. subst (λ (x : Called). wants_handle x ≡ true) (same l k (sym at ∙ (sym (ap (lookup (nat_eq link)) (reclaimed_endpoints o l.session (name_of l) (role_of l.side) link s)) ∙ h))) e))
  where
    same : (k m : Called) → Some k ≡ Some m → k ≡ m
    same k m e = cc

reattached_by : (o : Option Called) (link : ℕ) (s : State) → link_of link s ≡ o → Goes s (reattached_at o link s)
reattached_by None link s at = goes_still s
reattached_by (Some l) link s at = reattached_if (wants_handle l) l link s at refl

reattached_goes : (link : ℕ) (s : State) → Goes s (reattached link s)
reattached_goes link s = reattached_by (link_of link s) link s refl

-- ---- all of it

pub taken_goes : (link : ℕ) (s : State) → Goes s (taken_up link s)
taken_goes link s =
    let a = written link s in
    let b = told link a in
    let c = attach_told link b in
    let d = freed link c in
    goes_then s a (reattached link d) (written_goes link s)
    (goes_then a b (reattached link d) (told_goes link a)
    (goes_then b c (reattached link d) (attach_told_goes link b) (goes_then c d (reattached link d) (freed_goes link c) (reattached_goes link d))))

pub finished_goes : (name link : ℕ) (reply : LinkReply) (s : State) → Goes s (finished name link reply s)
finished_goes name link reply s = let t = answering name reply s in goes_then s t (taken_up link t) (goes_same s t refl refl) (taken_goes link t)
