-- What has become of a link is taken up, and no more deliveries end.
use Rattle.std.specs.Prelude.{◌≡◌, ◌≤◌, ◌+◌, ℕ, Bool, true, false, List, [], ◌∷◌, ◌++◌, map, Option, Some, None, Result, Ok, Err, if◌then◌else◌, refl}
use Rattle.std.proofs.Common.{sym, ap, arith}
use Rattle.amqp_composites.specs.declared.modes.Role.{Role}
use Rattle.amqp_frames.specs.declared.body.FrameBody.{FrameBody}
use Rattle.amqp_link_tables.specs.declared.error.AllocLinkError.{AllocLinkError}
use Rattle.amqp_link_tables.specs.declared.error.AllocLinkError.TheVariants as full
use Rattle.amqp_link_tables.specs.Calls as table
use Rattle.amqp_link_calls.specs.Answering.{answers_taken}
use Rattle.amqp_link_calls.specs.Called.{Called}
use Rattle.amqp_link_calls.specs.Leaving.{wants_handle, handle_given, handle_refused}
use Rattle.amqp_link_calls.specs.Side.{role_of}
use Rattle.amqp_link_words.specs.declared.link_reply.LinkReply.{LinkReply}
use Rattle.amqp_session_links.specs.declared.place.Claim.{Claim}
use Rattle.amqp_session_links.specs.declared.place.Claim.TheVariants.{Handle, Refused}
use Rattle.amqp_session_links.specs.Claims.{is_at, released, spending, reclaiming, reclaimed_by, reclaimed_up_to}
use Rattle.amqp_session_links.specs.State.{State as Place, attach_ended}
use Rattle.amqp_links.specs.Parts.{Frame, output_of, emptied, handle_of, name_of, is_over}
use Rattle.amqp_links.specs.State.{State, place_of, link_of, at_place, answering}
use Rattle.amqp_links.specs.Taking.{written_at, written, told_at, told, told_on, spent_by_at, spent_by, attach_told_on, attach_told, freed_at, freed, reclaimed_at, reclaimed, given_at, refused_at, placed_by, placed, reattached_at, reattached, taken_up, finished}
use Rattle.link_lives.specs.Lives.{Wrote}
use Rattle.link_lives.proofs.Called.{emptied_went, given_went, refused_went}
use Rattle.served_connection.proofs.ListenLaws.Totals.{total, total_nil}
use Rattle.served_connection.proofs.ListenLaws.Weights.{is_given, given_of, of_called}
use Rattle.served_connection.proofs.ListenLaws.Quiet.{refused_quiet}
use Rattle.served_connection.proofs.ListenLaws.Going.{Falls, Grows, falls_then, falls_still, falls_either, falls_answers, grows_answers, grows_before, link_stays, place_stays, with_place_falls, answers_told_fall}

released_same : (b : Bool) (handle : ℕ) (p : Place) → (if b then record p { table = table.released handle p.table } else p).early ≡ p.early
released_same true handle p = refl
released_same false handle p = refl

written_falls_at : (o : Option Called) (link : ℕ) (s : State) → link_of link s ≡ o → Falls s (written_at o link s)
written_falls_at None link s at = falls_still s
written_falls_at (Some l) link s at =
    link_stays link l (emptied l) (map (Wrote l.session) (output_of l)) s (written_at (Some l) link s) at (emptied_went l) refl refl refl refl

pub written_falls : (link : ℕ) (s : State) → Falls s (written link s)
written_falls link s = written_falls_at (link_of link s) link s refl

-- its answers are told
pub taken_weight : (l : Called) → of_called (answers_taken l) + total given_of l.answers ≤ of_called l
taken_weight l = omega (arith, total_nil given_of)

told_falls_at : (o : Option Called) (link : ℕ) (s : State) → link_of link s ≡ o → Falls s (told_at o link s)
told_falls_at None link s at = falls_still s
told_falls_at (Some l) link s at = answers_told_fall link l (answers_taken l) l.answers s at (taken_weight l)

pub told_falls : (link : ℕ) (s : State) → Falls s (told link s)
told_falls link s = told_falls_at (link_of link s) link s refl

spent_falls_at : (o : Option Called) (session : ℕ) (s : State) → Falls s (spent_by_at o session s)
spent_falls_at None session s = falls_still s
spent_falls_at (Some l) session s =
    falls_either l.is_made s s (at_place session (spending (name_of l)) s) (falls_still s) (place_stays session (spending (name_of l)) s (λ p. refl))

attach_told_falls_on : (o : Option ℕ) (link : ℕ) (s : State) → Falls s (attach_told_on o link s)
attach_told_falls_on None link s = falls_still s
attach_told_falls_on (Some session) link s =
    let t = at_place session attach_ended s in
    falls_then s t (spent_by session link t) (place_stays session attach_ended s (λ p. refl)) (spent_falls_at (link_of link t) session t)

pub attach_told_falls : (link : ℕ) (s : State) → Falls s (attach_told link s)
attach_told_falls link s = attach_told_falls_on (told_on link s) link s

freed_falls_at : (o : Option Called) (link : ℕ) (s : State) → Falls s (freed_at o link s)
freed_falls_at None link s = falls_still s
freed_falls_at (Some l) link s =
    falls_either (is_over l) s (at_place l.session (released (handle_of l) link) s) s
    (place_stays l.session (released (handle_of l) link) s (λ p. released_same (is_at (table.link_at (handle_of l) p.table) link) (handle_of l) p)) (falls_still s)

pub freed_falls : (link : ℕ) (s : State) → Falls s (freed link s)
freed_falls link s = freed_falls_at (link_of link s) link s

given_falls_at : (o : Option Called) (handle link : ℕ) (s : State) → link_of link s ≡ o → Falls s (given_at o handle link s)
given_falls_at None handle link s at = falls_still s
given_falls_at (Some l) handle link s at = link_stays link l (handle_given handle l) [] s (given_at (Some l) handle link s) at (given_went handle l) refl refl refl refl

refused_falls_at : (o : Option Called) (link : ℕ) (s : State) → link_of link s ≡ o → Falls s (refused_at o link s)
refused_falls_at None link s at = falls_still s
refused_falls_at (Some l) link s at = link_stays link l (handle_refused l) [] s (refused_at (Some l) link s) at (refused_went l) (refused_quiet l) refl refl refl

placed_falls_by : (c : Claim) (link : ℕ) (s : State) → Falls s (placed_by c link s)
placed_falls_by (Handle handle) link s =
    let t = given_at (link_of link s) handle link s in
    falls_then s t (written link t) (given_falls_at (link_of link s) handle link s refl) (written_falls link t)
placed_falls_by (Refused error) link s =
    let t = refused_at (link_of link s) link s in
    falls_then s t (told link t) (refused_falls_at (link_of link s) link s refl) (told_falls link t)

-- what a link gets to be attached again leaves the calls that wait
reclaimed_same_by : (r : Result ℕ AllocLinkError) (name : List ℕ) (role : Role) (link : ℕ) (p : Place) → (reclaimed_by r name role link p).state.early ≡ p.early
reclaimed_same_by (Ok handle) name role link p = refl
reclaimed_same_by (Err (full.Memory a)) name role link p = refl
reclaimed_same_by (Err full.DuplicatedLinkName) name role link p = refl
reclaimed_same_by (Err full.HandleMaxReached) name role link p = refl

reclaimed_same_to : (max : Option ℕ) (name : List ℕ) (role : Role) (link : ℕ) (p : Place) → (reclaimed_up_to max name role link p).state.early ≡ p.early
reclaimed_same_to None name role link p = refl
reclaimed_same_to (Some max) name role link p = reclaimed_same_by (table.allocation name role max p.table) name role link p

reclaimed_falls_at : (o : Option Place) (session : ℕ) (name : List ℕ) (role : Role) (link : ℕ) (s : State) → place_of session s ≡ o → Falls s (reclaimed_at o session name role link s).state
reclaimed_falls_at None session name role link s at = falls_still s
reclaimed_falls_at (Some p) session name role link s at =
    with_place_falls session p (reclaiming name role link p).state s at (reclaimed_same_to p.handle_max name role link p)

pub placed_falls : (session : ℕ) (name : List ℕ) (role : Role) (link : ℕ) (s : State) → Falls s (placed session name role link s)
placed_falls session name role link s =
    let c = reclaimed session name role link s in
    falls_then s c.state (placed_by c.answer link c.state) (reclaimed_falls_at (place_of session s) session name role link s refl) (placed_falls_by c.answer link c.state)

reattached_falls_at : (o : Option Called) (link : ℕ) (s : State) → Falls s (reattached_at o link s)
reattached_falls_at None link s = falls_still s
reattached_falls_at (Some l) link s =
    falls_either (wants_handle l) s (placed l.session (name_of l) (role_of l.side) link s) s (placed_falls l.session (name_of l) (role_of l.side) link s) (falls_still s)

pub reattached_falls : (link : ℕ) (s : State) → Falls s (reattached link s)
reattached_falls link s = reattached_falls_at (link_of link s) link s

five_fall : (a b c d e f : State) → Falls a b → Falls b c → Falls c d → Falls d e → Falls e f → Falls a f
five_fall a b c d e f p q r t u =
    falls_then a b f p (falls_then b c f q (falls_then c d f r (falls_then d e f t u)))

pub taken_falls : (link : ℕ) (s : State) → Falls s (taken_up link s)
taken_falls link s =
    let a = written link s in
    let b = told link a in
    let c = attach_told link b in
    let d = freed link c in
    five_fall s a b c d (reattached link d) (written_falls link s) (told_falls link a) (attach_told_falls link b) (freed_falls link c) (reattached_falls link d)

pub finished_falls : (name link : ℕ) (x : LinkReply) (s : State) → is_given x ≡ 0 → Falls s (finished name link x s)
finished_falls name link x s h =
    falls_then s (answering name x s) (taken_up link (answering name x s)) (falls_answers name x s h) (taken_falls link (answering name x s))

-- an answer may give a delivery
pub finished_grows : (name link : ℕ) (x : LinkReply) (s : State) → Grows (is_given x) s (finished name link x s)
finished_grows name link x s =
    grows_before (is_given x) s (answering name x s) (taken_up link (answering name x s)) (grows_answers name x s) (taken_falls link (answering name x s))
