-- What calls for sessions an end refuses by itself.
use Rattle.std.proofs.Common.{ℕ, List, [], ◌∷◌, ◌++◌}
use Rattle.amqp_wire.specs.declared.link.Link.{Ghosts}
use Rattle.amqp_links.specs.State.{State as Links}
use Rattle.amqp_peer.specs.Peering.{Peering}
use Rattle.amqp_peer.specs.declared.held.Held.{Held}
use Rattle.amqp_session.specs.declared.error.BeginError.{BeginError}
use Rattle.amqp_session.specs.declared.error.BeginError.TheVariants as begin
use Rattle.amqp_sessions.specs.State.{State}
use Rattle.amqp_end.specs.Deeds.{Deed, IsDeed, Did, Makes, Polls, Goes, Moves, Hears, Writes, Seats, Lacks, Frees, Accepts, Asks, LinksHear, LinksWrite, LinksLack, LinksKnow, LinksLook, Tells, TellsFirst}
use Rattle.amqp_end.specs.Moves.{Move, IsCaused, IsRefusedFor}
use Rattle.amqp_end.specs.Moves as move
use Rattle.session_answers.specs.Passing.{added, refused_in, refused_of}
use Rattle.session_answers.specs.Refusals.{IsOwn, AreOwn}

own_both : (xs ys : List (ℕ × BeginError)) → AreOwn xs → AreOwn ys → AreOwn (xs ++ ys)
own_both [] ys k h = h
own_both (x ∷ xs) ys k h = (k.0, own_both xs ys k.1 h)

own_error : {L : Type 0} (e : BeginError) (h : Held L) → IsRefusedFor e h → IsOwn e
own_error (begin.Memory x) h k = k
own_error (begin.SessionStopped x) h k = k
own_error begin.LocalChannelMaxReached h k = tt
own_error begin.RemoteEnded h k = k
own_error begin.IllegalState h k = tt

own_move : {L : Type 0} (m : Move) (h : Held L) → IsCaused m h → AreOwn (refused_in m)
own_move (move.Begun name x channel limit) h k = tt
own_move (move.Awaiting name x) h k = tt
own_move (move.Refused name error) h k = (own_error error h k, tt)
own_move (move.Ended name session condition) h k = tt
own_move (move.HandedOut name) h k = tt
own_move (move.Halted why) h k = tt
own_move (move.Concluded why) h k = tt

own_deed : {L : Type 0} (link : Ghosts L) (at : ℕ) (d : Deed) (p p' : Peering L) (s s' : State) (l l' : Links) → IsDeed link at p s l d p' s' l' → AreOwn (refused_of d)
own_deed link at (Makes name call events) p p' s s' l l' k = tt
own_deed link at (Polls events) p p' s s' l l' k = tt
own_deed link at (Goes events) p p' s s' l l' k = tt
own_deed link at (Moves m) p p' s s' l l' k = own_move m p.held k.3
own_deed link at (Hears x) p p' s s' l l' k = tt
own_deed link at (Writes x events) p p' s s' l l' k = tt
own_deed link at (Seats channel) p p' s s' l l' k = tt
own_deed link at (Lacks e) p p' s s' l l' k = tt
own_deed link at (Frees channel) p p' s s' l l' k = tt
own_deed link at (Accepts name x channel limit incoming) p p' s s' l l' k = tt
own_deed link at (Asks name call) p p' s s' l l' k = tt
own_deed link at (LinksHear session x) p p' s s' l l' k = tt
own_deed link at (LinksWrite session x) p p' s s' l l' k = tt
own_deed link at (LinksLack session) p p' s s' l l' k = tt
own_deed link at LinksKnow p p' s s' l l' k = tt
own_deed link at LinksLook p p' s s' l l' k = tt
own_deed link at (Tells answers) p p' s s' l l' k = tt
own_deed link at (TellsFirst name answers) p p' s s' l l' k = tt

pub ends_refuse : {L : Type 0} (link : Ghosts L) (at : ℕ) (q : Peering L) (s : State) (l : Links) (ds : List Deed) (q' : Peering L) (s' : State) (l' : Links) → Did link at q s l ds q' s' l' → AreOwn (added refused_of ds)
ends_refuse link at q s l [] q' s' l' k = tt
ends_refuse link at q s l (d ∷ ds) q' s' l' k =
    own_both (added refused_of ds) (refused_of d) (ends_refuse link at q s l ds k.0 k.1 k.2 k.3) (own_deed link at d k.0 q' k.1 s' k.2 l' k.4)
