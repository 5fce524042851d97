-- The exchanges of two ends, one of which is a client's and the other a listener's.
use Rattle.std.proofs.Common.{◌≡◌, ◌≢◌, ℕ, List, [], ◌++◌}
use Rattle.std.specs.Prelude.{⊤}
use Rattle.amqp_sasl_bodies.specs.declared.sasl_body.SaslBody.{SaslBody}
use Rattle.sasl_exchange.specs.declared.exchange.Turn.TheVariants.{Send, Pass}
use Rattle.sasl_gate.specs.Frames.{Heard}
use Rattle.sasl_gate.specs.Negotiation.{IsHeard}
use Rattle.amqp_opening.specs.declared.authentication.Authentication.{Authentication}
use Rattle.amqp_opening.specs.declared.authentication.Authentication.TheVariants.{Idle, Client, Listener}
use Rattle.amqp_opening.specs.declared.authentication.SaslCall.{SaslCall}
use Rattle.amqp_opening.specs.declared.authentication.SaslCall.TheVariants as call
use Rattle.amqp_opening.specs.Authentication.{MadeFor, holds_by, turn_by}
use Rattle.amqp_pairs.specs.Streams.{IsSaid}
use Rattle.amqp_pairs.proofs.Passing.{client_heard_all, listener_heard_all}
use Rattle.amqp_pairs.proofs.Still.{both_still, client_given_some, listener_given_some}

-- one is asked for by a client and the other by a listener
abbrev pub AreOpposed : SaslCall → SaslCall → Type 0
AreOpposed (call.Client p hostname) (call.Client q other) = ⊥
AreOpposed (call.Client p hostname) (call.Listener q) = ⊤
AreOpposed (call.Listener p) (call.Client q hostname) = ⊤
AreOpposed (call.Listener p) (call.Listener q) = ⊥

-- one is a client's exchange and the other a listener's
abbrev pub AreOpposedEnds : Authentication → Authentication → Type 0
AreOpposedEnds Idle y = ⊥
AreOpposedEnds (Client x) Idle = ⊥
AreOpposedEnds (Client x) (Client y) = ⊥
AreOpposedEnds (Client x) (Listener y) = ⊤
AreOpposedEnds (Listener x) Idle = ⊥
AreOpposedEnds (Listener x) (Client y) = ⊤
AreOpposedEnds (Listener x) (Listener y) = ⊥

pub opposed_ends : (c far : SaslCall) (x y : Authentication) → AreOpposed c far → MadeFor c x → MadeFor far y → AreOpposedEnds x y
opposed_ends (call.Client p hostname) (call.Client q other) x y o m n = absurd o
opposed_ends (call.Client p hostname) (call.Listener q) Idle y o m n = absurd m
opposed_ends (call.Client p hostname) (call.Listener q) (Listener x) y o m n = absurd m
opposed_ends (call.Client p hostname) (call.Listener q) (Client x) Idle o m n = absurd n
opposed_ends (call.Client p hostname) (call.Listener q) (Client x) (Client y) o m n = absurd n
opposed_ends (call.Client p hostname) (call.Listener q) (Client x) (Listener y) o m n = tt
opposed_ends (call.Listener p) (call.Client q hostname) Idle y o m n = absurd m
opposed_ends (call.Listener p) (call.Client q hostname) (Client x) y o m n = absurd m
opposed_ends (call.Listener p) (call.Client q hostname) (Listener x) Idle o m n = absurd n
opposed_ends (call.Listener p) (call.Client q hostname) (Listener x) (Client y) o m n = tt
opposed_ends (call.Listener p) (call.Client q hostname) (Listener x) (Listener y) o m n = absurd n
opposed_ends (call.Listener p) (call.Listener q) x y o m n = absurd o

-- an end that passes was given a body
pub given_some : (x : Authentication) (given sent : List SaslBody) → turn_by x ≡ Pass → holds_by x given sent → given ≡ [] → ⊥
given_some Idle given sent t h none = absurd h
given_some (Client x) given sent t h none = client_given_some x given sent h t none
given_some (Listener y) given sent t h none = listener_given_some y given sent h t none

-- it heard all that the other said
pub heard_all : (x y : Authentication) (given sent far_given far_sent : List SaslBody) (read rest coming after far_read far_coming far_after : List ℕ) → AreOpposedEnds x y
    → holds_by x given sent → holds_by y far_given far_sent → IsSaid read coming after far_sent → IsHeard far_read far_given → IsSaid far_read far_coming far_after sent
    → Heard read given rest → turn_by x ≡ Pass → (given ≡ far_sent) × (rest ++ coming ≡ after)
heard_all Idle y given sent far_given far_sent read rest coming after far_read far_coming far_after o h k s i t f turn = absurd o
heard_all (Client x) Idle given sent far_given far_sent read rest coming after far_read far_coming far_after o h k s i t f turn = absurd o
heard_all (Client x) (Client y) given sent far_given far_sent read rest coming after far_read far_coming far_after o h k s i t f turn = absurd o
heard_all (Client x) (Listener y) given sent far_given far_sent read rest coming after far_read far_coming far_after o h k s i t f turn =
    client_heard_all x y given sent far_given far_sent read rest coming after far_read far_coming far_after h k s i t f turn
heard_all (Listener x) Idle given sent far_given far_sent read rest coming after far_read far_coming far_after o h k s i t f turn = absurd o
heard_all (Listener x) (Client y) given sent far_given far_sent read rest coming after far_read far_coming far_after o h k s i t f turn =
    listener_heard_all y x far_given far_sent given sent far_read far_coming far_after read rest coming after k h i t s f turn
heard_all (Listener x) (Listener y) given sent far_given far_sent read rest coming after far_read far_coming far_after o h k s i t f turn = absurd o

-- Two ends of which each was given all that the other sent, and neither has anything to send, both pass. So their mechanisms are the same:
-- a client that was given a list of others has failed, and holds no such bodies.
pub both_pass : (x y : Authentication) (given sent far_given far_sent : List SaslBody) → AreOpposedEnds x y → holds_by x given sent → holds_by y far_given far_sent
    → given ≡ far_sent → far_given ≡ sent → turn_by x ≢ Send → turn_by y ≢ Send → (turn_by x ≡ Pass) × (turn_by y ≡ Pass)
both_pass Idle y given sent far_given far_sent o h k e f s t = absurd o
both_pass (Client x) Idle given sent far_given far_sent o h k e f s t = absurd o
both_pass (Client x) (Client y) given sent far_given far_sent o h k e f s t = absurd o
both_pass (Client x) (Listener y) given sent far_given far_sent o h k e f s t = both_still x y given sent far_given far_sent h k e f s t
both_pass (Listener x) Idle given sent far_given far_sent o h k e f s t = absurd o
both_pass (Listener x) (Client y) given sent far_given far_sent o h k e f s t =
    let r = both_still y x far_given far_sent given sent k h f e t s in (r.1, r.0)
both_pass (Listener x) (Listener y) given sent far_given far_sent o h k e f s t = absurd o
