-- Ends that carry sessions, in words of what happened at each, and of what their sessions were handed and gave (OASIS AMQP 1.0, part 2, section
-- 2.5).
use Rattle.std.specs.Prelude.{◌≡◌, ℕ, nat_eq, List, ◌++◌, [], filter, Bool, true}
use Rattle.amqp_transport.specs.declared.frames.Frame.{Frame}
use Rattle.amqp_peer.specs.Frames.{sessions_of, asking_of, others_of}
use Rattle.amqp_peer.specs.Hearing.{hears_in, waiting_in, asked_in}
use Rattle.amqp_peer.specs.History.{Local, given_in, sent_in}
use Rattle.amqp_peer.specs.Peering.{Peering, Has}

-- these are the first of those
abbrev pub IsFront : List Frame → List Frame → Type 0
IsFront xs all = (later : List Frame) × (xs ++ later ≡ all)

-- What the sessions of an end were handed are the first frames of sessions that its connection was given: those that ask for a session, and
-- the others. What the connection queued of sessions are the first frames that they gave it.
pub record Carries (asked heard gave : List Frame) (h : List Local) : Type 0 where
  pub asked_first : IsFront asked (asking_of (sessions_of (given_in h)))
  pub heard_first : IsFront heard (others_of (sessions_of (given_in h)))
  pub sent_first : IsFront (sessions_of (sent_in h)) gave

-- these are the first of those, and all of them while the connection hears
abbrev pub IsUpTo : Bool → List Frame → List Frame → Type 0
IsUpTo hears xs all = (later : List Frame) × (xs ++ later ≡ all) × (hears ≡ true → later ≡ [])

-- the frames on that channel of the peer (part 2, section 2.3.1)
abbrev pub on_channel : ℕ → List Frame → List Frame
on_channel channel xs = filter (λ x. nat_eq channel x.channel) xs

-- The same of an end, with what waits at its connection: while it hears, nothing was lost.
pub record Serves {L : Type 0} (p : Peering L) (asked heard gave : List Frame) (h : List Local) : Type 0 where
  pub has : Has p h
  pub asked_all : IsUpTo (hears_in p.held) (asked ++ asked_in p.held) (asking_of (sessions_of (given_in h)))
  pub heard_all : IsUpTo (hears_in p.held) (heard ++ waiting_in p.held) (others_of (sessions_of (given_in h)))
  pub sent_all : IsUpTo (hears_in p.held) (sessions_of (sent_in h)) gave
