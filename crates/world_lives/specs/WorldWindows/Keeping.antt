-- Two sessions of which each hears what the other gives, as frames are read again (OASIS AMQP 1.0, part 2, section
-- 2.5.6).
use Rattle.std.specs.Prelude.{◌≡◌, ℕ, ◌+◌, ◌<◌, ◌≤◌, Bool, true, false, List, ◌++◌, map, All}
use Rattle.amqp_frames.specs.declared.body.FrameBody.{FrameBody}
use Rattle.amqp_frames.specs.declared.body.FrameBody.TheVariants as b
use Rattle.amqp_frames.specs.Body.{read_again_body}
use Rattle.amqp_session.specs.State.{Framed}
use Rattle.session_laws.specs.Handing.{heard}
use Rattle.session_laws.specs.Holding.{Move, after_all}
use Rattle.session_laws.specs.Speaking.{bodies}
use Rattle.session_lives.specs.Channels.{IsJoined}
use Rattle.window_laws.specs.Announcing.{Announces}
use Rattle.window_laws.specs.Counting.{count}
use Rattle.window_laws.specs.Starting.{Start, session_of, reads, writes, window, first_number}
use Rattle.world_lives.specs.Hearing.{are, AreFirst}

-- each frame but a Begin
abbrev pub is_later : FrameBody → Bool
is_later (b.Begin x) = false
is_later other = true

-- Up to a moment the one session has read the first frames that the other has written, and since then it has heard
-- the first of the others, Begins aside.
pub record Follows (u : Start) (js since : List Move) (t : Start) (ns : List Move) : Type 0 where
  pub gave : List Framed
  pub rest : List Framed
  pub whole : gave ++ rest ≡ writes t ns
  pub before : bodies (reads u js) ≡ map read_again_body (bodies gave)
  pub later : AreFirst (are is_later (heard since)) (map read_again_body (are is_later rest))

-- a Flow names that incoming-window
abbrev pub Tells : ℕ → FrameBody → Type 0
Tells size (b.Flow x) = x.incoming_window ≡ size
Tells size other = Unit {0}

-- Of the one session's window the other has heard that number alone, and it has written no more Transfers than the one
-- has read and its window, as long as that is less than 2^32.
pub record Kept (t : Start) (ns after : List Move) (u : Start) (js since : List Move) : Type 0 where
  pub begun : All (λ (x : Framed). Announces (window u) x.body) (reads t ns)
  pub told : All (λ (x : Framed). Tells (window u) x.body) (heard after)
  pub kept : count (reads u (js ++ since)) + window u < 4294967296
      → count (writes t (ns ++ after)) ≤ count (reads u (js ++ since)) + window u

-- two sessions, each from its begin on, which the peer has begun by the moment
abbrev pub KeepsFacing : Type 0
KeepsFacing =
    (t : Start) (ns after : List Move) (u : Start) (js since : List Move) (c d : ℕ)
    → IsJoined c (after_all (session_of u) js) → IsJoined d (after_all (session_of t) ns)
    → Follows u js since t (ns ++ after) → Follows t ns after u (js ++ since) → first_number t < 4294967296
    → Kept t ns after u js since
