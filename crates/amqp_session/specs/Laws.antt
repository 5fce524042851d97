-- What follows of the rules of a session (OASIS AMQP 1.0, part 2, sections 2.5.6 and 2.6.14).
use Rattle.std.specs.Prelude.{◌≡◌, ℕ, ◌+◌, ◌%◌, ◌<◌, List, [], ◌∷◌, ◌++◌, length, map, unwrap_or, if◌then◌else◌}
use Rattle.amqp_frames.specs.declared.body.FrameBody.TheVariants as b
use Rattle.amqp_parts.specs.declared.part.Part.{Part}
use Rattle.amqp_parts.specs.Split.{IsSplit}
use Rattle.amqp_session.specs.declared.session.LinkInput.{LinkInput}
use Rattle.amqp_session.specs.Hold.{begins, numbered, left_of}
use Rattle.amqp_session.specs.State.{State, Framed}
use Rattle.amqp_session.specs.Windows.{after, report_after}

-- nothing waits that the peer can take, and the peer knows of all Transfers but of fewer than half of the window
pub record IsTidy (s : State) : Type 0 where
  pub free : 0 < s.windows.allowance → s.held ≡ []
  pub reported : s.windows.unreported < report_after s.windows

-- These are the parts of what waits, in order: a delivery that begins has the number n, the next one that behind it, and so on modulo
-- 2^32, and each is split by the limit of frames.
abbrev pub Splits : ℕ → ℕ → List Part → List Part → Type 0
Splits frame n [] parts = parts ≡ []
Splits frame n (x ∷ xs) parts =
    (own : List Part) × ((others : List Part) × ((parts ≡ own ++ others)
    × IsSplit frame (numbered n x.transfer) x.payload own
    × Splits frame (if begins x.transfer then after n else n) xs others))

-- the frames of parts
abbrev pub written : ℕ → List Part → List Framed
written channel parts = map (λ x. record { channel = channel; body = b.Transfer x.transfer x.payload }) parts

-- what links are told of parts: each that begins a delivery, with the number that is in it
abbrev pub lefts_of : List Part → List LinkInput
lefts_of [] = []
lefts_of (x ∷ xs) = left_of x.transfer.delivery_tag (unwrap_or x.transfer.delivery_id 0) x.transfer ++ lefts_of xs

-- Of the parts of what waits the first are written, in order and behind all else, no more than the peer can take; each takes one
-- number. All others are the parts of what then waits. Links are told of each delivery that has begun.
pub record Releases (old new : State) : Type 0 where
  pub gone : List Part
  pub order : (others : List Part) → Splits old.max_frame_size new.windows.next_delivery_id new.held others
      → Splits old.max_frame_size old.windows.next_delivery_id old.held (gone ++ others)
  pub output : new.output ≡ old.output ++ written old.channel gone
  pub within : length gone + new.windows.allowance ≡ old.windows.allowance
  pub number : old.windows.next_outgoing_id < 4294967296
      → new.windows.next_outgoing_id ≡ (old.windows.next_outgoing_id + length gone) % 4294967296
  pub told : new.incoming ≡ old.incoming ++ lefts_of gone
