-- What an end says on its connection, and why it closes it (OASIS AMQP 1.0, part 2, section 2.4).
use Rattle.std.specs.Prelude.{◌≡◌, ◌⊎◌, true, ℕ, List, [], ◌∷◌, ◌++◌, Option, Some, None}
use Rattle.amqp_performatives.specs.declared.close.Close.{Close}
use Rattle.amqp_composites.specs.declared.error.Error.{Error as AmqpError}
use Rattle.amqp_frames.specs.declared.body.FrameBody.TheVariants as b
use Rattle.amqp_frames.specs.Session.{of_session}
use Rattle.amqp_transport.specs.declared.frames.Frame.{Frame}
use Rattle.amqp_transport.specs.Kinds.{no_frame}
use Rattle.amqp_engine.specs.declared.phase.Rejection.{Rejection}
use Rattle.amqp_engine.specs.Heard.{IsGreeted, IsStray, IsStrayFor}
use Rattle.amqp_engine.specs.Phases.{kind_of, IsInner}
use Rattle.amqp_engine.specs.State.{open_frame, close_frame}
use Rattle.amqp_engine.specs.State.{error_for as error_of_rejection}
use Rattle.amqp_words.specs.declared.call.Call.{Call}
use Rattle.amqp_words.specs.declared.call.Call.TheVariants.{Close as CloseCall}
use Rattle.amqp_peer.specs.declared.prepared.Prepared.{Prepared}
use Rattle.amqp_peer.specs.Causes.{prepared_in}
use Rattle.amqp_peer.specs.History.{Local, made_in, given_in, sent_in}
use Rattle.amqp_peer.specs.Prepared.{error_for}

-- an empty frame, or one of a session (sections 2.4.5 and 2.5)
abbrev pub IsMiddle : Frame → Type 0
IsMiddle x = (x ≡ no_frame) ⊎ (of_session x.body ≡ true)

-- such frames alone
abbrev pub AllMiddle : List Frame → Type 0
AllMiddle [] = Unit {0}
AllMiddle (x ∷ xs) = IsMiddle x × AllMiddle xs

-- the Open that the first call asks for, and then empty frames and frames of sessions (sections 2.4.1, 2.4.5 and 2.5)
pub record IsPlain (p : Option Prepared) (sent : List Frame) : Type 0 where
  pub own : Prepared
  pub is_own : p ≡ Some own
  pub more : List Frame
  pub each : AllMiddle more
  pub is : sent ≡ open_frame own.end ∷ more

-- ---- what was read, whatever was read after it

-- a Close (section 2.4.3)
pub record HasClose (given : List Frame) : Type 0 where
  pub front : List Frame
  pub channel : ℕ
  pub last : Close
  pub more : List Frame
  pub is : given ≡ front ++ record { channel = channel; body = b.Close last } ∷ more

-- another frame than Open or Close in place of Open (section 2.4.1)
pub record HasOtherFirst (given : List Frame) : Type 0 where
  pub first : Frame
  pub more : List Frame
  pub other : IsInner (kind_of first.body)
  pub is : given ≡ first ∷ more

-- a frame that has no place behind the Open while no Close was read (sections 2.4.1 and 2.7)
pub record HasStray (given : List Frame) : Type 0 where
  pub front : List Frame
  pub stray : Frame
  pub more : List Frame
  pub before : IsGreeted front
  pub has_no_place : IsStray (kind_of stray.body)
  pub is : given ≡ front ++ stray ∷ more

-- and that may be refused for this reason (sections 2.5.1, 2.7.1 and 2.7.2)
pub record HasStrayFor (why : Rejection) (given : List Frame) : Type 0 where
  pub it : HasStray given
  pub fits : IsStrayFor why it.stray.body

-- ---- what was said

-- why a Close was queued: it was called, the peer's was read, another frame than Open or Close came in place of Open, or a frame that has
-- no place while the connection is open, and then the error is that for which it is refused (sections 2.4.1, 2.4.3, 2.7.1, 2.8.15 and 2.8.16)
pub data CloseCause (calls : List (ℕ × Call)) (given : List Frame) (error : Option AmqpError) : Type 0 where
  called : (name : ℕ) (condition : Option (List ℕ)) (earlier : List (ℕ × Call)) → calls ≡ (name, CloseCall condition) ∷ earlier → error ≡ error_for condition → CloseCause calls given error
  answers : HasClose given → error ≡ None → CloseCause calls given error
  mistaken : HasOtherFirst given → error ≡ None → CloseCause calls given error
  rejected : (why : Rejection) → HasStrayFor why given → error ≡ Some (error_of_rejection why) → CloseCause calls given error

-- what an end says: nothing, its Open, empty frames and frames of sessions, or these and one Close that has its cause
abbrev pub IsSaidFor : Option Prepared → List (ℕ × Call) → List Frame → List Frame → Type 0
IsSaidFor p calls given sent =
    (sent ≡ []) ⊎ (IsPlain p sent ⊎ ((front : List Frame) × (error : Option AmqpError) × IsPlain p front × (sent ≡ front ++ close_frame error ∷ []) × CloseCause calls given error))

-- what an end has said by now
abbrev pub HasSaid : List Local → Type 0
HasSaid h = IsSaidFor (prepared_in (made_in h)) (made_in h) (given_in h) (sent_in h)
