-- The frames that an end owes are small.
use Rattle.std.proofs.Common.{◌≡◌, ◌≤◌, ◌+◌, inl, inr, ℕ, length, Some, None, refl, sym, subst, arith}
use Rattle.amqp_data.specs.Data.{items_depth}
use Rattle.amqp_value.specs.Canonical.{AreSized, canonical, canonical_items, canonical_scalar, laid}
use Rattle.amqp_transport.specs.amqp_frames.Body.{body_values}
use Rattle.amqp_transport.specs.declared.frames.Frame.{Frame}
use Rattle.amqp_transport.specs.Kinds.{no_frame, amqp_oversized, amqp_bytes}
use Rattle.amqp_engine.specs.declared.phase.Phase.{Phase}
use Rattle.amqp_engine.specs.declared.phase.Phase.TheVariants as p
use Rattle.amqp_engine.specs.declared.phase.Rejection.{Rejection}
use Rattle.amqp_engine.specs.declared.phase.Rejection.TheVariants as rejection
use Rattle.amqp_engine.specs.Faults.{IsOwed, OwesTooMuch}
use Rattle.amqp_engine.specs.Sentence.{IsLimited}
use Rattle.amqp_engine.specs.Calls.{IsTooLarge}
use Rattle.amqp_engine.specs.State.{State, close_frame, error_for}

-- a frame of few bytes, which are there
record IsSmall (x : Frame) : Type 0 where
  pub least : 8 + length (amqp_bytes x) ≤ 512
  pub sized : amqp_oversized x → ⊥

small_fits : (x : Frame) (limit : ℕ) → IsSmall x → 512 ≤ limit → IsTooLarge limit x → ⊥
small_fits x limit s l (inl t) = omega (arith, s.least, l, t)
small_fits x limit s l (inr (inl t)) = omega (arith, s.least, t)
small_fits x limit s l (inr (inr t)) = s.sized t

empty_length : length (amqp_bytes no_frame) ≡ 0
unfolding canonical_items
empty_length = refl

empty_sized : AreSized (body_values no_frame.body)
unfolding AreSized
empty_sized = tt

empty_depth : items_depth (body_values no_frame.body) ≡ 0
empty_depth = refl

empty_small : IsSmall no_frame
empty_small = record { least = omega (arith, empty_length); sized = λ o. o empty_sized (omega (arith, empty_depth)) }

close_length : length (amqp_bytes (close_frame None)) ≡ 4
unfolding canonical_items canonical canonical_scalar laid
close_length = refl

close_sized : AreSized (body_values (close_frame None).body)
unfolding AreSized canonical_items
close_sized = ((tt, (tt, omega arith)), tt)

close_depth : items_depth (body_values (close_frame None).body) ≡ 2
close_depth = refl

close_small : IsSmall (close_frame None)
close_small = record { least = omega (arith, close_length); sized = λ o. o close_sized (omega (arith, close_depth)) }

rejection_length : (why : Rejection) → length (amqp_bytes (close_frame (Some (error_for why)))) ≤ 60
unfolding canonical_items canonical canonical_scalar laid
rejection_length rejection.IllegalState = omega arith
rejection_length rejection.NotImplemented = omega arith
rejection_length rejection.NotFound = omega arith
rejection_length rejection.FramingError = omega arith

rejection_sized : (why : Rejection) → AreSized (body_values (close_frame (Some (error_for why))).body)
unfolding AreSized canonical_items canonical canonical_scalar laid
rejection_sized rejection.IllegalState = ((tt, (((tt, ((omega arith, tt), omega arith)), tt), omega arith)), tt)
rejection_sized rejection.NotImplemented = ((tt, (((tt, ((omega arith, tt), omega arith)), tt), omega arith)), tt)
rejection_sized rejection.NotFound = ((tt, (((tt, ((omega arith, tt), omega arith)), tt), omega arith)), tt)
rejection_sized rejection.FramingError = ((tt, (((tt, ((omega arith, tt), omega arith)), tt), omega arith)), tt)

rejection_depth : (why : Rejection) → items_depth (body_values (close_frame (Some (error_for why))).body) ≤ 34
rejection_depth rejection.IllegalState = omega arith
rejection_depth rejection.NotImplemented = omega arith
rejection_depth rejection.NotFound = omega arith
rejection_depth rejection.FramingError = omega arith

rejection_small : (why : Rejection) → IsSmall (close_frame (Some (error_for why)))
rejection_small why = record { least = omega (arith, rejection_length why); sized = λ o. o (rejection_sized why) (rejection_depth why) }

owed_small : (q : Phase) (x : Frame) → IsOwed q x → IsSmall x
owed_small p.OpenSent x o = absurd o
owed_small p.Opened x o = subst IsSmall (sym o) empty_small
owed_small p.CloseReceived x o = subst IsSmall (sym o) close_small
owed_small p.Refused x o = subst IsSmall (sym o) close_small
owed_small (p.Rejected why) x o = subst IsSmall (sym o) (rejection_small why)
owed_small p.CloseSent x o = absurd o
owed_small p.Discarding x o = absurd o
owed_small p.Ended x o = absurd o
owed_small p.Failed x o = absurd o

-- no frame that an end owes is too large, since no limit is below 512
pub owes_little : {L : Type 0} (s : State L) → IsLimited s → OwesTooMuch s → ⊥
owes_little s l o = small_fits o.0 s.wire.codec.encoder (owed_small s.phase o.0 o.1) l.least o.2
