-- The limits, frame by frame.
use Rattle.std.proofs.Common.{◌≡◌, ℕ, List, [], ◌∷◌, ◌++◌, refl, sym, ap, ◌∙◌, subst}
use Rattle.std.proofs.lemmas.List.{append-nil}
use Rattle.amqp_transport.specs.amqp_frames.declared.body.FrameBody.{FrameBody}
use Rattle.amqp_transport.specs.amqp_frames.declared.body.FrameBody.TheVariants as b
use Rattle.amqp_transport.specs.declared.frames.Frame.{Frame}
use Rattle.amqp_engine.specs.declared.phase.Phase.{Phase}
use Rattle.amqp_engine.specs.declared.phase.Phase.TheVariants as p
use Rattle.amqp_engine.specs.State.{State}
use Rattle.amqp_engine.specs.Machine.{received, awaited, arrived, outlasted}
use Rattle.amqp_engine.specs.Heard.{IsHeard, IsGreeted}
use Rattle.amqp_engine.specs.Sentence.{IsBounded, read_limit, read_limit_by, write_limit, write_limit_by}
use Rattle.amqp_engine.proofs.Hearing.{IsListening}

-- the limits, and what they come of, are the same
pub record SameBounds {L : Type 0} (old new : State L) : Type 0 where
  pub reads : new.wire.codec.decoder ≡ old.wire.codec.decoder
  pub writes : new.wire.codec.encoder ≡ old.wire.codec.encoder
  pub own : new.settings.largest_read ≡ old.settings.largest_read

pub same_bounds : {L : Type 0} (s : State L) → SameBounds s s
same_bounds s = record { reads = refl; writes = refl; own = refl }

pub bounded_same : {L : Type 0} (old new : State L) (before : List Frame) → SameBounds old new → IsBounded old before → IsBounded new before
bounded_same old new before e k = record { reads = e.reads ∙ k.reads ∙ ap (λ (own : ℕ). read_limit own before) (sym e.own); writes = e.writes ∙ k.writes }

pub bounded_none : {L : Type 0} (s : State L) (before : List Frame) → IsBounded s before → IsBounded s (before ++ [])
bounded_none s before k = subst (λ (xs : List Frame). IsBounded s xs) (sym (append-nil before)) k

-- behind the peer's Open no frame changes the limits
bounded_more : {L : Type 0} (s : State L) (xs : List Frame) (x : Frame) → IsGreeted xs → IsBounded s xs → IsBounded s (xs ++ x ∷ [])
bounded_more s xs x g k =
    record {
      reads = k.reads ∙ ap (λ (u : List Frame). read_limit s.settings.largest_read u) g.is ∙ sym (ap (λ (u : List Frame). read_limit s.settings.largest_read (u ++ x ∷ [])) g.is);
      writes = k.writes ∙ ap write_limit g.is ∙ sym (ap (λ (u : List Frame). write_limit (u ++ x ∷ [])) g.is);
    }

-- the limits of the first frame
first_reads : (own : ℕ) (xs : List Frame) (x : Frame) (body : FrameBody) → x.body ≡ body → xs ≡ [] → read_limit own (xs ++ x ∷ []) ≡ read_limit_by own body
first_reads own xs x body e n = ap (λ (u : List Frame). read_limit own (u ++ x ∷ [])) n ∙ ap (λ (z : FrameBody). read_limit_by own z) e

first_writes : (xs : List Frame) (x : Frame) (body : FrameBody) → x.body ≡ body → xs ≡ [] → write_limit (xs ++ x ∷ []) ≡ write_limit_by body
first_writes xs x body e n = ap (λ (u : List Frame). write_limit (u ++ x ∷ [])) n ∙ ap (λ (z : FrameBody). write_limit_by z) e

-- a first frame that is no Open
bounded_first : {L : Type 0} (s new : State L) (xs : List Frame) (x : Frame) (body : FrameBody) → SameBounds s new → x.body ≡ body → xs ≡ [] → read_limit_by new.settings.largest_read body ≡ 512 → write_limit_by body ≡ 512 → IsBounded s xs → IsBounded new (xs ++ x ∷ [])
bounded_first s new xs x body same e n r w k =
    record {
      reads = same.reads ∙ k.reads ∙ ap (λ (u : List Frame). read_limit s.settings.largest_read u) n ∙ sym r ∙ sym (first_reads new.settings.largest_read xs x body e n);
      writes = same.writes ∙ k.writes ∙ ap write_limit n ∙ sym w ∙ sym (first_writes xs x body e n);
    }

bounded_awaited : {L : Type 0} (at : ℕ) (s : State L) (xs : List Frame) (x : Frame) (body : FrameBody) → x.body ≡ body → xs ≡ [] → IsBounded s xs → IsBounded (awaited at s body) (xs ++ x ∷ [])
bounded_awaited at s xs x (b.Open y) e n k =
    record { reads = sym (first_reads s.settings.largest_read xs x (b.Open y) e n); writes = sym (first_writes xs x (b.Open y) e n) }
bounded_awaited at s xs x (b.Close y) e n k = bounded_first s (awaited at s (b.Close y)) xs x (b.Close y) (record { reads = refl; writes = refl; own = refl }) e n refl refl k
bounded_awaited at s xs x b.Empty e n k = bounded_first s (awaited at s b.Empty) xs x b.Empty (record { reads = refl; writes = refl; own = refl }) e n refl refl k
bounded_awaited at s xs x (b.Begin y) e n k = bounded_first s (awaited at s (b.Begin y)) xs x (b.Begin y) (record { reads = refl; writes = refl; own = refl }) e n refl refl k
bounded_awaited at s xs x (b.Attach y) e n k = bounded_first s (awaited at s (b.Attach y)) xs x (b.Attach y) (record { reads = refl; writes = refl; own = refl }) e n refl refl k
bounded_awaited at s xs x (b.Flow y) e n k = bounded_first s (awaited at s (b.Flow y)) xs x (b.Flow y) (record { reads = refl; writes = refl; own = refl }) e n refl refl k
bounded_awaited at s xs x (b.Transfer y z) e n k = bounded_first s (awaited at s (b.Transfer y z)) xs x (b.Transfer y z) (record { reads = refl; writes = refl; own = refl }) e n refl refl k
bounded_awaited at s xs x (b.Disposition y) e n k = bounded_first s (awaited at s (b.Disposition y)) xs x (b.Disposition y) (record { reads = refl; writes = refl; own = refl }) e n refl refl k
bounded_awaited at s xs x (b.Detach y) e n k = bounded_first s (awaited at s (b.Detach y)) xs x (b.Detach y) (record { reads = refl; writes = refl; own = refl }) e n refl refl k
bounded_awaited at s xs x (b.End y) e n k = bounded_first s (awaited at s (b.End y)) xs x (b.End y) (record { reads = refl; writes = refl; own = refl }) e n refl refl k

same_arrived : {L : Type 0} (s : State L) (x : Frame) (body : FrameBody) → SameBounds s (arrived s x body)
same_arrived s x (b.Open y) = record { reads = refl; writes = refl; own = refl }
same_arrived s x (b.Close y) = record { reads = refl; writes = refl; own = refl }
same_arrived s x b.Empty = record { reads = refl; writes = refl; own = refl }
same_arrived s x (b.Begin y) = record { reads = refl; writes = refl; own = refl }
same_arrived s x (b.Attach y) = record { reads = refl; writes = refl; own = refl }
same_arrived s x (b.Flow y) = record { reads = refl; writes = refl; own = refl }
same_arrived s x (b.Transfer y z) = record { reads = refl; writes = refl; own = refl }
same_arrived s x (b.Disposition y) = record { reads = refl; writes = refl; own = refl }
same_arrived s x (b.Detach y) = record { reads = refl; writes = refl; own = refl }
same_arrived s x (b.End y) = record { reads = refl; writes = refl; own = refl }

same_outlasted : {L : Type 0} (s : State L) (body : FrameBody) → SameBounds s (outlasted s body)
same_outlasted s (b.Open y) = same_bounds s
same_outlasted s (b.Close y) = record { reads = refl; writes = refl; own = refl }
same_outlasted s b.Empty = same_bounds s
same_outlasted s (b.Begin y) = same_bounds s
same_outlasted s (b.Attach y) = same_bounds s
same_outlasted s (b.Flow y) = same_bounds s
same_outlasted s (b.Transfer y z) = same_bounds s
same_outlasted s (b.Disposition y) = same_bounds s
same_outlasted s (b.Detach y) = same_bounds s
same_outlasted s (b.End y) = same_bounds s

-- a frame was read
pub bounded_received : {L : Type 0} (q : Phase) (at : ℕ) (s : State L) (xs : List Frame) (x : Frame) → IsListening q → IsHeard q s.reason xs → IsBounded s xs → IsBounded (received q at s x) (xs ++ x ∷ [])
bounded_received p.OpenSent at s xs x l h k = bounded_awaited at s xs x x.body refl h.0 k
bounded_received p.Opened at s xs x l h k = bounded_same s (arrived s x x.body) (xs ++ x ∷ []) (same_arrived s x x.body) (bounded_more s xs x h.0 k)
bounded_received p.CloseSent at s xs x l h k = bounded_same s (outlasted s x.body) (xs ++ x ∷ []) (same_outlasted s x.body) (bounded_more s xs x h.0 k)
bounded_received p.Discarding at s xs x l h k = bounded_same s (outlasted s x.body) (xs ++ x ∷ []) (same_outlasted s x.body) (bounded_more s xs x h.0 k)
bounded_received p.CloseReceived at s xs x l h k = absurd l
bounded_received p.Refused at s xs x l h k = absurd l
bounded_received (p.Rejected w) at s xs x l h k = absurd l
bounded_received p.Ended at s xs x l h k = absurd l
bounded_received p.Failed at s xs x l h k = absurd l
