-- Two sessions that meet what the laws ask of them.
use Rattle.std.specs.Prelude.{[], ◌∷◌, refl}
use Rattle.std.proofs.Common.{arith}
use Rattle.amqp_frames.specs.declared.body.FrameBody.TheVariants as b
use Rattle.amqp_parts.specs.Cut.{cut_of, is_sized}
use Rattle.amqp_session.specs.Hold.{releasing}
use Rattle.amqp_value.specs.Canonical.{canonical, canonical_scalar, laid}
use Rattle.window_laws.specs.Example.{framed, answer, attach, sent, report, WindowIsMet}

pub window_is_met : WindowIsMet
unfolding releasing cut_of is_sized canonical canonical_scalar laid
window_is_met = record {
  go_on = (
    record { unread = []; hears = refl; unanswered = answer ∷ []; answers = refl },
    (
      record { unread = []; hears = refl; unanswered = []; answers = refl },
      (
        record { unread = framed (b.Attach attach) ∷ []; hears = refl; unanswered = []; answers = refl },
        (
          record { unread = framed (b.Attach attach) ∷ sent 0 ∷ []; hears = refl; unanswered = []; answers = refl },
          (
            record { unread = framed (b.Attach attach) ∷ sent 0 ∷ []; hears = refl; unanswered = []; answers = refl },
            (
              record { unread = sent 0 ∷ []; hears = refl; unanswered = []; answers = refl },
              (
                record { unread = []; hears = refl; unanswered = framed (b.Flow report) ∷ []; answers = refl },
                record { unread = sent 1 ∷ []; hears = refl; unanswered = []; answers = refl },
              ),
            ),
          ),
        ),
      ),
    ),
  );
  short = omega arith;
  narrow = omega arith;
  few = omega arith;
  waits = refl;
  read = refl;
  written = refl;
}
