-- The windows by which a session writes Transfers, whoever its peer is (OASIS AMQP 1.0, part 2, section 2.5.6).
use Rattle.std.specs.Prelude.{ℕ, ◌<◌, List, [], ◌∷◌, flat_map, All, unwrap_or}
use Rattle.amqp_frames.specs.declared.body.FrameBody.{FrameBody}
use Rattle.amqp_frames.specs.declared.body.FrameBody.TheVariants as b
use Rattle.amqp_session.specs.State.{Framed}
use Rattle.amqp_session.specs.Windows.{minus}
use Rattle.session_laws.specs.Holding.{Move}
use Rattle.session_laws.specs.Settling.{IsAmong}
use Rattle.window_laws.specs.Starting.{Start, reads, writes, first_number}
use Rattle.window_laws.specs.Counting.{number_at, InOrder}

-- from a number on so many Transfers may be written
pub record Grant : Type 0 where
  pub from : ℕ
  pub window : ℕ

-- what a frame grants: a Begin, and a Flow that names no next-incoming-id, from the first Transfer on
abbrev pub grant_in : ℕ → FrameBody → List Grant
grant_in first (b.Begin x) = record { from = first; window = x.incoming_window } ∷ []
grant_in first (b.Flow x) = record { from = unwrap_or x.next_incoming_id first; window = x.incoming_window } ∷ []
grant_in first other = []

-- what frames grant
abbrev pub granted : ℕ → List Framed → List Grant
granted first xs = flat_map (λ (x : Framed). grant_in first x.body) xs

-- the number of a Transfer with so many before it lies in a window that was granted, modulo 2^32
abbrev pub IsGranted : List Grant → ℕ → ℕ → FrameBody → Type 0
IsGranted gave first n (b.Transfer x payload) = (g : Grant) × (IsAmong g gave × (minus (number_at first n) g.from < g.window))
IsGranted gave first n other = Unit {0}

-- whatever a session goes through and reads: so it is of each Transfer that it writes, where windows in frames are of 32 bits
abbrev pub WritesWhatIsGranted : Type 0
WritesWhatIsGranted =
    (t : Start) (ns : List Move) → first_number t < 4294967296
    → All (λ (g : Grant). g.window < 4294967296) (granted (first_number t) (reads t ns))
    → InOrder (IsGranted (granted (first_number t) (reads t ns)) (first_number t)) 0 (writes t ns)
