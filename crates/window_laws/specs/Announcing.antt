-- The window that a session announces (OASIS AMQP 1.0, part 2, sections 2.7.2 and 2.7.4).
use Rattle.std.specs.Prelude.{◌≡◌, ℕ, List, All}
use Rattle.amqp_frames.specs.declared.body.FrameBody.{FrameBody}
use Rattle.amqp_frames.specs.declared.body.FrameBody.TheVariants as b
use Rattle.amqp_session.specs.State.{Framed}
use Rattle.session_laws.specs.Holding.{Move, after_all}
use Rattle.window_laws.specs.Starting.{Start, session_of, writes, window}

-- a Begin or a Flow names that incoming-window
abbrev pub Announces : ℕ → FrameBody → Type 0
Announces size (b.Begin x) = x.incoming_window ≡ size
Announces size (b.Flow x) = x.incoming_window ≡ size
Announces size other = Unit {0}

pub record Keeps (u : Start) (js : List Move) : Type 0 where
  pub stays : (after_all (session_of u) js).windows.incoming_window ≡ window u
  pub announced : All (λ (x : Framed). Announces (window u) x.body) (writes u js)

-- whatever a session goes through, its window stays, and each Begin and each Flow names it
abbrev pub AnnouncesItsWindow : Type 0
AnnouncesItsWindow = (u : Start) (js : List Move) → Keeps u js
