-- What a session hands to its links of what the links at the other end said of credit and of deliveries.
use Rattle.std.specs.Prelude.{ℕ, List, [], ◌∷◌, Option, Some, None}
use Rattle.amqp_frames.specs.declared.body.FrameBody.{FrameBody}
use Rattle.amqp_frames.specs.declared.body.FrameBody.TheVariants as b
use Rattle.amqp_frames.specs.declared.shared.LinkFrame.{LinkFrame}
use Rattle.amqp_frames.specs.declared.shared.LinkFrame.TheVariants as link
use Rattle.amqp_link.specs.Link.{body_of}
use Rattle.amqp_performatives.specs.declared.disposition.Disposition.{Disposition}
use Rattle.amqp_performatives.specs.declared.flow.Flow.{Flow}
use Rattle.amqp_performatives.specs.declared.transfer.Transfer.{Transfer}
use Rattle.amqp_session.specs.declared.session.LinkInput.{LinkInput}
use Rattle.amqp_session.specs.declared.session.LinkInput.TheVariants as input
use Rattle.amqp_session.specs.declared.session.SessionState.{SessionState}
use Rattle.amqp_session.specs.declared.session.SessionState.TheVariants as state
use Rattle.amqp_session.specs.declared.windows.Windows.{Windows}
use Rattle.amqp_session.specs.Hold.{left_of}
use Rattle.amqp_session.specs.State.{State as Session, Framed}
use Rattle.amqp_session.specs.Windows.{stamped, session_flow}
use Rattle.session_laws.specs.Handing.{handed_over, heard}
use Rattle.session_laws.specs.Holding.{Move, tells, hears, after, written}
use Rattle.session_laws.specs.Speaking.{bodies, brought_by, brought, spoken_in, spoken}
use Rattle.session_laws.proofs.Gives.{Says}
use Rattle.session_laws.proofs.Lists.{Each, each_both, each_first, each_last}
use Rattle.session_laws.proofs.Returns.{Any, framed_each, any_heard, any_left, any_told}
use Rattle.session_laws.proofs.Speaks.{Fair, Of, Brings, Tells, TellsIn, AllTold, AllHears, all_written, all_handed}

-- what holds of each Flow and each Disposition that is handed over
abbrev pub Gets : (Flow → Type 0) → (Disposition → Type 0) → LinkInput → Type 0
Gets F D (input.Flow x) = F x
Gets F D (input.Disposition x) = D x
Gets F D other = Unit {0}

-- it holds of a Flow whatever the state of the session in it, and of one that names no link
pub record Lasts (F : Flow → Type 0) : Type 0 where
  pub stamps : (w : Windows) (x : Flow) → F x → F (stamped w x)
  pub reports : (w : Windows) → F (session_flow w)

-- ---- what is written

tells_one : (F : Flow → Type 0) (D : Disposition → Type 0) → Lasts F → (x : LinkFrame) → Says F D (body_of x) → Tells (Says F D) x
tells_one F D l (link.Attach x) h = tt
tells_one F D l (link.Flow x) h = λ w. l.stamps w x h
tells_one F D l (link.Transfer x payload) h = tt
tells_one F D l (link.Disposition x covered) h = h
tells_one F D l (link.Detach x) h = tt

tells_in : (F : Flow → Type 0) (D : Disposition → Type 0) → Lasts F → (p : SessionState) (x : LinkFrame) → Each (Says F D) (spoken_in p x) → TellsIn (Says F D) p x
tells_in F D l state.Mapped x h = tells_one F D l x h.0
tells_in F D l state.BeginSent x h = tt
tells_in F D l state.EndSent x h = tt
tells_in F D l state.Unmapped x h = tt

tells_all : (F : Flow → Type 0) (D : Disposition → Type 0) → Lasts F → (s : Session) (ms : List Move) → Each (Says F D) (spoken s ms) → AllTold (Says F D) s ms
tells_all F D l s [] h = tt
tells_all F D l s (tells x ∷ ms) h =
    let t = after s (tells x) in
    (tells_in F D l s.state x (each_first (Says F D) (spoken_in s.state x) (spoken t ms) h), tells_all F D l t ms (each_last (Says F D) (spoken_in s.state x) (spoken t ms) h))
tells_all F D l s (m ∷ ms) h = (tt, tells_all F D l (after s m) ms h)

says_fair : (F : Flow → Type 0) (D : Disposition → Type 0) → Lasts F → Fair (Says F D) (Any {X = FrameBody}) (Any {X = LinkInput})
says_fair F D l = record {
  transfer = λ x payload. tt;
  ends = λ x. tt;
  flow = λ w. l.reports w;
  attach = λ x. tt;
  detach = λ x. tt;
  part = λ x payload. tt;
  stops = λ why. tt;
  over = tt;
  left = λ frame n x payload v. any_left x.delivery_tag n x;
}

-- of what a session writes it holds where it does of what its links said, and of what was to be written at first
pub writes_said : (F : Flow → Type 0) (D : Disposition → Type 0) → Lasts F → (u : Session) (js : List Move) → Each (Says F D) (spoken u js) → Each (Says F D) (bodies u.output) → Each (Of (Says F D)) (written u js)
writes_said F D l u js h k =
    all_written (Says F D) (Any {X = FrameBody}) (Any {X = LinkInput}) (says_fair F D l) u js (tells_all F D l u js h) (any_heard js) (framed_each (Says F D) u.output k)

-- ---- what is handed over

none_left : (F : Flow → Type 0) (D : Disposition → Type 0) (o : Option (List ℕ)) (n : ℕ) (x : Transfer) → Each (Gets F D) (left_of o n x)
none_left F D None n x = tt
none_left F D (Some tag) n x = (tt, tt)

gets_fair : (F : Flow → Type 0) (D : Disposition → Type 0) → Fair (Any {X = FrameBody}) (Any {X = FrameBody}) (Gets F D)
gets_fair F D = record {
  transfer = λ x payload. tt;
  ends = λ x. tt;
  flow = λ w. tt;
  attach = λ x. tt;
  detach = λ x. tt;
  part = λ x payload. tt;
  stops = λ why. tt;
  over = tt;
  left = λ frame n x payload v. none_left F D x.delivery_tag n x;
}

brings_one : (F : Flow → Type 0) (D : Disposition → Type 0) (x : FrameBody) → Says F D x → Brings (Gets F D) x
brings_one F D (b.Flow x) h = h
brings_one F D (b.Disposition x) h = h
brings_one F D other h = tt

brings_all : (F : Flow → Type 0) (D : Disposition → Type 0) (ms : List Move) → Each (Says F D) (bodies (heard ms)) → AllHears (Gets F D) ms
brings_all F D [] h = tt
brings_all F D (hears x ∷ ms) h = (brings_one F D x.body h.0, brings_all F D ms h.1)
brings_all F D (m ∷ ms) h = (tt, brings_all F D ms h)

any_framed : (xs : List Framed) → Each (Of (Any {X = FrameBody})) xs
any_framed [] = tt
any_framed (x ∷ xs) = (tt, any_framed xs)

-- of what a session hands over it holds where it does of what that heard, and of what was to be handed over at first
pub hands_said : (F : Flow → Type 0) (D : Disposition → Type 0) (t : Session) (ns : List Move) → Each (Says F D) (bodies (heard ns)) → Each (Gets F D) t.incoming → Each (Gets F D) (handed_over t ns)
hands_said F D t ns h k =
    all_handed (Any {X = FrameBody}) (Any {X = FrameBody}) (Gets F D) (gets_fair F D) t ns (any_told t ns) (brings_all F D ns h) (any_framed (written t ns)) k

-- ---- in other words

-- what is handed over brings what it is
gets_one : (F : Flow → Type 0) (D : Disposition → Type 0) (x : LinkInput) → Each (Says F D) (brought_by x) → Gets F D x
gets_one F D (input.Flow x) h = h.0
gets_one F D (input.Disposition x) h = h.0
gets_one F D other h = tt

brought_one : (F : Flow → Type 0) (D : Disposition → Type 0) (x : LinkInput) → Gets F D x → Each (Says F D) (brought_by x)
brought_one F D (input.Flow x) h = (h, tt)
brought_one F D (input.Disposition x) h = (h, tt)
brought_one F D other h = tt

pub gets_all : (F : Flow → Type 0) (D : Disposition → Type 0) (xs : List LinkInput) → Each (Says F D) (brought xs) → Each (Gets F D) xs
gets_all F D [] h = tt
gets_all F D (x ∷ xs) h = (gets_one F D x (each_first (Says F D) (brought_by x) (brought xs) h), gets_all F D xs (each_last (Says F D) (brought_by x) (brought xs) h))

pub brought_all : (F : Flow → Type 0) (D : Disposition → Type 0) (xs : List LinkInput) → Each (Gets F D) xs → Each (Says F D) (brought xs)
brought_all F D [] h = tt
brought_all F D (x ∷ xs) h = each_both (Says F D) (brought_by x) (brought xs) (brought_one F D x h.0) (brought_all F D xs h.1)

-- what holds of frames holds of their bodies
pub bodies_each : (W : FrameBody → Type 0) (xs : List Framed) → Each (Of W) xs → Each W (bodies xs)
bodies_each W [] h = tt
bodies_each W (x ∷ xs) h = (h.0, bodies_each W xs h.1)
