-- What each move of a session makes it write.
use Rattle.std.specs.Prelude.{◌≡◌, ℕ, ◌+◌, ◌*◌, ◌≤◌, nat_eq, nat_lt, nat_le, min, Bool, true, false, not, List, [], ◌∷◌, ◌++◌, Option, Some, None, if◌then◌else◌, refl}
use Rattle.std.proofs.Common.{sym, ◌∙◌, ap, append-nil, append_assoc, subst, arith}
use Rattle.std.proofs.lemmas.Bool.Decides.{nat_tests}
use Rattle.amqp_composites.specs.declared.error.Error.{Error as AmqpError}
use Rattle.amqp_composites.specs.declared.modes.Role.{Role}
use Rattle.amqp_composites.specs.declared.modes.Role.TheVariants as role
use Rattle.amqp_performatives.specs.declared.attach.Attach.{Attach}
use Rattle.amqp_performatives.specs.declared.begin.Begin.{Begin}
use Rattle.amqp_performatives.specs.declared.detach.Detach.{Detach}
use Rattle.amqp_performatives.specs.declared.flow.Flow.{Flow}
use Rattle.amqp_performatives.specs.declared.transfer.Transfer.{Transfer}
use Rattle.amqp_frames.specs.declared.body.FrameBody.{FrameBody}
use Rattle.amqp_frames.specs.declared.body.FrameBody.TheVariants as b
use Rattle.amqp_frames.specs.declared.shared.LinkFrame.{LinkFrame}
use Rattle.amqp_frames.specs.declared.shared.LinkFrame.TheVariants as link
use Rattle.amqp_frames.specs.declared.shared.SessionStopReason.{SessionStopReason}
use Rattle.amqp_link.specs.Link.{body_of}
use Rattle.amqp_session.specs.declared.error.Error.TheVariants.{FramingError}
use Rattle.amqp_session.specs.declared.error.Fault.{Fault}
use Rattle.amqp_session.specs.declared.error.Fault.TheVariants as fault
use Rattle.amqp_session.specs.declared.session.LinkInput.TheVariants as input
use Rattle.amqp_session.specs.declared.session.SessionState.{SessionState}
use Rattle.amqp_session.specs.declared.session.SessionState.TheVariants as state
use Rattle.amqp_session.specs.Begin.{mapped}
use Rattle.amqp_session.specs.Ends.{stopping, stopped, saying_end, own_reason, remote_reason, ending, failing, ended, answered, end_asked, attach_refused}
use Rattle.amqp_session.specs.Faults.{error_for}
use Rattle.amqp_session.specs.Frames.{heard_in, heard_unanswered, heard_mapped, heard_ending, told_in}
use Rattle.amqp_session.specs.Hold.{released, reporting}
use Rattle.amqp_session.specs.Links.{input_at, attach_at, detach_at, transfer_at, hand_flow, echo, is_astray, flow_at}
use Rattle.amqp_session.specs.State.{State, Framed, handing}
use Rattle.amqp_session.specs.State.{refuses as refused_with}
use Rattle.amqp_session.specs.Windows.{report_after, is_report_due, transfer_read, windows_flowed, session_flow}
use Rattle.session_laws.specs.Holding.{Move, tells, hears, ends, refuses, stops, hands_frame, hands_input, rest_of, first_of, after, handed}
use Rattle.session_laws.specs.Speaking.{bodies}
use Rattle.few_frames.specs.Kinds.{Each, count, one_if, transfer_in, other_in, echo_in, all_pieces}
use Rattle.few_frames.specs.Sessions.{IsAnswer, IsTold, IsMade, SessionMakesFew, told_by, pieces_in, pieces_by, read_by}
use Rattle.few_frames.proofs.Counts.{bodies_both, counted, each_both, each_when}
use Rattle.few_frames.proofs.Holds.{IsTransfer, Lets, released_lets, no_others, pieces_both, fewer_pieces}

-- the End that a session may still write
abbrev pub ends_left : SessionState → ℕ
ends_left state.BeginSent = 1
ends_left state.Mapped = 1
ends_left other = 0

abbrev pub ends_of : State → ℕ
ends_of s = ends_left s.state

-- What a session writes as it goes from s to t: frames that M holds of. For them so many parts may be told, so many
-- Transfers read, and so many other frames be asked for.
pub record Goes (M : FrameBody → Type 0) (told came asked : ℕ) (s t : State) : Type 0 where
  pub new : List Framed
  pub written : t.output ≡ s.output ++ new
  pub made : Each M (bodies new)
  pub few : count other_in (bodies new) ≤ 1
  pub parts : count transfer_in (bodies new) + all_pieces t.held ≤ all_pieces s.held + told
  pub reports : ℕ
  pub due : report_after s.windows * reports + t.windows.unreported ≤ s.windows.unreported + came
  pub others : count other_in (bodies new) + ends_of t ≤ ends_of s + asked + reports
  pub window : t.windows.incoming_window ≡ s.windows.incoming_window

-- ---- nothing, or one frame

-- a session that stays as it is, but for what it hands to its links and the like
pub record Alike (told came asked : ℕ) (s t : State) : Type 0 where
  pub held : all_pieces t.held ≤ all_pieces s.held + told
  pub unreported : t.windows.unreported ≤ s.windows.unreported + came
  pub ends : ends_of t ≤ ends_of s + asked
  pub window : t.windows.incoming_window ≡ s.windows.incoming_window

no_times : (n : ℕ) → n * 0 ≡ 0
no_times n = omega arith

quiet : (M : FrameBody → Type 0) {told came asked : ℕ} {s t : State} → t.output ≡ s.output → Alike told came asked s t → Goes M told came asked s t
quiet M {told} {came} {asked} {s} {t} o a =
    let h = a.held in
    let u = a.unreported in
    let e = a.ends in
    record { new = []; written = o ∙ sym (append-nil s.output); made = tt; few = omega arith; parts = omega arith; reports = 0; due = omega arith; others = omega arith; window = a.window }

same : (M : FrameBody → Type 0) (told came asked : ℕ) (s : State) → Goes M told came asked s s
same M told came asked s = quiet M refl (record { held = omega arith; unreported = omega arith; ends = omega arith; window = refl })

one : (M : FrameBody → Type 0) {told came asked : ℕ} {s t : State} (x : Framed) → t.output ≡ s.output ++ x ∷ [] → M x.body → other_in x.body ≡ 1 → transfer_in x.body ≡ 0
    → all_pieces t.held ≤ all_pieces s.held + told → t.windows.unreported ≤ s.windows.unreported + came → 1 + ends_of t ≤ ends_of s + asked → t.windows.incoming_window ≡ s.windows.incoming_window
    → Goes M told came asked s t
one M {told} {came} {asked} {s} {t} x o m k l h u e w =
    record { new = x ∷ []; written = o; made = (m, tt); few = omega arith; parts = omega arith; reports = 0; due = omega arith; others = omega arith; window = w }

-- ---- the end

stopping_output : (o : Option SessionStopReason) (why : SessionStopReason) (s : State) → (stopping o why s).output ≡ s.output
stopping_output None why s = refl
stopping_output (Some first) why s = refl

stopping_alike : (o : Option SessionStopReason) (why : SessionStopReason) (p : SessionState) (s : State) → ends_left p ≡ 0 → Alike 0 0 0 s (stopping o why (record s { state = p; held = [] }))
stopping_alike None why p s e = record { held = omega arith; unreported = omega arith; ends = omega arith; window = refl }
stopping_alike (Some first) why p s e = record { held = omega arith; unreported = omega arith; ends = omega arith; window = refl }

stopping_ends : (o : Option SessionStopReason) (why : SessionStopReason) (p : SessionState) (s : State) → (stopping o why (record s { state = p; held = [] })).state ≡ p
stopping_ends None why p s = refl
stopping_ends (Some first) why p s = refl

-- the one End is written
end_goes : (M : FrameBody → Type 0) {told came asked : ℕ} (why : SessionStopReason) (p : SessionState) (e : Option AmqpError) (s t : State) → M (b.End (record { error = e })) → ends_of s ≡ 1 → ends_left p ≡ 0
    → t.output ≡ (saying_end e (stopped p why s)).output → t.held ≡ (stopped p why s).held → t.windows ≡ (stopped p why s).windows → t.state ≡ (stopped p why s).state → Goes M told came asked s t
end_goes M {told} {came} {asked} why p e s t m n z o h w q =
    let a = stopping_alike s.stop_reason why p s z in
    let i = a.held in
    let u = a.unreported in
    let j : all_pieces t.held ≡ all_pieces (stopped p why s).held = ap all_pieces h in
    let v : t.windows.unreported ≡ (stopped p why s).windows.unreported = ap (λ x. x.unreported) w in
    let k : ends_of t ≡ ends_left p = ap ends_left (q ∙ stopping_ends s.stop_reason why p s) in
    let x : Framed = record { channel = (stopped p why s).channel; body = b.End (record { error = e }) } in
    one M x (o ∙ ap (λ (xs : List Framed). xs ++ x ∷ []) (stopping_output s.stop_reason why (record s { state = p; held = [] }))) m refl refl (omega arith) (omega arith) (omega arith) (ap (λ x. x.incoming_window) w ∙ a.window)

fails_goes : (M : FrameBody → Type 0) {told came asked : ℕ} (x : Fault) (s : State) → M (b.End (record { error = Some (error_for x) })) → ends_of s ≡ 1 → Goes M told came asked s (failing x s).state
fails_goes M {told} {came} {asked} x s m n = end_goes M (own_reason (Some (error_for x))) state.EndSent (Some (error_for x)) s (failing x s).state m n refl refl refl refl refl

asked_goes : (M : FrameBody → Type 0) {told came asked : ℕ} (e : Option AmqpError) (s : State) → M (b.End (record { error = e })) → ends_of s ≡ 1 → Goes M told came asked s (ending e s)
asked_goes M {told} {came} {asked} e s m n = end_goes M (own_reason e) state.EndSent e s (ending e s) m n refl refl refl refl refl

ended_goes : (M : FrameBody → Type 0) {told came asked : ℕ} (e : Option AmqpError) (s : State) → M (b.End (record { error = None })) → ends_of s ≡ 1 → Goes M told came asked s (ended e s)
ended_goes M {told} {came} {asked} e s m n = end_goes M (remote_reason e) state.Unmapped None s (ended e s) m n refl refl refl refl refl

stopped_goes : (M : FrameBody → Type 0) (why : SessionStopReason) (s : State) → Goes M 0 0 0 s (stopped state.Unmapped why s)
stopped_goes M why s = quiet M (stopping_output s.stop_reason why (record s { state = state.Unmapped; held = [] })) (stopping_alike s.stop_reason why state.Unmapped s refl)

over : (M : FrameBody → Type 0) (told came asked : ℕ) (e : Option AmqpError) (s : State) → Goes M told came asked s (answered e s).state
over M told came asked None s = quiet M refl (record { held = omega arith; unreported = omega arith; ends = omega arith; window = refl })
over M told came asked (Some e) s = quiet M refl (record { held = omega arith; unreported = omega arith; ends = omega arith; window = refl })

-- ---- what is read

-- what waits is let go
lets_goes : (M : FrameBody → Type 0) {told came asked : ℕ} {s t u : State} → ((y : FrameBody) → IsTransfer y → M y) → Lets t u → t.output ≡ s.output → all_pieces t.held ≤ all_pieces s.held + told
    → t.windows.unreported ≤ s.windows.unreported + came → ends_of t ≤ ends_of s + asked → t.windows.incoming_window ≡ s.windows.incoming_window → Goes M told came asked s u
lets_goes M {told} {came} {asked} {s} {t} {u} m l o h v e w =
    let n = no_others (bodies l.gone) l.transfers in
    let p = l.parts in
    let r = l.unreported in
    let q : ends_of u ≡ ends_of t = ap ends_left l.phase in
    record {
      new = l.gone;
      written = l.written ∙ ap (λ (xs : List Framed). xs ++ l.gone) o;
      made = each_when IsTransfer M m (bodies l.gone) l.transfers;
      few = omega arith;
      parts = omega arith;
      reports = 0;
      due = omega arith;
      others = omega arith;
      window = l.window ∙ w;
    }

flow_lets : (x : Flow) (y : FrameBody) → IsTransfer y → IsAnswer (b.Flow x) y
flow_lets x (b.Transfer z payload) h = tt
flow_lets x other h = absurd h

begin_lets : (x : Begin) (y : FrameBody) → IsTransfer y → IsAnswer (b.Begin x) y
begin_lets x (b.Transfer z payload) h = tt
begin_lets x other h = absurd h

-- a session behind a Flow that it has read, before it answers
pub record Flowed (u v : State) : Type 0 where
  pub output : v.output ≡ u.output
  pub held : v.held ≡ u.held
  pub phase : v.state ≡ u.state
  pub windows : v.windows ≡ u.windows

handed_flow : (o : Option ℕ) (x : Flow) (u : State) → Flowed u (hand_flow o x u)
handed_flow None x u = record { output = refl; held = refl; phase = refl; windows = refl }
handed_flow (Some handle) x u = record { output = refl; held = refl; phase = refl; windows = refl }

echo_goes : (c : Bool) (x : Flow) (s u v : State) → x.echo ≡ c → Lets (record s { windows = windows_flowed x s.windows }) u → Flowed u v → Goes (IsAnswer (b.Flow x)) 0 0 (one_if x.echo) s (echo c v)
echo_goes false x s u v c l f =
    let n = no_others (bodies l.gone) l.transfers in
    let p = l.parts in
    let h : all_pieces v.held ≡ all_pieces u.held = ap all_pieces f.held in
    let r : v.windows.unreported ≡ s.windows.unreported = ap (λ x. x.unreported) f.windows ∙ l.unreported in
    let q : ends_of v ≡ ends_of s = ap ends_left (f.phase ∙ l.phase) in
    record {
      new = l.gone;
      written = f.output ∙ l.written;
      made = each_when IsTransfer (IsAnswer (b.Flow x)) (flow_lets x) (bodies l.gone) l.transfers;
      few = omega arith;
      parts = omega arith;
      reports = 0;
      due = omega arith;
      others = omega arith;
      window = ap (λ x. x.incoming_window) f.windows ∙ l.window;
    }
echo_goes true x s u v c l f =
    let y : Framed = record { channel = v.channel; body = b.Flow (session_flow v.windows) } in
    let n = no_others (bodies l.gone) l.transfers in
    let k = counted other_in l.gone (y ∷ []) in
    let j = counted transfer_in l.gone (y ∷ []) in
    let p = l.parts in
    let a : one_if x.echo ≡ 1 = ap one_if c in
    let h : all_pieces v.held ≡ all_pieces u.held = ap all_pieces f.held in
    let q : ends_of v ≡ ends_of s = ap ends_left (f.phase ∙ l.phase) in
    record {
      new = l.gone ++ y ∷ [];
      written = ap (λ (xs : List Framed). xs ++ y ∷ []) (f.output ∙ l.written) ∙ append_assoc s.output l.gone (y ∷ []);
      made = subst (λ (xs : List FrameBody). Each (IsAnswer (b.Flow x)) xs) (sym (bodies_both l.gone (y ∷ []))) (each_both (IsAnswer (b.Flow x)) (bodies l.gone) (bodies (y ∷ [])) (each_when IsTransfer (IsAnswer (b.Flow x)) (flow_lets x) (bodies l.gone) l.transfers) ((c, refl), tt));
      few = omega arith;
      parts = omega arith;
      reports = 0;
      due = omega arith;
      others = omega arith;
      window = ap (λ x. x.incoming_window) f.windows ∙ l.window;
    }

flow_goes : (astray : Bool) (x : Flow) (s : State) → ends_of s ≡ 1 → Goes (IsAnswer (b.Flow x)) 0 0 (one_if x.echo) s (flow_at astray x s).state
flow_goes true x s n = fails_goes (IsAnswer (b.Flow x)) fault.UnattachedHandle s tt n
flow_goes false x s n =
    let t : State = record s { windows = windows_flowed x s.windows } in
    echo_goes x.echo x s (released t) (hand_flow x.handle x (released t)) refl (released_lets t) (handed_flow x.handle x (released t))

due_one : (r u : ℕ) → nat_le r (min (u + 1) 4294967295) ≡ true → r * 1 + 0 ≤ u + 1
due_one r u h = grind (arith, nat_tests)

report_goes : (M : FrameBody → Type 0) (c : Bool) (s t : State) → M (b.Flow (session_flow t.windows)) → is_report_due t.windows ≡ c → t.output ≡ s.output → t.held ≡ s.held → t.state ≡ s.state → t.windows ≡ transfer_read s.windows
    → Goes M 0 1 0 s (if c then reporting t else t)
report_goes M false s t m c o h p w =
    let a : all_pieces t.held ≡ all_pieces s.held = ap all_pieces h in
    let u : t.windows.unreported ≡ min (s.windows.unreported + 1) 4294967295 = ap (λ x. x.unreported) w in
    let q : ends_of t ≡ ends_of s = ap ends_left p in
    quiet M o (record { held = omega arith; unreported = omega arith; ends = omega arith; window = ap (λ x. x.incoming_window) w })
report_goes M true s t m c o h p w =
    let y : Framed = record { channel = t.channel; body = b.Flow (session_flow t.windows) } in
    let a : all_pieces t.held ≡ all_pieces s.held = ap all_pieces h in
    let d : is_report_due (transfer_read s.windows) ≡ true = ap is_report_due (sym w) ∙ c in
    let q : ends_of t ≡ ends_of s = ap ends_left p in
    record {
      new = y ∷ [];
      written = ap (λ (xs : List Framed). xs ++ y ∷ []) o;
      made = (m, tt);
      few = omega arith;
      parts = omega arith;
      reports = 1;
      due = due_one (report_after s.windows) s.windows.unreported d;
      others = omega arith;
      window = ap (λ x. x.incoming_window) w;
    }

transfer_goes : (o : Option Role) (x : Transfer) (payload : List ℕ) (s : State) → ends_of s ≡ 1 → Goes (IsAnswer (b.Transfer x payload)) 0 1 0 s (transfer_at o x payload s).state
transfer_goes None x payload s n = fails_goes (IsAnswer (b.Transfer x payload)) fault.UnattachedHandle s tt n
transfer_goes (Some role.Receiver) x payload s n = fails_goes (IsAnswer (b.Transfer x payload)) fault.TransferFrameToSender s tt n
transfer_goes (Some role.Sender) x payload s n =
    let t : State = handing (input.Transfer x payload) (record s { windows = transfer_read s.windows }) in
    report_goes (IsAnswer (b.Transfer x payload)) (is_report_due t.windows) s t refl refl refl refl refl refl

attach_goes : (o : Option Role) (x : Attach) (s : State) → ends_of s ≡ 1 → Goes (IsAnswer (b.Attach x)) 0 0 0 s (attach_at o x s).state
attach_goes (Some r) x s n = fails_goes (IsAnswer (b.Attach x)) fault.HandleInUse s tt n
attach_goes None x s n = quiet (IsAnswer (b.Attach x)) refl (record { held = omega arith; unreported = omega arith; ends = omega arith; window = refl })

attach_if : (c : Bool) (o : Option Role) (x : Attach) (s : State) → ends_of s ≡ 1 → Goes (IsAnswer (b.Attach x)) 0 0 0 s (if c then refused_with FramingError s else attach_at o x s).state
attach_if true o x s n = same (IsAnswer (b.Attach x)) 0 0 0 s
attach_if false o x s n = attach_goes o x s n

detach_goes : (o : Option Role) (x : Detach) (s : State) → ends_of s ≡ 1 → Goes (IsAnswer (b.Detach x)) 0 0 0 s (detach_at o x s).state
detach_goes None x s n = fails_goes (IsAnswer (b.Detach x)) fault.UnattachedHandle s tt n
detach_goes (Some r) x s n = quiet (IsAnswer (b.Detach x)) refl (record { held = omega arith; unreported = omega arith; ends = omega arith; window = refl })

mapped_goes : (x : FrameBody) (s : State) → ends_of s ≡ 1 → Goes (IsAnswer x) 0 (transfer_in x) (echo_in x) s (heard_mapped x s).state
mapped_goes (b.Attach x) s n = attach_if (nat_lt s.own_handle_max x.handle) (input_at x.handle s) x s n
mapped_goes (b.Flow x) s n = flow_goes (is_astray x.handle s) x s n
mapped_goes (b.Transfer x payload) s n = transfer_goes (input_at x.handle s) x payload s n
mapped_goes (b.Disposition x) s n = quiet (IsAnswer (b.Disposition x)) refl (record { held = omega arith; unreported = omega arith; ends = omega arith; window = refl })
mapped_goes (b.Detach x) s n = detach_goes (input_at x.handle s) x s n
mapped_goes (b.End x) s n = ended_goes (IsAnswer (b.End x)) x.error s tt n
mapped_goes (b.Open x) s n = same (IsAnswer (b.Open x)) 0 0 0 s
mapped_goes (b.Begin x) s n = same (IsAnswer (b.Begin x)) 0 0 0 s
mapped_goes (b.Close x) s n = same (IsAnswer (b.Close x)) 0 0 0 s
mapped_goes b.Empty s n = same (IsAnswer b.Empty) 0 0 0 s

unanswered_goes : (channel : ℕ) (x : FrameBody) (s : State) → ends_of s ≡ 1 → Goes (IsAnswer x) 0 (transfer_in x) (echo_in x) s (heard_unanswered channel x s).state
unanswered_goes channel (b.Begin x) s n = lets_goes (IsAnswer (b.Begin x)) (begin_lets x) (released_lets (mapped channel x s)) refl (omega arith) (omega arith) (omega arith) refl
unanswered_goes channel (b.End x) s n = ended_goes (IsAnswer (b.End x)) x.error s tt n
unanswered_goes channel x s n = same (IsAnswer x) 0 (transfer_in x) (echo_in x) s

ending_goes : (x : FrameBody) (s : State) → Goes (IsAnswer x) 0 (transfer_in x) (echo_in x) s (heard_ending x s).state
ending_goes (b.Disposition x) s = quiet (IsAnswer (b.Disposition x)) refl (record { held = omega arith; unreported = omega arith; ends = omega arith; window = refl })
ending_goes (b.End x) s = over (IsAnswer (b.End x)) 0 0 0 x.error s
ending_goes x s = same (IsAnswer x) 0 (transfer_in x) (echo_in x) s

heard_goes : (p : SessionState) (x : Framed) (s : State) → s.state ≡ p → Goes (IsAnswer x.body) 0 (transfer_in x.body) (echo_in x.body) s (heard_in p x s).state
heard_goes state.BeginSent x s h = unanswered_goes x.channel x.body s (ap ends_left h)
heard_goes state.Mapped x s h = mapped_goes x.body s (ap ends_left h)
heard_goes state.EndSent x s h = ending_goes x.body s
heard_goes state.Unmapped x s h = same (IsAnswer x.body) 0 (transfer_in x.body) (echo_in x.body) s

-- ---- what is told and asked

told_lets : (x : Transfer) (payload : List ℕ) (y : FrameBody) → IsTransfer y → IsTold (link.Transfer x payload) y
told_lets x payload (b.Transfer z part) h = tt
told_lets x payload other h = absurd h

told_goes : (p : SessionState) (x : LinkFrame) (s : State) → s.state ≡ p → Goes (IsTold x) (pieces_in x) 0 (other_in (body_of x)) s (told_in p x s).state
told_goes state.Mapped (link.Attach x) s h = one (IsTold (link.Attach x)) _ refl refl refl refl (omega arith) (omega arith) (omega arith) refl
told_goes state.Mapped (link.Flow x) s h = one (IsTold (link.Flow x)) _ refl refl refl refl (omega arith) (omega arith) (omega arith) refl
told_goes state.Mapped (link.Transfer x payload) s h =
    let t : State = record s { held = s.held ++ record { transfer = x; payload = payload } ∷ [] } in
    let e = pieces_both s.held (record { transfer = x; payload = payload } ∷ []) in
    lets_goes (IsTold (link.Transfer x payload)) (told_lets x payload) (released_lets t) refl (omega arith) (omega arith) (omega arith) refl
told_goes state.Mapped (link.Disposition x covered) s h = one (IsTold (link.Disposition x covered)) _ refl refl refl refl (omega arith) (omega arith) (omega arith) refl
told_goes state.Mapped (link.Detach x) s h =
    let e = fewer_pieces (λ p. not (nat_eq p.transfer.handle x.handle)) s.held in
    one (IsTold (link.Detach x)) _ refl refl refl refl (omega arith) (omega arith) (omega arith) refl
told_goes state.BeginSent x s h = same (IsTold x) (pieces_in x) 0 (other_in (body_of x)) s
told_goes state.EndSent x s h = same (IsTold x) (pieces_in x) 0 (other_in (body_of x)) s
told_goes state.Unmapped x s h = same (IsTold x) (pieces_in x) 0 (other_in (body_of x)) s

end_asked_goes : (M : FrameBody → Type 0) (p : SessionState) (e : Option AmqpError) (s : State) → s.state ≡ p → M (b.End (record { error = e })) → Goes M 0 0 0 s (end_asked p e s).state
end_asked_goes M state.Mapped e s h m = asked_goes M e s m (ap ends_left h)
end_asked_goes M state.BeginSent e s h m = same M 0 0 0 s
end_asked_goes M state.EndSent e s h m = same M 0 0 0 s
end_asked_goes M state.Unmapped e s h m = same M 0 0 0 s

refused_goes : (p : SessionState) (s : State) → s.state ≡ p → Goes (IsMade refuses) 0 0 0 s (attach_refused p s).state
refused_goes state.Mapped s h = fails_goes (IsMade refuses) fault.RemoteAttachingLinkNameNotFound s tt (ap ends_left h)
refused_goes state.BeginSent s h = same (IsMade refuses) 0 0 0 s
refused_goes state.EndSent s h = same (IsMade refuses) 0 0 0 s
refused_goes state.Unmapped s h = same (IsMade refuses) 0 0 0 s

-- ---- one move

-- what a move takes off and leaves is what there was, and what is new
pub record Steps (s : State) (m : Move) : Type 0 where
  pub new : List Framed
  pub written : handed s m ++ (after s m).output ≡ s.output ++ new
  pub made : Each (IsMade m) (bodies new)
  pub few : count other_in (bodies new) ≤ 1
  pub parts : count transfer_in (bodies new) + all_pieces (after s m).held ≤ all_pieces s.held + pieces_by m
  pub reports : ℕ
  pub due : report_after s.windows * reports + (after s m).windows.unreported ≤ s.windows.unreported + read_by transfer_in m
  pub others : count other_in (bodies new) + ends_of (after s m) ≤ ends_of s + (told_by m + read_by echo_in m) + reports
  pub window : (after s m).windows.incoming_window ≡ s.windows.incoming_window

first_rest : (xs : List Framed) → first_of xs ++ rest_of xs ≡ xs
first_rest [] = refl
first_rest (x ∷ xs) = refl

stepped : (s : State) (m : Move) (told came asked : ℕ) → handed s m ≡ [] → told ≡ pieces_by m → came ≡ read_by transfer_in m → asked ≡ told_by m + read_by echo_in m → Goes (IsMade m) told came asked s (after s m) → Steps s m
stepped s m told came asked e a c d g =
    let p = g.parts in
    let u = g.due in
    let o = g.others in
    record {
      new = g.new;
      written = ap (λ (xs : List Framed). xs ++ (after s m).output) e ∙ g.written;
      made = g.made;
      few = g.few;
      parts = omega arith;
      reports = g.reports;
      due = omega arith;
      others = omega arith;
      window = g.window;
    }

pub steps : (s : State) (m : Move) → Steps s m
steps s (tells x) = stepped s (tells x) (pieces_in x) 0 (other_in (body_of x)) refl refl refl (omega arith) (told_goes s.state x s refl)
steps s (hears x) = stepped s (hears x) 0 (transfer_in x.body) (echo_in x.body) refl refl refl (omega arith) (heard_goes s.state x s refl)
steps s (ends e) = stepped s (ends e) 0 0 0 refl refl refl refl (end_asked_goes (IsMade (ends e)) s.state e s refl refl)
steps s refuses = stepped s refuses 0 0 0 refl refl refl refl (refused_goes s.state s refl)
steps s (stops why) = stepped s (stops why) 0 0 0 refl refl refl refl (stopped_goes (IsMade (stops why)) why s)
steps s hands_frame = record { new = []; written = first_rest s.output ∙ sym (append-nil s.output); made = tt; few = omega arith; parts = omega arith; reports = 0; due = omega arith; others = omega arith; window = refl }
steps s hands_input = stepped s hands_input 0 0 0 refl refl refl refl (quiet (IsMade hands_input) refl (record { held = omega arith; unreported = omega arith; ends = omega arith; window = refl }))

pub session_makes_few : SessionMakesFew
session_makes_few s m = (let g = steps s m in record { new = g.new; written = g.written; made = g.made; few = g.few })
