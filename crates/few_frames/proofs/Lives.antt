-- What a session writes over its life.
use Rattle.std.specs.Prelude.{◌≡◌, ℕ, ◌+◌, ◌*◌, ◌/◌, ◌≤◌, max, List, [], ◌∷◌, ◌++◌}
use Rattle.std.proofs.Common.{sym, ◌∙◌, ap, append_assoc, subst, arith}
use Rattle.std.proofs.Math.Nat.{mul-add}
use Rattle.amqp_frames.specs.declared.body.FrameBody.{FrameBody}
use Rattle.amqp_frames.specs.declared.body.FrameBody.TheVariants as b
use Rattle.amqp_frames.specs.declared.shared.LinkFrame.{LinkFrame}
use Rattle.amqp_frames.specs.declared.shared.LinkFrame.TheVariants as link
use Rattle.amqp_link.specs.Link.{body_of}
use Rattle.amqp_session.specs.declared.session.SessionState.{SessionState}
use Rattle.amqp_session.specs.declared.session.SessionState.TheVariants as state
use Rattle.amqp_session.specs.State.{State, Framed}
use Rattle.amqp_session.specs.Windows.{report_after}
use Rattle.session_laws.specs.Holding.{Move, tells, hears, ends, refuses, stops, hands_frame, hands_input, after, after_all, handed, handed_all, written}
use Rattle.session_laws.specs.Speaking.{bodies}
use Rattle.few_frames.specs.Kinds.{AsksNone, AskNone, count, transfer_in, other_in, echo_in, all_pieces}
use Rattle.few_frames.specs.Sessions.{IsAnswer, IsTold, IsEnd, IsMade, TellsNone, total, told_by, pieces_by, read_by, SessionWritesFew, SessionAsksNone}
use Rattle.few_frames.proofs.Counts.{bodies_both, counted, none_both, none_when, none_left, none_right}
use Rattle.few_frames.proofs.Sessions.{ends_left, ends_of, steps}

-- ---- how many

-- all that it writes behind a move is what it writes from there on, and what was taken off
written_behind : (s : State) (m : Move) (ms : List Move) → written s (m ∷ ms) ≡ handed s m ++ written (after s m) ms
written_behind s m ms = append_assoc (handed s m) (handed_all (after s m) ms) (after_all (after s m) ms).output

behind_count : (h w c o n t : ℕ) → w ≡ h + c → h + t ≡ o + n → w + t ≡ o + n + c
behind_count h w c o n t e f = omega arith

grown : (f : FrameBody → ℕ) (s : State) (m : Move) (ms : List Move) (new : List Framed) → handed s m ++ (after s m).output ≡ s.output ++ new
    → count f (bodies (written s (m ∷ ms))) + count f (bodies (after s m).output) ≡ count f (bodies s.output) + count f (bodies new) + count f (bodies (written (after s m) ms))
grown f s m ms new e =
    behind_count (count f (bodies (handed s m))) (count f (bodies (written s (m ∷ ms)))) (count f (bodies (written (after s m) ms))) (count f (bodies s.output)) (count f (bodies new)) (count f (bodies (after s m).output))
    (ap (λ (xs : List Framed). count f (bodies xs)) (written_behind s m ms) ∙ counted f (handed s m) (written (after s m) ms))
    (sym (counted f (handed s m) (after s m).output) ∙ (ap (λ (xs : List Framed). count f (bodies xs)) e ∙ counted f s.output new))

-- with the End that may still be written
pub record Lives (s : State) (ms : List Move) : Type 0 where
  pub transfers : count transfer_in (bodies (written s ms)) ≤ count transfer_in (bodies s.output) + all_pieces s.held + total pieces_by ms
  pub reports : ℕ
  pub due : report_after s.windows * reports ≤ s.windows.unreported + total (read_by transfer_in) ms
  pub others : count other_in (bodies (written s ms)) ≤ count other_in (bodies s.output) + ends_of s + total told_by ms + total (read_by echo_in) ms + reports

due_both : (a c r u v w x : ℕ) → r ≡ a + c → a + v ≤ u + w → c ≤ v + x → r ≤ u + (w + x)
due_both a c r u v w x e h k = omega arith

pub lives : (s : State) (ms : List Move) → Lives s ms
lives s [] = record { transfers = omega arith; reports = 0; due = omega arith; others = omega arith }
lives s (m ∷ ms) =
    let t = after s m in
    let g = steps s m in
    let r = lives t ms in
    let p = g.parts in
    let o = g.others in
    let q = r.transfers in
    let w = r.others in
    let x = grown transfer_in s m ms g.new g.written in
    let y = grown other_in s m ms g.new g.written in
    let k : report_after t.windows ≡ report_after s.windows = ap (λ n. max (n / 2) 1) g.window in
    let d : report_after s.windows * r.reports ≤ t.windows.unreported + total (read_by transfer_in) ms = subst (λ n. n * r.reports ≤ t.windows.unreported + total (read_by transfer_in) ms) k r.due in
    record {
      transfers = omega arith;
      reports = g.reports + r.reports;
      due = due_both (report_after s.windows * g.reports) (report_after s.windows * r.reports) (report_after s.windows * (g.reports + r.reports)) s.windows.unreported t.windows.unreported (read_by transfer_in m) (total (read_by transfer_in) ms)
          (mul-add (report_after s.windows) g.reports r.reports) g.due d;
      others = omega arith;
    }

one_end : (p : SessionState) → ends_left p ≤ 1
one_end state.BeginSent = omega arith
one_end state.Mapped = omega arith
one_end state.EndSent = omega arith
one_end state.Unmapped = omega arith

pub session_writes_few : SessionWritesFew
session_writes_few s ms =
    let r = lives s ms in
    let e = one_end s.state in
    let o = r.others in
    record { transfers = r.transfers; reports = r.reports; due = r.due; others = omega arith }

-- ---- what it asks for

answers_none : (x y : FrameBody) → IsAnswer x y → AsksNone y
answers_none (b.Flow x) (b.Flow y) h = h.1
answers_none (b.Transfer x payload) (b.Flow y) h = h
answers_none (b.Open x) (b.Flow y) h = absurd h
answers_none (b.Begin x) (b.Flow y) h = absurd h
answers_none (b.Attach x) (b.Flow y) h = absurd h
answers_none (b.Disposition x) (b.Flow y) h = absurd h
answers_none (b.Detach x) (b.Flow y) h = absurd h
answers_none (b.End x) (b.Flow y) h = absurd h
answers_none (b.Close x) (b.Flow y) h = absurd h
answers_none b.Empty (b.Flow y) h = absurd h
answers_none x (b.Open y) h = tt
answers_none x (b.Begin y) h = tt
answers_none x (b.Attach y) h = tt
answers_none x (b.Transfer y payload) h = tt
answers_none x (b.Disposition y) h = tt
answers_none x (b.Detach y) h = tt
answers_none x (b.End y) h = tt
answers_none x (b.Close y) h = tt
answers_none x b.Empty h = tt

told_none : (x : LinkFrame) (y : FrameBody) → AsksNone (body_of x) → IsTold x y → AsksNone y
told_none (link.Flow x) (b.Flow y) k h = h ∙ k
told_none (link.Flow x) (b.Open y) k h = tt
told_none (link.Flow x) (b.Begin y) k h = tt
told_none (link.Flow x) (b.Attach y) k h = tt
told_none (link.Flow x) (b.Transfer y payload) k h = tt
told_none (link.Flow x) (b.Disposition y) k h = tt
told_none (link.Flow x) (b.Detach y) k h = tt
told_none (link.Flow x) (b.End y) k h = tt
told_none (link.Flow x) (b.Close y) k h = tt
told_none (link.Flow x) b.Empty k h = tt
told_none (link.Attach x) y k h = subst AsksNone (sym h) tt
told_none (link.Disposition x covered) y k h = subst AsksNone (sym h) tt
told_none (link.Detach x) y k h = subst AsksNone (sym h) tt
told_none (link.Transfer x payload) (b.Transfer y part) k h = tt
told_none (link.Transfer x payload) other k h = absurd h

end_none : (y : FrameBody) → IsEnd y → AsksNone y
end_none (b.End x) h = tt
end_none other h = absurd h

made_none : (m : Move) → TellsNone m → (y : FrameBody) → IsMade m y → AsksNone y
made_none (tells x) k y h = told_none x y k h
made_none (hears x) k y h = answers_none x.body y h
made_none (ends e) k y h = subst AsksNone (sym h) tt
made_none refuses k y h = end_none y h
made_none (stops why) k y h = absurd h
made_none hands_frame k y h = absurd h
made_none hands_input k y h = absurd h

none_joined : (xs ys : List Framed) → AskNone (bodies xs) → AskNone (bodies ys) → AskNone (bodies (xs ++ ys))
none_joined xs ys h k = subst AskNone (sym (bodies_both xs ys)) (none_both (bodies xs) (bodies ys) h k)

none_split : (xs ys : List Framed) → AskNone (bodies (xs ++ ys)) → AskNone (bodies xs ++ bodies ys)
none_split xs ys h = subst AskNone (bodies_both xs ys) h

pub session_asks_none : SessionAsksNone
session_asks_none s [] h k = h
session_asks_none s (m ∷ ms) h k =
    let t = after s m in
    let g = steps s m in
    let new : AskNone (bodies g.new) = none_when (IsMade m) (made_none m k.0) (bodies g.new) g.made in
    let all : AskNone (bodies (handed s m ++ t.output)) = subst (λ (xs : List Framed). AskNone (bodies xs)) (sym g.written) (none_joined s.output g.new h new) in
    let both = none_split (handed s m) t.output all in
    let later = session_asks_none t ms (none_right (bodies (handed s m)) (bodies t.output) both) k.1 in
    subst (λ (xs : List Framed). AskNone (bodies xs)) (sym (written_behind s m ms)) (none_joined (handed s m) (written t ms) (none_left (bodies (handed s m)) (bodies t.output) both) later)
