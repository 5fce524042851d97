-- What two sessions write.
use Rattle.std.specs.Prelude.{◌≡◌, ℕ, ◌+◌, ◌*◌, ◌≤◌, List, [], ◌∷◌, ◌++◌, length, refl}
use Rattle.std.proofs.Common.{sym, ◌∙◌, ap, subst, arith}
use Rattle.amqp_frames.specs.declared.body.FrameBody.{FrameBody}
use Rattle.amqp_frames.specs.declared.body.FrameBody.TheVariants as b
use Rattle.amqp_session.specs.State.{Framed}
use Rattle.amqp_session.specs.Windows.{report_after}
use Rattle.session_laws.specs.Handing.{heard}
use Rattle.session_laws.specs.Holding.{Move, tells, hears, ends, refuses, stops, hands_frame, hands_input}
use Rattle.session_laws.specs.Speaking.{bodies}
use Rattle.window_laws.specs.Starting.{Start, begins, answers, session_of, read_at_first, reads, writes}
use Rattle.few_frames.specs.Kinds.{AsksNone, AskNone, count, one_if, transfer_in, other_in, echo_in, all_pieces}
use Rattle.few_frames.specs.Sessions.{TellNone, total, pieces_by, read_by}
use Rattle.few_frames.specs.Both.{half, told, BothWriteFew}
use Rattle.few_frames.proofs.Counts.{counted}
use Rattle.few_frames.proofs.Lives.{session_writes_few, session_asks_none}

-- ---- all frames

one_each : (x : FrameBody) → transfer_in x + other_in x ≡ 1
one_each (b.Transfer x payload) = refl
one_each (b.Open x) = refl
one_each (b.Begin x) = refl
one_each (b.Attach x) = refl
one_each (b.Flow x) = refl
one_each (b.Disposition x) = refl
one_each (b.Detach x) = refl
one_each (b.End x) = refl
one_each (b.Close x) = refl
one_each b.Empty = refl

both_kinds : (xs : List Framed) → count transfer_in (bodies xs) + count other_in (bodies xs) ≡ length xs
both_kinds [] = refl
both_kinds (x ∷ xs) =
    let e : count transfer_in (bodies xs) + count other_in (bodies xs) ≡ length xs = both_kinds xs in
    let f = one_each x.body in
    omega arith

-- ---- what is read

heard_count : (f : FrameBody → ℕ) (ms : List Move) → total (read_by f) ms ≡ count f (bodies (heard ms))
heard_count f [] = refl
heard_count f (tells x ∷ ms) = let e : total (read_by f) ms ≡ count f (bodies (heard ms)) = heard_count f ms in omega arith
heard_count f (hears x ∷ ms) = let e : total (read_by f) ms ≡ count f (bodies (heard ms)) = heard_count f ms in omega arith
heard_count f (ends e ∷ ms) = let e : total (read_by f) ms ≡ count f (bodies (heard ms)) = heard_count f ms in omega arith
heard_count f (refuses ∷ ms) = let e : total (read_by f) ms ≡ count f (bodies (heard ms)) = heard_count f ms in omega arith
heard_count f (stops why ∷ ms) = let e : total (read_by f) ms ≡ count f (bodies (heard ms)) = heard_count f ms in omega arith
heard_count f (hands_frame ∷ ms) = let e : total (read_by f) ms ≡ count f (bodies (heard ms)) = heard_count f ms in omega arith
heard_count f (hands_input ∷ ms) = let e : total (read_by f) ms ≡ count f (bodies (heard ms)) = heard_count f ms in omega arith

front_count : (a h r c w : ℕ) → c ≡ a + h → w ≡ c + r → h ≤ w
front_count a h r c w e f = omega arith

-- of what is read there is no more than was written
read_count : (f : FrameBody → ℕ) (t : Start) (ns : List Move) (unread ws : List Framed) → reads t ns ++ unread ≡ ws → total (read_by f) ns ≤ count f (bodies ws)
read_count f t ns unread ws h =
    let e = heard_count f ns in
    let g = front_count (count f (bodies (read_at_first t))) (count f (bodies (heard ns))) (count f (bodies unread)) (count f (bodies (reads t ns))) (count f (bodies ws))
    (counted f (read_at_first t) (heard ns)) (ap (λ (xs : List Framed). count f (bodies xs)) (sym h) ∙ counted f (reads t ns) unread) in
    omega arith

no_echo : (x : FrameBody) → AsksNone x → echo_in x ≡ 0
no_echo (b.Flow x) h = ap one_if h
no_echo (b.Open x) h = refl
no_echo (b.Begin x) h = refl
no_echo (b.Attach x) h = refl
no_echo (b.Transfer x payload) h = refl
no_echo (b.Disposition x) h = refl
no_echo (b.Detach x) h = refl
no_echo (b.End x) h = refl
no_echo (b.Close x) h = refl
no_echo b.Empty h = refl

no_echoes : (xs : List FrameBody) → AskNone xs → count echo_in xs ≡ 0
no_echoes [] h = refl
no_echoes (x ∷ xs) h =
    let e : count echo_in xs ≡ 0 = no_echoes xs h.1 in
    let f = no_echo x h.0 in
    omega arith

-- ---- one session

-- as a session begins, it has its Begin to write
pub record First (u : Start) : Type 0 where
  pub held : all_pieces (session_of u).held ≡ 0
  pub unreported : (session_of u).windows.unreported ≡ 0
  pub transfers : count transfer_in (bodies (session_of u).output) ≡ 0
  pub others : count other_in (bodies (session_of u).output) ≡ 1
  pub asks : AskNone (bodies (session_of u).output)
  pub due_after : report_after (session_of u).windows ≡ half u

firsts : (u : Start) → First u
firsts (begins x channel) = record { held = refl; unreported = refl; transfers = refl; others = refl; asks = (tt, tt); due_after = refl }
firsts (answers x channel incoming) = record { held = refl; unreported = refl; transfers = refl; others = refl; asks = (tt, tt); due_after = refl }

-- where it reads a front of what another one writes
pub record WritesOf (t : Start) (ns : List Move) (js : List Move) : Type 0 where
  pub reports : ℕ
  pub due : half t * reports ≤ total pieces_by js
  pub few : length (writes t ns) ≤ 2 + told ns + reports

pub transfers_of : (u : Start) (js : List Move) → count transfer_in (bodies (writes u js)) ≤ total pieces_by js
transfers_of u js =
    let f = firsts u in
    let a = f.held in
    let c = f.transfers in
    let d = (session_writes_few (session_of u) js).transfers in
    omega arith

one_side : (t : Start) (ns : List Move) (u : Start) (js : List Move) (unread : List Framed) → reads t ns ++ unread ≡ writes u js → TellNone js → WritesOf t ns js
one_side t ns u js unread h k =
    let f = firsts t in
    let g = session_writes_few (session_of t) ns in
    let a = f.held in
    let v = f.unreported in
    let c = f.transfers in
    let o = f.others in
    let e = no_echoes (bodies (writes u js)) (session_asks_none (session_of u) js (firsts u).asks k) in
    let p = read_count echo_in t ns unread (writes u js) h in
    let q = read_count transfer_in t ns unread (writes u js) h in
    let r = transfers_of u js in
    let x = g.transfers in
    let y = g.others in
    let d : half t * g.reports ≤ (session_of t).windows.unreported + total (read_by transfer_in) ns = subst (λ n. n * g.reports ≤ (session_of t).windows.unreported + total (read_by transfer_in) ns) f.due_after g.due in
    let z = both_kinds (writes t ns) in
    record { reports = g.reports; due = omega arith; few = omega arith }

pub both_write_few : BothWriteFew
both_write_few t ns u js h k l =
    let a = one_side t ns u js h.unanswered h.answers l in
    let c = one_side u js t ns h.unread h.hears k in
    let p = a.few in
    let q = c.few in
    record { reports = a.reports; due = a.due; other_reports = c.reports; other_due = c.due; few = omega arith }
