-- What two ends write that have one link.
use Rattle.std.specs.Prelude.{◌≡◌, ℕ, zero, suc, ◌+◌, ◌*◌, ◌<◌, ◌≤◌, max, List, [], ◌∷◌, ◌++◌, length, map, refl}
use Rattle.std.proofs.Common.{sym, ◌∙◌, ap, subst, arith}
use Rattle.std.proofs.Math.Nat.{mul-suc}
use Rattle.std.proofs.lemmas.Grind.{flat_map-append}
use Rattle.amqp_frames.specs.declared.body.FrameBody.{FrameBody}
use Rattle.amqp_frames.specs.declared.body.FrameBody.TheVariants as b
use Rattle.amqp_frames.specs.declared.shared.LinkFrame.TheVariants as link
use Rattle.session_laws.specs.Giving as receiver
use Rattle.session_laws.specs.Holding.{Move, tells, hears, ends, refuses, stops, hands_frame, hands_input}
use Rattle.session_laws.specs.Messages.{part_of, transfer_in, transfers}
use Rattle.session_laws.specs.Sending.{sent, written}
use Rattle.session_laws.proofs.Sends.{writes_what_is_sent}
use Rattle.few_frames.specs.Both.{half}
use Rattle.few_frames.specs.Kinds.{AskNone, MovesNone, Each, count, other_in, all_pieces}
use Rattle.few_frames.specs.Sessions.{TellNone, total, told_by, pieces_by}
use Rattle.few_frames.specs.Whole.{said, bytes_in, PairWritesFew}
use Rattle.few_frames.proofs.Both.{both_write_few}
use Rattle.few_frames.proofs.Counts.{count_both, none_left}
use Rattle.few_frames.proofs.Ends.{ends_write_few}
use Rattle.few_frames.proofs.Holds.{pieces_both}
use Rattle.few_frames.proofs.Receivers.{receiver_asks_none, receiver_moves_none}
use Rattle.few_frames.proofs.Senders.{sender_asks_none}

-- ---- what a session is told

told_count : (ms : List Move) → total told_by ms ≡ count other_in (said ms)
told_count [] = refl
told_count (tells (link.Attach x) ∷ ms) = let e : total told_by ms ≡ count other_in (said ms) = told_count ms in omega arith
told_count (tells (link.Flow x) ∷ ms) = let e : total told_by ms ≡ count other_in (said ms) = told_count ms in omega arith
told_count (tells (link.Transfer x payload) ∷ ms) = let e : total told_by ms ≡ count other_in (said ms) = told_count ms in omega arith
told_count (tells (link.Disposition x covered) ∷ ms) = let e : total told_by ms ≡ count other_in (said ms) = told_count ms in omega arith
told_count (tells (link.Detach x) ∷ ms) = let e : total told_by ms ≡ count other_in (said ms) = told_count ms in omega arith
told_count (hears x ∷ ms) = let e : total told_by ms ≡ count other_in (said ms) = told_count ms in omega arith
told_count (ends e ∷ ms) = let e : total told_by ms ≡ count other_in (said ms) = told_count ms in omega arith
told_count (refuses ∷ ms) = let e : total told_by ms ≡ count other_in (said ms) = told_count ms in omega arith
told_count (stops why ∷ ms) = let e : total told_by ms ≡ count other_in (said ms) = told_count ms in omega arith
told_count (hands_frame ∷ ms) = let e : total told_by ms ≡ count other_in (said ms) = told_count ms in omega arith
told_count (hands_input ∷ ms) = let e : total told_by ms ≡ count other_in (said ms) = told_count ms in omega arith

told_pieces : (ms : List Move) → total pieces_by ms ≡ all_pieces (transfers (said ms))
told_pieces [] = refl
told_pieces (tells (link.Attach x) ∷ ms) = let e : total pieces_by ms ≡ all_pieces (transfers (said ms)) = told_pieces ms in omega arith
told_pieces (tells (link.Flow x) ∷ ms) = let e : total pieces_by ms ≡ all_pieces (transfers (said ms)) = told_pieces ms in omega arith
told_pieces (tells (link.Transfer x payload) ∷ ms) = let e : total pieces_by ms ≡ all_pieces (transfers (said ms)) = told_pieces ms in omega arith
told_pieces (tells (link.Disposition x covered) ∷ ms) = let e : total pieces_by ms ≡ all_pieces (transfers (said ms)) = told_pieces ms in omega arith
told_pieces (tells (link.Detach x) ∷ ms) = let e : total pieces_by ms ≡ all_pieces (transfers (said ms)) = told_pieces ms in omega arith
told_pieces (hears x ∷ ms) = let e : total pieces_by ms ≡ all_pieces (transfers (said ms)) = told_pieces ms in omega arith
told_pieces (ends e ∷ ms) = let e : total pieces_by ms ≡ all_pieces (transfers (said ms)) = told_pieces ms in omega arith
told_pieces (refuses ∷ ms) = let e : total pieces_by ms ≡ all_pieces (transfers (said ms)) = told_pieces ms in omega arith
told_pieces (stops why ∷ ms) = let e : total pieces_by ms ≡ all_pieces (transfers (said ms)) = told_pieces ms in omega arith
told_pieces (hands_frame ∷ ms) = let e : total pieces_by ms ≡ all_pieces (transfers (said ms)) = told_pieces ms in omega arith
told_pieces (hands_input ∷ ms) = let e : total pieces_by ms ≡ all_pieces (transfers (said ms)) = told_pieces ms in omega arith

tells_none : (ms : List Move) → AskNone (said ms) → TellNone ms
tells_none [] h = tt
tells_none (tells x ∷ ms) h = (h.0, tells_none ms h.1)
tells_none (hears x ∷ ms) h = (tt, tells_none ms h)
tells_none (ends e ∷ ms) h = (tt, tells_none ms h)
tells_none (refuses ∷ ms) h = (tt, tells_none ms h)
tells_none (stops why ∷ ms) h = (tt, tells_none ms h)
tells_none (hands_frame ∷ ms) h = (tt, tells_none ms h)
tells_none (hands_input ∷ ms) h = (tt, tells_none ms h)

told_none : (ms : List Move) (untold ws : List FrameBody) → said ms ++ untold ≡ ws → AskNone ws → TellNone ms
told_none ms untold ws e h = tells_none ms (none_left (said ms) untold (subst AskNone (sym e) h))

-- ---- fronts

part_few : (a c w : ℕ) → w ≡ a + c → a ≤ w
part_few a c w e = omega arith

front_count : (xs ys ws : List FrameBody) → xs ++ ys ≡ ws → count other_in xs ≤ count other_in ws
front_count xs ys ws e = part_few (count other_in xs) (count other_in ys) (count other_in ws) (ap (count other_in) (sym e) ∙ count_both other_in xs ys)

front_pieces : (xs ys ws : List FrameBody) → xs ++ ys ≡ ws → all_pieces (transfers xs) ≤ all_pieces (transfers ws)
front_pieces xs ys ws e =
    part_few (all_pieces (transfers xs)) (all_pieces (transfers ys)) (all_pieces (transfers ws))
    (ap (λ (zs : List FrameBody). all_pieces (transfers zs)) (sym e) ∙ (ap all_pieces (flat_map-append transfer_in xs ys) ∙ pieces_both (transfers xs) (transfers ys)))

one_other : (x : FrameBody) → other_in x ≤ 1
one_other (b.Open x) = omega arith
one_other (b.Begin x) = omega arith
one_other (b.Attach x) = omega arith
one_other (b.Flow x) = omega arith
one_other (b.Transfer x payload) = omega arith
one_other (b.Disposition x) = omega arith
one_other (b.Detach x) = omega arith
one_other (b.End x) = omega arith
one_other (b.Close x) = omega arith
one_other b.Empty = omega arith

few_others : (xs : List FrameBody) → count other_in xs ≤ length xs
few_others [] = omega arith
few_others (x ∷ xs) =
    let e : count other_in xs ≤ length xs = few_others xs in
    let f = one_other x in
    omega arith

no_transfers : (xs : List FrameBody) → Each MovesNone xs → all_pieces (transfers xs) ≡ 0
no_transfers [] h = refl
no_transfers (b.Transfer x payload ∷ xs) h = absurd h.0
no_transfers (b.Open x ∷ xs) h = no_transfers xs h.1
no_transfers (b.Begin x ∷ xs) h = no_transfers xs h.1
no_transfers (b.Attach x ∷ xs) h = no_transfers xs h.1
no_transfers (b.Flow x ∷ xs) h = no_transfers xs h.1
no_transfers (b.Disposition x ∷ xs) h = no_transfers xs h.1
no_transfers (b.Detach x ∷ xs) h = no_transfers xs h.1
no_transfers (b.End x ∷ xs) h = no_transfers xs h.1
no_transfers (b.Close x ∷ xs) h = no_transfers xs h.1
no_transfers (b.Empty ∷ xs) h = no_transfers xs h.1

-- ---- both ends

-- where no Transfer is read, nothing is reported
none_due : (h n m : ℕ) → 0 < h → h * n ≤ m → m ≡ 0 → n ≡ 0
none_due h zero m p e z = refl
none_due h (suc n) m p e z = let f = mul-suc h n in absurd (omega arith)

some_half : (n : ℕ) → 0 < max n 1
some_half n = omega arith

pub pair_writes_few : PairWritesFew
pair_writes_few s ms t ns u js r ks p =
    let ws = written s ms in
    let vs = receiver.written r ks in
    let both = both_write_few t ns u js p.sessions
    (told_none ns p.untold ws p.tells (sender_asks_none s ms p.asks)) (told_none js p.other_untold vs p.other_tells (receiver_asks_none r ks p.other_asks)) in
    let ends = ends_write_few s ms r ks p.due p.other_due p.flows in
    let a = told_count ns in
    let c = told_count js in
    let d = told_pieces ns in
    let e = told_pieces js in
    let f = front_count (said ns) p.untold ws p.tells in
    let g = front_count (said js) p.other_untold vs p.other_tells in
    let h = front_pieces (said ns) p.untold ws p.tells in
    let i = front_pieces (said js) p.other_untold vs p.other_tells in
    let j = few_others ws in
    let k = few_others vs in
    let m : all_pieces (transfers ws) ≡ bytes_in s ms = ap all_pieces (writes_what_is_sent s ms) ∙ pieces_both (transfers s.link.output) (map part_of (sent s ms)) in
    let n = no_transfers vs (receiver_moves_none r ks p.moves) in
    let z : total pieces_by js ≡ 0 = omega arith in
    let o : both.reports ≡ 0 = none_due (half t) both.reports (total pieces_by js) (some_half _) both.due z in
    let q = both.other_due in
    let x = both.few in
    record { reports = both.other_reports; due = omega arith; few = omega arith }
