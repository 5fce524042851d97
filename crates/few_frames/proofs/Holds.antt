-- The Transfers that wait in a session, and how many frames they become.
use Rattle.std.specs.Prelude.{◌≡◌, ℕ, zero, suc, ◌+◌, ◌<◌, ◌≤◌, nat_lt, Bool, true, false, ◌&&◌, List, [], ◌∷◌, ◌++◌, length, filter, Option, Some, None, if◌then◌else◌, refl}
use Rattle.std.proofs.Common.{sym, ◌∙◌, ap, append-nil, append_assoc, subst, arith}
use Rattle.std.proofs.lemmas.Bool.Decides.{nat_tests}
use Rattle.std.proofs.lemmas.List.{length-drop}
use Rattle.amqp_performatives.specs.declared.transfer.Transfer.{Transfer}
use Rattle.amqp_frames.specs.declared.body.FrameBody.{FrameBody}
use Rattle.amqp_frames.specs.declared.body.FrameBody.TheVariants as b
use Rattle.amqp_parts.specs.declared.part.Part.{Part}
use Rattle.amqp_parts.specs.Cut.{room_for, is_enough, filling, cut_length, cut_at, cut_of}
use Rattle.amqp_parts.specs.Split.{saying_last, saying_more}
use Rattle.amqp_session.specs.Hold.{numbered, kept, first_leaving, releasing, released}
use Rattle.amqp_session.specs.State.{State, Framed}
use Rattle.session_laws.specs.Speaking.{bodies}
use Rattle.few_frames.specs.Kinds.{Each, count, transfer_in, other_in, pieces, all_pieces}
use Rattle.few_frames.proofs.Counts.{bodies_both, counted, each_both}

-- ---- one part

fills_by : (len m n : ℕ) (c : Bool) → (nat_lt 0 m && nat_lt m len) ≡ c → (if c then Some m else None) ≡ Some n → (0 < n) × (n < len)
fills_by len m n true e h = let f : m ≡ n = cc in (grind (arith, nat_tests), grind (arith, nat_tests))
fills_by len m n false e h = absurd cc

fills : (len : ℕ) (o : Option ℕ) (n : ℕ) → filling len o ≡ Some n → (0 < n) × (n < len)
fills len None n h = absurd cc
fills len (Some m) n h = fills_by len m n (nat_lt 0 m && nat_lt m len) refl h

cuts_by : (frame : ℕ) (x : Transfer) (len n : ℕ) (c : Bool) → (if c then None else filling len (room_for frame (saying_more x))) ≡ Some n → (0 < n) × (n < len)
cuts_by frame x len n true h = absurd cc
cuts_by frame x len n false h = fills len (room_for frame (saying_more x)) n h

cuts : (frame : ℕ) (x : Transfer) (len n : ℕ) → cut_length frame x len ≡ Some n → (0 < n) × (n < len)
cuts frame x len n h = cuts_by frame x len n (is_enough len (room_for frame (saying_last x))) h

-- what is left waits in front, and with the first part it is no more than it was
leaves_by : (o : Option ℕ) (x : Transfer) (payload : List ℕ) (xs : List Part) → ((n : ℕ) → o ≡ Some n → (0 < n) × (n < length payload))
    → 1 + all_pieces (kept (cut_at o x payload).rest xs) ≤ pieces payload + all_pieces xs
leaves_by None x payload xs h = omega arith
leaves_by (Some n) x payload xs h =
    let a = h n refl in
    let l : 0 < n = a.0 in
    let g : n < length payload = a.1 in
    let e = length-drop n payload in
    omega arith

leaves : (frame : ℕ) (x : Transfer) (payload : List ℕ) (xs : List Part) → 1 + all_pieces (kept (cut_of frame x payload).rest xs) ≤ pieces payload + all_pieces xs
unfolding cut_of
leaves frame x payload xs = leaves_by (cut_length frame x (length payload)) x payload xs (cuts frame x (length payload))

-- ---- all that leave

abbrev pub IsTransfer : FrameBody → Type 0
IsTransfer (b.Transfer x payload) = Unit {0}
IsTransfer other = ⊥

-- Transfers that have waited are written, and nothing else
pub record Lets (s t : State) : Type 0 where
  pub gone : List Framed
  pub written : t.output ≡ s.output ++ gone
  pub transfers : Each IsTransfer (bodies gone)
  pub parts : count transfer_in (bodies gone) + all_pieces t.held ≤ all_pieces s.held
  pub phase : t.state ≡ s.state
  pub unreported : t.windows.unreported ≡ s.windows.unreported
  pub window : t.windows.incoming_window ≡ s.windows.incoming_window

pub no_others : (xs : List FrameBody) → Each IsTransfer xs → count other_in xs ≡ 0
no_others [] h = refl
no_others (b.Transfer x payload ∷ xs) h = let e : count other_in xs ≡ 0 = no_others xs h.1 in omega arith
no_others (other ∷ xs) h = absurd h.0

none_lets : (s : State) → Lets s s
none_lets s = record { gone = []; written = sym (append-nil s.output); transfers = tt; parts = omega arith; phase = refl; unreported = refl; window = refl }

both_let : (s t u : State) → Lets s t → Lets t u → Lets s u
both_let s t u a c =
    let e = counted transfer_in a.gone c.gone in
    let p = a.parts in
    let q = c.parts in
    record {
      gone = a.gone ++ c.gone;
      written = c.written ∙ (ap (λ (xs : List Framed). xs ++ c.gone) a.written ∙ append_assoc s.output a.gone c.gone);
      transfers = subst (λ (xs : List FrameBody). Each IsTransfer xs) (sym (bodies_both a.gone c.gone)) (each_both IsTransfer (bodies a.gone) (bodies c.gone) a.transfers c.transfers);
      parts = omega arith;
      phase = c.phase ∙ a.phase;
      unreported = c.unreported ∙ a.unreported;
      window = c.window ∙ a.window;
    }

first_lets : (xs : List Part) (s : State) → s.held ≡ xs → Lets s (first_leaving xs s)
first_lets [] s h = none_lets s
first_lets (x ∷ xs) s h =
    let n = s.windows.next_delivery_id in
    let e : all_pieces s.held ≡ pieces x.payload + all_pieces xs = ap all_pieces h in
    let p = leaves s.max_frame_size (numbered n x.transfer) x.payload xs in
    record { gone = _ ∷ []; written = refl; transfers = (tt, tt); parts = omega arith; phase = refl; unreported = refl; window = refl }

releasing_lets : (n : ℕ) (s : State) → Lets s (releasing n s)
unfolding releasing
releasing_lets zero s = none_lets s
releasing_lets (suc n) s = both_let s (first_leaving s.held s) (releasing n (first_leaving s.held s)) (first_lets s.held s refl) (releasing_lets n (first_leaving s.held s))

pub released_lets : (s : State) → Lets s (released s)
released_lets s = releasing_lets s.windows.allowance s

-- ---- what else becomes of those that wait

pub pieces_both : (xs ys : List Part) → all_pieces (xs ++ ys) ≡ all_pieces xs + all_pieces ys
pieces_both [] ys = omega arith
pieces_both (x ∷ xs) ys = let e : all_pieces (xs ++ ys) ≡ all_pieces xs + all_pieces ys = pieces_both xs ys in omega arith

kept_by : (c : Bool) (x : Part) (xs ys : List Part) → all_pieces ys ≤ all_pieces xs → all_pieces (if c then x ∷ ys else ys) ≤ all_pieces (x ∷ xs)
kept_by true x xs ys h = omega arith
kept_by false x xs ys h = omega arith

pub fewer_pieces : (p : Part → Bool) (xs : List Part) → all_pieces (filter p xs) ≤ all_pieces xs
fewer_pieces p [] = omega arith
fewer_pieces p (x ∷ xs) = kept_by (p x) x xs (filter p xs) (fewer_pieces p xs)
