-- What two ends tell each other of how many Transfers were written and read.
use Rattle.std.specs.Prelude.{◌≡◌, ℕ, ◌+◌, ◌<◌, ◌≤◌, true, List, [], ◌∷◌, ◌++◌, All, Some, refl}
use Rattle.std.proofs.Common.{sym, ◌∙◌, ap, subst, append-nil, append_assoc, arith}
use Rattle.amqp_performatives.specs.declared.flow.Flow.{Flow}
use Rattle.amqp_performatives.specs.declared.transfer.Transfer.{Transfer}
use Rattle.amqp_frames.specs.declared.body.FrameBody.{FrameBody}
use Rattle.amqp_frames.specs.declared.body.FrameBody.TheVariants as b
use Rattle.amqp_session.specs.State.{State, Framed}
use Rattle.amqp_session.specs.Windows.{stamped, after as following}
use Rattle.session_laws.specs.Holding.{Move, hears, after, after_all, handed, handed_all, written}
use Rattle.session_laws.specs.Handing.{heard_by, heard}
use Rattle.window_laws.specs.Starting.{Start, session_of, read_at_first, reads, writes, first_number}
use Rattle.window_laws.specs.Counting.{number_at, count, behind, InOrder, NamesNext, Numbers, NumbersItsTransfers, Reports, ReportsWhatItHeard, ReportsWithin, ReportsNoMore}
use Rattle.window_laws.proofs.Walks.{View, view, is_mapped, IsPlain, Walks, HeardAs, behind_move, moves, counted, lives}
use Rattle.window_laws.proofs.Orders.{counted_push, counted_both, counted_all, order_push, order_first, order_last, order_so, Each, each_all, none_known}

-- ---- the end that writes Transfers

pub plain_behind : (n : ℕ) (x : FrameBody) → IsPlain x → behind n x ≡ n
plain_behind n (b.Transfer x payload) h = absurd h
plain_behind n other h = refl

pub next_number : (first n : ℕ) → following (number_at first n) ≡ number_at first (n + 1)
next_number first n = omega arith

pub first_is : (first : ℕ) → first < 4294967296 → first ≡ number_at first 0
first_is first h = omega arith

-- a plain frame is written
pub plain_push : (x : Framed) (xs : List Framed) → IsPlain x.body → counted 0 (xs ++ x ∷ []) ≡ counted 0 xs
plain_push x xs h = counted_push 0 xs x ∙ plain_behind (counted 0 xs) x.body h

-- a Flow is written
pub flow_push : (xs : List Framed) (channel : ℕ) (x : Flow) → counted 0 (xs ++ record { channel = channel; body = b.Flow x } ∷ []) ≡ counted 0 xs
flow_push xs channel x = counted_push 0 xs (record { channel = channel; body = b.Flow x })

-- a Transfer is written
pub transfer_push : (xs : List Framed) (channel : ℕ) (x : Transfer) (payload : List ℕ) → counted 0 (xs ++ record { channel = channel; body = b.Transfer x payload } ∷ []) ≡ counted 0 xs + 1
transfer_push xs channel x payload = counted_push 0 xs (record { channel = channel; body = b.Transfer x payload })

plain_next : (first n : ℕ) (x : FrameBody) → IsPlain x → NamesNext first n x
plain_next first n (b.Begin x) h = absurd h
plain_next first n (b.Flow x) h = absurd h
plain_next first n other h = tt

record Counted (first n : ℕ) (v : View) : Type 0 where
  next : v.windows.next_outgoing_id ≡ number_at first (counted 0 v.output)
  named : InOrder (NamesNext first) 0 v.output

counts : (first : ℕ) → Walks (Each (λ x. Unit {0})) (Counted first) (Counted first)
counts first = record {
  starts = λ n v h. h;
  drops = λ n v p e h. record { next = h.next; named = h.named };
  takes = λ n v e h. record { next = h.next; named = h.named };
  ends = λ n v p e h. record { next = h.next; named = h.named };
  says = λ n v x q h. record {
    next = h.next ∙ ap (λ (m : ℕ). number_at first m) (sym (plain_push x v.output q));
    named = order_push (NamesNext first) 0 v.output x h.named (plain_next first (counted 0 v.output) x.body q);
  };
  flows = λ n v channel x e h. record {
    next = h.next ∙ ap (λ (m : ℕ). number_at first m) (sym (flow_push v.output channel (stamped v.windows x)));
    named = order_push (NamesNext first) 0 v.output (record { channel = channel; body = b.Flow (stamped v.windows x) }) h.named h.next;
  };
  leaves = λ n v channel c x payload p h. record {
    next = ap following h.next ∙ next_number first (counted 0 v.output) ∙ ap (λ (m : ℕ). number_at first m) (sym (transfer_push v.output channel x payload));
    named = order_push (NamesNext first) 0 v.output (record { channel = channel; body = b.Transfer x payload }) h.named tt;
  };
  begun = λ n v x k h. record { next = h.next; named = h.named };
  flowed = λ n v x k e h. record { next = h.next; named = h.named };
}

pub numbers_its_transfers : NumbersItsTransfers
numbers_its_transfers t ns short =
    let first = first_number t in
    let e = first_is first short in
    (lives (Each (λ x. Unit {0})) (Counted first) (counts first) t ns (λ channel remote. record { next = e; named = (e, tt) }) (none_known 0 (reads t ns))).named

-- ---- the end that reads them

-- the next one that is read has that number
abbrev Due : ℕ → ℕ → View → Type 0
Due first n v = is_mapped v.phase ≡ true → v.windows.next_incoming_id ≡ number_at first n

plain_reports : (first n : ℕ) (x : FrameBody) → IsPlain x → Reports first n x
plain_reports first n (b.Begin x) h = absurd h
plain_reports first n (b.Flow x) h = absurd h
plain_reports first n other h = tt

plain_within : (first n : ℕ) (x : FrameBody) → IsPlain x → ReportsWithin first n x
plain_within first n (b.Flow x) h = absurd h
plain_within first n other h = tt

within_more : (first n : ℕ) (x : FrameBody) → ReportsWithin first n x → ReportsWithin first (n + 1) x
within_more first n (b.Flow x) h = (h.0, (up h.0 h.1.0, h.1.1))
  where
    up : (r : ℕ) → r ≤ n → r ≤ n + 1
    up r le = omega arith
within_more first n other h = tt

no_less : (n : ℕ) → n ≤ n
no_less n = omega arith

-- Flows report no more than was read
record Told (first n : ℕ) (v : View) : Type 0 where
  due : Due first n v
  told : InOrder (Each (ReportsWithin first n)) 0 v.output

tells_no_more : (first : ℕ) → Walks (NamesNext first) (Told first) (Told first)
tells_no_more first = record {
  starts = λ n v h. h;
  drops = λ n v p e h. record { due = λ m. absurd cc; told = order_so (Each (ReportsWithin first n)) (Each (ReportsWithin first (n + 1))) 0 v.output (λ k x. within_more first n x) h.told };
  takes = λ n v e h. record { due = λ m. ap following (h.due e) ∙ next_number first n; told = order_so (Each (ReportsWithin first n)) (Each (ReportsWithin first (n + 1))) 0 v.output (λ k x. within_more first n x) h.told };
  ends = λ n v p e h. record { due = λ m. absurd cc; told = h.told };
  says = λ n v x q h. record { due = h.due; told = order_push (Each (ReportsWithin first n)) 0 v.output x h.told (plain_within first n x.body q) };
  flows = λ n v channel x e h. record { due = h.due; told = order_push (Each (ReportsWithin first n)) 0 v.output (record { channel = channel; body = b.Flow (stamped v.windows x) }) h.told (n, (no_less n, ap (λ (m : ℕ). Some m) (h.due e))) };
  leaves = λ n v channel c x payload p h. record { due = h.due; told = order_push (Each (ReportsWithin first n)) 0 v.output (record { channel = channel; body = b.Transfer x payload }) h.told tt };
  begun = λ n v x k h. record { due = λ m. k; told = h.told };
  flowed = λ n v x k e h. record { due = λ m. k; told = h.told };
}

told_by : (u : Start) (js : List Move) (first : ℕ) → Numbers first (reads u js) → Told first (counted 0 (reads u js)) (view (handed_all (session_of u) js) (after_all (session_of u) js))
told_by u js first k = lives (NamesNext first) (Told first) (tells_no_more first) u js (λ channel remote. record { due = λ m. absurd cc; told = (tt, tt) }) k

pub reports_no_more : ReportsNoMore
reports_no_more u js first k =
    let h = told_by u js first k in
    subst (λ (n : ℕ). All (λ (x : Framed). ReportsWithin first n x.body) (writes u js)) (counted_all (reads u js)) (each_all (ReportsWithin first (counted 0 (reads u js))) 0 (writes u js) h.told)

-- ---- one move

record Before (base : List Framed) (first n : ℕ) (v : View) : Type 0 where
  due : Due first n v
  same : v.output ≡ base

record Behind (base : List Framed) (first n : ℕ) (v : View) : Type 0 where
  due : Due first n v
  gained : List Framed
  all : v.output ≡ base ++ gained
  told : InOrder (Each (Reports first n)) 0 gained

pushed : (base gained output : List Framed) (x : Framed) → output ≡ base ++ gained → output ++ x ∷ [] ≡ base ++ (gained ++ x ∷ [])
pushed base gained output x h = ap (λ (xs : List Framed). xs ++ x ∷ []) h ∙ append_assoc base gained (x ∷ [])

tells_all : (base : List Framed) (first : ℕ) → Walks (NamesNext first) (Before base first) (Behind base first)
tells_all base first = record {
  starts = λ n v h. record { due = h.due; gained = []; all = h.same ∙ sym (append-nil base); told = tt };
  drops = λ n v p e h. record { due = λ m. absurd cc; gained = []; all = h.same ∙ sym (append-nil base); told = tt };
  takes = λ n v e h. record { due = λ m. ap following (h.due e) ∙ next_number first n; gained = []; all = h.same ∙ sym (append-nil base); told = tt };
  ends = λ n v p e h. record { due = λ m. absurd cc; gained = h.gained; all = h.all; told = h.told };
  says = λ n v x q h. record { due = h.due; gained = h.gained ++ x ∷ []; all = pushed base h.gained v.output x h.all; told = order_push (Each (Reports first n)) 0 h.gained x h.told (plain_reports first n x.body q) };
  flows = λ n v channel x e h. (let y : Framed = record { channel = channel; body = b.Flow (stamped v.windows x) } in record {
    due = h.due;
    gained = h.gained ++ y ∷ [];
    all = pushed base h.gained v.output y h.all;
    told = order_push (Each (Reports first n)) 0 h.gained y h.told (ap (λ (m : ℕ). Some m) (h.due e));
  });
  leaves = λ n v channel c x payload p h. (let y : Framed = record { channel = channel; body = b.Transfer x payload } in record {
    due = h.due;
    gained = h.gained ++ y ∷ [];
    all = pushed base h.gained v.output y h.all;
    told = order_push (Each (Reports first n)) 0 h.gained y h.told tt;
  });
  begun = λ n v x k h. record { due = λ m. k; gained = h.gained; all = h.all; told = h.told };
  flowed = λ n v x k e h. record { due = λ m. k; gained = h.gained; all = h.all; told = h.told };
}

-- one move more
pub after_last : (s : State) (js : List Move) (m : Move) → after_all s (js ++ m ∷ []) ≡ after (after_all s js) m
after_last s [] m = refl
after_last s (j ∷ js) m = after_last (after s j) js m

pub handed_last : (s : State) (js : List Move) (m : Move) → handed_all s (js ++ m ∷ []) ≡ handed_all s js ++ handed (after_all s js) m
handed_last s [] m = append-nil (handed s m)
handed_last s (j ∷ js) m = ap (λ (xs : List Framed). handed s j ++ xs) (handed_last (after s j) js m) ∙ sym (append_assoc (handed s j) (handed_all (after s j) js) (handed (after_all (after s j) js) m))

pub written_last : (s : State) (js : List Move) (m : Move) → written s (js ++ m ∷ []) ≡ (handed_all s js ++ handed (after_all s js) m) ++ (after (after_all s js) m).output
written_last s js m =
    ap (λ (xs : List Framed). xs ++ (after_all s (js ++ m ∷ [])).output) (handed_last s js m) ∙ ap (λ (t : State). (handed_all s js ++ handed (after_all s js) m) ++ t.output) (after_last s js m)

pub heard_last : (js : List Move) (m : Move) → heard (js ++ m ∷ []) ≡ heard js ++ heard_by m
heard_last [] m = append-nil (heard_by m)
heard_last (j ∷ js) m = ap (λ (xs : List Framed). heard_by j ++ xs) (heard_last js m) ∙ sym (append_assoc (heard_by j) (heard js) (heard_by m))

pub reads_last : (u : Start) (js : List Move) (m : Move) → reads u (js ++ m ∷ []) ≡ reads u js ++ heard_by m
reads_last u js m = ap (λ (xs : List Framed). read_at_first u ++ xs) (heard_last js m) ∙ sym (append_assoc (read_at_first u) (heard js) (heard_by m))

pub heard_as : (P : ℕ → FrameBody → Type 0) (n : ℕ) (m : Move) → InOrder P n (heard_by m) → HeardAs P n m
heard_as P n (hears x) h = h.0
heard_as P n other h = tt

behind_is : (n : ℕ) (m : Move) → counted n (heard_by m) ≡ behind_move n m
behind_is n (hears x) = refl
behind_is n other = refl

pub cancel : (xs ys zs : List Framed) → xs ++ ys ≡ xs ++ zs → ys ≡ zs
cancel [] ys zs h = h
cancel (x ∷ xs) ys zs h = cancel xs ys zs (rest x x (xs ++ ys) (xs ++ zs) h)
  where
    rest : (a c : Framed) (vs ws : List Framed) → a ∷ vs ≡ c ∷ ws → vs ≡ ws
    rest a c vs ws e = cc

-- what a move adds to what is written
pub record Adds (u : Start) (js : List Move) (m : Move) (first : ℕ) : Type 0 where
  pub new : List Framed
  pub all : writes u (js ++ m ∷ []) ≡ writes u js ++ new
  pub told : InOrder (Each (Reports first (count (reads u (js ++ m ∷ []))))) 0 new

pub adds : (u : Start) (js : List Move) (m : Move) (first : ℕ) → Numbers first (reads u (js ++ m ∷ [])) → Adds u js m first
adds u js m first k =
    let s = after_all (session_of u) js in
    let done = handed_all (session_of u) js in
    let n = counted 0 (reads u js) in
    let all : Numbers first (reads u js ++ heard_by m) = subst (λ (xs : List Framed). Numbers first xs) (reads_last u js m) k in
    let t = told_by u js first (order_first (NamesNext first) 0 (reads u js) (heard_by m) all) in
    let h = moves (NamesNext first) (Before (writes u js) first) (Behind (writes u js) first) (tells_all (writes u js) first) n done s m (heard_as (NamesNext first) n m (order_last (NamesNext first) 0 (reads u js) (heard_by m) all)) (record { due = t.due; same = refl }) in
    let number : behind_move n m ≡ count (reads u (js ++ m ∷ [])) = sym (behind_is n m) ∙ sym (counted_both 0 (reads u js) (heard_by m)) ∙ sym (ap (λ (xs : List Framed). counted 0 xs) (reads_last u js m)) ∙ counted_all (reads u (js ++ m ∷ [])) in
    record {
      new = h.gained;
      all = written_last (session_of u) js m ∙ h.all;
      told = subst (λ (i : ℕ). InOrder (Each (Reports first i)) 0 h.gained) number h.told;
    }

pub reports_what_it_heard : ReportsWhatItHeard
reports_what_it_heard u js m new first k w =
    let a = adds u js m first k in
    let n = count (reads u (js ++ m ∷ [])) in
    let same : a.new ≡ new = cancel (writes u js) a.new new (sym a.all ∙ w) in
    subst (λ (xs : List Framed). All (λ (x : Framed). Reports first n x.body) xs) same (each_all (Reports first n) 0 a.new a.told)
