-- Two sessions side by side.
use Rattle.std.specs.Prelude.{◌≡◌, ℕ, ◌+◌, ◌-◌, ◌<◌, ◌≤◌, List, [], ◌∷◌, ◌++◌, Option, Some, unwrap_or, refl}
use Rattle.std.proofs.Common.{sym, ◌∙◌, ap, subst, append-nil, append_assoc, arith}
use Rattle.amqp_frames.specs.declared.body.FrameBody.{FrameBody}
use Rattle.amqp_frames.specs.declared.body.FrameBody.TheVariants as b
use Rattle.amqp_session.specs.State.{State, Framed}
use Rattle.amqp_session.specs.Begin.{asked}
use Rattle.amqp_session.specs.Windows.{minus, stamped, after as following}
use Rattle.session_laws.specs.Holding.{Move, hears, after, after_all, handed_all}
use Rattle.session_laws.specs.Handing.{heard_by}
use Rattle.window_laws.specs.Starting as starting
use Rattle.window_laws.specs.Starting.{Start, session_of, reads, writes, window, first_number}
use Rattle.window_laws.specs.Announcing.{Announces}
use Rattle.window_laws.specs.Counting.{number_at, count, behind, InOrder, NamesNext, Numbers, Reports}
use Rattle.window_laws.specs.Keeping as steps
use Rattle.window_laws.specs.Keeping.{Hear, Step, moves_of_one, moves_of_other, GoOn, KeepsTheWindowForEver}
use Rattle.window_laws.proofs.Walks.{View, view, Walks, HeardAs, moves, counted}
use Rattle.window_laws.proofs.Orders.{counted_all, count_both, order_first, order_last, Each, all_each, any_start}
use Rattle.window_laws.proofs.Announces.{announces_its_window}
use Rattle.window_laws.proofs.Counts.{plain_push, flow_push, transfer_push, next_number, first_is, numbers_its_transfers, after_last, written_last, reads_last, cancel, adds}
use Rattle.window_laws.proofs.Keeps.{ahead, ahead_room, less_room, one_left}

-- ---- what is on its way back

-- a Flow reports so many Transfers, and a Begin none
abbrev Says : ℕ → ℕ → FrameBody → Type 0
Says first r (b.Begin x) = r ≡ 0
Says first r (b.Flow x) = x.next_incoming_id ≡ Some (number_at first r)
Says first r other = Unit {0}

-- a frame as the other session writes it, with what it reports
abbrev Grants : ℕ → ℕ → ℕ → ℕ → FrameBody → Type 0
Grants first size r n x = Announces size x × Says first r x

-- frames in order, none of which reports less than the one before it
abbrev Pending : ℕ → ℕ → ℕ → ℕ → List Framed → Type 0
Pending first size low high [] = low ≤ high
Pending first size low high (x ∷ xs) = (r : ℕ) × ((low ≤ r) × (Grants first size r 0 x.body × Pending first size r high xs))

le_then : (a c d : ℕ) → a ≤ c → c ≤ d → a ≤ d
le_then a c d h k = omega arith

no_less : (n : ℕ) → n ≤ n
no_less n = omega arith

pending_within : (first size low high : ℕ) (xs : List Framed) → Pending first size low high xs → low ≤ high
pending_within first size low high [] h = h
pending_within first size low high (x ∷ xs) h = le_then low h.0 high h.1.0 (pending_within first size h.0 high xs h.1.1.1)

says_that : (first n : ℕ) (x : FrameBody) → Reports first n x → Says first n x
says_that first n (b.Begin x) h = absurd h
says_that first n (b.Flow x) h = h
says_that first n other h = tt

pending_new : (first size n low high : ℕ) (xs : List Framed) → low ≤ high → InOrder (Each (Announces size)) n xs → InOrder (Each (Reports first high)) n xs → Pending first size low high xs
pending_new first size n low high [] le a r = le
pending_new first size n low high (x ∷ xs) le a r = (high, (le, ((a.0, says_that first high x.body r.0), pending_new first size (behind n x.body) high high xs (no_less high) a.1 r.1)))

-- more frames come, all of which report the same
pending_push : (first size n low high more : ℕ) (xs ys : List Framed) → high ≤ more → InOrder (Each (Announces size)) n ys → InOrder (Each (Reports first more)) n ys → Pending first size low high xs → Pending first size low more (xs ++ ys)
pending_push first size n low high more [] ys le a r h = pending_new first size n low more ys (le_then low high more h le) a r
pending_push first size n low high more (x ∷ xs) ys le a r h = (h.0, (h.1.0, (h.1.1.0, pending_push first size n h.0 high more xs ys le a r h.1.1.1)))

-- what a move hears
record Heard (first size low high : ℕ) (m : Move) (rest : List Framed) : Type 0 where
  said : ℕ
  no_lower : low ≤ said
  grants : HeardAs (Grants first size said) 0 m
  pending : Pending first size said high rest

heard_first : (first size low high : ℕ) (m : Move) (rest : List Framed) → Pending first size low high (heard_by m ++ rest) → Heard first size low high m rest
heard_first first size low high (hears x) rest h = record { said = h.0; no_lower = h.1.0; grants = h.1.1.0; pending = h.1.1.1 }
heard_first first size low high other rest h = record { said = low; no_lower = no_less low; grants = tt; pending = h }

-- ---- the session that writes Transfers

-- it may write so many as were reported, and the window
record Before (first size low said n : ℕ) (v : View) : Type 0 where
  starts_at : v.windows.first_outgoing_id ≡ first
  next : v.windows.next_outgoing_id ≡ number_at first (counted 0 v.output)
  room : v.windows.allowance + counted 0 v.output ≤ low + size
  no_lower : low ≤ said
  no_more : said ≤ counted 0 v.output

record Open (first size said n : ℕ) (v : View) : Type 0 where
  starts_at : v.windows.first_outgoing_id ≡ first
  next : v.windows.next_outgoing_id ≡ number_at first (counted 0 v.output)
  room : v.windows.allowance + counted 0 v.output ≤ said + size
  no_more : said ≤ counted 0 v.output

more_room : (a low said size : ℕ) → a ≤ low + size → low ≤ said → a ≤ said + size
more_room a low said size h k = omega arith

some_more : (a n : ℕ) → a ≤ n → a ≤ n + 1
some_more a n h = omega arith

short_way : (said w size : ℕ) → size < 4294967296 → w ≤ said + size → w - said < 4294967296
short_way said w size h k = omega arith

allowed : (first size said w : ℕ) → size < 4294967296 → said ≤ w → w ≤ said + size → (size - minus (number_at first w) (number_at first said)) + w ≤ said + size
allowed first size said w short le room =
    subst (λ (d : ℕ). (size - d) + w ≤ said + size) (sym (ahead first said w le (short_way said w size short room))) (ahead_room size said said w (no_less said) le room)

flow_room : (first size said w n window from : ℕ) (o : Option ℕ) → size < 4294967296 → n ≡ number_at first w → window ≡ size → o ≡ Some (number_at first said) → said ≤ w → w ≤ said + size → (window - minus n (unwrap_or o from)) + w ≤ said + size
flow_room first size said w n window from o short e f k le h =
    subst (λ (m : ℕ). (window - minus m (unwrap_or o from)) + w ≤ said + size) (sym e)
    (subst (λ (m : ℕ). (m - minus (number_at first w) (unwrap_or o from)) + w ≤ said + size) (sym f)
    (subst (λ (p : Option ℕ). (size - minus (number_at first w) (unwrap_or p from)) + w ≤ said + size) (sym k) (allowed first size said w short le h)))

begin_room : (first size said w n window from : ℕ) → first < 4294967296 → size < 4294967296 → n ≡ number_at first w → window ≡ size → said ≡ 0 → from ≡ first → said ≤ w → w ≤ said + size → (window - minus n from) + w ≤ said + size
begin_room first size said w n window from fits short e f k g le h =
    subst (λ (m : ℕ). (window - minus m from) + w ≤ said + size) (sym e)
    (subst (λ (m : ℕ). (m - minus (number_at first w) from) + w ≤ said + size) (sym f)
    (subst (λ (m : ℕ). (size - minus (number_at first w) m) + w ≤ said + size) (sym (g ∙ first_is first fits ∙ ap (λ (m : ℕ). number_at first m) (sym k))) (allowed first size said w short le h)))

keeps : (first size low said : ℕ) → first < 4294967296 → size < 4294967296 → Walks (Grants first size said) (Before first size low said) (Open first size said)
keeps first size low said fits short = record {
  starts = λ n v h. record { starts_at = h.starts_at; next = h.next; room = more_room _ low said size h.room h.no_lower; no_more = h.no_more };
  drops = λ n v p e h. record { starts_at = h.starts_at; next = h.next; room = more_room _ low said size h.room h.no_lower; no_more = h.no_more };
  takes = λ n v e h. record { starts_at = h.starts_at; next = h.next; room = more_room _ low said size h.room h.no_lower; no_more = h.no_more };
  ends = λ n v p e h. record { starts_at = h.starts_at; next = h.next; room = h.room; no_more = h.no_more };
  says = λ n v x q h. (let e = sym (plain_push x v.output q) in record {
    starts_at = h.starts_at;
    next = h.next ∙ ap (λ (m : ℕ). number_at first m) e;
    room = subst (λ (m : ℕ). v.windows.allowance + m ≤ said + size) e h.room;
    no_more = subst (λ (m : ℕ). said ≤ m) e h.no_more;
  });
  flows = λ n v channel x e h. (let f = sym (flow_push v.output channel (stamped v.windows x)) in record {
    starts_at = h.starts_at;
    next = h.next ∙ ap (λ (m : ℕ). number_at first m) f;
    room = subst (λ (m : ℕ). v.windows.allowance + m ≤ said + size) f h.room;
    no_more = subst (λ (m : ℕ). said ≤ m) f h.no_more;
  });
  leaves = λ n v channel c x payload p h. (let f = sym (transfer_push v.output channel x payload) in record {
    starts_at = h.starts_at;
    next = ap following h.next ∙ next_number first (counted 0 v.output) ∙ ap (λ (m : ℕ). number_at first m) f;
    room = subst (λ (m : ℕ). (v.windows.allowance - 1) + m ≤ said + size) f (one_left v.windows.allowance (counted 0 v.output) (said + size) p h.room);
    no_more = subst (λ (m : ℕ). said ≤ m) f (some_more said (counted 0 v.output) h.no_more);
  });
  begun = λ n v x k h. record {
    starts_at = h.starts_at;
    next = h.next;
    room = begin_room first size said (counted 0 v.output) v.windows.next_outgoing_id x.incoming_window v.windows.first_outgoing_id fits short h.next k.0 k.1 h.starts_at h.no_more (less_room v.windows.allowance (counted 0 v.output) (said + size) h.room);
    no_more = h.no_more;
  };
  flowed = λ n v x k e h. record {
    starts_at = h.starts_at;
    next = h.next;
    room = flow_room first size said (counted 0 v.output) v.windows.next_outgoing_id x.incoming_window v.windows.first_outgoing_id x.next_incoming_id short h.next k.0 k.1 h.no_more (less_room v.windows.allowance (counted 0 v.output) (said + size) h.room);
    no_more = h.no_more;
  };
}

-- ---- both

-- what the one may write, and what of the other is on its way to it
record At (t : Start) (ns : List Move) (u : Start) (js : List Move) : Type 0 where
  low : ℕ
  starts_at : (after_all (session_of t) ns).windows.first_outgoing_id ≡ first_number t
  next : (after_all (session_of t) ns).windows.next_outgoing_id ≡ number_at (first_number t) (counted 0 (writes t ns))
  room : (after_all (session_of t) ns).windows.allowance + counted 0 (writes t ns) ≤ low + window u
  unanswered : List Framed
  answers : reads t ns ++ unanswered ≡ writes u js
  pending : Pending (first_number t) (window u) low (count (reads u js)) unanswered

-- no more was read than was written
front_count : (xs ys zs : List Framed) → xs ++ ys ≡ zs → count xs ≤ counted 0 zs
front_count xs ys zs h =
    let e = count_both xs ys in
    let f = ap count h in
    let g = counted_all zs in
    omega (arith, e, f, g)

no_fewer : (xs ys : List Framed) → count xs ≤ count (xs ++ ys)
no_fewer xs ys = (let e = count_both xs ys in omega (arith, e))

-- a move of the one
one_moves : (t : Start) (ns : List Move) (u : Start) (js : List Move) (m : Move) → first_number t < 4294967296 → window u < 4294967296 → Hear t ns u js → Hear t (ns ++ m ∷ []) u js → At t ns u js → At t (ns ++ m ∷ []) u js
one_moves t ns u js m fits short now then a =
    let first = first_number t in
    let size = window u in
    let s = after_all (session_of t) ns in
    let done = handed_all (session_of t) ns in
    let all : (reads t ns ++ heard_by m) ++ then.unanswered ≡ writes u js = subst (λ (xs : List Framed). xs ++ then.unanswered ≡ writes u js) (reads_last t ns m) then.answers in
    let same : a.unanswered ≡ heard_by m ++ then.unanswered = cancel (reads t ns) a.unanswered (heard_by m ++ then.unanswered) (a.answers ∙ sym all ∙ append_assoc (reads t ns) (heard_by m) then.unanswered) in
    let h = heard_first first size a.low (count (reads u js)) m then.unanswered (subst (λ (xs : List Framed). Pending first size a.low (count (reads u js)) xs) same a.pending) in
    let no_more : h.said ≤ counted 0 (writes t ns) = le_then h.said (count (reads u js)) (counted 0 (writes t ns)) (pending_within first size h.said (count (reads u js)) then.unanswered h.pending) (front_count (reads u js) now.unread (writes t ns) now.hears) in
    let o = moves (Grants first size h.said) (Before first size a.low h.said) (Open first size h.said) (keeps first size a.low h.said fits short) 0 done s m h.grants
    (record { starts_at = a.starts_at; next = a.next; room = a.room; no_lower = h.no_lower; no_more = no_more }) in
    let w = sym (written_last (session_of t) ns m) in
    let l = sym (after_last (session_of t) ns m) in
    record {
      low = h.said;
      starts_at = subst (λ (x : State). x.windows.first_outgoing_id ≡ first) l o.starts_at;
      next = subst (λ (x : State). x.windows.next_outgoing_id ≡ number_at first (counted 0 (writes t (ns ++ m ∷ [])))) l
          (subst (λ (xs : List Framed). (after s m).windows.next_outgoing_id ≡ number_at first (counted 0 xs)) w o.next);
      room = subst (λ (x : State). x.windows.allowance + counted 0 (writes t (ns ++ m ∷ [])) ≤ h.said + size) l
          (subst (λ (xs : List Framed). (after s m).windows.allowance + counted 0 xs ≤ h.said + size) w o.room);
      unanswered = then.unanswered;
      answers = then.answers;
      pending = h.pending;
    }

-- a move of the other
other_moves : (t : Start) (ns : List Move) (u : Start) (js : List Move) (m : Move) → first_number t < 4294967296 → Hear t ns u (js ++ m ∷ []) → At t ns u js → At t ns u (js ++ m ∷ [])
other_moves t ns u js m fits then a =
    let first = first_number t in
    let size = window u in
    let numbers : Numbers first (reads u (js ++ m ∷ [])) = order_first (NamesNext first) 0 (reads u (js ++ m ∷ [])) then.unread (subst (λ (xs : List Framed). Numbers first xs) (sym then.hears) (numbers_its_transfers t ns fits)) in
    let d = adds u js m first numbers in
    let n = counted 0 (writes u js) in
    let named = all_each (Announces size) 0 (writes u (js ++ m ∷ [])) (announces_its_window u (js ++ m ∷ [])).announced in
    let new : InOrder (Each (Announces size)) n d.new = order_last (Each (Announces size)) 0 (writes u js) d.new (subst (λ (xs : List Framed). InOrder (Each (Announces size)) 0 xs) d.all named) in
    let told : InOrder (Each (Reports first (count (reads u (js ++ m ∷ []))))) n d.new = any_start (Reports first (count (reads u (js ++ m ∷ [])))) 0 n d.new d.told in
    let up : count (reads u js) ≤ count (reads u (js ++ m ∷ [])) = subst (λ (xs : List Framed). count (reads u js) ≤ count xs) (sym (reads_last u js m)) (no_fewer (reads u js) (heard_by m)) in
    record {
      low = a.low;
      starts_at = a.starts_at;
      next = a.next;
      room = a.room;
      unanswered = a.unanswered ++ d.new;
      answers = sym (append_assoc (reads t ns) a.unanswered d.new) ∙ ap (λ (xs : List Framed). xs ++ d.new) a.answers ∙ sym d.all;
      pending = pending_push first size n a.low (count (reads u js)) (count (reads u (js ++ m ∷ []))) a.unanswered d.new up new told a.pending;
    }

first_hear : (t : Start) (ns : List Move) (u : Start) (js : List Move) (xs : List Step) → GoOn t ns u js xs → Hear t ns u js
first_hear t ns u js [] g = g
first_hear t ns u js (steps.moves_one m ∷ xs) g = g.0
first_hear t ns u js (steps.moves_other m ∷ xs) g = g.0

goes_on : (t : Start) (ns : List Move) (u : Start) (js : List Move) (xs : List Step) → first_number t < 4294967296 → window u < 4294967296 → GoOn t ns u js xs → At t ns u js → At t (ns ++ moves_of_one xs) u (js ++ moves_of_other xs)
goes_on t ns u js [] fits short g a = subst (λ (is : List Move). At t is u (js ++ [])) (sym (append-nil ns)) (subst (λ (is : List Move). At t ns u is) (sym (append-nil js)) a)
goes_on t ns u js (steps.moves_one m ∷ xs) fits short g a =
    subst (λ (is : List Move). At t is u (js ++ moves_of_other xs)) (append_assoc ns (m ∷ []) (moves_of_one xs))
    (goes_on t (ns ++ m ∷ []) u js xs fits short g.1 (one_moves t ns u js m fits short g.0 (first_hear t (ns ++ m ∷ []) u js xs g.1) a))
goes_on t ns u js (steps.moves_other m ∷ xs) fits short g a =
    subst (λ (is : List Move). At t (ns ++ moves_of_one xs) u is) (append_assoc js (m ∷ []) (moves_of_other xs))
    (goes_on t ns u (js ++ m ∷ []) xs fits short g.1 (other_moves t ns u js m fits (first_hear t ns u (js ++ m ∷ []) xs g.1) a))

-- ---- from their begins on

zero_within : (n : ℕ) → 0 ≤ n
zero_within n = omega arith

none_said : (r : ℕ) → r ≡ 0 → r ≤ 0
none_said r h = omega arith

-- at first there is a Begin to be read
first_pending : (first : ℕ) (u : Start) → Pending first (window u) 0 (count (reads u [])) (writes u [])
first_pending first (starting.begins x channel) = (0, (zero_within 0, ((refl, refl), zero_within 0)))
first_pending first (starting.answers x channel incoming) = (0, (zero_within 0, ((refl, refl), zero_within 0)))

first_at : (t u : Start) → first_number t < 4294967296 → window u < 4294967296 → Hear t [] u [] → At t [] u []
first_at (starting.begins x channel) u fits short h = record {
  low = 0;
  starts_at = refl;
  next = first_is x.next_outgoing_id fits;
  room = zero_within (0 + window u);
  unanswered = writes u [];
  answers = refl;
  pending = first_pending x.next_outgoing_id u;
}
first_at (starting.answers x channel incoming) u fits short h =
    let first = x.next_outgoing_id in
    let size = window u in
    let high = count (reads u []) in
    let t = starting.answers x channel incoming in
    let p : Pending first size 0 high (reads t [] ++ h.unanswered) = subst (λ (xs : List Framed). Pending first size 0 high xs) (sym h.answers) (first_pending first u) in
    let r : ℕ = p.0 in
    let o = (keeps first size 0 r fits short).begun 0 (view [] (asked x channel (Some incoming.channel))) incoming.begin p.1.1.0
    (record { starts_at = refl; next = first_is first fits; room = zero_within (r + size); no_more = none_said r p.1.1.0.1 }) in
    record {
      low = r;
      starts_at = o.starts_at;
      next = o.next;
      room = o.room;
      unanswered = h.unanswered;
      answers = h.answers;
      pending = p.1.1.1;
    }

in_all : (w low high size : ℕ) → w ≤ low + size → low ≤ high → w ≤ high + size
in_all w low high size h k = omega arith

pub keeps_the_window_for_ever : KeepsTheWindowForEver
keeps_the_window_for_ever t u xs g fits short =
    let ns = moves_of_one xs in
    let js = moves_of_other xs in
    let size = window u in
    let a = goes_on t [] u [] xs fits short g (first_at t u fits short (first_hear t [] u [] xs g)) in
    let w = less_room (after_all (session_of t) ns).windows.allowance (counted 0 (writes t ns)) (a.low + size) a.room in
    subst (λ (n : ℕ). n ≤ count (reads u js) + size) (counted_all (writes t ns))
    (in_all (counted 0 (writes t ns)) a.low (count (reads u js)) size w (pending_within (first_number t) size a.low (count (reads u js)) a.unanswered a.pending))
