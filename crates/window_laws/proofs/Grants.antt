-- The windows by which a session writes Transfers.
use Rattle.std.specs.Prelude.{◌≡◌, ◌⊎◌, ℕ, ◌-◌, ◌<◌, List, [], ◌∷◌, All, unwrap_or, refl}
use Rattle.std.proofs.Common.{inl, inr, sym, ◌∙◌, ap, subst, arith}
use Rattle.std.proofs.lemmas.List.Elements.{All-head, All-tail}
use Rattle.amqp_frames.specs.declared.body.FrameBody.{FrameBody}
use Rattle.amqp_frames.specs.declared.body.FrameBody.TheVariants as b
use Rattle.amqp_session.specs.State.{Framed}
use Rattle.amqp_session.specs.Windows.{minus, stamped, after as following}
use Rattle.session_laws.specs.Settling.{IsAmong}
use Rattle.session_laws.proofs.Lists.{among_first, among_last}
use Rattle.window_laws.specs.Starting.{reads, first_number}
use Rattle.window_laws.specs.Counting.{number_at, behind, InOrder}
use Rattle.window_laws.specs.Granting.{Grant, grant_in, granted, IsGranted, WritesWhatIsGranted}
use Rattle.window_laws.proofs.Walks.{View, IsPlain, Walks, counted, lives}
use Rattle.window_laws.proofs.Orders.{Each, order_push}
use Rattle.window_laws.proofs.Counts.{plain_push, flow_push, transfer_push, next_number, first_is}

-- ---- what is heard

-- a grant that was given, of 32 bits
record Good (gave : List Grant) (g : Grant) : Type 0 where
  among : IsAmong g gave
  short : g.window < 4294967296

abbrev Known : List Grant → ℕ → FrameBody → Type 0
Known gave first (b.Begin x) = Good gave (record { from = first; window = x.incoming_window })
Known gave first (b.Flow x) = Good gave (record { from = unwrap_or x.next_incoming_id first; window = x.incoming_window })
Known gave first other = Unit {0}

known_one : (gave : List Grant) (first : ℕ) (x : FrameBody) → ((g : Grant) → IsAmong g (grant_in first x) → Good gave g) → Known gave first x
known_one gave first (b.Begin x) f = f (record { from = first; window = x.incoming_window }) (inl refl)
known_one gave first (b.Flow x) f = f (record { from = unwrap_or x.next_incoming_id first; window = x.incoming_window }) (inl refl)
known_one gave first other f = tt

known_all : (gave : List Grant) (first n : ℕ) (xs : List Framed) → ((g : Grant) → IsAmong g (granted first xs) → Good gave g) → InOrder (Each (Known gave first)) n xs
known_all gave first n [] f = tt
known_all gave first n (x ∷ xs) f =
    (known_one gave first x.body (λ g a. f g (among_first g (grant_in first x.body) (granted first xs) a)), known_all gave first (behind n x.body) xs (λ g a. f g (among_last g (grant_in first x.body) (granted first xs) a)))

short_at : (xs : List Grant) (g : Grant) → All (λ (h : Grant). h.window < 4294967296) xs → IsAmong g xs → g.window < 4294967296
short_at [] g h a = absurd a
short_at (x ∷ xs) g h (inl e) = subst (λ (y : Grant). y.window < 4294967296) (sym e) (All-head (λ (y : Grant). y.window < 4294967296) x xs h)
short_at (x ∷ xs) g h (inr a) = short_at xs g (All-tail (λ (y : Grant). y.window < 4294967296) x xs h) a

-- ---- what is written

record Wide (gave : List Grant) (first n : ℕ) (v : View) : Type 0 where
  starts_at : v.windows.first_outgoing_id ≡ first
  next : v.windows.next_outgoing_id ≡ number_at first (counted 0 v.output)
  grant : Grant
  was : (grant.window ≡ 0) ⊎ IsAmong grant gave
  short : grant.window < 4294967296
  room : v.windows.allowance ≡ grant.window - minus v.windows.next_outgoing_id grant.from
  all : InOrder (IsGranted gave first) 0 v.output

plain_granted : (gave : List Grant) (first n : ℕ) (x : FrameBody) → IsPlain x → IsGranted gave first n x
plain_granted gave first n (b.Transfer x payload) h = absurd h
plain_granted gave first n other h = tt

-- one is written, and one less may be
one_less : (n from window : ℕ) → window < 4294967296 → 0 < window - minus n from → (window - minus n from) - 1 ≡ window - minus (following n) from
one_less n from window h p = omega arith

some_room : (a d window : ℕ) → a ≡ window - d → 0 < a → 0 < window - d
some_room a d window e p = omega arith

inside : (d window : ℕ) → 0 < window - d → d < window
inside d window p = omega arith

none_left : (d window : ℕ) → window ≡ 0 → 0 < window - d → ⊥
none_left d window e p = omega arith

granted_at : (gave : List Grant) (first w n : ℕ) (g : Grant) → (g.window ≡ 0) ⊎ IsAmong g gave → n ≡ number_at first w → 0 < g.window - minus n g.from → (h : Grant) × (IsAmong h gave × (minus (number_at first w) h.from < h.window))
granted_at gave first w n g (inl z) e p = absurd (none_left (minus n g.from) g.window z p)
granted_at gave first w n g (inr a) e p = (g, (a, subst (λ (m : ℕ). minus m g.from < g.window) e (inside (minus n g.from) g.window p)))

widens : (gave : List Grant) (first : ℕ) → Walks (Each (Known gave first)) (Wide gave first) (Wide gave first)
widens gave first = record {
  starts = λ n v h. h;
  drops = λ n v p e h. record { starts_at = h.starts_at; next = h.next; grant = h.grant; was = h.was; short = h.short; room = h.room; all = h.all };
  takes = λ n v e h. record { starts_at = h.starts_at; next = h.next; grant = h.grant; was = h.was; short = h.short; room = h.room; all = h.all };
  ends = λ n v p e h. record { starts_at = h.starts_at; next = h.next; grant = h.grant; was = h.was; short = h.short; room = h.room; all = h.all };
  says = λ n v x q h. record {
    starts_at = h.starts_at;
    next = h.next ∙ ap (λ (m : ℕ). number_at first m) (sym (plain_push x v.output q));
    grant = h.grant;
    was = h.was;
    short = h.short;
    room = h.room;
    all = order_push (IsGranted gave first) 0 v.output x h.all (plain_granted gave first (counted 0 v.output) x.body q);
  };
  flows = λ n v channel x e h. record {
    starts_at = h.starts_at;
    next = h.next ∙ ap (λ (m : ℕ). number_at first m) (sym (flow_push v.output channel (stamped v.windows x)));
    grant = h.grant;
    was = h.was;
    short = h.short;
    room = h.room;
    all = order_push (IsGranted gave first) 0 v.output (record { channel = channel; body = b.Flow (stamped v.windows x) }) h.all tt;
  };
  leaves = λ n v channel c x payload p h. (let some = some_room v.windows.allowance (minus v.windows.next_outgoing_id h.grant.from) h.grant.window h.room p in record {
    starts_at = h.starts_at;
    next = ap following h.next ∙ next_number first (counted 0 v.output) ∙ ap (λ (m : ℕ). number_at first m) (sym (transfer_push v.output channel x payload));
    grant = h.grant;
    was = h.was;
    short = h.short;
    room = ap (λ (m : ℕ). m - 1) h.room ∙ one_less v.windows.next_outgoing_id h.grant.from h.grant.window h.short some;
    all = order_push (IsGranted gave first) 0 v.output (record { channel = channel; body = b.Transfer x payload }) h.all (granted_at gave first (counted 0 v.output) v.windows.next_outgoing_id h.grant h.was h.next some);
  });
  begun = λ n v x k h. record {
    starts_at = h.starts_at;
    next = h.next;
    grant = record { from = first; window = x.incoming_window };
    was = inr k.among;
    short = k.short;
    room = ap (λ (m : ℕ). x.incoming_window - minus v.windows.next_outgoing_id m) h.starts_at;
    all = h.all;
  };
  flowed = λ n v x k e h. record {
    starts_at = h.starts_at;
    next = h.next;
    grant = record { from = unwrap_or x.next_incoming_id first; window = x.incoming_window };
    was = inr k.among;
    short = k.short;
    room = ap (λ (m : ℕ). x.incoming_window - minus v.windows.next_outgoing_id (unwrap_or x.next_incoming_id m)) h.starts_at;
    all = h.all;
  };
}

none_first : (d : ℕ) → 0 ≡ 0 - d
none_first d = omega arith

fits : 0 < 4294967296
fits = omega arith

pub writes_what_is_granted : WritesWhatIsGranted
writes_what_is_granted t ns short h =
    let first = first_number t in
    let gave = granted first (reads t ns) in
    let known = known_all gave first 0 (reads t ns) (λ g a. record { among = a; short = short_at gave g h a }) in
    let none : Grant = record { from = first; window = 0 } in
    (lives (Each (Known gave first)) (Wide gave first) (widens gave first) t ns (λ channel remote. record { starts_at = refl; next = first_is first short; grant = none; was = inl refl; short = fits; room = none_first (minus first first); all = (tt, tt) }) known).all
