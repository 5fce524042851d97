-- The deliveries that the links of a session find for a Disposition.
use Rattle.std.specs.Prelude.{◌≡◌, ◌⊎◌, ℕ, ◌+◌, ◌-◌, ◌%◌, ◌<◌, ◌≤◌, ◌&&◌, nat_eq, nat_le, Bool, true, false, cond, List, [], ◌∷◌, filter, flat_map, Option, Some, None, if◌then◌else◌, refl}
use Rattle.std.specs.Cmp.{unsigned_tied}
use Rattle.std.specs.Ordering.{nat_cmp, is_eq, match_ordering}
use Rattle.std.specs.declared.cmp.Ordering.{Ordering}
use Rattle.std.specs.declared.cmp.Ordering.TheVariants.{Less, Equal, Greater}
use Rattle.std.specs.Map.{lookup, keys_of}
use Rattle.std.proofs.Common.{inl, inr, sym, ◌∙◌, ap, subst, arith}
use Rattle.std.proofs.lemmas.Bool.{lt-leb, le-leb, cases_lt}
use Rattle.std.proofs.lemmas.Bool.Decides.{nat_tests}
use Rattle.amqp_composites.specs.declared.modes.Role.{Role}
use Rattle.amqp_composites.specs.declared.modes.Role.TheVariants as role
use Rattle.amqp_performatives.specs.declared.disposition.Disposition.{Disposition}
use Rattle.amqp_link_tables.specs.declared.deliveries.Delivered.{Delivered}
use Rattle.amqp_link_tables.specs.Deliveries.{entered, delivery_of, forgotten, ahead, is_within, numbers_between, numbers_around, covered}
use Rattle.amqp_session.specs.declared.session.LeftDelivery.{LeftDelivery}
use Rattle.amqp_session.specs.declared.session.LinkInput.{LinkInput}
use Rattle.amqp_session.specs.declared.session.LinkInput.TheVariants as input
use Rattle.session_laws.specs.Giving.{last_of}
use Rattle.session_laws.specs.Numbering.{Step, leaves, covers, forgets, numbered, News, news_if, news_at, news_by, told, inputs_of, AreShort}
use Rattle.session_laws.specs.Settling.{IsAmong}
use Rattle.session_laws.specs.Speaking.{AreAmong}
use Rattle.session_laws.proofs.Lists.{Each, each_both}

-- ---- the numbers that a Disposition covers

-- a number at or above the first and at or below the last, where the range does not go round
ahead_between : (first last n : ℕ) → last < 4294967296 → first ≤ n → n ≤ last → ahead first n ≤ ahead first last
ahead_between first last n l a b = omega (arith, l, a, b)

-- where it goes round: a number at or above the first, and one at or below the last
ahead_from : (first last n : ℕ) → last < first → first < 4294967296 → n < 4294967296 → first ≤ n → ahead first n ≤ ahead first last
ahead_from first last n o f s a = omega (arith, o, f, s, a)

ahead_up_to : (first last n : ℕ) → last < first → first < 4294967296 → n ≤ last → ahead first n ≤ ahead first last
ahead_up_to first last n o f a = omega (arith, o, f, a)

-- a range that does not go round
pub record Within (first last n : ℕ) : Type 0 where
  pub above : first ≤ n
  pub below : n ≤ last

pub in_order : (first last n : ℕ) → first ≤ last → last < 4294967296 → n < 4294967296 → is_within first last n ≡ true → Within first last n
in_order first last n o l m h =
    let e : (n + (4294967296 - first)) % 4294967296 ≤ (last + (4294967296 - first)) % 4294967296 = grind (arith, nat_tests) in
    record { above = omega (arith, e); below = omega (arith, e) }

-- ---- the table

-- a delivery with that number and tag has begun to leave of the link with that handle
pub record HasLeft (given : List LinkInput) (handle number : ℕ) (tag : List ℕ) : Type 0 where
  pub delivery : LeftDelivery
  pub among : IsAmong (input.Left delivery) given
  pub is_handle : delivery.handle ≡ handle
  pub is_number : delivery.delivery_id ≡ number
  pub is_tag : delivery.delivery_tag ≡ tag
  pub short : number < 4294967296

abbrev Entry : List LinkInput → ℕ × Delivered → Type 0
Entry given e = HasLeft given e.1.link e.0 e.1.tag

same_key : (n k : ℕ) → nat_eq n k ≡ true → n ≡ k
same_key n k h = grind (arith, nat_tests)

-- an equal number is the same
same_number : (n k : ℕ) → nat_cmp n k ≡ Equal → n ≡ k
same_number n k h = same_key n k (sym (unsigned_tied n k) ∙ ap is_eq h)

entry_of : (given : List LinkInput) (x : LeftDelivery) → IsAmong (input.Left x) given → x.delivery_id < 4294967296 → Entry given (x.delivery_id, record { link = x.handle; tag = x.delivery_tag })
entry_of given x a s = record { delivery = x; among = a; is_handle = refl; is_number = refl; is_tag = refl; short = s }

pub entered_keeps : (P : ℕ × Delivered → Type 0) → (number : ℕ) (v : Delivered) → ((k : ℕ) → number ≡ k → P (k, v)) → (ds : List (ℕ × Delivered)) → Each P ds → Each P (entered number v ds)
entered_keeps P number v p [] h = (p number refl, tt)
entered_keeps P number v p (d ∷ ds) h = by (nat_cmp number d.0) refl (entered_keeps P number v p ds h.1)
  where
    by : (o : Ordering) → nat_cmp number d.0 ≡ o → Each P (entered number v ds) → Each P (match_ordering o ((number, v) ∷ d ∷ ds) ((d.0, v) ∷ ds) (d ∷ entered number v ds))
    by Less e r = (p number refl, h)
    by Equal e r = (p d.0 (same_number number d.0 e), h.1)
    by Greater e r = (h.0, r)

numbered_by : (c : Bool) (given : List LinkInput) (x : LeftDelivery) (ds : List (ℕ × Delivered)) → IsAmong (input.Left x) given → x.delivery_id < 4294967296 → Each (Entry given) ds
    → Each (Entry given) (if c then ds else entered x.delivery_id (record { link = x.handle; tag = x.delivery_tag }) ds)
numbered_by true given x ds a s h = h
numbered_by false given x ds a s h =
    let v : Delivered = record { link = x.handle; tag = x.delivery_tag } in
    entered_keeps (Entry given) x.delivery_id v (λ k e. subst (λ (n : ℕ). Entry given (n, v)) e (entry_of given x a s)) ds h

pub forgotten_keeps : (P : ℕ × Delivered → Type 0) → (number : ℕ) (ds : List (ℕ × Delivered)) → Each P ds → Each P (forgotten number ds)
forgotten_keeps P number [] h = tt
forgotten_keeps P number (d ∷ ds) h = by (nat_eq number d.0) (forgotten_keeps P number ds h.1)
  where
    by : (c : Bool) → Each P (forgotten number ds) → Each P (cond c ds (d ∷ forgotten number ds))
    by true r = h.1
    by false r = (h.0, r)

-- the numbers of a part of the table, where they have 32 bits as each number has that left
part_within : (given : List LinkInput) (test within : ℕ → Bool) → ((n : ℕ) → n < 4294967296 → test n ≡ true → within n ≡ true) → (ds : List (ℕ × Delivered)) → Each (Entry given) ds
    → Each (λ (n : ℕ). within n ≡ true) (filter test (keys_of ds))
part_within given test within p [] h = tt
part_within given test within p (d ∷ ds) h = by (test d.0) refl (part_within given test within p ds h.1)
  where
    by : (c : Bool) → test d.0 ≡ c → Each (λ (n : ℕ). within n ≡ true) (filter test (keys_of ds)) → Each (λ (n : ℕ). within n ≡ true) (cond c (d.0 ∷ filter test (keys_of ds)) (filter test (keys_of ds)))
    by true e k = (p d.0 h.0.short e, k)
    by false e k = k

at_most : (n k : ℕ) → nat_le n k ≡ true → n ≤ k
at_most n k h = grind (arith, nat_tests)

first_so : (b c : Bool) → (b && c) ≡ true → b ≡ true
first_so true c h = refl
first_so false c h = absurd cc

last_so : (b c : Bool) → (b && c) ≡ true → c ≡ true
last_so true c h = h
last_so false c h = absurd cc

pub between_within : (first last : ℕ) → last < 4294967296 → (n : ℕ) → (nat_le first n && nat_le n last) ≡ true → is_within first last n ≡ true
between_within first last l n h =
    let a : first ≤ n = at_most first n (first_so (nat_le first n) (nat_le n last) h) in
    let b : n ≤ last = at_most n last (last_so (nat_le first n) (nat_le n last) h) in
    le-leb (ahead first n) (ahead first last) (ahead_between first last n l a b)

pub from_within : (first last : ℕ) → last < first → first < 4294967296 → (n : ℕ) → n < 4294967296 → nat_le first n ≡ true → is_within first last n ≡ true
from_within first last o f n s h =
    le-leb (ahead first n) (ahead first last) (ahead_from first last n o f s (at_most first n h))

pub up_to_within : (first last : ℕ) → last < first → first < 4294967296 → (n : ℕ) → nat_le n last ≡ true → is_within first last n ≡ true
up_to_within first last o f n h =
    le-leb (ahead first n) (ahead first last) (ahead_up_to first last n o f (at_most n last h))

all_within : (given : List LinkInput) (first last : ℕ) (ds : List (ℕ × Delivered)) → first < 4294967296 → last < 4294967296 → Each (Entry given) ds → Each (λ (n : ℕ). is_within first last n ≡ true) (covered first last ds)
all_within given first last ds f l h = by (cases_lt last first)
  where
    chosen : (c : Bool) → nat_le first last ≡ c → Each (λ (n : ℕ). is_within first last n ≡ true) (if c then numbers_between first last ds else numbers_around first last ds) → Each (λ (n : ℕ). is_within first last n ≡ true) (covered first last ds)
    chosen c e k = subst (λ (b : Bool). Each (λ (n : ℕ). is_within first last n ≡ true) (if b then numbers_between first last ds else numbers_around first last ds)) (sym e) k

    by : (last < first) ⊎ (first ≤ last) → Each (λ (n : ℕ). is_within first last n ≡ true) (covered first last ds)
    by (inl o) =
        chosen false (lt-leb first last o)
        (each_both (λ (n : ℕ). is_within first last n ≡ true) (filter (nat_le first) (keys_of ds)) (filter (λ (n : ℕ). nat_le n last) (keys_of ds))
        (part_within given (nat_le first) (is_within first last) (from_within first last o f) ds h)
        (part_within given (λ (n : ℕ). nat_le n last) (is_within first last) (λ n s. up_to_within first last o f n) ds h))
    by (inr o) = chosen true (le-leb first last o) (part_within given (λ (n : ℕ). nat_le first n && nat_le n last) (is_within first last) (λ n s. between_within first last l n) ds h)

found : (given : List LinkInput) (n : ℕ) (x : Delivered) (ds : List (ℕ × Delivered)) → Each (Entry given) ds → lookup (nat_eq n) ds ≡ Some x → HasLeft given x.link n x.tag
found given n x [] h e = absurd cc
found given n x (d ∷ ds) h e = tested (nat_eq n d.0) refl e (found given n x ds h.1)
  where
    tested : (c : Bool) → nat_eq n d.0 ≡ c → cond c (Some d.1) (lookup (nat_eq n) ds) ≡ Some x → (lookup (nat_eq n) ds ≡ Some x → HasLeft given x.link n x.tag) → HasLeft given x.link n x.tag
    tested true f g r =
        let s : d.1 ≡ x = cc in
        let k : n ≡ d.0 = same_key n d.0 f in
        subst (λ (m : ℕ). HasLeft given x.link m x.tag) (sym k) (subst (λ (y : Delivered). HasLeft given y.link d.0 y.tag) s h.0)
    tested false f g r = r g

-- ---- what a sender is told

-- of a Disposition of a receiver that was read, for a delivery that it covers
pub record IsNews (given : List LinkInput) (handle : ℕ) (w : News) : Type 0 where
  pub disposition : Disposition
  pub among : IsAmong (input.Disposition disposition) given
  pub by_receiver : disposition.role ≡ role.Receiver
  pub state : w.state ≡ disposition.state
  pub within : is_within disposition.first (last_of disposition) w.delivery.delivery_id ≡ true
  pub short : last_of disposition < 4294967296
  pub left : HasLeft given handle w.delivery.delivery_id w.delivery.delivery_tag

if_own : (given : List LinkInput) (handle n : ℕ) (x : Delivered) (d : Disposition) (c : Bool) → nat_eq x.link handle ≡ c → IsAmong (input.Disposition d) given → d.role ≡ role.Receiver → is_within d.first (last_of d) n ≡ true
    → last_of d < 4294967296 → HasLeft given x.link n x.tag → Each (IsNews given handle) (news_if c n x d)
if_own given handle n x d false e a r w s l = tt
if_own given handle n x d true e a r w s l = (
  record {
    disposition = d;
    among = a;
    by_receiver = r;
    state = refl;
    within = w;
    short = s;
    left = subst (λ (h : ℕ). HasLeft given h n x.tag) (same_key x.link handle e) l;
  },
  tt,
)

at_number : (given : List LinkInput) (handle n : ℕ) (ds : List (ℕ × Delivered)) (d : Disposition) (o : Option Delivered) → delivery_of n ds ≡ o → IsAmong (input.Disposition d) given → d.role ≡ role.Receiver → is_within d.first (last_of d) n ≡ true
    → last_of d < 4294967296 → Each (Entry given) ds → Each (IsNews given handle) (news_at handle o n d)
at_number given handle n ds d None e a r w s h = tt
at_number given handle n ds d (Some x) e a r w s h = if_own given handle n x d (nat_eq x.link handle) refl a r w s (found given n x ds h e)

over_numbers : (given : List LinkInput) (handle : ℕ) (ds : List (ℕ × Delivered)) (d : Disposition) (numbers : List ℕ) → IsAmong (input.Disposition d) given → d.role ≡ role.Receiver → last_of d < 4294967296 → Each (Entry given) ds
    → Each (λ (n : ℕ). is_within d.first (last_of d) n ≡ true) numbers → Each (IsNews given handle) (flat_map (λ (n : ℕ). news_at handle (delivery_of n ds) n d) numbers)
over_numbers given handle ds d [] a r s h k = tt
over_numbers given handle ds d (n ∷ ns) a r s h k =
    each_both (IsNews given handle) (news_at handle (delivery_of n ds) n d) (flat_map (λ (m : ℕ). news_at handle (delivery_of m ds) m d) ns)
    (at_number given handle n ds d (delivery_of n ds) refl a r k.0 s h) (over_numbers given handle ds d ns a r s h k.1)

by_role : (given : List LinkInput) (handle : ℕ) (ds : List (ℕ × Delivered)) (d : Disposition) (r : Role) → d.role ≡ r → IsAmong (input.Disposition d) given → d.first < 4294967296 → last_of d < 4294967296 → Each (Entry given) ds
    → Each (IsNews given handle) (news_by r handle ds d)
by_role given handle ds d role.Receiver r a f s h = over_numbers given handle ds d (covered d.first (last_of d) ds) a r s h (all_within given d.first (last_of d) ds f s h)
by_role given handle ds d role.Sender r a f s h = tt

all_news : (given : List LinkInput) (handle : ℕ) (ds : List (ℕ × Delivered)) (steps : List Step) → Each (Entry given) ds → AreAmong (inputs_of steps) given → AreShort steps → Each (IsNews given handle) (told handle ds steps)
all_news given handle ds [] h a s = tt
all_news given handle ds (leaves x ∷ xs) h a s = all_news given handle (numbered x ds) xs (numbered_by x.settled given x ds a.0 s.0 h) a.1 s.1
all_news given handle ds (covers d ∷ xs) h a s =
    each_both (IsNews given handle) (news_by d.role handle ds d) (told handle ds xs) (by_role given handle ds d d.role refl a.0 s.0.0 s.0.1 h) (all_news given handle ds xs h a.1 s.1)
all_news given handle ds (forgets n ∷ xs) h a s = all_news given handle (forgotten n ds) xs (forgotten_keeps (Entry given) n ds h) a s.1

pub first_news : (given : List LinkInput) (handle : ℕ) (steps : List Step) → AreAmong (inputs_of steps) given → AreShort steps → Each (IsNews given handle) (told handle [] steps)
first_news given handle steps a s = all_news given handle [] steps tt a s
