-- What waits is written in order, in the parts into which it is split, and takes consecutive numbers.
use Rattle.std.proofs.Common.{◌≡◌, ◌∙◌, ap, sym, subst, refl, ℕ, zero, suc, ◌+◌, ◌-◌, ◌%◌, ◌<◌, true, false, Bool, List, [], ◌∷◌, ◌++◌, length, Option, Some, None, append_assoc, if◌then◌else◌, arith}
use Rattle.std.specs.Prelude.{is_some, unwrap_or}
use Rattle.std.proofs.lemmas.List.{append-nil}
use Rattle.amqp_performatives.specs.declared.transfer.Transfer.{Transfer}
use Rattle.amqp_parts.specs.declared.part.Part.{Part}
use Rattle.amqp_parts.specs.Split.{IsSplit, continuation}
use Rattle.amqp_parts.specs.Cut.{cut_length, cut_at, cut_of, GoesOn}
use Rattle.amqp_parts.proofs.Cutting.{splits_by, has_parts}
use Rattle.amqp_session.specs.Hold.{begins, numbered, left_of, kept, leaving, first_leaving, releasing, released}
use Rattle.amqp_session.specs.Laws.{Releases, Splits, lefts_of}
use Rattle.amqp_session.specs.State.{State}
use Rattle.amqp_session.specs.Windows.{after}
use Rattle.amqp_session.proofs.Releases.{releasing_none}

-- ---- the parts of what waits

-- the number of the next delivery
abbrev pub next_of : ℕ → Transfer → ℕ
next_of n x = if begins x then after n else n

-- what is left of a delivery says what goes on with it
rest_at : (n : Option ℕ) (x : Transfer) (payload : List ℕ) (r : Part) → (cut_at n x payload).rest ≡ Some r → r.transfer ≡ continuation x.handle
rest_at None x payload r h = cc
rest_at (Some n) x payload r h = cc

rest_continues : (frame : ℕ) (x : Transfer) (payload : List ℕ) (r : Part) → (cut_of frame x payload).rest ≡ Some r → r.transfer ≡ continuation x.handle
unfolding cut_of
rest_continues frame x payload r h = rest_at (cut_length frame x (length payload)) x payload r h

-- which takes no number of a delivery
plain : (frame n handle : ℕ) (x : Transfer) (payload : List ℕ) (own : List Part) → x ≡ continuation handle → IsSplit frame (numbered n x) payload own → IsSplit frame x payload own
plain frame n handle x payload own e h =
    let f : IsSplit frame (continuation handle) payload own = subst (λ z. IsSplit frame (numbered n z) payload own) e h in
    subst (λ z. IsSplit frame z payload own) (sym e) f

unnumbered : (frame n handle : ℕ) (x : Transfer) (xs others : List Part) → x ≡ continuation handle → Splits frame (next_of n x) xs others → Splits frame n xs others
unnumbered frame n handle x xs others e h =
    let f : next_of n x ≡ n = ap (λ z. next_of n z) e in
    subst (λ m. Splits frame m xs others) f h

-- with the part that was split off before them, the parts of what then waits are those of what has waited
joined : (frame n : ℕ) (x : Part) (xs others : List Part) (first : Part) (rest : Option Part) → ((parts : List Part) → GoesOn frame first rest parts → IsSplit frame (numbered n x.transfer) x.payload parts)
    → ((r : Part) → rest ≡ Some r → r.transfer ≡ continuation (numbered n x.transfer).handle) → Splits frame (next_of n x.transfer) (kept rest xs) others → Splits frame n (x ∷ xs) (first ∷ others)
joined frame n x xs others first None splits continues h = (first ∷ [], (others, (refl, splits (first ∷ []) refl, h)))
joined frame n x xs others first (Some r) splits continues h =
    let e = continues r refl in
    let m = next_of n x.transfer in
    let own = plain frame m (numbered n x.transfer).handle r.transfer r.payload h.0 e h.1.1.1 in
    let later = unnumbered frame m (numbered n x.transfer).handle r.transfer xs h.1.0 e h.1.1.2 in
    (first ∷ h.0, (h.1.0, (ap (λ z. first ∷ z) h.1.1.0, splits (first ∷ h.0) (h.0, (refl, own)), later)))

first_joined : (frame n : ℕ) (x : Part) (xs others : List Part) → Splits frame (next_of n x.transfer) (kept (cut_of frame (numbered n x.transfer) x.payload).rest xs) others → Splits frame n (x ∷ xs) ((cut_of frame (numbered n x.transfer) x.payload).first ∷ others)
first_joined frame n x xs others h =
    let c = cut_of frame (numbered n x.transfer) x.payload in
    joined frame n x xs others c.first c.rest (λ parts g. (splits_by frame (numbered n x.transfer) x.payload parts).1 g) (λ r e. rest_continues frame (numbered n x.transfer) x.payload r e) h

-- ---- what links are told

numbered_left : (o : Option (List ℕ)) (n : ℕ) (x : Transfer) → left_of o n (record x { delivery_id = Some n }) ≡ left_of o n x
numbered_left None n x = refl
numbered_left (Some tag) n x = refl

none_left : (o : Option (List ℕ)) (m n : ℕ) (x : Transfer) → is_some o ≡ false → left_of o m x ≡ left_of o n x
none_left None m n x h = refl
none_left (Some tag) m n x h = cc

told_by : (c : Bool) (n : ℕ) (x : Transfer) → begins x ≡ c → let y = if c then record x { delivery_id = Some n } else x in left_of y.delivery_tag (unwrap_or y.delivery_id 0) y ≡ left_of x.delivery_tag n x
told_by true n x h = numbered_left x.delivery_tag n x
told_by false n x h = none_left x.delivery_tag (unwrap_or x.delivery_id 0) n x h

more_left : (o : Option (List ℕ)) (n : ℕ) (b : Bool) (x : Transfer) → left_of o n (record x { more = b }) ≡ left_of o n x
more_left None n b x = refl
more_left (Some tag) n b x = refl

first_at : (c : Option ℕ) (x : Transfer) (payload : List ℕ) → let y = (cut_at c x payload).first.transfer in left_of y.delivery_tag (unwrap_or y.delivery_id 0) y ≡ left_of x.delivery_tag (unwrap_or x.delivery_id 0) x
first_at None x payload = more_left x.delivery_tag (unwrap_or x.delivery_id 0) false x
first_at (Some n) x payload = more_left x.delivery_tag (unwrap_or x.delivery_id 0) true x

first_told : (frame n : ℕ) (x : Transfer) (payload : List ℕ) → let y = (cut_of frame (numbered n x) payload).first.transfer in left_of y.delivery_tag (unwrap_or y.delivery_id 0) y ≡ left_of x.delivery_tag n x
unfolding cut_of
first_told frame n x payload = first_at (cut_length frame (numbered n x) (length payload)) (numbered n x) payload ∙ told_by (begins x) n x refl

-- ---- one part after another

none_gone : (s : State) → Releases s s
none_gone s = record { gone = []; order = λ others h. h; output = sym (append-nil s.output); within = omega arith; number = λ h. omega arith; told = sym (append-nil s.incoming) }

step_number : (n k m : ℕ) → n < 4294967296 → (after n < 4294967296 → m ≡ (after n + k) % 4294967296) → m ≡ (n + suc k) % 4294967296
step_number n k m h e = omega arith

step_within : (k a n : ℕ) → 0 < a → k + n ≡ a - 1 → suc k + n ≡ a
step_within k a n h e = omega arith

one_gone : (x : Part) (xs : List Part) (s t : State) → s.held ≡ x ∷ xs → 0 < s.windows.allowance → Releases (leaving x (record s { held = xs })) t → Releases s t
one_gone x xs s t h p r =
    let n = s.windows.next_delivery_id in
    let first = (cut_of s.max_frame_size (numbered n x.transfer) x.payload).first in
    record {
      gone = first ∷ r.gone;
      order = λ others k. subst (λ z. Splits s.max_frame_size n z (first ∷ r.gone ++ others)) (sym h) (first_joined s.max_frame_size n x xs (r.gone ++ others) (r.order others k));
      output = r.output ∙ append_assoc s.output _ _;
      within = step_within _ _ _ p r.within;
      number = λ k. step_number _ _ _ k r.number;
      told = r.told ∙ append_assoc s.incoming _ _ ∙ ap (λ z. s.incoming ++ (z ++ lefts_of r.gone)) (sym (first_told s.max_frame_size n x.transfer x.payload));
    }

gone_by : (n : ℕ) (xs : List Part) (s : State) → s.held ≡ xs → s.windows.allowance ≡ suc n → ((t : State) → t.windows.allowance ≡ n → Releases t (releasing n t)) → Releases s (releasing n (first_leaving xs s))
gone_by n [] s h a later = subst (λ t. Releases s t) (sym (releasing_none n s h)) (none_gone s)
gone_by n (x ∷ xs) s h a later = one_gone x xs s (releasing n (leaving x (record s { held = xs }))) h (omega arith) (later (leaving x (record s { held = xs })) (omega arith))

releasing_order : (n : ℕ) (s : State) → s.windows.allowance ≡ n → Releases s (releasing n s)
unfolding releasing
releasing_order zero s a = none_gone s
releasing_order (suc n) s a = gone_by n s.held s refl a (releasing_order n)

pub released_order : (s : State) → Releases s (released s)
released_order s = releasing_order s.windows.allowance s refl

-- ---- whatever waits has parts

pub all_split : (frame n : ℕ) (xs : List Part) → (parts : List Part) × Splits frame n xs parts
all_split frame n [] = ([], refl)
all_split frame n (x ∷ xs) =
    let own = has_parts frame (numbered n x.transfer) x.payload in
    let others = all_split frame (next_of n x.transfer) xs in
    (own.0 ++ others.0, (own.0, (others.0, (refl, own.1, others.1))))
