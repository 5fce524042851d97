-- What becomes of the messages that a sender has sent.
use Rattle.std.specs.Prelude.{◌≡◌, ◌⊎◌, ℕ, zero, suc, ◌-◌, Bool, true, false, is_some, cond, List, [], ◌∷◌, ◌++◌, length, Option, Some, None, if◌then◌else◌, refl}
use Rattle.std.proofs.Common.{slice_set, slice_index_or}
use Rattle.std.specs.List.{swap_remove, position}
use Rattle.std.specs.Map.{lookup, keys_of}
use Rattle.std.specs.Option.{option_map_or}
use Rattle.std.specs.Str.{bytes_eq}
use Rattle.std.proofs.Common.{sym, append-nil, append_assoc, subst, inl, inr, take}
use Rattle.std.proofs.lemmas.Slice.Eq.{bytes_eq-Decides}
use Rattle.indexmap.specs.IndexMap.{insert_entry, swap_remove_entry}
use Rattle.amqp_termini.specs.declared.state.DeliveryState.{DeliveryState}
use Rattle.amqp_performatives.specs.declared.flow.Flow.{Flow}
use Rattle.amqp_frames.specs.declared.shared.CoveredDelivery.{CoveredDelivery}
use Rattle.amqp_link.specs.declared.endpoint.LinkPhase.{LinkPhase}
use Rattle.amqp_link.specs.declared.endpoint.LinkPhase.TheVariants as phase
use Rattle.amqp_sender.specs.declared.sender.Settlement.{Settlement}
use Rattle.amqp_sender.specs.declared.sender.Settlement.TheVariants.{Unsettled, Settled, NonTerminal, Illegal}
use Rattle.amqp_sender.specs.Sender.{State}
use Rattle.amqp_sender.specs.Sending.{Made, first_settlement, flow_in, drained, credit_by}
use Rattle.amqp_sender.specs.Settling.{settlement_of, place_of, settled, settled_at, outcome_read, echoed, disposition_read}
use Rattle.session_laws.specs.Messages.{Message}
use Rattle.session_laws.specs.Sending.{Move, sends, polls, parts, abandons, reattaches, stays, hears_attach, hears_flow, hears_transfer, hears_disposition, hears_detach, stops, hands_over, after, after_all, message_for, sent_if, sent_by, sent}
use Rattle.session_laws.specs.Settling.{heard_by, heard, IsAmong, IsSettled, AreSettled, OutcomesWereHeard}
use Rattle.session_laws.proofs.Sends.{sending_cases, settles_first}

-- the message at a place has that tag
abbrev TagAt : List Message → ℕ → List ℕ → Type 0
TagAt [] n tag = ⊥
TagAt (m ∷ ms) zero tag = m.tag ≡ tag
TagAt (m ∷ ms) (suc n) tag = TagAt ms n tag

abbrev Each : {X : Type 0} → (X → Type 0) → List X → Type 0
Each P [] = Unit {0}
Each P (x ∷ xs) = P x × Each P xs

-- an unsettled delivery is that of the message at its place
abbrev Placed : List Message → List ℕ × ℕ → Type 0
Placed ms e = TagAt ms e.1 e.0

record Kept (told : List (List ℕ × Settlement)) (ms : List Message) (s : State) : Type 0 where
  known : AreSettled told ms s.settlements
  placed : Each (Placed ms) s.unsettled

-- ---- lists

among_left : {X : Type 0} → (x : X) (xs ys : List X) → IsAmong x xs → IsAmong x (xs ++ ys)
among_left x [] ys h = absurd h
among_left x (y ∷ xs) ys (inl e) = inl e
among_left x (y ∷ xs) ys (inr h) = inr (among_left x xs ys h)

among_last : {X : Type 0} → (x : X) (xs : List X) → IsAmong x (xs ++ x ∷ [])
among_last x [] = inl refl
among_last x (y ∷ xs) = inr (among_last x xs)

each_set : {X : Type 0} → (P : X → Type 0) (xs : List X) (i : ℕ) (a : X) → P a → Each P xs → Each P (slice_set xs i a)
each_set P [] zero a h k = k
each_set P [] (suc i) a h k = k
each_set P (x ∷ xs) zero a h k = (h, k.1)
each_set P (x ∷ xs) (suc i) a h k = (k.0, each_set P xs i a h k.1)

each_at : {X : Type 0} → (P : X → Type 0) (xs : List X) (i : ℕ) (d : X) → P d → Each P xs → P (slice_index_or xs i d)
each_at P [] zero d h k = h
each_at P [] (suc i) d h k = h
each_at P (x ∷ xs) zero d h k = k.0
each_at P (x ∷ xs) (suc i) d h k = each_at P xs i d h k.1

each_take : {X : Type 0} → (P : X → Type 0) (n : ℕ) (xs : List X) → Each P xs → Each P (take n xs)
each_take P zero [] k = tt
each_take P zero (x ∷ xs) k = tt
each_take P (suc n) [] k = tt
each_take P (suc n) (x ∷ xs) k = (k.0, each_take P n xs k.1)

each_swapped : {X : Type 0} → (P : X → Type 0) (xs : List X) (i : ℕ) (d : X) → P d → Each P xs → Each P (swap_remove xs i d)
each_swapped P xs i d h k = each_take P (length xs - 1) (slice_set xs i (slice_index_or xs (length xs - 1) d)) (each_set P xs i (slice_index_or xs (length xs - 1) d) (each_at P xs (length xs - 1) d h k) k)

each_or : {X : Type 0} → (P : X → Type 0) (xs : List X) (d : X) → P d → Each P xs → (o : Option ℕ) → Each P (option_map_or (λ (i : ℕ). swap_remove xs i d) o xs)
each_or P xs d h k None = k
each_or P xs d h k (Some i) = each_swapped P xs i d h k

each_removed : (P : List ℕ × ℕ → Type 0) (test : List ℕ → Bool) (es : List (List ℕ × ℕ)) → Each P es → Each P (swap_remove_entry test es)
each_removed P test [] k = k
each_removed P test (e ∷ es) k = each_or P (e ∷ es) e k.0 k (position test (keys_of (e ∷ es)))

each_inserted : (ms : List Message) (es : List (List ℕ × ℕ)) (tag : List ℕ) (place : ℕ) → TagAt ms place tag → Each (Placed ms) es → Each (Placed ms) (insert_entry bytes_eq es tag place)
each_inserted ms [] tag place h k = (h, tt)
each_inserted ms (e ∷ es) tag place h k = tested (bytes_eq tag e.0) refl (each_inserted ms es tag place h k.1)
  where
    tested : (c : Bool) → bytes_eq tag e.0 ≡ c → Each (Placed ms) (insert_entry bytes_eq es tag place) → Each (Placed ms) (if c then (e.0, place) ∷ es else e ∷ insert_entry bytes_eq es tag place)
    tested true f r = (subst (λ (t : List ℕ). TagAt ms place t) ((bytes_eq-Decides tag e.0).0 f) h, k.1)
    tested false f r = (k.0, r)

-- ---- more is sent or heard

tag_more : (ms ns : List Message) (n : ℕ) (tag : List ℕ) → TagAt ms n tag → TagAt (ms ++ ns) n tag
tag_more [] ns n tag h = absurd h
tag_more (m ∷ ms) ns zero tag h = h
tag_more (m ∷ ms) ns (suc n) tag h = tag_more ms ns n tag h

placed_more : (ms ns : List Message) (es : List (List ℕ × ℕ)) → Each (Placed ms) es → Each (Placed (ms ++ ns)) es
placed_more ms ns [] k = tt
placed_more ms ns (e ∷ es) k = (tag_more ms ns e.1 e.0 k.0, placed_more ms ns es k.1)

tag_last : (told : List (List ℕ × Settlement)) (ms : List Message) (xs : List Settlement) (m : Message) → AreSettled told ms xs → TagAt (ms ++ m ∷ []) (length xs) m.tag
tag_last told [] [] m h = refl
tag_last told [] (x ∷ xs) m h = absurd h
tag_last told (n ∷ ms) [] m h = absurd h
tag_last told (n ∷ ms) (x ∷ xs) m h = tag_last told ms xs m h.1

settled_push : (told : List (List ℕ × Settlement)) (ms : List Message) (xs : List Settlement) (m : Message) (x : Settlement) → IsSettled told m x → AreSettled told ms xs → AreSettled told (ms ++ m ∷ []) (xs ++ x ∷ [])
settled_push told [] [] m x h k = (h, tt)
settled_push told [] (y ∷ xs) m x h k = absurd k
settled_push told (n ∷ ms) [] m x h k = absurd k
settled_push told (n ∷ ms) (y ∷ xs) m x h k = (k.0, settled_push told ms xs m x h k.1)

either_more : (told more : List (List ℕ × Settlement)) (m : Message) (x : Settlement) (P : Type 0) → (P ⊎ IsAmong (m.tag, x) told) → (P ⊎ IsAmong (m.tag, x) (told ++ more))
either_more told more m x P (inl p) = inl p
either_more told more m x P (inr h) = inr (among_left (m.tag, x) told more h)

is_more : (told more : List (List ℕ × Settlement)) (m : Message) (x : Settlement) → IsSettled told m x → IsSettled (told ++ more) m x
is_more told more m Unsettled h = tt
is_more told more m (Settled o) h = either_more told more m (Settled o) _ h
is_more told more m NonTerminal h = either_more told more m NonTerminal _ h
is_more told more m Illegal h = either_more told more m Illegal _ h

settled_more : (told more : List (List ℕ × Settlement)) (ms : List Message) (xs : List Settlement) → AreSettled told ms xs → AreSettled (told ++ more) ms xs
settled_more told more [] [] h = tt
settled_more told more [] (x ∷ xs) h = absurd h
settled_more told more (m ∷ ms) [] h = absurd h
settled_more told more (m ∷ ms) (x ∷ xs) h = (is_more told more m x h.0, settled_more told more ms xs h.1)

-- ---- a delivery is settled

heard_is : (told : List (List ℕ × Settlement)) (m : Message) (x : Settlement) → IsAmong (m.tag, x) told → IsSettled told m x
heard_is told m Unsettled h = tt
heard_is told m (Settled o) h = inr h
heard_is told m NonTerminal h = inr h
heard_is told m Illegal h = inr h

settles : (told : List (List ℕ × Settlement)) (ms : List Message) (xs : List Settlement) (place : ℕ) (tag : List ℕ) (x : Settlement) → TagAt ms place tag → IsAmong (tag, x) told → AreSettled told ms xs → AreSettled told ms (slice_set xs place x)
settles told [] xs place tag x t h k = absurd t
settles told (m ∷ ms) [] place tag x t h k = absurd k
settles told (m ∷ ms) (y ∷ xs) zero tag x t h k = (heard_is told m x (subst (λ (z : List ℕ). IsAmong (z, x) told) (sym t) h), k.1)
settles told (m ∷ ms) (y ∷ xs) (suc n) tag x t h k = (k.0, settles told ms xs n tag x t h k.1)

-- what is looked up under a tag has it
found : (ms : List Message) (tag : List ℕ) (es : List (List ℕ × ℕ)) → Each (Placed ms) es → (place : ℕ) → lookup (bytes_eq tag) es ≡ Some place → TagAt ms place tag
found ms tag [] k place h = absurd cc
found ms tag (e ∷ es) k place h = tested (bytes_eq tag e.0) refl h (found ms tag es k.1 place)
  where
    tested : (c : Bool) → bytes_eq tag e.0 ≡ c → cond c (Some e.1) (lookup (bytes_eq tag) es) ≡ Some place → (lookup (bytes_eq tag) es ≡ Some place → TagAt ms place tag) → TagAt ms place tag
    tested true f g r =
        let n : e.1 ≡ place = cc in
        let t : tag ≡ e.0 = (bytes_eq-Decides tag e.0).0 f in
        subst (λ (z : List ℕ). TagAt ms place z) (sym t) (subst (λ (z : ℕ). TagAt ms z e.0) n k.0)
    tested false f g r = r g

settled_by : (o : Option ℕ) (told : List (List ℕ × Settlement)) (ms : List Message) (tag : List ℕ) (x : Settlement) (s : State) → place_of tag s ≡ o → IsAmong (tag, x) told → Kept told ms s → Kept told ms (settled_at o tag x s)
settled_by None told ms tag x s e h k = k
settled_by (Some place) told ms tag x s e h k = record {
  known = settles told ms s.settlements place tag x (found ms tag s.unsettled k.placed place e) h k.known;
  placed = each_removed (Placed ms) (bytes_eq tag) s.unsettled k.placed;
}

echoes : (c : Bool) (number : ℕ) (x : Option DeliveryState) (told : List (List ℕ × Settlement)) (ms : List Message) (s : State) → Kept told ms s → Kept told ms (echoed c number x s)
echoes true number x told ms s k = k
echoes false number x told ms s k = record { known = k.known; placed = k.placed }

outcomes : (c : Bool) (covered : CoveredDelivery) (x : Option DeliveryState) (told : List (List ℕ × Settlement)) (ms : List Message) (s : State) → IsAmong (covered.delivery_tag, settlement_of x) told → Kept told ms s → Kept told ms (outcome_read c covered x s)
outcomes false covered x told ms s h k = k
outcomes true covered x told ms s h k =
    echoes (is_some s.link.stop_reason) covered.delivery_id x told ms (settled covered.delivery_tag (settlement_of x) s) (settled_by (place_of covered.delivery_tag s) told ms covered.delivery_tag (settlement_of x) s refl h k)

dispositions : (covered : CoveredDelivery) (c : Bool) (x : Option DeliveryState) (told : List (List ℕ × Settlement)) (ms : List Message) (s : State) → IsAmong (covered.delivery_tag, settlement_of x) told → Kept told ms s → Kept told ms (disposition_read covered c x s)
dispositions covered true x told ms s h k = settled_by (place_of covered.delivery_tag s) told ms covered.delivery_tag (settlement_of x) s refl h k
dispositions covered false x told ms s h k = outcomes (settles_first covered x s) covered x told ms s h k

-- ---- a message is sent

first_is : (told : List (List ℕ × Settlement)) (m : Message) (c : Bool) → m.settled ≡ c → IsSettled told m (first_settlement c)
first_is told m true h = inl (h, refl)
first_is told m false h = tt

first_placed : (told : List (List ℕ × Settlement)) (ms : List Message) (s : State) (m : Message) (c : Bool) → Kept told ms s
    → Each (Placed (ms ++ m ∷ [])) (if c then s.unsettled else insert_entry bytes_eq s.unsettled m.tag (length s.settlements))
first_placed told ms s m true k = placed_more ms (m ∷ []) s.unsettled k.placed
first_placed told ms s m false k = each_inserted (ms ++ m ∷ []) s.unsettled m.tag (length s.settlements) (tag_last told ms s.settlements m k.known) (placed_more ms (m ∷ []) s.unsettled k.placed)

none_sent : (told : List (List ℕ × Settlement)) (ms : List Message) (s : State) → Kept told ms s → Kept told (ms ++ []) s
none_sent told ms s k = subst (λ xs. Kept told xs s) (sym (append-nil ms)) k

sending_kept : (told : List (List ℕ × Settlement)) (ms : List Message) (s : State) (payload : List ℕ) (format : ℕ) (wanted : Option Bool) (batchable : Bool) → Kept told ms s
    → Kept told (ms ++ sent_by s (sends payload format wanted batchable)) (after s (sends payload format wanted batchable))
sending_kept told ms s payload format wanted batchable k =
    let m = message_for s payload format wanted batchable in
    sending_cases (λ (x : Made). Kept told (ms ++ sent_if x.answer m) x.state) payload format wanted batchable s (λ e. none_sent told ms s k) (none_sent told ms s k)
    (λ c f. record {
      known = settled_push told ms s.settlements m (first_settlement m.settled) (first_is told m m.settled refl) k.known;
      placed = first_placed told ms s m m.settled k;
    })

-- ---- over its life

drains : (c : Bool) (told : List (List ℕ × Settlement)) (ms : List Message) (s t : State) → t.settlements ≡ s.settlements → t.unsettled ≡ s.unsettled → Kept told ms s → Kept told ms (if c then drained t else t)
drains true told ms s t a b k = record { known = subst (λ xs. AreSettled told ms xs) (sym a) k.known; placed = subst (λ xs. Each (Placed ms) xs) (sym b) k.placed }
drains false told ms s t a b k = record { known = subst (λ xs. AreSettled told ms xs) (sym a) k.known; placed = subst (λ xs. Each (Placed ms) xs) (sym b) k.placed }

flows : (p : LinkPhase) (x : Flow) (told : List (List ℕ × Settlement)) (ms : List Message) (s : State) → Kept told ms s → Kept told ms (flow_in p x s)
flows phase.Attached x told ms s k = drains x.drain told ms s (record s { credit = credit_by x s }) refl refl k
flows p x told ms s k = record { known = k.known; placed = k.placed }

-- nothing is sent or heard
same : (told : List (List ℕ × Settlement)) (ms : List Message) (s : State) → Kept told ms s → Kept (told ++ []) (ms ++ []) s
same told ms s k = subst (λ xs. Kept xs (ms ++ []) s) (sym (append-nil told)) (none_sent told ms s k)

unheard : (told : List (List ℕ × Settlement)) (ms : List Message) (s : State) → Kept told ms s → Kept (told ++ []) ms s
unheard told ms s k = subst (λ xs. Kept xs ms s) (sym (append-nil told)) k

keeps : (told : List (List ℕ × Settlement)) (ms : List Message) (s : State) (m : Move) → Kept told ms s → Kept (told ++ heard_by m) (ms ++ sent_by s m) (after s m)
keeps told ms s (sends payload format wanted batchable) k = unheard told (ms ++ sent_by s (sends payload format wanted batchable)) (after s (sends payload format wanted batchable)) (sending_kept told ms s payload format wanted batchable k)
keeps told ms s polls k = same told ms (after s polls) (record { known = k.known; placed = k.placed })
keeps told ms s (parts closes error) k = same told ms (after s (parts closes error)) (record { known = k.known; placed = k.placed })
keeps told ms s abandons k = same told ms (after s abandons) (record { known = k.known; placed = k.placed })
keeps told ms s (reattaches handle) k = same told ms (after s (reattaches handle)) (record { known = k.known; placed = k.placed })
keeps told ms s stays k = same told ms (after s stays) (record { known = k.known; placed = k.placed })
keeps told ms s (hears_attach x) k = same told ms (after s (hears_attach x)) (record { known = k.known; placed = k.placed })
keeps told ms s (hears_flow x) k = same told ms (after s (hears_flow x)) (flows s.link.phase x told ms s k)
keeps told ms s hears_transfer k = same told ms (after s hears_transfer) (record { known = k.known; placed = k.placed })
keeps told ms s (hears_disposition covered c x) k =
    let d : List ℕ × Settlement = (covered.delivery_tag, settlement_of x) in
    none_sent (told ++ d ∷ []) ms (after s (hears_disposition covered c x))
    (dispositions covered c x (told ++ d ∷ []) ms s (among_last d told) (record { known = settled_more told (d ∷ []) ms s.settlements k.known; placed = k.placed }))
keeps told ms s (hears_detach d) k = same told ms (after s (hears_detach d)) (record { known = k.known; placed = k.placed })
keeps told ms s (stops why) k = same told ms (after s (stops why)) (record { known = k.known; placed = k.placed })
keeps told ms s hands_over k = same told ms (after s hands_over) (record { known = k.known; placed = k.placed })

lives : (told : List (List ℕ × Settlement)) (xs : List Message) (s : State) (ms : List Move) → Kept told xs s → AreSettled (told ++ heard ms) (xs ++ sent s ms) (after_all s ms).settlements
lives told xs s [] k = (let n = same told xs s k in n.known)
lives told xs s (m ∷ ms) k =
    let l = lives (told ++ heard_by m) (xs ++ sent_by s m) (after s m) ms (keeps told xs s m k) in
    let a = append_assoc told (heard_by m) (heard ms) in
    let b = append_assoc xs (sent_by s m) (sent (after s m) ms) in
    subst (λ ys. AreSettled ys (xs ++ (sent_by s m ++ sent (after s m) ms)) (after_all (after s m) ms).settlements) a
    (subst (λ ys. AreSettled ((told ++ heard_by m) ++ heard ms) ys (after_all (after s m) ms).settlements) b l)

pub outcomes_were_heard : OutcomesWereHeard
outcomes_were_heard s ms e f = lives [] [] s ms (record { known = subst (λ xs. AreSettled [] [] xs) (sym e) tt; placed = subst (λ xs. Each (Placed []) xs) (sym f) tt })
