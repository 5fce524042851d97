-- No handle and no number stands twice.
use Rattle.std.proofs.Common.{◌≡◌, ◌∙◌, ap, subst, refl, sym, ℕ, ◌<◌, Bool, true, false, cond, nat_eq, position, get_or, length, List, [], ◌∷◌, ◌++◌, Option, Some, None, is_some, Result, Ok, Err, if◌then◌else◌}
use Rattle.std.proofs.lemmas.Bool.{eqb-true, eqb-false, eq-eqb, ne_eqb}
use Rattle.std.proofs.lemmas.Option.{slice_get-get_or}
use Rattle.std.specs.Cmp.{nat_eq_equiv}
use Rattle.std.specs.List.{IsDistinct, list_any}
use Rattle.std.specs.Map.{lookup, keys_of}
use Rattle.indexmap.specs.IndexMap.{insert_entry, swap_remove_entry}
use Rattle.std.specs.Option.{option_map}
use Rattle.std.specs.Str.{bytes_eq}
use Rattle.indexmap.proofs.MapLemmas.{swap_remove_entry-found, swap_remove_entry-missing, Found-position}
use Rattle.indexmap.proofs.RemoveLemmas.{swap_out, none_out}
use Rattle.indexmap.proofs.SetLemmas.{keys_insert_entry}
use Rattle.std.proofs.lemmas.Map.Keys.{IsDistinct-push}
use Rattle.amqp_composites.specs.declared.modes.Role.{Role}
use Rattle.amqp_composites.specs.declared.modes.Role.TheVariants.{Sender, Receiver}
use Rattle.amqp_link_tables.proofs.Allocation.{right}
use Rattle.amqp_link_tables.specs.declared.error.AllocLinkError.{AllocLinkError}
use Rattle.amqp_link_tables.specs.declared.handles.Held.{Held}
use Rattle.amqp_link_tables.specs.Calls.{link_at, names, with_names, allocation, allocated, attached, released_at, released}
use Rattle.amqp_link_tables.specs.Laws.{IsApart}
use Rattle.amqp_link_tables.specs.State.{State, no_links}

-- ---- an entry more

found : {X : Type 0} (q k : ℕ) (v : X) (es : List (ℕ × X)) → lookup (nat_eq q) (insert_entry nat_eq es k v) ≡ cond (nat_eq k q) (Some v) (lookup (nat_eq q) es)
found q k v [] = ap (λ b. cond b (Some v) None) (nat_eq_equiv.symm q k)
found q k v (e ∷ es) = by (nat_eq k e.0) refl (nat_eq q e.0) refl (found q k v es)
  where
    by : (b : Bool) → nat_eq k e.0 ≡ b → (c : Bool) → nat_eq q e.0 ≡ c → lookup (nat_eq q) (insert_entry nat_eq es k v) ≡ cond (nat_eq k q) (Some v) (lookup (nat_eq q) es) → lookup (nat_eq q) (if b then (e.0, v) ∷ es else e ∷ insert_entry nat_eq es k v) ≡ cond (nat_eq k q) (Some v) (cond c (Some e.1) (lookup (nat_eq q) es))
    by true h true g rest =
        let same : k ≡ q = eqb-true k e.0 h ∙ sym (eqb-true q e.0 g) in
        ap (λ c. cond c (Some v) (lookup (nat_eq q) es)) g ∙ sym (ap (λ c. cond c (Some v) (Some e.1)) (eq-eqb k q same))
    by true h false g rest =
        let apart : nat_eq k q ≡ false = ne_eqb k q (λ s. eqb-false q e.0 g (sym s ∙ eqb-true k e.0 h)) in
        ap (λ c. cond c (Some v) (lookup (nat_eq q) es)) g ∙ sym (ap (λ c. cond c (Some v) (lookup (nat_eq q) es)) apart)
    by false h true g rest =
        let apart : nat_eq k q ≡ false = ne_eqb k q (λ s. eqb-false k e.0 h (s ∙ eqb-true q e.0 g)) in
        ap (λ c. cond c (Some e.1) (lookup (nat_eq q) (insert_entry nat_eq es k v))) g ∙ sym (ap (λ c. cond c (Some v) (Some e.1)) apart)
    by false h false g rest = ap (λ c. cond c (Some e.1) (lookup (nat_eq q) (insert_entry nat_eq es k v))) g ∙ rest

distinct : {X : Type 0} (k : ℕ) (v : X) (es : List (ℕ × X)) → IsDistinct nat_eq (keys_of es) → IsDistinct nat_eq (keys_of (insert_entry nat_eq es k v))
distinct k v es d = subst (IsDistinct nat_eq) (sym (keys_insert_entry nat_eq es k v)) (by (list_any (nat_eq k) (keys_of es)) refl)
  where
    by : (b : Bool) → list_any (nat_eq k) (keys_of es) ≡ b → IsDistinct nat_eq (if list_any (nat_eq k) (keys_of es) then keys_of es else keys_of es ++ k ∷ [])
    by true e = subst (λ c. IsDistinct nat_eq (if c then keys_of es else keys_of es ++ k ∷ [])) (sym e) d
    by false e = subst (λ c. IsDistinct nat_eq (if c then keys_of es else keys_of es ++ k ∷ [])) (sym e) (IsDistinct-push nat_eq_equiv (keys_of es) k d e)

-- ---- an entry less

pub record Leaves {X : Type 0} (k : ℕ) (es fs : List (ℕ × X)) : Type 0 where
  pub gone : lookup (nat_eq k) fs ≡ None
  pub others : (q : ℕ) → nat_eq k q ≡ false → lookup (nat_eq q) fs ≡ lookup (nat_eq q) es
  pub unique : IsDistinct nat_eq (keys_of fs)

left_in : {X : Type 0} (k : ℕ) (e : ℕ × X) (rest es : List (ℕ × X)) → es ≡ e ∷ rest → IsDistinct nat_eq (keys_of es) → Leaves k es (swap_remove_entry (nat_eq k) es)
left_in k e rest es some d = by (position (nat_eq k) (keys_of es)) refl
  where
    by : (o : Option ℕ) → position (nat_eq k) (keys_of es) ≡ o → Leaves k es (swap_remove_entry (nat_eq k) es)
    by None p =
        let same : swap_remove_entry (nat_eq k) es ≡ es = swap_remove_entry-missing (nat_eq k) es p in
        let u = none_out nat_eq nat_eq_equiv (nat_eq k) (nat_eq_equiv.congr k) es (swap_remove_entry (nat_eq k) es) p same in
        record { gone = u.1; others = u.2; unique = subst (λ l. IsDistinct nat_eq (keys_of l)) (sym same) d }
    by (Some i) p =
        let within : i < length es = (Found-position (nat_eq k) es i p).within in
        let out = swap_out nat_eq nat_eq_equiv (nat_eq k) (nat_eq_equiv.congr k) es i (get_or es i e) p (slice_get-get_or es i e within) d (swap_remove_entry (nat_eq k) es) (swap_remove_entry-found (nat_eq k) es i (get_or es i e) p) in
        record { gone = out.updated.1; others = out.updated.2; unique = out.unique }

left : {X : Type 0} (k : ℕ) (es : List (ℕ × X)) → IsDistinct nat_eq (keys_of es) → Leaves k es (swap_remove_entry (nat_eq k) es)
left k [] d = record { gone = refl; others = λ q apart. refl; unique = d }
left k (e ∷ es) d = left_in k e es (e ∷ es) refl d

-- ---- the tables

apart_named : (role : Role) (ns : List (List ℕ × ℕ)) (t : State) → IsApart t → IsApart (with_names role ns t)
apart_named Sender ns t a = a
apart_named Receiver ns t a = a

handles_named : (role : Role) (ns : List (List ℕ × ℕ)) (t : State) → (with_names role ns t).handles ≡ t.handles
handles_named Sender ns t = refl
handles_named Receiver ns t = refl

-- the table behind an entry, but for the name
abbrev pub entering : ℕ → Held → State → State
entering handle held s = record s { handles = insert_entry nat_eq s.handles handle held }

abbrev pub leaving : ℕ → State → State
leaving handle s = record s { handles = swap_remove_entry (nat_eq handle) s.handles }

abbrev pub held_of : List ℕ → Role → ℕ → Held
held_of name role link = record { link = link; role = role; name = name }

handles_attached : (name : List ℕ) (role : Role) (handle link : ℕ) (s : State) → (attached handle name role link s).handles ≡ insert_entry nat_eq s.handles handle (held_of name role link)
handles_attached name role handle link s =
    let t : State = entering handle (held_of name role link) s in
    handles_named role (insert_entry bytes_eq (names role t) name link) t

unfolded : IsDistinct nat_eq []
unfolding IsDistinct
unfolded = tt

pub apart_none : IsApart no_links
apart_none = unfolded

apart_answered : (o : Result ℕ AllocLinkError) (name : List ℕ) (role : Role) (link : ℕ) (s : State) → IsApart s → IsApart (allocated o name role link s)
apart_answered (Err e) name role link s a = a
apart_answered (Ok handle) name role link s a =
    let t : State = entering handle (held_of name role link) s in
    apart_named role (insert_entry bytes_eq (names role t) name link) t (distinct handle (held_of name role link) s.handles a)

pub apart_allocated : (name : List ℕ) (role : Role) (max link : ℕ) (s : State) → IsApart s → IsApart (allocated (allocation name role max s) name role link s)
apart_allocated name role max link s a = apart_answered (allocation name role max s) name role link s a

apart_at : (o : Option Held) (handle : ℕ) (s : State) → IsApart s → IsApart (released_at o handle s)
apart_at None handle s a = a
apart_at (Some held) handle s a =
    let t : State = leaving handle s in
    apart_named held.role (swap_remove_entry (bytes_eq held.name) (names held.role t)) t (left handle s.handles a).unique

pub apart_released : (handle : ℕ) (s : State) → IsApart s → IsApart (released handle s)
apart_released handle s a = apart_at (lookup (nat_eq handle) s.handles) handle s a

-- ---- the links of the handles

abbrev pub link_of : Option Held → Option ℕ
link_of o = option_map (λ (h : Held). h.link) o

none_of : (o : Option Held) → is_some o ≡ false → link_of o ≡ None
none_of None e = refl
none_of (Some held) e = cc

pub had_none : (name : List ℕ) (role : Role) (max handle : ℕ) (s : State) → allocation name role max s ≡ Ok handle → link_at handle s ≡ None
had_none name role max handle s e = none_of (lookup (nat_eq handle) s.handles) ((right name role max s).free handle e).0.0

pub has_it : (name : List ℕ) (role : Role) (handle link : ℕ) (s : State) → link_at handle (attached handle name role link s) ≡ Some link
has_it name role handle link s =
    ap (λ hs. link_of (lookup (nat_eq handle) hs)) (handles_attached name role handle link s)
    ∙ ap link_of (found handle handle (held_of name role link) s.handles ∙ ap (λ b. cond b (Some (held_of name role link)) (lookup (nat_eq handle) s.handles)) (eq-eqb handle handle refl))

pub others_attached : (name : List ℕ) (role : Role) (handle other link : ℕ) (s : State) → nat_eq handle other ≡ false → link_at other (attached handle name role link s) ≡ link_at other s
others_attached name role handle other link s apart =
    ap (λ hs. link_of (lookup (nat_eq other) hs)) (handles_attached name role handle link s)
    ∙ ap link_of (found other handle (held_of name role link) s.handles ∙ ap (λ b. cond b (Some (held_of name role link)) (lookup (nat_eq other) s.handles)) apart)

free_at : (o : Option Held) (handle : ℕ) (s : State) → lookup (nat_eq handle) s.handles ≡ o → IsApart s → link_at handle (released_at o handle s) ≡ None
free_at None handle s e a = ap link_of e
free_at (Some held) handle s e a =
    let t : State = leaving handle s in
    ap (λ hs. link_of (lookup (nat_eq handle) hs)) (handles_named held.role (swap_remove_entry (bytes_eq held.name) (names held.role t)) t) ∙ ap link_of (left handle s.handles a).gone

pub free_again : (handle : ℕ) (s : State) → IsApart s → link_at handle (released handle s) ≡ None
free_again handle s a = free_at (lookup (nat_eq handle) s.handles) handle s refl a

others_at : (o : Option Held) (handle other : ℕ) (s : State) → IsApart s → nat_eq handle other ≡ false → link_at other (released_at o handle s) ≡ link_at other s
others_at None handle other s a apart = refl
others_at (Some held) handle other s a apart =
    let t : State = leaving handle s in
    ap (λ hs. link_of (lookup (nat_eq other) hs)) (handles_named held.role (swap_remove_entry (bytes_eq held.name) (names held.role t)) t) ∙ ap link_of ((left handle s.handles a).others other apart)

pub others_released : (handle other : ℕ) (s : State) → IsApart s → nat_eq handle other ≡ false → link_at other (released handle s) ≡ link_at other s
others_released handle other s a apart = others_at (lookup (nat_eq handle) s.handles) handle other s a apart
