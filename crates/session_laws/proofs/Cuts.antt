-- The first part of a delivery, and what goes on with it.
use Rattle.std.specs.Prelude.{◌≡◌, ℕ, Bool, true, false, nat_eq, List, [], ◌∷◌, ◌++◌, length, Option, Some, None, cond, drop, refl}
use Rattle.std.proofs.Common.{sym, ◌∙◌, ap, append-nil, append_assoc, subst}
use Rattle.std.proofs.lemmas.List.{take-append-drop}
use Rattle.std.proofs.lemmas.List.Elements.{filter-append}
use Rattle.amqp_performatives.specs.declared.transfer.Transfer.{Transfer}
use Rattle.amqp_parts.specs.declared.part.Part.{Part}
use Rattle.amqp_parts.specs.declared.splitting.Cut.{Cut}
use Rattle.amqp_parts.specs.Split.{continuation}
use Rattle.amqp_parts.specs.Cut.{cut_length, cut_at, cut_of}
use Rattle.session_laws.specs.Messages.{ArePartsOf, Carry, on}

-- these parts go on with a delivery of which that is left
abbrev pub Finish : Option Part → List Part → Type 0
Finish None own = own ≡ []
Finish (Some r) own = ArePartsOf r.transfer r.payload own

-- the first part, and what is left
pub record IsCut (x : Transfer) (payload : List ℕ) (c : Cut) : Type 0 where
  pub handle : c.first.transfer.handle ≡ x.handle
  pub rest : (r : Part) → c.rest ≡ Some r → r.transfer ≡ continuation x.handle
  pub parts : (own : List Part) → Finish c.rest own → ArePartsOf x payload (c.first ∷ own)

some_same : {X : Type 0} → (x y : X) → Some x ≡ Some y → x ≡ y
some_same x y h = cc

more_parts : (n : ℕ) (x : Transfer) (payload : List ℕ) (own : List Part) → Finish (cut_at (Some n) x payload).rest own → ArePartsOf x payload ((cut_at (Some n) x payload).first ∷ own)
more_parts n x payload [] h = absurd h
more_parts n x payload (q ∷ ps) h = (drop n payload, (refl, take-append-drop n payload, h))

cut_by : (o : Option ℕ) (x : Transfer) (payload : List ℕ) → IsCut x payload (cut_at o x payload)
cut_by None x payload = record {
  handle = refl;
  rest = λ r h. absurd cc;
  parts = λ own h. subst (λ ps. ArePartsOf x payload ((cut_at None x payload).first ∷ ps)) (sym h) refl;
}
cut_by (Some n) x payload = record {
  handle = refl;
  rest = λ r h. ap (λ (p : Part). p.transfer) (sym (some_same _ _ h));
  parts = λ own h. more_parts n x payload own h;
}

pub is_cut : (frame : ℕ) (x : Transfer) (payload : List ℕ) → IsCut x payload (cut_of frame x payload)
unfolding cut_of
is_cut frame x payload = cut_by (cut_length frame x (length payload)) x payload

-- the first part has the number and the tag of the delivery
pub record IsFirst (x : Transfer) (p : Part) : Type 0 where
  pub number : p.transfer.delivery_id ≡ x.delivery_id
  pub tag : p.transfer.delivery_tag ≡ x.delivery_tag

first_by : (o : Option ℕ) (x : Transfer) (payload : List ℕ) → IsFirst x (cut_at o x payload).first
first_by None x payload = record { number = refl; tag = refl }
first_by (Some n) x payload = record { number = refl; tag = refl }

pub is_first : (frame : ℕ) (x : Transfer) (payload : List ℕ) → IsFirst x (cut_of frame x payload).first
unfolding cut_of
is_first frame x payload = first_by (cut_length frame x (length payload)) x payload

-- ---- the Transfers of a link

by_own : (x : Part) (xs : List Part) (c : Bool) → c ≡ true → cond c (x ∷ xs) xs ≡ x ∷ xs
by_own x xs true h = refl
by_own x xs false h = absurd cc

by_other : (x : Part) (xs : List Part) (c : Bool) → c ≡ false → cond c (x ∷ xs) xs ≡ xs
by_other x xs true h = absurd cc
by_other x xs false h = refl

pub on_own : (handle : ℕ) (x : Part) (xs : List Part) → nat_eq x.transfer.handle handle ≡ true → on handle (x ∷ xs) ≡ x ∷ on handle xs
on_own handle x xs h = by_own x (on handle xs) (nat_eq x.transfer.handle handle) h

pub on_other : (handle : ℕ) (x : Part) (xs : List Part) → nat_eq x.transfer.handle handle ≡ false → on handle (x ∷ xs) ≡ on handle xs
on_other handle x xs h = by_other x (on handle xs) (nat_eq x.transfer.handle handle) h

pub on_push : (handle : ℕ) (xs ys : List Part) → on handle (xs ++ ys) ≡ on handle xs ++ on handle ys
on_push handle xs ys = filter-append (λ (x : Part). nat_eq x.transfer.handle handle) xs ys

-- ---- deliveries one after another

pub carry_push : (ds : List Part) (d : Part) (parts own : List Part) → Carry ds parts → ArePartsOf d.transfer d.payload own → Carry (ds ++ d ∷ []) (parts ++ own)
carry_push [] d parts own h k = (own, ([], (ap (λ ps. ps ++ own) h ∙ sym (append-nil own), k, refl)))
carry_push (e ∷ ds) d parts own h k =
    (h.0, (h.1.0 ++ own, (ap (λ ps. ps ++ own) h.1.1.0 ∙ append_assoc h.0 h.1.0 own, h.1.1.1, carry_push ds d h.1.0 own h.1.1.2 k)))
