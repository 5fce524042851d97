-- A text has its parts in one way.
use Rattle.std.proofs.Common.{◌≡◌, ◌≢◌, ℕ, zero, suc, ◌+◌, ◌<◌, ◌≤◌, inl, inr, List, [], ◌∷◌, ◌++◌, length, take, drop, get_or, drop-cons, take-append-drop, add-one, refl, ap, ◌∙◌, sym, arith, subst, append_assoc, codes, append-nil, Option}
use Rattle.std.specs.Prelude.{IsUtf8, All}
use Rattle.base64.specs.Rfc4648.{encode_symbols}
use Rattle.std.proofs.lemmas.Str.{IsUtf8-from_ascii}
use Rattle.base64.specs.Engines.{standard}
use Rattle.base64.specs.GeneralPurpose.{encode_of}
use Rattle.sasl_scram.specs.declared.error.ScramErrorKind.{ScramErrorKind}
use Rattle.sasl_scram.specs.declared.error.ScramErrorKind.TheVariants.{Memory, TextNotAllowed, Malformed, NonceMismatch, Iterations, Base64, Signature, UserUnknown, ProofMismatch}
use Rattle.sasl_scram.specs.declared.stored.StoredPassword.{StoredPassword}
use Rattle.sasl_scram.specs.Parts.{IsAttribute, IsNext, IsPair, IsClientFirstBare, IsClientFinalBare}
use Rattle.sasl_scram.specs.Profile.{IsNonce, IsAllowedUser}
use Rattle.sasl_scram.specs.Refusals.{IsNameRefusal, IsClientFirstRefusal}
use Rattle.sasl_scram.specs.Texts.{escaped_of, IsName, IsHeader, IsValue, IsExtensions, IsClientFirst, IsServerFirst, IsClientFinal, IsServerFinal}
use Rattle.sasl_scram.proofs.Attributes.{attribute_once, next_once, pair_once, later_bytes}
use Rattle.sasl_scram.proofs.Escapes.{escaped_of-nil, escaped_of-cons, no_byte}
use Rattle.sasl_scram.proofs.ExtensionLists.{tail_of}

nil_of : (xs : List ℕ) → length xs ≡ 0 → xs ≡ []
nil_of [] e = refl
nil_of (x ∷ xs) e = absurd (omega arith)

pub nil_value : IsValue []
nil_value k d h = absurd (omega (arith, h))

pub cons_value : (x : ℕ) (xs : List ℕ) → x ≢ 44 → IsValue xs → IsValue (x ∷ xs)
cons_value x xs n v zero d h = n
cons_value x xs n v (suc k) d h = v k d (grind arith)

value_of : (n : List ℕ) → IsNonce n → IsValue n
value_of n nonce = λ k d h. (nonce.1 k d h).2

split_long : (text b : List ℕ) (x y z : ℕ) → text ≡ x ∷ y ∷ z ∷ b → 3 ≤ length text
split_long text b x y z e = let same : length text ≡ suc (suc (suc (length b))) = ap length e in omega arith

-- ---- server final

server_final_attribute : (text s : List ℕ) (f : IsServerFinal text s) → IsAttribute 118 text s f.extensions
server_final_attribute text s f = record { text_is = f.text_is; value_is = f.signature_is; rest_is = tail_of f.extensions f.extensions_are }

pub no_server_final : (text : List ℕ) → ((v r : List ℕ) → IsAttribute 118 text v r → ⊥) → (s : List ℕ) → IsServerFinal text s → ⊥
no_server_final text missing s f = missing s f.extensions (server_final_attribute text s f)

pub other_server_final : (text v r : List ℕ) → IsAttribute 118 text v r → (IsExtensions r → ⊥) → (s : List ℕ) → IsServerFinal text s → ⊥
other_server_final text v r a none s f =
    let P : List ℕ → Type 0 = λ t. IsExtensions t in
    none (subst P (attribute_once 118 text s f.extensions v r (server_final_attribute text s f) a).1 f.extensions_are)

-- ---- server first

flat_server_first : (n s c x : List ℕ) → codes "r=" ++ n ++ codes ",s=" ++ s ++ codes ",i=" ++ c ++ x
    ≡ 114 ∷ 61 ∷ (n ++ (44 ∷ 115 ∷ 61 ∷ (s ++ (44 ∷ 105 ∷ 61 ∷ (c ++ x)))))
flat_server_first n s c x = simp append_assoc

server_first_pair : (text n s c : List ℕ) (f : IsServerFirst text n s c) → IsPair 114 115 text n s (44 ∷ 105 ∷ 61 ∷ (c ++ f.extensions))
server_first_pair text n s c f = record {
  text_is = f.text_is ∙ flat_server_first n s c f.extensions;
  value_is = value_of n f.nonce_is;
  other_is = f.salt_is;
  rest_is = refl;
}

server_first_next : (text n s c : List ℕ) (f : IsServerFirst text n s c) → IsNext 105 (44 ∷ 105 ∷ 61 ∷ (c ++ f.extensions)) c f.extensions
server_first_next text n s c f = record {
  after = 105 ∷ 61 ∷ (c ++ f.extensions);
  comma = refl;
  attribute = record { text_is = refl; value_is = f.count_is; rest_is = tail_of f.extensions f.extensions_are };
}

pub no_server_first : (text v w r : List ℕ) → IsPair 114 115 text v w r → ((c x : List ℕ) → IsNext 105 r c x → ⊥)
    → (n s c : List ℕ) → IsServerFirst text n s c → ⊥
no_server_first text v w r p missing n s c f =
    let same = pair_once 114 115 text n s _ v w r (server_first_pair text n s c f) p in
    let P : List ℕ → Type 0 = λ t. IsNext 105 t c f.extensions in
    missing c f.extensions (subst P same.2 (server_first_next text n s c f))

pub other_server_first : (text v w r u x : List ℕ) → IsPair 114 115 text v w r → IsNext 105 r u x → (IsNonce v → IsExtensions x → ⊥)
    → (n s c : List ℕ) → IsServerFirst text n s c → ⊥
other_server_first text v w r u x p q none n s c f =
    let same = pair_once 114 115 text n s _ v w r (server_first_pair text n s c f) p in
    let P : List ℕ → Type 0 = λ t. IsNext 105 t c f.extensions in
    let rest = next_once 105 r c f.extensions u x (subst P same.2 (server_first_next text n s c f)) q in
    let N : List ℕ → Type 0 = λ t. IsNonce t in
    let E : List ℕ → Type 0 = λ t. IsExtensions t in
    none (subst N same.0 f.nonce_is) (subst E rest.1 f.extensions_are)

-- ---- client first

flat_client_first : (n r x : List ℕ) → codes "n=" ++ n ++ codes ",r=" ++ r ++ x ≡ 110 ∷ 61 ∷ (n ++ (44 ∷ 114 ∷ 61 ∷ (r ++ x)))
flat_client_first n r x = simp append_assoc

client_first_bare : (text h b n r : List ℕ) → IsClientFirst text h b n r → IsClientFirstBare b n r
client_first_bare text h b n r f = record {
  extensions = f.extensions;
  pair_is = record {
    text_is = f.bare_is ∙ flat_client_first n r f.extensions;
    value_is = f.name_is;
    other_is = value_of r f.nonce_is;
    rest_is = tail_of f.extensions f.extensions_are;
  };
  nonce_is = f.nonce_is;
  extensions_are = f.extensions_are;
}

pub client_first_split : (text h b n r : List ℕ) → IsClientFirst text h b n r
    → (take 3 text ≡ h) × (drop 3 text ≡ b) × (3 ≤ length text) × (length h ≡ 3)
client_first_split text h b n r f = elim f.header_is as (λ _. (take 3 text ≡ h) × (drop 3 text ≡ b) × (3 ≤ length text) × (length h ≡ 3)) [
  | inl e ↦ let same : text ≡ codes "n,," ++ b = f.text_is ∙ ap (λ t. t ++ b) e in
      (ap (take 3) same ∙ sym e, ap (drop 3) same, split_long text b 110 44 44 same, ap length e)
  | inr e ↦ let same : text ≡ codes "y,," ++ b = f.text_is ∙ ap (λ t. t ++ b) e in
      (ap (take 3) same ∙ sym e, ap (drop 3) same, split_long text b 121 44 44 same, ap length e)
]

pub no_client_first : (text bare : List ℕ) → bare ≡ drop 3 text → ((n r : List ℕ) → IsClientFirstBare bare n r → ⊥)
    → (h b n r : List ℕ) → IsClientFirst text h b n r → ⊥
no_client_first text bare e missing h b n r f =
    let split = client_first_split text h b n r f in
    let P : List ℕ → Type 0 = λ t. IsClientFirstBare t n r in
    missing n r (subst P (sym split.1 ∙ sym e) (client_first_bare text h b n r f))

pub other_client_first_bare : (bare v w x : List ℕ) → IsPair 110 114 bare v w x → (IsNonce w → IsExtensions x → ⊥)
    → (n r : List ℕ) → IsClientFirstBare bare n r → ⊥
other_client_first_bare bare v w x p none n r f =
    let same = pair_once 110 114 bare n r f.extensions v w x f.pair_is p in
    let N : List ℕ → Type 0 = λ t. IsNonce t in
    let E : List ℕ → Type 0 = λ t. IsExtensions t in
    none (subst N same.1 f.nonce_is) (subst E same.2 f.extensions_are)

pub name_once : (text h b n r h' b' n' r' : List ℕ) → IsClientFirst text h b n r → IsClientFirst text h' b' n' r' → n ≡ n'
name_once text h b n r h' b' n' r' f f' =
    let one = client_first_split text h b n r f in
    let two = client_first_split text h' b' n' r' f' in
    let P : List ℕ → Type 0 = λ t. IsClientFirstBare t n' r' in
    let bare = client_first_bare text h b n r f in
    let bare' = subst P (sym two.1 ∙ one.1) (client_first_bare text h' b' n' r' f') in
    (pair_once 110 114 b n r bare.extensions n' r' bare'.extensions bare.pair_is bare'.pair_is).0

-- ---- client final

flat_client_final : (e r x : List ℕ) → codes "c=" ++ e ++ codes ",r=" ++ r ++ x ≡ 99 ∷ 61 ∷ (e ++ (44 ∷ 114 ∷ 61 ∷ (r ++ x)))
flat_client_final e r x = simp append_assoc

pub other_client_final_bare : (header bare v w x : List ℕ) → IsPair 99 114 bare v w x
    → (v ≡ encode_of standard header → IsNonce w → IsExtensions x → ⊥) → (r : List ℕ) → IsClientFinalBare header bare r → ⊥
other_client_final_bare header bare v w x p none r f =
    let same = pair_once 99 114 bare (encode_of standard header) r f.extensions v w x f.pair_is p in
    let N : List ℕ → Type 0 = λ t. IsNonce t in
    let E : List ℕ → Type 0 = λ t. IsExtensions t in
    none (sym same.0) (subst N same.1 f.nonce_is) (subst E same.2 f.extensions_are)

-- a value has no comma
pub value_splits_nowhere : (front last : List ℕ) → IsValue (front ++ (44 ∷ last)) → ⊥
value_splits_nowhere [] last v = v 0 0 (grind arith) refl
value_splits_nowhere (x ∷ xs) last v = value_splits_nowhere xs last (later_bytes x _ v)

pub more_value : (text : List ℕ) (i : ℕ) → i < length text → get_or text i 0 ≢ 44 → IsValue (drop (i + 1) text) → IsValue (drop i text)
more_value text i h n v =
    let e : drop i text ≡ get_or text i 0 ∷ drop (suc i) text = drop-cons text i 0 h in
    let P : List ℕ → Type 0 = λ t. IsValue t in
    subst P (sym e) (cons_value (get_or text i 0) (drop (suc i) text) n (rw add-one at v))

pub split_here : (text : List ℕ) (i : ℕ) → i < length text → get_or text i 0 ≡ 44 → text ≡ take i text ++ (44 ∷ drop (i + 1) text)
split_here text i h e =
    let one : drop i text ≡ get_or text i 0 ∷ drop (suc i) text = drop-cons text i 0 h in
    sym (take-append-drop i text) ∙ ap (λ t. take i text ++ t) (one ∙ rw (e, add-one) refl)

-- a text is split at its last comma in one way
last_once : (a b c d : List ℕ) → IsValue b → IsValue d → a ++ (44 ∷ b) ≡ c ++ (44 ∷ d) → (a ≡ c) × (b ≡ d)
last_once [] b [] d v w e = (refl, ap (drop 1) e)
last_once [] b (y ∷ ys) d v w e =
    let P : List ℕ → Type 0 = λ t. IsValue t in
    absurd (value_splits_nowhere ys d (subst P (ap (drop 1) e) v))
last_once (x ∷ xs) b [] d v w e =
    let P : List ℕ → Type 0 = λ t. IsValue t in
    absurd (value_splits_nowhere xs b (subst P (sym (ap (drop 1) e)) w))
last_once (x ∷ xs) b (y ∷ ys) d v w e =
    let rest = last_once xs b ys d v w (ap (drop 1) e) in
    let first : x ≡ y = ap (λ t. get_or t 0 0) e in
    let others : xs ≡ ys = rest.0 in
    (cc, rest.1)

client_final_split : (header text b r p : List ℕ) → IsClientFinal header text b r p → text ≡ b ++ (44 ∷ 112 ∷ 61 ∷ p)
client_final_split header text b r p f = f.text_is ∙ append_assoc b (codes ",p=") p

client_final_last : (header text b r p : List ℕ) → IsClientFinal header text b r p → IsValue (112 ∷ 61 ∷ p)
client_final_last header text b r p f =
    cons_value 112 (61 ∷ p) (λ e. absurd (omega (arith, e))) (cons_value 61 p (λ e. absurd (omega (arith, e))) f.proof_is)

client_final_bare : (header text b r p : List ℕ) → IsClientFinal header text b r p → IsValue (encode_of standard header) → IsClientFinalBare header b r
client_final_bare header text b r p f v = record {
  extensions = f.extensions;
  pair_is = record {
    text_is = f.bare_is ∙ flat_client_final (encode_of standard header) r f.extensions;
    value_is = v;
    other_is = value_of r f.nonce_is;
    rest_is = tail_of f.extensions f.extensions_are;
  };
  nonce_is = f.nonce_is;
  extensions_are = f.extensions_are;
}

pub no_client_final_split : (header text : List ℕ) → ((a b : List ℕ) → text ≡ a ++ (44 ∷ b) → ⊥)
    → (b r p : List ℕ) → IsClientFinal header text b r p → ⊥
no_client_final_split header text none b r p f = none b (112 ∷ 61 ∷ p) (client_final_split header text b r p f)

pub client_final_once : (header text front last b r p : List ℕ) → text ≡ front ++ (44 ∷ last) → IsValue last
    → IsClientFinal header text b r p → (front ≡ b) × (last ≡ 112 ∷ 61 ∷ p)
client_final_once header text front last b r p e v f =
    last_once front last b (112 ∷ 61 ∷ p) v (client_final_last header text b r p f) (sym e ∙ client_final_split header text b r p f)

pub no_client_final : (header text front last : List ℕ) → text ≡ front ++ (44 ∷ last) → IsValue last → IsValue (encode_of standard header)
    → ((r : List ℕ) → IsClientFinalBare header front r → ⊥) → (b r p : List ℕ) → IsClientFinal header text b r p → ⊥
no_client_final header text front last e v h missing b r p f =
    let P : List ℕ → Type 0 = λ t. IsClientFinalBare header t r in
    missing r (subst P (sym (client_final_once header text front last b r p e v f).0) (client_final_bare header text b r p f h))

pub client_final_found : (header text front last r p : List ℕ) → text ≡ front ++ (44 ∷ last) → last ≡ 112 ∷ 61 ∷ p → IsValue last
    → IsClientFinalBare header front r → IsClientFinal header text front r p
client_final_found header text front last r p e l v f =
    let V : List ℕ → Type 0 = λ t. IsValue t in
    record {
      extensions = f.extensions;
      bare_is = f.pair_is.text_is ∙ sym (flat_client_final (encode_of standard header) r f.extensions);
      text_is = e ∙ (ap (λ t. front ++ (44 ∷ t)) l ∙ sym (append_assoc front (codes ",p=") p));
      nonce_is = f.nonce_is;
      proof_is = later_bytes 61 p (later_bytes 112 (61 ∷ p) (subst V l v));
      extensions_are = f.extensions_are;
    }

encoded_none : encode_of standard (codes "n,,") ≡ codes "biws"
unfolding encode_symbols
encoded_none = refl

encoded_not_offered : encode_of standard (codes "y,,") ≡ codes "eSws"
unfolding encode_symbols
encoded_not_offered = refl

four_value : (a b c d : ℕ) → 44 < a → 44 < b → 44 < c → 44 < d → IsValue (a ∷ b ∷ c ∷ d ∷ [])
four_value a b c d p q r s =
    cons_value a (b ∷ c ∷ d ∷ []) (λ e. absurd (omega (arith, e))) (cons_value b (c ∷ d ∷ []) (λ e. absurd (omega (arith, e)))
    (cons_value c (d ∷ []) (λ e. absurd (omega (arith, e))) (cons_value d [] (λ e. absurd (omega (arith, e))) nil_value)))

pub header_value : (header : List ℕ) → IsHeader header → IsValue (encode_of standard header)
header_value header h =
    let P : List ℕ → Type 0 = λ t. IsValue t in
    elim h as (λ _. IsValue (encode_of standard header)) [
      | inl e ↦ subst P (sym (ap (λ t. encode_of standard t) e ∙ encoded_none)) (four_value 98 105 119 115 (omega arith) (omega arith) (omega arith) (omega arith))
      | inr e ↦ subst P (sym (ap (λ t. encode_of standard t) e ∙ encoded_not_offered)) (four_value 101 83 119 115 (omega arith) (omega arith) (omega arith) (omega arith))
    ]

-- the last attribute is the whole of what stands after the last comma
lone_attribute : (last v r : List ℕ) → IsAttribute 112 last v r → IsValue last → last ≡ 112 ∷ 61 ∷ v
lone_attribute last v [] a value = a.text_is ∙ ap (λ t. 112 ∷ 61 ∷ t) (append-nil v)
lone_attribute last v (x ∷ xs) a value =
    let P : List ℕ → Type 0 = λ t. IsValue t in
    let comma : x ≡ 44 = a.rest_is in
    let split : last ≡ (112 ∷ 61 ∷ v) ++ (44 ∷ xs) = a.text_is ∙ ap (λ y. 112 ∷ 61 ∷ (v ++ (y ∷ xs))) comma in
    absurd (value_splits_nowhere (112 ∷ 61 ∷ v) xs (subst P split value))

pub no_client_final_proof : (header text front last : List ℕ) → (text ≡ front ++ (44 ∷ last)) × IsValue last
    → ((v r : List ℕ) → IsAttribute 112 last v r → ⊥) → (b r p : List ℕ) → IsClientFinal header text b r p → ⊥
no_client_final_proof header text front last e missing b r p f =
    let same : last ≡ 112 ∷ 61 ∷ p = (client_final_once header text front last b r p e.0 e.1 f).1 in
    missing p [] (record { text_is = same ∙ ap (λ t. 112 ∷ 61 ∷ t) (sym (append-nil p)); value_is = f.proof_is; rest_is = tt })

pub client_final_read : (header text front last r p x : List ℕ) → (text ≡ front ++ (44 ∷ last)) × IsValue last
    → IsAttribute 112 last p x → IsClientFinalBare header front r → IsClientFinal header text front r p
client_final_read header text front last r p x e a f =
    client_final_found header text front last r p e.0 (lone_attribute last p x a e.1) e.1 f

-- ---- users

pub empty_name : (name user : List ℕ) → length name ≡ 0 → IsName name user → ⊥
empty_name name [] e n = omega (arith, n.0)
empty_name name (x ∷ xs) e n = no_byte x (escaped_of xs) (sym (nil_of name e) ∙ (n.1 ∙ escaped_of-cons x xs))

pub some_user : (name user : List ℕ) → 0 < length name → name ≡ escaped_of user → 0 < length user
some_user name [] some e = let none : length name ≡ 0 = ap length (e ∙ escaped_of-nil) in absurd (omega arith)
some_user name (x ∷ xs) some e = grind arith

below_128 : (user : List ℕ) → All (λ b. (0x20 ≤ b) × (b ≤ 0x7e)) user → (k : ℕ) → get_or user k 0 < 128
below_128 [] a zero = omega arith
below_128 [] a (suc k) = omega arith
below_128 (x ∷ xs) a zero = let small : x ≤ 0x7e = (a 0 0 (grind arith)).1 in omega arith
below_128 (x ∷ xs) a (suc k) = below_128 xs (λ i d h. a (suc i) d (grind arith)) k

pub IsUtf8-allowed : (user : List ℕ) → IsAllowedUser user → IsUtf8 user
IsUtf8-allowed user a = IsUtf8-from_ascii user (λ k. below_128 user a.1 k)

-- a name that gives no user, in a client first
pub name_refusal : (stored : List ℕ → Option StoredPassword) (text h b n r : List ℕ) (error : ScramErrorKind)
    → IsClientFirst text h b n r → IsNameRefusal n error → IsClientFirstRefusal stored text error
name_refusal stored text h b n r (Memory e) f x = tt
name_refusal stored text h b n r TextNotAllowed f x = (h, b, n, r, x.0, f, x.1, x.2)
name_refusal stored text h b n r Malformed f x = λ h' b' n' r' user f' name.
    let P : List ℕ → Type 0 = λ t. IsName t user in
    x user (subst P (sym (name_once text h b n r h' b' n' r' f f')) name)
name_refusal stored text h b n r NonceMismatch f x = x
name_refusal stored text h b n r Iterations f x = x
name_refusal stored text h b n r Base64 f x = x
name_refusal stored text h b n r Signature f x = x
name_refusal stored text h b n r UserUnknown f x = absurd x
name_refusal stored text h b n r ProofMismatch f x = x
