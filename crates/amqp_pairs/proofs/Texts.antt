-- The values of SCRAM's texts, and what they say of what they were made of.
use Rattle.std.proofs.Common.{◌≡◌, ◌≢◌, ℕ, zero, suc, ◌+◌, ◌<◌, ◌/◌, ◌%◌, ◌*◌, inl, inr, List, [], ◌∷◌, ◌++◌, length, get_or, replicate, Ok, refl, ap, sym, ◌∙◌, subst, arith, rules, decimal}
use Rattle.std.proofs.lemmas.Bool.{cases_lt}
use Rattle.std.proofs.lemmas.List.{get_or_past}
use Rattle.std.proofs.lemmas.Fmt.{decimal_is_IsNumeral, decimal_injective}
use Rattle.std.specs.Str.Parse.{AllDigits}
use Rattle.base64.specs.Engines.{standard}
use Rattle.base64.specs.GeneralPurpose.{IsBytes, IsConsistent, encode_of, decode_of}
use Rattle.base64.specs.Rfc4648.{encode_symbols, padding_len}
use Rattle.base64.proofs.EngineFacts.{decode_of-encode_of}
use Rattle.base64.proofs.Tables.{are_tables_inverse, decode-encode_table}
use Rattle.sasl_scram.specs.Profile.{IsNonce, IsAllowedCount}
use Rattle.sasl_scram.specs.Texts.{escape_of, escaped_of, IsValue}
use Rattle.sasl_scram.proofs.Attributes.{later_bytes}
use Rattle.sasl_scram.proofs.Escapes.{comma, equals, plain, escape, escaped_of-nil, escaped_of-cons, escape_once, no_byte}
use Rattle.sasl_scram.proofs.Readers.{nil_value, cons_value}

-- ---- values

pub nonce_value : (nonce : List ℕ) → IsNonce nonce → IsValue nonce
nonce_value nonce n = λ k d h. (n.1 k d h).2

pub append_value : (xs ys : List ℕ) → IsValue xs → IsValue ys → IsValue (xs ++ ys)
append_value [] ys p q = q
append_value (x ∷ xs) ys p q = cons_value x (xs ++ ys) (p 0 0 (grind arith)) (append_value xs ys (later_bytes x xs p) q)

not_comma : (x : ℕ) → 44 < x → x ≢ 44
not_comma x h e = omega arith

three_value : (a b c : ℕ) → 44 < a → 44 < b → 44 < c → IsValue (a ∷ b ∷ c ∷ [])
three_value a b c p q r = cons_value a (b ∷ c ∷ []) (not_comma a p) (cons_value b (c ∷ []) (not_comma b q) (cons_value c [] (not_comma c r) nil_value))

escape_value : (x : ℕ) → IsValue (escape_of x)
escape_value x = elim (escape x) as (λ _. IsValue (escape_of x)) [
  | comma p m ↦ subst (λ (t : List ℕ). IsValue t) (sym m) (three_value 61 50 67 (omega arith) (omega arith) (omega arith))
  | equals p m ↦ subst (λ (t : List ℕ). IsValue t) (sym m) (three_value 61 51 68 (omega arith) (omega arith) (omega arith))
  | plain p q m ↦ subst (λ (t : List ℕ). IsValue t) (sym m) (cons_value x [] p nil_value)
]

-- a written name has no comma
pub escaped_value : (user : List ℕ) → IsValue (escaped_of user)
escaped_value [] = subst (λ (t : List ℕ). IsValue t) (sym escaped_of-nil) nil_value
escaped_value (x ∷ xs) = subst (λ (t : List ℕ). IsValue t) (sym (escaped_of-cons x xs)) (append_value (escape_of x) (escaped_of xs) (escape_value x) (escaped_value xs))

-- ---- a name is that of one user

not_fifty : ◌≡◌ {A = ℕ} 50 51 → ⊥
not_fifty e = absurd (omega arith)

-- the byte that is written first
first_once : (b x : ℕ) (r s : List ℕ) → escape_of b ++ r ≡ escape_of x ++ s → b ≡ x
first_once b x r s e = elim (escape b) as (λ _. b ≡ x) [
  | comma p m ↦ elim (escape x) as (λ _. b ≡ x) [
    | comma q n ↦ p ∙ sym q
    | equals q n ↦ absurd (not_fifty (ap (λ zs. get_or zs 1 0) (sym (ap (λ zs. zs ++ r) m) ∙ (e ∙ ap (λ zs. zs ++ s) n))))
    | plain q o n ↦ absurd (o (sym (ap (λ zs. get_or zs 0 0) (sym (ap (λ zs. zs ++ r) m) ∙ (e ∙ ap (λ zs. zs ++ s) n)))))
  ]
  | equals p m ↦ elim (escape x) as (λ _. b ≡ x) [
    | comma q n ↦ absurd (not_fifty (sym (ap (λ zs. get_or zs 1 0) (sym (ap (λ zs. zs ++ r) m) ∙ (e ∙ ap (λ zs. zs ++ s) n)))))
    | equals q n ↦ p ∙ sym q
    | plain q o n ↦ absurd (o (sym (ap (λ zs. get_or zs 0 0) (sym (ap (λ zs. zs ++ r) m) ∙ (e ∙ ap (λ zs. zs ++ s) n)))))
  ]
  | plain p l m ↦ elim (escape x) as (λ _. b ≡ x) [
    | comma q n ↦ absurd (l (ap (λ zs. get_or zs 0 0) (sym (ap (λ zs. zs ++ r) m) ∙ (e ∙ ap (λ zs. zs ++ s) n))))
    | equals q n ↦ absurd (l (ap (λ zs. get_or zs 0 0) (sym (ap (λ zs. zs ++ r) m) ∙ (e ∙ ap (λ zs. zs ++ s) n))))
    | plain q o n ↦ ap (λ zs. get_or zs 0 0) (sym (ap (λ zs. zs ++ r) m) ∙ (e ∙ ap (λ zs. zs ++ s) n))
  ]
]

pub escaped_once : (xs ys : List ℕ) → escaped_of xs ≡ escaped_of ys → xs ≡ ys
escaped_once [] [] e = refl
escaped_once [] (y ∷ ys) e = absurd (no_byte y (escaped_of ys) (sym escaped_of-nil ∙ (e ∙ escaped_of-cons y ys)))
escaped_once (x ∷ xs) [] e = absurd (no_byte x (escaped_of xs) (sym escaped_of-nil ∙ (sym e ∙ escaped_of-cons x xs)))
escaped_once (x ∷ xs) (y ∷ ys) e =
    let both : escape_of x ++ escaped_of xs ≡ escape_of y ++ escaped_of ys = sym (escaped_of-cons x xs) ∙ (e ∙ escaped_of-cons y ys) in
    let first : x ≡ y = first_once x y (escaped_of xs) (escaped_of ys) both in
    let rest : xs ≡ ys = escaped_once xs ys (escape_once x y (escaped_of xs) (escaped_of ys) both) in
    cc

-- ---- base64

comma_decodes : get_or standard.decode_table 44 0 ≡ 255
comma_decodes = refl

symbol_value : (i : ℕ) → get_or standard.encode_table i 0 ≢ 44
symbol_value i e = elim (cases_lt i 64) [
  | inl low ↦
      let back : get_or standard.decode_table (get_or standard.encode_table i 0) 0 ≡ i = decode-encode_table standard.encode_table standard.decode_table (are_tables_inverse standard.encode_table standard.decode_table 61 standard.tables) i low in
      let at : get_or standard.decode_table (get_or standard.encode_table i 0) 0 ≡ 255 = ap (λ (k : ℕ). get_or standard.decode_table k 0) e ∙ comma_decodes in
      let same : i ≡ 255 = sym back ∙ at in
      omega arith
  | inr high ↦
      let past : get_or standard.encode_table i 0 ≡ 0 = get_or_past standard.encode_table i 0 high in
      let none : ◌≡◌ {A = ℕ} 0 44 = sym past ∙ e in
      omega (arith, none)
]

abbrev symbol : ℕ → ℕ
symbol i = get_or standard.encode_table i 0

one_more : (i : ℕ) (xs : List ℕ) → IsValue xs → IsValue (symbol i ∷ xs)
one_more i xs v = cons_value (symbol i) xs (symbol_value i) v

two_more : (i j : ℕ) (xs : List ℕ) → IsValue xs → IsValue (symbol i ∷ symbol j ∷ xs)
two_more i j xs v = one_more i (symbol j ∷ xs) (one_more j xs v)

symbols_value : (m : List ℕ) → IsValue (encode_symbols standard.encode_table m)
unfolding encode_symbols
symbols_value [] = nil_value
symbols_value (a ∷ []) = two_more (a / 4) (a % 4 * 16) [] nil_value
symbols_value (a ∷ b ∷ []) = two_more (a / 4) (a % 4 * 16 + b / 16) (symbol (b % 16 * 4) ∷ []) (one_more (b % 16 * 4) [] nil_value)
symbols_value (a ∷ b ∷ c ∷ rest) =
    two_more (a / 4) (a % 4 * 16 + b / 16) (symbol (b % 16 * 4 + c / 64) ∷ symbol (c % 64) ∷ encode_symbols standard.encode_table rest)
    (two_more (b % 16 * 4 + c / 64) (c % 64) (encode_symbols standard.encode_table rest) (symbols_value rest))

padding_value : (n : ℕ) → IsValue (replicate n 61)
padding_value zero = nil_value
padding_value (suc n) = cons_value 61 (replicate n 61) (not_comma 61 (omega arith)) (padding_value n)

-- base64 has no comma
pub encoded_value : (m : List ℕ) → IsValue (encode_of standard m)
encoded_value m = append_value (encode_symbols standard.encode_table m) (replicate (padding_len (length m)) 61) (symbols_value m) (padding_value (padding_len (length m)))

consistent : IsConsistent standard
consistent = search rules

-- base64 is that of one list of bytes
pub encoded_once : (a b : List ℕ) → IsBytes a → IsBytes b → encode_of standard a ≡ encode_of standard b → a ≡ b
encoded_once a b p q e =
    let same : Ok a ≡ Ok b = sym (decode_of-encode_of standard a consistent p) ∙ (ap (decode_of standard) e ∙ decode_of-encode_of standard b consistent q) in
    cc

-- ---- counts

digits_value : (ds : List ℕ) → AllDigits 10 ds → IsValue ds
digits_value [] h = nil_value
digits_value (c ∷ cs) h = cons_value c cs (λ e. digit_not c e h.0) (digits_value cs h.1)
  where
    digit_not : (c : ℕ) → c ≡ 44 → Rattle.std.specs.Char.digit_value c < 10 → ⊥
    digit_not c e d = let at : Rattle.std.specs.Char.digit_value 44 < 10 = subst (λ (k : ℕ). Rattle.std.specs.Char.digit_value k < 10) e d in omega (arith, at)

pub decimal_value : (n : ℕ) → IsAllowedCount n → IsValue (decimal n)
decimal_value n h = digits_value (decimal n) (decimal_is_IsNumeral n (omega (arith, h.1))).0.1

pub decimal_once : (m n : ℕ) → IsAllowedCount m → IsAllowedCount n → decimal m ≡ decimal n → m ≡ n
decimal_once m n p q e = decimal_injective m n (omega (arith, p.1)) (omega (arith, q.1)) e
