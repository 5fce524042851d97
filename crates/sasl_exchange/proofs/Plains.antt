-- A PLAIN message is split at its first two zero bytes in one way.
use Rattle.std.proofs.Common.{◌≡◌, ◌≢◌, ℕ, suc, List, [], ◌∷◌, ◌++◌, refl, ◌∙◌, sym, arith, subst, append_assoc}
use Rattle.sasl_exchange.specs.InitTexts.{HasNoZero, IsPlain}

first_byte : (x : ℕ) (xs : List ℕ) → HasNoZero (x ∷ xs) → x ≢ 0
first_byte x xs all = all 0 0 (grind arith)

later_bytes : (x : ℕ) (xs : List ℕ) → HasNoZero (x ∷ xs) → HasNoZero xs
later_bytes x xs all = λ k d h. all (suc k) d (grind arith)

-- a text with no zero byte is not split at one
pub zero_nowhere : (front rest : List ℕ) → HasNoZero (front ++ (0 ∷ rest)) → ⊥
zero_nowhere [] rest all = first_byte 0 rest all refl
zero_nowhere (x ∷ xs) rest all = zero_nowhere xs rest (later_bytes x (xs ++ (0 ∷ rest)) all)

zero_once : (v r w s : List ℕ) → HasNoZero v → HasNoZero w → v ++ (0 ∷ r) ≡ w ++ (0 ∷ s) → (v ≡ w) × (r ≡ s)
zero_once [] r [] s a b e = (refl, cc)
zero_once [] r (y ∷ ys) s a b e = let same : 0 ≡ y = cc in absurd (first_byte y ys b (sym same))
zero_once (x ∷ xs) r [] s a b e = let same : x ≡ 0 = cc in absurd (first_byte x xs a same)
zero_once (x ∷ xs) r (y ∷ ys) s a b e =
    let same : x ≡ y = cc in
    let rest : xs ++ (0 ∷ r) ≡ ys ++ (0 ∷ s) = cc in
    let found = zero_once xs r ys s (later_bytes x xs a) (later_bytes y ys b) rest in
    let values : xs ≡ ys = found.0 in
    (cc, found.1)

-- a message without its last part
pub plain_front : (text user password : List ℕ) (p : IsPlain text user password) → text ≡ p.identity ++ (0 ∷ (user ++ (0 ∷ password)))
plain_front text user password p = p.text_is ∙ append_assoc p.identity (0 ∷ user) (0 ∷ password)

-- a text with no zero byte is no message
pub no_plain : (text : List ℕ) → HasNoZero text → (user password : List ℕ) → IsPlain text user password → ⊥
no_plain text none user password p =
    let P : List ℕ → Type 0 = λ t. HasNoZero t in
    zero_nowhere p.identity (user ++ (0 ∷ password)) (subst P (plain_front text user password p) none)

-- a message behind its first zero byte
pub plain_after : (front rest text user password : List ℕ) → text ≡ front ++ (0 ∷ rest) → HasNoZero front → IsPlain text user password
    → rest ≡ user ++ (0 ∷ password)
plain_after front rest text user password e none p =
    (zero_once front rest p.identity (user ++ (0 ∷ password)) none p.identity_is (sym e ∙ plain_front text user password p)).1

-- a text that is split twice
pub plain_made : (front rest user password text : List ℕ) → text ≡ front ++ (0 ∷ rest) → HasNoZero front → rest ≡ user ++ (0 ∷ password) → HasNoZero user
    → IsPlain text user password
plain_made front rest user password text e none f free = record {
  identity = front;
  text_is = subst (λ (r : List ℕ). text ≡ front ++ (0 ∷ r)) f e ∙ sym (append_assoc front (0 ∷ user) (0 ∷ password));
  identity_is = none;
  user_is = free;
}

-- a message has one user and one password
pub plain_once : (text user password other secret : List ℕ) → IsPlain text user password → IsPlain text other secret → (user ≡ other) × (password ≡ secret)
plain_once text user password other secret a b =
    zero_once user password other secret a.user_is b.user_is
    (plain_after a.identity (user ++ (0 ∷ password)) text other secret (plain_front text user password a) a.identity_is b)

-- no zero byte behind the first one
pub no_password : (front rest text : List ℕ) → text ≡ front ++ (0 ∷ rest) → HasNoZero front → HasNoZero rest → (user password : List ℕ) → IsPlain text user password → ⊥
no_password front rest text e none free user password p =
    let P : List ℕ → Type 0 = λ t. HasNoZero t in
    zero_nowhere user password (subst P (plain_after front rest text user password e none p) free)
