-- The mechanisms whose client says all in its init: their names, and the message of PLAIN.
use Rattle.std.specs.Prelude.{◌≡◌, ◌≢◌, ℕ, List, ◌∷◌, ◌++◌, All, codes}

-- RFC 4505, section 2
abbrev pub anonymous_name : List ℕ
anonymous_name = codes "ANONYMOUS"

-- RFC 4616, section 2
abbrev pub plain_name : List ℕ
plain_name = codes "PLAIN"

-- none of the bytes that stand between the parts of a message (RFC 4616, section 2, `UTF8NUL`)
abbrev pub HasNoZero : List ℕ → Type 0
HasNoZero text = All (λ b. b ≢ 0) text

-- what a client says: no authorization identity, its user, and its password (RFC 4616, section 2)
abbrev pub plain_of : List ℕ → List ℕ → List ℕ
plain_of user password = 0 ∷ user ++ 0 ∷ password

-- a message with this user and this password; the authorization identity before the first zero byte is read past
-- (RFC 4616, section 2)
pub record IsPlain (text user password : List ℕ) : Type 0 where
  pub identity : List ℕ
  pub text_is : text ≡ identity ++ 0 ∷ user ++ 0 ∷ password
  pub identity_is : HasNoZero identity
  pub user_is : HasNoZero user
