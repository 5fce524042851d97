-- What a listener with one user has stored, and its password.
use Rattle.std.proofs.Common.{◌≡◌, ◌≢◌, ℕ, Bool, true, false, List, Option, Some, None, if◌then◌else◌, refl, ap, sym, ◌∙◌, bytes_eq}
use Rattle.std.proofs.lemmas.Option.{same_Some}
use Rattle.std.proofs.lemmas.Slice.Eq.{bytes_eq-Decides}
use Rattle.amqp_opening.specs.Authentication.{passwords_for, stored_for}
use Rattle.sasl_scram.specs.declared.stored.StoredPassword.{StoredPassword}
use Rattle.sasl_scram.specs.States.{Account}

found_by : (b : Bool) (stored : Option StoredPassword) (keys : StoredPassword) → (if b then stored else None) ≡ Some keys → (b ≡ true) × (stored ≡ Some keys)
found_by true stored keys e = (refl, e)
found_by false stored keys e = cc

missing_by : (b : Bool) (stored : Option StoredPassword) (keys : StoredPassword) → stored ≡ Some keys → (if b then stored else None) ≡ None → b ≡ false
missing_by true stored keys is e = cc
missing_by false stored keys is e = refl

-- keys that are found are those of the account, whose user has this name
pub found : (account : Account) (name : List ℕ) (keys : StoredPassword) → stored_for account name ≡ Some keys → (account.user ≡ name) × (account.stored ≡ Some keys)
found account name keys e =
    let both = found_by (bytes_eq account.user name) account.stored keys e in
    ((bytes_eq-Decides account.user name).0 both.0, both.1)

-- a name without keys is not that of the account
pub missing : (account : Account) (name : List ℕ) (keys : StoredPassword) → account.stored ≡ Some keys → stored_for account name ≡ None → name ≢ account.user
missing account name keys is e same =
    let other : bytes_eq account.user name ≡ false = missing_by (bytes_eq account.user name) account.stored keys is e in
    let equal : bytes_eq account.user name ≡ true = (bytes_eq-Decides account.user name).1 (sym same) in
    let both : true ≡ false = sym equal ∙ other in
    cc

-- ---- its password

password_by : (b : Bool) (own password : List ℕ) → (if b then Some own else None) ≡ Some password → (b ≡ true) × (own ≡ password)
password_by true own password e = (refl, same_Some own password e)
password_by false own password e = absurd (cc e)

has_by : (b : Bool) (own : List ℕ) → b ≡ true → (if b then Some own else None) ≡ Some own
has_by true own e = refl
has_by false own e = absurd (cc e)

-- a password that is found is that of the account, whose user has this name
pub found_password : (account : Account) (name password : List ℕ) → passwords_for account name ≡ Some password → (name ≡ account.user) × (password ≡ account.password)
found_password account name password e =
    let both = password_by (bytes_eq account.user name) account.password password e in
    (sym ((bytes_eq-Decides account.user name).0 both.0), sym both.1)

-- the account's own is found
pub own_password : (account : Account) (name password : List ℕ) → name ≡ account.user → password ≡ account.password → passwords_for account name ≡ Some password
own_password account name password user same =
    has_by (bytes_eq account.user name) account.password ((bytes_eq-Decides account.user name).1 (sym user)) ∙ ap Some (sym same)
