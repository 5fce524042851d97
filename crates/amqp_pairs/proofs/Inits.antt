-- Which inits of a client pass a listener of the same mechanism.
use Rattle.std.proofs.Common.{◌≡◌, ◌≢◌, ◌⊎◌, ◌≤◌, inl, inr, ℕ, zero, suc, true, false, List, [], ◌∷◌, Option, Some, None, refl, ap, sym, ◌∙◌, subst, arith, All}
use Rattle.std.proofs.lemmas.List.Elements.{All-head, All-nil, All-tail}
use Rattle.std.proofs.lemmas.Str.{IsUtf8-from_ascii}
use Rattle.std.specs.Str.{IsAscii}
use Rattle.amqp_sasl_bodies.specs.declared.sasl_body.SaslBody.{SaslBody}
use Rattle.amqp_sasl_bodies.specs.declared.sasl_code.SaslCode.{SaslCode}
use Rattle.amqp_sasl_bodies.specs.declared.sasl_code.SaslCode.TheVariants as sasl
use Rattle.amqp_opening.specs.Authentication.{passwords_for}
use Rattle.sasl_exchange.specs.declared.init_server.InitCheck.{InitCheck}
use Rattle.sasl_exchange.specs.declared.init_server.InitCheck.TheVariants as init_check
use Rattle.sasl_exchange.specs.Credentials.{Credentials, anonymous, plain, scram, IsAllowedTexts}
use Rattle.sasl_exchange.specs.InitClient.{InitClientEnd, own_init}
use Rattle.sasl_exchange.specs.InitServer.{IsJudged, IsPassing, check_name}
use Rattle.sasl_exchange.specs.InitTexts.{HasNoZero, IsPlain, anonymous_name, plain_name, plain_of}
use Rattle.sasl_scram.specs.Profile.{IsAllowedUser}
use Rattle.sasl_exchange.specs.ScramBodies.{init_body}
use Rattle.sasl_scram.specs.States.{Account}
use Rattle.sasl_exchange.proofs.Plains.{plain_once}
use Rattle.amqp_pairs.specs.InitEnds.{HasOtherAccount, HasSameAccount, SaysIn}
use Rattle.amqp_pairs.proofs.Accounts.{found_password, own_password}
use Rattle.amqp_pairs.proofs.Bodies.{text_in}
use Rattle.amqp_pairs.proofs.Names.{anonymous_not_plain, same_or_other}

-- ---- a user of the profile

abbrev IsPrintable : ℕ → Type 0
IsPrintable b = (0x20 ≤ b) × (b ≤ 0x7e)

not_zero : (b : ℕ) → 0x20 ≤ b → b ≢ 0
not_zero b l e = omega (arith, l, e)

-- has no zero byte
no_zero : (text : List ℕ) → All IsPrintable text → HasNoZero text
no_zero text a = λ k d h. not_zero _ (a k d h).0

-- and is UTF-8
printable_ascii : (text : List ℕ) → All IsPrintable text → IsAscii text
printable_ascii [] a i = omega arith
printable_ascii (x ∷ xs) a zero = let h : x ≤ 0x7e = (All-head IsPrintable x xs a).1 in omega (arith, h)
printable_ascii (x ∷ xs) a (suc i) = printable_ascii xs (All-tail IsPrintable x xs a) i

-- ---- the message of PLAIN

plain_reads : (user password : List ℕ) → IsAllowedUser user → IsPlain (plain_of user password) user password
plain_reads user password u = record {
  identity = [];
  text_is = refl;
  identity_is = All-nil (λ (b : ℕ). b ≢ 0);
  user_is = no_zero user u.1;
}

module _ (user password : List ℕ) (hostname : Option (List ℕ)) (account : Account) (u : IsAllowedUser user) where
  abbrev said : SaslBody
  said = init_body plain_name (Some (plain_of user password)) hostname

  -- passes with the account's user and password
  pub plain_passes : (user ≡ account.user) × (password ≡ account.password) → IsPassing passwords_for (init_check.Plain account) said
  plain_passes same = record {
    text = plain_of user password;
    hostname = hostname;
    user = user;
    password = password;
    body_is = refl;
    text_is = plain_reads user password u;
    user_is = IsUtf8-from_ascii user (printable_ascii user u.1);
    password_is = own_password account user password same.0 same.1;
  }

  -- and with no other
  pub plain_passed : IsPassing passwords_for (init_check.Plain account) said → (user ≡ account.user) × (password ≡ account.password)
  plain_passed p =
      let texts : p.text ≡ plain_of user password = sym (ap text_in p.body_is) in
      let reads = subst (λ (t : List ℕ). IsPlain t p.user p.password) texts p.text_is in
      let same = plain_once (plain_of user password) user password p.user p.password (plain_reads user password u) reads in
      let own = found_password account p.user p.password p.password_is in
      (same.0 ∙ own.0, same.1 ∙ own.1)

pub anonymous_passes : (response hostname : Option (List ℕ)) → IsPassing passwords_for init_check.Anonymous (init_body anonymous_name response hostname)
anonymous_passes response hostname = record { response = response; hostname = hostname; body_is = refl }

-- ---- the init of a client

-- it passes, and the accounts are the same; or it does not, and they are others
abbrev pub Judgement : Credentials → InitClientEnd → InitCheck Account → Type 0
Judgement c x check =
    (IsPassing passwords_for check (own_init x) × HasSameAccount c check) ⊎ ((IsPassing passwords_for check (own_init x) → ⊥) × HasOtherAccount c check)

named : (x : InitClientEnd) (name : List ℕ) (response : Option (List ℕ)) → x.mechanism ≡ name → x.response ≡ response → init_body name response x.hostname ≡ own_init x
named x name response m r =
    ap (λ (t : Option (List ℕ)). init_body name t x.hostname) (sym r) ∙ ap (λ (n : List ℕ). init_body n x.response x.hostname) (sym m)

anonymous_judged : (x : InitClientEnd) → SaysIn anonymous x → Judgement anonymous x init_check.Anonymous
anonymous_judged x says = inl (subst (λ (b : SaslBody). IsPassing passwords_for init_check.Anonymous b) (named x anonymous_name None says.0 says.1) (anonymous_passes None x.hostname), tt)

plain_judged : (user password : List ℕ) (x : InitClientEnd) (account : Account) → SaysIn (plain user password) x → IsAllowedUser user → Judgement (plain user password) x (init_check.Plain account)
plain_judged user password x account says u =
    let is : init_body plain_name (Some (plain_of user password)) x.hostname ≡ own_init x = named x plain_name (Some (plain_of user password)) says.0 says.1 in
    let passed : IsPassing passwords_for (init_check.Plain account) (own_init x) → (user ≡ account.user) × (password ≡ account.password) =
    λ p. plain_passed user password x.hostname account u (subst (λ (b : SaslBody). IsPassing passwords_for (init_check.Plain account) b) (sym is) p) in
    elim (same_or_other user account.user) as (λ _. Judgement (plain user password) x (init_check.Plain account)) [
      | inl a ↦ elim (same_or_other password account.password) as (λ _. Judgement (plain user password) x (init_check.Plain account)) [
        | inl b ↦ inl (subst (λ (m : SaslBody). IsPassing passwords_for (init_check.Plain account) m) is (plain_passes user password x.hostname account u (a, b)), (a, b))
        | inr b ↦ inr (λ p. b (passed p).1, inr b)
      ]
      | inr a ↦ inr (λ p. a (passed p).0, inl a)
    ]

pub judgement : (c : Credentials) (x : InitClientEnd) (check : InitCheck Account) → SaysIn c x → IsAllowedTexts c → x.mechanism ≡ check_name check → Judgement c x check
judgement anonymous x init_check.Anonymous says texts same = anonymous_judged x says
judgement anonymous x (init_check.Plain account) says texts same = absurd (anonymous_not_plain (sym says.0 ∙ same))
judgement (plain user password) x init_check.Anonymous says texts same = absurd (anonymous_not_plain (sym same ∙ says.0))
judgement (plain user password) x (init_check.Plain account) says texts same = plain_judged user password x account says texts.0
judgement (scram hash user password nonce) x check says texts same = absurd says

-- no account is the same and another
pub init_apart : (c : Credentials) (check : InitCheck Account) → HasSameAccount c check → HasOtherAccount c check → ⊥
init_apart anonymous check same other = other
init_apart (plain user password) init_check.Anonymous same other = other
init_apart (plain user password) (init_check.Plain account) same (inl u) = u same.0
init_apart (plain user password) (init_check.Plain account) same (inr p) = p same.1
init_apart (scram hash user password nonce) check same other = other

module _ (c : Credentials) (x : InitClientEnd) (check : InitCheck Account) (says : SaysIn c x) (texts : IsAllowedTexts c) (same_name : x.mechanism ≡ check_name check) where
  -- it passes where the accounts are the same
  pub same_passes : HasSameAccount c check → IsPassing passwords_for check (own_init x)
  same_passes same = elim (judgement c x check says texts same_name) as (λ _. IsPassing passwords_for check (own_init x)) [
    | inl p ↦ p.0
    | inr n ↦ absurd (init_apart c check same n.1)
  ]

  other_where : (IsPassing passwords_for check (own_init x) → ⊥) → HasOtherAccount c check
  other_where not = elim (judgement c x check says texts same_name) as (λ _. HasOtherAccount c check) [
    | inl p ↦ absurd (not p.0)
    | inr n ↦ n.1
  ]

  -- it is refused with `Auth` alone, and where they are others
  pub refused_other : (code : SaslCode) → IsJudged passwords_for check (own_init x) code → code ≢ sasl.Ok → (code ≡ sasl.Auth) × HasOtherAccount c check
  refused_other sasl.Ok j not = absurd (not refl)
  refused_other sasl.Auth j not = (refl, other_where j.1)
  refused_other sasl.Sys j not = let both : true ≡ false = j in absurd (cc both)
  refused_other sasl.SysPerm j not = absurd j
  refused_other sasl.SysTemp j not = absurd j

  -- where they are the same it is answered by `Ok`
  pub same_code : HasSameAccount c check → (code : SaslCode) → IsJudged passwords_for check (own_init x) code → code ≡ sasl.Ok
  same_code same sasl.Ok j = refl
  same_code same sasl.Auth j = absurd (j.1 (same_passes same))
  same_code same sasl.Sys j = let both : true ≡ false = j in absurd (cc both)
  same_code same sasl.SysPerm j = absurd j
  same_code same sasl.SysTemp j = absurd j
