-- The parts of bodies, and of lists of them.
use Rattle.std.proofs.Common.{◌≡◌, ◌⊎◌, inl, inr, ℕ, List, [], ◌∷◌, ◌++◌, Option, Some, None, refl, ap, sym, ◌∙◌, append-nil}
use Rattle.amqp_sasl_bodies.specs.declared.sasl_body.SaslBody.{SaslBody}
use Rattle.amqp_sasl_bodies.specs.declared.sasl_body.SaslBody.TheVariants.{Mechanisms, Init, Challenge, Response, Outcome}
use Rattle.amqp_sasl_bodies.specs.declared.sasl_code.SaslCode.{SaslCode}
use Rattle.amqp_sasl_bodies.specs.declared.sasl_code.SaslCode.TheVariants as sasl
use Rattle.sasl_exchange.specs.ScramBodies.{challenge_body, init_body, mechanisms_body, outcome_body, response_body}

-- ---- parts of a body

abbrev pub or_nothing : Option (List ℕ) → List ℕ
or_nothing None = []
or_nothing (Some text) = text

-- the text of SCRAM in a body
abbrev pub text_in : SaslBody → List ℕ
text_in (Mechanisms m) = []
text_in (Init i) = or_nothing i.initial_response
text_in (Challenge c) = c.challenge
text_in (Response r) = r.response
text_in (Outcome o) = or_nothing o.additional_data

-- the optional one
abbrev pub payload_in : SaslBody → Option (List ℕ)
payload_in (Mechanisms m) = None
payload_in (Init i) = i.initial_response
payload_in (Challenge c) = None
payload_in (Response r) = None
payload_in (Outcome o) = o.additional_data

abbrev pub mechanism_in : SaslBody → List ℕ
mechanism_in (Mechanisms m) = []
mechanism_in (Init i) = i.mechanism
mechanism_in (Challenge c) = []
mechanism_in (Response r) = []
mechanism_in (Outcome o) = []

abbrev pub names_in : SaslBody → List (List ℕ)
names_in (Mechanisms m) = m.sasl_server_mechanisms
names_in (Init i) = []
names_in (Challenge c) = []
names_in (Response r) = []
names_in (Outcome o) = []

abbrev pub code_in : SaslBody → SaslCode
code_in (Mechanisms m) = sasl.Ok
code_in (Init i) = sasl.Ok
code_in (Challenge c) = sasl.Ok
code_in (Response r) = sasl.Ok
code_in (Outcome o) = o.code

-- which of the five it is
pub data Kind : Type 0 where
  list : Kind
  init : Kind
  challenge : Kind
  response : Kind
  outcome : Kind

abbrev pub kind_in : SaslBody → Kind
kind_in (Mechanisms m) = list
kind_in (Init i) = init
kind_in (Challenge c) = challenge
kind_in (Response r) = response
kind_in (Outcome o) = outcome

pub list_not_challenge : (names : List (List ℕ)) (text : List ℕ) → mechanisms_body names ≡ challenge_body text → ⊥
list_not_challenge names text e = let k : list ≡ challenge = ap kind_in e in cc

pub list_not_outcome : (names : List (List ℕ)) (code : SaslCode) (payload : Option (List ℕ)) → mechanisms_body names ≡ outcome_body code payload → ⊥
list_not_outcome names code payload e = let k : list ≡ outcome = ap kind_in e in cc

pub challenge_not_outcome : (text : List ℕ) (code : SaslCode) (payload : Option (List ℕ)) → challenge_body text ≡ outcome_body code payload → ⊥
challenge_not_outcome text code payload e = let k : challenge ≡ outcome = ap kind_in e in cc

pub init_not_response : (name : List ℕ) (first hostname : Option (List ℕ)) (text : List ℕ) → init_body name first hostname ≡ response_body text → ⊥
init_not_response name first hostname text e = let k : init ≡ response = ap kind_in e in cc

pub told_not_none : (code other : SaslCode) (text : List ℕ) → outcome_body code (Some text) ≡ outcome_body other None → ⊥
told_not_none code other text e = let k : Some text ≡ None = ap payload_in e in cc

-- ---- lists of bodies

-- the third of these bodies is no challenge
abbrev pub OneChallenge : List SaslBody → Type 0
OneChallenge bodies = (a b : SaslBody) (text : List ℕ) (more : List SaslBody) → bodies ≡ a ∷ b ∷ challenge_body text ∷ more → ⊥

-- where a body stands in a list
pub in_none : (before more : List SaslBody) (body : SaslBody) → before ++ body ∷ more ≡ [] → ⊥
in_none [] more body e = cc
in_none (b ∷ bs) more body e = cc

pub in_some : (before more : List SaslBody) (body a : SaslBody) (rest : List SaslBody) → before ++ body ∷ more ≡ a ∷ rest
    → ((before ≡ []) × (body ≡ a) × (more ≡ rest)) ⊎ ((tail : List SaslBody) × (before ≡ a ∷ tail) × (tail ++ body ∷ more ≡ rest))
in_some [] more body a rest e =
    let head : body ≡ a = cc in
    let tail : more ≡ rest = cc in
    inl (refl, head, tail)
in_some (b ∷ bs) more body a rest e =
    let head : b ≡ a = cc in
    let tail : bs ++ body ∷ more ≡ rest = cc in
    inr (bs, ap (λ (c : SaslBody). c ∷ bs) head, tail)

-- the last body of a list
pub last_once : (xs ys : List SaslBody) (x y : SaslBody) → xs ++ x ∷ [] ≡ ys ++ y ∷ [] → (xs ≡ ys) × (x ≡ y)
last_once [] [] x y e = (refl, cc)
last_once [] (b ∷ ys) x y e =
    let none : ys ++ y ∷ [] ≡ [] = cc in
    absurd (in_none ys [] y none)
last_once (a ∷ xs) [] x y e =
    let none : xs ++ x ∷ [] ≡ [] = cc in
    absurd (in_none xs [] x none)
last_once (a ∷ xs) (b ∷ ys) x y e =
    let tail : xs ++ x ∷ [] ≡ ys ++ y ∷ [] = cc in
    let both = last_once xs ys x y tail in
    let first : a ≡ b = cc in
    let rest : xs ≡ ys = both.0 in
    (cc, both.1)

-- the whole of a list of one, two or three bodies, by its last
pub last_of_one : (before : List SaslBody) (body a : SaslBody) → before ++ body ∷ [] ≡ a ∷ [] → (before ≡ []) × (body ≡ a)
last_of_one before body a e = last_once before [] body a e

pub last_of_two : (before : List SaslBody) (body a b : SaslBody) → before ++ body ∷ [] ≡ a ∷ b ∷ [] → (before ≡ a ∷ []) × (body ≡ b)
last_of_two before body a b e = last_once before (a ∷ []) body b e

pub last_of_three : (before : List SaslBody) (body a b c : SaslBody) → before ++ body ∷ [] ≡ a ∷ b ∷ c ∷ [] → (before ≡ a ∷ b ∷ []) × (body ≡ c)
last_of_three before body a b c e = last_once before (a ∷ b ∷ []) body c e

-- ---- bodies in flight

-- the last body in flight, where it was not taken
pub last_in_flight : (given flight before : List SaslBody) (o : SaslBody) → ((front more : List SaslBody) → front ++ o ∷ more ≡ given → ⊥) → given ++ flight ≡ before ++ o ∷ []
    → (front : List SaslBody) × (flight ≡ front ++ o ∷ [])
last_in_flight [] flight before o none e = (before, e)
last_in_flight (g ∷ gs) flight [] o none e =
    let head : o ≡ g = cc in
    absurd (none [] gs (ap (λ (u : SaslBody). u ∷ gs) head))
last_in_flight (g ∷ gs) flight (b ∷ bs) o none e =
    let tail : gs ++ flight ≡ bs ++ o ∷ [] = cc in
    last_in_flight gs flight bs o (λ front more f. none (g ∷ front) more (ap (λ (u : List SaslBody). g ∷ u) f)) tail

-- where nothing is in flight, all was taken
pub none_in_flight : (given flight sent : List SaslBody) → given ++ flight ≡ sent → flight ≡ [] → given ≡ sent
none_in_flight given flight sent e none = sym (append-nil given) ∙ ap (λ (u : List SaslBody). given ++ u) (sym none) ∙ e
