-- The symbols of conditions: each is in ASCII, and the condition that is found has the symbol.
use Rattle.std.proofs.Common.{◌≡◌, ℕ, ◌<◌, Bool, true, false, cond, ltb, List, [], ◌∷◌, Option, Some, IfSome, find, refl, sym, ap, subst, ◌∙◌}
use Rattle.std.specs.List.{list_all, All}
use Rattle.std.specs.Str.{bytes_eq}
use Rattle.std.proofs.lemmas.Bool.{ltb-true}
use Rattle.std.proofs.lemmas.List.Sums.{AllPass-from_list_all}
use Rattle.std.proofs.lemmas.Slice.Eq.{bytes_eq-Decides}
use Rattle.amqp_codec.specs.declared.condition.Condition.{Condition}
use Rattle.amqp_codec.specs.declared.condition.Condition.TheVariants as c
use Rattle.amqp_codec.specs.Condition.{symbol_of, all_conditions, condition_named}

-- ---- ASCII

abbrev is_below : ℕ → Bool
is_below b = ltb b 128

all_below : (c : Condition) → list_all is_below (symbol_of c) ≡ true
all_below c.InternalError = refl
all_below c.NotFound = refl
all_below c.UnauthorizedAccess = refl
all_below c.DecodeError = refl
all_below c.ResourceLimitExceeded = refl
all_below c.NotAllowed = refl
all_below c.InvalidField = refl
all_below c.NotImplemented = refl
all_below c.ResourceLocked = refl
all_below c.PreconditionFailed = refl
all_below c.ResourceDeleted = refl
all_below c.IllegalState = refl
all_below c.FrameSizeTooSmall = refl
all_below c.ConnectionForced = refl
all_below c.FramingError = refl
all_below c.ConnectionRedirect = refl
all_below c.WindowViolation = refl
all_below c.ErrantLink = refl
all_below c.HandleInUse = refl
all_below c.UnattachedHandle = refl
all_below c.DetachForced = refl
all_below c.TransferLimitExceeded = refl
all_below c.MessageSizeExceeded = refl
all_below c.LinkRedirect = refl
all_below c.Stolen = refl

-- each byte of a symbol is below 128
pub ascii : (c : Condition) → All (λ b. b < 128) (symbol_of c)
ascii c = λ k d h. ltb-true _ _ (AllPass-from_list_all is_below (symbol_of c) (all_below c) k d h)

-- ---- the condition with a symbol

chosen : (name : List ℕ) (b : Bool) (c : Condition) (o : Option Condition) → (b ≡ true → symbol_of c ≡ name) → IfSome o (λ d. symbol_of d ≡ name)
    → IfSome (cond b (Some c) o) (λ d. symbol_of d ≡ name)
chosen name true c o is h = is refl
chosen name false c o is h = h

among : (name : List ℕ) (cs : List Condition) → IfSome (find (λ k. bytes_eq name (symbol_of k)) cs) (λ c. symbol_of c ≡ name)
among name [] = tt
among name (c ∷ cs) = chosen name (bytes_eq name (symbol_of c)) c _ (λ e. sym ((bytes_eq-Decides name (symbol_of c)).0 e)) (among name cs)

-- the condition that is found has the symbol
pub found_named : (name s : List ℕ) (r : Option Condition) → r ≡ condition_named s → s ≡ name → IfSome r (λ c. symbol_of c ≡ name)
found_named name s r is same =
    let P : Option Condition → Type 0 = λ o. IfSome o (λ c. symbol_of c ≡ name) in
    subst P (sym (is ∙ ap condition_named same)) (among name all_conditions)
