-- Texts in ASCII.
use Rattle.std.proofs.Common.{◌≡◌, ◌<◌, List, ℕ, true}
use Rattle.std.specs.List.{list_all, All}
use Rattle.std.proofs.lemmas.List.Sums.{AllPass-from_list_all}
use Rattle.std.proofs.lemmas.Bool.{ltb-true}
use Rattle.amqp_script.specs.Fields.{is_ascii}

-- each byte passes the test, so each is below 128
pub All-from_is_ascii : (text : List ℕ) → list_all is_ascii text ≡ true → All (λ b. b < 128) text
All-from_is_ascii text e = λ k d h. ltb-true _ _ (AllPass-from_list_all is_ascii text e k d h)
