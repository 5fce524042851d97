-- Names between commas, as far as they were read.
use Rattle.std.proofs.Common.{◌≡◌, ◌∙◌, ◌-◌, ◌^◌, ◌==◌, List, ℕ, [], ◌∷◌, ◌++◌, Option, Some, None, Err, refl, ap, sym, append_assoc}
use Rattle.amqp_script.specs.declared.script.line_error.LineError.{LineError}
use Rattle.amqp_script.specs.declared.script.line_error.LineError.TheVariants.{Memory, Outside}
use Rattle.amqp_script.specs.Fields.{Says}
use Rattle.std.specs.List.{slice_split}
use Rattle.amqp_script.specs.Words.{split_once}
use Rattle.amqp_script.specs.Number.{number_in}
use Rattle.amqp_script.proofs.Pieces.{pieces_cut, pieces_whole}
use Rattle.amqp_link_script.specs.Disposals.{before, each_name_in, with_last}

-- names before those that follow
abbrev pub joined : List ℕ → Option (List ℕ) → Option (List ℕ)
joined front None = None
joined front (Some names) = Some (front ++ names)

joined_more : (front : List ℕ) (name : ℕ) (later : Option (List ℕ)) → joined (front ++ name ∷ []) later ≡ joined front (before (Some name) later)
joined_more front name None = refl
joined_more front name (Some names) = ap (λ (u : List ℕ). Some u) (append_assoc front (name ∷ []) names)

-- what was read, and what is left says
abbrev pub said_by : List ℕ → List ℕ → Option (List ℕ)
said_by names rest = joined names (each_name_in (slice_split (λ b. b == 44) rest))

said_cut : (names rest first after : List ℕ) → Some (first, after) ≡ split_once 44 rest → said_by names rest ≡ joined names (before (number_in (2 ^ 64 - 1) first) (each_name_in (slice_split (λ b. b == 44) after)))
said_cut names rest first after cut = ap (λ (u : List (List ℕ)). joined names (each_name_in u)) (pieces_cut 44 rest first after cut)

-- one name more
pub name_more : (names new rest first after : List ℕ) (name : ℕ) (said : Option (List ℕ)) → new ≡ names ++ name ∷ [] → Some (first, after) ≡ split_once 44 rest → number_in (2 ^ 64 - 1) first ≡ Some name → said_by names rest ≡ said → said_by new after ≡ said
name_more names new rest first after name said pushed cut read so_far =
    let later : Option (List ℕ) = each_name_in (slice_split (λ b. b == 44) after) in
    ap (λ (u : List ℕ). joined u later) pushed ∙ joined_more names name later
    ∙ ap (λ (o : Option ℕ). joined names (before o later)) (sym read) ∙ sym (said_cut names rest first after cut) ∙ so_far

-- what is no name
pub name_bad : (names rest first after : List ℕ) (said : Option (List ℕ)) → Some (first, after) ≡ split_once 44 rest → number_in (2 ^ 64 - 1) first ≡ None → said_by names rest ≡ said → said ≡ None
name_bad names rest first after said cut read so_far =
    sym so_far ∙ said_cut names rest first after cut
    ∙ ap (λ (o : Option ℕ). joined names (before o (each_name_in (slice_split (λ b. b == 44) after)))) read

said_last : (names rest : List ℕ) → None ≡ split_once 44 rest → said_by names rest ≡ joined names (before (number_in (2 ^ 64 - 1) rest) (Some []))
said_last names rest cut = ap (λ (u : List (List ℕ)). joined names (each_name_in u)) (pieces_whole 44 rest cut)

-- what is no name is read nowhere
pub says_bad : (names rest first after : List ℕ) (said : Option (List ℕ)) (e : LineError) → Some (first, after) ≡ split_once 44 rest → Says {A = ℕ} (number_in (2 ^ 64 - 1) first) (Err e) → said_by names rest ≡ said → Says said (Err e)
says_bad names rest first after said Outside cut none so_far = name_bad names rest first after said cut none so_far
says_bad names rest first after said (Memory a) cut none so_far = tt

last_is : (names : List ℕ) (name : Option ℕ) → joined names (before name (Some [])) ≡ with_last names name
last_is names None = refl
last_is names (Some name) = refl

-- the last name
pub says_last : (names rest : List ℕ) (said : Option (List ℕ)) → None ≡ split_once 44 rest → said_by names rest ≡ said → with_last names (number_in (2 ^ 64 - 1) rest) ≡ said
says_last names rest said cut so_far = sym (last_is names (number_in (2 ^ 64 - 1) rest)) ∙ sym (said_last names rest cut) ∙ so_far
