-- What is shown, a step at a time.
use Rattle.std.proofs.Common.{◌≡◌, ◌+◌, ℕ, List, [], ◌∷◌, ◌++◌, Option, Some, sym, ap, subst, ◌∙◌, append_assoc}
use Rattle.amqp_show.specs.declared.voice.Side.TheVariants.{Client, Listener}
use Rattle.amqp_show.specs.Voice.{cut_text}
use Rattle.amqp_show.specs.Show.{side_in, step_text, StepTells, Shows, no_step, one_step}

-- one step more
pub step_more : (step : ℕ) (client listener client' listener' : Option (List ℕ)) (line told before between after : List ℕ) (lines left script trace rest all : List (List ℕ)) → lines ≡ line ∷ left → StepTells (side_in line) step client listener trace told client' listener' rest → between ≡ before ++ step_text step line → after ≡ between ++ told → ((text : List ℕ) → Shows step client listener lines trace text → Shows 0 (Some []) (Some []) script all (before ++ text)) → (text : List ℕ) → Shows (step + 1) client' listener' left rest text → Shows 0 (Some []) (Some []) script all (after ++ text)
step_more step client listener client' listener' line told before between after lines left script trace rest all first tells head added far text more =
    let here = one_step step client listener client' listener' line told text left trace rest tells more in
    let joined : before ++ (step_text step line ++ told ++ text) ≡ after ++ text =
    sym (append_assoc before (step_text step line ++ told) text)
    ∙ ap (λ (z : List ℕ). z ++ text) (sym (append_assoc before (step_text step line) told) ∙ ap (λ (z : List ℕ). z ++ told) (sym head) ∙ sym added) in
    subst (λ (z : List ℕ). Shows 0 (Some []) (Some []) script all z) joined (far _ (subst (λ (z : List (List ℕ)). Shows step client listener z trace (step_text step line ++ told ++ text)) (sym first) here))

-- no step more
pub step_last : (step : ℕ) (client listener : Option (List ℕ)) (before after : List ℕ) (lines script trace all : List (List ℕ)) → lines ≡ [] → after ≡ before ++ cut_text Client client ++ cut_text Listener listener → ((text : List ℕ) → Shows step client listener lines trace text → Shows 0 (Some []) (Some []) script all (before ++ text)) → Shows 0 (Some []) (Some []) script all after
step_last step client listener before after lines script trace all none added far =
    subst (λ (z : List ℕ). Shows 0 (Some []) (Some []) script all z) (sym (append_assoc before (cut_text Client client) (cut_text Listener listener)) ∙ sym added) (far _ (subst (λ (z : List (List ℕ)). Shows step client listener z trace (cut_text Client client ++ cut_text Listener listener)) (sym none) (no_step step client listener trace)))
