-- What a text says, unit by unit, and its UTF-8.
use Rattle.std.proofs.Common.{◌≡◌, ◌-◌, ◌∙◌, List, ℕ, [], ◌∷◌, ◌++◌, Bool, true, false, Option, Some, None, IsUtf8, length, take, drop, refl, ap, sym, option_map, append_assoc}
use Rattle.std.specs.Str.{is_utf8}
use Rattle.std.proofs.lemmas.Str.{is_utf8-from_IsUtf8, IsUtf8-from_is_utf8}
use Rattle.std.proofs.lemmas.List.{take_rest}
use Rattle.amqp_script.specs.Escape.{onto, unescaped}
use Rattle.amqp_script.specs.Fields.{text_in}

-- bytes before those that follow
abbrev pub joined : List ℕ → Option (List ℕ) → Option (List ℕ)
joined front later = option_map (λ bytes. front ++ bytes) later

joined_more : (front : List ℕ) (b : ℕ) (later : Option (List ℕ)) → joined (front ++ b ∷ []) later ≡ joined front (onto (Some b) later)
joined_more front b None = refl
joined_more front b (Some bytes) = ap (λ (u : List ℕ). Some u) (append_assoc front (b ∷ []) bytes)

-- one byte more
pub units_more : (front new rest : List ℕ) (b size : ℕ) (said : Option (List ℕ)) → new ≡ front ++ b ∷ [] → unescaped rest ≡ onto (Some b) (unescaped (drop size rest)) → joined front (unescaped rest) ≡ said → joined new (unescaped (take (length rest - size) (drop size rest))) ≡ said
units_more front new rest b size said pushed unit before =
    rw (take_rest rest size, pushed) (joined_more front b (unescaped (drop size rest)) ∙ ap (λ (o : Option (List ℕ)). joined front o) (sym unit) ∙ before)

-- the bytes are UTF-8
pub text_some : (argument bytes : List ℕ) → unescaped argument ≡ Some bytes → IsUtf8 bytes → text_in argument ≡ Some bytes
text_some argument bytes said utf8 = let test : is_utf8 bytes ≡ true = is_utf8-from_IsUtf8 bytes utf8 in rw (said, test) refl

-- they are not
pub text_none : (argument bytes : List ℕ) → unescaped argument ≡ Some bytes → (IsUtf8 bytes → ⊥) → text_in argument ≡ None
text_none argument bytes said not_utf8 = at (is_utf8 bytes) refl
  where
    at : (b : Bool) → is_utf8 bytes ≡ b → text_in argument ≡ None
    at true h = absurd (not_utf8 (IsUtf8-from_is_utf8 bytes h))
    at false h = rw (said, h) refl
