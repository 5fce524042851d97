-- What an end says, a header or a frame at a time.
use Rattle.std.proofs.Common.{◌≡◌, ◌≤◌, ◌+◌, ℕ, List, [], ◌++◌, Bool, false, Option, length, drop, sym, ap, subst, ◌∙◌, append_assoc, append-nil, arith, inl, inr}
use Rattle.std.proofs.lemmas.List.{drop-drop, drop_all}
use Rattle.amqp_conversation.specs.declared.said.Reason.{Reason}
use Rattle.amqp_conversation.specs.declared.said.Reason.TheVariants as reason
use Rattle.amqp_conversation.specs.Said.{Says, IsBad}
use Rattle.amqp_show.specs.declared.voice.Side.{Side}
use Rattle.amqp_show.specs.Voice.{spoken_text, is_final, stop_text, left_by, Speaks, says, stops}

-- one more
pub said_more : (side : Side) (bytes before after said : List ℕ) (offset size : ℕ) → Says (drop offset bytes) size said → after ≡ before ++ spoken_text side said → ((text : List ℕ) (left : Option (List ℕ)) → Speaks side (drop offset bytes) text left → Speaks side bytes (before ++ text) left) → (text : List ℕ) (left : Option (List ℕ)) → Speaks side (drop (offset + size) bytes) text left → Speaks side bytes (after ++ text) left
said_more side bytes before after said offset size here added far text left more =
    let one = says side (drop offset bytes) said text left size here (subst (λ (z : List ℕ). Speaks side z text left) (sym (drop-drop size offset bytes)) more) in
    subst (λ (z : List ℕ). Speaks side bytes z left) (sym (append_assoc before (spoken_text side said) text) ∙ ap (λ (z : List ℕ). z ++ text) (sym added)) (far _ left one)

-- what is left is none
pub said_stop : (side : Side) (bytes before after : List ℕ) (offset end : ℕ) (over : Bool) (r : Reason) → ((text : List ℕ) (left : Option (List ℕ)) → Speaks side (drop offset bytes) text left → Speaks side bytes (before ++ text) left) → IsBad (drop offset bytes) r → after ≡ before ++ stop_text side r → end ≡ offset → over ≡ is_final r → Speaks side bytes after (left_by over (drop end bytes))
said_stop side bytes before after offset end over r far bad added here is =
    subst (λ (z : List ℕ). Speaks side bytes z (left_by over (drop end bytes))) (sym added) (rw (here, is) (far _ _ (stops side (drop offset bytes) r bad)))

-- no bytes are no whole one
nothing_is_cut : IsBad [] reason.CutShort
nothing_is_cut = inr ((λ letters. absurd (omega (arith, letters.there))), inl (omega arith))

-- nothing is left
pub said_all : (side : Side) (bytes before : List ℕ) (offset : ℕ) → ((text : List ℕ) (left : Option (List ℕ)) → Speaks side (drop offset bytes) text left → Speaks side bytes (before ++ text) left) → length bytes ≤ offset → Speaks side bytes before (left_by false (drop offset bytes))
said_all side bytes before offset far all =
    subst (λ (z : List ℕ). Speaks side bytes z (left_by false (drop offset bytes))) (append-nil before) (far [] _ (stops side (drop offset bytes) reason.CutShort (subst (λ (z : List ℕ). IsBad z reason.CutShort) (sym (drop_all offset bytes all)) nothing_is_cut)))
