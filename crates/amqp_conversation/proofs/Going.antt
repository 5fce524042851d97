-- A loop over the pieces of a stream.
use Rattle.std.proofs.Common.{◌≡◌, ◌≤◌, ◌+◌, ℕ, List, [], ◌++◌, length, drop, sym, ap, subst, ◌∙◌, append_assoc, append-nil, arith}
use Rattle.std.proofs.lemmas.List.{drop-drop, drop_all}
use Rattle.amqp_conversation.specs.Said.{Says}
use Rattle.amqp_conversation.specs.Shows.{line_text, Shows, none_more, one_more}

-- a piece more
pub piece_more : (bytes before after said : List ℕ) (offset size : ℕ) → Says (drop offset bytes) size said → after ≡ before ++ line_text offset size said → ((text : List ℕ) (end : ℕ) (rest : List ℕ) → Shows offset (drop offset bytes) text end rest → Shows 0 bytes (before ++ text) end rest) → (text : List ℕ) (end : ℕ) (rest : List ℕ) → Shows (offset + size) (drop (offset + size) bytes) text end rest → Shows 0 bytes (after ++ text) end rest
piece_more bytes before after said offset size says added shown text end rest more =
    let here = one_more offset size end (drop offset bytes) said text rest says (subst (λ (z : List ℕ). Shows (offset + size) z text end rest) (sym (drop-drop size offset bytes)) more) in
    subst (λ (z : List ℕ). Shows 0 bytes z end rest) (sym (append_assoc before (line_text offset size said) text) ∙ ap (λ (z : List ℕ). z ++ text) (sym added)) (shown _ end rest here)

-- no piece more
pub no_piece_more : (bytes before : List ℕ) (offset : ℕ) → ((text : List ℕ) (end : ℕ) (rest : List ℕ) → Shows offset (drop offset bytes) text end rest → Shows 0 bytes (before ++ text) end rest) → Shows 0 bytes before offset (drop offset bytes)
no_piece_more bytes before offset shown =
    subst (λ (z : List ℕ). Shows 0 bytes z offset (drop offset bytes)) (append-nil before) (shown [] offset (drop offset bytes) (none_more offset (drop offset bytes)))

-- all pieces
pub all_pieces : (bytes before : List ℕ) (offset : ℕ) → offset ≡ length bytes → Shows 0 bytes before offset (drop offset bytes) → Shows 0 bytes before (length bytes) []
all_pieces bytes before offset e h =
    subst (λ (z : List ℕ). Shows 0 bytes before (length bytes) z) (drop_all (length bytes) bytes (omega arith)) (subst (λ (n : ℕ). Shows 0 bytes before n (drop n bytes)) e h)
