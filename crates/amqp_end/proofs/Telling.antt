-- The answers of all three are told together.
use Rattle.std.proofs.Common.{◌≡◌, ◌∙◌, ℕ, List, [], ◌∷◌, ◌++◌, Bool, ap, sym, subst, append_assoc}
use Rattle.std.specs.Prelude.{map, filter}
use Rattle.std.proofs.lemmas.List.Elements.{filter-append}
use Rattle.amqp_words.specs.declared.reply.NamedReply.{NamedReply as ConnectionReply}
use Rattle.amqp_sessions.specs.amqp_link_words.declared.link_reply.NamedLinkReply.{NamedLinkReply}
use Rattle.amqp_sessions.specs.amqp_calls.declared.reply.NamedReply.{NamedReply}
use Rattle.amqp_end.specs.Answers.{of_connection, of_link, together, AreOrdered, answers_to, answers_to_others, with_first}

pub ordered_together : (sessions fresh more all answers : List NamedReply) (connection c : List ConnectionReply) (links l : List NamedLinkReply) → fresh ≡ sessions → c ≡ connection → l ≡ links → more ≡ fresh ++ map of_connection c → all ≡ more ++ map of_link l → AreOrdered all answers
    → AreOrdered (together sessions connection links) answers
ordered_together sessions fresh more all answers connection c links l a b d m n o =
    subst (λ (u : List NamedReply). AreOrdered u answers)
    (n
    ∙ ap (λ (u : List NamedReply). u ++ map of_link l) (m ∙ ap (λ (u : List NamedReply). u ++ map of_connection c) a ∙ ap (λ (u : List ConnectionReply). sessions ++ map of_connection u) b)
    ∙ ap (λ (u : List NamedLinkReply). (sessions ++ map of_connection connection) ++ map of_link u) d) o

-- those that are chosen of some answers, and of one more
pub one_more : (p : NamedReply → Bool) (told next old xs : List NamedReply) (x : NamedReply) → told ≡ old ++ filter p xs → next ≡ told ++ filter p (x ∷ []) → next ≡ old ++ filter p (xs ++ x ∷ [])
one_more p told next old xs x a b =
    b
    ∙ ap (λ (u : List NamedReply). u ++ filter p (x ∷ [])) a
    ∙ append_assoc old (filter p xs) (filter p (x ∷ []))
    ∙ ap (λ (u : List NamedReply). old ++ u) (sym (filter-append p xs (x ∷ [])))

-- those to one call, then the others
pub told_first : (name : ℕ) (old mid new fresh others : List NamedReply) → mid ≡ old ++ answers_to name fresh → others ≡ answers_to_others name fresh → new ≡ mid ++ others → new ≡ old ++ with_first name fresh
told_first name old mid new fresh others a b d =
    d ∙ ap (λ (u : List NamedReply). u ++ others) a ∙ ap (λ (u : List NamedReply). (old ++ answers_to name fresh) ++ u) b ∙ append_assoc old (answers_to name fresh) (answers_to_others name fresh)
