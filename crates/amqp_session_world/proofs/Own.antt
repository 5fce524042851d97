-- Answers of a connection among all.
use Rattle.std.specs.Prelude.{◌==◌, not, ◌&&◌, map}
use Rattle.std.specs.List.{cons_option}
use Rattle.std.specs.Ordering.{nat_cmp, is_lt}
use Rattle.std.proofs.Common.{◌≡◌, ◌⊎◌, inl, inr, ℕ, Bool, true, false, cond, List, [], ◌∷◌, ◌++◌, Option, None, refl, sym, ap, ◌∙◌, arith}
use Rattle.std.proofs.lemmas.Bool.{cases_eq}
use Rattle.std.proofs.lemmas.Bool.Decides.{nat_tests}
use Rattle.std.proofs.lemmas.List.{append-nil}
use Rattle.std.proofs.lemmas.List.Elements.{filter-append, filter_map-append, filter_agree, All-head, All-tail}
use Rattle.amqp_words.specs.declared.reply.NamedReply.{NamedReply as ConnectionReply}
use Rattle.amqp_link_words.specs.declared.link_reply.NamedLinkReply.{NamedLinkReply}
use Rattle.amqp_end.specs.amqp_calls.declared.reply.NamedReply.{NamedReply}
use Rattle.amqp_end.specs.amqp_calls.declared.reply.Reply.{Reply}
use Rattle.amqp_end.specs.amqp_calls.declared.reply.Reply.TheVariants.{Connection, Session, Link}
use Rattle.amqp_end.specs.amqp_calls.declared.reply.SessionReply.TheVariants.{Pending}
use Rattle.amqp_end.specs.Answers.{of_connection, of_link, together, AreOrdered, answers_to, answers_to_others, with_first}
use Rattle.amqp_session_world.specs.Answers.{IsOfSession, AreOfSessions, connection_part, of_connections, replies_to}
use Rattle.amqp_session_world.proofs.Kept.{filter_within, filter_apart, ties_nat}

pub of_connections-append : (xs ys : List NamedReply) → of_connections (xs ++ ys) ≡ of_connections xs ++ of_connections ys
of_connections-append xs ys = filter_map-append (λ (r : NamedReply). connection_part r.name r.reply) xs ys

pub replies_to-append : (name : ℕ) (xs ys : List ConnectionReply) → replies_to name (xs ++ ys) ≡ replies_to name xs ++ replies_to name ys
replies_to-append name xs ys = filter-append (λ (r : ConnectionReply). r.name == name) xs ys

-- ---- by their names

named_one : (name own : ℕ) (r : Reply) (xs : List NamedReply) (b : Bool) → (own == name) ≡ b → replies_to name (of_connections xs) ≡ of_connections (answers_to name xs)
    → replies_to name (cons_option (connection_part own r) (of_connections xs)) ≡ of_connections (cond b (record { name = own; reply = r } ∷ answers_to name xs) (answers_to name xs))
named_one name own (Connection r) xs true e k = ap (λ (u : Bool). cond u (record { name = own; reply = r } ∷ replies_to name (of_connections xs)) (replies_to name (of_connections xs))) e ∙ ap (λ (u : List ConnectionReply). record { name = own; reply = r } ∷ u) k
named_one name own (Connection r) xs false e k = ap (λ (u : Bool). cond u (record { name = own; reply = r } ∷ replies_to name (of_connections xs)) (replies_to name (of_connections xs))) e ∙ k
named_one name own (Session r) xs true e k = k
named_one name own (Session r) xs false e k = k
named_one name own (Link r) xs true e k = k
named_one name own (Link r) xs false e k = k

-- those of a connection to a call are those to it, of a connection
named_parts : (name : ℕ) (xs : List NamedReply) → replies_to name (of_connections xs) ≡ of_connections (answers_to name xs)
named_parts name [] = refl
named_parts name (x ∷ xs) = named_one name x.name x.reply xs (x.name == name) refl (named_parts name xs)

-- ---- in order

-- a name that is another's is no name of this one
same_name : (m n k : ℕ) → m ≡ n → (k == m) ≡ true → (k == n) ≡ true
same_name m n k e h = grind (arith, nat_tests)

same_other : (m n k : ℕ) → m ≡ n → (k == m) ≡ true → not (k == n) ≡ false
same_other m n k e h = grind (arith, nat_tests)

other_name : (m n k : ℕ) → (m ≡ n → ⊥) → (k == m) ≡ true → (k == n) ≡ false
other_name m n k e h = grind (arith, nat_tests)

other_other : (m n k : ℕ) → (m ≡ n → ⊥) → (k == m) ≡ true → not (k == n) ≡ true
other_other m n k e h = grind (arith, nat_tests)

-- the answers to each call stand as they did where those to one stand first
first_in : (m n : ℕ) (xs : List NamedReply) → (m ≡ n) ⊎ (m ≡ n → ⊥) → answers_to m (answers_to n xs) ++ answers_to m (answers_to_others n xs) ≡ answers_to m xs
first_in m n xs (inl e) =
    ap (λ (u : List NamedReply). u ++ answers_to m (answers_to_others n xs)) (filter_within (λ (r : NamedReply). r.name == m) (λ (r : NamedReply). r.name == n) (λ r h. same_name m n r.name e h) xs)
    ∙ ap (λ (u : List NamedReply). answers_to m xs ++ u) (filter_apart (λ (r : NamedReply). r.name == m) (λ (r : NamedReply). not (r.name == n)) (λ r h. same_other m n r.name e h) xs)
    ∙ append-nil (answers_to m xs)
first_in m n xs (inr e) =
    ap (λ (u : List NamedReply). u ++ answers_to m (answers_to_others n xs)) (filter_apart (λ (r : NamedReply). r.name == m) (λ (r : NamedReply). r.name == n) (λ r h. other_name m n r.name e h) xs)
    ∙ filter_within (λ (r : NamedReply). r.name == m) (λ (r : NamedReply). not (r.name == n)) (λ r h. other_other m n r.name e h) xs

with_first_to : (m n : ℕ) (xs : List NamedReply) → answers_to m (with_first n xs) ≡ answers_to m xs
with_first_to m n xs = filter-append (λ (r : NamedReply). r.name == m) (answers_to n xs) (answers_to_others n xs) ∙ first_in m n xs (cases_eq m n)

ordered_to : (m : ℕ) (fresh answers : List NamedReply) → AreOrdered fresh answers → answers_to m answers ≡ answers_to m fresh
ordered_to m fresh answers k =
    let x : NamedReply = record { name = m; reply = Session Pending } in
    let tied : (r : NamedReply) → ((not (is_lt (nat_cmp m r.name))) && (not (is_lt (nat_cmp r.name m)))) ≡ (r.name == m) = λ r. ties_nat m r.name in
    sym (filter_agree (λ (r : NamedReply). (not (is_lt (nat_cmp m r.name))) && (not (is_lt (nat_cmp r.name m)))) (λ (r : NamedReply). r.name == m) tied answers)
    ∙ k.stable x
    ∙ filter_agree (λ (r : NamedReply). (not (is_lt (nat_cmp m r.name))) && (not (is_lt (nat_cmp r.name m)))) (λ (r : NamedReply). r.name == m) tied fresh

-- ---- of the three parts

connection_alone : (rs : List ConnectionReply) → of_connections (map of_connection rs) ≡ rs
connection_alone [] = refl
connection_alone (r ∷ rs) = ap (λ (u : List ConnectionReply). r ∷ u) (connection_alone rs)

links_alone : (rs : List NamedLinkReply) → of_connections (map of_link rs) ≡ []
links_alone [] = refl
links_alone (r ∷ rs) = links_alone rs

session_part : (name : ℕ) (r : Reply) → IsOfSession r → connection_part name r ≡ None
session_part name (Session r) k = refl
session_part name (Connection r) k = absurd k
session_part name (Link r) k = absurd k

sessions_alone : (rs : List NamedReply) → AreOfSessions rs → of_connections rs ≡ []
sessions_alone [] k = refl
sessions_alone (r ∷ rs) k =
    ap (λ (u : Option ConnectionReply). cons_option u (of_connections rs)) (session_part r.name r.reply (All-head (λ (x : NamedReply). IsOfSession x.reply) r rs k))
    ∙ sessions_alone rs (All-tail (λ (x : NamedReply). IsOfSession x.reply) r rs k)

together_alone : (ss : List NamedReply) (cs : List ConnectionReply) (ls : List NamedLinkReply) → AreOfSessions ss → of_connections (together ss cs ls) ≡ cs
together_alone ss cs ls k =
    of_connections-append (ss ++ map of_connection cs) (map of_link ls)
    ∙ ap (λ (u : List ConnectionReply). of_connections (ss ++ map of_connection cs) ++ u) (links_alone ls) ∙ append-nil (of_connections (ss ++ map of_connection cs))
    ∙ of_connections-append ss (map of_connection cs)
    ∙ ap (λ (u : List ConnectionReply). u ++ of_connections (map of_connection cs)) (sessions_alone ss k)
    ∙ connection_alone cs

-- what is told in order of the three parts, of a connection: its own, for each call
pub told_in_order : (m : ℕ) (ss : List NamedReply) (cs : List ConnectionReply) (ls : List NamedLinkReply) (answers : List NamedReply) → AreOfSessions ss → AreOrdered (together ss cs ls) answers
    → replies_to m (of_connections answers) ≡ replies_to m cs
told_in_order m ss cs ls answers k o =
    named_parts m answers ∙ ap of_connections (ordered_to m (together ss cs ls) answers o) ∙ sym (named_parts m (together ss cs ls)) ∙ ap (replies_to m) (together_alone ss cs ls k)

-- the same where those to one call stand first
pub told_first : (m n : ℕ) (ss : List NamedReply) (cs : List ConnectionReply) (ls : List NamedLinkReply) (answers : List NamedReply) → AreOfSessions ss → AreOrdered (together ss cs ls) answers
    → replies_to m (of_connections (with_first n answers)) ≡ replies_to m cs
told_first m n ss cs ls answers k o =
    named_parts m (with_first n answers) ∙ ap of_connections (with_first_to m n answers) ∙ sym (named_parts m answers) ∙ told_in_order m ss cs ls answers k o
