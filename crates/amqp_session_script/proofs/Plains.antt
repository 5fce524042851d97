-- Scripts of connections in the grammar of all words, and the other way.
use Rattle.std.proofs.Common.{◌≡◌, ◌≢◌, ◌+◌, ◌<◌, ◌==◌, ◌^◌, ◌-◌, inl, inr, ℕ, List, [], ◌∷◌, Bool, true, false, not, ◌||◌, if◌then◌else◌, Option, Some, None, Result, Ok, Err, is_some, length, option_map, option_and_then, map, refl, ap, subst, sym, arith, ◌∙◌, bytes_eq, codes}
use Rattle.std.specs.List.{list_all}
use Rattle.std.proofs.lemmas.Bool.{and_parts}
use Rattle.std.proofs.lemmas.Bool.Decides.{nat_tests}
use Rattle.std.proofs.lemmas.List.Splits.{length-slice_split}
use Rattle.std.proofs.lemmas.Slice.Eq.{bytes_eq-Decides}
use Rattle.amqp_words.specs.declared.step.End.{End}
use Rattle.amqp_words.specs.declared.step.Act.{Act as ConnectionAct}
use Rattle.amqp_words.specs.declared.step.Act.TheVariants as acts
use Rattle.amqp_words.specs.declared.step.Step.{Step as ConnectionStep}
use Rattle.amqp_link_words.specs.declared.link_call.LinkCall.{LinkCall}
use Rattle.amqp_calls.specs.declared.call.SessionNumbers.{SessionNumbers}
use Rattle.amqp_calls.specs.declared.call.SessionCall.{SessionCall}
use Rattle.amqp_calls.specs.declared.call.SessionCall.TheVariants as session
use Rattle.amqp_calls.specs.declared.call.Call.TheVariants.{Connection, Session, Link}
use Rattle.amqp_calls.specs.declared.step.Act.{Act}
use Rattle.amqp_calls.specs.declared.step.Act.TheVariants.{Take, TakeAll, Call}
use Rattle.amqp_calls.specs.declared.step.Step.{Step}
use Rattle.amqp_calls.specs.Plain.{plain_act, step_with, plain_step, before, plain_steps}
use Rattle.amqp_script.specs.Words.{words_of}
use Rattle.amqp_script.specs.Number.{number_in}
use Rattle.amqp_script.specs.Line.{end_in, act_in as old_act_in, step_of as old_step_of, step_of_words as old_step_of_words, step_in as old_step_in}
use Rattle.amqp_script.specs.Script.{line_then as old_line_then, steps_from as old_steps_from, Spells as OldSpells, IsFirstBad as IsOldFirstBad}
use Rattle.amqp_link_script.specs.declared.words.LinkWord.{LinkWord}
use Rattle.amqp_link_script.specs.declared.words.LinkWord.TheVariants.{Sender, Receiver, AcceptLink, Send, Outcome, Recv, Dispose, SetCredit, Credit, CreditMode, Auto, Drain, SendProperties, Disposer, DisposerAccept, DisposerRelease, OnDetach, Detach, CloseLink, Abandon}
use Rattle.amqp_link_script.specs.Words.{word_of as link_word_of, regulating_word_of, parting_word_of}
use Rattle.amqp_link_script.specs.Calls.{call_in as link_call_in}
use Rattle.amqp_session_script.specs.Line.{numbers_in, ended_in, names_no_session, act_of, step_among, session_act, link_act, link_or_connection_in, act_in, step_of, step_of_words, IsAct, with_act, IsStep, LineSays, IsOutside}
use Rattle.amqp_session_script.specs.Script.{lines_of, SaySteps, IsFirstOutside, Spells, IsFirstBad, HasNoSessionWords}

-- the act that these tests choose
choice : (first second third : Bool) (x y : Option SessionNumbers) (z : Option SessionCall) (v : Option Act) (w : Option ConnectionAct) (a : ConnectionAct) → (option_and_then plain_act v ≡ Some a → w ≡ Some a) → option_and_then plain_act (if first then option_map (λ numbers. session_act (session.Begin numbers)) x else if second then option_map (λ numbers. session_act (session.Accept numbers)) y else if third then option_map session_act z else v) ≡ Some a → w ≡ Some a
choice true second third None y z v w a f h = let no : None ≡ Some a = h in cc
choice true second third (Some numbers) y z v w a f h = let no : None ≡ Some a = h in cc
choice false true third x None z v w a f h = let no : None ≡ Some a = h in cc
choice false true third x (Some numbers) z v w a f h = let no : None ≡ Some a = h in cc
choice false false true x y None v w a f h = let no : None ≡ Some a = h in cc
choice false false true x y (Some call) v w a f h = let no : None ≡ Some a = h in cc
choice false false false x y z v w a f h = f h

no_link : (x : Option LinkCall) (a : ConnectionAct) → option_and_then plain_act (option_map link_act x) ≡ Some a → ⊥
no_link None a h = let no : None ≡ Some a = h in cc
no_link (Some call) a h = let no : None ≡ Some a = h in cc

plain_same : (w : Option ConnectionAct) (a : ConnectionAct) → option_and_then plain_act (option_map act_of w) ≡ Some a → w ≡ Some a
plain_same None a h = h
plain_same (Some (acts.Take n)) a h = h
plain_same (Some acts.TakeAll) a h = h
plain_same (Some (acts.Call call)) a h = h

-- an act of a connection is said by no word of links
linked_same : (o : Option LinkWord) (word : List ℕ) (arguments : List (List ℕ)) (a : ConnectionAct) → option_and_then plain_act (link_or_connection_in o word arguments) ≡ Some a → old_act_in word arguments ≡ Some a
linked_same (Some link) word arguments a h = absurd (no_link (link_call_in link arguments) a h)
linked_same None word arguments a h = plain_same (old_act_in word arguments) a h

-- a word that says an act of a connection says it in both grammars
act_same : (word : List ℕ) (arguments : List (List ℕ)) (a : ConnectionAct) → option_and_then plain_act (act_in word arguments) ≡ Some a → old_act_in word arguments ≡ Some a
act_same word arguments a h =
    choice (bytes_eq word (codes "begin")) (bytes_eq word (codes "accept_session")) (bytes_eq word (codes "end")) (numbers_in arguments) (numbers_in arguments) (ended_in arguments)
    (link_or_connection_in (link_word_of word) word arguments) (old_act_in word arguments) a (linked_same (link_word_of word) word arguments a) h

-- an end, a moment and an act
step_same : (end : Option End) (at : Option ℕ) (x : Option Act) (w : Option ConnectionAct) (p : ConnectionStep) → ((a : ConnectionAct) → option_and_then plain_act x ≡ Some a → w ≡ Some a) → option_and_then plain_step (step_of end at x) ≡ Some p → old_step_of end at w ≡ Some p
step_same None at x w p f h = let no : None ≡ Some p = h in cc
step_same (Some end) None x w p f h = let no : None ≡ Some p = h in cc
step_same (Some end) (Some at) None w p f h = let no : None ≡ Some p = h in cc
step_same (Some end) (Some at) (Some x) w p f h = by (plain_act x) refl h
  where
    by : (o : Option ConnectionAct) → plain_act x ≡ o → step_with end at o ≡ Some p → old_step_of (Some end) (Some at) w ≡ Some p
    by None e k = let no : None ≡ Some p = k in cc
    by (Some a) e k = rw (f a e) k

words_same : (words : List (List ℕ)) (p : ConnectionStep) → option_and_then plain_step (step_of_words words) ≡ Some p → old_step_of_words words ≡ Some p
words_same [] p h = let no : None ≡ Some p = h in cc
words_same (end ∷ []) p h = let no : None ≡ Some p = h in cc
words_same (end ∷ at ∷ []) p h = let no : None ≡ Some p = h in cc
words_same (end ∷ at ∷ word ∷ arguments) p h = step_same (end_in end) (number_in (2 ^ 64 - 1) at) (act_in word arguments) (old_act_in word arguments) p (act_same word arguments) h

-- an act of a connection stands as it is written
plain_written : (w act : Act) (a : ConnectionAct) → IsAct w act → plain_act act ≡ Some a → w ≡ act
plain_written (Take n) act a is h = is
plain_written TakeAll act a is h = is
plain_written (Call (Connection call)) act a is h = is
plain_written (Call (Session call)) act a is h = is
plain_written (Call (Link call)) act a is h = let no : None ≡ Some a = subst (λ (z : Act). plain_act z ≡ Some a) is.1.0 h in cc

step_plain : (w s : Step) (p : ConnectionStep) → IsStep w s → plain_step s ≡ Some p → w ≡ s
step_plain w s p is h = by (plain_act is.0) refl (subst (λ (z : Step). plain_step z ≡ Some p) is.1.0 h)
  where
    by : (o : Option ConnectionAct) → plain_act is.0 ≡ o → step_with w.end w.at o ≡ Some p → w ≡ s
    by None e k = let no : None ≡ Some p = k in cc
    by (Some a) e k = ap (λ (z : Act). with_act w z) (plain_written w.act is.0 a is.1.1 e) ∙ sym is.1.0

line_plain : (line : List ℕ) (s : Step) (p : ConnectionStep) → LineSays line s → plain_step s ≡ Some p → old_step_in line ≡ Some p
line_plain line s p says h =
    words_same (words_of line) p (ap (λ (o : Option Step). option_and_then plain_step o) says.1.0 ∙ ap plain_step (step_plain says.0 s p says.1.1 h) ∙ h)

lines_same : (n : ℕ) (lines : List (List ℕ)) (steps : List Step) (plain : List ConnectionStep) → SaySteps lines steps → plain_steps steps ≡ Some plain → old_steps_from n lines ≡ Ok plain
lines_same n [] steps plain said all = absurd said
lines_same n (tail ∷ []) [] plain said all =
    let none : [] ≡ plain = cc in
    subst (λ (z : List ℕ). (if length z == 0 then Ok [] else Err n) ≡ Ok plain) (sym said) (ap (λ (u : List ConnectionStep). Ok u) none)
lines_same n (tail ∷ []) (s ∷ ss) plain said all = absurd said
lines_same n (line ∷ next ∷ lines) [] plain said all = absurd said
lines_same n (line ∷ next ∷ lines) (s ∷ ss) plain said all = by (λ ps k. lines_same (n + 1) (next ∷ lines) ss ps said.1 k) (plain_step s) (plain_steps ss) refl refl all
  where
    by : ((ps : List ConnectionStep) → plain_steps ss ≡ Some ps → old_steps_from (n + 1) (next ∷ lines) ≡ Ok ps) → (o : Option ConnectionStep) (later : Option (List ConnectionStep)) → plain_step s ≡ o → plain_steps ss ≡ later → before o later ≡ Some plain → old_line_then n (old_step_in line) (old_steps_from (n + 1) (next ∷ lines)) ≡ Ok plain
    by f None later e k i = let no : None ≡ Some plain = i in cc
    by f (Some p) None e k i = let no : None ≡ Some plain = i in cc
    by f (Some p) (Some ps) e k i =
        let all : p ∷ ps ≡ plain = cc in
        rw (line_plain line s p said.0 e, f ps k) (ap (λ (u : List ConnectionStep). Ok u) all)

-- a script whose steps are those of connections says them in the grammar of connections
pub plain_spelled : (text : List ℕ) (steps : List Step) (plain : List ConnectionStep) → Spells text steps → plain_steps steps ≡ Some plain → OldSpells text plain
plain_spelled text steps plain said all = lines_same 1 (lines_of text) steps plain said all

abbrev name_of : LinkWord → List ℕ
name_of Sender = codes "sender"
name_of Receiver = codes "receiver"
name_of AcceptLink = codes "accept_link"
name_of Send = codes "send"
name_of Outcome = codes "outcome"
name_of Recv = codes "recv"
name_of Dispose = codes "dispose"
name_of SetCredit = codes "set_credit"
name_of Credit = codes "credit"
name_of CreditMode = codes "credit_mode"
name_of Auto = codes "auto"
name_of Drain = codes "drain"
name_of SendProperties = codes "send_properties"
name_of Disposer = codes "disposer"
name_of DisposerAccept = codes "disposer_accept"
name_of DisposerRelease = codes "disposer_release"
name_of OnDetach = codes "on_detach"
name_of Detach = codes "detach"
name_of CloseLink = codes "close_link"
name_of Abandon = codes "abandon"

picked : (b : Bool) (name word : List ℕ) (l m : LinkWord) (others : Option LinkWord) → bytes_eq word name ≡ b → name ≡ name_of l → (others ≡ Some m → word ≡ name_of m) → (if b then Some l else others) ≡ Some m → word ≡ name_of m
picked true name word l m others e is f h = let same : l ≡ m = cc in (bytes_eq-Decides word name).0 e ∙ is ∙ ap name_of same
picked false name word l m others e is f h = f h

not_picked : (word : List ℕ) (m : LinkWord) → None ≡ Some m → word ≡ name_of m
not_picked word m h = cc

-- which word it is, where it is one of these or of the others
parting : (word : List ℕ) (m : LinkWord) (rest : Option LinkWord) → (rest ≡ Some m → word ≡ name_of m) → (if bytes_eq word (codes "on_detach") then Some OnDetach else if bytes_eq word (codes "detach") then Some Detach else if bytes_eq word (codes "close_link") then Some CloseLink else if bytes_eq word (codes "abandon") then Some Abandon else rest) ≡ Some m → word ≡ name_of m
parting word m rest f h =
    let p4 = picked (bytes_eq word (codes "abandon")) (codes "abandon") word Abandon m _ refl refl f in
    let p3 = picked (bytes_eq word (codes "close_link")) (codes "close_link") word CloseLink m _ refl refl p4 in
    let p2 = picked (bytes_eq word (codes "detach")) (codes "detach") word Detach m _ refl refl p3 in
    picked (bytes_eq word (codes "on_detach")) (codes "on_detach") word OnDetach m _ refl refl p2 h

regulating : (word : List ℕ) (m : LinkWord) (rest : Option LinkWord) → (rest ≡ Some m → word ≡ name_of m) → (if bytes_eq word (codes "credit_mode") then Some CreditMode else if bytes_eq word (codes "auto") then Some Auto else if bytes_eq word (codes "drain") then Some Drain else if bytes_eq word (codes "send_properties") then Some SendProperties else if bytes_eq word (codes "disposer") then Some Disposer else if bytes_eq word (codes "disposer_accept") then Some DisposerAccept else if bytes_eq word (codes "disposer_release") then Some DisposerRelease else rest) ≡ Some m → word ≡ name_of m
regulating word m rest f h =
    let p7 = picked (bytes_eq word (codes "disposer_release")) (codes "disposer_release") word DisposerRelease m _ refl refl f in
    let p6 = picked (bytes_eq word (codes "disposer_accept")) (codes "disposer_accept") word DisposerAccept m _ refl refl p7 in
    let p5 = picked (bytes_eq word (codes "disposer")) (codes "disposer") word Disposer m _ refl refl p6 in
    let p4 = picked (bytes_eq word (codes "send_properties")) (codes "send_properties") word SendProperties m _ refl refl p5 in
    let p3 = picked (bytes_eq word (codes "drain")) (codes "drain") word Drain m _ refl refl p4 in
    let p2 = picked (bytes_eq word (codes "auto")) (codes "auto") word Auto m _ refl refl p3 in
    picked (bytes_eq word (codes "credit_mode")) (codes "credit_mode") word CreditMode m _ refl refl p2 h

attaching : (word : List ℕ) (m : LinkWord) (rest : Option LinkWord) → (rest ≡ Some m → word ≡ name_of m) → (if bytes_eq word (codes "sender") then Some Sender else if bytes_eq word (codes "receiver") then Some Receiver else if bytes_eq word (codes "accept_link") then Some AcceptLink else if bytes_eq word (codes "send") then Some Send else if bytes_eq word (codes "outcome") then Some Outcome else rest) ≡ Some m → word ≡ name_of m
attaching word m rest f h =
    let p5 = picked (bytes_eq word (codes "outcome")) (codes "outcome") word Outcome m _ refl refl f in
    let p4 = picked (bytes_eq word (codes "send")) (codes "send") word Send m _ refl refl p5 in
    let p3 = picked (bytes_eq word (codes "accept_link")) (codes "accept_link") word AcceptLink m _ refl refl p4 in
    let p2 = picked (bytes_eq word (codes "receiver")) (codes "receiver") word Receiver m _ refl refl p3 in
    picked (bytes_eq word (codes "sender")) (codes "sender") word Sender m _ refl refl p2 h

taking : (word : List ℕ) (m : LinkWord) (rest : Option LinkWord) → (rest ≡ Some m → word ≡ name_of m) → (if bytes_eq word (codes "recv") then Some Recv else if bytes_eq word (codes "dispose") then Some Dispose else if bytes_eq word (codes "set_credit") then Some SetCredit else if bytes_eq word (codes "credit") then Some Credit else rest) ≡ Some m → word ≡ name_of m
taking word m rest f h =
    let p4 = picked (bytes_eq word (codes "credit")) (codes "credit") word Credit m _ refl refl f in
    let p3 = picked (bytes_eq word (codes "set_credit")) (codes "set_credit") word SetCredit m _ refl refl p4 in
    let p2 = picked (bytes_eq word (codes "dispose")) (codes "dispose") word Dispose m _ refl refl p3 in
    picked (bytes_eq word (codes "recv")) (codes "recv") word Recv m _ refl refl p2 h

parting_is : (word : List ℕ) (m : LinkWord) → parting_word_of word ≡ Some m → word ≡ name_of m
unfolding parting_word_of
parting_is word m h = parting word m None (not_picked word m) h

regulating_is : (word : List ℕ) (m : LinkWord) → regulating_word_of word ≡ Some m → word ≡ name_of m
unfolding regulating_word_of
regulating_is word m h = regulating word m (parting_word_of word) (parting_is word m) h

-- which word it is
word_is : (word : List ℕ) (m : LinkWord) → link_word_of word ≡ Some m → word ≡ name_of m
unfolding link_word_of
word_is word m h = attaching word m _ (taking word m (regulating_word_of word) (regulating_is word m)) h

-- a word of links says nothing of connections
none_of : (l : LinkWord) (arguments : List (List ℕ)) → old_act_in (name_of l) arguments ≡ None
none_of Sender arguments = refl
none_of Receiver arguments = refl
none_of AcceptLink arguments = refl
none_of Send arguments = refl
none_of Outcome arguments = refl
none_of Recv arguments = refl
none_of Dispose arguments = refl
none_of SetCredit arguments = refl
none_of Credit arguments = refl
none_of CreditMode arguments = refl
none_of Auto arguments = refl
none_of Drain arguments = refl
none_of SendProperties arguments = refl
none_of Disposer arguments = refl
none_of DisposerAccept arguments = refl
none_of DisposerRelease arguments = refl
none_of OnDetach arguments = refl
none_of Detach arguments = refl
none_of CloseLink arguments = refl
none_of Abandon arguments = refl

-- a word of connections is none of sessions or links
act_kept : (word : List ℕ) (arguments : List (List ℕ)) (a : ConnectionAct) → old_act_in word arguments ≡ Some a → act_in word arguments ≡ Some (act_of a)
act_kept word arguments a h = by (bytes_eq word (codes "begin")) (bytes_eq word (codes "accept_session")) (bytes_eq word (codes "end")) (link_word_of word) refl refl refl refl
  where
    no_other : (name : List ℕ) → word ≡ name → old_act_in name arguments ≡ None → None ≡ Some a
    no_other name is none = sym none ∙ subst (λ (w : List ℕ). old_act_in w arguments ≡ Some a) is h

    other : (name : List ℕ) → bytes_eq word name ≡ true → old_act_in name arguments ≡ None → None ≡ Some a
    other name e none = no_other name ((bytes_eq-Decides word name).0 e) none

    by : (first second third : Bool) (o : Option LinkWord) → bytes_eq word (codes "begin") ≡ first → bytes_eq word (codes "accept_session") ≡ second → bytes_eq word (codes "end") ≡ third → link_word_of word ≡ o → act_in word arguments ≡ Some (act_of a)
    by true second third o e f g i = let no : None ≡ Some a = other (codes "begin") e refl in cc
    by false true third o e f g i = let no : None ≡ Some a = other (codes "accept_session") f refl in cc
    by false false true o e f g i = let no : None ≡ Some a = other (codes "end") g refl in cc
    by false false false (Some l) e f g i = let no : None ≡ Some a = no_other (name_of l) (word_is word l i) (none_of l arguments) in cc
    by false false false None e f g i = rw (e, f, g, i) (ap (λ (o : Option ConnectionAct). option_map act_of o) h)

step_kept : (end : Option End) (at : Option ℕ) (w : Option ConnectionAct) (x : Option Act) (p : ConnectionStep) → ((a : ConnectionAct) → w ≡ Some a → x ≡ Some (act_of a)) → old_step_of end at w ≡ Some p → step_of end at x ≡ Some (step_among p)
step_kept None at w x p f h = let no : None ≡ Some p = h in cc
step_kept (Some end) None w x p f h = let no : None ≡ Some p = h in cc
step_kept (Some end) (Some at) None x p f h = let no : None ≡ Some p = h in cc
step_kept (Some end) (Some at) (Some a) x p f h = rw (f a refl) (ap (λ (o : Option ConnectionStep). option_map step_among o) h)

words_kept : (words : List (List ℕ)) (p : ConnectionStep) → old_step_of_words words ≡ Some p → step_of_words words ≡ Some (step_among p)
words_kept [] p h = let no : None ≡ Some p = h in cc
words_kept (end ∷ []) p h = let no : None ≡ Some p = h in cc
words_kept (end ∷ at ∷ []) p h = let no : None ≡ Some p = h in cc
words_kept (end ∷ at ∷ word ∷ arguments) p h = step_kept (end_in end) (number_in (2 ^ 64 - 1) at) (old_act_in word arguments) (act_in word arguments) p (act_kept word arguments) h

act_is : (a : ConnectionAct) → IsAct (act_of a) (act_of a)
act_is (acts.Take n) = refl
act_is acts.TakeAll = refl
act_is (acts.Call call) = refl

line_kept : (line : List ℕ) (p : ConnectionStep) → old_step_in line ≡ Some p → LineSays line (step_among p)
line_kept line p e = (step_among p, (words_kept (words_of line) p e, (act_of p.act, (refl, act_is p.act))))

-- there is nothing behind the last line feed
is_empty : (tail : List ℕ) → (length tail == 0) ≡ true → tail ≡ []
is_empty [] h = refl
is_empty (b ∷ bs) h = absurd (grind (arith, nat_tests))

is_some_tail : (tail : List ℕ) → tail ≢ [] → (length tail == 0) ≡ false
is_some_tail [] h = absurd (h refl)
is_some_tail (b ∷ bs) h = grind (arith, nat_tests)

lines_kept : (n : ℕ) (lines : List (List ℕ)) (plain : List ConnectionStep) → 0 < length lines → old_steps_from n lines ≡ Ok plain → SaySteps lines (map step_among plain)
lines_kept n [] plain some h = absurd (omega arith)
lines_kept n (tail ∷ []) plain some h = by (length tail == 0) plain refl h
  where
    by : (b : Bool) (ps : List ConnectionStep) → (length tail == 0) ≡ b → (if b then Ok [] else Err n) ≡ Ok ps → SaySteps (tail ∷ []) (map step_among ps)
    by true [] e k = is_empty tail e
    by true (p ∷ ps) e k = let no : [] ≡ p ∷ ps = cc in cc
    by false ps e k = let no : Err n ≡ Ok ps = k in cc
lines_kept n (line ∷ next ∷ lines) plain some h = by (λ ps f. lines_kept (n + 1) (next ∷ lines) ps (omega arith) f) (old_step_in line) (old_steps_from (n + 1) (next ∷ lines)) refl refl h
  where
    by : ((ps : List ConnectionStep) → old_steps_from (n + 1) (next ∷ lines) ≡ Ok ps → SaySteps (next ∷ lines) (map step_among ps)) → (w : Option ConnectionStep) (q : Result (List ConnectionStep) ℕ) → old_step_in line ≡ w → old_steps_from (n + 1) (next ∷ lines) ≡ q → old_line_then n w q ≡ Ok plain → SaySteps (line ∷ next ∷ lines) (map step_among plain)
    by g None q e f k = let no : Err n ≡ Ok plain = k in cc
    by g (Some p) (Err m) e f k = let no : Err m ≡ Ok plain = k in cc
    by g (Some p) (Ok ps) e f k =
        let all : p ∷ ps ≡ plain = cc in
        subst (λ (z : List ConnectionStep). SaySteps (line ∷ next ∷ lines) (map step_among z)) all (line_kept line p e, g ps f)

some_lines : (text : List ℕ) → 0 < length (lines_of text)
some_lines text = omega (arith, length-slice_split (λ b. b == 10) text)

-- a script of connections says the same steps
pub script_kept : (text : List ℕ) (plain : List ConnectionStep) → OldSpells text plain → Spells text (map step_among plain)
script_kept text plain h = lines_kept 1 (lines_of text) plain (some_lines text) h

-- and these are plain
pub among_plain : (plain : List ConnectionStep) → plain_steps (map step_among plain) ≡ Some plain
among_plain [] = refl
among_plain (p ∷ ps) = rw (among_plain ps) (first p.act)
  where
    first : (a : ConnectionAct) → before (step_with p.end p.at (plain_act (act_of a))) (Some ps) ≡ Some (record { end = p.end; at = p.at; act = a } ∷ ps)
    first (acts.Take n) = refl
    first acts.TakeAll = refl
    first (acts.Call call) = refl

-- the act that these tests choose where none holds
none_holds : (first second third : Bool) (o : Option LinkWord) (x y z : Option Act) (word : List ℕ) (arguments : List (List ℕ)) → not (first || second || third || is_some o) ≡ true → (if first then x else if second then y else if third then z else link_or_connection_in o word arguments) ≡ option_map act_of (old_act_in word arguments)
none_holds true second third o x y z word arguments h = let no : false ≡ true = h in cc
none_holds false true third o x y z word arguments h = let no : false ≡ true = h in cc
none_holds false false true o x y z word arguments h = let no : false ≡ true = h in cc
none_holds false false false (Some l) x y z word arguments h = let no : false ≡ true = h in cc
none_holds false false false None x y z word arguments h = refl

step_alike : (end : Option End) (at : Option ℕ) (w : Option ConnectionAct) (x : Option Act) → x ≡ option_map act_of w → step_of end at x ≡ option_map step_among (old_step_of end at w)
step_alike None at w x e = refl
step_alike (Some end) None w x e = refl
step_alike (Some end) (Some at) None x e = rw e refl
step_alike (Some end) (Some at) (Some a) x e = rw e refl

words_alike : (words : List (List ℕ)) → names_no_session words ≡ true → step_of_words words ≡ option_map step_among (old_step_of_words words)
words_alike [] h = refl
words_alike (end ∷ []) h = refl
words_alike (end ∷ at ∷ []) h = refl
words_alike (end ∷ at ∷ word ∷ arguments) h =
    step_alike (end_in end) (number_in (2 ^ 64 - 1) at) (old_act_in word arguments) (act_in word arguments)
    (none_holds (bytes_eq word (codes "begin")) (bytes_eq word (codes "accept_session")) (bytes_eq word (codes "end")) (link_word_of word)
    (option_map (λ numbers. session_act (session.Begin numbers)) (numbers_in arguments))
    (option_map (λ numbers. session_act (session.Accept numbers)) (numbers_in arguments))
    (option_map session_act (ended_in arguments)) word arguments h)

-- the step that the grammar of connections says, among those of all words
record IsAmong (line : List ℕ) (s : Step) : Type 0 where
  plain : ConnectionStep
  said : old_step_in line ≡ Some plain
  is : s ≡ step_among plain

act_alike : (a : ConnectionAct) (act : Act) → IsAct (act_of a) act → act ≡ act_of a
act_alike (acts.Take n) act is = sym is
act_alike acts.TakeAll act is = sym is
act_alike (acts.Call call) act is = sym is

step_is : (p : ConnectionStep) (s : Step) → IsStep (step_among p) s → s ≡ step_among p
step_is p s is = is.1.0 ∙ ap (λ (z : Act). with_act (step_among p) z) (act_alike p.act is.0 is.1.1)

line_alike : (line : List ℕ) (s : Step) → names_no_session (words_of line) ≡ true → LineSays line s → IsAmong line s
line_alike line s h says = by (old_step_in line) refl (sym says.1.0 ∙ words_alike (words_of line) h)
  where
    by : (o : Option ConnectionStep) → old_step_in line ≡ o → Some says.0 ≡ option_map step_among o → IsAmong line s
    by None e k = let no : Some says.0 ≡ None = k in cc
    by (Some p) e k =
        let same : says.0 ≡ step_among p = cc in
        record { plain = p; said = e; is = step_is p s (subst (λ (z : Step). IsStep z s) same says.1.1) }

-- a line outside both grammars
line_outside : (line : List ℕ) → names_no_session (words_of line) ≡ true → old_step_in line ≡ None → IsOutside line
line_outside line h none = λ s says. let found = line_alike line s h says in let no : None ≡ Some found.plain = sym none ∙ found.said in cc

line_none : (line : List ℕ) → IsOutside line → old_step_in line ≡ None
line_none line bad = by (old_step_in line) refl
  where
    by : (o : Option ConnectionStep) → old_step_in line ≡ o → old_step_in line ≡ None
    by None e = e
    by (Some p) e = absurd (bad (step_among p) (line_kept line p e))

record AreAmong (n : ℕ) (lines : List (List ℕ)) (steps : List Step) : Type 0 where
  plain : List ConnectionStep
  said : old_steps_from n lines ≡ Ok plain
  is : steps ≡ map step_among plain

lines_alike : (n : ℕ) (lines : List (List ℕ)) (steps : List Step) → list_all (λ line. names_no_session (words_of line)) lines ≡ true → SaySteps lines steps → AreAmong n lines steps
lines_alike n [] steps h said = absurd said
lines_alike n (tail ∷ []) [] h said =
    record {
      plain = [];
      said = subst (λ (z : List ℕ). ◌≡◌ {A = Result (List ConnectionStep) ℕ} (if length z == 0 then Ok [] else Err n) (Ok [])) (sym said) refl;
      is = refl;
    }
lines_alike n (tail ∷ []) (s ∷ ss) h said = absurd said
lines_alike n (line ∷ next ∷ lines) [] h said = absurd said
lines_alike n (line ∷ next ∷ lines) (s ∷ ss) h said =
    let parts = and_parts (names_no_session (words_of line)) (list_all (λ line. names_no_session (words_of line)) (next ∷ lines)) h in
    let first = line_alike line s parts.0 said.0 in
    let later = lines_alike (n + 1) (next ∷ lines) ss parts.1 said.1 in
    record { plain = first.plain ∷ later.plain; said = rw (first.said, later.said) refl; is = ap (λ (z : Step). z ∷ ss) first.is ∙ ap (λ (zs : List Step). step_among first.plain ∷ zs) later.is }

-- without words of sessions and links a script says steps of connections
pub script_alike : (text : List ℕ) (steps : List Step) → HasNoSessionWords text → Spells text steps → (plain : List ConnectionStep) × (OldSpells text plain × (steps ≡ map step_among plain))
script_alike text steps h said = let found = lines_alike 1 (lines_of text) steps h said in (found.plain, (found.said, found.is))

lines_bad : (n : ℕ) (lines : List (List ℕ)) (k : ℕ) → list_all (λ line. names_no_session (words_of line)) lines ≡ true → IsFirstOutside n lines k → old_steps_from n lines ≡ Err k
lines_bad n [] k h bad = absurd bad
lines_bad n (tail ∷ []) k h bad = rw (is_some_tail tail bad.1) (ap (λ (u : ℕ). Err u) (sym bad.0))
lines_bad n (line ∷ next ∷ lines) k h (inl bad) = rw (line_none line bad.1) (ap (λ (u : ℕ). Err u) (sym bad.0))
lines_bad n (line ∷ next ∷ lines) k h (inr later) =
    let parts = and_parts (names_no_session (words_of line)) (list_all (λ line. names_no_session (words_of line)) (next ∷ lines)) h in
    let first = line_alike line later.0 parts.0 later.1.0 in
    rw (first.said, lines_bad (n + 1) (next ∷ lines) k parts.1 later.1.1) refl

-- the first line outside is that outside the grammar of connections
pub bad_alike : (text : List ℕ) (n : ℕ) → HasNoSessionWords text → IsFirstBad text n → IsOldFirstBad text n
bad_alike text n h bad = lines_bad 1 (lines_of text) n h bad

lines_bad_too : (n : ℕ) (lines : List (List ℕ)) (k : ℕ) → 0 < length lines → list_all (λ line. names_no_session (words_of line)) lines ≡ true → old_steps_from n lines ≡ Err k → IsFirstOutside n lines k
lines_bad_too n [] k some h bad = absurd (omega arith)
lines_bad_too n (tail ∷ []) k some h bad = by (length tail == 0) refl bad
  where
    by : (b : Bool) → (length tail == 0) ≡ b → ◌≡◌ {A = Result (List ConnectionStep) ℕ} (if b then Ok [] else Err n) (Err k) → IsFirstOutside n (tail ∷ []) k
    by true e i = let no : ◌≡◌ {A = Result (List ConnectionStep) ℕ} (Ok []) (Err k) = i in cc
    by false e i =
        let same : n ≡ k = cc in
        (sym same, λ none. let no : false ≡ true = sym e ∙ ap (λ (z : List ℕ). length z == 0) none in cc)
lines_bad_too n (line ∷ next ∷ lines) k some h bad =
    let parts = and_parts (names_no_session (words_of line)) (list_all (λ line. names_no_session (words_of line)) (next ∷ lines)) h in
    by parts.0 (λ e. lines_bad_too (n + 1) (next ∷ lines) k (omega arith) parts.1 e) (old_step_in line) (old_steps_from (n + 1) (next ∷ lines)) refl refl bad
  where
    by : names_no_session (words_of line) ≡ true → (old_steps_from (n + 1) (next ∷ lines) ≡ Err k → IsFirstOutside (n + 1) (next ∷ lines) k) → (w : Option ConnectionStep) (q : Result (List ConnectionStep) ℕ) → old_step_in line ≡ w → old_steps_from (n + 1) (next ∷ lines) ≡ q → old_line_then n w q ≡ Err k → IsFirstOutside n (line ∷ next ∷ lines) k
    by none g None q e f i =
        let same : n ≡ k = cc in
        inl (sym same, line_outside line none e)
    by none g (Some p) (Ok ps) e f i = let no : Ok (p ∷ ps) ≡ Err k = i in cc
    by none g (Some p) (Err m) e f i =
        let same : m ≡ k = cc in
        inr (step_among p, (line_kept line p e, g (f ∙ ap (λ (u : ℕ). Err u) same)))

pub bad_kept : (text : List ℕ) (n : ℕ) → HasNoSessionWords text → IsOldFirstBad text n → IsFirstBad text n
bad_kept text n h bad = lines_bad_too 1 (lines_of text) n (some_lines text) h bad
