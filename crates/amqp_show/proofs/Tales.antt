-- What a trace tells, a line at a time.
use Rattle.std.proofs.Common.{◌≡◌, ℕ, List, [], ◌++◌, Option, sym, ap, subst, ◌∙◌, append_assoc, append-nil}
use Rattle.amqp_show.specs.declared.voice.Side.{Side}
use Rattle.amqp_show.specs.Lines.{HasNone, BeginsWith}
use Rattle.amqp_show.specs.Told.{wrote_in, AddsTold, front_of, Tells, no_more, one_more}

-- one line more
pub told_more : (step : ℕ) (side : Side) (start now next : Option (List ℕ)) (all lines rest : List (List ℕ)) (front told said before after : List ℕ) → front ≡ front_of step → BeginsWith front lines told rest → AddsTold side (wrote_in told) told now said next → after ≡ before ++ said → ((text : List ℕ) (end : Option (List ℕ)) (others : List (List ℕ)) → Tells step side now lines text end others → Tells step side start all (before ++ text) end others) → (text : List ℕ) (end : Option (List ℕ)) (others : List (List ℕ)) → Tells step side next rest text end others → Tells step side start all (after ++ text) end others
told_more step side start now next all lines rest front told said before after is begins adds added far text end others more =
    let here = one_more step side now next end begins.line told said text rest others (rw (sym is) begins.front_of_it) adds more in
    subst (λ (z : List ℕ). Tells step side start all z end others) (sym (append_assoc before said text) ∙ ap (λ (z : List ℕ). z ++ text) (sym added)) (far _ end others (subst (λ (z : List (List ℕ)). Tells step side now z (said ++ text) end others) (sym begins.first) here))

-- no line more
pub told_all : (step : ℕ) (side : Side) (start now : Option (List ℕ)) (all lines : List (List ℕ)) (front before : List ℕ) → front ≡ front_of step → HasNone front lines → ((text : List ℕ) (end : Option (List ℕ)) (others : List (List ℕ)) → Tells step side now lines text end others → Tells step side start all (before ++ text) end others) → Tells step side start all before now lines
told_all step side start now all lines front before is none far =
    subst (λ (z : List ℕ). Tells step side start all z now lines) (append-nil before) (far [] now lines (no_more step side now lines (subst (λ (z : List ℕ). HasNone z lines) is none)))
