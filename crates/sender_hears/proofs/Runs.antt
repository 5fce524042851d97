-- Deeds of the links one after another, and what a sender hears in them.
use Rattle.std.specs.Prelude.{◌≡◌, ℕ, List, [], ◌∷◌, ◌++◌, Option, Some, None, refl}
use Rattle.std.proofs.Common.{sym, ◌∙◌, ap, subst}
use Rattle.std.proofs.lemmas.Grind.{flat_map-append}
use Rattle.std.proofs.lemmas.List.{append-nil}
use Rattle.amqp_link_calls.specs.Called.{Called}
use Rattle.amqp_links.specs.State.{State, link_of}
use Rattle.session_laws.specs.Messages.{transfers, on}
use Rattle.session_laws.specs.Sending as sending
use Rattle.link_lives.specs.Deeds.{Deed, Did, handed, all_handed, AreOther, part_told, parts_told}
use Rattle.link_lives.specs.Lives.{Event, SenderLives}
use Rattle.link_lives.specs.Logs.{Entry, own, told, IsFree}
use Rattle.link_lives.proofs.Runs.{both_go, on_more, brought}
use Rattle.sender_hears.specs.Deeds.{words_for, words_in}
use Rattle.sender_hears.specs.Laws.{OneSenderHears}
use Rattle.sender_hears.specs.Lives.{SenderHears, Lives, Went, Fate, Keeps}
use Rattle.sender_hears.specs.Words.{Word}
use Rattle.sender_hears.proofs.Going.{keeps_same, keeps_then, told_more}
use Rattle.sender_hears.proofs.Deeds.{deeds_are_heard}

-- as `DeedHeard`, over all of them
record AllHeard (ds : List Deed) (old new : State) (did : Did old ds new) : Type 0 where
  log : List Entry
  output : all_handed ds ++ new.output ≡ old.output ++ told log
  each : (n : ℕ) → AreOther n ds → IsFree n old → Keeps n old (own n log) (words_in old ds new did n) new

all_heard : (ds : List Deed) (old new : State) (did : Did old ds new) → AllHeard ds old new did
all_heard [] old new did =
    record {
      log = [];
      output = ap (λ s. s.output) did ∙ sym (append-nil old.output);
      each = λ n other free. keeps_same n old new (ap (λ s. s.sessions) did) (ap (λ s. s.endpoints) did) free;
    }
all_heard (d ∷ ds) old new did =
    let mid = did.0 in
    let p = deeds_are_heard d old mid did.1.0 in
    let q = all_heard ds mid new did.1.1 in
    record {
      log = p.log ++ q.log;
      output = both_go (handed d) (all_handed ds) new.output mid.output old.output (told p.log) (told q.log) p.output q.output ∙ ap (λ xs. old.output ++ xs) (sym (told_more p.log q.log));
      each = λ n other free.
          let k = p.each n other.0 free in
          keeps_then n old mid new p.log q.log (words_for d old n) (words_in mid ds new did.1.1 n) k (q.each n other.1 k.free);
    }

-- a link that stood stands still
stands_as : (o p : Option Called) (l : Called) (es : List Event) (ws : List Word) → o ≡ Some l → Fate o es ws p → (m : Called) × ((p ≡ Some m) × Went l es ws m)
stands_as None p l es ws e f = absurd cc
stands_as (Some k) None l es ws e f = absurd f
stands_as (Some k) (Some m) l es ws e f = (m, (refl, subst (λ x. Went x es ws m) (some_same k l e) f))
  where
    some_same : (k l : Called) → Some k ≡ Some l → k ≡ l
    some_same k l h = cc

pub one_sender_hears : OneSenderHears
one_sender_hears n l s ds old new did at is other free =
    let q = all_heard ds old new did in
    let ws = words_in old ds new did n in
    let k = q.each n other free in
    let w = stands_as (link_of n old) (link_of n new) l (own n q.log) ws at k.fate in
    let m = w.0 in
    let h : SenderHears l.session s (own n q.log) ws m.side = subst (λ a. Lives l.session a (own n q.log) ws m.side) is w.1.1.lives in
    let lives : SenderLives l.session s (own n q.log) m.side = record { moves = h.moves; told = h.told; behind = h.behind } in
    record {
      goes = record {
        log = q.log;
        moves = h.moves;
        link = m;
        stands = w.1.0;
        on_session = w.1.1.session;
        behind = h.behind;
        tells = h.told;
        output = q.output;
        goes = λ handle apart.
            ap (λ xs. on handle (parts_told l.session xs)) q.output
            ∙ (ap (on handle) (flat_map-append (part_told l.session) old.output (told q.log))
            ∙ (on_more handle (parts_told l.session old.output) (parts_told l.session (told q.log))
            ∙ ap (λ xs. on handle (parts_told l.session old.output) ++ xs) (brought handle l.session n s q.log m.side lives apart)));
      };
      hears = h.hears;
    }
