-- Of two sessions that hear each other the one keeps the window of the other.
use Rattle.std.specs.Prelude.{◌≡◌, ℕ, ◌+◌, ◌≤◌, Bool, true, false, List, [], ◌∷◌, ◌++◌, All, if◌then◌else◌, refl}
use Rattle.std.proofs.Common.{sym, ◌∙◌, ap, subst}
use Rattle.std.proofs.lemmas.List.Elements.{All-nil, All-cons}
use Rattle.amqp_frames.specs.declared.body.FrameBody.{FrameBody}
use Rattle.amqp_frames.specs.declared.body.FrameBody.TheVariants as b
use Rattle.amqp_frames.specs.Body.{read_again_body}
use Rattle.amqp_session.specs.State.{Framed}
use Rattle.session_laws.specs.Handing.{heard}
use Rattle.session_laws.specs.Holding.{Move, hears}
use Rattle.window_laws.specs.Announcing.{Announces}
use Rattle.window_laws.specs.Counting.{count, behind, InOrder, NamesNext, Numbers, ReportsWithin}
use Rattle.window_laws.specs.Starting.{Start, reads, writes, window, first_number}
use Rattle.window_laws.proofs.Announces.{announces_its_window}
use Rattle.window_laws.proofs.Counts.{numbers_its_transfers, reports_no_more}
use Rattle.window_laws.proofs.Keeps.{keeps_what_it_hears}
use Rattle.window_laws.proofs.Orders.{Each, each_all, all_each, order_first, order_last, any_start}
use Rattle.window_laws.proofs.Walks.{counted}
use Rattle.world_lives.specs.Hearing.{are}
use Rattle.world_lives.specs.WorldWindows.Keeping.{is_later, Follows, Tells, KeepsFacing}
use Rattle.world_lives.proofs.WorldWindows.Later.{later_moves, reads_more, later_writes, later_count, later_bodies}
use Rattle.world_lives.proofs.WorldWindows.Orders.{AreIn, in_order, in_reads}

-- ---- frames that are read again say the same

again_next : (first n : ℕ) (x : FrameBody) → NamesNext first n x → NamesNext first n (read_again_body x)
again_next first n (b.Attach x) h = tt
again_next first n other h = h

again_announces : (size n : ℕ) (x : FrameBody) → Each (Announces size) n x → Each (Announces size) n (read_again_body x)
again_announces size n (b.Attach x) h = tt
again_announces size n other h = h

again_within : (first most n : ℕ) (x : FrameBody) → Each (ReportsWithin first most) n x → Each (ReportsWithin first most) n (read_again_body x)
again_within first most n (b.Attach x) h = tt
again_within first most n other h = h

-- ---- what the one reads is what the other writes, Begins aside

module _ (P : ℕ → FrameBody → Type 0) (again : (n : ℕ) (x : FrameBody) → P n x → P n (read_again_body x)) where
  follows : (u : Start) (js since : List Move) (t : Start) (ns : List Move) → Follows u js since t ns → InOrder P 0 (writes t ns) → InOrder P 0 (reads u (js ++ later_moves since))
  follows u js since t ns f h =
      let got = are is_later (heard since) in
      let r = in_reads P again f.gave f.rest got (subst (λ (xs : List Framed). InOrder P 0 xs) (sym f.whole) h) f.later in
      in_order P 0 (reads u (js ++ later_moves since))
      (subst (λ (xs : List FrameBody). AreIn P 0 xs) (sym (later_bodies u js since ∙ ap (λ (xs : List FrameBody). xs ++ got) f.before)) r)

-- ---- what it hears of the window

tells_one : (size : ℕ) (x : FrameBody) → Announces size x → Tells size x
tells_one size (b.Flow x) h = h
tells_one size other h = tt

begin_tells : (size : ℕ) (x : FrameBody) → is_later x ≡ false → Tells size x
begin_tells size (b.Begin x) e = tt
begin_tells size other e = absurd cc

told_later : (size : ℕ) (ms : List Move) → InOrder (Each (Announces size)) 0 (heard (later_moves ms)) → All (λ (x : Framed). Tells size x.body) (heard ms)
told_later size [] h = All-nil (λ (x : Framed). Tells size x.body)
told_later size (hears x ∷ ms) h = by (is_later x.body) refl (told_later size ms) h
  where
    by : (t : Bool) → is_later x.body ≡ t → (InOrder (Each (Announces size)) 0 (heard (later_moves ms)) → All (λ (y : Framed). Tells size y.body) (heard ms))
        → InOrder (Each (Announces size)) 0 (heard ((if t then hears x ∷ [] else []) ++ later_moves ms)) → All (λ (y : Framed). Tells size y.body) (x ∷ heard ms)
    by true e rest g =
        All-cons (λ (y : Framed). Tells size y.body) x (heard ms) (tells_one size x.body g.0) (rest (any_start (Announces size) (behind 0 x.body) 0 (heard (later_moves ms)) g.1))
    by false e rest g = All-cons (λ (y : Framed). Tells size y.body) x (heard ms) (begin_tells size x.body e) (rest g)
told_later size (m ∷ ms) h = told_later size ms h

pub keeps_facing : KeepsFacing
keeps_facing t ns after u js since c d ju jt reader writer short =
    let first = first_number t in
    let size = window u in
    let most = count (reads u (js ++ since)) in
    let ks = js ++ later_moves since in
    let ms = ns ++ later_moves after in
    let few : count (reads u ks) ≡ most = later_count u js since in
    let wrote : writes u ks ≡ writes u (js ++ since) = later_writes c u js since ju in
    let sent : writes t ms ≡ writes t (ns ++ after) = later_writes d t ns after jt in
    let named : InOrder (Each (Announces size)) 0 (reads t ms) =
    follows (Each (Announces size)) (again_announces size) t ns after u (js ++ since) writer (all_each (Announces size) 0 (writes u (js ++ since)) (announces_its_window u (js ++ since)).announced) in
    let numbers : Numbers first (reads u ks) = follows (NamesNext first) (again_next first) u js since t (ns ++ after) reader (numbers_its_transfers t (ns ++ after) short) in
    let reports : InOrder (Each (ReportsWithin first most)) 0 (writes u (js ++ since)) =
    subst (λ (n : ℕ). InOrder (Each (ReportsWithin first n)) 0 (writes u (js ++ since))) few
    (subst (λ (xs : List Framed). InOrder (Each (ReportsWithin first (count (reads u ks)))) 0 xs) wrote (all_each (ReportsWithin first (count (reads u ks))) 0 (writes u ks) (reports_no_more u ks first numbers))) in
    let told : InOrder (Each (ReportsWithin first most)) 0 (reads t ms) = follows (Each (ReportsWithin first most)) (again_within first most) t ns after u (js ++ since) writer reports in
    let split : InOrder (Each (Announces size)) 0 (reads t ns ++ heard (later_moves after)) = subst (λ (xs : List Framed). InOrder (Each (Announces size)) 0 xs) (reads_more t ns (later_moves after)) named in
    record {
      begun = each_all (Announces size) 0 (reads t ns) (order_first (Each (Announces size)) 0 (reads t ns) (heard (later_moves after)) split);
      told = told_later size after
          (any_start (Announces size) (counted 0 (reads t ns)) 0 (heard (later_moves after)) (order_last (Each (Announces size)) 0 (reads t ns) (heard (later_moves after)) split));
      kept = λ fits. subst (λ (xs : List Framed). count xs ≤ most + size) sent
          (keeps_what_it_hears t ms size most short fits (each_all (Announces size) 0 (reads t ms) named) (each_all (ReportsWithin first most) 0 (reads t ms) told));
    }
