use Rattle.std.proofs.Common.{rules, ◌≡◌, ℕ, ◌⊎◌, List, [], ◌∷◌, ◌++◌, length, refl, sym, ◌∙◌, subst, inl, ⊎_elim}
use Rattle.book_lock.specs.Begins.{IsAmong}
use Rattle.book_lock.specs.Seats.{Seat, AllAt, AllOwn, AllSeen, numbers_of}
use Rattle.book_lock.proofs.Beginning.{among_left, begins_same, follows_more, follows_same}
use Rattle.book_lock.proofs.Handing.{at_last, left_step, here_step, none_own, none_here, none_seen, seen_step}
use Rattle.book_lock.proofs.closing.meet_all.Goals as goal

pub loop-seat-init : goal.loop-seat-init
loop-seat-init g c = record {
  table = refl;
  idle = c.requires.idle;
  others = c.requires.others;
  within = λ n a. a;
  here = λ n a. inl a;
  follows = follows_same c.args.place.now.me.0.front c.args.place.now.me.0.front c.args.place.now.me.0.numbers refl;
  left = λ h f a. a;
  seen = λ h f a. a;
}

pub meet-requires-clause-other : goal.meet-requires-clause-other
meet-requires-clause-other g c =
    (at_last c.args.lock.now.table_id c.pop.new.self.items c.in-Some.seat (subst (λ (ss : List Seat). AllAt c.args.lock.now.table_id ss) c.in-Some.ensures.items c.loop-seat.invariant.others)).1

pub loop-seat-preserved : goal.loop-seat-preserved
loop-seat-preserved g c =
    let xs = c.pop.new.self.items in
    let s = c.in-Some.seat in
    let e : c.loop-seat.seats.items ≡ xs ++ s ∷ [] = c.in-Some.ensures.items in
    let i = c.loop-seat.invariant in
    let a = at_last c.args.lock.now.table_id xs s (subst (λ (ss : List Seat). AllAt c.args.lock.now.table_id ss) e i.others) in
    let ns = c.loop-seat.place.me.0.numbers in
    let ms = c.meet.new.place.me.0.numbers in
    let more : (n : ℕ) → IsAmong n ns → IsAmong n ms = λ n b. subst (IsAmong n) (sym c.meet.ensures.numbers) (among_left n ns (s.number ∷ []) b) in
    record {
      table = c.meet.ensures.table ∙ i.table;
      idle = c.meet.ensures.idle;
      others = a.0;
      within = λ n b. more n (i.within n b);
      here = λ n b. here_step n ns ms xs s c.meet.ensures.numbers (subst (λ (ss : List Seat). IsAmong n (numbers_of ss) ⊎ IsAmong n ns) e (i.here n b));
      follows = follows_more c.args.place.now.me.0.front c.loop-seat.place.me.0.front c.meet.new.place.me.0.front c.args.place.now.me.0.numbers ns i.within i.follows c.meet.ensures.follows;
      left = left_step c.loop-seat.place.me.0.front c.meet.new.place.me.0.front ns ms c.args.seats.items xs s
          (λ h b r. i.left h b (subst (λ (ss : List Seat). AllOwn h ss) (sym e) r)) c.meet.ensures.numbers c.meet.ensures.follows c.meet.ensures.own;
      seen = seen_step c.loop-seat.place.me.0.front c.meet.new.place.me.0.front c.args.seats.items xs s
          (λ h b r. i.seen h b (subst (λ (ss : List Seat). AllSeen h ss) (sym e) r)) c.meet.ensures.follows.0 c.meet.ensures.seen;
    }

pub returns-clause-numbers : goal.returns-clause-numbers
returns-clause-numbers g c n =
    let none : length c.loop-seat.seats.items ≡ 0 = search rules in
    let i = c.loop-seat.invariant in
    ⊎_elim (λ a. i.within n a) (λ a. none_here n c.loop-seat.seats.items c.loop-seat.place.me.0.numbers none (i.here n a))

pub returns-clause-own : goal.returns-clause-own
returns-clause-own g c =
    let none : length c.loop-seat.seats.items ≡ 0 = search rules in
    let f = c.loop-seat.place.me.0.front in
    c.loop-seat.invariant.left f (follows_same f f c.loop-seat.place.me.0.numbers refl) (none_own f c.loop-seat.seats.items none)

pub returns-clause-seen : goal.returns-clause-seen
returns-clause-seen g c =
    let none : length c.loop-seat.seats.items ≡ 0 = search rules in
    let f = c.loop-seat.place.me.0.front in
    c.loop-seat.invariant.seen f (begins_same f f refl) (none_seen f c.loop-seat.seats.items none)
