-- The links of an end go on, and no more deliveries end among what waits there and what they answer.
use Rattle.std.specs.Prelude.{◌≡◌, ◌≤◌, ◌+◌, ℕ, nat_eq, Bool, true, false, List, [], ◌∷◌, ◌++◌, Option, Some, None, if◌then◌else◌, refl}
use Rattle.std.proofs.Common.{sym, ◌∙◌, ap, subst, arith}
use Rattle.std.specs.Map.{lookup, set_value}
use Rattle.indexmap.specs.IndexMap.{insert_entry}
use Rattle.amqp_parts.specs.declared.part.Part.{Part}
use Rattle.amqp_link_calls.specs.Called.{Called}
use Rattle.amqp_link_words.specs.declared.link_reply.LinkReply.{LinkReply}
use Rattle.amqp_link_words.specs.declared.link_reply.NamedLinkReply.{NamedLinkReply}
use Rattle.amqp_session_links.specs.State.{State as Place, none_attached}
use Rattle.amqp_links.specs.State.{State, place_of, link_of, with_place, stepped, at_place, entered_at, entered, answering, answering_all}
use Rattle.amqp_links.specs.Attaching.{standing}
use Rattle.link_lives.specs.Lives.{Event, Went}
use Rattle.served_connection.proofs.ListenLaws.Totals.{total, total_nil, total_push, total_append, weigh, weigh_set, weigh_inserted}
use Rattle.served_connection.proofs.ListenLaws.Weights.{is_given, given_of, of_part, of_side, of_called, of_inputs, of_place, of_links}
use Rattle.served_connection.proofs.ListenLaws.Moves.{lives_fall}
use Rattle.served_connection.proofs.ListenLaws.Quiet.{Quiet}

-- no more end behind it; so many more
abbrev pub Falls : State → State → Type 0
Falls a b = of_links b ≤ of_links a

abbrev pub Grows : ℕ → State → State → Type 0
Grows n a b = of_links b ≤ of_links a + n

pub falls_then : (a b c : State) → Falls a b → Falls b c → Falls a c
falls_then a b c p q = omega (arith, p, q)

pub grows_then : (n m : ℕ) (a b c : State) → Grows n a b → Grows m b c → Grows (n + m) a c
grows_then n m a b c p q = omega (arith, p, q)

pub grows_behind : (n : ℕ) (a b c : State) → Falls a b → Grows n b c → Grows n a c
grows_behind n a b c p q = omega (arith, p, q)

pub grows_before : (n : ℕ) (a b c : State) → Grows n a b → Falls b c → Grows n a c
grows_before n a b c p q = omega (arith, p, q)

pub falls_still : (s : State) → Falls s s
falls_still s = omega arith

pub falls_either : (b : Bool) (s t u : State) → Falls s t → Falls s u → Falls s (if b then t else u)
falls_either true s t u p q = p
falls_either false s t u p q = q

pub grows_either : (b : Bool) (n : ℕ) (s t u : State) → Grows n s t → Grows n s u → Grows n s (if b then t else u)
grows_either true n s t u p q = p
grows_either false n s t u p q = q

-- the parts of what is counted
sums : (r e p r' e' p' n : ℕ) → r' ≤ r + n → e' ≤ e → p' ≤ p → r' + (e' + p') ≤ (r + (e + p)) + n
sums r e p r' e' p' n a b c = omega (arith, a, b, c)

pub falls_same : (a b : State) → b.sessions ≡ a.sessions → b.endpoints ≡ a.endpoints → b.replies ≡ a.replies → Falls a b
falls_same a b s e r =
    let x : total given_of b.replies ≡ total given_of a.replies = ap (total given_of) r in
    let y : weigh of_called b.endpoints ≡ weigh of_called a.endpoints = ap (weigh of_called) e in
    let z : weigh of_place b.sessions ≡ weigh of_place a.sessions = ap (weigh of_place) s in
    omega (arith, x, y, z)

-- a call is answered
pub grows_answers : (name : ℕ) (x : LinkReply) (s : State) → Grows (is_given x) s (answering name x s)
grows_answers name x s =
    let r : NamedLinkReply = record { name = name; reply = x } in
    let more : total given_of (s.replies ++ r ∷ []) ≡ total given_of s.replies + is_given x = total_push given_of s.replies r in
    omega (arith, more)

pub falls_answers : (name : ℕ) (x : LinkReply) (s : State) → is_given x ≡ 0 → Falls s (answering name x s)
falls_answers name x s h = let g : Grows (is_given x) s (answering name x s) = grows_answers name x s in omega (arith, g, h)

-- ---- one link

pub went_falls : (l m : Called) (es : List Event) (ps : List Part) → Went l es ps m → Quiet l m → of_called m ≤ of_called l + total of_part ps
went_falls l m es ps w q = let f : of_side m.side ≤ of_side l.side + total of_part ps = lives_fall l.session l.side es ps m.side w.lives in omega (arith, f, q)

pub link_grows : (n link : ℕ) (l m : Called) (old new : State) → link_of link old ≡ Some l → of_called m ≤ of_called l + n → new.sessions ≡ old.sessions → new.endpoints ≡ set_value (nat_eq link) old.endpoints m
    → new.replies ≡ old.replies → Grows n old new
link_grows n link l m old new at le s e r =
    let x : total given_of new.replies ≡ total given_of old.replies = ap (total given_of) r in
    let y : weigh of_called new.endpoints ≡ weigh of_called (set_value (nat_eq link) old.endpoints m) = ap (weigh of_called) e in
    let z : weigh of_place new.sessions ≡ weigh of_place old.sessions = ap (weigh of_place) s in
    let w : weigh of_called (set_value (nat_eq link) old.endpoints m) + of_called l ≡ weigh of_called old.endpoints + of_called m = weigh_set of_called link old.endpoints l m at in
    omega (arith, x, y, z, w, le)

pub link_stays : (link : ℕ) (l m : Called) (es : List Event) (old new : State) → link_of link old ≡ Some l → Went l es [] m → Quiet l m → new.sessions ≡ old.sessions
    → new.endpoints ≡ set_value (nat_eq link) old.endpoints m → new.replies ≡ old.replies → Falls old new
link_stays link l m es old new at w q s e r =
    let f : of_called m ≤ of_called l + total of_part [] = went_falls l m es [] w q in
    let g : Grows (total of_part []) old new = link_grows (total of_part []) link l m old new at f s e r in
    omega (arith, g, total_nil of_part)

-- a link is made at which nothing waits
pub made_falls : (name : ℕ) (l : Called) (s : State) → of_called l ≡ 0 → Falls s (standing name l s)
made_falls name l s h = omega (arith, weigh_inserted of_called name l s.endpoints, h)

-- ---- what the links of a session share

with_place_grows : (n session : ℕ) (p q : Place) (s : State) → place_of session s ≡ Some p → of_place q ≤ of_place p + n → Grows n s (with_place session q s)
with_place_grows n session p q s at le = omega (arith, weigh_set of_place session s.sessions p q at, le)

-- so many fewer wait there
pub with_place_lowers : (n session : ℕ) (p q : Place) (s : State) → place_of session s ≡ Some p → of_place q + n ≤ of_place p → of_links (with_place session q s) + n ≤ of_links s
with_place_lowers n session p q s at le = omega (arith, weigh_set of_place session s.sessions p q at, le)

pub with_place_falls : (session : ℕ) (p q : Place) (s : State) → place_of session s ≡ Some p → q.early ≡ p.early → Falls s (with_place session q s)
with_place_falls session p q s at e =
    let same : of_place q ≡ of_place p = ap (weigh of_inputs) e in
    let g : Grows 0 s (with_place session q s) = with_place_grows 0 session p q s at (omega (arith, same)) in
    omega (arith, g)

stepped_grows : (n : ℕ) (o : Option Place) (session : ℕ) (f : Place → Place) (s : State) → place_of session s ≡ o → ((p : Place) → o ≡ Some p → of_place (f p) ≤ of_place p + n) → Grows n s (stepped o session f s)
stepped_grows n None session f s at h = omega arith
stepped_grows n (Some p) session f s at h = with_place_grows n session p (f p) s at (h p refl)

pub place_grows : (n session : ℕ) (f : Place → Place) (s : State) → ((p : Place) → of_place (f p) ≤ of_place p + n) → Grows n s (at_place session f s)
place_grows n session f s h = stepped_grows n (place_of session s) session f s refl (λ p e. h p)

pub place_stays : (session : ℕ) (f : Place → Place) (s : State) → ((p : Place) → (f p).early ≡ p.early) → Falls s (at_place session f s)
place_stays session f s same =
    let g : Grows 0 s (at_place session f s) = place_grows 0 session f s (λ p. let e : of_place (f p) ≡ of_place p = ap (weigh of_inputs) (same p) in omega (arith, e)) in
    omega (arith, g)

entered_falls_at : (o : Option Place) (session : ℕ) (s : State) → Falls s (entered_at o session s)
entered_falls_at None session s =
    let none : of_place none_attached ≡ 0 = total_nil _ in
    omega (arith, weigh_inserted of_place session none_attached s.sessions, none)
entered_falls_at (Some p) session s = falls_still s

pub entered_falls : (session : ℕ) (s : State) → Falls s (entered session s)
entered_falls session s = entered_falls_at (place_of session s) session s

-- answers that a link has had are told
pub answers_told_fall : (link : ℕ) (l m : Called) (xs : List NamedLinkReply) (s : State) → link_of link s ≡ Some l → of_called m + total given_of xs ≤ of_called l
    → Falls s (answering_all xs (record s { endpoints = set_value (nat_eq link) s.endpoints m }))
answers_told_fall link l m xs s at le = omega (arith, total_append given_of s.replies xs, weigh_set of_called link s.endpoints l m at, le)

-- so many fewer wait at a link
pub link_lowers : (n link : ℕ) (l m : Called) (s : State) → link_of link s ≡ Some l → n + of_called m ≤ of_called l
    → of_links (record s { endpoints = set_value (nat_eq link) s.endpoints m }) + n ≤ of_links s
link_lowers n link l m s at le = omega (arith, weigh_set of_called link s.endpoints l m at, le)
