-- The sessions of an end and their links hand to one another until nothing is left.
use Rattle.std.specs.Prelude.{IfOk, if◌then◌else◌}
use Rattle.std.proofs.Common.{◌≡◌, ◌⊎◌, ◌∙◌, ◌≤◌, ◌+◌, ◌^◌, inl, inr, ℕ, List, [], ◌∷◌, ◌++◌, Bool, true, false, Option, Some, None, Result, Ok, Err, refl, sym, ap, subst, arith}
use Rattle.amqp_wire.specs.declared.link.Link.{Ghosts}
use Rattle.amqp_links.specs.amqp_link_calls.Called.{Called}
use Rattle.amqp_links.specs.declared.timed.Awaited.{Awaited}
use Rattle.amqp_links.specs.declared.timed.Awaited.TheVariants.{Credit, Outcome, Detach}
use Rattle.amqp_links.specs.declared.timed.TimedCall.{TimedCall}
use Rattle.amqp_links.specs.State.{State as Links, seen as linked, link_of}
use Rattle.amqp_links.specs.Timing.{is_due, elapsed_if, outcome_elapsed, part_elapsed, elapsed, looked_at, all_looked, looked}
use Rattle.amqp_peer.specs.Peering.{Peering}
use Rattle.amqp_sessions.specs.amqp_calls.declared.reply.NamedReply.{NamedReply}
use Rattle.amqp_sessions.specs.amqp_link_words.declared.link_call.LinkCall.{LinkCall}
use Rattle.amqp_sessions.specs.amqp_link_words.amqp_sender.declared.sender.DeliveryToken.{DeliveryToken}
use Rattle.amqp_sessions.specs.State.{State, seen}
use Rattle.amqp_words.specs.declared.call.Call.{Call as ConnectionCall}
use Rattle.amqp_end.specs.declared.end.End.{End}
use Rattle.amqp_end.specs.Deeds.{Deed, IsDeed, Did}
use Rattle.amqp_end.specs.Goes.{Goes as Going}
use Rattle.amqp_end.specs.Handed.{handed_of, handed_by, IsHanded, HandedOver, HandsAll, KeepsBetween, HearsOne, WritesOne, HandsOne}
use Rattle.amqp_end.specs.Taken.{TakenOut}

-- ---- what was done

did_as : {L : Type 0} (link : Ghosts L) (at : ℕ) (p p' q : Peering L) (s s' t : State) (l l' m : Links) (ds : List Deed) → p' ≡ q → s' ≡ t → l' ≡ m → Did link at p s l ds q t m → Did link at p s l ds p' s' l'
did_as {L} link at p p' q s s' t l l' m ds e f g x =
    subst (λ (z : Peering L). Did link at p s l ds z s' l') (sym e) (subst (λ (z : State). Did link at p s l ds q z l') (sym f) (subst (λ (z : Links). Did link at p s l ds q t z) (sym g) x))

did_then : {L : Type 0} (link : Ghosts L) (at : ℕ) (p q r : Peering L) (s t u : State) (l m n : Links) (ds es : List Deed) → Did link at p s l ds q t m → Did link at q t m es r u n → Did link at p s l (es ++ ds) r u n
did_then link at p q r s t u l m n ds [] x y = did_as link at p r q s u t l n m ds y.0 y.1 y.2 x
did_then link at p q r s t u l m n ds (e ∷ es) x y = (y.0, y.1, y.2, did_then link at p q y.0 s t y.1 l m y.2 ds es x y.3, y.4)

handed_then : (es ds : List Deed) → handed_by (es ++ ds) ≡ handed_by es + handed_by ds
handed_then [] ds = omega arith
handed_then (e ∷ es) ds = let rest : handed_by (es ++ ds) ≡ handed_by es + handed_by ds = handed_then es ds in omega (arith, rest)

-- ---- so many things were handed over

pub over_none : {L : Type 0} (link : Ghosts L) (at : ℕ) (a : End L) → HandedOver link at 0 a a
over_none link at a = record { deeds = []; did = (refl, refl, refl); enough = omega arith }

-- one deed
pub over_deed : {L : Type 0} (link : Ghosts L) (at : ℕ) (d : Deed) (a b : End L) → IsDeed link at a.connection (seen a.sessions) (linked a.links) d b.connection (seen b.sessions) (linked b.links) → HandedOver link at (handed_of d) a b
over_deed link at d a b h = record { deeds = d ∷ []; did = (a.connection, seen a.sessions, linked a.links, (refl, refl, refl), h); enough = omega arith }

pub over_then : {L : Type 0} (link : Ghosts L) (at many more : ℕ) (a b c : End L) → HandedOver link at many a b → HandedOver link at more b c → HandedOver link at (many + more) a c
over_then link at many more a b c x y =
    let sum : handed_by (y.deeds ++ x.deeds) ≡ handed_by y.deeds + handed_by x.deeds = handed_then y.deeds x.deeds in
    record {
      deeds = y.deeds ++ x.deeds;
      did = did_then link at a.connection b.connection c.connection (seen a.sessions) (seen b.sessions) (seen c.sessions) (linked a.links) (linked b.links) (linked c.links) x.deeds y.deeds x.did y.did;
      enough = omega (arith, sum, x.enough, y.enough);
    }

pub over_fewer : {L : Type 0} (link : Ghosts L) (at few many : ℕ) (a b : End L) → few ≤ many → HandedOver link at many a b → HandedOver link at few a b
over_fewer link at few many a b less x = record { deeds = x.deeds; did = x.did; enough = omega (arith, less, x.enough) }

-- an end goes on, whatever is handed over in it
over_going : {L : Type 0} (link : Ghosts L) (at : ℕ) {call : Option ℕ} {cs : List (ℕ × ConnectionCall)} {qs : List (ℕ × LinkCall)} (a b : End L) → Going link at call cs qs a b → HandedOver link at 0 a b
over_going link at a b g = record { deeds = g.deeds; did = g.did; enough = omega arith }

pub over_before : {L : Type 0} (link : Ghosts L) (at many : ℕ) {call : Option ℕ} {cs : List (ℕ × ConnectionCall)} {qs : List (ℕ × LinkCall)} (a b c : End L) → Going link at call cs qs a b → HandedOver link at many b c → HandedOver link at many a c
over_before link at many a b c g x = over_fewer link at many (0 + many) a c (omega arith) (over_then link at 0 many a b c (over_going link at a b g) x)

over_behind : {L : Type 0} (link : Ghosts L) (at many : ℕ) {call : Option ℕ} {cs : List (ℕ × ConnectionCall)} {qs : List (ℕ × LinkCall)} (a b c : End L) → HandedOver link at many a b → Going link at call cs qs b c → HandedOver link at many a c
over_behind link at many a b c x g = over_fewer link at many (many + 0) a c (omega arith) (over_then link at many 0 a b c x (over_going link at b c g))

-- ---- nothing is left

pub between_none : {L : Type 0} (a : End L) → KeepsBetween a a
between_none a = record { incoming = refl; output = refl }

pub between_then : {L : Type 0} (a b c : End L) → KeepsBetween a b → KeepsBetween b c → KeepsBetween a c
between_then a b c x y = record { incoming = y.incoming ∙ x.incoming; output = y.output ∙ x.output }

-- the sessions go on, and have the same for their links
pub between_sessions : {L : Type 0} (a b : End L) → (seen b.sessions).incoming ≡ (seen a.sessions).incoming → linked b.links ≡ linked a.links → KeepsBetween a b
between_sessions a b e f = record { incoming = e; output = ap (λ (z : Links). z.output) f }

-- answers are taken out
pub between_taken : {L : Type 0} (a m b : End L) (answers : List NamedReply) → TakenOut a m answers → seen b.sessions ≡ seen m.sessions → linked b.links ≡ linked m.links → KeepsBetween a b
between_taken a m b answers o s l = record { incoming = ap (λ (z : State). z.incoming) (s ∙ o.sessions); output = ap (λ (z : Links). z.output) (l ∙ o.links) }

still : {L : Type 0} (a b : End L) → KeepsBetween a b → IsHanded a → IsHanded b
still a b k h = record { heard = k.incoming ∙ h.heard; written = k.output ∙ h.written }

pub kept_still : {L : Type 0} (link : Ghosts L) (at : ℕ) (a b : End L) → KeepsBetween a b → IsHanded a → HandsAll link at a b
kept_still link at a b k h = inl (still a b k h)

-- an end goes on before it
pub all_before : {L : Type 0} (link : Ghosts L) (at : ℕ) {call : Option ℕ} {cs : List (ℕ × ConnectionCall)} {qs : List (ℕ × LinkCall)} (a b c : End L) → Going link at call cs qs a b → HandsAll link at b c → HandsAll link at a c
all_before link at a b c g (inl h) = inl h
all_before link at a b c g (inr h) = inr (over_before link at (2 ^ 62) a b c g h)

-- an end goes on behind it, and keeps that nothing is left
pub all_then : {L : Type 0} (link : Ghosts L) (at : ℕ) {call call' : Option ℕ} {cs cs' : List (ℕ × ConnectionCall)} {qs qs' : List (ℕ × LinkCall)} (a b c : End L) → Going link at call cs qs a b → HandsAll link at a b → Going link at call' cs' qs' b c → (IsHanded b → HandsAll link at b c) → HandsAll link at a c
all_then link at a b c g (inl h) g' f = all_before link at a b c g (f h)
all_then link at a b c g (inr h) g' f = inr (over_behind link at (2 ^ 62) a b c h g')

pub all_still : {L : Type 0} (link : Ghosts L) (at : ℕ) {call : Option ℕ} {cs : List (ℕ × ConnectionCall)} {qs : List (ℕ × LinkCall)} (a b c : End L) → HandsAll link at a b → Going link at call cs qs b c → KeepsBetween b c → HandsAll link at a c
all_still link at a b c (inl h) g k = inl (still b c k h)
all_still link at a b c (inr h) g k = inr (over_behind link at (2 ^ 62) a b c h g)

-- ---- a thing is handed over, or there is none

one_if : (b : Bool) (P : Bool → Type 0) → P b → (c : Bool) → b ≡ c → P c
one_if b P x c e = subst P e x

hands_one : {L : Type 0} (link : Ghosts L) (a b c : End L) (more : Bool) → ((at : ℕ) → Going link at None [] [] a b) → (seen b.sessions).incoming ≡ [] → WritesOne link b c more → HandsOne link a c more
hands_one link a b c true g e x = λ at. over_before link at 1 a b c (g at) (x at)
hands_one link a b c false g e x = record { heard = x.1 ∙ e; written = x.0 }

-- where nothing was to be heard the links may write
pub hands_after : {L E : Type 0} (link : Ghosts L) (a b c : End L) (heard : Bool) (r : Result Bool E) → ((at : ℕ) → Going link at None [] [] a b) → heard ≡ false → HearsOne link a b heard → IfOk r (WritesOne link b c) → IfOk r (HandsOne link a c)
hands_after link a b c heard (Ok more) g none x y = hands_one link a b c more g (one_if heard (HearsOne link a b) x false none) y
hands_after link a b c heard (Err e) g none x y = tt

pub hands_heard : {L : Type 0} (link : Ghosts L) (a b : End L) (heard : Bool) → heard ≡ true → HearsOne link a b heard → HandsOne link a b true
hands_heard link a b heard some x = one_if heard (HearsOne link a b) x true some

pub handed_one : {L : Type 0} (link : Ghosts L) (at : ℕ) (a b : End L) (more : Bool) → more ≡ true → HandsOne link a b more → HandedOver link at 1 a b
handed_one link at a b more some x = one_if more (HandsOne link a b) x true some at

pub handed_none : {L : Type 0} (link : Ghosts L) (a b : End L) (more : Bool) → more ≡ false → HandsOne link a b more → IsHanded b
handed_none link a b more none x = one_if more (HandsOne link a b) x false none

-- ---- a look at the clock writes nothing

either_output : (b : Bool) (s t u : Links) → t.output ≡ s.output → u.output ≡ s.output → (if b then t else u).output ≡ s.output
either_output true s t u e f = e
either_output false s t u e f = f

outcome_output : (o : Option Called) (name link : ℕ) (token : DeliveryToken) (s : Links) → (outcome_elapsed o name link token s).output ≡ s.output
outcome_output None name link token s = refl
outcome_output (Some l) name link token s = either_output _ s _ _ refl refl

part_output : (o : Option Called) (name link : ℕ) (s : Links) → (part_elapsed o name link s).output ≡ s.output
part_output None name link s = refl
part_output (Some l) name link s = either_output _ s _ _ refl refl

elapsed_output : (x : Awaited) (name link : ℕ) (s : Links) → (elapsed x name link s).output ≡ s.output
elapsed_output (Credit message) name link s = refl
elapsed_output (Outcome token) name link s = outcome_output (link_of link s) name link token s
elapsed_output Detach name link s = part_output (link_of link s) name link s

all_output : (cs : List (ℕ × TimedCall)) (s : Links) → (all_looked cs s).output ≡ s.output
all_output [] s = refl
all_output (c ∷ cs) s =
    all_output cs (looked_at c.0 c.1 s) ∙ either_output (is_due c.1.timer s.moment) s _ _ (elapsed_output c.1.awaited c.1.timer.name c.0 s) refl

pub looked_output : (s : Links) → (looked s).output ≡ s.output
looked_output s = all_output s.timed (record s { timed = [] })
