-- Steps of the links of an end: the tables agree with the links behind each, and a relation that has each step has all of them together.
use Rattle.std.specs.Prelude.{◌≡◌, ◌⊎◌, ℕ, nat_eq, Bool, true, false, List, [], ◌∷◌, ◌++◌, map, Option, Some, None, Ok, if◌then◌else◌, refl}
use Rattle.std.proofs.Common.{inl, inr, sym, ◌∙◌, ap}
use Rattle.std.proofs.lemmas.List.{append-nil}
use Rattle.std.specs.Map.{set_value}
use Rattle.amqp_composites.specs.declared.modes.Role.{Role}
use Rattle.amqp_link.specs.declared.endpoint.LinkPhase.{LinkPhase}
use Rattle.amqp_link.specs.declared.endpoint.LinkPhase.TheVariants as phase
use Rattle.amqp_link.specs.Link as link
use Rattle.amqp_link_calls.specs.Called.{Called}
use Rattle.amqp_link_calls.specs.Side.{link_of as link_in}
use Rattle.amqp_link_tables.specs.Calls.{allocation, attached}
use Rattle.amqp_link_tables.proofs.Apart.{has_it}
use Rattle.amqp_performatives.specs.declared.attach.Attach.{Attach}
use Rattle.amqp_session_links.specs.declared.place.WaitingAccept.{WaitingAccept}
use Rattle.amqp_session_links.specs.Claims.{released, joined, parted}
use Rattle.amqp_session_links.specs.Incoming.{attach_pushed, attach_taken}
use Rattle.amqp_session_links.specs.State.{State as Place, awaiting_attach, accept_taken}
use Rattle.amqp_links.specs.Attaching.{standing, joining}
use Rattle.amqp_links.specs.Parts.{Astray, handle_of, is_heard, is_over, output_of}
use Rattle.amqp_links.specs.State.{State, place_of, link_of, with_link, with_place, stepped, at_place, entered_at, entered}
use Rattle.amqp_parts.specs.declared.part.Part.{Part}
use Rattle.session_laws.specs.Messages.{transfers}
use Rattle.link_lives.specs.Lives.{Event, Went}
use Rattle.link_lives.specs.Logs.{Of, accepts_as}
use Rattle.link_lives.specs.Logs as logs
use Rattle.link_tables_agree.specs.Sound.{own_at, IsUnused, AreSound}
use Rattle.link_tables_agree.proofs.Places.{Never, No, Calm, calm_changes, released_changes, IsGot, got_changes, joined_changes, parted_changes, taken_changes, attaches_change}
use Rattle.link_tables_agree.proofs.Turns.{Turn, Changes, IsFresh, IsFreed, turn_at, turned_sound, place_here}
use Rattle.link_tables_agree.proofs.Steps.{sound_same, still_sound, went_sound, IsMade, made_sound, awaiting_sound, entered_turn}

-- a link of that name gets that handle of the session
pub record IsClaim (name : List ℕ) (role : Role) (max link handle : ℕ) (p q : Place) : Type 0 where
  pub free : allocation name role max p.table ≡ Ok handle
  pub table : q.table ≡ attached handle name role link p.table
  pub accepting : q.accepting ≡ p.accepting
  pub attaches : q.attaches ≡ p.attaches

-- a link that is made is of that session, has that handle, and no Transfer to write
pub record IsFor (session handle : ℕ) (l : Called) : Type 0 where
  pub on_session : l.session ≡ session
  pub has : handle_of l ≡ handle
  pub silent : transfers (output_of l) ≡ []

-- the link is made under that name, with a handle that it gets
abbrev pub begins : ℕ → Called → ℕ → Place → State → State
begins name l session q s = standing name l (with_place session q s)

-- so is one that answers an Attach of the peer, which has waited
abbrev pub accepts : ℕ → Called → ℕ → Place → Attach → State → State
accepts name l session q x s = joining session x.handle name (standing name l (at_place session attach_taken (with_place session q s)))

-- A relation that has each step of the links. Which handles of the peer may lead to another link, which links they may lead to, and
-- under which names links may be made, is asked for.
pub record Walk : Type 1 where
  pub May : ℕ → ℕ → Type 0
  pub Joins : ℕ → Type 0
  pub Makes : ℕ → Type 0
  pub R : State → State → Type 0
  pub still : (s : State) → R s s
  pub next : (a b c : State) → R a b → R b c → R a c
  pub same : (s t : State) → t.sessions ≡ s.sessions → t.endpoints ≡ s.endpoints → t.output ≡ s.output → R s t
  pub goes : (link : ℕ) (l m : Called) (es : List Event) (ps : List Part) (s t : State) → AreSound s → link_of link s ≡ Some l → Went l es ps m → t.sessions ≡ s.sessions
      → t.endpoints ≡ set_value (nat_eq link) s.endpoints m → t.output ≡ s.output ++ logs.told (map (Of link) es) → R s t
  pub strays : (session : ℕ) (s : State) → R s (record s { output = s.output ++ Astray session ∷ [] })
  pub calm : (session : ℕ) (p q : Place) (s : State) → place_of session s ≡ Some p → Calm p q → R s (with_place session q s)
  pub enters : (session : ℕ) (s : State) → place_of session s ≡ None → R s (entered_at None session s)
  pub frees : (link : ℕ) (l : Called) (p : Place) (s : State) → AreSound s → link_of link s ≡ Some l → is_over l ≡ true → place_of l.session s ≡ Some p
      → R s (with_place l.session (released (handle_of l) link p) s)
  pub reclaims : (link : ℕ) (l : Called) (name : List ℕ) (role : Role) (max handle : ℕ) (p q : Place) (s : State) → link_of link s ≡ Some l → place_of l.session s ≡ Some p
      → IsClaim name role max link handle p q → R s (with_place l.session q s)
  pub parts : (session remote : ℕ) (p : Place) (s : State) → AreSound s → May session remote → place_of session s ≡ Some p → R s (with_place session (parted remote p) s)
  pub joins : (session remote link : ℕ) (p : Place) (s : State) → May session remote → Joins link → place_of session s ≡ Some p → R s (with_place session (joined remote link p) s)
  pub pushes : (session : ℕ) (x : Attach) (p : Place) (s : State) → May session x.handle → place_of session s ≡ Some p → R s (with_place session (attach_pushed x p) s)
  pub awaits : (session : ℕ) (accept : WaitingAccept) (p : Place) (s : State) → Makes accept.name → IsUnused accept.name s → place_of session s ≡ Some p → R s (with_place session (awaiting_attach accept p) s)
  pub drops : (session : ℕ) (p : Place) (s : State) → place_of session s ≡ Some p → R s (with_place session (accept_taken p) s)
  pub makes : (name : ℕ) (l : Called) (session handle : ℕ) (text : List ℕ) (role : Role) (max : ℕ) (p q : Place) (s : State) → AreSound s → Makes name → IsUnused name s → place_of session s ≡ Some p
      → IsClaim text role max name handle p q → IsFor session handle l → R s (begins name l session q s)
  pub meets : (name : ℕ) (l : Called) (session handle : ℕ) (text : List ℕ) (role : Role) (max : ℕ) (p q : Place) (x : Attach) (s : State) → AreSound s → Makes name → IsUnused name s → place_of session s ≡ Some p
      → IsClaim text role max name handle p q → IsFor session handle l → May session x.handle → R s (accepts name l session q x s)

-- the tables agree behind it
pub record Walked (P : Walk) (s t : State) : Type 0 where
  pub sound : AreSound t
  pub goes : P.R s t

-- where they did before
abbrev pub Goes : Walk → State → State → Type 0
Goes P s t = AreSound s → Walked P s t

pub at_some : (session : ℕ) (f : Place → Place) (p : Place) (s : State) → place_of session s ≡ Some p → at_place session f s ≡ with_place session (f p) s
at_some session f p s at = ap (λ o. stepped o session f s) at

-- a link that is over is not heard
pub over_unheard : (p : LinkPhase) → link.is_over p ≡ true → link.is_heard p ≡ true → ⊥
over_unheard phase.Detached h k = cc
over_unheard phase.HalfClosed h k = cc
over_unheard phase.HandleWanted h k = cc
over_unheard p h k = cc

-- ---- the tables agree behind a link that gets a handle

-- the links and the calls that wait are the same behind a claim
pub claim_turn : (session : ℕ) (name : List ℕ) (role : Role) (max link handle : ℕ) (p q : Place) (s : State) → place_of session s ≡ Some p → IsClaim name role max link handle p q
    → Turn (IsGot session handle link) No s (with_place session q s)
claim_turn session name role max link handle p q s at c =
    turn_at (IsGot session handle link) No session p q s at (got_changes session handle link max name role p q c.free c.table c.accepting)

-- no link of that name stands yet
claimed_sound : (session : ℕ) (name : List ℕ) (role : Role) (max link handle : ℕ) (p q : Place) (s : State) → AreSound s → IsUnused link s → place_of session s ≡ Some p → IsClaim name role max link handle p q → AreSound (with_place session q s)
claimed_sound session name role max link handle p q s sound unused at c =
    turned_sound (IsGot session handle link) No s (with_place session q s) (claim_turn session name role max link handle p q s at c)
    (λ x h n f. record { stands = λ l is. absurd (none n l f.2 is); waits = λ other h. waits n f.2 other h }) (λ n f. absurd f) sound
  where
    none : (n : ℕ) (l : Called) → n ≡ link → link_of n s ≡ Some l → ⊥
    none n l e is = let f : None ≡ Some l = sym unused.unled.none ∙ (ap (λ k. link_of k s) (sym e) ∙ is) in cc

    waits : (n : ℕ) → n ≡ link → (other : ℕ) → accepts_as n (place_of other s) ≡ true → ⊥
    waits n e other h = let f : false ≡ true = sym (unused.free other) ∙ (ap (λ k. accepts_as k (place_of other s)) (sym e) ∙ h) in cc

-- what leads to it, and that no call of its name waits, behind the claim
claim_made : (name : ℕ) (l : Called) (session handle : ℕ) (text : List ℕ) (role : Role) (max : ℕ) (p q : Place) (s : State) → IsUnused name s → place_of session s ≡ Some p → IsClaim text role max name handle p q
    → IsFor session handle l → IsMade name l (with_place session q s)
claim_made name l session handle text role max p q s unused at c is =
    let t = claim_turn session text role max name handle p q s at c in
    record {
      led = λ x h led. own x h (t.own x h name led);
      holds = ap (λ h. own_at h (place_of l.session (with_place session q s))) is.has ∙ (ap (λ x. own_at handle (place_of x (with_place session q s))) is.on_session ∙ (ap (own_at handle) (place_here session p q s at) ∙ got));
      silent = is.silent;
      free = λ x. free x (accepts_as name (place_of x (with_place session q s))) refl (t.accepts x name);
    }
  where
    got : own_at handle (Some q) ≡ Some name
    got = ap (λ t. own_at handle (Some (record q { table = t }))) c.table ∙ has_it text role handle name p.table

    own : (x h : ℕ) → (own_at h (place_of x s) ≡ Some name) ⊎ IsGot session handle name x h name → (x ≡ l.session) × (h ≡ handle_of l)
    own x h (inl led) = absurd (unused.unled.own x h led)
    own x h (inr f) = (f.0 ∙ sym is.on_session, f.1 ∙ sym is.has)

    free : (x : ℕ) (b : Bool) → accepts_as name (place_of x (with_place session q s)) ≡ b → (accepts_as name (place_of x (with_place session q s)) ≡ true → accepts_as name (place_of x s) ≡ true)
        → accepts_as name (place_of x (with_place session q s)) ≡ false
    free x false e f = e
    free x true e f = let g : false ≡ true = sym (unused.free x) ∙ f e in absurd cc

-- a state in which the same handles lead to the same links, and no call begins to wait
made_then : (name : ℕ) (l : Called) (s t : State) → Turn Never No s t → IsMade name l s → IsMade name l t
made_then name l s t c m =
    record {
      led = λ session handle h. led session handle (c.own session handle name h);
      holds = holds (c.keeps l.session (handle_of l) name m.holds);
      silent = m.silent;
      free = λ session. free session (accepts_as name (place_of session t)) refl;
    }
  where
    led : (session handle : ℕ) → (own_at handle (place_of session s) ≡ Some name) ⊎ ⊥ → (session ≡ l.session) × (handle ≡ handle_of l)
    led session handle (inl h) = m.led session handle h
    led session handle (inr f) = absurd f

    holds : (own_at (handle_of l) (place_of l.session t) ≡ Some name) ⊎ ⊥ → own_at (handle_of l) (place_of l.session t) ≡ Some name
    holds (inl h) = h
    holds (inr f) = absurd f

    free : (session : ℕ) (b : Bool) → accepts_as name (place_of session t) ≡ b → accepts_as name (place_of session t) ≡ false
    free session false e = e
    free session true e = let g : false ≡ true = sym (m.free session) ∙ c.accepts session name e in absurd cc

-- a step of one place that leaves handles and calls, where the session is known
pub stepped_turn : (o : Option Place) (session : ℕ) (f : Place → Place) (s : State) → place_of session s ≡ o → ((p : Place) → Changes Never No session p (f p)) → Turn Never No s (stepped o session f s)
stepped_turn None session f s at c =
    record { endpoints = refl; own = λ x h n led. inl led; keeps = λ x h n led. inl led; accepts = λ x n h. h; keyed = λ k. k }
stepped_turn (Some p) session f s at c = turn_at Never No session p (f p) s at (c p)

begins_sound : (name : ℕ) (l : Called) (session handle : ℕ) (text : List ℕ) (role : Role) (max : ℕ) (p q : Place) (s : State) → AreSound s → IsUnused name s → place_of session s ≡ Some p → IsClaim text role max name handle p q
    → IsFor session handle l → AreSound (begins name l session q s)
begins_sound name l session handle text role max p q s sound unused at c is =
    made_sound name l (with_place session q s) (claim_made name l session handle text role max p q s unused at c is) (claimed_sound session text role max name handle p q s sound unused at c)

joining_sound : (session remote link : ℕ) (s : State) → AreSound s → AreSound (joining session remote link s)
joining_sound session remote link s sound =
    still_sound s (joining session remote link s) (stepped_turn (place_of session s) session (joined remote link) s refl (λ p. joined_changes session remote link p)) sound

accepts_sound : (name : ℕ) (l : Called) (session handle : ℕ) (text : List ℕ) (role : Role) (max : ℕ) (p q : Place) (x : Attach) (s : State) → AreSound s → IsUnused name s → place_of session s ≡ Some p
    → IsClaim text role max name handle p q → IsFor session handle l → AreSound (accepts name l session q x s)
accepts_sound name l session handle text role max p q x s sound unused at c is =
    let a = with_place session q s in
    let b = at_place session attach_taken a in
    let t = stepped_turn (place_of session a) session attach_taken a refl (λ r. attaches_change session r (attach_taken r) refl refl) in
    joining_sound session x.handle name (standing name l b)
    (made_sound name l b (made_then name l a b t (claim_made name l session handle text role max p q s unused at c is)) (still_sound a b t (claimed_sound session text role max name handle p q s sound unused at c)))

-- ---- steps

module _ (P : Walk) where
  pub goes_still : (s : State) → Goes P s s
  goes_still s = λ h. record { sound = h; goes = P.still s }

  pub goes_then : (a b c : State) → Goes P a b → Goes P b c → Goes P a c
  goes_then a b c p q = λ h. let x = p h in let y = q x.sound in record { sound = y.sound; goes = P.next a b c x.goes y.goes }

  pub goes_same : (s t : State) → t.sessions ≡ s.sessions → t.endpoints ≡ s.endpoints → t.output ≡ s.output → Goes P s t
  goes_same s t a e o = λ h. record { sound = sound_same s t a e h; goes = P.same s t a e o }

  pub goes_either : (b : Bool) (s t u : State) → Goes P s t → Goes P s u → Goes P s (if b then t else u)
  goes_either true s t u p q = p
  goes_either false s t u p q = q

  pub link_goes : (link : ℕ) (l m : Called) (es : List Event) (ps : List Part) (s t : State) → link_of link s ≡ Some l → Went l es ps m → t.sessions ≡ s.sessions → t.endpoints ≡ set_value (nat_eq link) s.endpoints m
      → t.output ≡ s.output ++ logs.told (map (Of link) es) → Goes P s t
  link_goes link l m es ps s t at went a e o = λ h. record { sound = sound_same (with_link link m s) t a e (went_sound link l m es ps s at went h); goes = P.goes link l m es ps s t h at went a e o }

  -- it tells nothing
  pub link_stays : (link : ℕ) (l m : Called) (s t : State) → link_of link s ≡ Some l → Went l [] [] m → t.sessions ≡ s.sessions → t.endpoints ≡ set_value (nat_eq link) s.endpoints m → t.output ≡ s.output → Goes P s t
  link_stays link l m s t at went a e o = link_goes link l m [] [] s t at went a e (o ∙ sym (append-nil s.output))

  pub goes_strayed : (session : ℕ) (s : State) → Goes P s (record s { output = s.output ++ Astray session ∷ [] })
  goes_strayed session s = λ h. record { sound = sound_same s _ refl refl h; goes = P.strays session s }

  pub with_place_calm : (session : ℕ) (p q : Place) (s : State) → place_of session s ≡ Some p → Calm p q → Goes P s (with_place session q s)
  with_place_calm session p q s at c = λ h. record { sound = still_sound s (with_place session q s) (turn_at Never No session p q s at (calm_changes session p q c)) h; goes = P.calm session p q s at c }

  stepped_calm : (o : Option Place) (session : ℕ) (f : Place → Place) (s : State) → place_of session s ≡ o → ((p : Place) → Calm p (f p)) → Goes P s (stepped o session f s)
  stepped_calm None session f s at c = goes_still s
  stepped_calm (Some p) session f s at c = with_place_calm session p (f p) s at (c p)

  pub place_stays : (session : ℕ) (f : Place → Place) (s : State) → ((p : Place) → Calm p (f p)) → Goes P s (at_place session f s)
  place_stays session f s c = stepped_calm (place_of session s) session f s refl c

  entered_goes_at : (o : Option Place) (session : ℕ) (s : State) → place_of session s ≡ o → Goes P s (entered_at o session s)
  entered_goes_at None session s at = λ h. record { sound = still_sound s (entered_at None session s) (entered_turn None session s at) h; goes = P.enters session s at }
  entered_goes_at (Some p) session s at = goes_still s

  pub entered_goes : (session : ℕ) (s : State) → Goes P s (entered session s)
  entered_goes session s = entered_goes_at (place_of session s) session s refl

  -- ---- handles of this end

  released_at : (o : Option Place) (link : ℕ) (l : Called) (s : State) → link_of link s ≡ Some l → is_over l ≡ true → transfers (output_of l) ≡ [] → place_of l.session s ≡ o → Goes P s (stepped o l.session (released (handle_of l) link) s)
  released_at None link l s is over silent at = goes_still s
  released_at (Some p) link l s is over silent at = λ h.
      record {
        sound =
            turned_sound Never (λ n. n ≡ link) s (with_place l.session (released (handle_of l) link p) s)
            (turn_at Never (λ n. n ≡ link) l.session p (released (handle_of l) link p) s at (released_changes l.session (handle_of l) link p (h.own l.session p at))) (λ x k n f. absurd f) freed h;
        goes = P.frees link l p s h is over at;
      }
    where
      same : (k l : Called) → Some k ≡ Some l → k ≡ l
      same k l e = cc

      the : (n : ℕ) (k : Called) → n ≡ link → link_of n s ≡ Some k → l ≡ k
      the n k e at = same l k (sym is ∙ (ap (λ x. link_of x s) (sym e) ∙ at))

      freed : (n : ℕ) → n ≡ link → IsFreed s n
      freed n e =
          record {
            unheard = λ k at heard. over_unheard (link_in l.side).phase over (ap is_heard (the n k e at) ∙ heard);
            silent = λ k at. ap (λ x. transfers (output_of x)) (sym (the n k e at)) ∙ silent;
          }

  pub released_goes : (link : ℕ) (l : Called) (s : State) → link_of link s ≡ Some l → is_over l ≡ true → transfers (output_of l) ≡ [] → Goes P s (at_place l.session (released (handle_of l) link) s)
  released_goes link l s is over silent = released_at (place_of l.session s) link l s is over silent refl

  pub reclaims_goes : (link : ℕ) (l : Called) (name : List ℕ) (role : Role) (max handle : ℕ) (p q : Place) (s : State) → link_of link s ≡ Some l → (is_heard l ≡ true → ⊥) → place_of l.session s ≡ Some p
      → IsClaim name role max link handle p q → Goes P s (with_place l.session q s)
  reclaims_goes link l name role max handle p q s is unheard at c = λ h.
      record {
        sound = turned_sound (IsGot l.session handle link) No s (with_place l.session q s) (claim_turn l.session name role max link handle p q s at c) (λ x k n f. fresh h x k n f) (λ n f. absurd f) h;
        goes = P.reclaims link l name role max handle p q s is at c;
      }
    where
      same : (k l : Called) → Some k ≡ Some l → k ≡ l
      same k l e = cc

      the : (n : ℕ) (k : Called) → n ≡ link → link_of n s ≡ Some k → l ≡ k
      the n k e at = same l k (sym is ∙ (ap (λ x. link_of x s) (sym e) ∙ at))

      fresh : AreSound s → (x k n : ℕ) → IsGot l.session handle link x k n → IsFresh s x k n
      fresh h x k n f =
          record {
            stands = λ m at. let e = the n m f.2 at in (ap (λ (y : Called). y.session) (sym e) ∙ sym f.0, λ heard. absurd (unheard (ap is_heard e ∙ heard)));
            waits = λ other w. none n f.2 (h.waits other n w).none;
          }
        where
          none : (n : ℕ) → n ≡ link → link_of n s ≡ None → ⊥
          none n e u = let g : None ≡ Some l = sym u ∙ (ap (λ y. link_of y s) e ∙ is) in cc

  -- ---- handles of the peer

  parted_at : (o : Option Place) (session remote : ℕ) (s : State) → P.May session remote → place_of session s ≡ o → Goes P s (stepped o session (parted remote) s)
  parted_at None session remote s may at = goes_still s
  parted_at (Some p) session remote s may at = λ h.
      record { sound = still_sound s (with_place session (parted remote p) s) (turn_at Never No session p (parted remote p) s at (parted_changes session remote p)) h; goes = P.parts session remote p s h may at }

  pub parted_goes : (session remote : ℕ) (s : State) → P.May session remote → Goes P s (at_place session (parted remote) s)
  parted_goes session remote s may = parted_at (place_of session s) session remote s may refl

  joined_at : (o : Option Place) (session remote link : ℕ) (s : State) → P.May session remote → P.Joins link → place_of session s ≡ o → Goes P s (stepped o session (joined remote link) s)
  joined_at None session remote link s may joins at = goes_still s
  joined_at (Some p) session remote link s may joins at = λ h.
      record { sound = still_sound s (with_place session (joined remote link p) s) (turn_at Never No session p (joined remote link p) s at (joined_changes session remote link p)) h; goes = P.joins session remote link p s may joins at }

  pub joining_goes : (session remote link : ℕ) (s : State) → P.May session remote → P.Joins link → Goes P s (joining session remote link s)
  joining_goes session remote link s may joins = joined_at (place_of session s) session remote link s may joins refl

  -- ---- Attaches and calls that wait

  pushed_at : (o : Option Place) (session : ℕ) (x : Attach) (s : State) → P.May session x.handle → place_of session s ≡ o → Goes P s (stepped o session (attach_pushed x) s)
  pushed_at None session x s may at = goes_still s
  pushed_at (Some p) session x s may at = λ h.
      record { sound = still_sound s (with_place session (attach_pushed x p) s) (turn_at Never No session p (attach_pushed x p) s at (attaches_change session p (attach_pushed x p) refl refl)) h; goes = P.pushes session x p s may at }

  pub pushed_goes : (session : ℕ) (x : Attach) (s : State) → P.May session x.handle → Goes P s (at_place session (attach_pushed x) s)
  pushed_goes session x s may = pushed_at (place_of session s) session x s may refl

  awaiting_at : (o : Option Place) (session : ℕ) (accept : WaitingAccept) (s : State) → P.Makes accept.name → IsUnused accept.name s → place_of session s ≡ o → Goes P s (stepped o session (awaiting_attach accept) s)
  awaiting_at None session accept s makes unused at = goes_still s
  awaiting_at (Some p) session accept s makes unused at = λ h. record { sound = awaiting_sound session accept p s at unused h; goes = P.awaits session accept p s makes unused at }

  pub awaiting_goes : (session : ℕ) (accept : WaitingAccept) (s : State) → P.Makes accept.name → IsUnused accept.name s → Goes P s (at_place session (awaiting_attach accept) s)
  awaiting_goes session accept s makes unused = awaiting_at (place_of session s) session accept s makes unused refl

  dropped_at : (o : Option Place) (session : ℕ) (s : State) → place_of session s ≡ o → Goes P s (stepped o session accept_taken s)
  dropped_at None session s at = goes_still s
  dropped_at (Some p) session s at = λ h. record { sound = still_sound s (with_place session (accept_taken p) s) (turn_at Never No session p (accept_taken p) s at (taken_changes session p)) h; goes = P.drops session p s at }

  pub dropped_goes : (session : ℕ) (s : State) → Goes P s (at_place session accept_taken s)
  dropped_goes session s = dropped_at (place_of session s) session s refl

  -- ---- links are made

  pub begins_goes : (name : ℕ) (l : Called) (session handle : ℕ) (text : List ℕ) (role : Role) (max : ℕ) (p q : Place) (s : State) → P.Makes name → IsUnused name s → place_of session s ≡ Some p
      → IsClaim text role max name handle p q → IsFor session handle l → Goes P s (begins name l session q s)
  begins_goes name l session handle text role max p q s makes unused at c is = λ h.
      record { sound = begins_sound name l session handle text role max p q s h unused at c is; goes = P.makes name l session handle text role max p q s h makes unused at c is }

  pub accepts_goes : (name : ℕ) (l : Called) (session handle : ℕ) (text : List ℕ) (role : Role) (max : ℕ) (p q : Place) (x : Attach) (s : State) → P.Makes name → IsUnused name s → place_of session s ≡ Some p
      → IsClaim text role max name handle p q → IsFor session handle l → P.May session x.handle → Goes P s (accepts name l session q x s)
  accepts_goes name l session handle text role max p q x s makes unused at c is may = λ h.
      record { sound = accepts_sound name l session handle text role max p q x s h unused at c is; goes = P.meets name l session handle text role max p q x s h makes unused at c is may }
