-- Links of a session that have sent no message have given it no Transfer.
use Rattle.std.specs.Prelude.{◌≡◌, ℕ, nat_eq, Bool, true, false, cond, List, [], ◌∷◌, ◌++◌, map, Option, Some, None, if◌then◌else◌, refl}
use Rattle.std.proofs.Common.{sym, ◌∙◌, ap, subst, append_assoc, eq-eqb}
use Rattle.std.proofs.lemmas.Bool.{eqb-true}
use Rattle.std.proofs.lemmas.Grind.{flat_map-append}
use Rattle.std.proofs.lemmas.List.{append-nil}
use Rattle.std.specs.Map.{lookup, set_value}
use Rattle.amqp_performatives.specs.declared.attach.Attach.{Attach}
use Rattle.amqp_parts.specs.declared.part.Part.{Part}
use Rattle.amqp_link_calls.specs.Called.{Called}
use Rattle.amqp_link_calls.specs.Side.{Side, Sender, Receiver, link_of as link_in}
use Rattle.amqp_sender.specs.Sender.{State as SenderState}
use Rattle.amqp_links.specs.Attaching.{standing, joining}
use Rattle.amqp_links.specs.Parts.{Told, Astray, output_of}
use Rattle.amqp_links.specs.State.{State, no_links, place_of, link_of, with_place, at_place, stepped}
use Rattle.link_lives.specs.Deeds.{Deed, Asks, Hears, Hands, Knows, Looks, Tells, IsDeed, Did, handed, all_handed, part_told, parts_told}
use Rattle.link_lives.specs.Lives.{Event, Wrote, Sent, Answered, sender_tells, sender_told, Lives, Went}
use Rattle.link_lives.specs.Logs.{Of, told}
use Rattle.link_lives.proofs.Tables.{set_at, insert_here, insert_other}
use Rattle.session_laws.specs.Messages.{transfer_in, transfers, on}
use Rattle.session_laws.specs.Sending as sending
use Rattle.session_laws.specs.Sending.{Move, after, after_all, handed_all, written, sent_by}
use Rattle.first_messages.proofs.Lists.{none_first, none_last}
use Rattle.first_messages.proofs.Unsent.{unsent_writes_none}
use Rattle.link_tables_agree.specs.Sound.{AllOn, IsUnused, AreSound, IsNewIn, AreNewIn}
use Rattle.link_tables_agree.proofs.Says.{AllTold, told_both, wrote_told, sent_told}
use Rattle.link_tables_agree.proofs.Receivers.{receiver_speaks}
use Rattle.link_tables_agree.proofs.Went.{went_speaks}
use Rattle.link_tables_agree.proofs.Walks.{Walk, begins, accepts}
use Rattle.link_tables_agree.proofs.Deeds.{deed_goes, free_do}
use Rattle.link_tables_agree.proofs.Sound.{one_sound, none_is_sound}
use Rattle.amqp_session_links.specs.Incoming.{attach_taken}
use Rattle.amqp_session_links.specs.Claims.{joined}
use Rattle.amqp_session_links.specs.State.{State as Place}
use Rattle.world_lives.specs.Lived.{links_by}
use Rattle.world_lives.specs.WorldLinks.Unsent.{IsUnsent, AreUnsent, UnsentGaveNone}
use Rattle.world_lives.proofs.WorldLinks.Agreeing.{names_so_far}

-- ---- a sender

-- what a sender that has sent nothing has handed over, and what it is to write
record SaysNone (s : SenderState) (ms : List Move) : Type 0 where
  handed : transfers (handed_all s ms) ≡ []
  left : transfers (after_all s ms).link.output ≡ []

says_none : (s : SenderState) (ms : List Move) → transfers (written s ms) ≡ [] → SaysNone s ms
says_none s ms none =
    let out = (after_all s ms).link.output in
    let both : transfers (handed_all s ms) ++ transfers out ≡ [] = sym (flat_map-append transfer_in (handed_all s ms) out) ∙ none in
    record { handed = none_first (transfers (handed_all s ms)) (transfers out) both; left = none_last (transfers (handed_all s ms)) (transfers out) both }

-- ---- what is told

abbrev Nowhere : ℕ → Type 0
Nowhere handle = ⊥

abbrev Any : ℕ → Type 0
Any handle = Unit {0}

all_any : (xs : List Part) → AllOn Any xs
all_any [] = tt
all_any (x ∷ xs) = (tt, all_any xs)

say_none : (xs : List Part) → AllOn Nowhere xs → xs ≡ []
say_none [] h = refl
say_none (x ∷ xs) h = absurd h.0

none_say : (xs : List Part) → xs ≡ [] → AllOn Nowhere xs
none_say [] e = tt
none_say (x ∷ xs) e = absurd cc

tells_none : (session : ℕ) (s : SenderState) (m : Move) → transfers (sending.handed s m) ≡ [] → AllTold Nowhere session (sender_tells session s m)
tells_none session s sending.hands_over e = wrote_told Nowhere session s.link.output (none_say (transfers s.link.output) e)
tells_none session s m e = sent_told Nowhere session (sent_by s m)

told_none : (session : ℕ) (s : SenderState) (ms : List Move) → transfers (handed_all s ms) ≡ [] → AllTold Nowhere session (sender_told session s ms)
told_none session s [] e = tt
told_none session s (m ∷ ms) e =
    let t = after s m in
    let a = transfers (sending.handed s m) in
    let b = transfers (handed_all t ms) in
    let both : a ++ b ≡ [] = sym (flat_map-append transfer_in (sending.handed s m) (handed_all t ms)) ∙ e in
    told_both Nowhere session (sender_tells session s m) (sender_told session t ms) (tells_none session s m (none_first a b both)) (told_none session t ms (none_last a b both))

-- no Transfer goes to a session by that
events_none : (session v link : ℕ) (es : List Event) → AllTold Nowhere session es → parts_told v (told (map (Of link) es)) ≡ []
events_none session v link [] p = refl
events_none session v link (Wrote x y ∷ es) p = by (nat_eq x v) (events_none session v link es p.1)
  where
    by : (b : Bool) → parts_told v (told (map (Of link) es)) ≡ [] → (if b then transfer_in y else []) ++ parts_told v (told (map (Of link) es)) ≡ []
    by true r = ap (λ xs. xs ++ parts_told v (told (map (Of link) es))) (say_none (transfer_in y) p.0.1) ∙ r
    by false r = r
events_none session v link (Sent m ∷ es) p = events_none session v link es p.1
events_none session v link (Answered a ∷ es) p = events_none session v link es p.1

elsewhere_none : (session v link : ℕ) (es : List Event) → nat_eq session v ≡ false → AllTold Any session es → parts_told v (told (map (Of link) es)) ≡ []
elsewhere_none session v link [] far p = refl
elsewhere_none session v link (Wrote x y ∷ es) far p =
    ap (λ b. (if b then transfer_in y else []) ++ parts_told v (told (map (Of link) es))) (ap (λ k. nat_eq k v) p.0.0 ∙ far) ∙ elsewhere_none session v link es far p.1
elsewhere_none session v link (Sent m ∷ es) far p = elsewhere_none session v link es far p.1
elsewhere_none session v link (Answered a ∷ es) far p = elsewhere_none session v link es far p.1

-- ---- a link

-- one that has sent nothing is to write no Transfer
abbrev pub IsTidy : Side → Type 0
IsTidy (Sender s) = s.settlements ≡ [] → transfers s.link.output ≡ []
IsTidy (Receiver s) = transfers s.link.output ≡ []

record SideGoes (session : ℕ) (a b : Side) (es : List Event) : Type 0 where
  tidy : IsTidy b
  back : IsUnsent b → IsUnsent a × AllTold Nowhere session es

side_goes : (session : ℕ) (a b : Side) (es : List Event) (ps : List Part) → Lives session a es ps b → IsTidy a → SideGoes session a b es
side_goes session (Sender s) b es ps k tidy =
    let ms = k.moves in
    subst (λ (x : Side). SideGoes session (Sender s) x es) (sym k.behind)
    (record {
      tidy = λ h. let u = unsent_writes_none s ms h in let n = says_none s ms (u.written (tidy u.knew)) in n.left;
      back = λ h.
          let u = unsent_writes_none s ms h in
          let n = says_none s ms (u.written (tidy u.knew)) in
          (u.knew, subst (λ xs. AllTold Nowhere session xs) (sym k.told) (told_none session s ms n.handed));
    })
side_goes session (Receiver s) b es ps k tidy =
    let ms = k.moves in
    let r = receiver_speaks Nowhere session s ms (none_say (transfers s.link.output) tidy) in
    subst (λ (x : Side). SideGoes session (Receiver s) x es) (sym k.behind)
    (record { tidy = say_none _ r.output; back = λ h. (tt, subst (λ xs. AllTold Nowhere session xs) (sym k.told) r.told) })

side_new : (x : Side) → transfers (link_in x).output ≡ [] → IsTidy x
side_new (Sender s) e = λ h. e
side_new (Receiver s) e = e

same_called : (k l : Called) → Some k ≡ Some l → k ≡ l
same_called k l e = cc

-- ---- one step

abbrev pub AllTidy : State → Type 0
AllTidy s = (n : ℕ) (l : Called) → link_of n s ≡ Some l → IsTidy l.side

module _ (v : ℕ) where
  -- where no link of the session has sent anything behind it, none had before, and nothing was given to it
  record Goes (s t : State) : Type 0 where
    tidy : AllTidy t
    back : AreUnsent v t → AreUnsent v s
    output : AreUnsent v t → parts_told v t.output ≡ parts_told v s.output

  abbrev Step : State → State → Type 0
  Step s t = AllTidy s → Goes s t

  goes_as : (s t : State) → t.endpoints ≡ s.endpoints → parts_told v t.output ≡ parts_told v s.output → Step s t
  goes_as s t e o tidy = record {
    tidy = λ n l at. tidy n l (sym (ap (lookup (nat_eq n)) e) ∙ at);
    back = λ u n l at. u n l (ap (lookup (nat_eq n)) e ∙ at);
    output = λ u. o;
  }

  goes_same : (s t : State) → t.endpoints ≡ s.endpoints → t.output ≡ s.output → Step s t
  goes_same s t e o = goes_as s t e (ap (parts_told v) o)

  goes_strayed : (session : ℕ) (s t : State) → t.endpoints ≡ s.endpoints → t.output ≡ s.output ++ Astray session ∷ [] → Step s t
  goes_strayed session s t e o = goes_as s t e (ap (parts_told v) o ∙ (flat_map-append (part_told v) s.output (Astray session ∷ []) ∙ append-nil (parts_told v s.output)))

  goes_then : (a b c : State) → Step a b → Step b c → Step a c
  goes_then a b c p q tidy =
      let x = p tidy in
      let y = q x.tidy in
      record { tidy = y.tidy; back = λ u. x.back (y.back u); output = λ u. y.output u ∙ x.output (y.back u) }

  -- one link goes on
  module _ (made : ℕ) (k m : Called) (es : List Event) (ps : List Part) (s t : State) (is : link_of made s ≡ Some k) (w : Went k es ps m) (e : t.endpoints ≡ set_value (nat_eq made) s.endpoints m)
      (o : t.output ≡ s.output ++ told (map (Of made) es)) where
    linked : (n : ℕ) (b : Bool) → nat_eq made n ≡ b → link_of n t ≡ cond b (Some m) (link_of n s)
    linked n b h = ap (lookup (nat_eq n)) e ∙ (set_at made n s.endpoints k m is ∙ ap (λ x. cond x (Some m) (link_of n s)) h)

    itself : link_of made t ≡ Some m
    itself = linked made true (eq-eqb made made refl)

    goes_linked : Step s t
    goes_linked tidy = record {
      tidy = λ n l at. tidy_at n l at (nat_eq made n) refl;
      back = λ u n l at on. back_at u n l at on (nat_eq made n) refl;
      output = λ u.
          ap (parts_told v) o
          ∙ (flat_map-append (part_told v) s.output (told (map (Of made) es))
          ∙ (ap (λ xs. parts_told v s.output ++ xs) (none u (nat_eq k.session v) refl) ∙ append-nil (parts_told v s.output)));
    }
      where
        goes : SideGoes k.session k.side m.side es
        goes = side_goes k.session k.side m.side es ps w.lives (tidy made k is)

        tidy_at : (n : ℕ) (l : Called) → link_of n t ≡ Some l → (b : Bool) → nat_eq made n ≡ b → IsTidy l.side
        tidy_at n l at true h = subst (λ (x : Called). IsTidy x.side) (same_called m l (sym (linked n true h) ∙ at)) goes.tidy
        tidy_at n l at false h = tidy n l (sym (linked n false h) ∙ at)

        unsent : AreUnsent v t → k.session ≡ v → IsUnsent m.side
        unsent u on = u made m itself (w.session ∙ on)

        back_at : AreUnsent v t → (n : ℕ) (l : Called) → link_of n s ≡ Some l → l.session ≡ v → (b : Bool) → nat_eq made n ≡ b → IsUnsent l.side
        back_at u n l at on true h =
            let same : k ≡ l = same_called k l (sym is ∙ (ap (λ x. link_of x s) (eqb-true made n h) ∙ at)) in
            subst (λ (x : Called). IsUnsent x.side) same (goes.back (unsent u (ap (λ (x : Called). x.session) same ∙ on))).0
        back_at u n l at on false h = u n l (linked n false h ∙ at) on

        none : AreUnsent v t → (b : Bool) → nat_eq k.session v ≡ b → parts_told v (told (map (Of made) es)) ≡ []
        none u true h = events_none k.session v made es (goes.back (unsent u (eqb-true k.session v h))).1
        none u false h = elsewhere_none k.session v made es h (went_speaks Any k m es ps w (all_any _) (λ z. tt)).told

  -- a link is made
  module _ (name : ℕ) (l : Called) (s a t : State) (unused : IsUnused name s) (silent : transfers (output_of l) ≡ []) (e : a.endpoints ≡ s.endpoints) (f : t.endpoints ≡ (standing name l a).endpoints) (o : t.output ≡ s.output) where
    others : (n : ℕ) → nat_eq name n ≡ false → link_of n t ≡ link_of n s
    others n h = ap (lookup (nat_eq n)) f ∙ (insert_other name n l a.endpoints h ∙ ap (lookup (nat_eq n)) e)

    itself_made : (n : ℕ) → nat_eq name n ≡ true → link_of n t ≡ Some l
    itself_made n h = ap (lookup (nat_eq n)) f ∙ insert_here name n l a.endpoints h

    goes_made : Step s t
    goes_made tidy = record {
      tidy = λ n k at. tidy_at n k at (nat_eq name n) refl;
      back = λ u n k at on. u n k (others n (apart n k at (nat_eq name n) refl) ∙ at) on;
      output = λ u. ap (parts_told v) o;
    }
      where
        tidy_at : (n : ℕ) (k : Called) → link_of n t ≡ Some k → (b : Bool) → nat_eq name n ≡ b → IsTidy k.side
        tidy_at n k at true h = subst (λ (x : Called). IsTidy x.side) (same_called l k (sym (itself_made n h) ∙ at)) (side_new l.side silent)
        tidy_at n k at false h = tidy n k (sym (others n h) ∙ at)

        none_some : (k : Called) → None ≡ Some k → ⊥
        none_some k g = cc

        apart : (n : ℕ) (k : Called) → link_of n s ≡ Some k → (b : Bool) → nat_eq name n ≡ b → nat_eq name n ≡ false
        apart n k at false h = h
        apart n k at true h = absurd (none_some k (sym unused.unled.none ∙ (ap (λ x. link_of x s) (eqb-true name n h) ∙ at)))

  stepped_endpoints : (x : Option Place) (session : ℕ) (f : Place → Place) (s : State) → (stepped x session f s).endpoints ≡ s.endpoints
  stepped_endpoints None session f s = refl
  stepped_endpoints (Some p) session f s = refl

  stepped_output : (x : Option Place) (session : ℕ) (f : Place → Place) (s : State) → (stepped x session f s).output ≡ s.output
  stepped_output None session f s = refl
  stepped_output (Some p) session f s = refl

  goes_met : (name : ℕ) (l : Called) (session : ℕ) (q : Place) (x : Attach) (s : State) → IsUnused name s → transfers (output_of l) ≡ [] → Step s (accepts name l session q x s)
  goes_met name l session q x s u silent =
      let a = with_place session q s in
      let b = at_place session attach_taken a in
      let d = standing name l b in
      goes_made name l s b (joining session x.handle name d) u silent (stepped_endpoints (place_of session a) session attach_taken a) (stepped_endpoints (place_of session d) session (joined x.handle name) d)
      (stepped_output (place_of session d) session (joined x.handle name) d ∙ stepped_output (place_of session a) session attach_taken a)

  -- all steps
  abbrev steps : Walk
  steps =
      record {
        May = λ session remote. Unit {0};
        Joins = λ link. Unit {0};
        Makes = λ name. Unit {0};
        R = Step;
        still = λ s. goes_same s s refl refl;
        next = goes_then;
        same = λ s t a e o. goes_same s t e o;
        goes = λ made k m es ps s t h is w a e o. goes_linked made k m es ps s t is w e o;
        strays = λ session s. goes_strayed session s _ refl refl;
        calm = λ session p q s at c. goes_same s _ refl refl;
        enters = λ session s at. goes_same s _ refl refl;
        frees = λ link l p s h is over at. goes_same s _ refl refl;
        reclaims = λ link l name r max handle p q s is at c. goes_same s _ refl refl;
        parts = λ session remote p s h may at. goes_same s _ refl refl;
        joins = λ session remote link p s may j at. goes_same s _ refl refl;
        pushes = λ session x p s may at. goes_same s _ refl refl;
        awaits = λ session a p s m u at. goes_same s _ refl refl;
        drops = λ session p s at. goes_same s _ refl refl;
        makes = λ name l session handle text r max p q s h m u at c is. goes_made name l s (with_place session q s) (begins name l session q s) u is.silent refl refl refl;
        meets = λ name l session handle text r max p q x s h m u at c is may. goes_met name l session q x s u is.silent;
      }

  -- ---- deeds

  -- the same, with what went to the sessions
  pub record Does (gave : List Told) (s t : State) : Type 0 where
    pub tidy : AllTidy t
    pub back : AreUnsent v t → AreUnsent v s
    pub output : AreUnsent v t → parts_told v (gave ++ t.output) ≡ parts_told v s.output

  -- the links did that by themselves
  abbrev IsInner : Deed → Type 0
  IsInner (Hands x) = ⊥
  IsInner d = Unit {0}

  not_hands : (d : Deed) (x : Told) → IsInner d → d ≡ Hands x → ⊥
  not_hands d x i e = subst (λ (z : Deed). IsInner z) e i

  inner_does : (d : Deed) (s t : State) → IsInner d → IsDeed s d t → IsNewIn d s → AreSound s → AllTidy s → Does [] s t
  inner_does d s t i h fresh sound tidy =
      let g = (deed_goes steps d s t h fresh (free_do steps (λ session remote. tt) (λ link. tt) (λ name. tt) d s) (λ x e. absurd (not_hands d x i e)) sound).goes tidy in
      record { tidy = g.tidy; back = g.back; output = g.output }

  one_does : (d : Deed) (s t : State) → IsDeed s d t → IsNewIn d s → AreSound s → AllTidy s → Does (handed d) s t
  one_does (Hands x) s t h fresh sound tidy = record {
    tidy = λ n l at. tidy n l (sym (ap (λ y. link_of n y) h.1) ∙ at);
    back = λ u n l at. u n l (ap (λ y. link_of n y) h.1 ∙ at);
    output = λ u. ap (parts_told v) (sym h.0);
  }
  one_does (Asks name x max) s t h fresh sound tidy = inner_does (Asks name x max) s t tt h fresh sound tidy
  one_does (Hears session x) s t h fresh sound tidy = inner_does (Hears session x) s t tt h fresh sound tidy
  one_does (Knows moment) s t h fresh sound tidy = inner_does (Knows moment) s t tt h fresh sound tidy
  one_does Looks s t h fresh sound tidy = inner_does Looks s t tt h fresh sound tidy
  one_does Tells s t h fresh sound tidy = inner_does Tells s t tt h fresh sound tidy

  pub all_do : (ds : List Deed) (old new : State) (did : Did old ds new) → AreNewIn old ds new did → AreSound old → AllTidy old → Does (all_handed ds) old new
  all_do [] old new did fresh sound tidy = record {
    tidy = λ n l at. tidy n l (sym (ap (λ y. link_of n y) did) ∙ at);
    back = λ u n l at. u n l (ap (λ y. link_of n y) did ∙ at);
    output = λ u. ap (λ s. parts_told v s.output) did;
  }
  all_do (d ∷ ds) old new did fresh sound tidy =
      let mid = did.0 in
      let x = one_does d old mid did.1.0 fresh.0 sound tidy in
      let y = all_do ds mid new did.1.1 fresh.1 (one_sound d old mid did.1.0 fresh.0 sound) x.tidy in
      let gave = handed d in
      let rest = all_handed ds ++ new.output in
      record {
        tidy = y.tidy;
        back = λ u. x.back (y.back u);
        output = λ u.
            ap (parts_told v) (append_assoc gave (all_handed ds) new.output)
            ∙ (flat_map-append (part_told v) gave rest
            ∙ (ap (λ xs. parts_told v gave ++ xs) (y.output u) ∙ (sym (flat_map-append (part_told v) gave mid.output) ∙ x.output (y.back u))));
      }

-- ---- from the start

pub unsent_gave_none : UnsentGaveNone
unsent_gave_none accepts all last end q session once unsent =
    let r = names_so_far accepts all last end q once in
    let none = no_links accepts in
    let d = all_do session (links_by q.before) none q.links q.came.links_did r.fresh (none_is_sound accepts) (λ n l at. absurd cc) in
    record {
      none_given = λ handle. ap (on handle) (d.output unsent);
      silent = λ n l t at on is.
          let tidy = subst IsTidy is (d.tidy n l at) in
          tidy (subst IsUnsent is (unsent n l at on));
    }
