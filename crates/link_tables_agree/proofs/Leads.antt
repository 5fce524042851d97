-- A handle of the peer leads to the link still, as long as the peer is quiet.
use Rattle.std.specs.Prelude.{◌≡◌, ℕ, nat_eq, Bool, true, false, cond, List, [], ◌∷◌, ◌++◌, Option, Some, None, if◌then◌else◌, refl}
use Rattle.std.proofs.Common.{sym, ◌∙◌, ap, subst, eq-eqb}
use Rattle.std.proofs.lemmas.Bool.{eqb-true}
use Rattle.std.specs.Map.{lookup, set_value}
use Rattle.amqp_composites.specs.declared.modes.Role.{Role}
use Rattle.amqp_composites.specs.declared.modes.Role.TheVariants as role
use Rattle.amqp_link_calls.specs.Called.{Called}
use Rattle.amqp_link_tables.specs.Calls as table
use Rattle.amqp_link_tables.specs.Calls.{link_from, link_at}
use Rattle.amqp_link_tables.specs.State.{State as Table, no_links}
use Rattle.amqp_link_words.specs.declared.link_call.LinkCall.{LinkCall}
use Rattle.amqp_link_words.specs.declared.link_call.LinkCall.TheVariants as call
use Rattle.amqp_performatives.specs.declared.attach.Attach.{Attach}
use Rattle.amqp_session.specs.declared.session.LinkInput.{LinkInput}
use Rattle.amqp_session.specs.declared.session.LinkInput.TheVariants as input
use Rattle.amqp_session_links.specs.Claims.{is_at, released, joined, parted}
use Rattle.amqp_session_links.specs.Incoming.{attach_pushed, attach_taken, first_of, rest_of}
use Rattle.amqp_session_links.specs.State.{State as Place, none_attached, awaiting_attach, accept_taken}
use Rattle.amqp_links.specs.Attaching.{standing}
use Rattle.amqp_links.specs.Accepting.{first_at, first_attach}
use Rattle.amqp_links.specs.Hearing.{link_from_at, answered_at, other_role}
use Rattle.amqp_links.specs.Parts.{Told, handle_of}
use Rattle.amqp_links.specs.State.{State, place_of, link_of, with_place, stepped, at_place, entered_at, entered}
use Rattle.link_lives.specs.Deeds.{Deed, Asks, Hears, Hands, Knows, Looks, Tells, IsDeed, Did}
use Rattle.link_lives.proofs.Tables.{set_at, insert_here, insert_other}
use Rattle.link_tables_agree.specs.Leads.{Leads, IsElsewhere, attaches_at, AreClear, IsQuietly, IsQuiet, AreQuiet, LeadsAlong, LeadsOn}
use Rattle.link_tables_agree.specs.Sound.{IsUnused, AreSound, IsNewIn, AreNewIn}
use Rattle.link_tables_agree.proofs.Keyed.{gone}
use Rattle.link_tables_agree.proofs.Places.{got_remotes, released_remotes}
use Rattle.link_tables_agree.proofs.Turns.{place_holds}
use Rattle.link_tables_agree.proofs.Walks.{Walk, IsClaim, accepts}
use Rattle.link_tables_agree.proofs.Deeds.{MayAsk, MayHear, MayDo, deed_goes}
use Rattle.link_tables_agree.proofs.Sound.{one_sound}

clear_both : (handle : ℕ) (xs ys : List Attach) → AreClear handle xs → AreClear handle ys → AreClear handle (xs ++ ys)
clear_both handle [] ys p q = q
clear_both handle (x ∷ xs) ys p q = (p.0, clear_both handle xs ys p.1 q)

clear_rest : (handle : ℕ) (xs : List Attach) → AreClear handle xs → AreClear handle (rest_of xs)
clear_rest handle [] p = tt
clear_rest handle (x ∷ xs) p = p.1

same_attach : (x y : Attach) → Some x ≡ Some y → x ≡ y
same_attach x y e = cc

clear_first : (handle : ℕ) (xs : List Attach) (y : Attach) → AreClear handle xs → first_of xs ≡ Some y → y.handle ≡ handle → ⊥
clear_first handle [] y p e h = cc
clear_first handle (x ∷ xs) y p e h = p.0 (ap (λ (a : Attach). a.handle) (same_attach x y e) ∙ h)

-- the first of them at a place
clear_at : (handle : ℕ) (o : Option Place) (y : Attach) → AreClear handle (attaches_at o) → first_at o ≡ Some y → y.handle ≡ handle → ⊥
clear_at handle None y p e h = cc
clear_at handle (Some q) y p e h = clear_first handle q.attaches y p e h

one_of : (n m : ℕ) → Some n ≡ Some m → n ≡ m
one_of n m e = cc

released_as : (b : Bool) (handle : ℕ) (p : Place) → (if b then record p { table = table.released handle p.table } else p).table.remotes ≡ p.table.remotes
released_as true handle p = released_remotes (lookup (nat_eq handle) p.table.handles) handle p.table
released_as false handle p = refl

released_attaches : (b : Bool) (handle : ℕ) (p : Place) → (if b then record p { table = table.released handle p.table } else p).attaches ≡ p.attaches
released_attaches true handle p = refl
released_attaches false handle p = refl

-- no link has a name where none was attached
none_named : (x : Attach) → answered_at x (Some none_attached) ≡ None
none_named x = by (other_role x.role)
  where
    by : (r : Role) → table.link_named x.name r no_links ≡ None
    by role.Sender = refl
    by role.Receiver = refl

module _ (handle session n : ℕ) where
  -- it leads to a link that stands, and no Attach that waits is on it
  pub record Led (s : State) : Type 0 where
    pub leads : Leads handle session n s
    pub link : Called
    pub stands : link_of n s ≡ Some link
    pub clear : AreClear handle (attaches_at (place_of session s))

  abbrev Stays : State → State → Type 0
  Stays s t = Led s → Led t

  -- ---- one place

  record Follows (other : ℕ) (p q : Place) : Type 0 where
    leads : other ≡ session → link_from handle p.table ≡ Some n → link_from handle q.table ≡ Some n
    alone : (remote : ℕ) → link_from remote q.table ≡ Some n → link_from remote p.table ≡ Some n
    clear : other ≡ session → AreClear handle p.attaches → AreClear handle q.attaches

  follows : (other : ℕ) (p q : Place) → Follows other p q → (s : State) → place_of other s ≡ Some p → Stays s (with_place other q s)
  follows other p q f s at led =
      record {
        leads = record {
          leads = place_holds (λ x o. x ≡ session → link_from_at handle o ≡ Some n) other p q s at
              (λ e. f.leads e (sym (ap (link_from_at handle) at) ∙ (ap (λ x. link_from_at handle (place_of x s)) e ∙ led.leads.leads)))
              (λ x g e. ap (λ y. link_from_at handle (place_of y s)) e ∙ led.leads.leads) session refl;
          alone = λ x remote.
              place_holds (λ y o. link_from_at remote o ≡ Some n → (y ≡ session) × (remote ≡ handle)) other p q s at
              (λ h. led.leads.alone other remote (ap (link_from_at remote) at ∙ f.alone remote h)) (λ y g h. led.leads.alone y remote h) x;
        };
        link = led.link;
        stands = led.stands;
        clear = place_holds (λ x o. x ≡ session → AreClear handle (attaches_at o)) other p q s at
            (λ e. f.clear e (subst (λ o. AreClear handle (attaches_at o)) (ap (λ x. place_of x s) (sym e) ∙ at) led.clear))
            (λ x g e. subst (λ y. AreClear handle (attaches_at (place_of y s))) (sym e) led.clear) session refl;
      }

  from_same : (remote : ℕ) (p q : Place) → q.table.remotes ≡ p.table.remotes → link_from remote q.table ≡ link_from remote p.table
  from_same remote p q e = ap (lookup (nat_eq remote)) e

  same_follows : (other : ℕ) (p q : Place) → q.table.remotes ≡ p.table.remotes → q.attaches ≡ p.attaches → Follows other p q
  same_follows other p q e a =
      record {
        leads = λ s h. from_same handle p q e ∙ h;
        alone = λ remote h. sym (from_same remote p q e) ∙ h;
        clear = λ s c. subst (AreClear handle) (sym a) c;
      }

  claim_follows : (other : ℕ) (name : List ℕ) (r : Role) (max link own : ℕ) (p q : Place) → IsClaim name r max link own p q → Follows other p q
  claim_follows other name r max link own p q c = same_follows other p q (ap (λ (t : Table). t.remotes) c.table ∙ got_remotes own name r link p.table) c.attaches

  freed_follows : (other own link : ℕ) (p : Place) → Follows other p (released own link p)
  freed_follows other own link p =
      same_follows other p (released own link p) (released_as (is_at (link_at own p.table) link) own p) (released_attaches (is_at (link_at own p.table) link) own p)

  pushed_follows : (other : ℕ) (x : Attach) (p : Place) → IsElsewhere handle session other x.handle → Follows other p (attach_pushed x p)
  pushed_follows other x p may = record { leads = λ e h. h; alone = λ remote h. h; clear = λ e c. clear_both handle p.attaches (x ∷ []) c (may e, tt) }

  taken_follows : (other : ℕ) (p : Place) → Follows other p (attach_taken p)
  taken_follows other p = record { leads = λ e h. h; alone = λ remote h. h; clear = λ e c. clear_rest handle p.attaches c }

  -- a handle is free, and it is another
  parted_follows : (other remote : ℕ) (p : Place) (s : State) → AreSound s → IsElsewhere handle session other remote → place_of other s ≡ Some p → Follows other p (parted remote p)
  parted_follows other remote p s sound may at =
      let g = gone remote p.table.remotes (sound.peer other p at) in
      record {
        leads = λ e h. stays e (nat_eq remote handle) refl (g.at handle) h;
        alone = λ r h. was r (nat_eq remote r) (lookup (nat_eq r) p.table.remotes) (sym (g.at r) ∙ h);
        clear = λ e c. c;
      }
    where
      stays : other ≡ session → (b : Bool) → nat_eq remote handle ≡ b → link_from handle (parted remote p).table ≡ cond (nat_eq remote handle) None (link_from handle p.table) → link_from handle p.table ≡ Some n
          → link_from handle (parted remote p).table ≡ Some n
      stays e true f g h = absurd (may e (eqb-true remote handle f))
      stays e false f g h = g ∙ (ap (λ b. cond b None (link_from handle p.table)) f ∙ h)

      was : (r : ℕ) (b : Bool) (o : Option ℕ) → cond b None o ≡ Some n → o ≡ Some n
      was r true o h = absurd cc
      was r false o h = h

  -- another handle leads to another link
  joined_follows : (other remote link : ℕ) (p : Place) → IsElsewhere handle session other remote → (link ≡ n → ⊥) → Follows other p (joined remote link p)
  joined_follows other remote link p may apart =
      record { leads = λ e h. stays e (nat_eq remote handle) refl h; alone = λ r h. was r (nat_eq remote r) refl h; clear = λ e c. c }
    where
      stays : other ≡ session → (b : Bool) → nat_eq remote handle ≡ b → link_from handle p.table ≡ Some n → link_from handle (joined remote link p).table ≡ Some n
      stays e true f h = absurd (may e (eqb-true remote handle f))
      stays e false f h = insert_other remote handle link p.table.remotes f ∙ h

      was : (r : ℕ) (b : Bool) → nat_eq remote r ≡ b → link_from r (joined remote link p).table ≡ Some n → link_from r p.table ≡ Some n
      was r true f h = absurd (apart (one_of link n (sym (insert_here remote r link p.table.remotes f) ∙ h)))
      was r false f h = sym (insert_other remote r link p.table.remotes f) ∙ h

  stepped_follows : (o : Option Place) (other : ℕ) (f : Place → Place) (s : State) → place_of other s ≡ o → ((p : Place) → Follows other p (f p)) → Stays s (stepped o other f s)
  stepped_follows None other f s at g led = led
  stepped_follows (Some p) other f s at g led = follows other p (f p) (g p) s at led

  -- ---- links

  led_as : (s t : State) → t.sessions ≡ s.sessions → t.endpoints ≡ s.endpoints → Stays s t
  led_as s t a e led =
      record {
        leads = record {
          leads = ap (λ x. link_from_at handle (lookup (nat_eq session) x)) a ∙ led.leads.leads;
          alone = λ other remote h. led.leads.alone other remote (sym (ap (λ x. link_from_at remote (lookup (nat_eq other) x)) a) ∙ h);
        };
        link = led.link;
        stands = ap (lookup (nat_eq n)) e ∙ led.stands;
        clear = subst (λ x. AreClear handle (attaches_at (lookup (nat_eq session) x))) (sym a) led.clear;
      }

  -- the link stands still, as another or as itself
  led_with : (s t : State) (l : Called) → t.sessions ≡ s.sessions → link_of n t ≡ Some l → Stays s t
  led_with s t l a at led =
      record {
        leads = record {
          leads = ap (λ x. link_from_at handle (lookup (nat_eq session) x)) a ∙ led.leads.leads;
          alone = λ other remote h. led.leads.alone other remote (sym (ap (λ x. link_from_at remote (lookup (nat_eq other) x)) a) ∙ h);
        };
        link = l;
        stands = at;
        clear = subst (λ x. AreClear handle (attaches_at (lookup (nat_eq session) x))) (sym a) led.clear;
      }

  led_linked : (made : ℕ) (k m : Called) (s t : State) → link_of made s ≡ Some k → t.sessions ≡ s.sessions → t.endpoints ≡ set_value (nat_eq made) s.endpoints m → Stays s t
  led_linked made k m s t is a e led = by (nat_eq made n) refl
    where
      found : (b : Bool) → nat_eq made n ≡ b → link_of n t ≡ cond b (Some m) (link_of n s)
      found b h = ap (lookup (nat_eq n)) e ∙ (set_at made n s.endpoints k m is ∙ ap (λ x. cond x (Some m) (link_of n s)) h)

      by : (b : Bool) → nat_eq made n ≡ b → Led t
      by true h = led_with s t m a (found true h) led
      by false h = led_with s t led.link a (found false h ∙ led.stands) led

  led_made : (name : ℕ) (l : Called) (s : State) → Stays s (standing name l s)
  led_made name l s led = by (nat_eq name n) refl
    where
      by : (b : Bool) → nat_eq name n ≡ b → Led (standing name l s)
      by true h = led_with s (standing name l s) l refl (insert_here name n l s.endpoints h) led
      by false h = led_with s (standing name l s) led.link refl (insert_other name n l s.endpoints h ∙ led.stands) led

  entered_led : (o : Option Place) (other : ℕ) (s : State) → place_of other s ≡ o → Stays s (entered_at o other s)
  entered_led (Some p) other s at led = led
  entered_led None other s at led =
      record {
        leads = record {
          leads = same session (nat_eq other session) refl (link_from_at handle) refl ∙ led.leads.leads;
          alone = λ x remote h. led.leads.alone x remote (sym (same x (nat_eq other x) refl (link_from_at remote) refl) ∙ h);
        };
        link = led.link;
        stands = led.stands;
        clear = subst (AreClear handle) (sym (same session (nat_eq other session) refl attaches_at refl)) led.clear;
      }
    where
      same : {X : Type 0} (x : ℕ) (b : Bool) → nat_eq other x ≡ b → (f : Option Place → X) → f (Some none_attached) ≡ f None → f (place_of x (entered_at None other s)) ≡ f (place_of x s)
      same x true e f g = ap f (insert_here other x none_attached s.sessions e) ∙ (g ∙ sym (ap f (ap (λ y. place_of y s) (sym (eqb-true other x e)) ∙ at)))
      same x false e f g = ap f (insert_other other x none_attached s.sessions e)

  -- a link that is made is another
  led_other : (name : ℕ) (s : State) → IsUnused name s → Led s → name ≡ n → ⊥
  led_other name s u led e = none_some (sym u.unled.none ∙ (ap (λ x. link_of x s) e ∙ led.stands))
    where
      none_some : None ≡ Some led.link → ⊥
      none_some f = cc

  led_met : (name : ℕ) (l : Called) (other own : ℕ) (text : List ℕ) (r : Role) (max : ℕ) (p q : Place) (x : Attach) (s : State) → IsUnused name s → place_of other s ≡ Some p → IsClaim text r max name own p q
      → IsElsewhere handle session other x.handle → Stays s (accepts name l other q x s)
  led_met name l other own text r max p q x s u at c may led =
      let a = with_place other q s in
      let b = at_place other attach_taken a in
      let d = standing name l b in
      let la = follows other p q (claim_follows other text r max name own p q c) s at led in
      let lb = stepped_follows (place_of other a) other attach_taken a refl (λ y. taken_follows other y) la in
      stepped_follows (place_of other d) other (joined x.handle name) d refl (λ y. joined_follows other x.handle name y may (led_other name s u led)) (led_made name l b lb)

  -- all steps, while the peer is quiet
  abbrev quiet : Walk
  quiet =
      record {
        May = IsElsewhere handle session;
        Joins = λ link. link ≡ n → ⊥;
        Makes = λ name. Unit {0};
        R = Stays;
        still = λ s led. led;
        next = λ a b c p q led. q (p led);
        same = λ s t a e o. led_as s t a e;
        goes = λ made k m es ps s t h is w a e o. led_linked made k m s t is a e;
        strays = λ other s. led_as s _ refl refl;
        calm = λ other p q s at c. follows other p q (same_follows other p q c.remotes c.attaches) s at;
        enters = λ other s at. entered_led None other s at;
        frees = λ link l p s h is over at. follows l.session p _ (freed_follows l.session (handle_of l) link p) s at;
        reclaims = λ link l name r max own p q s is at c. follows l.session p q (claim_follows l.session name r max link own p q c) s at;
        parts = λ other remote p s h may at. follows other p _ (parted_follows other remote p s h may at) s at;
        joins = λ other remote link p s may j at. follows other p _ (joined_follows other remote link p may j) s at;
        pushes = λ other x p s may at. follows other p _ (pushed_follows other x p may) s at;
        awaits = λ other a p s m u at. follows other p (awaiting_attach a p) (same_follows other p (awaiting_attach a p) refl refl) s at;
        drops = λ other p s at. follows other p (accept_taken p) (same_follows other p (accept_taken p) refl refl) s at;
        makes = λ name l other own text r max p q s h m u at c is led. led_made name l (with_place other q s) (follows other p q (claim_follows other text r max name own p q c) s at led);
        meets = λ name l other own text r max p q x s h m u at c is may. led_met name l other own text r max p q x s u at c may;
      }

  -- ---- one deed

  first_clear : (other : ℕ) (s : State) → Led s → (y : Attach) → first_attach other s ≡ Some y → IsElsewhere handle session other y.handle
  first_clear other s led y e same is = clear_at handle (place_of session s) y led.clear (ap (λ x. first_at (place_of x s)) (sym same) ∙ e) is

  known : (other : ℕ) (s : State) → Led s → Led (entered other s)
  known other s led = entered_led (place_of other s) other s refl led

  -- a session that is known from now on has no link of any name
  entered_answered : (x : Attach) (o : Option Place) (other : ℕ) (s : State) → place_of other s ≡ o → answered_at x (place_of other (entered_at o other s)) ≡ answered_at x (place_of other s)
  entered_answered x (Some p) other s at = refl
  entered_answered x None other s at =
      ap (answered_at x) (insert_here other other none_attached s.sessions (eq-eqb other other refl)) ∙ (none_named x ∙ sym (ap (answered_at x) at))

  may_ask : (name : ℕ) (x : LinkCall) (s : State) → Led s → MayAsk quiet name x s
  may_ask name (call.Accept other settings credit_mode auto_accept) s led = (tt, λ y e. first_clear other (entered other s) (known other s led) y e)
  may_ask name (call.Sender other settings) s led = tt
  may_ask name (call.Receiver other settings) s led = tt
  may_ask name (call.Send link message) s led = tt
  may_ask name (call.SendTimed link message timeout) s led = tt
  may_ask name (call.Outcome send) s led = tt
  may_ask name (call.Recv link) s led = tt
  may_ask name (call.Dispose link disposal deliveries) s led = tt
  may_ask name (call.SetCredit link credit) s led = tt
  may_ask name (call.Credit link) s led = tt
  may_ask name (call.Regulate link regulation) s led = tt
  may_ask name (call.Disposer link) s led = tt
  may_ask name (call.DisposeBy disposer disposal delivery) s led = tt
  may_ask name (call.Part link parting) s led = tt

  may_hear : (other : ℕ) (x : LinkInput) (s : State) → IsQuietly handle session n other x s → Led s → MayHear quiet other x s
  may_hear other (input.Attach x) s q led =
      let t = entered other s in
      let u = at_place other (attach_pushed x) t in
      record {
        may = q.0;
        joins = λ made e is. q.1 (sym (entered_answered x (place_of other s) other s refl) ∙ (e ∙ ap Some is));
        makes = λ a e. tt;
        meets = λ y e. first_clear other u (stepped_follows (place_of other t) other (attach_pushed x) t refl (λ p. pushed_follows other x p q.0) (known other s led)) y e;
      }
  may_hear other (input.Detach x) s q led = q
  may_hear other (input.Flow x) s q led = tt
  may_hear other (input.Transfer x payload) s q led = tt
  may_hear other (input.Disposition x) s q led = tt
  may_hear other (input.Left x) s q led = tt
  may_hear other (input.Stopped why) s q led = tt
  may_hear other input.Over s q led = tt

  may_do : (d : Deed) (s : State) → IsQuiet handle session n d s → Led s → MayDo quiet d s
  may_do (Asks name x max) s q led = may_ask name x s led
  may_do (Hears other x) s q led = may_hear other x s q led
  may_do (Hands x) s q led = tt
  may_do (Knows at) s q led = tt
  may_do Looks s q led = tt
  may_do Tells s q led = tt

  hands : (d : Deed) (old new : State) → IsDeed old d new → (x : Told) → d ≡ Hands x → Stays old new
  hands (Hands y) old new h x e = led_as old new (ap (λ s. s.sessions) h.1) (ap (λ s. s.endpoints) h.1)
  hands (Asks name call max) old new h x e = absurd cc
  hands (Hears other y) old new h x e = absurd cc
  hands (Knows at) old new h x e = absurd cc
  hands Looks old new h x e = absurd cc
  hands Tells old new h x e = absurd cc

  one_led : (d : Deed) (old new : State) → IsDeed old d new → IsNewIn d old → AreSound old → IsQuiet handle session n d old → Led old → Led new
  one_led d old new h fresh sound q led = (deed_goes quiet d old new h fresh (may_do d old q led) (hands d old new h) sound).goes led

  all_led : (ds : List Deed) (old new : State) (did : Did old ds new) → AreSound old → AreNewIn old ds new did → AreQuiet handle session n old ds new did → Led old → LeadsAlong handle session n old ds new did
  all_led [] old new did sound fresh q led = subst (Leads handle session n) (sym did) led.leads
  all_led (d ∷ ds) old new did sound fresh q led =
      (led.leads, all_led ds did.0 new did.1.1 (one_sound d old did.0 did.1.0 fresh.0 sound) fresh.1 q.1 (one_led d old did.0 did.1.0 fresh.0 sound q.0 led))

pub leads_on : LeadsOn
leads_on handle session n l old ds new did sound fresh at leads clear q =
    all_led handle session n ds old new did sound fresh q (record { leads = leads; link = l; stands = at; clear = clear })
