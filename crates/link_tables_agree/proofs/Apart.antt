-- A sender is alone on its handle, whatever the links of an end do.
use Rattle.std.specs.Prelude.{◌≡◌, ℕ, nat_eq, Bool, true, false, cond, List, [], ◌∷◌, ◌++◌, map, Option, Some, None, if◌then◌else◌, refl}
use Rattle.std.proofs.Common.{sym, ◌∙◌, ap, subst, append_assoc}
use Rattle.std.proofs.lemmas.Bool.{eqb-true, eqb-false}
use Rattle.std.proofs.lemmas.Grind.{flat_map-append}
use Rattle.std.proofs.lemmas.List.{append-nil}
use Rattle.std.specs.Map.{lookup, set_value}
use Rattle.amqp_link_calls.specs.Called.{Called}
use Rattle.amqp_frames.specs.declared.body.FrameBody.{FrameBody}
use Rattle.amqp_parts.specs.declared.part.Part.{Part}
use Rattle.amqp_performatives.specs.declared.attach.Attach.{Attach}
use Rattle.amqp_session_links.specs.Incoming.{attach_taken}
use Rattle.amqp_session_links.specs.Claims.{joined}
use Rattle.amqp_session_links.specs.State.{State as Place}
use Rattle.amqp_links.specs.Attaching.{standing, joining}
use Rattle.amqp_links.specs.Parts.{Told, handle_of, is_heard}
use Rattle.amqp_links.specs.State.{State, place_of, link_of, with_place, at_place, stepped}
use Rattle.session_laws.specs.Messages.{transfer_in, on}
use Rattle.link_lives.specs.Deeds.{Deed, Asks, Hears, Hands, Knows, Looks, Tells, IsDeed, Did, handed, all_handed, part_wrote, AreApart}
use Rattle.link_lives.specs.Lives.{Event, Wrote, Sent, Answered, Went}
use Rattle.link_lives.specs.Logs.{Entry, Of, Strayed, event_of, own, told, told_in}
use Rattle.link_lives.proofs.Called.{went_still, went_then}
use Rattle.link_lives.proofs.Tables.{set_at, insert_other}
use Rattle.link_tables_agree.specs.Sound.{own_at, AllOn, IsUnused, AreSound, IsNewIn, AreNewIn}
use Rattle.link_tables_agree.proofs.Says.{Told as ToldOn, AllTold}
use Rattle.link_tables_agree.proofs.Steps.{spoke}
use Rattle.link_tables_agree.proofs.Walks.{Walk, begins, accepts}
use Rattle.link_tables_agree.proofs.Went.{went_speaks}
use Rattle.link_tables_agree.proofs.Deeds.{deed_goes, free_do}
use Rattle.link_tables_agree.proofs.Sound.{one_sound}

-- ---- logs

apart_both : (handle session n : ℕ) (xs ys : List Entry) → AreApart handle session n xs → AreApart handle session n ys → AreApart handle session n (xs ++ ys)
apart_both handle session n [] ys p q = q
apart_both handle session n (x ∷ xs) ys p q = (p.0, apart_both handle session n xs ys p.1 q)

own_more : (n : ℕ) (xs ys : List Entry) → own n (xs ++ ys) ≡ own n xs ++ own n ys
own_more n xs ys = flat_map-append (event_of n) xs ys

told_more : (xs ys : List Entry) → told (xs ++ ys) ≡ told xs ++ told ys
told_more xs ys = flat_map-append told_in xs ys

own_here : (link n : ℕ) (es : List Event) → nat_eq link n ≡ true → own n (map (Of link) es) ≡ es
own_here link n [] h = refl
own_here link n (e ∷ es) h = ap (λ b. (if b then e ∷ [] else []) ++ own n (map (Of link) es)) h ∙ ap (λ xs. e ∷ xs) (own_here link n es h)

own_none : (link n : ℕ) (es : List Event) → nat_eq link n ≡ false → own n (map (Of link) es) ≡ []
own_none link n [] h = refl
own_none link n (e ∷ es) h = ap (λ b. (if b then e ∷ [] else []) ++ own n (map (Of link) es)) h ∙ own_none link n es h

-- its own entries are none of others
apart_own : (handle session link n : ℕ) (es : List Event) → nat_eq link n ≡ true → AreApart handle session n (map (Of link) es)
apart_own handle session link n [] h = tt
apart_own handle session link n (e ∷ es) h = (λ f. absurd (true_false (sym h ∙ f)), apart_own handle session link n es h)
  where
    true_false : true ≡ false → ⊥
    true_false f = cc

-- ---- Transfers of another link

none_on : (Q : ℕ → Type 0) (handle : ℕ) (xs : List Part) → ((h : ℕ) → Q h → nat_eq h handle ≡ false) → AllOn Q xs → on handle xs ≡ []
none_on Q handle [] f p = refl
none_on Q handle (x ∷ xs) f p = ap (λ b. if b then x ∷ on handle xs else on handle xs) (f x.transfer.handle p.0) ∙ none_on Q handle xs f p.1

-- on another session, or on other handles
wrote_apart : (b : Bool) (Q : ℕ → Type 0) (handle : ℕ) (x : FrameBody) → (b ≡ true → (h : ℕ) → Q h → nat_eq h handle ≡ false) → AllOn Q (transfer_in x) → on handle (if b then transfer_in x else []) ≡ []
wrote_apart true Q handle x f p = none_on Q handle (transfer_in x) (f refl) p
wrote_apart false Q handle x f p = refl

module _ (Q : ℕ → Type 0) (handle session other link n : ℕ) (f : nat_eq other session ≡ true → (h : ℕ) → Q h → nat_eq h handle ≡ false) where
  told_apart : (e : Event) → ToldOn Q other e → on handle (part_wrote session e) ≡ []
  told_apart (Wrote x y) p = wrote_apart (nat_eq x session) Q handle y (λ e. f (ap (λ k. nat_eq k session) (sym p.0) ∙ e)) p.1
  told_apart (Sent m) p = refl
  told_apart (Answered a) p = refl

  -- what a link on that other session tells
  apart_others : (es : List Event) → AllTold Q other es → AreApart handle session n (map (Of link) es)
  apart_others [] p = tt
  apart_others (e ∷ es) p = (λ g. told_apart e p.0, apart_others es p.1)

-- ---- one step

-- the link went on, has told what is in the log of it, and is alone on the handle that it has while it is heard
pub record Goes (n : ℕ) (l : Called) (s t : State) : Type 0 where
  pub log : List Entry
  pub output : t.output ≡ s.output ++ told log
  pub link : Called
  pub at : link_of n t ≡ Some link
  pub parts : List Part
  pub went : Went l (own n log) parts link
  pub apart : is_heard link ≡ true → AreApart (handle_of link) l.session n log

abbrev Any : ℕ → Type 0
Any handle = Unit {0}

all_any : (xs : List Part) → AllOn Any xs
all_any [] = tt
all_any (x ∷ xs) = (tt, all_any xs)

-- a link that is heard behind it was heard before, on the same handle
pub was_heard : (l m : Called) (es : List Event) (ps : List Part) → Went l es ps m → is_heard m ≡ true → (is_heard l ≡ true) × (handle_of m ≡ handle_of l)
was_heard l m es ps w h = (went_speaks Any l m es ps w (all_any _) (λ k. tt)).heard h

same_called : (k l : Called) → Some k ≡ Some l → k ≡ l
same_called k l e = cc

module _ (n : ℕ) where
  abbrev On : State → State → Type 0
  On s t = (l : Called) → link_of n s ≡ Some l → Goes n l s t

  goes_quiet : (s t : State) → ((l : Called) → link_of n s ≡ Some l → link_of n t ≡ Some l) → t.output ≡ s.output → On s t
  goes_quiet s t f o l at = record { log = []; output = o ∙ sym (append-nil s.output); link = l; at = f l at; parts = []; went = went_still l; apart = λ h. tt }

  goes_as : (s t : State) → t.endpoints ≡ s.endpoints → t.output ≡ s.output → On s t
  goes_as s t e o = goes_quiet s t (λ l at. ap (lookup (nat_eq n)) e ∙ at) o

  goes_strayed : (session : ℕ) (s t : State) → t.endpoints ≡ s.endpoints → t.output ≡ s.output ++ told (Strayed session ∷ []) → On s t
  goes_strayed session s t e o l at =
      record { log = Strayed session ∷ []; output = o; link = l; at = ap (lookup (nat_eq n)) e ∙ at; parts = []; went = went_still l; apart = λ h. (tt, tt) }

  goes_then : (a b c : State) → On a b → On b c → On a c
  goes_then a b c p q l at =
      let x = p l at in
      let y = q x.link x.at in
      record {
        log = x.log ++ y.log;
        output = y.output ∙ (ap (λ xs. xs ++ told y.log) x.output ∙ (append_assoc a.output (told x.log) (told y.log) ∙ ap (λ xs. a.output ++ xs) (sym (told_more x.log y.log))));
        link = y.link;
        at = y.at;
        parts = x.parts ++ y.parts;
        went = subst (λ es. Went l es (x.parts ++ y.parts) y.link) (sym (own_more n x.log y.log)) (went_then l x.link y.link (own n x.log) (own n y.log) x.parts y.parts x.went y.went);
        apart = λ h.
            let was = was_heard x.link y.link (own n y.log) y.parts y.went h in
            apart_both (handle_of y.link) l.session n x.log y.log
            (subst (λ k. AreApart k l.session n x.log) (sym was.1) (x.apart was.0))
            (subst (λ k. AreApart (handle_of y.link) k n y.log) x.went.session (y.apart h));
      }

  -- one link goes on
  module _ (made : ℕ) (k m : Called) (es : List Event) (ps : List Part) (s t : State) (sound : AreSound s) (is : link_of made s ≡ Some k) (w : Went k es ps m) (e : t.endpoints ≡ set_value (nat_eq made) s.endpoints m)
      (o : t.output ≡ s.output ++ told (map (Of made) es)) where
    linked : (b : Bool) → nat_eq made n ≡ b → link_of n t ≡ cond b (Some m) (link_of n s)
    linked b h = ap (lookup (nat_eq n)) e ∙ (set_at made n s.endpoints k m is ∙ ap (λ x. cond x (Some m) (link_of n s)) h)

    goes_itself : nat_eq made n ≡ true → On s t
    goes_itself h l at =
        let same : k ≡ l = same_called k l (sym is ∙ (ap (λ x. link_of x s) (eqb-true made n h) ∙ at)) in
        record {
          log = map (Of made) es;
          output = o;
          link = m;
          at = linked true h;
          parts = ps;
          went = subst (λ x. Went x (own n (map (Of made) es)) ps m) same (subst (λ xs. Went k xs ps m) (sym (own_here made n es h)) w);
          apart = λ g. apart_own (handle_of m) l.session made n es h;
        }

    -- another is on other handles
    handles_apart : nat_eq made n ≡ false → (l : Called) → link_of n s ≡ Some l → is_heard l ≡ true → nat_eq k.session l.session ≡ true → (handle : ℕ) → own_at handle (place_of k.session s) ≡ Some made → nat_eq handle (handle_of l) ≡ false
    handles_apart h l at heard g handle led = by (nat_eq handle (handle_of l)) refl
      where
        one_of : (x y : ℕ) → Some x ≡ Some y → x ≡ y
        one_of x y f = cc

        by : (b : Bool) → nat_eq handle (handle_of l) ≡ b → nat_eq handle (handle_of l) ≡ false
        by false f = f
        by true f =
            let found : own_at (handle_of l) (place_of l.session s) ≡ Some made = ap (λ x. own_at x (place_of l.session s)) (sym (eqb-true handle (handle_of l) f)) ∙ (ap (λ x. own_at handle (place_of x s)) (sym (eqb-true k.session l.session g)) ∙ led) in
            absurd (eqb-false made n h (one_of made n (sym found ∙ sound.holds n l at heard)))

    goes_other : nat_eq made n ≡ false → On s t
    goes_other h l at =
        record {
          log = map (Of made) es;
          output = o;
          link = l;
          at = linked false h ∙ at;
          parts = [];
          went = subst (λ xs. Went l xs [] l) (sym (own_none made n es h)) (went_still l);
          apart = λ heard. apart_others (λ handle. own_at handle (place_of k.session s) ≡ Some made) (handle_of l) l.session k.session made n (handles_apart h l at heard) es (spoke made k m es ps s is w sound).told;
        }

    goes_linked : On s t
    goes_linked = by (nat_eq made n) refl
      where
        by : (b : Bool) → nat_eq made n ≡ b → On s t
        by true h = goes_itself h
        by false h = goes_other h

  -- a link that stands has another name than one that was not used
  made_other : (name : ℕ) (l : Called) (s : State) → IsUnused name s → link_of n s ≡ Some l → (b : Bool) → nat_eq name n ≡ b → nat_eq name n ≡ false
  made_other name l s u at false e = e
  made_other name l s u at true e = absurd (none_some (sym u.unled.none ∙ (ap (λ x. link_of x s) (eqb-true name n e) ∙ at)))
    where
      none_some : None ≡ Some l → ⊥
      none_some f = cc

  goes_standing : (name : ℕ) (k : Called) (s a t : State) → IsUnused name s → a.endpoints ≡ s.endpoints → t.endpoints ≡ (standing name k a).endpoints → t.output ≡ s.output → On s t
  goes_standing name k s a t u e f o =
      goes_quiet s t (λ l at. ap (lookup (nat_eq n)) f ∙ (insert_other name n k a.endpoints (made_other name l s u at (nat_eq name n) refl) ∙ (ap (lookup (nat_eq n)) e ∙ at))) o

  stepped_endpoints : (x : Option Place) (session : ℕ) (f : Place → Place) (s : State) → (stepped x session f s).endpoints ≡ s.endpoints
  stepped_endpoints None session f s = refl
  stepped_endpoints (Some p) session f s = refl

  stepped_output : (x : Option Place) (session : ℕ) (f : Place → Place) (s : State) → (stepped x session f s).output ≡ s.output
  stepped_output None session f s = refl
  stepped_output (Some p) session f s = refl

  goes_met : (name : ℕ) (l : Called) (session : ℕ) (q : Place) (x : Attach) (s : State) → IsUnused name s → On s (accepts name l session q x s)
  goes_met name l session q x s u =
      let a = with_place session q s in
      let b = at_place session attach_taken a in
      let d = standing name l b in
      goes_standing name l s b (joining session x.handle name d) u (stepped_endpoints (place_of session a) session attach_taken a) (stepped_endpoints (place_of session d) session (joined x.handle name) d)
      (stepped_output (place_of session d) session (joined x.handle name) d ∙ stepped_output (place_of session a) session attach_taken a)

  -- all steps
  abbrev steps : Walk
  steps =
      record {
        May = λ session remote. Unit {0};
        Joins = λ link. Unit {0};
        Makes = λ name. Unit {0};
        R = On;
        still = λ s. goes_as s s refl refl;
        next = goes_then;
        same = λ s t a e o. goes_as s t e o;
        goes = λ made k m es ps s t h is w a e o. goes_linked made k m es ps s t h is w e o;
        strays = λ session s. goes_strayed session s _ refl refl;
        calm = λ session p q s at c. goes_as s _ refl refl;
        enters = λ session s at. goes_as s _ refl refl;
        frees = λ link l p s h is over at. goes_as s _ refl refl;
        reclaims = λ link l name r max handle p q s is at c. goes_as s _ refl refl;
        parts = λ session remote p s h may at. goes_as s _ refl refl;
        joins = λ session remote link p s may j at. goes_as s _ refl refl;
        pushes = λ session x p s may at. goes_as s _ refl refl;
        awaits = λ session a p s m u at. goes_as s _ refl refl;
        drops = λ session p s at. goes_as s _ refl refl;
        makes = λ name l session handle text r max p q s h m u at c is. goes_standing name l s (with_place session q s) (begins name l session q s) u refl refl refl;
        meets = λ name l session handle text r max p q x s h m u at c is may. goes_met name l session q x s u;
      }

-- ---- deeds

-- the same, with what went to the sessions
pub record Does (n : ℕ) (gave : List Told) (l : Called) (s t : State) : Type 0 where
  pub log : List Entry
  pub output : gave ++ t.output ≡ s.output ++ told log
  pub link : Called
  pub at : link_of n t ≡ Some link
  pub parts : List Part
  pub went : Went l (own n log) parts link
  pub apart : is_heard link ≡ true → AreApart (handle_of link) l.session n log

does : (n : ℕ) (l : Called) (s t : State) → Goes n l s t → Does n [] l s t
does n l s t g = record { log = g.log; output = g.output; link = g.link; at = g.at; parts = g.parts; went = g.went; apart = g.apart }

-- the links did that by themselves
abbrev IsInner : Deed → Type 0
IsInner (Hands x) = ⊥
IsInner d = Unit {0}

not_hands : (d : Deed) (x : Told) → IsInner d → d ≡ Hands x → ⊥
not_hands d x i e = subst IsInner e i

inner_does : (n : ℕ) (d : Deed) (s t : State) → IsInner d → IsDeed s d t → IsNewIn d s → AreSound s → (l : Called) → link_of n s ≡ Some l → Does n [] l s t
inner_does n d s t i h fresh sound l at =
    does n l s t ((deed_goes (steps n) d s t h fresh (free_do (steps n) (λ session remote. tt) (λ link. tt) (λ name. tt) d s) (λ x e. absurd (not_hands d x i e)) sound).goes l at)

one_does : (n : ℕ) (d : Deed) (s t : State) → IsDeed s d t → IsNewIn d s → AreSound s → (l : Called) → link_of n s ≡ Some l → Does n (handed d) l s t
one_does n (Hands x) s t h fresh sound l at =
    record { log = []; output = sym h.0 ∙ sym (append-nil s.output); link = l; at = ap (λ y. link_of n y) h.1 ∙ at; parts = []; went = went_still l; apart = λ g. tt }
one_does n (Asks name x max) s t h fresh sound l at = inner_does n (Asks name x max) s t tt h fresh sound l at
one_does n (Hears session x) s t h fresh sound l at = inner_does n (Hears session x) s t tt h fresh sound l at
one_does n (Knows moment) s t h fresh sound l at = inner_does n (Knows moment) s t tt h fresh sound l at
one_does n Looks s t h fresh sound l at = inner_does n Looks s t tt h fresh sound l at
one_does n Tells s t h fresh sound l at = inner_does n Tells s t tt h fresh sound l at

-- what went, and what is to go
both_go : (gave more new mid old xs ys : List Told) → gave ++ mid ≡ old ++ xs → more ++ new ≡ mid ++ ys → (gave ++ more) ++ new ≡ old ++ (xs ++ ys)
both_go gave more new mid old xs ys p q =
    append_assoc gave more new ∙ (ap (λ zs. gave ++ zs) q ∙ (sym (append_assoc gave mid ys) ∙ (ap (λ zs. zs ++ ys) p ∙ append_assoc old xs ys)))

does_then : (n : ℕ) (gave more : List Told) (l : Called) (a b c : State) (x : Does n gave l a b) → Does n more x.link b c → Does n (gave ++ more) l a c
does_then n gave more l a b c x y =
    record {
      log = x.log ++ y.log;
      output = both_go gave more c.output b.output a.output (told x.log) (told y.log) x.output y.output ∙ ap (λ xs. a.output ++ xs) (sym (told_more x.log y.log));
      link = y.link;
      at = y.at;
      parts = x.parts ++ y.parts;
      went = subst (λ es. Went l es (x.parts ++ y.parts) y.link) (sym (own_more n x.log y.log)) (went_then l x.link y.link (own n x.log) (own n y.log) x.parts y.parts x.went y.went);
      apart = λ h.
          let was = was_heard x.link y.link (own n y.log) y.parts y.went h in
          apart_both (handle_of y.link) l.session n x.log y.log
          (subst (λ k. AreApart k l.session n x.log) (sym was.1) (x.apart was.0))
          (subst (λ k. AreApart (handle_of y.link) k n y.log) x.went.session (y.apart h));
    }

pub all_do : (n : ℕ) (ds : List Deed) (old new : State) (did : Did old ds new) → AreNewIn old ds new did → AreSound old → (l : Called) → link_of n old ≡ Some l → Does n (all_handed ds) l old new
all_do n [] old new did fresh sound l at =
    record {
      log = [];
      output = ap (λ s. s.output) did ∙ sym (append-nil old.output);
      link = l;
      at = ap (λ y. link_of n y) did ∙ at;
      parts = [];
      went = went_still l;
      apart = λ h. tt;
    }
all_do n (d ∷ ds) old new did fresh sound l at =
    let mid = did.0 in
    let x = one_does n d old mid did.1.0 fresh.0 sound l at in
    does_then n (handed d) (all_handed ds) l old mid new x (all_do n ds mid new did.1.1 fresh.1 (one_sound d old mid did.1.0 fresh.0 sound) x.link x.at)
