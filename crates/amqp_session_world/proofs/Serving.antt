-- What an end with sessions does serves them, deed after deed.
use Rattle.std.proofs.Common.{◌≡◌, inl, inr, ℕ, List, [], ◌∷◌, ◌++◌, Ok, Err, refl, sym, ap, ◌∙◌, subst, append_assoc}
use Rattle.std.proofs.lemmas.List.{append-nil}
use Rattle.amqp_wire.specs.declared.link.Link.{Ghosts}
use Rattle.amqp_end.specs.amqp_links.State.{State as Links}
use Rattle.amqp_transport.specs.declared.frames.Frame.{Frame}
use Rattle.amqp_words.specs.declared.call.Call.{Call as ConnectionCall}
use Rattle.amqp_peer.specs.Frames.{asking}
use Rattle.amqp_peer.specs.History.{Local, Made, Polled, made_in, moment_in, IsInside}
use Rattle.amqp_peer.specs.Peering.{Peering, Has}
use Rattle.amqp_peer.proofs.Histories.{moment_in-inside, made_in-keeps}
use Rattle.amqp_peer.proofs.Sessions.{takes_has, session_has}
use Rattle.amqp_end.specs.amqp_sessions.State.{State}
use Rattle.amqp_ends.specs.Streams.{Serves}
use Rattle.amqp_ends.proofs.Serving.{serves_calls, serves_polls, serves_on, serves_last, serves_hands, serves_asks, serves_sends, serves_seats, serves_frees, serves_tells}
use Rattle.amqp_end.specs.Deeds.{Deed, Makes, Polls, Goes, Moves, Hears, Writes, Seats, Lacks, Frees, Accepts, Asks, LinksHear, LinksWrite, LinksLack, LinksKnow, LinksLook, Tells, TellsFirst, IsStep, IsDeed, Did, adds, behind, called_of, called_by, asked_of, asked_by, heard_of, heard_by, given_of, given_by}

-- ---- the same of other lists

-- an end that serves its sessions at that moment, with those calls
pub record ServesAt {L : Type 0} (at : ℕ) (calls : List (ℕ × ConnectionCall)) (p : Peering L) (asked heard gave : List Frame) (h : List Local) : Type 0 where
  pub serves : Serves p asked heard gave h
  pub moment : moment_in h ≡ at
  pub calls_are : made_in h ≡ calls

serves_as : {L : Type 0} (p : Peering L) (a a' b b' c c' : List Frame) (h h' : List Local) → a ≡ a' → b ≡ b' → c ≡ c' → h ≡ h' → Serves p a b c h → Serves p a' b' c' h'
serves_as p a a' b b' c c' h h' e f g i s =
    subst (λ (u : List Frame). Serves p u b' c' h') e (subst (λ (u : List Frame). Serves p a u c' h') f (subst (λ (u : List Frame). Serves p a b u h') g (subst (λ (u : List Local). Serves p a b c u) i s)))

-- nothing is handed up or given
serves_none : {L : Type 0} (p : Peering L) (a b c : List Frame) (h h' : List Local) → h ≡ h' → Serves p a b c h → Serves p (a ++ []) (b ++ []) (c ++ []) h'
serves_none p a b c h h' i s = serves_as p a (a ++ []) b (b ++ []) c (c ++ []) h h' (sym (append-nil a)) (sym (append-nil b)) (sym (append-nil c)) i s

serves_same : {L : Type 0} (p q : Peering L) (a b c : List Frame) (h : List Local) → q ≡ p → Serves p a b c h → Serves q a b c h
serves_same {L} p q a b c h e s = subst (λ (z : Peering L). Serves z a b c h) (sym e) s

-- ---- one deed

behind_first : (es fs : List Local) (first : Local) (h : List Local) → es ≡ fs → es ++ (first ∷ h) ≡ (fs ++ first ∷ []) ++ h
behind_first es fs first h e = ap (λ (u : List Local). u ++ (first ∷ h)) e ∙ sym (append_assoc fs (first ∷ []) h)

serves_step : {L : Type 0} (link : Ghosts L) (at : ℕ) (p p' : Peering L) (events : List Local) (a b c : List Frame) (h : List Local) → IsStep link at p events p' → moment_in h ≡ at → Serves p a b c h → Serves p' a b c (events ++ h)
serves_step {L} link at p p' events a b c h (inl (k, e)) m s = subst (λ (u : List Local). Serves p' a b c (u ++ h)) e (serves_on link at p p' a b c h k m s)
serves_step {L} link at p p' events a b c h (inr (k, e)) m s = subst (λ (u : List Local). Serves p' a b c (u ++ h)) e (serves_last link at p p' a b c h k m s)

deed_serves : {L : Type 0} (link : Ghosts L) (at : ℕ) (d : Deed) (p p' : Peering L) (s s' : State) (l l' : Links) (a b c : List Frame) (h : List Local) → IsDeed link at p s l d p' s' l' → moment_in h ≡ at → Serves p a b c h → Serves p' (a ++ asked_of d) (b ++ heard_of d) (c ++ given_of d) (adds at d ++ h)
deed_serves link at (Makes name call events) p p' s s' l l' a b c h x m k =
    let st = x.0.0 in
    serves_none p' a b c (st.events ++ (Made at name call ∷ h)) ((events ++ Made at name call ∷ []) ++ h) (behind_first st.events events (Made at name call) h x.0.1) (serves_calls link at name call p p' a b c h st k)
deed_serves link at (Polls events) p p' s s' l l' a b c h x m k =
    let st = x.0.0 in
    serves_none p' a b c (st.events ++ (Polled at ∷ h)) ((events ++ Polled at ∷ []) ++ h) (behind_first st.events events (Polled at) h x.0.1) (serves_polls link at p p' a b c h st k)
deed_serves link at (Goes events) p p' s s' l l' a b c h x m k = serves_none p' a b c (events ++ h) (events ++ h) refl (serves_step link at p p' events a b c h x.0 m k)
deed_serves link at (Moves n) p p' s s' l l' a b c h x m k = serves_none p' a b c h h refl (serves_same p p' a b c h x.0 k)
deed_serves {L} link at (Hears f) p p' s s' l l' a b c h x m k =
    serves_as p' a (a ++ []) (b ++ f ∷ []) (b ++ f ∷ []) c (c ++ []) h h (sym (append-nil a)) refl (sym (append-nil c)) refl
    (serves_hands f p p' a b c h x.0 (λ z. subst (λ (q : Peering L). Has q h) (sym x.1) (takes_has link p _ p'.held x.0 h z)) k)
deed_serves {L} link at (Writes f events) p p' s s' l l' a b c h x m k =
    let w = x.0 in
    serves_as p' a (a ++ []) b (b ++ []) (c ++ f ∷ []) (c ++ f ∷ []) (w.sent.events ++ h) (events ++ h) (sym (append-nil a)) (sym (append-nil b)) refl (ap (λ (u : List Local). u ++ h) w.adds)
    (serves_sends link f p p' a b c h w.sent w.opened k)
deed_serves link at (Seats channel) p p' s s' l l' a b c h x m k = serves_none p' a b c h h refl (serves_seats link (Ok channel) p p' a b c h x.0 x.1 k)
deed_serves link at (Lacks e) p p' s s' l l' a b c h x m k = serves_none p' a b c h h refl (serves_seats link (Err e) p p' a b c h x.0 x.1 k)
deed_serves link at (Frees channel) p p' s s' l l' a b c h x m k = serves_none p' a b c h h refl (serves_same _ p' a b c h x.1 (serves_frees link channel p a b c h k))
deed_serves {L} link at (Accepts name n channel limit incoming) p p' s s' l l' a b c h x m k =
    serves_as p' (a ++ asking incoming ∷ []) (a ++ asking incoming ∷ []) b (b ++ []) c (c ++ []) h h refl (sym (append-nil b)) (sym (append-nil c)) refl
    (serves_asks incoming p p' a b c h x.0 (λ z. subst (λ (q : Peering L). Has q h) (sym x.1) (session_has link p _ p'.held x.0 h z)) k)
deed_serves link at (Asks name call) p p' s s' l l' a b c h x m k = serves_none p' a b c h h refl (serves_same p p' a b c h x.0 k)
deed_serves link at (LinksHear session y) p p' s s' l l' a b c h x m k = serves_none p' a b c h h refl (serves_same p p' a b c h x.0 k)
deed_serves link at (LinksWrite session y) p p' s s' l l' a b c h x m k = serves_none p' a b c h h refl (serves_same p p' a b c h x.0 k)
deed_serves link at (LinksLack session) p p' s s' l l' a b c h x m k = serves_none p' a b c h h refl (serves_same p p' a b c h x.0 k)
deed_serves link at LinksKnow p p' s s' l l' a b c h x m k = serves_none p' a b c h h refl (serves_same p p' a b c h x.0 k)
deed_serves link at LinksLook p p' s s' l l' a b c h x m k = serves_none p' a b c h h refl (serves_same p p' a b c h x.0 k)
deed_serves link at (Tells answers) p p' s s' l l' a b c h x m k = serves_none p' a b c h h refl (serves_same _ p' a b c h x.0 (serves_tells p a b c h k))
deed_serves link at (TellsFirst name answers) p p' s s' l l' a b c h x m k = serves_none p' a b c h h refl (serves_same _ p' a b c h x.0 (serves_tells p a b c h k))

-- ---- its moment, and its call

-- events of one run behind a history
inside_of : {L : Type 0} (link : Ghosts L) (at : ℕ) (p p' : Peering L) (events : List Local) → IsStep link at p events p' → IsInside events
inside_of link at p p' events (inl (k, e)) = subst IsInside e k.0.run.inside
inside_of link at p p' events (inr (k, e)) = subst IsInside e k.0.run.inside

moment_first : (events : List Local) (first : Local) (h : List Local) → IsInside events → moment_in ((events ++ first ∷ []) ++ h) ≡ moment_in (first ∷ h)
moment_first events first h i = ap moment_in (append_assoc events (first ∷ []) h) ∙ moment_in-inside events (first ∷ h) i

made_first : (events : List Local) (first : Local) (h : List Local) → IsInside events → made_in ((events ++ first ∷ []) ++ h) ≡ made_in (first ∷ h)
made_first events first h i = ap made_in (append_assoc events (first ∷ []) h) ∙ made_in-keeps events (first ∷ h) i

deed_moment : {L : Type 0} (link : Ghosts L) (at : ℕ) (d : Deed) (p p' : Peering L) (s s' : State) (l l' : Links) (h : List Local) → IsDeed link at p s l d p' s' l' → moment_in h ≡ at → moment_in (adds at d ++ h) ≡ at
deed_moment link at (Makes name call events) p p' s s' l l' h x m = moment_first events (Made at name call) h (subst IsInside x.0.1 x.0.0.inside)
deed_moment link at (Polls events) p p' s s' l l' h x m = moment_first events (Polled at) h (subst IsInside x.0.1 x.0.0.inside)
deed_moment link at (Goes events) p p' s s' l l' h x m = moment_in-inside events h (inside_of link at p p' events x.0) ∙ m
deed_moment link at (Moves n) p p' s s' l l' h x m = m
deed_moment link at (Hears f) p p' s s' l l' h x m = m
deed_moment link at (Writes f events) p p' s s' l l' h x m = moment_in-inside events h (subst IsInside x.0.adds x.0.sent.inside) ∙ m
deed_moment link at (Seats channel) p p' s s' l l' h x m = m
deed_moment link at (Lacks e) p p' s s' l l' h x m = m
deed_moment link at (Frees channel) p p' s s' l l' h x m = m
deed_moment link at (Accepts name n channel limit incoming) p p' s s' l l' h x m = m
deed_moment link at (Asks name call) p p' s s' l l' h x m = m
deed_moment link at (LinksHear session y) p p' s s' l l' h x m = m
deed_moment link at (LinksWrite session y) p p' s s' l l' h x m = m
deed_moment link at (LinksLack session) p p' s s' l l' h x m = m
deed_moment link at LinksKnow p p' s s' l l' h x m = m
deed_moment link at LinksLook p p' s s' l l' h x m = m
deed_moment link at (Tells answers) p p' s s' l l' h x m = m
deed_moment link at (TellsFirst name answers) p p' s s' l l' h x m = m

deed_calls : {L : Type 0} (link : Ghosts L) (at : ℕ) (d : Deed) (p p' : Peering L) (s s' : State) (l l' : Links) (h : List Local) → IsDeed link at p s l d p' s' l' → made_in (adds at d ++ h) ≡ called_of d ++ made_in h
deed_calls link at (Makes name call events) p p' s s' l l' h x = made_first events (Made at name call) h (subst IsInside x.0.1 x.0.0.inside)
deed_calls link at (Polls events) p p' s s' l l' h x = made_first events (Polled at) h (subst IsInside x.0.1 x.0.0.inside)
deed_calls link at (Goes events) p p' s s' l l' h x = made_in-keeps events h (inside_of link at p p' events x.0)
deed_calls link at (Moves n) p p' s s' l l' h x = refl
deed_calls link at (Hears f) p p' s s' l l' h x = refl
deed_calls link at (Writes f events) p p' s s' l l' h x = made_in-keeps events h (subst IsInside x.0.adds x.0.sent.inside)
deed_calls link at (Seats channel) p p' s s' l l' h x = refl
deed_calls link at (Lacks e) p p' s s' l l' h x = refl
deed_calls link at (Frees channel) p p' s s' l l' h x = refl
deed_calls link at (Accepts name n channel limit incoming) p p' s s' l l' h x = refl
deed_calls link at (Asks name call) p p' s s' l l' h x = refl
deed_calls link at (LinksHear session y) p p' s s' l l' h x = refl
deed_calls link at (LinksWrite session y) p p' s s' l l' h x = refl
deed_calls link at (LinksLack session) p p' s s' l l' h x = refl
deed_calls link at LinksKnow p p' s s' l l' h x = refl
deed_calls link at LinksLook p p' s s' l l' h x = refl
deed_calls link at (Tells answers) p p' s s' l l' h x = refl
deed_calls link at (TellsFirst name answers) p p' s s' l l' h x = refl

-- ---- all of them

pub did_serves : {L : Type 0} (link : Ghosts L) (at : ℕ) (ds : List Deed) (p p' : Peering L) (s s' : State) (l l' : Links) (a b c : List Frame) (h : List Local) → Did link at p s l ds p' s' l' → moment_in h ≡ at → Serves p a b c h
    → ServesAt at (called_by ds ++ made_in h) p' (a ++ asked_by ds) (b ++ heard_by ds) (c ++ given_by ds) (behind at ds h)
did_serves link at [] p p' s s' l l' a b c h x m k = record { serves = serves_none p' a b c h h refl (serves_same p p' a b c h x.0 k); moment = m; calls_are = refl }
did_serves link at (d ∷ ds) p p' s s' l l' a b c h x m k =
    let q = did_serves link at ds p x.0 s x.1 l x.2 a b c h x.3 m k in
    let old : List Local = behind at ds h in
    record {
      serves = serves_as p' _ (a ++ asked_by (d ∷ ds)) _ (b ++ heard_by (d ∷ ds)) _ (c ++ given_by (d ∷ ds)) _ (behind at (d ∷ ds) h) (append_assoc a (asked_by ds) (asked_of d)) (append_assoc b (heard_by ds) (heard_of d)) (append_assoc c (given_by ds) (given_of d)) refl
          (deed_serves link at d x.0 p' x.1 s' x.2 l' (a ++ asked_by ds) (b ++ heard_by ds) (c ++ given_by ds) old x.4 q.moment q.serves);
      moment = deed_moment link at d x.0 p' x.1 s' x.2 l' old x.4 q.moment;
      calls_are = deed_calls link at d x.0 p' x.1 s' x.2 l' old x.4 ∙ ap (λ (u : List (ℕ × ConnectionCall)). called_of d ++ u) q.calls_are ∙ sym (append_assoc (called_of d) (called_by ds) (made_in h));
    }

-- ---- what deeds tell, joined

pub asked_then : (es ds : List Deed) → asked_by (es ++ ds) ≡ asked_by ds ++ asked_by es
asked_then [] ds = sym (append-nil (asked_by ds))
asked_then (e ∷ es) ds = ap (λ (u : List Frame). u ++ asked_of e) (asked_then es ds) ∙ append_assoc (asked_by ds) (asked_by es) (asked_of e)

pub heard_then : (es ds : List Deed) → heard_by (es ++ ds) ≡ heard_by ds ++ heard_by es
heard_then [] ds = sym (append-nil (heard_by ds))
heard_then (e ∷ es) ds = ap (λ (u : List Frame). u ++ heard_of e) (heard_then es ds) ∙ append_assoc (heard_by ds) (heard_by es) (heard_of e)

pub given_then : (es ds : List Deed) → given_by (es ++ ds) ≡ given_by ds ++ given_by es
given_then [] ds = sym (append-nil (given_by ds))
given_then (e ∷ es) ds = ap (λ (u : List Frame). u ++ given_of e) (given_then es ds) ∙ append_assoc (given_by ds) (given_by es) (given_of e)

-- a history behind deeds is their events behind it
pub behind_of : (at : ℕ) (ds : List Deed) (h : List Local) → behind at ds h ≡ behind at ds [] ++ h
behind_of at [] h = refl
behind_of at (d ∷ ds) h = ap (λ (u : List Local). adds at d ++ u) (behind_of at ds h) ∙ sym (append_assoc (adds at d) (behind at ds []) h)
