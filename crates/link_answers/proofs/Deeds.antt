-- What stands behind the deeds of an end.
use Rattle.std.proofs.Common.{◌≡◌, ◌∙◌, ap, subst, refl, sym, append_assoc, ℕ, Bool, not, ◌==◌, List, [], ◌∷◌, ◌++◌, map, filter, None}
use Rattle.std.proofs.lemmas.List.{append-nil}
use Rattle.std.proofs.lemmas.List.Elements.{All-nil, All-append, All-filter, All-map, All-weaker, Contains-append_left, Contains-push}
use Rattle.std.proofs.lemmas.List.Sorted.{All-permutation}
use Rattle.std.specs.Map.{values_of}
use Rattle.amqp_calls.specs.declared.reply.NamedReply.{NamedReply}
use Rattle.amqp_calls.specs.declared.reply.Reply.{Reply}
use Rattle.amqp_calls.specs.declared.reply.Reply.TheVariants as of
use Rattle.amqp_end.specs.Answers.{together, of_connection, of_link, AreOrdered, with_first}
use Rattle.amqp_end.specs.Asks.{limit_for}
use Rattle.amqp_end.specs.Deeds as end
use Rattle.amqp_end.specs.Deeds.{Deed, IsDeed, Did, told_of, told_by}
use Rattle.amqp_frames.specs.declared.body.FrameBody.{FrameBody}
use Rattle.amqp_link.specs.Link.{body_of}
use Rattle.amqp_link_words.specs.declared.link_call.LinkCall.{LinkCall}
use Rattle.amqp_link_words.specs.declared.link_reply.NamedLinkReply.{NamedLinkReply}
use Rattle.amqp_links.specs.Parts.{Told, Frame, Astray}
use Rattle.amqp_links.specs.State.{State as Links, no_links}
use Rattle.amqp_peer.specs.Peering.{Peering}
use Rattle.amqp_session.specs.declared.session.LinkInput.{LinkInput}
use Rattle.amqp_session_world.proofs.Sessions.{sessions_answer}
use Rattle.amqp_session_world.specs.Answers.{IsOfSession, AreOfSessions}
use Rattle.amqp_sessions.specs.State.{State}
use Rattle.amqp_wire.specs.declared.link.Link.{Ghosts}
use Rattle.amqp_words.specs.declared.reply.NamedReply.{NamedReply as ConnectionReply}
use Rattle.link_answers.specs.Standing.{Given, Written, Stands, AllStand}
use Rattle.link_answers.specs.Keeping.{SentStands, TimedStands, StateStands, frames_in, AreStanding}
use Rattle.link_answers.specs.Passing.{asked_of, asked_by, read_of, read_by, behind, gave_of, gave_by}
use Rattle.link_answers.specs.Laws.{nothing, StandsAs, AllAnswered, DeedsStand}
use Rattle.link_answers.proofs.Answers.{answer_wider}
use Rattle.link_answers.proofs.Calling.{call_keeps}
use Rattle.link_answers.proofs.Grows.{Grows, answer_grows, state_grows, was_before}
use Rattle.link_answers.proofs.Hearing.{input_keeps}
use Rattle.link_answers.proofs.Links.{Wider, wider_more}
use Rattle.link_answers.proofs.States.{Stand, state_wider, moment_stand}
use Rattle.link_answers.proofs.Walks.{looked_keeps}

pub none_stands : (accepts : Bool) → AreStanding nothing [] [] (no_links accepts)
none_stands accepts = record {
  output = refl;
  stands = record {
    places = λ session p e. absurd cc;
    links = λ n l e. absurd cc;
    sends = All-nil (SentStands nothing);
    timed = All-nil (TimedStands nothing);
    replies = All-nil (λ (r : NamedLinkReply). Stands nothing [] r.name r.reply);
  };
}

-- ---- one deed

-- what the links are given with it
abbrev more_by : Deed → Given → Given
more_by d g = record { asked = g.asked ++ asked_of d; read = g.read ++ read_of d }

grows_by : (d : Deed) (g : Given) → Grows g (more_by d g)
grows_by d g = record { asked = λ x k. Contains-append_left g.asked (asked_of d) x k; later = read_of d; all_read = refl }

-- behind one deed, the links have put out these more
record Step (g : Given) (gave : List (ℕ × FrameBody)) (w : List Written) (l : Links) : Type 0 where
  more : List Written
  standing : AreStanding g gave (w ++ more) l

quiet : (g : Given) (gave : List (ℕ × FrameBody)) (w : List Written) (l : Links) → gave ++ frames_in l.output ≡ values_of w → StateStands g w l → Step g (gave ++ []) w l
quiet g gave w l o k = record {
  more = [];
  standing = record {
    output = ap (λ (xs : List (ℕ × FrameBody)). xs ++ frames_in l.output) (append-nil gave) ∙ (o ∙ ap (λ (v : List Written). values_of v) (sym (append-nil w)));
    stands = state_wider g w (w ++ []) l (wider_more w []) k;
  };
}

module _ (g : Given) (gave : List (ℕ × FrameBody)) (w : List Written) where
  starts : (l : Links) → AreStanding g gave w l → Stand g (record { frames = gave; written = w }) None l
  starts l k = record { written = w; more = []; begins = sym (append-nil w); output = k.output; stands = state_wider g w (w ++ []) l (wider_more w []) k.stands }

  ends : (l : Links) → Stand g (record { frames = gave; written = w }) None l → Step g (gave ++ []) w l
  ends l k = record {
    more = k.more;
    standing = record {
      output = ap (λ (xs : List (ℕ × FrameBody)). xs ++ frames_in l.output) (append-nil gave) ∙ (k.output ∙ ap (λ (v : List Written). values_of v) k.begins);
      stands = subst (λ (v : List Written). StateStands g v l) (append-nil k.written ∙ k.begins) k.stands;
    };
  }

  same : (l l' : Links) → l' ≡ l → AreStanding g gave w l → Step g (gave ++ []) w l'
  same l l' e k = subst (λ (m : Links). Step g (gave ++ []) w m) (sym e) (quiet g gave w l k.output k.stands)

  -- the frame that goes to its session was to go
  takes : (session : ℕ) (x : FrameBody) (l l' : Links) → l.output ≡ Frame session x ∷ l'.output → l' ≡ record l { output = l'.output } → AreStanding g gave w l → Step g (gave ++ (session, x) ∷ []) w l'
  takes session x l l' o e k =
      let h = k.stands in
      let m : StateStands g w (record l { output = l'.output }) = record { places = h.places; links = h.links; sends = h.sends; timed = h.timed; replies = h.replies } in
      record {
        more = [];
        standing = record {
          output = append_assoc gave ((session, x) ∷ []) (frames_in l'.output) ∙ (ap (λ (xs : List Told). gave ++ frames_in xs) (sym o) ∙ (k.output ∙ ap (λ (v : List Written). values_of v) (sym (append-nil w))));
          stands = state_wider g w (w ++ []) l' (wider_more w []) (subst (StateStands g w) (sym e) m);
        };
      }

  lacks : (session : ℕ) (l l' : Links) → l.output ≡ Astray session ∷ l'.output → l' ≡ record l { output = l'.output } → AreStanding g gave w l → Step g (gave ++ []) w l'
  lacks session l l' o e k =
      let h = k.stands in
      let m : StateStands g w (record l { output = l'.output }) = record { places = h.places; links = h.links; sends = h.sends; timed = h.timed; replies = h.replies } in
      quiet g gave w l' (ap (λ (xs : List Told). gave ++ frames_in xs) (sym o) ∙ k.output) (subst (StateStands g w) (sym e) m)

  none_left : (l l' : Links) → l' ≡ record l { replies = [] } → AreStanding g gave w l → Step g (gave ++ []) w l'
  none_left l l' e k =
      let h = k.stands in
      let m : StateStands g w (record l { replies = [] }) = record { places = h.places; links = h.links; sends = h.sends; timed = h.timed; replies = All-nil (λ (r : NamedLinkReply). Stands g w r.name r.reply) } in
      subst (λ (n : Links). Step g (gave ++ []) w n) (sym e) (quiet g gave w (record l { replies = [] }) k.output m)

deed : {L : Type 0} (link : Ghosts L) (at : ℕ) (d : Deed) (c c' : Peering L) (s s' : State) (l l' : Links) (g : Given) (gave : List (ℕ × FrameBody)) (w : List Written) → IsDeed link at c s l d c' s' l' → AreStanding g gave w l
    → Step (more_by d g) (gave ++ gave_of d) w l'
deed {L} link at d c c' s s' l l' g gave w x h = by d x (record { output = h.output; stands = state_grows g (more_by d g) (grows_by d g) w l h.stands })
  where
    by : (d : Deed) → IsDeed link at c s l d c' s' l' → AreStanding (more_by d g) gave w l → Step (more_by d g) (gave ++ gave_of d) w l'
    by (end.Makes name call events) x k = same (more_by (end.Makes name call events) g) gave w l l' x.2 k
    by (end.Polls events) x k = same (more_by (end.Polls events) g) gave w l l' x.2 k
    by (end.Goes events) x k = same (more_by (end.Goes events) g) gave w l l' x.2 k
    by (end.Moves m) x k = same (more_by (end.Moves m) g) gave w l l' x.2 k
    by (end.Hears f) x k = same (more_by (end.Hears f) g) gave w l l' x.3 k
    by (end.Writes f events) x k = same (more_by (end.Writes f events) g) gave w l l' x.1 k
    by (end.Seats channel) x k = same (more_by (end.Seats channel) g) gave w l l' x.3 k
    by (end.Lacks e) x k = same (more_by (end.Lacks e) g) gave w l l' x.3 k
    by (end.Frees channel) x k = same (more_by (end.Frees channel) g) gave w l l' x.2 k
    by (end.Accepts name n channel limit incoming) x k = same (more_by (end.Accepts name n channel limit incoming) g) gave w l l' x.3 k
    by (end.Asks name call) x k =
        let i = more_by (end.Asks name call) g in
        ends i gave w l' (call_keeps i (record { frames = gave; written = w }) name call (limit_for call s) l l' x.2 (Contains-push g.asked (name, call)) (starts i gave w l k))
    by (end.LinksHear session y) x k =
        let i = more_by (end.LinksHear session y) g in
        let j = input_keeps i (record { frames = gave; written = w }) session y l g.read refl (was_before g i (grows_by (end.LinksHear session y) g) w l h.stands) (starts i gave w l k) in
        subst (λ (m : Links). Step i (gave ++ []) w m) (sym x.2) (ends i gave w _ j)
    by (end.LinksWrite session y) x k = takes (more_by (end.LinksWrite session y) g) gave w session (body_of y) l l' x.2.0 x.2.1 k
    by (end.LinksLack session) x k = lacks (more_by (end.LinksLack session) g) gave w session l l' x.2.0 x.2.1 k
    by end.LinksKnow x k =
        let i = more_by end.LinksKnow g in
        subst (λ (m : Links). Step i (gave ++ []) w m) (sym x.2) (ends i gave w _ (moment_stand i (record { frames = gave; written = w }) None at l (starts i gave w l k)))
    by end.LinksLook x k =
        let i = more_by end.LinksLook g in
        subst (λ (m : Links). Step i (gave ++ []) w m) (sym x.2) (ends i gave w _ (looked_keeps i (record { frames = gave; written = w }) l (starts i gave w l k)))
    by (end.Tells answers) x k = none_left (more_by (end.Tells answers) g) gave w l l' x.2 k
    by (end.TellsFirst name answers) x k = none_left (more_by (end.TellsFirst name answers) g) gave w l l' x.2 k

-- ---- what is told

session_answer : (g : Given) (w : List Written) (name : ℕ) (r : Reply) → IsOfSession r → StandsAs g w name r
session_answer g w name (of.Session r) k = tt
session_answer g w name (of.Connection r) k = absurd k
session_answer g w name (of.Link r) k = absurd k

all_told : (g : Given) (w : List Written) (ss answers : List NamedReply) (cs : List ConnectionReply) (ls : List NamedLinkReply) → AreOrdered (together ss cs ls) answers → AreOfSessions ss → AllStand g w ls → AllAnswered g w answers
all_told g w ss answers cs ls o k h =
    let P : NamedReply → Type 0 = λ (r : NamedReply). StandsAs g w r.name r.reply in
    All-permutation P (together ss cs ls) answers o.all
    (All-append P (ss ++ map of_connection cs) (map of_link ls)
    (All-append P ss (map of_connection cs) (All-weaker (λ (r : NamedReply). IsOfSession r.reply) P (λ r i. session_answer g w r.name r.reply i) ss k) (All-map P of_connection cs (λ i d within. tt)))
    (All-map P of_link ls h))

first_told : (g : Given) (w : List Written) (name : ℕ) (answers : List NamedReply) → AllAnswered g w answers → AllAnswered g w (with_first name answers)
first_told g w name answers k =
    let P : NamedReply → Type 0 = λ (r : NamedReply). StandsAs g w r.name r.reply in
    All-append P (filter (λ (r : NamedReply). r.name == name) answers) (filter (λ (r : NamedReply). not (r.name == name)) answers)
    (All-filter (λ (r : NamedReply). r.name == name) P answers k) (All-filter (λ (r : NamedReply). not (r.name == name)) P answers k)

deed_told : {L : Type 0} (link : Ghosts L) (at : ℕ) (d : Deed) (c c' : Peering L) (s s' : State) (l l' : Links) (g : Given) (w : List Written) → IsDeed link at c s l d c' s' l' → AreOfSessions s.replies → AllStand g w l.replies → AllAnswered g w (told_of d)
deed_told {L} link at d c c' s s' l l' g w x own k = by d x
  where
    none : AllAnswered g w []
    none = All-nil (λ (r : NamedReply). StandsAs g w r.name r.reply)

    by : (d : Deed) → IsDeed link at c s l d c' s' l' → AllAnswered g w (told_of d)
    by (end.Tells answers) x = all_told g w s.replies answers c.replies l.replies x.3 own k
    by (end.TellsFirst name answers) x = first_told g w name answers (all_told g w s.replies answers c.replies l.replies x.3 own k)
    by (end.Makes name call events) x = none
    by (end.Polls events) x = none
    by (end.Goes events) x = none
    by (end.Moves m) x = none
    by (end.Hears f) x = none
    by (end.Writes f events) x = none
    by (end.Seats channel) x = none
    by (end.Lacks e) x = none
    by (end.Frees channel) x = none
    by (end.Accepts name n channel limit incoming) x = none
    by (end.Asks name call) x = none
    by (end.LinksHear session y) x = none
    by (end.LinksWrite session y) x = none
    by (end.LinksLack session) x = none
    by end.LinksKnow x = none
    by end.LinksLook x = none

-- ---- as more is given, and out

reply_grows : (g h : Given) (w v : List Written) (name : ℕ) (r : Reply) → Grows g h → Wider w v → StandsAs g w name r → StandsAs h v name r
reply_grows g h w v name (of.Link r) f wide k = answer_grows g h f v name r (answer_wider g w v name r wide k)
reply_grows g h w v name (of.Session r) f wide k = tt
reply_grows g h w v name (of.Connection r) f wide k = tt

pub replies_grow : (g h : Given) (w v : List Written) (rs : List NamedReply) → Grows g h → Wider w v → AllAnswered g w rs → AllAnswered h v rs
replies_grow g h w v rs f wide k = All-weaker (λ (r : NamedReply). StandsAs g w r.name r.reply) (λ (r : NamedReply). StandsAs h v r.name r.reply) (λ r i. reply_grows g h w v r.name r.reply f wide i) rs k

-- ---- all of them

behind_more : (d : Deed) (ds : List Deed) (g : Given) → more_by d (behind ds g) ≡ behind (d ∷ ds) g
behind_more d ds g =
    ap (λ (a : List (ℕ × LinkCall)). record { asked = a; read = (g.read ++ read_by ds) ++ read_of d }) (append_assoc g.asked (asked_by ds) (asked_of d))
    ∙ ap (λ (r : List (ℕ × LinkInput)). record { asked = g.asked ++ (asked_by ds ++ asked_of d); read = r }) (append_assoc g.read (read_by ds) (read_of d))

behind_none : (g : Given) → behind [] g ≡ g
behind_none g =
    ap (λ (a : List (ℕ × LinkCall)). record { asked = a; read = g.read ++ [] }) (append-nil g.asked) ∙ ap (λ (r : List (ℕ × LinkInput)). record { asked = g.asked; read = r }) (append-nil g.read)

grows_same : (g h : Given) → h ≡ g → Grows g h
grows_same g h e = subst (λ (i : Given). Grows g i) (sym e) (record { asked = λ x k. k; later = []; all_read = sym (append-nil g.read) })

pub answers_stand : {L : Type 0} (link : Ghosts L) (at : ℕ) (q : Peering L) (s : State) (l : Links) (ds : List Deed) (q' : Peering L) (s' : State) (l' : Links) (g : Given) (gave : List (ℕ × FrameBody)) (w : List Written)
    → Did link at q s l ds q' s' l' → AreOfSessions s.replies → AreStanding g gave w l → DeedsStand g gave w ds l'
answers_stand link at q s l [] q' s' l' g gave w x own k =
    let a : Step g (gave ++ []) w l' = same g gave w l l' x.2 k in
    record {
      more = a.more;
      standing = subst (λ (i : Given). AreStanding i (gave ++ []) (w ++ a.more) l') (sym (behind_none g)) a.standing;
      told = All-nil (λ (r : NamedReply). StandsAs (behind [] g) (w ++ a.more) r.name r.reply);
    }
answers_stand link at q s l (d ∷ ds) q' s' l' g gave w x own k =
    let m = answers_stand link at q s l ds x.0 x.1 x.2 g gave w x.3 own k in
    let there = sessions_answer link at q s l ds x.0 x.1 x.2 x.3 own in
    let h : Given = behind ds g in
    let v : List Written = w ++ m.more in
    let one : Step (more_by d h) ((gave ++ gave_by ds) ++ gave_of d) v l' = deed link at d x.0 q' x.1 s' x.2 l' h (gave ++ gave_by ds) v x.4 m.standing in
    let is : more_by d h ≡ behind (d ∷ ds) g = behind_more d ds g in
    let both : v ++ one.more ≡ w ++ (m.more ++ one.more) = append_assoc w m.more one.more in
    let wide : Wider v (w ++ (m.more ++ one.more)) = subst (λ (u : List Written). Wider v u) both (wider_more v one.more) in
    let grows : Grows h (behind (d ∷ ds) g) = subst (λ (i : Given). Grows h i) is (grows_by d h) in
    let P : NamedReply → Type 0 = λ (r : NamedReply). StandsAs (behind (d ∷ ds) g) (w ++ (m.more ++ one.more)) r.name r.reply in
    let stands = m.standing.stands in
    record {
      more = m.more ++ one.more;
      standing =
          subst (λ (u : List Written). AreStanding (behind (d ∷ ds) g) (gave ++ (gave_by ds ++ gave_of d)) u l') both
          (subst (λ (f : List (ℕ × FrameBody)). AreStanding (behind (d ∷ ds) g) f (v ++ one.more) l') (append_assoc gave (gave_by ds) (gave_of d))
          (subst (λ (i : Given). AreStanding i ((gave ++ gave_by ds) ++ gave_of d) (v ++ one.more) l') is one.standing));
      told = All-append P (told_by ds) (told_of d) (replies_grow h (behind (d ∷ ds) g) v (w ++ (m.more ++ one.more)) (told_by ds) grows wide m.told)
          (replies_grow h (behind (d ∷ ds) g) v (w ++ (m.more ++ one.more)) (told_of d) grows wide (deed_told link at d x.0 q' x.1 s' x.2 l' h v x.4 there stands.replies));
    }

-- ---- deeds behind deeds

pub grows_behind : (ds : List Deed) (g : Given) → Grows g (behind ds g)
grows_behind ds g = record { asked = λ x k. Contains-append_left g.asked (asked_by ds) x k; later = read_by ds; all_read = refl }

asked_then : (es ds : List Deed) → asked_by (es ++ ds) ≡ asked_by ds ++ asked_by es
asked_then [] ds = sym (append-nil (asked_by ds))
asked_then (e ∷ es) ds = ap (λ (u : List (ℕ × LinkCall)). u ++ asked_of e) (asked_then es ds) ∙ append_assoc (asked_by ds) (asked_by es) (asked_of e)

read_then : (es ds : List Deed) → read_by (es ++ ds) ≡ read_by ds ++ read_by es
read_then [] ds = sym (append-nil (read_by ds))
read_then (e ∷ es) ds = ap (λ (u : List (ℕ × LinkInput)). u ++ read_of e) (read_then es ds) ∙ append_assoc (read_by ds) (read_by es) (read_of e)

pub gave_then : (es ds : List Deed) → gave_by (es ++ ds) ≡ gave_by ds ++ gave_by es
gave_then [] ds = sym (append-nil (gave_by ds))
gave_then (e ∷ es) ds = ap (λ (u : List (ℕ × FrameBody)). u ++ gave_of e) (gave_then es ds) ∙ append_assoc (gave_by ds) (gave_by es) (gave_of e)

pub behind_both : (es ds : List Deed) (g : Given) → behind es (behind ds g) ≡ behind (es ++ ds) g
behind_both es ds g =
    ap (λ (a : List (ℕ × LinkCall)). record { asked = a; read = (g.read ++ read_by ds) ++ read_by es }) (append_assoc g.asked (asked_by ds) (asked_by es) ∙ ap (λ (a : List (ℕ × LinkCall)). g.asked ++ a) (sym (asked_then es ds)))
    ∙ ap (λ (r : List (ℕ × LinkInput)). record { asked = g.asked ++ asked_by (es ++ ds); read = r }) (append_assoc g.read (read_by ds) (read_by es) ∙ ap (λ (r : List (ℕ × LinkInput)). g.read ++ r) (sym (read_then es ds)))
