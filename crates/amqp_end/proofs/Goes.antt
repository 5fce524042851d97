-- An end with sessions and links goes on, one part after another.
use Rattle.std.specs.Prelude.{OnOk}
use Rattle.std.proofs.lemmas.List.{append-nil}
use Rattle.std.proofs.lemmas.Option.{none-some}
use Rattle.std.proofs.Common.{◌≡◌, ◌<◌, ◌∙◌, inl, inr, ℕ, List, [], ◌∷◌, ◌++◌, Bool, true, false, Option, Some, None, Result, Ok, Err, refl, sym, ap, subst, append_assoc}
use Rattle.amqp_wire.specs.declared.link.Link.{Ghosts}
use Rattle.amqp_frames.specs.declared.shared.IncomingSession.{IncomingSession}
use Rattle.amqp_frames.specs.declared.shared.LinkFrame.{LinkFrame}
use Rattle.amqp_sessions.specs.amqp_link_words.declared.link_call.LinkCall.{LinkCall}
use Rattle.amqp_links.specs.declared.output.LinksOutput.TheVariants as out
use Rattle.amqp_links.specs.Calling.{Calls}
use Rattle.amqp_links.specs.Inputs.{input_read}
use Rattle.amqp_links.specs.Parts.{Told, told}
use Rattle.amqp_links.specs.State.{State as Links, seen as linked, TakesOutput}
use Rattle.amqp_links.specs.Timing.{at_moment, looked}
use Rattle.amqp_session.specs.declared.session.LinkInput.{LinkInput}
use Rattle.amqp_session.specs.State.{Framed}
use Rattle.amqp_transport.specs.declared.frames.Frame.{Frame}
use Rattle.amqp_engine.specs.declared.error.AllocSessionError.{AllocSessionError}
use Rattle.amqp_engine.specs.declared.error.AllocSessionError.TheVariants.{ChannelMaxReached, Memory}
use Rattle.amqp_engine.specs.Calls.{with_channels, Allocates}
use Rattle.amqp_engine.specs.Channels.{Channels, first_free}
use Rattle.amqp_engine.specs.State.{State as Engine}
use Rattle.amqp_engine.proofs.Announced.{said_keeps}
use Rattle.amqp_words.specs.declared.call.Call.{Call as ConnectionCall}
use Rattle.amqp_peer.specs.declared.held.Held.{Held}
use Rattle.amqp_peer.specs.declared.held.Held.TheVariants.{Early, Late, Unopened, Moving}
use Rattle.amqp_peer.specs.declared.peer.PeerError.{PeerError}
use Rattle.amqp_peer.specs.Handed.{HandsOn, HandsLast, Sent}
use Rattle.amqp_peer.specs.Hearing.{hears_in, IsOpenIn, channels_in, waiting_in}
use Rattle.amqp_peer.specs.Held.{IsLate}
use Rattle.amqp_peer.specs.History.{Made, Polled, sent_in}
use Rattle.amqp_peer.specs.Peering.{Peering}
use Rattle.amqp_peer.specs.Passing.{IsHeldAlone, TakesIncoming, TakesSession, AllocatesLate, freed_in, Passes}
use Rattle.amqp_peer.specs.Runs.{Stepped}
use Rattle.amqp_sessions.specs.amqp_calls.declared.call.SessionNumbers.{SessionNumbers}
use Rattle.amqp_sessions.specs.amqp_calls.declared.reply.NamedReply.{NamedReply}
use Rattle.amqp_sessions.specs.declared.sessions.Waiting.{Waiting}
use Rattle.amqp_sessions.specs.declared.sessions.Waiting.TheVariants.{Accept}
use Rattle.amqp_sessions.specs.Calls.{begun, accepted}
use Rattle.amqp_sessions.specs.Frames.{heard, written, refusing}
use Rattle.amqp_sessions.specs.State.{State, seen, TakesFrame, TakesInput, TakesChannel}
use Rattle.amqp_end.specs.declared.end.End.{End}
use Rattle.amqp_end.specs.Goes.{Goes as Going, GoesOn, GoesOnFor, Seated}
use Rattle.amqp_end.specs.Deeds.{Deed, Makes, Polls, Goes, Moves, Hears, Writes, Seats, Lacks, Frees, Accepts, Asks, LinksHear, LinksWrite, LinksLack, LinksKnow, LinksLook, Tells, TellsFirst, IsDeed, Did, called_of, called_by, links_called_of, links_called_by, told_of, told_by, framed_of}
use Rattle.amqp_end.specs.Answers.{together, AreOrdered, with_first}
use Rattle.amqp_end.specs.Taken.{TakenOut}
use Rattle.amqp_end.specs.Asks.{limit_for}
use Rattle.amqp_end.specs.Moves.{Move, Begun, on, IsCaused}
use Rattle.amqp_end.specs.Named.{Awaits, IsBy, IsMoved, IsNamed, AreNamed, moved_on, seated_on, IsTaken, AreSeated, TakesSeat}

-- ---- what was done

-- deeds, and under which names they are done
abbrev DoesFor : {L : Type 0} → Ghosts L → ℕ → Option ℕ → Peering L → State → Links → List Deed → Peering L → State → Links → Type 0
DoesFor link at call p s l ds p' s' l' = (h : Did link at p s l ds p' s' l') × AreNamed link at call p s l ds p' s' l' h

does_none : {L : Type 0} (link : Ghosts L) (at : ℕ) (call : Option ℕ) (p p' : Peering L) (s s' : State) (l l' : Links) (ds : List Deed) (q : Peering L) (t : State) (m : Links) → p' ≡ q → s' ≡ t → l' ≡ m → DoesFor link at call p s l ds q t m → DoesFor link at call p s l ds p' s' l'
does_none {L} link at call p p' s s' l l' ds q t m e f g x =
    subst (λ (z : Peering L). DoesFor link at call p s l ds z s' l') (sym e) (subst (λ (z : State). DoesFor link at call p s l ds q z l') (sym f) (subst (λ (z : Links). DoesFor link at call p s l ds q t z) (sym g) x))

-- behind those for a call others follow
does_then : {L : Type 0} (link : Ghosts L) (at : ℕ) (call : Option ℕ) (p q r : Peering L) (s t u : State) (l m n : Links) (ds es : List Deed)
    → DoesFor link at call p s l ds q t m → DoesFor link at None q t m es r u n → DoesFor link at call p s l (es ++ ds) r u n
does_then link at call p q r s t u l m n ds [] x (y, k) = does_none link at call p r s u l n ds q t m y.0 y.1 y.2 x
does_then link at call p q r s t u l m n ds (e ∷ es) x (y, inl k) =
    let more = does_then link at call p q y.0 s t y.1 l m y.2 ds es x (y.3, k.1) in
    ((y.0, y.1, y.2, more.0, y.4), inl (k.0, more.1))
does_then link at call p q r s t u l m n ds (e ∷ es) x (y, inr k) =
    let more = does_then link at call p q y.0 s t y.1 l m y.2 ds es x (y.3, k.1) in
    ((y.0, y.1, y.2, more.0, y.4), inl (k.0, more.1))

-- what is done for no call
does_any : {L : Type 0} (link : Ghosts L) (at : ℕ) (call : Option ℕ) (p q : Peering L) (s t : State) (l m : Links) (ds : List Deed) → DoesFor link at None p s l ds q t m → DoesFor link at call p s l ds q t m
does_any link at call p q s t l m [] (x, k) = (x, tt)
does_any link at call p q s t l m (d ∷ ds) (x, inl k) = let more = does_any link at call p x.0 s x.1 l x.2 ds (x.3, k.1) in ((x.0, x.1, x.2, more.0, x.4), inl (k.0, more.1))
does_any link at call p q s t l m (d ∷ ds) (x, inr k) = let more = does_any link at call p x.0 s x.1 l x.2 ds (x.3, k.1) in ((x.0, x.1, x.2, more.0, x.4), inl (k.0, more.1))

-- those for a call follow behind others
others_then : {L : Type 0} (link : Ghosts L) (at : ℕ) (call : Option ℕ) (p q r : Peering L) (s t u : State) (l m n : Links) (ds es : List Deed)
    → DoesFor link at None p s l ds q t m → DoesFor link at call q t m es r u n → DoesFor link at call p s l (es ++ ds) r u n
others_then link at call p q r s t u l m n ds [] x (y, k) = does_none link at call p r s u l n ds q t m y.0 y.1 y.2 (does_any link at call p q s t l m ds x)
others_then link at call p q r s t u l m n ds (e ∷ es) x (y, inl k) =
    let more = others_then link at call p q y.0 s t y.1 l m y.2 ds es x (y.3, k.1) in
    ((y.0, y.1, y.2, more.0, y.4), inl (k.0, more.1))
others_then link at call p q r s t u l m n ds (e ∷ es) x (y, inr k) =
    let more = does_then link at None p q y.0 s t y.1 l m y.2 ds es x (y.3, k.1) in
    ((y.0, y.1, y.2, more.0, y.4), inr (k.0, more.1))

pub called_then : (es ds : List Deed) → called_by (es ++ ds) ≡ called_by es ++ called_by ds
called_then [] ds = refl
called_then (e ∷ es) ds = ap (λ (u : List (ℕ × ConnectionCall)). called_of e ++ u) (called_then es ds) ∙ sym (append_assoc (called_of e) (called_by es) (called_by ds))

pub links_called_then : (es ds : List Deed) → links_called_by (es ++ ds) ≡ links_called_by es ++ links_called_by ds
links_called_then [] ds = refl
links_called_then (e ∷ es) ds = ap (λ (u : List (ℕ × LinkCall)). links_called_of e ++ u) (links_called_then es ds) ∙ sym (append_assoc (links_called_of e) (links_called_by es) (links_called_by ds))

pub told_then : (es ds : List Deed) → told_by (es ++ ds) ≡ told_by ds ++ told_by es
told_then [] ds = sym (append-nil (told_by ds))
told_then (e ∷ es) ds = ap (λ (u : List NamedReply). u ++ told_of e) (told_then es ds) ∙ append_assoc (told_by ds) (told_by es) (told_of e)

taken_then : (x : Option ℕ) (es ds : List Deed) → IsTaken x es → IsTaken x (es ++ ds)
taken_then None es ds k = tt
taken_then (Some channel) es ds k = (k.0 ++ ds, ap (λ (u : List Deed). u ++ ds) k.1)

seated_then : (es ds : List Deed) → AreSeated es → AreSeated ds → AreSeated (es ++ ds)
seated_then [] ds x y = y
seated_then (e ∷ es) ds x y = (taken_then (seated_on e) es ds x.0, seated_then es ds x.1 y)

-- ---- an end

pub goes_none : {L : Type 0} (link : Ghosts L) (at : ℕ) {call : Option ℕ} (a : End L) → Going link at call [] [] a a
goes_none link at a = record { deeds = []; did = (refl, refl, refl); made = refl; asked = refl; answers = sym (append-nil a.replies.items); last = refl; failed = refl; named = tt; seated = tt }

-- a call is made on the links or the sessions, and the end goes on
pub goes_then : {L : Type 0} (link : Ghosts L) (at : ℕ) {call : Option ℕ} (cs ds : List (ℕ × ConnectionCall)) {qs rs : List (ℕ × LinkCall)} (a b c : End L) → Going link at call cs qs a b → Going link at None ds rs b c → Going link at call (ds ++ cs) (rs ++ qs) a c
goes_then link at {call} cs ds {qs} {rs} a b c x y =
    let does = does_then link at call a.connection b.connection c.connection (seen a.sessions) (seen b.sessions) (seen c.sessions) (linked a.links) (linked b.links) (linked c.links) x.deeds y.deeds (x.did, x.named) (y.did, y.named) in
    record {
      deeds = y.deeds ++ x.deeds;
      did = does.0;
      answers = y.answers ∙ ap (λ (u : List NamedReply). u ++ told_by y.deeds) x.answers ∙ append_assoc a.replies.items (told_by x.deeds) (told_by y.deeds) ∙ ap (λ (u : List NamedReply). a.replies.items ++ u) (sym (told_then y.deeds x.deeds));
      made = called_then y.deeds x.deeds ∙ ap (λ (u : List (ℕ × ConnectionCall)). u ++ called_by x.deeds) y.made ∙ ap (λ (u : List (ℕ × ConnectionCall)). ds ++ u) x.made;
      asked = links_called_then y.deeds x.deeds ∙ ap (λ (u : List (ℕ × LinkCall)). u ++ links_called_by x.deeds) y.asked ∙ ap (λ (u : List (ℕ × LinkCall)). rs ++ u) x.asked;
      last = y.last ∙ x.last;
      failed = y.failed ∙ x.failed;
      named = does.1;
      seated = seated_then y.deeds x.deeds y.seated x.seated;
    }

-- an end goes on, and then a call is made on the links or the sessions
pub goes_before : {L : Type 0} (link : Ghosts L) (at : ℕ) {call : Option ℕ} {qs : List (ℕ × LinkCall)} (a b c : End L) → Going link at None [] [] a b → Going link at call [] qs b c → Going link at call [] qs a c
goes_before link at {call} {qs} a b c x y =
    let does = others_then link at call a.connection b.connection c.connection (seen a.sessions) (seen b.sessions) (seen c.sessions) (linked a.links) (linked b.links) (linked c.links) x.deeds y.deeds (x.did, x.named) (y.did, y.named) in
    record {
      deeds = y.deeds ++ x.deeds;
      did = does.0;
      answers = y.answers ∙ ap (λ (u : List NamedReply). u ++ told_by y.deeds) x.answers ∙ append_assoc a.replies.items (told_by x.deeds) (told_by y.deeds) ∙ ap (λ (u : List NamedReply). a.replies.items ++ u) (sym (told_then y.deeds x.deeds));
      made = called_then y.deeds x.deeds ∙ ap (λ (u : List (ℕ × ConnectionCall)). u ++ called_by x.deeds) y.made ∙ x.made;
      asked = links_called_then y.deeds x.deeds ∙ ap (λ (u : List (ℕ × LinkCall)). u ++ links_called_by x.deeds) y.asked ∙ ap (λ (u : List (ℕ × LinkCall)). qs ++ u) x.asked ∙ append-nil qs;
      last = y.last ∙ x.last;
      failed = y.failed ∙ x.failed;
      named = does.1;
      seated = seated_then y.deeds x.deeds y.seated x.seated;
    }

-- one deed, for a call or for none
goes_for : {L : Type 0} (link : Ghosts L) (at : ℕ) (call : Option ℕ) (d : Deed) (a b : End L) → IsDeed link at a.connection (seen a.sessions) (linked a.links) d b.connection (seen b.sessions) (linked b.links) → IsNamed call (seen a.sessions) d → IsTaken (seated_on d) [] → b.last ≡ a.last → b.failed ≡ a.failed → b.replies.items ≡ a.replies.items ++ told_of d → Going link at call (called_of d ++ []) (links_called_of d ++ []) a b
goes_for link at call d a b h named free last failed told =
    record { deeds = d ∷ []; did = (a.connection, seen a.sessions, linked a.links, (refl, refl, refl), h); made = refl; asked = refl; answers = told; last = last; failed = failed; named = inr (named, tt); seated = (free, tt) }

goes_deed : {L : Type 0} (link : Ghosts L) (at : ℕ) (d : Deed) (a b : End L) → IsDeed link at a.connection (seen a.sessions) (linked a.links) d b.connection (seen b.sessions) (linked b.links) → IsNamed None (seen a.sessions) d → IsTaken (seated_on d) [] → b.last ≡ a.last → b.failed ≡ a.failed → b.replies.items ≡ a.replies.items ++ told_of d → Going link at None (called_of d ++ []) (links_called_of d ++ []) a b
goes_deed link at d a b h named free last failed told = goes_for link at None d a b h named free last failed told

-- nothing is told
untold : (old new : List NamedReply) → new ≡ old → new ≡ old ++ []
untold old new e = e ∙ sym (append-nil old)

pub on_none : {L : Type 0} (link : Ghosts L) (at : ℕ) (a : End L) → GoesOn link at a a
on_none link at a = record { goes = goes_none link at a; late = λ h. h; heard = λ h. h }

pub on_then : {L : Type 0} (link : Ghosts L) (at : ℕ) {call : Option ℕ} (a b c : End L) → GoesOnFor link at call a b → GoesOn link at b c → GoesOnFor link at call a c
on_then link at a b c x y = record { goes = goes_then link at [] [] a b c x.goes y.goes; late = λ h. y.late (x.late h); heard = λ h. y.heard (x.heard h) }

pub on_before : {L : Type 0} (link : Ghosts L) (at : ℕ) {call : Option ℕ} (a b c : End L) → GoesOn link at a b → GoesOnFor link at call b c → GoesOnFor link at call a c
on_before link at a b c x y = record { goes = goes_before link at a b c x.goes y.goes; late = λ h. y.late (x.late h); heard = λ h. y.heard (x.heard h) }

-- the connection stays
same_late : {L : Type 0} (p q : Peering L) → q ≡ p → IsLate p.held → IsLate q.held
same_late {L} p q same l = subst (λ (z : Peering L). IsLate z.held) (sym same) l

same_heard : {L : Type 0} (p q : Peering L) → q ≡ p → waiting_in p.held ≡ [] → waiting_in q.held ≡ []
same_heard {L} p q same h = subst (λ (z : Peering L). waiting_in z.held ≡ []) (sym same) h

-- nothing is done
pub on_still : {L : Type 0} (link : Ghosts L) (at : ℕ) (a b : End L) → b.connection ≡ a.connection → seen b.sessions ≡ seen a.sessions → linked b.links ≡ linked a.links → b.last ≡ a.last → b.failed ≡ a.failed → b.replies.items ≡ a.replies.items → GoesOn link at a b
on_still link at a b same s l last failed same_replies =
    record { goes = record { deeds = []; did = (same, s, l); made = refl; asked = refl; answers = untold a.replies.items b.replies.items same_replies; last = last; failed = failed; named = tt; seated = tt }; late = same_late a.connection b.connection same; heard = same_heard a.connection b.connection same }

-- the sessions alone make a move
pub on_move : {L : Type 0} (link : Ghosts L) (at : ℕ) {call : Option ℕ} (m : Move) (a b : End L) → IsMoved call (seen a.sessions) m → IsCaused m a.connection.held → IsTaken (moved_on m) [] → b.connection ≡ a.connection → seen b.sessions ≡ on m (seen a.sessions) → linked b.links ≡ linked a.links → b.last ≡ a.last → b.failed ≡ a.failed → b.replies.items ≡ a.replies.items → GoesOnFor link at call a b
on_move link at {call} m a b named cause free same h k last failed same_replies =
    record { goes = goes_for link at call (Moves m) a b (same, h, k, cause) named free last failed (untold a.replies.items b.replies.items same_replies); late = same_late a.connection b.connection same; heard = same_heard a.connection b.connection same }

-- ---- what happens to a connection that has begun

incoming_late : {L : Type 0} (h : Held L) (x : Option Frame) (h' : Held L) → TakesIncoming h x h' → IsLate h → IsLate h'
incoming_late (Early o p) x h' t l = absurd l
incoming_late (Unopened c) x h' t l = absurd l
incoming_late Moving x h' t l = absurd l
incoming_late {L} (Late s) x h' t l = subst (λ (k : Held L). IsLate k) (sym t.1) tt

session_late : {L : Type 0} (h : Held L) (x : Option IncomingSession) (h' : Held L) → TakesSession h x h' → IsLate h → IsLate h'
session_late (Early o p) x h' t l = absurd l
session_late (Unopened c) x h' t l = absurd l
session_late Moving x h' t l = absurd l
session_late {L} (Late s) x h' t l = subst (λ (k : Held L). IsLate k) (sym t.1) tt

freed_late : {L : Type 0} (h : Held L) (channel : ℕ) → IsLate h → IsLate (freed_in h channel)
freed_late (Early o p) channel l = absurd l
freed_late (Unopened c) channel l = absurd l
freed_late Moving channel l = absurd l
freed_late (Late s) channel l = tt

allocated_late : {L : Type 0} (h : Held L) (r : Result ℕ AllocSessionError) (h' : Held L) → AllocatesLate h r h' → IsLate h'
allocated_late (Early o p) r h' t = absurd t
allocated_late (Unopened c) r h' t = absurd t
allocated_late Moving r h' t = absurd t
allocated_late {L} (Late s) r h' t = subst (λ (k : Held L). IsLate k) (sym t.1) tt

-- ---- no frame comes to wait for the sessions

incoming_heard : {L : Type 0} (h : Held L) (x : Frame) (h' : Held L) → TakesIncoming h (Some x) h' → waiting_in h ≡ [] → waiting_in h' ≡ []
incoming_heard (Early o p) x h' t e = absurd (none-some x (sym t.0))
incoming_heard (Unopened c) x h' t e = absurd (none-some x (sym t.0))
incoming_heard Moving x h' t e = absurd (none-some x (sym t.0))
incoming_heard (Late s) x h' t e = absurd (cc (t.2.channels.0, e))

session_heard : {L : Type 0} (h : Held L) (x : IncomingSession) (h' : Held L) → TakesSession h (Some x) h' → waiting_in h' ≡ waiting_in h
session_heard {L} (Early o p) x h' t = ap (λ (k : Held L). waiting_in k) t.1
session_heard {L} (Unopened c) x h' t = ap (λ (k : Held L). waiting_in k) t.1
session_heard {L} Moving x h' t = ap (λ (k : Held L). waiting_in k) t.1
session_heard {L} (Late s) x h' t = ap (λ (k : Held L). waiting_in k) t.1 ∙ ap (λ (z : Channels). z.incoming) t.2.channels.1

freed_heard : {L : Type 0} (h : Held L) (channel : ℕ) → waiting_in (freed_in h channel) ≡ waiting_in h
freed_heard (Early o p) channel = refl
freed_heard (Late s) channel = refl
freed_heard (Unopened c) channel = refl
freed_heard Moving channel = refl

engine_heard : {L : Type 0} (s : Engine L) (r : Result ℕ AllocSessionError) (s' : Engine L) → Allocates s r s' → s'.channels.incoming ≡ s.channels.incoming
engine_heard {L} s (Ok channel) s' t = ap (λ (z : Engine L). z.channels.incoming) t.2
engine_heard {L} s (Err ChannelMaxReached) s' t = ap (λ (z : Engine L). z.channels.incoming) t.1
engine_heard {L} s (Err (Memory a)) s' t = ap (λ (z : Engine L). z.channels.incoming) t

allocated_heard : {L : Type 0} (h : Held L) (r : Result ℕ AllocSessionError) (h' : Held L) → AllocatesLate h r h' → waiting_in h' ≡ waiting_in h
allocated_heard (Early o p) r h' t = absurd t
allocated_heard (Unopened c) r h' t = absurd t
allocated_heard Moving r h' t = absurd t
allocated_heard {L} (Late s) r h' t = ap (λ (k : Held L). waiting_in k) t.1 ∙ engine_heard s r t.0 t.2

-- none waits
pub none_waits : {L : Type 0} (h h' : Held L) → TakesIncoming h None h' → waiting_in h' ≡ []
none_waits {L} (Early o p) h' t = ap (λ (k : Held L). waiting_in k) t.1
none_waits {L} (Unopened c) h' t = ap (λ (k : Held L). waiting_in k) t.1
none_waits {L} Moving h' t = ap (λ (k : Held L). waiting_in k) t.1
none_waits {L} (Late s) h' t = ap (λ (k : Held L). waiting_in k) t.1 ∙ ap (λ (z : Channels). z.incoming) t.2.channels.1 ∙ t.2.channels.0

-- a connection that has not begun has read none
pub early_heard : {L : Type 0} (h : Held L) → (IsLate h → ⊥) → waiting_in h ≡ []
early_heard (Early o p) e = refl
early_heard (Unopened c) e = refl
early_heard Moving e = refl
early_heard (Late s) e = absurd (e tt)

-- where no channel was free none is
pub none_free : {L : Type 0} (h h' : Held L) → AllocatesLate h (Err ChannelMaxReached) h' → AllocatesLate h' (Err ChannelMaxReached) h'
none_free (Early o p) h' t = absurd t
none_free (Unopened c) h' t = absurd t
none_free Moving h' t = absurd t
none_free {L} (Late s) h' t =
    subst (λ (k : Held L). AllocatesLate k (Err ChannelMaxReached) k) (sym t.1) (t.0, refl, (subst (λ (z : Engine L). z.settings.channel_max < first_free z.channels.seats) (sym t.2.1) t.2.0, refl))

abbrev seat_of : Result ℕ AllocSessionError → Deed
seat_of (Ok channel) = Seats channel
seat_of (Err e) = Lacks e

seat_is : {L : Type 0} (link : Ghosts L) (at : ℕ) (r : Result ℕ AllocSessionError) (a b : End L) → AllocatesLate a.connection.held r b.connection.held → IsHeldAlone a.connection b.connection → seen b.sessions ≡ seen a.sessions → linked b.links ≡ linked a.links → b.last ≡ a.last → b.failed ≡ a.failed → b.replies.items ≡ a.replies.items → Going link at None [] [] a b
seat_is link at (Ok channel) a b t h e k last failed same_replies = goes_deed link at (Seats channel) a b (t, h, e, k) tt tt last failed (untold a.replies.items b.replies.items same_replies)
seat_is link at (Err x) a b t h e k last failed same_replies = goes_deed link at (Lacks x) a b (t, h, e, k) tt tt last failed (untold a.replies.items b.replies.items same_replies)

pub on_allocated : {L : Type 0} (link : Ghosts L) (at : ℕ) (r : Result ℕ AllocSessionError) (a b : End L) → AllocatesLate a.connection.held r b.connection.held → IsHeldAlone a.connection b.connection → seen b.sessions ≡ seen a.sessions → linked b.links ≡ linked a.links → b.last ≡ a.last → b.failed ≡ a.failed → b.replies.items ≡ a.replies.items → GoesOn link at a b
on_allocated link at r a b t h e k last failed same_replies = record { goes = seat_is link at r a b t h e k last failed same_replies; late = λ l. allocated_late a.connection.held r b.connection.held t; heard = λ e. allocated_heard a.connection.held r b.connection.held t ∙ e }

-- a frame that was read is heard
pub on_heard : {L : Type 0} (link : Ghosts L) (at : ℕ) (x : Frame) (a b : End L) → TakesIncoming a.connection.held (Some x) b.connection.held → IsHeldAlone a.connection b.connection → seen b.sessions ≡ heard (framed_of x) (seen a.sessions) → linked b.links ≡ linked a.links → b.last ≡ a.last → b.failed ≡ a.failed → b.replies.items ≡ a.replies.items → GoesOn link at a b
on_heard link at x a b t h e k last failed same_replies = record { goes = goes_deed link at (Hears x) a b (t, h, e, k) tt tt last failed (untold a.replies.items b.replies.items same_replies); late = incoming_late a.connection.held (Some x) b.connection.held t; heard = incoming_heard a.connection.held x b.connection.held t }

-- no frame waits, and nothing is done
none_taken : {L : Type 0} (h h' : Held L) → TakesIncoming h None h' → h' ≡ h
none_taken (Early o p) h' t = t.1
none_taken {L} (Late s) h' t = t.1 ∙ ap (λ (z : Engine L). Late z) (t.2.rest ∙ ap (with_channels s) t.2.channels.1)
none_taken (Unopened c) h' t = t.1
none_taken Moving h' t = t.1

none_asked : {L : Type 0} (h h' : Held L) → TakesSession h None h' → h' ≡ h
none_asked (Early o p) h' t = t.1
none_asked {L} (Late s) h' t = t.1 ∙ ap (λ (z : Engine L). Late z) (t.2.rest ∙ ap (with_channels s) t.2.channels.1)
none_asked (Unopened c) h' t = t.1
none_asked Moving h' t = t.1

on_same : {L : Type 0} (link : Ghosts L) (at : ℕ) (a b : End L) → b.connection.held ≡ a.connection.held → IsHeldAlone a.connection b.connection → seen b.sessions ≡ seen a.sessions → linked b.links ≡ linked a.links → b.last ≡ a.last → b.failed ≡ a.failed → b.replies.items ≡ a.replies.items → GoesOn link at a b
on_same {L} link at a b e h = on_still link at a b (h ∙ ap (λ (z : Held L). record a.connection { held = z }) e)

pub on_none_heard : {L : Type 0} (link : Ghosts L) (at : ℕ) (a b : End L) → TakesIncoming a.connection.held None b.connection.held → IsHeldAlone a.connection b.connection → seen b.sessions ≡ seen a.sessions → linked b.links ≡ linked a.links → b.last ≡ a.last → b.failed ≡ a.failed → b.replies.items ≡ a.replies.items → GoesOn link at a b
on_none_heard link at a b t = on_same link at a b (none_taken a.connection.held b.connection.held t)

pub on_none_asked : {L : Type 0} (link : Ghosts L) (at : ℕ) (a b : End L) → TakesSession a.connection.held None b.connection.held → IsHeldAlone a.connection b.connection → seen b.sessions ≡ seen a.sessions → linked b.links ≡ linked a.links → b.last ≡ a.last → b.failed ≡ a.failed → b.replies.items ≡ a.replies.items → GoesOn link at a b
on_none_asked link at a b t = on_same link at a b (none_asked a.connection.held b.connection.held t)

-- no frame is to be written, no channel is free again, and there is nothing for links or of theirs
pub none_written : (s t : State) → TakesFrame s None t → t ≡ s
none_written s t k = k.1 ∙ ap (λ (z : List Framed). record s { output = z }) (k.0.1 ∙ sym k.0.0)

pub none_handed : (s t : State) → TakesInput s None t → t ≡ s
none_handed s t k = k.1 ∙ ap (λ (z : List (ℕ × LinkInput)). record s { incoming = z }) (k.0.1 ∙ sym k.0.0)

pub none_freed : (s t : State) → TakesChannel s None t → t ≡ s
none_freed s t k = k.1

pub none_told : (l m : Links) → TakesOutput l None m → m ≡ l
none_told l m k = k.1 ∙ ap (λ (z : List Told). record l { output = z }) (k.0.1 ∙ sym k.0.0)

-- a channel was taken, and no more is done
pub on_seated : {L : Type 0} (link : Ghosts L) (at channel : ℕ) {call : Option ℕ} (a b : End L) → TakesSeat channel a b → GoesOnFor link at call a b
on_seated link at channel {call} a b k =
    record { goes = goes_for link at call (Seats channel) a b (k.allocates, k.rest, k.sessions, k.links) tt tt k.last k.failed (untold a.replies.items b.replies.items k.replies); late = λ l. allocated_late a.connection.held (Ok channel) b.connection.held k.allocates; heard = λ e. allocated_heard a.connection.held (Ok channel) b.connection.held k.allocates ∙ e }

-- a session is begun on the channel that was taken
pub on_begun : {L : Type 0} (link : Ghosts L) (at name : ℕ) (x : SessionNumbers) (channel limit : ℕ) (a m b : End L) → TakesSeat channel a m → b.connection ≡ m.connection → seen b.sessions ≡ begun name x channel limit (seen m.sessions) → linked b.links ≡ linked m.links → b.last ≡ m.last → b.failed ≡ m.failed → b.replies.items ≡ m.replies.items → GoesOnFor link at (Some name) a b
on_begun link at name x channel limit a m b k same h l last failed told = record {
  goes = record {
    deeds = Moves (Begun name x channel limit) ∷ Seats channel ∷ [];
    did = (m.connection, seen m.sessions, linked m.links, (a.connection, seen a.sessions, linked a.links, (refl, refl, refl), (k.allocates, k.rest, k.sessions, k.links)), (same, h, l, tt));
    made = refl;
    asked = refl;
    answers = untold a.replies.items b.replies.items (told ∙ k.replies);
    last = last ∙ k.last;
    failed = failed ∙ k.failed;
    named = inr (refl, inl (tt, tt));
    seated = (([], refl), (tt, tt));
  };
  late = λ l. same_late m.connection b.connection same (allocated_late a.connection.held (Ok channel) m.connection.held k.allocates);
  heard = λ e. same_heard m.connection b.connection same (allocated_heard a.connection.held (Ok channel) m.connection.held k.allocates ∙ e);
}

-- the first that waits is accepted on the channel that was taken
pub on_accepted : {L : Type 0} (link : Ghosts L) (at name : ℕ) {call : Option ℕ} (x : SessionNumbers) (channel limit : ℕ) (incoming : IncomingSession) (a m b : End L) → IsBy call (seen a.sessions) name → TakesSeat channel a m → TakesSession m.connection.held (Some incoming) b.connection.held → IsHeldAlone m.connection b.connection → seen b.sessions ≡ accepted name x channel limit incoming (seen m.sessions) → linked b.links ≡ linked m.links → b.last ≡ m.last → b.failed ≡ m.failed → b.replies.items ≡ m.replies.items → GoesOnFor link at call a b
on_accepted link at name {call} x channel limit incoming a m b by k t h e l last failed told = record {
  goes = record {
    deeds = Accepts name x channel limit incoming ∷ Seats channel ∷ [];
    did = (m.connection, seen m.sessions, linked m.links, (a.connection, seen a.sessions, linked a.links, (refl, refl, refl), (k.allocates, k.rest, k.sessions, k.links)), (t, h, e, l));
    made = refl;
    asked = refl;
    answers = untold a.replies.items b.replies.items (told ∙ k.replies);
    last = last ∙ k.last;
    failed = failed ∙ k.failed;
    named = inr (subst (λ (s : State). IsBy call s name) (sym k.sessions) by, inl (tt, tt));
    seated = (([], refl), (tt, tt));
  };
  late = λ l. session_late m.connection.held (Some incoming) b.connection.held t (allocated_late a.connection.held (Ok channel) m.connection.held k.allocates);
  heard = λ e. session_heard m.connection.held incoming b.connection.held t ∙ allocated_heard a.connection.held (Ok channel) m.connection.held k.allocates ∙ e;
}

-- a channel is given back
pub on_freed : {L : Type 0} (link : Ghosts L) (at channel : ℕ) (a b : End L) → TakesChannel (seen a.sessions) (Some channel) (seen b.sessions) → b.connection ≡ record a.connection { held = freed_in a.connection.held channel } → linked b.links ≡ linked a.links → b.last ≡ a.last → b.failed ≡ a.failed → b.replies.items ≡ a.replies.items → GoesOn link at a b
on_freed {L} link at channel a b t h k last failed same_replies =
    record { goes = goes_deed link at (Frees channel) a b (t, h, k) tt tt last failed (untold a.replies.items b.replies.items same_replies); late = λ l. subst (λ (p : Peering L). IsLate p.held) (sym h) (freed_late a.connection.held channel l); heard = λ e. subst (λ (p : Peering L). waiting_in p.held ≡ []) (sym h) (freed_heard a.connection.held channel ∙ e) }

-- a frame is given to the connection
pub on_wrote : {L : Type 0} (link : Ghosts L) (at : ℕ) (x : Frame) (a b : End L) → TakesFrame (seen a.sessions) (Some (framed_of x)) (seen b.sessions) → Passes x a.connection b.connection → Sent link x a.connection b.connection → (hears_in a.connection.held ≡ true → IsOpenIn a.connection.held) → IsLate b.connection.held → linked b.links ≡ linked a.links → b.last ≡ a.last → b.failed ≡ a.failed → b.replies.items ≡ a.replies.items → GoesOn link at a b
on_wrote link at x a b t p sent opened late k last failed same_replies =
    record { goes = goes_deed link at (Writes x sent.events) a b (record { takes = t; passes = p; sent = sent; adds = refl; opened = opened }, k) tt tt last failed (untold a.replies.items b.replies.items same_replies); late = λ l. late; heard = λ e. ap (λ (z : Channels). z.incoming) sent.channels ∙ (said_keeps (channels_in a.connection.held) (sent_in sent.events)).1 ∙ e }

-- the answers of all three are taken, and told
taken_late : {L : Type 0} (p q : Peering L) → q ≡ record p { replies = [] } → IsLate p.held → IsLate q.held
taken_late {L} p q h l = subst (λ (z : Peering L). IsLate z.held) (sym h) l

pub on_told : {L : Type 0} (link : Ghosts L) (at : ℕ) (answers : List NamedReply) (a m b : End L) → TakenOut a m answers → b.connection ≡ m.connection → seen b.sessions ≡ seen m.sessions → linked b.links ≡ linked m.links → b.last ≡ m.last → b.failed ≡ m.failed
    → b.replies.items ≡ m.replies.items ++ answers → GoesOn link at a b
on_told {L} link at answers a m b o p s l last failed told = record {
  goes = goes_deed link at (Tells answers) a b (p ∙ o.connection, s ∙ o.sessions, l ∙ o.links, o.ordered) tt tt (last ∙ o.last) (failed ∙ o.failed) (told ∙ ap (λ (u : List NamedReply). u ++ answers) o.replies);
  late = taken_late a.connection b.connection (p ∙ o.connection);
  heard = λ e. ap (λ (z : Peering L). waiting_in z.held) (p ∙ o.connection) ∙ e;
}

-- those to the call of that name first
pub on_told_first : {L : Type 0} (link : Ghosts L) (at name : ℕ) (answers : List NamedReply) (a m b : End L) → TakenOut a m answers → b.connection ≡ m.connection → seen b.sessions ≡ seen m.sessions → linked b.links ≡ linked m.links → b.last ≡ m.last → b.failed ≡ m.failed
    → b.replies.items ≡ m.replies.items ++ with_first name answers → GoesOn link at a b
on_told_first {L} link at name answers a m b o p s l last failed told = record {
  goes = goes_deed link at (TellsFirst name answers) a b (p ∙ o.connection, s ∙ o.sessions, l ∙ o.links, o.ordered) tt tt (last ∙ o.last) (failed ∙ o.failed) (told ∙ ap (λ (u : List NamedReply). u ++ with_first name answers) o.replies);
  late = taken_late a.connection b.connection (p ∙ o.connection);
  heard = λ e. ap (λ (z : Peering L). waiting_in z.held) (p ∙ o.connection) ∙ e;
}

-- a call is made on the links
pub goes_asked : {L : Type 0} (link : Ghosts L) (at name : ℕ) (call : LinkCall) (a b : End L) → b.connection ≡ a.connection → seen b.sessions ≡ seen a.sessions → Calls name call (limit_for call (seen a.sessions)) (linked a.links) (linked b.links) → b.last ≡ a.last → b.failed ≡ a.failed → b.replies.items ≡ a.replies.items → Going link at (Some name) [] ((name, call) ∷ []) a b
goes_asked link at name call a b same h k last failed same_replies = goes_for link at (Some name) (Asks name call) a b (same, h, k) refl tt last failed (untold a.replies.items b.replies.items same_replies)

-- the links are told the moment
pub on_known : {L : Type 0} (link : Ghosts L) (at : ℕ) (a b : End L) → b.connection ≡ a.connection → seen b.sessions ≡ seen a.sessions → linked b.links ≡ at_moment at (linked a.links) → b.last ≡ a.last → b.failed ≡ a.failed → b.replies.items ≡ a.replies.items → GoesOn link at a b
on_known link at a b same h k last failed same_replies = record { goes = goes_deed link at LinksKnow a b (same, h, k) tt tt last failed (untold a.replies.items b.replies.items same_replies); late = same_late a.connection b.connection same; heard = same_heard a.connection b.connection same }

-- they look at the clock
pub on_looked : {L : Type 0} (link : Ghosts L) (at : ℕ) (a b : End L) → b.connection ≡ a.connection → seen b.sessions ≡ seen a.sessions → linked b.links ≡ looked (linked a.links) → b.last ≡ a.last → b.failed ≡ a.failed → b.replies.items ≡ a.replies.items → GoesOn link at a b
on_looked link at a b same h k last failed same_replies = record { goes = goes_deed link at LinksLook a b (same, h, k) tt tt last failed (untold a.replies.items b.replies.items same_replies); late = same_late a.connection b.connection same; heard = same_heard a.connection b.connection same }

-- the links hear their sessions
pub on_linked : {L : Type 0} (link : Ghosts L) (at session : ℕ) (x : LinkInput) (a b : End L) → b.connection ≡ a.connection → TakesInput (seen a.sessions) (Some (session, x)) (seen b.sessions) → linked b.links ≡ input_read session x (linked a.links) → b.last ≡ a.last → b.failed ≡ a.failed → b.replies.items ≡ a.replies.items → GoesOn link at a b
on_linked link at session x a b same h k last failed same_replies = record { goes = goes_deed link at (LinksHear session x) a b (same, h, k) tt tt last failed (untold a.replies.items b.replies.items same_replies); late = same_late a.connection b.connection same; heard = same_heard a.connection b.connection same }

-- the sessions get what the links write
pub on_written : {L : Type 0} (link : Ghosts L) (at session : ℕ) (x : LinkFrame) (a b : End L) → b.connection ≡ a.connection → seen b.sessions ≡ written session x (seen a.sessions) → TakesOutput (linked a.links) (Some (told (out.Frame session x))) (linked b.links) → b.last ≡ a.last → b.failed ≡ a.failed → b.replies.items ≡ a.replies.items → GoesOn link at a b
on_written link at session x a b same h k last failed same_replies = record { goes = goes_deed link at (LinksWrite session x) a b (same, h, k) tt tt last failed (untold a.replies.items b.replies.items same_replies); late = same_late a.connection b.connection same; heard = same_heard a.connection b.connection same }

pub on_lacking : {L : Type 0} (link : Ghosts L) (at session : ℕ) (a b : End L) → b.connection ≡ a.connection → seen b.sessions ≡ refusing session (seen a.sessions) → TakesOutput (linked a.links) (Some (told (out.Astray session))) (linked b.links) → b.last ≡ a.last → b.failed ≡ a.failed → b.replies.items ≡ a.replies.items → GoesOn link at a b
on_lacking link at session a b same h k last failed same_replies = record { goes = goes_deed link at (LinksLack session) a b (same, h, k) tt tt last failed (untold a.replies.items b.replies.items same_replies); late = same_late a.connection b.connection same; heard = same_heard a.connection b.connection same }

-- ---- the connection goes on

-- a step, behind which another follows or none does
pub goes_step : {L : Type 0} (link : Ghosts L) (at : ℕ) (more : Bool) (a b : End L) → (◌≡◌ {A = Result Bool PeerError} (Ok more) (Ok true) → HandsOn link at a.connection b.connection) → (◌≡◌ {A = Result Bool PeerError} (Ok more) (Ok false) → HandsLast link at a.connection b.connection)
    → seen b.sessions ≡ seen a.sessions → linked b.links ≡ linked a.links → b.last ≡ a.last → b.failed ≡ a.failed → b.replies.items ≡ a.replies.items → Going link at None [] [] a b
goes_step link at true a b hands rests s l last failed same_replies =
    let k = hands refl in
    goes_deed link at (Goes k.0.run.events) a b (inl (k, refl), s, l) tt tt last failed (untold a.replies.items b.replies.items same_replies)
goes_step link at false a b hands rests s l last failed same_replies =
    let k = rests refl in
    goes_deed link at (Goes k.0.run.events) a b (inr (k, refl), s, l) tt tt last failed (untold a.replies.items b.replies.items same_replies)

-- a call or a poll
pub goes_called : {L : Type 0} (link : Ghosts L) (at name : ℕ) (call : ConnectionCall) (a b : End L) → Stepped link a.connection (Made at name call) b.connection → seen b.sessions ≡ seen a.sessions → linked b.links ≡ linked a.links → b.last ≡ a.last → b.failed ≡ a.failed → b.replies.items ≡ a.replies.items → Going link at None ((name, call) ∷ []) [] a b
goes_called link at name call a b k s l last failed same_replies = goes_deed link at (Makes name call k.events) a b ((k, refl), s, l) tt tt last failed (untold a.replies.items b.replies.items same_replies)

pub goes_polled : {L : Type 0} (link : Ghosts L) (at : ℕ) (a b : End L) → Stepped link a.connection (Polled at) b.connection → seen b.sessions ≡ seen a.sessions → linked b.links ≡ linked a.links → b.last ≡ a.last → b.failed ≡ a.failed → b.replies.items ≡ a.replies.items → Going link at None [] [] a b
goes_polled link at a b k s l last failed same_replies = goes_deed link at (Polls k.events) a b ((k, refl), s, l) tt tt last failed (untold a.replies.items b.replies.items same_replies)

-- ---- what was found

pub seat_taken : {L : Type 0} (link : Ghosts L) (name channel : ℕ) (a b : End L) (r : Option ℕ) → r ≡ Some channel → Seated link name a b r → TakesSeat channel a b
seat_taken link name channel a b r e k = subst (λ (x : Option ℕ). Seated link name a b x) e k

pub none_seated : {L : Type 0} (link : Ghosts L) (at name : ℕ) (call : Option ℕ) (a b : End L) (r : Option ℕ) → r ≡ None → Seated link name a b r → IsBy call (seen a.sessions) name → GoesOnFor link at call a b
none_seated link at name call a b r e k by = subst (λ (x : Option ℕ). Seated link name a b x) e k at call by

pub awaited : (name : ℕ) (numbers : SessionNumbers) (w : Option Waiting) → Some (Accept name numbers) ≡ w → Awaits name w
awaited name numbers w e = subst (λ (x : Option Waiting). Awaits name x) e refl

pub on_ok : {A E X Y : Type 0} (r : Result A E) → (X → Y) → OnOk r X → OnOk r Y
on_ok (Ok a) f x = f x
on_ok (Err e) f x = tt

pub on_any : {A E X : Type 0} (r : Result A E) → X → OnOk r X
on_any (Ok a) x = x
on_any (Err e) x = tt

pub on_both : {A E X Y Z : Type 0} (r : Result A E) → (X → Y → Z) → OnOk r X → OnOk r Y → OnOk r Z
on_both (Ok a) f x y = f x y
on_both (Err e) f x y = tt
