-- What comes to wait for the sessions above a connection, step after step.
use Rattle.std.proofs.Common.{◌≡◌, ◌⊎◌, inl, inr, List, [], ◌∷◌, ◌++◌, Bool, true, false, cond, not, Option, Some, None, refl, sym, ap, ◌∙◌, append_assoc}
use Rattle.std.specs.Prelude.{map}
use Rattle.std.proofs.lemmas.List.{append-nil}
use Rattle.std.proofs.lemmas.List.Elements.{filter-append}
use Rattle.amqp_wire.specs.declared.link.Link.{Ghosts}
use Rattle.amqp_frames.specs.declared.shared.IncomingSession.{IncomingSession}
use Rattle.amqp_transport.specs.declared.frames.Frame.{Frame}
use Rattle.amqp_engine.specs.Channels.{Channels, no_channels}
use Rattle.amqp_engine.specs.Faults.{AllOwed}
use Rattle.amqp_engine.specs.Outcomes.{IsHanded}
use Rattle.amqp_engine.specs.Phases.{hears}
use Rattle.amqp_engine.specs.Sentence.{Ran}
use Rattle.amqp_engine.specs.State.{State}
use Rattle.amqp_opening.specs.declared.authentication.Authentication.{Authentication}
use Rattle.amqp_opening.specs.Opening.{Opened}
use Rattle.amqp_peer.specs.declared.held.Held.{Held}
use Rattle.amqp_peer.specs.declared.held.Held.TheVariants.{Early, Late, Unopened, Moving}
use Rattle.amqp_peer.specs.declared.prepared.Prepared.{Prepared}
use Rattle.amqp_peer.specs.Frames.{sessions_of, list_of, asking, asks, asking_of, others_of, WaitsBy, Comes}
use Rattle.amqp_peer.specs.Hearing.{hears_in, IsOpenIn, channels_in, waiting_in, asked_in, Handed, Gathers}
use Rattle.amqp_peer.specs.History.{Local, given_in, sent_in}
use Rattle.amqp_peer.proofs.Gives.{handed_by}
use Rattle.amqp_peer.proofs.Histories.{given_in-append, sent_in-append}
use Rattle.amqp_peer.proofs.Moved.{moved, passed}
use Rattle.amqp_peer.proofs.Unsaid.{sessions_of-append, unsaid_join}

-- ---- parts of frames

pub asking_of-append : (xs ys : List Frame) → asking_of (xs ++ ys) ≡ asking_of xs ++ asking_of ys
asking_of-append xs ys = filter-append (λ (x : Frame). asks x.body) xs ys

pub others_of-append : (xs ys : List Frame) → others_of (xs ++ ys) ≡ others_of xs ++ others_of ys
others_of-append xs ys = filter-append (λ (x : Frame). not (asks x.body)) xs ys

-- ---- what came to wait, by its parts

asked_some : (t : Bool) (old new : Channels) (x : Frame) → asks x.body ≡ t → WaitsBy t old x new → map asking new.begun ≡ map asking old.begun ++ asking_of (x ∷ [])
asked_some true old new x e (y, a, i, g) =
    ap (map asking) g ∙ asking_append old.begun y ∙ ap (λ (u : Frame). map asking old.begun ++ u ∷ []) (sym a) ∙ ap (λ (t : Bool). map asking old.begun ++ cond t (x ∷ []) []) (sym e)
  where
    asking_append : (xs : List IncomingSession) (y : IncomingSession) → map asking (xs ++ y ∷ []) ≡ map asking xs ++ asking y ∷ []
    asking_append [] y = refl
    asking_append (x ∷ xs) y = ap (λ (u : List Frame). asking x ∷ u) (asking_append xs y)
asked_some false old new x e (i, g) = ap (map asking) g ∙ sym (append-nil (map asking old.begun)) ∙ ap (λ (t : Bool). map asking old.begun ++ cond t (x ∷ []) []) (sym e)

heard_some : (t : Bool) (old new : Channels) (x : Frame) → asks x.body ≡ t → WaitsBy t old x new → new.incoming ≡ old.incoming ++ others_of (x ∷ [])
heard_some true old new x e (y, a, i, g) = i ∙ sym (append-nil old.incoming) ∙ ap (λ (t : Bool). old.incoming ++ cond (not t) (x ∷ []) []) (sym e)
heard_some false old new x e (i, g) = i ∙ ap (λ (t : Bool). old.incoming ++ cond (not t) (x ∷ []) []) (sym e)

asked_comes : (old new : Channels) (frame : Option Frame) → Comes old frame new → map asking new.begun ≡ map asking old.begun ++ asking_of (list_of frame)
asked_comes old new None k = ap (map asking) k.1 ∙ sym (append-nil (map asking old.begun))
asked_comes old new (Some x) k = asked_some (asks x.body) old new x refl k

heard_comes : (old new : Channels) (frame : Option Frame) → Comes old frame new → new.incoming ≡ old.incoming ++ others_of (list_of frame)
heard_comes old new None k = k.0 ∙ sym (append-nil old.incoming)
heard_comes old new (Some x) k = heard_some (asks x.body) old new x refl k

-- ---- one step

pub open_hears : {L : Type 0} (held : Held L) → IsOpenIn held → hears_in held ≡ true
open_hears (Early o p) i = refl
open_hears (Late s) i = ap hears i
open_hears (Unopened c) i = absurd i
open_hears Moving i = absurd i

gathers_one : {L : Type 0} (old new : Held L) (events : List Local) (frame : Option Frame) (b : Bool) → hears_in new ≡ b → Comes (channels_in old) frame (channels_in new) → (hears_in new ≡ true → sessions_of (given_in events) ≡ list_of frame) → ((x : Frame) → frame ≡ Some x → IsOpenIn new)
    → sessions_of (sent_in events) ≡ [] → (hears_in new ≡ true → hears_in old ≡ true) → Gathers old new events
gathers_one old new events None true e c n o u l =
    record { frames = []; later = []; waiting = heard_comes (channels_in old) (channels_in new) None c; asked = asked_comes (channels_in old) (channels_in new) None c; heard = n e; all = λ z. refl; none = λ z. refl; unsaid = u; listens = l }
gathers_one old new events None false e c n o u l =
    record { frames = []; later = sessions_of (given_in events); waiting = heard_comes (channels_in old) (channels_in new) None c; asked = asked_comes (channels_in old) (channels_in new) None c; heard = refl; all = λ z. absurd (cc (e, z)); none = λ z. refl; unsaid = u; listens = l }
gathers_one old new events (Some x) b e c n o u l =
    let z : hears_in new ≡ true = open_hears new (o x refl) in
    record { frames = x ∷ []; later = []; waiting = heard_comes (channels_in old) (channels_in new) (Some x) c; asked = asked_comes (channels_in old) (channels_in new) (Some x) c; heard = n z; all = λ w. refl; none = λ w. absurd (cc (w, l z)); unsaid = u; listens = l }

pub gathers_handed : {L : Type 0} (old new : Held L) (events : List Local) → Handed old new events → Gathers old new events
gathers_handed old new events k = gathers_one old new events k.frame (hears_in new) refl k.comes k.heard k.opens k.unsaid k.listens

-- a run of the engine
pub gathers_late : {L : Type 0} (link : Ghosts L) (old new : Held L) (s s' : State L) (r : Ran link s s') → AllOwed s.phase r.queued → IsHanded s r.given s' → (hears s'.phase ≡ true → hears s.phase ≡ true) → old ≡ Late s → new ≡ Late s' → Gathers old new (moved r)
gathers_late link old new s s' r o h l e n = gathers_handed old new (moved r) (handed_by old new s s' r.given r.queued (moved r) o h l e n (passed r).heard (passed r).said)

-- ---- nothing comes

pub gathers_none : {L : Type 0} (old new : Held L) (events : List Local) → channels_in new ≡ channels_in old → (hears_in new ≡ true → hears_in old ≡ true) → given_in events ≡ [] → sessions_of (sent_in events) ≡ [] → Gathers old new events
gathers_none old new events c l g s =
    record {
      frames = [];
      later = [];
      waiting = ap (λ (z : Channels). z.incoming) c ∙ sym (append-nil (waiting_in old));
      asked = ap (λ (z : Channels). map asking z.begun) c ∙ sym (append-nil (asked_in old));
      heard = ap sessions_of g;
      all = λ z. refl;
      none = λ z. refl;
      unsaid = s;
      listens = l;
    }

-- before the connection has begun
pub gathers_early : {L : Type 0} (old new : Held L) (o : Opened L Authentication) (p : Option Prepared) (events : List Local) → old ≡ Early o p → channels_in new ≡ no_channels → given_in events ≡ [] → sessions_of (sent_in events) ≡ [] → Gathers old new events
gathers_early old new o p events e c g s = gathers_none old new events (c ∙ sym (ap channels_in e)) (λ z. ap hears_in e) g s

-- ---- the same of other events, and from another that holds the link

pub gathers_same : {L : Type 0} (old new : Held L) (es fs : List Local) → given_in fs ≡ given_in es → sent_in fs ≡ sent_in es → Gathers old new es → Gathers old new fs
gathers_same old new es fs g s k =
    record { frames = k.frames; later = k.later; waiting = k.waiting; asked = k.asked; heard = ap sessions_of g ∙ k.heard; all = k.all; none = k.none; unsaid = ap sessions_of s ∙ k.unsaid; listens = k.listens }

-- behind events in which no frame was read or queued
pub gathers_after : {L : Type 0} (old new : Held L) (es one : List Local) → given_in one ≡ [] → sent_in one ≡ [] → Gathers old new es → Gathers old new (es ++ one)
gathers_after old new es one g s k =
    gathers_same old new es (es ++ one) (given_in-append es one ∙ ap (λ (u : List Frame). u ++ given_in es) g) (sent_in-append es one ∙ ap (λ (u : List Frame). u ++ sent_in es) s) k

pub gathers_from : {L : Type 0} (old mid new : Held L) (events : List Local) → hears_in mid ≡ hears_in old → channels_in mid ≡ channels_in old → Gathers mid new events → Gathers old new events
gathers_from old mid new events h c k =
    record {
      frames = k.frames;
      later = k.later;
      waiting = k.waiting ∙ ap (λ (z : Channels). z.incoming ++ others_of k.frames) c;
      asked = k.asked ∙ ap (λ (z : Channels). map asking z.begun ++ asking_of k.frames) c;
      heard = k.heard;
      all = k.all;
      none = λ z. k.none (h ∙ z);
      unsaid = k.unsaid;
      listens = λ z. sym h ∙ k.listens z;
    }

-- ---- steps after steps

abbrev pub either_way : {P Q : Type 0} (b : Bool) → (b ≡ true → P) → (b ≡ false → Q) → P ⊎ Q
either_way true f g = inl (f refl)
either_way false f g = inr (g refl)

false_if_not : (b : Bool) → (b ≡ true → ⊥) → b ≡ false
false_if_not true n = absurd (n refl)
false_if_not false n = refl

-- where none was lost before, or none came behind
pub seam : (one lost two later : List Frame) → (lost ≡ []) ⊎ (two ≡ []) → (one ++ lost) ++ (two ++ later) ≡ (one ++ two) ++ (lost ++ later)
seam one lost two later (inl e) =
    ap (λ (u : List Frame). (one ++ u) ++ (two ++ later)) e ∙ ap (λ (u : List Frame). u ++ (two ++ later)) (append-nil one) ∙ sym (append_assoc one two later) ∙ ap (λ (u : List Frame). (one ++ two) ++ (u ++ later)) (sym e)
seam one lost two later (inr e) =
    ap (λ (u : List Frame). (one ++ lost) ++ (u ++ later)) e ∙ append_assoc one lost later ∙ ap (λ (u : List Frame). u ++ (lost ++ later)) (sym (append-nil one)) ∙ ap (λ (u : List Frame). (one ++ u) ++ (lost ++ later)) (sym e)

pub gathers_join : {L : Type 0} (a b c : Held L) (es fs : List Local) → Gathers a b es → Gathers b c fs → Gathers a c (fs ++ es)
gathers_join a b c es fs k m =
    let given : sessions_of (given_in (fs ++ es)) ≡ (k.frames ++ k.later) ++ (m.frames ++ m.later) =
    ap sessions_of (given_in-append fs es) ∙ sessions_of-append (given_in es) (given_in fs) ∙ ap (λ (u : List Frame). u ++ sessions_of (given_in fs)) k.heard ∙ ap (λ (u : List Frame). (k.frames ++ k.later) ++ u) m.heard in
    record {
      frames = k.frames ++ m.frames;
      later = k.later ++ m.later;
      waiting = m.waiting ∙ ap (λ (u : List Frame). u ++ others_of m.frames) k.waiting ∙ append_assoc (waiting_in a) (others_of k.frames) (others_of m.frames) ∙ ap (λ (u : List Frame). waiting_in a ++ u) (sym (others_of-append k.frames m.frames));
      asked = m.asked ∙ ap (λ (u : List Frame). u ++ asking_of m.frames) k.asked ∙ append_assoc (asked_in a) (asking_of k.frames) (asking_of m.frames) ∙ ap (λ (u : List Frame). asked_in a ++ u) (sym (asking_of-append k.frames m.frames));
      heard = given ∙ seam k.frames k.later m.frames m.later (either_way (hears_in b) k.all m.none);
      all = λ z. ap (λ (u : List Frame). u ++ m.later) (k.all (m.listens z)) ∙ m.all z;
      none = λ z. ap (λ (u : List Frame). u ++ m.frames) (k.none z) ∙ m.none (false_if_not (hears_in b) (λ w. absurd (cc (z, k.listens w))));
      unsaid = unsaid_join fs es m.unsaid k.unsaid;
      listens = λ z. k.listens (m.listens z);
    }
