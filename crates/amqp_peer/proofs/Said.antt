-- What an end says stays what it may say.
use Rattle.std.proofs.Common.{◌≡◌, ◌⊎◌, inl, inr, true, ℕ, List, [], ◌∷◌, ◌++◌, length, Option, Some, None, refl, sym, ap, ◌∙◌, subst, append_assoc, length-append, arith}
use Rattle.std.proofs.Math.Path.{ap₂}
use Rattle.std.proofs.lemmas.List.{append-nil}
use Rattle.std.proofs.lemmas.Option.{same_Some}
use Rattle.amqp_composites.specs.declared.error.Error.{Error as AmqpError}
use Rattle.amqp_frames.specs.declared.body.FrameBody.TheVariants as b
use Rattle.amqp_frames.specs.declared.shared.ConnectionStopReason.{ConnectionStopReason}
use Rattle.amqp_frames.specs.Session.{of_session}
use Rattle.amqp_transport.specs.declared.frames.Frame.{Frame}
use Rattle.amqp_engine.specs.declared.phase.BodyKind.{BodyKind}
use Rattle.amqp_engine.specs.declared.phase.BodyKind.TheVariants as kind
use Rattle.amqp_engine.specs.declared.phase.Phase.{Phase}
use Rattle.amqp_engine.specs.declared.phase.Phase.TheVariants as p
use Rattle.amqp_engine.specs.Faults.{IsOwed, AllOwed}
use Rattle.amqp_engine.specs.declared.phase.Rejection.{Rejection}
use Rattle.amqp_engine.specs.Heard.{IsHeard, IsParted, IsMistaken, IsRejectedFor}
use Rattle.amqp_engine.specs.Phases.{kind_of}
use Rattle.amqp_engine.specs.Sentence.{AllInner, IsBegun, IsClosed, IsSaid}
use Rattle.amqp_engine.proofs.Said.{said_form}
use Rattle.amqp_engine.specs.State.{close_frame}
use Rattle.amqp_engine.specs.State.{error_for as error_of_rejection}
use Rattle.amqp_words.specs.declared.call.Call.{Call}
use Rattle.amqp_words.specs.declared.call.Call.TheVariants.{Close as CloseCall}
use Rattle.amqp_peer.specs.declared.prepared.Prepared.{Prepared}
use Rattle.amqp_peer.specs.Causes.{prepared_in}
use Rattle.amqp_peer.specs.History.{Local, made_in, given_in, sent_in}
use Rattle.amqp_peer.specs.Prepared.{prepared_of, error_for}
use Rattle.amqp_peer.specs.Said.{AllMiddle, IsMiddle, IsPlain, HasClose, HasOtherFirst, HasStray, HasStrayFor, CloseCause, called, answers, mistaken, rejected, IsSaidFor, HasSaid}

-- ---- what was read stays so where more is read

close_stays : (xs ys : List Frame) → HasClose xs → HasClose (xs ++ ys)
close_stays xs ys c =
    record {
      front = c.front;
      channel = c.channel;
      last = c.last;
      more = c.more ++ ys;
      is = ap (λ (u : List Frame). u ++ ys) c.is ∙ append_assoc c.front (record { channel = c.channel; body = b.Close c.last } ∷ c.more) ys;
    }

other_stays : (xs ys : List Frame) → HasOtherFirst xs → HasOtherFirst (xs ++ ys)
other_stays xs ys o = record { first = o.first; more = o.more ++ ys; other = o.other; is = ap (λ (u : List Frame). u ++ ys) o.is }

abbrev stray_stays : (xs ys : List Frame) → HasStray xs → HasStray (xs ++ ys)
stray_stays xs ys o =
    record { front = o.front; stray = o.stray; more = o.more ++ ys; before = o.before; has_no_place = o.has_no_place; is = ap (λ (u : List Frame). u ++ ys) o.is ∙ append_assoc o.front (o.stray ∷ o.more) ys }

cause_stays : (calls : List (ℕ × Call)) (xs ys : List Frame) (error : Option AmqpError) → CloseCause calls xs error → CloseCause calls (xs ++ ys) error
cause_stays calls xs ys error (called name condition earlier c e) = called name condition earlier c e
cause_stays calls xs ys error (answers c e) = answers (close_stays xs ys c) e
cause_stays calls xs ys error (mistaken c e) = mistaken (other_stays xs ys c) e
cause_stays calls xs ys error (rejected why c e) = rejected why (record { it = stray_stays xs ys c.it; fits = c.fits }) e

pub said_stays : (own : Option Prepared) (calls : List (ℕ × Call)) (xs ys sent : List Frame) → IsSaidFor own calls xs sent → IsSaidFor own calls (xs ++ ys) sent
said_stays own calls xs ys sent (inl e) = inl e
said_stays own calls xs ys sent (inr (inl k)) = inr (inl k)
said_stays own calls xs ys sent (inr (inr (front, error, k, e, c))) = inr (inr (front, error, k, e, cause_stays calls xs ys error c))

-- ---- one frame more

abbrev behind : List Frame → List Frame
behind [] = []
behind (x ∷ xs) = xs

-- no Close may stand between Open and Close
close_not_inner : (xs : List Frame) (error : Option AmqpError) → AllInner (xs ++ close_frame error ∷ []) → ⊥
close_not_inner [] error a = a.0
close_not_inner (x ∷ xs) error a = close_not_inner xs error a.1

begun_not_closed : (own : Option Prepared) (front sent : List Frame) (error : Option AmqpError) → IsPlain own front → sent ≡ front ++ close_frame error ∷ [] → IsBegun sent → ⊥
begun_not_closed own front sent error k e s =
    close_not_inner k.more error (subst AllInner (ap behind (sym s.is ∙ e ∙ ap (λ (u : List Frame). u ++ close_frame error ∷ []) k.is)) s.each)

nothing_not_begun : (sent : List Frame) → sent ≡ [] → IsBegun sent → ⊥
nothing_not_begun sent e s = omega (arith, ap length e, ap length s.is)

-- before Close there are Open, empty frames and frames of sessions
plain_of : (own : Option Prepared) (calls : List (ℕ × Call)) (given sent : List Frame) → IsSaidFor own calls given sent → IsBegun sent → IsPlain own sent
plain_of own calls given sent (inl e) s = absurd (nothing_not_begun sent e s)
plain_of own calls given sent (inr (inl k)) s = k
plain_of own calls given sent (inr (inr (front, error, k, e, c))) s = absurd (begun_not_closed own front sent error k e s)

middle_push : (xs : List Frame) (x : Frame) → AllMiddle xs → IsMiddle x → AllMiddle (xs ++ x ∷ [])
middle_push [] x a e = (e, tt)
middle_push (y ∷ ys) x a e = (a.0, middle_push ys x a.1 e)

plain_push : (own : Option Prepared) (sent : List Frame) (x : Frame) → IsMiddle x → IsPlain own sent → IsPlain own (sent ++ x ∷ [])
plain_push own sent x e k = record { own = k.own; is_own = k.is_own; more = k.more ++ x ∷ []; each = middle_push k.more x k.each e; is = ap (λ (u : List Frame). u ++ x ∷ []) k.is }

closed_with : (own : Option Prepared) (calls : List (ℕ × Call)) (given sent : List Frame) (x : Frame) (error : Option AmqpError) → x ≡ close_frame error → IsPlain own sent → CloseCause calls given error → IsSaidFor own calls given (sent ++ x ∷ [])
closed_with own calls given sent x error e k c = inr (inr (sent, error, k, ap (λ (z : Frame). sent ++ z ∷ []) e, c))

parted_close : (reason : ConnectionStopReason) (given : List Frame) → IsParted reason given → HasClose given
parted_close reason given h = record { front = h.front; channel = h.channel; last = h.last; more = []; is = h.is }

mistaken_first : (reason : ConnectionStopReason) (given : List Frame) → IsMistaken reason given → HasOtherFirst given
mistaken_first reason given h = record { first = h.first; more = []; other = h.other; is = h.is }

rejected_stray : (why : Rejection) (given : List Frame) → IsRejectedFor why given → HasStrayFor why given
rejected_stray why given h =
    record { it = record { front = h.it.front; stray = h.it.last; more = []; before = h.it.before; has_no_place = h.it.stray; is = h.it.is }; fits = h.fits }

-- ---- what is owed

said_one : (q : Phase) (reason : ConnectionStopReason) (own : Option Prepared) (calls : List (ℕ × Call)) (given sent : List Frame) (x : Frame) → IsOwed q x → IsSaid q sent → IsHeard q reason given → IsSaidFor own calls given sent → IsSaidFor own calls given (sent ++ x ∷ [])
said_one p.OpenSent reason own calls given sent x o s h k = absurd o
said_one p.Opened reason own calls given sent x o s h k = inr (inl (plain_push own sent x (inl o) (plain_of own calls given sent k s)))
said_one p.CloseReceived reason own calls given sent x o s h k = closed_with own calls given sent x None o (plain_of own calls given sent k s) (answers (parted_close reason given h) refl)
said_one p.Refused reason own calls given sent x o s h k = closed_with own calls given sent x None o (plain_of own calls given sent k s) (mistaken (mistaken_first reason given h) refl)
said_one (p.Rejected why) reason own calls given sent x o s h k = closed_with own calls given sent x (Some (error_of_rejection why)) o (plain_of own calls given sent k s) (rejected why (rejected_stray why given h.0) refl)
said_one p.CloseSent reason own calls given sent x o s h k = absurd o
said_one p.Discarding reason own calls given sent x o s h k = absurd o
said_one p.Ended reason own calls given sent x o s h k = absurd o
said_one p.Failed reason own calls given sent x o s h k = absurd o

said_owed : (q : Phase) (reason : ConnectionStopReason) (own : Option Prepared) (calls : List (ℕ × Call)) (given sent queued : List Frame) → AllOwed q queued → IsSaid q sent → IsHeard q reason given → IsSaidFor own calls given sent → IsSaidFor own calls given (sent ++ queued)
said_owed q reason own calls given sent [] o s h k = subst (λ (xs : List Frame). IsSaidFor own calls given xs) (sym (append-nil sent)) k
said_owed q reason own calls given sent (x ∷ []) o s h k = said_one q reason own calls given sent x o s h k
said_owed q reason own calls given sent (x ∷ y ∷ xs) o s h k = absurd o

-- ---- what is owed, or the Close of a call

-- what is queued is owed, or it is the Close of the last call, or a frame of a session while the connection is open
abbrev pub IsDue : List (ℕ × Call) → Phase → List Frame → Type 0
IsDue calls q queued =
    AllOwed q queued
    ⊎ (((name : ℕ) × (condition : Option (List ℕ)) × (earlier : List (ℕ × Call)) × (calls ≡ (name, CloseCall condition) ∷ earlier) × (queued ≡ close_frame (error_for condition) ∷ []))
    ⊎ ((x : Frame) × (q ≡ p.Opened) × (of_session x.body ≡ true) × (queued ≡ x ∷ [])))

-- Close is the last frame of what was closed
abbrev first_or : Frame → List Frame → Frame
first_or d [] = d
first_or d (x ∷ xs) = x

alone_not : (x y z : Frame) (zs : List Frame) → x ∷ [] ≡ z ∷ (zs ++ y ∷ []) → ⊥
alone_not x y z zs e = omega (arith, ap length e, length-append zs (y ∷ []))

same_before : (xs ys : List Frame) (x y : Frame) → xs ++ x ∷ [] ≡ ys ++ y ∷ [] → xs ≡ ys
same_before [] [] x y e = refl
same_before [] (z ∷ zs) x y e = absurd (alone_not x y z zs e)
same_before (w ∷ ws) [] x y e = absurd (alone_not y x w ws (sym e))
same_before (w ∷ ws) (z ∷ zs) x y e = ap₂ (λ (a : Frame) (bs : List Frame). a ∷ bs) (ap (first_or w) e) (same_before ws zs x y (ap behind e))

abbrev first_kind : List Frame → Option BodyKind
first_kind [] = None
first_kind (x ∷ xs) = Some (kind_of x.body)

close_first_not : (xs : List Frame) (error : Option AmqpError) → IsBegun (xs ++ close_frame error ∷ []) → ⊥
close_first_not [] error s = absurd (cc (same_Some kind.Close kind.Open (ap first_kind s.is)))
close_first_not (x ∷ xs) error s = close_not_inner xs error (subst AllInner (sym (ap behind s.is)) s.each)

begun_before : (sent : List Frame) (error : Option AmqpError) → IsBegun (sent ++ close_frame error ∷ []) ⊎ IsClosed (sent ++ close_frame error ∷ []) → IsBegun sent
begun_before sent error (inl s) = absurd (close_first_not sent error s)
begun_before sent error (inr s) = subst IsBegun (same_before s.front sent s.last (close_frame error) (sym s.is)) s.begun

-- what is queued is due, and so is what was said with it
pub said_due : (q r : Phase) (reason : ConnectionStopReason) (own : Option Prepared) (calls : List (ℕ × Call)) (given sent queued : List Frame) → IsDue calls q queued → IsSaid q sent → IsHeard q reason given → IsSaid r (sent ++ queued)
    → IsSaidFor own calls given sent → IsSaidFor own calls given (sent ++ queued)
said_due q r reason own calls given sent queued (inl o) s h n k = said_owed q reason own calls given sent queued o s h k
said_due q r reason own calls given sent queued (inr (inl (name, condition, earlier, c, e))) s h n k =
    subst (λ (xs : List Frame). IsSaidFor own calls given (sent ++ xs)) (sym e)
    (closed_with own calls given sent (close_frame (error_for condition)) (error_for condition) refl
    (plain_of own calls given sent k (begun_before sent (error_for condition) (said_form r (sent ++ close_frame (error_for condition) ∷ []) (subst (λ (xs : List Frame). IsSaid r (sent ++ xs)) e n))))
    (called name condition earlier c refl))
said_due q r reason own calls given sent queued (inr (inr (x, o, t, e))) s h n k =
    subst (λ (xs : List Frame). IsSaidFor own calls given (sent ++ xs)) (sym e) (inr (inl (plain_push own sent x (inr t) (plain_of own calls given sent k (subst (λ (z : Phase). IsSaid z sent) o s)))))

-- ---- a call after the first

-- the calls are the same, or one came after the first
abbrev pub IsAdded : List (ℕ × Call) → List (ℕ × Call) → Type 0
IsAdded calls calls' = (calls' ≡ calls) ⊎ ((first : ℕ × Call) × (last : ℕ × Call) × (calls ≡ first ∷ []) × (calls' ≡ last ∷ first ∷ []))

abbrev first_call : List (ℕ × Call) → Option (ℕ × Call)
first_call [] = None
first_call (c ∷ cs) = Some c

-- the first call is no close
cause_second : (first last : ℕ × Call) (own : Prepared) (given : List Frame) (error : Option AmqpError) → prepared_of first.1 ≡ Some own → CloseCause (first ∷ []) given error → CloseCause (last ∷ first ∷ []) given error
cause_second first last own given error k (called name condition earlier c e) =
    absurd (cc (sym k ∙ ap (λ (x : ℕ × Call). prepared_of x.1) (same_Some first (name, CloseCall condition) (ap first_call c))))
cause_second first last own given error k (answers c e) = answers c e
cause_second first last own given error k (mistaken c e) = mistaken c e
cause_second first last own given error k (rejected why c e) = rejected why c e

said_second : (first last : ℕ × Call) (given sent : List Frame) → IsSaidFor (prepared_of first.1) (first ∷ []) given sent → IsSaidFor (prepared_of first.1) (last ∷ first ∷ []) given sent
said_second first last given sent (inl e) = inl e
said_second first last given sent (inr (inl k)) = inr (inl k)
said_second first last given sent (inr (inr (front, error, k, e, c))) = inr (inr (front, error, k, e, cause_second first last k.own given error k.is_own c))

pub said_added : (calls calls' : List (ℕ × Call)) (given sent : List Frame) → IsAdded calls calls' → IsSaidFor (prepared_in calls) calls given sent → IsSaidFor (prepared_in calls') calls' given sent
said_added calls calls' given sent (inl e) k = subst (λ (cs : List (ℕ × Call)). IsSaidFor (prepared_in cs) cs given sent) (sym e) k
said_added calls calls' given sent (inr (first, last, e, e')) k =
    subst (λ (cs : List (ℕ × Call)). IsSaidFor (prepared_in cs) cs given sent) (sym e')
    (said_second first last given sent (subst (λ (cs : List (ℕ × Call)). IsSaidFor (prepared_in cs) cs given sent) e k))

-- ---- of a history

pub has_said : (h : List Local) (calls : List (ℕ × Call)) (given sent : List Frame) → made_in h ≡ calls → given_in h ≡ given → sent_in h ≡ sent → IsSaidFor (prepared_in calls) calls given sent → HasSaid h
has_said h calls given sent c g s k =
    subst (λ (cs : List (ℕ × Call)). IsSaidFor (prepared_in cs) cs (given_in h) (sent_in h)) (sym c)
    (subst (λ (xs : List Frame). IsSaidFor (prepared_in calls) calls xs (sent_in h)) (sym g)
    (subst (λ (xs : List Frame). IsSaidFor (prepared_in calls) calls given xs) (sym s) k))
