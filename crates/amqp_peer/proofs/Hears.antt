-- What the frames that were read say of a connection.
use Rattle.std.proofs.Common.{◌≡◌, ◌≤◌, inl, inr, ℕ, List, [], ◌∷◌, ◌++◌, length, true, false, Option, Some, None, refl, sym, ap, ◌∙◌, subst, length-append, arith}
use Rattle.std.proofs.lemmas.Option.{same_Some}
use Rattle.amqp_performatives.specs.declared.close.Close.{Close}
use Rattle.amqp_frames.specs.declared.body.FrameBody.TheVariants as b
use Rattle.amqp_frames.specs.declared.shared.ConnectionStopReason.{ConnectionStopReason}
use Rattle.amqp_transport.specs.declared.frames.Frame.{Frame}
use Rattle.amqp_engine.specs.declared.phase.BodyKind.{BodyKind}
use Rattle.amqp_engine.specs.declared.phase.BodyKind.TheVariants as kind
use Rattle.amqp_engine.specs.declared.phase.Phase.{Phase}
use Rattle.amqp_engine.specs.declared.phase.Phase.TheVariants as p
use Rattle.amqp_engine.specs.Heard.{IsGreeted, IsParted, IsMistaken, IsAnswered, IsHeard}
use Rattle.amqp_engine.proofs.Hearing.{rejected_greeted}
use Rattle.amqp_engine.specs.Phases.{kind_of, state_of, has_failed, IsInner}
use Rattle.amqp_peer.specs.Causes.{BeginsWithOpen, IsOther}
use Rattle.amqp_peer.specs.Held.{is_made_state}

-- what the first frame is
abbrev first_kind : List Frame → Option BodyKind
first_kind [] = None
first_kind (x ∷ xs) = Some (kind_of x.body)

begins_kind : (xs : List Frame) → BeginsWithOpen xs → first_kind xs ≡ Some kind.Open
begins_kind xs o = ap first_kind o.is

inner_not_open : (k : BodyKind) → IsInner k → k ≡ kind.Open → ⊥
inner_not_open k i e = subst IsInner e i

other_not_open : (xs : List Frame) → IsOther xs → BeginsWithOpen xs → ⊥
other_not_open xs o g = inner_not_open (kind_of o.first.body) o.other (same_Some _ _ (sym (ap first_kind o.is) ∙ begins_kind xs g))

-- Open comes first where the peer has greeted
pub greeted_begins : (xs : List Frame) → IsGreeted xs → BeginsWithOpen xs
greeted_begins xs g = record { channel = g.channel; first = g.first; more = g.more; is = g.is }

greeted_length : (xs : List Frame) → IsGreeted xs → 1 ≤ length xs
greeted_length xs g = omega (arith, ap length g.is)

-- a frame other than Open or Close
pub mistaken_other : (reason : ConnectionStopReason) (xs : List Frame) → IsMistaken reason xs → IsOther xs
mistaken_other reason xs m = record { first = m.first; other = m.other; is = m.is }

-- the phases in which the connection is made
pub made_begins : (q : Phase) (reason : ConnectionStopReason) (xs : List Frame) → is_made_state (state_of q) ≡ true → IsHeard q reason xs → BeginsWithOpen xs
made_begins p.OpenSent reason xs e h = absurd (cc e)
made_begins p.Opened reason xs e h = greeted_begins xs h.0
made_begins p.CloseReceived reason xs e h = absurd (cc e)
made_begins p.Refused reason xs e h = absurd (cc e)
made_begins (p.Rejected why) reason xs e h = greeted_begins xs (rejected_greeted xs h.0.it)
made_begins p.CloseSent reason xs e h = greeted_begins xs h.0
made_begins p.Discarding reason xs e h = greeted_begins xs h.0
made_begins p.Ended reason xs e h = absurd (cc e)
made_begins p.Failed reason xs e h = absurd (cc e)

-- all but the first phase have heard something
parted_length : (reason : ConnectionStopReason) (xs : List Frame) → IsParted reason xs → 1 ≤ length xs
parted_length reason xs h = omega (arith, ap length h.is, length-append h.front (record { channel = h.channel; body = b.Close h.last } ∷ []))

answered_length : (reason : ConnectionStopReason) (xs : List Frame) → IsAnswered reason xs → 1 ≤ length xs
answered_length reason xs h = omega (arith, ap length h.is, length-append h.front (record { channel = h.channel; body = b.Close h.last } ∷ []))

pub heard_length : (q : Phase) (reason : ConnectionStopReason) (xs : List Frame) → IsHeard q reason xs → has_failed q ≡ false → (q ≡ p.OpenSent → ⊥) → 1 ≤ length xs
heard_length p.OpenSent reason xs h f n = absurd (n refl)
heard_length p.Opened reason xs h f n = greeted_length xs h.0
heard_length p.CloseReceived reason xs h f n = parted_length reason xs h
heard_length p.Refused reason xs h f n = omega (arith, ap length h.is)
heard_length (p.Rejected why) reason xs h f n = greeted_length xs (rejected_greeted xs h.0.it)
heard_length p.CloseSent reason xs h f n = greeted_length xs h.0
heard_length p.Discarding reason xs h f n = greeted_length xs h.0
heard_length p.Ended reason xs (inl h) f n = parted_length reason xs h
heard_length p.Ended reason xs (inr (inl h)) f n = omega (arith, ap length h.is)
heard_length p.Ended reason xs (inr (inr h)) f n = answered_length reason xs h
heard_length p.Failed reason xs h f n = absurd (cc f)

-- what comes later does not change what came first
abbrev first_or : Frame → List Frame → Frame
first_or d [] = d
first_or d (x ∷ xs) = x

one_not : 1 ≤ 0 → ⊥
one_not n = omega (arith, n)

two_not : (x first z : Frame) (zs : List Frame) → x ∷ z ∷ zs ≡ first ∷ [] → ⊥
two_not x first z zs e = omega (arith, ap length e)

pub begins_front : (xs ys : List Frame) → 1 ≤ length xs → BeginsWithOpen (xs ++ ys) → BeginsWithOpen xs
begins_front [] ys n o = absurd (one_not n)
begins_front (x ∷ xs) ys n o = record { channel = o.channel; first = o.first; more = xs; is = ap (λ (z : Frame). z ∷ xs) (ap (first_or x) o.is) }

nothing_behind : (x first : Frame) (xs ys : List Frame) → x ∷ (xs ++ ys) ≡ first ∷ [] → x ∷ xs ≡ first ∷ []
nothing_behind x first [] ys e = ap (λ (z : Frame). z ∷ []) (ap (first_or x) e)
nothing_behind x first (z ∷ zs) ys e = absurd (two_not x first z (zs ++ ys) e)

pub other_front : (xs ys : List Frame) → 1 ≤ length xs → IsOther (xs ++ ys) → IsOther xs
other_front [] ys n o = absurd (one_not n)
other_front (x ∷ xs) ys n o = record { first = o.first; other = o.other; is = nothing_behind x o.first xs ys o.is }

-- a frame other than Open came first, and so Open did not
pub other_then : (xs ys : List Frame) → IsOther xs → BeginsWithOpen (xs ++ ys) → ⊥
other_then xs ys o g = other_not_open xs o (begins_front xs ys (omega (arith, ap length o.is)) g)

-- a Close alone
pub record IsCloseAlone (xs : List Frame) : Type 0 where
  pub channel : ℕ
  pub last : Close
  pub is : xs ≡ record { channel = channel; body = b.Close last } ∷ []

pub close_begins_not : (xs : List Frame) → IsCloseAlone xs → BeginsWithOpen xs → ⊥
close_begins_not xs c o = absurd (cc (same_Some _ _ (sym (ap first_kind c.is) ∙ begins_kind xs o)))

inner_not_close : (k : BodyKind) → IsInner k → k ≡ kind.Close → ⊥
inner_not_close k i e = subst IsInner e i

pub close_other_not : (xs : List Frame) → IsCloseAlone xs → IsOther xs → ⊥
close_other_not xs c o = inner_not_close (kind_of o.first.body) o.other (same_Some _ _ (sym (ap first_kind o.is) ∙ ap first_kind c.is))

-- where one frame at most was read, or Open did not come first, a Close came alone
pub parted_alone : (reason : ConnectionStopReason) (xs : List Frame) (h : IsParted reason xs) → (IsGreeted h.front → ⊥) → xs ≡ record { channel = h.channel; body = b.Close h.last } ∷ []
parted_alone reason xs h n = elim h.before [
  | inl e ↦ h.is ∙ ap (λ (u : List Frame). u ++ record { channel = h.channel; body = b.Close h.last } ∷ []) e
  | inr g ↦ absurd (n g)
]

pub parted_short : (reason : ConnectionStopReason) (xs : List Frame) → length xs ≤ 1 → IsParted reason xs → IsCloseAlone xs
parted_short reason xs n h =
    record {
      channel = h.channel;
      last = h.last;
      is = parted_alone reason xs h (λ g. let m = greeted_length h.front g in omega (arith, n, m, ap length h.is, length-append h.front (record { channel = h.channel; body = b.Close h.last } ∷ [])));
    }

pub parted_unheard : (reason : ConnectionStopReason) (xs : List Frame) (h : IsParted reason xs) → (BeginsWithOpen xs → ⊥) → xs ≡ record { channel = h.channel; body = b.Close h.last } ∷ []
parted_unheard reason xs h n =
    parted_alone reason xs h (λ g. let o = greeted_begins h.front g in
    n (record { channel = o.channel; first = o.first; more = o.more ++ record { channel = h.channel; body = b.Close h.last } ∷ []; is = h.is ∙ ap (λ (u : List Frame). u ++ record { channel = h.channel; body = b.Close h.last } ∷ []) o.is }))

pub answered_begins : (reason : ConnectionStopReason) (xs : List Frame) → IsAnswered reason xs → BeginsWithOpen xs
answered_begins reason xs h =
    let o = greeted_begins h.front h.before in
    record { channel = o.channel; first = o.first; more = o.more ++ record { channel = h.channel; body = b.Close h.last } ∷ []; is = h.is ∙ ap (λ (u : List Frame). u ++ record { channel = h.channel; body = b.Close h.last } ∷ []) o.is }
