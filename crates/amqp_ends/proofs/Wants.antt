-- What a call waits for where nothing is in flight.
use Rattle.std.proofs.Common.{◌≡◌, ◌⊎◌, ◌≤◌, inl, inr, ℕ, List, [], ◌∷◌, ◌++◌, length, Option, Some, None, refl, sym, ap, ◌∙◌, subst, arith, append-nil}
use Rattle.std.specs.Prelude.{map}
use Rattle.amqp_composites.specs.declared.error.Error.{Error as AmqpError}
use Rattle.amqp_frames.specs.declared.body.FrameBody.TheVariants.{Close as CloseBody}
use Rattle.amqp_transport.specs.declared.frames.Frame.{Frame}
use Rattle.amqp_transport.specs.Kinds.{amqp_again}
use Rattle.amqp_engine.specs.Heard.{AllUnclosed}
use Rattle.amqp_engine.specs.Sentence.{bytes_of_all}
use Rattle.amqp_opening.specs.declared.authentication.SaslCall.{SaslCall}
use Rattle.amqp_opening.specs.Opening.{amqp_header}
use Rattle.amqp_peer.specs.amqp_words.declared.call.Call.{Call}
use Rattle.amqp_peer.specs.amqp_words.declared.call.Call.TheVariants.{Close as CloseCall}
use Rattle.amqp_peer.specs.amqp_words.declared.open_error.OpenError.{OpenError}
use Rattle.amqp_peer.specs.amqp_words.declared.reply.Reply.TheVariants as reply
use Rattle.amqp_peer.specs.amqp_words.declared.reply.NamedReply.{NamedReply}
use Rattle.amqp_peer.specs.declared.peer.PeerKind.{PeerKind}
use Rattle.amqp_peer.specs.declared.peer.PeerKind.TheVariants.{Client, Listener}
use Rattle.amqp_peer.specs.Causes.{BeginsWithOpen, EndsWithClose, HasHeader, IsReadTo, IsTied, HasCause, AllCaused, prepared_in}
use Rattle.amqp_peer.specs.History.{Local, Made, Polled, AtLink, Exchanged, Got, Put, Replied, made_in, given_in, sent_in, replied_in, read_in, wrote_in}
use Rattle.amqp_peer.specs.Layers.{layer_in, IsResting}
use Rattle.amqp_peer.specs.Replies.{IsConnected, IsOpenRefusal, pending, AreReplies}
use Rattle.amqp_peer.specs.Rest.{OpenWaits, CloseWaits, HasWaiting, IsAllOut, RestsBehind}
use Rattle.amqp_peer.specs.Said.{HasSaid, CloseCause, called, answers, mistaken, rejected}
use Rattle.amqp_ends.specs.Joined.{Meets}
use Rattle.amqp_ends.specs.Quiet.{Begins, BeginsIn, AreOpposite, IsQuiet}
use Rattle.amqp_ends.specs.Standing.{Stands, uncalled, in_headers, behind, parted, refused, broken, vast}
use Rattle.amqp_ends.specs.Wants.{IsAnswered, AreStill, LastCloses, HasRefused, HasFailed, own, other, many, IsEnded, failed, Wants}
use Rattle.amqp_ends.specs.Wants.{refused as was_refused}
use Rattle.amqp_ends.proofs.Closes.{closed_not, plain_unclosed}
use Rattle.amqp_ends.proofs.Hearing.{hears}
use Rattle.amqp_ends.proofs.QuietFrames.{all_taken, close_taken}
use Rattle.amqp_ends.proofs.QuietLayers.{wrote_behind}
use Rattle.amqp_ends.proofs.Quiet.{headers_do_not_wait, openings_do_not_wait, closes_do_not_wait}

-- ---- replies

-- where the connection was made, Open was queued
connects_last : (rs : List NamedReply) (r : NamedReply) → IsConnected (rs ++ r ∷ []) → IsConnected rs ⊎ (r.reply ≡ reply.Connection)
connects_last [] r (inl e) = inr e
connects_last [] r (inr c) = absurd c
connects_last (s ∷ rs) r (inl e) = inl (inl e)
connects_last (s ∷ rs) r (inr c) = elim (connects_last rs r c) [ inl d ↦ inl (inr d) | inr e ↦ inr e ]

not_none : (xs : List Frame) (x : Frame) → xs ++ x ∷ [] ≡ [] → ⊥
not_none [] x e = absurd (cc e)
not_none (y ∷ xs) x e = absurd (cc e)

unsent_connects : (h : List Local) → AllCaused h → sent_in h ≡ [] → IsConnected (replied_in h) → ⊥
unsent_connects [] c s k = k
unsent_connects (Made at name call ∷ h) c s k = unsent_connects h c s k
unsent_connects (Polled at ∷ h) c s k = unsent_connects h c s k
unsent_connects (AtLink x ∷ h) c s k = unsent_connects h c s k
unsent_connects (Exchanged ∷ h) c s k = unsent_connects h c s k
unsent_connects (Got x ∷ h) c s k = unsent_connects h c s k
unsent_connects (Put x ∷ h) c s k = not_none (sent_in h) x s
unsent_connects (Replied r ∷ h) c s k = elim (connects_last (replied_in h) r k) [
  | inl d ↦ unsent_connects h c.1 s d
  | inr e ↦ absurd (cc (sym s ∙ (subst (HasCause h) e c.0).said.is))
]

-- an end that called, sent nothing and waits for nothing was refused
refused_by : (calls : List (ℕ × Call)) (replied : List NamedReply) → AreReplies calls replied → (IsConnected replied → ⊥) → ((n : ℕ) → replied ≡ pending n ∷ [] → ⊥) → (calls ≡ []) ⊎ ((n : ℕ) × (e : OpenError) × IsOpenRefusal n e replied)
refused_by [] replied r n w = inl refl
refused_by (first ∷ []) replied (inl e) n w = absurd (w first.0 e)
refused_by (first ∷ []) replied (inr (inl e)) n w = absurd (n (subst IsConnected (sym e) (inr (inl refl))))
refused_by (first ∷ []) replied (inr (inr x)) n w = inr (first.0, x.0, x.1)
refused_by (close ∷ first ∷ []) replied (inl e) n w = absurd (n (subst IsConnected (sym e) (inr (inl refl))))
refused_by (close ∷ first ∷ []) replied (inr (x, i, inl e)) n w = absurd (n (subst IsConnected (sym e) (inr (inl refl))))
refused_by (close ∷ first ∷ []) replied (inr (x, i, inr e)) n w = absurd (n (subst IsConnected (sym e) (inr (inl refl))))
refused_by (call ∷ close ∷ first ∷ calls) replied r n w = absurd r

far_refused : (h far : List Local) → IsAnswered far → sent_in far ≡ [] → (HasWaiting far → ⊥) → (made_in far ≡ []) ⊎ IsEnded h far
far_refused h far a s w = elim (refused_by (made_in far) (replied_in far) a.replies (unsent_connects far a.caused s) (λ n e. w (inl (n, e)))) [
  | inl n ↦ inl n
  | inr r ↦ inr (was_refused r)
]

-- ---- two ends

pub quiet : (h far : List Local) (left far_left : List ℕ) → AreStill h far left far_left → left ≡ [] → far_left ≡ [] → IsQuiet h far
quiet h far left far_left a l f = record {
  reads = sym (append-nil (read_in h)) ∙ ap (λ (u : List ℕ). read_in h ++ u) (sym l) ∙ a.reads;
  far_reads = sym (append-nil (read_in far)) ∙ ap (λ (u : List ℕ). read_in far ++ u) (sym f) ∙ a.far_reads;
  tied = a.tied;
  far_tied = a.far_tied;
  said = a.said;
  far_said = a.far_said;
  layer = a.layer;
  far_layer = a.far_layer;
  kinds = a.kinds;
}

pub meets : (h far : List Local) (left far_left : List ℕ) → AreStill h far left far_left → Meets h far
meets h far left far_left a = record { calm = a.calm; tied = a.tied; far_tied = a.far_tied; far_said = a.far_said; left = left; reads = a.reads }

pub meets_back : (h far : List Local) (left far_left : List ℕ) → AreStill h far left far_left → Meets far h
meets_back h far left far_left a = record { calm = a.far_calm; tied = a.far_tied; far_tied = a.tied; far_said = a.said; left = far_left; reads = a.far_reads }

-- ---- the other end said a Close

ends_closed : (sent : List Frame) → EndsWithClose sent → AllUnclosed sent → ⊥
ends_closed sent e a = closed_not sent a (record { front = e.front; channel = e.channel; last = e.last; more = []; is = e.is })

none_among : (front : List Frame) (x : Frame) (more : List Frame) → front ++ x ∷ more ≡ [] → ⊥
none_among [] x more e = absurd (cc e)
none_among (y ∷ front) x more e = absurd (cc e)

-- where it was given nothing, it was called
cause_called : (far : List Local) (error : Option AmqpError) → given_in far ≡ [] → CloseCause (made_in far) (given_in far) error → LastCloses (made_in far)
cause_called far error g (called name condition earlier is e) = (name, condition, earlier, is)
cause_called far error g (answers c e) = absurd (none_among c.front (record { channel = c.channel; body = CloseBody c.last }) c.more (sym c.is ∙ g))
cause_called far error g (mistaken o e) = absurd (cc (sym o.is ∙ g))
cause_called far error g (rejected why s e) = absurd (none_among s.it.front s.it.stray s.it.more (sym s.it.is ∙ g))

parted_called : (far : List Local) → given_in far ≡ [] → EndsWithClose (sent_in far) → HasSaid far → LastCloses (made_in far)
parted_called far g e (inl none) = absurd (ends_closed (sent_in far) e (subst AllUnclosed (sym none) tt))
parted_called far g e (inr (inl s)) = absurd (ends_closed (sent_in far) e (plain_unclosed (prepared_in (made_in far)) (sent_in far) s))
parted_called far g e (inr (inr (front, error, s, is, cause))) = cause_called far error g cause

-- ---- an end that is over by its Close

-- an end that made its connection has read the Open of the other
unheard_connects : (h : List Local) → AllCaused h → given_in h ≡ [] → IsConnected (replied_in h) → ⊥
unheard_connects [] c g k = k
unheard_connects (Made at name call ∷ h) c g k = unheard_connects h c g k
unheard_connects (Polled at ∷ h) c g k = unheard_connects h c g k
unheard_connects (AtLink x ∷ h) c g k = unheard_connects h c g k
unheard_connects (Exchanged ∷ h) c g k = unheard_connects h c g k
unheard_connects (Got x ∷ h) c g k = not_none (given_in h) x g
unheard_connects (Put x ∷ h) c g k = unheard_connects h c g k
unheard_connects (Replied r ∷ h) c g k = elim (connects_last (replied_in h) r k) [
  | inl d ↦ unheard_connects h c.1 g d
  | inr e ↦ absurd (cc (sym g ∙ (subst (HasCause h) e c.0).heard.is))
]

-- an end that called close had made its connection
no_close_begins : (kind : PeerKind) (call : Call) (condition : Option (List ℕ)) → call ≡ CloseCall condition → Begins kind call → ⊥
no_close_begins Client call condition e b = subst (Begins Client) e b
no_close_begins Listener call condition e b = subst (Begins Listener) e b

close_connects : (kind : PeerKind) (calls : List (ℕ × Call)) (replied : List NamedReply) → BeginsIn kind calls → AreReplies calls replied → LastCloses calls → IsConnected replied
close_connects kind [] replied b r (name, condition, earlier, e) = absurd (cc e)
close_connects kind (first ∷ []) replied b r (name, condition, earlier, e) =
    let same : first ≡ (name, CloseCall condition) = cc e in
    absurd (no_close_begins kind first.1 condition (ap (λ (x : ℕ × Call). x.1) same) b)
close_connects kind (close ∷ first ∷ []) replied b (inl e) c = subst IsConnected (sym e) (inr (inl refl))
close_connects kind (close ∷ first ∷ []) replied b (inr (x, i, inl e)) c = subst IsConnected (sym e) (inr (inl refl))
close_connects kind (close ∷ first ∷ []) replied b (inr (x, i, inr e)) c = subst IsConnected (sym e) (inr (inl refl))
close_connects kind (call ∷ close ∷ first ∷ calls) replied b r c = absurd r

far_connects : (h far : List Local) → AreOpposite (made_in h) (made_in far) → IsAnswered far → LastCloses (made_in far) → IsConnected (replied_in far)
far_connects h far (inl o) a c = close_connects Listener (made_in far) (replied_in far) o.1 a.replies c
far_connects h far (inr o) a c = close_connects Client (made_in far) (replied_in far) o.1 a.replies c

none_of : (first others given : List Frame) → first ++ others ≡ [] → given ≡ map amqp_again first → given ≡ []
none_of [] others given e i = i
none_of (x ∷ first) others given e i = absurd (cc e)

-- so no end is over by its Close while the other waits in the exchange of headers
parted_not : (h far : List Local) (left far_left : List ℕ) → AreStill h far left far_left → sent_in h ≡ [] → EndsWithClose (sent_in far) → ⊥
parted_not h far left far_left a u c =
    let m = meets_back h far left far_left a in
    let k = hears far h m.left m.tied m.far_tied m.reads in
    let none : given_in far ≡ [] = none_of k.first k.others (given_in far) (sym k.split ∙ u) k.items in
    unheard_connects far a.far_answered.caused none (far_connects h far a.kinds a.far_answered (parted_called far none c a.far_said))

-- nor where the other rests behind the headers, having read all
closed_among : (h far : List Local) (left : List ℕ) → (r : RestsBehind h) → EndsWithClose (sent_in far) → IsAllOut far → IsTied far → left ≡ [] → read_in h ++ left ≡ wrote_in far → ⊥
closed_among h far left r c o t l e =
    r.unclosed (close_taken (given_in h) (sent_in far) c (all_taken h far r o t (sym (append-nil (read_in h)) ∙ ap (λ (u : List ℕ). read_in h ++ u) (sym l) ∙ e)))

-- ---- an open or accept

opening_headers : (h far : List Local) (left far_left : List ℕ) → AreStill h far left far_left → OpenWaits h → IsResting (layer_in (made_in h)) h → left ≡ [] → sent_in h ≡ [] → Stands far far_left → (made_in far ≡ []) ⊎ IsEnded h far
opening_headers h far left far_left a w r l u (uncalled m n) = inl m
opening_headers h far left far_left a w r l u (in_headers v s f) = absurd (headers_do_not_wait h far (quiet h far left far_left a l f) r (inl s))
opening_headers h far left far_left a w r l u (behind s c f) = absurd (headers_do_not_wait h far (quiet h far left far_left a l f) r (inr s))
opening_headers h far left far_left a w r l u (parted c o n) = absurd (parted_not h far left far_left a u c)
opening_headers h far left far_left a w r l u (refused s n) = far_refused h far a.far_answered s n
opening_headers h far left far_left a w r l u (broken b) = inr (failed (other b))
opening_headers h far left far_left a w r l u (vast v) = inr (failed (many (inr v)))

opening_behind : (h far : List Local) (left far_left : List ℕ) → AreStill h far left far_left → OpenWaits h → RestsBehind h → left ≡ [] → Stands far far_left → (made_in far ≡ []) ⊎ IsEnded h far
opening_behind h far left far_left a w r l (uncalled m n) = inl m
opening_behind h far left far_left a w r l (in_headers v s f) = absurd (openings_do_not_wait h far (quiet h far left far_left a l f) r w (inr s))
opening_behind h far left far_left a w r l (behind s c f) = absurd (openings_do_not_wait h far (quiet h far left far_left a l f) r w (inl s))
opening_behind h far left far_left a w r l (parted c o n) = absurd (closed_among h far left r c o a.far_tied l a.reads)
opening_behind h far left far_left a w r l (refused s n) = far_refused h far a.far_answered s n
opening_behind h far left far_left a w r l (broken b) = inr (failed (other b))
opening_behind h far left far_left a w r l (vast v) = inr (failed (many (inr v)))

uncalled_waits_not : (h : List Local) → made_in h ≡ [] → IsAnswered h → HasWaiting h → ⊥
uncalled_waits_not h m a (inl w) = absurd (cc (sym (subst (λ (cs : List (ℕ × Call)). AreReplies cs (replied_in h)) m a.replies) ∙ w.1))
uncalled_waits_not h m a (inr w) = absurd (cc (sym (subst (λ (cs : List (ℕ × Call)). AreReplies cs (replied_in h)) m a.replies) ∙ w.2))

resting_unsent : (c : Option SaslCall) (h : List Local) → IsResting c h → sent_in h ≡ []
resting_unsent None h r = r.unopened
resting_unsent (Some c) h r = r.unopened

opening_in : (h far : List Local) (left far_left : List ℕ) → AreStill h far left far_left → OpenWaits h → Stands h left → (made_in far ≡ []) ⊎ IsEnded h far
opening_in h far left far_left a w (uncalled m n) = absurd (uncalled_waits_not h m a.answered (inl w))
opening_in h far left far_left a w (in_headers v r l) = opening_headers h far left far_left a w r l (resting_unsent (layer_in (made_in h)) h r) a.far_stands
opening_in h far left far_left a w (behind r c l) = opening_behind h far left far_left a w r l a.far_stands
opening_in h far left far_left a w (parted c o n) = absurd (n (inl w))
opening_in h far left far_left a w (refused s n) = absurd (n (inl w))
opening_in h far left far_left a w (broken b) = inr (failed (own b))
opening_in h far left far_left a w (vast v) = inr (failed (many (inl v)))

-- ---- a close

header_inside : (head tail : List ℕ) → head ++ (amqp_header ++ tail) ≡ [] → ⊥
header_inside [] tail e = absurd (cc e)
header_inside (x ∷ head) tail e = absurd (cc e)

nothing_first : (first others given : List Frame) → first ++ others ≡ [] → given ≡ map amqp_again first → BeginsWithOpen given → ⊥
nothing_first [] others given e i o = absurd (cc (sym i ∙ o.is))
nothing_first (x ∷ first) others given e i o = absurd (cc e)

-- an end that has read the AMQP header has a peer that wrote
read_something : (h : List Local) (rest : List ℕ) → IsReadTo h rest → read_in h ≡ [] → ⊥
read_something h rest r e = header_inside r.head r.behind (sym r.read ∙ e)

heard_nothing : (h far : List Local) → Meets h far → sent_in far ≡ [] → BeginsWithOpen (given_in h) → ⊥
heard_nothing h far m s o =
    let k = hears h far m.left m.tied m.far_tied m.reads in
    nothing_first k.first k.others (given_in h) (sym k.split ∙ s) k.items o

closing_behind : (h far : List Local) (left far_left : List ℕ) → AreStill h far left far_left → CloseWaits h → RestsBehind h → BeginsWithOpen (given_in h) → left ≡ [] → Stands far far_left → HasFailed h far
closing_behind h far left far_left a w r g l (uncalled m n) =
    absurd (read_something h r.rest r.read (sym (append-nil (read_in h)) ∙ ap (λ (u : List ℕ). read_in h ++ u) (sym l) ∙ a.reads ∙ n))
closing_behind h far left far_left a w r g l (in_headers v s f) = absurd (closes_do_not_wait h far (quiet h far left far_left a l f) r w (inr s))
closing_behind h far left far_left a w r g l (behind s c f) = absurd (closes_do_not_wait h far (quiet h far left far_left a l f) r w (inl s))
closing_behind h far left far_left a w r g l (parted c o n) = absurd (closed_among h far left r c o a.far_tied l a.reads)
closing_behind h far left far_left a w r g l (refused s n) = absurd (heard_nothing h far (meets h far left far_left a) s g)
closing_behind h far left far_left a w r g l (broken b) = other b
closing_behind h far left far_left a w r g l (vast v) = many (inr v)

closing_in : (h far : List Local) (left far_left : List ℕ) → AreStill h far left far_left → CloseWaits h → Stands h left → HasFailed h far
closing_in h far left far_left a w (uncalled m n) = absurd (uncalled_waits_not h m a.answered (inr w))
closing_in h far left far_left a w (in_headers v r l) = absurd (cc (sym v.1 ∙ w.2))
closing_in h far left far_left a w (behind r c l) = closing_behind h far left far_left a w r (c w) l a.far_stands
closing_in h far left far_left a w (parted c o n) = absurd (n (inr w))
closing_in h far left far_left a w (refused s n) = absurd (n (inr w))
closing_in h far left far_left a w (broken b) = own b
closing_in h far left far_left a w (vast v) = many (inl v)

-- ---- the AMQP header

pub header_out : (h : List Local) → IsAllOut h → HasHeader h
header_out h o = record { head = o.queued.head; behind = bytes_of_all (sent_in h); layer = o.queued.layer; wrote = wrote_behind h o }

pub was_called : (calls : List (ℕ × Call)) → 1 ≤ length calls → calls ≡ [] → ⊥
was_called calls l e = omega (arith, l, ap length e)

-- it was refused before a frame of it was queued
abbrev pub IsTurnedDown : List Local → Type 0
IsTurnedDown h = (sent_in h ≡ []) × HasRefused h

pub refused_called : (h : List Local) → IsAnswered h → 1 ≤ length (made_in h) → sent_in h ≡ [] → (HasWaiting h → ⊥) → IsTurnedDown h
refused_called h a l s w = elim (refused_by (made_in h) (replied_in h) a.replies (unsent_connects h a.caused s) (λ n e. w (inl (n, e)))) [
  | inl n ↦ absurd (was_called (made_in h) l n)
  | inr r ↦ (s, r)
]

header_resting : (h far : List Local) (left far_left : List ℕ) → AreStill h far left far_left → IsResting (layer_in (made_in h)) h → left ≡ [] → sent_in h ≡ [] → 1 ≤ length (made_in far) → Stands far far_left → IsTurnedDown far ⊎ HasFailed h far
header_resting h far left far_left a r l u n (uncalled m w) = absurd (was_called (made_in far) n m)
header_resting h far left far_left a r l u n (in_headers v s f) = absurd (headers_do_not_wait h far (quiet h far left far_left a l f) r (inl s))
header_resting h far left far_left a r l u n (behind s c f) = absurd (headers_do_not_wait h far (quiet h far left far_left a l f) r (inr s))
header_resting h far left far_left a r l u n (parted c o w) = absurd (parted_not h far left far_left a u c)
header_resting h far left far_left a r l u n (refused s w) = inl (refused_called far a.far_answered n s w)
header_resting h far left far_left a r l u n (broken b) = inr (other b)
header_resting h far left far_left a r l u n (vast v) = inr (many (inr v))

header_in : (h far : List Local) (left far_left : List ℕ) → AreStill h far left far_left → 1 ≤ length (made_in h) → 1 ≤ length (made_in far) → Stands h left → HasHeader h ⊎ ((IsTurnedDown h ⊎ IsTurnedDown far) ⊎ HasFailed h far)
header_in h far left far_left a m n (uncalled e w) = absurd (was_called (made_in h) m e)
header_in h far left far_left a m n (in_headers v r l) = elim (header_resting h far left far_left a r l (resting_unsent (layer_in (made_in h)) h r) n a.far_stands) [
  | inl e ↦ inr (inl (inr e))
  | inr f ↦ inr (inr f)
]
header_in h far left far_left a m n (behind r c l) = inl (header_out h r.out)
header_in h far left far_left a m n (parted c o w) = inl (header_out h o)
header_in h far left far_left a m n (refused s w) = inr (inl (inl (refused_called h a.answered m s w)))
header_in h far left far_left a m n (broken b) = inr (inr (own b))
header_in h far left far_left a m n (vast v) = inr (inr (many (inl v)))

-- the same without what was queued
header_or : (h far : List Local) → HasHeader h ⊎ ((IsTurnedDown h ⊎ IsTurnedDown far) ⊎ HasFailed h far) → HasHeader h ⊎ ((HasRefused h ⊎ HasRefused far) ⊎ HasFailed h far)
header_or h far (inl k) = inl k
header_or h far (inr (inl (inl r))) = inr (inl (inl r.1))
header_or h far (inr (inl (inr r))) = inr (inl (inr r.1))
header_or h far (inr (inr f)) = inr (inr f)

pub wants : (h far : List Local) (left far_left : List ℕ) → AreStill h far left far_left → Wants h far
wants h far left far_left a = record {
  opening = λ w. opening_in h far left far_left a w a.stands;
  closing = λ w. closing_in h far left far_left a w a.stands;
  header = λ m n. header_or h far (header_in h far left far_left a m n a.stands);
}
