-- Both ends have closed the connection, where a close was answered by `closed`.
use Rattle.std.proofs.Common.{◌≡◌, ◌⊎◌, inl, inr, ℕ, Bool, List, [], ◌∷◌, ◌++◌, Option, None, refl, sym, ap, ◌∙◌, subst, append_assoc}
use Rattle.std.proofs.lemmas.List.{append-nil}
use Rattle.amqp_composites.specs.declared.error.Error.{Error as AmqpError}
use Rattle.amqp_frames.specs.declared.body.FrameBody.{FrameBody}
use Rattle.amqp_frames.specs.declared.body.FrameBody.TheVariants as b
use Rattle.amqp_wire.specs.declared.link.Held.TheVariants.{Full}
use Rattle.amqp_wire.specs.Events.{LinkEvent, NotWritten, Includes, wrote_of}
use Rattle.amqp_wire.proofs.Events.{includes_right, wrote_of-append}
use Rattle.amqp_transport.specs.declared.frames.Frame.{Frame}
use Rattle.amqp_engine.specs.Closers.{Closer, This, Peer, closer_by}
use Rattle.amqp_engine.specs.Phases.{kind_of, IsClose}
use Rattle.amqp_engine.specs.Sentence.{bytes_of_all}
use Rattle.amqp_engine.specs.State.{close_frame}
use Rattle.amqp_opening.specs.Opening.{amqp_header}
use Rattle.amqp_words.specs.declared.call.Call.TheVariants.{Close}
use Rattle.amqp_words.specs.declared.reply.NamedReply.{NamedReply}
use Rattle.amqp_words.specs.declared.reply.Reply.TheVariants as answer
use Rattle.amqp_peer.specs.Causes.{IsLayerWritten, IsTail, IsOut, IsParted, AllCaused, has_layer, prepared_in}
use Rattle.amqp_peer.specs.Closers.{closer_in}
use Rattle.amqp_peer.specs.History.{Local, Made, Polled, AtLink, Exchanged, Got, Put, Replied, made_in, link_in, given_in, sent_in, replied_in, wrote_in}
use Rattle.amqp_peer.specs.Prepared.{error_for}
use Rattle.amqp_peer.specs.Replies.{AreReplies}
use Rattle.amqp_peer.specs.Said.{IsPlain, HasStray, CloseCause, called, answers, mistaken, rejected, HasSaid}
use Rattle.amqp_peer.proofs.Histories.{made_in-append, given_in-append, sent_in-append, replied_in-append}
use Rattle.amqp_peer.proofs.Laws.{link_in-append}
use Rattle.amqp_session_world.specs.Carried.{KeepsPromises}
use Rattle.amqp_session_world.specs.Answers.{IsCausedIn}
use Rattle.served_connection.specs.ServeLaws.Closes.{HasWrittenAll, IsClosedByBoth}
use Rattle.served_connection.proofs.ServeLaws.Calls.{HasCall, close_called, layer_same, pending_called}
use Rattle.served_connection.proofs.ServeLaws.Closes.{read_to}
use Rattle.served_connection.proofs.ServeLaws.Frames.{some_left, plain_unclosed, none_closed, close_last}
use Rattle.served_connection.proofs.ServeLaws.Replies.{IsFirst, replies_first}

-- ---- this end's Close came first

closer_this : (who : Closer) (body : FrameBody) (c : Closer) → c ≡ This → closer_by who body c ≡ This
closer_this who (b.Open x) c e = e
closer_this who (b.Close x) c e = ap (λ (z : Closer). closer_by who (b.Close x) z) e
closer_this who b.Empty c e = e
closer_this who (b.Begin x) c e = e
closer_this who (b.Attach x) c e = e
closer_this who (b.Flow x) c e = e
closer_this who (b.Transfer x y) c e = e
closer_this who (b.Disposition x) c e = e
closer_this who (b.Detach x) c e = e
closer_this who (b.End x) c e = e

closer_stays : (es h : List Local) → closer_in h ≡ This → closer_in (es ++ h) ≡ This
closer_stays [] h e = e
closer_stays (Made at name c ∷ es) h e = closer_stays es h e
closer_stays (Polled at ∷ es) h e = closer_stays es h e
closer_stays (AtLink x ∷ es) h e = closer_stays es h e
closer_stays (Exchanged ∷ es) h e = closer_stays es h e
closer_stays (Got x ∷ es) h e = closer_this Peer x.body (closer_in (es ++ h)) (closer_stays es h e)
closer_stays (Put x ∷ es) h e = closer_this This x.body (closer_in (es ++ h)) (closer_stays es h e)
closer_stays (Replied r ∷ es) h e = closer_stays es h e

-- ---- the Close that was queued

-- what was said ends with it
pub record Closes (h : List Local) (front later : List Frame) : Type 0 where
  pub error : Option AmqpError
  pub plain : IsPlain (prepared_in (made_in h)) front
  pub is : sent_in h ≡ front ++ close_frame error ∷ []
  pub cause : CloseCause (made_in h) (given_in h) error
  pub none : later ≡ []

said_closes : (h : List Local) (front : List Frame) (x : Frame) (later : List Frame) → IsClose (kind_of x.body) → HasSaid h → front ++ x ∷ later ≡ sent_in h → Closes h front later
said_closes h front x later c (inl e) s = absurd (some_left front x later (s ∙ e))
said_closes h front x later c (inr (inl p)) s = absurd (none_closed front x later (sent_in h) c s (plain_unclosed (prepared_in (made_in h)) (sent_in h) p))
said_closes h front x later c (inr (inr y)) s =
    let k = close_last front x later y.0 (close_frame y.1) c (plain_unclosed (prepared_in (made_in h)) y.0 y.2) (s ∙ y.3) in
    record {
      error = y.1;
      plain = subst (λ (u : List Frame). IsPlain (prepared_in (made_in h)) u) (sym k.same_front) y.2;
      is = y.3 ∙ ap (λ (u : List Frame). u ++ close_frame y.1 ∷ []) (sym k.same_front);
      cause = y.4;
      none = k.none;
    }

cause_plain : (h : List Local) (name : ℕ) (p : List Frame) (error : Option AmqpError) → AreReplies (made_in h) (replied_in h) → IsPlain (prepared_in (made_in h)) p → HasCall name (Close None) (made_in h) → CloseCause (made_in h) (given_in h) error → (error ≡ None) ⊎ HasStray (given_in h)
cause_plain h name p error r k c (called m condition earlier e f) =
    let none : condition ≡ None = close_called (made_in h) (replied_in h) k.own name m None condition earlier r k.is_own c e in
    inl (f ∙ ap (λ (x : Option (List ℕ)). error_for x) none)
cause_plain h name p error r k c (answers x e) = inl e
cause_plain h name p error r k c (mistaken x e) = inl e
cause_plain h name p error r k c (rejected why s e) = inr s.it

-- ---- what was written

some_replies : (later earlier : List Local) (r : NamedReply) (rs : List NamedReply) → replied_in earlier ≡ rs → r.reply ≡ answer.Closed → AreReplies (made_in (later ++ Replied r ∷ earlier)) ((rs ++ r ∷ []) ++ replied_in later) → AllCaused earlier → made_in earlier ≡ [] → ⊥
some_replies later earlier r [] e closed k a n = not_first r (replied_in later) closed (replies_first (made_in (later ++ Replied r ∷ earlier)) r (replied_in later) k)
  where
    not_first : (r : NamedReply) (rest : List NamedReply) → r.reply ≡ answer.Closed → IsFirst r rest → ⊥
    not_first r rest e (inl f) = cc
    not_first r rest e (inr (x, f, none)) = cc
some_replies later earlier r (x ∷ rs) e closed k a n =
    waits earlier x rs r (replied_in later) e a n (replies_first (made_in (later ++ Replied r ∷ earlier)) x ((rs ++ r ∷ []) ++ replied_in later) k)
  where
    waits : (earlier : List Local) (x : NamedReply) (rs : List NamedReply) (r : NamedReply) (more : List NamedReply) → replied_in earlier ≡ x ∷ rs → AllCaused earlier → made_in earlier ≡ [] → IsFirst x ((rs ++ r ∷ []) ++ more) → ⊥
    waits earlier x rs r more e a n (inl f) = pending_called earlier x rs a e f n
    waits earlier x rs r more e a n (inr (y, f, none)) = some_left rs r more (sym (append_assoc rs (r ∷ []) more) ∙ none)

written_tail : (sent : List Frame) (tail : List ℕ) → (sent ≡ [] → ⊥) → IsTail sent tail → tail ≡ amqp_header ++ bytes_of_all sent
written_tail sent tail n (inl k) = absurd (n k.0)
written_tail sent tail n (inr e) = e

-- what a history wrote before, and then
wrote_then : (es h : List Local) → wrote_in (es ++ h) ≡ wrote_in h ++ wrote_in es
wrote_then es h = ap wrote_of (link_in-append es h) ∙ wrote_of-append (link_in es) (link_in h)

all_written : (es earlier : List Local) (o : IsOut earlier) → o.queued.out ≡ [] → (sent_in earlier ≡ [] → ⊥) → sent_in (es ++ earlier) ≡ sent_in earlier → has_layer (made_in (es ++ earlier)) ≡ has_layer (made_in earlier) → HasWrittenAll (es ++ earlier)
all_written es earlier o e n s l =
    let q = o.queued in
    let tail = written_tail (sent_in earlier) q.tail n q.talk in
    record {
      head = q.head;
      more = wrote_in es;
      layer = subst (λ (z : Bool). IsLayerWritten z q.head) (sym l) q.layer;
      wrote = wrote_then es earlier
          ∙ ap (λ (u : List ℕ). u ++ wrote_in es)
          (sym (append-nil (wrote_in earlier)) ∙ ap (λ (u : List ℕ). wrote_in earlier ++ u) (sym e) ∙ q.wrote ∙ ap (λ (u : List ℕ). q.head ++ u) tail ∙ ap (λ (u : List Frame). q.head ++ (amqp_header ++ bytes_of_all u)) (sym s));
    }

out_or_full : (es earlier : List Local) (o : IsOut earlier) → (sent_in earlier ≡ [] → ⊥) → sent_in (es ++ earlier) ≡ sent_in earlier → has_layer (made_in (es ++ earlier)) ≡ has_layer (made_in earlier) → Includes (link_in (es ++ earlier)) (NotWritten Full) ⊎ HasWrittenAll (es ++ earlier)
out_or_full es earlier o n s l = by es earlier o o.all n s l
  where
    by : (es earlier : List Local) (o : IsOut earlier) → Includes (link_in earlier) (NotWritten Full) ⊎ (o.queued.out ≡ []) → (sent_in earlier ≡ [] → ⊥) → sent_in (es ++ earlier) ≡ sent_in earlier → has_layer (made_in (es ++ earlier)) ≡ has_layer (made_in earlier) → Includes (link_in (es ++ earlier)) (NotWritten Full) ⊎ HasWrittenAll (es ++ earlier)
    by es earlier o (inl i) n s l = inl (subst (λ (u : List LinkEvent). Includes u (NotWritten Full)) (sym (link_in-append es earlier)) (includes_right (link_in es) (link_in earlier) (NotWritten Full) i))
    by es earlier o (inr e) n s l = inr (all_written es earlier o e n s l)

-- ---- both

-- the cause of `closed`, in what happened before it
closed_before : (later earlier : List Local) (r : NamedReply) (name : ℕ) → r.reply ≡ answer.Closed → IsParted earlier → KeepsPromises (later ++ Replied r ∷ earlier) → AllCaused earlier → HasCall name (Close None) (made_in (later ++ Replied r ∷ earlier)) → IsClosedByBoth (later ++ Replied r ∷ earlier)
closed_before later earlier r name closed k v a c =
    let g : List Local = Replied r ∷ earlier in
    let h : List Local = later ++ g in
    let own = k.said in
    let x : Frame = record { channel = own.channel; body = b.Close own.last } in
    let y : Frame = record { channel = k.heard.channel; body = b.Close (record { error = None }) } in
    let sent : own.front ++ x ∷ sent_in later ≡ sent_in h = sym (sent_in-append later g ∙ ap (λ (u : List Frame). u ++ sent_in later) own.is ∙ append_assoc own.front (x ∷ []) (sent_in later)) in
    let given : given_in h ≡ k.heard.front ++ y ∷ given_in later = given_in-append later g ∙ ap (λ (u : List Frame). u ++ given_in later) k.heard.is ∙ append_assoc k.heard.front (y ∷ []) (given_in later) in
    let s = said_closes h own.front x (sent_in later) tt v.says sent in
    let to = read_to h v.frames (λ n. some_left k.heard.front y (given_in later) (sym given ∙ n)) in
    let same : sent_in h ≡ sent_in g = sent_in-append later g ∙ ap (λ (u : List Frame). sent_in g ++ u) s.none ∙ append-nil (sent_in g) in
    let replies : AreReplies (made_in h) ((replied_in earlier ++ r ∷ []) ++ replied_in later) = subst (λ (u : List NamedReply). AreReplies (made_in h) u) (replied_in-append later g) v.replies in
    let calls : made_in earlier ≡ [] → ⊥ = some_replies later earlier r (replied_in earlier) refl closed replies a in
    let layer : has_layer (made_in h) ≡ has_layer (made_in g) = ap has_layer (made_in-append later g) ∙ layer_same (made_in later) (made_in g) calls in
    let o : IsOut g = record { queued = record { head = k.out.queued.head; tail = k.out.queued.tail; out = k.out.queued.out; wrote = k.out.queued.wrote; layer = k.out.queued.layer; talk = k.out.queued.talk }; all = k.out.all } in
    record {
      front = own.front;
      error = s.error;
      said = s.is;
      why = s.cause;
      plain = cause_plain h name own.front s.error v.replies s.plain c s.cause;
      out = out_or_full later g o (λ n. some_left own.front x [] (sym own.is ∙ n)) same layer;
      rest = to.0;
      read = to.1;
      heard = record { front = k.heard.front; channel = k.heard.channel; more = given_in later; is = given };
      first = closer_stays later g k.first;
    }

all_before : (es h : List Local) → AllCaused (es ++ h) → AllCaused h
all_before [] h a = a
all_before (Made at name c ∷ es) h a = all_before es h a
all_before (Polled at ∷ es) h a = all_before es h a
all_before (AtLink x ∷ es) h a = all_before es h a
all_before (Exchanged ∷ es) h a = all_before es h a
all_before (Got x ∷ es) h a = all_before es h a
all_before (Put x ∷ es) h a = all_before es h a
all_before (Replied r ∷ es) h a = all_before es h a.1

pub closed_by_both : (h : List Local) (name close : ℕ) → KeepsPromises h → IsCausedIn h (record { name = name; reply = answer.Closed }) → HasCall close (Close None) (made_in h) → IsClosedByBoth h
closed_by_both h name close v k c =
    let r : NamedReply = record { name = name; reply = answer.Closed } in
    let g : List Local = k.later ++ Replied r ∷ k.earlier in
    let here = subst (λ (u : List Local). KeepsPromises u) k.split v in
    subst (λ (u : List Local). IsClosedByBoth u) (sym k.split)
    (closed_before k.later k.earlier r close refl k.cause here (all_before k.later (Replied r ∷ k.earlier) here.causes).1 (subst (λ (u : List Local). HasCall close (Close None) (made_in u)) k.split c))
