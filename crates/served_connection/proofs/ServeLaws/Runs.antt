-- What stands in the bytes of a run that served a connection, and of one that sent messages.
use Rattle.std.proofs.Common.{◌≡◌, ℕ, zero, suc, None, List, [], ◌++◌, sym, ap, ◌∙◌, subst, append_assoc}
use Rattle.std.proofs.lemmas.List.{append-nil}
use Rattle.amqp_wire.specs.declared.link.Link.{Ghosts}
use Rattle.amqp_words.specs.declared.call.Call.{Call as ConnectionCall}
use Rattle.amqp_words.specs.declared.call.Call.TheVariants.{Close}
use Rattle.amqp_words.specs.declared.reply.Reply.TheVariants as answer
use Rattle.amqp_calls.specs.declared.reply.NamedReply.{NamedReply}
use Rattle.amqp_calls.specs.declared.reply.Reply.{Reply}
use Rattle.amqp_calls.specs.declared.reply.Reply.TheVariants.{Connection}
use Rattle.amqp_link_words.specs.declared.link_call.Sendable.{Sendable}
use Rattle.amqp_peer.specs.declared.peer.PeerKind.{PeerKind}
use Rattle.amqp_end.specs.declared.end.End.{End}
use Rattle.amqp_session_world.specs.Lives.{Life, unlived}
use Rattle.amqp_serve.specs.Answers.{HasAnswer}
use Rattle.amqp_serve.specs.Endings.{WasServed}
use Rattle.amqp_serve.specs.Ran.{Turn, Ran, told, SentAll, Left, ConnectedWith, Connected}
use Rattle.amqp_serve.proofs.Runs.{told_append, has_behind}
use Rattle.served_connection.specs.ServeLaws.History.{IsFresh, Lived, called, life_of}
use Rattle.served_connection.specs.ServeLaws.Closes.{IsClosedByBoth}
use Rattle.served_connection.specs.ServeLaws.Runs.{served_life, ServedFrames, turns_by, life_by, sent_turns, sent_life, left_life, SentFrames, ConnectedFrames, LeftFrames}
use Rattle.served_connection.proofs.ServeLaws.Calls.{HasCall, makes_called, called_then, call_before}
use Rattle.served_connection.proofs.ServeLaws.Closes.{closed_by_peer}
use Rattle.served_connection.proofs.ServeLaws.History.{lives_go, lives_begin}
use Rattle.served_connection.proofs.ServeLaws.Left.{closed_by_both}
use Rattle.served_connection.proofs.ServeLaws.Replies.{answer_caused, closing_is}

-- ---- from the start

-- turns of an end on which nothing was done before
lives_from : {L : Type 0} (link : Ghosts L) (first : L) (kind : PeerKind) (old new : End L) (ts : List Turn) (ran : Ran link old ts new) → IsFresh first kind old → Lived link first (called ts) (told ts) new (life_of link old ts new ran unlived)
lives_from link first kind old new ts ran f =
    subst (λ (cs : List (ℕ × ConnectionCall)). Lived link first cs (told ts) new (life_of link old ts new ran unlived)) (append-nil (called ts)) (lives_go link first [] [] old new ts unlived ran (lives_begin link first kind old f))

pub served_run : {L : Type 0} (link : Ghosts L) (first : L) (kind : PeerKind) (old new : End L) (count : ℕ) (served : WasServed link old new count) → IsFresh first kind old → ServedFrames link first old new count served
served_run link first kind old new count served f =
    let v = lives_from link first kind old new served.turns served.ran f in
    record { lived = v; closed = closed_by_peer new.connection (served_life link old new count served).h v.serves.has v.promises.frames served.closed }

-- ---- messages, one after another

both_called : (us ts : List Turn) (cs : List (ℕ × ConnectionCall)) → called us ++ (called ts ++ cs) ≡ called (us ++ ts) ++ cs
both_called us ts cs = sym (append_assoc (called us) (called ts) cs) ∙ ap (λ (u : List (ℕ × ConnectionCall)). u ++ cs) (sym (called_then us ts))

both_told : (us ts : List Turn) (answers : List NamedReply) → (answers ++ told ts) ++ told us ≡ answers ++ told (us ++ ts)
both_told us ts answers = append_assoc answers (told ts) (told us) ∙ ap (λ (u : List NamedReply). answers ++ u) (sym (told_append us ts))

pub sent_lives : {L : Type 0} (link : Ghosts L) (first : L) (cs : List (ℕ × ConnectionCall)) (answers : List NamedReply) (old : End L) (sender : ℕ) (message : Sendable) (count : ℕ) (new : End L) (s : SentAll link old sender message count new) (l : Life)
    → Lived link first cs answers old l → Lived link first (called (turns_by link old sender message count new s) ++ cs) (answers ++ told (turns_by link old sender message count new s)) new (life_by link old sender message count new s l)
unfolding SentAll
sent_lives link first cs answers old sender message zero new s l v = lives_go link first cs answers old new s.turns l s.ran v
sent_lives link first cs answers old sender message (suc n) new s l v =
    let ts = turns_by link old sender message n s.0 s.2 in
    let life = life_by link old sender message n s.0 s.2 l in
    let last = life_of link s.0 s.3.turns new s.3.ran life in
    let k = lives_go link first (called ts ++ cs) (answers ++ told ts) s.0 new s.3.turns life s.3.ran (sent_lives link first cs answers old sender message n s.0 s.2 l v) in
    subst (λ (u : List (ℕ × ConnectionCall)). Lived link first u (answers ++ told (s.3.turns ++ ts)) new last) (both_called s.3.turns ts cs)
    (subst (λ (u : List NamedReply). Lived link first (called s.3.turns ++ (called ts ++ cs)) u new last) (both_told s.3.turns ts answers) k)

-- ---- the close

left_both : {L : Type 0} (link : Ghosts L) (first : L) (cs : List (ℕ × ConnectionCall)) (answers : List NamedReply) (old new : End L) (left : Left link old new) (l : Life) → Lived link first (called left.turns ++ cs) (answers ++ told left.turns) new l → IsClosedByBoth l.h
left_both link first cs answers old new left l v =
    let here : HasAnswer left.name (Connection answer.Closed) (answers ++ told left.turns) = has_behind left.name (Connection answer.Closed) answers (told left.turns) (subst (λ (r : Reply). HasAnswer left.name r (told left.turns)) (closing_is left.reply left.closed) left.answered) in
    closed_by_both l.h left.name left.name v.promises (answer_caused link first (called left.turns ++ cs) (answers ++ told left.turns) new l left.name answer.Closed v here)
    (subst (λ (u : List (ℕ × ConnectionCall)). HasCall left.name (Close None) u) (sym v.calls_are) (call_before left.name (Close None) (called left.turns) cs (makes_called left.name (Close None) left.turns left.closes)))

pub sent_run : {L : Type 0} (link : Ghosts L) (first : L) (kind : PeerKind) (old new : End L) (message : Sendable) (count : ℕ) (c : ConnectedWith link old new message count) → IsFresh first kind old → SentFrames link first old new message count c
sent_run link first kind old new message count c f =
    let ts = sent_turns link old new message count c in
    let life = sent_life link old new message count c in
    let start = sent_lives link first [] [] old c.sender message count c.between c.sent unlived (lives_begin link first kind old f) in
    let before = subst (λ (cs : List (ℕ × ConnectionCall)). Lived link first cs (told ts) c.between life) (append-nil (called ts)) start in
    let v = lives_go link first (called ts) (told ts) c.between new c.left.turns life c.left.ran before in
    record { before = before; lived = v; closed = left_both link first (called ts) (told ts) c.between new c.left (left_life link old new message count c) v }

pub connected_run : {L : Type 0} (link : Ghosts L) (first : L) (kind : PeerKind) (old new : End L) (text : List ℕ) (count : ℕ) (connected : Connected link old new text count) → IsFresh first kind old → ConnectedFrames link first old new text count connected
connected_run link first kind old new text count connected f = sent_run link first kind old new connected.message count connected.connected f

pub left_run : {L : Type 0} (link : Ghosts L) (first : L) (kind : PeerKind) (old between new : End L) (turns : List Turn) (ran : Ran link old turns between) (left : Left link between new) → IsFresh first kind old → LeftFrames link first old between new turns ran left
left_run link first kind old between new turns ran left f =
    let life = life_of link old turns between ran unlived in
    let before = lives_from link first kind old between turns ran f in
    let v = lives_go link first (called turns) (told turns) between new left.turns life left.ran before in
    record { before = before; lived = v; closed = left_both link first (called turns) (told turns) between new left (life_of link between left.turns new left.ran life) v }
