-- Why a receiver gives nothing: of what its peer has said, only as nothing waits any more.
use Rattle.std.specs.Prelude.{◌≡◌, ℕ, nat_lt, Bool, true, false, not, ◌&&◌, List, [], ◌∷◌, ◌++◌, Option, Some, None, Result, Err, if◌then◌else◌}
use Rattle.std.proofs.Common.{subst}
use Rattle.amqp_link.specs.declared.error.LinkStateError.{LinkStateError}
use Rattle.amqp_link.specs.declared.error.LinkStateError.TheVariants.{IllegalState}
use Rattle.amqp_link.specs.Link as link
use Rattle.amqp_parts.specs.declared.incomplete.PartError.{PartError}
use Rattle.amqp_parts.specs.declared.incomplete.PartError.TheVariants as part
use Rattle.amqp_parts.specs.Join as join
use Rattle.amqp_performatives.specs.declared.transfer.Transfer.{Transfer}
use Rattle.amqp_receiver.specs.declared.error.RecvError.{RecvError}
use Rattle.amqp_receiver.specs.declared.error.RecvError.TheVariants as error
use Rattle.amqp_receiver.specs.declared.receiver.Incoming.{Incoming}
use Rattle.amqp_receiver.specs.Receiver.{State}
use Rattle.amqp_receiver.specs.Receiving.{Got, Step, goes, fails, closes, forgotten, aborted_at, given_if, complete, buffered, stated, entered, settled_if, started_unless, joined_to, without_state, total, too_large, is_stray_state, is_too_large, belongs, taken_whole, taken, next, receiving, ended_as, ended, received}
use Rattle.amqp_receiver.specs.Receiving as receiver
use Rattle.amqp_termini.specs.declared.state.DeliveryState.{DeliveryState}
use Rattle.link_answers.specs.Standing.{Given, Written, StateFails}
use Rattle.link_answers.specs.Keeping.{LinkStands}
use Rattle.link_answers.proofs.Answers.{RefusalStands, ended_by_stands}
use Rattle.link_answers.proofs.Links.{under, Turn}
use Rattle.link_answers.proofs.Receivers.{receiving_goes}
use Rattle.link_answers.proofs.Sides.{steps}

-- ---- a Transfer that is taken tells nothing of how the link was left

abbrev IsApart : Option (Result Got RecvError) → Type 0
IsApart (Some (Err (error.LinkStateError e))) = ⊥
IsApart other = Unit {0}

aborted_if : (c : Bool) (tag : Option (List ℕ)) (s : State) → IsApart (if c then goes (forgotten tag (record s { buffer = None })) else closes error.InconsistentFieldInMultiFrameDelivery s).answer
aborted_if true tag s = tt
aborted_if false tag s = tt

aborted_apart : (o : Option join.Incomplete) (x : Transfer) (s : State) → IsApart (aborted_at o x s).answer
aborted_apart None x s = tt
aborted_apart (Some d) x s = aborted_if (join.is_same_delivery d.transfer x) d.transfer.delivery_tag s

given_apart : (c : Bool) (x : Transfer) (payloads : List (List ℕ)) (s : State) → IsApart (given_if c x payloads s).answer
given_apart true x payloads s = tt
given_apart false x payloads s = tt

complete_if : (c e : Bool) (d : join.Incomplete) (s t : State) → IsApart (if c then fails error.IllegalRcvSettleModeInTransfer (forgotten d.transfer.delivery_tag s) else given_if e d.transfer d.payloads t).answer
complete_if true e d s t = tt
complete_if false e d s t = given_apart e d.transfer d.payloads t

complete_apart : (d : join.Incomplete) (s : State) → IsApart (complete d s).answer
complete_apart d s = complete_if _ (nat_lt 0 s.book.credit) d s _

buffered_if : (c : Bool) (d : join.Incomplete) (s : State) → IsApart (if c then goes (record s { buffer = Some d }) else complete d s).answer
buffered_if true d s = tt
buffered_if false d s = complete_apart d s

buffered_apart : (d : join.Incomplete) (s : State) → IsApart (buffered d s).answer
buffered_apart d s = buffered_if d.transfer.more d s

started_apart : (o : Option PartError) (state : Option DeliveryState) (x : Transfer) (payload : List ℕ) (s : State) → IsApart (started_unless o state x payload s).answer
started_apart (Some part.DeliveryTagIsNone) state x payload s = tt
started_apart None state x payload s = buffered_apart (join.begun x payload) (stated state x (entered x s))
started_apart (Some other) state x payload s = tt

continued_if : (c : Bool) (d : join.Incomplete) (state : Option DeliveryState) (s : State)
    → IsApart (if c then buffered d (stated state d.transfer (settled_if d.transfer (record s { buffer = None }))) else closes error.InconsistentFieldInMultiFrameDelivery s).answer
continued_if true d state s = buffered_apart d _
continued_if false d state s = tt

joined_apart : (o : Option join.Incomplete) (state : Option DeliveryState) (x : Transfer) (payload : List ℕ) (s : State) → IsApart (joined_to o state x payload s).answer
joined_apart None state x payload s = started_apart (join.lacks x.delivery_id x.delivery_tag) state x payload s
joined_apart (Some d) state x payload s = continued_if (join.agrees d.transfer x) (join.appended d x payload) state s

whole_if : (c d : Bool) (size : ℕ) (x : Transfer) (payload : List ℕ) (s : State) → IsApart (if c then closes error.DeliveryTagIsNone s else (if d then too_large size s else receiver.joined x payload s)).answer
whole_if true d size x payload s = tt
whole_if false true size x payload s = tt
whole_if false false size x payload s = joined_apart s.buffer x.state (without_state x) payload s

taken_if : (c d : Bool) (x : Transfer) (payload : List ℕ) (s : State) → IsApart (if c then aborted_at s.buffer x s else (if d then goes s else taken_whole x payload s)).answer
taken_if true d x payload s = aborted_apart s.buffer x s
taken_if false true x payload s = tt
taken_if false false x payload s = whole_if (is_stray_state x s) (is_too_large (total x payload s) s.link.max_message_size) (total x payload s) x payload s

taken_apart : (x : Transfer) (payload : List ℕ) (s : State) → IsApart (taken x payload s).answer
unfolding taken
taken_apart x payload s = taken_if x.aborted (x.resume && not (belongs s.buffer x)) x payload s

next_apart : (o : Option (Result Got RecvError)) (t : State) (go : State → Step) → IsApart o → ((u : State) → IsApart (go u).answer) → IsApart (next o t go).answer
next_apart None t go k f = f t
next_apart (Some x) t go k f = k

receiving_apart : (xs : List Incoming) (s : State) → IsApart (receiving xs s).answer
receiving_apart [] s = tt
receiving_apart (x ∷ xs) s =
    let t = taken x.transfer x.payload (record s { incoming = xs }) in
    next_apart t.answer t.state (λ u. receiving xs u) (taken_apart x.transfer x.payload (record s { incoming = xs })) (λ u. receiving_apart xs u)

-- ---- nothing waits

module _ (g : Given) (n : ℕ) where
  ended_fails : (o : Option LinkStateError) (s : State) (e : LinkStateError) → RefusalStands g n o → (ended_as o s).answer ≡ Some (Err (error.LinkStateError e)) → StateFails g n e
  ended_fails None s e k h = absurd cc
  ended_fails (Some x) s e k h = (let same : x ≡ e = cc in subst (StateFails g n) same k)

  next_fails : (o : Option (Result Got RecvError)) (t : State) (e : LinkStateError) → IsApart o → RefusalStands g n (link.ended_by t.link.remote t.link.stop_reason) → (next o t ended).answer ≡ Some (Err (error.LinkStateError e)) → StateFails g n e
  next_fails None t e a k h = ended_fails (link.ended_by t.link.remote t.link.stop_reason) t e k h
  next_fails (Some x) t e a k h = absurd (subst IsApart h a)

  received_if : (c : Bool) (s : State) (e : LinkStateError) → RefusalStands g n (link.ended_by (receiving s.incoming s).state.link.remote (receiving s.incoming s).state.link.stop_reason)
      → (if c then fails (error.LinkStateError IllegalState) s else (let t = receiving s.incoming s in next t.answer t.state ended)).answer ≡ Some (Err (error.LinkStateError e)) → StateFails g n e
  received_if true s e k h = (let same : IllegalState ≡ e = cc in subst (StateFails g n) same tt)
  received_if false s e k h = (let t = receiving s.incoming s in next_fails t.answer t.state e (receiving_apart s.incoming s) k h)

  -- that the peer has left the link is told only where its Detach says so
  pub received_fails : (w : List Written) (s : State) (e : LinkStateError) → LinkStands g w n s.link → (received s).answer ≡ Some (Err (error.LinkStateError e)) → StateFails g n e
  received_fails w s e k h =
      let a = (receiving_goes (Turn g n 0) (steps g n 0) s.incoming s).keeps in
      received_if s.link.is_closed s e (ended_by_stands g n (w ++ under n 0 a.more) (receiving s.incoming s).state.link (a.stands w k)) h
