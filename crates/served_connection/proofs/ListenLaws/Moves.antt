-- What else a receiver does ends no more deliveries.
use Rattle.std.specs.Prelude.{◌≡◌, ◌≤◌, ◌+◌, ℕ, Bool, List, [], ◌∷◌, ◌++◌, Option, Some, None, Result, Ok, Err, refl}
use Rattle.std.proofs.Common.{ap, arith}
use Rattle.amqp_performatives.specs.declared.transfer.Transfer.{Transfer}
use Rattle.amqp_parts.specs.declared.part.Part.{Part}
use Rattle.amqp_delivery.specs.declared.info.DeliveryInfo.{DeliveryInfo}
use Rattle.amqp_link.specs.declared.endpoint.LinkPhase.{LinkPhase}
use Rattle.amqp_link.specs.declared.endpoint.LinkPhase.TheVariants as phase
use Rattle.amqp_link_words.specs.declared.link_reply.LinkReply.{LinkReply}
use Rattle.amqp_link_words.specs.declared.link_reply.LinkReply.TheVariants as reply
use Rattle.amqp_link_calls.specs.Calling.{having_told, having_received, TellsReceived, Receives}
use Rattle.amqp_link_calls.specs.Side.{Side, Sender, Receiver}
use Rattle.amqp_receiver.specs.declared.error.RecvError.{RecvError}
use Rattle.amqp_receiver.specs.AutoAccept.{auto_accepted}
use Rattle.amqp_receiver.specs.Receiver.{State, opened_if, transfer_in}
use Rattle.amqp_receiver.specs.Receiving.{Got, received}
use Rattle.session_laws.specs.Receiving.{Move, receives, hears_transfer, given_behind, after, after_all, read_by, read}
use Rattle.link_lives.specs.Lives.{Event, Lives}
use Rattle.served_connection.specs.ListenLaws.Ended.{end_of}
use Rattle.served_connection.proofs.ListenLaws.Totals.{total, total_nil, total_cons, total_push, total_append}
use Rattle.served_connection.proofs.ListenLaws.Weights.{of_waiting, of_receiver, of_part, of_side, is_given}
use Rattle.served_connection.proofs.ListenLaws.Receivers.{gave, received_falls}
use Rattle.served_connection.proofs.ListenLaws.Stays.{Stays, accept_stays, behind_stays, opens_stays, IsBeside, move_stays}

-- a message that is given is accepted, where that is to be done at once
auto_same : (info : DeliveryInfo) (s : State) → (auto_accepted info s).incoming ≡ s.incoming
auto_same info s = (accept_stays s.auto_accept info s).incoming

pub opens_same : (b : Bool) (count : Option ℕ) (s t : State) → Stays s t → (opened_if b count t).incoming ≡ s.incoming
opens_same b count s t h = (opens_stays b count s t h).incoming

-- ---- a move

-- so many more may end
abbrev Falls : State → ℕ → State → Type 0
Falls s n t = of_receiver t ≤ of_receiver s + n

falls_same : (s t : State) (n : ℕ) → t.incoming ≡ s.incoming → Falls s n t
falls_same s t n h = let e : of_receiver t ≡ of_receiver s = ap (total of_waiting) h in omega (arith, e)

transfer_falls : (p : LinkPhase) (x : Transfer) (payload : List ℕ) (s : State) → Falls s (end_of x) (transfer_in p x payload s)
transfer_falls phase.Attached x payload s =
    let more : total of_waiting (s.incoming ++ record { transfer = x; payload = payload } ∷ []) ≡ of_receiver s + end_of x = total_push of_waiting s.incoming (record { transfer = x; payload = payload }) in
    omega (arith, more)
transfer_falls p x payload s = omega arith

receives_falls : (spells : Bool) (s : State) → Falls s (total of_part []) (after s (receives spells))
receives_falls spells s =
    let t = (received s).state in
    let h : gave (received s).answer + of_receiver t ≤ of_receiver s = received_falls s in
    let e : of_receiver (given_behind spells (received s).answer t) ≡ of_receiver t = ap (total of_waiting) (behind_stays spells (received s).answer t).incoming in
    omega (arith, h, e, total_nil of_part)

beside_falls : (s : State) (m : Move) → IsBeside m → Falls s (total of_part []) (after s m)
beside_falls s m h = falls_same s (after s m) (total of_part []) (move_stays s m h).incoming

move_falls : (s : State) (m : Move) → Falls s (total of_part (read_by m)) (after s m)
move_falls s (receives spells) = receives_falls spells s
move_falls s (hears_transfer x payload) =
    let p : Part = record { transfer = x; payload = payload } in
    let h : Falls s (end_of x) (after s (hears_transfer x payload)) = transfer_falls s.link.phase x payload s in
    omega (arith, h, total_cons of_part p [], total_nil of_part)
move_falls s m = beside_falls s m tt

moves_fall : (s : State) (ms : List Move) → Falls s (total of_part (read ms)) (after_all s ms)
moves_fall s [] = omega arith
moves_fall s (m ∷ ms) =
    let one : Falls s (total of_part (read_by m)) (after s m) = move_falls s m in
    let rest : Falls (after s m) (total of_part (read ms)) (after_all (after s m) ms) = moves_fall (after s m) ms in
    omega (arith, one, rest, total_append of_part (read_by m) (read ms))

-- an end of a link that goes on by moves
pub lives_fall : (session : ℕ) (a : Side) (es : List Event) (ps : List Part) (t : Side) → Lives session a es ps t → of_side t ≤ of_side a + total of_part ps
lives_fall session (Sender s) es ps t h = let e : of_side t ≡ 0 = ap of_side h.behind in omega (arith, e)
lives_fall session (Receiver s) es ps t h =
    let e : of_side t ≡ of_receiver (after_all s h.moves) = ap of_side h.behind in
    let f : Falls s (total of_part (read h.moves)) (after_all s h.moves) = moves_fall s h.moves in
    let r : total of_part (read h.moves) ≡ total of_part ps = ap (total of_part) h.read in
    omega (arith, e, f, r)

-- ---- a call that receives

gave_one : (a : Option (Result Got RecvError)) (x : Got) → a ≡ Some (Ok x) → gave a ≡ 1
gave_one a x h = ap gave h

told_falls : (answer : LinkReply) (s : State) → TellsReceived answer (received s) → is_given answer + of_receiver (having_told answer s) ≤ of_receiver s
told_falls (reply.Delivery info message) s h =
    let one : gave (received s).answer ≡ 1 = gave_one (received s).answer h.0 h.1.0 in
    let e : of_receiver (auto_accepted info (received s).state) ≡ of_receiver (received s).state = ap (total of_waiting) (auto_same info (received s).state) in
    let f : gave (received s).answer + of_receiver (received s).state ≤ of_receiver s = received_falls s in
    omega (arith, one, e, f)
told_falls answer s h =
    let f : gave (received s).answer + of_receiver (received s).state ≤ of_receiver s = received_falls s in omega (arith, f)

no_delivery : (answer : LinkReply) (x : RecvError) → answer ≡ reply.RecvError x → is_given answer ≡ 0
no_delivery answer x h = ap is_given h

-- a delivery that is given is one less that waits
pub receives_give : (answer : LinkReply) (a : Side) → Receives answer a → is_given answer + of_side (having_received answer a) ≤ of_side a
receives_give answer (Sender s) h = let e : is_given answer ≡ 0 = no_delivery answer _ h in omega (arith, e)
receives_give answer (Receiver s) h = told_falls answer s h
