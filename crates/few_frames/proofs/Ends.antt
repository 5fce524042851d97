-- What both ends of a link write.
use Rattle.std.specs.Prelude.{◌≡◌, ℕ, ◌+◌, ◌≤◌, List, [], ◌∷◌, ◌++◌, map, refl}
use Rattle.std.proofs.Common.{sym, ◌∙◌, ap, arith}
use Rattle.amqp_frames.specs.declared.body.FrameBody.{FrameBody}
use Rattle.amqp_frames.specs.declared.body.FrameBody.TheVariants as b
use Rattle.session_laws.specs.Crediting.{flows_heard}
use Rattle.session_laws.specs.Giving as receiver
use Rattle.session_laws.specs.Sending.{Move, sends, polls, parts, abandons, reattaches, stays, hears_attach, hears_flow, hears_transfer, hears_disposition, hears_detach, stops, hands_over}
use Rattle.session_laws.specs.Speaking.{flows}
use Rattle.few_frames.specs.Ends.{Credit, credit_in, sends_in, EndsWriteFew}
use Rattle.few_frames.specs.Kinds.{count, one_if}
use Rattle.few_frames.specs.Receivers.{drain_in}
use Rattle.few_frames.specs.Senders.{total}
use Rattle.few_frames.proofs.Receivers.{receiver_writes_few, receiver_drains_few}
use Rattle.few_frames.proofs.Senders.{sender_writes_few}

-- how many of them say drain
abbrev pub drains : List Credit → ℕ
drains [] = 0
drains (x ∷ xs) = one_if x.drain + drains xs

drains_both : (xs ys : List Credit) → drains (xs ++ ys) ≡ drains xs + drains ys
drains_both [] ys = omega arith
drains_both (x ∷ xs) ys = let e : drains (xs ++ ys) ≡ drains xs + drains ys = drains_both xs ys in omega arith

said_drains : (xs : List FrameBody) → drains (map credit_in (flows xs)) ≡ count drain_in xs
said_drains [] = refl
said_drains (b.Flow x ∷ xs) = let e : drains (map credit_in (flows xs)) ≡ count drain_in xs = said_drains xs in omega arith
said_drains (b.Open x ∷ xs) = let e : drains (map credit_in (flows xs)) ≡ count drain_in xs = said_drains xs in omega arith
said_drains (b.Begin x ∷ xs) = let e : drains (map credit_in (flows xs)) ≡ count drain_in xs = said_drains xs in omega arith
said_drains (b.Attach x ∷ xs) = let e : drains (map credit_in (flows xs)) ≡ count drain_in xs = said_drains xs in omega arith
said_drains (b.Transfer x payload ∷ xs) = let e : drains (map credit_in (flows xs)) ≡ count drain_in xs = said_drains xs in omega arith
said_drains (b.Disposition x ∷ xs) = let e : drains (map credit_in (flows xs)) ≡ count drain_in xs = said_drains xs in omega arith
said_drains (b.Detach x ∷ xs) = let e : drains (map credit_in (flows xs)) ≡ count drain_in xs = said_drains xs in omega arith
said_drains (b.End x ∷ xs) = let e : drains (map credit_in (flows xs)) ≡ count drain_in xs = said_drains xs in omega arith
said_drains (b.Close x ∷ xs) = let e : drains (map credit_in (flows xs)) ≡ count drain_in xs = said_drains xs in omega arith
said_drains (b.Empty ∷ xs) = let e : drains (map credit_in (flows xs)) ≡ count drain_in xs = said_drains xs in omega arith

-- what a sender's moves cost are its messages, two for each, and the Flows with drain that it hears
costs : (ms : List Move) → total ms ≡ sends_in ms + sends_in ms + drains (map credit_in (flows_heard ms))
costs [] = refl
costs (sends payload format settled batchable ∷ ms) = let e : total ms ≡ sends_in ms + sends_in ms + drains (map credit_in (flows_heard ms)) = costs ms in omega arith
costs (polls ∷ ms) = let e : total ms ≡ sends_in ms + sends_in ms + drains (map credit_in (flows_heard ms)) = costs ms in omega arith
costs (parts closes error ∷ ms) = let e : total ms ≡ sends_in ms + sends_in ms + drains (map credit_in (flows_heard ms)) = costs ms in omega arith
costs (abandons ∷ ms) = let e : total ms ≡ sends_in ms + sends_in ms + drains (map credit_in (flows_heard ms)) = costs ms in omega arith
costs (reattaches handle ∷ ms) = let e : total ms ≡ sends_in ms + sends_in ms + drains (map credit_in (flows_heard ms)) = costs ms in omega arith
costs (stays ∷ ms) = let e : total ms ≡ sends_in ms + sends_in ms + drains (map credit_in (flows_heard ms)) = costs ms in omega arith
costs (hears_attach x ∷ ms) = let e : total ms ≡ sends_in ms + sends_in ms + drains (map credit_in (flows_heard ms)) = costs ms in omega arith
costs (hears_flow x ∷ ms) = let e : total ms ≡ sends_in ms + sends_in ms + drains (map credit_in (flows_heard ms)) = costs ms in omega arith
costs (hears_transfer ∷ ms) = let e : total ms ≡ sends_in ms + sends_in ms + drains (map credit_in (flows_heard ms)) = costs ms in omega arith
costs (hears_disposition covered settles x ∷ ms) = let e : total ms ≡ sends_in ms + sends_in ms + drains (map credit_in (flows_heard ms)) = costs ms in omega arith
costs (hears_detach d ∷ ms) = let e : total ms ≡ sends_in ms + sends_in ms + drains (map credit_in (flows_heard ms)) = costs ms in omega arith
costs (stops why ∷ ms) = let e : total ms ≡ sends_in ms + sends_in ms + drains (map credit_in (flows_heard ms)) = costs ms in omega arith
costs (hands_over ∷ ms) = let e : total ms ≡ sends_in ms + sends_in ms + drains (map credit_in (flows_heard ms)) = costs ms in omega arith

front_few : (h u w : ℕ) → h + u ≡ w → h ≤ w
front_few h u w e = omega arith

pub ends_write_few : EndsWriteFew
ends_write_few s ms r ks d k h =
    let a = sender_writes_few s ms d in
    let c = receiver_writes_few r ks k in
    let e = costs ms in
    let q = receiver_drains_few r ks in
    let f = front_few (drains (map credit_in (flows_heard ms))) (drains h.unheard) (count drain_in (receiver.written r ks))
    (sym (drains_both (map credit_in (flows_heard ms)) h.unheard) ∙ (ap drains h.hears ∙ said_drains (receiver.written r ks))) in
    omega arith
