-- Where no Transfer resumes a delivery, each that ends one carries it whole.
use Rattle.std.specs.Prelude.{◌≡◌, ◌≤◌, ◌+◌, ℕ, Bool, true, false, not, ◌&&◌, length, List, [], ◌∷◌, ◌++◌, Option, Some, None, if◌then◌else◌, refl}
use Rattle.std.proofs.Common.{sym, ◌∙◌, ap, arith, length-append}
use Rattle.amqp_performatives.specs.declared.transfer.Transfer.{Transfer}
use Rattle.amqp_frames.specs.declared.body.FrameBody.{FrameBody}
use Rattle.amqp_frames.specs.declared.body.FrameBody.TheVariants as b
use Rattle.amqp_transport.specs.declared.frames.Frame.{Frame}
use Rattle.served_connection.specs.ListenLaws.Ended.{ended_by, ended_in}
use Rattle.served_connection.specs.ListenLaws.Carried.{Delivery, begun_on, joined, at_handle, come, whole_by, begun_by, carried, IsAnew, AreAnew}

one_come : (channel handle : ℕ) (o : Option (List ℕ)) (payload : List ℕ) → length (at_handle channel handle (joined o false payload)) ≡ 1
one_come channel handle None payload = refl
one_come channel handle (Some bytes) payload = refl

whole_if : (e : Bool) (ds : List Delivery) → length ds ≡ 1 → (if e then 1 else 0) ≡ length (if e then ds else [])
whole_if true ds h = sym h
whole_if false ds h = refl

transfer_whole : (channel : ℕ) (x : Transfer) (payload : List ℕ) (begun : List Delivery) → x.resume ≡ false → ended_by (b.Transfer x payload) ≡ length (whole_by channel (b.Transfer x payload) begun)
transfer_whole channel x payload begun h =
    let o = begun_on channel x.handle begun in
    let one : length (come channel x payload begun) ≡ 1 = ap (λ (r : Bool). length (at_handle channel x.handle (joined o r payload))) h ∙ one_come channel x.handle o payload in
    whole_if (not x.more && not x.aborted) (come channel x payload begun) one

body_whole : (channel : ℕ) (x : FrameBody) (begun : List Delivery) → IsAnew x → ended_by x ≡ length (whole_by channel x begun)
body_whole channel (b.Transfer x payload) begun h = transfer_whole channel x payload begun h
body_whole channel x begun h = refl

pub all_whole : (begun : List Delivery) (xs : List Frame) → AreAnew xs → ended_in xs ≡ length (carried begun xs)
unfolding ended_in carried AreAnew
all_whole begun [] h = refl
all_whole begun (x ∷ xs) h =
    omega (arith, body_whole x.channel x.body begun h.0, all_whole (begun_by x.channel x.body begun) xs h.1, length-append (whole_by x.channel x.body begun) (carried (begun_by x.channel x.body begun) xs))
