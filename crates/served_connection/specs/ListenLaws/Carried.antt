-- The deliveries that frames carry whole (OASIS AMQP 1.0, part 2, sections 2.6.14 and 2.7.5).
use Rattle.std.specs.Prelude.{◌≡◌, ℕ, nat_eq, Bool, true, false, not, ◌&&◌, if◌then◌else◌}
use Rattle.std.specs.Prelude.{filter, List, [], ◌∷◌, ◌++◌, Option, Some, None}
use Rattle.amqp_performatives.specs.declared.transfer.Transfer.{Transfer}
use Rattle.amqp_frames.specs.declared.body.FrameBody.{FrameBody}
use Rattle.amqp_frames.specs.declared.body.FrameBody.TheVariants as b
use Rattle.amqp_transport.specs.declared.frames.Frame.{Frame}

-- a delivery, or what has come of one: the channel and the handle of its Transfers, and their bytes
pub record Delivery : Type 0 where
  pub channel : ℕ
  pub handle : ℕ
  pub payload : List ℕ

abbrev pub is_on : ℕ → ℕ → Delivery → Bool
is_on channel handle d = nat_eq d.channel channel && nat_eq d.handle handle

-- the bytes that have come there of a delivery of which more is to come
abbrev pub begun_on : ℕ → ℕ → List Delivery → Option (List ℕ)
begun_on channel handle [] = None
begun_on channel handle (d ∷ ds) = if is_on channel handle d then Some d.payload else begun_on channel handle ds

-- nothing is begun there any more
abbrev pub without : ℕ → ℕ → List Delivery → List Delivery
without channel handle ds = filter (λ d. not (is_on channel handle d)) ds

-- a Transfer goes on with the delivery that was begun, or begins one, unless it resumes one that was not begun here
abbrev pub joined : Option (List ℕ) → Bool → List ℕ → Option (List ℕ)
joined (Some bytes) resumes payload = Some (bytes ++ payload)
joined None true payload = None
joined None false payload = Some payload

abbrev pub at_handle : ℕ → ℕ → Option (List ℕ) → List Delivery
at_handle channel handle None = []
at_handle channel handle (Some bytes) = record { channel = channel; handle = handle; payload = bytes } ∷ []

-- what it comes to
abbrev pub come : ℕ → Transfer → List ℕ → List Delivery → List Delivery
come channel x payload begun = at_handle channel x.handle (joined (begun_on channel x.handle begun) x.resume payload)

-- the delivery is whole where no more is to come; one that is aborted is dropped
abbrev pub whole_in : ℕ → Transfer → List ℕ → List Delivery → List Delivery
whole_in channel x payload begun = if not x.more && not x.aborted then come channel x payload begun else []

abbrev pub begun_in : ℕ → Transfer → List ℕ → List Delivery → List Delivery
begun_in channel x payload begun =
    (if x.more && not x.aborted then come channel x payload begun else []) ++ without channel x.handle begun

abbrev pub whole_by : ℕ → FrameBody → List Delivery → List Delivery
whole_by channel (b.Transfer x payload) begun = whole_in channel x payload begun
whole_by channel body begun = []

abbrev pub begun_by : ℕ → FrameBody → List Delivery → List Delivery
begun_by channel (b.Transfer x payload) begun = begun_in channel x payload begun
begun_by channel body begun = begun

-- the deliveries that the frames carry whole, in the order in which they end, where those were begun before
unfoldable pub carried : List Delivery → List Frame → List Delivery
carried begun [] = []
carried begun (x ∷ xs) = whole_by x.channel x.body begun ++ carried (begun_by x.channel x.body begun) xs

-- no Transfer among the frames resumes a delivery (section 2.6.13)
abbrev pub IsAnew : FrameBody → Type 0
IsAnew (b.Transfer x payload) = x.resume ≡ false
IsAnew body = Unit {0}

unfoldable pub AreAnew : List Frame → Type 0
AreAnew [] = Unit {0}
AreAnew (x ∷ xs) = IsAnew x.body × AreAnew xs
