-- The Transfers that wait until the peer can take them (OASIS AMQP 1.0, part 2, sections 2.5.6 and 2.6.14).
use Rattle.std.specs.Prelude.{ℕ, zero, suc, Bool, false, not, nat_eq, is_some, unwrap_or, List, [], ◌∷◌, ◌++◌, filter, Option, Some, None, if◌then◌else◌}
use Rattle.amqp_performatives.specs.declared.transfer.Transfer.{Transfer}
use Rattle.amqp_frames.specs.declared.body.FrameBody.TheVariants as b
use Rattle.amqp_parts.specs.declared.part.Part.{Part}
use Rattle.amqp_parts.specs.declared.splitting.Cut.{Cut}
use Rattle.amqp_parts.specs.Cut.{cut_of}
use Rattle.amqp_session.specs.declared.session.LeftDelivery.{LeftDelivery}
use Rattle.amqp_session.specs.declared.session.LinkInput.{LinkInput}
use Rattle.amqp_session.specs.declared.session.LinkInput.TheVariants as input
use Rattle.amqp_session.specs.State.{State, saying}
use Rattle.amqp_session.specs.Windows.{windows_left, reported, session_flow}

-- a Transfer with a tag begins a delivery (section 2.7.5)
abbrev pub begins : Transfer → Bool
begins x = is_some x.delivery_tag

-- a delivery has its number in the Transfer that begins it
abbrev pub numbered : ℕ → Transfer → Transfer
numbered n x = if begins x then record x { delivery_id = Some n } else x

-- a delivery with that tag, as its link is told of it
abbrev pub delivery_left : List ℕ → ℕ → Transfer → LeftDelivery
delivery_left tag n x = record { handle = x.handle; delivery_id = n; delivery_tag = tag; settled = unwrap_or x.settled false }

-- a delivery that begins to leave is told to its link, with its number
abbrev pub left_of : Option (List ℕ) → ℕ → Transfer → List LinkInput
left_of None n x = []
left_of (Some tag) n x = input.Left (delivery_left tag n x) ∷ []

-- what is left of a delivery waits in front of all others
abbrev pub kept : Option Part → List Part → List Part
kept None xs = xs
kept (Some x) xs = x ∷ xs

-- a part is written, and what is left waits
abbrev pub parting : Cut → State → State
parting c s = saying (b.Transfer c.first.transfer c.first.payload) (record s { held = kept c.rest s.held })

-- The first part of what has waited is written, as the limit of frames has it. It takes one of what the peer can take, and one number.
abbrev pub leaving : Part → State → State
leaving x s =
    let n = s.windows.next_delivery_id in
    parting (cut_of s.max_frame_size (numbered n x.transfer) x.payload) (record s {
      windows = windows_left (begins x.transfer) s.windows;
      incoming = s.incoming ++ left_of x.transfer.delivery_tag n x.transfer;
    })

-- the first part of what waits is written, if anything waits
abbrev pub first_leaving : List Part → State → State
first_leaving [] s = s
first_leaving (x ∷ xs) s = leaving x (record s { held = xs })

-- so many parts of what waits are written, in order
unfoldable pub releasing : ℕ → State → State
releasing zero s = s
releasing (suc n) s = releasing n (first_leaving s.held s)

-- as many as the peer can take
abbrev pub released : State → State
released s = releasing s.windows.allowance s

-- a Transfer is held whole, behind all others, and written as far as the peer can take it
abbrev pub sending : Part → State → State
sending x s = released (record s { held = s.held ++ x ∷ [] })

-- what waits on a handle of this end is dropped: deliveries that have not begun, and the rest of one that has
abbrev pub dropping : ℕ → State → State
dropping handle s = record s { held = filter (λ x. not (nat_eq x.transfer.handle handle)) s.held }

-- the peer is told the state of the session
abbrev pub reporting : State → State
reporting s = saying (b.Flow (session_flow s.windows)) (record s { windows = reported s.windows })
