-- How deliveries are settled (OASIS AMQP 1.0, part 2, sections 2.6.12 and 2.7.6).
use Rattle.std.specs.Prelude.{ℕ, nat_eq, Bool, false, List, [], ◌∷◌, Option, Some, None, if◌then◌else◌}
use Rattle.amqp_composites.specs.declared.modes.Role.TheVariants as role
use Rattle.amqp_termini.specs.declared.state.DeliveryState.{DeliveryState}
use Rattle.amqp_link.specs.amqp_frames.declared.body.FrameBody.{FrameBody}
use Rattle.amqp_link.specs.amqp_frames.declared.body.FrameBody.TheVariants as b
use Rattle.amqp_delivery.specs.Book.{disposed_all, taken, view_of, mode_for, is_first}
use Rattle.amqp_delivery.specs.declared.calls.BookReply.{BookReply}
use Rattle.amqp_delivery.specs.declared.calls.BookReply.TheVariants.{Done, Taken, Stale}
use Rattle.amqp_delivery.specs.declared.info.DeliveryInfo.{DeliveryInfo}
use Rattle.amqp_delivery.specs.declared.info.DisposerView.{DisposerView}
use Rattle.amqp_delivery.specs.declared.orders.Order.{Order}
use Rattle.amqp_delivery.specs.declared.orders.Order.TheVariants.{Disposition, Flow}
use Rattle.amqp_link.specs.declared.error.IllegalLinkStateError.{IllegalLinkStateError}
use Rattle.amqp_link.specs.declared.error.IllegalLinkStateError.TheVariants as illegal
use Rattle.amqp_link.specs.Link as link
use Rattle.amqp_link.specs.Numbers.{link_flow}
use Rattle.amqp_receiver.specs.Receiver.{State, Made, refuses}

-- the last delivery is named where it is not the first
abbrev pub last_of : ℕ → ℕ → Option ℕ
last_of first last = if nat_eq first last then None else Some last

-- the frame that an order asks for
abbrev pub frame_for : ℕ → Order → FrameBody
frame_for handle (Disposition first last settled state) = b.Disposition (record { role = role.Receiver; first = first; last = last_of first last; settled = settled; state = Some state; batchable = false })
frame_for handle (Flow count credit) = b.Flow (link_flow handle count credit false)

-- the orders are written in order
abbrev pub writing : List Order → link.Link → link.Link
writing [] l = l
writing (o ∷ os) l = writing os (link.saying (frame_for l.own.handle o) l)

-- what the book has ordered is written
abbrev pub written : State → State
written s = record s { link = writing s.book.orders s.link; book = taken s.book }

-- credit that is due is not given by a disposer of an attachment before
abbrev pub refusal_of : BookReply → Option IllegalLinkStateError
refusal_of (Done found refilled) = None
refusal_of (Taken orders) = None
refusal_of Stale = Some illegal.IllegalState

-- whether credit was given
abbrev pub is_refill : BookReply → Bool
is_refill (Done found refilled) = refilled
is_refill (Taken orders) = false
is_refill Stale = false

-- then the sender need not use it up
abbrev pub undrained : BookReply → State → State
undrained reply s = if is_refill reply then record s { is_draining = false } else s

-- the book gives deliveries a state
abbrev pub disposing_in_book : DisposerView → List DeliveryInfo → DeliveryState → State → State
disposing_in_book view infos state s = let o = disposed_all s.book view infos state in undrained o.reply (record s { book = o.book })

abbrev pub disposing : DisposerView → List DeliveryInfo → DeliveryState → State → Made
disposing view infos state s = record { state = written (disposing_in_book view infos state s); answer = refusal_of (disposed_all s.book view infos state).reply }

abbrev pub disposing_unless : Option IllegalLinkStateError → DisposerView → List DeliveryInfo → DeliveryState → State → Made
disposing_unless (Some e) view infos state s = refuses e s
disposing_unless None view infos state s = disposing view infos state s

-- deliveries are given a state, by the view that a disposer keeps
abbrev pub disposed_by : DisposerView → List DeliveryInfo → DeliveryState → State → Made
disposed_by view infos state s = disposing_unless (link.disposal_refusal s.link) view infos state s

-- as the link is now
abbrev pub disposed : List DeliveryInfo → DeliveryState → State → Made
disposed infos state s = disposed_by (view_of s.book s.link.own.handle) infos state s

-- whether a delivery is settled as it is disposed of: in mode Second its sender settles first (section 2.8.3)
abbrev pub settles : DeliveryInfo → State → Bool
settles info s = is_first (mode_for (view_of s.book s.link.own.handle) info)
