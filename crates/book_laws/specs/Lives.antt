-- What a settlement book goes through: all its calls, one after another.
use Rattle.std.specs.Prelude.{◌≡◌, ℕ, List, [], ◌∷◌, ◌++◌}
use Rattle.amqp_termini.specs.declared.state.DeliveryState.{DeliveryState}
use Rattle.amqp_delivery.specs.declared.orders.Order.{Order}
use Rattle.amqp_delivery.specs.declared.info.CreditMode.{CreditMode}
use Rattle.amqp_delivery.specs.declared.info.DeliveryInfo.{DeliveryInfo}
use Rattle.amqp_delivery.specs.declared.info.DisposerView.{DisposerView}
use Rattle.amqp_delivery.specs.Book.{Book, registered, disposed, disposed_all, with_credit, restarted, completed, drained_by, attached, taken, without, recorded}
use Rattle.book_laws.specs.Groups.{IsGroup}

-- a call that changes a book
pub data Deed : Type 0 where
  registers : DeliveryInfo → Deed
  disposes : DisposerView → DeliveryInfo → DeliveryState → Deed
  disposes_all : DisposerView → List DeliveryInfo → DeliveryState → Deed
  takes_orders : Deed
  sets_mode : CreditMode → Deed
  sets_credit : ℕ → Deed
  restarts : Deed
  completes : Deed
  drains : ℕ → Deed
  attaches : ℕ → Deed
  forgets : List ℕ → Deed
  records : List ℕ → DeliveryState → Deed

-- the book after a call
abbrev pub after : Book → Deed → Book
after b (registers info) = registered b info
after b (disposes view info state) = (disposed b view info state).book
after b (disposes_all view infos state) = (disposed_all b view infos state).book
after b takes_orders = taken b
after b (sets_mode mode) = record b { credit_mode = mode }
after b (sets_credit credit) = with_credit b credit
after b restarts = restarted b
after b completes = completed b
after b (drains amount) = drained_by b amount
after b (attaches delivery_count) = attached b delivery_count
after b (forgets tag) = without b tag
after b (records tag state) = recorded b tag state

abbrev pub after_all : Book → List Deed → Book
after_all b [] = b
after_all b (d ∷ ds) = after_all (after b d) ds

-- the orders that a call hands out
abbrev pub handed : Book → Deed → List Order
handed b (registers info) = []
handed b (disposes view info state) = []
handed b (disposes_all view infos state) = []
handed b takes_orders = b.orders
handed b (sets_mode mode) = []
handed b (sets_credit credit) = []
handed b restarts = []
handed b completes = []
handed b (drains amount) = []
handed b (attaches delivery_count) = []
handed b (forgets tag) = []
handed b (records tag state) = []

abbrev pub handed_all : Book → List Deed → List Order
handed_all b [] = []
handed_all b (d ∷ ds) = handed b d ++ handed_all (after b d) ds

-- what a call orders: disposals alone order anything
abbrev pub Orders : Book → Deed → List Order → Type 0
Orders b (registers info) group = group ≡ []
Orders b (disposes view info state) group = IsGroup b view (info ∷ []) state group
Orders b (disposes_all view infos state) group = IsGroup b view infos state group
Orders b takes_orders group = group ≡ []
Orders b (sets_mode mode) group = group ≡ []
Orders b (sets_credit credit) group = group ≡ []
Orders b restarts group = group ≡ []
Orders b completes group = group ≡ []
Orders b (drains amount) group = group ≡ []
Orders b (attaches delivery_count) group = group ≡ []
Orders b (forgets tag) group = group ≡ []
Orders b (records tag state) group = group ≡ []

-- each call has its group of orders
abbrev pub AllOrder : Book → List Deed → List (List Order) → Type 0
AllOrder b [] [] = Unit {0}
AllOrder b [] (g ∷ gs) = ⊥
AllOrder b (d ∷ ds) [] = ⊥
AllOrder b (d ∷ ds) (g ∷ gs) = Orders b d g × AllOrder (after b d) ds gs

-- the groups, one behind the other
abbrev pub all_of : List (List Order) → List Order
all_of [] = []
all_of (g ∷ gs) = g ++ all_of gs
