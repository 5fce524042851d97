-- Orders.
use Rattle.std.specs.Prelude.{ℕ, List}
use Rattle.amqp_delivery.specs.declared.orders.Order.{Order}

-- orders in the order in which they were made, and room for how many more
pub record Orders : Type 0 where
  pub list : List Order
  pub room : ℕ
