-- How a side is called, and what rests of an order: its party and price, the quantity that is left, and the book's own
-- arrival number.
use Rattle.std.specs.Prelude.{ℕ, ◌-◌, List, codes}
use Rattle.book.specs.declared.order.Side.{Side}
use Rattle.book.specs.declared.order.Side.TheVariants.{Buy, Sell}
use Rattle.book.specs.declared.order.Order.{Order}
use Rattle.book.specs.declared.order.Resting.{Resting}

-- what a side is printed as
abbrev pub side_name : Side → List ℕ
side_name Buy = codes "buy"
side_name Sell = codes "sell"

-- what is left of an order, at rest
abbrev pub at_rest : Order → (left arrival : ℕ) → Resting
at_rest o left arrival = record { party = o.party; price = o.price; quantity = left; arrival = arrival }

-- a resting order with another quantity keeps all else
abbrev pub with_quantity : Resting → ℕ → Resting
with_quantity x q = record { party = x.party; price = x.price; quantity = q; arrival = x.arrival }

-- a resting order once so much of its quantity is taken
abbrev pub less : ℕ → Resting → Resting
less taken x = with_quantity x (x.quantity - taken)
