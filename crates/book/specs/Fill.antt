-- A fill: what changes hands when an order meets a resting one.
-- It is at the resting order's price, of the smaller quantity, from the one that sells to the one that buys.
use Rattle.std.specs.Prelude.{ℕ, min}
use Rattle.book.specs.declared.order.Side.{Side}
use Rattle.book.specs.declared.order.Side.TheVariants.{Buy, Sell}
use Rattle.book.specs.declared.order.Party.{Party}
use Rattle.book.specs.declared.order.Order.{Order}
use Rattle.book.specs.declared.order.Resting.{Resting}
use Rattle.book.specs.declared.fill.Fill.{Fill}

-- who buys, where an order of a side and of its own party meets another's
abbrev pub buyer_of : Side → (own other : Party) → Party
buyer_of Buy own other = own
buyer_of Sell own other = other

-- who sells
abbrev pub seller_of : Side → (own other : Party) → Party
seller_of Buy own other = other
seller_of Sell own other = own

-- the fill of an order, of which so much is left, with a resting one
abbrev pub fill_of : Order → (left : ℕ) → Resting → Fill
fill_of o left x = record {
  price = x.price;
  quantity = min left x.quantity;
  buyer = buyer_of o.side o.party x.party;
  seller = seller_of o.side o.party x.party;
}
