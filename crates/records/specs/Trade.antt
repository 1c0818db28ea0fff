-- How trades rank: by tag, then by seat, then by serial. The buffer's key is named here and nowhere else.
use Rattle.std.specs.Prelude.{◌≡◌, Bool, false, nat_le}
use Rattle.heap.specs.Heaps.{Upto}
use Rattle.heap.specs.Keys.{lex}
use Rattle.book.specs.declared.order.Booked.{Booked}
use Rattle.book.specs.declared.order.Order.{Order}
use Rattle.records.specs.declared.trade.Trade.{Trade}
use Rattle.records.specs.declared.trade.DeliveryKey.{DeliveryKey}

-- what a trade ranks by
abbrev pub trade_key : Trade → DeliveryKey
trade_key x = record { tag = x.tag; seat = x.seat; serial = x.serial }

-- a key comes before another, or is the same
abbrev pub key_upto : DeliveryKey → DeliveryKey → Bool
key_upto a b =
    lex a.tag.batch b.tag.batch
    (lex a.tag.elapsed b.tag.elapsed
    (lex a.seat b.seat
    (nat_le a.serial b.serial)))

-- the key of one trade comes before that of another, or is the same
abbrev pub TradeUpto : Trade → Trade → Type 0
TradeUpto = Upto trade_key key_upto

-- one trade ranks before another
abbrev pub Precedes : Trade → Trade → Type 0
Precedes a b = key_upto (trade_key b) (trade_key a) ≡ false

-- the order that a trade is to the book
abbrev pub order_of : Trade → Order
order_of x = record { party = record { seat = x.seat; serial = x.serial }; side = x.side; price = x.price; quantity = x.quantity }

-- what rejecting answers: all of the quantity is dropped
abbrev pub rejected : Trade → Booked
rejected x = record { filled = 0; rested = 0; dropped = x.quantity; fills = 0 }
