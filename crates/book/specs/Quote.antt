-- How resting orders rank and which prices cross them: buys by higher price, sells by lower price, both then by arrival.
-- All other rules know a side by its `Kind` alone, so that each is written once, for both sides.
use Rattle.std.specs.Prelude.{◌≡◌, ℕ, Bool, true, false, nat_le}
use Rattle.heap.specs.Keys.{lex}
use Rattle.book.specs.declared.order.Resting.{Resting}
use Rattle.book.specs.declared.quote.PriceKey.{PriceKey}
use Rattle.book.specs.declared.quote.Buy.{Buy}
use Rattle.book.specs.declared.quote.Sell.{Sell}
use Rattle.book.specs.Order.{with_quantity}

-- prices cross when the buy's is at least the sell's
abbrev pub cross : (buy sell : ℕ) → Bool
cross buy sell = nat_le sell buy

-- what a quote ranks by
abbrev pub key_of : Resting → PriceKey
key_of x = record { price = x.price; arrival = x.arrival }

-- of a buy, and of a sell
abbrev pub buy_key : Buy → PriceKey
buy_key b = key_of b.order

abbrev pub sell_key : Sell → PriceKey
sell_key s = key_of s.order

-- buys by higher price, then by arrival
abbrev pub buy_upto : PriceKey → PriceKey → Bool
buy_upto a b = lex b.price a.price (nat_le a.arrival b.arrival)

-- sells by lower price, then by arrival
abbrev pub sell_upto : PriceKey → PriceKey → Bool
sell_upto a b = lex a.price b.price (nat_le a.arrival b.arrival)

-- what the rules know of the quotes of a side
pub record Kind (X : Type 0) : Type 0 where
  -- the first ranks before the second, or they rank alike
  pub before : X → X → Bool
  -- the resting order that a quote is of, and the quote of a resting order
  pub resting : X → Resting
  pub quoted : Resting → X
  -- an incoming price crosses a resting one
  pub meets : (price resting : ℕ) → Bool

-- an incoming price of at most its own crosses a resting buy
abbrev pub resting_buys : Kind Buy
resting_buys = record {
  before = λ a b. buy_upto (buy_key a) (buy_key b);
  resting = λ b. b.order;
  quoted = λ x. record { order = x };
  meets = λ price resting. cross resting price;
}

-- an incoming price of at least its own crosses a resting sell
abbrev pub resting_sells : Kind Sell
resting_sells = record {
  before = λ a b. sell_upto (sell_key a) (sell_key b);
  resting = λ s. s.order;
  quoted = λ x. record { order = x };
  meets = λ price resting. cross price resting;
}

-- what holds of the quotes of either side
pub record Lawful {X : Type 0} (k : Kind X) : Type 0 where
  -- a quote is of one resting order, and is no more than that
  pub kept : (x : Resting) → k.resting (k.quoted x) ≡ x
  pub whole : (x : X) → k.quoted (k.resting x) ≡ x
  -- each ranks like itself
  pub itself : (x : X) → k.before x x ≡ true
  -- a rank is not of the quantity
  pub alike : (x y : X) (q : ℕ) → k.before x (k.quoted (with_quantity (k.resting y) q)) ≡ k.before x y
  -- two that rank alike have one arrival number
  pub one_rank : (x y : X) → k.before x y ≡ true → k.before y x ≡ true → (k.resting x).arrival ≡ (k.resting y).arrival
  -- where a price does not cross the better-ranked, it crosses no other
  pub falls : (p : ℕ) (x y : X) → k.before x y ≡ true → k.meets p (k.resting x).price ≡ false → k.meets p (k.resting y).price ≡ false
  -- the better-ranked has a price that is no worse: it would cross an order at the other's
  pub no_worse : (x y : X) → k.before x y ≡ true → k.meets (k.resting y).price (k.resting x).price ≡ true
