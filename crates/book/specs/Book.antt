-- What always holds of the two sides of a book: each has room and is not too long, no buy crosses a sell, and arrival numbers
-- tell the orders of a side apart.
use Rattle.std.specs.Prelude.{◌≡◌, ℕ, ◌<◌, ◌≤◌, if◌then◌else◌, List, length, count_by, nat_eq, nat_lt}
use Rattle.std.specs.List.{ContainsAt}
use Rattle.heap.specs.Contents.{Contents}
use Rattle.book.specs.declared.quote.Buy.{Buy}
use Rattle.book.specs.declared.quote.Sell.{Sell}
use Rattle.book.specs.Quote.{Kind}

-- a side holds so many orders at most
abbrev pub room : ℕ
room = 256

-- a side may hold so many, and there is memory for them
abbrev pub Roomy : {X : Type 0} → Contents X → Type 0
Roomy h = (h.bound ≡ room) × (room ≤ h.reserved)

-- no side holds more than that
abbrev pub Few : {X : Type 0} → List X → Type 0
Few xs = length xs ≤ room

-- every buy is below every sell, and so the best buy below the best sell
abbrev pub Apart : List Buy → List Sell → Type 0
Apart bs ss = (b : Buy) (s : Sell) → ContainsAt bs b → ContainsAt ss s → b.order.price < s.order.price

-- at most one order of a side has a given number, and none has a number that was not given yet
abbrev pub Numbered : {X : Type 0} → Kind X → (given : ℕ) → List X → Type 0
Numbered k given xs = (n : ℕ) → count_by (λ x. nat_eq (k.resting x).arrival n) xs ≤ (if nat_lt n given then 1 else 0)
