-- What a trader may rely on, of every order that meets the other side: conservation of quantity, no trade through,
-- price-time priority, and when quantity is dropped. It is proved of the matching, and speaks only of before and after.
use Rattle.std.specs.Prelude.{◌≡◌, ℕ, ◌+◌, Bool, true, false, ◌&&◌, ◌||◌, List, [], ◌∷◌, length, nat_le, nat_lt}
use Rattle.std.specs.List.{AllByRecursion, ContainsAt}
use Rattle.book.specs.declared.order.Order.{Order}
use Rattle.book.specs.declared.order.Booked.{Booked}
use Rattle.book.specs.declared.fill.Fill.{Fill}
use Rattle.book.specs.Quote.{Kind}
use Rattle.book.specs.Side.{total, any_crosses}

-- the quantity of all fills
abbrev pub quantities : List Fill → ℕ
quantities [] = 0
quantities (f ∷ fs) = f.quantity + quantities fs

-- prices cross and no line is left for a fill, or the side holds all that it may
abbrev pub held_up : (full crossed : Bool) (held room : ℕ) → Bool
held_up full crossed held room = (full && crossed) || nat_le room held

-- each part of the quantity is filled, rests or is dropped; the fills are what is filled, and what the other side lost
pub record Conserved {X : Type 0} (there : Kind X) (o : Order) (opposite opposite' : List X) (fills : List Fill) (r : Booked) : Type 0 where
  pub parts : r.filled + r.rested + r.dropped ≡ o.quantity
  pub tallied : quantities fills ≡ r.filled
  pub moved : total there opposite ≡ total there opposite' + r.filled

-- each fill is at a price that the order accepts
abbrev pub Accepted : {X : Type 0} → Kind X → Order → List Fill → Type 0
Accepted there o fills = AllByRecursion (λ f. there.meets o.price f.price ≡ true) fills

-- no order that rests after has a better price than a fill: it is at a price that would cross one at the resting order's
abbrev pub NoTradeThrough : {X : Type 0} → Kind X → (opposite' : List X) → List Fill → Type 0
NoTradeThrough there opposite' fills = AllByRecursion (λ f. AllByRecursion (λ y. there.meets (there.resting y).price f.price ≡ true) opposite') fills

-- no order is filled while a better one rests: where y ranks before x and is there after, x is there as it was
abbrev pub Priority : {X : Type 0} → Kind X → (opposite opposite' : List X) → Type 0
Priority {X} there opposite opposite' = (x y : X) → ContainsAt opposite x → there.before x y ≡ false → ContainsAt opposite' y → ContainsAt opposite' x

-- quantity is dropped exactly when some is left and is held up
abbrev pub DroppedWhen : {X Y : Type 0} → Kind X → Order → (room : ℕ) (full : Bool) → (opposite' : List X) (own : List Y) → Booked → Type 0
DroppedWhen there o room full opposite' own r = nat_lt 0 r.dropped ≡ (nat_lt r.filled o.quantity && held_up full (any_crosses there o.price opposite') (length own) room)

pub record Fair {X Y : Type 0} (there : Kind X) (o : Order) (room : ℕ) (full : Bool) (opposite opposite' : List X) (own : List Y) (fills : List Fill) (r : Booked) : Type 0 where
  pub conserved : Conserved there o opposite opposite' fills r
  pub accepted : Accepted there o fills
  pub no_trade_through : NoTradeThrough there opposite' fills
  pub priority : Priority there opposite opposite'
  pub dropped_when : DroppedWhen there o room full opposite' own r
