-- What taking an order does to the book, the fill list and the order's quantity, and that the rules leave no choice: from
-- one book, one order and one fill list there is one outcome.
use Rattle.std.specs.Prelude.{◌≡◌, ℕ, ◌+◌, Bool, List, [], MatchBool, nat_lt}
use Rattle.std.specs.List.{ContainsAt}
use Rattle.lines.specs.Pages.{Page, full, Written}
use Rattle.book.specs.declared.order.Side.{Side}
use Rattle.book.specs.declared.order.Side.TheVariants.{Buy, Sell}
use Rattle.book.specs.declared.order.Order.{Order}
use Rattle.book.specs.declared.order.Booked.{Booked}
use Rattle.book.specs.declared.fill.Fill.{Fill}
use Rattle.book.specs.declared.book.Book.{Book}
use Rattle.book.specs.Quote.{Kind, resting_buys, resting_sells}
use Rattle.book.specs.Matching.{Dealt}
use Rattle.book.specs.Fair.{Fair}
use Rattle.book.specs.Book.{room}

-- a book takes so many orders in its life
abbrev pub most : ℕ
most = 1000000

-- an order is matched by the rules, and what a trader may rely on holds
pub record Served {X Y : Type 0} (there : Kind X) (here : Kind Y) (o : Order) (arrival : ℕ) (full : Bool) (opposite opposite' : List X) (own own' : List Y) (fills : List Fill) (r : Booked) : Type 0 where
  pub dealt : Dealt there here o arrival room full opposite opposite' own own' fills r
  pub fair : Fair there o room full opposite opposite' own fills r

-- a buy meets the sells and rests with the buys, and a sell the other way round
abbrev pub BySide : Side → Book → Order → (full : Bool) → List Fill → Book → Booked → Type 0
BySide Buy b o full fills b' r = Served resting_sells resting_buys o b.taken full b.sells.items b'.sells.items b.buys.items b'.buys.items fills r
BySide Sell b o full fills b' r = Served resting_buys resting_sells o b.taken full b.buys.items b'.buys.items b.sells.items b'.sells.items fills r

-- the order is counted, its number is its arrival, and it is served
pub record Accepted (b : Book) (o : Order) (full : Bool) (fills : List Fill) (b' : Book) (r : Booked) : Type 0 where
  pub counted : b'.taken ≡ b.taken + 1
  pub served : BySide o.side b o full fills b' r

-- all of the order is dropped, and nothing changes
pub record Refused (b : Book) (o : Order) (fills : List Fill) (b' : Book) (r : Booked) : Type 0 where
  pub same : b' ≡ b
  pub none : fills ≡ []
  pub dropped : r ≡ record { filled = 0; rested = 0; dropped = o.quantity; fills = 0 }

-- An order is taken: its fills are the next lines of the fill list, and no other line changes.
pub record Taken (b : Book) (o : Order) (p : Page Fill) (b' : Book) (p' : Page Fill) (r : Booked) : Type 0 where
  pub fills : List Fill
  pub written : Written p fills p'
  pub took : MatchBool (nat_lt b.taken most) (Accepted b o (full p') fills b' r) (Refused b o fills b' r)

-- the same orders rest; no side has one twice, since no two have one arrival number
abbrev pub Same : {X : Type 0} → List X → List X → Type 0
Same {X} xs ys = ((x : X) → ContainsAt xs x → ContainsAt ys x) × ((x : X) → ContainsAt ys x → ContainsAt xs x)

-- two outcomes are one
pub record Alike (b : Book) (p : Page Fill) (r : Booked) (b' : Book) (p' : Page Fill) (r' : Booked) : Type 0 where
  pub buys : Same b.buys.items b'.buys.items
  pub sells : Same b.sells.items b'.sells.items
  pub taken : b.taken ≡ b'.taken
  pub list : p ≡ p'
  pub booked : r ≡ r'

-- An order is taken by the rules, and they allow nothing else.
pub record Settled (b : Book) (o : Order) (p : Page Fill) (b' : Book) (p' : Page Fill) (r : Booked) : Type 0 where
  pub taken : Taken b o p b' p' r
  pub only : (b'' : Book) (p'' : Page Fill) (r'' : Booked) → Taken b o p b'' p'' r'' → Alike b' p' r b'' p'' r''
