-- What becomes of the book and the fill list over a run: each released trade's order is taken by the book, in turn.
use Rattle.std.specs.Prelude.{◌≡◌, List, [], ◌∷◌, Ok, Err}
use Rattle.lines.specs.Pages.{Page}
use Rattle.book.specs.declared.book.Book.{Book}
use Rattle.book.specs.declared.fill.Fill.{Fill}
use Rattle.book.specs.TakeOrder.{Settled}
use Rattle.records.specs.Trade.{order_of}
use Rattle.order.specs.declared.event.Event.{Event}
use Rattle.order.specs.declared.event.Event.TheVariants as event

-- a book, and the page that its fills are written on
pub record Desk : Type 0 where
  pub book : Book
  pub fills : Page Fill

-- a release that is accepted hands its trade's order to the book; nothing else reaches it
abbrev pub Books : Desk → Event → Desk → Type 0
Books d (event.Release (Ok x)) e = Settled d.book (order_of x.line.trade) d.fills e.book e.fills x.booked
Books d (event.Release (Err r)) e = e ≡ d
Books d (event.Point t x r) e = e ≡ d
Books d (event.Seal t r) e = e ≡ d
Books d (event.Deliver t k r) e = e ≡ d
Books d (event.Submit t k o r) e = e ≡ d
Books d (event.Beat t k r) e = e ≡ d
Books d (event.End t k r) e = e ≡ d
Books d (event.Collect t k r) e = e ≡ d

-- over a run, the newest first
abbrev pub BookedOver : Desk → List Event → Desk → Type 0
BookedOver d [] e = e ≡ d
BookedOver d (x ∷ xs) e = (c : Desk) × BookedOver d xs c × Books c x e

abbrev pub desk : Book → Page Fill → Desk
desk b p = record { book = b; fills = p }
