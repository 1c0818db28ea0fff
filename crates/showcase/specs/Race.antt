-- What the table of a race reads off the events.
use Rattle.std.specs.Prelude.{◌≡◌, ℕ, if◌then◌else◌, ◌&&◌, List, Some, None, Ok, Err, Option, ◌==◌, filter, slice_get}
use Rattle.std.specs.Fn.{FnReturnsAt}
use Rattle.std.specs.List.{filter_map}
use denote.Param.Members.{Shared}
use denote.Ref.{Bor}
use Rattle.records.specs.declared.message.Kind.TheVariants as kind
use Rattle.order.specs.declared.event.Event.{Event}
use Rattle.order.specs.declared.event.Event.TheVariants as event
use Rattle.order.specs.History.{holds}
use Rattle.showcase.specs.declared.race.Entry.{Entry}

-- the moment of an accepted deliver to the seat, if its batch holds the point
abbrev pub handed_out : (seat point : ℕ) → Event → Option ℕ
handed_out k p (event.Deliver t j (Ok b)) = if j == k && holds b p then Some t else None
handed_out k p (event.Deliver t j (Err e)) = None
handed_out k p (event.Point t x r) = None
handed_out k p (event.Seal t r) = None
handed_out k p (event.Submit t j o r) = None
handed_out k p (event.Beat t j r) = None
handed_out k p (event.End t j r) = None
handed_out k p (event.Collect t j r) = None
handed_out k p (event.Release r) = None

-- the moment of an accepted submit of the seat, if it answered the serial
abbrev pub sent_off : (seat serial : ℕ) → Event → Option ℕ
sent_off k n (event.Submit t j o (Ok s)) = if j == k && s == n then Some t else None
sent_off k n (event.Submit t j o (Err e)) = None
sent_off k n (event.Point t x r) = None
sent_off k n (event.Seal t r) = None
sent_off k n (event.Deliver t j r) = None
sent_off k n (event.Beat t j r) = None
sent_off k n (event.End t j r) = None
sent_off k n (event.Collect t j r) = None
sent_off k n (event.Release r) = None

-- the moment of a collect that took a trade of the seat
abbrev pub taken_off : (seat : ℕ) → Event → Option ℕ
taken_off k (event.Collect t j (Ok kind.Trade)) = if j == k then Some t else None
taken_off k (event.Collect t j (Ok kind.Beat)) = None
taken_off k (event.Collect t j (Ok kind.End)) = None
taken_off k (event.Collect t j (Err e)) = None
taken_off k (event.Point t x r) = None
taken_off k (event.Seal t r) = None
taken_off k (event.Deliver t j r) = None
taken_off k (event.Submit t j o r) = None
taken_off k (event.Beat t j r) = None
taken_off k (event.End t j r) = None
taken_off k (event.Release r) = None

-- the answer that has so many ahead of it, of those that events give to a question
abbrev pub nth_answer : (Event → Option ℕ) → (ahead : ℕ) → List Event → Option ℕ
nth_answer q ahead es = slice_get (filter_map q es) ahead

-- the first answer that an event gives to a question
abbrev pub first_answer : (Event → Option ℕ) → List Event → Option ℕ
first_answer q es = nth_answer q 0 es

-- a closure reads v off each order
abbrev pub Reads : {F : Type 0} → Shared F (Bor Entry × Unit {0}) ℕ → F → (Entry → ℕ) → Type 0
Reads g f v = (e : Entry) (n : ℕ) → FnReturnsAt g f e n → n ≡ v e

-- the orders that answered a tick
abbrev pub answering : (tick : ℕ) → List Entry → List Entry
answering tick es = filter (λ e. e.tick == tick) es
