-- Release: the buffer's first trade becomes the next line of the tape, exactly when every other seat's watermark is above
-- its tag and a line is free.
use Rattle.std.specs.Prelude.{◌≡◌, ℕ, ◌+◌, ◌<◌, Bool, true, false, not, ◌&&◌, List, [], ◌∷◌, length, Ok, Err, Result, ◌==◌, slice_index_or, slice_set}
use Rattle.std.specs.List.Sorted.{IsPermutation}
use Rattle.std.specs.List.{AllByRecursion, ContainsAt}
use Rattle.lines.specs.Pages.{Page, Written, full}
use Rattle.records.specs.declared.line.Line.{Line}
use Rattle.records.specs.declared.refusal.Refusal.{Refusal}
use Rattle.records.specs.declared.refusal.Refusal.TheVariants as refusal
use Rattle.records.specs.declared.seat.Seat.{Seat}
use Rattle.records.specs.declared.trade.Trade.{Trade}
use Rattle.records.specs.Seat.{blank, released_once}
use Rattle.records.specs.Tag.{above}
use Rattle.records.specs.Trade.{TradeUpto}
use Rattle.session.specs.World.{World, seat_of}

-- a seat holds a trade up: it is another seat, and its watermark is not above the trade's tag
abbrev pub holds_up : List Seat → Trade → ℕ → Bool
holds_up seats x j = not (j == x.seat) && not (above (slice_index_or seats j blank).watermark x.tag)

-- no seat holds a trade up: every other seat's watermark is above its tag
abbrev pub Clear : List Seat → Trade → Type 0
Clear seats x = (j : ℕ) → j < length seats → holds_up seats x j ≡ false

-- one that does
abbrev pub Holds : List Seat → Trade → ℕ → Type 0
Holds seats x j = (j < length seats) × (holds_up seats x j ≡ true)

-- the buffer's first trade, and the others
pub record Head (buffer : List Trade) (x : Trade) (others : List Trade) : Type 0 where
  pub all : IsPermutation buffer (x ∷ others)
  pub first : AllByRecursion (TradeUpto x) others

-- the first trade becomes the next line, with its place from 1, and its seat has one more released
pub record Released (w : World) (line : Line) (v : World) : Type 0 where
  pub others : List Trade
  pub head : Head w.buffer line.trade others
  pub clear : Clear w.seats line.trade
  pub free : full w.tape ≡ false
  pub placed : line.place ≡ w.tape.used + 1
  pub page : Page Line
  pub wrote : Written w.tape (line ∷ []) page
  pub after : v ≡ record {
    times = w.times;
    last = w.last;
    market = w.market;
    seats = slice_set w.seats line.trade.seat (released_once (seat_of w line.trade.seat));
    buffer = others;
    points = w.points;
    tape = page;
    forward = w.forward;
    reverse = w.reverse;
    clock = w.clock;
  }

-- a trade of the buffer that none there precedes
abbrev pub FirstIn : List Trade → Trade → Type 0
FirstIn buffer x = ContainsAt buffer x × AllByRecursion (TradeUpto x) buffer

-- why nothing is released: the buffer is empty (60), a seat holds its first trade up (61, which may name any that does),
-- or the tape has no free line (62)
pub data Unreleased (w : World) (e : Refusal) : Type 0 where
  empty : w.buffer ≡ [] → e ≡ refusal.BufferEmpty → Unreleased w e
  held_up : (x : Trade) (j : ℕ) → FirstIn w.buffer x → Holds w.seats x j → e ≡ refusal.HeldUp j x.tag.batch → Unreleased w e
  no_line : (x : Trade) → FirstIn w.buffer x → Clear w.seats x → full w.tape ≡ true → e ≡ refusal.TapeFull → Unreleased w e

abbrev pub Releases : World → Result Line Refusal → World → Type 0
Releases w (Ok line) v = Released w line v
Releases w (Err e) v = Unreleased w e × (v ≡ w)
