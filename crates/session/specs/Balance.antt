-- What always holds of a session's seats and its buffer: each seat's counts agree with the trades in the buffer. So no
-- seat has more than 16 there, and the buffer never needs room for more than 256.
use Rattle.std.specs.Prelude.{◌≡◌, ℕ, ◌+◌, ◌≤◌, List, count_by, nat_eq, slice_index_or}
use Rattle.records.specs.declared.seat.Seat.{Seat}
use Rattle.records.specs.declared.trade.Trade.{Trade}
use Rattle.records.specs.Seat.{blank}
use Rattle.records.specs.Offer.{most_pending, most_trades}

-- the buffer has room for so many trades: 16 for each of 16 seats
abbrev pub buffer_room : ℕ
buffer_room = 256

-- how many trades of a seat a list holds
abbrev pub of_seat : ℕ → List Trade → ℕ
of_seat k xs = count_by (λ x. nat_eq x.seat k) xs

-- a seat's trades that were collected are released or in the buffer; there is none of a seat that does not exist
abbrev pub Tallied : List Seat → List Trade → Type 0
Tallied seats buffer = (k : ℕ) → (slice_index_or seats k blank).released + of_seat k buffer ≡ (slice_index_or seats k blank).collected

-- those collected were submitted
abbrev pub SentFirst : List Seat → Type 0
SentFirst seats = (k : ℕ) → (slice_index_or seats k blank).collected ≤ (slice_index_or seats k blank).submitted

-- few of those submitted are not released
abbrev pub FewPending : List Seat → Type 0
FewPending seats = (k : ℕ) → (slice_index_or seats k blank).submitted ≤ (slice_index_or seats k blank).released + most_pending

-- no seat has submitted more than it may
abbrev pub FewTrades : List Seat → Type 0
FewTrades seats = (k : ℕ) → (slice_index_or seats k blank).submitted ≤ most_trades
