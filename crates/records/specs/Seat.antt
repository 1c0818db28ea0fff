-- A seat's record: what it is before the first call, and what each call makes of it. A call changes the record of the
-- seat that it names and of no other.
use Rattle.std.specs.Prelude.{ℕ, ◌+◌, ◌-◌, Bool, true, false, ◌&&◌, Ok, Err, Result, ◌==◌, nat_le}
use Rattle.records.specs.declared.batch.Batch.{Batch}
use Rattle.records.specs.declared.refusal.Refusal.{Refusal}
use Rattle.records.specs.declared.refusal.Refusal.TheVariants as refusal
use Rattle.records.specs.declared.seat.Condition.{Condition}
use Rattle.records.specs.declared.seat.Condition.TheVariants.{Bare, Served, Ended}
use Rattle.records.specs.declared.seat.Seat.{Seat}
use Rattle.records.specs.declared.seat.SeatCall.{SeatCall}
use Rattle.records.specs.declared.seat.SeatCall.TheVariants as call
use Rattle.records.specs.declared.tag.Watermark.{Watermark}
use Rattle.records.specs.declared.tag.Watermark.TheVariants.{At}
use Rattle.records.specs.declared.trade.Trade.{Trade}

-- a seat that was never named by a call
abbrev pub blank : Seat
blank = record { condition = Bare; batch = 0; point = 0; submitted = 0; collected = 0; released = 0; watermark = At (record { batch = 0; elapsed = 0 }) }

abbrev pub is_bare : Condition → Bool
is_bare Bare = true
is_bare Served = false
is_bare Ended = false

abbrev pub is_served : Condition → Bool
is_served Bare = false
is_served Served = true
is_served Ended = false

abbrev pub is_ended : Condition → Bool
is_ended Bare = false
is_ended Served = false
is_ended Ended = true

-- each call moves a seat's condition on, keeps it or is refused
abbrev pub turned : Condition → SeatCall → ℕ → Result Condition Refusal
turned Bare call.Deliver k = Ok Served
turned Bare call.Submit k = Err (refusal.Bare k)
turned Bare call.Beat k = Ok Bare
turned Bare call.End k = Ok Ended
turned Served call.Deliver k = Ok Served
turned Served call.Submit k = Ok Served
turned Served call.Beat k = Ok Served
turned Served call.End k = Ok Ended
turned Ended c k = Err (refusal.Ended k)

-- a batch was delivered: the seat is in this condition, and knows the batch and its last point
abbrev pub served_as : Condition → Batch → Seat → Seat
served_as c b s = record { condition = c; batch = b.number; point = b.first + b.count - 1; submitted = s.submitted; collected = s.collected; released = s.released; watermark = s.watermark }

-- which is to be served
abbrev pub served_with : Batch → Seat → Seat
served_with b s = served_as Served b s

-- a trade was submitted
abbrev pub submitted_once : Seat → Seat
submitted_once s = record { condition = s.condition; batch = s.batch; point = s.point; submitted = s.submitted + 1; collected = s.collected; released = s.released; watermark = s.watermark }

-- the seat has ended
abbrev pub ended_now : Seat → Seat
ended_now s = record { condition = Ended; batch = s.batch; point = s.point; submitted = s.submitted; collected = s.collected; released = s.released; watermark = s.watermark }

-- a message was collected: so many trades were by now, and so far the seat is known
abbrev pub collected_with : ℕ → Watermark → Seat → Seat
collected_with n m s = record { condition = s.condition; batch = s.batch; point = s.point; submitted = s.submitted; collected = n; released = s.released; watermark = m }

-- a trade was released
abbrev pub released_once : Seat → Seat
released_once s = record { condition = s.condition; batch = s.batch; point = s.point; submitted = s.submitted; collected = s.collected; released = s.released + 1; watermark = s.watermark }

-- a trade is the seat's next: it names the seat and the serial after those collected, and a submit of that was accepted.
-- Any other trade is stray
abbrev pub is_next : Seat → ℕ → Trade → Bool
is_next s k x = x.seat == k && x.serial == s.collected + 1 && nat_le x.serial s.submitted
