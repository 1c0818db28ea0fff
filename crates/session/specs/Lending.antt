-- A session with the record of one seat changed, and all else as it was.
use Rattle.std.specs.Prelude.{ℕ}
use Rattle.std.specs.Vec.{with_item}
use Rattle.records.specs.declared.seat.Seat.{Seat}
use Rattle.session.specs.declared.state.State.{State}

abbrev pub with_seat : State → ℕ → Seat → State
with_seat s k x = record { times = s.times; last = s.last; market = s.market; seats = with_item s.seats k x; buffer = s.buffer }
