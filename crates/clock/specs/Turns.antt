-- A clock that begins at a start, counts nanoseconds, and begins again at 0 after so many: its turn.
-- A reading of it stands for a moment, so a clock need keep no more than readings.
use Rattle.std.specs.Prelude.{ℕ, ◌+◌, ◌-◌, ◌%◌}

-- what a clock with this start shows at a moment
abbrev pub shown : (turn start moment : ℕ) → ℕ
shown turn start moment = (start + moment) % turn

-- the time from one reading on to another, with at most one turn between
abbrev pub onward : (turn from to : ℕ) → ℕ
onward turn from to = (to + (turn - from)) % turn

-- the moment at which a clock with this start shows a reading
abbrev pub moment_of : (turn start reading : ℕ) → ℕ
moment_of turn start reading = onward turn (start % turn) reading
