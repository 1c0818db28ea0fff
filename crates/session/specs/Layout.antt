-- What setting a layout's times and adding a seat answer, and what they leave. Opening never refuses.
use Rattle.std.specs.Prelude.{ℕ, ◌+◌, if◌then◌else◌, Ok, Err, Result, nat_le, vec_len}
use Rattle.records.specs.declared.flaw.Flaw.{Flaw}
use Rattle.records.specs.declared.flaw.Flaw.TheVariants as flaw
use Rattle.session.specs.declared.layout.Layout.{Layout}
use Rattle.session.specs.Opening.{Plan, most_seats}
use Rattle.session.specs.World.{times_of}

-- the plan of a layout
abbrev pub plan : Layout → Plan
plan l = record { times = times_of l.times; seats = vec_len l.seats }

-- a new layout
abbrev pub first_plan : Plan
first_plan = record { times = record { horizon = 1; window = 2 }; seats = 0 }

-- the times are set, or nothing changes
abbrev pub with_times : {U : Type 0} → Plan → (horizon window : ℕ) → Result U Flaw → Plan
with_times p horizon window (Ok _) = record { times = record { horizon = horizon; window = window }; seats = p.seats }
with_times p horizon window (Err _) = p

-- 3: there are as many seats as there may be; else the new seat's number is answered
abbrev pub seat_answer : Plan → Result ℕ Flaw
seat_answer p = if nat_le most_seats p.seats then Err flaw.Seats else Ok p.seats

-- there is one seat more, or nothing changes
abbrev pub with_seat_more : Plan → Result ℕ Flaw → Plan
with_seat_more p (Ok _) = record { times = p.times; seats = p.seats + 1 }
with_seat_more p (Err _) = p
