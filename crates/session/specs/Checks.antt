-- The checks that several calls share.
use Rattle.std.specs.Prelude.{ℕ, Bool, not, ◌||◌, length, Option, nat_le, nat_lt}
use Rattle.network.specs.Network.{has_room, limit}
use Rattle.records.specs.declared.refusal.Refusal.TheVariants as refusal
use Rattle.records.specs.Checks.{Check}
use Rattle.records.specs.Seat.{is_ended}
use Rattle.session.specs.World.{World, seat_of}

-- 10: the moment is before that of the last accepted call that had one, or is 2^48 or more
abbrev pub untimely : (last t : ℕ) → Bool
untimely last t = nat_lt t last || nat_le limit t

abbrev pub moment_check : World → (seat : Option ℕ) → ℕ → Check
moment_check w seat t = record { fails = untimely w.last t; refused = refusal.BadMoment seat }

-- 11: there is no such seat
abbrev pub seat_check : World → ℕ → Check
seat_check w k = record { fails = nat_le (length w.seats) k; refused = refusal.NoSeat k }

-- 12: the seat has ended
abbrev pub ended_check : World → ℕ → Check
ended_check w k = record { fails = is_ended (seat_of w k).condition; refused = refusal.Ended k }

-- 45: the seat's reverse link has no room
abbrev pub reverse_check : World → ℕ → Check
reverse_check w k = record { fails = not (has_room w.reverse k); refused = refusal.ReverseFull k }
