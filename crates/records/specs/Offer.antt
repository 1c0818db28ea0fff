-- What a served seat checks of an offer.
use Rattle.std.specs.Prelude.{ℕ, ◌+◌, Bool, ◌||◌, List, [], ◌∷◌, ◌==◌, nat_le, nat_lt}
use Rattle.records.specs.declared.offer.Offer.{Offer}
use Rattle.records.specs.declared.refusal.Refusal.TheVariants as refusal
use Rattle.records.specs.declared.seat.Seat.{Seat}
use Rattle.records.specs.Checks.{Check}

-- prices are 1 to this, quantities 1 to that, a seat has so many trades in all, and so many that are not released
abbrev pub most_price : ℕ
most_price = 1000000000

abbrev pub most_quantity : ℕ
most_quantity = 1000000

abbrev pub most_trades : ℕ
most_trades = 1000000

abbrev pub most_pending : ℕ
most_pending = 16

-- a number that isn't 1 to most
abbrev pub outside : (most n : ℕ) → Bool
outside most n = n == 0 || nat_lt most n

-- 41: the trigger is 0 or above the last point delivered to the seat
abbrev pub trigger_check : Seat → ℕ → Offer → Check
trigger_check s k o = record { fails = outside s.point o.trigger; refused = refusal.BadTrigger k }

-- 42: the price or the quantity is out of range
abbrev pub order_check : ℕ → Offer → Check
order_check k o = record { fails = outside most_price o.price || outside most_quantity o.quantity; refused = refusal.BadOrder k }

-- 43: the seat has had all its trades
abbrev pub trades_check : Seat → ℕ → Check
trades_check s k = record { fails = nat_le most_trades s.submitted; refused = refusal.TradesSpent k }

-- 44: as many of its trades as may be are accepted and not released
abbrev pub pending_check : Seat → ℕ → Check
pending_check s k = record { fails = nat_le (s.released + most_pending) s.submitted; refused = refusal.TooManyPending k }

-- what a served seat checks of an offer
abbrev pub offer_checks : Seat → ℕ → Offer → List Check
offer_checks s k o = trigger_check s k o ∷ order_check k o ∷ trades_check s k ∷ pending_check s k ∷ []
