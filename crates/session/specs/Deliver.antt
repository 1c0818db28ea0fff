-- Deliver: the first batch on the seat's forward link is handed out, and the seat's stop-clock is marked.
use Rattle.std.specs.Prelude.{◌≡◌, ℕ, Bool, not, ◌&&◌, List, [], ◌∷◌, Some, Ok, Err, Result, nat_lt, slice_set}
use Rattle.network.specs.Network.{Net, Taken, is_waiting}
use Rattle.clock.specs.StopClock.{elapsed, marked}
use Rattle.records.specs.declared.batch.Batch.{Batch}
use Rattle.records.specs.declared.refusal.Refusal.{Refusal}
use Rattle.records.specs.declared.refusal.Refusal.TheVariants as refusal
use Rattle.records.specs.Checks.{Check, Passed, Refused}
use Rattle.records.specs.Seat.{is_served, served_with}
use Rattle.session.specs.Checks.{moment_check, seat_check, ended_check}
use Rattle.session.specs.World.{World, seat_of}

-- 30: no batch is waiting for the seat
abbrev pub waiting_check : World → (t k : ℕ) → Check
waiting_check w t k = record { fails = not (is_waiting w.forward k t); refused = refusal.NoBatch k (seat_of w k).batch }

-- 31: the seat is served, and less than the horizon has passed since its last delivery
abbrev pub served_lately : World → (t k : ℕ) → Bool
served_lately w t k = is_served (seat_of w k).condition && nat_lt (elapsed w.clock k t) w.times.horizon

abbrev pub horizon_check : World → (t k : ℕ) → Check
horizon_check w t k = record { fails = served_lately w t k; refused = refusal.ServedLately k (seat_of w k).batch }

abbrev pub deliver_checks : World → (t k : ℕ) → List Check
deliver_checks w t k = moment_check w (Some k) t ∷ seat_check w k ∷ ended_check w k ∷ waiting_check w t k ∷ horizon_check w t k ∷ []

pub record Delivered (w : World) (t k : ℕ) (b : Batch) (v : World) : Type 0 where
  pub net : Net Batch
  pub taken : Taken w.forward net k t b
  pub after : v ≡ record {
    times = w.times;
    last = t;
    market = w.market;
    seats = slice_set w.seats k (served_with b (seat_of w k));
    buffer = w.buffer;
    points = w.points;
    tape = w.tape;
    forward = net;
    reverse = w.reverse;
    clock = marked w.clock k t;
  }

abbrev pub Delivers : World → (t k : ℕ) → Result Batch Refusal → World → Type 0
Delivers w t k (Ok b) v = Passed (deliver_checks w t k) × Delivered w t k b v
Delivers w t k (Err e) v = Refused (deliver_checks w t k) e × (v ≡ w)
