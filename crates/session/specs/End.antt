-- End: an end is sent on the seat's reverse link, and the seat has ended.
use Rattle.std.specs.Prelude.{◌≡◌, ℕ, Ok, Err, Result, slice_set}
use Rattle.network.specs.Network.{Net, Sent}
use Rattle.records.specs.declared.message.Message.{Message}
use Rattle.records.specs.declared.message.Message.TheVariants as message
use Rattle.records.specs.declared.refusal.Refusal.{Refusal}
use Rattle.records.specs.Checks.{Passed, Refused}
use Rattle.records.specs.Seat.{ended_now}
use Rattle.session.specs.Beat.{send_checks}
use Rattle.session.specs.World.{World, seat_of}

pub record Ended (w : World) (t k : ℕ) (v : World) : Type 0 where
  pub net : Net Message
  pub sent : Sent w.reverse net k t message.End
  pub after : v ≡ record {
    times = w.times;
    last = t;
    market = w.market;
    seats = slice_set w.seats k (ended_now (seat_of w k));
    buffer = w.buffer;
    points = w.points;
    tape = w.tape;
    forward = w.forward;
    reverse = net;
    clock = w.clock;
  }

abbrev pub Ends : {U : Type 0} → World → (t k : ℕ) → Result U Refusal → World → Type 0
Ends w t k (Ok _) v = Passed (send_checks w t k) × Ended w t k v
Ends w t k (Err e) v = Refused (send_checks w t k) e × (v ≡ w)
