-- Beat: the seat's tag is sent on its reverse link.
use Rattle.std.specs.Prelude.{◌≡◌, ℕ, List, [], ◌∷◌, Some, Ok, Err, Result}
use Rattle.network.specs.Network.{Net, Sent}
use Rattle.records.specs.declared.message.Message.{Message}
use Rattle.records.specs.declared.message.Message.TheVariants as message
use Rattle.records.specs.declared.refusal.Refusal.{Refusal}
use Rattle.records.specs.Checks.{Check, Passed, Refused}
use Rattle.session.specs.Checks.{moment_check, seat_check, ended_check, reverse_check}
use Rattle.session.specs.World.{World, tag_at}

-- what a beat and an end check
abbrev pub send_checks : World → (t k : ℕ) → List Check
send_checks w t k = moment_check w (Some k) t ∷ seat_check w k ∷ ended_check w k ∷ reverse_check w k ∷ []

pub record Beaten (w : World) (t k : ℕ) (v : World) : Type 0 where
  pub net : Net Message
  pub sent : Sent w.reverse net k t (message.Beat (tag_at w k t))
  pub after : v ≡ record {
    times = w.times;
    last = t;
    market = w.market;
    seats = w.seats;
    buffer = w.buffer;
    points = w.points;
    tape = w.tape;
    forward = w.forward;
    reverse = net;
    clock = w.clock;
  }

abbrev pub Beats : {U : Type 0} → World → (t k : ℕ) → Result U Refusal → World → Type 0
Beats w t k (Ok _) v = Passed (send_checks w t k) × Beaten w t k v
Beats w t k (Err e) v = Refused (send_checks w t k) e × (v ≡ w)
