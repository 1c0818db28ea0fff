-- Submit: a trade with the seat's tag is sent on its reverse link.
use Rattle.std.specs.Prelude.{◌≡◌, ℕ, ◌+◌, List, [], ◌∷◌, ◌++◌, Some, Ok, Err, Result, slice_set}
use Rattle.network.specs.Network.{Net, Sent}
use Rattle.records.specs.declared.message.Message.{Message}
use Rattle.records.specs.declared.message.Message.TheVariants as message
use Rattle.records.specs.declared.offer.Offer.{Offer}
use Rattle.records.specs.declared.refusal.Refusal.{Refusal}
use Rattle.records.specs.declared.refusal.Refusal.TheVariants as refusal
use Rattle.records.specs.declared.trade.Trade.{Trade}
use Rattle.records.specs.Checks.{Check, Passed, Refused}
use Rattle.records.specs.Offer.{offer_checks}
use Rattle.records.specs.Seat.{is_bare, submitted_once}
use Rattle.session.specs.Checks.{moment_check, seat_check, ended_check, reverse_check}
use Rattle.session.specs.World.{World, seat_of, tag_at}

-- 40: the seat is bare
abbrev pub bare_check : World → ℕ → Check
bare_check w k = record { fails = is_bare (seat_of w k).condition; refused = refusal.Bare k }

abbrev pub submit_checks : World → (t k : ℕ) → Offer → List Check
submit_checks w t k o =
    moment_check w (Some k) t ∷ seat_check w k ∷ ended_check w k ∷ bare_check w k
    ∷ (offer_checks (seat_of w k) k o ++ reverse_check w k ∷ [])

-- the trade that an offer becomes: with the seat's next serial, and its tag now
abbrev pub trade_of : World → (t k : ℕ) → Offer → Trade
trade_of w t k o = record {
  seat = k;
  serial = (seat_of w k).submitted + 1;
  tag = tag_at w k t;
  trigger = o.trigger;
  side = o.side;
  price = o.price;
  quantity = o.quantity;
}

pub record Submitted (w : World) (t k : ℕ) (o : Offer) (serial : ℕ) (v : World) : Type 0 where
  pub numbered : serial ≡ (seat_of w k).submitted + 1
  pub net : Net Message
  pub sent : Sent w.reverse net k t (message.Trade (trade_of w t k o))
  pub after : v ≡ record {
    times = w.times;
    last = t;
    market = w.market;
    seats = slice_set w.seats k (submitted_once (seat_of w k));
    buffer = w.buffer;
    points = w.points;
    tape = w.tape;
    forward = w.forward;
    reverse = net;
    clock = w.clock;
  }

abbrev pub Submits : World → (t k : ℕ) → Offer → Result ℕ Refusal → World → Type 0
Submits w t k o (Ok serial) v = Passed (submit_checks w t k o) × Submitted w t k o serial v
Submits w t k o (Err e) v = Refused (submit_checks w t k o) e × (v ≡ w)
