-- Collect: the first message on the seat's reverse link is taken. A trade goes into the buffer, unless it is stray; the
-- message's tag, a stray trade's too, becomes the seat's watermark.
use Rattle.std.specs.Prelude.{◌≡◌, ℕ, ◌+◌, not, List, [], ◌∷◌, Some, Ok, Err, MatchBool, Result, slice_set}
use Rattle.std.specs.List.Sorted.{IsPermutation}
use Rattle.network.specs.Network.{Net, Taken, is_waiting}
use Rattle.records.specs.declared.message.Kind.{Kind}
use Rattle.records.specs.declared.message.Message.{Message}
use Rattle.records.specs.declared.message.Message.TheVariants as message
use Rattle.records.specs.declared.refusal.Refusal.{Refusal}
use Rattle.records.specs.declared.refusal.Refusal.TheVariants as refusal
use Rattle.records.specs.declared.seat.Seat.{Seat}
use Rattle.records.specs.declared.trade.Trade.{Trade}
use Rattle.records.specs.Checks.{Check, Passed, Refused}
use Rattle.records.specs.Seat.{is_next}
use Rattle.records.specs.Message.{kind_of, stamp}
use Rattle.records.specs.Seat.{collected_with}
use Rattle.session.specs.Checks.{moment_check, seat_check}
use Rattle.session.specs.World.{World, seat_of}

-- 50: no message of the seat is waiting
abbrev pub message_check : World → (t k : ℕ) → Check
message_check w t k = record { fails = not (is_waiting w.reverse k t); refused = refusal.NoMessage k }

abbrev pub collect_checks : World → (t k : ℕ) → List Check
collect_checks w t k = moment_check w (Some k) t ∷ seat_check w k ∷ message_check w t k ∷ []

-- how many trades of the seat are collected once a message is, and what the buffer then holds
abbrev pub Put : Seat → ℕ → Message → (count : ℕ) → (before after : List Trade) → Type 0
Put s k (message.Trade x) n before after = MatchBool (is_next s k x) ((n ≡ s.collected + 1) × IsPermutation (x ∷ before) after) ((n ≡ s.collected) × (after ≡ before))
Put s k (message.Beat g) n before after = (n ≡ s.collected) × (after ≡ before)
Put s k message.End n before after = (n ≡ s.collected) × (after ≡ before)

pub record Collected (w : World) (t k : ℕ) (answer : Kind) (v : World) : Type 0 where
  pub message : Message
  pub named : answer ≡ kind_of message
  pub net : Net Message
  pub taken : Taken w.reverse net k t message
  pub count : ℕ
  pub buffer : List Trade
  pub put : Put (seat_of w k) k message count w.buffer buffer
  pub after : v ≡ record {
    times = w.times;
    last = t;
    market = w.market;
    seats = slice_set w.seats k (collected_with count (stamp message) (seat_of w k));
    buffer = buffer;
    points = w.points;
    tape = w.tape;
    forward = w.forward;
    reverse = net;
    clock = w.clock;
  }

abbrev pub Collects : World → (t k : ℕ) → Result Kind Refusal → World → Type 0
Collects w t k (Ok answer) v = Passed (collect_checks w t k) × Collected w t k answer v
Collects w t k (Err e) v = Refused (collect_checks w t k) e × (v ≡ w)
