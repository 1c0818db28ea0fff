-- What the law speaks of, read off the calls' moments and answers alone, and never off tags. Histories are the newest
-- first.
use Rattle.std.specs.Prelude.{◌≡◌, ℕ, ◌+◌, ◌-◌, Bool, if◌then◌else◌, ◌&&◌, ◌⊎◌, List, [], ◌∷◌, Ok, Err, ◌==◌, nat_le, nat_lt}
use Rattle.records.specs.declared.batch.Batch.{Batch}
use Rattle.records.specs.declared.message.Kind.TheVariants as kind
use Rattle.records.specs.declared.trade.Trade.{Trade}
use Rattle.order.specs.declared.event.Event.{Event}
use Rattle.order.specs.declared.event.Event.TheVariants as event

-- an accepted deliver
pub record Delivery : Type 0 where
  pub moment : ℕ
  pub batch : Batch

-- the accepted delivers to a seat
abbrev pub deliveries : List Event → ℕ → List Delivery
deliveries [] k = []
deliveries (event.Deliver t j (Ok b) ∷ es) k = if k == j then (record { moment = t; batch = b }) ∷ deliveries es k else deliveries es k
deliveries (event.Deliver t j (Err e) ∷ es) k = deliveries es k
deliveries (event.Point t x r ∷ es) k = deliveries es k
deliveries (event.Seal t r ∷ es) k = deliveries es k
deliveries (event.Submit t j o r ∷ es) k = deliveries es k
deliveries (event.Beat t j r ∷ es) k = deliveries es k
deliveries (event.End t j r ∷ es) k = deliveries es k
deliveries (event.Collect t j r ∷ es) k = deliveries es k
deliveries (event.Release r ∷ es) k = deliveries es k

-- the moment of the last one, or 0
abbrev pub last_moment : List Delivery → ℕ
last_moment [] = 0
last_moment (d ∷ ds) = d.moment

-- the number of its batch, or 0
abbrev pub last_number : List Delivery → ℕ
last_number [] = 0
last_number (d ∷ ds) = d.batch.number

-- a batch holds a point
abbrev pub holds : Batch → ℕ → Bool
holds b p = nat_le b.first p && nat_lt p (b.first + b.count)

-- the moment at which a point reached the seat: that of the deliver which answered the batch that holds it
abbrev pub reached : List Delivery → ℕ → ℕ
reached [] p = 0
reached (d ∷ ds) p = if holds d.batch p then d.moment else reached ds p

-- An accepted submit: its trade, with the batch of the seat's last accepted deliver before it and the true time since
-- that deliver in the place of a tag; and its response, the time since its trigger reached the seat.
pub record Submission : Type 0 where
  pub trade : Trade
  pub response : ℕ

abbrev pub submissions : List Event → List Submission
submissions [] = []
submissions (event.Submit t k o (Ok n) ∷ es) =
    (record {
      trade = record {
        seat = k;
        serial = n;
        tag = record { batch = last_number (deliveries es k); elapsed = t - last_moment (deliveries es k) };
        trigger = o.trigger;
        side = o.side;
        price = o.price;
        quantity = o.quantity;
      };
      response = t - reached (deliveries es k) o.trigger;
    }) ∷ submissions es
submissions (event.Submit t k o (Err e) ∷ es) = submissions es
submissions (event.Point t x r ∷ es) = submissions es
submissions (event.Seal t r ∷ es) = submissions es
submissions (event.Deliver t j r ∷ es) = submissions es
submissions (event.Beat t j r ∷ es) = submissions es
submissions (event.End t j r ∷ es) = submissions es
submissions (event.Collect t j r ∷ es) = submissions es
submissions (event.Release r ∷ es) = submissions es

abbrev pub trades_of : List Submission → List Trade
trades_of [] = []
trades_of (s ∷ ss) = s.trade ∷ trades_of ss

-- the accepted trades
abbrev pub accepted_trades : List Event → List Trade
accepted_trades es = trades_of (submissions es)

-- collect has answered an end for the seat
abbrev pub EndCollected : List Event → ℕ → Type 0
EndCollected [] k = ⊥
EndCollected (event.Collect t j (Ok a) ∷ es) k = ((k ≡ j) × (a ≡ kind.End)) ⊎ EndCollected es k
EndCollected (event.Collect t j (Err e) ∷ es) k = EndCollected es k
EndCollected (event.Point t x r ∷ es) k = EndCollected es k
EndCollected (event.Seal t r ∷ es) k = EndCollected es k
EndCollected (event.Deliver t j r ∷ es) k = EndCollected es k
EndCollected (event.Submit t j o r ∷ es) k = EndCollected es k
EndCollected (event.Beat t j r ∷ es) k = EndCollected es k
EndCollected (event.End t j r ∷ es) k = EndCollected es k
EndCollected (event.Release r ∷ es) k = EndCollected es k
