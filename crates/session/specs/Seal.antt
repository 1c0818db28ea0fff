-- Seal: the open batch is sent to every seat that has not ended, and an empty one is opened.
use Rattle.std.specs.Prelude.{◌≡◌, ℕ, zero, suc, ◌+◌, Bool, true, false, if◌then◌else◌, not, ◌&&◌, List, [], ◌∷◌, length, is_some, Some, None, Ok, Err, Option, Result, ◌==◌, nat_lt, slice_index_or}
use Rattle.std.specs.Option.{unwrap_or}
use Rattle.network.specs.Network.{Net, Link, Added, Sent, has_room}
use Rattle.records.specs.declared.batch.Batch.{Batch}
use Rattle.records.specs.declared.refusal.Refusal.{Refusal}
use Rattle.records.specs.declared.refusal.Refusal.TheVariants as refusal
use Rattle.records.specs.declared.seat.Seat.{Seat}
use Rattle.records.specs.Checks.{Check, Passed, Refused}
use Rattle.records.specs.Market.{open_batch, sealed_lately, sealed_once}
use Rattle.records.specs.Seat.{blank, is_ended}
use Rattle.session.specs.Checks.{moment_check}
use Rattle.session.specs.World.{World}

-- a batch is due to a seat that has not ended
abbrev pub due : List Seat → ℕ → Bool
due seats k = nat_lt k (length seats) && not (is_ended (slice_index_or seats k blank).condition)

-- a seat holds the seal up: the batch is due to it, and its forward link has no room
abbrev pub crowded : List Seat → Net Batch → ℕ → Bool
crowded seats n k = due seats k && not (has_room n k)

-- the lowest number below n that passes a test
abbrev pub lowest : (ℕ → Bool) → ℕ → Option ℕ
lowest test zero = None
lowest test (suc n) = elim (lowest test n) [ Some k ↦ Some k | None ↦ if test n then Some n else None ]

-- 22, 23 and 24
abbrev pub batch_empty_check : World → Check
batch_empty_check w = record { fails = (w.market.unsealed == 0); refused = refusal.BatchEmpty }

abbrev pub window_check : World → ℕ → Check
window_check w t = record { fails = sealed_lately w.market w.times.window t; refused = refusal.SealedLately }

abbrev pub lowest_crowded : World → Option ℕ
lowest_crowded w = lowest (crowded w.seats w.forward) (length w.seats)

abbrev pub forward_check : World → Check
forward_check w = record { fails = is_some (lowest_crowded w); refused = refusal.ForwardFull (unwrap_or (lowest_crowded w) 0) (w.market.batches + 1) }

abbrev pub seal_checks : World → ℕ → List Check
seal_checks w t = moment_check w None t ∷ batch_empty_check w ∷ window_check w t ∷ forward_check w ∷ []

-- a record is sent on one link if it is due there, and nothing changes if not
abbrev pub SentIf : (due : Bool) → (n n' : Net Batch) → (k t : ℕ) → Batch → Type 0
SentIf true n n' k t b = Sent n n' k t b
SentIf false n n' k t b = n' ≡ n

-- a link to which a batch was sent at a moment if it is due, and else none
abbrev pub DealtLink : (due : Bool) → (given : Option ℕ) → (longest : ℕ) → (l l' : Link Batch) → ℕ → Batch → Type 0
DealtLink true given longest l l' t b = Added given longest l l' t b
DealtLink false given longest l l' t b = l' ≡ l

-- the batch was sent to each seat that it is due to, and nothing else of the network changed
pub record Dealt (due : ℕ → Bool) (n n' : Net Batch) (t : ℕ) (b : Batch) : Type 0 where
  pub links : (k : ℕ) → DealtLink (due k) (n.formula k 0 t) n.longest (n.links k) (n'.links k) t b
  pub capacity : n'.capacity ≡ n.capacity
  pub longest : n'.longest ≡ n.longest
  pub formula : (k i m : ℕ) → n'.formula k i m ≡ n.formula k (if due k then suc i else i) m

pub record Sealed (w : World) (t number : ℕ) (v : World) : Type 0 where
  pub numbered : number ≡ w.market.batches + 1
  pub net : Net Batch
  pub dealt : Dealt (due w.seats) w.forward net t (open_batch w.market)
  pub after : v ≡ record {
    times = w.times;
    last = t;
    market = sealed_once w.market t;
    seats = w.seats;
    buffer = w.buffer;
    points = w.points;
    tape = w.tape;
    forward = net;
    reverse = w.reverse;
    clock = w.clock;
  }

abbrev pub Seals : World → (t : ℕ) → Result ℕ Refusal → World → Type 0
Seals w t (Ok number) v = Passed (seal_checks w t) × Sealed w t number v
Seals w t (Err e) v = Refused (seal_checks w t) e × (v ≡ w)
