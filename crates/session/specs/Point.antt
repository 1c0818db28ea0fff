-- Point: a value becomes the next line of the caller's point list, and a point of the open batch.
use Rattle.std.specs.Prelude.{◌≡◌, ℕ, ◌+◌, ◌||◌, List, [], ◌∷◌, None, Ok, Err, Result, nat_le}
use Rattle.lines.specs.Pages.{Page, Written, full}
use Rattle.records.specs.declared.refusal.Refusal.{Refusal}
use Rattle.records.specs.declared.refusal.Refusal.TheVariants as refusal
use Rattle.records.specs.Checks.{Check, Passed, Refused}
use Rattle.records.specs.Market.{one_point_more}
use Rattle.session.specs.Checks.{moment_check}
use Rattle.session.specs.World.{World}

-- a batch has so many points at most, and a session so many
abbrev pub batch_room : ℕ
batch_room = 64

abbrev pub points_room : ℕ
points_room = 65536

-- 20: the open batch is full
abbrev pub batch_full_check : World → Check
batch_full_check w = record { fails = nat_le batch_room w.market.unsealed; refused = refusal.BatchFull }

-- 21: the point list is full, or there are as many points as there may be
abbrev pub points_check : World → Check
points_check w = record { fails = full w.points || nat_le points_room w.market.points; refused = refusal.PointsFull }

abbrev pub point_checks : World → ℕ → List Check
point_checks w t = moment_check w None t ∷ batch_full_check w ∷ points_check w ∷ []

pub record Pointed (w : World) (t value number : ℕ) (v : World) : Type 0 where
  pub numbered : number ≡ w.market.points + 1
  pub page : Page ℕ
  pub wrote : Written w.points (value ∷ []) page
  pub after : v ≡ record {
    times = w.times;
    last = t;
    market = one_point_more w.market;
    seats = w.seats;
    buffer = w.buffer;
    points = page;
    tape = w.tape;
    forward = w.forward;
    reverse = w.reverse;
    clock = w.clock;
  }

abbrev pub Points : World → (t value : ℕ) → Result ℕ Refusal → World → Type 0
Points w t value (Ok number) v = Passed (point_checks w t) × Pointed w t value number v
Points w t value (Err e) v = Refused (point_checks w t) e × (v ≡ w)
