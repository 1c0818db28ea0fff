-- The question settled: nothing is to come, and nothing waits.
use Rattle.std.specs.Prelude.{◌≡◌, ℕ, ◌<◌, Bool, true, List, [], length, slice_index_or}
use Rattle.records.specs.declared.seat.Seat.{Seat}
use Rattle.records.specs.declared.tag.Watermark.TheVariants.{Top}
use Rattle.records.specs.Seat.{blank}
use Rattle.session.specs.World.{World}

-- every seat's watermark is top
abbrev pub AllTop : List Seat → Type 0
AllTop seats = (k : ℕ) → k < length seats → (slice_index_or seats k blank).watermark ≡ Top

-- every seat's watermark is top, and the buffer is empty
pub record Settled (w : World) : Type 0 where
  pub ended : AllTop w.seats
  pub empty : w.buffer ≡ []

-- an answer is yes exactly when
pub record Says (answer : Bool) (what : Type 0) : Type 0 where
  pub rightly : answer ≡ true → what
  pub always : what → answer ≡ true
