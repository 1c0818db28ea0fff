-- How far the market data has come, and the open batch.
use Rattle.std.specs.Prelude.{ℕ, ◌+◌, ◌-◌, Bool, false, Some, None, nat_lt}
use Rattle.records.specs.declared.batch.Batch.{Batch}
use Rattle.records.specs.declared.market.Market.{Market}

-- no points yet
abbrev pub no_points : Market
no_points = record { points = 0; unsealed = 0; batches = 0; last_seal = None }

-- the market with one point more
abbrev pub one_point_more : Market → Market
one_point_more m = record { points = m.points + 1; unsealed = m.unsealed + 1; batches = m.batches; last_seal = m.last_seal }

-- the open batch: its number would be the next, and its points are the last ones
abbrev pub open_batch : Market → Batch
open_batch m = record { number = m.batches + 1; first = m.points - m.unsealed + 1; count = m.unsealed }

-- less than the window has passed since the last accepted seal
abbrev pub sealed_lately : Market → (window t : ℕ) → Bool
sealed_lately m window t = elim m.last_seal [ None ↦ false | Some s ↦ nat_lt (t - s) window ]

-- the market with the open batch sealed
abbrev pub sealed_once : Market → ℕ → Market
sealed_once m t = record { points = m.points; unsealed = 0; batches = m.batches + 1; last_seal = Some t }
