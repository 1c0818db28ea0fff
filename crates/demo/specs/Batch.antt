-- How ticks are cut into batches.
use Rattle.std.specs.Prelude.{ℕ, ◌+◌, ◌-◌, if◌then◌else◌, List, length, take_while, Some, None, Option, nat_le}
use Rattle.demo.specs.declared.batch.Batch.{Batch}

-- how many ticks have come by a moment, of ticks in their order
abbrev pub come : List ℕ → ℕ → ℕ
come ticks at = length (take_while (λ t. nat_le t at) ticks)

-- the batch that leaves at a moment: the ticks that have come by then, after those done, if there are any
abbrev pub cut_of : List ℕ → (done number at : ℕ) → Option Batch
cut_of ticks done number at =
    if nat_le (come ticks at) done then None
    else Some (record { number = number; first = done + 1; count = come ticks at - done; sent = at })
