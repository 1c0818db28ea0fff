-- One link's ring: where its records lie in the caller's list, and how a send and a take change it.
use Rattle.std.specs.Prelude.{ℕ, ◌+◌, ◌-◌, ◌*◌, ◌/◌, ◌%◌, ◌≤◌, min, List, Some, None, slice_index_or}
use Rattle.std.specs.Option.{unwrap_or}
use Rattle.network.specs.Network.{limit}
use Rattle.network.specs.declared.ring.Ring.{Ring}

-- a ring has a sixteenth of the slots, rounded down, and 64 at most
abbrev pub ring_size : ℕ → ℕ
ring_size slots = min (slots / 16) 64

-- where the ith record from a ring's head lies
abbrev pub place : (size link head i : ℕ) → ℕ
place size link head i = link * size + (head + i) % size

-- an empty ring that has given no arrival
abbrev pub blank : Ring
blank = record { head = 0; count = 0; last = None }

-- a ring after one record more, which arrives at a
abbrev pub ring_sent : Ring → ℕ → Ring
ring_sent r a = record { head = r.head; count = r.count + 1; last = Some a }

-- a ring of a size without its oldest record
abbrev pub ring_taken : Ring → ℕ → Ring
ring_taken r size = record { head = (r.head + 1) % size; count = r.count - 1; last = r.last }

-- no ring counts more records than it has slots
abbrev pub Counted : List Ring → (size : ℕ) → Type 0
Counted rings size = (k : ℕ) → (slice_index_or rings k blank).count ≤ size

-- no last arrival is past the limit
abbrev pub Early : List Ring → Type 0
Early rings = (k : ℕ) → unwrap_or (slice_index_or rings k blank).last 0 ≤ limit
